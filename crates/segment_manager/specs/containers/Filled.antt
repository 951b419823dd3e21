-- The construction of an object of any contents: its blocks are allocated, its value is written, and then its entry is
-- added, or all blocks are freed.
use Rattle.seg_types.specs.Names as names
use Rattle.std.specs.Prelude.{◌≡◌, ℕ, ℤ, ◌<◌, ◌^◌, ◌*◌, false, true, [], replicate, Option, Result, Ok, Err, IfErr}
use Rattle.seg_types.specs.Commands.{Command, Construct, Content, FindOrConstruct, Numbers}
use Rattle.segment_manager.specs.Answers.{Answer, Refused, is_untouched}
use Rattle.segment_manager.specs.Directory.{value_len, Value, Directory, count_of, is_good_value, kind_of}
use Rattle.segment_manager.specs.Plan.{Plan, bare, perform, with_value}
use Rattle.segment_manager.specs.objects.PendingObjects.{GivesAllBack, BeginsObjectOk, LeadsThere}
use Rattle.segment_manager.specs.State.{IsSegment, TakesStep, DenotesCurrent, SegmentState, handle_answer}
use Rattle.std.specs.Prelude.{MatchResult, IsTrue}
use Rattle.raw_region.specs.{Format.current, Memory.WindowState, Memory.bytes_of}
use Rattle.best_fit.specs.{Exchange.ExchangesBlocks, Extents.LiveSet, Heap.ChangesBytes, Heap.live_of}
use Rattle.best_fit.specs.declared.places.Place.{Place}
use Rattle.seg_types.specs.{declared.kinds.Kind.Kind, declared.kinds.Kind.TheVariants.Scalar}
use Rattle.seg_types.specs.{declared.kinds.ScalarKind.ScalarKind, declared.refusals.Refusal.Refusal, Kinds.size_of}
use Rattle.seg_types.specs.declared.refusals.Refusal.TheVariants.{NoSpace}
use Rattle.seg_vector.specs.Containers.{place_at}
use Rattle.segment_manager.specs.declared.objects.pending_object.PendingEntry.{PendingEntry}
use Rattle.segment_manager.specs.{declared.containers.fillings.ObjectShape.ObjectShape, declared.modes.Mode.Mode}
use Rattle.segment_manager.specs.{Denotes.IsValueAt, Directory.value_extents, objects.Found.found_object_answer}
use Rattle.segment_manager.specs.{Keeping.IsBoundKey, objects.NewObjects.RestoresBlocks, Step.is_read_only}

-- ---- the value

-- the properties of an object that are known before its block is allocated
pub record IsShapeOf (content : Content) (s : ObjectShape) : Type 0 where
  pub kind : s.kind ≡ kind_of (bare content)
  pub count : s.count ≡ count_of (bare content)
  pub len : s.len ≡ value_len (bare content)
  pub small : s.len < 2 ^ 40

-- the shape of an array of this many numbers of a kind
abbrev pub numbers_shape : ScalarKind → ℕ → ObjectShape
numbers_shape k count = record { kind = Scalar k; count = count; len = size_of k * count }

-- the shape of a container
abbrev pub container_shape : Kind → ObjectShape
container_shape kind = record { kind = kind; count = 1; len = 24 }

-- the blocks for contents after the object's own block, and the value with them
pub record IsGiven (d : Directory) (l : LiveSet) (content : Content) (v : Value) (left : LiveSet) : Type 0 where
  pub met : (next : Value → Plan) → perform d l (with_value content next) ≡ perform d left (next v)

-- a block for the contents has no fit
abbrev pub IsDenied : Directory → LiveSet → Content → Type 0
IsDenied d l content = (next : Value → Plan) → perform d l (with_value content next) ≡ (Refused NoSpace, d)

-- The bytes at the place were written, and the value was made with the blocks for its contents.
pub record MakesValueOk (content : Content) (old new : WindowState) (p : Place) : Type 0 where
  pub empty : WindowState
  pub change : ChangesBytes current old empty (place_at p) (value_len (bare content))
  pub value : Value
  pub is_kind : kind_of value ≡ kind_of (bare content)
  pub len : value_len value ≡ value_len (bare content)
  pub count : count_of value ≡ count_of (bare content)
  pub good : IsTrue (is_good_value value)
  pub left : LiveSet
  pub given : (d : Directory) → IsGiven d (live_of empty.bytes) content value left
  pub storage : ExchangesBlocks current empty new (place_at p) (value_len (bare content)) [] (value_extents value)
  pub said : IsValueAt (bytes_of new.bytes) (place_at p) value

-- the value was not made, and the blocks allocated for it were freed
pub record MakesValueErr (content : Content) (old new : WindowState) (p : Place) (why : Refusal) : Type 0 where
  pub empty : WindowState
  pub change : ChangesBytes current old empty (place_at p) (value_len (bare content))
  pub restored : RestoresBlocks empty new
  pub denied : (d : Directory) → IsDenied d (live_of empty.bytes) content
  pub refusal : why ≡ NoSpace

-- the value of a new object is made with its storage, or the blocks allocated for it are freed
abbrev pub MakesValue : Content → WindowState → WindowState → Place → Result (Unit {0}) Refusal → Type 0
MakesValue content old new p result =
    MatchResult result (λ u. MakesValueOk content old new p) (MakesValueErr content old new p)

-- ---- in a pending object

-- an object for these contents is pending under the key
abbrev pub BeginsObjectFor : WindowState → WindowState → names.Key → Content → ℕ → ℕ → Option PendingEntry → Type 0
BeginsObjectFor old now key content h at entry =
    BeginsObjectOk old now key (kind_of (bare content)) (count_of (bare content)) (value_len (bare content)) h at entry

-- an object for these contents is pending in a segment, and has no entry yet
abbrev pub HasBegun : WindowState → Content → ℕ → ℕ → Option PendingEntry → Type 0
HasBegun now content h at entry =
    (old : WindowState) × (IsSegment old.bytes × ((key : names.Key) × BeginsObjectFor old now key content h at entry))

-- the object's value is made, and an entry leads to it if it is to have one
pub record FillsObjectOk (now new : WindowState) (h at : ℕ) (entry : Option PendingEntry) (content : Content)
    (handle : ℕ) : Type 0 where
  pub made : WindowState
  pub value : MakesValueOk content now made (record { handle = h; at = at })
  pub is : handle ≡ h
  pub entered : LeadsThere made new h entry

-- the object's value is not made, and all its blocks are freed
pub record FillsObjectErr (now new : WindowState) (h at : ℕ) (entry : Option PendingEntry) (content : Content)
    (why : Refusal) : Type 0 where
  pub left : WindowState
  pub none : MakesValueErr content now left (record { handle = h; at = at }) why
  pub back : GivesAllBack left new h entry

-- the value of a pending object is made and its entry added, or all its blocks are freed
abbrev pub FillsObject : WindowState → WindowState → ℕ → ℕ → Option PendingEntry → Content → Result ℕ Refusal → Type 0
FillsObject now new h at entry content result =
    MatchResult result (FillsObjectOk now new h at entry content) (FillsObjectErr now new h at entry content)

-- ---- a construction

-- A construction on the heap of a segment that is open for writing: it is one step, and if it fails before it allocates
-- a block, nothing changes.
pub record Constructs {A : Type 0} (old new : WindowState) (command : Command) (answer : Result A Refusal → Answer)
    (result : Result A Refusal) : Type 0 where
  pub step : (mode : Mode) → is_read_only mode ≡ false
      → TakesStep (record { cut = old; mode = mode }) (record { cut = new; mode = mode }) command (answer result)
  pub refused : IfErr result (λ why. is_untouched (Refused why) ≡ true → new ≡ old)

-- the object of the key is found, and nothing changes; or it is constructed
pub record FindsOrConstructs (old new : WindowState) (key : names.Key) (content : Content)
    (result : Result (ℕ × ℕ) Refusal) : Type 0 where
  pub constructs : Constructs old new (FindOrConstruct key content) found_object_answer result
  pub found : (d : Directory) → DenotesCurrent old.bytes d → IsBoundKey key d → new ≡ old

-- a handle with the count of its object
abbrev pub with_count : ℕ → Result ℕ Refusal → Result (ℕ × ℕ) Refusal
with_count n (Ok h) = Ok (h, n)
with_count n (Err why) = Err why

-- ---- as calls on a segment

-- an object with these contents is constructed under the key
abbrev pub ConstructsObject : SegmentState → SegmentState → names.Key → Content → Result ℕ Refusal → Type 0
ConstructsObject old new key content result = TakesStep old new (Construct key content) (handle_answer result)

-- the object of the key is found, or constructed
abbrev pub FindsOrMakes : SegmentState → SegmentState → names.Key → Content → Result (ℕ × ℕ) Refusal → Type 0
FindsOrMakes old new key content result = TakesStep old new (FindOrConstruct key content) (found_object_answer result)

-- the contents of an array of this many equal numbers
abbrev pub equal_numbers : ScalarKind → ℕ → ℤ → Content
equal_numbers k count z = Numbers k (replicate count z)
