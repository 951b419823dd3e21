-- The items that a construction takes from an iterator.
use Rattle.std.specs.Prelude.{◌≡◌, ◌⊎◌, ℕ, ◌<◌, ℤ, true, false, None, Some, Option, Result, Ok, Err, IfErr, IfOk}
use Rattle.std.specs.Prelude.{MatchResult, List, [], length, map, option_map, ⊤}
use Rattle.raw_region.specs.Memory.{WindowState}
use Rattle.std.specs.Iterator.{Yields, YieldsThen}
use Rattle.seg_types.specs.{declared.kinds.ScalarKind.ScalarKind, declared.refusals.Refusal.Refusal}
use Rattle.seg_types.specs.{declared.kinds.Kind.TheVariants.Scalar, Names.Key, Commands.ConstructIt}
use Rattle.seg_types.specs.declared.refusals.Refusal.TheVariants.{NoSpace, OutOfRange, ReadOnly}
use Rattle.segment_manager.specs.Directory.{Directory, object_at}
use Rattle.segment_manager.specs.{objects.Standing.pair_of_kind, declared.modes.Mode.Mode, Step.is_read_only}
use Rattle.segment_manager.specs.State.{AnswersWith, TakesStep, DenotesCurrent, SegmentState, handle_answer}

-- Too few items came, or the call failed before it took one.
abbrev pub TakesUntil : {S A : Type 0} → (S → Option A → S → Type 0) → ℕ → S → List A → S → Refusal → Type 0
TakesUntil gives count before xs after OutOfRange = YieldsThen gives before xs None after × (length xs < count)
TakesUntil gives count before xs after why = (xs ≡ []) × (after ≡ before)

-- Nothing changed, except bytes of gaps after `NoSpace`, where blocks were allocated and freed again.
abbrev pub KeepsUnasked : SegmentState → SegmentState → Refusal → Type 0
KeepsUnasked old new NoSpace = ⊤
KeepsUnasked old new OutOfRange = ⊤
KeepsUnasked old new why = new ≡ old

-- The call is the step of the items that it took, as whole numbers: `count` of them, or fewer if no more came. With any
-- other error it took none.
pub record ConstructsFromItems {S A : Type 0} (gives : S → Option A → S → Type 0) (whole : A
    → ℤ) (old new : SegmentState) (key : Key)
    (k : ScalarKind) (count : ℕ) (before after : S) (result : Result ℕ Refusal) : Type 0 where
  pub items : List A
  pub step : TakesStep old new (ConstructIt key k count (map whole items)) (handle_answer result)
  pub taken : MatchResult result (λ h. Yields gives before items after × (length items ≡ count))
      (TakesUntil gives count before items after)
  pub unchanged : IfErr result (KeepsUnasked old new)

-- items are taken, on the heap of a segment that is open for writing
abbrev pub TakesItemsIn : {S A : Type 0} → (S → Option A → S → Type 0)
    → (A → ℤ) → WindowState → WindowState → Key → ScalarKind → ℕ → S → S → Result ℕ Refusal → Type 0
TakesItemsIn gives whole old new key k count before after result = (mode : Mode) → is_read_only mode ≡ false
    → ConstructsFromItems gives whole (record { cut = old; mode = mode }) (record { cut = new; mode = mode }) key k
    count before after result

-- ---- found, or made of items

-- the result for an object that exists: its handle and its number of scalars, or WrongKind
abbrev pub found_at : ScalarKind → Key → Directory → Option (Result (ℕ × ℕ) Refusal)
found_at k key d = option_map (λ o. pair_of_kind o (Scalar k)) (object_at d key)

abbrev pub handle_in : Result (ℕ × ℕ) Refusal → Result ℕ Refusal
handle_in (Ok (h, n)) = Ok h
handle_in (Err why) = Err why

-- Nothing changes, and no item is taken.
pub record StaysUntaken {S : Type 0} (old new : SegmentState) (before after : S) : Type 0 where
  pub segment : new ≡ old
  pub items : after ≡ before

-- the segment is open for reading
pub record RefusesReadOnly {S : Type 0} (old new : SegmentState) (before after : S) (result : Result (ℕ
    × ℕ) Refusal) : Type 0 where
  pub reading : is_read_only old.mode ≡ true
  pub is : result ≡ Err ReadOnly
  pub stays : StaysUntaken old new before after

-- an object has the key
pub record FindsExisting {S : Type 0} (old new : SegmentState) (key : Key) (k : ScalarKind) (before after : S)
    (result : Result (ℕ × ℕ) Refusal) : Type 0 where
  pub writing : is_read_only old.mode ≡ false
  pub is : AnswersWith old (found_at k key) (Some result)
  pub stays : StaysUntaken old new before after

-- no object has the key, and an array is made of items
pub record ConstructsFromItemsOk {S A : Type 0} (gives : S → Option A → S → Type 0) (whole : A
    → ℤ) (old new : SegmentState) (key : Key)
    (k : ScalarKind) (count : ℕ) (before after : S) (result : Result (ℕ × ℕ) Refusal) : Type 0 where
  pub writing : is_read_only old.mode ≡ false
  pub missing : (d : Directory) → DenotesCurrent old.cut.bytes d → object_at d key ≡ None
  pub takes : ConstructsFromItems gives whole old new key k count before after (handle_in result)
  pub counted : IfOk result (λ (h, n). n ≡ count)

-- the object of a key is found, or an array is made of items, or the segment is open for reading
abbrev pub FindsOrTakes : {S A : Type 0} → (S → Option A → S → Type 0)
    → (A → ℤ) → SegmentState → SegmentState → Key → ScalarKind → ℕ → S → S → Result (ℕ × ℕ) Refusal → Type 0
FindsOrTakes gives whole old new key k count before after result =
    RefusesReadOnly old new before after result ⊎ (FindsExisting old new key k before after result
    ⊎ ConstructsFromItemsOk gives whole old new key k count before after result)

-- an object is found or an array made of items, on the heap of a segment that is open for writing
abbrev pub FindsOrTakesIn : {S A : Type 0} → (S → Option A → S → Type 0)
    → (A → ℤ) → WindowState → WindowState → Key → ScalarKind → ℕ → S → S → Result (ℕ × ℕ) Refusal → Type 0
FindsOrTakesIn gives whole old new key k count before after result = (mode : Mode) → is_read_only mode ≡ false
    → FindsOrTakes gives whole (record { cut = old; mode = mode }) (record { cut = new; mode = mode }) key k count
    before after result
