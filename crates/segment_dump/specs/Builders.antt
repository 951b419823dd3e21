-- The promises of the calls that build a segment from a text.
use Rattle.seg_types.specs.declared.kinds.Kind.TheVariants as kinds
use Rattle.seg_types.specs.Commands as asked
use Rattle.std.specs.Prelude.{◌≡◌, ℕ, ◌+◌, ◌<◌, ◌≤◌, ℤ, pos, true, false, List, [], ◌∷◌, ◌++◌, Some, Result, Ok, length}
use Rattle.std.specs.{Prelude.replicate, Prelude.take, List.AllByRecursion}
use Rattle.seg_types.specs.{declared.kinds.Class.Class, declared.kinds.Kind.Kind, declared.kinds.ScalarKind.ScalarKind}
use Rattle.seg_types.specs.{Commands.Content as Asked, Kinds.is_value, Names.Key, Values.scalar_of}
use Rattle.seg_types.specs.declared.kinds.Class.TheVariants.{Anonymous, Named, Unique}
use Rattle.seg_types.specs.declared.values.ScalarValue.{ScalarValue}
use Rattle.best_fit.specs.Table.{BackingArray}
use Rattle.segment_manager.specs.{Directory.Bytes, Plan.bare, objects.Found.is_object_at, objects.Located.IsObject}
use Rattle.segment_manager.specs.{State.AnswersWith, State.IsSegment, State.SegmentState, Parts.parts_until}
use Rattle.segment_manager.specs.Step.{is_read_only}
use Rattle.segment_manager.specs.declared.objects.object_ref.Object.{Object as Located}
use Rattle.seg_types.specs.Texts.{class_text, name_text, quoted_text}
use Rattle.segment_lang.specs.{Tokens.next_token, Lexing.Bare}
use Rattle.segment_dump.specs.{declared.building.ObjectLine.ObjectLine, Building.measure_tokens}
use Rattle.segment_dump.specs.Building.{AreNew, IsRest, Site, count_class, has_item_key, head_tokens, item_key}
use Rattle.segment_dump.specs.Filling.{IsByteList, FillState, FillsAt, IsBuildable, IsBuildableContent, IsCounted}
use Rattle.segment_dump.specs.Filling.{IsTypedPair, StandsBuilt, StandsFilling, filled_item, head_of}
use Rattle.segment_dump.specs.Items.{ValueContent, DumpItem, count_of_content, kind_of_content}
use Rattle.segment_dump.specs.Need.{all_needs, elements_room, item_needs, texts_needs}
use Rattle.segment_dump.specs.Texts.{content_text, element_line, end_text, items_text, pair_line, piece_lead}
use Rattle.segment_dump.specs.Texts.{piece_line, piece_of, pieces_text, text_lines}

-- ---- lines of elements

-- a scalar of a kind is read from its line in a dump
pub record ReadsElement {E : Type 0} (kind : ScalarKind) (text rest : List ℕ) (result : Result ScalarValue E) : Type
    0 where
  pub reads : (z : ℤ) (a : List ℕ) → is_value kind z ≡ true → text ≡ element_line kind z ++ a
      → (result ≡ Ok (scalar_of kind z)) × (rest ≡ a)

-- a key and a value are read from their line in a dump
pub record ReadsPair {E : Type 0} (k w : ScalarKind) (text rest : List ℕ) (result : Result (ScalarValue
    × ScalarValue) E) : Type 0 where
  pub reads : (p : ℤ × ℤ) (a : List ℕ) → IsTypedPair k w p → text ≡ pair_line k w p ++ a
      → (result ≡ Ok (scalar_of k p.0, scalar_of w p.1)) × (rest ≡ a)

-- ---- objects that are filled

-- in a segment that can be written, an object has the handle
pub record HasObjectAt (s : SegmentState) (h : ℕ) : Type 0 where
  pub segment : IsSegment s.cut.bytes
  pub object : AnswersWith s (λ d. is_object_at d h) true
  pub writing : is_read_only s.mode ≡ false

-- an object that was located is there, in a segment that can be written
pub record HasLocatedObject (s : SegmentState) (o : Located) : Type 0 where
  pub segment : IsSegment s.cut.bytes
  pub object : IsObject o s
  pub writing : is_read_only s.mode ≡ false

-- all elements are there
pub record IsFilled (s : SegmentState) (text : List ℕ) (p : FillState) : Type 0 where
  pub stands : StandsBuilt s p.site (p.done ++ filled_item p ∷ []) p.more
  pub text_is : text ≡ p.after

-- a content that can be made, of a kind, with room for its texts
pub record IsFillable (p : FillState) (kind : Kind) (room : ℕ) : Type 0 where
  pub kind_is : kind_of_content p.content ≡ kind
  pub good : IsBuildableContent p.content
  pub rest : IsRest p.more
  pub longest : (texts_needs p.content).longest ≤ room

-- one more element comes from its lines
pub record AddsElement {E : Type 0} (old new : SegmentState) (h : ℕ) (kind : Kind) (n : ℕ) (text rest : List ℕ)
    (room : ℕ) (result : Result (Unit {0}) E) : Type 0 where
  pub adds : (p : FillState) → IsFillable p kind room → n < count_of_content p.content → FillsAt old text p h n
      → (result ≡ Ok tt) × FillsAt new rest p h (n + 1)

-- all of them
pub record FillsElements {E : Type 0} (old new : SegmentState) (h : ℕ) (kind : Kind) (count : ℕ)
    (text rest : List ℕ) (room : ℕ) (result : Result (Unit {0}) E) : Type 0 where
  pub fills : (p : FillState) → IsFillable p kind room → count ≡ count_of_content p.content → FillsAt old text p h 0
      → (result ≡ Ok tt) × IsFilled new rest p

-- the first contents of an object: zeros, or nothing yet
abbrev pub first_content : Kind → ℕ → Asked
first_content (kinds.Scalar k) n = asked.Numbers k (replicate n (pos 0))
first_content kinds.String n = asked.Bytes []
first_content (kinds.Vector k) n = asked.Elements k []
first_content (kinds.Map k v) n = asked.NoPairs k v
first_content kinds.Strings n = asked.Strings []

-- the bytes that its elements need
abbrev pub content_need : ValueContent → ℕ
content_need c = elements_room (kind_of_content c) (count_of_content c) + (texts_needs c).room

-- an object is there with nothing in it, and its lines follow
pub record IsEmptyObject (s : SegmentState) (text : List ℕ) (p : FillState) (h : ℕ) : Type 0 where
  pub stands : StandsFilling s p.site p.done (head_of p h)
      (bare (first_content (kind_of_content p.content) (count_of_content p.content))) (content_need p.content + p.more)
  pub text_is : text ≡ content_text p.content ++ p.after

-- all elements of a new object are filled from the lines of a dump
pub record FillsNew {E : Type 0} (old new : SegmentState) (h : ℕ) (kind : Kind) (count : ℕ) (text rest : List ℕ)
    (room : ℕ) (result : Result (Unit {0}) E) : Type 0 where
  pub fills : (p : FillState) → IsFillable p kind room → count ≡ count_of_content p.content
      → IsEmptyObject old text p h → (result ≡ Ok tt) × IsFilled new rest p

-- ---- objects that are made

-- an index has a place for one more
abbrev pub HasIndexSlot : Site → List DumpItem → Class → Type 0
HasIndexSlot site done Named = count_class Named done < site.named
HasIndexSlot site done Unique = count_class Unique done < site.unique
HasIndexSlot site done Anonymous = Unit {0}

-- the next item can be made
pub record CanBuildItem (s : SegmentState) (site : Site) (done : List DumpItem) (i : DumpItem) (more room : ℕ) :
    Type 0 where
  pub stands : StandsBuilt s site done ((item_needs i).room + more)
  pub rest : IsRest more
  pub good : IsBuildable i
  pub new : AllByRecursion (λ j. has_item_key (item_key i) j ≡ false) done
  pub place : HasIndexSlot site done i.class
  pub longest : (texts_needs i.content).longest ≤ room

-- an object is made, with nothing in it
pub record IsStarted {E : Type 0} (s : SegmentState) (site : Site) (done : List DumpItem) (i : DumpItem) (more : ℕ)
    (result : Result (ℕ × ObjectLine) E) : Type 0 where
  pub handle : ℕ
  pub at : ℕ
  pub is : result ≡ Ok (
    handle,
    record {
      kind = kind_of_content i.content;
      count = count_of_content i.content;
      at = at;
    },
  )
  pub stands : StandsFilling s site done (record { class = i.class; name = i.name; handle = handle })
      (bare (first_content (kind_of_content i.content) (count_of_content i.content))) (content_need i.content + more)

-- an object of a kind can have this many elements
abbrev pub IsCountOf : Kind → ℕ → Type 0
IsCountOf (kinds.Scalar k) n = (1 ≤ n) × (n ≤ 1048576)
IsCountOf kinds.String n = Unit {0}
IsCountOf (kinds.Vector k) n = Unit {0}
IsCountOf (kinds.Map k v) n = Unit {0}
IsCountOf kinds.Strings n = Unit {0}

-- vectors, whose places are reserved
abbrev pub IsVectorKind : Kind → Type 0
IsVectorKind (kinds.Scalar k) = ⊥
IsVectorKind kinds.String = ⊥
IsVectorKind (kinds.Vector k) = Unit {0}
IsVectorKind (kinds.Map k v) = ⊥
IsVectorKind kinds.Strings = Unit {0}

-- a class comes next
pub record ReadsClass {E : Type 0} (text rest : List ℕ) (result : Result Class E) : Type 0 where
  pub reads : (c : Class) (a : List ℕ) → next_token text ≡ Some (Bare (class_text c), a) → (result ≡ Ok c) × (rest ≡ a)

-- a kind and a count come next, and no more
pub record ReadsKindAndCount {E : Type 0} (text : List ℕ) (result : Result ObjectLine E) : Type 0 where
  pub reads : (kind : Kind) (n : ℕ) → IsCounted n → text ≡ 0x20 ∷ measure_tokens kind n
      → (at : ℕ) × (result ≡ Ok (record { kind = kind; count = n; at = at }))

-- nothing is left
pub record AcceptsEnd {E : Type 0} (text : List ℕ) (result : Result (Unit {0}) E) : Type 0 where
  pub gone : text ≡ [] → result ≡ Ok tt

-- after the words in front of its kind
pub record StartsUnder {E : Type 0} (old new : SegmentState) (key : Kind
    → Key) (tokens : List ℕ) (result : Result (ℕ × ObjectLine) E) : Type 0 where
  pub starts : (site : Site) (done : List DumpItem) (i : DumpItem) (more room : ℕ)
      → CanBuildItem old site done i more room → key (kind_of_content i.content) ≡ item_key i → tokens ≡ 0x20
      ∷ measure_tokens (kind_of_content i.content) (count_of_content i.content) → IsStarted new site done i more result

-- after the word of its class
pub record StartsNamed {E : Type 0} (old new : SegmentState) (tokens : List ℕ) (result : Result (ℕ × ObjectLine) E) :
    Type 0 where
  pub starts : (site : Site) (done : List DumpItem) (i : DumpItem) (more room : ℕ)
      → CanBuildItem old site done i more room → i.class ≡ Named → tokens
      ≡ 0x20 ∷ (name_text i.name ++ 0x20 ∷ measure_tokens (kind_of_content i.content) (count_of_content i.content))
      → IsStarted new site done i more result

-- by all words of its line
pub record StartsNext {E : Type 0} (old new : SegmentState) (tokens : List ℕ) (result : Result (ℕ × ObjectLine) E) :
    Type 0 where
  pub starts : (site : Site) (done : List DumpItem) (i : DumpItem) (more room : ℕ)
      → CanBuildItem old site done i more room → tokens ≡ head_tokens i → IsStarted new site done i more result

-- an object is made of its lines
pub record BuildsObject {E : Type 0} (old new : SegmentState) (tokens text rest : List ℕ) (room : ℕ)
    (result : Result (Unit {0}) E) : Type 0 where
  pub builds : (site : Site) (done : List DumpItem) (i : DumpItem) (more : ℕ) (a : List ℕ)
      → CanBuildItem old site done i more room → tokens ≡ head_tokens i → text ≡ content_text i.content ++ a
      → (result ≡ Ok tt) × StandsBuilt new site (done ++ i ∷ []) more × (rest ≡ a)

-- ---- all objects

-- these objects are still to be made
pub record AreLeft (site : Site) (room : ℕ) (done items : List DumpItem) : Type 0 where
  pub good : AllByRecursion IsBuildable items
  pub new : AreNew done items
  pub named : count_class Named (done ++ items) ≤ site.named
  pub unique : count_class Unique (done ++ items) ≤ site.unique
  pub longest : (all_needs item_needs items).longest ≤ room

-- their lines follow, and the line `end`
pub record IsAtItems (s : SegmentState) (text : List ℕ) (site : Site) (done items : List DumpItem) : Type 0 where
  pub stands : StandsBuilt s site done (all_needs item_needs items).room
  pub text_is : text ≡ items_text items ++ end_text

-- all items whose lines follow are made, up to the line `end`
pub record BuildsAllObjects {E : Type 0} (old new : SegmentState) (text : List ℕ) (most room : ℕ)
    (result : Result (Unit {0}) E) : Type 0 where
  pub builds : (site : Site) (items : List DumpItem) → IsAtItems old text site [] items → AreLeft site room [] items
      → length text ≤ most → (result ≡ Ok tt) × StandsBuilt new site items 0

-- ---- texts

-- this many pieces were read, and this is left of a text's lines and of what follows
abbrev pub PiecesLeft : List ℕ → List ℕ → ℕ → List ℕ → Type 0
PiecesLeft bs a n rest = parts_until (piece_line bs) n ++ rest ≡ pieces_text bs ++ a

-- the piece that is alone in a line, after what leads it
pub record ReadsPiece {E : Type 0} (tokens : List ℕ) (result : Result (List ℕ) E) : Type 0 where
  pub reads : (i : ℕ) (bs : List ℕ) → IsByteList bs → tokens ≡ piece_lead i ++ quoted_text bs → result ≡ Ok bs

-- the length of a text; its first piece follows
pub record ReadsLength {E : Type 0} (text rest : List ℕ) (result : Result (List ℕ × ℕ) E) : Type 0 where
  pub reads : (bs a : List ℕ) → IsCounted (length bs) → text ≡ text_lines bs ++ a
      → (result ≡ Ok (piece_lead 0 ++ quoted_text (piece_of bs 0), length bs)) × PiecesLeft bs a 1 rest

-- a piece goes after this many bytes of the room
pub record CopiesPiece {E : Type 0} (tokens old new : List ℕ) (from : ℕ) (result : Result ℕ E) : Type 0 where
  pub copies : (i : ℕ) (bs : List ℕ) → IsByteList bs → tokens ≡ piece_lead i ++ quoted_text bs → from
      + length bs ≤ length old → (result ≡ Ok (from + length bs)) × (take (from + length bs) new ≡ take from old ++ bs)

-- a text is collected in the front of the room
pub record Collects {E : Type 0} (text rest old new : List ℕ) (result : Result ℕ E) : Type 0 where
  pub collects : (bs a : List ℕ) → IsByteList bs → IsCounted (length bs) → length bs ≤ length old
      → text ≡ text_lines bs ++ a → (result ≡ Ok (length bs)) × (take (length bs) new ≡ bs) × (rest ≡ a)

-- a piece goes after the bytes of a string, which has places for it
pub record AppendsPiece {E : Type 0} (old new : SegmentState) (h : ℕ) (tokens : List ℕ)
    (result : Result (Unit {0}) E) : Type 0 where
  pub appends : (site : Site) (done : List DumpItem) (class : Class) (name prefix : List ℕ) (t : BackingArray)
      (rest i : ℕ) (bs : List ℕ) → StandsFilling old site done (record { class = class; name = name; handle = h })
      (Bytes prefix t) rest → IsByteList bs → tokens ≡ piece_lead i ++ quoted_text bs → length (prefix ++ bs) ≤
      t.capacity
      → (result ≡ Ok tt) × StandsFilling new site done (record { class = class; name = name; handle = h })
      (Bytes (prefix ++ bs) t) rest
