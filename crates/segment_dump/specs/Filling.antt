-- An object during its filling: its contents so far, and the rest of the text and of the room.
use Rattle.std.specs.Prelude.{◌≡◌, ℕ, ◌+◌, ◌*◌, ◌^◌, ◌<◌, ◌≤◌, ℤ, pos, ⊤, true, int_lt, List, [], ◌∷◌, ◌++◌, length}
use Rattle.std.specs.{Prelude.map, Prelude.replicate, Prelude.flat_map, List.AllByRecursion}
use Rattle.best_fit.specs.Table.{BackingArray}
use Rattle.raw_region.specs.Format.{current}
use Rattle.seg_types.specs.{declared.kinds.Class.Class, Kinds.is_value, Kinds.size_of, Names.is_name}
use Rattle.seg_types.specs.declared.kinds.Class.TheVariants.{Anonymous, Named, Unique}
use Rattle.seg_types.specs.declared.kinds.ScalarKind.{ScalarKind}
use Rattle.seg_map.specs.{Map.node_len, Numbers.NumberPair, Places.item_of}
use Rattle.seg_vector.specs.Vector.{OwnedText}
use Rattle.segment_manager.specs.{declared.modes.Mode.TheVariants.Write, State.SegmentState, State.DenotesCurrent}
use Rattle.segment_manager.specs.Directory.{Directory, Elements, Numbers, Pairs, Texts, Value}
use Rattle.segment_dump.specs.Building.{Head, HasBuiltItems, IsFilling, Site}
use Rattle.segment_dump.specs.Items.{ValueContent, DumpItem, Map, Scalars, String, Strings, Vector, bytes_in}
use Rattle.segment_dump.specs.Need.{all_needs, block_room, text_needs}
use Rattle.segment_dump.specs.Texts.{element_line, pair_line, text_lines}

-- ---- what can be made

-- all numbers are values of a scalar kind
abbrev pub AreValues : ScalarKind → List ℤ → Type 0
AreValues k = AllByRecursion (λ z. is_value k z ≡ true)

-- each number of the list is below 256
abbrev pub IsByteList : List ℕ → Type 0
IsByteList = AllByRecursion (λ b. b < 256)

-- key and value are values of their kinds
abbrev pub IsTypedPair : ScalarKind → ScalarKind → ℤ × ℤ → Type 0
IsTypedPair k v p = (is_value k p.0 ≡ true) × (is_value v p.1 ≡ true)

-- each key is less than all after it
abbrev pub AreRising : List (ℤ × ℤ) → Type 0
AreRising [] = ⊤
AreRising (p ∷ ps) = AllByRecursion (λ (q : ℤ × ℤ). int_lt p.0 q.0 ≡ true) ps × AreRising ps

-- a number that can be read
abbrev pub IsCounted : ℕ → Type 0
IsCounted n = n < 2 ^ 64

-- an object can be made with the content
abbrev pub IsBuildableContent : ValueContent → Type 0
IsBuildableContent (Scalars k zs) = (1 ≤ length zs) × (length zs ≤ 1048576) × AreValues k zs
IsBuildableContent (Vector k zs) = IsCounted (length zs) × AreValues k zs
IsBuildableContent (String bs) = IsCounted (length bs) × IsByteList bs
IsBuildableContent (Map k v ps) = IsCounted (length ps) × AllByRecursion (IsTypedPair k v) ps × AreRising ps
IsBuildableContent (Strings ts) =
    IsCounted (length ts) × AllByRecursion (λ (bs : List ℕ). IsCounted (length bs) × IsByteList bs) ts

-- an object of the class can have the name
abbrev pub IsNameIn : Class → List ℕ → Type 0
IsNameIn Named name = (is_name current name ≡ true) × IsByteList name × (length name ≤ 255)
IsNameIn Unique name = name ≡ []
IsNameIn Anonymous name = name ≡ []

-- an object can be made of the item
pub record IsBuildable (i : DumpItem) : Type 0 where
  pub name : IsNameIn i.class i.name
  pub content : IsBuildableContent i.content

-- ---- the segment

-- the segment is open for writing, and its bytes denote a directory with these objects so far
pub record StandsBuilt (s : SegmentState) (site : Site) (done : List DumpItem) (rest : ℕ) : Type 0 where
  pub directory : Directory
  pub stands : DenotesCurrent s.cut.bytes directory
  pub mode : s.mode ≡ Write
  pub built : HasBuiltItems directory site done rest

-- the segment has these objects so far, and one object during its filling
pub record StandsFilling (s : SegmentState) (site : Site) (done : List DumpItem) (head : Head) (v : Value)
    (rest : ℕ) : Type 0 where
  pub directory : Directory
  pub stands : DenotesCurrent s.cut.bytes directory
  pub mode : s.mode ≡ Write
  pub filling : IsFilling directory site done head v rest

-- ---- this many elements of a content: the value, what is left of the text, and the bytes that the others need

-- how a content is filled: what its elements are of those in the segment, the value that has some and lacks the others,
-- the lines of one, and the bytes that the others need
pub record FillCourse (X Y : Type 0) : Type 0 where
  pub items : List X → List Y
  pub value : List X → List Y → Value
  pub line : Y → List ℕ
  pub need : List Y → ℕ

-- the value has the first n elements, and the lines of the others and the bytes that they need are left
pub record HasFirstElements {X Y : Type 0} (way : FillCourse X Y) (all : List Y) (n : ℕ) (v : Value) (text : List ℕ)
    (need : ℕ) : Type 0 where
  pub prefix : List X
  pub back : List Y
  pub all_are : all ≡ way.items prefix ++ back
  pub many : n ≡ length prefix
  pub value_is : v ≡ way.value prefix back
  pub text_is : text ≡ flat_map way.line back
  pub need_is : need ≡ way.need back

-- an array, whose other elements are zeros
abbrev pub array_course : ScalarKind → FillCourse ℤ ℤ
array_course k = record {
  items = λ prefix. prefix;
  value = λ prefix back. Numbers k (prefix ++ replicate (length back) (pos 0));
  line = element_line k;
  need = λ back. 0;
}

-- a vector, with its places
abbrev pub vector_course : ScalarKind → BackingArray → FillCourse ℤ ℤ
vector_course k t = record {
  items = λ prefix. prefix;
  value = λ prefix back. Elements k prefix t;
  line = element_line k;
  need = λ back. 0;
}

abbrev pub map_course : ScalarKind → ScalarKind → FillCourse NumberPair (ℤ × ℤ)
map_course k w = record {
  items = map item_of;
  value = λ prefix back. Pairs k w prefix;
  line = pair_line k w;
  need = λ back. length back * block_room (node_len (size_of k) (size_of w));
}

abbrev pub strings_course : BackingArray → FillCourse OwnedText (List ℕ)
strings_course t = record {
  items = map bytes_in;
  value = λ prefix back. Texts prefix t;
  line = text_lines;
  need = λ back. (all_needs text_needs back).room;
}

-- the value has capacity for exactly all elements
pub record HasReservedSlots {X Y : Type 0} (way : BackingArray → FillCourse X Y) (all : List Y) (n : ℕ) (v : Value)
    (text : List ℕ) (need : ℕ) : Type 0 where
  pub table : BackingArray
  pub slots : table.capacity ≡ length all
  pub part : HasFirstElements (way table) all n v text need

-- a value has the first elements of a content, and these lines are left
abbrev pub IsPartialValue : ValueContent → ℕ → Value → List ℕ → ℕ → Type 0
IsPartialValue (Scalars k zs) = HasFirstElements (array_course k) zs
IsPartialValue (Vector k zs) = HasReservedSlots (vector_course k) zs
IsPartialValue (String bs) = λ n v text need. ⊥
IsPartialValue (Map k w ps) = HasFirstElements (map_course k w) ps
IsPartialValue (Strings ts) = HasReservedSlots strings_course ts

-- the contents to fill, the needs of the objects after it, and the text after it
pub record FillState : Type 0 where
  pub site : Site
  pub done : List DumpItem
  pub class : Class
  pub name : List ℕ
  pub content : ValueContent
  pub more : ℕ
  pub after : List ℕ

abbrev pub head_of : FillState → ℕ → Head
head_of p h = record { class = p.class; name = p.name; handle = h }

abbrev pub filled_item : FillState → DumpItem
filled_item p = record { class = p.class; name = p.name; content = p.content }

-- the object has this many elements so far
pub record FillsAt (s : SegmentState) (text : List ℕ) (p : FillState) (h n : ℕ) : Type 0 where
  pub value : Value
  pub left : List ℕ
  pub need : ℕ
  pub part : IsPartialValue p.content n value left need
  pub stands : StandsFilling s p.site p.done (head_of p h) value (need + p.more)
  pub text_is : text ≡ left ++ p.after
