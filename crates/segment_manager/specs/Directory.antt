-- The directory: the objects of a segment, by handle, with their values and their extents.
use Rattle.std.specs.Prelude.{ℕ, ◌+◌, ◌*◌, ◌/◌, ℤ, Bool, true, false, ◌&&◌, Option, Some, None, List, [], ◌∷◌, ◌++◌}
use Rattle.std.specs.Prelude.{length, map, filter, find, flat_map, fold, option_to_list, IsTrue, ◌==◌, nat_lt, nat_le}
use Rattle.std.specs.{Prelude.nat_eq, Prelude.int_lt, Prelude.if◌then◌else◌, List.list_all, Cmp.Lexicographic.pointwise}
use Rattle.std.specs.{Cmp.Lexicographic.slice_cmp, Ordering.nat_cmp, Ordering.is_lt}
use Rattle.block_tags.specs.declared.tile.Role.TheVariants.{Object as ObjectRole, Index, Storage}
use Rattle.best_fit.specs.{Extents.Extent, Extents.LiveSet, Extents.handle, Extents.is_proper, Fit.insert}
use Rattle.best_fit.specs.Table.{BackingArray, no_backing, has_backing, serves}
use Rattle.seg_types.specs.{declared.kinds.ScalarKind.ScalarKind, declared.kinds.Kind.Kind, declared.kinds.Class.Class}
use Rattle.seg_types.specs.declared.kinds.Kind.TheVariants.{Scalar, String, Vector, Map, Strings as StringsKind}
use Rattle.seg_types.specs.declared.kinds.Class.TheVariants.{Named, Unique}
use Rattle.seg_types.specs.Kinds.{size_of, is_value, code_of, same_kind, class_code, is_kind_of}
use Rattle.seg_types.specs.Names.{Key, ByName, ByKind, ByHandle, NoKey, is_name}
use Rattle.seg_vector.specs.Vector.{OwnedText, is_vector}
use Rattle.seg_map.specs.{Map.is_rising, Numbers.NumberPair, Numbers.is_number_pair}
use Rattle.segment_manager.specs.Layout.{head_len}

-- numbers of one kind; a vector; a text; a map, by rising keys; a vector of texts
pub data Value : Type 0 where
  Numbers : ScalarKind → List ℤ → Value
  Elements : ScalarKind → List ℤ → BackingArray → Value
  Bytes : List ℕ → BackingArray → Value
  Pairs : ScalarKind → ScalarKind → List NumberPair → Value
  Texts : List OwnedText → BackingArray → Value

-- an object: its class, its name (empty if it is not named), its value, and its own block
pub record Object : Type 0 where
  pub class : Class
  pub name : List ℕ
  pub value : Value
  pub extent : Extent

-- a size, the objects by offset, and the capacities and blocks of the two indexes
pub record Directory : Type 0 where
  pub size : ℕ
  pub objects : List Object
  pub named : BackingArray
  pub unique : BackingArray

-- the directory of an empty segment of a size
abbrev pub empty : ℕ → Directory
empty size = record { size = size; objects = []; named = no_backing; unique = no_backing }

-- the kind of a value
abbrev pub kind_of : Value → Kind
kind_of (Numbers k zs) = Scalar k
kind_of (Elements k zs t) = Vector k
kind_of (Bytes bs t) = String
kind_of (Pairs k v ps) = Map k v
kind_of (Texts ps t) = StringsKind

-- the count in an object's head: the number of elements of an array, and 1 for any other value
abbrev pub count_of : Value → ℕ
count_of (Numbers k zs) = length zs
count_of (Elements k zs t) = 1
count_of (Bytes bs t) = 1
count_of (Pairs k v ps) = 1
count_of (Texts ps t) = 1

-- the length of the value itself: the encoded numbers, or the three words of a container
abbrev pub value_len : Value → ℕ
value_len (Numbers k zs) = size_of k * length zs
value_len (Elements k zs t) = 24
value_len (Bytes bs t) = 24
value_len (Pairs k v ps) = 24
value_len (Texts ps t) = 24

-- a length, rounded up to a multiple of 8
abbrev pub padded : ℕ → ℕ
padded n = (n + 7) / 8 * 8

-- the length of an object's payload, up to the end of its value
abbrev pub object_len : List ℕ → Value → ℕ
object_len name value = head_len + padded (length name) + value_len value

-- ---- the extents of a directory

abbrev pub table_extents : BackingArray → List Extent
table_extents t = option_to_list t.extent

abbrev pub value_extents : Value → List Extent
value_extents (Numbers k zs) = []
value_extents (Elements k zs t) = table_extents t
value_extents (Bytes bs t) = table_extents t
value_extents (Pairs k v ps) = map (λ (p : NumberPair). p.node) ps
value_extents (Texts ps t) = table_extents t ++ flat_map (λ (p : OwnedText). option_to_list p.extent) ps

-- the blocks of an object
abbrev pub extents_of : Object → List Extent
extents_of o = o.extent ∷ value_extents o.value

-- the extents, sorted by offset
abbrev pub sorted : List Extent → List Extent
sorted [] = []
sorted (x ∷ xs) = insert x (sorted xs)

-- the blocks of a directory's objects and indexes, by offset
unfoldable pub live : Directory → LiveSet
live d = record {
  size = d.size;
  extents = sorted (flat_map extents_of d.objects ++ (table_extents d.named ++ table_extents d.unique));
}

-- ---- objects by key

abbrev pub same_bytes : List ℕ → List ℕ → Bool
same_bytes = pointwise nat_eq

abbrev pub is_class : Class → Object → Bool
is_class c o = class_code c == class_code o.class

-- whether the object has the key
abbrev pub has_key : Key → Object → Bool
has_key (ByName name) o = is_class Named o && same_bytes name o.name
has_key (ByKind k) o = is_class Unique o && same_kind k (kind_of o.value)
has_key (ByHandle h) o = h == handle o.extent
has_key NoKey o = false

-- the first object with the key; a legal directory has at most one
abbrev pub object_at : Directory → Key → Option Object
object_at d key = find (has_key key) d.objects

-- the objects with one more, by offset
abbrev pub put_object : Object → List Object → List Object
put_object o [] = o ∷ []
put_object o (p ∷ ps) = if nat_lt o.extent.offset p.extent.offset then o ∷ p ∷ ps else p ∷ put_object o ps

-- the objects without the object of a handle
abbrev pub remove_object : ℕ → List Object → List Object
remove_object h [] = []
remove_object h (p ∷ ps) = if h == handle p.extent then ps else p ∷ remove_object h ps

-- the objects with the object of o's handle replaced by o
abbrev pub replace_object : Object → List Object → List Object
replace_object o [] = []
replace_object o (p ∷ ps) = if handle o.extent == handle p.extent then o ∷ ps else p ∷ replace_object o ps

-- the directory with one more object
abbrev pub with_object : Directory → Object → Directory
with_object d o = record d { objects = put_object o d.objects }

-- the directory with the object of the same handle replaced
abbrev pub with_changed : Directory → Object → Directory
with_changed d o = record d { objects = replace_object o d.objects }

-- the directory without an object
abbrev pub without_object : Directory → Object → Directory
without_object d o = record d { objects = remove_object (handle o.extent) d.objects }

-- one object precedes another by the bytes of their names
abbrev pub by_name : Object → Object → Bool
by_name o p = is_lt (slice_cmp nat_cmp o.name p.name)

-- one object precedes another by the codes of their kinds
abbrev pub by_kind : Object → Object → Bool
by_kind o p = nat_lt (code_of (kind_of o.value)) (code_of (kind_of p.value))

abbrev pub insert_by : (Object → Object → Bool) → Object → List Object → List Object
insert_by lt o [] = o ∷ []
insert_by lt o (p ∷ ps) = if lt o p then o ∷ p ∷ ps else p ∷ insert_by lt o ps

-- the objects with names, by the bytes of their names
abbrev pub named_objects : Directory → List Object
named_objects d = fold (λ os o. insert_by by_name o os) [] (filter (is_class Named) d.objects)

-- the unique objects, by the codes of their kinds
abbrev pub unique_objects : Directory → List Object
unique_objects d = fold (λ os o. insert_by by_kind o os) [] (filter (is_class Unique) d.objects)

-- ---- the conditions of a directory

abbrev pub rises : (Object → Object → Bool) → List Object → Bool
rises lt [] = true
rises lt (o ∷ []) = true
rises lt (o ∷ p ∷ ps) = lt o p && rises lt (p ∷ ps)

-- whether the text has a block exactly if it has bytes
abbrev pub has_own_block : OwnedText → Bool
has_own_block p =
    elim p.extent
    [ None ↦ length p.bytes == 0 | Some x ↦ nat_lt 0 (length p.bytes) && serves x Storage (length p.bytes) ]

abbrev pub is_owned_text : OwnedText → Bool
is_owned_text p = has_own_block p && list_all (λ b. nat_lt b 256) p.bytes

-- whether each scalar is a value of its kind, an array has 1 to 1048576 scalars, map keys rise, no length exceeds its
-- capacity, and each block has room for its contents
abbrev pub is_good_value : Value → Bool
is_good_value (Numbers k zs) = nat_le 1 (length zs) && nat_le (length zs) 1048576 && list_all (is_value k) zs
is_good_value (Elements k zs t) = is_vector (size_of k) (is_value k) zs t
is_good_value (Bytes bs t) = is_vector 1 (λ b. nat_lt b 256) bs t
is_good_value (Pairs k v ps) = is_rising int_lt ps && list_all (is_number_pair k v) ps
is_good_value (Texts ps t) = is_vector 16 is_owned_text ps t

abbrev pub has_good_name : ℕ → Object → Bool
has_good_name format o = if is_class Named o then is_name format o.name else length o.name == 0

-- whether an object has a name and a kind of the format, a value in its range, and a block of its own
abbrev pub is_object : ℕ → Object → Bool
is_object format o =
    has_good_name format o && is_kind_of format (kind_of o.value) && is_good_value o.value
    && serves o.extent ObjectRole (object_len o.name o.value)

-- whether an index has the block that its capacity needs, at most as many objects as its capacity, and rising keys
abbrev pub is_index : BackingArray → List Object → (Object → Object → Bool) → Bool
is_index t os lt = has_backing Index 8 t && nat_le (length os) t.capacity && rises lt os

-- whether the objects are in order of offset, from an offset on
abbrev pub rises_from : ℕ → List Object → Bool
rises_from n [] = true
rises_from n (o ∷ os) = nat_le n o.extent.offset && rises_from (o.extent.offset + 1) os

-- all objects are legal, no two overlap, names and unique kinds differ, and no index exceeds its capacity
pub record IsDirectory (format : ℕ) (d : Directory) : Type 0 where
  -- the size is legal, no two extents overlap, and each gap is long enough for a free block
  pub proper : IsTrue (is_proper (live d))
  pub objects : IsTrue (list_all (is_object format) d.objects)
  pub by_offset : IsTrue (rises_from 0 d.objects)
  -- names and kinds differ, since they rise
  pub named : IsTrue (is_index d.named (named_objects d) by_name)
  pub unique : IsTrue (is_index d.unique (unique_objects d) by_kind)
