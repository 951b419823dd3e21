-- A segment that is being built: its objects so far, and room for the rest after all its blocks.
use Rattle.std.specs.Prelude.{◌≡◌, ◌⊎◌, ℕ, ◌+◌, ◌≤◌, ⊤, Bool, true, false, ◌&&◌, ◌==◌, nat_lt, List, [], ◌∷◌, ◌++◌}
use Rattle.std.specs.Prelude.{codes, length, map, filter, flat_map}
use Rattle.std.specs.{List.AllByRecursion, Cmp.Lexicographic.slice_cmp, Ordering.nat_cmp, Ordering.is_lt}
use Rattle.best_fit.specs.Extents.{Extent, end_of, handle}
use Rattle.seg_types.specs.{declared.kinds.Class.Class, declared.kinds.Kind.Kind, Kinds.class_code, Kinds.code_of}
use Rattle.seg_types.specs.{Kinds.same_kind, Names.Key, Names.ByHandle, Names.ByKind, Names.ByName, Names.NoKey}
use Rattle.seg_types.specs.declared.kinds.Class.TheVariants.{Anonymous, Named, Unique}
use Rattle.segment_manager.specs.Directory.{Bytes, Directory, Elements, Numbers, Object, Pairs, Texts, Value}
use Rattle.segment_manager.specs.Directory.{extents_of, same_bytes, table_extents}
use Rattle.segment_dump.specs.Items.{DumpItem, count_of_content, item_of_object, kind_of_content}
use Rattle.segment_lang.specs.Texts.{kind_text, name_text, number_text}

-- ---- blocks one after another

-- all their bytes
unfoldable pub total : List Extent → ℕ
total [] = 0
total (x ∷ xs) = x.len + total xs

-- each ends up to there
abbrev pub EndBy : ℕ → List Extent → Type 0
EndBy e = AllByRecursion (λ (x : Extent). end_of x ≤ e)

-- Extents fill all from 128 on up to where the last one ends, since they have as many bytes as there are; and after
-- it, up to the end tag, is room for the rest.
pub record HasExactRoom (xs : List Extent) (size rest : ℕ) : Type 0 where
  pub end : ℕ
  pub start : 128 ≤ end
  pub below : EndBy end xs
  pub full : end ≤ 128 + total xs
  pub room : end + 16 + rest ≤ size

-- the blocks of a directory's objects and of its indexes
abbrev pub all_extents : Directory → List Extent
all_extents d = flat_map extents_of d.objects ++ (table_extents d.named ++ table_extents d.unique)

-- nothing more, or a block and more
abbrev pub IsRest : ℕ → Type 0
IsRest n = (n ≡ 0) ⊎ (32 ≤ n)

-- ---- capacities

-- a vector, a string and a vector of strings have as many slots as elements
abbrev pub HasExactCapacity : Value → Type 0
HasExactCapacity (Numbers k zs) = ⊤
HasExactCapacity (Elements k zs t) = t.capacity ≡ length zs
HasExactCapacity (Bytes bs t) = t.capacity ≡ length bs
HasExactCapacity (Pairs k v ps) = ⊤
HasExactCapacity (Texts ps t) = t.capacity ≡ length ps

-- no object has spare slots
abbrev pub AreExact : List Object → Type 0
AreExact = AllByRecursion (λ (o : Object). HasExactCapacity o.value)

-- ---- a directory that is being built

-- the capacities of the indexes, and the size in bytes
pub record Site : Type 0 where
  pub named : ℕ
  pub unique : ℕ
  pub size : ℕ

-- there are these objects, by their places and without spare slots, and room for the rest
pub record HasBuiltItems (d : Directory) (site : Site) (done : List DumpItem) (rest : ℕ) : Type 0 where
  pub size_is : d.size ≡ site.size
  pub named : d.named.capacity ≡ site.named
  pub unique : d.unique.capacity ≡ site.unique
  pub items : map item_of_object d.objects ≡ done
  pub exact : AreExact d.objects
  pub room : HasExactRoom (all_extents d) d.size rest

-- the class, the name and the handle of the object that is being filled
pub record Head : Type 0 where
  pub class : Class
  pub name : List ℕ
  pub handle : ℕ

-- the last of its objects is one with this value so far, and those before it have no spare slots
pub record IsFilling (d : Directory) (site : Site) (done : List DumpItem) (head : Head) (v : Value) (rest : ℕ) :
    Type 0 where
  pub size_is : d.size ≡ site.size
  pub named : d.named.capacity ≡ site.named
  pub unique : d.unique.capacity ≡ site.unique
  pub before : List Object
  pub object : Object
  pub objects : d.objects ≡ before ++ object ∷ []
  pub items : map item_of_object before ≡ done
  pub exact : AreExact before
  pub class_is : object.class ≡ head.class
  pub name_is : object.name ≡ head.name
  pub handle_is : head.handle ≡ handle object.extent
  pub value_is : object.value ≡ v
  pub room : HasExactRoom (all_extents d) d.size rest

-- ---- the items that are still to be built

-- by which key an item is made
abbrev pub key_in : Class → List ℕ → Kind → Key
key_in Named name kind = ByName name
key_in Unique name kind = ByKind kind
key_in Anonymous name kind = NoKey

abbrev pub item_key : DumpItem → Key
item_key i = key_in i.class i.name (kind_of_content i.content)

-- an item has the key
abbrev pub has_item_key : Key → DumpItem → Bool
has_item_key (ByName name) i = (class_code Named == class_code i.class) && same_bytes name i.name
has_item_key (ByKind k) i = (class_code Unique == class_code i.class) && same_kind k (kind_of_content i.content)
has_item_key (ByHandle h) i = false
has_item_key NoKey i = false

-- no object that is built has the key of an object still to be built
abbrev pub AreNew : List DumpItem → List DumpItem → Type 0
AreNew done [] = ⊤
AreNew done (i ∷ is) = AllByRecursion (λ j. has_item_key (item_key i) j ≡ false) done × AreNew (done ++ i ∷ []) is

abbrev pub of_class : Class → List DumpItem → List DumpItem
of_class c is = filter (λ (i : DumpItem). class_code c == class_code i.class) is

abbrev pub count_class : Class → List DumpItem → ℕ
count_class c is = length (of_class c is)

-- by name, and by kind
abbrev pub name_less : DumpItem → DumpItem → Bool
name_less i j = is_lt (slice_cmp nat_cmp i.name j.name)

abbrev pub kind_less : DumpItem → DumpItem → Bool
kind_less i j = nat_lt (code_of (kind_of_content i.content)) (code_of (kind_of_content j.content))

-- each comes before all after it
abbrev pub AreSortedItems : (DumpItem → DumpItem → Bool) → List DumpItem → Type 0
AreSortedItems lt [] = ⊤
AreSortedItems lt (i ∷ is) = AllByRecursion (λ j. lt i j ≡ true) is × AreSortedItems lt is

-- ---- the words of an object's line

abbrev pub measure_tokens : Kind → ℕ → List ℕ
measure_tokens kind n = kind_text kind ++ 0x20 ∷ number_text n

-- the class of an object, and its name if it has one
abbrev pub class_tokens : Class → List ℕ → List ℕ
class_tokens Named name = codes "named " ++ name_text name ++ 0x20 ∷ []
class_tokens Unique name = codes "unique "
class_tokens Anonymous name = codes "anonymous "

abbrev pub head_tokens : DumpItem → List ℕ
head_tokens i = class_tokens i.class i.name ++ measure_tokens (kind_of_content i.content) (count_of_content i.content)
