-- The words before an object: its codes, the parts of its test, and its four half words.
use Rattle.image_check.proofs.Common.{Anonymous, Class, IsObjectAt, IsTrue, Kind, Memory, None, Option, Some}
use Rattle.image_check.proofs.Common.{and_parts, ap, class_at, class_code, code_at, count_at, count_of, handle}
use Rattle.image_check.proofs.Common.{if◌then◌else◌, is_good_value, is_object, kind_at, kind_of, kind_of_code, length}
use Rattle.image_check.proofs.Common.{name_at, name_len_at, object_len, padded, refl, serves, value_offset, ℕ, ◌&&◌}
use Rattle.image_check.proofs.Common.{◌+◌, ◌∙◌, ◌≡◌}
use Rattle.block_tags.specs.declared.tile.Role.TheVariants.{Object as ObjectRole}
use Rattle.seg_types.specs.Kinds.{code_of, is_kind_of}
use Rattle.segment_manager.specs.Directory.{Object, has_good_name}
use Rattle.segment_manager.proofs.Laws.{code-read, entry-name_len, good_name-short, object-entry}
use Rattle.image_check.proofs.bytes.Numbers.{AreSmall}
use Rattle.image_check.proofs.read_off.Directory.{class_from}

-- ---- codes

-- the class of a class code
pub class-read : (c : Class) → class_from (class_code c) ≡ c
class-read Anonymous = refl
class-read other = refl

-- ---- the parts of an object

-- the properties of an object of the format
pub record IsGoodObject (format : ℕ) (o : Object) : Type 0 where
  pub name : IsTrue (has_good_name format o)
  pub kind : IsTrue (is_kind_of format (kind_of o.value))
  pub value : IsTrue (is_good_value o.value)
  pub serves : IsTrue (serves o.extent ObjectRole (object_len o.name o.value))

-- an object that passes the test has these properties
pub is_object-parts : (format : ℕ) (o : Object) → IsTrue (is_object format o) → IsGoodObject format o
is_object-parts format o h =
    let three = and_parts (has_good_name format o && is_kind_of format (kind_of o.value)
    && is_good_value o.value) (serves o.extent ObjectRole (object_len o.name o.value)) h in
    let two = and_parts (has_good_name format o && is_kind_of format (kind_of o.value)) (is_good_value o.value)
    three.0 in
    let one = and_parts (has_good_name format o) (is_kind_of format (kind_of o.value)) two.0 in
    record { name = one.0; kind = one.1; value = two.1; serves = three.1 }

-- ---- the half words of an object

-- the four half words in front of an object
pub record AreWords (format : ℕ) (m : Memory) (o : Object) : Type 0 where
  pub kind_word : code_at m (handle o.extent) ≡ code_of (kind_of o.value)
  pub count_word : count_at m (handle o.extent) ≡ count_of o.value
  pub name_word : name_len_at m (handle o.extent) ≡ length o.name
  pub class_word : class_at m (handle o.extent) ≡ class_code o.class
  pub kind : kind_at format m (handle o.extent) ≡ Some (kind_of o.value)
  pub name : name_at m (handle o.extent) ≡ o.name
  pub value_place : value_offset m (handle o.extent) ≡ handle o.extent + 16 + padded (length o.name)

kind-said : (format : ℕ) (m : Memory) (at : ℕ) (k : Kind) → code_at m at ≡ code_of k → IsTrue (is_kind_of format k)
    → kind_at format m at ≡ Some k
kind-said format m at k e h =
    ap (λ (o : Option Kind). elim o [ None ↦ None | Some k ↦ if is_kind_of format k then Some k else None ])
    (ap kind_of_code e ∙ code-read k)
    ∙ ap (λ b. if b then Some k else None) h

-- the words of an object in memory
pub object-words : (format : ℕ) (m : Memory) (o : Object) → AreSmall m → IsGoodObject format o → IsObjectAt m o
    → AreWords format m o
object-words format m o s g a =
    let at : ℕ = handle o.extent in
    let short = good_name-short format o g.name in
    let entry = object-entry m o short a in
    let name_len = entry-name_len m o short a in
    record {
      kind_word = entry.code;
      count_word = entry.count;
      name_word = name_len;
      class_word = entry.class;
      kind = kind-said format m at (kind_of o.value) entry.code g.kind;
      name = entry.name;
      value_place = ap (λ n. at + 16 + padded n) name_len;
    }
