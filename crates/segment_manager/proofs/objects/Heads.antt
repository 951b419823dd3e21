-- The words of an index entry, for an object in its block.
use Rattle.segment_manager.proofs.Common as common
use common.{◌≡◌, ap, ◌∙◌, ℕ, zero, suc, ◌+◌, ◌*◌, ◌-◌, ◌<◌, ◌≤◌, Bool, true, false, ◌&&◌, not, List, [], ◌∷◌, ◌++◌}
use common.{length, replicate, ◌==◌, if◌then◌else◌, arith, IsTrue, nat_le, AllByRecursion, list_all, is_utf8, chars}
use common.{and_parts, eqb-true, leb-true, Memory, bytes_of, read, HasBytesAt, word_at, handle, serves, ObjectRole}
use common.{ScalarKind, BoolKind, Kind, Scalar, Vector, Map, scalar_code, code_of, class_code, is_kind_of, is_name}
use common.{is_printable_name, is_text_name, is_control, name_len_at, Object, kind_of, count_of, padded, is_class}
use common.{has_good_name, is_good_value, is_object, object_len, IsObjectAt, IsEntry, subst, length-append}
use Rattle.raw_region.proofs.{Facts.first, Facts.second, Bytes.HasBytesAt-take}
use Rattle.seg_types.specs.declared.kinds.Class.TheVariants.{Named}
use Rattle.segment_manager.specs.objects.Heads.{EntriesSayObjects}
use Rattle.std.proofs.Math.Seq.{take-append_seam}

-- ---- the codes are below 2 ^ 32

-- the code of a scalar kind is at most 5
pub scalar-small : (k : ScalarKind) → scalar_code k ≤ 5
scalar-small BoolKind = omega arith
scalar-small k = omega arith

pub code-small : (k : Kind) → code_of k < 4294967296
code-small (Scalar k) = let l = scalar-small k in omega arith
code-small (Vector k) = let l = scalar-small k in omega arith
code-small (Map k v) = let l = scalar-small k in let r = scalar-small v in omega arith
code-small k = omega arith

-- ---- names are short

text-short : (name : List ℕ) → IsTrue (is_text_name name) → length name ≤ 255
unfolding is_text_name
text-short name h =
    let three = and_parts (nat_le 1 (length name) && nat_le (length name) 255 && is_utf8 name)
    (list_all (λ c. not (is_control c)) (chars name)) h in
    let two = and_parts (nat_le 1 (length name) && nat_le (length name) 255) (is_utf8 name) three.0 in
    leb-true (length name) 255 (and_parts (nat_le 1 (length name)) (nat_le (length name) 255) two.0).1

printable-short : (name : List ℕ) → IsTrue (is_printable_name name) → length name ≤ 255
printable-short name h =
    let two = and_parts (nat_le 1 (length name) && nat_le (length name) 63)
    (list_all (λ c. nat_le 0x20 c && nat_le c 0x7E) name) h in
    let l = leb-true (length name) 63 (and_parts (nat_le 1 (length name)) (nat_le (length name) 63) two.0).1 in
    omega arith

-- a name has at most 255 bytes
pub name-short : (format : ℕ) (name : List ℕ) → IsTrue (is_name format name) → length name ≤ 255
name-short zero name h = printable-short name h
name-short (suc zero) name h = printable-short name h
name-short (suc (suc format)) name h = text-short name h

good-if : (format : ℕ) (o : Object) (b : Bool) → IsTrue (if b then is_name format o.name else length o.name == 0)
    → length o.name ≤ 255
good-if format o true h = name-short format o.name h
good-if format o false h = let e = eqb-true (length o.name) 0 h in omega arith

-- the name of an object has at most 255 bytes
pub good_name-short : (format : ℕ) (o : Object) → IsTrue (has_good_name format o) → length o.name ≤ 255
good_name-short format o h = good-if format o (is_class Named o) h

-- ---- an object's words

-- the first of two rows of bytes
pub Has-front : (m : Memory) (at : ℕ) (xs ys : List ℕ) → HasBytesAt m at (xs ++ ys) → HasBytesAt m at xs
Has-front m at xs ys h = subst (HasBytesAt m at) (take-append_seam xs ys)
    (HasBytesAt-take m at (length xs) (xs ++ ys) (omega (arith, length-append xs ys)) h)

-- the length of the name
pub entry-name_len : (m : Memory) (o : Object) → length o.name ≤ 255 → IsObjectAt m o
    → name_len_at m (handle o.extent) ≡ length o.name
entry-name_len m o short a =
    let behind : word_at m (handle o.extent + 8) ≡ length o.name + 4294967296 * class_code o.class = a.name_class in
    omega arith

-- an object in memory is an entry
pub object-entry : (m : Memory) (o : Object) → length o.name ≤ 255 → IsObjectAt m o → IsEntry m o
object-entry m o short a =
    let small = code-small (kind_of o.value) in
    let front : word_at m (handle o.extent) ≡ code_of (kind_of o.value) + 4294967296 * count_of o.value =
    a.kind_count in
    let behind : word_at m (handle o.extent + 8) ≡ length o.name + 4294967296 * class_code o.class = a.name_class in
    record {
      code = omega arith;
      count = omega arith;
      class = omega arith;
      name = ap (read m (handle o.extent + 16)) (entry-name_len m o short a)
          ∙ Has-front m (handle o.extent + 16) o.name (replicate (padded (length o.name) - length o.name) 0) a.name;
    }

-- ---- the law

-- a good object has a good name
pub good-name : (format : ℕ) (o : Object) → IsTrue (is_object format o) → IsTrue (has_good_name format o)
good-name format o h = first (has_good_name format o) (is_kind_of format (kind_of o.value)) (first (has_good_name format
    o && is_kind_of format (kind_of o.value)) (is_good_value o.value) (first (has_good_name format o && is_kind_of
    format (kind_of o.value) && is_good_value o.value) (serves o.extent ObjectRole (object_len o.name o.value)) h))

entries : (format : ℕ) (m : Memory) (os : List Object) → IsTrue (list_all (is_object format) os)
    → AllByRecursion (IsObjectAt m) os → AllByRecursion (IsEntry m) os
entries format m [] h a = tt
entries format m (o ∷ os) h a = (
  object-entry m o (good_name-short format o
      (good-name format o (first (is_object format o) (list_all (is_object format) os) h))) a.0,
  entries format m os (second (is_object format o) (list_all (is_object format) os) h) a.1,
)

-- law: entries have the properties of their objects
pub entries_say_objects : EntriesSayObjects
entries_say_objects format b d h = entries format (bytes_of b) d.objects h.directory.objects h.objects
