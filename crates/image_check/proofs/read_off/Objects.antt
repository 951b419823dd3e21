-- The object in a tile that passes its tests: it is an object of the format, and memory has it.
use Rattle.image_check.proofs.Common.{HasBytesAt, Index, IsObjectAt, IsTrue, Kind, List, Memory, Named, None}
use Rattle.image_check.proofs.Common.{Option, Role, Some, Tile, Value, and_from, and_parts, ap, arith}
use Rattle.image_check.proofs.Common.{as_extent, class_at, class_code, code_at, count_at, eqb-true, false, false≢true}
use Rattle.image_check.proofs.Common.{handle, has_name, has_padding, if◌then◌else◌, is_container, is_good_value}
use Rattle.image_check.proofs.Common.{is_indexed, is_name, is_object, is_object_tile, is_use, is_value_in, is_zero}
use Rattle.image_check.proofs.Common.{kind_at, kind_of, kind_of_code, le-leb, leb-true, length, length-replicate}
use Rattle.image_check.proofs.Common.{list_all, name_at, name_len_at, nat_le, object_len, object_tiles, padded, payload}
use Rattle.image_check.proofs.Common.{read, refl, same_role, serves, subst, suc, sym, true, value_offset, values, zero}
use Rattle.image_check.proofs.Common.{ℕ, ◌&&◌, ◌+◌, ◌-◌, ◌==◌, ◌∙◌, ◌∷◌, ◌≡◌, ◌≤◌}
use Rattle.std.proofs.Common.{Bool}
use Rattle.std.specs.Prelude.{option_map, replicate}
use Rattle.block_tags.specs.declared.tile.Role.TheVariants.{Object as ObjectRole}
use Rattle.best_fit.specs.Extents.{holds}
use Rattle.seg_types.specs.Kinds.{code_of, is_kind_of, kinds}
use Rattle.segment_manager.specs.Directory.{Object, has_good_name}
use Rattle.image_check.proofs.bytes.Numbers.{AreSmall, read-length}
use Rattle.image_check.proofs.bytes.Members.{Mem, find_mem, list_all_mem, mem_filter_map, mem_of_filter}
use Rattle.image_check.proofs.read_off.Directory.{class_from, kind_or_text, object_block, object_from, value_from}
use Rattle.image_check.proofs.read_off.Numbers.{HasBytesAt-append, HasBytesAt-read, unguarded}
use Rattle.image_check.proofs.read_off.Vectors.{IsBack}
use Rattle.image_check.proofs.read_off.Maps.{value-back}
use Rattle.image_check.proofs.claims.CountedClaims.{index_at}
use Rattle.image_check.proofs.claims.FieldPlaces.{IsPlaced}
use mathlib.Core.Logic.{◌⊎◌, inl, inr}

-- ---- codes

kind-if : (format : ℕ) (k : Kind) (o : Option Kind)
    → elim o [ None ↦ None | Some k ↦ if is_kind_of format k then Some k else None ] ≡ Some k
    → (o ≡ Some k) × IsTrue (is_kind_of format k)
kind-if format k None e = absurd (cc)
kind-if format k (Some q) e = kind-some format k q (is_kind_of format q) refl e
  where
    kind-some : (format : ℕ) (k q : Kind) (b : Bool) → is_kind_of format q ≡ b
        → (if b then Some q else None) ≡ Some k → (Some q ≡ Some k) × IsTrue (is_kind_of format k)
    kind-some format k q true h e = (let f : q ≡ k = some-kind q k e in (e, ap (is_kind_of format) (sym f) ∙ h))
      where
        some-kind : (q k : Kind) → Some q ≡ Some k → q ≡ k
        some-kind q k e = cc
    kind-some format k q false h e = absurd (cc)

-- the kind has the code in memory
pub record IsKindAt (format : ℕ) (m : Memory) (at : ℕ) (k : Kind) : Type 0 where
  pub code : code_of k ≡ code_at m at
  pub of : IsTrue (is_kind_of format k)

-- a kind that is read is a kind of the format, with the code in memory
pub kind-back : (format : ℕ) (m : Memory) (at : ℕ) (k : Kind) → kind_at format m at ≡ Some k → IsKindAt format m at k
kind-back format m at k e =
    let p = kind-if format k (kind_of_code (code_at m at)) e in
    let f = find_mem (λ q. code_of q == code_at m at) k kinds p.0 in
    record { code = eqb-true (code_of k) (code_at m at) f.is; of = p.1 }

small-cases : (c : ℕ) → c ≤ 2 → (c ≡ 0) ⊎ ((c ≡ 1) ⊎ (c ≡ 2))
small-cases zero l = inl refl
small-cases (suc zero) l = inr (inl refl)
small-cases (suc (suc zero)) l = inr (inr refl)
small-cases (suc (suc (suc c))) l = absurd (omega arith)

-- the test of a name, by class, length and bytes
abbrev name_test : ℕ → ℕ → ℕ → List ℕ → Bool
name_test format c n name = if c == 1 then (if nat_le n 255 then is_name format name else false) else nat_le c 2
    && (n == 0)

class-if : (format c n : ℕ) (name : List ℕ) (b : Bool) → (c == 1) ≡ b
    → IsTrue (if b then (if nat_le n 255 then is_name format name else false) else nat_le c 2 && (n == 0)) → c ≤ 2
class-if format c n name true e h = let f = eqb-true c 1 e in omega arith
class-if format c n name false e h = leb-true c 2 (and_parts (nat_le c 2) (n == 0) h).0

record IsClassSaid (format c : ℕ) (name : List ℕ) : Type 0 where
  good : IsTrue (if class_code Named == class_code (class_from c) then is_name format name else length name == 0)
  code : class_code (class_from c) ≡ c

class-cases : (format c n : ℕ) (name : List ℕ) → length name ≡ n → (c ≡ 0) ⊎ ((c ≡ 1) ⊎ (c ≡ 2))
    → IsTrue (name_test format c n name) → IsClassSaid format c name
class-cases format c n name l (inl e) h =
    subst (λ x. IsTrue (name_test format x n name) → IsClassSaid format x name) (sym e)
    (λ k. record { good = ap (λ x. x == 0) l ∙ k; code = refl }) h
class-cases format c n name l (inr (inl e)) h =
    subst (λ x. IsTrue (name_test format x n name) → IsClassSaid format x name) (sym e)
    (λ k. record { good = (unguarded (nat_le n 255) (is_name format name) k).1; code = refl }) h
class-cases format c n name l (inr (inr e)) h =
    subst (λ x. IsTrue (name_test format x n name) → IsClassSaid format x name) (sym e)
    (λ k. record { good = ap (λ x. x == 0) l ∙ k; code = refl }) h

-- ---- zeros

zeros-are : (m : Memory) (at n : ℕ) → IsTrue (is_zero (read m at n)) → read m at n ≡ replicate n 0
zeros-are m at zero h = refl
zeros-are m at (suc n) h =
    let p = and_parts (m at == 0) (is_zero (read m (at + 1) n)) h in
    let first = eqb-true (m at) 0 p.0 in
    let rest = zeros-are m (at + 1) n p.1 in
    λ i. first i ∷ rest i

zeros-stand : (m : Memory) (at n : ℕ) → IsTrue (is_zero (read m at n)) → HasBytesAt m at (replicate n 0)
zeros-stand m at n h = ap (read m at) (length-replicate n 0) ∙ zeros-are m at n h

-- ---- one tile

-- the parts of the test of an object
record IsTested (format : ℕ) (m : Memory) (at end : ℕ) : Type 0 where
  kind : Kind
  said : kind_at format m at ≡ Some kind
  value : IsTrue (is_value_in m kind (count_at m at) (value_offset m at) end)
  name : IsTrue (has_name format m at)
  padding : IsTrue (has_padding m at)
  indexed : IsTrue (is_indexed m at)

value-if : (format : ℕ) (m : Memory) (at end : ℕ) (o : Option Kind) → kind_at format m at ≡ o
    → IsTrue (elim o [ None ↦ false | Some k ↦ is_value_in m k (count_at m at) (value_offset m at) end ])
    → (k : Kind) × (kind_at format m at ≡ Some k) × IsTrue (is_value_in m k (count_at m at) (value_offset m at) end)
value-if format m at end None e h = absurd (false≢true h)
value-if format m at end (Some k) e h = (k, e, h)

tested : (format : ℕ) (m : Memory) (t : Tile) → IsTrue (is_object_tile format m t)
    → IsTested format m (payload t) (t.offset + t.len)
tested format m t h =
    let at : ℕ = payload t in
    let end : ℕ = t.offset + t.len in
    let value : Bool = elim (kind_at format m at) [
      | None ↦ false
      | Some k ↦ is_value_in m k (count_at m at) (value_offset m at) end
    ] in
    let u = unguarded (has_name format m at) (value && has_padding m at && is_indexed m at) h in
    let two = and_parts (value && has_padding m at) (is_indexed m at) u.1 in
    let one = and_parts value (has_padding m at) two.0 in
    let v = value-if format m at end (kind_at format m at) refl one.0 in
    record { kind = v.0; said = v.1; value = v.2; name = u.0; padding = one.1; indexed = two.1 }

-- the properties of an object in a tile
pub record IsSaid (format : ℕ) (m : Memory) (ts : List Tile) (o : Object) : Type 0 where
  pub placed : IsPlaced m ts o
  pub is_object : IsTrue (is_object format o)
  pub stands : IsObjectAt m o
  pub kind : kind_at format m (handle o.extent) ≡ Some (kind_of o.value)
  pub place : index_at o ≡ value_offset m (handle o.extent)
  pub name_is : name_at m (handle o.extent) ≡ o.name
  pub code : code_at m (handle o.extent) ≡ code_of (kind_of o.value)
  pub class_is : class_at m (handle o.extent) ≡ class_code o.class
  pub indexed : IsTrue (is_indexed m (handle o.extent))

object-use : (t : Tile) → IsTrue (is_use ObjectRole t) → as_extent t ≡ Some (object_block t)
object-use t h = object-parts t.offset t.len t.use_of t.red h
  where
    object-parts : (offset len : ℕ) (use_of : Option Role) (red : Bool)
        → IsTrue (is_use ObjectRole (record { offset = offset; len = len; use_of = use_of; red = red }))
        → as_extent (record { offset = offset; len = len; use_of = use_of; red = red })
        ≡ Some (record { offset = offset; len = len; role = ObjectRole })
    object-parts offset len None red h = absurd (false≢true h)
    object-parts offset len (Some ObjectRole) red h = refl
    object-parts offset len (Some Index) red h = absurd (false≢true h)
    object-parts offset len other red h = absurd (false≢true h)

-- the object that is read from a tile that passes its tests has these properties
pub tile-said : (format : ℕ) (m : Memory) (ts : List Tile) → AreSmall m → (t : Tile) → Mem t (object_tiles ts)
    → IsTrue (is_object_tile format m t) → IsTrue (list_all (is_container m ts) (values format m ts))
    → IsSaid format m ts (object_from format m ts (object_block t))
tile-said format m ts s t h k c =
    let at : ℕ = payload t in
    let end : ℕ = t.offset + t.len in
    let there = mem_of_filter (is_use ObjectRole) t ts h in
    let e = tested format m t k in
    let q : Kind = e.kind in
    let count : ℕ = count_at m at in
    let vat : ℕ = value_offset m at in
    let said : kind_at format m at ≡ Some q = e.said in
    let kb = kind-back format m at q said in
    let test : IsTrue (is_container m ts (q, vat)) =
    list_all_mem (is_container m ts) (values format m ts) (q, vat) c
    (mem_filter_map (λ (u : Tile). option_map (λ k. (k, value_offset m (payload u))) (kind_at format m (payload u)))
    t (q, vat) (object_tiles ts) h (ap (option_map (λ k. (k, value_offset m at))) said)) in
    let v : Value = value_from m ts q count vat in
    let o : Object = object_from format m ts (object_block t) in
    let value_is : o.value ≡ v = ap (λ x. value_from m ts (kind_or_text x) count vat) said in
    let n : ℕ = name_len_at m at in
    let name_len : length o.name ≡ n = read-length m (at + 16) n in
    let place : index_at o ≡ vat = ap (λ x. at + 16 + padded x) name_len in
    let back1 : IsBack ts m vat end q count v = value-back ts m q count vat end s e.value test in
    let back2 : IsBack ts m (index_at o) end q count v = subst (λ x. IsBack ts m x end q count v) (sym place) back1 in
    let back : IsBack ts m (index_at o) end q count o.value =
    subst (λ w. IsBack ts m (index_at o) end q count w) (sym value_is) back2 in
    let cls : ℕ = class_at m at in
    let small = class-if format cls n o.name (cls == 1) refl e.name in
    let cs = class-cases format cls n o.name name_len (small-cases cls small) e.name in
    let room = back.room in
    let code : code_at m at ≡ code_of (kind_of o.value) = sym kb.code ∙ ap code_of (sym back.kind) in
    let class_is : cls ≡ class_code o.class = sym cs.code in
    let kind_of_format : IsTrue (is_kind_of format (kind_of o.value)) = ap (is_kind_of format) back.kind ∙ kb.of in
    let serve : IsTrue (serves o.extent ObjectRole (object_len o.name o.value)) =
    and_from (same_role ObjectRole ObjectRole) (holds o.extent (object_len o.name o.value)) refl
    (le-leb (object_len o.name o.value + 16) t.len (omega arith)) in
    let block = object-use t there.is in
    record {
      placed = record {
        tile = t;
        mem = there.mem;
        use_of = there.is;
        offset = refl;
        room = room;
        own = mem_filter_map as_extent t (object_block t) ts there.mem block;
        own_role = refl;
        good = back.good;
        tree = back.tree;
        extents = back.mem;
      };
      is_object =
          and_from (has_good_name format o && is_kind_of format (kind_of o.value)
          && is_good_value o.value) (serves o.extent ObjectRole (object_len o.name o.value))
          (and_from (has_good_name format o && is_kind_of format (kind_of o.value)) (is_good_value o.value)
          (and_from (has_good_name format o) (is_kind_of format (kind_of o.value)) cs.good kind_of_format)
          back.good) serve;
      stands = record {
        kind_count = (let c2 = back.count_is in omega arith);
        name_class = omega arith;
        name =
            HasBytesAt-append m (at + 16) o.name (replicate (padded (length o.name) - length o.name) 0)
            (HasBytesAt-read m (at + 16) n)
            (subst (λ x. HasBytesAt m (at + 16 + x) (replicate (padded x - x) 0)) (sym name_len)
            (zeros-stand m (at + 16 + n) (padded n - n) e.padding));
        value = back.stands;
      };
      kind = said ∙ ap Some (sym back.kind);
      place = place;
      name_is = refl;
      code = code;
      class_is = class_is;
      indexed = e.indexed;
    }
