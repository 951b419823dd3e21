-- The places of the containers of valid objects, and the bound on the visits of a tile.
use Rattle.image_check.proofs.Common.{Kind, Memory, None, Option, Role, Scalar, Some}
use Rattle.image_check.proofs.Common.{Tile, and_parts, ap, arith, container_walk_rates, count_at, false}
use Rattle.image_check.proofs.Common.{false≢true, has_name, has_padding, if◌then◌else◌, is_indexed, is_object_tile}
use Rattle.image_check.proofs.Common.{is_use, is_value_in, kind_at, leb-true, nat_le, payload, rate_of, same_role, sym}
use Rattle.image_check.proofs.Common.{true, value_offset, ℕ, ◌&&◌, ◌*◌, ◌+◌, ◌/◌, ◌==◌, ◌∙◌, ◌≡◌, ◌≤◌}
use Rattle.std.proofs.Common.{Bool}
use Rattle.block_tags.specs.declared.tile.Role.TheVariants.{Object}
use Rattle.image_check.specs.ObjectPasses.{has_value}
use Rattle.std.specs.Prelude.{option_map}
use Rattle.image_check.proofs.bytes.Members.{Mem, list_all_mem, mem_filter, mem_filter_map}
use Rattle.image_check.proofs.claims.CountedFields.{Mem-Contains}
use Rattle.image_check.proofs.Common.{Contains, IsTrue, List, class_at, code_before, has_link, has_objects, list_all}
use Rattle.image_check.proofs.Common.{name_before}
use Rattle.image_check.proofs.Common.{object_tiles, rise_by, targets, values}
use Rattle.image_check.proofs.block_collection.UsedTile.{same_role-is}

held : (p q : Bool) → (if p then q else false) ≡ true → q ≡ true
held true q h = h
held false q h = absurd (false≢true h)

value-room : (m : Memory) (k : Kind) (count at end : ℕ) → is_value_in m k count at end ≡ true → has_link k ≡ true
    → at + 24 ≤ end
value-room m (Scalar k) count at end h s = absurd (false≢true s)
value-room m other count at end h s = leb-true (at + 24) end (and_parts (count == 1) (nat_le (at + 24) end) h).1

-- a container lies in its object's tile
pub container-room : (format : ℕ) (m : Memory) (t : Tile) (k : Kind) → is_object_tile format m t ≡ true
    → kind_at format m (payload t) ≡ Some k → has_link k ≡ true
    → value_offset m (payload t) + 24 ≤ t.offset + t.len
container-room format m t k h e s =
    let at : ℕ = payload t in
    let value = has_value format m at (t.offset + t.len) in
    let all = held (has_name format m at) (value && has_padding m at && is_indexed m at) h in
    let two = and_parts (value && has_padding m at) (is_indexed m at) all in
    let one = and_parts value (has_padding m at) two.0 in
    value-room m k (count_at m at) (value_offset m at) (t.offset + t.len)
    (sym (ap (λ o. elim o [
      | None ↦ false
      | Some j ↦ is_value_in m j (count_at m at) (value_offset m at) (t.offset + t.len)
    ]) e) ∙ one.0) s

-- an object of an image with good objects is good
pub object-good : (format : ℕ) (m : Memory) (ts : List Tile) (t : Tile) → has_objects format m ts ≡ true → Mem t ts
    → IsTrue (is_use Object t) → is_object_tile format m t ≡ true
object-good format m ts t h k u =
    list_all_mem (is_object_tile format m) (object_tiles ts) t
    (first-of (list_all (is_object_tile format m) (object_tiles ts))
    (list_all (λ at. class_at m at == 1) (targets m 32)) (list_all (λ at. class_at m at == 2) (targets m 56))
    (rise_by (name_before m) (targets m 32)) (rise_by (code_before m) (targets m 56)) h)
    (mem_filter (is_use Object) t ts k u)
  where
    first-of : (a c d e f : Bool) → (a && c && d && e && f) ≡ true → a ≡ true
    first-of a c d e f h =
        (and_parts a c (and_parts (a && c) d (and_parts (a && c && d) e (and_parts (a && c && d && e) f h).0).0).0).0

-- its value is a value of the image
pub value-mem : (format : ℕ) (m : Memory) (ts : List Tile) (t : Tile) (kind : Kind) → Mem t ts
    → IsTrue (is_use Object t) → kind_at format m (payload t) ≡ Some kind
    → Contains (values format m ts) (kind, value_offset m (payload t))
value-mem format m ts t kind k u e =
    Mem-Contains (values format m ts) (kind, value_offset m (payload t))
    (mem_filter_map (λ t. option_map (λ k. (k, value_offset m (payload t))) (kind_at format m (payload t))) t (
      kind,
      value_offset m (payload t),
    ) (object_tiles ts) (mem_filter (is_use Object) t ts k u)
    (ap (option_map (λ (k : Kind). (k, value_offset m (payload t)))) e))

-- a value is after the words of its head
pub value-behind : (m : Memory) (at : ℕ) → at + 16 ≤ value_offset m at
value-behind m at = omega arith

-- ---- the bound of the walk

-- the walk counts at least one for each tile
pub walk-least : (u : Option Role) (n : ℕ) → 1 ≤ n → 1 ≤ rate_of container_walk_rates u * n
walk-least (Some Object) n l = omega arith
walk-least other n l = omega arith

object-rate : (u : Option Role) → elim u [ None ↦ false | Some r ↦ same_role Object r ] ≡ true
    → rate_of container_walk_rates u ≡ 12
object-rate None h = absurd (false≢true h)
object-rate (Some r) h = ap (λ x. rate_of container_walk_rates (Some x)) (sym (same_role-is Object r h))

-- the walk counts 12 for each 16 bytes of an object
pub walk-object : (t : Tile) → is_use Object t ≡ true
    → rate_of container_walk_rates t.use_of * (t.len / 16) ≡ 12 * (t.len / 16)
walk-object t h = ap (λ r. r * (t.len / 16)) (object-rate t.use_of h)
