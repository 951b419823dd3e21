-- All tests of the objects together, and their visits.
use Rattle.image_check.proofs.Common.{HasTiles, Kind, List, Memory, None, Option, Role, Some}
use Rattle.image_check.proofs.Common.{Tile, WindowState, [], and_from, and_parts, ap, are_distinct, are_ranked, arith}
use Rattle.image_check.proofs.Common.{both_ways, bytes_of, cases_Bool, class_at, code_before, cond, cond-true, count_at}
use Rattle.image_check.proofs.Common.{eqb-true, false, false≢true, has_index, has_indexes, has_name, has_objects}
use Rattle.image_check.proofs.Common.{has_padding, is_indexed, is_object_tile, is_right_tile, is_some, is_use}
use Rattle.image_check.proofs.Common.{is_value_in, kind_at, length, list_all, name_before, name_len_at, object_tiles}
use Rattle.image_check.proofs.Common.{object_walk_rates, rate_of, refl, rise_by, subst, sym, targets, tile_of, true}
use Rattle.image_check.proofs.Common.{value_offset, weigh, ℕ, ◌&&◌, ◌*◌, ◌++◌, ◌+◌, ◌-◌, ◌/◌, ◌==◌, ◌∙◌, ◌∷◌, ◌≡◌, ◌≤◌}
use Rattle.std.proofs.Common.{Bool}
use Rattle.block_tags.specs.declared.tile.Role.TheVariants.{Object}
use Rattle.image_check.specs.ObjectPasses.{HaveHeads, entry_rates, is_spelled, is_value_room}
use Rattle.image_check.specs.ObjectPasses.{has_value}
use Rattle.image_check.specs.Passes.{tiles_in}
use Rattle.image_check.specs.Visits.{object_rates}
use Rattle.image_check.proofs.indexes.ObjectOrder.{index-said}
use Rattle.image_check.proofs.block_collection.Places.{in_row}
use Rattle.image_check.proofs.frame.Tags.{image-row}
use Rattle.image_check.proofs.read_off.Numbers.{unguarded}
use Rattle.image_check.proofs.bytes.Members.{find_mem, is_among-Mem, list_all_mem}
use Rattle.image_check.proofs.objects.OneObject.{room-said, value-parts}
use mathlib.Core.Logic.{inl, inr}

-- ---- the objects, tile by tile

right-if : (b : Bool) (format : ℕ) (m : Memory) (t : Tile) (ts us : List Tile)
    → list_all (is_right_tile format m) ts ≡ list_all (is_object_tile format m) us
    → (cond b (is_object_tile format m t) true && list_all (is_right_tile format m) ts)
    ≡ list_all (is_object_tile format m) (cond b (t ∷ us) us)
right-if true format m t ts us e = ap (λ x. is_object_tile format m t && x) e
right-if false format m t ts us e = e

-- the tiles are right where the objects' are
pub all-right : (format : ℕ) (m : Memory) (ts : List Tile)
    → list_all (is_right_tile format m) ts ≡ list_all (is_object_tile format m) (object_tiles ts)
all-right format m [] = refl
all-right format m (t ∷ ts) = right-if (is_use Object t) format m t ts (object_tiles ts) (all-right format m ts)

-- ---- the bounds of a valid object

some-value : (m : Memory) (o : Option Kind) (count start end : ℕ)
    → elim o [ None ↦ false | Some k ↦ is_value_in m k count start end ] ≡ true → start ≤ end
some-value m None count start end h = absurd (false≢true h)
some-value m (Some k) count start end h =
    (room-said k count start end (and_parts (is_value_room k count start end) (is_spelled m k count start)
    (sym (value-parts m k count start end) ∙ h)).0).behind

-- the object's name lies in its tile
name-within : (format : ℕ) (m : Memory) (t : Tile) → is_object_tile format m t ≡ true
    → t.offset + 16 + 16 + name_len_at m (t.offset + 16) ≤ t.offset + t.len
name-within format m t h =
    let at : ℕ = t.offset + 16 in
    let p = unguarded (has_name format m at) (has_value format m at (t.offset + t.len) && has_padding m at
    && is_indexed m at) h in
    let q = and_parts (has_value format m at (t.offset + t.len) && has_padding m at) (is_indexed m at) p.1 in
    let v = (and_parts (has_value format m at (t.offset + t.len)) (has_padding m at) q.0).0 in
    let l : t.offset + 16 + 16 + (name_len_at m (t.offset + 16) + 7) / 8 * 8 ≤ t.offset + t.len =
    some-value m (kind_at format m at) (count_at m at) (value_offset m at) (t.offset + t.len) v in
    omega arith

-- so do the heads of the targets of an index
pub heads-of : (format : ℕ) (w : WindowState) (at : ℕ) → HasTiles w.bytes
    → has_index (bytes_of w.bytes) (tiles_in w.bytes) at ≡ true
    → list_all (is_right_tile format (bytes_of w.bytes)) (tiles_in w.bytes) ≡ true
    → HaveHeads (bytes_of w.bytes) at (length w.bytes)
heads-of format w at h i r n a =
    by-tile (tile_of (tiles_in w.bytes) Object n) refl
    ((index-said (bytes_of w.bytes) (tiles_in w.bytes) at i).good n (is_among-Mem (targets (bytes_of w.bytes) at) n a))
  where
    by-tile : (o : Option Tile) → tile_of (tiles_in w.bytes) Object n ≡ o → is_some o ≡ true
        → n + 16 + name_len_at (bytes_of w.bytes) n ≤ length w.bytes
    by-tile None e s = absurd (false≢true s)
    by-tile (Some t) e s =
        let m : Memory = bytes_of w.bytes in
        let ts : List Tile = tiles_in w.bytes in
        let f = find_mem (λ (t : Tile). is_use Object t && (t.offset + 16 == n)) t ts e in
        let p = and_parts (is_use Object t) (t.offset + 16 == n) f.is in
        let there : t.offset + 16 ≡ n = eqb-true (t.offset + 16) n p.1 in
        let right = sym (cond-true (is_use Object t) (is_object_tile format m t) true p.0)
        ∙ list_all_mem (is_right_tile format m) ts t r f.mem in
        let name = name-within format m t right in
        let in_it = (in_row 128 ts (length w.bytes - 16) t (image-row w.bytes h) f.mem).high in
        let long : t.offset + 16 + 16 + name_len_at m (t.offset + 16) ≤ length w.bytes = omega arith in
        subst (λ n. n + 16 + name_len_at m n ≤ length w.bytes) there long

-- ---- all together

module _ (format : ℕ) (m : Memory) (ts : List Tile) where
  pub record AreRight : Type 0 where
    pub tiles : list_all (is_right_tile format m) ts ≡ true
    pub named : are_ranked 1 m (targets m 32) ≡ true
    pub unique : are_ranked 2 m (targets m 56) ≡ true

  abbrev named_class : Bool
  named_class = list_all (λ at. class_at m at == 1) (targets m 32)

  abbrev unique_class : Bool
  unique_class = list_all (λ at. class_at m at == 2) (targets m 56)

  abbrev names_rise : Bool
  names_rise = rise_by (name_before m) (targets m 32)

  abbrev kinds_rise : Bool
  kinds_rise = rise_by (code_before m) (targets m 56)

  abbrev objects_right : Bool
  objects_right = list_all (is_object_tile format m) (object_tiles ts)

  right-parts : has_objects format m ts ≡ true → AreRight
  right-parts h =
      let a = and_parts (objects_right && named_class && unique_class && names_rise) kinds_rise h in
      let b = and_parts (objects_right && named_class && unique_class) names_rise a.0 in
      let c = and_parts (objects_right && named_class) unique_class b.0 in
      let d = and_parts objects_right named_class c.0 in
      record {
        tiles = all-right format m ts ∙ d.0;
        named = and_from named_class names_rise d.1 b.1;
        unique = and_from unique_class kinds_rise c.1 a.1;
      }

  -- right tiles and ranked indexes: all objects are right
  pub right-from : list_all (is_right_tile format m) ts ≡ true → are_ranked 1 m (targets m 32) ≡ true
      → are_ranked 2 m (targets m 56) ≡ true → has_objects format m ts ≡ true
  right-from t n u =
      let p = and_parts named_class names_rise n in
      let q = and_parts unique_class kinds_rise u in
      and_from (objects_right && named_class && unique_class && names_rise) kinds_rise
      (and_from (objects_right && named_class && unique_class) names_rise
      (and_from (objects_right && named_class) unique_class
      (and_from objects_right named_class (sym (all-right format m ts) ∙ t) p.0) q.0) p.1) q.1

  wrong-where : (b : Bool) → b ≡ false → (AreRight → b ≡ true) → has_objects format m ts ≡ false
  wrong-where b e f = elim (cases_Bool (has_objects format m ts)) [
    | inl h ↦ absurd (both_ways b e (f (right-parts h)))
    | inr h ↦ h
  ]

  -- a wrong tile fails the test of objects
  pub wrong-tiles : list_all (is_right_tile format m) ts ≡ false → has_objects format m ts ≡ false
  wrong-tiles e = wrong-where (list_all (is_right_tile format m) ts) e (λ r. r.tiles)

  -- names that are not ranked fail the test of objects
  pub wrong-named : are_ranked 1 m (targets m 32) ≡ false → has_objects format m ts ≡ false
  wrong-named e = wrong-where (are_ranked 1 m (targets m 32)) e (λ r. r.named)

  -- kinds that are not ranked fail the test of objects
  pub wrong-unique : are_ranked 2 m (targets m 56) ≡ false → has_objects format m ts ≡ false
  wrong-unique e = wrong-where (are_ranked 2 m (targets m 56)) e (λ r. r.unique)

-- ---- the indexes

-- right indexes: the index of names is right
pub named-index : (m : Memory) (ts : List Tile) → has_indexes m ts ≡ true → has_index m ts 32 ≡ true
named-index m ts h =
    (and_parts (has_index m ts 32) (has_index m ts 56)
    (and_parts (has_index m ts 32 && has_index m ts 56) (are_distinct (targets m 32 ++ targets m 56)) h).0).0

-- right indexes: the index of kinds is right
pub unique-index : (m : Memory) (ts : List Tile) → has_indexes m ts ≡ true → has_index m ts 56 ≡ true
unique-index m ts h =
    (and_parts (has_index m ts 32) (has_index m ts 56)
    (and_parts (has_index m ts 32 && has_index m ts 56) (are_distinct (targets m 32 ++ targets m 56)) h).0).1

-- ---- visits

rates-sum : (o : Option Role) (x : ℕ)
    → rate_of object_rates o * x ≡ rate_of object_walk_rates o * x + rate_of entry_rates o * x
rates-sum (Some Object) x = omega arith
rates-sum other x = omega arith

-- the walk and the entries together
pub weights-sum : (ts : List Tile) → weigh object_rates ts ≡ weigh object_walk_rates ts + weigh entry_rates ts
weights-sum [] = refl
weights-sum (t ∷ ts) = let h = rates-sum t.use_of (t.len / 16) in let r = weights-sum ts in omega arith
