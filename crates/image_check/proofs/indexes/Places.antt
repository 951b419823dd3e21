-- The length of an index's block, and the weight of a tile.
use Rattle.image_check.proofs.Common.{HasTiles, Index, IsTrue, List, Memory, None, Option, Rates, Role, Some, Tile}
use Rattle.image_check.proofs.Common.{[], and_parts, ap, arith, cases_Bool, cond-false, cond-true}
use Rattle.image_check.proofs.Common.{eqb-true, false, false≢true, index_capacity, is_table_link, is_use, leads_to}
use Rattle.image_check.proofs.Common.{leb-true, length, link_at, nat_le, rate_of, refl, same_role, sym}
use Rattle.image_check.proofs.Common.{tile_of, true, weigh, ℕ, ◌%◌, ◌&&◌, ◌*◌, ◌+◌, ◌-◌, ◌/◌, ◌==◌}
use Rattle.image_check.proofs.Common.{◌∙◌, ◌∷◌, ◌≡◌, ◌≤◌}
use Rattle.raw_region.specs.Memory.{word_at}
use Rattle.image_check.specs.Passes.{tiles_in}
use Rattle.image_check.proofs.bytes.Members.{Mem, find_mem}
use Rattle.image_check.proofs.block_collection.UsedTile.{same_role-is}
use Rattle.image_check.proofs.block_collection.Places.{in_row}
use Rattle.image_check.proofs.frame.Tags.{image-row}
use mathlib.Core.Logic.{inl, inr}

-- ---- the block of an index

-- the tile whose payload begins at a block of an index, with room for this many entries
pub record IsIndexRoom (ts : List Tile) (block count : ℕ) : Type 0 where
  pub tile : Tile
  pub mem : Mem tile ts
  pub use_of : IsTrue (is_use Index tile)
  pub at : block ≡ tile.offset + 16
  pub room : 8 * count + 16 ≤ tile.len

-- an index that passes its test has a block with room
pub room-of : (m : Memory) (ts : List Tile) (at block : ℕ)
    → (nat_le (word_at m (at + 8)) (index_capacity m at)
    && is_table_link ts Index (link_at m at) 8 (index_capacity m at)) ≡ true → link_at m at ≡ Some block
    → IsIndexRoom ts block (word_at m (at + 8))
room-of m ts at block h e =
    let p = and_parts (nat_le (word_at m (at + 8)) (index_capacity m at))
    (is_table_link ts Index (link_at m at) 8 (index_capacity m at)) h in
    let few = leb-true (word_at m (at + 8)) (index_capacity m at) p.0 in
    let k : is_table_link ts Index (Some block) 8 (index_capacity m at) ≡ true =
    ap (λ l. is_table_link ts Index l 8 (index_capacity m at)) (sym e) ∙ p.1 in
    elim (cases_Bool (index_capacity m at == 0)) [
      | inl z ↦ absurd (false≢true (sym
          (cond-true (index_capacity m at == 0) false (leads_to ts Index (Some block) (8 * index_capacity m at)) z)
          ∙ k))
      | inr z ↦ found (tile_of ts Index block) refl
          (sym (cond-false (index_capacity m at == 0) false
          (leads_to ts Index (Some block) (8 * index_capacity m at)) z) ∙ k) few
    ]
  where
    found : (o : Option Tile) → tile_of ts Index block ≡ o
        → elim o [ None ↦ false | Some t ↦ nat_le (8 * index_capacity m at + 16) t.len ] ≡ true
        → word_at m (at + 8) ≤ index_capacity m at → IsIndexRoom ts block (word_at m (at + 8))
    found None f g few = absurd (false≢true g)
    found (Some t) f g few =
        let w = find_mem (λ (t : Tile). is_use Index t && (t.offset + 16 == block)) t ts f in
        let q = and_parts (is_use Index t) (t.offset + 16 == block) w.is in
        let long = leb-true (8 * index_capacity m at + 16) t.len g in
        record {
          tile = t;
          mem = w.mem;
          use_of = q.0;
          at = sym (eqb-true (t.offset + 16) block q.1);
          room = omega arith;
        }

-- the links in the block of an index lie in the window
pub room-inside : (b : List ℕ) (block count : ℕ) → HasTiles b → IsIndexRoom (tiles_in b) block count
    → (block % 8 ≡ 0) × (block + 8 * count ≤ length b)
room-inside b block count h r =
    let i = in_row 128 (tiles_in b) (length b - 16) r.tile (image-row b h) r.mem in
    let whole = i.whole refl in
    let high = i.high in
    let at = r.at in
    let long = r.room in
    (omega arith, omega arith)

-- ---- weights

used-as : (r : Role) (o : Option Role) → IsTrue (elim o [ None ↦ false | Some s ↦ same_role r s ]) → o ≡ Some r
used-as r None h = absurd (false≢true h)
used-as r (Some s) h = ap Some (sym (same_role-is r s h))

-- a tile of a role weighs no more than all
pub weigh-one : (r : Rates) (ts : List Tile) (t : Tile) (role : Role) → Mem t ts → IsTrue (is_use role t)
    → rate_of r (Some role) * (t.len / 16) ≤ weigh r ts
weigh-one r [] t role h u = absurd h
weigh-one r (s ∷ ts) t role (inl e) u =
    let k : rate_of r (Some role) * (t.len / 16) ≡ rate_of r s.use_of * (s.len / 16) =
    ap (λ o. rate_of r o * (t.len / 16)) (sym (used-as role t.use_of u))
    ∙ ap (λ (x : Tile). rate_of r x.use_of * (x.len / 16)) e in
    omega arith
weigh-one r (s ∷ ts) t role (inr h) u = let l = weigh-one r ts t role h u in omega arith
