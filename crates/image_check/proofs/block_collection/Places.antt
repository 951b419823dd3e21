-- The offsets of the tiles of good tags, and their payloads.
use Rattle.image_check.proofs.Common.{IsTrue, List, Memory, Role, Row, Some, Tile, [], and_parts, ap, arith, eqb-true}
use Rattle.image_check.proofs.Common.{has_tags, is_use, refl, tile_of}
use Rattle.image_check.proofs.Common.{tiles_of, ℕ, ◌%◌, ◌&&◌, ◌+◌, ◌-◌, ◌==◌, ◌∙◌, ◌∷◌, ◌≡◌, ◌≤◌}
use Rattle.image_check.proofs.bytes.Members.{Mem, find_mem}
use Rattle.image_check.proofs.frame.Tags.{has_tags-AreWholeTiles}
use mathlib.Core.Logic.{inl, inr}

-- a tile of a row
pub record InRow (at end : ℕ) (t : Tile) : Type 0 where
  pub low : at ≤ t.offset
  pub high : t.offset + t.len ≤ end
  pub long : 32 ≤ t.len
  pub even : t.len % 16 ≡ 0
  pub whole : at % 16 ≡ 0 → t.offset % 16 ≡ 0

row-end : (at : ℕ) (ts : List Tile) (end : ℕ) → Row at ts end → at ≤ end
row-end at [] end a = omega arith
row-end at (u ∷ ts) end a = let l = row-end (at + u.len) ts end a.3 in omega arith

-- a tile of a row is in it
pub in_row : (at : ℕ) (ts : List Tile) (end : ℕ) (t : Tile) → Row at ts end → Mem t ts → InRow at end t
in_row at [] end t a h = absurd h
in_row at (u ∷ ts) end t a (inl e) =
    let o = ap (λ (x : Tile). x.offset) e in
    let n = ap (λ (x : Tile). x.len) e in
    let here = a.0 in
    let long = a.1 in
    let even = a.2 in
    let l = row-end (at + u.len) ts end a.3 in
    record {
      low = omega arith;
      high = omega arith;
      long = omega arith;
      even = ap (λ x. x % 16) n ∙ even;
      whole = λ w. omega arith;
    }
in_row at (u ∷ ts) end t a (inr h) =
    let k = in_row (at + u.len) ts end t a.3 h in
    let low = k.low in
    let even = a.2 in
    record { low = omega arith; high = k.high; long = k.long; even = k.even; whole = λ w. k.whole (omega arith) }

-- a payload of a tile
pub record IsInside (n size : ℕ) : Type 0 where
  pub aligned : n % 16 ≡ 0
  pub low : 144 ≤ n
  pub high : n + 16 ≤ size

-- a tile that was found, with the role and the payload
pub record Found (ts : List Tile) (role : Role) (n size : ℕ) (t : Tile) : Type 0 where
  pub mem : Mem t ts
  pub use_of : IsTrue (is_use role t)
  pub there : t.offset + 16 ≡ n
  pub lies : InRow 128 (size - 16) t

-- a tile that is found by role and payload has them
pub found : (format : ℕ) (m : Memory) (size : ℕ) (role : Role) (n : ℕ) (t : Tile) → IsTrue (has_tags format m size)
    → tile_of (tiles_of m size) role n ≡ Some t → Found (tiles_of m size) role n size t
found format m size role n t h e =
    let k = find_mem (λ (u : Tile). is_use role u && (u.offset + 16 == n)) t (tiles_of m size) e in
    let parts = and_parts (is_use role t) (t.offset + 16 == n) k.is in
    record {
      mem = k.mem;
      use_of = parts.0;
      there = eqb-true (t.offset + 16) n parts.1;
      lies = in_row 128 (tiles_of m size) (size - 16) t (has_tags-AreWholeTiles format m size h).row k.mem;
    }

-- the payload of a found tile lies in the window
pub payload-inside : (format : ℕ) (m : Memory) (size : ℕ) (role : Role) (n : ℕ) (t : Tile)
    → IsTrue (has_tags format m size) → tile_of (tiles_of m size) role n ≡ Some t → IsInside n size
payload-inside format m size role n t h e =
    let f = found format m size role n t h e in
    let at = f.there in
    let low = f.lies.low in
    let high = f.lies.high in
    let long = f.lies.long in
    let whole = f.lies.whole refl in
    record { aligned = omega arith; low = omega arith; high = omega arith }
