-- Each block of the map is a block of the live set of the bytes.
use Rattle.image_check.proofs.Common.{AreBlocks, Block, Blocks, Extent, IsTrue, List, None, Option, Role, Some, Tile}
use Rattle.image_check.proofs.Common.{[], and_parts, as_extent, block_at, cond, cons_option, eq-eqb}
use Rattle.image_check.proofs.Common.{eqb-true, false, filter_map, handle, is_live_in, is_use, list_any}
use Rattle.image_check.proofs.Common.{or_left, or_right, refl, tile_of, true, ℕ, ◌&&◌, ◌+◌, ◌==◌}
use Rattle.image_check.proofs.Common.{◌∷◌, ◌≡◌}
use Rattle.std.proofs.Common.{Bool}
use Rattle.best_fit.specs.Heap.{live_of}
use Rattle.image_check.specs.Passes.{tiles_in}
use Rattle.image_check.proofs.block_collection.Lookup.{use-of}

-- whether an extent of the list has the handle
abbrev has_handle : ℕ → List Extent → Bool
has_handle h xs = list_any (λ (x : Extent). handle x == h) xs

here-live : (offset len h : ℕ) (role : Role) (red : Bool) (xs : List Extent) (u : Option Role) → u ≡ Some role
    → offset + 16 ≡ h
    → IsTrue (has_handle h (cons_option (as_extent (record { offset = offset; len = len; use_of = u; red = red })) xs))
here-live offset len h role red xs None e f = absurd (cc)
here-live offset len h role red xs (Some r) e f =
    or_left (offset + 16 == h) (has_handle h xs) (eq-eqb (offset + 16) h f)

behind-live : (h : ℕ) (o : Option Extent) (xs : List Extent) → IsTrue (has_handle h xs)
    → IsTrue (has_handle h (cons_option o xs))
behind-live h None xs l = l
behind-live h (Some x) xs l = or_right (handle x == h) (has_handle h xs) l

-- a tile that is found by its role and payload
tile-live : (ts : List Tile) (role : Role) (h : ℕ) (t : Tile) → tile_of ts role h ≡ Some t
    → IsTrue (has_handle h (filter_map as_extent ts))
tile-live [] role h t e = absurd (cc)
tile-live (u ∷ ts) role h t e = by (is_use role u && (u.offset + 16 == h)) refl e (tile-live ts role h t)
  where
    by : (b : Bool) → (is_use role u && (u.offset + 16 == h)) ≡ b → cond b (Some u) (tile_of ts role h) ≡ Some t
        → (tile_of ts role h ≡ Some t → IsTrue (has_handle h (filter_map as_extent ts)))
        → IsTrue (has_handle h (filter_map as_extent (u ∷ ts)))
    by true e f rest =
        let p = and_parts (is_use role u) (u.offset + 16 == h) e in
        here-live u.offset u.len h role u.red (filter_map as_extent ts) u.use_of (use-of u.use_of role p.0)
        (eqb-true (u.offset + 16) h p.1)
    by false e f rest = behind-live h (as_extent u) (filter_map as_extent ts) (rest f)

-- a block of the map is in use
pub block_live : (b : List ℕ) (es : Blocks) (h : ℕ) (block : Block) → AreBlocks (tiles_in b) es
    → block_at es h ≡ Some block → IsTrue (is_live_in (live_of b) h)
unfolding live_of
block_live b es h block blocks e = let w = blocks.tiles h block e in tile-live (tiles_in b) block.role h w.tile w.is
