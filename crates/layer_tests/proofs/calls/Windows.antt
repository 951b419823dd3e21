-- Windows as the tests have them, and conditions of calls from the tiles that are known.
use Rattle.std.proofs.Common.{◌≡◌, sym, ap, subst, ◌∙◌, ℕ, ◌+◌, ◌%◌, ◌≤◌, Some, Bool, List, [], ◌∷◌, length, arith}
use Rattle.std.proofs.Common.{◌||◌, not, IsTrue}
use Rattle.std.specs.Prelude.{Option}
use Rattle.raw_region.specs.Memory.{WindowState, zeros, cut_at}
use Rattle.raw_region.proofs.Laws.{length-part, length-zeros}
use Rattle.raw_region.specs.Format.{current}
use Rattle.block_tags.specs.declared.tile.Role.{Role}
use Rattle.block_tags.specs.declared.tile.Tile.{Tile}
use Rattle.block_tags.specs.Format.{is_legal_size}
use Rattle.block_tags.specs.Tiles.{is_free, may_be_red}
use Rattle.block_tags.specs.Lists.{free_tile, tile_in, next_in, last_in, laid}
use Rattle.block_tags.specs.Windows.{EncodesTiles, PrefixSaysTiles, IsTiledWindow, HasTileAt, CanSplit, HasFreeNext}
use Rattle.block_tags.specs.Windows.{CanTakeUse, MayHaveColour, HasFreeLast, CanAppend}
use Rattle.block_tags.proofs.Laws.{legal}

pub length-fresh : (n : ℕ) (region : List ℕ) (c : WindowState) → region ≡ zeros n → c ≡ cut_at region 0 n
    → length c.bytes ≡ n
length-fresh n region c e f =
    let l = ap (λ (b : List ℕ). length b) e in
    ap (λ (d : WindowState). length d.bytes) f ∙ length-part region 0 n (omega (arith, length-zeros n))

-- a fresh window has a legal size
pub legal_fresh : (n : ℕ) (region : List ℕ) (c : WindowState) → region ≡ zeros n → c ≡ cut_at region 0 n
    → IsTrue (is_legal_size n) → IsTrue (is_legal_size (length c.bytes))
legal_fresh n region c e f h = subst (λ (k : ℕ). IsTrue (is_legal_size k)) (sym (length-fresh n region c e f)) h

-- a fresh window that is laid out has one free tile
pub laid_fresh : (n : ℕ) (region : List ℕ) (c d : WindowState) → region ≡ zeros n → c ≡ cut_at region 0 n
    → EncodesTiles d (laid (length c.bytes)) → EncodesTiles d (laid n)
laid_fresh n region c d e f s = subst (λ (k : ℕ). EncodesTiles d (laid k)) (length-fresh n region c e f) s

module _ (c : WindowState) (ts : List Tile) (said : EncodesTiles c ts) where
  -- the window is tiled
  pub tiled : IsTiledWindow c
  tiled = record { tiles = ts; said = said }

  -- a tile of the list is there
  pub has_tile : (at : ℕ) (t : Tile) → tile_in ts at ≡ Some t → HasTileAt c at
  has_tile at t e = record { tiles = ts; said = said; tile = t; stands = e }

  -- a tile that is long enough can be split
  pub can_split : (at len : ℕ) (t : Tile) → tile_in ts at ≡ Some t → 32 ≤ len → len % 16 ≡ 0 → len + 32 ≤ t.len
      → CanSplit c at len
  can_split at len t e long whole room =
      record { tiles = ts; said = said; tile = t; stands = e; long = long; whole = whole; room = room }

  -- a tile has a free one after it
  pub has_free_next : (at : ℕ) (t u : Tile) → tile_in ts at ≡ Some t → next_in ts at ≡ Some u → IsTrue (is_free u)
      → HasFreeNext c at
  has_free_next at t u e f free =
      record { tiles = ts; said = said; tile = t; stands = e; next = u; behind = f; free = free }

  -- a tile may be used
  pub may_be_used : (at : ℕ) (use_of : Option Role) (t : Tile) → tile_in ts at ≡ Some t
      → IsTrue (not t.red || may_be_red current use_of) → CanTakeUse c at use_of
  may_be_used at use_of t e colour = record { tiles = ts; said = said; tile = t; stands = e; colour = colour }

  -- a tile may have a colour
  pub may_have_colour : (at : ℕ) (red : Bool) (t : Tile) → tile_in ts at ≡ Some t
      → IsTrue (not red || may_be_red current t.use_of) → MayHaveColour c at red
  may_have_colour at red t e colour = record { tiles = ts; said = said; tile = t; stands = e; colour = colour }

  -- the last tile is free
  pub has_free_last : (t : Tile) → last_in ts ≡ Some t → IsTrue (is_free t) → HasFreeLast c
  has_free_last t e free = record { tiles = ts; said = said; last = t; ends = e; free = free }

-- the window of one free tile, of which the last was taken away
pub can_append : (c d : WindowState) (n : ℕ) → EncodesTiles c (free_tile 128 880 ∷ [])
    → length d.bytes ≡ length c.bytes → PrefixSaysTiles d n [] → CanAppend d n
can_append c d n old size front =
    let end = old.tags.4.0 in let start = front.tags.0 in let g = legal n front.size in let low = g.low in
    let h = legal (length c.bytes) old.size in let least = h.low in
    record {
      tiles = [];
      said = front;
      size = subst (λ (k : ℕ). IsTrue (is_legal_size k)) (sym size) old.size;
      room = omega arith;
    }
