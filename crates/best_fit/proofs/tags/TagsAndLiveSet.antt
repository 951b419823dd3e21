-- The live set of a window's tags, and the tags of a live set.
use Rattle.best_fit.proofs.Common.{◌≡◌, refl, sym, ap, subst, ◌∙◌, ℕ, ◌-◌, ◌%◌, ◌≤◌, inl, false, List, ◌++◌, length}
use Rattle.best_fit.proofs.Common.{arith, IsTrue, map, and_from, WindowState, bytes_of, Tile, current, is_legal_size}
use Rattle.best_fit.proofs.Common.{EncodesTiles, good_tags_say_tiles, legal, tiles_are_read_off, LiveSet, gaps}
use Rattle.best_fit.proofs.Common.{is_proper, proper_from, span, IsFreeTree, IsHeap, EncodesLiveSet, live_of, gaps_of}
use Rattle.best_fit.proofs.Common.{tiles_in}
use Rattle.block_tags.proofs.Laws.{tiles_fill_the_window}
use Rattle.best_fit.proofs.extents.Changes.{is_proper-IsProper}
use Rattle.best_fit.proofs.extents.Gaps.{gap_between-none}
use Rattle.best_fit.proofs.tags.TileRows.{Row, AreContiguous-Row, Apart, is_merged-Apart, Apart-is_merged, extents_of}
use Rattle.best_fit.proofs.tags.TileRows.{gaps_from-row, proper_from-row, spans_from-row, span_between-none}

-- a legal size, as facts
pub record IsLegal (n : ℕ) : Type 0 where
  pub low : 144 ≤ n
  pub high : n ≤ 1073741824
  pub whole : n % 16 ≡ 0

-- a legal size as a test, and its parts
pub legal_size : (n : ℕ) → IsTrue (is_legal_size n) → IsLegal n
legal_size n h = let l = legal n h in record { low = l.low; high = l.high; whole = l.whole }

-- the tags of a window describe these tiles, and no two free ones are neighbours
pub record SaysHeap (c : WindowState) (ts : List Tile) : Type 0 where
  pub said : EncodesTiles c ts
  pub apart : Apart false ts

-- tags that describe tiles without free neighbours
pub says_of : (c : WindowState) (ts : List Tile) → EncodesTiles c ts → Apart false ts → SaysHeap c (tiles_in c)
says_of c ts said apart = subst (SaysHeap c) (sym (tiles_are_read_off c ts said))
    (record { said = said; apart = apart })

-- the live set of tiles
abbrev pub live_in : ℕ → List Tile → LiveSet
live_in n ts = record { size = n; extents = extents_of ts }

-- the tiles of a window are a row
pub said_row : (c : WindowState) (ts : List Tile) → EncodesTiles c ts → Row 128 ts (length c.bytes - 16)
said_row c ts said = AreContiguous-Row current 128 ts (length c.bytes - 16) (tiles_fill_the_window c ts said)

-- a heap's tags describe its tiles
pub heap-says : (c : WindowState) → IsHeap current c.bytes → SaysHeap c (tiles_in c)
unfolding live_of
heap-says c h =
    let good = (good_tags_say_tiles c (is_proper-IsProper (live_of c.bytes) h.proper).size).0 h.tiles.tags in
    says_of c good.0 good.1 (is_merged-Apart good.0 good.2)

-- the extents of the tiles of tags are proper
pub proper_live : (n : ℕ) (ts : List Tile) → IsTrue (is_legal_size n) → Row 128 ts (n - 16) → Apart false ts
    → IsTrue (is_proper (live_in n ts))
unfolding is_proper
proper_live n ts size row apart =
    and_from (is_legal_size n) (proper_from 128 (extents_of ts) (n - 16)) size
    (proper_from-row false 128 128 ts (n - 16) (inl (refl, refl)) refl row apart)

-- such tags with a good free tree lay out their live set
pub says-EncodesLiveSet : (c : WindowState) (ts : List Tile) → SaysHeap c ts → IsFreeTree current (bytes_of c.bytes)
    (live_in (length c.bytes) ts) → EncodesLiveSet current c.bytes (live_in (length c.bytes) ts)
says-EncodesLiveSet c ts s free =
    let n = length c.bytes in
    let row = said_row c ts s.said in
    let one = tiles_are_read_off c ts s.said in
    record {
      size = refl;
      proper = proper_live n ts s.said.size row s.apart;
      tiles = record {
        tags = (good_tags_say_tiles c s.said.size).1 (ts, s.said, Apart-is_merged false ts s.apart);
        tiles = ap (λ (us : List Tile). map span us) one
            ∙ sym (spans_from-row false 128 128 ts (n - 16) (inl (refl, refl)) row s.apart
            ∙ ap (λ ss. ss ++ map span ts) (span_between-none 128 128 (omega arith)));
      };
      free = free;
    }

-- and these extents are the window's live set
pub says-live : (c : WindowState) (ts : List Tile) → SaysHeap c ts → live_of c.bytes ≡ live_in (length c.bytes) ts
unfolding live_of
says-live c ts s = λ i. record { size = length c.bytes; extents = extents_of (tiles_are_read_off c ts s.said i) }

-- the gaps are the free tiles
pub gaps-live_in : (n : ℕ) (ts : List Tile) → Row 128 ts (n - 16) → Apart false ts → gaps (live_in n ts) ≡ gaps_of ts
unfolding gaps
gaps-live_in n ts row apart =
    gaps_from-row false 128 128 ts (n - 16) (inl (refl, refl)) row apart
    ∙ ap (λ gs. gs ++ gaps_of ts) (gap_between-none 128 128 (omega arith))

-- the gaps of a heap's live set are the gaps of its tiles
pub heap-gaps : (c : WindowState) → IsHeap current c.bytes → gaps (live_of c.bytes) ≡ gaps_of (tiles_in c)
unfolding live_of
heap-gaps c h = let s = heap-says c h in
    gaps-live_in (length c.bytes) (tiles_in c) (said_row c (tiles_in c) s.said) s.apart
