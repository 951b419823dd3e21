-- A walk over the tiles of a window that changes on the way: each turn passes one tile.
use Rattle.best_fit.proofs.Common.{◌≡◌, refl, sym, ap, subst, ◌∙◌, ℕ, ◌+◌, ◌-◌, ◌<◌, ◌≤◌, true, false, List, [], ◌∷◌}
use Rattle.best_fit.proofs.Common.{◌++◌, length, arith, AllByRecursion}
use Rattle.best_fit.proofs.Common.{Option, Some, None, is_some, both_ways, append-nil, WindowState, Tile, first_in}
use Rattle.best_fit.proofs.Common.{next_in, HasTileAt, EncodesTiles, Gap, gap_of, gaps_of}
use Rattle.best_fit.proofs.tags.RowParts.{row_reaches}
use Rattle.best_fit.proofs.tags.TileRows.{Row, unused, used, use_cases, gaps_of-append, gaps_of-free, gaps_of-used}
use Rattle.best_fit.proofs.tile_walk.Walk.{Walk, meets, next_here, next_nearer, none_left, passed_on, to_go}

-- the walk begins with all tiles ahead
pub walk_start : (c : WindowState) (P : List Tile → List Tile → Type 0) (ts : List Tile) → EncodesTiles c ts → P [] ts
    → (ahead : Option Tile) → ((us : List Tile) → EncodesTiles c us → ahead ≡ first_in us) → Walk c P ahead
walk_start c P ts said holds ahead is = record { passed = []; rest = ts; said = said; here = is ts said; holds = holds }

-- The tile at an offset is passed: the walk continues with the tiles after it. Its colour can have changed.
pub record Passed (c : WindowState) (P : List Tile → List Tile → Type 0) (at : ℕ) : Type 0 where
  pub passed : List Tile
  pub tile : Tile
  pub back : List Tile
  pub said : EncodesTiles c (passed ++ (tile ∷ back))
  pub offset : tile.offset ≡ at
  pub holds : P (passed ++ (tile ∷ [])) back

-- a tile of the walk is passed
pub passes : (c : WindowState) (P : List Tile → List Tile → Type 0) (passed : List Tile) (tile : Tile)
    (back : List Tile) → EncodesTiles c (passed ++ (tile ∷ back)) → P (passed ++ (tile ∷ [])) back
    → Passed c P tile.offset
passes c P passed tile back said holds = record {
  passed = passed;
  tile = tile;
  back = back;
  said = said;
  offset = refl;
  holds = holds;
}

-- the tile that was passed is there
pub passed_has : (c : WindowState) (P : List Tile → List Tile → Type 0) (at : ℕ) → Passed c P at → HasTileAt c at
passed_has c P at p = subst (HasTileAt c) p.offset (meets c p.passed p.tile p.back p.said).has

-- in an equal window
pub passed_in : (P : WindowState → List Tile → List Tile → Type 0) (at : ℕ) (c d : WindowState) → d ≡ c
    → Passed c (P c) at → Passed d (P d) at
passed_in P at c d e p = let Q : WindowState → Type 0 = λ (x : WindowState). Passed x (P x) at in subst Q (sym e) p

-- the tile after it is the next one
behind_it : (c : WindowState) (P : List Tile → List Tile → Type 0) (at : ℕ) → (p : Passed c P at) → (next : Option Tile)
    → ((ts : List Tile) → EncodesTiles c ts → next ≡ next_in ts at) → next ≡ first_in p.back
behind_it c P at p next is =
    next_here c p.passed p.tile p.back p.said next
    (subst (λ k. (ts : List Tile) → EncodesTiles c ts → next ≡ next_in ts k) (sym p.offset) is)

-- the walk goes on after the tile that was passed
pub passed_goes_on : (c : WindowState) (P : List Tile → List Tile → Type 0) (at : ℕ) → Passed c P at
    → (next : Option Tile)
    → ((ts : List Tile) → EncodesTiles c ts → next ≡ next_in ts at) → Walk c P next
passed_goes_on c P at p next is =
    record {
      passed = p.passed ++ (p.tile ∷ []);
      rest = p.back;
      said = passed_on c p.passed p.tile p.back p.said;
      here = behind_it c P at p next is;
      holds = p.holds;
    }

-- the walk comes closer to the end
pub passed_nearer : (c : WindowState) (P : List Tile → List Tile → Type 0) (n : ℕ) (tile : Tile)
    → Passed c P tile.offset
    → length c.bytes ≡ n → (ahead next : Option Tile) → ahead ≡ Some tile
    → ((ts : List Tile) → EncodesTiles c ts → next ≡ next_in ts tile.offset) → to_go n next < to_go n ahead
passed_nearer c P n tile p size ahead next here is =
    subst (λ (o : Option Tile). to_go n next < to_go n o) (sym here)
    (subst (λ k. to_go n next < n - k) p.offset
    (subst (λ m. to_go m next < to_go m (Some p.tile)) size
    (next_nearer c p.passed p.tile p.back p.said next (behind_it c P tile.offset p next is))))

-- at the end all tiles are passed
pub record Ended (c : WindowState) (P : List Tile → List Tile → Type 0) : Type 0 where
  pub tiles : List Tile
  pub said : EncodesTiles c tiles
  pub holds : P tiles []

-- no tile ahead: the walk is at its end
pub walk_end : (c : WindowState) (P : List Tile → List Tile → Type 0) (ahead : Option Tile) → Walk c P ahead
    → ahead ≡ None → Ended c P
walk_end c P ahead w end =
    let none = none_left w.rest (sym end ∙ w.here) in
    record {
      tiles = w.passed;
      said = subst (EncodesTiles c) (append-nil w.passed)
          (subst (λ (ts : List Tile). EncodesTiles c (w.passed ++ ts)) none w.said);
      holds = subst (P w.passed) none w.holds;
    }

-- ---- the gaps among the tiles that are passed

-- a tile in no use is free
pub free_if : (t : Tile) → is_some t.use_of ≡ false → t.use_of ≡ None
free_if t none = elim (use_cases t) [
  | unused e ↦ e
  | used role e ↦ absurd (both_ways (is_some t.use_of) none (ap is_some e))
]

-- a block that is passed adds no gap
pub gaps_past_block : (passed : List Tile) (t : Tile) → is_some t.use_of ≡ true
    → gaps_of (passed ++ (t ∷ [])) ≡ gaps_of passed
gaps_past_block passed t some = elim (use_cases t) [
  | unused e ↦ absurd (both_ways (is_some t.use_of) (ap is_some e) some)
  | used role e ↦ gaps_of-append passed (t ∷ []) ∙ ap (λ (gs : List Gap). gaps_of passed ++ gs)
      (gaps_of-used t [] role e) ∙ append-nil (gaps_of passed)
]

-- passing a gap counts one more
pub gaps_past_gap : (passed : List Tile) (t : Tile) → t.use_of ≡ None → gaps_of (passed ++ (t ∷ [])) ≡ gaps_of
    passed ++ (gap_of t ∷ [])
gaps_past_gap passed t free = gaps_of-append passed (t ∷ []) ∙ ap (λ (gs : List Gap). gaps_of passed ++ gs)
    (gaps_of-free t [] free)

-- a property of the gaps of a row that each of them keeps
pub gaps_kept : (P Q : Gap → Type 0) (at : ℕ) (ts : List Tile) (end : ℕ) → Row at ts end
    → ((t : Tile) → 32 ≤ t.len → t.offset + t.len ≤ end → P (gap_of t) → Q (gap_of t))
    → AllByRecursion P (gaps_of ts) → AllByRecursion Q (gaps_of ts)
gaps_kept P Q at [] end r f h = tt
gaps_kept P Q at (t ∷ ts) end r f h =
    let o = r.0 in let long = r.1 in let on = row_reaches (at + t.len) ts end r.3 in
    elim (use_cases t) [
      | used role e ↦ subst (AllByRecursion Q) (sym (gaps_of-used t ts role e))
          (gaps_kept P Q (at + t.len) ts end r.3 f (subst (AllByRecursion P) (gaps_of-used t ts role e) h))
      | unused e ↦
          let all : AllByRecursion P (gap_of t ∷ gaps_of ts) = subst (AllByRecursion P) (gaps_of-free t ts e) h in
          let both : AllByRecursion Q (gap_of t ∷ gaps_of ts) =
          (f t long (omega arith) all.0, gaps_kept P Q (at + t.len) ts end r.3 f all.1) in
          subst (AllByRecursion Q) (sym (gaps_of-free t ts e)) both
    ]
