-- A row of tiles in two parts, and the last tile of a part.
use Rattle.best_fit.proofs.Common.{◌≡◌, refl, ap, ◌∙◌, ℕ, ◌+◌, ◌≤◌, Bool, false, List, [], ◌∷◌, ◌++◌, arith, ◌==◌}
use Rattle.best_fit.proofs.Common.{Option, Some, None, eq-eqb, ne_eqb, cond-true, cond-false, same_Some, none-some}
use Rattle.best_fit.proofs.Common.{Tile, tile_in, first_in, next_in, previous_in, last_in, is_free}
use Rattle.block_tags.specs.Lists.{previous_from, changed_at}
use Rattle.block_tags.proofs.Laws.{last_or, none_last}
use Rattle.best_fit.proofs.tags.TileRows.{Row, Apart}

-- ---- rows in two parts

-- the end of a row that begins at an offset
abbrev pub row_end : ℕ → List Tile → ℕ
row_end at [] = at
row_end at (t ∷ ts) = row_end (at + t.len) ts

-- a row is a row followed by another
pub row_front : (at : ℕ) (ts us : List Tile) (end : ℕ) → Row at (ts ++ us) end → Row at ts (row_end at ts)
row_front at [] us end r = refl
row_front at (t ∷ ts) us end r = (r.0, r.1, r.2, row_front (at + t.len) ts us end r.3)

-- the back of a row is a row that begins where the front ends
pub row_back : (at : ℕ) (ts us : List Tile) (end : ℕ) → Row at (ts ++ us) end → Row (row_end at ts) us end
row_back at [] us end r = r
row_back at (t ∷ ts) us end r = row_back (at + t.len) ts us end r.3

-- a row ends at or after its beginning
pub row_reaches : (at : ℕ) (ts : List Tile) (end : ℕ) → Row at ts end → at ≤ end
row_reaches at [] end r = let e = r in omega arith
row_reaches at (t ∷ ts) end r = let on = row_reaches (at + t.len) ts end r.3 in omega arith

-- ---- a tile and its neighbours

-- no tile of the list begins at this offset
abbrev pub Away : ℕ → List Tile → Type 0
Away at [] = Unit {0}
Away at (t ∷ ts) = (t.offset ≡ at → ⊥) × Away at ts

-- no tile of a row begins where it ends or later
pub row_away : (at : ℕ) (ts : List Tile) (end place : ℕ) → Row at ts end → end ≤ place → Away place ts
row_away at [] end place r l = tt
row_away at (t ∷ ts) end place r l =
    let on = row_reaches (at + t.len) ts end r.3 in let o = r.0 in let long = r.1 in
    (λ e. omega arith, row_away (at + t.len) ts end place r.3 l)

-- no tile before one of a row begins where it does
pub away_front : (at : ℕ) (front : List Tile) (t : Tile) (back : List Tile) (end : ℕ)
    → Row at (front ++ (t ∷ back)) end → Away t.offset front
away_front at front t back end r =
    let back_row = row_back at front (t ∷ back) end r in let o = back_row.0 in
    row_away at front (row_end at front) t.offset (row_front at front (t ∷ back) end r) (omega arith)

module _ (at : ℕ) (t : Tile) (behind : List Tile) (o : t.offset ≡ at) where
  -- the tile is the one at its offset
  pub tile_in-around : (before : List Tile) → Away at before → tile_in (before ++ (t ∷ behind)) at ≡ Some t
  tile_in-around [] a = cond-true (t.offset == at) (Some t) (tile_in behind at) (eq-eqb t.offset at o)
  tile_in-around (u ∷ us) a = cond-false (u.offset == at) (Some u) (tile_in (us ++ (t ∷ behind)) at)
      (ne_eqb u.offset at a.0) ∙ tile_in-around us a.1

  -- the next tile is the first tile after it
  pub next_in-around : (before : List Tile) → Away at before → next_in (before ++ (t ∷ behind)) at ≡ first_in behind
  next_in-around [] a = cond-true (t.offset == at) (first_in behind) (next_in behind at) (eq-eqb t.offset at o)
  next_in-around (u ∷ us) a = cond-false (u.offset == at) (first_in (us ++ (t ∷ behind)))
      (next_in (us ++ (t ∷ behind)) at) (ne_eqb u.offset at a.0) ∙ next_in-around us a.1

  -- the tile changes, and the tiles before it stay
  pub changed_at-around : (change : Tile → List Tile → List Tile) (before : List Tile) → Away at before
      → changed_at at change (before ++ (t ∷ behind)) ≡ before ++ change t behind
  changed_at-around change [] a = cond-true (t.offset == at) (change t behind)
      (t ∷ changed_at at change behind) (eq-eqb t.offset at o)
  changed_at-around change (u ∷ us) a =
      cond-false (u.offset == at) (change u (us ++ (t ∷ behind))) (u ∷ changed_at at change (us ++ (t ∷ behind)))
      (ne_eqb u.offset at a.0)
      ∙ ap (λ (vs : List Tile). u ∷ vs) (changed_at-around change us a.1)

  before_from : (last : Option Tile) (before : List Tile) → Away at before
      → previous_from last (before ++ (t ∷ behind)) at ≡ last_or last before
  before_from last [] a = cond-true (t.offset == at) last (previous_from (Some t) behind at) (eq-eqb t.offset at o)
  before_from last (u ∷ us) a =
      cond-false (u.offset == at) last (previous_from (Some u) (us ++ (t ∷ behind)) at) (ne_eqb u.offset at a.0)
      ∙ before_from (Some u) us a.1

  -- the previous tile is the last tile before it
  pub previous_in-around : (before : List Tile) → Away at before
      → previous_in (before ++ (t ∷ behind)) at ≡ last_in before
  previous_in-around before a = before_from None before a ∙ none_last before

-- whether the last tile of a list is free, or a given value if the list is empty
abbrev pub last_free : Bool → List Tile → Bool
last_free b [] = b
last_free b (t ∷ ts) = last_free (is_free t) ts

-- no two free tiles of the front are neighbours
pub apart_front : (b : Bool) (ts us : List Tile) → Apart b (ts ++ us) → Apart b ts
apart_front b [] us a = tt
apart_front b (t ∷ ts) us a = (a.0, apart_front (is_free t) ts us a.1)

-- no two free tiles of the back are neighbours, nor its first one and the last of the front
pub apart_back : (b : Bool) (ts us : List Tile) → Apart b (ts ++ us) → Apart (last_free b ts) us
apart_back b [] us a = a
apart_back b (t ∷ ts) us a = apart_back (is_free t) ts us a.1

-- two lists without free neighbours, even where they meet, form one
pub apart_joined : (b : Bool) (ts us : List Tile) → Apart b ts → Apart (last_free b ts) us → Apart b (ts ++ us)
apart_joined b [] us a c = c
apart_joined b (t ∷ ts) us a c = (a.0, apart_joined (is_free t) ts us a.1 c)

-- the tiles are some tiles and a last one
pub record EndsWith (ts : List Tile) (p : Tile) : Type 0 where
  pub front : List Tile
  pub list : ts ≡ front ++ (p ∷ [])

ends_step : (t p : Tile) (ts : List Tile) → EndsWith ts p → EndsWith (t ∷ ts) p
ends_step t p ts e = record { front = t ∷ e.front; list = ap (λ (us : List Tile). t ∷ us) e.list }

-- a list with a last tile ends with it
pub last_in-EndsWith : (ts : List Tile) (p : Tile) → last_in ts ≡ Some p → EndsWith ts p
last_in-EndsWith [] p e = absurd (none-some p e)
last_in-EndsWith (t ∷ []) p e = record { front = []; list = ap (λ (u : Tile). u ∷ []) (same_Some t p e) }
last_in-EndsWith (t ∷ u ∷ ts) p e = ends_step t p (u ∷ ts) (last_in-EndsWith (u ∷ ts) p e)

-- whether the last is free
abbrev pub is_free_option : Option Tile → Bool
is_free_option o = elim o [ None ↦ false | Some t ↦ is_free t ]

-- whether the last tile is free, by both functions
pub last_free-last_in : (ts : List Tile) → last_free false ts ≡ is_free_option (last_in ts)
last_free-last_in [] = refl
last_free-last_in (t ∷ []) = refl
last_free-last_in (t ∷ u ∷ ts) = last_free-last_in (u ∷ ts)
