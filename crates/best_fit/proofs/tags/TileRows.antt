-- Tiles in a row: each begins at the end of the one before it. The tiles of a heap are the extents and the gaps of its
-- live set.
use Rattle.best_fit.proofs.Common.{◌≡◌, refl, sym, ap, subst, ◌∙◌, ℕ, ◌+◌, ◌-◌, ◌%◌, ◌<◌, ◌≤◌, ◌⊎◌, Bool, true, false}
use Rattle.best_fit.proofs.Common.{◌&&◌, ◌||◌, not, List, [], ◌∷◌, ◌++◌, arith, nat_lt, nat_le, ◌==◌, IsTrue, Option}
use Rattle.best_fit.proofs.Common.{Some, None, map, filter_map, cons_option, false≢true, and_parts, and_from}
use Rattle.best_fit.proofs.Common.{eqb-true, leb-true, cond-true, cond-false, lt-ltb, le-ltb, append-nil}
use Rattle.best_fit.proofs.Common.{filter_map-append, inl, inr, Role, Tile, is_free, is_merged, may_be_red, Extent}
use Rattle.best_fit.proofs.Common.{Gap, Span, gap_between, gaps_from, span_between, spans_from, proper_from, span}
use Rattle.best_fit.proofs.Common.{as_extent, as_gap, gap_of, gaps_of}
use Rattle.std.specs.Prelude.{is_none}
use Rattle.block_tags.specs.Lists.{AreContiguous}
use Rattle.best_fit.proofs.extents.Proper.{IsHole, IsFirst-proper_from, IsHole-is_hole}
use Rattle.best_fit.proofs.extents.Gaps.{gap_between-some, gap_between-none}

-- ---- rows

-- the tiles from a place up to another
abbrev pub Row : ℕ → List Tile → ℕ → Type 0
Row at [] end = at ≡ end
Row at (t ∷ ts) end = (t.offset ≡ at) × (32 ≤ t.len) × (t.len % 16 ≡ 0) × Row (at + t.len) ts end

-- tiles that fill a range are a row
pub AreContiguous-Row : (format at : ℕ) (ts : List Tile) (end : ℕ) → AreContiguous format at ts end → Row at ts end
AreContiguous-Row format at [] end h = h
AreContiguous-Row format at (t ∷ ts) end h =
    let sizes = and_parts (nat_le 32 t.len) (t.len % 16 == 0)
    (and_parts (nat_le 32 t.len && (t.len % 16 == 0)) (not t.red || may_be_red format t.use_of) h.1).0 in
    (h.0, leb-true 32 t.len sizes.0, eqb-true (t.len % 16) 0 sizes.1, AreContiguous-Row format (at + t.len) ts end h.2)

-- no two free tiles are neighbours, after a tile that is free or not
abbrev pub Apart : Bool → List Tile → Type 0
Apart b [] = Unit {0}
Apart b (t ∷ ts) = (IsTrue b → IsTrue (is_free t) → ⊥) × Apart (is_free t) ts

-- two tests do not both hold
pub not_both : (a b : Bool) → IsTrue (not (a && b)) → IsTrue a → IsTrue b → ⊥
not_both true true h g i = false≢true h
not_both true false h g i = false≢true i
not_both false b h g i = false≢true g

-- if not both conditions hold, the test of "not both" passes
pub from_not_both : (a b : Bool) → (IsTrue a → IsTrue b → ⊥) → IsTrue (not (a && b))
from_not_both true true h = absurd (h refl refl)
from_not_both true false h = refl
from_not_both false b h = refl

-- in a merged list no two free tiles are neighbours
merged_behind : (t : Tile) (ts : List Tile) → IsTrue (is_merged (t ∷ ts)) → Apart (is_free t) ts
merged_behind t [] h = tt
merged_behind t (u ∷ ts) h =
    let two = and_parts (not (is_free t && is_free u)) (is_merged (u ∷ ts)) h in
    (not_both (is_free t) (is_free u) two.0, merged_behind u ts two.1)

-- no two free tiles are neighbours, as a test and as a property
pub is_merged-Apart : (ts : List Tile) → IsTrue (is_merged ts) → Apart false ts
is_merged-Apart [] h = tt
is_merged-Apart (t ∷ ts) h = (λ no. absurd (false≢true no), merged_behind t ts h)

-- and a list without free neighbours is merged
pub Apart-is_merged : (b : Bool) (ts : List Tile) → Apart b ts → IsTrue (is_merged ts)
Apart-is_merged b [] a = refl
Apart-is_merged b (t ∷ []) a = refl
Apart-is_merged b (t ∷ u ∷ ts) a =
    and_from (not (is_free t && is_free u)) (is_merged (u ∷ ts)) (from_not_both (is_free t) (is_free u) a.1.0)
    (Apart-is_merged (is_free t) (u ∷ ts) a.1)

-- a list that can follow a free tile can follow any tile
pub Apart-weaker : (b : Bool) (ts : List Tile) → Apart b ts → Apart false ts
Apart-weaker b [] a = tt
Apart-weaker b (t ∷ ts) a = (λ no. absurd (false≢true no), a.1)

-- ---- the use of a tile

-- the extents of the tiles in use
abbrev pub extents_of : List Tile → List Extent
extents_of ts = filter_map as_extent ts

-- the extent of a tile in use
abbrev pub extent_of : Tile → Role → Extent
extent_of t role = record { offset = t.offset; len = t.len; role = role }

-- the cases of a tile's use
pub data Use (t : Tile) : Type 0 where
  -- a tile with no role is free
  unused : t.use_of ≡ None → Use t
  -- a tile with a role is in use
  used : (role : Role) → t.use_of ≡ Some role → Use t

use_from : (t : Tile) (u : Option Role) → t.use_of ≡ u → Use t
use_from t None e = unused e
use_from t (Some role) e = used role e

-- a tile is free or in use
pub use_cases : (t : Tile) → Use t
use_cases t = use_from t t.use_of refl

-- a tile with no role is free as a test
pub unused-free : (t : Tile) → t.use_of ≡ None → IsTrue (is_free t)
unused-free t e = ap is_none e

-- a tile with a role is not free as a test
pub used-not_free : (t : Tile) (role : Role) → t.use_of ≡ Some role → is_free t ≡ false
used-not_free t role e = ap is_none e

-- a tile that is free as a test has no role
pub free-unused : (t : Tile) → IsTrue (is_free t) → t.use_of ≡ None
free-unused t h = elim (use_cases t) [
  | unused e ↦ e
  | used role e ↦ absurd (false≢true (sym (used-not_free t role e) ∙ h))
]

abbrev extent_in : Tile → Option Role → Option Extent
extent_in t u = elim u [ None ↦ None | Some role ↦ Some (extent_of t role) ]

-- a free tile is no extent
pub extents_of-free : (t : Tile) (ts : List Tile) → t.use_of ≡ None → extents_of (t ∷ ts) ≡ extents_of ts
extents_of-free t ts e = ap (λ (u : Option Role). cons_option (extent_in t u) (extents_of ts)) e

-- a tile in use is one extent
pub extents_of-used : (t : Tile) (ts : List Tile) (role : Role) → t.use_of ≡ Some role
    → extents_of (t ∷ ts) ≡ extent_of t role ∷ extents_of ts
extents_of-used t ts role e = ap (λ (u : Option Role). cons_option (extent_in t u) (extents_of ts)) e

-- ---- spans and gaps

-- an end and an equal beginning have no gap between them
pub span_between-none : (a b : ℕ) → b ≤ a → span_between a b ≡ []
span_between-none a b l = cond-false (nat_lt a b) (record { offset = a; len = b - a; use_of = None } ∷ [])
    [] (le-ltb a b l)

-- a gap lies between an end and a later beginning
pub span_between-some : (a b : ℕ) → a < b → span_between a b ≡ record { offset = a; len = b - a; use_of = None } ∷ []
span_between-some a b l = cond-true (nat_lt a b) (record { offset = a; len = b - a; use_of = None } ∷ [])
    [] (lt-ltb a b l)

-- a free tile from a place up to the row, or nothing
abbrev pub Before : Bool → ℕ → ℕ → Type 0
Before b from at = ((b ≡ false) × (from ≡ at)) ⊎ ((b ≡ true) × (from + 32 ≤ at))

-- a free tile is the span between its ends
free_span : (t : Tile) → t.use_of ≡ None → 32 ≤ t.len → span_between t.offset (t.offset + t.len) ≡ span t ∷ []
free_span t e long =
    let len : t.offset + t.len - t.offset ≡ t.len = omega arith in
    span_between-some t.offset (t.offset + t.len) (omega arith)
    ∙ (λ i. record { offset = t.offset; len = len i; use_of = sym e i } ∷ [])

-- there is no gap before a row that follows no free tile
here_behind : (from at : ℕ) (t : Tile) → IsTrue (is_free t) → (b : Bool) → (IsTrue b → IsTrue (is_free t) → ⊥)
    → Before b from at → from ≡ at
here_behind from at t free b clash (inl e) = e.1
here_behind from at t free b clash (inr e) = absurd (clash e.0 free)

-- the spans of a row are its tiles
pub spans_from-row : (b : Bool) (from at : ℕ) (ts : List Tile) (end : ℕ) → Before b from at → Row at ts end → Apart b ts
    → spans_from from (extents_of ts) end ≡ span_between from at ++ map span ts
spans_from-row b from at [] end before row apart = ap (span_between from) (sym row)
    ∙ sym (append-nil (span_between from at))
spans_from-row b from at (t ∷ ts) end before row apart =
    elim (use_cases t) [
      | unused e ↦
          let free = unused-free t e in
          let same : from ≡ at = here_behind from at t free b apart.0 before in
          let rest = spans_from-row true t.offset (at + t.len) ts end
          (inr (refl, let o = row.0 in let long = row.1 in omega arith)) row.3
          (subst (λ (v : Bool). Apart v ts) free apart.1) in
          let start : from ≡ t.offset = same ∙ sym row.0 in
          let to : at + t.len ≡ t.offset + t.len = ap (λ x. x + t.len) (sym row.0) in
          ap (λ xs. spans_from from xs end) (extents_of-free t ts e)
          ∙ ap (λ x. spans_from x (extents_of ts) end) start ∙ rest
          ∙ ap (λ x. span_between t.offset x ++ map span ts) to ∙ ap (λ ss. ss ++ map span ts) (free_span t e row.1)
          ∙ sym (ap (λ ss. ss ++ span t ∷ map span ts) (span_between-none from at (omega arith)))
      | used role e ↦
          let free = used-not_free t role e in
          let rest = spans_from-row false (t.offset + t.len) (at + t.len) ts end
          (inl (refl, ap (λ x. x + t.len) row.0)) row.3 (subst (λ (v : Bool). Apart v ts) free apart.1) in
          let s : Span = record { offset = t.offset; len = t.len; use_of = Some role } in
          let same : s ≡ span t = λ i. record { offset = t.offset; len = t.len; use_of = sym e i } in
          ap (λ xs. spans_from from xs end) (extents_of-used t ts role e)
          ∙ ap (λ ss. span_between from t.offset ++ s ∷ ss)
          (rest ∙ ap (λ ss. ss ++ map span ts)
          (span_between-none (t.offset + t.len) (at + t.len) (let o = row.0 in omega arith)))
          ∙ ap (λ x. span_between from x ++ s ∷ map span ts) row.0
          ∙ ap (λ (u : Span). span_between from at ++ u ∷ map span ts) same
    ]

abbrev gap_in : Tile → Option Role → Option Gap
gap_in t u = elim u [ None ↦ Some (gap_of t) | Some role ↦ None ]

-- a free tile is the first gap
pub gaps_of-free : (t : Tile) (ts : List Tile) → t.use_of ≡ None → gaps_of (t ∷ ts) ≡ gap_of t ∷ gaps_of ts
gaps_of-free t ts e = ap (λ (u : Option Role). cons_option (gap_in t u) (gaps_of ts)) e

-- a tile in use is no gap
pub gaps_of-used : (t : Tile) (ts : List Tile) (role : Role) → t.use_of ≡ Some role → gaps_of (t ∷ ts) ≡ gaps_of ts
gaps_of-used t ts role e = ap (λ (u : Option Role). cons_option (gap_in t u) (gaps_of ts)) e

-- the gaps of two lists of tiles
pub gaps_of-append : (ts us : List Tile) → gaps_of (ts ++ us) ≡ gaps_of ts ++ gaps_of us
gaps_of-append ts us = filter_map-append as_gap ts us

free_gap : (t : Tile) → 32 ≤ t.len → gap_between t.offset (t.offset + t.len) ≡ gap_of t ∷ []
free_gap t long =
    let len : t.offset + t.len - t.offset ≡ t.len = omega arith in
    gap_between-some t.offset (t.offset + t.len) (omega arith) ∙ (λ i. record { offset = t.offset; len = len i } ∷ [])

-- the gaps of a row are its free tiles
pub gaps_from-row : (b : Bool) (from at : ℕ) (ts : List Tile) (end : ℕ) → Before b from at → Row at ts end → Apart b ts
    → gaps_from from (extents_of ts) end ≡ gap_between from at ++ gaps_of ts
gaps_from-row b from at [] end before row apart = ap (gap_between from) (sym row)
    ∙ sym (append-nil (gap_between from at))
gaps_from-row b from at (t ∷ ts) end before row apart =
    elim (use_cases t) [
      | unused e ↦
          let free = unused-free t e in
          let same : from ≡ at = here_behind from at t free b apart.0 before in
          let rest = gaps_from-row true t.offset (at + t.len) ts end
          (inr (refl, let o = row.0 in let long = row.1 in omega arith)) row.3
          (subst (λ (v : Bool). Apart v ts) free apart.1) in
          let start : from ≡ t.offset = same ∙ sym row.0 in
          let to : at + t.len ≡ t.offset + t.len = ap (λ x. x + t.len) (sym row.0) in
          ap (λ xs. gaps_from from xs end) (extents_of-free t ts e)
          ∙ ap (λ x. gaps_from x (extents_of ts) end) start ∙ rest
          ∙ ap (λ x. gap_between t.offset x ++ gaps_of ts) to ∙ ap (λ ss. ss ++ gaps_of ts) (free_gap t row.1)
          ∙ sym (ap (λ ss. ss ++ gaps_of (t ∷ ts)) (gap_between-none from at (omega arith)) ∙ gaps_of-free t ts e)
      | used role e ↦
          let free = used-not_free t role e in
          let rest = gaps_from-row false (t.offset + t.len) (at + t.len) ts end
          (inl (refl, ap (λ x. x + t.len) row.0)) row.3 (subst (λ (v : Bool). Apart v ts) free apart.1) in
          ap (λ xs. gaps_from from xs end) (extents_of-used t ts role e)
          ∙ ap (λ ss. gap_between from t.offset ++ ss)
          (rest ∙ ap (λ ss. ss ++ gaps_of ts)
          (gap_between-none (t.offset + t.len) (at + t.len) (let o = row.0 in omega arith)))
          ∙ ap (λ x. gap_between from x ++ gaps_of ts) row.0
          ∙ ap (λ gs. gap_between from at ++ gs) (sym (gaps_of-used t ts role e))
    ]

before_hole : (b : Bool) (from at : ℕ) → Before b from at → IsHole from at
before_hole b from at (inl e) = inl e.1
before_hole b from at (inr e) = inr e.1

-- the extents of a row are proper
pub proper_from-row : (b : Bool) (from at : ℕ) (ts : List Tile) (end : ℕ) → Before b from at → at % 16 ≡ 0
    → Row at ts end → Apart b ts
    → IsTrue (proper_from from (extents_of ts) end)
proper_from-row b from at [] end before whole row apart = IsHole-is_hole from end
    (subst (IsHole from) row (before_hole b from at before))
proper_from-row b from at (t ∷ ts) end before whole row apart =
    let o = row.0 in let long = row.1 in let len = row.2 in
    elim (use_cases t) [
      | unused e ↦
          let free = unused-free t e in
          let same : from ≡ at = here_behind from at t free b apart.0 before in
          let rest = proper_from-row true from (at + t.len) ts end (inr (refl, omega arith)) (omega arith) row.3
          (subst (λ (v : Bool). Apart v ts) free apart.1) in
          rw (extents_of-free t ts e) rest
      | used role e ↦
          let free = used-not_free t role e in
          let rest = proper_from-row false (t.offset + t.len) (at + t.len) ts end
          (inl (refl, ap (λ x. x + t.len) row.0)) (omega arith) row.3 (subst (λ (v : Bool). Apart v ts) free apart.1) in
          rw (extents_of-used t ts role e) (IsFirst-proper_from from (extent_of t role) (extents_of ts) end (record {
            hole = subst (IsHole from) (sym row.0) (before_hole b from at before);
            block = record { offset = omega arith; long = long; len = len };
            rest = rest;
          }))
    ]
