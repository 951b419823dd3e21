-- The gaps are the maximal intervals that meet no extent.
use Rattle.best_fit.proofs.Common.{◌≡◌, refl, subst, ℕ, ◌+◌, ◌-◌, ◌<◌, ◌≤◌, ◌⊎◌, List, [], ◌∷◌, ◌++◌, arith, IsTrue}
use Rattle.best_fit.proofs.Common.{All, All-nil, All-cons, All-head, All-tail, All-weaker, inl, inr, Extent, LiveSet}
use Rattle.best_fit.proofs.Common.{Gap, end_of, gap_between, gaps_from, gaps, is_proper, proper_from}
use Rattle.std.specs.Prelude.{Contains}
use Rattle.std.proofs.lemmas.List.Elements.{All-contains, Contains-append_left, Contains-append_right}
use Rattle.best_fit.specs.Extents.{GapsAreMaximal, IsOutsideRange, IsMaximal, MeetsNone}
use Rattle.best_fit.proofs.extents.Proper.{IsFirst, proper_from-IsFirst, proper_from-reaches}
use Rattle.best_fit.proofs.extents.Gaps.{LiesIn, gaps_from-LiesIn, gap_between-some}
use Rattle.best_fit.proofs.extents.Changes.{IsProper, is_proper-IsProper}

-- an interval that is not empty, lies between two offsets and meets no extent of the list
pub record IsBetween (from : ℕ) (xs : List Extent) (to a b : ℕ) : Type 0 where
  pub low : from ≤ a
  pub some : a < b
  pub high : b ≤ to
  pub apart : All (λ x. IsOutsideRange x a b) xs

-- all extents of a proper list stand after its beginning
behind_start : (from : ℕ) (xs : List Extent) (to a b : ℕ) → b ≤ from → IsTrue (proper_from from xs to)
    → All (λ x. IsOutsideRange x a b) xs
behind_start from [] to a b l p = All-nil (λ x. IsOutsideRange x a b)
behind_start from (x ∷ xs) to a b l p =
    let f = proper_from-IsFirst from x xs to p in
    let hole = f.hole in
    All-cons (λ y. IsOutsideRange y a b) x xs (inr (omega arith))
    (behind_start (end_of x) xs to a b (omega arith) f.rest)

-- a gap meets no extent
meets_none : (from : ℕ) (xs : List Extent) (to : ℕ) (g : Gap) → IsTrue (proper_from from xs to) → LiesIn from xs to g
    → IsBetween from xs to g.offset (g.offset + g.len)
meets_none from [] to g p i =
    let at = i.offset in let end = i.end in let some = i.some in
    record {
      low = omega arith;
      some = omega arith;
      high = omega arith;
      apart = All-nil (λ x. IsOutsideRange x g.offset (g.offset + g.len));
    }
meets_none from (y ∷ ys) to g p (inl i) =
    let f = proper_from-IsFirst from y ys to p in
    let at = i.offset in let end = i.end in let some = i.some in
    let reaches = proper_from-reaches from (y ∷ ys) to p in
    record {
      low = omega arith;
      some = omega arith;
      high = let on = proper_from-reaches (end_of y) ys to f.rest in omega arith;
      apart = All-cons (λ x. IsOutsideRange x g.offset (g.offset + g.len)) y ys (inr (omega arith))
          (behind_start (end_of y) ys to g.offset (g.offset + g.len) (omega arith) f.rest);
    }
meets_none from (y ∷ ys) to g p (inr i) =
    let f = proper_from-IsFirst from y ys to p in
    let hole = f.hole in
    let rest = meets_none (end_of y) ys to g f.rest i in
    let begins = rest.low in let some = rest.some in let ends = rest.high in
    record {
      low = omega arith;
      some = some;
      high = ends;
      apart = All-cons (λ x. IsOutsideRange x g.offset (g.offset + g.len)) y ys (inl begins) rest.apart;
    }

-- such an interval lies after the first extent if a gap that it covers does
widest_step : (from : ℕ) (y : Extent) (ys : List Extent) (to : ℕ) (g : Gap) (a b : ℕ) → IsFirst from y ys to
    → end_of y ≤ g.offset → g.offset < b → b ≤ to → a < b
    → All (λ x. IsOutsideRange x a b) ys → (end_of y ≤ a) ⊎ (b ≤ y.offset) → IsBetween (end_of y) ys to a b
widest_step from y ys to g a b f after over to' some apart (inl l) =
    record { low = l; some = some; high = to'; apart = apart }
widest_step from y ys to g a b f after over to' some apart (inr l) = absurd (let long = f.block.long in omega arith)

-- each wider interval meets an extent
widest : (from : ℕ) (xs : List Extent) (to : ℕ) (g : Gap) (a b : ℕ) → IsTrue (proper_from from xs to)
    → LiesIn from xs to g → a ≤ g.offset → g.offset + g.len ≤ b → IsBetween from xs to a b
    → (a ≡ g.offset) × (b ≡ g.offset + g.len)
widest from [] to g a b p i begins ends between =
    let at = i.offset in let end = i.end in let low = between.low in let high = between.high in
    (omega arith, omega arith)
widest from (y ∷ ys) to g a b p (inl i) begins ends between =
    let f = proper_from-IsFirst from y ys to p in
    let at = i.offset in let end = i.end in let some = i.some in let low = between.low in
    let long = f.block.long in
    let apart : IsOutsideRange y a b = All-head (λ x. IsOutsideRange x a b) y ys between.apart
    in (omega arith, omega arith)
widest from (y ∷ ys) to g a b p (inr i) begins ends between =
    let f = proper_from-IsFirst from y ys to p in
    let inside = meets_none (end_of y) ys to g f.rest i in
    let low = inside.low in let more = inside.some in
    widest (end_of y) ys to g a b f.rest i begins ends
    (widest_step from y ys to g a b f low (omega arith) between.high between.some
    (All-tail (λ x. IsOutsideRange x a b) y ys between.apart) (All-head (λ x. IsOutsideRange x a b) y ys between.apart))

-- ---- each interval that meets no extent lies in a gap

-- a gap of the list that reaches from a or before to b or after
pub record IsCovered (gs : List Gap) (a b : ℕ) : Type 0 where
  pub gap : Gap
  pub listed : Contains gs gap
  pub begins : gap.offset ≤ a
  pub ends : b ≤ gap.offset + gap.len

-- the gap between two places covers all between them
first_covers : (from to a b : ℕ) → from ≤ a → a < b → b ≤ to → IsCovered (gap_between from to) a b
first_covers from to a b low some high =
    rw (gap_between-some from to (omega arith))
    (record {
      gap = record { offset = from; len = to - from };
      listed = (0, omega arith, refl);
      begins = low;
      ends = omega arith;
    })

-- a gap of a list covers the same in a list that has its gaps
covered_in : (gs hs : List Gap) (a b : ℕ) → ((g : Gap) → Contains gs g → Contains hs g) → IsCovered gs a b
    → IsCovered hs a b
covered_in gs hs a b has c = record { gap = c.gap; listed = has c.gap c.listed; begins = c.begins; ends = c.ends }

-- by the side of the first extent on which the interval lies
covers_step : (from : ℕ) (y : Extent) (ys : List Extent) (to a b : ℕ) → IsBetween from (y ∷ ys) to a b
    → (IsBetween (end_of y) ys to a b → IsCovered (gaps_from (end_of y) ys to) a b) → (end_of y ≤ a) ⊎ (b ≤ y.offset)
    → IsCovered (gaps_from from (y ∷ ys) to) a b
covers_step from y ys to a b between rest (inl l) =
    let gs : List Gap = gap_between from y.offset in
    let hs : List Gap = gaps_from (end_of y) ys to in
    covered_in hs (gs ++ hs) a b (Contains-append_right gs hs)
    (rest (record {
      low = l;
      some = between.some;
      high = between.high;
      apart = All-tail (λ x. IsOutsideRange x a b) y ys between.apart;
    }))
covers_step from y ys to a b between rest (inr l) =
    let gs : List Gap = gap_between from y.offset in
    let hs : List Gap = gaps_from (end_of y) ys to in
    covered_in gs (gs ++ hs) a b (Contains-append_left gs hs)
    (first_covers from y.offset a b between.low between.some l)

-- some gap covers each interval that meets no extent
covers : (from : ℕ) (xs : List Extent) (to a b : ℕ) → IsBetween from xs to a b → IsCovered (gaps_from from xs to) a b
covers from [] to a b between = first_covers from to a b between.low between.some between.high
covers from (y ∷ ys) to a b between =
    covers_step from y ys to a b between (covers (end_of y) ys to a b)
    (All-head (λ x. IsOutsideRange x a b) y ys between.apart)

-- ---- the law

-- the interval of a live set
between_from : (live : LiveSet) (a b : ℕ) → MeetsNone live a b → IsBetween 128 live.extents (live.size - 16) a b
between_from live a b m = record { low = m.0; some = m.1; high = m.2; apart = m.3 }

-- and back
from_between : (live : LiveSet) (a b : ℕ) → IsBetween 128 live.extents (live.size - 16) a b → MeetsNone live a b
from_between live a b m = (m.low, m.some, m.high, m.apart)

-- a gap of a proper live set is maximal
maximal_from : (live : LiveSet) → IsProper live → (g : Gap) → LiesIn 128 live.extents (live.size - 16) g
    → IsMaximal live g
maximal_from live p g i =
    record {
      apart = from_between live g.offset (g.offset + g.len) (meets_none 128 live.extents (live.size - 16) g p.list i);
      maximal = λ a b begins ends m. widest 128 live.extents (live.size - 16) g a b p.list i begins ends
          (between_from live a b m);
    }

-- each gap of a proper live set is maximal
pub gaps-IsMaximal : (live : LiveSet) → IsTrue (is_proper live) → All (IsMaximal live) (gaps live)
unfolding gaps
gaps-IsMaximal live h =
    All-weaker (LiesIn 128 live.extents (live.size - 16)) (IsMaximal live)
    (maximal_from live (is_proper-IsProper live h)) (gaps_from 128 live.extents (live.size - 16))
    (gaps_from-LiesIn 128 live.extents (live.size - 16))

-- gaps that begin and end alike are one
same_gap : (g h : Gap) → h.offset ≡ g.offset → h.offset + h.len ≡ g.offset + g.len → h ≡ g
same_gap g h at end = let len : h.len ≡ g.len = omega arith in λ i. record { offset = at i; len = len i }

-- each maximal interval is one of the gaps
pub IsMaximal-gaps : (live : LiveSet) → IsTrue (is_proper live) → (g : Gap) → IsMaximal live g → Contains (gaps live) g
unfolding gaps
IsMaximal-gaps live h g m =
    let c = covers 128 live.extents (live.size - 16) g.offset (g.offset + g.len)
    (between_from live g.offset (g.offset + g.len) m.apart) in
    let found = All-contains (IsMaximal live) (gaps live) c.gap (gaps-IsMaximal live h) c.listed in
    let same = m.maximal c.gap.offset (c.gap.offset + c.gap.len) c.begins c.ends found.apart in
    subst (Contains (gaps live)) (same_gap g c.gap same.0 same.1) c.listed

-- the gaps are the maximal intervals
pub gaps_are_maximal : GapsAreMaximal
gaps_are_maximal = record { each = gaps-IsMaximal; every = IsMaximal-gaps }
