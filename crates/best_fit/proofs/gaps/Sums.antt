-- The lengths of all gaps, added up along the tree of the gaps.
use Rattle.best_fit.proofs.Common.{◌≡◌, refl, sym, ap, ◌∙◌, ℕ, ◌+◌, ◌-◌, ◌<◌, ◌≤◌, Bool, true, List, [], ◌∷◌, length}
use Rattle.best_fit.proofs.Common.{arith, ◌==◌, cond_both, eq-eqb, or_left, or_right, WindowState, current, Tile}
use Rattle.best_fit.proofs.Common.{nodes_of}
use Rattle.best_fit.proofs.Common.{is_in, Gap, free_bytes, precedes, insert_gap, payloads, sorted_gaps, gap_of}
use Rattle.best_fit.proofs.Common.{gaps_in, gaps_of, len_in, tiles_in, HaveGapLengths, HasGapTree, IsHeap, live_of}
use Rattle.std.specs.Prelude.{sum_by}
use Rattle.std.specs.List.{FoldsTo}
use Rattle.std.proofs.lemmas.List.Sums.{sum_by-cons}
use Rattle.best_fit.proofs.tags.RowParts.{row_reaches}
use Rattle.best_fit.proofs.gaps.Order.{fits-sorted}
use Rattle.best_fit.proofs.tags.TagsAndLiveSet.{heap-gaps, heap-says, legal_size, said_row}
use Rattle.best_fit.proofs.tags.TileRows.{Row, unused, used, use_cases, gaps_of-free, gaps_of-used}

abbrev pub sum_of : List Gap → ℕ
sum_of gs = sum_by (λ (g : Gap). g.len) gs

-- ---- in any order

sum-first : (g : Gap) (gs : List Gap) → sum_of (g ∷ gs) ≡ g.len + sum_of gs
sum-first g gs = sum_by-cons (λ (h : Gap). h.len) g gs

sum-inserted : (g : Gap) (hs : List Gap) → sum_of (insert_gap g hs) ≡ g.len + sum_of hs
sum-inserted g [] = sum-first g []
sum-inserted g (h ∷ hs) =
    let ih = sum-inserted g hs in let one = sum-first h hs in let two = sum-first h (insert_gap g hs) in
    cond_both (precedes g h) (g ∷ h ∷ hs) (h ∷ insert_gap g hs) (λ ks. sum_of ks ≡ g.len + sum_of (h ∷ hs))
    (λ _. sum-first g (h ∷ hs)) (λ _. omega arith)

sum-sorted : (hs : List Gap) → sum_of (sorted_gaps hs) ≡ sum_of hs
sum-sorted [] = refl
sum-sorted (h ∷ hs) = let ih = sum-sorted hs in let one = sum-inserted h (sorted_gaps hs) in
    let two = sum-first h hs in omega arith

-- by the lengths of the nodes
sum-nodes : (gs hs : List Gap) → HaveGapLengths gs hs → sum_by (len_in gs) (payloads hs) ≡ sum_of hs
sum-nodes gs [] f = refl
sum-nodes gs (h ∷ hs) f =
    let ih = sum-nodes gs hs f.1 in let one = sum_by-cons (len_in gs) (h.offset + 16) (payloads hs) in
    let two = sum-first h hs in let len = f.0 in
    omega arith

-- no more than the tiles are long
sum-row : (at : ℕ) (ts : List Tile) (end : ℕ) → Row at ts end → at + sum_of (gaps_of ts) ≤ end
sum-row at [] end r = let on = row_reaches at [] end r in omega arith
sum-row at (t ∷ ts) end r =
    let rest = sum-row (at + t.len) ts end r.3 in
    elim (use_cases t) [
      | unused e ↦ let one : sum_of (gaps_of (t ∷ ts)) ≡ t.len + sum_of (gaps_of ts) = ap sum_of (gaps_of-free t ts e)
          ∙ sum-first (gap_of t) (gaps_of ts) in omega arith
      | used role e ↦ let one : sum_of (gaps_of (t ∷ ts)) ≡ sum_of (gaps_of ts) =
          ap sum_of (gaps_of-used t ts role e) in omega arith
    ]

-- the nodes of the tree have the bytes of all gaps, and they can be added up
pub record IsSummed (c : WindowState) (ns : List ℕ) : Type 0 where
  pub all : sum_by (len_in (gaps_in c)) ns ≡ free_bytes (live_of c.bytes)
  pub few : sum_by (len_in (gaps_in c)) ns ≤ 1073741824

-- the sum over the tree's nodes is the sum over the gaps
pub tree_summed : (c : WindowState) → IsHeap current c.bytes → (h : HasGapTree c (gaps_in c))
    → IsSummed c (nodes_of h.tree.tree)
unfolding free_bytes
tree_summed c heap h =
    let said = (heap-says c heap).said in
    let size = (legal_size (length c.bytes) said.size).high in
    let sum : sum_by (len_in (gaps_in c)) (nodes_of h.tree.tree) ≡ sum_of (gaps_in c) =
    ap (sum_by (len_in (gaps_in c))) h.tree.lists ∙ sum-nodes (gaps_in c) (sorted_gaps (gaps_in c))
    (fits-sorted (gaps_in c) (gaps_in c) h.some.fits) ∙ sum-sorted (gaps_in c) in
    let row = sum-row 128 (tiles_in c) (length c.bytes - 16) (said_row c (tiles_in c) said) in
    record { all = sum ∙ ap sum_of (sym (heap-gaps c heap)); few = omega arith }

-- ---- along the calls

-- each call adds its item's value, and the name stays
pub adds_up : {P : Type 0} (R : P → ℕ → P → Type 0) (Sees : P → Type 0) (name total : P → ℕ)
    (f : ℕ → ℕ) (good : ℕ → Bool)
    → ((p : P) (x : ℕ) (q : P) → Sees p → good x ≡ true → total p + f x < 18446744073709551616 → R p x q
    → Sees q × (name q ≡ name p) × (total q ≡ total p + f x))
    → (xs : List ℕ) (p q : P) → ((x : ℕ) → is_in x xs ≡ true → good x ≡ true) → Sees p
    → total p + sum_by f xs < 18446744073709551616
    → FoldsTo R p xs q → (name q ≡ name p) × (total q ≡ total p + sum_by f xs)
adds_up R Sees name total f good step [] p q all sees room e = (sym (ap name e), sym (ap total e) ∙ omega arith)
adds_up R Sees name total f good step (x ∷ xs) p q all sees room w =
    let one = sum_by-cons f x xs in
    let here = step p x w.0 sees (all x (or_left (x == x) (is_in x xs) (eq-eqb x x refl))) (omega arith) w.1 in
    let now = here.2 in
    let rest = adds_up R Sees name total f good step xs w.0 q (λ y i. all y (or_right (y == x) (is_in y xs) i))
    here.0 (omega arith) w.2 in
    let then = rest.1 in
    (rest.0 ∙ here.1, omega arith)
