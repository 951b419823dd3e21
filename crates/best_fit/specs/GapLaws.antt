-- The laws of the gaps as nodes.
use Rattle.std.proofs.Common.{◌≡◌, refl, sym, ap, subst, ℕ, zero, suc, ◌+◌, ◌-◌, ◌/◌, ◌^◌, ◌<◌, ◌≤◌, ◌⊎◌, inl, inr}
use Rattle.std.proofs.Common.{Bool, true, false, ◌&&◌, ◌||◌, List, [], ◌∷◌, length, arith, nat_lt, ◌==◌, IsTrue}
use Rattle.std.specs.Prelude.{Option, Some, None}
use Rattle.std.specs.List.{cons_option}
use Rattle.std.proofs.lemmas.Bool.{both_ways, cases_Bool, and_parts, and_from, or_cases, or_left, or_right, ltb-true}
use Rattle.std.proofs.lemmas.Bool.{lt-ltb, eqb-true, eq-eqb, cond-true, cond-false}
use Rattle.raw_region.specs.Memory.{Memory, WindowState, bytes_of}
use Rattle.block_tags.specs.declared.tile.Tile.{Tile}
use Rattle.raw_region.specs.Format.{current}
use Rattle.block_tags.specs.Format.{is_legal_size}
use Rattle.block_tags.specs.Tiles.{has_tags, tiles_from, tile_at}
use Rattle.block_tags.proofs.Laws.{legal}
use Rattle.link_tree.specs.Tree.{Cell}
use Rattle.link_tree.specs.Nodes.{is_in, leads}
use Rattle.link_tree.proofs.Laws.{all_at}
use Rattle.best_fit.specs.Extents.{Gap}
use Rattle.best_fit.specs.FreeTree.{cells_of, payloads}
use Rattle.best_fit.specs.declared.heap.nodes.GapProbe.{GapProbe}
use Rattle.best_fit.specs.GapNodes.{tiles_in, as_gap, gaps_of, gaps_in, len_in, comes_before, stands_before}
use Rattle.best_fit.specs.GapNodes.{links_among, has_links, is_good, is_gap_node, gap_cells, no_cell}

-- ---- there are few gaps

read_on : ℕ → Memory → ℕ → ℕ → Bool → List Tile
read_on fuel m at end b = elim b as (λ _. List Tile) [
  | false ↦ []
  | true ↦ tile_at m at ∷ tiles_from fuel m (at + (tile_at m at).len) end
]

tiles_step : (fuel : ℕ) (m : Memory) (at end : ℕ) → length (tiles_from fuel m (at + (tile_at m at).len) end) ≤ fuel
    → (b : Bool) → length (read_on fuel m at end b) ≤ suc fuel
unfolding read_on
tiles_step fuel m at end rest true = omega arith
tiles_step fuel m at end rest false = omega arith

few_tiles : (fuel : ℕ) (m : Memory) (at end : ℕ) → length (tiles_from fuel m at end) ≤ fuel
unfolding read_on
few_tiles zero m at end = omega arith
few_tiles (suc fuel) m at end =
    tiles_step fuel m at end (few_tiles fuel m (at + (tile_at m at).len) end) (nat_lt at end)

few_gaps : (ts : List Tile) → length (gaps_of ts) ≤ length ts
few_gaps [] = omega arith
few_gaps (t ∷ ts) = let rest = few_gaps ts in by_use (as_gap t) (gaps_of ts) (length ts) rest
  where
    by_use : (o : Option Gap) (gs : List Gap) (n : ℕ) → length gs ≤ n → length (cons_option o gs) ≤ suc n
    by_use None gs n l = omega arith
    by_use (Some g) gs n l = omega arith

pub length-payloads : (gs : List Gap) → length (payloads gs) ≡ length gs
length-payloads [] = refl
length-payloads (g ∷ gs) = ap suc (length-payloads gs)

small_size : (n : ℕ) → IsTrue (is_legal_size n) → n ≤ 1073741824
small_size n h = (legal n h).high

-- the parts of `is_good`
pub record IsGoodHeap (c : WindowState) : Type 0 where
  pub size : IsTrue (is_legal_size (length c.bytes))
  pub tags : IsTrue (has_tags current (bytes_of c.bytes) (length c.bytes))
  pub links : IsTrue (has_links c)

pub is_good-IsGoodHeap : (c : WindowState) → IsTrue (is_good c) → IsGoodHeap c
is_good-IsGoodHeap c h =
    let two = and_parts (is_legal_size (length c.bytes) && has_tags current (bytes_of c.bytes) (length c.bytes))
    (has_links c) h in
    let one = and_parts (is_legal_size (length c.bytes)) (has_tags current (bytes_of c.bytes) (length c.bytes)) two.0 in
    record { size = one.0; tags = one.1; links = two.1 }

-- the lemma from `IsGoodHeap` to its test
pub IsGoodHeap-is_good : (c : WindowState) → IsGoodHeap c → IsTrue (is_good c)
IsGoodHeap-is_good c g =
    and_from (is_legal_size (length c.bytes) && has_tags current (bytes_of c.bytes) (length c.bytes)) (has_links c)
    (and_from (is_legal_size (length c.bytes)) (has_tags current (bytes_of c.bytes) (length c.bytes)) g.size g.tags)
    g.links

-- the number is the handle of a gap, in a heap with good tags and links
pub record GapNode (c : WindowState) (n : ℕ) : Type 0 where
  pub good : IsGoodHeap c
  pub listed : is_in n (payloads (gaps_in c)) ≡ true

pub is_gap_node-GapNode : (c : WindowState) (n : ℕ) → is_gap_node c n ≡ true → GapNode c n
unfolding is_gap_node
is_gap_node-GapNode c n h = let two = and_parts (is_good c) (is_in n (payloads (gaps_in c))) h
    in record { good = is_good-IsGoodHeap c two.0; listed = two.1 }

-- the lemma from `GapNode` to its test
pub GapNode-is_gap_node : (c : WindowState) (n : ℕ) → GapNode c n → is_gap_node c n ≡ true
unfolding is_gap_node
GapNode-is_gap_node c n g = and_from (is_good c) (is_in n (payloads (gaps_in c))) (IsGoodHeap-is_good c g.good) g.listed

pub few_gaps_in : (c : WindowState) → IsGoodHeap c → length (gaps_in c) ≤ 2 ^ 30
few_gaps_in c g =
    let size = small_size (length c.bytes) g.size in
    let tiles = few_tiles (length c.bytes / 32) (bytes_of c.bytes) 128 (length c.bytes - 16) in
    let gaps = few_gaps (tiles_in c) in
    omega arith

pub gaps_finite : (c : WindowState) → (ns : List ℕ) × (length ns ≤ 2 ^ 40)
    × ((n : ℕ) → is_gap_node c n ≡ true → is_in n ns ≡ true)
gaps_finite c = by_test (is_good c) refl
  where
    by_test : (b : Bool) → is_good c ≡ b → (ns : List ℕ) × (length ns ≤ 2 ^ 40)
        × ((n : ℕ) → is_gap_node c n ≡ true → is_in n ns ≡ true)
    by_test true e =
        let g = is_good-IsGoodHeap c e in
        let size = small_size (length c.bytes) g.size in
        let tiles = few_tiles (length c.bytes / 32) (bytes_of c.bytes) 128 (length c.bytes - 16) in
        let gaps = few_gaps (tiles_in c) in
        let len = length-payloads (gaps_in c) in
        (payloads (gaps_in c), omega arith, λ n h. (is_gap_node-GapNode c n h).listed)
    by_test false e = (
      [],
      omega arith,
      λ n h. absurd (both_ways (is_good c) e (IsGoodHeap-is_good c (is_gap_node-GapNode c n h).good)),
    )

-- ---- links lead to nodes

pub links_at : (c : WindowState) (n : ℕ) → GapNode c n → links_among (bytes_of c.bytes) (payloads (gaps_in c)) n ≡ true
links_at c n g = all_at (links_among (bytes_of c.bytes) (payloads (gaps_in c))) (payloads (gaps_in c)) n
    g.good.links g.listed

leads_to_node : (c : WindowState) (o : Option ℕ) → IsGoodHeap c
    → leads (λ k. is_in k (payloads (gaps_in c))) o ≡ true → leads (is_gap_node c) o ≡ true
leads_to_node c None g h = refl
leads_to_node c (Some n) g h = GapNode-is_gap_node c n (record { good = g; listed = h })

pub cells_at : (c : WindowState) (n : ℕ) → is_gap_node c n ≡ true → gap_cells c n ≡ cells_of (bytes_of c.bytes) n
unfolding gap_cells is_gap_node
cells_at c n h = cond-true (is_good c && is_in n (payloads (gaps_in c))) (cells_of (bytes_of c.bytes) n) no_cell h

pub cells_off : (c : WindowState) (n : ℕ) → is_gap_node c n ≡ false → gap_cells c n ≡ no_cell
unfolding gap_cells is_gap_node
cells_off c n h = cond-false (is_good c && is_in n (payloads (gaps_in c))) (cells_of (bytes_of c.bytes) n) no_cell h

pub gaps_left : (c : WindowState) (n : ℕ) → is_gap_node c n ≡ true → leads (is_gap_node c) (gap_cells c n).left ≡ true
gaps_left c n h =
    let g = is_gap_node-GapNode c n h in
    let m = bytes_of c.bytes in
    let two = and_parts (leads (λ k. is_in k (payloads (gaps_in c))) (cells_of m n).left)
    (leads (λ k. is_in k (payloads (gaps_in c))) (cells_of m n).right) (links_at c n g) in
    subst (λ (x : Cell). leads (is_gap_node c) x.left ≡ true) (sym (cells_at c n h))
    (leads_to_node c (cells_of m n).left g.good two.0)

pub gaps_right : (c : WindowState) (n : ℕ) → is_gap_node c n ≡ true → leads (is_gap_node c) (gap_cells c n).right ≡ true
gaps_right c n h =
    let g = is_gap_node-GapNode c n h in
    let m = bytes_of c.bytes in
    let two = and_parts (leads (λ k. is_in k (payloads (gaps_in c))) (cells_of m n).left)
    (leads (λ k. is_in k (payloads (gaps_in c))) (cells_of m n).right) (links_at c n g) in
    subst (λ (x : Cell). leads (is_gap_node c) x.right ≡ true) (sym (cells_at c n h))
    (leads_to_node c (cells_of m n).right g.good two.1)

-- ---- the order is strict

-- by length, and then by offset
abbrev pub Comes : ℕ → ℕ → ℕ → ℕ → Type 0
Comes k a l b = (k < l) ⊎ ((k ≡ l) × (a < b))

abbrev pub comes : ℕ → ℕ → ℕ → ℕ → Bool
comes k a l b = nat_lt k l || ((k == l) && nat_lt a b)

pub comes-Comes : (k a l b : ℕ) → comes k a l b ≡ true → Comes k a l b
comes-Comes k a l b h = by_test (or_cases (nat_lt k l) ((k == l) && nat_lt a b) h)
  where
    by_test : (nat_lt k l ≡ true) ⊎ (((k == l) && nat_lt a b) ≡ true) → (k < l) ⊎ ((k ≡ l) × (a < b))
    by_test (inl t) = inl (ltb-true k l t)
    by_test (inr t) = let two = and_parts (k == l) (nat_lt a b) t in inr (eqb-true k l two.0, ltb-true a b two.1)

-- the lemma from `Comes` to its test
pub Comes-comes : (k a l b : ℕ) → Comes k a l b → comes k a l b ≡ true
Comes-comes k a l b (inl t) = or_left (nat_lt k l) ((k == l) && nat_lt a b) (lt-ltb k l t)
Comes-comes k a l b (inr t) = or_right (nat_lt k l) ((k == l)
    && nat_lt a b) (and_from (k == l) (nat_lt a b) (eq-eqb k l t.0) (lt-ltb a b t.1))

Comes-trans : (k a l b m c : ℕ) → Comes k a l b → Comes l b m c → Comes k a m c
Comes-trans k a l b m c (inl x) (inl y) = inl (omega arith)
Comes-trans k a l b m c (inl x) (inr y) = let e = y.0 in inl (omega arith)
Comes-trans k a l b m c (inr x) (inl y) = let e = x.0 in inl (omega arith)
Comes-trans k a l b m c (inr x) (inr y) = let e = x.0 in let f = y.0 in let p = x.1 in let q = y.1
    in inr (omega arith, omega arith)

Comes-same : (k a : ℕ) → Comes k a k a → ⊥
Comes-same k a (inl x) = omega arith
Comes-same k a (inr x) = let l = x.1 in omega arith

pub comes-false : (k a l b : ℕ) → (Comes k a l b → ⊥) → comes k a l b ≡ false
comes-false k a l b n = by_test (cases_Bool (comes k a l b))
  where
    by_test : (comes k a l b ≡ true) ⊎ (comes k a l b ≡ false) → comes k a l b ≡ false
    by_test (inl t) = absurd (n (comes-Comes k a l b t))
    by_test (inr f) = f

pub comes-trans : (k a l b m c : ℕ) → comes k a l b ≡ true → comes l b m c ≡ true → comes k a m c ≡ true
comes-trans k a l b m c x y = Comes-comes k a m c
    (Comes-trans k a l b m c (comes-Comes k a l b x) (comes-Comes l b m c y))

pub comes_irreflexive : (gs : List Gap) (n : ℕ) → comes_before gs n n ≡ false
comes_irreflexive gs n = comes-false (len_in gs n) n (len_in gs n) n (Comes-same (len_in gs n) n)

pub comes_transitive : (gs : List Gap) (a b c : ℕ) → comes_before gs a b ≡ true → comes_before gs b c ≡ true
    → comes_before gs a c ≡ true
comes_transitive gs a b c x y = comes-trans (len_in gs a) a (len_in gs b) b (len_in gs c) c x y

pub comes_agrees : (gs : List Gap) (sought : GapProbe) (a b : ℕ) → comes_before gs a b ≡ true
    → stands_before gs sought b ≡ true → stands_before gs sought a ≡ true
comes_agrees gs sought a b h s = comes-trans (len_in gs a) a (len_in gs b) b sought.len sought.from h s
