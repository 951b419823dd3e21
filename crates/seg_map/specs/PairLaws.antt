-- The laws of the pairs as nodes.
use Rattle.std.proofs.Common.{◌≡◌, refl, sym, ap, subst, ◌∙◌, ℕ, suc, ◌+◌, ◌-◌, ◌%◌, ◌^◌, ◌≤◌, ◌⊎◌, inl, inr, Bool}
use Rattle.std.proofs.Common.{true, false, ◌&&◌, not, List, [], ◌∷◌, length, map, arith, ◌==◌, IsTrue}
use Rattle.std.specs.{Prelude.Option, Prelude.Some, Prelude.None, List.list_all, List.list_any}
use Rattle.std.proofs.lemmas.Bool.{false≢true, both_ways, and_parts, and_from, or_cases, or_left, or_right, eqb-true}
use Rattle.std.proofs.lemmas.Bool.{eq-eqb, leb-true, cond-true, cond-false, not-true}
use Rattle.raw_region.specs.Memory.{WindowState, bytes_of}
use Rattle.block_tags.specs.declared.tile.Role.{Role}
use Rattle.block_tags.specs.declared.tile.Role.TheVariants.{Object, Index, Storage, Node}
use Rattle.link_tree.specs.{Tree.Cell, Nodes.is_in, Nodes.leads}
use Rattle.best_fit.specs.Extents.{Extent, LiveSet, handle, is_proper, proper_from}
use Rattle.best_fit.specs.{FreeTree.cells_of, Heap.live_of, Table.same_role, Table.serves}
use Rattle.best_fit.proofs.Laws.{is_proper-IsProper, legal_size, proper_from-IsFirst, proper_from-reaches}
use Rattle.link_tree.proofs.Laws.{all_at}
use Rattle.seg_map.specs.PairNodes.{is_block_in, links_among, is_good, is_pair_node, pair_cells, before_key}
use Rattle.seg_map.specs.PairNodes.{comes_before, stands, stands_before, no_cell}

-- the order is strict: irreflexive and transitive
abbrev pub IsStrict : {K : Type 0} → (K → K → Bool) → Type 0
IsStrict {K} less = (x : K) → less x x ≡ false

-- the order is transitive
abbrev pub Chains : {K : Type 0} → (K → K → Bool) → Type 0
Chains {K} less = (x y z : K) → less x y ≡ true → less y z ≡ true → less x z ≡ true

-- ---- blocks of a proper live set

-- the list contains the extent
abbrev pub In : Extent → List Extent → Type 0
In x [] = ⊥
In x (y ∷ ys) = (y ≡ x) ⊎ In x ys

-- an extent lies between two offsets
pub record Lies (from : ℕ) (x : Extent) (to : ℕ) : Type 0 where
  pub low : from ≤ x.offset
  pub high : x.offset + x.len ≤ to
  pub long : 32 ≤ x.len
  pub whole : x.offset % 16 ≡ 0

pub lies : (from : ℕ) (xs : List Extent) (to : ℕ) (x : Extent) → IsTrue (proper_from from xs to) → In x xs
    → Lies from x to
lies from [] to x h i = absurd i
lies from (y ∷ ys) to x h (inl e) =
    let f = proper_from-IsFirst from y ys to h in let a = f.hole in let b =
    proper_from-reaches (y.offset + y.len) ys to f.rest in
    let P : Extent → Type 0 = λ (z : Extent). Lies from z to in
    subst P e (record { low = omega arith; high = b; long = f.block.long; whole = f.block.offset })
lies from (y ∷ ys) to x h (inr i) =
    let f = proper_from-IsFirst from y ys to h in let a = f.hole in
    let r = lies (y.offset + y.len) ys to x f.rest i in let low = r.low in
    record { low = omega arith; high = r.high; long = r.long; whole = r.whole }

-- two extents are equal or share no byte
abbrev pub Disjoint : Extent → Extent → Type 0
Disjoint x y = (x ≡ y) ⊎ ((x.offset + x.len ≤ y.offset) ⊎ (y.offset + y.len ≤ x.offset))

pub disjoint : (from : ℕ) (xs : List Extent) (to : ℕ) (x y : Extent) → IsTrue (proper_from from xs to) → In x xs
    → In y xs → Disjoint x y
disjoint from [] to x y h i j = absurd i
disjoint from (z ∷ zs) to x y h (inl e) (inl f) = inl (sym e ∙ f)
disjoint from (z ∷ zs) to x y h (inl e) (inr j) =
    let o : z.offset ≡ x.offset = ap (λ (w : Extent). w.offset) e in let l : z.len ≡ x.len =
    ap (λ (w : Extent). w.len) e in
    let far = (lies (z.offset + z.len) zs to y (proper_from-IsFirst from z zs to h).rest j).low in
    inr (inl (omega arith))
disjoint from (z ∷ zs) to x y h (inr i) (inl f) =
    let o : z.offset ≡ y.offset = ap (λ (w : Extent). w.offset) f in let l : z.len ≡ y.len =
    ap (λ (w : Extent). w.len) f in
    let far = (lies (z.offset + z.len) zs to x (proper_from-IsFirst from z zs to h).rest i).low in
    inr (inr (omega arith))
disjoint from (z ∷ zs) to x y h (inr i) (inr j) = disjoint (z.offset + z.len) zs to x y
    (proper_from-IsFirst from z zs to h).rest i j

few : (from : ℕ) (xs : List Extent) (to : ℕ) → IsTrue (proper_from from xs to) → length xs + from ≤ to
few from [] to h = let r = proper_from-reaches from [] to h in omega arith
few from (x ∷ xs) to h =
    let f = proper_from-IsFirst from x xs to h in let a = f.hole in let long =
    f.block.long in
    let r = few (x.offset + x.len) xs to f.rest in omega arith

pub few_extents : (live : LiveSet) → IsTrue (is_proper live) → length live.extents ≤ 2 ^ 30
few_extents live h =
    let p = is_proper-IsProper live h in
    let l = few 128 live.extents (live.size - 16) p.list in
    let n = (legal_size live.size p.size).high in omega arith

-- a block in use with a node's role and length
pub record NodeBlock (len : ℕ) (xs : List Extent) (n : ℕ) : Type 0 where
  pub extent : Extent
  pub listed : In extent xs
  pub at : handle extent ≡ n
  pub node : extent.role ≡ Node
  pub holds : len + 16 ≤ extent.len

is_node : (r : Role) → same_role r Node ≡ true → r ≡ Node
is_node Object e = absurd (false≢true e)
is_node Index e = absurd (false≢true e)
is_node Storage e = absurd (false≢true e)
is_node Node e = refl

-- an extent of the list that passes the test, if `list_any` says that there is one
pub record PassingExtent (test : Extent → Bool) (xs : List Extent) : Type 0 where
  pub extent : Extent
  pub listed : In extent xs
  pub passes : test extent ≡ true

pub passing : (test : Extent → Bool) (xs : List Extent) → list_any test xs ≡ true → PassingExtent test xs
passing test [] h = absurd (false≢true h)
passing test (x ∷ xs) h =
    elim (or_cases _ _ h) [
      | inl e ↦ record { extent = x; listed = inl refl; passes = e }
      | inr e ↦ let p = passing test xs e in
          record { extent = p.extent; listed = inr p.listed; passes = p.passes }
    ]

pub block_at : (len : ℕ) (xs : List Extent) (n : ℕ) → list_any
    (λ (x : Extent). (handle x == n) && serves x Node len) xs ≡ true → NodeBlock len xs n
block_at len xs n h =
    let p = passing (λ (x : Extent). (handle x == n) && serves x Node len) xs h in
    let two = and_parts _ _ p.passes in let s = and_parts _ _ two.1 in
    record {
      extent = p.extent;
      listed = p.listed;
      at = eqb-true (handle p.extent) n two.0;
      node = is_node p.extent.role s.0;
      holds = leb-true (len + 16) p.extent.len s.1;
    }

-- ---- the parts of the test

-- the live set is proper, and the listed nodes are blocks with links to each other
pub record IsGoodNodeSet (len : ℕ) (ns : List ℕ) (c : WindowState) : Type 0 where
  pub proper : IsTrue (is_proper (live_of c.bytes))
  pub blocks : list_all (is_block_in len (live_of c.bytes)) ns ≡ true
  pub links : list_all (links_among (bytes_of c.bytes) ns) ns ≡ true

pub is_good-IsGoodNodeSet : (len : ℕ) (ns : List ℕ) (c : WindowState) → IsTrue (is_good len ns c)
    → IsGoodNodeSet len ns c
is_good-IsGoodNodeSet len ns c h =
    let two = and_parts _ _ h in
    let one = and_parts _ _ two.0 in
    record { proper = one.0; blocks = one.1; links = two.1 }

-- the lemma from `IsGoodNodeSet` to its test
pub IsGoodNodeSet-is_good : (len : ℕ) (ns : List ℕ) (c : WindowState) → IsGoodNodeSet len ns c
    → IsTrue (is_good len ns c)
IsGoodNodeSet-is_good len ns c g =
    and_from (is_proper (live_of c.bytes) && list_all (is_block_in len (live_of c.bytes)) ns)
    (list_all (links_among (bytes_of c.bytes) ns) ns)
    (and_from (is_proper (live_of c.bytes)) (list_all (is_block_in len (live_of c.bytes)) ns) g.proper g.blocks) g.links

-- the number is one of the map's lent nodes
pub record PairNode (len : ℕ) (ns : List ℕ) (c : WindowState) (n : ℕ) : Type 0 where
  pub good : IsGoodNodeSet len ns c
  pub listed : is_in n ns ≡ true

pub is_pair_node-PairNode : (len : ℕ) (ns : List ℕ) (c : WindowState) (n : ℕ) → is_pair_node len ns c n ≡ true
    → PairNode len ns c n
unfolding is_pair_node
is_pair_node-PairNode len ns c n h = let two = and_parts _ _ h in
    record { good = is_good-IsGoodNodeSet len ns c two.0; listed = two.1 }

-- the lemma from `PairNode` to its test
pub PairNode-is_pair_node : (len : ℕ) (ns : List ℕ) (c : WindowState) (n : ℕ) → PairNode len ns c n
    → is_pair_node len ns c n ≡ true
unfolding is_pair_node
PairNode-is_pair_node len ns c n g =
    and_from (is_good len ns c) (is_in n ns) (IsGoodNodeSet-is_good len ns c g.good) g.listed

pub node_block : (len : ℕ) (ns : List ℕ) (c : WindowState) (n : ℕ) → PairNode len ns c n
    → NodeBlock len (live_of c.bytes).extents n
node_block len ns c n g = block_at len (live_of c.bytes).extents n
    (all_at (is_block_in len (live_of c.bytes)) ns n g.good.blocks g.listed)

-- a node's handle is a multiple of 16 from 144 on, below 2^30
pub record NodeBounds (len : ℕ) (c : WindowState) (n : ℕ) : Type 0 where
  pub block : NodeBlock len (live_of c.bytes).extents n
  pub low : 144 ≤ n
  pub whole : n % 16 ≡ 0
  pub high : n + len ≤ 2 ^ 30

pub node_place : (len : ℕ) (ns : List ℕ) (c : WindowState) (n : ℕ) → PairNode len ns c n → NodeBounds len c n
node_place len ns c n g =
    let b = node_block len ns c n g in
    let p = is_proper-IsProper (live_of c.bytes) g.good.proper in
    let l = lies 128 (live_of c.bytes).extents ((live_of c.bytes).size - 16) b.extent p.list b.listed in
    let size = (legal_size (live_of c.bytes).size p.size).high in
    let at = b.at in let enough = b.holds in let low = l.low in let high = l.high in let whole = l.whole in
    record { block = b; low = omega arith; whole = omega arith; high = omega arith }

-- ---- there are few nodes

pub in_handles : (xs : List Extent) (x : Extent) (n : ℕ) → In x xs → handle x ≡ n → is_in n (map handle xs) ≡ true
in_handles [] x n i e = absurd i
in_handles (y ∷ ys) x n (inl f) e = or_left (n == handle y) (is_in n (map handle ys))
    (eq-eqb n (handle y) (sym e ∙ ap handle (sym f)))
in_handles (y ∷ ys) x n (inr i) e = or_right (n == handle y) (is_in n (map handle ys)) (in_handles ys x n i e)

pub handles_length : (xs : List Extent) → length (map handle xs) ≡ length xs
handles_length [] = refl
handles_length (x ∷ xs) = ap suc (handles_length xs)

-- a list of at most 2^40 numbers contains all nodes of a map
abbrev pub Finite : ℕ → List ℕ → WindowState → Type 0
Finite len ns c = (ms : List ℕ) × (length ms ≤ 2 ^ 40) × ((n : ℕ) → is_pair_node len ns c n ≡ true → is_in n ms ≡ true)

pub pairs_finite : (len : ℕ) (ns : List ℕ) (c : WindowState) → Finite len ns c
pairs_finite len ns c = by_test (is_good len ns c) refl
  where
    by_test : (b : Bool) → is_good len ns c ≡ b → (ms : List ℕ) × (length ms ≤ 2 ^ 40)
        × ((n : ℕ) → is_pair_node len ns c n ≡ true → is_in n ms ≡ true)
    by_test true e =
        let g = is_good-IsGoodNodeSet len ns c e in
        let n = few_extents (live_of c.bytes) g.proper in
        let l = handles_length (live_of c.bytes).extents in (
          map handle (live_of c.bytes).extents,
          omega arith,
          λ n h.
              let b = node_block len ns c n (is_pair_node-PairNode len ns c n h) in
              in_handles (live_of c.bytes).extents b.extent n b.listed b.at,
        )
    by_test false e = (
      [],
      omega arith,
      λ n h. absurd (both_ways (is_good len ns c) e
          (IsGoodNodeSet-is_good len ns c (is_pair_node-PairNode len ns c n h).good)),
    )

-- ---- links lead to nodes

pub links_at : (len : ℕ) (ns : List ℕ) (c : WindowState) (n : ℕ) → PairNode len ns c n
    → links_among (bytes_of c.bytes) ns n ≡ true
links_at len ns c n g = all_at (links_among (bytes_of c.bytes) ns) ns n g.good.links g.listed

pub link_parts : {len : ℕ} {ns : List ℕ} {c : WindowState} {n : ℕ} → PairNode len ns c n
    → (leads (λ k. is_in k ns) (cells_of (bytes_of c.bytes) n).left ≡ true)
    × (leads (λ k. is_in k ns) (cells_of (bytes_of c.bytes) n).right ≡ true)
link_parts {len} {ns} {c} {n} g = and_parts _ _ (links_at len ns c n g)

leads_to_node : (len : ℕ) (ns : List ℕ) (c : WindowState) (o : Option ℕ)
    → IsGoodNodeSet len ns c → leads (λ k. is_in k ns) o ≡ true → leads (is_pair_node len ns c) o ≡ true
leads_to_node len ns c None g h = refl
leads_to_node len ns c (Some n) g h = PairNode-is_pair_node len ns c n (record { good = g; listed = h })

pub cells_at : (len : ℕ) (ns : List ℕ) (c : WindowState) (n : ℕ) → is_pair_node len ns c n ≡ true
    → pair_cells len ns c n ≡ cells_of (bytes_of c.bytes) n
unfolding pair_cells
cells_at len ns c n h = cond-true (is_pair_node len ns c n) (cells_of (bytes_of c.bytes) n) no_cell h

pub cells_off : (len : ℕ) (ns : List ℕ) (c : WindowState) (n : ℕ) → is_pair_node len ns c n ≡ false
    → pair_cells len ns c n ≡ no_cell
unfolding pair_cells
cells_off len ns c n h = cond-false (is_pair_node len ns c n) (cells_of (bytes_of c.bytes) n) no_cell h

pub pairs_left : (len : ℕ) (ns : List ℕ) (c : WindowState) (n : ℕ) → is_pair_node len ns c n ≡ true
    → leads (is_pair_node len ns c) (pair_cells len ns c n).left ≡ true
pairs_left len ns c n h =
    let g = is_pair_node-PairNode len ns c n h in
    subst (λ (x : Cell). leads (is_pair_node len ns c) x.left ≡ true) (sym (cells_at len ns c n h))
    (leads_to_node len ns c (cells_of (bytes_of c.bytes) n).left g.good (link_parts g).0)

pub pairs_right : (len : ℕ) (ns : List ℕ) (c : WindowState) (n : ℕ) → is_pair_node len ns c n ≡ true
    → leads (is_pair_node len ns c) (pair_cells len ns c n).right ≡ true
pairs_right len ns c n h =
    let g = is_pair_node-PairNode len ns c n h in
    subst (λ (x : Cell). leads (is_pair_node len ns c) x.right ≡ true) (sym (cells_at len ns c n h))
    (leads_to_node len ns c (cells_of (bytes_of c.bytes) n).right g.good (link_parts g).1)

-- ---- the order is strict

module _ {K : Type 0} (less : K → K → Bool) where
  pub key_irreflexive : IsStrict less → (x : Option K) → before_key less x x ≡ false
  key_irreflexive strict None = refl
  key_irreflexive strict (Some x) = strict x

  pub key_transitive : Chains less → (x y z : Option K)
      → before_key less x y ≡ true → before_key less y z ≡ true → before_key less x z ≡ true
  key_transitive on None y z h k = absurd (false≢true h)
  key_transitive on (Some x) None z h k = absurd (false≢true h)
  key_transitive on (Some x) (Some y) None h k = absurd (false≢true k)
  key_transitive on (Some x) (Some y) (Some z) h k = on x y z h k

  pub key_agrees : Chains less → (past : Bool) (key : K) (x y : Option K)
      → before_key less x y ≡ true → stands less past key y ≡ true → stands less past key x ≡ true
  key_agrees on past key None y h s = absurd (false≢true h)
  key_agrees on past key (Some x) None h s = absurd (false≢true h)
  key_agrees on false key (Some x) (Some y) h s = on x y key h s
  key_agrees on true key (Some x) (Some y) h s = by_test (less key x) refl
    where
      by_test : (t : Bool) → less key x ≡ t → not (less key x) ≡ true
      by_test true e = absurd (both_ways (less key y) (not-true (less key y) s) (on key x y e h))
      by_test false e = ap not e

pub comes_irreflexive : {K : Type 0} (less : K → K → Bool) → IsStrict less → (keys : ℕ → Option K) (n : ℕ)
    → comes_before less keys n n ≡ false
comes_irreflexive less strict keys n = key_irreflexive less strict (keys n)

pub comes_transitive : {K : Type 0} (less : K → K → Bool) → Chains less → (keys : ℕ → Option K) (a b c : ℕ)
    → comes_before less keys a b ≡ true → comes_before less keys b c ≡ true → comes_before less keys a c ≡ true
comes_transitive less on keys a b c h k = key_transitive less on (keys a) (keys b) (keys c) h k

pub comes_agrees : {K : Type 0} (less : K → K → Bool)
    → Chains less → (keys : ℕ → Option K) (past : Bool) (key : K) (a b : ℕ) → comes_before less keys a b ≡ true
    → stands_before less keys past key b ≡ true → stands_before less keys past key a ≡ true
comes_agrees less on keys past key a b h s = key_agrees less on past key (keys a) (keys b) h s
