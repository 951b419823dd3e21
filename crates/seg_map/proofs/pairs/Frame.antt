-- The parts of a map that stay, and the blocks outside it; the map after its tree changes and its three words are
-- written.
use Rattle.seg_map.proofs.Common as common
use common.{Some, extent_at, both_ways, false≢true, holds_same, cell_stays, length-map, SameSurroundings-trans, IsTrue}
use common.{AllByRecursion, PairNode-is_pair_node, is_pair_node-PairNode, SameBytes-trans, KeepsOutsideMap, has_room}
use common.{node_place, pair_cells, SameBlockExcept, changed-live, ◌≡◌, arith, is_in, KeepsBlocks, subst, Option, leads}
use common.{Plain, Memory, IsHeap, others, IfSome, refl, bytes_of, is_other, PairNode, nodes_of, Relinked, laid-heap}
use common.{ap, ◌∙◌, ◌+◌, ◌||◌, List, ◌==◌, IsGoodNodeSet, Tree, bits, SameBytes, Pair, leaf, fork, roomy, ℕ, ◌-◌, ◌%◌}
use common.{◌<◌, ◌≤◌, ◌⊎◌, inl, inr, not, ◌∷◌, WindowState, In, sym, ◌*◌, ◌≢◌, [], true, or_left, word_at, live_of}
use common.{is_kept, kept_of, keys_in, current, LiveSet, false, HasBytesAt-same, cells_of, IsPairAt, HoldsMap, IsPairIn}
use common.{cases_eq, cells_at, WritesMapHeader, ◌&&◌, nat_lt, nat_le, eq-eqb, le-leb, lt-ltb, Extent, handle, end_of}
use common.{length, EncodesLiveSet, or_right, SameBlock, IsKeyTree, SameBytes-word, SameBytes-link, is_rising}
use common.{pair_node, tree_same, is_link_byte, IsSearchTree, comes_before, is_pair_node, nodes_of_pairs, changed-keeps}
use Rattle.seg_map.proofs.pairs.NodeBlocks.{any_at, block_apart, all_in, target_whole}
use Rattle.seg_map.proofs.pairs.SearchTree.{Laws, pair_parts, found_in, other_block}
use Rattle.seg_map.proofs.pairs.Lists.{at_node, each, each_both, AreAt, AreIn, in_from, nodes_in}
use Rattle.std.proofs.lemmas.Bool.{Decides.nat_tests}
use Rattle.seg_map.specs.{PairNodes.PairTreeFrame, PairNodes.lies_in_block, Changing.RewritesNodes}
use Rattle.best_fit.proofs.Laws.{but-trans, written-but}
use Rattle.seg_types.specs.contracts.plain.Plain.TheBound.{Met}
use Rattle.raw_region.proofs.Facts.{bit-same}

-- the live set is kept
pub live_stays : (c d : WindowState) (ns ms : List ℕ) → kept_of ms d ≡ kept_of ns c → live_of d.bytes ≡ live_of c.bytes
unfolding kept_of
live_stays c d ns ms e = ap (λ (k : PairTreeFrame). k.live) e

-- a byte outside the links of each node is in no link
no_link : (ns : List ℕ) (k : ℕ) → ((n : ℕ) → is_in n ns ≡ true → (k < n) ⊎ (n + 16 ≤ k)) → is_link_byte ns k ≡ false
no_link [] k off = refl
no_link (n ∷ ns) k off =
    let o = off n (or_left _ _ (eq-eqb n n refl)) in
    let here : (nat_le n k && nat_lt k (n + 16)) ≡ false = grind (arith, nat_tests, o) in
    rw (here, no_link ns k (λ m i. off m (or_right _ _ i))) refl

module _ {len : ℕ} {ns : List ℕ} {c : WindowState} (d : WindowState) (good : IsGoodNodeSet len ns c)
    (same : kept_of ns d ≡ kept_of ns c) (long : 16 ≤ len) where
  kept_byte : (k : ℕ) → is_kept ns (live_of c.bytes) k ≡ true → bytes_of d.bytes k ≡ bytes_of c.bytes k
  unfolding kept_of
  kept_byte k t = let e = ap (λ (r : PairTreeFrame). r.byte k) same in rw (live_stays c d ns ns same, t) at e

  kept_colour : (h : ℕ) → is_other ns (live_of c.bytes) h ≡ true
      → word_at (bytes_of d.bytes) (h - 8) % 16 ≡ word_at (bytes_of c.bytes) (h - 8) % 16
  unfolding kept_of
  kept_colour h t = let e = ap (λ (r : PairTreeFrame). r.colour h) same in rw (live_stays c d ns ns same, t) at e

  -- a header byte but word 24 stays
  kept_header : (k : ℕ) → (k < 24) ⊎ ((32 ≤ k) × (k < 128)) → bytes_of d.bytes k ≡ bytes_of c.bytes k
  kept_header k place = kept_byte k (rw (
    or_left (nat_lt k 24 || (nat_le 32 k && nat_lt k 128)) (lies_in_block (live_of c.bytes) k)
        (grind (arith, nat_tests, place)),
    ap not (no_link ns k (λ n i.
        let l = (node_place len ns c n (record { good = good; listed = i })).low in inl (omega (arith, place, l)))),
  ) refl)

  -- a byte in the payload of a block stays, but for the links of a node
  pub kept_inside : (x : Extent) → In x (live_of c.bytes).extents → (k : ℕ) → handle x ≤ k → k < end_of x
      → (is_in (handle x) ns ≡ true → handle x + 16 ≤ k) → bytes_of d.bytes k ≡ bytes_of c.bytes k
  kept_inside x i k low high own = kept_byte k (rw (
    or_right (nat_lt k 24 || (nat_le 32 k && nat_lt k 128)) (lies_in_block (live_of c.bytes) k)
        (any_at (λ (y : Extent). nat_le (handle y) k && nat_lt k (end_of y)) (live_of c.bytes).extents x i
        (rw (le-leb (handle x) k low, lt-ltb k (end_of x) high) refl)),
    ap not (no_link ns k (λ m j.
        let q : PairNode len ns c m = record { good = good; listed = j } in
        elim (cases_eq (handle x) m) [
          | inl e ↦ let past = own (ap (λ n. is_in n ns) e ∙ j) in inr (omega (arith, past, e))
          | inr o ↦ grind (arith, block_apart x q i o)
        ])),
  ) refl)

  -- a block that is no node stays
  pub kept_block : (x : Extent) → In x (live_of c.bytes).extents → is_in (handle x) ns ≡ false
      → SameBlock (bytes_of c.bytes) (bytes_of d.bytes) x
  kept_block x i o =
      let w : x.offset + 16 - 8 ≡ x.offset + 8 = omega arith in
      record {
        payload = record { at = λ k low high. kept_inside x i k low high (λ j. absurd (both_ways _ o j)) };
        colour = rw w at (kept_colour (handle x) (rw (
          any_at (λ (y : Extent). handle y == handle x) (live_of c.bytes).extents x i (eq-eqb _ _ refl),
          ap not o,
        ) refl));
      }

  -- the header except word 24 stays, and so do the bytes around the window
  pub kept_keeps : KeepsBlocks c d []
  unfolding kept_of
  kept_keeps = record {
    place = record {
      before = ap (λ (k : PairTreeFrame). k.before) same;
      after = ap (λ (k : PairTreeFrame). k.after) same;
    };
    front = record { at = λ k l h. kept_header k (inl h) };
    behind = record { at = λ k l h. kept_header k (inr (l, h)) };
    blocks = tt;
  }

-- ---- the blocks outside a map

-- two steps that keep all blocks
pub keeps_beside : {a b : WindowState} {at : ℕ} {ns : List ℕ} {xs : List Extent} → KeepsBlocks a b xs
    → ((x : Extent) → extent_at (live_of a.bytes) (handle x) ≡ Some x → is_in (handle x) ns ≡ false
    → SameBlock (bytes_of a.bytes) (bytes_of b.bytes) x) → KeepsOutsideMap a b at ns
keeps_beside k same = record {
  place = k.place;
  front = k.front;
  behind = k.behind;
  blocks = λ x f o.
      let s = same x f o in record { payload = λ n low high z. s.payload.at n low high; colour = s.colour };
}

-- two steps together keep the blocks that both keep
pub beside_then : {a b c : WindowState} {at : ℕ} {ns ms : List ℕ} → KeepsOutsideMap a b at ns
    → KeepsOutsideMap b c at ms
    → ((x : Extent) → extent_at (live_of a.bytes) (handle x) ≡ Some x → is_in (handle x) ns ≡ false
    → (extent_at (live_of b.bytes) (handle x) ≡ Some x) × (is_in (handle x) ms ≡ false)) → KeepsOutsideMap a c at ns
beside_then p q still = record {
  place = SameSurroundings-trans _ _ _ p.place q.place;
  front = SameBytes-trans _ _ _ _ _ p.front q.front;
  behind = SameBytes-trans _ _ _ _ _ p.behind q.behind;
  blocks = λ x f o.
      let s = still x f o in let m = p.blocks x f o in let n = q.blocks x s.0 s.1 in
      record {
        payload = λ k low high z. n.payload k low high z ∙ m.payload k low high z;
        colour = n.colour ∙ m.colour;
      };
}

-- ---- a call of the tree, for the heap that it was lent

-- by the nodes as they were, and by the steps that were added
pub relinked : {K : Type 0} (k : Plain K) (ns ms : List ℕ) {c d e : WindowState} (root top : Option ℕ)
    {becomes : List ℕ → List ℕ} {factor : ℕ} (before : ℕ) {after : ℕ} (steps : ℕ) → e ≡ d → kept_of ms d ≡ kept_of ns c
    → leads (is_pair_node (16 + k.SIZE) ms d) top ≡ true → after ≡ before + steps
    → ((t : Tree) → IsSearchTree (comes_before k.order (keys_in k ns c)) (pair_cells (16 + k.SIZE) ns c) root t
    → (s : Tree) × IsSearchTree (comes_before k.order (keys_in k ms d)) (pair_cells (16 + k.SIZE) ms d) top s
    × (nodes_of s ≡ becomes (nodes_of t)))
    → ((t : Tree) → IsSearchTree (comes_before k.order (keys_in k ns c)) (pair_cells (16 + k.SIZE) ns c) root t
    → steps ≤ factor * bits (length (nodes_of t) + 1) + 32) → Relinked k ns c e root top becomes factor (after - before)
unfolding kept_of
relinked k ns ms {c} {d} {e} root top before {after} steps now kept leads_to added tree few =
    let same : ms ≡ ns = ap (λ (r : PairTreeFrame). r.own) kept in
    rw now (record {
      kept = ap (λ (ks : List ℕ). kept_of ks d) (sym same) ∙ kept;
      tree = λ t h.
          let r = tree t h.tree in (
            r.0,
            subst (λ (ks : List ℕ). IsKeyTree k ks d top r.0) same (record { tree = r.1; leads = leads_to }),
            r.2,
          );
      few = λ t h. let most = few t h.tree in omega (arith, most, added);
    })

-- ---- a map whose blocks stay stays

-- the fields of a node in a block that stays
pub block_cells : (m m' : Memory) (x : Extent) → SameBlock m m' x → 32 ≤ x.len
    → cells_of m' (handle x) ≡ cells_of m (handle x)
block_cells m m' x s long =
    let e : x.offset + 8 ≡ handle x - 8 = omega arith in
    cell_stays m m' (handle x) (SameBytes-link _ _ _ _ (handle x) s.payload (omega arith) (omega arith))
    (SameBytes-link _ _ _ _ (handle x + 8) s.payload (omega arith) (omega arith)) (ap (λ (k : ℕ). k == 1)
    (bit-same (word_at m' (handle x - 8)) (word_at m (handle x - 8))
    (subst (λ a. word_at m' a % 16 ≡ word_at m a % 16) e s.colour)))

-- the bytes of a pair stay
pub pair_stays : {K V : Type 0} {kp : Plain K} {vp : Plain V} → Laws kp → Laws vp → (m m' : Memory) {live : LiveSet}
    {h : ℕ} {p : Pair K V} → IsPairIn kp vp live h p
    → SameBytes m m' (handle p.node + 16) (handle p.node + (16 + kp.SIZE
    + vp.SIZE)) → IsPairAt kp.SIZE kp.spelling vp.spelling m p → IsPairAt kp.SIZE kp.spelling vp.spelling m' p
pair_stays {kp = kp} {vp = vp} kl vl m m' {p = p} i s h =
    let first = handle p.node + 16 in let last = handle p.node + (16 + kp.SIZE + vp.SIZE) in let q = pair_parts i in
    let el = kl.spells p.key q.key in let fl = vl.spells p.value q.value in (
      HasBytesAt-same _ _ _ _ first (kp.spelling p.key) s (omega arith) (omega arith) h.0,
      HasBytesAt-same _ _ _ _ (first + kp.SIZE) (vp.spelling p.value) s (omega arith) (omega arith) h.1,
    )

-- a block that is still in use, with its bytes
pub record Still (c e : WindowState) (x : Extent) : Type 0 where
  pub found : extent_at (live_of e.bytes) (handle x) ≡ Some x
  pub same : SameBlock (bytes_of c.bytes) (bytes_of e.bytes) x

-- pairs in the same blocks are a map where the tree and the words stay
unfoldable pub map_over : {K V : Type 0} {kp : Plain K} {vp : Plain V} (c e : WindowState) {h at : ℕ}
    {ps : List (Pair K V)}
    (s : HoldsMap kp vp c.bytes h at ps) → IsHeap current e.bytes → IsTrue (has_room (live_of e.bytes) h (at + 24))
    → SameBytes (bytes_of c.bytes) (bytes_of e.bytes) (h + at) (h + at + 24)
    → ((m : ℕ) → is_in m (nodes_of s.map.tree.tree) ≡ true → cells_of (bytes_of e.bytes) m ≡ cells_of (bytes_of c.bytes)
    m) → (qs : List (Pair K V)) → nodes_of_pairs ps ≡ nodes_of_pairs qs → is_rising kp.order qs ≡ true
    → AreIn kp vp (live_of e.bytes) h qs → AreAt kp vp (bytes_of e.bytes) qs → HoldsMap kp vp e.bytes h at qs
map_over c e {h} {at} {ps} s heap room words cells qs nodes rising blocks bytes = record {
  heap = heap;
  map = record {
    count = SameBytes-word _ _ _ _ (h + at + 8) words (omega arith) (omega arith) ∙ s.map.count
        ∙ sym (length-map ps pair_node) ∙ ap (λ (ms : List ℕ). length ms) nodes ∙ length-map qs pair_node;
    third = SameBytes-word _ _ _ _ (h + at + 16) words (omega arith) (omega arith) ∙ s.map.third;
    tree = record {
      tree = s.map.tree.tree;
      linked = record {
        root = SameBytes-link _ _ _ _ (h + at) words (omega arith) (omega arith) ∙ s.map.tree.linked.root;
        holds = holds_same (cells_of (bytes_of c.bytes))
            (cells_of (bytes_of e.bytes)) s.map.tree.tree cells s.map.tree.linked.holds;
      };
      red_black = s.map.tree.red_black;
      lists = s.map.tree.lists ∙ nodes;
    };
    pairs = bytes;
  };
  aligned = s.aligned;
  room = room;
  rising = rising;
  pairs = blocks;
}

module _ {K V : Type 0} {kp : Plain K} {vp : Plain V} (kl : Laws kp) (vl : Laws vp) (c e : WindowState) {h at : ℕ}
    {ps : List (Pair K V)} (s : HoldsMap kp vp c.bytes h at ps) (heap : IsHeap current e.bytes) (room : IsTrue
    (has_room (live_of e.bytes) h (at + 24))) (words : SameBytes (bytes_of c.bytes) (bytes_of e.bytes) (h + at)
    (h + at + 24)) (blocks : AllByRecursion (λ (p : Pair K V). Still c e p.node) ps) where
  pub both : AllByRecursion (λ (p : Pair K V). IsPairIn kp vp (live_of c.bytes) h p × Still c e p.node) ps
  both = each_both ps s.pairs blocks (λ p i b. (i, b))

  pub cells : (m : ℕ) → is_in m (nodes_of s.map.tree.tree) ≡ true
      → cells_of (bytes_of e.bytes) m ≡ cells_of (bytes_of c.bytes) m
  cells m i =
      let n = at_node (λ (p : Pair K V). IsPairIn kp vp (live_of c.bytes) h p × Still c e p.node) ps m
      (ap (λ ns. is_in m ns) (sym s.map.tree.lists) ∙ i) both in
      let long = (pair_parts n.holds.0).long in
      subst (λ k. cells_of (bytes_of e.bytes) k ≡ cells_of (bytes_of c.bytes) k) n.at
      (block_cells (bytes_of c.bytes) (bytes_of e.bytes) n.pair.node n.holds.1.same (omega arith))

  -- the map stays
  unfoldable pub map_stays : HoldsMap kp vp e.bytes h at ps
  unfolding map_over
  map_stays = map_over c e s heap room words cells ps refl s.rising (each ps both (λ q w. record
      { good = w.0.good; listed = w.1.found; apart = w.0.apart })) (each_both ps both s.map.pairs (λ q w b.
      let long = (pair_parts w.0).long in let same = w.1.same in
      pair_stays kl vl (bytes_of c.bytes) (bytes_of e.bytes) w.0
      (record { at = λ k low high. same.payload.at k (omega arith) (omega arith) }) b))

-- ---- the tree of a map is changed, and its three words are written

-- a call of the tree changes no block, and neither does writing the three words
module _ {K : Type 0} {kp : Plain K} {c d : WindowState} {ns : List ℕ} {root top : Option ℕ} {becomes : List ℕ → List ℕ}
    {factor steps : ℕ} (u : Relinked kp ns c d root top becomes factor steps) where
  -- the live set is as it was
  pub live_left : live_of d.bytes ≡ live_of c.bytes
  live_left = live_stays c d ns ns u.kept

  -- and still is when the words are written
  pub live_laid : {e : WindowState} {at n : ℕ} → WritesMapHeader d e at top n → live_of e.bytes ≡ live_of c.bytes
  live_laid head = changed-live _ _ _ _ _ head.change ∙ live_left

-- a call of the tree of a map
module _ {K V : Type 0} {kp : Plain K} {vp : Plain V} {c d : WindowState} {h at : ℕ} {ps : List (Pair K V)}
    (s : HoldsMap kp vp c.bytes h at ps) {ns : List ℕ} {root top : Option ℕ} (tree : IsKeyTree kp ns c root
    s.map.tree.tree) {becomes : List ℕ → List ℕ} {factor steps : ℕ}
    (u : Relinked kp ns c d root top becomes factor steps)
  where
    -- the root is at a multiple of 16
    pub top_whole : IfSome top (λ t. t % 16 ≡ 0)
    top_whole = target_whole (16 + kp.SIZE) ns d top (u.tree s.map.tree.tree tree).1.leads

    -- the steps by the number of pairs
    pub few_steps : steps ≤ factor * bits (length ps + 1) + 32
    few_steps = subst (λ n. steps ≤ factor * bits (n + 1) + 32) (ap length s.map.tree.lists ∙ length-map ps pair_node)
        (u.few s.map.tree.tree tree)

    -- the words are written; the nodes are the nodes of these pairs
    module _ (kl : Laws kp) (vl : Laws vp) (ws : List (Pair K V)) (pairs : AreIn kp vp (live_of c.bytes) h ws)
        (bytes : AreAt kp vp (bytes_of c.bytes) ws) (are : ns
        ≡ nodes_of_pairs ws) (good : IsGoodNodeSet (16 + kp.SIZE) ns c)
        {e : WindowState} {n : ℕ} (head : WritesMapHeader d e (h + at) top n) where
      live_e : live_of e.bytes ≡ live_of c.bytes
      live_e = live_laid u head

      others_stay : KeepsBlocks d e (others h (live_of d.bytes).extents)
      others_stay = changed-keeps current d e h at 24 head.change (rw (live_left u) s.room)

      -- the words are written in another block
      block_stays : (x : Extent) → extent_at (live_of c.bytes) (handle x) ≡ Some x → handle x ≢ h
          → SameBlock (bytes_of d.bytes) (bytes_of e.bytes) x
      block_stays x f o = other_block (live_of d.bytes) h (handle x) others_stay (rw (live_left u) f) o

      rest_kept : KeepsBlocks c d []
      rest_kept = kept_keeps d good u.kept (omega arith)

      beside : KeepsOutsideMap c e (h + at) ns
      beside =
          let r = roomy c h (at + 24) s.heap s.room in
          let written = written-but d e (live_of c.bytes) h (h + at) 24 r.extent s.heap.proper r.found head.change
          (omega arith) (omega arith) in
          record {
            place = SameSurroundings-trans _ _ _ rest_kept.place head.change.place;
            front = SameBytes-trans _ _ _ _ _ rest_kept.front others_stay.front;
            behind = SameBytes-trans _ _ _ _ _ rest_kept.behind others_stay.behind;
            blocks = λ x f o.
                let i = found_in (live_of c.bytes).extents (handle x) x f in
                let p = kept_block d good u.kept (omega arith) x i o in
                let q = all_in (SameBlockExcept (bytes_of d.bytes) (bytes_of e.bytes) (h + at) 24)
                (live_of c.bytes).extents x written i in
                (but-trans (bytes_of c.bytes) (bytes_of d.bytes) (bytes_of e.bytes) (h + at) 24 (x ∷ []) (p, tt)
                (q, tt)).0;
          }

      -- a node of the tree is in the node set, whose links lead to nodes
      node_d : (t : Tree) → IsKeyTree kp ns d top t → (m : ℕ) → is_in m (nodes_of t) ≡ true → is_in m ns ≡ true
          → is_pair_node (16 + kp.SIZE) ns d m ≡ true
      node_d leaf k m i j = absurd (false≢true i)
      node_d (fork red left x right) k m i j =
          let r = subst (λ (o : Option ℕ). leads (is_pair_node (16 + kp.SIZE) ns d) o ≡ true) k.tree.tree.root
          k.leads in
          PairNode-is_pair_node (16 + kp.SIZE) ns d m
          (record { good = (is_pair_node-PairNode (16 + kp.SIZE) ns d x r).good; listed = j })

      -- the key and the value of a pair stay
      pair_kept : (p : Pair K V) → IsPairIn kp vp (live_of c.bytes) h p
          → SameBytes (bytes_of c.bytes) (bytes_of e.bytes) (handle p.node + 16)
          (handle p.node + (16 + kp.SIZE + vp.SIZE))
      pair_kept p i =
          let x = p.node in let listed = found_in (live_of c.bytes).extents (handle x) x i.listed in
          let long = (pair_parts i).long in let same = block_stays x i.listed i.apart in
          record {
            at = λ k from to. same.payload.at k (omega arith) (omega arith) ∙ kept_inside d good u.kept (omega arith) x
                listed k (omega arith) (omega arith) (λ j. from);
          }

      tree_cells : (qs : List (Pair K V)) {t : Tree} → IsKeyTree kp ns d top t → nodes_of t ≡ nodes_of_pairs qs
          → AreIn kp vp (live_of c.bytes) h qs → ((m : ℕ) → is_in m (nodes_of_pairs qs) ≡ true → is_in m ns ≡ true)
          → (m : ℕ) → is_in m (nodes_of t) ≡ true → cells_of (bytes_of e.bytes) m ≡ pair_cells (16 + kp.SIZE) ns d m
      tree_cells qs {t} k lists these own m i =
          let j = ap (λ ms. is_in m ms) (sym lists) ∙ i in
          let a = at_node (IsPairIn kp vp (live_of c.bytes) h) qs m j these in let long = (pair_parts a.holds).long in
          let same = block_stays a.pair.node a.holds.listed a.holds.apart in
          subst (λ x. cells_of (bytes_of e.bytes) x ≡ cells_of (bytes_of d.bytes) x) a.at
          (block_cells (bytes_of d.bytes) (bytes_of e.bytes) a.pair.node same (omega arith))
          ∙ sym (cells_at (16 + kp.SIZE) ns d m (node_d t k m i (own m j)))

      -- the map has the pairs of the tree
      pub relaid : {qs : List (Pair K V)} → becomes (nodes_of s.map.tree.tree) ≡ nodes_of_pairs qs
          → ((P : Pair K V → Type 0) → AllByRecursion P ws → AllByRecursion P qs) → is_rising kp.order qs ≡ true
          → n ≡ length qs → RewritesNodes kp vp c e h at (nodes_of_pairs ws) qs
      relaid {qs} becoming all rising count =
          let r = u.tree s.map.tree.tree tree in let lists = r.2 ∙ becoming in
          let own = in_from ns qs (all (λ q. is_in (pair_node q) ns ≡ true)
          (nodes_in ns ws (λ m i. ap (is_in m) are ∙ i))) in
          let these = all (IsPairIn kp vp (live_of c.bytes) h) pairs in
          record {
            live = subst (EncodesLiveSet current e.bytes) (live_left u) head.change.live;
            beside = subst (KeepsOutsideMap c e (h + at)) are beside;
            map = record {
              heap = laid-heap _ _ head.change.live;
              map = record {
                count = head.counted ∙ count;
                third = head.third;
                tree = record {
                  tree = r.0;
                  linked = rw head.link (tree_same (pair_cells (16 + kp.SIZE) ns d)
                      (cells_of (bytes_of e.bytes)) top r.0 (tree_cells qs r.1 lists these own) r.1.tree.tree);
                  red_black = r.1.tree.red_black;
                  lists = lists;
                };
                pairs = each_both qs these (all (IsPairAt kp.SIZE kp.spelling vp.spelling (bytes_of c.bytes)) bytes)
                    (λ q i b. pair_stays kl vl (bytes_of c.bytes) (bytes_of e.bytes) i (pair_kept q i) b);
              };
              aligned = s.aligned;
              room = rw live_e s.room;
              rising = rising;
              pairs = rw live_e these;
            };
          }

-- ---- the bound of a type on its values, for the lemmas on maps

-- the laws of the order of keys
pub laws : {M U l m r e row p pd c cd : _} → Met {M = M} {𝓤 = U} l m r e row p pd c cd → Laws p
laws t = record { spells = t.spells; reads = t.reads; irreflexive = t.irreflexive; transitive = t.transitive }
