-- Removing one pair of the map, and all of them.
use Rattle.seg_map.proofs.Common as common
use common.{◌≡◌, both_ways, is_live_in, found-less, found-room, laid-heap, pair_node, own_nodes, live-rises, refl}
use common.{bytes_of, nodes_of, released, HoldsMap, IsPairIn, Relinked, ErasesPair, is_proper, extent_at, is_rising}
use common.{sym, current, link_at, without, LiveSet, EncodesLiveSet, live_of, WritesMapHeader, cases_eq, cells_of}
use common.{IsStrict, or_right, ap, lay_out_one, remove_pair, nodes_of_pairs, AllByRecursion, SameBlockExcept}
use common.{KeepsOutsideMap, false_from_ne_true, subst, length, IsTrue, Option, IfSome, eq-eqb, Extent, pair_at}
use common.{keys_in, exit_in, word_at, root_of, root_in, ◌∙◌, ℕ, ◌+◌, ◌≢◌, None, WindowState, Pair, ◌⊎◌, ◌<◌, inl, inr}
use common.{Bool, true, ◌∷◌, map, Tree, fork, leaf, In, [], not, false≢true, comes_before, IsKeyTree, false, List}
use common.{arith, ◌==◌, Some, is_in, handle, roomy, ne_eqb, IsTree, others, Chains, Rising, Plain}
use Rattle.seg_map.proofs.pairs.Lists.{without_nodes, in_from, nodes_in, Below, rising_below, rising_rest, each_both}
use Rattle.seg_map.proofs.pairs.Lists.{pair_of, in_nodes, none_left, other_nodes, removed_all, removed_length, AtNode}
use Rattle.seg_map.proofs.pairs.Lists.{at_node, each, not_among}
use Rattle.seg_map.proofs.{pairs.Lists.known, pairs.Lists.removed_rising, pairs.Lookup.lent_own, pairs.Lookup.lent_tree}
use Rattle.seg_map.proofs.pairs.SearchTree.{Laws, found_in, good, keys, other_block}
use Rattle.seg_map.proofs.pairs.Frame.{map_stays, beside_then, keeps_beside, relaid}
use Rattle.seg_map.proofs.pairs.NodeBlocks.{any_at, begins_behind, own_handle}
use Rattle.seg_map.specs.Changing.{UnlinksPair, FreesAllPairs}
use Rattle.link_tree.specs.Ways.{remove_point_of}
use Rattle.best_fit.proofs.Laws.{released-live, others-comm, rising-weak}
use Rattle.best_fit.specs.{Exchange.exchanged, Exchange.without_all, Heap.Deallocates}

module _ {K V : Type 0} {kp : Plain K} {vp : Plain V} (kl : Laws kp) (c : WindowState) {h at : ℕ} {root : Option ℕ}
    {ps : List (Pair K V)} (s : HoldsMap kp vp c.bytes h at ps) (is : root ≡ link_at (bytes_of c.bytes) (h + at))
    (key : K) {p : Pair K V} (has : pair_at kp.order ps key ≡ Some p) {node : ℕ} (here : pair_node p ≡ node) where
  abbrev lent : List ℕ
  lent = own_nodes c.bytes root None

  ns_is : lent ≡ nodes_of s.map.tree.tree
  ns_is = lent_own kl c s is refl

  -- the node can be unlinked, beginning at the root or at its exit
  pub can_unlink : (start : Option ℕ) → start ≡ exit_in kp c node s.map.tree.tree
      → IsKeyTree kp lent c root s.map.tree.tree × (is_in node (nodes_of s.map.tree.tree) ≡ true) × IfSome start
      (λ n. remove_point_of (comes_before kp.order (keys_in kp lent c)) node s.map.tree.tree ≡ Some n)
  can_unlink start begins = (
    lent_tree kl c s is refl,
    (λ i. is_in (sym here i) (s.map.tree.lists i)) ∙ in_nodes kp.order ps key p has,
    rw ns_is (known start (exit_in kp c node s.map.tree.tree) begins),
  )

  -- the map without the pair
  pub taken : {d e : WindowState} {top : Option ℕ} {n steps : ℕ} → Relinked kp lent c d root top (without node) 30 steps
      → Laws vp → n + 1 ≡ length ps → WritesMapHeader d e (h + at) top n → UnlinksPair kp vp c e h at ps key
  taken u vl count head = relaid s (lent_tree kl c s is refl) u kl vl ps s.pairs s.map.pairs (ns_is ∙ s.map.tree.lists)
      (rw ns_is (good kl c s)) head ((λ i. without (sym here i) (s.map.tree.lists i)) ∙ without_nodes kp.order
      kl.irreflexive kl.transitive (keys_in kp (nodes_of s.map.tree.tree) c) p key ps (keys kl c s) s.rising has)
      (λ P a. removed_all kp.order P ps key a) (removed_rising kp.order kl.transitive ps key s.rising)
      (let gone = removed_length kp.order ps key p has in omega (arith, gone, count))

-- the block of a removed pair is freed
module _ {K V : Type 0} {kp : Plain K} {vp : Plain V} (kl : Laws kp) (vl : Laws vp) {c e f : WindowState} {h at : ℕ}
    {ps : List (Pair K V)} (s : HoldsMap kp vp c.bytes h at ps) (key : K) {p : Pair K V}
    (has : pair_at kp.order ps key ≡ Some p) {node : ℕ} (here : pair_node p
    ≡ node) (t : UnlinksPair kp vp c e h at ps key) (r : Deallocates current e f node) where
  live_is : live_of e.bytes ≡ live_of c.bytes
  live_is = lay_out_one _ _ _ t.live

  other : (g : ℕ) → is_in g (nodes_of_pairs ps) ≡ false → g ≢ node
  other g o e' = both_ways _ o (ap (λ n. is_in n (nodes_of_pairs ps)) (e' ∙ sym here) ∙ in_nodes kp.order ps key p has)

  -- a pair that was unlinked and deallocated is erased
  pub erased : ErasesPair kp vp c f h at ps p key
  erased =
      let room = roomy e h (at + 24) t.map.heap t.map.room in let begins = room.at in
      let apart = other h (not_among h ps (each ps s.pairs (λ q i. i.apart))) in
      let same = other_block (live_of e.bytes) node h r.keeps room.found (λ g. apart (sym begins ∙ g)) in
      record {
        live = subst (λ l. EncodesLiveSet current f.bytes l) (λ i. released (live_is i) (sym here i)) r.live;
        beside = beside_then t.beside (keeps_beside r.keeps (λ x found o. other_block (live_of e.bytes) node (handle x)
            r.keeps found (other (handle x) o))) (λ x found o. (rw live_is found, o));
        map = map_stays kl vl e f t.map (laid-heap _ _ r.live) (rw (released-live _ _ _ _ r)
            (found-room (released (live_of e.bytes) node) h (at + 24) room.extent (found-less h node room.extent
            (live_of e.bytes).extents apart room.found) room.room))
            (record { at = λ n a b. same.payload.at n (omega arith) (omega arith) }) (each_both (remove_pair kp.order ps
            key) t.map.pairs (other_nodes node (remove_pair kp.order ps key) gone) (λ q i o. record {
              found = rw (released-live _ _ _ _ r) (found-less (handle q.node) node q.node
                  (live_of e.bytes).extents o i.listed);
              same = other_block (live_of e.bytes) node (handle q.node) r.keeps i.listed o;
            }));
      }
    where
      gone : is_in node (nodes_of_pairs (remove_pair kp.order ps key)) ≡ false
      gone =
          let w = without_nodes kp.order kl.irreflexive kl.transitive
          (keys_in kp (nodes_of s.map.tree.tree) c) p key ps (keys kl c s) s.rising has in
          ap (is_in node) (sym w) ∙ ap (λ n. is_in node (without n (nodes_of_pairs ps))) here
          ∙ none_left node (nodes_of_pairs ps)

-- the block of a pair is in use, also where the pair is gone
pub gone_live : {K V : Type 0} {kp : Plain K} {vp : Plain V} {b : List ℕ} {h at : ℕ} {ps : List (Pair K V)}
    (s : HoldsMap kp vp b h at ps) (key : K) {p : Pair K V} → pair_at kp.order ps key ≡ Some p
    → {node : ℕ} → pair_node p ≡ node → {live : LiveSet} → live ≡ live_of b → IsTrue (is_live_in live node)
gone_live {kp = kp} {vp = vp} {b = b} {h = h} {ps = ps} s key {p} has {node} here same =
    let i = (pair_of kp.order (IsPairIn kp vp (live_of b) h) ps key p has s.pairs).0 in let xs = (live_of b).extents in
    rw same (any_at (λ (x : Extent). handle x == node) xs p.node
    (found_in xs (handle p.node) p.node i.listed) (eq-eqb _ _ here))

-- ---- extents removed one after another

abbrev blocks_of : {K V : Type 0} → List (Pair K V) → List Extent
blocks_of {K} {V} ps = map (λ (p : Pair K V). p.node) ps

module _ {K V : Type 0} (less : K → K → Bool) where
  -- the block of one pair and then the blocks of the others
  without_removed : (qs : List (Pair K V)) (key : K) (p : Pair K V) (zs : List Extent) → pair_at less qs key ≡ Some p
      → without_all (map (λ (q : Pair K V). q.node) (remove_pair less qs key)) (others (handle p.node) zs)
      ≡ without_all (map (λ (q : Pair K V). q.node) qs) zs
  without_removed [] key p zs e = absurd (cc)
  without_removed (q ∷ qs) key p zs e =
      let rest = without_removed qs key p (others (handle q.node) zs) in
      let swap = others-comm (handle q.node) (handle p.node) zs in grind arith

  -- each pair is the one of its key
  own_found : IsStrict less → Chains less → (qs : List (Pair K V)) → is_rising less qs ≡ true
      → AllByRecursion (λ (q : Pair K V). pair_at less qs q.key ≡ Some q) qs
  own_found strict on [] r = tt
  own_found strict on (q ∷ qs) r = (
    rw (strict q.key) refl,
    behind qs (rising_below less on q qs r) (own_found strict on qs (rising_rest less on q qs r)),
  )
    where
      behind : (xs : List (Pair K V)) → Below less q.key xs → AllByRecursion (λ (x : Pair K V). pair_at less qs x.key
          ≡ Some x) xs → AllByRecursion (λ (x : Pair K V). pair_at less (q ∷ qs) x.key ≡ Some x) xs
      behind [] b a = tt
      behind (x ∷ xs) b a = (rw (ap not (or_right (less x.key q.key) (less q.key x.key) b.0)) a.0, behind xs b.1 a.1)

-- ---- extents in order

rises_others : (n h : ℕ) (zs : List Extent) → Rising n zs → Rising n (others h zs)
rises_others n h [] r = tt
rises_others n h (z ∷ zs) r =
    elim (cases_eq (handle z) h) [
      | inl e ↦ rw (eq-eqb _ _ e) (rising-weak n (z.offset + 1) zs (omega (arith, r.0)) r.1)
      | inr o ↦ rw (ne_eqb _ _ o) (r.0, rises_others (z.offset + 1) h zs r.1)
    ]

-- an extent that remains after one is removed is another one
beside_one : (n h : ℕ) (zs : List Extent) (x : Extent) → Rising n zs → In x (others h zs) → In x zs × (handle x ≢ h)
beside_one n h [] x r i = absurd i
beside_one n h (z ∷ zs) x r i =
    elim (cases_eq (handle z) h) [
      | inl e ↦
          let j : In x zs = rw (eq-eqb _ _ e) at i in
          (inr j, λ f. omega (arith, begins_behind (z.offset + 1) zs x r.1 j, e, f))
      | inr o ↦
          let k : (z ≡ x) ⊎ In x (others h zs) = rw (ne_eqb _ _ o) at i in
          elim k [
            | inl e ↦ (inl e, λ f. o (ap handle e ∙ f))
            | inr j ↦ let b = beside_one (z.offset + 1) h zs x r.1 j in (inr b.0, b.1)
          ]
    ]

-- and a block apart from all removed ones differs from each
beside_all : {K V : Type 0} (n : ℕ) (ps : List (Pair K V)) (zs : List Extent) (x : Extent) → Rising n zs
    → In x (without_all (map (λ (p : Pair K V). p.node) ps) zs)
    → In x zs × (is_in (handle x) (nodes_of_pairs ps) ≡ false)
beside_all n [] zs x r i = (i, refl)
beside_all n (p ∷ ps) zs x r i =
    let b = beside_all n ps (others (handle p.node) zs) x (rises_others n (handle p.node) zs r) i in
    let c = beside_one n (handle p.node) zs x r b.0 in (c.0, rw (ne_eqb _ _ c.1) b.1)

all_each : (P : Extent → Type 0) (xs : List Extent) → ((x : Extent) → In x xs → P x) → AllByRecursion P xs
all_each P [] f = tt
all_each P (x ∷ xs) f = (f x (inl refl), all_each P xs (λ y i. f y (inr i)))

-- ---- the map on its way

-- the remaining pairs, and the blocks outside them
pub record IsGoing {K V : Type 0} (k : Plain K) (v : Plain V) (old now : WindowState) (h at : ℕ)
    (ps : List (Pair K V)) : Type 0 where
  pub pairs : List (Pair K V)
  pub holds : HoldsMap k v now.bytes h at pairs
  pub among : (m : ℕ) → is_in m (nodes_of_pairs pairs) ≡ true → is_in m (nodes_of_pairs ps) ≡ true
  pub beside : KeepsOutsideMap old now (h + at) (nodes_of_pairs ps)
  pub there : (x : Extent) → extent_at (live_of old.bytes) (handle x) ≡ Some x
      → is_in (handle x) (nodes_of_pairs ps) ≡ false → extent_at (live_of now.bytes) (handle x) ≡ Some x
  pub size : (live_of now.bytes).size ≡ (live_of old.bytes).size
  pub left : without_all (map (λ (p : Pair K V). p.node) pairs) (live_of now.bytes).extents ≡ without_all
      (map (λ (p : Pair K V). p.node) ps) (live_of old.bytes).extents
  pub same : ps ≡ [] → now ≡ old

-- the removal of the node at the root begins there
exit_of_root : (less : ℕ → ℕ → Bool) (n : ℕ) (t : Tree) → Some n ≡ root_of t → None ≡ remove_point_of less n t
exit_of_root less n leaf e = absurd (cc)
exit_of_root less n (fork red left m right) e = let same : m ≡ n = cc in rw (eq-eqb m n same) refl

module _ {K V : Type 0} {k : Plain K} {v : Plain V} (kl : Laws k) {old now : WindowState} {h at : ℕ}
    {ps : List (Pair K V)} (g : IsGoing k v old now h at ps) where
  -- the node at the root is that of a pair
  pub root_pair : {node : ℕ} → link_at (bytes_of now.bytes) (h + at) ≡ Some node
      → AtNode (λ (q : Pair K V). pair_at k.order g.pairs q.key ≡ Some q) node
  root_pair {node} e =
      let s = g.holds in
      let i = root_in (cells_of (bytes_of now.bytes)) node s.map.tree.tree
      (subst (λ (o : Option ℕ). IsTree (cells_of (bytes_of now.bytes)) o s.map.tree.tree) e s.map.tree.linked) in
      at_node (λ (q : Pair K V). pair_at k.order g.pairs q.key ≡ Some q) g.pairs node (ap (λ ms. is_in node ms)
      (sym s.map.tree.lists) ∙ i) (own_found k.order kl.irreflexive kl.transitive g.pairs s.rising)

  -- its removal begins at the root
  pub root_exit : {node : ℕ} → link_at (bytes_of now.bytes) (h + at) ≡ Some node
      → None ≡ exit_in k now node g.holds.map.tree.tree
  root_exit {node} e =
      let t = g.holds.map.tree.tree in
      exit_of_root (comes_before k.order (keys_in k (nodes_of t) now)) node t (sym e ∙ g.holds.map.tree.linked.root)

  module _ {new : WindowState} {key : K} {p : Pair K V} (has : pair_at k.order g.pairs key ≡ Some p)
      (e : ErasesPair k v now new h at g.pairs p key) where
    live_new : live_of new.bytes ≡ released (live_of now.bytes) (handle p.node)
    live_new = lay_out_one _ _ _ e.live

    off : (x : Extent) → is_in (handle x) (nodes_of_pairs ps) ≡ false
        → is_in (handle x) (nodes_of_pairs g.pairs) ≡ false
    off x o = false_from_ne_true _ (λ t. both_ways _ o (g.among (handle x) t))

    apart : (x : Extent) → is_in (handle x) (nodes_of_pairs ps) ≡ false → handle x ≢ handle p.node
    apart x o f = both_ways _ (off x o) (ap (λ n. is_in n (nodes_of_pairs g.pairs)) f
        ∙ in_nodes k.order g.pairs key p has)

    -- one more pair is removed
    pub going_on : IsGoing k v old new h at ps
    going_on = record {
      pairs = remove_pair k.order g.pairs key;
      holds = e.map;
      among = λ m i. g.among m (in_from (nodes_of_pairs g.pairs) (remove_pair k.order g.pairs key) (removed_all k.order
          (λ q. is_in (pair_node q) (nodes_of_pairs g.pairs) ≡ true) g.pairs key
          (nodes_in (nodes_of_pairs g.pairs) g.pairs (λ m i. i))) m i);
      beside = beside_then g.beside e.beside (λ x f o. (g.there x f o, off x o));
      there = λ x f o. rw live_new (found-less (handle x) (handle p.node) x (live_of now.bytes).extents (apart x o)
          (g.there x f o));
      size = ap (λ (l : LiveSet). l.size) live_new ∙ g.size;
      left = ap (λ (l : LiveSet). without_all (blocks_of (remove_pair k.order g.pairs key)) l.extents) live_new
          ∙ without_removed k.order g.pairs key p (live_of now.bytes).extents has ∙ g.left;
      same = λ none. absurd (false≢true (rw none at (g.among (handle p.node) (in_nodes k.order g.pairs key p has))));
    }

    -- there is one pair fewer
    pub one_less : word_at (bytes_of new.bytes) (h + at + 8) < word_at (bytes_of now.bytes) (h + at + 8)
    one_less =
        let a = e.map.map.count in let b = g.holds.map.count in let l = removed_length k.order g.pairs key p has in
        omega (arith, a, b, l)

  no_pairs : (t : Tree) (qs : List (Pair K V)) → None ≡ root_of t → nodes_of t ≡ nodes_of_pairs qs → qs ≡ []
  no_pairs leaf [] e f = refl
  no_pairs leaf (q ∷ qs) e f = absurd (cc)
  no_pairs (fork red left n right) qs e f = absurd (cc)

  -- all pairs are given up
  pub given_up : IsTrue (is_proper (live_of old.bytes)) → link_at (bytes_of now.bytes) (h + at) ≡ None
      → FreesAllPairs k v old now h at ps
  given_up proper e =
      let none : g.pairs ≡ [] = no_pairs g.holds.map.tree.tree g.pairs
      (sym e ∙ g.holds.map.tree.linked.root) g.holds.map.tree.lists in
      let rest : (live_of now.bytes).extents ≡ without_all (blocks_of ps) (live_of old.bytes).extents =
      ap (λ (qs : List (Pair K V)). without_all (blocks_of qs) (live_of now.bytes).extents) (sym none) ∙ g.left in
      let live : live_of now.bytes ≡ exchanged (live_of old.bytes) (blocks_of ps) [] = λ i.
      record { size = g.size i; extents = rest i } in
      let rises = live-rises (live_of old.bytes) proper in
      record {
        change = record {
          live = subst (EncodesLiveSet current now.bytes) live g.holds.heap;
          place = g.beside.place;
          front = g.beside.front;
          behind = g.beside.behind;
          blocks = all_each (SameBlockExcept (bytes_of old.bytes) (bytes_of now.bytes) (h + at) 24)
              (without_all (blocks_of ps) (live_of old.bytes).extents) (λ x i.
              let b = beside_all 128 ps (live_of old.bytes).extents x rises i in
              g.beside.blocks x (own_handle 128 (live_of old.bytes).extents x rises b.0) b.1);
        };
        empty = subst (λ (qs : List (Pair K V)). HoldsMap k v now.bytes h at qs) none g.holds;
        same = g.same;
      }
