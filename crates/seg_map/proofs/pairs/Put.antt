-- What is written of a map, and pairs that are put.
use Rattle.seg_map.proofs.Common as common
use common.{◌≡◌, true, Node, Bool, ◌||◌, List, Some, roomy, Pair, leads, IsGoodNodeSet, SameBytes, KeepsBlocks, refl}
use common.{AllocatesOk, comes_before, is_pair_node, links_among, beside_cell, changed-room, subst, entry_in, eqb-true}
use common.{or_cases, or_right, all_from, cells_of, Relinked, cases_eq, ◌∙◌, ◌+◌, ◌%◌, inl, WindowState, ◌≤◌}
use common.{HasBytesAt, sym, ap, ◌≢◌, inr, not, ◌∷◌, insert_in_order, ◌⊎◌, ℕ, arith, Plain, false, ne_eqb, is_in}
use common.{Extent, handle, stands, length, eq-eqb, others, IsTrue, Option, EncodesLiveSet, live_of, AllocatesNodeOk}
use common.{IfSome, pair_at, keys_in, IsUnlinkedPair, or_left, None, ChangesBytes, laid-heap, entry_same, SameBlock}
use common.{live-rises, found-room, node_place, current, word_at, link_at, IsPairAt, put_pair, IsPairIn, PairNode}
use common.{or_parts, not-true, bytes_of, extent_at, LinksPairOk, and_parts, is_ordered_with, pair_node, own_nodes}
use common.{IsKeyTree, SameBytesExcept-word, SameBytesExcept-link, changed-live, SameBytesExcept-SameBytes}
use common.{AllByRecursion, changed-keeps, SameSurroundings-trans, allocated-room, nodes_of_pairs, stands_before}
use common.{PairNode-is_pair_node, leaf, has_room, WritesMapHeader, HasBytesAt-same, node_len, nodes_of}
use common.{insert_point_of, HoldsMap, both_ways}
use Rattle.seg_map.proofs.pairs.SearchTree.{other_block, Laws, found_in, keys, good, keys_among, key_is, pair_block}
use Rattle.seg_map.proofs.pairs.SearchTree.{pair_parts, tree_among, with_bytes}
use Rattle.seg_map.proofs.pairs.Frame.{map_over, pair_stays, beside_then, keeps_beside, map_stays}
use Rattle.seg_map.proofs.{pairs.Frame.relaid, pairs.Lookup.lent_own, pairs.NodeBlocks.all_in}
use Rattle.seg_map.proofs.{pairs.NodeBlocks.block_apart}
use Rattle.seg_map.proofs.pairs.Lists.{replaced_nodes, replaced_rising, in_nodes, not_among, place_of, put_all}
use Rattle.seg_map.proofs.pairs.Lists.{put_length, put_nodes, put_rising, HaveKeys, keys_agree, known}
use Rattle.seg_map.proofs.pairs.Lists.{beside as not_beside, each, each_both, pair_of, replaced_all}
use Rattle.seg_map.specs.Changing.{InitsMap, PutsNewPair, OverwritesPair, CanLinkPair, LinksPair}
use Rattle.raw_region.proofs.Laws.{SameBytesExcept-trans, SameBytesExcept-wider}
use Rattle.best_fit.proofs.Laws.{still_allocated-block, Differs, allocated-live, allocated-room_before, found-more}
use Rattle.best_fit.proofs.Laws.{found-new, place-serves, rising-insert}
use Rattle.best_fit.specs.Fit.{added}
use Rattle.link_tree.proofs.Laws.{all_at}
use Rattle.link_tree.specs.Tree.{root_of}
use Rattle.std.proofs.lemmas.Option.{same_Some}

module _ {a b c d : WindowState} {at : ℕ} {root : Option ℕ} {count : ℕ} (first : ChangesBytes current a b at 8)
    (link : link_at (bytes_of b.bytes) at ≡ root)
    (second : ChangesBytes current b c (at + 8) 8) (counted : word_at (bytes_of c.bytes) (at + 8) ≡ count)
    (third : ChangesBytes current c d (at + 16) 8) (zero : word_at (bytes_of d.bytes) (at + 16) ≡ 0) where
  -- the header of the map is written
  pub headed : WritesMapHeader a d at root count
  headed =
      let p = SameBytesExcept-wider _ _ _ _ at 24 first.rest (omega arith) (omega arith) in
      let q = SameBytesExcept-wider _ _ _ _ at 24 second.rest (omega arith) (omega arith) in
      let r = SameBytesExcept-wider _ _ _ _ at 24 third.rest (omega arith) (omega arith) in
      record {
        change = record {
          place = SameSurroundings-trans _ _ _ first.place (SameSurroundings-trans _ _ _ second.place third.place);
          live = subst (EncodesLiveSet current d.bytes) (changed-live _ _ _ _ _ second ∙ changed-live _ _ _ _ _ first)
              third.live;
          rest = SameBytesExcept-trans _ _ _ _ _ p (SameBytesExcept-trans _ _ _ _ _ q r);
        };
        link = SameBytesExcept-link _ _ _ _ at third.rest (inl (omega arith))
            ∙ SameBytesExcept-link _ _ _ _ at second.rest (inl (omega arith)) ∙ link;
        counted = SameBytesExcept-word _ _ _ _ (at + 8) third.rest (inl (omega arith)) ∙ counted;
        third = zero;
      }

-- a map without pairs
pub is_new : {K V : Type 0} (k : Plain K) (v : Plain V) {a d : WindowState} (h at : ℕ) → at % 8 ≡ 0
    → IsTrue (has_room (live_of a.bytes) h (at + 24)) → WritesMapHeader a d (h + at) None 0 → InitsMap k v a d h at
is_new {K} {V} k v {a} {d} h at whole room w = record {
  change = w.change;
  map = record {
    heap = laid-heap _ _ w.change.live;
    map = record {
      count = w.counted;
      third = w.third;
      tree = record {
        tree = leaf;
        linked = record { root = w.link; holds = tt };
        red_black = record { root = refl; no_red_pair = refl; black = (0, refl) };
        lists = refl;
      };
      pairs = tt;
    };
    aligned = whole;
    room = rw (changed-live _ _ _ _ _ w.change) room;
    rising = refl;
    pairs = tt;
  };
}

-- ---- a node is made: its four parts are written in a new block

-- a new block, after a part of it is written
still : {a b c : WindowState} {n node from k : ℕ} (room : ℕ) → AllocatesOk current a b n Node node
    → ChangesBytes current b c from
    k → room ≤ n → node ≤ from → from + k ≤ node + room → AllocatesOk current a c n Node node
still {a} {b} {c} {n} {node} {from} {k} room new change long low high = still_allocated-block current a b c n Node node
    from k room new change (allocated-room _ _ _ _ _ _ room new long) low high

-- the links, the key and the value are written one after another
pub made : {K V : Type 0} {kp : Plain K} → Laws kp → (vp : Plain V) {a b c d e f : WindowState} {node : ℕ}
    → AllocatesOk current a b (node_len kp.SIZE vp.SIZE) Node node → ChangesBytes current b c (node + 0) 8
    → link_at (bytes_of c.bytes) (node + 0) ≡ None → ChangesBytes current c d (node + 8) 8
    → link_at (bytes_of d.bytes) (node + 8) ≡ None → {key : K} → kp.is_value key ≡ true
    → ChangesBytes current d e (node + 16) kp.SIZE → HasBytesAt (bytes_of e.bytes) (node + 16) (kp.spelling key)
    → (value : V) → vp.is_value value ≡ true → ChangesBytes current e f (node + (16 + kp.SIZE)) vp.SIZE
    → HasBytesAt (bytes_of f.bytes) (node + (16 + kp.SIZE)) (vp.spelling value)
    → AllocatesNodeOk kp vp a f key value node
made {kp = kp} kl vp {c = c} {f = f} {node = node} new first left second right {key} is_key third spelled value is_value
    fourth there =
    let begin : node + 0 ≡ node = omega arith in
    let behind : node + (16 + kp.SIZE) ≡ node + 16 + kp.SIZE = omega arith in
    let long = kl.spells key is_key in
    let one = still 16 new first (omega arith) (omega arith) (omega arith) in
    let two = still 16 one second (omega arith) (omega arith) (omega arith) in
    let three = still (16 + kp.SIZE) two third (omega arith) (omega arith) (omega arith) in
    record {
      block = still (16 + kp.SIZE + vp.SIZE) three fourth (omega arith) (omega arith) (omega arith);
      left = SameBytesExcept-link _ _ _ _ node fourth.rest (inl (omega arith))
          ∙ SameBytesExcept-link _ _ _ _ node third.rest (inl (omega arith))
          ∙ SameBytesExcept-link _ _ _ _ node second.rest (inl (omega arith))
          ∙ subst (λ k. link_at (bytes_of c.bytes) k ≡ None) begin left;
      right = SameBytesExcept-link _ _ _ _ (node + 8) fourth.rest (inl (omega arith))
          ∙ SameBytesExcept-link _ _ _ _ (node + 8) third.rest (inl (omega arith)) ∙ right;
      is_a_key = is_key;
      is_a_value = is_value;
      key_there = HasBytesAt-same _ _ _ _ (node + 16) (kp.spelling key) (SameBytesExcept-SameBytes _ _ _ _ (node + 16)
          (node + 16 + kp.SIZE) fourth.rest (inl (omega arith))) (omega arith) (omega (arith, long)) spelled;
      value_there = subst (λ k. HasBytesAt (bytes_of f.bytes) k (vp.spelling value)) behind there;
    }

-- ---- a new pair: its node is made, and enters the map

module _ {K V : Type 0} {kp : Plain K} {vp : Plain V} (kl : Laws kp) (vl : Laws vp) {c d : WindowState} {h at : ℕ}
    {ps : List (Pair K V)} (s : HoldsMap kp vp c.bytes h at ps) {key : K} {value : V} {node : ℕ}
    (absent : pair_at kp.order ps key ≡ None) (m : AllocatesNodeOk kp vp c d key value node) where
  abbrev x : Extent
  x = m.block.extent

  live_d : live_of d.bytes ≡ added (live_of c.bytes) m.block.extent
  live_d = allocated-live _ _ _ _ _ _ m.block

  differs : Differs m.block.extent (live_of c.bytes).extents
  differs = (rising-insert 128 x (live_of c.bytes).extents
      (live-rises (added (live_of c.bytes) x) m.block.live.proper)).differs

  -- no block had this handle
  differs_at : {y : Extent} (g : ℕ) → extent_at (live_of c.bytes) g ≡ Some y → handle y ≢ handle m.block.extent
  differs_at {y} g f e = all_in (λ (z : Extent). x.offset ≢ z.offset) (live_of c.bytes).extents y differs
      (found_in (live_of c.bytes).extents g y f) (omega (arith, e))

  kept : {y : Extent} (g : ℕ) → extent_at (live_of c.bytes) g ≡ Some y
      → SameBlock (bytes_of c.bytes) (bytes_of d.bytes) y
  kept {y} g f = all_in (SameBlock (bytes_of c.bytes) (bytes_of d.bytes)) (live_of c.bytes).extents y
      m.block.keeps.blocks (found_in (live_of c.bytes).extents g y f)

  still_there : (y : Extent) → extent_at (live_of c.bytes) (handle y) ≡ Some y
      → extent_at (live_of d.bytes) (handle y) ≡ Some y
  still_there y f = rw live_d (found-more (handle y) x y (live_of c.bytes).extents (λ e. differs_at _ f (sym e)) f)

  -- the map is unchanged, next to the new block
  pub map_there : HoldsMap kp vp d.bytes h at ps
  map_there =
      let r = roomy c h (at + 24) s.heap s.room in let same = kept _ r.found in
      map_stays kl vl c d s (laid-heap _ _ m.block.live) (allocated-room_before current c d (node_len kp.SIZE vp.SIZE)
      Node node h (at + 24) m.block s.room) (record { at = λ n a b. same.payload.at n (omega arith) (omega arith) })
      (each ps s.pairs (λ q i. record { found = still_there q.node i.listed; same = kept _ i.listed }))

  there_tree : map_there.map.tree.tree ≡ s.map.tree.tree
  unfolding map_there map_stays
  there_tree = refl

  abbrev new_pair : Pair K V
  new_pair = record { key = key; value = value; node = m.block.extent }

  loose : IsUnlinkedPair kp vp d.bytes h ps new_pair
  loose =
      let r = roomy c h (at + 24) s.heap s.room in let begins = r.at in
      record {
        absent = absent;
        block = record {
          good = rw (
            m.is_a_key,
            m.is_a_value,
            place-serves (live_of c.bytes) (node_len kp.SIZE vp.SIZE) Node x m.block.placed,
          ) refl;
          listed = rw live_d (found-new x (live_of c.bytes).extents differs);
          apart = λ e. differs_at _ r.found (begins ∙ sym e);
        };
        other = not_among (handle x) ps (each ps s.pairs (λ q i. differs_at _ i.listed));
        left = subst (λ k. link_at (bytes_of d.bytes) k ≡ None) m.block.at m.left;
        right = subst (λ k. link_at (bytes_of d.bytes) (k + 8) ≡ None) m.block.at m.right;
        bytes = (
          subst (λ k. HasBytesAt (bytes_of d.bytes) (k + 16) (kp.spelling key)) m.block.at m.key_there,
          subst (λ k. HasBytesAt (bytes_of d.bytes) (k + 16 + kp.SIZE) (vp.spelling value)) m.block.at m.value_there,
        );
      }

  -- an insertion begins where it did before the block was allocated
  pub can_put_in : {root start : Option ℕ} → root ≡ link_at (bytes_of c.bytes) (h + at)
      → start ≡ entry_in kp c key s.map.tree.tree → CanLinkPair kp vp d h at root start node
  can_put_in top e =
      let old = keys_in kp (nodes_of s.map.tree.tree) c in let new = keys_in kp (nodes_of map_there.map.tree.tree) d in
      let before = keys kl c s in let after = keys kl d map_there in
      record {
        there = record { pairs = ps; pair = new_pair; map = map_there; loose = loose; is = sym m.block.at };
        leads = top ∙ s.map.tree.linked.root ∙ ap root_of (sym there_tree) ∙ sym map_there.map.tree.linked.root;
        begins = e ∙ entry_same (stands_before kp.order old
            false key) (stands_before kp.order new false key) s.map.tree.tree (λ n i. ap (stands kp.order false key)
            (keys_agree old new ps before after n (ap (is_in n) (sym s.map.tree.lists) ∙ i)))
            ∙ ap (insert_point_of (stands_before kp.order new false key)) (sym there_tree);
      }

  -- a linked pair is put
  pub is_put : {e : WindowState} → LinksPair kp vp d e h at node → PutsNewPair kp vp c e h at ps key value
  is_put {e} puts =
      let q = puts ps new_pair map_there loose (sym m.block.at) in
      record {
        extent = x;
        placed = m.block.placed;
        live = subst (EncodesLiveSet current e.bytes) live_d q.live;
        beside = beside_then (keeps_beside m.block.keeps (λ y f o. kept _ f)) q.beside (λ y f o. (
          still_there y f,
          ap (λ (t : Bool). t || is_in (handle y) (nodes_of_pairs ps)) (ne_eqb _ _ (differs_at _ f)) ∙ o,
        ));
        map = q.map;
      }

-- ---- a pair whose node is made enters the map

-- a link to a node of the list is a link to a node of a longer list
leads_more : (n : ℕ) (ns : List ℕ) (o : Option ℕ) → leads (λ j. is_in j ns) o ≡ true
    → leads (λ j. is_in j (n ∷ ns)) o ≡ true
leads_more n ns None h = refl
leads_more n ns (Some m) h = or_right _ _ h

module _ {K V : Type 0} {kp : Plain K} {vp : Plain V} (kl : Laws kp) (c : WindowState) {h at : ℕ} {root : Option ℕ}
    {ps : List (Pair K V)} (s : HoldsMap kp vp c.bytes h at ps) (is : root ≡ link_at (bytes_of c.bytes) (h + at))
    {p : Pair K V} (l : IsUnlinkedPair kp vp c.bytes h ps p) {node : ℕ} (here : pair_node p ≡ node) where
  abbrev lent : List ℕ
  lent = own_nodes c.bytes root (Some node)

  abbrev ns : List ℕ
  ns = nodes_of s.map.tree.tree

  abbrev all : List ℕ
  all = pair_node p ∷ nodes_of s.map.tree.tree

  ns_is : lent ≡ all
  unfolding own_nodes
  ns_is = λ i. sym here i ∷ lent_own kl c s is refl i

  links_all : (m : ℕ) → is_in m all ≡ true → links_among (bytes_of c.bytes) all m ≡ true
  links_all m i =
      elim (or_cases _ _ i) [
        | inl e ↦ rw (eqb-true m (pair_node p) e, l.left, l.right) refl
        | inr e ↦
            let g = good kl c s in
            let two = and_parts _ _ (all_at (links_among (bytes_of c.bytes) ns) ns m g.links e) in
            rw (
              leads_more (pair_node p) ns (cells_of (bytes_of c.bytes) m).left two.0,
              leads_more (pair_node p) ns (cells_of (bytes_of c.bytes) m).right two.1,
            ) refl
      ]

  good_all : IsGoodNodeSet (16 + kp.SIZE) all c
  good_all = record {
    proper = s.heap.proper;
    blocks = rw (pair_block kl c s p l.block, (good kl c s).blocks) refl;
    links = all_from (links_among (bytes_of c.bytes) all) all links_all;
  }

  node_all : (m : ℕ) → is_in m all ≡ true → is_pair_node (16 + kp.SIZE) all c m ≡ true
  node_all m i = PairNode-is_pair_node (16 + kp.SIZE) all c m (record { good = good_all; listed = i })

  own_in : is_in (pair_node p) all ≡ true
  own_in = or_left _ _ (eq-eqb (pair_node p) (pair_node p) refl)

  own_key : keys_in kp all c (pair_node p) ≡ Some p.key
  own_key = key_is kl all c (node_all (pair_node p) own_in) l.block l.bytes

  keys_all : HaveKeys (keys_in kp all c) ps
  keys_all = keys_among kl s good_all (λ m i. or_right _ _ i)

  -- the pairs make a search tree still
  pub planted_tree : IsKeyTree kp lent c root s.map.tree.tree
  planted_tree = rw (ns_is, is) (tree_among kl s good_all (λ m i. or_right _ _ i))

  -- the node can be linked, beginning at the root or at its entry
  pub can_link : (start : Option ℕ) → start ≡ entry_in kp c p.key s.map.tree.tree
      → IsKeyTree kp lent c root s.map.tree.tree × (is_pair_node (16 + kp.SIZE) lent c node ≡ true)
      × (is_ordered_with (comes_before kp.order (keys_in kp lent c)) node (nodes_of s.map.tree.tree) ≡ true)
      × IfSome start (λ n. insert_point_of (λ m. not (comes_before kp.order (keys_in kp lent c) node m))
      s.map.tree.tree ≡ Some n)
  can_link start begins = rw (ns_is, ← here) (
    rw is (tree_among kl s good_all (λ m i. or_right _ _ i)),
    node_all (pair_node p) own_in,
    ap (is_ordered_with (comes_before kp.order (keys_in kp all c)) (pair_node p)) s.map.tree.lists
        ∙ place_of kp.order (keys_in kp all c) p own_key ps keys_all l.absent,
    -- an insertion begins where the search for the key found
    subst (λ (o : Option ℕ). IfSome start (λ n. o ≡ Some n)) (entry_same (stands_before kp.order
        (keys_in kp ns c) false p.key) (λ m. not (comes_before kp.order (keys_in kp all c) (pair_node p) m))
        s.map.tree.tree (λ m i. let j = ap (is_in m) (sym s.map.tree.lists) ∙ i in
        ap (stands kp.order false p.key) (keys_agree (keys_in kp ns c) (keys_in kp all c) ps (keys kl c s) keys_all
        m j) ∙ not_beside kp.order kl.irreflexive kl.transitive (keys_in kp all c) p own_key ps keys_all
        l.absent m j)) (known start (entry_in kp c p.key s.map.tree.tree) begins),
  )

  -- the map with the pair
  pub planted : {d e : WindowState} {top : Option ℕ} {n steps : ℕ}
      → Relinked kp lent c d root top (insert_in_order (comes_before kp.order (keys_in kp lent c)) node) 28 steps
      → Laws vp → n ≡ length ps + 1 → WritesMapHeader d e (h + at) top n → LinksPairOk kp vp c e h at ps p
  planted u vl count head = relaid s planted_tree u kl vl (p ∷ ps) (l.block, s.pairs) (l.bytes, s.map.pairs)
      (ns_is ∙ ap (λ (ms : List ℕ). pair_node p ∷ ms) s.map.tree.lists) (rw ns_is good_all) head
      ((λ i. insert_in_order (comes_before kp.order (keys_in kp (ns_is i) c)) (sym here i) (s.map.tree.lists i))
      ∙ put_nodes kp.order (keys_in kp all c) p own_key ps keys_all l.absent)
      (λ P a. put_all kp.order P p ps a.0 a.1) (put_rising kp.order kl.transitive p ps l.absent s.rising)
      (let more = put_length kp.order p ps l.absent in omega (arith, more, count))

-- ---- another value is written over that of a key

module _ {K V : Type 0} {kp : Plain K} {vp : Plain V} (c : WindowState) {h at : ℕ} {ps : List (Pair K V)}
    (s : HoldsMap kp vp c.bytes h at ps) (key : K) {p : Pair K V} (has : pair_at kp.order ps key ≡ Some p) where
  own : IsPairIn kp vp (live_of c.bytes) h p
  own = (pair_of kp.order (IsPairIn kp vp (live_of c.bytes) h) ps key p has s.pairs).0

  -- its block has room for the value
  pub value_room : IsTrue (has_room (live_of c.bytes) (handle p.node) (16 + kp.SIZE + vp.SIZE))
  value_room = found-room (live_of c.bytes) (handle p.node) (16 + kp.SIZE + vp.SIZE) p.node own.listed
      (pair_parts own).long

  module _ (kl : Laws kp) (vl : Laws vp)
      (total : (x y : K) → kp.is_value x ≡ true → kp.is_value y ≡ true → kp.order x y ≡ false → kp.order y x ≡ false
      → x ≡ y) {d : WindowState} (value : V) (is_key_value : kp.is_value key ≡ true) (is_value : vp.is_value value
      ≡ true) (change : ChangesBytes current c d (handle p.node + (16 + kp.SIZE)) vp.SIZE)
      (there : HasBytesAt (bytes_of d.bytes) (handle p.node + (16 + kp.SIZE)) (vp.spelling value)) where
    abbrev new : Pair K V
    new = record { key = key; value = value; node = p.node }

    same_key_is : key ≡ p.key
    same_key_is =
        let two = or_parts (kp.order key p.key) (kp.order p.key key) (not-true _
        (pair_of kp.order (IsPairIn kp vp (live_of c.bytes) h) ps key p has s.pairs).1) in
        total key p.key is_key_value (pair_parts own).key two.0 two.1

    keeps : KeepsBlocks c d (others (handle p.node) (live_of c.bytes).extents)
    keeps = changed-keeps current c d (handle p.node) (16 + kp.SIZE) vp.SIZE change value_room

    block_stays : (y : Extent) (g : ℕ) → extent_at (live_of c.bytes) g ≡ Some y → handle y ≢ handle p.node
        → SameBlock (bytes_of c.bytes) (bytes_of d.bytes) y
    block_stays y g f o = other_block (live_of c.bytes) (handle p.node) g keeps f o

    cells : (m : ℕ) → is_in m (nodes_of s.map.tree.tree) ≡ true
        → cells_of (bytes_of d.bytes) m ≡ cells_of (bytes_of c.bytes) m
    cells m i =
        let g : PairNode (16 + kp.SIZE) (nodes_of s.map.tree.tree) c m = record { good = good kl c s; listed = i } in
        let long = (pair_parts own).long in
        let listed = found_in (live_of c.bytes).extents (handle p.node) p.node own.listed in
        beside_cell _ _ _ _ m change.rest (node_place (16 + kp.SIZE) (nodes_of s.map.tree.tree) c m g).low
        (elim (cases_eq (handle p.node) m) [
          | inl e ↦ inl (omega (arith, e))
          | inr o ↦ grind (arith, block_apart p.node g listed o, long)
        ])

    -- the block, the bytes and the key of a pair
    record Was (q : Pair K V) : Type 0 where
      block : IsPairIn kp vp (live_of c.bytes) h q
      bytes : IsPairAt kp.SIZE kp.spelling vp.spelling (bytes_of c.bytes) q
      key_is : keys_in kp (nodes_of s.map.tree.tree) c (pair_node q) ≡ Some q.key

    were : AllByRecursion Was ps
    were = each_both ps (with_bytes s) (keys kl c s) (λ q w k. record { block = w.0; bytes = w.1; key_is = k })

    -- another pair has another node
    other_node : (q : Pair K V) → Was q → (kp.order key q.key ≡ true) ⊎ (kp.order q.key key ≡ true)
        → handle q.node ≢ handle p.node
    other_node q w o e =
        let found = pair_of kp.order Was ps key p has were in
        let is : q.key ≡ key = same_Some q.key p.key (sym w.key_is ∙ ap (keys_in kp (nodes_of s.map.tree.tree) c) e
        ∙ found.0.key_is) ∙ sym same_key_is in
        elim o [
          | inl l ↦ both_ways _ (ap (kp.order key) is ∙ kl.irreflexive key) l
          | inr l ↦ both_ways _ (ap (λ k. kp.order k key) is ∙ kl.irreflexive key) l
        ]

    bytes_stay : (q : Pair K V) → Was q → (kp.order key q.key ≡ true) ⊎ (kp.order q.key key ≡ true)
        → IsPairAt kp.SIZE kp.spelling vp.spelling (bytes_of d.bytes) q
    bytes_stay q w o =
        let long = (pair_parts w.block).long in
        let same = block_stays q.node (handle q.node) w.block.listed (other_node q w o) in
        pair_stays kl vl (bytes_of c.bytes) (bytes_of d.bytes) w.block
        (record { at = λ k low high. same.payload.at k (omega arith) (omega arith) }) w.bytes

    own_bytes : IsPairAt kp.SIZE kp.spelling vp.spelling (bytes_of d.bytes) new
    own_bytes =
        let found = pair_of kp.order Was ps key p has were in let size = kl.spells p.key (pair_parts own).key in
        let old = HasBytesAt-same _ _ _ _ (handle p.node + 16) (kp.spelling p.key)
        (SameBytesExcept-SameBytes _ _ _ _ (handle p.node + 16) (handle p.node + 16 + kp.SIZE) change.rest
        (inl (omega arith))) (omega arith) (omega (arith, size)) found.0.bytes.0 in
        let behind : handle p.node + (16 + kp.SIZE) ≡ handle p.node + 16 + kp.SIZE = omega arith in
        (rw same_key_is old, subst (λ k. HasBytesAt (bytes_of d.bytes) k (vp.spelling value)) behind there)

    own_block : IsPairIn kp vp (live_of c.bytes) h new
    own_block = record {
      good = rw (is_key_value, is_value, (pair_parts own).serves) refl;
      listed = own.listed;
      apart = own.apart;
    }

    map_after : HoldsMap kp vp d.bytes h at (put_pair kp.order new ps)
    map_after =
        let r = roomy c h (at + 24) s.heap s.room in let begins = r.at in
        let block = block_stays r.extent h r.found (λ e. own.apart (sym e ∙ begins)) in
        let words : SameBytes (bytes_of c.bytes) (bytes_of d.bytes) (h + at) (h + at + 24) =
        record { at = λ n a b. block.payload.at n (omega arith) (omega arith) } in
        map_over c d s (laid-heap _ _ change.live) (changed-room _ _ _ _ _ h (at + 24) change s.room) words cells
        (put_pair kp.order new ps) (sym (replaced_nodes kp.order kl.transitive p new same_key_is refl ps s.rising has))
        (replaced_rising kp.order kl.transitive p new same_key_is ps s.rising has)
        (rw (changed-live _ _ _ _ _ change) (replaced_all kp.order kl.transitive p new same_key_is
        (IsPairIn kp vp (live_of c.bytes) h) (IsPairIn kp vp (live_of c.bytes) h) (λ q a o. a) own_block ps s.rising has
        s.pairs)) (replaced_all kp.order kl.transitive p new same_key_is Was
        (IsPairAt kp.SIZE kp.spelling vp.spelling (bytes_of d.bytes)) bytes_stay own_bytes ps s.rising has were)

    -- a pair is put over one with its key
    pub is_put_again : OverwritesPair kp vp c d h at ps p key value
    is_put_again =
        let behind : handle p.node + (16 + kp.SIZE) ≡ handle p.node + 16 + kp.SIZE = omega arith in
        record {
          change = subst (λ n. ChangesBytes current c d n vp.SIZE) behind change;
          beside = keeps_beside keeps (λ y f o. block_stays y (handle y) f (λ e. both_ways _ o
              (ap (λ n. is_in n (nodes_of_pairs ps)) e ∙ in_nodes kp.order ps key p has)));
          map = map_after;
        }
