-- The pairs of a map that are lent to a call of the tree, the results of a search among them, and the nodes that are
-- listed.
use Rattle.seg_map.proofs.Common.{◌≡◌, refl, sym, ap, subst, ◌∙◌, ℕ, ◌+◌, ◌*◌, ◌≤◌, Bool, List, ◌∷◌, length, true}
use Rattle.seg_map.proofs.Common.{false, arith, not, IsTrue, reverse, Option, Some, None, IfSome, find, option_map}
use Rattle.seg_map.proofs.Common.{if◌then◌else◌, AllByRecursion, last_or, WindowState, bytes_of, read, link_at}
use Rattle.seg_map.proofs.Common.{IsSearchTree, Tree, bits, nodes_of, first_not_before, last_before, insert_point_of}
use Rattle.seg_map.proofs.Common.{has_room, live_of, found-room, room-less, IsKeyTree, keys_in, Pair, IsPairAt, pair_at}
use Rattle.seg_map.proofs.Common.{Chains, comes_before, own_nodes, pair_cells, stands_before, HoldsMap, IsPairIn}
use Rattle.seg_map.proofs.Common.{final_pair, first_pair, is_passed, last_pair, pair_node, entry_in, exit_in, Plain, []}
use Rattle.seg_map.proofs.Common.{nodes_of_pairs, length-map, suc, map, stands}
use Rattle.seg_map.proofs.pairs.SearchTree.{keys, last_node, with_bytes, own, pair_parts, read_spelled, value_of, Laws}
use Rattle.seg_map.proofs.{pairs.SearchTree.first_node, pairs.SearchTree.key_tree, pairs.Lists.each_both}
use Rattle.seg_map.proofs.pairs.Lists.{AtNode, all_reversed, each, last_mapped, by_key, pair_by_key, HaveKeys, at_node}
use Rattle.std.specs.Prelude.{option_and_then}
use Rattle.std.proofs.lemmas.Option.{IfSome_then}
use Rattle.best_fit.proofs.Laws.{IfSome_is}
use Rattle.link_tree.specs.{Searching.path_length, Ways.remove_point_of}
use Rattle.seg_map.specs.Searches.{path_in, reading_steps, FindsExit, OpensPairTree, IsRead, LooksFor, LooksUp, item_at}
use Rattle.seg_map.specs.Searches.{EndsPathOf, EndsSearch}
use Rattle.seg_map.specs.{Searches.last_path, Searches.node_with, PairNodes.both}
use Rattle.best_fit.specs.declared.places.Place.{Place}
use Rattle.seg_map.specs.Places.{IsSomeMap, SearchSteps, item_of, value_of_pair, FindsItem}
use Rattle.std.proofs.Common.{zero, ◌++◌, take, drop, min, length-take}
use Rattle.std.specs.List.{filter}
use Rattle.std.proofs.lemmas.List.{take-map}
use Rattle.seg_map.specs.Listing.{HasNode, ListingSteps, ListsNodes, ReadsNode, pairs_past}
use Rattle.link_tree.specs.Listing.{filled, nodes_from}

module _ {K V : Type 0} {kp : Plain K} {vp : Plain V} (laws : Laws kp) (c : WindowState) {h at : ℕ}
    {ps : List (Pair K V)} (s : HoldsMap kp vp c.bytes h at ps) {root : Option ℕ} {ms : List ℕ}
    (is : root ≡ link_at (bytes_of c.bytes) (h + at)) (are : ms ≡ own_nodes c.bytes root None) where
  -- the lent nodes are the nodes of the map
  pub lent_own : ms ≡ nodes_of s.map.tree.tree
  lent_own = are ∙ ap (λ o. own_nodes c.bytes o None) is ∙ own laws c s

  -- the pairs that are lent make a search tree
  pub lent_tree : IsKeyTree kp ms c root s.map.tree.tree
  lent_tree = rw (lent_own, is) (key_tree laws c s)

-- ---- a map is opened to a search

module _ {K V : Type 0} {kp : Plain K} {vp : Plain V} (kl : Laws kp) (vl : Laws vp) (c : WindowState) (h : ℕ) where
  read_pair : (by : ℕ → Option K) (p : Pair K V) → IsPairIn kp vp (live_of c.bytes) h p → IsPairAt kp.SIZE kp.spelling
      vp.spelling (bytes_of c.bytes) p → by (pair_node p) ≡ Some p.key → IsRead kp vp c by p
  read_pair by p i b e =
      let q = pair_parts i in
      let m = bytes_of c.bytes in let behind : pair_node p + (16 + kp.SIZE) ≡ pair_node p + 16 + kp.SIZE =
      omega arith in
      let k = read_spelled kp kl m (pair_node p + 16) p.key q.key b.0 in
      let v = ap (λ a. value_of vp (read m a vp.SIZE)) behind
      ∙ read_spelled vp vl m (pair_node p + 16 + kp.SIZE) p.value q.value b.1 in
      record {
        key = e;
        item = λ j. both (k j) (v j);
        room = found-room (live_of c.bytes) (pair_node p) (16 + kp.SIZE + vp.SIZE) p.node i.listed q.long;
      }

  -- the tree of a map is lent to a search
  pub opened : (at : ℕ) {root : Option ℕ} {ms : List ℕ} → root ≡ link_at (bytes_of c.bytes) (h + at)
      → ms ≡ own_nodes c.bytes root None → OpensPairTree kp vp c c (record { handle = h; at = at }) ms root
  opened at {root} {ms} is are = record {
    same = refl;
    nodes = λ ps s. lent_own kl c s is are;
    tree = λ ps s. lent_tree kl c s is are;
    pairs = λ ps s. each_both ps (with_bytes s) (rw (lent_own kl c s is are) (keys kl c s))
        (λ p w k. read_pair (keys_in kp ms c) p w.0 w.1 k);
  }

-- ---- the result of a search

-- the node of a pair, or none, after this many steps
pub record Finds {K V : Type 0} (k : Plain K) (v : Plain V) (c : WindowState) (at : Place)
    (pair : List (Pair K V) → Option (Pair K V)) (path : Tree → ℕ) (found : Option ℕ) (taken : ℕ) : Type 0 where
  pub keys : ℕ → Option K
  pub good : (ps : List (Pair K V)) → HoldsMap k v c.bytes at.handle at.at ps → IfSome (pair ps) (IsRead k v c keys)
  pub node : (ps : List (Pair K V)) → HoldsMap k v c.bytes at.handle at.at ps → found ≡ option_map pair_node (pair ps)
  pub exact : (ps : List (Pair K V)) (s : HoldsMap k v c.bytes at.handle at.at ps) → taken ≡ path s.map.tree.tree
  pub most : SearchSteps k v c.bytes at 0 0 taken

find_good : {A : Type 0} (P : A → Type 0) (test : A → Bool) (xs : List A) → AllByRecursion P xs
    → IfSome (find test xs) P
find_good P test [] a = tt
find_good P test (x ∷ xs) a = by_test (find_good P test xs a.1) (test x)
  where
    by_test : IfSome (find test xs) P → (b : Bool) → IfSome (if b then Some x else find test xs) P
    by_test rest true = a.0
    by_test rest false = rest

last_good : {A : Type 0} (P : A → Type 0) (o : Option A) (xs : List A) → IfSome o P → AllByRecursion P xs
    → IfSome (last_or o xs) P
last_good P o [] h a = h
last_good P o (x ∷ xs) h a = last_good P (Some x) xs a.0 a.1

module _ {K V : Type 0} {k : Plain K} {v : Plain V} {now c : WindowState} {at : Place} {own : List ℕ}
    {root : Option ℕ} (o : OpensPairTree k v now c at own root) where
  abbrev Asked : (Tree → Type 0) → Type 0
  Asked P = (t : Tree) → IsSearchTree (comes_before k.order (keys_in k own now))
      (pair_cells (16 + k.SIZE) own now) root t → P t

  abbrev ahead : Bool → K → ℕ → Bool
  ahead past key = stands_before k.order (keys_in k own now) past key

  keys_are : (ps : List (Pair K V)) (s : HoldsMap k v c.bytes at.handle at.at ps)
      → keys_in k own now ≡ keys_in k (nodes_of s.map.tree.tree) c
  keys_are ps s = λ i. keys_in k (o.nodes ps s i) (o.same i)

  -- the steps of a search, by the number of pairs
  pub few_searched : {taken : ℕ} → Asked (λ t. taken ≤ 2 * bits (length (nodes_of t) + 1))
      → SearchSteps k v c.bytes at 0 0 taken
  few_searched {taken} most = λ ps s.
      let m = most s.map.tree.tree (o.tree ps s).tree in
      let n = ap (λ n. bits (n + 1)) (ap length s.map.tree.lists ∙ length-map ps pair_node) in omega arith

  -- a property of each pair holds for the pair whose node is found
  finds : {found : Option ℕ} {taken : ℕ} (node : List ℕ → Option ℕ) (pair : List (Pair K V) → Option (Pair K V))
      {path : Tree → ℕ} → ((P : Pair K V → Type 0) (ps : List (Pair K V)) → AllByRecursion P ps → IfSome (pair ps) P)
      → ((ps : List (Pair K V)) → HaveKeys (keys_in k own now) ps
      → node (nodes_of_pairs ps) ≡ option_map pair_node (pair ps)) → Asked (λ t. found ≡ node (nodes_of t))
      → ((ps : List (Pair K V)) (s : HoldsMap k v c.bytes at.handle at.at ps) → taken ≡ path s.map.tree.tree)
      → Asked (λ t. taken ≤ 2 * bits (length (nodes_of t) + 1)) → Finds k v c at pair path found taken
  finds node pair good nodes is exact most = record {
    keys = keys_in k own now;
    good = λ ps s. good (IsRead k v c (keys_in k own now)) ps (o.pairs ps s);
    node = λ ps s. is s.map.tree.tree (o.tree ps s).tree ∙ ap node s.map.tree.lists
        ∙ nodes ps (each ps (o.pairs ps s) (λ p r. r.key));
    exact = exact;
    most = few_searched most;
  }

  module _ (past : Bool) (key : K) {taken : ℕ} (exact : Asked (λ t. taken ≡ path_length (ahead past key) t))
      (most : Asked (λ t. taken ≤ 2 * bits (length (nodes_of t) + 1))) where
    path_is : (ps : List (Pair K V)) (s : HoldsMap k v c.bytes at.handle at.at ps)
        → taken ≡ path_in k c past key s.map.tree.tree
    path_is ps s = exact s.map.tree.tree (o.tree ps s).tree
        ∙ ap (λ ks. path_length (stands_before k.order ks past key) s.map.tree.tree) (keys_are ps s)

    -- the search finds the first pair from the key on
    pub finds_first : {found : Option ℕ} → Asked (λ t. found ≡ first_not_before (ahead past key) (nodes_of t))
        → Finds k v c at (first_pair k.order past key) (path_in k c past key) found taken
    finds_first first = finds (first_not_before (ahead past key)) (first_pair k.order past key)
        (λ P ps a. find_good P (λ p. not (is_passed k.order past key p)) ps a)
        (first_node k.order (keys_in k own now) past key) first path_is most

    -- the search finds the last pair before the key
    pub finds_before : {found : Option ℕ} → Asked (λ t. found ≡ last_before (ahead past key) (nodes_of t))
        → Finds k v c at (last_pair k.order past key) (path_in k c past key) found taken
    finds_before last = finds (last_before (ahead past key)) (last_pair k.order past key)
        (λ P ps a. find_good P (is_passed k.order past key) (reverse ps) (all_reversed P ps a))
        (last_node k.order (keys_in k own now) past key) last path_is most

  -- the search finds the last pair
  pub finds_last : {found : Option ℕ} {taken : ℕ} → Asked (λ t. found ≡ last_or None (nodes_of t))
      → Asked (λ t. taken ≡ path_length (λ n. true) t)
      → Asked (λ t. taken ≤ 2 * bits (length (nodes_of t) + 1)) → Finds k v c at final_pair last_path found taken
  finds_last last exact most = finds (last_or None) final_pair (λ P ps a. last_good P None ps tt a)
      (λ ps keyed. last_mapped pair_node None ps) last (λ ps s. exact s.map.tree.tree (o.tree ps s).tree) most

  -- the point at which an insertion begins, by the keys of the map
  pub entry_is : (key : K) {start : Option ℕ} → Asked (λ t. start ≡ insert_point_of (ahead false key) t)
      → (ps : List (Pair K V)) (s : HoldsMap k v c.bytes at.handle at.at ps) → start ≡ entry_in k c key s.map.tree.tree
  entry_is key entry ps s = entry s.map.tree.tree (o.tree ps s).tree
      ∙ ap (λ ks. insert_point_of (stands_before k.order ks false key) s.map.tree.tree) (keys_are ps s)

  -- a search has the map's nodes, and the map's state
  nodes_are : (ps : List (Pair K V)) (s : HoldsMap k v c.bytes at.handle at.at ps)
      → ◌≡◌ {A = List ℕ × WindowState} (own, now) (nodes_of s.map.tree.tree, c)
  nodes_are ps s = λ i. (o.nodes ps s i, o.same i)

  -- the end of the path, by the keys of the map
  pub ends_is : (key : K) (last : Option ℕ) → Asked (λ t. EndsPathOf k own now key t last)
      → EndsSearch k v c at key last
  ends_is key last ends ps s =
      subst (λ (w : List ℕ × WindowState). EndsPathOf k w.0 w.1 key s.map.tree.tree last) (nodes_are ps s)
      (ends s.map.tree.tree (o.tree ps s).tree)

  -- the end of the path, for a later search among the nodes
  pub ended : (key : K) (last : Option ℕ) → EndsSearch k v c at key last → (ps : List (Pair K V))
      → HoldsMap k v c.bytes at.handle at.at ps → (t : Tree)
      × IsSearchTree (comes_before k.order (keys_in k own now)) (pair_cells (16 + k.SIZE) own now) root t
      × EndsPathOf k own now key t last
  ended key last ends ps s = (
    s.map.tree.tree,
    (o.tree ps s).tree,
    subst (λ (w : List ℕ × WindowState). EndsPathOf k w.0 w.1 key s.map.tree.tree last) (sym (nodes_are ps s))
        (ends ps s),
  )

  -- the point at which a removal begins
  pub exit_is : (r found start : Option ℕ) → IfSome r (λ n. found ≡ Some n)
      → Asked (λ t. IfSome found (λ n. start ≡ remove_point_of (comes_before k.order (keys_in k own now)) n t))
      → FindsExit k v c at r start
  exit_is r found start same exit = λ ps s. IfSome_then r same (λ n is.
      IfSome_is (λ n. start ≡ exit_in k c n s.map.tree.tree) found n is (subst (λ (ks : ℕ → Option K).
      IfSome found (λ n. start ≡ remove_point_of (comes_before k.order ks) n s.map.tree.tree))
      (keys_are ps s) (exit s.map.tree.tree (o.tree ps s).tree)))

-- ---- reading the pair

if_mapped : {A B : Type 0} (f : A → B) (x : A) (b : Bool)
    → (if b then None else Some (f x)) ≡ option_map f (if b then None else Some x)
if_mapped f x true = refl
if_mapped f x false = refl

module _ {K V : Type 0} (k : Plain K) (v : Plain V) (c : WindowState) (by : ℕ → Option K) where
  item_read : (o : Option (Pair K V)) → IfSome o (IsRead k v c by)
      → option_and_then (item_at k v (bytes_of c.bytes)) (option_map pair_node o) ≡ option_map item_of o
  item_read None h = refl
  item_read (Some p) h = h.item

  room_read : (o : Option (Pair K V)) → IfSome o (IsRead k v c by)
      → IfSome (option_map pair_node o) (λ n. IsTrue (has_room (live_of c.bytes) n (16 + k.SIZE + v.SIZE)))
  room_read None h = tt
  room_read (Some p) h = h.room

  both_first : (x : Option K) (y : Option V) (a : K) (b : V) → both x y ≡ Some (a, b) → x ≡ Some a
  both_first None y a b e = absurd (cc)
  both_first (Some x) None a b e = absurd (cc)
  both_first (Some x) (Some y) a b e = let two : (x, y) ≡ (a, b) = cc in ap (λ (z : K × V). Some z.0) two

  key_read : (key : K) (o : Option (Pair K V)) → IfSome o (IsRead k v c by)
      → option_and_then (node_with k (bytes_of c.bytes) key) (option_map pair_node o)
      ≡ option_map pair_node (by_key k.order key o)
  key_read key None h = refl
  key_read key (Some p) h =
      let e = both_first (value_of k (read (bytes_of c.bytes) (pair_node p + 16) k.SIZE))
      (value_of v (read (bytes_of c.bytes) (pair_node p + (16 + k.SIZE)) v.SIZE)) p.key p.value h.item in
      ap (option_and_then (λ (x : K). if k.order key x then None else Some (pair_node p))) e
      ∙ if_mapped pair_node p (k.order key p.key)

reads_same : {K V : Type 0} (o : Option (Pair K V)) → reading_steps (option_map pair_node o) ≡ reading_steps o
reads_same None = refl
reads_same (Some p) = refl

module _ {K V : Type 0} {k : Plain K} {v : Plain V} {c : WindowState} {at : Place} {pair : List (Pair K V)
    → Option (Pair K V)}
    {path : Tree → ℕ} {found : Option ℕ} {taken : ℕ} (f : Finds k v c at pair path found taken) where
  -- the node that is found has room for a pair
  pub found_room : IsSomeMap k v c.bytes at.handle at.at
      → IfSome found (λ n. IsTrue (has_room (live_of c.bytes) n (16 + k.SIZE + v.SIZE)))
  found_room s = rw (f.node s.0 s.1) (room_read k v c f.keys (pair s.0) (f.good s.0 s.1))

  -- the node that is found has room for a key
  pub sought_room : IsSomeMap k v c.bytes at.handle at.at
      → IfSome found (λ n. IsTrue (has_room (live_of c.bytes) n (16 + k.SIZE)))
  sought_room s = IfSome_then found (found_room s)
      (λ n r. room-less (live_of c.bytes) n (16 + k.SIZE + v.SIZE) (16 + k.SIZE) (omega arith) r)

  steps_read : (before after : ℕ) → after ≡ before + taken + reading_steps found → (ps : List (Pair K V))
      (s : HoldsMap k v c.bytes at.handle at.at ps) → after ≡ before + path s.map.tree.tree + reading_steps (pair ps)
  steps_read before after e ps s =
      let t = f.exact ps s in let r = ap reading_steps (f.node ps s) ∙ reads_same (pair ps) in omega (arith, e, t, r)

  few_read : (before after : ℕ) → after ≡ before + taken + reading_steps found
      → SearchSteps k v c.bytes at 1 before after
  few_read before after e = λ ps s. let t = f.most ps s in let r = one found in omega (arith, e, t, r)
    where
      one : (o : Option ℕ) → reading_steps o ≤ 1
      one None = omega arith
      one (Some n) = omega arith

  -- a pair that is looked up is read at its node
  pub looked_up : {result : Option (K × V)} {before after : ℕ}
      → result ≡ option_and_then (item_at k v (bytes_of c.bytes)) found → after ≡ before + taken + reading_steps found
      → LooksUp k v c at pair path result before after
  looked_up {before = before} {after = after} i e = record {
    item = λ ps s. i ∙ ap (option_and_then (item_at k v (bytes_of c.bytes))) (f.node ps s)
        ∙ item_read k v c f.keys (pair ps) (f.good ps s);
    counted = omega (arith, e);
    steps = few_read before after e;
    exact = steps_read before after e;
  }

-- the value of a key that is looked up
pub looked_for : {K V : Type 0} {k : Plain K} {v : Plain V} {c : WindowState} {at : Place} (key : K)
    {found result : Option ℕ}
    {taken before after : ℕ} → Finds k v c at (first_pair k.order false key) (path_in k c false key) found taken
    → Chains k.order → result ≡ option_and_then (node_with k (bytes_of c.bytes) key) found
    → after ≡ before + taken + reading_steps found → LooksFor k v c at key result before after
looked_for {k = k} {v = v} {c} key {before = before} {after = after} f on i e = record {
  node = λ ps s. i ∙ ap (option_and_then (node_with k (bytes_of c.bytes) key)) (f.node ps s)
      ∙ key_read k v c f.keys key (first_pair k.order false key ps) (f.good ps s)
      ∙ sym (ap (option_map pair_node) (pair_by_key k.order on key ps s.rising));
  counted = omega (arith, e);
  steps = few_read f before after e;
  exact = steps_read f before after e;
}

-- the value of a key, of the item that is not below it
pub value_by_key : {K V : Type 0} {k : Plain K} {v : Plain V} {b : List ℕ} {h at : ℕ} {i : Option (K × V)}
    → Chains k.order → (key : K) → FindsItem k v b h at false key i → (ps : List (Pair K V)) → HoldsMap k v b h at ps
    → option_and_then (λ (x : K × V). if k.order key x.0 then None else Some x.1) i
    ≡ option_map value_of_pair (pair_at k.order ps key)
value_by_key {K} {V} {k} on key item ps s = ap (option_and_then (λ (x : K × V). if k.order key x.0 then None else Some
    x.1)) (item ps s) ∙ by_pair (first_pair k.order false key ps) ∙ sym (ap (option_map value_of_pair)
    (pair_by_key k.order on key ps s.rising))
  where
    by_pair : (o : Option (Pair K V)) → option_and_then (λ (x : K × V). if k.order key x.0 then None else Some x.1)
        (option_map item_of o) ≡ option_map value_of_pair (by_key k.order key o)
    by_pair None = refl
    by_pair (Some p) = if_mapped value_of_pair p (k.order key p.key)

-- ---- the pair of a node that was found by its key

module _ {K V : Type 0} {k : Plain K} {v : Plain V} {c : WindowState} {at : Place} {key : K} {found : Option ℕ}
    {before after : ℕ} (f : LooksFor k v c at key found before after) {ps : List (Pair K V)}
    (s : HoldsMap k v c.bytes at.handle at.at ps) where
  -- the node that is found has the key
  pub key_at_node : {node : ℕ} → found ≡ Some node → AtNode (λ p. pair_at k.order ps key ≡ Some p) node
  key_at_node {node} e = by_pair (pair_at k.order ps key) (sym e ∙ f.node ps s)
    where
      by_pair : (o : Option (Pair K V)) → Some node ≡ option_map pair_node o → AtNode (λ p. o ≡ Some p) node
      by_pair None n = absurd (cc)
      by_pair (Some p) n = let is : node ≡ pair_node p = cc in record { pair = p; holds = refl; at = sym is }

  -- no node is found: no pair has the key
  pub key_absent : found ≡ None → pair_at k.order ps key ≡ None
  key_absent e = let same = f.node ps s in grind arith

-- ---- the nodes of a map from a key on

-- if a test of `f x` agrees with a test of `x`, a map and then a filter give the same as a filter and then a map
filter_mapped : {A B : Type 0} (f : A → B) (test : B → Bool) (test' : A → Bool) (xs : List A)
    → AllByRecursion (λ x. test (f x) ≡ test' x) xs → filter test (map f xs) ≡ map f (filter test' xs)
filter_mapped f test test' [] a = refl
filter_mapped f test test' (x ∷ xs) a =
    let rest = filter_mapped f test test' xs a.1 in let same = a.0 in grind arith

-- a list that is filled, by the number of places that are
filled_first : (list ns : List ℕ) (count : ℕ) → count ≡ min (length list) (length ns)
    → filled list ns ≡ take count ns ++ drop count list
filled_first [] [] zero e = refl
filled_first [] (n ∷ ns) zero e = refl
filled_first (x ∷ list) [] zero e = refl
filled_first (x ∷ list) (n ∷ ns) zero e = absurd (omega arith)
filled_first [] ns (suc count) e = absurd (omega arith)
filled_first (x ∷ list) [] (suc count) e = absurd (omega arith)
filled_first (x ∷ list) (n ∷ ns) (suc count) e = ap (λ ms. n ∷ ms) (filled_first list ns count (omega arith))

module _ {K V : Type 0} {k : Plain K} {v : Plain V} {now c : WindowState} {at : Place} {own : List ℕ}
    {root : Option ℕ} (o : OpensPairTree k v now c at own root) (past : Bool) (key : K) where
  -- the nodes from a key on hold the pairs from that key on
  nodes_past : (ps : List (Pair K V)) (s : HoldsMap k v c.bytes at.handle at.at ps)
      → nodes_from (ahead o past key) (nodes_of s.map.tree.tree) ≡ nodes_of_pairs (pairs_past k.order past key ps)
  nodes_past ps s = ap (nodes_from (ahead o past key)) s.map.tree.lists
      ∙ filter_mapped pair_node (λ n. not (ahead o past key n)) (λ p. not (is_passed k.order past key p)) ps
      (each ps (o.pairs ps s) (λ p r. ap (λ x. not (stands k.order past key x)) r.key))

  -- the nodes that are listed
  pub lists_nodes : (list list' : List ℕ) (count : ℕ)
      → Asked o (λ t. list' ≡ filled list (nodes_from (ahead o past key) (nodes_of t)))
      → Asked o (λ t. count ≡ min (length list) (length (nodes_from (ahead o past key) (nodes_of t))))
      → ListsNodes k v c.bytes at past key list list' count
  lists_nodes list list' count filled_by many ps s =
      let t = s.map.tree.tree in
      let w = (o.tree ps s).tree in
      let qs = pairs_past k.order past key ps in
      let same = nodes_past ps s in
      let counted : count ≡ min (length list) (length (nodes_of_pairs qs)) =
      many t w ∙ ap (λ ns. min (length list) (length ns)) same in
      let first : count ≡ min (length list) (length qs) =
      counted ∙ ap (min (length list)) (length-map qs pair_node) in
      let long : length (take count qs) ≡ count = omega (arith, length-take count qs) in (
        first,
        filled_by t w ∙ ap (filled list) same ∙ filled_first list (nodes_of_pairs qs) count counted
            ∙ ap (λ ns. ns ++ drop count list) (take-map pair_node count qs)
            ∙ ap (λ n. nodes_of_pairs (take count qs) ++ drop n list) (sym long),
      )

-- ---- the pairs of a map at their nodes

module _ {K V : Type 0} {k : Plain K} {v : Plain V} (kl : Laws k) (vl : Laws v) (c : WindowState) (at : Place) where
  -- each pair of a map can be read at its node
  map_read : (ps : List (Pair K V)) → HoldsMap k v c.bytes at.handle at.at ps
      → (keys : ℕ → Option K) × AllByRecursion (IsRead k v c keys) ps
  map_read ps s =
      let o = opened kl vl c at.handle at.at {root = link_at (bytes_of c.bytes) (at.handle + at.at)} refl refl in
      (_, o.pairs ps s)

  -- the node of a pair has room for it
  pub room_at_node : (node : ℕ) → HasNode k v c.bytes at node
      → IsTrue (has_room (live_of c.bytes) node (16 + k.SIZE + v.SIZE))
  room_at_node node (ps, s, i) =
      let r = map_read ps s in
      let n = at_node (IsRead k v c r.0) ps node i r.1 in
      subst (λ m. IsTrue (has_room (live_of c.bytes) m (16 + k.SIZE + v.SIZE))) n.at n.holds.room

  -- what is read at a node is its pair
  pub reads_node : (node : ℕ) (result : Option (K × V)) → result ≡ item_at k v (bytes_of c.bytes) node
      → ReadsNode k v c.bytes at node result
  reads_node node result e ps s =
      let r = map_read ps s in
      each ps r.1 (λ p q is. e ∙ ap (item_at k v (bytes_of c.bytes)) (sym is) ∙ q.item)

-- the steps of a listing, by the number of pairs
pub listing_steps : {K V : Type 0} {k : Plain K} {v : Plain V} {now c : WindowState} {at : Place} {own : List ℕ}
    {root : Option ℕ} (o : OpensPairTree k v now c at own root) (count taken before after : ℕ)
    → Asked o (λ t. taken ≤ count + 4 * bits (length (nodes_of t) + 1)) → after ≡ before + taken
    → ListingSteps k v c.bytes at count before after
listing_steps o count taken before after most e = λ ps s.
    let m = most s.map.tree.tree (o.tree ps s).tree in
    let n = ap (λ n. bits (n + 1)) (ap length s.map.tree.lists ∙ length-map ps pair_node) in
    omega arith
