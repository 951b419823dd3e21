-- Maps of values of two types as maps of their numbers: lists of pairs, maps at a place, and the contracts of seg_map
-- for them.
use Rattle.segment_manager.proofs.Common as common
use mathlib.Core.List.{reverse}
use Rattle.std.proofs.{Common.min, lemmas.Bool.both_ways}
use Rattle.std.specs.{List.filter, Prelude.int_le}
use Rattle.raw_region.proofs.Facts.{first, second}
use Rattle.link_tree.specs.Nodes.{is_in}
use Rattle.seg_types.specs.{Kinds.highest, ScalarLaws.irreflexive}
use Rattle.seg_map.proofs.Laws.{last_mapped, map_reversed}
use Rattle.seg_map.specs.{Changing.CountsPairs, Changing.FreesAllPairs, Map.IsPairAt, Map.Pair, Map.is_pair}
use Rattle.seg_map.specs.Listing.{HasNode, ListsNodes, ReadsNode, pairs_past, with_nodes}
use Rattle.seg_map.specs.Places.{final_pair, first_pair, is_passed, last_pair, pair_node}
use Rattle.segment_manager.proofs.{containers.MapSteps.map-only, objects.Destroys.standing}
use Rattle.segment_manager.proofs.containers.ItemSteps.{IsOfKindAt, kind-told, told-some}
use Rattle.segment_manager.specs.containers.{Maps.count_read, Maps.nodes_read, Walks.KindedPair, Walks.items_read}
use common.{AllByRecursion, AnswersWith, Bool, ChangesBytes, Denotes, DenotesCurrent, Directory, ErasesKey, ErasesPair}
use common.{Err, ExchangesBlocks, FindsItem, FindsItemBefore, FindsLastItem, FindsValue, HasBytesAt, HoldsMap, IsMap}
use common.{IsNumberPairAt, IsPairIn, IsSomeMap, IsTreeOf, IsTrue, KeepsOutsideMap, Key, List, LiveSet, Map}
use common.{MatchOption, MatchResult, Memory, Node, None, NumberPair, Object, ObjectRole, Ok, Option, OverwritesPair}
use common.{Pairs, Plain, PutsNewPair, PutsNoSpace, PutsPair, Refusal, ReleasesMap, Result, ScalarKind, SegmentState}
use common.{Some, Value, WindowState, [], answer_of_map, ap, arith, bytes_of, cases_lt, code_of, current, drop, eq-eqb}
use common.{false, find, first_of, handle, has_good_name, if◌then◌else◌, inl, inr, int_lt, is_good_value, is_key}
use common.{is_kind_of, is_number_pair, is_object, is_rising, is_value, item_of, item_of_kinds, kind_of, length}
use common.{length-map, list_all, live_of, lowest, map, node_len, nodes_of_pairs, not, numbers_in, numbers_of}
use common.{object_at, object_len, option_map, pair_above, pair_at, pair_from, pairs_at, pairs_of, place, put_pair}
use common.{refl, remove_pair, same_kind, serves, size_of, slice_get, spelling, subst, suc, sym, take, take_all}
use common.{told_of, transitive, true, value_of_pair, zero, ℕ, ℤ, ◌&&◌, ◌++◌, ◌+◌, ◌||◌, ◌∙◌, ◌∷◌, ◌≡◌}

-- the laws of a type for its values and their numbers
pub record IsScalarOf {T : Type 0} (k : ScalarKind) (p : Plain T) (w : T → ℤ) : Type 0 where
  pub long : p.SIZE ≡ size_of k
  pub values : (x : T) → p.is_value x ≡ is_value k (w x)
  pub spelled : (x : T) → p.spelling x ≡ spelling k (w x)
  pub ordered : (x y : T) → p.order x y ≡ int_lt (w x) (w y)
  pub reached : (z : ℤ) → is_value k z ≡ true → (x : T) × (w x ≡ z)

-- the effect of a put, by whether the map has the key, and of an erasure
module _ {K V : Type 0} (kp : Plain K) (vp : Plain V) (old new : WindowState) (h at : ℕ) (ps : List (Pair K V)) where
  -- the effect of putting a pair, by the pair with its key
  abbrev pub PutsBy : {E : Type 0} → K → V → Result Bool E → Option (Pair K V) → Type 0
  PutsBy x y result o = MatchOption o (MatchResult result (λ b. (b ≡ true) × PutsNewPair kp vp old new h at ps x y)
      (λ e. PutsNoSpace kp vp old new)) (λ p. (result ≡ Ok false) × OverwritesPair kp vp old new h at ps p x y)

  -- the effect of erasing a key, by the pair with the key
  abbrev pub ErasesBy : K → Bool → Option (Pair K V) → Type 0
  ErasesBy x result o =
      MatchOption o ((result ≡ false) × (new ≡ old)) (λ p. (result ≡ true) × ErasesPair kp vp old new h at ps p x)

-- ---- lists

-- the first image that passes is the image of the first element that passes
find-made : {A B : Type 0} (f : A → B) (s : A → Bool) (t : B → Bool) → ((a : A) → t (f a) ≡ s a) → (xs : List A)
    → find t (map f xs) ≡ option_map f (find s xs)
find-made f s t same [] = refl
find-made {A} {B} f s t same (x ∷ xs) = (λ i. if same x i then Some (f x) else find-made f s t same xs i) ∙ chosen (s x)
  where
    chosen : (b : Bool)
        → (if b then Some (f x) else option_map f (find s xs)) ≡ option_map f (if b then Some x else find s xs)
    chosen true = refl
    chosen false = refl

-- the images that pass are the images of the elements that pass
filter-made : {A B : Type 0} (f : A → B) (s : A → Bool) (t : B → Bool) → ((a : A) → t (f a) ≡ s a) → (xs : List A)
    → filter t (map f xs) ≡ map f (filter s xs)
filter-made f s t same [] = refl
filter-made {A} {B} f s t same (x ∷ xs) =
    (λ i. if same x i then f x ∷ filter-made f s t same xs i else filter-made f s t same xs i) ∙ chosen (s x)
  where
    chosen : (b : Bool) → (if b then f x ∷ map f (filter s xs) else map f (filter s xs))
        ≡ map f (if b then x ∷ filter s xs else filter s xs)
    chosen true = refl
    chosen false = refl

take-made : {A B : Type 0} (f : A → B) (n : ℕ) (xs : List A) → take n (map f xs) ≡ map f (take n xs)
take-made f zero xs = refl
take-made f (suc n) [] = refl
take-made f (suc n) (x ∷ xs) = ap (λ ys. f x ∷ ys) (take-made f n xs)

-- as many as there are and no more than there are places
take-places : {A : Type 0} (n : ℕ) (xs : List A) → take (min n (length xs)) xs ≡ take n xs
take-places n xs =
    elim (cases_lt n (length xs)) [
      | inl less ↦ let e : min n (length xs) ≡ n = omega arith in ap (λ m. take m xs) e
      | inr ge ↦ let e : min n (length xs) ≡ length xs = omega arith in ap (λ m. take m xs) e
          ∙ take_all (length xs) xs (omega arith) ∙ sym (take_all n xs ge)
    ]

module _ {K V : Type 0} {k v : ScalarKind} {kp : Plain K} {vp : Plain V} {kw : K → ℤ} {vw : V → ℤ}
    (kl : IsScalarOf k kp kw) (vl : IsScalarOf v vp vw) where
  -- a pair of values as one of numbers
  abbrev pub number_pair : Pair K V → NumberPair
  number_pair p = record { key = kw p.key; value = vw p.value; node = p.node }

  abbrev pub number_pairs : List (Pair K V) → List NumberPair
  number_pairs = map number_pair

  numbers-nodes : (ps : List (Pair K V)) → nodes_of_pairs (number_pairs ps) ≡ nodes_of_pairs ps
  numbers-nodes [] = refl
  numbers-nodes (p ∷ ps) = ap (λ (ns : List ℕ). handle p.node ∷ ns) (numbers-nodes ps)

  numbers-extents : (ps : List (Pair K V))
      → map (λ (p : NumberPair). p.node) (number_pairs ps) ≡ map (λ (p : Pair K V). p.node) ps
  numbers-extents [] = refl
  numbers-extents (p ∷ ps) = ap (λ xs. p.node ∷ xs) (numbers-extents ps)

  -- ---- by key

  numbers-at : (ps : List (Pair K V)) (x : K)
      → pair_at int_lt (number_pairs ps) (kw x) ≡ option_map number_pair (pair_at kp.order ps x)
  numbers-at ps x = find-made number_pair (is_key kp.order x) (is_key int_lt (kw x))
      (λ p i. not (sym (kl.ordered x p.key) i || sym (kl.ordered p.key x) i)) ps

  numbers-first : (past : Bool) (x : K) (ps : List (Pair K V))
      → first_pair int_lt past (kw x) (number_pairs ps) ≡ option_map number_pair (first_pair kp.order past x ps)
  numbers-first past x ps = find-made number_pair (λ p. not (is_passed kp.order past x p)) (λ p. not (is_passed int_lt
      past (kw x) p)) (λ p i. not (if past then not (sym (kl.ordered x p.key) i) else sym (kl.ordered p.key x) i)) ps

  -- a list with the nodes of pairs
  with-nodes : (ps : List (Pair K V)) (list : List ℕ) → with_nodes (number_pairs ps) list ≡ with_nodes ps list
  with-nodes ps list = λ i. numbers-nodes ps i ++ drop (length-map ps number_pair i) list

  -- the pairs from a key on, as numbers
  numbers-past : (past : Bool) (x : K) (ps : List (Pair K V))
      → pairs_past int_lt past (kw x) (number_pairs ps) ≡ number_pairs (pairs_past kp.order past x ps)
  numbers-past past x ps = filter-made number_pair (λ p. not (is_passed kp.order past x p)) (λ p. not (is_passed int_lt
      past (kw x) p)) (λ p i. not (if past then not (sym (kl.ordered x p.key) i) else sym (kl.ordered p.key x) i)) ps

  numbers-last : (past : Bool) (x : K) (ps : List (Pair K V))
      → last_pair int_lt past (kw x) (number_pairs ps) ≡ option_map number_pair (last_pair kp.order past x ps)
  numbers-last past x ps = ap (find (is_passed int_lt past (kw x))) (map_reversed number_pair ps)
      ∙ find-made number_pair (is_passed kp.order past x) (is_passed int_lt past (kw x))
      (λ p i. if past then not (sym (kl.ordered x p.key) i) else sym (kl.ordered p.key x) i) (reverse ps)

  numbers-rising : (ps : List (Pair K V)) → is_rising int_lt (number_pairs ps) ≡ is_rising kp.order ps
  numbers-rising [] = refl
  numbers-rising (p ∷ []) = refl
  numbers-rising (p ∷ q ∷ qs) = λ i. sym (kl.ordered p.key q.key) i && numbers-rising (q ∷ qs) i

  numbers-put : (p : Pair K V) (ps : List (Pair K V))
      → put_pair int_lt (number_pair p) (number_pairs ps) ≡ number_pairs (put_pair kp.order p ps)
  numbers-put p [] = refl
  numbers-put p (q ∷ qs) = (λ i. if sym (kl.ordered p.key q.key) i then number_pair p ∷ number_pair q ∷ number_pairs qs
      else if sym (kl.ordered q.key p.key) i then number_pair q ∷ numbers-put p qs i else number_pair p ∷ number_pairs
      qs) ∙ chosen (kp.order p.key q.key) (kp.order q.key p.key)
    where
      chosen : (a b : Bool) → (if a then number_pair p ∷ number_pair q ∷ number_pairs qs else if b then number_pair q ∷
          number_pairs (put_pair kp.order p qs) else number_pair p ∷ number_pairs qs) ≡ number_pairs (if a then p ∷ q ∷
          qs else if b then q ∷ put_pair kp.order p qs else p ∷ qs)
      chosen true b = refl
      chosen false true = refl
      chosen false false = refl

  numbers-removed : (ps : List (Pair K V)) (x : K)
      → remove_pair int_lt (number_pairs ps) (kw x) ≡ number_pairs (remove_pair kp.order ps x)
  numbers-removed [] x = refl
  numbers-removed (q ∷ qs) x = (λ i. if not (sym (kl.ordered x q.key) i || sym (kl.ordered q.key x) i) then number_pairs
      qs else number_pair q ∷ numbers-removed qs x i) ∙ chosen (is_key kp.order x q)
    where
      chosen : (b : Bool) → (if b then number_pairs qs else number_pair q ∷ number_pairs (remove_pair kp.order qs x))
          ≡ number_pairs (if b then qs else q ∷ remove_pair kp.order qs x)
      chosen true = refl
      chosen false = refl

  -- ---- in their blocks

  pair-good : (p : Pair K V) → is_number_pair k v (number_pair p) ≡ is_pair kp.SIZE vp.SIZE kp.is_value vp.is_value p
  pair-good p = λ i. sym (kl.values p.key) i && sym (vl.values p.value) i && serves p.node Node
      (node_len (sym kl.long i) (sym vl.long i))

  pair-same : (m : Memory) (p : Pair K V)
      → IsPairAt kp.SIZE kp.spelling vp.spelling m p ≡ IsNumberPairAt k v m (number_pair p)
  pair-same m p = λ i. HasBytesAt m (handle p.node + 16) (kl.spelled p.key i)
      × HasBytesAt m (handle p.node + 16 + kl.long i) (vl.spelled p.value i)

  pairs-same : (m : Memory) (ps : List (Pair K V)) → AllByRecursion (IsPairAt kp.SIZE kp.spelling vp.spelling m) ps
      ≡ AllByRecursion (IsNumberPairAt k v m) (number_pairs ps)
  pairs-same m [] = refl
  pairs-same m (p ∷ ps) = λ i. pair-same m p i × pairs-same m ps i

  pairs-in : (l : LiveSet) (h : ℕ) (ps : List (Pair K V)) → AllByRecursion (IsPairIn kp vp l h) ps
      → AllByRecursion (IsPairIn (numbers_of k) (numbers_of v) l h) (number_pairs ps)
  pairs-in l h [] a = tt
  pairs-in l h (p ∷ ps) a =
      (record { good = pair-good p ∙ a.0.good; listed = a.0.listed; apart = a.0.apart }, pairs-in l h ps a.1)

  in-pairs : (l : LiveSet) (h : ℕ) (ps : List (Pair K V)) → AllByRecursion (IsPairIn (numbers_of k) (numbers_of v) l h)
      (number_pairs ps) → AllByRecursion (IsPairIn kp vp l h) ps
  in-pairs l h [] a = tt
  in-pairs l h (p ∷ ps) a =
      (record { good = sym (pair-good p) ∙ a.0.good; listed = a.0.listed; apart = a.0.apart }, in-pairs l h ps a.1)

  -- ---- maps at a place

  -- a map of the numbers
  abbrev HoldsNumbers : List ℕ → ℕ → ℕ → List NumberPair → Type 0
  HoldsNumbers b h at qs = HoldsMap (numbers_of k) (numbers_of v) b h at qs

  -- pairs of numbers of the kinds are pairs of values
  reached-pair : (q : NumberPair) → is_number_pair k v q ≡ true → (p : Pair K V) × (number_pair p ≡ q)
  reached-pair q e =
      let good : IsTrue (is_value k q.key && is_value v q.value) =
      first (is_value k q.key && is_value v q.value) (serves q.node Node (node_len (size_of k) (size_of v))) e in
      let x : (x : K) × (kw x ≡ q.key) = kl.reached q.key (first (is_value k q.key) (is_value v q.value) good) in
      let y : (y : V) × (vw y ≡ q.value) = vl.reached q.value (second (is_value k q.key) (is_value v q.value) good) in
      (record { key = x.0; value = y.0; node = q.node }, λ i. record { key = x.1 i; value = y.1 i; node = q.node })

  reached-pairs : (l : LiveSet) (h : ℕ) (qs : List NumberPair)
      → AllByRecursion (IsPairIn (numbers_of k) (numbers_of v) l h) qs → (ps : List (Pair K V)) × (number_pairs ps ≡ qs)
  reached-pairs l h [] a = ([], refl)
  reached-pairs l h (q ∷ qs) a =
      let one : (p : Pair K V) × (number_pair p ≡ q) = reached-pair q a.0.good in
      let rest : (ps : List (Pair K V)) × (number_pairs ps ≡ qs) = reached-pairs l h qs a.1 in
      (one.0 ∷ rest.0, λ i. one.1 i ∷ rest.1 i)

  -- ---- searches

  found-value : (o : Option (Pair K V))
      → option_map vw (option_map value_of_pair o) ≡ option_map value_of_pair (option_map number_pair o)
  found-value None = refl
  found-value (Some p) = refl

  found-item : (o : Option (Pair K V))
      → numbers_in kw vw (option_map item_of o) ≡ option_map item_of (option_map number_pair o)
  found-item None = refl
  found-item (Some p) = refl

  module _ (b : List ℕ) (h at : ℕ) where
    -- a map of values is a map of their numbers
    pub map-numbers : (ps : List (Pair K V)) → HoldsMap kp vp b h at ps → HoldsNumbers b h at (number_pairs ps)
    map-numbers ps s = record {
      heap = s.heap;
      map = record {
        count = s.map.count ∙ sym (length-map ps number_pair);
        third = s.map.third;
        tree = subst (IsTreeOf (bytes_of b) (h + at)) (sym (numbers-nodes ps)) s.map.tree;
        pairs = subst (λ (said : Type 0). said) (pairs-same (bytes_of b) ps) s.map.pairs;
      };
      aligned = s.aligned;
      room = s.room;
      rising = numbers-rising ps ∙ s.rising;
      pairs = pairs-in (live_of b) h ps s.pairs;
    }

    -- and conversely
    pub numbers-map : (ps : List (Pair K V)) → HoldsNumbers b h at (number_pairs ps) → HoldsMap kp vp b h at ps
    numbers-map ps s = record {
      heap = s.heap;
      map = record {
        count = s.map.count ∙ length-map ps number_pair;
        third = s.map.third;
        tree = subst (IsTreeOf (bytes_of b) (h + at)) (numbers-nodes ps) s.map.tree;
        pairs = subst (λ (said : Type 0). said) (sym (pairs-same (bytes_of b) ps)) s.map.pairs;
      };
      aligned = s.aligned;
      room = s.room;
      rising = sym (numbers-rising ps) ∙ s.rising;
      pairs = in-pairs (live_of b) h ps s.pairs;
    }

    -- the values of a map of numbers
    reached-map : (qs : List NumberPair) → HoldsNumbers b h at qs
        → (ps : List (Pair K V)) × ((number_pairs ps ≡ qs) × HoldsMap kp vp b h at ps)
    reached-map qs s =
        let r : (ps : List (Pair K V)) × (number_pairs ps ≡ qs) = reached-pairs (live_of b) h qs s.pairs in
        (r.0, (r.1, numbers-map r.0 (subst (HoldsNumbers b h at) (sym r.1) s)))

    -- A property of each map of values holds for each map of numbers.
    of-values : (P : List NumberPair → Type 0) → ((ps : List (Pair K V)) → HoldsMap kp vp b h at ps
        → P (number_pairs ps)) → (qs : List NumberPair) → HoldsNumbers b h at qs → P qs
    of-values P each qs s = let r = reached-map qs s in subst P r.1.0 (each r.0 r.1.1)

    -- a map of numbers is a map of values
    pub some-map : IsSomeMap (numbers_of k) (numbers_of v) b h at → IsSomeMap kp vp b h at
    some-map s = let r = reached-map s.0 s.1 in (r.0, r.1.1)

    -- a value that is found, as numbers
    pub finds-value : (x : K) (r : Option V) → FindsValue kp vp b h at x r
        → FindsValue (numbers_of k) (numbers_of v) b h at (kw x) (option_map vw r)
    finds-value x r each = of-values (λ qs. option_map vw r ≡ option_map value_of_pair (pair_at int_lt qs (kw x)))
        (λ ps s. ap (option_map vw) (each ps s) ∙ found-value (pair_at kp.order ps x)
        ∙ ap (option_map value_of_pair) (sym (numbers-at ps x)))

    -- a pair that is found, as it is found among the numbers
    finds : (found : List (Pair K V) → Option (Pair K V)) (numbers-found : List NumberPair → Option NumberPair)
        → ((ps : List (Pair K V)) → numbers-found (number_pairs ps) ≡ option_map number_pair (found ps))
        → (r : Option (K × V)) → ((ps : List (Pair K V)) → HoldsMap kp vp b h at ps → r ≡ option_map item_of (found ps))
        → (qs : List NumberPair) → HoldsNumbers b h at qs → numbers_in kw vw r ≡ option_map item_of (numbers-found qs)
    finds found numbers-found same r each = of-values (λ qs. numbers_in kw vw r ≡ option_map item_of (numbers-found qs))
        (λ ps s. ap (numbers_in kw vw) (each ps s) ∙ found-item (found ps) ∙ ap (option_map item_of) (sym (same ps)))

    -- a pair from a key on that is found, as numbers
    pub finds-item : (past : Bool) (x : K) (r : Option (K × V)) → FindsItem kp vp b h at past x r
        → FindsItem (numbers_of k) (numbers_of v) b h at past (kw x) (numbers_in kw vw r)
    finds-item past x = finds (first_pair kp.order past x) (first_pair int_lt past (kw x)) (numbers-first past x)

    -- a pair before a key that is found, as numbers
    pub finds-back : (past : Bool) (x : K) (r : Option (K × V)) → FindsItemBefore kp vp b h at past x r
        → FindsItemBefore (numbers_of k) (numbers_of v) b h at past (kw x) (numbers_in kw vw r)
    finds-back past x = finds (last_pair kp.order past x) (last_pair int_lt past (kw x)) (numbers-last past x)

    -- the last pair that is found, as numbers
    pub finds-last : (r : Option (K × V)) → FindsLastItem kp vp b h at r
        → FindsLastItem (numbers_of k) (numbers_of v) b h at (numbers_in kw vw r)
    finds-last = finds final_pair final_pair (λ ps. last_mapped number_pair None ps)

    -- how many pairs are listed
    pub counts-past : (past : Bool) (x : K) (places n : ℕ)
        → ((ps : List (Pair K V)) → HoldsMap kp vp b h at ps → n ≡ min places (length (pairs_past kp.order past x ps)))
        → (qs : List NumberPair) → HoldsNumbers b h at qs → n ≡ count_read past (kw x) places qs
    counts-past past x places n each = of-values (λ qs. n ≡ count_read past (kw x) places qs)
        (λ ps s. each ps s ∙ ap (min places) (sym (ap length (numbers-past past x ps)
        ∙ length-map (pairs_past kp.order past x ps) number_pair)))

    -- the nodes that are listed, of pairs of numbers
    pub nodes-past : (past : Bool) (x : K) (list list' : List ℕ) (n : ℕ)
        → ListsNodes kp vp b (record { handle = h; at = at }) past x list list' n → (qs : List NumberPair)
        → HoldsNumbers b h at qs → list' ≡ nodes_read past (kw x) (length list) list qs
    nodes-past past x list list' n each =
        of-values (λ qs. list' ≡ nodes_read past (kw x) (length list) list qs) (λ ps s.
        let them = pairs_past kp.order past x ps in let places = length list in
        let first : take n them ≡ take places them = ap (λ m. take m them) (each ps s).0 ∙ take-places places them in
        (each ps s).1 ∙ ap (λ ts. with_nodes ts list) first ∙ sym (with-nodes (take places them) list)
        ∙ sym (ap (λ ts. with_nodes ts list) (ap (take places) (numbers-past past x ps)
        ∙ take-made number_pair places them)))

    -- a node of a pair of numbers is a node of a pair of values
    pub has-node : (node : ℕ) (qs : List NumberPair) → HoldsNumbers b h at qs → is_in node (nodes_of_pairs qs) ≡ true
        → HasNode kp vp b (record { handle = h; at = at }) node
    has-node node qs s i =
        let r = reached-map qs s in
        (r.0, r.1.1, ap (is_in node) (sym (numbers-nodes r.0) ∙ ap nodes_of_pairs r.1.0) ∙ i)

    -- a property of each pair, of pairs of numbers
    node-read : (node : ℕ) (r : Option (K × V)) (ps : List (Pair K V))
        → AllByRecursion (λ p. pair_node p ≡ node → r ≡ Some (item_of p)) ps
        → AllByRecursion (λ q. pair_node q ≡ node → numbers_in kw vw r ≡ Some (item_of q)) (number_pairs ps)
    node-read node r [] a = tt
    node-read node r (p ∷ ps) a = (λ is. ap (numbers_in kw vw) (a.0 is), node-read node r ps a.1)

    -- the pair that is read at a node, as numbers
    pub reads-node : (node : ℕ) (r : Option (K × V)) → ReadsNode kp vp b (record { handle = h; at = at }) node r
        → (qs : List NumberPair) → HoldsNumbers b h at qs
        → AllByRecursion (λ q. pair_node q ≡ node → numbers_in kw vw r ≡ Some (item_of q)) qs
    reads-node node r each = of-values
        (λ qs. AllByRecursion (λ q. pair_node q ≡ node → numbers_in kw vw r ≡ Some (item_of q)) qs)
        (λ ps s. node-read node r ps (each ps s))

    -- the number of pairs is the number of pairs of numbers
    pub counts-numbers : (n : ℕ) → CountsPairs kp vp b h at n → CountsPairs (numbers_of k) (numbers_of v) b h at n
    counts-numbers n each = of-values (λ qs. n ≡ length qs) (λ ps s. each ps s ∙ sym (length-map ps number_pair))

  -- ---- the effect of calls

  module _ (old new : WindowState) (h at : ℕ) where
    beside-numbers : (ps : List (Pair K V)) → KeepsOutsideMap old new (h + at) (nodes_of_pairs ps)
        → KeepsOutsideMap old new (h + at) (nodes_of_pairs (number_pairs ps))
    beside-numbers ps s = subst (KeepsOutsideMap old new (h + at)) (sym (numbers-nodes ps)) s

    put-numbers : (ps : List (Pair K V)) (p : Pair K V) → HoldsMap kp vp new.bytes h at (put_pair kp.order p ps)
        → HoldsNumbers new.bytes h at (put_pair int_lt (number_pair p) (number_pairs ps))
    put-numbers ps p s = subst (HoldsNumbers new.bytes h at) (sym (numbers-put p ps))
        (map-numbers new.bytes h at (put_pair kp.order p ps) s)

    -- the place of a new node
    placed-so : place (live_of old.bytes) (node_len (size_of k) (size_of v)) Node
        ≡ place (live_of old.bytes) (node_len kp.SIZE vp.SIZE) Node
    placed-so = λ i. place (live_of old.bytes) (node_len (sym kl.long i) (sym vl.long i)) Node

    puts-if : {E : Type 0} (ps : List (Pair K V)) (x : K) (y : V) (result : Result Bool E) (o : Option (Pair K V))
        → PutsBy kp vp old new h at ps x y result o → PutsBy (numbers_of k) (numbers_of v) old new h at
        (number_pairs ps) (kw x) (vw y) result (option_map number_pair o)
    puts-if ps x y (Ok b) None r = (
      r.0,
      record {
        extent = r.1.extent;
        placed = placed-so ∙ r.1.placed;
        live = r.1.live;
        beside = beside-numbers ps r.1.beside;
        map = put-numbers ps (record { key = x; value = y; node = r.1.extent }) r.1.map;
      },
    )
    puts-if ps x y (Err e) None r = record { none = placed-so ∙ r.none; same = r.same }
    puts-if ps x y result (Some p) r = (
      r.0,
      record {
        change = subst (λ n. ChangesBytes current old new (handle p.node + 16 + n) (size_of v)) kl.long
            (subst (λ n. ChangesBytes current old new (handle p.node + 16 + kp.SIZE) n) vl.long r.1.change);
        beside = beside-numbers ps r.1.beside;
        map = put-numbers ps (record { key = x; value = y; node = p.node }) r.1.map;
      },
    )

    -- a put pair, as numbers
    pub puts-numbers : {E : Type 0} (x : K) (y : V) (result : Result Bool E) → PutsPair kp vp old new h at x y result
        → PutsPair (numbers_of k) (numbers_of v) old new h at (kw x) (vw y) result
    puts-numbers x y result each = of-values old.bytes h at
        (λ qs. PutsBy (numbers_of k) (numbers_of v) old new h at qs (kw x) (vw y) result (pair_at int_lt qs (kw x)))
        (λ ps s. subst (PutsBy (numbers_of k) (numbers_of v) old new h at (number_pairs ps) (kw x) (vw y) result)
        (sym (numbers-at ps x)) (puts-if ps x y result (pair_at kp.order ps x) (each ps s)))

    erases-if : (ps : List (Pair K V)) (x : K) (result : Bool) (o : Option (Pair K V))
        → ErasesBy kp vp old new h at ps x result o
        → ErasesBy (numbers_of k) (numbers_of v) old new h at (number_pairs ps) (kw x) result (option_map number_pair o)
    erases-if ps x result None r = r
    erases-if ps x result (Some p) r = (
      r.0,
      record {
        live = r.1.live;
        beside = beside-numbers ps r.1.beside;
        map = subst (HoldsNumbers new.bytes h at) (sym (numbers-removed ps x))
            (map-numbers new.bytes h at (remove_pair kp.order ps x) r.1.map);
      },
    )

    -- an erased pair, as numbers
    pub erases-numbers : (x : K) (result : Bool) → ErasesKey kp vp old new h at x result
        → ErasesKey (numbers_of k) (numbers_of v) old new h at (kw x) result
    erases-numbers x result each = of-values old.bytes h at
        (λ qs. ErasesBy (numbers_of k) (numbers_of v) old new h at qs (kw x) result (pair_at int_lt qs (kw x))) (λ ps s.
        subst (ErasesBy (numbers_of k) (numbers_of v) old new h at (number_pairs ps) (kw x) result)
        (sym (numbers-at ps x)) (erases-if ps x result (pair_at kp.order ps x) (each ps s)))

    no-pairs : (ps : List (Pair K V)) → number_pairs ps ≡ [] → ps ≡ []
    no-pairs [] e = refl
    no-pairs (p ∷ ps) e = absurd (cc)

    -- a released map, as numbers
    pub releases-numbers : ReleasesMap kp vp old new h at → ReleasesMap (numbers_of k) (numbers_of v) old new h at
    releases-numbers each = of-values old.bytes h at (FreesAllPairs (numbers_of k) (numbers_of v) old new h at) (λ ps s.
        let r : FreesAllPairs kp vp old new h at ps = each ps s in
        let none : List (Pair K V) = [] in record {
          change = subst (λ xs. ExchangesBlocks current old new (h + at) 24 xs []) (sym (numbers-extents ps)) r.change;
          empty = map-numbers new.bytes h at none r.empty;
          same = λ e. r.same (no-pairs ps e);
        })

-- A walk over the pairs of a key's object, of any kinds: the result of each call, and that it omits no pair.

-- no key is below the least value of its kind
not-below : (k : ScalarKind) (z : ℤ) → is_value k z ≡ true → int_lt z (lowest k) ≡ false
not-below k z h = let low : IsTrue (int_le (lowest k) z) = first (int_le (lowest k) z) (int_le z (highest k)) h in grind
    arith

-- so the first pair is the first from there on
walk-starts : (k : ScalarKind) (ps : List NumberPair) → IsTrue (list_all (λ (p : NumberPair). is_value k p.key) ps)
    → pair_from (lowest k) ps ≡ option_map item_of (first_of ps)
walk-starts k [] h = refl
walk-starts k (p ∷ ps) h =
    ap (λ (b : Bool). option_map item_of (if not b then Some p else first_pair int_lt false (lowest k) ps))
    (not-below k p.key (first (is_value k p.key) (list_all (λ (p : NumberPair). is_value k p.key) ps) h))

-- the next pair above a map key is the pair after that key's
behind : (p : NumberPair) (back : List NumberPair) → is_rising int_lt (p ∷ back) ≡ true
    → first_pair int_lt true p.key back ≡ first_of back
behind p [] r = refl
behind p (q ∷ qs) r = ap (λ (b : Bool). if not (not b) then Some q else first_pair int_lt true p.key qs)
    (first (int_lt p.key q.key) (is_rising int_lt (q ∷ qs)) r)

-- pairs before a key are below it
below-end : (q : NumberPair) (front : List NumberPair) (p : NumberPair) (back : List NumberPair)
    → is_rising int_lt (q ∷ (front ++ p ∷ back)) ≡ true → int_lt q.key p.key ≡ true
below-end q [] p back r = first (int_lt q.key p.key) (is_rising int_lt (p ∷ back)) r
below-end q (s ∷ front) p back r =
    transitive q.key s.key p.key (first (int_lt q.key s.key) (is_rising int_lt (s ∷ (front ++ p ∷ back))) r)
    (below-end s front p back (second (int_lt q.key s.key) (is_rising int_lt (s ∷ (front ++ p ∷ back))) r))

rest-rises : (q : NumberPair) (qs : List NumberPair) → is_rising int_lt (q ∷ qs) ≡ true → is_rising int_lt qs ≡ true
rest-rises q [] r = refl
rest-rises q (s ∷ qs) r = second (int_lt q.key s.key) (is_rising int_lt (s ∷ qs)) r

-- a number is not below a number that is below it
not-above : (x y : ℤ) → int_lt x y ≡ true → int_lt y x ≡ false
not-above x y e = by_cases (int_lt y x) refl
  where
    by_cases : (b : Bool) → int_lt y x ≡ b → b ≡ false
    by_cases true f = absurd (both_ways (int_lt x x) (irreflexive x) (transitive x y x e f))
    by_cases false f = refl

above-found : (front : List NumberPair) (p : NumberPair) (back : List NumberPair)
    → is_rising int_lt (front ++ p ∷ back) ≡ true → first_pair int_lt true p.key (front ++ p ∷ back) ≡ first_of back
above-found [] p back r = ap (λ (b : Bool). if not (not b) then Some p else first_pair int_lt true p.key back)
    (irreflexive p.key) ∙ behind p back r
above-found (q ∷ front) p back r =
    ap (λ (b : Bool). if not (not b) then Some q else first_pair int_lt true p.key (front ++ p ∷ back))
    (not-above q.key p.key (below-end q front p back r)) ∙ above-found front p back (rest-rises q (front ++ p ∷ back) r)

-- ---- the pairs of a good value

-- an object of the format has a good value
pub good-value : (o : Object) → IsTrue (is_object current o) → IsTrue (is_good_value o.value)
good-value o h = second (has_good_name current o && is_kind_of current (kind_of o.value)) (is_good_value o.value)
    (first (has_good_name current o && is_kind_of current (kind_of o.value) && is_good_value o.value)
    (serves o.extent ObjectRole (object_len o.name o.value)) h)

-- the keys of a good value rise
pub rising-if : (v : Value) → IsTrue (is_good_value v) → is_rising int_lt (pairs_of v) ≡ true
rising-if (Pairs k v ps) h = first (is_rising int_lt ps) (list_all (is_number_pair k v) ps) h
rising-if v h = refl

-- the keys are values of their kind
keys-are : (k v : ScalarKind) (ps : List NumberPair) → IsTrue (list_all (is_number_pair k v) ps)
    → IsTrue (list_all (λ (p : NumberPair). is_value k p.key) ps)
keys-are k v [] h = refl
keys-are k v (p ∷ ps) h =
    let one : IsTrue (is_number_pair k v p) = first (is_number_pair k v p) (list_all (is_number_pair k v) ps) h in
    let key : IsTrue (is_value k p.key) = first (is_value k p.key) (is_value v p.value)
    (first (is_value k p.key && is_value v p.value) (serves p.node Node (node_len (size_of k) (size_of v))) one) in
    both (is_value k p.key) (list_all (λ (q : NumberPair). is_value k q.key) ps) key
    (keys-are k v ps (second (is_number_pair k v p) (list_all (is_number_pair k v) ps) h))
  where
    both : (a b : Bool) → IsTrue a → IsTrue b → IsTrue (a && b)
    both a b h g = grind arith

-- ---- the pairs of the object of a key

rises-if : (b : List ℕ) (d : Directory) (key : Key) (r : Option Object) → Denotes current b d → object_at d key ≡ r
    → is_rising int_lt (elim r as (λ _. List NumberPair) [ None ↦ [] | Some o ↦ pairs_of o.value ]) ≡ true
rises-if b d key None k e = refl
rises-if b d key (Some o) k e = rising-if o.value (good-value o (standing b d key o k e).good)

module _ (d : Directory) (key : Key) (k v : ScalarKind) (e : IsOfKindAt d key (Map k v)) where
  same : same_kind (Map k v) (kind_of e.object.value) ≡ true
  same = eq-eqb (code_of (Map k v)) (code_of (kind_of e.object.value)) (ap code_of (sym e.kind_is))

  the-pairs : (ps : List NumberPair) × (e.object.value ≡ Pairs k v ps)
  the-pairs = map-only k v e.object.value same

  pairs-found : pairs_at d key ≡ the-pairs.0
  pairs-found = ap (λ (r : Option Object). elim r as (λ _. List NumberPair) [ None ↦ [] | Some o ↦ pairs_of o.value ])
      e.is ∙ ap pairs_of the-pairs.1

  -- a function of the map of the kinds is a function of the pairs
  pub told-of-them : {A : Type 0} (say : List NumberPair → A) → answer_of_map d key k v say ≡ Ok (say (pairs_at d key))
  told-of-them {A} say =
      told-some d key (Map k v) (λ o. told_of say o.value) e.object true e.is same ∙ ap (told_of say) the-pairs.1
      ∙ sym (ap (λ (ps : List NumberPair). let r : Result A Refusal = Ok (say ps) in r) pairs-found)

  -- the first pair is the first from the least value of the kind on
  pub starts : (b : List ℕ) → Denotes current b d
      → pair_from (lowest k) (pairs_at d key) ≡ option_map item_of (first_of (pairs_at d key))
  starts b den =
      let good : IsTrue (is_good_value (Pairs k v the-pairs.0)) = subst (λ (w : Value). IsTrue (is_good_value w))
      the-pairs.1 (good-value e.object (standing b d key e.object den e.is).good) in
      subst (λ (ps : List NumberPair). pair_from (lowest k) ps ≡ option_map item_of (first_of ps)) (sym pairs-found)
      (walk-starts k the-pairs.0 (keys-are k v the-pairs.0
      (second (is_rising int_lt the-pairs.0) (list_all (is_number_pair k v) the-pairs.0) good)))

-- ---- the results of the calls

walked-if : (k v : ScalarKind) (r : Result (Option (ℤ × ℤ)) Refusal) (q : Option (ℤ × ℤ)) → r ≡ Ok q
    → items_read k v r ≡ option_map (item_of_kinds k v) q
walked-if k v (Ok o) q e = let is : o ≡ q = cc in ap (option_map (item_of_kinds k v)) is
walked-if k v (Err why) q e = absurd (cc)

module _ (s : SegmentState) (key : Key) (k v : ScalarKind) (is : IsMap s key k v) where
  map-known : (d : Directory) → DenotesCurrent s.cut.bytes d → IsOfKindAt d key (Map k v)
  map-known d l = kind-told d key (Map k v) (is.answers d l)

  -- what a call reads of the map it reads of the pairs
  pub pair-walked : (say : List NumberPair → Option (ℤ × ℤ)) (r : Result (Option (ℤ × ℤ)) Refusal)
      → AnswersWith s (λ d. answer_of_map d key k v say) r
      → AnswersWith s (λ d. option_map (item_of_kinds k v) (say (pairs_at d key))) (items_read k v r)
  pair-walked say r a = record {
    answers = λ d l.
        walked-if k v r (say (pairs_at d key)) (a.answers d l ∙ told-of-them d key k v (map-known d l) say);
  }

  -- the first pair is the one from the least key on
  pub first-walked : (o : Option KindedPair)
      → AnswersWith s (λ d. option_map (item_of_kinds k v) (pair_from (lowest k) (pairs_at d key))) o
      → AnswersWith s (λ d. option_map (item_of_kinds k v) (option_map item_of (first_of (pairs_at d key)))) o
  first-walked o a = record {
    answers = λ d l. a.answers d l
        ∙ ap (option_map (item_of_kinds k v)) (starts d key k v (map-known d l) s.cut.bytes l.denotes);
  }

-- ---- the places of the pairs

-- the first pair has the first index
pub first-at : (ps : List NumberPair) → slice_get ps 0 ≡ first_of ps
first-at [] = refl
first-at (p ∷ ps) = refl

-- the pair with an index, and the pairs after it
record IsSplitAt (ps : List NumberPair) (i : ℕ) (p : NumberPair) : Type 0 where
  front : List NumberPair
  back : List NumberPair
  is : ps ≡ front ++ p ∷ back
  next : slice_get ps (suc i) ≡ first_of back

split-at : (ps : List NumberPair) (i : ℕ) (p : NumberPair) → slice_get ps i ≡ Some p → IsSplitAt ps i p
split-at [] i p e = absurd (cc)
split-at (q ∷ qs) zero p e =
    let one : q ≡ p = cc in
    record { front = []; back = qs; is = ap (λ (r : NumberPair). r ∷ qs) one; next = first-at qs }
split-at (q ∷ qs) (suc i) p e =
    let s = split-at qs i p e in
    record { front = q ∷ s.front; back = s.back; is = ap (λ (ps : List NumberPair). q ∷ ps) s.is; next = s.next }

-- the next pair above the map key of a pair has the next index
pub walk-next : (b : List ℕ) (d : Directory) (key : Key) (i : ℕ) (p : NumberPair) → Denotes current b d
    → slice_get (pairs_at d key) i ≡ Some p
    → pair_above p.key (pairs_at d key) ≡ option_map item_of (slice_get (pairs_at d key) (i + 1))
walk-next b d key i p k e =
    let s = split-at (pairs_at d key) i p e in
    let rises : is_rising int_lt (s.front ++ p ∷ s.back) ≡ true =
    subst (λ (ps : List NumberPair). is_rising int_lt ps ≡ true) s.is (rises-if b d key (object_at d key) k refl) in
    let more : suc i ≡ i + 1 = omega arith in
    ap (pair_above p.key) s.is ∙ (ap (option_map item_of) (above-found s.front p s.back rises)) ∙ ap (option_map
    item_of) (sym s.next)
    ∙ ap (λ (m : ℕ). option_map item_of (slice_get (pairs_at d key) m)) more
