-- A walk over the pairs of a map from a key on: the pairs that were read, and the nodes that are listed ahead.
use Rattle.std.proofs.Common.{◌≡◌, refl, sym, ap, subst, ◌∙◌, ℕ, suc, ◌+◌, ◌≤◌, ◌<◌, ℤ, Bool, true, not, Ok, List, []}
use Rattle.std.proofs.Common.{◌++◌, ◌∷◌, None, Option, Some}
use Rattle.std.proofs.Common.{arith, drop, get_or, int_lt, length, map, min, slice_set, take}
use Rattle.std.proofs.lemmas.List.{get_or-map, get_or-take, length-drop, length-map, length-take}
use Rattle.std.proofs.lemmas.List.{take-append-le, take-map, take_min}
use Rattle.std.proofs.lemmas.List.Edits.{paste_more}
use Rattle.std.proofs.Math.Seq.{drop-cons, paste, take-append_seam}
use Rattle.std.proofs.lemmas.Option.{same_Some}
use Rattle.std.specs.List.{AllByRecursion}
use Rattle.raw_region.proofs.Facts.{AllByRecursion-filter}
use Rattle.link_tree.specs.Nodes.{is_in}
use Rattle.seg_map.specs.{Listing.pairs_past, Listing.with_nodes, Map.is_rising, Numbers.NumberPair}
use Rattle.seg_map.specs.Places.{is_passed, item_of, nodes_of_pairs, pair_node}
use Rattle.seg_types.specs.declared.kinds.ScalarKind.{ScalarKind}
use Rattle.segment_manager.proofs.Laws.{map-told, of-bound}
use Rattle.segment_manager.specs.containers.{Maps.answer_of_map, Maps.count_read, Maps.nodes_read, Maps.numbers_in}
use Rattle.segment_manager.specs.containers.Walks.{HasPairNode, ReadsPairNode, pairs_at_kinds}
use Rattle.segment_manager.specs.{Directory.Directory, State.AnswersWith, State.DenotesCurrent, State.SegmentState}
use Rattle.segment_manager.specs.{declared.objects.object_ref.Object.Object as Located, objects.BoundObjects.key_of}
use Rattle.segment_c.specs.Series.{FillsSeries, bits_of, key_bits, value_bits}
use Rattle.segment_c.proofs.pair_series.Behind.{among, others-above}

-- ---- plain lists

-- the first node belongs to the first pair, and each further node to the next pair
pub record FirstAhead (node : ℕ) (rest : List ℕ) (qs : List NumberPair) : Type 0 where
  pub pair : NumberPair
  pub others : List NumberPair
  pub is : qs ≡ pair ∷ others
  pub at : pair_node pair ≡ node
  pub behind : rest ≡ nodes_of_pairs (take (length rest) others)

first-ahead : (node : ℕ) (rest : List ℕ) (qs : List NumberPair)
    → node ∷ rest ≡ nodes_of_pairs (take (suc (length rest)) qs) → FirstAhead node rest qs
first-ahead node rest [] e = absurd (cc)
first-ahead node rest (q ∷ qs) e = record { pair = q; others = qs; is = refl; at = cc; behind = cc }

-- the first places of a list with the nodes of pairs
listed-first : (qs : List NumberPair) (list : List ℕ) (count : ℕ) → count ≡ min (length list) (length qs)
    → (take count (with_nodes (take (length list) qs) list) ≡ nodes_of_pairs (take count qs))
    × (length (nodes_of_pairs (take count qs)) ≡ count)
listed-first qs list count e =
    let same : take count qs ≡ take (length list) qs = ap (λ n. take n qs) e ∙ take_min (length list) qs in
    let ns = nodes_of_pairs (take count qs) in
    let rest = drop (length (take count qs)) list in
    let long : length ns ≡ count = omega (arith, e, length-map (take count qs) pair_node, length-take count qs) in (
      ap (λ ps. take count (with_nodes ps list)) (sym same) ∙ ap (λ n. take n (ns ++ rest)) (sym long)
          ∙ take-append_seam ns rest,
      long,
    )

-- the part of a list from an index on, up to its first `count` elements
part-begins : (nodes : List ℕ) (at count d : ℕ) → at < count → count ≤ length nodes
    → drop at (take count nodes) ≡ get_or nodes at d ∷ drop (at + 1) (take count nodes)
part-begins nodes at count d less few =
    drop-cons (take count nodes) at d (omega (arith, less, few, length-take count nodes))
    ∙ (λ i. get_or-take count nodes at d less i
    ∷ drop ((let same : suc at ≡ at + 1 = omega arith in same) i) (take count nodes))

-- a series with the bits of the first pairs
abbrev pub HasBits : (NumberPair → ℤ) → List NumberPair → List ℤ → List ℤ → ℕ → Type 0
HasBits f all row0 row n = row ≡ paste row0 0 (map f all) n

-- and of one pair more
one-more : (f : NumberPair → ℤ) (all : List NumberPair) (row0 row : List ℤ) (n : ℕ) (p : NumberPair)
    (others : List NumberPair) (z : ℤ) → drop n all ≡ p ∷ others → n < length row0 → z ≡ f p
    → HasBits f all row0 row n → HasBits f all row0 (slice_set row n z) (n + 1)
one-more f all row0 row n p others z is room e had =
    let some : n < length all = omega (arith, ap length is, length-drop n all) in
    let there : get_or all n p ≡ p = let two = sym (drop-cons all n p some) ∙ is in cc in
    ap (λ r. slice_set r n z) had
    ∙ ap (λ j. slice_set (paste row0 0 (map f all) n) j z) (let here : n ≡ 0 + n = omega arith in here)
    ∙ ap (slice_set (paste row0 0 (map f all) n) (0 + n)) (e ∙ sym (get_or-map f all n p (f p) some ∙ ap f there))
    ∙ paste_more row0 0 (map f all) n (f p) (omega (arith, room)) (omega (arith, some, length-map all f))

-- the series at the end
has-all : (f : NumberPair → ℤ) (all : List NumberPair) (row0 row : List ℤ) (n : ℕ) → HasBits f all row0 row n
    → row ≡ map f (take n all) ++ drop n row0
has-all f all row0 row n had =
    had ∙ ap (λ m. take n (map f all) ++ drop m row0) (let here : 0 + n ≡ n = omega arith in here)
    ∙ ap (λ zs. zs ++ drop n row0) (take-map f n all)

-- ---- the walk

-- This many of all pairs are read, which are pairs of a map. The others are above a key, or from it on; nodes of the
-- first of them are listed, and of all of them if the list is short.
pub record IsAt (its all : List NumberPair) (keys0 values0 : List ℤ) (read : ℕ) (above : Bool) (after : ℤ)
    (nodes : List ℕ) (short : Type 0) (keys values : List ℤ) : Type 0
  where
    pub there : read ≤ length all
    pub rest : pairs_past int_lt above after its ≡ drop read all
    pub ahead : nodes ≡ nodes_of_pairs (take (length nodes) (drop read all))
    pub end : short → length all ≡ read + length nodes
    pub keys_are : HasBits key_bits all keys0 keys read
    pub values_are : HasBits value_bits all values0 values read

module _ {its all : List NumberPair} {keys0 values0 : List ℤ} where
  module _ {read : ℕ} {above : Bool} {after : ℤ} {nodes : List ℕ} {short : Type 0} {keys values : List ℤ}
      (w : IsAt its all keys0 values0 read above after nodes short keys values) where
    -- nodes are listed
    pub listed : (old new rest : List ℕ) (count : ℕ) {fewer : Type 0} → count ≡ count_read above after (length old) its
        → new ≡ nodes_read above after (length old) old its → count ≤ length new → (fewer → count < length old)
        → IsAt its all keys0 values0 read above after (take count (new ++ rest)) fewer keys values
    listed old new rest count counted is few less =
        let qs = drop read all in
        let many : count ≡ min (length old) (length qs) = counted ∙ ap (λ qs. min (length old) (length qs)) w.rest in
        let f = listed-first qs old count many in
        let same : take count (new ++ rest) ≡ nodes_of_pairs (take count qs) =
        take-append-le count new rest few ∙ ap (take count) (is
        ∙ ap (λ qs. with_nodes (take (length old) qs) old) w.rest) ∙ f.0 in
        record {
          there = w.there;
          rest = w.rest;
          ahead = same ∙ ap (λ n. nodes_of_pairs (take n qs)) (sym (ap length same ∙ f.1));
          end = λ s. omega (arith, less s, many, ap length same ∙ f.1, w.there, length-drop read all);
          keys_are = w.keys_are;
          values_are = w.values_are;
        }

    -- all pairs that there are places for are read
    pub filled : read ≡ min (min (length keys0) (length values0)) (length all)
        → FillsSeries all keys0 keys values0 values read
    filled count = record {
      count_is = count;
      keys_are = has-all key_bits all keys0 keys read w.keys_are;
      values_are = has-all value_bits all values0 values read w.values_are;
    }

  -- the next pair, of a map whose keys rise, at the first node of a part of an array
  module _ (rises : is_rising int_lt its ≡ true) {read : ℕ} {above : Bool} {after : ℤ} (list : List ℕ) (at count : ℕ)
      {short : Type 0} {keys values : List ℤ} (w : IsAt its all keys0 values0 read above after
      (drop at (take count list)) short keys values) (less : at < count) (fits : count ≤ length list) where
    abbrev node : ℕ
    node = get_or list at 0

    abbrev rest : List ℕ
    rest = drop (at + 1) (take count list)

    are : drop at (take count list) ≡ node ∷ rest
    are = part-begins list at count 0 less fits

    next : FirstAhead node rest (drop read all)
    next = first-ahead node rest (drop read all)
        (subst (λ ns. ns ≡ nodes_of_pairs (take (length ns) (drop read all))) are w.ahead)

    first-past : pairs_past int_lt above after its ≡ next.pair ∷ next.others
    first-past = w.rest ∙ next.is

    -- a pair of the map has the node
    pub is-there : is_in node (nodes_of_pairs its) ≡ true
    is-there = subst (λ n. is_in n (nodes_of_pairs its) ≡ true) next.at
        (among above after its next.pair next.others first-past)

    first-reads : (r : Option (ℤ × ℤ)) → AllByRecursion (λ p. pair_node p ≡ node → r ≡ Some (item_of p)) its
        → r ≡ Some (item_of next.pair)
    first-reads r reads = (subst (AllByRecursion (λ p. pair_node p ≡ node → r ≡ Some (item_of p))) first-past
        (AllByRecursion-filter (λ p. pair_node p ≡ node → r ≡ Some (item_of p))
        (λ p. not (is_passed int_lt above after p)) its reads)).0 next.at

    -- the pair is read there
    pub none-read : {A B : Type 0} (kw : A → ℤ) (vw : B → ℤ) (r : Option (A × B)) → r ≡ None
        → AllByRecursion (λ p. pair_node p ≡ node → numbers_in kw vw r ≡ Some (item_of p)) its → ⊥
    none-read kw vw r none reads =
        let it : numbers_in kw vw r ≡ Some (item_of next.pair) = first-reads (numbers_in kw vw r) reads in
        let wrong : None ≡ Some (item_of next.pair) = sym (ap (numbers_in kw vw) none) ∙ it in cc

    -- and the walk goes on
    pub goes-on : (x y i j : ℤ) → AllByRecursion (λ p. pair_node p ≡ node → Some (x, y) ≡ Some (item_of p)) its
        → i ≡ bits_of x → j ≡ bits_of y → read < length keys0 → read < length values0
        → IsAt its all keys0 values0 (read + 1) true x rest short (slice_set keys read i) (slice_set values read j)
    goes-on x y i j reads e f k v =
        let p = next.pair in
        let it : Some (x, y) ≡ Some (item_of p) = first-reads (Some (x, y)) reads in
        let same = same_Some (x, y) (item_of p) it in
        let key : x ≡ p.key = ap (λ (q : ℤ × ℤ). q.0) same in
        let value : y ≡ p.value = ap (λ (q : ℤ × ℤ). q.1) same in
        let long = length-drop read all in
        let some = ap length next.is in
        let back : drop (read + 1) all ≡ next.others =
        (let two = sym (drop-cons all read p (omega (arith, long, some))) ∙ next.is in
        let behind : drop (suc read) all ≡ next.others = cc in
        ap (λ n. drop n all) (let same : read + 1 ≡ suc read = omega arith in same) ∙ behind) in
        record {
          there = omega (arith, w.there, long, some);
          rest = ap (λ x. pairs_past int_lt true x its) key
              ∙ others-above above after its p next.others rises first-past ∙ sym back;
          ahead = next.behind ∙ ap (λ qs. nodes_of_pairs (take (length rest) qs)) (sym back);
          end = λ s. omega (arith, w.end s, ap length are);
          keys_are = one-more key_bits all keys0 keys read p next.others i next.is k (e ∙ ap bits_of key) w.keys_are;
          values_are = one-more value_bits all values0 values read p next.others j next.is v (f ∙ ap bits_of value)
              w.values_are;
        }

-- ---- what a map tells

module _ {s t : SegmentState} {o q : Located} (is : q ≡ o) (same : t ≡ s) (k v : ScalarKind) (d : Directory)
    (st : DenotesCurrent s.cut.bytes d) where
  -- a function of the pairs of the located map
  pub told : {A : Type 0} (say : List NumberPair → A) (a : A)
      → AnswersWith t (λ d. answer_of_map d (key_of q) k v say) (Ok a) → a ≡ say (pairs_at_kinds d (key_of o) k v)
  told say a r = map-told d (key_of o) k v say (Ok a) ((of-bound (λ o s.
      AnswersWith s (λ d. answer_of_map d (key_of o) k v say) (Ok a)) is same r).answers d st)

-- a pair of the map that is bound has the node
pub node-there : {s t : SegmentState} {o q : Located} → q ≡ o → t ≡ s → (k v : ScalarKind) (node : ℕ)
    → HasPairNode s (key_of o) k v node → HasPairNode t (key_of q) k v node
node-there is same k v node h = of-bound (λ o s. HasPairNode s (key_of o) k v node) (sym is) (sym same) h

-- the pair of the node is the located map's
pub pair-told : {s t : SegmentState} {o q : Located} → q ≡ o → t ≡ s → (k v : ScalarKind) (node : ℕ)
    (item : Option (ℤ × ℤ)) → ReadsPairNode t (key_of q) k v node item → ReadsPairNode s (key_of o) k v node item
pair-told is same k v node item h = of-bound (λ o s. ReadsPairNode s (key_of o) k v node item) is same h
