-- Lists of pairs: searches, puts and removals, their nodes and their keys.
use Rattle.seg_map.proofs.Common.{arith, ◌≡◌, refl, sym, ap, subst, ◌∙◌, inl, inr, Bool, List, ◌∷◌, map, reverse}
use Rattle.seg_map.proofs.Common.{Option, Some, find, option_map, AllByRecursion, last_or, cases_Bool, true, false}
use Rattle.seg_map.proofs.Common.{◌||◌, not, None, if◌then◌else◌, and_parts, Chains, Pair, is_rising, pair_at}
use Rattle.seg_map.proofs.Common.{first_pair, ℕ, suc, ◌≢◌, length, ◌==◌, both_ways, or_left, or_right, eq-eqb, ne_eqb}
use Rattle.seg_map.proofs.Common.{is_in, without, IsStrict, is_key, remove_pair, nodes_of_pairs, pair_node, LiveSet}
use Rattle.seg_map.proofs.Common.{eqb-true, false≢true, or_cases, ◌⊎◌, is_ordered_with, insert_in_order, put_pair}
use Rattle.seg_map.proofs.Common.{before_key, comes_before, Plain, Memory, IsPairAt, IsPairIn, IfSome, stands}
use Rattle.seg_map.proofs.Common.{stands_before, [], or_parts}
use Rattle.std.proofs.lemmas.{Bool.and_from, Bool.not-false, List.map-append}
use Rattle.std.proofs.Common.{◌++◌}
use mathlib.Core.List.{reverse-cons}
use Rattle.link_tree.proofs.Laws.{without_none}
use Rattle.raw_region.proofs.Facts.{AllByRecursion-append}

-- a property of each element implies another of each
pub each : {A : Type 0} {P Q : A → Type 0} (xs : List A) → AllByRecursion P xs → ((x : A) → P x → Q x)
    → AllByRecursion Q xs
each [] a f = tt
each (x ∷ xs) a f = (f x a.0, each xs a.1 f)

-- two properties of each element imply a third of all
pub each_both : {A : Type 0} {P Q R : A → Type 0} (xs : List A) → AllByRecursion P xs → AllByRecursion Q xs
    → ((x : A) → P x → Q x → R x) → AllByRecursion R xs
each_both [] a b f = tt
each_both (x ∷ xs) a b f = (f x a.0 b.0, each_both xs a.1 b.1 f)

-- a property of each element holds for the reversed list
pub all_reversed : {A : Type 0} (P : A → Type 0) (xs : List A) → AllByRecursion P xs → AllByRecursion P (reverse xs)
all_reversed P [] a = tt
all_reversed P (x ∷ xs) a = subst (AllByRecursion P) (sym (reverse-cons x xs))
    (AllByRecursion-append P (reverse xs) (x ∷ []) (all_reversed P xs a.1) (a.0, tt))

-- a list is mapped and reversed in either order
pub map_reversed : {A B : Type 0} (f : A → B) (xs : List A) → reverse (map f xs) ≡ map f (reverse xs)
map_reversed f [] = refl
map_reversed f (x ∷ xs) = reverse-cons (f x) (map f xs) ∙ ap (λ zs. zs ++ f x ∷ []) (map_reversed f xs)
    ∙ sym (ap (map f) (reverse-cons x xs) ∙ map-append f (reverse xs) (x ∷ []))

-- if a test of the images agrees with a test of the elements, the first image that passes is the image of the first
-- element that passes
pub find_mapped : {A B : Type 0} (f : A → B) (test : B → Bool) (test' : A → Bool) (xs : List A)
    → AllByRecursion (λ x. test (f x) ≡ test' x) xs → find test (map f xs) ≡ option_map f (find test' xs)
find_mapped f test test' [] a = refl
find_mapped f test test' (x ∷ xs) a =
    let rest = find_mapped f test test' xs a.1 in let same = a.0 in grind arith

-- the last of a mapped list is the mapped last
pub last_mapped : {A B : Type 0} (f : A → B) (o : Option A) (xs : List A)
    → last_or (option_map f o) (map f xs) ≡ option_map f (last_or o xs)
last_mapped f o [] = refl
last_mapped f o (x ∷ xs) = last_mapped f (Some x) xs

-- ---- lists of pairs: the pair of a key, and pairs that are put and removed, and their nodes

-- all are pairs of a map, and memory has the bytes of each
abbrev pub AreIn : {K V : Type 0} → Plain K → Plain V → LiveSet → ℕ → List (Pair K V) → Type 0
AreIn kp vp live h = AllByRecursion (IsPairIn kp vp live h)

-- memory has the pairs at their nodes
abbrev pub AreAt : {K V : Type 0} → Plain K → Plain V → Memory → List (Pair K V) → Type 0
AreAt kp vp m = AllByRecursion (IsPairAt kp.SIZE kp.spelling vp.spelling m)

-- the keys are the keys of the pairs
abbrev pub HaveKeys : {K V : Type 0} → (ℕ → Option K) → List (Pair K V) → Type 0
HaveKeys {K} {V} keys ps = AllByRecursion (λ (p : Pair K V). keys (pair_node p) ≡ Some p.key) ps

-- the first pair that is not below the key has it, or no pair has
abbrev pub by_key : {K V : Type 0} → (K → K → Bool) → K → Option (Pair K V) → Option (Pair K V)
by_key less key None = None
by_key less key (Some p) = if less key p.key then None else Some p

module _ {K V : Type 0} (less : K → K → Bool) (on : Chains less) where
  pub none_above : (key : K) (q : Pair K V) (qs : List (Pair K V)) → is_rising less (q ∷ qs) ≡ true → less key q.key
      ≡ true → pair_at less qs key ≡ None
  none_above key q [] r l = refl
  none_above key q (p ∷ ps) r l =
      let two = and_parts _ _ r in
      let far = on key q.key p.key l two.0 in rw far (none_above key p ps two.1 far)

  -- the rest of a list whose keys rise has rising keys
  pub rising_rest : (q : Pair K V) (qs : List (Pair K V)) → is_rising less (q ∷ qs) ≡ true → is_rising less qs ≡ true
  rising_rest q [] r = refl
  rising_rest q (p ∷ ps) r = (and_parts _ _ r).1

  -- the pair of a key is the first one not before it, if it has that key
  pub pair_by_key : (key : K) (ps : List (Pair K V)) → is_rising less ps ≡ true
      → pair_at less ps key ≡ by_key less key (first_pair less false key ps)
  pair_by_key key [] r = refl
  pair_by_key key (q ∷ qs) r =
      let rest = pair_by_key key qs (rising_rest q qs r) in let none = none_above key q qs r in grind arith

-- ---- removing a node

-- a removed node is no longer in the list
pub none_left : (n : ℕ) (ns : List ℕ) → is_in n (without n ns) ≡ false
none_left n [] = refl
none_left n (m ∷ ms) = let rest = none_left n ms in grind arith

-- pairs whose nodes are others
pub other_nodes : {K V : Type 0} (n : ℕ) (ps : List (Pair K V)) → is_in n (nodes_of_pairs ps) ≡ false
    → AllByRecursion (λ p. pair_node p ≢ n) ps
other_nodes n [] h = tt
other_nodes n (p ∷ ps) h =
    let two = or_parts (n == pair_node p) (is_in n (nodes_of_pairs ps)) h in
    ((λ e. both_ways _ two.0 (eq-eqb _ _ (sym e))), other_nodes n ps two.1)

-- a node that differs from each pair's is not among them
pub not_among : {K V : Type 0} (n : ℕ) (ps : List (Pair K V)) → AllByRecursion (λ p. pair_node p ≢ n) ps
    → is_in n (nodes_of_pairs ps) ≡ false
not_among n [] a = refl
not_among n (p ∷ ps) a = ap (λ (b : Bool). b || is_in n (nodes_of_pairs ps))
    (ne_eqb n (pair_node p) (λ e. a.0 (sym e))) ∙ not_among n ps a.1

-- the pair of a node
pub record AtNode {K V : Type 0} (P : Pair K V → Type 0) (m : ℕ) : Type 0 where
  pub pair : Pair K V
  pub holds : P pair
  pub at : pair_node pair ≡ m

-- a property of all pairs holds at the node of one
pub at_node : {K V : Type 0} (P : Pair K V → Type 0) (ps : List (Pair K V)) (m : ℕ) → is_in m (nodes_of_pairs ps) ≡ true
    → AllByRecursion P ps → AtNode P m
at_node P [] m i a = absurd (false≢true i)
at_node P (p ∷ ps) m i a =
    elim (or_cases _ _ i) [
      | inl e ↦ record { pair = p; holds = a.0; at = sym (eqb-true m (pair_node p) e) }
      | inr e ↦ at_node P ps m e a.1
    ]

-- nodes of pairs that are all in a list
pub in_from : {K V : Type 0} (ms : List ℕ) (ps : List (Pair K V)) → AllByRecursion (λ p. is_in (pair_node p) ms ≡ true)
    ps → (m : ℕ) → is_in m (nodes_of_pairs ps) ≡ true → is_in m ms ≡ true
in_from {K} {V} ms ps a m i =
    let n = at_node (λ (p : Pair K V). is_in (pair_node p) ms ≡ true) ps m i a in
    ap (λ k. is_in k ms) (sym n.at) ∙ n.holds

-- each pair's node is among the nodes
pub nodes_in : {K V : Type 0} (ms : List ℕ) (ps : List (Pair K V)) → ((m : ℕ) → is_in m (nodes_of_pairs ps) ≡ true
    → is_in m ms ≡ true) → AllByRecursion (λ p. is_in (pair_node p) ms ≡ true) ps
nodes_in ms [] f = tt
nodes_in ms (p ∷ ps) f = (
  f (pair_node p) (or_left _ _ (eq-eqb (pair_node p) (pair_node p) refl)),
  nodes_in ms ps (λ m i. f m (or_right _ _ i)),
)

module _ {K V : Type 0} (less : K → K → Bool) where
  -- a pair that is found has its node among the nodes
  pub in_nodes : (ps : List (Pair K V)) (key : K) (p : Pair K V) → pair_at less ps key ≡ Some p
      → is_in (pair_node p) (nodes_of_pairs ps) ≡ true
  in_nodes [] key p e = absurd (cc)
  in_nodes (q ∷ qs) key p e =
      let rest = in_nodes qs key p in let own = eq-eqb (pair_node p) (pair_node p) refl in grind arith

  -- a property of all pairs holds for the pairs that remain
  pub removed_all : (P : Pair K V → Type 0) (ps : List (Pair K V)) (key : K) → AllByRecursion P ps
      → AllByRecursion P (remove_pair less ps key)
  removed_all P [] key a = tt
  removed_all P (q ∷ qs) key a =
      elim (cases_Bool (is_key less key q)) [ inl y ↦ rw y a.1 | inr z ↦ rw z (a.0, removed_all P qs key a.1) ]

  -- a removed pair leaves one less
  pub removed_length : (ps : List (Pair K V)) (key : K) (p : Pair K V) → pair_at less ps key ≡ Some p
      → length ps ≡ suc (length (remove_pair less ps key))
  removed_length [] key p e = absurd (cc)
  removed_length (q ∷ qs) key p e = let rest = removed_length qs key p in grind arith

  -- ---- rising

  -- all keys are above a key
  abbrev pub Below : K → List (Pair K V) → Type 0
  Below key ps = AllByRecursion (λ (p : Pair K V). less key p.key ≡ true) ps

  -- the first key is below all others
  pub rising_below : Chains less → (q : Pair K V) (qs : List (Pair K V)) → is_rising less (q ∷ qs) ≡ true
      → Below q.key qs
  rising_below on q [] r = tt
  rising_below on q (p ∷ ps) r =
      let two = and_parts _ _ r in
      (two.0, further p.key ps two.0 (rising_below on p ps two.1))
    where
      further : (k : K) (rs : List (Pair K V)) → less q.key k ≡ true → Below k rs → Below q.key rs
      further k [] l b = tt
      further k (x ∷ rs) l b = (on q.key k x.key l b.0, further k rs l b.1)

  pub below_rising : (q : Pair K V) (qs : List (Pair K V)) → Below q.key qs → is_rising less qs ≡ true
      → is_rising less (q ∷ qs) ≡ true
  below_rising q [] b r = refl
  below_rising q (p ∷ ps) b r = rw (b.0, r) refl

  module _ (on : Chains less) where
    -- keys still rise without a pair
    pub removed_rising : (ps : List (Pair K V)) (key : K) → is_rising less ps ≡ true
        → is_rising less (remove_pair less ps key) ≡ true
    removed_rising [] key r = refl
    removed_rising (q ∷ qs) key r =
        let rest = rising_rest less on q qs r in
        elim (cases_Bool (is_key less key q)) [
          | inl y ↦ rw y rest
          | inr z ↦ rw z (below_rising q (remove_pair less qs key) (removed_all (λ (p : Pair K V). less q.key p.key
              ≡ true) qs key (rising_below on q qs r)) (removed_rising qs key rest))
        ]

-- after a pair all nodes have greater keys
none_behind : {K V : Type 0} (less : K → K → Bool) → IsStrict less
    → (keys : ℕ → Option K) (q : Pair K V) (qs : List (Pair K V)) → keys (pair_node q) ≡ Some q.key → HaveKeys keys qs
    → Below less q.key qs → is_in (pair_node q) (nodes_of_pairs qs) ≡ false
none_behind less strict keys q [] e k b = refl
none_behind less strict keys q (p ∷ ps) e k b =
    let rest = none_behind less strict keys q ps e k.1 b.1 in let own = k.0 in let above = b.0 in
    let not_self = strict q.key in grind arith

module _ {K V : Type 0} (less : K → K → Bool) (strict : IsStrict less) (on : Chains less) (keys : ℕ → Option K) where
  -- the nodes without that of a pair
  pub without_nodes : (p : Pair K V) (key : K) (ps : List (Pair K V)) → HaveKeys keys ps → is_rising less ps ≡ true
      → pair_at less ps key ≡ Some p
      → without (pair_node p) (nodes_of_pairs ps) ≡ nodes_of_pairs (remove_pair less ps key)
  without_nodes p key [] k r h = absurd (cc)
  without_nodes p key (q ∷ qs) k r h =
      let behind = none_behind less strict keys q qs k.0 k.1 (rising_below less on q qs r) in
      let gone = without_none (pair_node q) (nodes_of_pairs qs) behind in let among = in_nodes less qs key p in
      let rest = without_nodes p key qs k.1 (rising_rest less on q qs r) in grind arith

pub either_one : (b c : Bool) → not (b || c) ≡ false → b ≡ false → c ≡ true
either_one b c e f = rw f at (not-false (b || c) e)

module _ {K V : Type 0} (less : K → K → Bool) where
  -- a key that no pair has
  pub absent_here : (key : K) (q : Pair K V) (qs : List (Pair K V)) → pair_at less (q ∷ qs) key ≡ None
      → (is_key less key q ≡ false) × (pair_at less qs key ≡ None)
  absent_here key q qs e =
      elim (cases_Bool (is_key less key q)) [ inl y ↦ absurd (cc) | inr z ↦ (z, rw z at e) ]

  -- the pair that is found is in the list, and has the key
  pub pair_of : (P : Pair K V → Type 0) (ps : List (Pair K V)) (key : K) (p : Pair K V) → pair_at less ps key ≡ Some p
      → AllByRecursion P ps → P p × (is_key less key p ≡ true)
  pair_of P [] key p e a = absurd (cc)
  pair_of P (q ∷ qs) key p e a =
      elim (cases_Bool (is_key less key q)) [
        | inl y ↦
            let same : q ≡ p = cc in
            (subst P same a.0, ap (is_key less key) (sym same) ∙ y)
        | inr z ↦ pair_of P qs key p (rw z at e) a.1
      ]

  -- ---- a new pair

  -- a property of all pairs and of a new one holds after it is put
  pub put_all : (P : Pair K V → Type 0) (p : Pair K V) (ps : List (Pair K V)) → P p → AllByRecursion P ps
      → AllByRecursion P (put_pair less p ps)
  put_all P p [] h a = (h, tt)
  put_all P p (q ∷ qs) h a =
      elim (cases_Bool (less p.key q.key)) [
        | inl y ↦ rw y (h, a)
        | inr n ↦ rw n (elim (cases_Bool (less q.key p.key)) [
          | inl y ↦ rw y (a.0, put_all P p qs h a.1)
          | inr z ↦ rw z (h, a.1)
        ])
      ]

  -- a new pair makes one more
  pub put_length : (p : Pair K V) (ps : List (Pair K V)) → pair_at less ps p.key ≡ None
      → length (put_pair less p ps) ≡ suc (length ps)
  put_length p [] e = refl
  put_length p (q ∷ qs) e =
      let two = absent_here p.key q qs e in let one = two.0 in let rest = put_length p qs two.1 in grind arith

  -- keys still rise after a pair is put
  pub put_rising : Chains less → (p : Pair K V) (ps : List (Pair K V))
      → pair_at less ps p.key ≡ None → is_rising less ps ≡ true → is_rising less (put_pair less p ps) ≡ true
  put_rising on p [] e r = refl
  put_rising on p (q ∷ qs) e r =
      let two = absent_here p.key q qs e in
      elim (cases_Bool (less p.key q.key)) [
        | inl y ↦ rw y (rw (y, r) refl)
        | inr n ↦
            let below = either_one _ _ two.0 n in
            rw (n, below) (below_rising less q (put_pair less p qs) (put_all (λ (x : Pair K V). less q.key x.key ≡ true)
            p qs below (rising_below less on q qs r)) (put_rising on p qs two.1 (rising_rest less on q qs r)))
      ]

  module _ (keys : ℕ → Option K) (p : Pair K V) (own : keys (pair_node p) ≡ Some p.key) where
    -- the node has a place among the nodes of the others
    pub place_of : (ps : List (Pair K V)) → HaveKeys keys ps → pair_at less ps p.key ≡ None
        → is_ordered_with (comes_before less keys) (pair_node p) (nodes_of_pairs ps) ≡ true
    place_of [] k e = refl
    place_of (q ∷ qs) k e =
        let two = absent_here p.key q qs e in
        and_from (comes_before less keys (pair_node p) (pair_node q) || comes_before less keys (pair_node q)
        (pair_node p)) (is_ordered_with (comes_before less keys) (pair_node p) (nodes_of_pairs qs))
        ((λ i. before_key less (own i) (k.0 i) || before_key less (k.0 i) (own i))
        ∙ not-false (less p.key q.key || less q.key p.key) two.0) (place_of qs k.1 two.1)

    -- the nodes with that of a new pair
    pub put_nodes : (ps : List (Pair K V)) → HaveKeys keys ps → pair_at less ps p.key ≡ None
        → insert_in_order (comes_before less keys) (pair_node p) (nodes_of_pairs ps)
        ≡ nodes_of_pairs (put_pair less p ps)
    put_nodes [] k e = refl
    put_nodes (q ∷ qs) k e =
        let two = absent_here p.key q qs e in let one = two.0 in let rest = put_nodes qs k.1 two.1 in
        let same : comes_before less keys (pair_node p) (pair_node q) ≡ less p.key q.key = λ i.
        before_key less (own i) (k.0 i) in
        grind arith

  -- ---- a pair in the place of another

  module _ (on : Chains less) (p p' : Pair K V) (same : p'.key ≡ p.key) where
    -- the pair with the key is this one or comes after it
    later : (q : Pair K V) (qs : List (Pair K V)) → is_rising less (q ∷ qs) ≡ true
        → pair_at less (q ∷ qs) p'.key ≡ Some p → less p'.key q.key ≡ false
    later q qs r e = let none = none_above less on p'.key q qs r in grind arith

    module _ (P Q : Pair K V → Type 0) (step : (q : Pair K V) → P q
        → (less p'.key q.key ≡ true) ⊎ (less q.key p'.key ≡ true) → Q q) (own : Q p') where
      behind : (qs : List (Pair K V)) → Below less p'.key qs → AllByRecursion P qs → AllByRecursion Q qs
      behind [] b a = tt
      behind (q ∷ qs) b a = (step q a.0 (inl b.0), behind qs b.1 a.1)

      pub replaced_all : (ps : List (Pair K V)) → is_rising less ps ≡ true → pair_at less ps p'.key ≡ Some p
          → AllByRecursion P ps → AllByRecursion Q (put_pair less p' ps)
      replaced_all [] r e a = absurd (cc)
      replaced_all (q ∷ qs) r e a =
          let n = later q qs r e in
          elim (cases_Bool (less q.key p'.key)) [
            | inl y ↦ rw (n, y) (step q a.0 (inr y), replaced_all qs (rising_rest less on q qs r) (rw (n, y) at e) a.1)
            | inr z ↦
                let is : q.key ≡ p'.key = cc in
                rw (n, z) (own, behind qs (subst (λ k. Below less k qs) is (rising_below less on q qs r)) a.1)
          ]

    -- a pair put over another keeps the nodes
    pub replaced_nodes : pair_node p' ≡ pair_node p → (ps : List (Pair K V)) → is_rising less ps ≡ true
        → pair_at less ps p'.key ≡ Some p → nodes_of_pairs (put_pair less p' ps) ≡ nodes_of_pairs ps
    replaced_nodes at [] r e = absurd (cc)
    replaced_nodes at (q ∷ qs) r e =
        let n = later q qs r e in let rest = replaced_nodes at qs (rising_rest less on q qs r) in grind arith

    -- keys still rise with a pair put over another
    pub replaced_rising : (ps : List (Pair K V)) → is_rising less ps ≡ true → pair_at less ps p'.key ≡ Some p
        → is_rising less (put_pair less p' ps) ≡ true
    replaced_rising [] r e = absurd (cc)
    replaced_rising (q ∷ qs) r e =
        let n = later q qs r e in let rest = rising_rest less on q qs r in
        elim (cases_Bool (less q.key p'.key)) [
          | inl y ↦
              let found = rw (n, y) at e in
              rw (n, y) (below_rising less q (put_pair less p' qs)
              (replaced_all (λ (x : Pair K V). less q.key x.key ≡ true) (λ (x : Pair K V). less q.key x.key ≡ true)
              (λ x h o. h) y qs rest found (rising_below less on q qs r)) (replaced_rising qs rest found))
          | inr z ↦
              let is : q.key ≡ p'.key = cc in
              rw (n, z) (below_rising less p' qs (subst (λ k. Below less k qs) is (rising_below less on q qs r)) rest)
        ]

-- ---- the first pair

-- the value that was found
pub known : (start o : Option ℕ) → start ≡ o → IfSome start (λ n. o ≡ Some n)
known None o e = tt
known (Some n) o e = sym e

-- ---- keys of nodes

-- two ways to read keys that read the keys of the pairs agree on their nodes
pub keys_agree : {K V : Type 0} (f g : ℕ → Option K) (ps : List (Pair K V)) → HaveKeys f ps → HaveKeys g ps → (m : ℕ)
    → is_in m (nodes_of_pairs ps) ≡ true → f m ≡ g m
keys_agree {K} {V} f g ps k j m i =
    let n = at_node (λ (p : Pair K V). f (pair_node p) ≡ g (pair_node p)) ps m i
    (each_both ps k j (λ p a b. a ∙ sym b)) in
    subst (λ x. f x ≡ g x) n.at n.holds

module _ {K : Type 0} (less : K → K → Bool) (irreflexive : IsStrict less) (transitive : Chains less) where
  -- if one of two keys is below the other, the other is not below it
  one_side : (x y : K) → not (less x y || less y x) ≡ false → less y x ≡ not (less x y)
  one_side x y e = let both = transitive x y x in let not_one = irreflexive x in grind arith

  -- the nodes that precede a key are the nodes that its node does not precede
  pub beside : {V : Type 0} (keys : ℕ → Option K) (p : Pair K V) → keys (pair_node p) ≡ Some p.key
      → (ps : List (Pair K V)) → HaveKeys keys ps → pair_at less ps p.key ≡ None → (m : ℕ) → is_in m (nodes_of_pairs ps)
      ≡ true → stands_before less keys false p.key m ≡ not (comes_before less keys (pair_node p) m)
  beside keys p own [] k absent m i = absurd (false≢true i)
  beside keys p own (q ∷ qs) k absent m i =
      let two = absent_here less p.key q qs absent in
      elim (or_cases _ _ i) [
        | inl e ↦
            let key : keys m ≡ Some q.key = ap keys (eqb-true m (pair_node q) e) ∙ k.0 in
            ap (stands less false p.key) key ∙ one_side p.key q.key two.0
            ∙ sym (λ j. not (before_key less (own j) (key j)))
        | inr e ↦ beside keys p own qs k.1 two.1 m e
      ]
