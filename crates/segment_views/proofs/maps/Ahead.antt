-- The nodes that are listed ahead are the nodes of the first pairs from a bound on.
use Rattle.std.proofs.Common.{◌≡◌, refl, sym, ap, ◌∙◌, ℕ, suc, ◌≤◌, ℤ, Bool, true, false, Option, Some, None, Ok, Err}
use Rattle.std.proofs.Common.{List, [], ◌∷◌, ◌++◌, length, arith, subst, take, drop, min, map, filter, Result}
use Rattle.std.proofs.Common.{inl, inr}
use Rattle.std.proofs.lemmas.List.{length-map, length-take, take-append-le, take_min}
use Rattle.std.proofs.Math.Seq.{take-append_seam}
use Rattle.std.proofs.lemmas.Bool.{cases_Bool, eq-eqb, or_left, or_right}
use Rattle.std.proofs.lemmas.Option.{same_Some}
use Rattle.std.specs.List.{AllByRecursion}
use Rattle.std.specs.Prelude.{int_lt, nat_eq, option_map, slice_get}
use Rattle.std.specs.declared.ops.Bound.{Bound}
use Rattle.std.specs.declared.ops.Bound.TheVariants.{Excluded, Unbounded}
use Rattle.raw_region.proofs.Facts.{AllByRecursion-filter}
use Rattle.link_tree.specs.Nodes.{is_in}
use Rattle.seg_types.specs.declared.kinds.ScalarKind.{ScalarKind}
use Rattle.seg_types.specs.declared.refusals.Refusal.{Refusal}
use Rattle.seg_types.specs.Kinds.{lowest}
use Rattle.seg_types.specs.Names.{Key}
use Rattle.seg_map.specs.Listing.{pairs_past, with_nodes}
use Rattle.seg_map.specs.Numbers.{NumberPair}
use Rattle.seg_map.specs.Places.{item_of, nodes_of_pairs, pair_node}
use Rattle.segment_manager.specs.Directory.{Directory}
use Rattle.segment_manager.specs.containers.Maps.{answer_of_map, count_read, nodes_read, numbers_in, pair_from}
use Rattle.segment_manager.specs.State.{AnswersWith, DenotesCurrent, SegmentState}
use Rattle.segment_manager.specs.containers.Walks.{HasPairNode, ReadsPairNode, first_of, pairs_at_kinds}
use Rattle.segment_manager.proofs.Laws.{map-least, map-rises, map-told}
use Rattle.segment_views.specs.Ranged.{AreAhead, HasNoneFrom, is_between, pairs_from, range_of}
use Rattle.segment_views.proofs.maps.Bounds.{all-past, pairs-behind}

-- ---- plain lists

-- the first node belongs to the first pair, and each further node to the next pair
pub record FirstAhead (node : ℕ) (rest : List ℕ) (qs : List NumberPair) : Type 0 where
  pub pair : NumberPair
  pub others : List NumberPair
  pub is : qs ≡ pair ∷ others
  pub at : pair_node pair ≡ node
  pub behind : rest ≡ nodes_of_pairs (take (length rest) others)

first-ahead : (node : ℕ) (rest : List ℕ) (qs : List NumberPair)
    → node ∷ rest ≡ nodes_of_pairs (take (suc (length rest)) qs) → FirstAhead node rest qs
first-ahead node rest [] e = absurd (cc)
first-ahead node rest (q ∷ qs) e = record { pair = q; others = qs; is = refl; at = cc; behind = cc }

-- a pair that passes is one of the pairs
among : (t : NumberPair → Bool) (ps : List NumberPair) (q : NumberPair) (rest : List NumberPair)
    → filter t ps ≡ q ∷ rest → is_in (pair_node q) (nodes_of_pairs ps) ≡ true
among t [] q rest e = absurd (cc)
among t (p ∷ ps) q rest e = elim (cases_Bool (t p)) [
  | inl f ↦
      let two = rw f at e in let same : p ≡ q = cc in
      or_left (nat_eq (pair_node q) (pair_node p)) (is_in (pair_node q) (nodes_of_pairs ps))
      (eq-eqb (pair_node q) (pair_node p) (sym (ap pair_node same)))
  | inr f ↦ or_right (nat_eq (pair_node q) (pair_node p)) (is_in (pair_node q) (nodes_of_pairs ps))
      (among t ps q rest (rw f at e))
]

-- the first places of a list with the nodes of pairs
listed-first : (qs : List NumberPair) (list : List ℕ) (count : ℕ) → count ≡ min (length list) (length qs)
    → (take count (with_nodes (take (length list) qs) list) ≡ nodes_of_pairs (take count qs))
    × (length (nodes_of_pairs (take count qs)) ≡ count)
listed-first qs list count e =
    let same : take count qs ≡ take (length list) qs = ap (λ n. take n qs) e ∙ take_min (length list) qs in
    let ns = nodes_of_pairs (take count qs) in
    let rest = drop (length (take count qs)) list in
    let long : length ns ≡ count = omega (arith, e, length-map (take count qs) pair_node, length-take count qs) in (
      ap (λ ps. take count (with_nodes ps list)) (sym same) ∙ ap (λ n. take n (ns ++ rest)) (sym long)
          ∙ take-append_seam ns rest,
      long,
    )

no-pairs : (qs : List NumberPair) → length qs ≡ 0 → qs ≡ []
no-pairs [] e = refl
no-pairs (q ∷ qs) e = absurd (omega (arith, e))

-- a list with a first element
pub begun : (xs : List ℕ) (x : ℕ) → slice_get xs 0 ≡ Some x → xs ≡ x ∷ drop 1 xs
begun [] x e = absurd (cc)
begun (y ∷ ys) x e = ap (λ z. z ∷ ys) (same_Some y x e)

-- ---- the nodes of a map's pairs

module _ (s : SegmentState) (key : Key) (k v : ScalarKind) where
  -- the pairs that are listed from a number on are the pairs from a bound on
  abbrev pub IsProbe : Bound ℤ → Bool → ℤ → Type 0
  IsProbe start past z = (d : Directory) → DenotesCurrent s.cut.bytes d
      → pairs_past int_lt past z (pairs_at_kinds d key k v) ≡ pairs_from start (pairs_at_kinds d key k v)

  abbrev the_first : List NumberPair → Option (ℤ × ℤ)
  the_first ps = option_map item_of (first_of ps)

  least-first : (d : Directory) (r : Result (Option (ℤ × ℤ)) Refusal)
      → r ≡ answer_of_map d key k v (pair_from (lowest k)) → r ≡ answer_of_map d key k v the_first
      → pair_from (lowest k) (pairs_at_kinds d key k v) ≡ the_first (pairs_at_kinds d key k v)
  least-first d (Ok a) e f =
      sym (map-told d key k v (pair_from (lowest k)) (Ok a) e) ∙ map-told d key k v the_first (Ok a) f
  least-first d (Err why) e f =
      let none = map-told d key k v the_first (Err why) f in ap (pair_from (lowest k)) none ∙ sym (ap the_first none)

  -- without a bound from the least number of the kind on
  pub probes-all : (z : ℤ) → z ≡ lowest k → IsProbe Unbounded false z
  probes-all z e d l = ap (λ z. pairs_past int_lt false z (pairs_at_kinds d key k v)) e
      ∙ all-past (lowest k) (pairs_at_kinds d key k v) (map-rises d key k v s.cut.bytes l.denotes)
      (least-first d _ refl (map-least d key k v s.cut.bytes l.denotes))

  module _ (start : Bound ℤ) where
    -- the nodes that a call listed
    module _ (past : Bool) (z : ℤ) (probe : IsProbe start past z) (old new : List ℕ) (count : ℕ)
        (counted : AnswersWith s (λ d. answer_of_map d key k v (count_read past z (length old))) (Ok count))
        (listed : AnswersWith s (λ d. answer_of_map d key k v (nodes_read past z (length old) old)) (Ok new)) where
      count-is : (d : Directory) → DenotesCurrent s.cut.bytes d
          → count ≡ min (length old) (length (pairs_from start (pairs_at_kinds d key k v)))
      count-is d l = map-told d key k v (count_read past z (length old)) (Ok count) (counted.answers d l)
          ∙ ap (λ (qs : List NumberPair). min (length old) (length qs)) (probe d l)

      listed-ahead : AreAhead s key k v start (take count new)
      listed-ahead = record {
        answers = λ d l.
            let qs = pairs_from start (pairs_at_kinds d key k v) in
            let f = listed-first qs old count (count-is d l) in
            let is : take count new ≡ nodes_of_pairs (take count qs) =
            ap (take count) (map-told d key k v (nodes_read past z (length old) old) (Ok new) (listed.answers d l)
            ∙ ap (λ (qs : List NumberPair). with_nodes (take (length old) qs) old) (probe d l)) ∙ f.0 in
            is ∙ ap (λ n. nodes_of_pairs (take n qs)) (sym (ap length is ∙ f.1));
      }

      -- where no node is listed in a list with places, there is no pair
      none-listed : 1 ≤ length old → count ≡ 0 → HasNoneFrom s key k v start
      none-listed places none = record {
        answers = λ d l.
            let qs = pairs_from start (pairs_at_kinds d key k v) in
            let c = count-is d l in
            sym (no-pairs qs (omega (arith, c, places, none)));
      }

      -- as the first places of a longer list
      module _ (rest : List ℕ) (within : count ≤ length new) where
        places-kept : take count (new ++ rest) ≡ take count new
        places-kept = take-append-le count new rest within

        pub filled-ahead : AreAhead s key k v start (take count (new ++ rest))
        filled-ahead = subst (AreAhead s key k v start) (sym places-kept) listed-ahead

        pub none-filled : 1 ≤ length old → take count (new ++ rest) ≡ [] → HasNoneFrom s key k v start
        none-filled places none =
            let e = ap length (sym places-kept ∙ none) in
            none-listed places (omega (arith, e, within, length-take count new))

    -- no node is ahead: there is no first pair
    pub none-first : HasNoneFrom s key k v start
        → AnswersWith s (λ d. slice_get (range_of start Unbounded (pairs_at_kinds d key k v)) 0) None
    none-first none = record {
      answers = λ d l. ap (λ (qs : List NumberPair). slice_get (map item_of qs) 0) (none.answers d l);
    }

    -- the first node that is ahead
    module _ (nodes : List ℕ) (ahead : AreAhead s key k v start nodes) (node : ℕ)
        (is : slice_get nodes 0 ≡ Some node) where
      first-of : (d : Directory) → DenotesCurrent s.cut.bytes d
          → FirstAhead node (drop 1 nodes) (pairs_from start (pairs_at_kinds d key k v))
      first-of d l =
          let qs = pairs_from start (pairs_at_kinds d key k v) in
          first-ahead node (drop 1 nodes) qs (rw (begun nodes node is) at (ahead.answers d l))

      -- a pair of the map has it
      pub first-node : HasPairNode s key k v node
      first-node = record {
        answers = λ d l.
            let f = first-of d l in
            let ps = pairs_at_kinds d key k v in
            sym (subst (λ n. is_in n (nodes_of_pairs ps) ≡ true) f.at (among (is_between start Unbounded) ps f.pair
            f.others f.is));
      }

      module _ {A B : Type 0} (kw : A → ℤ) (vw : B → ℤ) (r : Option (A × B))
          (reads : ReadsPairNode s key k v node (numbers_in kw vw r)) where
        first-read : (d : Directory) (l : DenotesCurrent s.cut.bytes d)
            → numbers_in kw vw r ≡ Some (item_of (first-of d l).pair)
        first-read d l =
            let f = first-of d l in
            let ps = pairs_at_kinds d key k v in
            let all = AllByRecursion-filter (λ p. pair_node p ≡ node → numbers_in kw vw r ≡ Some (item_of p))
            (is_between start Unbounded) ps (reads.pairs d l) in
            (subst (AllByRecursion (λ p. pair_node p ≡ node → numbers_in kw vw r ≡ Some (item_of p))) f.is all).0 f.at

        -- the pair that is read there is the first
        pub first-pair : AnswersWith s (λ d.
            slice_get (range_of start Unbounded (pairs_at_kinds d key k v)) 0) (numbers_in kw vw r)
        first-pair = record {
          answers = λ d l. first-read d l
              ∙ sym (ap (λ (qs : List NumberPair). slice_get (map item_of qs) 0) (first-of d l).is);
        }

        -- the other nodes are ahead from its key on
        pub rest-ahead : (pair : A × B) → r ≡ Some pair → AreAhead s key k v (Excluded (kw pair.0)) (drop 1 nodes)
        rest-ahead pair was = record {
          answers = λ d l.
              let f = first-of d l in
              let ps = pairs_at_kinds d key k v in
              let same = same_Some (kw pair.0, vw pair.1) (item_of f.pair) (ap (numbers_in kw vw) (sym was)
              ∙ first-read d l) in
              let others : pairs_from (Excluded (kw pair.0)) ps ≡ f.others =
              ap (λ (x : ℤ × ℤ). pairs_from (Excluded x.0) ps) same ∙ pairs-behind start Unbounded ps f.pair f.others
              (map-rises d key k v s.cut.bytes l.denotes) f.is in
              f.behind ∙ ap (λ qs. nodes_of_pairs (take (length (drop 1 nodes)) qs)) (sym others);
        }
