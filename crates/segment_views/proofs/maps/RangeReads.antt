-- What is read of a map says of the pairs between two bounds.
use Rattle.std.proofs.Common.{◌≡◌, refl, sym, ap, ◌∙◌, ℕ, ◌-◌, ◌≤◌, ℤ, Bool, Option, Some, None, Ok}
use Rattle.std.proofs.Common.{List, [], ◌∷◌, ◌++◌, length, arith, drop, if◌then◌else◌}
use Rattle.std.specs.Prelude.{slice_get}
use Rattle.std.proofs.lemmas.List.{length-append}
use Rattle.std.specs.declared.ops.Bound.{Bound, TheVariants.Excluded, TheVariants.Unbounded}
use Rattle.seg_types.specs.{declared.kinds.ScalarKind.ScalarKind, Names.Key}
use Rattle.seg_map.specs.Numbers.{NumberPair}
use Rattle.segment_manager.specs.Directory.{Directory}
use Rattle.segment_manager.specs.containers.Maps.{answer_of_map, numbers_in}
use Rattle.segment_manager.specs.State.{AnswersWith, SegmentState, DenotesCurrent}
use Rattle.segment_manager.specs.containers.Walks.{HasPairNode, ReadsPairNode, pairs_at_kinds}
use Rattle.segment_manager.proofs.Laws.{map-rises, map-told}
use Rattle.segment_views.specs.Ranged.{AreAhead, GoesBackPairs, GoesOnPairs, HasNoneFrom, IsPairWalk, PairWalk, is_from}
use Rattle.segment_views.specs.Ranged.{is_up_to, last_between, pairs_left, range_of}
use Rattle.segment_views.proofs.maps.Ahead.{first-node, first-pair, none-first, rest-ahead}
use Rattle.segment_views.proofs.maps.Bounds.{admitted, last-within, range-begins, range-empty, range-ends, range-few}
use Rattle.segment_views.proofs.maps.Bounds.{range-none, range-within}

module _ (s : SegmentState) (key : Key) (k v : ScalarKind) where
  -- what is read of a map is told of its pairs
  pub reads-told : {A : Type 0} (say see : List NumberPair → A) → ((ps : List NumberPair) → say ps ≡ see ps) → (o : A)
      → AnswersWith s (λ d. answer_of_map d key k v say) (Ok o) → AnswersWith s (λ d. see (pairs_at_kinds d key k v)) o
  reads-told say see same o a = record {
    answers = λ d h. map-told d key k v say (Ok o) (a.answers d h) ∙ same (pairs_at_kinds d key k v);
  }

  -- there are no more than all
  pub all-few : (start end : Bound ℤ) (left : ℕ) → AnswersWith s (λ d. answer_of_map d key k v length) (Ok left)
      → (d : Directory) → DenotesCurrent s.cut.bytes d → length (range_of start end (pairs_at_kinds d key k v)) ≤ left
  all-few start end left a d h =
      let m = map-told d key k v length (Ok left) (a.answers d h) in
      let f = range-few start end (pairs_at_kinds d key k v) in omega (arith, m, f)

-- ---- an iterator over the pairs between two bounds

module _ {k v : ScalarKind} {w : PairWalk} {old : List ℕ} (is : IsPairWalk k v w old) {A B : Type 0} (kw : A → ℤ)
    (vw : B → ℤ) where
  abbrev seen : A × B → ℤ × ℤ
  seen pair = (kw pair.0, vw pair.1)

  -- ---- by rising keys

  -- the first of the pairs that are left
  abbrev HasFirst : Option (ℤ × ℤ) → Type 0
  HasFirst o = AnswersWith w.segment (λ d. slice_get (range_of w.start w.end (pairs_at_kinds d w.key k v)) 0) o

  -- it is the first from the lower bound on, if the upper one admits it
  first-within : (o : Option (ℤ × ℤ))
      → AnswersWith w.segment (λ d. slice_get (range_of w.start Unbounded (pairs_at_kinds d w.key k v)) 0) o
      → HasFirst (admitted (is_up_to w.end) o)
  first-within o a = record {
    answers = λ d h. ap (admitted (is_up_to w.end)) (a.answers d h)
        ∙ sym (range-within w.start w.end (pairs_at_kinds d w.key k v) (map-rises d w.key k v w.segment.cut.bytes
        h.denotes));
  }

  -- without a node ahead there is none
  pub none-left : HasNoneFrom w.segment w.key k v w.start → HasFirst None
  none-left none = first-within None (none-first w.segment w.key k v w.start none)

  module _ (nodes : List ℕ) (ahead : AreAhead w.segment w.key k v w.start nodes) {node : ℕ}
      (at : slice_get nodes 0 ≡ Some node) where
    -- a pair has the first node ahead
    pub node-left : HasPairNode w.segment w.key k v node
    node-left = first-node w.segment w.key k v w.start nodes ahead node at

    module _ (r : Option (A × B)) (reads : ReadsPairNode w.segment w.key k v node (numbers_in kw vw r)) where
      its-pair : HasFirst (admitted (is_up_to w.end) (numbers_in kw vw r))
      its-pair = first-within (numbers_in kw vw r)
          (first-pair w.segment w.key k v w.start nodes ahead node at kw vw r reads)

      -- that pair is read
      pub no-pair : r ≡ None → HasFirst None
      no-pair was = rw was at its-pair

      -- it is the first, if the upper bound admits it
      pub first-left : {pair : A × B} → r ≡ Some pair → {b : Bool} → b ≡ is_up_to w.end (kw pair.0)
          → HasFirst (if b then Some (seen pair) else None)
      first-left was e = rw e (rw was at its-pair)

      -- the other nodes are ahead from its key on
      pub rest-left : {pair : A × B} → r ≡ Some pair
          → AreAhead w.segment w.key k v (Excluded (kw pair.0)) (drop 1 nodes)
      rest-left {pair} was = rest-ahead w.segment w.key k v w.start nodes ahead node at kw vw r reads pair was

  -- no first pair: the range is empty
  pub finds-none : HasFirst None → GoesOnPairs k v seen w None w
  finds-none a = record {
    segment = refl;
    key = refl;
    pairs = λ d h. let n = range-empty (range_of w.start w.end (pairs_at_kinds d w.key k v)) (sym (a.answers d h))
        in (n, n);
  }

  module _ (pair : A × B) where
    abbrev behind : PairWalk
    behind = record w { start = Excluded (kw pair.0); left = w.left - 1 }

    -- the first pair is taken, and the others are left
    others-left : HasFirst (Some (seen pair)) → (d : Directory) → DenotesCurrent w.segment.cut.bytes d
        → pairs_left k v d w ≡ seen pair ∷ pairs_left k v d behind
    others-left a d h = range-begins w.start w.end (pairs_at_kinds d w.key k v) (kw pair.0) (vw pair.1)
        (map-rises d w.key k v w.segment.cut.bytes h.denotes) (sym (a.answers d h))

    -- a first pair: the range goes on after it
    pub finds-one : HasFirst (Some (seen pair)) → GoesOnPairs k v seen w (Some pair) behind
    finds-one a = record { segment = refl; key = refl; pairs = others-left a }

    -- one pair less is left
    pub fewer : HasFirst (Some (seen pair)) → (d : Directory) → DenotesCurrent w.segment.cut.bytes d
        → length (pairs_left k v d behind) ≤ w.left - 1
    fewer a d h = let e = ap length (others-left a d h) in let f = is.few d h in omega (arith, e, f)

  -- ---- by falling keys

  abbrev HasLast : Option (ℤ × ℤ) → Type 0
  HasLast o = AnswersWith w.segment (λ d. last_between w.start w.end (pairs_at_kinds d w.key k v)) o

  module _ (r : Option (A × B))
      (a : AnswersWith w.segment (λ d. last_between Unbounded w.end (pairs_at_kinds d w.key k v)) (numbers_in kw vw r))
    where
      last-within_start : HasLast (admitted (is_from w.start) (numbers_in kw vw r))
      last-within_start = record {
        answers = λ d h. ap (admitted (is_from w.start)) (a.answers d h)
            ∙ sym (last-within w.start w.end (pairs_at_kinds d w.key k v) (map-rises d w.key k v w.segment.cut.bytes
            h.denotes));
      }

      -- without a pair up to the upper bound there is no last
      pub no-last : r ≡ None → HasLast None
      no-last was = rw was at last-within_start

      -- the last pair up to it is the last, if the lower bound admits it
      pub last-left : {pair : A × B} → r ≡ Some pair → {b : Bool} → b ≡ is_from w.start (kw pair.0)
          → HasLast (if b then Some (seen pair) else None)
      last-left was e = rw e (rw was at last-within_start)

  -- no last pair: the range is empty
  pub finds-none-back : HasLast None → GoesBackPairs k v seen w None w
  finds-none-back a = record {
    segment = refl;
    key = refl;
    pairs = λ d h. let n = range-none w.start w.end (pairs_at_kinds d w.key k v) (sym (a.answers d h)) in (n, n);
  }

  module _ (pair : A × B) where
    abbrev before : PairWalk
    before = record w { end = Excluded (kw pair.0); left = w.left - 1 }

    -- the last pair is taken, and the others are left
    others-before : HasLast (Some (seen pair)) → (d : Directory) → DenotesCurrent w.segment.cut.bytes d
        → pairs_left k v d w ≡ pairs_left k v d before ++ seen pair ∷ []
    others-before a d h = range-ends w.start w.end (pairs_at_kinds d w.key k v) (kw pair.0) (vw pair.1)
        (map-rises d w.key k v w.segment.cut.bytes h.denotes) (sym (a.answers d h))

    -- a last pair: the range goes on before it
    pub finds-one-back : HasLast (Some (seen pair)) → GoesBackPairs k v seen w (Some pair) before
    finds-one-back a = record { segment = refl; key = refl; pairs = others-before a }

    -- one pair less is left
    pub fewer-back : HasLast (Some (seen pair)) → (d : Directory) → DenotesCurrent w.segment.cut.bytes d
        → length (pairs_left k v d before) ≤ w.left - 1
    fewer-back a d h =
        let e = ap length (others-before a d h) ∙ length-append (pairs_left k v d before) (seen pair ∷ []) in
        let f = is.few d h in omega (arith, e, f)
