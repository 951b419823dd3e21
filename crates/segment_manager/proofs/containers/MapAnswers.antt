-- What the calls of seg_map ensure of the map at the place that was found, as the steps of the calls on the object's
-- map.
use Rattle.std.proofs.Common.{length, ℕ}
use Rattle.best_fit.specs.declared.places.Place.{Place}
use Rattle.seg_types.specs.Commands.{Put, Remove}
use Rattle.seg_map.specs.{Changing.CountsPairs, Listing.HasNode, Listing.ListsNodes, Listing.ReadsNode}
use Rattle.seg_map.specs.Places.{last_pair}
use Rattle.segment_manager.proofs.Common.{AnswersQueryOfKind, AnswersWith, Bool, DenotesCurrent, Directory, ErasesKey}
use Rattle.segment_manager.proofs.Common.{Err, FindsItem, FindsItemBefore, FindsLastItem, FindsValue, IfErr, IsSegment}
use Rattle.segment_manager.proofs.Common.{IsSomeMap, Key, List, Located, Lookup, Map, MatchOption, NoSpace, None}
use Rattle.segment_manager.proofs.Common.{NumberPair, Object, Ok, Option, Plain, PutsPair, Refusal, Result, ScalarKind}
use Rattle.segment_manager.proofs.Common.{SegmentState, Some, UnchangedWhere, WindowState, [], answer_of_map, ap}
use Rattle.segment_manager.proofs.Common.{container_at, false, int_lt, is_read_only, is_value, item_of, literal_of}
use Rattle.segment_manager.proofs.Common.{none-some, numbers_in, option_map, pair_at, pairs_at, pairs_of, refl, subst}
use Rattle.segment_manager.proofs.Common.{sym, true, truth_answer, value_or_absent, ℤ, ◌∙◌, ◌≡◌}
use Rattle.segment_manager.proofs.bound.ByKey.{Changed, container-here, leaves-bound}
use Rattle.segment_manager.proofs.containers.{KeptContainers.keeps-cut, Safely.answered, ToChange.seen-found}
use Rattle.segment_manager.proofs.containers.MapCalls.{HoldsPairs, TellsSafely, holds-pairs, map-erased, map-got}
use Rattle.segment_manager.proofs.containers.MapCalls.{map-listed, map-put, map-told, put_result, stands-map}
use Rattle.segment_manager.proofs.containers.PairNumbers.{IsScalarOf, counts-numbers, counts-past, erases-numbers}
use Rattle.segment_manager.proofs.containers.PairNumbers.{finds-back, finds-item, finds-last, finds-value, has-node}
use Rattle.segment_manager.proofs.containers.PairNumbers.{nodes-past, puts-numbers, reads-node, some-map}
use Rattle.segment_manager.specs.Keeping.{ChangesValue, LacksPair}
use Rattle.segment_manager.specs.containers.Maps.{IsPairs, count_read, nodes_read, pair_at_end}
use Rattle.segment_manager.specs.containers.Walks.{HasPairNode, ReadsPairNode, pair_past, pairs_at_kinds}
use Rattle.segment_manager.specs.objects.BoundObjects.{IsBound, container_of, key_of}

-- a key that is a value is a number of its kind
as-value : {T : Type 0} {j : ScalarKind} {tp : Plain T} {w : T → ℤ} → IsScalarOf j tp w → (x : T) → tp.is_value x ≡ true
    → is_value j (w x) ≡ true
as-value l x e = sym (l.values x) ∙ e

-- a put fails for want of space alone
put-error : {E : Type 0} (r : Result Bool E) → IfErr (put_result r) (λ why. why ≡ NoSpace)
put-error (Ok b) = tt
put-error (Err e) = refl

without-pair : (P : Type 0) (Q : NumberPair → Type 0) (o : Option NumberPair) → o ≡ None → MatchOption o P Q → P
without-pair P Q None e m = m
without-pair P Q (Some q) e m = absurd (none-some q (sym e))

pair-written : (P : Type 0) (Q : NumberPair → Type 0) (o : Option NumberPair) (p : NumberPair) → o ≡ Some p
    → MatchOption o P Q → Q p
pair-written P Q None p e m = absurd (none-some p e)
pair-written P Q (Some q) p e m = let same : q ≡ p = cc in subst Q same m

-- the segment with its heap
pub in-heap : {h : WindowState} {t : SegmentState} → h ≡ t.cut → (record t { cut = h }) ≡ t
in-heap {t = t} e = λ i. record t { cut = e i }

module _ {K V : Type 0} {k v : ScalarKind} {kp : Plain K} {vp : Plain V} {kw : K → ℤ} {vw : V → ℤ}
    (kl : IsScalarOf k kp kw) (vl : IsScalarOf v vp vw) {s t : SegmentState} (view : s ≡ t) {o : Located} {q : Place}
    (bound : IsBound (Map k v) o t) (same : q ≡ container_of o) (b : IsSegment s.cut.bytes) where
  abbrev key : Key
  key = key_of o

  found-there : AnswersWith s (λ d. container_at d key (Map k v)) (Ok q)
  found-there = seen-found s t view key (Map k v) q (container-here bound same)

  -- there is a map of the types at the place
  pub some-there : IsSomeMap kp vp s.cut.bytes q.handle q.at
  some-there = some-map kl vl s.cut.bytes q.handle q.at (stands-map s key k v q b found-there)

  -- ---- reads

  -- the value of a key is the directory's
  pub got-there : (x : K) (r : Option V) → kp.is_value x ≡ true → FindsValue kp vp s.cut.bytes q.handle q.at x r
      → AnswersQueryOfKind t key (Map k v) (Lookup key (literal_of k (kw x))) (value_or_absent v (option_map vw r))
  got-there x r good each = subst (λ (u : SegmentState).
      AnswersQueryOfKind u key (Map k v) (Lookup key (literal_of k (kw x)))
      (value_or_absent v (option_map vw r))) view (map-got s key k v q b found-there (kw x) (option_map vw r)
      (as-value kl x good) (finds-value kl vl s.cut.bytes q.handle q.at x r each))

  told-there : {A : Type 0} (say : List NumberPair → A) (r : A)
      → ((ps : List NumberPair) → IsPairs k v s.cut.bytes q ps → r ≡ say ps)
      → AnswersWith t (λ d. answer_of_map d key k v say) (Ok r)
  told-there say r each = subst (λ (u : SegmentState). AnswersWith u (λ d. answer_of_map d key k v say) (Ok r)) view
      (map-told s key k v q b found-there say r each)

  -- the pair from a key on is the directory's
  pub past-there : (above said : Bool) → said ≡ above → (x : K) (r : Option (K × V)) → FindsItem kp vp s.cut.bytes
      q.handle q.at above x r → AnswersWith t (λ d.
      answer_of_map d key k v (pair_past said (kw x))) (Ok (numbers_in kw vw r))
  past-there above said is x r each =
      subst (λ (b : Bool). AnswersWith t (λ d. answer_of_map d key k v (pair_past b (kw x))) (Ok (numbers_in kw vw r)))
      (sym is) (told-there (pair_past above (kw x)) (numbers_in kw vw r)
      (finds-item kl vl s.cut.bytes q.handle q.at above x r each))

  module _ (past : Bool) (x : K) (list list' : List ℕ) (n : ℕ)
      (each : ListsNodes kp vp s.cut.bytes q past x list list' n) where
    -- the number of nodes that are listed is the directory's
    pub node-count-there : AnswersWith t (λ d. answer_of_map d key k v (count_read past (kw x) (length list))) (Ok n)
    node-count-there = told-there (count_read past (kw x) (length list)) n
        (counts-past kl vl s.cut.bytes q.handle q.at past x (length list) n (λ ps h. (each ps h).0))

    -- the nodes that are listed are the directory's
    pub nodes-there : AnswersWith t (λ d. answer_of_map d key k v (nodes_read past (kw x) (length list) list))
        (Ok list')
    nodes-there = told-there (nodes_read past (kw x) (length list) list) list'
        (nodes-past kl vl s.cut.bytes q.handle q.at past x list list' n each)

  -- a pair of the map has the node
  pub node-there : (node : ℕ) → HasPairNode t key k v node → HasNode kp vp s.cut.bytes q node
  node-there node has =
      let a = subst (λ (u : SegmentState). HasPairNode u key k v node) (sym view) has in
      has-node kl vl s.cut.bytes q.handle q.at node (pairs_at_kinds b.0 key k v)
      (map-listed s key k v q b found-there b.0 b.1) (sym (a.answers b.0 b.1))

  -- the pair at the node is the directory's
  pub pair-there : (node : ℕ) (r : Option (K × V)) → ReadsNode kp vp s.cut.bytes q node r
      → ReadsPairNode t key k v node (numbers_in kw vw r)
  pair-there node r each = subst (λ (u : SegmentState). ReadsPairNode u key k v node (numbers_in kw vw r)) view
      (record {
        pairs = λ d l. reads-node kl vl s.cut.bytes q.handle q.at node r each (pairs_at_kinds d key k v)
            (map-listed s key k v q b found-there d l);
      })

  -- the pair before a key is the directory's
  pub back-there : (reached : Bool) (x : K) (r : Option (K × V)) → FindsItemBefore kp vp s.cut.bytes q.handle q.at
      reached x r → AnswersWith t (λ d.
      answer_of_map d key k v (λ ps. option_map item_of (last_pair int_lt reached (kw x)
      ps))) (Ok (numbers_in kw vw r))
  back-there reached x r each =
      told-there _ (numbers_in kw vw r) (finds-back kl vl s.cut.bytes q.handle q.at reached x r each)

  -- the last pair is the directory's
  pub last-there : (r : Option (K × V)) → FindsLastItem kp vp s.cut.bytes q.handle q.at r
      → AnswersWith t (λ d. answer_of_map d key k v pair_at_end) (Ok (numbers_in kw vw r))
  last-there r each = told-there pair_at_end (numbers_in kw vw r) (finds-last kl vl s.cut.bytes q.handle q.at r each)

  -- the number of pairs is the directory's
  pub counted-there : (n : ℕ) → CountsPairs kp vp s.cut.bytes q.handle q.at n
      → AnswersWith t (λ d. answer_of_map d key k v length) (Ok n)
  counted-there n each = told-there length n (counts-numbers kl vl s.cut.bytes q.handle q.at n each)

  -- ---- changes

  module _ (new : WindowState) (writing : is_read_only t.mode ≡ false) where
    writing-there : is_read_only s.mode ≡ false
    writing-there = subst (λ (u : SegmentState). is_read_only u.mode ≡ false) (sym view) writing

    -- the pairs of the object before the call
    listed : (d : Directory) → DenotesCurrent s.cut.bytes d → HoldsPairs s.cut.bytes d key k v q
    listed d l = holds-pairs s.cut.bytes d key k v q l.denotes (found-there.answers d l)

    pairs-listed : (d : Directory) (l : DenotesCurrent s.cut.bytes d) → pairs_at d key ≡ (listed d l).pairs
    pairs-listed d l =
        let h = listed d l in ap (λ (o : Option Object). elim o as (λ _. List NumberPair)
        [ None ↦ [] | Some o ↦ pairs_of o.value ]) h.is ∙ ap pairs_of h.known.value

    -- a pair put over another one needs no space
    put-again : {E : Type 0} (x : K) (y : V) (r : Result Bool E) → PutsPair kp vp s.cut new q.handle q.at x y r
        → ChangesValue t (record s { cut = new }) key k (kw x) v
    put-again x y r each = subst (λ (u : SegmentState). ChangesValue u (record s { cut = new }) key k (kw x) v) view
        (λ d l pair has.
        let h = listed d l in
        (pair-written _ _ (pair_at int_lt h.pairs (kw x)) pair
        (sym (ap (λ ps. pair_at int_lt ps (kw x)) (pairs-listed d l)) ∙ has)
        (puts-numbers kl vl s.cut new q.handle q.at x y r each h.pairs h.map)).1.change.rest)

    -- without the key the segment stays
    none-erased : (x : K) (r : Bool) → ErasesKey kp vp s.cut new q.handle q.at x r
        → UnchangedWhere t (record s { cut = new }) (LacksPair key (kw x))
    none-erased x r each = keeps-cut s t view new (LacksPair key (kw x)) (λ d l lacks.
        let h = listed d l in
        (without-pair _ _ (pair_at int_lt h.pairs (kw x))
        (sym (ap (λ ps. pair_at int_lt ps (kw x)) (pairs-listed d l)) ∙ lacks)
        (erases-numbers kl vl s.cut new q.handle q.at x r each h.pairs h.map)).1)

    -- a pair that was put is the directory's
    pub put-there : {E : Type 0} (x : K) (y : V) (r : Result Bool E) (out : Result Bool Refusal) → out ≡ put_result r
        → kp.is_value x ≡ true → vp.is_value y ≡ true → PutsPair kp vp s.cut new q.handle q.at x y r
        → Changed (Map k v) o s t new (λ key. Put key (literal_of k (kw x)) (literal_of v (vw y))) truth_answer
        (λ why. why ≡ NoSpace) (ChangesValue t (record s { cut = new }) key k (kw x) v) out
    put-there x y r out told good fair each = leaves-bound view bound writing b new
        (λ key. Put key (literal_of k (kw x)) (literal_of v (vw y))) refl
        (subst (λ q. IfErr q (λ why. why ≡ NoSpace)) (sym told) (put-error r)) (put-again x y r each)
        (answered s t view b new key (Map k v) _ out
        (subst (TellsSafely s new key (Map k v) (Put key (literal_of k (kw x)) (literal_of v (vw y)))) (sym told)
        (map-put s key k v q b found-there new writing-there (kw x) (vw y) r (as-value kl x good) (as-value vl y fair)
        (puts-numbers kl vl s.cut new q.handle q.at x y r each))))

    -- the erased pair is the directory's
    pub erased-there : (x : K) (r : Bool) → kp.is_value x ≡ true → ErasesKey kp vp s.cut new q.handle q.at x r
        → Changed (Map k v) o s t new (λ key. Remove key (literal_of k (kw x))) truth_answer (λ why. ⊥)
        (UnchangedWhere t (record s { cut = new }) (LacksPair key (kw x))) (Ok r)
    erased-there x r good each = leaves-bound view bound writing b new (λ key. Remove key (literal_of k (kw x))) refl tt
        (none-erased x r each) (answered s t view b new key (Map k v) _ (Ok r) (map-erased s key k v q b found-there
        new writing-there (kw x) r (as-value kl x good) (erases-numbers kl vl s.cut new q.handle q.at x r each)))
