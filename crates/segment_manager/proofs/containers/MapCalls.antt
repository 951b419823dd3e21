-- The calls on maps of numbers, each as one step: the contracts of seg_map for the map at its place give the next
-- directory.
use Rattle.segment_manager.proofs.Common as common
use Rattle.seg_types.specs.Commands as asked
use Rattle.segment_manager.specs.Step as step
use Rattle.segment_manager.proofs.containers.Changeable as plan
use Rattle.best_fit.specs.declared.places.Place.{Place}
use Rattle.seg_map.proofs.Laws.{replaced_nodes}
use Rattle.segment_manager.proofs.{containers.MapSteps.put-denotes, objects.Stored.list-of, objects.Stored.literal-read}
use Rattle.segment_manager.proofs.containers.ItemSteps.{HoldsAt, holds-at, step_of_kind-reply, told-some}
use Rattle.segment_manager.proofs.containers.MapBlocks.{blocks-in_use, found-key}
use Rattle.segment_manager.proofs.containers.MapSteps.{IsMapObject, again-denotes, erased-denotes, map-only, object-map}
use Rattle.segment_manager.proofs.containers.PairNumbers.{ErasesBy, PutsBy}
use Rattle.segment_manager.proofs.directory.AnyDirectory.{IsMove, IsOpenFor, by_no_change_of_kind, by_step_of_kind}
use Rattle.segment_manager.proofs.directory.AnyDirectory.{denotes-live, open-reading, open-writing, perform-new}
use Rattle.segment_manager.proofs.directory.AnyDirectory.{perform-no_space, step_of_kind-found}
use Rattle.segment_manager.proofs.objects.{Destroys.standing, RankedPairs.key-found}
use Rattle.segment_manager.specs.Answers.{Absent}
use Rattle.segment_manager.specs.containers.{Maps.IsPairs, Walks.pairs_at_kinds, Walks.pairs_of}
use common.{Answer, AnswersQueryOfKind, AnswersSafely, AnswersWith, Bool, Boolean, Command, Denotes, DenotesCurrent}
use common.{Directory, Element, ErasesKey, ErasesPair, Err, Extent, FindsValue, HasPairs, IsSegment, Key, Kind, List}
use common.{Literal, LiveSet, Map, New, NoSpace, Node, None, NumberPair, Object, Ok, Option, OverwritesPair, Pairs}
use common.{Plan, PutsNewPair, PutsNoSpace, PutsPair, Refusal, Refused, Reply, Request, Result, SameSurroundings}
use common.{ScalarKind, SegmentState, Some, TakesStepOfKind, WindowState, [], answer_of_map, ap, changed, code_of}
use common.{cons_values, container_at, container_place, current, effect, eq-eqb, false, int_lt, is_read_only, is_value}
use common.{kind_of, literal_of, live_of, map_of, node_len, nodes_of_pairs, numbers_of, object_at, option_map, pair_at}
use common.{perform, put_pair, refl, remove_pair, same_kind, size_of, step_of_kind, subst, sym, told_of, transitive}
use common.{true, truth_answer, value_of_literal, value_of_pair, value_or_absent, with, ℕ, ℤ, ◌∙◌, ◌≡◌}

-- ---- the search

-- the object of the key is a map of the kinds, at this place
pub record HoldsPairs (b : List ℕ) (d : Directory) (key : Key) (k v : ScalarKind) (p : Place) : Type 0 where
  pub object : Object
  pub is : object_at d key ≡ Some object
  pub pairs : List NumberPair
  pub known : IsMapObject b d object k v pairs
  pub at : container_place object ≡ p
  pub map : IsPairs k v b p pairs

-- the object at the place holds the pairs of a map
pub holds-pairs : (b : List ℕ) (d : Directory) (key : Key) (k v : ScalarKind) (p : Place) → Denotes current b d
    → Ok p ≡ container_at d key (Map k v) → HoldsPairs b d key k v p
holds-pairs b d key k v p den e =
    let h : HoldsAt d key (Map k v) p = holds-at d key (Map k v) p e in let o : Object = h.object in
    let w : (ps : List NumberPair) × (o.value ≡ Pairs k v ps) = map-only k v o.value h.same in
    let known : IsMapObject b d o k v w.0 = record {
      stands = standing b d key o den h.is;
      found = key-found current d key o den.directory h.is;
      value = w.1;
      in_use = blocks-in_use d o den.directory.proper (key-found current d key o den.directory h.is);
    } in
    record {
      object = o;
      is = h.is;
      pairs = w.0;
      known = known;
      at = h.at;
      map = subst (λ (r : Place). IsPairs k v b r w.0) h.at (object-map den known);
    }

-- ---- the results of the plans

module _ {b : List ℕ} {d : Directory} {key : Key} {k v : ScalarKind} {p : Place} (h : HoldsPairs b d key k v p) where
  read : map_of h.object.value ≡ Ok (k, v, h.pairs)
  read = ap map_of h.known.value

  abbrev found_with : Option NumberPair → Plan
  found_with r = elim r as (λ _. Plan) [ None ↦ Reply Absent d | Some p ↦ Reply (Element v p.value) d ]

  lookup-plan : (l : Literal) (x : ℤ) → value_of_literal k l ≡ Ok x
      → effect d (asked.Lookup key l) ≡ found_with (pair_at int_lt h.pairs x)
  lookup-plan l x g =
      plan.lookup-plan d key h.object h.is _ read l ∙ ap (λ r. with r (λ x. found_with (pair_at int_lt h.pairs x))) g

  looked-up : (m : LiveSet) (r : Option NumberPair)
      → perform d m (found_with r) ≡ (value_or_absent v (option_map value_of_pair r), d)
  looked-up m None = refl
  looked-up m (Some p) = refl

  abbrev with_pairs : List NumberPair → Directory
  with_pairs ps = changed d h.object (Pairs k v ps)

  abbrev removed_with : ℤ → Option NumberPair → Plan
  removed_with x r = elim r as (λ _. Plan) [
    | None ↦ Reply (Boolean false) d
    | Some p ↦ Reply (Boolean true) (with_pairs (remove_pair int_lt h.pairs x))
  ]

  remove-plan : (l : Literal) (x : ℤ) → value_of_literal k l ≡ Ok x
      → effect d (asked.Remove key l) ≡ removed_with x (pair_at int_lt h.pairs x)
  remove-plan l x g = plan.remove-plan d key h.object h.is _ read l
      ∙ ap (λ r. with r (λ x. removed_with x (pair_at int_lt h.pairs x))) g

  -- the pairs with a pair
  abbrev with_pair : ℤ → ℤ → Extent → List NumberPair
  with_pair x y n = put_pair int_lt (record { key = x; value = y; node = n }) h.pairs

  abbrev new_with : ℤ → ℤ → Extent → Plan
  new_with x y n = Reply (Boolean true) (with_pairs (with_pair x y n))

  abbrev put_with : ℤ → ℤ → Option NumberPair → Plan
  put_with x y r = elim r as (λ _. Plan) [
    | Some p ↦ Reply (Boolean false) (with_pairs (put_pair int_lt (record p { value = y }) h.pairs))
    | None ↦ Request (New Node (node_len (size_of k) (size_of v))) (new_with x y)
  ]

  put-plan : (l m : Literal) (x y : ℤ) → value_of_literal k l ≡ Ok x → value_of_literal v m ≡ Ok y
      → effect d (asked.Put key l m) ≡ put_with x y (pair_at int_lt h.pairs x)
  put-plan l m x y g f = plan.put-plan d key h.object h.is _ read l m
      ∙ (λ i. with (cons_values (g i) (cons_values (f i) (Ok []))) (λ new. step.put d h.object k v h.pairs new))

-- ---- steps that answer a truth

-- the step of a call, and that it changes nothing where it is refused
abbrev pub TellsSafely : SegmentState → WindowState → Key → Kind → Command → Result Bool Refusal → Type 0
TellsSafely = AnswersSafely truth_answer

-- the result of a put
abbrev pub put_result : {E : Type 0} → Result Bool E → Result Bool Refusal
put_result (Ok t) = Ok t
put_result (Err why) = Err NoSpace

-- ---- the calls

module _ (s : SegmentState) (key : Key) (k v : ScalarKind) (p : Place) (b : IsSegment s.cut.bytes)
    (found : AnswersWith s (λ d. container_at d key (Map k v)) (Ok p)) where
  abbrev Holds : Directory → Type 0
  Holds d = HoldsPairs s.cut.bytes d key k v p

  map_in : (d : Directory) → DenotesCurrent s.cut.bytes d → Holds d
  map_in d l = holds-pairs s.cut.bytes d key k v p l.denotes (found.answers d l)

  -- there is a map at the place
  pub stands-map : HasPairs k v s.cut.bytes p
  stands-map = ((map_in b.0 b.1).pairs, (map_in b.0 b.1).map)

  is-map : {d : Directory} (h : Holds d) → same_kind (Map k v) (kind_of h.object.value) ≡ true
  is-map h =
      eq-eqb (code_of (Map k v)) (code_of (kind_of h.object.value)) (ap (λ w. code_of (kind_of w)) (sym h.known.value))

  -- the result of the step of a call
  abbrev outcome : Command → Directory → Answer × Directory
  outcome c d = step_of_kind s.mode d key (Map k v) c

  -- the command's plan, performed
  map-plan : (c : Command) → IsOpenFor s.mode c → {d : Directory} (l : DenotesCurrent s.cut.bytes d) (h : Holds d)
      → outcome c d ≡ perform d (live_of s.cut.bytes) (effect d c)
  map-plan c w {d} l h = step_of_kind-found s.mode d key (Map k v) c h.object w h.is (is-map h)
      ∙ ap (λ (m : LiveSet). perform d m (effect d c)) (sym (denotes-live current s.cut.bytes d l.denotes))

  -- ---- reads

  -- the value of a key, as numbers, is the directory's
  pub map-got : (x : ℤ) (r : Option ℤ) → is_value k x ≡ true → FindsValue (numbers_of k) (numbers_of v) s.cut.bytes
      p.handle p.at x r → AnswersQueryOfKind s key (Map k v) (asked.Lookup key (literal_of k x)) (value_or_absent v r)
  map-got x r good each = step_of_kind-reply s key (Map k v) _ _
      (by_no_change_of_kind s key (Map k v) _ (value_or_absent v r) (λ d l.
      let h : Holds d = map_in d l in
      map-plan (asked.Lookup key (literal_of k x)) (open-reading s.mode (asked.Lookup key (literal_of k x)) refl) l h
      ∙ ap (perform d (live_of s.cut.bytes)) (lookup-plan h (literal_of k x) x (literal-read k x good))
      ∙ looked-up h (live_of s.cut.bytes) (pair_at int_lt h.pairs x)
      ∙ (λ i. (value_or_absent v (sym (each h.pairs h.map) i), d))))

  -- the pairs that are listed are the map's
  pub map-listed : (d : Directory) → DenotesCurrent s.cut.bytes d → IsPairs k v s.cut.bytes p (pairs_at_kinds d key k v)
  map-listed d l =
      let h : Holds d = map_in d l in
      subst (IsPairs k v s.cut.bytes p) (sym (list-of pairs_of d key (Map k v) h.object true h.is (is-map h)
      ∙ ap pairs_of h.known.value)) h.map

  -- a function of the pairs is a function of the object's pairs
  pub map-told : {A : Type 0} (say : List NumberPair → A) (r : A) → ((ps : List NumberPair) → IsPairs k v s.cut.bytes p
      ps → r ≡ say ps) → AnswersWith s (λ d. answer_of_map d key k v say) (Ok r)
  map-told {A} say r each = record {
    answers = λ d l.
        let h : Holds d = map_in d l in
        ap Ok (each h.pairs h.map) ∙ sym (ap (told_of say) h.known.value)
        ∙ sym (told-some d key (Map k v) (λ o. told_of say o.value) h.object true h.is (is-map h));
  }

  -- ---- changes

  module _ (new : WindowState) (writing : is_read_only s.mode ≡ false) where
    -- the result of the step; the window keeps its place
    abbrev Moved : Command → Bool → Directory → Type 0
    Moved c t d = SameSurroundings s.cut new × IsMove (record s { cut = new }) (Boolean t) (outcome c d)

    -- a call that is done
    does : {c : Command} {t : Bool} → ((d : Directory) (l : DenotesCurrent s.cut.bytes d) → Moved c t d)
        → TellsSafely s new key (Map k v) c (Ok t)
    does {c} {t} at = record {
      step = by_step_of_kind s (record s { cut = new }) key (Map k v) c (Boolean t)
          (record { mode = refl; place = (at b.0 b.1).0 }) (λ d l. (at d l).1);
      refused = tt;
    }

    -- ---- one put

    abbrev Put : ℤ → ℤ → Command
    Put x y = asked.Put key (literal_of k x) (literal_of v y)

    module _ (x y : ℤ) (good : is_value k x ≡ true) (fair : is_value v y ≡ true) {d : Directory}
        (l : DenotesCurrent s.cut.bytes d) (h : Holds d) where
      abbrev PutsHere : {E : Type 0} → Result Bool E → Option NumberPair → Type 0
      PutsHere result o = PutsBy (numbers_of k) (numbers_of v) s.cut new p.handle p.at h.pairs x y result o

      put-outcome : (o : Option NumberPair) → pair_at int_lt h.pairs x ≡ o
          → outcome (Put x y) d ≡ perform d (live_of s.cut.bytes) (put_with h x y o)
      put-outcome o e = map-plan (Put x y) (open-writing s.mode (Put x y) writing) l h
          ∙ ap (perform d (live_of s.cut.bytes)) (put-plan h (literal_of k x) (literal_of v y) x y (literal-read k x
          good) (literal-read v y fair)) ∙ ap (λ r. perform d (live_of s.cut.bytes) (put_with h x y r)) e

      -- the key is new
      put-new : pair_at int_lt h.pairs x ≡ None
          → PutsNewPair (numbers_of k) (numbers_of v) s.cut new p.handle p.at h.pairs x
          y → IsMove (record s { cut = new }) (Boolean true) (outcome (Put x y) d)
      put-new e r =
          let Becomes : Place → Type 0 =
          λ c. (r : PutsNewPair (numbers_of k) (numbers_of v) s.cut new c.handle c.at h.pairs x
          y) → Denotes current new.bytes (with_pairs h (with_pair h x y r.extent)) in
          record {
            after = with_pairs h (with_pair h x y r.extent);
            is = put-outcome None e ∙ perform-new d (live_of s.cut.bytes) Node (node_len (size_of k) (size_of v))
                (new_with h x y) r.extent r.placed;
            stands = record { denotes = subst Becomes h.at (put-denotes s.cut new l.denotes h.known x y e) r };
          }

      -- a pair has the key
      put-again : (q : NumberPair) → pair_at int_lt h.pairs x ≡ Some q
          → OverwritesPair (numbers_of k) (numbers_of v) s.cut
          new p.handle p.at h.pairs q x y → IsMove (record s { cut = new }) (Boolean false) (outcome (Put x y) d)
      put-again q e r =
          let is : q.key ≡ x = found-key x q h.pairs e in
          let same : nodes_of_pairs (with_pair h x y q.node) ≡ nodes_of_pairs h.pairs = replaced_nodes int_lt transitive
          q (record { key = x; value = y; node = q.node }) (sym is) refl h.pairs h.map.rising e in
          record {
            after = with_pairs h (with_pair h x y q.node);
            is = put-outcome (Some q) e ∙ (λ i. (Boolean false, with_pairs h (with_pair h (is i) y q.node)));
            stands = record {
              denotes = again-denotes s.cut new l.denotes h.known x y q
                  (subst (λ (c : Place). OverwritesPair (numbers_of k)
                  (numbers_of v) s.cut new c.handle c.at h.pairs q x y) (sym h.at) r) same;
            };
          }

      -- no gap is long enough for the block of a new one
      put-full : pair_at int_lt h.pairs x ≡ None → PutsNoSpace (numbers_of k) (numbers_of v) s.cut new
          → outcome (Put x y) d ≡ (Refused NoSpace, d)
      put-full e r = put-outcome None e
          ∙ perform-no_space d (live_of s.cut.bytes) Node (node_len (size_of k) (size_of v)) (new_with h x y) r.none

      -- a pair that was new, or was there
      put-moves : (E : Type 0) (t : Bool) (o : Option NumberPair) → pair_at int_lt h.pairs x ≡ o
          → PutsHere (let one : Result Bool E = Ok t in one) o → Moved (Put x y) t d
      put-moves E t None e r = (
        r.1.beside.place,
        subst (λ (t : Bool). IsMove (record s { cut = new }) (Boolean t) (outcome (Put x y) d)) (sym r.0)
            (put-new e r.1),
      )
      put-moves E t (Some q) e r = (
        r.1.beside.place,
        subst (λ (t : Bool). IsMove (record s { cut = new }) (Boolean t) (outcome (Put x y) d))
            (sym (ok_same t false r.0)) (put-again q e r.1),
      )
        where
          ok_same : (t u : Bool) → (let one : Result Bool E = Ok t in one) ≡ Ok u → t ≡ u
          ok_same t u e = cc

      put-refused : {E : Type 0} (why : E) (o : Option NumberPair) → pair_at int_lt h.pairs x ≡ o → PutsHere (Err why) o
          → (new ≡ s.cut) × (outcome (Put x y) d ≡ (Refused NoSpace, d))
      put-refused why None e r = (r.same, put-full e r)
      put-refused why (Some q) e r = let told = r.0 in absurd (cc)

    -- a put pair, as numbers, is the step of the directory
    pub map-put : {E : Type 0} (x y : ℤ) (r : Result Bool E) → is_value k x ≡ true → is_value v y ≡ true
        → PutsPair (numbers_of k) (numbers_of v) s.cut new p.handle p.at x y r
        → TellsSafely s new key (Map k v) (asked.Put key (literal_of k x) (literal_of v y)) (put_result r)
    map-put {E} x y (Ok t) good fair each = does (λ d l. let h : Holds d = map_in d l in put-moves x y good fair l h E t
        (pair_at int_lt h.pairs x) refl (each h.pairs h.map))
    map-put {E} x y (Err why) good fair each =
        let at : (d : Directory) (l : DenotesCurrent s.cut.bytes d)
        → (new ≡ s.cut) × (outcome (Put x y) d ≡ (Refused NoSpace, d)) =
        λ d l. let h : Holds d = map_in d l in put-refused x y good fair l h why (pair_at int_lt h.pairs x) refl
        (each h.pairs h.map) in
        record {
          step = subst (λ (e : WindowState).
              TakesStepOfKind s (record s { cut = e }) key (Map k v) (Put x y) (Refused NoSpace)) (sym (at b.0 b.1).0)
              (by_no_change_of_kind s key (Map k v) (Put x y) (Refused NoSpace) (λ d l. (at d l).1));
          refused = (at b.0 b.1).0;
        }

    -- ---- one erased

    abbrev Remove : ℤ → Command
    Remove x = asked.Remove key (literal_of k x)

    module _ (x : ℤ) (good : is_value k x ≡ true) {d : Directory} (l : DenotesCurrent s.cut.bytes d) (h : Holds d) where
      remove-outcome : (o : Option NumberPair) → pair_at int_lt h.pairs x ≡ o
          → outcome (Remove x) d ≡ perform d (live_of s.cut.bytes) (removed_with h x o)
      remove-outcome o e = map-plan (Remove x) (open-writing s.mode (Remove x) writing) l h
          ∙ ap (perform d (live_of s.cut.bytes)) (remove-plan h (literal_of k x) x (literal-read k x good))
          ∙ ap (λ r. perform d (live_of s.cut.bytes) (removed_with h x r)) e

      erase-moves : (t : Bool) (o : Option NumberPair) → pair_at int_lt h.pairs x ≡ o
          → ErasesBy (numbers_of k) (numbers_of v) s.cut new p.handle p.at h.pairs x t o → Moved (Remove x) t d
      erase-moves t None e r = (
        subst (SameSurroundings s.cut) (sym r.1) (record { before = refl; after = refl }),
        record {
          after = d;
          is = remove-outcome None e ∙ (λ i. (Boolean (sym r.0 i), d));
          stands = subst (λ (c : WindowState). DenotesCurrent c.bytes d) (sym r.1) l;
        },
      )
      erase-moves t (Some q) e r = (
        r.1.beside.place,
        record {
          after = with_pairs h (remove_pair int_lt h.pairs x);
          is = remove-outcome (Some q) e ∙ (λ i. (Boolean (sym r.0 i), with_pairs h (remove_pair int_lt h.pairs x)));
          stands = record {
            denotes = erased-denotes s.cut new l.denotes h.known x q e (subst (λ (c : Place). ErasesPair (numbers_of k)
                (numbers_of v) s.cut new c.handle c.at h.pairs q x) (sym h.at) r.1);
          };
        },
      )

    -- an erased pair, as numbers, is the step of the directory
    pub map-erased : (x : ℤ) (t : Bool) → is_value k x ≡ true
        → ErasesKey (numbers_of k) (numbers_of v) s.cut new p.handle
        p.at x t → TellsSafely s new key (Map k v) (asked.Remove key (literal_of k x)) (Ok t)
    map-erased x t good each = does (λ d l. let h : Holds d = map_in d l in erase-moves x good l h t (pair_at int_lt
        h.pairs x) refl (each h.pairs h.map))
