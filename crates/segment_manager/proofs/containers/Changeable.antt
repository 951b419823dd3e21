-- Objects that a command changes: the facts for a crate that calls by kinds.
use Rattle.seg_types.specs.declared.refusals.Refusal.TheVariants as refusal
use Rattle.segment_manager.proofs.Common as common
use Rattle.seg_types.specs.Commands as asked
use Rattle.segment_manager.specs.Step as step
use Rattle.seg_types.specs.Literals.{ConvertsPair}
use Rattle.segment_manager.proofs.{containers.ItemSteps.told-some, directory.AnyDirectory.with-not_found}
use Rattle.segment_manager.proofs.containers.ItemSteps.{IsOfKindAt, by-kind, kind-told, nowhere-steps, of_kind-same}
use Rattle.segment_manager.proofs.containers.ItemSteps.{of_kind-steps, refused-steps, same_plan-steps, told-none}
use Rattle.segment_manager.proofs.containers.MapSteps.{map-only}
use Rattle.segment_manager.proofs.containers.PairNumbers.{good-value, rising-if, starts, told-of-them}
use Rattle.segment_manager.proofs.directory.AnyDirectory.{open-reading, refuses-read_only, step-effect, with-found}
use Rattle.segment_manager.proofs.objects.{Destroys.standing, Stored.list-of, Stored.literal-read, Stored.none-listed}
use Rattle.segment_manager.proofs.objects.Locating.{kind-by_key, reply_of_kind-by_key, step_of_kind-by_key}
use Rattle.segment_manager.specs.{Answers.Absent, containers.Walks.pairs_at_kinds}
use Rattle.segment_manager.specs.declared.{modes.Mode.TheVariants.ReadOnly, objects.object_ref.Object.Object as Located}
use common.{Answer, AnswersQuery, AnswersQueryOfKind, AnswersWith, Boolean, ByHandle, Command, Denotes, DenotesCurrent}
use common.{Directory, Element, Err, IsChangeable, IsChangeableObject, IsLocated, IsMissing, IsUnchangeable, IsValueOf}
use common.{Key, Kind, List, Literal, Map, MatchResult, Mode, None, NotFound, NumberPair, Object, Ok, Option, Pairs}
use common.{Plan, Refusal, Refuse, Refused, Reply, Result, ScalarKind, ScalarValue, SegmentState, Some, TakesStep}
use common.{TakesStepOfKind, Value, WrongKind, [], answer_of_map, ap, changed, code_of, cons_values, current, effect}
use common.{eq-eqb, false, first_of, found_at, int_lt, is_changing, is_read_only, is_rising, is_value, item_of, kind_at}
use common.{kind_of, kind_of_scalar, literal_of, live, lowest, map_of, object_at, option_map, pair_at, pair_from}
use common.{pair_values, pairs_of, perform, refl, remove_pair, same_kind, step, subst, sym, told_of, true}
use common.{value_of_literal, value_of_scalar, with, ℕ, ℤ, ◌∙◌, ◌∷◌, ◌≡◌}

-- ---- an object that was located

-- the object has the kind of its head
pub says-kind : {s : SegmentState} {key : Key} {o : Located} {kind : Kind} → IsLocated s key o → o.kind ≡ kind
    → AnswersWith s (λ d. kind_at d key) (Ok kind)
says-kind {s} {key} {o} l e = subst (λ k. AnswersWith s (λ d. kind_at d key) (Ok k)) e (kind-by_key s key o l)

module _ {s : SegmentState} {key : Key} {o : Located} (h : IsChangeableObject s key o) {kind : Kind} (e : o.kind
    ≡ kind) where
  -- the object can be changed
  pub to-change : IsChangeable s key kind
  to-change = record { writing = h.writing; is = says-kind h.located e }

-- ---- whether there is an object to change

not-reading : (mode : Mode) → (mode ≡ ReadOnly → ⊥) → is_read_only mode ≡ false
not-reading ReadOnly h = absurd (h refl)
not-reading mode h = refl

-- the segment is open for reading
pub reading-unchangeable : (s : SegmentState) (key : Key) → s.mode ≡ ReadOnly → IsUnchangeable s key refusal.ReadOnly
reading-unchangeable s key e = record { refuses = λ c changes none. refuses-read_only s c (ap is_read_only e) changes }

-- or the object of the key decides
pub changeable : (s : SegmentState) (key : Key) (r : Result Located Refusal) → (s.mode ≡ ReadOnly → ⊥)
    → MatchResult r (IsLocated s key) (IsMissing s key)
    → MatchResult r (IsChangeableObject s key) (IsUnchangeable s key)
changeable s key (Ok o) writing l = record { writing = not-reading s.mode writing; located = l }
changeable s key (Err why) writing m = record
    { refuses = λ c changes none. nowhere-steps s key why c (not-reading s.mode writing) m none }

-- ---- commands by their plans

-- a plan that ends with an error
pub refuses : (s : SegmentState) (c : Command) (why : Refusal) → is_read_only s.mode ≡ false
    → ((d : Directory) → DenotesCurrent s.cut.bytes d → effect d c ≡ Refuse why) → TakesStep s s c (Refused why)
refuses s c why writing each = refused-steps s c why writing (λ d st. ap (perform d (live d)) (each d st))

-- a command that changes nothing has the answer of its plan, in each mode
pub answered-reads : (mode : Mode) (d : Directory) (c : Command) → is_changing c ≡ false
    → (step mode d c).0 ≡ (perform d (live d) (effect d c)).0
answered-reads mode d c e = ap (λ (r : Answer × Directory). r.0) (step-effect mode d c (open-reading mode c e))

-- a command that only reads refuses and changes nothing
pub refuses-read : (s : SegmentState) (c : Command) (why : Refusal) → is_changing c ≡ false
    → ((d : Directory) → DenotesCurrent s.cut.bytes d → effect d c ≡ Refuse why) → AnswersQuery s c (Refused why)
refuses-read s c why e each = record
    { answers = λ d st. sym (answered-reads s.mode d c e ∙ ap (λ (p : Plan). (perform d (live d) p).0) (each d st)) }

-- Commands on the pairs of a map by literals: which call is the step of the command, by the kind of the object.

-- ---- the plans

abbrev pub puts : Directory → Object → Literal → Literal → ScalarKind × ScalarKind × List NumberPair → Plan
puts d o l m (k, v, ps) = with (pair_values k v l m) (λ new. step.put d o k v ps new)

abbrev pub found_with : Directory → ScalarKind → Option NumberPair → Plan
found_with d v r = elim r as (λ _. Plan) [ None ↦ Reply Absent d | Some p ↦ Reply (Element v p.value) d ]

abbrev pub looks_up : Directory → Literal → ScalarKind × ScalarKind × List NumberPair → Plan
looks_up d l (k, v, ps) = with (value_of_literal k l)
    (λ x. elim (pair_at int_lt ps x) [ None ↦ Reply Absent d | Some p ↦ Reply (Element v p.value) d ])

abbrev pub removes_at : Directory → Object → ScalarKind → ScalarKind → List NumberPair → ℤ → Plan
removes_at d o k v ps x =
    elim (pair_at int_lt ps x) as (λ _. Plan) [
      | None ↦ Reply (Boolean false) d
      | Some p ↦ Reply (Boolean true) (changed d o (Pairs k v (remove_pair int_lt ps x)))
    ]

abbrev pub removes : Directory → Object → Literal → ScalarKind × ScalarKind × List NumberPair → Plan
removes d o l (k, v, ps) = with (value_of_literal k l) (removes_at d o k v ps)

module _ (d : Directory) (key : Key) (o : Object) (e : object_at d key ≡ Some o)
    (r : Result (ScalarKind × ScalarKind × List NumberPair) Refusal) (f : map_of o.value ≡ r) where
  by-map : (next : Object → ScalarKind × ScalarKind × List NumberPair → Plan)
      → with (found_at d key) (λ o. with (map_of o.value) (next o)) ≡ with r (next o)
  by-map next = with-found d key o (λ o. with (map_of o.value) (next o)) e ∙ ap (λ q. with q (next o)) f

  -- the plan of `put`, by both values
  pub put-plan : (l m : Literal) → effect d (asked.Put key l m) ≡ with r (puts d o l m)
  put-plan l m = by-map (λ o. puts d o l m)

  -- the plan of `lookup`, by the value of the key
  pub lookup-plan : (l : Literal) → effect d (asked.Lookup key l) ≡ with r (looks_up d l)
  lookup-plan l = by-map (λ o. looks_up d l)

  -- the plan of `remove`, by the value of the key
  pub remove-plan : (l : Literal) → effect d (asked.Remove key l) ≡ with r (removes d o l)
  remove-plan l = by-map (λ o. removes d o l)

-- ---- the object of the key, of a kind

no_map-if : (w : Value) → ((k v : ScalarKind) → kind_of w ≡ Map k v → ⊥) → map_of w ≡ Err WrongKind
no_map-if (Pairs k v ps) n = absurd (n k v refl)
no_map-if w n = refl

-- ---- it is no map

module _ {s : SegmentState} {key : Key} {o : Located} (l : IsLocated s key o)
    (other : (k v : ScalarKind) → o.kind ≡ Map k v → ⊥) where
  told : (d : Directory) → DenotesCurrent s.cut.bytes d → IsOfKindAt d key o.kind
  told d st = kind-told d key o.kind ((kind-by_key s key o l).answers d st)

  none : (d : Directory) (st : DenotesCurrent s.cut.bytes d) → map_of (told d st).object.value ≡ Err WrongKind
  none d st = no_map-if (told d st).object.value (λ k v e. other k v (sym (told d st).kind_is ∙ e))

  -- `lookup` in an object that is no map is refused
  pub lookup-no_map : (at : Literal) → AnswersQuery s (asked.Lookup key at) (Refused WrongKind)
  lookup-no_map at = refuses-read s (asked.Lookup key at) WrongKind refl
      (λ d st. lookup-plan d key (told d st).object (told d st).is (Err WrongKind) (none d st) at)

module _ {s : SegmentState} {key : Key} {o : Located} (h : IsChangeableObject s key o)
    (other : (k v : ScalarKind) → o.kind ≡ Map k v → ⊥) where
  -- `put` into an object that is no map is refused
  pub put-no_map : (at value : Literal) → TakesStep s s (asked.Put key at value) (Refused WrongKind)
  put-no_map at value = refuses s (asked.Put key at value) WrongKind h.writing (λ d st. let f = told h.located other d
      st in put-plan d key f.object f.is (Err WrongKind) (none h.located other d st) at value)

  -- `remove` from an object that is no map is refused
  pub remove-no_map : (at : Literal) → TakesStep s s (asked.Remove key at) (Refused WrongKind)
  remove-no_map at = refuses s (asked.Remove key at) WrongKind h.writing (λ d st. let f = told h.located other d st
      in remove-plan d key f.object f.is (Err WrongKind) (none h.located other d st) at)

-- ---- it is a map

record IsMapAt (d : Directory) (key : Key) (k v : ScalarKind) : Type 0 where
  object : Object
  is : object_at d key ≡ Some object
  pairs : List NumberPair
  value : object.value ≡ Pairs k v pairs

module _ {d : Directory} {key : Key} {k v : ScalarKind} (m : IsMapAt d key k v) where
  put-of : (l n : Literal) → effect d (asked.Put key l n) ≡ puts d m.object l n (k, v, m.pairs)
  put-of l n = put-plan d key m.object m.is _ (ap map_of m.value) l n

  lookup-of : (l : Literal) → effect d (asked.Lookup key l) ≡ looks_up d l (k, v, m.pairs)
  lookup-of l = lookup-plan d key m.object m.is _ (ap map_of m.value) l

  remove-of : (l : Literal) → effect d (asked.Remove key l) ≡ removes d m.object l (k, v, m.pairs)
  remove-of l = remove-plan d key m.object m.is _ (ap map_of m.value) l

  -- the effect on literals that have the kinds, and on others
  abbrev puts_read : Result (List ℤ) Refusal → Plan
  puts_read q = with q (λ new. step.put d m.object k v m.pairs new)

  abbrev looks_up_read : Result ℤ Refusal → Plan
  looks_up_read q = with q (λ x. found_with d v (pair_at int_lt m.pairs x))

  abbrev removes_read : Result ℤ Refusal → Plan
  removes_read q = with q (removes_at d m.object k v m.pairs)

module _ (s : SegmentState) (key : Key) (k v : ScalarKind) (a : AnswersWith s (λ d. kind_at d key) (Ok (Map k v))) where
  map-at : (d : Directory) → DenotesCurrent s.cut.bytes d → IsMapAt d key k v
  map-at d st =
      let f : IsOfKindAt d key (Map k v) = kind-told d key (Map k v) (a.answers d st) in
      let m = map-only k v f.object.value
      (eq-eqb (code_of (Map k v)) (code_of (kind_of f.object.value)) (ap code_of (sym f.kind_is))) in
      record { object = f.object; is = f.is; pairs = m.0; value = m.1 }

  -- literals that are read as values are as good as the values' own
  put-read : (new : SegmentState) (l m : Literal) (x y : ℤ) (answer : Answer) → pair_values k v l m ≡ Ok (x ∷ y ∷ [])
      → is_value k x ≡ true → is_value v y ≡ true → TakesStepOfKind s new key (Map k v) (asked.Put key (literal_of k x)
      (literal_of v y)) answer → TakesStep s new (asked.Put key l m) answer
  put-read new l m x y answer e good fair r =
      let own : pair_values k v (literal_of k x) (literal_of v y) ≡ Ok (x ∷ y ∷ []) =
      λ i. cons_values (literal-read k x good i) (cons_values (literal-read v y fair i) (Ok [])) in
      same_plan-steps s new (asked.Put key l m) (asked.Put key (literal_of k x) (literal_of v y)) answer refl
      (λ d st. put-of (map-at d st) l m ∙ ap (puts_read (map-at d st)) (e ∙ sym own)
      ∙ sym (put-of (map-at d st) (literal_of k x) (literal_of v y)))
      (of_kind-steps s new key (Map k v) (asked.Put key (literal_of k x) (literal_of v y)) answer a r)

  remove-read : (new : SegmentState) (l : Literal) (x : ℤ) (answer : Answer) → value_of_literal k l ≡ Ok x
      → is_value k x ≡ true → TakesStepOfKind s new key (Map k v) (asked.Remove key (literal_of k x)) answer
      → TakesStep s new (asked.Remove key l) answer
  remove-read new l x answer e good r = same_plan-steps s new (asked.Remove key l) (asked.Remove key (literal_of k x))
      answer refl (λ d st. remove-of (map-at d st) l ∙ ap (removes_read (map-at d st)) (e ∙ sym (literal-read k x good))
      ∙ sym (remove-of (map-at d st) (literal_of k x)))
      (of_kind-steps s new key (Map k v) (asked.Remove key (literal_of k x)) answer a r)

  lookup-read : (l : Literal) (x : ℤ) (answer : Answer) → value_of_literal k l ≡ Ok x → is_value k x ≡ true
      → AnswersQueryOfKind s key (Map k v) (asked.Lookup key (literal_of k x)) answer
      → AnswersQuery s (asked.Lookup key l) answer
  lookup-read l x answer e good r = record {
    answers = λ d st. r.answers d st ∙ ap (λ (q : Answer × Directory). q.0) (of_kind-same s.mode d key (Map k v)
        (asked.Lookup key (literal_of k x)) (kind-told d key (Map k v) (a.answers d st))) ∙ answered-reads s.mode d
        (asked.Lookup key (literal_of k x)) refl ∙ ap (λ (p : Plan). (perform d (live d) p).0) (lookup-of (map-at d st)
        (literal_of k x) ∙ ap (looks_up_read (map-at d st)) (literal-read k x good ∙ sym e) ∙ sym (lookup-of (map-at d
        st) l)) ∙ sym (answered-reads s.mode d (asked.Lookup key l) refl);
  }

-- ---- as the calls

module _ {s : SegmentState} {key : Key} {o : Located} (h : IsChangeableObject s key o) {k v : ScalarKind}
    (is : o.kind ≡ Map k v) where
  there : (d : Directory) → DenotesCurrent s.cut.bytes d → IsMapAt d key k v
  there d st = map-at s key k v (says-kind h.located is) d st

  -- a pair of the map's kinds
  pub puts-pair : {new : SegmentState} (at value : Literal) (p : ScalarValue × ScalarValue) {answer : Answer}
      → ConvertsPair k v (pair_values k v at value) (Ok p)
      → TakesStepOfKind s new (ByHandle o.handle) (Map (kind_of_scalar p.0)
      (kind_of_scalar p.1)) (asked.Put (ByHandle o.handle) (literal_of (kind_of_scalar p.0) (value_of_scalar p.0))
      (literal_of (kind_of_scalar p.1) (value_of_scalar p.1))) answer → TakesStep s new (asked.Put key at value) answer
  puts-pair {new} at value (x, y) {answer} ((same, good), (other, fair), read) r =
      let Puts : ScalarKind → ScalarKind → Type 0 = λ i j. TakesStepOfKind s new (ByHandle o.handle) (Map i j)
      (asked.Put (ByHandle o.handle) (literal_of i (value_of_scalar x)) (literal_of j (value_of_scalar y))) answer in
      put-read s key k v (says-kind h.located is) new at value (value_of_scalar x)
      (value_of_scalar y) answer read good fair (step_of_kind-by_key s key o h.located new (Map k v)
      (asked.Put key (literal_of k (value_of_scalar x)) (literal_of v (value_of_scalar y))) answer
      (subst (Puts k) other (subst (λ j. Puts j (kind_of_scalar y)) same r)))

  -- `put` with a literal that is no value is refused
  pub put-no_pair : (at value : Literal) {why : Refusal} → pair_values k v at value ≡ Err why
      → TakesStep s s (asked.Put key at value) (Refused why)
  put-no_pair at value {why} e = refuses s (asked.Put key at value) why h.writing
      (λ d st. put-of (there d st) at value ∙ ap (puts_read (there d st)) e)

  -- a key of its kind
  pub removes-key : {new : SegmentState} (at : Literal) (x : ScalarValue) {answer : Answer}
      → IsValueOf k (value_of_literal k at) (Ok x)
      → TakesStepOfKind s new (ByHandle o.handle) (Map (kind_of_scalar x) v) (asked.Remove (ByHandle o.handle)
      (literal_of (kind_of_scalar x) (value_of_scalar x))) answer → TakesStep s new (asked.Remove key at) answer
  removes-key {new} at x {answer} (same, read, good) r = remove-read s key k v (says-kind h.located is) new at
      (value_of_scalar x) answer read good (step_of_kind-by_key s key o h.located new (Map k v) (asked.Remove key
      (literal_of k (value_of_scalar x))) answer (subst (λ j. TakesStepOfKind s new (ByHandle o.handle) (Map j v)
      (asked.Remove (ByHandle o.handle) (literal_of j (value_of_scalar x))) answer) same r))

  -- `remove` with a literal that is no value is refused
  pub remove-no_value : (at : Literal) {why : Refusal} → value_of_literal k at ≡ Err why
      → TakesStep s s (asked.Remove key at) (Refused why)
  remove-no_value at {why} e = refuses s (asked.Remove key at) why h.writing
      (λ d st. remove-of (there d st) at ∙ ap (removes_read (there d st)) e)

module _ {s : SegmentState} {key : Key} {o : Located} (l : IsLocated s key o) {k v : ScalarKind} (is : o.kind
    ≡ Map k v) where
  -- a lookup by the value of the key is that of its literal
  pub looks-up-key : (at : Literal) (x : ScalarValue) {answer : Answer} → IsValueOf k (value_of_literal k at) (Ok x)
      → AnswersQueryOfKind s (ByHandle o.handle) (Map (kind_of_scalar x) v) (asked.Lookup (ByHandle o.handle)
      (literal_of (kind_of_scalar x) (value_of_scalar x))) answer → AnswersQuery s (asked.Lookup key at) answer
  looks-up-key at x {answer} (same, read, good) r = lookup-read s key k v (says-kind l is) at (value_of_scalar x) answer
      read good (reply_of_kind-by_key s key o l (Map k v) (asked.Lookup key (literal_of k (value_of_scalar x))) answer
      (subst (λ j. AnswersQueryOfKind s (ByHandle o.handle) (Map j v)
      (asked.Lookup (ByHandle o.handle) (literal_of j (value_of_scalar x))) answer) same r))

  -- `lookup` with a literal that is no value is refused
  pub lookup-no_value : (at : Literal) {why : Refusal} → value_of_literal k at ≡ Err why
      → AnswersQuery s (asked.Lookup key at) (Refused why)
  lookup-no_value at {why} e = refuses-read s (asked.Lookup key at) why refl
      (λ d st. let m = map-at s key k v (says-kind l is) d st in lookup-of m at ∙ ap (looks_up_read m) e)

-- there is no object with the key that can be changed
module _ {s : SegmentState} {key : Key} {why : Refusal} (h : IsUnchangeable s key why) where
  -- `put` into an object that cannot be changed fails
  pub put-unchangeable : (at value : Literal) → TakesStep s s (asked.Put key at value) (Refused why)
  put-unchangeable at value = h.refuses (asked.Put key at value) refl
      (λ d n. with-not_found d key (λ o. with (map_of o.value) (puts d o at value)) n)

  -- `remove` from an object that cannot be changed fails
  pub remove-unchangeable : (at : Literal) → TakesStep s s (asked.Remove key at) (Refused why)
  remove-unchangeable at =
      h.refuses (asked.Remove key at) refl (λ d n. with-not_found d key (λ o. with (map_of o.value) (removes d o at)) n)

-- no object has the key
pub lookup-nowhere : {s : SegmentState} {key : Key} (at : Literal) {why : Refusal} → IsMissing s key why
    → AnswersQuery s (asked.Lookup key at) (Refused why)
lookup-nowhere {s} {key} at {why} m = refuses-read s (asked.Lookup key at) why refl
    (λ d st. with-not_found d key (λ o. with (map_of o.value) (looks_up d at)) (m.missing d st) ∙ ap Refuse (sym m.is))

-- The pairs of a key's map of kinds: functions of them, and the order of their map keys.

refused-told : {A : Type 0} (P : A → Type 0) (Q : Type 0) (r : Result A Refusal) (why : Refusal) → r ≡ Err why → Q
    → MatchResult r P (λ _. Q)
refused-told P Q (Ok a) why e q = absurd (cc)
refused-told P Q (Err w) why e q = q

answered-told : {A : Type 0} (P : A → Type 0) (Q : Type 0) (r : Result A Refusal) (a : A) → r ≡ Ok a → P a
    → MatchResult r P (λ _. Q)
answered-told P Q (Ok b) a e p = let same : a ≡ b = cc in subst P same p
answered-told P Q (Err w) a e p = absurd (cc)

module _ (d : Directory) (key : Key) (k v : ScalarKind) where
  -- the pairs that are listed, of an object of the kind and of any other
  abbrev listed : List NumberPair
  listed = pairs_at_kinds d key k v

  none-of : object_at d key ≡ None → listed ≡ []
  none-of e = none-listed pairs_of d key (Map k v) e

  other-of : (o : Object) → object_at d key ≡ Some o → same_kind (Map k v) (kind_of o.value) ≡ false → listed ≡ []
  other-of o e g = list-of pairs_of d key (Map k v) o false e g

  those-of : (o : Object) → object_at d key ≡ Some o → same_kind (Map k v) (kind_of o.value) ≡ true
      → listed ≡ pairs_of o.value
  those-of o e g = list-of pairs_of d key (Map k v) o true e g

  -- ---- a function of the map is a function of its pairs; if it fails there are none

  -- a function of a map is a function of its pairs
  pub map-told : {A : Type 0} (say : List NumberPair → A) (r : Result A Refusal) → r ≡ answer_of_map d key k v say
      → MatchResult r (λ a. a ≡ say (pairs_at_kinds d key k v)) (λ why. pairs_at_kinds d key k v ≡ [])
  map-told say r f = by-kind d key (Map k v) (λ e. refused-told (λ a. a ≡ say listed) (listed ≡ []) r NotFound
      (f ∙ told-none d key (Map k v) (λ o. told_of say o.value) e) (none-of e)) (λ o e g.
      refused-told (λ a. a ≡ say listed) (listed ≡ []) r WrongKind
      (f ∙ told-some d key (Map k v) (λ o. told_of say o.value) o false e g) (other-of o e g)) (λ o e g.
      let is = map-only k v o.value g in
      answered-told (λ a. a ≡ say listed) (listed ≡ []) r (say is.0) (f ∙ told-some d key (Map k v) (λ o. told_of say
      o.value) o true e g ∙ ap (told_of say) is.1) (ap say (sym (those-of o e g ∙ ap pairs_of is.1))))

  -- ---- the map keys rise, and the first pair is the first from the least key of the kind on

  module _ (b : List ℕ) (den : Denotes current b d) where
    -- the keys of a map rise
    pub map-rises : is_rising int_lt (pairs_at_kinds d key k v) ≡ true
    map-rises = by-kind d key (Map k v) (λ e. ap (is_rising int_lt) (none-of e))
        (λ o e g. ap (is_rising int_lt) (other-of o e g)) (λ o e g. ap (is_rising int_lt) (those-of o e g)
        ∙ rising-if o.value (good-value o (standing b d key o den e).good))

    abbrev from_least : List NumberPair → Option (ℤ × ℤ)
    from_least ps = pair_from (lowest k) ps

    abbrev the_first : List NumberPair → Option (ℤ × ℤ)
    the_first ps = option_map item_of (first_of ps)

    -- the pair from the least key on is the first
    pub map-least : answer_of_map d key k v (pair_from (lowest k))
        ≡ answer_of_map d key k v (λ ps. option_map item_of (first_of ps))
    map-least = by-kind d key (Map k v) (λ e. told-none d key (Map k v) (λ o. told_of from_least o.value) e
        ∙ sym (told-none d key (Map k v) (λ o. told_of the_first o.value) e)) (λ o e g.
        told-some d key (Map k v) (λ o. told_of from_least o.value) o false e g
        ∙ sym (told-some d key (Map k v) (λ o. told_of the_first o.value) o false e g)) (λ o e g.
        let here : IsOfKindAt d key (Map k v) =
        record { object = o; is = e; kind_is = ap kind_of (map-only k v o.value g).1 } in
        told-of-them d key k v here from_least ∙ ap (λ (a : Option (ℤ × ℤ)). let r : Result (Option (ℤ × ℤ)) Refusal =
        Ok a in r) (starts d key k v here b den) ∙ sym (told-of-them d key k v here the_first))
