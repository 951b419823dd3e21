-- The map of a key, and the next pair of it: what the directory says by the kind of the object.
use Rattle.std.proofs.Common.{◌≡◌, ◌∙◌, refl, sym, ap, subst, ℕ, ℤ, List, Option, None, Some, Result, Ok, Err}
use Rattle.std.proofs.{Common.[], Common.Bool, lemmas.Bool.eq-eqb}
use Rattle.std.specs.Prelude.{if◌then◌else◌}
use Rattle.seg_types.specs.declared.kinds.Kind.TheVariants.{Map, Scalar, String, Strings, Vector}
use Rattle.seg_types.specs.declared.refusals.Refusal.TheVariants.{NotFound, WrongKind}
use Rattle.seg_types.specs.{declared.kinds.ScalarKind.ScalarKind, Kinds.code_of, Kinds.same_kind}
use Rattle.seg_types.specs.{Commands.Literal, Commands.value_of_literal, declared.refusals.Refusal.Refusal, Names.Key}
use Rattle.seg_types.specs.declared.kinds.Kind.{Kind}
use Rattle.seg_map.specs.Numbers.{NumberPair}
use Rattle.segment_manager.specs.Directory.{Directory, Object, kind_of, object_at}
use Rattle.segment_manager.specs.containers.Walks.{KindedPair, pairs_at, pairs_at_kinds, pairs_of}
use Rattle.segment_manager.specs.containers.Maps.{answer_of_map, pair_above}
use Rattle.segment_manager.specs.State.{AnswersWith, DenotesCurrent, SegmentState}
use Rattle.segment_manager.specs.{declared.objects.object_ref.Object.Object as Located, objects.Instances.IsMissing}
use Rattle.segment_manager.specs.{objects.BoundObjects.key_of, objects.Located.IsLocated}
use Rattle.segment_manager.proofs.Laws.{kind-by_key, map-told, same-object}
use Rattle.segment_c.specs.Reads.{TellsPair, above_in, by_kinds, item_in, map_kinds, map_kinds_at, next_at, next_in}
use Rattle.segment_c.specs.declared.values.CScalar.{CScalar}

abbrev Kinds : Type 0
Kinds = Result (ScalarKind × ScalarKind) Refusal

abbrev kinds_told : Result Kind Refusal → Kinds
kinds_told r = elim r as (λ _. Kinds) [ Err why ↦ Err why | Ok kind ↦ map_kinds kind ]

abbrev kind_in : Option Object → Result Kind Refusal
kind_in r = elim r as (λ _. Result Kind Refusal) [ None ↦ Err NotFound | Some o ↦ Ok (kind_of o.value) ]

no-kinds : (kind : Kind) → ((k v : ScalarKind) → kind ≡ Map k v → ⊥) → map_kinds kind ≡ Err WrongKind
no-kinds (Map k v) n = absurd (n k v refl)
no-kinds (Scalar k) n = refl
no-kinds (Vector k) n = refl
no-kinds String n = refl
no-kinds Strings n = refl

abbrev Pair : Type 0
Pair = Result (Option KindedPair) Refusal

abbrev pairs_in : Option Object → List NumberPair
pairs_in r = elim r as (λ _. List NumberPair) [ None ↦ [] | Some o ↦ pairs_of o.value ]

module _ (s : SegmentState) (key : Key) where
  -- no object has the key
  pub kinds-missing : (why : Refusal) → IsMissing s key why → AnswersWith s (λ d. map_kinds_at d key) (Err why)
  kinds-missing why m = record {
    answers = λ d st. ap (λ (w : Refusal). let r : Kinds = Err w in r) m.is
        ∙ ap (λ (r : Option Object). kinds_told (kind_in r)) (sym (m.missing d st));
  }

  -- the object is located
  module _ (o : Located) (l : IsLocated s key o) where
    -- it is no map
    pub kinds-no_map : ((k v : ScalarKind) → o.kind ≡ Map k v → ⊥)
        → AnswersWith s (λ d. map_kinds_at d key) (Err WrongKind)
    kinds-no_map n = record {
      answers = λ d st. sym (no-kinds o.kind n) ∙ ap kinds_told ((kind-by_key s key o l).answers d st);
    }

    -- it is a map
    pub kinds-map : (k v : ScalarKind) → o.kind ≡ Map k v → AnswersWith s (λ d. map_kinds_at d key) (Ok (k, v))
    kinds-map k v e = record {
      answers = λ d st. ap map_kinds (sym e) ∙ ap kinds_told ((kind-by_key s key o l).answers d st);
    }

    -- it has the same pairs by its handle, of whatever kinds
    pub all-pairs : (d : Directory) → DenotesCurrent s.cut.bytes d → pairs_at d (key_of o) ≡ pairs_at d key
    all-pairs d st = ap pairs_in (sym (same-object s key o l d st))

    -- it has the same pairs by its handle
    pub same-pairs : (k v : ScalarKind) (d : Directory) → DenotesCurrent s.cut.bytes d
        → pairs_at_kinds d (key_of o) k v ≡ pairs_at_kinds d key k v
    same-pairs k v d st = ap (λ (r : Option Object). elim r as (λ _. List NumberPair) [
      | None ↦ []
      | Some q ↦ if same_kind (Map k v) (kind_of q.value) then pairs_of q.value else []
    ]) (sym (same-object s key o l d st))

  -- results that depend on the kinds of a key's map
  module _ {A : Type 0} (P : Result A Refusal → Type 0)
      (say : Directory → ScalarKind → ScalarKind → Result A Refusal) where
    -- the key has no map
    pub told-refused : (why : Refusal) → AnswersWith s (λ d. map_kinds_at d key) (Err why) → P (Err why)
        → (d : Directory) → DenotesCurrent s.cut.bytes d → P (by_kinds (say d) (map_kinds_at d key))
    told-refused why a p d st = subst P (ap (by_kinds (say d)) (a.answers d st)) p

    -- the key's map has these kinds
    pub told-map : (k v : ScalarKind) → AnswersWith s (λ d. map_kinds_at d key) (Ok (k, v)) → (d : Directory)
        → DenotesCurrent s.cut.bytes d → P (say d k v) → P (by_kinds (say d) (map_kinds_at d key))
    told-map k v a d st p = subst P (ap (by_kinds (say d)) (a.answers d st)) p

-- ---- the pair above a number, of a map of two kinds

-- the pairs of kinds are all pairs of a map of these kinds
own-pairs : (k v : ScalarKind) (r : Option Object) → Ok (Map k v) ≡ kind_in r → (elim r as (λ _. List NumberPair) [
  | None ↦ []
  | Some q ↦ if same_kind (Map k v) (kind_of q.value) then pairs_of q.value else []
]) ≡ pairs_in r
own-pairs k v None e = refl
own-pairs k v (Some q) e =
    let same : Map k v ≡ kind_of q.value = cc in
    ap (λ (b : Bool). if b then pairs_of q.value else [])
    (eq-eqb (code_of (Map k v)) (code_of (kind_of q.value)) (ap code_of same))

module _ (s : SegmentState) (key : Key) (at value : CScalar) where
  -- the pair that a located map of two kinds answers is told
  pub next-of_kinds : {o : Located} → IsLocated s key o → (k v : ScalarKind) → o.kind ≡ Map k v → (l : Literal) (z : ℤ)
      → value_of_literal k l ≡ Ok z → (p : Option (ℤ × ℤ))
      → AnswersWith s (λ d. answer_of_map d (key_of o) k v (pair_above z)) (Ok p) → (code : ℕ)
      → TellsPair at value code (Ok (item_in k v p)) → (d : Directory) → DenotesCurrent s.cut.bytes d
      → TellsPair at value code (next_at d key l)
  next-of_kinds {o} there k v kind l z e p a code told d st =
      let tells = TellsPair at value code in
      let its = kinds-map s key o there k v kind in
      let pairs = same-pairs s key o there k v d st
      ∙ own-pairs k v (object_at d key) (subst (λ (q : Kind). Ok q ≡ kind_in (object_at d key)) kind
      ((kind-by_key s key o there).answers d st)) in
      told-map s key tells (λ d. next_in (pairs_at d key) l) k v its d st
      (subst tells (ap (λ (q : Option (ℤ × ℤ)). let r : Pair = Ok (item_in k v q) in r)
      (map-told d (key_of o) k v (pair_above z) (Ok p) (a.answers d st) ∙ ap (pair_above z) pairs)
      ∙ ap (above_in (pairs_at d key) k v) (sym e)) told)
