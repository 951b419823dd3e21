-- The bytes of elements of an array that are written: no other byte changes.
use Rattle.std.proofs.Common.{◌≡◌, sym, ap, subst, ◌∙◌, ℕ, false}
use Rattle.std.proofs.Common.{inl, inr, Result, Ok, Err}
use Rattle.std.specs.Prelude.{OnOk}
use Rattle.std.proofs.lemmas.Bool.{cases_Bool, false_from_ne_true}
use Rattle.seg_types.specs.{declared.kinds.Kind.Kind, declared.kinds.Kind.TheVariants.Scalar, Kinds.same_kind}
use Rattle.seg_types.specs.{declared.kinds.ScalarKind.ScalarKind, declared.refusals.Refusal.Refusal}
use Rattle.seg_types.specs.{Names.Key, Names.ByHandle}
use Rattle.segment_manager.specs.Directory.{Directory, kind_of}
use Rattle.segment_manager.specs.{declared.objects.object_ref.Object.Object as Located, Keeping.ChangesElement}
use Rattle.segment_manager.specs.objects.{Located.IsLocated, Standing.offset_in, Standing.place_at}
use Rattle.segment_manager.specs.State.{SegmentState, DenotesCurrent}
use Rattle.segment_manager.proofs.Laws.{said-at, same-object}
use Rattle.segment_values.proofs.elements.InPlace.{one-kind}

-- a property of a success implies another
on_ok-map : {P Q : Type 0} (r : Result (Unit {0}) Refusal) → (P → Q) → OnOk r P → OnOk r Q
on_ok-map (Ok a) f p = f p
on_ok-map (Err why) f p = tt

-- a kind of objects that are no arrays
no_array : (k : ScalarKind) (n : Kind) → ((j : ScalarKind) → n ≡ Scalar j → ⊥) → same_kind (Scalar k) n ≡ false
no_array k n other =
    false_from_ne_true (same_kind (Scalar k) n) (λ own. other k (sym (one-kind (Scalar k) n own)))

module _ (s t : SegmentState) (key : Key) (o : Located) (l : IsLocated s key o) where
  -- the object of the key has this kind
  kind-said : (d : Directory) (st : DenotesCurrent s.cut.bytes d) {n : Kind} → o.kind ≡ n
      → kind_of (said-at s key o l d st).object.value ≡ n
  kind-said d st is = ap (λ (q : Located). q.kind) (sym (said-at s key o l d st).said) ∙ is

  -- an element of an object that is no array is changed
  pub element-elsewhere : {n : Kind} → o.kind ≡ n → ((j : ScalarKind) → n ≡ Scalar j → ⊥) → (i : ℕ)
      (r : Result (Unit {0}) Refusal) → OnOk r ((k : ScalarKind) → ChangesElement s t key k i)
  element-elsewhere {n} is other i (Ok u) = λ k d st.
      let own = kind-said d st is in let none = no_array k n other in
      rw ((said-at s key o l d st).is, place_at, offset_in, own, none) tt
  element-elsewhere is other i (Err why) = tt

  -- an element of an array is changed: none of another kind is there
  pub element-told : (j : ScalarKind) → o.kind ≡ Scalar j → (i : ℕ) (r : Result (Unit {0}) Refusal)
      → OnOk r (ChangesElement s t (ByHandle o.handle) j i) → OnOk r ((k : ScalarKind) → ChangesElement s t key k i)
  element-told j is i r m = on_ok-map r (λ e k. elim (cases_Bool (same_kind (Scalar k) (Scalar j))) [
    | inl own ↦
        let kinds = one-kind (Scalar k) (Scalar j) own in let same : j ≡ k = cc in
        let by_key : ChangesElement s t key j i = λ d st. rw (same-object s key o l d st, place_at) (e d st) in
        subst (λ (x : ScalarKind). ChangesElement s t key x i) same by_key
    | inr none ↦ (λ d st. let own = kind-said d st is in
        rw ((said-at s key o l d st).is, place_at, offset_in, own, none) tt)
  ]) m
