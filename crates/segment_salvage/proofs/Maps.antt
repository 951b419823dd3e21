-- A step that puts a pair into a map, and one that destroys an object: all objects stand in the image as before.
use Rattle.seg_types.specs.Commands as asked
use Rattle.seg_types.specs.declared.kinds.Kind.TheVariants as kinds
use Rattle.std.proofs.Common.{◌≡◌, ℕ, ◌+◌, length, ◌==◌, ℤ, Bool, true, false, ◌&&◌, ◌||◌, not, List, [], ◌∷◌, map}
use Rattle.std.proofs.Common.{Option, Some, None, Result}
use Rattle.std.proofs.Common.{Ok, Err, if◌then◌else◌, refl, sym, ap, subst, ◌∙◌, arith, cond}
use Rattle.std.proofs.lemmas.{Bool.eqb-true, Int.ints}
use Rattle.std.specs.{List.AllByRecursion, Prelude.⊤, Prelude.find, Prelude.int_lt}
use Rattle.best_fit.specs.Extents.{handle}
use Rattle.block_tags.specs.declared.tile.Role.TheVariants.{Node}
use Rattle.seg_types.specs.declared.kinds.{Kind.Kind, ScalarKind.ScalarKind}
use Rattle.seg_types.specs.declared.refusals.Refusal.{Refusal}
use Rattle.seg_types.specs.declared.refusals.Refusal.TheVariants.{NotFound, ReadOnly, WrongKind}
use Rattle.seg_types.specs.Kinds.{code_of, is_value, kind_of_code, same_kind, size_of}
use Rattle.seg_types.specs.Names.{ByHandle, Key}
use Rattle.seg_types.specs.Commands.{Command, Literal, is_changing, literal_of, value_of_literal}
use Rattle.seg_types.specs.Literals.{cons_values, pair_values}
use Rattle.seg_map.specs.{Map.pair_at, Map.put_pair, Map.is_key, Map.node_len, Numbers.NumberPair, Places.item_of}
use Rattle.segment_manager.proofs.{ElementLaws.literal-read, Laws.code-read}
use Rattle.segment_manager.specs.Answers.{Answer, Boolean}
use Rattle.segment_manager.specs.Directory.{Directory, Object, Value, Numbers, Elements, Bytes, Pairs, Texts, kind_of}
use Rattle.segment_manager.specs.Directory.{live}
use Rattle.segment_manager.specs.Directory.{has_key, padded, object_at, remove_object, replace_object, without_object}
use Rattle.segment_manager.specs.declared.modes.Mode.{Mode}
use Rattle.segment_manager.specs.Plan.{New, Plan, Refuse, Reply, Request, perform, with}
use Rattle.segment_manager.specs.Step.{changed, effect, found_at, is_read_only, map_of, put, step_of_kind}
use Rattle.segment_manager.specs.State.{SegmentState, TakesStep, TakesStepOfKind}
use Rattle.segment_values.specs.Contents.{content_of}
use Rattle.segment_salvage.specs.Standing.{AllStand, HasContent, HasPair, Salvages, StandsIn}
use Rattle.segment_salvage.proofs.Steps.{AllEnds, if-ends, perform-ends, step-stands}

-- ---- lists

-- what was found has what all have
abbrev pub HasIf : {A : Type 0} → (A → Type 0) → Option A → Type 0
HasIf P None = ⊤
HasIf P (Some x) = P x

found-all : {A : Type 0} (P : A → Type 0) (test : A → Bool) (xs : List A) → AllByRecursion P xs → HasIf P (find test xs)
found-all P test [] a = tt
found-all P test (x ∷ xs) a =
    elim (test x) as (λ (b : Bool). HasIf P (cond b (Some x) (find test xs))) [
      | true ↦ a.0
      | false ↦ found-all P test xs a.1
    ]

replaced-all : (Q : Object → Type 0) (o : Object) (os : List Object) → Q o → AllByRecursion Q os
    → AllByRecursion Q (replace_object o os)
replaced-all Q o [] x a = tt
replaced-all Q o (p ∷ ps) x a =
    elim (handle o.extent == handle p.extent) as (λ (b : Bool).
    AllByRecursion Q (if b then o ∷ ps else p ∷ replace_object o ps)) [
      | true ↦ (x, a.1)
      | false ↦ (a.0, replaced-all Q o ps x a.1)
    ]

removed-all : (Q : Object → Type 0) (h : ℕ) (os : List Object) → AllByRecursion Q os
    → AllByRecursion Q (remove_object h os)
removed-all Q h [] a = tt
removed-all Q h (p ∷ ps) a =
    elim (h == handle p.extent) as (λ (b : Bool). AllByRecursion Q (if b then ps else p ∷ remove_object h ps)) [
      | true ↦ a.1
      | false ↦ (a.0, removed-all Q h ps a.1)
    ]

put-all : (Q : ℤ × ℤ → Type 0) (p : NumberPair) (ps : List NumberPair) → Q (item_of p)
    → AllByRecursion Q (map item_of ps) → AllByRecursion Q (map item_of (put_pair int_lt p ps))
put-all Q p [] x a = (x, tt)
put-all Q p (q ∷ qs) x a =
    elim (int_lt p.key q.key) as (λ (b : Bool). AllByRecursion Q (map item_of
    (if b then p ∷ q ∷ qs else if int_lt q.key p.key then q ∷ put_pair int_lt p qs else p ∷ qs))) [
      | true ↦ (x, a)
      | false ↦ elim (int_lt q.key p.key) as (λ (c : Bool). AllByRecursion Q (map item_of
          (if c then q ∷ put_pair int_lt p qs else p ∷ qs))) [
            | true ↦ (a.0, put-all Q p qs x a.1)
            | false ↦ (x, a.1)
          ]
    ]

-- ---- an object is destroyed

-- an object is destroyed
pub destroy-stands : (image : List ℕ) (old new : SegmentState) (h : ℕ) (answer : Answer)
    → TakesStep old new (asked.DestroyPtr h) answer → Salvages image old new
destroy-stands image old new h answer t =
    step-stands image old new (asked.DestroyPtr h) answer t (λ d all.
    elim (object_at d (ByHandle h)) as (λ (r : Option Object). AllEnds (AllStand image)
    (with (elim r as (λ _. Result Object Refusal) [ None ↦ Err NotFound | Some o ↦ Ok o ])
    (λ o. Reply (Boolean true) (without_object d o)))) [
      | None ↦ tt
      | Some o ↦ removed-all (StandsIn image) (handle o.extent) d.objects all
    ])

-- ---- a pair is put

-- what was found passes the test
pub found-test : {A : Type 0} (test : A → Bool) (xs : List A) → HasIf (λ x. test x ≡ true) (find test xs)
found-test test [] = tt
found-test test (x ∷ xs) =
    (elim (test x) as (λ (b : Bool). test x ≡ b → HasIf (λ x. test x ≡ true) (cond b (Some x) (find test xs))) [
      | true ↦ λ e. e
      | false ↦ λ e. found-test test xs
    ]) refl

same-key : (x y : ℤ) → not (int_lt x y || int_lt y x) ≡ true → x ≡ y
same-key x y e = grind (arith, ints)

if-when : (P : Directory → Type 0) (b : Bool) (p q : Plan) → (b ≡ true → AllEnds P p) → AllEnds P q
    → AllEnds P (if b then p else q)
if-when P true p q x y = x refl
if-when P false p q x y = y

same-some : (a b : Kind) → Some a ≡ Some b → a ≡ b
same-some a b e = ap (λ (o : Option Kind). elim o as (λ _. Kind) [ None ↦ a | Some c ↦ c ]) e

one-kind : (a b : Kind) → same_kind a b ≡ true → a ≡ b
one-kind a b e = same-some a b (sym (code-read a) ∙ ap kind_of_code (eqb-true (code_of a) (code_of b) e) ∙ code-read b)

abbrev keys_in : ScalarKind → Kind → ScalarKind
keys_in other (kinds.Map k v) = k
keys_in other (kinds.Scalar k) = other
keys_in other (kinds.Vector k) = other
keys_in other kinds.String = other
keys_in other kinds.Strings = other

abbrev values_in : ScalarKind → Kind → ScalarKind
values_in other (kinds.Map k v) = v
values_in other (kinds.Scalar k) = other
values_in other (kinds.Vector k) = other
values_in other kinds.String = other
values_in other kinds.Strings = other

module _ (image : List ℕ) (k v : ScalarKind) (x y : ℤ) (in-keys : is_value k x ≡ true) (in-values : is_value v y ≡ true)
    (pair : HasPair image k v (x, y)) (d : Directory) (all : AllStand image d) where
  abbrev P : Directory → Type 0
  P = AllStand image

  abbrev with-pairs : Object → List NumberPair → Object
  with-pairs o qs = record o { value = Pairs k v qs }

  stands : (o : Object) (ps qs : List NumberPair) → StandsIn image o → o.value ≡ Pairs k v ps
      → AllByRecursion (HasPair image k v) (map item_of qs) → StandsIn image (with-pairs o qs)
  stands o ps qs s e has = record {
    at = s.at;
    kind = s.kind ∙ ap (λ (w : Value). code_of (kind_of w)) e;
    class = s.class;
    name = s.name;
    content = has;
  }

  put-ends : (o : Object) (ps : List NumberPair) → StandsIn image o → o.value ≡ Pairs k v ps
      → AllEnds P (put d o k v ps (x ∷ y ∷ []))
  put-ends o ps s e =
      let has : AllByRecursion (HasPair image k v) (map item_of ps) =
      subst (λ (w : Value). HasContent image (s.at + 16 + padded (length o.name)) (content_of w)) e s.content in
      let ends : (q : NumberPair) → HasPair image k v (item_of q) → P (changed d o (Pairs k v (put_pair int_lt q ps))) =
      λ q h. replaced-all (StandsIn image) (with-pairs o (put_pair int_lt q ps)) d.objects
      (stands o ps (put_pair int_lt q ps) s e (put-all (HasPair image k v) q ps h has)) all in
      (elim (pair_at int_lt ps x) as (λ (r : Option NumberPair). HasIf (λ p. is_key int_lt x p ≡ true) r
      → AllEnds P (elim r as (λ _. Plan) [
        | Some p ↦ Reply (Boolean false) (changed d o (Pairs k v (put_pair int_lt (record p { value = y }) ps)))
        | None ↦ Request (New Node (node_len (size_of k) (size_of v))) (λ n.
            Reply (Boolean true)
            (changed d o (Pairs k v (put_pair int_lt (record { key = x; value = y; node = n }) ps))))
      ])) [
        | Some p ↦ λ t. ends (record p { value = y })
            (subst (λ z. HasPair image k v (z, y)) (same-key x p.key t) pair)
        | None ↦ λ t n. ends (record { key = x; value = y; node = n }) pair
      ]) (found-test (is_key int_lt x) ps)

  abbrev key_literal : Literal
  key_literal = literal_of k x

  abbrev value_literal : Literal
  value_literal = literal_of v y

  read : pair_values k v key_literal value_literal ≡ Ok (x ∷ y ∷ [])
  read = ap (λ r. cons_values r (cons_values (value_of_literal v value_literal) (Ok []))) (literal-read k x in-keys)
      ∙ ap (λ r. cons_values (Ok x) (cons_values r (Ok []))) (literal-read v y in-values)

  pairs-ends : (o : Object) → StandsIn image o → (k' v' : ScalarKind) (ps : List NumberPair) → k ≡ k' → v ≡ v'
      → o.value ≡ Pairs k' v' ps
      → AllEnds P (with (pair_values k' v' key_literal value_literal) (λ new. put d o k' v' ps new))
  pairs-ends o s k' v' ps e f g =
      subst (λ a. AllEnds P (with (pair_values a v' key_literal value_literal) (λ new. put d o a v' ps new))) e
      (subst (λ b. AllEnds P (with (pair_values k b key_literal value_literal) (λ new. put d o k b ps new))) f
      (subst (λ (r : Result (List ℤ) Refusal). AllEnds P (with r (λ new. put d o k v ps new))) (sym read)
      (put-ends o ps s (g ∙ ap (λ a. Pairs a v' ps) (sym e) ∙ ap (λ b. Pairs k b ps) (sym f)))))

  value-ends : (o : Object) → StandsIn image o → (w : Value) → o.value ≡ w
      → AllEnds P (if same_kind (kinds.Map k v) (kind_of w) then with (map_of w) (λ (k', v', ps).
      with (pair_values k' v' key_literal value_literal) (λ new. put d o k' v' ps new)) else Refuse WrongKind)
  value-ends o s (Numbers a b) e =
      if-ends P (same_kind (kinds.Map k v) (kind_of (Numbers a b))) (Refuse WrongKind) (Refuse WrongKind) tt tt
  value-ends o s (Elements a b c) e =
      if-ends P (same_kind (kinds.Map k v) (kind_of (Elements a b c))) (Refuse WrongKind) (Refuse WrongKind) tt tt
  value-ends o s (Bytes a b) e =
      if-ends P (same_kind (kinds.Map k v) (kind_of (Bytes a b))) (Refuse WrongKind) (Refuse WrongKind) tt tt
  value-ends o s (Texts a b) e =
      if-ends P (same_kind (kinds.Map k v) (kind_of (Texts a b))) (Refuse WrongKind) (Refuse WrongKind) tt tt
  value-ends o s (Pairs k' v' ps) e =
      if-when P (same_kind (kinds.Map k v) (kinds.Map k' v'))
      (with (pair_values k' v' key_literal value_literal) (λ new. put d o k' v' ps new)) (Refuse WrongKind) (λ same.
      let one = one-kind (kinds.Map k v) (kinds.Map k' v') same in
      pairs-ends o s k' v' ps (ap (keys_in k) one) (ap (values_in v) one) e) tt

  pub pair-ends : (key : Key)
      → AllEnds P (with (found_at d key) (λ o. if same_kind (kinds.Map k v) (kind_of o.value)
      then effect d (asked.Put key key_literal value_literal) else Refuse WrongKind))
  pair-ends key =
      (elim (object_at d key) as (λ (r : Option Object). HasIf (StandsIn image) r
      → AllEnds P (with (elim r as (λ _. Result Object Refusal) [ None ↦ Err NotFound | Some o ↦ Ok o ]) (λ o.
      if same_kind (kinds.Map k v) (kind_of o.value)
      then with (elim r as (λ _. Result Object Refusal) [ None ↦ Err NotFound | Some o ↦ Ok o ]) (λ o.
      with (map_of o.value) (λ (k', v', ps).
      with (pair_values k' v' key_literal value_literal) (λ new. put d o k' v' ps new)))
      else Refuse WrongKind))) [
        | None ↦ λ h. tt
        | Some o ↦ λ h. value-ends o h o.value refl
      ]) (found-all (StandsIn image) (has_key key) d.objects all)

kind-plan : (mode : Mode) (d : Directory) (key : Key) (kind : Kind) (c : Command) → step_of_kind mode d key kind c
    ≡ perform d (live d) (if is_read_only mode && is_changing c then Refuse ReadOnly else
    with (found_at d key) (λ o. if same_kind kind (kind_of o.value) then effect d c else Refuse WrongKind))
unfolding step_of_kind
kind-plan mode d key kind c = refl

-- a pair that stands in the image is put into a map of its kinds
pub put-stands : (image : List ℕ) (old new : SegmentState) (key : Key) (k v : ScalarKind) (x y : ℤ) (answer : Answer)
    → TakesStepOfKind old new key (kinds.Map k v) (asked.Put key (literal_of k x) (literal_of v y)) answer
    → is_value k x ≡ true → is_value v y ≡ true → HasPair image k v (x, y) → Salvages image old new
put-stands image old new key k v x y answer t a b pair =
    let c : Command = asked.Put key (literal_of k x) (literal_of v y) in
    record {
      keeps = λ s.
          let d = s.directory in
          record {
            directory = (step_of_kind old.mode d key (kinds.Map k v) c).1;
            denotes = t.denotes d s.denotes;
            all = subst (λ (r : Answer × Directory). AllStand image r.1)
                (sym (kind-plan old.mode d key (kinds.Map k v) c))
                (perform-ends (AllStand image) d (live d) _ s.all
                (if-ends (AllStand image) (is_read_only old.mode && is_changing c) (Refuse ReadOnly) _ tt
                (pair-ends image k v x y a b pair d s.all key)));
          };
    }
