-- The machine values of structs whose fields take no bytes: what is owned tells them, and they are made of nothing.
-- Assumes `Logic`.
use Rattle.std.proofs.Common.{◌≡◌, List, [], ◌∷◌, ◌++◌, refl, ap, ◌∙◌}
use seplogic.Ra.Ura.{Ura}
use mir.Val.{Val, vstruct, vcons, vnil, of_list}
use types.Logic.{Logic}
use types.Kit.{Goal, Seq, Step, step, Item, ‵, ◌$◌, move, drop, fsplit, fjoin, fpick, fpack, feq_l, feq_i}
use denote.RattleType.{RattleType, Valss}
use denote.Steps.{nothing}
use denote.Struct.Struct.{Struct, Shape, within}
use denote.Struct.Declared.{shape}
use denote.Struct.Tuple.{Tuple, tuple_type}

-- a struct by its fields alone: what it owns does not depend on its name
abbrev pub fields_of : List RattleType → Shape
fields_of Rs = record { name = []; args = []; types = []; fields = Rs }

abbrev pub plainly : List RattleType → RattleType
plainly Rs = Struct (fields_of Rs)

-- no field, and one field that has none
abbrev pub none : Val
none = vstruct vnil

-- the value of a struct of one field that takes no bytes
abbrev pub mark : Val
mark = vstruct (vcons none vnil)

module _ {M : Type 1} {𝓤 : Ura M} {𝓛 : Logic 𝓤} {K : Type 0} {Γ : List (Item 𝓤)} {G : Goal 𝓤 𝓛.H} where
  -- whoever owns a struct with no field has its only value
  pub none_had : K → (vs : List Val) → (vs ≡ none ∷ [] → Seq K 𝓛 Γ G) → Seq K 𝓛 (‵ ((plainly []).own_val tt vs) ∷ Γ) G
  none_had t vs k = fpick t (λ vss. fsplit t $ feq_l t (λ e. drop t $ k e))

  -- a struct with no field is made of nothing
  pub none_made : K → Step K 𝓛 (‵ ((plainly []).own_val tt (none ∷ [])) ∷ Γ) G Γ G
  none_made t = step (λ s. nothing t $ feq_i t (List Val) (none ∷ []) (none ∷ []) refl $ fjoin t $ fpack t
      (Valss []) (within (fields_of []) tt (none ∷ [])) tt $ s)

module _ {M : Type 1} {𝓤 : Ura M} {𝓛 : Logic 𝓤} {K : Type 0} {Γ : List (Item 𝓤)} {G : Goal 𝓤 𝓛.H} where
  -- whoever owns a struct of one empty field has its only value
  pub mark_had : K → (vs : List Val) → (vs ≡ mark ∷ [] → Seq K 𝓛 Γ G)
      → Seq K 𝓛 (‵ ((plainly (plainly [] ∷ [])).own_val (tt, tt) vs) ∷ Γ) G
  mark_had t vs k = fpick t (λ vss. fsplit t $ feq_l t (λ e. fsplit t $ none_had t vss.0 (λ f. drop t $
      k (e ∙ ap (λ (us : List Val). vstruct (of_list (us ++ [])) ∷ []) f))))

  -- a struct of one empty field is made of nothing
  pub mark_made : K → Step K 𝓛 (‵ ((plainly (plainly [] ∷ [])).own_val (tt, tt) (mark ∷ [])) ∷ Γ) G Γ G
  mark_made t = step (λ s. nothing t $ none_made t $ fjoin t $ feq_i t (List Val) (mark ∷ []) (mark ∷ []) refl $
      fjoin t $
      fpack t (Valss (plainly [] ∷ [])) (within (fields_of (plainly [] ∷ [])) (tt, tt) (mark ∷ [])) (none ∷ [], tt) $ s)

-- a tuple of a pointer and two structs that take no bytes
abbrev pub three : Val → Val → Val → Val
three u v w = vstruct (vcons u (vcons v (vcons w vnil)))

module _ {M : Type 1} {𝓤 : Ura M} {𝓛 : Logic 𝓤} {K : Type 0} {Γ : List (Item 𝓤)} {G : Goal 𝓤 𝓛.H} where
  -- a tuple of three is made of its parts
  pub three_made : K → (R S T : RattleType) (x : R.Denot) (y : S.Denot) (z : T.Denot) (u v w : Val)
      → Step K 𝓛 (‵ ((Tuple (R ∷ S ∷ T ∷ [])).own_val (x, y, z) (three u v w ∷ [])) ∷ Γ) G
      (‵ (R.own_val x (u ∷ [])) ∷ ‵ (S.own_val y (v ∷ [])) ∷ ‵ (T.own_val z (w ∷ [])) ∷ Γ) G
  three_made t R S T x y z u v w = step (λ s.
      nothing t $ move t (3 ∷ 0 ∷ []) $ fjoin t $ move t (2 ∷ 0 ∷ []) $ fjoin t $ move t (1 ∷ 0 ∷ []) $ fjoin t $
      feq_i t (List Val) (three u v w ∷ []) (three u v w ∷ []) refl $ fjoin t $
      fpack t (Valss (R ∷ S ∷ T ∷ [])) (within (shape (tuple_type (R ∷ S ∷ T ∷ []))) (
        x,
        (y, (z, tt)),
      ) (three u v w ∷ [])) (u ∷ [], (v ∷ [], (w ∷ [], tt))) $ s)

-- a tuple of two
abbrev pub two : Val → Val → Val
two u v = vstruct (vcons u (vcons v vnil))

module _ {M : Type 1} {𝓤 : Ura M} {𝓛 : Logic 𝓤} {K : Type 0} {Γ : List (Item 𝓤)} {G : Goal 𝓤 𝓛.H} where
  -- a tuple of two is made of its parts
  pub two_made : K → (R S : RattleType) (x : R.Denot) (y : S.Denot) (u v : Val)
      → Step K 𝓛 (‵ ((Tuple (R ∷ S ∷ [])).own_val (x, y) (two u v ∷ [])) ∷ Γ) G
      (‵ (R.own_val x (u ∷ [])) ∷ ‵ (S.own_val y (v ∷ [])) ∷ Γ) G
  two_made t R S x y u v = step (λ s.
      nothing t $ move t (2 ∷ 0 ∷ []) $ fjoin t $ move t (1 ∷ 0 ∷ []) $ fjoin t $
      feq_i t (List Val) (two u v ∷ []) (two u v ∷ []) refl $ fjoin t $
      fpack t (Valss (R ∷ S ∷ [])) (within (shape (tuple_type (R ∷ S ∷ []))) (x, (y, tt)) (two u v ∷ [])) (
        u ∷ [],
        (v ∷ [], tt),
      ) $ s)
