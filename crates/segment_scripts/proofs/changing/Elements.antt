-- Commands on elements as a line writes them: which call is the step of the command, by the kind of the object.
use Rattle.std.proofs.Common.{◌≡◌, refl, sym, ap, subst, ◌∙◌, ℕ, ℤ, Bool, true, false, ◌&&◌, Option, Some, None, Ok}
use Rattle.std.proofs.Common.{Err, List, ◌∷◌, [], map, if◌then◌else◌}
use Rattle.std.specs.Prelude.{IsTrue}
use Rattle.std.specs.List.{list_all}
use Rattle.best_fit.specs.Table.{BackingArray}
use Rattle.seg_types.specs.declared.kinds.Kind.TheVariants.{String, Strings as StringsKind, Vector}
use Rattle.seg_types.specs.declared.kinds.ScalarKind.{ScalarKind}
use Rattle.seg_types.specs.declared.refusals.Refusal.{Refusal}
use Rattle.seg_types.specs.declared.refusals.Refusal.TheVariants.{ReadOnly, WrongKind}
use Rattle.seg_types.specs.Kinds.{is_value, same_kind}
use Rattle.seg_types.specs.Names.{Key}
use Rattle.seg_types.specs.Commands as asked
use Rattle.seg_types.specs.Commands.{Literal, literal_of}
use Rattle.segment_manager.specs.declared.modes.Mode.{Mode}
use Rattle.segment_manager.specs.declared.objects.object_ref.Object.{Object as Located}
use Rattle.segment_manager.specs.Answers.{Answer, Refused}
use Rattle.segment_manager.specs.Directory.{Value, Numbers, Elements, Bytes, Pairs, Texts, Object, Directory, kind_of}
use Rattle.segment_manager.specs.Directory.{live, object_at}
use Rattle.segment_manager.specs.Plan.{Plan, Refuse, perform, with}
use Rattle.segment_manager.specs.State.{TakesStep, TakesStepOfKind, SegmentState, DenotesCurrent}
use Rattle.segment_manager.specs.Step as step
use Rattle.segment_manager.specs.Step.{effect, found_at, is_read_only, step_of_kind, text_among, text_of}
use Rattle.seg_types.specs.Literals.{values_of}
use Rattle.segment_manager.proofs.ElementLaws.{IsOfKindAt, append-other, assign-plan, assign-refused, literals-read}
use Rattle.segment_manager.proofs.ElementLaws.{of_kind-steps, same_plan-steps, text-plan, text-refused, with-found}
use Rattle.segment_manager.proofs.ElementLaws.{with-not_found}
use Rattle.segment_manager.proofs.CommandLaws.{IsElements, refuses, says-kind, told, vector-if}
use Rattle.segment_scripts.specs.Changes.{IsChangeable, IsChangeableObject}

-- ---- values by their kinds

pub record IsText (v : Value) : Type 0 where
  pub bytes : List ℕ
  pub table : BackingArray
  pub is : v ≡ Bytes bytes table

pub text-if : (v : Value) → kind_of v ≡ String → IsText v
text-if (Numbers l zs) e = absurd (cc)
text-if (Elements l zs t) e = absurd (cc)
text-if (Bytes bs t) e = record { bytes = bs; table = t; is = refl }
text-if (Pairs l m ps) e = absurd (cc)
text-if (Texts ps t) e = absurd (cc)

-- neither a vector nor a text
not_assigned : (d : Directory) (o : Object) (v : Value) (ls : List Literal)
    → ((k : ScalarKind) → kind_of v ≡ Vector k → ⊥) → (kind_of v ≡ String → ⊥) → (kind_of v ≡ StringsKind → ⊥)
    → step.assign d o v ls ≡ Refuse WrongKind
not_assigned d o (Numbers k zs) ls n m t = refl
not_assigned d o (Elements k zs u) ls n m t = absurd (n k refl)
not_assigned d o (Bytes bs u) ls n m t = absurd (m refl)
not_assigned d o (Pairs k v ps) ls n m t = refl
not_assigned d o (Texts ps u) ls n m t = absurd (t refl)

-- ---- neither a vector nor a text

-- `assign` to an object that is no vector and no string is refused
pub assign-neither : {s : SegmentState} {key : Key} {o : Located} → IsChangeableObject s key o
    → ((k : ScalarKind) → o.kind ≡ Vector k → ⊥) → (o.kind ≡ StringsKind → ⊥) → (o.kind ≡ String → ⊥)
    → (ls : List Literal)
    → TakesStep s s (asked.Assign key ls) (Refused WrongKind)
assign-neither {s} {key} {o} h other no_texts no_text ls =
    refuses s (asked.Assign key ls) WrongKind h.writing
    (λ d st.
    let f : IsOfKindAt d key o.kind = told (says-kind h.located refl) d st in
    with-found d key f.object (λ o. step.assign d o o.value ls) f.is
    ∙ not_assigned d f.object f.object.value ls (λ k e. other k (sym f.kind_is ∙ e)) (λ e.
    no_text (sym f.kind_is ∙ e)) (λ e. no_texts (sym f.kind_is ∙ e)))

-- ---- a vector

module _ {s : SegmentState} {key : Key} {k : ScalarKind} (c : IsChangeable s key (Vector k)) where
  found : (d : Directory) → DenotesCurrent s.cut.bytes d → IsOfKindAt d key (Vector k)
  found d st = told c.is d st

  held : (d : Directory) (st : DenotesCurrent s.cut.bytes d) → IsElements k (found d st).object.value
  held d st = vector-if k (found d st).object.value (found d st).kind_is

  -- literals that are read as values are as good as the values' own
  pub assign-read : {new : SegmentState} (ls : List Literal) (zs : List ℤ) {answer : Answer}
      → values_of k ls ≡ Ok zs → IsTrue (list_all (is_value k) zs)
      → TakesStepOfKind s new key (Vector k) (asked.Assign key (map (literal_of k) zs)) answer
      → TakesStep s new (asked.Assign key ls) answer
  assign-read {new} ls zs {answer} e v r =
      same_plan-steps s new (asked.Assign key ls) (asked.Assign key (map (literal_of k) zs)) answer refl
      (λ d st.
      let f = found d st in
      let h = held d st in
      assign-plan d key f.object k h.numbers h.table f.is h.is ls zs e
      ∙ sym (assign-plan d key f.object k h.numbers h.table f.is h.is (map (literal_of k) zs) zs
      (literals-read k zs v)))
      (of_kind-steps s new key (Vector k) (asked.Assign key (map (literal_of k) zs)) answer c.is r)

  -- `assign` with a literal that is no value is refused
  pub assign-no_values : (ls : List Literal) {why : Refusal} → values_of k ls ≡ Err why
      → TakesStep s s (asked.Assign key ls) (Refused why)
  assign-no_values ls {why} e =
      refuses s (asked.Assign key ls) why c.writing
      (λ d st. assign-refused d key (found d st).object k (held d st).numbers (held d st).table (found d st).is
      (held d st).is ls why e)

-- ---- a text

module _ {s : SegmentState} {key : Key} (c : IsChangeable s key String) where
  there : (d : Directory) → DenotesCurrent s.cut.bytes d → IsOfKindAt d key String
  there d st = told c.is d st

  spelled : (d : Directory) (st : DenotesCurrent s.cut.bytes d) → IsText (there d st).object.value
  spelled d st = text-if (there d st).object.value (there d st).kind_is

  -- a line of text is assigned to a string
  pub text-read : {new : SegmentState} (ls : List Literal) (bs : List ℕ) {answer : Answer} → text_among ls ≡ Ok bs
      → TakesStepOfKind s new key String (asked.Assign key (asked.Quoted bs ∷ [])) answer
      → TakesStep s new (asked.Assign key ls) answer
  text-read {new} ls bs {answer} e r =
      same_plan-steps s new (asked.Assign key ls) (asked.Assign key (asked.Quoted bs ∷ [])) answer refl
      (λ d st.
      let f = there d st in
      let h = spelled d st in
      text-plan d key f.object h.bytes h.table f.is h.is ls bs e
      ∙ sym (text-plan d key f.object h.bytes h.table f.is h.is (asked.Quoted bs ∷ []) bs refl))
      (of_kind-steps s new key String (asked.Assign key (asked.Quoted bs ∷ [])) answer c.is r)

  -- a line that is no text is refused
  pub no_text-refused : (ls : List Literal) {why : Refusal} → text_among ls ≡ Err why
      → TakesStep s s (asked.Assign key ls) (Refused why)
  no_text-refused ls {why} e =
      refuses s (asked.Assign key ls) why c.writing
      (λ d st. text-refused d key (there d st).object (spelled d st).bytes (spelled d st).table (there d st).is
      (spelled d st).is ls why e)

-- ---- bytes after those of a text

append-if : (d : Directory) (key : Key) (bs : List ℕ) (o : Object) (v : Value) (b : Bool) → object_at d key ≡ Some o
    → o.value ≡ v → same_kind String (kind_of v) ≡ b
    → (if b then effect d (asked.Append key bs) else Refuse WrongKind) ≡ effect d (asked.Append key bs)
append-if d key bs o v true e f g = refl
append-if d key bs o (Numbers k zs) false e f g = sym (append-other d key o bs WrongKind e (ap text_of f))
append-if d key bs o (Elements k zs t) false e f g = sym (append-other d key o bs WrongKind e (ap text_of f))
append-if d key bs o (Bytes cs t) false e f g = absurd (cc)
append-if d key bs o (Pairs k v ps) false e f g = sym (append-other d key o bs WrongKind e (ap text_of f))
append-if d key bs o (Texts ps t) false e f g = sym (append-other d key o bs WrongKind e (ap text_of f))

abbrev for_text : Directory → Key → List ℕ → Object → Plan
for_text d key bs o = if same_kind String (kind_of o.value) then effect d (asked.Append key bs) else Refuse WrongKind

append-plan : (d : Directory) (key : Key) (bs : List ℕ) (r : Option Object) → object_at d key ≡ r
    → with (found_at d key) (for_text d key bs) ≡ effect d (asked.Append key bs)
append-plan d key bs None e = with-not_found d key (for_text d key bs) e ∙ sym (with-not_found d key _ e)
append-plan d key bs (Some o) e =
    with-found d key o (for_text d key bs) e
    ∙ append-if d key bs o o.value (same_kind String (kind_of o.value)) e refl refl

-- whatever the kind of the object is, the call for texts does what the command says
append-same : (mode : Mode) (d : Directory) (key : Key) (bs : List ℕ)
    → step_of_kind mode d key String (asked.Append key bs) ≡ step.step mode d (asked.Append key bs)
unfolding step.step step_of_kind
append-same mode d key bs = ap (λ p. perform d (live d) (if is_read_only mode && true then Refuse ReadOnly else p))
    (append-plan d key bs (object_at d key) refl)

-- appended bytes are the step of the command
pub append-steps : (old new : SegmentState) (key : Key) (bs : List ℕ) (answer : Answer)
    → TakesStepOfKind old new key String (asked.Append key bs) answer → TakesStep old new (asked.Append key bs) answer
append-steps old new key bs answer r = record {
  stays = r.stays;
  answers = λ d st. r.answers d st ∙ ap (λ (n : Answer × Directory). n.0) (append-same old.mode d key bs);
  denotes = λ d st. subst (λ (n : Answer × Directory).
      DenotesCurrent new.cut.bytes n.1) (append-same old.mode d key bs) (r.denotes d st);
}
