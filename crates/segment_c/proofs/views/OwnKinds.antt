-- A call for objects of the value's own kind, which is tried first.
use Rattle.std.proofs.Common.{◌≡◌, refl, sym, ap, subst, ◌∙◌, Bool, true, false, ◌&&◌, Err, Ok, Result}
use Rattle.std.specs.Prelude.{if◌then◌else◌}
use Rattle.seg_types.specs.{Commands.Command, Commands.Literal, Commands.Push, Commands.Put}
use Rattle.seg_types.specs.{Commands.is_changing, Kinds.same_kind, Names.Key, declared.kinds.Kind.Kind}
use Rattle.seg_types.specs.declared.refusals.Refusal.{Refusal, TheVariants.ReadOnly, TheVariants.WrongKind}
use Rattle.segment_manager.specs.{Answers.Answer, Answers.Refused}
use Rattle.segment_manager.specs.Directory.{Directory, Object, kind_of, live}
use Rattle.segment_manager.specs.Plan.{Plan, Refuse, perform, with}
use Rattle.segment_manager.specs.State.{DenotesCurrent, SegmentState, TakesStep, TakesStepOfKind}
use Rattle.segment_manager.specs.Step.{effect, found_at, is_read_only, step, step_of_kind}

-- the command is one on the object of a key
abbrev IsAtObject : Key → Command → Type 0
IsAtObject key c = (d : Directory) → (work : Object → Plan) × (effect d c ≡ with (found_at d key) work)

-- the steps by plans: of any object, and of one of the kind
module _ (d : Directory) (kind : Kind) (plan : Plan) (a : Answer) (not : a ≡ Refused WrongKind → ⊥) where
  abbrev done : Bool → Plan → Answer × Directory
  done refused p = perform d (live d) (if refused then Refuse ReadOnly else p)

  abbrev if_own : Bool → Plan
  if_own own = if own then plan else Refuse WrongKind

  same-kind : (own : Bool) → a ≡ (done false (if_own own)).0 → done false (if_own own) ≡ done false plan
  same-kind true e = refl
  same-kind false e = absurd (not e)

  same-done : (refused : Bool) (r : Result Object Refusal) (work : Object → Plan) → plan ≡ with r work
      → a ≡ (done refused (with r (λ o. if_own (same_kind kind (kind_of o.value))))).0
      → done refused (with r (λ o. if_own (same_kind kind (kind_of o.value)))) ≡ done refused plan
  same-done true r work form e = refl
  same-done false (Err why) work form e = ap (done false) (sym form)
  same-done false (Ok o) work form e = same-kind (same_kind kind (kind_of o.value)) e

-- what was not refused by the kind is the step of the command
own-step : (old new : SegmentState) (key : Key) (kind : Kind) (c : Command) → IsAtObject key c → (a : Answer)
    → (a ≡ Refused WrongKind → ⊥) → TakesStepOfKind old new key kind c a → TakesStep old new c a
unfolding step step_of_kind
own-step old new key kind c form a not m =
    let same : (d : Directory) → DenotesCurrent old.cut.bytes d
    → step_of_kind old.mode d key kind c ≡ step old.mode d c =
    λ d st. same-done d kind (effect d c) a not (is_read_only old.mode && is_changing c) (found_at d key) (form d).0
    (form d).1 (m.answers d st) in
    record {
      stays = m.stays;
      answers = λ d st. m.answers d st ∙ ap (λ (a : Answer × Directory). a.0) (same d st);
      denotes = λ d st. subst (λ (a : Answer × Directory).
          DenotesCurrent new.cut.bytes a.1) (same d st) (m.denotes d st);
    }

-- a value is put into a vector of its own kind
pub pushed-step : (old new : SegmentState) (key : Key) (kind : Kind) (l : Literal) (a : Answer)
    → (a ≡ Refused WrongKind → ⊥) → TakesStepOfKind old new key kind (Push key l) a → TakesStep old new (Push key l) a
pushed-step old new key kind l a not = own-step old new key kind (Push key l) (λ d. (_, refl)) a not

-- a pair is put into a map of its own kinds
pub put-step : (old new : SegmentState) (key : Key) (kind : Kind) (l m : Literal) (a : Answer)
    → (a ≡ Refused WrongKind → ⊥) → TakesStepOfKind old new key kind (Put key l m) a → TakesStep old new (Put key l m) a
put-step old new key kind l m a not = own-step old new key kind (Put key l m) (λ d. (_, refl)) a not
