-- An object that is made or filled is there.
use Rattle.segment_dump.proofs.Common.{◌≡◌, true, ℕ, Result, Ok, Err, IfOk, Kind, Refusal, Command, Key, SegmentState}
use Rattle.segment_dump.proofs.Common.{TakesStep, TakesStepOfKind, Directory, Made, effect, live, perform, ap, ◌∙◌}
use Rattle.segment_dump.proofs.Common.{false, ◌&&◌, if◌then◌else◌, inl, inr, step, step_of_kind}
use Rattle.std.proofs.lemmas.Bool.{cases_Bool}
use Rattle.seg_types.specs.declared.refusals.Refusal.TheVariants.{ReadOnly}
use Rattle.segment_manager.specs.{Answers.Refused, Plan.Refuse, Step.is_read_only, declared.modes.Mode.Mode}
use Rattle.seg_types.specs.Commands.{Content, Construct}
use Rattle.segment_manager.specs.{Answers.Answer, Staying.is_elementwise, State.IsSegment}
use Rattle.segment_manager.specs.{State.handle_answer, declared.objects.object_ref.Object.Object as Located}
use Rattle.segment_manager.proofs.Laws.{made-here, objects_stay}
use Rattle.segment_dump.specs.Builders.{HasLocatedObject, HasObjectAt}

module _ {old new : SegmentState} {o : Located} (i : HasLocatedObject old o) (c : Command) (answer : Answer) where
  -- an object stays where it is in a step on its elements
  pub still-here : TakesStep old new c answer → is_elementwise c ≡ true → HasLocatedObject new o
  still-here m e = record {
    segment = ((step old.mode i.segment.0 c).1, m.denotes i.segment.0 i.segment.1);
    object = objects_stay.any old new c answer i.segment e m o i.object;
    writing = ap is_read_only m.stays.mode ∙ i.writing;
  }

  -- an object stays where it is in a step for its kind
  pub still_of_kind-here : (key : Key) (kind : Kind)
      → TakesStepOfKind old new key kind c answer → is_elementwise c ≡ true → HasLocatedObject new o
  still_of_kind-here key kind m e = record {
    segment = ((step_of_kind old.mode i.segment.0 key kind c).1, m.denotes i.segment.0 i.segment.1);
    object = objects_stay.of_kind old new key kind c answer i.segment e m o i.object;
    writing = ap is_read_only m.stays.mode ∙ i.writing;
  }

-- an object is constructed only in a segment that can be written
writing-if : (mode : Mode) (d : Directory) (key : Key) (c : Content) (h : ℕ)
    → Made h ≡ (step mode d (Construct key c)).0 → is_read_only mode ≡ false
unfolding step
writing-if mode d key c h e = elim (cases_Bool (is_read_only mode)) [
  | inl reading ↦
      let was : Made h ≡ Refused ReadOnly = e ∙ ap (λ b.
      (perform d (live d) (if b && true then Refuse ReadOnly else effect d (Construct key c))).0) reading in
      absurd (cc)
  | inr writing ↦ writing
]

-- an object that was constructed is there
pub begun_here : {old new : SegmentState} (key : Key) (c : Content) (called : Result ℕ Refusal)
    → IsSegment old.cut.bytes → TakesStep old new (Construct key c) (handle_answer called)
    → IfOk called (HasObjectAt new)
begun_here {old} key c (Ok h) g m = record {
  segment = ((step old.mode g.0 (Construct key c)).1, m.denotes g.0 g.1);
  object = made-here key c h g m;
  writing = ap is_read_only m.stays.mode ∙ writing-if old.mode g.0 key c h (m.answers g.0 g.1);
}
begun_here key c (Err why) g m = tt

-- so it is where the step is that of a count, which has an object only if it may be one
pub counted_here : {old new : SegmentState} {C : Type 0} (key : Key) (c : Content) (called : Result ℕ Refusal)
    → IsSegment old.cut.bytes → IfOk called (λ h. C)
    → (C → TakesStep old new (Construct key c) (handle_answer called)) → IfOk called (HasObjectAt new)
counted_here key c (Ok h) g count m = begun_here key c (Ok h) g (m count)
counted_here key c (Err why) g count m = tt
