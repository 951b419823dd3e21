use Rattle.segment_c.proofs.elements.pop.Goals as goal
use Rattle.std.proofs.Common.{◌∙◌, ap, subst}
use Rattle.seg_types.specs.{declared.kinds.Kind.TheVariants.Vector, Commands.Pop, Keys.key_seen}
use Rattle.segment_manager.specs.{State.DenotesCurrent, Step.step_of_kind}

pub returns-clause-step : goal.returns-clause-step
returns-clause-step c =
    let s = c.args.segment.now in
    let key = key_seen c.args.key.now in
    let r = c.pop_of_kind.ensures.step in
    record {
      stays = r.stays;
      answers = λ d st. r.answers d st
          ∙ ap (λ k. (step_of_kind s.mode d key (Vector k) (Pop key)).0) (c.kind_of_vector-kind.ensures.answers d st);
      denotes = λ d st. subst (λ k. DenotesCurrent c.pop_of_kind.new.segment.cut.bytes
          (step_of_kind s.mode d key (Vector k) (Pop key)).1) (c.kind_of_vector-kind.ensures.answers d st)
          (r.denotes d st);
    }
