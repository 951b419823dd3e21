use Rattle.std.proofs.Common.{subst}
use Rattle.seg_types.specs.declared.kinds.Kind.TheVariants.{String}
use Rattle.seg_types.specs.Commands.{Append}
use Rattle.seg_types.specs.Keys.{key_seen}
use Rattle.segment_manager.specs.State.{TakesStepOfKind, done_answer}
use Rattle.segment_scripts.proofs.changing.Elements.{append-steps}
use Rattle.segment_scripts.proofs.changing.append.Goals as goal

pub returns-clause-step : goal.returns-clause-step
returns-clause-step c =
    append-steps c.args.segment.now c.string_append.new.self (key_seen c.args.key.now) c.args.text
    (done_answer c.string_append.result)
    (subst (λ bs. TakesStepOfKind c.args.segment.now c.string_append.new.self (key_seen c.args.key.now) String
    (Append (key_seen c.args.key.now) bs) (done_answer c.string_append.result))
    c.bytes.ensures c.string_append.ensures.step)
