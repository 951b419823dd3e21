use Rattle.segment_scripts.proofs.values.Texts.{gathered-fits}
use Rattle.segment_scripts.proofs.text_buffers.copy_texts.Goals as goal

pub push-requires : goal.push-requires
push-requires c = gathered-fits c.args.texts c.texts.text-iterator c.next.new.self c.texts.buffer c.in-Some.text
    c.texts.invariant.gathered c.in-Some.ensures.steps
