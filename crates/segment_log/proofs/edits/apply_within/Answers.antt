use Rattle.std.proofs.lemmas.List.{take_rest}
use Rattle.segment_log.proofs.edits.Within.{holds_applied}
use Rattle.segment_log.proofs.edits.apply_within.Goals as goal

pub returns-clause-image : goal.returns-clause-image
returns-clause-image c =
    λ image is held. holds_applied c.resize_within.new.buffer image c.args.payload.now _ c.edit.new.image
    c.number_of-made.result c.if-payload-lt8.false c.number_of-made.ensures (take_rest c.args.payload.now 8)
    c.edit.ensures (c.resize_within.ensures image is held)
