-- The segment begins empty, and no call adds what does not stand in the image.
use Rattle.segment_commands.proofs.salvaging.Ends.{fresh_salvaged}
use Rattle.segment_commands.proofs.salvaging.salvaged_segment.Goals as goal

pub returns : goal.returns
returns c =
    c.in_ok-salvage.ensures.effect.keeps
    (fresh_salvaged c.args.image.now c.roomy_size.result c.in_ok-segment.segment c.in_ok-segment.ensures)
