use Rattle.std.proofs.Common.{ap, ◌∙◌}
use Rattle.segment_report.specs.Picture.{bytes_in_row}
use Rattle.segment_report.proofs.picture.Blocks.{has_size}
use Rattle.segment_report.proofs.figures.Replies.{size_is}
use Rattle.segment_report.proofs.picture.scale_of.Goals as goal

pub of-requires : goal.of-requires
of-requires c = (has_size c.args.segment.now c.size_of.result c.size_of.ensures.denotation c.size_of.ensures.size).high

pub returns : goal.returns
returns c = record {
  scale = λ d k. c.of.ensures
      ∙ ap bytes_in_row (size_is c.args.segment.now.mode d c.size_of.result (c.size_of.ensures.size.answers d k));
}
