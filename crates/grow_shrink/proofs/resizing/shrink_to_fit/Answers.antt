-- The segment is open for reading, or its end is cut.
use Rattle.std.proofs.Common.{sym, ◌∙◌}
use Rattle.grow_shrink.proofs.resizing.Refusals.{unshrunk}
use Rattle.grow_shrink.proofs.resizing.shrink_to_fit.Goals as goal

pub returns-then-is_read_only-clause-refused : goal.returns-then-is_read_only-clause-refused
returns-then-is_read_only-clause-refused c =
    unshrunk c.args.segment.now (sym c.is_read_only.ensures ∙ c.if-is_read_only.true)
