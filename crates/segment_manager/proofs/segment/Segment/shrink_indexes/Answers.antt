-- One index is shrunk, and then the other.
use Rattle.segment_manager.proofs.segment.Segment.shrink_indexes.Goals as goal
use Rattle.seg_types.specs.Commands.{ShrinkIndexes}
use Rattle.segment_manager.proofs.{directory.AnyDirectory.refuses-read_only, objects.Destroys.segment-index}
use Rattle.segment_manager.proofs.Common.{Named, refl, sym, ◌∙◌}
use Rattle.segment_manager.proofs.indexes.OtherTables.{shrinks, shrunk-index}

pub returns-then-is_read_only-clause-step : goal.returns-then-is_read_only-clause-step
returns-then-is_read_only-clause-step c =
    refuses-read_only c.args.self.now ShrinkIndexes (sym c.is_read_only.ensures ∙ c.if-is_read_only.true) refl

pub shrink-requires : goal.shrink-requires
shrink-requires c = record { index = segment-index Named c.self.invariant }

pub shrink-requires-2 : goal.shrink-requires-2
shrink-requires-2 c = record { index = shrunk-index c.self.invariant c.shrink.ensures.shrinking }

pub invariant_of-self : goal.invariant_of-self
invariant_of-self c = (shrinks c.self.view_is c.self.invariant
    (sym c.is_read_only.ensures ∙ c.if-is_read_only.false) c.shrink.ensures.shrinking
    c.shrink-2.ensures.shrinking).segment

pub returns-clause-step : goal.returns-clause-step
returns-clause-step c = (shrinks c.self.view_is c.self.invariant
    (sym c.is_read_only.ensures ∙ c.if-is_read_only.false) c.shrink.ensures.shrinking c.shrink-2.ensures.shrinking).step
