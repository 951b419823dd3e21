-- The heap is cut at its end, and the size is written.
use Rattle.segment_manager.proofs.creating.cut_end.Goals as goal
use Rattle.segment_manager.proofs.Common.{Resizes, SegmentState, refl, shrunk, subst, ◌∙◌}
use Rattle.segment_manager.proofs.blocks.OwnBlocks.{resized-segment, shrinks}
use Rattle.segment_manager.proofs.creating.cut_end.Goals.{After-set_header_word}

-- the segment before and after
abbrev before : After-set_header_word → SegmentState
before c = record { cut = c.segment.inside.heap; mode = c.segment.inside.mode }

abbrev after : After-set_header_word → SegmentState
after c = record { cut = c.set_header_word.new.self; mode = c.segment.inside.mode }

cut : (c : After-set_header_word) → Resizes (before c) (after c) (λ d. shrunk d)
cut c = shrinks refl c.cut_end.ensures.changes c.set_header_word.ensures.changes
    (c.set_header_word.ensures.word ∙ c.size-size.ensures)

pub invariant_of-segment : goal.invariant_of-segment
invariant_of-segment c =
    let p = (goal.at.invariant_of-segment c).After-set_header_word in resized-segment (cut p) c.segment.invariant

pub returns : goal.returns
returns c =
    let p = (goal.at.returns c).After-set_header_word in
    subst (λ (s : SegmentState). Resizes s (after p) (λ d. shrunk d)) c.segment.view_is (cut p)
