-- The heap's end moves, and the size is written.
use Rattle.segment_manager.proofs.creating.extend_end.Goals as goal
use Rattle.segment_manager.proofs.Common.{DenotesCurrent, Directory, Resizes, SegmentState, grown, refl, subst, sym}
use Rattle.segment_manager.proofs.Common.{◌+◌, ◌∙◌, ◌≤◌}
use Rattle.segment_manager.proofs.blocks.OwnBlocks.{fits-small, grows, resized-segment}
use Rattle.segment_manager.proofs.creating.extend_end.Goals.{After-set_header_word}

pub extend_end-requires-clause-max_size : goal.extend_end-requires-clause-max_size
extend_end-requires-clause-max_size c =
    fits-small c.args.extra c.segment.invariant (subst (λ (s : SegmentState). (d : Directory)
    → DenotesCurrent s.cut.bytes d → d.size + c.args.extra ≤ 1073741824) (sym c.segment.view_is) c.requires.max_size)

-- the segment before and after
abbrev before : After-set_header_word → SegmentState
before c = record { cut = c.segment.inside.heap; mode = c.segment.inside.mode }

abbrev after : After-set_header_word → SegmentState
after c = record { cut = c.set_header_word.new.self; mode = c.segment.inside.mode }

longer : (c : After-set_header_word) → Resizes (before c) (after c) (λ d. grown d c.args.extra)
longer c = grows c.args.extra refl c.extend_end.ensures.changes c.set_header_word.ensures.changes
    (c.set_header_word.ensures.word ∙ c.size-size.ensures)

pub invariant_of-segment : goal.invariant_of-segment
invariant_of-segment c =
    let p = (goal.at.invariant_of-segment c).After-set_header_word in resized-segment (longer p) c.segment.invariant

pub returns : goal.returns
returns c =
    let p = (goal.at.returns c).After-set_header_word in
    subst (λ (s : SegmentState). Resizes s (after p) (λ d. grown d c.args.extra)) c.segment.view_is (longer p)
