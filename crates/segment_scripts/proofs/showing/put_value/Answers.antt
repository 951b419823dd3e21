-- The kind, the elements, and the end of the line.
use Rattle.std.proofs.Common.{refl, [], ◌∷◌, ◌++◌}
use Rattle.seg_types.specs.Names.{ByHandle}
use Rattle.segment_values.specs.Layouts.{laid_at}
use Rattle.segment_scripts.specs.Shown.{prefix_text, in_line}
use Rattle.segment_scripts.proofs.listing.Output.{of-cut, of-then, writes_owed, writes_same}
use Rattle.segment_scripts.proofs.listing.Contents.{shown-said}
use Rattle.segment_scripts.proofs.showing.put_value.Goals as goal

pub returns-in_err-put_prefix : goal.returns-in_err-put_prefix
returns-in_err-put_prefix g c =
    writes_same
    (of-cut {a = λ d. prefix_text c.args.object.kind c.count_of-count.result} (λ d.
    laid_at in_line d (ByHandle c.args.object.handle) ++ 0x0A ∷ []) c.from_residual.ensures.0
    (writes_owed c.in_err-put_prefix.ensures (λ d st. refl)))
    (shown-said c.args.segment.now c.args.object c.requires.object c.count_of-count.result c.count_of-count.ensures)

pub returns-in_err-put_content : goal.returns-in_err-put_content
returns-in_err-put_content g c =
    writes_same
    (of-then {a = λ d. prefix_text c.args.object.kind c.count_of-count.result}
    (writes_owed c.in_ok-put_prefix.ensures (λ d st. refl))
    (of-cut (λ d. 0x0A ∷ []) c.from_residual-in_err-put_content.ensures.0 c.in_err-put_content.ensures))
    (shown-said c.args.segment.now c.args.object c.requires.object c.count_of-count.result c.count_of-count.ensures)

pub returns : goal.returns
returns g c =
    writes_same
    (of-then {a = λ d. prefix_text c.args.object.kind c.count_of-count.result}
    (writes_owed c.in_ok-put_prefix.ensures (λ d st. refl))
    (of-then c.in_ok-put_content.ensures (writes_owed {owed = λ d. 0x0A ∷ []} c.put_pieces.ensures (λ d st. refl))))
    (shown-said c.args.segment.now c.args.object c.requires.object c.count_of-count.result c.count_of-count.ensures)
