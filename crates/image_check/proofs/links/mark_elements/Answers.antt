use Rattle.image_check.proofs.Common.{None, arith, bytes_of, refl}
use Rattle.image_check.specs.Passes.{tiles_in}
use Rattle.image_check.specs.Sharing.{state_of}
use Rattle.image_check.proofs.shared_blocks.Links.{elements-on, few-wait}
use mathlib.Core.Logic.{inl}
use Rattle.image_check.proofs.links.mark_elements.Goals as goal

pub mark-requires-clause-no_overflow : goal.mark-requires-clause-no_overflow
mark-requires-clause-no_overflow g c =
    few-wait g.format c.args.window.now.bytes (state_of c.elements.owners) c.requires.0
    c.elements.invariant.done.grown.marking

pub returns-in-Err-clause-mark : goal.returns-in-Err-clause-mark
returns-in-Err-clause-mark g c =
    let b = c.args.window.now.bytes in
    let start = c.requires.1.1.1.1 c.elements.i (omega arith) in
    c.in-Err.ensures.marks g.format (bytes_of b) (tiles_in b) None c.elements.invariant.done.grown.marking
    c.link-target.ensures.link start.1 (inl (start.0, refl))

pub elements-preserved : goal.elements-preserved
elements-preserved g c =
    let b = c.args.window.now.bytes in
    let start = c.requires.1.1.1.1 c.elements.i (omega arith) in
    elements-on g.format b c.args.array (state_of c.args.owners.now) c.args.visits.now c.elements.i c.args.count
    (state_of c.elements.owners) c.elements.visits (state_of c.mark.new.owners) c.mark.new.visits c.elements.invariant
    (omega arith)
    (c.in_default.ensures.marks g.format (bytes_of b) (tiles_in b) None c.elements.invariant.done.grown.marking
    c.link-target.ensures.link start.1 (inl (start.0, refl)))
    (omega arith, omega arith)
