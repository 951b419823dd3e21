-- A link is eight bytes.
use Rattle.best_fit.proofs.Common.{Some, None}
use Rattle.best_fit.proofs.gaps.Setters.{link-SameBytesExcept}
use Rattle.best_fit.proofs.heap.nodes.set_link.Goals as goal

pub returns-in-Some-clause-frame : goal.returns-in-Some-clause-frame
returns-in-Some-clause-frame c = link-SameBytesExcept c.args.window.now c.store.new.w c.args.at (Some c.in-Some.target)
    c.requires.in_bounds c.store.ensures.output

pub returns-in-None-clause-frame : goal.returns-in-None-clause-frame
returns-in-None-clause-frame c =
    link-SameBytesExcept c.args.window.now c.store_null.new.w c.args.at None c.requires.in_bounds
    c.store_null.ensures.output
