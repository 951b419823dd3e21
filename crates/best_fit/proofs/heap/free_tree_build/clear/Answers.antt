-- The second link follows the first.
use Rattle.best_fit.proofs.Common.{◌∙◌, ◌+◌, inl, arith, bytes_of, SameBytesExcept-link}
use Rattle.best_fit.proofs.heap.free_tree_build.clear.Goals as goal

pub returns-clause-remainder : goal.returns-clause-remainder
returns-clause-remainder c =
    SameBytesExcept-link (bytes_of c.set_link.new.window.bytes) (bytes_of c.set_link-2.new.window.bytes)
    (c.args.node + 8) 8
    c.args.node c.set_link-2.ensures.frame (inl (omega arith)) ∙ c.set_link.ensures.link_target
