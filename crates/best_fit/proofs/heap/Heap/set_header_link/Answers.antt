-- The link lies in the header, and no tag changes.
use Rattle.best_fit.proofs.Common.{◌≡◌, sym, subst, WindowState, current, ChangesBytes}
use Rattle.best_fit.proofs.tags.Writes.{header_changed}
use Rattle.best_fit.proofs.tile_walk.Hints.{held-same}
use Rattle.best_fit.proofs.heap.Heap.set_header_link.Goals as goal

pub invariant_of-self : goal.invariant_of-self
invariant_of-self c =
    let w = c.self.inside.gaps.window in let e = c.set_link.ensures in let q = c.requires in
    held-same c.self.inside.hints c.self.inside.gaps.window.bytes c.set_link.new.window.bytes c.self.invariant.hints
    (header_changed w c.set_link.new.window c.args.at c.self.invariant.heap e.place e.len q.aligned
    q.in_range q.unreserved e.frame).live

pub returns-clause-changes : goal.returns-clause-changes
returns-clause-changes c =
    let w = c.self.inside.gaps.window in let e = c.set_link.ensures in let q = c.requires in
    let same : c.args.self.now ≡ w = cc in
    subst (λ (v : WindowState). ChangesBytes current v c.set_link.new.window c.args.at 8) (sym same)
    (header_changed w c.set_link.new.window c.args.at c.self.invariant.heap e.place e.len
    q.aligned q.in_range q.unreserved e.frame)
