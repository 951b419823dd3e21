-- The link lies in a block, and no tag changes.
use Rattle.best_fit.proofs.Common.{◌≡◌, sym, subst, ◌+◌, arith, WindowState, current, ChangesBytes}
use Rattle.best_fit.proofs.heap.BlockLinks.{link_changed, spot}
use Rattle.best_fit.proofs.tile_walk.Hints.{held-same}
use Rattle.best_fit.proofs.heap.Heap.set_link.Goals as goal

pub overflow_add-handle : goal.overflow_add-handle
overflow_add-handle c = let s = spot c.args.self.now c.self.inside.gaps.window c.args.handle c.args.at 8 (cc)
    c.self.invariant.heap c.requires.room in let i = s.inside in let z = s.size in omega arith

pub set_link-requires-clause-aligned : goal.set_link-requires-clause-aligned
set_link-requires-clause-aligned c = let s = spot c.args.self.now c.self.inside.gaps.window c.args.handle c.args.at 8
    (cc) c.self.invariant.heap c.requires.room in let a = s.aligned in omega arith

pub set_link-requires-clause-in_bounds : goal.set_link-requires-clause-in_bounds
set_link-requires-clause-in_bounds c =
    (spot c.args.self.now c.self.inside.gaps.window c.args.handle c.args.at 8 (cc)
    c.self.invariant.heap c.requires.room).inside

pub invariant_of-self : goal.invariant_of-self
invariant_of-self c =
    let w = c.self.inside.gaps.window in let s = spot c.args.self.now w c.args.handle c.args.at 8 (cc)
    c.self.invariant.heap c.requires.room in
    let e = c.set_link.ensures in
    held-same c.self.inside.hints c.self.inside.gaps.window.bytes c.set_link.new.window.bytes c.self.invariant.hints
    (link_changed w c.set_link.new.window c.args.handle c.args.at c.self.invariant.heap s e.place e.len e.frame).live

pub returns-clause-changes : goal.returns-clause-changes
returns-clause-changes c =
    let w = c.self.inside.gaps.window in let s = spot c.args.self.now w c.args.handle c.args.at 8 (cc)
    c.self.invariant.heap c.requires.room in
    let e = c.set_link.ensures in let same : c.args.self.now ≡ w = cc in
    subst (λ (v : WindowState). ChangesBytes current v c.set_link.new.window (c.args.handle + c.args.at) 8) (sym same)
    (link_changed w c.set_link.new.window c.args.handle c.args.at c.self.invariant.heap s e.place e.len e.frame)
