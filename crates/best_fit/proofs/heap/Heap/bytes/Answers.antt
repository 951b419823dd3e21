-- The bytes lie in a block, and so in the window.
use Rattle.best_fit.proofs.Common.{◌≡◌, sym, ap, ◌∙◌, ◌+◌, arith, WindowState, bytes_of, read, read-part}
use Rattle.best_fit.proofs.heap.BlockLinks.{spot}
use Rattle.best_fit.proofs.heap.Heap.bytes.Goals as goal

pub overflow_add-handle : goal.overflow_add-handle
overflow_add-handle c =
    let s = spot c.args.self.now c.self.inside.gaps.window c.args.handle c.args.at c.args.len (cc)
    c.self.invariant.heap c.requires in
    let i = s.inside in let z = s.size in omega arith

pub bytes-requires : goal.bytes-requires
bytes-requires c = (spot c.args.self.now c.self.inside.gaps.window c.args.handle c.args.at c.args.len (cc)
    c.self.invariant.heap c.requires).inside

pub returns : goal.returns
returns c =
    let w = c.self.inside.gaps.window in let from = c.args.handle + c.args.at in let e : c.args.self.now ≡ w = cc in
    let s = spot c.args.self.now w c.args.handle c.args.at c.args.len e c.self.invariant.heap c.requires in
    c.bytes.ensures.bytes ∙ sym (read-part w.bytes from c.args.len s.inside)
    ∙ ap (λ (v : WindowState). read (bytes_of v.bytes) from c.args.len) (sym e)
