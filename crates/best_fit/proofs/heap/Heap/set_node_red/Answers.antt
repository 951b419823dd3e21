-- A node's tile can have any colour.
use Rattle.best_fit.proofs.Common.{◌≡◌, sym, subst, ◌-◌, arith, WindowState, current, Recolours}
use Rattle.best_fit.proofs.heap.Colours.{node_at, node_may, recoloured}
use Rattle.best_fit.proofs.tile_walk.Hints.{held-same}
use Rattle.best_fit.proofs.heap.Heap.set_node_red.Goals.{After-set_red}
use Rattle.best_fit.proofs.heap.Heap.set_node_red.Goals as goal

pub overflow_sub-handle : goal.overflow_sub-handle
overflow_sub-handle c = let o = (node_at c.args.self.now c.self.inside.gaps.window c.args.handle (cc)
    c.self.invariant.heap c.requires).block.at in omega arith

pub set_red-requires : goal.set_red-requires
set_red-requires c =
    let n = node_at c.args.self.now c.self.inside.gaps.window c.args.handle (cc) c.self.invariant.heap c.requires in
    let o = n.block.at in
    node_may c.self.inside.gaps.window c.args.handle (c.args.handle - 16) c.args.red n (omega arith)

recolours : (c : After-set_red) → Recolours current c.self.inside.gaps.window c.set_red.new.window c.args.handle
    c.args.red
recolours c =
    let n = node_at c.args.self.now c.self.inside.gaps.window c.args.handle (cc) c.self.invariant.heap c.requires in
    let o = n.block.at in
    recoloured c.self.inside.gaps.window c.set_red.new.window c.args.handle (c.args.handle - 16) c.args.red
    c.self.invariant.heap n.block (omega arith)
    (record { tags = c.set_red.ensures.tags; frame = c.set_red.ensures.frame }) c.set_red.ensures.word

pub invariant_of-self : goal.invariant_of-self
invariant_of-self c = held-same c.self.inside.hints c.self.inside.gaps.window.bytes c.set_red.new.window.bytes
    c.self.invariant.hints (recolours (goal.at.invariant_of-self c).After-set_red).live

pub returns : goal.returns
returns c =
    let e : c.args.self.now ≡ c.self.inside.gaps.window = cc in
    subst (λ (v : WindowState). Recolours current v c.set_red.new.window c.args.handle c.args.red) (sym e)
    (recolours (goal.at.returns c).After-set_red)
