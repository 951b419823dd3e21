use Rattle.std.proofs.Common.{Some, sym, ap, ◌∙◌}
use Rattle.link_tree.specs.Sides.{with_child}
use Rattle.link_tree.specs.declared.cursor.Side.{Side}
use Rattle.link_tree.proofs.inserting.Insertion.{nodes_of-rebalanced}
use Rattle.link_tree.proofs.removing.RemovalSteps.{mend_black, mend_red_at}
use Rattle.link_tree.proofs.trees.NodeLaws.{strict}
use Rattle.link_tree.proofs.removing.mend.Goals as goal

pub returns-then-red-clause-repair : goal.returns-then-red-clause-repair
returns-then-red-clause-repair g c = λ t w o.
    let s = c.args.nodes.now in
    let side = c.args.side in
    let heavy = c.in-Some.heavy in
    let low = c.fix_double_red-low.result in
    let h4 = g.N.Nodes.cells c.fix_double_red-low.new.nodes in
    let eo = c.set_red.ensures.keeper.order ∙ c.rotate.ensures.keeper.order in
    let redden = rw eo at c.paint.ensures.colour in
    let balance = rw (c.paint.ensures.keeper.order ∙ eo) at c.fix_double_red-low.ensures.balanced in
    mend_red_at (strict g.met.N.Nodes s) side (g.N.Nodes.cells s)
    (g.N.Nodes.cells c.rotate.new.nodes) (g.N.Nodes.cells c.set_red.new.nodes) (g.N.Nodes.cells c.paint.new.nodes) h4
    (g.N.Nodes.cells c.set_child.new.nodes) c.args.top heavy low c.rotate.result c.child-inner.result t w o
    (sym c.child.ensures.value ∙ c.in-Some.is) (sym c.red.ensures.value ∙ c.if-red.true) c.rotate.ensures.rotation
    c.set_red.ensures.cells c.child-inner.ensures.value redden balance (nodes_of-rebalanced side)
    (c.set_child.ensures.cells ∙ ap (λ (x : Side). with_child x h4 heavy (Some low)) c.other.ensures)

pub returns-clause-repair : goal.returns-clause-repair
returns-clause-repair g c = λ t w o.
    let s = c.args.nodes.now in
    let eo = c.set_red-3.ensures.keeper.order ∙ c.set_red-2.ensures.keeper.order in
    let balance = rw eo at c.fix_double_red-root.ensures.balanced in
    rw c.red-red.ensures.value (mend_black (strict g.met.N.Nodes s) c.args.side (g.N.Nodes.cells s)
    (g.N.Nodes.cells c.set_red-2.new.nodes) (g.N.Nodes.cells c.set_red-3.new.nodes)
    (g.N.Nodes.cells c.fix_double_red-root.new.nodes)
    c.args.top c.in-Some.heavy c.fix_double_red-root.result t w o (sym c.child.ensures.value ∙ c.in-Some.is)
    (sym c.red.ensures.value ∙ c.if-red.false) c.set_red-2.ensures.cells c.set_red-3.ensures.cells
    balance)
