use Rattle.std.proofs.Common.{◌≡◌, ℕ, ◌+◌, Bool, true, false, Option, Some, arith, refl, ◌∙◌}
use Rattle.link_tree.specs.Tree.{Tree, IsSearchTree}
use Rattle.link_tree.specs.Sides.{child_of}
use Rattle.link_tree.proofs.trees.Heights.{bounds_height}
use Rattle.link_tree.proofs.trees.NodeLaws.{low_tree, strict}
use Rattle.link_tree.proofs.searching.PathWalk.{Seeking, onward, seek_start, seek_on, seek_end}
use Rattle.link_tree.proofs.descending.descend.Goals as goal
use Rattle.link_tree.proofs.descending.descend.Given.{Over}

abbrev Seeks : (g : Over) → g.row.N.Denot → g.row.N-Probe.Denot → Option ℕ → g.row.K.Denot → (link at : Option ℕ)
    → g.row.K.Denot → ℕ → Type 0
Seeks g s probe root start link at folded steps =
    (t : Tree) → IsSearchTree (g.N.Nodes.order s) (g.N.Nodes.cells s) root t
    → Seeking g.K.PathFold.passed start (g.N.Nodes.order s) (g.N.Nodes.cells s) (g.N.Nodes.before s probe) t link at
    folded
    steps

-- the search, one node further down
further : (g : Over) (s : g.row.N.Denot) (probe : g.row.N-Probe.Denot) (root : Option ℕ) (start : g.row.K.Denot)
    (b : Bool) (n : ℕ) (link at at' : Option ℕ) (folded folded' : g.row.K.Denot) (steps steps' : ℕ)
    → Seeks g s probe root start (Some n) at folded steps → g.N.Nodes.before s probe n ≡ b
    → folded' ≡ g.K.PathFold.passed folded n (g.N.Nodes.cells s n).red b → ((at ≡ Some n → ⊥) → steps' ≡ steps + 1)
    → at' ≡ Some n → link ≡ child_of (onward b) (g.N.Nodes.cells s n)
    → Seeks g s probe root start link at' folded' steps'
further g s probe root start b n link at at' folded folded' steps steps' seeks e k goes here is = λ t w.
    let seeking = seeks t w in
    rw is (seek_on (strict g.met.N.Nodes s) b n at at' folded folded' steps steps' seeking e k
    (goes (seeking.away n refl)) here)

pub loop-link-init : goal.loop-link-init
loop-link-init g c = rw c.count_steps-nodes.ensures.nodes (record {
  good = c.requires.root;
  room = omega (arith, c.count_steps-nodes.ensures.steps);
  seeks = λ t k. seek_start c.args.root _ _ k c.count_steps-nodes.ensures.position c.count_steps-nodes.ensures.steps;
})

pub loop-link-smaller-then-before : goal.loop-link-smaller-then-before
loop-link-smaller-then-before g c =
    let t = rw (← c.count_steps-nodes.ensures.nodes) at c.requires.tree in
    let goes = c.before_probe-before.ensures.progress_on_step
    ((c.loop-link.invariant.seeks t.0 t.1).away _ c.in-Some.is) in
    let stays = c.child-link.ensures.unchanged (c.fold_node-folded.ensures.position) in
    omega arith

pub loop-link-smaller : goal.loop-link-smaller
loop-link-smaller g c =
    let t = rw (← c.count_steps-nodes.ensures.nodes) at c.requires.tree in
    let goes = c.before_probe-before.ensures.progress_on_step
    ((c.loop-link.invariant.seeks t.0 t.1).away _ c.in-Some.is) in
    let stays = c.child-link-else-before.ensures.unchanged (c.fold_node-folded.ensures.position) in
    omega arith

pub loop-link-preserved-then-before : goal.loop-link-preserved-then-before
loop-link-preserved-then-before g c =
    let s = c.count_steps-nodes.result.0.now in
    let t = rw (← c.count_steps-nodes.ensures.nodes) at c.requires.tree in
    let seeks = further g s c.args.probe.now c.args.root c.args.start true c.in-Some.node c.child-link.result _ _ _
    c.fold_node-folded.result _ c.child-link.new.self.steps (rw c.in-Some.is at c.loop-link.invariant.seeks) (cc) (cc)
    (λ away.
    let goes = c.before_probe-before.ensures.progress_on_step away in
    let stays = c.child-link.ensures.unchanged (c.fold_node-folded.ensures.position) in
    omega arith) c.child-link.ensures.position c.child-link.ensures.value in
    let low = low_tree g.met.N.Nodes s t.1 (rw (← c.count_steps-nodes.ensures.nodes) at c.requires.root) in
    let taken = (seeks t.0 t.1).taken in
    record { good = c.child-link.ensures.link_target; room = omega arith; seeks = seeks }

pub loop-link-preserved : goal.loop-link-preserved
loop-link-preserved g c =
    let s = c.count_steps-nodes.result.0.now in
    let t = rw (← c.count_steps-nodes.ensures.nodes) at c.requires.tree in
    let seeks = further g s c.args.probe.now c.args.root c.args.start false c.in-Some.node
    c.child-link-else-before.result _ _ _ c.fold_node-folded.result _ c.child-link-else-before.new.self.steps
    (rw c.in-Some.is at c.loop-link.invariant.seeks) (cc) (cc)
    (λ away.
    let goes = c.before_probe-before.ensures.progress_on_step away in
    let stays = c.child-link-else-before.ensures.unchanged (c.fold_node-folded.ensures.position) in
    omega arith) c.child-link-else-before.ensures.position c.child-link-else-before.ensures.value in
    let low = low_tree g.met.N.Nodes s t.1 (rw (← c.count_steps-nodes.ensures.nodes) at c.requires.root) in
    let taken = (seeks t.0 t.1).taken in
    record { good = c.child-link-else-before.ensures.link_target; room = omega arith; seeks = seeks }

pub returns-clause-mark : goal.returns-clause-mark
returns-clause-mark g c = λ t k.
    let seeks = rw c.count_steps-nodes.ensures.nodes at c.loop-link.invariant.seeks in
    (seek_end _ _ _ _ (cc) (seeks t k)).0

pub returns-clause-steps : goal.returns-clause-steps
returns-clause-steps g c = λ t k.
    let seeks = rw c.count_steps-nodes.ensures.nodes at c.loop-link.invariant.seeks in
    let taken = (seeks t k).taken in
    let low = bounds_height t k.red_black in
    omega arith

pub returns-clause-steps_exact : goal.returns-clause-steps_exact
returns-clause-steps_exact g c = λ t k.
    let seeks = rw c.count_steps-nodes.ensures.nodes at c.loop-link.invariant.seeks in
    c.steps.ensures ∙ (seek_end _ _ _ _ (cc) (seeks t k)).1
