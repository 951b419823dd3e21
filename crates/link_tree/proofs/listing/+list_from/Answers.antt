use Rattle.std.proofs.Common.{◌≡◌, ℕ, ◌+◌, ◌≤◌, true, false, Option, refl, sym, ◌∙◌, arith, rules}
use Rattle.link_tree.specs.Tree.{Tree}
use Rattle.link_tree.specs.Listing.{IsLowSearchTree}
use Rattle.link_tree.proofs.listing.Listings.{AreParts, lists_on, lists_right, lists_stops, parts_sorted}
use Rattle.link_tree.proofs.listing.+list_from.Goals as goal
use Rattle.link_tree.proofs.listing.+list_from.Goals.{After-child-right}
use Rattle.link_tree.proofs.listing.+list_from.Given.{Over}

-- the two trees below a node once a link is read, and what stands before the probe
parts : (g : Over) (t : ℕ) (c : After-child-right g t) (left_link : Option ℕ) (u : Tree)
    → left_link ≡ (g.N.Nodes.cells c.args.nodes c.in-Some.node).left
    → IsLowSearchTree (g.N.Nodes.order c.args.nodes) (g.N.Nodes.cells c.args.nodes) c.args.link c.args.levels u
    → AreParts (g.N.Nodes.order c.args.nodes) (g.N.Nodes.cells c.args.nodes)
    (g.N.Nodes.before c.args.nodes c.args.probe.now) c.in-Some.node c.args.levels left_link c.child-right.result u
parts g t c left_link u left a =
    parts_sorted (g.N.Nodes.before c.args.nodes c.args.probe.now) c.in-Some.node c.args.levels c.args.link
    left_link _ u (g.met.N.Nodes.agrees c.args.nodes c.args.probe.now) c.in-Some.is left c.child-right.ensures.value
    a

few : (g : Over) (t : ℕ) (c : After-child-right g t) → c.child-right.new.self.steps ≤ c.args.visits.now.steps + 1
few g t c =
    let stays = c.child-right.ensures.unchanged c.before_probe-before.ensures.position in
    let step = c.before_probe-before.ensures.steps_upper in
    omega arith

pub list_from-requires : goal.list_from-requires
list_from-requires g t c κs within =
    let r = (goal.at.list_from-requires g t c).After-child-right in
    let p = parts g t r _ c.requires.tree.0 refl c.requires.tree.1 in
    let step = few g t r in
    let room = c.requires.tree.2 in
    let size = p.size in
    let positive = p.positive in (
      omega (arith, c.decreases),
      (search rules, (search rules, (c.child-right.ensures.link_target, (p.right, p.right_below, omega arith)))),
    )

pub returns-then-before-clause-listing : goal.returns-then-before-clause-listing
returns-then-before-clause-listing g t c = λ u a.
    let r = (goal.at.returns-then-before-clause-listing g t c).After-child-right in
    let test = g.N.Nodes.before c.args.nodes c.args.probe.now in
    let p = parts g t r _ u refl a in
    let this : test c.in-Some.node ≡ true = sym c.before_probe-before.ensures.value ∙ c.if-before.true in
    let listed = c.list_from.ensures.listing p.right p.right_below in
    rw p.is (lists_right test _ p.left c.in-Some.node p.right c.args.visits.now.steps (p.left_before this) this
    (few g t r) listed)

pub list_from-listed-requires : goal.list_from-listed-requires
list_from-listed-requires g t c κs within =
    let r = (goal.at.list_from-listed-requires g t c).After-child-right in
    let p = parts g t r c.child-left.result c.requires.tree.0 c.child-left.ensures.value c.requires.tree.1 in
    let step = few g t r in
    let stays = c.child-left.ensures.unchanged c.child-right.ensures.position in
    let room = c.requires.tree.2 in
    let size = p.size in
    let positive = p.positive in (
      omega (arith, c.decreases),
      (search rules, (search rules, (c.child-left.ensures.link_target, (p.left, p.left_below, omega arith)))),
    )

pub returns-then-listed-list-clause-listing : goal.returns-then-listed-list-clause-listing
returns-then-listed-list-clause-listing g t c = λ u a.
    let r = (goal.at.returns-then-listed-list-clause-listing g t c).After-child-right in
    let test = g.N.Nodes.before c.args.nodes c.args.probe.now in
    let p = parts g t r c.child-left.result u c.child-left.ensures.value a in
    let this : test c.in-Some.node ≡ false = sym c.before_probe-before.ensures.value ∙ c.if-before.false in
    let step = few g t r in
    let stays = c.child-left.ensures.unchanged c.child-right.ensures.position in
    let listed = c.list_from-listed.ensures.listing p.left p.left_below in
    rw p.is (lists_stops test _ p.left c.in-Some.node p.right c.args.visits.now.steps listed this (p.right_from this)
    (omega arith) (omega arith) c.if-listed-list.true)

pub list_below-requires-clause-tree : goal.list_below-requires-clause-tree
list_below-requires-clause-tree g t c =
    let r = (goal.at.list_below-requires-clause-tree g t c).After-child-right in
    let p = parts g t r c.child-left.result c.requires.tree.0 c.child-left.ensures.value c.requires.tree.1 in
    let step = few g t r in
    let stays = c.child-left.ensures.unchanged c.child-right.ensures.position in
    let room = c.requires.tree.2 in
    let size = p.size in
    let visited = (c.list_from-listed.ensures.listing p.left p.left_below).visited in
    (p.right, p.right_below, omega arith)

pub returns-clause-listing : goal.returns-clause-listing
returns-clause-listing g t c = λ u a.
    let r = (goal.at.returns-clause-listing g t c).After-child-right in
    let test = g.N.Nodes.before c.args.nodes c.args.probe.now in
    let p = parts g t r c.child-left.result u c.child-left.ensures.value a in
    let this : test c.in-Some.node ≡ false = sym c.before_probe-before.ensures.value ∙ c.if-before.false in
    let step = few g t r in
    let stays = c.child-left.ensures.unchanged c.child-right.ensures.position in
    let listed = c.list_from-listed.ensures.listing p.left p.left_below in
    rw p.is (lists_on test _ p.left c.in-Some.node p.right c.args.visits.now.steps listed this (p.right_from this)
    (omega arith) (omega arith) c.if-listed-list.false (c.list_below.ensures.listing p.right p.right_below))
