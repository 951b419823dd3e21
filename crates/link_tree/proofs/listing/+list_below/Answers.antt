use Rattle.std.proofs.Common.{ℕ, ◌+◌, ◌≤◌, false, refl, arith, rules}
use Rattle.std.proofs.lemmas.Bool.{false≢true}
use Rattle.link_tree.specs.Tree.{Tree}
use Rattle.link_tree.specs.Listing.{IsLowSearchTree}
use Rattle.link_tree.proofs.listing.Listings.{AreParts, lists_full, lists_on, lists_stops, next_place, parts_sorted}
use Rattle.link_tree.proofs.listing.+list_below.Goals as goal
use Rattle.link_tree.proofs.listing.+list_below.Goals.{After-child-right}
use Rattle.link_tree.proofs.listing.+list_below.Given.{Over}

-- the two trees below a node, once its links are read
parts : (g : Over) (t : ℕ) (c : After-child-right g t) (u : Tree)
    → IsLowSearchTree (g.N.Nodes.order c.args.nodes) (g.N.Nodes.cells c.args.nodes) c.args.link c.args.levels u
    → AreParts (g.N.Nodes.order c.args.nodes) (g.N.Nodes.cells c.args.nodes) (λ _. false) c.in-Some.node
    c.args.levels c.child-left.result c.child-right.result u
parts g t c u a =
    parts_sorted (λ _. false) c.in-Some.node c.args.levels c.args.link _ _ u (λ x y k h. absurd (false≢true h))
    c.in-Some.is c.child-left.ensures.value c.child-right.ensures.value a

few : (g : Over) (t : ℕ) (c : After-child-right g t) → c.child-right.new.self.steps ≤ c.args.visits.now.steps + 1
few g t c =
    let stays = c.child-right.ensures.unchanged c.child-left.ensures.position in
    let step = c.child-left.ensures.steps_upper in
    omega arith

pub returns-then-count-list-clause-listing : goal.returns-then-count-list-clause-listing
returns-then-count-list-clause-listing g t c = λ u a.
    lists_full (λ _. false) u c.args.list.now c.args.count c.args.visits.now.steps c.if-count-list.true

pub list_below-listed-requires : goal.list_below-listed-requires
list_below-listed-requires g t c κs within =
    let r = (goal.at.list_below-listed-requires g t c).After-child-right in
    let p = parts g t r c.requires.tree.0 c.requires.tree.1 in
    let step = few g t r in
    let room = c.requires.tree.2 in
    let size = p.size in
    let positive = p.positive in (
      omega (arith, c.decreases),
      (search rules, (search rules, (search rules, (c.requires.count, (p.left, p.left_below, omega arith))))),
    )

pub returns-then-listed-list-clause-listing : goal.returns-then-listed-list-clause-listing
returns-then-listed-list-clause-listing g t c = λ u a.
    let r = (goal.at.returns-then-listed-list-clause-listing g t c).After-child-right in
    let p = parts g t r u a in
    rw p.is (lists_stops (λ _. false) _ p.left c.in-Some.node p.right c.args.visits.now.steps
    (c.list_below-listed.ensures.listing p.left p.left_below) refl (p.right_from refl) c.requires.count (few g t r)
    c.if-listed-list.true)

pub list_below-requires : goal.list_below-requires
list_below-requires g t c κs within =
    let r = (goal.at.list_below-requires g t c).After-child-right in
    let p = parts g t r c.requires.tree.0 c.requires.tree.1 in
    let step = few g t r in
    let room = c.requires.tree.2 in
    let size = p.size in
    let positive = p.positive in
    let listed = c.list_below-listed.ensures.listing p.left p.left_below in
    let visited = listed.visited in
    let next = next_place c.in-Some.node listed c.if-listed-list.false in (
      omega (arith, c.decreases),
      (search rules, (search rules, (search rules, (next, (p.right, p.right_below, omega arith))))),
    )

pub returns-clause-listing : goal.returns-clause-listing
returns-clause-listing g t c = λ u a.
    let r = (goal.at.returns-clause-listing g t c).After-child-right in
    let p = parts g t r u a in
    rw p.is (lists_on (λ _. false) _ p.left c.in-Some.node p.right c.args.visits.now.steps
    (c.list_below-listed.ensures.listing p.left p.left_below) refl (p.right_from refl) c.requires.count (few g t r)
    c.if-listed-list.false
    (c.list_below.ensures.listing p.right p.right_below))
