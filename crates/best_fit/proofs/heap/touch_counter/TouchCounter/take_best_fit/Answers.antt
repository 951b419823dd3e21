-- The first gap of the tree that is long enough is the least such gap, and it is in the tree.
use Rattle.best_fit.proofs.Common.{◌≡◌, sym, subst, ◌∙◌, ℕ, arith, Option, IfSome, List, Gap, gaps_in, node_of}
use Rattle.best_fit.proofs.Common.{same_Some, option_map, filter, least, is_long, HasGapTree, CanBeginRemoval}
use Rattle.best_fit.proofs.allocation.LeastGap.{least_listed}
use Rattle.best_fit.proofs.gaps.Order.{first_is_least}
use Rattle.best_fit.proofs.free_tree.LinkAndUnlink.{few_bits}
use Rattle.best_fit.proofs.heap.touch_counter.TouchCounter.take_best_fit.Goals.{After-way_to-best}
use Rattle.best_fit.proofs.heap.touch_counter.TouchCounter.take_best_fit.Goals as goal

pub overflow_add-self : goal.overflow_add-self
overflow_add-self c =
    let w = c.args.self.now.gaps.now.window in let hs = c.requires.tree.0 in let h = c.requires.tree.1 in
    let steps = c.way_to-best.ensures.steps hs h in let few = few_bits w hs h in let room = c.requires.no_overflow in
    omega arith

-- the gap that the search finds
found : (c : After-way_to-best) (hs : List Gap) → HasGapTree c.args.self.now.gaps.now.window hs
    → c.way_to-best.result.node ≡ option_map node_of (least (filter (is_long c.args.wanted) hs))
found c hs h = c.way_to-best.ensures.first hs h
    ∙ first_is_least (gaps_in c.args.self.now.gaps.now.window) c.args.wanted hs h.some.fits

pub returns-in_err-node-clause-first : goal.returns-in_err-node-clause-first
returns-in_err-node-clause-first c = λ hs h.
    let none : c.from_residual.result ≡ c.way_to-best.result.node = cc in
    none ∙ found (goal.at.returns-in_err-node-clause-first c).After-way_to-best hs h

pub take_out_at-requires-clause-tree : goal.take_out_at-requires-clause-tree
take_out_at-requires-clause-tree c =
    let g = goal.at.take_out_at-requires-clause-tree c in
    let hs = c.requires.tree.0 in let h = c.requires.tree.1 in
    (hs, h, least_listed hs c.args.wanted c.in_ok-node.node (sym c.in_ok-node.was ∙ found g.After-way_to-best hs h))

pub take_out_at-requires-clause-exit : goal.take_out_at-requires-clause-exit
take_out_at-requires-clause-exit c =
    let w = c.args.self.now.gaps.now.window in
    subst (λ (o : Option ℕ). IfSome o (λ n. CanBeginRemoval w n c.way_to-best.result.exit)) c.in_ok-node.was
    c.way_to-best.ensures.exit

pub take_out_at-requires-clause-no_overflow : goal.take_out_at-requires-clause-no_overflow
take_out_at-requires-clause-no_overflow c =
    let w = c.args.self.now.gaps.now.window in let hs = c.requires.tree.0 in let h = c.requires.tree.1 in
    let steps = c.way_to-best.ensures.steps hs h in let few = few_bits w hs h in let room = c.requires.no_overflow in
    omega arith

pub returns-clause-first : goal.returns-clause-first
returns-clause-first c = λ hs h.
    sym c.in_ok-node.was ∙ found (goal.at.returns-clause-first c).After-way_to-best hs h

pub returns-clause-tree : goal.returns-clause-tree
returns-clause-tree c = λ xs g ys is h.
    c.take_out_at.ensures.tree xs g ys (same_Some c.in_ok-node.node (node_of g) is) h

pub returns-clause-steps : goal.returns-clause-steps
returns-clause-steps c = λ hs h.
    let steps = c.way_to-best.ensures.steps hs h in let more = c.take_out_at.ensures.steps hs h in
    omega arith
