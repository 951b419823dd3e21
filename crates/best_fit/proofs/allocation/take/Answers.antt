-- The gap is made black, cut and allocated, and its remainder enters the tree.
use Rattle.best_fit.proofs.Common.{◌≡◌, ap, ◌+◌, ◌++◌, length, arith, sym, ℕ, bits, gaps_in, IsUnlinkedGap}
use Rattle.best_fit.proofs.allocation.GapToBlock.{Planted, Taken, colour_may, cut_stands, out_bounds, taken, use_may}
use Rattle.best_fit.proofs.allocation.take.Goals.{After-set_use, After-link_gap}
use Rattle.best_fit.proofs.allocation.take.Goals as goal

pub blacken-requires-clause-tile : goal.blacken-requires-clause-tile
blacken-requires-clause-tile c = colour_may c.args.touches.now.gaps.now.window c.args.at c.requires.gap.0
    c.requires.gap.1 c.args.wanted c.args.role

pub split_tail-is_cut-requires-clause-tile : goal.split_tail-is_cut-requires-clause-tile
split_tail-is_cut-requires-clause-tile c =
    cut_stands c.args.touches.now.gaps.now.window c.args.at c.requires.gap.0 c.requires.gap.1 c.args.wanted
    c.args.role c.blacken.ensures.tags

pub split_tail-is_cut-requires-clause-max_size : goal.split_tail-is_cut-requires-clause-max_size
split_tail-is_cut-requires-clause-max_size c =
    let n = out_bounds c.args.touches.now.gaps.now.window c.args.at c.requires.gap.0 c.requires.gap.1 in
    let fits = c.requires.gap.2 in omega arith

pub set_use-requires-clause-tile : goal.set_use-requires-clause-tile
set_use-requires-clause-tile c =
    use_may c.args.touches.now.gaps.now.window c.args.at c.requires.gap.0 c.requires.gap.1 c.args.wanted c.args.role
    c.blacken.ensures.tags c.split_tail-is_cut.ensures.tags

pub overflow_add-at : goal.overflow_add-at
overflow_add-at c =
    let n = out_bounds c.args.touches.now.gaps.now.window c.args.at c.requires.gap.0 c.requires.gap.1 in
    let fits = c.requires.gap.2 in omega arith

pub overflow_add-at-then-is_cut : goal.overflow_add-at-then-is_cut
overflow_add-at-then-is_cut c =
    let n = out_bounds c.args.touches.now.gaps.now.window c.args.at c.requires.gap.0 c.requires.gap.1 in
    let fits = c.requires.gap.2 in omega arith

-- the front of the gap is in use
used : (c : After-set_use) (len : ℕ) → IsUnlinkedGap c.args.touches.now.gaps.now.window c.args.at len
    → Taken c.args.touches.now.gaps.now.window c.set_use.new.self.gaps.now.window c.args.at len c.args.wanted
    c.args.role c.split_tail-is_cut.result
used c len o =
    taken c.args.touches.now.gaps.now.window c.args.at len o c.args.wanted c.args.role
    c.blacken.ensures.tags c.split_tail-is_cut.ensures.tags c.set_use.ensures.tags c.split_tail-is_cut.result
    c.split_tail-is_cut.ensures.cut

pub link_gap-requires-clause-tree : goal.link_gap-requires-clause-tree
link_gap-requires-clause-tree c =
    let t = used (goal.at.link_gap-requires-clause-tree c).After-set_use c.requires.gap.0 c.requires.gap.1 in
    (t.front, t.gap, t.back, t.node, t.lacks c.if-is_cut.true)

-- and the rest is in the tree
planted : (c : After-link_gap) (len : ℕ) → Taken c.args.touches.now.gaps.now.window c.set_use.new.self.gaps.now.window
    c.args.at len c.args.wanted c.args.role c.split_tail-is_cut.result
    → Planted c.args.touches.now.gaps.now.window c.link_gap.new.self.gaps.now.window c.args.at len
    c.args.wanted c.args.role
planted c len t =
    t.planted c.if-is_cut.true c.link_gap.new.self.gaps.now.window
    (c.link_gap.ensures.tree t.front t.gap t.back t.node (t.lacks c.if-is_cut.true)) c.link_gap.ensures.frame

pub returns-then-is_cut-clause-live : goal.returns-then-is_cut-clause-live
returns-then-is_cut-clause-live c len o fits =
    let g = goal.at.returns-then-is_cut-clause-live c
    in (planted g.After-link_gap len (used g.After-set_use len o)).live

pub returns-then-is_cut-clause-black : goal.returns-then-is_cut-clause-black
returns-then-is_cut-clause-black c =
    let g = goal.at.returns-then-is_cut-clause-black c in
    (planted g.After-link_gap c.requires.gap.0 (used g.After-set_use c.requires.gap.0 c.requires.gap.1)).black

pub returns-then-is_cut-clause-frame : goal.returns-then-is_cut-clause-frame
returns-then-is_cut-clause-frame c =
    let g = goal.at.returns-then-is_cut-clause-frame c in
    (planted g.After-link_gap c.requires.gap.0 (used g.After-set_use c.requires.gap.0 c.requires.gap.1)).keeps

pub returns-then-is_cut-clause-steps : goal.returns-then-is_cut-clause-steps
returns-then-is_cut-clause-steps c =
    let t = used (goal.at.returns-then-is_cut-clause-steps c).After-set_use c.requires.gap.0 c.requires.gap.1 in
    let steps = c.link_gap.ensures.steps t.front t.gap t.back t.node (t.lacks c.if-is_cut.true) in
    let same : bits (length (t.front ++ t.back) + 1) ≡ bits (length (gaps_in c.args.touches.now.gaps.now.window)) =
    ap bits (sym t.count) in
    let a = c.blacken.ensures.steps_exact in let b = c.split_tail-is_cut.ensures.steps_upper in
    let d = c.set_use.ensures.steps_exact in omega arith

pub returns-else-is_cut-clause-live : goal.returns-else-is_cut-clause-live
returns-else-is_cut-clause-live c len o fits =
    ((used (goal.at.returns-else-is_cut-clause-live c).After-set_use len o).whole c.if-is_cut.false).live

pub returns-else-is_cut-clause-black : goal.returns-else-is_cut-clause-black
returns-else-is_cut-clause-black c =
    ((used (goal.at.returns-else-is_cut-clause-black c).After-set_use c.requires.gap.0 c.requires.gap.1).whole
    c.if-is_cut.false).black

pub returns-else-is_cut-clause-frame : goal.returns-else-is_cut-clause-frame
returns-else-is_cut-clause-frame c =
    ((used (goal.at.returns-else-is_cut-clause-frame c).After-set_use c.requires.gap.0 c.requires.gap.1).whole
    c.if-is_cut.false).keeps
