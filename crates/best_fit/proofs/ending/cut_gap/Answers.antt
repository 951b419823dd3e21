-- The last tile is free and is dropped, or the window already ends there.
use Rattle.best_fit.proofs.Common.{◌≡◌, ap, sym, ◌∙◌, ℕ, ◌+◌, ◌*◌, ◌≤◌, arith, List, ◌++◌, ◌∷◌, [], length, Some}
use Rattle.best_fit.proofs.Common.{bits, Gap, gap_of, gaps_in, gaps_of, tiles_in, HasGapTree, ChangesGapTree}
use Rattle.best_fit.proofs.allocation.LeastGap.{heap_tree}
use Rattle.best_fit.proofs.tags.TagsAndLiveSet.{heap-says}
use Rattle.best_fit.proofs.ending.LastGap.{LastGap, end_cut, ends_there, last_gap, last_gaps, last_listed, last_node}
use Rattle.best_fit.proofs.ending.LastGap.{last_small, last_tree, left_alone, not_least}
use Rattle.best_fit.proofs.free_tree.LinkAndUnlink.{few_bits}
use Rattle.best_fit.proofs.tile_walk.Walk.{window_tiled}
use Rattle.best_fit.proofs.ending.cut_gap.Goals.{After-gap_at, After-unlink_gap}
use Rattle.best_fit.proofs.ending.cut_gap.Goals as goal

pub last-last-requires-clause-tiles : goal.last-last-requires-clause-tiles
last-last-requires-clause-tiles c = window_tiled c.args.touches.now.gaps.now.window c.requires.heap

-- the gap at the end
gap : (c : After-gap_at) (at : ℕ) → c.gap_at.result ≡ Some at → LastGap c.args.touches.now.gaps.now.window at
gap c at there =
    let w = c.args.touches.now.gaps.now.window in
    last_gap w at c.last-last.result (c.last-last.ensures.tile (tiles_in w) (heap-says w c.requires.heap).said)
    (sym c.gap_at.ensures ∙ there)

pub overflow_add-at : goal.overflow_add-at
overflow_add-at c =
    let small = last_small c.args.touches.now.gaps.now.window c.requires.heap c.in-Some.at
    (gap (goal.at.overflow_add-at c).After-gap_at c.in-Some.at c.in-Some.is) in omega arith

-- the window has not changed
same : (c : After-gap_at) → c.last-last.new.self.gaps.now.window ≡ c.args.touches.now.gaps.now.window
same c = cc

-- the tree has the gap as the last
tree : (c : After-gap_at) (at : ℕ) (l : LastGap c.args.touches.now.gaps.now.window at)
    → HasGapTree c.last-last.new.self.gaps.now.window (gaps_of l.front ++ (gap_of l.tile ∷ []))
tree c at l = let f = same c in rw f (last_tree c.args.touches.now.gaps.now.window c.requires.heap at l)

pub unlink_gap-requires-clause-tree : goal.unlink_gap-requires-clause-tree
unlink_gap-requires-clause-tree c =
    let p = (goal.at.unlink_gap-requires-clause-tree c).After-gap_at in let l = gap p c.in-Some.at c.in-Some.is in (
      gaps_of l.front ++ (gap_of l.tile ∷ []),
      tree p c.in-Some.at l,
      last_listed c.args.touches.now.gaps.now.window
          c.requires.heap c.in-Some.at l,
    )

-- the gap has left the tree
left : (c : After-unlink_gap) (l : LastGap c.args.touches.now.gaps.now.window c.in-Some.at)
    → HasGapTree c.last-last.new.self.gaps.now.window (gaps_of l.front ++ (gap_of l.tile ∷ []))
    → HasGapTree c.unlink_gap.new.self.gaps.now.window (gaps_of l.front ++ [])
left c l = c.unlink_gap.ensures.tree (gaps_of l.front) (gap_of l.tile) []
    (last_node c.args.touches.now.gaps.now.window c.requires.heap c.in-Some.at l)

rest : (c : After-unlink_gap) → c.last-last.new.self.gaps.now.window ≡ c.args.touches.now.gaps.now.window
    → ChangesGapTree c.args.touches.now.gaps.now.window c.unlink_gap.new.self.gaps.now.window
rest c f = rw f at c.unlink_gap.ensures.frame

-- few touches more
counted : (c : After-unlink_gap) (l : LastGap c.args.touches.now.gaps.now.window c.in-Some.at)
    → HasGapTree c.last-last.new.self.gaps.now.window (gaps_of l.front ++ (gap_of l.tile ∷ []))
    → c.unlink_gap.new.self.count ≤ c.args.touches.now.count + 32
    * bits (length (gaps_in c.args.touches.now.gaps.now.window) + 1) + 34
counted c l t =
    let one = c.last-last.ensures.steps_exact in
    let more = c.unlink_gap.ensures.steps (gaps_of l.front ++ (gap_of l.tile ∷ [])) t in
    let e : length (gaps_of l.front ++ (gap_of l.tile ∷ [])) ≡ length (gaps_in c.args.touches.now.gaps.now.window) =
    sym (ap (λ (gs : List Gap). length gs)
    (last_gaps c.args.touches.now.gaps.now.window c.requires.heap c.in-Some.at l)) in
    let f = ap (λ n. bits (n + 1)) e in omega arith

pub drop_gap-requires-clause-tree : goal.drop_gap-requires-clause-tree
drop_gap-requires-clause-tree c =
    let g = goal.at.drop_gap-requires-clause-tree c in let p = g.After-gap_at in
    let l = gap p c.in-Some.at c.in-Some.is in
    left_alone c.args.touches.now.gaps.now.window c.requires.heap c.in-Some.at l c.unlink_gap.new.self.gaps.now.window
    (left g.After-unlink_gap l (tree p c.in-Some.at l)) (rest g.After-unlink_gap (same p))

pub drop_gap-requires-clause-no_overflow : goal.drop_gap-requires-clause-no_overflow
drop_gap-requires-clause-no_overflow c =
    let g = goal.at.drop_gap-requires-clause-no_overflow c in let p = g.After-gap_at in
    let l = gap p c.in-Some.at c.in-Some.is in let w = c.args.touches.now.gaps.now.window in
    let high = counted g.After-unlink_gap l (tree p c.in-Some.at l) in
    let low = few_bits w (gaps_in w) (heap_tree w c.requires.heap) in let room = c.requires.no_overflow in omega arith

pub returns-in-Some-clause-changes : goal.returns-in-Some-clause-changes
returns-in-Some-clause-changes c =
    let g = goal.at.returns-in-Some-clause-changes c in let p = g.After-gap_at in
    let l = gap p c.in-Some.at c.in-Some.is in
    end_cut c.args.touches.now.gaps.now.window c.requires.heap c.in-Some.at l c.unlink_gap.new.self.gaps.now.window
    (left g.After-unlink_gap l (tree p c.in-Some.at l)) (rest g.After-unlink_gap (same p))
    c.drop_gap.new.touches.gaps.now.window c.drop_gap.ensures.changes

pub returns-in-Some-clause-steps : goal.returns-in-Some-clause-steps
returns-in-Some-clause-steps c =
    let g = goal.at.returns-in-Some-clause-steps c in let p = g.After-gap_at in
    let l = gap p c.in-Some.at c.in-Some.is in
    let high = counted g.After-unlink_gap l (tree p c.in-Some.at l) in let one = c.drop_gap.ensures.steps_exact
    in omega arith

-- a gap at the end is cut off
pub returns-in-Some-clause-unchanged : goal.returns-in-Some-clause-unchanged
returns-in-Some-clause-unchanged c = λ none.
    let p = (goal.at.returns-in-Some-clause-unchanged c).After-gap_at in
    absurd (not_least c.args.touches.now.gaps.now.window c.requires.heap c.in-Some.at
    (gap p c.in-Some.at c.in-Some.is) none)

pub returns-in_default-clause-changes : goal.returns-in_default-clause-changes
returns-in_default-clause-changes c =
    let w = c.args.touches.now.gaps.now.window in let f : c.last-last.new.self.gaps.now.window ≡ w = cc in
    rw f (ends_there w c.last-last.result c.requires.heap
    (c.last-last.ensures.tile (tiles_in w) (heap-says w c.requires.heap).said) (sym c.gap_at.ensures ∙ c.in_default.is))
