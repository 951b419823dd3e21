-- The gap after the block leaves the tree, the block is joined with it and cut, and the part cut off enters the tree.
use Rattle.best_fit.proofs.Common.{◌≡◌, refl, sym, ap, ◌∙◌, ◌+◌, ◌++◌, ◌∷◌, length, arith, first_in, gaps_of, gaps_in}
use Rattle.best_fit.proofs.Common.{HasGapTree, ChangesGapTree, gap_offset, tile_list, offset_of}
use Rattle.best_fit.proofs.allocation.LeastGap.{bits-le}
use Rattle.best_fit.proofs.tags.TileJoins.{rest_of}
use Rattle.best_fit.proofs.deallocation.Coalescing.{next_is}
use Rattle.best_fit.proofs.deallocation.OneGap.{HasUsed}
use Rattle.best_fit.proofs.in_place_resize.CutOff.{Recut, TailUprooted, c_behind0, joinable, recut, tail_uprooted}
use Rattle.best_fit.proofs.in_place_resize.CutOff.{tree_w}
use Rattle.best_fit.proofs.in_place_resize.NextGap.{t_stands0, t_stands1}
use Rattle.best_fit.proofs.free_tree.UnlinkIfGap.{option_few, option_offset}
use Rattle.best_fit.proofs.tags.Writes.{Block, block_tile, live_block}
use Rattle.best_fit.proofs.in_place_resize.absorb_and_split.Goals.{After-next-behind, After-unlink_if_gap}
use Rattle.best_fit.proofs.in_place_resize.absorb_and_split.Goals.{After-split_tail-is_cut}
use Rattle.best_fit.proofs.in_place_resize.absorb_and_split.Goals as goal

pub next-behind-requires-clause-tile : goal.next-behind-requires-clause-tile
next-behind-requires-clause-tile c =
    let w = c.args.touches.now.gaps.now.window in
    block_tile w (c.args.at + 16) c.args.at (live_block w (c.args.at + 16) c.requires.heap c.requires.live) refl

-- the block that is cut, among its neighbours
abbrev block : (c : After-next-behind) → Block c.args.touches.now.gaps.now.window (c.args.at + 16)
block c = live_block c.args.touches.now.gaps.now.window (c.args.at + 16) c.requires.heap c.requires.live

behind : (c : After-next-behind) → c.next-behind.result ≡ first_in (block c).back
behind c = let b = block c in c.next-behind.ensures.tile (b.front ++ (b.tile ∷ b.back)) b.said
    ∙ next_is c.args.touches.now.gaps.now.window c.args.at c.requires.heap b

pub unlink_if_gap-requires-clause-tree : goal.unlink_if_gap-requires-clause-tree
unlink_if_gap-requires-clause-tree c =
    let p = (goal.at.unlink_if_gap-requires-clause-tree c).After-next-behind in let w =
    c.args.touches.now.gaps.now.window in
    let b = block p in
    let e : c.next-behind.new.self.gaps.now.window ≡ w = cc in
    let is = c.gap_at-gap.ensures ∙ ap gap_offset (behind p) ∙ option_offset (first_in b.back) in (
      gaps_of b.front,
      gaps_of (tile_list (first_in b.back)),
      gaps_of (rest_of b.back),
      is,
      option_few (first_in b.back),
      rw e (tree_w w c.args.at c.requires.heap b c.args.wanted),
    )

-- the gap after has left the tree
gone : (c : After-unlink_if_gap) (b : Block c.args.touches.now.gaps.now.window (c.args.at + 16))
    → c.next-behind.result ≡ first_in b.back
    → TailUprooted c.args.touches.now.gaps.now.window c.args.at c.requires.heap b c.args.wanted
    c.unlink_if_gap.new.touches.gaps.now.window c.args.touches.now.count c.unlink_if_gap.new.touches.count
gone c b behind_is =
    let w = c.args.touches.now.gaps.now.window in let fs = gaps_of b.front in
    let first = gaps_of (tile_list (first_in b.back)) in let tail = gaps_of (rest_of b.back) in
    let e : c.next-behind.new.self.gaps.now.window ≡ w = cc in
    let is : c.gap_at-gap.result ≡ offset_of first = c.gap_at-gap.ensures ∙ ap gap_offset behind_is
    ∙ option_offset (first_in b.back) in
    let tree : HasGapTree c.next-behind.new.self.gaps.now.window (fs ++ (first ++ tail)) =
    rw e (tree_w w c.args.at c.requires.heap b c.args.wanted) in
    let rest : ChangesGapTree w c.unlink_if_gap.new.touches.gaps.now.window = rw e at c.unlink_if_gap.ensures.frame in
    tail_uprooted w c.args.at c.requires.heap b c.args.wanted c.unlink_if_gap.new.touches.gaps.now.window
    c.args.touches.now.count c.next-behind.new.self.count c.unlink_if_gap.new.touches.count
    (c.unlink_if_gap.ensures.tree fs first tail is (option_few (first_in b.back)) tree) rest (omega arith)
    (c.unlink_if_gap.ensures.steps (fs ++ (first ++ tail)) tree)

-- the block, with the gap after it out of the tree
joined : (c : After-unlink_if_gap) (b : Block c.args.touches.now.gaps.now.window (c.args.at + 16))
    → TailUprooted c.args.touches.now.gaps.now.window c.args.at c.requires.heap b c.args.wanted
    c.unlink_if_gap.new.touches.gaps.now.window c.args.touches.now.count c.unlink_if_gap.new.touches.count
    → HasUsed c.unlink_if_gap.new.touches.gaps.now.window c.args.at
joined c b u = joinable c.args.touches.now.gaps.now.window c.args.at c.requires.heap b c.args.wanted
    c.unlink_if_gap.new.touches.gaps.now.window u.tree u.rest

pub coalesce_next-requires-clause-tile : goal.coalesce_next-requires-clause-tile
coalesce_next-requires-clause-tile c =
    let g = goal.at.coalesce_next-requires-clause-tile c in let p = g.After-next-behind in let b = block p in
    t_stands0 (joined g.After-unlink_if_gap b (gone g.After-unlink_if_gap b (behind p))) c.args.wanted

pub coalesce_next-requires-clause-gap : goal.coalesce_next-requires-clause-gap
coalesce_next-requires-clause-gap c = λ ts said.
    let g = goal.at.coalesce_next-requires-clause-gap c in let p = g.After-next-behind in let b = block p in
    let u = gone g.After-unlink_if_gap b (behind p) in
    c_behind0 c.args.touches.now.gaps.now.window c.args.at c.requires.heap b c.args.wanted
    c.unlink_if_gap.new.touches.gaps.now.window u.tree u.rest ts said
    ∙ sym (c.gap_at-gap.ensures ∙ ap gap_offset (behind p))

pub split_tail-is_cut-requires-clause-tile : goal.split_tail-is_cut-requires-clause-tile
split_tail-is_cut-requires-clause-tile c =
    let g = goal.at.split_tail-is_cut-requires-clause-tile c in let p = g.After-next-behind in let b = block p in
    t_stands1 (joined g.After-unlink_if_gap b (gone g.After-unlink_if_gap b (behind p))) c.args.wanted
    c.coalesce_next.ensures.tags

pub overflow_add-at : goal.overflow_add-at
overflow_add-at c =
    let b = live_block c.args.touches.now.gaps.now.window (c.args.at + 16) c.requires.heap c.requires.live in
    let a = b.at in let i = b.inside in let z = b.size in let small = c.requires.max_size in omega arith

pub overflow_add-at-then-is_cut : goal.overflow_add-at-then-is_cut
overflow_add-at-then-is_cut c =
    let b = live_block c.args.touches.now.gaps.now.window (c.args.at + 16) c.requires.heap c.requires.live in
    let a = b.at in let i = b.inside in let z = b.size in let small = c.requires.max_size in omega arith

-- the block is joined with the gap, and cut or not
cut : (c : After-split_tail-is_cut) (b : Block c.args.touches.now.gaps.now.window (c.args.at + 16))
    → TailUprooted c.args.touches.now.gaps.now.window c.args.at c.requires.heap b c.args.wanted
    c.unlink_if_gap.new.touches.gaps.now.window c.args.touches.now.count c.unlink_if_gap.new.touches.count
    → Recut c.args.touches.now.gaps.now.window c.split_tail-is_cut.new.touches.gaps.now.window c.args.at
    c.args.wanted c.split_tail-is_cut.result
cut c b u =
    recut c.args.touches.now.gaps.now.window c.args.at c.requires.heap b c.args.wanted
    c.unlink_if_gap.new.touches.gaps.now.window u.tree u.rest c.coalesce_next.ensures.tags
    c.split_tail-is_cut.ensures.tags c.split_tail-is_cut.result c.split_tail-is_cut.ensures.cut

pub link_gap-requires-clause-tree : goal.link_gap-requires-clause-tree
link_gap-requires-clause-tree c =
    let g = goal.at.link_gap-requires-clause-tree c in let p = g.After-next-behind in let b = block p in
    let r = cut g.After-split_tail-is_cut b (gone g.After-unlink_if_gap b (behind p)) in
    (r.front, r.gap, r.back, r.node, r.lacks c.if-is_cut.true)

pub returns-then-is_cut-clause-cut : goal.returns-then-is_cut-clause-cut
returns-then-is_cut-clause-cut c =
    let g = goal.at.returns-then-is_cut-clause-cut c in let p = g.After-next-behind in let b = block p in
    let r = cut g.After-split_tail-is_cut b (gone g.After-unlink_if_gap b (behind p)) in let yes = c.if-is_cut.true in
    r.split yes c.link_gap.new.self.gaps.now.window (c.link_gap.ensures.tree r.front r.gap r.back r.node (r.lacks yes))
    c.link_gap.ensures.frame

pub returns-then-is_cut-clause-steps : goal.returns-then-is_cut-clause-steps
returns-then-is_cut-clause-steps c =
    let g = goal.at.returns-then-is_cut-clause-steps c in let p = g.After-next-behind in let b = block p in
    let u = gone g.After-unlink_if_gap b (behind p) in let r = cut g.After-split_tail-is_cut b u in
    let steps = u.steps in let two = c.coalesce_next.ensures.steps_upper in let more =
    c.split_tail-is_cut.ensures.steps_upper in
    let last = c.link_gap.ensures.steps r.front r.gap r.back r.node (r.lacks c.if-is_cut.true) in let few = r.few in
    let fewer = bits-le (length (r.front ++ r.back) + 1) (length (gaps_in c.args.touches.now.gaps.now.window) + 1)
    (omega arith) in omega arith

pub returns-else-is_cut-clause-cut : goal.returns-else-is_cut-clause-cut
returns-else-is_cut-clause-cut c =
    let g = goal.at.returns-else-is_cut-clause-cut c in let p = g.After-next-behind in let b = block p in
    (cut g.After-split_tail-is_cut b (gone g.After-unlink_if_gap b (behind p))).whole c.if-is_cut.false

pub returns-else-is_cut-clause-steps : goal.returns-else-is_cut-clause-steps
returns-else-is_cut-clause-steps c =
    let g = goal.at.returns-else-is_cut-clause-steps c in let p = g.After-next-behind in
    let steps = (gone g.After-unlink_if_gap (block p) (behind p)).steps in let two =
    c.coalesce_next.ensures.steps_upper in
    let more = c.split_tail-is_cut.ensures.steps_upper in omega arith
