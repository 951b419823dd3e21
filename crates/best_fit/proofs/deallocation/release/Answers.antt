-- Seven steps: the free neighbours leave the tree, the block and they become one gap, and this gap enters the tree.
use Rattle.best_fit.proofs.Common.{ℕ, ◌≡◌, sym, ap, ◌∙◌, ◌+◌, ◌*◌, ◌≤◌, ◌∷◌, ◌++◌, length, arith, refl, Option, Tile}
use Rattle.best_fit.proofs.Common.{first_in, last_in, without_last, HasTileAt, EncodesTiles, bits, gaps_of, gaps_in}
use Rattle.best_fit.proofs.Common.{HasGapTree, ChangesGapTree, gap_offset, tile_list, offset_of, start_of}
use Rattle.best_fit.proofs.allocation.LeastGap.{bits-le}
use Rattle.best_fit.proofs.deallocation.Coalescing.{GivenBack, HalfUprooted, Uprooted, alone, first_tree, given_back}
use Rattle.best_fit.proofs.deallocation.Coalescing.{half_uprooted, next_is, previous_is, r_before3, r_behind2, uprooted}
use Rattle.best_fit.proofs.deallocation.OneGap.{HasUsed, colour_may, free3, freed as freed_of, stands2}
use Rattle.best_fit.proofs.deallocation.OneGap.{stands3, use_may}
use Rattle.best_fit.proofs.tags.TileJoins.{rest_of}
use Rattle.best_fit.proofs.free_tree.UnlinkIfGap.{option_few, option_offset}
use Rattle.best_fit.proofs.tags.Writes.{Block, block_tile, live_block}
use Rattle.best_fit.proofs.deallocation.release.Goals.{After-next-behind, After-previous-before, After-unlink_if_gap}
use Rattle.best_fit.proofs.deallocation.release.Goals.{After-unlink_if_gap-2, After-coalesce_previous}
use Rattle.std.specs.Prelude.{unwrap_or}
use Rattle.best_fit.proofs.deallocation.release.Goals as goal

pub next-behind-requires-clause-tile : goal.next-behind-requires-clause-tile
next-behind-requires-clause-tile c = block_tile c.args.touches.now.gaps.now.window (c.args.at + 16) c.args.at
    (live_block c.args.touches.now.gaps.now.window (c.args.at + 16) c.requires.heap c.requires.live) refl

pub previous-before-requires-clause-tile : goal.previous-before-requires-clause-tile
previous-before-requires-clause-tile c =
    let e : c.next-behind.new.self.gaps.now.window ≡ c.args.touches.now.gaps.now.window = cc in
    let h : HasTileAt c.args.touches.now.gaps.now.window c.args.at = block_tile c.args.touches.now.gaps.now.window
    (c.args.at + 16) c.args.at (live_block c.args.touches.now.gaps.now.window (c.args.at + 16) c.requires.heap
    c.requires.live) refl in rw e h

-- the block to free, with the tiles before and after it
abbrev block : (c : After-previous-before) → Block c.args.touches.now.gaps.now.window (c.args.at + 16)
block c = live_block c.args.touches.now.gaps.now.window (c.args.at + 16) c.requires.heap c.requires.live

before : (c : After-previous-before) → c.previous-before.result ≡ last_in (block c).front
before c =
    let w = c.args.touches.now.gaps.now.window in let b = block c in
    let e : c.next-behind.new.self.gaps.now.window ≡ w = cc in
    let said : EncodesTiles c.next-behind.new.self.gaps.now.window (b.front ++ (b.tile ∷ b.back)) = rw e b.said in
    c.previous-before.ensures.tile (b.front ++ (b.tile ∷ b.back)) said ∙ previous_is w c.args.at c.requires.heap b

behind : (c : After-previous-before) → c.next-behind.result ≡ first_in (block c).back
behind c = let b = block c in c.next-behind.ensures.tile (b.front ++ (b.tile ∷ b.back)) b.said
    ∙ next_is c.args.touches.now.gaps.now.window c.args.at c.requires.heap b

pub unlink_if_gap-requires-clause-tree : goal.unlink_if_gap-requires-clause-tree
unlink_if_gap-requires-clause-tree c =
    let p = (goal.at.unlink_if_gap-requires-clause-tree c).After-previous-before in
    let w = c.args.touches.now.gaps.now.window in let b = block p in
    let e : c.previous-before.new.self.gaps.now.window ≡ w = cc in
    let is = c.gap_at-gap_behind.ensures ∙ ap gap_offset (behind p) ∙ option_offset (first_in b.back) in (
      gaps_of (without_last b.front) ++ gaps_of (tile_list (last_in b.front)),
      gaps_of (tile_list (first_in b.back)),
      gaps_of (rest_of b.back),
      is,
      option_few (first_in b.back),
      rw e (first_tree w c.args.at c.requires.heap b),
    )

-- the free tile after the block, if there is one, has left the tree
half : (c : After-unlink_if_gap) (b : Block c.args.touches.now.gaps.now.window (c.args.at + 16))
    → c.next-behind.result ≡ first_in b.back
    → HalfUprooted c.args.touches.now.gaps.now.window c.args.at c.requires.heap b
    c.unlink_if_gap.new.touches.gaps.now.window
    c.args.touches.now.count c.unlink_if_gap.new.touches.count
half c b behind_is =
    let w = c.args.touches.now.gaps.now.window in let d = c.unlink_if_gap.new.touches.gaps.now.window in
    let init = gaps_of (without_last b.front) in let last = gaps_of (tile_list (last_in b.front)) in
    let first = gaps_of (tile_list (first_in b.back)) in let tail = gaps_of (rest_of b.back) in
    let e : c.previous-before.new.self.gaps.now.window ≡ w = cc in
    let is : c.gap_at-gap_behind.result ≡ offset_of first = c.gap_at-gap_behind.ensures ∙ ap gap_offset behind_is
    ∙ option_offset (first_in b.back) in
    let tree : HasGapTree c.previous-before.new.self.gaps.now.window ((init ++ last) ++ (first ++ tail)) =
    rw e (first_tree w c.args.at c.requires.heap b) in
    let rest : ChangesGapTree w d = rw e at c.unlink_if_gap.ensures.frame in
    half_uprooted w c.args.at c.requires.heap b d c.args.touches.now.count c.previous-before.new.self.count
    c.unlink_if_gap.new.touches.count
    (c.unlink_if_gap.ensures.tree (init ++ last) first tail is (option_few (first_in b.back)) tree) rest (omega arith)
    (c.unlink_if_gap.ensures.steps ((init ++ last) ++ (first ++ tail)) tree)

pub unlink_if_gap-requires-2-clause-tree : goal.unlink_if_gap-requires-2-clause-tree
unlink_if_gap-requires-2-clause-tree c =
    let g = goal.at.unlink_if_gap-requires-2-clause-tree c in let p = g.After-previous-before in let b = block p in
    let is = c.gap_at-gap_before.ensures ∙ ap gap_offset (before p) ∙ option_offset (last_in b.front) in (
      gaps_of (without_last b.front),
      gaps_of (tile_list (last_in b.front)),
      gaps_of (rest_of b.back),
      is,
      option_few (last_in b.front),
      (half g.After-unlink_if_gap b (behind p)).tree,
    )

-- the free tile before the block, if there is one, has left the tree too
both : (c : After-unlink_if_gap-2) (b : Block c.args.touches.now.gaps.now.window (c.args.at + 16))
    → c.previous-before.result ≡ last_in b.front
    → HalfUprooted c.args.touches.now.gaps.now.window c.args.at c.requires.heap b
    c.unlink_if_gap.new.touches.gaps.now.window
    c.args.touches.now.count c.unlink_if_gap.new.touches.count
    → Uprooted c.args.touches.now.gaps.now.window c.args.at c.requires.heap b
    c.unlink_if_gap-2.new.touches.gaps.now.window
    c.args.touches.now.count c.unlink_if_gap-2.new.touches.count
both c b before_is h =
    let init = gaps_of (without_last b.front) in let last = gaps_of (tile_list (last_in b.front)) in
    let tail = gaps_of (rest_of b.back) in
    let is : c.gap_at-gap_before.result ≡ offset_of last = c.gap_at-gap_before.ensures ∙ ap gap_offset before_is
    ∙ option_offset (last_in b.front) in
    uprooted c.args.touches.now.gaps.now.window c.args.at c.requires.heap b c.unlink_if_gap.new.touches.gaps.now.window
    c.unlink_if_gap-2.new.touches.gaps.now.window c.args.touches.now.count c.unlink_if_gap.new.touches.count
    c.unlink_if_gap-2.new.touches.count h
    (c.unlink_if_gap-2.ensures.tree init last tail is (option_few (last_in b.front)) h.tree)
    c.unlink_if_gap-2.ensures.frame
    (c.unlink_if_gap-2.ensures.steps (init ++ (last ++ tail)) h.tree)

-- the block stands between tiles whose gaps have left the tree
lone : (c : After-unlink_if_gap-2) (b : Block c.args.touches.now.gaps.now.window (c.args.at + 16))
    → Uprooted c.args.touches.now.gaps.now.window c.args.at c.requires.heap b
    c.unlink_if_gap-2.new.touches.gaps.now.window c.args.touches.now.count c.unlink_if_gap-2.new.touches.count
    → HasUsed c.unlink_if_gap-2.new.touches.gaps.now.window c.args.at
lone c b u = alone c.args.touches.now.gaps.now.window c.args.at c.requires.heap b
    c.unlink_if_gap-2.new.touches.gaps.now.window u.tree u.rest

pub blacken-requires-clause-tile : goal.blacken-requires-clause-tile
blacken-requires-clause-tile c =
    let g = goal.at.blacken-requires-clause-tile c in let p = g.After-previous-before in let b = block p in
    let u = both g.After-unlink_if_gap-2 b (before p) (half g.After-unlink_if_gap b (behind p)) in
    colour_may (lone g.After-unlink_if_gap-2 b u)

pub set_use-requires-clause-tile : goal.set_use-requires-clause-tile
set_use-requires-clause-tile c =
    let g = goal.at.set_use-requires-clause-tile c in let p = g.After-previous-before in let b = block p in
    let u = both g.After-unlink_if_gap-2 b (before p) (half g.After-unlink_if_gap b (behind p)) in
    use_may (lone g.After-unlink_if_gap-2 b u) c.blacken.ensures.tags

pub coalesce_next-requires-clause-tile : goal.coalesce_next-requires-clause-tile
coalesce_next-requires-clause-tile c =
    let g = goal.at.coalesce_next-requires-clause-tile c in let p = g.After-previous-before in let b = block p in
    let u = both g.After-unlink_if_gap-2 b (before p) (half g.After-unlink_if_gap b (behind p)) in
    stands2 (lone g.After-unlink_if_gap-2 b u) c.blacken.ensures.tags c.set_use.ensures.tags

pub coalesce_next-requires-clause-gap : goal.coalesce_next-requires-clause-gap
coalesce_next-requires-clause-gap c = λ ts said.
    let g = goal.at.coalesce_next-requires-clause-gap c in let p = g.After-previous-before in let b = block p in
    let u = both g.After-unlink_if_gap-2 b (before p) (half g.After-unlink_if_gap b (behind p)) in
    r_behind2 c.args.touches.now.gaps.now.window c.args.at c.requires.heap b
    c.unlink_if_gap-2.new.touches.gaps.now.window u.tree u.rest c.blacken.ensures.tags c.set_use.ensures.tags ts said
    ∙ sym (c.gap_at-gap_behind.ensures ∙ ap gap_offset (behind p))

pub coalesce_previous-requires-clause-tile : goal.coalesce_previous-requires-clause-tile
coalesce_previous-requires-clause-tile c =
    let g = goal.at.coalesce_previous-requires-clause-tile c in let p = g.After-previous-before in let b = block p in
    let u = both g.After-unlink_if_gap-2 b (before p) (half g.After-unlink_if_gap b (behind p)) in
    stands3 (lone g.After-unlink_if_gap-2 b u) c.blacken.ensures.tags c.set_use.ensures.tags
    c.coalesce_next.ensures.tags

pub coalesce_previous-requires-clause-free : goal.coalesce_previous-requires-clause-free
coalesce_previous-requires-clause-free c =
    let g = goal.at.coalesce_previous-requires-clause-free c in let p = g.After-previous-before in let b = block p in
    let u = both g.After-unlink_if_gap-2 b (before p) (half g.After-unlink_if_gap b (behind p)) in
    free3 (lone g.After-unlink_if_gap-2 b u) c.blacken.ensures.tags c.set_use.ensures.tags c.coalesce_next.ensures.tags

pub coalesce_previous-requires-clause-gap : goal.coalesce_previous-requires-clause-gap
coalesce_previous-requires-clause-gap c = λ ts said.
    let g = goal.at.coalesce_previous-requires-clause-gap c in let p = g.After-previous-before in let b = block p in
    let u = both g.After-unlink_if_gap-2 b (before p) (half g.After-unlink_if_gap b (behind p)) in
    r_before3 c.args.touches.now.gaps.now.window c.args.at c.requires.heap b
    c.unlink_if_gap-2.new.touches.gaps.now.window u.tree u.rest c.blacken.ensures.tags c.set_use.ensures.tags
    c.coalesce_next.ensures.tags ts said ∙ sym (c.gap_at-gap_before.ensures ∙ ap gap_offset (before p))

-- the block has become one gap with its free neighbours
freed : (c : After-coalesce_previous) (b : Block c.args.touches.now.gaps.now.window (c.args.at + 16))
    → Uprooted c.args.touches.now.gaps.now.window c.args.at c.requires.heap b
    c.unlink_if_gap-2.new.touches.gaps.now.window
    c.args.touches.now.count c.unlink_if_gap-2.new.touches.count
    → GivenBack c.args.touches.now.gaps.now.window c.coalesce_previous.new.touches.gaps.now.window c.args.at
    (start_of (last_in b.front) c.args.at)
freed c b u =
    given_back c.args.touches.now.gaps.now.window c.args.at c.requires.heap b
    c.unlink_if_gap-2.new.touches.gaps.now.window u.tree u.rest
    (freed_of (alone c.args.touches.now.gaps.now.window c.args.at c.requires.heap b
    c.unlink_if_gap-2.new.touches.gaps.now.window u.tree u.rest) c.blacken.ensures.tags c.set_use.ensures.tags
    c.coalesce_next.ensures.tags c.coalesce_previous.ensures.tags)

counted : (c : After-coalesce_previous) (b : Block c.args.touches.now.gaps.now.window (c.args.at + 16))
    → Uprooted c.args.touches.now.gaps.now.window c.args.at c.requires.heap b
    c.unlink_if_gap-2.new.touches.gaps.now.window
    c.args.touches.now.count c.unlink_if_gap-2.new.touches.count
    → c.coalesce_previous.new.touches.count ≤ c.args.touches.now.count + 64
    * bits (length (gaps_in c.args.touches.now.gaps.now.window) + 1) + 75
counted c b u =
    omega arith

-- where the gap begins
starts : {read last : Option Tile} {gap : Option ℕ} {start : ℕ} (at : ℕ) → gap ≡ gap_offset read → read ≡ last
    → start ≡ unwrap_or gap at → start ≡ start_of last at
starts at e f is = is ∙ ap (λ (o : Option ℕ). unwrap_or o at) (e ∙ ap gap_offset f)

pub overflow_add-unwrap_or : goal.overflow_add-unwrap_or
overflow_add-unwrap_or c =
    let g = goal.at.overflow_add-unwrap_or c in let p = g.After-previous-before in let b = block p in
    let small = (freed g.After-coalesce_previous b
    (both g.After-unlink_if_gap-2 b (before p) (half g.After-unlink_if_gap b (behind p)))).small in
    let is : c.unwrap_or.result ≡ start_of (last_in b.front) c.args.at = starts c.args.at c.gap_at-gap_before.ensures
    (before p) c.unwrap_or.ensures in omega arith

pub link_gap-requires-clause-tree : goal.link_gap-requires-clause-tree
link_gap-requires-clause-tree c =
    let g = goal.at.link_gap-requires-clause-tree c in let p = g.After-previous-before in let b = block p in
    let f = freed g.After-coalesce_previous b
    (both g.After-unlink_if_gap-2 b (before p) (half g.After-unlink_if_gap b (behind p))) in
    let is = starts c.args.at c.gap_at-gap_before.ensures (before p) c.unwrap_or.ensures in
    (f.front, f.gap, f.back, ap (λ k. k + 16) is ∙ f.node, f.lacks)

pub returns-clause-released : goal.returns-clause-released
returns-clause-released c =
    let g = goal.at.returns-clause-released c in let p = g.After-previous-before in let b = block p in
    let f = freed g.After-coalesce_previous b
    (both g.After-unlink_if_gap-2 b (before p) (half g.After-unlink_if_gap b (behind p))) in
    let is = starts c.args.at c.gap_at-gap_before.ensures (before p) c.unwrap_or.ensures in
    let node = ap (λ k. k + 16) is ∙ f.node in
    f.released c.link_gap.new.self.gaps.now.window (c.link_gap.ensures.tree f.front f.gap f.back node f.lacks)
    c.link_gap.ensures.frame

pub returns-clause-steps : goal.returns-clause-steps
returns-clause-steps c =
    let g = goal.at.returns-clause-steps c in let p = g.After-previous-before in let b = block p in
    let w = c.args.touches.now.gaps.now.window in
    let u = both g.After-unlink_if_gap-2 b (before p) (half g.After-unlink_if_gap b (behind p)) in
    let f = freed g.After-coalesce_previous b u in let steps = counted g.After-coalesce_previous b u in
    let is = starts c.args.at c.gap_at-gap_before.ensures (before p) c.unwrap_or.ensures in
    let node = ap (λ k. k + 16) is ∙ f.node in
    let last = c.link_gap.ensures.steps f.front f.gap f.back node f.lacks in let few = f.few in
    let fewer = bits-le (length (f.front ++ f.back) + 1) (length (gaps_in w) + 1) (omega arith) in
    omega arith
