-- The block and the gap after it are read, and the block keeps the part that it needs.
use Rattle.best_fit.proofs.Common.{◌≡◌, refl, sym, subst, ◌∙◌, ℕ, ◌+◌, ◌-◌, ◌%◌, ◌<◌, length, arith, WindowState}
use Rattle.best_fit.proofs.Common.{current, HasTileAt, gaps_in, ShrinksInPlace, live_of, SplitsBlock}
use Rattle.best_fit.proofs.allocation.LeastGap.{bits_some, heap_bits}
use Rattle.best_fit.proofs.in_place_resize.NewLength.{Measured, may_cut, may_cut-read, measured, not_cut, not_shortened}
use Rattle.best_fit.proofs.in_place_resize.NewLength.{shortened}
use Rattle.best_fit.proofs.extents.FirstFit.{room-IsRoom}
use Rattle.best_fit.proofs.tags.TileRows.{extent_of}
use Rattle.best_fit.proofs.tags.Writes.{Block, block_len, block_tile, live_block}
use Rattle.best_fit.proofs.in_place_resize.shorten.Goals.{After-tile_at-len, After-next_gap_len-gap, After-leaves_gap}
use Rattle.best_fit.proofs.in_place_resize.shorten.Goals as goal

-- the two reads leave the window
read_once : (c : After-tile_at-len) → c.tile_at-len.new.self.gaps.now.window ≡ c.args.touches.now.gaps.now.window
read_once c = cc

read_twice : (c : After-next_gap_len-gap) → c.next_gap_len-gap.new.touches.gaps.now.window
    ≡ c.args.touches.now.gaps.now.window
read_twice c = cc

sizes : (c : After-next_gap_len-gap) (b : Block c.args.touches.now.gaps.now.window (c.args.at + 16))
    → Measured c.args.touches.now.gaps.now.window (c.args.at + 16) b c.tile_at-len.result.len c.next_gap_len-gap.result
sizes c b =
    let e : c.tile_at-len.new.self.gaps.now.window ≡ c.args.touches.now.gaps.now.window = cc in
    measured c.args.touches.now.gaps.now.window c.args.at c.requires.heap b c.tile_at-len.result
    c.tile_at-len.ensures.tile c.next_gap_len-gap.result (rw e at c.next_gap_len-gap.ensures.len)

pub tile_at-len-requires-clause-tile : goal.tile_at-len-requires-clause-tile
tile_at-len-requires-clause-tile c = block_tile c.args.touches.now.gaps.now.window (c.args.at + 16) c.args.at
    (live_block c.args.touches.now.gaps.now.window (c.args.at + 16) c.requires.heap c.requires.live) refl

pub next_gap_len-gap-requires-clause-tile : goal.next_gap_len-gap-requires-clause-tile
next_gap_len-gap-requires-clause-tile c =
    let e = read_once (goal.at.next_gap_len-gap-requires-clause-tile c).After-tile_at-len in
    let h : HasTileAt c.args.touches.now.gaps.now.window c.args.at = block_tile c.args.touches.now.gaps.now.window
    (c.args.at + 16) c.args.at (live_block c.args.touches.now.gaps.now.window (c.args.at + 16) c.requires.heap
    c.requires.live) refl in rw e h

pub absorb_and_split-requires-clause-heap : goal.absorb_and_split-requires-clause-heap
absorb_and_split-requires-clause-heap c =
    rw (read_twice (goal.at.absorb_and_split-requires-clause-heap c).After-next_gap_len-gap)
    c.requires.heap

pub absorb_and_split-requires-clause-live : goal.absorb_and_split-requires-clause-live
absorb_and_split-requires-clause-live c =
    rw (read_twice (goal.at.absorb_and_split-requires-clause-live c).After-next_gap_len-gap)
    c.requires.live

pub absorb_and_split-requires-clause-aligned : goal.absorb_and_split-requires-clause-aligned
absorb_and_split-requires-clause-aligned c =
    subst (λ k. k % 16 ≡ 0) (sym c.room-wanted.ensures) (room-IsRoom c.args.n).len

pub returns-then-n-gt-MAX_SEGMENT_LEN-clause-changes : goal.returns-then-n-gt-MAX_SEGMENT_LEN-clause-changes
returns-then-n-gt-MAX_SEGMENT_LEN-clause-changes c =
    let b = live_block c.args.touches.now.gaps.now.window (c.args.at + 16) c.requires.heap c.requires.live in
    not_shortened c.args.touches.now.gaps.now.window (c.args.at + 16) c.args.n c.requires.heap b (omega arith)

pub returns-then-len-wanted-clause-changes : goal.returns-then-len-wanted-clause-changes
returns-then-len-wanted-clause-changes c =
    let w = c.args.touches.now.gaps.now.window in let b = live_block c.args.touches.now.gaps.now.window
    (c.args.at + 16) c.requires.heap c.requires.live in
    let len = block_len w (c.args.at + 16) c.args.at b refl c.tile_at-len.result c.tile_at-len.ensures.tile in
    let wanted = c.room-wanted.ensures in let short = c.if-len-wanted.true in
    let e = read_once (goal.at.returns-then-len-wanted-clause-changes c).After-tile_at-len in
    let r = not_shortened w (c.args.at + 16) c.args.n c.requires.heap b (omega arith) in
    subst (λ (v : WindowState). ShrinksInPlace current w v (c.args.at + 16) c.args.n) (sym e) r

-- whether the part cut off can be a gap
leaves : (c : After-leaves_gap) (b : Block c.args.touches.now.gaps.now.window (c.args.at + 16))
    → Measured c.args.touches.now.gaps.now.window (c.args.at + 16) b c.tile_at-len.result.len c.next_gap_len-gap.result
    → c.room-wanted.result < c.tile_at-len.result.len
    → may_cut (live_of c.args.touches.now.gaps.now.window.bytes) (extent_of b.tile b.role)
    c.args.n ≡ c.leaves_gap.result
leaves c b s long =
    let len = s.len_is in
    may_cut-read (live_of c.args.touches.now.gaps.now.window.bytes) (extent_of b.tile b.role) c.args.n
    c.next_gap_len-gap.result (c.tile_at-len.result.len - c.room-wanted.result) s.gap_is (omega arith)
    ∙ sym c.leaves_gap.ensures

pub returns-then-leaves_gap-clause-changes : goal.returns-then-leaves_gap-clause-changes
returns-then-leaves_gap-clause-changes c =
    let w = c.args.touches.now.gaps.now.window in let b = live_block c.args.touches.now.gaps.now.window
    (c.args.at + 16) c.requires.heap c.requires.live in let g = goal.at.returns-then-leaves_gap-clause-changes c in
    let s = sizes g.After-next_gap_len-gap b in let wanted = c.room-wanted.ensures in let long =
    c.if-len-wanted.false in
    let cut : SplitsBlock current w c.absorb_and_split.new.touches.gaps.now.window (c.args.at + 16)
    c.room-wanted.result =
    rw (read_twice g.After-next_gap_len-gap) at c.absorb_and_split.ensures.cut in
    shortened w c.absorb_and_split.new.touches.gaps.now.window (c.args.at + 16) c.args.n c.requires.heap b (omega arith)
    (leaves g.After-leaves_gap b s long ∙ c.if-leaves_gap.true)
    (subst (λ (k : ℕ). SplitsBlock current w c.absorb_and_split.new.touches.gaps.now.window (c.args.at + 16) k)
    wanted cut)

pub returns-else-leaves_gap-clause-changes : goal.returns-else-leaves_gap-clause-changes
returns-else-leaves_gap-clause-changes c =
    let w = c.args.touches.now.gaps.now.window in let b = live_block c.args.touches.now.gaps.now.window
    (c.args.at + 16) c.requires.heap c.requires.live in let g = goal.at.returns-else-leaves_gap-clause-changes c in
    let no = leaves g.After-leaves_gap b (sizes g.After-next_gap_len-gap b) c.if-len-wanted.false
    ∙ c.if-leaves_gap.false in
    let r = not_cut w (c.args.at + 16) c.args.n c.requires.heap b no in
    subst (λ (v : WindowState). ShrinksInPlace current w v (c.args.at + 16) c.args.n)
    (sym (read_twice g.After-next_gap_len-gap)) r

pub returns-then-leaves_gap-clause-touches : goal.returns-then-leaves_gap-clause-touches
returns-then-leaves_gap-clause-touches c =
    let e = read_twice (goal.at.returns-then-leaves_gap-clause-touches c).After-next_gap_len-gap in
    let same = heap_bits c.args.touches.now.gaps.now.window c.requires.heap in
    let one = bits_some (length (gaps_in c.args.touches.now.gaps.now.window)) in let zero = c.requires.count in
    let steps = rw e at c.absorb_and_split.ensures.steps in let n1 = c.tile_at-len.ensures.steps_exact in
    let n2 = c.next_gap_len-gap.ensures.steps_exact in omega arith
