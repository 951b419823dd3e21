-- The block and the gap after it are read, and the block gets the part of the gap that it needs.
use Rattle.best_fit.proofs.Common.{◌≡◌, refl, sym, subst, inl, inr, ◌+◌, ◌%◌, length, arith, WindowState, current}
use Rattle.best_fit.proofs.Common.{HasTileAt, gaps_in, TryExtends, SplitsBlock}
use Rattle.best_fit.proofs.allocation.LeastGap.{bits_some, heap_bits}
use Rattle.best_fit.proofs.in_place_resize.NewLength.{Measured, extended, measured, not_extended, room_above}
use Rattle.best_fit.proofs.extents.FirstFit.{room-IsRoom}
use Rattle.best_fit.proofs.in_place_resize.NextGap.{gap_high}
use Rattle.best_fit.proofs.tags.Writes.{Block, block_len, block_tile, live_block}
use Rattle.best_fit.proofs.in_place_resize.extend.Goals.{After-tile_at-len, After-next_gap_len-gap}
use Rattle.best_fit.proofs.in_place_resize.extend.Goals as goal

-- the two reads leave the window
read_once : (c : After-tile_at-len) → c.tile_at-len.new.self.gaps.now.window ≡ c.args.touches.now.gaps.now.window
read_once c = cc

read_twice : (c : After-next_gap_len-gap) → c.next_gap_len-gap.new.touches.gaps.now.window
    ≡ c.args.touches.now.gaps.now.window
read_twice c = cc

sizes : (c : After-next_gap_len-gap) (b : Block c.args.touches.now.gaps.now.window (c.args.at + 16))
    → Measured c.args.touches.now.gaps.now.window (c.args.at + 16) b c.tile_at-len.result.len c.next_gap_len-gap.result
sizes c b =
    let e : c.tile_at-len.new.self.gaps.now.window ≡ c.args.touches.now.gaps.now.window = cc in
    measured c.args.touches.now.gaps.now.window c.args.at c.requires.heap b c.tile_at-len.result
    c.tile_at-len.ensures.tile c.next_gap_len-gap.result (rw e at c.next_gap_len-gap.ensures.len)

pub tile_at-len-requires-clause-tile : goal.tile_at-len-requires-clause-tile
tile_at-len-requires-clause-tile c = block_tile c.args.touches.now.gaps.now.window (c.args.at + 16) c.args.at
    (live_block c.args.touches.now.gaps.now.window (c.args.at + 16) c.requires.heap c.requires.live) refl

pub next_gap_len-gap-requires-clause-tile : goal.next_gap_len-gap-requires-clause-tile
next_gap_len-gap-requires-clause-tile c =
    let e = read_once (goal.at.next_gap_len-gap-requires-clause-tile c).After-tile_at-len in
    let h : HasTileAt c.args.touches.now.gaps.now.window c.args.at = block_tile c.args.touches.now.gaps.now.window
    (c.args.at + 16) c.args.at (live_block c.args.touches.now.gaps.now.window (c.args.at + 16) c.requires.heap
    c.requires.live) refl in rw e h

pub absorb_and_split-requires-clause-heap : goal.absorb_and_split-requires-clause-heap
absorb_and_split-requires-clause-heap c =
    rw (read_twice (goal.at.absorb_and_split-requires-clause-heap c).After-next_gap_len-gap)
    c.requires.heap

pub absorb_and_split-requires-clause-live : goal.absorb_and_split-requires-clause-live
absorb_and_split-requires-clause-live c =
    rw (read_twice (goal.at.absorb_and_split-requires-clause-live c).After-next_gap_len-gap)
    c.requires.live

pub absorb_and_split-requires-clause-aligned : goal.absorb_and_split-requires-clause-aligned
absorb_and_split-requires-clause-aligned c =
    subst (λ k. k % 16 ≡ 0) (sym c.room-wanted.ensures) (room-IsRoom c.args.n).len

pub returns-then-n-gt-MAX_SEGMENT_LEN-clause-changes : goal.returns-then-n-gt-MAX_SEGMENT_LEN-clause-changes
returns-then-n-gt-MAX_SEGMENT_LEN-clause-changes c =
    let b = live_block c.args.touches.now.gaps.now.window (c.args.at + 16) c.requires.heap c.requires.live in
    let o = b.at in
    let high = gap_high c.args.touches.now.gaps.now.window c.requires.heap (c.args.at + 16) c.args.at b (omega arith)
    0 in let above = room_above c.args.n c.if-n-gt-MAX_SEGMENT_LEN.true in
    not_extended c.args.touches.now.gaps.now.window (c.args.at + 16) c.args.n b (inr (omega arith))

pub returns-then-wanted-len-clause-changes : goal.returns-then-wanted-len-clause-changes
returns-then-wanted-len-clause-changes c =
    let w = c.args.touches.now.gaps.now.window in let b = live_block c.args.touches.now.gaps.now.window
    (c.args.at + 16) c.requires.heap c.requires.live in
    let len = block_len w (c.args.at + 16) c.args.at b refl c.tile_at-len.result c.tile_at-len.ensures.tile in
    let wanted = c.room-wanted.ensures in let short = c.if-wanted-len.true in
    let e = read_once (goal.at.returns-then-wanted-len-clause-changes c).After-tile_at-len in
    let r = not_extended w (c.args.at + 16) c.args.n b (inl (omega arith)) in
    subst (λ (v : WindowState). TryExtends current w v (c.args.at + 16) c.args.n _) (sym e) r

pub overflow_add-len : goal.overflow_add-len
overflow_add-len c =
    let s = sizes (goal.at.overflow_add-len c).After-next_gap_len-gap
    (live_block c.args.touches.now.gaps.now.window (c.args.at + 16) c.requires.heap c.requires.live) in
    let len = s.len_is in let gap = s.gap_is in let high = s.high in omega arith

pub returns-then-len-gap-clause-changes : goal.returns-then-len-gap-clause-changes
returns-then-len-gap-clause-changes c =
    let w = c.args.touches.now.gaps.now.window in let b = live_block c.args.touches.now.gaps.now.window
    (c.args.at + 16) c.requires.heap c.requires.live in
    let p = (goal.at.returns-then-len-gap-clause-changes c).After-next_gap_len-gap in
    let s = sizes p b in let len = s.len_is in let gap = s.gap_is in
    let wanted = c.room-wanted.ensures in let less = c.if-len-gap.true in
    let r = not_extended w (c.args.at + 16) c.args.n b (inr (omega arith)) in
    subst (λ (v : WindowState). TryExtends current w v (c.args.at + 16) c.args.n _) (sym (read_twice p)) r

pub returns-clause-changes : goal.returns-clause-changes
returns-clause-changes c =
    let w = c.args.touches.now.gaps.now.window in let b = live_block c.args.touches.now.gaps.now.window
    (c.args.at + 16) c.requires.heap c.requires.live in
    let p = (goal.at.returns-clause-changes c).After-next_gap_len-gap in let e = read_twice p in
    let s = sizes p b in let len = s.len_is in let gap = s.gap_is in
    let more = c.if-wanted-len.false in let fits = c.if-len-gap.false in
    let cut : SplitsBlock current w c.absorb_and_split.new.touches.gaps.now.window (c.args.at + 16)
    c.room-wanted.result =
    rw e at c.absorb_and_split.ensures.cut in
    extended w c.absorb_and_split.new.touches.gaps.now.window (c.args.at + 16) c.args.n c.room-wanted.result b
    c.room-wanted.ensures (omega arith) (omega arith) cut

pub returns-clause-touches : goal.returns-clause-touches
returns-clause-touches c =
    let e = read_twice (goal.at.returns-clause-touches c).After-next_gap_len-gap in
    let same = heap_bits c.args.touches.now.gaps.now.window c.requires.heap in
    let one = bits_some (length (gaps_in c.args.touches.now.gaps.now.window)) in let zero = c.requires.count in
    let steps = rw e at c.absorb_and_split.ensures.steps in let n1 = c.tile_at-len.ensures.steps_exact in
    let n2 = c.next_gap_len-gap.ensures.steps_exact in omega arith
