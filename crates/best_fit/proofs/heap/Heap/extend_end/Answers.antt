-- A block is appended after all others, and freed.
use Rattle.best_fit.proofs.Common.{◌≡◌, ap, subst, ◌+◌, ◌≤◌, List, length, arith, WindowState, current, bits}
use Rattle.best_fit.proofs.Common.{AppendsBlock, MovesEnd, of_size, Gap, gaps_in, heap_touches, live_of}
use Rattle.best_fit.proofs.allocation.LeastGap.{heap_bits}
use Rattle.best_fit.proofs.ending.LastBlock.{behind_heap, behind_live, end_moved}
use Rattle.best_fit.proofs.tile_walk.Hints.{held-on}
use Rattle.best_fit.proofs.heap.Heap.extend_end.Goals.{After-append_block-at}
use Rattle.best_fit.proofs.heap.Heap.extend_end.Goals as goal

-- the block after all others, and where it begins
block : (c : After-append_block-at) → AppendsBlock current c.self.inside.gaps.window
    c.append_block-at.new.touches.gaps.now.window c.args.extra
block c =
    let f : c.new-touches.result.gaps.now.window ≡ c.self.inside.gaps.window = cc in
    subst (λ (v : WindowState). AppendsBlock current v c.append_block-at.new.touches.gaps.now.window c.args.extra) f
    c.append_block-at.ensures.block

place : (c : After-append_block-at) → c.append_block-at.result + 16 ≡ length c.self.inside.gaps.window.bytes
place c =
    let f : c.new-touches.result.gaps.now.window ≡ c.self.inside.gaps.window = cc in
    subst (λ (v : WindowState). c.append_block-at.result + 16 ≡ length v.bytes) f c.append_block-at.ensures.position

-- no gap more
gaps : (c : After-append_block-at) → length (gaps_in c.append_block-at.new.touches.gaps.now.window) ≡ length
    (gaps_in c.self.inside.gaps.window)
gaps c =
    let f : c.new-touches.result.gaps.now.window ≡ c.self.inside.gaps.window = cc in
    subst (λ (v : WindowState). length (gaps_in c.append_block-at.new.touches.gaps.now.window) ≡ length (gaps_in v)) f
    (ap (λ (gs : List Gap). length gs) c.append_block-at.ensures.gaps)

pub release-requires-clause-heap : goal.release-requires-clause-heap
release-requires-clause-heap c =
    let p = (goal.at.release-requires-clause-heap c).After-append_block-at in
    behind_heap c.self.inside.gaps.window c.append_block-at.new.touches.gaps.now.window c.args.extra
    c.append_block-at.result (block p) (place p)

pub release-requires-clause-live : goal.release-requires-clause-live
release-requires-clause-live c =
    let p = (goal.at.release-requires-clause-live c).After-append_block-at in
    behind_live c.self.inside.gaps.window c.append_block-at.new.touches.gaps.now.window c.args.extra
    c.append_block-at.result (block p) (place p)

pub invariant_of-self : goal.invariant_of-self
invariant_of-self c =
    let p = (goal.at.invariant_of-self c).After-append_block-at in let w = c.self.inside.gaps.window in
    let moved = end_moved w c.append_block-at.new.touches.gaps.now.window c.args.extra c.append_block-at.result
    (block p) (place p) c.release.new.touches.gaps.now.window c.release.ensures.released in
    held-on c.self.inside.hints w.bytes c.release.new.touches.gaps.now.window.bytes
    (of_size (live_of w.bytes) (length w.bytes + c.args.extra)) c.self.invariant.hints moved.live (λ h l. l)

pub returns-clause-changes : goal.returns-clause-changes
returns-clause-changes c =
    let p = (goal.at.returns-clause-changes c).After-append_block-at in let w = c.self.inside.gaps.window in
    let e : w ≡ c.args.self.now = cc in
    subst (λ (v : WindowState). MovesEnd current v c.release.new.touches.gaps.now.window
    (length v.bytes + c.args.extra)) e
    (end_moved w c.append_block-at.new.touches.gaps.now.window c.args.extra c.append_block-at.result (block p)
    (place p) c.release.new.touches.gaps.now.window c.release.ensures.released)

pub returns-clause-steps : goal.returns-clause-steps
returns-clause-steps c =
    let p = (goal.at.returns-clause-steps c).After-append_block-at in let w = c.self.inside.gaps.window in
    let e : w ≡ c.args.self.now = cc in
    let zero = c.new-touches.ensures.count in let two = c.append_block-at.ensures.steps_exact in
    let more = c.release.ensures.steps in
    let alike = ap (λ n. bits (n + 1)) (gaps p) in let same = heap_bits w c.self.invariant.heap in
    let n = c.count.ensures in let added = c.add.ensures in
    subst (λ (v : WindowState). c.add.new.self ≤ c.args.steps.now + heap_touches (live_of v.bytes)) e (omega arith)
