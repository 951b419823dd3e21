-- What is done to the window is done to the heap.
use Rattle.best_fit.proofs.Common.{◌≡◌, subst, ◌∙◌, ◌*◌, ◌+◌, ◌≤◌, length, arith, WindowState, bits, gaps_in, current}
use Rattle.best_fit.proofs.Common.{least_size, of_size, EncodesLiveSet, heap_touches, live_of}
use Rattle.best_fit.proofs.allocation.LeastGap.{heap_bits}
use Rattle.best_fit.proofs.tile_walk.Hints.{held-on}
use Rattle.best_fit.proofs.heap.Heap.cut_end.Goals as goal

pub invariant_of-self : goal.invariant_of-self
invariant_of-self c =
    let w = c.self.inside.gaps.window in let f : c.new-touches.result.gaps.now.window ≡ w = cc in
    held-on c.self.inside.hints w.bytes c.cut_gap.new.touches.gaps.now.window.bytes
    (of_size (live_of w.bytes) (least_size (live_of w.bytes))) c.self.invariant.hints
    (subst (λ (v : WindowState). EncodesLiveSet current c.cut_gap.new.touches.gaps.now.window.bytes
    (of_size (live_of v.bytes) (least_size (live_of v.bytes)))) f c.cut_gap.ensures.changes.live) (λ h l. l)

pub returns-clause-unchanged : goal.returns-clause-unchanged
returns-clause-unchanged c =
    let w = c.self.inside.gaps.window in let e : w ≡ c.args.self.now = cc in
    let f : c.new-touches.result.gaps.now.window ≡ w = cc in
    subst (λ (v : WindowState). least_size (live_of v.bytes) ≡ length v.bytes
    → c.cut_gap.new.touches.gaps.now.window ≡ v)
    (f ∙ e) c.cut_gap.ensures.unchanged

pub returns-clause-steps : goal.returns-clause-steps
returns-clause-steps c =
    let w = c.self.inside.gaps.window in let e : w ≡ c.args.self.now = cc in
    let f : c.new-touches.result.gaps.now.window ≡ w = cc in
    let bound : c.cut_gap.new.touches.count ≤ c.new-touches.result.count + 32 * bits (length (gaps_in w) + 1) + 35 =
    subst (λ (v : WindowState). c.cut_gap.new.touches.count
    ≤ c.new-touches.result.count + 32 * bits (length (gaps_in v) + 1)
    + 35) f c.cut_gap.ensures.steps in
    let zero = c.new-touches.ensures.count in let same = heap_bits w c.self.invariant.heap in
    let n = c.count.ensures in let added = c.add.ensures in
    subst (λ (v : WindowState). c.add.new.self ≤ c.args.steps.now + heap_touches (live_of v.bytes)) e (omega arith)
