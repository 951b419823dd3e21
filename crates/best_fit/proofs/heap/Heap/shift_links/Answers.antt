-- The links lie in blocks, and no tag changes.
use Rattle.best_fit.proofs.Common.{◌≡◌, sym, subst, ◌+◌, ◌*◌, ◌≤◌, ℕ, length, arith, WindowState, bytes_of, current}
use Rattle.best_fit.proofs.Common.{ChangesBytes, KeepTargets}
use Rattle.best_fit.proofs.heap.BlockLinks.{links_changed, spot}
use Rattle.best_fit.proofs.tile_walk.Hints.{held-same}
use Rattle.best_fit.proofs.heap.Heap.shift_links.Goals.{After-shift}
use Rattle.best_fit.proofs.heap.Heap.shift_links.Goals as goal

pub overflow_add-from : goal.overflow_add-from
overflow_add-from c = let s = spot c.args.self.now c.self.inside.gaps.window c.args.from c.args.from_at (8 * c.args.n)
    (cc) c.self.invariant.heap c.requires.source in let i = s.inside in let z = s.size in omega arith

pub overflow_add-from-2 : goal.overflow_add-from-2
overflow_add-from-2 c = let s = spot c.args.self.now c.self.inside.gaps.window c.args.from c.args.from_at (8 * c.args.n)
    (cc) c.self.invariant.heap c.requires.source in let i = s.inside in let z = s.size in omega arith

pub overflow_add-to : goal.overflow_add-to
overflow_add-to c = let s = spot c.args.self.now c.self.inside.gaps.window c.args.to c.args.to_at (8 * c.args.n) (cc)
    c.self.invariant.heap c.requires.target in let i = s.inside in let z = s.size in omega arith

pub way-requires-clause-source_aligned : goal.way-requires-clause-source_aligned
way-requires-clause-source_aligned c = let a = (spot c.args.self.now c.self.inside.gaps.window c.args.from
    c.args.from_at (8 * c.args.n) (cc) c.self.invariant.heap c.requires.source).aligned in let f =
    c.requires.from_aligned in omega arith

pub way-requires-clause-target_aligned : goal.way-requires-clause-target_aligned
way-requires-clause-target_aligned c = let a = (spot c.args.self.now c.self.inside.gaps.window c.args.to c.args.to_at (8
    * c.args.n) (cc) c.self.invariant.heap c.requires.target).aligned in let f = c.requires.to_aligned in omega arith

pub shift-requires-clause-aligned : goal.shift-requires-clause-aligned
shift-requires-clause-aligned c = let a = (spot c.args.self.now c.self.inside.gaps.window c.args.from c.args.from_at (8
    * c.args.n) (cc) c.self.invariant.heap c.requires.source).aligned in let f = c.requires.from_aligned in omega arith

pub shift-requires-clause-source : goal.shift-requires-clause-source
shift-requires-clause-source c = (spot c.args.self.now c.self.inside.gaps.window c.args.from c.args.from_at (8 *
    c.args.n) (cc) c.self.invariant.heap c.requires.source).inside

pub shift-requires-clause-target : goal.shift-requires-clause-target
shift-requires-clause-target c =
    subst (λ (k : ℕ). k + 8 * c.args.n ≤ length c.self.inside.gaps.window.bytes) (sym c.way.ensures.result)
    (spot c.args.self.now c.self.inside.gaps.window c.args.to c.args.to_at (8 * c.args.n) (cc)
    c.self.invariant.heap c.requires.target).inside

changed : (c : After-shift) → ChangesBytes current c.self.inside.gaps.window c.shift.new.w (c.args.to + c.args.to_at)
    (8 * c.args.n)
changed c = links_changed c.self.inside.gaps.window c.shift.new.w c.args.to c.args.to_at
    (c.args.from + c.args.from_at) c.args.n _ c.self.invariant.heap (spot c.args.self.now c.self.inside.gaps.window
    c.args.to c.args.to_at (8 * c.args.n) (cc) c.self.invariant.heap c.requires.target) c.way.ensures.result
    c.shift.ensures.output

pub invariant_of-self : goal.invariant_of-self
invariant_of-self c = held-same c.self.inside.hints c.self.inside.gaps.window.bytes c.shift.new.w.bytes
    c.self.invariant.hints (changed (goal.at.invariant_of-self c).After-shift).live

pub returns-clause-changes : goal.returns-clause-changes
returns-clause-changes c =
    let e : c.args.self.now ≡ c.self.inside.gaps.window = cc in
    subst (λ (v : WindowState). ChangesBytes current v c.shift.new.w (c.args.to + c.args.to_at) (8 * c.args.n)) (sym e)
    (changed (goal.at.returns-clause-changes c).After-shift)

pub returns-clause-lead : goal.returns-clause-lead
returns-clause-lead c =
    let e : c.args.self.now ≡ c.self.inside.gaps.window = cc in
    subst (λ (v : WindowState). KeepTargets (bytes_of v.bytes) (bytes_of c.shift.new.w.bytes)
    (c.args.from + c.args.from_at) (c.args.to + c.args.to_at) c.args.n) (sym e)
    (subst (λ (k : ℕ). KeepTargets (bytes_of c.self.inside.gaps.window.bytes) (bytes_of c.shift.new.w.bytes)
    (c.args.from + c.args.from_at) k c.args.n) c.way.ensures.result c.shift.ensures.lead)
