-- The bytes lie in two blocks, and no tag changes.
use Rattle.best_fit.proofs.Common.{◌≡◌, sym, subst, ◌+◌, arith, WindowState, bytes_of, read, current, ChangesBytes}
use Rattle.best_fit.proofs.heap.BlockLinks.{bytes_copied, spot}
use Rattle.best_fit.proofs.tile_walk.Hints.{held-same}
use Rattle.best_fit.proofs.heap.Heap.copy.Goals.{After-move_within}
use Rattle.best_fit.proofs.heap.Heap.copy.Goals as goal

pub overflow_add-from : goal.overflow_add-from
overflow_add-from c = let s = spot c.args.self.now c.self.inside.gaps.window c.args.from c.args.from_at c.args.n (cc)
    c.self.invariant.heap c.requires.source in let i = s.inside in let z = s.size in omega arith

pub overflow_add-to : goal.overflow_add-to
overflow_add-to c = let s = spot c.args.self.now c.self.inside.gaps.window c.args.to c.args.to_at c.args.n (cc)
    c.self.invariant.heap c.requires.target in let i = s.inside in let z = s.size in omega arith

pub move_within-requires-clause-source : goal.move_within-requires-clause-source
move_within-requires-clause-source c =
    (spot c.args.self.now c.self.inside.gaps.window c.args.from c.args.from_at c.args.n (cc) c.self.invariant.heap
    c.requires.source).inside

pub move_within-requires-clause-target : goal.move_within-requires-clause-target
move_within-requires-clause-target c =
    (spot c.args.self.now c.self.inside.gaps.window c.args.to c.args.to_at c.args.n (cc) c.self.invariant.heap
    c.requires.target).inside

copied : (c : After-move_within) → ChangesBytes current c.self.inside.gaps.window c.move_within.new.self
    (c.args.to + c.args.to_at) c.args.n × (read (bytes_of c.move_within.new.self.bytes) (c.args.to + c.args.to_at)
    c.args.n ≡ read (bytes_of c.self.inside.gaps.window.bytes) (c.args.from + c.args.from_at) c.args.n)
copied c =
    let w = c.self.inside.gaps.window in
    let a = spot c.args.self.now w c.args.from c.args.from_at c.args.n (cc) c.self.invariant.heap c.requires.source in
    let b = spot c.args.self.now w c.args.to c.args.to_at c.args.n (cc) c.self.invariant.heap c.requires.target in
    bytes_copied w c.move_within.new.self (c.args.from + c.args.from_at) c.args.to c.args.to_at c.args.n
    c.self.invariant.heap b a.inside c.move_within.ensures.changes

pub invariant_of-self : goal.invariant_of-self
invariant_of-self c = held-same c.self.inside.hints c.self.inside.gaps.window.bytes c.move_within.new.self.bytes
    c.self.invariant.hints (copied (goal.at.invariant_of-self c).After-move_within).0.live

pub returns-clause-changes : goal.returns-clause-changes
returns-clause-changes c =
    let e : c.args.self.now ≡ c.self.inside.gaps.window = cc in
    subst (λ (v : WindowState). ChangesBytes current v c.move_within.new.self (c.args.to + c.args.to_at) c.args.n)
    (sym e) (copied (goal.at.returns-clause-changes c).After-move_within).0

pub returns-clause-content : goal.returns-clause-content
returns-clause-content c =
    let e : c.args.self.now ≡ c.self.inside.gaps.window = cc in
    subst (λ (v : WindowState). read (bytes_of c.move_within.new.self.bytes) (c.args.to + c.args.to_at) c.args.n
    ≡ read (bytes_of v.bytes) (c.args.from + c.args.from_at) c.args.n) (sym e)
    (copied (goal.at.returns-clause-content c).After-move_within).1
