use Rattle.best_fit.proofs.Common.{◌≡◌, subst, IsTrue, WindowState, is_live_in, live_of}
use Rattle.best_fit.proofs.tile_walk.Hints.{noted-lead}
use Rattle.best_fit.proofs.heap.Heap.insert_hint.Goals as goal

pub invariant_of-self : goal.invariant_of-self
invariant_of-self c =
    let e : c.args.self.now ≡ c.self.inside.gaps.window = cc in
    record {
      heap = c.self.invariant.heap;
      hints = noted-lead c.self.inside.hints c.insert.new.self c.self.inside.gaps.window.bytes c.args.handle
          c.self.invariant.hints
          (subst (λ (v : WindowState). IsTrue (is_live_in (live_of v.bytes) c.args.handle)) e c.requires)
          c.insert.ensures;
    }
