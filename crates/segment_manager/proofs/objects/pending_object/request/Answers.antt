-- The index has room or grows, and then the object's block is there, or all is given back.
use Rattle.segment_manager.proofs.objects.pending_object.request.Goals as goal
use Rattle.segment_manager.proofs.Common.{IfSome, IsTrue, WindowState, index_at, is_live_in, live_of, subst, sym}
use Rattle.segment_manager.proofs.objects.Exchanged.{growth-held, request-unmet}

pub give_back-requires : goal.give_back-requires
give_back-requires c = record {
  growth = subst (λ (s : WindowState). IfSome c.in_ok-growth.growth.block
      (λ h. IsTrue (is_live_in (live_of s.bytes) h))) (sym c.in-Err.ensures.answer.same)
      (growth-held c.args.heap.now c.prepare.new.heap (index_at c.args.index) c.in_ok-growth.growth.block
      c.in_ok-growth.ensures.growth);
}

pub returns-in-Err : goal.returns-in-Err
returns-in-Err c = request-unmet c.args.heap.now c.prepare.new.heap c.allocate.new.self c.give_back.new.heap
    (index_at c.args.index) c.args.len c.in_ok-growth.growth.block c.requires.index.heap
    c.in_ok-growth.ensures.growth c.in-Err.ensures.answer c.give_back.ensures.changes c.give_back.ensures.unchanged
