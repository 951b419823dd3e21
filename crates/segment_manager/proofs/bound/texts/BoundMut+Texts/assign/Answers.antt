-- The texts replace the texts of the vector of strings.
use Rattle.segment_manager.proofs.bound.texts.BoundMut+Texts.assign.Goals as goal
use Rattle.segment_manager.proofs.{Common.refl, bound.ByKey.still-bound, bound.ByKey.texts-here, bound.ByKey.to-change}
use Rattle.segment_manager.proofs.containers.TextListCalls.{array-first, assign-error, texts-assigned}

pub assign-requires : goal.assign-requires
assign-requires c = texts-here c.segment.view_is c.segment.invariant c.own_container-place.ensures c.args.self.now.live

pub invariant_of-segment : goal.invariant_of-segment
invariant_of-segment c = (texts-assigned c.segment.view_is c.segment.invariant (to-change c.args.self.now.live
    c.args.self.now.writing c.own_container-place.ensures) _ _ _ c.judge_all.ensures c.assign.ensures.changes).segment

pub invariant_of-self : goal.invariant_of-self
invariant_of-self c = still-bound c.args.self.now.live c.args.self.now.writing c.segment.view_is c.segment.invariant _ _
    _ _ _ refl (texts-assigned c.segment.view_is c.segment.invariant (to-change c.args.self.now.live
    c.args.self.now.writing c.own_container-place.ensures) _ _ _ c.judge_all.ensures c.assign.ensures.changes).step

pub returns : goal.returns
returns c =
    let done = texts-assigned c.segment.view_is c.segment.invariant (to-change c.args.self.now.live
    c.args.self.now.writing c.own_container-place.ensures) _ _ _ c.judge_all.ensures c.assign.ensures.changes in
    record {
      unchanged = record { loan = refl; object = refl };
      step = done.step;
      refused = done.refused;
      error = assign-error c.segment.view_is c.segment.invariant (to-change c.args.self.now.live c.args.self.now.writing
          c.own_container-place.ensures) _ _ c.assign.result c.assign.ensures.changes;
      first = array-first c.segment.view_is c.segment.invariant (to-change c.args.self.now.live c.args.self.now.writing
          c.own_container-place.ensures) _ _ c.assign.ensures.first;
    }
