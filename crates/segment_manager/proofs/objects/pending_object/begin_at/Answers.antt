-- The blocks are requested and the head is written.
use Rattle.segment_manager.proofs.objects.pending_object.begin_at.Goals as goal
use Rattle.segment_manager.proofs.Common.{ObjectRole, RequestsBlocksErr, allocated-room, ap, arith, current, index_at}
use Rattle.segment_manager.proofs.Common.{inr, length, padded, room_for, subst, ℕ, ◌+◌}
use Rattle.segment_manager.proofs.objects.Exchanged.{meant}

pub returns-in_default : goal.returns-in_default
returns-in_default c = λ key entry n away. inr (record {
  index = c.args.index;
  entry = entry;
  name = c.args.name.now;
  is = n;
  place = c.args.place;
  absent = away;
  unmet = subst (λ (m : ℕ). RequestsBlocksErr c.args.heap.now c.request.new.heap (index_at c.args.index) m)
      (ap (λ m. m + c.args.shape.len) c.value_at-at.ensures) c.in_default.ensures;
})

pub write_head-requires-clause-room : goal.write_head-requires-clause-room
write_head-requires-clause-room c =
    let n = room_for c.args.name.now c.args.shape.len in
    let r = meant (ap (λ m. m + c.args.shape.len) c.value_at-at.ensures) c.in-Ok.ensures in
    allocated-room current r.between c.request.new.heap n ObjectRole c.in-Ok.requested.handle
    (16 + padded (length c.args.name.now)) r.takes (omega arith)
