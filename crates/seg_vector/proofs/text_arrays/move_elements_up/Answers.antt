-- The last element that has not moved moves up, unchanged.
use Rattle.seg_vector.proofs.{◌≡◌, subst, ◌+◌, ◌-◌, ◌*◌, ◌%◌, arith, IfSome, bytes_of, link_at, ℕ, laid-heap, live_of}
use Rattle.seg_vector.proofs.{changed-room, room-less, even-now, up-changed, up-next, up-source}
use Rattle.seg_vector.proofs.text_arrays.move_elements_up.Goals as goal

pub carry_element-requires : goal.carry_element-requires
carry_element-requires c =
    let v = c.loop-i.invariant in let l = live_of c.args.heap.now.bytes in let a = c.args.array + c.args.at in
    let k : ℕ = c.args.n - 1 - c.loop-i.i in let place : ℕ = c.args.at + 16 * k in
    let is : k + (c.loop-i.i + 1) ≡ c.args.n = omega (arith, c.loop-i-test.true) in
    let at : a + 16 * k ≡ c.args.array + (c.args.at + 16 * k) = omega arith in
    record {
      element = record {
        whole = omega (arith, c.requires.whole);
        room = changed-room _ _ _ _ _ c.args.array (place + 16) v.change (room-less l c.args.array (c.args.at + 16
            * c.args.n + 16) (place + 16) (omega (arith, is)) c.requires.room);
      };
      room = record {
        heap = laid-heap _ _ v.change.live;
        whole = omega (arith, c.requires.whole);
        room = changed-room _ _ _ _ _ c.args.array (place + 16 + 16) v.change (room-less l c.args.array (c.args.at + 16
            * c.args.n + 16) (place + 16 + 16) (omega (arith, is)) c.requires.room);
        target = subst (λ w. IfSome (link_at (bytes_of c.loop-i.heap.bytes) w) (λ target. target % 16 ≡ 0)) at
            (even-now a c.args.n k c.requires.even (omega (arith, is)) (up-source a k c.loop-i.i c.args.n is v.change));
      };
    }

pub loop-i-preserved : goal.loop-i-preserved
loop-i-preserved c =
    let a = c.args.array + c.args.at in let k = c.args.n - 1 - c.loop-i.i in
    let is : k + (c.loop-i.i + 1) ≡ c.args.n = omega (arith, c.loop-i-test.true) in
    record {
      change = up-changed a k c.loop-i.i c.args.n is c.loop-i.invariant.change (omega arith)
          c.carry_element.ensures.changes;
      carried = up-next a k c.loop-i.i c.args.n is c.loop-i.invariant.carried c.loop-i.invariant.change (omega arith)
          (omega arith) c.carry_element.ensures.changes c.carry_element.ensures.carry;
    }
