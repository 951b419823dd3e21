-- The next element is copied to its place, unchanged.
use Rattle.seg_vector.proofs.{ℕ, ◌≡◌, subst, ◌+◌, ◌*◌, ◌%◌, arith, IfSome, bytes_of, link_at, live_of, laid-heap}
use Rattle.seg_vector.proofs.{changed-room, room-less, carried-changed, carried-next, even-now, source-stays}
use Rattle.seg_vector.proofs.text_arrays.move_elements_down.Goals as goal

pub carry_element-requires : goal.carry_element-requires
carry_element-requires c =
    let i = c.loop-i.i in let v = c.loop-i.invariant in let l = live_of c.args.heap.now.bytes in
    let from_at : ℕ = c.args.from_at + 16 * i in let to_at : ℕ = c.args.to_at + 16 * i in
    let a = c.args.from + c.args.from_at in
    let at : a + 16 * i ≡ c.args.from + (c.args.from_at + 16 * i) = omega arith in
    record {
      element = record {
        whole = omega (arith, c.requires.from_whole);
        room = changed-room _ _ _ _ _ c.args.from (from_at + 16) v.change (room-less l c.args.from (c.args.from_at + 16
            * c.args.n) (from_at + 16) (omega (arith, c.loop-i-test.true)) c.requires.source);
      };
      room = record {
        heap = laid-heap _ _ v.change.live;
        whole = omega (arith, c.requires.to_whole);
        room = changed-room _ _ _ _ _ c.args.to (to_at + 16) v.change (room-less l c.args.to (c.args.to_at + 16
            * c.args.n) (to_at + 16) (omega (arith, c.loop-i-test.true)) c.requires.target);
        target = subst (λ k. IfSome (link_at (bytes_of c.loop-i.heap.bytes) k) (λ target. target % 16 ≡ 0)) at
            (even-now a c.args.n i c.requires.even c.loop-i-test.true
            (source-stays a i c.args.n v.change c.requires.apart c.loop-i-test.true));
      };
    }

pub loop-i-preserved : goal.loop-i-preserved
loop-i-preserved c = record {
  change = carried-changed c.loop-i.i c.loop-i.invariant.change (omega arith) c.carry_element.ensures.changes;
  carried = carried-next (c.args.from + c.args.from_at) c.loop-i.i c.args.n c.loop-i.invariant.carried
      c.loop-i.invariant.change c.requires.apart c.loop-i-test.true (omega arith) (omega arith)
      c.carry_element.ensures.changes c.carry_element.ensures.carry;
}
