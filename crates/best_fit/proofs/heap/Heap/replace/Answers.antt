-- The new block is allocated while the old one is in use.
use Rattle.best_fit.proofs.Common.{◌≡◌, ◌+◌, subst, arith, IsTrue, WindowState, bytes_of, read, current, ChangesBytes}
use Rattle.best_fit.proofs.Common.{IsHeap, has_room, live_of, Storage}
use Rattle.best_fit.proofs.allocation.NewBlock.{allocated-room, allocated-room_before, changed-room, has_room-names}
use Rattle.best_fit.proofs.exchange.OneExchange.{allocated-fits, replaced}
use Rattle.best_fit.proofs.heap.Heap.replace.Goals as goal

pub copy-requires-clause-source : goal.copy-requires-clause-source
copy-requires-clause-source c =
    let n : c.args.used ≡ 0 + c.args.used = omega arith in
    subst (λ k. IsTrue (has_room (live_of c.allocate.new.self.bytes) c.args.handle k)) n
    (allocated-room_before current c.args.self.now c.allocate.new.self c.args.n Storage c.in_ok-new.new c.args.handle
    c.args.used c.in_ok-new.ensures.answer c.requires.room)

pub copy-requires-clause-target : goal.copy-requires-clause-target
copy-requires-clause-target c =
    let n : c.args.used ≡ 0 + c.args.used = omega arith in
    subst (λ k. IsTrue (has_room (live_of c.allocate.new.self.bytes) c.in_ok-new.new k)) n
    (allocated-room current c.args.self.now c.allocate.new.self c.args.n Storage c.in_ok-new.new c.args.used
    c.in_ok-new.ensures.answer c.requires.fits)

pub deallocate-requires : goal.deallocate-requires
deallocate-requires c =
    let n : c.in_ok-new.new + 0 ≡ c.in_ok-new.new = omega arith in
    let change = subst (λ k. ChangesBytes current c.allocate.new.self c.copy.new.self k c.args.used) n
    c.copy.ensures.changes in
    has_room-names c.args.handle c.args.used (live_of c.copy.new.self.bytes).extents
    (changed-room current c.allocate.new.self c.copy.new.self c.in_ok-new.new c.args.used
    c.args.handle c.args.used change
    (allocated-room_before current c.args.self.now c.allocate.new.self c.args.n Storage c.in_ok-new.new c.args.handle
    c.args.used c.in_ok-new.ensures.answer c.requires.room))

pub returns : goal.returns
returns c =
    let is_now : c.self.inside.gaps.window ≡ c.args.self.now = cc in
    let heap : IsHeap current c.args.self.now.bytes = subst (λ (v : WindowState). IsHeap current v.bytes) is_now
    c.self.invariant.heap in
    let n : c.in_ok-new.new + 0 ≡ c.in_ok-new.new = omega arith in
    let o : c.args.handle + 0 ≡ c.args.handle = omega arith in
    let change = subst (λ k. ChangesBytes current c.allocate.new.self c.copy.new.self k c.args.used) n
    c.copy.ensures.changes in
    let moved = subst (λ k. read (bytes_of c.copy.new.self.bytes) k c.args.used
    ≡ read (bytes_of c.allocate.new.self.bytes) (c.args.handle + 0) c.args.used) n c.copy.ensures.content in
    let content = subst (λ k. read (bytes_of c.copy.new.self.bytes) c.in_ok-new.new c.args.used
    ≡ read (bytes_of c.allocate.new.self.bytes) k c.args.used) o moved in
    replaced c.args.self.now c.allocate.new.self c.copy.new.self c.deallocate.new.self c.args.handle c.args.n
    c.args.used c.in_ok-new.new heap c.requires.room c.requires.fits
    c.in_ok-new.ensures.answer (allocated-fits c.args.self.now c.allocate.new.self c.args.n c.in_ok-new.new
    c.in_ok-new.ensures.answer) change content c.deallocate.ensures.released
