-- The block has the room, or it is lengthened, or it is replaced.
use Rattle.best_fit.proofs.Common.{◌≡◌, sym, subst, IsTrue, IfSome, WindowState, current, Regrows, RegrowsOk, IsHeap}
use Rattle.best_fit.proofs.Common.{has_room, live_of}
use Rattle.best_fit.specs.Exchange.{block_of}
use Rattle.best_fit.proofs.exchange.OneExchange.{given-same, given-longer, not_longer-same, regrows-replaced}
use Rattle.best_fit.proofs.exchange.OneExchange.{regrows-none}
use Rattle.best_fit.proofs.allocation.NewBlock.{has_room-names}
use Rattle.best_fit.proofs.heap.Heap.regrow.Goals.{In-Some}
use Rattle.best_fit.proofs.heap.Heap.regrow.Goals as goal

heap : (c : In-Some) → IsHeap current c.args.self.now.bytes
heap c =
    let is_now : c.self.inside.gaps.window ≡ c.args.self.now = cc in
    subst (λ (v : WindowState). IsHeap current v.bytes) is_now c.self.invariant.heap

-- the block that was given has the room that is in use
has : (c : In-Some) → IsTrue (has_room (live_of c.args.self.now.bytes) c.in-Some.handle c.args.used)
has c = subst (λ o. IfSome o (λ h. IsTrue (has_room (live_of c.args.self.now.bytes) h c.args.used))) c.in-Some.is
    c.requires.room

pub room-requires : goal.room-requires
room-requires c = has_room-names c.in-Some.handle c.args.used (live_of c.args.self.now.bytes).extents
    (has (goal.at.room-requires c).In-Some)

pub returns-then-room-n : goal.returns-then-room-n
returns-then-room-n c =
    let p = (goal.at.returns-then-room-n c).In-Some in
    subst (λ o. RegrowsOk current c.args.self.now c.args.self.now (block_of (live_of c.args.self.now.bytes) o)
    c.args.n c.args.used c.in-Some.handle) (sym c.in-Some.is)
    (given-same c.args.self.now c.in-Some.handle c.args.n c.args.used (heap p) (has p) c.room.result c.room.ensures
    c.if-room-n.true)

pub try_extend-requires : goal.try_extend-requires
try_extend-requires c = has_room-names c.in-Some.handle c.args.used (live_of c.args.self.now.bytes).extents
    (has (goal.at.try_extend-requires c).In-Some)

pub returns-then-try_extend : goal.returns-then-try_extend
returns-then-try_extend c =
    let p = (goal.at.returns-then-try_extend c).In-Some in
    subst (λ o. RegrowsOk current c.args.self.now c.try_extend.new.self (block_of (live_of c.args.self.now.bytes) o)
    c.args.n c.args.used c.in-Some.handle) (sym c.in-Some.is)
    (given-longer c.args.self.now c.try_extend.new.self c.in-Some.handle c.args.n c.args.used c.try_extend.result
    (heap p) (has p) c.room.result c.room.ensures c.if-room-n.false c.try_extend.ensures.changes c.if-try_extend.true)

pub replace-requires-clause-room : goal.replace-requires-clause-room
replace-requires-clause-room c =
    let p = (goal.at.replace-requires-clause-room c).In-Some in
    subst (λ (v : WindowState). IsTrue (has_room (live_of v.bytes) c.in-Some.handle c.args.used))
    (sym (not_longer-same c.args.self.now c.try_extend.new.self c.in-Some.handle c.args.n c.args.used
    c.try_extend.result (heap p) (has p) c.room.result c.room.ensures c.if-room-n.false
    c.try_extend.ensures.changes c.if-try_extend.false)) (has p)

pub returns-in-None : goal.returns-in-None
returns-in-None c =
    subst (λ o. Regrows current c.args.self.now c.allocate.new.self o c.args.n c.args.used c.allocate.result)
    (sym c.in-None.is)
    (regrows-none c.args.self.now c.allocate.new.self c.args.n c.args.used c.allocate.result c.allocate.ensures.answer)

pub returns-else-try_extend : goal.returns-else-try_extend
returns-else-try_extend c =
    let p = (goal.at.returns-else-try_extend c).In-Some in
    subst (λ o. Regrows current c.args.self.now c.replace.new.self o c.args.n c.args.used c.replace.result)
    (sym c.in-Some.is)
    (regrows-replaced c.args.self.now c.try_extend.new.self c.replace.new.self c.in-Some.handle c.args.n c.args.used
    c.try_extend.result c.replace.result (heap p) (has p) c.room.result c.room.ensures c.if-room-n.false
    c.try_extend.ensures.changes c.if-try_extend.false c.replace.ensures)
