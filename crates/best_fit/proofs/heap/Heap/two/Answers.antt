-- Two blocks share no byte, so any write to the payload of the second keeps the heap.
use Rattle.best_fit.proofs.Common.{◌≡◌, sym, subst, ap, ◌∙◌, List, ℕ, arith, refill, part, patched, with_bytes}
use Rattle.best_fit.proofs.Common.{live_of, payload_at, IsHintedHeap}
use Rattle.best_fit.proofs.lending.Payloads.{ReadAt, payload_written, read_at, with_payload-lent}
use Rattle.best_fit.proofs.lending.TwoRanges.{all_lent, blocks_apart, called_at, payload_lent}
use Rattle.best_fit.proofs.tile_walk.Hints.{held-same}
use Rattle.best_fit.proofs.heap.Heap.two.Given.{Over}
use Rattle.best_fit.proofs.heap.Heap.two.Goals.{After-bytes_mut-bytes, After-on_two}
use Rattle.best_fit.proofs.heap.Heap.two.Goals as goal

-- the two blocks
first : (g : Over) (c : After-bytes_mut-bytes g) → ReadAt c.self.inside.gaps.window c.args.first
    c.room.result
first g c = read_at c.args.self.now c.self.inside.gaps.window c.args.first (cc) c.self.invariant.heap c.requires.first
    c.room.result c.room.ensures

second : (g : Over) (c : After-bytes_mut-bytes g) → ReadAt c.self.inside.gaps.window c.args.second
    c.room-2.result
second g c = read_at c.args.self.now c.self.inside.gaps.window c.args.second (cc) c.self.invariant.heap
    c.requires.second c.room-2.result c.room-2.ensures

pub on_two-requires-clause-first_in_bounds : goal.on_two-requires-clause-first_in_bounds
on_two-requires-clause-first_in_bounds g c = let inside = (first g c).inside in let size = c.size-size.ensures in
    let all = c.bytes_mut-bytes.ensures.len in omega arith

pub on_two-requires-clause-second_in_bounds : goal.on_two-requires-clause-second_in_bounds
on_two-requires-clause-second_in_bounds g c = let inside = (second g c).inside in let size = c.size-size.ensures in
    let all = c.bytes_mut-bytes.ensures.len in omega arith

pub on_two-requires-clause-disjoint : goal.on_two-requires-clause-disjoint
on_two-requires-clause-disjoint g c =
    let s = first g c in let t = second g c in
    blocks_apart c.self.inside.gaps.window c.args.first c.args.second c.room.result
    c.room-2.result c.self.invariant.heap s.block t.block c.requires.disjoint s.payload t.payload

-- the lent parts are the payloads of the two blocks
first_lent : (g : Over) (c : After-bytes_mut-bytes g) → part c.bytes_mut-bytes.result.now c.args.first
    c.room.result ≡ payload_at c.args.self.now.bytes (live_of c.args.self.now.bytes) c.args.first
first_lent g c =
    let s = first g c in
    payload_lent c.args.self.now c.self.inside.gaps.window c.bytes_mut-bytes.result.now c.size-size.result
    c.args.first c.room.result (cc) c.size-size.ensures
    c.bytes_mut-bytes.ensures.bytes s.block s.payload

second_lent : (g : Over) (c : After-bytes_mut-bytes g) → part c.bytes_mut-bytes.result.now c.args.second
    c.room-2.result ≡ payload_at c.args.self.now.bytes (live_of c.args.self.now.bytes) c.args.second
second_lent g c =
    let t = second g c in
    payload_lent c.args.self.now c.self.inside.gaps.window c.bytes_mut-bytes.result.now c.size-size.result
    c.args.second c.room-2.result (cc) c.size-size.ensures
    c.bytes_mut-bytes.ensures.bytes t.block t.payload

pub on_two-requires-clause-callable : goal.on_two-requires-clause-callable
on_two-requires-clause-callable g c = λ p q a b. c.requires.callable p q (a ∙ first_lent g c) (b ∙ second_lent g c)

-- the bytes of the window after the call
left : (g : Over) (c : After-on_two g) → ReadAt c.self.inside.gaps.window c.args.second c.room-2.result
    → patched c.self.inside.gaps.window.bytes 0
    (refill c.size-size.result (part c.self.inside.gaps.window.bytes 0 c.size-size.result) c.on_two.new.bytes)
    ≡ patched c.self.inside.gaps.window.bytes c.args.second
    (refill c.room-2.result
    (part c.self.inside.gaps.window.bytes c.args.second c.room-2.result) c.on_two.ensures.0)
left g c t =
    all_lent c.self.inside.gaps.window.bytes c.bytes_mut-bytes.result.now c.on_two.new.bytes c.size-size.result
    c.args.second c.room-2.result c.on_two.ensures.0 c.size-size.ensures
    c.bytes_mut-bytes.ensures.bytes t.inside c.on_two.ensures.2

pub invariant_of-self : goal.invariant_of-self
invariant_of-self g c =
    let w = c.self.inside.gaps.window in let p = goal.at.invariant_of-self g c in
    let t = second g p.After-bytes_mut-bytes in
    subst (λ (b : List ℕ). IsHintedHeap b c.self.inside.hints) (sym (left g p.After-on_two t))
    (held-same c.self.inside.hints w.bytes _ c.self.invariant.hints
    (payload_written w c.args.second c.room-2.result c.on_two.ensures.0 c.self.invariant.heap
    t.block t.payload).live)

pub returns : goal.returns
returns g c =
    let q = goal.at.returns g c in let p = q.After-bytes_mut-bytes in let w = c.self.inside.gaps.window in
    let t = second g p in
    let B = c.bytes_mut-bytes.result.now in let ws = c.on_two.ensures.0 in (
      ws,
      called_at g.F.FnOnce c.args.change (part B c.args.first c.room.result)
          (part B c.args.second c.room-2.result)
          (payload_at c.args.self.now.bytes (live_of c.args.self.now.bytes) c.args.first)
          (payload_at c.args.self.now.bytes (live_of c.args.self.now.bytes) c.args.second) ws c.on_two.ensures.1
          (first_lent g p) (second_lent g p),
      ap (with_bytes w) (left g q.After-on_two t) ∙ with_payload-lent c.args.self.now w c.args.second
          c.room-2.result ws (cc) t.block t.payload,
    )
