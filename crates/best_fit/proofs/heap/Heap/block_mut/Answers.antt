-- Whatever is written to the payload of a block, the heap stays one.
use Rattle.best_fit.proofs.Common.{◌≡◌, refl, sym, subst, ap, ◌∙◌, ◌-◌, arith, WindowState, part, live_of, payload_at}
use Rattle.best_fit.proofs.Common.{Extent, Some, extent_at, option_map}
use Rattle.best_fit.proofs.lending.Payloads.{ReadAt, payload_written, read_at, with_payload-lent}
use Rattle.best_fit.proofs.tags.Writes.{block_payload}
use Rattle.best_fit.proofs.tile_walk.Hints.{held-same}
use Rattle.best_fit.proofs.heap.Heap.block_mut.Goals.{After-room-len}
use Rattle.best_fit.proofs.heap.Heap.block_mut.Goals as goal

-- the block
block : (c : After-room-len) → ReadAt c.self.inside.gaps.window c.args.handle c.room-len.result
block c = let e : c.self.inside.gaps.window ≡ c.args.self.now = cc in
    read_at c.args.self.now c.self.inside.gaps.window c.args.handle (cc) c.self.invariant.heap c.requires
    c.room-len.result (subst (λ (v : WindowState). option_map (λ (x : Extent). x.len - 16)
    (extent_at (live_of v.bytes) c.args.handle) ≡ Some c.room-len.result) e c.room-len.ensures)

pub bytes_mut-requires : goal.bytes_mut-requires
bytes_mut-requires c = let inside = (block (goal.at.bytes_mut-requires c).After-room-len).inside in omega arith

pub invariant_of-self-lent : goal.invariant_of-self-lent
invariant_of-self-lent c =
    let w = c.self.inside.gaps.window in let b = block (goal.at.invariant_of-self-lent c).After-room-len in
    λ ws. held-same c.self.inside.hints c.self.inside.gaps.window.bytes _ c.self.invariant.hints
    (payload_written w c.args.handle c.room-len.result ws c.self.invariant.heap b.block b.payload).live

pub returns : goal.returns
returns c =
    let w = c.self.inside.gaps.window in let h = c.args.handle in let e : c.args.self.now ≡ w = cc in
    let b = block (goal.at.returns c).After-room-len in (
      (refl, λ ws. with_payload-lent c.args.self.now w h c.room-len.result ws e b.block b.payload),
      record {
        writes_back = tt;
        bytes = subst (λ (v : WindowState). c.bytes_mut.result.now ≡ payload_at v.bytes (live_of v.bytes) h) (sym e)
            (c.bytes_mut.ensures.bytes ∙ ap (part w.bytes h) b.payload ∙ sym (block_payload w h b.block));
      },
    )
