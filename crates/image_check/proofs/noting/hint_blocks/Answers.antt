use Rattle.image_check.proofs.Common.{IsTrue, WindowState, arith, is_live_in, subst, sym, ◌∙◌}
use Rattle.best_fit.specs.Heap.{live_of}
use Rattle.image_check.proofs.noting.hint_blocks.Goals as goal

pub hint_block-requires : goal.hint_block-requires
hint_block-requires c =
    subst (λ (v : WindowState). IsTrue (is_live_in (live_of v.bytes) c.row-payload.result.0))
    (sym c.rows.invariant.unchanged)
    (c.requires c.row-payload.result.0 c.row-payload.result.1 c.row-payload.ensures.block)

pub rows-preserved : goal.rows-preserved
rows-preserved c =
    let inv = c.rows.invariant in
    let visits = inv.visits in
    record {
      within = omega arith;
      unchanged = c.hint_block.ensures ∙ inv.unchanged;
      visits = omega arith;
    }
