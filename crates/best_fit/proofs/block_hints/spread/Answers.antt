-- A piece is emptied, and its handle is entered in the wider piece.
use Rattle.best_fit.proofs.Common.{◌≡◌, ◌+◌, ◌≤◌, ◌⊎◌, ℕ, List, slice_index, slot_of, subst, sym, ◌∙◌}
use Rattle.best_fit.proofs.block_hints.Pieces.{Widened, widened_clear, widened_hint}
use Rattle.best_fit.proofs.block_hints.spread.Goals.{then-slot-piece+then-slot-piece-2, else-slot-piece}
use Rattle.best_fit.proofs.block_hints.spread.Goals as goal

pub pieces-preserved : goal.pieces-preserved
pieces-preserved c =
    let s = c.args.shorter in let w = c.args.wider in let old = c.args.handles.now in
    let now = c.pieces.handles in let k = c.pieces.piece in let x = c.pieces.invariant in
    let v = c.get-handle.result in let far : 256 ≤ k = c.pieces.auto.piece in
    elim c.if-slot-piece.branch [
      | then-slot-piece+then-slot-piece-2 b ↦
          subst (λ (xs : List ℕ). Widened s w old xs (k + 1)) (sym b.handles-is)
          (widened_hint s w old now b.write_hint.new.handles k v far x (sym c.get-handle.ensures)
          (sym c.slot.ensures ∙ b.if-slot-piece.true)
          (subst (λ (p : ℕ). p ≤ k) b.slot-then-slot-piece.ensures b.if-slot-piece-2.true)
          (λ i. subst (λ (xs : List ℕ). (slice_index b.write_hint.new.handles i ≡ slice_index xs i)
          ⊎ ((i ≡ slot_of w v) × (slice_index b.write_hint.new.handles i ≡ v))) c.set.ensures (b.write_hint.ensures i)))
      | else-slot-piece b ↦
          subst (λ (xs : List ℕ). Widened s w old xs (k + 1)) (sym b.handles-is)
          (subst (λ (xs : List ℕ). Widened s w old xs (k + 1)) (sym c.set.ensures) (widened_clear s w old now k far x))
    ]
