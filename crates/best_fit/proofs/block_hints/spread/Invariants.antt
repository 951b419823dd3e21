-- The pieces that were passed are wider.
use Rattle.best_fit.proofs.block_hints.Pieces.{Widened}
use Rattle.best_fit.proofs.block_hints.spread.Given as goal

abbrev pub invariant-pieces : goal.invariant-pieces
invariant-pieces l = Widened l.shorter l.wider l.initial.handles l.handles l.piece
