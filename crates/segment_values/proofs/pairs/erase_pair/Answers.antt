-- The object's kind determines the kind of its map keys.
use Rattle.segment_manager.proofs.CommandLaws.{remove-no_map, remove-no_value, remove-unchangeable, removes-key}
use Rattle.segment_values.proofs.{pairs.Absent.erases-absent, Exits.exit-is}
use Rattle.segment_values.proofs.pairs.erase_pair.Goals as goal

pub returns-in_err-object-clause-step : goal.returns-in_err-object-clause-step
returns-in_err-object-clause-step g c =
    rw (exit-is c.from_residual.ensures.1) (remove-unchangeable c.in_err-object.ensures _)

pub returns-in_err-gone-in-Map-clause-step : goal.returns-in_err-gone-in-Map-clause-step
returns-in_err-gone-in-Map-clause-step g c = rw (exit-is c.from_residual-in_err-gone-in-Map.ensures.1)
    (remove-no_value c.in_ok-object.ensures c.in-Map.is _ c.in_err-gone-in-Map.ensures)

pub returns-in_ok-gone-in-Map-clause-step : goal.returns-in_ok-gone-in-Map-clause-step
returns-in_ok-gone-in-Map-clause-step g c =
    removes-key c.in_ok-object.ensures c.in-Map.is _ c.in_ok-gone-in-Map.gone c.in_ok-gone-in-Map.ensures
    c.erase_scalar.ensures.step

pub returns-in_ok-gone-in-Map-clause-absent : goal.returns-in_ok-gone-in-Map-clause-absent
returns-in_ok-gone-in-Map-clause-absent g c =
    erases-absent _ _ _ c.in_ok-object.object c.in-Map.keys c.in-Map.values _ c.in_ok-gone-in-Map.gone
    c.in_ok-object.ensures.located c.in-Map.is c.in_ok-gone-in-Map.ensures c.erase_scalar.ensures.absent

pub returns-in_default-clause-step : goal.returns-in_default-clause-step
returns-in_default-clause-step g c = remove-no_map c.in_ok-object.ensures c.in_default.not-Map _
