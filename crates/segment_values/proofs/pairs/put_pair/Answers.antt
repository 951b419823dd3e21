-- The object's kind determines the kinds of its pairs.
use Rattle.segment_manager.proofs.CommandLaws.{put-no_map, put-no_pair, put-unchangeable, puts-pair}
use Rattle.segment_values.proofs.Exits.{exit-is}
use Rattle.segment_values.proofs.pairs.put_pair.Goals as goal

pub returns-in_err-object-clause-step : goal.returns-in_err-object-clause-step
returns-in_err-object-clause-step g c =
    rw (exit-is c.from_residual.ensures.1) (put-unchangeable c.in_err-object.ensures _ _)

pub returns-in_err-new_key-in-Map-clause-step : goal.returns-in_err-new_key-in-Map-clause-step
returns-in_err-new_key-in-Map-clause-step g c = rw (exit-is c.from_residual-in_err-new_key-in-Map.ensures.1)
    (put-no_pair c.in_ok-object.ensures c.in-Map.is _ _ c.in_err-new_key-in-Map.ensures)

pub returns-in_ok-new_key-in-Map-clause-step : goal.returns-in_ok-new_key-in-Map-clause-step
returns-in_ok-new_key-in-Map-clause-step g c =
    puts-pair c.in_ok-object.ensures c.in-Map.is _ _ (
      c.in_ok-new_key-in-Map.new_key,
      c.in_ok-new_key-in-Map.new_value,
    ) c.in_ok-new_key-in-Map.ensures c.insert_pair.ensures.step

pub returns-in_default-clause-step : goal.returns-in_default-clause-step
returns-in_default-clause-step g c = put-no_map c.in_ok-object.ensures c.in_default.not-Map _ _
