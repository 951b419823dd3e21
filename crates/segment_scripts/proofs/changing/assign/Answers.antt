use Rattle.std.proofs.Common.{refl}
use Rattle.seg_types.specs.Commands.{Assign}
use Rattle.seg_types.specs.Keys.{key_seen}
use Rattle.segment_manager.proofs.CommandLaws.{assign-unchangeable}
use Rattle.segment_manager.proofs.Laws.{binds, step-by_key}
use Rattle.segment_scripts.proofs.changing.Elements.{assign-neither}
use Rattle.segment_values.proofs.Exits.{exit-is}
use Rattle.segment_scripts.proofs.changing.assign.Goals as goal

pub returns-in_err-object-clause-step : goal.returns-in_err-object-clause-step
returns-in_err-object-clause-step c =
    rw (exit-is c.from_residual.ensures.1) (assign-unchangeable c.in_err-object.ensures _)

pub assign_vector-requires-clause-object : goal.assign_vector-requires-clause-object
assign_vector-requires-clause-object c = binds c.in_ok-object.ensures.located.here c.in-Vector.is

pub assign_string-requires-clause-object : goal.assign_string-requires-clause-object
assign_string-requires-clause-object c = binds c.in_ok-object.ensures.located.here c.in-String.is

pub assign_texts-requires-clause-object : goal.assign_texts-requires-clause-object
assign_texts-requires-clause-object c = binds c.in_ok-object.ensures.located.here c.in-Strings.is

pub returns-in-Vector-clause-step : goal.returns-in-Vector-clause-step
returns-in-Vector-clause-step c =
    step-by_key _ _ _ c.in_ok-object.ensures.located _ (Assign (key_seen c.args.key.now) _) _
    c.assign_vector.ensures.step

pub returns-in-String-clause-step : goal.returns-in-String-clause-step
returns-in-String-clause-step c =
    step-by_key _ _ _ c.in_ok-object.ensures.located _ (Assign (key_seen c.args.key.now) _) _
    c.assign_string.ensures.step

pub returns-in-Strings-clause-step : goal.returns-in-Strings-clause-step
returns-in-Strings-clause-step c =
    step-by_key _ _ _ c.in_ok-object.ensures.located _ (Assign (key_seen c.args.key.now) _) _
    c.assign_texts.ensures.step

pub returns-in_default : goal.returns-in_default
returns-in_default c = record {
  step = assign-neither c.in_ok-object.ensures c.in_default.not-Vector c.in_default.not-Strings
      c.in_default.not-String _;
  refused = λ _. refl;
}
