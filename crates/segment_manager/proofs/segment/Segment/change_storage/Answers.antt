-- The object of the key is changed as the object of its handle.
use Rattle.segment_manager.proofs.segment.Segment.change_storage.Goals as goal
use Rattle.segment_manager.proofs.Common.{Key, command_of, exit-is, sym, ◌∙◌}
use Rattle.segment_manager.proofs.containers.ItemSteps.{change-changes, change-nowhere, nowhere-steps}
use Rattle.segment_manager.proofs.directory.AnyDirectory.{refuses-read_only}
use Rattle.segment_manager.proofs.objects.Locating.{change-by_key, enough-by_key}

pub returns-then-is_read_only-clause-step : goal.returns-then-is_read_only-clause-step
returns-then-is_read_only-clause-step g c =
    let key : Key = g.O.ObjectRef.key c.args.key.now in
    refuses-read_only c.args.self.now (command_of c.args.change key)
    (sym c.is_read_only.ensures ∙ c.if-is_read_only.true) (change-changes c.args.change key)

pub returns-in_err-object-clause-step : goal.returns-in_err-object-clause-step
returns-in_err-object-clause-step g c =
    rw (exit-is c.from_residual.result _ c.from_residual.ensures.1) (let key : Key = g.O.ObjectRef.key c.args.key.now in
    nowhere-steps c.args.self.now key c.in_err-object.field-0.0 (command_of c.args.change key)
    (sym c.is_read_only.ensures
    ∙ c.if-is_read_only.false) c.in_err-object.ensures (λ d e. change-nowhere c.args.change d key e))

pub returns-clause-step : goal.returns-clause-step
returns-clause-step g c = change-by_key _ _ _ c.in_ok-object.ensures c.args.change _ _ c.change_object.ensures.step

pub returns-clause-noop : goal.returns-clause-noop
returns-clause-noop g c = enough-by_key _ _ _ c.in_ok-object.ensures c.args.change _ c.change_object.ensures.noop
