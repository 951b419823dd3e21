-- The laws of the calls on elements, for the crate that reads commands: the plan of a command by the kind of the
-- object, and when one call is the step of a command.

-- the object of a key, by its kind: the step of the kind is the command's, and without an object the command fails
pub use Rattle.segment_manager.proofs.containers.ItemSteps.{IsOfKindAt, of_kind-steps}
pub use Rattle.segment_manager.proofs.directory.AnyDirectory.{step_of_kind-step, with-found, with-not_found}
-- two commands with one plan, and a plan that ends with an error
pub use Rattle.segment_manager.proofs.containers.ItemSteps.{same_plan-steps}
-- the literal of a value is read as the value
pub use Rattle.segment_manager.proofs.objects.Stored.{literal-read, literals-read}
-- the plans of the commands on a vector or a text, and on an object that is neither
pub use Rattle.segment_manager.proofs.containers.ContentPlans.{append-other, assign-plan, assign-refused, text-plan}
pub use Rattle.segment_manager.proofs.containers.ContentPlans.{text-refused}
-- the elements of an array or a vector are in its run
pub use Rattle.segment_manager.proofs.containers.ElementRuns.{IsSliceOfKind, AnArray, AVector}
pub use Rattle.segment_manager.proofs.containers.ElementRuns.{series-element}
pub use Rattle.segment_manager.proofs.containers.ElementRuns.{run-kind}
-- reading one element in the run of an object
pub use Rattle.segment_manager.proofs.objects.ArrayItems.{run-past, run-reads, run-refused}
