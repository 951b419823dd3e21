-- The law, by the plans of the commands.
use Rattle.segment_manager.proofs.theorems.refusals_change_nothing.Goals as goal
use Rattle.segment_manager.proofs.directory.AnyDirectory.{step-read_only, step-refused, step_of_kind-read_only}
use Rattle.segment_manager.proofs.directory.AnyDirectory.{step_of_kind-refused}

pub returns : goal.returns
returns c = record {
  any_kind = λ mode d c. record { refused = step-refused mode c; read_only = step-read_only mode d c };
  kind_fit = λ mode d key kind c. record {
    refused = step_of_kind-refused mode key kind c;
    read_only = step_of_kind-read_only mode d key kind c;
  };
}
