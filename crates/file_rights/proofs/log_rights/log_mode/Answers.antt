use Rattle.std.proofs.Common.{rules}
use Rattle.file_rights.proofs.log_rights.Granting.{grants_as_mode}
use Rattle.file_rights.proofs.log_rights.log_mode.Goals as goal

pub returns-clause-rights : goal.returns-clause-rights
returns-clause-rights c = grants_as_mode c.args.mode c.mode.result (search rules)
