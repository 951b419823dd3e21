use Rattle.file_rights.proofs.log_rights.Counting.{counts_iff}
use Rattle.file_rights.proofs.log_rights.log_counts.Goals as goal

pub returns : goal.returns
returns c = counts_iff c.args.file c.args.log c.args.folder c.args.caller c.counts.result c.counts.ensures
