use Rattle.std.proofs.Common.{◌≡◌, length}
use Rattle.segment_scripts.specs.CommandRows.{usage_of}
use Rattle.segment_scripts.proofs.linting.usage_of.Given as goal

abbrev pub invariant-rows : goal.invariant-rows
invariant-rows l = usage_of l.rest l.token ≡ usage_of l.rows l.token

abbrev pub decreases-rows : goal.decreases-rows
decreases-rows l = length l.rest
