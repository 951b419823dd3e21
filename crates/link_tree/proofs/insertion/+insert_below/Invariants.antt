use Rattle.std.proofs.Common.{◌-◌, ◌^◌}
use Rattle.link_tree.proofs.insertion.+insert_below.Given as goal

abbrev pub decreases-insert_below : goal.decreases-insert_below
decreases-insert_below g l = 2 ^ 64 - l.visits.now.steps
