use Rattle.std.proofs.Common.{◌-◌, ◌^◌}
use Rattle.link_tree.proofs.removing.+cut.Given as goal

abbrev pub decreases-cut : goal.decreases-cut
decreases-cut g l = 2 ^ 64 - l.visits.now.steps
