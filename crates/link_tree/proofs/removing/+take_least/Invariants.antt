use Rattle.std.proofs.Common.{◌-◌, ◌^◌}
use Rattle.link_tree.proofs.removing.+take_least.Given as goal

abbrev pub decreases-take_least : goal.decreases-take_least
decreases-take_least g l = 2 ^ 64 - l.visits.now.steps
