use Rattle.link_tree.proofs.walking.+walk_below.Given as goal

abbrev pub decreases-walk_below : goal.decreases-walk_below
decreases-walk_below g l = l.levels
