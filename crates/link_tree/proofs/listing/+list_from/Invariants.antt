use Rattle.link_tree.proofs.listing.+list_from.Given as goal

abbrev pub decreases-list_from : goal.decreases-list_from
decreases-list_from g l = l.levels
