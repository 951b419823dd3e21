use Rattle.image_check.proofs.shared_blocks.check_sharing.Given as goal

abbrev pub ghost-mark_indexes : goal.ghost-mark_indexes
ghost-mark_indexes g a = g.said

abbrev pub ghost-mark_values : goal.ghost-mark_values
ghost-mark_values g a = g.said

abbrev pub ghost-follow : goal.ghost-follow
ghost-follow g a = g.said
