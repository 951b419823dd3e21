use Rattle.image_check.proofs.shared_blocks.mark_indexes.Given as goal

abbrev pub ghost-mark_index : goal.ghost-mark_index
ghost-mark_index g a = g.said
