use Rattle.image_check.proofs.shared_blocks.mark_object.Given as goal

abbrev pub ghost-mark_value : goal.ghost-mark_value
ghost-mark_value g a = g.said
