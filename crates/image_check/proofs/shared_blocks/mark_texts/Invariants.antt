use Rattle.image_check.proofs.shared_blocks.mark_texts.Given as goal

abbrev pub ghost-mark_elements : goal.ghost-mark_elements
ghost-mark_elements g a = g.format
