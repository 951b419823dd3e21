use Rattle.image_check.proofs.shared_blocks.mark_array.Given as goal

abbrev pub ghost-mark_storage : goal.ghost-mark_storage
ghost-mark_storage g a = g.format

abbrev pub ghost-mark_texts : goal.ghost-mark_texts
ghost-mark_texts g a = g.format
