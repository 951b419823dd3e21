use Rattle.image_check.proofs.shared_blocks.mark_value.Given as goal

abbrev pub ghost-mark_storage : goal.ghost-mark_storage
ghost-mark_storage g a = g.format

abbrev pub ghost-mark_array : goal.ghost-mark_array
ghost-mark_array g a = g.format
