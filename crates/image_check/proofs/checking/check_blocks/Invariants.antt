use Rattle.image_check.proofs.checking.check_blocks.Given as goal

abbrev pub ghost-check_sharing : goal.ghost-check_sharing
ghost-check_sharing a = a.format
