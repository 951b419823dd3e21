use Rattle.std.proofs.Common.{refl, [], ◌∷◌}
use Rattle.block_tags.specs.Lists.{free_tile}
use Rattle.layer_tests.proofs.calls.Windows.{tiled, has_free_last, can_append}
use Rattle.layer_tests.proofs.block_tags_tests.moves_the_end.Goals as goal

pub drop_last-size-requires : goal.drop_last-size-requires
drop_last-size-requires g c = has_free_last _ (free_tile 128 880 ∷ []) c.laid-window.ensures (free_tile 128 880)
    refl refl

pub append_free-requires : goal.append_free-requires
append_free-requires g c =
    can_append _ _ _ c.laid-window.ensures
    (c.drop_last-size.ensures.frame (free_tile 128 880 ∷ []) c.laid-window.ensures).size
    (c.drop_last-size.ensures.tags (free_tile 128 880 ∷ []) c.laid-window.ensures)

pub first-requires : goal.first-requires
first-requires g c =
    tiled _ _ (c.append_free.ensures.tags []
    (c.drop_last-size.ensures.tags (free_tile 128 880 ∷ []) c.laid-window.ensures))
