use Rattle.std.proofs.Common.{refl, lit≤, [], ◌∷◌}
use Rattle.block_tags.specs.Lists.{free_tile}
use Rattle.layer_tests.proofs.calls.Windows.{tiled, has_tile, can_split, has_free_next}
use Rattle.layer_tests.proofs.block_tags_tests.splits_and_joins.Goals as goal

pub split-requires : goal.split-requires
split-requires g c = can_split _ (free_tile 128 880 ∷ []) c.laid-window.ensures 128 64 _ refl (lit≤ tt) refl (lit≤ tt)

pub next-requires : goal.next-requires
next-requires g c = has_tile _ (free_tile 128 64 ∷ free_tile 192 816 ∷ [])
    (c.split.ensures.tags (free_tile 128 880 ∷ []) c.laid-window.ensures) 128 _ refl

pub previous-requires : goal.previous-requires
previous-requires g c = has_tile _ (free_tile 128 64 ∷ free_tile 192 816 ∷ [])
    (c.split.ensures.tags (free_tile 128 880 ∷ []) c.laid-window.ensures) 192 _ refl

pub check-requires : goal.check-requires
check-requires g c = (c.split.ensures.tags (free_tile 128 880 ∷ []) c.laid-window.ensures).size

pub merge_next-requires : goal.merge_next-requires
merge_next-requires g c =
    has_free_next _ (free_tile 128 64 ∷ free_tile 192 816 ∷ [])
    (c.split.ensures.tags (free_tile 128 880 ∷ []) c.laid-window.ensures) 128 _ _ refl refl refl

pub first-requires-2 : goal.first-requires-2
first-requires-2 g c =
    tiled _ (free_tile 128 880 ∷ [])
    (c.merge_next.ensures.tags (free_tile 128 64 ∷ free_tile 192 816 ∷ [])
    (c.split.ensures.tags (free_tile 128 880 ∷ []) c.laid-window.ensures))
