-- The list that results is the one of the call that is made, or the old one.
use Rattle.best_fit.proofs.Common.{◌≡◌, refl, sym, ◌∙◌, ℕ, true, false, Option, Some, None, is_some, false≢true}
use Rattle.best_fit.proofs.tags.TileCuts.{changes_as, free_next, joined_list, same_tags, unjoined_list}
use Rattle.best_fit.proofs.tags.Writes.{tile_in_list}
use Rattle.best_fit.proofs.deallocation.coalesce_next.Goals as goal

-- an option that is some has a value
there : (o : Option ℕ) → is_some o ≡ true → (k : ℕ) × (o ≡ Some k)
there None e = absurd (false≢true e)
there (Some k) e = (k, refl)

-- an option that is not some is none
not_there : (o : Option ℕ) → is_some o ≡ false → o ≡ None
not_there None e = refl
not_there (Some k) e = absurd (false≢true (sym e))

pub merge_next-requires-clause-tile : goal.merge_next-requires-clause-tile
merge_next-requires-clause-tile c =
    let h = c.requires.tile in let g = there c.args.gap (sym c.is_some.ensures ∙ c.if-is_some.true) in
    free_next c.args.touches.now.gaps.now.window c.args.at g.0 h (c.requires.gap h.tiles h.said ∙ g.1)

pub returns-then-is_some-clause-tags : goal.returns-then-is_some-clause-tags
returns-then-is_some-clause-tags c =
    let h = c.requires.tile in let g = there c.args.gap (sym c.is_some.ensures ∙ c.if-is_some.true) in
    changes_as (λ ts said. joined_list ts c.args.at h.tile g.0
    (tile_in_list c.args.touches.now.gaps.now.window c.args.at h ts said) (c.requires.gap ts said ∙ g.1))
    c.merge_next.ensures.tags

pub returns-else-is_some-clause-tags : goal.returns-else-is_some-clause-tags
returns-else-is_some-clause-tags c =
    let w = c.args.touches.now.gaps.now.window in let h = c.requires.tile in
    let none = not_there c.args.gap (sym c.is_some.ensures ∙ c.if-is_some.false) in
    changes_as (λ ts said. unjoined_list ts c.args.at h.tile (tile_in_list w c.args.at h ts said)
    (c.requires.gap ts said ∙ none)) (same_tags w)
