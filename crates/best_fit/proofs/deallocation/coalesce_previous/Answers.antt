-- The tile before is in the list, and this tile comes after it.
use Rattle.best_fit.proofs.Common.{subst, ◌∙◌, HasTileAt, previous_in}
use Rattle.best_fit.proofs.tags.TileCuts.{changes_as, gap_after_previous, joined_after, not_joined, read_gap}
use Rattle.best_fit.proofs.tags.TileCuts.{same_tags, tile_before}
use Rattle.best_fit.proofs.tags.Writes.{tile_in_list}
use Rattle.best_fit.proofs.deallocation.coalesce_previous.Goals as goal

pub coalesce_next-requires-clause-tile : goal.coalesce_next-requires-clause-tile
coalesce_next-requires-clause-tile c =
    let w = c.args.touches.now.gaps.now.window in let h = c.requires.tile in
    let f = read_gap (previous_in h.tiles c.args.at) c.in-Some.before
    (c.requires.gap h.tiles h.said ∙ c.in-Some.is) in
    subst (HasTileAt w) f.offset (tile_before w c.args.at f.tile h f.is)

pub coalesce_next-requires-clause-gap : goal.coalesce_next-requires-clause-gap
coalesce_next-requires-clause-gap c = λ ts said.
    let w = c.args.touches.now.gaps.now.window in let h = c.requires.tile in
    let stands = tile_in_list w c.args.at h ts said in
    gap_after_previous w ts c.args.at h.tile c.in-Some.before said stands (c.requires.free ts h.tile said stands)
    (c.requires.gap ts said ∙ c.in-Some.is)

pub returns-in-Some-clause-tags : goal.returns-in-Some-clause-tags
returns-in-Some-clause-tags c = changes_as (λ ts said. joined_after (previous_in ts c.args.at) ts c.in-Some.before
    (c.requires.gap ts said ∙ c.in-Some.is)) c.coalesce_next.ensures.tags

pub returns-in_default-clause-tags : goal.returns-in_default-clause-tags
returns-in_default-clause-tags c = changes_as (λ ts said. not_joined (previous_in ts c.args.at) ts
    (c.requires.gap ts said ∙ c.in_default.is)) (same_tags c.args.touches.now.gaps.now.window)
