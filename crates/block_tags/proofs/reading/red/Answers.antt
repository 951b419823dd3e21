use Rattle.std.proofs.Common.{◌∙◌, sym, ap}
use Rattle.std.proofs.lemmas.Option.{same_Some}
use Rattle.block_tags.specs.declared.tile.Tile.{Tile}
use Rattle.block_tags.proofs.reading.red.Goals as goal

pub returns : goal.returns
returns c = λ ts tile said stands. ap (λ (t : Tile). t.red) (same_Some _ _ (sym (c.tile_at.ensures ts said) ∙ stands))
