-- A link that is good for a role is found in the map of blocks.
use Rattle.image_check.proofs.Common.{AreBlocks, Block, Blocks, List, None, Option, Role, Some, Tile, ap, block_at}
use Rattle.image_check.proofs.Common.{false, false≢true, refl, same_role, sym, tile_of, ℕ, ◌∙◌, ◌≡◌, ◌≢◌}
use Rattle.image_check.proofs.block_collection.UsedTile.{same_role-refl}
use Rattle.std.specs.Prelude.{option_map}

-- the length of a tile, if there is one
abbrev pub len_of : Option Tile → Option ℕ
len_of o = option_map (λ (t : Tile). t.len) o

-- roles that differ as a test differ
pub differ : (r s : Role) → same_role r s ≡ false → r ≡ s → ⊥
differ r s e f = false≢true (sym e ∙ ap (same_role r) (sym f) ∙ same_role-refl r)

module _ (ts : List Tile) (es : Blocks) (a : AreBlocks ts es) (n : ℕ) (role : Role) where
  no-tile-if : (o : Option Tile) → tile_of ts role n ≡ o
      → ((b : Block) → block_at es n ≡ Some b → b.role ≡ role → ⊥) → None ≡ len_of o
  no-tile-if None e d = refl
  no-tile-if (Some t) e d = let w = a.blocks n role t e in absurd (d w.block w.is w.role_is)

  pub no-tile : ((b : Block) → block_at es n ≡ Some b → b.role ≡ role → ⊥) → None ≡ len_of (tile_of ts role n)
  no-tile d = no-tile-if (tile_of ts role n) refl d

  -- a block of the role is the tile's
  pub one-tile : (b : Block) → block_at es n ≡ Some b → b.role ≡ role → Some b.len ≡ len_of (tile_of ts role n)
  one-tile b e r =
      let w = a.tiles n b e in
      let there : tile_of ts role n ≡ Some w.tile = ap (λ x. tile_of ts x n) (sym r) ∙ w.is in
      ap Some (sym w.len) ∙ sym (ap len_of there)

  -- no block: no tile of the role
  pub none-there : block_at es n ≡ None → None ≡ len_of (tile_of ts role n)
  none-there e = no-tile (λ b f r. absurd (cc))

  -- a block of another role: no tile of the role
  pub other-there : (b : Block) → block_at es n ≡ Some b → b.role ≢ role → None ≡ len_of (tile_of ts role n)
  other-there b e d = no-tile (λ c f r. let same : c ≡ b = cc in d (ap (λ (x : Block). x.role) (sym same) ∙ r))
