-- The tile before the end tag, whose length is in the end tag.
use Rattle.std.proofs.Common.{◌≡◌, refl, sym, ap, subst, ◌∙◌, ℕ, ◌+◌, ◌-◌, ◌<◌, Some, None, List, [], ◌∷◌, length}
use Rattle.std.proofs.Common.{arith}
use Rattle.std.specs.Prelude.{Option}
use Rattle.raw_region.specs.Memory.{Memory, WindowState, word_at, bytes_of}
use Rattle.raw_region.specs.Format.{current}
use Rattle.block_tags.specs.declared.tile.Tile.{Tile}
use Rattle.block_tags.specs.Tiles.{AreTags, tile_at}
use Rattle.block_tags.specs.Lists.{last_in}
use Rattle.block_tags.specs.Windows.{EncodesTiles}
use Rattle.block_tags.proofs.tiles.ReadOff.{is_tile-IsWhole, tile_at-tag_word}
use Rattle.block_tags.proofs.tiles.TileInList.{IsBefore}
use Rattle.block_tags.proofs.tiles.TagsSayTiles.{Found, before_none, before_some}
use Rattle.block_tags.proofs.tiles.TileLists.{last_or, none_last}

-- the end tag has the length of the last tile
end_before : (m : Memory) (at before : ℕ) (o : Option Tile) (ts : List Tile) (end : ℕ)
    → AreTags current m at before ts end → IsBefore m at before o → IsBefore m end (word_at m end) (last_or o ts)
end_before m at before o [] end h b =
    let on : IsBefore m end before o = subst (λ (x : ℕ). IsBefore m x before o) h.0 b in
    subst (λ (x : ℕ). IsBefore m end x o) (sym h.1 ∙ ap (λ (x : ℕ). word_at m x) h.0) on
end_before m at before o (t ∷ ts) end h b =
    let at_it = h.0 in
    let there : tile_at m t.offset ≡ t =
    subst (λ (x : ℕ). tile_at m x ≡ t) (sym h.0)
    (tile_at-tag_word m at t h.0 ((is_tile-IsWhole current t h.1).whole) h.3) in
    end_before m (at + t.len) t.len (Some t) ts end h.4 (refl, omega arith, (is_tile-IsWhole current t h.1).long, there)

module _ (c : WindowState) (size : ℕ) (s : size ≡ length c.bytes) (before : ℕ) (e : before
    ≡ word_at (bytes_of c.bytes) (size - 16)) where
  at_end : (ts : List Tile) → EncodesTiles c ts → IsBefore (bytes_of c.bytes) (size - 16) before (last_in ts)
  at_end ts said =
      let tags : AreTags current (bytes_of c.bytes) 128 0 ts (size - 16) =
      subst (λ (n : ℕ). AreTags current (bytes_of c.bytes) 128 0 ts (n - 16)) (sym s) said.tags in
      let b = end_before (bytes_of c.bytes) 128 0 None ts (size - 16) tags refl in
      subst (λ (x : ℕ). IsBefore (bytes_of c.bytes) (size - 16) x (last_in ts)) (sym e)
      (subst (λ (o : Option Tile). IsBefore (bytes_of c.bytes) (size - 16) (word_at (bytes_of c.bytes) (size - 16))
      o) (none_last ts) b)

  -- if the length in the end tag is 0, there is no tile
  pub last_none : before ≡ 0 → (ts : List Tile) → EncodesTiles c ts → None ≡ last_in ts
  last_none z ts said = before_none (bytes_of c.bytes) (size - 16) before (last_in ts) (at_end ts said) z

  -- if the length in the end tag is not 0, the last tile is at this distance
  pub last_found : 0 < before → (ts : List Tile) → EncodesTiles c ts
      → Found (bytes_of c.bytes) (size - 16) before (last_in ts)
  last_found z ts said = before_some (bytes_of c.bytes) (size - 16) before (last_in ts) (at_end ts said) z
