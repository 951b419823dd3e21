-- A window whose tags describe tiles: they describe one list, and each tile of it lies in the window.
use Rattle.std.proofs.Common.{◌≡◌, refl, sym, ap, subst, ◌∙◌, ℕ, ◌+◌, ◌-◌, ◌%◌, ◌^◌, ◌<◌, ◌≤◌, ◌⊎◌, Some, None, List}
use Rattle.std.proofs.Common.{[], ◌∷◌, length, arith, IsTrue}
use Rattle.std.specs.Prelude.{Option}
use Rattle.raw_region.specs.Memory.{Memory, WindowState, word_at, bytes_of}
use Rattle.raw_region.specs.Format.{current}
use Rattle.block_tags.specs.declared.tile.Tile.{Tile}
use Rattle.block_tags.specs.Format.{is_legal_size}
use Rattle.block_tags.specs.Tiles.{AreTags, tile_at}
use Rattle.block_tags.specs.Lists.{tile_in, first_in, next_in, previous_in}
use Rattle.block_tags.specs.Windows.{EncodesTiles, HasTileAt}
use Rattle.block_tags.proofs.tiles.ReadOff.{is_tile-IsWhole, tile_at-tag_word, AreTags-reaches, say_one_list}
use Rattle.block_tags.proofs.tiles.TileInList.{Standing, standing, IsBefore, head_word}

-- a legal size, as facts
pub record Legal (n : ℕ) : Type 0 where
  pub low : 144 ≤ n
  pub high : n ≤ 1073741824
  pub whole : n % 16 ≡ 0
  pub room : (n ≡ 144) ⊎ (176 ≤ n)

-- a legal size as a test, and its parts
pub legal : (n : ℕ) → IsTrue (is_legal_size n) → Legal n
legal n h = record { low = grind arith; high = grind arith; whole = grind arith; room = grind arith }

-- the tags of a window describe one list
pub one_list : (c : WindowState) (ts us : List Tile) → EncodesTiles c ts → EncodesTiles c us → us ≡ ts
one_list c ts us g h =
    let n = legal (length c.bytes) g.size in let small : length c.bytes < 2 ^ 63 = omega arith in
    sym (say_one_list current (length c.bytes) (bytes_of c.bytes) us small h.tags)
    ∙ say_one_list current (length c.bytes) (bytes_of c.bytes) ts small g.tags

-- a tile that is found in the list begins at its offset
pub stood : (c : WindowState) (ts : List Tile) (at : ℕ) (tile : Tile) → EncodesTiles c ts → tile_in ts at ≡ Some tile
    → Standing current (bytes_of c.bytes) 128 0 None ts (length c.bytes - 16) at tile
stood c ts at tile said stands =
    standing current (bytes_of c.bytes) 128 0 None ts (length c.bytes - 16) at tile said.tags refl stands

-- the tile in the tag at an offset is the tile of the list
pub reads : (c : WindowState) (ts : List Tile) (at : ℕ) (tile : Tile) → EncodesTiles c ts
    → tile_in ts at ≡ Some tile → tile_at (bytes_of c.bytes) at ≡ tile
reads c ts at tile said stands =
    let s = stood c ts at tile said stands
    in tile_at-tag_word (bytes_of c.bytes) at tile s.tags.0 ((is_tile-IsWhole current tile s.tags.1).whole) s.tags.3

-- the tile lies in the window
pub record Fits (c : WindowState) (at : ℕ) (tile : Tile) : Type 0 where
  pub low : 128 ≤ at
  pub long : 32 ≤ tile.len
  pub whole : tile.len % 16 ≡ 0
  pub room : at + tile.len + 16 ≤ length c.bytes
  pub size : length c.bytes ≤ 1073741824

-- a tile that is found lies in the window
pub fits_in : (c : WindowState) (ts : List Tile) (at : ℕ) (tile : Tile) → EncodesTiles c ts
    → tile_in ts at ≡ Some tile → Fits c at tile
fits_in c ts at tile said stands =
    let s = stood c ts at tile said stands in let n = legal (length c.bytes) said.size in
    let long = (is_tile-IsWhole current tile s.tags.1).long in let low = s.low in
    let on = AreTags-reaches current (bytes_of c.bytes) (at + tile.len) tile.len s.behind (length c.bytes - 16)
    s.tags.4 in
    record {
      low = omega arith;
      long = long;
      whole = (is_tile-IsWhole current tile s.tags.1).whole;
      room = omega arith;
      size = omega arith;
    }

-- the bounds of a tile that is read at the offset
pub fits : (c : WindowState) (at : ℕ) (h : HasTileAt c at) (t : Tile) → t ≡ tile_at (bytes_of c.bytes) at → Fits c at t
fits c at h t e = let P : Tile → Type 0 = λ (u : Tile). Fits c at u
    in subst P (sym (e ∙ reads c h.tiles at h.tile h.said h.stands)) (fits_in c h.tiles at h.tile h.said h.stands)

-- the tile that is read is the tile of each list that the tags describe
pub stands_in : (c : WindowState) (at : ℕ) (h : HasTileAt c at) (t : Tile) → t ≡ tile_at (bytes_of c.bytes) at
    → (ts : List Tile) → EncodesTiles c ts → tile_in ts at ≡ Some t
stands_in c at h t e ts said =
    ap (λ (us : List Tile). tile_in us at) (one_list c h.tiles ts h.said said) ∙ h.stands
    ∙ ap (λ (u : Tile). Some u) (sym (e ∙ reads c h.tiles at h.tile h.said h.stands))

-- ---- neighbours

-- tags that begin before the end describe a first tile at their offset
pub first_some : (format : ℕ) (m : Memory) (at before : ℕ) (ts : List Tile) (end : ℕ)
    → AreTags format m at before ts end → at < end → (t : Tile) → t ≡ tile_at m at → Some t ≡ first_in ts
first_some format m at before [] end h l t e = let o = h.0 in absurd (omega arith)
first_some format m at before (u ∷ ts) end h l t e =
    ap (λ (v : Tile). Some v) (e ∙ tile_at-tag_word m at u h.0 ((is_tile-IsWhole format u h.1).whole) h.3)

-- tags that begin at the end describe no tile
pub first_none : (format : ℕ) (m : Memory) (at before : ℕ) (ts : List Tile) (end : ℕ)
    → AreTags format m at before ts end → end ≤ at → None ≡ first_in ts
first_none format m at before [] end h l = refl
first_none format m at before (u ∷ ts) end h l =
    let on = AreTags-reaches format m (at + u.len) u.len ts end h.4 in let long =
    (is_tile-IsWhole format u h.1).long in absurd (omega arith)

module _ (c : WindowState) (at : ℕ) (h : HasTileAt c at) (t : Tile) (e : t ≡ tile_at (bytes_of c.bytes) at)
    (ts : List Tile) (said : EncodesTiles c ts) where
  abbrev m : Memory
  m = bytes_of c.bytes

  abbrev end : ℕ
  end = length c.bytes - 16

  s : Standing current (bytes_of c.bytes) 128 0 None ts (length c.bytes - 16) at t
  s = stood c ts at t said (stands_in c at h t e ts said)

  -- a tile that ends before the end tag has a next one: the tile there
  pub next_some : at + t.len < length c.bytes - 16 → (u : Tile) → u ≡ tile_at (bytes_of c.bytes) (at + t.len)
      → Some u ≡ next_in ts at
  next_some l u f = first_some current m (at + t.len) t.len s.behind end s.tags.4 l u f ∙ sym s.next

  -- a tile that ends at the end tag has no next one
  pub next_none : length c.bytes - 16 ≤ at + t.len → None ≡ next_in ts at
  next_none l = first_none current m (at + t.len) t.len s.behind end s.tags.4 l ∙ sym s.next

-- no length before: there is no tile before
pub before_none : (m : Memory) (at before : ℕ) (o : Option Tile) → IsBefore m at before o → before ≡ 0 → None ≡ o
before_none m at before None b z = refl
before_none m at before (Some p) b z = let e = b.0 in let long = b.2 in absurd (omega arith)

-- a tile before a place, found by its length
pub record Found (m : Memory) (at before : ℕ) (o : Option Tile) : Type 0 where
  pub long : 32 ≤ before
  pub low : before ≤ at
  pub is : o ≡ Some (tile_at m (at - before))

-- a length before: the tile before is found
pub before_some : (m : Memory) (at before : ℕ) (o : Option Tile) → IsBefore m at before o → 0 < before
    → Found m at before o
before_some m at before None b z = let e : before ≡ 0 = b in absurd (omega arith)
before_some m at before (Some p) b z =
    let e = b.0 in let ends = b.1 in let long = b.2 in let o : p.offset ≡ at - before = omega arith in
    let f : tile_at m (at - before) ≡ p = subst (λ (x : ℕ). tile_at m x ≡ p) o b.3 in
    record { long = omega arith; low = omega arith; is = ap (λ (v : Tile). Some v) (sym f) }

module _ (c : WindowState) (at : ℕ) (h : HasTileAt c at) (before : ℕ) (e : before ≡ word_at (bytes_of c.bytes) at) where
  behind_it : (ts : List Tile) → EncodesTiles c ts → IsBefore (bytes_of c.bytes) at before (previous_in ts at)
  behind_it ts said =
      let t : Tile = h.tile in
      let s = stood c ts at t said (stands_in c at h t (sym (reads c h.tiles at h.tile h.said h.stands)) ts said) in
      let w : s.before ≡ before = sym (e
      ∙ head_word current (bytes_of c.bytes) at s.before (t ∷ s.behind) (length c.bytes - 16) s.tags) in
      subst (λ (x : ℕ). IsBefore (bytes_of c.bytes) at x (previous_in ts at)) w s.is_before

  -- a tile with no length before it has no previous one
  pub previous_none : before ≡ 0 → (ts : List Tile) → EncodesTiles c ts → None ≡ previous_in ts at
  previous_none z ts said = before_none (bytes_of c.bytes) at before (previous_in ts at) (behind_it ts said) z

  -- a tile with a length before it has a previous one: the tile there
  pub previous_found : 0 < before → (ts : List Tile) → EncodesTiles c ts
      → Found (bytes_of c.bytes) at before (previous_in ts at)
  previous_found z ts said = before_some (bytes_of c.bytes) at before (previous_in ts at) (behind_it ts said) z
