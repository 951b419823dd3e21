-- Lists of tiles that fill a range, and where a tile stands in a list.
use Rattle.std.proofs.Common.{◌≡◌, refl, sym, ap, subst, ◌∙◌, ℕ, ◌+◌, ◌-◌, ◌<◌, ◌≤◌, inl, inr, Some, None, Bool, false}
use Rattle.std.proofs.Common.{List, [], ◌∷◌, ◌++◌, length, arith, cond, ◌==◌}
use Rattle.std.specs.Prelude.{Option}
use Rattle.std.proofs.lemmas.Bool.{eq-eqb, eqb-true}
use Rattle.std.proofs.lemmas.Option.{same_Some, none-some}
use Rattle.raw_region.specs.Memory.{WindowState, Memory, bytes_of}
use Rattle.raw_region.specs.Format.{current}
use Rattle.block_tags.specs.declared.tile.Tile.{Tile}
use Rattle.block_tags.specs.Tiles.{AreTags, tiles_of}
use Rattle.block_tags.specs.Lists.{AreContiguous, tile_in, first_in, next_in, previous_from, last_in, changed_at}
use Rattle.block_tags.specs.Lists.{IsBesideTags}
use Rattle.block_tags.specs.Windows.{EncodesTiles}
use Rattle.block_tags.specs.Laws.{TilesAreReadOff, TileIsReadOff, GoodTagsSayTiles, TilesFillTheWindow}
use Rattle.block_tags.specs.Laws.{HeaderIsBesideTags, PayloadIsBesideTags, TileStandsInList, OneTileAtAnOffset}
use Rattle.block_tags.specs.Laws.{LastTileEndsList}
use Rattle.block_tags.proofs.tiles.ReadOff.{is_tile-IsWhole, tiles_of-AreTilesOf, has_tags-AreTilesOf}
use Rattle.block_tags.proofs.tiles.ReadOff.{has_tags-is_merged}
use Rattle.block_tags.proofs.tiles.ReadOff.{AreTilesOf-has_tags}
use Rattle.block_tags.proofs.tiles.TileInList.{by_test}
use Rattle.block_tags.proofs.tiles.TagsSayTiles.{legal, reads}

-- ---- what is read off
pub tiles_are_read_off : TilesAreReadOff
tiles_are_read_off c ts said = tiles_of-AreTilesOf current (bytes_of c.bytes) (length c.bytes) ts said.tags

-- law: a tile of the list is the tile of its tag
pub tile_is_read_off : TileIsReadOff
tile_is_read_off c ts at t said stands = reads c ts at t said stands

-- law: tags that pass the test describe the tiles that are read
pub good_tags_say_tiles : GoodTagsSayTiles
good_tags_say_tiles c size = (
  (λ h. (
    tiles_of (bytes_of c.bytes) (length c.bytes),
    record { size = size; tags = has_tags-AreTilesOf current (bytes_of c.bytes) (length c.bytes) h },
    has_tags-is_merged current (bytes_of c.bytes) (length c.bytes) h,
  )),
  (λ h. AreTilesOf-has_tags current (bytes_of c.bytes) (length c.bytes) h.0 h.1.tags h.2),
)

-- ---- tiles fill a range
pub AreTags-AreContiguous : (format : ℕ) (m : Memory) (at before : ℕ) (ts : List Tile) (end : ℕ)
    → AreTags format m at before ts end → AreContiguous format at ts end
AreTags-AreContiguous format m at before [] end h = h.0
AreTags-AreContiguous format m at before (t ∷ ts) end h =
    (h.0, h.1, AreTags-AreContiguous format m (at + t.len) t.len ts end h.4)

-- law: the tiles fill the window without a hole
pub tiles_fill_the_window : TilesFillTheWindow
tiles_fill_the_window c ts said =
    AreTags-AreContiguous current (bytes_of c.bytes) 128 0 ts (length c.bytes - 16) said.tags

-- contiguous tiles end no earlier than they begin
pub fill-reaches : (format from : ℕ) (ts : List Tile) (to : ℕ) → AreContiguous format from ts to → from ≤ to
fill-reaches format from [] to h = let e : from ≡ to = h in omega arith
fill-reaches format from (t ∷ ts) to h = let on = fill-reaches format (from + t.len) ts to h.2 in omega arith

-- no tag stands before the first tile
pub before_tags : (format from : ℕ) (ts : List Tile) (to : ℕ) → AreContiguous format from ts to → (k : ℕ) → k < from
    → IsBesideTags ts k
before_tags format from [] to h k l = tt
before_tags format from (t ∷ ts) to h k l = let e = h.0
    in (inl (omega arith), before_tags format (from + t.len) ts to h.2 k (omega arith))

-- law: the header is beside all tags
pub header_is_beside_tags : HeaderIsBesideTags
header_is_beside_tags c ts said k l =
    let g = legal (length c.bytes) said.size in let low = g.low in
    (before_tags current 128 ts (length c.bytes - 16) (tiles_fill_the_window c ts said) k l, omega arith)

-- ---- a tile in a list that fills a range
pub record InRange (from : ℕ) (ts : List Tile) (to at : ℕ) (t : Tile) : Type 0 where
  pub low : from ≤ at
  pub long : 32 ≤ t.len
  pub high : at + t.len ≤ to
  pub beside : (k : ℕ) → at + 16 ≤ k → k < at + t.len → IsBesideTags ts k

pub in_range : (format from : ℕ) (ts : List Tile) (to at : ℕ) (t : Tile) → AreContiguous format from ts to
    → tile_in ts at ≡ Some t → InRange from ts to at t
in_range format from [] to at t h e = absurd (none-some t e)
in_range format from (u ∷ us) to at t h e =
    let P : Tile → Type 0 = λ (v : Tile). InRange from (u ∷ us) to at v in
    by_test (u.offset == at) (InRange from (u ∷ us) to at t)
    (λ f.
    let there = eqb-true u.offset at f in let here = h.0 in let long = (is_tile-IsWhole format u h.1).long
    in let on = fill-reaches format (from + u.len) us to h.2 in
    subst P (same_Some u t (sym (ap (λ (v : Bool). cond v (Some u) (tile_in us at)) f) ∙ e))
    (record {
      low = omega arith;
      long = long;
      high = omega arith;
      beside = λ k a b. (inr (omega arith), before_tags format (from + u.len) us to h.2 k (omega arith));
    }))
    (λ f.
    let r = in_range format (from + u.len) us to at t h.2
    (sym (ap (λ (v : Bool). cond v (Some u) (tile_in us at)) f) ∙ e) in
    let here = h.0 in let low = r.low in let far = (is_tile-IsWhole format u h.1).long in
    record { low = omega arith; long = r.long; high = r.high; beside = λ k a b. (inr (omega arith), r.beside k a b) })

-- law: the payload of a tile is beside all tags
pub payload_is_beside_tags : PayloadIsBesideTags
payload_is_beside_tags c ts at t said stands k a b =
    let r = in_range current 128 ts (length c.bytes - 16) at t (tiles_fill_the_window c ts said) stands
    in let high = r.high in (r.beside k a b, omega arith)

-- ---- where a tile stands

-- the last tile, or the one before a list of none
abbrev pub last_or : Option Tile → List Tile → Option Tile
last_or before [] = before
last_or before (t ∷ ts) = last_or (Some t) ts

last_or-last_in : (t : Tile) (ts : List Tile) → last_or (Some t) ts ≡ last_in (t ∷ ts)
last_or-last_in t [] = refl
last_or-last_in t (u ∷ ts) = last_or-last_in u ts

-- the last tile of a list, by both functions
pub none_last : (ts : List Tile) → last_or None ts ≡ last_in ts
none_last [] = refl
none_last (t ∷ ts) = last_or-last_in t ts

record StandsBehind (before : Option Tile) (ts : List Tile) (at : ℕ) (t : Tile) : Type 0 where
  prefix : List Tile
  back : List Tile
  is : ts ≡ prefix ++ t ∷ back
  offset : t.offset ≡ at
  next : next_in ts at ≡ first_in back
  previous : previous_from before ts at ≡ last_or before prefix
  changed : (change : Tile → List Tile → List Tile) → changed_at at change ts ≡ prefix ++ change t back

stands_behind : (before : Option Tile) (ts : List Tile) (at : ℕ) (t : Tile) → tile_in ts at ≡ Some t
    → StandsBehind before ts at t
stands_behind before [] at t e = absurd (none-some t e)
stands_behind before (u ∷ us) at t e =
    let P : Tile → Type 0 = λ (v : Tile). StandsBehind before (u ∷ us) at v in
    by_test (u.offset == at) (StandsBehind before (u ∷ us) at t)
    (λ f. subst P (same_Some u t (sym (ap (λ (v : Bool). cond v (Some u) (tile_in us at)) f) ∙ e))
    (record {
      prefix = [];
      back = us;
      is = refl;
      offset = eqb-true u.offset at f;
      next = ap (λ (v : Bool). cond v (first_in us) (next_in us at)) f;
      previous = ap (λ (v : Bool). cond v before (previous_from (Some u) us at)) f;
      changed = λ change. ap (λ (v : Bool). cond v (change u us) (u ∷ changed_at at change us)) f;
    }))
    (λ f.
    let r = stands_behind (Some u) us at t (sym (ap (λ (v : Bool). cond v (Some u) (tile_in us at)) f) ∙ e) in
    record {
      prefix = u ∷ r.prefix;
      back = r.back;
      is = ap (λ (vs : List Tile). u ∷ vs) r.is;
      offset = r.offset;
      next = ap (λ (v : Bool). cond v (first_in us) (next_in us at)) f ∙ r.next;
      previous = ap (λ (v : Bool). cond v before (previous_from (Some u) us at)) f ∙ r.previous;
      changed = λ change. ap (λ (v : Bool). cond v (change u us) (u ∷ changed_at at change us)) f
          ∙ ap (λ (vs : List Tile). u ∷ vs) (r.changed change);
    })

-- law: a tile that is found at an offset stands in the list
pub tile_stands_in_list : TileStandsInList
tile_stands_in_list ts at t e =
    let r = stands_behind None ts at t e in
    record {
      prefix = r.prefix;
      back = r.back;
      is = r.is;
      offset = r.offset;
      next = r.next;
      previous = r.previous ∙ none_last r.prefix;
      changed = r.changed;
    }

-- ---- one tile at an offset
offset_low : (format from : ℕ) (prefix : List Tile) (t : Tile) (back : List Tile) (to : ℕ)
    → AreContiguous format from (prefix ++ t ∷ back) to → from ≤ t.offset
offset_low format from [] t back to h = let e = h.0 in omega arith
offset_low format from (u ∷ us) t back to h = let on = offset_low format (from + u.len) us t back to h.2 in omega arith

one_at : (format from : ℕ) (prefix : List Tile) (t : Tile) (back : List Tile) (to : ℕ)
    → AreContiguous format from (prefix ++ t ∷ back) to → tile_in (prefix ++ t ∷ back) t.offset ≡ Some t
one_at format from [] t back to h =
    ap (λ (v : Bool). cond v (Some t) (tile_in back t.offset)) (eq-eqb t.offset t.offset refl)
one_at format from (u ∷ us) t back to h =
    let on = offset_low format (from + u.len) us t back to h.2 in let long = (is_tile-IsWhole format u h.1).long
    in let here = h.0 in
    let other : (u.offset == t.offset) ≡ false = grind arith in
    ap (λ (v : Bool). cond v (Some u) (tile_in (us ++ t ∷ back) t.offset)) other
    ∙ one_at format (from + u.len) us t back to h.2

-- law: no two tiles begin at one offset
pub one_tile_at_an_offset : OneTileAtAnOffset
one_tile_at_an_offset c prefix t back said =
    one_at current 128 prefix t back (length c.bytes - 16) (tiles_fill_the_window c (prefix ++ t ∷ back) said)

-- the tile after it
next_at : (format from : ℕ) (prefix : List Tile) (t : Tile) (back : List Tile) (to : ℕ)
    → AreContiguous format from (prefix ++ t ∷ back) to → next_in (prefix ++ t ∷ back) t.offset ≡ first_in back
next_at format from [] t back to h =
    ap (λ (v : Bool). cond v (first_in back) (next_in back t.offset)) (eq-eqb t.offset t.offset refl)
next_at format from (u ∷ us) t back to h =
    let on = offset_low format (from + u.len) us t back to h.2 in let long = (is_tile-IsWhole format u h.1).long
    in let here = h.0 in
    let other : (u.offset == t.offset) ≡ false = grind arith in
    ap (λ (v : Bool). cond v (first_in (us ++ t ∷ back)) (next_in (us ++ t ∷ back) t.offset)) other
    ∙ next_at format (from + u.len) us t back to h.2

-- the next tile is the first of those after
pub next_stands_behind : (c : WindowState) (prefix : List Tile) (t : Tile) (back : List Tile)
    → EncodesTiles c (prefix ++ t ∷ back) → next_in (prefix ++ t ∷ back) t.offset ≡ first_in back
next_stands_behind c prefix t back said =
    next_at current 128 prefix t back (length c.bytes - 16) (tiles_fill_the_window c (prefix ++ t ∷ back) said)

-- ---- the last tile
pub last_tile_ends_list : LastTileEndsList
last_tile_ends_list [] t e = absurd (none-some t e)
last_tile_ends_list (u ∷ []) t e = ap (λ (v : Tile). v ∷ []) (same_Some u t e)
last_tile_ends_list (u ∷ v ∷ ts) t e = ap (λ (us : List Tile). u ∷ us) (last_tile_ends_list (v ∷ ts) t e)
