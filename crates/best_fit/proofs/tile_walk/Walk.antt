-- A walk over the tiles of a window, from its header to its end tag.
use Rattle.best_fit.proofs.Common.{◌≡◌, refl, sym, ap, subst, ◌∙◌, ℕ, zero, suc, ◌+◌, ◌-◌, ◌<◌, ◌≤◌, Bool, true, false}
use Rattle.best_fit.proofs.Common.{◌||◌, List, [], ◌∷◌, ◌++◌, length, append_assoc, zero-add, arith, ◌==◌, Option, Some}
use Rattle.best_fit.proofs.Common.{None, is_some, option_map, slice_get, same_Some, none-some, list_any, both_ways}
use Rattle.best_fit.proofs.Common.{ne_eqb, WindowState, Tile, current, first_in, next_in, EncodesTiles, HasTileAt}
use Rattle.best_fit.proofs.Common.{next_stands_behind, one_tile_at_an_offset, Extent, handle, span, IsHeap, is_live_in}
use Rattle.best_fit.proofs.Common.{live_of, tiles_in}
use Rattle.std.proofs.lemmas.Option.{slice_get-map}
use Rattle.block_tags.specs.Windows.{IsTiledWindow}
use Rattle.best_fit.specs.Extents.{spans}
use Rattle.best_fit.specs.Heap.{IsTileOf}
use Rattle.best_fit.proofs.tags.RowParts.{row_reaches}
use Rattle.best_fit.proofs.tags.TagsAndLiveSet.{heap-says, legal_size, said_row}
use Rattle.best_fit.proofs.tags.TileRows.{Row, unused, used, use_cases, extents_of, extents_of-free, extents_of-used}

-- the distance of a walk from the current tile to the end
abbrev pub to_go : ℕ → Option Tile → ℕ
to_go end None = 0
to_go end (Some t) = end - t.offset

-- a row from one of its tiles on
row_at : (at : ℕ) (passed : List Tile) (t : Tile) (back : List Tile) (end : ℕ) → Row at (passed ++ (t ∷ back)) end
    → Row t.offset (t ∷ back) end
row_at at [] t back end r = subst (λ k. Row k (t ∷ back) end) (sym r.0) r
row_at at (u ∷ us) t back end r = row_at (at + u.len) us t back end r.3

nearer : (t : Tile) (back : List Tile) (end n : ℕ) → Row t.offset (t ∷ back) end → end < n
    → to_go n (first_in back) < to_go n (Some t)
nearer t [] end n r l = let e : t.offset + t.len ≡ end = r.3 in let long = r.1 in omega arith
nearer t (u ∷ us) end n r l = let o = r.3.0 in let long = r.1 in
    let on = row_reaches (t.offset + t.len) (u ∷ us) end r.3 in omega arith

-- the current tile is the first of the remaining ones, and the property holds for the passed and the remaining tiles
pub record Walk (c : WindowState) (P : List Tile → List Tile → Type 0) (ahead : Option Tile) : Type 0 where
  pub passed : List Tile
  pub rest : List Tile
  pub said : EncodesTiles c (passed ++ rest)
  pub here : ahead ≡ first_in rest
  pub holds : P passed rest

-- a walk with a property of the remaining tiles
abbrev pub Left : WindowState → Option Tile → (List Tile → Type 0) → Type 0
Left c ahead P = Walk c (λ passed rest. P rest) ahead

-- a walk begins with all tiles
pub left_start : (c : WindowState) (P : List Tile → Type 0) → IsHeap current c.bytes → (ahead : Option Tile)
    → ((ts : List Tile) → EncodesTiles c ts → ahead ≡ first_in ts) → P (tiles_in c) → Left c ahead P
left_start c P heap ahead is holds =
    let said = (heap-says c heap).said in
    record { passed = []; rest = tiles_in c; said = said; here = is (tiles_in c) said; holds = holds }

-- the tags of a heap's window describe tiles
pub window_tiled : (c : WindowState) → IsHeap current c.bytes → IsTiledWindow c
window_tiled c heap = record { tiles = tiles_in c; said = (heap-says c heap).said }

-- a list whose first tile is known
pub record Here (tile : Tile) (rest : List Tile) : Type 0 where
  pub back : List Tile
  pub list : rest ≡ tile ∷ back

-- the tile ahead is the first of the rest
pub first_here : (tile : Tile) (ahead : Option Tile) (rest : List Tile) → ahead ≡ Some tile
    → ahead ≡ first_in rest → Here tile rest
first_here tile ahead [] e f = absurd (none-some tile (sym f ∙ e))
first_here tile ahead (t ∷ ts) e f =
    record { back = ts; list = ap (λ (u : Tile). u ∷ ts) (same_Some t tile (sym f ∙ e)) }

-- a tile that a walk has reached
pub record Meets (c : WindowState) (tile : Tile) : Type 0 where
  pub has : HasTileAt c tile.offset
  pub long : 32 ≤ tile.len
  pub within : tile.offset + tile.len ≤ length c.bytes - 16
  pub size : length c.bytes ≤ 1073741824

module _ (c : WindowState) (passed : List Tile) (tile : Tile) (back : List Tile)
    (said : EncodesTiles c (passed ++ (tile ∷ back))) where
  rows : Row tile.offset (tile ∷ back) (length c.bytes - 16)
  rows = row_at 128 passed tile back (length c.bytes - 16) (said_row c (passed ++ (tile ∷ back)) said)

  -- the tile ahead is the tile of the tags
  pub meets : Meets c tile
  meets =
      record {
        has = record {
          tiles = passed ++ (tile ∷ back);
          said = said;
          tile = tile;
          stands = one_tile_at_an_offset c passed tile back said;
        };
        long = rows.1;
        within = row_reaches (tile.offset + tile.len) back (length c.bytes - 16) rows.3;
        size = (legal_size (length c.bytes) said.size).high;
      }

  -- the tile is passed
  pub passed_on : EncodesTiles c ((passed ++ (tile ∷ [])) ++ back)
  passed_on = subst (EncodesTiles c) (sym (append_assoc passed (tile ∷ []) back)) said

  -- the one after it
  pub next_here : (next : Option Tile) → ((ts : List Tile) → EncodesTiles c ts → next ≡ next_in ts tile.offset)
      → next ≡ first_in back
  next_here next is = is (passed ++ (tile ∷ back)) said ∙ next_stands_behind c passed tile back said

  -- is nearer to the end
  pub next_nearer : (next : Option Tile) → next ≡ first_in back
      → to_go (length c.bytes) next < to_go (length c.bytes) (Some tile)
  next_nearer next e =
      subst (λ (o : Option Tile). to_go (length c.bytes) o < to_go (length c.bytes) (Some tile)) (sym e)
      (nearer tile back (length c.bytes - 16) (length c.bytes) rows
      (let low = (legal_size (length c.bytes) said.size).low in omega arith))

-- the current tile of a walk
pub record Turn (c : WindowState) (P : List Tile → List Tile → Type 0) (tile : Tile) : Type 0 where
  pub passed : List Tile
  pub back : List Tile
  pub said : EncodesTiles c (passed ++ (tile ∷ back))
  pub holds : P passed (tile ∷ back)
  pub meets : Meets c tile

-- a tile ahead: one turn of the walk
pub turn : (c : WindowState) (P : List Tile → List Tile → Type 0) (ahead : Option Tile) → Walk c P ahead → (tile : Tile)
    → ahead ≡ Some tile → Turn c P tile
turn c P ahead w tile is =
    let h = first_here tile ahead w.rest is w.here in
    let said : EncodesTiles c (w.passed ++ (tile ∷ h.back)) =
    subst (λ (ts : List Tile). EncodesTiles c (w.passed ++ ts)) h.list w.said in
    record {
      passed = w.passed;
      back = h.back;
      said = said;
      holds = subst (P w.passed) h.list w.holds;
      meets = meets c w.passed tile h.back said;
    }

-- a property of the current tile and the tiles after it
abbrev pub Next : WindowState → (List Tile → Type 0) → Tile → Type 0
Next c P tile = Turn c (λ passed rest. P rest) tile

-- the tile ahead, and the tiles after it
pub left_next : (c : WindowState) (ahead : Option Tile) (P : List Tile → Type 0) → Left c ahead P → (tile : Tile)
    → ahead ≡ Some tile → Next c P tile
left_next c ahead P l tile is = turn c (λ passed rest. P rest) ahead l tile is

-- the walk continues with the next tile
pub left_goes_on : (c : WindowState) (P Q : List Tile → Type 0) (tile : Tile) → (n : Next c P tile)
    → (next : Option Tile)
    → ((ts : List Tile) → EncodesTiles c ts → next ≡ next_in ts tile.offset) → Q n.back → Left c next Q
left_goes_on c P Q tile n next is holds =
    record {
      passed = n.passed ++ (tile ∷ []);
      rest = n.back;
      said = passed_on c n.passed tile n.back n.said;
      here = next_here c n.passed tile n.back n.said next is;
      holds = holds;
    }

-- the walk comes closer to the end
pub left_nearer : (c : WindowState) (P : List Tile → Type 0) (tile : Tile) → (n : Next c P tile)
    → (ahead next : Option Tile)
    → ahead ≡ Some tile → ((ts : List Tile) → EncodesTiles c ts → next ≡ next_in ts tile.offset)
    → to_go (length c.bytes) next < to_go (length c.bytes) ahead
left_nearer c P tile n ahead next here is =
    subst (λ (o : Option Tile). to_go (length c.bytes) next < to_go (length c.bytes) o) (sym here)
    (next_nearer c n.passed tile n.back n.said next (next_here c n.passed tile n.back n.said next is))

-- at the end nothing is left
pub none_left : (rest : List Tile) → None ≡ first_in rest → rest ≡ []
none_left [] e = refl
none_left (t ∷ ts) e = absurd (none-some t e)

-- no tile ahead: nothing is left
pub left_end : (c : WindowState) (ahead : Option Tile) (P : List Tile → Type 0) → Left c ahead P → ahead ≡ None → P []
left_end c ahead P l none = subst P (none_left l.rest (sym none ∙ l.here)) l.holds

-- ---- the targets of the walks

-- the blocks in use are the tiles in use
pub live_extents : (c : WindowState) → (live_of c.bytes).extents ≡ extents_of (tiles_in c)
unfolding live_of
live_extents c = refl

-- a handle is among the remaining tiles
abbrev pub StillNames : WindowState → ℕ → List Tile → Type 0
StillNames c h rest = list_any (λ (x : Extent). handle x == h) (extents_of rest) ≡ is_live_in (live_of c.bytes) h

-- at the start each block can have the handle
pub names_start : (c : WindowState) (h : ℕ) → StillNames c h (tiles_in c)
names_start c h = ap (λ xs. list_any (λ (x : Extent). handle x == h) xs) (sym (live_extents c))

-- after a tile without the handle the others can have it
pub names_passed : (c : WindowState) (h : ℕ) (t : Tile) (back : List Tile) → StillNames c h (t ∷ back)
    → (t.offset + 16 ≡ h → ⊥) → StillNames c h back
names_passed c h t back s n =
    elim (use_cases t) [
      | unused f ↦ sym (ap (λ xs. list_any (λ (x : Extent). handle x == h) xs) (extents_of-free t back f)) ∙ s
      | used role f ↦
          sym (ap (λ (b : Bool). b || list_any (λ (x : Extent). handle x == h) (extents_of back))
          (ne_eqb (t.offset + 16) h n))
          ∙ sym (ap (λ xs. list_any (λ (x : Extent). handle x == h) xs) (extents_of-used t back role f)) ∙ s
    ]

-- this many blocks and the remaining ones are all
abbrev pub StillLive : WindowState → ℕ → List Tile → Type 0
StillLive c count rest = count + length (extents_of rest) ≡ length (live_of c.bytes).extents

-- at the start no tile is counted
pub live_start : (c : WindowState) → StillLive c 0 (tiles_in c)
live_start c = zero-add (length (extents_of (tiles_in c))) ∙ ap length (sym (live_extents c))

-- a tile in use counts one more
pub live_more : (c : WindowState) (count : ℕ) (t : Tile) (back : List Tile) → StillLive c count (t ∷ back)
    → is_some t.use_of ≡ true → StillLive c (count + 1) back
live_more c count t back s some =
    elim (use_cases t) [
      | unused f ↦ absurd (both_ways (is_some t.use_of) (ap is_some f) some)
      | used role f ↦ let e : length (extents_of (t ∷ back)) ≡ suc (length (extents_of back)) =
          ap length (extents_of-used t back role f) in omega arith
    ]

-- a free tile is not counted
pub live_same : (c : WindowState) (count : ℕ) (t : Tile) (back : List Tile) → StillLive c count (t ∷ back)
    → is_some t.use_of ≡ false → StillLive c count back
live_same c count t back s none =
    elim (use_cases t) [
      | unused f ↦ let e : length (extents_of (t ∷ back)) ≡ length (extents_of back) =
          ap length (extents_of-free t back f) in omega arith
      | used role f ↦ absurd (both_ways (is_some t.use_of) none (ap is_some f))
    ]

-- there are fewer blocks than bytes
few_extents : (at : ℕ) (ts : List Tile) (end : ℕ) → Row at ts end → at + length (extents_of ts) ≤ end
few_extents at [] end r = let e : at ≡ end = r in omega arith
few_extents at (t ∷ ts) end r =
    let rest = few_extents (at + t.len) ts end r.3 in let long = r.1 in
    elim (use_cases t) [
      | unused f ↦ let e : length (extents_of (t ∷ ts)) ≡ length (extents_of ts) =
          ap length (extents_of-free t ts f) in omega arith
      | used role f ↦ let e : length (extents_of (t ∷ ts)) ≡ suc (length (extents_of ts)) =
          ap length (extents_of-used t ts role f) in omega arith
    ]

-- at most 2^30 tiles are counted
pub live_few : (c : WindowState) (count : ℕ) (rest : List Tile) → IsHeap current c.bytes
    → StillLive c count rest → count ≤ 1073741824
live_few c count rest heap s =
    let said = (heap-says c heap).said in let high = (legal_size (length c.bytes) said.size).high in
    let few = few_extents 128 (tiles_in c) (length c.bytes - 16) (said_row c (tiles_in c) said) in
    let all : length (live_of c.bytes).extents ≡ length (extents_of (tiles_in c)) =
    ap length (live_extents c) in omega arith

-- the tile of an index is ahead, with this many tiles before it
abbrev pub StillAt : WindowState → ℕ → ℕ → List Tile → Type 0
StillAt c before index rest = slice_get rest (index - before) ≡ slice_get (tiles_in c) index

-- at the start the index counts all tiles
pub index_start : (c : WindowState) (index : ℕ) → StillAt c 0 index (tiles_in c)
index_start c index = let same : index - 0 ≡ index = omega arith in ap (slice_get (tiles_in c)) same

-- passing a tile reduces the distance by one
pub index_passed : (c : WindowState) (before index : ℕ) (t : Tile) (back : List Tile)
    → StillAt c before index (t ∷ back)
    → before < index → StillAt c (before + 1) index back
index_passed c before index t back s l =
    let next : index - before ≡ suc (index - (before + 1)) = omega arith in sym (ap (slice_get (t ∷ back)) next) ∙ s

pub first_in-slice_get : (ts : List Tile) → first_in ts ≡ slice_get ts 0
first_in-slice_get [] = refl
first_in-slice_get (t ∷ ts) = refl

-- the tile at the index is the one ahead
pub index_found : (c : WindowState) (ahead : Option Tile) (before index : ℕ) → index ≤ before
    → Left c ahead (StillAt c before index) → ahead ≡ slice_get (tiles_in c) index
index_found c ahead before index l left =
    let none : index - before ≡ 0 = omega arith in left.here ∙ first_in-slice_get left.rest
    ∙ sym (ap (slice_get left.rest) none) ∙ left.holds

-- ---- the tile of an index, and the one after it

pub record TileAt (ts : List Tile) (i : ℕ) (t : Tile) : Type 0 where
  pub front : List Tile
  pub back : List Tile
  pub list : ts ≡ front ++ (t ∷ back)
  pub next : slice_get ts (suc i) ≡ first_in back

pub tile_at_index : (ts : List Tile) (i : ℕ) (t : Tile) → slice_get ts i ≡ Some t → TileAt ts i t
tile_at_index [] i t e = absurd (none-some t e)
tile_at_index (u ∷ us) zero t e = record {
  front = [];
  back = us;
  list = ap (λ (v : Tile). v ∷ us) (same_Some u t e);
  next = sym (first_in-slice_get us);
}
tile_at_index (u ∷ us) (suc i) t e =
    let r = tile_at_index us i t e in
    record { front = u ∷ r.front; back = r.back; list = ap (λ (vs : List Tile). u ∷ vs) r.list; next = r.next }

module _ (c : WindowState) (heap : IsHeap current c.bytes) (i : ℕ) (t : Tile) (stands : slice_get (tiles_in c) i
    ≡ Some t) where
  indexed : TileAt (tiles_in c) i t
  indexed = tile_at_index (tiles_in c) i t stands

  indexed_said : EncodesTiles c (indexed.front ++ (t ∷ indexed.back))
  indexed_said = subst (EncodesTiles c) indexed.list (heap-says c heap).said

  pub index_has : HasTileAt c t.offset
  index_has = (meets c indexed.front t indexed.back indexed_said).has

  pub index_next : (r : Option Tile) → ((ts : List Tile) → EncodesTiles c ts → r ≡ next_in ts t.offset)
      → r ≡ slice_get (tiles_in c) (i + 1)
  index_next r is =
      let one : suc i ≡ i + 1 = omega arith in next_here c indexed.front t indexed.back indexed_said r is
      ∙ sym indexed.next ∙ ap (slice_get (tiles_in c)) one

-- the tile of an index is the span of that index
pub tile_span : (c : WindowState) (i : ℕ) (r : Option Tile) → IsHeap current c.bytes → r ≡ slice_get (tiles_in c) i
    → option_map span r ≡ slice_get (spans (live_of c.bytes)) i
unfolding live_of
tile_span c i r heap e = ap (option_map span) e ∙ sym (slice_get-map span (tiles_in c) i)
    ∙ ap (λ ss. slice_get ss i) heap.tiles.tiles

-- ---- a heap, which is its window

module _ (c d : WindowState) (heap : IsHeap current c.bytes) (e : d ≡ c) where
  -- the tile at an index, as a span of the live set
  pub heap_span : (i : ℕ) (r : Option Tile) → r ≡ slice_get (tiles_in d) i
      → option_map span r ≡ slice_get (spans (live_of d.bytes)) i
  heap_span i r is =
      subst (λ (v : WindowState). option_map span r ≡ slice_get (spans (live_of v.bytes)) i) (sym e)
      (tile_span c i r heap (is ∙ ap (λ (v : WindowState). slice_get (tiles_in v) i) e))

  -- the first tile of the heap
  pub heap_first : (r : Option Tile) → ((ts : List Tile) → EncodesTiles c ts → r ≡ first_in ts)
      → r ≡ slice_get (tiles_in d) 0
  heap_first r is = is (tiles_in c) (heap-says c heap).said ∙ first_in-slice_get (tiles_in c)
      ∙ sym (ap (λ (v : WindowState). slice_get (tiles_in v) 0) e)

  heap_stands : (i : ℕ) (t : Tile) → slice_get (tiles_in d) i ≡ Some t → slice_get (tiles_in c) i ≡ Some t
  heap_stands i t stands = sym (ap (λ (v : WindowState). slice_get (tiles_in v) i) e) ∙ stands

  -- a tile of the heap is at its offset
  pub heap_has : (t : Tile) → IsTileOf d.bytes t → HasTileAt c t.offset
  heap_has t is = index_has c heap is.index t (heap_stands is.index t is.stands)

  -- the tile after one of the heap
  pub heap_next : (t : Tile) (r : Option Tile) → ((ts : List Tile) → EncodesTiles c ts → r ≡ next_in ts t.offset)
      → (i : ℕ) → slice_get (tiles_in d) i ≡ Some t → r ≡ slice_get (tiles_in d) (i + 1)
  heap_next t r is i stands = index_next c heap i t (heap_stands i t stands) r is
      ∙ sym (ap (λ (v : WindowState). slice_get (tiles_in v) (i + 1)) e)
