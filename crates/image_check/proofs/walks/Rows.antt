-- A walk over the rows of the map of blocks, that keeps something of the tiles passed: a row is the next tile in use.
use Rattle.image_check.proofs.Common.{Block, Blocks, EncodesTiles, List, None, Option, Role, Some, Tile, WindowState}
use Rattle.image_check.proofs.Common.{[], ap, arith, cons_option, entries_of, entry_of, false, frame_of, frames}
use Rattle.image_check.proofs.Common.{is_some, is_use, length, length-map, new_block, refl, same_role, slice_get, subst}
use Rattle.image_check.proofs.Common.{suc, sym, tiles_are_read_off, zero, ℕ, ◌++◌, ◌+◌, ◌∙◌, ◌∷◌, ◌≡◌, ◌≤◌}
use Rattle.std.proofs.lemmas.List.{append-nil}
use Rattle.block_tags.specs.declared.tile.Role.TheVariants.{Object}
use Rattle.block_tags.specs.Windows.{IsTiledWindow}
use Rattle.best_fit.proofs.Laws.{passed_on}
use Rattle.image_check.specs.Passes.{tiles_in}
use Rattle.image_check.proofs.block_collection.Lookup.{count-free, count-push, count-used}
use Rattle.image_check.proofs.walks.Tiles.{WalksAt}

-- this many tiles in use are passed, and the property holds for all tiles before the next
pub record RowWalks (c : WindowState) (Kept : List Tile → Type 0) (number : ℕ) : Type 0 where
  pub front : List Tile
  pub rest : List Tile
  pub said : EncodesTiles c (front ++ rest)
  pub count : length (entries_of front) ≡ number
  pub kept : Kept front

-- the property is kept over a free tile
abbrev pub PassesGaps : WindowState → (List Tile → Type 0) → Type 0
PassesGaps c Kept = (g : Tile) → g.use_of ≡ None → (a : WalksAt c Kept g) → Kept (a.front ++ g ∷ [])

-- the tile of a row
pub record RowAt (c : WindowState) (Kept : List Tile → Type 0) (number : ℕ) (frame : ℕ × Role × ℕ) : Type 0 where
  pub here : Tile
  pub at : WalksAt c Kept here
  pub count : length (entries_of at.front) ≡ number
  pub place : here.offset + 16 ≡ frame.0
  pub use_of : here.use_of ≡ Some frame.1
  pub len : here.len ≡ frame.2

-- before the first row all tiles are ahead
pub rows-start : (c : WindowState) (Kept : List Tile → Type 0) → IsTiledWindow c → Kept [] → RowWalks c Kept 0
rows-start c Kept tiled kept = record { front = []; rest = tiled.tiles; said = tiled.said; count = refl; kept = kept }

-- a tile that is as long as another, of the same use and at the same place, is that tile but for its colour
pub recoloured : (t u : Tile) → t.offset ≡ u.offset → t.len ≡ u.len → t.use_of ≡ u.use_of
    → t ≡ record { offset = u.offset; len = u.len; use_of = u.use_of; red = t.red }
recoloured t u e f g = λ i. record { offset = e i; len = f i; use_of = g i; red = t.red }

-- a free tile is no object's
pub free-object : (t : Tile) → t.use_of ≡ None → is_use Object t ≡ false
free-object t e = ap (λ (u : Option Role). elim u [ None ↦ false | Some r ↦ same_role Object r ]) e

-- ---- the entries of tiles

entry-by : ℕ → ℕ → Option Role → Option (ℕ × Block)
entry-by offset len u = elim u [ None ↦ None | Some role ↦ Some (offset + 16, new_block role len) ]

free-behind : (t : Tile) (ts : List Tile) → t.use_of ≡ None → entries_of (t ∷ ts) ≡ entries_of ts
unfolding entry-by
free-behind t ts e = ap (λ (u : Option Role). cons_option (entry-by t.offset t.len u) (entries_of ts)) e

used-behind : (t : Tile) (ts : List Tile) (role : Role) → t.use_of ≡ Some role
    → entries_of (t ∷ ts) ≡ (t.offset + 16, new_block role t.len) ∷ entries_of ts
unfolding entry-by
used-behind t ts role e = ap (λ (u : Option Role). cons_option (entry-by t.offset t.len u) (entries_of ts)) e

still-free : (front : List Tile) (t : Tile) → t.use_of ≡ None
    → length (entries_of (front ++ t ∷ [])) ≡ length (entries_of front)
still-free front t e =
    let push = count-push front t in
    let none = count-free t (ap is_some e) in
    omega arith

skip : (front rest : List Tile) → slice_get (frames (entries_of (front ++ rest))) (length (entries_of front)) ≡
    slice_get (frames (entries_of rest)) 0
skip [] rest = refl
skip (t ∷ front) rest = by (entry_of t) (skip front rest)
  where
    by : (o : Option (ℕ × Block)) → slice_get (frames (entries_of (front ++ rest))) (length (entries_of front)) ≡
        slice_get (frames (entries_of rest)) 0
        → slice_get (frames (cons_option o (entries_of (front ++ rest)))) (length (cons_option o (entries_of front))) ≡
        slice_get (frames (entries_of rest)) 0
    by None h = h
    by (Some e) h = h

entries-both : (front rest : List Tile) → length (entries_of (front ++ rest)) ≡ length (entries_of front) + length
    (entries_of rest)
entries-both [] rest = omega arith
entries-both (t ∷ front) rest = by (entry_of t) (entries-both front rest)
  where
    by : (o : Option (ℕ × Block)) → length (entries_of (front ++ rest)) ≡ length (entries_of front) + length
        (entries_of rest)
        → length (cons_option o (entries_of (front ++ rest))) ≡ length (cons_option o (entries_of front)) + length
        (entries_of rest)
    by None h = h
    by (Some e) h = omega arith

frame-there : (es : Blocks) (i : ℕ) (x : ℕ × Block) → slice_get es i ≡ Some x
    → slice_get (frames es) i ≡ Some (frame_of x)
frame-there [] i x e = absurd (cc)
frame-there (y ∷ es) zero x e = let same : y ≡ x = cc in ap (λ (z : ℕ × Block). Some (frame_of z)) same
frame-there (y ∷ es) (suc i) x e = frame-there es i x e

-- there are as many rows as tiles in use
pub few-rows : (b : List ℕ) (es : Blocks) → frames es ≡ frames (entries_of (tiles_in b))
    → length es ≡ length (entries_of (tiles_in b))
few-rows b es f = sym (length-map es frame_of) ∙ ap (λ (xs : List (ℕ × Role × ℕ)). length xs) f
    ∙ length-map (entries_of (tiles_in b)) frame_of

module _ (c : WindowState) (Kept : List Tile → Type 0) (gaps : PassesGaps c Kept) where
  -- the next tile in use is that of the row
  next-row : (number : ℕ) (frame : ℕ × Role × ℕ) (front rest : List Tile) → EncodesTiles c (front ++ rest)
      → length (entries_of front) ≡ number → Kept front
      → slice_get (frames (entries_of rest)) 0 ≡ Some frame → RowAt c Kept number frame
  next-row number frame front [] said count kept e = absurd (cc)
  next-row number frame front (t ∷ rest) said count kept e = by t.use_of refl
      (next-row number frame (front ++ t ∷ []) rest (passed_on c front t rest said))
    where
      at : WalksAt c Kept t
      at = record { front = front; back = rest; said = said; kept = kept }

      by : (u : Option Role) → t.use_of ≡ u
          → (length (entries_of (front ++ t ∷ [])) ≡ number → Kept (front ++ t ∷ [])
          → slice_get (frames (entries_of rest)) 0 ≡ Some frame → RowAt c Kept number frame)
          → RowAt c Kept number frame
      by None u go = go (still-free front t u ∙ count) (gaps t u at)
          (sym (ap (λ (es : Blocks). slice_get (frames es) 0) (free-behind t rest u)) ∙ e)
      by (Some role) u go =
          let is : Some (t.offset + 16, role, t.len) ≡ Some frame = sym
          (ap (λ (es : Blocks). slice_get (frames es) 0) (used-behind t rest role u)) ∙ e in
          let same : (t.offset + 16, role, t.len) ≡ frame = cc in
          record {
            here = t;
            at = at;
            count = count;
            place = ap (λ (f : ℕ × Role × ℕ). f.0) same;
            use_of = u ∙ ap (λ (f : ℕ × Role × ℕ). Some f.1) same;
            len = ap (λ (f : ℕ × Role × ℕ). f.2) same;
          }

  -- after the last row all tiles are free
  pass-all : (front rest : List Tile) → EncodesTiles c (front ++ rest) → Kept front → length (entries_of rest) ≡ 0
      → Kept (tiles_in c.bytes)
  pass-all front [] said kept none = subst Kept (sym (tiles_are_read_off c (front ++ []) said ∙ append-nil front)) kept
  pass-all front (t ∷ rest) said kept none = by t.use_of refl
      (pass-all (front ++ t ∷ []) rest (passed_on c front t rest said))
    where
      by : (u : Option Role) → t.use_of ≡ u → (Kept (front ++ t ∷ []) → length (entries_of rest) ≡ 0
          → Kept (tiles_in c.bytes)) → Kept (tiles_in c.bytes)
      by None u go =
          go (gaps t u (record { front = front; back = rest; said = said; kept = kept }))
          (sym (ap (λ (es : Blocks). length es) (free-behind t rest u)) ∙ none)
      by (Some role) u go = let some = ap (λ (es : Blocks). length es) (used-behind t rest role u) in absurd
          (omega arith)

  module _ (es : Blocks) (f : frames es ≡ frames (entries_of (tiles_in c.bytes))) (number : ℕ)
      (w : RowWalks c Kept number) where
    tiles-all : tiles_in c.bytes ≡ w.front ++ w.rest
    tiles-all = tiles_are_read_off c (w.front ++ w.rest) w.said

    -- a row is a tile in use
    pub row-at : (x : ℕ × Block) → slice_get es number ≡ Some x → RowAt c Kept number (frame_of x)
    row-at x e =
        next-row number (frame_of x) w.front w.rest w.said w.count w.kept
        (sym (skip w.front w.rest) ∙ ap (slice_get (frames (entries_of (w.front ++ w.rest)))) w.count
        ∙ sym (ap (λ (ts : List Tile). slice_get (frames (entries_of ts)) number) tiles-all)
        ∙ sym (ap (λ (fs : List (ℕ × Role × ℕ)). slice_get fs number) f) ∙ frame-there es number x e)

    -- after the last row all tiles were passed
    pub rows-end : length es ≤ number → Kept (tiles_in c.bytes)
    rows-end l =
        let same = few-rows c.bytes es f in
        let all = ap (λ (ts : List Tile). length (entries_of ts)) tiles-all in
        let both = entries-both w.front w.rest in
        let count = w.count in
        pass-all w.front w.rest w.said w.kept (omega arith)

-- the walk continues, with the property of exactly these tiles
pub rows-on : (c : WindowState) (Kept Kept' : List Tile → Type 0) (number : ℕ) (frame : ℕ × Role × ℕ)
    → (r : RowAt c Kept number frame) → Kept' (r.at.front ++ r.here ∷ []) → RowWalks c Kept' (number + 1)
rows-on c Kept Kept' number frame r kept = record {
  front = r.at.front ++ r.here ∷ [];
  rest = r.at.back;
  said = passed_on c r.at.front r.here r.at.back r.at.said;
  count =
      let push = count-push r.at.front r.here in
      let one = count-used r.here (ap is_some r.use_of) in
      let count = r.count in
      omega arith;
  kept = kept;
}
