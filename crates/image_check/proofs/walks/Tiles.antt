-- A walk over the tiles of a window, from the first by `next`, that keeps something of the tiles after it.
use Rattle.image_check.proofs.Common.{EncodesTiles, IsFirstWrongTile, IsTrue, List, None, Option, Row, Some, Tile}
use Rattle.image_check.proofs.Common.{WindowState, [], and_from, and_parts, ap, arith, bytes_of, cases_Bool, cond-false}
use Rattle.image_check.proofs.Common.{cond-true, false, has_tags, inl, inr, is_legal_size, length, list_all}
use Rattle.image_check.proofs.Common.{list_all-append, not, refl, said_row, subst, sym, tiles_are_read_off, tiles_of}
use Rattle.image_check.proofs.Common.{true, ℕ, ◌%◌, ◌&&◌, ◌*◌, ◌++◌, ◌+◌, ◌-◌, ◌<◌, ◌∙◌, ◌∷◌, ◌≡◌, ◌≤◌}
use Rattle.std.proofs.Common.{Bool}
use Rattle.std.specs.Prelude.{find}
use Rattle.std.proofs.lemmas.List.{append-nil}
use Rattle.raw_region.specs.Format.{current}
use Rattle.block_tags.specs.Lists.{first_in, next_in}
use Rattle.block_tags.specs.Windows.{IsTiledWindow}
use Rattle.block_tags.proofs.Laws.{good_tags_say_tiles}
use Rattle.best_fit.proofs.Laws.{Meets, first_here, meets, next_here, next_nearer, none_left, passed_on, to_go}

-- ---- the place of a tile in a row

-- few tiles precede it, and it begins at a multiple of 16 if the row does
pub record LiesIn (from : ℕ) (front : List Tile) (t : Tile) : Type 0 where
  pub low : from + 32 * length front ≤ t.offset
  pub whole : from % 16 ≡ 0 → t.offset % 16 ≡ 0

row-lies : (from : ℕ) (front : List Tile) (t : Tile) (back : List Tile) (to : ℕ) → Row from (front ++ t ∷ back) to
    → LiesIn from front t
row-lies from [] t back to row = let at = row.0 in record { low = omega arith; whole = λ w. omega arith }
row-lies from (f ∷ front) t back to row =
    let rest = row-lies (from + f.len) front t back to row.3 in
    let long = row.1 in
    let even = row.2 in
    let low = rest.low in
    record { low = omega arith; whole = λ w. rest.whole (omega arith) }

-- ---- the walk

-- the next tile, and the property of the tiles that the walk has passed
pub record Walks (c : WindowState) (Kept : List Tile → Type 0) (tile : Option Tile) : Type 0 where
  pub front : List Tile
  pub rest : List Tile
  pub said : EncodesTiles c (front ++ rest)
  pub is : tile ≡ first_in rest
  pub kept : Kept front

-- the number of bytes from a tile on
abbrev pub left_from : WindowState → Option Tile → ℕ
left_from c tile = to_go (length c.bytes) tile

-- good tags describe tiles
pub tags-IsTiledWindow : (c : WindowState) → IsTrue (is_legal_size (length c.bytes))
    → IsTrue (has_tags current (bytes_of c.bytes) (length c.bytes)) → IsTiledWindow c
tags-IsTiledWindow c legal tags = let said = (good_tags_say_tiles c legal).0 tags
    in record { tiles = said.0; said = said.1 }

-- before the first tile all are ahead
pub walk-start : (c : WindowState) (Kept : List Tile → Type 0) (tile : Option Tile) → IsTiledWindow c
    → ((ts : List Tile) → EncodesTiles c ts → tile ≡ first_in ts) → Kept [] → Walks c Kept tile
walk-start c Kept tile tiled first kept =
    record { front = []; rest = tiled.tiles; said = tiled.said; is = first tiled.tiles tiled.said; kept = kept }

-- the current tile, with the tiles after it
pub record WalksAt (c : WindowState) (Kept : List Tile → Type 0) (here : Tile) : Type 0 where
  pub front : List Tile
  pub back : List Tile
  pub said : EncodesTiles c (front ++ here ∷ back)
  pub kept : Kept front

-- the walk is at the tile ahead
pub walk-at : (c : WindowState) (Kept : List Tile → Type 0) (tile : Option Tile) (here : Tile) → Walks c Kept tile
    → tile ≡ Some here → WalksAt c Kept here
walk-at c Kept tile here w e =
    let h = first_here here tile w.rest e w.is in
    record {
      front = w.front;
      back = h.back;
      said = subst (λ (ts : List Tile). EncodesTiles c (w.front ++ ts)) h.list w.said;
      kept = w.kept;
    }

-- the tile comes after the passed ones
pub at-lies : (c : WindowState) (Kept : List Tile → Type 0) (here : Tile) → (a : WalksAt c Kept here)
    → LiesIn 128 a.front here
at-lies c Kept here a = row-lies 128 a.front here a.back (length c.bytes - 16)
    (said_row c (a.front ++ here ∷ a.back) a.said)

-- the tile is the one of the tags
pub at-meets : (c : WindowState) (Kept : List Tile → Type 0) (here : Tile) → WalksAt c Kept here → Meets c here
at-meets c Kept here a = meets c a.front here a.back a.said

-- the tile lies in the window
pub at-within : (c : WindowState) (Kept : List Tile → Type 0) (here : Tile) → WalksAt c Kept here
    → here.offset + here.len ≤ length c.bytes
at-within c Kept here a = let high = (at-meets c Kept here a).within in omega arith

-- the walk goes on to the next tile, and has passed this one
pub walk-on : (c : WindowState) (Kept Kept' : List Tile → Type 0) (here : Tile) (next : Option Tile)
    → WalksAt c Kept here
    → ((ts : List Tile) → EncodesTiles c ts → next ≡ next_in ts here.offset)
    → ((front : List Tile) → Kept front → Kept' (front ++ here ∷ [])) → Walks c Kept' next
walk-on c Kept Kept' here next a n more = record {
  front = a.front ++ here ∷ [];
  rest = a.back;
  said = passed_on c a.front here a.back a.said;
  is = next_here c a.front here a.back a.said next n;
  kept = more a.front a.kept;
}

-- which is nearer to the end
pub walk-nearer : (c : WindowState) (Kept : List Tile
    → Type 0) (tile : Option Tile) (here : Tile) (next : Option Tile) → WalksAt c Kept here → tile ≡ Some here
    → ((ts : List Tile) → EncodesTiles c ts → next ≡ next_in ts here.offset) → left_from c next < left_from c tile
walk-nearer c Kept tile here next a e n =
    subst (λ t. left_from c next < left_from c t) (sym e)
    (next_nearer c a.front here a.back a.said next (next_here c a.front here a.back a.said next n))

no_tile : (tile : Option Tile) → ((t : Tile) → tile ≡ Some t → ⊥) → tile ≡ None
no_tile None h = refl
no_tile (Some t) h = absurd (h t refl)

-- the walk ends with the property of all tiles
pub walk-end : (c : WindowState) (Kept : List Tile → Type 0) (tile : Option Tile) → Walks c Kept tile
    → ((t : Tile) → tile ≡ Some t → ⊥) → Kept (tiles_of (bytes_of c.bytes) (length c.bytes))
walk-end c Kept tile w h =
    let none = none_left w.rest (sym (no_tile tile h) ∙ w.is) in
    let all : (w.front ++ w.rest) ≡ w.front = ap (λ (ts : List Tile). w.front ++ ts) none ∙ append-nil w.front in
    subst Kept (sym all ∙ sym (tiles_are_read_off c (w.front ++ w.rest) w.said)) w.kept

-- a walk has passed few tiles
pub walk-few : (c : WindowState) (Kept : List Tile → Type 0) (here : Tile) → (a : WalksAt c Kept here)
    → 32 * length a.front ≤ length c.bytes
walk-few c Kept here a =
    let low = (at-lies c Kept here a).low in
    let high = (at-meets c Kept here a).within in
    omega arith

-- ---- a test of all tiles

all-one : (test : Tile → Bool) (here : Tile) → test here ≡ true → list_all test (here ∷ []) ≡ true
all-one test here h = and_from (test here) true h refl

-- all tiles pass the test with one more that does
pub all-more : (test : Tile → Bool) (front : List Tile) (here : Tile) → list_all test front ≡ true
    → test here ≡ true → list_all test (front ++ here ∷ []) ≡ true
all-more test front here a h =
    list_all-append test front (here ∷ [])
    ∙ and_from (list_all test front) (list_all test (here ∷ [])) a (all-one test here h)

-- a tile that fails the test fails all
pub all-fails : (test : Tile → Bool) (front : List Tile) (here : Tile) (back : List Tile) → test here ≡ false
    → list_all test (front ++ here ∷ back) ≡ false
all-fails test [] here back h = ap (λ b. b && list_all test back) h
all-fails test (t ∷ front) here back h = elim (cases_Bool (test t)) [
  | inl e ↦ ap (λ b. b && list_all test (front ++ here ∷ back)) e ∙ all-fails test front here back h
  | inr e ↦ ap (λ b. b && list_all test (front ++ here ∷ back)) e
]

-- the first tile that fails the test, after tiles that pass it
pub first-fails : (test : Tile → Bool) (front : List Tile) (here : Tile) (back : List Tile)
    → list_all test front ≡ true → test here ≡ false
    → find (λ t. not (test t)) (front ++ here ∷ back) ≡ Some here
first-fails test [] here back p h = cond-true (not (test here)) (Some here) (find (λ t. not (test t)) back) (ap not h)
first-fails test (t ∷ front) here back p h =
    let q = and_parts (test t) (list_all test front) p in
    cond-false (not (test t)) (Some t) (find (λ t. not (test t)) (front ++ here ∷ back)) (ap not q.0)
    ∙ first-fails test front here back q.1 h

-- a walk is at a tile that fails the test
pub fails-there : (c : WindowState) (Kept : List Tile → Type 0) (test : Tile → Bool) (here : Tile) (place : ℕ)
    → (a : WalksAt c Kept here) → list_all test a.front ≡ true → test here ≡ false
    → here.offset + 16 ≡ place → (list_all test (tiles_of (bytes_of c.bytes) (length c.bytes)) ≡ false)
    × IsFirstWrongTile test (tiles_of (bytes_of c.bytes) (length c.bytes)) place
fails-there c Kept test here place a p h e =
    let all = tiles_are_read_off c (a.front ++ here ∷ a.back) a.said in (
      ap (list_all test) all ∙ all-fails test a.front here a.back h,
      record {
        tile = here;
        is = ap (find (λ t. not (test t))) all ∙ first-fails test a.front here a.back p h;
        at = sym e;
      },
    )

-- a walk at a tile is at the tile that was read
pub walk-read : (o : Option Tile) (unread here : Tile) → o ≡ Some unread → here ≡ unread → o ≡ Some here
walk-read o unread here is same = is ∙ ap (λ (t : Tile). Some t) (sym same)
