-- A gap as a node: its place and its fields; no two nodes share a byte.
use Rattle.best_fit.proofs.Common.{◌≡◌, refl, sym, ap, subst, ◌∙◌, ℕ, ◌+◌, ◌-◌, ◌/◌, ◌%◌, ◌≤◌, ◌⊎◌, inl, inr, true}
use Rattle.best_fit.proofs.Common.{false, List, [], ◌∷◌, ◌++◌, length, arith, ◌==◌, Option, Some, None, find}
use Rattle.best_fit.proofs.Common.{false≢true, or_cases, or_left, or_right, eqb-true, eq-eqb, ne_eqb, cond-true}
use Rattle.best_fit.proofs.Common.{cond-false, same_Some, WindowState, bytes_of, word_at, Tile, tile_in, tile_at}
use Rattle.best_fit.proofs.Common.{HasTileAt, EncodesTiles, good_tags_say_tiles, one_tile_at_an_offset}
use Rattle.best_fit.proofs.Common.{tile_is_read_off, tiles_are_read_off, is_in, Gap, is_red, payloads, gap_of, gaps_of}
use Rattle.best_fit.proofs.Common.{gaps_in, len_in, tiles_in, IsGoodHeap, GapNode}
use Rattle.best_fit.proofs.tags.RowParts.{row_reaches}
use Rattle.best_fit.proofs.tags.TagsAndLiveSet.{said_row, legal_size}
use Rattle.best_fit.proofs.tags.TileRows.{Row, Apart, is_merged-Apart, unused, used, use_cases, gaps_of-free}
use Rattle.best_fit.proofs.tags.TileRows.{gaps_of-used}
use Rattle.best_fit.proofs.tags.UnchangedTags.{In, in_back}

-- ---- a gap among tiles

-- a free tile of the list, by its offset
pub record FreeAt (ts : List Tile) (n : ℕ) : Type 0 where
  pub front : List Tile
  pub tile : Tile
  pub back : List Tile
  pub list : ts ≡ front ++ (tile ∷ back)
  pub free : tile.use_of ≡ None
  pub at : tile.offset + 16 ≡ n

free_behind : (t : Tile) (ts : List Tile) (n : ℕ) → FreeAt ts n → FreeAt (t ∷ ts) n
free_behind t ts n f =
    record {
      front = t ∷ f.front;
      tile = f.tile;
      back = f.back;
      list = ap (λ (us : List Tile). t ∷ us) f.list;
      free = f.free;
      at = f.at;
    }

free_here : (t : Tile) (ts : List Tile) (n : ℕ) → t.use_of ≡ None
    → (is_in n (payloads (gaps_of ts)) ≡ true → FreeAt ts n)
    → ((n == t.offset + 16) ≡ true) ⊎ (is_in n (payloads (gaps_of ts)) ≡ true) → FreeAt (t ∷ ts) n
free_here t ts n e rest (inl h) = record {
  front = [];
  tile = t;
  back = ts;
  list = refl;
  free = e;
  at = sym (eqb-true n (t.offset + 16) h);
}
free_here t ts n e rest (inr h) = free_behind t ts n (rest h)

-- the payload of a gap is that of a free tile
pub free_at : (ts : List Tile) (n : ℕ) → is_in n (payloads (gaps_of ts)) ≡ true → FreeAt ts n
free_at [] n h = absurd (false≢true h)
free_at (t ∷ ts) n h =
    elim (use_cases t) [
      | unused e ↦ free_here t ts n e (free_at ts n)
          (or_cases (n == t.offset + 16) (is_in n (payloads (gaps_of ts)))
          (subst (λ (gs : List Gap). is_in n (payloads gs) ≡ true) (gaps_of-free t ts e) h))
      | used role e ↦ free_behind t ts n
          (free_at ts n (subst (λ (gs : List Gap). is_in n (payloads gs) ≡ true) (gaps_of-used t ts role e) h))
    ]

-- and back
pub listed_at : (ts : List Tile) (n : ℕ) → FreeAt ts n → is_in n (payloads (gaps_of ts)) ≡ true
listed_at ts n f = subst (λ (us : List Tile). is_in n (payloads (gaps_of us)) ≡ true) (sym f.list) (in_front f.front)
  where
    in_front : (front : List Tile) → is_in n (payloads (gaps_of (front ++ (f.tile ∷ f.back)))) ≡ true
    in_front [] =
        subst (λ (gs : List Gap). is_in n (payloads gs) ≡ true) (sym (gaps_of-free f.tile f.back f.free))
        (or_left (n == f.tile.offset + 16) (is_in n (payloads (gaps_of f.back)))
        (eq-eqb n (f.tile.offset + 16) (sym f.at)))
    in_front (u ∷ us) =
        elim (use_cases u) [
          | unused e ↦ subst (λ (gs : List Gap). is_in n (payloads gs) ≡ true)
              (sym (gaps_of-free u (us ++ (f.tile ∷ f.back)) e))
              (or_right (n == u.offset + 16) (is_in n (payloads (gaps_of (us ++ (f.tile ∷ f.back))))) (in_front us))
          | used role e ↦ subst (λ (gs : List Gap). is_in n (payloads gs) ≡ true)
              (sym (gaps_of-used u (us ++ (f.tile ∷ f.back)) role e)) (in_front us)
        ]

-- ---- two tiles of a row

-- a tile is in the list with others around it
pub in_around : (front : List Tile) (t : Tile) (back : List Tile) → In t (front ++ (t ∷ back))
in_around front t back = in_back t front (t ∷ back) (inl refl)

in_free : (ts : List Tile) (n : ℕ) → (f : FreeAt ts n) → In f.tile ts
in_free ts n f = subst (λ (us : List Tile). In f.tile us) (sym f.list) (in_around f.front f.tile f.back)

-- a tile of a row lies in it
pub record Lies (at : ℕ) (t : Tile) (end : ℕ) : Type 0 where
  pub low : at ≤ t.offset
  pub high : t.offset + t.len ≤ end
  pub long : 32 ≤ t.len

-- a tile of a row lies between its begin and end
pub row_lies : (at : ℕ) (ts : List Tile) (end : ℕ) (t : Tile) → Row at ts end → In t ts → Lies at t end
row_lies at [] end t r h = absurd h
row_lies at (u ∷ ts) end t r (inl e) =
    let P : Tile → Type 0 = λ (v : Tile). Lies at v end in
    let o = r.0 in let long = r.1 in let on = row_reaches (at + u.len) ts end r.3 in
    subst P e (record { low = omega arith; high = omega arith; long = long })
row_lies at (u ∷ ts) end t r (inr h) =
    let rest = row_lies (at + u.len) ts end t r.3 h in let low = rest.low in let long = r.1 in
    record { low = omega arith; high = rest.high; long = rest.long }

-- two tiles are one or share no byte
abbrev pub Disjoint : Tile → Tile → Type 0
Disjoint t u = (t ≡ u) ⊎ ((t.offset + t.len ≤ u.offset) ⊎ (u.offset + u.len ≤ t.offset))

-- two tiles of a row are disjoint or one
pub row_disjoint : (at : ℕ) (ts : List Tile) (end : ℕ) (t u : Tile) → Row at ts end → In t ts → In u ts → Disjoint t u
row_disjoint at [] end t u r h i = absurd h
row_disjoint at (v ∷ ts) end t u r (inl e) (inl f) = inl (sym e ∙ f)
row_disjoint at (v ∷ ts) end t u r (inl e) (inr i) =
    let o : v.offset ≡ t.offset = ap (λ (w : Tile). w.offset) e in let l : v.len ≡ t.len = ap (λ (w : Tile). w.len) e in
    let far = (row_lies (at + v.len) ts end u r.3 i).low in let b = r.0 in inr (inl (omega arith))
row_disjoint at (v ∷ ts) end t u r (inr h) (inl f) =
    let o : v.offset ≡ u.offset = ap (λ (w : Tile). w.offset) f in let l : v.len ≡ u.len = ap (λ (w : Tile). w.len) f in
    let far = (row_lies (at + v.len) ts end t r.3 h).low in let b = r.0 in inr (inr (omega arith))
row_disjoint at (v ∷ ts) end t u r (inr h) (inr i) = row_disjoint (at + v.len) ts end t u r.3 h i

-- the tiles of a row begin at multiples of 16
pub row_aligned : (at : ℕ) (ts : List Tile) (end : ℕ) (t : Tile) → at % 16 ≡ 0 → Row at ts end
    → In t ts → t.offset % 16 ≡ 0
row_aligned at [] end t a r h = absurd h
row_aligned at (u ∷ ts) end t a r (inl e) = let o : u.offset ≡ t.offset = ap (λ (w : Tile). w.offset) e in
    let b = r.0 in omega arith
row_aligned at (u ∷ ts) end t a r (inr h) = let l = r.2 in row_aligned (at + u.len) ts end t (omega arith) r.3 h

-- ---- the length of a gap

len_past : (g : Gap) (gs : List Gap) (n : ℕ) → (g.offset + 16 ≡ n → ⊥) → len_in (g ∷ gs) n ≡ len_in gs n
len_past g gs n h =
    ap (λ (o : Option Gap). elim o as (λ _. ℕ) [ None ↦ 0 | Some k ↦ k.len ])
    (cond-false (g.offset + 16 == n) (Some g) (find (λ (k : Gap). k.offset + 16 == n) gs) (ne_eqb (g.offset + 16) n h))

len_here : (g : Gap) (gs : List Gap) (n : ℕ) → g.offset + 16 ≡ n → len_in (g ∷ gs) n ≡ g.len
len_here g gs n h =
    ap (λ (o : Option Gap). elim o as (λ _. ℕ) [ None ↦ 0 | Some k ↦ k.len ])
    (cond-true (g.offset + 16 == n) (Some g) (find (λ (k : Gap). k.offset + 16 == n) gs) (eq-eqb (g.offset + 16) n h))

-- the length of a gap, looked up by its node
pub len_in_row : (at : ℕ) (front : List Tile) (t : Tile) (back : List Tile) (end n : ℕ)
    → Row at (front ++ (t ∷ back)) end → t.use_of ≡ None → t.offset + 16 ≡ n
    → len_in (gaps_of (front ++ (t ∷ back))) n ≡ t.len
len_in_row at [] t back end n r e o = ap (λ (gs : List Gap). len_in gs n) (gaps_of-free t back e)
    ∙ len_here (gap_of t) (gaps_of back) n o
len_in_row at (u ∷ us) t back end n r e o =
    let rest = len_in_row (at + u.len) us t back end n r.3 e o in
    let far = (row_lies (at + u.len) (us ++ (t ∷ back)) end t r.3 (in_around us t back)).low in
    let b = r.0 in let long = r.1 in
    elim (use_cases u) [
      | unused f ↦ ap (λ (gs : List Gap). len_in gs n) (gaps_of-free u (us ++ (t ∷ back)) f)
          ∙ len_past (gap_of u) (gaps_of (us ++ (t ∷ back))) n (λ same. omega arith) ∙ rest
      | used role f ↦ ap (λ (gs : List Gap). len_in gs n) (gaps_of-used u (us ++ (t ∷ back)) role f) ∙ rest
    ]

-- ---- a node of a window

-- a node of a window: the free tile that it stands in
pub record NodeAt (c : WindowState) (n : ℕ) : Type 0 where
  pub said : EncodesTiles c (tiles_in c)
  pub apart : Apart false (tiles_in c)
  pub row : Row 128 (tiles_in c) (length c.bytes - 16)
  pub free_tile : FreeAt (tiles_in c) n
  pub is_in_list : In free_tile.tile (tiles_in c)
  pub stands : tile_in (tiles_in c) free_tile.tile.offset ≡ Some free_tile.tile
  pub low : 144 ≤ n
  pub whole : n % 16 ≡ 0
  pub long : 32 ≤ free_tile.tile.len
  pub ends : n + free_tile.tile.len ≤ length c.bytes
  pub size : length c.bytes ≤ 1073741824

-- the tags of a good heap describe its tiles
pub said_of : (c : WindowState) → IsGoodHeap c → EncodesTiles c (tiles_in c)
said_of c g =
    let good = (good_tags_say_tiles c g.size).0 g.tags in
    subst (EncodesTiles c) (sym (tiles_are_read_off c good.0 good.1)) good.1

-- no two gaps of a good heap are neighbours
pub apart_of : (c : WindowState) → IsGoodHeap c → Apart false (tiles_in c)
apart_of c g =
    let good = (good_tags_say_tiles c g.size).0 g.tags in
    subst (Apart false) (sym (tiles_are_read_off c good.0 good.1)) (is_merged-Apart good.0 good.2)

-- a free tile is a node, for any values of its links
pub node_from : (c : WindowState) (n : ℕ) → EncodesTiles c (tiles_in c) → Apart false (tiles_in c)
    → is_in n (payloads (gaps_in c)) ≡ true → NodeAt c n
node_from c n said apart listed =
    let row = said_row c (tiles_in c) said in
    let f = free_at (tiles_in c) n listed in
    let i = in_free (tiles_in c) n f in
    let lies = row_lies 128 (tiles_in c) (length c.bytes - 16) f.tile row i in
    let low = lies.low in let high = lies.high in let long = lies.long in let at = f.at in
    let aligned = row_aligned 128 (tiles_in c) (length c.bytes - 16) f.tile (omega arith) row i in
    let n' = legal_size (length c.bytes) said.size in
    let least = n'.low in
    record {
      said = said;
      apart = apart;
      row = row;
      free_tile = f;
      is_in_list = i;
      stands = ap (λ (ts : List Tile). tile_in ts f.tile.offset) f.list ∙ one_tile_at_an_offset c f.front f.tile
          f.back (subst (EncodesTiles c) f.list said);
      low = omega arith;
      whole = omega arith;
      long = long;
      ends = omega arith;
      size = n'.high;
    }

-- a gap that is a node: its tile
pub node_at : (c : WindowState) (n : ℕ) → GapNode c n → NodeAt c n
node_at c n g = node_from c n (said_of c g.good) (apart_of c g.good) g.listed

-- the node's tile is at its offset
pub node_tile : (c : WindowState) (n at : ℕ) → NodeAt c n → at + 16 ≡ n → HasTileAt c at
node_tile c n at d e =
    let o = d.free_tile.at in let same : d.free_tile.tile.offset ≡ at = omega arith in
    record {
      tiles = tiles_in c;
      said = d.said;
      tile = d.free_tile.tile;
      stands = subst (λ k. tile_in (tiles_in c) k ≡ Some d.free_tile.tile) same d.stands;
    }

-- the tile that is read at a node is the node's
pub node_read : (c : WindowState) (n at : ℕ) → (d : NodeAt c n) → at + 16 ≡ n → (t : Tile)
    → ((ts : List Tile) → EncodesTiles c ts → tile_in ts at ≡ Some t) → t ≡ d.free_tile.tile
node_read c n at d e t is =
    let o = d.free_tile.at in let same : d.free_tile.tile.offset ≡ at = omega arith in
    same_Some t d.free_tile.tile (sym (is (tiles_in c) d.said)
    ∙ subst (λ k. tile_in (tiles_in c) k ≡ Some d.free_tile.tile) same d.stands)

-- its colour is the tile's, and so is its length
pub tile_colour : (c : WindowState) (ts : List Tile) (t : Tile) (n : ℕ) → EncodesTiles c ts
    → tile_in ts t.offset ≡ Some t
    → t.offset + 16 ≡ n → is_red (bytes_of c.bytes) n ≡ t.red
tile_colour c ts t n said stands o =
    let read : tile_at (bytes_of c.bytes) t.offset ≡ t = tile_is_read_off c ts t.offset t said stands in
    let red : (word_at (bytes_of c.bytes) (t.offset + 8) / 2 % 2 == 1) ≡ t.red = ap (λ (u : Tile). u.red) read in
    let tag : n - 8 ≡ t.offset + 8 = omega arith in
    ap (λ k. word_at (bytes_of c.bytes) k / 2 % 2 == 1) tag ∙ red

-- the colour that is read at a node is that of its tile
pub node_colour : (c : WindowState) (n : ℕ) → (d : NodeAt c n) → is_red (bytes_of c.bytes) n ≡ d.free_tile.tile.red
node_colour c n d = tile_colour c (tiles_in c) d.free_tile.tile n d.said d.stands d.free_tile.at

-- the length of a node is that of its tile
pub node_len : (c : WindowState) (n : ℕ) → (d : NodeAt c n) → len_in (gaps_in c) n ≡ d.free_tile.tile.len
node_len c n d =
    let f = d.free_tile in
    ap (λ (ts : List Tile). len_in (gaps_of ts) n) f.list
    ∙ len_in_row 128 f.front f.tile f.back (length c.bytes - 16) n
    (subst (λ (ts : List Tile). Row 128 ts (length c.bytes - 16)) f.list d.row) f.free f.at

-- the length that is read of a node's tile is the gap's
pub len_read : (c : WindowState) (n : ℕ) → (d : NodeAt c n) → (t : Tile)
    → ((ts : List Tile) → EncodesTiles c ts → tile_in ts (n - 16) ≡ Some t) → t.len ≡ len_in (gaps_in c) n
len_read c n d t is =
    let low = d.low in
    ap (λ (u : Tile). u.len) (node_read c n (n - 16) d (omega arith) t is) ∙ sym (node_len c n d)

-- two nodes share no byte
pub nodes_apart : (c : WindowState) (n m : ℕ) → NodeAt c n → NodeAt c m → (m ≡ n → ⊥) → (m + 32 ≤ n) ⊎ (n + 32 ≤ m)
nodes_apart c n m d e other =
    by_case (row_disjoint 128 (tiles_in c) (length c.bytes - 16) d.free_tile.tile e.free_tile.tile d.row
    d.is_in_list e.is_in_list)
  where
    by_case : Disjoint d.free_tile.tile e.free_tile.tile → (m + 32 ≤ n) ⊎ (n + 32 ≤ m)
    by_case (inl same) =
        let o : d.free_tile.tile.offset ≡ e.free_tile.tile.offset = ap (λ (w : Tile). w.offset) same in
        let p = d.free_tile.at in let q = e.free_tile.at in absurd (other (omega arith))
    by_case (inr (inl l)) = let p = d.free_tile.at in let q = e.free_tile.at in let long = d.long in inr (omega arith)
    by_case (inr (inr l)) = let p = d.free_tile.at in let q = e.free_tile.at in let long = e.long in inl (omega arith)
