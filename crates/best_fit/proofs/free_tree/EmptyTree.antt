-- The links of all gaps are made null, and the tree empty.
use Rattle.best_fit.proofs.Common.{◌≡◌, refl, sym, ap, subst, ◌∙◌, ℕ, ◌+◌, ◌-◌, ◌%◌, ◌≤◌, ◌⊎◌, inl, inr, true, false}
use Rattle.best_fit.proofs.Common.{◌&&◌, ◌||◌, not, List, [], ◌∷◌, ◌++◌, length, append_assoc, arith, nat_le, ◌==◌}
use Rattle.best_fit.proofs.Common.{IsTrue, Option, Some, None, is_some, map, AllByRecursion, list_all, false≢true}
use Rattle.best_fit.proofs.Common.{and_parts, and_from, or_cases, or_left, or_right, append-nil, Memory, WindowState}
use Rattle.best_fit.proofs.Common.{SameBytesExcept, SameSurroundings, bytes_of, word_at, current, Role, Object, Index}
use Rattle.best_fit.proofs.Common.{Storage, Node, Tile, is_legal_size, has_tags, is_merged, may_be_red, tag_word}
use Rattle.best_fit.proofs.Common.{tiles_of, EncodesTiles, good_tags_say_tiles, header_may_change}
use Rattle.best_fit.proofs.Common.{one_tile_at_an_offset, payload_may_change, tiles_are_read_off, leaf, IsSearchTree}
use Rattle.best_fit.proofs.Common.{is_in, leads, link_at, SameBytesExcept-link, Gap, cells_of, payloads, comes_before}
use Rattle.best_fit.proofs.Common.{gap_cells, gap_of, gaps_in, gaps_of, kept_of, links_among, plain, tiles_in}
use Rattle.best_fit.proofs.Common.{IsGoodHeap, AreSomeGaps, HasGapTree, ChangesGapTree}
use Rattle.block_tags.specs.Tiles.{are_tags, is_tile}
use Rattle.best_fit.proofs.tags.RowParts.{row_back, row_end, row_front}
use Rattle.best_fit.proofs.free_tree.Trees.{regrown, rooted}
use Rattle.best_fit.proofs.gaps.Nodes.{NodeAt, in_around, listed_at, node_from, row_aligned}
use Rattle.best_fit.proofs.gaps.OneField.{kept_round}
use Rattle.best_fit.proofs.tags.TagsAndLiveSet.{SaysHeap, said_row}
use Rattle.best_fit.proofs.tags.TileRows.{Apart, Row, is_merged-Apart, Apart-is_merged}
use Rattle.best_fit.proofs.tags.UnchangedTags.{all_joined}
use Rattle.best_fit.proofs.free_tree.WalkTurns.{gaps_kept, Ended, Passed, free_if, gaps_past_block, gaps_past_gap}
use Rattle.best_fit.proofs.free_tree.WalkTurns.{passes}
use Rattle.best_fit.proofs.tile_walk.Walk.{Turn}

-- ---- tags without red gaps are good tags

may_be_too : (u : Option Role) → may_be_red 0 u ≡ true → may_be_red current u ≡ true
unfolding current
may_be_too None h = refl
may_be_too (Some Object) h = h
may_be_too (Some Index) h = h
may_be_too (Some Storage) h = h
may_be_too (Some Node) h = h

tile_too : (t : Tile) → IsTrue (is_tile 0 t) → IsTrue (is_tile current t)
tile_too t h =
    let two = and_parts (nat_le 32 t.len && (t.len % 16 == 0)) (not t.red || may_be_red 0 t.use_of) h in
    and_from (nat_le 32 t.len && (t.len % 16 == 0)) (not t.red || may_be_red current t.use_of) two.0
    (by_colour (or_cases (not t.red) (may_be_red 0 t.use_of) two.1))
  where
    by_colour : (not t.red ≡ true) ⊎ (may_be_red 0 t.use_of ≡ true) → (not t.red || may_be_red current t.use_of) ≡ true
    by_colour (inl e) = or_left (not t.red) (may_be_red current t.use_of) e
    by_colour (inr e) = or_right (not t.red) (may_be_red current t.use_of) (may_be_too t.use_of e)

tags_too : (m : Memory) (at before : ℕ) (ts : List Tile) (end : ℕ) → IsTrue (are_tags 0 m at before ts end)
    → IsTrue (are_tags current m at before ts end)
tags_too m at before [] end h = h
tags_too m at before (t ∷ ts) end h =
    let here = t.offset == at in
    let first = word_at m at == before in
    let second = word_at m (at + 8) == tag_word t in
    let a = and_parts (here && is_tile 0 t && first && second) (are_tags 0 m (at + t.len) t.len ts end) h in
    let b = and_parts (here && is_tile 0 t && first) second a.0 in
    let c = and_parts (here && is_tile 0 t) first b.0 in
    let d = and_parts here (is_tile 0 t) c.0 in
    and_from (here && is_tile current t && first && second) (are_tags current m (at + t.len) t.len ts end)
    (and_from (here && is_tile current t && first) second
    (and_from (here && is_tile current t) first (and_from here (is_tile current t) d.0 (tile_too t d.1)) c.1) b.1)
    (tags_too m (at + t.len) t.len ts end a.1)

-- tags of the first format are tags of the current one
pub tagged_too : (m : Memory) (size : ℕ) → IsTrue (has_tags 0 m size) → IsTrue (has_tags current m size)
tagged_too m size h =
    let two = and_parts (are_tags 0 m 128 0 (tiles_of m size) (size - 16)) (is_merged (tiles_of m size)) h in
    and_from (are_tags current m 128 0 (tiles_of m size) (size - 16)) (is_merged (tiles_of m size))
    (tags_too m 128 0 (tiles_of m size) (size - 16) two.0) two.1

-- good tags describe tiles
pub tagged_says : (c : WindowState) → IsTrue (is_legal_size (length c.bytes))
    → IsTrue (has_tags current (bytes_of c.bytes) (length c.bytes)) → SaysHeap c (tiles_in c)
tagged_says c size tags =
    let good = (good_tags_say_tiles c size).0 tags in
    let says : SaysHeap c good.0 = record { said = good.1; apart = is_merged-Apart good.0 good.2 } in
    subst (SaysHeap c) (sym (tiles_are_read_off c good.0 good.1)) says

-- ---- one gap after the other

-- both links of a gap are null
abbrev pub IsNull : Memory → Gap → Type 0
IsNull m g = (link_at m (g.offset + 16) ≡ None) × (link_at m (g.offset + 16 + 8) ≡ None)

-- the links of the gaps that are passed are null, and nothing but links has changed
pub record Cleared (old new : WindowState) (passed rest : List Tile) : Type 0 where
  pub list : tiles_in old ≡ passed ++ rest
  pub kept : kept_of new ≡ kept_of old
  pub size : length new.bytes ≡ length old.bytes
  pub null : AllByRecursion (IsNull (bytes_of new.bytes)) (gaps_of passed)

-- before the first tile no link is made null
pub cleared_start : (c : WindowState) → Cleared c c [] (tiles_in c)
cleared_start c = record { list = refl; kept = refl; size = refl; null = tt }

-- the offset of the links of a tile
pub record LinkPlace (c : WindowState) (at : ℕ) : Type 0 where
  pub whole : (at + 16) % 16 ≡ 0
  pub inside : at + 32 ≤ length c.bytes
  pub small : at + 32 ≤ 1073741824

-- the offset of the links of a gap
pub link_place : (old new : WindowState) (tile : Tile) → Turn new (Cleared old new) tile → LinkPlace new tile.offset
link_place old new tile t =
    let m = t.meets in let long = m.long in let within = m.within in let size = m.size in
    let aligned = row_aligned 128 (t.passed ++ (tile ∷ t.back)) (length new.bytes - 16) tile (omega arith)
    (said_row new (t.passed ++ (tile ∷ t.back)) t.said) (in_around t.passed tile t.back) in
    record { whole = omega arith; inside = omega arith; small = omega arith }

-- a block is passed as it is
pub cleared_block : (old new next : WindowState) (tile : Tile) (t : Turn new (Cleared old new) tile)
    → is_some tile.use_of ≡ true → next ≡ new → Passed next (Cleared old next) tile.offset
cleared_block old new next tile t some e =
    let z = t.holds in
    let P : WindowState → Type 0 = λ (c : WindowState). Passed c (Cleared old c) tile.offset in
    subst P (sym e) (passes new (Cleared old new) t.passed tile t.back t.said (record {
      list = z.list ∙ sym (append_assoc t.passed (tile ∷ []) t.back);
      kept = z.kept;
      size = z.size;
      null = subst (AllByRecursion (IsNull (bytes_of new.bytes))) (sym (gaps_past_block t.passed tile some)) z.null;
    }))

-- null links before the bytes that change stay null
null_kept : (m m' : Memory) (at : ℕ) (ts : List Tile) (end from n : ℕ) → Row at ts end → end ≤ from
    → SameBytesExcept m m' from n → AllByRecursion (IsNull m) (gaps_of ts) → AllByRecursion (IsNull m') (gaps_of ts)
null_kept m m' at ts end from n r l same = gaps_kept (IsNull m) (IsNull m') at ts end r (λ t long high z. (
  SameBytesExcept-link m m' from n (t.offset + 16) same (inl (omega arith)) ∙ z.0,
  SameBytesExcept-link m m' from n (t.offset + 16 + 8) same (inl (omega arith)) ∙ z.1,
))

-- the links of a gap are made null, and it is passed
module _ (old new next : WindowState) (tile : Tile) (t : Turn new (Cleared old new) tile)
    (says : SaysHeap old (tiles_in old))
    (none : is_some tile.use_of ≡ false)
    (left : link_at (bytes_of next.bytes) (tile.offset + 16) ≡ None)
    (right : link_at (bytes_of next.bytes) (tile.offset + 16 + 8) ≡ None)
    (size : length next.bytes ≡ length new.bytes) (place : SameSurroundings new next)
    (same : SameBytesExcept (bytes_of new.bytes) (bytes_of next.bytes) (tile.offset + 16) 16) where
  abbrev ts : List Tile
  ts = t.passed ++ (tile ∷ t.back)

  free : tile.use_of ≡ None
  free = free_if tile none

  tiles : tiles_in new ≡ ts
  tiles = tiles_are_read_off new ts t.said

  says_next : EncodesTiles next ts
  says_next =
      let long = t.meets.long in
      payload_may_change new next ts tile.offset tile t.said (one_tile_at_an_offset new t.passed tile t.back t.said)
      size (tile.offset + 16) 16 (omega arith) (omega arith) same

  node : NodeAt new (tile.offset + 16)
  node =
      node_from new (tile.offset + 16) (subst (EncodesTiles new) (sym tiles) t.said)
      (subst (Apart false) (t.holds.list ∙ sym tiles) says.apart)
      (listed_at (tiles_in new) (tile.offset + 16)
      (record { front = t.passed; tile = tile; back = t.back; list = tiles; free = free; at = refl }))

  kept : kept_of next ≡ kept_of new
  kept = kept_round new next (tile.offset + 16) node place size
      (ap (λ (us : List Tile). map plain us) (tiles_are_read_off next ts says_next ∙ sym tiles))
      (λ k beside below away. same.at k away)

  null : AllByRecursion (IsNull (bytes_of next.bytes)) (gaps_of t.passed ++ (gap_of tile ∷ []))
  null =
      let row = said_row new ts t.said in
      let front = row_front 128 t.passed (tile ∷ t.back) (length new.bytes - 16) row in
      let ends = (row_back 128 t.passed (tile ∷ t.back) (length new.bytes - 16) row).0 in
      all_joined (IsNull (bytes_of next.bytes)) (gaps_of t.passed) (gap_of tile ∷ [])
      (null_kept (bytes_of new.bytes) (bytes_of next.bytes) 128 t.passed (row_end 128 t.passed) (tile.offset + 16) 16
      front (omega arith) same t.holds.null) ((left, right), tt)

  -- a gap whose links are made null: the turn is done
  pub cleared_gap : Passed next (Cleared old next) tile.offset
  cleared_gap =
      passes next (Cleared old next) t.passed tile t.back says_next (record {
        list = t.holds.list ∙ sym (append_assoc t.passed (tile ∷ []) t.back);
        kept = kept ∙ t.holds.kept;
        size = size ∙ t.holds.size;
        null = subst (AllByRecursion (IsNull (bytes_of next.bytes))) (sym (gaps_past_gap t.passed tile free)) null;
      })

-- ---- the tree is empty

null_links : (m : Memory) (ns : List ℕ) (gs : List Gap) → AllByRecursion (IsNull m) gs
    → list_all (links_among m ns) (payloads gs) ≡ true
null_links m ns [] h = refl
null_links m ns (g ∷ gs) h =
    and_from (links_among m ns (g.offset + 16)) (list_all (links_among m ns) (payloads gs))
    (and_from (leads (λ k. is_in k ns) (cells_of m (g.offset + 16)).left)
    (leads (λ k. is_in k ns) (cells_of m (g.offset + 16)).right)
    (ap (λ (o : Option ℕ). leads (λ k. is_in k ns) o) h.0.0) (ap (λ (o : Option ℕ). leads (λ k. is_in k ns) o) h.0.1))
    (null_links m ns gs h.1)

module _ (old c d : WindowState) (says : SaysHeap old (tiles_in old)) (end : Ended c (Cleared old c))
    (root : link_at (bytes_of d.bytes) 24 ≡ None) (size : length d.bytes
    ≡ length c.bytes) (place : SameSurroundings c d)
    (same : SameBytesExcept (bytes_of c.bytes) (bytes_of d.bytes) 24 8) where
  tiles_c : tiles_in c ≡ end.tiles
  tiles_c = tiles_are_read_off c end.tiles end.said

  list : tiles_in old ≡ end.tiles
  list = end.holds.list ∙ append-nil end.tiles

  good : IsGoodHeap c
  good =
      record {
        size = end.said.size;
        tags = (good_tags_say_tiles c end.said.size).1
            (end.tiles, end.said, Apart-is_merged false end.tiles (subst (Apart false) list says.apart));
        links = null_links (bytes_of c.bytes) (payloads (gaps_in c)) (gaps_in c)
            (subst (λ (us : List Tile). AllByRecursion (IsNull (bytes_of c.bytes)) (gaps_of us))
            (sym tiles_c) end.holds.null);
      }

  some : AreSomeGaps (gaps_in c) []
  some = record { fits = tt; rises = tt; listed = λ n i. absurd (false≢true i); few = omega arith }

  empty : IsSearchTree (comes_before (gaps_in c)) (gap_cells c) None leaf
  empty = record {
    tree = record { root = refl; holds = tt };
    ordered = refl;
    red_black = record { root = refl; no_red_pair = refl; black = (0, refl) };
  }

  -- the tree has no gap
  pub emptied : HasGapTree d []
  emptied = rooted c d [] leaf None good some empty refl root size same

  -- the heap stays but for links and colours
  pub emptied_rest : ChangesGapTree old d
  emptied_rest =
      regrown old c d end.holds.kept place size
      (tiles_are_read_off d end.tiles (header_may_change c d end.tiles end.said size 24 8 (omega arith) same)
      ∙ sym tiles_c) same
