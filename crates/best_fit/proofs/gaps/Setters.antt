-- What each setter does to the window.
use Rattle.best_fit.proofs.Common.{◌≡◌, refl, sym, ap, subst, ◌∙◌, ℕ, ◌+◌, ◌-◌, ◌/◌, ◌%◌, ◌<◌, ◌≤◌, ◌⊎◌, inl, inr, Bool}
use Rattle.best_fit.proofs.Common.{true, false, ◌&&◌, ◌||◌, not, List, [], ◌∷◌, ◌++◌, length, arith, ◌==◌, Option, Some}
use Rattle.best_fit.proofs.Common.{None, IfSome, map, and_parts, and_from, Memory, WindowState, SameBytesExcept}
use Rattle.best_fit.proofs.Common.{SameSurroundings, bytes_of, patched, word_at, with_bytes}
use Rattle.best_fit.proofs.Common.{word_written-SameBytesExcept, SameBytes-word, SameBytesExcept-word, Role, Tile}
use Rattle.best_fit.proofs.Common.{IsBesideTags, of_colour, tile_in, with_red_at, current, is_free, may_be_red}
use Rattle.best_fit.proofs.Common.{MayHaveColour, EncodesTiles, one_tile_at_an_offset}
use Rattle.best_fit.proofs.Common.{payload_may_change, Cell, is_in, leads, link_at, target_of, SameBytesExcept-link}
use Rattle.best_fit.proofs.Common.{cells_of, is_red, payloads, gaps_in, gap_cells, is_gap_node, links_among, plain}
use Rattle.best_fit.proofs.Common.{tiles_in, GapNode, is_gap_node-GapNode, links_at}
use Rattle.link_tree.specs.Nodes.{with_left, with_right, with_red}
use Rattle.offset_link.specs.Link.{link, link_word}
use Rattle.best_fit.proofs.tags.RowParts.{Away, away_front, changed_at-around}
use Rattle.best_fit.proofs.gaps.Nodes.{NodeAt, node_at, nodes_apart, row_lies, tile_colour}
use Rattle.best_fit.proofs.gaps.OneField.{Changed, one_cell}
use Rattle.best_fit.proofs.tags.TagsAndLiveSet.{said_row}
use Rattle.best_fit.proofs.tags.TileRows.{Row}
use Rattle.best_fit.proofs.tags.UnchangedTags.{In, TagStep, in_other, in_stands, inside, tag_step}
use Rattle.best_fit.specs.Tiling.{ChangesTags}

-- the bytes of a link are its word's
pub link-SameBytesExcept : (c d : WindowState) (at : ℕ) (target : Option ℕ) → at + 8 ≤ length c.bytes
    → d ≡ with_bytes c (patched c.bytes at (link at target))
    → SameBytesExcept (bytes_of c.bytes) (bytes_of d.bytes) at 8
link-SameBytesExcept c d at target inside e =
    let P : WindowState → Type 0 = λ (v : WindowState). SameBytesExcept (bytes_of c.bytes) (bytes_of v.bytes) at 8 in
    subst P (sym e) (word_written-SameBytesExcept c.bytes at (link_word at target) inside)

-- a node is a multiple of 16
pub target_whole : (c : WindowState) (to : Option ℕ) → leads (is_gap_node c) to ≡ true → IfSome to (λ t. t % 16 ≡ 0)
target_whole c None h = tt
target_whole c (Some n) h = (node_at c n (is_gap_node-GapNode c n h)).whole

-- the links of a node are words of the window
pub record LinksFit (c : WindowState) (n : ℕ) : Type 0 where
  pub left_whole : n % 8 ≡ 0
  pub left_inside : n + 8 ≤ length c.bytes
  pub right_whole : (n + 8) % 8 ≡ 0
  pub right_inside : n + 8 + 8 ≤ length c.bytes

-- the links of a node lie in its gap
pub link_fits : (c : WindowState) (n : ℕ) → is_gap_node c n ≡ true → LinksFit c n
link_fits c n h =
    let d = node_at c n (is_gap_node-GapNode c n h) in let whole = d.whole in let long = d.long in let ends = d.ends in
    record {
      left_whole = omega arith;
      left_inside = omega arith;
      right_whole = omega arith;
      right_inside = omega arith;
    }

-- a link that leads to a node leads to one of the list
leads_in : (c : WindowState) (to : Option ℕ) → leads (is_gap_node c) to ≡ true
    → leads (λ k. is_in k (payloads (gaps_in c))) to ≡ true
leads_in c None h = refl
leads_in c (Some n) h = (is_gap_node-GapNode c n h).listed

-- the cell of a node whose fields stay
pub cell_stays : (m m' : Memory) (n : ℕ) → link_at m' n ≡ link_at m n → link_at m' (n + 8) ≡ link_at m (n + 8)
    → is_red m' n ≡ is_red m n → cells_of m' n ≡ cells_of m n
cell_stays m m' n a b e = λ i. record { left = a i; right = b i; red = e i }

-- the fields of a node away from some bytes that change
pub beside_cell : (m m' : Memory) (from len n : ℕ) → SameBytesExcept m m' from len → 144 ≤ n
    → (n + 16 ≤ from) ⊎ (from + len ≤ n - 8) → cells_of m' n ≡ cells_of m n
beside_cell m m' from len n same low apart =
    cell_stays m m' n (SameBytesExcept-link m m' from len n same (first apart))
    (SameBytesExcept-link m m' from len (n + 8) same (second apart))
    (ap (λ w. w / 2 % 2 == 1) (SameBytesExcept-word m m' from len (n - 8) same (tag apart)))
  where
    first : (n + 16 ≤ from) ⊎ (from + len ≤ n - 8) → (n + 8 ≤ from) ⊎ (from + len ≤ n)
    first (inl l) = inl (omega arith)
    first (inr l) = inr (omega arith)

    second : (n + 16 ≤ from) ⊎ (from + len ≤ n - 8) → (n + 8 + 8 ≤ from) ⊎ (from + len ≤ n + 8)
    second (inl l) = inl (omega arith)
    second (inr l) = inr (omega arith)

    tag : (n + 16 ≤ from) ⊎ (from + len ≤ n - 8) → (n - 8 + 8 ≤ from) ⊎ (from + len ≤ n - 8)
    tag (inl l) = inl (omega arith)
    tag (inr l) = inr l

-- ---- a link is set

module _ (c d : WindowState) (n from : ℕ) (to : Option ℕ) (g : GapNode c n) (target : leads (is_gap_node c) to ≡ true)
    (low : n ≤ from) (high : from + 8 ≤ n + 16)
    (set : link_at (bytes_of d.bytes) from ≡ to) (size : length d.bytes ≡ length c.bytes) (place : SameSurroundings c d)
    (same : SameBytesExcept (bytes_of c.bytes) (bytes_of d.bytes) from 8) where
  node : NodeAt c n
  node = node_at c n g

  away : (k : ℕ) → (k < n) ⊎ (n + 16 ≤ k) → (k < from) ⊎ (from + 8 ≤ k)
  away k (inl l) = inl (omega arith)
  away k (inr l) = inr (omega arith)

  other_cell : (m : ℕ) → is_in m (payloads (gaps_in c)) ≡ true → (m ≡ n → ⊥) → cells_of (bytes_of d.bytes) m
      ≡ cells_of (bytes_of c.bytes) m
  other_cell m i o =
      let e = node_at c m (record { good = g.good; listed = i }) in
      beside_cell (bytes_of c.bytes) (bytes_of d.bytes) from 8 m same e.low (by_case (nodes_apart c n m node e o))
    where
      by_case : (m + 32 ≤ n) ⊎ (n + 32 ≤ m) → (m + 16 ≤ from) ⊎ (from + 8 ≤ m - 8)
      by_case (inl l) = inl (omega arith)
      by_case (inr l) = inr (omega arith)

  link_changed : links_among (bytes_of d.bytes) (payloads (gaps_in c)) n ≡ true → Changed c d n
  link_changed links =
      let t = node.free_tile in let at = t.at in let long = node.long in
      record {
        us = tiles_in c;
        said = payload_may_change c d (tiles_in c) t.tile.offset t.tile node.said node.stands size from 8
            (omega arith) (omega arith) same;
        tiles = refl;
        place = place;
        size = size;
        bytes = λ k beside below o. same.at k (away k o);
        links = links;
        others = other_cell;
      }

-- the colour in the tag stays
colour_beside : (m m' : Memory) (from n : ℕ) → SameBytesExcept m m' from 8 → 144 ≤ n → n ≤ from
    → is_red m' n ≡ is_red m n
colour_beside m m' from n same low l = ap (λ w. w / 2 % 2 == 1)
    (SameBytesExcept-word m m' from 8 (n - 8) same (inl (omega arith)))

module _ (c d : WindowState) (n : ℕ) (to : Option ℕ) (g : GapNode c n) (target : leads (is_gap_node c) to ≡ true)
    (set : link_at (bytes_of d.bytes) n ≡ to) (size : length d.bytes ≡ length c.bytes) (place : SameSurroundings c d)
    (same : SameBytesExcept (bytes_of c.bytes) (bytes_of d.bytes) n 8) where
  left_own : cells_of (bytes_of d.bytes) n ≡ record (cells_of (bytes_of c.bytes) n) { left = to }
  left_own =
      let low = (node_at c n g).low in
      let right = SameBytesExcept-link (bytes_of c.bytes) (bytes_of d.bytes) n 8 (n + 8) same (inr (omega arith)) in
      let red = colour_beside (bytes_of c.bytes) (bytes_of d.bytes) n n same low (omega arith) in
      λ i. record { left = set i; right = right i; red = red i }

  -- writing the left link changes the bytes of that link alone
  pub left_changed : Changed c d n
  left_changed =
      let ns = payloads (gaps_in c) in
      let two = and_parts (leads (λ k. is_in k ns) (cells_of (bytes_of c.bytes) n).left)
      (leads (λ k. is_in k ns) (cells_of (bytes_of c.bytes) n).right) (links_at c n g) in
      link_changed c d n n to g target (omega arith) (omega arith) set size place same
      (subst (λ (x : Cell). (leads (λ k. is_in k ns) x.left && leads (λ k. is_in k ns) x.right) ≡ true) (sym left_own)
      (and_from (leads (λ k. is_in k ns) to) (leads (λ k. is_in k ns) (cells_of (bytes_of c.bytes) n).right)
      (leads_in c to target) two.1))

  -- writing the left link changes only this field of the cell
  pub left_cells : gap_cells d ≡ with_left (gap_cells c) n to
  unfolding with_left
  left_cells = one_cell c d n g left_changed (λ (x : Cell). record x { left = to }) left_own

module _ (c d : WindowState) (n : ℕ) (to : Option ℕ) (g : GapNode c n) (target : leads (is_gap_node c) to ≡ true)
    (set : link_at (bytes_of d.bytes) (n + 8) ≡ to) (size : length d.bytes
    ≡ length c.bytes) (place : SameSurroundings c d)
    (same : SameBytesExcept (bytes_of c.bytes) (bytes_of d.bytes) (n + 8) 8) where
  right_own : cells_of (bytes_of d.bytes) n ≡ record (cells_of (bytes_of c.bytes) n) { right = to }
  right_own =
      let low = (node_at c n g).low in
      let left = SameBytesExcept-link (bytes_of c.bytes) (bytes_of d.bytes) (n + 8) 8 n same (inl (omega arith)) in
      let red = colour_beside (bytes_of c.bytes) (bytes_of d.bytes) (n + 8) n same low (omega arith) in
      λ i. record { left = left i; right = set i; red = red i }

  -- writing the right link changes the bytes of that link alone
  pub right_changed : Changed c d n
  right_changed =
      let ns = payloads (gaps_in c) in
      let two = and_parts (leads (λ k. is_in k ns) (cells_of (bytes_of c.bytes) n).left)
      (leads (λ k. is_in k ns) (cells_of (bytes_of c.bytes) n).right) (links_at c n g) in
      link_changed c d n (n + 8) to g target (omega arith) (omega arith) set size place same
      (subst (λ (x : Cell). (leads (λ k. is_in k ns) x.left && leads (λ k. is_in k ns) x.right) ≡ true) (sym right_own)
      (and_from (leads (λ k. is_in k ns) (cells_of (bytes_of c.bytes) n).left) (leads (λ k. is_in k ns) to) two.0
      (leads_in c to target)))

  -- writing the right link changes only this field of the cell
  pub right_cells : gap_cells d ≡ with_right (gap_cells c) n to
  unfolding with_right
  right_cells = one_cell c d n g right_changed (λ (x : Cell). record x { right = to }) right_own

-- ---- a gap before and after the change

module _ {old new : WindowState} {ts us : List Tile} (s : TagStep old new ts us) (u : Tile) (m : ℕ) (i : In u ts)
    (j : In u us) (at : u.offset + 16 ≡ m) where
  word_stays : (k : ℕ) → m ≤ k → k + 8 ≤ m + 16 → word_at (bytes_of new.bytes) k ≡ word_at (bytes_of old.bytes) k
  word_stays k low high =
      let row = said_row old ts s.said in
      let long = (row_lies 128 ts (length old.bytes - 16) u row i).long in
      let new_row : Row 128 us (length old.bytes - 16) = subst (λ n. Row 128 us (n - 16)) s.same.size
      (said_row new us s.says) in
      SameBytes-word (bytes_of old.bytes) (bytes_of new.bytes) k (k + 8) k (record {
        at = λ l a b.
            let p = inside 128 u ts (length old.bytes - 16) l row i (omega arith) (omega arith) in
            let q = inside 128 u us (length old.bytes - 16) l new_row j (omega arith) (omega arith) in
            s.same.bytes l p.beside q.beside p.high;
      }) (omega arith) (omega arith)

  -- the cell of a node stays
  pub step_cell : cells_of (bytes_of new.bytes) m ≡ cells_of (bytes_of old.bytes) m
  step_cell =
      cell_stays (bytes_of old.bytes) (bytes_of new.bytes) m
      (ap (target_of m) (word_stays m (omega arith) (omega arith)))
      (ap (target_of (m + 8)) (word_stays (m + 8) (omega arith) (omega arith)))
      (tile_colour new us u m s.says (in_stands new us u s.says j) at
      ∙ sym (tile_colour old ts u m s.said (in_stands old ts u s.said i) at))

-- ---- a colour is set

-- a byte outside all tags stays outside if a tile changes its colour
pub beside_recoloured : (front : List Tile) (t : Tile) (red : Bool) (back : List Tile) (k : ℕ)
    → IsBesideTags (front ++ (t ∷ back)) k → IsBesideTags (front ++ (record t { red = red } ∷ back)) k
beside_recoloured [] t red back k h = h
beside_recoloured (u ∷ us) t red back k h = (h.0, beside_recoloured us t red back k h.1)

plain_recoloured : (front : List Tile) (t : Tile) (red : Bool) (back : List Tile) → t.use_of ≡ None
    → map plain (front ++ (record t { red = red } ∷ back)) ≡ map plain (front ++ (t ∷ back))
plain_recoloured [] t red back free =
    let black : (r : Bool) → (not (is_free t) && r) ≡ false =
    λ r. ap (λ (u : Option Role). not (is_free (record t { use_of = u })) && r) free in
    let same : (not (is_free t) && red) ≡ (not (is_free t) && t.red) = black red ∙ sym (black t.red) in
    λ i. record t { red = same i } ∷ map plain back
plain_recoloured (u ∷ us) t red back free = ap (λ (ts : List Tile). plain u ∷ ts) (plain_recoloured us t red back free)

module _ (c d : WindowState) (n at : ℕ) (red : Bool) (g : GapNode c n) (o : at + 16 ≡ n)
    (paint : ChangesTags c d (with_red_at at red)) where
  gap : NodeAt c n
  gap = node_at c n g

  abbrev front : List Tile
  front = gap.free_tile.front

  abbrev tile : Tile
  tile = gap.free_tile.tile

  abbrev back : List Tile
  back = gap.free_tile.back

  abbrev painted : List Tile
  painted = gap.free_tile.front ++ (record gap.free_tile.tile { red = red } ∷ gap.free_tile.back)

  begins : gap.free_tile.tile.offset ≡ at
  begins = let e = gap.free_tile.at in omega arith

  step : TagStep c d (tiles_in c) painted
  step =
      let said : EncodesTiles c (front ++ (tile ∷ back)) = subst (EncodesTiles c) gap.free_tile.list gap.said in
      tag_step (tiles_in c) painted gap.said (ap (λ (ts : List Tile). with_red_at at red ts) gap.free_tile.list
      ∙ changed_at-around at tile back begins (of_colour red) front
      (subst (λ k. Away k front) begins
      (away_front 128 front tile back (length c.bytes - 16) (said_row c (front ++ (tile ∷ back)) said)))) paint

  beside : (k : ℕ) → IsBesideTags (tiles_in c) k → k < length c.bytes - 16 → bytes_of d.bytes k ≡ bytes_of c.bytes k
  beside k b l =
      step.same.bytes k b (beside_recoloured front tile red back k
      (subst (λ (ts : List Tile). IsBesideTags ts k) gap.free_tile.list b)) l

  -- the links of the gap stay
  own_word : (k : ℕ) → n ≤ k → k + 8 ≤ n + 16 → word_at (bytes_of d.bytes) k ≡ word_at (bytes_of c.bytes) k
  own_word k low high =
      let t = gap.free_tile in let p = t.at in let long = gap.long in
      SameBytes-word (bytes_of c.bytes) (bytes_of d.bytes) k (k + 8) k (record {
        at = λ j a b.
            let i = inside 128 t.tile (tiles_in c) (length c.bytes - 16) j gap.row gap.is_in_list
            (omega arith) (omega arith) in
            beside j i.beside i.high;
      }) (omega arith) (omega arith)

  red_own : cells_of (bytes_of d.bytes) n ≡ record (cells_of (bytes_of c.bytes) n) { red = red }
  red_own =
      let a = ap (target_of n) (own_word n (omega arith) (omega arith)) in
      let b = ap (target_of (n + 8)) (own_word (n + 8) (omega arith) (omega arith)) in
      let painted_tile : Tile = record tile { red = red } in
      let r = tile_colour d painted painted_tile n step.says
      (one_tile_at_an_offset d front painted_tile back step.says) gap.free_tile.at in
      λ i. record { left = a i; right = b i; red = r i }

  -- and so do the fields of another one
  others_stay : (m : ℕ) → NodeAt c m → (m ≡ n → ⊥) → cells_of (bytes_of d.bytes) m ≡ cells_of (bytes_of c.bytes) m
  others_stay m e far =
      let u = e.free_tile.tile in let p = e.free_tile.at in
      let here : In u (front ++ (tile ∷ back)) = subst (λ (ts : List Tile). In u ts) gap.free_tile.list e.is_in_list in
      let other : tile ≡ u → ⊥ = λ same. far (sym p ∙ ap (λ (t : Tile). t.offset + 16) (sym same)
      ∙ gap.free_tile.at) in
      step_cell step u m e.is_in_list (in_other u tile (record tile { red = red }) front back other here) p

  -- writing the colour changes the tag alone
  pub red_changed : Changed c d n
  red_changed =
      record {
        us = painted;
        said = step.says;
        tiles = plain_recoloured front tile red back gap.free_tile.free ∙ ap (λ (ts : List Tile). map plain ts)
            (sym gap.free_tile.list);
        place = step.same.place;
        size = step.same.size;
        bytes = λ k b l away. beside k b l;
        links = subst (λ (x : Cell). (leads (λ k. is_in k (payloads (gaps_in c))) x.left && leads
            (λ k. is_in k (payloads (gaps_in c))) x.right) ≡ true) (sym red_own) (links_at c n g);
        others = λ m i far. others_stay m (node_at c m (record { good = g.good; listed = i })) far;
      }

  -- writing the colour changes only this field of the cell
  pub red_cells : gap_cells d ≡ with_red (gap_cells c) n red
  unfolding with_red
  red_cells = one_cell c d n g red_changed (λ (x : Cell). record x { red = red }) red_own
  -- a free tile can have any colour

-- a gap can have either colour
pub gap_may : (c : WindowState) (n at : ℕ) (red : Bool) → GapNode c n → at + 16 ≡ n → MayHaveColour c at red
unfolding current
gap_may c n at red g o =
    let node = node_at c n g in
    let t = node.free_tile in let p = t.at in let same : t.tile.offset ≡ at = omega arith in
    record {
      tiles = tiles_in c;
      said = node.said;
      tile = t.tile;
      stands = subst (λ k. tile_in (tiles_in c) k ≡ Some t.tile) same node.stands;
      colour = colour red t.tile t.free;
    }
  where
    any : (red : Bool) → (not red || may_be_red current None) ≡ true
    any true = refl
    any false = refl

    colour : (red : Bool) (t : Tile) → t.use_of ≡ None → (not red || may_be_red current t.use_of) ≡ true
    colour red t free = subst (λ (u : Option Role). (not red || may_be_red current u) ≡ true) (sym free) (any red)
