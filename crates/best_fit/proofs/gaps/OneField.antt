-- One field of a gap changes: the nodes, their order, the other cells and all else stay.
use Rattle.best_fit.proofs.Common.{◌≡◌, refl, sym, ap, subst, ◌∙◌, ℕ, ◌+◌, ◌-◌, ◌<◌, ◌≤◌, ◌⊎◌, inl, inr, Bool, true}
use Rattle.best_fit.proofs.Common.{false, ◌&&◌, ◌||◌, not, List, [], ◌∷◌, length, arith, nat_lt, nat_le, ◌==◌, IsTrue}
use Rattle.best_fit.proofs.Common.{Option, None, map, if◌then◌else◌, list_all, cons_option, false≢true, cases_Bool}
use Rattle.best_fit.proofs.Common.{cases_eq, and_parts, or_cases, eq-eqb, ne_eqb, leb-true, ltb-true, cond-true}
use Rattle.best_fit.proofs.Common.{cond-false, WindowState, SameSurroundings, bytes_of, Tile, is_legal_size}
use Rattle.best_fit.proofs.Common.{IsBesideTags, is_free, is_merged, EncodesTiles, good_tags_say_tiles}
use Rattle.best_fit.proofs.Common.{tiles_are_read_off, Cell, is_in, leads, all_from, Gap, cells_of, payloads, as_gap}
use Rattle.best_fit.proofs.Common.{comes_before, gap_cells, gaps_of, gaps_in, is_gap_node, is_kept, kept_of}
use Rattle.best_fit.proofs.Common.{lies_behind, own_from, stands_before, links_among, plain, tiles_in, IsGoodHeap}
use Rattle.best_fit.proofs.Common.{GapNode, GapNode-is_gap_node, IsGoodHeap-is_good, is_gap_node-GapNode, links_at}
use Rattle.best_fit.proofs.Common.{cells_at}
use Rattle.best_fit.specs.GapNodes.{is_good}
use Rattle.best_fit.specs.GapLaws.{cells_off}
use Rattle.best_fit.proofs.gaps.Nodes.{Disjoint, NodeAt, node_at, row_disjoint}
use Rattle.best_fit.proofs.tags.TagsAndLiveSet.{legal_size}
use Rattle.best_fit.proofs.tags.TileRows.{Apart-is_merged}
use Rattle.best_fit.proofs.tags.UnchangedTags.{In, inside, low_beside}

-- ---- lists of tiles that differ in the colours of free ones

gaps_of-plain : (ts : List Tile) → gaps_of (map plain ts) ≡ gaps_of ts
gaps_of-plain [] = refl
gaps_of-plain (t ∷ ts) = ap (cons_option (as_gap t)) (gaps_of-plain ts)

merged-plain : (ts : List Tile) → is_merged (map plain ts) ≡ is_merged ts
merged-plain [] = refl
merged-plain (t ∷ []) = refl
merged-plain (t ∷ u ∷ ts) = ap (λ (b : Bool). not (is_free t && is_free u) && b) (merged-plain (u ∷ ts))

behind-plain : (ts : List Tile) (k : ℕ) → lies_behind (map plain ts) k ≡ lies_behind ts k
behind-plain [] k = refl
behind-plain (t ∷ ts) k =
    ap (λ (b : Bool). (nat_le (own_from t) k && nat_lt k (t.offset + t.len)) || b) (behind-plain ts k)

-- lists that differ in colours alone have the same gaps
pub same_gaps : (ts us : List Tile) → map plain us ≡ map plain ts → gaps_of us ≡ gaps_of ts
same_gaps ts us e = sym (gaps_of-plain us) ∙ ap gaps_of e ∙ gaps_of-plain ts

pub same_merged : (ts us : List Tile) → map plain us ≡ map plain ts → is_merged us ≡ is_merged ts
same_merged ts us e = sym (merged-plain us) ∙ ap is_merged e ∙ merged-plain ts

same_behind : (ts us : List Tile) (k : ℕ) → map plain us ≡ map plain ts → lies_behind us k ≡ lies_behind ts k
same_behind ts us k e = sym (behind-plain us k) ∙ ap (λ (vs : List Tile). lies_behind vs k) e ∙ behind-plain ts k

-- lists that differ in colours alone keep the same bytes
pub kept_same : (ts us : List Tile) (k : ℕ) → map plain us ≡ map plain ts → is_kept us k ≡ is_kept ts k
kept_same ts us k e = ap (λ (b : Bool). nat_lt k 128 || b) (same_behind ts us k e)

-- ---- bytes that are kept

-- a byte in the payload of a block in use, or a free one of a gap
record InTile (ts : List Tile) (k : ℕ) : Type 0 where
  tile : Tile
  listed : In tile ts
  low : own_from tile ≤ k
  high : k < tile.offset + tile.len

tile_step : (t : Tile) (ts : List Tile) (k : ℕ) → (lies_behind ts k ≡ true → InTile ts k)
    → ((nat_le (own_from t) k && nat_lt k (t.offset + t.len)) ≡ true) ⊎ (lies_behind ts k ≡ true) → InTile (t ∷ ts) k
tile_step t ts k rest (inl e) =
    let two = and_parts (nat_le (own_from t) k) (nat_lt k (t.offset + t.len)) e in
    record {
      tile = t;
      listed = inl refl;
      low = leb-true (own_from t) k two.0;
      high = ltb-true k (t.offset + t.len) two.1;
    }
tile_step t ts k rest (inr e) =
    let i = rest e in record { tile = i.tile; listed = inr i.listed; low = i.low; high = i.high }

in_tile : (ts : List Tile) (k : ℕ) → lies_behind ts k ≡ true → InTile ts k
in_tile [] k h = absurd (false≢true h)
in_tile (t ∷ ts) k h = tile_step t ts k (in_tile ts k)
    (or_cases (nat_le (own_from t) k && nat_lt k (t.offset + t.len)) (lies_behind ts k) h)

-- the byte is after the tag
behind_tag : (b : Bool) (o k : ℕ) → o + (if b then 32 else 16) ≤ k → o + 16 ≤ k
behind_tag true o k l = omega arith
behind_tag false o k l = l

-- the byte is outside all tags, and outside the links of a gap
record IsClear (c : WindowState) (n k : ℕ) : Type 0 where
  beside : IsBesideTags (tiles_in c) k
  below : k < length c.bytes - 16
  away : (k < n) ⊎ (n + 16 ≤ k)

kept_clear : (c : WindowState) (n k : ℕ) → NodeAt c n → 144 ≤ length c.bytes → is_kept (tiles_in c) k ≡ true
    → IsClear c n k
kept_clear c n k d least h = by_place (or_cases (nat_lt k 128) (lies_behind (tiles_in c) k) h)
  where
    off : (t : Tile) → d.free_tile.tile.use_of ≡ None → own_from t ≤ k → t.offset + 16 ≤ k → k < t.offset + t.len
        → Disjoint d.free_tile.tile t → (k < n) ⊎ (n + 16 ≤ k)
    off t free own low high (inl e) =
        let f : is_free t ≡ true = ap is_free (sym e)
        ∙ ap (λ (u : Option _). is_free (record d.free_tile.tile { use_of = u })) free in
        let links : t.offset + 32 ≤ k = subst (λ (b : Bool). t.offset + (if b then 32 else 16) ≤ k) f own in
        let same = ap (λ (v : Tile). v.offset) e in let at = d.free_tile.at in inr (omega arith)
    off t free own low high (inr (inl l)) = let at = d.free_tile.at in let long = d.long in inr (omega arith)
    off t free own low high (inr (inr l)) = let at = d.free_tile.at in inl (omega arith)

    by_place : (nat_lt k 128 ≡ true) ⊎ (lies_behind (tiles_in c) k ≡ true) → IsClear c n k
    by_place (inl e) =
        let l = ltb-true k 128 e in let low = d.low in
        record {
          beside = low_beside 128 (tiles_in c) (length c.bytes - 16) k d.row l;
          below = omega arith;
          away = inl (omega arith);
        }
    by_place (inr e) =
        let b = in_tile (tiles_in c) k e in
        let low = behind_tag (is_free b.tile) b.tile.offset k b.low in
        let i = inside 128 b.tile (tiles_in c) (length c.bytes - 16) k d.row b.listed low b.high in
        record {
          beside = i.beside;
          below = i.high;
          away = off b.tile d.free_tile.free b.low low b.high
              (row_disjoint 128 (tiles_in c) (length c.bytes - 16) d.free_tile.tile b.tile d.row d.is_in_list b.listed);
        }

-- a change of the links and the colour of one gap keeps the kept state
module _ (c d : WindowState) (n : ℕ) (node : NodeAt c n) (place : SameSurroundings c d) (size : length d.bytes
    ≡ length c.bytes)
    (tiles : map plain (tiles_in d) ≡ map plain (tiles_in c))
    (bytes : (k : ℕ) → IsBesideTags (tiles_in c) k → k < length c.bytes - 16 → (k < n) ⊎ (n + 16 ≤ k)
    → bytes_of d.bytes k ≡ bytes_of c.bytes k) where
  byte_stays : (k : ℕ) → (if is_kept (tiles_in d) k then bytes_of d.bytes k else 0)
      ≡ (if is_kept (tiles_in c) k then bytes_of c.bytes k else 0)
  byte_stays k = ap (λ (b : Bool). if (nat_lt k 128 || b) then bytes_of d.bytes k else 0)
      (same_behind (tiles_in c) (tiles_in d) k tiles) ∙ by_test (cases_Bool (is_kept (tiles_in c) k))
    where
      by_test : (is_kept (tiles_in c) k ≡ true) ⊎ (is_kept (tiles_in c) k ≡ false)
          → (if is_kept (tiles_in c) k then bytes_of d.bytes k else 0)
          ≡ (if is_kept (tiles_in c) k then bytes_of c.bytes k else 0)
      by_test (inl t) =
          let l = (legal_size (length c.bytes) node.said.size).low in
          let clear = kept_clear c n k node l t in
          cond-true (is_kept (tiles_in c) k) (bytes_of d.bytes k) 0 t ∙ bytes k clear.beside clear.below clear.away
          ∙ sym (cond-true (is_kept (tiles_in c) k) (bytes_of c.bytes k) 0 t)
      by_test (inr f) = cond-false (is_kept (tiles_in c) k) (bytes_of d.bytes k) 0 f
          ∙ sym (cond-false (is_kept (tiles_in c) k) (bytes_of c.bytes k) 0 f)

  -- the bytes that are kept stay the same
  pub kept_round : kept_of d ≡ kept_of c
  unfolding kept_of
  kept_round = λ i. record {
    before = place.before i;
    after = place.after i;
    size = size i;
    tiles = tiles i;
    byte = λ k. byte_stays k i;
  }

-- ---- one field

-- the effect of a setter on the window
pub record Changed (c d : WindowState) (n : ℕ) : Type 0 where
  pub us : List Tile
  pub said : EncodesTiles d us
  pub tiles : map plain us ≡ map plain (tiles_in c)
  pub place : SameSurroundings c d
  pub size : length d.bytes ≡ length c.bytes
  pub bytes : (k : ℕ) → IsBesideTags (tiles_in c) k → k < length c.bytes - 16 → (k < n) ⊎ (n + 16 ≤ k)
      → bytes_of d.bytes k ≡ bytes_of c.bytes k
  pub links : links_among (bytes_of d.bytes) (payloads (gaps_in c)) n ≡ true
  pub others : (m : ℕ) → is_in m (payloads (gaps_in c)) ≡ true → (m ≡ n → ⊥) → cells_of (bytes_of d.bytes) m
      ≡ cells_of (bytes_of c.bytes) m

module _ (c d : WindowState) (n : ℕ) (g : GapNode c n) (h : Changed c d n) where
  node : NodeAt c n
  node = node_at c n g

  read : tiles_in d ≡ h.us
  read = tiles_are_read_off d h.us h.said

  pub same_tiles : map plain (tiles_in d) ≡ map plain (tiles_in c)
  same_tiles = ap (λ (ts : List Tile). map plain ts) read ∙ h.tiles

  pub gaps_stay : gaps_in d ≡ gaps_in c
  gaps_stay = same_gaps (tiles_in c) (tiles_in d) same_tiles

  links_d : (m : ℕ) → is_in m (payloads (gaps_in c)) ≡ true
      → links_among (bytes_of d.bytes) (payloads (gaps_in c)) m ≡ true
  links_d m i = by_place (cases_eq m n)
    where
      by_place : (m ≡ n) ⊎ (m ≡ n → ⊥) → links_among (bytes_of d.bytes) (payloads (gaps_in c)) m ≡ true
      by_place (inl e) = subst (λ k. links_among (bytes_of d.bytes) (payloads (gaps_in c)) k ≡ true) (sym e) h.links
      by_place (inr o) =
          subst (λ (x : Cell). (leads (λ k. is_in k (payloads (gaps_in c))) x.left && leads
          (λ k. is_in k (payloads (gaps_in c))) x.right) ≡ true) (sym (h.others m i o))
          (links_at c m (record { good = g.good; listed = i }))

  pub good_stays : IsGoodHeap d
  good_stays =
      let size : IsTrue (is_legal_size (length d.bytes)) = subst (λ k. IsTrue (is_legal_size k))
      (sym h.size) g.good.size in
      let merged : IsTrue (is_merged h.us) = same_merged (tiles_in c) h.us h.tiles
      ∙ Apart-is_merged false (tiles_in c) node.apart in
      record {
        size = size;
        tags = (good_tags_say_tiles d size).1 (h.us, h.said, merged);
        links = subst (λ (gs : List Gap). list_all (links_among (bytes_of d.bytes) (payloads gs))
            (payloads gs) ≡ true) (sym gaps_stay)
            (all_from (links_among (bytes_of d.bytes) (payloads (gaps_in c))) (payloads (gaps_in c)) links_d);
      }

  -- the nodes stay the same
  pub nodes_stay : is_gap_node d ≡ is_gap_node c
  unfolding is_gap_node
  nodes_stay =
      let good : is_good d ≡ is_good c = IsGoodHeap-is_good d good_stays ∙ sym (IsGoodHeap-is_good c g.good) in
      λ i m. good i && is_in m (payloads (gaps_stay i))

  -- the order of the nodes stays the same
  pub order_stays : comes_before (gaps_in d) ≡ comes_before (gaps_in c)
  order_stays = ap comes_before gaps_stay

  -- probes are compared as before
  pub probes_stay : stands_before (gaps_in d) ≡ stands_before (gaps_in c)
  probes_stay = ap stands_before gaps_stay

  -- the kept state stays the same
  pub kept_stays : kept_of d ≡ kept_of c
  kept_stays = kept_round c d n node h.place h.size same_tiles h.bytes

  -- the cells after a change of one of them
  pub one_cell : (f : Cell → Cell) → cells_of (bytes_of d.bytes) n ≡ f (cells_of (bytes_of c.bytes) n)
      → gap_cells d ≡ (λ (m : ℕ). if m == n then f (gap_cells c m) else gap_cells c m)
  one_cell f own = λ i m. at m i
    where
      at_node : (m : ℕ) → is_gap_node c m ≡ true → (m ≡ n → ⊥) → gap_cells d m ≡ gap_cells c m
      at_node m e o =
          cells_at d m (ap (λ (p : ℕ → Bool). p m) nodes_stay ∙ e) ∙ h.others m (is_gap_node-GapNode c m e).listed o
          ∙ sym (cells_at c m e)

      other : (m : ℕ) → (m ≡ n → ⊥) → (is_gap_node c m ≡ true) ⊎ (is_gap_node c m ≡ false)
          → gap_cells d m ≡ gap_cells c m
      other m o (inl e) = at_node m e o
      other m o (inr e) = cells_off d m (ap (λ (p : ℕ → Bool). p m) nodes_stay ∙ e) ∙ sym (cells_off c m e)

      here : gap_cells d n ≡ f (gap_cells c n)
      here =
          let e = GapNode-is_gap_node c n g in
          cells_at d n (ap (λ (p : ℕ → Bool). p n) nodes_stay ∙ e) ∙ own ∙ ap f (sym (cells_at c n e))

      at : (m : ℕ) → gap_cells d m ≡ (if m == n then f (gap_cells c m) else gap_cells c m)
      at m = by_place (cases_eq m n)
        where
          by_place : (m ≡ n) ⊎ (m ≡ n → ⊥) → gap_cells d m ≡ (if m == n then f (gap_cells c m) else gap_cells c m)
          by_place (inl e) = subst (λ k. gap_cells d k ≡ f (gap_cells c k)) (sym e) here
              ∙ sym (cond-true (m == n) (f (gap_cells c m)) (gap_cells c m) (eq-eqb m n e))
          by_place (inr o) = other m o (cases_Bool (is_gap_node c m))
              ∙ sym (cond-false (m == n) (f (gap_cells c m)) (gap_cells c m) (ne_eqb m n o))
