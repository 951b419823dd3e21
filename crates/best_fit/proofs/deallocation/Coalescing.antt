-- A block is freed: its free neighbours leave the tree, and the gap that it forms with them enters the tree.
use Rattle.best_fit.proofs.Common.{◌≡◌, refl, sym, ap, subst, ◌∙◌, ℕ, ◌+◌, ◌-◌, ◌*◌, ◌≤◌, false, List, [], ◌∷◌, ◌++◌}
use Rattle.best_fit.proofs.Common.{length, append_assoc, arith, None, map, WindowState, bytes_of, Tile, current}
use Rattle.best_fit.proofs.Common.{gap_offset, first_in, last_in, next_in, previous_in, with_red_at, with_use_at}
use Rattle.best_fit.proofs.Common.{without_last, EncodesTiles, bits, target_of, Gap, LiveSet, others, released, gap_of}
use Rattle.best_fit.proofs.Common.{gaps_of, gaps_in, plain, tiles_in, HasGapTree, LacksGap, ChangesGapTree, node_of}
use Rattle.best_fit.proofs.Common.{tile_list, start_of, IsHeap, Deallocates, KeepsBlocks, EncodesLiveSet, live_of}
use Rattle.best_fit.proofs.Common.{joined_free_at}
use Rattle.best_fit.proofs.allocation.LeastGap.{bits-le, heap_tree}
use Rattle.best_fit.proofs.tags.RowParts.{Away, away_front, next_in-around, previous_in-around}
use Rattle.best_fit.proofs.tags.Frames.{keeps-others, keeps-trans}
use Rattle.best_fit.proofs.gaps.Order.{gap_tree_stays}
use Rattle.best_fit.proofs.gaps.OneField.{kept_same, same_gaps}
use Rattle.best_fit.proofs.tags.TileJoins.{rest_of}
use Rattle.best_fit.proofs.tags.TagsAndLiveSet.{heap-says, said_row}
use Rattle.best_fit.proofs.allocation.GapToBlock.{planted_live}
use Rattle.best_fit.proofs.gaps.LinksOnly.{SplitsAlike, regrown_keeps, regrown_live, splits_alike, tree_says}
use Rattle.best_fit.proofs.deallocation.OneGap.{Freed, HasUsed, before3, behind2}
use Rattle.best_fit.specs.Tiling.{ChangesTags}
use Rattle.best_fit.proofs.free_tree.LinkAndUnlink.{few_bits, lacking_node}
use Rattle.best_fit.proofs.tags.TileRows.{Apart-is_merged, gaps_of-used, gaps_of-append}
use Rattle.best_fit.proofs.tags.Writes.{Block}

-- ---- lists in parts

front_parts : (ts : List Tile) → ts ≡ without_last ts ++ tile_list (last_in ts)
front_parts [] = refl
front_parts (t ∷ []) = refl
front_parts (t ∷ u ∷ ts) = ap (λ (us : List Tile). t ∷ us) (front_parts (u ∷ ts))

-- a list is its first tile and the rest
pub back_parts : (ts : List Tile) → ts ≡ tile_list (first_in ts) ++ rest_of ts
back_parts [] = refl
back_parts (t ∷ ts) = refl

init-plain : (ts : List Tile) → map plain (without_last ts) ≡ without_last (map plain ts)
init-plain [] = refl
init-plain (t ∷ []) = refl
init-plain (t ∷ u ∷ ts) = ap (λ (us : List Tile). plain t ∷ us) (init-plain (u ∷ ts))

rest-plain : (ts : List Tile) → map plain (rest_of ts) ≡ rest_of (map plain ts)
rest-plain [] = refl
rest-plain (t ∷ ts) = refl

start-plain : (ts : List Tile) (at : ℕ) → start_of (last_in (map plain ts)) at ≡ start_of (last_in ts) at
start-plain [] at = refl
start-plain (t ∷ []) at = refl
start-plain (t ∷ u ∷ ts) at = start-plain (u ∷ ts) at

same_init : (ts us : List Tile) → map plain us ≡ map plain ts → gaps_of (without_last us) ≡ gaps_of (without_last ts)
same_init ts us e = same_gaps (without_last ts) (without_last us)
    (init-plain us ∙ ap without_last e ∙ sym (init-plain ts))

-- lists that differ in colours alone have the same gaps after their first tile
pub same_rest : (ts us : List Tile) → map plain us ≡ map plain ts → gaps_of (rest_of us) ≡ gaps_of (rest_of ts)
same_rest ts us e = same_gaps (rest_of ts) (rest_of us) (rest-plain us ∙ ap rest_of e ∙ sym (rest-plain ts))

same_start : (ts us : List Tile) (at : ℕ) → map plain us ≡ map plain ts
    → start_of (last_in us) at ≡ start_of (last_in ts) at
same_start ts us at e = sym (start-plain us at) ∙ ap (λ (vs : List Tile). start_of (last_in vs) at) e
    ∙ start-plain ts at

-- the first tile and the last begin a gap where they did
pub first-plain : (ts us : List Tile) → map plain us ≡ map plain ts
    → gap_offset (first_in us) ≡ gap_offset (first_in ts)
first-plain ts us e = sym (first us) ∙ ap (λ (vs : List Tile). gap_offset (first_in vs)) e ∙ first ts
  where
    first : (vs : List Tile) → gap_offset (first_in (map plain vs)) ≡ gap_offset (first_in vs)
    first [] = refl
    first (v ∷ vs) = refl

last-plain : (ts us : List Tile) → map plain us ≡ map plain ts → gap_offset (last_in us) ≡ gap_offset (last_in ts)
last-plain ts us e = sym (last us) ∙ ap (λ (vs : List Tile). gap_offset (last_in vs)) e ∙ last ts
  where
    last : (vs : List Tile) → gap_offset (last_in (map plain vs)) ≡ gap_offset (last_in vs)
    last [] = refl
    last (v ∷ []) = refl
    last (v ∷ u ∷ vs) = last (u ∷ vs)

-- two regrowths of a tree, one after the other, are one
pub regrown-trans : (a b c : WindowState) → ChangesGapTree a b → ChangesGapTree b c → ChangesGapTree a c
regrown-trans a b c r s =
    record {
      place = record { before = s.place.before ∙ r.place.before; after = s.place.after ∙ r.place.after };
      size = s.size ∙ r.size;
      tiles = s.tiles ∙ r.tiles;
      bytes = λ k i o. s.bytes k (kept_same (tiles_in a) (tiles_in b) k r.tiles ∙ i) o ∙ r.bytes k i o;
    }

-- The state before the last step: the gap that the block became is not in the tree yet, which contains all others. When
-- it enters the tree, the block is freed.
pub record GivenBack (w four : WindowState) (at start : ℕ) : Type 0 where
  pub front : List Gap
  pub gap : Gap
  pub back : List Gap
  pub node : start + 16 ≡ node_of gap
  pub lacks : LacksGap four front gap back
  pub small : start + 16 ≤ 1073741824
  pub few : length (front ++ back) ≤ length (gaps_in w)
  pub released : (e : WindowState) → HasGapTree e (front ++ (gap ∷ back)) → ChangesGapTree four e
      → Deallocates current w e (at + 16)

module _ (w : WindowState) (at : ℕ) (heap : IsHeap current w.bytes) (b : Block w (at + 16)) where
  -- the tag of the block is at this offset
  pub begins : b.tile.offset ≡ at
  begins = let e = b.at in omega arith

  away : Away at b.front
  away = subst (λ k. Away k b.front) begins (away_front 128 b.front b.tile b.back (length w.bytes - 16)
      (said_row w (b.front ++ (b.tile ∷ b.back)) b.said))

  abbrev init : List Gap
  init = gaps_of (without_last b.front)

  abbrev last : List Gap
  last = gaps_of (tile_list (last_in b.front))

  abbrev first : List Gap
  first = gaps_of (tile_list (first_in b.back))

  abbrev tail : List Gap
  tail = gaps_of (rest_of b.back)

  -- the next tile of a block is the first tile after it
  pub next_is : next_in (b.front ++ (b.tile ∷ b.back)) at ≡ first_in b.back
  next_is = next_in-around at b.tile b.back begins b.front away

  -- the previous tile of a block is the last tile before it
  pub previous_is : previous_in (b.front ++ (b.tile ∷ b.back)) at ≡ last_in b.front
  previous_is = previous_in-around at b.tile b.back begins b.front away

  front_gaps : gaps_of b.front ≡ gaps_of (without_last b.front) ++ gaps_of (tile_list (last_in b.front))
  front_gaps = ap gaps_of (front_parts b.front) ∙ gaps_of-append (without_last b.front) (tile_list (last_in b.front))

  back_gaps : gaps_of b.back ≡ gaps_of (tile_list (first_in b.back)) ++ gaps_of (rest_of b.back)
  back_gaps = ap gaps_of (back_parts b.back) ∙ gaps_of-append (tile_list (first_in b.back)) (rest_of b.back)

  all_gaps : gaps_in w ≡ (init ++ last) ++ (first ++ tail)
  all_gaps =
      ap gaps_of b.list ∙ gaps_of-append b.front (b.tile ∷ b.back) ∙ ap (λ (hs : List Gap). gaps_of b.front ++ hs)
      (gaps_of-used b.tile b.back b.role b.in_use)
      ∙ ap (λ (hs : List Gap). hs ++ gaps_of b.back) front_gaps ∙ ap (λ (hs : List Gap). (init ++ last) ++ hs) back_gaps

  -- before the first call
  pub first_tree : HasGapTree w ((init ++ last) ++ (first ++ tail))
  first_tree = subst (λ (hs : List Gap). HasGapTree w hs) all_gaps (heap_tree w heap)

  -- the gap after has left the tree, after this many touches from this many on
  pub record HalfUprooted (d : WindowState) (start count : ℕ) : Type 0 where
    pub tree : HasGapTree d (init ++ (last ++ tail))
    pub rest : ChangesGapTree w d
    pub steps : count ≤ start + 32 * bits (length (gaps_in w) + 1) + 35

  -- the free neighbour before leaves the tree
  pub half_uprooted : (d : WindowState) (start n count : ℕ) → HasGapTree d ((init ++ last) ++ tail) → ChangesGapTree w d
      → n ≤ start + 2
      → count ≤ n + 32 * bits (length ((init ++ last) ++ (first ++ tail)) + 1) + 33
      → HalfUprooted d start count
  half_uprooted d start n count tree rest low high =
      let few = first_tree.some.few in
      let b1 = bits-le (length ((init ++ last) ++ (first ++ tail)) + 1) (length (gaps_in w) + 1) (omega arith) in
      record {
        tree = subst (λ (hs : List Gap). HasGapTree d hs) (append_assoc init last tail) tree;
        rest = rest;
        steps = omega arith;
      }

  -- and the gap before has left the tree
  pub record Uprooted (d : WindowState) (start count : ℕ) : Type 0 where
    pub tree : HasGapTree d (init ++ tail)
    pub rest : ChangesGapTree w d
    pub steps : count ≤ start + 64 * bits (length (gaps_in w) + 1) + 68

  -- both free neighbours leave the tree
  pub uprooted : (d1 d : WindowState) (start n count : ℕ) → HalfUprooted d1 start n → HasGapTree d (init ++ tail)
      → ChangesGapTree d1 d
      → count ≤ n + 32 * bits (length (init ++ (last ++ tail)) + 1) + 33 → Uprooted d start count
  uprooted d1 d start n count half tree rest high =
      let few = half.tree.some.few in let low = half.steps in
      let same : length (gaps_in d1) ≡ length (gaps_in w) = ap (λ (hs : List Gap). length hs)
      (same_gaps (tiles_in w) (tiles_in d1) half.rest.tiles) in
      let b2 = bits-le (length (init ++ (last ++ tail)) + 1) (length (gaps_in w) + 1) (omega arith) in
      record { tree = tree; rest = regrown-trans w d1 d half.rest rest; steps = omega arith }

  -- the number of gaps has at most 41 bits
  pub few_steps : bits (length (gaps_in w) + 1) ≤ 41
  few_steps = few_bits w (gaps_in w) (heap_tree w heap)

  -- the tiles after a change of the tree of gaps
  pub alike : (d : WindowState) → ChangesGapTree w d → SplitsAlike (tiles_in d) b.front b.tile b.back
  alike d r = splits_alike (tiles_in d) b.front b.tile b.back (r.tiles ∙ ap (λ (ts : List Tile). map plain ts) b.list)

  -- the block is there after a change of the tree of gaps
  abbrev pub used_in : (d : WindowState) (hs : List Gap) → HasGapTree d hs → ChangesGapTree w d → HasUsed d at
  used_in d hs h r = record {
    says = tree_says d hs h;
    front = (alike d r).front';
    tile = (alike d r).tile';
    back = (alike d r).back';
    role = b.role;
    list = (alike d r).list;
    in_use = ap (λ (t : Tile). t.use_of) (alike d r).tiles ∙ b.in_use;
    at = ap (λ (t : Tile). t.offset) (alike d r).tiles ∙ begins;
  }

  module _ (d : WindowState) (h : HasGapTree d (init ++ tail)) (r : ChangesGapTree w d) where
    abbrev s : SplitsAlike (tiles_in d) b.front b.tile b.back
    s = alike d r

    -- the block with its neighbours out of the tree
    abbrev pub alone : HasUsed d at
    alone = used_in d (init ++ tail) h r

    tree_d : HasGapTree d (gaps_of (without_last s.front') ++ gaps_of (rest_of s.back'))
    tree_d = subst (λ (hs : List Gap). HasGapTree d hs)
        (sym (ap (λ (hs : List Gap). hs ++ gaps_of (rest_of s.back')) (same_init b.front s.front' s.fronts)
        ∙ ap (λ (hs : List Gap). init ++ hs) (same_rest b.back s.back' s.backs))) h

    module _ {one two : WindowState} (paint : ChangesTags d one (with_red_at at false))
        (change : ChangesTags one two (with_use_at at None)) where
      -- the gap after it is where it was read
      pub r_behind2 : (ts : List Tile) → EncodesTiles two ts → gap_offset (next_in ts at) ≡ gap_offset (first_in b.back)
      r_behind2 ts said = behind2 alone paint change ts said ∙ first-plain b.back s.back' s.backs

      module _ {three : WindowState} (join : ChangesTags two three (joined_free_at at)) where
        -- and the gap before it is where it was read
        pub r_before3 : (ts : List Tile) → EncodesTiles three ts
            → gap_offset (previous_in ts at) ≡ gap_offset (last_in b.front)
        r_before3 ts said = before3 alone paint change join ts said ∙ last-plain b.front s.front' s.fronts

    module _ {four : WindowState} (f : Freed d four at s.front' s.back') where
      xs : List Gap
      xs = gaps_of (without_last s.front')

      ys : List Gap
      ys = gaps_of (rest_of s.back')

      new_node : start_of (last_in b.front) at + 16 ≡ node_of (gap_of f.whole)
      new_node = ap (λ k. k + 16) (sym (f.start ∙ same_start b.front s.front' at s.fronts))

      lacks : LacksGap four xs (gap_of f.whole) ys
      unfolding xs ys
      lacks = record {
        said = f.says.said;
        merged = Apart-is_merged false (tiles_in four) f.says.apart;
        gaps = f.gaps;
        tree = gap_tree_stays (bytes_of d.bytes) (bytes_of four.bytes)
            (gaps_of (without_last s.front') ++ gaps_of (rest_of s.back'))
            (ap (target_of 24) f.word) f.cell tree_d.tree;
      }

      start_small : start_of (last_in b.front) at + 16 ≤ 1073741824
      start_small =
          let n = lacking_node four xs (gap_of f.whole) ys (start_of (last_in b.front) at + 16) new_node lacks in
          let long = n.long in let ends = n.ends in let size = n.size in omega arith

      few_left : length (xs ++ ys) ≤ length (gaps_in w)
      unfolding xs ys
      few_left =
          let few = tree_d.some.few in
          let same : length (gaps_in d) ≡ length (gaps_in w) = ap (λ (hs : List Gap). length hs)
          (same_gaps (tiles_in w) (tiles_in d) r.tiles) in
          omega arith

      module _ (e : WindowState) (planted : HasGapTree e (xs ++ (gap_of f.whole ∷ ys)))
          (regrown : ChangesGapTree four e) where
        live_four : live_of four.bytes ≡ released (live_of w.bytes) (at + 16)
        live_four = f.live ∙ ap (λ (l : LiveSet). released l (at + 16)) (regrown_live w d r)

        released_block : Deallocates current w e (at + 16)
        released_block =
            let others_w = others (at + 16) (live_of w.bytes).extents in
            let first_keeps = keeps-others w d (at + 16) (live_of w.bytes).extents
            (regrown_keeps w d (heap-says w heap).said (tree_says d (init ++ tail) h).said r) in
            let second_keeps : KeepsBlocks d four others_w =
            subst (λ (l : LiveSet). KeepsBlocks d four (others (at + 16) l.extents)) (regrown_live w d r) f.keeps in
            let third_keeps : KeepsBlocks four e others_w =
            subst (λ (l : LiveSet). KeepsBlocks four e l.extents) live_four
            (regrown_keeps four e f.says.said (tree_says e (xs ++ (gap_of f.whole ∷ ys)) planted).said regrown) in
            record {
              live = subst (EncodesLiveSet current e.bytes) live_four
                  (planted_live four e (xs ++ (gap_of f.whole ∷ ys)) lacks.gaps planted regrown);
              keeps = keeps-trans w four e others_w (keeps-trans w d four others_w first_keeps second_keeps)
                  third_keeps;
            }

      pub given_back : GivenBack w four at (start_of (last_in b.front) at)
      given_back = record {
        front = xs;
        gap = gap_of f.whole;
        back = ys;
        node = new_node;
        lacks = lacks;
        small = start_small;
        few = few_left;
        released = released_block;
      }
