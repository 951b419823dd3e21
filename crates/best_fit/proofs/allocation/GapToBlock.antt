-- A gap that is not in the tree becomes a block, and its remainder a gap.
use Rattle.best_fit.proofs.Common.{◌≡◌, refl, sym, ap, subst, ◌∙◌, ℕ, ◌+◌, ◌-◌, ◌≤◌, inl, inr, Bool, true, false, List}
use Rattle.best_fit.proofs.Common.{[], ◌∷◌, ◌++◌, length, arith, nat_le, length-append, Some, WindowState, bytes_of}
use Rattle.best_fit.proofs.Common.{Role, Tile, current, free_tile, of_colour, tile_in, with_red_at, with_use_at}
use Rattle.best_fit.proofs.Common.{is_free, HasTileAt, CanTakeUse, MayHaveColour, EncodesTiles, tiles_are_read_off}
use Rattle.best_fit.proofs.Common.{is_in, target_of, Extent, Gap, LiveSet, gaps, added, insert, share, IsTreeOf}
use Rattle.best_fit.proofs.Common.{cells_of, is_red, payloads, sorted_gaps, gap_of, gaps_of, gaps_in, tiles_in, GapNode}
use Rattle.best_fit.proofs.Common.{is_good-IsGoodHeap, HasGapTree, LacksGap, IsUnlinkedGap, ChangesGapTree, node_of}
use Rattle.best_fit.proofs.Common.{KeepsBlocks, EncodesLiveSet, live_of}
use Rattle.best_fit.specs.Tiling.{ChangesTags, cut_at}
use Rattle.best_fit.proofs.tags.RowParts.{Away, away_front, changed_at-around}
use Rattle.best_fit.proofs.tags.Frames.{keeps-insert, keeps-trans}
use Rattle.best_fit.proofs.gaps.Nodes.{free_at, in_around, listed_at, row_lies, tile_colour}
use Rattle.best_fit.proofs.gaps.Order.{gap_tree_stays}
use Rattle.best_fit.proofs.gaps.Setters.{gap_may, step_cell}
use Rattle.best_fit.proofs.gaps.OneField.{same_gaps}
use Rattle.best_fit.proofs.tags.TileJoins.{extents_of-append}
use Rattle.best_fit.proofs.tags.TagsAndLiveSet.{SaysHeap, gaps-live_in, legal_size, live_in, said_row, says-live}
use Rattle.best_fit.proofs.tags.TagsAndLiveSet.{says-EncodesLiveSet, says_of}
use Rattle.best_fit.proofs.gaps.LinksOnly.{regrown_keeps, regrown_live, tree_says, used_stays}
use Rattle.best_fit.proofs.tags.TileRows.{Apart, Apart-is_merged, extents_of, extents_of-free, gaps_of-append}
use Rattle.best_fit.proofs.tags.TileRows.{gaps_of-free, gaps_of-used, used-not_free}
use Rattle.best_fit.proofs.tags.UnchangedTags.{In, TagStep, around_keeps, in_back, in_stands, step_word, tag_step}
use Rattle.best_fit.proofs.allocation.GapFront.{HasBlackGap, mid_step, new_extents, new_step, taken_black, taken_cuts}
use Rattle.best_fit.proofs.allocation.GapFront.{taken_keeps, taken_says, taking_is, taking_stands, taking_used}

-- good tags and a tree of all gaps encode the live set of the tags
pub lays_out : (c : WindowState) → SaysHeap c (tiles_in c)
    → IsTreeOf (bytes_of c.bytes) 24 (payloads (sorted_gaps (gaps_in c)))
    → EncodesLiveSet current c.bytes (live_of c.bytes)
unfolding current
lays_out c says tree =
    let gs : gaps (live_in (length c.bytes) (tiles_in c)) ≡ gaps_in c = gaps-live_in (length c.bytes) (tiles_in c)
    (said_row c (tiles_in c) says.said) says.apart in
    subst (EncodesLiveSet current c.bytes) (sym (says-live c (tiles_in c) says))
    (says-EncodesLiveSet c (tiles_in c) says
    (subst (λ (hs : List Gap). IsTreeOf (bytes_of c.bytes) 24 (payloads (sorted_gaps hs))) (sym gs) tree))

-- the gap that is not in the tree enters it, and no tag changes
pub planted_live : (c e : WindowState) (hs : List Gap) → gaps_in c ≡ hs → HasGapTree e hs → ChangesGapTree c e
    → EncodesLiveSet current e.bytes (live_of c.bytes)
planted_live c e hs gaps tree r =
    subst (EncodesLiveSet current e.bytes) (regrown_live c e r)
    (lays_out e (tree_says e hs tree)
    (subst (λ (gs : List Gap). IsTreeOf (bytes_of e.bytes) 24 (payloads (sorted_gaps gs)))
    (sym (same_gaps (tiles_in c) (tiles_in e) r.tiles ∙ gaps)) tree.tree))

-- a tile between others
in_widened : (t : Tile) (front mid back : List Tile) → In t (front ++ back) → In t (front ++ (mid ++ back))
in_widened t [] mid back h = in_back t mid back h
in_widened t (f ∷ fs) mid back (inl e) = inl e
in_widened t (f ∷ fs) mid back (inr h) = inr (in_widened t fs mid back h)

-- another colour leaves no two free neighbours
pub apart_recoloured : (b : Bool) (front : List Tile) (t : Tile) (red : Bool) (back : List Tile)
    → Apart b (front ++ (t ∷ back)) → Apart b (front ++ (record t { red = red } ∷ back))
apart_recoloured b [] t red back a = a
apart_recoloured b (f ∷ fs) t red back a = (a.0, apart_recoloured (is_free f) fs t red back a.1)

-- another colour leaves the extents
pub extents_recoloured : (front : List Tile) (t : Tile) (red : Bool) (back : List Tile)
    → extents_of (front ++ (record t { red = red } ∷ back)) ≡ extents_of (front ++ (t ∷ back))
extents_recoloured front t red back = extents_of-append front (record t { red = red } ∷ back)
    ∙ sym (extents_of-append front (t ∷ back))

-- the number of gaps except one that is not in the tree
out_count : (c : WindowState) (at len : ℕ) → (o : IsUnlinkedGap c at len)
    → length (gaps_in c) ≡ length (gaps_of o.front ++ gaps_of o.back) + 1
out_count c at len o =
    let e : gaps_in c ≡ gaps_of o.front ++ (gap_of o.tile ∷ gaps_of o.back) = ap gaps_of o.list
    ∙ gaps_of-append o.front (o.tile ∷ o.back) ∙ ap (λ (hs : List Gap). gaps_of o.front ++ hs)
    (gaps_of-free o.tile o.back o.free) in
    ap length e ∙ omega (
      arith,
      length-append (gaps_of o.front) (gap_of o.tile ∷ gaps_of o.back),
      length-append (gaps_of o.front) (gaps_of o.back),
    )

-- the heap with the new block, after the remainder of the gap, if there is one, entered the tree
pub record Planted (c e : WindowState) (at len wanted : ℕ) (role : Role) : Type 0 where
  pub live : EncodesLiveSet current e.bytes
      (added (live_of c.bytes) (record { offset = at; len = share len wanted; role = role }))
  pub keeps : KeepsBlocks c e (live_of c.bytes).extents
  pub black : is_red (bytes_of e.bytes) (at + 16) ≡ false

-- The state after the front of the gap is in use. If the gap was cut, the remainder is not in the tree yet, which
-- contains all others.
pub record Taken (c new : WindowState) (at len wanted : ℕ) (role : Role) (is_cut : Bool) : Type 0 where
  pub front : List Gap
  pub gap : Gap
  pub back : List Gap
  pub node : at + wanted + 16 ≡ node_of gap
  pub count : length (gaps_in c) ≡ length (front ++ back) + 1
  pub lacks : is_cut ≡ true → LacksGap new front gap back
  pub whole : is_cut ≡ false → Planted c new at len wanted role
  pub planted : is_cut ≡ true → (e : WindowState) → HasGapTree e (front ++ (gap ∷ back)) → ChangesGapTree new e
      → Planted c e at len wanted role

module _ (c : WindowState) (at len : ℕ) (o : IsUnlinkedGap c at len) (wanted : ℕ) (role : Role) where
  says_c : SaysHeap c (tiles_in c)
  says_c = tree_says c (gaps_of o.front ++ gaps_of o.back) o.tree

  said_c : EncodesTiles c (o.front ++ (o.tile ∷ o.back))
  said_c = subst (EncodesTiles c) o.list says_c.said

  away : Away at o.front
  away = subst (λ k. Away k o.front) o.offset (away_front 128 o.front o.tile o.back (length c.bytes - 16)
      (said_row c (o.front ++ (o.tile ∷ o.back)) said_c))

  gap_node : GapNode c (at + 16)
  gap_node = record {
    good = is_good-IsGoodHeap c o.tree.good;
    listed = listed_at (tiles_in c) (at + 16) (record {
      front = o.front;
      tile = o.tile;
      back = o.back;
      list = o.list;
      free = o.free;
      at = ap (λ k. k + 16) o.offset;
    });
  }

  -- the tile can be black
  pub colour_may : MayHaveColour c at false
  colour_may = gap_may c (at + 16) at false gap_node refl

  abbrev g1 : Tile
  g1 = record o.tile { red = false }

  module _ {c1 : WindowState} (paint : ChangesTags c c1 (with_red_at at false)) where
    step1 : TagStep c c1 (o.front ++ (o.tile ∷ o.back)) (o.front ++ (g1 ∷ o.back))
    step1 = tag_step (o.front ++ (o.tile ∷ o.back)) (o.front ++ (g1 ∷ o.back)) said_c
        (changed_at-around at o.tile o.back o.offset (of_colour false) o.front away) paint

    tiles1 : tiles_in c1 ≡ o.front ++ (g1 ∷ o.back)
    tiles1 = tiles_are_read_off c1 (o.front ++ (g1 ∷ o.back)) step1.says

    says1 : SaysHeap c1 (tiles_in c1)
    says1 = says_of c1 (o.front ++ (g1 ∷ o.back)) step1.says
        (apart_recoloured false o.front o.tile false o.back (subst (Apart false) o.list says_c.apart))

    -- the gap, which is black now
    abbrev black_gap : HasBlackGap c1 at
    black_gap = record {
      says = says1;
      front = o.front;
      tile = g1;
      back = o.back;
      list = tiles1;
      free = o.free;
      black = refl;
      at = o.offset;
    }

    live1 : live_of c1.bytes ≡ live_of c.bytes
    unfolding live_of
    live1 =
        let e = ap extents_of tiles1 ∙ extents_recoloured o.front o.tile false o.back ∙ ap extents_of (sym o.list) in
        let n = step1.same.size in
        λ i. record { size = n i; extents = e i }

    keeps1 : KeepsBlocks c c1 (live_of c.bytes).extents
    unfolding live_of
    keeps1 =
        subst (λ (xs : List Extent). KeepsBlocks c c1 xs)
        (sym (ap extents_of o.list ∙ extents_of-append o.front (o.tile ∷ o.back)
        ∙ ap (λ (xs : List Extent). extents_of o.front ++ xs) (extents_of-free o.tile o.back o.free)))
        (around_keeps o.front (o.tile ∷ []) (g1 ∷ []) o.back step1)

    -- the conditions of the cut
    pub cut_stands : HasTileAt c1 at
    cut_stands = taking_stands black_gap wanted role

    module _ {c2 : WindowState} (cuts : ChangesTags c1 c2 (cut_at at wanted)) where
      pub use_may : CanTakeUse c2 at (Some role)
      use_may = taking_used black_gap wanted role cuts

      module _ {c3 : WindowState} (changes : ChangesTags c2 c3 (with_use_at at (Some role))) where
        abbrev left : List Tile
        left = (taken_cuts black_gap wanted role).left

        abbrev cut_tile : Tile
        cut_tile = record g1 { len = share g1.len wanted }

        abbrev block : Tile
        block = record g1 { len = share g1.len wanted; use_of = Some role }

        abbrev step2 : TagStep c1 c2 (o.front ++ (g1 ∷ o.back)) (o.front ++ (cut_tile ∷ (left ++ o.back)))
        step2 = mid_step black_gap wanted role cuts

        abbrev step3 : TagStep c2 c3 (o.front ++ (cut_tile ∷ (left ++ o.back))) (o.front ++ (block ∷ (left ++ o.back)))
        step3 = new_step black_gap wanted role cuts changes

        tiles3 : tiles_in c3 ≡ o.front ++ (block ∷ (left ++ o.back))
        tiles3 = tiles_are_read_off c3 (o.front ++ (block ∷ (left ++ o.back))) step3.says

        says3 : SaysHeap c3 (tiles_in c3)
        says3 = taken_says black_gap wanted role cuts changes

        keeps3 : KeepsBlocks c c3 (live_of c.bytes).extents
        keeps3 = keeps-trans c c1 c3 (live_of c.bytes).extents keeps1
            (subst (λ (l : LiveSet). KeepsBlocks c1 c3 l.extents) live1
            (taken_keeps black_gap wanted role cuts changes))

        -- the live set with the block
        live3 : live_of c3.bytes ≡ added (live_of c.bytes) (record { offset = at; len = share len wanted; role = role })
        unfolding live_of
        live3 =
            let n = step3.same.size ∙ step2.same.size ∙ step1.same.size in
            let x : Extent = record { offset = g1.offset; len = share g1.len wanted; role = role } in
            let e = ap extents_of tiles3 ∙ new_extents black_gap wanted role cuts changes
            ∙ ap (λ (l : LiveSet). insert x l.extents) live1 in
            let where_ = o.offset in let long_ = o.len_is in
            (λ i. record { size = n i; extents = e i })
            ∙ (λ i. added (live_of c.bytes) (record { offset = where_ i; len = share (long_ i) wanted; role = role }))

        -- the fields of the other gaps stay
        other_cell : (m : ℕ) → is_in m (payloads (gaps_of o.front ++ gaps_of o.back)) ≡ true
            → cells_of (bytes_of c3.bytes) m ≡ cells_of (bytes_of c.bytes) m
        other_cell m i =
            let f = free_at (o.front ++ o.back) m
            (subst (λ (hs : List Gap). is_in m (payloads hs) ≡ true) (sym (gaps_of-append o.front o.back)) i) in
            let u = f.tile in
            let h : In u (o.front ++ o.back) = subst (λ (us : List Tile). In u us) (sym f.list)
            (in_around f.front u f.back) in
            let i1 = in_widened u o.front (g1 ∷ []) o.back h in
            let i2 = in_widened u o.front (cut_tile ∷ left) o.back h in
            step_cell step3 u m i2 (in_widened u o.front (block ∷ left) o.back h) f.at
            ∙ step_cell step2 u m i1 i2 f.at
            ∙ step_cell step1 u m (in_widened u o.front (o.tile ∷ []) o.back h) i1 f.at

        -- and the tree stays
        tree3 : IsTreeOf (bytes_of c3.bytes) 24 (payloads (sorted_gaps (gaps_of o.front ++ gaps_of o.back)))
        tree3 = gap_tree_stays (bytes_of c.bytes) (bytes_of c3.bytes) (gaps_of o.front ++ gaps_of o.back)
            (ap (target_of 24) (step_word step3 ∙ step_word step2 ∙ step_word step1)) other_cell o.tree.tree

        gaps3 : gaps_in c3 ≡ gaps_of o.front ++ (gaps_of left ++ gaps_of o.back)
        gaps3 =
            ap gaps_of tiles3 ∙ gaps_of-append o.front (block ∷ (left ++ o.back))
            ∙ ap (λ (hs : List Gap). gaps_of o.front ++ hs) (gaps_of-used block (left ++ o.back) role refl
            ∙ gaps_of-append left o.back)

        -- the case without a remainder
        kept_whole : nat_le (wanted + 32) g1.len ≡ false
            → EncodesLiveSet current c3.bytes
            (added (live_of c.bytes) (record { offset = at; len = share len wanted; role = role }))
        kept_whole e =
            let gs : gaps_in c3 ≡ gaps_of o.front ++ gaps_of o.back = gaps3
            ∙ ap (λ (ts : List Tile). gaps_of o.front ++ (gaps_of ts ++ gaps_of o.back))
            ((taken_cuts black_gap wanted role).keeps e) in
            subst (EncodesLiveSet current c3.bytes) live3
            (lays_out c3 says3
            (subst (λ (hs : List Gap). IsTreeOf (bytes_of c3.bytes) 24 (payloads (sorted_gaps hs))) (sym gs) tree3))

        abbrev rest : Tile
        rest = free_tile (g1.offset + wanted) (g1.len - wanted)

        -- the case with a remainder, which is a gap
        rest_lacks : nat_le (wanted + 32) g1.len ≡ true → LacksGap c3 (gaps_of o.front) (gap_of rest) (gaps_of o.back)
        rest_lacks e =
            record {
              said = says3.said;
              merged = Apart-is_merged false (tiles_in c3) says3.apart;
              gaps = gaps3 ∙ ap (λ (ts : List Tile). gaps_of o.front ++ (gaps_of ts ++ gaps_of o.back))
                  ((taken_cuts black_gap wanted role).splits e);
              tree = tree3;
            }

        module _ (e : WindowState) (planted : HasGapTree e (gaps_of o.front ++ (gap_of rest ∷ gaps_of o.back)))
            (regrown : ChangesGapTree c3 e) (split : nat_le (wanted + 32) g1.len ≡ true) where
          says_e : SaysHeap e (tiles_in e)
          says_e = tree_says e (gaps_of o.front ++ (gap_of rest ∷ gaps_of o.back)) planted

          planted_heap : Planted c e at len wanted role
          planted_heap =
              let i = used_stays block (tiles_in c3) (tiles_in e) regrown.tiles (used-not_free block role refl)
              (subst (λ (us : List Tile). In block us) (sym tiles3) (in_around o.front block (left ++ o.back))) in
              record {
                live = subst (EncodesLiveSet current e.bytes) live3
                    (planted_live c3 e (gaps_of o.front ++ (gap_of rest ∷ gaps_of o.back)) (rest_lacks split).gaps
                    planted regrown);
                keeps = keeps-trans c c3 e (live_of c.bytes).extents keeps3
                    (keeps-insert c3 e (record { offset = at; len = share len wanted; role = role })
                    (live_of c.bytes).extents (subst (λ (l : LiveSet). KeepsBlocks c3 e l.extents) live3
                    (regrown_keeps c3 e says3.said says_e.said regrown)));
                black = tile_colour e (tiles_in e) block (at + 16) says_e.said
                    (in_stands e (tiles_in e) block says_e.said i) (ap (λ k. k + 16) o.offset);
              }

        pub taken : (is_cut : Bool) → ((ts : List Tile) (u : Tile) → EncodesTiles c1 ts → tile_in ts at ≡ Some u
            → is_cut ≡ nat_le (wanted + 32) u.len) → Taken c c3 at len wanted role is_cut
        taken is_cut is =
            let hs = cut_stands in
            let split : nat_le (wanted + 32) g1.len ≡ is_cut =
            sym (is hs.tiles g1 hs.said (taking_is black_gap wanted role hs.tiles hs.said)) in
            record {
              front = gaps_of o.front;
              gap = gap_of rest;
              back = gaps_of o.back;
              node = (let e = o.offset in omega arith);
              count = out_count c at len o;
              lacks = λ yes. rest_lacks (split ∙ yes);
              whole = λ no. record {
                live = kept_whole (split ∙ no);
                keeps = keeps3;
                black = taken_black black_gap wanted role cuts changes;
              };
              planted = λ yes e tree regrown. planted_heap e tree regrown (split ∙ yes);
            }

-- the bounds of the gap
pub out_bounds : (c : WindowState) (at len : ℕ) → IsUnlinkedGap c at len → at + len ≤ 1073741824
out_bounds c at len o =
    let says = tree_says c (gaps_of o.front ++ gaps_of o.back) o.tree in
    let n = (legal_size (length c.bytes) says.said.size).high in
    let i : In o.tile (tiles_in c) = subst (λ (us : List Tile). In o.tile us) (sym o.list)
    (in_around o.front o.tile o.back) in
    let high = (row_lies 128 (tiles_in c) (length c.bytes - 16) o.tile (said_row c (tiles_in c) says.said) i).high in
    let a = o.offset in let b = o.len_is in omega arith
