-- A block that is freed becomes one gap with the gaps before and after it.
use Rattle.best_fit.proofs.Common.{◌≡◌, refl, sym, ap, subst, ◌∙◌, ℕ, ◌+◌, ◌-◌, Bool, true, false, List, [], ◌∷◌, ◌++◌}
use Rattle.best_fit.proofs.Common.{length, append_assoc, if◌then◌else◌, inl, inr, ◌⊎◌, Option, Some, None, both_ways}
use Rattle.best_fit.proofs.Common.{cond-true, cond-false, WindowState, Role, Tile, previous_in, last_in, first_in}
use Rattle.best_fit.proofs.Common.{gap_offset, next_in, same_Some, tile_in, with_use_at, with_red_at, used_for}
use Rattle.best_fit.proofs.Common.{of_colour, is_free, EncodesTiles, HasTileAt, CanTakeUse, MayHaveColour, Extent}
use Rattle.best_fit.proofs.Common.{others, released, KeepsBlocks, live_of, joined_before, joined_free_at}
use Rattle.best_fit.proofs.Common.{with_free_behind, cons_option, bytes_of, word_at, without_last, tiles_are_read_off}
use Rattle.best_fit.proofs.Common.{is_in, Gap, cells_of, payloads, as_gap, gap_of, gaps_of, gaps_in, tiles_in, start_of}
use Rattle.best_fit.proofs.tags.RowParts.{Away, last_in-EndsWith, is_free_option, last_free-last_in, apart_back}
use Rattle.best_fit.proofs.tags.RowParts.{apart_front, apart_joined, away_front, changed_at-around, last_free}
use Rattle.best_fit.proofs.tags.RowParts.{next_in-around, previous_in-around, tile_in-around}
use Rattle.best_fit.proofs.tags.Frames.{keeps-trans}
use Rattle.best_fit.proofs.tags.TileJoins.{JoinsTo, joins_to, extents_of-around, extents_of-around_free, others_between}
use Rattle.best_fit.proofs.tags.TileJoins.{rest_of}
use Rattle.best_fit.specs.Tiling.{ChangesTags}
use Rattle.std.specs.Prelude.{unwrap_or}
use Rattle.best_fit.proofs.tags.TagsAndLiveSet.{SaysHeap, said_row, says_of}
use Rattle.best_fit.proofs.tags.TileRows.{Apart, extents_of, extent_of, free-unused, gaps_of-append, unused, used}
use Rattle.best_fit.proofs.tags.TileRows.{use_cases, unused-free, gaps_of-free, gaps_of-used}
use Rattle.best_fit.proofs.tags.UnchangedTags.{In, TagStep, around_keeps, in_back, in_front, step_word, tag_step}
use Rattle.best_fit.proofs.gaps.Nodes.{free_at, in_around}
use Rattle.best_fit.proofs.gaps.Setters.{step_cell}

-- ---- a free tile that is joined with the one before it

-- the gaps of a list without its last tile, if that tile is in use or there is none
gaps-last_used : (front : List Tile) → last_free false front ≡ false → gaps_of front ≡ gaps_of (without_last front)
gaps-last_used [] e = refl
gaps-last_used (t ∷ []) e = elim (use_cases t) [
  | unused f ↦ absurd (both_ways (is_free t) e (unused-free t f))
  | used role f ↦ gaps_of-used t [] role f
]
gaps-last_used (t ∷ u ∷ ts) e = ap (cons_option (as_gap t)) (gaps-last_used (u ∷ ts) e)

in-without_last : (u : Tile) (ts : List Tile) → In u (without_last ts) → In u ts
in-without_last u [] h = absurd h
in-without_last u (t ∷ []) h = absurd h
in-without_last u (t ∷ v ∷ ts) (inl e) = inl e
in-without_last u (t ∷ v ∷ ts) (inr h) = inr (in-without_last u (v ∷ ts) h)

without_last-append : (ts : List Tile) (p : Tile) → without_last (ts ++ (p ∷ [])) ≡ ts
without_last-append [] p = refl
without_last-append (t ∷ []) p = refl
without_last-append (t ∷ u ∷ ts) p = ap (λ (us : List Tile). t ∷ us) (without_last-append (u ∷ ts) p)

start_used : (o : Option Tile) (at : ℕ) → is_free_option o ≡ false → at ≡ start_of o at
start_used None at e = refl
start_used (Some t) at e = sym (ap (λ (o : Option ℕ). unwrap_or o at) (cond-false (is_free t) (Some t.offset) None e))

pub record Ended (mid : WindowState) (front : List Tile) (x : Tile) (left : List Tile) : Type 0 where
  pub list : List Tile
  pub is : joined_before x.offset (front ++ (x ∷ left)) ≡ list
  pub apart : Apart false list
  pub extents : extents_of list ≡ extents_of front ++ extents_of left
  pub front0 : List Tile
  pub whole : Tile
  pub shape : list ≡ front0 ++ (whole ∷ left)
  pub whole_free : whole.use_of ≡ None
  pub gaps0 : gaps_of front0 ≡ gaps_of (without_last front)
  pub init_in : (u : Tile) → In u (without_last front) → In u front0
  pub start : whole.offset ≡ start_of (last_in front) x.offset
  pub keeps : (new : WindowState) → TagStep mid new (front ++ (x ∷ left)) list
      → KeepsBlocks mid new (extents_of front ++ extents_of left)

module _ (mid : WindowState) (front : List Tile) (x : Tile) (left : List Tile)
    (said : EncodesTiles mid (front ++ (x ∷ left)))
    (free : x.use_of ≡ None)
    (front_apart : Apart false front) (left_apart : Apart true left) where
  away : Away x.offset front
  away = away_front 128 front x left (length mid.bytes - 16) (said_row mid (front ++ (x ∷ left)) said)

  is_of : (o : Option Tile) → previous_in (front ++ (x ∷ left)) x.offset ≡ o
      → joined_before x.offset (front ++ (x ∷ left)) ≡ elim o as (λ _. List Tile) [
        | None ↦ front ++ (x ∷ left)
        | Some p ↦ if is_free p then joined_free_at p.offset (front ++ (x ∷ left)) else front ++ (x ∷ left)
      ]
  is_of o e =
      ap (λ (q : Option Tile). elim q as (λ _. List Tile) [
        | None ↦ front ++ (x ∷ left)
        | Some p ↦ if is_free p then joined_free_at p.offset (front ++ (x ∷ left)) else front ++ (x ∷ left)
      ]) e

  x_free : is_free x ≡ true
  x_free = ap (λ (u : Option Role). is_free (record x { use_of = u })) free

  stays : last_free false front ≡ false → joined_before x.offset (front ++ (x ∷ left)) ≡ front ++ (x ∷ left)
      → Ended mid front x left
  stays no_free e =
      record {
        list = front ++ (x ∷ left);
        is = e;
        apart = apart_joined false front (x ∷ left) front_apart (
          λ last f. both_ways (last_free false front) no_free last,
          subst (λ (v : Bool). Apart v left)
              (sym x_free) left_apart,
        );
        extents = extents_of-around_free front x left free;
        front0 = front;
        whole = x;
        shape = refl;
        whole_free = free;
        gaps0 = gaps-last_used front no_free;
        init_in = λ u i. in-without_last u front i;
        start = start_used (last_in front) x.offset (sym (last_free-last_in front) ∙ no_free);
        keeps = λ new s. around_keeps front (x ∷ []) (x ∷ []) left s;
      }

  goes : (p : Tile) → is_free p ≡ true → last_in front ≡ Some p → joined_before x.offset (front ++ (x ∷ left))
      ≡ joined_free_at p.offset (front ++ (x ∷ left)) → Ended mid front x left
  goes p p_free last e =
      let ends = last_in-EndsWith front p last in
      let list : front ++ (x ∷ left) ≡ ends.front ++ (p ∷ (x ∷ left)) = ap (λ (ts : List Tile). ts ++ (x ∷ left))
      ends.list ∙ append_assoc ends.front (p ∷ []) (x ∷ left) in
      let said' : EncodesTiles mid (ends.front ++ (p ∷ (x ∷ left))) = subst (EncodesTiles mid) list said in
      let before = away_front 128 ends.front p (x ∷ left) (length mid.bytes - 16)
      (said_row mid (ends.front ++ (p ∷ (x ∷ left))) said') in
      let whole : Tile = record p { len = p.len + x.len } in
      let unused_p : p.use_of ≡ None = free-unused p p_free in
      let extents : extents_of front ≡ extents_of ends.front =
      ap extents_of ends.list ∙ extents_of-around_free ends.front p [] unused_p
      ∙ sym (append-none (extents_of ends.front)) in
      let ended : Apart false (ends.front ++ (p ∷ [])) = subst (Apart false) ends.list front_apart in
      record {
        list = ends.front ++ (whole ∷ left);
        is = e ∙ ap (joined_free_at p.offset) list ∙ changed_at-around p.offset p (x ∷ left) refl
            with_free_behind ends.front before
            ∙ ap (λ (ts : List Tile). ends.front ++ ts) (cond-true (is_free x) (whole ∷ left) (p ∷ x ∷ left) x_free);
        apart = apart_joined false ends.front (whole ∷ left) (apart_front false ends.front (p ∷ []) ended) (
          (apart_back false ends.front (p ∷ []) ended).0,
          subst (λ (v : Bool). Apart v left)
              (sym p_free) left_apart,
        );
        extents = extents_of-around_free ends.front whole left unused_p
            ∙ ap (λ xs. xs ++ extents_of left) (sym extents);
        front0 = ends.front;
        whole = whole;
        shape = refl;
        whole_free = unused_p;
        gaps0 = ap gaps_of (sym (ap without_last ends.list ∙ without_last-append ends.front p));
        init_in = λ u i. subst (λ (us : List Tile). In u us) (ap without_last ends.list
            ∙ without_last-append ends.front p) i;
        start = sym (ap (λ (o : Option Tile). start_of o x.offset) last
            ∙ ap (λ (o : Option ℕ). unwrap_or o x.offset) (cond-true (is_free p) (Some p.offset) None p_free));
        keeps = λ new s. subst (λ (xs : List Extent). KeepsBlocks mid new (xs ++ extents_of left)) (sym extents)
            (around_keeps ends.front (p ∷ x ∷ []) (whole ∷ []) left
            (subst (λ (ts : List Tile). TagStep mid new ts (ends.front ++ (whole ∷ left))) list s));
      }
    where
      append-none : (xs : List Extent) → xs ≡ xs ++ []
      append-none [] = refl
      append-none (y ∷ ys) = ap (λ zs. y ∷ zs) (append-none ys)

  by_free : (p : Tile) → last_in front ≡ Some p → (b : Bool) → is_free p ≡ b → Ended mid front x left
  by_free p last true e =
      goes p e last (is_of (Some p) (previous_in-around x.offset x left refl front away ∙ last)
      ∙ cond-true (is_free p) (joined_free_at p.offset (front ++ (x ∷ left))) (front ++ (x ∷ left)) e)
  by_free p last false e =
      stays (last_free-last_in front ∙ ap is_free_option last ∙ e)
      (is_of (Some p) (previous_in-around x.offset x left refl front away ∙ last)
      ∙ cond-false (is_free p) (joined_free_at p.offset (front ++ (x ∷ left))) (front ++ (x ∷ left)) e)

  by_last : (o : Option Tile) → last_in front ≡ o → Ended mid front x left
  by_last None last = stays (last_free-last_in front ∙ ap is_free_option last)
      (is_of None (previous_in-around x.offset x left refl front away ∙ last))
  by_last (Some p) last = by_free p last (is_free p) refl

  ended : Ended mid front x left
  ended = by_last (last_in front) refl

-- ---- the four steps

-- a tile after the first is in the list
pub in_rest : (u : Tile) (ts : List Tile) → In u (rest_of ts) → In u ts
in_rest u [] h = absurd h
in_rest u (t ∷ ts) h = inr h

in_either : (u : Tile) (xs ys : List Tile) → In u (xs ++ ys) → In u xs ⊎ In u ys
in_either u [] ys h = inr h
in_either u (x ∷ xs) ys (inl e) = inl (inl e)
in_either u (x ∷ xs) ys (inr h) = elim (in_either u xs ys h) [ inl a ↦ inl (inr a) | inr b ↦ inr b ]

-- a tile of two parts is in wider ones
pub in_parts_wide : (u : Tile) (xs ys front mid back : List Tile) → (In u xs → In u front) → (In u ys → In u back)
    → In u (xs ++ ys) → In u (front ++ (mid ++ back))
in_parts_wide u xs ys front mid back f g h =
    elim (in_either u xs ys h) [
      | inl a ↦ in_front u front (mid ++ back) (f a)
      | inr b ↦ in_back u front (mid ++ back) (in_back u mid back (g b))
    ]

-- the tags describe one list
pub one_list : (c : WindowState) (ts us : List Tile) → EncodesTiles c ts → EncodesTiles c us → ts ≡ us
one_list c ts us said told = sym (tiles_are_read_off c ts said) ∙ tiles_are_read_off c us told

-- the state after the block at an offset, between these tiles, became one gap with the gaps before and after it
pub record Freed (old new : WindowState) (at : ℕ) (front0 back0 : List Tile) : Type 0 where
  pub whole : Tile
  pub says : SaysHeap new (tiles_in new)
  pub keeps : KeepsBlocks old new (others (at + 16) (live_of old.bytes).extents)
  pub live : live_of new.bytes ≡ released (live_of old.bytes) (at + 16)
  pub gaps : gaps_in new ≡ gaps_of (without_last front0) ++ (gap_of whole ∷ gaps_of (rest_of back0))
  pub start : whole.offset ≡ start_of (last_in front0) at
  pub word : word_at (bytes_of new.bytes) 24 ≡ word_at (bytes_of old.bytes) 24
  pub cell : (m : ℕ) → is_in m (payloads (gaps_of (without_last front0) ++ gaps_of (rest_of back0))) ≡ true
      → cells_of (bytes_of new.bytes) m ≡ cells_of (bytes_of old.bytes) m

-- a window with good tags, and its tile in use at an offset
pub record HasUsed (c : WindowState) (place : ℕ) : Type 0 where
  pub says : SaysHeap c (tiles_in c)
  pub front : List Tile
  pub tile : Tile
  pub back : List Tile
  pub role : Role
  pub list : tiles_in c ≡ front ++ (tile ∷ back)
  pub in_use : tile.use_of ≡ Some role
  pub at : tile.offset ≡ place

-- the blocks around two tiles that are joined stay
pub joined_keeps : {old new : WindowState} (front : List Tile) (x y : Tile) (back : List Tile) (j : JoinsTo x back)
    → TagStep old new (front ++ (x ∷ back)) (front ++ (y ∷ j.left))
    → KeepsBlocks old new (extents_of front ++ extents_of back)
joined_keeps {old} {new} front x y back j s =
    subst (KeepsBlocks old new) (ap (λ xs. extents_of front ++ xs) (sym j.extents))
    (around_keeps front (x ∷ j.gone) (y ∷ []) j.left
    (subst (λ (ts : List Tile). TagStep old new (front ++ (x ∷ ts)) (front ++ (y ∷ j.left))) j.list s))

-- what the tags say of a tile at an offset at which no tile before it begins
module _ {c : WindowState} {at : ℕ} (front : List Tile) (away : Away at front) (t : Tile) (back : List Tile)
    (o : t.offset ≡ at) (told : EncodesTiles c (front ++ (t ∷ back))) where
  -- the tile is the one at its offset in each list of the tags
  pub tile_at_is : (ts : List Tile) → EncodesTiles c ts → tile_in ts at ≡ Some t
  tile_at_is ts said = ap (λ (us : List Tile). tile_in us at) (one_list c ts (front ++ (t ∷ back)) said told)
      ∙ tile_in-around at t back o front away

  -- a tile is at this offset
  pub stands_at : HasTileAt c at
  stands_at = record {
    tiles = front ++ (t ∷ back);
    said = told;
    tile = t;
    stands = tile_in-around at t back o front away;
  }

  -- the gap after it is the first tile behind
  pub behind_at : (ts : List Tile) → EncodesTiles c ts → gap_offset (next_in ts at) ≡ gap_offset (first_in back)
  behind_at ts said =
      ap (λ (us : List Tile). gap_offset (next_in us at)) (one_list c ts (front ++ (t ∷ back)) said told)
      ∙ ap gap_offset (next_in-around at t back o front away)

module _ {old : WindowState} {at : ℕ} (p : HasUsed old at) where
  -- the tags describe the tile between the others
  pub used_said : EncodesTiles old (p.front ++ (p.tile ∷ p.back))
  used_said = subst (EncodesTiles old) p.list p.says.said

  -- no two free tiles are neighbours
  pub used_apart : Apart false (p.front ++ (p.tile ∷ p.back))
  used_apart = subst (Apart false) p.list p.says.apart

  -- no tile before it begins where it does
  pub used_away : Away at p.front
  used_away = subst (λ k. Away k p.front) p.at (away_front 128 p.front p.tile p.back (length old.bytes - 16)
      (said_row old (p.front ++ (p.tile ∷ p.back)) used_said))

  -- the other blocks are those of the tiles before and after it
  pub used_others : others (at + 16) (live_of old.bytes).extents ≡ extents_of p.front ++ extents_of p.back
  unfolding live_of
  used_others =
      ap (others (at + 16)) (ap extents_of p.list ∙ extents_of-around p.front p.tile p.back p.role p.in_use)
      ∙ others_between 128 p.front p.tile p.back (length old.bytes - 16) (extent_of p.tile p.role) (at + 16)
      (said_row old (p.front ++ (p.tile ∷ p.back)) used_said) refl (ap (λ k. k + 16) p.at)

  abbrev black : Tile
  black = record p.tile { red = false }

  abbrev unused_tile : Tile
  unused_tile = record p.tile { red = false; use_of = None }

  joins : JoinsTo (record p.tile { red = false; use_of = None }) p.back
  joins = joins_to (record p.tile { red = false; use_of = None }) p.back

  -- any tile can be black
  pub colour_may : MayHaveColour old at false
  colour_may = record {
    tiles = p.front ++ (p.tile ∷ p.back);
    said = used_said;
    tile = p.tile;
    stands = tile_in-around at p.tile p.back p.at p.front used_away;
    colour = refl;
  }

  module _ {one : WindowState} (paint : ChangesTags old one (with_red_at at false)) where
    step1 : TagStep old one (p.front ++ (p.tile ∷ p.back)) (p.front ++ (black ∷ p.back))
    step1 = tag_step (p.front ++ (p.tile ∷ p.back)) (p.front ++ (black ∷ p.back)) used_said
        (changed_at-around at p.tile p.back p.at (of_colour false) p.front used_away) paint

    -- and a black one free
    pub use_may : CanTakeUse one at None
    use_may = record {
      tiles = p.front ++ (black ∷ p.back);
      said = step1.says;
      tile = black;
      stands = tile_in-around at black p.back p.at p.front used_away;
      colour = refl;
    }

    module _ {two : WindowState} (change : ChangesTags one two (with_use_at at None)) where
      step2 : TagStep one two (p.front ++ (black ∷ p.back)) (p.front ++ (unused_tile ∷ p.back))
      step2 = tag_step (p.front ++ (black ∷ p.back)) (p.front ++ (unused_tile ∷ p.back)) step1.says
          (changed_at-around at black p.back p.at (used_for None) p.front used_away) change

      -- a tile is at this offset
      pub stands2 : HasTileAt two at
      stands2 = stands_at p.front used_away unused_tile p.back p.at step2.says

      -- and the gap after it where that stood
      pub behind2 : (ts : List Tile) → EncodesTiles two ts → gap_offset (next_in ts at) ≡ gap_offset (first_in p.back)
      behind2 = behind_at p.front used_away unused_tile p.back p.at step2.says

      module _ {three : WindowState} (join : ChangesTags two three (joined_free_at at)) where
        abbrev joined : Tile
        joined = record unused_tile { len = p.tile.len + joins.gap }

        step3 : TagStep two three (p.front ++ (unused_tile ∷ p.back)) (p.front ++ (joined ∷ joins.left))
        step3 = tag_step (p.front ++ (unused_tile ∷ p.back)) (p.front ++ (joined ∷ joins.left)) step2.says
            (changed_at-around at unused_tile p.back p.at with_free_behind p.front used_away
            ∙ ap (λ (ts : List Tile). p.front ++ ts) joins.is) join

        pub stands3 : HasTileAt three at
        stands3 = stands_at p.front used_away joined joins.left p.at step3.says

        -- the tile is free
        pub free3 : (ts : List Tile) (t : Tile) → EncodesTiles three ts → tile_in ts at ≡ Some t → is_free t ≡ true
        free3 ts t said e = ap is_free (same_Some t joined (sym e
            ∙ tile_at_is p.front used_away joined joins.left p.at step3.says ts said))

        -- and the gap before it where that stood
        pub before3 : (ts : List Tile) → EncodesTiles three ts
            → gap_offset (previous_in ts at) ≡ gap_offset (last_in p.front)
        before3 ts said =
            ap (λ (us : List Tile). gap_offset (previous_in us at))
            (one_list three ts (p.front ++ (joined ∷ joins.left)) said step3.says)
            ∙ ap gap_offset (previous_in-around at joined joins.left p.at p.front used_away)

        module _ {new : WindowState} (last : ChangesTags three new (joined_before at)) where
          last_step : Ended three p.front joined joins.left
          last_step = ended three p.front joined joins.left step3.says refl
              (apart_front false p.front (p.tile ∷ p.back) used_apart)
              (joins.apart (is_free p.tile) (apart_back false p.front (p.tile ∷ p.back) used_apart).1)

          step4 : TagStep three new (p.front ++ (joined ∷ joins.left)) last_step.list
          step4 = tag_step (p.front ++ (joined ∷ joins.left)) last_step.list step3.says
              (ap (λ k. joined_before k (p.front ++ (joined ∷ joins.left))) (sym p.at) ∙ last_step.is) last

          all_keeps : KeepsBlocks old new (extents_of p.front ++ extents_of p.back)
          all_keeps =
              let xs = extents_of p.front ++ extents_of p.back in
              keeps-trans old three new xs
              (keeps-trans old two three xs (keeps-trans old one two xs
              (around_keeps p.front (p.tile ∷ []) (black ∷ []) p.back step1)
              (around_keeps p.front (black ∷ []) (unused_tile ∷ []) p.back step2))
              (joined_keeps p.front unused_tile joined p.back joins step3))
              (subst (λ zs. KeepsBlocks three new (extents_of p.front ++ zs)) (sym joins.extents)
              (last_step.keeps new step4))

          -- the live set without the block
          left_live : live_of new.bytes ≡ released (live_of old.bytes) (at + 16)
          unfolding live_of
          left_live =
              let size = step4.same.size ∙ step3.same.size ∙ step2.same.size ∙ step1.same.size in
              let extents = ap extents_of (tiles_are_read_off new last_step.list step4.says) ∙ last_step.extents
              ∙ ap (λ xs. extents_of p.front ++ xs) (sym joins.extents) ∙ sym used_others in
              λ i. record { size = size i; extents = extents i }

          -- the gaps are the old ones without the two neighbours, and the new one
          left_gaps : gaps_in new ≡ gaps_of (without_last p.front)
              ++ (gap_of last_step.whole ∷ gaps_of (rest_of p.back))
          left_gaps =
              ap gaps_of (tiles_are_read_off new last_step.list step4.says ∙ last_step.shape)
              ∙ gaps_of-append last_step.front0 (last_step.whole ∷ joins.left)
              ∙ ap (λ (hs : List Gap). hs ++ gaps_of (last_step.whole ∷ joins.left)) last_step.gaps0
              ∙ ap (λ (hs : List Gap). gaps_of (without_last p.front) ++ hs)
              (gaps_of-free last_step.whole joins.left last_step.whole_free
              ∙ ap (λ (hs : List Gap). gap_of last_step.whole ∷ hs) joins.gaps)

          -- the fields of the other gaps stay
          left_cell : (m : ℕ) → is_in m (payloads (gaps_of (without_last p.front) ++ gaps_of (rest_of p.back))) ≡ true
              → cells_of (bytes_of new.bytes) m ≡ cells_of (bytes_of old.bytes) m
          left_cell m i =
              let f = free_at (without_last p.front ++ rest_of p.back) m
              (subst (λ (hs : List Gap). is_in m (payloads hs) ≡ true)
              (sym (gaps_of-append (without_last p.front) (rest_of p.back))) i) in
              let u = f.tile in
              let h : In u (without_last p.front ++ rest_of p.back) = subst (λ (us : List Tile). In u us) (sym f.list)
              (in_around f.front u f.back) in
              let wide : (mid : List Tile) → In u (p.front ++ (mid ++ p.back)) = λ mid. in_parts_wide u
              (without_last p.front) (rest_of p.back) p.front mid p.back (in-without_last u p.front)
              (in_rest u p.back) h in
              let i3 : In u (p.front ++ (joined ∷ joins.left)) = in_parts_wide u (without_last p.front)
              (rest_of p.back) p.front (joined ∷ []) joins.left (in-without_last u p.front) (joins.rest_in u) h in
              let i4 : In u last_step.list = subst (λ (us : List Tile). In u us) (sym last_step.shape)
              (in_parts_wide u (without_last p.front) (rest_of p.back) last_step.front0 (last_step.whole ∷ [])
              joins.left (last_step.init_in u) (joins.rest_in u) h) in
              let i1 = wide (black ∷ []) in let i2 = wide (unused_tile ∷ []) in
              step_cell step4 u m i3 i4 f.at ∙ step_cell step3 u m i2 i3 f.at ∙ step_cell step2 u m i1 i2 f.at
              ∙ step_cell step1 u m (wide (p.tile ∷ [])) i1 f.at

          pub freed : Freed old new at p.front p.back
          freed = record {
            whole = last_step.whole;
            says = says_of new last_step.list step4.says last_step.apart;
            keeps = subst (KeepsBlocks old new) (sym used_others) all_keeps;
            live = left_live;
            gaps = left_gaps;
            start = last_step.start ∙ ap (start_of (last_in p.front)) p.at;
            word = step_word step4 ∙ step_word step3 ∙ step_word step2 ∙ step_word step1;
            cell = left_cell;
          }
