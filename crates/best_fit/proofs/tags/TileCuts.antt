-- A list after a tile is cut, or joined with a free one after it, by the tile that was read.
use Rattle.best_fit.proofs.Common.{◌≡◌, refl, sym, ap, subst, ◌∙◌, ℕ, ◌+◌, ◌-◌, ◌<◌, ◌≤◌, List, [], ◌∷◌, ◌++◌, length}
use Rattle.best_fit.proofs.Common.{append_assoc, nat_lt, Option, Some, None, cond-true, cond-false, lt-ltb}
use Rattle.best_fit.proofs.Common.{le-ltb, WindowState, Tile, first_in, in_two, next_in, previous_in, tile_in, is_free}
use Rattle.best_fit.proofs.Common.{HasFreeNext, HasTileAt, EncodesTiles, SameExceptTags, one_tile_at_an_offset}
use Rattle.best_fit.proofs.Common.{cut_to, gap_offset}
use Rattle.best_fit.proofs.Common.{joined_free_at, with_free_behind, none-some, same_Some, true, false, if◌then◌else◌}
use Rattle.block_tags.specs.Lists.{in_one, joined_at, split_at}
use Rattle.block_tags.proofs.Laws.{tile_stands_in_list}
use Rattle.best_fit.specs.Tiling.{ChangesTags, cut_at}
use Rattle.best_fit.proofs.tags.RowParts.{EndsWith, away_front, last_in-EndsWith, next_in-around}
use Rattle.best_fit.proofs.tags.TagsAndLiveSet.{said_row}
use Rattle.best_fit.proofs.tags.TileRows.{unused, used, use_cases, unused-free, used-not_free}

-- a change of tags is another one whose lists are the same
pub changes_as : {old new : WindowState} {f g : List Tile → List Tile} → ((ts : List Tile) → EncodesTiles old ts
    → f ts ≡ g ts) → ChangesTags old new g → ChangesTags old new f
changes_as {old} {new} e c = record {
  tags = λ ts said. subst (EncodesTiles new) (sym (e ts said)) (c.tags ts said);
  frame = λ ts said. subst (SameExceptTags old new ts) (sym (e ts said)) (c.frame ts said);
}

-- no tag changes
pub same_tags : (c : WindowState) → ChangesTags c c (λ ts. ts)
same_tags c = record {
  tags = λ ts said. said;
  frame = λ ts said. record { place = record { before = refl; after = refl }; size = refl; bytes = λ k a b l. refl };
}

-- a tile that is long enough is cut in two
pub cut_list : (ts : List Tile) (at len : ℕ) (t : Tile) → tile_in ts at ≡ Some t → len + 32 ≤ t.len
    → cut_at at len ts ≡ split_at at len ts
cut_list ts at len t e l =
    let s = tile_stands_in_list ts at t e in
    s.changed (cut_to len) ∙ ap (λ (us : List Tile). s.prefix ++ us)
    (cond-false (nat_lt t.len (len + 32)) (t ∷ s.back) (in_two len t s.back) (le-ltb t.len (len + 32) l))
    ∙ sym (s.changed (in_two len))

-- a shorter one stays
pub kept_list : (ts : List Tile) (at len : ℕ) (t : Tile) → tile_in ts at ≡ Some t
    → t.len < len + 32 → cut_at at len ts ≡ ts
kept_list ts at len t e l =
    let s = tile_stands_in_list ts at t e in
    s.changed (cut_to len) ∙ ap (λ (us : List Tile). s.prefix ++ us)
    (cond-true (nat_lt t.len (len + 32)) (t ∷ s.back) (in_two len t s.back) (lt-ltb t.len (len + 32) l))
    ∙ sym s.is

-- ---- the tile after

-- a tile that is read, and is free
pub record ReadGap (o : Option Tile) (at : ℕ) : Type 0 where
  pub tile : Tile
  pub is : o ≡ Some tile
  pub free : is_free tile ≡ true
  pub offset : tile.offset ≡ at

-- at the offset of a gap there is a free tile
pub read_gap : (o : Option Tile) (at : ℕ) → gap_offset o ≡ Some at → ReadGap o at
read_gap None at e = absurd (none-some at e)
read_gap (Some t) at e = elim (use_cases t) [
  | unused f ↦ record {
    tile = t;
    is = refl;
    free = unused-free t f;
    offset = same_Some t.offset at (sym (cond-true (is_free t) (Some t.offset) None (unused-free t f)) ∙ e);
  }
  | used role f ↦ absurd (none-some at (sym (cond-false (is_free t) (Some t.offset) None (used-not_free t role f)) ∙ e))
]

-- no other tile is free
pub no_free_tile : (t : Tile) → gap_offset (Some t) ≡ None → is_free t ≡ false
no_free_tile t e = elim (use_cases t) [
  | unused f ↦ absurd (none-some t.offset
      (sym e ∙ cond-true (is_free t) (Some t.offset) None (unused-free t f)))
  | used role f ↦ used-not_free t role f
]

join_cases : (t : Tile) (back : List Tile) (at : ℕ) → gap_offset (first_in back) ≡ Some at
    → with_free_behind t back ≡ in_one t back
join_cases t [] at e = absurd (none-some at e)
join_cases t (u ∷ back) at e =
    let f = read_gap (Some u) at e in
    cond-true (is_free u) (record t { len = t.len + u.len } ∷ back) (t ∷ u ∷ back)
    (ap is_free (same_Some u f.tile f.is) ∙ f.free)

-- a free tile after this one is joined with it
pub joined_list : (ts : List Tile) (at : ℕ) (t : Tile) (gap : ℕ) → tile_in ts at ≡ Some t
    → gap_offset (next_in ts at) ≡ Some gap → joined_free_at at ts ≡ joined_at at ts
joined_list ts at t gap e is =
    let s = tile_stands_in_list ts at t e in
    s.changed with_free_behind
    ∙ ap (λ (us : List Tile). s.prefix ++ us) (join_cases t s.back gap (ap gap_offset (sym s.next) ∙ is))
    ∙ sym (s.changed in_one)

unjoined_cases : (t : Tile) (back : List Tile) → gap_offset (first_in back) ≡ None → with_free_behind t back ≡ t ∷ back
unjoined_cases t [] e = refl
unjoined_cases t (u ∷ back) e =
    cond-false (is_free u) (record t { len = t.len + u.len } ∷ back) (t ∷ u ∷ back) (no_free_tile u e)

-- and nothing is joined if there is no free tile
pub unjoined_list : (ts : List Tile) (at : ℕ) (t : Tile) → tile_in ts at ≡ Some t → gap_offset (next_in ts at) ≡ None
    → joined_free_at at ts ≡ ts
unjoined_list ts at t e none =
    let s = tile_stands_in_list ts at t e in
    s.changed with_free_behind
    ∙ ap (λ (us : List Tile). s.prefix ++ us) (unjoined_cases t s.back (ap gap_offset (sym s.next) ∙ none)) ∙ sym s.is

-- a free tile follows
pub free_next : (c : WindowState) (at gap : ℕ) → (h : HasTileAt c at) → gap_offset (next_in h.tiles at) ≡ Some gap
    → HasFreeNext c at
free_next c at gap h e =
    let f = read_gap (next_in h.tiles at) gap e in
    record {
      tiles = h.tiles;
      said = h.said;
      tile = h.tile;
      stands = h.stands;
      next = f.tile;
      behind = f.is;
      free = f.free;
    }

-- ---- the tile before

-- the gap before is joined with its next one
pub joined_after : (o : Option Tile) (ts : List Tile) (at : ℕ) → gap_offset o ≡ Some at
    → elim o as (λ _. List Tile) [
      | None ↦ ts
      | Some p ↦ if is_free p then joined_free_at p.offset ts else ts
    ] ≡ joined_free_at at ts
joined_after None ts at e = absurd (none-some at e)
joined_after (Some p) ts at e =
    let f = read_gap (Some p) at e in let same = same_Some p f.tile f.is in
    cond-true (is_free p) (joined_free_at p.offset ts) ts (ap is_free same ∙ f.free)
    ∙ ap (λ k. joined_free_at k ts) (ap (λ (t : Tile). t.offset) same ∙ f.offset)

-- without a free tile the list stays
pub not_joined : (o : Option Tile) (ts : List Tile) → gap_offset o ≡ None
    → elim o as (λ _. List Tile) [
      | None ↦ ts
      | Some p ↦ if is_free p then joined_free_at p.offset ts else ts
    ] ≡ ts
not_joined None ts e = refl
not_joined (Some p) ts e = cond-false (is_free p) (joined_free_at p.offset ts) ts (no_free_tile p e)

after_cases : (front : List Tile) (p : Tile) → EndsWith front p → (c : WindowState) (t : Tile) (back : List Tile)
    → EncodesTiles c (front ++ (t ∷ back)) → next_in (front ++ (t ∷ back)) p.offset ≡ Some t
after_cases front p ends c t back said =
    let list : front ++ (t ∷ back) ≡ ends.front ++ (p ∷ (t ∷ back)) = ap (λ (ts : List Tile). ts ++ (t ∷ back))
    ends.list ∙ append_assoc ends.front (p ∷ []) (t ∷ back) in
    let said' : EncodesTiles c (ends.front ++ (p ∷ (t ∷ back))) = subst (EncodesTiles c) list said in
    ap (λ (ts : List Tile). next_in ts p.offset) list
    ∙ next_in-around p.offset p (t ∷ back) refl ends.front
    (away_front 128 ends.front p (t ∷ back) (length c.bytes - 16)
    (said_row c (ends.front ++ (p ∷ (t ∷ back))) said'))

-- after the gap before a free tile comes this tile
pub gap_after_previous : (c : WindowState) (ts : List Tile) (at : ℕ) (t : Tile) (before : ℕ) → EncodesTiles c ts
    → tile_in ts at ≡ Some t → is_free t ≡ true → gap_offset (previous_in ts at) ≡ Some before
    → gap_offset (next_in ts before) ≡ Some at
gap_after_previous c ts at t before said e free is =
    let s = tile_stands_in_list ts at t e in
    let f = read_gap (previous_in ts at) before is in
    let next : next_in (s.prefix ++ (t ∷ s.back)) f.tile.offset ≡ Some t =
    after_cases s.prefix f.tile (last_in-EndsWith s.prefix f.tile (sym s.previous ∙ f.is)) c t s.back
    (subst (EncodesTiles c) s.is said) in
    ap gap_offset (ap (next_in ts) (sym f.offset) ∙ ap (λ (us : List Tile). next_in us f.tile.offset) s.is ∙ next)
    ∙ cond-true (is_free t) (Some t.offset) None free
    ∙ ap (λ k. let o : Option ℕ = Some k in o) s.offset

-- the tile before one
before_cases : (front : List Tile) (p : Tile) → EndsWith front p → (c : WindowState) (t : Tile) (back : List Tile)
    → EncodesTiles c (front ++ (t ∷ back)) → HasTileAt c p.offset
before_cases front p ends c t back said =
    let list : front ++ (t ∷ back) ≡ ends.front ++ (p ∷ (t ∷ back)) = ap (λ (ts : List Tile). ts ++ (t ∷ back))
    ends.list ∙ append_assoc ends.front (p ∷ []) (t ∷ back) in
    let said' : EncodesTiles c (ends.front ++ (p ∷ (t ∷ back))) = subst (EncodesTiles c) list said in
    record {
      tiles = ends.front ++ (p ∷ (t ∷ back));
      said = said';
      tile = p;
      stands = one_tile_at_an_offset c ends.front p (t ∷ back) said';
    }

-- the tile is in the list too
pub tile_before : (c : WindowState) (at : ℕ) (p : Tile) → (h : HasTileAt c at)
    → previous_in h.tiles at ≡ Some p → HasTileAt c p.offset
tile_before c at p h e =
    let s = tile_stands_in_list h.tiles at h.tile h.stands in
    before_cases s.prefix p (last_in-EndsWith s.prefix p (sym s.previous ∙ e)) c h.tile s.back
    (subst (EncodesTiles c) s.is h.said)
