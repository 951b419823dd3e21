-- The tiles of the tags after a tile is joined with the next one.
use Rattle.std.proofs.Common.{◌≡◌, sym, ap, subst, ◌∙◌, ℕ, ◌+◌, ◌-◌, ◌%◌, ◌<◌, ◌≤◌, ◌⊎◌, inl, inr, Some, None, List, []}
use Rattle.std.proofs.Common.{◌∷◌, length, arith}
use Rattle.std.specs.Prelude.{Option}
use Rattle.std.proofs.lemmas.Option.{same_Some, none-some}
use Rattle.raw_region.specs.Memory.{WindowState, SameBytes, word_at, bytes_of}
use Rattle.raw_region.specs.Format.{current}
use Rattle.raw_region.proofs.Laws.{SameBytes-trans, SameBytes-word, SameSurroundings-trans}
use Rattle.block_tags.specs.declared.tile.Tile.{Tile}
use Rattle.block_tags.specs.Tiles.{AreTags, tag_word, tile_at}
use Rattle.block_tags.specs.Lists.{tile_in, first_in, next_in, in_one, joined_at, IsBesideTags}
use Rattle.block_tags.specs.Windows.{EncodesTiles, HasTileAt, HasFreeNext, SameExceptTags, WritesWord}
use Rattle.block_tags.proofs.tiles.ReadOff.{is_tile-IsWhole, tile_at-tag_word, AreTags-reaches}
use Rattle.block_tags.proofs.changes.WrittenWords.{put-word, put-SameBytes}
use Rattle.block_tags.proofs.tiles.TileInList.{Standing, is_tile-made, colour_of, retag, beside_head}
use Rattle.block_tags.proofs.tiles.TagsSayTiles.{fits, stands_in, stood, one_list}
use Rattle.block_tags.proofs.changes.WrittenTags.{changed_says, changed_rest}
use Rattle.block_tags.proofs.changes.Split.{beside_word}

-- ---- two words are written
-- the tile after, where the list has one
pub next_there : (o : Option Tile) (behind : List Tile) (u : Tile) → o ≡ Some u → o ≡ first_in behind
    → (us : List Tile) × (behind ≡ u ∷ us)
next_there o [] u g f = absurd (none-some u (sym f ∙ g))
next_there o (v ∷ vs) u g f = (vs, ap (λ (w : Tile). w ∷ vs) (same_Some v u (sym f ∙ g)))

module _ (c : WindowState) (at : ℕ) (h : HasFreeNext c at) (t : Tile) (e : t ≡ tile_at (bytes_of c.bytes) at) where
  -- the first of the two tiles is there
  pub there_to_join : HasTileAt c at
  there_to_join = record { tiles = h.tiles; said = h.said; tile = h.tile; stands = h.stands }

  -- the tile after it
  pub record Joins (v : Tile) (ts : List Tile) : Type 0 where
    pub stands : tile_in ts at ≡ Some t
    pub s : Standing current (bytes_of c.bytes) 128 0 None ts (length c.bytes - 16) at t
    pub rest : List Tile
    pub is : s.behind ≡ v ∷ rest
    pub low : 128 ≤ at
    pub long : 32 ≤ t.len
    pub more : 32 ≤ v.len
    pub whole : v.len % 16 ≡ 0
    pub room : at + t.len + v.len + 16 ≤ length c.bytes
    pub size : length c.bytes ≤ 1073741824

  -- two tiles that can be joined stand one after the other
  pub joins : (v : Tile) → v ≡ tile_at (bytes_of c.bytes) (at + t.len) → (ts : List Tile) → EncodesTiles c ts
      → Joins v ts
  joins v q ts said =
      let stands = stands_in c at there_to_join t e ts said in
      let s = stood c ts at t said stands in
      let f = fits c at there_to_join t e in
      let behind : next_in ts at ≡ Some h.next =
      ap (λ (us : List Tile). next_in us at) (one_list c h.tiles ts h.said said) ∙ h.behind in
      let n = next_there (next_in ts at) s.behind h.next behind s.next in
      let tags : AreTags current (bytes_of c.bytes) (at + t.len) t.len (h.next ∷ n.0) (length c.bytes - 16) =
      subst (λ (us : List Tile). AreTags current (bytes_of c.bytes) (at + t.len) t.len us (length c.bytes - 16)) n.1
      s.tags.4 in
      let whole = (is_tile-IsWhole current h.next tags.1).whole in let long =
      (is_tile-IsWhole current h.next tags.1).long in
      let same : v ≡ h.next = q ∙ tile_at-tag_word (bytes_of c.bytes) (at + t.len) h.next tags.0 whole tags.3 in
      let len : v.len ≡ h.next.len = ap (λ (u : Tile). u.len) same in
      let on = AreTags-reaches current (bytes_of c.bytes) (at + t.len + h.next.len) h.next.len n.0
      (length c.bytes - 16) tags.4 in
      let low = f.low in let here = f.long in let size = f.size in let inside = f.room in
      record {
        stands = stands;
        s = s;
        rest = n.0;
        is = n.1 ∙ ap (λ (u : Tile). u ∷ n.0) (sym same);
        low = low;
        long = here;
        more = omega arith;
        whole = omega arith;
        room = omega arith;
        size = size;
      }

  module _ (c1 d : WindowState) (v : Tile) (q : v ≡ tile_at (bytes_of c.bytes) (at + t.len)) (x : ℕ)
      (f : x ≡ tag_word (record { offset = t.offset; len = t.len + v.len; use_of = t.use_of; red = t.red }))
      (p1 : WritesWord c c1 (at + 8) x) (p2 : WritesWord c1 d (at + (t.len + v.len)) (t.len + v.len))
      (ts : List Tile) (said : EncodesTiles c ts) where
    j : Joins v ts
    j = joins v q ts said

    stays : (from to : ℕ) → (to ≤ at + 8) ⊎ (at + t.len + v.len + 8 ≤ from)
        → SameBytes (bytes_of c.bytes) (bytes_of d.bytes) from to
    stays from to o =
        let long = j.long in let more = j.more in
        let s1 = put-SameBytes c c1 (at + 8) x p1 from to (elim o [
          | inl l ↦ inl (omega arith)
          | inr l ↦ inr (omega arith)
        ]) in
        let s2 = put-SameBytes c1 d (at + (t.len + v.len)) (t.len + v.len) p2 from to
        (elim o [ inl l ↦ inl (omega arith) | inr l ↦ inr (omega arith) ]) in
        SameBytes-trans (bytes_of c.bytes) (bytes_of c1.bytes) (bytes_of d.bytes) from to s1 s2

    joined_tags : (before : ℕ) (rest : List Tile) (end : ℕ)
        → AreTags current (bytes_of c.bytes) at before (t ∷ v ∷ rest) end
        → AreTags current (bytes_of d.bytes) at before (in_one t (v ∷ rest)) end
    joined_tags before rest end tags =
        let long = j.long in let more = j.more in let all = (is_tile-IsWhole current t tags.1).whole in let others =
        j.whole in let next = tags.4 in
        let onward : at + t.len + v.len ≡ at + (t.len + v.len) = omega arith in
        let last = retag current (bytes_of c.bytes) (bytes_of d.bytes) (at + t.len + v.len) v.len (t.len + v.len)
        rest end next.4 (stays (at + t.len + v.len + 8) (end + 16) (inr (omega arith)))
        (ap (λ (n : ℕ). word_at (bytes_of d.bytes) n) onward ∙ p2.word) in (
          tags.0,
          is_tile-made current t.offset (t.len + v.len) t.use_of t.red (omega arith) (omega arith)
              (colour_of current t tags.1),
          SameBytes-word (bytes_of c.bytes) (bytes_of d.bytes) at (at + 8) at
              (stays at (at + 8) (inl (omega arith))) (omega arith) (omega arith) ∙ tags.2,
          put-word c1 d (at + (t.len + v.len)) (t.len + v.len) p2 (at + 8) (inl (omega arith)) ∙ p1.word ∙ f,
          subst (λ (n : ℕ). AreTags current (bytes_of d.bytes) n (t.len + v.len) rest end) onward last,
        )

    size : length d.bytes ≡ length c.bytes
    size = p2.size ∙ p1.size

    -- the tags as the list has them
    now : AreTags current (bytes_of d.bytes) at j.s.before (in_one t j.s.behind) (length c.bytes - 16)
    now = subst (λ (us : List Tile).
        AreTags current (bytes_of d.bytes) at j.s.before (in_one t us) (length c.bytes - 16)) (sym j.is)
        (joined_tags j.s.before j.rest (length c.bytes - 16)
        (subst (λ (us : List Tile). AreTags current (bytes_of c.bytes) at j.s.before (t ∷ us) (length c.bytes - 16))
        j.is j.s.tags))

    -- after a merge the tags describe the list with one tile for both
    pub joined_says : EncodesTiles d (joined_at at ts)
    joined_says = changed_says c d ts at t said j.stands in_one size j.s (stays 128 at (inl (omega arith))) now

    -- a merge changes tags alone
    pub joined_rest : SameExceptTags c d ts (joined_at at ts)
    joined_rest = changed_rest c d ts at t said j.stands in_one size j.s
        (SameSurroundings-trans c c1 d p1.place p2.place)
        (λ k o n l.
        let there = j.s.tags.0 in let long = j.long in let more = j.more in
        let first : (k < at) ⊎ (at + 16 ≤ k) = elim o.0 [ inl a ↦ inl (omega arith) | inr a ↦ inr (omega arith) ] in
        let old : AreTags current (bytes_of c.bytes) (at + t.len) t.len (v ∷ j.rest) (length c.bytes - 16) =
        subst (λ (us : List Tile). AreTags current (bytes_of c.bytes) (at + t.len) t.len us (length c.bytes - 16))
        j.is j.s.tags.4 in
        let others : IsBesideTags (v ∷ j.rest) k = subst (λ (us : List Tile). IsBesideTags us k) j.is o.1 in
        let onward : at + t.len + v.len ≡ at + (t.len + v.len) = omega arith in
        let third = beside_head current (bytes_of c.bytes) (at + t.len + v.len) v.len j.rest (length c.bytes - 16)
        old.4 k others.1 l in
        p2.rest.at k (beside_word k (at + t.len + v.len) (at + (t.len + v.len)) (omega arith) (omega arith) third)
        ∙ p1.rest.at k (beside_word k at (at + 8) (omega arith) (omega arith) first))
