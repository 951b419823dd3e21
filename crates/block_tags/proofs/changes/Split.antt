-- The tiles of the tags after a tile is split.
use Rattle.std.proofs.Common.{◌≡◌, refl, sym, ap, subst, ◌∙◌, ℕ, ◌+◌, ◌-◌, ◌<◌, ◌≤◌, ◌⊎◌, inl, inr, Some, None, false}
use Rattle.std.proofs.Common.{List, ◌∷◌, length, arith}
use Rattle.raw_region.specs.Memory.{WindowState, SameBytes, word_at, bytes_of}
use Rattle.raw_region.specs.Format.{current}
use Rattle.raw_region.proofs.Laws.{SameBytes-word, SameSurroundings-trans}
use Rattle.block_tags.specs.declared.tile.Tile.{Tile}
use Rattle.block_tags.specs.Tiles.{AreTags, tag_word, tile_at}
use Rattle.block_tags.specs.Lists.{tile_in, free_tile, in_two, split_at}
use Rattle.block_tags.specs.Windows.{EncodesTiles, HasTileAt, CanSplit, SameExceptTags, WritesWord}
use Rattle.block_tags.proofs.tiles.ReadOff.{is_tile-IsWhole}
use Rattle.block_tags.proofs.changes.WrittenWords.{put-word, put-SameBytes}
use Rattle.block_tags.proofs.tiles.TileInList.{Standing, is_tile-made, colour_of, retag, beside_head}
use Rattle.block_tags.proofs.tiles.TagsSayTiles.{fits, reads, stands_in, stood}
use Rattle.block_tags.proofs.changes.WrittenTags.{changed_says, changed_rest}

-- a byte that is beside a tag is beside each word of it
pub beside_word : (k at p : ℕ) → at ≤ p → p + 8 ≤ at + 16 → (k < at) ⊎ (at + 16 ≤ k) → (k < p) ⊎ (p + 8 ≤ k)
beside_word k at p a b (inl h) = inl (omega arith)
beside_word k at p a b (inr h) = inr (omega arith)

-- ---- four words are written
pub record Splits (c : WindowState) (at len : ℕ) (t : Tile) : Type 0 where
  pub low : 128 ≤ at
  pub long : 32 ≤ len
  pub left : len + 32 ≤ t.len
  pub room : at + t.len + 16 ≤ length c.bytes
  pub size : length c.bytes ≤ 1073741824

-- a tile that can be split has room for both parts
pub splits : (c : WindowState) (at len : ℕ) (h : CanSplit c at len) (t : Tile) → t ≡ tile_at (bytes_of c.bytes) at
    → Splits c at len t
splits c at len h t e =
    let f = fits c at (record { tiles = h.tiles; said = h.said; tile = h.tile; stands = h.stands }) t e in
    let left : len + 32 ≤ t.len = subst (λ (v : Tile).
    len + 32 ≤ v.len) (sym (e ∙ reads c h.tiles at h.tile h.said h.stands)) h.room in
    record { low = f.low; long = h.long; left = left; room = f.room; size = f.size }

module _ (c c1 c2 c3 d : WindowState) (at len : ℕ) (h : CanSplit c at len) (t : Tile) (e : t
    ≡ tile_at (bytes_of c.bytes) at) (x y : ℕ)
    (f : x ≡ tag_word (record { offset = t.offset; len = len; use_of = t.use_of; red = t.red })) (g : y
    ≡ tag_word (free_tile (t.offset + len) (t.len - len)))
    (p1 : WritesWord c c1 (at + 8) x) (p2 : WritesWord c1 c2 (at + len) len)
    (p3 : WritesWord c2 c3 (at + len + 8) y) (p4 : WritesWord c3 d (at + t.len) (t.len - len)) where
  pub there_to_split : HasTileAt c at
  there_to_split = record { tiles = h.tiles; said = h.said; tile = h.tile; stands = h.stands }

  pub room_to_split : len + 32 ≤ t.len
  room_to_split = subst (λ (v : Tile). len + 32 ≤ v.len) (sym (e ∙ reads c h.tiles at h.tile h.said h.stands)) h.room

  stays : (from to : ℕ) → (to ≤ at + 8) ⊎ (at + t.len + 8 ≤ from)
      → SameBytes (bytes_of c.bytes) (bytes_of d.bytes) from to
  stays from to o =
      let room = room_to_split in let long = h.long in
      let away : (q : ℕ) → at + 8 ≤ q → q ≤ at + t.len → (to ≤ q) ⊎ (q + 8 ≤ from) =
      λ q a b. elim o [ inl l ↦ inl (omega arith) | inr l ↦ inr (omega arith) ] in
      let s1 = put-SameBytes c c1 (at + 8) x p1 from to (away (at + 8) (omega arith) (omega arith)) in
      let s2 = put-SameBytes c1 c2 (at + len) len p2 from to (away (at + len) (omega arith) (omega arith)) in
      let s3 = put-SameBytes c2 c3 (at + len + 8) y p3 from to (away (at + len + 8) (omega arith) (omega arith)) in
      let s4 = put-SameBytes c3 d (at + t.len) (t.len - len) p4 from to
      (away (at + t.len) (omega arith) (omega arith)) in
      record { at = λ k a b. s4.at k a b ∙ s3.at k a b ∙ s2.at k a b ∙ s1.at k a b }

  first_tag : word_at (bytes_of d.bytes) (at + 8) ≡ x
  first_tag =
      let room = room_to_split in let long = h.long in
      put-word c3 d (at + t.len) (t.len - len) p4 (at + 8) (inl (omega arith))
      ∙ put-word c2 c3 (at + len + 8) y p3 (at + 8) (inl (omega arith))
      ∙ put-word c1 c2 (at + len) len p2 (at + 8) (inl (omega arith)) ∙ p1.word

  second_before : word_at (bytes_of d.bytes) (at + len) ≡ len
  second_before =
      let room = room_to_split in
      put-word c3 d (at + t.len) (t.len - len) p4 (at + len) (inl (omega arith))
      ∙ put-word c2 c3 (at + len + 8) y p3 (at + len) (inl (omega arith)) ∙ p2.word

  second_tag : word_at (bytes_of d.bytes) (at + len + 8) ≡ y
  second_tag = let room = room_to_split
      in put-word c3 d (at + t.len) (t.len - len) p4 (at + len + 8) (inl (omega arith)) ∙ p3.word

  cut_tags : (before : ℕ) (behind : List Tile) (end : ℕ) → AreTags current (bytes_of c.bytes) at before (t ∷ behind) end
      → AreTags current (bytes_of d.bytes) at before (in_two len t behind) end
  cut_tags before behind end tags =
      let room = room_to_split in let long = h.long in let whole = h.whole in let all =
      (is_tile-IsWhole current t tags.1).whole in let there = tags.0 in
      let rest : t.len - len + len ≡ t.len = omega arith in
      let onward : at + t.len ≡ at + len + (t.len - len) = omega arith in
      let last = retag current (bytes_of c.bytes) (bytes_of d.bytes) (at + t.len) t.len (t.len - len) behind end
      tags.4 (stays (at + t.len + 8) (end + 16) (inr (omega arith))) p4.word in (
        tags.0,
        is_tile-made current t.offset len t.use_of t.red h.long h.whole (colour_of current t tags.1),
        SameBytes-word (bytes_of c.bytes) (bytes_of d.bytes) at (at + 8) at (stays at (at + 8) (inl (omega arith)))
            (omega arith) (omega arith) ∙ tags.2,
        first_tag ∙ f,
        (
          ap (λ (n : ℕ). n + len) tags.0,
          is_tile-made current (t.offset + len) (t.len - len) None false (omega arith) (omega arith) refl,
          second_before,
          second_tag ∙ g,
          subst (λ (n : ℕ). AreTags current (bytes_of d.bytes) n (t.len - len) behind end) onward last,
        ),
      )

  module _ (ts : List Tile) (said : EncodesTiles c ts) where
    stands : tile_in ts at ≡ Some t
    stands = stands_in c at there_to_split t e ts said

    s : Standing current (bytes_of c.bytes) 128 0 None ts (length c.bytes - 16) at t
    s = stood c ts at t said stands

    size : length d.bytes ≡ length c.bytes
    size = p4.size ∙ p3.size ∙ p2.size ∙ p1.size

    -- after a split the tags describe the list with both parts
    pub split_says : EncodesTiles d (split_at at len ts)
    split_says = changed_says c d ts at t said stands (in_two len) size s (stays 128 at (inl (omega arith)))
        (cut_tags s.before s.behind (length c.bytes - 16) s.tags)

    -- a split changes tags alone
    pub split_rest : SameExceptTags c d ts (split_at at len ts)
    split_rest = changed_rest c d ts at t said stands (in_two len) size s
        (SameSurroundings-trans c c1 d p1.place
        (SameSurroundings-trans c1 c2 d p2.place (SameSurroundings-trans c2 c3 d p3.place p4.place)))
        (λ k o n l.
        let room = room_to_split in let long = h.long in let there = s.tags.0 in
        let first : (k < at) ⊎ (at + 16 ≤ k) = elim o.0 [ inl a ↦ inl (omega arith) | inr a ↦ inr (omega arith) ] in
        let second : (k < at + len) ⊎ (at + len + 16 ≤ k) =
        elim n.1.0 [ inl a ↦ inl (omega arith) | inr a ↦ inr (omega arith) ] in
        let third = beside_head current (bytes_of c.bytes) (at + t.len) t.len s.behind (length c.bytes - 16)
        s.tags.4 k o.1 l in
        p4.rest.at k (beside_word k (at + t.len) (at + t.len) (omega arith) (omega arith) third)
        ∙ p3.rest.at k (beside_word k (at + len) (at + len + 8) (omega arith) (omega arith) second)
        ∙ p2.rest.at k (beside_word k (at + len) (at + len) (omega arith) (omega arith) second)
        ∙ p1.rest.at k (beside_word k at (at + 8) (omega arith) (omega arith) first))
