-- Unchanged tags describe the same tiles, even if other bytes change.
use Rattle.std.proofs.Common.{◌≡◌, sym, ap, subst, ◌∙◌, ℕ, ◌+◌, ◌-◌, ◌≤◌, inl, inr, Some, Bool, List, [], ◌∷◌, length}
use Rattle.std.proofs.Common.{arith, cond, IsTrue, ◌==◌}
use Rattle.std.specs.List.{AllByRecursion}
use Rattle.std.proofs.lemmas.Bool.{eqb-true}
use Rattle.std.proofs.lemmas.Option.{same_Some, none-some}
use Rattle.raw_region.specs.Memory.{Memory, SameBytes, SameBytesExcept, bytes_of}
use Rattle.raw_region.specs.Format.{current}
use Rattle.block_tags.specs.declared.tile.Tile.{Tile}
use Rattle.block_tags.specs.Format.{is_legal_size}
use Rattle.block_tags.specs.Tiles.{AreTags, AreTilesOf}
use Rattle.block_tags.specs.Lists.{AreContiguous, tile_in}
use Rattle.block_tags.specs.Laws.{SameTags, TagsThatStaySayTheSame, PayloadMayChange, HeaderMayChange, PrefixIsAWindow}
use Rattle.block_tags.proofs.tiles.ReadOff.{is_tile-IsWhole}
use Rattle.raw_region.proofs.Laws.{SameBytes-word}
use Rattle.block_tags.proofs.tiles.TileInList.{by_test, head_word, retag}
use Rattle.block_tags.proofs.tiles.TagsSayTiles.{legal}
use Rattle.block_tags.proofs.tiles.TileLists.{tiles_fill_the_window}

AreTags-same : (format : ℕ) (m m' : Memory) (at before : ℕ) (ts : List Tile) (end : ℕ)
    → AreTags format m at before ts end
    → AllByRecursion (λ (t : Tile). SameBytes m m' t.offset (t.offset + 16)) ts → SameBytes m m' end (end + 16)
    → AreTags format m' at before ts end
AreTags-same format m m' at before [] end h tags last =
    let e = h.0 in (
      h.0,
      SameBytes-word m m' end (end + 16) at last (omega arith) (omega arith) ∙ h.1,
      SameBytes-word m m' end (end + 16) (at + 8) last (omega arith) (omega arith) ∙ h.2,
    )
AreTags-same format m m' at before (t ∷ ts) end h tags last =
    let e = h.0 in let tag = tags.0 in (
      h.0,
      h.1,
      SameBytes-word m m' t.offset (t.offset + 16) at tag (omega arith) (omega arith) ∙ h.2,
      SameBytes-word m m' t.offset (t.offset + 16) (at + 8) tag (omega arith) (omega arith) ∙ h.3,
      AreTags-same format m m' (at + t.len) t.len ts end h.4 tags.1 last,
    )

-- law: unchanged tags describe the same tiles
pub tags_that_stay_say_the_same : TagsThatStaySayTheSame
tags_that_stay_say_the_same c d ts said size same = record {
  size = subst (λ (n : ℕ). IsTrue (is_legal_size n)) (sym size) said.size;
  tags = subst (λ (n : ℕ). AreTilesOf current (bytes_of d.bytes) n ts) (sym size)
      (AreTags-same current (bytes_of c.bytes) (bytes_of d.bytes) 128 0 ts (length c.bytes - 16) said.tags same.tags
      same.last);
}

-- bytes that change before the tags
tags_behind : (format : ℕ) (m m' : Memory) (first : ℕ) (ts : List Tile) (to from n : ℕ)
    → AreContiguous format first ts to → from + n ≤ first → SameBytesExcept m m' from n → SameTags m m' ts to
tags_behind format m m' first [] to from n h l same = let e : first ≡ to = h
    in record { tags = tt; last = record { at = λ k a b. same.at k (inr (omega arith)) } }
tags_behind format m m' first (t ∷ ts) to from n h l same =
    let e = h.0 in let rest = tags_behind format m m' (first + t.len) ts to from n h.2 (omega arith) same in
    record { tags = (record { at = λ k a b. same.at k (inr (omega arith)) }, rest.tags); last = rest.last }

-- law: a change of bytes in the header keeps the tiles
pub header_may_change : HeaderMayChange
header_may_change c d ts said size from n l same =
    tags_that_stay_say_the_same c d ts said size
    (tags_behind current (bytes_of c.bytes) (bytes_of d.bytes) 128 ts (length c.bytes - 16) from n
    (tiles_fill_the_window c ts said) l same)

-- bytes that change in a payload
tags_round : (format : ℕ) (m m' : Memory) (first : ℕ) (ts : List Tile) (to from n at : ℕ) (t : Tile)
    → AreContiguous format first ts to → tile_in ts at ≡ Some t
    → at + 16 ≤ from → from + n ≤ at + t.len → SameBytesExcept m m' from n → (SameTags m m' ts to) × (first ≤ at)
tags_round format m m' first [] to from n at t h e a b same = absurd (none-some t e)
tags_round format m m' first (u ∷ us) to from n at t h e a b same =
    by_test (u.offset == at) ((SameTags m m' (u ∷ us) to) × (first ≤ at))
    (λ f.
    let there = eqb-true u.offset at f in let here = h.0 in
    let is : u ≡ t = same_Some u t (sym (ap (λ (v : Bool). cond v (Some u) (tile_in us at)) f) ∙ e) in
    let len : u.len ≡ t.len = ap (λ (v : Tile). v.len) is in
    let rest = tags_behind format m m' (first + u.len) us to from n h.2 (omega arith) same in (
      record { tags = (record { at = λ k c d. same.at k (inl (omega arith)) }, rest.tags); last = rest.last },
      omega arith,
    ))
    (λ f.
    let here = h.0 in let long = (is_tile-IsWhole format u h.1).long in
    let rest = tags_round format m m' (first + u.len) us to from n at t h.2
    (sym (ap (λ (v : Bool). cond v (Some u) (tile_in us at)) f) ∙ e) a b same in
    let low = rest.1 in (
      record { tags = (record { at = λ k c d. same.at k (inl (omega arith)) }, rest.0.tags); last = rest.0.last },
      omega arith,
    ))

-- law: a change of bytes in a payload keeps the tiles
pub payload_may_change : PayloadMayChange
payload_may_change c d ts at t said stands size from n a b same =
    tags_that_stay_say_the_same c d ts said size
    (tags_round current (bytes_of c.bytes) (bytes_of d.bytes) 128 ts (length c.bytes - 16) from n at t
    (tiles_fill_the_window c ts said) stands a b same).0

-- the first bytes of a window
pub prefix_is_a_window : PrefixIsAWindow
prefix_is_a_window c d ts l same = (
  (λ said.
      let g = legal (length c.bytes) said.size in let low = g.low in
      record {
        size = said.size;
        within = l;
        tags = retag current (bytes_of c.bytes) (bytes_of d.bytes) 128 0 0 ts (length c.bytes - 16) said.tags
            (record { at = λ k a b. same.at k (omega arith) (omega arith) })
            (SameBytes-word (bytes_of c.bytes) (bytes_of d.bytes) 0 (length c.bytes) 128 same (omega arith)
            (omega arith)
            ∙ head_word current (bytes_of c.bytes) 128 0 ts (length c.bytes - 16) said.tags);
      }),
  (λ said.
      let g = legal (length c.bytes) said.size in let low = g.low in
      record {
        size = said.size;
        tags = retag current (bytes_of d.bytes) (bytes_of c.bytes) 128 0 0 ts (length c.bytes - 16) said.tags
            (record { at = λ k a b. sym (same.at k (omega arith) (omega arith)) })
            (sym (SameBytes-word (bytes_of c.bytes) (bytes_of d.bytes) 0 (length c.bytes) 128 same (omega arith)
            (omega arith))
            ∙ head_word current (bytes_of d.bytes) 128 0 ts (length c.bytes - 16) said.tags);
      }),
)
