-- The tiles of the tags after the end of the tiles moves.
use Rattle.std.proofs.Common.{◌≡◌, refl, sym, ap, subst, ◌∙◌, ℕ, ◌+◌, ◌-◌, ◌%◌, ◌<◌, ◌≤◌, ◌⊎◌, inl, inr, Some, None}
use Rattle.std.proofs.Common.{Bool, false, List, [], ◌∷◌, ◌++◌, length, arith, cond, IsTrue, ◌==◌}
use Rattle.std.proofs.lemmas.Bool.{eq-eqb}
use Rattle.std.proofs.lemmas.Option.{same_Some, none-some}
use Rattle.raw_region.specs.Memory.{Memory, WindowState, SameBytes, word_at, bytes_of}
use Rattle.raw_region.specs.Format.{current}
use Rattle.raw_region.proofs.Laws.{SameBytes-word, SameSurroundings-trans}
use Rattle.block_tags.specs.declared.tile.Tile.{Tile}
use Rattle.block_tags.specs.Format.{is_legal_size}
use Rattle.block_tags.specs.Tiles.{AreTags, AreTilesOf}
use Rattle.block_tags.specs.Lists.{free_tile, laid, with_free, last_in, without_last, IsBesideTags}
use Rattle.block_tags.specs.Windows.{EncodesTiles, PrefixSaysTiles, CanAppend, HasFreeLast, SameExceptTags, WritesWord}
use Rattle.block_tags.proofs.tiles.ReadOff.{is_tile-IsWhole, AreTags-reaches}
use Rattle.block_tags.proofs.changes.WrittenWords.{put-word}
use Rattle.block_tags.proofs.tiles.TileInList.{is_tile-made}
use Rattle.block_tags.proofs.tiles.TagsSayTiles.{Legal, legal, one_list}
use Rattle.block_tags.proofs.changes.Split.{beside_word}

pub legal_size : (n : ℕ) → Legal n → IsTrue (is_legal_size n)
legal_size n h = let low = h.low in let high = h.high in let whole = h.whole
    in elim h.room [ inl e ↦ grind arith | inr l ↦ grind arith ]

-- ---- one free tile, or none
module _ (c c1 c2 c3 d : WindowState) (size : IsTrue (is_legal_size (length c.bytes)))
    (p1 : WritesWord c c1 128 0) (p2 : WritesWord c1 c2 136 (length c.bytes - 16 - 128))
    (p3 : WritesWord c2 c3 (length c.bytes - 16) (length c.bytes - 16 - 128))
    (p4 : WritesWord c3 d (length c.bytes - 16 + 8) 1) where
  abbrev n : ℕ
  n = length c.bytes

  abbrev len : ℕ
  len = length c.bytes - 16 - 128

  laid_size : length d.bytes ≡ length c.bytes
  laid_size = p4.size ∙ p3.size ∙ p2.size ∙ p1.size

  none_laid : n ≡ 144 → AreTilesOf current (bytes_of d.bytes) n []
  none_laid e =
      let z : length c.bytes - 16 - 128 ≡ 0 = omega arith in
      let at : 128 ≡ length c.bytes - 16 = omega arith in
      let at' : 128 + 8 ≡ length c.bytes - 16 + 8 = omega arith in (
        at,
        ap (λ (k : ℕ). word_at (bytes_of d.bytes) k) at
            ∙ put-word c3 d (n - 16 + 8) 1 p4 (n - 16) (inl (omega arith)) ∙ p3.word ∙ z,
        ap (λ (k : ℕ). word_at (bytes_of d.bytes) k) at' ∙ p4.word,
      )

  one_laid : 176 ≤ n → AreTilesOf current (bytes_of d.bytes) n (free_tile 128 (n - 144) ∷ [])
  one_laid room =
      let g = legal n size in let whole = g.whole in
      let same : length c.bytes - 144 ≡ length c.bytes - 16 - 128 = omega arith in
      let at : 128 + (length c.bytes - 144) ≡ length c.bytes - 16 = omega arith in (
        refl,
        is_tile-made current 128 (n - 144) None false (omega arith) (omega arith) refl,
        put-word c3 d (n - 16 + 8) 1 p4 128 (inl (omega arith))
            ∙ put-word c2 c3 (n - 16) len p3 128 (inl (omega arith))
            ∙ put-word c1 c2 136 len p2 128 (inl (omega arith)) ∙ p1.word,
        (put-word c3 d (n - 16 + 8) 1 p4 136 (inl (omega arith))
            ∙ put-word c2 c3 (n - 16) len p3 136 (inl (omega arith)) ∙ p2.word ∙ omega arith),
        (
          at,
          ap (λ (k : ℕ). word_at (bytes_of d.bytes) k) at
              ∙ put-word c3 d (n - 16 + 8) 1 p4 (n - 16) (inl (omega arith)) ∙ p3.word ∙ sym same,
          ap (λ (k : ℕ). word_at (bytes_of d.bytes) (k + 8)) at ∙ p4.word,
        ),
      )

  laid_tags : AreTilesOf current (bytes_of d.bytes) n (laid n)
  laid_tags = elim (legal n size).room [
    | inl e ↦ subst (λ (v : Bool).
        AreTilesOf current (bytes_of d.bytes) n (cond v [] (free_tile 128 (n - 144) ∷ []))) (sym (eq-eqb n 144 e))
        (none_laid e)
    | inr l ↦ (let f : (n == 144) ≡ false = grind arith
        in subst (λ (v : Bool). AreTilesOf current (bytes_of d.bytes) n (cond v [] (free_tile 128 (n - 144) ∷ [])))
        (sym f) (one_laid l))
  ]

  pub laid_says : EncodesTiles d (laid (length c.bytes))
  laid_says = record {
    size = subst (λ (k : ℕ). IsTrue (is_legal_size k)) (sym laid_size) size;
    tags = subst (λ (k : ℕ). AreTilesOf current (bytes_of d.bytes) k (laid n)) (sym laid_size) laid_tags;
  }

  unlaid : (k : ℕ) → (k < 128) ⊎ (144 ≤ k) → k < n - 16 → bytes_of d.bytes k ≡ bytes_of c.bytes k
  unlaid k o l =
      p4.rest.at k (inl (omega arith)) ∙ p3.rest.at k (inl (omega arith))
      ∙ p2.rest.at k (beside_word k 128 136 (omega arith) (omega arith) o)
      ∙ p1.rest.at k (beside_word k 128 128 (omega arith) (omega arith) o)

  pub laid_rest : SameExceptTags c d [] (laid (length c.bytes))
  laid_rest = record {
    place = SameSurroundings-trans c c1 d p1.place
        (SameSurroundings-trans c1 c2 d p2.place (SameSurroundings-trans c2 c3 d p3.place p4.place));
    size = laid_size;
    bytes = λ k o u l. elim (legal n size).room [
      | inl e ↦ unlaid k (inl (omega arith)) l
      | inr r ↦ (let f : (n == 144) ≡ false = grind arith in
          let b : IsBesideTags (free_tile 128 (n - 144) ∷ []) k =
          subst (λ (v : Bool). IsBesideTags (cond v [] (free_tile 128 (n - 144) ∷ [])) k) f u in unlaid k b.0 l)
    ];
  }

-- ---- a free tile after the others
appended : (m m' : Memory) (at before : ℕ) (ts : List Tile) (end len : ℕ) → AreTags current m at before ts end
    → SameBytes m m' at (end + 8) → 32 ≤ len → len % 16 ≡ 0
    → word_at m' (end + 8) ≡ len → word_at m' (end + len) ≡ len → word_at m' (end + len + 8) ≡ 1
    → AreTags current m' at before (ts ++ free_tile end len ∷ []) (end + len)
appended m m' at before [] end len h same long whole tag last mark =
    let e = h.0 in let on : at + len ≡ end + len = omega arith in
    let P : ℕ → ℕ → Type 0 = λ (k x : ℕ). word_at m' k ≡ x in (
      sym h.0,
      is_tile-made current end len None false long whole refl,
      SameBytes-word m m' at (end + 8) at same (omega arith) (omega arith) ∙ h.1,
      (ap (λ (k : ℕ). word_at m' (k + 8)) e ∙ tag ∙ omega arith),
      (on, ap (λ (k : ℕ). word_at m' k) on ∙ last, ap (λ (k : ℕ). word_at m' (k + 8)) on ∙ mark),
    )
appended m m' at before (t ∷ ts) end len h same long whole tag last mark =
    let on = AreTags-reaches current m (at + t.len) t.len ts end h.4 in let far =
    (is_tile-IsWhole current t h.1).long in (
      h.0,
      h.1,
      SameBytes-word m m' at (end + 8) at same (omega arith) (omega arith) ∙ h.2,
      SameBytes-word m m' at (end + 8) (at + 8) same (omega arith) (omega arith) ∙ h.3,
      appended m m' (at + t.len) t.len ts end len h.4 (record { at = λ k a b. same.at k (omega arith) b }) long
          whole tag last mark,
    )

beside_last : (ts : List Tile) (u : Tile) (k : ℕ) → IsBesideTags (ts ++ u ∷ []) k → (k < u.offset) ⊎ (u.offset + 16 ≤ k)
beside_last [] u k o = o.0
beside_last (t ∷ ts) u k o = beside_last ts u k o.1

module _ (c c1 c2 d : WindowState) (m : ℕ) (h : CanAppend c m)
    (p1 : WritesWord c c1 (m - 8) (length c.bytes - m))
    (p2 : WritesWord c1 c2 (length c.bytes - 16) (length c.bytes - m))
    (p3 : WritesWord c2 d (length c.bytes - 16 + 8) 1)
    (ts : List Tile) (said : PrefixSaysTiles c m ts) where
  appended_size : length d.bytes ≡ length c.bytes
  appended_size = p3.size ∙ p2.size ∙ p1.size

  appended_tags : AreTilesOf current (bytes_of d.bytes) (length c.bytes) (with_free ts (m - 16) (length c.bytes - 16))
  appended_tags =
      let g = legal m said.size in let f = legal (length c.bytes) h.size in let low = g.low in let room = h.room
      in let whole = g.whole in let all = f.whole in
      let end = m - 16 in let len = length c.bytes - 16 - (m - 16) in
      let same_len : length c.bytes - m ≡ length c.bytes - 16 - (m - 16) = omega arith in
      let tag_at : m - 16 + 8 ≡ m - 8 = omega arith in
      let on : m - 16 + (length c.bytes - 16 - (m - 16)) ≡ length c.bytes - 16 = omega arith in
      let prefix : SameBytes (bytes_of c.bytes) (bytes_of d.bytes) 128 (m - 16 + 8) =
      record {
        at = λ k a b. p3.rest.at k (inl (omega arith)) ∙ p2.rest.at k (inl (omega arith))
            ∙ p1.rest.at k (inl (omega arith));
      } in
      let tags = appended (bytes_of c.bytes) (bytes_of d.bytes) 128 0 ts (m - 16) (length c.bytes - 16 - (m - 16))
      said.tags prefix (omega arith) (omega arith)
      (ap (λ (k : ℕ). word_at (bytes_of d.bytes) k) tag_at
      ∙ put-word c2 d (length c.bytes - 16 + 8) 1 p3 (m - 8) (inl (omega arith))
      ∙ put-word c1 c2 (length c.bytes - 16) (length c.bytes - m) p2 (m - 8) (inl (omega arith)) ∙ p1.word ∙ same_len)
      (ap (λ (k : ℕ). word_at (bytes_of d.bytes) k) on
      ∙ put-word c2 d (length c.bytes - 16 + 8) 1 p3 (length c.bytes - 16) (inl (omega arith)) ∙ p2.word ∙ same_len)
      (ap (λ (k : ℕ). word_at (bytes_of d.bytes) (k + 8)) on ∙ p3.word) in
      subst (λ (k : ℕ). AreTags current (bytes_of d.bytes) 128 0 (with_free ts (m - 16) (length c.bytes - 16)) k) on
      tags

  pub appended_says : EncodesTiles d (with_free ts (m - 16) (length c.bytes - 16))
  appended_says = record {
    size = subst (λ (k : ℕ). IsTrue (is_legal_size k)) (sym appended_size) h.size;
    tags = subst (λ (k : ℕ). AreTilesOf current (bytes_of d.bytes) k (with_free ts (m - 16) (length c.bytes - 16)))
        (sym appended_size) appended_tags;
  }

  pub appended_rest : SameExceptTags c d ts (with_free ts (m - 16) (length c.bytes - 16))
  appended_rest = record {
    place = SameSurroundings-trans c c1 d p1.place (SameSurroundings-trans c1 c2 d p2.place p3.place);
    size = appended_size;
    bytes = λ k o u l.
        let g = legal m said.size in let low = g.low in
        let tag = beside_last ts (free_tile (m - 16) (length c.bytes - 16 - (m - 16))) k u in
        p3.rest.at k (inl (omega arith)) ∙ p2.rest.at k (inl (omega arith))
        ∙ p1.rest.at k (beside_word k (m - 16) (m - 8) (omega arith) (omega arith) tag);
  }

-- ---- the last tile taken away
record Ends (m : Memory) (at before : ℕ) (ts : List Tile) (end : ℕ) (t : Tile) : Type 0 where
  word : word_at m end ≡ t.len
  ends : t.offset + t.len ≡ end
  long : 32 ≤ t.len
  aligned : at % 16 ≡ 0 → t.offset % 16 ≡ 0
  room : (t.offset ≡ at) ⊎ (at + 32 ≤ t.offset)
  tag : (k : ℕ) → IsBesideTags ts k → (k < t.offset) ⊎ (t.offset + 16 ≤ k)
  dropped : (m' : Memory) → SameBytes m m' at (t.offset + 8) → word_at m' (t.offset + 8) ≡ 1
      → AreTags current m' at before (without_last ts) t.offset

ends_with : (m : Memory) (at before : ℕ) (ts : List Tile) (end : ℕ) (t : Tile) → AreTags current m at before ts end
    → last_in ts ≡ Some t → Ends m at before ts end t
ends_with m at before [] end t h e = absurd (none-some t e)
ends_with m at before (u ∷ []) end t h e =
    let P : Tile → Type 0 = λ (v : Tile). Ends m at before (u ∷ []) end v in
    let there = h.0 in let rest = h.4 in let on : at + u.len ≡ end = rest.0 in let whole =
    (is_tile-IsWhole current u h.1).whole in
    subst P (same_Some u t e) (record {
      word = ap (λ (k : ℕ). word_at m k) (sym on) ∙ rest.1;
      ends = omega arith;
      long = (is_tile-IsWhole current u h.1).long;
      aligned = λ a. omega arith;
      room = inl h.0;
      tag = λ k o. o.0;
      dropped = λ m' same mark. (
        sym h.0,
        SameBytes-word m m' at (u.offset + 8) at same (omega arith) (omega arith) ∙ h.2,
        ap (λ (k : ℕ). word_at m' (k + 8)) (sym h.0) ∙ mark,
      );
    })
ends_with m at before (u ∷ v ∷ ts) end t h e =
    let on : Ends m (at + u.len) u.len (v ∷ ts) end t = ends_with m (at + u.len) u.len (v ∷ ts) end t h.4 e in
    let far = (is_tile-IsWhole current u h.1).long in let whole = (is_tile-IsWhole current u h.1).whole
    in let above = on.room in
    let low : at + 32 ≤ t.offset = elim on.room [ inl a ↦ omega arith | inr a ↦ omega arith ] in
    record {
      word = on.word;
      ends = on.ends;
      long = on.long;
      aligned = λ a. on.aligned (omega arith);
      room = inr low;
      tag = λ k o. on.tag k o.1;
      dropped = λ m' same mark. (
        h.0,
        h.1,
        SameBytes-word m m' at (t.offset + 8) at same (omega arith) (omega arith) ∙ h.2,
        SameBytes-word m m' at (t.offset + 8) (at + 8) same (omega arith) (omega arith) ∙ h.3,
        on.dropped m' (record { at = λ k a b. same.at k (omega arith) b }) mark,
      );
    }

module _ (c : WindowState) (h : HasFreeLast c) (w : ℕ) (e : w ≡ word_at (bytes_of c.bytes) (length c.bytes - 16)) where
  last_ends : (ts : List Tile) → EncodesTiles c ts → Ends (bytes_of c.bytes) 128 0 ts (length c.bytes - 16) h.last
  last_ends ts said =
      ends_with (bytes_of c.bytes) 128 0 ts (length c.bytes - 16) h.last said.tags
      (ap last_in (one_list c h.tiles ts h.said said) ∙ h.ends)

  -- the offset of the last tile
  pub record LastAt : Type 0 where
    pub is : length c.bytes - 16 - w ≡ h.last.offset
    pub low : 128 ≤ length c.bytes - 16 - w
    pub long : 32 ≤ w
    pub inside : w ≤ length c.bytes - 16
    pub size : length c.bytes ≤ 1073741824
    pub prefix : Legal (length c.bytes - 16 - w + 16)

  pub last_at : LastAt
  last_at =
      let l = last_ends h.tiles h.said in let g = legal (length c.bytes) h.said.size in
      let ends = l.ends in let word = l.word in let size = g.high in let least = g.low in let long = l.long in
      let low : 128 ≤ h.last.offset = elim l.room [ inl a ↦ omega arith | inr a ↦ omega arith ] in
      let room : (length c.bytes - 16 - w + 16 ≡ 144) ⊎ (176 ≤ length c.bytes - 16 - w + 16) =
      elim l.room [ inl a ↦ inl (omega arith) | inr a ↦ inr (omega arith) ] in
      let whole = l.aligned refl in
      record {
        is = omega arith;
        low = omega arith;
        long = omega arith;
        inside = omega arith;
        size = size;
        prefix = record { low = omega arith; high = omega arith; whole = omega arith; room = room };
      }

  module _ (d : WindowState) (p : WritesWord c d (length c.bytes - 16 - w + 8) 1) (ts : List Tile)
      (said : EncodesTiles c ts) where
    pub dropped_says : PrefixSaysTiles d (length c.bytes - 16 - w + 16) (without_last ts)
    dropped_says =
        let l = last_ends ts said in let a = last_at in let is = a.is in let size = p.size in let inside = a.inside
        in let long = a.long in
        let at : length c.bytes - 16 - w + 8 ≡ h.last.offset + 8 = omega arith in
        let end : h.last.offset ≡ length c.bytes - 16 - w + 16 - 16 = omega arith in
        let low = a.low in
        record {
          size = legal_size (length c.bytes - 16 - w + 16) a.prefix;
          within = omega arith;
          tags = subst (λ (k : ℕ). AreTags current (bytes_of d.bytes) 128 0 (without_last ts) k) end
              (l.dropped (bytes_of d.bytes) (record { at = λ k x y. p.rest.at k (inl (omega arith)) })
              (ap (λ (k : ℕ). word_at (bytes_of d.bytes) k) (sym at) ∙ p.word));
        }

    pub dropped_rest : SameExceptTags c d ts (without_last ts)
    dropped_rest = record {
      place = p.place;
      size = p.size;
      bytes = λ k o u b.
          let l = last_ends ts said in let a = last_at in let is = a.is in
          p.rest.at k (beside_word k h.last.offset (length c.bytes - 16 - w + 8) (omega arith) (omega arith)
          (l.tag k o));
    }

-- ---- the same, where the size was read
pub laid_says_of : (c c1 c2 c3 d : WindowState) → IsTrue (is_legal_size (length c.bytes)) → (n : ℕ) → n ≡ length c.bytes
    → WritesWord c c1 128 0 → WritesWord c1 c2 136 (n - 16 - 128) → WritesWord c2 c3 (n - 16) (n - 16 - 128)
    → WritesWord c3 d (n - 16 + 8) 1 → EncodesTiles d (laid (length c.bytes))
laid_says_of c c1 c2 c3 d size n e =
    let P : ℕ → Type 0 = λ (n : ℕ). WritesWord c c1 128 0 → WritesWord c1 c2 136 (n - 16 - 128)
    → WritesWord c2 c3 (n - 16) (n - 16 - 128) → WritesWord c3 d (n - 16 + 8) 1
    → EncodesTiles d (laid (length c.bytes)) in
    subst P (sym e) (laid_says c c1 c2 c3 d size)

-- a window that is laid out changes tags alone
pub laid_rest_of : (c c1 c2 c3 d : WindowState) → IsTrue (is_legal_size (length c.bytes)) → (n : ℕ) → n ≡ length c.bytes
    → WritesWord c c1 128 0 → WritesWord c1 c2 136 (n - 16 - 128) → WritesWord c2 c3 (n - 16) (n - 16 - 128)
    → WritesWord c3 d (n - 16 + 8) 1 → SameExceptTags c d [] (laid (length c.bytes))
laid_rest_of c c1 c2 c3 d size n e =
    let P : ℕ → Type 0 = λ (n : ℕ). WritesWord c c1 128 0 → WritesWord c1 c2 136 (n - 16 - 128)
    → WritesWord c2 c3 (n - 16) (n - 16 - 128) → WritesWord c3 d (n - 16 + 8) 1
    → SameExceptTags c d [] (laid (length c.bytes)) in
    subst P (sym e) (laid_rest c c1 c2 c3 d size)

-- after bytes are appended, the tags describe the list with one more free tile
pub appended_says_of : (c c1 c2 d : WindowState) (m : ℕ) → CanAppend c m → (n : ℕ) → n ≡ length c.bytes
    → WritesWord c c1 (m - 8) (n - m) → WritesWord c1 c2 (n - 16) (n - m) → WritesWord c2 d (n - 16 + 8) 1
    → (ts : List Tile) → PrefixSaysTiles c m ts → EncodesTiles d (with_free ts (m - 16) (length c.bytes - 16))
appended_says_of c c1 c2 d m h n e =
    let P : ℕ → Type 0 = λ (n : ℕ). WritesWord c c1 (m - 8) (n - m) → WritesWord c1 c2 (n - 16) (n - m)
    → WritesWord c2 d (n - 16 + 8) 1 → (ts : List Tile) → PrefixSaysTiles c m ts
    → EncodesTiles d (with_free ts (m - 16) (length c.bytes - 16)) in
    subst P (sym e) (appended_says c c1 c2 d m h)

-- bytes that are appended change tags alone
pub appended_rest_of : (c c1 c2 d : WindowState) (m : ℕ) → CanAppend c m → (n : ℕ) → n ≡ length c.bytes
    → WritesWord c c1 (m - 8) (n - m) → WritesWord c1 c2 (n - 16) (n - m) → WritesWord c2 d (n - 16 + 8) 1
    → (ts : List Tile) → PrefixSaysTiles c m ts → SameExceptTags c d ts (with_free ts (m - 16) (length c.bytes - 16))
appended_rest_of c c1 c2 d m h n e =
    let P : ℕ → Type 0 = λ (n : ℕ). WritesWord c c1 (m - 8) (n - m) → WritesWord c1 c2 (n - 16) (n - m)
    → WritesWord c2 d (n - 16 + 8) 1 → (ts : List Tile) → PrefixSaysTiles c m ts
    → SameExceptTags c d ts (with_free ts (m - 16) (length c.bytes - 16)) in
    subst P (sym e) (appended_rest c c1 c2 d m h)

module _ (c : WindowState) (h : HasFreeLast c) (n : ℕ) (e : n ≡ length c.bytes) (w : ℕ) (f : w
    ≡ word_at (bytes_of c.bytes) (n - 16)) where
  pub last_word : w ≡ word_at (bytes_of c.bytes) (length c.bytes - 16)
  last_word = f ∙ ap (λ (k : ℕ). word_at (bytes_of c.bytes) (k - 16)) e

  -- the last tile has the length in the end tag
  pub last_at_of : LastAt c h w last_word
  last_at_of = last_at c h w last_word

  -- after the last tile is dropped, the front of the window describes the other tiles
  pub dropped_says_of : (d : WindowState) → WritesWord c d (n - 16 - w + 8) 1 → (ts : List Tile) → EncodesTiles c ts
      → PrefixSaysTiles d (n - 16 - w + 16) (without_last ts)
  dropped_says_of =
      let P : ℕ → Type 0 = λ (n : ℕ). (d : WindowState) → WritesWord c d (n - 16 - w + 8) 1 → (ts : List Tile)
      → EncodesTiles c ts → PrefixSaysTiles d (n - 16 - w + 16) (without_last ts) in
      subst P (sym e) (dropped_says c h w last_word)

  -- a tile that is dropped changes tags alone
  pub dropped_rest_of : (d : WindowState) → WritesWord c d (n - 16 - w + 8) 1 → (ts : List Tile) → EncodesTiles c ts
      → SameExceptTags c d ts (without_last ts)
  dropped_rest_of =
      let P : ℕ → Type 0 = λ (n : ℕ). (d : WindowState) → WritesWord c d (n - 16 - w + 8) 1 → (ts : List Tile)
      → EncodesTiles c ts → SameExceptTags c d ts (without_last ts) in
      subst P (sym e) (dropped_rest c h w last_word)
