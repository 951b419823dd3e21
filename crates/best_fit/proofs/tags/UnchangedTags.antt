-- The parts that stay when the tags of a window change: the blocks whose tiles are there before and after, and the
-- header.
use Rattle.best_fit.proofs.Common.{◌≡◌, refl, sym, ap, subst, ◌∙◌, ℕ, ◌+◌, ◌-◌, ◌%◌, ◌<◌, ◌≤◌, ◌⊎◌, inl, inr, Bool}
use Rattle.best_fit.proofs.Common.{List, [], ◌∷◌, ◌++◌, length, arith, Some, Option, AllByRecursion, Memory}
use Rattle.best_fit.proofs.Common.{WindowState, SameBytes, bytes_of, word_at, Role, Tile, current, SameBytes-word}
use Rattle.best_fit.proofs.Common.{AreTags, tag_word, IsBesideTags, EncodesTiles, SameExceptTags, Extent, handle}
use Rattle.best_fit.proofs.Common.{end_of, KeepsBlocks, SameBlock, one_tile_at_an_offset, tile_in}
use Rattle.best_fit.specs.Tiling.{ChangesTags}
use Rattle.block_tags.specs.Tiles.{use_bits, red_bit}
use Rattle.best_fit.proofs.tags.RowParts.{row_reaches}
use Rattle.best_fit.proofs.tags.TagsAndLiveSet.{said_row, legal_size}
use Rattle.best_fit.proofs.tags.TileRows.{Row, unused, used, use_cases, extents_of, extent_of, extents_of-free}
use Rattle.best_fit.proofs.tags.TileRows.{extents_of-used}

-- a tile of a list
abbrev pub In : Tile → List Tile → Type 0
In t [] = ⊥
In t (u ∷ us) = (u ≡ t) ⊎ In t us

-- a tile of the front is in the list
pub in_front : (t : Tile) (ts us : List Tile) → In t ts → In t (ts ++ us)
in_front t [] us h = absurd h
in_front t (u ∷ ts) us (inl e) = inl e
in_front t (u ∷ ts) us (inr h) = inr (in_front t ts us h)

-- a tile of the back is in the list
pub in_back : (t : Tile) (ts us : List Tile) → In t us → In t (ts ++ us)
in_back t [] us h = h
in_back t (u ∷ ts) us h = inr (in_back t ts us h)

-- another tile of the list stays in it when one changes
pub in_other : (u t t' : Tile) (front back : List Tile) → (t ≡ u → ⊥) → In u (front ++ (t ∷ back))
    → In u (front ++ (t' ∷ back))
in_other u t t' [] back n (inl e) = absurd (n e)
in_other u t t' [] back n (inr h) = inr h
in_other u t t' (f ∷ fs) back n (inl e) = inl e
in_other u t t' (f ∷ fs) back n (inr h) = inr (in_other u t t' fs back n h)

record Splits (t : Tile) (ts : List Tile) : Type 0 where
  front : List Tile
  back : List Tile
  list : ts ≡ front ++ (t ∷ back)

splits : (t : Tile) (ts : List Tile) → In t ts → Splits t ts
splits t [] h = absurd h
splits t (u ∷ us) (inl e) = record { front = []; back = us; list = ap (λ (v : Tile). v ∷ us) e }
splits t (u ∷ us) (inr h) = let s = splits t us h in
    record { front = u ∷ s.front; back = s.back; list = ap (λ (vs : List Tile). u ∷ vs) s.list }

-- a tile of the list is found at its offset
pub in_stands : (c : WindowState) (ts : List Tile) (t : Tile) → EncodesTiles c ts → In t ts
    → tile_in ts t.offset ≡ Some t
in_stands c ts t said h =
    let s = splits t ts h in
    ap (λ (us : List Tile). tile_in us t.offset) s.list ∙ one_tile_at_an_offset c s.front t s.back
    (subst (EncodesTiles c) s.list said)

-- a byte before a row lies in no tag of it
pub low_beside : (at : ℕ) (ts : List Tile) (end k : ℕ) → Row at ts end → k < at → IsBesideTags ts k
low_beside at [] end k r l = tt
low_beside at (t ∷ ts) end k r l = let o = r.0 in
    (inl (omega arith), low_beside (at + t.len) ts end k r.3 (omega arith))

-- a place in the payload of a tile of a row
pub record IsInside (ts : List Tile) (at end k : ℕ) : Type 0 where
  pub beside : IsBesideTags ts k
  pub low : at ≤ k
  pub high : k < end

inside_here : (at : ℕ) (t u : Tile) (ts : List Tile) (end k : ℕ) → Row at (u ∷ ts) end → u ≡ t → t.offset + 16 ≤ k
    → k < t.offset + t.len → IsInside (u ∷ ts) at end k
inside_here at t u ts end k r e low high =
    let o = r.0 in let same : u.offset ≡ t.offset = ap (λ (v : Tile). v.offset) e in
    let len : u.len ≡ t.len = ap (λ (v : Tile). v.len) e in
    let on = row_reaches (at + u.len) ts end r.3 in
    record {
      beside = (inr (omega arith), low_beside (at + u.len) ts end k r.3 (omega arith));
      low = omega arith;
      high = omega arith;
    }

-- the payload of a tile of a row lies outside all tags
pub inside : (at : ℕ) (t : Tile) (ts : List Tile) (end k : ℕ) → Row at ts end → In t ts → t.offset + 16 ≤ k
    → k < t.offset + t.len → IsInside ts at end k
inside at t [] end k r h low high = absurd h
inside at t (u ∷ ts) end k r (inl e) low high = inside_here at t u ts end k r e low high
inside at t (u ∷ ts) end k r (inr h) low high =
    let rest = inside (at + u.len) t ts end k r.3 h low high in
    let on = rest.low in let o = r.0 in let long = r.1 in
    record { beside = (inr (omega arith), rest.beside); low = omega arith; high = rest.high }

-- the tag of a tile in a list
pub record HasTag (m : Memory) (t : Tile) : Type 0 where
  pub word : word_at m (t.offset + 8) ≡ tag_word t
  pub whole : t.len % 16 ≡ 0

-- a tile of the list has its tag
pub tag_in : (format : ℕ) (m : Memory) (at before : ℕ) (ts : List Tile) (end : ℕ) (t : Tile)
    → AreTags format m at before ts end → Row at ts end → In t ts → HasTag m t
tag_in format m at before [] end t h r i = absurd i
tag_in format m at before (u ∷ ts) end t h r (inl e) =
    let P : Tile → Type 0 = λ (v : Tile). HasTag m v in
    subst P e (record { word = ap (λ x. word_at m (x + 8)) h.0 ∙ h.3; whole = r.2 })
tag_in format m at before (u ∷ ts) end t h r (inr i) = tag_in format m (at + u.len) u.len ts end t h.4 r.3 i

same_colour : (len len' u r : ℕ) → len % 16 ≡ 0 → len' % 16 ≡ 0 → (len' + u + r) % 16 ≡ (len + u + r) % 16
same_colour len len' u r e e' = omega arith

-- the tile of an extent, or one of its length, is there before and after
pub record Stays (ts us : List Tile) (x : Extent) : Type 0 where
  pub old : Tile
  pub new : Tile
  pub in_old : In old ts
  pub in_new : In new us
  pub at_old : old.offset ≡ x.offset
  pub at_new : new.offset ≡ x.offset
  pub same_use : new.use_of ≡ old.use_of
  pub red : new.red ≡ old.red
  pub within_old : x.len ≤ old.len
  pub within_new : x.len ≤ new.len

-- the tags change from one list to another
pub record TagStep (old new : WindowState) (ts us : List Tile) : Type 0 where
  pub said : EncodesTiles old ts
  pub says : EncodesTiles new us
  pub same : SameExceptTags old new ts us

-- the step from a list that the tags encode
pub tag_step : {old new : WindowState} {change : List Tile → List Tile} (ts us : List Tile) → EncodesTiles old ts
    → change ts ≡ us → ChangesTags old new change → TagStep old new ts us
tag_step {old} {new} ts us said e c = record {
  said = said;
  says = subst (EncodesTiles new) e (c.tags ts said);
  same = subst (SameExceptTags old new ts) e (c.frame ts said);
}

module _ {old new : WindowState} {ts us : List Tile} (step : TagStep old new ts us) where
  abbrev m : Memory
  m = bytes_of old.bytes

  abbrev m' : Memory
  m' = bytes_of new.bytes

  old_row : Row 128 ts (length old.bytes - 16)
  old_row = said_row old ts step.said

  new_row : Row 128 us (length old.bytes - 16)
  new_row = subst (λ n. Row 128 us (n - 16)) step.same.size (said_row new us step.says)

  payload : (x : Extent) → Stays ts us x → SameBytes (bytes_of old.bytes) (bytes_of new.bytes) (handle x) (end_of x)
  payload x s =
      let a = s.at_old in let b = s.at_new in let c = s.within_old in let d = s.within_new in
      record {
        at = λ k low high.
            let i = inside 128 s.old ts (length old.bytes - 16) k old_row s.in_old (omega arith) (omega arith) in
            let j = inside 128 s.new us (length old.bytes - 16) k new_row s.in_new (omega arith) (omega arith) in
            step.same.bytes k i.beside j.beside i.high;
      }

  colour : (x : Extent) → Stays ts us x → word_at (bytes_of new.bytes) (x.offset + 8) % 16 ≡ word_at
      (bytes_of old.bytes) (x.offset + 8) % 16
  colour x s =
      let i = tag_in current (bytes_of old.bytes) 128 0 ts (length old.bytes - 16) s.old step.said.tags old_row
      s.in_old in
      let j = tag_in current (bytes_of new.bytes) 128 0 us (length new.bytes - 16) s.new step.says.tags
      (said_row new us step.says) s.in_new in
      let before : word_at (bytes_of old.bytes) (x.offset + 8) ≡ tag_word s.old =
      ap (λ k. word_at (bytes_of old.bytes) (k + 8)) (sym s.at_old) ∙ i.word in
      let after : word_at (bytes_of new.bytes) (x.offset + 8) ≡ tag_word s.new =
      ap (λ k. word_at (bytes_of new.bytes) (k + 8)) (sym s.at_new) ∙ j.word in
      let used : tag_word s.new ≡ s.new.len + use_bits s.old.use_of + red_bit s.old.red =
      ap (λ (u : Option Role). s.new.len + use_bits u + red_bit s.new.red) s.same_use
      ∙ ap (λ (r : Bool). s.new.len + use_bits s.old.use_of + red_bit r) s.red in
      ap (λ w. w % 16) (after ∙ used) ∙ same_colour s.old.len s.new.len (use_bits s.old.use_of) (red_bit s.old.red)
      i.whole j.whole ∙ ap (λ w. w % 16) (sym before)

  -- its block stays
  pub step_block : (x : Extent) → Stays ts us x → SameBlock (bytes_of old.bytes) (bytes_of new.bytes) x
  step_block x s = record { payload = payload x s; colour = colour x s }

  step_blocks : (xs : List Extent) → AllByRecursion (Stays ts us) xs
      → AllByRecursion (SameBlock (bytes_of old.bytes) (bytes_of new.bytes)) xs
  step_blocks [] all = tt
  step_blocks (x ∷ xs) all = (step_block x all.0, step_blocks xs all.1)

  -- all below the first tile stays
  pub step_header : SameBytes (bytes_of old.bytes) (bytes_of new.bytes) 0 128
  step_header =
      let n = legal_size (length old.bytes) step.said.size in let low = n.low in
      record {
        at = λ k a b. step.same.bytes k (low_beside 128 ts (length old.bytes - 16) k old_row b)
            (low_beside 128 us (length old.bytes - 16) k new_row b) (omega arith);
      }

  -- word 24 stays
  pub step_word : word_at (bytes_of new.bytes) 24 ≡ word_at (bytes_of old.bytes) 24
  step_word = SameBytes-word (bytes_of old.bytes) (bytes_of new.bytes) 0 128 24 step_header (omega arith) (omega arith)

  -- the place, the header and these blocks stay
  pub step_keeps : (xs : List Extent) → AllByRecursion (Stays ts us) xs → KeepsBlocks old new xs
  step_keeps xs all =
      let h = step_header in
      record {
        place = step.same.place;
        front = record { at = λ k a b. h.at k a (omega arith) };
        behind = record { at = λ k a b. h.at k (omega arith) b };
        blocks = step_blocks xs all;
      }

-- ---- the blocks around a change

-- a property of each tile in use holds for all extents
pub all_used : (P : Extent → Type 0) (ts : List Tile) → ((t : Tile) → In t ts → (role : Role) → t.use_of ≡ Some role
    → P (extent_of t role)) → AllByRecursion P (extents_of ts)
all_used P [] h = tt
all_used P (t ∷ ts) h =
    let rest = all_used P ts (λ u i role e. h u (inr i) role e) in
    elim (use_cases t) [
      | unused e ↦ subst (AllByRecursion P) (sym (extents_of-free t ts e)) rest
      | used role e ↦ let both : AllByRecursion P (extent_of t role ∷ extents_of ts) =
          (h t (inl refl) role e, rest) in subst (AllByRecursion P) (sym (extents_of-used t ts role e)) both
    ]

-- a property of each tile in use holds for the extents
pub all_extents : (P : Extent → Type 0) (ts : List Tile)
    → ((t : Tile) → In t ts → (role : Role) → P (extent_of t role)) → AllByRecursion P (extents_of ts)
all_extents P ts h = all_used P ts (λ t i role e. h t i role)

at_most_itself : (n : ℕ) → n ≤ n
at_most_itself n = omega arith

-- a tile of both lists stays
pub stays_whole : (ts us : List Tile) (t : Tile) (role : Role) → In t ts → In t us → Stays ts us (extent_of t role)
stays_whole ts us t role i j =
    record {
      old = t;
      new = t;
      in_old = i;
      in_new = j;
      at_old = refl;
      at_new = refl;
      same_use = refl;
      red = refl;
      within_old = at_most_itself t.len;
      within_new = at_most_itself t.len;
    }

-- a property of all elements of two lists holds for both together
pub all_joined : {A : Type 0} (P : A → Type 0) (xs ys : List A) → AllByRecursion P xs → AllByRecursion P ys
    → AllByRecursion P (xs ++ ys)
all_joined P [] ys a b = b
all_joined P (x ∷ xs) ys a b = (a.0, all_joined P xs ys a.1 b)

-- the blocks before and after some tiles that become others stay
pub around_stays : (front olds news back : List Tile)
    → AllByRecursion (Stays (front ++ (olds ++ back)) (front ++ (news ++ back))) (extents_of front ++ extents_of back)
around_stays front olds news back =
    let ts = front ++ (olds ++ back) in let us = front ++ (news ++ back) in
    all_joined (Stays ts us) (extents_of front) (extents_of back)
    (all_extents (Stays ts us) front (λ t i role. stays_whole ts us t role (in_front t front (olds ++ back) i)
    (in_front t front (news ++ back) i)))
    (all_extents (Stays ts us) back
    (λ t i role. stays_whole ts us t role (in_back t front (olds ++ back) (in_back t olds back i))
    (in_back t front (news ++ back) (in_back t news back i))))

-- and so do the place and the header
pub around_keeps : {old new : WindowState} (front olds news back : List Tile)
    → TagStep old new (front ++ (olds ++ back)) (front ++ (news ++ back))
    → KeepsBlocks old new (extents_of front ++ extents_of back)
around_keeps front olds news back step =
    step_keeps step (extents_of front ++ extents_of back) (around_stays front olds news back)
