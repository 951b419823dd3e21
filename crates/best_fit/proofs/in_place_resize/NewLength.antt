-- A block that is lengthened or shortened in place, by the lengths read of its tile and the next one.
use Rattle.best_fit.proofs.Common.{List, ◌≡◌, refl, sym, ap, subst, ◌∙◌, ℕ, ◌+◌, ◌-◌, ◌<◌, ◌≤◌, ◌⊎◌, inl, inr, Bool}
use Rattle.best_fit.proofs.Common.{true, false, ◌&&◌, ◌||◌, ◌∷◌, ◌++◌, length, arith, nat_lt, nat_le, none-some}
use Rattle.best_fit.proofs.Common.{same_Some, Option, Some, None, min, lt-leb, and_from, cases_lt, cond-true}
use Rattle.best_fit.proofs.Common.{cond-false, le-leb, le-ltb, lt-ltb, or_left, or_right, WindowState, bytes_of}
use Rattle.best_fit.proofs.Common.{current, Extent, LiveSet, gap_after, insert, longer, others, resized, room, share}
use Rattle.best_fit.proofs.Common.{shorter, TryExtends, IsHeap, ResizesBlock, ShrinksInPlace, EncodesLiveSet, live_of}
use Rattle.best_fit.proofs.Common.{SplitsBlock, tile_in, EncodesTiles, Tile, free_behind}
use Rattle.best_fit.proofs.extents.Changes.{is_extent-IsNeighbour, is_proper-IsProper}
use Rattle.best_fit.proofs.tags.Frames.{SameBlock-refl, keeps-refl}
use Rattle.best_fit.proofs.tags.TileJoins.{extents_of-around, insert_between, others_between}
use Rattle.best_fit.proofs.tags.TagsAndLiveSet.{said_row}
use Rattle.best_fit.proofs.extents.FirstFit.{room-IsRoom}
use Rattle.best_fit.proofs.in_place_resize.NextGap.{is_one, gap_read, gap_high}
use Rattle.best_fit.proofs.tags.TileRows.{extent_of, extents_of}
use Rattle.best_fit.proofs.tags.Writes.{Block, laid-heap, block_len}

false_first : (a b : Bool) → a ≡ false → (a && b) ≡ false
false_first a b e = ap (λ (x : Bool). x && b) e

false_last : (a b : Bool) → b ≡ false → (a && b) ≡ false
false_last true b e = e
false_last false b e = refl

-- ---- longer

-- there is no longer block if the block is long enough, or too short even with the gap after it
pub longer_none : (live : LiveSet) (x : Extent) (n : ℕ) → (room n ≤ x.len) ⊎ (x.len + gap_after live x < room n)
    → longer live x n ≡ None
unfolding longer
longer_none live x n (inl l) =
    cond-false (nat_lt x.len (room n) && nat_le (room n) (x.len + gap_after live x))
    (Some (record x { len = share (x.len + gap_after live x) (room n) })) None
    (false_first (nat_lt x.len (room n)) (nat_le (room n) (x.len + gap_after live x)) (le-ltb x.len (room n) l))
longer_none live x n (inr l) =
    cond-false (nat_lt x.len (room n) && nat_le (room n) (x.len + gap_after live x))
    (Some (record x { len = share (x.len + gap_after live x) (room n) })) None
    (false_last (nat_lt x.len (room n)) (nat_le (room n) (x.len + gap_after live x))
    (lt-leb (room n) (x.len + gap_after live x) l))

-- otherwise there is one
pub longer_some : (live : LiveSet) (x : Extent) (n : ℕ) → x.len < room n → room n ≤ x.len + gap_after live x
    → longer live x n ≡ Some (record x { len = share (x.len + gap_after live x) (room n) })
unfolding longer
longer_some live x n less fits =
    cond-true (nat_lt x.len (room n) && nat_le (room n) (x.len + gap_after live x))
    (Some (record x { len = share (x.len + gap_after live x) (room n) })) None
    (and_from (nat_lt x.len (room n)) (nat_le (room n) (x.len + gap_after live x)) (lt-ltb x.len (room n) less)
    (le-leb (room n) (x.len + gap_after live x) fits))

-- nothing changes if there is no longer block
pub not_extended : (old : WindowState) (h n : ℕ) → (b : Block old h)
    → (room n ≤ b.tile.len) ⊎ (b.tile.len + gap_after (live_of old.bytes) (extent_of b.tile b.role) < room n)
    → TryExtends current old old h n false
not_extended old h n b why =
    let none = longer_none (live_of old.bytes) (extent_of b.tile b.role) n why in
    record {
      extent = extent_of b.tile b.role;
      found = b.extent;
      lengthened = λ y e. absurd (none-some y (sym none ∙ e));
      refused = λ e. (refl, refl);
    }

-- and if there is one, the block becomes it
pub extended : (old new : WindowState) (h n wanted : ℕ) → (b : Block old h) → wanted ≡ room n → b.tile.len < wanted
    → wanted ≤ b.tile.len + gap_after (live_of old.bytes) (extent_of b.tile b.role)
    → SplitsBlock current old new h wanted → TryExtends current old new h n true
extended old new h n wanted b e less fits cut =
    let live = live_of old.bytes in
    let same : extent_of b.tile b.role ≡ cut.extent = same_Some (extent_of b.tile b.role) cut.extent
    (sym b.extent ∙ cut.found) in
    let P : Extent → Type 0 = λ (x : Extent). longer live x n
    ≡ Some (record x { len = share (x.len + gap_after live x) wanted }) in
    let some : P (extent_of b.tile b.role) =
    longer_some live (extent_of b.tile b.role) n (omega arith) (omega arith)
    ∙ ap (λ (k : ℕ). let o : Option Extent =
    Some (record (extent_of b.tile b.role)
    { len = share (b.tile.len + gap_after live (extent_of b.tile b.role)) k }) in o) (sym e) in
    let is = subst P same some in
    record {
      extent = cut.extent;
      found = cut.found;
      lengthened = λ y f. (
        refl,
        subst (λ (z : Extent). ResizesBlock current old new cut.extent z)
            (same_Some (record cut.extent { len = share (cut.extent.len + gap_after live cut.extent) wanted }) y
            (sym is ∙ f)) cut.resized,
      );
      refused = λ f. absurd
          (none-some (record cut.extent {
            len = share (cut.extent.len + gap_after live cut.extent)
                wanted;
          }) (sym f ∙ is));
    }

-- a request for more bytes than any window has needs a longer block than can exist
pub room_above : (n : ℕ) → 1073741824 < n → 1073741824 < room n
room_above n l = let wanted = (room-IsRoom n).holds in omega arith

extended_cases : (old new : WindowState) (h n : ℕ) (r : Bool) → IsHeap current old.bytes
    → (x : TryExtends current old new h n r) → (o : Option Extent) → longer (live_of old.bytes) x.extent n ≡ o
    → IsHeap current new.bytes
extended_cases old new h n r heap x None e =
    subst (λ (v : WindowState). IsHeap current v.bytes) (sym (x.refused e).1) heap
extended_cases old new h n r heap x (Some y) e = laid-heap new.bytes (resized (live_of old.bytes) y)
    (x.lengthened y e).1.live

-- ---- shorter

-- whether a block can be shortened
abbrev pub may_cut : LiveSet → Extent → ℕ → Bool
may_cut live x n = nat_lt 0 (gap_after live x) || nat_le (room n + 32) x.len

le_shift : (a b c : ℕ) → c + a ≡ b → nat_le (a + 32) b ≡ nat_le 32 c
le_shift a b c e = elim (cases_lt c 32) [
  | inl l ↦ lt-leb (a + 32) b (omega arith) ∙ sym (lt-leb 32 c l)
  | inr l ↦ le-leb (a + 32) b (omega arith) ∙ sym (le-leb 32 c l)
]

-- the part cut off becomes part of a gap
pub may_cut-read : (live : LiveSet) (x : Extent) (n gap cut : ℕ) → gap ≡ gap_after live x → cut + room n ≡ x.len
    → may_cut live x n ≡ (nat_lt 0 gap || nat_le 32 cut)
may_cut-read live x n gap cut g c = ap (λ k. nat_lt 0 k || nat_le (room n + 32) x.len) (sym g)
    ∙ ap (λ (b : Bool). nat_lt 0 gap || b) (le_shift (room n) x.len cut c)

-- a block that is no longer than requested stays
pub shorter_same : (live : LiveSet) (x : Extent) (n : ℕ) → x.len ≤ room n → shorter live x n ≡ x
unfolding shorter
shorter_same live x n l =
    cond-false (nat_lt (room n) x.len && (nat_lt 0 (gap_after live x) || nat_le (room n + 32) x.len))
    (record x { len = room n }) x
    (false_first (nat_lt (room n) x.len) (nat_lt 0 (gap_after live x) || nat_le (room n + 32) x.len)
    (le-ltb (room n) x.len l))

shorter_kept : (live : LiveSet) (x : Extent) (n : ℕ) → may_cut live x n ≡ false → shorter live x n ≡ x
unfolding shorter
shorter_kept live x n e =
    cond-false (nat_lt (room n) x.len && (nat_lt 0 (gap_after live x) || nat_le (room n + 32) x.len))
    (record x { len = room n }) x
    (false_last (nat_lt (room n) x.len) (nat_lt 0 (gap_after live x) || nat_le (room n + 32) x.len) e)

-- a longer block is cut to the requested length
pub shorter_cut : (live : LiveSet) (x : Extent) (n : ℕ) → room n < x.len → may_cut live x n ≡ true
    → shorter live x n ≡ record x { len = room n }
unfolding shorter
shorter_cut live x n l e =
    cond-true (nat_lt (room n) x.len && (nat_lt 0 (gap_after live x) || nat_le (room n + 32) x.len))
    (record x { len = room n }) x
    (and_from (nat_lt (room n) x.len) (nat_lt 0 (gap_after live x) || nat_le (room n + 32) x.len)
    (lt-ltb (room n) x.len l) e)

both_false : (a b : Bool) → a ≡ false → b ≡ false → (a || b) ≡ false
both_false a b e f = ap (λ (x : Bool). x || b) e ∙ f

share_cut : (available wanted : ℕ) → wanted + 32 ≤ available → share available wanted ≡ wanted
share_cut available wanted l = cond-false (nat_lt available (wanted + 32)) available wanted
    (le-ltb available (wanted + 32) l)

share_all : (available wanted : ℕ) → available < wanted + 32 → share available wanted ≡ available
share_all available wanted l = cond-true (nat_lt available (wanted + 32)) available wanted
    (lt-ltb available (wanted + 32) l)

-- a block with the gap after it, cut, is the result of `shorter`
cut_cases : (live : LiveSet) (x : Extent) (n : ℕ) → room n < x.len → (gap_after live x ≡ 0) ⊎ (32 ≤ gap_after live x)
    → (x.len < room n + 32) ⊎ (room n + 32 ≤ x.len)
    → record x { len = share (x.len + gap_after live x) (room n) } ≡ shorter live x n
cut_cases live x n less (inl none) (inl l) =
    let all : share (x.len + gap_after live x) (room n) ≡ x.len = share_all (x.len + gap_after live x) (room n)
    (omega arith) ∙ ap (λ g. x.len + g) none ∙ plus_none x.len in
    (λ i. record x { len = all i })
    ∙ sym (shorter_kept live x n (both_false (nat_lt 0 (gap_after live x)) (nat_le (room n + 32) x.len)
    (le-ltb 0 (gap_after live x) (omega arith)) (lt-leb (room n + 32) x.len l)))
  where
    plus_none : (k : ℕ) → k + 0 ≡ k
    plus_none k = omega arith
cut_cases live x n less gap (inr l) =
    let some : share (x.len + gap_after live x) (room n) ≡ room n = share_cut (x.len + gap_after live x)
    (room n) (omega arith) in
    (λ i. record x { len = some i })
    ∙ sym (shorter_cut live x n less (or_right (nat_lt 0 (gap_after live x)) (nat_le (room n + 32) x.len)
    (le-leb (room n + 32) x.len l)))
cut_cases live x n less (inr g) (inl l) =
    let some : share (x.len + gap_after live x) (room n) ≡ room n = share_cut (x.len + gap_after live x)
    (room n) (omega arith) in
    (λ i. record x { len = some i })
    ∙ sym (shorter_cut live x n less (or_left (nat_lt 0 (gap_after live x)) (nat_le (room n + 32) x.len)
    (lt-ltb 0 (gap_after live x) (omega arith))))

gap_cases : (old : WindowState) (heap : IsHeap current old.bytes) (h : ℕ) (b : Block old h)
    → (gap_after (live_of old.bytes) (extent_of b.tile b.role) ≡ 0)
    ⊎ (32 ≤ gap_after (live_of old.bytes) (extent_of b.tile b.role))
gap_cases old heap h b =
    let x = extent_of b.tile b.role in
    let n = is_extent-IsNeighbour (live_of old.bytes) (extent_of b.tile b.role)
    (is_proper-IsProper (live_of old.bytes) heap.proper) (is_one old heap h b.tile.offset b refl 0) in
    let reaches = n.gap in
    elim n.hole [ inl e ↦ inl (omega arith) | inr l ↦ inr (omega arith) ]

-- a block that is cut is shortened
pub shortened : (old new : WindowState) (h n : ℕ) → (heap : IsHeap current old.bytes) → (b : Block old h)
    → room n < b.tile.len → may_cut (live_of old.bytes) (extent_of b.tile b.role) n ≡ true
    → SplitsBlock current old new h (room n) → ShrinksInPlace current old new h n
shortened old new h n heap b less cuts cut =
    let live = live_of old.bytes in
    let same : extent_of b.tile b.role ≡ cut.extent = same_Some (extent_of b.tile b.role) cut.extent
    (sym b.extent ∙ cut.found) in
    let P : Extent → Type 0 = λ (x : Extent). record x { len = share (x.len + gap_after live x) (room n) }
    ≡ shorter live x n in
    let is : P (extent_of b.tile b.role) = cut_cases live (extent_of b.tile b.role) n less (gap_cases old heap h b)
    (cases_lt b.tile.len (room n + 32)) in
    let Q : Extent → Type 0 = λ (x : Extent). shorter live x n ≡ x → new ≡ old in
    let is_cut : Q (extent_of b.tile b.role) = λ e.
    (let lens : room n ≡ b.tile.len = ap (λ (x : Extent). x.len)
    (sym (shorter_cut live (extent_of b.tile b.role) n less cuts) ∙ e) in absurd (omega arith)) in
    record {
      extent = cut.extent;
      found = cut.found;
      shortened = subst (λ (z : Extent). ResizesBlock current old new cut.extent z) (subst P same is) cut.resized;
      same = subst Q same is_cut;
    }

-- a block that stays is unchanged
resized_same : (old : WindowState) (heap : IsHeap current old.bytes) (h : ℕ) (b : Block old h)
    → resized (live_of old.bytes) (extent_of b.tile b.role) ≡ live_of old.bytes
unfolding live_of
resized_same old heap h b =
    let row = said_row old (b.front ++ (b.tile ∷ b.back)) b.said in
    let x = extent_of b.tile b.role in
    let all = ap extents_of b.list ∙ extents_of-around b.front b.tile b.back b.role b.in_use in
    let same =
    ap (λ xs. insert x (others (b.tile.offset + 16) xs)) all
    ∙ ap (insert x) (others_between 128 b.front b.tile b.back (length old.bytes - 16) x
    (b.tile.offset + 16) row refl refl)
    ∙ insert_between 128 b.front b.tile b.back (length old.bytes - 16) x row refl ∙ sym all in
    λ i. record { size = length old.bytes; extents = same i }

kept_block : (old : WindowState) (heap : IsHeap current old.bytes) (h : ℕ) (b : Block old h)
    → ResizesBlock current old old (extent_of b.tile b.role) (extent_of b.tile b.role)
kept_block old heap h b =
    record {
      live = subst (EncodesLiveSet current old.bytes) (sym (resized_same old heap h b)) heap;
      keeps = keeps-refl old (others (b.tile.offset + 16) (live_of old.bytes).extents);
      still = SameBlock-refl (bytes_of old.bytes)
          (record (extent_of b.tile b.role) { len = min b.tile.len b.tile.len });
    }

block_stays : (old : WindowState) (h n : ℕ) → (heap : IsHeap current old.bytes) → (b : Block old h)
    → shorter (live_of old.bytes) (extent_of b.tile b.role) n ≡ extent_of b.tile b.role
    → ShrinksInPlace current old old h n
block_stays old h n heap b e =
    record {
      extent = extent_of b.tile b.role;
      found = b.extent;
      shortened = subst (λ (z : Extent). ResizesBlock current old old (extent_of b.tile b.role) z) (sym e)
          (kept_block old heap h b);
      same = λ _. refl;
    }

-- a block that is not longer is not shortened
pub not_shortened : (old : WindowState) (h n : ℕ) → (heap : IsHeap current old.bytes) → (b : Block old h)
    → b.tile.len ≤ room n → ShrinksInPlace current old old h n
not_shortened old h n heap b l = block_stays old h n heap b
    (shorter_same (live_of old.bytes) (extent_of b.tile b.role) n l)

-- a block of which nothing can be cut off also stays
pub not_cut : (old : WindowState) (h n : ℕ) → (heap : IsHeap current old.bytes) → (b : Block old h)
    → may_cut (live_of old.bytes) (extent_of b.tile b.role) n ≡ false → ShrinksInPlace current old old h n
not_cut old h n heap b e = block_stays old h n heap b (shorter_kept (live_of old.bytes) (extent_of b.tile b.role) n e)

-- ---- reads before a block is lengthened or shortened

-- the length of the block, and that of the gap after it
pub record Measured (w : WindowState) (h : ℕ) (b : Block w h) (len gap : ℕ) : Type 0 where
  pub len_is : len ≡ b.tile.len
  pub gap_is : gap ≡ gap_after (live_of w.bytes) (extent_of b.tile b.role)
  pub high : b.tile.len + gap_after (live_of w.bytes) (extent_of b.tile b.role) ≤ 1073741824

-- the lengths read of a block and of the gap after it are those in the live set
pub measured : (w : WindowState) (at : ℕ) (heap : IsHeap current w.bytes) (b : Block w (at + 16)) (t : Tile)
    → ((ts : List Tile) → EncodesTiles w ts → tile_in ts at ≡ Some t)
    → (gap : ℕ) → ((ts : List Tile) → EncodesTiles w ts → gap ≡ free_behind at ts) → Measured w (at + 16) b t.len gap
measured w at heap b t stands gap behind =
    let o = b.at in
    record {
      len_is = block_len w (at + 16) at b refl t stands;
      gap_is = gap_read w heap (at + 16) at b (omega arith)
          0 gap behind;
      high = gap_high w heap (at + 16) at b (omega arith) 0;
    }
