-- Tiles in two memories, with the same payloads: their blocks and their tree are the same. And a window whose end
-- moves.
use Rattle.best_fit.proofs.Common.{◌≡◌, sym, ap, subst, ◌∙◌, ℕ, ◌+◌, ◌-◌, ◌/◌, ◌%◌, ◌≤◌, true, List, ◌++◌, length, take}
use Rattle.best_fit.proofs.Common.{drop, arith, ◌==◌, append_assoc, slice_index, AllByRecursion, length-append, Memory}
use Rattle.best_fit.proofs.Common.{WindowState, SameBytes, SameSurroundings, bytes_of, part, whole, word_at}
use Rattle.best_fit.proofs.Common.{SameBytes-trans, SameBytes-word, length-part, part-at, whole-cut_at, Tile, is_in}
use Rattle.best_fit.proofs.Common.{link_at, target_of, KeepsTo, Extent, IsTreeOf, cells_of, payloads, sorted_gaps}
use Rattle.best_fit.proofs.Common.{gaps_of, KeepsBlocks, SameBlock}
use Rattle.std.proofs.Math.Seq.{drop-append_seam, take-append_seam}
use Rattle.std.proofs.lemmas.List.{drop-drop}
use Rattle.raw_region.specs.Memory.{cut_at}
use Rattle.best_fit.specs.Ends.{EndsAt}
use Rattle.best_fit.proofs.tags.Frames.{blocks-trans}
use Rattle.best_fit.proofs.gaps.Nodes.{free_at, in_around, row_lies}
use Rattle.best_fit.proofs.gaps.Order.{gap_tree_stays}
use Rattle.best_fit.proofs.gaps.Setters.{cell_stays}
use Rattle.best_fit.proofs.tags.TileRows.{Row, extents_of}
use Rattle.best_fit.proofs.tags.UnchangedTags.{HasTag, In, all_used}

-- ---- tiles in two memories

-- both memories describe these tiles, and have the same bytes in their payloads and in the header
pub record Carries (m m' : Memory) (ts : List Tile) (end : ℕ) : Type 0 where
  pub row : Row 128 ts end
  pub old : (t : Tile) → In t ts → HasTag m t
  pub new : (t : Tile) → In t ts → HasTag m' t
  pub payload : (t : Tile) → In t ts → SameBytes m m' (t.offset + 16) (t.offset + t.len)
  pub header : SameBytes m m' 0 128

module _ (m m' : Memory) (ts : List Tile) (end : ℕ) (c : Carries m m' ts end) where
  tag_stays : (t : Tile) → In t ts → word_at m' (t.offset + 8) ≡ word_at m (t.offset + 8)
  tag_stays t i = (c.new t i).word ∙ sym (c.old t i).word

  -- the blocks of the tiles stay
  pub carried_blocks : AllByRecursion (SameBlock m m') (extents_of ts)
  carried_blocks = all_used (SameBlock m m') ts
      (λ t i role e. record { payload = c.payload t i; colour = ap (λ w. w % 16) (tag_stays t i) })

  link_stays : (t : Tile) → In t ts → (n : ℕ) → t.offset + 16 ≤ n → n + 8 ≤ t.offset + t.len
      → link_at m' n ≡ link_at m n
  link_stays t i n low high =
      ap (target_of n) (SameBytes-word m m' (t.offset + 16) (t.offset + t.len) n (c.payload t i) low high)

  -- the fields of the gaps stay
  carried_cell : (n : ℕ) → is_in n (payloads (gaps_of ts)) ≡ true → cells_of m' n ≡ cells_of m n
  carried_cell n h =
      let f = free_at ts n h in
      let i : In f.tile ts = subst (λ (us : List Tile). In f.tile us) (sym f.list) (in_around f.front f.tile f.back) in
      let lies = row_lies 128 ts end f.tile c.row i in
      let at = f.at in let long = lies.long in
      let tag : f.tile.offset + 8 ≡ n - 8 = omega arith in
      cell_stays m m' n (link_stays f.tile i n (omega arith) (omega arith))
      (link_stays f.tile i (n + 8) (omega arith) (omega arith))
      (ap (λ w. w / 2 % 2 == 1) (subst (λ k. word_at m' k ≡ word_at m k) tag (tag_stays f.tile i)))

  -- the root is in the header
  carried_root : link_at m' 24 ≡ link_at m 24
  carried_root = ap (target_of 24) (SameBytes-word m m' 0 128 24 c.header (omega arith) (omega arith))

  -- and their tree stays
  pub carried_tree : IsTreeOf m 24 (payloads (sorted_gaps (gaps_of ts)))
      → IsTreeOf m' 24 (payloads (sorted_gaps (gaps_of ts)))
  carried_tree = gap_tree_stays m m' (gaps_of ts) carried_root carried_cell

-- ---- a window that ends elsewhere

-- the bytes after the base are the window's, followed by the bytes after it
in_three : (c : WindowState) → whole c ≡ c.before ++ (c.bytes ++ c.after)
in_three c = append_assoc c.before c.bytes c.after

behind_base : (c : WindowState) → drop (length c.before) (whole c) ≡ c.bytes ++ c.after
behind_base c = ap (λ (l : List ℕ). drop (length c.before) l) (in_three c)
    ∙ drop-append_seam c.before (c.bytes ++ c.after)

behind_window : (c : WindowState) → drop (length c.before + length c.bytes) (whole c) ≡ c.after
behind_window c =
    sym (drop-drop (length c.bytes) (length c.before) (whole c))
    ∙ ap (λ (l : List ℕ). drop (length c.bytes) l) (behind_base c) ∙ drop-append_seam c.bytes c.after

own_bytes : (c : WindowState) → part (whole c) (length c.before) (length c.bytes) ≡ c.bytes
own_bytes c = ap (λ (l : List ℕ). take (length c.bytes) l) (behind_base c) ∙ take-append_seam c.bytes c.after

own_before : (c : WindowState) → take (length c.before) (whole c) ≡ c.before
own_before c = ap (λ (l : List ℕ). take (length c.before) l) (in_three c)
    ∙ take-append_seam c.before (c.bytes ++ c.after)

dropped_twice : (l : List ℕ) (base n m : ℕ) → drop (n - m) (drop (base + m) l) ≡ drop (m - n) (drop (base + n) l)
dropped_twice l base n m =
    let e : base + m + (n - m) ≡ base + n + (m - n) = omega arith in
    drop-drop (n - m) (base + m) l ∙ ap (λ (k : ℕ). drop k l) e ∙ sym (drop-drop (m - n) (base + n) l)

module _ (c d : WindowState) (size : ℕ) (e : d ≡ cut_at (whole c) (length c.before) size)
    (inside : length c.before + size ≤ length (whole c)) where
  -- the window has the same place in the region
  pub resized_ends : EndsAt c d size
  resized_ends =
      subst (λ (v : WindowState). EndsAt c v size) (sym e) (record {
        before = own_before c;
        bytes = length-part (whole c) (length c.before) size inside;
        capacity = ap (λ (l : List ℕ). length l) (whole-cut_at (whole c) (length c.before) size);
        after = dropped_twice (whole c) (length c.before) (length c.bytes) size
            ∙ ap (λ (l : List ℕ). drop (size - length c.bytes) l) (behind_window c);
      })

  -- and the bytes are the same as far as both windows reach
  pub resized_same : (n : ℕ) → n ≤ length c.bytes → n ≤ size → SameBytes (bytes_of c.bytes) (bytes_of d.bytes) 0 n
  resized_same n a b =
      subst (λ (v : WindowState). SameBytes (bytes_of c.bytes) (bytes_of v.bytes) 0 n) (sym e) (record {
        at = λ k low high.
            part-at (whole c) (length c.before) size k (omega arith)
            ∙ sym (part-at (whole c) (length c.before) (length c.bytes) k (omega arith))
            ∙ ap (λ (l : List ℕ). slice_index l k) (own_bytes c);
      })

-- ---- changes before the end moves, and after

length_whole : (a b : WindowState) → b.before ≡ a.before → b.after ≡ a.after → length b.bytes ≡ length a.bytes
    → length (whole b) ≡ length (whole a)
length_whole a b e f g =
    let first : length b.before ≡ length a.before = ap (λ (l : List ℕ). length l) e in
    let last : length b.after ≡ length a.after = ap (λ (l : List ℕ). length l) f in
    omega (
      arith,
      length-append (a.before ++ a.bytes) a.after,
      length-append a.before a.bytes,
      length-append (b.before ++ b.bytes) b.after,
      length-append b.before b.bytes,
    )

-- a window whose end moves, and which then changes inside, keeps this end
pub ends-then : (a b c : WindowState) (n : ℕ) → EndsAt a b n → SameSurroundings b c
    → length c.bytes ≡ length b.bytes → EndsAt a c n
ends-then a b c n p place size =
    record {
      before = place.before ∙ p.before;
      bytes = size ∙ p.bytes;
      capacity = length_whole b c place.before place.after size ∙ p.capacity;
      after = ap (λ (l : List ℕ). drop (length a.bytes - n) l) place.after ∙ p.after;
    }

-- a window that changes inside, and whose end then moves, has this end
pub then-ends : (a b c : WindowState) (n : ℕ) → SameSurroundings a b → length b.bytes ≡ length a.bytes
    → EndsAt b c n → EndsAt a c n
then-ends a b c n place size p =
    record {
      before = p.before ∙ place.before;
      bytes = p.bytes;
      capacity = p.capacity ∙ length_whole a b place.before place.after size;
      after = ap (λ (k : ℕ). drop (k - n) c.after) (sym size) ∙ p.after
          ∙ ap (λ (k : ℕ). drop (n - k) b.after) size ∙ ap (λ (l : List ℕ). drop (n - length a.bytes) l) place.after;
    }

-- blocks are kept to another end, and then by a change
pub keeps_to-then : (a b c : WindowState) (n : ℕ) (xs : List Extent) → KeepsTo a b n xs → KeepsBlocks b c xs
    → length c.bytes ≡ length b.bytes → KeepsTo a c n xs
keeps_to-then a b c n xs p q size =
    record {
      place = ends-then a b c n p.place q.place size;
      front = SameBytes-trans (bytes_of a.bytes) (bytes_of b.bytes) (bytes_of c.bytes) 0 24 p.front q.front;
      behind = SameBytes-trans (bytes_of a.bytes) (bytes_of b.bytes) (bytes_of c.bytes) 32 128 p.behind q.behind;
      blocks = blocks-trans (bytes_of a.bytes) (bytes_of b.bytes) (bytes_of c.bytes) xs p.blocks q.blocks;
    }

-- blocks are kept by a change, and then to another end
pub then-keeps_to : (a b c : WindowState) (n : ℕ) (xs : List Extent) → KeepsBlocks a b xs
    → length b.bytes ≡ length a.bytes
    → KeepsTo b c n xs → KeepsTo a c n xs
then-keeps_to a b c n xs p size q =
    record {
      place = then-ends a b c n p.place size q.place;
      front = SameBytes-trans (bytes_of a.bytes) (bytes_of b.bytes) (bytes_of c.bytes) 0 24 p.front q.front;
      behind = SameBytes-trans (bytes_of a.bytes) (bytes_of b.bytes) (bytes_of c.bytes) 32 128 p.behind q.behind;
      blocks = blocks-trans (bytes_of a.bytes) (bytes_of b.bytes) (bytes_of c.bytes) xs p.blocks q.blocks;
    }
