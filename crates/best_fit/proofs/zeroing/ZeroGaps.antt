-- The free bytes of gaps made zero, one gap after the other.
use Rattle.best_fit.proofs.Common.{◌≡◌, refl, sym, ap, subst, ◌∙◌, ℕ, ◌+◌, ◌-◌, ◌/◌, ◌%◌, ◌<◌, ◌≤◌, ◌⊎◌, inl, inr, true}
use Rattle.best_fit.proofs.Common.{false, List, [], ◌∷◌, ◌++◌, length, append_assoc, arith, ◌==◌, Some, None, is_some}
use Rattle.best_fit.proofs.Common.{replicate, AllByRecursion, append-nil, none-some, Memory, WindowState}
use Rattle.best_fit.proofs.Common.{SameBytesExcept, SameSurroundings, bytes_of, patched, word_at, with_bytes}
use Rattle.best_fit.proofs.Common.{length-patched, SameBytes-word, Role, Tile, current, EncodesTiles}
use Rattle.best_fit.proofs.Common.{one_tile_at_an_offset, payload_may_change, target_of, Gap, cells_of, IsHeap}
use Rattle.best_fit.proofs.Common.{ZeroesFree, SameBlock, gap_of, gaps_of, tiles_in}
use Rattle.std.proofs.lemmas.List.{length-replicate}
use Rattle.raw_region.specs.Memory.{AreZero}
use Rattle.raw_region.proofs.Laws.{filled-AreZero, filled-SameBytesExcept}
use Rattle.best_fit.specs.Heap.{IsBesideFree}
use Rattle.best_fit.proofs.tags.RowParts.{row_back, row_end, row_front}
use Rattle.best_fit.proofs.gaps.Nodes.{Disjoint, NodeAt, row_disjoint, row_lies}
use Rattle.best_fit.proofs.gaps.Setters.{cell_stays}
use Rattle.best_fit.proofs.tags.TagsAndLiveSet.{heap-gaps, heap-says, legal_size, said_row}
use Rattle.best_fit.proofs.tags.TileRows.{Row, unused, used, use_cases, extent_of, gaps_of-free, gaps_of-used}
use Rattle.best_fit.proofs.tags.UnchangedTags.{all_joined, In, all_used}
use Rattle.best_fit.proofs.free_tree.WalkTurns.{gaps_kept, Ended, Passed, free_if, gaps_past_block, gaps_past_gap}
use Rattle.best_fit.proofs.free_tree.WalkTurns.{passed_in}
use Rattle.best_fit.proofs.free_tree.WalkTurns.{passes}
use Rattle.best_fit.proofs.tile_walk.Walk.{Turn, live_extents}
use Rattle.best_fit.proofs.tags.Writes.{free_stays, same_live}

-- the free bytes of a gap are 0
abbrev pub IsZero : Memory → Gap → Type 0
IsZero m g = AreZero m (g.offset + 32) (g.offset + g.len)

-- the gaps among the tiles that are passed are zero, and nothing else has changed
pub record Zeroed (old new : WindowState) (passed rest : List Tile) : Type 0 where
  pub list : tiles_in old ≡ passed ++ rest
  pub size : length new.bytes ≡ length old.bytes
  pub place : SameSurroundings old new
  pub same : (k : ℕ) → AllByRecursion (IsBesideFree current k) (gaps_of passed)
      → bytes_of new.bytes k ≡ bytes_of old.bytes k
  pub zero : AllByRecursion (IsZero (bytes_of new.bytes)) (gaps_of passed)

-- before the first tile nothing is zeroed
pub zeroed_start : (old : WindowState) → Zeroed old old [] (tiles_in old)
zeroed_start old = record {
  list = refl;
  size = refl;
  place = record { before = refl; after = refl };
  same = λ k h. refl;
  zero = tt;
}

all_split : (P : Gap → Type 0) (xs ys : List Gap) → AllByRecursion P (xs ++ ys)
    → AllByRecursion P xs × AllByRecursion P ys
all_split P [] ys h = (tt, h)
all_split P (x ∷ xs) ys h = let rest = all_split P xs ys h.1 in ((h.0, rest.0), rest.1)

-- a block is passed as it is
pub zeroing_used : (old new next : WindowState) (tile : Tile) → Turn new (Zeroed old new) tile
    → is_some tile.use_of ≡ true → next ≡ new → Passed next (Zeroed old next) tile.offset
zeroing_used old new next tile t some e =
    let z = t.holds in
    let gaps = gaps_past_block t.passed tile some in
    passed_in (λ (c : WindowState). Zeroed old c) tile.offset new next e
    (passes new (Zeroed old new) t.passed tile t.back t.said (record {
      list = z.list ∙ sym (append_assoc t.passed (tile ∷ []) t.back);
      size = z.size;
      place = z.place;
      same = λ k h. z.same k (subst (AllByRecursion (IsBesideFree current k)) gaps h);
      zero = subst (AllByRecursion (IsZero (bytes_of new.bytes))) (sym gaps) z.zero;
    }))

-- bytes before the bytes that change stay zero
zero_kept : (m m' : Memory) (at : ℕ) (ts : List Tile) (end from n : ℕ) → Row at ts end → end ≤ from
    → SameBytesExcept m m' from n → AllByRecursion (IsZero m) (gaps_of ts) → AllByRecursion (IsZero m') (gaps_of ts)
zero_kept m m' at ts end from n r l same = gaps_kept (IsZero m) (IsZero m') at ts end r (λ t long high z.
    record { at = λ k a b. same.at k (inl (omega arith)) ∙ z.at k a b })

-- a gap is made zero and passed
pub zeroing_free : (old new next : WindowState) (tile : Tile) (t : Turn new (Zeroed old new) tile)
    → is_some tile.use_of ≡ false
    → next ≡ with_bytes new (patched new.bytes (tile.offset + 32) (replicate (tile.len - 32) 0))
    → Passed next (Zeroed old next) tile.offset
unfolding current
zeroing_free old new next tile t none e =
    let z = t.holds in let at = tile.offset in let n = tile.len - 32 in
    let out : WindowState = with_bytes new (patched new.bytes (tile.offset + 32) (replicate (tile.len - 32) 0)) in
    let long = t.meets.long in let within = t.meets.within in
    let least = (legal_size (length new.bytes) t.said.size).low in
    let inside : at + 32 + n ≤ length new.bytes = omega arith in
    let only = filled-SameBytesExcept new.bytes (at + 32) n 0 inside in
    let size : length out.bytes ≡ length new.bytes = length-patched new.bytes (at + 32) (replicate n 0)
    (omega (arith, length-replicate {A = ℕ} n 0)) in
    let row = said_row new (t.passed ++ (tile ∷ t.back)) t.said in
    let front = row_front 128 t.passed (tile ∷ t.back) (length new.bytes - 16) row in
    let ends = (row_back 128 t.passed (tile ∷ t.back) (length new.bytes - 16) row).0 in
    let stands = one_tile_at_an_offset new t.passed tile t.back t.said in
    let says : EncodesTiles out (t.passed ++ (tile ∷ t.back)) = payload_may_change new out (t.passed ++ (tile ∷ t.back))
    at tile t.said stands size (at + 32) n (omega arith) (omega arith) only in
    let zero_here = filled-AreZero new.bytes (at + 32) n inside in
    let here : AllByRecursion (IsZero (bytes_of out.bytes)) (gap_of tile ∷ []) =
    (record { at = λ k a b. zero_here.at k (omega arith) (omega arith) }, tt) in
    let zeros = all_joined (IsZero (bytes_of out.bytes)) (gaps_of t.passed) (gap_of tile ∷ [])
    (zero_kept (bytes_of new.bytes) (bytes_of out.bytes) 128 t.passed (row_end 128 t.passed) (at + 32) n front
    (omega arith) only z.zero) here in
    let gaps = gaps_past_gap t.passed tile (free_if tile none) in
    passed_in (λ (c : WindowState). Zeroed old c) tile.offset out next e
    (passes out (Zeroed old out) t.passed tile t.back says (record {
      list = z.list ∙ sym (append_assoc t.passed (tile ∷ []) t.back);
      size = size ∙ z.size;
      place = record { before = z.place.before; after = z.place.after };
      same = λ k h.
          (let two = all_split (IsBesideFree current k) (gaps_of t.passed) (gap_of tile ∷ [])
          (subst (AllByRecursion (IsBesideFree current k)) gaps h) in
          only.at k (away k two.1.0) ∙ z.same k two.0);
      zero = subst (AllByRecursion (IsZero (bytes_of out.bytes))) (sym gaps) zeros;
    }))
  where
    away : (k : ℕ) → IsBesideFree current k (gap_of tile)
        → (k < tile.offset + 32) ⊎ (tile.offset + 32 + (tile.len - 32) ≤ k)
    away k (inl l) = inl (omega arith)
    away k (inr l) = let long = t.meets.long in inr (omega arith)

-- ---- the bytes outside the free bytes of all gaps

module _ (t : Tile) (k : ℕ) (low : t.offset ≤ k) (high : k < t.offset + t.len) (own : t.use_of ≡ None
    → k < t.offset + 32) where
  one_beside : (u : Tile) → u.use_of ≡ None → Disjoint u t → IsBesideFree current k (gap_of u)
  unfolding current
  one_beside u e (inl same) =
      let l = own (ap (λ (v : Tile). v.use_of) (sym same) ∙ e) in let o : u.offset ≡ t.offset =
      ap (λ (v : Tile). v.offset) same in inl (omega arith)
  one_beside u e (inr (inl l)) = inr (omega arith)
  one_beside u e (inr (inr l)) = inl (omega arith)

  each_beside : (us : List Tile) → ((u : Tile) → In u us → Disjoint u t)
      → AllByRecursion (IsBesideFree current k) (gaps_of us)
  each_beside [] h = tt
  each_beside (u ∷ us) h =
      let rest = each_beside us (λ v i. h v (inr i)) in
      elim (use_cases u) [
        | used role e ↦ subst (AllByRecursion (IsBesideFree current k)) (sym (gaps_of-used u us role e)) rest
        | unused e ↦ let both : AllByRecursion (IsBesideFree current k) (gap_of u ∷ gaps_of us) =
            (one_beside u e (h u (inl refl)), rest) in
            subst (AllByRecursion (IsBesideFree current k)) (sym (gaps_of-free u us e)) both
      ]

-- and so do the bytes below the first tile
below_beside : (at : ℕ) (ts : List Tile) (end k : ℕ) → Row at ts end → k < at
    → AllByRecursion (IsBesideFree current k) (gaps_of ts)
below_beside at [] end k r l = tt
below_beside at (u ∷ us) end k r l =
    let rest = below_beside (at + u.len) us end k r.3 (omega arith) in let o = r.0 in
    elim (use_cases u) [
      | used role e ↦ subst (AllByRecursion (IsBesideFree current k)) (sym (gaps_of-used u us role e)) rest
      | unused e ↦ let both : AllByRecursion (IsBesideFree current k) (gap_of u ∷ gaps_of us) =
          (inl (omega arith), rest) in subst (AllByRecursion (IsBesideFree current k)) (sym (gaps_of-free u us e)) both
    ]

-- if only the free bytes of gaps change, all other bytes stay
module _ (old new : WindowState) (heap : IsHeap current old.bytes) (same : (k : ℕ)
    → AllByRecursion (IsBesideFree current k)
    (gaps_of (tiles_in old)) → bytes_of new.bytes k ≡ bytes_of old.bytes k) where
  old_row : Row 128 (tiles_in old) (length old.bytes - 16)
  old_row = said_row old (tiles_in old) (heap-says old heap).said

  header_byte : (k : ℕ) → k < 128 → bytes_of new.bytes k ≡ bytes_of old.bytes k
  header_byte k l = same k (below_beside 128 (tiles_in old) (length old.bytes - 16) k old_row l)

  tile_byte : (t : Tile) → In t (tiles_in old) → (k : ℕ) → t.offset ≤ k → k < t.offset + t.len
      → (t.use_of ≡ None → k < t.offset + 32) → bytes_of new.bytes k ≡ bytes_of old.bytes k
  tile_byte t i k low high own =
      same k (each_beside t k low high own (tiles_in old)
      (λ u j. row_disjoint 128 (tiles_in old) (length old.bytes - 16) u t old_row j i))

  header_word : word_at (bytes_of new.bytes) 24 ≡ word_at (bytes_of old.bytes) 24
  header_word = SameBytes-word (bytes_of old.bytes) (bytes_of new.bytes) 24 (24 + 8) 24
      (record { at = λ k a b. header_byte k (omega arith) }) (omega arith) (omega arith)

  used_block : (t : Tile) → In t (tiles_in old) → (role : Role) → t.use_of ≡ Some role
      → SameBlock (bytes_of old.bytes) (bytes_of new.bytes) (extent_of t role)
  used_block t i role e =
      let never : t.use_of ≡ None → ⊥ = λ f. none-some role (sym f ∙ e) in
      let long = (row_lies 128 (tiles_in old) (length old.bytes - 16) t old_row i).long in
      record {
        payload = record { at = λ k a b. tile_byte t i k (omega arith) b (λ f. absurd (never f)) };
        colour = ap (λ w. w % 16) (SameBytes-word (bytes_of old.bytes) (bytes_of new.bytes) (t.offset + 8)
            (t.offset + 8 + 8) (t.offset + 8)
            (record { at = λ k a b. tile_byte t i k (omega arith) (omega arith) (λ f. absurd (never f)) })
            (omega arith) (omega arith));
      }

  gap_cell : (m : ℕ) → NodeAt old m → cells_of (bytes_of new.bytes) m ≡ cells_of (bytes_of old.bytes) m
  gap_cell m n =
      let t = n.free_tile.tile in let at = n.free_tile.at in let long = n.long in
      let word : (k : ℕ) → t.offset ≤ k → k + 8 ≤ t.offset + 32 → word_at (bytes_of new.bytes) k ≡ word_at
      (bytes_of old.bytes) k = λ k a b.
      SameBytes-word (bytes_of old.bytes) (bytes_of new.bytes) k (k + 8) k
      (record { at = λ j c d. tile_byte t n.is_in_list j (omega arith) (omega arith) (λ f. omega arith) })
      (omega arith) (omega arith) in
      cell_stays (bytes_of old.bytes) (bytes_of new.bytes) m (ap (target_of m) (word m (omega arith) (omega arith)))
      (ap (target_of (m + 8)) (word (m + 8) (omega arith) (omega arith)))
      (ap (λ w. w / 2 % 2 == 1) (word (m - 8) (omega arith) (omega arith)))

-- at the end all gaps are zero
pub zeroing_end : (old new : WindowState) → IsHeap current old.bytes → Ended new (Zeroed old new)
    → ZeroesFree current old new
unfolding current
zeroing_end old new heap w =
    let z = w.holds in
    let all : tiles_in old ≡ w.tiles = z.list ∙ append-nil w.tiles in
    let same : (k : ℕ) → AllByRecursion (IsBesideFree current k) (gaps_of (tiles_in old))
    → bytes_of new.bytes k ≡ bytes_of old.bytes k =
    λ k h. z.same k (subst (λ (ts : List Tile). AllByRecursion (IsBesideFree current k) (gaps_of ts)) all h) in
    record {
      live = same_live old new heap (subst (EncodesTiles new) (sym all) w.said) z.size
          (free_stays old new heap (ap (target_of 24) (header_word old new heap same)) (gap_cell old new heap same));
      keeps = record {
        place = z.place;
        front = record { at = λ k a b. header_byte old new heap same k (omega arith) };
        behind = record { at = λ k a b. header_byte old new heap same k b };
        blocks = subst (AllByRecursion (SameBlock (bytes_of old.bytes) (bytes_of new.bytes))) (sym (live_extents old))
            (all_used (SameBlock (bytes_of old.bytes) (bytes_of new.bytes)) (tiles_in old)
            (used_block old new heap same));
      };
      zero = subst (AllByRecursion (IsZero (bytes_of new.bytes))) (sym (heap-gaps old heap ∙ ap gaps_of all)) z.zero;
      rest = λ k h. same k (subst (AllByRecursion (IsBesideFree current k)) (heap-gaps old heap) h);
    }
