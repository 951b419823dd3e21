-- A window that is laid out, with a tree of its one gap, is a heap with no block in use.
use Rattle.best_fit.proofs.Common.{◌≡◌, refl, sym, ap, subst, ◌∙◌, ℕ, ◌-◌, ◌%◌, ◌<◌, ◌≤◌, ◌⊎◌, inl, inr, false, List}
use Rattle.best_fit.proofs.Common.{[], ◌∷◌, length, arith, ◌==◌, Some, None, false≢true, cond_both, cond-true}
use Rattle.best_fit.proofs.Common.{cond-false, cases_lt, eq-eqb, ne_eqb, WindowState, SameBytes, SameBytesExcept}
use Rattle.best_fit.proofs.Common.{SameSurroundings, bytes_of, word_at, AllByRecursion, Tile, current, free_tile}
use Rattle.best_fit.proofs.Common.{IsBesideTags, EncodesTiles, SameExceptTags, legal, header_may_change}
use Rattle.best_fit.proofs.Common.{one_tile_at_an_offset, payload_may_change, tiles_are_read_off, leaf, fork, link_at}
use Rattle.best_fit.proofs.Common.{SameBytesExcept-link, Gap, gaps, IsTreeOf, cells_of, payloads, sorted_gaps, gap_of}
use Rattle.best_fit.proofs.Common.{gaps_of, tiles_in, EncodesLiveSet, live_of, no_blocks}
use Rattle.block_tags.specs.Lists.{laid}
use Rattle.offset_link.proofs.Laws.{null_word}
use Rattle.best_fit.specs.Heap.{HasNullLinks, FormatsHeap}
use Rattle.best_fit.proofs.extents.Gaps.{gap_between-none, gap_between-some}
use Rattle.best_fit.proofs.gaps.Nodes.{tile_colour}
use Rattle.best_fit.proofs.tags.TagsAndLiveSet.{SaysHeap, legal_size, says-live}
use Rattle.best_fit.proofs.allocation.GapToBlock.{lays_out}
use Rattle.best_fit.proofs.tags.TileRows.{Apart, extents_of, extents_of-free, gaps_of-free}

-- the one gap of a window without blocks
one_gap : (n : ℕ) → 176 ≤ n → gaps (no_blocks n) ≡ record { offset = 128; len = n - 16 - 128 } ∷ []
unfolding gaps
one_gap n l = gap_between-some 128 (n - 16) (omega arith)

no_gap : (n : ℕ) → n ≤ 144 → gaps (no_blocks n) ≡ []
unfolding gaps
no_gap n l = gap_between-none 128 (n - 16) (omega arith)

laid_apart : (n : ℕ) → Apart false (laid n)
laid_apart n = cond_both (n == 144) [] (free_tile 128 (n - 144) ∷ []) (Apart false) (λ _. tt)
    (λ _. (λ none. absurd (false≢true none), tt))

laid_extents : (n : ℕ) → extents_of (laid n) ≡ []
laid_extents n = cond_both (n == 144) [] (free_tile 128 (n - 144) ∷ []) (λ (ts : List Tile). extents_of ts ≡ [])
    (λ _. refl) (λ _. extents_of-free (free_tile 128 (n - 144)) [] refl)

-- a window that is laid out and has a tree of its gaps encodes the live set without blocks
laid_live : (d : WindowState) (n : ℕ) → length d.bytes ≡ n → EncodesTiles d (laid n)
    → IsTreeOf (bytes_of d.bytes) 24 (payloads (sorted_gaps (gaps_of (laid n))))
    → EncodesLiveSet current d.bytes (no_blocks n)
laid_live d n size said tree =
    let e = tiles_are_read_off d (laid n) said in
    let says : SaysHeap d (tiles_in d) = record {
      said = subst (EncodesTiles d) (sym e) said;
      apart = subst (Apart false) (sym e) (laid_apart n);
    } in
    let x = ap extents_of e ∙ laid_extents n in
    let live : live_of d.bytes ≡ no_blocks n = says-live d (tiles_in d) says
    ∙ (λ i. record { size = size i; extents = x i }) in
    subst (EncodesLiveSet current d.bytes) live
    (lays_out d says
    (subst (λ (ts : List Tile). IsTreeOf (bytes_of d.bytes) 24 (payloads (sorted_gaps (gaps_of ts)))) (sym e) tree))

-- without a gap
module _ (c d : WindowState) (said : EncodesTiles c (laid (length c.bytes))) (small : length c.bytes ≤ 144)
    (root : link_at (bytes_of d.bytes) 24 ≡ None) (size : length d.bytes ≡ length c.bytes)
    (same : SameBytesExcept (bytes_of c.bytes) (bytes_of d.bytes) 24 8) where
  none : laid (length c.bytes) ≡ []
  none = let low = (legal_size (length c.bytes) said.size).low in
      cond-true (length c.bytes == 144) [] (free_tile 128 (length c.bytes - 144) ∷ [])
      (eq-eqb (length c.bytes) 144 (omega arith))

  -- a window without room for a gap encodes the live set without blocks
  pub planted_none : EncodesLiveSet current d.bytes (no_blocks (length c.bytes))
  planted_none =
      laid_live d (length c.bytes) size
      (header_may_change c d (laid (length c.bytes)) said size 24 8 (omega arith) same)
      (subst (λ (ts : List Tile). IsTreeOf (bytes_of d.bytes) 24 (payloads (sorted_gaps (gaps_of ts)))) (sym none)
      (record {
        tree = leaf;
        linked = record { root = root; holds = tt };
        red_black = record { root = refl; no_red_pair = refl; black = (0, refl) };
        lists = refl;
      }))

  -- no gap has links, if there is no gap
  pub none_links : AllByRecursion (HasNullLinks current (bytes_of d.bytes)) (gaps (no_blocks (length c.bytes)))
  none_links = subst (AllByRecursion (HasNullLinks current (bytes_of d.bytes))) (sym (no_gap (length c.bytes) small)) tt

-- with one gap
module _ (c a b d : WindowState) (said : EncodesTiles c (laid (length c.bytes))) (large : 144 < length c.bytes)
    (left : link_at (bytes_of a.bytes) 144 ≡ None) (size1 : length a.bytes ≡ length c.bytes)
    (same1 : SameBytesExcept (bytes_of c.bytes) (bytes_of a.bytes) 144 8)
    (right : link_at (bytes_of b.bytes) 152 ≡ None) (size2 : length b.bytes ≡ length a.bytes)
    (same2 : SameBytesExcept (bytes_of a.bytes) (bytes_of b.bytes) 152 8)
    (root : link_at (bytes_of d.bytes) 24 ≡ Some 144) (size3 : length d.bytes ≡ length b.bytes)
    (same3 : SameBytesExcept (bytes_of b.bytes) (bytes_of d.bytes) 24 8) where
  abbrev gap : Tile
  gap = free_tile 128 (length c.bytes - 144)

  long : 176 ≤ length c.bytes
  long = elim (legal (length c.bytes) said.size).room [ inl e ↦ absurd (omega arith) | inr l ↦ l ]

  one : laid (length c.bytes) ≡ gap ∷ []
  one = cond-false (length c.bytes == 144) [] (gap ∷ []) (ne_eqb (length c.bytes) 144 (λ e. omega arith))

  said_c : EncodesTiles c (gap ∷ [])
  said_c = subst (EncodesTiles c) one said

  said_a : EncodesTiles a (gap ∷ [])
  said_a = let l = long in payload_may_change c a (gap ∷ []) 128 gap said_c (one_tile_at_an_offset c [] gap [] said_c)
      size1 144 8 (omega arith) (omega arith) same1

  said_b : EncodesTiles b (gap ∷ [])
  said_b = let l = long in payload_may_change a b (gap ∷ []) 128 gap said_a (one_tile_at_an_offset a [] gap [] said_a)
      size2 152 8 (omega arith) (omega arith) same2

  said_d : EncodesTiles d (gap ∷ [])
  said_d = header_may_change b d (gap ∷ []) said_b size3 24 8 (omega arith) same3

  left_d : link_at (bytes_of d.bytes) 144 ≡ None
  left_d = SameBytesExcept-link (bytes_of b.bytes) (bytes_of d.bytes) 24 8 144 same3 (inr (omega arith))
      ∙ SameBytesExcept-link (bytes_of a.bytes) (bytes_of b.bytes) 152 8 144 same2 (inl (omega arith)) ∙ left

  right_d : link_at (bytes_of d.bytes) 152 ≡ None
  right_d = SameBytesExcept-link (bytes_of b.bytes) (bytes_of d.bytes) 24 8 152 same3 (inr (omega arith)) ∙ right

  -- a window of one gap encodes the live set without blocks
  pub planted_one : EncodesLiveSet current d.bytes (no_blocks (length c.bytes))
  planted_one =
      let red = tile_colour d (gap ∷ []) gap 144 said_d (one_tile_at_an_offset d [] gap [] said_d) refl in
      let cell : cells_of (bytes_of d.bytes) 144 ≡ record { left = None; right = None; red = false } =
      λ i. record { left = left_d i; right = right_d i; red = red i } in
      let gs : gaps_of (laid (length c.bytes)) ≡ gap_of gap ∷ [] = ap gaps_of one ∙ gaps_of-free gap [] refl in
      laid_live d (length c.bytes) (size3 ∙ size2 ∙ size1) (subst (EncodesTiles d) (sym one) said_d)
      (subst (λ (hs : List Gap). IsTreeOf (bytes_of d.bytes) 24 (payloads (sorted_gaps hs))) (sym gs)
      (record {
        tree = fork false leaf 144 leaf;
        linked = record { root = root; holds = (cell, tt, tt) };
        red_black = record { root = refl; no_red_pair = refl; black = (1, refl) };
        lists = refl;
      }))

  -- the one gap has null links
  pub planted_links : AllByRecursion (HasNullLinks current (bytes_of d.bytes)) (gaps (no_blocks (length c.bytes)))
  unfolding current
  planted_links =
      subst (AllByRecursion (HasNullLinks current (bytes_of d.bytes))) (sym (one_gap (length c.bytes) long))
      ((λ at whole low high. by_case at whole low high (cases_lt at 152)), tt)
    where
      by_case : (at : ℕ) → at % 8 ≡ 0 → 144 ≤ at → at < 160 → (at < 152) ⊎ (152 ≤ at)
          → word_at (bytes_of d.bytes) at ≡ 1
      by_case at whole low high (inl l) =
          let e : 144 ≡ at = omega arith in
          subst (λ k. word_at (bytes_of d.bytes) k ≡ 1) e (null_word 144 (word_at (bytes_of d.bytes) 144) left_d)
      by_case at whole low high (inr l) =
          let e : 152 ≡ at = omega arith in
          subst (λ k. word_at (bytes_of d.bytes) k ≡ 1) e (null_word 152 (word_at (bytes_of d.bytes) 152) right_d)

-- a byte in the header or after the first tag lies in no tag of a window that is laid out
pub laid_beside : (n k : ℕ) → (k < 128) ⊎ (144 ≤ k) → IsBesideTags (laid n) k
laid_beside n k h = cond_both (n == 144) [] (free_tile 128 (n - 144) ∷ []) (λ (ts : List Tile). IsBesideTags ts k)
    (λ _. tt) (λ _. (h, tt))

-- tags are laid, and then a tree of the one gap
pub fresh_heap : (a b d : WindowState) → SameExceptTags a b [] (laid (length a.bytes))
    → EncodesLiveSet current d.bytes (no_blocks (length b.bytes))
    → AllByRecursion (HasNullLinks current (bytes_of d.bytes))
    (gaps (no_blocks (length b.bytes)))
    → SameSurroundings b d → SameBytes (bytes_of b.bytes) (bytes_of d.bytes) 0 24
    → SameBytes (bytes_of b.bytes) (bytes_of d.bytes) 32
    144 → SameBytes (bytes_of b.bytes) (bytes_of d.bytes) 160 (length b.bytes)
    → 144 ≤ length a.bytes → FormatsHeap current a d
unfolding current
fresh_heap a b d same live links place front behind rest low =
    let size = same.size in
    record {
      place = record { before = place.before ∙ same.place.before; after = place.after ∙ same.place.after };
      live = subst (λ n. EncodesLiveSet current d.bytes (no_blocks n)) size live;
      links = subst (λ n. AllByRecursion (HasNullLinks current (bytes_of d.bytes)) (gaps (no_blocks n))) size links;
      front = record {
        at = λ k l h. front.at k l h
            ∙ same.bytes k tt (laid_beside (length a.bytes) k (inl (omega arith))) (omega arith);
      };
      behind = record {
        at = λ k l h. behind.at k l (omega arith)
            ∙ same.bytes k tt (laid_beside (length a.bytes) k (inl (omega arith))) (omega arith);
      };
      rest = record {
        at = λ k l h. rest.at k l (omega arith)
            ∙ same.bytes k tt (laid_beside (length a.bytes) k (inr (omega arith))) (omega arith);
      };
    }
