-- The gap at the end is dropped: the window is shorter, and ends after the last block.
use Rattle.best_fit.proofs.Common.{◌≡◌, refl, sym, ap, subst, ◌∙◌, ℕ, ◌+◌, ◌-◌, ◌<◌, ◌≤◌, Bool, true, false, List, []}
use Rattle.best_fit.proofs.Common.{◌∷◌, ◌++◌, length, arith, IsTrue, Some, None, both_ways, append-nil, length-append}
use Rattle.best_fit.proofs.Common.{same_Some, none-some, WindowState, SameBytes, bytes_of, whole, current, Tile}
use Rattle.best_fit.proofs.Common.{last_in, without_last, is_free, PrefixSaysTiles, EncodesTiles, SameExceptTags}
use Rattle.best_fit.proofs.Common.{prefix_is_a_window, tiles_are_read_off, MovesEnd, KeepsTo, last_end, least_size}
use Rattle.best_fit.proofs.Common.{of_size, Extent, IsTreeOf, payloads, sorted_gaps, gaps_in, gaps_of, tiles_in}
use Rattle.best_fit.proofs.Common.{HasGapTree, EncodesLiveSet, live_of}
use Rattle.raw_region.specs.Memory.{cut_at}
use Rattle.best_fit.specs.Tiling.{DropsLast}
use Rattle.block_tags.specs.Windows.{HasFreeLast}
use Rattle.block_tags.proofs.Laws.{AreTags-AreContiguous}
use Rattle.best_fit.proofs.tags.RowParts.{apart_front}
use Rattle.best_fit.proofs.ending.TwoMemories.{Carries, carried_blocks, carried_tree, resized_ends, resized_same}
use Rattle.best_fit.proofs.ending.TwoMemories.{then-ends}
use Rattle.best_fit.proofs.tags.TileJoins.{extents_of-around_free}
use Rattle.best_fit.proofs.tags.TagsAndLiveSet.{IsLegal, SaysHeap, legal_size, said_row, says-live}
use Rattle.best_fit.proofs.allocation.GapToBlock.{lays_out}
use Rattle.best_fit.proofs.gaps.LinksOnly.{tree_says}
use Rattle.best_fit.proofs.tags.TileRows.{Apart, AreContiguous-Row, Row, extents_of, extents_of-free, extents_of-used}
use Rattle.best_fit.proofs.tags.TileRows.{unused, used, use_cases, unused-free}
use Rattle.best_fit.proofs.tags.UnchangedTags.{In, in_front, inside, low_beside, tag_in}

-- ---- where the last block ends

-- the last tile is in use, or there is no tile
abbrev pub EndsUsed : List Tile → Type 0
EndsUsed ts = (t : Tile) → last_in ts ≡ Some t → is_free t ≡ false

ends_on : (from at : ℕ) (t : Tile) (ts : List Tile) (end : ℕ) → Row at (t ∷ ts) end → EndsUsed (t ∷ ts)
    → last_end from (extents_of (t ∷ ts)) ≡ end
ends_on from at t [] end r u =
    let o = r.0 in let on : at + t.len ≡ end = r.3 in
    elim (use_cases t) [
      | unused e ↦ absurd (both_ways (is_free t) (u t refl) (unused-free t e))
      | used role e ↦ ap (λ (xs : List Extent). last_end from xs) (extents_of-used t [] role e) ∙ omega arith
    ]
ends_on from at t (v ∷ ts) end r u =
    let rest : (start : ℕ) → last_end start (extents_of (v ∷ ts)) ≡ end = λ start. ends_on start
    (at + t.len) v ts end r.3 u in
    elim (use_cases t) [
      | unused e ↦ ap (λ (xs : List Extent). last_end from xs) (extents_of-free t (v ∷ ts) e) ∙ rest from
      | used role e ↦ ap (λ (xs : List Extent). last_end from xs) (extents_of-used t (v ∷ ts) role e)
          ∙ rest (t.offset + t.len)
    ]

-- the last block ends where the tiles do
pub ends_used : (ts : List Tile) (end : ℕ) → Row 128 ts end → EndsUsed ts → last_end 128 (extents_of ts) ≡ end
ends_used [] end r u = r
ends_used (t ∷ ts) end r u = ends_on 128 128 t ts end r u

-- the tile before a free tile is not free
pub used_before : (b : Bool) (front : List Tile) (t : Tile) → Apart b (front ++ t ∷ [])
    → IsTrue (is_free t) → EndsUsed front
used_before b [] t a f v e = absurd (none-some v e)
used_before b (u ∷ []) t a f v e = subst (λ (w : Tile). is_free w ≡ false) (same_Some u v e)
    (not_free (is_free u) (λ h. a.1.0 h f))
  where
    not_free : (x : Bool) → (IsTrue x → ⊥) → x ≡ false
    not_free true n = absurd (n refl)
    not_free false n = refl
used_before b (u ∷ w ∷ front) t a f v e = used_before (is_free u) (w ∷ front) t a.1 f v e

pub last_behind : (front : List Tile) (t : Tile) → last_in (front ++ t ∷ []) ≡ Some t
last_behind [] t = refl
last_behind (u ∷ []) t = refl
last_behind (u ∷ v ∷ front) t = last_behind (v ∷ front) t

pub without_behind : (front : List Tile) (t : Tile) → without_last (front ++ t ∷ []) ≡ front
without_behind [] t = refl
without_behind (u ∷ []) t = refl
without_behind (u ∷ v ∷ front) t = ap (λ (ts : List Tile). u ∷ ts) (without_behind (v ∷ front) t)

-- ---- the window is cut

at_most : (n : ℕ) → n ≤ n
at_most n = omega arith

-- the length of the region
length_cut : (c : WindowState) → length (whole c) ≡ length c.before + (length c.bytes + length c.after)
length_cut c = omega (arith, length-append (c.before ++ c.bytes) c.after, length-append c.before c.bytes)

module _ (c : WindowState) (front : List Tile) (t : Tile) (list : tiles_in c ≡ front ++ t ∷ []) (free : t.use_of ≡ None)
    (tree : HasGapTree c (gaps_of front)) where
  says : SaysHeap c (tiles_in c)
  says = tree_says c (gaps_of front) tree

  said : EncodesTiles c (front ++ t ∷ [])
  said = subst (EncodesTiles c) list says.said

  -- the conditions of the drop
  pub has_free_last : HasFreeLast c
  has_free_last = record {
    tiles = front ++ t ∷ [];
    said = said;
    last = t;
    ends = last_behind front t;
    free = unused-free t free;
  }

  row_c : Row 128 (front ++ t ∷ []) (length c.bytes - 16)
  row_c = said_row c (front ++ t ∷ []) said

  module _ {d : WindowState} {n : ℕ} (drops : DropsLast c d n) where
    front_d : PrefixSaysTiles d n front
    front_d = subst (PrefixSaysTiles d n) (without_behind front t) (drops.tags (front ++ t ∷ []) said)

    beside : SameExceptTags c d (front ++ t ∷ []) front
    beside = subst (SameExceptTags c d (front ++ t ∷ [])) (without_behind front t) (drops.frame (front ++ t ∷ []) said)

    -- the conditions of the cut
    pub drop_fits : length d.before + n ≤ length (whole d)
    drop_fits = let within = front_d.within in omega (arith, length_cut d)

    row_d : Row 128 front (n - 16)
    row_d = AreContiguous-Row current 128 front (n - 16)
        (AreTags-AreContiguous current (bytes_of d.bytes) 128 0 front (n - 16) front_d.tags)

    module _ (e : WindowState) (is : e ≡ cut_at (whole d) (length d.before) n) where
      size_e : length e.bytes ≡ n
      size_e = (resized_ends d e n is drop_fits).bytes

      same_d : SameBytes (bytes_of d.bytes) (bytes_of e.bytes) 0 n
      same_d = resized_same d e n is drop_fits n front_d.within (at_most n)

      said_e : EncodesTiles e front
      said_e =
          let s = size_e in let within = front_d.within in
          (prefix_is_a_window e d front (omega arith)
          (record { at = λ k low high. sym (same_d.at k low (omega arith)) })).1
          (subst (λ k. PrefixSaysTiles d k front) (sym size_e) front_d)

      legal_n : IsLegal n
      legal_n = legal_size n front_d.size

      shorter : n ≤ length c.bytes
      shorter = let within = front_d.within in let s = beside.size in omega arith

      byte_stays : (u : Tile) → In u front → (k : ℕ) → u.offset + 16 ≤ k → k < u.offset + u.len
          → bytes_of e.bytes k ≡ bytes_of c.bytes k
      byte_stays u i k low high =
          let a = inside 128 u (front ++ t ∷ []) (length c.bytes - 16) k row_c (in_front u front (t ∷ []) i) low high in
          let b = inside 128 u front (n - 16) k row_d i low high in
          let below = a.high in let under = b.high in let l = legal_n in let least = l.low in
          same_d.at k (omega arith) (omega arith) ∙ beside.bytes k a.beside b.beside (omega arith)

      header_stays : SameBytes (bytes_of c.bytes) (bytes_of e.bytes) 0 128
      header_stays =
          let l = legal_n in let least = l.low in let s = shorter in
          record {
            at = λ k low high.
                same_d.at k low (omega arith)
                ∙ beside.bytes k (low_beside 128 (front ++ t ∷ []) (length c.bytes - 16) k row_c high)
                (low_beside 128 front (n - 16) k row_d high) (omega arith);
          }

      carries : Carries (bytes_of c.bytes) (bytes_of e.bytes) front (n - 16)
      carries =
          record {
            row = row_d;
            old = λ u i. tag_in current (bytes_of c.bytes) 128 0 (front ++ t ∷ []) (length c.bytes - 16) u said.tags
                row_c (in_front u front (t ∷ []) i);
            new = λ u i. tag_in current (bytes_of e.bytes) 128 0 front (length e.bytes - 16) u said_e.tags
                (said_row e front said_e) i;
            payload = λ u i. record { at = λ k low high. byte_stays u i k low high };
            header = header_stays;
          }

      list_e : tiles_in e ≡ front
      list_e = tiles_are_read_off e front said_e

      apart_c : Apart false (front ++ t ∷ [])
      apart_c = subst (Apart false) list says.apart

      says_e : SaysHeap e (tiles_in e)
      says_e = record {
        said = subst (EncodesTiles e) (sym list_e) said_e;
        apart = subst (Apart false) (sym list_e) (apart_front false front (t ∷ []) apart_c);
      }

      tree_e : IsTreeOf (bytes_of e.bytes) 24 (payloads (sorted_gaps (gaps_in e)))
      tree_e =
          subst (λ (ts : List Tile). IsTreeOf (bytes_of e.bytes) 24 (payloads (sorted_gaps (gaps_of ts)))) (sym list_e)
          (carried_tree (bytes_of c.bytes) (bytes_of e.bytes) front (n - 16) carries tree.tree)

      extents_c : (live_of c.bytes).extents ≡ extents_of front
      unfolding live_of
      extents_c = ap extents_of list ∙ extents_of-around_free front t [] free ∙ append-nil (extents_of front)

      least_is : least_size (live_of c.bytes) ≡ n
      least_is =
          let l = legal_n in let least = l.low in
          let ends = ap (λ (xs : List Extent). last_end 128 xs) extents_c
          ∙ ends_used front (n - 16) row_d (used_before false front t apart_c (unused-free t free)) in
          omega arith

      live_e : live_of e.bytes ≡ of_size (live_of c.bytes) n
      live_e = let s = size_e in let x = ap extents_of list_e ∙ sym extents_c in says-live e (tiles_in e) says_e
          ∙ (λ i. record { size = s i; extents = x i })

      keeps_e : KeepsTo c e n (live_of c.bytes).extents
      keeps_e =
          record {
            place = then-ends c d e n beside.place beside.size (resized_ends d e n is drop_fits);
            front = record { at = λ k low high. header_stays.at k low (omega arith) };
            behind = record { at = λ k low high. header_stays.at k (omega arith) high };
            blocks = rw extents_c (carried_blocks (bytes_of c.bytes) (bytes_of e.bytes) front (n - 16) carries);
          }

      moved : MovesEnd current c e n
      moved = record {
        live = subst (EncodesLiveSet current e.bytes) live_e (lays_out e says_e tree_e);
        keeps = keeps_e;
      }

      pub gap_dropped : MovesEnd current c e (least_size (live_of c.bytes))
      gap_dropped = subst (λ k. MovesEnd current c e k) (sym least_is) moved
