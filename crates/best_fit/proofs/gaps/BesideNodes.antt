-- If only links and colours of gaps and word 24 change, all bytes outside the gaps stay, and with them the bytes of
-- tags.
use Rattle.best_fit.proofs.Common.{◌≡◌, refl, sym, ap, subst, ◌∙◌, ℕ, zero, suc, ◌+◌, ◌-◌, ◌*◌, ◌<◌, ◌≤◌, ◌⊎◌, inl, inr}
use Rattle.best_fit.proofs.Common.{List, [], ◌∷◌, length, arith, nat_lt, Some, map, AllByRecursion, cases_lt, lt-ltb}
use Rattle.best_fit.proofs.Common.{or_left, Memory, WindowState, SameBytes, bytes_of, word_at, current, Role, Tile}
use Rattle.best_fit.proofs.Common.{AreTags, is_free, tag_word, EncodesTiles, gaps, gap_of, gaps_of, lies_behind, plain}
use Rattle.best_fit.proofs.Common.{true, tiles_in, ChangesGapTree, live_of, AreBytes, Gap, Option}
use Rattle.best_fit.specs.Rebuilding.{IsBesideGap}
use Rattle.best_fit.proofs.tags.TagsAndLiveSet.{SaysHeap, gaps-live_in, legal_size, said_row, says-live}
use Rattle.best_fit.proofs.gaps.LinksOnly.{empty_not, head_same, plain_used, regrown_block, regrown_gap, tail_same}
use Rattle.best_fit.proofs.tags.TileRows.{unused, used, use_cases, used-not_free, gaps_of-free, gaps_of-used}
use Rattle.best_fit.proofs.tags.UnchangedTags.{In}

-- ---- bytes of a number

low_same : (x x' y y' : ℕ) → x < 256 → x' < 256 → x' + 256 * y' ≡ x + 256 * y → x' ≡ x
low_same x x' y y' l l' e = omega arith

high_same : (x x' y y' : ℕ) → x < 256 → x' < 256 → x' + 256 * y' ≡ x + 256 * y → y' ≡ y
high_same x x' y y' l l' e = omega arith

-- the number in the n bytes from an offset on, the lowest first
abbrev number_at : Memory → ℕ → ℕ → ℕ
number_at m at zero = 0
number_at m at (suc n) = m at + 256 * number_at m (at + 1) n

word-number_at : (m : Memory) (at : ℕ) → word_at m at ≡ number_at m at 8
unfolding word_at
word-number_at m at = refl

module _ (m m' : Memory) (small : (k : ℕ) → m k < 256) (small' : (k : ℕ) → m' k < 256) where
  -- equal numbers have equal bytes
  same_bytes : (n at : ℕ) → number_at m' at n ≡ number_at m at n → (k : ℕ) → at ≤ k → k < at + n → m' k ≡ m k
  same_bytes zero at e k low high = absurd (omega arith)
  same_bytes (suc n) at e k low high =
      let head = low_same (m at) (m' at) (number_at m (at + 1) n) (number_at m' (at + 1) n) (small at) (small' at) e in
      let tail = high_same (m at) (m' at) (number_at m (at + 1) n) (number_at m' (at + 1) n) (small at) (small' at) e in
      by_place head (cases_lt at k) (same_bytes n (at + 1) tail k)
    where
      by_place : m' at ≡ m at → (at < k) ⊎ (k ≤ at) → (at + 1 ≤ k → k < at + 1 + n → m' k ≡ m k) → m' k ≡ m k
      by_place head (inl l) rest = rest (omega arith) (omega arith)
      by_place head (inr l) rest = let e : at ≡ k = omega arith in subst (λ j. m' j ≡ m j) e head

  in_word : (at : ℕ) → word_at m' at ≡ word_at m at → (k : ℕ) → at ≤ k → k < at + 8 → m' k ≡ m k
  in_word at e k low high = same_bytes 8 at (sym (word-number_at m' at) ∙ e ∙ word-number_at m at) k low high

  in_tag : (at : ℕ) → word_at m' at ≡ word_at m at → word_at m' (at + 8) ≡ word_at m (at + 8) → (k : ℕ) → at ≤ k
      → k < at + 16 → m' k ≡ m k
  in_tag at e f k low high = by_place (cases_lt k (at + 8))
    where
      by_place : (k < at + 8) ⊎ (at + 8 ≤ k) → m' k ≡ m k
      by_place (inl l) = in_word at e k low l
      by_place (inr l) = in_word (at + 8) f k l (omega arith)

  behind : (k at offset n : ℕ) → offset ≡ at → at ≤ k → (k < offset) ⊎ (offset + n ≤ k) → at + n ≤ k
  behind k at offset n o low (inl l) = absurd (omega arith)
  behind k at offset n o low (inr l) = omega arith

  -- the tags from a tile on keep their bytes
  same_from : (at before : ℕ) (ts us : List Tile) (end : ℕ) → AreTags current m at before ts end
      → AreTags current m' at before us end → map plain us ≡ map plain ts
      → ((t : Tile) (role : Role) → In t ts → t.use_of ≡ Some role → SameBytes m m' (t.offset + 16) (t.offset + t.len))
      → (k : ℕ) → at ≤ k → k < end + 16 → AllByRecursion (IsBesideGap k) (gaps_of ts) → m' k ≡ m k
  same_from at before [] [] end a b p pays k low high beside = let e = a.0 in
      in_tag at (b.1 ∙ sym a.1) (b.2 ∙ sym a.2) k low (omega arith)
  same_from at before [] (u ∷ us) end a b p pays k low high beside = absurd (empty_not (plain u) (map plain us) (sym p))
  same_from at before (t ∷ ts) [] end a b p pays k low high beside = absurd (empty_not (plain t) (map plain ts) p)
  same_from at before (t ∷ ts) (u ∷ us) end a b p pays k low high beside =
      let head = head_same (plain u) (plain t) (map plain us) (map plain ts) p in
      let tail = tail_same (plain u) (plain t) (map plain us) (map plain ts) p in
      let len : u.len ≡ t.len = ap (λ (v : Tile). v.len) head in
      let b' : AreTags current m' (at + t.len) t.len us end =
      subst (λ n. AreTags current m' (at + n) n us end) len b.4 in
      let o : t.offset ≡ at = a.0 in
      let on = same_from (at + t.len) t.len ts us end a.4 b' tail (λ v role i e. pays v role (inr i) e) k in
      elim (use_cases t) [
        | unused e ↦
            let all : AllByRecursion (IsBesideGap k) (gap_of t ∷ gaps_of ts) = subst (AllByRecursion (IsBesideGap k))
            (gaps_of-free t ts e) beside in
            on (behind k at t.offset t.len o low all.0) high all.1
        | used role e ↦
            let black = used-not_free t role e in
            let same : u ≡ t = sym (plain_used u (ap is_free head ∙ black)) ∙ head ∙ plain_used t black in
            let rest = subst (AllByRecursion (IsBesideGap k)) (gaps_of-used t ts role e) beside in
            elim (cases_lt k (at + 16)) [
              | inl l ↦ in_tag at (b.2 ∙ sym a.2) (b.3 ∙ ap tag_word same ∙ sym a.3) k low l
              | inr l ↦ elim (cases_lt k (at + t.len)) [
                | inl h ↦ (pays t role (inl refl) e).at k (omega arith) (omega arith)
                | inr h ↦ on h high rest
              ]
            ]
      ]

module _ (old new : WindowState) (says : SaysHeap old (tiles_in old)) (said : EncodesTiles new (tiles_in new))
    (r : ChangesGapTree old new) (small : AreBytes old.bytes) (small' : AreBytes new.bytes) where
  gaps_old : gaps (live_of old.bytes) ≡ gaps_of (tiles_in old)
  gaps_old = ap gaps (says-live old (tiles_in old) says) ∙ gaps-live_in (length old.bytes) (tiles_in old)
      (said_row old (tiles_in old) says.said) says.apart

  -- a byte outside all gaps and word 24 stays
  pub beside_gaps : (k : ℕ) → k < length old.bytes → (k < 24) ⊎ (32 ≤ k)
      → AllByRecursion (IsBesideGap k) (gaps (live_of old.bytes)) → bytes_of new.bytes k ≡ bytes_of old.bytes k
  beside_gaps k high away beside = by_place (cases_lt k 128)
    where
      tags : AreTags current (bytes_of new.bytes) 128 0 (tiles_in new) (length old.bytes - 16)
      tags = subst (λ n. AreTags current (bytes_of new.bytes) 128 0 (tiles_in new) (n - 16)) r.size said.tags

      by_place : (k < 128) ⊎ (128 ≤ k) → bytes_of new.bytes k ≡ bytes_of old.bytes k
      by_place (inl l) = r.bytes k (or_left (nat_lt k 128) (lies_behind (tiles_in old) k) (lt-ltb k 128 l)) away
      by_place (inr l) =
          let least = (legal_size (length old.bytes) says.said.size).low in
          same_from (bytes_of old.bytes) (bytes_of new.bytes) small small' 128 0 (tiles_in old) (tiles_in new)
          (length old.bytes - 16) says.said.tags tags r.tiles
          (λ t role i e. (regrown_block old new says.said said r t i role e).payload) k l (omega arith)
          (subst (AllByRecursion (IsBesideGap k)) gaps_old beside)

  -- a property of the gap of each free tile is a property of all gaps
  each_gap : (P : Gap → Type 0) (ts : List Tile) → ((t : Tile) → In t ts → is_free t ≡ true → P (gap_of t))
      → AllByRecursion P (gaps_of ts)
  each_gap P [] h = tt
  each_gap P (t ∷ ts) h = elim (use_cases t) [
    | unused e ↦ subst (AllByRecursion P) (sym (gaps_of-free t ts e)) (
      h t (inl refl) (ap (λ (u : Option Role). is_free (record t { use_of = u })) e),
      each_gap P ts (λ v i f. h v (inr i) f),
    )
    | used role e ↦ subst (AllByRecursion P) (sym (gaps_of-used t ts role e)) (each_gap P ts (λ v i f. h v (inr i) f))
  ]

  -- the free bytes of gaps stay
  pub free_bytes : AllByRecursion (λ (g : Gap). SameBytes (bytes_of old.bytes) (bytes_of new.bytes) (g.offset + 32)
      (g.offset + g.len)) (gaps (live_of old.bytes))
  free_bytes =
      let P : Gap → Type 0 = λ (g : Gap). SameBytes (bytes_of old.bytes) (bytes_of new.bytes) (g.offset + 32)
      (g.offset + g.len) in
      subst (AllByRecursion P) (sym gaps_old)
      (each_gap P (tiles_in old) (λ t i f. regrown_gap old new says.said said r t i f))
