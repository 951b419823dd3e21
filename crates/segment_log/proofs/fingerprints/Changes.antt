-- The fingerprint of an image with another page.
use Rattle.std.proofs.Common.{◌≡◌, ◌≢◌, ℕ, zero, suc, ◌+◌, ◌-◌, ◌*◌, ◌/◌, ◌%◌, ◌<◌, ◌≤◌, min, List, length, refl, sym}
use Rattle.std.proofs.Common.{◌∙◌, ap, arith, inl, inr}
use Rattle.std.proofs.lemmas.Bool.{cases_eq}
use Rattle.segment_log.specs.Fingerprints.{fingerprint, marked_pages, page_at, page_mark, with_page}
use Rattle.segment_log.specs.Fingerprints.{FingerprintOfAChange}

-- a sum is small
small : (k : ℕ) (image : List ℕ) → marked_pages k image < 18_446_744_073_709_551_616
small zero image = omega arith
small (suc k) image = omega arith

mark_small : (k : ℕ) (page : List ℕ) → page_mark k page < 18_446_744_073_709_551_616
unfolding page_mark
mark_small k page = omega arith

-- the sums over pages that are all the same
alike : (index : ℕ) (old new : List ℕ) → ((k : ℕ) → k ≢ index → page_at k new ≡ page_at k old) → (k : ℕ) → k ≤ index
    → marked_pages k new ≡ marked_pages k old
alike index old new same zero few = refl
alike index old new same (suc k) few =
    (λ i. (alike index old new same k (omega arith) i + page_mark k (same k (λ is. absurd (omega arith)) i))
    % 18_446_744_073_709_551_616)

-- a sum with a summand exchanged, and another summand
exchanged : (sum old new more : ℕ) → sum < 18_446_744_073_709_551_616 → old < 18_446_744_073_709_551_616
    → new < 18_446_744_073_709_551_616 → more < 18_446_744_073_709_551_616
    → (((sum + 18_446_744_073_709_551_616 - old) % 18_446_744_073_709_551_616 + new) % 18_446_744_073_709_551_616
    + more)
    % 18_446_744_073_709_551_616
    ≡ (((sum + more) % 18_446_744_073_709_551_616 + 18_446_744_073_709_551_616 - old) % 18_446_744_073_709_551_616
    + new)
    % 18_446_744_073_709_551_616
exchanged sum old new more a b c d = omega arith

-- the summand itself
exchange : (sum old new : ℕ) → sum < 18_446_744_073_709_551_616 → old < 18_446_744_073_709_551_616
    → new < 18_446_744_073_709_551_616
    → (sum + new) % 18_446_744_073_709_551_616
    ≡ (((sum + old) % 18_446_744_073_709_551_616 + 18_446_744_073_709_551_616 - old) % 18_446_744_073_709_551_616 + new)
    % 18_446_744_073_709_551_616
exchange sum old new a b c = omega arith

module _ (index : ℕ) (old new : List ℕ) (same : (k : ℕ) → k ≢ index → page_at k new ≡ page_at k old) where
  abbrev was : ℕ
  was = page_mark index (page_at index old)

  abbrev now : ℕ
  now = page_mark index (page_at index new)

  at_index : (k : ℕ) → k ≡ index
      → marked_pages (suc k) new ≡ with_page (marked_pages (suc k) old) index (page_at index old) (page_at index new)
  at_index k is =
      (λ i.
      (alike index old new same k (omega (arith, is)) i + page_mark (is i)
      (page_at (is i) new)) % 18_446_744_073_709_551_616)
      ∙ exchange (marked_pages k old) was now (small k old) (mark_small index (page_at index old))
      (mark_small index (page_at index new))
      ∙ (λ i. with_page
      ((marked_pages k old + page_mark (sym is i) (page_at (sym is i) old)) % 18_446_744_073_709_551_616) index
      (page_at index old) (page_at index new))

  behind : (k : ℕ) → index < k
      → marked_pages k new ≡ with_page (marked_pages k old) index (page_at index old) (page_at index new)
  behind zero more = absurd (omega arith)
  behind (suc k) more = elim (cases_eq k index) [
    | inl is ↦ at_index k is
    | inr other ↦
        (λ i. (behind k (omega (arith, other)) i + page_mark k (same k other i)) % 18_446_744_073_709_551_616)
        ∙ exchanged (marked_pages k old) was now (page_mark k (page_at k old)) (small k old)
        (mark_small index (page_at index old)) (mark_small index (page_at index new)) (mark_small k (page_at k old))
  ]

-- how many pages there are
pages_enough : (index len : ℕ) → index * 4096 < len → index < len / 4096 + min 1 (len % 4096)
pages_enough index len within = omega arith

-- the law of a change
pub of_a_change : FingerprintOfAChange
unfolding fingerprint
of_a_change index old new same =
    ap (λ len. marked_pages (len / 4096 + min 1 (len % 4096)) new) same.len
    ∙ behind index old new same.pages (length old / 4096 + min 1 (length old % 4096))
    (pages_enough index (length old) same.in_range)
