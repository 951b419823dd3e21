use Rattle.std.proofs.Common.{◌≡◌, ℕ, suc, ◌+◌, ◌-◌, ◌*◌, ◌%◌, List, length, take, drop, min, sym, ◌∙◌, ap, arith}
use Rattle.std.proofs.lemmas.List.{length-drop, take_min}
use Rattle.segment_log.specs.Fingerprints.{fingerprint, marked_pages, page_at, page_mark}
use Rattle.segment_log.proofs.fingerprints.fingerprint.Goals as goal

more : (k : ℕ) (image : List ℕ)
    → marked_pages (k + 1) image ≡ (marked_pages k image + page_mark k (page_at k image)) % 18_446_744_073_709_551_616
more k image = let e : k + 1 ≡ suc k = omega arith in ap (λ n. marked_pages n image) e

part : (xs : List ℕ) (at n : ℕ) → n ≡ min 4096 (length xs - at) → take n (drop at xs) ≡ take 4096 (drop at xs)
part xs at n is =
    ap (λ k. take k (drop at xs)) (is ∙ ap (λ k. min 4096 k) (sym (length-drop at xs))) ∙ take_min 4096 (drop at xs)

pub pages-preserved : goal.pages-preserved
pages-preserved c =
    let image : List ℕ = c.args.image.now in
    let k : ℕ = c.pages.index in
    let n : ℕ = c.min.result in
    let span : k * 4096 + n - k * 4096 ≡ n = omega arith in
    let page : take (k * 4096 + n - k * 4096) (drop (k * 4096) image) ≡ page_at k image =
    ap (λ m. take m (drop (k * 4096) image)) span ∙ part image (k * 4096) n c.min.ensures in
    let mark : c.page_mark-sum.result ≡ page_mark k (page_at k image) =
    c.page_mark-sum.ensures ∙ ap (page_mark k) page in
    (λ i. (c.pages.invariant i + mark i) % 18_446_744_073_709_551_616) ∙ sym (more k image)

pub returns : goal.returns
unfolding fingerprint
returns c =
    let exact : c.pages.index ≡ c.div_ceil-index-end.result =
    omega (arith, c.pages-test.false, c.pages.auto.index-end) in
    c.pages.invariant ∙ ap (λ k. marked_pages k c.args.image.now) (exact ∙ c.div_ceil-index-end.ensures)
