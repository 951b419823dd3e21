use Rattle.std.proofs.Common.{◌≡◌, ◌∙◌, ℕ, suc, ◌+◌, ◌*◌, List, drop, ap, arith}
use Rattle.segment_log.specs.Fingerprints.{mark_word, marked_words}
use Rattle.segment_log.specs.Records.{number_of}
use Rattle.segment_log.proofs.fingerprints.mark_fours.Goals as goal

-- the word at an offset
abbrev word : ℕ → List ℕ → ℕ
word at page = number_of (drop at page)

-- four words more
more : (k a b c d : ℕ) (page : List ℕ) → a ≡ 32 * k → b ≡ 32 * k + 8 → c ≡ 32 * k + 16 → d ≡ 32 * k + 24
    → mark_word (mark_word (mark_word (mark_word (marked_words (4 * k) page) (word a page)) (word b page))
    (word c page)) (word d page)
    ≡ marked_words (4 * (k + 1)) page
more k a b c d page ea eb ec ed =
    let n : ℕ = 4 * k in
    let first : a ≡ 8 * n = omega (arith, ea) in
    let second : b ≡ 8 * suc n = omega (arith, eb) in
    let third : c ≡ 8 * suc (suc n) = omega (arith, ec) in
    let fourth : d ≡ 8 * suc (suc (suc n)) = omega (arith, ed) in
    let four : suc (suc (suc (suc n))) ≡ 4 * (k + 1) = omega arith in
    (λ i. mark_word (mark_word (mark_word (mark_word (marked_words n page) (word (first i) page))
    (word (second i) page)) (word (third i) page)) (word (fourth i) page))
    ∙ ap (λ m. marked_words m page) four

pub fours-preserved : goal.fours-preserved
fours-preserved c =
    let page : List ℕ = c.args.page.now in
    let at : ℕ = 32 * c.fours.index in
    c.mark_four-mark.ensures
    ∙ (λ i. mark_word (mark_word (mark_word (mark_word (c.fours.invariant i) (c.word_at-first.ensures i))
    (c.word_at-second.ensures i)) (c.word_at-third.ensures i)) (c.word_at-fourth.ensures i))
    ∙ more c.fours.index at (at + 8) (at + 16) (at + 24) page (omega arith) (omega arith) (omega arith) (omega arith)
