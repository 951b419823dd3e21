-- A link leads where it was made to lead.
use Rattle.std.proofs.Common.{◌≡◌, ℕ, ◌+◌, ◌-◌, ◌%◌, ◌^◌, ◌<◌, ◌≤◌, Some, None, ◌⊎◌, inl, inr, ap, sym, ◌∙◌, arith}
use Rattle.std.proofs.Common.{List, length}
use Rattle.std.specs.Prelude.{Option, ◌==◌}
use Rattle.std.proofs.lemmas.Bool.{cond-false, ne_eqb}
use Rattle.std.proofs.lemmas.Option.{none-some}
use Rattle.std.proofs.lemmas.Bool.{cases_eq}
use Rattle.raw_region.specs.Memory.{Memory, SameBytes, SameBytesExcept, bytes_of, patched}
use Rattle.raw_region.proofs.Laws.{SameBytes-word, SameBytesExcept-word, word-own}
use Rattle.offset_link.specs.Link.{target_of, link_word, link_at, link}

-- a link within a range that stays
pub SameBytes-link : (m m' : Memory) (from to at : ℕ) → SameBytes m m' from to → from ≤ at → at + 8 ≤ to
    → link_at m' at ≡ link_at m at
SameBytes-link m m' from to at s low high = ap (target_of at) (SameBytes-word m m' from to at s low high)

-- a link outside of the bytes that may change
pub SameBytesExcept-link : (m m' : Memory) (from n at : ℕ) → SameBytesExcept m m' from n
    → (at + 8 ≤ from) ⊎ (from + n ≤ at) → link_at m' at ≡ link_at m at
SameBytesExcept-link m m' from n at s beside = ap (target_of at) (SameBytesExcept-word m m' from n at s beside)

null_cases : (at w : ℕ) → target_of at w ≡ None → (w ≡ 1) ⊎ (w ≡ 1 → ⊥) → w ≡ 1
null_cases at w none (inl e) = e
null_cases at w none (inr n) =
    let o : Option ℕ = Some ((at + w) % 2 ^ 64) in
    let some : target_of at w ≡ o = cond-false (w == 1) None o (ne_eqb w 1 n)
    in absurd (none-some ((at + w) % 2 ^ 64) (sym none ∙ some))

-- a link that leads nowhere is the word 1
pub null_word : (at w : ℕ) → target_of at w ≡ None → w ≡ 1
null_word at w none = null_cases at w none (cases_eq w 1)

not_null : (at t : ℕ) → at < 2 ^ 64 → t < 2 ^ 64 → at % 8 ≡ 0 → t % 16 ≡ 0 → (t + 2 ^ 64 - at) % 2 ^ 64 ≡ 1 → ⊥
not_null at t a b e f g = omega arith

leads_back : (at t : ℕ) → at < 2 ^ 64 → t < 2 ^ 64 → (at + (t + 2 ^ 64 - at) % 2 ^ 64) % 2 ^ 64 ≡ t
leads_back at t a b = omega arith

-- the word of a link leads to its target
pub target_of-link_word : (at t : ℕ) → at < 2 ^ 64 → t < 2 ^ 64 → at % 8 ≡ 0 → t % 16 ≡ 0
    → target_of at (link_word at (Some t)) ≡ Some t
target_of-link_word at t a b e f = grind (arith, not_null at t a b e f, leads_back at t a b)

-- the word of a link has 64 bits
pub link_word-fits : (at : ℕ) (target : Option ℕ) → link_word at target < 2 ^ 64
link_word-fits at None = omega arith
link_word-fits at (Some t) = omega arith

-- a link that was written leads to its target
pub link_own : (b : List ℕ) (at t : ℕ) → at + 8 ≤ length b → at < 2 ^ 64 → t < 2 ^ 64 → at % 8 ≡ 0 → t % 16 ≡ 0
    → link_at (bytes_of (patched b at (link at (Some t)))) at ≡ Some t
link_own b at t h a l e f = ap (λ (w : ℕ).
    target_of at w) (word-own b at (link_word at (Some t)) h (link_word-fits at (Some t)))
    ∙ target_of-link_word at t a l e f

pub link_null : (b : List ℕ) (at : ℕ) → at + 8 ≤ length b → link_at (bytes_of (patched b at (link at None))) at ≡ None
link_null b at h = ap (λ (w : ℕ). target_of at w) (word-own b at 1 h (omega arith))

-- the rules of links that were written
pub ruleset links = (link_own, link_null)

-- the word that the code writes
pub distance : (at t : ℕ) → at < 2 ^ 64 → (t + (2 ^ 64 - at)) % 2 ^ 64 ≡ link_word at (Some t)
distance at t h = let e : t + (2 ^ 64 - at) ≡ t + 2 ^ 64 - at = omega arith in ap (λ (k : ℕ). k % 2 ^ 64) e
