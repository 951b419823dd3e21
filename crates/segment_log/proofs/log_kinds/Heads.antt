-- What stands where in the head of a log.
use Rattle.std.proofs.Common.{◌≡◌, ℕ, zero, suc, ◌-◌, ◌<◌, ◌≤◌, List, [], ◌∷◌, length, take, drop}
use Rattle.std.proofs.Common.{get_or, refl, ◌∙◌, ap, arith, length-drop, Bool, Decides, min}
use Rattle.std.proofs.lemmas.List.{take_min}
use Rattle.std.proofs.Math.ListN.{drop_of_length-le}
use Rattle.segment_log.specs.Records.{zeros}
use Rattle.segment_log.specs.Tags.{tag_of}
use Rattle.segment_log.specs.LogKinds.{record_start, BeginsRecord}

-- bytes that are each 0 are so many zeros
pub zeros_of_each : (xs : List ℕ) → ((k : ℕ) → k < length xs → get_or xs k 0 ≡ 0) → xs ≡ zeros (length xs)
unfolding zeros
zeros_of_each [] each = refl
zeros_of_each (x ∷ xs) each =
    let first : x ≡ 0 = each 0 (omega arith) in
    let rest = zeros_of_each xs (λ k low. each (suc k) (omega arith)) in
    λ i. first i ∷ rest i

-- each of some zeros is 0
pub each_of_zeros : (n k : ℕ) → get_or (zeros n) k 0 ≡ 0
unfolding zeros
each_of_zeros zero k = refl
each_of_zeros (suc n) zero = refl
each_of_zeros (suc n) (suc k) = each_of_zeros n k

-- a test of each byte tells whether the bytes are zeros
pub zeros_told : (xs : List ℕ) (told : Bool) → Decides told ((k : ℕ) → k < length xs → get_or xs k 0 ≡ 0)
    → Decides told (xs ≡ zeros (length xs))
zeros_told xs told is = (
  λ yes. zeros_of_each xs (is.0 yes),
  λ same. is.1 (λ k low. ap (λ (l : List ℕ). get_or l k 0) same
      ∙ each_of_zeros (length xs) k),
)

-- what is cut out of a head that may be shorter is what stands behind the gate
pub start_cut : (head : List ℕ) (end : ℕ) → end ≡ min 4144 (length head) → 4096 ≤ length head
    → take (end - 4096) (drop 4096 head) ≡ record_start head
start_cut head end is long =
    let len : end - 4096 ≡ min 48 (length (drop 4096 head)) = omega (arith, is, length-drop 4096 head) in
    ap (λ (n : ℕ). take n (drop 4096 head)) len ∙ take_min 48 (drop 4096 head)

-- less than a length and a payload has no tag
pub no_tag : (head : List ℕ) → length (record_start head) < 8 → BeginsRecord head → ⊥
no_tag head short begins =
    let none : drop 8 (record_start head) ≡ [] = drop_of_length-le (record_start head) {i = 8} (omega arith) in
    let empty : length (tag_of (drop 8 (record_start head))) ≡ 0 = ap (λ (l : List ℕ). length (tag_of l)) none in
    omega (arith, empty, begins)
