-- Bytes that go by in pieces: what a reader gave and a writer took so far, and one piece more.
use Rattle.std.proofs.Common.{◌≡◌, ◌==◌, ℕ, false, ◌+◌, ◌-◌, ◌≤◌, List, ◌++◌, length, take, drop, sym, ap, ◌∙◌, arith}
use Rattle.std.proofs.lemmas.List.{append_assoc, take_rest, length-take, take-append-le}
use Rattle.std.proofs.lemmas.Bool.Decides.{nat_tests}
use Rattle.std.proofs.Math.Seq.{take-add, take-append-add}
use Rattle.std.specs.Prelude.{Ok}
use borrow.Rule.Slice.PartMut.{put_mid}
use Rattle.raw_region.specs.Answers.{ends_in, write_failures_in}

-- a writer that took a piece and then one more took both
pub took_more : (old mid new bytes : List ℕ) (i n : ℕ) → mid ≡ old ++ take i bytes
    → new ≡ mid ++ take n (take (length bytes - i) (drop i bytes)) → new ≡ old ++ take (i + n) bytes
took_more old mid new bytes i n e f =
    f ∙ ap (λ (l : List ℕ). mid ++ take n l) (take_rest bytes i) ∙ ap (λ (l : List ℕ). l ++ take n (drop i bytes)) e
    ∙ append_assoc old (take i bytes) (take n (drop i bytes)) ∙ ap (λ (l : List ℕ). old ++ l) (sym (take-add i n bytes))

-- a write that took at least one byte is no failure
pub took_some : (n len : ℕ) → (n ≡ 0 → ⊥) → write_failures_in {E = ℕ} (Ok n) len ≡ 0
took_some n len h = grind (arith, nat_tests)

-- a read that gave at least one byte is no end
pub gave_some : (n len : ℕ) → (n ≡ 0 → ⊥) → ends_in {E = ℕ} (Ok n) len ≡ 0
gave_some n len h = grind (arith, nat_tests)

-- a number that is not 0 does not equal 0 as a test
pub not_zero : (n : ℕ) → (n ≡ 0 → ⊥) → (n == 0) ≡ false
not_zero n h = grind (arith, nat_tests)

-- after a read into the slice from i on
pub front_read : (xs ws : List ℕ) (i n : ℕ) → i ≤ length xs → n ≤ length ws → length ws ≡ length xs - i
    → take (i + n) (put_mid i (length xs - i) xs ws) ≡ take i xs ++ take n ws
front_read xs ws i n h k e =
    let P = take i xs in let D = drop (length xs - i) (drop i xs) in
    let long : i + n ≡ length P + n = omega (arith, length-take i xs) in
    ap (λ (m : ℕ). take m (P ++ (ws ++ D))) long ∙ take-append-add P (ws ++ D) n
    ∙ ap (λ (l : List ℕ). P ++ l) (take-append-le n ws D k)

-- a reader that gave a piece and then one more gave both
pub gave_more : (old mid new xs ws : List ℕ) (i n : ℕ) → i ≤ length xs → n ≤ length ws → length ws ≡ length xs - i
    → mid ≡ old ++ take i xs → new ≡ mid ++ take n ws
    → new ≡ old ++ take (i + n) (put_mid i (length xs - i) xs ws)
gave_more old mid new xs ws i n h k l e f =
    f ∙ ap (λ (m : List ℕ). m ++ take n ws) e ∙ append_assoc old (take i xs) (take n ws)
    ∙ ap (λ (m : List ℕ). old ++ m) (sym (front_read xs ws i n h k l))
