-- Lines and their numbers, as a reader parts them.
use Rattle.std.proofs.Common.{◌≡◌, ◌==◌, ◌&&◌, ℕ, ◌+◌, ◌-◌, ◌<◌, ◌≤◌, ◌^◌, Bool, true, false, not, List, [], ◌∷◌, ◌++◌}
use Rattle.std.proofs.Common.{length, take, map, fold, refl, sym, ap, ap₂, subst, ◌∙◌, arith, slice_index, zero, suc}
use Rattle.std.specs.Prelude.{IfOk, Result, Ok, decimal}
use Rattle.std.proofs.Math.Seq.{take-length}
use Rattle.std.specs.List.{list_all}
use Rattle.std.specs.Int.Digits.{digits_of}
use Rattle.std.proofs.lemmas.Bool.{and_parts}
use Rattle.std.proofs.lemmas.Bool.Decides.{nat_tests}
use Rattle.std.proofs.lemmas.Fmt.{decimal_digit, decimal-digits_of}
use Rattle.std.proofs.lemmas.List.{append-nil, append_assoc, length-append, take-append-le}
use Rattle.std.proofs.lemmas.List.Sums.{fold-append, fold_more}
use Rattle.raw_region.specs.Answers.{AppendsProperPrefix}
use Rattle.segment_answers.specs.Numbers.{next_in_text, is_in_text, text_part}

text-none : (t : Bool) → text_part t [] ≡ []
text-none true = refl
text-none false = refl

text-append : (t : Bool) (a b : List ℕ) → text_part t (a ++ b) ≡ text_part t a ++ text_part (is_in_text t a) b
text-append true [] b = refl
text-append false [] b = refl
text-append true (c ∷ cs) b = ap (λ (l : List ℕ). c ∷ l) (text-append (next_in_text true c) cs b)
text-append false (c ∷ cs) b = text-append (next_in_text false c) cs b

in-append : (t : Bool) (a b : List ℕ) → is_in_text t (a ++ b) ≡ is_in_text (is_in_text t a) b
in-append t a b = fold-append next_in_text t a b

-- ---- bytes of one line

line-text : (k : ℕ) (bs : List ℕ) → ((j : ℕ) → j < k → is_in_text true (take j bs) ≡ true)
    → text_part true (take k bs) ≡ take k bs
line-text zero bs one = refl
line-text (suc k) [] one = refl
line-text (suc zero) (b ∷ bs) one = ap (λ (l : List ℕ). b ∷ l) (text-none (next_in_text true b))
line-text (suc (suc k)) (b ∷ bs) one =
    let first : next_in_text true b ≡ true = one (suc zero) (omega arith) in
    let rest : (j : ℕ) → j < suc k → is_in_text true (take j bs) ≡ true =
    λ j h. sym (ap (λ (t : Bool). is_in_text t (take j bs)) first) ∙ one (suc j) (omega arith) in
    ap (λ (l : List ℕ). b ∷ l) (ap (λ (t : Bool). text_part t (take (suc k) bs)) first ∙ line-text (suc k) bs rest)

module _ (old new line : List ℕ) (n : ℕ) (begun : is_in_text false old ≡ true) (some : 0 < n) (within : n ≤ length line)
    (one : (k : ℕ) → k < n → is_in_text true (take k line) ≡ true) (took : new ≡ old ++ take n line) where
  -- the text of a line after another
  pub line_text : text_part false new ≡ text_part false old ++ take n line
  line_text = ap (text_part false) took ∙ text-append false old (take n line)
      ∙ ap (λ (t : Bool). text_part false old ++ text_part t (take n line)) begun
      ∙ ap (λ (l : List ℕ). text_part false old ++ l) (line-text n line one)

  -- whether a line ends in a text
  pub line_end : is_in_text false new ≡ next_in_text true (slice_index line (n - 1))
  line_end =
      let before : n - 1 < n = omega arith in
      let all : n ≡ n - 1 + 1 = omega arith in
      ap (is_in_text false) took ∙ in-append false old (take n line)
      ∙ ap (λ (t : Bool). is_in_text t (take n line)) begun
      ∙ ap (λ (m : ℕ). is_in_text true (take m line)) all ∙ fold_more next_in_text true line (n - 1) 0 (omega arith)
      ∙ ap (λ (t : Bool). next_in_text t (slice_index line (n - 1))) (one (n - 1) before)

-- ---- a number

abbrev blankless : List ℕ → Bool
blankless = list_all (λ c. not (c == 0x20))

not-true : (b : Bool) → not b ≡ true → b ≡ false
not-true true h = cc
not-true false h = refl

hidden-text : (ds : List ℕ) → blankless ds ≡ true → text_part false ds ≡ []
hidden-text [] h = refl
hidden-text (c ∷ cs) h =
    let both = and_parts (not (c == 0x20)) _ h in
    ap (λ (t : Bool). text_part t cs) (not-true (c == 0x20) both.0) ∙ hidden-text cs both.1

hidden-in : (ds : List ℕ) → blankless ds ≡ true → is_in_text false ds ≡ false
hidden-in [] h = refl
hidden-in (c ∷ cs) h =
    let both = and_parts (not (c == 0x20)) _ h in
    ap (λ (t : Bool). is_in_text t cs) (not-true (c == 0x20) both.0) ∙ hidden-in cs both.1

blankless-take : (k : ℕ) (ds : List ℕ) → blankless ds ≡ true → blankless (take k ds) ≡ true
blankless-take zero ds h = refl
blankless-take (suc k) [] h = refl
blankless-take (suc k) (c ∷ cs) h =
    let both = and_parts (not (c == 0x20)) _ h in
    ap₂ ◌&&◌ both.0 (blankless-take k cs both.1)

blankless-append : (a b : List ℕ) → blankless a ≡ true → blankless b ≡ true → blankless (a ++ b) ≡ true
blankless-append [] b h k = k
blankless-append (c ∷ cs) b h k =
    let both = and_parts (not (c == 0x20)) _ h in
    ap₂ ◌&&◌ both.0 (blankless-append cs b both.1 k)

digit-not-blank : (d : ℕ) → not (48 + d == 32) ≡ true
digit-not-blank d = grind (arith, nat_tests)

digits-blankless : (ds : List ℕ) → blankless (map (λ d. 48 + d) ds) ≡ true
digits-blankless [] = refl
digits-blankless (d ∷ ds) = ap₂ ◌&&◌ (digit-not-blank d) (digits-blankless ds)

decimal-blankless : (n : ℕ) → n < 2 ^ 64 → blankless (decimal n) ≡ true
decimal-blankless zero h = ap blankless (decimal_digit 0 (omega arith))
decimal-blankless (suc m) h = ap blankless (decimal-digits_of (suc m) (omega arith) h)
    ∙ digits-blankless (digits_of 10 (suc m))

module _ (n : ℕ) (few : n < 2 ^ 64) (old new : List ℕ) (line_start : is_in_text false old ≡ false) where
  abbrev text : List ℕ
  text = decimal n ++ 0x3A ∷ 0x20 ∷ []

  abbrev digits : List ℕ
  digits = decimal n ++ 0x3A ∷ []

  digits-have-none : blankless digits ≡ true
  digits-have-none = blankless-append (decimal n) (0x3A ∷ []) (decimal-blankless n few) refl

  -- a number leaves the text as it was
  pub number_text : new ≡ old ++ text → text_part false new ≡ text_part false old
  number_text took = ap (text_part false) took ∙ text-append false old text
      ∙ ap (λ (t : Bool). text_part false old ++ text_part t text) line_start
      ∙ ap (λ (l : List ℕ). text_part false old ++ l) (text-append false (decimal n) (0x3A ∷ 0x20 ∷ [])
      ∙ ap₂ (λ (l : List ℕ) (t : Bool).
      l ++ text_part t (0x3A ∷ 0x20 ∷ [])) (hidden-text (decimal n) (decimal-blankless n few))
      (hidden-in (decimal n) (decimal-blankless n few)))
      ∙ append-nil (text_part false old)

  -- a number ends in a text
  pub number_end : new ≡ old ++ text → is_in_text false new ≡ true
  number_end took = ap (is_in_text false) took ∙ in-append false old text ∙ ap (λ (t : Bool). is_in_text t text)
      line_start
      ∙ in-append false (decimal n) (0x3A ∷ 0x20 ∷ [])
      ∙ ap (λ (t : Bool). is_in_text t (0x3A ∷ 0x20 ∷ [])) (hidden-in (decimal n) (decimal-blankless n few))

  -- a part of it is a part of its digits
  module _ (adds : AppendsProperPrefix old new text) where
    abbrev cut : List ℕ
    cut = take adds.count digits

    cut-is : take adds.count text ≡ cut
    cut-is =
        let whole : text ≡ digits ++ 0x20 ∷ [] = sym (append_assoc (decimal n) (0x3A ∷ []) (0x20 ∷ [])) in
        let long : length text ≡ length digits + 1 = ap length whole ∙ length-append digits (0x20 ∷ []) in
        let fewer = adds.fewer in
        ap (take adds.count) whole ∙ take-append-le adds.count digits (0x20 ∷ []) (omega arith)

    grown : new ≡ old ++ cut
    grown = adds.added ∙ ap (λ (l : List ℕ). old ++ l) cut-is

    -- a part leaves the text as it was
    pub part_text : text_part false new ≡ text_part false old
    part_text = ap (text_part false) grown ∙ text-append false old cut
        ∙ ap (λ (t : Bool). text_part false old ++ text_part t cut) line_start
        ∙ ap (λ (l : List ℕ). text_part false old ++ l)
        (hidden-text cut (blankless-take adds.count digits digits-have-none)) ∙ append-nil (text_part false old)

    -- a part does not end in a text
    pub part_end : is_in_text false new ≡ false
    part_end = ap (is_in_text false) grown ∙ in-append false old cut ∙ ap (λ (t : Bool). is_in_text t cut) line_start
        ∙ hidden-in cut (blankless-take adds.count digits digits-have-none)

-- what passes a writer that takes all
pub passed : {E : Type 0} (result : Result ℕ E) (old new bytes : List ℕ) → result ≡ Ok (length bytes)
    → IfOk result (λ n. new ≡ old ++ take n bytes) → new ≡ old ++ bytes
passed {E} result old new bytes e h =
    subst (λ (r : Result ℕ E). IfOk r (λ n. new ≡ old ++ take n bytes)) e h
    ∙ ap (λ (l : List ℕ). old ++ l) (take-length bytes)
