-- The lines of a script, byte by byte.
use Rattle.std.proofs.Common.{◌≡◌, ◌==◌, ℕ, zero, suc, ◌<◌, ◌≤◌, inl, inr, Bool, true, false, ◌||◌, nat_lt, List, []}
use Rattle.std.proofs.Common.{◌∷◌, ◌++◌, length, take, get_or, refl, sym, ap, ◌∙◌, arith, length-append}
use Rattle.std.proofs.lemmas.List.{drop-append-le, drop_all}
use Rattle.std.proofs.lemmas.Bool.{cases_Bool, false_from_ne_true, lt-ltb}
use Rattle.std.proofs.Math.Bool.{or-true}
use Rattle.segment_scripts.specs.Run.{lines, onto_first}
use Rattle.segment_scripts.specs.Lines.{ended_lines, open_line, whole_lines}

some_behind : (xs ys : List ℕ) (y : ℕ) → nat_lt 0 (length (xs ++ y ∷ ys)) ≡ true
some_behind xs ys y =
    let n : 0 < length (xs ++ y ∷ ys) = omega (arith, length-append xs (y ∷ ys)) in
    lt-ltb 0 _ n

whole-counted : (c : ℕ) (cs : List ℕ) → ((c == 0x0A) || nat_lt 0 (length (whole_lines cs))) ≡ true
    → whole_lines (c ∷ cs) ≡ c ∷ whole_lines cs
whole-counted c cs e = rw e refl

whole-open : (c : ℕ) (cs : List ℕ) → ((c == 0x0A) || nat_lt 0 (length (whole_lines cs))) ≡ false
    → whole_lines (c ∷ cs) ≡ []
whole-open c cs e = rw e refl

pub whole_lines-end : (xs more : List ℕ) → whole_lines (xs ++ 0x0A ∷ more) ≡ xs ++ 0x0A ∷ whole_lines more
whole_lines-end [] more = refl
whole_lines-end (c ∷ cs) more =
    let rest = whole_lines-end cs more in
    whole-counted c (cs ++ 0x0A ∷ more) (ap (λ (l : List ℕ). (c == 0x0A) || nat_lt 0 (length l)) rest
    ∙ ap (λ (b : Bool). (c == 0x0A) || b) (some_behind cs (whole_lines more) 0x0A) ∙ or-true (c == 0x0A))
    ∙ ap (λ (l : List ℕ). c ∷ l) rest

-- no line ends in the first n bytes, where none of them is a line end
pub none_ends : (xs : List ℕ) (n : ℕ) → ((i : ℕ) → i < n → (get_or xs i 0 == 0x0A) ≡ true → ⊥)
    → whole_lines (take n xs) ≡ []
none_ends xs zero h = refl
none_ends [] (suc n) h = refl
none_ends (c ∷ cs) (suc n) h =
    let other : (c == 0x0A) ≡ false = false_from_ne_true _ (h 0 (omega arith)) in
    let rest : whole_lines (take n cs) ≡ [] = none_ends cs n (λ i k. h (suc i) (omega arith)) in
    whole-open c (take n cs) (rw (other, rest) refl)

whole_lines-open : (xs part : List ℕ) → whole_lines part ≡ [] → whole_lines (xs ++ part) ≡ whole_lines xs
whole_lines-open [] part e = e
whole_lines-open (c ∷ cs) part e = rw (whole_lines-open cs part e) refl

pub whole_lines-le : (xs : List ℕ) → length (whole_lines xs) ≤ length xs
whole_lines-le [] = omega arith
whole_lines-le (c ∷ cs) = elim (cases_Bool ((c == 0x0A) || nat_lt 0 (length (whole_lines cs)))) [
  | inl e ↦ rw (whole-counted c cs e) (let h = whole_lines-le cs in omega arith)
  | inr e ↦ rw (whole-open c cs e) (omega arith)
]

none_whole : (xs : List ℕ) → nat_lt 0 (length xs) ≡ false → xs ≡ []
none_whole [] e = refl
none_whole (x ∷ xs) e = absurd (let h = lt-ltb 0 (length (x ∷ xs)) (omega arith) in cc)

-- a line does not vanish
lines-some : (c : ℕ) (cs : List ℕ) → (l : List ℕ) × ((ls : List (List ℕ)) × (lines (c ∷ cs) ≡ l ∷ ls))
lines-some c cs = elim (cases_Bool (c == 0x0A)) [
  | inl e ↦ ([], (lines cs, rw e refl))
  | inr e ↦ (prefix (lines cs), (behind (lines cs), rw e (onto_first-some (lines cs))))
] where
  prefix : List (List ℕ) → List ℕ
  prefix [] = c ∷ []
  prefix (l ∷ ls) = c ∷ l

  behind : List (List ℕ) → List (List ℕ)
  behind [] = []
  behind (l ∷ ls) = ls

  onto_first-some : (ls : List (List ℕ)) → onto_first c ls ≡ prefix ls ∷ behind ls
  onto_first-some [] = refl
  onto_first-some (l ∷ ls) = refl

-- an empty script has no ended line
pub ended-nil : ended_lines [] ≡ []
unfolding ended_lines
ended-nil = refl

-- an empty script has no open line
pub open-nil : open_line [] ≡ []
unfolding open_line
open-nil = refl

-- after a line end no line is open
pub open_line-end : (xs : List ℕ) → open_line (xs ++ 0x0A ∷ []) ≡ []
unfolding open_line
open_line-end xs = rw (whole_lines-end xs []) (drop_all (length (xs ++ 0x0A ∷ [])) (xs ++ 0x0A ∷ []) (omega arith))

-- after bytes in which no line ends the same lines ended, and the open one is longer
pub open_line-open : (xs part : List ℕ) → whole_lines part ≡ [] → open_line (xs ++ part) ≡ open_line xs ++ part
unfolding open_line
open_line-open xs part e = rw (whole_lines-open xs part e)
    (drop-append-le (length (whole_lines xs)) xs part (whole_lines-le xs))

-- text without a line end ends no line
pub ended_lines-open : (xs part : List ℕ) → whole_lines part ≡ [] → ended_lines (xs ++ part) ≡ ended_lines xs
unfolding ended_lines
ended_lines-open xs part e = ap lines (whole_lines-open xs part e)

onto_first-append : (c : ℕ) (xs : List ℕ) (ls : List (List ℕ)) → nat_lt 0 (length xs) ≡ true
    → onto_first c (lines xs ++ ls) ≡ onto_first c (lines xs) ++ ls
onto_first-append c [] ls h = absurd (cc)
onto_first-append c (x ∷ xs) ls h = let s = lines-some x xs in rw s.1.1 refl

-- the three ways in which a byte stands in front of others
record AtEnd (c : ℕ) (cs : List ℕ) : Type 0 where
  ended : ended_lines (c ∷ cs) ≡ [] ∷ ended_lines cs
  left : open_line (c ∷ cs) ≡ open_line cs

record AtLine (c : ℕ) (cs : List ℕ) : Type 0 where
  ended : ended_lines (c ∷ cs) ≡ onto_first c (ended_lines cs)
  left : open_line (c ∷ cs) ≡ open_line cs

record AtOpen (c : ℕ) (cs : List ℕ) : Type 0 where
  ended : ended_lines (c ∷ cs) ≡ []
  left : open_line (c ∷ cs) ≡ c ∷ cs
  rest_ended : ended_lines cs ≡ []
  rest_open : open_line cs ≡ cs

at_end : (c : ℕ) (cs : List ℕ) → (c == 0x0A) ≡ true → AtEnd c cs
unfolding ended_lines open_line
at_end c cs e =
    let kept : whole_lines (c ∷ cs) ≡ c ∷ whole_lines cs = whole-counted c cs (rw e refl) in
    record { ended = rw kept (rw e refl); left = rw kept refl }

at_line : (c : ℕ) (cs : List ℕ) → (c == 0x0A) ≡ false → nat_lt 0 (length (whole_lines cs)) ≡ true → AtLine c cs
unfolding ended_lines open_line
at_line c cs e f =
    let kept : whole_lines (c ∷ cs) ≡ c ∷ whole_lines cs = whole-counted c cs (rw (e, f) refl) in
    record { ended = rw kept (rw e refl); left = rw kept refl }

at_open : (c : ℕ) (cs : List ℕ) → (c == 0x0A) ≡ false → nat_lt 0 (length (whole_lines cs)) ≡ false → AtOpen c cs
unfolding ended_lines open_line
at_open c cs e f =
    let none : whole_lines (c ∷ cs) ≡ [] = whole-open c cs (rw (e, f) refl) in
    let rest : whole_lines cs ≡ [] = none_whole _ f in
    record { ended = rw none refl; left = rw none refl; rest_ended = rw rest refl; rest_open = rw rest refl }

ended-some : (c : ℕ) (xs : List ℕ) (ls : List (List ℕ)) → nat_lt 0 (length (whole_lines xs)) ≡ true
    → onto_first c (ended_lines xs ++ ls) ≡ onto_first c (ended_lines xs) ++ ls
unfolding ended_lines
ended-some c xs ls h = onto_first-append c (whole_lines xs) ls h

ended-onto : (c : ℕ) (xs more : List ℕ) → (c == 0x0A) ≡ false
    → ended_lines (c ∷ (xs ++ 0x0A ∷ more)) ≡ onto_first c (ended_lines (xs ++ 0x0A ∷ more))
ended-onto c xs more e =
    (at_line c (xs ++ 0x0A ∷ more) e (ap (λ (l : List ℕ). nat_lt 0 (length l)) (whole_lines-end xs more)
    ∙ some_behind xs (whole_lines more) 0x0A)).ended

-- one more line end
pub ended_lines-end : (xs more : List ℕ)
    → ended_lines (xs ++ 0x0A ∷ more) ≡ ended_lines xs ++ open_line xs ∷ ended_lines more
ended_lines-end [] more = (at_end 0x0A more refl).ended
    ∙ sym (ap (λ (ls : List (List ℕ)). ls ++ open_line [] ∷ ended_lines more) ended-nil
    ∙ ap (λ (l : List ℕ). l ∷ ended_lines more) open-nil)
ended_lines-end (c ∷ cs) more =
    let rest = ended_lines-end cs more in
    elim (cases_Bool (c == 0x0A)) [
      | inl e ↦ let a = at_end c cs e in let b = at_end c (cs ++ 0x0A ∷ more) e in
          b.ended ∙ ap (λ (ls : List (List ℕ)). [] ∷ ls) rest
          ∙ sym (ap (λ (ls : List (List ℕ)). ls ++ open_line (c ∷ cs) ∷ ended_lines more) a.ended
          ∙ ap (λ (l : List ℕ). [] ∷ (ended_lines cs ++ l ∷ ended_lines more)) a.left)
      | inr e ↦ ended-onto c cs more e ∙ ap (onto_first c) rest
          ∙ elim (cases_Bool (nat_lt 0 (length (whole_lines cs)))) [
            | inl f ↦ let a = at_line c cs e f in
                ended-some c cs (open_line cs ∷ ended_lines more) f
                ∙ sym (ap (λ (ls : List (List ℕ)). ls ++ open_line (c ∷ cs) ∷ ended_lines more) a.ended
                ∙ ap (λ (l : List ℕ). onto_first c (ended_lines cs) ++ l ∷ ended_lines more) a.left)
            | inr f ↦ let a = at_open c cs e f in
                ap (λ (ls : List (List ℕ)). onto_first c (ls ++ open_line cs ∷ ended_lines more)) a.rest_ended
                ∙ ap (λ (l : List ℕ). (c ∷ l) ∷ ended_lines more) a.rest_open
                ∙ sym (ap (λ (ls : List (List ℕ)). ls ++ open_line (c ∷ cs) ∷ ended_lines more) a.ended
                ∙ ap (λ (l : List ℕ). l ∷ ended_lines more) a.left)
          ]
    ]

-- the last line, where it has bytes and no end
pub last_lines : List ℕ → List (List ℕ)
last_lines [] = []
last_lines (c ∷ cs) = (c ∷ cs) ∷ []

onto_last : (c : ℕ) (cs : List ℕ) → onto_first c (last_lines cs) ≡ (c ∷ cs) ∷ []
unfolding last_lines
onto_last c [] = refl
onto_last c (d ∷ ds) = refl

lines-cons : (c : ℕ) (cs : List ℕ) → (c == 0x0A) ≡ false → lines (c ∷ cs) ≡ onto_first c (lines cs)
lines-cons c cs e = rw e refl

lines-cons-end : (c : ℕ) (cs : List ℕ) → (c == 0x0A) ≡ true → lines (c ∷ cs) ≡ [] ∷ lines cs
lines-cons-end c cs e = rw e refl

-- an open line is the last line
pub last-some : (c : ℕ) (cs : List ℕ) → last_lines (c ∷ cs) ≡ (c ∷ cs) ∷ []
unfolding last_lines
last-some c cs = refl

-- no open line: no last line
pub last-none : last_lines [] ≡ []
unfolding last_lines
last-none = refl

-- the lines of a script are the ended ones and the last
pub lines-parts : (xs : List ℕ) → lines xs ≡ ended_lines xs ++ last_lines (open_line xs)
lines-parts [] = sym (ap (λ (ls : List (List ℕ)). ls ++ last_lines (open_line [])) ended-nil
    ∙ ap last_lines open-nil ∙ last-none)
lines-parts (c ∷ cs) =
    let rest = lines-parts cs in
    elim (cases_Bool (c == 0x0A)) [
      | inl e ↦ let a = at_end c cs e in
          lines-cons-end c cs e ∙ ap (λ (ls : List (List ℕ)). [] ∷ ls) rest
          ∙ sym (ap (λ (ls : List (List ℕ)). ls ++ last_lines (open_line (c ∷ cs))) a.ended
          ∙ ap (λ (l : List ℕ). [] ∷ (ended_lines cs ++ last_lines l)) a.left)
      | inr e ↦ lines-cons c cs e ∙ ap (onto_first c) rest ∙ elim (cases_Bool (nat_lt 0 (length (whole_lines cs)))) [
        | inl f ↦ let a = at_line c cs e f in
            ended-some c cs (last_lines (open_line cs)) f
            ∙ sym (ap (λ (ls : List (List ℕ)). ls ++ last_lines (open_line (c ∷ cs))) a.ended
            ∙ ap (λ (l : List ℕ). onto_first c (ended_lines cs) ++ last_lines l) a.left)
        | inr f ↦ let a = at_open c cs e f in
            ap (λ (ls : List (List ℕ)). onto_first c (ls ++ last_lines (open_line cs))) a.rest_ended
            ∙ ap (λ (l : List ℕ). onto_first c (last_lines l)) a.rest_open ∙ onto_last c cs
            ∙ sym (ap (λ (ls : List (List ℕ)). ls ++ last_lines (open_line (c ∷ cs))) a.ended ∙ ap last_lines a.left
            ∙ last-some c cs)
      ]
    ]

-- ---- worked examples

script_of_three : List ℕ
script_of_three = 0x61 ∷ 0x0A ∷ 0x0A ∷ 0x62 ∷ 0x63 ∷ []

ended-example : ended_lines script_of_three ≡ (0x61 ∷ []) ∷ [] ∷ []
unfolding ended_lines script_of_three
ended-example = refl

open-example : open_line script_of_three ≡ 0x62 ∷ 0x63 ∷ []
unfolding open_line script_of_three
open-example = refl
