-- A bare word, read by its own bytes: it is one where a blank or the end follows them.
use Rattle.std.proofs.Common.{◌≡◌, ℕ, suc, ◌+◌, ◌≤◌, Bool, true, false, cond, List, [], ◌∷◌, Option, Some, None, refl}
use Rattle.std.proofs.Common.{sym, ap}
use Rattle.std.proofs.Common.{◌∙◌, arith, take, drop, length, not}
use Rattle.std.specs.List.{list_all, prefix_len}
use Rattle.std.proofs.lemmas.List.{length-drop}
use Rattle.std.proofs.lemmas.List.Folds.{length-prefix_len}
use Rattle.std.proofs.lemmas.List.Sums.{prefix_len-le-length}
use Rattle.std.proofs.lemmas.Option.{same_Some}
use Rattle.std.proofs.lemmas.Bool.Decides.{nat_tests}
use Rattle.segment_lang.specs.Lexing.{is_bare, is_blank}
use Rattle.segment_lang.specs.Tokens.{bare_at, ends_token, longer, up_to_blank}
use Rattle.segment_lang.proofs.tokens.AllTokens.{bare_at_blank, bare_at_more}

-- the bytes in front that may stand in a bare word, where the word ends after them
abbrev pub bare_prefix : List ℕ → Option (List ℕ × List ℕ)
bare_prefix bs =
    cond (ends_token (drop (prefix_len is_bare bs) bs))
    (Some (take (prefix_len is_bare bs) bs, drop (prefix_len is_bare bs) bs)) None

blank_not_bare : (c : ℕ) → is_blank c ≡ true → is_bare c ≡ false
blank_not_bare c h = grind (arith, nat_tests, h)

one_more : (e : Bool) (c : ℕ) (w r : List ℕ)
    → longer c (cond e (Some (w, r)) None) ≡ cond {A = Option (List ℕ × List ℕ)} e (Some (c ∷ w, r)) None
one_more true c w r = refl
one_more false c w r = refl

prefix_blank : (c : ℕ) (cs : List ℕ) → is_blank c ≡ true → is_bare c ≡ false → bare_prefix (c ∷ cs) ≡ Some ([], c ∷ cs)
prefix_blank c cs h k = rw k (rw h refl)

prefix_other : (c : ℕ) (cs : List ℕ) → is_blank c ≡ false → is_bare c ≡ false → bare_prefix (c ∷ cs) ≡ None
prefix_other c cs h k = rw k (rw h refl)

len_more : (c : ℕ) (cs : List ℕ) → is_bare c ≡ true → prefix_len is_bare (c ∷ cs) ≡ suc (prefix_len is_bare cs)
len_more c cs k = rw k (omega arith)

-- the same by the number of those bytes
abbrev prefix_of : List ℕ → ℕ → Option (List ℕ × List ℕ)
prefix_of bs n = cond (ends_token (drop n bs)) (Some (take n bs, drop n bs)) None

prefix_more : (c : ℕ) (cs : List ℕ) → is_bare c ≡ true → bare_prefix (c ∷ cs) ≡ longer c (bare_prefix cs)
prefix_more c cs k =
    let n = prefix_len is_bare cs in
    ap (prefix_of (c ∷ cs)) (len_more c cs k) ∙ sym (one_more (ends_token (drop n cs)) c (take n cs) (drop n cs))

step : (k b : Bool) (c : ℕ) (cs : List ℕ) → is_blank c ≡ k → is_bare c ≡ b → bare_at cs ≡ bare_prefix cs
    → bare_at (c ∷ cs) ≡ bare_prefix (c ∷ cs)
step true b c cs h e i = bare_at_blank c cs h ∙ sym (prefix_blank c cs h (blank_not_bare c h))
step false true c cs h e i = bare_at_more c cs h ∙ rw e (ap (longer c) i) ∙ sym (prefix_more c cs e)
step false false c cs h e i = bare_at_more c cs h ∙ rw e refl ∙ sym (prefix_other c cs h e)

pub bare_at_prefix : (bs : List ℕ) → bare_at bs ≡ bare_prefix bs
unfolding bare_at
bare_at_prefix [] = refl
bare_at_prefix (c ∷ cs) = step (is_blank c) (is_bare c) c cs refl refl (bare_at_prefix cs)

-- what is found in front is the word, and what is found not to be one is none
pub prefix_is_token : (bs w r : List ℕ) (e : Bool) → w ≡ take (prefix_len is_bare bs) bs
    → r ≡ drop (prefix_len is_bare bs) bs
    → e ≡ ends_token r → e ≡ true → Some (w, r) ≡ bare_at bs
prefix_is_token bs w r e f g h t = rw f (rw g (sym (bare_at_prefix bs ∙ rw (sym (ap ends_token g) ∙ sym h ∙ t) refl)))

-- a bare front that ends nowhere is no word
pub prefix_is_none : (bs r : List ℕ) (e : Bool) → r ≡ drop (prefix_len is_bare bs) bs → e ≡ ends_token r → e ≡ false
    → None ≡ bare_at bs
prefix_is_none bs r e g h t = sym (bare_at_prefix bs ∙ rw (sym (ap ends_token g) ∙ sym h ∙ t) refl)

ended : (a : Bool) (up bs w r : List ℕ) → length up ≤ length bs
    → cond {A = Option (List ℕ × List ℕ)} a (Some (up, drop (length up) bs)) None ≡ Some (w, r)
    → length up + length r ≡ length bs
ended true up bs w r h e =
    let d : drop (length up) bs ≡ r =
    ap (λ (x : List ℕ × List ℕ). x.1) (same_Some (up, drop (length up) bs) (w, r) e) in
    omega (arith, sym (ap length d) ∙ length-drop (length up) bs)
ended false up bs w r h e = absurd (cc)

-- the bytes up to a blank and those after a word are all
pub token_and_rest : (bs w r : List ℕ) → bare_at bs ≡ Some (w, r) → length (up_to_blank bs) + length r ≡ length bs
unfolding bare_at
token_and_rest bs w r e =
    ended (list_all is_bare (up_to_blank bs)) (up_to_blank bs) bs w r
    (omega (arith, length-prefix_len (λ c. not (is_blank c)) bs, prefix_len-le-length (λ c. not (is_blank c)) bs)) e
