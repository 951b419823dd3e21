-- Lines and words of a text are read.
use Rattle.segment_dump.proofs.Common.{◌≡◌, ◌≢◌, ℕ, suc, ◌+◌, ◌<◌, ◌==◌, Bool, true, false, List, [], ◌∷◌, ◌++◌, length}
use Rattle.segment_dump.proofs.Common.{take, drop, cond, not, nat_lt, Option, Some, None, Result, Ok, Err, refl, sym}
use Rattle.segment_dump.proofs.Common.{ap, ◌∙◌, arith, append_assoc, position, length-append, take-append_seam}
use Rattle.segment_dump.proofs.Common.{nat_tests, number, next_token, Token, Bare, Text, number_of, ReadsLine}
use Rattle.segment_dump.proofs.Common.{IfOk, ReadsThis, subst}
use Rattle.segment_dump.specs.Lines.{BeginsWithNumber}
use Rattle.segment_dump.proofs.Common.{ReadsToken, any_token, bare_token, HasNoEnd, ended, lt-ltb}
use Rattle.std.specs.{List.position_or_len, Option.ok_or}
use Rattle.std.proofs.Math.Seq.{drop-append_seam}
use Rattle.std.proofs.lemmas.List.Quantifiers.{position-Some}
use Rattle.segment_dump.proofs.Common.{eqb-true, get_or, zero}
use Rattle.segment_dump.proofs.texts.Options.{never-ok, none-some, ok-same, same_Some}

-- ---- a word

no-bare : {E : Type 0} (text rest : List ℕ) (e : E) (w : Token) (a : List ℕ) (x : ℕ)
    → ReadsToken bare_token text rest (Err e) → next_token text ≡ Some (w, a) → number w ≡ Some x → ⊥
no-bare text rest e (Bare v) a x h f g = never-ok e v (h.reads (Bare v) a v f refl).0
no-bare text rest e (Text v) a x h f g = none-some x g

module _ {E : Type 0} (text rest : List ℕ) where
  -- none was read
  pub no-token : {X : Type 0} (value : Token → Option X) (e : E) (result : Result X E)
      → ReadsToken any_token text rest (Err e) → ReadsToken value text rest result
  no-token value e result h = record { reads = λ w a x f g. absurd (never-ok e w (h.reads w a w f refl).0) }

  -- this one was
  pub this-token : {X : Type 0} (value : Token → Option X) (w : Token) (y : X)
      → ReadsToken {E = E} any_token text rest (Ok w) → value w ≡ Some y → ReadsToken {E = E} value text rest (Ok y)
  this-token {X} value w y h e = record {
    reads = λ v a x f g.
        let r = h.reads v a v f refl in
        let same : w ≡ v = ok-same {E = E} w v r.0 in
        let is : y ≡ x = same_Some y x (sym e ∙ ap value same ∙ g) in
        (ap Ok is, r.1);
  }

  -- it is none that was wanted
  pub other-token : {X : Type 0} (value : Token → Option X) (w : Token) (result : Result X E)
      → ReadsToken {E = E} any_token text rest (Ok w) → value w ≡ None → ReadsToken value text rest result
  other-token value w result h e = record {
    reads = λ v a x f g.
        let r = h.reads v a v f refl in
        let same : w ≡ v = ok-same {E = E} w v r.0 in
        absurd (none-some x (sym e ∙ ap value same ∙ g));
  }

  -- what the word stands for is read, if it stands for anything
  pub read-token : {X : Type 0} (value : Token → Option X) (w : Token) (o : Option X) (e : E) (result : Result X E)
      → ReadsToken {E = E} any_token text rest (Ok w) → o ≡ value w → result ≡ ok_or o e
      → ReadsToken value text rest result
  read-token value w o e result h q is = record {
    reads = λ v a x f g.
        let r = h.reads v a v f refl in
        let same : w ≡ v = ok-same {E = E} w v r.0 in
        (is ∙ ap (λ p. ok_or p e) (q ∙ ap value same ∙ g), r.1);
  }

  -- ---- a number

  -- no word: no number is read
  pub no-number : (e : E) (result : Result ℕ E) → ReadsToken bare_token text rest (Err e)
      → ReadsToken number text rest result
  no-number e result h = record { reads = λ w a x f g. absurd (no-bare text rest e w a x h f g) }

  number-in : (bytes : List ℕ) (o : Option ℕ) (w : Token) (a : List ℕ) (x : ℕ)
      → ReadsToken {E = E} bare_token text rest (Ok bytes) → o ≡ number_of bytes → next_token text ≡ Some (w, a)
      → number w ≡ Some x → (o ≡ Some x) × (rest ≡ a)
  number-in bytes o (Bare v) a x h q f g =
      let r = h.reads (Bare v) a v f refl in
      let same : bytes ≡ v = ok-same {E = E} bytes v r.0 in
      (q ∙ ap number_of same ∙ g, r.1)
  number-in bytes o (Text v) a x h q f g = absurd (none-some x g)

  -- the number of a word is read, if it is the word of one
  pub read-number : (bytes : List ℕ) (o : Option ℕ) (e : E) (result : Result ℕ E)
      → ReadsToken {E = E} bare_token text rest (Ok bytes) → o ≡ number_of bytes → result ≡ ok_or o e
      → ReadsToken number text rest result
  read-number bytes o e result h q is = record {
    reads = λ w a x f g.
        let r = number-in bytes o w a x h q f g in
        (is ∙ ap (λ p. ok_or p e) r.0, r.1);
  }

  number-of : (bytes : List ℕ) (o : Option ℕ) (e : E) → next_token text ≡ Some (Bare bytes, rest)
      → o ≡ number_of bytes
      → IfOk (ok_or o e) (λ n. BeginsWithNumber n text rest)
  number-of bytes (Some n) e f q = record { token = Bare bytes; is = sym q; read = f }
  number-of bytes None e f q = tt

  -- the number that is read stands for the next word
  pub exact-number : (bytes : List ℕ) (o : Option ℕ) (e : E) (result : Result ℕ E)
      → next_token text ≡ Some (Bare bytes, rest) → o ≡ number_of bytes → result ≡ ok_or o e
      → IfOk result (λ n. BeginsWithNumber n text rest)
  exact-number bytes o e result f q is =
      subst (λ r. IfOk r (λ n. BeginsWithNumber n text rest)) (sym is) (number-of bytes o e f q)

  -- ---- this word

  -- no word: the word that was wanted is not read
  pub not-this : (token : List ℕ) (e : E) (result : Result (Unit {0}) E) → ReadsToken bare_token text rest (Err e)
      → ReadsThis token text rest result
  not-this token e result h = record {
    reads = λ a f. absurd (never-ok e token (h.reads (Bare token) a token f
        refl).0);
  }

  -- the word that was wanted is read
  pub is-this : (token bytes : List ℕ) → ReadsToken {E = E} bare_token text rest (Ok bytes)
      → ReadsThis {E = E} token text rest (Ok tt)
  is-this token bytes h = record { reads = λ a f. (refl, (h.reads (Bare token) a token f refl).1) }

  -- another word: the word that was wanted is not read
  pub other-this : (token bytes : List ℕ) (result : Result (Unit {0}) E)
      → ReadsToken {E = E} bare_token text rest (Ok bytes) → bytes ≢ token → ReadsThis token text rest result
  other-this token bytes result h n =
      record { reads = λ a f. absurd (n (ok-same {E = E} bytes token (h.reads (Bare token) a token f refl).0)) }

-- ---- a line

-- whether a byte ends a line
abbrev pub is_end : ℕ → Bool
is_end b = b == 0x0A

no-end : (c : ℕ) → c ≢ 0x0A → is_end c ≡ false
no-end c n = grind (arith, nat_tests)

end-of-line : (line a : List ℕ) → HasNoEnd line → position_or_len is_end (line ++ 0x0A ∷ a) ≡ length line
end-of-line [] a h = refl
end-of-line (c ∷ line) a h =
    let one : position_or_len is_end ((c ∷ line) ++ 0x0A ∷ a) ≡ 1 + position_or_len is_end (line ++ 0x0A ∷ a) =
    ap (λ b. cond (not b) (1 + position_or_len is_end (line ++ 0x0A ∷ a)) 0) (no-end c h.0) in
    omega (arith, one, end-of-line line a h.1)

ended-apart : (line a : List ℕ) → ended line ++ a ≡ line ++ 0x0A ∷ a
ended-apart line a = append_assoc line (0x0A ∷ []) a

-- a text is what stands before such a byte, the byte, and what stands behind it
cut-at : (text : List ℕ) (n : ℕ) → n < length text → get_or text n 0 ≡ 0x0A
    → text ≡ take n text ++ 0x0A ∷ drop 1 (drop n text)
cut-at [] n l g = absurd (omega (arith, l))
cut-at (c ∷ cs) zero l g = ap (λ b. b ∷ cs) g
cut-at (c ∷ cs) (suc n) l g = ap (λ xs. c ∷ xs) (cut-at cs n (omega (arith, l)) g)

-- where the line is read
record IsCut (text : List ℕ) (n : ℕ) (line a : List ℕ) : Type 0 where
  long : n ≡ length line
  prefix : take n text ≡ line
  behind : drop n text ≡ 0x0A ∷ a

line-end : (text line a : List ℕ) → HasNoEnd line → text ≡ ended line ++ a → position is_end text ≡ Some (length line)
line-end text line a h e =
    let whole : text ≡ line ++ 0x0A ∷ a = e ∙ ended-apart line a in
    let at : position_or_len is_end text ≡ length line = ap (position_or_len is_end) whole ∙ end-of-line line a h in
    let long : length text ≡ length line + suc (length a) = ap length whole ∙ length-append line (0x0A ∷ a) in
    let inside : nat_lt (position_or_len is_end text) (length text) ≡ true = lt-ltb (position_or_len is_end text)
    (length text) (omega (arith, at, long)) in
    ap (λ b. cond b (Some (position_or_len is_end text)) None) inside ∙ ap Some at

line-cut : (text line a : List ℕ) (n : ℕ) → HasNoEnd line → text ≡ ended line ++ a → position is_end text ≡ Some n
    → IsCut text n line a
line-cut text line a n h e p =
    let whole : text ≡ line ++ 0x0A ∷ a = e ∙ ended-apart line a in
    let long : n ≡ length line = same_Some n (length line) (sym p ∙ line-end text line a h e) in
    record {
      long = long;
      prefix = (λ i. take (long i) (whole i)) ∙ take-append_seam line (0x0A ∷ a);
      behind = (λ i. drop (long i) (whole i)) ∙ drop-append_seam line (0x0A ∷ a);
    }

module _ {E : Type 0} (text : List ℕ) where
  -- no line end: no line is read
  pub no-line : (rest : List ℕ) (o : Option ℕ) (result : Result (List ℕ) E) → o ≡ position is_end text → o ≡ None
      → ReadsLine text rest result
  no-line rest o result p e = record {
    reads = λ line a h s f. absurd
        (none-some (length line) (sym e ∙ p ∙ line-end text line a h f));
  }

  -- a line that is too long is not read
  pub long-line : (rest prefix : List ℕ) (o : Option ℕ) (n : ℕ) (result : Result (List ℕ) E)
      → o ≡ position is_end text → o ≡ Some n → prefix ≡ take n text → 4096 < length prefix → ReadsLine text rest result
  long-line rest prefix o n result p e f l = record {
    reads = λ line a h s g.
        let r = line-cut text line a n h g (sym p ∙ e) in
        absurd (omega (arith, s, l, ap length (f ∙ r.prefix)));
  }

  -- a line with its end is read
  pub this-line : (rest prefix behind : List ℕ) (o : Option ℕ) (n : ℕ) → o ≡ position is_end text → o ≡ Some n
      → prefix ≡ take n text → behind ≡ drop n text → rest ≡ drop 1 behind → ReadsLine {E = E} text rest (Ok prefix)
  this-line rest prefix behind o n p e f g k = record {
    reads = λ line a h s q.
        let r = line-cut text line a n h q (sym p ∙ e) in
        (ap Ok (f ∙ r.prefix), k ∙ ap (drop 1) (g ∙ r.behind));
  }

-- the line with its end, and what is left, are the text
pub line-whole : (text rest prefix behind : List ℕ) (o : Option ℕ) (n : ℕ) → o ≡ position is_end text → o ≡ Some n
    → prefix ≡ take n text → behind ≡ drop n text → rest ≡ drop 1 behind → text ≡ ended prefix ++ rest
line-whole text rest prefix behind o n p e f g k =
    let at = position-Some is_end text n 0 (sym p ∙ e) in
    let last : rest ≡ drop 1 (drop n text) = k ∙ ap (drop 1) g in
    cut-at text n at.0 (eqb-true (get_or text n 0) 0x0A at.1) ∙ (λ i. sym f i ++ 0x0A ∷ sym last i)
    ∙ sym (ended-apart prefix rest)
