-- Words stand for no more bytes than they are spelled by.
use Rattle.std.proofs.Common.{◌≡◌, ℕ, ◌+◌, ◌≤◌, Bool, true, false, cond, List, [], ◌∷◌, length, Option, Some, None}
use Rattle.std.proofs.Common.{subst, arith, ◌==◌, ◌||◌}
use Rattle.std.specs.Option.{option_and_then, IfSome}
use Rattle.segment_lang.specs.Lexing.{Token, TokenRest, tokens, in_bare, in_text, after_text, escaped, high_digit, more}
use Rattle.segment_lang.specs.Lexing.{ended}
use Rattle.segment_lang.specs.Lexing.{bare_token, text_token, is_blank, is_bare, is_plain, byte_of_digits}
use Rattle.segment_lang.specs.Laws.{held_len}

abbrev Fits : ℕ → Option (List Token) → Type 0
Fits n o = IfSome o (λ ws. held_len ws ≤ n)

abbrev RestFits : ℕ → TokenRest → Type 0
RestFits n r = IfSome r (λ x. length x.0 + held_len x.1 ≤ n)

wider : (n m : ℕ) (r : TokenRest) → n ≤ m → RestFits n r → RestFits m r
wider n m None h f = tt
wider n m (Some (bs, ws)) h f = omega arith

more_fits : (c n m : ℕ) (r : TokenRest) → n + 1 ≤ m → RestFits n r → RestFits m (more c r)
more_fits c n m None h f = tt
more_fits c n m (Some (bs, ws)) h f = omega arith

ended_fits : (n m : ℕ) (o : Option (List Token)) → n ≤ m → Fits n o → RestFits m (ended o)
ended_fits n m None h f = tt
ended_fits n m (Some ws) h f = omega arith

text_fits : (n m : ℕ) (r : TokenRest) → n + 1 ≤ m → RestFits n r → Fits m (text_token r)
text_fits n m None h f = tt
text_fits n m (Some (bs, ws)) h f = omega arith

bare_fits : (c n m : ℕ) (r : TokenRest) → n + 2 ≤ m → RestFits n r → Fits m (bare_token c r)
bare_fits c n m None h f = tt
bare_fits c n m (Some (bs, ws)) h f = omega arith

tokens_wider : (n m : ℕ) (o : Option (List Token)) → n ≤ m → Fits n o → Fits m o
tokens_wider n m None h f = tt
tokens_wider n m (Some ws) h f = omega arith

choice_fits : (b q f : Bool) (n : ℕ) (x y z : Option (List Token)) → Fits n x → Fits n y → Fits n z
    → Fits n (cond b x (cond q y (cond f z None)))
choice_fits true q f n x y z g h k = g
choice_fits false true f n x y z g h k = h
choice_fits false false true n x y z g h k = k
choice_fits false false false n x y z g h k = tt

item_fits : (q e p : Bool) (n : ℕ) (x y z : TokenRest) → RestFits n x → RestFits n y → RestFits n z
    → RestFits n (cond q x (cond e y (cond p z None)))
item_fits true e p n x y z g h k = g
item_fits false true p n x y z g h k = h
item_fits false false true n x y z g h k = k
item_fits false false false n x y z g h k = tt

pair_fits : (q x : Bool) (n : ℕ) (y z : TokenRest) → RestFits n y → RestFits n z → RestFits n (cond q y (cond x z None))
pair_fits true x n y z g h = g
pair_fits false true n y z g h = h
pair_fits false false n y z g h = tt

digits_fit : (o : Option ℕ) (n m : ℕ) (r : TokenRest) → n + 1 ≤ m → RestFits n r
    → RestFits m (option_and_then (λ c. more c r) o)
digits_fit None n m r h f = tt
digits_fit (Some c) n m r h f = more_fits c n m r h f

mutual
  tokens_fit : (bytes : List ℕ) → Fits (length bytes + 1) (tokens bytes)
  tokens_fit [] = omega arith
  tokens_fit (c ∷ cs) =
      let n = length cs in let m = length (c ∷ cs) + 1 in
      choice_fits (is_blank c) (c == 0x22) (is_bare c) m (tokens cs) (text_token (in_text cs)) (bare_token c
      (in_bare cs))
      (tokens_wider (n + 1) m (tokens cs) (omega arith) (tokens_fit cs))
      (text_fits n m (in_text cs) (omega arith) (in_text_fits cs))
      (bare_fits c n m (in_bare cs) (omega arith) (in_bare_fits cs))

  in_bare_fits : (bytes : List ℕ) → RestFits (length bytes) (in_bare bytes)
  in_bare_fits [] = omega arith
  in_bare_fits (c ∷ cs) =
      let n = length cs in let m = length (c ∷ cs) in
      pair_fits (is_blank c) (is_bare c) m (ended (tokens cs)) (more c (in_bare cs))
      (ended_fits (n + 1) m (tokens cs) (omega arith) (tokens_fit cs))
      (more_fits c n m (in_bare cs) (omega arith) (in_bare_fits cs))

  in_text_fits : (bytes : List ℕ) → RestFits (length bytes) (in_text bytes)
  in_text_fits [] = tt
  in_text_fits (c ∷ cs) =
      let n = length cs in let m = length (c ∷ cs) in
      item_fits (c == 0x22) (c == 0x5C) (is_plain c) m (after_text cs) (escaped cs) (more c (in_text cs))
      (wider n m (after_text cs) (omega arith) (after_text_fits cs))
      (wider n m (escaped cs) (omega arith) (escaped_fits cs))
      (more_fits c n m (in_text cs) (omega arith) (in_text_fits cs))

  after_text_fits : (bytes : List ℕ) → RestFits (length bytes) (after_text bytes)
  after_text_fits [] = omega arith
  after_text_fits (c ∷ cs) =
      let n = length cs in let m = length (c ∷ cs) in
      pair_fits (is_blank c) false m (ended (tokens cs)) None
      (ended_fits (n + 1) m (tokens cs) (omega arith) (tokens_fit cs)) tt

  escaped_fits : (bytes : List ℕ) → RestFits (length bytes) (escaped bytes)
  escaped_fits [] = tt
  escaped_fits (c ∷ cs) =
      let n = length cs in let m = length (c ∷ cs) in
      pair_fits ((c == 0x22) || (c == 0x5C)) (c == 0x78) m (more c (in_text cs)) (high_digit cs)
      (more_fits c n m (in_text cs) (omega arith) (in_text_fits cs))
      (wider n m (high_digit cs) (omega arith) (high_digit_fits cs))

  high_digit_fits : (bytes : List ℕ) → RestFits (length bytes) (high_digit bytes)
  high_digit_fits [] = tt
  high_digit_fits (h ∷ []) = tt
  high_digit_fits (h ∷ l ∷ cs) = digits_fit (byte_of_digits h l) (length cs) (length (h ∷ l ∷ cs)) (in_text cs)
      (omega arith) (in_text_fits cs)

given_fits : (n : ℕ) (o : Option (List Token)) (ws : List Token) → Fits n o → o ≡ Some ws → held_len ws ≤ n
given_fits n o ws f h = subst (Fits n) h f

-- words stand for at most one byte more than they are spelled by
pub tokens_room : (bytes : List ℕ) (ws : List Token) → tokens bytes ≡ Some ws → held_len ws ≤ length bytes + 1
tokens_room bytes ws h = given_fits (length bytes + 1) (tokens bytes) ws (tokens_fit bytes) h
