-- All words of a line are its words one after another.
use Rattle.std.proofs.Common.{◌≡◌, ℕ, Bool, true, false, cond, not, ◌&&◌, List, [], ◌∷◌, Option, Some, None, ap, sym}
use Rattle.std.proofs.Common.{refl, ◌∙◌, arith, ◌==◌, ◌||◌, length, drop, ◌<◌, ◌≤◌, ◌+◌, subst}
use Rattle.std.specs.Option.{option_map, option_and_then}
use Rattle.std.specs.List.{list_all}
use Rattle.std.proofs.lemmas.List.Sums.{take_while-cons}
use Rattle.std.proofs.lemmas.Bool.{false≢true}
use Rattle.std.proofs.lemmas.Bool.Decides.{nat_tests}
use Rattle.segment_lang.specs.Lexing.{Token, Bare, Text, TokenRest, tokens, in_bare, in_text, after_text, escaped}
use Rattle.segment_lang.specs.Lexing.{high_digit}
use Rattle.segment_lang.specs.Lexing.{more, ended, bare_token, text_token, is_blank, is_bare, is_plain, byte_of_digits}
use Rattle.segment_lang.specs.Reading.{skip_blanks}
use Rattle.segment_lang.specs.Tokens.{text_at, escaped_at, high_digit_at, longer, closed_at, bare_at, up_to_blank}
use Rattle.segment_lang.specs.Tokens.{behind_token, token_at, next_token, only_token, at_end}

-- what was read of a word, and the words after it
abbrev then_tokens : Option (List ℕ × List ℕ) → TokenRest
then_tokens t = option_and_then (λ x. option_map {U = List ℕ × List Token} (λ ws. (x.0, ws)) (tokens x.1)) t

more_tokens : (c : ℕ) (bs : List ℕ) (ws : Option (List Token))
    → more c (option_map {U = List ℕ × List Token} (λ ws. (bs, ws)) ws) ≡ option_map {U = List ℕ × List Token}
    (λ ws. (c ∷ bs, ws)) ws
more_tokens c bs None = refl
more_tokens c bs (Some ws) = refl

more_then : (c : ℕ) (t : Option (List ℕ × List ℕ)) → more c (then_tokens t) ≡ then_tokens (longer c t)
more_then c None = refl
more_then c (Some (bs, r)) = more_tokens c bs (tokens r)

blank_first : (c : ℕ) (cs : List ℕ) → is_blank c ≡ true → tokens (c ∷ cs) ≡ tokens cs
blank_first c cs h = rw h refl

-- ---- texts

after_blank : (b : Bool) (c : ℕ) (cs : List ℕ) → (b ≡ true → tokens (c ∷ cs) ≡ tokens cs)
    → cond b (ended (tokens cs)) None ≡ then_tokens (cond b (Some ([], c ∷ cs)) None)
after_blank true c cs h = ap ended (sym (h refl))
after_blank false c cs h = refl

after_text_is : (cs : List ℕ) → after_text cs ≡ then_tokens (closed_at cs)
after_text_is [] = refl
after_text_is (c ∷ cs) = after_blank (is_blank c) c cs (blank_first c cs)

same_item : (q e p : Bool) (a b m : TokenRest) (a' b' m' : Option (List ℕ × List ℕ)) → a ≡ then_tokens a'
    → b ≡ then_tokens b'
    → m ≡ then_tokens m' → cond q a (cond e b (cond p m None)) ≡ then_tokens (cond q a' (cond e b' (cond p m' None)))
same_item true e p a b m a' b' m' f g h = f
same_item false true p a b m a' b' m' f g h = g
same_item false false true a b m a' b' m' f g h = h
same_item false false false a b m a' b' m' f g h = refl

same_escape : (q x : Bool) (a b : TokenRest) (a' b' : Option (List ℕ × List ℕ)) → a ≡ then_tokens a' → b ≡
    then_tokens b'
    → cond q a (cond x b None) ≡ then_tokens (cond q a' (cond x b' None))
same_escape true x a b a' b' f g = f
same_escape false true a b a' b' f g = g
same_escape false false a b a' b' f g = refl

same_digits : (o : Option ℕ) (cs : List ℕ) → in_text cs ≡ then_tokens (text_at cs)
    → option_and_then (λ c. more c (in_text cs)) o ≡ then_tokens (option_and_then (λ c. longer c (text_at cs)) o)
same_digits None cs h = refl
same_digits (Some x) cs h = ap (more x) h ∙ more_then x (text_at cs)

mutual
  unfolding text_at

  in_text_is : (cs : List ℕ) → in_text cs ≡ then_tokens (text_at cs)
  in_text_is [] = refl
  in_text_is (c ∷ cs) = same_item (c == 0x22) (c == 0x5C) (is_plain c) _ _ _ _ _ _ (after_text_is cs) (escaped_is cs)
      (ap (more c) (in_text_is cs) ∙ more_then c (text_at cs))

  escaped_is : (cs : List ℕ) → escaped cs ≡ then_tokens (escaped_at cs)
  escaped_is [] = refl
  escaped_is (c ∷ cs) = same_escape ((c == 0x22) || (c == 0x5C)) (c == 0x78) _ _ _ _ (ap (more c) (in_text_is cs)
      ∙ more_then c (text_at cs)) (high_digit_is cs)

  high_digit_is : (cs : List ℕ) → high_digit cs ≡ then_tokens (high_digit_at cs)
  high_digit_is [] = refl
  high_digit_is (h ∷ []) = refl
  high_digit_is (h ∷ l ∷ cs) = same_digits (byte_of_digits h l) cs (in_text_is cs)

-- ---- bare words

abbrev bare_from : List ℕ → List ℕ → Option (List ℕ × List ℕ)
bare_from prefix bytes = cond (list_all is_bare prefix) (Some (prefix, drop (length prefix) bytes)) None

prefix_cons : (c : ℕ) (cs : List ℕ) → bare_at (c ∷ cs) ≡ bare_from (cond (not (is_blank c)) (c ∷ up_to_blank cs) [])
    (c ∷ cs)
unfolding bare_at
prefix_cons c cs = ap (λ prefix. bare_from prefix (c ∷ cs)) (take_while-cons (λ c. not (is_blank c)) c cs)

bare_longer : (f a : Bool) (c : ℕ) (prefix rest : List ℕ)
    → cond {A = Option (List ℕ × List ℕ)} (f && a) (Some (c ∷ prefix, rest)) None
    ≡ cond f (longer c (cond a (Some (prefix, rest)) None)) None
bare_longer true true c prefix rest = refl
bare_longer true false c prefix rest = refl
bare_longer false a c prefix rest = refl

-- a blank ends a bare word
pub bare_at_blank : (c : ℕ) (cs : List ℕ) → is_blank c ≡ true → bare_at (c ∷ cs) ≡ Some ([], c ∷ cs)
bare_at_blank c cs h = prefix_cons c cs ∙ rw h refl

-- a byte that is no blank goes on with a bare word
pub bare_at_more : (c : ℕ) (cs : List ℕ) → is_blank c ≡ false
    → bare_at (c ∷ cs) ≡ cond (is_bare c) (longer c (bare_at cs)) None
unfolding bare_at
bare_at_more c cs h = prefix_cons c cs
    ∙ rw h (bare_longer (is_bare c) (list_all is_bare (up_to_blank cs)) c (up_to_blank cs) (behind_token cs))

bare_step : (b f : Bool) (c : ℕ) (cs : List ℕ) → (b ≡ true → tokens (c ∷ cs) ≡ tokens cs)
    → (b ≡ true → bare_at (c ∷ cs) ≡ Some ([], c ∷ cs))
    → (b ≡ false → bare_at (c ∷ cs) ≡ cond f (longer c (bare_at cs)) None) → in_bare cs ≡ then_tokens (bare_at cs)
    → cond b (ended (tokens cs)) (cond f (more c (in_bare cs)) None) ≡ then_tokens (bare_at (c ∷ cs))
bare_step true f c cs w h k i = ap ended (sym (w refl)) ∙ sym (ap then_tokens (h refl))
bare_step false true c cs w h k i = ap (more c) i ∙ more_then c (bare_at cs) ∙ sym (ap then_tokens (k refl))
bare_step false false c cs w h k i = sym (ap then_tokens (k refl))

in_bare_is : (cs : List ℕ) → in_bare cs ≡ then_tokens (bare_at cs)
unfolding bare_at
in_bare_is [] = refl
in_bare_is (c ∷ cs) = bare_step (is_blank c) (is_bare c) c cs (blank_first c cs) (bare_at_blank c cs)
    (bare_at_more c cs) (in_bare_is cs)

-- ---- words

-- a word in front of the others
abbrev pub cons_tokens : Option (Token × List ℕ) → Option (List Token)
cons_tokens x = option_and_then (λ x. option_map (λ ws. x.0 ∷ ws) (tokens x.1)) x

abbrev as_text : Option (List ℕ × List ℕ) → Option (Token × List ℕ)
as_text t = option_map (λ (bs, rest). (Text bs, rest)) t

abbrev as_bare : Option (List ℕ × List ℕ) → Option (Token × List ℕ)
as_bare t = option_map (λ (bs, rest). (Bare bs, rest)) t

text_tokens : (bs : List ℕ) (ws : Option (List Token))
    → text_token (option_map {U = List ℕ × List Token} (λ ws. (bs, ws)) ws) ≡ option_map (λ ws. Text bs ∷ ws) ws
text_tokens bs None = refl
text_tokens bs (Some ws) = refl

text_then : (t : Option (List ℕ × List ℕ)) → text_token (then_tokens t) ≡ cons_tokens (as_text t)
text_then None = refl
text_then (Some (bs, r)) = text_tokens bs (tokens r)

bare_tokens : (c : ℕ) (bs : List ℕ) (ws : Option (List Token))
    → bare_token c (option_map {U = List ℕ × List Token} (λ ws. (bs, ws)) ws) ≡ option_map (λ ws. Bare (c ∷ bs) ∷ ws) ws
bare_tokens c bs None = refl
bare_tokens c bs (Some ws) = refl

bare_then : (c : ℕ) (t : Option (List ℕ × List ℕ)) → bare_token c (then_tokens t) ≡ cons_tokens (as_bare (longer c t))
bare_then c None = refl
bare_then c (Some (bs, r)) = bare_tokens c bs (tokens r)

same_token : (q f : Bool) (a b : Option (List Token)) (a' b' : Option (Token × List ℕ)) → a ≡ cons_tokens a'
    → cond f b None ≡ cons_tokens b' → cond q a (cond f b None) ≡ cons_tokens (cond q a' b')
same_token true f a b a' b' g h = g
same_token false f a b a' b' g h = h

same_bare : (f : Bool) (c : ℕ) (cs : List ℕ)
    → cond f (bare_token c (in_bare cs)) None ≡ cons_tokens (as_bare (cond f (longer c (bare_at cs)) None))
same_bare true c cs = ap (bare_token c) (in_bare_is cs) ∙ bare_then c (bare_at cs)
same_bare false c cs = refl

token_in_prefix : (c : ℕ) (cs : List ℕ) → is_blank c ≡ false
    → cond (c == 0x22) (text_token (in_text cs)) (cond (is_bare c) (bare_token c (in_bare cs)) None)
    ≡ cons_tokens (token_at (c ∷ cs))
unfolding token_at
token_in_prefix c cs h = same_token (c == 0x22) (is_bare c) _ _ _ _ (ap text_token (in_text_is cs) ∙ text_then
    (text_at cs))
    (same_bare (is_bare c) c cs ∙ sym (ap (λ t. cons_tokens (as_bare t)) (bare_at_more c cs h)))

abbrev none_or : Bool → Option (List Token) → Option (List Token)
none_or end ws = cond end (Some []) ws

abbrev split_tokens : List ℕ → Option (List Token)
split_tokens skipped = none_or (length skipped == 0) (cons_tokens (token_at skipped))

not_empty : (c : ℕ) (cs : List ℕ) → (length (c ∷ cs) == 0) ≡ false
not_empty c cs = grind (arith, nat_tests)

blank_or_token : (b : Bool) (c : ℕ) (cs : List ℕ) (w : Option (List Token)) → tokens cs ≡ split_tokens (skip_blanks cs)
    → (b ≡ false → w ≡ cons_tokens (token_at (c ∷ cs)))
    → cond b (tokens cs) w ≡ split_tokens (cond b (skip_blanks cs) (c ∷ cs))
blank_or_token true c cs w h k = h
blank_or_token false c cs w h k = k refl ∙ sym (ap (λ e. none_or e (cons_tokens (token_at (c ∷ cs)))) (not_empty c cs))

tokens_split : (bytes : List ℕ) → tokens bytes ≡ split_tokens (skip_blanks bytes)
tokens_split [] = refl
tokens_split (c ∷ cs) = blank_or_token (is_blank c) c cs _ (tokens_split cs) (token_in_prefix c cs)

-- the words are none at the end, and else the next one and those after it
pub tokens_next : (bytes : List ℕ) → tokens bytes ≡ cond (at_end bytes) (Some []) (cons_tokens (next_token bytes))
unfolding next_token
tokens_next bytes = tokens_split bytes

-- ---- a word has a byte

prefix_byte : (c : ℕ) (cs : List ℕ) → is_blank c ≡ false → 0 < length (up_to_blank (c ∷ cs))
prefix_byte c cs h = rw (take_while-cons (λ c. not (is_blank c)) c cs, h) (omega arith)

prefix_or_skip : (b : Bool) (c : ℕ) (cs : List ℕ) → is_blank c ≡ b → 1 ≤ length (cond b (skip_blanks cs) (c ∷ cs))
    → (1 ≤ length (skip_blanks cs) → 0 < length (up_to_blank (skip_blanks cs)))
    → 0 < length (up_to_blank (cond b (skip_blanks cs) (c ∷ cs)))
prefix_or_skip true c cs e h k = k h
prefix_or_skip false c cs e h k = prefix_byte c cs e

pub token_has_byte : (bytes : List ℕ) → 1 ≤ length (skip_blanks bytes) → 0 < length (up_to_blank (skip_blanks bytes))
token_has_byte [] h = absurd (omega arith)
token_has_byte (c ∷ cs) h = prefix_or_skip (is_blank c) c cs refl h (token_has_byte cs)

-- what is after a front is no more than the line
pub behind_prefix : (bytes skipped rest : List ℕ) → skipped ≡ skip_blanks bytes → length skipped ≤ length bytes
    → 1 ≤ length skipped → length (up_to_blank skipped) + length rest ≡ length skipped → length rest < length bytes
behind_prefix bytes skipped rest e s h r =
    let some : 0 < length (up_to_blank skipped) = rw e (token_has_byte bytes (subst (λ b. 1 ≤ length b) e h)) in
    omega arith

-- ---- readers of words

none_left : (bytes : List ℕ) → (length bytes == 0) ≡ true → token_at bytes ≡ None
unfolding token_at
none_left [] h = refl
none_left (c ∷ cs) h = absurd (false≢true (sym (not_empty c cs) ∙ h))

next_none : (bytes : List ℕ) → at_end bytes ≡ true → next_token bytes ≡ None
unfolding next_token
next_none bytes h = none_left (skip_blanks bytes) h

next_and_more : (bytes r : List ℕ) (w : Token) (e : Bool) → at_end bytes ≡ e → next_token bytes ≡ Some (w, r)
    → cond e (Some []) (cons_tokens (next_token bytes)) ≡ option_map (λ ws. w ∷ ws) (tokens r)
next_and_more bytes r w true e h = let n = next_none bytes e in cc
next_and_more bytes r w false e h = ap cons_tokens h

-- the words of a line are its next word and the others
pub tokens_some : (bytes r : List ℕ) (w : Token) → next_token bytes ≡ Some (w, r)
    → tokens bytes ≡ option_map (λ ws. w ∷ ws) (tokens r)
tokens_some bytes r w h = tokens_next bytes ∙ next_and_more bytes r w (at_end bytes) refl h

first_token : {B : Type 0} (g : List Token → Option B) (e : Bool) (x : Option (Token × List ℕ)) → g [] ≡ None
    → (e ≡ true → x ≡ None) → option_and_then g (cond e (Some []) (cons_tokens x))
    ≡ option_and_then (λ x. option_and_then (λ ws. g (x.0 ∷ ws)) (tokens x.1)) x
first_token {B} g true x n k = n
    ∙ sym (ap (option_and_then {U = B} (λ x. option_and_then (λ ws. g (x.0 ∷ ws)) (tokens x.1))) (k refl))
first_token g false None n k = refl
first_token g false (Some (w, r)) n k = go (tokens r)
  where
    go : (ws : Option (List Token))
        → option_and_then g (option_map (λ ws. w ∷ ws) ws) ≡ option_and_then (λ ws. g (w ∷ ws)) ws
    go None = refl
    go (Some ws) = refl

-- a reader that wants a word reads the next one first
pub take_token : {B : Type 0} (g : List Token → Option B) → g [] ≡ None → (bytes : List ℕ)
    → option_and_then g (tokens bytes) ≡ option_and_then (λ x. option_and_then (λ ws. g (x.0 ∷ ws)) (tokens x.1))
    (next_token bytes)
take_token g n bytes = ap (option_and_then g) (tokens_next bytes) ∙ first_token g (at_end bytes) (next_token bytes) n
    (next_none bytes)

last_token : {B : Type 0} (g : List Token → Option B) (e : Bool) (x : Option (Token × List ℕ))
    → ((w : Token) (ws : List Token) → g (w ∷ ws) ≡ None)
    → option_and_then g (cond e (Some []) (cons_tokens x)) ≡ cond e (g []) None
last_token g true x n = refl
last_token g false None n = refl
last_token g false (Some (w, r)) n = go (tokens r)
  where
    go : (ws : Option (List Token)) → option_and_then g (option_map (λ ws. w ∷ ws) ws) ≡ None
    go None = refl
    go (Some ws) = n w ws

-- a reader that wants no word wants the end
pub take_end : {B : Type 0} (g : List Token → Option B) → ((w : Token) (ws : List Token) → g (w ∷ ws) ≡ None)
    → (bytes : List ℕ) → option_and_then g (tokens bytes) ≡ cond (at_end bytes) (g []) None
take_end g n bytes = ap (option_and_then g) (tokens_next bytes) ∙ last_token g (at_end bytes) (next_token bytes) n

-- a reader that wants one word
pub take_only : {B : Type 0} (g : List Token → Option B) → g [] ≡ None
    → ((w v : Token) (ws : List Token) → g (w ∷ v ∷ ws) ≡ None) → (bytes : List ℕ) → option_and_then g (tokens bytes)
    ≡ option_and_then (λ w. g (w ∷ [])) (only_token bytes)
unfolding only_token
take_only g n m bytes = take_token g n bytes ∙ go (next_token bytes)
  where
    end : (w : Token) (e : Bool) → cond e (g (w ∷ [])) None ≡ option_and_then (λ w. g (w ∷ [])) (cond e (Some w) None)
    end w true = refl
    end w false = refl

    go : (x : Option (Token × List ℕ))
        → option_and_then (λ x. option_and_then (λ ws. g (x.0 ∷ ws)) (tokens x.1)) x
        ≡ option_and_then (λ w. g (w ∷ [])) (option_and_then (λ x. cond (at_end x.1) (Some x.0) None) x)
    go None = refl
    go (Some (w, r)) = take_end (λ ws. g (w ∷ ws)) (m w) r ∙ end w (at_end r)
