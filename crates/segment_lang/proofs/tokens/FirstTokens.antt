-- The first word of a line, by what stands in front of the line.
use Rattle.std.proofs.Common.{◌≡◌, ℕ, Bool, true, false, cond, not, ◌&&◌, List, [], ◌∷◌, ◌++◌, length, take, drop}
use Rattle.std.proofs.Common.{arith, Option, Some, None, ap, sym, refl, ◌∙◌, ◌==◌, slice_index}
use Rattle.std.specs.Option.{option_map}
use Rattle.std.specs.Cmp.Lexicographic.{same_text}
use Rattle.std.specs.List.{find, list_all}
use Rattle.std.proofs.lemmas.Bool.{eq-eqb}
use Rattle.std.proofs.lemmas.List.{take-append-drop}
use Rattle.std.proofs.lemmas.List.Sums.{take_while-cons}
use Rattle.segment_lang.specs.Lexing.{is_token, is_blank}
use Rattle.segment_lang.specs.Reading.{Form, Reader, form_of, forms, skip_blanks}
use Rattle.segment_lang.specs.Seen.{with_rest}
use Rattle.segment_lang.specs.Tokens.{ends_token, is_unbroken, up_to_blank}

-- a byte before the first blank is one of the word
pub first_cons : (c : ℕ) (cs : List ℕ) → up_to_blank (c ∷ cs) ≡ cond (not (is_blank c)) (c ∷ up_to_blank cs) []
first_cons c cs = take_while-cons (λ c. not (is_blank c)) c cs

-- ---- a word that stands in front

-- what is after the first word, where it is this one
abbrev pub BehindOf : List ℕ → List ℕ → List ℕ → Option (List ℕ)
BehindOf first line token = cond (is_token first token) (Some (drop (length first) line)) None

abbrev pub Behind : List ℕ → List ℕ → Option (List ℕ)
Behind line token = BehindOf (up_to_blank line) line token

-- what stands after no word
behind_none : (b : Bool) (c : ℕ) (cs : List ℕ) → BehindOf (cond (not b) (c ∷ up_to_blank cs) []) (c ∷ cs) []
    ≡ cond b (Some (c ∷ cs)) None
behind_none true c cs = refl
behind_none false c cs = refl

behind_more : (b : Bool) (c : ℕ) (token line : List ℕ) (r : Option (List ℕ)) → (not b && is_unbroken token) ≡ true
    → (is_unbroken token ≡ true → Behind line token ≡ r)
    → BehindOf (cond (not b) (c ∷ up_to_blank line) []) (c ∷ line) (c ∷ token) ≡ r
behind_more true c token line r u h = cc
behind_more false c token line r u h = rw (eq-eqb c c refl) (h u)

behind_prefix : (token rest : List ℕ) → is_unbroken token ≡ true
    → Behind (token ++ rest) token ≡ cond (ends_token rest) (Some rest) None
behind_prefix [] [] u = refl
behind_prefix [] (c ∷ cs) u = ap (λ first. BehindOf first (c ∷ cs) []) (first_cons c cs) ∙ behind_none (is_blank c) c cs
behind_prefix (c ∷ token) rest u =
    ap (λ first. BehindOf first (c ∷ (token ++ rest)) (c ∷ token)) (first_cons c (token ++ rest))
    ∙ behind_more (is_blank c) c token (token ++ rest) (cond (ends_token rest) (Some rest) None) u (behind_prefix
    token rest)

-- a word in front that ends there is the first word
pub first_token : (line token rest : List ℕ) (b : Bool) → line ≡ token ++ rest → is_unbroken token ≡ true
    → b ≡ ends_token rest → cond b (Some rest) None ≡ Behind line token
first_token line token rest b e u h = ap (λ b. cond b (Some rest) None) h ∙ sym (behind_prefix token rest u)
    ∙ ap (λ line. Behind line token) (sym e)

-- a line that has a word in front
pub in_prefix : (line token rest : List ℕ) → is_token (take (length token) line) token ≡ true
    → rest ≡ drop (length token) line
    → line ≡ token ++ rest
in_prefix line token rest h r =
    sym (take-append-drop (length token) line)
    ∙ ap (λ w. w ++ drop (length token) line) (same_text (take (length token) line) token (sym h))
    ∙ ap (λ rest. token ++ rest) (sym r)

-- ---- a line that begins with a command word

-- whether a word begins as a line may that is not looked at further
abbrev pub begins : List ℕ → Bool
begins [] = false
begins (c ∷ cs) = not (c == 0x23)

begins_found : (fs : List Form) (w : List ℕ) (f : Form) → list_all (λ (f : Form). begins f.0) fs ≡ true
    → find (λ (f : Form). is_token w f.0) fs ≡ Some f → begins w ≡ true
begins_found [] w f h e = cc
begins_found (g ∷ fs) w f h e = go (is_token w g.0) (begins g.0) refl refl h e (λ h e. begins_found fs w f h e)
  where
    go : (b c : Bool) → is_token w g.0 ≡ b → begins g.0 ≡ c → (c && list_all (λ (f : Form). begins f.0) fs) ≡ true
        → cond b (Some g) (find (λ (f : Form). is_token w f.0) fs) ≡ Some f
        → (list_all (λ (f : Form). begins f.0) fs ≡ true → find (λ (f : Form). is_token w f.0) fs ≡ Some f
        → begins w ≡ true)
        → begins w ≡ true
    go b false i k h e more = cc
    go true true i k h e more = ap begins (same_text w g.0 (sym i)) ∙ k
    go false true i k h e more = more h e

-- such a line is no comment, and has no blank in front
abbrev pub IsPlain : List ℕ → Type 0
IsPlain line = ((slice_index line 0 == 0x23) ≡ false) × (skip_blanks line ≡ line)

plain_byte : (b : Bool) (c : ℕ) (cs : List ℕ) → begins (cond (not b) (c ∷ up_to_blank cs) []) ≡ true
    → ((c == 0x23) ≡ false) × (cond b (skip_blanks cs) (c ∷ cs) ≡ c ∷ cs)
plain_byte true c cs h = cc
plain_byte false c cs h = (not_true (c == 0x23) h, refl)
  where
    not_true : (b : Bool) → not b ≡ true → b ≡ false
    not_true true h = cc
    not_true false h = refl

plain_line : (line : List ℕ) → begins (up_to_blank line) ≡ true → IsPlain line
plain_line [] h = cc
plain_line (c ∷ cs) h = plain_byte (is_blank c) c cs (sym (ap begins (first_cons c cs)) ∙ h)

led : (line : List ℕ) (x : Option Form) (y : Reader × List ℕ) → form_of (up_to_blank line) ≡ x
    → Some y ≡ with_rest line (option_map (λ (f : Form). f.1) x) → begins (up_to_blank line) ≡ true
led line None y e h = cc
led line (Some f) y e h = begins_found forms (up_to_blank line) f refl e

-- a line whose first word is a command word
pub command_is_plain : (line : List ℕ) (y : Reader × List ℕ)
    → Some y ≡ with_rest line (option_map (λ (f : Form). f.1) (form_of (up_to_blank line))) → IsPlain line
command_is_plain line y h = plain_line line (led line (form_of (up_to_blank line)) y refl h)

has_byte : (line : List ℕ) → begins (up_to_blank line) ≡ true → (length line == 0) ≡ false
has_byte [] h = cc
has_byte (c ∷ cs) h = grind arith

-- a command word has at least one byte
pub command_has_byte : (line : List ℕ) (y : Reader × List ℕ)
    → Some y ≡ with_rest line (option_map (λ (f : Form). f.1) (form_of (up_to_blank line))) → (length line == 0) ≡ false
command_has_byte line y h = has_byte line (led line (form_of (up_to_blank line)) y refl h)
