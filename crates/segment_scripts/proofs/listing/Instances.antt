-- What an object says of itself, in one line.
use Rattle.std.proofs.Common.{◌≡◌, ℕ, List, [], ◌∷◌, ◌++◌, Option, Some, None, refl, sym, ap, ◌∙◌, append_assoc}
use Rattle.seg_types.specs.declared.kinds.Class.{Class}
use Rattle.seg_types.specs.declared.kinds.Class.TheVariants.{Anonymous, Named, Unique}
use Rattle.segment_scripts.specs.Answer.{class_tokens, line}
use Rattle.segment_scripts.specs.Shown.{behind_text, class_text, number_tokens}

-- two texts that are one, in front of a third
two-prefix : (a b ab rest : List ℕ) → a ++ b ≡ ab → a ++ (b ++ rest) ≡ ab ++ rest
two-prefix a b ab rest e = sym (append_assoc a b rest) ∙ ap (λ (t : List ℕ). t ++ rest) e

-- a last word, and up to two numbers after it
last-tokens : (token : List ℕ) (n m : Option ℕ)
    → token ++ (behind_text n ++ (behind_text m ++ 0x0A ∷ [])) ≡ line (token ∷ (number_tokens n ++ number_tokens m))
last-tokens token None None = refl
last-tokens token None (Some m) = refl
last-tokens token (Some n) None = refl
last-tokens token (Some n) (Some m) = refl

class-tokens : (class : Class) (name : List ℕ) (kind count handle : List ℕ) (rest : List (List ℕ))
    → class_text class name ++ (0x20 ∷ kind ++ (0x20 ∷ count ++ 0x20 ∷ line (handle ∷ rest)))
    ≡ line (class_tokens class name ++ (kind ∷ count ∷ handle ∷ []) ++ rest)
class-tokens Named name kind count handle rest = refl
class-tokens Unique name kind count handle rest = refl
class-tokens Anonymous name kind count handle rest = refl

-- all pieces of the line
pub instance-line : (class : Class) (name : List ℕ) (kind count handle : List ℕ) (n m : Option ℕ) (a b c d e f : List ℕ)
    → a ++ b ≡ class_text class name → c ++ d ≡ behind_text n → e ++ f ≡ behind_text m
    → a ++ (b ++ (0x20 ∷ kind ++ (0x20 ∷ count ++ (0x20 ∷ 0x23 ∷ handle ++ (c ++ (d ++ (e ++ (f ++ 0x0A ∷ []))))))))
    ≡ line (class_tokens class name ++ (kind ∷ count ∷ (0x23 ∷ handle) ∷ []) ++ (number_tokens n ++ number_tokens m))
instance-line class name kind count handle n m a b c d e f first second third =
    two-prefix a b (class_text class name) _ first
    ∙ ap (λ (t : List ℕ). class_text class name ++ (0x20 ∷ kind ++ (0x20 ∷ count ++ (0x20 ∷ 0x23 ∷ handle ++ t))))
    (two-prefix c d (behind_text n) _ second
    ∙ ap (λ (t : List ℕ). behind_text n ++ t) (two-prefix e f (behind_text m) (0x0A ∷ []) third))
    ∙ ap (λ (t : List ℕ). class_text class name ++ (0x20 ∷ kind ++ (0x20 ∷ count ++ 0x20 ∷ t)))
    (last-tokens (0x23 ∷ handle) n m)
    ∙ class-tokens class name kind count (0x23 ∷ handle) (number_tokens n ++ number_tokens m)
