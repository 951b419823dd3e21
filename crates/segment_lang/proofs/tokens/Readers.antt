-- Readers that want two words, three, or two and those after them.
use Rattle.std.proofs.Common.{◌≡◌, ℕ, Bool, true, false, cond, List, [], ◌∷◌, Option, Some, None, ap, sym, refl, ◌∙◌}
use Rattle.std.specs.Prelude.{IsSomeAnd, MatchOption, is_some}
use Rattle.std.specs.Bool.{then_some as holds_some}
use Rattle.std.specs.Option.{option_map, option_and_then}
use Rattle.segment_lang.specs.Lexing.{Token, tokens}
use Rattle.segment_lang.specs.Tokens.{next_two, next_token, only_token, two_tokens, three_tokens}
use Rattle.segment_lang.proofs.tokens.AllTokens.{take_only, take_token}

-- ---- one step after another, each of which may give nothing

-- two functions that agree agree under an option
pub under : {A B : Type 0} (f g : A → Option B) → ((a : A) → f a ≡ g a) → (x : Option A)
    → option_and_then f x ≡ option_and_then g x
under f g e None = refl
under f g e (Some a) = e a

-- two options are looked at in either order
pub swap : {A B C : Type 0} (f : A → B → Option C) (x : Option A) (y : Option B)
    → option_and_then (λ a. option_and_then (f a) y) x ≡ option_and_then (λ b. option_and_then (λ a. f a b) x) y
swap f None None = refl
swap f None (Some b) = refl
swap f (Some a) None = refl
swap f (Some a) (Some b) = refl

-- two steps under an option, one after the other
pub then_then : {A B C : Type 0} (g : B → Option C) (f : A → Option B) (x : Option A)
    → option_and_then g (option_and_then f x) ≡ option_and_then (λ a. option_and_then g (f a)) x
then_then g f None = refl
then_then g f (Some a) = refl

made : {A B C : Type 0} (g : B → Option C) (k : A → B) (x : Option A)
    → option_and_then g (option_and_then (λ a. Some (k a)) x) ≡ option_and_then (λ a. g (k a)) x
made g k None = refl
made g k (Some a) = refl

-- what two steps give is made one thing
pub both_made : {A B C D : Type 0} (g : C → Option D) (k : A → B → C) (f : A → Option B) (x : Option A)
    → option_and_then g (option_and_then (λ a. option_and_then (λ b. Some (k a b)) (f a)) x)
    ≡ option_and_then (λ a. option_and_then (λ b. g (k a b)) (f a)) x
both_made g k f None = refl
both_made g k f (Some a) = made g (k a) (f a)

-- a step and then a value
pub map_then : {A B C : Type 0} (g : B → C) (f : A → Option B) (x : Option A)
    → option_and_then (λ a. option_map g (f a)) x ≡ option_map g (option_and_then f x)
map_then g f None = refl
map_then g f (Some a) = refl

some_map : {B C : Type 0} (g : B → C) (x : Option B) → option_map g x ≡ option_and_then (λ b. Some (g b)) x
some_map g None = refl
some_map g (Some b) = refl

-- a step and then a value, whether there is one
pub then_some : {A B C : Type 0} (g : B → C) (f : A → Option B) (x : Option A)
    → option_and_then (λ a. option_map g (f a)) x ≡ option_and_then (λ b. Some (g b)) (option_and_then f x)
then_some g f x = map_then g f x ∙ some_map g (option_and_then f x)

-- what is there is made a command of
pub map_made : {A B C : Type 0} (g : B → C) (f : A → B) (x : Option A) (y : Option B)
    → MatchOption x (y ≡ None) (λ a. IsSomeAnd y (λ b. b ≡ f a)) → option_map g y ≡ option_map (λ a. g (f a)) x
map_made g f None y h = ap (option_map g) h
map_made g f (Some a) None h = absurd h
map_made g f (Some a) (Some b) h = ap (λ b. Some (g b)) h

-- a mapped value is there if the value is
pub some_of : {A B : Type 0} (f : A → B) (x : Option A) (y : Option B) → option_map f x ≡ y → is_some x ≡ is_some y
some_of f None y h = ap is_some h
some_of f (Some a) y h = ap is_some h

-- a value is there where something holds, and a command is made of it
pub then_made : {A B : Type 0} (g : A → B) (b : Bool) (x : A) → option_map g (holds_some b x) ≡ cond b (Some (g x)) None
then_made g true x = refl
then_made g false x = refl

-- a value at the end is there if it is the end
pub end_some : {A : Type 0} (a : A) (b : Bool) → is_some (cond b (Some a) None) ≡ b
end_some a true = refl
end_some a false = refl

-- ---- the readers

-- a reader of two words
pub take_two : {B : Type 0} (g : List Token → Option B) → g [] ≡ None → ((w : Token) → g (w ∷ []) ≡ None)
    → ((w v u : Token) (ws : List Token) → g (w ∷ v ∷ u ∷ ws) ≡ None) → (bytes : List ℕ)
    → option_and_then g (tokens bytes) ≡ option_and_then (λ x. g (x.0 ∷ x.1 ∷ [])) (two_tokens bytes)
unfolding two_tokens
take_two g n o m bytes =
    take_token g n bytes
    ∙ under _ _ (λ x. take_only (λ ws. g (x.0 ∷ ws)) (o x.0) (m x.0) x.1) (next_token bytes)
    ∙ sym (both_made (λ (y : Token × Token). g (y.0 ∷ y.1 ∷ [])) (λ (x : Token × List ℕ) v. (x.0, v)) (λ x.
    only_token x.1)
    (next_token bytes))

-- a reader of three words
pub take_three : {B : Type 0} (g : List Token → Option B) → g [] ≡ None → ((w : Token) → g (w ∷ []) ≡ None)
    → ((w v : Token) → g (w ∷ v ∷ []) ≡ None) → ((w v u t : Token) (ws : List Token) → g (w ∷ v ∷ u ∷ t ∷ ws) ≡ None)
    → (bytes : List ℕ)
    → option_and_then g (tokens bytes) ≡ option_and_then (λ x. g (x.0 ∷ x.1 ∷ x.2 ∷ [])) (three_tokens bytes)
unfolding three_tokens
take_three g n o p m bytes =
    take_token g n bytes
    ∙ under _ _ (λ x. take_two (λ ws. g (x.0 ∷ ws)) (o x.0) (p x.0) (m x.0) x.1) (next_token bytes)
    ∙ sym (both_made (λ (y : Token × Token × Token). g (y.0 ∷ y.1 ∷ y.2 ∷ []))
    (λ (x : Token × List ℕ) (v : Token × Token). (x.0, v.0, v.1)) (λ x. two_tokens x.1) (next_token bytes))

-- a reader of two words and those after them
pub take_next_two : {B : Type 0} (g : List Token → Option B) → g [] ≡ None → ((w : Token) → g (w ∷ []) ≡ None)
    → (bytes : List ℕ) → option_and_then g (tokens bytes)
    ≡ option_and_then (λ x. option_and_then (λ ws. g (x.0 ∷ x.1 ∷ ws)) (tokens x.2)) (next_two bytes)
unfolding next_two
take_next_two g n o bytes =
    take_token g n bytes
    ∙ under _ _ (λ x. take_token (λ ws. g (x.0 ∷ ws)) (o x.0) x.1) (next_token bytes)
    ∙ sym (both_made (λ (y : Token × Token × List ℕ). option_and_then (λ ws. g (y.0 ∷ y.1 ∷ ws)) (tokens y.2))
    (λ (x : Token × List ℕ) (v : Token × List ℕ). (x.0, v.0, v.1)) (λ x. next_token x.1) (next_token bytes))
