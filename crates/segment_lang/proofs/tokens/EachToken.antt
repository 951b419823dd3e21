-- What all words are, one after another.
use Rattle.std.proofs.Common.{◌≡◌, ℕ, ◌<◌, Bool, true, false, cond, List, [], ◌∷◌, length, Option, Some, None}
use Rattle.std.proofs.Common.{MatchOption, ap, subst, sym, refl, ◌∙◌, arith}
use Rattle.std.specs.Option.{option_map, option_and_then, unwrap_or, is_some, IsSome}
use Rattle.std.specs.Iterator.{MakesProgress, YieldsFirst, item_count}
use Rattle.seg_types.specs.Commands as asked
use Rattle.segment_lang.specs.Lexing.{Token, tokens, literal_of_token}
use Rattle.segment_lang.specs.Reading.{all, quoted_of}
use Rattle.segment_lang.specs.Tokens.{at_end, next_token}
use Rattle.segment_lang.specs.Arguments.{texts_held}
use Rattle.segment_lang.specs.Seen.{literal_held, literal_of, literals_held}
use Rattle.segment_lang.specs.declared.literals.Literal.{Literal}
use Rattle.segment_lang.specs.declared.literals.Literal.TheVariants.{Integer, Boolean, Quoted}
use Rattle.segment_lang.proofs.tokens.AllTokens.{cons_tokens, tokens_next, tokens_some}

abbrev pub each_of : {A : Type 0} → (Token → Option A) → List ℕ → Option (List A)
each_of f bytes = option_and_then (all f) (tokens bytes)

-- the first of a list put in front of the others
abbrev pub first_and : {A : Type 0} → Option (List A) → Option A → Option (List A)
first_and m x = option_and_then (λ z. option_map (λ zs. z ∷ zs) m) x

more_given : {A : Type 0} (f : Token → Option A) (w : Token) (ws : Option (List Token))
    → option_and_then (all f) (option_map (λ ws. w ∷ ws) ws) ≡ first_and (option_and_then (all f) ws) (f w)
more_given {A} f w None = nothing (f w)
  where
    nothing : (x : Option A) → None ≡ option_and_then {U = List A} (λ z. None) x
    nothing None = refl
    nothing (Some z) = refl
more_given f w (Some ws) = refl

-- one word more, with what it is
pub each_more : {A : Type 0} (f : Token → Option A) (bytes r : List ℕ) (w : Token) → next_token bytes ≡ Some (w, r)
    → each_of f bytes ≡ first_and (each_of f r) (f w)
each_more f bytes r w h = ap (option_and_then (all f)) (tokens_some bytes r w h) ∙ more_given f w (tokens r)

end_given : {A : Type 0} (f : Token → Option A) (e : Bool)
    → option_and_then (all f) (cond e (Some []) None) ≡ cond e (Some []) None
end_given f true = refl
end_given f false = refl

-- the end of the line: no word is left
pub each_end : {A : Type 0} (f : Token → Option A) (bytes : List ℕ) → next_token bytes ≡ None
    → each_of f bytes ≡ cond (at_end bytes) (Some []) None
each_end f bytes h =
    ap (option_and_then (all f)) (tokens_next bytes ∙ ap (λ x. cond (at_end bytes) (Some []) (cons_tokens x)) h)
    ∙ end_given f (at_end bytes)

-- ---- whether each word is one

some_more : {A : Type 0} (n m : Option (List A)) (x : Option A) → n ≡ first_and m x → is_some x ≡ true
    → is_some m ≡ is_some n
some_more n m None h e = cc
some_more n None (Some z) h e = sym (ap is_some h)
some_more n (Some zs) (Some z) h e = sym (ap is_some h)

none_more : {A : Type 0} (n m : Option (List A)) (x : Option A) → n ≡ first_and m x → is_some x ≡ false
    → is_some n ≡ false
none_more n m None h e = ap is_some h
none_more n m (Some z) h e = cc

some_end : {A : Type 0} (n : Option (List A)) (e : Bool) → n ≡ cond e (Some []) None → is_some n ≡ e
some_end n true h = ap is_some h
some_end n false h = ap is_some h

-- a word that is wanted: the others are asked
pub tokens_more : {A : Type 0} (f : Token → Option A) (bytes r : List ℕ) (w : Token) → next_token bytes ≡ Some (w, r)
    → is_some (f w) ≡ true → is_some (each_of f r) ≡ is_some (each_of f bytes)
tokens_more f bytes r w h k = some_more (each_of f bytes) (each_of f r) (f w) (each_more f bytes r w h) k

-- a word that is not wanted: the line fails
pub tokens_none : {A : Type 0} (f : Token → Option A) (bytes r : List ℕ) (w : Token) → next_token bytes ≡ Some (w, r)
    → is_some (f w) ≡ false → is_some (each_of f bytes) ≡ false
tokens_none f bytes r w h k = none_more (each_of f bytes) (each_of f r) (f w) (each_more f bytes r w h) k

-- the end of the line: it is empty
pub tokens_end : {A : Type 0} (f : Token → Option A) (bytes : List ℕ) → next_token bytes ≡ None
    → is_some (each_of f bytes) ≡ at_end bytes
tokens_end f bytes h = some_end (each_of f bytes) (at_end bytes) (each_end f bytes h)

-- ---- the next one

next_given : {A : Type 0} (n m : Option (List A)) (x : Option A) → n ≡ first_and m x → IsSome n
    → (IsSome m) × MatchOption x (⊥) (λ z. unwrap_or n [] ≡ z ∷ unwrap_or m [])
next_given n m None h s = let f = subst (λ n. IsSome n) h s in cc
next_given n None (Some z) h s = let f = subst (λ n. IsSome n) h s in cc
next_given n (Some zs) (Some z) h s = (refl, ap (λ n. unwrap_or n []) h)

empty_given : {A : Type 0} (n : Option (List A)) (e : Bool) → n ≡ cond e (Some []) None → unwrap_or n [] ≡ []
empty_given n true h = ap (λ n. unwrap_or n []) h
empty_given n false h = ap (λ n. unwrap_or n []) h

-- the rest of a line of such words is one
pub each_stays : {A : Type 0} (f : Token → Option A) (bytes r : List ℕ) (w : Token) → next_token bytes ≡ Some (w, r)
    → IsSome (each_of f bytes) → IsSome (each_of f r)
each_stays f bytes r w h s = (next_given (each_of f bytes) (each_of f r) (f w) (each_more f bytes r w h) s).0

-- how values are read of words, and how lists of them are held
pub record Held (A B : Type 0) : Type 0 where
  pub value : Token → Option A
  pub one : A → B
  pub held : List A → List B
  pub none : held [] ≡ []
  pub more : (z : A) (zs : List A) → held (z ∷ zs) ≡ one z ∷ held zs

first_given : {A B : Type 0} (l : Held A B) (x : Option A) (v : Option B) (ns ms : List A) → v ≡ option_map l.one x
    → MatchOption x (⊥) (λ z. ns ≡ z ∷ ms) → YieldsFirst l.held ns v ms
first_given l None v ns ms e h = absurd h
first_given l (Some z) v ns ms e h =
    subst (λ v. YieldsFirst l.held ns v ms) (sym e) (ap (λ zs. l.held zs) h ∙ l.more z ms)

-- the first word is the first of the list
pub each_first : {A B : Type 0} (l : Held A B) (bytes r : List ℕ) (w : Token) (ns : List A) (v : Option B)
    → unwrap_or (each_of l.value bytes) [] ≡ ns → next_token bytes ≡ Some (w, r) → IsSome (each_of l.value bytes)
    → v ≡ option_map l.one (l.value w) → YieldsFirst l.held ns v (unwrap_or (each_of l.value r) [])
each_first l bytes r w ns v is h s e =
    let next = next_given (each_of l.value bytes) (each_of l.value r) (l.value w) (each_more l.value bytes r w h) s in
    subst (λ ns. YieldsFirst l.held ns v (unwrap_or (each_of l.value r) [])) is
    (first_given l (l.value w) v (unwrap_or (each_of l.value bytes) []) (unwrap_or (each_of l.value r) []) e next.1)

-- no word is left: the list is empty
pub each_last : {A B : Type 0} (l : Held A B) (bytes : List ℕ) (ns : List A) (v : Option B)
    → unwrap_or (each_of l.value bytes) [] ≡ ns → next_token bytes ≡ None → v ≡ None → YieldsFirst l.held ns v ns
each_last l bytes ns v is h e =
    let empty = sym is ∙ empty_given (each_of l.value bytes) (at_end bytes) (each_end l.value bytes h) in
    let none = ap (λ zs. l.held zs) empty ∙ l.none in
    subst (λ v. YieldsFirst l.held ns v ns) (sym e) (none, none)

fewer : {B : Type 0} (xs ys : List B) (x : B) → xs ≡ x ∷ ys → length ys < length xs
fewer xs ys x h = omega (arith, ap length h)

-- the walk moves on by one word
pub moves_on : {S B : Type 0} (held : S → List B) (can : S → Type 0) (s t : S) (v : Option B) → can t
    → YieldsFirst held s v t → MakesProgress can (item_count held) s v t
moves_on held can s t None on y = record { on = λ h. tt; keeps = tt; rests = λ h. tt }
moves_on held can s t (Some x) on y =
    record { on = λ h. (on, tt, fewer (held s) (held t) x y); keeps = on; rests = λ h. tt }

-- ---- values and texts

-- the walk over literals
abbrev pub literals : Held asked.Literal Literal
literals = record {
  value = literal_of_token;
  one = literal_held;
  held = literals_held;
  none = refl;
  more = λ z zs. refl;
}

-- the walk over texts
abbrev pub texts : Held (List ℕ) (List ℕ)
texts = record { value = quoted_of; one = λ t. t; held = texts_held; none = refl; more = λ z zs. refl }

-- a literal as the walk has it
pub literal_back : (v : Option Literal) (x : Option asked.Literal) → option_map literal_of v ≡ x
    → v ≡ option_map literal_held x
literal_back None x h = ap (option_map literal_held) h
literal_back (Some (Integer z)) x h = ap (option_map literal_held) h
literal_back (Some (Boolean b)) x h = ap (option_map literal_held) h
literal_back (Some (Quoted t)) x h = ap (option_map literal_held) h

-- a text as the walk has it
pub text_back : (v x : Option (List ℕ)) → v ≡ x → v ≡ option_map (λ t. t) x
text_back v None h = h
text_back v (Some t) h = h

-- a literal is there where the walk has one
pub literal_is : (v : Option Literal) (x : Option asked.Literal) → option_map literal_of v ≡ x → is_some x ≡ is_some v
literal_is None x h = sym (ap is_some h)
literal_is (Some l) x h = sym (ap is_some h)

-- ---- all of them
