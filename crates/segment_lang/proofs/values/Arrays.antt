-- The values of an array, one word after another.
use Rattle.std.proofs.Common.{◌≡◌, ℕ, ℤ, pos, ◌+◌, Bool, true, false, cond, IsTrue, List, [], ◌∷◌, length, map}
use Rattle.std.proofs.Common.{Option, Some, None, Ok, Err, ap, subst, sym, refl, ◌∙◌, arith}
use Rattle.std.specs.Option.{option_map, option_and_then, unwrap_or, IsSome}
use Rattle.std.specs.Result.{result_ok}
use Rattle.std.specs.List.{AllByRecursion}
use Rattle.std.specs.Iterator.{YieldsFirst}
use Rattle.seg_types.specs.declared.kinds.ScalarKind.{ScalarKind}
use Rattle.seg_types.specs.declared.kinds.ScalarKind.TheVariants.{Bool as BoolKind, U8, I32, I64, U64}
use Rattle.seg_types.specs.declared.values.ScalarValue.{ScalarValue}
use Rattle.seg_types.specs.declared.refusals.Refusal.TheVariants.{OutOfRange}
use Rattle.seg_types.specs.Kinds.{is_value}
use Rattle.seg_types.specs.Values.{scalar_of}
use Rattle.seg_types.specs.Commands.{Literal, Integer, Boolean, value_of_literal}
use Rattle.segment_lang.specs.Lexing.{Token, tokens, literal_of_token}
use Rattle.segment_lang.specs.Reading.{all, value_for}
use Rattle.segment_lang.specs.Tokens.{at_end, next_token}
use Rattle.segment_lang.specs.Arguments.{TypedNumbers, numbers_at, scalars_in, values_in}
use Rattle.segment_lang.proofs.tokens.EachToken.{Held, each_end, each_first, each_last, each_more, each_stays}
use Rattle.segment_lang.proofs.tokens.EachToken.{first_and}

-- ---- a value is in the range of its kind

in_range : (b : Bool) (w z : ℤ) (k : ScalarKind) → is_value k w ≡ b
    → result_ok (cond b (Ok w) (Err OutOfRange)) ≡ Some z → is_value k z ≡ true
in_range true w z k e h = let s : w ≡ z = cc in ap (is_value k) (sym s) ∙ e
in_range false w z k e h = cc

literal-value : (k : ScalarKind) (l : Literal) (z : ℤ) → result_ok (value_of_literal k l) ≡ Some z → is_value k z ≡ true
literal-value BoolKind (Boolean true) z h = let s : pos 1 ≡ z = cc in ap (is_value BoolKind) (sym s)
literal-value BoolKind (Boolean false) z h = let s : pos 0 ≡ z = cc in ap (is_value BoolKind) (sym s)
literal-value U8 (Integer w) z h = in_range (is_value U8 w) w z U8 refl h
literal-value I32 (Integer w) z h = in_range (is_value I32 w) w z I32 refl h
literal-value I64 (Integer w) z h = in_range (is_value I64 w) w z I64 refl h
literal-value U64 (Integer w) z h = in_range (is_value U64 w) w z U64 refl h
literal-value k l z h = cc

-- a word that is a value of a kind
pub token-value : (k : ScalarKind) (o : Option Literal) (z : ℤ)
    → option_and_then (λ l. result_ok (value_of_literal k l)) o ≡ Some z → is_value k z ≡ true
token-value k None z h = cc
token-value k (Some l) z h = literal-value k l z h

abbrev AreValues : ScalarKind → List ℤ → Type 0
AreValues k zs = AllByRecursion (λ z. IsTrue (is_value k z)) zs

first_and_more : (k : ScalarKind) (x : Option ℤ) (m : Option (List ℤ)) (zs : List ℤ)
    → ((z : ℤ) → x ≡ Some z → is_value k z ≡ true) → ((ys : List ℤ) → m ≡ Some ys → AreValues k ys)
    → option_and_then (λ z. option_map (λ zs. z ∷ zs) m) x ≡ Some zs → AreValues k zs
first_and_more k None m zs f g h = cc
first_and_more k (Some z) None zs f g h = cc
first_and_more k (Some z) (Some ys) zs f g h =
    let e : (z ∷ ys) ≡ zs = cc in
    let prefix : IsTrue (is_value k z) = f z refl in
    subst (AreValues k) e (prefix, g ys refl)

all_in_range : (k : ScalarKind) (ws : List Token) (zs : List ℤ) → all (value_for k) ws ≡ Some zs → AreValues k zs
all_in_range k [] zs h = let e : ◌≡◌ {A = List ℤ} [] zs = cc in subst (AreValues k) e tt
all_in_range k (w ∷ ws) zs h = first_and_more k (value_for k w) (all (value_for k) ws) zs
    (token-value k (literal_of_token w)) (all_in_range k ws) h

tokens_in_range : (k : ScalarKind) (ws : Option (List Token))
    → AreValues k (unwrap_or (option_and_then (all (value_for k)) ws) [])
tokens_in_range k None = tt
tokens_in_range k (Some ws) = given (all (value_for k) ws) (all_in_range k ws)
  where
    given : (o : Option (List ℤ)) → ((zs : List ℤ) → o ≡ Some zs → AreValues k zs) → AreValues k (unwrap_or o [])
    given None f = tt
    given (Some zs) f = f zs refl

-- the values of an array are in the range of their kind
pub values_in_range : (k : ScalarKind) (bytes : List ℕ) → AreValues k (values_in k bytes).numbers
unfolding numbers_at
values_in_range k bytes = tokens_in_range k (tokens bytes)

-- ---- how many they are

counted_more : (c : ℕ) (m : Option (List ℤ)) (z : ℤ)
    → option_map (λ zs. c + length zs) (option_map (λ zs. z ∷ zs) m) ≡ option_map (λ zs. c + 1 + length zs) m
counted_more c None z = refl
counted_more c (Some zs) z = let e : c + length (z ∷ zs) ≡ c + 1 + length zs = omega arith in ap Some e

some_counted : (k : ScalarKind) (c : ℕ) (n m : Option (List ℤ)) (x : Option ℤ) (v : ScalarValue) → n ≡ first_and m x
    → Some v ≡ option_map (scalar_of k) x → option_map (λ zs. c + 1 + length zs) m ≡ option_map (λ zs. c + length zs) n
some_counted k c n m None v h e = cc
some_counted k c n m (Some z) v h e = sym (ap (option_map (λ zs. c + length zs)) h ∙ counted_more c m z)

-- one value more is counted
pub count-more : (k : ScalarKind) (c : ℕ) (bytes r : List ℕ) (w : Token) (v : ScalarValue)
    → next_token bytes ≡ Some (w, r) → Some v ≡ option_map (scalar_of k) (value_for k w)
    → option_map (λ zs. c + 1 + length zs) (numbers_at k r) ≡ option_map (λ zs. c + length zs) (numbers_at k bytes)
unfolding numbers_at
count-more k c bytes r w v h e = some_counted k c (numbers_at k bytes) (numbers_at k r) (value_for k w) v
    (each_more (value_for k) bytes r w h) e

no_value : (k : ScalarKind) (c : ℕ) (n m : Option (List ℤ)) (x : Option ℤ) → n ≡ first_and m x
    → None ≡ option_map (scalar_of k) x → option_map (λ zs. c + length zs) n ≡ None
no_value k c n m None h e = ap (option_map (λ zs. c + length zs)) h
no_value k c n m (Some z) h e = cc

-- a word that is no value: none are counted
pub count-none : (k : ScalarKind) (c : ℕ) (bytes r : List ℕ) (w : Token) → next_token bytes ≡ Some (w, r)
    → None ≡ option_map (scalar_of k) (value_for k w) → option_map (λ zs. c + length zs) (numbers_at k bytes) ≡ None
unfolding numbers_at
count-none k c bytes r w h e = no_value k c (numbers_at k bytes) (numbers_at k r) (value_for k w)
    (each_more (value_for k) bytes r w h) e

counted_end : (c : ℕ) (n : Option (List ℤ)) (e : Bool) → n ≡ cond e (Some []) None → option_map (λ zs. c + length zs) n
    ≡ cond e (Some c) None
counted_end c n true h = let e : c + 0 ≡ c = omega arith in ap (option_map (λ zs. c + length zs)) h ∙ ap Some e
counted_end c n false h = ap (option_map (λ zs. c + length zs)) h

-- the end of the line: all values are counted
pub count-end : (k : ScalarKind) (c : ℕ) (bytes : List ℕ) → next_token bytes ≡ None
    → option_map (λ zs. c + length zs) (numbers_at k bytes) ≡ cond (at_end bytes) (Some c) None
unfolding numbers_at
count-end k c bytes h = counted_end c (numbers_at k bytes) (at_end bytes) (each_end (value_for k) bytes h)

-- ---- what is left of the values

abbrev numbers : ScalarKind → Held ℤ ScalarValue
numbers k = record {
  value = value_for k;
  one = scalar_of k;
  held = map (scalar_of k);
  none = refl;
  more = λ z zs. refl;
}

-- no word is left: no value is left
pub none_left : (k : ScalarKind) (bytes : List ℕ) (w : TypedNumbers) (v : Option ScalarValue) → values_in k bytes ≡ w
    → next_token bytes ≡ None → v ≡ None → YieldsFirst scalars_in w v w
unfolding numbers_at
none_left k bytes w v is h e =
    subst (λ (w : TypedNumbers). YieldsFirst scalars_in w v w) is (each_last (numbers k) bytes _ v refl h e)

-- the next word is the next value
pub first_left : (k : ScalarKind) (bytes r : List ℕ) (token : Token) (w : TypedNumbers) (v : Option ScalarValue)
    → values_in k bytes ≡ w → next_token bytes ≡ Some (token, r) → IsSome (numbers_at k bytes)
    → v ≡ option_map (scalar_of k) (value_for k token) → YieldsFirst scalars_in w v (values_in k r)
unfolding numbers_at
first_left k bytes r token w v is h s e = subst (λ (w : TypedNumbers). YieldsFirst scalars_in w v (values_in k r)) is
    (each_first (numbers k) bytes r token _ v refl h s e)

-- the rest of a line of values is one
pub stays_good : (k : ScalarKind) (bytes r : List ℕ) (w : Token) → next_token bytes ≡ Some (w, r)
    → IsSome (numbers_at k bytes) → IsSome (numbers_at k r)
unfolding numbers_at
stays_good k bytes r w h s = each_stays (value_for k) bytes r w h s
