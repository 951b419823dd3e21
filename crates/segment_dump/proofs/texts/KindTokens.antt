-- The text of each kind is one word, and the language finds the kind by this word.
use Rattle.segment_dump.proofs.Common.{◌≡◌, ℕ, true, Some, List, ◌++◌, refl, ◌<◌, length, sym, ap, ◌∙◌, arith, codes}
use Rattle.segment_dump.proofs.Common.{list_all, current, Kind, Scalar, ScalarKind, U8, I32, I64, U64, kind_text}
use Rattle.segment_dump.proofs.Common.{scalar_text, whole_language, kind_named, is_bare}
use Rattle.seg_types.specs.declared.kinds.Kind.TheVariants.{String, Vector, Map, Strings}
use Rattle.seg_types.specs.declared.kinds.ScalarKind.TheVariants.{Bool as BoolKind}
use Rattle.segment_dump.proofs.{texts.OneReading.IsToken, texts.OneReading.Breaks, texts.OneReading.tokens-read}
use Rattle.segment_dump.proofs.{texts.AllElements.AllByRecursion-append}
use Rattle.segment_dump.proofs.{texts.LineTokens.AreBare, texts.LineTokens.bare-test, texts.LineTokens.bare-token}
use Rattle.segment_dump.proofs.{texts.Options.same_Some}

-- ---- words

scalar-bare : (k : ScalarKind) → AreBare (scalar_text k)
scalar-bare BoolKind = bare-test (scalar_text BoolKind) refl
scalar-bare k = bare-test (scalar_text k) refl

led-bare : (lead : List ℕ) (k : ScalarKind) (end : List ℕ) → list_all is_bare lead ≡ true
    → list_all is_bare end ≡ true → AreBare (lead ++ scalar_text k ++ end)
led-bare lead k end e f = AllByRecursion-append (λ c. is_bare c ≡ true) (lead ++ scalar_text k) end
    (AllByRecursion-append (λ c. is_bare c ≡ true) lead (scalar_text k) (bare-test lead e) (scalar-bare k))
    (bare-test end f)

-- the bytes of a kind's word are bare
pub kind-bare : (k : Kind) → AreBare (kind_text k)
kind-bare (Scalar k) = scalar-bare k
kind-bare String = bare-test (codes "string") refl
kind-bare (Vector k) = led-bare (codes "vec<") k (codes ">") refl refl
kind-bare Strings = bare-test (codes "vec<string>") refl
kind-bare (Map k v) =
    let keys : AreBare (codes "map<" ++ scalar_text k ++ codes ",") = led-bare (codes "map<") k (codes ",") refl refl in
    AllByRecursion-append (λ c. is_bare c ≡ true) (codes "map<" ++ scalar_text k ++ codes "," ++ scalar_text v)
    (codes ">") (AllByRecursion-append (λ c. is_bare c ≡ true) (codes "map<" ++ scalar_text k ++ codes ",")
    (scalar_text v) keys (scalar-bare v)) (bare-test (codes ">") refl)

-- the text of a kind is one word
pub kind-token : (k : Kind) → IsToken (kind_text k)
kind-token k = bare-token (kind_text k) (kind-bare k)

scalar-long : (k : ScalarKind) → 0 < length (scalar_text k)
scalar-long BoolKind = omega arith
scalar-long k = omega arith

-- a kind's word is not empty
pub kind-long : (k : Kind) → 0 < length (kind_text k)
kind-long (Scalar k) = scalar-long k
kind-long String = omega arith
kind-long (Vector k) = omega arith
kind-long Strings = omega arith
kind-long (Map k v) = omega arith

-- ---- the kind that a word names

map-named : (k v : ScalarKind) → kind_named (whole_language current) (kind_text (Map k v)) ≡ Some (Map k v)
unfolding kind_named current
map-named BoolKind BoolKind = refl
map-named U8 U8 = refl
map-named I32 I32 = refl
map-named I64 I64 = refl
map-named U64 U64 = refl
map-named k v = refl

-- a kind is found by its word
pub kind-named : (k : Kind) → kind_named (whole_language current) (kind_text k) ≡ Some k
unfolding kind_named current
kind-named (Scalar BoolKind) = refl
kind-named (Scalar U8) = refl
kind-named (Scalar I32) = refl
kind-named (Scalar I64) = refl
kind-named (Scalar U64) = refl
kind-named String = refl
kind-named (Vector BoolKind) = refl
kind-named (Vector U8) = refl
kind-named (Vector I32) = refl
kind-named (Vector I64) = refl
kind-named (Vector U64) = refl
kind-named Strings = refl
kind-named (Map k v) = map-named k v

-- so a text that begins with the word of a kind tells the kind and the rest
pub kinds-read : (k l : Kind) (a b : List ℕ) → Breaks a → Breaks b → kind_text k ++ a ≡ kind_text l ++ b
    → (k ≡ l) × (a ≡ b)
kinds-read k l a b f g e =
    let r = tokens-read (kind_text k) (kind_text l) a b (kind-token k) (kind-token l) f g e in
    (same_Some k l (sym (kind-named k) ∙ ap (kind_named (whole_language current)) r.0 ∙ kind-named l), r.1)
