-- The lines of a dump: none has an end in it, none is long, and each is read word by word.
use Rattle.seg_types.specs.declared.kinds.Kind.TheVariants as kinds
use Rattle.segment_dump.proofs.Common.{◌≡◌, ℕ, zero, suc, ◌+◌, ◌*◌, ◌/◌, ◌%◌, ◌≤◌, ◌==◌, ◌||◌, ℤ, pos, negsuc, Bool}
use Rattle.segment_dump.proofs.Common.{true, false, nat_lt, List, [], ◌∷◌, ◌++◌, length, drop, if◌then◌else◌, sym, ap}
use Rattle.segment_dump.proofs.Common.{arith, append_assoc, codes, decimal, flat_map, nat_abs, digit_glyph, digits}
use Rattle.segment_dump.proofs.Common.{digits_onto, signed_decimal, length-append, length-take, Kind, ScalarKind}
use Rattle.segment_dump.proofs.Common.{between, escape_text, is_bare_name, kind_text, name_text, quoted_text}
use Rattle.segment_dump.proofs.Common.{scalar_text, value_text, measure_tokens, IsShortLine, HasNoEnd, ended}
use Rattle.segment_dump.proofs.Common.{length_text, piece_lead, piece_line, piece_of}
use Rattle.seg_types.specs.{declared.kinds.ScalarKind.TheVariants.Bool as BoolKind, Texts.item_text}
use Rattle.segment_dump.proofs.texts.Elements.{blanks-no_end, lead-no_end, no_end-both, pair_prefix, piece_prefix}
use Rattle.segment_dump.proofs.texts.Elements.{quoted-no_end, token-no_end}
use Rattle.segment_dump.proofs.{texts.KindTokens.kind-token, texts.LineTokens.decimal-token}
use Rattle.segment_dump.proofs.{texts.LineTokens.value-token}

-- ---- how long

short-if : (b : Bool) (d k : ℕ) (acc more : List ℕ) → length more ≤ k + suc (length acc)
    → length (if b then digit_glyph false d ∷ acc else more) ≤ suc k + length acc
short-if true d k acc more h = omega arith
short-if false d k acc more h = omega (arith, h)

digits-short : (k n : ℕ) (acc : List ℕ) → length (digits_onto k 10 false n acc) ≤ k + length acc
digits-short zero n acc = omega arith
digits-short (suc k) n acc =
    short-if (n / 10 == 0) (n % 10) k acc (digits_onto k 10 false (n / 10) (digit_glyph false (n % 10) ∷ acc))
    (digits-short k (n / 10) (digit_glyph false (n % 10) ∷ acc))

-- a decimal number has at most 64 digits
pub decimal-short : (n : ℕ) → length (decimal n) ≤ 64
unfolding digits
decimal-short n = digits-short 64 n []

signed-short : (z : ℤ) → length (signed_decimal z) ≤ 65
signed-short (pos n) = omega (arith, decimal-short n)
signed-short (negsuc n) = omega (arith, decimal-short (suc n))

truth-short : (b : Bool) → length (if b then codes "true" else codes "false") ≤ 65
truth-short true = omega arith
truth-short false = omega arith

pub value-short : (k : ScalarKind) (z : ℤ) → length (value_text k z) ≤ 65
value-short BoolKind z = truth-short (nat_lt 0 (nat_abs z))
value-short k z = signed-short z

scalar-short : (k : ScalarKind) → length (scalar_text k) ≤ 4
scalar-short BoolKind = omega arith
scalar-short k = omega arith

pub kind-short : (k : Kind) → length (kind_text k) ≤ 20
kind-short (kinds.Scalar k) = omega (arith, scalar-short k)
kind-short kinds.String = omega arith
kind-short (kinds.Vector k) = omega (
  arith,
  scalar-short k,
  length-append (codes "vec<" ++ scalar_text k) (codes ">"),
  length-append (codes "vec<") (scalar_text k),
)
kind-short kinds.Strings = omega arith
kind-short (kinds.Map k v) =
    omega (
      arith,
      scalar-short k,
      scalar-short v,
      length-append (codes "map<" ++ scalar_text k ++ codes "," ++ scalar_text v) (codes ">"),
      length-append (codes "map<" ++ scalar_text k ++ codes ",") (scalar_text v),
      length-append (codes "map<" ++ scalar_text k) (codes ","),
      length-append (codes "map<") (scalar_text k),
    )

item-if : (c : ℕ) (q p : Bool) → length (if q then 0x5C ∷ c ∷ [] else if p then c ∷ [] else escape_text c) ≤ 4
item-if c true p = omega arith
item-if c false true = omega arith
item-if c false false = omega arith

items-short : (bs : List ℕ) → length (flat_map item_text bs) ≤ 4 * length bs
items-short [] = omega arith
items-short (b ∷ bs) = omega (
  arith,
  item-if b ((b == 0x22) || (b == 0x5C)) (between 0x20 0x7E b),
  items-short bs,
  length-append (item_text b) (flat_map item_text bs),
)

pub quoted-short : (bs : List ℕ) → length (quoted_text bs) ≤ 4 * length bs + 2
quoted-short bs = omega (arith, items-short bs, length-append (flat_map item_text bs) (0x22 ∷ []))

name-if : (b : Bool) (name : List ℕ) → length (if b then name else quoted_text name) ≤ 4 * length name + 2
name-if true name = omega arith
name-if false name = quoted-short name

-- the text of a name has at most 4 bytes for each of its own, and 2
pub name-short : (name : List ℕ) → length (name_text name) ≤ 4 * length name + 2
name-short name = name-if (is_bare_name name) name

-- ---- elements

-- the line of an element, without its end
abbrev pub element_prefix : ScalarKind → ℤ → List ℕ
element_prefix k z = 0x20 ∷ 0x20 ∷ value_text k z

-- the line of an element has no line end
pub element-no_end : (k : ScalarKind) (z : ℤ) → HasNoEnd (element_prefix k z)
element-no_end k z = blanks-no_end (value_text k z) (token-no_end (value_text k z) (value-token k z))

-- the line of an element is short
pub element-short : (k : ScalarKind) (z : ℤ) → IsShortLine (element_prefix k z)
element-short k z = omega (arith, value-short k z)

-- the line of a pair is short
pub pair-short : (k v : ScalarKind) (p : ℤ × ℤ) → IsShortLine (pair_prefix k v p)
pair-short k v p = omega (
  arith,
  value-short k p.0,
  value-short v p.1,
  length-append (0x20 ∷ 0x20 ∷ value_text k p.0) (0x20 ∷ value_text v p.1),
)

-- ---- pieces

piece-few : (bs : List ℕ) (i : ℕ) → length (piece_of bs i) ≤ 1000
piece-few bs i = omega (arith, length-take 1000 (drop (i * 1000) bs))

lead-short : (i : ℕ) → length (piece_lead i) ≤ 4
lead-short zero = omega arith
lead-short (suc i) = omega arith

-- the line of a piece has no line end
pub piece-no_end : (bs : List ℕ) (i : ℕ) → HasNoEnd (piece_prefix bs i)
piece-no_end bs i = no_end-both (piece_lead i) (quoted_text (piece_of bs i)) (lead-no_end i)
    (quoted-no_end (piece_of bs i))

-- the line of a piece is short
pub piece-short : (bs : List ℕ) (i : ℕ) → IsShortLine (piece_prefix bs i)
piece-short bs i = omega (
  arith,
  lead-short i,
  quoted-short (piece_of bs i),
  piece-few bs i,
  length-append (piece_lead i) (quoted_text (piece_of bs i)),
)

-- the line of a piece ends with a line end
pub piece-ended : (bs : List ℕ) (i : ℕ) (a : List ℕ) → piece_line bs i ++ a ≡ ended (piece_prefix bs i) ++ a
piece-ended bs i a = ap (λ l. l ++ a) (sym (append_assoc (piece_lead i) (quoted_text (piece_of bs i)) (0x0A ∷ [])))

-- the first line, with the length in front
abbrev pub first_prefix : List ℕ → List ℕ
first_prefix bs = length_text (length bs) ++ piece_prefix bs 0

-- the first line of a string has no line end
pub first-no_end : (bs : List ℕ) → HasNoEnd (first_prefix bs)
first-no_end bs = no_end-both (length_text (length bs)) (piece_prefix bs 0)
    (blanks-no_end (decimal (length bs)) (token-no_end (decimal (length bs)) (decimal-token (length bs))))
    (piece-no_end bs 0)

-- the first line of a string is short
pub first-short : (bs : List ℕ) → IsShortLine (first_prefix bs)
first-short bs = omega (
  arith,
  decimal-short (length bs),
  quoted-short (piece_of bs 0),
  piece-few bs 0,
  length-append (length_text (length bs)) (piece_prefix bs 0),
)

-- ---- the line of an object

-- the words of a measure have no line end
pub measure-no_end : (kind : Kind) (n : ℕ) → HasNoEnd (measure_tokens kind n)
measure-no_end kind n = no_end-both (kind_text kind) (0x20 ∷ decimal n)
    (token-no_end (kind_text kind) (kind-token kind)) ((λ e. omega arith), token-no_end (decimal n) (decimal-token n))

-- the words of a measure are short
pub measure-short : (kind : Kind) (n : ℕ) → length (measure_tokens kind n) ≤ 85
measure-short kind n = omega (
  arith,
  kind-short kind,
  decimal-short n,
  length-append (kind_text kind) (0x20 ∷ decimal n),
)
