-- The printed texts of kinds, values, names and keys.
use Rattle.std.specs.Prelude.{ℕ, ◌+◌, ◌/◌, ◌%◌, ℤ, Bool, false, ◌&&◌, ◌||◌, List, [], ◌∷◌, ◌++◌, flat_map, decimal}
use Rattle.std.specs.Prelude.{◌==◌, if◌then◌else◌, codes, nat_le, nat_lt, nat_abs}
use Rattle.std.specs.Fmt.{signed_decimal}
use Rattle.std.specs.List.{list_all}
use Rattle.seg_types.specs.declared.kinds.ScalarKind.{ScalarKind}
use Rattle.seg_types.specs.declared.kinds.ScalarKind.TheVariants.{Bool as BoolKind, U8, I32, I64, U64}
use Rattle.seg_types.specs.declared.kinds.Kind.{Kind}
use Rattle.seg_types.specs.declared.kinds.Kind.TheVariants.{Scalar, String, Vector, Map, Strings}
use Rattle.seg_types.specs.declared.kinds.Class.{Class}
use Rattle.seg_types.specs.declared.kinds.Class.TheVariants.{Anonymous, Named, Unique}
use Rattle.seg_types.specs.Names.{Key, ByName, ByKind, ByHandle, NoKey}

-- ---- kinds and classes

-- the text of a scalar kind
abbrev pub scalar_text : ScalarKind → List ℕ
scalar_text BoolKind = codes "bool"
scalar_text U8 = codes "u8"
scalar_text I32 = codes "i32"
scalar_text I64 = codes "i64"
scalar_text U64 = codes "u64"

-- the text of a kind
abbrev pub kind_text : Kind → List ℕ
kind_text (Scalar k) = scalar_text k
kind_text String = codes "string"
kind_text (Vector k) = codes "vec<" ++ scalar_text k ++ codes ">"
kind_text Strings = codes "vec<string>"
kind_text (Map k v) = codes "map<" ++ scalar_text k ++ codes "," ++ scalar_text v ++ codes ">"

-- the text of a class
abbrev pub class_text : Class → List ℕ
class_text Anonymous = codes "anonymous"
class_text Named = codes "named"
class_text Unique = codes "unique"

-- ---- values

-- the text of a value
abbrev pub value_text : ScalarKind → ℤ → List ℕ
value_text BoolKind z = if nat_lt 0 (nat_abs z) then codes "true" else codes "false"
value_text k z = signed_decimal z

-- ---- texts

-- whether the byte is in this range
abbrev pub between : ℕ → ℕ → ℕ → Bool
between low high c = nat_le low c && nat_le c high

-- the hexadecimal digit of a number, in lower case
abbrev pub digit_text : ℕ → ℕ
digit_text d = if nat_lt d 10 then 0x30 + d else 0x57 + d

-- the escape of a byte: `\x` and two hexadecimal digits
abbrev pub escape_text : ℕ → List ℕ
escape_text c = 0x5C ∷ 0x78 ∷ digit_text (c / 16) ∷ digit_text (c % 16) ∷ []

-- one byte of a text
abbrev pub item_text : ℕ → List ℕ
item_text c =
    if (c == 0x22) || (c == 0x5C) then 0x5C ∷ c ∷ []
    else if between 0x20 0x7E c then c ∷ []
    else escape_text c

-- a text in quotes
abbrev pub quoted_text : List ℕ → List ℕ
quoted_text bs = 0x22 ∷ flat_map item_text bs ++ 0x22 ∷ []

-- ---- names and keys

abbrev pub is_letter : ℕ → Bool
is_letter c = between 0x41 0x5A c || between 0x61 0x7A c

-- whether the byte is a decimal digit
abbrev pub is_digit : ℕ → Bool
is_digit = between 0x30 0x39

-- whether the byte can occur in a bare name, after its first byte
abbrev pub is_name_byte : ℕ → Bool
is_name_byte c = is_letter c || is_digit c || (c == 0x5F) || (c == 0x2E)

-- whether the name needs no quotes
abbrev pub is_bare_name : List ℕ → Bool
is_bare_name [] = false
is_bare_name (c ∷ cs) = (is_letter c || (c == 0x5F)) && list_all is_name_byte cs

-- the text of a name: bare if possible, otherwise in quotes
abbrev pub name_text : List ℕ → List ℕ
name_text name = if is_bare_name name then name else quoted_text name

-- the text of a key
abbrev pub key_text : Key → List ℕ
key_text (ByName name) = name_text name
key_text (ByKind k) = codes "@" ++ kind_text k
key_text (ByHandle h) = codes "#" ++ decimal h
key_text NoKey = codes "-"
