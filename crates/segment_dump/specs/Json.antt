-- A segment as lines of JSON: an object a line, with its class, name, kind and value.
use Rattle.seg_types.specs.declared.kinds.Kind.TheVariants as kinds
use Rattle.std.specs.Prelude.{ℕ, zero, suc, ℤ, ◌+◌, ◌-◌, ◌*◌, ◌/◌, ◌%◌, ◌==◌, ◌||◌, nat_lt, if◌then◌else◌, List, []}
use Rattle.std.specs.{Prelude.◌∷◌, Prelude.◌++◌, Prelude.codes, List.flat_map, Str.is_utf8}
use Rattle.seg_types.specs.{declared.kinds.Class.Class, declared.kinds.Kind.Kind, Names.Key, Texts.digit_text}
use Rattle.seg_types.specs.declared.kinds.Class.TheVariants.{Anonymous, Named, Unique}
use Rattle.seg_types.specs.declared.kinds.ScalarKind.{ScalarKind}
use Rattle.segment_lang.specs.Texts.{kind_text, value_text}
use Rattle.segment_manager.specs.{Directory.Directory, Directory.Object, Directory.object_at, Parts.part_of}
use Rattle.segment_dump.specs.Items.{ValueContent, Scalars, Vector, String, Map, Strings, DumpItem, Items}
use Rattle.segment_dump.specs.{Items.item_of_object, Items.kind_of_content, Layouts.Spelling, Layouts.laid_from}

-- ---- texts: a string if the bytes are UTF-8, and otherwise an object with their base64

-- a byte of a string
abbrev pub string_byte : ℕ → List ℕ
string_byte c =
    if (c == 0x22) || (c == 0x5C) then 0x5C ∷ c ∷ []
    else if nat_lt c 0x20 then 0x5C ∷ 0x75 ∷ 0x30 ∷ 0x30 ∷ digit_text (c / 16) ∷ digit_text (c % 16) ∷ []
    else c ∷ []

-- a text in quotes
abbrev pub json_string : List ℕ → List ℕ
json_string bs = 0x22 ∷ flat_map string_byte bs ++ 0x22 ∷ []

-- the letter of six bits
abbrev pub base64_letter : ℕ → ℕ
base64_letter n =
    if nat_lt n 26 then 0x41 + n
    else if nat_lt n 52 then 0x61 + (n - 26)
    else if nat_lt n 62 then 0x30 + (n - 52)
    else if n == 62 then 0x2B
    else 0x2F

-- three bytes as four letters, of which there are as many in a last group as have bits of its bytes, and '=' after
abbrev pub base64_text : List ℕ → List ℕ
base64_text [] = []
base64_text (a ∷ []) = base64_letter (a / 4) ∷ base64_letter (a % 4 * 16) ∷ 0x3D ∷ 0x3D ∷ []
base64_text (a ∷ b ∷ []) = base64_letter (a / 4) ∷ base64_letter (a % 4 * 16 + b / 16) ∷ base64_letter (b % 16 * 4)
    ∷ 0x3D ∷ []
base64_text (a ∷ b ∷ c ∷ rest) =
    base64_letter (a / 4) ∷ base64_letter (a % 4 * 16 + b / 16) ∷ base64_letter (b % 16 * 4 + c / 64)
    ∷ base64_letter (c % 64) ∷ base64_text rest

-- bytes in base64
abbrev pub json_coded : List ℕ → List ℕ
json_coded bs = codes "{\"base64\":\"" ++ (base64_text bs ++ codes "\"}")

-- bytes as JSON: a text if they are UTF-8, otherwise base64
abbrev pub json_bytes : List ℕ → List ℕ
json_bytes bs = if is_utf8 bs then json_string bs else json_coded bs

-- ---- values: scalars are numbers, true or false

abbrev pub json_pair : ScalarKind → ScalarKind → ℤ × ℤ → List ℕ
json_pair k v (x, y) = 0x5B ∷ value_text k x ++ 0x2C ∷ value_text v y ++ 0x5D ∷ []

-- the separator before an element of a list
abbrev pub comma_before : ℕ → List ℕ
comma_before zero = []
comma_before (suc i) = codes ","

-- the spelling of JSON
abbrev pub in_json : Spelling
in_json = record {
  scalar = λ i k z. comma_before i ++ value_text k z;
  text = λ i bs. comma_before i ++ json_bytes bs;
  pair = λ i k v p. comma_before i ++ json_pair k v p;
}

abbrev pub json_list : {X : Type 0} → (X → List ℕ) → List X → List ℕ
json_list f xs = 0x5B ∷ laid_from (λ i x. comma_before i ++ f x) 0 xs ++ 0x5D ∷ []

-- a string is its text, and of all others there is a list of the elements
abbrev pub json_value : ValueContent → List ℕ
json_value (Scalars k zs) = json_list (value_text k) zs
json_value (Vector k zs) = json_list (value_text k) zs
json_value (String bs) = json_bytes bs
json_value (Map k v ps) = json_list (json_pair k v) ps
json_value (Strings ts) = json_list json_bytes ts

-- ---- objects

-- class and name, and null for the name of an object that has none
abbrev pub json_key : Class → List ℕ → List ℕ
json_key Named name = codes "{\"class\":\"named\",\"name\":" ++ json_string name
json_key Unique name = codes "{\"class\":\"unique\",\"name\":null"
json_key Anonymous name = codes "{\"class\":\"anonymous\",\"name\":null"

-- the kind of an object, in JSON
abbrev pub json_kind : Kind → List ℕ
json_kind kind = codes ",\"kind\":\"" ++ (kind_text kind ++ codes "\",\"value\":")

-- an object as a line of JSON
abbrev pub json_line : DumpItem → List ℕ
json_line i = json_key i.class i.name
    ++ (json_kind (kind_of_content i.content) ++ (json_value i.content ++ codes "}\n"))

-- all objects, in the order of a dump
abbrev pub json_dump : Items → List ℕ
json_dump items = flat_map json_line items.named
    ++ (flat_map json_line items.unique ++ flat_map json_line items.anonymous)

-- ---- parts of it

-- around the elements of a kind
abbrev pub opening : Kind → List ℕ
opening kinds.String = []
opening (kinds.Scalar k) = codes "["
opening (kinds.Vector k) = codes "["
opening (kinds.Map k v) = codes "["
opening kinds.Strings = codes "["

-- the text after the elements
abbrev pub closing : Kind → List ℕ
closing kinds.String = codes "}\n"
closing (kinds.Scalar k) = codes "]}\n"
closing (kinds.Vector k) = codes "]}\n"
closing (kinds.Map k v) = codes "]}\n"
closing kinds.Strings = codes "]}\n"

-- the line of an object
abbrev pub json_object : Object → List ℕ
json_object o = json_line (item_of_object o)

-- the line of a key's object, in JSON
abbrev pub json_at : Directory → Key → List ℕ
json_at d key = part_of json_object (object_at d key)
