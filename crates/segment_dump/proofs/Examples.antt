-- Worked examples: elements and texts, as a dump has them.
use Rattle.segment_manager.specs.Directory as directory
use Rattle.segment_dump.proofs.Common.{◌≡◌, [], ◌∷◌, ◌++◌, List, ℕ, map, None, refl, digits, pos, negsuc, codes}
use Rattle.segment_dump.proofs.Common.{replicate, BackingArray, no_backing, I32, I64, Anonymous, Named, Unique}
use Rattle.segment_dump.proofs.Common.{Directory, Object, Value, Class, capacities, capacities_text, Items, Scalars}
use Rattle.segment_dump.proofs.Common.{Vector, Map, Strings, block_room, prefix_room, items_needs, object_room}
use Rattle.segment_dump.proofs.Common.{without_notes, line_column_behind, content_text, pieces_text}
use Rattle.segment_dump.specs.Json.{base64_text, json_dump, json_string}
use Rattle.block_tags.specs.declared.tile.Role.TheVariants.{Object as ObjectRole}
use Rattle.seg_types.specs.declared.kinds.ScalarKind.TheVariants.{Bool}

abbrev line : List ℕ → List ℕ
line l = l ++ 0x0A ∷ []

truths : content_text (Vector Bool (pos 0 ∷ pos 1 ∷ [])) ≡ line (codes "  false") ++ line (codes "  true")
truths = refl

pairs : content_text (Map Bool Bool ((pos 0, pos 1) ∷ (pos 1, pos 0) ∷ [])) ≡ line (codes "  false true")
    ++ line (codes "  true false")
pairs = refl

-- an empty text is one piece
no-bytes : pieces_text [] ≡ line (codes " \"\"")
no-bytes = refl

escapes : pieces_text (0x61 ∷ 0 ∷ 0x22 ∷ 0x5C ∷ []) ≡ line (codes " \"a\\x00\\\"\\\\\"")
escapes = refl

-- a text of 1001 bytes has two pieces
two-pieces : pieces_text (replicate 1001 0x61) ≡ line (codes " \"" ++ replicate 1000 0x61 ++ codes "\"")
    ++ line (codes "    \"a\"")
two-pieces = refl

-- after a line end and two bytes
second-line : line_column_behind (0x61 ∷ 0x0A ∷ 0x62 ∷ 0x63 ∷ []) ≡ (2, 3)
second-line = refl

-- ---- what is needed: blocks of whole 16 bytes with their tags, and 32 at least

blocks : map block_room (0 ∷ 1 ∷ 16 ∷ 17 ∷ 32 ∷ 33 ∷ []) ≡ 0 ∷ 32 ∷ 32 ∷ 48 ∷ 48 ∷ 64 ∷ []
unfolding block_room
blocks = refl

-- a vector of strings of three elements, and a map of two pairs: 144 bytes for the ends, 64 for the indexes, 64 for
-- each object's own block, 64 for the array, 32 and 48 for the texts that are not empty, and 48 for each pair
abbrev some_items : Items
some_items = record {
  named = record {
    class = Named;
    name = codes "b";
    content = Strings (codes "hello" ∷ [] ∷ replicate 20 0x61 ∷ []);
  } ∷ [];
  unique = record { class = Unique; name = []; content = Map I32 Bool ((negsuc 6, pos 0) ∷ (pos 7, pos 1) ∷ []) } ∷ [];
  anonymous = [];
}

needed : items_needs some_items ≡ record { room = 576; longest = 20 }
unfolding block_room object_room prefix_room
needed = refl

-- ---- notes at the end of a text are left out, and no others

abbrev some_text : List ℕ
some_text = line (codes "a") ++ line (codes "# b") ++ line (codes "c")

noted : without_notes (some_text ++ line (codes "#") ++ line (codes "# d # e")) ≡ some_text
noted = refl

only-notes : without_notes (line (codes "# a") ++ line (codes "#")) ≡ []
only-notes = refl

-- a line without an end is no note, and what stands in front of it is kept
unended : without_notes (some_text ++ line (codes "#") ++ codes "# d") ≡ some_text ++ line (codes "#") ++ codes "# d"
unended = refl

-- ---- capacities: an array and a map have none

abbrev slots : ℕ → BackingArray
slots n = record { capacity = n; extent = None }

abbrev some_object : Class → List ℕ → ℕ → Value → Object
some_object class name at value =
    record { class = class; name = name; value = value; extent = record { offset = at; len = 48; role = ObjectRole } }

abbrev some_directory : Directory
some_directory = record {
  size = 1024;
  objects = some_object Anonymous [] 192 (directory.Bytes (codes "four") (slots 16))
      ∷ some_object Named (codes "b") 256 (directory.Elements I64 (pos 5 ∷ []) (slots 10))
      ∷ some_object Unique [] 320 (directory.Pairs I32 Bool [])
      ∷ some_object Named (codes "a b") 384 (directory.Texts [] no_backing)
      ∷ some_object Named (codes "c") 448 (directory.Numbers I64 (pos 1 ∷ [])) ∷ [];
  named = slots 4;
  unique = slots 3;
}

told : capacities_text (capacities some_directory)
    ≡ line (codes "# capacity of names: 4") ++ line (codes "# capacity of kinds: 3")
    ++ line (codes "# capacity of named \"a b\" vec<string>: 0") ++ line (codes "# capacity of named b vec<i64>: 10")
    ++ line (codes "# capacity of anonymous string: 16")
unfolding digits
told = refl

-- ---- lines of JSON

abbrev json_items : Items
json_items = record {
  named = record { class = Named; name = codes "a\"b"; content = Scalars I64 (pos 1 ∷ negsuc 1 ∷ []) } ∷ [];
  unique = record { class = Unique; name = []; content = Map I32 Bool ((negsuc 6, pos 0) ∷ (pos 7, pos 1) ∷ []) } ∷ [];
  anonymous = record { class = Anonymous; name = []; content = Vector Bool (pos 0 ∷ pos 1 ∷ []) } ∷ [];
}

in-json : json_dump json_items
    ≡ line (codes "{\"class\":\"named\",\"name\":\"a\\\"b\",\"kind\":\"i64\",\"value\":[1,-2]}")
    ++ line (codes "{\"class\":\"unique\",\"name\":null,\"kind\":\"map<i32,bool>\",\"value\":[[-7,false],[7,true]]}")
    ++ line (codes "{\"class\":\"anonymous\",\"name\":null,\"kind\":\"vec<bool>\",\"value\":[false,true]}")
unfolding digits
in-json = refl

-- the words of RFC 4648, section 10
base64 : map base64_text (codes "f" ∷ codes "fo" ∷ codes "foo" ∷ codes "foobar" ∷ [])
    ≡ codes "Zg==" ∷ codes "Zm8=" ∷ codes "Zm9v" ∷ codes "Zm9vYmFy" ∷ []
base64 = refl

base64-all : base64_text (0 ∷ 0x10 ∷ 0x83 ∷ 0xFB ∷ 0xFF ∷ 0xBF ∷ []) ≡ codes "ABCD+/+/"
base64-all = refl

in-quotes : json_string (0x61 ∷ 0x0A ∷ 0x22 ∷ 0x5C ∷ 0x7F ∷ 0xC3 ∷ 0xA4 ∷ [])
    ≡ codes "\"a\\u000a\\\"\\\\" ++ 0x7F ∷ 0xC3 ∷ 0xA4 ∷ 0x22 ∷ []
in-quotes = refl
