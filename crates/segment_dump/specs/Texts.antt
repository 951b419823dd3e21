-- A dump as text, line by line. Numbers, values, kinds, names and quoted texts are spelled as in the language.
use Rattle.std.specs.Prelude.{ℕ, ℤ, zero, suc, ◌+◌, ◌-◌, ◌*◌, ◌/◌, List, [], ◌∷◌, ◌++◌, codes, drop, length, take}
use Rattle.std.specs.List.{flat_map}
use Rattle.seg_types.specs.{declared.kinds.Class.Class, declared.kinds.Kind.Kind, declared.kinds.ScalarKind.ScalarKind}
use Rattle.seg_types.specs.declared.kinds.Class.TheVariants.{Anonymous, Named, Unique}
use Rattle.segment_lang.specs.Texts.{kind_text, name_text, number_text, quoted_text, value_text}
use Rattle.segment_dump.specs.Items.{ValueContent, Scalars, Vector, String, Map, Strings, DumpItem, Items}
use Rattle.segment_dump.specs.Items.{kind_of_content, count_of_content}
use Rattle.segment_manager.specs.Parts.{parts_until}

-- ---- lines of elements: each after two blanks

abbrev pub element_line : ScalarKind → ℤ → List ℕ
element_line k z = 0x20 ∷ 0x20 ∷ value_text k z ++ 0x0A ∷ []

abbrev pub pair_line : ScalarKind → ScalarKind → ℤ × ℤ → List ℕ
pair_line k v (x, y) = 0x20 ∷ 0x20 ∷ value_text k x ++ 0x20 ∷ value_text v y ++ 0x0A ∷ []

-- ---- a text: its length, and its bytes in pieces of 1000, of which the first stands in the same line and each other
-- in its own

-- the number of pieces of this many bytes: one for no bytes
abbrev pub pieces_in : ℕ → ℕ
pieces_in n = 1 + (n - 1) / 1000

-- one piece of a text
abbrev pub piece_of : List ℕ → ℕ → List ℕ
piece_of bs i = take 1000 (drop (i * 1000) bs)

-- the text before a piece
abbrev pub piece_lead : ℕ → List ℕ
piece_lead zero = codes " "
piece_lead (suc i) = codes "    "

-- the line of a piece
abbrev pub piece_line : List ℕ → ℕ → List ℕ
piece_line bs i = piece_lead i ++ (quoted_text (piece_of bs i) ++ 0x0A ∷ [])

-- the lines of all pieces
abbrev pub pieces_text : List ℕ → List ℕ
pieces_text bs = parts_until (piece_line bs) (pieces_in (length bs))

-- the line of the length
abbrev pub length_text : ℕ → List ℕ
length_text n = 0x20 ∷ 0x20 ∷ number_text n

-- a text in pieces of 1000 bytes
abbrev pub text_lines : List ℕ → List ℕ
text_lines bs = length_text (length bs) ++ pieces_text bs

-- ---- an object

-- the elements of an object, as lines
abbrev pub content_text : ValueContent → List ℕ
content_text (Scalars k zs) = flat_map (element_line k) zs
content_text (Vector k zs) = flat_map (element_line k) zs
content_text (String bs) = text_lines bs
content_text (Map k v ps) = flat_map (pair_line k v) ps
content_text (Strings ts) = flat_map text_lines ts

-- kind and count, and the end of the line
abbrev pub kind_and_count_text : Kind → ℕ → List ℕ
kind_and_count_text kind n = kind_text kind ++ 0x20 ∷ number_text n ++ 0x0A ∷ []

-- the line of an object: its class, its name if it has one, its kind, and its number of elements
abbrev pub head_line : Class → List ℕ → Kind → ℕ → List ℕ
head_line Named name kind n = codes "named " ++ name_text name ++ 0x20 ∷ kind_and_count_text kind n
head_line Unique name kind n = codes "unique " ++ kind_and_count_text kind n
head_line Anonymous name kind n = codes "anonymous " ++ kind_and_count_text kind n

-- a line that tells an object: some bytes, its name if it has one, its kind, more bytes, and a number
abbrev pub info_line : List ℕ → Class → List ℕ → Kind → List ℕ → ℕ → List ℕ
info_line lead Named name kind between n =
    lead ++ (name_text name ++ (0x20 ∷ (kind_text kind ++ (between ++ (number_text n ++ 0x0A ∷ [])))))
info_line lead Unique name kind between n = lead ++ (kind_text kind ++ (between ++ (number_text n ++ 0x0A ∷ [])))
info_line lead Anonymous name kind between n = lead ++ (kind_text kind ++ (between ++ (number_text n ++ 0x0A ∷ [])))

-- all lines of an object
abbrev pub item_text : DumpItem → List ℕ
item_text i = head_line i.class i.name (kind_of_content i.content) (count_of_content i.content)
    ++ content_text i.content

-- ---- all of it

-- the version of the form, the size in bytes, and the numbers of entries of both indexes
abbrev pub prefix_text : ℕ → ℕ → ℕ → List ℕ
prefix_text size named unique =
    codes "segment dump 1" ++ 0x0A ∷ codes "size " ++ number_text size ++ 0x0A ∷ codes "indexes "
    ++ number_text named ++ 0x20 ∷ number_text unique ++ 0x0A ∷ []

-- the line end
abbrev pub end_text : List ℕ
end_text = codes "end" ++ 0x0A ∷ []

abbrev pub items_text : List DumpItem → List ℕ
items_text = flat_map item_text

-- the dump of some objects, for a segment of a size
abbrev pub dump_text : ℕ → Items → List ℕ
dump_text size items =
    prefix_text size (length items.named) (length items.unique)
    ++ (items_text items.named ++ (items_text items.unique ++ (items_text items.anonymous ++ end_text)))
