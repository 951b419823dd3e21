-- The offsets of the words of a header and of an object's head, in bytes: in the header from the start of the segment,
-- in an object from its handle.
use Rattle.std.specs.Prelude.{ℕ}

-- ---- the header

-- the offset of the magic in the header
abbrev pub magic_at : ℕ
magic_at = 0

-- the offset of the format in the header
abbrev pub format_at : ℕ
format_at = 8

-- the offset of the size in the header
abbrev pub size_at : ℕ
size_at = 16

-- the offset of the words of the index of names in the header
abbrev pub named_at : ℕ
named_at = 32

-- the offset of the words of the index of kinds in the header
abbrev pub unique_at : ℕ
unique_at = 56

-- the offset of the reserved bytes, which are zeros up to the first block or gap
abbrev pub reserved_at : ℕ
reserved_at = 80

-- the length of the header
abbrev pub header_len : ℕ
header_len = 128

-- ---- an object's head

-- the offset of the length of the name and the class, after the kind and the count
abbrev pub name_class_at : ℕ
name_class_at = 8

-- the length of an object's head, followed by its name, zeros and its value
abbrev pub head_len : ℕ
head_len = 16
