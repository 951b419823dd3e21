-- The parts of a text of XML, and how bytes are written in it.
use Rattle.std.specs.Prelude.{ℕ, ◌&&◌, List, [], ◌∷◌, ◌++◌, codes, decimal, ◌==◌, nat_le, nat_lt, if◌then◌else◌}
use denote.Ref.{Bor}
use Rattle.seg_types.specs.Texts.{kind_text}
use Rattle.segment_report.specs.declared.parts.Part.{Part}
use Rattle.segment_report.specs.declared.parts.Part.TheVariants.{Bytes, Number, Escaped, Kind}

-- A byte after two others. A control character becomes `?`. U+FFFE and U+FFFF, which XML does not allow, become U+FFFD
-- by their last byte.
abbrev pub plain_byte : ℕ → ℕ → ℕ → List ℕ
plain_byte before last b =
    if nat_lt b 0x20 then codes "?"
    else if (before == 0xEF) && (last == 0xBF) && nat_le 0xBE b then 0xBD ∷ []
    else b ∷ []

-- a byte after two others in a text of XML: what means something in XML is written by its name
abbrev pub xml_byte : ℕ → ℕ → ℕ → List ℕ
xml_byte before last b =
    if b == 0x26 then codes "&amp;"
    else if b == 0x3C then codes "&lt;"
    else if b == 0x3E then codes "&gt;"
    else if b == 0x22 then codes "&quot;"
    else if b == 0x27 then codes "&apos;"
    else plain_byte before last b

-- bytes after two others, and a text
abbrev pub xml_from : ℕ → ℕ → List ℕ → List ℕ
xml_from before last [] = []
xml_from before last (b ∷ bs) = xml_byte before last b ++ xml_from last b bs

-- bytes as XML: special characters by name, control characters as question marks
abbrev pub xml_text : List ℕ → List ℕ
xml_text bs = xml_from 0 0 bs

-- a part of a page: bytes, a number, XML or a kind
abbrev pub part_text : Part → List ℕ
part_text (Bytes bytes) = bytes.now
part_text (Number n) = decimal n
part_text (Escaped bytes) = xml_text bytes.now
part_text (Kind k) = xml_text (kind_text k)

-- a slice as it is
abbrev pub slice_text : Bor (List ℕ) → List ℕ
slice_text slice = slice.now
