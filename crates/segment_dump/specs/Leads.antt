-- The line of an object, part by part, as it is read.
use Rattle.std.specs.Prelude.{◌≡◌, ◌≢◌, ◌≤◌, ℕ, List, [], ◌∷◌, ◌++◌, codes, length, flat_map}
use Rattle.seg_types.specs.{declared.kinds.Class.Class, declared.kinds.Kind.Kind}
use Rattle.seg_types.specs.declared.kinds.Class.TheVariants.{Anonymous, Named, Unique}
use Rattle.seg_types.specs.Texts.{item_text as byte_text, name_text}
use Rattle.segment_lang.specs.Texts.{number_text}
use Rattle.segment_dump.specs.Texts.{kind_and_count_text}

-- no segment has more bytes
abbrev pub IsSmall : ℕ → Type 0
IsSmall n = n ≤ 1073741824

-- bytes in quotes, after the first quote
abbrev pub closed_text : List ℕ → List ℕ
closed_text bs = flat_map byte_text bs ++ 0x22 ∷ []

-- the class of an object, and its name if it has one
abbrev pub lead_text : Class × List ℕ → List ℕ
lead_text (Named, name) = codes "named " ++ name_text name ++ 0x20 ∷ []
lead_text (Unique, name) = codes "unique "
lead_text (Anonymous, name) = codes "anonymous "

-- no others than named ones have names
abbrev pub IsLead : Class × List ℕ → Type 0
IsLead (class, name) = (class ≢ Named → name ≡ []) × IsSmall (length name)

-- a kind and a count
abbrev pub measured : Kind × ℕ → List ℕ
measured (kind, n) = kind_and_count_text kind n

-- the count of a kind is at most 2^30
abbrev pub IsMeasure : Kind × ℕ → Type 0
IsMeasure (kind, n) = IsSmall n

-- the numbers of entries of both indexes, up to the end of the line
abbrev pub entries_text : ℕ × ℕ → List ℕ
entries_text (named, unique) = number_text named ++ 0x20 ∷ number_text unique ++ 0x0A ∷ []

-- both numbers of index entries are at most 2^30
abbrev pub AreEntryCounts : ℕ × ℕ → Type 0
AreEntryCounts (named, unique) = IsSmall named × IsSmall unique
