-- The fronts of names, which distinguish most names. They are not part of the format.
use Rattle.std.specs.Prelude.{ℕ, List}
use Rattle.byteorder.specs.Endian.{big_number}
use Rattle.seg_index.specs.declared.keys.Entry.{Entry}
use Rattle.seg_index.specs.declared.keys.Entry.TheVariants.{Name, Code}

-- the first eight bytes of a name as one number, highest first, with zeros after a shorter name
abbrev pub prefix : List ℕ → ℕ
prefix name = big_number 8 name

-- the front of the wanted key, if it is a name
abbrev pub key_prefix : Entry → ℕ
key_prefix (Name s) = prefix s.now
key_prefix (Code n) = 0
