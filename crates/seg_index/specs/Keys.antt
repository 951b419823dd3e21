-- The keys of an index. A handle leads to an object's payload: two words, and the name.
use Rattle.std.specs.Prelude.{ℕ, ◌+◌, ◌/◌, ◌%◌, Bool, List, nat_lt}
use Rattle.std.specs.{Cmp.Lexicographic.slice_cmp, Ordering.nat_cmp, Ordering.is_lt}
use Rattle.raw_region.specs.Memory.{Memory, read, word_at}

-- the code of the kind in the head of an object
abbrev pub code_at : Memory → ℕ → ℕ
code_at m h = word_at m h % 4294967296

-- the count in the head of an object
abbrev pub count_at : Memory → ℕ → ℕ
count_at m h = word_at m h / 4294967296

-- the length of the name in the head of an object
abbrev pub name_len_at : Memory → ℕ → ℕ
name_len_at m h = word_at m (h + 8) % 4294967296

-- the code of the class in the head of an object
abbrev pub class_at : Memory → ℕ → ℕ
class_at m h = word_at m (h + 8) / 4294967296

-- the name after the head of an object
abbrev pub name_at : Memory → ℕ → List ℕ
name_at m h = read m (h + 16) (name_len_at m h)

-- whether the name of the first object precedes that of the second, by bytes
abbrev pub name_before : Memory → ℕ → ℕ → Bool
name_before m g h = is_lt (slice_cmp nat_cmp (name_at m g) (name_at m h))

-- whether the kind of the first object precedes that of the second, by code
abbrev pub code_before : Memory → ℕ → ℕ → Bool
code_before m g h = nat_lt (code_at m g) (code_at m h)
