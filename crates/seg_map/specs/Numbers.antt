-- Maps between numbers of scalar kinds, as a directory has them.
use Rattle.std.specs.Prelude.{ℕ, ℤ, Bool, List}
use Rattle.raw_region.specs.Memory.{Memory}
use Rattle.seg_types.specs.{declared.kinds.ScalarKind.ScalarKind, Kinds.size_of, Kinds.spelling, Kinds.is_value}
use Rattle.seg_map.specs.Map.{Pair, is_pair, IsPairAt, IsMapAt}

-- a pair of whole numbers with its block
abbrev pub NumberPair : Type 0
NumberPair = Pair ℤ ℤ

-- whether key and value are values of their kinds
abbrev pub is_number_pair : ScalarKind → ScalarKind → NumberPair → Bool
is_number_pair k v = is_pair (size_of k) (size_of v) (is_value k) (is_value v)

-- the block of a pair holds a key and a value of two scalar kinds
abbrev pub IsNumberPairAt : ScalarKind → ScalarKind → Memory → NumberPair → Type 0
IsNumberPairAt k v = IsPairAt (size_of k) (spelling k) (spelling v)

-- a map of two scalar kinds is at an offset
abbrev pub IsNumberMapAt : Memory → ℕ → ScalarKind → ScalarKind → List NumberPair → Type 0
IsNumberMapAt m at k v ps = IsMapAt (size_of k) (spelling k) (spelling v) m at ps
