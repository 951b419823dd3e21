-- Pairs of a map that C reads several at a time, as two series of numbers of 64 bits.
use Rattle.std.specs.Prelude.{◌≡◌, ℕ, ℤ, ◌-ℤ◌, pos, int_lt, if◌then◌else◌, Bool, List, ◌++◌, length, take}
use Rattle.std.specs.Prelude.{drop, map, min, Result, Ok, Err}
use Rattle.seg_map.specs.{Listing.pairs_past, Numbers.NumberPair}
use Rattle.seg_types.specs.{Commands.Literal, Commands.value_of_literal, Names.ByHandle, Names.Key}
use Rattle.seg_types.specs.{declared.kinds.ScalarKind.ScalarKind, declared.refusals.Refusal.Refusal}
use Rattle.segment_c.specs.Reads.{by_kinds, map_kinds_at}
use Rattle.segment_manager.specs.Directory.{Directory}
use Rattle.segment_manager.specs.containers.Walks.{pairs_at_kinds}
use Rattle.segment_manager.specs.declared.objects.object_ref.Object.{Object as Located}
use Rattle.segment_manager.specs.State.{DenotesCurrent, SegmentState}

-- ---- the pairs

-- the pairs from a key on, or above it; the error if there is no key
abbrev pub those_past : List NumberPair → Bool → Result ℤ Refusal → Result (List NumberPair) Refusal
those_past ps past (Ok z) = Ok (pairs_past int_lt past z ps)
those_past ps past (Err why) = Err why

-- the pairs of a map of two kinds from the key on that a literal is, or above it
abbrev pub pairs_in : Directory → Key → Bool → Literal → ScalarKind → ScalarKind → Result (List NumberPair) Refusal
pairs_in d key past l k v = those_past (pairs_at_kinds d key k v) past (value_of_literal k l)

-- the pairs of the map of a key from the key on that a literal is, or above it
abbrev pub pairs_from_at : Directory → Key → Bool → Literal → Result (List NumberPair) Refusal
pairs_from_at d key past l = by_kinds (pairs_in d key past l) (map_kinds_at d key)

-- ---- the series

-- a number as 64 bits with a sign; a larger number keeps its bits
abbrev pub bits_of : ℤ → ℤ
bits_of z = if int_lt z (pos 9223372036854775808) then z else z -ℤ pos 18446744073709551616

-- the bits of the key and of the value of a pair
abbrev pub key_bits : NumberPair → ℤ
key_bits p = bits_of p.key

abbrev pub value_bits : NumberPair → ℤ
value_bits p = bits_of p.value

-- The two series have the bits of the first of these pairs in their first places: as many as both have places, and as
-- there are pairs. The other places keep what they had.
pub record FillsSeries (ps : List NumberPair) (keys keys' values values' : List ℤ) (count : ℕ) : Type 0 where
  pub count_is : count ≡ min (min (length keys) (length values)) (length ps)
  pub keys_are : keys' ≡ map key_bits (take count ps) ++ drop count keys
  pub values_are : values' ≡ map value_bits (take count ps) ++ drop count values

-- the series have the bits of the pairs of a located map of two kinds whose keys are not below a number, or above it
abbrev pub FillsFrom : SegmentState → Located → ScalarKind → ScalarKind → Bool → ℤ → List ℤ → List ℤ → List ℤ → List ℤ
    → ℕ → Type 0
FillsFrom s o k v past z keys keys' values values' count = (d : Directory) → DenotesCurrent s.cut.bytes d
    → FillsSeries (pairs_past int_lt past z (pairs_at_kinds d (ByHandle o.handle) k v)) keys keys' values values' count
