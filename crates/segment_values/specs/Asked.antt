-- The texts of an object's pairs, by the results of the calls that read them.
use Rattle.std.specs.Prelude.{ℕ, List, Result, Ok, Err, slice_get}
use Rattle.seg_types.specs.{declared.kinds.ScalarKind.ScalarKind, declared.refusals.Refusal.Refusal, Names.Key}
use Rattle.seg_map.specs.{Numbers.NumberPair, Places.item_of}
use Rattle.segment_manager.specs.containers.Walks.{KindedPair, pairs_at}
use Rattle.segment_manager.specs.{Directory.Directory, Parts.part_of}
use Rattle.segment_values.specs.Layouts.{Spelling}

-- a length, or 0 after an error
abbrev pub length_in : Result (ℕ × ℕ) Refusal → ℕ
length_in (Ok (len, capacity)) = len
length_in (Err r) = 0

-- the text of a key and a value, by the caller's spelling
abbrev pub walked_text : Spelling → ℕ → KindedPair → List ℕ
walked_text s i ((k, x), (v, y)) = s.pair i k v (x, y)

-- the text of a pair, by the caller's spelling
abbrev pub pair_text : Spelling → ScalarKind → ScalarKind → ℕ → NumberPair → List ℕ
pair_text s k v i p = s.pair i k v (item_of p)

-- the text of the pair at an index of a map
abbrev pub pair_part : Spelling → ScalarKind → ScalarKind → Directory → Key → ℕ → List ℕ
pair_part s k v d key i = part_of (pair_text s k v i) (slice_get (pairs_at d key) i)
