-- The names that do not precede a text, in the order of their bytes.
use Rattle.std.specs.Prelude.{◌≡◌, ℕ, ◌<◌, ◌≤◌, Bool, true, false, List, Some, length, slice_get}
use Rattle.std.specs.{Cmp.Lexicographic.slice_cmp, Ordering.nat_cmp, Ordering.is_lt}
use Rattle.segment_manager.specs.Directory.{Directory, Object, named_objects}
use Rattle.segment_manager.specs.State.{SegmentState, DenotesCurrent}

-- whether the name of an object precedes a text
abbrev pub is_before : List ℕ → Object → Bool
is_before text o = is_lt (slice_cmp nat_cmp o.name text)

-- the names of the objects before a place precede the text, and no others do
pub record PartsNames (text : List ℕ) (os : List Object) (at : ℕ) : Type 0 where
  pub within : at ≤ length os
  pub ahead : (j : ℕ) (o : Object) → slice_get os j ≡ Some o → j < at → is_before text o ≡ true
  pub from : (j : ℕ) (o : Object) → slice_get os j ≡ Some o → at ≤ j → is_before text o ≡ false

-- the place is that of the first name that does not precede the text, or the number of names if all do
pub record IsFirstFrom (s : SegmentState) (text : List ℕ) (at : ℕ) : Type 0 where
  pub parts : (d : Directory) → DenotesCurrent s.cut.bytes d → PartsNames text (named_objects d) at
