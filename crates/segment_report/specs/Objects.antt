-- The objects of a segment, counted by class and by kind.
use Rattle.std.specs.Prelude.{◌≤◌, ℕ, ◌+◌, ◌*◌, Bool, List, count_by, map, slice_index, slice_set}
use Rattle.seg_types.specs.declared.kinds.ScalarKind.{ScalarKind}
use Rattle.seg_types.specs.declared.kinds.ScalarKind.TheVariants.{Bool as BoolKind, U8, I32, I64, U64}
use Rattle.seg_types.specs.declared.kinds.Kind.{Kind}
use Rattle.seg_types.specs.declared.kinds.Kind.TheVariants.{Scalar, String, Vector, Map, Strings}
use Rattle.seg_types.specs.declared.kinds.Class.{Class}
use Rattle.seg_types.specs.declared.kinds.Class.TheVariants.{Anonymous, Named, Unique}
use Rattle.seg_types.specs.Kinds.{kinds, same_kind}
use Rattle.segment_manager.specs.Directory.{Directory, Object, is_class, kind_of}
use Rattle.segment_report.specs.declared.objects.ObjectTally.{ObjectTally}

abbrev pub is_of_kind : Kind → Object → Bool
is_of_kind k o = same_kind k (kind_of o.value)

-- the number of objects of a kind
abbrev pub count_of_kind : List Object → Kind → ℕ
count_of_kind os k = count_by (is_of_kind k) os

-- the number of objects of each class, and of each kind
abbrev pub objects_tally : List Object → ObjectTally
objects_tally os = record {
  named = count_by (is_class Named) os;
  unique = count_by (is_class Unique) os;
  anonymous = count_by (is_class Anonymous) os;
  kinds = map (count_of_kind os) kinds;
}

-- the number of objects of each class and kind, in a directory
abbrev pub object_tally_of : Directory → ObjectTally
object_tally_of d = objects_tally d.objects

-- ---- one after another

-- the place of a kind among all
abbrev pub scalar_index : ScalarKind → ℕ
scalar_index BoolKind = 0
scalar_index U8 = 1
scalar_index I32 = 2
scalar_index I64 = 3
scalar_index U64 = 4

-- the place of a kind in the tally
abbrev pub kind_index : Kind → ℕ
kind_index (Scalar k) = scalar_index k
kind_index String = 5
kind_index Strings = 6
kind_index (Vector k) = 7 + scalar_index k
kind_index (Map k v) = 12 + 5 * scalar_index k + scalar_index v

abbrev pub one_more_at : List ℕ → ℕ → List ℕ
one_more_at counts i = slice_set counts i (slice_index counts i + 1)

-- one object more
abbrev pub object_counted : ObjectTally → Class → Kind → ObjectTally
object_counted t Named k = record t { named = t.named + 1; kinds = one_more_at t.kinds (kind_index k) }
object_counted t Unique k = record t { unique = t.unique + 1; kinds = one_more_at t.kinds (kind_index k) }
object_counted t Anonymous k = record t { anonymous = t.anonymous + 1; kinds = one_more_at t.kinds (kind_index k) }

-- there is room to count one more
pub record CanTally (t : ObjectTally) (i : ℕ) : Type 0 where
  pub named : t.named ≤ i
  pub unique : t.unique ≤ i
  pub anonymous : t.anonymous ≤ i
  pub kinds : (k : Kind) → slice_index t.kinds (kind_index k) ≤ i
