-- Elements of an array or a vector of scalars that one call reads, writes or appends.
use Rattle.std.specs.Prelude.{ℕ, ◌+◌, ◌*◌, ℤ, Bool, ◌||◌, None, Some, Result, Ok, Err, List, ◌++◌, IfOk, drop, length}
use Rattle.std.specs.Prelude.{nat_le, take, if◌then◌else◌}
use Rattle.raw_region.specs.Memory.{SameBytesExcept, bytes_of}
use Rattle.best_fit.specs.declared.places.Place.{Place}
use Rattle.seg_types.specs.{declared.kinds.Kind.Kind, declared.kinds.ScalarKind.ScalarKind}
use Rattle.seg_types.specs.{declared.refusals.Refusal.Refusal, Kinds.same_kind, Kinds.size_of, Names.Key}
use Rattle.seg_types.specs.declared.kinds.Kind.TheVariants.{Scalar, Vector}
use Rattle.seg_types.specs.declared.refusals.Refusal.TheVariants.{NotFound, OutOfRange, ReadOnly, WrongKind}
use Rattle.seg_vector.specs.Vector.{capacity_for_more}
use Rattle.segment_manager.specs.{declared.modes.Mode.Mode, Answers.Answer, Answers.Done, Answers.Refused}
use Rattle.segment_manager.specs.{objects.ElementLists.numbers_in, objects.Standing.place_at}
use Rattle.segment_manager.specs.Directory.{Directory, Elements, Object, Value, kind_of, live, object_at}
use Rattle.segment_manager.specs.Plan.{Plan, Refuse, Reply, perform, with, with_capacity}
use Rattle.segment_manager.specs.State.{Transitions, SegmentState, DenotesCurrent}
use Rattle.segment_manager.specs.Step.{changed, found_at, is_read_only, vector_of, with_items}
pub use Rattle.seg_vector.specs.VectorCalls.{replaced}

-- ---- reading

-- whether objects of a kind are arrays or vectors of this scalar kind
abbrev pub is_slice : ScalarKind → Kind → Bool
is_slice k kind = same_kind (Vector k) kind || same_kind (Scalar k) kind

-- the numbers of a value that is an array or a vector of scalars of a kind
abbrev pub numbers_if : ScalarKind → Value → Result (List ℤ) Refusal
numbers_if k v = if is_slice k (kind_of v) then Ok (numbers_in v) else Err WrongKind

-- this many elements of a list, from an index on, if it has them
abbrev pub range_of : List ℤ → ℕ → ℕ → Result (List ℤ) Refusal
range_of zs first n = if nat_le (first + n) (length zs) then Ok (take n (drop first zs)) else Err OutOfRange

abbrev pub range_in : Result (List ℤ) Refusal → ℕ → ℕ → Result (List ℤ) Refusal
range_in (Ok zs) first n = range_of zs first n
range_in (Err why) first n = Err why

-- this many elements of a key's object, from an index on
abbrev pub range_at : Directory → Key → ScalarKind → ℕ → ℕ → Result (List ℤ) Refusal
range_at d key k first n = range_in (elim (object_at d key) as (λ _. Result (List ℤ) Refusal) [
  | None ↦ Err NotFound
  | Some o ↦ numbers_if k o.value
]) first n

-- ---- writing

-- the directory with these elements in a key's object, from an index on
abbrev pub with_range : Directory → Key → ℕ → List ℤ → Directory
with_range d key first zs = elim (object_at d key) as (λ _. Directory) [
  | None ↦ d
  | Some o ↦ changed d o (with_items o.value (replaced (numbers_in o.value) first zs))
]

abbrev pub written_if : Result (List ℤ) Refusal → Directory → Directory → Answer × Directory
written_if (Ok old) d after = (Done, after)
written_if (Err why) d after = (Refused why, d)

-- the answer and the directory after it: all elements are written, or none
abbrev pub written : Mode → Directory → Key → ScalarKind → ℕ → List ℤ → Answer × Directory
written mode d key k first zs =
    if is_read_only mode then (
      Refused ReadOnly,
      d,
    ) else written_if (range_at d key k first (length zs)) d (with_range d key first zs)

-- elements of an array or a vector from an index on are replaced, all or none
abbrev pub WritesRange : SegmentState → SegmentState → Key → ScalarKind → ℕ → List ℤ → Answer → Type 0
WritesRange old new key k first zs answer = Transitions old new answer (λ d. written old.mode d key k first zs)

-- only the bytes of this many elements from an index on change, in a key's array of scalars of the kind
abbrev pub ChangesRange : SegmentState → SegmentState → Key → ScalarKind → ℕ → ℕ → Type 0
ChangesRange old new key k first n = (d : Directory) → DenotesCurrent old.cut.bytes d
    → IfOk (place_at d key k first) (λ (p : Place).
    SameBytesExcept (bytes_of old.cut.bytes) (bytes_of new.cut.bytes) (p.handle + p.at) (size_of k * n))

-- ---- appending

-- the plan of appending these elements to a vector
abbrev pub extend : Directory → Object → Value → List ℤ → Plan
extend d o v more =
    with (vector_of v) (λ (k, zs, t).
    with_capacity (size_of k) (capacity_for_more (length zs) (length more) t.capacity) t
    (λ u. Reply Done (changed d o (Elements k (zs ++ more) u))))

-- the answer and the directory after a row is appended to a vector
abbrev pub extended : Mode → Directory → Key → ScalarKind → List ℤ → Answer × Directory
extended mode d key k more =
    perform d (live d) (if is_read_only mode then Refuse ReadOnly else
    with (found_at d key) (λ o. if same_kind (Vector k) (kind_of o.value) then extend d o o.value more
    else Refuse WrongKind))

-- a row is appended to a vector, all of it or nothing
abbrev pub ExtendsVector : SegmentState → SegmentState → Key → ScalarKind → List ℤ → Answer → Type 0
ExtendsVector old new key k more answer = Transitions old new answer (λ d. extended old.mode d key k more)
