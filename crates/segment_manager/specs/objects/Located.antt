-- Located objects, which calls accept without another look-up.
use Rattle.std.specs.Prelude.{ℕ, ◌+◌, ◌*◌, Option, Some, Result, Ok, Err, length, nat_lt, option_map, if◌then◌else◌}
use Rattle.segment_manager.specs.Directory.{Object, Directory, count_of, kind_of, object_at, padded}
use Rattle.best_fit.specs.{Extents.handle, declared.places.Place.Place}
use Rattle.seg_types.specs.{Names.ByHandle, Names.Key, Kinds.size_of, declared.refusals.Refusal.Refusal}
use Rattle.seg_types.specs.{declared.kinds.ScalarKind.ScalarKind, declared.refusals.Refusal.TheVariants.OutOfRange}
use Rattle.segment_manager.specs.{declared.objects.object_ref.Object.Object as Located, Layout.head_len}
use Rattle.segment_manager.specs.State.{AnswersWith, SegmentState}

-- an object as it is located
abbrev pub located : Object → Located
located o = record {
  handle = handle o.extent;
  kind = kind_of o.value;
  name_len = length o.name;
  count = count_of o.value;
}

-- a key's object as it is located
abbrev pub located_at : Directory → Key → Option Located
located_at d key = option_map located (object_at d key)

-- an object of the segment has the handle, and these are its properties
abbrev pub IsObject : Located → SegmentState → Type 0
IsObject o s = AnswersWith s (λ d. located_at d (ByHandle o.handle)) (Some o)

-- the located object is the key's object, with its properties
pub record IsLocated (s : SegmentState) (key : Key) (o : Located) : Type 0 where
  pub at : AnswersWith s (λ d. located_at d key) (Some o)
  pub here : IsObject o s

-- the offset of a located object's value from its handle
abbrev pub value_offset : Located → ℕ
value_offset o = head_len + padded o.name_len

-- the place of an element of a located array of scalars of the kind
abbrev pub element_in : Located → ScalarKind → ℕ → Result Place Refusal
element_in o k i =
    if nat_lt i o.count then Ok (record { handle = o.handle; at = value_offset o + size_of k * i }) else Err OutOfRange
