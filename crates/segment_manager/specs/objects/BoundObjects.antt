-- Objects that are bound to a segment: they were located, and have the kind that their calls are for.
use Rattle.std.specs.Prelude.{◌≡◌, Err}
use Rattle.best_fit.specs.declared.places.Place.{Place}
use Rattle.seg_types.specs.{Names.ByHandle, Names.Key, declared.kinds.Kind.Kind, declared.refusals.Refusal.Refusal}
use Rattle.segment_manager.specs.declared.objects.object_ref.Object.{Object as Located}
use Rattle.segment_manager.specs.{containers.Contents.container_at, objects.Located.IsObject}
use Rattle.segment_manager.specs.{objects.Located.value_offset}
use Rattle.segment_manager.specs.State.{AnswersWith, SegmentState}

-- the key of a located object by its handle
abbrev pub key_of : Located → Key
key_of o = ByHandle o.handle

-- the place of a located object's container
abbrev pub container_of : Located → Place
container_of o = record { handle = o.handle; at = value_offset o }

-- the object is there and has the kind
pub record IsBound (kind : Kind) (o : Located) (s : SegmentState) : Type 0 where
  pub there : IsObject o s
  pub of_kind : o.kind ≡ kind

-- the key has no object of the kind, for this reason
abbrev pub LacksKind : SegmentState → Key → Kind → Refusal → Type 0
LacksKind s key kind why = AnswersWith s (λ d. container_at d key kind) (Err why)
