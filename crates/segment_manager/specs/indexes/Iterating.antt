-- The results of the iterators of a segment.
use Rattle.std.specs.Prelude.{◌≡◌, ℕ, ◌+◌, ◌≤◌, Bool, false, Option, Some, None, List, filter, length, map, option_map}
use Rattle.std.specs.Prelude.{slice_get, take}
use Rattle.block_tags.specs.declared.tile.Role.TheVariants.{Object as ObjectRole}
use Rattle.best_fit.specs.{Extents.Extent, Extents.Span as LiveSpan, Extents.spans, Heap.live_of, Table.same_role}
use Rattle.seg_index.specs.declared.index.Index.{Index}
use Rattle.segment_manager.specs.{declared.objects.instance_info.Instance.Instance}
use Rattle.segment_manager.specs.{declared.blocks.tiles.TileInfo.TileInfo, Calls.as_span, indexes.Indexed.objects_of}
use Rattle.segment_manager.specs.{objects.Instances.SaysAt, State.AnswersWith, State.SegmentState, State.DenotesCurrent}
use Rattle.segment_manager.specs.Directory.{Object, Directory, live, named_objects}

-- an iterator over the objects of an index: the number of objects returned so far
pub record Walk : Type 0 where
  pub segment : SegmentState
  pub index : Index
  pub at : ℕ

-- the position of an iterator after a call with this result
abbrev pub place_behind : {A : Type 0} → ℕ → Option A → ℕ
place_behind at None = at
place_behind at (Some x) = at + 1

-- the result is the instance of the object at a place, or none if there is no object
abbrev pub SaysNext : SegmentState → (Directory → List Object) → ℕ → Option Instance → Type 0
SaysNext s objects at None = (d : Directory) → DenotesCurrent s.cut.bytes d → length (objects d) ≤ at
SaysNext s objects at (Some said) = SaysAt s objects at said

-- the iterator returns the object at its position, and moves to the next
pub record YieldsInstance (old : Walk) (item : Option Instance) (new : Walk) : Type 0 where
  pub segment : new.segment ≡ old.segment
  pub index : new.index ≡ old.index
  pub place : new.at ≡ place_behind old.at item
  pub says : SaysNext old.segment (objects_of old.index) old.at item

-- the names of the named objects
abbrev pub names_of : Directory → List (List ℕ)
names_of d = map (λ (o : Object). o.name) (named_objects d)

-- an iterator over names: the number of names returned so far
pub record NameWalk : Type 0 where
  pub segment : SegmentState
  pub at : ℕ

-- the iterator returns the name at its position, and moves to the next
pub record GoesOnNames {A : Type 0} (seen : A → List ℕ) (old : NameWalk) (item : Option A)
    (new : NameWalk) : Type 0 where
  pub segment : new.segment ≡ old.segment
  pub place : new.at ≡ place_behind old.at item
  pub says : AnswersWith old.segment (λ d. slice_get (names_of d) old.at) (option_map seen item)

-- an iterator over blocks and gaps: the number of them returned so far
pub record TileWalk : Type 0 where
  pub segment : SegmentState
  pub at : ℕ

-- the iterator returns the block or gap at its position, and moves to the next
pub record GoesOnTiles (old : TileWalk) (item : Option TileInfo) (new : TileWalk) : Type 0 where
  pub segment : new.segment ≡ old.segment
  pub place : new.at ≡ place_behind old.at item
  pub says : AnswersWith old.segment (λ d. slice_get (spans (live d)) old.at) (option_map as_span item)

-- ---- all objects, by offset

-- an iterator over all objects: the number of objects returned so far
pub record ObjectWalk : Type 0 where
  pub segment : SegmentState
  pub at : ℕ

-- the iterator returns the object at its position, and moves to the next
pub record GoesOnObjects (old : ObjectWalk) (item : Option Instance) (new : ObjectWalk) : Type 0 where
  pub segment : new.segment ≡ old.segment
  pub place : new.at ≡ place_behind old.at item
  pub says : SaysNext old.segment (λ d. d.objects) old.at item

-- whether the block is an object's own block
abbrev pub is_own : Extent → Bool
is_own x = same_role x.role ObjectRole

-- whether a block or gap is an object's own block
abbrev pub is_own_span : LiveSpan → Bool
is_own_span s = elim s.use_of [ None ↦ false | Some role ↦ same_role role ObjectRole ]

-- the objects' own blocks among the blocks and gaps
abbrev pub own_spans : Directory → List LiveSpan
own_spans d = filter is_own_span (spans (live d))

-- the number of objects' own blocks before a place among the blocks and gaps
abbrev pub own_before : Directory → ℕ → ℕ
own_before d i = length (filter is_own_span (take i (spans (live d))))

-- the blocks and gaps that were passed contain the own blocks of this many objects
pub record HasPassed (s : SegmentState) (tiles : TileWalk) (at : ℕ) : Type 0 where
  pub segment : tiles.segment ≡ s
  pub count : AnswersWith s (λ d. own_before d tiles.at) at

-- the iterator returns the next object's own block, and moves past it
pub record GoesOnOwn (old : TileWalk) (item : Option TileInfo) (new : TileWalk) : Type 0 where
  pub segment : new.segment ≡ old.segment
  pub says : (d : Directory) → DenotesCurrent old.segment.cut.bytes d
      → option_map as_span item ≡ slice_get (own_spans d) (own_before d old.at)
  pub count : (d : Directory) → DenotesCurrent old.segment.cut.bytes d
      → own_before d new.at ≡ place_behind (own_before d old.at) item

-- the block is the own block of the object at a place
pub record IsObjectTile (s : SegmentState) (at : ℕ) (block : TileInfo) : Type 0 where
  pub stands : (d : Directory) → DenotesCurrent s.cut.bytes d → Some (as_span block) ≡ slice_get (own_spans d) at

-- the number of objects in the bytes, by their tags
abbrev pub own_count : List ℕ → ℕ
own_count b = length (filter is_own (live_of b).extents)
