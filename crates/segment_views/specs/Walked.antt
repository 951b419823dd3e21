-- What iterators give.
use Rattle.std.specs.Prelude.{◌≡◌, ℕ, Option, List, option_map, slice_get}
use Rattle.seg_types.specs.Names.{Key}
use Rattle.segment_manager.specs.Directory.{Directory}
use Rattle.segment_manager.specs.indexes.Iterating.{place_behind}
use Rattle.segment_manager.specs.State.{AnswersWith, SegmentState}

-- an iterator over the elements of the object of a key: how many of them it has given
pub record ElementWalk : Type 0 where
  pub segment : SegmentState
  pub key : Key
  pub at : ℕ

-- an iterator gives the element at its position and goes on to the next; nothing if none is there
pub record GoesOnElements {A B : Type 0} (elements : Directory → Key → List B) (seen : A
    → B) (old : ElementWalk) (item : Option A) (new : ElementWalk) : Type 0 where
  pub segment : new.segment ≡ old.segment
  pub key : new.key ≡ old.key
  pub place : new.at ≡ place_behind old.at item
  pub says : AnswersWith old.segment (λ d. slice_get (elements d old.key) old.at) (option_map seen item)
