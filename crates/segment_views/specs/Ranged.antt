-- The pairs of a map whose keys lie between two bounds, one after another, from both ends.
use Rattle.std.specs.Prelude.{◌≡◌, ℕ, ◌≤◌, ℤ, int_le, int_lt, Bool, true, ◌&&◌, Option, Some, None}
use Rattle.std.specs.Prelude.{List, [], ◌∷◌, ◌++◌, filter, length, map, reverse, slice_get, take}
use Rattle.std.specs.declared.ops.Bound.{Bound}
use Rattle.std.specs.declared.ops.Bound.TheVariants.{Included, Excluded, Unbounded}
use Rattle.seg_types.specs.declared.kinds.ScalarKind.{ScalarKind}
use Rattle.seg_types.specs.Names.{Key}
use Rattle.seg_map.specs.Numbers.{NumberPair}
use Rattle.seg_map.specs.Places.{item_of, nodes_of_pairs}
use Rattle.segment_manager.specs.{Directory.Directory, objects.BoundObjects.key_of}
use Rattle.segment_manager.specs.declared.objects.object_ref.Object.{Object}
use Rattle.segment_manager.specs.State.{AnswersWith, SegmentState, DenotesCurrent}
use Rattle.segment_manager.specs.containers.Walks.{pairs_at_kinds}

-- ---- bounds

-- a key is not below the lower bound
abbrev pub is_from : Bound ℤ → ℤ → Bool
is_from (Included a) z = int_le a z
is_from (Excluded a) z = int_lt a z
is_from Unbounded z = true

-- a key is not above the upper bound
abbrev pub is_up_to : Bound ℤ → ℤ → Bool
is_up_to (Included b) z = int_le z b
is_up_to (Excluded b) z = int_lt z b
is_up_to Unbounded z = true

abbrev pub is_between : Bound ℤ → Bound ℤ → NumberPair → Bool
is_between start end p = is_from start p.key && is_up_to end p.key

-- the pairs from a bound on
abbrev pub pairs_from : Bound ℤ → List NumberPair → List NumberPair
pairs_from start ps = filter (is_between start Unbounded) ps

-- the pairs between bounds, as keys and values
abbrev pub range_of : Bound ℤ → Bound ℤ → List NumberPair → List (ℤ × ℤ)
range_of start end ps = map item_of (filter (is_between start end) ps)

-- the last of them, which is the first from the other end
abbrev pub last_between : Bound ℤ → Bound ℤ → List NumberPair → Option (ℤ × ℤ)
last_between start end ps = slice_get (range_of start end (reverse ps)) 0

-- of a map no pair has a key from a bound on
abbrev pub HasNoneFrom : SegmentState → Key → ScalarKind → ScalarKind → Bound ℤ → Type 0
HasNoneFrom s key k v start = AnswersWith s (λ d. pairs_from start (pairs_at_kinds d key k v)) []

-- the nodes are the nodes of the first pairs of a map from a bound on
abbrev pub AreAhead : SegmentState → Key → ScalarKind → ScalarKind → Bound ℤ → List ℕ → Type 0
AreAhead s key k v start nodes =
    AnswersWith s (λ d. nodes_of_pairs (take (length nodes) (pairs_from start (pairs_at_kinds d key k v)))) nodes

-- ---- an iterator over them

-- of a map the bounds of the pairs that are left, which are this many at most
pub record PairWalk : Type 0 where
  pub segment : SegmentState
  pub key : Key
  pub start : Bound ℤ
  pub end : Bound ℤ
  pub left : ℕ

-- the walk over a located map between two bounds
abbrev pub walk_of : SegmentState → Object → Bound ℤ → Bound ℤ → ℕ → PairWalk
walk_of s o start end left = record { segment = s; key = key_of o; start = start; end = end; left = left }

-- the pairs that are left, by rising keys
abbrev pub pairs_left : ScalarKind → ScalarKind → Directory → PairWalk → List (ℤ × ℤ)
pairs_left k v d w = range_of w.start w.end (pairs_at_kinds d w.key k v)

-- what comes is the first of a list, and the others are left; nothing comes if the list is empty
abbrev pub TakesFirst : {A B : Type 0} → (A → B) → Option A → List B → List B → Type 0
TakesFirst seen None before after = (before ≡ []) × (after ≡ [])
TakesFirst seen (Some x) before after = before ≡ seen x ∷ after

-- an iterator gives its last element
abbrev pub TakesLast : {A B : Type 0} → (A → B) → Option A → List B → List B → Type 0
TakesLast seen None before after = (before ≡ []) × (after ≡ [])
TakesLast seen (Some x) before after = before ≡ after ++ seen x ∷ []

-- an iterator gives a pair from one end of those that are left, or none
pub record StepsPairs {A : Type 0} (k v : ScalarKind) (Takes : Option A → List (ℤ × ℤ) → List (ℤ × ℤ)
    → Type 0) (old : PairWalk) (item : Option A) (new : PairWalk) : Type 0 where
  pub segment : new.segment ≡ old.segment
  pub key : new.key ≡ old.key
  pub pairs : (d : Directory) → DenotesCurrent old.segment.cut.bytes d
      → Takes item (pairs_left k v d old) (pairs_left k v d new)

-- an iterator gives the first pair that is left
abbrev pub GoesOnPairs : {A : Type 0} → ScalarKind → ScalarKind → (A
    → ℤ × ℤ) → PairWalk → Option A → PairWalk → Type 0
GoesOnPairs k v seen = StepsPairs k v (TakesFirst seen)

-- an iterator gives the last pair that is left
abbrev pub GoesBackPairs : {A : Type 0} → ScalarKind → ScalarKind → (A
    → ℤ × ℤ) → PairWalk → Option A → PairWalk → Type 0
GoesBackPairs k v seen = StepsPairs k v (TakesLast seen)

-- this many pairs are left at most, and these nodes are listed ahead
pub record IsPairWalk (k v : ScalarKind) (w : PairWalk) (ahead : List ℕ) : Type 0 where
  pub few : (d : Directory) → DenotesCurrent w.segment.cut.bytes d → length (pairs_left k v d w) ≤ w.left
  pub nodes : AreAhead w.segment w.key k v w.start ahead
