-- What the calls of C owe, whatever they are asked.
use Rattle.std.specs.Prelude.{◌≡◌, ◌≢◌, ◌≤◌, ℕ, Option, Some, None, IsTrue}
use Rattle.segment_manager.specs.State.{SegmentState}
use Rattle.segment_c.specs.Codes.{is_answer}

-- the handle has a segment, of which this holds
abbrev pub HoldsSegment : Option SegmentState → (SegmentState → Type 0) → Type 0
HoldsSegment None P = ⊥
HoldsSegment (Some s) P = P s

-- the call answers the code by which an argument is refused, if one is, and changes nothing
abbrev pub RefusesArgument : ℕ → ℕ → Option SegmentState → Option SegmentState → Type 0
RefusesArgument wrong code old new = 1 ≤ wrong → (code ≡ wrong) × (new ≡ old)

-- the call answers that the handle is closed, if it is
abbrev pub RefusesClosed : ℕ → ℕ → Option SegmentState → Option SegmentState → Type 0
RefusesClosed wrong code old new = wrong ≡ 0 → old ≡ None → (code ≡ 16) × (new ≡ None)

-- the call reaches the segment: this holds of it before and after, and the code is one that a segment gives
abbrev pub ReachesSegment : ℕ → ℕ → Option SegmentState → Option SegmentState
    → (SegmentState → SegmentState → Type 0) → Type 0
ReachesSegment wrong code old new P = (s : SegmentState) → wrong ≡ 0 → old ≡ Some s
    → IsTrue (is_answer code) × HoldsSegment new (λ t. P s t)

-- all three, of a call whose first wrong argument has this code
pub record PerformsCall (wrong code : ℕ) (old new : Option SegmentState) (P : SegmentState → SegmentState
    → Type 0) : Type 0 where
  pub stopped : RefusesArgument wrong code old new
  pub closed : RefusesClosed wrong code old new
  pub asked : ReachesSegment wrong code old new P

-- a call that changes nothing performs its read
pub record PerformsRead (wrong code : ℕ) (old new : Option SegmentState) (P : SegmentState → Type 0) : Type 0 where
  pub stopped : RefusesArgument wrong code old new
  pub closed : RefusesClosed wrong code old new
  pub told : (s : SegmentState) → wrong ≡ 0 → old ≡ Some s → P s
  pub same : new ≡ old

-- a call that makes an object leaves bytes of gaps if there was no space, and otherwise changes nothing if it is
-- refused
abbrev pub UnchangedOnCode : ℕ → Option SegmentState → Option SegmentState → Type 0
UnchangedOnCode code old new = 1 ≤ code → code ≢ 9 → new ≡ old

-- a call is refused before it reaches the segment, by the code of an argument or since the handle is closed, and
-- changes nothing
pub record RefusesCall (wrong code : ℕ) (old new : Option SegmentState) : Type 0 where
  pub refused : 1 ≤ code
  pub stopped : RefusesArgument wrong code old new
  pub closed : RefusesClosed wrong code old new
  pub none : wrong ≡ 0 → old ≡ None
  pub same : new ≡ old
