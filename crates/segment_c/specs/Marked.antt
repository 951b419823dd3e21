-- What is noted of the segment of a handle: how often it was changed, whether C lent its memory, and whether C may
-- write elements where they stand.
use Rattle.std.specs.Prelude.{◌≡◌, ◌≤◌, ◌⊎◌, ℕ, ◌+◌, ◌%◌, Bool, Option, Some, false, true}
use Rattle.segment_c.specs.declared.slot.Marks.{Marks}
use Rattle.segment_manager.specs.State.{SegmentState}

-- the counter has risen, or begins anew, and no element that C was told of is where it was told
abbrev pub raised : Marks → Marks
raised m = record { changes = (m.changes + 1) % 18446744073709551616; is_lent = m.is_lent; is_shared = false }

-- the marks of a handle after a segment was made or opened, in memory that C lent or not
abbrev pub placed : Marks → Bool → Marks
placed m is_lent = record { changes = (m.changes + 1) % 18446744073709551616; is_lent = is_lent; is_shared = false }

-- C is told where elements stand that it may write
abbrev pub shared : Marks → Marks
shared m = record { changes = m.changes; is_lent = m.is_lent; is_shared = true }

-- A call that may have moved elements raises the counter where it is done. If it is refused, the marks stay, or the
-- counter is raised too. So what C was told before is never taken for good when it is not, and what C wrote is saved.
pub record RaisesMoves (code : ℕ) (old new : Marks) : Type 0 where
  pub counted : code ≡ 0 → new ≡ raised old
  pub refused : 1 ≤ code → (new ≡ old) ⊎ (new ≡ raised old)

-- a call puts another segment into the handle, or none: the memory is C's or not then
pub record PlacesSegment (code : ℕ) (old new : Marks) (is_lent : Bool) : Type 0 where
  pub put : code ≡ 0 → new ≡ placed old is_lent
  pub kept : 1 ≤ code → new ≡ old

-- a call that tells C where it may write notes that in the marks
pub record LendsRange (code : ℕ) (old new : Marks) : Type 0 where
  pub told : code ≡ 0 → new ≡ shared old
  pub kept : 1 ≤ code → new ≡ old

-- a segment stands in a handle at the end of a call, whose code is this, and the marks are these
pub record PutsSegment (code its : ℕ) (after : Option SegmentState) (s : SegmentState) (marks its_marks : Marks) :
    Type 0 where
  pub effect : after ≡ Some s
  pub code_is : code ≡ its
  pub marks_are : marks ≡ its_marks
