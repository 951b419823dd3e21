-- A file and its log, and what a crash may leave of them between two syncs.
use Rattle.std.specs.Prelude.{◌≡◌, ◌⊎◌, ℕ, ◌+◌, ◌≤◌, max, List, ◌++◌, length, take, drop}

-- the file, which has a whole image, and the log beside it
pub record LoggedFile : Type 0 where
  pub base : List ℕ
  pub log : List ℕ

-- a file of these bytes with a log of those
abbrev pub with_log : List ℕ → List ℕ → LoggedFile
with_log base log = record { base = base; log = log }

-- new is old with these bytes at this offset
abbrev pub WritesAt : List ℕ → ℕ → List ℕ → List ℕ → Type 0
WritesAt old at bytes new = new ≡ take at old ++ bytes ++ drop (at + length bytes) old

-- A write of n bytes that a crash cuts short: any bytes in the range and past the old end, the same elsewhere.
pub record TornWrite (at n : ℕ) (old new : List ℕ) : Type 0 where
  pub before : take at new ≡ take at old
  pub after : drop (at + n) new ≡ drop (at + n) old
  pub no_shorter : length old ≤ length new
  pub no_longer : length new ≤ max (length old) (at + n)

-- such a write to the log
pub record WritesLog (at n : ℕ) (old new : LoggedFile) : Type 0 where
  pub base : new.base ≡ old.base
  pub torn : TornWrite at n old.log new.log

-- the old file or the new one, whole
pub record ReplacesBase (image : List ℕ) (old new : LoggedFile) : Type 0 where
  pub base : (new.base ≡ old.base) ⊎ (new.base ≡ image)
  pub log : new.log ≡ old.log

-- each new outcome of a crash is an old outcome after a step
abbrev pub Follows : (LoggedFile → LoggedFile → Type 0) → (LoggedFile → Type 0) → (LoggedFile → Type 0) → Type 0
Follows step old new = (c : LoggedFile) → new c → (d : LoggedFile) × old d × step d c

-- an old outcome after a write that a crash may have cut short
abbrev pub TornFrom : ℕ → ℕ → (LoggedFile → Type 0) → LoggedFile → Type 0
TornFrom at n old c = (d : LoggedFile) × old d × WritesLog at n d c

-- an old outcome, with the old file or the new one
abbrev pub ReplacedFrom : List ℕ → (LoggedFile → Type 0) → LoggedFile → Type 0
ReplacedFrom image old c = (d : LoggedFile) × old d × ReplacesBase image d c

-- each crash leaves this log
abbrev pub LogIs : List ℕ → (LoggedFile → Type 0) → Type 0
LogIs log outcomes = (c : LoggedFile) → outcomes c → c.log ≡ log

-- each crash leaves this file
abbrev pub BaseIs : List ℕ → (LoggedFile → Type 0) → Type 0
BaseIs base outcomes = (c : LoggedFile) → outcomes c → c.base ≡ base

-- each crash leaves both as they are
abbrev pub Only : LoggedFile → (LoggedFile → Type 0) → Type 0
Only files outcomes = (c : LoggedFile) → outcomes c → c ≡ files
