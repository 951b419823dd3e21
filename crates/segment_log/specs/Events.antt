-- What a disk was asked of a file and its log, and what a crash may leave then.
use Rattle.std.specs.Prelude.{◌≡◌, ℕ, ◌+◌, ◌&&◌, Bool, true, false, List, [], ◌∷◌, ◌++◌, length, take, drop}
use Rattle.segment_log.specs.Crashes.{LoggedFile, TornFrom, ReplacedFrom}

-- one call for the log or the file, with its answer
pub data LogEvent : Type 0 where
  -- bytes were to be written to the log at an offset; they were, or need not have been
  Wrote : ℕ → List ℕ → Bool → LogEvent
  -- the log was to be written through; it was, or need not have been
  Synced : Bool → LogEvent
  -- a new file of these bytes was to take the place of the file for good; it did, or need not have
  Placed : List ℕ → Bool → LogEvent

-- no call failed
abbrev pub all_done : List LogEvent → Bool
all_done [] = true
all_done (Wrote at bytes ok ∷ es) = ok && all_done es
all_done (Synced ok ∷ es) = ok && all_done es
all_done (Placed image ok ∷ es) = ok && all_done es

-- what reads return then; nothing more is asked after a call that failed
abbrev pub seen_after : LoggedFile → LogEvent → LoggedFile
seen_after seen (Wrote at bytes true) =
    record { base = seen.base; log = take at seen.log ++ bytes ++ drop (at + length bytes) seen.log }
seen_after seen (Wrote at bytes false) = seen
seen_after seen (Synced ok) = seen
seen_after seen (Placed image true) = record { base = image; log = seen.log }
seen_after seen (Placed image false) = seen

-- what a crash may leave then, or during the call
abbrev pub may_after : LoggedFile → (LoggedFile → Type 0) → LogEvent → LoggedFile → Type 0
may_after seen may (Wrote at bytes ok) = TornFrom at (length bytes) may
may_after seen may (Synced true) = λ c. may c × (c.log ≡ seen.log)
may_after seen may (Synced false) = may
may_after seen may (Placed image true) = λ c. ReplacedFrom image may c × (c.base ≡ image)
may_after seen may (Placed image false) = ReplacedFrom image may

-- what reads return after all calls
abbrev pub seen_in_the_end : LoggedFile → List LogEvent → LoggedFile
seen_in_the_end seen [] = seen
seen_in_the_end seen (e ∷ es) = seen_in_the_end (seen_after seen e) es

-- what a crash may leave after all calls, or during the last one
abbrev pub leaves : LoggedFile → (LoggedFile → Type 0) → List LogEvent → LoggedFile → Type 0
leaves seen may [] = may
leaves seen may (e ∷ es) = leaves (seen_after seen e) (may_after seen may e) es

-- what a crash may leave after these calls, if all was on the disk at first
abbrev pub leaves_after : LoggedFile → List LogEvent → LoggedFile → Type 0
leaves_after files es = leaves files (λ c. c ≡ files) es
