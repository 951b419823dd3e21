-- What a crash leaves at each point of a list of calls.
use Rattle.std.proofs.Common.{ℕ, zero, suc, List, [], ◌∷◌, take}
use Rattle.segment_log.specs.Crashes.{LoggedFile}
use Rattle.segment_log.specs.Events.{LogEvent, seen_after, may_after, leaves}

-- each crash has the property, at each moment of the calls
abbrev pub Always : (LoggedFile → Type 0) → LoggedFile → (LoggedFile → Type 0) → List LogEvent → Type 0
Always P seen may [] = (c : LoggedFile) → may c → P c
Always P seen may (e ∷ es) = ((c : LoggedFile) → may c → P c) × Always P (seen_after seen e) (may_after seen may e) es

here : (P : LoggedFile → Type 0) (seen : LoggedFile) (may : LoggedFile → Type 0) (es : List LogEvent)
    → Always P seen may es → (c : LoggedFile) → may c → P c
here P seen may [] all = all
here P seen may (e ∷ es) all = all.0

-- what always holds, holds after each number of calls
pub at_each : (P : LoggedFile → Type 0) (seen : LoggedFile) (may : LoggedFile → Type 0) (es : List LogEvent)
    → Always P seen may es → (k : ℕ) (c : LoggedFile) → leaves seen may (take k es) c → P c
at_each P seen may es all zero c left = here P seen may es all c left
at_each P seen may [] all (suc k) c left = all c left
at_each P seen may (e ∷ es) all (suc k) c left = at_each P (seen_after seen e) (may_after seen may e) es all.1 k c left
