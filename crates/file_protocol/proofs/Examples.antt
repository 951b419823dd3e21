-- A schedule, computed: FILE is created, 7 is committed and read, and the power fails in the commit of 8. So the
-- theorems are
-- not empty.
use Rattle.std.proofs.Common.{◌≡◌, ℕ, ◌==◌, true, false, List, [], ◌∷◌, Option, None, Some, refl}
use Rattle.file_protocol.specs.Worlds.{World, WorldEvent, Steps, Asks, Begins, ReaderBegins, ReaderSteps, PowerFails}
use Rattle.file_protocol.specs.Worlds.{run, start, found}
use Rattle.file_protocol.specs.Worlds.{Works, FailsDone}
use Rattle.file_protocol.specs.declared.reader.FileReader.TheVariants.{Returned}
use Rattle.file_protocol.specs.declared.session.Session.TheVariants.{Ready, Unsure, Ended, Bare}
use Rattle.file_protocol.specs.declared.calls.SessionRequest.TheVariants.{Begin, Commit}

-- the next call of session 0 works; a file or log that it makes gets the number n, and a file of a new segment the
-- image n
abbrev call : ℕ → WorldEvent
call n = Steps 0 n n Works

-- before the schedule: a number is the file of the image with this number, and 9 is a log
abbrev first : World
first = start None (λ n. n) (λ n. n == 9) (λ l. [])

abbrev created : List WorldEvent
created = Begins 0 ∷ call 0 ∷ call 0 ∷ call 5 ∷ call 0 ∷ call 0 ∷ call 0 ∷ []

pub is_created : (run created first).sessions 0 ≡ Bare 5 true
is_created = refl

abbrev committed : List WorldEvent
committed =
    Asks 0 Begin ∷ call 9 ∷ call 0 ∷ Asks 0 (Commit 7) ∷ call 0 ∷ call 0 ∷ call 0 ∷ call 0 ∷ call 0 ∷ call 0
    ∷ ReaderBegins 3 ∷ ReaderSteps 3 true ∷ ReaderSteps 3 true ∷ ReaderSteps 3 true ∷ ReaderSteps 3 true ∷ []

abbrev second : World
second = run committed (run created first)

pub is_ready : second.sessions 0 ≡ Ready 5 9 true
is_ready = refl

pub promised : second.shared.disk.promised ≡ Some 7
promised = refl

pub returned : second.readers 3 ≡ Returned 7
returned = refl

-- the call that opens the gate of the next commit fails, and was done
abbrev unsure : World
unsure = run (Asks 0 (Commit 8) ∷ call 0 ∷ call 0 ∷ call 0 ∷ call 0 ∷ Steps 0 0 0 FailsDone ∷ []) second

pub is_unsure : unsure.sessions 0 ≡ Unsure 5 9
is_unsure = refl

-- a power cut leaves the record, or not
pub found_new : found (run (PowerFails 0 0 (λ l. 0) ∷ []) unsure).shared.disk ≡ Some 8
found_new = refl

pub found_old : found (run (PowerFails 0 0 (λ l. 1) ∷ []) unsure).shared.disk ≡ Some 7
found_old = refl

-- beside a log with records that was left nothing is created
abbrev beside_a_log : World
beside_a_log = run (Begins 0 ∷ call 0 ∷ call 0 ∷ []) (start (Some 9) (λ n. n) (λ n. n == 9) (λ l. 7 ∷ 4 ∷ []))

pub is_refused : beside_a_log.sessions 0 ≡ Ended
is_refused = refl
