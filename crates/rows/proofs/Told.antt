-- What was written, whatever is told of it then.
use Rattle.std.proofs.Common.{List, ℕ, Ok, Err}
use Rattle.raw_region.specs.Device.{WriterHistory, Writes}

-- what was written, whatever the success says
pub writes_ok : {A B E : Type 0} {old new : WriterHistory} {a : A} {b : B} {text : List ℕ}
    → Writes {A = A} {E = E} old new (Ok a) text → Writes {A = B} {E = E} old new (Ok b) text
writes_ok w = record { ok = w.ok; err = tt; counted = w.counted }

-- what was written, whatever the error says
pub writes_err : {A B E : Type 0} {old new : WriterHistory} {e : E} {text : List ℕ}
    → Writes {A = A} {E = E} old new (Err e) text → Writes {A = B} {E = E} old new (Err e) text
writes_err w = record { ok = tt; err = w.err; counted = w.counted }
