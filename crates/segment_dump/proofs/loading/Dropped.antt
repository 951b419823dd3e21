-- A region is dropped only after the first three lines of a dump were read.
use Rattle.std.specs.Prelude.{IfErr, OnOk}
use Rattle.segment_dump.proofs.Common.{◌≡◌, List, ℕ, Result, Ok, Err, DumpPrefix, subst}
use Rattle.segment_dump.specs.Lines.{BeginsWithPrefix}

-- what holds of every error holds if there is one
pub on-err : {A E : Type 0} {P : E → Type 0} (r : Result A E) → ((e : E) → P e) → IfErr r P
on-err (Ok x) h = tt
on-err (Err e) h = h e

-- what follows from another fact of a success holds of it
pub on-end : {A E P Q : Type 0} (r : Result A E) → OnOk r P → (P → Q) → OnOk r Q
on-end (Ok x) p f = f p
on-end (Err e) p f = tt

-- the first lines were read, so the text begins as a dump does
pub begins : {E : Type 0} (text lines : List ℕ) (r : Result DumpPrefix E) (prefix : DumpPrefix)
    → OnOk r (BeginsWithPrefix lines) → r ≡ Ok prefix → lines ≡ text → BeginsWithPrefix text
begins text lines r prefix h e s = subst BeginsWithPrefix s (subst (λ q. OnOk q (BeginsWithPrefix lines)) e h)
