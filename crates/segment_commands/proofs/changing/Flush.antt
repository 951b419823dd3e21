-- What was written went out, or not, by what a flush answers.
use Rattle.std.proofs.Common.{◌≡◌, ℕ, Bool, true, false, inr, List, Result, Ok, Err, is_ok, ◌∙◌, ap, arith}
use Rattle.raw_region.specs.Device.{WriterHistory, Writes}
use Rattle.segment_commands.specs.Telling.{FlushesText, WritesAndFlushes}

module _ {A E O : Type 0} (history : O → WriterHistory) (flushes : O → Bool → O
    → Type 0) (old mid new : O) (text : List ℕ) (a : A)
    (writes : Writes {A = A} {E = E} (history old) (history mid) (Ok a) text)
    (same : history new ≡ history mid) where
  all_taken : (ok : Bool) → flushes mid ok new → FlushesText history flushes old new text ok
  all_taken ok flush = record {
    bytes = ap (λ (t : WriterHistory). t.bytes) same ∙ writes.ok;
    failures = (let counted = writes.counted in let failures = ap (λ (t : WriterHistory). t.failures) same
        in omega (arith, counted, failures));
    flushed = record { before = mid; flush = flush; same = same };
  }

  -- what was written and flushed went out
  pub went_out : {F : Type 0} (flushed : Result (Unit {0}) F) → flushes mid (is_ok flushed) new
      → WritesAndFlushes history flushes old new text flushed
  went_out (Ok u) flush = all_taken true flush
  went_out (Err e) flush = inr (all_taken false flush)
