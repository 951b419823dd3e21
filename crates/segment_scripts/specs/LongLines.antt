-- The law that a segment owes as a machine: of a long line the first 4098 bytes decide.
use Rattle.std.specs.Prelude.{nat_lt}
use Rattle.std.proofs.Common.{◌≡◌, ◌==◌, ℕ, ◌-◌, ◌<◌, Bool, false, true, cond, List, length, take, refl, sym, ap, ◌∙◌}
use Rattle.std.proofs.Common.{arith, slice_index}
use Rattle.std.proofs.lemmas.List.{length-take-le}
use Rattle.std.proofs.lemmas.Bool.{lt-ltb}
use Rattle.seg_types.specs.Commands.{Reading, LineTooLong}
use Rattle.raw_region.specs.Format.{current}
use Rattle.segment_lang.specs.Language.{Language, whole_language}
use Rattle.segment_lang.specs.Reading.{reading, without_return}
use Rattle.segment_scripts.specs.Refusing.{refuses}
use Rattle.segment_scripts.specs.Run.{respond}
use Rattle.segment_scripts.specs.Segments.{MachineState, state_after, answer_line, refuses_line}

returned-long : (line : List ℕ) (b : Bool) → 4097 < length line
    → 4096 < length (cond b (take (length line - 1) line) line)
returned-long line true h = let long = length-take-le (length line - 1) line (omega arith) in omega arith
returned-long line false h = omega arith

pub too_long : (language : Language) (line : List ℕ) → 4097 < length line → reading language line ≡ LineTooLong
unfolding reading
too_long language line h =
    let long : nat_lt 4096 (length (without_return line)) ≡ true =
    lt-ltb 4096 (length (without_return line)) (returned-long line (slice_index line (length line - 1) == 0x0D) h) in
    rw long refl

reading-long : (language : Language) (line : List ℕ) → 4097 < length line
    → reading language line ≡ reading language (take 4098 line)
reading-long language line h =
    let long = length-take-le 4098 line (omega arith) in
    too_long language line h ∙ sym (too_long language (take 4098 line) (omega arith))

pub answer_line-long : (at : MachineState) (line : List ℕ) → 4097 < length line
    → answer_line at line ≡ answer_line at (take 4098 line)
answer_line-long at line h = ap (λ (r : Reading).
    ((respond at.mode at.directory r).0, state_after at r)) (reading-long (whole_language current) line h)

pub refuses_line-long : (at : MachineState) (line : List ℕ) → 4097 < length line
    → refuses_line at line ≡ refuses_line at (take 4098 line)
refuses_line-long at line h = ap (refuses at.mode at.directory) (reading-long (whole_language current) line h)
