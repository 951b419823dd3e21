-- Lines that are too long.
use Rattle.std.proofs.Common.{◌≡◌, ℕ, ◌-◌, ◌≤◌, ◌<◌, Bool, true, false, cond, List, length, take, arith, sym, refl, ap}
use Rattle.std.proofs.Common.{◌∙◌, ◌⊎◌, inl, inr}
use Rattle.std.proofs.lemmas.List.{length-take, take_all}
use Rattle.std.proofs.lemmas.Bool.{lt-ltb}
use Rattle.seg_types.specs.Commands.{LineTooLong}
use Rattle.segment_lang.specs.Language.{Language}
use Rattle.segment_lang.specs.Reading.{reading, without_return}
use Rattle.segment_lang.specs.Laws.{LongLinesAreCut}

one_less : (b : Bool) (line : List ℕ) → 4098 ≤ length line → 4096 < length (cond b (take (length line - 1) line) line)
one_less true line h = omega (arith, length-take (length line - 1) line)
one_less false line h = omega arith

too_long : (l : Language) (line : List ℕ) → 4098 ≤ length line → reading l line ≡ LineTooLong
unfolding reading
too_long l line h = rw (lt-ltb 4096 (length (without_return line)) (one_less _ line h)) refl

long_or_whole : (l : Language) (line : List ℕ) → (length line ≤ 4098) ⊎ (4098 < length line)
    → reading l (take 4098 line) ≡ reading l line
long_or_whole l line (inl h) = ap (reading l) (take_all 4098 line h)
long_or_whole l line (inr h) =
    let n : 4098 ≤ length (take 4098 line) = omega (arith, length-take 4098 line) in
    too_long l (take 4098 line) n ∙ sym (too_long l line (omega arith))

-- law: long lines are cut
pub long_lines_are_cut : LongLinesAreCut
long_lines_are_cut l line = long_or_whole l line (grind arith)
