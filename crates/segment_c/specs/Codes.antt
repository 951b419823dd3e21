-- The codes that C is answered. Those of refusals are their numbers in the language.
use Rattle.std.specs.Prelude.{ℕ, Bool, ◌&&◌, ◌||◌, ◌==◌, nat_le, if◌then◌else◌}
use Rattle.seg_types.specs.declared.refusals.Refusal.TheVariants.{ReadOnly, Exists, NotFound, WrongKind, OutOfRange}
use Rattle.seg_types.specs.declared.refusals.Refusal.TheVariants.{NoSpace}
use Rattle.segment_manager.specs.Answers.{Answer, Absent, Refused}

-- what a code answers of a command that answers a if it is 0
abbrev pub answer_for : ℕ → Answer → Answer
answer_for code a =
    if code == 0 then a
    else if code == 4 then Refused ReadOnly
    else if code == 5 then Refused Exists
    else if code == 6 then Refused NotFound
    else if code == 7 then Refused WrongKind
    else if code == 8 then Refused OutOfRange
    else if code == 9 then Refused NoSpace
    else Absent

-- the code is one of those
abbrev pub is_answer : ℕ → Bool
is_answer code = code == 0 || (nat_le 4 code && nat_le code 10)
