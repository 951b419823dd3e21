-- Whether the gaps of a segment are known to be zero after the lines of a script.
use Rattle.std.specs.Prelude.{ℕ, Bool, true, false, not, ◌||◌, List, [], ◌∷◌, if◌then◌else◌, is_some, nat_le, Result}
use Rattle.std.specs.Prelude.{Ok, Err}
use Rattle.seg_types.specs.Commands as asked
use Rattle.seg_types.specs.declared.refusals.Refusal.{Refusal}
use Rattle.seg_types.specs.Commands.{Command, ZeroFree, Reading, Nothing, Asked, UnknownCommand, LineTooLong, BadSyntax}
use Rattle.seg_types.specs.Commands.{is_changing}
use Rattle.segment_lang.specs.Language.{Language}
use Rattle.segment_lang.specs.Reading.{reading}
use Rattle.segment_manager.specs.declared.modes.Mode.{Mode}
use Rattle.segment_manager.specs.containers.Contents.{sizes_at}
use Rattle.segment_manager.specs.Directory.{Directory, object_at}
use Rattle.segment_manager.specs.Answers.{is_untouched}
use Rattle.segment_manager.specs.Step.{step}
use Rattle.segment_scripts.specs.Run.{lines, respond}

abbrev pub is_zero_free : Command → Bool
is_zero_free ZeroFree = true
is_zero_free c = false

-- whether a container has this many places
abbrev pub has_capacity : Result (ℕ × ℕ) Refusal → ℕ → Bool
has_capacity (Ok (len, capacity)) n = nat_le n capacity
has_capacity (Err why) n = false

-- a command that may change a segment finds that there is nothing to do
abbrev pub has_nothing_to_do : Directory → Command → Bool
has_nothing_to_do d (asked.Destroy key) = not (is_some (object_at d key))
has_nothing_to_do d (asked.FindOrConstruct key content) = is_some (object_at d key)
has_nothing_to_do d (asked.Reserve key n) = has_capacity (sizes_at d key) n
has_nothing_to_do d (asked.ReserveNamed n) = nat_le n d.named.capacity
has_nothing_to_do d (asked.ReserveUnique n) = nat_le n d.unique.capacity
has_nothing_to_do d c = false

-- no byte changes: so it is, or the command is refused before it asks for a block
abbrev pub changes_nothing : Mode → Directory → Command → Bool
changes_nothing mode d c = is_untouched (step mode d c).0 || has_nothing_to_do d c

-- the line changes nothing: it is no command, it only reads, or its command changes nothing
abbrev pub is_idle : Mode → Directory → Reading → Bool
is_idle mode d (Asked c) = not (is_changing c) || changes_nothing mode d c
is_idle mode d Nothing = true
is_idle mode d UnknownCommand = true
is_idle mode d LineTooLong = true
is_idle mode d BadSyntax = true

-- the gaps are known to be zero after a line: `zero_free` makes them so, what changes nothing keeps it, all else loses
-- it
abbrev pub zeros_after : Mode → Directory → Reading → Bool → Bool
zeros_after mode d (Asked c) known =
    if changes_nothing mode d c then known else if is_changing c then is_zero_free c else known
zeros_after mode d Nothing known = known
zeros_after mode d UnknownCommand known = known
zeros_after mode d LineTooLong known = known
zeros_after mode d BadSyntax known = known

abbrev pub zeros_after_lines : Language → Mode → Directory → List (List ℕ) → Bool → Bool
zeros_after_lines language mode d [] known = known
zeros_after_lines language mode d (l ∷ ls) known =
    let asked = reading language l in
    zeros_after_lines language mode (respond mode d asked).1 ls (zeros_after mode d asked known)

-- whether gaps are known to be zero after a script, from whether they were known to be before
unfoldable pub zeros_after_run : Language → Mode → Directory → List ℕ → Bool → Bool
unfolding step reading
zeros_after_run language mode d script known = zeros_after_lines language mode d (lines script) known
