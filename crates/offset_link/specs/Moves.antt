-- The distance and the direction in which links move.
use Rattle.std.specs.Prelude.{ℕ, ◌+◌, ◌-◌, ◌*◌, ◌≤◌}
use Rattle.offset_link.specs.declared.moves.Distance.{Distance}
use Rattle.offset_link.specs.declared.moves.Distance.TheVariants.{Up, Down}

-- the new offset of links that move from an offset
abbrev pub moved_to : ℕ → Distance → ℕ
moved_to at (Up slots) = at + 8 * slots
moved_to at (Down slots) = at - 8 * slots

-- the links that move do not pass the start of the window
abbrev pub StaysInside : ℕ → Distance → Type 0
StaysInside at (Up slots) = Unit {0}
StaysInside at (Down slots) = 8 * slots ≤ at
