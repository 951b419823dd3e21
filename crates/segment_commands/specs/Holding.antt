-- A command that writes a file takes the right to write it first, and is refused if another has it.
use Rattle.std.specs.Prelude.{◌≡◌, ◌⊎◌, ℕ, false, List, [], ◌∷◌, Result, Err}
use Rattle.segment_commands.specs.declared.command_faults.CommandFault.{CommandFault}
use Rattle.segment_commands.specs.declared.command_faults.CommandFault.TheVariants.{InUse}
use Rattle.segment_disk.specs.Events.{Event, Held, After}
use Rattle.segment_file.specs.Holding.{RunsLocked}

module _ {D : Type 0} (step : D → Event → D → Type 0) (old new : D) (path : List ℕ) where
  -- another has the lock: nothing else was asked of the disk, and nothing else was done
  pub record RefusesInUse (is_idle : Type 0) (result : Result (Unit {0}) CommandFault) : Type 0 where
    pub asked : After step old (Held path false ∷ []) new
    pub idle : is_idle
    pub refused : result ≡ Err InUse

  -- the right to write is taken first and given back last; or another has it, and nothing is done
  abbrev pub HoldsLock : Type 0 → (D → D → Type 0) → Result (Unit {0}) CommandFault → Type 0
  HoldsLock is_idle does result = RefusesInUse is_idle result ⊎ RunsLocked step old new path does
