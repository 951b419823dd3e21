use Rattle.segment_dump.proofs.Common.{◌≡◌, Some, None, if◌then◌else◌, sym, subst, option_map, current, name_seen}
use Rattle.segment_dump.proofs.Common.{is_name, bytes_said}
use Rattle.segment_dump.proofs.building.name_of.Goals as goal

pub returns-in-Bare : goal.returns-in-Bare
unfolding current
returns-in-Bare c = subst (λ w. option_map name_seen c.new.result
    ≡ (if is_name current (bytes_said w) then Some (bytes_said w) else None)) (sym c.in-Bare.is) c.new.ensures
