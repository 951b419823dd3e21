-- The object's kind determines the kind of its map keys.
use Rattle.segment_manager.proofs.CommandLaws.{lookup-no_map, lookup-no_value, lookup-nowhere, looks-up-key}
use Rattle.segment_values.proofs.Exits.{exit-is}
use Rattle.segment_values.proofs.pairs.look_up.Goals as goal

pub returns-in_err-object : goal.returns-in_err-object
returns-in_err-object g c = rw (exit-is c.from_residual.ensures.1) (lookup-nowhere _ c.in_err-object.ensures)

pub returns-in_err-wanted-in-Map : goal.returns-in_err-wanted-in-Map
returns-in_err-wanted-in-Map g c = rw (exit-is c.from_residual-in_err-wanted-in-Map.ensures.1)
    (lookup-no_value c.in_ok-object.ensures c.in-Map.is _ c.in_err-wanted-in-Map.ensures)

pub returns-in_ok-wanted-in-Map : goal.returns-in_ok-wanted-in-Map
returns-in_ok-wanted-in-Map g c =
    looks-up-key c.in_ok-object.ensures c.in-Map.is _ c.in_ok-wanted-in-Map.wanted c.in_ok-wanted-in-Map.ensures
    c.look_up_scalar.ensures

pub returns-in_default : goal.returns-in_default
returns-in_default g c = lookup-no_map c.in_ok-object.ensures c.in_default.not-Map _
