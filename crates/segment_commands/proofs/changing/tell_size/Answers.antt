use Rattle.segment_commands.proofs.changing.tell_size.Goals as goal

pub returns : goal.returns
returns g c = record { size = c.size.result; reply = c.size.ensures; tells = c.tell_number.ensures }
