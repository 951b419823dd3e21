use Rattle.segment_commands.proofs.reports.put_bad_dump.Goals as goal

pub returns : goal.returns
returns g c = let message = c.dump_message.ensures in rw message at c.put_pieces.ensures
