use Rattle.segment_report.proofs.picture.put_head.Goals as goal

pub returns : goal.returns
returns g c = c.put_parts.ensures
