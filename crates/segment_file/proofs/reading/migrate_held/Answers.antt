use Rattle.std.proofs.Common.{inr, refl}
use Rattle.std.proofs.lemmas.Result.{err_from_is_err_and}
use Rattle.segment_file.proofs.reading.migrate_held.Goals as goal

pub returns-in_err-write_image : goal.returns-in_err-write_image
returns-in_err-write_image g c =
    let from = c.from_residual-in_err-write_image in let p = err_from_is_err_and from.result from.ensures.1 in
    let w = c.in_err-write_image.ensures in
    rw (p.1, p.2) (inr (record {
      segment = c.in_ok-segment.segment;
      read = c.open_file.new.disk;
      reads = c.in_ok-segment.ensures;
      writes = record { written = w.written; asked = w.asked; fate = w.fate; accepted = w.accepted };
      refused = refl;
    }))
