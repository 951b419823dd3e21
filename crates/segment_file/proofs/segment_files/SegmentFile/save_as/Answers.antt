use Rattle.std.proofs.Common.{inr, refl, rules}
use Rattle.std.proofs.lemmas.Result.{err_from_is_err_and}
use Rattle.segment_file.proofs.segment_files.SegmentFile.save_as.Goals as goal

pub returns-in_err-write_new : goal.returns-in_err-write_new
returns-in_err-write_new g c =
    let p = err_from_is_err_and c.from_residual.result c.from_residual.ensures.1 in
    let w = c.in_err-write_new.ensures in
    rw (p.1, p.2) (inr (record {
      found = c.path_status.result;
      is = search rules;
      looked = c.path_status.new.self;
      asked = c.path_status.ensures;
      goes = record {
        writes = record { written = w.written; asked = w.asked; fate = w.fate; accepted = w.accepted };
        refused = refl;
      };
    }))
