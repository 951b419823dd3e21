-- The segment is shorter, or is open for reading.
use Rattle.std.proofs.Common.{refl, sym}
use Rattle.std.proofs.lemmas.Result.{err_from_is_err_and}
use Rattle.segment_file.proofs.segment_files.SegmentFile.shrink.Goals as goal

pub returns-clause-shrinking : goal.returns-clause-shrinking
returns-clause-shrinking g c = let done = c.in_ok-shrink_to_fit.ensures
    in record { may = λ d h. sym (done.refused.refused d h); shrinks = done.shrinking }

pub returns-in_err-shrink_to_fit-clause-shrinking : goal.returns-in_err-shrink_to_fit-clause-shrinking
returns-in_err-shrink_to_fit-clause-shrinking g c =
    let p = err_from_is_err_and c.from_residual.result c.from_residual.ensures.1 in
    let why = c.in_err-shrink_to_fit.ensures in
    rw (p.1, p.2) (record {
      same = why.unchanged;
      reason = c.in_err-shrink_to_fit.field-0.0;
      applies = λ d h. sym (why.refused.refused d h);
      refused = refl;
    })
