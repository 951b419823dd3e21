use Rattle.std.proofs.Common.{◌≡◌, inl, inr, Ok, Err, refl, subst}
use Rattle.std.proofs.lemmas.Result.{err_from_is_err_and}
use Rattle.image_check.specs.declared.errors.OpenError.TheVariants.{Image}
use Rattle.segment_cli.specs.declared.faults.SessionFault.TheVariants.{WriteFault}
use Rattle.segment_file.specs.declared.file_errors.FileError.{FileError}
use Rattle.segment_file.specs.declared.file_errors.FileError.TheVariants.{Open}
use Rattle.segment_file.specs.SegmentFiles.{ChecksFile}
use Rattle.segment_commands.specs.declared.command_faults.CommandFault.TheVariants.{Session}
use Rattle.segment_commands.proofs.explaining.explain.Goals as goal

pub returns-in_ok-tell_verdict-in-Err-Open-Image : goal.returns-in_ok-tell_verdict-in-Err-Open-Image
returns-in_ok-tell_verdict-in-Err-Open-Image g c =
    let arm = c.in-Err-Open-Image in
    let is : arm.field-0 ≡ Open (Image arm.verdict) = cc in
    inr (inl (record {
      verdict = arm.verdict;
      why = subst (λ (u : FileError). ChecksFile g.D.Disk.step c.args.disk.now c.check.new.disk c.args.path.now (Err u))
          is arm.ensures;
      said = Ok tt;
      tells = c.in_ok-tell_verdict-in-Err-Open-Image.ensures;
      answer = refl;
    }))

pub returns-in_err-tell_verdict-in-Err-Open-Image : goal.returns-in_err-tell_verdict-in-Err-Open-Image
returns-in_err-tell_verdict-in-Err-Open-Image g c =
    let arm = c.in-Err-Open-Image in
    let is : arm.field-0 ≡ Open (Image arm.verdict) = cc in
    let from = c.from_residual-in_err-tell_verdict-in-Err-Open-Image in
    let p = err_from_is_err_and from.result from.ensures.1 in
    rw (p.1, p.2) (inr (inl (record {
      verdict = arm.verdict;
      why = subst (λ (u : FileError). ChecksFile g.D.Disk.step c.args.disk.now c.check.new.disk c.args.path.now (Err u))
          is arm.ensures;
      said = Err (Session WriteFault);
      tells = c.in_err-tell_verdict-in-Err-Open-Image.ensures;
      answer = refl;
    })))
