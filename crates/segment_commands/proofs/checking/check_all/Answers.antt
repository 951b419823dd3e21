-- One more file was checked: its lines went out, or the output failed.
use Rattle.std.proofs.Common.{ap, map, refl, Ok, ◌∙◌}
use Rattle.std.specs.Fn.{FnReturnsAt}
use Rattle.std.proofs.lemmas.List.{take_all}
use Rattle.std.proofs.lemmas.Result.{err_from_is_err_and}
use Rattle.segment_commands.specs.Checking.{worse}
use Rattle.segment_commands.proofs.checking.Files.{going_done, going_kept, going_lost, going_more, none_going}
use Rattle.segment_commands.proofs.checking.Files.{paths-more, paths-rest, unfit_heard}
use Rattle.segment_commands.proofs.checking.check_all.Goals as goal

pub returns-in_err-tell_fit : goal.returns-in_err-tell_fit
returns-in_err-tell_fit g c =
    let p = err_from_is_err_and c.from_residual.result c.from_residual.ensures.1 in
    let History = g.E.Sink.history in
    rw (p.1, p.2) (going_lost g.D.Disk.step (FnReturnsAt g.F.Fn c.args.trouble_of)
    g.O.Sink.history g.O.Output.flushes c.args.disk.now (History c.args.err.now)
    c.args.out.now c.args.request.now.is_quiet
    c.files.disk c.verify_segment-found.new.disk (History c.files.err) (History c.put_unfit-said.new.err)
    c.files.out c.tell_fit.new.out c.files.said c.put_unfit-said.result _ c.files.worst
    c.files.invariant.going _ c.verify_segment-found.result c.trouble_of.result c.verify_segment-found.ensures
    (record { shown = _; shows = refl; says = record { met = c.trouble_of.ensures } })
    (unfit_heard History c.files.said _ _ c.put_unfit-said.new.err c.files.err c.put_unfit-said.ensures)
    c.in_err-tell_fit.ensures
    (map (λ file. file.now) c.args.request.now.files.now) _
    (paths-rest (λ file. file.now) c.args.request.now.files.now c.files.file-index _ c.files-test.true))

pub files-init : goal.files-init
files-init g c = record {
  going = none_going g.D.Disk.step (FnReturnsAt g.F.Fn c.args.trouble_of)
      g.O.Sink.history g.O.Output.flushes c.args.disk.now (g.E.Sink.history c.args.err.now)
      c.args.out.now c.args.request.now.is_quiet (Ok tt) refl;
}

pub files-preserved : goal.files-preserved
files-preserved g c =
    let History = g.E.Sink.history in
    record {
      going = going_more g.D.Disk.step (FnReturnsAt g.F.Fn c.args.trouble_of)
          g.O.Sink.history g.O.Output.flushes c.args.disk.now (History c.args.err.now)
          c.args.out.now c.args.request.now.is_quiet
          c.files.disk c.verify_segment-found.new.disk (History c.files.err) (History c.put_unfit-said.new.err)
          c.files.out c.tell_fit.new.out c.files.said c.put_unfit-said.result _ c.files.worst
          c.files.invariant.going _ c.verify_segment-found.result c.trouble_of.result c.verify_segment-found.ensures
          (record { shown = _; shows = refl; says = record { met = c.trouble_of.ensures } })
          (unfit_heard History c.files.said _ _ c.put_unfit-said.new.err c.files.err c.put_unfit-said.ensures)
          c.in_ok-tell_fit.ensures _ c.max-worst.result
          (paths-more (λ file. file.now) c.args.request.now.files.now c.files.file-index _ c.files-test.true)
          (c.max-worst.ensures ∙ ap (worse c.files.worst) c.status_in.ensures);
    }

pub returns : goal.returns
returns g c =
    let asked = c.args.request.now in let files = asked.files.now in
    going_done g.D.Disk.step (FnReturnsAt g.F.Fn c.args.trouble_of)
    g.O.Sink.history g.O.Output.flushes c.args.disk.now
    (g.E.Sink.history c.args.err.now) c.args.out.now asked.is_quiet c.files.disk (g.E.Sink.history c.files.err)
    c.files.out c.flush.new.self c.files.said (map (λ file. file.now) files) c.files.worst
    (let all = take_all c.files.file-index files c.files-test.false in rw all at c.files.invariant.going)
    c.in_ok-flush.ensures.unchanged c.in_ok-flush.ensures.flush

pub returns-in_err-flush : goal.returns-in_err-flush
returns-in_err-flush g c =
    let from = c.from_residual-in_err-flush in let p = err_from_is_err_and from.result from.ensures.1 in
    let asked = c.args.request.now in let files = asked.files.now in
    rw (p.1, p.2) (going_kept g.D.Disk.step (FnReturnsAt g.F.Fn c.args.trouble_of)
    g.O.Sink.history g.O.Output.flushes c.args.disk.now
    (g.E.Sink.history c.args.err.now) c.args.out.now asked.is_quiet c.files.disk (g.E.Sink.history c.files.err)
    c.files.out c.flush.new.self c.files.said (map (λ file. file.now) files) c.files.worst
    (let all = take_all c.files.file-index files c.files-test.false in rw all at c.files.invariant.going)
    c.in_err-flush.ensures.unchanged c.in_err-flush.ensures.flush)
