use Rattle.std.proofs.Common.{map, take}
use Rattle.std.specs.Fn.{FnReturnsAt}
use Rattle.segment_commands.proofs.checking.Files.{Going}
use Rattle.segment_commands.proofs.checking.check_all.Given as goal

abbrev pub invariant-files : goal.invariant-files
invariant-files g l = record {
  going : Going g.D.Disk.step (FnReturnsAt g.F.Fn l.trouble_of) g.O.Sink.history g.O.Output.flushes l.initial.disk
      (g.E.Sink.history l.initial.err) l.initial.out l.request.is_quiet l.disk (g.E.Sink.history l.err) l.out l.said
      (map (λ f. f.now) (take l.file-index l.file-items)) l.worst;
}
