use Rattle.std.proofs.Common.{◌≡◌, ◌++◌, take}
use Rattle.std.specs.List.{flat_map}
use Rattle.segment_commands.specs.Salvaging.{loss_line}
use Rattle.segment_commands.proofs.salvaging.put_losses.Given as goal

abbrev pub invariant-losses : goal.invariant-losses
invariant-losses g l = record {
  taken : (g.S.Sink.history l.err).bytes ≡ (g.S.Sink.history l.initial.err).bytes
      ++ flat_map (loss_line l.image) (take l.loss-index l.losses);
  failures : (g.S.Sink.history l.err).failures ≡ (g.S.Sink.history l.initial.err).failures;
}
