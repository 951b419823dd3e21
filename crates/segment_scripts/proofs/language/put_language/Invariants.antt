use Rattle.std.proofs.Common.{◌≡◌, ◌++◌, take}
use Rattle.std.specs.List.{flat_map}
use Rattle.segment_scripts.specs.CommandRows.{row_text}
use Rattle.segment_scripts.proofs.language.put_language.Given as goal

abbrev pub invariant-rows : goal.invariant-rows
invariant-rows g l = record {
  taken : (g.W.Sink.history l.out).bytes ≡ (g.W.Sink.history l.initial.out).bytes
      ++ flat_map row_text (take l.row-index l.rows);
  failures : (g.W.Sink.history l.out).failures ≡ (g.W.Sink.history l.initial.out).failures;
}
