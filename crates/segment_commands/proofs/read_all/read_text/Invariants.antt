use Rattle.std.proofs.Common.{◌≡◌, ◌≤◌, ◌++◌, length}
use Rattle.segment_commands.specs.Loading.{dump_limit}
use Rattle.segment_commands.proofs.read_all.read_text.Given as goal

abbrev pub invariant-pieces : goal.invariant-pieces
invariant-pieces g l = record {
  gave : (g.S.Source.history l.reader).bytes ≡ (g.S.Source.history l.initial.reader).bytes ++ l.text.items;
  ends : (g.S.Source.history l.reader).ends ≡ (g.S.Source.history l.initial.reader).ends;
  failures : (g.S.Source.history l.reader).failures ≡ (g.S.Source.history l.initial.reader).failures;
  some : l.counter ≤ length l.text.items;
  within : length l.text.items ≤ dump_limit;
}
