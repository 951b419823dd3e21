use Rattle.segment_dump.proofs.Common.{◌≡◌, ◌≤◌, ◌+◌, take, line_column_behind}
use Rattle.segment_dump.proofs.line_columns.line_column_at.Given as goal

abbrev pub invariant-bytes : goal.invariant-bytes
invariant-bytes l = record {
  place : (l.line, l.column) ≡ line_column_behind (take l.index l.text);
  line : l.line ≤ l.index + 1;
  column : l.column ≤ l.index + 1;
}
