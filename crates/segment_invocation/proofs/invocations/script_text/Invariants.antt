use Rattle.std.proofs.Common.{◌≡◌, take}
use Rattle.segment_invocation.specs.Invocations.{script_text}
use Rattle.segment_invocation.proofs.invocations.script_text.Given as goal

abbrev pub invariant-lines : goal.invariant-lines
invariant-lines l = record {
  taken : l.text.items ≡ script_text (take l.line-index l.lines);
}
