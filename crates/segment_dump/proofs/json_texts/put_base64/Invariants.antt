use Rattle.segment_dump.proofs.json_texts.put_base64.Given as goal
use Rattle.segment_dump.proofs.{Common.length, texts.Base64.IsLeft}

abbrev pub invariant-groups : goal.invariant-groups
invariant-groups g l = IsLeft (g.W.Sink.history l.initial.out) (g.W.Sink.history l.out) l.bytes l.rest

abbrev pub decreases-groups : goal.decreases-groups
decreases-groups g l = length l.rest
