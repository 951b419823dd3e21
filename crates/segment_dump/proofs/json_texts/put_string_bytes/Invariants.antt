use Rattle.segment_dump.proofs.Common.{◌≡◌, ◌++◌, take, flat_map}
use Rattle.segment_dump.specs.Json.{string_byte}
use Rattle.segment_dump.proofs.json_texts.put_string_bytes.Given as goal

abbrev pub invariant-bytes : goal.invariant-bytes
invariant-bytes g l = record {
  taken : (g.W.Sink.history l.out).bytes ≡ (g.W.Sink.history l.initial.out).bytes ++ flat_map string_byte
      (take l.byte-index l.text);
  failures : (g.W.Sink.history l.out).failures ≡ (g.W.Sink.history l.initial.out).failures;
}
