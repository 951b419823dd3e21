use Rattle.std.proofs.Common.{◌≡◌, ◌++◌, take}
use Rattle.std.specs.List.{flat_map}
use Rattle.segment_lang.specs.Pieces.{part_text}
use Rattle.segment_lang.proofs.texts.put_parts.Given as goal

abbrev pub invariant-parts : goal.invariant-parts
invariant-parts g l = record {
  taken : (g.S.Sink.history l.out).bytes ≡ (g.S.Sink.history l.initial.out).bytes ++ flat_map part_text
      (take l.part-index l.parts);
  failures : (g.S.Sink.history l.out).failures ≡ (g.S.Sink.history l.initial.out).failures;
}
