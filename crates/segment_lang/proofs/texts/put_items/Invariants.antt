use Rattle.std.proofs.Common.{◌≡◌, ◌++◌, take}
use Rattle.std.specs.List.{flat_map}
use Rattle.segment_lang.specs.Texts.{item_text}
use Rattle.segment_lang.proofs.texts.put_items.Given as goal

abbrev pub invariant-items : goal.invariant-items
invariant-items g l = record {
  taken : (g.S.Sink.history l.out).bytes ≡ (g.S.Sink.history l.initial.out).bytes ++ flat_map item_text
      (take l.byte-index l.text);
  failures : (g.S.Sink.history l.out).failures ≡ (g.S.Sink.history l.initial.out).failures;
}
