use Rattle.std.proofs.Common.{take}
use Rattle.std.specs.Fmt.{HasWritten, IsPlainFormatter}
use Rattle.std.specs.List.{flat_map}
use Rattle.seg_types.specs.Texts.{item_text}
use Rattle.seg_types.proofs.key_texts.write_items.Given as goal

abbrev pub invariant-items : goal.invariant-items
invariant-items g l =
    IsPlainFormatter l.initial.f → HasWritten g.W.Write.write_str_gives l.initial.f
    (flat_map item_text (take l.byte-index l.text)) l.f
