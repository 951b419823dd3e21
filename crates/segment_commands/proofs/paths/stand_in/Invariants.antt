use Rattle.std.proofs.Common.{◌≡◌, ◌++◌, ◌∷◌, [], take}
use Rattle.std.specs.Prelude.{string_bytes}
use Rattle.std.specs.List.{flat_map}
use Rattle.segment_lang.specs.Texts.{item_text}
use Rattle.segment_commands.proofs.paths.stand_in.Given as goal

abbrev pub invariant-bytes : goal.invariant-bytes
invariant-bytes l = record {
  taken : string_bytes l.token ≡ (0 ∷ 0x22 ∷ []) ++ flat_map item_text (take l.byte-index l.path);
}
