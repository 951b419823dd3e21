-- The two lowest bytes are the key and the value.
use Rattle.std.proofs.Common.{sym, ◌∙◌}
use Rattle.seg_types.proofs.kinds.Codes.{map_part, map_without_key, map_without_value}
use Rattle.seg_types.proofs.kinds.map_of_code.Goals as goal

pub returns-in_err-key : goal.returns-in_err-key
returns-in_err-key c =
    c.from_residual.ensures
    ∙ sym (map_without_key c.args.code c.requires (sym c.from_code.ensures ∙ c.in_err-key.was))

pub returns-in_err-value : goal.returns-in_err-value
returns-in_err-value c =
    c.from_residual-in_err-value.ensures
    ∙ sym (map_without_value c.args.code c.requires (sym c.from_code-2.ensures ∙ c.in_err-value.was))

pub returns : goal.returns
returns c =
    sym (map_part c.args.code c.in_ok-key.key c.in_ok-value.value c.requires
    (sym c.from_code.ensures ∙ c.in_ok-key.was) (sym c.from_code-2.ensures ∙ c.in_ok-value.was))
