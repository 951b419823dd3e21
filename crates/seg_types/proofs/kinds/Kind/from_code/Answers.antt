-- The part from 65536 on is the container, and the rest the element.
use Rattle.std.proofs.Common.{ap, sym, ◌∙◌}
use Rattle.std.specs.Prelude.{option_map}
use Rattle.seg_types.specs.declared.kinds.Kind.TheVariants.{Scalar, Vector}
use Rattle.seg_types.proofs.kinds.Codes.{scalar_part, vector_part}
use Rattle.seg_types.proofs.kinds.Kind.from_code.Goals as goal

pub returns-in_err-from_code-in-0 : goal.returns-in_err-from_code-in-0
returns-in_err-from_code-in-0 c =
    c.from_residual.ensures
    ∙ sym (scalar_part c.args.code c.in-0.is
    ∙ ap (option_map Scalar) (sym c.from_code.ensures ∙ c.in_err-from_code-in-0.was))

pub returns-in_err-from_code-in-2 : goal.returns-in_err-from_code-in-2
returns-in_err-from_code-in-2 c =
    c.from_residual-in_err-from_code-in-2.ensures
    ∙ sym (vector_part c.args.code c.in-2.is
    ∙ ap (option_map Vector) (sym c.from_code-in-2.ensures ∙ c.in_err-from_code-in-2.was))

pub returns-in_ok-from_code-in-0 : goal.returns-in_ok-from_code-in-0
returns-in_ok-from_code-in-0 c =
    sym (scalar_part c.args.code c.in-0.is
    ∙ ap (option_map Scalar) (sym c.from_code.ensures ∙ c.in_ok-from_code-in-0.was))

pub returns-in_ok-from_code-in-2 : goal.returns-in_ok-from_code-in-2
returns-in_ok-from_code-in-2 c =
    sym (vector_part c.args.code c.in-2.is
    ∙ ap (option_map Vector) (sym c.from_code-in-2.ensures ∙ c.in_ok-from_code-in-2.was))
