-- No two kinds have one code.
use Rattle.segment_manager.proofs.Common.{ap, ◌∙◌, Option, Kind, String, kind_of_code}
use Rattle.std.specs.Option.{unwrap_or}
use Rattle.segment_manager.proofs.objects.KindCodes.{code-read}
use Rattle.segment_manager.proofs.objects.head.kind_of_code.Goals as goal

pub returns : goal.returns
returns c = λ k e. c.unwrap_or.ensures
    ∙ ap (λ (o : Option Kind). unwrap_or o String) (c.from_code.ensures ∙ ap kind_of_code e ∙ code-read k)
