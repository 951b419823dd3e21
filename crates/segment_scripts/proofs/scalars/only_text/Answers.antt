use Rattle.std.proofs.Common.{ap, ◌∙◌, ◌∷◌}
use Rattle.segment_lang.specs.Seen.{literal_of}
use Rattle.segment_scripts.proofs.values.ScalarBuffers.{next-literal, text-fits}
use Rattle.segment_scripts.proofs.scalars.only_text.Goals as goal

pub bytes-requires : goal.bytes-requires
bytes-requires c =
    text-fits c.args.literals c.next.new.self c.in-Some-Quoted.text
    (next-literal c.args.literals c.next.new.self c.in-Some-Quoted.field-0 c.in-Some-Quoted.ensures.steps
    ∙ ap (λ l. literal_of l ∷ c.next.new.self) c.in-Some-Quoted.field-0-is) c.requires
