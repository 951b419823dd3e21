use Rattle.std.proofs.Common.{◌∙◌, ap, cond, Some, None}
use Rattle.std.specs.Option.{option_map}
use Rattle.segment_lang.specs.Seen.{operation_of}
use Rattle.segment_lang.proofs.tokens.Readers.{then_made}
use Rattle.segment_lang.proofs.readers.read_alone.Goals as goal

pub returns : goal.returns
returns c = ap (option_map operation_of) c.then_some.ensures ∙ then_made operation_of c.at_end.result c.args.operation
    ∙ ap (λ end. cond end (Some (operation_of c.args.operation)) None) c.at_end.ensures
