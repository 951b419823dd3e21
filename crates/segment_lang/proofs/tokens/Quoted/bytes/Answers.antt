use Rattle.std.proofs.Common.{◌∙◌, sym}
use Rattle.std.proofs.lemmas.List.{take_all}
use Rattle.segment_lang.proofs.texts.Items.{spelled_plain}
use Rattle.segment_lang.proofs.tokens.Quoted.bytes.Goals as goal

pub returns-in-Some : goal.returns-in-Some
returns-in-Some c = c.decoded.ensures ∙ take_all 4096 c.args.self.now c.requires

pub returns-in-None : goal.returns-in-None
returns-in-None c = sym (spelled_plain _ c.in-None.ensures.value) ∙ c.self.view_is
