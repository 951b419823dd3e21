use Rattle.std.proofs.Common.{◌∙◌, sym}
use Rattle.segment_lang.proofs.texts.Items.{spelled_plain}
use Rattle.segment_lang.proofs.tokens.QuotedNames.{named_bytes, named_cut}
use Rattle.segment_lang.proofs.tokens.Quoted.to_name.Goals as goal

pub returns-in-Some : goal.returns-in-Some
returns-in-Some c = named_cut _ c.args.self.now _ c.new.ensures c.decoded.ensures

pub returns-in-None : goal.returns-in-None
returns-in-None c = named_bytes _ c.args.self.now _ c.new-in-None.ensures
    (sym (spelled_plain _ c.in-None.ensures.value) ∙ c.self.view_is)
