use Rattle.image_check.proofs.Common.{bytes_of, length, sym, ◌∙◌}
use Rattle.image_check.proofs.objects.HeadBytes.{named-right}
use Rattle.image_check.proofs.heads.has_name.Goals as goal

pub returns-then-name-le-MAX_NAME_LEN : goal.returns-then-name-le-MAX_NAME_LEN
returns-then-name-le-MAX_NAME_LEN c =
    c.is_name.ensures
    ∙ named-right c.args.format (bytes_of c.args.window.now.bytes) c.args.object.at (length c.name-name.result.now)
    c.name-name.result.now (sym c.class-class.ensures ∙ c.if-class-eq-NAMED.true)
    c.name-name.ensures.len c.if-name-le-MAX_NAME_LEN.true c.name-name.ensures.name
