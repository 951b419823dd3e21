use Rattle.image_check.proofs.Common.{ap, bytes_of, name_len_at, part, read-part, sym, ◌+◌, ◌∙◌}
use Rattle.image_check.proofs.image_window.objects.Object.name.Goals as goal

pub returns-clause-name : goal.returns-clause-name
returns-clause-name c =
    let b = c.args.window.now.bytes in
    c.bytes.ensures.bytes ∙ ap (part b (c.args.self.at + 16)) c.name_len.ensures.len
    ∙ sym (read-part b (c.args.self.at + 16) (name_len_at (bytes_of b) c.args.self.at) c.requires.in_bounds)
