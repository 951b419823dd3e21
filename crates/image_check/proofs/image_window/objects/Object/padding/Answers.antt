use Rattle.image_check.proofs.objects.HeadBytes.{padding-read}
use Rattle.image_check.proofs.image_window.objects.Object.padding.Goals as goal

pub returns : goal.returns
returns c = padding-read c.args.window.now.bytes c.args.self.at c.name_len-len.result c.bytes.result.now
    c.name_len-len.ensures.len c.requires.in_bounds c.bytes.ensures.bytes
