use Rattle.image_check.proofs.reading.Formats.{version-part}
use Rattle.image_check.proofs.image_window.ImageWindow.version.Goals as goal

pub returns : goal.returns
returns c =
    version-part c.args.self.now.bytes c.bytes.result.now c.version_in.result c.version_in.ensures c.bytes.ensures.bytes
    c.bytes.ensures.len
