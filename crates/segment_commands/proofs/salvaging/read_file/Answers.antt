-- The file was opened, read and closed.
use Rattle.segment_commands.proofs.salvaging.Ends.{read_opened}
use Rattle.segment_commands.proofs.salvaging.read_file.Goals as goal

pub returns : goal.returns
returns g c =
    let fresh = c.in-Ok.ensures.fresh in
    read_opened c.read_text-text.result (λ text. text.items) g.D.Disk.step c.args.disk.now c.«open».new.self
    c.close.new.self c.args.path.now _ _ c.in-Ok.ensures.request c.close.ensures
    (rw fresh at c.read_text-text.ensures.text)
