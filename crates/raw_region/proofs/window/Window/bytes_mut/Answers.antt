use Rattle.std.proofs.Common.{refl, ◌∙◌}
use Rattle.raw_region.proofs.words.Windows.{reads, lends}
use Rattle.raw_region.proofs.window.Window.bytes_mut.Goals as goal

pub returns : goal.returns
returns c =
    let i = c.self.inside in let w = c.args.self.now in
    let same = reads i.memory i.base i.size w c.self.view_is c.self.invariant c.args.from c.args.len c.requires in (
      (refl, lends i.memory i.base i.size w c.self.view_is c.self.invariant c.args.from c.args.len c.requires),
      record { writes_back = tt; bytes = c.bytes_mut.ensures.bytes ∙ same; len = c.bytes_mut.ensures.len },
    )
