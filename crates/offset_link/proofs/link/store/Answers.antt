use Rattle.std.proofs.Common.{ℕ, ap, ◌∙◌}
use Rattle.raw_region.specs.Memory.{WindowState, bytes_of, patched, word_bytes}
use Rattle.offset_link.specs.Link.{link_at}
use Rattle.offset_link.proofs.link.Targets.{link_own, distance}
use Rattle.offset_link.proofs.link.store.Goals as goal

pub returns-clause-link_target : goal.returns-clause-link_target
returns-clause-link_target c =
    let b = c.args.w.now.bytes in let at = c.args.at in let t = c.args.target in
    ap (λ (v : WindowState). link_at (bytes_of v.bytes) at) c.write_u64.ensures.output
    ∙ ap (λ (x : ℕ). link_at (bytes_of (patched b at (word_bytes x))) at) (distance at t c.ranges.at.fits)
    ∙ link_own b at t c.requires.in_bounds c.ranges.at.fits c.ranges.target.fits c.requires.aligned c.requires.target
