use Rattle.std.proofs.Common.{List, ℕ, sym, subst}
use Rattle.segment_log.specs.CommittedImages.{IsCommitted}
use Rattle.segment_log.specs.Crashes.{with_log}
use Rattle.segment_disk.proofs.logs.Gated.{gated_stands}
use Rattle.segment_disk.proofs.logs.committed.Goals as goal

pub returns : goal.returns
returns c =
    let kept = c.in_ok-made.made in
    subst (λ (l : List ℕ). IsCommitted (with_log c.args.base.items l)
    (record { image = kept.image; end = kept.end; base = kept.base })) (sym c.in-Ok.ensures)
    (gated_stands c.args.base.items c.args.log.now kept c.in_ok-made.ensures.image c.repaired_is_ready.ensures)
