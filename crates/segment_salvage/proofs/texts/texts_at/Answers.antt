-- One more text is read.
use Rattle.std.proofs.Common.{arith, map, subst, sym}
use Rattle.std.specs.List.{AllByRecursion}
use Rattle.segment_salvage.proofs.Lists.{map_more}
use Rattle.segment_salvage.specs.Standing.{Stands}
use Rattle.segment_salvage.proofs.texts.texts_at.Goals as goal

pub texts-preserved : goal.texts-preserved
texts-preserved c =
    let before = c.texts.invariant.reads in
    let reads = c.in-Some.ensures.steps_upper in
    record {
      all =
          subst (λ is. AllByRecursion (Stands c.args.image.now) (map (λ text. text.now) is))
          (sym c.in_ok-push.ensures.items)
          (map_more (Stands c.args.image.now) (λ text. text.now) c.texts.texts.items _ c.texts.invariant.all
          c.in-Some.ensures.text);
      reads = omega (arith, before, reads);
    }
