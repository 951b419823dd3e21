-- One more pair is read.
use Rattle.std.proofs.Common.{arith, subst, sym}
use Rattle.std.specs.List.{AllByRecursion}
use Rattle.segment_salvage.proofs.Lists.{all_more}
use Rattle.segment_salvage.specs.Pairs.{IsPairOfImage}
use Rattle.segment_salvage.proofs.nodes.pairs_at.Goals as goal

pub nodes-preserved : goal.nodes-preserved
nodes-preserved c =
    let before = c.nodes.invariant.reads in
    let reads = c.in-Some-next_node.ensures.steps_upper in
    record {
      all =
          subst (AllByRecursion (IsPairOfImage c.args.image.now c.args.keys c.args.values))
          (sym c.in_ok-push.ensures.items)
          (all_more (IsPairOfImage c.args.image.now c.args.keys c.args.values) c.nodes.pairs.items _
          c.nodes.invariant.all c.in-Some-next_node.ensures.pair);
      reads = omega (arith, before, reads);
    }
