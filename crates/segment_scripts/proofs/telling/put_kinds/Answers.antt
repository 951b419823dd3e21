use Rattle.std.proofs.Common.{arith}
use Rattle.segment_manager.specs.Directory.{unique_objects}
use Rattle.segment_scripts.specs.Answer.{entry_tokens}
use Rattle.segment_scripts.proofs.segments.CommandSteps.{unique_is}
use Rattle.segment_scripts.proofs.listing.Objects.{unique-said, said-part}
use Rattle.segment_scripts.proofs.listing.Lines.{listing-cut, listing-done, listing-more, line_part}
use Rattle.segment_scripts.proofs.listing.Output.{of-start}
use Rattle.segment_scripts.proofs.telling.put_kinds.Goals as goal

pub kinds-init : goal.kinds-init
kinds-init g c = of-start (λ d. line_part entry_tokens (unique_objects d))

pub unique_instance-requires : goal.unique_instance-requires
unique_instance-requires g c = record {
  below = λ d k. omega (
    arith,
    c.kinds-test.true,
    unique_is c.args.segment.now.mode d c.num_unique-index-end.result (c.num_unique-index-end.ensures.answers d k),
  );
}

pub kinds-preserved : goal.kinds-preserved
kinds-preserved g c =
    listing-more c.args.segment.now entry_tokens unique_objects c.kinds.index c.kinds.invariant
    (said-part c.args.segment.now entry_tokens unique_objects c.kinds.index c.unique_instance.result _
    c.unique_instance.ensures (λ o h. unique-said o c.unique_instance.result h))
    c.in_ok-put_unique.ensures

pub returns-in_err-put_unique : goal.returns-in_err-put_unique
returns-in_err-put_unique g c =
    listing-cut c.args.segment.now entry_tokens unique_objects c.kinds.index c.kinds.invariant
    (said-part c.args.segment.now entry_tokens unique_objects c.kinds.index c.unique_instance.result _
    c.unique_instance.ensures (λ o h. unique-said o c.unique_instance.result h))
    (λ d k. omega (
      arith,
      c.kinds-test.true,
      unique_is c.args.segment.now.mode d c.num_unique-index-end.result (c.num_unique-index-end.ensures.answers d k),
    ))
    c.in_err-put_unique.ensures c.from_residual.ensures.0

pub returns : goal.returns
returns g c =
    listing-done c.args.segment.now entry_tokens unique_objects c.kinds.index c.kinds.invariant
    (λ d k. omega (
      arith,
      c.kinds-test.false,
      c.kinds.auto.index-end,
      unique_is c.args.segment.now.mode d c.num_unique-index-end.result (c.num_unique-index-end.ensures.answers d k),
    ))
    c.put_pieces.ensures
