use Rattle.std.proofs.Common.{◌∷◌, arith}
use Rattle.segment_lang.specs.Texts.{name_text}
use Rattle.segment_manager.specs.Directory.{Object, named_objects}
use Rattle.segment_scripts.specs.Answer.{entry_tokens}
use Rattle.segment_scripts.proofs.segments.CommandSteps.{named_is}
use Rattle.segment_scripts.proofs.listing.Objects.{named-said, said-part}
use Rattle.segment_scripts.proofs.listing.Lines.{listing-cut, listing-done, listing-more, line_part}
use Rattle.segment_scripts.proofs.listing.Output.{of-start}
use Rattle.segment_scripts.proofs.telling.put_names.Goals as goal

pub names-init : goal.names-init
names-init g c = of-start (λ d. line_part (λ (o : Object). name_text o.name ∷ entry_tokens o) (named_objects d))

pub named_instance-requires : goal.named_instance-requires
named_instance-requires g c = record {
  below = λ d k. omega (
    arith,
    c.names-test.true,
    named_is c.args.segment.now.mode d c.num_named-index-end.result (c.num_named-index-end.ensures.answers d k),
  );
}

pub names-preserved : goal.names-preserved
names-preserved g c =
    listing-more c.args.segment.now (λ (o : Object). name_text o.name ∷ entry_tokens o) named_objects c.names.index
    c.names.invariant
    (said-part c.args.segment.now (λ (o : Object). name_text o.name ∷ entry_tokens o) named_objects c.names.index
    c.named_instance.result _ c.named_instance.ensures (λ o h. named-said o c.named_instance.result h))
    c.in_ok-put_named.ensures

pub returns-in_err-put_named : goal.returns-in_err-put_named
returns-in_err-put_named g c =
    listing-cut c.args.segment.now (λ (o : Object). name_text o.name ∷ entry_tokens o) named_objects c.names.index
    c.names.invariant
    (said-part c.args.segment.now (λ (o : Object). name_text o.name ∷ entry_tokens o) named_objects c.names.index
    c.named_instance.result _ c.named_instance.ensures (λ o h. named-said o c.named_instance.result h))
    (λ d k. omega (
      arith,
      c.names-test.true,
      named_is c.args.segment.now.mode d c.num_named-index-end.result (c.num_named-index-end.ensures.answers d k),
    ))
    c.in_err-put_named.ensures c.from_residual.ensures.0

pub returns : goal.returns
returns g c =
    listing-done c.args.segment.now (λ (o : Object). name_text o.name ∷ entry_tokens o) named_objects c.names.index
    c.names.invariant
    (λ d k. omega (
      arith,
      c.names-test.false,
      c.names.auto.index-end,
      named_is c.args.segment.now.mode d c.num_named-index-end.result (c.num_named-index-end.ensures.answers d k),
    ))
    c.put_pieces.ensures
