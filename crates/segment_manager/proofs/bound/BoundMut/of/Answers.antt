-- Without such an object, or in a segment that is open for reading, each call that would change it is refused.
use Rattle.segment_manager.proofs.bound.BoundMut.of.Goals as goal
use Rattle.segment_manager.proofs.{containers.ToChange.to_change, directory.AnyDirectory.refuses_of_kind-read_only}
use Rattle.segment_manager.proofs.Common.{Err, exit-is, refl, subst, sym, ◌∙◌}
use Rattle.segment_manager.specs.objects.BoundObjects.{LacksKind}

pub returns-then-is_read_only : goal.returns-then-is_read_only
returns-then-is_read_only g c = (
  (refl, (λ w. tt), refl),
  record {
    frame = tt;
    location = record {
      refused = λ d e. refuses_of_kind-read_only _ _ _ d (sym c.is_read_only.ensures ∙ c.if-is_read_only.true) e;
    };
    loan = tt;
    segment = tt;
  },
)

pub returns-in_err-object : goal.returns-in_err-object
returns-in_err-object g c = rw (exit-is c.from_residual.result _ c.from_residual.ensures.1) (
  (refl, (λ w. tt), refl),
  record {
    frame = tt;
    location = to_change c.args.segment.now (g.O.ObjectRef.key c.args.key.now) g.C.BoundContent.kind
        (Err c.in_err-object.field-0.0) (sym c.is_read_only.ensures ∙ c.if-is_read_only.false)
        (subst (λ k. LacksKind c.args.segment.now (g.O.ObjectRef.key c.args.key.now) k c.in_err-object.field-0.0)
        c.kind.ensures c.in_err-object.ensures.location);
    loan = tt;
    segment = tt;
  },
)
