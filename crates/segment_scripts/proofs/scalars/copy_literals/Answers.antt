use Rattle.std.proofs.Common.{◌≡◌, ◌++◌, ◌∷◌, [], Ok, Err, true, sym, subst, ap, ◌∙◌, rules}
use Rattle.seg_types.specs.declared.refusals.Refusal.TheVariants.{WrongKind}
use Rattle.seg_types.specs.Commands.{value_of_literal}
use Rattle.seg_types.specs.Kinds.{is_value}
use Rattle.seg_types.specs.Values.{value_of_scalar}
use Rattle.segment_lang.specs.Seen.{literal_of}
use Rattle.segment_scripts.proofs.values.ScalarBuffers.{IsRead, next-literal, no-literal, read-all, read-out}
use Rattle.segment_scripts.proofs.values.ScalarBuffers.{read-passed}
use Rattle.segment_scripts.proofs.values.ScalarBuffers.{read-past, read-value, read-wrong, value-fits}
use Rattle.segment_scripts.proofs.scalars.copy_literals.Goals as goal

pub push-requires : goal.push-requires
push-requires g c = (
  search rules,
  value-fits g.T.Scalar.whole g.T.Scalar.kind c.args.literals c.literals.literal-iterator c.next.new.self
      c.literals.buffer (literal_of c.in-Some.literal) c.literals.fits c.literals.invariant.read
      (next-literal c.literals.literal-iterator c.next.new.self c.in-Some.literal c.in-Some.ensures.steps)
      (value_of_scalar c.in-Ok.value) (subst (λ j. value_of_literal j (literal_of c.in-Some.literal)
      ≡ Ok (value_of_scalar c.in-Ok.value)) c.kind.ensures c.in-Ok.ensures.1),
)

pub literals-preserved-then-fits : goal.literals-preserved-then-fits
literals-preserved-then-fits g c =
    let whole = g.T.Scalar.whole in
    let k = g.T.Scalar.kind in
    let more = read-value g.T.Scalar.whole g.T.Scalar.kind c.args.literals c.literals.literal-iterator
    c.next.new.self c.literals.buffer (literal_of c.in-Some.literal) c.literals.fits c.literals.invariant.read
    (next-literal c.literals.literal-iterator c.next.new.self c.in-Some.literal c.in-Some.ensures.steps)
    (value_of_scalar c.in-Ok.value) c.as_type.result c.if-fits.true
    (subst (λ j. value_of_literal j (literal_of c.in-Some.literal) ≡ Ok (value_of_scalar c.in-Ok.value))
    c.kind.ensures c.in-Ok.ensures.1)
    (subst (λ j. is_value j (value_of_scalar c.in-Ok.value) ≡ true) c.kind.ensures c.in-Ok.ensures.2)
    c.as_type.ensures in
    record {
      can = tt;
      finite = tt;
      read = subst (λ buffer. IsRead whole k c.args.literals c.next.new.self buffer c.literals.fits) (sym
          c.push.ensures)
          (subst (λ b. IsRead whole k c.args.literals c.next.new.self (c.literals.buffer ++ c.as_type.result ∷ []) b)
          (sym c.if-fits.true) more);
    }

pub literals-preserved-else-fits : goal.literals-preserved-else-fits
literals-preserved-else-fits g c =
    let more = read-passed g.T.Scalar.whole g.T.Scalar.kind c.args.literals c.literals.literal-iterator
    c.next.new.self c.literals.buffer (literal_of c.in-Some.literal) c.literals.fits c.literals.invariant.read
    (next-literal c.literals.literal-iterator c.next.new.self c.in-Some.literal c.in-Some.ensures.steps)
    (value_of_scalar c.in-Ok.value) c.if-fits.false (subst (λ j. value_of_literal j (literal_of c.in-Some.literal)
    ≡ Ok (value_of_scalar c.in-Ok.value)) c.kind.ensures c.in-Ok.ensures.1) in
    record {
      can = tt;
      finite = tt;
      read = subst (λ b. IsRead g.T.Scalar.whole g.T.Scalar.kind c.args.literals c.next.new.self c.literals.buffer b)
          (sym c.if-fits.false) more;
    }

pub returns-in-WrongKind : goal.returns-in-WrongKind
returns-in-WrongKind g c =
    read-wrong g.T.Scalar.whole g.T.Scalar.kind c.args.literals c.literals.literal-iterator c.next.new.self
    c.literals.buffer (literal_of c.in-Some.literal) c.literals.fits c.literals.invariant.read
    (next-literal c.literals.literal-iterator c.next.new.self c.in-Some.literal c.in-Some.ensures.steps)
    (subst (λ j. value_of_literal j (literal_of c.in-Some.literal) ≡ Err WrongKind) c.kind.ensures (c.in-Err.ensures
    ∙ ap Err c.in-WrongKind.is)) ∙ ap Err (sym c.in-WrongKind.is)

pub literals-preserved : goal.literals-preserved
literals-preserved g c = record {
  can = tt;
  finite = tt;
  read = read-past g.T.Scalar.whole g.T.Scalar.kind c.args.literals c.literals.literal-iterator c.next.new.self
      c.literals.buffer (literal_of c.in-Some.literal) c.literals.fits c.literals.invariant.read
      (next-literal c.literals.literal-iterator c.next.new.self c.in-Some.literal c.in-Some.ensures.steps)
      c.in-Err.why (subst (λ j. value_of_literal j (literal_of c.in-Some.literal) ≡ Err c.in-Err.why) c.kind.ensures
      c.in-Err.ensures) c.in_default.not-WrongKind;
}

pub returns-then-fits-2 : goal.returns-then-fits-2
returns-then-fits-2 g c =
    let read = c.literals.invariant.read in (
      read-all g.T.Scalar.whole g.T.Scalar.kind c.args.literals c.literals.literal-iterator c.literals.buffer
          c.literals.fits read (no-literal c.literals.literal-iterator c.in-None.ensures.steps.0) c.if-fits-2.true,
      read.range,
    )

pub returns-else-fits-2 : goal.returns-else-fits-2
returns-else-fits-2 g c =
    read-out g.T.Scalar.whole g.T.Scalar.kind c.args.literals c.literals.literal-iterator c.literals.buffer
    c.literals.fits c.literals.invariant.read (no-literal c.literals.literal-iterator c.in-None.ensures.steps.0)
    c.if-fits-2.false
