use Rattle.std.proofs.Common.{ap, sym, subst}
use Rattle.segment_lang.specs.Seen.{literal_of}
use Rattle.segment_scripts.proofs.values.ScalarBuffers.{next-literal, no-literal}
use Rattle.segment_scripts.proofs.values.Texts.{AreTexts, texts-all, texts-fit, texts-more, texts-wrong}
use Rattle.segment_scripts.proofs.text_buffers.literal_texts.Goals as goal

pub returns-in_default : goal.returns-in_default
returns-in_default c =
    texts-wrong c.args.literals c.literals.literal-iterator c.next.new.self c.literals.buffer c.in-Some.literal
    c.literals.invariant.read
    (next-literal c.literals.literal-iterator c.next.new.self c.in-Some.literal c.in-Some.ensures.steps)
    c.in_default.not-Quoted

pub push-requires : goal.push-requires
push-requires c =
    texts-fit c.args.literals c.literals.literal-iterator c.next.new.self c.literals.buffer
    (literal_of c.in-Some.literal) c.literals.invariant.read
    (next-literal c.literals.literal-iterator c.next.new.self c.in-Some.literal c.in-Some.ensures.steps)
    c.in-Quoted.text (ap literal_of c.in-Quoted.is)

pub literals-preserved : goal.literals-preserved
literals-preserved c = record {
  can = tt;
  finite = tt;
  read = subst (λ buffer. AreTexts c.args.literals c.next.new.self buffer) (sym c.push.ensures)
      (texts-more c.args.literals c.literals.literal-iterator c.next.new.self c.literals.buffer
      (literal_of c.in-Some.literal) c.literals.invariant.read
      (next-literal c.literals.literal-iterator c.next.new.self c.in-Some.literal c.in-Some.ensures.steps)
      c.in-Quoted.text (ap literal_of c.in-Quoted.is));
}

pub returns : goal.returns
returns c = texts-all c.args.literals c.literals.literal-iterator c.literals.buffer c.literals.invariant.read
    (no-literal c.literals.literal-iterator c.in-None.ensures.steps.0)
