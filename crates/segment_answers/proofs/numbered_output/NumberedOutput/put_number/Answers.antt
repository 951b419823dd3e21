use Rattle.std.proofs.Common.{◌≡◌, ◌<◌, ◌^◌, false, ap, rules, ◌∙◌, arith}
use Rattle.segment_answers.specs.Numbers.{has_number, is_in_text}
use Rattle.segment_answers.proofs.numbering.Texts.{number_end, number_text, part_end, part_text}
use Rattle.segment_answers.proofs.numbered_output.NumberedOutput.put_number.Goals as goal

pub invariant_of-self : goal.invariant_of-self
invariant_of-self g c =
    let was = c.args.self.now in
    let old = (g.O.Sink.history was.inner).bytes in
    let new = (g.O.Sink.history c.put_pieces.new.out).bytes in
    let line_start : is_in_text false old ≡ false = was.place ∙ ap has_number c.requires.line_start in
    let fits : was.number < 2 ^ 64 = search rules in
    record {
      failures_upper = omega (arith, was.failures_upper, c.in-Ok.ensures.counted);
      text = number_text was.number fits old new line_start c.in-Ok.ensures.ok ∙ was.text;
      place = number_end was.number fits old new line_start c.in-Ok.ensures.ok;
      unbroken = was.unbroken;
      cause = λ e. cc;
      failures_lower = λ h. omega (arith, was.failures_lower h, c.in-Ok.ensures.counted);
    }

pub invariant_of-self-in-Err : goal.invariant_of-self-in-Err
invariant_of-self-in-Err g c =
    let was = c.args.self.now in
    let old = (g.O.Sink.history was.inner).bytes in
    let new = (g.O.Sink.history c.put_pieces.new.out).bytes in
    let line_start : is_in_text false old ≡ false = was.place ∙ ap has_number c.requires.line_start in
    let fits : was.number < 2 ^ 64 = search rules in
    record {
      failures_upper = omega (arith, was.failures_upper, c.in-Err.ensures.counted);
      text = part_text was.number fits old new line_start c.in-Err.ensures.err ∙ was.text;
      place = part_end was.number fits old new line_start c.in-Err.ensures.err;
      unbroken = was.unbroken;
      cause = λ e. omega (arith, c.in-Err.ensures.counted);
      failures_lower = λ h. omega (arith, c.in-Err.ensures.counted);
    }
