use Rattle.std.proofs.Common.{◌≡◌, ◌<◌, ◌++◌, ℕ, true, false, ap, sym, rules, take, ◌∙◌, arith}
use Rattle.segment_answers.specs.Numbers.{is_in_text}
use Rattle.segment_answers.proofs.numbering.Texts.{line_end, line_text, passed}
use Rattle.segment_answers.proofs.numbered_output.NumberedOutput.take.Goals as goal

pub invariant_of-self-2 : goal.invariant_of-self-2
invariant_of-self-2 g c =
    let was = c.args.self.now in
    let old = (g.O.Sink.history was.inner).bytes in
    let new = (g.O.Sink.history c.write.new.self).bytes in
    let begun : is_in_text false old ≡ true = was.place ∙ c.requires.start in
    let some : 0 < c.in-Ok.taken = search rules in
    let one : (k : ℕ) → k < c.in-Ok.taken → is_in_text true (take k c.args.line.now) ≡ true =
    λ k h. c.requires.line k (omega (arith, h, c.in-Ok.ensures.count)) in
    let told = line_text old new c.args.line.now c.in-Ok.taken begun some c.in-Ok.ensures.count one
    c.in-Ok.ensures.bytes in
    record {
      failures_upper = search rules;
      text = told ∙ ap (λ l. l ++ take c.in-Ok.taken c.args.line.now) was.text
          ∙ sym (passed c.write-2.result was.plain.history.bytes c.write-2.new.self.history.bytes
          (take c.in-Ok.taken c.args.line.now) c.write-2.ensures.inner c.write-2.ensures.bytes);
      place = line_end old new c.args.line.now c.in-Ok.taken begun some c.in-Ok.ensures.count one
          c.in-Ok.ensures.bytes ∙ sym c.spot_behind-self.ensures.text;
      unbroken = search rules;
      cause = λ e. absurd (c.spot_behind-self.ensures.contents e);
      failures_lower = search rules;
    }
