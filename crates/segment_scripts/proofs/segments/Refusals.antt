-- What a call tells of the line that it answered.
use Rattle.std.proofs.Common.{◌≡◌, ◌+◌, ℕ, Bool, true, List, Result, Ok, Err, refl, sym, ap, subst, ◌∙◌}
use Rattle.raw_region.specs.Answers.{failures_in}
use Rattle.raw_region.specs.Device.{WriterHistory, Writes}
use Rattle.segment_manager.specs.Answers.{Answer}
use Rattle.segment_scripts.specs.declared.answered.Answered.{Answered}
use Rattle.segment_scripts.specs.Answer.{answer_text}
use Rattle.segment_scripts.specs.Refusing.{AnswersFor, Tells, is_refusal, once, was_refused}
use Rattle.segment_scripts.specs.Writing.{WritesFor}

once-writes : {E : Type 0} (a : Answered) (old new : WriterHistory) (text : List ℕ) (r : Result (Unit {0}) E)
    → Writes old new r text → Writes old new (once a r) text
once-writes a old new text (Ok u) w = record { ok = w.ok; err = tt; counted = w.counted }
once-writes a old new text (Err e) w = record { ok = tt; err = w.err; counted = w.counted }

once-fails : {E : Type 0} (a : Answered) (r : Result (Unit {0}) E) → failures_in r ≡ failures_in (once a r)
once-fails a (Ok u) = refl
once-fails a (Err e) = refl

once-tells : {E : Type 0} (a : Answered) (r : Result (Unit {0}) E) → Tells (once a r) (was_refused a)
once-tells a (Ok u) = refl
once-tells a (Err e) = tt

-- an answer that was written
pub writes-once : {E : Type 0} (a : Answered) {old new : WriterHistory} {written : Result (Unit {0}) E}
    {result : Result Answered E} {text : List ℕ} → result ≡ once a written → Writes old new written text
    → Writes old new result text
writes-once a {old = old} {new = new} {written = written} {text = text} is w =
    subst (λ r. Writes old new r text) (sym is) (once-writes a old new text written w)

-- what was answered once is told
pub tells-once : {E : Type 0} (a : Answered) (written : Result (Unit {0}) E) {result : Result Answered E}
    → result ≡ once a written → Tells result (was_refused a)
tells-once a written is = subst (λ r. Tells r (was_refused a)) (sym is) (once-tells a written)

-- a line that is answered once leads on
pub answers-once : {P E : Type 0} (a : Answered) {old new : WriterHistory} {written : Result (Unit {0}) E}
    {result : Result Answered E} {Stands : P → Type 0} {due : P → Answer} → result ≡ once a written
    → WritesFor old new written Stands (λ p. answer_text (due p))
    → ((p : P) → Stands p → was_refused a ≡ is_refusal (due p)) → AnswersFor old new result Stands due
answers-once a {old = old} {written = written} {result = result} is w same = record {
  writes = record {
    writes = λ p s. writes-once a is (w.writes p s);
    counted = w.counted ∙ ap (λ n. old.failures + n) (once-fails a written ∙ ap failures_in (sym is));
  };
  tells = λ p s. subst (Tells result) (same p s) (tells-once a written is);
}

module _ {P E : Type 0} {old new : WriterHistory} {result : Result Answered E} {Stands : P → Type 0} where
  -- one answer is due wherever the machine stands
  pub answers-owed : {answer : Answer} {due : P → Answer} → Writes old new result (answer_text answer)
      → Tells result (is_refusal answer) → ((p : P) → Stands p → answer ≡ due p) → AnswersFor old new result Stands due
  answers-owed w t same = record {
    writes = record {
      writes = λ p s. subst (Writes old new result) (ap answer_text (same p s)) w;
      counted = w.counted;
    };
    tells = λ p s. subst (Tells result) (ap is_refusal (same p s)) t;
  }

  -- the same answer by other words
  pub answers-same : {said due : P → Answer} → AnswersFor old new result Stands said
      → ((p : P) → Stands p → said p ≡ due p) → AnswersFor old new result Stands due
  answers-same w same = record {
    writes = record {
      writes = λ p s.
          subst (Writes old new result) (ap answer_text (same p s)) (w.writes.writes p s);
      counted = w.writes.counted;
    };
    tells = λ p s. subst (Tells result) (ap is_refusal (same p s)) (w.tells p s);
  }

-- what is said of where a call led is due where it began
pub answers-before : {P E : Type 0} {old new : WriterHistory} {result : Result Answered E} {Stands Stands' : P
    → Type 0} {said due : P → Answer} (next : P → P) → AnswersFor old new result Stands' said
    → ((p : P) → Stands p → Stands' (next p))
    → ((p : P) → Stands p → said (next p) ≡ due p) → AnswersFor old new result Stands due
answers-before {old = old} {new = new} {result = result} next w leads same = record {
  writes = record {
    writes = λ p s.
        subst (Writes old new result) (ap answer_text (same p s)) (w.writes.writes (next p) (leads p s));
    counted = w.writes.counted;
  };
  tells = λ p s. subst (Tells result) (ap is_refusal (same p s)) (w.tells (next p) (leads p s));
}
