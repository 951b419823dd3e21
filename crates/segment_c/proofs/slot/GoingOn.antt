-- A call goes on by another call of its handle: it ensures what that one ensures. Between the two the segment may have
-- been taken and put back, and the arguments may be passed in another form.
use Rattle.std.proofs.Common.{◌≡◌, ◌∙◌, ◌≤◌, ap, arith, inr, pos, refl, subst, sym, ℕ, ℤ, None, Option, Some}
use Rattle.seg_types.specs.Commands.{Command, Integer, Literal, literal_of}
use Rattle.seg_types.specs.{declared.kinds.ScalarKind.ScalarKind, declared.kinds.ScalarKind.TheVariants.I64}
use Rattle.segment_manager.specs.{Answers.Answer, State.SegmentState, State.TakesStep}
use Rattle.segment_c.specs.{declared.values.CScalar.CScalar, Passed.literal_in, Passed.scalar_in, Passed.value_wrong}
use Rattle.segment_c.specs.{declared.slot.Slot.Slot, Handles.AsksHandle, Handles.ChangesHandle}
use Rattle.segment_c.specs.Handles.{PutsBack, ReadsHandle}
use Rattle.segment_c.specs.{Calls.HoldsSegment, Calls.PerformsCall, Marked.RaisesMoves, Marked.raised}
use Rattle.segment_c.specs.{Codes.answer_for, declared.slot.Marks.Marks}

-- a number that is passed
module _ (v : CScalar) {n : ℤ} (e : scalar_in v ≡ Some (I64, n)) where
  -- it is not refused
  pub number-right : value_wrong v ≡ 0
  number-right = ap (λ (q : Option (ScalarKind × ℤ)). elim q [ None ↦ 20 | Some s ↦ 0 ]) e

  -- it is a literal
  pub number-is : literal_in v ≡ Integer n
  number-is = ap (λ (q : Option (ScalarKind × ℤ)). elim q as (λ _. Literal) [
    | None ↦ Integer (pos 0)
    | Some s ↦ literal_of s.0 s.1
  ]) e

held : {P Q : SegmentState → Type 0} (q : Option SegmentState) → ((t : SegmentState) → P t → Q t) → HoldsSegment q P
    → HoldsSegment q Q
held None f h = h
held (Some t) f h = f t h

performs : {wrong its code : ℕ} {was lent new : Option SegmentState} {P Q : SegmentState → SegmentState → Type 0}
    → its ≡ wrong → lent ≡ was → ((s t : SegmentState) → P s t → Q s t) → PerformsCall its code lent new P
    → PerformsCall wrong code was new Q
performs {new = new} same back f r = record {
  stopped = λ w. let it = r.stopped (subst (λ n. 1 ≤ n) (sym same) w) in (it.0 ∙ same, it.1 ∙ back);
  closed = λ w none. r.closed (same ∙ w) (back ∙ none);
  asked = λ s w is. let it = r.asked s (same ∙ w) (back ∙ is) in (it.0, held new (f s) it.1);
}

-- a call that changes the segment
pub changes : {wrong its code : ℕ} {old lent new : Slot} {P Q : SegmentState → SegmentState → Type 0}
    → its ≡ wrong → lent.segment.value ≡ old.segment.value → lent.marks ≡ old.marks
    → ((s t : SegmentState) → P s t → Q s t) → ChangesHandle its code lent new P → ChangesHandle wrong code old new Q
changes {code = code} {new = new} same back marks f r = record {
  call = performs same back f r.call;
  unchanged_on_error = λ e. r.unchanged_on_error e ∙ back;
  marks = subst (λ m. RaisesMoves code m new.marks) marks r.marks;
}

-- the segment is taken out of its handle, takes the step of a command, and is put back
pub stepped : {said told : Answer} {Kept : Type 0} {code : ℕ} {old new : Slot} {m : Marks} {s t : SegmentState}
    (it : Command) → old.segment.value ≡ Some s → PutsBack said told Kept code t new (raised m) → m ≡ old.marks
    → TakesStep s t it told → (1 ≤ code → t ≡ s)
    → ChangesHandle 0 code old new (λ s t. TakesStep s t it (answer_for code said))
stepped {said} {code = code} {s = s} {t = t} it was back marks step stays = record {
  call = record {
    stopped = λ w. absurd (omega (arith, w));
    closed = λ w none. absurd (let e : Some s ≡ None = sym was ∙ none in cc);
    asked = λ u w is.
        let e : Some s ≡ Some u = sym was ∙ is in
        let f : s ≡ u = cc in (
          back.answer,
          subst (λ (q : Option SegmentState). HoldsSegment q (λ t. TakesStep u t it (answer_for code said)))
              (sym back.effect) (subst (λ (v : SegmentState). TakesStep v t it (answer_for code said)) f
              (subst (λ (a : Answer). TakesStep s t it a) (sym back.outcome) step)),
        );
  };
  unchanged_on_error = λ e. back.effect ∙ ap Some (stays e) ∙ sym was;
  marks = record {
    counted = λ _. back.marked ∙ ap raised marks;
    refused = λ _. inr (back.marked ∙ ap raised marks);
  };
}

-- a call that asks the segment
pub asks : {wrong code : ℕ} {old lent new : Slot} {P : SegmentState → SegmentState → Type 0}
    → lent.segment.value ≡ old.segment.value → lent.marks ≡ old.marks → AsksHandle wrong code lent new P
    → AsksHandle wrong code old new P
asks back marks r =
    record { call = performs refl back (λ s t p. p) r.call; unchanged = r.unchanged ∙ back; marks = r.marks ∙ marks }

-- ---- a call that reads the segment

-- the segment is taken out of its handle, read, and put back
pub reads : {wrong code : ℕ} {old new : Slot} {P : SegmentState → Type 0} {s t : SegmentState} → wrong ≡ 0
    → old.segment.value ≡ Some s → new.segment.value ≡ Some s → new.marks ≡ old.marks → t ≡ s → P t
    → ReadsHandle wrong code old new P
reads {P = P} {s} {t} right was is marks same p = record {
  read = record {
    stopped = λ w. absurd (omega (arith, right, w));
    closed = λ w none. absurd (let e : Some s ≡ None = sym was ∙ none in cc);
    told = λ u w here. subst P (let e : Some s ≡ Some u = sym was ∙ here in let f : s ≡ u = cc in same ∙ f) p;
    same = is ∙ sym was;
  };
  marks = marks;
}
