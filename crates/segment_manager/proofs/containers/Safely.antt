-- A call on the container of an object that answers nothing: its step, and that it changes nothing where it is refused.
use Rattle.segment_manager.proofs.Common as common
use Rattle.best_fit.{proofs.Laws.gaps-refl, specs.Heap.KeepsGaps}
use Rattle.segment_manager.proofs.directory.AnyDirectory.{IsMove, by_moves, by_same, step-segment, step_of_kind-segment}
use common.{Answer, AnswersSafely, Command, DenotesCurrent, Directory, Done, Err, IfErr, IsSegment, Key, Kind}
use common.{MatchResult, Mode, NoSpace, Ok, OnErr, OutOfRange, Refusal, Refused, Result, SameSurroundings, SegmentState}
use common.{StepsSafely, TakesStep, TakesStepOfKind, Transitions, WindowState, ap, done_answer, false, inl, inr}
use common.{is_read_only, live_of, refl, subst, sym, ◌∙◌, ◌≡◌, ◌⊎◌}

-- the call fails, and nothing has changed
pub stays : (s : SegmentState) (new : WindowState) (key : Key) (kind : Kind) (c : Command) (e why : Refusal)
    → e ≡ why → new ≡ s.cut → TakesStepOfKind s s key kind c (Refused why) → StepsSafely s new key kind c (Err e)
stays s new key kind c e why is same step = record {
  step = subst (λ (r : Refusal). TakesStepOfKind s (record s { cut = new }) key kind c (Refused r)) (sym is)
      (subst (λ (x : WindowState). TakesStepOfKind s (record s { cut = x }) key kind c (Refused why)) (sym same) step);
  refused = same;
}

-- the call succeeds
pub done-so : {s : SegmentState} {new : WindowState} {key : Key} {kind : Kind} {c : Command} {u : Unit {0}}
    → TakesStepOfKind s (record s { cut = new }) key kind c Done → StepsSafely s new key kind c (Ok u)
done-so step = record { step = step; refused = tt }

-- which of two refusals it is
range-not_space : OutOfRange ≡ NoSpace → ⊥
range-not_space e = cc

-- an error that is not for space is for the place
pub pick-outside : {X Y : Type 0} (e : Refusal) → (Y → e ≡ NoSpace) → e ≡ OutOfRange → X ⊎ Y → X
pick-outside e g h (inl x) = x
pick-outside e g h (inr y) = absurd (range-not_space (sym h ∙ g y))

-- an error that is not for the place is for space
pub pick-space : {X Y : Type 0} (e : Refusal) → (X → e ≡ OutOfRange) → e ≡ NoSpace → X ⊎ Y → Y
pick-space e f h (inl x) = absurd (range-not_space (sym (f x) ∙ h))
pick-space e f h (inr y) = y

-- ---- the segment afterwards, as its view before the call is named

-- nothing has changed where it was refused
pub seen-refused : {R : Type 0} (s t : SegmentState) (view : s ≡ t) (new : WindowState) (r : Result R Refusal)
    → OnErr r (new ≡ s.cut) → OnErr r ((record s { cut = new }) ≡ t)
seen-refused s t view new (Ok u) e = tt
seen-refused s t view new (Err w) e = (λ i. record s { cut = e i }) ∙ view

-- a call had the effect of the machine's step, changed nothing if it failed, and left a segment
pub record Performed (s t : SegmentState) (new : WindowState) (next : Mode → Directory → Answer × Directory)
    (r : Result (Unit {0}) Refusal) : Type 0 where
  pub step : Transitions t (record s { cut = new }) (done_answer r) (λ d. next t.mode d)
  pub refused : OnErr r ((record s { cut = new }) ≡ t)
  pub segment : IsSegment new.bytes

module _ (s t : SegmentState) (view : s ≡ t) (b : IsSegment s.cut.bytes) (new : WindowState)
    (next : Mode → Directory → Answer × Directory) where
  -- a call that was done makes the directory's move
  pub performed : {u : Unit {0}} → SameSurroundings s.cut new → ((d : Directory) → DenotesCurrent s.cut.bytes d
      → IsMove (record s { cut = new }) Done (next s.mode d)) → Performed s t new next (Ok u)
  performed place each = record {
    step = subst (λ (v : SegmentState). Transitions v (record s { cut = new }) Done (λ d. next v.mode d)) view
        (by_moves (record { mode = refl; place = place }) each);
    refused = tt;
    segment = let m = each b.0 b.1 in (m.after, m.stands);
  }

  -- a call that was refused has the directory's refusal
  pub refuses-so : (why e : Refusal) → e ≡ why → new ≡ s.cut → ((d : Directory) → DenotesCurrent s.cut.bytes d
      → next s.mode d ≡ (Refused why, d)) → Performed s t new next (Err e)
  refuses-so why e is same each = record {
    step = subst (λ (v : SegmentState). Transitions v (record s { cut = new }) (Refused e) (λ d. next v.mode d)) view
        (subst (λ (r : Refusal). Transitions s (record s { cut = new }) (Refused r) (λ d. next s.mode d)) (sym is)
        (subst (λ (c : WindowState). Transitions s (record s { cut = c }) (Refused why) (λ d. next s.mode d)) (sym same)
        (by_same (λ d. next s.mode d) each)));
    refused = seen-refused {R = Unit {0}} s t view new (Err e) same;
    segment = subst (λ (c : WindowState). IsSegment c.bytes) (sym same) b;
  }

-- a call took its step, changed nothing if it failed, and left a segment
pub record Answered {R : Type 0} (says : Result R Refusal
    → Answer) (s t : SegmentState) (new : WindowState) (key : Key) (kind : Kind)
    (c : Command) (r : Result R Refusal) : Type 0 where
  pub step : TakesStepOfKind t (record s { cut = new }) key kind c (says r)
  pub refused : OnErr r ((record s { cut = new }) ≡ t)
  pub segment : IsSegment new.bytes

-- a call that answers safely is the step of the directory
pub answered : {R : Type 0} {says : Result R Refusal
    → Answer} (s t : SegmentState) (view : s ≡ t) (b : IsSegment s.cut.bytes)
    (new : WindowState) (key : Key) (kind : Kind) (c : Command) (r : Result R Refusal)
    → AnswersSafely says s new key kind c r → Answered says s t new key kind c r
answered {says = says} s t view b new key kind c r done = record {
  step = subst (λ (u : SegmentState). TakesStepOfKind u (record s { cut = new }) key kind c (says r)) view done.step;
  refused = seen-refused s t view new r done.refused;
  segment = step_of_kind-segment s (record s { cut = new }) key kind c (says r) done.step b;
}

-- the same for a call on any object
pub record Stepped (s t : SegmentState) (new : WindowState) (c : Command) (answer : Answer) : Type 0 where
  pub step : TakesStep t (record s { cut = new }) c answer
  pub segment : IsSegment new.bytes

-- a step that is safe is the step of the directory
pub stepped : (s t : SegmentState) (view : s ≡ t) (b : IsSegment s.cut.bytes) (new : WindowState) (c : Command)
    (answer : Answer) → is_read_only t.mode ≡ false
    → (is_read_only s.mode ≡ false → TakesStep s (record s { cut = new }) c answer) → Stepped s t new c answer
stepped s t view b new c answer may each =
    let done : TakesStep s (record s { cut = new }) c answer =
    each (subst (λ (u : SegmentState). is_read_only u.mode ≡ false) (sym view) may) in
    record {
      step = subst (λ (u : SegmentState). TakesStep u (record s { cut = new }) c answer) view done;
      segment = step-segment s (record s { cut = new }) c answer done b;
    }

-- ---- the gaps

-- the effect of a call on the gaps if it succeeds; if it fails nothing changes
pub kept-gaps : {R : Type 0} {P : R → Type 0} {F : Refusal
    → Type 0} {s t : SegmentState} (view : s ≡ t) {new : WindowState}
    (r : Result R Refusal) → MatchResult r P F → ((x : R) → P x → KeepsGaps s.cut new)
    → ((e : Refusal) → F e → new ≡ s.cut) → KeepsGaps t.cut new
kept-gaps view {new} (Ok x) m f g = subst (λ (u : SegmentState). KeepsGaps u.cut new) view (f x m)
kept-gaps {s = s} view {new} (Err e) m f g = subst (λ (u : SegmentState). KeepsGaps u.cut new) view
    (subst (KeepsGaps s.cut) (sym (g e m)) (gaps-refl s.cut))

-- the same blocks are in use, for the view of the segment
pub same-live : {s t : SegmentState} (view : s ≡ t) (new : WindowState) → live_of new.bytes ≡ live_of t.cut.bytes
    → live_of new.bytes ≡ live_of s.cut.bytes
same-live view new e = e ∙ sym (ap (λ (u : SegmentState). live_of u.cut.bytes) view)

-- each error of a call has the property
pub of-error : {R : Type 0} (P : R → Type 0) {F Q : Refusal → Type 0} (r : Result R Refusal) → MatchResult r P F
    → ((e : Refusal) → F e → Q e) → IfErr r Q
of-error P (Ok x) m each = tt
of-error P (Err e) m each = each e m

-- an error of two kinds is one of the two
pub refuses-either : {X Y : Type 0} {e : Refusal} → (X → e ≡ OutOfRange) → (Y → e ≡ NoSpace) → X ⊎ Y
    → (e ≡ OutOfRange) ⊎ (e ≡ NoSpace)
refuses-either f g (inl x) = inl (f x)
refuses-either f g (inr y) = inr (g y)
