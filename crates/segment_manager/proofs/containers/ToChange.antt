-- The container to change, for the calls that change it.
use Rattle.std.specs.Prelude.{IsErrAnd}
use Rattle.segment_manager.proofs.{containers.ItemSteps.finds-no_container, directory.AnyDirectory.open-writing}
use Rattle.segment_manager.proofs.Common.{Answer, AnswersWith, Command, Err, IsNotToChange, Key, Kind, MatchResult, Ok}
use Rattle.segment_manager.proofs.Common.{Place, Refusal, Refused, Result, SegmentState, TakesStepOfKind, answer_of}
use Rattle.segment_manager.proofs.Common.{container_at, exit-is, false, is_changing, is_read_only, subst, sym, true}
use Rattle.segment_manager.proofs.Common.{◌≡◌}
use Rattle.segment_manager.specs.containers.ToChange.{IsChangeableContainer}

-- a segment that is open for writing
pub to_change : (s : SegmentState) (key : Key) (kind : Kind) (r : Result Place Refusal) → is_read_only s.mode ≡ false
    → AnswersWith s (λ d. container_at d key kind) r
    → MatchResult r (IsChangeableContainer s key kind) (IsNotToChange s key kind)
to_change s key kind (Ok p) w a = record { writing = w; at = a }
to_change s key kind (Err why) w a = record {
  refused = λ c e. finds-no_container s key kind c why (open-writing s.mode c w) a;
}

-- as the view before the call is named
pub seen-found : (s t : SegmentState) (view : s ≡ t) (key : Key) (kind : Kind) (p : Place)
    → AnswersWith t (λ d. container_at d key kind) (Ok p) → AnswersWith s (λ d. container_at d key kind) (Ok p)
seen-found s t view key kind p =
    subst (λ (u : SegmentState). AnswersWith u (λ d. container_at d key kind) (Ok p)) (sym view)

-- without such an object, the call that would change it fails with this error
pub not-changed : {R : Type 0} {s : SegmentState} {key : Key} {l k : Kind} {why : Refusal} (says : R
    → Answer) (c : Command) (r : Result R Refusal) → l ≡ k → IsErrAnd r (λ e. e ≡ why)
    → is_changing c ≡ true → IsNotToChange s key l why → TakesStepOfKind s s key k c (answer_of says r)
not-changed {s = s} {key = key} {why = why} says c r same is changing not = rw (exit-is r why is)
    (subst (λ (kind : Kind). TakesStepOfKind s s key kind c (Refused why)) same (not.refused c changing))
