-- A command that only reads keeps the directory, and a step also takes place without its answer.
use Rattle.segment_manager.proofs.Common as common
use Rattle.segment_manager.proofs.directory.AnyDirectory.{Leaves, by_answer, by_change, by_other, by_refusal}
use Rattle.segment_manager.proofs.directory.AnyDirectory.{by_request, plan-leaves, plan_of_kind-leaves, step-refused}
use common.{Answer, Bool, Command, DenotesCurrent, Directory, Extent, Key, Kind, LiveSet, Mode, NoSpace, None, Option}
use common.{Plan, Refusal, Refused, SegmentState, Some, StepsWithoutAnswer, false, false≢true, is_changing, live, met}
use common.{perform, plan, refl, refusal_of, resized, step, step_of_kind, subst, sym, ◌≡◌}

asked-reads : {d : Directory} (o : Option Extent) (after : Extent → Answer × Directory) → ((x : Extent)
    → (after x).1 ≡ d) → (elim o as (λ _. Answer × Directory) [ None ↦ (Refused NoSpace, d) | Some x ↦ after x ]).1 ≡ d
asked-reads None after k = refl
asked-reads (Some x) after k = k x

perform-reads : {d : Directory} {changing : Bool} (other : Bool) → changing ≡ false → (l : LiveSet) (p : Plan)
    → Leaves d changing other p → (perform d l p).1 ≡ d
perform-reads other e l p by_refusal = refl
perform-reads other e l p by_answer = refl
perform-reads other e l p (by_change o a k) = absurd (false≢true (sym e))
perform-reads other e l p (by_other k) = absurd (false≢true (sym e))
perform-reads {d} other e l p (by_request {need = need} {next = next} k) = asked-reads (met l need)
    (λ x. perform d (resized l x) (next x)) (λ x. perform-reads other e (resized l x) (next x) (k x))

-- a command that only reads leaves the directory
pub step-reads : (mode : Mode) (d : Directory) (c : Command) → is_changing c ≡ false → (step mode d c).1 ≡ d
unfolding step
step-reads mode d c e = perform-reads _ e (live d) (plan mode d c) (plan-leaves mode d c)

-- the same for a call for objects of one kind
pub step_of_kind-reads : (mode : Mode) (d : Directory) (key : Key) (kind : Kind) (c : Command) → is_changing c ≡ false
    → (step_of_kind mode d key kind c).1 ≡ d
unfolding step_of_kind
step_of_kind-reads mode d key kind c e = perform-reads _ e (live d) _ (plan_of_kind-leaves mode d key kind c)

-- ---- calls that answer less than the machine

-- an answer that is refused
refused-is : {r : Refusal} (answer : Answer) → Some r ≡ refusal_of answer → answer ≡ Refused r
refused-is (Refused q) e = cc
refused-is answer e = cc

-- a call that fails keeps mode and place
pub refused-stays : (old new : SegmentState) (c : Command) (r : Refusal) → StepsWithoutAnswer old new c (Some r)
    → (d : Directory) → DenotesCurrent old.cut.bytes d → DenotesCurrent new.cut.bytes d
refused-stays old new c r m d h = subst (DenotesCurrent new.cut.bytes)
    (step-refused old.mode c r (refused-is (step old.mode d c).0 (m.answers d h))) (m.denotes d h)
