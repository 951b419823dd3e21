-- An object of another kind is refused.
use Rattle.segment_manager.proofs.Common.{exit-is, ◌≡◌, sym, ap, ◌∙◌, ℕ, Bool, Result, Ok, Err, if◌then◌else◌, Kind}
use Rattle.segment_manager.proofs.Common.{Object, Refusal, WrongKind, count_of, handle, kind_of, pair_of_kind}
use Rattle.segment_manager.proofs.containers.RangeCalls.{no-same}
use Rattle.segment_manager.proofs.objects.finding.found_of.Goals as goal

other-pair : (o : Object) (kind : Kind) {why : Refusal} → why ≡ WrongKind → (kind_of o.value ≡ kind → ⊥)
    → Err why ≡ pair_of_kind o kind
other-pair o kind e n = (λ i. let r : Result (ℕ × ℕ) Refusal = Err (e i) in r) ∙ sym (ap (λ (b : Bool).
    let r : Result (ℕ × ℕ) Refusal = if b then Ok (handle o.extent, count_of o.value) else Err WrongKind in r)
    (no-same kind (kind_of o.value) (λ f. n (sym f))))

pub returns-in_err-object : goal.returns-in_err-object
returns-in_err-object c = rw (exit-is c.from_residual.result _ c.from_residual.ensures.1) (λ o s.
    let m = c.in_err-object.ensures.object o s in other-pair o c.args.kind m.0 m.1)
