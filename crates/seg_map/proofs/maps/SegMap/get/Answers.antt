-- The least pair that is not below the key has it, or no pair has.
use Rattle.seg_map.proofs.{◌≡◌, refl, sym, ◌∙◌, Bool, true, false, None, Some, if◌then◌else◌, not, value_by_key}
use Rattle.std.specs.Bool.{then_some}
use Rattle.seg_map.proofs.maps.SegMap.get.Goals as goal

pub returns-in_err-found-clause-value : goal.returns-in_err-found-clause-value
returns-in_err-found-clause-value g c = λ ps s.
    let none : c.first_from.result ≡ None = cc in let result : c.from_residual.result ≡ None = cc in
    result ∙ rw none at (value_by_key g.met.K.Plain.transitive c.args.key c.first_from.ensures.item ps s)

unless : {V : Type 0} (b : Bool) (v : V) → then_some (not b) v ≡ (if b then None else Some v)
unless true v = refl
unless false v = refl

pub returns-clause-value : goal.returns-clause-value
returns-clause-value g c = λ ps s.
    c.then_some.ensures ∙ unless c.precedes.result _ ∙ rw (c.in_ok-found.was, sym c.precedes.ensures.answer) at
    (value_by_key g.met.K.Plain.transitive c.args.key c.first_from.ensures.item ps s)
