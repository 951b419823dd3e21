-- The value of an existing key is replaced; otherwise the pair is new.
use Rattle.seg_map.proofs.{◌≡◌, refl, sym, ◌+◌, arith, true, None, handle, laws, key_absent, key_at_node, is_put_again}
use Rattle.seg_map.proofs.{value_room, Bool, false≢true, ◌∙◌}
use Rattle.std.specs.Prelude.{Err, IfOk, Ok, Result}
use Rattle.seg_map.proofs.maps.SegMap.put.Goals as goal

pub write_value-requires : goal.write_value-requires
write_value-requires g c =
    let s = c.requires.1 in let k = key_at_node c.find_for_put-found.ensures.search s c.in-Some.is in
    rw (← k.at, c.SIZE.ensures) (value_room c.args.heap.now s c.args.key k.holds)

pub returns-in-Some-clause-effect : goal.returns-in-Some-clause-effect
returns-in-Some-clause-effect g c = λ ps s.
    let w = c.args.heap.now in let written = c.write_value.ensures in
    let k = key_at_node c.find_for_put-found.ensures.search s c.in-Some.is in
    let place : c.in-Some.node + (16 + c.SIZE.result) ≡ handle k.pair.node + (16 + g.K.Plain.SIZE) =
    (λ i. sym k.at i + (16 + c.SIZE.ensures i)) in
    let one : g.K.Plain.is_value c.args.key ≡ true = rw c.in-Some.is at c.find_for_put-found.ensures.value in
    rw k.holds (
      refl,
      is_put_again w s c.args.key k.holds (laws g.met.K.Plain) (laws g.met.V.Plain) g.met.K.Plain.total c.args.value one
          written.value (rw place at written.changes) (rw place at written.content),
    )

pub put_new-requires : goal.put_new-requires
put_new-requires g c =
    let none : c.find_for_put-found.result.node ≡ None = cc in
    record {
      map = c.requires;
      fresh = λ ps s. key_absent c.find_for_put-found.ensures.search s none;
      last = c.find_for_put-found.ensures.last;
    }

pub returns-clause-steps : goal.returns-clause-steps
returns-clause-steps g c = λ ps s.
    omega (arith, c.find_for_put-found.ensures.search.steps ps s, c.put_new.ensures.steps ps s)

-- what holds of a result holds of it in other words
other : {E : Type 0} {P Q : Bool → Type 0} (r : Result Bool E) → IfOk r P → ((b : Bool) → P b → Q b) → IfOk r Q
other (Ok b) p f = f b p
other (Err e) p f = tt

pub returns-clause-search : goal.returns-clause-search
returns-clause-search g c = λ ps s.
    omega (arith, c.find_for_put-found.ensures.search.exact ps s, c.put_new.ensures.steps_lower)

pub returns-clause-progress : goal.returns-clause-progress
returns-clause-progress g c = other c.put_new.result c.put_new.ensures.progress
    (λ b p new ps s. omega (arith, c.find_for_put-found.ensures.search.exact ps s, p.1))

pub returns-clause-steps_exact : goal.returns-clause-steps_exact
returns-clause-steps_exact g c = other c.put_new.result c.put_new.ensures.progress
    (λ b p old. absurd (false≢true (sym old ∙ p.0)))
