use Rattle.segment_dump.proofs.dumping.put_objects.Goals as goal
use Rattle.segment_dump.proofs.{Common.refl, Common.end_text, dumping.Output.of-cut, dumping.Output.of-one}
use Rattle.segment_dump.proofs.{dumping.Output.of-then}

pub returns-in_err-put_named : goal.returns-in_err-put_named
returns-in_err-put_named g c = of-cut _ c.from_residual.ensures.0 c.in_err-put_named.ensures

pub returns-in_err-put_unique : goal.returns-in_err-put_unique
returns-in_err-put_unique g c =
    of-then c.in_ok-put_named.ensures (of-cut _ c.from_residual-in_err-put_unique.ensures.0 c.in_err-put_unique.ensures)

pub returns-in_err-put_anonymous : goal.returns-in_err-put_anonymous
returns-in_err-put_anonymous g c =
    of-then c.in_ok-put_named.ensures (of-then c.in_ok-put_unique.ensures
    (of-cut (λ d. end_text) c.from_residual-in_err-put_anonymous.ensures.0 c.in_err-put_anonymous.ensures))

pub returns : goal.returns
returns g c =
    of-then c.in_ok-put_named.ensures (of-then c.in_ok-put_unique.ensures
    (of-then c.in_ok-put_anonymous.ensures (of-one {owed = λ d. end_text} c.put_pieces.ensures (λ d st. refl))))
