use Rattle.segment_dump.proofs.json.put_value.Goals as goal
use Rattle.segment_dump.proofs.{Common.◌++◌, Common.ByHandle, Common.laid_at, dumping.Output.of-cut}
use Rattle.segment_dump.proofs.{dumping.Output.of-one, dumping.Output.of-then}
use Rattle.segment_dump.specs.Json.{closing, in_json, opening}

pub returns-in_err-write_all : goal.returns-in_err-write_all
returns-in_err-write_all g c =
    let object = c.args.object in
    of-cut (λ d. laid_at in_json d (ByHandle object.handle) ++ closing object.kind) c.from_residual.ensures.0
    (of-one {owed = λ d. opening object.kind} c.in_err-write_all.ensures (λ d st. c.opening.ensures))

pub returns-in_err-put_content : goal.returns-in_err-put_content
returns-in_err-put_content g c =
    let object = c.args.object in
    of-then (of-one {owed = λ d. opening object.kind} c.in_ok-write_all.ensures (λ d st. c.opening.ensures))
    (of-cut (λ d. closing object.kind) c.from_residual-in_err-put_content.ensures.0 c.in_err-put_content.ensures)

pub returns : goal.returns
returns g c =
    let object = c.args.object in
    of-then (of-one {owed = λ d. opening object.kind} c.in_ok-write_all.ensures (λ d st. c.opening.ensures))
    (of-then c.in_ok-put_content.ensures
    (of-one {owed = λ d. closing object.kind} c.write_all-2.ensures (λ d st. c.closing.ensures)))
