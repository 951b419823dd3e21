use Rattle.segment_dump.proofs.json.InJsonObjectWriter.tell.Goals as goal
use Rattle.segment_dump.proofs.Common.{◌++◌, ap, refl, ByHandle, laid_at}
use Rattle.segment_dump.specs.Json.{closing, in_json, json_key, json_kind, opening}
use Rattle.segment_dump.proofs.{dumping.ObjectParts.said-here, dumping.Json.kind-said, dumping.Json.line-said}
use Rattle.segment_dump.proofs.dumping.Output.{of-cut, of-one, of-same, of-then}

pub object_here-object-requires : goal.object_here-object-requires
object_here-object-requires g c = said-here c.args.segment.now c.args.said c.requires.text

pub count_of-count-requires : goal.count_of-count-requires
count_of-count-requires g c = c.object_here-object.ensures.location

pub put_value-requires-clause-object : goal.put_value-requires-clause-object
put_value-requires-clause-object g c = c.object_here-object.ensures.location

pub returns-in_err-put_key : goal.returns-in_err-put_key
returns-in_err-put_key g c =
    let said = c.args.said in
    of-same (of-cut (λ d. json_kind said.kind
    ++ (opening said.kind ++ (laid_at in_json d (ByHandle said.handle) ++ closing said.kind))) c.from_residual.ensures.0
    (of-one {owed = λ d. json_key said.class said.name.now} c.in_err-put_key.ensures (λ d st. refl)))
    (line-said c.args.segment.now said c.requires.text)

pub returns-in_err-put_kind : goal.returns-in_err-put_kind
returns-in_err-put_kind g c =
    let said = c.args.said in
    of-same (of-then (of-one {owed = λ d. json_key said.class said.name.now} c.in_ok-put_key.ensures (λ d st. refl))
    (of-cut (λ d. opening said.kind ++ (laid_at in_json d (ByHandle said.handle) ++ closing said.kind))
    c.from_residual-in_err-put_kind.ensures.0
    (of-one {owed = λ d. json_kind said.kind} c.in_err-put_kind.ensures (λ d st. refl))))
    (line-said c.args.segment.now said c.requires.text)

pub returns : goal.returns
returns g c =
    let said = c.args.said in
    of-same (of-then (of-one {owed = λ d. json_key said.class said.name.now} c.in_ok-put_key.ensures (λ d st. refl))
    (of-then (of-one {owed = λ d. json_kind said.kind} c.in_ok-put_kind.ensures (λ d st. refl))
    (of-same (rw c.object_here-object.ensures.handle at c.put_value.ensures)
    (λ d st. ap (λ k. opening k ++ (laid_at in_json d (ByHandle said.handle) ++ closing k))
    (kind-said c.args.segment.now said c.object_here-object.result c.requires.text
    c.object_here-object.ensures.handle c.object_here-object.ensures.location d st)))))
    (line-said c.args.segment.now said c.requires.text)
