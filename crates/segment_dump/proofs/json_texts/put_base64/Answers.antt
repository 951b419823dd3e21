use Rattle.segment_dump.proofs.json_texts.put_base64.Goals as goal
use Rattle.segment_dump.proofs.{Common.[], Common.refl, dumping.Output.writes_none}
use Rattle.segment_dump.proofs.texts.Base64.{group-prefix, left-cut, left-last, left-more}

pub groups-init : goal.groups-init
groups-init g c = record { taken = []; told = writes_none (g.W.Sink.history c.args.out.now) 0 [] refl; all = refl }

pub groups-preserved : goal.groups-preserved
groups-preserved g c = left-more _ _ _ _ _ _ _ _ _ _ c.groups.invariant
    (group-prefix c.groups.rest.now c.in-len3-up.len_at_least) c.in_ok-put_group.ensures

pub returns-in_err-put_group : goal.returns-in_err-put_group
returns-in_err-put_group g c = left-cut _ _ _ _ _ _ _ _ _ _ _ c.groups.invariant
    (group-prefix c.groups.rest.now c.in-len3-up.len_at_least) c.from_residual.ensures.0 c.in_err-put_group.ensures

pub returns : goal.returns
returns g c = left-last _ _ _ _ _ _ c.groups.invariant c.put_last.ensures
