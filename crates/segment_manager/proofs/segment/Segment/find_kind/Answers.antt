-- The object that was found has this kind and this count.
use Rattle.segment_manager.proofs.segment.Segment.find_kind.Goals as goal
use Rattle.segment_manager.proofs.Common.{exit-is, key_seen}
use Rattle.segment_manager.proofs.objects.Destroys.{find-absent, find-there, seen-object}

pub returns-in_default : goal.returns-in_default
returns-in_default c = find-absent (key_seen c.args.key.now) c.args.kind c.in_default.ensures

pub found_of-requires : goal.found_of-requires
found_of-requires c = seen-object _ _ c.self.view_is (key_seen c.args.key.now) _ c.self.invariant c.in-Some.ensures

pub returns-in_err-found : goal.returns-in_err-found
returns-in_err-found c = rw (exit-is c.from_residual.result _ c.from_residual.ensures.1)
    (find-there c.self.view_is (key_seen c.args.key.now) c.args.kind c.in-Some.ensures c.in_err-found.ensures)

pub returns : goal.returns
returns c = find-there c.self.view_is (key_seen c.args.key.now) c.args.kind c.in-Some.ensures c.in_ok-found.ensures
