-- The head has the class.
use Rattle.segment_manager.proofs.segment.Segment.instance_class.Goals as goal
use Rattle.segment_manager.proofs.{Common.key_seen, objects.Destroys.seen-object, objects.Destroys.seen-tells}

pub read_head-requires : goal.read_head-requires
read_head-requires c = seen-object _ _ c.self.view_is (key_seen c.args.key.now) _ c.self.invariant c.in-Some.ensures

pub returns-in-Some : goal.returns-in-Some
returns-in-Some c = seen-tells c.self.view_is (key_seen c.args.key.now) (λ o. o.class) c.in-Some.ensures
    (λ o h. (c.read_head.ensures o h).class)
