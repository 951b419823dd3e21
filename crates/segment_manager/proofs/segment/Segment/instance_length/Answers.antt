-- The head has the count.
use Rattle.segment_manager.proofs.segment.Segment.instance_length.Goals as goal
use Rattle.segment_manager.proofs.Common.{count_of, key_seen, ◌∙◌}
use Rattle.segment_manager.proofs.objects.Destroys.{seen-object, seen-tells}

pub read_head-requires : goal.read_head-requires
read_head-requires c = seen-object _ _ c.self.view_is (key_seen c.args.key.now) _ c.self.invariant c.in-Some.ensures

pub returns-in-Some : goal.returns-in-Some
returns-in-Some c = seen-tells c.self.view_is (key_seen c.args.key.now) (λ o. count_of o.value) c.in-Some.ensures
    (λ o h. c.from.ensures ∙ (c.read_head.ensures o h).count)
