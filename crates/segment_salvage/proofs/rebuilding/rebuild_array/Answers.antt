-- An array whose values stand in the image is made.
use Rattle.segment_salvage.proofs.Calls.{values-stand}
use Rattle.segment_salvage.proofs.rebuilding.rebuild_array.Goals as goal

pub returns-clause-effect : goal.returns-clause-effect
returns-clause-effect g c =
    values-stand g.T.Scalar.whole c.args.image.now _ _ c.args._at c.args.head.value _ g.T.Scalar.kind _ _ _ _ _
    c.construct_array.ensures.step c.requires.head c.in-Some.ensures.bytes c.in-Some.ensures.len
    (rw c.in-Some-2.is at c.in_ok-scalars.ensures.bytes) c.deref.ensures.value

pub returns-in_err-construct_array-clause-effect : goal.returns-in_err-construct_array-clause-effect
returns-in_err-construct_array-clause-effect g c =
    values-stand g.T.Scalar.whole c.args.image.now _ _ c.args._at c.args.head.value _ g.T.Scalar.kind _ _ _ _ _
    c.construct_array.ensures.step c.requires.head c.in-Some.ensures.bytes c.in-Some.ensures.len
    (rw c.in-Some-2.is at c.in_ok-scalars.ensures.bytes) c.deref.ensures.value
