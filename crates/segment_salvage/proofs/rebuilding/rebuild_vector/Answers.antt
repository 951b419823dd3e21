-- A vector whose values stand in the image is made.
use Rattle.segment_salvage.proofs.Calls.{vector-stands}
use Rattle.segment_salvage.proofs.rebuilding.rebuild_vector.Goals as goal

pub returns-clause-effect : goal.returns-clause-effect
returns-clause-effect g c =
    vector-stands g.T.Scalar.whole c.args.image.now _ _ c.args._at c.args.head.value _ g.T.Scalar.kind _ _ _ _ _
    c.construct_vec.ensures.step c.requires.head c.in-Some.ensures.content
    (rw c.in-Some-2.is at c.in_ok-scalars.ensures.bytes) (rw c.in-Some-2.is at c.in_ok-scalars.ensures.count)
    c.deref.ensures.value

pub returns-in_err-construct_vec-clause-effect : goal.returns-in_err-construct_vec-clause-effect
returns-in_err-construct_vec-clause-effect g c =
    vector-stands g.T.Scalar.whole c.args.image.now _ _ c.args._at c.args.head.value _ g.T.Scalar.kind _ _ _ _ _
    c.construct_vec.ensures.step c.requires.head c.in-Some.ensures.content
    (rw c.in-Some-2.is at c.in_ok-scalars.ensures.bytes) (rw c.in-Some-2.is at c.in_ok-scalars.ensures.count)
    c.deref.ensures.value
