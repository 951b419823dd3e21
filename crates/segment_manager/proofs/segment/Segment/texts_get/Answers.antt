-- The text is an element of the vector of strings that is found.
use Rattle.segment_manager.proofs.Common.{exit-is, refl, Get, StringsKind}
use Rattle.segment_manager.proofs.bound.ByKey.{lacks-replies, replies}
use Rattle.segment_manager.proofs.segment.Segment.texts_get.Goals as goal

pub returns-in_err-of : goal.returns-in_err-of
returns-in_err-of g c = rw (exit-is c.from_residual.result _ c.from_residual.ensures.1) (lacks-replies c.args.self.now
    (g.O.ObjectRef.key c.args.key.now) StringsKind _ (Get (g.O.ObjectRef.key c.args.key.now) c.args.index) refl
    c.in_err-of.ensures.location)

pub returns : goal.returns
returns g c = replies c.in_ok-of.ensures.segment c.in_ok-of.ensures.location StringsKind
    (Get (g.O.ObjectRef.key c.args.key.now) c.args.index) c.get.ensures.reply
