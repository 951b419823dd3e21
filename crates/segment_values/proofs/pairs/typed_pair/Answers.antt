-- The pair that the map's own call finds.
use Rattle.std.proofs.Common.{Ok}
use Rattle.segment_manager.specs.containers.Maps.{answer_of_map, numbers_in, pair_above, pair_from}
use Rattle.segment_manager.specs.{objects.BoundObjects.key_of, State.AnswersWith}
use Rattle.segment_manager.proofs.{Laws.of-bound, NextPairs.pair-walked}
use Rattle.segment_values.proofs.Located.{bound-map}
use Rattle.segment_values.proofs.pairs.typed_pair.Goals as goal

pub returns-then-above : goal.returns-then-above
returns-then-above g c =
    let k = g.K.Scalar.kind in let v = g.V.Scalar.kind in let say = pair_above (g.K.Scalar.whole c.args.bound) in
    let r = Ok (numbers_in g.K.Scalar.whole g.V.Scalar.whole c.next_after.result) in
    rw c.if-above.true
    (pair-walked c.args.segment.now (key_of c.args.object) k v (bound-map c.requires) say r
    (of-bound (λ o s. AnswersWith s (λ d. answer_of_map d (key_of o) k v say) r) c.at-map.ensures.object
    c.at-map.ensures.segment c.next_after.ensures))

pub returns-else-above : goal.returns-else-above
returns-else-above g c =
    let k = g.K.Scalar.kind in let v = g.V.Scalar.kind in let say = pair_from (g.K.Scalar.whole c.args.bound) in
    let r = Ok (numbers_in g.K.Scalar.whole g.V.Scalar.whole c.first_from.result) in
    rw c.if-above.false
    (pair-walked c.args.segment.now (key_of c.args.object) k v (bound-map c.requires) say r
    (of-bound (λ o s. AnswersWith s (λ d. answer_of_map d (key_of o) k v say) r) c.at-map.ensures.object
    c.at-map.ensures.segment c.first_from.ensures))
