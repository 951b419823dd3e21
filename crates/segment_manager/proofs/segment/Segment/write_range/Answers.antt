-- The object's kind decides which call it is, and a write for its handle is a write for the key.
use Rattle.best_fit.proofs.Laws.{gaps-refl}
use Rattle.segment_manager.proofs.Common.{ScalarKind, SegmentState, Vector, WrongKind, ap, exit-is, false, is_read_only}
use Rattle.segment_manager.proofs.Common.{◌∙◌, ◌≡◌, Answer, ByHandle, IsLocated, Key, List, Located, Refused, Scalar}
use Rattle.segment_manager.proofs.containers.RangeCalls.{other-kind, range-by_key}
use Rattle.segment_manager.proofs.objects.Locating.{located-here}
use Rattle.segment_manager.proofs.{Common.map, Common.rules, Common.sym, Common.ℕ, Common.ℤ, bound.ByKey.of-change}
use Rattle.segment_manager.specs.containers.Ranges.{WritesRange}
use Rattle.segment_manager.proofs.segment.Segment.write_range.Goals as goal

-- the write to the bound object, under the key
of-key : {s t new last : SegmentState} {key : Key} {o p q : Located} → IsLocated s key o → q ≡ o → p ≡ q → t ≡ s
    → new ≡ last → (k : ScalarKind) (first : ℕ) (zs : List ℤ) {answer : Answer}
    → WritesRange t new (ByHandle p.handle) k first zs answer → WritesRange s last key k first zs answer
of-key {s} {last = last} {key} {o} l e f same ends k first zs {answer} m = range-by_key s last key o l k first zs answer
    (of-change (λ (r : Located) (u v : SegmentState). WritesRange u v (ByHandle r.handle) k first zs answer) (f ∙ e)
    same ends m)

-- the object is neither an array nor a vector of the kind
other-by_key : {s : SegmentState} {key : Key} {o : Located} → IsLocated s key o → (k : ScalarKind) (first : ℕ)
    (zs : List ℤ) → is_read_only s.mode ≡ false → (o.kind ≡ Vector k → ⊥) → (o.kind ≡ Scalar k → ⊥)
    → WritesRange s s key k first zs (Refused WrongKind)
other-by_key {s} {key} {o} l k first zs writing vector array = range-by_key s s key o l k first zs (Refused WrongKind)
    (other-kind s o (located-here s key o l) k first zs writing vector array)

pub returns-in-Ok-clause-step : goal.returns-in-Ok-clause-step
returns-in-Ok-clause-step g c = let e : c.overwrite.new.self.segment.now ≡ c.self-1.given.0 = search rules in
    of-key c.in_ok-object.ensures c.in-Ok.ensures.0 c.at.ensures.object c.at.ensures.segment e g.T.Scalar.kind
    c.args.first (map g.T.Scalar.whole c.args.values.now) c.overwrite.ensures.step

pub returns-in_err-array-clause-step : goal.returns-in_err-array-clause-step
returns-in_err-array-clause-step g c = rw (exit-is c.from_residual-in_err-array.result _
    c.from_residual-in_err-array.ensures.1) (rw c.in_err-array.ensures.0 (other-by_key c.in_ok-object.ensures
    g.T.Scalar.kind c.args.first (map g.T.Scalar.whole c.args.values.now)
    (sym c.is_read_only.ensures ∙ c.if-is_read_only.false)
    (λ e. c.in_default.ensures.1 (e ∙ ap Vector (sym c.kind.ensures)))
    (λ e. c.in_err-array.ensures.1 (e ∙ ap Scalar (sym c.kind-2.ensures)))))

pub returns-in_err-array-clause-gaps : goal.returns-in_err-array-clause-gaps
returns-in_err-array-clause-gaps g c = gaps-refl _

pub returns-clause-step : goal.returns-clause-step
returns-clause-step g c = let e : c.overwrite-2.new.self.segment.now ≡ c.self-2-1.given.0 = search rules in
    of-key c.in_ok-object.ensures c.in_ok-array.ensures.0 c.at-2.ensures.object c.at-2.ensures.segment e
    g.T.Scalar.kind c.args.first (map g.T.Scalar.whole c.args.values.now) c.overwrite-2.ensures.step
