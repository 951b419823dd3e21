-- A key that a map lacks: what the map is known to lack under the handle of its object, it lacks under the key.
use Rattle.std.proofs.Common.{◌≡◌, sym, ap, ◌∙◌, Ok}
use Rattle.seg_types.specs.{declared.kinds.Kind.Kind, declared.kinds.Kind.TheVariants.Map, Commands.Literal, Names.Key}
use Rattle.seg_types.specs.{declared.kinds.ScalarKind.ScalarKind, Names.ByHandle}
use Rattle.seg_types.specs.{declared.values.ScalarValue.ScalarValue, Commands.value_of_literal, Values.value_of_scalar}
use Rattle.seg_types.specs.Literals.{IsValueOf}
use Rattle.segment_manager.specs.{declared.objects.object_ref.Object.Object as Located}
use Rattle.segment_manager.specs.{Keeping.UnchangedWhere, Keeping.LacksPair, State.SegmentState}
use Rattle.segment_manager.specs.{objects.Located.IsLocated, containers.Walks.pairs_at}
use Rattle.segment_manager.proofs.Laws.{kind-by_key, same-object}
use Rattle.segment_values.specs.Absent.{LacksLiteral}

-- erasing a key that a map lacks changes nothing
pub erases-absent : (s new : SegmentState) (key : Key) (o : Located) (k v : ScalarKind) (l : Literal)
    (x : ScalarValue) → IsLocated s key o → o.kind ≡ Map k v → IsValueOf k (value_of_literal k l) (Ok x)
    → UnchangedWhere s new (LacksPair (ByHandle o.handle) (value_of_scalar x))
    → UnchangedWhere s new (LacksLiteral key l)
erases-absent s new key o k v l x located is (same, read, good) keeps = λ d st lacks.
    let kind : Ok (Map k v) ≡ Ok (Map lacks.keys lacks.values) =
    ap (λ (n : Kind). Ok n) (sym is) ∙ (kind-by_key s key o located).answers d st ∙ lacks.is in
    let keys : k ≡ lacks.keys = cc in let again = rw (← keys) at lacks.read in
    let number : value_of_scalar x ≡ lacks.number = cc in
    keeps d st (rw (number, ← same-object s key o located d st, pairs_at) lacks.lacks)
