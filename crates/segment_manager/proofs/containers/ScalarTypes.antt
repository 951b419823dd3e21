-- The bound of a type on its values and their numbers, for lemmas on vectors and on maps.
use Rattle.seg_types.specs.contracts.scalars.Scalar.TheBound.{Met}
use Rattle.segment_manager.proofs.{containers.PairNumbers.IsScalarOf, objects.Stored.IsOfKind}

-- a scalar type is of its kind
pub of-vector : {M U l m r e series s sd p pd c cd : _} → Met {M = M} {𝓤 = U} l m r e series s sd p pd c cd
    → IsOfKind s.kind s.whole p.SIZE p.is_value p.spelling
of-vector t = record { long = t.size; values = t.values; spelled = t.spelled; reached = t.reached }

-- a scalar type belongs to its kind
pub of-map : {M U l m r e series s sd p pd c cd : _} → Met {M = M} {𝓤 = U} l m r e series s sd p pd c cd
    → IsScalarOf s.kind p s.whole
of-map t = record { long = t.size; values = t.values; spelled = t.spelled; ordered = t.ordered; reached = t.reached }
