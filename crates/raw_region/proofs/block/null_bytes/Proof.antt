-- `null_bytes` makes a null pointer, and a struct that owns no byte. Assumes `Logic`.
use Rattle.std.proofs.Common.{◌≡◌, ℕ, List, [], ◌∷◌, refl, lit<}
use mir.Val.{Val}
use base.Logic.{SProp, emp}
use base.Fml.{ftrue}
use types.Kit.{‵, raw, ◌⊛◌, ◌$◌, ◌∵◌, !, qed, by, move, keep, split, fjoin, feq_i, use0}
use types.Run.{lit, no_more, and_then, returns, enter}
use types.ByLocal.{alloc_all, pass_all, free_all, look_at, get, sets}
use types.Part.{agg}
use contract.Monad.{fact, fact_i}
use contract.Running.{tables}
use denote.RattleType.{owns}
use denote.Builtin.{RawPtr}
use denote.Signature.{types_at}
use denote.RawPtr.{null_ptr, ptr_val}
use denote.Steps.{nothing}
use denote.Triple.Walked.{Stays, walk_of}
use Rattle.std.proofs.raw_atomic.Walks.{proved_at, leaves}
use Rattle.raw_region.proofs.block.Values.{none, none_made, two, two_made}
use Rattle.raw_region.specs.contracts.block.LentBytes as lent
use Rattle.raw_region.specs.contracts.block.null_bytes as f
use Rattle.raw_region.proofs.block.null_bytes.Statement.{statement}
use Rattle.raw_region.proofs.block.null_bytes.Code as code

abbrev stayed : Stays f.ended.signature.params f.ended.kept
stayed = tt

pub null_bytes_spec : {M : Type 1} → statement M
null_bytes_spec 𝓤 𝓛 𝓜 𝓡 wired =
    let H = 𝓛.H in let 𝓣 = tables 𝓤 H 𝓜 𝓡 𝓡.env in let En = f.ended in let c = f.clauses 𝓛 𝓜.mem 𝓡.returns
    in let fn = code.function in
    proved_at 𝓛 En stayed c 𝓜 𝓡 tt f.Key.name fn (code.unfolded 𝓤 H 𝓜 𝓡 wired) (λ z are.
    let κs = z.0.0 in let Post : Val → SProp 𝓤 = (walk_of 𝓛 En stayed c).post z in
    let no : List ℕ = [] in let d : (lent.the_row).Denot = record { place = null_ptr; items = no }
    in let made : Val = two (ptr_val null_ptr) none in
    qed 𝓛 ((‵ ftrue ⊛ ‵ (owns (types_at En.signature.params κs) z.0.3 z.0.4)) ∷ raw ((c κs z.0.3).requires z.1)
    ∷ []) ∵ split ! $ move ! (1 ∷ []) $
    enter ! 𝓣.C 𝓣.Λ fn [] Post $ alloc_all ! (λ l. pass_all ! refl tt $
    sets ! (agg ! (no_more !)) refl (
      tt,
      tt,
    ) $ sets ! (agg ! (and_then ! (lit ! tt) (and_then ! (get ! refl) (no_more !)))) refl (
      tt,
      (record { fits = lit< tt }, (tt, tt)),
    ) $
    returns ! (look_at ! 0 refl) $ free_all ! refl $ nothing ! $ none_made ! $ fjoin ! $ feq_i ! (List Val)
    (ptr_val null_ptr ∷ []) (ptr_val null_ptr ∷ []) refl $
    two_made ! RawPtr lent.the_row null_ptr d (ptr_val null_ptr) none $
    use0 𝓛 (raw (fact 𝓤 ((null_ptr ≡ null_ptr) × (no ≡ no)))) (fact_i 𝓤 _ (emp 𝓤) (refl, refl)) $ nothing ! $
    keep ! (4 ∷ 0 ∷ 2 ∷ 1 ∷ []) $ by ! (leaves 𝓛 En stayed c z made (null_ptr, d) tt tt)))
