-- `into_lent_bytes` makes the one struct of the other, which owns the same. Assumes `Logic`.
use Rattle.std.proofs.Common.{◌≡◌, List, [], ◌∷◌, ◌++◌, refl}
use mir.Val.{Val}
use base.Logic.{SProp, emp}
use base.Fml.{ftrue}
use prog.Wp.{WpFn}
use types.Kit.{‵, raw, ◌⊛◌, prop, ◌$◌, ◌∵◌, !, qed, by, move, keep, split, regoal, fsplit, fjoin, use0}
use types.Run.{no_more, returns, enter}
use types.ByLocal.{alloc_all, pass_all, free_all, look_at, sets}
use types.Part.{agg}
use contract.Monad.{fact, fact_i}
use contract.Running.{tables}
use denote.RattleType.{owns}
use denote.Signature.{types_at, plain}
use denote.Steps.{nothing}
use denote.Triple.Walked.{Stays, stay_dropped, walk_of}
use Rattle.std.proofs.alloc.Calls.{Goes-blank}
use Rattle.std.proofs.raw_atomic.Walks.{proved_at, leaves}
use Rattle.raw_region.proofs.block.Values.{none, none_had, none_made}
use Rattle.raw_region.specs.contracts.block.Block as from
use Rattle.raw_region.specs.contracts.block.into_lent_bytes as f
use Rattle.raw_region.proofs.block.into_lent_bytes.Statement.{statement}
use Rattle.raw_region.proofs.block.into_lent_bytes.Code as code

abbrev stayed : Stays f.ended.signature.params f.ended.kept
stayed = (stay_dropped _ f.ended.kept.0, tt)

pub into_lent_bytes_spec : {M : Type 1} → statement M
into_lent_bytes_spec 𝓤 𝓛 𝓜 𝓡 wired =
    let H = 𝓛.H in let 𝓣 = tables 𝓤 H 𝓜 𝓡 𝓡.env in let En = f.ended in let c = f.clauses 𝓛 𝓜.mem 𝓡.returns
    in let fn = code.function in
    proved_at 𝓛 En stayed c 𝓜 𝓡 (
      Goes-blank 𝓛 0 (plain (λ _. from.the_row)) En.kept.0 (λ κs x w. tt),
      tt,
    ) f.Key.name fn (code.unfolded 𝓤 H 𝓜 𝓡 wired) (λ z are.
    let κs = z.0.0 in let d = z.0.3.0 in let Post : Val → SProp 𝓤 = (walk_of 𝓛 En stayed c).post z in
    qed 𝓛 ((‵ ftrue ⊛ ‵ (owns (types_at En.signature.params κs) z.0.3 z.0.4)) ∷ raw ((c κs z.0.3).requires z.1)
    ∷ []) ∵ split ! $ move ! (1 ∷ []) $ fsplit ! $ fsplit ! $ none_had ! z.0.4.0 (λ is.
    -- [the bytes; ..]
    regoal ! (λ (us : List Val). prop (WpFn 𝓤 H 𝓣.C 𝓣.Λ fn us Post)) (λ i. is i ++ []) refl $
    enter ! 𝓣.C 𝓣.Λ fn (none ∷ []) Post $ alloc_all ! (λ l.
    pass_all ! refl ((tt, tt), tt) $ sets ! (agg ! (no_more !)) refl (tt, tt) $
    returns ! (look_at ! 0 refl) $ free_all ! refl $ none_made ! $ fjoin ! $
    use0 𝓛 (raw (fact 𝓤 ((d.place ≡ d.place) × (d.items ≡ d.items)))) (fact_i 𝓤 _ (emp 𝓤) (refl, refl)) $ nothing !
    $ nothing ! $ fjoin ! $
    keep ! (4 ∷ 0 ∷ 2 ∷ 1 ∷ []) $ by !
    (leaves 𝓛 En stayed c z none (record { place = d.place; items = d.items }) (tt, tt) (tt, tt)))))
