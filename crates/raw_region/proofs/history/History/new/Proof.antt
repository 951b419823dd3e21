-- A new history is empty. Assumes `Logic`.
use Rattle.std.proofs.Common.{[], ◌∷◌, refl}
use mir.Val.{Val}
use base.Logic.{SProp}
use contract.Running.{tables}
use types.Kit.{‵, raw, ◌⊛◌, ◌$◌, ◌∵◌, !, qed, keep, fjoin, suffices, done}
use types.Part.{agg}
use types.Run.{enter, returns, no_more}
use types.ByLocal.{alloc_all, pass_all, free_all, look_at, sets}
use denote.RattleType.{owns}
use denote.Signature.{types_at}
use denote.Steps.{nothing}
use denote.Triple.Entry.{alive}
use denote.Triple.Walked.{says, Stays, walk_of, ends_at}
use Rattle.std.proofs.raw_atomic.Walks.{proved_at}
use Rattle.raw_region.proofs.block.Values.{none, none_made}
use Rattle.raw_region.specs.contracts.history.History.new as F
use Rattle.raw_region.specs.contracts.history.History.new.Key.{name as #self}
use Rattle.raw_region.proofs.history.History.new.Statement.{statement}
use Rattle.raw_region.proofs.history.History.new.Code as code

abbrev stayed : Stays F.ended.signature.params F.ended.kept
stayed = tt

pub new_spec : {M : Type 1} → statement M
new_spec 𝓤 𝓛 𝓜 𝓡 wired =
    let c = F.clauses 𝓛 𝓜.mem 𝓡.returns in
    let C = (tables 𝓤 𝓛.H 𝓜 𝓡 𝓡.env).C in let Λ = (tables 𝓤 𝓛.H 𝓜 𝓡 𝓡.env).Λ in
    proved_at 𝓛 F.ended stayed c 𝓜 𝓡 tt #self code.function (code.unfolded 𝓤 𝓛.H 𝓜 𝓡 wired) (λ z are.
    let Post : Val → SProp 𝓤 = (walk_of 𝓛 F.ended stayed c).post z in
    qed 𝓛 ((raw (alive 𝓛 F.ended.signature z.0.0 z.0.1) ⊛ ‵
    (owns (types_at F.ended.signature.params z.0.0) z.0.3 z.0.4)) ∷ ‵ base.Fml.ftrue ∷ []) ∵
    keep ! [] $ enter ! C Λ code.function [] Post $ alloc_all ! (λ l. pass_all ! refl tt $
    sets ! (agg ! (no_more !)) refl (tt, tt) $ returns ! (look_at ! 0 refl) $ free_all ! refl $
    nothing ! $ none_made ! $ fjoin ! $
    suffices ! _ (ends_at 𝓛 F.ended stayed c z none (record { bytes = []; count = 0 }) tt tt) $ says ! (refl, refl) $
    nothing ! $ nothing ! $ done !))
