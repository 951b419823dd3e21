-- `closed` makes a handle that is null.
use Rattle.segment_c.specs.contracts.slot.HeldSegment.closed as f
use Rattle.segment_c.proofs.slot.HeldSegment.closed.Code as code
use Rattle.std.proofs.Common.{◌≡◌, List, [], ◌∷◌, ◌++◌, refl, sym, subst}
use mir.Val.{Val}
use base.Logic.{SProp, ent, emp, id⊢}
use base.Fml.{ftrue}
use prog.Wp.{WpFn}
use types.Kit.{‵, raw, ◌⊛◌, ◌$◌, ◌∵◌, !, qed, by, move, keep, split, fsplit, fjoin, suffices, use0, feq_i}
use types.Run.{lit, no_more, and_then, returns, enter}
use types.ByLocal.{alloc_all, pass_all, free_all, look_at, get, sets}
use types.Part.{agg}
use contract.Monad.{fact, fact_i}
use contract.Running.{tables}
use denote.RattleType.{owns}
use denote.Signature.{types_at, plain}
use denote.RawPtr.{Ptr, null_ptr, ptr_val}
use denote.Steps.{nothing}
use denote.Triple.Walked.{Stays, stay_dropped, walk_of, Goes-dropped}
use Rattle.std.proofs.{alloc.Calls.handle_tells, raw_atomic.Walks.proved_at, raw_atomic.Walks.leaves}
use Rattle.std.specs.{declared.option.Option.Option, declared.option.Option.TheVariants.None}
use Rattle.boxed.proofs.Values.{both}
use Rattle.segment_c.proofs.slot.MachineValues.{Z, al, null_good, handle_in}
use Rattle.segment_manager.specs.contracts.Segment.{the_row as R}
use Rattle.segment_c.proofs.slot.HeldSegment.closed.Statement.{statement}

abbrev hs : Stays f.ended.signature.params f.ended.kept
hs = (stay_dropped _ f.ended.kept.0, tt)

pub closed_spec : {M : Type 1} → statement M
closed_spec 𝓤 𝓛 𝓜 𝓡 wired =
    let H = 𝓛.H in let 𝓣 = tables 𝓤 H 𝓜 𝓡 𝓡.env in let En = f.ended in let c = f.clauses 𝓛 𝓜.mem 𝓡.returns
    in let fn = code.function in
    proved_at 𝓛 En hs c 𝓜 𝓡 (
      Goes-dropped 𝓛 0 (plain (λ _. Z)) En.kept.0 (λ κs x w. refl),
      tt,
    ) f.Key.name fn (code.unfolded 𝓤 H 𝓜 𝓡 wired) (λ z are.
    let none : Option R.Denot = None in let κs = z.0.0 in let a = z.0.3.0 in let Post : Val → SProp 𝓤 =
    (walk_of 𝓛 En hs c).post z in let Run : List Val → SProp 𝓤 = λ ws. WpFn 𝓤 H 𝓣.C 𝓣.Λ fn ws Post in
    qed 𝓛 ((‵ ftrue ⊛ ‵ (owns (types_at En.signature.params κs) z.0.3 z.0.4)) ∷ raw ((c κs z.0.3).requires z.1)
    ∷ []) ∵ split ! $ move ! (1 ∷ []) $ fsplit ! $ handle_tells al ! a z.0.4.0 (λ h ws fits.
    suffices ! (Run (h ∷ [])) (subst (λ (us : List Val).
    ent 𝓤 (Run (h ∷ [])) (Run us)) (sym (λ i. ws i ++ [])) (id⊢ 𝓤 (Run (h ∷ [])))) $
    enter ! 𝓣.C 𝓣.Λ fn (h ∷ []) Post $ alloc_all ! (λ l.
    pass_all ! refl (fits, tt) $ sets ! (agg ! (and_then ! (lit ! tt) (and_then ! (get ! refl) (no_more !)))) refl
    (null_good h fits) $
    feq_i ! Ptr null_ptr null_ptr refl $ handle_in ! null_ptr h a None $ use0 𝓛 (raw (fact 𝓤 (none ≡ none)))
    (fact_i 𝓤 (none ≡ none) (emp 𝓤) refl) $ nothing ! $ nothing ! $ fjoin ! $
    returns ! (look_at ! 0 refl) $ free_all ! refl $ keep ! (4 ∷ 0 ∷ 2 ∷ 1 ∷ []) $ by !
    (leaves 𝓛 En hs c z (both (ptr_val null_ptr) h) (record { at = null_ptr; alloc = a; value = None }) (
      tt,
      tt,
    ) (tt, tt)))))
