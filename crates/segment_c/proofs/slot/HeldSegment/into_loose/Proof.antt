-- `into_loose` tests the pointer.
use Rattle.segment_c.specs.contracts.slot.HeldSegment as handle
use Rattle.segment_c.specs.contracts.slot.HeldSegment.into_loose as f
use Rattle.segment_c.proofs.slot.HeldSegment.into_loose.Code as code
use Rattle.std.proofs.Common.{◌≡◌, List, [], ◌∷◌, ◌++◌, refl, sym, ap, ◌∙◌, subst, lit<}
use mir.Val.{Val, vptr, vcons, vnil}
use base.Logic.{SProp, ent, emp, id⊢}
use base.Fml.{ftrue}
use prog.Wp.{WpFn}
use types.Kit.{‵, raw, ◌⊛◌, at_ret, ◌$◌, ◌∵◌, !, qed, by, move, keep, split, fsplit, fjoin, suffices, use0, use1}
use types.Run.{stop, fld, lit, of_opd, bin, no_more, and_then, first, branches, skips, exec, returns, returns_within}
use types.Run.{enter}
use types.ByLocal.{alloc_all, pass_all, free_all, look_at, get, get_in, sets, env}
use types.Part.{agg, sub, whole}
use types.Match.{live}
use contract.Monad.{fact, fact_i}
use contract.Running.{tables}
use denote.RattleType.{RattleType, owns}
use denote.Signature.{types_at, type_at, plain}
use denote.RawPtr.{Ptr, block_ptr, null_ptr, ptr_val, tests_null}
use denote.Steps.{nothing}
use denote.Param.{layout}
use denote.Triple.Walked.{Stays, stay_dropped, walk_of}
use Rattle.std.proofs.{alloc.Calls.Goes-blank, alloc.Shapes.after, cell.Inside.Good, option.Made.Some-of}
use Rattle.std.proofs.{option.Made.none_of, ResultValues.and_tt, raw_atomic.Walks.proved_at, raw_atomic.Walks.leaves}
use Rattle.std.specs.declared.option.Option.TheVariants.{None, Some}
use Rattle.std.specs.contracts.impls.GlobalAllocator.TheImpl.{ghosts}
use Rattle.boxed.proofs.Values.{both, LooseRow, fits_pair, loose_made}
use Rattle.segment_c.proofs.slot.MachineValues.{Z, LZ, null_good, either, handle_out}
use Rattle.segment_manager.specs.contracts.Segment.{the_row as R}
use Rattle.segment_c.proofs.slot.HeldSegment.into_loose.Statement.{statement}

abbrev hs : Stays f.ended.signature.params f.ended.kept
hs = (stay_dropped _ f.ended.kept.0, tt)

abbrev Lr : RattleType
Lr = LooseRow R Z LZ ghosts

pub into_loose_spec : {M : Type 1} → statement M
into_loose_spec 𝓤 𝓛 𝓜 𝓡 wired =
    let H = 𝓛.H in let 𝓣 = tables 𝓤 H 𝓜 𝓡 𝓡.env in let En = f.ended in let c = f.clauses 𝓛 𝓜.mem 𝓡.returns
    in let fn = code.function in
    proved_at 𝓛 En hs c 𝓜 𝓡 (
      Goes-blank 𝓛 0 (plain (λ _. handle.the_row)) En.kept.0 (λ κs x w. tt),
      tt,
    ) f.Key.name fn (code.unfolded 𝓤 H 𝓜 𝓡 wired) (λ z are.
    let κs = z.0.0 in let v = z.0.3.0 in let a = v.alloc in let Post : Val → SProp 𝓤 = (walk_of 𝓛 En hs c).post z
    in let Run : List Val → SProp 𝓤 = λ ws. WpFn 𝓤 H 𝓣.C 𝓣.Λ fn ws Post in
    let Out : RattleType = type_at En.signature.result κs in
    qed 𝓛 ((‵ ftrue ⊛ ‵ (owns (types_at En.signature.params κs) z.0.3 z.0.4)) ∷ raw ((c κs z.0.3).requires z.1)
    ∷ []) ∵ split ! $ move ! (1 ∷ []) $ fsplit ! $ handle_out ! v z.0.4.0 (λ h ws fits. either ! v.at a v.value
    (λ en ev. let w : Val = both (ptr_val null_ptr) h in let is = ws ∙ ap (λ (p : Ptr). both (ptr_val p) h ∷ []) en in
    suffices ! (Run (w ∷ [])) (subst (λ (us : List Val).
    ent 𝓤 (Run (w ∷ [])) (Run us)) (sym (λ i. is i ++ [])) (id⊢ 𝓤 (Run (w ∷ [])))) $
    enter ! 𝓣.C 𝓣.Λ fn (w ∷ []) Post $ alloc_all ! (λ l. pass_all ! refl (null_good h fits, tt) $
    sets ! (of_opd ! (get_in ! (fld ! refl (stop !)) (sub ! 0 refl (whole !)))) refl (
      tt,
      record { fits = lit< tt },
    ) $ sets ! (of_opd ! (get_in ! (fld ! refl (stop !)) (sub ! 1 refl (whole !)))) refl fits $
    sets ! (bin ! (get ! refl) (lit ! tt) tt) refl (tt, tt) $ first ! $ branches ! (get ! refl)
    (λ _. sets ! (agg ! (and_then ! (lit ! tt) (no_more !))) refl (tt, (record { fits = lit< tt }, tt)) $
    use0 𝓛 (‵ (Out.own_val None (live 0 vnil ∷ []))) (none_of 𝓛 Lr) $ use0 𝓛 (raw (fact 𝓤 (v.value ≡ None)))
    (fact_i 𝓤 (v.value ≡ None) (emp 𝓤) ev) $ nothing ! $ nothing ! $ fjoin ! $
    returns_within ! Post refl (look_at ! 0 refl) $ free_all ! refl $ keep ! (5 ∷ 0 ∷ 2 ∷ 1 ∷ []) $ by !
    (leaves 𝓛 En hs c z (live 0 vnil) None (tt, tt) (tt, tt))) (λ wrong. absurd wrong)))
    (λ b o x e ev t. let w : Val = both (vptr b o) h in let typed = fits_pair R Z LZ ghosts b o h fits
    in let is = ws ∙ ap (λ (p : Ptr). both (ptr_val p) h ∷ []) e in let v₁ : Val = live 1 (vcons w vnil) in
    let good : Good (layout Out) v₁ = (and_tt _ typed.0, (record { fits = lit< tt }, (typed.1, tt))) in
    suffices ! (Run (w ∷ [])) (subst (λ (us : List Val).
    ent 𝓤 (Run (w ∷ [])) (Run us)) (sym (λ i. is i ++ [])) (id⊢ 𝓤 (Run (w ∷ [])))) $
    enter ! 𝓣.C 𝓣.Λ fn (w ∷ []) Post $ alloc_all ! (λ l. pass_all ! refl (typed, tt) $
    sets ! (of_opd ! (get_in ! (fld ! refl (stop !)) (sub ! 0 refl (whole !)))) refl (
      tt,
      tt,
    ) $ sets ! (of_opd ! (get_in ! (fld ! refl (stop !)) (sub ! 1 refl (whole !)))) refl fits $
    sets ! (bin ! (get ! refl) (lit ! tt) (tests_null (block_ptr b o) t)) refl (
      tt,
      tt,
    ) $ first ! $ branches ! (get ! refl) (λ wrong. absurd wrong)
    (λ _. skips ! $ exec ! 𝓣.C 𝓣.Λ (env fn.locals l) (after 4 fn.body) (at_ret _ Post) $ sets !
    (of_opd ! (get ! refl)) refl (tt, tt) $
    sets ! (agg ! (and_then ! (get ! refl) (and_then ! (get ! refl) (no_more !)))) refl typed $ sets !
    (agg ! (and_then ! (lit ! tt) (and_then ! (get ! refl) (no_more !)))) refl good $
    loose_made R Z LZ ghosts ! b o h a x $ use1 𝓛
    (‵ (Out.own_val (Some (record { at = block_ptr b o; alloc = a; value = x })) (v₁ ∷ [])))
    (Some-of 𝓛 Lr (record { at = block_ptr b o; alloc = a; value = x }) w) $
    use0 𝓛 (raw (fact 𝓤 (v.value ≡ Some x))) (fact_i 𝓤 (v.value ≡ Some x) (emp 𝓤) ev) $ nothing ! $ nothing ! $
    fjoin ! $ returns ! (look_at ! 0 refl) $ free_all ! refl $ keep ! (4 ∷ 0 ∷ 2 ∷ 1 ∷ []) $ by !
    (leaves 𝓛 En hs c z v₁ (Some (record { at = block_ptr b o; alloc = a; value = x })) (tt, tt) (tt, tt)))))))
