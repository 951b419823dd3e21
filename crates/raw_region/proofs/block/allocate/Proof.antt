-- `allocate` asks for bytes that are aligned to 1, and keeps the right to free them. Assumes `Logic`.
use Rattle.std.proofs.Common.{◌≡◌, ◌*◌, List, [], ◌∷◌, ◌++◌, refl, ◌∙◌, arith, lit<, w64, true, false, Some, None}
use mir.Syntax.{Ty, Fn, Args, a_type, dcons, dnil}
use mir.Val.{Val, vint, vptr, vcons, vnil, WT}
use mir.MapTy.{inst_fn}
use base.Logic.{SProp, emp, id⊢}
use base.Fml.{Lft, Share, ftrue, flft}
use prog.Capped.{capped_is}
use prog.Wp.{Env, WpFn}
use contract.BorrowLft.{◌⊑◌, ⊑_trans}
use contract.Monad.{fact, fact_i}
use contract.Running.{tables}
use types.Kit.{‵, raw, ◌⊛◌, later, prop, at_ret, ◌$◌, ◌∵◌, !, qed, by, move, drop, use0, use1, use2, split, split3}
use types.Kit.{group, regoal, fsplit, fjoin, feq_i, feq_l, flt_l, await}
use types.Part.{whole, agg}
use types.Match.{live, vrt, in_variant}
use types.Run.{stop, fld, lit, of_opd, no_more, and_then, first, switches_on, exec, returns, enter}
use types.ByLocal.{alloc_all, pass_all, free_all, look_at, get, get_in, get_tag, sets, sets_last, lands_as, env}
use denote.RattleType.{RattleType, owns}
use denote.RawPtr.{Ptr, RawPtr, block_ptr}
use denote.Param.{param, bounded}
use denote.Signature.{types_at, type_at}
use denote.Steps.{nothing, heard}
use denote.Struct.Tuple.{Tuple}
use denote.Triple.Entry.{alive}
use denote.Triple.Call.{calls_at}
use denote.Triple.Table.{framed}
use denote.Triple.Walked.{Stays, stay_dropped, walk_of, Goes-dropped}
use Rattle.std.proofs.alloc.Calls.{Al, seen, Takes, at_takes, Answered, Takes-goes, Takes-gives, answers, Answer-typed}
use Rattle.std.proofs.alloc.Shapes.{after, head, arm_body}
use Rattle.std.proofs.option.Made.{Some-of, none_of}
use Rattle.std.proofs.raw_atomic.Walks.{proved_at, leaves}
use Rattle.raw_region.specs.Ownership.{IsNonNull, bytes_type}
use Rattle.raw_region.proofs.block.Values.{none, mark, three, none_made, mark_made, three_made}
use Rattle.raw_region.proofs.block.Signatures.{slot_at, then_runs}
use Rattle.raw_region.specs.contracts.block.Space as space
use Rattle.raw_region.specs.contracts.block.Lease as lease
use Rattle.raw_region.specs.contracts.block.allocate.{ended, clauses}
use Rattle.raw_region.specs.contracts.block.allocate.Key.{name as #self}
use Rattle.raw_region.proofs.block.allocate.Statement.{statement}
use Rattle.raw_region.proofs.block.allocate.Code as compiled

pub allocate_spec : {M : Type 1} → statement M
allocate_spec 𝓤 𝓛 𝓜 𝓡 wired A L g d dd met md =
    let H = 𝓛.H in
    let E = ended A g d dd in let S = E.signature in
    let c = clauses A g d dd 𝓛 𝓜.mem 𝓡.returns in
    let args : Args = bounded (a_type ∷ []) (A, tt) (dcons d (dcons dd dnil)) in
    let fn : Fn = inst_fn args compiled.function in
    let stays : Stays S.params E.kept =
    (stay_dropped (slot_at 0 S.params) E.kept.0, (stay_dropped (slot_at 1 S.params) E.kept.1.0, tt)) in
    let C = (tables 𝓤 H 𝓜 𝓡 𝓡.env).C in let Λ = (tables 𝓤 H 𝓜 𝓡 𝓡.env).Λ in
    proved_at 𝓛 E stays c 𝓜 𝓡 (
      Goes-dropped 𝓛 2 (slot_at 0 S.params) E.kept.0 (λ κs x f. refl),
      (Goes-dropped 𝓛 2 (slot_at 1 S.params) E.kept.1.0 (λ κs x f. refl), tt),
    )
    (#self args) fn (compiled.unfolded 𝓤 H 𝓜 𝓡 wired (A, tt) d dd) (λ z are.
    let Post : Val → SProp 𝓤 = (walk_of 𝓛 E stays c).post z in
    let a = z.0.3 in let vss = z.0.4 in
    let Y : Al = record { row = A; laws = L; g = g; d = d; drops = dd } in
    let κ : Lft = z.0.0.0 in let q : Share = z.0.1.0 in let Z : RattleType = param 0 A in
    let h = a.0.now in let handle = a.0.ref_ptr in let n = a.1.0 in let τ : Ty = bytes_type n in
    let Out : RattleType = type_at S.result z.0.0 in
    let Held : RattleType = lease.the_row Z g in
    let Three : RattleType = Tuple (RawPtr ∷ space.the_row ∷ Held ∷ []) in
    let y = at_takes Y 𝓛 𝓜.mem 𝓡.returns κ q handle h n 1 τ in
    qed 𝓛 ((raw (alive 𝓛 S z.0.0 z.0.1) ⊛ ‵ (owns (types_at S.params z.0.0) a vss))
    ∷ (raw (fact 𝓤 (z.0.0.1.0 ⊑ A.lives)) ⊛ raw (emp 𝓤)) ∷ []) ∵
    move ! (1 ∷ []) $ split ! $ heard ! (z.0.0.1.0 ⊑ A.lives) (λ le. drop ! $ split ! $ move ! (1 ∷ []) $
    fsplit ! $ fsplit ! $ feq_l ! (λ is₀.
    move ! (1 ∷ []) $ fsplit ! $ fsplit ! $ feq_l ! (λ is₁. flt_l ! (λ fits. drop ! $
    use1 𝓛 (‵ (seen Y κ handle h)) (id⊢ 𝓤 _) $ move ! (1 ∷ []) $ use1 𝓛
    (‵ (flft κ q) ⊛ ‵ (flft z.0.0.1.0 z.0.1.1.0) ⊛ ‵ ftrue) (id⊢ 𝓤 _) $ split3 ! $ move ! (3 ∷ 0 ∷ []) $
    -- [the allocator; the lifetimes]
    regoal ! (λ (us : List Val). prop (WpFn 𝓤 H C Λ fn us Post)) (λ i. is₀ i ++ (is₁ i ++ [])) refl $
    enter ! C Λ fn (vptr handle.0 handle.1 ∷ vint w64 n ∷ []) Post $
    alloc_all ! (λ l. pass_all ! refl ((tt, tt), ((tt, record { fits = fits }), tt)) $ let En : Env 𝓤 𝓛.H =
    env fn.locals l in
    use2 𝓛 (raw ((Takes Y 𝓛 𝓜.mem 𝓡.returns).pre y))
    (Takes-goes Y 𝓛 𝓜.mem 𝓡.returns κ q handle h (⊑_trans κ z.0.0.1.0 A.lives z.0.2.0 le) n 1 τ
    (capped_is (n * 1) (omega arith) ∙ omega arith) refl fits (lit< tt)) $
    calls_at ! (framed 𝓤 H 𝓜 (tables 𝓤 H 𝓜 𝓡 𝓡.env)) (Takes Y 𝓛 𝓜.mem 𝓡.returns) (met.allocate dd) y
    (and_then ! (get ! refl) (and_then ! (get ! refl) (and_then ! (lit ! tt) (no_more !)))) (λ v.
    use1 𝓛 (later (raw (Answered Y 𝓛 𝓜.mem 𝓡.returns h τ v) ⊛ ‵ (flft κ q)))
    (Takes-gives Y 𝓛 𝓜.mem 𝓡.returns κ q handle h n 1 τ v) $ await ! tt $ split ! $
    answers Y ! 𝓜.mem 𝓡.returns h τ v
    (λ b o e.
    let p : Ptr = block_ptr b o in
    let x : (space.the_row).Denot = record { place = p; len = n } in
    let k : Held.Denot = record { marker = record {}; alloc = h; place = p; len = n } in
    let made : Val = three (vptr b o) none mark in
    let typed : WT made = (tt, (tt, ((tt, tt), tt))) in
    let typed_some : WT (live 1 (vcons made vnil)) = (record { fits = lit< tt }, (typed, tt)) in
    lands_as ! e refl (Answer-typed true b o) $
    first ! $ switches_on ! (get_tag ! (vrt ! refl (fld ! refl (stop !))) (whole !)) $ exec ! C Λ En
    (arm_body 0 (head (after 1 fn.body))) (then_runs 𝓛 C Λ En (after 2 fn.body) (at_ret En Post)) $
    sets ! (of_opd ! (get_in ! (vrt ! refl (fld ! refl (stop !))) (in_variant ! 0 0 refl refl (whole !)))) refl (
      tt,
      tt,
    ) $
    sets ! (agg ! (no_more !)) refl (tt, tt) $
    sets ! (agg ! (no_more !)) refl (tt, tt) $
    sets ! (agg ! (and_then ! (get ! refl) (no_more !))) refl (tt, (tt, tt)) $
    sets ! (agg ! (and_then ! (get ! refl) (and_then ! (get ! refl) (and_then ! (get ! refl) (no_more !))))) refl
    (tt, typed) $
    sets_last ! (agg ! (and_then ! (lit ! tt) (and_then ! (get ! refl) (no_more !)))) refl (tt, typed_some) $
    exec ! C Λ En (after 2 fn.body) (at_ret En Post) $ sets ! (of_opd ! (get ! refl)) refl (tt, typed_some) $
    returns ! (look_at ! 0 refl) $ free_all ! refl $
    -- [the room; the token; the lifetimes]
    none_made ! $ fjoin ! $ move ! (1 ∷ []) $ mark_made ! $ fjoin ! $ move ! (1 ∷ []) $ feq_i ! (List Val)
    (vptr b o ∷ []) (vptr b o ∷ []) refl $
    three_made ! RawPtr space.the_row Held p x k (vptr b o) none mark $
    use1 𝓛 (‵ (Out.own_val (Some (p, x, k)) (live 1 (vcons made vnil) ∷ []))) (Some-of 𝓛 Three (p, x, k) made) $
    move ! (1 ∷ 2 ∷ 3 ∷ []) $ group ! 3 $
    use0 𝓛 (raw (fact 𝓤 (IsNonNull p × (p ≡ p) × (n ≡ n) × (p ≡ p) × (n ≡ n) × (h ≡ h)))) (fact_i 𝓤 _ (emp 𝓤) (
      refl,
      refl,
      refl,
      refl,
      refl,
      refl,
    )) $
    nothing ! $ nothing ! $ fjoin ! $ nothing ! $ fjoin ! $ move ! (2 ∷ 0 ∷ 3 ∷ 1 ∷ []) $
    by ! (leaves 𝓛 E stays c z (live 1 (vcons made vnil)) (Some (p, x, k)) (tt, (tt, tt)) (tt, (tt, tt))))
    (λ e.
    lands_as ! e refl (Answer-typed false 0 0) $
    first ! $ switches_on ! (get_tag ! (vrt ! refl (fld ! refl (stop !))) (whole !)) $ exec ! C Λ En
    (arm_body 1 (head (after 1 fn.body))) (then_runs 𝓛 C Λ En (after 2 fn.body) (at_ret En Post)) $
    sets_last ! (agg ! (and_then ! (lit ! tt) (no_more !))) refl (tt, (record { fits = lit< tt }, tt)) $
    exec ! C Λ En (after 2 fn.body) (at_ret En Post) $ sets ! (of_opd ! (get ! refl)) refl (
      tt,
      (record { fits = lit< tt }, tt),
    ) $
    returns ! (look_at ! 0 refl) $ free_all ! refl $ group ! 3 $
    use0 𝓛 (‵ (Out.own_val None (live 0 vnil ∷ []))) (none_of 𝓛 Three) $ move ! (1 ∷ []) $
    use0 𝓛 (raw (fact 𝓤 (Unit {0}))) (fact_i 𝓤 (Unit {0}) (emp 𝓤) tt) $
    nothing ! $ nothing ! $ fjoin ! $ nothing ! $ fjoin ! $ move ! (2 ∷ 0 ∷ 3 ∷ 1 ∷ []) $
    by ! (leaves 𝓛 E stays c z (live 0 vnil) None (tt, (tt, tt)) (tt, (tt, tt)))))))))))
