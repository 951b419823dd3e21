-- `free` makes room of the bytes, and hands it back with the allocator's token. Assumes `Logic`.
use Rattle.std.proofs.Common.{◌≡◌, ℕ, ◌*◌, List, [], ◌∷◌, ◌++◌, length, refl, sym, ap, subst, ◌∙◌, arith, lit<, w64}
use lib.Dec.{T}
use mir.Syntax.{Ty, Fn, Args, a_type, dcons, dnil, ty_unit}
use mir.Val.{Val, vptr, vint, vunit, has_ty, WT}
use mir.MapTy.{inst_fn}
use base.Logic.{SProp, id⊢}
use base.Fml.{Lft, Share, ftrue, froom, flft}
use prog.Capped.{capped_is}
use prog.Wp.{Env, WpFn}
use contract.BorrowLft.{◌⊑◌, ⊑_trans}
use contract.Monad.{fact}
use contract.Running.{tables}
use types.Kit.{‵, raw, ◌⊛◌, given, later, prop, at_ret, ◌$◌, ◌∵◌, !, qed, by, move, drop, use1, split, split3, group}
use types.Kit.{learn, rewrite, regoal, fsplit, fjoin, feq_i, feq_l, flt_l, await}
use types.Run.{lit, unit_lit, of_opd, no_more, and_then, first, blocks, exec, returns, enter}
use types.ByLocal.{alloc_all, pass_all, free_all, look_at, get, sets, lands_last, env}
use denote.RattleType.{owns}
use denote.RawPtr.{Ptr, ptr_val, block_of, count_of}
use denote.RawPtr.Bytes.{bytes-room}
use denote.Param.{bounded}
use denote.Signature.{types_at}
use denote.Steps.{nothing, heard}
use denote.Triple.Entry.{alive}
use denote.Triple.Call.{calls_at_last}
use denote.Triple.Walked.{Stays, stay_dropped, walk_of, Goes-dropped}
use Rattle.std.proofs.alloc.Calls.{Al, Goes-blank, Gives, at_gives, Gives-goes, Gives-Gives}
use Rattle.std.proofs.alloc.Shapes.{after}
use denote.Triple.Table.{framed}
use Rattle.std.proofs.raw_atomic.Walks.{proved_at, leaves}
use Rattle.raw_region.specs.Ownership.{IsNonNull, bytes_type, block_owns}
use Rattle.raw_region.proofs.block.Values.{none, mark, none_had, mark_had}
use Rattle.raw_region.proofs.block.Signatures.{slot_at}
use Rattle.raw_region.specs.contracts.block.free.{ended, clauses}
use Rattle.raw_region.specs.contracts.block.free.Key.{name as #self}
use Rattle.raw_region.proofs.block.free.Statement.{statement}
use Rattle.raw_region.proofs.block.free.Code as compiled

pub free_spec : {M : Type 1} → statement M
free_spec 𝓤 𝓛 𝓜 𝓡 wired A L g d dd met md =
    let H = 𝓛.H in
    let E = ended A g d dd in let S = E.signature in
    let c = clauses A g d dd 𝓛 𝓜.mem 𝓡.returns in
    let args : Args = bounded (a_type ∷ []) (A, tt) (dcons d (dcons dd dnil)) in
    let fn : Fn = inst_fn args compiled.function in
    let stays : Stays S.params E.kept = (
      stay_dropped (slot_at 0 S.params) E.kept.0,
      (
        stay_dropped (slot_at 1 S.params) E.kept.1.0,
        (
          stay_dropped (slot_at 2 S.params) E.kept.1.1.0,
          (stay_dropped (slot_at 3 S.params) E.kept.1.1.1.0, (stay_dropped (slot_at 4 S.params) E.kept.1.1.1.1.0, tt)),
        ),
      ),
    ) in
    let C = (tables 𝓤 H 𝓜 𝓡 𝓡.env).C in let Λ = (tables 𝓤 H 𝓜 𝓡 𝓡.env).Λ in
    proved_at 𝓛 E stays c 𝓜 𝓡 (
      Goes-dropped 𝓛 2 (slot_at 0 S.params) E.kept.0 (λ κs x f. refl),
      (
        Goes-dropped 𝓛 2 (slot_at 1 S.params) E.kept.1.0 (λ κs x f. refl),
        (
          Goes-dropped 𝓛 2 (slot_at 2 S.params) E.kept.1.1.0 (λ κs x f. refl),
          (
            Goes-blank 𝓛 2 (slot_at 3 S.params) E.kept.1.1.1.0 (λ κs x f. tt),
            (Goes-blank 𝓛 2 (slot_at 4 S.params) E.kept.1.1.1.1.0 (λ κs x f. tt), tt),
          ),
        ),
      ),
    )
    (#self args) fn (compiled.unfolded 𝓤 H 𝓜 𝓡 wired (A, tt) d dd) (λ z are.
    let Post : Val → SProp 𝓤 = (walk_of 𝓛 E stays c).post z in
    let a = z.0.3 in let vss = z.0.4 in
    let Y : Al = record { row = A; laws = L; g = g; d = d; drops = dd } in
    let κ : Lft = z.0.0.0 in let q : Share = z.0.1.0 in
    let h = a.0.now in let handle = a.0.ref_ptr in
    let p = a.1.0 in let n = a.1.1.0 in let block = a.1.1.1.0 in let lease = a.1.1.1.1.0 in
    let b = block_of p in let o = count_of p in let τ : Ty = bytes_type n in
    let Asked : Type 0 = IsNonNull p × (block.place ≡ p) × (length block.items ≡ n) × (lease.place ≡ p)
    × (lease.len ≡ n) × (lease.alloc ≡ h) in
    qed 𝓛 ((raw (alive 𝓛 S z.0.0 z.0.1) ⊛ ‵ (owns (types_at S.params z.0.0) a vss))
    ∷ (raw (fact 𝓤 (z.0.0.1.0 ⊑ A.lives)) ⊛ raw (fact 𝓤 Asked)) ∷ []) ∵
    move ! (1 ∷ []) $ split ! $ heard ! (z.0.0.1.0 ⊑ A.lives) (λ le. heard ! Asked (λ asked. split ! $ move ! (1 ∷ []) $
    fsplit ! $ fsplit ! $ feq_l ! (λ is₀.
    move ! (1 ∷ []) $ fsplit ! $ feq_l ! (λ is₁. fsplit ! $ fsplit ! $ feq_l ! (λ is₂. flt_l ! (λ fits.
    fsplit ! $ fsplit ! $ none_had ! vss.1.1.1.0 (λ is₃.
    move ! (1 ∷ []) $ fsplit ! $ fsplit ! $ mark_had ! vss.1.1.1.1.0 (λ is₄. move ! (1 ∷ []) $ drop ! $
    -- [the token; the bytes; the allocator; the lifetimes]
    rewrite ! 0 (λ (u : A.Denot × ℕ × Ptr). ‵ (g.dealloc_token u.0 (bytes_type u.1) u.2)) (λ i.
    (asked.5 i, asked.4 i, (asked.3 ∙ asked.0) i)) refl $
    move ! (1 ∷ []) $ rewrite ! 0 (λ (r : Ptr). ‵ (block_owns r block.items)) asked.1 refl $
    use1 𝓛 (‵ (froom (bytes_type (length block.items)) b o)) (bytes-room 𝓛 block.items b o) $ rewrite ! 0
    (λ (k : ℕ). ‵ (froom (bytes_type k) b o)) asked.2 refl $
    move ! (3 ∷ []) $ use1 𝓛 (‵ (flft κ q) ⊛ ‵ (flft z.0.0.1.0 z.0.1.1.0) ⊛ ‵ ftrue) (id⊢ 𝓤 _) $ split3 ! $ move !
    (3 ∷ 4 ∷ 5 ∷ 0 ∷ []) $
    let y = at_gives Y 𝓛 𝓜.mem 𝓡.returns κ q handle h b o n 1 τ in
    regoal ! (λ (us : List Val). prop (WpFn 𝓤 H C Λ fn us Post)) (λ i.
    is₀ i ++ ((is₁ ∙ ap (λ (r : Ptr). ptr_val r ∷ []) asked.0) i ++ (is₂ i ++ (is₃ i ++ (is₄ i ++ []))))) refl $
    enter ! C Λ fn (vptr handle.0 handle.1 ∷ vptr b o ∷ vint w64 n ∷ none ∷ mark ∷ []) Post $
    alloc_all ! (λ l. pass_all ! refl (
      (tt, tt),
      ((tt, tt), ((tt, record { fits = fits }), ((tt, tt), ((tt, (tt, tt)), tt)))),
    ) $ let En : Env 𝓤 𝓛.H = env fn.locals l in
    first ! $ blocks ! $ group ! 4 $
    use1 𝓛 (raw ((Gives Y 𝓛 𝓜.mem 𝓡.returns).pre y))
    (Gives-goes Y 𝓛 𝓜.mem 𝓡.returns κ q handle h (⊑_trans κ z.0.0.1.0 A.lives z.0.2.0 le) b o n 1 τ
    (capped_is (n * 1) (omega arith) ∙ omega arith) refl fits (lit< tt)) $
    calls_at_last ! (framed 𝓤 H 𝓜 (tables 𝓤 H 𝓜 𝓡 𝓡.env)) (Gives Y 𝓛 𝓜.mem 𝓡.returns) (met.deallocate dd) y
    (and_then ! (get ! refl) (and_then ! (get ! refl)
    (and_then ! (get ! refl) (and_then ! (lit ! tt) (no_more !))))) (λ v.
    use1 𝓛 (later (given (v ≡ vunit) (‵ (flft κ q)))) (Gives-Gives Y 𝓛 𝓜.mem 𝓡.returns κ q handle h b o n 1 τ v) $
    await ! tt $ learn ! (λ e.
    lands_last ! refl (subst (λ (u : Val). T (has_ty ty_unit u) × WT u) (sym e) (tt, tt)) $ exec ! C Λ En
    (after 1 fn.body) (at_ret En Post) $
    sets ! (of_opd ! (unit_lit !)) refl (tt, tt) $ returns ! (look_at ! 0 refl) $ free_all ! refl $ group ! 3 $
    -- [the lifetimes]
    feq_i ! (List Val) (vunit ∷ []) (vunit ∷ []) refl $ nothing ! $ nothing ! $ nothing ! $ fjoin ! $ nothing ! $
    fjoin ! $ nothing ! $ fjoin ! $ nothing ! $ fjoin ! $ nothing ! $ fjoin ! $ move ! (3 ∷ 0 ∷ 2 ∷ 1 ∷ []) $
    by ! (leaves 𝓛 E stays c z vunit tt (tt, (tt, (tt, (tt, (tt, tt))))) (tt, (tt, (tt, (tt, (tt, tt))))))))))))))))))
