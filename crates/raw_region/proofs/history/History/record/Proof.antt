-- `record` runs no code: the history alone goes on. Assumes `Logic`.
use Rattle.std.proofs.Common.{◌+◌, List, [], ◌∷◌, ◌++◌, length, refl, w64}
use mir.Val.{Val, vptr, vint, vunit}
use base.Logic.{SProp, id⊢}
use base.Fml.{Lft, Share, ftrue, flft}
use prog.Wp.{WpFn}
use contract.Running.{tables}
use types.Kit.{‵, raw, ◌⊛◌, prop, ◌$◌, ◌∵◌, !, qed, move, drop, use1, split, split3, join, group, regoal, fsplit}
use types.Kit.{fsplit3, feq_l, feq_i, flt_l, frame, suffices, done}
use types.Run.{enter, returns, of_opd, unit_lit}
use types.ByLocal.{alloc_all, pass_all, free_all, look_at, sets}
use denote.Builtin.{u8, u64, SliceRefOf}
use denote.Exit.{yes}
use denote.RattleType.{RattleType, owns}
use denote.Ref.{mut_vals}
use denote.Signature.{plain, types_at}
use denote.Slice.{slice_val}
use denote.Steps.{nothing, opens, closes}
use denote.Triple.Entry.{alive}
use denote.Triple.Walked.{says, Stays, walk_of, ends_at, stay_ref, stay_dropped, Goes-ref, Goes-dropped}
use Rattle.std.proofs.raw_atomic.Walks.{proved_at}
use Rattle.raw_region.specs.contracts.history.History as History
use Rattle.raw_region.specs.contracts.history.History.record as F
use Rattle.raw_region.specs.contracts.history.History.record.Key.{name as #self}
use Rattle.raw_region.proofs.history.History.record.Statement.{statement}
use Rattle.raw_region.proofs.history.History.record.Code as code

abbrev stayed : Stays F.ended.signature.params F.ended.kept
stayed = (
  stay_ref (0 ∷ []) tt (plain (λ _. History.the_row)),
  (stay_dropped (SliceRefOf (1 ∷ []) tt (plain (λ _. u8)) (λ _. tt)) yes, (stay_dropped (plain (λ _. u64)) yes, tt)),
)

pub record_spec : {M : Type 1} → statement M
record_spec 𝓤 𝓛 𝓜 𝓡 wired =
    let c = F.clauses 𝓛 𝓜.mem 𝓡.returns in let R : RattleType = History.the_row in
    let C = (tables 𝓤 𝓛.H 𝓜 𝓡 𝓡.env).C in let Λ = (tables 𝓤 𝓛.H 𝓜 𝓡 𝓡.env).Λ in
    proved_at 𝓛 F.ended stayed c 𝓜 𝓡 (
      Goes-ref 𝓛 2 0 tt (plain (λ _. History.the_row)),
      (
        Goes-dropped 𝓛 2 (SliceRefOf (1 ∷ []) tt (plain (λ _. u8)) (λ _. tt)) yes (λ κs x f. refl),
        (Goes-dropped 𝓛 2 (plain (λ _. u64)) yes (λ κs x f. refl), tt),
      ),
    )
    #self code.function (code.unfolded 𝓤 𝓛.H 𝓜 𝓡 wired) (λ z are.
    let Post : Val → SProp 𝓤 = (walk_of 𝓛 F.ended stayed c).post z in
    let a = z.0.3 in let vss = z.0.4 in let h = a.0.now in let bytes = a.1.0 in let n = a.1.1.0 in
    let b = a.0.ref_ptr.0 in let o = a.0.ref_ptr.1 in
    let κ : Lft = z.0.0.0 in let q : Share = z.0.1.0 in let κ' : Lft = z.0.0.1.0 in let q' : Share = z.0.1.1.0 in
    let new : R.Denot = record { bytes = h.bytes ++ bytes.now; count = h.count + n } in
    qed 𝓛 ((raw (alive 𝓛 F.ended.signature z.0.0 z.0.1) ⊛ ‵ (owns (types_at F.ended.signature.params z.0.0) a vss))
    ∷ ‵ ftrue ∷ []) ∵
    move ! (1 ∷ []) $ drop ! $ split ! $ move ! (1 ∷ []) $
    fsplit ! $ fsplit3 ! $ feq_l ! (λ is₀.
    move ! (2 ∷ []) $ fsplit ! $ fsplit ! $ fsplit ! $ feq_l ! (λ is₁. fsplit ! $ flt_l ! (λ long. drop ! $ drop ! $
    fsplit ! $ fsplit ! $ feq_l ! (λ is₂. flt_l ! (λ fits. drop ! $
    move ! (2 ∷ []) $ use1 𝓛 (‵ (flft κ q) ⊛ ‵ (flft κ' q') ⊛ ‵ ftrue) (id⊢ 𝓤 _) $ split3 ! $ move ! (3 ∷ 4 ∷ 0 ∷ []) $
    -- [two parts of self; the lifetimes]
    regoal ! (λ (us : List Val). prop (WpFn 𝓤 𝓛.H C Λ code.function us Post)) (λ i.
    is₀ i ++ (is₁ i ++ (is₂ i ++ []))) refl $
    enter ! C Λ code.function (vptr b o ∷ slice_val bytes.ref_ptr (length bytes.now) ∷ vint w64 n ∷ []) Post $
    alloc_all ! (λ l. pass_all ! refl (
      (tt, tt),
      ((tt, (tt, (record { fits = long }, tt))), ((tt, record { fits = fits }), tt)),
    ) $
    opens ! tt R b o (λ us. closes ! tt R new us b o $
    sets ! (of_opd ! (unit_lit !)) refl (tt, tt) $ returns ! (look_at ! 0 refl) $ free_all ! refl $
    feq_i ! (List Val) vss.0 (mut_vals a.0) is₀ $
    suffices ! _ (ends_at 𝓛 F.ended stayed c z vunit tt (new, (tt, (tt, tt))) (tt, (tt, (tt, tt)))) $ says ! (
      refl,
      refl,
    ) $
    group ! 3 $ nothing ! $ nothing ! $ join ! $ nothing ! $ join ! $ move ! (1 ∷ 0 ∷ []) $ join ! $ move !
    (1 ∷ 2 ∷ 3 ∷ []) $ group ! 3 $ frame ! $ frame ! $
    feq_i ! (List Val) (vunit ∷ []) (vunit ∷ []) refl $ done !))))))))
