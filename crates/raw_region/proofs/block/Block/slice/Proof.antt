-- `slice` shows a part of the bytes that a block shares. Assumes `Logic`.
use Rattle.std.proofs.Common.{◌≡◌, ℕ, ◌+◌, ◌*◌, ◌^◌, ◌<◌, ◌≤◌, List, [], ◌∷◌, ◌++◌, length, refl, sym, ap, ◌∙◌, arith}
use Rattle.std.proofs.Common.{w64, length-take-le, length-drop}
use seplogic.Ra.Ura.{Ura}
use mir.Val.{Val, vptr, vint}
use base.Logic.{SProp, ent}
use base.Fml.{Lft}
use prog.Memory.{Memory}
use prog.Routine.{Routine}
use prog.Wp.{Env, Calls, Loops, WpFn, Tables}
use contract.Monad.{Fun, fact}
use contract.Running.{tables, tables_of}
use sound.WpLaws.{WpFn-mono}
use types.Logic.{Logic}
use types.Kit.{‵, raw, ◌⊛◌, prop, ◌$◌, ◌∵◌, !, qed, move, drop, use1, split, fsplit, fjoin, feq_l, feq_i, flt_l, flt_i}
use types.Kit.{regoal, rewrite, suffices, done, at_ret}
use types.Part.{agg}
use types.Run.{enter, returns, of_opd, bin, and_then, no_more, first, blocks, exec}
use types.ByLocal.{alloc_all, pass_all, free_all, look_at, get, sets, sets_last, env}
use denote.Exit.{yes}
use denote.RattleType.{owns}
use denote.Builtin.{u8, RefOf, usize}
use denote.Opens.{unhide, hide}
use denote.RawPtr.{Ptr, RawPtr, ptr_val, block_of, count_of}
use denote.Signature.{plain, types_at}
use denote.Slice.{slice_val, elements_shared}
use denote.Steps.{nothing, heard}
use denote.Triple.Clauses.{Clauses, closing}
use denote.Triple.Entry.{alive}
use denote.Triple.Spec.{Meets, triple_of}
use denote.Triple.Table.{entered}
use denote.Triple.Walked.{says, Stays, stay_dropped, walk_of, ends_at, walk_Meets, Goes-dropped}
use Rattle.raw_region.specs.Memory.{part}
use Rattle.raw_region.specs.Ownership.{IsNonNull, block_shares}
use Rattle.raw_region.proofs.block.Parts.{seen_part}
use Rattle.raw_region.specs.contracts.block.Block as Block
use Rattle.raw_region.specs.contracts.block.Block.slice as F
use Rattle.raw_region.specs.contracts.block.Block.slice.Key.{name as #self}
use Rattle.raw_region.proofs.block.Block.slice.Statement as stated
use Rattle.raw_region.proofs.block.Block.slice.Code as code

abbrev stayed : Stays F.ended.signature.params F.ended.kept
stayed = (
  stay_dropped (RefOf (0 ∷ []) tt (plain (λ _. Block.the_row)) (λ _. tt)) yes,
  (
    stay_dropped (plain (λ _. RawPtr)) yes,
    (stay_dropped (plain (λ _. usize)) yes, (stay_dropped (plain (λ _. usize)) yes, tt)),
  ),
)

module _ {M : Type 1} {𝓤 : Ura M} (𝓛 : Logic 𝓤) (at_mem : Memory → SProp 𝓤) (run : Routine → Fun 𝓤) where
  open 𝓛 use {H}

  abbrev held : Clauses 𝓤 F.ended
  held = F.clauses 𝓛 at_mem run

  module _ (C : Calls 𝓤 H) (Λ : Loops 𝓤 H) (z : (walk_of 𝓛 F.ended stayed held).Ghost) where
    abbrev Post : Val → SProp 𝓤
    Post = (walk_of 𝓛 F.ended stayed held).post z

    walks : ent 𝓤 ((walk_of 𝓛 F.ended stayed held).pre z)
        (WpFn 𝓤 H C Λ code.function ((walk_of 𝓛 F.ended stayed held).args z) Post)
    walks =
        let a = z.0.3 in let vss = z.0.4 in let κ : Lft = z.0.0.0 in
        let d = a.0.now in let p = a.1.0 in let from = a.1.1.0 in let len = a.1.1.1.0 in
        let xs = d.items in let b = block_of p in let o = count_of p in let ys = part xs from len in
        let Asked = IsNonNull p × (d.place ≡ p) × (from + len ≤ length xs) × (length xs < 2 ^ 63) in
        qed 𝓛 ((raw (alive 𝓛 F.ended.signature z.0.0 z.0.1) ⊛ ‵
        (owns (types_at F.ended.signature.params z.0.0) a vss)) ∷ raw (fact 𝓤 Asked) ∷ []) ∵
        move ! (1 ∷ []) $ heard ! Asked (λ asked. split ! $ move ! (1 ∷ []) $
        let long : length ys ≡ len = length-take-le len _ (omega (arith, asked.2, length-drop from xs)) in
        fsplit ! $ fsplit ! $ feq_l ! (λ is₀. unhide ! $ fsplit ! $ drop ! $ move ! (1 ∷ []) $
        fsplit ! $ feq_l ! (λ is₁. fsplit ! $ fsplit ! $ feq_l ! (λ is₂.
        flt_l ! (λ fits_from. fsplit ! $ fsplit ! $ feq_l ! (λ is₃. flt_l ! (λ fits_len. drop ! $
        -- [the bytes, to be read; the token]
        rewrite ! 0 (λ (r : Ptr). ‵ (block_shares r xs κ)) asked.1 refl $
        regoal ! (λ (us : List Val). prop
        (WpFn 𝓤 H C Λ code.function (us ++ (vss.1.0 ++ (vss.1.1.0 ++ (vss.1.1.1.0 ++ [])))) Post)) is₀ refl $
        regoal ! (λ (us : List Val). prop
        (WpFn 𝓤 H C Λ code.function ((vptr a.0.ref_ptr.0 a.0.ref_ptr.1 ∷ [])
        ++ (us ++ (vss.1.1.0 ++ (vss.1.1.1.0 ++ [])))) Post)) (is₁ ∙ ap (λ (r : Ptr). ptr_val r ∷ []) asked.0) refl $
        regoal ! (λ (us : List Val). prop
        (WpFn 𝓤 H C Λ code.function ((vptr a.0.ref_ptr.0 a.0.ref_ptr.1 ∷ [])
        ++ ((vptr b o ∷ []) ++ (us ++ (vss.1.1.1.0 ++ [])))) Post)) is₂ refl $
        regoal ! (λ (us : List Val). prop
        (WpFn 𝓤 H C Λ code.function ((vptr a.0.ref_ptr.0 a.0.ref_ptr.1 ∷ [])
        ++ ((vptr b o ∷ []) ++ ((vint w64 from ∷ []) ++ (us ++ [])))) Post)) is₃ refl $
        enter ! C Λ code.function (vptr a.0.ref_ptr.0 a.0.ref_ptr.1 ∷ vptr b o ∷ vint w64 from ∷ vint w64 len ∷ [])
        Post $
        alloc_all ! (λ l. pass_all ! refl (
          (tt, tt),
          ((tt, tt), ((tt, record { fits = fits_from }), ((tt, record { fits = fits_len }), tt))),
        ) $
        let En : Env 𝓤 H = env (code.function).locals l in
        first ! $ blocks ! $
        sets ! (bin ! (get ! refl) (get ! refl) tt) refl (tt, tt) $
        sets_last ! (agg ! (and_then ! (get ! refl) (and_then ! (get ! refl) (no_more !)))) refl (
          tt,
          (tt, (record { fits = fits_len }, tt)),
        ) $
        exec ! C Λ En code.Mir.t-2 (at_ret En Post) $
        sets ! (of_opd ! (get ! refl)) refl (tt, (tt, (record { fits = fits_len }, tt))) $
        use1 𝓛 (‵ (elements_shared u8 ys b (from + o) κ)) (seen_part 𝓛 b κ xs o from len) $ hide ! $
        flt_i ! (length ys * 1) (2 ^ 63) (omega (arith, asked.2, asked.3)) $ flt_i ! (length ys) (2 ^ 64)
        (omega (arith, asked.2, asked.3)) $ fjoin ! $
        feq_i ! (List Val) (slice_val (b, from + o) len ∷ []) (slice_val (b, from + o) (length ys) ∷ [])
        (ap (λ (k : ℕ). slice_val (b, from + o) k ∷ []) (sym long)) $ fjoin ! $ fjoin ! $
        returns ! (look_at ! 0 refl) $ free_all ! refl $
        suffices ! _ (ends_at 𝓛 F.ended stayed held z (slice_val (b, from + o) len)
        (record { ref_ptr = (b, from + o); now = ys }) (tt, (tt, (tt, (tt, tt)))) (tt, (tt, (tt, (tt, tt))))) $ says
        ! refl $
        nothing ! $ nothing ! $ fjoin ! $ nothing ! $ fjoin ! $ nothing ! $ fjoin ! $ nothing ! $ fjoin ! $ move !
        (2 ∷ 0 ∷ 1 ∷ []) $ done !))))))))

  meets : (𝓣 : Tables 𝓤 H) → Meets 𝓛 F.ended.signature (WpFn 𝓤 H 𝓣.C 𝓣.Λ code.function) (closing 𝓛 F.ended held)
  meets 𝓣 =
      walk_Meets 𝓛 F.ended stayed (
        Goes-dropped 𝓛 1 (RefOf (0 ∷ []) tt (plain (λ _. Block.the_row)) (λ _. tt)) yes (λ κs x f. refl),
        (
          Goes-dropped 𝓛 1 (plain (λ _. RawPtr)) yes (λ κs x f. refl),
          (
            Goes-dropped 𝓛 1 (plain (λ _. usize)) yes (λ κs x f. refl),
            (Goes-dropped 𝓛 1 (plain (λ _. usize)) yes (λ κs x f. refl), tt),
          ),
        ),
      ) held
      (WpFn 𝓤 H 𝓣.C 𝓣.Λ code.function) (WpFn-mono 𝓤 H 𝓛.laws 𝓣 code.function) (walks 𝓣.C 𝓣.Λ)

pub slice_spec : {M : Type 1} → stated.statement M
unfolding tables_of
slice_spec 𝓤 𝓛 𝓜 𝓡 wired =
    let 𝓣 : Tables 𝓤 𝓛.H = tables_of 𝓤 𝓛.H 𝓜 (tables 𝓤 𝓛.H 𝓜 𝓡 𝓡.env) in
    entered 𝓤 𝓛.H (triple_of 𝓛 F.ended.signature (closing 𝓛 F.ended (held 𝓛 𝓜.mem 𝓡.returns))) 𝓣.C 𝓣.Λ #self
    code.function
    (code.unfolded 𝓤 𝓛.H 𝓜 𝓡 wired) (meets 𝓛 𝓜.mem 𝓡.returns 𝓣)
