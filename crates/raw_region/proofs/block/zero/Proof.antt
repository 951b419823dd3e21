-- `zero` writes the bytes one by one, from the first on. Assumes `Logic`.
use Rattle.std.proofs.Common.{◌≡◌, ℕ, suc, ◌+◌, ◌-◌, ◌^◌, ◌<◌, ◌≤◌, List, [], ◌∷◌, ◌++◌, replicate, refl, ap, ◌∙◌}
use Rattle.std.proofs.Common.{arith, lit<, w8, w64, add-one}
use Rattle.std.proofs.lemmas.List.{replicate_more, length-replicate}
use mathlib.Core.WellFounded.InvImage
use lib.Dec.{ltb→lt, nltb→le}
use lib.WfN.{lt-wf_rel}
use seplogic.Ra.Ura.{Ura}
use mir.Syntax.{ty_int}
use mir.Val.{Val, vptr, vint}
use base.Fraction.{full_share}
use base.Logic.{SProp, ent}
use base.Fml.{Fml, fat, froom}
use prog.Memory.{Memory}
use prog.Routine.{Routine}
use prog.Wp.{Env, Out, Wp, WpFn, Tables, at_return, after_seq, after_block, after_turn}
use contract.Monad.{Fun, fact}
use contract.Running.{tables, tables_of}
use sound.WpLaws.{WpFn-mono}
use types.Logic.{Logic}
use types.Kit.{Item, Sq, any_q, runs, ‵, raw, ◌⊛◌, prop, at_ret, ◌$◌, ◌∵◌, !, qed, move, drop, use1, use2, split}
use types.Kit.{regoal, rewrite, fsplit, fjoin, feq_l, flt_l, suffices, done}
use types.Part.{agg}
use types.Run.{enter, returns, of_opd, lit, bin, no_more, stop, init, assigns_last, first, blocks, skips, jumps}
use types.Run.{branches, exec, loops, again, Below}
use types.ByLocal.{alloc_all, pass_all, free_all, look_at, get, through, sets, sets_last, env, holding, forget_but}
use types.ByLocal.{take_at, give_at}
use denote.Exit.{yes}
use denote.RattleType.{owns}
use denote.Builtin.{u8, usize}
use denote.Memory.{part_at}
use denote.Plain.{uint_in}
use denote.RawPtr.{Ptr, RawPtr, ptr_val, block_of, count_of}
use denote.RawPtr.Bytes.{bytes, bytes_glue}
use denote.Signature.{plain, types_at}
use denote.Steps.{nothing, heard}
use denote.Triple.Clauses.{Clauses, closing}
use denote.Triple.Entry.{alive}
use denote.Triple.Spec.{Meets, triple_of}
use denote.Triple.Table.{entered}
use denote.Triple.Walked.{says, Stays, stay_dropped, walk_of, ends_at, walk_Meets, Goes-dropped}
use Rattle.std.proofs.alloc.Calls.{Goes-blank}
use Rattle.std.proofs.alloc.Shapes.{after}
use Rattle.raw_region.specs.Ownership.{IsNonNull, bytes_type, space_owns}
use Rattle.raw_region.proofs.block.Values.{none, none_had, none_made}
use Rattle.raw_region.specs.contracts.block.Space as Space
use Rattle.raw_region.specs.contracts.block.zero as F
use Rattle.raw_region.specs.contracts.block.zero.Key.{name as #self}
use Rattle.raw_region.proofs.block.zero.Statement as stated
use Rattle.raw_region.proofs.block.zero.Code as code

abbrev stayed : Stays F.ended.signature.params F.ended.kept
stayed = (
  stay_dropped (plain (λ _. RawPtr)) yes,
  (stay_dropped (plain (λ _. usize)) yes, (stay_dropped (plain (λ _. Space.the_row)) yes, tt)),
)

module _ {M : Type 1} {𝓤 : Ura M} (𝓛 : Logic 𝓤) (at_mem : Memory → SProp 𝓤) (run : Routine → Fun 𝓤) where
  open 𝓛 use {H}

  abbrev held : Clauses 𝓤 F.ended
  held = F.clauses 𝓛 at_mem run

  module _ (𝓣 : Tables 𝓤 H) (z : (walk_of 𝓛 F.ended stayed held).Ghost) where
    abbrev Post : Val → SProp 𝓤
    Post = (walk_of 𝓛 F.ended stayed held).post z

    abbrev p : Ptr
    p = z.0.3.0

    abbrev n : ℕ
    n = z.0.3.1.0

    abbrev space : (Space.the_row).Denot
    space = z.0.3.1.1.0

    abbrev b : ℕ
    b = block_of p

    abbrev o : ℕ
    o = count_of p

    -- how many are zero
    abbrev Written : Type 0
    Written = (i : ℕ) × (i ≤ n)

    abbrev Nearer : Written → Written → Type 0
    Nearer t u = n - t.0 < n - u.0

    abbrev Zeros : ℕ → Fml
    Zeros i = bytes full_share (replicate i 0) b o

    abbrev Left : ℕ → Fml
    Left i = froom (bytes_type (n - i)) b (i + o)

    module _ (fits : n < 2 ^ 64) (l : ℕ → ℕ) where
      abbrev En : Env 𝓤 H
      En = env (code.function).locals l

      abbrev Now : Written → List (Item 𝓤)
      Now t = ‵ (Zeros t.0) ∷ ‵ (Left t.0) ∷ holding 𝓛 En ((1, vptr b o) ∷ (2, vint w64 n) ∷ (3, none) ∷ (
        4,
        vint w64 t.0,
      ) ∷ [])

      abbrev Turned : Written → Out → SProp 𝓤
      Turned t = after_turn 𝓤 H (Below 𝓛 Nearer Now t)
          (after_block 𝓤 H (after_seq 𝓤 H (Wp 𝓤 H 𝓣.C 𝓣.Λ En code.Mir.t-3 (at_return 𝓤 H En Post))
          (at_return 𝓤 H En Post)))

      turns : (t : Written) → Sq 𝓛 (Now t) (runs 𝓣.C 𝓣.Λ En code.Mir.turn-1 (any_q (Turned t)))
      unfolding after_turn
      turns t =
          let i : ℕ = t.0 in let le = t.1 in
          sets ! (bin ! (get ! refl) (get ! refl) tt) refl (tt, tt) $ first ! $ branches ! (get ! refl)
          (λ less. let h : i < n = ltb→lt i n less in
          let more : n - i ≡ suc (n - suc i) = omega arith in let after_one : i + o + 1 ≡ suc i + o = omega arith in
          skips ! $ exec ! 𝓣.C 𝓣.Λ En (after 2 code.Mir.turn-1) (any_q (Turned t)) $ first ! $ blocks ! $
          move ! (1 ∷ []) $ rewrite ! 0 (λ (k : ℕ). ‵ (froom (bytes_type k) b (i + o))) more refl $
          use1 𝓛 (‵ (froom (ty_int w8) b (i + o)) ⊛ ‵ (froom (bytes_type (n - suc i)) b (i + o + 1)))
          (𝓛.laws.room_uncons (ty_int w8) (n - suc i) b (i + o)) $ split ! $
          -- [the byte; the bytes after it; those before it; ..]
          sets ! (bin ! (get ! refl) (get ! refl) tt) refl (tt, tt) $
          assigns_last ! (of_opd ! (lit ! tt)) (through ! refl (stop !)) (init ! 0 refl (
            tt,
            record { fits = lit< tt },
          )) $
          exec ! 𝓣.C 𝓣.Λ En (after 3 code.Mir.turn-1) (any_q (Turned t)) $
          sets_last ! (bin ! (get ! refl) (lit ! tt) (record { fits = omega arith })) refl (
            tt,
            record { fits = omega arith },
          ) $
          use1 𝓛 (‵ (part_at u8 full_share 0 b (i + o))) (uint_in 𝓛 full_share w8 0 b (i + o)) $ nothing ! $ move !
          (1 ∷ 0 ∷ []) $ fjoin ! $
          rewrite ! 0 (λ (k : ℕ). ‵ (bytes full_share (0 ∷ []) b k)) (omega (arith, length-replicate {A = ℕ} i 0))
          refl $ move ! (2 ∷ 0 ∷ []) $
          use2 𝓛 (‵ (bytes full_share (replicate i 0 ++ 0 ∷ []) b o))
          (bytes_glue 𝓛 full_share (replicate i 0) (0 ∷ []) b o) $
          rewrite ! 0 (λ (zs : List ℕ). ‵ (bytes full_share zs b o)) (replicate_more i 0
          ∙ ap (λ (k : ℕ). replicate k 0) (add-one i)) refl $
          move ! (1 ∷ []) $ rewrite ! 0 (λ (k : ℕ). ‵ (froom (bytes_type (n - suc i)) b k)) after_one refl $ move !
          (1 ∷ []) $
          forget_but ! En (1 ∷ 2 ∷ 3 ∷ 4 ∷ []) refl $ take_at ! 4 $ rewrite ! 0 (λ (k : ℕ).
          ‵ (fat full_share (ty_int w64) (l 4) 0 (vint w64 k))) (add-one i) refl $ give_at ! 4 $
          again ! Nearer Now t (suc i, omega arith) (omega arith))
          (λ over. let ge : n ≤ i = nltb→le i n over in let all : i ≡ n = omega arith in
          jumps ! $ exec ! 𝓣.C 𝓣.Λ En code.Mir.t-3 (at_ret En Post) $ move ! (1 ∷ []) $ drop ! $ rewrite ! 0
          (λ (k : ℕ). ‵ (Zeros k)) all refl $
          sets ! (agg ! (no_more !)) refl (
            tt,
            tt,
          ) $ returns ! (look_at ! 0 refl) $ free_all ! refl $ none_made ! $ fjoin ! $
          suffices ! _ (ends_at 𝓛 F.ended stayed held z none (record { place = p; items = replicate n 0 }) (
            tt,
            (tt, (tt, tt)),
          ) (tt, (tt, (tt, tt)))) $ says ! (refl, refl) $
          nothing ! $ nothing ! $ fjoin ! $ nothing ! $ fjoin ! $ nothing ! $ fjoin ! $ nothing ! $ done !)

    walks : ent 𝓤 ((walk_of 𝓛 F.ended stayed held).pre z)
        (WpFn 𝓤 H 𝓣.C 𝓣.Λ code.function ((walk_of 𝓛 F.ended stayed held).args z) Post)
    walks =
        let vss = z.0.4 in
        let Asked = IsNonNull p × (space.place ≡ p) × (space.len ≡ n) in
        let none_yet : o ≡ 0 + o = omega arith in let all_left : n ≡ n - 0 = omega arith in
        qed 𝓛 ((raw (alive 𝓛 F.ended.signature z.0.0 z.0.1) ⊛ ‵
        (owns (types_at F.ended.signature.params z.0.0) z.0.3 vss)) ∷ raw (fact 𝓤 Asked) ∷ []) ∵
        move ! (1 ∷ []) $ heard ! Asked (λ asked. split ! $ drop ! $
        fsplit ! $ feq_l ! (λ is₀. fsplit ! $ fsplit ! $ feq_l ! (λ is₁.
        flt_l ! (λ fits. fsplit ! $ fsplit ! $ none_had ! vss.1.1.0 (λ is₂. move ! (1 ∷ []) $ drop ! $
        -- [the room]
        rewrite ! 0 (λ (u : Ptr × ℕ). ‵ (space_owns u.0 u.1)) (λ i. ((asked.1 ∙ asked.0) i, asked.2 i)) refl $
        regoal ! (λ (us : List Val). prop (WpFn 𝓤 H 𝓣.C 𝓣.Λ code.function us Post)) (λ i.
        (is₀ ∙ ap (λ (r : Ptr). ptr_val r ∷ []) asked.0) i ++ (is₁ i ++ (is₂ i ++ []))) refl $
        enter ! 𝓣.C 𝓣.Λ code.function (vptr b o ∷ vint w64 n ∷ none ∷ []) Post $
        alloc_all ! (λ l. pass_all ! refl ((tt, tt), ((tt, record { fits = fits }), ((tt, tt), tt))) $
        rewrite ! 0 (λ (k : ℕ). ‵ (froom (bytes_type k) b o)) all_left refl $ rewrite ! 0 (λ (k : ℕ).
        ‵ (froom (bytes_type (n - 0)) b k)) none_yet refl $ nothing ! $
        sets ! (of_opd ! (lit ! tt)) refl (tt, record { fits = lit< tt }) $
        first ! $ blocks ! $ loops ! 𝓣 Nearer (InvImage.wf (λ (t : Written). n - t.0) lt-wf_rel.wf) (Now fits l)
        (turns fits l) (0, omega arith)))))))

  meets : (𝓣 : Tables 𝓤 H) → Meets 𝓛 F.ended.signature (WpFn 𝓤 H 𝓣.C 𝓣.Λ code.function) (closing 𝓛 F.ended held)
  meets 𝓣 =
      walk_Meets 𝓛 F.ended stayed (
        Goes-dropped 𝓛 0 (plain (λ _. RawPtr)) yes (λ κs x f. refl),
        (
          Goes-dropped 𝓛 0 (plain (λ _. usize)) yes (λ κs x f. refl),
          (Goes-blank 𝓛 0 (plain (λ _. Space.the_row)) yes (λ κs x f. tt), tt),
        ),
      ) held
      (WpFn 𝓤 H 𝓣.C 𝓣.Λ code.function) (WpFn-mono 𝓤 H 𝓛.laws 𝓣 code.function) (walks 𝓣)

pub zero_spec : {M : Type 1} → stated.statement M
unfolding tables_of
zero_spec 𝓤 𝓛 𝓜 𝓡 wired =
    let 𝓣 : Tables 𝓤 𝓛.H = tables_of 𝓤 𝓛.H 𝓜 (tables 𝓤 𝓛.H 𝓜 𝓡 𝓡.env) in
    entered 𝓤 𝓛.H (triple_of 𝓛 F.ended.signature (closing 𝓛 F.ended (held 𝓛 𝓜.mem 𝓡.returns))) 𝓣.C 𝓣.Λ #self
    code.function
    (code.unfolded 𝓤 𝓛.H 𝓜 𝓡 wired) (meets 𝓛 𝓜.mem 𝓡.returns 𝓣)
