-- `slice_mut` lends a part of the bytes, and the block ends with what was written there. Assumes `Logic`.
use Rattle.std.proofs.Common.{◌≡◌, ℕ, ◌+◌, ◌*◌, ◌^◌, ◌<◌, ◌≤◌, List, [], ◌∷◌, ◌++◌, length, refl, sym, ap, ◌∙◌, arith}
use Rattle.std.proofs.Common.{w64, MutBor, length-take-le, length-drop}
use lib.ListN.{drop as drop_l}
use lib.Seq.{take_at as take_front}
use seplogic.Ra.Ura.{Ura}
use mir.Syntax.{named}
use mir.Val.{Val, vptr, vint}
use base.Fraction.{full_share}
use base.Logic.{SProp, ent, sep, id⊢}
use base.Fml.{Lft, GName, Fml, fsep, flft, ftrue}
use prog.Memory.{Memory}
use prog.Routine.{Routine}
use prog.Wp.{Env, Calls, Loops, WpFn, Tables}
use contract.Monad.{Fun, fact}
use contract.Running.{tables, tables_of}
use sound.WpLaws.{WpFn-mono}
use types.Logic.{Logic, sem}
use types.SemTy.{cells}
use types.Kit.{‵, raw, ◌⊛◌, some, later, prop, ◌$◌, ◌∵◌, !, qed, move, keep, drop, use1, use2, await, pick, split}
use types.Kit.{split3, join, group, fsplit, fsplit3, fjoin, fjoin3, fpack, feq_l, flt_l, regoal, rewrite, frame}
use types.Kit.{suffices, done, at_ret}
use types.Part.{agg}
use types.Run.{enter, returns, of_opd, bin, and_then, no_more, first, blocks, exec}
use types.ByLocal.{alloc_all, pass_all, free_all, look_at, get, sets, sets_last, env}
use denote.Array.{Array}
use denote.Exit.{yes, no}
use denote.RattleType.{RattleType, owns}
use denote.Builtin.{u8, usize}
use denote.Follow.{follows}
use denote.FollowSlice.{Elements, lends_Elements}
use denote.Index.{whole_in, whole_out}
use denote.Memory.{mem, cell_at, part_of}
use denote.RawPtr.{Ptr, RawPtr, ptr_val, block_of, count_of}
use denote.Signature.{plain, types_at, mut_ref_to}
use denote.Slice.{MutSlice, slice_val}
use denote.Steps.{nothing, heard, opens}
use denote.Struct.Owning.{shape}
use denote.Struct.Struct.{Struct}
use denote.Triple.Clauses.{Clauses, closing}
use denote.Triple.Entry.{alive}
use denote.Triple.Spec.{Meets, triple_of}
use denote.Triple.Table.{entered}
use denote.Triple.Walked.{says, Stays, stay_dropped, walk_of, ends_at, walk_Meets, Goes-dropped, Goes-spent_ref}
use Rattle.std.specs.List.{refill}
use Rattle.raw_region.specs.Memory.{part, patched}
use Rattle.raw_region.specs.Ownership.{IsNonNull, block_owns}
use Rattle.raw_region.specs.Loans.{rewritten}
use Rattle.raw_region.proofs.block.Parts.{Bytes, Around, part_out, part_in}
use Rattle.raw_region.specs.contracts.block.Block as Block
use Rattle.raw_region.specs.contracts.block.Block.slice_mut as F
use Rattle.raw_region.specs.contracts.block.Block.slice_mut.Key.{name as #self}
use Rattle.raw_region.proofs.block.Block.slice_mut.Statement as stated
use Rattle.raw_region.proofs.block.Block.slice_mut.Code as code

abbrev B : RattleType
B = Block.the_row

-- the fields of a block, which take no bytes
abbrev Fields : RattleType
Fields = Struct (shape Block.the_type)

abbrev stayed : Stays F.ended.signature.params F.ended.kept
stayed = (
  stay_dropped (mut_ref_to (0 ∷ []) tt (plain (λ _. B))) no,
  (
    stay_dropped (plain (λ _. RawPtr)) yes,
    (stay_dropped (plain (λ _. usize)) yes, (stay_dropped (plain (λ _. usize)) yes, tt)),
  ),
)

module _ {M : Type 1} {𝓤 : Ura M} (𝓛 : Logic 𝓤) (at_mem : Memory → SProp 𝓤) (run : Routine → Fun 𝓤) where
  open 𝓛 use {H, A}

  abbrev held : Clauses 𝓤 F.ended
  held = F.clauses 𝓛 at_mem run

  module _ (C : Calls 𝓤 H) (Λ : Loops 𝓤 H) (z : (walk_of 𝓛 F.ended stayed held).Ghost) where
    abbrev Post : Val → SProp 𝓤
    Post = (walk_of 𝓛 F.ended stayed held).post z

    abbrev κ : Lft
    κ = z.0.0.0

    abbrev self : MutBor (B.Denot)
    self = z.0.3.0

    abbrev rb : ℕ
    rb = self.ref_ptr.0

    abbrev ro : ℕ
    ro = self.ref_ptr.1

    abbrev p : Ptr
    p = z.0.3.1.0

    abbrev from : ℕ
    from = z.0.3.1.1.0

    abbrev len : ℕ
    len = z.0.3.1.1.1.0

    abbrev xs : List ℕ
    xs = self.now.items

    abbrev ys : List ℕ
    ys = part xs from len

    abbrev b : ℕ
    b = block_of p

    abbrev o : ℕ
    o = count_of p

    abbrev Asked : Type 0
    Asked = IsNonNull p × (self.now.place ≡ p) × (from + len ≤ length xs) × (length xs < 2 ^ 63)

    abbrev new : List ℕ → B.Denot
    new = rewritten self.now from len

    -- all but the part, with the block that the reference leads to
    abbrev Rest : List Val → Fml
    Rest vs = fsep (Around 𝓛 b xs o from len) (fsep (Fields.own_val tt vs) (cell_at full_share B.mir vs rb ro))

    back : (vs : List Val) → Asked → length ys ≡ len → (ws : List ℕ) → length ws ≡ length ys
        → ent 𝓤 (sep 𝓤 (sem 𝓛 (cells (mem u8) ws b (from + o))) (sem 𝓛 (Rest vs)))
        (sem 𝓛 ((mem B).own_at (new ws) rb ro))
    unfolding part_of
    back vs asked long ws same =
        let all : refill len ys ws ≡ ws = take_front ws (drop_l (length ws) ys) len (same ∙ long) in
        qed 𝓛 (‵ (cells (mem u8) ws b (from + o)) ∷ ‵ (Rest vs) ∷ []) ∵ use1 𝓛 (‵ (Bytes 𝓛 b ws (from + o)))
        (whole_out 𝓛 u8 ws b (from + o)) $
        move ! (1 ∷ []) $ fsplit3 ! $ move ! (3 ∷ 0 ∷ []) $
        use2 𝓛 (‵ (Bytes 𝓛 b (patched xs from ws) o)) (part_in 𝓛 b xs o from len asked.2 ws (same ∙ long)) $
        rewrite ! 0 (λ (l : List ℕ). ‵ (Bytes 𝓛 b (patched xs from l) o)) (sym all) refl $
        rewrite ! 0 (λ (r : Ptr). ‵ (block_owns r (patched xs from (refill len ys ws)))) (sym asked.1) refl $
        move ! (1 ∷ 0 ∷ []) $ fjoin ! $ move ! (1 ∷ 0 ∷ []) $ fjoin ! $
        fpack ! (List Val) (λ us. fsep (cell_at full_share B.mir us rb ro) (B.own_val (new ws) us)) vs $ done !

    abbrev lent : GName → MutBor (List ℕ)
    lent δ = record { ref_ptr = (b, from + o); ghost_name = δ; now = ys }

    walks : ent 𝓤 ((walk_of 𝓛 F.ended stayed held).pre z)
        (WpFn 𝓤 H C Λ code.function ((walk_of 𝓛 F.ended stayed held).args z) Post)
    walks =
        let a = z.0.3 in let vss = z.0.4 in let q = z.0.1.0 in
        qed 𝓛 ((raw (alive 𝓛 F.ended.signature z.0.0 z.0.1) ⊛ ‵
        (owns (types_at F.ended.signature.params z.0.0) a vss)) ∷ raw (fact 𝓤 Asked) ∷ []) ∵
        move ! (1 ∷ []) $ heard ! Asked (λ asked. split ! $ move ! (1 ∷ []) $
        let long : length ys ≡ len = length-take-le len _ (omega (arith, asked.2, length-drop from xs)) in
        fsplit ! $ fsplit3 ! $ feq_l ! (λ is₀. move ! (2 ∷ []) $
        fsplit ! $ feq_l ! (λ is₁. fsplit ! $ fsplit ! $ feq_l ! (λ is₂.
        flt_l ! (λ fits_from. fsplit ! $ fsplit ! $ feq_l ! (λ is₃. flt_l ! (λ fits_len. drop ! $
        move ! (2 ∷ []) $ use1 𝓛 (‵ (flft κ q) ⊛ ‵ ftrue) (id⊢ 𝓤 _) $ split ! $ move ! (2 ∷ 3 ∷ 0 ∷ []) $
        regoal ! (λ (us : List Val). prop
        (WpFn 𝓤 H C Λ code.function (us ++ (vss.1.0 ++ (vss.1.1.0 ++ (vss.1.1.1.0 ++ [])))) Post)) is₀ refl $
        regoal ! (λ (us : List Val). prop
        (WpFn 𝓤 H C Λ code.function ((vptr rb ro ∷ []) ++ (us ++ (vss.1.1.0 ++ (vss.1.1.1.0 ++ [])))) Post)) (is₁
        ∙ ap (λ (r : Ptr). ptr_val r ∷ []) asked.0) refl $
        regoal ! (λ (us : List Val). prop
        (WpFn 𝓤 H C Λ code.function ((vptr rb ro ∷ []) ++ ((vptr b o ∷ []) ++ (us ++ (vss.1.1.1.0 ++ [])))) Post))
        is₂ refl $
        regoal ! (λ (us : List Val). prop
        (WpFn 𝓤 H C Λ code.function ((vptr rb ro ∷ []) ++ ((vptr b o ∷ []) ++ ((vint w64 from ∷ []) ++ (us ++ []))))
        Post)) is₃ refl $
        enter ! C Λ code.function (vptr rb ro ∷ vptr b o ∷ vint w64 from ∷ vint w64 len ∷ []) Post $
        alloc_all ! (λ l. pass_all ! refl (
          (tt, tt),
          ((tt, tt), ((tt, record { fits = fits_from }), ((tt, record { fits = fits_len }), tt))),
        ) $
        let En : Env 𝓤 H = env (code.function).locals l in
        let code_of = B.coded.code self.now in
        opens ! tt B {h = self.now} rb ro (λ vs. move ! (1 ∷ []) $ fsplit ! $ move ! (1 ∷ []) $
        -- [the bytes; the fields; the cell; the open borrow, in three entries]
        rewrite ! 0 (λ (r : Ptr). ‵ (block_owns r xs)) asked.1 refl $
        first ! $ blocks ! $
        sets ! (bin ! (get ! refl) (get ! refl) tt) refl (tt, tt) $
        let way = back vs asked long in
        let roomy : length ys < 2 ^ 64 = omega (arith, asked.2, asked.3) in let fitting : length ys * 1 < 2 ^ 63 =
        omega (arith, asked.2, asked.3) in
        use1 𝓛 (‵ (Bytes 𝓛 b ys (from + o)) ⊛ ‵ (Around 𝓛 b xs o from len)) (part_out 𝓛 b xs o from len asked.2) $
        split ! $
        use1 𝓛 (‵ (cells (mem u8) ys b (from + o))) (whole_in 𝓛 u8 ys b (from + o)) $
        sets_last ! (agg ! (and_then ! (get ! refl) (and_then ! (get ! refl) (no_more !)))) refl (
          tt,
          (tt, (record { fits = fits_len }, tt)),
        ) $
        exec ! C Λ En code.Mir.t-2 (at_ret En Post) $
        sets ! (of_opd ! (get ! refl)) refl (tt, (tt, (record { fits = fits_len }, tt))) $
        move ! (1 ∷ 2 ∷ 3 ∷ []) $ fjoin3 ! $ move ! (2 ∷ 3 ∷ 4 ∷ 1 ∷ 0 ∷ []) $ group ! 5 $
        use1 𝓛 (later (some (λ (δ : GName).
        raw (Elements 𝓛 B u8 new (named 0) κ q rb ro b (from + o) self.ghost_name ys (
          roomy,
          fitting,
        ) (sem 𝓛 (Rest vs)) way δ))))
        (lends_Elements 𝓛 B u8 new (named 0) κ q rb ro b (from + o) self.ghost_name ys (
          roomy,
          fitting,
        ) (sem 𝓛 (Rest vs)) way code_of code_of) $ await ! tt $ pick ! (λ δ.
        returns ! (look_at ! 0 refl) $ free_all ! refl $ keep ! (0 ∷ []) $
        use1 𝓛 (‵ ((MutSlice (named 0) κ u8).own_val (lent δ) (slice_val (b, from + o) (length ys) ∷ [])) ⊛ ‵
        (flft κ q) ⊛ ‵ (follows B (Array u8 0) self.ghost_name δ new)) (id⊢ 𝓤 _) $ split3 ! $
        -- [the slice; the token; what the block follows]
        rewrite ! 0 (λ (k : ℕ). ‵ ((MutSlice (named 0) κ u8).own_val (lent δ) (slice_val (b, from + o) k ∷ [])))
        long refl $
        suffices ! _ (ends_at 𝓛 F.ended stayed held z (slice_val (b, from + o) len) (lent δ) (
          tt,
          (tt, (tt, (tt, tt))),
        ) (tt, (tt, (tt, (tt, tt))))) $
        nothing ! $ nothing ! $ fjoin ! $ nothing ! $ fjoin ! $ nothing ! $ fjoin ! $ nothing ! $ fjoin ! $ join ! $
        nothing ! $ move ! (2 ∷ 0 ∷ []) $ join ! $ join ! $ frame ! $ says ! refl $ done !))))))))))

  meets : (𝓣 : Tables 𝓤 H) → Meets 𝓛 F.ended.signature (WpFn 𝓤 H 𝓣.C 𝓣.Λ code.function) (closing 𝓛 F.ended held)
  meets 𝓣 =
      walk_Meets 𝓛 F.ended stayed (
        Goes-spent_ref 𝓛 1 (0 ∷ []) tt (plain (λ _. B)),
        (
          Goes-dropped 𝓛 1 (plain (λ _. RawPtr)) yes (λ κs x f. refl),
          (
            Goes-dropped 𝓛 1 (plain (λ _. usize)) yes (λ κs x f. refl),
            (Goes-dropped 𝓛 1 (plain (λ _. usize)) yes (λ κs x f. refl), tt),
          ),
        ),
      ) held
      (WpFn 𝓤 H 𝓣.C 𝓣.Λ code.function) (WpFn-mono 𝓤 H 𝓛.laws 𝓣 code.function) (walks 𝓣.C 𝓣.Λ)

pub slice_mut_spec : {M : Type 1} → stated.statement M
unfolding tables_of
slice_mut_spec 𝓤 𝓛 𝓜 𝓡 wired =
    let 𝓣 : Tables 𝓤 𝓛.H = tables_of 𝓤 𝓛.H 𝓜 (tables 𝓤 𝓛.H 𝓜 𝓡 𝓡.env) in
    entered 𝓤 𝓛.H (triple_of 𝓛 F.ended.signature (closing 𝓛 F.ended (held 𝓛 𝓜.mem 𝓡.returns))) 𝓣.C 𝓣.Λ #self
    code.function
    (code.unfolded 𝓤 𝓛.H 𝓜 𝓡 wired) (meets 𝓛 𝓜.mem 𝓡.returns 𝓣)
