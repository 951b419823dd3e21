-- `two_parts` cuts the borrow of a slice, and the slice ends with what was written to both parts. Assumes `Logic`.
use Rattle.std.proofs.Common.{◌≡◌, ℕ, ◌+◌, ◌^◌, ◌<◌, ◌≤◌, List, [], ◌∷◌, length, refl, sym, ◌∙◌, arith, w64, MutBor}
use lib.ListN.{drop as drop_l}
use lib.Seq.{take_at as take_front}
use seplogic.Ra.Ura.{Ura}
use mir.Syntax.{named}
use mir.Val.{Val, vint, vstruct, vcons, vnil}
use base.Logic.{SProp, ent, sep, emp}
use base.Stored.{Gv, coded_list}
use base.Fml.{Lft, GName, flft, fobs, fbor, ftrue}
use prog.Memory.{Memory}
use prog.Routine.{Routine}
use prog.Wp.{Env, Calls, Loops, WpFn, Tables}
use contract.Monad.{Fun, fact, fact_i}
use contract.Running.{tables, tables_of}
use sound.WpLaws.{WpFn-mono}
use types.Logic.{Logic, sem}
use types.SemTy.{SemTy, cells, Arr, Body}
use types.Follow.{after₂, takes_two}
use types.Kit.{‵, raw, ◌⊛◌, some, later, ◌$◌, ◌∵◌, !, qed, move, keep, drop, use0, use1, await, pick, split, split3}
use types.Kit.{join, group, fsplit, fjoin, feq_l, feq_i, fpack, rewrite, suffices, done, at_ret}
use types.Part.{whole, sub, agg}
use types.Run.{enter, returns, of_opd, bin, addr, from as from_place, fld, hop, stop, and_then, no_more, first, blocks}
use types.Run.{exec}
use types.ByLocal.{alloc_all, pass_all, free_all, look_at, look_in_at, get, sets, sets_last, env}
use denote.Exit.{yes, no}
use denote.RattleType.{RattleType, Valss, owns}
use denote.Builtin.{u8, usize}
use denote.Follow.{both_by}
use denote.FollowSlice.{slice_of}
use denote.Index.{whole_in, whole_out, opens_slice}
use denote.Memory.{mem}
use denote.Plain.{uint_vals, uint_Tells}
use denote.Signature.{plain, types_at, mut_slice_of}
use denote.Slice.{MutSlice, Room, coded_holeys, heres, slice_val, mut_slice_vals, mut_slice_Tells}
use denote.Steps.{nothing}
use denote.Struct.Declared.{shape}
use denote.Struct.Struct.{within}
use denote.Struct.Tuple.{tuple_type}
use denote.Triple.Clauses.{Clauses, closing}
use denote.Triple.Entry.{on_entry}
use denote.Triple.Spec.{Meets, triple_of}
use denote.Triple.Table.{entered}
use denote.Triple.Walked.{needs, walked, Stays, stay_dropped, walk_of, ends_at, walk_Meets, Goes-dropped}
use denote.Triple.Walked.{Goes-spent_slice}
use Rattle.std.specs.List.{refill}
use Rattle.raw_region.specs.Memory.{part, patched}
use Rattle.raw_region.specs.Regions.{AreDisjoint}
use Rattle.raw_region.specs.LentTwo.{with_two}
use Rattle.raw_region.proofs.block.Parts.{Bytes, Parted, parted}
use Rattle.raw_region.proofs.words.Patches.{length-part, length-patched}
use Rattle.raw_region.specs.contracts.block.two_parts as F
use Rattle.raw_region.specs.contracts.block.two_parts.Key.{name as #self}
use Rattle.raw_region.proofs.block.two_parts.Statement as stated
use Rattle.raw_region.proofs.block.two_parts.Code as code

abbrev stayed : Stays F.ended.signature.params F.ended.kept
stayed = (
  stay_dropped (mut_slice_of (0 ∷ []) tt (plain (λ _. u8))) no,
  (
    stay_dropped (plain (λ _. usize)) yes,
    (
      stay_dropped (plain (λ _. usize)) yes,
      (stay_dropped (plain (λ _. usize)) yes, (stay_dropped (plain (λ _. usize)) yes, tt)),
    ),
  ),
)

abbrev Run : ℕ → SemTy
Run n = Arr (mem u8) n

module _ {M : Type 1} {𝓤 : Ura M} (𝓛 : Logic 𝓤) (at_mem : Memory → SProp 𝓤) (run : Routine → Fun 𝓤) where
  open 𝓛 use {H, A}

  abbrev held : Clauses 𝓤 F.ended
  held = F.clauses 𝓛 at_mem run

  module _ (C : Calls 𝓤 H) (Λ : Loops 𝓤 H) (z : (walk_of 𝓛 F.ended stayed held).Ghost) where
    abbrev Post : Val → SProp 𝓤
    Post = (walk_of 𝓛 F.ended stayed held).post z

    abbrev κ : Lft
    κ = z.0.0.0

    abbrev self : MutBor (List ℕ)
    self = z.0.3.0

    abbrev b : ℕ
    b = self.ref_ptr.0

    abbrev o : ℕ
    o = self.ref_ptr.1

    abbrev xs : List ℕ
    xs = self.now

    abbrev n : ℕ
    n = length xs

    abbrev at₁ : ℕ
    at₁ = z.0.3.1.0

    abbrev len₁ : ℕ
    len₁ = z.0.3.1.1.0

    abbrev at₂ : ℕ
    at₂ = z.0.3.1.1.1.0

    abbrev len₂ : ℕ
    len₂ = z.0.3.1.1.1.1.0

    abbrev xs₁ : List ℕ
    xs₁ = part xs at₁ len₁

    abbrev xs₂ : List ℕ
    xs₂ = part xs at₂ len₂

    abbrev Asked : Type 0
    Asked = (at₁ + len₁ ≤ n) × (at₂ + len₂ ≤ n) × AreDisjoint at₁ len₁ at₂ len₂

    abbrev new : List ℕ → List ℕ → List ℕ
    new = with_two xs at₁ len₁ at₂ len₂

    module _ (asked : Asked) where
      abbrev parts : Parted 𝓛 b o xs at₁ len₁ at₂ len₂
      parts = parted 𝓛 b o xs at₁ len₁ at₂ len₂ asked.0 asked.1 asked.2

      long₁ : length xs₁ ≡ len₁
      long₁ = length-part xs at₁ len₁ asked.0

      long₂ : length xs₂ ≡ len₂
      long₂ = length-part xs at₂ len₂ asked.1

      back : (ws₁ ws₂ : List ℕ) → ent 𝓤
          (sep 𝓤 (sem 𝓛 ((Run (length xs₁)).own_at ws₁ b (at₁ + o)))
          (sep 𝓤 (sem 𝓛 ((Run (length xs₂)).own_at ws₂ b (at₂ + o))) (sem 𝓛 parts.rest)))
          (sem 𝓛 ((Run n).own_at (new ws₁ ws₂) b o))
      back ws₁ ws₂ =
          qed 𝓛 (‵ ((Run (length xs₁)).own_at ws₁ b (at₁ + o)) ∷ ‵ ((Run (length xs₂)).own_at ws₂ b (at₂ + o))
          ∷ ‵ parts.rest ∷ []) ∵ fsplit ! $ feq_l ! (λ e₁. move ! (1 ∷ []) $ fsplit ! $ feq_l ! (λ e₂.
          let all₁ : refill len₁ xs₁ ws₁ ≡ ws₁ = take_front ws₁ (drop_l (length ws₁) xs₁) len₁ (e₁ ∙ long₁) in
          let all₂ : refill len₂ xs₂ ws₂ ≡ ws₂ = take_front ws₂ (drop_l (length ws₂) xs₂) len₂ (e₂ ∙ long₂) in
          let same : patched (patched xs at₁ ws₁) at₂ ws₂ ≡ new ws₁ ws₂ =
          λ i. patched (patched xs at₁ (sym all₁ i)) at₂ (sym all₂ i) in
          let one = length-patched xs at₁ ws₁ (omega (arith, asked.0, long₁)) in
          let long : length (patched (patched xs at₁ ws₁) at₂ ws₂) ≡ n =
          length-patched (patched xs at₁ ws₁) at₂ ws₂ (omega (arith, asked.1, long₂)) ∙ one in
          use1 𝓛 (‵ (Bytes 𝓛 b ws₂ (at₂ + o))) (whole_out 𝓛 u8 ws₂ b (at₂ + o)) $ move ! (1 ∷ []) $ use1 𝓛
          (‵ (Bytes 𝓛 b ws₁ (at₁ + o))) (whole_out 𝓛 u8 ws₁ b (at₁ + o)) $ group ! 3 $
          use1 𝓛 (‵ (Bytes 𝓛 b (patched (patched xs at₁ ws₁) at₂ ws₂) o)) (parts.back ws₁ ws₂ (e₁ ∙ long₁) (e₂
          ∙ long₂)) $
          use1 𝓛 (‵ (cells (mem u8) (patched (patched xs at₁ ws₁) at₂ ws₂) b o))
          (whole_in 𝓛 u8 (patched (patched xs at₁ ws₁) at₂ ws₂) b o) $
          feq_i ! ℕ (length (patched (patched xs at₁ ws₁) at₂ ws₂)) n long $ fjoin ! $ rewrite ! 0 (λ (l : List ℕ).
          ‵ ((Run n).own_at l b o)) same refl $ done !))

    abbrev lent₁ : GName → MutBor (List ℕ)
    lent₁ δ = record { ref_ptr = (b, at₁ + o); ghost_name = δ; now = xs₁ }

    abbrev lent₂ : GName → MutBor (List ℕ)
    lent₂ δ = record { ref_ptr = (b, at₂ + o); ghost_name = δ; now = xs₂ }

    abbrev Halves : List RattleType
    Halves = MutSlice (named 0) κ u8 ∷ MutSlice (named 0) κ u8 ∷ []

    walks : Room u8 n → at₁ < 2 ^ 64 → len₁ < 2 ^ 64 → at₂ < 2 ^ 64 → len₂ < 2 ^ 64 → Asked
        → ent 𝓤 (on_entry 𝓛 F.ended.signature z.0.0 z.0.1 z.0.3 (
          mut_slice_vals self,
          (vint w64 at₁ ∷ [], (vint w64 len₁ ∷ [], (vint w64 at₂ ∷ [], (vint w64 len₂ ∷ [], tt)))),
        ))
        (WpFn 𝓤 H C Λ code.function (slice_val (b, o) n ∷ vint w64 at₁ ∷ vint w64 len₁ ∷ vint w64 at₂
        ∷ vint w64 len₂ ∷ []) Post)
    unfolding both_by
    walks room f₁ g₁ f₂ g₂ asked =
        let q = z.0.1.0 in let γ = self.ghost_name in
        let y : (walk_of 𝓛 F.ended stayed held).Ghost = (
          (
            z.0.0,
            z.0.1,
            z.0.2,
            z.0.3,
            (
              mut_slice_vals self,
              (vint w64 at₁ ∷ [], (vint w64 len₁ ∷ [], (vint w64 at₂ ∷ [], (vint w64 len₂ ∷ [], tt)))),
            ),
          ),
          z.1,
        ) in
        qed 𝓛 ((‵ (flft κ q) ⊛ ‵ ftrue)
        ∷ ‵ (owns (types_at F.ended.signature.params z.0.0) z.0.3 (
          mut_slice_vals self,
          (vint w64 at₁ ∷ [], (vint w64 len₁ ∷ [], (vint w64 at₂ ∷ [], (vint w64 len₂ ∷ [], tt)))),
        )) ∷ []) ∵
        enter ! C Λ code.function (slice_val (b, o) n ∷ vint w64 at₁ ∷ vint w64 len₁ ∷ vint w64 at₂ ∷ vint w64 len₂
        ∷ []) Post $
        alloc_all ! (λ l. pass_all ! refl (
          (tt, (tt, (record { fits = room.0 }, tt))),
          (
            (tt, record { fits = f₁ }),
            (
              (tt, record { fits = g₁ }),
              ((tt, record { fits = f₂ }), ((tt, record { fits = g₂ }), tt)),
            ),
          ),
        ) $
        let En : Env 𝓤 H = env (code.function).locals l in
        sets ! (addr ! (from_place ! (fld ! refl (hop ! (look_in_at ! 1 (sub ! 0 refl (whole !))) (stop !))))) refl
        (tt, tt) $
        first ! $ blocks ! $
        sets ! (bin ! (get ! refl) (get ! refl) tt) refl (tt, tt) $
        sets ! (agg ! (and_then ! (get ! refl) (and_then ! (get ! refl) (no_more !)))) refl (
          tt,
          (tt, (record { fits = g₁ }, tt)),
        ) $
        sets ! (bin ! (get ! refl) (get ! refl) tt) refl (tt, tt) $
        sets ! (agg ! (and_then ! (get ! refl) (and_then ! (get ! refl) (no_more !)))) refl (
          tt,
          (tt, (record { fits = g₂ }, tt)),
        ) $
        sets_last ! (agg ! (and_then ! (get ! refl) (and_then ! (get ! refl) (no_more !)))) refl (
          tt,
          ((tt, (record { fits = g₁ }, tt)), ((tt, (record { fits = g₂ }, tt)), tt)),
        ) $
        exec ! C Λ En code.Mir.t-3 (at_ret En Post) $
        sets ! (of_opd ! (get ! refl)) refl (
          tt,
          ((tt, (record { fits = g₁ }, tt)), ((tt, (record { fits = g₂ }, tt)), tt)),
        ) $
        move ! (1 ∷ []) $ fsplit ! $ fsplit ! $ drop ! $ fsplit ! $ move ! (3 ∷ []) $ split ! $ move !
        (2 ∷ 3 ∷ 0 ∷ []) $
        -- [what the name is seen at; the borrow; the token; ..]
        opens_slice ! tt u8 xs b o $
        let way = parts asked in let e₁ = long₁ asked in let e₂ = long₂ asked in
        let seen : Gv = (coded_holeys u8).code (heres u8 xs) in
        let room₁ : Room u8 (length xs₁) = (omega (arith, asked.0, room.0, e₁), omega (arith, asked.0, room.1, e₁))
        in let room₂ : Room u8 (length xs₂) =
        (omega (arith, asked.1, room.0, e₂), omega (arith, asked.1, room.1, e₂)) in
        use1 𝓛 (‵ (Bytes 𝓛 b xs₁ (at₁ + o)) ⊛ ‵ (Bytes 𝓛 b xs₂ (at₂ + o)) ⊛ ‵ way.rest) way.out $ split3 ! $
        use1 𝓛 (‵ (cells (mem u8) xs₁ b (at₁ + o))) (whole_in 𝓛 u8 xs₁ b (at₁ + o)) $ feq_i ! ℕ (length xs₁)
        (length xs₁) refl $ fjoin ! $ move ! (1 ∷ []) $
        use1 𝓛 (‵ (cells (mem u8) xs₂ b (at₂ + o))) (whole_in 𝓛 u8 xs₂ b (at₂ + o)) $ feq_i ! ℕ (length xs₂)
        (length xs₂) refl $ fjoin ! $
        -- [the second part; the first; the rest; the open borrow, in three entries]
        move ! (3 ∷ 4 ∷ 5 ∷ 1 ∷ 0 ∷ 2 ∷ []) $ group ! 6 $
        use1 𝓛 (later (some (λ (δs : GName × GName).
        (‵ (fobs δs.0 ((coded_list u8.coded).code xs₁)) ⊛ ‵ (fbor κ (Body (Run (length xs₁)) b (at₁ + o) δs.0))) ⊛
        (‵ (fobs δs.1 ((coded_list u8.coded).code xs₂)) ⊛ ‵ (fbor κ (Body (Run (length xs₂)) b (at₂ + o) δs.1)))
        ⊛ ‵ (flft κ q) ⊛ ‵ (after₂ (Run 0) (Run 0) (Run 0) γ δs.0 δs.1 new))))
        (takes_two 𝓛 (Run n) (Run (length xs₁)) (Run (length xs₂)) new κ q b o b (at₁ + o) b (at₂ + o) γ
        (sem 𝓛 way.rest) (back asked) seen seen xs₁ xs₂) $ await ! tt $ pick ! (λ δs. split3 ! $
        use1 𝓛 (‵ ((MutSlice (named 0) κ u8).own_val (lent₁ δs.0) (slice_val (b, at₁ + o) (length xs₁) ∷ [])))
        (slice_of 𝓛 u8 (named 0) κ b (at₁ + o) δs.0 xs₁ room₁) $ move ! (1 ∷ []) $
        use1 𝓛 (‵ ((MutSlice (named 0) κ u8).own_val (lent₂ δs.1) (slice_val (b, at₂ + o) (length xs₂) ∷ [])))
        (slice_of 𝓛 u8 (named 0) κ b (at₂ + o) δs.1 xs₂ room₂) $ move ! (1 ∷ 0 ∷ []) $
        let v : Val = vstruct (vcons (slice_val (b, at₁ + o) len₁) (vcons (slice_val (b, at₂ + o) len₂) vnil)) in
        nothing ! $ move ! (2 ∷ 0 ∷ []) $ fjoin ! $ move ! (1 ∷ 0 ∷ []) $ fjoin ! $
        feq_i ! (List Val) (v ∷ []) (vstruct
        (vcons (slice_val (b, at₁ + o) (length xs₁)) (vcons (slice_val (b, at₂ + o) (length xs₂)) vnil)) ∷ []) (λ k.
        vstruct (vcons (slice_val (b, at₁ + o) (sym e₁ k)) (vcons (slice_val (b, at₂ + o) (sym e₂ k)) vnil)) ∷ []) $
        fjoin ! $
        fpack ! (Valss Halves) (within (shape (tuple_type Halves)) (lent₁ δs.0, (lent₂ δs.1, tt)) (v ∷ []))
        (slice_val (b, at₁ + o) (length xs₁) ∷ [], (slice_val (b, at₂ + o) (length xs₂) ∷ [], tt)) $
        move ! (1 ∷ []) $ split ! $ returns ! (look_at ! 0 refl) $ free_all ! refl $ keep ! (0 ∷ 2 ∷ 1 ∷ []) $
        -- [the token; the pair; what the slice follows]
        suffices ! _ (ends_at 𝓛 F.ended stayed held y v (lent₁ δs.0, lent₂ δs.1) (
          tt,
          (tt, (tt, (tt, (tt, tt)))),
        ) (tt, (tt, (tt, (tt, (tt, tt)))))) $
        use0 𝓛 (raw (fact 𝓤 ((xs₁ ≡ xs₁) × (xs₂ ≡ xs₂)))) (fact_i 𝓤 _ (emp 𝓤) (refl, refl)) $ move ! (3 ∷ 0 ∷ []) $
        join ! $ move ! (2 ∷ 1 ∷ []) $
        nothing ! $ nothing ! $ fjoin ! $ nothing ! $ fjoin ! $ nothing ! $ fjoin ! $ nothing ! $ fjoin ! $ nothing
        ! $ fjoin ! $ join ! $ nothing ! $ move ! (2 ∷ 0 ∷ []) $ join ! $ join ! $ done !))

  meets : (𝓣 : Tables 𝓤 H) → Meets 𝓛 F.ended.signature (WpFn 𝓤 H 𝓣.C 𝓣.Λ code.function) (closing 𝓛 F.ended held)
  meets 𝓣 =
      walk_Meets 𝓛 F.ended stayed (
        Goes-spent_slice 𝓛 1 (0 ∷ []) tt (plain (λ _. u8)),
        (
          Goes-dropped 𝓛 1 (plain (λ _. usize)) yes (λ κs x f. refl),
          (
            Goes-dropped 𝓛 1 (plain (λ _. usize)) yes (λ κs x f. refl),
            (
              Goes-dropped 𝓛 1 (plain (λ _. usize)) yes (λ κs x f. refl),
              (Goes-dropped 𝓛 1 (plain (λ _. usize)) yes (λ κs x f. refl), tt),
            ),
          ),
        ),
      ) held (WpFn 𝓤 H 𝓣.C 𝓣.Λ code.function) (WpFn-mono 𝓤 H 𝓛.laws 𝓣 code.function)
      (walked 𝓛 F.ended stayed held (WpFn 𝓤 H 𝓣.C 𝓣.Λ code.function) (λ κs.
      (mut_slice_vals, (uint_vals w64, (uint_vals w64, (uint_vals w64, (uint_vals w64, tt))))))
      (λ κs. (
        mut_slice_Tells (named 0) κs.0 u8,
        (uint_Tells w64, (uint_Tells w64, (uint_Tells w64, (uint_Tells w64, tt)))),
      ))
      (λ κs qs bounds a g are. let z : (walk_of 𝓛 F.ended stayed held).Ghost = (
        (
          κs,
          qs,
          bounds,
          a,
          (
            mut_slice_vals a.0,
            (vint w64 a.1.0 ∷ [], (vint w64 a.1.1.0 ∷ [], (vint w64 a.1.1.1.0 ∷ [], (vint w64 a.1.1.1.1.0 ∷ [], tt)))),
          ),
        ),
        g,
      ) in
      needs 𝓤 (Asked 𝓣.C 𝓣.Λ z) _ (walks 𝓣.C 𝓣.Λ z are.0.0.1 are.1.0.1 are.1.1.0.1 are.1.1.1.0.1 are.1.1.1.1.0.1)))

pub two_parts_spec : {M : Type 1} → stated.statement M
unfolding tables_of
two_parts_spec 𝓤 𝓛 𝓜 𝓡 wired =
    let 𝓣 : Tables 𝓤 𝓛.H = tables_of 𝓤 𝓛.H 𝓜 (tables 𝓤 𝓛.H 𝓜 𝓡 𝓡.env) in
    entered 𝓤 𝓛.H (triple_of 𝓛 F.ended.signature (closing 𝓛 F.ended (held 𝓛 𝓜.mem 𝓡.returns))) 𝓣.C 𝓣.Λ #self
    code.function
    (code.unfolded 𝓤 𝓛.H 𝓜 𝓡 wired) (meets 𝓛 𝓜.mem 𝓡.returns 𝓣)
