use Rattle.std.proofs.Common.{◌≡◌, ℕ, ◌+◌, ◌-◌, ◌*◌, ◌≤◌, List, length, ap, subst, sym, ◌∙◌, arith}
use Rattle.raw_region.specs.Memory.{bytes_of, patched}
use Rattle.offset_link.specs.Relinked.{word_by_distance, reworded, HasNoNullLink}
use Rattle.offset_link.proofs.moves.ShiftedWords.{non_null-join, non_null-same, run_before, words-before}
use Rattle.offset_link.proofs.moves.all_turns_up.Goals as goal

-- all runs but the first eight, and then these
module _ (b one : List ℕ) (at by n : ℕ) (within : at + by + 64 * n ≤ length b) (many : 8 ≤ n)
    (e : one ≡ patched b (at + 512 + by)
    (reworded word_by_distance (bytes_of b) (at + 512) (at + 512 + by) (8 * (n - 8)))) where
  set : HasNoNullLink (bytes_of one) at 64 → HasNoNullLink (bytes_of b) (at + 512) (8 * (n - 8))
      → HasNoNullLink (bytes_of b) at (8 * n)
  set now rest =
      let m = bytes_of b in let j = 8 * (n - 8) in
      let was : HasNoNullLink m at 64 = non_null-same (bytes_of one) m at 64
      (λ a low high. sym (words-before word_by_distance b one (at + 512 + by) j (at + 512) (omega arith) e at 64
      (omega arith) a low high)) now in
      let a : at + 512 ≡ at + 8 * 64 = omega arith in let all : 64 + j ≡ 8 * n = omega arith in
      subst (HasNoNullLink m at) all (non_null-join m at 64 j was (subst (λ (i : ℕ). HasNoNullLink m i j) a rest))

  both : (new : List ℕ) → new ≡ patched one (at + by) (reworded word_by_distance (bytes_of one) at (at + by) 64)
      → new ≡ patched b (at + by) (reworded word_by_distance (bytes_of b) at (at + by) (8 * n))
  both new f =
      let t : at + 512 + by ≡ at + by + 8 * 64 = omega arith in let a : at + 512 ≡ at + 8 * 64 = omega arith in
      let all : 64 + 8 * (n - 8) ≡ 8 * n = omega arith in
      run_before word_by_distance b one new at (at + by) 64 (8 * (n - 8)) (omega arith) (omega arith)
      (e ∙ (λ j. patched b (t j) (reworded word_by_distance (bytes_of b) (a j) (t j) (8 * (n - 8))))) f
      ∙ ap (λ (j : ℕ). patched b (at + by) (reworded word_by_distance (bytes_of b) at (at + by) j)) all

pub returns : goal.returns
returns g c =
    let b = c.args.bytes.now in let one = c.move_runs_up-far.new.bytes in let at = c.args.at in let by = c.args.by
    in let n = c.args.n in
    let many : 8 ≤ n = omega (arith, c.if-n-le-NEAR.false) in
    record {
      changes = both b one at by n c.requires.in_bounds many c.move_runs_up-far.ensures.changes
          c.move_runs_up-2.new.bytes
          c.move_runs_up-2.ensures.changes;
      keys_seen = λ q even.
          let near = c.move_runs_up-2.ensures.keys_seen q even in
          set b one at by n c.requires.in_bounds many c.move_runs_up-far.ensures.changes near.1
          (c.move_runs_up-far.ensures.keys_seen q near.0).1;
    }

pub returns-then-n-le-NEAR-clause-keys_seen : goal.returns-then-n-le-NEAR-clause-keys_seen
returns-then-n-le-NEAR-clause-keys_seen g c = λ q even. (c.move_runs_up.ensures.keys_seen q even).1
