use Rattle.std.proofs.Common.{◌≡◌, ℕ, ◌+◌, ◌-◌, ◌*◌, ◌≤◌, List, length, ap, subst, sym, ◌∙◌, arith}
use Rattle.raw_region.specs.Memory.{bytes_of, patched}
use Rattle.offset_link.specs.Relinked.{word_by_distance, reworded, HasNoNullLink}
use Rattle.offset_link.proofs.moves.ShiftedWords.{non_null-join, non_null-same, run_after, words-after}
use Rattle.offset_link.proofs.moves.all_turns_down.Goals as goal

-- all runs but the last eight, and then these
module _ (b one : List ℕ) (at by n : ℕ) (within : at + 64 * n ≤ length b) (inside : by ≤ at) (many : 8 ≤ n)
    (e : one ≡ patched b (at - by) (reworded word_by_distance (bytes_of b) at (at - by) (8 * (n - 8)))) where
  set : HasNoNullLink (bytes_of one) (at + 64 * (n - 8)) 64 → HasNoNullLink (bytes_of b) at (8 * (n - 8))
      → HasNoNullLink (bytes_of b) at (8 * n)
  set now front =
      let m = bytes_of b in let j = 8 * (n - 8) in
      let was : HasNoNullLink m (at + 64 * (n - 8)) 64 = non_null-same (bytes_of one) m (at + 64 * (n - 8)) 64
      (λ a low high. sym (words-after word_by_distance b one (at - by) j at (omega arith) e (at + 64 * (n - 8)) 64
      (omega arith) (omega arith) a low high)) now in
      let a : at + 64 * (n - 8) ≡ at + 8 * j = omega arith in let all : j + 64 ≡ 8 * n = omega arith in
      subst (HasNoNullLink m at) all (non_null-join m at j 64 front (subst (λ (i : ℕ). HasNoNullLink m i 64) a was))

  both : (new : List ℕ)
      → new ≡ patched one (at + 64 * (n - 8) - by)
      (reworded word_by_distance (bytes_of one) (at + 64 * (n - 8)) (at + 64 * (n - 8) - by) 64)
      → new ≡ patched b (at - by) (reworded word_by_distance (bytes_of b) at (at - by) (8 * n))
  both new f =
      let j = 8 * (n - 8) in let a : at + 64 * (n - 8) ≡ at + 8 * j = omega arith in
      let t : at + 64 * (n - 8) - by ≡ at - by + 8 * j = omega arith in
      let all : j + 64 ≡ 8 * n = omega arith in
      run_after word_by_distance b one new at (at - by) j 64 (omega arith) (omega arith) e
      (f ∙ (λ i. patched one (t i) (reworded word_by_distance (bytes_of one) (a i) (t i) 64)))
      ∙ ap (λ (i : ℕ). patched b (at - by) (reworded word_by_distance (bytes_of b) at (at - by) i)) all

pub returns : goal.returns
returns g c =
    let b = c.args.bytes.now in let one = c.move_runs_down-far.new.bytes in let at = c.args.at in let by = c.args.by
    in let n = c.args.n in
    let many : 8 ≤ n = omega (arith, c.if-n-le-NEAR.false) in
    record {
      changes = both b one at by n c.requires.source c.requires.in_bounds many c.move_runs_down-far.ensures.changes
          c.move_runs_down-2.new.bytes c.move_runs_down-2.ensures.changes;
      keys_seen = λ q even.
          let near = c.move_runs_down-2.ensures.keys_seen q even in
          set b one at by n c.requires.source c.requires.in_bounds many c.move_runs_down-far.ensures.changes near.1
          (c.move_runs_down-far.ensures.keys_seen q near.0).1;
    }

pub returns-then-n-le-NEAR-clause-keys_seen : goal.returns-then-n-le-NEAR-clause-keys_seen
returns-then-n-le-NEAR-clause-keys_seen g c = λ q even. (c.move_runs_down.ensures.keys_seen q even).1
