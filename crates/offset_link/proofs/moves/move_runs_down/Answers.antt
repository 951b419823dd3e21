use Rattle.std.proofs.Common.{◌≡◌, ℕ, ◌+◌, ◌-◌, ◌*◌, ◌/◌, ◌%◌, ◌<◌, ◌≤◌, false, List, length, refl, sym, ap, subst, ◌∙◌}
use Rattle.std.proofs.Common.{arith}
use Rattle.raw_region.specs.Memory.{bytes_of, patched}
use Rattle.offset_link.specs.Relinked.{word_by_distance, reworded, BothEven, HasNoNullLink}
use Rattle.offset_link.proofs.moves.ShiftedWords.{non_null-join, non_null-same, run_after, words-after}
use Rattle.offset_link.proofs.moves.move_runs_down.Goals as goal

-- the runs below number k have moved
abbrev Moved : List ℕ → List ℕ → ℕ → ℕ → ℕ → Type 0
Moved b cur at by k = cur ≡ patched b (at - by) (reworded word_by_distance (bytes_of b) at (at - by) (8 * k))

-- the bits that were seen
abbrev Set : List ℕ → ℕ → ℕ → Type 0
Set b at k = HasNoNullLink (bytes_of b) at (8 * k)

module _ (b cur : List ℕ) (at by n k from : ℕ) (within : at + 64 * n ≤ length b) (inside : by ≤ at) (few : k < n)
    (there : from ≡ at + 64 * k) (moved : Moved b cur at by k) where
  -- and then the one after them
  step : (new : List ℕ) → new ≡ patched cur (from - by) (reworded word_by_distance (bytes_of cur) from (from - by) 8)
      → Moved b new at by (k + 1)
  step new f =
      let to = at - by in let j = 8 * k in
      let a : from ≡ at + 8 * j = omega arith in let t : from - by ≡ to + 8 * j = omega arith in
      let g : j + 8 ≡ 8 * (k + 1) = omega arith in
      run_after word_by_distance b cur new at to j 8 (omega arith) (omega arith) moved
      (f ∙ (λ i. patched cur (t i) (reworded word_by_distance (bytes_of cur) (a i) (t i) 8)))
      ∙ ap (λ (i : ℕ). patched b to (reworded word_by_distance (bytes_of b) at to i)) g

  -- whose words were still as they had been
  set : HasNoNullLink (bytes_of cur) from 8 → Set b at k → Set b at (k + 1)
  set now front =
      let m = bytes_of b in let j = 8 * k in
      let was : HasNoNullLink m from 8 = non_null-same (bytes_of cur) m from 8
      (λ a low high. sym (words-after word_by_distance b cur (at - by) j at (omega arith) moved from 8 (omega arith)
      (omega arith) a low high)) now in
      let e : from ≡ at + 8 * j = omega arith in let g : j + 8 ≡ 8 * (k + 1) = omega arith in
      subst (HasNoNullLink m at) g (non_null-join m at j 8 front (subst (λ (a : ℕ). HasNoNullLink m a 8) e was))

module _ (b cur : List ℕ) (at by n i : ℕ) (within : at + 64 * n ≤ length b) (inside : by ≤ at) (few : i < n / 2)
    (moved : Moved b cur at by (2 * i)) where
  abbrev from : ℕ
  from = at + 128 * i

  set_first : HasNoNullLink (bytes_of cur) from 8 → Set b at (2 * i) → Set b at (2 * i + 1)
  set_first now front = set b cur at by n (2 * i) from within inside (omega arith) (omega arith) moved now front

  module _ (mid : List ℕ) (f : mid
      ≡ patched cur (from - by) (reworded word_by_distance (bytes_of cur) from (from - by) 8)) where
    abbrev both_of : 2 * i + 1 + 1 ≡ 2 * (i + 1)
    both_of = omega arith

    later : Moved b mid at by (2 * i + 1)
    later = step b cur at by n (2 * i) from within inside (omega arith) (omega arith) moved mid f

    set_second : HasNoNullLink (bytes_of mid) (from + 64) 8 → Set b at (2 * i + 1) → Set b at (2 * (i + 1))
    set_second now front =
        subst (Set b at) both_of
        (set b mid at by n (2 * i + 1) (from + 64) within inside (omega arith) (omega arith) later now front)

    both : (new : List ℕ) → new ≡ patched mid (from + 64 - by)
        (reworded word_by_distance (bytes_of mid) (from + 64) (from + 64 - by) 8)
        → Moved b new at by (2 * (i + 1))
    both new g =
        subst (Moved b new at by) both_of
        (step b mid at by n (2 * i + 1) (from + 64) within inside (omega arith) (omega arith) later new g)

module _ (b cur : List ℕ) (at by n i : ℕ) (within : at + 64 * n ≤ length b) (inside : by ≤ at) (odd : n % 2 ≡ 1)
    (is : i ≡ n / 2) (moved : Moved b cur at by (2 * i)) where
  abbrev all_but : 2 * i ≡ n - 1
  all_but = omega arith

  abbrev all_of : n - 1 + 1 ≡ n
  all_of = omega arith

  nearly : Moved b cur at by (n - 1)
  nearly = subst (Moved b cur at by) all_but moved

  set_last : HasNoNullLink (bytes_of cur) (at + 64 * (n - 1)) 8 → Set b at (2 * i) → Set b at n
  set_last now front =
      subst (Set b at) all_of
      (set b cur at by n (n - 1) (at + 64 * (n - 1)) within inside (omega arith) refl nearly now
      (subst (Set b at) all_but front))

  ends : (new : List ℕ)
      → new ≡ patched cur (at + 64 * (n - 1) - by)
      (reworded word_by_distance (bytes_of cur) (at + 64 * (n - 1)) (at + 64 * (n - 1) - by) 8)
      → Moved b new at by n
  ends new f =
      subst (Moved b new at by) all_of
      (step b cur at by n (n - 1) (at + 64 * (n - 1)) within inside (omega arith) refl nearly new f)

pub runs-preserved : goal.runs-preserved
runs-preserved g c =
    let b = c.args.bytes.now in let at = c.args.at in let by = c.args.by in let n = c.args.n in let i = c.runs.i in
    let cur = c.runs.bytes in let within : at + 64 * n ≤ length b = omega (arith, c.requires.source) in
    let moved = c.runs.invariant.moved in let few : i < n / 2 = omega arith in let mid = c.see_run-seen.new.bytes in
    record {
      moved = both b cur at by n i within c.requires.in_bounds few moved mid c.see_run-seen.ensures.changes
          c.see_run-seen-in-runs.new.bytes
          c.see_run-seen-in-runs.ensures.changes;
      seen = λ q even.
          let second = c.see_run-seen-in-runs.ensures.keys_seen q even in
          let first = c.see_run-seen.ensures.keys_seen q second.0 in
          let old = c.runs.invariant.seen q (c.look_ahead-seen.ensures first.0) in (
            old.0,
            set_second b cur at by n i within c.requires.in_bounds few moved mid c.see_run-seen.ensures.changes second.1
                (set_first b cur at by n i within c.requires.in_bounds few moved first.1 old.1),
          );
    }

pub returns-then-n-eq1 : goal.returns-then-n-eq1
returns-then-n-eq1 g c =
    let b = c.args.bytes.now in let at = c.args.at in let by = c.args.by in let n = c.args.n in let i = c.runs.i in
    let within : at + 64 * n ≤ length b = omega (arith, c.requires.source) in
    record {
      changes = ends b c.runs.bytes at by n i within c.requires.in_bounds c.if-n-eq1.true (omega arith)
          c.runs.invariant.moved
          c.see_run-seen-then-n-eq1.new.bytes c.see_run-seen-then-n-eq1.ensures.changes;
      keys_seen = λ q even.
          let run = c.see_run-seen-then-n-eq1.ensures.keys_seen q even in let old = c.runs.invariant.seen q run.0 in (
            old.0,
            set_last b c.runs.bytes at by n i within c.requires.in_bounds c.if-n-eq1.true (omega arith)
                c.runs.invariant.moved run.1 old.1,
          );
    }

pub returns-else-n-eq1 : goal.returns-else-n-eq1
returns-else-n-eq1 g c =
    let b = c.args.bytes.now in let at = c.args.at in let by = c.args.by in let n = c.args.n in
    let all : 2 * c.runs.i ≡ n = omega (arith, c.if-n-eq1.false) in
    record {
      changes = subst (Moved b c.runs.bytes at by) all c.runs.invariant.moved;
      keys_seen = λ q even. let old = c.runs.invariant.seen q even in (old.0, subst (Set b at) all old.1);
    }
