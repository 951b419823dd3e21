use Rattle.std.proofs.Common.{◌≡◌, ℕ, suc, ◌+◌, ◌-◌, ◌*◌, ◌<◌, ◌≤◌, Bool, false, List, length, refl, sym, ap, subst}
use Rattle.std.proofs.Common.{◌∙◌, arith}
use Rattle.raw_region.specs.Memory.{bytes_of, patched}
use Rattle.offset_link.specs.Relinked.{word_by_distance, reworded, BothEven, HasNoNullLink}
use Rattle.offset_link.proofs.moves.ShiftedWords.{no_links, non_null-join, non_null-same, run_before, words-before}
use Rattle.offset_link.proofs.moves.move_runs_up.Goals as goal

-- the runs from number k on have moved
abbrev Moved : List ℕ → List ℕ → ℕ → ℕ → ℕ → ℕ → Type 0
Moved b cur at by n k =
    cur ≡ patched b (at + by + 64 * k)
    (reworded word_by_distance (bytes_of b) (at + 64 * k) (at + by + 64 * k) (8 * (n - k)))

-- the bits that were seen
abbrev Set : List ℕ → ℕ → ℕ → ℕ → Type 0
Set b at n k = HasNoNullLink (bytes_of b) (at + 64 * k) (8 * (n - k))

-- all of them
all : (b cur : List ℕ) (at by n : ℕ) → Moved b cur at by n 0
    → cur ≡ patched b (at + by) (reworded word_by_distance (bytes_of b) at (at + by) (8 * n))
all b cur at by n moved =
    let e : at + by + 64 * 0 ≡ at + by = omega arith in let f : at + 64 * 0 ≡ at = omega arith in
    let g : 8 * (n - 0) ≡ 8 * n = omega arith in
    moved ∙ (λ i. patched b (e i) (reworded word_by_distance (bytes_of b) (f i) (e i) (g i)))

all_set : (b : List ℕ) (at n : ℕ) → Set b at n 0 → HasNoNullLink (bytes_of b) at (8 * n)
all_set b at n set =
    let f : at + 64 * 0 ≡ at = omega arith in let g : 8 * (n - 0) ≡ 8 * n = omega arith in
    subst (HasNoNullLink (bytes_of b) at) g (subst (λ (a : ℕ). HasNoNullLink (bytes_of b) a (8 * (n - 0))) f set)

module _ (b cur : List ℕ) (at by n k from : ℕ) (within : at + by + 64 * n ≤ length b) (few : suc k ≤ n)
    (there : from ≡ at + 64 * k) (moved : Moved b cur at by n (suc k)) where
  -- and then the one before them
  step : (new : List ℕ) → new ≡ patched cur (from + by) (reworded word_by_distance (bytes_of cur) from (from + by) 8)
      → Moved b new at by n k
  step new f =
      let to = at + by + 64 * k in
      let e₁ : at + by + 64 * suc k ≡ to + 8 * 8 = omega arith in
      let e₂ : at + 64 * suc k ≡ at + 64 * k + 8 * 8 = omega arith in
      let t : from + by ≡ to = omega arith in let g : 8 + 8 * (n - suc k) ≡ 8 * (n - k) = omega arith in
      run_before word_by_distance b cur new (at + 64 * k) to 8 (8 * (n - suc k)) (omega arith) (omega arith)
      (moved ∙ (λ i. patched b (e₁ i) (reworded word_by_distance (bytes_of b) (e₂ i) (e₁ i) (8 * (n - suc k)))))
      (f ∙ (λ i. patched cur (t i) (reworded word_by_distance (bytes_of cur) (there i) (t i) 8)))
      ∙ ap (λ (j : ℕ). patched b to (reworded word_by_distance (bytes_of b) (at + 64 * k) to j)) g

  -- whose words were still as they had been
  set : HasNoNullLink (bytes_of cur) from 8 → Set b at n (suc k) → Set b at n k
  set now rest =
      let m = bytes_of b in let j = 8 * (n - suc k) in
      let was : HasNoNullLink m from 8 = non_null-same (bytes_of cur) m from 8
      (λ a low high. sym (words-before word_by_distance b cur (at + by + 64 * suc k) j (at + 64 * suc k)
      (omega arith) moved from 8 (omega arith) a low high)) now in
      let e : at + 64 * suc k ≡ from + 8 * 8 = omega arith in let g : 8 + j ≡ 8 * (n - k) = omega arith in
      let both = non_null-join m from 8 j was (subst (λ (a : ℕ). HasNoNullLink m a j) e rest) in
      subst (HasNoNullLink m (at + 64 * k)) g (subst (λ (a : ℕ). HasNoNullLink m a (8 + j)) there both)

module _ (b cur : List ℕ) (at by n left : ℕ) (within : at + by + 64 * n ≤ length b) (two : 1 < left) (few : left ≤ n)
    (moved : Moved b cur at by n left) where
  abbrev from : ℕ
  from = at + 64 * (left - 2)

  abbrev last_of : left ≡ suc (left - 1)
  last_of = omega arith

  abbrev first_of : left - 1 ≡ suc (left - 2)
  first_of = omega arith

  later : Moved b cur at by n (suc (left - 1))
  later = subst (Moved b cur at by n) last_of moved

  set_last : HasNoNullLink (bytes_of cur) (from + 64) 8 → Set b at n left → Set b at n (left - 1)
  set_last now rest =
      set b cur at by n (left - 1) (from + 64) within (omega arith) (omega arith) later now
      (subst (Set b at n) last_of rest)

  module _ (mid : List ℕ)
      (f : mid ≡ patched cur (from + 64 + by)
      (reworded word_by_distance (bytes_of cur) (from + 64) (from + 64 + by) 8)) where
    earlier : Moved b mid at by n (suc (left - 2))
    earlier =
        subst (Moved b mid at by n) first_of
        (step b cur at by n (left - 1) (from + 64) within (omega arith) (omega arith) later mid f)

    set_first : HasNoNullLink (bytes_of mid) from 8 → Set b at n (left - 1) → Set b at n (left - 2)
    set_first now rest = set b mid at by n (left - 2) from within (omega arith) refl earlier now
        (subst (Set b at n) first_of rest)

    both : (new : List ℕ) → new ≡ patched mid (from + by) (reworded word_by_distance (bytes_of mid) from (from + by) 8)
        → Moved b new at by n (left - 2)
    both new g = step b mid at by n (left - 2) from within (omega arith) refl earlier new g

module _ (b cur : List ℕ) (at by n left : ℕ) (within : at + by + 64 * n ≤ length b) (one : left ≡ 1) (few : left ≤ n)
    (moved : Moved b cur at by n left) where
  last : Moved b cur at by n (suc 0)
  last = subst (Moved b cur at by n) one moved

  set_all : HasNoNullLink (bytes_of cur) at 8 → Set b at n left → HasNoNullLink (bytes_of b) at (8 * n)
  set_all now rest =
      all_set b at n (set b cur at by n 0 at within (omega arith) (omega arith) last now (subst (Set b at n) one rest))

  ends : (new : List ℕ) → new ≡ patched cur (at + by) (reworded word_by_distance (bytes_of cur) at (at + by) 8)
      → new ≡ patched b (at + by) (reworded word_by_distance (bytes_of b) at (at + by) (8 * n))
  ends new f = all b new at by n (step b cur at by n 0 at within (omega arith) (omega arith) last new f)

pub runs-init : goal.runs-init
runs-init g c = record {
  some = omega arith;
  moved = no_links c.args.bytes.now (c.args.at + c.args.by) c.args.at c.args.n;
  seen = λ q even. (even, record { each = λ k h null. omega (arith, h) });
}

pub runs-preserved : goal.runs-preserved
runs-preserved g c =
    let b = c.args.bytes.now in let at = c.args.at in let by = c.args.by in let n = c.args.n in let left =
    c.runs.left in
    let cur = c.runs.bytes in let within = c.requires.in_bounds in let moved = c.runs.invariant.moved in
    let two : 1 < left = omega arith in let few = c.runs.invariant.some in let mid = c.see_run-seen.new.bytes in
    record {
      some = omega arith;
      moved = both b cur at by n left within two few moved mid c.see_run-seen.ensures.changes
          c.see_run-seen-in-runs.new.bytes
          c.see_run-seen-in-runs.ensures.changes;
      seen = λ q even.
          let second = c.see_run-seen-in-runs.ensures.keys_seen q even in
          let first = c.see_run-seen.ensures.keys_seen q second.0 in
          let old = c.runs.invariant.seen q (c.look_ahead-seen.ensures first.0) in (
            old.0,
            set_first b cur at by n left within two few moved mid c.see_run-seen.ensures.changes second.1
                (set_last b cur at by n left within two few moved first.1 old.1),
          );
    }

pub returns-then-left-eq1 : goal.returns-then-left-eq1
returns-then-left-eq1 g c =
    let b = c.args.bytes.now in let at = c.args.at in let by = c.args.by in let n = c.args.n in let left =
    c.runs.left in
    let one : left ≡ 1 = c.if-left-eq1.true in
    record {
      changes = ends b c.runs.bytes at by n left c.requires.in_bounds one c.runs.invariant.some c.runs.invariant.moved
          c.see_run-seen-then-left-eq1.new.bytes c.see_run-seen-then-left-eq1.ensures.changes;
      keys_seen = λ q even.
          let run = c.see_run-seen-then-left-eq1.ensures.keys_seen q even in let old = c.runs.invariant.seen q run.0
          in (
            old.0,
            set_all b c.runs.bytes at by n left c.requires.in_bounds one c.runs.invariant.some
                c.runs.invariant.moved run.1 old.1,
          );
    }

pub returns-else-left-eq1 : goal.returns-else-left-eq1
returns-else-left-eq1 g c =
    let b = c.args.bytes.now in let at = c.args.at in let by = c.args.by in let n = c.args.n in
    let none : c.runs.left ≡ 0 = omega (arith, c.if-left-eq1.false) in
    record {
      changes = all b c.runs.bytes at by n (subst (Moved b c.runs.bytes at by n) none c.runs.invariant.moved);
      keys_seen = λ q even. let old = c.runs.invariant.seen q even
          in (old.0, all_set b at n (subst (Set b at n) none old.1));
    }
