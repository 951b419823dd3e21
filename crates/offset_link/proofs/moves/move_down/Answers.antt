use Rattle.std.proofs.Common.{◌≡◌, ℕ, ◌+◌, ◌-◌, ◌*◌, ◌/◌, ◌%◌, ◌≤◌, List, length, ap, ◌∙◌, arith}
use Rattle.raw_region.specs.Memory.{bytes_of, patched}
use Rattle.offset_link.specs.Relinked.{word_by_target, relinked, HasNoNullLink}
use Rattle.offset_link.proofs.moves.ShiftedWords.{non_null-part, non_null-same, run_after, words-after}
use Rattle.offset_link.proofs.moves.move_down.Goals as goal

-- the first link, the runs after it, and the rest after them
module _ (b one : List ℕ) (at by n first q rest : ℕ) (within : at + 8 * n ≤ length b) (inside : by ≤ at)
    (parts : first + (8 * q + rest) ≡ n)
    (e : one ≡ patched b (at - by) (relinked (bytes_of b) at (at - by) first)) where
  set : HasNoNullLink (bytes_of b) at n → HasNoNullLink (bytes_of one) (at + 8 * first) (8 * q)
  set all =
      non_null-same (bytes_of b) (bytes_of one) (at + 8 * first) (8 * q)
      (words-after word_by_target b one (at - by) first at (omega arith) e (at + 8 * first) (8 * q) (omega arith)
      (omega arith))
      (non_null-part (bytes_of b) at n (at + 8 * first) first (8 * q) (omega arith) (omega arith) all)

  three : (two new : List ℕ)
      → two ≡ patched one (at + 8 * first - by) (relinked (bytes_of one) (at + 8 * first) (at + 8 * first - by) (8 * q))
      → new ≡ patched two (at + 8 * first + 64 * q - by)
      (relinked (bytes_of two) (at + 8 * first + 64 * q) (at + 8 * first + 64 * q - by) rest)
      → new ≡ patched b (at - by) (relinked (bytes_of b) at (at - by) n)
  three two new f g =
      let to = at - by in
      let t : at + 8 * first - by ≡ to + 8 * first = omega arith in
      let a : at + 8 * first + 64 * q ≡ at + 8 * (first + 8 * q) = omega arith in
      let u : at + 8 * first + 64 * q - by ≡ to + 8 * (first + 8 * q) = omega arith in
      let all : first + 8 * q + rest ≡ n = omega arith in
      let front = run_after word_by_target b one two at to first (8 * q) (omega arith) (omega arith) e
      (f ∙ (λ j. patched one (t j) (relinked (bytes_of one) (at + 8 * first) (t j) (8 * q)))) in
      run_after word_by_target b two new at to (first + 8 * q) rest (omega arith) (omega arith) front
      (g ∙ (λ j. patched two (u j) (relinked (bytes_of two) (a j) (u j) rest)))
      ∙ ap (λ (j : ℕ). patched b to (relinked (bytes_of b) at to j)) all

pub runs_down-requires-clause-non_null : goal.runs_down-requires-clause-non_null
runs_down-requires-clause-non_null g c = λ known.
    let others = c.args.n - c.min-first.result in
    set c.args.bytes.now c.links_down.new.bytes c.args.at c.args.by c.args.n c.min-first.result (others / 8)
    (others % 8)
    c.requires.source c.requires.in_bounds (omega arith) c.links_down.ensures (c.requires.non_null known)

pub returns : goal.returns
returns g c =
    let others = c.args.n - c.min-first.result in
    three c.args.bytes.now c.links_down.new.bytes c.args.at c.args.by c.args.n c.min-first.result (others / 8)
    (others % 8) c.requires.source c.requires.in_bounds (omega arith) c.links_down.ensures c.runs_down.new.bytes
    c.links_down-2.new.bytes c.runs_down.ensures c.links_down-2.ensures
