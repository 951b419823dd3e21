use Rattle.std.proofs.Common.{◌≡◌, ℕ, ◌+◌, ◌-◌, ◌*◌, ◌/◌, ◌%◌, ◌≤◌, List, length, ap, ◌∙◌, arith}
use Rattle.raw_region.specs.Memory.{bytes_of, patched}
use Rattle.offset_link.specs.Relinked.{word_by_target, relinked, HasNoNullLink}
use Rattle.offset_link.proofs.moves.ShiftedWords.{non_null-part, non_null-same, run_before, words-before}
use Rattle.offset_link.proofs.moves.move_up.Goals as goal

-- the last link, the runs before it, and the rest before them
module _ (b one : List ℕ) (at by n last others rest q : ℕ) (within : at + by + 8 * n ≤ length b)
    (split : others + last ≡ n) (parts : rest + 8 * q ≡ others)
    (e : one ≡ patched b (at + 8 * others + by)
    (relinked (bytes_of b) (at + 8 * others) (at + 8 * others + by) last)) where
  set : HasNoNullLink (bytes_of b) at n → HasNoNullLink (bytes_of one) (at + 8 * rest) (8 * q)
  set all =
      non_null-same (bytes_of b) (bytes_of one) (at + 8 * rest) (8 * q)
      (words-before word_by_target b one (at + 8 * others + by) last (at + 8 * others) (omega arith) e
      (at + 8 * rest) (8 * q) (omega arith))
      (non_null-part (bytes_of b) at n (at + 8 * rest) rest (8 * q) (omega arith) (omega arith) all)

  three : (two new : List ℕ)
      → two ≡ patched one (at + 8 * rest + by) (relinked (bytes_of one) (at + 8 * rest) (at + 8 * rest + by) (8 * q))
      → new ≡ patched two (at + by) (relinked (bytes_of two) at (at + by) rest)
      → new ≡ patched b (at + by) (relinked (bytes_of b) at (at + by) n)
  three two new f g =
      let from = at + 8 * rest in let to = at + 8 * rest + by in
      let a : at + 8 * others ≡ from + 8 * (8 * q) = omega arith in
      let t : at + 8 * others + by ≡ to + 8 * (8 * q) = omega arith in
      let u : to ≡ at + by + 8 * rest = omega arith in
      let all : rest + (8 * q + last) ≡ n = omega arith in
      let back = run_before word_by_target b one two from to (8 * q) last (omega arith) (omega arith)
      (e ∙ (λ j. patched b (t j) (relinked (bytes_of b) (a j) (t j) last))) f in
      run_before word_by_target b two new at (at + by) rest (8 * q + last) (omega arith) (omega arith)
      (back ∙ (λ j. patched b (u j) (relinked (bytes_of b) from (u j) (8 * q + last)))) g
      ∙ ap (λ (j : ℕ). patched b (at + by) (relinked (bytes_of b) at (at + by) j)) all

pub runs_up-requires-clause-non_null : goal.runs_up-requires-clause-non_null
runs_up-requires-clause-non_null g c = λ known.
    let others = c.args.n - c.min-last.result in
    set c.args.bytes.now c.links_up.new.bytes c.args.at c.args.by c.args.n c.min-last.result others (others % 8)
    (others / 8)
    c.requires.in_bounds (omega arith) (omega arith) c.links_up.ensures (c.requires.non_null known)

pub returns : goal.returns
returns g c =
    let others = c.args.n - c.min-last.result in
    three c.args.bytes.now c.links_up.new.bytes c.args.at c.args.by c.args.n c.min-last.result others (others % 8)
    (others / 8) c.requires.in_bounds (omega arith) (omega arith) c.links_up.ensures c.runs_up.new.bytes
    c.links_up-2.new.bytes c.runs_up.ensures c.links_up-2.ensures
