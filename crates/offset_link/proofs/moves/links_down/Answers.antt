use Rattle.std.proofs.Common.{◌≡◌, ℕ, ◌+◌, ◌-◌, ◌*◌, ◌<◌, ◌≤◌, List, length, ap, sym, ◌∙◌, arith, add-one}
use Rattle.raw_region.specs.Memory.{bytes_of, patched}
use Rattle.offset_link.specs.Link.{link, link_at}
use Rattle.offset_link.specs.Relinked.{word_by_target, relinked}
use Rattle.offset_link.proofs.moves.ShiftedWords.{one_after}
use Rattle.offset_link.proofs.moves.links_down.Goals as goal

step : (b cur new : List ℕ) (at by n i : ℕ) → at + 8 * n ≤ length b → by ≤ at → i < n
    → cur ≡ patched b (at - by) (relinked (bytes_of b) at (at - by) i)
    → new ≡ patched cur (at + 8 * i - by) (link (at + 8 * i - by) (link_at (bytes_of cur) (at + 8 * i)))
    → new ≡ patched b (at - by) (relinked (bytes_of b) at (at - by) (i + 1))
step b cur new at by n i within inside few e f =
    let to = at - by in let same : at + 8 * i - by ≡ to + 8 * i = omega arith in
    one_after word_by_target b cur new at to i (omega arith) (omega arith) e (f
    ∙ ap (λ (k : ℕ). patched cur k (link k (link_at (bytes_of cur) (at + 8 * i)))) same)
    ∙ ap (λ (j : ℕ). patched b to (relinked (bytes_of b) at to j)) (sym (add-one i))

pub links-preserved : goal.links-preserved
links-preserved c =
    step c.args.bytes.now c.links.bytes c.move_one.new.bytes c.args.at c.args.by c.args.n c.links.i
    c.requires.source c.requires.in_bounds (omega arith) c.links.invariant c.move_one.ensures
