use Rattle.std.proofs.Common.{◌≡◌, ℕ, suc, ◌+◌, ◌-◌, ◌*◌, ◌<◌, ◌≤◌, List, length, ap, ◌∙◌, arith}
use Rattle.raw_region.specs.Memory.{bytes_of, patched}
use Rattle.offset_link.specs.Link.{link, link_at}
use Rattle.offset_link.specs.Relinked.{word_by_target, relinked}
use Rattle.offset_link.proofs.moves.ShiftedWords.{one_before}
use Rattle.offset_link.proofs.moves.links_up.Goals as goal

step : (b cur new : List ℕ) (at by n left : ℕ) → at + by + 8 * n ≤ length b → 0 < left → left ≤ n
    → cur ≡ patched b (at + by + 8 * left) (relinked (bytes_of b) (at + 8 * left) (at + by + 8 * left) (n - left))
    → new ≡ patched cur (at + 8 * (left - 1) + by)
    (link (at + 8 * (left - 1) + by) (link_at (bytes_of cur) (at + 8 * (left - 1))))
    → new ≡ patched b (at + by + 8 * (left - 1))
    (relinked (bytes_of b) (at + 8 * (left - 1)) (at + by + 8 * (left - 1)) (n - (left - 1)))
step b cur new at by n left within some few e f =
    let k = left - 1 in let from = at + 8 * k in let to = at + by + 8 * k in
    let e₁ : at + by + 8 * left ≡ to + 8 = omega arith in let e₂ : at + 8 * left ≡ from + 8 = omega arith in
    let f₁ : from + by ≡ to = omega arith in let g : suc (n - left) ≡ n - k = omega arith in
    one_before word_by_target b cur new from to (n - left) (omega arith) (omega arith)
    (e ∙ (λ i. patched b (e₁ i) (relinked (bytes_of b) (e₂ i) (e₁ i) (n - left))))
    (f ∙ (λ i. patched cur (f₁ i) (link (f₁ i) (link_at (bytes_of cur) from))))
    ∙ ap (λ (j : ℕ). patched b to (relinked (bytes_of b) from to j)) g

pub links-preserved : goal.links-preserved
links-preserved c = record {
  some = omega arith;
  moved = step c.args.bytes.now c.links.bytes c.move_one.new.bytes c.args.at c.args.by c.args.n c.links.left
      c.requires (omega arith) c.links.invariant.some c.links.invariant.moved c.move_one.ensures;
}
