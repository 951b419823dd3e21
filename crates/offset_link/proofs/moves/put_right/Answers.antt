use Rattle.std.proofs.Common.{◌≡◌, ℕ, suc, ◌+◌, ◌*◌, ◌≤◌, List, length, ap, sym, ◌∙◌, arith, add-one, ◌==◌}
use Rattle.std.specs.Prelude.{if◌then◌else◌}
use Rattle.raw_region.specs.Memory.{bytes_of, patched, word_at, word_bytes}
use Rattle.offset_link.specs.Relinked.{word_by_distance, reworded, unless_null}
use Rattle.offset_link.proofs.moves.ShiftedWords.{one_after}
use Rattle.offset_link.proofs.moves.put_right.Goals as goal

step : (b cur new : List ℕ) (from to null i w : ℕ) → to + 8 * (i + 1) ≤ length b → null ≡ word_by_distance from to 1
    → cur ≡ patched b to (reworded (unless_null from to) (bytes_of b) to to i) → w ≡ word_at (bytes_of cur) (to + 8 * i)
    → new ≡ patched cur (to + 8 * i) (word_bytes (if w == null then 1 else w))
    → new ≡ patched b to (reworded (unless_null from to) (bytes_of b) to to (i + 1))
step b cur new from to null i w within e f g h =
    one_after (unless_null from to) b cur new to to i (omega (arith, within)) (omega arith) f
    (h ∙ ap (λ (n : ℕ). patched cur (to + 8 * i) (word_bytes (if w == n then 1 else w))) e
    ∙ ap (λ (x : ℕ). patched cur (to + 8 * i) (word_bytes (if x == word_by_distance from to 1 then 1 else x))) g)
    ∙ ap (λ (j : ℕ). patched b to (reworded (unless_null from to) (bytes_of b) to to j)) (sym (add-one i))

pub links-preserved : goal.links-preserved
links-preserved c = record {
  null = c.links.invariant.null;
  done = step c.args.bytes.now c.links.bytes c.set_word_in.new.bytes c.args.from c.args.to
      c.less_distance-null.result c.links.i c.word_in.result
      (omega (arith, c.requires)) c.links.invariant.null c.links.invariant.done c.word_in.ensures
      (c.set_word_in.ensures ∙ ap (λ (w : ℕ). patched c.links.bytes (c.args.to + 8 * c.links.i) (word_bytes w))
      c.null_again-word.ensures);
}
