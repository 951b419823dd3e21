-- The tag of a gap is before its payload, and has the length of its tile.
use Rattle.best_fit.proofs.Common.{◌≡◌, false, Bool, IsTrue, ◌+◌, ◌-◌, ◌*◌, ◌/◌, ap, subst, sym, ◌∙◌, arith, false≢true}
use Rattle.best_fit.proofs.Common.{bytes_of, word_at, Tile, tile_at, tile_is_read_off, is_gap_node-GapNode, tiles_in}
use Rattle.best_fit.proofs.gaps.Nodes.{node_at, node_len}
use Rattle.best_fit.proofs.heap.summing.len_before.Goals as goal
use goal.{then-node-lt-TAG_LEN-via-then-node-lt-TAG_LEN}
use goal.{then-node-lt-TAG_LEN-via-else-node-lt-TAG_LEN+then-not-in_range}

pub returns-then-node-lt-TAG_LEN : goal.returns-then-node-lt-TAG_LEN
returns-then-node-lt-TAG_LEN c = λ node.
    let w = c.args.window.now in let d = node_at w c.args.node (is_gap_node-GapNode w c.args.node node) in
    elim c.then-node-lt-TAG_LEN.branch [
      | then-node-lt-TAG_LEN-via-then-node-lt-TAG_LEN v ↦ let small = v.if-node-lt-TAG_LEN.true in absurd (omega arith)
      | then-node-lt-TAG_LEN-via-else-node-lt-TAG_LEN+then-not-in_range v ↦ let long = d.long in
          let no : IsTrue false = subst (λ (b : Bool). IsTrue b) v.if-not-in_range.true
          (v.in_range.ensures.1 (omega arith)) in absurd (false≢true no)
    ]

pub returns : goal.returns
returns c = λ node.
    let w = c.args.window.now in let d = node_at w c.args.node (is_gap_node-GapNode w c.args.node node) in
    let read : tile_at (bytes_of w.bytes) d.free_tile.tile.offset ≡ d.free_tile.tile = tile_is_read_off w (tiles_in w)
    d.free_tile.tile.offset d.free_tile.tile d.said d.stands in
    let word : d.free_tile.tile.offset + 8 ≡ c.args.node - 16 + 8 = omega arith in
    ap (λ k. k / 16 * 16) (c.read_u64.ensures ∙ ap (word_at (bytes_of w.bytes)) (sym word))
    ∙ ap (λ (t : Tile). t.len) read ∙ sym (node_len w c.args.node d)
