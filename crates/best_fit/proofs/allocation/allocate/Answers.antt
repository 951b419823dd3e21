-- The best gap leaves the tree and is allocated; without such a gap the call fails.
use Rattle.best_fit.proofs.Common.{◌≡◌, refl, sym, ap, subst, ◌∙◌, ℕ, ◌+◌, ◌-◌, ◌%◌, List, ◌++◌, ◌∷◌, length, arith}
use Rattle.best_fit.proofs.Common.{Option, Some, None, filter, bits, Gap, least, gap_of, gaps_in, gaps_of, tiles_in}
use Rattle.best_fit.proofs.Common.{HasGapTree, IsUnlinkedGap, is_long, GapTree}
use Rattle.best_fit.proofs.allocation.LeastGap.{Found, bits-le, bits_some, found, found_node, heap_bits, heap_tree, met}
use Rattle.best_fit.proofs.allocation.LeastGap.{none_found, out_of_tree, place_is, round_it, too_long}
use Rattle.best_fit.proofs.gaps.Nodes.{NodeAt, node_len}
use Rattle.best_fit.proofs.gaps.OneField.{same_gaps}
use Rattle.best_fit.proofs.extents.FirstFit.{room-IsRoom}
use Rattle.best_fit.proofs.gaps.LinksOnly.{tree_says}
use Rattle.best_fit.proofs.free_tree.LinkAndUnlink.{few_bits}
use Rattle.best_fit.proofs.allocation.allocate.Goals.{In-Some}
use Rattle.best_fit.proofs.allocation.allocate.Goals as goal

pub returns-then-n-gt-MAX_SEGMENT_LEN-clause-answer : goal.returns-then-n-gt-MAX_SEGMENT_LEN-clause-answer
returns-then-n-gt-MAX_SEGMENT_LEN-clause-answer c =
    record {
      none = too_long c.args.touches.now.gaps.now.window c.args.n c.args.role c.requires.heap
          c.if-n-gt-MAX_SEGMENT_LEN.true;
      same = refl;
    }

pub take_best_fit-requires-clause-tree : goal.take_best_fit-requires-clause-tree
take_best_fit-requires-clause-tree c = let w = c.args.touches.now.gaps.now.window
    in (gaps_in w, heap_tree w c.requires.heap)

pub returns-in_default-clause-answer : goal.returns-in_default-clause-answer
returns-in_default-clause-answer c =
    let w = c.args.touches.now.gaps.now.window in
    let e : c.take_best_fit.new.self.gaps.now.window ≡ w =
    ap (λ (g : GapTree). g.window) (c.take_best_fit.ensures.unchanged c.in_default.is) in
    let heap = c.requires.heap in
    let tree = heap_tree w heap in
    let none = none_found w c.room-wanted.result (sym c.in_default.is
    ∙ c.take_best_fit.ensures.first (gaps_in w) tree) in
    record {
      none = place_is w c.args.n c.args.role None heap
          (ap (λ k. least (filter (is_long k) (gaps_in w))) (sym c.room-wanted.ensures) ∙ none);
      same = e;
    }

pub returns-in_default-clause-touches : goal.returns-in_default-clause-touches
returns-in_default-clause-touches c =
    let w = c.args.touches.now.gaps.now.window in let heap = c.requires.heap in
    let steps = c.take_best_fit.ensures.steps (gaps_in w) (heap_tree w heap) in let same = heap_bits w heap in
    let zero = c.requires.count in
    omega arith

-- the gap that is found
sought : (c : In-Some) → Found c.args.touches.now.gaps.now.window c.room-wanted.result c.in-Some.node
sought c =
    let w = c.args.touches.now.gaps.now.window in let tree = heap_tree w c.requires.heap in
    found w c.room-wanted.result c.in-Some.node tree (sym c.in-Some.is ∙ c.take_best_fit.ensures.first (gaps_in w) tree)

-- its tile
sought_node : (c : In-Some) → NodeAt c.args.touches.now.gaps.now.window c.in-Some.node
sought_node c = let w = c.args.touches.now.gaps.now.window in found_node w c.room-wanted.result c.in-Some.node
    (heap_tree w c.requires.heap) (sought c)

pub overflow_sub-node : goal.overflow_sub-node
overflow_sub-node c = let low = (sought_node (goal.at.overflow_sub-node c).In-Some).low in omega arith

-- once it is out of the tree
out : (c : In-Some) (f : Found c.args.touches.now.gaps.now.window c.room-wanted.result c.in-Some.node)
    → NodeAt c.args.touches.now.gaps.now.window c.in-Some.node
    → IsUnlinkedGap c.take_best_fit.new.self.gaps.now.window (c.in-Some.node - 16) f.gap.len
out c f at_node =
    let w = c.args.touches.now.gaps.now.window in let d = c.take_best_fit.new.self.gaps.now.window in
    let node = c.in-Some.node in let here = at_node.free_tile in
    let whole : HasGapTree w (gaps_of here.front ++ (gap_of here.tile ∷ gaps_of here.back)) =
    subst (λ (hs : List Gap). HasGapTree w hs) (round_it w node here) (heap_tree w c.requires.heap) in
    let left = c.take_best_fit.ensures.tree (gaps_of here.front) (gap_of here.tile) (gaps_of here.back)
    (c.in-Some.is ∙ ap (λ k. let o : Option ℕ = Some k in o) (sym here.at)) whole in
    out_of_tree w d node (node - 16) f.gap.len here (omega arith) (sym (node_len w node at_node) ∙ f.len)
    c.take_best_fit.ensures.frame left

pub take-requires-clause-gap : goal.take-requires-clause-gap
take-requires-clause-gap c =
    let g = goal.at.take-requires-clause-gap c in let f = sought g.In-Some in
    (f.gap.len, out g.In-Some f (sought_node g.In-Some), f.enough)

pub take-requires-clause-aligned : goal.take-requires-clause-aligned
take-requires-clause-aligned c = let r = room-IsRoom c.args.n in let whole = r.len in let is = c.room-wanted.ensures in
    subst (λ k. k % 16 ≡ 0) (sym is) whole

pub take-requires-clause-no_overflow : goal.take-requires-clause-no_overflow
take-requires-clause-no_overflow c =
    let w = c.args.touches.now.gaps.now.window in let tree = heap_tree w c.requires.heap in
    let steps = c.take_best_fit.ensures.steps (gaps_in w) tree in let few = few_bits w (gaps_in w) tree in
    let zero = c.requires.count in
    omega arith

pub returns-clause-answer : goal.returns-clause-answer
returns-clause-answer c =
    let g = goal.at.returns-clause-answer c in let f = sought g.In-Some in let at_node = sought_node g.In-Some in
    let d = c.take_best_fit.new.self.gaps.now.window in let node = c.in-Some.node in
    let o = out g.In-Some f at_node in
    met c.args.touches.now.gaps.now.window d c.take.new.touches.gaps.now.window c.args.n c.args.role
    c.room-wanted.result node (node - 16) c.requires.heap c.room-wanted.ensures f (omega arith)
    c.take_best_fit.ensures.frame (tree_says d (gaps_of o.front ++ gaps_of o.back) o.tree).said
    (c.take.ensures.live f.gap.len o f.enough) c.take.ensures.black c.take.ensures.frame

pub returns-clause-touches : goal.returns-clause-touches
returns-clause-touches c =
    let w = c.args.touches.now.gaps.now.window in let d = c.take_best_fit.new.self.gaps.now.window in
    let steps = c.take_best_fit.ensures.steps (gaps_in w) (heap_tree w c.requires.heap) in
    let last = c.take.ensures.steps in
    let gaps_d : gaps_in d ≡ gaps_in w = same_gaps (tiles_in w) (tiles_in d) c.take_best_fit.ensures.frame.tiles in
    let same_d : bits (length (gaps_in d)) ≡ bits (length (gaps_in w)) =
    ap (λ (hs : List Gap). bits (length hs)) gaps_d in
    let fewer = bits-le (length (gaps_in w)) (length (gaps_in w) + 1) (omega arith) in
    let same = heap_bits w c.requires.heap in let some = bits_some (length (gaps_in w)) in
    let zero = c.requires.count in
    omega arith
