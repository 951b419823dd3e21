-- Walks over trees: what is ahead of one at a node.
use Rattle.std.proofs.Common.{◌≡◌, ◌≢◌, ℕ, ◌+◌, ◌-◌, ◌<◌, Bool, false, Option, Some, List, ◌∷◌, ◌++◌, length, sym, ap}
use Rattle.std.proofs.Common.{◌∙◌, arith, length-append}
use Rattle.std.proofs.lemmas.Bool.{false_from_ne_true, true≢false}
use Rattle.link_tree.specs.Tree.{Cell, Tree, nodes_of, IsTree}
use Rattle.link_tree.specs.Nodes.{is_in}
use Rattle.link_tree.specs.Walking.{IsAhead}
use Rattle.link_tree.proofs.trees.OrderedLists.{IsStrict, rises_split, not_left, not_right, not_both}
use Rattle.link_tree.proofs.trees.Linked.{open_tree, some_same, root_in}

-- a walk stands at a node: the left tree is ahead of it, and the right one from wherever the walk over the left one
-- ends
pub record AreAhead (lt : ℕ → ℕ → Bool) (h : ℕ → Cell) (n levels : ℕ) (left_link right_link here : Option ℕ)
    (ns : List ℕ) : Type 0 where
  pub left : Tree
  pub right : Tree
  pub nodes : ns ≡ nodes_of left ++ n ∷ nodes_of right
  pub size : length ns ≡ length (nodes_of left) + length (nodes_of right) + 1
  pub positive : 0 < levels
  pub comes : here ≢ Some n
  pub left_ahead : (at_node : Option ℕ) → at_node ≡ Some n → IsAhead lt h left_link (levels - 1) at_node left
  pub right_ahead : (at_node later : Option ℕ) → at_node ≡ Some n
      → ((t : Tree) → IsAhead lt h left_link (levels - 1) at_node t → (m : ℕ)
      → is_in m (nodes_of t) ≡ false → at_node ≢ Some m → later ≢ Some m)
      → IsAhead lt h right_link (levels - 1) later right

-- the nodes ahead of a walk at a node are the nodes from this one on
pub ahead_at : {lt : ℕ → ℕ → Bool} → IsStrict lt → (h : ℕ → Cell) (n levels : ℕ)
    (link left_link right_link here : Option ℕ) (t : Tree) → link ≡ Some n → left_link ≡ (h n).left
    → right_link ≡ (h n).right → IsAhead lt h link levels here t
    → AreAhead lt h n levels left_link right_link here (nodes_of t)
ahead_at {lt = lt} strict h n levels link left_link right_link here t e left right a =
    let w : IsTree h (Some n) t = rw e at a.tree in
    let o = open_tree h n t w in
    let l = nodes_of o.left in
    let r = nodes_of o.right in
    let low = rw o.is at a.low in
    let sp = rises_split lt l n r (rw o.is at a.ordered) in
    let left_ahead : (at_node : Option ℕ) → at_node ≡ Some n → IsAhead lt h left_link (levels - 1) at_node o.left =
    λ at_node f. record {
      tree = rw left o.left_tree;
      ordered = sp.left;
      low = omega arith;
      away = λ m i k.
          let same : n ≡ m = some_same n m (sym f ∙ k) in
          true≢false (sym (rw (← same) at i) ∙ not_left strict l n r sp);
    } in
    record {
      left = o.left;
      right = o.right;
      nodes = ap nodes_of o.is;
      size = ap (λ u. length (nodes_of u)) o.is ∙ omega (arith, length-append l (n ∷ r));
      positive = omega arith;
      comes = a.away n (root_in h n t w);
      left_ahead = left_ahead;
      right_ahead = λ at_node later f stands. record {
        tree = rw right o.right_tree;
        ordered = sp.right;
        low = omega arith;
        away = λ m i.
            stands o.left (left_ahead at_node f) m
            (false_from_ne_true (is_in m l) (λ j. true≢false (sym i ∙ not_both strict l n r sp m j))) (λ k.
            let same : n ≡ m = some_same n m (sym f ∙ k) in
            true≢false (sym (rw (← same) at i) ∙ not_right strict l n r sp));
      };
    }
