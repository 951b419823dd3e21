-- Where a change of a tree begins: above that node nothing changes.
use Rattle.std.proofs.Common.{◌≡◌, ℕ, ◌≤◌, arith, Bool, true, false, Option, Some, List, ◌++◌, sym, ap, ◌∙◌}
use Rattle.std.proofs.lemmas.Bool.{true≢false, false_from_ne_true, or_from, or_parts}
use Rattle.link_tree.specs.Tree.{Cell, Tree, root_of, nodes_of, AreCellsOf, IsTree, IsSearchTree, IsRedBlack, is_sorted}
use Rattle.link_tree.specs.Tree.{has_black_root, height}
use Rattle.link_tree.specs.Nodes.{is_in}
use Rattle.link_tree.specs.Sides.{joined_at}
use Rattle.link_tree.specs.Turning.{BecomesTree, blackened}
use Rattle.link_tree.specs.declared.cursor.Side.{Side}
use Rattle.link_tree.proofs.trees.OrderedLists.{IsStrict, is_in-append}
use Rattle.link_tree.proofs.trees.Linked.{IsChanged, holds_same}
use Rattle.link_tree.proofs.trees.OneSided.{Makes, cell_at, joint_of, tree_joint, root_joined, apart_of, in_far}
use Rattle.link_tree.proofs.trees.OneSided.{in_near, in_root, lower_near, nodes_of-painted}
use Rattle.link_tree.proofs.trees.BlackHeights.{IsEven, colour_joined}

-- a node outside more nodes
outside_less : (m : ℕ) (ns ms : List ℕ) → ((k : ℕ) → is_in k ns ≡ true → is_in k ms ≡ true) → is_in m ms ≡ false
    → is_in m ns ≡ false
outside_less m ns ms sub o = false_from_ne_true (is_in m ns) (λ i. true≢false (sym (sub m i) ∙ o))

outside_both : (m : ℕ) (xs ys : List ℕ) → is_in m xs ≡ false → is_in m ys ≡ false → is_in m (xs ++ ys) ≡ false
outside_both m xs ys o p = is_in-append m xs ys ∙ or_from (is_in m xs) (is_in m ys) o p

-- a change that turns trees of nodes, and cells of others, begins at the node that the link leads to
pub record Begins (lt : ℕ → ℕ → Bool) (h : ℕ → Cell) (xs : List ℕ) (change : Tree → Tree) (link : Option ℕ)
    (t : Tree) : Type 0 where
  pub below : Tree
  pub is_tree : IsTree h link below
  pub ordered : is_sorted lt (nodes_of below) ≡ true
  pub inside : (m : ℕ) → is_in m (nodes_of below) ≡ true → is_in m (nodes_of t) ≡ true
  pub lower : height below ≤ height t
  pub carries : (h1 : ℕ → Cell) (to : Option ℕ) → BecomesTree h h1 (xs ++ nodes_of below) to (change below)
      → IsTree h1 (root_of t) (change t)
  pub colour : has_black_root (change t) ≡ has_black_root t

module _ {lt : ℕ → ℕ → Bool} (strict : IsStrict lt) (h : ℕ → Cell) (xs : List ℕ) (change : Tree → Tree) where
  -- a change that keeps the root of a tree begins at its child
  pub begins_here : (side : Side) (red : Bool) (near near' : Tree) (n : ℕ) (far : Tree)
      → AreCellsOf h (joined_at side red near n far) → is_sorted lt (nodes_of (joined_at side red near n far)) ≡ true
      → change (joined_at side red near n far) ≡ joined_at side red near' n far
      → Begins lt h xs change (Some n) (joined_at side red near n far)
  begins_here side red near near' n far w o is =
      let root : root_of (change (joined_at side red near n far)) ≡ Some n = ap root_of is
      ∙ root_joined side red near' n far in
      record {
        below = joined_at side red near n far;
        is_tree = record { root = sym (root_joined side red near n far); holds = w };
        ordered = o;
        inside = λ m i. i;
        lower = omega arith;
        carries = λ h1 to u. record { root = root_joined side red near n far ∙ sym root; holds = u.tree.holds };
        colour = ap has_black_root is ∙ colour_joined side red near' n far ∙ sym (colour_joined side red near n far);
      }

  -- a change that begins deeper in a child begins there in the tree
  pub begins_deeper : (side : Side) (red : Bool) (near : Tree) (n : ℕ) (far : Tree) (link : Option ℕ)
      → AreCellsOf h (joined_at side red near n far) → is_sorted lt (nodes_of (joined_at side red near n far)) ≡ true
      → ((m : ℕ) → is_in m (nodes_of (joined_at side red near n far)) ≡ true → is_in m xs ≡ false)
      → change (joined_at side red near n far) ≡ joined_at side red (change near) n far
      → Begins lt h xs change link near → Begins lt h xs change link (joined_at side red near n far)
  begins_deeper side red near n far link w o others is g =
      let apart = apart_of strict side red near n far o in
      let joint = joint_of h side red near n far w in
      let low = lower_near side red near n far in
      let lower = g.lower in
      record {
        below = g.below;
        is_tree = g.is_tree;
        ordered = g.ordered;
        inside = λ m i. in_near side red near n far m (g.inside m i);
        lower = omega arith;
        carries = λ h1 to u.
            let near' = g.carries h1 to u in
            let out : (m : ℕ) → is_in m xs ≡ false → is_in m (nodes_of near) ≡ false → h1 m ≡ h m =
            λ m a b. u.frame m
            (outside_both m xs (nodes_of g.below) a (outside_less m (nodes_of g.below) (nodes_of near) g.inside b)) in
            let all = tree_joint h1 side red (change near) n far (record {
              cell = out n (others n (in_root side red near n far)) apart.not_near ∙ joint.cell
                  ∙ ap (λ r. cell_at side red r (root_of far)) near'.root;
              near_holds = near'.holds;
              far_holds = holds_same h h1 far
                  (λ m i. out m (others m (in_far side red near n far m i)) (apart.near_of_far m i)) joint.far_holds;
            }) in
            rw is (record { root = root_joined side red near n far ∙ all.root; holds = all.holds });
        colour = ap has_black_root is ∙ colour_joined side red (change near) n far
            ∙ sym (colour_joined side red near n far);
      }

  -- the whole tree after a change at a node
  pub begun : (h1 : ℕ → Cell) (root link to : Option ℕ) (t : Tree) (b : ℕ) (ns : List ℕ)
      → IsSearchTree lt h root t → (g : Begins lt h xs change link t)
      → BecomesTree h h1 (xs ++ nodes_of g.below) to (change g.below) → IsEven (change t) b → nodes_of (change t) ≡ ns
      → is_sorted lt ns ≡ true → IsChanged lt h h1 root (xs ++ nodes_of t) ns
  begun h1 root link to t b ns s g u even nodes o =
      let new = g.carries h1 to u in
      record {
        tree = (
          change t,
          record {
            tree = record { root = s.tree.root ∙ new.root; holds = new.holds };
            ordered = ap (is_sorted lt) nodes ∙ o;
            red_black = record {
              root = g.colour ∙ s.red_black.root;
              no_red_pair = even.no_red_pair;
              black = (b, even.black);
            };
          },
          nodes,
        );
        frame = λ m i.
            let p = or_parts (is_in m xs) (is_in m (nodes_of t)) (sym (is_in-append m xs (nodes_of t)) ∙ i) in
            u.frame m (outside_both m xs (nodes_of g.below) p.0
            (outside_less m (nodes_of g.below) (nodes_of t) g.inside p.1));
      }

-- a change of a whole tree, whose root is made black
pub blackened_whole : {lt : ℕ → ℕ → Bool} (h h1 h2 : ℕ → Cell) (link : Option ℕ) (t : Tree)
    (xs ns : List ℕ) → BecomesTree h h1 xs link t → Makes lt h1 h2 link link blackened
    → IsRedBlack (blackened t) → nodes_of t ≡ ns → is_sorted lt ns ≡ true
    → ((m : ℕ) → is_in m xs ≡ false → is_in m ns ≡ false) → IsChanged lt h h2 link xs ns
blackened_whole {lt = lt} h h1 h2 link t xs ns u black red_black nodes o out =
    let b = black t u.tree (ap (is_sorted lt) nodes ∙ o) in
    record {
      tree = (
        blackened t,
        record {
          tree = b.tree;
          ordered = ap (is_sorted lt) (nodes_of-painted false t ∙ nodes) ∙ o;
          red_black = red_black;
        },
        nodes_of-painted false t ∙ nodes,
      );
      frame = λ m i. b.frame m (ap (is_in m) nodes ∙ out m i) ∙ u.frame m i;
    }
