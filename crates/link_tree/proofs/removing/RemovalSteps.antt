-- What the steps of a removal do to trees of cells.
use Rattle.std.proofs.Common.{◌≡◌, ℕ, Bool, true, false, not, Option, Some, refl, sym, ap, ◌∙◌, subst}
use Rattle.link_tree.specs.Tree.{Cell, Tree, root_of, nodes_of, AreCellsOf, IsTree, is_sorted}
use Rattle.link_tree.specs.Nodes.{is_in, with_red}
use Rattle.link_tree.specs.Sides.{opposite, child_of, with_child, joined_at}
use Rattle.link_tree.specs.Turning.{painted, rotated, rebalanced}
use Rattle.link_tree.specs.Shrinking.{RemovedSubtree, RemovesTo, mended, mended_at, settled}
use Rattle.link_tree.specs.declared.cursor.Side.{Side}
use Rattle.link_tree.specs.declared.cursor.Side.TheVariants.{Left, Right}
use Rattle.link_tree.proofs.trees.OrderedLists.{IsStrict}
use Rattle.link_tree.proofs.trees.Linked.{holds_same}
use Rattle.link_tree.proofs.trees.OneSided.{Makes, nodes_of-painted, cell_at, cell_is, red_of_cell, child_of_cell}
use Rattle.link_tree.proofs.trees.OneSided.{with_child-other, with_child-near, joined_opposite, root_joined, joint_of}
use Rattle.link_tree.proofs.trees.OneSided.{tree_joint, open_side, apart_of, outside_all, other_than, nodes_of-joined}
use Rattle.link_tree.proofs.trees.OneSided.{nodes_of-turn, rotated-joined, opposite_twice}
use Rattle.link_tree.proofs.inserting.Rotations.{graft, recolour}

-- a node's link on one side is set to a tree
pub set_near : (side : Side) (h h2 : ℕ → Cell) (n : ℕ) (near far : Tree) (link : Option ℕ) → IsTree h link near
    → IsTree h (child_of (opposite side) (h n)) far
    → is_in n (nodes_of near) ≡ false → is_in n (nodes_of far) ≡ false → h2 ≡ with_child side h n link
    → IsTree h2 (Some n) (joined_at side (h n).red near n far)
set_near side h h2 n near far link wn wf nn nf set =
    let red = (h n).red in
    let at : (m : ℕ) → h2 m ≡ with_child side h n link m = λ m. ap (λ (f : ℕ → Cell). f m) set in
    let rest : (m : ℕ) → (m ≡ n → ⊥) → h2 m ≡ h m = λ m d. at m ∙ with_child-other side h n m link d in
    tree_joint h2 side red near n far (record {
      cell = at n ∙ with_child-near side h n red (child_of side (h n)) (child_of (opposite side) (h n)) link
          (cell_is side (h n)) ∙ ap (λ x. cell_at side red x (child_of (opposite side) (h n))) wn.root
          ∙ ap (λ x. cell_at side red (root_of near) x) wf.root;
      near_holds = holds_same h h2 near (λ m i. rest m (other_than m n (nodes_of near) i nn)) wn.holds;
      far_holds = holds_same h h2 far (λ m i. rest m (other_than m n (nodes_of far) i nf)) wf.holds;
    })

pub mended-joined : (side : Side) (red : Bool) (near : Tree) (n : ℕ) (far : Tree)
    → mended side (joined_at side red near n far) ≡ mended_at side red near n far
mended-joined Left red near n far = refl
mended-joined Right red near n far = refl

pub mended-black : (side : Side) (red : Bool) (a : Tree) (m : ℕ) (b : Tree) (n : ℕ) (far : Tree)
    → mended_at side red (joined_at side false a m b) n far ≡ record
    { tree = rebalanced side (joined_at side false (joined_at side true a m b) n far); fell = not red }
mended-black Left red a m b n far = refl
mended-black Right red a m b n far = refl

pub mended-red : (side : Side) (red : Bool) (a : Tree) (m : ℕ) (b : Tree) (n : ℕ) (far : Tree)
    → mended_at side red (joined_at side true a m b) n far ≡ record {
      tree = joined_at side false a m (rebalanced side (joined_at side red (painted true b) n far));
      fell = false;
    }
mended-red Left red a m b n far = refl
mended-red Right red a m b n far = refl

module _ {lt : ℕ → ℕ → Bool} (strict : IsStrict lt) where
  -- a black heavy child
  pub mend_black : (side : Side) (h h1 h2 h3 : ℕ → Cell) (top heavy root : ℕ) (t : Tree)
      → IsTree h (Some top) t → is_sorted lt (nodes_of t) ≡ true
      → child_of side (h top) ≡ Some heavy → (h heavy).red ≡ false
      → h1 ≡ with_red h heavy true → h2 ≡ with_red h1 top false
      → Makes lt h2 h3 (Some top) (Some root) (rebalanced side)
      → RemovesTo h h3 (nodes_of t) (Some root) (not (h top).red) (mended side t)
  mend_black side h h1 h2 h3 top heavy root t w o e1 e2 s1 s2 balance =
      let p = open_side h side top t w in
      let q = open_side h side heavy p.near (rw e1 at p.near_tree) in
      let red = (h top).red in
      let near = joined_at side false q.near heavy q.far in
      let is_near : p.near ≡ near = q.is ∙ ap (λ x. joined_at side x q.near heavy q.far) e2 in
      let is : t ≡ joined_at side red near top p.far = p.is ∙ ap (λ x. joined_at side red x top p.far) is_near in
      let holds : AreCellsOf h (joined_at side red near top p.far) = rw is at w.holds in
      let order : is_sorted lt (nodes_of (joined_at side red near top p.far)) ≡ true = rw is at o in
      let joint = joint_of h side red near top p.far holds in
      let apart = apart_of strict side red near top p.far order in
      let inner = apart_of strict side false q.near heavy q.far apart.near_rises in
      let near' = joined_at side true q.near heavy q.far in
      let u1 = recolour side h h1 heavy false true q.near q.far joint.near_holds inner.not_near inner.not_far s1 in
      let same_nodes = nodes_of-joined side false true q.near q.near heavy q.far refl in
      let cell = u1.frame top apart.not_near ∙ joint.cell
      ∙ ap (λ x. cell_at side red x (root_of p.far)) (root_joined side false q.near heavy q.far) in
      let not_near' : is_in top (nodes_of near') ≡ false = ap (is_in top) same_nodes ∙ apart.not_near in
      let t1 = graft side h h1 h1 red near near' top p.far (Some heavy) (nodes_of near) holds u1 apart.not_near
      apart.near_of_far not_near' apart.not_far cell (λ m d. refl) in
      let u2 = recolour side h1 h2 top red false near' p.far t1.holds not_near' apart.not_far s2 in
      let nodes2 = nodes_of-joined side red false near near' top p.far same_nodes in
      let nodes1 = nodes_of-joined side red red near near' top p.far same_nodes in
      let u3 = balance (joined_at side false near' top p.far) u2.tree (ap (is_sorted lt) nodes2 ∙ order) in
      let is_mended : mended side t ≡ record {
        tree = rebalanced side (joined_at side false near' top p.far);
        fell = not red;
      } =
      ap (λ x. mended side x) is ∙ mended-joined side red near top p.far
      ∙ mended-black side red q.near heavy q.far top p.far in
      record {
        turned = record {
          tree = subst (λ (x : RemovedSubtree). IsTree h3 (Some root) x.tree) (sym is_mended) u3.tree;
          frame = λ m i.
              let i' : is_in m (nodes_of (joined_at side red near top p.far)) ≡ false =
              subst (λ x. is_in m (nodes_of x) ≡ false) is i in
              u3.frame m (ap (is_in m) nodes2 ∙ i') ∙ u2.frame m (ap (is_in m) nodes1 ∙ i')
              ∙ u1.frame m (outside_all side red near top p.far m i').near_out;
        };
        fallen = ap (λ (x : RemovedSubtree). x.fell) (sym is_mended);
      }

  -- a red heavy child
  pub mend_red_at : (side : Side) (h h1 h2 h3 h4 h5 : ℕ → Cell) (top heavy root risen : ℕ) (inner : Option ℕ) (t : Tree)
      → IsTree h (Some top) t → is_sorted lt (nodes_of t) ≡ true → child_of side (h top) ≡ Some heavy
      → (h heavy).red ≡ true
      → Makes lt h h1 (Some top) (Some risen) (rotated side)
      → h2 ≡ with_red h1 heavy false → inner ≡ child_of side (h2 top) → Makes lt h2 h3 inner inner (painted true)
      → Makes lt h3 h4 (Some top) (Some root) (rebalanced side) → ((red : Bool) (near : Tree) (n : ℕ) (far : Tree)
      → nodes_of (rebalanced side (joined_at side red near n far)) ≡ nodes_of (joined_at side red near n far))
      → h5 ≡ with_child (opposite side) h4 heavy (Some root)
      → RemovesTo h h5 (nodes_of t) (Some heavy) false (mended side t)
  mend_red_at side h h1 h2 h3 h4 h5 top heavy root risen inner t w o e1 e2 lift s2 e3 redden balance nodes_same s5 =
      let p = open_side h side top t w in
      let q = open_side h side heavy p.near (rw e1 at p.near_tree) in
      let red = (h top).red in
      let a = q.near in
      let b = q.far in
      let far = p.far in
      let near = joined_at side true a heavy b in
      let is : t ≡ joined_at side red near top far = p.is ∙ ap (λ x. joined_at side red x top far) (q.is
      ∙ ap (λ x. joined_at side x a heavy b) e2) in
      let order : is_sorted lt (nodes_of (joined_at side red near top far)) ≡ true = rw is at o in
      let low = joined_at side red b top far in
      let is_lifted : rotated side t ≡ joined_at side true a heavy low = ap (λ x. rotated side x) is
      ∙ rotated-joined side red true a heavy b top far in
      let first = lift t w o in
      let u1 = rw is_lifted at first in
      let nodes1 = nodes_of-turn side red true red true a heavy b top far in
      let order1 : is_sorted lt (nodes_of (joined_at side true a heavy low)) ≡ true =
      ap (is_sorted lt) nodes1 ∙ order in
      let apart = apart_of strict side true a heavy low order1 in
      let apart_low = apart_of strict side red b top far apart.far_rises in
      let u2 = recolour side h1 h2 heavy true false a low u1.tree.holds apart.not_near apart.not_far s2 in
      let joint2 = joint_of h2 side false a heavy low u2.tree.holds in
      let joint_low = joint_of h2 side red b top far joint2.far_holds in
      let inner_root : inner ≡ root_of b = e3 ∙ ap (child_of side) joint_low.cell
      ∙ child_of_cell side red (root_of b) (root_of far) in
      let u3 = redden b (record { root = inner_root; holds = joint_low.near_holds }) apart_low.near_rises in
      let b' = painted true b in
      let b_nodes = nodes_of-painted true b in
      let top_out : is_in top (nodes_of b') ≡ false = ap (is_in top) b_nodes ∙ apart_low.not_near in
      let cell3 = u3.frame top apart_low.not_near ∙ joint_low.cell
      ∙ ap (λ x. cell_at side red x (root_of far)) (sym inner_root) in
      let t3 = graft side h2 h3 h3 red b b' top far inner (nodes_of b) joint2.far_holds u3 apart_low.not_near
      apart_low.near_of_far top_out apart_low.not_far cell3 (λ m d. refl) in
      let low' = joined_at side red b' top far in
      let nodes_low = nodes_of-joined side red red b b' top far b_nodes in
      let u4 = balance low' t3 (ap (is_sorted lt) nodes_low ∙ apart.far_rises) in
      let x = rebalanced side low' in
      let nodes_x = nodes_same red b' top far ∙ nodes_low in
      let out3 : (m : ℕ) → is_in m (nodes_of low) ≡ false → h4 m ≡ h2 m =
      λ m i. u4.frame m (ap (is_in m) nodes_low ∙ i) ∙ u3.frame m (outside_all side red b top far m i).near_out in
      let heavy4 : h4 heavy ≡ cell_at side false (root_of a) (root_of low) = out3 heavy apart.not_far ∙ joint2.cell in
      let a4 : AreCellsOf h4 a = holds_same h2 h4 a (λ m i. out3 m (apart.far_of_near m i)) joint2.near_holds in
      let near_link : child_of (opposite (opposite side)) (h4 heavy) ≡ root_of a =
      ap (λ s. child_of s (h4 heavy)) (opposite_twice side) ∙ ap (child_of side) heavy4
      ∙ child_of_cell side false (root_of a) (root_of low) in
      let colour : (h4 heavy).red ≡ false = ap (λ (c : Cell). c.red) heavy4
      ∙ red_of_cell side false (root_of a) (root_of low) in
      let t5 = set_near (opposite side) h4 h5 heavy x a (Some root) u4.tree (record { root = near_link; holds = a4 })
      (ap (is_in heavy) nodes_x ∙ apart.not_far) apart.not_near s5 in
      let whole : IsTree h5 (Some heavy) (joined_at side false a heavy x) =
      subst (λ u. IsTree h5 (Some heavy) u) (ap (λ c. joined_at (opposite side) c x heavy a) colour
      ∙ sym (joined_opposite side false a heavy x)) t5 in
      let is_mended : mended side t ≡ record { tree = joined_at side false a heavy x; fell = false } =
      ap (λ u. mended side u) is ∙ mended-joined side red near top far ∙ mended-red side red a heavy b top far in
      record {
        turned = record {
          tree = subst (λ (r : RemovedSubtree). IsTree h5 (Some heavy) r.tree) (sym is_mended) whole;
          frame = λ m i.
              let i0 : is_in m (nodes_of (joined_at side red near top far)) ≡ false =
              subst (λ u. is_in m (nodes_of u) ≡ false) is i in
              let i1 : is_in m (nodes_of (joined_at side true a heavy low)) ≡ false = ap (is_in m) nodes1 ∙ i0 in
              let out = outside_all side true a heavy low m i1 in
              ap (λ (f : ℕ → Cell). f m) s5 ∙ with_child-other (opposite side) h4 heavy m (Some root) out.root_out
              ∙ out3 m out.far_out ∙ u2.frame m i1 ∙ first.frame m i;
        };
        fallen = ap (λ (r : RemovedSubtree). r.fell) (sym is_mended);
      }

  -- the changed subtree is hung under its parent, and no repair is needed
  pub settle_done : (side : Side) (h h1 : ℕ → Cell) (n : ℕ) (near far : Tree) (link : Option ℕ) → IsTree h link near
      → IsTree h (child_of (opposite side) (h n)) far
      → is_sorted lt (nodes_of (joined_at side (h n).red near n far)) ≡ true → h1 ≡ with_child side h n link
      → RemovesTo h h1 (nodes_of (joined_at side (h n).red near n far)) (Some n) false
      (settled side (h n).red (record { tree = near; fell = false }) n far)
  settle_done side h h1 n near far link wn wf o set =
      let apart = apart_of strict side (h n).red near n far o in
      record {
        turned = record {
          tree = set_near side h h1 n near far link wn wf apart.not_near apart.not_far set;
          frame = λ m i. ap (λ (f : ℕ → Cell). f m) set
              ∙ with_child-other side h n m link (outside_all side (h n).red near n far m i).root_out;
        };
        fallen = refl;
      }

  -- or the other side gives a black node away
  pub settle_mended : (side : Side) (h h1 h2 : ℕ → Cell) (n : ℕ) (near far : Tree) (link root : Option ℕ) (fell : Bool)
      → IsTree h link near → IsTree h (child_of (opposite side) (h n)) far
      → is_sorted lt (nodes_of (joined_at side (h n).red near n far)) ≡ true → h1 ≡ with_child side h n link
      → ((u : Tree) → IsTree h1 (Some n) u → is_sorted lt (nodes_of u) ≡ true
      → RemovesTo h1 h2 (nodes_of u) root fell (mended (opposite side) u))
      → RemovesTo h h2 (nodes_of (joined_at side (h n).red near n far)) root fell
      (settled side (h n).red (record { tree = near; fell = true }) n far)
  settle_mended side h h1 h2 n near far link root fell wn wf o set mend =
      let red = (h n).red in
      let apart = apart_of strict side red near n far o in
      let tree = set_near side h h1 n near far link wn wf apart.not_near apart.not_far set in
      let u = mend (joined_at side red near n far) tree o in
      let is : mended (opposite side) (joined_at side red near n far) ≡ mended_at (opposite side) red far n near =
      ap (λ x. mended (opposite side) x) (joined_opposite side red near n far)
      ∙ mended-joined (opposite side) red far n near in
      record {
        turned = record {
          tree = subst (λ (r : RemovedSubtree). IsTree h2 root r.tree) is u.turned.tree;
          frame = λ m i. u.turned.frame m i ∙ ap (λ (f : ℕ → Cell). f m) set
              ∙ with_child-other side h n m link (outside_all side red near n far m i).root_out;
        };
        fallen = u.fallen ∙ ap (λ (r : RemovedSubtree). r.fell) is;
      }
