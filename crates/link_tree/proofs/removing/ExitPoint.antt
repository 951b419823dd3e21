-- Above the node where a removal begins nothing changes.
use Rattle.std.proofs.Common.{◌≡◌, ℕ, Bool, true, false, Option, Some, None, [], refl, ap, ◌∙◌, inl, inr, nat_eq, subst}
use Rattle.std.proofs.lemmas.Bool.{true≢false, cases_Bool}
use Rattle.link_tree.specs.Tree.{Cell, Tree, leaf, fork, nodes_of, AreCellsOf, IsSearchTree, is_sorted, has_black_root}
use Rattle.link_tree.specs.Nodes.{without}
use Rattle.link_tree.specs.Sides.{opposite, joined_at, side_of}
use Rattle.link_tree.specs.Shrinking.{RemovedSubtree, RemovesTo, mended_at, settled, without_root, without_least}
use Rattle.link_tree.specs.Shrinking.{least_of, after_remove}
use Rattle.link_tree.specs.Ways.{remove_point_of, exit_over}
use Rattle.link_tree.specs.declared.cursor.Side.{Side}
use Rattle.link_tree.specs.declared.cursor.Side.TheVariants.{Left, Right}
use Rattle.link_tree.proofs.trees.OrderedLists.{IsStrict}
use Rattle.link_tree.proofs.trees.Linked.{IsChanged, some_same, none_some}
use Rattle.link_tree.proofs.trees.OneSided.{joint_of, apart_of}
use Rattle.link_tree.proofs.trees.BlackHeights.{even_tree}
use Rattle.link_tree.proofs.removing.Removal.{nodes_of-after_remove, rises_without, shrunk_even}
use Rattle.link_tree.proofs.removing.RootRemoval.{after_remove-joined}
use Rattle.link_tree.proofs.inserting.ChangePoint.{Begins, begins_deeper, begins_here, begun}

-- ---- under a red root nothing falls

mended_red : (side : Side) (near : Tree) (n : ℕ) (far : Tree) → (mended_at side true near n far).fell ≡ false
mended_red side leaf n far = refl
mended_red side (fork false l m r) n far = refl
mended_red side (fork true l m r) n far = refl

settled_red : (side : Side) (rest : RemovedSubtree) (n : ℕ) (far : Tree) → (settled side true rest n far).fell ≡ false
settled_red side rest n far =
    elim (cases_Bool rest.fell) [
      | inl e ↦ rw e (mended_red (opposite side) far n rest.tree)
      | inr e ↦ rw e refl
    ]

uprooted_red : (l r : Tree) → (without_root true l r).fell ≡ false
uprooted_red l leaf = refl
uprooted_red l (fork red a n b) = settled_red Right (without_least (fork red a n b)) (least_of n a) l

shrunk_red : (lt : ℕ → ℕ → Bool) (x : ℕ) (t : Tree) → has_black_root t ≡ false → (after_remove lt x t).fell ≡ false
shrunk_red lt x leaf k = absurd (true≢false k)
shrunk_red lt x (fork false l n r) k = absurd (true≢false k)
shrunk_red lt x (fork true l n r) k =
    elim (cases_Bool (nat_eq n x)) [
      | inl e ↦ rw e (uprooted_red l r)
      | inr e ↦ elim (cases_Bool (lt x n)) [
        | inl m ↦ rw (e, m) (settled_red Left (after_remove lt x l) n r)
        | inr m ↦ rw (e, m) (settled_red Right (after_remove lt x r) n l)
      ]
    ]

-- ---- where a removal begins

-- the node is found below, or here, with a red one next
data Turns (n : ℕ) (next : Tree) (below : Option ℕ) (q : ℕ) : Type 0 where
  deeper : below ≡ Some q → Turns n next below q
  here : has_black_root next ≡ false → n ≡ q → Turns n next below q

turns : (n : ℕ) (next : Tree) (below : Option ℕ) (q : ℕ) → exit_over n next below ≡ Some q → Turns n next below q
turns n next None q e =
    elim (cases_Bool (has_black_root next)) [
      | inl k ↦ let f : None ≡ Some q = rw k at e in absurd (none_some q f)
      | inr k ↦ let f : Some n ≡ Some q = rw k at e in here k (some_same n q f)
    ]
turns n next (Some m) q e = deeper e

-- the tree without the node
abbrev pub left_of : (ℕ → ℕ → Bool) → ℕ → Tree → Tree
left_of lt x t = (after_remove lt x t).tree

-- the effect of a removal that begins at a node of the tree
pub record IsTurned (lt : ℕ → ℕ → Bool) (h : ℕ → Cell) (x : ℕ) (t : Tree) (p : ℕ) : Type 0 where
  pub begins : Begins lt h [] (left_of lt x) (Some p) t
  pub still : (after_remove lt x t).fell ≡ false

module _ {lt : ℕ → ℕ → Bool} (strict : IsStrict lt) (h : ℕ → Cell) (x : ℕ) where
  -- a subtree that lost no black node, on one side
  over_still : (side : Side) (red : Bool) (near : Tree) (n : ℕ) (far : Tree) → nat_eq n x ≡ false
      → side_of (lt x n) ≡ side → (after_remove lt x near).fell ≡ false
      → after_remove lt x (joined_at side red near n far)
      ≡ record { tree = joined_at side red (after_remove lt x near).tree n far; fell = false }
  over_still side red near n far d s f = after_remove-joined strict x side red near n far d s ∙ rw f refl

  turned_here : (side : Side) (red : Bool) (near : Tree) (n : ℕ) (far : Tree)
      → AreCellsOf h (joined_at side red near n far) → is_sorted lt (nodes_of (joined_at side red near n far)) ≡ true
      → nat_eq n x ≡ false → side_of (lt x n) ≡ side → has_black_root near ≡ false
      → IsTurned lt h x (joined_at side red near n far) n
  turned_here side red near n far w o d s k =
      let is = over_still side red near n far d s (shrunk_red lt x near k) in
      record {
        begins = begins_here strict h [] (left_of lt x) side red near (left_of lt x near) n far w o
            (ap (λ (r : RemovedSubtree). r.tree) is);
        still = ap (λ (r : RemovedSubtree). r.fell) is;
      }

  turned_deeper : (side : Side) (red : Bool) (near : Tree) (n : ℕ) (far : Tree) (q : ℕ)
      → AreCellsOf h (joined_at side red near n far) → is_sorted lt (nodes_of (joined_at side red near n far)) ≡ true
      → nat_eq n x ≡ false → side_of (lt x n) ≡ side → IsTurned lt h x near q
      → IsTurned lt h x (joined_at side red near n far) q
  turned_deeper side red near n far q w o d s g =
      let is = over_still side red near n far d s g.still in
      record {
        begins = begins_deeper strict h [] (left_of lt x) side red near n far (Some q) w o (λ m i. refl)
            (ap (λ (r : RemovedSubtree). r.tree) is) g.begins;
        still = ap (λ (r : RemovedSubtree). r.fell) is;
      }

  turned_over : (side : Side) (red : Bool) (near : Tree) (n : ℕ) (far : Tree) (q : ℕ)
      → AreCellsOf h (joined_at side red near n far) → is_sorted lt (nodes_of (joined_at side red near n far)) ≡ true
      → nat_eq n x ≡ false → side_of (lt x n) ≡ side → (below : Option ℕ) → exit_over n near below ≡ Some q
      → (AreCellsOf h near → is_sorted lt (nodes_of near) ≡ true → below ≡ Some q → IsTurned lt h x near q)
      → IsTurned lt h x (joined_at side red near n far) q
  turned_over side red near n far q w o d s below is more =
      elim (turns n near below q is) [
        | deeper k ↦ turned_deeper side red near n far q w o d s (more (joint_of h side red near n far w).near_holds
            (apart_of strict side red near n far o).near_rises k)
        | here k m ↦ subst (λ j. IsTurned lt h x (joined_at side red near n far) j) m
            (turned_here side red near n far w o d s k)
      ]

  -- a removal from an ordered tree begins at a node or at the root
  pub turned : (t : Tree) (q : ℕ) → AreCellsOf h t → is_sorted lt (nodes_of t) ≡ true → remove_point_of lt x t ≡ Some q
      → IsTurned lt h x t q
  turned leaf q w o k = absurd (none_some q k)
  turned (fork red l n r) q w o k =
      elim (cases_Bool (nat_eq n x)) [
        | inl d ↦ let k' : None ≡ Some q = rw d at k in absurd (none_some q k')
        | inr d ↦ elim (cases_Bool (lt x n)) [
          | inl a ↦
              let k' : exit_over n l (remove_point_of lt x l) ≡ Some q = rw (d, a) at k in
              turned_over Left red l n r q w o d (ap side_of a) (remove_point_of lt x l) k' (turned l q)
          | inr a ↦
              let k' : exit_over n r (remove_point_of lt x r) ≡ Some q = rw (d, a) at k in
              turned_over Right red r n l q w o d (ap side_of a) (remove_point_of lt x r) k' (turned r q)
        ]
      ]

  -- a removal below its begin is a removal from the whole tree
  pub left : (h1 : ℕ → Cell) (root link : Option ℕ) (fell : Bool) (t : Tree) (p : ℕ)
      → IsSearchTree lt h root t → (g : IsTurned lt h x t p)
      → RemovesTo h h1 (nodes_of g.begins.below) link fell (after_remove lt x g.begins.below)
      → IsChanged lt h h1 root (nodes_of t) (without x (nodes_of t))
  left h1 root link fell t p s g u =
      let b = s.red_black.black.0 in
      let e = shrunk_even lt x t b (even_tree t s.red_black) in
      begun strict h [] (left_of lt x) h1 root (Some p) link t e.level (without x (nodes_of t)) s g.begins
      u.turned e.even (nodes_of-after_remove strict x t s.ordered) (rises_without lt x (nodes_of t) s.ordered)
