-- The end of the path of a search: an insertion begins there if the last node is black.
use Rattle.std.proofs.Common.{◌≡◌, ℕ, ◌≤◌, Bool, true, false, Option, Some, None, arith, refl, sym, ap, ◌∙◌, inl, inr}
use Rattle.std.specs.Prelude.{◌⊎◌}
use Rattle.std.proofs.lemmas.Bool.{cases_Bool}
use Rattle.link_tree.specs.Tree.{Cell, Tree, leaf, fork, nodes_of, height, AreCellsOf}
use Rattle.link_tree.specs.Nodes.{is_in}
use Rattle.link_tree.specs.Searching.{noted, path_length}
use Rattle.link_tree.specs.Ways.{EndsPath, insert_point_of, entry_over, last_on, reached}
use Rattle.link_tree.specs.declared.change_points.Reached.{Reached}
use Rattle.link_tree.proofs.trees.OrderedLists.{in_left, in_middle, in_right}
use Rattle.link_tree.proofs.trees.Linked.{none_some, some_same}

-- a path has at most as many nodes as the tree is high
pub path_low : (before : ℕ → Bool) (t : Tree) → path_length before t ≤ height t
path_low before leaf = omega arith
path_low before (fork red l n r) =
    let left = path_low before l in
    let right = path_low before r in
    elim (cases_Bool (before n)) [ inl e ↦ rw e (omega arith) | inr e ↦ rw e (omega arith) ]

-- the search notes the last node of its path
pub last_noted : (before : ℕ → Bool) (folded : Reached) (t : Tree)
    → (noted reached before folded t).last ≡ last_on before folded.last t
last_noted before folded leaf = refl
last_noted before folded (fork red l n r) =
    elim (cases_Bool (before n)) [
      | inl e ↦ rw e (last_noted before (reached folded n red true) r)
      | inr e ↦ rw e (last_noted before (reached folded n red false) l)
    ]

module _ (h : ℕ → Cell) (before : ℕ → Bool) (x : ℕ) (black : (h x).red ≡ false) where
  -- where an insertion begins, or the node above an empty tree
  abbrev begins : Option ℕ → Tree → Option ℕ
  begins above leaf = above
  begins above (fork red l n r) = insert_point_of before (fork red l n r)

  over : (red : Bool) (n : ℕ) (next : Tree) → (h n).red ≡ red → begins (Some n) next ≡ Some x
      → entry_over red n next (insert_point_of before next) ≡ Some x
  over red n leaf colour e =
      let same = some_same n x e in
      let is : red ≡ false = sym colour ∙ ap (λ m. (h m).red) same ∙ black in
      rw is e
  over red n (fork red' l m r) colour e = rw e refl

  begins_at : (above : Option ℕ) (t : Tree) → AreCellsOf h t → last_on before above t ≡ Some x
      → begins above t ≡ Some x
  begins_at above leaf w e = e
  begins_at above (fork red l n r) w e =
      let colour : (h n).red ≡ red = ap (λ (c : Cell). c.red) w.0 in
      elim (cases_Bool (before n)) [
        | inl b ↦ let f = rw b at e in rw b (over red n r colour (begins_at (Some n) r w.2 f))
        | inr b ↦ let f = rw b at e in rw b (over red n l colour (begins_at (Some n) l w.1 f))
      ]

  begins_whole : (t : Tree) → begins None t ≡ Some x → insert_point_of before t ≡ Some x
  begins_whole leaf e = absurd (none_some x e)
  begins_whole (fork red l n r) e = e

-- the tree is empty, or the last node is one of the tree
last_in : (before : ℕ → Bool) (above : Option ℕ) (t : Tree) → ((t ≡ leaf) × (last_on before above t ≡ above))
    ⊎ ((x : ℕ) × (last_on before above t ≡ Some x) × (is_in x (nodes_of t) ≡ true))
last_in before above leaf = inl (refl, refl)
last_in before above (fork red l n r) =
    inr (elim (cases_Bool (before n)) [
      | inl b ↦ elim (last_in before (Some n) r) [
        | inl p ↦ (n, rw b p.1, in_middle (nodes_of l) n (nodes_of r))
        | inr p ↦ (p.0, rw b p.1, in_right p.0 (nodes_of l) n (nodes_of r) p.2)
      ]
      | inr b ↦ elim (last_in before (Some n) l) [
        | inl p ↦ (n, rw b p.1, in_middle (nodes_of l) n (nodes_of r))
        | inr p ↦ (p.0, rw b p.1, in_left p.0 (nodes_of l) n (nodes_of r) p.2)
      ]
    ])

module _ (good : ℕ → Bool) (h : ℕ → Cell) (before : ℕ → Bool) (t : Tree) (holds : AreCellsOf h t)
    (all_good : (m : ℕ) → is_in m (nodes_of t) ≡ true → good m ≡ true) where
  end_of : (o : Option ℕ) → o ≡ last_on before None t → EndsPath good h before t o
  end_of o e =
      elim (last_in before None t) [
        | inl p ↦ rw (e ∙ p.1, p.0) refl
        | inr p ↦ rw (e ∙ p.1) (record {
          node = all_good p.0 p.2;
          black = λ black. begins_whole h before p.0 black t (begins_at h before p.0 black None t holds p.1);
        })
      ]

  -- a search ends at the last node of its path
  pub ends_at : (folded : Reached) → folded ≡ noted reached before (record { node = None; last = None }) t
      → EndsPath good h before t folded.last
  ends_at folded e =
      let start : Reached = record { node = None; last = None } in
      end_of folded.last (ap (λ (m : Reached). m.last) e ∙ last_noted before start t)
