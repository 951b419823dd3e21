-- The walk down a tree along the path of a search.
use Rattle.std.proofs.Common.{◌≡◌, ℕ, suc, ◌+◌, ◌≤◌, Bool, true, false, Option, Some, None, refl, sym, ap, ◌∙◌, arith}
use Rattle.std.proofs.lemmas.Bool.{true≢false}
use Rattle.link_tree.specs.Tree.{Cell, Tree, nodes_of, IsTree, IsSearchTree, is_sorted, height}
use Rattle.link_tree.specs.Searching.{noted, path_length}
use Rattle.link_tree.specs.Sides.{child_of, joined_at}
use Rattle.link_tree.specs.declared.cursor.Side.{Side}
use Rattle.link_tree.specs.declared.cursor.Side.TheVariants.{Left, Right}
use Rattle.link_tree.proofs.trees.OrderedLists.{IsStrict}
use Rattle.link_tree.proofs.trees.Linked.{root_in, some_same, no_tree}
use Rattle.link_tree.proofs.trees.OneSided.{parted, lower_near}

-- the side of a node that the path goes on to, where it stands before the probe or not
abbrev pub onward : Bool → Side
onward true = Right
onward false = Left

-- the rest of the path, with the value folded so far, gives the value of the whole path
pub record Seeking {K : Type 0} (pass : K → ℕ → Bool → Bool → K) (start : K) (lt : ℕ → ℕ → Bool) (h : ℕ → Cell)
    (before : ℕ → Bool) (whole : Tree) (link at : Option ℕ) (folded : K) (steps : ℕ) : Type 0 where
  pub tree : Tree
  pub is_tree : IsTree h link tree
  pub ordered : is_sorted lt (nodes_of tree) ≡ true
  pub kept : noted pass before folded tree ≡ noted pass before start whole
  pub taken : steps + height tree ≤ height whole
  pub path : steps + path_length before tree ≡ path_length before whole
  pub away : (m : ℕ) → link ≡ Some m → at ≡ Some m → ⊥

module _ {K : Type 0} (pass : K → ℕ → Bool → Bool → K) (before : ℕ → Bool) where
  path_on : (b : Bool) (red : Bool) (near : Tree) (n : ℕ) (far : Tree) → before n ≡ b
      → path_length before (joined_at (onward b) red near n far) ≡ suc (path_length before near)
  path_on true red near n far e = rw e refl
  path_on false red near n far e = rw e refl

  noted_on : (folded : K) (b : Bool) (red : Bool) (near : Tree) (n : ℕ) (far : Tree) → before n ≡ b
      → noted pass before folded (joined_at (onward b) red near n far) ≡ noted pass before (pass folded n red b) near
  noted_on folded true red near n far e = rw e refl
  noted_on folded false red near n far e = rw e refl

module _ {K : Type 0} {pass : K → ℕ → Bool → Bool → K} {start : K} {lt : ℕ → ℕ → Bool} {h : ℕ → Cell}
    {before : ℕ → Bool} {whole : Tree} where
  -- the walk begins at the root
  pub seek_start : (root at : Option ℕ) (steps : ℕ) → IsSearchTree lt h root whole → at ≡ None → steps ≡ 0
      → Seeking pass start lt h before whole root at start steps
  seek_start root at steps s nowhere zero = record {
    tree = whole;
    is_tree = s.tree;
    ordered = s.ordered;
    kept = refl;
    taken = omega arith;
    path = omega arith;
    away = λ m e f. cc;
  }

  -- the value and the steps of a search that has ended
  pub seek_end : (link at : Option ℕ) (folded : K) (steps : ℕ) → link ≡ None
      → Seeking pass start lt h before whole link at folded steps
      → (folded ≡ noted pass before start whole) × (steps ≡ path_length before whole)
  seek_end link at folded steps k s =
      let e = no_tree h s.tree (rw k at s.is_tree) in
      let g = rw e at s.kept in
      let p = rw e at s.path in
      (g, omega arith)

  -- one node further down
  pub seek_on : IsStrict lt → (b : Bool) (n : ℕ) (at at' : Option ℕ) (folded folded' : K) (steps steps' : ℕ)
      → Seeking pass start lt h before whole (Some n) at folded steps → before n ≡ b
      → folded' ≡ pass folded n (h n).red b → steps' ≡ steps + 1 → at' ≡ Some n
      → Seeking pass start lt h before whole (child_of (onward b) (h n)) at' folded' steps'
  seek_on strict b n at at' folded folded' steps steps' s e k st here =
      let o = parted strict (onward b) h n s.tree s.is_tree s.ordered in
      let red = (h n).red in
      let kept = rw o.is at s.kept in
      let taken = rw o.is at s.taken in
      let path = rw o.is at s.path in
      let low = lower_near (onward b) red o.near n o.far in
      let longer = path_on pass before b red o.near n o.far e in
      record {
        tree = o.near;
        is_tree = o.near_tree;
        ordered = o.apart.near_rises;
        kept = ap (λ x. noted pass before x o.near) k ∙ sym (noted_on pass before folded b red o.near n o.far e) ∙ kept;
        taken = omega arith;
        path = omega arith;
        away = λ m f g.
            let same : m ≡ n = some_same m n (sym g ∙ here) in
            let w : IsTree h (Some n) o.near =
            record { root = sym (rw same at f) ∙ o.near_tree.root; holds = o.near_tree.holds } in
            true≢false (sym (root_in h n o.near w) ∙ o.apart.not_near);
      }
