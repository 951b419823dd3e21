-- The links of a tree whose fields count: they are closed, and all of them are followed.
use Rattle.image_check.proofs.Common.{Cell, Field, IsTree, IsTrue, List, Memory, Node, None, Option, Some, Tile, Tree}
use Rattle.image_check.proofs.Common.{[], and_from, and_parts, ap, cells_of, false≢true, fork, good_for, is_some, leaf}
use Rattle.image_check.proofs.Common.{link_at, list_all, nodes_of, payload, refl, root_of, some_same, subst, sym}
use Rattle.image_check.proofs.Common.{tile_of, ℕ, ◌++◌, ◌+◌, ◌∙◌, ◌∷◌, ◌≡◌}
use Rattle.std.proofs.Common.{Bool}
use Rattle.image_check.proofs.bytes.Members.{Mem, mem_left, mem_parts, mem_right}
use Rattle.image_check.proofs.claims.ReachedLinks.{AreClosed, Covers, field, good_for-IsGood}
use Rattle.image_check.proofs.claims.Fields.{tree_claims}
use mathlib.Core.Logic.{◌⊎◌, inl, inr}

-- ---- the links of a tree

-- the two subtrees of the node behind a link
record IsForked (m : Memory) (at : ℕ) (t : Tree) (n : ℕ) : Type 0 where
  red : Bool
  left : Tree
  right : Tree
  is : t ≡ fork red left n right
  left_tree : IsTree (cells_of m) (link_at m n) left
  right_tree : IsTree (cells_of m) (link_at m (n + 8)) right

forked : (m : Memory) (at : ℕ) (t : Tree) (n : ℕ) → IsTree (cells_of m) (link_at m at) t → link_at m at ≡ Some n
    → IsForked m at t n
forked m at leaf n w e = let r : link_at m at ≡ None = w.root in absurd (cc)
forked m at (fork red l k r) n w e =
    let root : link_at m at ≡ Some k = w.root in
    let same : k ≡ n = cc in
    let cell : cells_of m k ≡ record { left = root_of l; right = root_of r; red = red } = w.holds.0 in
    let left : link_at m k ≡ root_of l = ap (λ (c : Cell). c.left) cell in
    let right : link_at m (k + 8) ≡ root_of r = ap (λ (c : Cell). c.right) cell in
    record {
      red = red;
      left = l;
      right = r;
      is = ap (λ x. fork red l x r) same;
      left_tree = record { root = ap (link_at m) (sym same) ∙ left; holds = w.holds.1 };
      right_tree = record { root = ap (λ x. link_at m (x + 8)) (sym same) ∙ right; holds = w.holds.2 };
    }

-- a link of a tree all of whose links are among these fields
pub record IsLinkOf (m : Memory) (K : Field → Type 0) (at : ℕ) : Type 0 where
  pub tree : Tree
  pub linked : IsTree (cells_of m) (link_at m at) tree
  pub claimed : (f : Field) → Mem f (tree_claims at tree) → K f

-- such links are closed
pub links-closed : (m : Memory) (ts : List Tile) (K : Field → Type 0) → AreClosed (IsLinkOf m K) K m ts
links-closed m ts K = record {
  step = λ at t s e.
      let n : ℕ = payload t in
      let g = good_for-IsGood ts Node (link_at m at) t e in
      let f = forked m at s.tree n s.linked g.leads in
      let all : (x : Field) → Mem x (tree_claims n f.left ++ field at n ∷ tree_claims (n + 8) f.right) → K x =
      λ x k. s.claimed x (subst (λ u. Mem x (tree_claims at u)) (sym f.is) k) in (
        all (field at n) (mem_right (field at n) (tree_claims n f.left) (field at n ∷ tree_claims (n + 8) f.right)
            (inl refl)),
        record {
          tree = f.left;
          linked = f.left_tree;
          claimed = λ x k. all x (mem_left x (tree_claims n f.left) (field at n ∷ tree_claims (n + 8) f.right) k);
        },
        record {
          tree = f.right;
          linked = f.right_tree;
          claimed = λ x k. all x (mem_right x (tree_claims n f.left) (field at n ∷ tree_claims (n + 8) f.right)
              (inr k));
        },
      );
}

-- each node of the tree is a tile's
abbrev pub AreNodes : List Tile → List ℕ → Type 0
AreNodes ts ns = IsTrue (list_all (λ n. is_some (tile_of ts Node n)) ns)

-- a tile that passes the test exists
pub some-tile : (o : Option Tile) → IsTrue (is_some o) → (t : Tile) × (o ≡ Some t)
some-tile None h = absurd (false≢true h)
some-tile (Some t) h = (t, refl)

nodes-parts : (ts : List Tile) (xs : List ℕ) (n : ℕ) (ys : List ℕ) → AreNodes ts (xs ++ n ∷ ys)
    → AreNodes ts xs × IsTrue (is_some (tile_of ts Node n)) × AreNodes ts ys
nodes-parts ts [] n ys h =
    let p = and_parts (is_some (tile_of ts Node n)) (list_all (λ x. is_some (tile_of ts Node x)) ys) h in
    (refl, p.0, p.1)
nodes-parts ts (x ∷ xs) n ys h =
    let p = and_parts (is_some (tile_of ts Node x)) (list_all (λ y. is_some (tile_of ts Node y)) (xs ++ n ∷ ys)) h in
    let r = nodes-parts ts xs n ys p.1 in
    (and_from (is_some (tile_of ts Node x)) (list_all (λ y. is_some (tile_of ts Node y)) xs) p.0 r.0, r.1, r.2)

-- the links of a tree are followed if its root link is
pub tree-covered : (m : Memory) (ts : List Tile) (links : List ℕ) (fields : List Field)
    → Covers m ts [] links fields → (at : ℕ) (t : Tree) → IsTree (cells_of m) (link_at m at) t
    → AreNodes ts (nodes_of t)
    → ((u : Tile) → good_for ts Node (link_at m at) ≡ Some u → Mem (field at (payload u)) fields) → (f : Field)
    → Mem f (tree_claims at t) → Mem f fields
tree-covered m ts links fields c at leaf w h start f k = absurd k
tree-covered m ts links fields c at (fork red l n r) w h start f k =
    let parts = nodes-parts ts (nodes_of l) n (nodes_of r) h in
    let u = some-tile (tile_of ts Node n) parts.1 in
    let root : link_at m at ≡ Some n = w.root in
    let cell : cells_of m n ≡ record { left = root_of l; right = root_of r; red = red } = w.holds.0 in
    let left : link_at m n ≡ root_of l = ap (λ (x : Cell). x.left) cell in
    let right : link_at m (n + 8) ≡ root_of r = ap (λ (x : Cell). x.right) cell in
    let good : good_for ts Node (link_at m at) ≡ Some u.0 = ap (good_for ts Node) root ∙ u.1 in
    let leads = (good_for-IsGood ts Node (link_at m at) u.0 good).leads in
    let same : payload u.0 ≡ n = some_same (payload u.0) n (sym leads ∙ root) in
    let here : Mem (field at n) fields = subst (λ x. Mem (field at x) fields) same (start u.0 good) in
    elim (mem_parts f (tree_claims n l) (field at n ∷ tree_claims (n + 8) r) k) [
      | inl a ↦ tree-covered m ts links fields c n l (record { root = left; holds = w.holds.1 }) parts.0 (λ v g.
          followed-at v n (inl refl) g here) f a
      | inr (inl e) ↦ subst (λ x. Mem x fields) (sym e) here
      | inr (inr a) ↦ tree-covered m ts links fields c (n + 8) r (record { root = right; holds = w.holds.2 })
          parts.2 (λ v g. followed-at v (n + 8) (inr refl) g here) f a
    ]
  where
    followed-at : (v : Tile) (x : ℕ) → (x ≡ n) ⊎ (x ≡ n + 8) → good_for ts Node (link_at m x) ≡ Some v
        → Mem (field at n) fields → Mem (field x (payload v)) fields
    followed-at v x p g k = elim (c.nodes (field at n) k) [ inl a ↦ absurd a | inr a ↦ a x v p g ]
