-- A tree that is read off is the tree there.
use Rattle.std.proofs.Common.{◌≡◌, ℕ, zero, suc, ◌≤◌, Bool, true, false, ◌&&◌, Option, Some, None, ◌∷◌, refl, sym, ap}
use Rattle.std.proofs.Common.{◌∙◌, arith, inl, inr}
use Rattle.std.specs.List.{list_all}
use Rattle.std.specs.Prelude.{◌↔◌}
use Rattle.std.proofs.lemmas.Bool.{false≢true, and_parts, and_from, cases_Bool, eqb-true}
use Rattle.std.proofs.lemmas.Option.{none-some, same_Some}
use Rattle.std.proofs.lemmas.List.Folds.{list_all-append}
use Rattle.link_tree.specs.Tree.{Cell, Tree, leaf, fork, nodes_of, IsTree, height, joined, tree_from, left_blacks}
use Rattle.link_tree.specs.Tree.{is_red_black, IsRedBlack, ReadsOff, has_black_root, has_no_red_pair, has_black_height}
use Rattle.link_tree.proofs.trees.Linked.{close_tree, no_tree, open_tree}

-- ---- trees that are read off

record IsJoined (n : ℕ) (red : Bool) (a b : Option Tree) (t : Tree) : Type 0 where
  left : Tree
  right : Tree
  is_left : a ≡ Some left
  is_right : b ≡ Some right
  is : t ≡ fork red left n right

joined_is : (n : ℕ) (red : Bool) (a b : Option Tree) (t : Tree) → joined n red a b ≡ Some t → IsJoined n red a b t
joined_is n red None b t e = absurd (none-some t e)
joined_is n red (Some l) None t e = absurd (none-some t e)
joined_is n red (Some l) (Some r) t e =
    record { left = l; right = r; is_left = refl; is_right = refl; is = sym (same_Some (fork red l n r) t e) }

all_fork : (good : ℕ → Bool) (red : Bool) (l : Tree) (n : ℕ) (r : Tree) → list_all good (nodes_of l) ≡ true
    → good n ≡ true → list_all good (nodes_of r) ≡ true → list_all good (nodes_of (fork red l n r)) ≡ true
all_fork good red l n r a b c = list_all-append good (nodes_of l) (n ∷ nodes_of r)
    ∙ and_from (list_all good (nodes_of l)) (good n && list_all good (nodes_of r)) a
    (and_from (good n) (list_all good (nodes_of r)) b c)

sound : (depth : ℕ) (good : ℕ → Bool) (h : ℕ → Cell) (link : Option ℕ) (t : Tree)
    → tree_from depth good h link ≡ Some t → IsTree h link t × (list_all good (nodes_of t) ≡ true)
sound zero good h None t e =
    let is = same_Some leaf t e in
    rw (← is) (record { root = refl; holds = tt }, refl)
sound zero good h (Some n) t e = absurd (none-some t e)
sound (suc depth) good h None t e =
    let is = same_Some leaf t e in
    rw (← is) (record { root = refl; holds = tt }, refl)
sound (suc depth) good h (Some n) t e =
    elim (cases_Bool (good n)) [
      | inl k ↦
          let e' : joined n (h n).red (tree_from depth good h (h n).left) (tree_from depth good h (h n).right) ≡ Some
          t = rw k at e in
          let j = joined_is n (h n).red (tree_from depth good h (h n).left) (tree_from depth good h (h n).right) t e' in
          let l = sound depth good h (h n).left j.left j.is_left in
          let r = sound depth good h (h n).right j.right j.is_right in
          rw j.is (
            close_tree h n (h n).red j.left j.right (h n).left (h n).right refl l.0 r.0,
            all_fork good (h n).red j.left n j.right l.1 k r.1,
          )
      | inr k ↦
          let e' : None ≡ Some t = rw k at e in
          absurd (none-some t e')
    ]

whole : (depth : ℕ) (good : ℕ → Bool) (h : ℕ → Cell) (link : Option ℕ) (t : Tree) → IsTree h link t
    → list_all good (nodes_of t) ≡ true → height t ≤ depth → tree_from depth good h link ≡ Some t
whole zero good h None t w a low = ap Some (sym (no_tree h t w))
whole zero good h (Some n) t w a low =
    let o = open_tree h n t w in
    let low' = rw o.is at low in
    absurd (omega (arith, low'))
whole (suc depth) good h None t w a low = ap Some (sym (no_tree h t w))
whole (suc depth) good h (Some n) t w a low =
    let o = open_tree h n t w in
    let low' = rw o.is at low in
    let a' = rw o.is at a in
    let p = and_parts (list_all good (nodes_of o.left)) (good n && list_all good (nodes_of o.right))
    (sym (list_all-append good (nodes_of o.left) (n ∷ nodes_of o.right)) ∙ a') in
    let q = and_parts (good n) (list_all good (nodes_of o.right)) p.1 in
    let el = whole depth good h (h n).left o.left o.left_tree p.0 (omega (arith, low')) in
    let er = whole depth good h (h n).right o.right o.right_tree q.1 (omega (arith, low')) in
    let k = q.0 in
    rw (k, el, er) (ap Some (sym o.is))

-- a tree has one black height, that of its leftmost path
pub left_blacks_is : (t : Tree) (b : ℕ) → has_black_height t b ≡ true → left_blacks t ≡ b
left_blacks_is leaf b e = sym (eqb-true b 0 e)
left_blacks_is (fork true l n r) b e = left_blacks_is l b (and_parts (has_black_height l b) (has_black_height r b) e).0
left_blacks_is (fork false l n r) zero e = absurd (false≢true e)
left_blacks_is (fork false l n r) (suc b) e =
    ap suc (left_blacks_is l b (and_parts (has_black_height l b) (has_black_height r b) e).0)

red_black : (t : Tree) → (is_red_black t ≡ true) ↔ IsRedBlack t
red_black t = (
  λ e.
      let p = and_parts (has_black_root t && has_no_red_pair t) (has_black_height t (left_blacks t)) e in
      let q = and_parts (has_black_root t) (has_no_red_pair t) p.0 in
      record { root = q.0; no_red_pair = q.1; black = (left_blacks t, p.1) },
  λ k.
      let b = k.black.0 in
      let same = left_blacks_is t b k.black.1 in
      and_from (has_black_root t && has_no_red_pair t) (has_black_height t (left_blacks t))
      (and_from (has_black_root t) (has_no_red_pair t) k.root k.no_red_pair) (ap (has_black_height t) same ∙ k.black.1),
)

-- law: the tree that is read off is the tree there
pub reads_off : ReadsOff
reads_off = record { sound = sound; whole = whole; red_black = red_black }
