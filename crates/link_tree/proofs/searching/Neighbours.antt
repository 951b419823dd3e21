-- The neighbours of a probe in an ordered list, and what a search notes of them on its way down a tree.
use Rattle.std.proofs.Common.{◌≡◌, ℕ, Bool, true, false, not, Option, Some, None, List, [], ◌∷◌, ◌++◌, nat_eq, refl}
use Rattle.std.proofs.Common.{sym, ap, subst, ◌∙◌, append_assoc, inl, inr}
use mathlib.Core.List.{reverse, reverse-cons}
use Rattle.std.specs.Prelude.{find, if◌then◌else◌}
use Rattle.std.specs.List.{last_or, list_all}
use Rattle.std.specs.Option.{option_or}
use Rattle.std.proofs.lemmas.Bool.{and_parts, cases_Bool, eq-eqb, eqb-true, false_from_ne_true, not-true}
use Rattle.std.proofs.lemmas.Bool.{not_from_false, not_from_true, or_cases, or_left, or_right, true≢false}
use Rattle.std.proofs.lemmas.List.{reverse-append}
use Rattle.std.proofs.lemmas.List.Folds.{find-append}
use Rattle.link_tree.specs.Tree.{Tree, leaf, fork, nodes_of, is_sorted}
use Rattle.link_tree.specs.Nodes.{first_not_before, is_in, last_before}
use Rattle.link_tree.specs.Searching.{noted}
use Rattle.link_tree.proofs.trees.OrderedLists.{all_at, all_from, rises_split}
use Rattle.link_tree.proofs.trees.Linked.{none_some, some_same}

-- if all nodes precede the probe, none is found
find_none : (before : ℕ → Bool) (ns : List ℕ) → list_all before ns ≡ true → first_not_before before ns ≡ None
find_none before [] a = refl
find_none before (n ∷ ns) a =
    let p = and_parts (before n) (list_all before ns) a in
    let e = not_from_true (before n) p.0 in
    rw e (find_none before ns p.1)

-- a node that is before the probe, like all in front of it: the first that is not stands after
pub first_not_before-right : (before : ℕ → Bool) (xs : List ℕ) (n : ℕ) (ys : List ℕ) → list_all before xs ≡ true
    → before n ≡ true → first_not_before before (xs ++ n ∷ ys) ≡ first_not_before before ys
first_not_before-right before xs n ys a b =
    let e = not_from_true (before n) b in
    let f = find_none before xs a in
    let g = find-append (λ m. not (before m)) xs (n ∷ ys) in
    g ∙ rw (f, e) refl

-- a node that is not before the probe: the first that is not stands in front, or is that node
pub first_not_before-left : (before : ℕ → Bool) (xs : List ℕ) (n : ℕ) (ys : List ℕ) → before n ≡ false
    → first_not_before before (xs ++ n ∷ ys) ≡ option_or (first_not_before before xs) (Some n)
first_not_before-left before xs n ys b =
    let e = not_from_false (before n) b in
    find-append (λ m. not (before m)) xs (n ∷ ys) ∙ rw e refl

pub or_some : (a : Option ℕ) (n : ℕ) (b : Option ℕ) → option_or (option_or a (Some n)) b ≡ option_or a (Some n)
or_some None n b = refl
or_some (Some m) n b = refl

-- a choice between a value and nothing is the value
pub or_none : (a : Option ℕ) → option_or a None ≡ a
or_none None = refl
or_none (Some m) = refl

-- the first node that does not stand before is one of the nodes
pub first_in : (before : ℕ → Bool) (ns : List ℕ) (x : ℕ) → first_not_before before ns ≡ Some x → is_in x ns ≡ true
first_in before [] x e = absurd (none_some x e)
first_in before (n ∷ ns) x e =
    elim (cases_Bool (before n)) [
      | inl k ↦ let f : first_not_before before ns ≡ Some x = rw k at e in or_right (nat_eq x n) (is_in x ns)
          (first_in before ns x f)
      | inr k ↦ let f : Some n ≡ Some x = rw k at e in or_left (nat_eq x n) (is_in x ns)
          (eq-eqb x n (sym (some_same n x f)))
    ]

-- a node of an ordered list is the first that does not precede it
pub first_itself : (lt : ℕ → ℕ → Bool) → ((n : ℕ) → lt n n ≡ false) → (ns : List ℕ) (x : ℕ) → is_sorted lt ns ≡ true
    → is_in x ns ≡ true → first_not_before (λ m. lt m x) ns ≡ Some x
first_itself lt irreflexive [] x r i = absurd (true≢false (sym i))
first_itself lt irreflexive (n ∷ ns) x r i =
    let two = and_parts (list_all (lt n) ns) (is_sorted lt ns) r in
    elim (or_cases (nat_eq x n) (is_in x ns) i) [
      | inl e ↦ let same : x ≡ n = eqb-true x n e in
          let f = not_from_false (lt n x) (subst (λ k. lt n k ≡ false) (sym same) (irreflexive n)) in
          rw f (some_here n x same)
      | inr k ↦ let e = not_from_true (lt n x) (all_at (lt n) ns x two.0 k) in
          rw e (first_itself lt irreflexive ns x two.1 k)
    ]
  where
    some_here : (n x : ℕ) → x ≡ n → Some n ≡ Some x
    some_here n x same = ap (λ (k : ℕ). let o : Option ℕ = Some k in o) (sym same)

-- ---- the last one

last_parts : (before : ℕ → Bool) (xs : List ℕ) (n : ℕ) (ys : List ℕ)
    → last_before before (xs ++ n ∷ ys) ≡ option_or (last_before before ys) (find before (n ∷ reverse xs))
last_parts before xs n ys =
    ap (find before) (reverse-append xs (n ∷ ys) ∙ ap (λ zs. zs ++ reverse xs) (reverse-cons n ys)
    ∙ append_assoc (reverse ys) (n ∷ []) (reverse xs)) ∙ find-append before (reverse ys) (n ∷ reverse xs)

-- if no node precedes the probe, none is found
last_none : (before : ℕ → Bool) (ns : List ℕ) → list_all (λ n. not (before n)) ns ≡ true → last_before before ns ≡ None
last_none before [] a = refl
last_none before (n ∷ ns) a =
    let p = and_parts (not (before n)) (list_all (λ m. not (before m)) ns) a in
    let e = not-true (before n) p.0 in
    let more = last_none before ns p.1 in
    last_parts before [] n ns ∙ rw (more, e) refl

last_found : (o : Option ℕ) (ns : List ℕ) → option_or (last_before (λ n. true) ns) o ≡ last_or o ns
last_found o [] = refl
last_found o (n ∷ ns) =
    ap (λ f. option_or f o) (last_parts (λ m. true) [] n ns) ∙ or_some (last_before (λ m. true) ns) n o
    ∙ last_found (Some n) ns

-- the last one of all
pub last_of_all : (ns : List ℕ) → last_before (λ n. true) ns ≡ last_or None ns
last_of_all ns = sym (or_none (last_before (λ n. true) ns)) ∙ last_found None ns

-- ---- what a search notes

module _ {lt : ℕ → ℕ → Bool} {before : ℕ → Bool} (agrees : (a b : ℕ) → lt a b ≡ true → before b ≡ true
    → before a ≡ true)
    {K : Type 0} (pass : K → ℕ → Bool → Bool → K) (node : K → Option ℕ) where
  -- the last node passed that does not stand before the probe is the first one of the tree
  first_noted : ((folded : K) (n : ℕ) (red b : Bool) → node (pass folded n red b) ≡ (if b then node folded else Some n))
      → (folded : K) (t : Tree) → is_sorted lt (nodes_of t) ≡ true
      → node (noted pass before folded t) ≡ option_or (first_not_before before (nodes_of t)) (node folded)
  first_noted says folded leaf o = refl
  first_noted says folded (fork red l n r) o =
      let a = nodes_of l in
      let b = nodes_of r in
      let sp = rises_split lt a n b o in
      elim (cases_Bool (before n)) [
        | inl e ↦
            let passed = all_from before a (λ m i. agrees m n (all_at (λ k. lt k n) a m sp.below i) e) in
            rw e (first_noted says (pass folded n red true) r sp.right
            ∙ ap (option_or (first_not_before before b)) (says folded n red true)
            ∙ ap (λ f. option_or f (node folded)) (sym (first_not_before-right before a n b passed e)))
        | inr e ↦ rw e (first_noted says (pass folded n red false) l sp.left
            ∙ ap (option_or (first_not_before before a)) (says folded n red false)
            ∙ sym (ap (λ f. option_or f (node folded)) (first_not_before-left before a n b e)
            ∙ or_some (first_not_before before a) n (node folded)))
      ]

  -- a search ends with the first node that is not before the probe
  pub first_from : ((folded : K) (n : ℕ) (red b : Bool) → node (pass folded n red b) ≡ (if b then node folded
      else Some n))
      → (start : K) (t : Tree) → is_sorted lt (nodes_of t) ≡ true → node start ≡ None
      → node (noted pass before start t) ≡ first_not_before before (nodes_of t)
  first_from says start t o e =
      first_noted says start t o ∙ ap (option_or (first_not_before before (nodes_of t))) e ∙ or_none _

  -- the last node passed that stands before it is the last one of the tree
  pub last_noted : ((folded : K) (n : ℕ) (red b : Bool) → node (pass folded n red b) ≡ (if b then Some n else
      node folded))
      → (folded : K) (t : Tree) → is_sorted lt (nodes_of t) ≡ true
      → node (noted pass before folded t) ≡ option_or (last_before before (nodes_of t)) (node folded)
  last_noted says folded leaf o = refl
  last_noted says folded (fork red l n r) o =
      let a = nodes_of l in
      let b = nodes_of r in
      let sp = rises_split lt a n b o in
      let parts = last_parts before a n b in
      elim (cases_Bool (before n)) [
        | inl e ↦
            let here = rw e at parts in
            rw e (last_noted says (pass folded n red true) r sp.right
            ∙ ap (option_or (last_before before b)) (says folded n red true)
            ∙ sym (ap (λ f. option_or f (node folded)) here ∙ or_some (last_before before b) n (node folded)))
        | inr e ↦
            let behind = last_none before b (all_from (λ m. not (before m)) b (λ m i. not_from_false (before m)
            (false_from_ne_true (before m)
            (λ k. true≢false (sym (agrees n m (all_at (lt n) b m sp.above i) k) ∙ e))))) in
            let here = rw (e, behind) at parts in
            rw e (last_noted says (pass folded n red false) l sp.left
            ∙ ap (option_or (last_before before a)) (says folded n red false)
            ∙ ap (λ f. option_or f (node folded)) (sym here))
      ]
