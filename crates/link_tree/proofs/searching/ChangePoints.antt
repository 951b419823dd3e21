-- The state of a search at the end of its path tells where an insertion or a removal begins.
use Rattle.std.proofs.Common.{◌≡◌, ℕ, Bool, true, false, not, Option, Some, None, nat_eq, refl, sym, ap, ◌∙◌, inl, inr}
use Rattle.std.specs.Prelude.{IfSome, if◌then◌else◌}
use Rattle.std.specs.Option.{option_or}
use Rattle.std.proofs.lemmas.Bool.{cases_Bool, eq-eqb, false_from_ne_true, ne_eqb, true≢false}
use Rattle.std.proofs.lemmas.Option.{none-some}
use Rattle.link_tree.specs.Tree.{Tree, leaf, fork, nodes_of, has_black_root, is_sorted}
use Rattle.link_tree.specs.Nodes.{first_not_before, is_in}
use Rattle.link_tree.specs.Searching.{noted}
use Rattle.link_tree.specs.Ways.{insert_point_of, entry_over, remove_point_of, exit_over, followed, passed}
use Rattle.link_tree.specs.declared.change_points.Followed.{Followed}
use Rattle.link_tree.specs.declared.change_points.Passed.{Passed}
use Rattle.link_tree.proofs.trees.OrderedLists.{IsStrict, Splits, all_at, all_from, in_left, in_middle, in_right}
use Rattle.link_tree.proofs.trees.OrderedLists.{rises_split}
use Rattle.link_tree.proofs.searching.Neighbours.{first_from, first_in, first_not_before-left, first_not_before-right}
use Rattle.link_tree.proofs.searching.Neighbours.{or_none}

either_none : (b : Bool) (a : Option ℕ) → option_or a (if b then None else None) ≡ a
either_none true a = or_none a
either_none false a = or_none a

-- ---- where an insertion begins

-- below the node that was passed last, or with what was noted above it
abbrev entry_with : Passed → Tree → Option ℕ → Option ℕ
entry_with folded t below = option_or below (if has_black_root t then option_or folded.above folded.entry else
    folded.entry)

entry_step : (folded : Passed) (red : Bool) (l : Tree) (n : ℕ) (r next : Tree) (below : Option ℕ) (before : Bool)
    → entry_with (passed folded n red before) next below ≡ entry_with folded (fork red l n r)
    (entry_over red n next below)
entry_step folded red l n r next (Some m) before = refl
entry_step folded true l n r next None before =
    elim (cases_Bool (has_black_root next)) [ inl k ↦ rw k refl | inr k ↦ rw k refl ]
entry_step folded false l n r next None before =
    elim (cases_Bool (has_black_root next)) [ inl k ↦ rw k refl | inr k ↦ rw k refl ]

entry_noted : (before : ℕ → Bool) (folded : Passed) (t : Tree)
    → option_or (noted passed before folded t).above (noted passed before folded t).entry
    ≡ entry_with folded t (insert_point_of before t)
entry_noted before folded leaf = refl
entry_noted before folded (fork red l n r) =
    elim (cases_Bool (before n)) [
      | inl e ↦ rw e (entry_noted before (passed folded n red true) r
          ∙ entry_step folded red l n r r (insert_point_of before r) true)
      | inr e ↦ rw e (entry_noted before (passed folded n red false) l
          ∙ entry_step folded red l n r l (insert_point_of before l) false)
    ]

-- the state of a search for an insertion is the point at which it begins
pub way_in : (before : ℕ → Bool) (folded : Passed) (t : Tree)
    → folded ≡ noted passed before (record { above = None; entry = None }) t
    → option_or folded.above folded.entry ≡ insert_point_of before t
way_in before folded t e =
    let start : Passed = record { above = None; entry = None } in
    rw e (entry_noted before start t ∙ either_none (has_black_root t) (insert_point_of before t))

-- ---- where a removal begins

-- the exit of the node that was found in a tree, or of the last one that was found above it
abbrev exit_with : (ℕ → ℕ → Bool) → Followed → Tree → Option ℕ → Option ℕ
exit_with lt folded t None = folded.of_node
exit_with lt folded t (Some x) =
    option_or (remove_point_of lt x t) (if has_black_root t then folded.exit else folded.above)

exit_step : (folded : Followed) (red : Bool) (n : ℕ) (next : Tree) (below : Option ℕ)
    → option_or below (if has_black_root next then (if red then folded.above else folded.exit) else Some n)
    ≡ option_or (exit_over n next below) (if not red then folded.exit else folded.above)
exit_step folded red n next (Some m) = refl
exit_step folded true n next None = elim (cases_Bool (has_black_root next)) [ inl k ↦ rw k refl | inr k ↦ rw k refl ]
exit_step folded false n next None = elim (cases_Bool (has_black_root next)) [ inl k ↦ rw k refl | inr k ↦ rw k refl ]

module _ {lt : ℕ → ℕ → Bool} (strict : IsStrict lt) (before : ℕ → Bool) where
  exit_right : (folded : Followed) (red : Bool) (l : Tree) (n : ℕ) (r : Tree) → Splits lt (nodes_of l) n (nodes_of r)
      → (o : Option ℕ) → first_not_before before (nodes_of r) ≡ o
      → exit_with lt (followed folded n red true) r o ≡ exit_with lt folded (fork red l n r) o
  exit_right folded red l n r sp None e = refl
  exit_right folded red l n r sp (Some x) e =
      let k : lt n x ≡ true = all_at (lt n) (nodes_of r) x sp.above (first_in before (nodes_of r) x e) in
      let d : nat_eq n x ≡ false = ne_eqb n x (λ q. true≢false (sym k ∙ rw q (strict.irreflexive x))) in
      let a : lt x n ≡ false = false_from_ne_true (lt x n)
      (λ i. true≢false (sym (strict.transitive n x n k i) ∙ strict.irreflexive n)) in
      rw (d, a) (exit_step folded red n r (remove_point_of lt x r))

  exit_left : (folded : Followed) (red : Bool) (l : Tree) (n : ℕ) (r : Tree) → Splits lt (nodes_of l) n (nodes_of r)
      → (o : Option ℕ) → first_not_before before (nodes_of l) ≡ o
      → exit_with lt (followed folded n red false) l o ≡ exit_with lt folded (fork red l n r) (option_or o (Some n))
  exit_left folded true l n r sp None e = let d = eq-eqb n n refl in rw d refl
  exit_left folded false l n r sp None e = let d = eq-eqb n n refl in rw d refl
  exit_left folded red l n r sp (Some x) e =
      let k : lt x n ≡ true = all_at (λ m. lt m n) (nodes_of l) x sp.below (first_in before (nodes_of l) x e) in
      let d : nat_eq n x ≡ false = ne_eqb n x (λ q. true≢false (sym k ∙ rw q (strict.irreflexive x))) in
      rw (d, k) (exit_step folded red n l (remove_point_of lt x l))

  module _ (agrees : (a b : ℕ) → lt a b ≡ true → before b ≡ true → before a ≡ true) where
    exit_noted : (folded : Followed) (t : Tree) → is_sorted lt (nodes_of t) ≡ true
        → (noted followed before folded t).of_node ≡ exit_with lt folded t (first_not_before before (nodes_of t))
    exit_noted folded leaf o = refl
    exit_noted folded (fork red l n r) o =
        let a = nodes_of l in
        let b = nodes_of r in
        let sp = rises_split lt a n b o in
        elim (cases_Bool (before n)) [
          | inl e ↦
              let passed = all_from before a (λ m i. agrees m n (all_at (λ k. lt k n) a m sp.below i) e) in
              rw e (exit_noted (followed folded n red true) r sp.right
              ∙ exit_right folded red l n r sp (first_not_before before b) refl
              ∙ ap (exit_with lt folded (fork red l n r)) (sym (first_not_before-right before a n b passed e)))
          | inr e ↦ rw e (exit_noted (followed folded n red false) l sp.left
              ∙ exit_left folded red l n r sp (first_not_before before a) refl
              ∙ ap (exit_with lt folded (fork red l n r)) (sym (first_not_before-left before a n b e)))
        ]

    exit_found : (t : Tree) (exit found : Option ℕ)
        → exit ≡ exit_with lt (record { node = None; above = None; exit = None; of_node = None }) t found
        → IfSome found (λ x. exit ≡ remove_point_of lt x t)
    exit_found t exit None e = tt
    exit_found t exit (Some x) e = e ∙ either_none (has_black_root t) (remove_point_of lt x t)

    -- the exit if no node is found
    exit_none : (t : Tree) (exit found : Option ℕ)
        → exit ≡ exit_with lt (record { node = None; above = None; exit = None; of_node = None }) t found
        → found ≡ None → exit ≡ None
    exit_none t exit None e none = e
    exit_none t exit (Some x) e none = absurd (none-some x (sym none))

    -- the state of a search for a removal is the point at which it begins
    pub way_out : (folded : Followed) (t : Tree) → is_sorted lt (nodes_of t) ≡ true
        → folded ≡ noted followed before (record { node = None; above = None; exit = None; of_node = None }) t
        → (folded.node ≡ first_not_before before (nodes_of t))
        × IfSome folded.node (λ x. folded.of_node ≡ remove_point_of lt x t)
        × (folded.node ≡ None → folded.of_node ≡ None)
    way_out folded t o e =
        let start : Followed = record { node = None; above = None; exit = None; of_node = None } in
        let first : folded.node ≡ first_not_before before (nodes_of t) = ap (λ (m : Followed). m.node) e
        ∙ first_from agrees followed (λ (m : Followed). m.node) (λ m n red b. refl) start t o refl in
        let exit : folded.of_node ≡ exit_with lt start t folded.node = ap (λ (m : Followed). m.of_node) e
        ∙ exit_noted start t o ∙ ap (exit_with lt start t) (sym first) in
        (first, exit_found t folded.of_node folded.node exit, exit_none t folded.of_node folded.node exit)

-- ---- searches that are the same

-- the entry of an insertion depends only on the nodes of the tree
pub entry_same : (f g : ℕ → Bool) (t : Tree) → ((m : ℕ) → is_in m (nodes_of t) ≡ true → f m ≡ g m)
    → insert_point_of f t ≡ insert_point_of g t
entry_same f g leaf same = refl
entry_same f g (fork red l n r) same =
    let here = same n (in_middle (nodes_of l) n (nodes_of r)) in
    let left = entry_same f g l (λ m i. same m (in_left m (nodes_of l) n (nodes_of r) i)) in
    let right = entry_same f g r (λ m i. same m (in_right m (nodes_of l) n (nodes_of r) i)) in
    rw (here, left, right) refl
