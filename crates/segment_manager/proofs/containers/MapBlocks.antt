-- The blocks of an object and of its map's pairs: each is in use once, and the other blocks stay if pairs are put or
-- erased.
use Rattle.link_tree.specs.Nodes.{is_in}
use Rattle.best_fit.specs.Fit.{insert}
use Rattle.seg_types.specs.ScalarLaws.{total}
use Rattle.segment_manager.proofs.Common.{AllByRecursion, Bool, Directory, Extent, IsTrue, List, LiveSet, None}
use Rattle.segment_manager.proofs.Common.{NumberPair, Object, Option, Some, [], ap, arith, extents_of, false, find}
use Rattle.segment_manager.proofs.Common.{handle, if◌then◌else◌, int_lt, is_key, is_proper, live, map, ne_eqb}
use Rattle.segment_manager.proofs.Common.{nodes_of_pairs, not, pair_at, put_pair, refl, remove_pair, subst, sym, true}
use Rattle.segment_manager.proofs.Common.{value_extents, ℕ, ℤ, ◌++◌, ◌==◌, ◌||◌, ◌∙◌, ◌∷◌, ◌≡◌, ◌≢◌}
use Rattle.segment_manager.proofs.directory.LiveSet.{Apart, Differs, IsFoundIn, IsFresh, IsIn, Rising, all_of-inserted}
use Rattle.segment_manager.proofs.directory.LiveSet.{found-each, inserted, live-rises, live-split, rising-insert}
use Rattle.segment_manager.proofs.directory.LiveSet.{rising-inserted}
use Rattle.segment_manager.proofs.objects.Regrown.{rest, with_extents}

-- ---- lists that are apart

apart-first : (ys : List Extent) (x : Extent) (xs : List Extent) → Apart ys (x ∷ xs) → Differs x ys
apart-first [] x xs a = tt
apart-first (y ∷ ys) x xs a = ((λ e. a.0.0 (sym e)), apart-first ys x xs a.1)

apart-others : (ys : List Extent) (x : Extent) (xs : List Extent) → Apart ys (x ∷ xs) → Apart ys xs
apart-others [] x xs a = tt
apart-others (y ∷ ys) x xs a = (a.0.1, apart-others ys x xs a.1)

apart-flip : (ys xs : List Extent) → Apart ys xs → Apart xs ys
apart-flip ys [] a = tt
apart-flip ys (x ∷ xs) a = (apart-first ys x xs a, apart-flip ys xs (apart-others ys x xs a))

-- ---- the blocks of an object

-- each of its blocks and of the others' is in use, once
pub record BlocksInUse (d : Directory) (o : Object) : Type 0 where
  pub own : IsFoundIn (live d).extents o.extent
  pub value : AllByRecursion (IsFoundIn (live d).extents) (value_extents o.value)
  pub beside : AllByRecursion (IsFoundIn (live d).extents) (rest d o)
  pub own_apart : Differs o.extent (value_extents o.value)
  pub beside_apart : Apart (rest d o) (value_extents o.value)

-- the blocks of an object are in use
pub blocks-in_use : (d : Directory) (o : Object) → IsTrue (is_proper (live d)) → IsIn d o → BlocksInUse d o
blocks-in_use d o p f =
    let xs : List Extent = value_extents o.value in
    let e : live d ≡ with_extents d o (extents_of o) = live-split d o f p in
    let up : Rising 128 (insert o.extent (inserted xs (rest d o))) = live-rises (with_extents d o (extents_of o))
    (subst (λ l. IsTrue (is_proper l)) e p) in
    let all : AllByRecursion (IsFoundIn (live d).extents) (inserted (extents_of o) (rest d o)) =
    subst (λ (l : LiveSet). AllByRecursion (IsFoundIn (live d).extents) l.extents) e
    (found-each 128 (live d).extents (live-rises (live d) p)) in
    let both = all_of-inserted (IsFoundIn (live d).extents) (extents_of o) (rest d o) all in
    let fresh : IsFresh 128 o.extent (inserted xs (rest d o)) = rising-insert 128 o.extent (inserted xs (rest d o)) up
    in
    record {
      own = both.0.0;
      value = both.0.1;
      beside = both.1;
      own_apart = (all_of-inserted (λ (y : Extent). o.extent.offset ≢ y.offset) xs (rest d o) fresh.differs).0;
      beside_apart = apart-flip xs (rest d o) (rising-inserted 128 xs (rest d o) fresh.rest).1;
    }

-- ---- the blocks of pairs

-- the blocks of a list of pairs
abbrev pub nodes : List NumberPair → List Extent
nodes ps = map (λ (p : NumberPair). p.node) ps

-- a block that differs from all of them is not among them
pub no-node : (x : Extent) (ps : List NumberPair) → Differs x (nodes ps) → is_in (handle x) (nodes_of_pairs ps) ≡ false
no-node x [] n = refl
no-node x (p ∷ ps) n = ap (λ (b : Bool). b || is_in (handle x) (nodes_of_pairs ps))
    (ne_eqb (handle x) (handle p.node) (λ e. n.0 (omega (arith, e)))) ∙ no-node x ps n.1

-- the nodes before a pair, and after it
pub record PartedNodes (all more : List Extent) (x : Extent) : Type 0 where
  pub front : List Extent
  pub back : List Extent
  pub others : all ≡ front ++ back
  pub whole : more ≡ front ++ x ∷ back

behind-one : (y : Extent) (all more : List Extent) (x : Extent) → PartedNodes all more x
    → PartedNodes (y ∷ all) (y ∷ more) x
behind-one y all more x r = record
    { front = y ∷ r.front; back = r.back; others = ap (λ ys. y ∷ ys) r.others; whole = ap (λ ys. y ∷ ys) r.whole }

first-of : (x : Extent) (all : List Extent) → PartedNodes all (x ∷ all) x
first-of x all = record { front = []; back = all; others = refl; whole = refl }

absent-here : (b : Bool) (q : NumberPair) (r : Option NumberPair) → (if b then Some q else r) ≡ None → (b ≡ false)
    × (r ≡ None)
absent-here true q r e = let none : Option NumberPair = None in let f : Some q ≡ none = e in absurd (cc)
absent-here false q r e = (refl, e)

-- a pair whose key is new is inserted among the others
pub put-parted : (p : NumberPair) (ps : List NumberPair) → pair_at int_lt ps p.key ≡ None
    → PartedNodes (nodes ps) (nodes (put_pair int_lt p ps)) p.node
put-parted p [] e = first-of p.node []
put-parted p (q ∷ qs) e =
    let absent = absent-here (is_key int_lt p.key q) q (pair_at int_lt qs p.key) e in
    chosen (int_lt p.key q.key) (int_lt q.key p.key) absent.0 (put-parted p qs absent.1)
  where
    chosen : (a b : Bool) → not (a || b) ≡ false → PartedNodes (nodes qs) (nodes (put_pair int_lt p qs)) p.node
        → PartedNodes (nodes (q ∷ qs))
        (nodes (if a then p ∷ q ∷ qs else if b then q ∷ put_pair int_lt p qs else p ∷ qs)) p.node
    chosen true b n r = first-of p.node (nodes (q ∷ qs))
    chosen false true n r = behind-one q.node (nodes qs) (nodes (put_pair int_lt p qs)) p.node r
    chosen false false n r = absurd (cc)

-- a pair that is found is removed from among the others
pub removed-parted : (x : ℤ) (p : NumberPair) (ps : List NumberPair) → pair_at int_lt ps x ≡ Some p
    → PartedNodes (nodes (remove_pair int_lt ps x)) (nodes ps) p.node
removed-parted x p [] e = let none : Option NumberPair = None in let f : none ≡ Some p = e in absurd (cc)
removed-parted x p (q ∷ qs) e = chosen (is_key int_lt x q) e (removed-parted x p qs)
  where
    chosen : (b : Bool) → (if b then Some q else pair_at int_lt qs x) ≡ Some p
        → (pair_at int_lt qs x ≡ Some p → PartedNodes (nodes (remove_pair int_lt qs x)) (nodes qs) p.node)
        → PartedNodes (nodes (if b then qs else q ∷ remove_pair int_lt qs x)) (nodes (q ∷ qs)) p.node
    chosen true f r = let same : q ≡ p = cc in subst (λ (y : Extent). PartedNodes (nodes qs) (q.node ∷ nodes qs) y)
        (ap (λ (s : NumberPair). s.node) same) (first-of q.node (nodes qs))
    chosen false f r = behind-one q.node (nodes (remove_pair int_lt qs x)) (nodes qs) p.node (r f)

-- the pair that is found has the key
pub found-key : (x : ℤ) (p : NumberPair) (ps : List NumberPair) → pair_at int_lt ps x ≡ Some p → p.key ≡ x
found-key x p [] e = let none : Option NumberPair = None in let f : none ≡ Some p = e in absurd (cc)
found-key x p (q ∷ qs) e = chosen (int_lt x q.key) (int_lt q.key x) refl refl e (found-key x p qs)
  where
    chosen : (a b : Bool) → int_lt x q.key ≡ a → int_lt q.key x ≡ b → (if not (a || b) then Some q else pair_at int_lt
        qs x) ≡ Some p → (pair_at int_lt qs x ≡ Some p → p.key ≡ x) → p.key ≡ x
    chosen true b f g h r = r h
    chosen false true f g h r = r h
    chosen false false f g h r = let same : q ≡ p = cc in ap (λ (s : NumberPair). s.key) (sym same) ∙ total q.key x g f

-- two lists of blocks in use that have the same handles are one
pub one-by_handle : (zs : List Extent) (xs ys : List Extent) → map handle xs ≡ map handle ys
    → AllByRecursion (IsFoundIn zs) xs → AllByRecursion (IsFoundIn zs) ys → xs ≡ ys
one-by_handle zs [] [] e a b = refl
one-by_handle zs [] (y ∷ ys) e a b = absurd (cc)
one-by_handle zs (x ∷ xs) [] e a b = absurd (cc)
one-by_handle zs (x ∷ xs) (y ∷ ys) e a b =
    let at : handle x ≡ handle y = cc in let others : map handle xs ≡ map handle ys = cc in
    let one : Some x ≡ Some y = sym a.0 ∙ ap (λ (h : ℕ). find (λ (z : Extent). handle z == h) zs) at ∙ b.0 in
    let same : x ≡ y = cc in
    λ i. same i ∷ one-by_handle zs xs ys others a.1 b.1 i
