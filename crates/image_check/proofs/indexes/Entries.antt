-- The entries of an index, numbers that differ, and objects in an order.
use Rattle.image_check.proofs.Common.{AllByRecursion, AreIndexEntries, BackingArray, Class, Extent, Index, IsRanked}
use Rattle.image_check.proofs.Common.{IsTrue, List, Memory, None, Option, Some, [], and_from, and_parts, ap}
use Rattle.image_check.proofs.Common.{are_distinct, arith, entries, eqb-true, false, false≢true, filter, flat_map}
use Rattle.image_check.proofs.Common.{handle, has_backing, is_among, is_class, leb-true, length, link_at, map, nat_le}
use Rattle.image_check.proofs.Common.{ne_eqb, not, not_from_false, option_to_list, ordered, range_with_len, refl}
use Rattle.image_check.proofs.Common.{rises_from, subst, sym, targets, true, ℕ, ◌*◌, ◌++◌, ◌+◌, ◌==◌, ◌∙◌, ◌∷◌, ◌≡◌}
use Rattle.image_check.proofs.Common.{◌≤◌}
use Rattle.std.proofs.Common.{Bool}
use Rattle.std.specs.Prelude.{fold, option_map}
use Rattle.seg_index.specs.Index.{AreLinksTo, IsIndexAt}
use Rattle.segment_manager.specs.Directory.{Object, insert_by}
use Rattle.segment_manager.proofs.Laws.{after, all-ordered, all_of-insert_by, before}
use Rattle.image_check.proofs.bytes.Members.{Kept, Mem, all_mem, list_any_false, mem_all, mem_filter, mem_of_filter}
use Rattle.image_check.proofs.bytes.Members.{mem_parts}
use Rattle.image_check.proofs.read_off.Values.{nothing-left}
use mathlib.Core.Logic.{inl, inr}

-- ---- the entries of an index

links-range : (m : Memory) (at j : ℕ) (hs : List ℕ) → AreLinksTo m (at + 8 * j) hs
    → map (λ i. link_at m (at + 8 * i)) (range_with_len j (length hs)) ≡ map Some hs
links-range m at j [] h = refl
links-range m at j (x ∷ hs) h =
    let first = h.0 in
    let place : at + 8 * j + 8 ≡ at + 8 * (j + 1) = omega arith in
    let rest = links-range m at (j + 1) hs (subst (λ a. AreLinksTo m a hs) place h.1) in
    λ i. first i ∷ rest i

-- the links of an index in its block, or none without a block
abbrev pub entries_in : Memory → ℕ → Option ℕ → List (Option ℕ)
entries_in m n link = elim link [ None ↦ [] | Some block ↦ map (λ i. link_at m (block + 8 * i)) (range_with_len 0 n) ]

entries-if : (m : Memory) (capacity : ℕ) (e : Option Extent) (hs : List ℕ)
    → IsTrue (has_backing Index 8 (record { capacity = capacity; extent = e })) → length hs ≤ capacity
    → AreIndexEntries m (record { capacity = capacity; extent = e }) hs
    → entries_in m (length hs) (option_map handle e) ≡ map Some hs
entries-if m capacity None hs h l s =
    let none = eqb-true capacity 0 h in
    sym (ap (map Some) (nothing-left hs (omega arith)))
entries-if m capacity (Some x) hs h l s =
    let place : handle x ≡ handle x + 8 * 0 = omega arith in
    links-range m (handle x) 0 hs (subst (λ a. AreLinksTo m a hs) place s)

-- the entries of an index are links to its handles
pub entries-are : (m : Memory) (at : ℕ) (t : BackingArray) (hs : List ℕ) → IsTrue (has_backing Index 8 t)
    → length hs ≤ t.capacity → IsIndexAt m at t hs → entries m at ≡ map Some hs
entries-are m at t hs h l i =
    let link = i.link in
    let count = i.count in
    (λ j. entries_in m (count j) (link j)) ∙ entries-if m t.capacity t.extent hs h l i.entries

all-targets : (hs : List ℕ) → flat_map option_to_list (map Some hs) ≡ hs
all-targets [] = refl
all-targets (x ∷ hs) = ap (λ ys. x ∷ ys) (all-targets hs)

-- and these are their targets
pub targets-are : (m : Memory) (at : ℕ) (t : BackingArray) (hs : List ℕ) → IsTrue (has_backing Index 8 t)
    → length hs ≤ t.capacity → IsIndexAt m at t hs → targets m at ≡ hs
targets-are m at t hs h l i = ap (flat_map option_to_list) (entries-are m at t hs h l i) ∙ all-targets hs

-- ---- numbers that differ, each two

-- no number is in the list twice
abbrev pub Distinct : List ℕ → Type 0
Distinct [] = Unit {0}
Distinct (x ∷ xs) = ((y : ℕ) → Mem y xs → x ≡ y → ⊥) × Distinct xs

-- two lists without a number twice, and with none in common, form a list without a number twice
pub distinct-append : (xs ys : List ℕ) → Distinct xs → Distinct ys → ((x y : ℕ) → Mem x xs → Mem y ys → x ≡ y → ⊥)
    → Distinct (xs ++ ys)
distinct-append [] ys d e f = e
distinct-append (x ∷ xs) ys d e f = (
  λ y k g. elim (mem_parts y xs ys k) [ inl a ↦ d.0 y a g | inr a ↦ f x y (inl refl) a g ],
  distinct-append xs ys d.1 e (λ z y k l. f z y (inr k) l),
)

-- a list without a number twice passes the test
pub distinct-passes : (xs : List ℕ) → Distinct xs → IsTrue (are_distinct xs)
distinct-passes [] d = refl
distinct-passes (x ∷ xs) d =
    and_from (not (is_among xs x)) (are_distinct xs)
    (not_from_false (is_among xs x) (list_any_false (λ y. x == y) xs (λ y k. ne_eqb x y (d.0 y k))))
    (distinct-passes xs d.1)

-- ---- objects in an order

all_of-fold : (P : Object → Type 0) (lt : Object → Object → Bool) (acc os : List Object)
    → AllByRecursion P (fold (λ os o. insert_by lt o os) acc os) → AllByRecursion P acc × AllByRecursion P os
all_of-fold P lt acc [] h = (h, tt)
all_of-fold P lt acc (o ∷ os) h =
    let r = all_of-fold P lt (insert_by lt o acc) os h in
    let q = all_of-insert_by P lt o acc r.0 in
    (q.1, (q.0, r.1))

-- an object of the class is in the ordered list
pub mem-ordered : (c : Class) (lt : Object → Object → Bool) (os : List Object) (o : Object) → Mem o os
    → IsTrue (is_class c o) → Mem o (ordered c lt os)
mem-ordered c lt os o h e =
    let P : Object → Type 0 = λ p. Mem p (ordered c lt os) in
    mem_all P (filter (is_class c) os) o
    (all_of-fold P lt [] (filter (is_class c) os) (all_mem P (ordered c lt os) (λ p k. k))).1
    (mem_filter (is_class c) o os h e)

-- and each element of the ordered list is an object of the class
pub mem-of-ordered : (c : Class) (lt : Object → Object → Bool) (os : List Object) (o : Object)
    → Mem o (ordered c lt os) → Kept (is_class c) os o
mem-of-ordered c lt os o h =
    let P : Object → Type 0 = λ p. Mem p (filter (is_class c) os) in
    mem_of_filter (is_class c) o os
    (mem_all P (ordered c lt os) o (all-ordered P c lt os (all_mem P (filter (is_class c) os) (λ p k. k))) h)

-- ---- objects by offset

-- an object of a rising list is at or after its beginning
pub object-from : (n : ℕ) (os : List Object) (o : Object) → IsTrue (rises_from n os) → Mem o os → n ≤ o.extent.offset
object-from n [] o r h = absurd h
object-from n (p ∷ ps) o r (inl e) =
    let l = leb-true n p.extent.offset
    (and_parts (nat_le n p.extent.offset) (rises_from (p.extent.offset + 1) ps) r).0 in
    let f = ap (λ (q : Object). q.extent.offset) e in
    omega arith
object-from n (p ∷ ps) o r (inr h) =
    let parts = and_parts (nat_le n p.extent.offset) (rises_from (p.extent.offset + 1) ps) r in
    let l = leb-true n p.extent.offset parts.0 in
    let k = object-from (p.extent.offset + 1) ps o parts.1 h in
    omega arith

-- only one object is at an offset
pub one_object : (n : ℕ) (os : List Object) (o p : Object) → IsTrue (rises_from n os) → Mem o os → Mem p os
    → o.extent.offset ≡ p.extent.offset → o ≡ p
one_object n [] o p r h k e = absurd h
one_object n (q ∷ qs) o p r (inl f) (inl g) e = f ∙ sym g
one_object n (q ∷ qs) o p r (inl f) (inr k) e =
    let l = object-from (q.extent.offset + 1) qs p
    (and_parts (nat_le n q.extent.offset) (rises_from (q.extent.offset + 1) qs) r).1 k in
    let s = ap (λ (x : Object). x.extent.offset) f in
    absurd (omega arith)
one_object n (q ∷ qs) o p r (inr h) (inl g) e =
    let l = object-from (q.extent.offset + 1) qs o
    (and_parts (nat_le n q.extent.offset) (rises_from (q.extent.offset + 1) qs) r).1 h in
    let s = ap (λ (x : Object). x.extent.offset) g in
    absurd (omega arith)
one_object n (q ∷ qs) o p r (inr h) (inr k) e =
    one_object (q.extent.offset + 1) qs o p
    (and_parts (nat_le n q.extent.offset) (rises_from (q.extent.offset + 1) qs) r).1 h k e

-- an object does not precede itself
pub not-itself : (lt : Object → Object → Bool) (o p : Object) → IsRanked lt o p → o ≡ p → ⊥
not-itself lt o p (before e f) g = let h : lt o o ≡ true = ap (lt o) g ∙ e in let k : lt o o ≡ false =
    ap (λ q. lt q o) g ∙ f in false≢true (sym k ∙ h)
not-itself lt o p (after e f) g = let h : lt o o ≡ true = ap (λ q. lt q o) g ∙ e in let k : lt o o ≡ false =
    ap (lt o) g ∙ f in false≢true (sym k ∙ h)
