-- The two indexes after an object of any class is constructed or destroyed.
use Rattle.segment_manager.proofs.Common as common
use Rattle.seg_types.specs.Names as names
use Rattle.std.proofs.lemmas.Cmp.{nat_cmp_total, nat_list_cmp_total}
use Rattle.std.proofs.lemmas.Map.Lookups.{exact_bytes, exact_unsigned}
use Rattle.std.specs.{Cmp.Equal-is, Cmp.Lexicographic.nat_list_eq_equiv, Ordering.is_eq, Ordering.ordering_reverse}
use Rattle.raw_region.proofs.Facts.{AllByRecursion-filter, first, no_more, second}
use Rattle.block_tags.specs.declared.tile.Role.TheVariants.{Index}
use Rattle.seg_types.specs.declared.kinds.Class.TheVariants.{Named, Unique}
use Rattle.segment_manager.proofs.directory.{IndexedParts.ordered, IndexedParts.ordered-without, LiveSet.remove-here}
use Rattle.segment_manager.proofs.directory.LiveSet.{IsFound, IsIn, Place, behind, found-place, here, remove-behind}
use Rattle.segment_manager.proofs.objects.RankedPairs.{AllRanked, IsRanked, IsStrict, after, all-ordered, before}
use Rattle.segment_manager.proofs.objects.RankedPairs.{insert_by-length, insert_by-rises, list_all-remove}
use Rattle.segment_manager.proofs.objects.RankedPairs.{ordered-pairwise, ordered-put, pairwise-remove, remove-more}
use Rattle.segment_manager.proofs.objects.RankedPairs.{remove-rises, rises-front, rises-rest, rises-weak, without-rises}
use common.{AllByRecursion, BackingArray, Bool, ByKind, ByName, Class, Directory, Equal, Greater, IsDirectory, IsTrue}
use common.{Kind, Less, List, NamedClass, None, Object, Option, Ordering, Some, UniqueClass, [], and_from, and_right}
use common.{ap, arith, by_kind, by_name, code_of, cond, eq-eqb, eqb-false, eqb-true, false, filter, find, handle}
use common.{has_backing, has_key, if◌then◌else◌, insert_by, is_class, is_index, is_lt, is_object, is_proper, kind_of}
use common.{le-leb, le-ltb, length, live, lt-ltb, ltb-false, ltb-true, named_objects, nat_cmp, nat_le, nat_lt, ne_eqb}
use common.{object_at, refl, remove_object, rises, rises_from, same_bytes, same_kind, slice_cmp, subst, sym, texts_ties}
use common.{true, unique_objects, with_object, without_object, ℕ, ◌&&◌, ◌+◌, ◌<◌, ◌==◌, ◌∙◌, ◌∷◌, ◌≡◌, ◌≢◌, ◌≤◌}

-- ---- the two orders

-- a comparison that tests as less is `Less`
pub lt-less : (r : Ordering) → is_lt r ≡ true → r ≡ Less
lt-less Less e = refl
lt-less v e = cc

pub names-reverse : (o p : Object)
    → slice_cmp nat_cmp p.name o.name ≡ ordering_reverse (slice_cmp nat_cmp o.name p.name)
names-reverse o p = nat_list_cmp_total.antisymm p.name o.name

-- the order of names is strict
pub by_name-strict : IsStrict by_name
by_name-strict = record {
  trans = λ o p q e f. ap is_lt (nat_list_cmp_total.trans o.name p.name q.name (lt-less (slice_cmp nat_cmp o.name
      p.name) e) (lt-less (slice_cmp nat_cmp p.name q.name) f));
  asym = λ o p e. ap is_lt (names-reverse o p)
      ∙ ap (λ r. is_lt (ordering_reverse r)) (lt-less (slice_cmp nat_cmp o.name p.name) e);
}

ranked-by : {o p : Object} → (r : Ordering) → slice_cmp nat_cmp o.name p.name ≡ r → is_eq r ≡ false
    → IsRanked by_name o p
ranked-by {o} {p} Less e f = before (ap is_lt e) (ap is_lt (names-reverse o p) ∙ ap (λ r. is_lt (ordering_reverse r)) e)
ranked-by Equal e f = absurd (cc)
ranked-by {o} {p} Greater e f =
    after (ap is_lt (names-reverse o p) ∙ ap (λ r. is_lt (ordering_reverse r)) e) (ap is_lt e)

-- two names that differ
pub names-ranked : {o p : Object} → same_bytes o.name p.name ≡ false → IsRanked by_name o p
names-ranked {o} {p} e = ranked-by (slice_cmp nat_cmp o.name p.name) refl (sym (texts_ties o.name p.name) ∙ e)

-- and the order of kinds is strict
pub by_kind-strict : IsStrict by_kind
by_kind-strict = record {
  trans = λ o p q e f. lt-ltb (code_of (kind_of o.value)) (code_of (kind_of q.value)) (omega (
    arith,
    ltb-true (code_of (kind_of o.value)) (code_of (kind_of p.value)) e,
    ltb-true (code_of (kind_of p.value)) (code_of (kind_of q.value)) f,
  ));
  asym = λ o p e. le-ltb (code_of (kind_of p.value)) (code_of (kind_of o.value))
      (omega (arith, ltb-true (code_of (kind_of o.value)) (code_of (kind_of p.value)) e));
}

codes-ranked : {o p : Object} → (b : Bool) → by_kind o p ≡ b → code_of (kind_of o.value) ≢ code_of (kind_of p.value)
    → IsRanked by_kind o p
codes-ranked {o} {p} true e n = before e (by_kind-strict.asym o p e)
codes-ranked {o} {p} false e n = after (lt-ltb (code_of (kind_of p.value)) (code_of (kind_of o.value))
    (omega (arith, ltb-false (code_of (kind_of o.value)) (code_of (kind_of p.value)) e, n))) e

-- two kinds that differ
pub kinds-ranked : {o p : Object} → same_kind (kind_of o.value) (kind_of p.value) ≡ false → IsRanked by_kind o p
kinds-ranked {o} {p} e =
    codes-ranked (by_kind o p) refl (λ f. eqb-false (code_of (kind_of o.value)) (code_of (kind_of p.value)) e f)

-- ---- a new key

no-key-if : (t : Object → Bool) (P : Object → Type 0) (c : Class) (p : Object) (ps : List Object) → ((q : Object)
    → is_class c q ≡ true → t q ≡ false → P q) → (AllByRecursion P (filter (is_class c) ps)) → t p ≡ false → (b : Bool)
    → is_class c p ≡ b → AllByRecursion P (cond b (p ∷ filter (is_class c) ps) (filter (is_class c) ps))
no-key-if t P c p ps each rest e true f = (each p f e, rest)
no-key-if t P c p ps each rest e false f = rest

nothing-if : (b : Bool) (p : Object) {rest : Option Object} → cond b (Some p) rest ≡ None → (b ≡ false) × (rest ≡ None)
nothing-if true p e = absurd (cc)
nothing-if false p e = (refl, e)

-- if no object passes a test, each object of the class fails it
no-key : (t : Object → Bool) (P : Object → Type 0) (c : Class) → ((q : Object) → is_class c q ≡ true → t q ≡ false
    → P q) → (os : List Object) → find t os ≡ None → AllByRecursion P (filter (is_class c) os)
no-key t P c each [] e = tt
no-key t P c each (p ∷ ps) e =
    let parts = nothing-if (t p) p e in
    no-key-if t P c p ps each (no-key t P c each ps parts.1) parts.0 (is_class c p) refl

-- a name that no object has
pub new-name : (d : Directory) (o : Object) → object_at d (ByName o.name) ≡ None
    → AllRanked by_name o (filter (is_class Named) d.objects)
new-name d o e = no-key (has_key (ByName o.name)) (IsRanked by_name o) Named
    (λ q f g. names-ranked (ap (λ b. b && same_bytes o.name q.name) (sym f) ∙ g)) d.objects e

-- a kind that no unique object has
pub new-kind : (d : Directory) (o : Object) → object_at d (ByKind (kind_of o.value)) ≡ None
    → AllRanked by_kind o (filter (is_class Unique) d.objects)
new-kind d o e = no-key (has_key (ByKind (kind_of o.value))) (IsRanked by_kind o) Unique
    (λ q f g. kinds-ranked (ap (λ b. b && same_kind (kind_of o.value) (kind_of q.value)) (sym f) ∙ g)) d.objects e

-- ---- one entry more

-- a named object that is inserted is among the names
pub named-more : (d : Directory) (o : Object) → is_class Named o ≡ true → object_at d (ByName o.name) ≡ None
    → named_objects (with_object d o) ≡ insert_by by_name o (named_objects d)
named-more d o e f = ordered-put Named by_name by_name-strict o d.objects e (new-name d o f)

-- a unique object that is inserted is among the kinds
pub unique-more : (d : Directory) (o : Object) → is_class Unique o ≡ true → object_at d (ByKind (kind_of o.value))
    ≡ None → unique_objects (with_object d o) ≡ insert_by by_kind o (unique_objects d)
unique-more d o e f = ordered-put Unique by_kind by_kind-strict o d.objects e (new-kind d o f)

-- the parts of an index as a test
pub index-parts : (t : BackingArray) (os : List Object) (lt : Object → Object → Bool) → IsTrue (is_index t os lt)
    → IsTrue (has_backing Index 8 t) × (length os ≤ t.capacity) × IsTrue (rises lt os)
index-parts t os lt h =
    let both = first (has_backing Index 8 t && nat_le (length os) t.capacity) (rises lt os) h in (
      first (has_backing Index 8 t) (nat_le (length os) t.capacity) both,
      no_more (length os) t.capacity (second (has_backing Index 8 t) (nat_le (length os) t.capacity) both),
      second (has_backing Index 8 t && nat_le (length os) t.capacity) (rises lt os) h,
    )

-- an index as a test, from its parts
pub index-from : (t : BackingArray) (os : List Object) (lt : Object → Object → Bool) → IsTrue (has_backing Index 8 t)
    → length os ≤ t.capacity → IsTrue (rises lt os) → IsTrue (is_index t os lt)
index-from t os lt a b c = and_from (has_backing Index 8 t && nat_le (length os) t.capacity) (rises lt os)
    (and_from (has_backing Index 8 t) (nat_le (length os) t.capacity) a (le-leb (length os) t.capacity b)) c

-- the same for the order of a class, with an object that is ranked with each of the others
pub ordered-more : (c : Class) (lt : Object → Object → Bool) → IsStrict lt
    → (d : Directory) (t u : BackingArray) (o : Object)
    → is_class c o ≡ true → AllRanked lt o (filter (is_class c) d.objects)
    → IsTrue (is_index u (ordered c lt d.objects) lt) → IsTrue (has_backing Index 8 t)
    → length (ordered c lt d.objects) < t.capacity → IsTrue (is_index t (ordered c lt (with_object d o).objects) lt)
ordered-more c lt s d t u o e r h a b = subst (λ os. IsTrue (is_index t os lt)) (sym (ordered-put c lt s o d.objects e
    r)) (index-from t (insert_by lt o (ordered c lt d.objects)) lt a (omega (
      arith,
      insert_by-length lt o (ordered c lt d.objects),
    )) (insert_by-rises lt o (ordered c lt d.objects) (all-ordered (IsRanked lt o) c lt d.objects r)
    (index-parts u (ordered c lt d.objects) lt h).2))

-- ---- one entry less

index-less : (lt : Object → Object → Bool) → IsStrict lt → (t : BackingArray) (o : Object) (os : List Object)
    → IsTrue (is_index t (insert_by lt o os) lt) → IsTrue (is_index t os lt)
index-less lt s t o os h =
    let parts = index-parts t (insert_by lt o os) lt h in
    index-from t os lt parts.0 (omega (arith, insert_by-length lt o os, parts.1)) (without-rises lt s o os parts.2)

-- the order of a class is the order of the others with one inserted
pub one-less : (c : Class) (lt : Object → Object → Bool) → IsStrict lt → (d : Directory) (o : Object) → IsIn d o
    → is_class c o ≡ true → (t : BackingArray) → IsTrue (is_index t (ordered c lt d.objects) lt)
    → ordered c lt d.objects ≡ insert_by lt o (ordered c lt (without_object d o).objects)
one-less c lt s d o f e t h =
    remove-more lt s c (handle o.extent) d.objects o f e (pairwise-remove lt c (handle o.extent) d.objects o f e
    (ordered-pairwise c lt s d.objects (index-parts t (ordered c lt d.objects) lt h).2)) []

ordered-less-if : (c : Class) (lt : Object → Object → Bool) → IsStrict lt → (d : Directory) (o : Object) → IsIn d o
    → (t : BackingArray) → IsTrue (is_index t (ordered c lt d.objects) lt) → (b : Bool) → is_class c o ≡ b
    → IsTrue (is_index t (ordered c lt (without_object d o).objects) lt)
ordered-less-if c lt s d o f t h true e = index-less lt s t o (ordered c lt (without_object d o).objects)
    (subst (λ os. IsTrue (is_index t os lt)) (one-less c lt s d o f e t h) h)
ordered-less-if c lt s d o f t h false e =
    subst (λ os. IsTrue (is_index t os lt)) (sym (ordered-without c lt d o f e)) h

-- an index without an object of any class
ordered-less : (c : Class) (lt : Object → Object → Bool) → IsStrict lt → (d : Directory) (o : Object) → IsIn d o
    → (t : BackingArray) → IsTrue (is_index t (ordered c lt d.objects) lt)
    → IsTrue (is_index t (ordered c lt (without_object d o).objects) lt)
ordered-less c lt s d o f t h = ordered-less-if c lt s d o f t h (is_class c o) refl

-- a directory without an object of any class
pub directory-less : {format : ℕ} {d : Directory} (o : Object) → IsDirectory format d → IsIn d o
    → IsTrue (is_proper (live (without_object d o))) → IsDirectory format (without_object d o)
directory-less {format} {d} o h f p = record {
  proper = p;
  objects = list_all-remove (is_object format) (handle o.extent) d.objects h.objects;
  by_offset = remove-rises 0 (handle o.extent) d.objects h.by_offset;
  named = ordered-less Named by_name by_name-strict d o f d.named h.named;
  unique = ordered-less Unique by_kind by_kind-strict d o f d.unique h.unique;
}

-- ---- the entries by their handles

-- a rising list is at or above its first offset
pub rises-above : (n : ℕ) (os : List Object) → IsTrue (rises_from n os)
    → AllByRecursion (λ (q : Object). n ≤ q.extent.offset) os
rises-above n [] h = tt
rises-above n (o ∷ os) h =
    let f = rises-front n o os h in
    (f, rises-above n os (rises-weak n (o.extent.offset + 1) os (omega arith) (rises-rest n o os h)))

above-differ : (o : Object) (os : List Object) → AllByRecursion (λ (q : Object). o.extent.offset + 1 ≤ q.extent.offset)
    os → AllByRecursion (λ (q : Object). handle o.extent ≢ handle q.extent) os
above-differ o [] h = tt
above-differ o (q ∷ qs) h = ((λ e. omega (arith, h.0, e)), above-differ o qs h.1)

others-place : (n : ℕ) {h : ℕ} {p : Object} {ps : List Object} {o : Object} → Place h p ps o
    → IsTrue (rises_from n (p ∷ ps)) → (IsFound h ps o → AllByRecursion (λ (q : Object). h ≢ handle q.extent)
    (remove_object h ps)) → AllByRecursion (λ (q : Object). h ≢ handle q.extent) (remove_object h (p ∷ ps))
others-place n {h} {p} {ps} (here e f) r k = subst (λ qs. AllByRecursion (λ (q : Object). h ≢ handle q.extent) qs)
    (sym (remove-here h p ps e)) (subst (λ g. AllByRecursion (λ (q : Object). g ≢ handle q.extent) ps) (sym e)
    (above-differ p ps (rises-above (p.extent.offset + 1) ps (rises-rest n p ps r))))
others-place n {h} {p} {ps} (behind e f) r k =
    subst (λ qs. AllByRecursion (λ (q : Object). h ≢ handle q.extent) qs) (sym (remove-behind h p ps e)) (e, k f)

-- the others have other handles
pub others-differ : (n h : ℕ) (os : List Object) (o : Object) → IsTrue (rises_from n os) → IsFound h os o
    → AllByRecursion (λ (q : Object). h ≢ handle q.extent) (remove_object h os)
others-differ n h [] o r f = tt
others-differ n h (p ∷ ps) o r f = others-place n (found-place h p ps o f) r
    (λ f'. others-differ (p.extent.offset + 1) h ps o (rises-rest n p ps r) f')

remove-insert-if : (b : Bool) (o p : Object) {ps : List Object} (qs : List Object) → handle o.extent ≢ handle p.extent
    → remove_object (handle o.extent) qs ≡ ps
    → remove_object (handle o.extent) (if b then o ∷ p ∷ ps else p ∷ qs) ≡ p ∷ ps
remove-insert-if true o p {ps} qs n e = remove-here (handle o.extent) o (p ∷ ps) refl
remove-insert-if false o p qs n e = remove-behind (handle o.extent) p qs n ∙ ap (λ rs. p ∷ rs) e

-- inserting an object and removing it restores the list
pub remove-insert_by : (lt : Object → Object → Bool) (o : Object) (os : List Object) → AllByRecursion (λ (q : Object).
    handle o.extent ≢ handle q.extent) os → remove_object (handle o.extent) (insert_by lt o os) ≡ os
remove-insert_by lt o [] h = remove-here (handle o.extent) o [] refl
remove-insert_by lt o (p ∷ ps) h = remove-insert-if (lt o p) o p (insert_by lt o ps) h.0 (remove-insert_by lt o ps h.1)

-- the order of a class without one
pub one-removed : (c : Class) (lt : Object → Object → Bool) → IsStrict lt → (d : Directory) (o : Object) → IsIn d o
    → is_class c o ≡ true → IsTrue (rises_from 0 d.objects) → (t : BackingArray)
    → IsTrue (is_index t (ordered c lt d.objects)
    lt) → ordered c lt (without_object d o).objects ≡ remove_object (handle o.extent) (ordered c lt d.objects)
one-removed c lt s d o f e r t h = sym (remove-insert_by lt o (ordered c lt (without_object d o).objects)
    (all-ordered (λ (q : Object). handle o.extent ≢ handle q.extent) c lt (remove_object (handle o.extent) d.objects)
    (AllByRecursion-filter (λ (q : Object). handle o.extent ≢ handle q.extent) (is_class c)
    (remove_object (handle o.extent) d.objects) (others-differ 0 (handle o.extent) d.objects o r f))))
    ∙ ap (remove_object (handle o.extent)) (sym (one-less c lt s d o f e t h))

-- The keys that an index compares and the objects of a directory: an order of keys determines which object has the key
-- and which comes first.

-- the order of an object's key to a key determines whether the object has the key
pub record Says (lt : Object → Object → Bool) (t : Object → Bool) (o : Object) (r : Ordering) : Type 0 where
  -- whether it has the key
  pub equal : r ≡ Equal → t o ≡ true
  pub less : r ≡ Less → t o ≡ false
  pub greater : r ≡ Greater → t o ≡ false
  -- and whether an object with the key comes before it
  pub behind : (q : Object) → t q ≡ true → r ≡ Less → lt q o ≡ false
  pub ahead : (q : Object) → t q ≡ true → r ≡ Greater → lt q o ≡ true

-- ---- names

swapped : (a b : List ℕ) → slice_cmp nat_cmp a b ≡ ordering_reverse (slice_cmp nat_cmp b a)
swapped a b = nat_list_cmp_total.antisymm a b

test-of : (a b : List ℕ) {r : Ordering} → slice_cmp nat_cmp b a ≡ r → same_bytes a b ≡ is_eq (ordering_reverse r)
test-of a b e = texts_ties a b ∙ ap is_eq (swapped a b ∙ ap ordering_reverse e)

-- a name is itself
pub same-itself : (a : List ℕ) → same_bytes a a ≡ true
same-itself a = nat_list_eq_equiv.refl a

-- an object of the name
pub name-of : {name : List ℕ} (q : Object) → has_key (names.ByName name) q ≡ true → name ≡ q.name
name-of {name} q e = exact_bytes name q.name ((Equal-is (slice_cmp nat_cmp name q.name)).0
    (sym (texts_ties name q.name) ∙ second (is_class NamedClass q) (same_bytes name q.name) e))

names-other : (name : List ℕ) (o : Object) {r : Ordering} → slice_cmp nat_cmp o.name name ≡ r
    → is_eq (ordering_reverse r) ≡ false → has_key (names.ByName name) o ≡ false
names-other name o e f = and_right (is_class NamedClass o) (same_bytes name o.name) (test-of name o.name e ∙ f)

comes : (name : List ℕ) (o q : Object) {r : Ordering} → has_key (names.ByName name) q ≡ true
    → slice_cmp nat_cmp o.name name ≡ r → by_name q o ≡ is_lt (ordering_reverse r)
comes name o q h e = ap is_lt (swapped q.name o.name ∙ ap (λ n. ordering_reverse (slice_cmp nat_cmp o.name n))
    (sym (name-of q h)) ∙ ap ordering_reverse e)

-- the order by names determines the place of a name
pub names-say : (name : List ℕ) (o : Object) → is_class NamedClass o ≡ true
    → Says by_name (has_key (names.ByName name)) o (slice_cmp nat_cmp o.name name)
names-say name o c = record {
  equal = λ e. and_from (is_class NamedClass o) (same_bytes name o.name) c (test-of name o.name e);
  less = λ e. names-other name o e refl;
  greater = λ e. names-other name o e refl;
  behind = λ q h e. comes name o q h e;
  ahead = λ q h e. comes name o q h e;
}

ordered-name : {o p : Object} → IsRanked by_name o p → same_bytes o.name p.name ≡ false
ordered-name {o} {p} (before e f) = texts_ties o.name p.name ∙ ap is_eq (lt-less (slice_cmp nat_cmp o.name p.name) e)
ordered-name {o} {p} (after e f) = test-of o.name p.name (lt-less (slice_cmp nat_cmp p.name o.name) e)

-- at most one of two names in order is the given name
pub names-apart : (name : List ℕ) (o p : Object) → IsRanked by_name o p → has_key (names.ByName name) o ≡ true
    → has_key (names.ByName name) p ≡ false
names-apart name o p r h = and_right (is_class NamedClass p) (same_bytes name p.name)
    (ap (λ n. same_bytes n p.name) (name-of o h) ∙ ordered-name r)

-- an object of another class has no name
pub names-class : (name : List ℕ) (p : Object) → is_class NamedClass p ≡ false → has_key (names.ByName name) p ≡ false
names-class name p e = ap (λ b. b && same_bytes name p.name) e

-- ---- kinds

-- an object of a kind has its code
pub code-of : (k : Kind) (q : Object) → has_key (names.ByKind k) q ≡ true → code_of k ≡ code_of (kind_of q.value)
code-of k q e =
    eqb-true (code_of k) (code_of (kind_of q.value)) (second (is_class UniqueClass q) (same_kind k (kind_of q.value)) e)

-- a code that is less, the same, or greater
record Compares (a b : ℕ) : Type 0 where
  less : nat_cmp a b ≡ Less → a < b
  same : nat_cmp a b ≡ Equal → a ≡ b
  greater : nat_cmp a b ≡ Greater → b < a

less-is : (a b : ℕ) (x : Bool) → nat_lt a b ≡ x → nat_cmp a b ≡ Less → a < b
less-is a b true e f = ltb-true a b e
less-is a b false e f = absurd (less-not a b (a == b) refl e f)
  where
    less-not : (a b : ℕ) (y : Bool) → (a == b) ≡ y → nat_lt a b ≡ false → nat_cmp a b ≡ Less → ⊥
    less-not a b true g e f = let h : nat_cmp a b ≡ Equal = (λ i. cond (e i) Less (cond (g i) Equal Greater)) in cc
    less-not a b false g e f = let h : nat_cmp a b ≡ Greater = (λ i. cond (e i) Less (cond (g i) Equal Greater)) in cc

compares : (a b : ℕ) → Compares a b
compares a b = record {
  less = less-is a b (nat_lt a b) refl;
  same = exact_unsigned a b;
  greater = λ e. less-is b a (nat_lt b a) refl (nat_cmp_total.antisymm b a ∙ ap ordering_reverse e);
}

kinds-other : (k : Kind) (o : Object) → code_of k ≢ code_of (kind_of o.value) → has_key (names.ByKind k) o ≡ false
kinds-other k o n = and_right (is_class UniqueClass o) (same_kind k (kind_of o.value))
    (ne_eqb (code_of k) (code_of (kind_of o.value)) n)

-- the order by kinds determines the place of a kind
pub kinds-say : (k : Kind) (o : Object) → is_class UniqueClass o ≡ true
    → Says by_kind (has_key (names.ByKind k)) o (nat_cmp (code_of (kind_of o.value)) (code_of k))
kinds-say k o c =
    let two = compares (code_of (kind_of o.value)) (code_of k) in
    record {
      equal = λ e. and_from (is_class UniqueClass o) (same_kind k (kind_of o.value)) c
          (eq-eqb (code_of k) (code_of (kind_of o.value)) (sym (two.same e)));
      less = λ e. kinds-other k o (λ f. omega (arith, two.less e, f));
      greater = λ e. kinds-other k o (λ f. omega (arith, two.greater e, f));
      behind = λ q h e. le-ltb (code_of (kind_of q.value)) (code_of (kind_of o.value))
          (omega (arith, two.less e, code-of k q h));
      ahead = λ q h e. lt-ltb (code_of (kind_of q.value)) (code_of (kind_of o.value))
          (omega (arith, two.greater e, code-of k q h));
    }

ordered-kind : {o p : Object} → IsRanked by_kind o p → code_of (kind_of o.value) ≢ code_of (kind_of p.value)
ordered-kind {o} {p} (before e f) g =
    omega (arith, ltb-true (code_of (kind_of o.value)) (code_of (kind_of p.value)) e, g)
ordered-kind {o} {p} (after e f) g =
    omega (arith, ltb-true (code_of (kind_of p.value)) (code_of (kind_of o.value)) e, g)

-- two objects in order are not both of one kind
pub kinds-apart : (k : Kind) (o p : Object) → IsRanked by_kind o p → has_key (names.ByKind k) o ≡ true
    → has_key (names.ByKind k) p ≡ false
kinds-apart k o p r h = kinds-other k p (λ e. ordered-kind r (sym (code-of k o h) ∙ e))

-- an object that is not unique has no key by kind
pub kinds-class : (k : Kind) (p : Object) → is_class UniqueClass p ≡ false → has_key (names.ByKind k) p ≡ false
kinds-class k p e = ap (λ b. b && same_kind k (kind_of p.value)) e

-- ---- rising keys

-- names in order, and codes in order, by comparisons
pub name-less : (o p : Object) → by_name o p ≡ true → slice_cmp nat_cmp o.name p.name ≡ Less
name-less o p e = lt-less (slice_cmp nat_cmp o.name p.name) e

-- an object before another by kind has the lesser code
pub kind-less : (o p : Object) → by_kind o p ≡ true
    → nat_cmp (code_of (kind_of o.value)) (code_of (kind_of p.value)) ≡ Less
kind-less o p e = ap (λ b. cond b Less (cond (code_of (kind_of o.value) == code_of (kind_of p.value)) Equal Greater)) e
