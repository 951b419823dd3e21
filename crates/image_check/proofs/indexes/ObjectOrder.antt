-- An index whose entries rise lists the objects of its class in their order.
use Rattle.image_check.proofs.Common.{AllByRecursion, AreIndexEntries, Class, Extent, Index, IsRanked, IsTrue, List}
use Rattle.image_check.proofs.Common.{Memory, None, Option, Some, Tile, [], and_from, and_parts, ap, arith, cond}
use Rattle.image_check.proofs.Common.{entries, false, false≢true, filter, flat_map, good_for, handle, has_index}
use Rattle.image_check.proofs.Common.{index_capacity, is_class, is_some, is_table_link, leb-true, length, link_at}
use Rattle.image_check.proofs.Common.{list_all, map, nat_le, option_to_list, ordered, range_with_len, refl, rise_by}
use Rattle.image_check.proofs.Common.{rises, rises_from, subst, suc, sym, targets, tile_of, true, zero, ℕ, ◌&&◌, ◌*◌}
use Rattle.image_check.proofs.Common.{◌+◌, ◌∙◌, ◌∷◌, ◌≡◌, ◌≤◌}
use Rattle.std.proofs.Common.{Bool}
use Rattle.std.specs.Prelude.{fold, option_map}
use Rattle.raw_region.specs.Memory.{word_at}
use Rattle.block_tags.specs.declared.tile.Role.TheVariants.{Object as ObjectRole}
use Rattle.seg_index.specs.Index.{AreLinksTo}
use Rattle.segment_manager.specs.Directory.{Object, insert_by}
use Rattle.segment_manager.specs.Denotes.{handles}
use Rattle.segment_manager.proofs.Laws.{AllRanked, IsStrict, Pairwise, all-insert_by, insert_by-rises, ranked-sym}
use Rattle.segment_manager.proofs.Laws.{rises-pairwise, rises-tail}
use Rattle.image_check.proofs.bytes.Members.{Mem, all_mem, mem_all, mem_map, mem_of_filter, mem_of_map}
use Rattle.image_check.proofs.read_off.Directory.{block_for, table_at}
use Rattle.image_check.proofs.indexes.Entries.{entries_in, mem-of-ordered, mem-ordered, object-from, one_object}
use Rattle.image_check.proofs.read_off.Numbers.{IsLinked, linked, unguarded}
use Rattle.image_check.proofs.read_off.Values.{no-places}
use mathlib.Core.Logic.{inl, inr}

-- ---- the entries

record AreTargets (m : Memory) (ts : List Tile) (at n : ℕ) (links : List (Option ℕ)) : Type 0 where
  links_are : AreLinksTo m at (flat_map option_to_list links)
  count : length (flat_map option_to_list links) ≡ n
  good : (x : ℕ) → Mem x (flat_map option_to_list links) → IsTrue (is_some (tile_of ts ObjectRole x))

one-more : (m : Memory) (ts : List Tile) (at n : ℕ) (l : Option ℕ) (links : List (Option ℕ)) → link_at m at ≡ l
    → IsTrue (is_some (good_for ts ObjectRole l)) → AreTargets m ts (at + 8) n links
    → AreTargets m ts at (suc n) (l ∷ links)
one-more m ts at n None links e h r = absurd (false≢true h)
one-more m ts at n (Some x) links e h r = record {
  links_are = (e, r.links_are);
  count = ap suc r.count;
  good = λ y k. elim k [ inl f ↦ ap (λ z. is_some (tile_of ts ObjectRole z)) f ∙ h | inr l ↦ r.good y l ];
}

entries-range : (m : Memory) (ts : List Tile) (at j n : ℕ)
    → IsTrue (list_all (λ l. is_some (good_for ts ObjectRole l))
    (map (λ i. link_at m (at + 8 * i)) (range_with_len j n)))
    → AreTargets m ts (at + 8 * j) n (map (λ i. link_at m (at + 8 * i)) (range_with_len j n))
entries-range m ts at j zero h = record { links_are = tt; count = refl; good = λ x k. absurd k }
entries-range m ts at j (suc n) h =
    let rest : List (Option ℕ) = map (λ i. link_at m (at + 8 * i)) (range_with_len (j + 1) n) in
    let p = and_parts (is_some (good_for ts ObjectRole (link_at m (at + 8 * j))))
    (list_all (λ l. is_some (good_for ts ObjectRole l)) rest) h in
    let place : at + 8 * (j + 1) ≡ at + 8 * j + 8 = omega arith in
    one-more m ts (at + 8 * j) n (link_at m (at + 8 * j)) rest refl p.0
    (subst (λ a. AreTargets m ts a n rest) place (entries-range m ts at (j + 1) n p.1))

entries-all : (m : Memory) (ts : List Tile) (at n : ℕ)
    → IsTrue (list_all (λ l. is_some (good_for ts ObjectRole l))
    (map (λ i. link_at m (at + 8 * i)) (range_with_len 0 n)))
    → AreTargets m ts at n (map (λ i. link_at m (at + 8 * i)) (range_with_len 0 n))
entries-all m ts at n h =
    let place : at + 8 * 0 ≡ at = omega arith in
    subst (λ a. AreTargets m ts a n (map (λ i. link_at m (at + 8 * i)) (range_with_len 0 n))) place
    (entries-range m ts at 0 n h)

record IsEntered (m : Memory) (ts : List Tile) (e : Option Extent) (n : ℕ) (xs : List ℕ) : Type 0 where
  entered : AreIndexEntries m (record { capacity = 0; extent = e }) xs
  count : n ≡ length xs
  good : (x : ℕ) → Mem x xs → IsTrue (is_some (tile_of ts ObjectRole x))

entered-if : (m : Memory) (ts : List Tile) (e : Option Extent) (n : ℕ) (link : Option ℕ)
    → link ≡ option_map handle e → (e ≡ None → n ≡ 0)
    → IsTrue (list_all (λ l. is_some (good_for ts ObjectRole l)) (entries_in m n link))
    → IsEntered m ts e n (flat_map option_to_list (entries_in m n link))
entered-if m ts None n None f z h = record { entered = refl; count = z refl; good = λ x k. absurd k }
entered-if m ts None n (Some b) f z h = absurd (cc)
entered-if m ts (Some x) n None f z h = absurd (cc)
entered-if m ts (Some x) n (Some b) f z h =
    let a = entries-all m ts b n h in
    let g : b ≡ handle x = cc in
    record {
      entered = subst (λ y. AreLinksTo m y (flat_map option_to_list (entries_in m n (Some b)))) g
          a.links_are;
      count = sym a.count;
      good = a.good;
    }

-- the properties of an index that passes its test
pub record IsIndexSaid (m : Memory) (ts : List Tile) (at : ℕ) : Type 0 where
  pub linked : IsLinked ts Index 8 (word_at m (at + 16)) (link_at m at)
  pub few : word_at m (at + 8) ≤ word_at m (at + 16)
  pub count : word_at m (at + 8) ≡ length (targets m at)
  pub entered : AreIndexEntries m (table_at m ts Index at) (targets m at)
  pub good : (x : ℕ) → Mem x (targets m at) → IsTrue (is_some (tile_of ts ObjectRole x))

-- an index that passes its test has its count, capacity, block and entries
pub index-said : (m : Memory) (ts : List Tile) (at : ℕ) → IsTrue (has_index m ts at) → IsIndexSaid m ts at
index-said m ts at h =
    let u = unguarded (nat_le (word_at m (at + 8)) (index_capacity m at)
    && is_table_link ts Index (link_at m at) 8 (index_capacity m at))
    (list_all (λ link. is_some (good_for ts ObjectRole link)) (entries m at)) h in
    let p = and_parts (nat_le (word_at m (at + 8)) (index_capacity m at))
    (is_table_link ts Index (link_at m at) 8 (index_capacity m at)) u.0 in
    let l = linked ts Index 8 (index_capacity m at) (link_at m at) p.1 in
    let few = leb-true (word_at m (at + 8)) (index_capacity m at) p.0 in
    let e : Option Extent = block_for ts Index (link_at m at) in
    let w = entered-if m ts e (word_at m (at + 8)) (link_at m at) l.leads (λ z.
    (let none = no-places Index 8 (index_capacity m at) e l.table z in omega arith)) u.1 in
    record { linked = l; few = few; count = w.count; entered = w.entered; good = w.good }

-- ---- rows of objects that rise

-- two members of a row that rises
ranked-members : (lt : Object → Object → Bool) (os : List Object) (o p : Object) → Pairwise lt os → Mem o os
    → Mem p os → (o ≡ p → ⊥) → IsRanked lt o p
ranked-members lt [] o p r h k n = absurd h
ranked-members lt (q ∷ qs) o p r (inl e) (inl f) n = absurd (n (e ∙ sym f))
ranked-members lt (q ∷ qs) o p r (inl e) (inr k) n =
    subst (λ x. IsRanked lt x p) (sym e) (mem_all (IsRanked lt q) qs p r.0 k)
ranked-members lt (q ∷ qs) o p r (inr h) (inl f) n =
    ranked-sym lt p o (subst (λ x. IsRanked lt x o) (sym f) (mem_all (IsRanked lt q) qs o r.0 h))
ranked-members lt (q ∷ qs) o p r (inr h) (inr k) n = ranked-members lt qs o p r.1 h k n

across-next : (lt : Object → Object → Bool) (o : Object) (acc ps : List Object) → AllRanked lt o ps
    → AllByRecursion (λ p. AllRanked lt p acc) ps → AllByRecursion (λ p. AllRanked lt p (insert_by lt o acc)) ps
across-next lt o acc [] a b = tt
across-next lt o acc (p ∷ ps) a b =
    (all-insert_by (IsRanked lt p) lt o acc (ranked-sym lt o p a.0) b.0, across-next lt o acc ps a.1 b.1)

fold-rises : (lt : Object → Object → Bool) (acc ps : List Object) → IsTrue (rises lt acc)
    → AllByRecursion (λ p. AllRanked lt p acc) ps → Pairwise lt ps
    → IsTrue (rises lt (fold (λ os o. insert_by lt o os) acc ps))
fold-rises lt acc [] r a b = r
fold-rises lt acc (o ∷ ps) r a b =
    fold-rises lt (insert_by lt o acc) ps (insert_by-rises lt o acc a.0 r) (across-next lt o acc ps b.0 a.1) b.1

no-ranks : (lt : Object → Object → Bool) (ps : List Object) → AllByRecursion (λ p. AllRanked lt p []) ps
no-ranks lt [] = tt
no-ranks lt (p ∷ ps) = (tt, no-ranks lt ps)

pairwise-if : (lt : Object → Object → Bool) (b : Bool) (o : Object) (ps : List Object)
    → (b ≡ true → AllRanked lt o ps) → Pairwise lt ps → Pairwise lt (cond b (o ∷ ps) ps)
pairwise-if lt true o ps f k = (f refl, k)
pairwise-if lt false o ps f k = k

-- the objects of a class, each two of which are ranked
pairwise-class : (c : Class) (lt : Object → Object → Bool) (n : ℕ) (os : List Object) → IsTrue (rises_from n os)
    → ((o p : Object) → Mem o os → Mem p os → IsTrue (is_class c o) → IsTrue (is_class c p) → (o ≡ p → ⊥)
    → IsRanked lt o p) → Pairwise lt (filter (is_class c) os)
pairwise-class c lt n [] h f = tt
pairwise-class c lt n (o ∷ os) h f =
    let parts = and_parts (nat_le n o.extent.offset) (rises_from (o.extent.offset + 1) os) h in
    pairwise-if lt (is_class c o) o (filter (is_class c) os)
    (λ e. all_mem (IsRanked lt o) (filter (is_class c) os) (λ p k.
    let w = mem_of_filter (is_class c) p os k in
    let l = object-from (o.extent.offset + 1) os p parts.1 w.mem in
    f o p (inl refl) (inr w.mem) e w.is (λ z. (let g = ap (λ (x : Object). x.extent.offset) z in omega arith))))
    (pairwise-class c lt (o.extent.offset + 1) os parts.1 (λ x y k l. f x y (inr k) (inr l)))

-- ---- rows with the same members are one

below-first : (lt : Object → Object → Bool) → IsStrict lt → (o p : Object) (ps : List Object)
    → IsTrue (rises lt (o ∷ ps)) → Mem p ps → lt o p ≡ true
below-first lt s o p [] r h = absurd h
below-first lt s o p (q ∷ qs) r (inl e) = ap (lt o) e ∙ (and_parts (lt o q) (rises lt (q ∷ qs)) r).0
below-first lt s o p (q ∷ qs) r (inr h) =
    let parts = and_parts (lt o q) (rises lt (q ∷ qs)) r in
    s.trans o q p parts.0 (below-first lt s q p qs parts.1 h)

not-below : (lt : Object → Object → Bool) → IsStrict lt → (o : Object) → lt o o ≡ true → ⊥
not-below lt s o e = false≢true (sym (s.asym o o e) ∙ e)

first-one : (lt : Object → Object → Bool) → IsStrict lt
    → (o : Object) (os : List Object) (p : Object) (ps : List Object) → IsTrue (rises lt (o ∷ os))
    → IsTrue (rises lt (p ∷ ps)) → Mem o (p ∷ ps) → Mem p (o ∷ os) → o ≡ p
first-one lt s o os p ps r q (inl e) k = e
first-one lt s o os p ps r q (inr h) (inl e) = sym e
first-one lt s o os p ps r q (inr h) (inr k) =
    let a = below-first lt s o p os r k in
    let b = below-first lt s p o ps q h in
    absurd (false≢true (sym (s.asym o p a) ∙ b))

rest-of : (lt : Object → Object → Bool) → IsStrict lt → (o z : Object) (os ps : List Object) (p : Object) → o ≡ p
    → IsTrue (rises lt (o ∷ os)) → Mem z os → Mem z (p ∷ ps) → Mem z ps
rest-of lt s o z os ps p e r h (inl f) =
    let b = below-first lt s o z os r h in
    let g : lt o o ≡ true = ap (lt o) (e ∙ sym f) ∙ b in
    absurd (not-below lt s o g)
rest-of lt s o z os ps p e r h (inr k) = k

-- two rows that rise and have the same members are one
pub rows-same : (lt : Object → Object → Bool) → IsStrict lt → (xs ys : List Object) → IsTrue (rises lt xs)
    → IsTrue (rises lt ys) → ((o : Object) → Mem o xs → Mem o ys) → ((o : Object) → Mem o ys → Mem o xs) → xs ≡ ys
rows-same lt s [] [] r q f g = refl
rows-same lt s [] (y ∷ ys) r q f g = absurd (g y (inl refl))
rows-same lt s (x ∷ xs) [] r q f g = absurd (f x (inl refl))
rows-same lt s (x ∷ xs) (y ∷ ys) r q f g =
    let e : x ≡ y = first-one lt s x xs y ys r q (f x (inl refl)) (g y (inl refl)) in
    let rest : xs ≡ ys = rows-same lt s xs ys (rises-tail lt x xs r) (rises-tail lt y ys q)
    (λ z h. rest-of lt s x z xs ys y e r h (f z (inr h)))
    (λ z h. rest-of lt s y z ys xs x (sym e) q h (g z (inr h))) in
    λ i. e i ∷ rest i

-- ---- the objects of an index

-- objects whose handles are these
pub record AreAt (os : List Object) (xs : List ℕ) : Type 0 where
  pub list : List Object
  pub at : handles list ≡ xs
  pub mem : (o : Object) → Mem o list → Mem o os

-- each of these handles is the handle of an object, and they are listed
pub objects-at : (os : List Object) (xs : List ℕ)
    → ((x : ℕ) → Mem x xs → (o : Object) × Mem o os × (handle o.extent ≡ x)) → AreAt os xs
objects-at os [] f = record { list = []; at = refl; mem = λ o h. absurd h }
objects-at os (x ∷ xs) f =
    let w = f x (inl refl) in
    let o : Object = w.0 in
    let is : handle o.extent ≡ x = w.2 in
    let r = objects-at os xs (λ y h. f y (inr h)) in
    let rest = r.at in
    record {
      list = o ∷ r.list;
      at = λ i. is i ∷ rest i;
      mem = λ p h. elim h [ inl e ↦ subst (λ q. Mem q os) (sym e) w.1 | inr k ↦ r.mem p k ];
    }

handles-rises : (lt : Object → Object → Bool) (less : ℕ → ℕ → Bool) (qs : List Object)
    → ((o p : Object) → Mem o qs → Mem p qs → less (handle o.extent) (handle p.extent) ≡ lt o p)
    → IsTrue (rise_by less (handles qs)) → IsTrue (rises lt qs)
handles-rises lt less [] f h = refl
handles-rises lt less (o ∷ []) f h = refl
handles-rises lt less (o ∷ p ∷ qs) f h =
    let parts = and_parts (less (handle o.extent) (handle p.extent)) (rise_by less (handles (p ∷ qs))) h in
    and_from (lt o p) (rises lt (p ∷ qs)) (sym (f o p (inl refl) (inr (inl refl)))
    ∙ parts.0) (handles-rises lt less (p ∷ qs) (λ x y k l. f x y (inr k) (inr l)) parts.1)

-- the objects that an index lists, of a class and in an order
pub record IsListed (c : Class) (lt : Object → Object → Bool) (os : List Object) (xs : List ℕ) : Type 0 where
  pub is : handles (ordered c lt os) ≡ xs
  pub rising : IsTrue (rises lt (ordered c lt os))

-- entries that rise, each to an object of the class, are all objects of the class in order
pub listed : (c : Class) (lt : Object → Object → Bool) → IsStrict lt
    → (os : List Object) (xs : List ℕ) (less : ℕ → ℕ → Bool) → IsTrue (rises_from 0 os)
    → ((o p : Object) → Mem o os → Mem p os → less (handle o.extent) (handle p.extent) ≡ lt o p)
    → ((x : ℕ) → Mem x xs → (o : Object) × Mem o os × (handle o.extent ≡ x))
    → ((o : Object) → Mem o os → Mem (handle o.extent) xs → IsTrue (is_class c o))
    → ((o : Object) → Mem o os → IsTrue (is_class c o) → Mem (handle o.extent) xs)
    → IsTrue (rise_by less xs) → IsListed c lt os xs
listed c lt s os xs less h same find of has r =
    let w = objects-at os xs find in
    let qs : List Object = w.list in
    let rising : IsTrue (rises lt qs) =
    handles-rises lt less qs (λ o p k l.
    same o p (w.mem o k) (w.mem p l)) (subst (λ ys. IsTrue (rise_by less ys)) (sym w.at) r) in
    let pairs = rises-pairwise lt s qs rising in
    let inside : (o : Object) → Mem o os → IsTrue (is_class c o) → Mem o qs = λ o k e.
    (let i = mem_of_map (λ (p : Object).
    handle p.extent) (handle o.extent) qs (subst (Mem (handle o.extent)) (sym w.at) (has o k e)) in
    subst (λ p. Mem p qs) (sym (same-object o i.one k (w.mem i.one i.mem) i.is)) i.mem) in
    let ranked = pairwise-class c lt 0 os h (λ o p k l e f n.
    ranked-members lt qs o p pairs (inside o k e) (inside p l f) n) in
    let rows : IsTrue (rises lt (ordered c lt os)) =
    fold-rises lt [] (filter (is_class c) os) refl (no-ranks lt (filter (is_class c) os)) ranked in
    let equal : ordered c lt os ≡ qs =
    rows-same lt s (ordered c lt os) qs rows rising
    (λ o k. (let m = mem-of-ordered c lt os o k in inside o m.mem m.is))
    (λ o k. mem-ordered c lt os o (w.mem o k)
    (of o (w.mem o k) (subst (Mem (handle o.extent)) w.at (mem_map (λ (p : Object). handle p.extent) o qs k)))) in
    record { is = ap handles equal ∙ w.at; rising = rows }
  where
    same-object : (o p : Object) → Mem o os → Mem p os → handle o.extent ≡ handle p.extent → o ≡ p
    same-object o p k l e = one_object 0 os o p h k l (omega arith)
