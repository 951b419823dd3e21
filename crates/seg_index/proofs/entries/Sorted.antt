-- Entries stay sorted if the blocks of their objects stay, and if an entry is inserted or removed.
use Rattle.seg_index.proofs.Common as common
use common.{◌≡◌, refl, sym, ap, ap₂, subst, ◌∙◌, ℕ, zero, suc, ◌+◌, ◌<◌, ◌≤◌, ◌==◌, List, [], ◌∷◌, length, get_or}
use common.{arith, IsTrue, Option, Some, None, inl, inr, insert, remove, slice_get, AllByRecursion, none-some}
use common.{same_Some, Less, Greater, Ordering, ordering_reverse, slice_cmp, nat_cmp, nat_list_cmp_total, cases_Bool}
use common.{leb-true, holds, and_parts, slice_get-get_or, current, WindowState, Memory, bytes_of, SameBytes-word, Role}
use common.{IndexRole, link_at, Extent, LiveSet, handle, others, AllocatesOk, Deallocates, EncodesLiveSet, KeepsBlocks}
use common.{SameBlock, extent_at, live_of, BackingArray, same_role, serves, found-room, found-less, IsBlockFor}
use common.{KeepsOutsideIndex, beside_table, without_index_block, without_link, IsIndexOf, AreLinksTo, Entry, name_at}
use common.{name_len_at}
use common.{released-live, nat_lt, order, ChangesBytes, Absent, changed-keeps, has_room, read, ◌*◌, ◌%◌, Equal, Found}
use common.{Lookup, cases_lt}
use Rattle.std.specs.{Cmp.IsTotalOrder, List.Sorted.IsStrictlySortedBy}
use Rattle.seg_index.proofs.entries.Entries.{all_at, all_found, first, insert_all, no_entries, placed, less_at}
use Rattle.seg_index.proofs.entries.Entries.{remove_all}
use Rattle.seg_index.proofs.{entries.Entries.table_cases, entries.Frame.found_still, entries.HeapChanges.same_live}
use Rattle.seg_index.specs.{declared.index.Index.Index, Held.index_at, Keys.code_at, Lookups.FindsPosition}
use Rattle.seg_index.specs.declared.index.Index.TheVariants.{Named, Unique}
use Rattle.seg_index.specs.Sorted.{AreSortedHandles, BelongsAt, HasSortKey, CanAdd, IsKeyOf, KeepsSorted, index_of}
use Rattle.seg_index.specs.Sorted.{sort_key_end, sort_order}
use Rattle.seg_index.specs.declared.keys.Entry.TheVariants.{Code, Name}
use Rattle.block_tags.specs.{Tiles.role_bits, declared.tile.Role.TheVariants.Object as ObjectRole}
use Rattle.best_fit.proofs.Laws.{SameBlock-trans, block_aligned, lay_out_one, room_block}
use Rattle.best_fit.specs.Extents.{end_of}
use Rattle.raw_region.proofs.Laws.{SameBytes-read}
use Rattle.std.proofs.{lemmas.Bool.eqb-true, lemmas.Cmp.nat_cmp_total, lemmas.List.nil_from_length}

-- ---- a sort key stays with the bytes of its object

abbrev SameSortKey : Index → Memory → Memory → ℕ → Type 0
SameSortKey Named m m' h = (name_len_at m' h ≡ name_len_at m h) × (name_at m' h ≡ name_at m h)
SameSortKey Unique m m' h = code_at m' h ≡ code_at m h

end-same : (i : Index) (m m' : Memory) (h : ℕ) → SameSortKey i m m' h → sort_key_end i m' h ≡ sort_key_end i m h
end-same Named m m' h s = ap (λ n. 16 + n) s.0
end-same Unique m m' h s = refl

order-same : (i : Index) (m m' : Memory) (g h : ℕ) → SameSortKey i m m' g → SameSortKey i m m' h
    → sort_order i m' g h ≡ sort_order i m g h
order-same Named m m' g h s t = ap₂ (λ xs ys. slice_cmp nat_cmp xs ys) s.1 t.1
order-same Unique m m' g h s t = ap₂ (λ x y. nat_cmp x y) s t

key-same : (i : Index) (m m' : Memory) (h : ℕ) (x : Extent) → handle x ≡ h → SameBlock m m' x
    → sort_key_end i m h + 16 ≤ x.len → SameSortKey i m m' h
key-same Named m m' h x at s long =
    let word = SameBytes-word m m' (handle x) (end_of x) (h + 8) s.payload (omega arith) (omega arith) in
    let len : name_len_at m' h ≡ name_len_at m h = ap (λ w. w % 4294967296) word in
    let name = SameBytes-read m m' (handle x) (end_of x) (h + 16) (name_len_at m h) s.payload (omega arith)
    (omega arith) in
    (len, ap (λ n. read m' (h + 16) n) len ∙ name)
key-same Unique m m' h x at s long = ap (λ w. w % 4294967296)
    (SameBytes-word m m' (handle x) (end_of x) h s.payload (omega arith) (omega arith))

-- an object that is found in its block still is, and its bytes are as they were
pub record ObjectStays (a b : WindowState) (h : ℕ) : Type 0 where
  pub each : (x : Extent) → extent_at (live_of a.bytes) h ≡ Some x → IsTrue (same_role x.role ObjectRole)
      → (extent_at (live_of b.bytes) h ≡ Some x) × SameBlock (bytes_of a.bytes) (bytes_of b.bytes) x

found-begins : (h : ℕ) (xs : List Extent) (x : Extent) → first h xs ≡ Some x → handle x ≡ h
found-begins h [] x e = absurd (none-some x e)
found-begins h (y ∷ ys) x e = elim (cases_Bool (handle y == h)) [
  | inl here ↦ ap (λ (z : Extent). handle z) (sym (same_Some y x (rw here at e))) ∙ eqb-true (handle y) h here
  | inr other ↦ found-begins h ys x (rw other at e)
]

-- the extent of a sort key is an object's, and holds it
record KeyFits (i : Index) (m : Memory) (h : ℕ) (x : Extent) : Type 0 where
  role : IsTrue (same_role x.role ObjectRole)
  long : sort_key_end i m h + 16 ≤ x.len

key-fits : {c : WindowState} (i : Index) {h : ℕ} → (k : HasSortKey c i h) → KeyFits i (bytes_of c.bytes) h k.extent
key-fits {c} i {h} k =
    let n = sort_key_end i (bytes_of c.bytes) h in
    let two = and_parts (same_role k.extent.role ObjectRole) (holds k.extent n) k.fits in
    record { role = two.0; long = leb-true (n + 16) k.extent.len two.1 }

module _ (a b : WindowState) (i : Index) where
  abbrev A : Memory
  A = bytes_of a.bytes

  abbrev B : Memory
  B = bytes_of b.bytes

  still-same : (h : ℕ) → ObjectStays a b h → HasSortKey a i h → SameSortKey i A B h
  still-same h s k =
      let f = key-fits i k in
      key-same i A B h k.extent (found-begins h (live_of a.bytes).extents k.extent k.found)
      (s.each k.extent k.found f.role).1 f.long

  pub key-stays : (h : ℕ) → ObjectStays a b h → HasSortKey a i h → HasSortKey b i h
  key-stays h s k = record {
    extent = k.extent;
    found = (s.each k.extent k.found (key-fits i k).role).0;
    fits = subst (λ n. IsTrue (serves k.extent ObjectRole n)) (sym (end-same i A B h (still-same h s k))) k.fits;
  }

  pub order-stays : (g h : ℕ) → ObjectStays a b g → ObjectStays a b h → HasSortKey a i g → HasSortKey a i h
      → sort_order i B g h ≡ sort_order i A g h
  order-stays g h s t k l = order-same i A B g h (still-same g s k) (still-same h t l)

  each-stays : (g : ℕ) (hs : List ℕ) → ObjectStays a b g → HasSortKey a i g → AllByRecursion (ObjectStays a b) hs
      → AllByRecursion (HasSortKey a i) hs → AllByRecursion (λ h. sort_order i A g h ≡ Less) hs
      → AllByRecursion (λ h. sort_order i B g h ≡ Less) hs
  each-stays g [] s k ss ks l = tt
  each-stays g (h ∷ hs) s k ss ks l =
      (order-stays g h s ss.0 k ks.0 ∙ l.0, each-stays g hs s k ss.1 ks.1 l.1)

  sorted-each : (hs : List ℕ) → AllByRecursion (ObjectStays a b) hs → AllByRecursion (HasSortKey a i) hs
      → IsStrictlySortedBy (sort_order i A) hs → AreSortedHandles b i hs
  unfolding IsStrictlySortedBy
  sorted-each [] ss ks l = record { keys = tt; rises = tt }
  sorted-each (h ∷ hs) ss ks l =
      let rest = sorted-each hs ss.1 ks.1 l.1 in
      record {
        keys = (key-stays h ss.0 ks.0, rest.keys);
        rises = (each-stays h hs ss.0 ks.0 ss.1 ks.1 l.0, rest.rises);
      }

  pub sorted-stays : (hs : List ℕ) → AllByRecursion (ObjectStays a b) hs → AreSortedHandles a i hs
      → AreSortedHandles b i hs
  sorted-stays hs ss s = sorted-each hs ss s.keys s.rises

all-stay : {a b : WindowState} → ((h : ℕ) → ObjectStays a b h) → (hs : List ℕ) → AllByRecursion (ObjectStays a b) hs
all-stay f [] = tt
all-stay f (h ∷ hs) = (f h, all-stay f hs)

-- entries stay sorted where each object stays
pub keeps-sorted : {a b : WindowState} → ((h : ℕ) → ObjectStays a b h) → KeepsSorted a b
keeps-sorted {a} {b} f i hs s = sorted-stays a b i hs (all-stay f hs) s

-- no entries are sorted
pub none-sorted : {c : WindowState} {i : Index} → AreSortedHandles c i []
unfolding IsStrictlySortedBy
none-sorted = record { keys = tt; rises = tt }

-- nothing changed: entries stay sorted
pub unchanged-sorted : {a b : WindowState} → b ≡ a → KeepsSorted a b
unchanged-sorted e i hs s = subst (λ (c : WindowState). AreSortedHandles c i hs) (sym e) s

-- ---- which objects stay

-- blocks with the roles Object and Index differ
roles-apart : (l : LiveSet) (h g : ℕ) (x y : Extent) → extent_at l h ≡ Some x → extent_at l g ≡ Some y
    → IsTrue (same_role x.role ObjectRole) → IsTrue (same_role y.role IndexRole) → h ≡ g → ⊥
roles-apart l h g x y e f object index same =
    let one : x ≡ y = same_Some x y (sym e ∙ ap (λ k. extent_at l k) same ∙ f) in
    let mine : role_bits x.role ≡ 0 = eqb-true (role_bits x.role) 0 object in
    let its : role_bits y.role ≡ 4 = eqb-true (role_bits y.role) 4 index in
    let both : role_bits x.role ≡ role_bits y.role = ap (λ (z : Extent). role_bits z.role) one in
    omega (arith, mine, its, both)

index-role : {c : WindowState} {at cap : ℕ} {y : Extent} {hs : List ℕ}
    → IsIndexOf c at (record { capacity = cap; extent = Some y }) hs → IsTrue (same_role y.role IndexRole)
index-role {cap = cap} {y} i =
    let two = and_parts (nat_lt 0 cap) (serves y IndexRole (8 * cap)) i.slots in
    (and_parts (same_role y.role IndexRole) (holds y (8 * cap)) two.1).0

module _ {a : WindowState} {at : ℕ} {t : BackingArray} {hs : List ℕ} (i : IsIndexOf a at t hs) (h : ℕ) (x : Extent)
    (e : extent_at (live_of a.bytes) h ≡ Some x) (role : IsTrue (same_role x.role ObjectRole)) where
  abbrev xs : List Extent
  xs = (live_of a.bytes).extents

  -- the block is found outside the block of an index
  pub beside-found : first h (beside_table t xs) ≡ Some x
  beside-found = table_cases (λ u. IsIndexOf a at u hs → first h (beside_table u xs) ≡ Some x) (λ cap j. e)
      (λ cap y j. found-less h (handle y) x xs
      (roles-apart (live_of a.bytes) h (handle y) x y e j.held role (index-role j)) e) t i

  -- the block is not the one behind the link of an index
  pub link-apart : (k : ℕ) → link_at (bytes_of a.bytes) at ≡ Some k → h ≡ k → ⊥
  link-apart k leads = table_cases (λ u. IsIndexOf a at u hs → h ≡ k → ⊥)
      (λ cap j. absurd (none-some k (sym j.stands.link ∙ leads))) (λ cap y j same.
      roles-apart (live_of a.bytes) h (handle y) x y e j.held role (index-role j)
      (same ∙ sym (same_Some (handle y) k (sym j.stands.link ∙ leads)))) t i

  -- and it is found after the index's block is freed
  pub unlinked-found : (ys : LiveSet) → first h ys.extents ≡ Some x
      → first h (without_link ys (link_at (bytes_of a.bytes) at)).extents ≡ Some x
  unlinked-found ys f = by_case (link_at (bytes_of a.bytes) at) refl
    where
      by_case : (o : Option ℕ) → link_at (bytes_of a.bytes) at ≡ o → first h (without_link ys o).extents ≡ Some x
      by_case None leads = f
      by_case (Some k) leads = found-less h k x ys.extents (link-apart k leads) f

-- a block that is found among blocks that stay has its bytes
pub in-kept : {a b : WindowState} {at : ℕ} (zs : List Extent) (h : ℕ) (x : Extent)
    → KeepsOutsideIndex a b at zs → first h zs ≡ Some x → SameBlock (bytes_of a.bytes) (bytes_of b.bytes) x
in-kept {a} {b} zs h x k f = all_found (SameBlock (bytes_of a.bytes) (bytes_of b.bytes)) h zs x k.blocks f

-- after a block is allocated
pub taken-stays : {a b : WindowState} {n k : ℕ} {role : Role} → AllocatesOk current a b n role k → (h : ℕ)
    → ObjectStays a b h
taken-stays {a} {b} al h = record {
  each = λ x e role. (
    found_still h x al e,
    all_found (SameBlock (bytes_of a.bytes) (bytes_of b.bytes)) h (live_of a.bytes).extents x al.keeps.blocks e,
  );
}

-- after another block is freed
pub released-stays : {a b : WindowState} {k : ℕ} → Deallocates current a b k → (h : ℕ) → (h ≡ k → ⊥) → ObjectStays a b h
released-stays {a} {b} {k} r h apart = record {
  each = λ x e role.
      let f = found-less h k x (live_of a.bytes).extents apart e in (
        ap (λ (l : LiveSet). extent_at l h) (released-live current a b k r) ∙ f,
        all_found (SameBlock (bytes_of a.bytes) (bytes_of b.bytes)) h (others k (live_of a.bytes).extents) x
            r.keeps.blocks f,
      );
}

-- after another block is written
pub written-stays : {a b : WindowState} {n : ℕ} (k at : ℕ) → ChangesBytes current a b (k + at) n
    → IsTrue (has_room (live_of a.bytes) k (at + n)) → (h : ℕ) → (h ≡ k → ⊥) → ObjectStays a b h
written-stays {a} {b} {n} k at change room h apart = record {
  each = λ x e role. (
    ap (λ (l : LiveSet). extent_at l h) (same_live change) ∙ e,
    all_found (SameBlock (bytes_of a.bytes) (bytes_of b.bytes)) h (others k (live_of a.bytes).extents) x
        (changed-keeps current a b k at n change room).blocks (found-less h k x (live_of a.bytes).extents apart e),
  );
}

-- no entry leads to the block
pub sorted-beside : {a b : WindowState} {i : Index} (k : ℕ) (hs : List ℕ) → AreSortedHandles a i hs
    → AllByRecursion (λ g. g ≡ k → ⊥) hs → ((h : ℕ) → (h ≡ k → ⊥) → ObjectStays a b h) → AreSortedHandles b i hs
sorted-beside {a} {b} {i} k hs s other f = sorted-stays a b i hs (each hs other) s
  where
    each : (gs : List ℕ) → AllByRecursion (λ g. g ≡ k → ⊥) gs → AllByRecursion (ObjectStays a b) gs
    each [] o = tt
    each (g ∷ gs) o = (f g o.0, each gs o.1)

-- two steps, one after the other
pub stays-trans : {a b c : WindowState} → ((h : ℕ) → ObjectStays a b h) → ((h : ℕ) → ObjectStays b c h) → (h : ℕ)
    → ObjectStays a c h
stays-trans {a} {b} {c} f g h = record {
  each = λ x e role.
      let p = (f h).each x e role in let q = (g h).each x p.0 role in
      (q.0, SameBlock-trans (bytes_of a.bytes) (bytes_of b.bytes) (bytes_of c.bytes) x p.1 q.1);
}

-- an object stays where nothing changes
pub stays-itself : {a : WindowState} (h : ℕ) → ObjectStays a a h
stays-itself {a} h = record {
  each = λ x e role.
      (e, record { payload = record { at = λ k f g. refl }; colour = refl });
}

-- if blocks and the live set stay
pub kept-stays : {a b : WindowState} → EncodesLiveSet current b.bytes (live_of a.bytes)
    → KeepsBlocks a b (live_of a.bytes).extents → (h : ℕ) → ObjectStays a b h
kept-stays {a} {b} laid k h = record {
  each = λ x e role. (
    ap (λ (l : LiveSet). extent_at l h) (lay_out_one current b.bytes (live_of a.bytes) laid) ∙ e,
    all_found (SameBlock (bytes_of a.bytes) (bytes_of b.bytes)) h (live_of a.bytes).extents x k.blocks e,
  );
}

-- if all stays except the block of an index and its words
pub beside-stays : {a b : WindowState} {at : ℕ} {t : BackingArray} {hs : List ℕ} → IsIndexOf a at t hs
    → KeepsOutsideIndex a b at (beside_table t (live_of a.bytes).extents) → ((h : ℕ) (x : Extent) → first h
    (live_of a.bytes).extents ≡ Some x → (link_at (bytes_of a.bytes) at ≡ Some h → ⊥) → extent_at (live_of b.bytes) h
    ≡ Some x) → (h : ℕ) → ObjectStays a b h
beside-stays {a} {t = t} i k found h = record {
  each = λ x e role. (
    found h x e (λ leads. link-apart i h x e role h leads refl),
    in-kept (beside_table t (live_of a.bytes).extents) h x k (beside-found i h x e role),
  );
}

-- after an index moves into a block that was in use
pub moved-stays : {a b : WindowState} {at : ℕ} {t : BackingArray} {hs : List ℕ} {g slots : ℕ}
    → IsIndexOf a at t hs → IsBlockFor a g slots → live_of b.bytes ≡ without_index_block a at
    → KeepsOutsideIndex a b at (others g (without_index_block a at).extents) → (h : ℕ) → ObjectStays a b h
moved-stays {a} {at = at} {g = g} {slots} i block live k h = record {
  each = λ x e role.
      let f = unlinked-found i h x e role (live_of a.bytes) e in
      let y = block.extent in let two = and_parts (same_role y.role IndexRole) (holds y (8 * slots)) block.fits in (
        ap (λ (l : LiveSet). extent_at l h) live ∙ f,
        in-kept (others g (without_index_block a at).extents) h x k (found-less h g x (without_index_block a at).extents
            (roles-apart (live_of a.bytes) h g x y e block.found role two.0) f),
      );
}

-- ---- one more, and one less

flipped : (i : Index) (m : Memory) (g h : ℕ) → sort_order i m g h ≡ Greater → sort_order i m h g ≡ Less
flipped Named m g h e = nat_list_cmp_total.antisymm (name_at m h) (name_at m g) ∙ ap ordering_reverse e
flipped Unique m g h e = nat_cmp_total.antisymm (code_at m h) (code_at m g) ∙ ap ordering_reverse e

gets-all : (P : ℕ → Type 0) (hs : List ℕ) → ((j g : ℕ) → slice_get hs j ≡ Some g → P g) → AllByRecursion P hs
gets-all P [] f = tt
gets-all P (x ∷ xs) f = (f 0 x refl, gets-all P xs (λ j g e. f (suc j) g e))

sorted-insert : (c : ℕ → ℕ → Ordering) (hs : List ℕ) (i h : ℕ) → i ≤ length hs → IsStrictlySortedBy c hs
    → ((j g : ℕ) → slice_get hs j ≡ Some g → (j < i → c g h ≡ Less) × (i ≤ j → c h g ≡ Less))
    → IsStrictlySortedBy c (insert hs i h)
unfolding IsStrictlySortedBy
sorted-insert c [] zero h l s f = (tt, tt)
sorted-insert c [] (suc i) h l s f = absurd (omega arith)
sorted-insert c (x ∷ xs) zero h l s f =
    (gets-all (λ g. c h g ≡ Less) (x ∷ xs) (λ j g e. (f j g e).1 (omega arith)), s)
sorted-insert c (x ∷ xs) (suc i) h l s f = (
  insert_all (λ g. c x g ≡ Less) xs i h (omega arith) s.0 ((f 0 x refl).0 (omega arith)),
  sorted-insert c xs i h (omega arith) s.1 (λ j g e.
      let p = f (suc j) g e in (λ b. p.0 (omega arith), λ b. p.1 (omega arith))),
)

sorted-remove : (c : ℕ → ℕ → Ordering) (hs : List ℕ) (i : ℕ) → i < length hs → IsStrictlySortedBy c hs
    → IsStrictlySortedBy c (remove hs i)
unfolding IsStrictlySortedBy
sorted-remove c [] i l s = absurd (omega arith)
sorted-remove c (x ∷ xs) zero l s = s.1
sorted-remove c (x ∷ xs) (suc i) l s =
    (remove_all (λ g. c x g ≡ Less) xs i (omega arith) s.0, sorted-remove c xs i (omega arith) s.1)

pub one-more : {c : WindowState} {i : Index} {hs : List ℕ} {place h : ℕ}
    → AreSortedHandles c i hs → BelongsAt c i hs place h → AreSortedHandles c i (insert hs place h)
one-more {c} {i} {hs} {place} {h} s b = record {
  keys = insert_all (HasSortKey c i) hs place h b.within s.keys b.key;
  rises = sorted-insert (sort_order i (bytes_of c.bytes)) hs place h b.within s.rises
      (λ j g e. let p = b.each j g e in (p.0, λ l. flipped i (bytes_of c.bytes) g h (p.1 l)));
}

-- entries stay sorted without one
pub one-less : {c : WindowState} {i : Index} {hs : List ℕ} {place : ℕ} → AreSortedHandles c i hs → place < length hs
    → AreSortedHandles c i (remove hs place)
one-less {c} {i} {hs} {place} s l = record {
  keys = remove_all (HasSortKey c i) hs place l s.keys;
  rises = sorted-remove (sort_order i (bytes_of c.bytes)) hs place l s.rises;
}

-- an object whose key was not found belongs where that was looked up
order-by-key : (key : Entry) (m m' : Memory) (g h : ℕ) → SameSortKey (index_of key) m m' g → IsKeyOf key m' h
    → sort_order (index_of key) m' g h ≡ order m key g
order-by-key (Name s) m m' g h same is = ap₂ (λ xs ys. slice_cmp nat_cmp xs ys) same.1 is
order-by-key (Code n) m m' g h same is = ap₂ (λ x y. nat_cmp x y) same is

-- the place of a new key is where it belongs
pub belongs-at : {a b : WindowState} {i : Index} {hs : List ℕ} (key : Entry) (place h : ℕ) → index_of key ≡ i
    → AreSortedHandles a i hs → ((g : ℕ) → ObjectStays a b g) → HasSortKey b i h → IsKeyOf key (bytes_of b.bytes) h
    → FindsPosition (bytes_of a.bytes) key hs (Absent place) → BelongsAt b i hs place h
belongs-at {a} {b} {i} {hs} key place h sort s stays k is p =
    let m = bytes_of a.bytes in let m' = bytes_of b.bytes in
    record {
      key = k;
      within = p.0;
      each = λ j g f.
          let same = still-same a b i g (stays g) (all_at (HasSortKey a i) hs j g s.keys f) in
          let order = subst (λ x. sort_order x m' g h ≡ order m key g) sort (order-by-key key m m' g h
          (subst (λ x. SameSortKey x m m' g) (sym sort) same) is) in
          let q = p.1 j g f in (λ l. order ∙ q.0 l, λ l. order ∙ q.1 l);
    }

-- ---- a key has one place

clash : {K : Type 0} {R : K → K → Ordering} → IsTotalOrder R → (g h k : K) → R g h ≡ Less → R g k ≡ Equal
    → R h k ≡ Equal → ⊥
clash {K} {R} o g h k l e f =
    let same : R h g ≡ R k g = o.congr h k g f in
    let one : R h g ≡ Greater = o.antisymm h g ∙ ap ordering_reverse l in
    let other : R k g ≡ Equal = o.antisymm k g ∙ ap ordering_reverse e in
    let no : Greater ≡ Equal = sym one ∙ same ∙ other in cc

both-equal : (m : Memory) (key : Entry) (g h : ℕ) → sort_order (index_of key) m g h ≡ Less → order m key g ≡ Equal
    → order m key h ≡ Equal → ⊥
both-equal m (Name s) g h = clash nat_list_cmp_total (name_at m g) (name_at m h) s.now
both-equal m (Code n) g h = clash nat_cmp_total (code_at m g) (code_at m h) n

-- the key is not found at an earlier entry, and not missed there
module _ (m : Memory) (key : Entry) (hs : List ℕ) (rises : IsStrictlySortedBy (sort_order (index_of key) m) hs) where
  found-once : (i j : ℕ) → i < j → FindsPosition m key hs (Found i) → FindsPosition m key hs (Found j) → ⊥
  found-once i j l p q = both-equal m key p.0 q.0
      (less_at (sort_order (index_of key) m) hs i j p.0 q.0 rises l p.1 q.1) p.2 q.2

  found-or-absent : (i j : ℕ) → FindsPosition m key hs (Found i) → FindsPosition m key hs (Absent j) → ⊥
  found-or-absent i j p q = elim (cases_lt i j) [
    | inl l ↦ let less : order m key p.0 ≡ Less = (q.1 i p.0 p.1).0 l in let equal : order m key p.0 ≡ Equal = p.2 in cc
    | inr l ↦
        let greater : order m key p.0 ≡ Greater = (q.1 i p.0 p.1).1 l in let equal : order m key p.0 ≡ Equal = p.2 in cc
  ]

  absent-once : (i j : ℕ) → i < j → FindsPosition m key hs (Absent i) → FindsPosition m key hs (Absent j) → ⊥
  absent-once i j l p q =
      let h = get_or hs i 0 in let e = slice_get-get_or hs i 0 (omega (arith, l, q.0)) in
      let greater : order m key h ≡ Greater = (p.1 i h e).1 (omega arith) in
      let less : order m key h ≡ Less = (q.1 i h e).0 l in cc

-- a key has one place in sorted entries
pub one-place : (m : Memory) (key : Entry) (hs : List ℕ) (r s : Lookup)
    → IsStrictlySortedBy (sort_order (index_of key) m) hs → FindsPosition m key hs r → FindsPosition m key hs s → r ≡ s
one-place m key hs (Found i) (Found j) o p q = elim (cases_lt i j) [
  | inl l ↦ absurd (found-once m key hs o i j l p q)
  | inr f ↦ elim (cases_lt j i) [
    | inl l ↦ absurd (found-once m key hs o j i l q p)
    | inr g ↦ let same : i ≡ j = omega arith in ap (λ n. Found n) same
  ]
]
one-place m key hs (Found i) (Absent j) o p q = absurd (found-or-absent m key hs o i j p q)
one-place m key hs (Absent i) (Found j) o p q = absurd (found-or-absent m key hs o j i q p)
one-place m key hs (Absent i) (Absent j) o p q = elim (cases_lt i j) [
  | inl l ↦ absurd (absent-once m key hs o i j l p q)
  | inr f ↦ elim (cases_lt j i) [
    | inl l ↦ absurd (absent-once m key hs o j i l q p)
    | inr g ↦ let same : i ≡ j = omega arith in ap (λ n. Absent n) same
  ]
]

-- ---- an index has one list of entries

links-same : (m : Memory) (at : ℕ) (hs gs : List ℕ) → AreLinksTo m at hs → AreLinksTo m at gs → length hs ≡ length gs
    → hs ≡ gs
links-same m at [] [] p q e = refl
links-same m at [] (g ∷ gs) p q e = absurd (omega arith)
links-same m at (h ∷ hs) [] p q e = absurd (omega arith)
links-same m at (h ∷ hs) (g ∷ gs) p q e =
    ap₂ (λ x xs. x ∷ xs) (same_Some h g (sym p.0 ∙ q.0)) (links-same m (at + 8) hs gs p.1 q.1 (omega arith))

pub one-list : {c : WindowState} {at : ℕ} {t u : BackingArray} {hs gs : List ℕ} → IsIndexOf c at t hs
    → IsIndexOf c at u gs → hs ≡ gs
one-list {c} {at} {hs = hs} {gs} i j = by_case (link_at (bytes_of c.bytes) at) refl
  where
    by_case : (o : Option ℕ) → link_at (bytes_of c.bytes) at ≡ o → hs ≡ gs
    by_case None e = nil_from_length hs (no_entries i e) ∙ sym (nil_from_length gs (no_entries j e))
    by_case (Some b) e = links-same (bytes_of c.bytes) b hs gs (placed b i e).links (placed b j e).links
        (sym i.stands.count ∙ j.stands.count)

-- ---- the handle of a new entry

-- the handle is that of a block in use
pub aligned : {c : WindowState} {i : Index} {place h : ℕ} → CanAdd c i place h → h % 16 ≡ 0
aligned {c} {i} {place} {h} k =
    let key = k.belongs.key in let f = key-fits i key in let n = sort_key_end i (bytes_of c.bytes) h in
    block_aligned c h (room_block c h n k.index.index.heap (found-room (live_of c.bytes) h n key.extent key.found
    f.long)).block

-- with the new entry the entries are sorted, for each table
pub added-sorted : {c : WindowState} {i : Index} {place h : ℕ} {t : BackingArray} {hs : List ℕ} → CanAdd c i place h
    → IsIndexOf c (index_at i) t hs → AreSortedHandles c i (insert hs place h)
added-sorted {c} {i} {place} {h} k index =
    subst (λ gs. AreSortedHandles c i (insert gs place h)) (one-list k.index.index index)
    (one-more k.index.sorted k.belongs)
