-- An index stays if its words and its block do, and a growth stays usable; the block that an allocation got.
use Rattle.seg_index.proofs.Common as common
use common.{◌≡◌, refl, ap, subst, ◌∙◌, ℕ, ◌+◌, ◌*◌, ◌≤◌, List, [], ◌∷◌, arith, IsTrue, Option, Some, None, IfSome}
use common.{AllByRecursion, none-some, same_Some, current, WindowState, SameBytes, bytes_of, SameBytes-part}
use common.{SameBytes-word, Role, link_at, SameBytes-link, Extent, LiveSet, handle, added, others, AllocatesOk}
use common.{ChangesBytes, IsHeap, Deallocates, SameBlock, extent_at, has_room, live_of, BackingArray, changed-keeps}
use common.{found-less, laid-heap, released-live, IsIndexOf, AreIndexEntries, sym, ◌-◌, ◌^◌, inl, inr, min, cases_lt}
use common.{place, serves, allocated-live, found-new, live-rises, rising-insert, IsBlockFor, IndexRole, ◌<◌}
use common.{capacity_at, grown_capacity, EncodesLiveSet, KeepsBlocks}
use Rattle.seg_index.proofs.entries.Entries.{all_found, first, links_moved, long_enough, table_cases, placed}
use Rattle.seg_index.proofs.entries.HeapChanges.{InHeader, same_live}
use Rattle.seg_index.specs.{Growth.CanGrow, Growth.PreparesOk, Held.entry_count}
use Rattle.best_fit.proofs.Laws.{exchange-taken, kept-found, IsFresh, place-serves, too_long}
use Rattle.best_fit.specs.{Extents.end_of, Fit.insert}

-- the words and the links of an index are as they were, and its block is still in use
pub record Around (a b : WindowState) (at : ℕ) (t : BackingArray) : Type 0 where
  pub heap : IsHeap current b.bytes
  pub words : SameBytes (bytes_of a.bytes) (bytes_of b.bytes) at (at + 24)
  pub block : IfSome t.extent (λ x. (extent_at (live_of b.bytes) (handle x) ≡ Some x)
      × SameBytes (bytes_of a.bytes) (bytes_of b.bytes) (handle x) (end_of x))

-- an index stays where its words and its block do
pub stays : (a b : WindowState) (at : ℕ) (t : BackingArray) (hs : List ℕ) → IsIndexOf a at t hs → Around a b at t
    → IsIndexOf b at t hs
stays a b at t hs i r =
    let A = bytes_of a.bytes in let B = bytes_of b.bytes in
    record {
      heap = r.heap;
      stands = record {
        link = SameBytes-link A B at (at + 24) at r.words (omega arith) (omega arith) ∙ i.stands.link;
        count = SameBytes-word A B at (at + 24) (at + 8) r.words (omega arith) (omega arith) ∙ i.stands.count;
        capacity = SameBytes-word A B at (at + 24) (at + 16) r.words (omega arith) (omega arith) ∙ i.stands.capacity;
        -- the links are in the block, which has room for them
        entries = table_cases (λ u. IsIndexOf a at u hs → Around a b at u → AreIndexEntries B u hs)
            (λ cap j q. j.stands.entries) (λ cap x j q.
            let few = j.few in let long = long_enough j in
            links_moved A B (handle x) (handle x) hs j.stands.entries (λ k l. SameBytes-link A B (handle x) (end_of x)
            (handle x + 8 * k) q.block.1 (omega arith) (omega arith))) t i r;
      };
      slots = i.slots;
      few = i.few;
      held = table_cases (λ u. Around a b at u → IfSome u.extent (λ x. extent_at (live_of b.bytes) (handle x) ≡ Some x))
          (λ cap q. tt) (λ cap x q. q.block.0) t r;
      whole = i.whole;
    }

-- the block of an index is among the blocks that stay, and in use
pub Around-kept : (a b : WindowState) (at : ℕ) (t : BackingArray) (xs : List Extent) → IsHeap current b.bytes
    → SameBytes (bytes_of a.bytes) (bytes_of b.bytes) at (at + 24)
    → AllByRecursion (SameBlock (bytes_of a.bytes) (bytes_of b.bytes)) xs → ((x : Extent) → t.extent ≡ Some x
    → (first (handle x) xs ≡ Some x) × (extent_at (live_of b.bytes) (handle x) ≡ Some x)) → Around a b at t
Around-kept a b at t xs heap words same found = record { heap = heap; words = words; block = by_case t.extent refl }
  where
    by_case : (o : Option Extent) → t.extent ≡ o → IfSome o (λ x. (extent_at (live_of b.bytes) (handle x) ≡ Some x)
        × SameBytes (bytes_of a.bytes) (bytes_of b.bytes) (handle x) (end_of x))
    by_case None e = tt
    by_case (Some x) e =
        let f = found x e in
        (f.1, (all_found (SameBlock (bytes_of a.bytes) (bytes_of b.bytes)) (handle x) xs x same f.0).payload)

-- the link of an index with a block leads to it, and the block is found
pub record HasBlock (c : WindowState) (at : ℕ) (x : Extent) : Type 0 where
  pub leads : link_at (bytes_of c.bytes) at ≡ Some (handle x)
  pub found : extent_at (live_of c.bytes) (handle x) ≡ Some x

pub block_of : {c : WindowState} {at : ℕ} {t : BackingArray} {hs : List ℕ} (x : Extent)
    → IsIndexOf c at t hs → t.extent ≡ Some x → HasBlock c at x
block_of {c} {at} {t} {hs} x i e = table_cases (λ u. IsIndexOf c at u hs → u.extent ≡ Some x → HasBlock c at x)
    (λ cap j f. absurd (none-some x f)) (λ cap y j f.
    subst (λ z. HasBlock c at z) (same_Some y x f) (record { leads = j.stands.link; found = j.held })) t i e

-- these blocks stay, the index's block is one of them, and it is in use
still_kept : {a b : WindowState} {at : ℕ} {t : BackingArray} {hs : List ℕ} {l : LiveSet} (xs : List Extent)
    → InHeader at
    → IsIndexOf a at t hs → EncodesLiveSet current b.bytes l → KeepsBlocks a b xs → ((x : Extent) → HasBlock a at x
    → (first (handle x) xs ≡ Some x) × (extent_at (live_of b.bytes) (handle x) ≡ Some x)) → IsIndexOf b at t hs
still_kept {a} {b} {at} {t} {hs} {l} xs w i laid keeps found = stays a b at t hs i (Around-kept a b at t xs
    (laid-heap b.bytes l laid) (SameBytes-part (bytes_of a.bytes) (bytes_of b.bytes) 32 128 at (at + 24) keeps.behind
    w.behind w.small) keeps.blocks (λ x e. found x (block_of x i e)))

-- ---- after a block is allocated

-- a block that was in use is found after another is allocated
pub found_still : {a b : WindowState} {n h : ℕ} {role : Role} (g : ℕ) (x : Extent) → AllocatesOk current a b n role h
    → extent_at (live_of a.bytes) g ≡ Some x → extent_at (live_of b.bytes) g ≡ Some x
found_still {a} {b} {n} {h} {role} g x i e =
    kept-found a b 0 0 g x [] (i.extent ∷ []) current (exchange-taken current a b n role h 0 0 i) e tt

-- an index stays while a block is allocated
pub still_taken : {a b : WindowState} {at n h : ℕ} {role : Role} {t : BackingArray} {hs : List ℕ} → InHeader at
    → AllocatesOk current a b n role h → IsIndexOf a at t hs → IsIndexOf b at t hs
still_taken {a} w d i = still_kept (live_of a.bytes).extents w i d.live d.keeps
    (λ x q. (q.found, found_still (handle x) x d q.found))

-- ---- where another block is released, or written

-- a link to another block does not lead to this one
pub other_block : {g h : ℕ} (o : Option ℕ) → o ≡ Some h → (o ≡ Some g → ⊥) → h ≡ g → ⊥
other_block o e n q = n (e ∙ ap (λ k. Some k) q)

-- and it is found among the others
among_others : {a : WindowState} {at h : ℕ} → (link_at (bytes_of a.bytes) at ≡ Some h → ⊥)
    → (x : Extent) → HasBlock a at x → first (handle x) (others h (live_of a.bytes).extents) ≡ Some x
among_others {a} {at} {h} other x q = found-less (handle x) h x (live_of a.bytes).extents
    (other_block (link_at (bytes_of a.bytes) at) q.leads other) q.found

-- an index stays while another block is deallocated
pub still_released : {a b : WindowState} {at h : ℕ} {t : BackingArray} {hs : List ℕ} → InHeader at
    → Deallocates current a b h
    → (link_at (bytes_of a.bytes) at ≡ Some h → ⊥) → IsIndexOf a at t hs → IsIndexOf b at t hs
still_released {a} {b} {h = h} w r other i = still_kept (others h (live_of a.bytes).extents) w i r.live r.keeps (λ x q.
    let f = among_others other x q in
    (f, ap (λ (s : LiveSet). extent_at s (handle x)) (released-live current a b h r) ∙ f))

-- an index stays while another block is written
pub still_written : {a b : WindowState} {at n : ℕ} {t : BackingArray} {hs : List ℕ} (h k : ℕ) → InHeader at
    → ChangesBytes current a b (h + k) n → IsTrue (has_room (live_of a.bytes) h (k + n))
    → (link_at (bytes_of a.bytes) at ≡ Some h → ⊥) → IsIndexOf a at t hs → IsIndexOf b at t hs
still_written {a} {b} {n = n} h k w d room other i =
    still_kept (others h (live_of a.bytes).extents) w i d.live (changed-keeps current a b h k n d room)
    (λ x q. (among_others other x q, ap (λ (s : LiveSet). extent_at s (handle x)) (same_live d) ∙ q.found))

-- ---- the block that a request took

fresh : {a b : WindowState} {n h : ℕ} {role : Role} → (i : AllocatesOk current a b n role h)
    → IsFresh 128 i.extent (live_of a.bytes).extents
fresh {a} i =
    let l = live_of a.bytes in rising-insert 128 i.extent l.extents (live-rises (added l i.extent) i.live.proper)

-- the new block is not the index's: its handle was not in use before
pub not_its_own : (a b : WindowState) (at n : ℕ) (role : Role) (h : ℕ) (t : BackingArray) (hs : List ℕ)
    → IsIndexOf a at t hs → AllocatesOk current a b n role h → link_at (bytes_of a.bytes) at ≡ Some h → ⊥
not_its_own a b at n role h t hs i al leads =
    let p = placed h i leads in let y = al.extent in let x = p.extent in let xs = (live_of a.bytes).extents in
    let f = fresh al in
    all_found (λ (z : Extent). y.offset ≡ z.offset → ⊥) h xs x f.differs p.found (omega arith)

-- an allocated block is found by its handle
pub is_found : {a b : WindowState} {n h : ℕ} {role : Role} → (i : AllocatesOk current a b n role h)
    → extent_at (live_of b.bytes) h ≡ Some i.extent
is_found {a} {b} {n} {h} {role} i =
    let y = i.extent in let xs = (live_of a.bytes).extents in
    ap (λ (l : LiveSet). extent_at l h) (allocated-live current a b n role h i) ∙ ap (λ k. first k (insert y xs)) i.at
    ∙ found-new y xs (fresh i).differs

-- an allocated block suits an index
pub taken_block : (a b : WindowState) (n slots h : ℕ) → AllocatesOk current a b n IndexRole h → n ≡ 8 * slots
    → IsBlockFor b h slots
taken_block a b n slots h i e = record {
  extent = i.extent;
  found = is_found i;
  fits = subst (λ k. IsTrue (serves i.extent IndexRole k)) e
      (place-serves (live_of a.bytes) n IndexRole i.extent i.placed);
}

-- ---- the number of requested bytes

-- a number of bytes beyond all words has no fit, since the greatest word has none
pub asked : (c : WindowState) (n k : ℕ) (role : Role) → IsHeap current c.bytes → k ≡ min (n * 8) (2 ^ 64 - 1)
    → place (live_of c.bytes) (8 * n) role ≡ place (live_of c.bytes) k role
asked c n k role heap e = elim (cases_lt 1073741824 k) [
  | inl l ↦ too_long c (8 * n) role heap (omega arith) ∙ sym (too_long c k role heap l)
  | inr l ↦ let same : 8 * n ≡ k = omega arith in ap (λ j. place (live_of c.bytes) j role) same
]

-- a request with a fit is for the intended number of bytes
pub meant : {a b : WindowState} {k h : ℕ} {role : Role} (n : ℕ)
    → IsHeap current a.bytes → AllocatesOk current a b k role h → k ≡ min (n * 8) (2 ^ 64 - 1) → k ≡ 8 * n
meant {a} {k = k} {role = role} n heap i e = elim (cases_lt 1073741824 k) [
  | inl l ↦ absurd (none-some i.extent (sym (too_long a k role heap l) ∙ i.placed))
  | inr l ↦ omega arith
]

-- ---- a growth stays usable if the words of its index and its block stay

-- the words of an index
record Words (a b : WindowState) (at : ℕ) : Type 0 where
  pub link : link_at (bytes_of b.bytes) at ≡ link_at (bytes_of a.bytes) at
  pub count : entry_count b at ≡ entry_count a at
  pub capacity : capacity_at b at ≡ capacity_at a at

words_in : (a b : WindowState) {at : ℕ} → SameBytes (bytes_of a.bytes) (bytes_of b.bytes) 32 128 → InHeader at
    → Words a b at
words_in a b {at} s h =
    let A = bytes_of a.bytes in let B = bytes_of b.bytes in
    record {
      link = SameBytes-link A B 32 128 at s h.behind (omega arith);
      count = SameBytes-word A B 32 128 (at + 8) s (omega arith) (omega arith);
      capacity = SameBytes-word A B 32 128 (at + 16) s (omega arith) (omega arith);
    }

still_grows : {a b : WindowState} {at : ℕ} (g : Option ℕ) → Words a b at → ((h : ℕ) (x : Extent) → g ≡ Some h
    → extent_at (live_of a.bytes) h ≡ Some x → extent_at (live_of b.bytes) h ≡ Some x) → CanGrow a at g → CanGrow b at g
still_grows None w f can = omega arith
still_grows {b = b} {at} (Some h) w f can =
    let k = can.0 in
    let block : IsBlockFor b h (grown_capacity (capacity_at b at)) = subst (λ n. IsBlockFor b h n) (ap grown_capacity
    (sym w.capacity)) (record { extent = k.extent; found = f h k.extent refl k.found; fits = k.fits }) in
    (block, λ e. can.1 (sym w.link ∙ e))

-- a growth that was reserved can be used
pub prepared : (a b : WindowState) (at : ℕ) (g : Option ℕ) (t : BackingArray) (hs : List ℕ)
    → IsIndexOf a at t hs → PreparesOk a b at g → 32 ≤ at → at + 24 ≤ 128 → CanGrow b at g
prepared a b at None t hs i k low head = subst (λ (c : WindowState). entry_count c at < capacity_at c at) (sym k.1) k.0
prepared a b at (Some h) t hs i k low head =
    let slots = grown_capacity (capacity_at a at) in
    let w = words_in a b k.1.keeps.behind (record { behind = low; small = head }) in (
      subst (λ n. IsBlockFor b h n) (ap grown_capacity (sym w.capacity))
          (taken_block a b (8 * slots) slots h k.1 refl),
      λ e. not_its_own a b at (8 * slots) IndexRole h t hs i k.1 (sym w.link ∙ e),
    )

-- a growth can be used still after a block is allocated
pub taken : {a b : WindowState} {at n h : ℕ} {role : Role} (g : Option ℕ)
    → CanGrow a at g → AllocatesOk current a b n role h → InHeader at → CanGrow b at g
taken {a} {b} g can d w = still_grows g (words_in a b d.keeps.behind w) (λ k x q e. found_still k x d e) can

-- a growth can be used still after another block is deallocated
pub growth-released : {a b : WindowState} {at h : ℕ} (g : Option ℕ) → CanGrow a at g → Deallocates current a b h
    → (g ≡ Some h → ⊥) → InHeader at → CanGrow b at g
growth-released {a} {b} {h = h} g can d other w = still_grows g (words_in a b d.keeps.behind w) (λ k x q e.
    ap (λ (l : LiveSet). extent_at l k) (released-live current a b h d)
    ∙ found-less k h x (live_of a.bytes).extents (other_block g q other) e) can

-- a growth can be used still after another block is written
pub growth-written : {a b : WindowState} {at n : ℕ} (g : Option ℕ) (h k : ℕ) → CanGrow a at g
    → ChangesBytes current a b (h + k) n → IsTrue (has_room (live_of a.bytes) h (k + n)) → InHeader at → CanGrow b at g
growth-written {a} {b} {n = n} g h k can d room w =
    let keeps = changed-keeps current a b h k n d room in
    still_grows g (words_in a b keeps.behind w) (λ j x q e. ap (λ (l : LiveSet). extent_at l j) (same_live d) ∙ e) can
