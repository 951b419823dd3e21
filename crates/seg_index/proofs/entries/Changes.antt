-- An index with one entry more or less, in another block, or with no more places than entries.
use Rattle.seg_index.proofs.Common as common
use common.{◌≡◌, sym, ap, subst, ◌∙◌, ℕ, ◌+◌, ◌-◌, ◌*◌, ◌%◌, ◌<◌, ◌≤◌, inl, inr, List, length, arith, Option, Some}
use common.{IfSome, insert, remove, AllByRecursion, length-insert, length-remove, current, WindowState, bytes_of}
use common.{word_at, SameBytesExcept-word, link_at, KeepTargets, SameBytesExcept-link, Extent, LiveSet, handle}
use common.{ChangesBytes, extent_at, live_of, BackingArray, room-less, KeepsOutsideIndex, beside_table, IsIndexOf}
use common.{AreIndexEntries, AreLinksTo, refl, ap₂, ◌^◌, min, IsTrue, None, nat_lt, unwrap_or, and_from, and_parts}
use common.{leb-true, same_Some, Memory, Role, holds, others, AllocatesOk, IsHeap, Deallocates, has_room, is_live_in}
use common.{same_role, serves, found-room, room_block, IsBlockFor, without_index_block, without_link, lt-ltb, IndexRole}
use common.{◌==◌}
use common.{none-some, SameBytes-word, SameBytes-link, released, EncodesLiveSet, among, found-new, laid-heap}
use common.{live-rises, rising-insert}
use Rattle.seg_index.proofs.entries.HeapChanges.{changed_heap, same_live, keeps_both, InHeader, keeps_words}
use Rattle.seg_index.proofs.entries.HeapChanges.{keeps_written}
use Rattle.seg_index.proofs.entries.HeapChanges.{others_without, rest_of, rest_others, rest_trans, rest_without}
use Rattle.seg_index.proofs.entries.HeapChanges.{changed_trans}
use Rattle.seg_index.proofs.{entries.HeapChanges.taken_others, entries.Entries.insert_all, entries.Entries.insert_links}
use Rattle.seg_index.proofs.entries.Entries.{links_moved, remove_all, Placed, beside, leads_from, no_entries, placed}
use Rattle.seg_index.proofs.entries.Entries.{bare}
use Rattle.seg_index.proofs.entries.Entries.{table_cases, remove_links, found_handle, found_live, inside, entry_here}
use Rattle.seg_index.proofs.entries.Frame.{still_released, still_taken, still_written, meant, not_its_own, taken_block}
use Rattle.seg_index.specs.{Capacities.ShrinksIndex, Capacities.with_cut, Held.InstallsBlock}
use Rattle.best_fit.proofs.Laws.{block_aligned, gaps-header, gaps-payload, gaps-then, keeps-refl, resized-live, Rising}
use Rattle.best_fit.proofs.Laws.{found-less, found-more, released-live, shorter-IsShorter}
use Rattle.seg_index.proofs.entries.Sorted.{beside-stays, keeps-sorted, unchanged-sorted}
use Rattle.std.proofs.lemmas.List.{nil_from_length}
use Rattle.std.proofs.lemmas.Bool.{cond-false, cond-true, eq-eqb, le-leb, ne_eqb}
use Rattle.std.specs.Prelude.{option_map}
use Rattle.best_fit.specs.Heap.{ResizesBlock, ShrinksInPlace, KeepsGaps}
use Rattle.best_fit.specs.{Table.shrunk_backing, Table.no_backing, Fit.resized, Fit.shorter}

-- other links in the block, and then their number in the header
counted : {a b c : WindowState} {at block f n place count : ℕ} {t : BackingArray} {hs : List ℕ} (gs : List ℕ)
    → Placed a at t hs block
    → InHeader at → ChangesBytes current a b f n → block ≤ f → AreLinksTo (bytes_of b.bytes) block gs
    → length gs ≤ t.capacity → AllByRecursion (λ h. h % 16 ≡ 0) gs → place ≡ at → ChangesBytes current b c (place + 8) 8
    → word_at (bytes_of c.bytes) (place + 8) ≡ count → count ≡ length gs → IsIndexOf c at t gs
counted {a} {b} {c} {at} {block} {f} {n} {place} {count} {t} gs p w one low links few whole e change word long =
    let A = bytes_of a.bytes in let B = bytes_of b.bytes in let C = bytes_of c.bytes in let i = p.index in
    let two : ChangesBytes current b c (at + 8) 8 = subst (λ k. ChangesBytes current b c (k + 8) 8) e change in
    let links2 : AreLinksTo C block gs = links_moved B C block block gs links
    (λ k l. SameBytesExcept-link B C (at + 8) 8 (block + 8 * k) two.rest (inr (omega arith))) in
    record {
      heap = changed_heap two;
      stands = record {
        link = SameBytesExcept-link B C (at + 8) 8 at two.rest (inl (omega arith))
            ∙ SameBytesExcept-link A B f n at one.rest (inl (omega arith)) ∙ i.stands.link;
        count = ap (λ k. word_at C (k + 8)) (sym e) ∙ word ∙ long;
        capacity = SameBytesExcept-word B C (at + 8) 8 (at + 16) two.rest (inr (omega arith))
            ∙ SameBytesExcept-word A B f n (at + 16) one.rest (inl (omega arith)) ∙ i.stands.capacity;
        entries = subst (λ (o : Option Extent). AreIndexEntries C (record { capacity = t.capacity; extent = o }) gs)
            (sym p.is) (subst (λ k. AreLinksTo C k gs) (sym p.begins) links2);
      };
      slots = i.slots;
      few = few;
      held = subst (λ (l : LiveSet). IfSome t.extent (λ x. extent_at l (handle x) ≡ Some x))
          (sym (same_live two ∙ same_live one)) i.held;
      whole = whole;
    }

-- entries moved up and one written: it is inserted
pub inserted : {a b c : WindowState} {at block here place count h : ℕ} {t : BackingArray} {hs : List ℕ}
    → Placed a at t hs block → InHeader at → count ≡ length hs → here ≤ count
    → count < t.capacity → h % 16 ≡ 0 → ChangesBytes current a b (block + 8 * here) (8 * (count - here) + 8)
    → link_at (bytes_of b.bytes) (block + 8 * here) ≡ Some h → KeepTargets (bytes_of a.bytes) (bytes_of b.bytes)
    (block + 8 * here) (block + 8 * here + 8) (count - here) → place ≡ at → ChangesBytes current b c (place + 8) 8
    → word_at (bytes_of c.bytes) (place + 8) ≡ count + 1 → IsIndexOf c at t (insert hs here h)
inserted {a} {b} {block = block} {here} {count = count} {h} {hs = hs} p w long within room even one there tail e two
    word =
    let A = bytes_of a.bytes in let B = bytes_of b.bytes in
    let links : AreLinksTo B block (insert hs here h) = insert_links block block here h hs p.links (omega arith)
    (λ k l. SameBytesExcept-link A B (block + 8 * here) (8 * (count - here) + 8) (block + 8 * k) one.rest
    (inl (omega arith)))
    there (subst (λ n. KeepTargets A B (block + 8 * here) (block + 8 * here + 8) (n - here)) long tail) in
    let more = length-insert hs here h (omega arith) in
    counted (insert hs here h) p w one (omega arith) links (omega arith)
    (insert_all (λ k. k % 16 ≡ 0) hs here h (omega arith) p.index.whole even) e two word (omega arith)

-- entries moved down over one: it is removed
pub removed : {a b c : WindowState} {at block here place count : ℕ} {t : BackingArray} {hs : List ℕ}
    → Placed a at t hs block → InHeader at
    → count ≡ length hs → here < count → ChangesBytes current a b (block + 8 * here) (8 * (count - here - 1))
    → KeepTargets (bytes_of a.bytes) (bytes_of b.bytes) (block + (8 * here + 8)) (block + 8 * here) (count - here - 1)
    → place ≡ at → ChangesBytes current b c (place + 8) 8
    → word_at (bytes_of c.bytes) (place + 8) ≡ count - 1 → IsIndexOf c at t (remove hs here)
removed {a} {b} {block = block} {here} {count = count} {hs = hs} p w long within one tail e two word =
    let A = bytes_of a.bytes in let B = bytes_of b.bytes in
    let links : AreLinksTo B block (remove hs here) = remove_links block here hs p.links (omega arith)
    (λ k l. SameBytesExcept-link A B (block + 8 * here) (8 * (count - here - 1)) (block + 8 * k) one.rest
    (inl (omega arith)))
    (subst (λ n. KeepTargets A B (block + (8 * here + 8)) (block + 8 * here) (n - here - 1)) long tail) in
    let less = length-remove hs here (omega arith) in
    counted (remove hs here) p w one (omega arith) links (omega arith)
    (remove_all (λ k. k % 16 ≡ 0) hs here (omega arith) p.index.whole) e two word (omega arith)

-- all but the block and the words stays
pub block_and_count : {a b c : WindowState} {at block n place : ℕ} {t : BackingArray} {hs : List ℕ}
    → Placed a at t hs block
    → InHeader at → (k : ℕ) → ChangesBytes current a b (block + k) n → k + n ≤ 8 * t.capacity → place ≡ at
    → ChangesBytes current b c (place + 8) 8 → KeepsOutsideIndex a c at (beside_table t (live_of a.bytes).extents)
block_and_count {a} {b} {c} {at} {block} {n} {t = t} p w k one few e two =
    let xs = (live_of a.bytes).extents in
    let room = room-less (live_of a.bytes) block (8 * t.capacity) (k + n) few p.room in
    let word : ChangesBytes current b c (at + 8) 8 = subst (λ j. ChangesBytes current b c (j + 8) 8) e two in
    subst (λ (ys : List Extent). KeepsOutsideIndex a c at ys) (beside p xs)
    (keeps_both block k one room word w (omega arith) (omega arith))

-- no byte of a gap changes then
pub gaps_kept : {a b c : WindowState} {at block n place : ℕ} {t : BackingArray} {hs : List ℕ}
    → Placed a at t hs block → InHeader at → (k : ℕ) → ChangesBytes current a b (block + k) n
    → k + n ≤ 8 * t.capacity → place ≡ at → ChangesBytes current b c (place + 8) 8 → KeepsGaps a c
gaps_kept {a} {b} {c} {at} {block} {n} {t = t} p w k one few e two =
    let room = room-less (live_of a.bytes) block (8 * t.capacity) (k + n) few p.room in
    let word : ChangesBytes current b c (at + 8) 8 = subst (λ j. ChangesBytes current b c (j + 8) 8) e two in
    gaps-then a b c (block + k) n one (gaps-payload a b block (k + n) (block + k) n one room (omega arith)
    (omega arith)) (gaps-header b c (at + 8) 8 word (omega arith))

-- ---- a block that is offered

block_room : (c : WindowState) (h slots : ℕ) → IsBlockFor c h slots
    → IsTrue (has_room (live_of c.bytes) h (8 * slots))
block_room c h slots f =
    let n = 8 * slots in let x = f.extent in let two = and_parts (same_role x.role IndexRole) (holds x n) f.fits in
    found-room (live_of c.bytes) h n x f.found (leb-true (n + 16) x.len two.1)

-- the block of an index begins at a multiple of 16
pub block_whole : {c : WindowState} {h slots : ℕ} → IsHeap current c.bytes → IsBlockFor c h slots → h % 16 ≡ 0
block_whole {c} {h} {slots} heap f =
    block_aligned c h (room_block c h (8 * slots) heap (block_room c h slots f)).block

-- a change leaves it
pub still_offered : {a b : WindowState} {from n h slots : ℕ} → ChangesBytes current a b from n → IsBlockFor a h slots
    → IsBlockFor b h slots
still_offered {h = h} c f = record {
  extent = f.extent;
  found = ap (λ (l : LiveSet). extent_at l h) (same_live c) ∙ f.found;
  fits = f.fits;
}

-- ---- the three words

-- the words of an index, and nothing else, are written
pub record Headed (a d : WindowState) (at : ℕ) (to : Option ℕ) (count capacity : ℕ) : Type 0 where
  pub change : ChangesBytes current a d at 24
  pub link : link_at (bytes_of d.bytes) at ≡ to
  pub count_word : word_at (bytes_of d.bytes) (at + 8) ≡ count
  pub capacity_word : word_at (bytes_of d.bytes) (at + 16) ≡ capacity

-- the three words of an index are written
pub headed : {a b c d : WindowState} {place at count capacity : ℕ} {to : Option ℕ} → place ≡ at
    → ChangesBytes current a b place 8 → link_at (bytes_of b.bytes) place ≡ to → ChangesBytes current b c (place + 8) 8
    → word_at (bytes_of c.bytes) (place + 8) ≡ count → ChangesBytes current c d (place + 16) 8
    → word_at (bytes_of d.bytes) (place + 16) ≡ capacity → Headed a d at to count capacity
headed {a} {b} {c} {d} {place} {at} {count} {capacity} {to} e one leads two is three word =
    let B = bytes_of b.bytes in let C = bytes_of c.bytes in let D = bytes_of d.bytes in
    let first : ChangesBytes current a c place 16 =
    changed_trans place 16 one two (omega arith) (omega arith) (omega arith) (omega arith) in
    let all : Headed a d place to count capacity = record {
      change = changed_trans place 24 first three (omega arith) (omega arith) (omega arith) (omega arith);
      link = SameBytesExcept-link C D (place + 16) 8 place three.rest (inl (omega arith))
          ∙ SameBytesExcept-link B C (place + 8) 8 place two.rest (inl (omega arith)) ∙ leads;
      count_word = SameBytesExcept-word C D (place + 16) 8 (place + 8) three.rest (inl (omega arith)) ∙ is;
      capacity_word = word;
    } in
    subst (λ k. Headed a d k to count capacity) e all

-- the words link to a block whose first links are set
pub settled : {a d : WindowState} {at block count capacity : ℕ} (hs : List ℕ)
    → Headed a d at (Some block) count capacity → InHeader at → IsHeap current a.bytes
    → (f : IsBlockFor a block capacity) → count ≤ capacity → 0 < capacity → AreLinksTo (bytes_of a.bytes) block hs
    → count ≡ length hs → AllByRecursion (λ h. h % 16 ≡ 0) hs → InstallsBlock a d at block capacity hs
settled {a} {d} {at} {block} {count} {capacity} hs h w heap f within some links long whole =
    let A = bytes_of a.bytes in let D = bytes_of d.bytes in let x = f.extent in
    let lies = inside a block (8 * capacity) heap (block_room a block capacity f) in
    let same = found_handle a block x heap f.found in
    let there : AreLinksTo D block hs = links_moved A D block block hs links
    (λ k l. SameBytesExcept-link A D at 24 (block + 8 * k) h.change.rest (inr (omega arith))) in
    let index : IsIndexOf d at (record { capacity = capacity; extent = Some x }) hs = record {
      heap = changed_heap h.change;
      stands = record {
        link = h.link ∙ ap (λ k. Some k) (sym same);
        count = h.count_word ∙ long;
        capacity = h.capacity_word;
        entries = subst (λ k. AreLinksTo D k hs) (sym same) there;
      };
      slots = and_from (nat_lt 0 capacity) (serves x IndexRole (8 * capacity)) (lt-ltb 0 capacity some) f.fits;
      few = omega arith;
      held = ap (λ (l : LiveSet). extent_at l (handle x)) (same_live h.change)
          ∙ ap (λ k. extent_at (live_of a.bytes) k) same ∙ f.found;
      whole = whole;
    } in
    subst (λ (o : Option Extent). IsIndexOf d at (record { capacity = capacity; extent = o }) hs) (sym f.found) index

-- as many places as were meant, in a block that was in use before
pub index_in : (b d e : WindowState) (h : ℕ) {at k slots : ℕ} {hs : List ℕ}
    → live_of d.bytes ≡ live_of b.bytes → k ≡ slots → InstallsBlock d e at h k hs → InstallsBlock b e at h slots hs
index_in b d e h {at} {slots = slots} {hs} same is i = subst (λ (l : LiveSet). IsIndexOf e at
    (record { capacity = slots; extent = extent_at l h }) hs) same (subst (λ n. InstallsBlock d e at h n hs) is i)

-- the block to which the link led before
pub gone : (c : WindowState) {link : Option ℕ} {block : ℕ} (old : ℕ) → link ≡ Some old
    → IfSome link (λ h. IsTrue (is_live_in (live_of c.bytes) h) × (h ≡ block → ⊥))
    → IsTrue (is_live_in (live_of c.bytes) old) × (old ≡ block → ⊥)
gone c {block = block} old e known = subst (λ (o : Option ℕ).
    IfSome o (λ h. IsTrue (is_live_in (live_of c.bytes) h) × (h ≡ block → ⊥))) e known

-- the old block is freed
pub settled_released : {a d e : WindowState} {at block old count capacity : ℕ} {t : BackingArray} {hs : List ℕ}
    → Headed a d at (Some block) count capacity → InHeader at → Deallocates current d e old → (old ≡ block → ⊥)
    → IsIndexOf d at t hs → IsIndexOf e at t hs
settled_released {block = block} {old = old} h w r other i =
    still_released w r (λ q. other (same_Some old block (sym q ∙ h.link))) i

-- ---- the parts that stay

-- the words written and the old block deallocated: the others stay
pub headed_released_keeps : {a d e : WindowState} {at count capacity : ℕ} {to : Option ℕ} (h : ℕ)
    → Headed a d at to count
    capacity → Deallocates current d e h → InHeader at → KeepsOutsideIndex a e at (others h (live_of a.bytes).extents)
headed_released_keeps {a} {d} {e} {at} h w r in_header =
    rest_trans (rest_others h (keeps_words at w.change in_header (omega arith) (omega arith)))
    (subst (λ (l : LiveSet). KeepsOutsideIndex d e at (others h l.extents)) (same_live w.change)
    (rest_of r.keeps in_header))

-- ---- an index and a new block for it, which is not its own

-- the index's links are in its block, from a place on; without a block there are none, at any place
pub record Move : Type 0 where
  pub at : ℕ
  pub block : ℕ
  pub slots : ℕ
  pub from : ℕ
  pub link : Option ℕ
  pub table : BackingArray
  pub handles : List ℕ

-- a block that is offered to an index with more places
pub record Offer (c : WindowState) (m : Move) : Type 0 where
  pub header : InHeader m.at
  pub index : IsIndexOf c m.at m.table m.handles
  pub leads : link_at (bytes_of c.bytes) m.at ≡ m.link
  pub begins : m.from ≡ unwrap_or m.link m.block
  pub offered : IsBlockFor c m.block m.slots
  pub apart : m.link ≡ Some m.block → ⊥

-- the offered block has room for the entries
pub target : {c : WindowState} {m : Move} (n : ℕ) → Offer c m → n ≤ 8 * m.slots
    → IsTrue (has_room (live_of c.bytes) m.block n)
target {c} {m} n o few =
    room-less (live_of c.bytes) m.block (8 * m.slots) n few (block_room c m.block m.slots o.offered)

-- a new block is offered to the index
pub offer : {c : WindowState} {at h slots from place : ℕ} {link : Option ℕ} {t : BackingArray} {hs : List ℕ}
    → InHeader at → place ≡ at → link ≡ link_at (bytes_of c.bytes) place → from ≡ unwrap_or link h
    → IsBlockFor c h slots → (link_at (bytes_of c.bytes) at ≡ Some h → ⊥) → IsIndexOf c at t hs
    → Offer c (record { at = at; block = h; slots = slots; from = from; link = link; table = t; handles = hs })
offer {c} w e f begins block apart i =
    let leads = leads_from c e f refl in record {
      header = w;
      index = i;
      leads = leads;
      begins = begins;
      offered = block;
      apart = λ q. apart (leads ∙ q);
    }

-- a block that was allocated is such a block
pub taken_offer : {a b : WindowState} {at n k h from place : ℕ} {link : Option ℕ} {t : BackingArray} {hs : List ℕ}
    → InHeader at → AllocatesOk current a b k IndexRole h → k ≡ min (n * 8) (2 ^ 64 - 1)
    → place ≡ at → link ≡ link_at (bytes_of b.bytes) place → from ≡ unwrap_or link h → IsIndexOf a at t hs
    → Offer b (record { at = at; block = h; slots = n; from = from; link = link; table = t; handles = hs })
taken_offer {a} {b} {at} {n} {k} {h} {t = t} {hs} w al much e f begins i =
    let j = still_taken w al i in let same = i.stands.link ∙ sym j.stands.link in
    offer w e f begins (taken_block a b k n h al (meant n i.heap al much))
    (λ q. not_its_own a b at k IndexRole h t hs i al (same ∙ q)) j

-- the place from which the links are moved, and the old block
pub record Source (c : WindowState) (m : Move) (link : Option ℕ) : Type 0 where
  pub links : AreLinksTo (bytes_of c.bytes) m.from m.handles
  pub room : (n : ℕ) → n ≤ 8 * length m.handles → IsTrue (has_room (live_of c.bytes) m.from n)
  pub left : IfSome link (λ g. IsTrue (is_live_in (live_of c.bytes) g) × (g ≡ m.block → ⊥))

-- the old block holds the entries
pub source : {c : WindowState} {m : Move} → Offer c m → Source c m (link_at (bytes_of c.bytes) m.at)
source {c} {m} o = subst (λ (p : Option ℕ). Source c m p) (sym o.leads) (by_case m.link o.leads o.begins o.apart)
  where
    by_case : (p : Option ℕ) → link_at (bytes_of c.bytes) m.at ≡ p → m.from ≡ unwrap_or p m.block
        → (p ≡ Some m.block → ⊥) → Source c m p
    by_case None leads begins apart =
        let none = no_entries o.index leads in record {
          links = subst (AreLinksTo (bytes_of c.bytes) m.from) (sym (nil_from_length m.handles none)) tt;
          room = λ n few. subst (λ k. IsTrue (has_room (live_of c.bytes) k n)) (sym begins) (target n o (omega arith));
          left = tt;
        }
    by_case (Some b) leads begins apart =
        let p = placed b o.index leads in record {
          links = subst (λ k. AreLinksTo (bytes_of c.bytes) k m.handles) (sym begins) p.links;
          room = λ n few. subst (λ k. IsTrue (has_room (live_of c.bytes) k n)) (sym begins)
              (room-less (live_of c.bytes) b (8 * m.table.capacity) n (omega arith) p.room);
          left = (found_live b (live_of c.bytes).extents p.extent p.found, λ q. apart (ap (λ k. Some k) q));
        }

-- after the block is written it is still offered
pub written : {a b : WindowState} {m : Move} {n : ℕ}
    → Offer a m → ChangesBytes current a b (m.block + 0) n → n ≤ 8 * m.slots → Offer b m
written {m = m} {n} o c few =
    let room = target (0 + n) o (omega arith) in
    let i = still_written m.block 0 o.header c room (λ e. o.apart (sym o.leads ∙ e)) o.index in record {
      header = o.header;
      index = i;
      leads = i.stands.link ∙ sym o.index.stands.link ∙ o.leads;
      begins = o.begins;
      offered = still_offered c o.offered;
      apart = o.apart;
    }

-- links that are moved to the block lead to the same handles
pub moved : {m m' : Memory} {n : ℕ} (from to : ℕ) (hs : List ℕ) → AreLinksTo m from hs → n ≡ length hs
    → KeepTargets m m' (from + 0) (to + 0) n → AreLinksTo m' to hs
moved {m} {m'} from to hs a long lead = links_moved m m' from to hs a (λ k l.
    let p : to + 8 * k ≡ to + 0 + 8 * k = omega arith in let q : from + 0 + 8 * k ≡ from + 8 * k = omega arith in
    ap (λ j. link_at m' j) p ∙ lead.each k (omega arith) ∙ ap (λ j. link_at m j) q)

-- and the links are moved around a new one
pub filled : {A : Memory} {b d : WindowState} {place count n h : ℕ} (from to : ℕ) (hs : List ℕ) → AreLinksTo A from hs
    → AreLinksTo (bytes_of b.bytes) from hs → count ≡ length hs → place ≤ count
    → KeepTargets A (bytes_of b.bytes) (from + 0) (to + 0) place → ChangesBytes current b d (to + 8 * place) n
    → link_at (bytes_of d.bytes) (to + 8 * place) ≡ Some h → KeepTargets (bytes_of b.bytes) (bytes_of d.bytes)
    (from + 8 * place) (to + 8 * place + 8) (count - place) → AreLinksTo (bytes_of d.bytes) to (insert hs place h)
filled {A} {b} {d} {place} {count} {n} {h} from to hs la lb long within lead two here tail =
    let B = bytes_of b.bytes in let D = bytes_of d.bytes in
    insert_links from to place h hs lb (omega arith) (λ k l.
    let p : to + 8 * k ≡ to + 0 + 8 * k = omega arith in let q : from + 0 + 8 * k ≡ from + 8 * k = omega arith in
    SameBytesExcept-link B D (to + 8 * place) n (to + 8 * k) two.rest (inl (omega arith)) ∙ ap (λ j. link_at B j) p
    ∙ lead.each k l ∙ ap (λ j. link_at A j) q
    ∙ entry_here A from hs k la (omega arith) ∙ sym (entry_here B from hs k lb (omega arith)))
    here (subst (λ k. KeepTargets B D (from + 8 * place) (to + 8 * place + 8) (k - place)) long tail)

-- links before a place, and then from there on
pub written_both : {a b d : WindowState} {place count : ℕ} (h : ℕ) → ChangesBytes current a b (h + 0) (8 * place)
    → ChangesBytes current b d (h + 8 * place) (8 * (count - place) + 8) → place ≤ count
    → ChangesBytes current a d (h + 0) (8 * count + 8)
written_both {count = count} h one two l =
    changed_trans (h + 0) (8 * count + 8) one two (omega arith) (omega arith) (omega arith) (omega arith)

-- ---- the parts that stay after that

-- the blocks but two: one is written, and then the index leaves the other
pub written_keeps : {a d e : WindowState} {m : Move} {n : ℕ} → Offer a m → ChangesBytes current a d (m.block + 0) n
    → n ≤ 8 * m.slots → KeepsOutsideIndex d e m.at (without_index_block d m.at).extents
    → KeepsOutsideIndex a e m.at (others m.block (without_index_block a m.at).extents)
written_keeps {a} {d} {e} {m} {n} o c few k =
    let l = live_of a.bytes in let to = link_at (bytes_of a.bytes) m.at in
    let less : LiveSet = record l { extents = others m.block l.extents } in
    let alike : without_index_block d m.at ≡ without_index_block a m.at =
    ap₂ without_link (same_live c) ((written o c few).leads ∙ sym o.leads) in
    let first : KeepsOutsideIndex a d m.at (others m.block (without_index_block a m.at).extents) =
    subst (λ (zs : List Extent). KeepsOutsideIndex a d m.at zs) (sym (others_without m.block l less to refl))
    (rest_without less to (keeps_written m.block 0 c (target (0 + n) o (omega arith)) o.header)) in
    rest_trans first (rest_others m.block (subst (λ (s : LiveSet). KeepsOutsideIndex d e m.at s.extents) alike k))

-- the block that is written was allocated before
pub taken_keeps : {a b e : WindowState} {at n h : ℕ} {role : Role} → InHeader at → AllocatesOk current a b n role h
    → link_at (bytes_of b.bytes) at ≡ link_at (bytes_of a.bytes) at
    → KeepsOutsideIndex b e at (others h (without_index_block b at).extents)
    → KeepsOutsideIndex a e at (without_index_block a at).extents
taken_keeps {a} {b} {e} {at} {h = h} w i same k =
    let l = live_of a.bytes in let to = link_at (bytes_of a.bytes) at in
    rest_trans (rest_without l to (rest_of i.keeps w)) (subst (λ (zs : List Extent). KeepsOutsideIndex b e at zs)
    (others_without h (live_of b.bytes) l (link_at (bytes_of b.bytes) at) (taken_others i)
    ∙ ap (λ (o : Option ℕ). (without_link l o).extents) same) k)

-- ---- the table after a cut

cut_none : (l : LiveSet) (n : ℕ) (t : BackingArray) → n ≡ 0 → shrunk_backing l 8 n t ≡ no_backing
unfolding shrunk_backing
cut_none l n t e = cond-true (n == 0) no_backing
    (record { capacity = n; extent = option_map (λ (x : Extent). shorter l x (8 * n)) t.extent }) (eq-eqb n 0 e)

cut_some : (l : LiveSet) (n cap : ℕ) (x : Extent) → (n ≡ 0 → ⊥)
    → shrunk_backing l 8 n (record { capacity = cap; extent = Some x })
    ≡ record { capacity = n; extent = Some (shorter l x (8 * n)) }
unfolding shrunk_backing
cut_some l n cap x some =
    cond-false (n == 0) no_backing (record { capacity = n; extent = Some (shorter l x (8 * n)) }) (ne_eqb n 0 some)

-- ---- without a block

-- an index without a block has nothing to shrink
pub shrunk_bare : {a : WindowState} {at : ℕ} {t : BackingArray} {hs : List ℕ} → IsIndexOf a at t hs
    → link_at (bytes_of a.bytes) at ≡ None → InHeader at → ShrinksIndex a a at t hs
shrunk_bare {a} {at} {t} {hs} i leads w = table_cases (λ u. IsIndexOf a at u hs → ShrinksIndex a a at u hs) (λ cap j.
    let zero = no_entries j leads in let none = bare j leads in
    let same : record { capacity = cap; extent = None } ≡ no_backing =
    ap (λ k. let u : BackingArray = record { capacity = k; extent = None } in u) none in
    let xs = (live_of a.bytes).extents in
    record {
      same = λ without. refl;
      index = subst (λ (u : BackingArray). IsIndexOf a at u hs)
          (same ∙ sym (cut_none (live_of a.bytes) (length hs) (record { capacity = cap; extent = None }) zero)) j;
      live = j.heap;
      keeps = rest_of (keeps-refl a xs) w;
      order = unchanged-sorted refl;
      gaps = λ x none. absurd (none-some x none);
    }) (λ cap x j. absurd (none-some (handle x) (sym leads ∙ j.stands.link))) t i

-- ---- without entries

-- an index with no entries and no block
pub empty_index : {a c : WindowState} {at : ℕ} (hs : List ℕ) → Headed a c at None 0 0 → length hs ≡ 0
    → AllByRecursion (λ h. h % 16 ≡ 0) hs → IsIndexOf c at no_backing hs
empty_index hs w zero whole = record {
  heap = changed_heap w.change;
  stands = record {
    link = w.link;
    count = w.count_word ∙ sym zero;
    capacity = w.capacity_word;
    entries = nil_from_length hs zero;
  };
  slots = refl;
  few = omega arith;
  held = tt;
  whole = whole;
}

-- the words of an index are set to an empty one
pub emptied : {a b c : WindowState} {place at n : ℕ} → place ≡ at → ChangesBytes current a b (place + 16) 8
    → word_at (bytes_of b.bytes) (place + 16) ≡ n → ChangesBytes current b c place 8
    → link_at (bytes_of c.bytes) place ≡ None → n ≡ word_at (bytes_of a.bytes) (at + 8) → n ≡ 0 → Headed a c at None 0 0
emptied {a} {b} {c} {place} {at} e one word two leads count zero =
    let A = bytes_of a.bytes in let B = bytes_of b.bytes in let C = bytes_of c.bytes in
    let was : word_at A (place + 8) ≡ 0 = ap (λ k. word_at A (k + 8)) e ∙ sym count ∙ zero in
    let all : Headed a c place None 0 0 = record {
      change = changed_trans place 24 one two (omega arith) (omega arith) (omega arith) (omega arith);
      link = leads;
      count_word = SameBytesExcept-word B C place 8 (place + 8) two.rest (inr (omega arith))
          ∙ SameBytesExcept-word A B (place + 16) 8 (place + 8) one.rest (inl (omega arith)) ∙ was;
      capacity_word = SameBytesExcept-word B C place 8 (place + 16) two.rest (inr (omega arith)) ∙ word ∙ zero;
    } in
    subst (λ k. Headed a c k None 0 0) e all

cut_zero : {a : WindowState} {at : ℕ} {t : BackingArray} {hs : List ℕ} {block : ℕ}
    → Placed a at t hs block → (l : LiveSet) (n : ℕ) → n ≡ 0 → released l block ≡ with_cut l n t
cut_zero {t = t} p l n z = ap (released l) (sym p.begins)
    ∙ sym (cond-true (n == 0) (released l (handle p.extent)) (resized l (shorter l p.extent (8 * n))) (eq-eqb n 0 z))
    ∙ ap (λ (o : Option Extent). with_cut l n (record { capacity = t.capacity; extent = o })) (sym p.is)

-- an empty index gives its block back
pub shrunk_empty : {a c e : WindowState} {at block : ℕ} {t : BackingArray} {hs : List ℕ} → Placed a at t hs block
    → length hs ≡ 0 → Headed a c at None 0 0 → Deallocates current c e block → InHeader at → ShrinksIndex a e at t hs
shrunk_empty {a} {c} {e} {at} {block} {t} {hs} p zero w r h =
    let l = live_of a.bytes in
    let here = still_released h r (λ q. none-some block (sym w.link ∙ q)) (empty_index hs w zero p.index.whole) in
    let keeps = subst (λ (xs : List Extent). KeepsOutsideIndex a e at xs) (beside p l.extents)
    (headed_released_keeps block w r h) in
    let now : live_of e.bytes ≡ released l block =
    released-live current c e block r ∙ ap (λ (s : LiveSet). released s block) (same_live w.change) in
    let leads = p.index.stands.link ∙ ap (option_map (λ (x : Extent). handle x)) p.is ∙ ap (λ k. Some k) p.begins in
    record {
      same = λ without. absurd (none-some p.extent (sym without ∙ p.is));
      index = subst (λ (u : BackingArray). IsIndexOf e at u hs) (sym (cut_none l (length hs) t zero)) here;
      live = subst (λ (s : LiveSet). EncodesLiveSet current e.bytes s)
          (ap (λ (s : LiveSet). released s block) (same_live w.change) ∙ cut_zero p l (length hs) zero) r.live;
      keeps = keeps;
      order = keeps-sorted (beside-stays p.index keeps (λ g x f other. ap (λ (s : LiveSet). extent_at s g) now
          ∙ found-less g block x l.extents (λ same. other (leads ∙ ap (λ k. Some k) (sym same))) f));
      gaps = λ x is some. absurd (omega (arith, zero, some));
    }

-- ---- with entries

-- the block is the shorter one of its own
resized_here : {b e : WindowState} {l : LiveSet} {x : Extent} {block n : ℕ} → live_of b.bytes ≡ l
    → extent_at l block ≡ Some x → ShrinksInPlace current b e block n → ResizesBlock current b e x (shorter l x n)
resized_here {b} {e} {l} {x} {block} {n} live found s =
    let same : s.extent ≡ x =
    same_Some s.extent x (sym s.found ∙ ap (λ (k : LiveSet). extent_at k block) live ∙ found) in
    subst (λ (k : LiveSet). ResizesBlock current b e x (shorter k x n)) live
    (subst (λ (y : Extent). ResizesBlock current b e y (shorter (live_of b.bytes) y n)) same s.shortened)

-- the shorter block
record Short (x y : Extent) (n : ℕ) : Type 0 where
  pub begins : handle y ≡ handle x
  pub less : y.len ≤ x.len
  pub long : n + 16 ≤ y.len
  pub serves_it : IsTrue (serves y IndexRole n)

short : (l : LiveSet) (x : Extent) (cap n : ℕ) → n ≤ cap → IsTrue (serves x IndexRole (8 * cap))
    → Short x (shorter l x (8 * n)) (8 * n)
short l x cap n few fits =
    let y = shorter l x (8 * n) in let is = shorter-IsShorter l x (8 * n) in
    let two = and_parts (same_role x.role IndexRole) (holds x (8 * cap)) fits in
    let enough = leb-true (8 * cap + 16) x.len two.1 in let held = is.holds (le-leb (8 * n + 16) x.len (omega arith)) in
    record {
      begins = ap (λ (z : Extent). handle z) is.same;
      less = is.less;
      long = leb-true (8 * n + 16) y.len held;
      serves_it = and_from (same_role y.role IndexRole) (holds y (8 * n)) (subst (λ (r : Role).
          IsTrue (same_role r IndexRole)) (sym (ap (λ (z : Extent). z.role) is.same)) two.0) held;
    }

-- the shorter block is found where the longer one was
found_cut : (l : LiveSet) (x y : Extent) → Rising 128 l.extents → extent_at l (handle x) ≡ Some x → handle y ≡ handle x
    → extent_at (resized l y) (handle y) ≡ Some y
found_cut l x y rises found begins =
    let is = (among 128 (handle x) x l.extents rises found).is in
    let f = rising-insert 128 x (others (handle x) l.extents) (subst (Rising 128) is rises) in
    let o : x.offset ≡ y.offset = omega arith in
    found-new y (others (handle y) l.extents) (subst (λ k. AllByRecursion (λ (z : Extent). k ≡ z.offset → ⊥)
    (others (handle y) l.extents)) o (subst (λ k. AllByRecursion (λ (z : Extent). x.offset ≡ z.offset → ⊥)
    (others k l.extents)) (sym begins) f.differs))

shrunk_some : (a b e : WindowState) (at cap : ℕ) (x : Extent) (hs : List ℕ)
    → Placed a at (record { capacity = cap; extent = Some x }) hs (handle x) → (length hs ≡ 0 → ⊥)
    → ChangesBytes current a
    b (at + 16) 8 → word_at (bytes_of b.bytes) (at + 16) ≡ length hs → ShrinksInPlace current b e (handle x)
    (8 * length hs) → InHeader at → ShrinksIndex a e at (record { capacity = cap; extent = Some x }) hs
shrunk_some a b e at cap x hs p some one word s w =
    let A = bytes_of a.bytes in let B = bytes_of b.bytes in let E = bytes_of e.bytes in let i = p.index in
    let l = live_of a.bytes in let n = length hs in let y = shorter l x (8 * n) in
    let few = i.few in let live : live_of b.bytes ≡ l = same_live one in
    let r : ResizesBlock current b e x y = resized_here live i.held s in
    let two = and_parts (nat_lt 0 cap) (serves x IndexRole (8 * cap)) i.slots in
    let h : Short x y (8 * n) = short l x cap n few two.1 in let begins = h.begins in
    let now : live_of e.bytes ≡ resized l y = resized-live current b e x y r ∙ ap (λ (k : LiveSet). resized k y) live in
    let links : AreLinksTo E (handle y) hs = links_moved A E (handle x) (handle y) hs i.stands.entries (λ k f.
    let q : handle y + 8 * k ≡ handle x + 8 * k = omega arith in
    ap (λ j. link_at E j) q ∙ SameBytes-link B E (handle x) (x.offset + min x.len y.len) (handle x + 8 * k)
    r.still.payload (omega arith) (omega arith)
    ∙ SameBytesExcept-link A B (at + 16) 8 (handle x + 8 * k) one.rest (inr (omega arith))) in
    let index : IsIndexOf e at (record { capacity = n; extent = Some y }) hs = record {
      heap = laid-heap e.bytes (resized (live_of b.bytes) y) r.live;
      stands = record {
        link = SameBytes-link B E 32 128 at r.keeps.behind w.behind (omega arith)
            ∙ SameBytesExcept-link A B (at + 16) 8 at one.rest
            (inl (omega arith)) ∙ i.stands.link ∙ ap (λ k. Some k) (sym begins);
        count = SameBytes-word B E 32 128 (at + 8) r.keeps.behind (omega arith) (omega arith)
            ∙ SameBytesExcept-word A B (at + 16) 8 (at + 8) one.rest (inl (omega arith)) ∙ i.stands.count;
        capacity = SameBytes-word B E 32 128 (at + 16) r.keeps.behind (omega arith) (omega arith) ∙ word;
        entries = links;
      };
      slots = and_from (nat_lt 0 n) (serves y IndexRole (8 * n)) (lt-ltb 0 n (omega (arith, some))) h.serves_it;
      few = omega arith;
      held = ap (λ (k : LiveSet). extent_at k (handle y)) now
          ∙ found_cut l x y (live-rises l i.heap.proper) i.held begins;
      whole = i.whole;
    } in
    let mine : x ≡ s.extent =
    same_Some x s.extent (sym i.held ∙ ap (λ (k : LiveSet). extent_at k (handle x)) (sym live) ∙ s.found) in
    let keeps = rest_trans (rest_others (handle x) (keeps_words at one w (omega arith) (omega arith)))
    (subst (λ (k : LiveSet). KeepsOutsideIndex b e at (others (handle x) k.extents)) live (rest_of r.keeps w)) in
    let cut : resized (live_of b.bytes) y ≡ with_cut l n (record { capacity = cap; extent = Some x }) =
    ap (λ (k : LiveSet). resized k y) live ∙ sym (cond-false (n == 0) (released l (handle x)) (resized l y)
    (ne_eqb n 0 some)) in
    record {
      same = λ without. absurd (none-some x (sym without));
      index = subst (λ (u : BackingArray). IsIndexOf e at u hs) (sym (cut_some l n cap x some)) index;
      live = subst (λ (k : LiveSet). EncodesLiveSet current e.bytes k) cut r.live;
      keeps = keeps;
      order = keeps-sorted (beside-stays i keeps (λ g z f other. ap (λ (k : LiveSet). extent_at k g) now
          ∙ found-more g y z (others (handle y) l.extents)
          (λ same. other (i.stands.link ∙ ap (λ k. Some k) (sym begins ∙ same))) (found-less g (handle y) z l.extents
          (λ same. other (i.stands.link ∙ ap (λ k. Some k) (sym begins ∙ sym same))) f)));
      gaps = λ z is more uncut.
          let own : x ≡ z = same_Some x z is in
          let whole : shorter (live_of b.bytes) s.extent (8 * n) ≡ s.extent =
          subst (λ (q : LiveSet). shorter q s.extent (8 * n) ≡ s.extent) (sym live)
          (subst (λ (q : Extent). shorter l q (8 * n) ≡ q) (sym own ∙ mine) uncut) in
          subst (λ (c : WindowState). KeepsGaps a c) (sym (s.same whole))
          (gaps-header a b (at + 16) 8 one (omega arith));
    }

-- an index with entries keeps as many places
pub shrunk_short : {a b e : WindowState} {at block place n : ℕ} {t : BackingArray} {hs : List ℕ}
    → Placed a at t hs block → (n ≡ 0 → ⊥)
    → n ≡ length hs → place ≡ at → ChangesBytes current a b (place + 16) 8 → word_at (bytes_of b.bytes) (place + 16) ≡ n
    → ShrinksInPlace current b e block (8 * n) → InHeader at → ShrinksIndex a e at t hs
shrunk_short {a} {b} {e} {at} {block} {place} {n} {t} {hs} p some long there change word s w =
    let one : ChangesBytes current a b (at + 16) 8 = subst (λ k. ChangesBytes current a b (k + 16) 8) there change in
    let is : word_at (bytes_of b.bytes) (at + 16) ≡ length hs =
    ap (λ k. word_at (bytes_of b.bytes) (k + 16)) (sym there) ∙ word ∙ long in
    let cut : ShrinksInPlace current b e block (8 * length hs) =
    subst (λ k. ShrinksInPlace current b e block (8 * k)) long s in
    table_cases (λ u. Placed a at u hs block → ShrinksIndex a e at u hs)
    (λ cap q. absurd (none-some q.extent q.is)) (λ cap x q.
    let same : block ≡ handle x = sym q.begins ∙ ap (λ (z : Extent). handle z) (sym (same_Some x q.extent q.is)) in
    shrunk_some a b e at cap x hs (subst (λ k. Placed a at (record { capacity = cap; extent = Some x }) hs k) same q)
    (λ z. some (long ∙ z)) one is (subst (λ k. ShrinksInPlace current b e k (8 * length hs)) same cut) w) t p
