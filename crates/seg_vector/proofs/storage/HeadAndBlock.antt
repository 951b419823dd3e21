-- The head of a container, its three words and their block, through the steps of a call.
use Rattle.seg_vector.proofs.Common as W
use W.{◌≡◌, ◌≢◌, refl, sym, ap, subst, ◌∙◌, inl, inr, ℕ, ◌+◌, ◌*◌, ◌<◌, ◌≤◌, Option, Some, None, List, ◌∷◌, length}
use W.{arith, ◌⊎◌, ◌++◌, append-nil, IsTrue, nat_lt, option_to_list, AllByRecursion, and_parts, leb-true, Memory}
use W.{WindowState, SameBytesExcept, bytes_of, word_at, SameBytes, SameBytesExcept-wider, SameBytesExcept-word, link_at}
use W.{target_of, Storage, current, exchanged, without_all, ExchangesBlocks, inserted, Extent, LiveSet, handle, holds}
use W.{ChangesBytes, IsHeap, EncodesLiveSet, SameBlock, extent_at, has_room, live_of, BackingArray, has_backing, serves}
use W.{same_role, table_link, found-room, in_use-alone, live-rises, written-keeps, word-same, laid-heap, roomy}
use W.{changed-live, written-but, IsFound, IsNone, SameSpread, all-found-in, all-in-use, found-none, exchanged-live}
use W.{found-without, IsRoomy, kept, kept-found, exchange-next, exchange-same, spread-refl, exchange-wide}
use W.{exchange-written, kept-beside, Place, IsStorageBlock, IsContainer, place_at, IsStorage, SameBytesExcept-link}
use W.{SwapsBlocks, AreDistinct, [], rising-others, KeepsGaps, gaps-payload}

-- the storage of a container: its capacity and its block
abbrev pub table : ℕ → Option Extent → BackingArray
table c o = record { capacity = c; extent = o }

-- an option is not both none and some
pub none-some : {A B : Type 0} {o : Option A} {x : A} → o ≡ None → o ≡ Some x → B
none-some e f = absurd (cc)

-- the values of two equal options are equal
pub same-some : {A : Type 0} {x y : A} → Some x ≡ Some y → x ≡ y
same-some e = cc

-- a block that serves a request has room for it
pub serves-full : (x : Extent) (n : ℕ) → IsTrue (serves x Storage n) → n + 16 ≤ x.len
serves-full x n t = leb-true (n + 16) x.len (and_parts (same_role x.role Storage) (holds x n) t).1

-- the block of a container has room for its capacity
pub table-full : (each c : ℕ) (x : Extent) → IsTrue (has_backing Storage each (table c (Some x)))
    → each * c + 16 ≤ x.len
table-full each c x t = serves-full x (each * c) (and_parts (nat_lt 0 c) (serves x Storage (each * c)) t).1

pub outside : (at len f n k : ℕ) → at ≤ f → f + n ≤ at + len → (k < at) ⊎ (at + len ≤ k) → (k < f) ⊎ (f + n ≤ k)
outside at len f n k a b (inl h) = inl (omega arith)
outside at len f n k a b (inr h) = inr (omega arith)

-- two changes within a range are a change within it
pub changed-both : {a b c : WindowState} {f n g k : ℕ} (at len : ℕ) → ChangesBytes current a b f n
    → ChangesBytes current b c g k
    → at ≤ f → f + n ≤ at + len → at ≤ g → g + k ≤ at + len → ChangesBytes current a c at len
changed-both {a} {b} {c} {f} {n} {g} {k} at len p q h1 h2 h3 h4 = record {
  place = record { before = q.place.before ∙ p.place.before; after = q.place.after ∙ p.place.after };
  live = subst (EncodesLiveSet current c.bytes) (changed-live _ a b f n p) q.live;
  rest = record { at = λ j w. q.rest.at j (outside at len g k j h3 h4 w) ∙ p.rest.at j (outside at len f n j h1 h2 w) };
}

-- no block is freed or allocated
pub head-exchanged : {old new : WindowState} (p : Place) → IsHeap current old.bytes
    → IsTrue (has_room (live_of old.bytes) p.handle (p.at + 24)) → ChangesBytes current old new (place_at p) 24
    → ExchangesBlocks current old new (place_at p) 24 [] []
head-exchanged {old} {new} p heap room c =
    let l = live_of old.bytes in let at = place_at p in let q = roomy old p.handle (p.at + 24) heap room in
    let k = written-keeps old new q.extent _ at 24 (in_use-alone l p.handle q.extent heap.proper q.found) c.place
    c.rest (omega (arith, q.at)) (omega (arith, q.at, q.room)) in
    record {
      live = c.live;
      place = c.place;
      front = k.front;
      behind = k.behind;
      blocks = written-but old new l
          p.handle at 24 q.extent heap.proper q.found c (omega (arith, q.at)) (omega (arith, q.at, q.room));
    }

-- no byte of a gap changes where the words of the head are written
pub head-gaps : {a b : WindowState} (p : Place) → IsTrue (has_room (live_of a.bytes) p.handle (p.at + 24))
    → ChangesBytes current a b (place_at p) 24 → KeepsGaps a b
head-gaps {a} {b} p room c = gaps-payload a b p.handle (p.at + 24) (place_at p) 24 c room (omega arith) (omega arith)

-- the head of a container is in a block in use
pub record IsHead (c : WindowState) (p : Place) : Type 0 where
  pub block : Extent
  pub found : extent_at (live_of c.bytes) p.handle ≡ Some block
  pub here : handle block ≡ p.handle
  pub big : p.at + 24 + 16 ≤ block.len

-- a block with room for it has the head of a container
pub room-head : (c : WindowState) (p : Place) → IsHeap current c.bytes
    → IsTrue (has_room (live_of c.bytes) p.handle (p.at + 24)) → IsHead c p
room-head c p heap t = let q : IsRoomy (live_of c.bytes) p.handle (p.at + 24) = roomy c p.handle (p.at + 24) heap t in
    record { block = q.extent; found = q.found; here = q.at; big = q.room }

-- the head of a container has room in its block
pub head-room : {c : WindowState} {p : Place} → IsHead c p → IsTrue (has_room (live_of c.bytes) p.handle (p.at + 24))
head-room {c} {p} w = found-room (live_of c.bytes) p.handle (p.at + 24) _ w.found w.big

-- the head stays if other blocks are exchanged
pub head-kept : {a b : WindowState} {p : Place} {from n : ℕ} {gone come : List Extent} → IsHead a p
    → ExchangesBlocks current a b from n gone come → IsNone p.handle gone → IsHead b p
head-kept {a} {b} {p} {from} {n} {gone} {come} w x d = record {
  block = w.block;
  found = kept-found a b from n p.handle _ gone come _ x w.found d;
  here = w.here;
  big = w.big;
}

-- and if bytes of them change
pub head-changed : {a b : WindowState} {p : Place} {from n : ℕ} → IsHead a p → ChangesBytes current a b from n
    → IsHead b p
head-changed {a} {b} {p} {from} {n} w c = record {
  block = w.block;
  found = ap (λ (l : LiveSet). extent_at l p.handle) (changed-live _ a b from n c) ∙ w.found;
  here = w.here;
  big = w.big;
}

-- its three words
pub record AreHeadWords (m : Memory) (at n : ℕ) (t : BackingArray) : Type 0 where
  pub link : link_at m at ≡ table_link t
  pub len_word : word_at m (at + 8) ≡ n
  pub capacity : word_at m (at + 16) ≡ t.capacity

pub words-same : {m m' : Memory} {from to at n : ℕ} {t : BackingArray}
    → SameBytes m m' from to → from ≤ at → at + 24 ≤ to → AreHeadWords m at n t → AreHeadWords m' at n t
words-same {m} {m'} {from} {to} {at} s f g w = record {
  link = ap (target_of at) (word-same m m' from to at s f (omega arith)) ∙ w.link;
  len_word = word-same m m' from to (at + 8) s (omega arith) (omega arith) ∙ w.len_word;
  capacity = word-same m m' from to (at + 16) s (omega arith) (omega arith) ∙ w.capacity;
}

-- the three words of a container stay if its block is not swapped
pub words-kept : {a b : WindowState} {p : Place} {n : ℕ} {t : BackingArray} {gone come : List Extent}
    → IsHeap current a.bytes → IsHead a p → SwapsBlocks a b gone come → IsNone p.handle gone
    → AreHeadWords (bytes_of a.bytes) (place_at p) n t → AreHeadWords (bytes_of b.bytes) (place_at p) n t
words-kept {a} {b} {p} {gone} {come} heap w x d h =
    let s = kept a b p.handle _ gone come _ heap x w.found d in
    words-same s.payload (omega (arith, w.here)) (omega (arith, w.here, w.big)) h

-- another length is written
pub len-written : {m m' : Memory} {at n q : ℕ} (k : ℕ) {t : BackingArray}
    → q ≡ at + 8 → SameBytesExcept m m' q 8 → word_at m' q ≡ k → AreHeadWords m at n t → AreHeadWords m' at k t
len-written {m} {m'} {at} {q} k e s word w = record {
  link = SameBytesExcept-link m m' q 8 at s (inl (omega (arith, e))) ∙ w.link;
  len_word = ap (word_at m') (sym e) ∙ word;
  capacity = SameBytesExcept-word m m' q 8 (at + 16) s (inr (omega (arith, e))) ∙ w.capacity;
}

-- n bytes of the three words
pub head-wider : {a b : WindowState} (p : Place) {from n : ℕ} → ChangesBytes current a b from n → place_at p ≤ from
    → from + n ≤ place_at p + 24 → ChangesBytes current a b (place_at p) 24
head-wider {a} {b} p {from} {n} c f g = record {
  place = c.place;
  live = c.live;
  rest = SameBytesExcept-wider (bytes_of a.bytes) (bytes_of b.bytes) from n (place_at p) 24 c.rest f g;
}

-- a block stays where the head's words are written
pub beside-head : {a b : WindowState} {p : Place} (h : ℕ) {x : Extent} → IsHeap current a.bytes → IsHead a p
    → ChangesBytes current a b (place_at p) 24 → extent_at (live_of a.bytes) h ≡ Some x → p.handle ≢ h
    → SameBlock (bytes_of a.bytes) (bytes_of b.bytes) x
beside-head {a} {b} {p} h {x} heap w c found other = kept-beside a b _ 24 p.handle h _ x [] [] _ heap (head-exchanged p
    heap (head-room w) c) w.found (omega (arith, w.here)) (omega (arith, w.here, w.big)) other found tt

-- Some blocks were freed so far and others allocated, and the head has these words.
pub record IsRun (old now : WindowState) (p : Place) (gone come : List Extent) (n : ℕ) (t : BackingArray) : Type 0 where
  pub change : ExchangesBlocks current old now (place_at p) 24 gone come
  pub heap : IsHeap current now.bytes
  pub head : IsHead now p
  pub words : AreHeadWords (bytes_of now.bytes) (place_at p) n t

-- blocks are exchanged, not the head's
pub run-swapped : {old a b : WindowState} {p : Place} {gone come again : List Extent} (left : List Extent)
    {more : List Extent} {n : ℕ} {t : BackingArray} → SameSpread come (again ++ left) → IsRun old a p gone come n t
    → SwapsBlocks a b again more → IsNone p.handle again → IsRun old b p gone (more ++ left) n t
run-swapped {old} {a} {b} {p} {gone} {come} left {more} spread r x none = record {
  change = exchange-next _ old a b _ 24 gone come _ left more spread r.change
      (exchange-wide _ a b (place_at p) 24 _ more x);
  heap = laid-heap _ _ x.live;
  head = head-kept r.head x none;
  words = words-kept r.heap r.head x none r.words;
}

-- the words of the head are written
pub run-headed : {old a b : WindowState} {p : Place} {gone come : List Extent} {n k : ℕ} {t u : BackingArray}
    → IsRun old a p gone come n t → ChangesBytes current a b (place_at p) 24
    → AreHeadWords (bytes_of b.bytes) (place_at p) k u → IsRun old b p gone come k u
run-headed {old} {a} {b} {p} {gone} {come} r c w = record {
  change = exchange-next _ old a b _ 24 gone come [] come [] (record { same = λ zs r. refl }) r.change
      (head-exchanged p r.heap (head-room r.head) c);
  heap = laid-heap _ _ c.live;
  head = head-changed r.head c;
  words = w;
}

-- a property of each element implies another of each element
pub all-as : {A : Type 0} → (P Q : A → Type 0) → ((x : A) → P x → Q x) → (xs : List A) → AllByRecursion P xs
    → AllByRecursion Q xs
all-as P Q f [] a = tt
all-as P Q f (x ∷ xs) a = (f x a.0, all-as P Q f xs a.1)

-- the allocated blocks are in use
pub came-found : {a b : WindowState} {from n : ℕ} {gone come : List Extent}
    → ExchangesBlocks current a b from n gone come → AllByRecursion (IsFound (live_of b.bytes).extents) come
came-found {a} {b} {from} {n} {gone} {come} x =
    let l = live_of a.bytes in let rest = without_all gone l.extents in
    let is : (live_of b.bytes).extents ≡ inserted come rest = ap (λ (k : LiveSet). k.extents)
    (exchanged-live a b from n gone come _ x) in
    subst (λ (zs : List Extent). AllByRecursion (IsFound zs) come) (sym is)
    (all-found-in come rest (live-rises (exchanged l gone come) x.live.proper))

-- they are all different
pub came-others : {a b : WindowState} {from n : ℕ} {gone come : List Extent}
    → ExchangesBlocks current a b from n gone come → AreDistinct come
came-others {a} {gone = gone} {come} x = rising-others come (without_all gone (live_of a.bytes).extents)
    (live-rises (exchanged (live_of a.bytes) gone come) x.live.proper)

-- the extents that are not freed stay, and are still in use
pub all-kept : {a b : WindowState} {gone come : List Extent} (xs : List Extent) → IsHeap current a.bytes
    → SwapsBlocks a b gone
    come → AllByRecursion (IsFound (live_of a.bytes).extents) xs → AllByRecursion (λ (y : Extent). IsNone (handle y)
    gone) xs → AllByRecursion (SameBlock (bytes_of a.bytes) (bytes_of b.bytes)) xs
all-kept [] heap x f n = tt
all-kept {a} {b} {gone} {come} (y ∷ ys) heap x f n =
    (kept a b (handle y) y gone come _ heap x f.0 n.0, all-kept ys heap x f.1 n.1)

-- blocks stay in use that are not among the exchanged ones
pub all-found-kept : {a b : WindowState} {gone come : List Extent} (xs : List Extent) → SwapsBlocks a b gone come
    → AllByRecursion (IsFound (live_of a.bytes).extents) xs → AllByRecursion (λ (y : Extent). IsNone (handle y) gone)
    xs → AllByRecursion (IsFound (live_of b.bytes).extents) xs
all-found-kept [] x f n = tt
all-found-kept {a} {b} {gone} {come} (y ∷ ys) x f n =
    (kept-found a b 0 0 (handle y) y gone come _ x f.0 n.0, all-found-kept ys x f.1 n.1)

-- no block is in the empty list
pub none-of-none : (xs : List Extent) → AllByRecursion (λ (w : Extent). IsNone (handle w) []) xs
none-of-none [] = tt
none-of-none (x ∷ xs) = (tt, none-of-none xs)

-- the allocated blocks are in use
pub run-found : {old now : WindowState} {p : Place} {gone come : List Extent} {n : ℕ} {t : BackingArray}
    → IsRun old now p gone come n t → AllByRecursion (IsFound (live_of now.bytes).extents) come
run-found r = came-found r.change

-- no allocated block is the head's
pub run-none : {first now : WindowState} {p : Place} {gone come : List Extent} {n : ℕ} {t : BackingArray}
    → IsHead first p → IsNone p.handle gone → IsRun first now p gone come n t → IsNone p.handle come
run-none {first} {p} {gone} {come} w d r =
    let l = live_of first.bytes in
    found-none p.handle _ come (without_all gone l.extents) (live-rises (exchanged l gone come) r.change.live.proper)
    (found-without p.handle _ gone l.extents d w.found)

-- bytes written in a block
pub block-written : {a b : WindowState} {x : Extent} {from n : ℕ} (k : ℕ) → IsHeap current a.bytes
    → extent_at (live_of a.bytes) (handle x) ≡ Some x → ChangesBytes current a b from n → handle x ≤ from
    → from + n ≤ handle x + k → k + 16 ≤ x.len → SwapsBlocks a b (x ∷ []) (x ∷ [])
block-written {a} {b} {x} {from} {n} k heap found c low high fits =
    let l = live_of a.bytes in let i = all-in-use (x ∷ []) l.extents (live-rises l heap.proper) (tt, tt) (found, tt) in
    exchange-written _ a b x (without_all (x ∷ []) l.extents) k from n 0 0 heap i.is
    (found-room l (handle x) k x found fits) c low high

-- ---- the run of a call on a container

-- the storage block of a container: in use, and not the block of its head
pub own-facts : (l : LiveSet) (h : ℕ) (o : Option Extent) → IsStorageBlock l h o → AreDistinct (option_to_list o)
    × AllByRecursion (IsFound l.extents) (option_to_list o) × IsNone h (option_to_list o)
own-facts l h None own = (tt, tt, tt)
own-facts l h (Some x) own = ((tt, tt), (own.0, tt), ((λ e. own.1 (sym e)), tt))

-- a block in use that is not that of the head is a storage block
pub facts-own : (l : LiveSet) (h : ℕ) (o : Option Extent) → AllByRecursion (IsFound l.extents) (option_to_list o)
    → IsNone h (option_to_list o) → IsStorageBlock l h o
facts-own l h None f n = tt
facts-own l h (Some x) f n = (f.0, λ e. n.0 (sym e))

-- a container is a run in which nothing was exchanged
pub stands-run : (c : WindowState) {p : Place} {each len : ℕ} {t : BackingArray} {bytes : List ℕ}
    → IsContainer c.bytes p each len t bytes → IsRun c c p (option_to_list t.extent) (option_to_list t.extent) len t
stands-run c {p} {t} s =
    let l = live_of c.bytes in let own = option_to_list t.extent in let facts = own-facts l p.handle t.extent s.own in
    let used = all-in-use own l.extents (live-rises l s.heap.proper) facts.0 facts.1 in
    record {
      change = exchange-same current c (place_at p) 24 own (without_all own l.extents) s.heap used.is;
      heap = s.heap;
      head = room-head c p s.heap s.room;
      words = record { link = s.words.link; len_word = s.words.len_word; capacity = s.words.capacity };
    }

-- no block allocated since is the one that contains the head
pub stands-none-of : {old now : WindowState} {p : Place} {each len k : ℕ} {t u : BackingArray} {bytes : List ℕ}
    {come : List Extent} → IsContainer old.bytes p each len t bytes
    → IsRun old now p (option_to_list t.extent) come k u → IsNone p.handle come
stands-none-of {old} {p} {t} s r = run-none (room-head old p s.heap s.room)
    (own-facts (live_of old.bytes) p.handle t.extent s.own).2 r

-- the result of the run
pub run-stands : {old now : WindowState} {p : Place} {each k len : ℕ} {t u : BackingArray} {was : List ℕ}
    (bytes : List ℕ)
    → IsContainer old.bytes p each k t was → IsRun old now p (option_to_list t.extent) (option_to_list u.extent) len u
    → IsTrue (has_backing Storage each u) → len ≤ u.capacity → length bytes ≡ each * len
    → IsStorage (bytes_of now.bytes) u bytes → IsContainer now.bytes p each len u bytes
run-stands {now} {p} {u} bytes s r table fits long storage = record {
  heap = r.heap;
  words = record { link = r.words.link; len_word = r.words.len_word; capacity = r.words.capacity; storage = storage };
  aligned = s.aligned;
  room = head-room r.head;
  table = table;
  fits = fits;
  long = long;
  own = facts-own (live_of now.bytes) p.handle u.extent (run-found r) (stands-none-of s r);
}

-- with nothing more inserted the list stays
pub spread-nil : (xs : List Extent) → SameSpread xs (xs ++ [])
spread-nil xs = subst (SameSpread xs) (sym (append-nil xs)) (spread-refl xs)
