-- The storage of a container at a place: regrown, written, and read.
use Rattle.seg_vector.proofs.Common as W
use W.{◌≡◌, list_any, read-same, laid-heap, room-less, IfSome_is, IsStorage, SwapsBlocks, gaps-refl, gaps-then}
use W.{SetsStorage, refl, payload_at, table_link, found-room, live-sound, room_block, in_use-all, legal_size}
use W.{IsStorageBlock, hole-order, sym, ◌∙◌, Bool, true, Some, None, List, arith, ◌==◌, ◌++◌, take, drop, ◌&&◌, read}
use W.{holds, place, BackingArray, Place, ap, eqb-true, and_from, leb-true, ltb-true, or_cases, or_right, bytes_of}
use W.{block_of, is_block, has_room, has_backing, subst, if◌then◌else◌, length-append, all_of-insert, regrow-serves}
use W.{block_payload, LacksSpace, exchanged-live, inl, inr, ◌+◌, ◌*◌, ◌%◌, ◌<◌, ◌≤◌, ◌∷◌, ◌⊎◌, max, ◌-◌, WindowState}
use W.{HasBytesAt, [], ℕ, length-take, length-drop, CarriesOver, changed-live, exchange-next, is_legal_size}
use W.{changed-room, gaps-payload, false, le-leb, lt-leb, lt-ltb, eq-eqb, Memory, Extent, handle, end_of, others}
use W.{longer, IsHeap, serves, IsContainer, Option, length, IsTrue, IfSome, nat_lt, nat_le, resized, EncodesLiveSet}
use W.{live_of, IsSound, ReservesStorageOk, Refusal, NoSpace, append-nil, option_map, RegrowsOk, without_all}
use W.{ExchangesBlocks, proper_from, is_live_in, spread-refl, RewritesElements, option_to_list, AllByRecursion}
use W.{RegrowsNoSpace, all-same-but, all_keep_proper, capacity_for_one, nil_from_length, KeepsGaps, gaps-trans}
use W.{and_parts, take-take, read-part, exchanged, ReplacesBlocks, ChangesBytes, extent_at, same_role, all-in-use}
use W.{live-rises, ◌≢◌, IsFound, Rising, found-none, found-without, or_left, SameBytesExcept, word_at, patched, link_at}
use W.{Storage, current, LiveSet, is_hole, too_long, place_at, take-nil}
use Rattle.seg_vector.proofs.storage.HeadAndBlock.{IsRun, beside-head, block-written, head-room, head-wider}
use Rattle.seg_vector.proofs.storage.HeadAndBlock.{len-written, head-gaps}
use Rattle.seg_vector.proofs.storage.HeadAndBlock.{came-found, none-some, own-facts, room-head, run-found, run-headed}
use Rattle.seg_vector.proofs.storage.HeadAndBlock.{run-stands}
use Rattle.seg_vector.proofs.storage.HeadAndBlock.{run-swapped, same-some, serves-full, spread-nil, stands-none-of}
use Rattle.seg_vector.proofs.storage.HeadAndBlock.{stands-run, table}
use Rattle.seg_vector.proofs.storage.HeadAndBlock.{table-full}
use Rattle.raw_region.proofs.Bytes.{more-times, HasBytesAt-append, HasBytesAt-take, HasBytesAt-drop, HasBytesAt-beside}
use Rattle.raw_region.proofs.Bytes.{HasBytesAt-patched, length-patch}
use Rattle.best_fit.specs.{Extents.is_proper, Fit.regrow}
use Rattle.seg_vector.specs.Vector.{grown_backing}

-- ---- the container

-- the storage of a table holds its elements
storage-room : (l : LiveSet) (h each len c : ℕ) (o : Option Extent) → IsTrue (has_backing Storage each (table c o))
    → len ≤ c → IsStorageBlock l h o → IfSome (option_map handle o) (λ g. IsTrue (has_room l g (each * len)))
storage-room l h each len c None t f own = tt
storage-room l h each len c (Some x) t f own =
    let both = and_parts (nat_lt 0 c) (serves x Storage (each * c)) t in
    let two = and_parts (same_role x.role Storage) (holds x (each * c)) both.1 in
    let big = leb-true (each * c + 16) x.len two.1 in let less = more-times each len c f in
    found-room l (handle x) (each * len) x own.0 (omega (arith, big, less))

-- the storage of a container has room for its elements
pub stands-room : {b : List ℕ} {p : Place} {each len : ℕ} {t : BackingArray} {bytes : List ℕ}
    → IsContainer b p each len t bytes → IfSome (table_link t) (λ g. IsTrue (has_room (live_of b) g (each * len)))
stands-room {b} {p} {each} {len} {t} s = storage-room (live_of b) p.handle each len t.capacity t.extent s.table s.fits
    s.own

-- its link leads to its block
own-block : (l : LiveSet) (h : ℕ) (o : Option Extent) → IsStorageBlock l h o → block_of l (option_map handle o) ≡ o
own-block l h None own = refl
own-block l h (Some x) own = own.0

pub stands-block : {b : List ℕ} {p : Place} {each len : ℕ} {t : BackingArray} {bytes : List ℕ}
    → IsContainer b p each len t bytes → block_of (live_of b) (table_link t) ≡ t.extent
stands-block {b} {p} {t} s = own-block (live_of b) p.handle t.extent s.own

-- ---- the table

-- a capacity that suffices: the storage stays
pub grown-same : (l : LiveSet) (each n : ℕ) (t : BackingArray) → n ≤ t.capacity → grown_backing l each n t ≡ Some t
unfolding grown_backing
grown-same l each n t f = ap (λ b. if b then Some t else option_map (λ x. table n (Some x)) (regrow l t.extent
    (each * n))) (le-leb n t.capacity f)

-- a larger capacity: the storage is regrown
pub grown-more : (l : LiveSet) (each n : ℕ) (t : BackingArray) → t.capacity < n
    → grown_backing l each n t ≡ option_map (λ x. table n (Some x)) (regrow l t.extent (each * n))
unfolding grown_backing
grown-more l each n t f = ap (λ b. if b then Some t else option_map (λ x. table n (Some x)) (regrow l t.extent
    (each * n))) (lt-leb n t.capacity f)

-- a capacity that suffices: nothing changes
pub grows-not : (c : WindowState) {p : Place} {each : ℕ} (n : ℕ) {len : ℕ} {t : BackingArray} {bytes : List ℕ}
    → n ≤ t.capacity → IsContainer c.bytes p each len t bytes → ReservesStorageOk c c p each n len t bytes
grows-not c {each} n {t} f s = record {
  table = t;
  grown = grown-same (live_of c.bytes) each n t f;
  change = (stands-run c s).change;
  gaps = λ same. gaps-refl c;
  stands = s;
  enough = λ less. refl;
}

-- there is no space
pub grows-nothing : {old new : WindowState} (each n : ℕ) (t : BackingArray) → t.capacity < n
    → RegrowsNoSpace old new t.extent (each * n) → LacksSpace old new each n t NoSpace
grows-nothing {old} each n t f p = record {
  refusal = refl;
  none = grown-more (live_of old.bytes) each n t f ∙ ap (option_map (λ x. table n (Some x))) p.none;
  same = p.same;
}

-- if the capacity suffices there is no such error
pub not-refused : {old new : WindowState} {each n : ℕ} {t : BackingArray} {e : Refusal} → n ≤ t.capacity
    → LacksSpace old new each n t e → ⊥
not-refused {old} {each} {n} {t} f r = let none = sym (grown-same (live_of old.bytes) each n t f) ∙ r.none in cc

-- ---- the block of the container, once the storage is regrown

-- an allocated block begins at a multiple of 16
pub come-aligned : {old mid : WindowState} {o : Option Extent} {n used g : ℕ} → RegrowsOk current old mid o n used g
    → g % 16 ≡ 0
come-aligned {old} {o} {g} r =
    let rest = without_all (option_to_list o) (live_of old.bytes).extents in
    let sound = (all_of-insert IsSound r.extent rest
    (live-sound (exchanged (live_of old.bytes) (option_to_list o) (r.extent ∷ [])) r.change.live.proper)).0 in
    omega (arith, r.at, sound.aligned)

-- ---- the bytes of the elements

carried-storage : (m m' : Memory) (each len c : ℕ) (o : Option Extent) (y : Extent) (bytes : List ℕ)
    → IsTrue (has_backing Storage each (table c o)) → len ≤ c → length bytes ≡ each * len
    → IsStorage m (table c o) bytes → CarriesOver m m' o y (each * len) → HasBytesAt m' (handle y) bytes
carried-storage m m' each len c None y bytes t f e h k =
    let none = eqb-true c 0 t in let short : len ≡ 0 = omega (arith, f, none) in
    let a : each * len ≡ each * 0 = ap (λ n. each * n) short in let b : each * 0 ≡ 0 = omega arith in
    let empty = nil_from_length bytes (e ∙ a ∙ b) in
    subst (λ (bs : List ℕ). HasBytesAt m' (handle y) bs) (sym empty) refl
carried-storage m m' each len c (Some x) y bytes t f e h k = ap (read m' (handle y)) e ∙ k ∙ ap (read m (handle x))
    (sym e) ∙ h

-- the block of a container has the role of storage
pub storage-role : (each c : ℕ) (o : Option Extent) → IsTrue (has_backing Storage each (table c o))
    → IfSome o (λ x. IsTrue (same_role x.role Storage))
storage-role each c None t = tt
storage-role each c (Some x) t = (and_parts (same_role x.role Storage) (holds x (each * c))
    (and_parts (nat_lt 0 c) (serves x Storage (each * c)) t).1).0

regrown-swapped : {old mid : WindowState} {gone : List Extent} {y : Extent} → ReplacesBlocks current old mid gone y
    → SwapsBlocks old mid gone (y ∷ [])
regrown-swapped {old} {mid} {gone} r = record {
  live = r.live;
  place = r.keeps.place;
  front = r.keeps.front;
  behind = r.keeps.behind;
  blocks = all-same-but (bytes_of old.bytes) (bytes_of mid.bytes) 0 0 (without_all gone (live_of old.bytes).extents)
      r.keeps.blocks;
}

-- regrown storage swaps the block of the container alone
pub grown-run : {old mid : WindowState} {p : Place} {each len n k g : ℕ} {t : BackingArray} {bytes : List ℕ}
    → IsContainer old.bytes p each len t bytes → (r : RegrowsOk current old mid t.extent n k g)
    → IsRun old mid p (option_to_list t.extent) (r.extent ∷ []) len t
grown-run {old} {t} s r =
    let begun = stands-run old s in
    run-swapped [] (spread-nil (option_to_list t.extent)) begun (regrown-swapped r.change) (stands-none-of s begun)

-- storage that was regrown: the container has the larger capacity
pub grows-more : {old mid new : WindowState} {p : Place} {each : ℕ} (n : ℕ) {len g : ℕ} {t : BackingArray}
    {bytes : List ℕ}
    → t.capacity < n → IsContainer old.bytes p each len t bytes → RegrowsOk current old mid t.extent (each * n)
    (each * len) g → SetsStorage mid new p g n → ReservesStorageOk old new p each n len t bytes
grows-more {old} {mid} {new} {p} {each} n {len} {t = t} {bytes} more s r w =
    let l = live_of old.bytes in let y = r.extent in let run = grown-run s r in
    let done = run-headed {k = len} {u = table n (Some y)} run w.change (record {
      link = w.link ∙ ap (λ k. Some k) r.at;
      len_word = w.len_word ∙ run.words.len_word;
      capacity = w.capacity;
    }) in
    let serving = regrow-serves l t.extent y (each * n) (storage-role each t.capacity t.extent s.table) r.regrown in
    let long = serves-full y (each * n) serving in let less = more-times each len n (omega (arith, s.fits, more)) in
    let stored = carried-storage (bytes_of old.bytes) (bytes_of mid.bytes) each len t.capacity t.extent y bytes s.table
    s.fits s.long s.words.storage r.carried in
    let stays = beside-head (handle y) run.heap run.head w.change (run-found run).0 (stands-none-of s run).0 in
    let total = s.long in
    let full = and_from (nat_lt 0 n) (serves y Storage (each * n)) (lt-ltb 0 n (omega (arith, more))) serving in
    record {
      table = table n (Some y);
      grown = grown-more l each n t more ∙ ap (option_map (λ x. table n (Some x))) r.regrown;
      change = done.change;
      gaps = λ same. head-gaps p s.room
          (subst (λ (c : WindowState). ChangesBytes current c new (place_at p) 24) (r.same same) w.change);
      stands = run-stands bytes s done full (omega (arith, s.fits, more)) s.long (read-same _ _ _ _ (handle y)
          (length bytes) stays.payload (omega arith) (omega (arith, long, less, total)) ∙ stored);
      enough = λ less. absurd (omega (arith, less, more));
    }

-- ---- the calls of the heap, for the container

-- a block has fewer bytes than a segment
pub room-small : (c : WindowState) (h n : ℕ) → IsHeap current c.bytes → IsTrue (has_room (live_of c.bytes) h n)
    → n < 1073741824
room-small c h n heap t =
    let r = room_block c h n heap t in
    let b = r.block in let enough = r.enough in let ends = b.inside in let size = b.size in omega arith

pub place-small : {b : List ℕ} (p : Place) → IsHeap current b → IsTrue (has_room (live_of b) p.handle (p.at + 24))
    → p.at + 24 < 1073741824
place-small {b} p heap room = room-small (record { before = []; bytes = b; after = [] }) p.handle (p.at + 24) heap room

pub stands-small : {b : List ℕ} {p : Place} {each len : ℕ} {t : BackingArray} {bytes : List ℕ}
    → IsContainer b p each len t bytes → p.at + 24 < 1073741824
stands-small {p = p} s = place-small p s.heap s.room

-- the word of the length is within its block
pub len-room : (b : List ℕ) (p : Place) → IsTrue (has_room (live_of b) p.handle (p.at + 24))
    → IsTrue (has_room (live_of b) p.handle (p.at + 8 + 8))
len-room b p room = room-less (live_of b) p.handle (p.at + 24) (p.at + 8 + 8) (omega arith) room

-- after bytes are written the window is still a heap
pub kept-heap : {old new : WindowState} {from n : ℕ} → ChangesBytes current old new from n → IsHeap current new.bytes
kept-heap c = laid-heap _ _ c.live

-- rules that show that a word has room, and that a sum within a block fits
pub ruleset rooms = (room-less, changed-room)

-- the rule that sizes are multiplied by the number of elements
pub ruleset sizes = (room-small, place-small, stands-small, kept-heap, rooms)

-- the words that are read are the link and the capacity of the storage
pub storage-read : {b : List ℕ} {p : Place} {each len : ℕ} (k : ℕ) {t : BackingArray} {bytes : List ℕ}
    (storage : Option ℕ) → IsContainer b p each len t bytes → storage ≡ link_at (bytes_of b) (p.handle + p.at)
    → k ≡ word_at (bytes_of b) (place_at p + 8) → IfSome storage (λ g. IsTrue (has_room (live_of b) g (each * k)))
storage-read {b} {each} k {t} storage s e f = subst (λ o. IfSome o (λ g. IsTrue (has_room (live_of b) g (each * k))))
    (sym (e ∙ s.words.link)) (subst (λ k. IfSome (table_link t) (λ g. IsTrue (has_room (live_of b) g (each * k))))
    (sym (f ∙ s.words.len_word)) (stands-room s))

-- the storage that was read is the storage that was regrown
pub given-of : {old mid : WindowState} {p : Place} {each : ℕ} (n : ℕ) {len : ℕ} (k : ℕ) {g : ℕ} {t : BackingArray}
    {bytes : List ℕ} (storage : Option ℕ) → IsContainer old.bytes p each len t bytes
    → storage ≡ link_at (bytes_of old.bytes) (p.handle + p.at) → k ≡ word_at (bytes_of old.bytes) (place_at p + 8)
    → RegrowsOk current old mid (block_of (live_of old.bytes) storage) (each * n) (each * k) g
    → RegrowsOk current old mid t.extent (each * n) (each * len) g
given-of {old} {mid} {each} n {len} k {g} storage s e f r = subst (λ o. RegrowsOk current old mid o (each * n)
    (each * len) g) (ap (block_of (live_of old.bytes)) (e ∙ s.words.link) ∙ stands-block s)
    (subst (λ k. RegrowsOk current old mid (block_of (live_of old.bytes) storage) (each * n) (each * k) g) (f
    ∙ s.words.len_word) r)

-- the storage that was read could not be regrown: why
pub not_given-of : {old mid : WindowState} {p : Place} {each : ℕ} (n : ℕ) {len : ℕ} {t : BackingArray} {bytes : List ℕ}
    (storage : Option ℕ) → IsContainer old.bytes p each len t bytes → storage ≡ link_at (bytes_of old.bytes)
    (p.handle + p.at) → RegrowsNoSpace old mid (block_of (live_of old.bytes) storage) (each * n)
    → RegrowsNoSpace old mid t.extent (each * n)
not_given-of {old} {mid} {each} n storage s e r = subst (λ o. RegrowsNoSpace old mid o (each * n))
    (ap (block_of (live_of old.bytes)) (e ∙ s.words.link) ∙ stands-block s) r

-- ---- bytes of the storage and the length are written

-- bytes of the storage are written
written-run : {old new : WindowState} {p : Place} {each len c g : ℕ} (from : ℕ) {n : ℕ} {o : Option Extent}
    {bytes : List ℕ} → IsContainer old.bytes p each len (table c o) bytes
    → link_at (bytes_of old.bytes) (place_at p) ≡ Some g → ChangesBytes current old new (g + from) n
    → from + n ≤ each * c → IsRun old new p (option_to_list o) (option_to_list o) len (table c o)
written-run from {o = None} s link c1 within = none-some s.words.link link
written-run {old} {p} {each} {c} from {o = Some x} s link c1 within =
    let g_is = same-some (sym s.words.link ∙ link) in
    let swap = block-written (each * c) s.heap s.own.0 c1 (omega (arith, g_is)) (omega (arith, g_is, within))
    (table-full each c x s.table) in
    run-swapped [] (spread-refl (x ∷ [])) (stands-run old s) swap ((λ e. s.own.1 (sym e)), tt)

pub rewritten : {old s1 new : WindowState} {p : Place} {each len c g : ℕ} (from : ℕ) {n : ℕ} (len2 : ℕ)
    {o : Option Extent} {bytes : List ℕ} (bytes2 : List ℕ) → IsContainer old.bytes p each len (table c o) bytes
    → link_at (bytes_of old.bytes) (place_at p) ≡ Some g → ChangesBytes current old s1 (g + from) n
    → from + n ≤ each * c → len2 ≤ c → length bytes2 ≡ each * len2 → HasBytesAt (bytes_of s1.bytes) g bytes2
    → ChangesBytes current s1 new (p.handle + (p.at + 8)) 8 → word_at (bytes_of new.bytes) (p.handle + (p.at + 8))
    ≡ len2 → RewritesElements old new p each len2 (table c o) bytes2
rewritten from len2 {o = None} bytes2 s link c1 within fits long content c2 word = none-some s.words.link link
rewritten {old} {s1} {new} {p} {each} {c} {g} from {n} len2 {o = Some x} bytes2 s link c1 within fits long content c2
    word =
    let g_is = same-some (sym s.words.link ∙ link) in let full = table-full each c x s.table in
    let less = more-times each len2 c fits in let one = written-run from s link c1 within in
    let wide = head-wider p c2 (omega arith) (omega arith) in
    let two = run-headed one wide (len-written len2 (omega arith) c2.rest word one.words) in
    let stays = beside-head (handle x) one.heap one.head wide (run-found one).0 (λ e. s.own.1 (sym e)) in
    let whole : HasBytesAt (bytes_of s1.bytes) (handle x) bytes2 =
    subst (λ k. HasBytesAt (bytes_of s1.bytes) k bytes2) (sym g_is) content in
    let own = found-room (live_of old.bytes) (handle x) (each * c) x s.own.0 full in
    record {
      change = two.change;
      gaps = gaps-then old s1 new (g + from) n c1 (gaps-payload old s1 (handle x) (each * c) (g + from) n c1 own
          (omega (arith, g_is)) (omega (arith, g_is, within))) (head-gaps p (head-room one.head) wide);
      stands = run-stands bytes2 s two s.table fits long (read-same _ _ _ _ (handle x) (length bytes2) stays.payload
          (omega arith) (omega (arith, long, full, less)) ∙ whole);
    }

-- elements of at least a byte take at least as many bytes
pub at-least : (each n : ℕ) → 1 ≤ each → n ≤ each * n
at-least each n f = grind arith

-- ---- places

-- two changes, one after the other, in the same storage
pub same-storage : {old mid : WindowState} {p : Place} {each len from n : ℕ} {t : BackingArray} {bytes : List ℕ}
    → IsContainer old.bytes p each len t bytes → ExchangesBlocks current old mid from n (option_to_list t.extent)
    (option_to_list t.extent) → live_of mid.bytes ≡ live_of old.bytes
same-storage {old} {mid} {p} {from = from} {n} {t} s x =
    let l = live_of old.bytes in let own = option_to_list t.extent in
    let facts = own-facts l p.handle t.extent s.own in
    exchanged-live old mid from n own own current x ∙ ap (λ (xs : List Extent). record l { extents = xs })
    (sym (all-in-use own l.extents (live-rises l s.heap.proper) facts.0 facts.1).is)

-- the storage keeps its block if the same blocks are in use
pub same-extents : {old mid : WindowState} {from n : ℕ} (h : ℕ) (o q : Option Extent) → IsHeap current old.bytes
    → IsStorageBlock (live_of old.bytes) h o
    → ExchangesBlocks current old mid from n (option_to_list o) (option_to_list q)
    → live_of mid.bytes ≡ live_of old.bytes → o ≡ q
same-extents h None None heap own x e = refl
same-extents {old} h None (Some y) heap own x e =
    let l = live_of old.bytes in
    let found = subst (λ (k : LiveSet). IsFound k.extents y) e (came-found x).0 in
    absurd ((found-none (handle y) y (y ∷ []) l.extents (live-rises (exchanged l [] (y ∷ [])) x.live.proper) found).0
    refl)
same-extents {old} {mid} {from} {n} h (Some a) None heap own x e =
    let l = live_of old.bytes in let facts = own-facts l h (Some a) own in
    let is = (all-in-use (a ∷ []) l.extents (live-rises l heap.proper) facts.0 facts.1).is in
    let left = sym (exchanged-live old mid from n (a ∷ []) [] current x) ∙ e in
    let found = subst (λ (k : LiveSet). IsFound k.extents a) (sym left) own.0 in
    absurd ((found-none (handle a) a (a ∷ []) (without_all (a ∷ []) l.extents) (subst (Rising 128) is
    (live-rises l heap.proper)) found).0 refl)
same-extents {old} h (Some a) (Some y) heap own x e = by_test (handle y == handle a) refl
  where
    found : IsFound (live_of old.bytes).extents y
    found = subst (λ (k : LiveSet). IsFound k.extents y) e (came-found x).0

    by_test : (b : Bool) → (handle y == handle a) ≡ b → Some a ≡ Some y
    by_test true f = sym own.0 ∙ ap (extent_at (live_of old.bytes)) (sym (eqb-true (handle y) (handle a) f)) ∙ found
    by_test false f =
        let l = live_of old.bytes in
        let other : handle y ≢ handle a = λ g. let is = eq-eqb (handle y) (handle a) g in absurd (cc) in
        let there = found-without (handle y) y (a ∷ []) l.extents (other, tt) found in
        absurd ((found-none (handle y) y (y ∷ []) (without_all (a ∷ []) l.extents)
        (live-rises (exchanged l (a ∷ []) (y ∷ [])) x.live.proper) there).0 refl)

-- blocks are exchanged, and then the new ones are written
pub exchange-then : {old mid new : WindowState} {from n : ℕ} {gone come : List Extent}
    → ExchangesBlocks current old mid from n gone
    come → ExchangesBlocks current mid new from n come come → ExchangesBlocks current old new from n gone come
exchange-then {old} {mid} {new} {from} {n} {gone} {come} p q = subst (ExchangesBlocks current old new from n gone)
    (append-nil come) (exchange-next current old mid new from n gone come come [] come (spread-nil come) p q)

-- a container has fewer bytes than a segment
pub capacity-bytes : (c : WindowState) {p : Place} {each len n : ℕ} {o : Option Extent} {bytes : List ℕ}
    → IsHeap current c.bytes → IsContainer c.bytes p each len (table n o) bytes → each * n < 1073741824
capacity-bytes c {each} {n} {o = None} heap s =
    let none = eqb-true n 0 s.table in let e : each * n ≡ each * 0 = ap (λ k. each * k) none in
    omega (arith, e)
capacity-bytes c {each} {n} {o = Some x} heap s =
    let full = table-full each n x s.table in
    room-small c (handle x) (each * n) heap (found-room (live_of c.bytes) (handle x) (each * n) x s.own.0 full)

wanted-if : (b : Bool) (len capacity : ℕ) → nat_lt len capacity ≡ b → len ≤ capacity
    → (len < (if b then capacity else max 4 (2 * capacity)))
    × ((if b then capacity else max 4 (2 * capacity)) ≤ 2 * capacity + 4)
wanted-if true len capacity e f = let less : len < capacity = ltb-true len capacity e in (omega arith, omega arith)
wanted-if false len capacity e f = (grind arith, grind arith)

-- the capacity for one element more: enough, and at most twice as much and 4
pub wanted-places : (len capacity : ℕ) → len ≤ capacity
    → (len < capacity_for_one len capacity) × (capacity_for_one len capacity ≤ 2 * capacity + 4)
wanted-places len capacity f = wanted-if (nat_lt len capacity) len capacity refl f

pub wanted-is : {w len capacity n k : ℕ} → w ≡ capacity_for_one len capacity → len ≡ n → capacity ≡ k
    → w ≡ capacity_for_one n k
wanted-is e f g = e ∙ (λ i. capacity_for_one (f i) (g i))

table-if : (l : LiveSet) (n : ℕ) (t : BackingArray) {u : BackingArray} (b : Bool) (r : Option Extent)
    → nat_le n t.capacity ≡ b → (if b then Some t else option_map (λ x. table n (Some x)) r) ≡ Some u → n ≤ u.capacity
table-if l n t {u} true r e f = let same : t ≡ u = cc in subst (λ (v : BackingArray). n ≤ v.capacity) same
    (leb-true n t.capacity e)
table-if l n t false None e f = absurd (cc)
table-if l n t {u} false (Some x) e f = let same : table n (Some x) ≡ u = cc
    in subst (λ (v : BackingArray). n ≤ v.capacity)
    same (omega arith)

-- regrown storage has the requested capacity
pub table-places : (l : LiveSet) (each n : ℕ) (t : BackingArray) {u : BackingArray} → grown_backing l each n t ≡ Some u
    → n ≤ u.capacity
unfolding grown_backing
table-places l each n t e = table-if l n t (nat_le n t.capacity) (regrow l t.extent (each * n)) refl e

-- gaps stay after a growth within the block
pub grown-gaps : {old mid new : WindowState} {p : Place} {each n len : ℕ} {t : BackingArray} {bytes : List ℕ}
    → IsContainer old.bytes p each len t bytes → (g : ReservesStorageOk old mid p each n len t bytes)
    → t.extent ≡ g.table.extent → KeepsGaps mid new → KeepsGaps old new
grown-gaps {old} {mid} {new} {p} {t} s g same k =
    let change = subst (λ o. ExchangesBlocks current old mid (place_at p) 24 (option_to_list t.extent)
    (option_to_list o)) (sym same) g.change in gaps-trans old mid new (same-storage s change) (g.gaps same) k

-- the place for it
pub has-place : {old mid : WindowState} {p : Place} {each len n : ℕ} {t : BackingArray} {bytes : List ℕ} → len < n
    → ReservesStorageOk old mid p each n len t bytes
    → word_at (bytes_of mid.bytes) (p.handle + p.at + 8) < word_at (bytes_of mid.bytes) (p.handle + p.at + 16)
has-place {old} {each} {n} {t} f g =
    let places = table-places (live_of old.bytes) each n t g.grown in
    omega (arith, places, f, g.stands.words.len_word, g.stands.words.capacity)

-- ---- the storage is written in, and the length stays

-- the storage of a container with a block
pub storage-has : {b : List ℕ} {p : Place} {each len c g : ℕ} {o : Option Extent} {bytes : List ℕ}
    → IsContainer b p each len (table c o) bytes → link_at (bytes_of b) (place_at p) ≡ Some g
    → HasBytesAt (bytes_of b) g bytes
storage-has {o = None} s link = none-some s.words.link link
storage-has {b} {o = Some x} {bytes} s link =
    let g_is = same-some (sym s.words.link ∙ link) in subst (λ k. HasBytesAt (bytes_of b) k bytes) g_is s.words.storage

-- elements that are not written are rewritten with themselves
pub unchanged-rewritten : (c : WindowState) {p : Place} {each len : ℕ} {t : BackingArray} {bytes : List ℕ}
    → IsContainer c.bytes p each len t bytes → RewritesElements c c p each len t bytes
unchanged-rewritten c s = record { change = (stands-run c s).change; gaps = gaps-refl c; stands = s }

pub unchanged : (c : WindowState) (from n : ℕ) → IsHeap current c.bytes → ChangesBytes current c c from n
unchanged c from n heap =
    record { place = record { before = refl; after = refl }; live = heap; rest = record { at = λ k f. refl } }

-- n elements are written over
pub overwritten-all : {old new : WindowState} {p : Place} {each len g : ℕ} (i n : ℕ) {t : BackingArray} {bytes : List ℕ}
    (more : List ℕ) → IsContainer old.bytes p each len t bytes → i + n ≤ len → length more ≡ each * n
    → link_at (bytes_of old.bytes) (place_at p) ≡ Some g → ChangesBytes current old new (g + each * i) (length more)
    → HasBytesAt (bytes_of new.bytes) (g + each * i) more
    → RewritesElements old new p each len t (patched bytes (each * i) more)
overwritten-all {new} {p} {each} {len} {g} i n {t} {bytes} more s f e link c1 content =
    let within = more-times each (i + n) len f in
    let step : each * (i + n) ≡ each * i + each * n = omega arith in
    let less = more-times each len t.capacity s.fits in let total = s.long in
    let inside : each * i + length more ≤ length bytes = omega (arith, within, step, total, e) in
    rewritten (each * i) len (patched bytes (each * i) more) s link c1 (omega (arith, inside, total, less)) s.fits
    (length-patch bytes (each * i) more inside ∙ s.long)
    (HasBytesAt-patched g (each * i) bytes more inside c1.rest (storage-has s link) content)
    (unchanged new (p.handle + (p.at + 8)) 8 (laid-heap _ _ c1.live)) (ap (word_at (bytes_of new.bytes)) (omega arith)
    ∙ (written-run (each * i) s link c1 (omega (arith, inside, total, less))).words.len_word)

-- one element is replaced
pub overwritten : {old new : WindowState} {p : Place} {each len g : ℕ} (i : ℕ) {t : BackingArray} {bytes : List ℕ}
    (more : List ℕ) → IsContainer old.bytes p each len t bytes
    → i < len → length more ≡ each → link_at (bytes_of old.bytes) (place_at p) ≡ Some g
    → ChangesBytes current old new (g + each * i) (length more) → HasBytesAt (bytes_of new.bytes) (g + each * i) more
    → RewritesElements old new p each len t (patched bytes (each * i) more)
overwritten {each = each} i more s f e = overwritten-all i 1 more s (omega (arith, f)) (omega (arith, e))

-- ---- elements are left out at the end

cut-storage : {old new : WindowState} {p : Place} {each len c : ℕ} (k : ℕ) {o : Option Extent} {bytes : List ℕ}
    → IsContainer old.bytes p each len (table c o) bytes → k ≤ length bytes
    → ChangesBytes current old new (place_at p) 24 → IsStorage (bytes_of new.bytes) (table c o) (take k bytes)
cut-storage k {o = None} {bytes} s f c2 = ap (take k) s.words.storage ∙ take-nil k
cut-storage {old} {new} {p} {each} {len} {c} k {o = Some x} {bytes} s f c2 =
    let full = table-full each c x s.table in let less = more-times each len c s.fits in let total = s.long in
    let stays = beside-head (handle x) s.heap (room-head old p s.heap s.room) c2 s.own.0 (λ e. s.own.1 (sym e)) in
    HasBytesAt-take (bytes_of new.bytes) (handle x) k bytes f (read-same _ _ _ _ (handle x) (length bytes) stays.payload
    (omega arith) (omega (arith, full, less, total)) ∙ s.words.storage)

-- a container with its length cut holds the front of its elements
pub truncated : {old new : WindowState} {p : Place} {each len : ℕ} (n : ℕ) {t : BackingArray} {bytes : List ℕ}
    → IsContainer old.bytes p each len t bytes → n ≤ len → ChangesBytes current old new (p.handle + (p.at + 8)) 8
    → word_at (bytes_of new.bytes) (p.handle + (p.at + 8)) ≡ n
    → RewritesElements old new p each n t (take (each * n) bytes)
truncated {old} {p} {each} {len} n {bytes} s f c2 word =
    let less = more-times each n len f in let total = s.long in let fits = s.fits in
    let one = stands-run old s in let wide = head-wider p c2 (omega arith) (omega arith) in
    let two = run-headed one wide (len-written n (omega arith) c2.rest word one.words) in
    let long : length (take (each * n) bytes) ≡ each * n = omega (arith, length-take (each * n) bytes, total, less) in
    record {
      change = two.change;
      gaps = head-gaps p s.room wide;
      stands = run-stands (take (each * n) bytes) s two s.table (omega (arith, f, fits))
          long (cut-storage (each * n) s (omega (arith, total, less)) wide);
    }

-- ---- conditions of the heap's calls

storage-room_in : {b : List ℕ} {p : Place} {each len c g : ℕ} {o : Option Extent} {bytes : List ℕ}
    → IsContainer b p each len
    (table c o) bytes → link_at (bytes_of b) (place_at p) ≡ Some g → IsTrue (has_room (live_of b) g (each * c))
storage-room_in {o = None} s link = none-some s.words.link link
storage-room_in {b} {each} {c} {o = Some x} s link =
    let g_is = same-some (sym s.words.link ∙ link) in let full = table-full each c x s.table in
    subst (λ k. IsTrue (has_room (live_of b) k (each * c))) g_is
    (found-room (live_of b) (handle x) (each * c) x s.own.0 full)

-- the storage has room for the bytes of the elements, and of the capacity
pub some-room : {b : List ℕ} {p : Place} {each len g : ℕ} (n : ℕ) {t : BackingArray} {bytes : List ℕ}
    → IsContainer b p each len t
    bytes → link_at (bytes_of b) (place_at p) ≡ Some g → n ≤ each * t.capacity → IsTrue (has_room (live_of b) g n)
some-room {b} {each} {g} n {t} s link f = room-less (live_of b) g (each * t.capacity) n f (storage-room_in s link)

-- so its block is in use
pub live-if : (h n : ℕ) (xs : List Extent) → IsTrue (list_any (λ (x : Extent). (handle x == h) && holds x n) xs)
    → IsTrue (list_any (λ (x : Extent). handle x == h) xs)
live-if h n [] t = t
live-if h n (x ∷ xs) t =
    elim (or_cases ((handle x == h) && holds x n) (list_any (λ (y : Extent). (handle y == h) && holds y n) xs) t) [
      | inl e ↦ or_left (handle x == h) (list_any (λ (y : Extent). handle y == h) xs)
          (and_parts (handle x == h) (holds x n) e).0
      | inr e ↦ or_right (handle x == h) (list_any (λ (y : Extent). handle y == h) xs) (live-if h n xs e)
    ]

-- the block that the head links to is in use
pub storage-live : {b : List ℕ} {p : Place} {each len g : ℕ} {t : BackingArray} {bytes : List ℕ}
    → IsContainer b p each len t bytes → link_at (bytes_of b) (place_at p) ≡ Some g → IsTrue (is_live_in (live_of b) g)
storage-live {b} {each} {g} {t} s link = live-if g (each * t.capacity) (live_of b).extents (storage-room_in s link)

-- elements within the length are within the capacity
pub elements-fit : {b : List ℕ} {p : Place} {each len : ℕ} (n : ℕ) {t : BackingArray} {bytes : List ℕ}
    → IsContainer b p each len t bytes → n ≤ len → each * n ≤ each * t.capacity
elements-fit {each} {len} n {t} s f = let few : len ≤ t.capacity = s.fits in more-times each n t.capacity
    (omega (arith, f, few))

-- an element within the length is within the capacity
pub element-fits : {b : List ℕ} {p : Place} {each len : ℕ} (i : ℕ) {t : BackingArray} {bytes : List ℕ}
    → IsContainer b p each len t bytes → i < len → each * i + each ≤ each * t.capacity
element-fits {each} i {t} s f =
    let within = elements-fit (i + 1) s (omega (arith, f)) in
    let step : each * (i + 1) ≡ each * i + each = omega arith in omega (arith, within, step)

-- ---- the bytes of all elements

-- the bytes that are read from the payload are the bytes of the elements
pub read-all : (c : WindowState) {p : Place} {each len : ℕ} (k : ℕ) {g : ℕ} {t : BackingArray} {bytes : List ℕ}
    (out : List ℕ) → IsContainer c.bytes p each len t bytes → k ≡ len → link_at (bytes_of c.bytes) (place_at p) ≡ Some g
    → out ≡ payload_at c.bytes (live_of c.bytes) g → take (each * k) out ≡ bytes
read-all c {each} {len} k {g} out s is link e =
    let n : ℕ = each * len in let r = room_block c g n s.heap (some-room n s link (elements-fit len s (omega arith))) in
    ap (λ j. take (each * j) out) is ∙ ap (take n) (e ∙ block_payload c g r.block) ∙ take-take n
    (r.block.tile.len - 16) (drop g c.bytes) (omega (arith, r.enough))
    ∙ sym (read-part c.bytes g n (omega (arith, r.enough, r.block.inside, r.block.at)))
    ∙ ap (read (bytes_of c.bytes) g) (sym s.long) ∙ storage-has s link

-- ---- each extent is shorter than the greatest heap

ends : (from : ℕ) (xs : List Extent) (to : ℕ) → to < 1073741824 → IsTrue (proper_from from xs to)
    → (from ≤ to) × AllByRecursion (λ (x : Extent). x.len < 1073741824) xs
ends from [] to f h = (hole-order from to h, tt)
ends from (x ∷ xs) to f h =
    let two = and_parts (is_hole from x.offset && is_block x) (proper_from (end_of x) xs to) h in
    let front = and_parts (is_hole from x.offset) (is_block x) two.0 in
    let rest = ends (end_of x) xs to f two.1 in let above = hole-order from x.offset front.0 in let below = rest.0 in
    (omega (arith, above, below), (omega (arith, below, f), rest.1))

short-extents : (l : LiveSet) → IsTrue (is_proper l) → AllByRecursion (λ (x : Extent). x.len < 1073741824) l.extents
unfolding is_proper
short-extents l p =
    let two = and_parts (is_legal_size l.size) (proper_from 128 l.extents (l.size - 16)) p in
    let high = (legal_size l.size two.0).high in let low = (legal_size l.size two.0).low in
    (ends 128 l.extents (l.size - 16) (omega (arith, high, low)) two.1).1

regrow-moved : (l : LiveSet) (x : Extent) (n : ℕ) (o : Option Extent) → holds x n ≡ false → longer l x n ≡ o
    → regrow l (Some x) n ≡ (elim o as (λ _. Option Extent) [ Some y ↦ Some y | None ↦ place l n Storage ])
unfolding regrow
regrow-moved l x n o e f = λ i. if e i then Some x else elim (f i) as (λ _. Option Extent)
    [ Some y ↦ Some y | None ↦ place l n Storage ]

-- storage for a container without storage is allocated
pub regrow-new : (l : LiveSet) (n : ℕ) → regrow l None n ≡ place l n Storage
unfolding regrow
regrow-new l n = refl

none-by : (l : LiveSet) {x : Extent} (n : ℕ) (o : Option Extent) → IsTrue (is_proper l)
    → extent_at l (handle x) ≡ Some x → IsTrue (same_role x.role Storage) → 1073741824 < n → holds x n ≡ false
    → longer l x n ≡ o → place l n Storage ≡ None → regrow l (Some x) n ≡ None
none-by l {x} n None p found role f e is none = regrow-moved l x n None e is ∙ none
none-by l {x} n (Some y) p found role f e is none =
    let here = subst (λ (o : Option Extent). IsTrue (elim o as (λ _. Bool) [ None ↦ false | Some z ↦ z.len == x.len ]))
    (sym found) (eq-eqb x.len x.len refl) in
    let proper = IfSome_is (λ z. IsTrue (is_proper (resized l z))) (longer l x n) y is
    ((all_keep_proper l p).longer x n here) in
    let less = (all_of-insert (λ (z : Extent). z.len < 1073741824) y (others (handle y) l.extents)
    (short-extents (resized l y) proper)).0 in
    let serving = regrow-serves l (Some x) y n role (regrow-moved l x n (Some y) e is) in
    let long = serves-full y n serving in absurd (omega (arith, less, long, f))

no-regrow : (c : WindowState) (p : Place) (each k n : ℕ) (o : Option Extent) → IsHeap current c.bytes
    → IsTrue (has_backing Storage each (table k o)) → IsStorageBlock (live_of c.bytes) p.handle o → 1073741824 < n
    → regrow (live_of c.bytes) o n ≡ None
no-regrow c p each k n None heap t own f = regrow-new (live_of c.bytes) n ∙ too_long c n Storage heap f
no-regrow c p each k n (Some x) heap t own f =
    let l = live_of c.bytes in
    let less = (in_use-all (λ (z : Extent). z.len < 1073741824) l (handle x) x heap.proper own.0
    (short-extents l heap.proper)).0 in
    none-by l n (longer l x n) heap.proper own.0 (storage-role each k (Some x) t) f
    (lt-leb (n + 16) x.len (omega (arith, less, f))) refl (too_long c n Storage heap f)

-- more than 1 GiB of elements have no space
pub too-many : (c : WindowState) {p : Place} {each : ℕ} (n : ℕ) {len : ℕ} {t : BackingArray} {bytes : List ℕ}
    → IsContainer c.bytes p each len t bytes → 1 ≤ each → 1073741824 < n → LacksSpace c c each n t NoSpace
too-many c {p} {each} n {t} s some f =
    let few = capacity-bytes c s.heap s in let least = at-least each t.capacity some in
    let more = at-least each n some in
    let r : RegrowsNoSpace c c t.extent (each * n) = record {
      none = no-regrow c p each t.capacity (each * n) t.extent s.heap s.table s.own (omega (arith, more, f));
      same = refl;
    } in
    grows-nothing each n t (omega (arith, few, least, f)) r

-- ---- elements more

-- elements written after the last one are appended
pub extended : {old s1 new : WindowState} {p : Place} {each len g : ℕ} (n : ℕ) {t : BackingArray} {bytes : List ℕ}
    (more : List ℕ) → IsContainer old.bytes p each len t bytes → len + n ≤ t.capacity → length more ≡ each * n
    → link_at (bytes_of old.bytes) (place_at p) ≡ Some g → ChangesBytes current old s1 (g + each * len) (length more)
    → HasBytesAt (bytes_of s1.bytes) (g + each * len) more → ChangesBytes current s1 new (p.handle + (p.at + 8)) 8
    → word_at (bytes_of new.bytes) (p.handle + (p.at + 8)) ≡ len + n
    → RewritesElements old new p each (len + n) t (bytes ++ more)
extended {old} {s1} {each} {len} {g} n {t} {bytes} more s f long link c1 content c2 word =
    let m = bytes_of old.bytes in let ms = bytes_of s1.bytes in let total = s.long in
    let sum = length-append bytes more in let less = more-times each (len + n) t.capacity f in
    let step : each * (len + n) ≡ each * len + each * n = omega arith in
    let front : HasBytesAt ms g bytes = read-same m ms g (g + each * len) g (length bytes)
    (record { at = λ k a b. c1.rest.at k (inl (omega arith)) }) (omega arith) (omega (arith, total))
    ∙ storage-has s link in
    let behind : HasBytesAt ms (g + length bytes) more =
    subst (λ k. HasBytesAt ms k more) (omega (arith, total)) content in
    rewritten (each * len) (len + n) (bytes ++ more) s link c1 (omega (arith, long, less, step)) f
    (omega (arith, sum, total, long, step)) (HasBytesAt-append ms g bytes more front behind) c2 word

-- without storage there are no elements
pub none-more : (c : WindowState) {p : Place} {each len k : ℕ} (n : ℕ) {o : Option Extent} {bytes : List ℕ}
    → IsContainer c.bytes p each len (table k o) bytes → len + n ≤ k → link_at (bytes_of c.bytes) (place_at p) ≡ None
    → n ≡ 0
none-more c {k = k} n {o = None} s f link = let none = eqb-true k 0 s.table in omega (arith, f, none)
none-more c n {o = Some x} s f link = absurd (none-some link s.words.link)

-- no elements are appended to a container without storage
pub extended-not : (c : WindowState) {p : Place} {each len k : ℕ} (n : ℕ) {o : Option Extent} {bytes : List ℕ}
    (more : List ℕ) → IsContainer c.bytes p each len (table k o) bytes → len + n ≤ k → length more ≡ each * n
    → link_at (bytes_of c.bytes) (place_at p) ≡ None → RewritesElements c c p each (len + n) (table k o) (bytes ++ more)
extended-not c {p} {each} {len} {k} n {o} {bytes} more s f long link =
    let no = none-more c n s f link in
    let nothing : each * 0 ≡ 0 = omega arith in
    let empty = nil_from_length more (long ∙ ap (λ j. each * j) no ∙ nothing) in
    subst (λ (ws : List ℕ). RewritesElements c c p each (len + n) (table k o) (bytes ++ ws)) (sym empty)
    (subst (λ j. RewritesElements c c p each j (table k o) (bytes ++ [])) (let e : len ≡ len + n =
    omega (arith, no) in e)
    (subst (λ (ws : List ℕ). RewritesElements c c p each len (table k o) ws) (sym (append-nil bytes))
    (unchanged-rewritten c s)))

-- without storage the capacity is 0
pub none-free : {b : List ℕ} {p : Place} {each len k : ℕ} (n : ℕ) {o : Option Extent} {bytes : List ℕ}
    → IsContainer b p each len (table k o) bytes → len + n ≤ k → link_at (bytes_of b) (place_at p) ≡ None → n ≡ 0
none-free {k = k} n {o = None} s f link = let none = eqb-true k 0 s.table in omega (arith, f, none)
none-free n {o = Some x} s f link = none-some link s.words.link

-- ---- the number of bytes before and after an element

record Pieces (each len i : ℕ) (bytes : List ℕ) : Type 0 where
  front : length (take (each * i) bytes) ≡ each * i
  back : length (drop (each * i) bytes) ≡ each * (len - i)
  sum : each * i + each * (len - i) ≡ each * len

pieces : (each len i : ℕ) (bytes : List ℕ) → i ≤ len → length bytes ≡ each * len → Pieces each len i bytes
pieces each len i bytes f e =
    let whole : i + (len - i) ≡ len = omega (arith, f) in
    let split : each * (i + (len - i)) ≡ each * i + each * (len - i) = omega arith in
    let sum : each * i + each * (len - i) ≡ each * len = sym split ∙ ap (λ k. each * k) whole in
    record {
      front = omega (arith, length-take (each * i) bytes, sum, e);
      back = omega (arith, length-drop (each * i) bytes, sum, e);
      sum = sum;
    }

-- ---- an element is left out

-- elements moved down over one: it is erased
pub erased : {old s1 new : WindowState} {p : Place} {each len g : ℕ} (i : ℕ) {t : BackingArray} {bytes : List ℕ}
    → IsContainer old.bytes p each len t bytes → i < len → link_at (bytes_of old.bytes) (place_at p) ≡ Some g
    → ChangesBytes current old s1 (g + each * i) (each * (len - i - 1)) → read (bytes_of s1.bytes) (g + each * i)
    (each * (len - i - 1)) ≡ read (bytes_of old.bytes) (g + (each * i + each)) (each * (len - i - 1))
    → ChangesBytes current s1 new (p.handle + (p.at + 8)) 8 → word_at (bytes_of new.bytes) (p.handle + (p.at + 8))
    ≡ len - 1 → RewritesElements old new p each (len - 1) t (take (each * i) bytes ++ drop (each * i + each) bytes)
erased {old} {s1} {each} {len} {g} i {t} {bytes} s f link c1 moved c2 word =
    let m = bytes_of old.bytes in let ms = bytes_of s1.bytes in let k : ℕ = each * i + each in
    let n : ℕ = each * (len - i - 1) in
    let front = take (each * i) bytes in let back = drop k bytes in let has = storage-has s link in
    let total = s.long in let a = pieces each len i bytes (omega (arith, f)) s.long in let before = a.front in
    let whole : (i + 1) + (len - i - 1) ≡ len = omega (arith, f) in
    let split : each * ((i + 1) + (len - i - 1)) ≡ each * i + each + each * (len - i - 1) = omega arith in
    let sum : k + n ≡ each * len = sym split ∙ ap (λ j. each * j) whole in
    let behind : length back ≡ n = omega (arith, length-drop k bytes, total, sum) in
    let less = more-times each len t.capacity s.fits in
    let shorter : each * (len - 1) ≡ each * i + n = ap (λ j. each * j) (let e : len - 1 ≡ i + (len - i - 1) = omega
    (arith, f) in e) ∙ (let e : each * (i + (len - i - 1)) ≡ each * i + each * (len - i - 1) = omega arith in e) in
    let one = HasBytesAt-beside g front c1.rest (inl (omega (arith, before)))
    (HasBytesAt-take m g (each * i) bytes (omega (arith, total, sum)) has) in
    let rest = HasBytesAt-drop m g k bytes (omega (arith, total, sum)) has in
    let two : HasBytesAt ms (g + each * i) back = ap (read ms (g + each * i)) behind ∙ moved ∙ ap (read m (g + k))
    (sym behind) ∙ rest in
    rewritten (each * i) (len - 1) (front ++ back) s link c1 (omega (arith, sum, less)) (omega (arith, s.fits))
    (omega (arith, length-append front back, before, behind, shorter))
    (HasBytesAt-append ms g front back one (subst (λ j. HasBytesAt ms (g + j) back) (sym before) two)) c2 word

-- ---- an element is inserted

both-within : {a b c : Memory} {from one n at : ℕ}
    → at ≡ from + one → SameBytesExcept a b at n → SameBytesExcept b c from one → SameBytesExcept a c from (one + n)
both-within {from} {one} {n} {at} e p q = record { at = λ k f. q.at k (outer k f) ∙ p.at k (inner k f) }
  where
    outer : (k : ℕ) → (k < from) ⊎ (from + (one + n) ≤ k) → (k < from) ⊎ (from + one ≤ k)
    outer k (inl f) = inl f
    outer k (inr f) = inr (omega (arith, f))

    inner : (k : ℕ) → (k < from) ⊎ (from + (one + n) ≤ k) → (k < at) ⊎ (at + n ≤ k)
    inner k (inl f) = inl (omega (arith, f, e))
    inner k (inr f) = inr (omega (arith, f, e))

-- elements moved up and one written: it is inserted
pub put_in : {old s1 s2 new : WindowState} {p : Place} {each len g : ℕ} (i : ℕ) {t : BackingArray} {bytes : List ℕ}
    (more : List ℕ) → IsContainer old.bytes p each len t bytes
    → i ≤ len → len < t.capacity → length more ≡ each → link_at (bytes_of old.bytes) (place_at p) ≡ Some g
    → ChangesBytes current old s1 (g + (each * i + each)) (each * (len - i))
    → read (bytes_of s1.bytes) (g + (each * i + each)) (each * (len - i))
    ≡ read (bytes_of old.bytes) (g + each * i) (each * (len - i)) → ChangesBytes current s1 s2 (g + each * i) each
    → HasBytesAt (bytes_of s2.bytes) (g + each * i) more → ChangesBytes current s2 new (p.handle + (p.at + 8)) 8
    → word_at (bytes_of new.bytes) (p.handle + (p.at + 8)) ≡ len + 1
    → RewritesElements old new p each (len + 1) t (take (each * i) bytes ++ (more ++ drop (each * i) bytes))
put_in {old} {s1} {s2} {each} {len} {g} i {t} {bytes} more s f room e link c1 moved c2 content c3 word =
    let m = bytes_of old.bytes in let m1 = bytes_of s1.bytes in let ms = bytes_of s2.bytes in
    let n : ℕ = each * (len - i) in
    let front = take (each * i) bytes in let back = drop (each * i) bytes in let has = storage-has s link in
    let total = s.long in let a = pieces each len i bytes f s.long in let before = a.front in
    let behind = a.back in let sum = a.sum in let step : each * (len + 1) ≡ each * len + each = omega arith in
    let less = more-times each (len + 1) t.capacity (omega (arith, room)) in
    let c : ChangesBytes current old s2 (g + each * i) (each + n) = record {
      place = record { before = c2.place.before ∙ c1.place.before; after = c2.place.after ∙ c1.place.after };
      live = subst (EncodesLiveSet current s2.bytes) (changed-live _ old s1 _ n c1) c2.live;
      rest = both-within (omega arith) c1.rest c2.rest;
    } in
    let one = HasBytesAt-beside g front c.rest (inl (omega (arith, before)))
    (HasBytesAt-take m g (each * i) bytes (omega (arith, total, sum)) has) in
    let rest = HasBytesAt-drop m g (each * i) bytes (omega (arith, total, sum)) has in
    let up : HasBytesAt m1 (g + (each * i + each)) back = ap (read m1 (g + (each * i + each))) behind ∙ moved
    ∙ ap (read m (g + each * i)) (sym behind) ∙ rest in
    let two = HasBytesAt-beside (g + (each * i + each)) back c2.rest (inr (omega arith)) up in
    let three = HasBytesAt-append ms (g + each * i) more back content
    (subst (λ j. HasBytesAt ms j back) (omega (arith, e)) two) in
    rewritten (each * i) (len + 1) (front ++ (more ++ back)) s link c (omega (arith, sum, less, step))
    (omega (arith, room))
    (omega (arith, length-append front (more ++ back), length-append more back, before, behind, e, sum, step))
    (HasBytesAt-append ms g front (more ++ back) one
    (subst (λ j. HasBytesAt ms (g + j) (more ++ back)) (sym before) three)) c3 word

-- ---- conditions of the heap's calls

-- the storage has room for an element, the elements before it and n bytes after it
pub record Fitting (l : LiveSet) (each i n g : ℕ) : Type 0 where
  pub small : each * i + each + n < 1073741824
  pub room : IsTrue (has_room l g (each * i + each + n))

fitting : (c : WindowState) {p : Place} {each len g : ℕ} (i n j : ℕ) {t : BackingArray} {bytes : List ℕ}
    → IsContainer c.bytes p each len t bytes → link_at (bytes_of c.bytes) (place_at p) ≡ Some g → j ≤ t.capacity
    → each * i + each + n ≡ each * j → Fitting (live_of c.bytes) each i n g
fitting c {each} {g} i n j {t} s link f e =
    let less = more-times each j t.capacity f in
    let room = some-room (each * i + each + n) s link (omega (arith, e, less)) in
    record { small = room-small c g (each * i + each + n) s.heap room; room = room }

-- the block of the storage has room for a part of the elements
pub part-room : {l : LiveSet} {each i n g : ℕ} (k : ℕ) → k ≤ each * i + each + n → Fitting l each i n g
    → IsTrue (has_room l g k)
part-room {l} {each} {i} {n} {g} k f q = room-less l g (each * i + each + n) k f q.room

-- the bytes that an erasure moves lie in the storage
pub erase-fits : (c : WindowState) {p : Place} {each len : ℕ} (k : ℕ) {g : ℕ} (i : ℕ) {t : BackingArray}
    {bytes : List ℕ} → IsContainer c.bytes p each len t bytes
    → k ≡ word_at (bytes_of c.bytes) (place_at p + 8) → i < word_at (bytes_of c.bytes) (p.handle + p.at + 8)
    → link_at (bytes_of c.bytes) (place_at p) ≡ Some g → Fitting (live_of c.bytes) each i (each * (k - i - 1)) g
erase-fits c {each} {len} k i s e inside link =
    let is = e ∙ s.words.len_word in let below : i < len = omega (arith, inside, s.words.len_word) in
    let whole : (i + 1) + (k - i - 1) ≡ len = omega (arith, below, is) in
    let split : each * ((i + 1) + (k - i - 1)) ≡ each * i + each + each * (k - i - 1) = omega arith in
    fitting c i (each * (k - i - 1)) len s link s.fits (sym split ∙ ap (λ j. each * j) whole)

-- the bytes that an insertion moves lie in the storage
pub insert-fits : (c : WindowState) {p : Place} {each len : ℕ} (k : ℕ) {g : ℕ} (i : ℕ) {t : BackingArray}
    {bytes : List ℕ} → IsContainer c.bytes p each len t bytes
    → k ≡ word_at (bytes_of c.bytes) (place_at p + 8) → i ≤ word_at (bytes_of c.bytes) (p.handle + p.at + 8)
    → word_at (bytes_of c.bytes) (p.handle + p.at + 8) < word_at (bytes_of c.bytes) (p.handle + p.at + 16)
    → link_at (bytes_of c.bytes) (place_at p) ≡ Some g → Fitting (live_of c.bytes) each i (each * (k - i)) g
insert-fits c {each} {len} k i {t} s e inside space link =
    let is = e ∙ s.words.len_word in let below : i ≤ len = omega (arith, inside, s.words.len_word) in
    let room : len < t.capacity = omega (arith, space, s.words.len_word, s.words.capacity) in
    let whole : (i + 1) + (k - i) ≡ len + 1 = omega (arith, below, is) in
    let split : each * ((i + 1) + (k - i)) ≡ each * i + each + each * (k - i) = omega arith in
    fitting c i (each * (k - i)) (len + 1) s link (omega (arith, room)) (sym split ∙ ap (λ j. each * j) whole)

stays-if : (b : Bool) (len capacity : ℕ) → nat_lt len capacity ≡ b → len < capacity
    → (if b then capacity else max 4 (2 * capacity)) ≤ capacity
stays-if true len capacity e f = omega (arith)
stays-if false len capacity e f = grind arith

-- one element fits: the capacity stays
pub less-stays : (len capacity : ℕ) → len < capacity → capacity_for_one len capacity ≤ capacity
less-stays len capacity f = stays-if (nat_lt len capacity) len capacity refl f
