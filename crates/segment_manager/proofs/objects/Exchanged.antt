-- An object in the place of one like it, whose value has other blocks: the blocks of all other objects stay.
use Rattle.segment_manager.proofs.Common as common
use Rattle.std.proofs.lemmas.List.{take-replicate}
use Rattle.raw_region.proofs.{Bytes.HasBytesAt-append, Facts.no_more, Facts.second}
use Rattle.raw_region.proofs.Laws.{SameBytesExcept-SameBytes, SameBytesExcept-wider, length-part, part-part, read-part}
use Rattle.best_fit.proofs.Laws.{LiesBeside, above, allocated-is_live, below, block_payload, changed-keeps_block}
use Rattle.best_fit.proofs.Laws.{found-inserted, found-new, found-none, found-room, inserted-append, live-spaced}
use Rattle.best_fit.proofs.Laws.{spaced-insert, spread-refl, still_allocated-block, taken-back, written-but}
use Rattle.best_fit.specs.{Fit.insert, Heap.payload_at}
use Rattle.seg_index.proofs.Laws.{Around-kept, ObjectStays, all_found, place_behind, place_small, stays, stays-itself}
use Rattle.seg_index.proofs.Laws.{taken-stays}
use Rattle.seg_index.specs.{Growth.CanGrow, Growth.FreesGrowth, Growth.IsBlockFor, Sorted.HasSortKey}
use Rattle.segment_manager.proofs.{containers.MapBlocks.blocks-in_use, indexes.Bridge.key-fits}
use Rattle.segment_manager.proofs.blocks.NewBlocks.{allocated-serves, changed-trans}
use Rattle.segment_manager.proofs.directory.{IndexedParts.IsLike, LiveSet.without-inserted, LiveSet.without_all}
use Rattle.segment_manager.proofs.directory.AnyDirectory.{denotes-heap, denotes-live, object-at}
use Rattle.segment_manager.proofs.directory.Frame.{denotes-replaced, object-roomy, padded_name-length}
use Rattle.segment_manager.proofs.directory.LiveSet.{IsFound, IsIn, Rising, adding, all_of-insert, all_of-inserted}
use Rattle.segment_manager.proofs.directory.LiveSet.{apart-inserted, insert-inserted, inserted, live-changed}
use Rattle.segment_manager.proofs.directory.LiveSet.{live-rises, live-split, resized-fresh, rising-insert}
use Rattle.segment_manager.proofs.objects.Regrown.{InPlace, differs-flip, rest, with_extents}
use Rattle.segment_manager.proofs.objects.Rewritten.{object-held, value_start, with_value}
use common.{AllByRecursion, AllocatesNoSpace, AllocatesOk, Answer, BackingArray, BeginsObjectOk, Bool, ChangesBytes}
use common.{Class, Deallocates, Denotes, Directory, EncodesLiveSet, ExchangesBlocks, Extent, HasBytesAt}
use common.{HasBytesAt-same, IfSome, Index, IndexRole, IsHeadAt, IsHeap, IsIndexOf, IsObjectAt, IsTrue, IsValueAt}
use common.{KeepsBlocks, Key, Kind, List, LiveSet, Memory, New, NoSpace, None, Object, ObjectRole, Option, PendingEntry}
use common.{Plan, PreparesOk, Refused, Request, RequestsBlocksErr, RequestsBlocksOk, RestoresBlocks, Role, SameBlock}
use common.{SameBlockExcept, SameBytes, SameBytes-link, SameBytes-part, SameBytes-trans, SameBytes-word, SameSpread}
use common.{SameSurroundings-trans, Some, Storage, Value, WindowState, WritesObjectHeader, WritesUnindexedAlone}
use common.{WritesUnindexedForEntry, WritesUnindexedObject, [], added, allocated-live, allocated-room, ap, arith}
use common.{blocks-trans, bytes_of, changed, changed-live, changed-room, class_code, code_of, count_of, current, end_of}
use common.{exchanged, extent_at, extents_of, find, grown_backing, grown_bytes, grown_capacity, handle, has_room, holds}
use common.{if◌then◌else◌, index_at, inl, inr, is_live_in, is_object, is_proper, keeps-refl, keeps-trans, kind_of}
use common.{laid-heap, lay_out_one, length, length-replicate, live, live_of, lt-leb, middle-first}
use common.{ne_eqb, no_backing, option_map, padded, padded_name, part, perform, place, read, refl, regrow}
use common.{remove_object, replicate, resized, room_block, room_for, same_role, subst, suc, sym, take}
use common.{two_halves, value_extents, value_len, with_changed, with_storage, without_object, word_at, zero, ℕ, ◌%◌}
use common.{◌*◌, ◌++◌, ◌+◌, ◌-◌, ◌/◌, ◌==◌, ◌∙◌, ◌∷◌, ◌≡◌, ◌≢◌, ◌≤◌}

-- ---- extents among others

-- an extent before the inserted ones, or after them
put-last : (x : Extent) (ys zs : List Extent) → Rising 128 (insert x (inserted ys zs))
    → insert x (inserted ys zs) ≡ inserted ys (insert x zs)
put-last x ys zs r =
    let f = rising-insert 128 x (inserted ys zs) r in
    insert-inserted x ys zs (all_of-inserted (λ (y : Extent). x.offset ≢ y.offset) ys zs f.differs).0

-- an extent inserted before the others is the first
pub put-first : (x : Extent) (ys zs : List Extent) → Rising 128 (inserted ys (insert x zs))
    → inserted ys (insert x zs) ≡ insert x (inserted ys zs)
put-first x ys zs r = sym (insert-inserted x ys zs (differs-flip x ys (apart-inserted 128 ys (x ∷ []) zs r)))

-- ---- the live set

-- An object and its replacement: some blocks of the value are freed, others allocated, and the others are the same.
pub record Exchange (o o' : Object) (gone come : List Extent) : Type 0 where
  pub same : List Extent
  pub was : SameSpread (value_extents o.value) (gone ++ same)
  pub is : SameSpread (come ++ same) (value_extents o'.value)

-- they are between the others
pub between : (o o' : Object) (front gone come back : List Extent) → value_extents o.value ≡ front ++ (gone ++ back)
    → value_extents o'.value ≡ front ++ (come ++ back) → Exchange o o' gone come
between o o' front gone come back e f = record {
  same = front ++ back;
  was = subst (λ xs. SameSpread xs (gone ++ (front ++ back))) (sym e) (middle-first front gone back);
  is = subst (SameSpread (come ++ (front ++ back))) (sym f) (middle-first come front back);
}

-- all that the object has but the gone ones, and the blocks of the other objects
pub live-kept : {d : Directory} {o o' : Object} {gone come : List Extent} → InPlace d o o'
    → (x : Exchange o o' gone come) → without_all gone (live d).extents ≡ inserted (o.extent ∷ x.same) (rest d o')
live-kept {d} {o} {o'} {gone} p x =
    let r = rest d o' in
    let e = live-split d o (subst (λ (e : Extent). IsFound (handle e) d.objects o) p.extent p.found) p.proper
    ∙ (λ i. adding (live (record d { objects = remove_object (handle (sym p.extent i)) d.objects })) (extents_of o)) in
    let up = live-rises (with_extents d o' (extents_of o)) (subst (λ l. IsTrue (is_proper l)) e p.proper) in
    let parts = x.was.same r (rising-insert 128 o.extent (inserted (value_extents o.value) r) up).rest
    ∙ inserted-append gone x.same r in
    let up' : Rising 128 (insert o.extent (inserted gone (inserted x.same r))) =
    subst (λ xs. Rising 128 (insert o.extent xs)) parts up in
    ap (without_all gone) (ap (λ (l : LiveSet). l.extents) e ∙ ap (insert o.extent) parts
    ∙ put-last o.extent gone (inserted x.same r) up') ∙ without-inserted 128 gone (inserted (o.extent ∷ x.same) r)
    (subst (Rising 128) (put-last o.extent gone (inserted x.same r) up') up')

abbrev of_extents : Directory → Object → List Extent → LiveSet
of_extents d o xs = record (live (without_object d o)) { extents = xs }

-- the live set of the directory with the other object is the one with the blocks exchanged
pub live-exchanged : (d : Directory) (o o' : Object) (gone come : List Extent) → InPlace d o o' → Exchange o o' gone
    come → IsTrue (is_proper (exchanged (live d) gone come)) → live (with_changed d o') ≡ exchanged (live d) gone come
unfolding live
live-exchanged d o o' gone come p x h =
    let r = rest d o' in
    let e : exchanged (live d) gone come ≡ of_extents d o' (inserted come (insert o.extent (inserted x.same r))) =
    ap (of_extents d o') (ap (inserted come) (live-kept p x)) in
    let up = live-rises (of_extents d o' (inserted come (insert o.extent (inserted x.same r))))
    (subst (λ l. IsTrue (is_proper l)) e h) in
    let front = put-first o.extent come (inserted x.same r) up in
    let inner : Rising 128 (inserted (come ++ x.same) r) = subst (Rising 128) (sym (inserted-append come x.same r))
    (rising-insert 128 o.extent (inserted come (inserted x.same r)) (subst (Rising 128) front up)).rest in
    let own = front ∙ ap (insert o.extent) (sym (inserted-append come x.same r) ∙ x.is.same r inner)
    ∙ (λ i. insert (sym p.extent i) (inserted (value_extents o'.value) r)) in
    let v = e ∙ ap (of_extents d o') own in
    live-changed d o o' p.found (subst (λ l. IsTrue (is_proper l)) v h) ∙ sym v

-- ---- the blocks that stay

but-beside : {m m' : Memory} {from n : ℕ} {x y : Extent} → handle x ≤ from → from + n ≤ end_of x → LiesBeside x y
    → SameBlockExcept m m' from n y → SameBlock m m' y
but-beside f g (above h) s = record {
  payload = record { at = λ k a b. s.payload k a b (inl (omega arith)) };
  colour = s.colour;
}
but-beside f g (below h) s = record {
  payload = record { at = λ k a b. s.payload k a b (inr (omega arith)) };
  colour = s.colour;
}

-- blocks apart from a written one stay, except its range
pub all-but-beside : (m m' : Memory) (from n : ℕ) (x : Extent) (ys : List Extent) → handle x ≤ from
    → from + n ≤ end_of x → AllByRecursion (LiesBeside x) ys → AllByRecursion (SameBlockExcept m m' from n) ys
    → AllByRecursion (SameBlock m m') ys
all-but-beside m m' from n x [] f g h s = tt
all-but-beside m m' from n x (y ∷ ys) f g h s = (but-beside f g h.0 s.0, all-but-beside m m' from n x ys f g h.1 s.1)

-- a property of all blocks that stay holds for the object's own block, for the equal blocks of its value, and for the
-- blocks of the others
pub record Kept (P : Extent → Type 0) (d : Directory) (o o' : Object) (same : List Extent) : Type 0 where
  pub own : P o.extent
  pub value : AllByRecursion P same
  pub rest : AllByRecursion P (rest d o')

pub kept-each : (P : Extent → Type 0) {d : Directory} {o o' : Object} {gone come : List Extent} → InPlace d o o'
    → (x : Exchange o o' gone come) → AllByRecursion P (without_all gone (live d).extents) → Kept P d o o' x.same
kept-each P {d} {o} {o'} p x blocks =
    let both = all_of-inserted P (o.extent ∷ x.same) (rest d o') (subst (AllByRecursion P) (live-kept p x) blocks) in
    record { own = both.0.0; value = both.0.1; rest = both.1 }

-- the blocks of the other objects are apart from the object's own
pub others-beside : (d : Directory) (o o' : Object) → InPlace d o o' → AllByRecursion (LiesBeside o.extent) (rest d o')
others-beside d o o' p =
    let e = live-split d o (subst (λ (e : Extent). IsFound (handle e) d.objects o) p.extent p.found) p.proper
    ∙ (λ i. adding (live (record d { objects = remove_object (handle (sym p.extent i)) d.objects })) (extents_of o)) in
    let alone = spaced-insert 128 o.extent (inserted (value_extents o.value) (rest d o'))
    (live-spaced (with_extents d o' (extents_of o)) (subst (λ l. IsTrue (is_proper l)) e p.proper)) in
    (all_of-inserted (LiesBeside o.extent) (value_extents o.value) (rest d o') alone.beside).1

-- ---- the directory

-- What the bytes denote once an object's value has other blocks, whatever its class: a vector or text regrown, cut or
-- released, texts put or gone, pairs put or removed. In its own block n bytes changed. A block of the value that is
-- written in is gone, and comes.
pub denotes-exchanged : {format : ℕ} {old new : WindowState} {d : Directory} {o o' : Object} {from n : ℕ}
    {gone come : List
    Extent} → Denotes format old.bytes d → IsFound (handle o'.extent) d.objects o → IsLike o o' → Exchange o o' gone
    come → IsTrue (is_object format o') → handle o.extent ≤ from → from + n ≤ end_of o.extent
    → ExchangesBlocks format old
    new from n gone come → IsObjectAt (bytes_of new.bytes) o' → Denotes format new.bytes (with_changed d o')
denotes-exchanged {format} {old} {new} {d} {o} {o'} {from} {n} {gone} {come} k found like x good f g c at =
    let m = bytes_of old.bytes in let m' = bytes_of new.bytes in
    let p : InPlace d o o' = record { found = found; extent = like.extent; proper = k.directory.proper } in
    let l = denotes-live format old.bytes d k in
    let laid : EncodesLiveSet format new.bytes (exchanged (live d) gone come) =
    subst (λ (l : LiveSet). EncodesLiveSet format new.bytes (exchanged l gone come)) l c.live in
    let blocks = kept-each (SameBlockExcept m m' from n) p x
    (subst (λ (l : LiveSet). AllByRecursion (SameBlockExcept m m' from n) (without_all gone l.extents)) l c.blocks) in
    let keeps : KeepsBlocks old new (rest d o') = record {
      place = c.place;
      front = c.front;
      behind = c.behind;
      blocks = all-but-beside m m' from n o.extent (rest d o') f g (others-beside d o o' p) blocks.rest;
    } in
    denotes-replaced format old new d o o' k found like good
    (subst (EncodesLiveSet format new.bytes) (sym (live-exchanged d o o' gone come p x laid.proper)) laid) keeps at

-- ---- an object with another value

-- Its head and name stay, blocks are exchanged, and in its own block n bytes after the name changed.
denotes-held : {format : ℕ} (old new : WindowState) {d : Directory} (o : Object) (v : Value) (from n : ℕ)
    (gone come : List Extent) → Denotes format old.bytes d → IsIn d o → Exchange o (with_value o v) gone come
    → kind_of v ≡ kind_of o.value → count_of v ≡ count_of o.value → IsTrue (is_object format (with_value o v))
    → value_start o ≤ from → from + n ≤ end_of o.extent → ExchangesBlocks format old new from n gone come
    → IsValueAt (bytes_of new.bytes) (value_start o) v → Denotes format new.bytes (changed d o v)
denotes-held {format} old new {d} o v from n gone come k found x kind count good low high c at =
    let o' = with_value o v in let m = bytes_of old.bytes in
    let m' = bytes_of new.bytes in
    let like : IsLike o o' = record { extent = refl; name = refl; class = refl; kind = kind } in
    let p : InPlace d o o' = record { found = found; extent = refl; proper = k.directory.proper } in
    let l = denotes-live format old.bytes d k in
    let blocks = kept-each (SameBlockExcept m m' from n) p x
    (subst (λ (l : LiveSet). AllByRecursion (SameBlockExcept m m' from n) (without_all gone l.extents)) l c.blocks) in
    let s : SameBytes m m' (handle o.extent) (value_start o) =
    record { at = λ i a b. blocks.own.payload i a (omega arith) (inl (omega arith)) } in
    denotes-exchanged k found like x good (omega arith) high c
    (object-held m m' o v (object-at format old.bytes d (handle o.extent) o k found) kind count s at)

-- So the calls of seg_vector and seg_map change a container of an object: its 24 bytes are written.
pub denotes-container : (format : ℕ) (old new : WindowState) (d : Directory) (o : Object) (v : Value)
    (gone come : List Extent) → Denotes format old.bytes d → IsIn d o → Exchange o (with_value o v) gone come
    → kind_of v ≡ kind_of o.value → count_of v ≡ count_of o.value → value_len o.value ≡ 24 → IsTrue (is_object format o)
    → IsTrue (is_object format (with_value o v)) → ExchangesBlocks format old new (value_start o) 24 gone come
    → IsValueAt (bytes_of new.bytes) (value_start o) v → Denotes format new.bytes (changed d o v)
denotes-container format old new d o v gone come k found x kind count len was good c at =
    let fits : 16 + padded (length o.name) + value_len o.value + 16 ≤ o.extent.len = (object-roomy format o was).room in
    denotes-held old new o v (value_start o) 24 gone come k found x kind count good (omega arith)
    (omega (arith, len)) c at

-- And so a value is written that has the same blocks.
pub denotes-rewritten : {old new : WindowState} {d : Directory} (o : Object) (v : Value) {from n : ℕ}
    → Denotes current old.bytes d → IsIn d o → kind_of v ≡ kind_of o.value → count_of v ≡ count_of o.value
    → value_extents v ≡ value_extents o.value → IsTrue (is_object current (with_value o v))
    → value_start o ≤ from → from + n ≤ end_of o.extent → ChangesBytes current old new from n
    → IsValueAt (bytes_of new.bytes) (value_start o) v → Denotes current new.bytes (changed d o v)
denotes-rewritten {old} {new} {d} o v {from} {n} k found kind count extents good low high c at =
    let l = live_of old.bytes in let x : Extent = o.extent in
    let proper : IsTrue (is_proper l) = (denotes-heap current old.bytes d k).proper in
    let own : extent_at l (handle x) ≡ Some x = ap (λ (s : LiveSet). extent_at s (handle x))
    (denotes-live current old.bytes d k) ∙ (blocks-in_use d o k.directory.proper found).own in
    let keeps = changed-keeps_block current old new from n (handle x) (from + n - handle x) c
    (found-room l (handle x) (from + n - handle x) x own (omega arith)) (omega arith) (omega arith) in
    let same : SameSpread (value_extents o.value) (value_extents v) =
    subst (SameSpread (value_extents o.value)) (sym extents) (spread-refl (value_extents o.value)) in
    denotes-held old new o v from n [] [] k found
    (record { same = value_extents o.value; was = spread-refl (value_extents o.value); is = same }) kind count good
    low high (record {
      live = c.live;
      place = c.place;
      front = keeps.front;
      behind = keeps.behind;
      blocks = written-but old new l (handle x) from n x proper own c (omega arith) high;
    }) at

-- The blocks of a new object: they are allocated and written for any value, so the indexes stay; or they are freed if
-- one has no fit.

-- These blocks are in use, too, and can be written. Nothing else changed.
pub record IsTaken (old new : WindowState) (xs : List Extent) : Type 0 where
  pub live : EncodesLiveSet current new.bytes (adding (live_of old.bytes) xs)
  pub keeps : KeepsBlocks old new (live_of old.bytes).extents

-- All blocks of a new object are in use and written.
pub record IsMade (old new : WindowState) (o : Object) : Type 0 where
  pub good : IsTrue (is_object current o)
  pub taken : IsTaken old new (extents_of o)
  pub at : IsObjectAt (bytes_of new.bytes) o

-- ---- blocks that are found stay found

-- the extent has the handle
abbrev has_handle : ℕ → Extent → Bool
has_handle h x = handle x == h

-- the block that a request took is found
pub allocated-found : {old new : WindowState} {n : ℕ} {role : Role} {h : ℕ} → (a : AllocatesOk current old new n role h)
    → extent_at (live_of new.bytes) h ≡ Some a.extent
allocated-found {old} {new} {h} a = ap (λ (l : LiveSet). find (has_handle h) l.extents) (lay_out_one current new.bytes
    (added (live_of old.bytes) a.extent) a.live) ∙ ap (λ g. find (has_handle g) (insert a.extent
    (live_of old.bytes).extents)) a.at ∙ found-new a.extent (live_of old.bytes).extents (rising-insert 128 a.extent
    (live_of old.bytes).extents (live-rises (added (live_of old.bytes) a.extent) a.live.proper)).differs

-- ---- after blocks are allocated

-- blocks that were allocated are in the live set
pub taken-live : (old new : WindowState) (xs : List Extent) → IsTaken old new xs
    → live_of new.bytes ≡ adding (live_of old.bytes) xs
taken-live old new xs m = lay_out_one current new.bytes (adding (live_of old.bytes) xs) m.live

-- a block in use is still found after others were allocated
pub taken-found : (old new : WindowState) (xs : List Extent) (h : ℕ) {x : Extent} → IsTaken old new xs
    → extent_at (live_of old.bytes) h ≡ Some x → extent_at (live_of new.bytes) h ≡ Some x
taken-found old new xs h {x} m e =
    let zs : List Extent = (live_of old.bytes).extents in
    ap (λ (l : LiveSet). find (has_handle h) l.extents) (taken-live old new xs m)
    ∙ found-inserted h x xs zs (found-none h x xs zs (live-rises (adding (live_of old.bytes) xs) m.live.proper) e) e

-- an index stays
pub taken-index : {old : WindowState} {new : WindowState} (xs : List Extent) {at : ℕ} {t : BackingArray} {hs : List ℕ}
    → IsTaken old new xs → 32 ≤ at → at + 24 ≤ 128 → IsIndexOf old at t hs → IsIndexOf new at t hs
taken-index {old} {new} xs {at} {t} {hs} m low high i = stays old new at t hs i
    (Around-kept old new at t (live_of old.bytes).extents (laid-heap new.bytes (adding (live_of old.bytes) xs) m.live)
    (SameBytes-part (bytes_of old.bytes) (bytes_of new.bytes) 32 128 at (at + 24) m.keeps.behind low high)
    m.keeps.blocks (λ x e.
    let f : extent_at (live_of old.bytes) (handle x) ≡ Some x =
    subst (λ (s : Option Extent). IfSome s (λ y. extent_at (live_of old.bytes) (handle y) ≡ Some y)) e i.held in
    (f, taken-found old new xs (handle x) m f)))

-- and the block that the index grows into is still found
pub taken-growth : (old new : WindowState) (xs : List Extent) (at : ℕ) (g : Option ℕ) → IsTaken old new xs → 32 ≤ at
    → at + 24 ≤ 128 → CanGrow old at g → CanGrow new at g
taken-growth old new xs at None m low high c = omega (
  arith,
  (SameBytes-word (bytes_of old.bytes) (bytes_of new.bytes) 32 128 (at + 8) m.keeps.behind (omega arith) (omega arith)),
  (SameBytes-word (bytes_of old.bytes) (bytes_of new.bytes) 32 128 (at + 16) m.keeps.behind (omega arith)
      (omega arith)),
  c,
)
taken-growth old new xs at (Some h) m low high c =
    let cap =
    SameBytes-word (bytes_of old.bytes) (bytes_of new.bytes) 32 128 (at + 16) m.keeps.behind (omega arith)
    (omega arith) in
    let link = SameBytes-link (bytes_of old.bytes) (bytes_of new.bytes) 32 128 at m.keeps.behind low (omega arith) in (
      subst (λ n. IsBlockFor new h (grown_capacity n)) (sym cap)
          (record { extent = c.0.extent; found = taken-found old new xs h m c.0.found; fits = c.0.fits }),
      λ e. c.1 (sym link ∙ e),
    )

-- one block is allocated by a request
pub requested-taken : {old new : WindowState} {n : ℕ} {role : Role} {h : ℕ} → (a : AllocatesOk current old new n role h)
    → IsTaken old new (a.extent ∷ [])
requested-taken a = record { live = a.live; keeps = a.keeps }

-- ---- a request

-- the block that an index grows into is in use
pub growth-held : (a b : WindowState) (at : ℕ) (g : Option ℕ) → PreparesOk a b at g
    → IfSome g (λ h. IsTrue (is_live_in (live_of b.bytes) h))
growth-held a b at None h = tt
growth-held a b at (Some g) h = allocated-is_live current a b _ IndexRole g h.1

unchanged : {a b : WindowState} → IsHeap current a.bytes → b ≡ a → RestoresBlocks a b
unchanged {a} heap e =
    subst (RestoresBlocks a) (sym e) (record { laid = heap; keeps = keeps-refl a (live_of a.bytes).extents })

-- a block that was allocated before a failure is freed
pub request-unmet : (a b c d : WindowState) (at n : ℕ) (g : Option ℕ) → IsHeap current a.bytes → PreparesOk a b at g
    → AllocatesNoSpace b c n ObjectRole → FreesGrowth c d g
    → IfSome g (λ h. (before : WindowState) (n : ℕ) → AllocatesOk current before c n IndexRole h
    → EncodesLiveSet current d.bytes (live_of before.bytes) × KeepsBlocks before d (live_of before.bytes).extents)
    → RequestsBlocksErr a d at n
request-unmet a b c d at n None heap grows refused back restored = record {
  restored = unchanged heap (back ∙ refused.same ∙ grows.1);
  none = inr (None, b, grows, refused.none);
}
request-unmet a b c d at n (Some h) heap grows refused back restored =
    let both = restored a (grown_bytes a at)
    (subst (λ (x : WindowState). AllocatesOk current a x (grown_bytes a at) IndexRole h) (sym refused.same) grows.1) in
    record { restored = record { laid = both.0; keeps = both.1 }; none = inr (Some h, b, grows, refused.none) }

-- ---- an index while an object is made

-- the index stays while it can grow
pub growth-index : (i : Index) {a : WindowState} {b : WindowState} (g : Option ℕ) {t : BackingArray} {hs : List ℕ}
    → PreparesOk a b (index_at i) g → IsIndexOf a (index_at i) t hs → IsIndexOf b (index_at i) t hs
growth-index i None {t} {hs} g x = subst (λ (c : WindowState). IsIndexOf c (index_at i) t hs) (sym g.1) x
growth-index i (Some h) g x = taken-index _ (requested-taken g.1) (place_behind i) (place_small i) x

-- the block is allocated and written
pub written-taken : {a m b : WindowState} {n h : ℕ}
    → AllocatesOk current a m n ObjectRole h → ChangesBytes current m b h n → AllocatesOk current a b n ObjectRole h
written-taken {a} {m} {b} {n} {h} take change = still_allocated-block current a m b n ObjectRole h h n n take change
    (allocated-room current a m n ObjectRole h n take (omega arith)) (omega arith) (omega arith)

-- the same number of bytes
pub meant : {a b : WindowState} {at m n : ℕ} {g : Option ℕ} {h : ℕ} → m ≡ n → RequestsBlocksOk a b at m g h
    → RequestsBlocksOk a b at n g h
meant {a} {b} {at} {g} {h} e r = subst (λ (k : ℕ). RequestsBlocksOk a b at k g h) e r

-- the objects stay if the index's block is allocated, and if the object's own blocks are
pub growth-stays : {a b : WindowState} (at : ℕ) (g : Option ℕ) → PreparesOk a b at g → (h : ℕ) → ObjectStays a b h
growth-stays {a} at None g h = subst (λ (c : WindowState). ObjectStays a c h) (sym g.1) (stays-itself {a = a} h)
growth-stays at (Some k) g h = taken-stays g.1 h

-- objects stay while blocks are allocated
pub made-stays : {a b : WindowState} (xs : List Extent) → IsTaken a b xs → (h : ℕ) → ObjectStays a b h
made-stays {a} {b} xs m h = record {
  each = λ x e role. (
    taken-found a b xs h m e,
    all_found (SameBlock (bytes_of a.bytes) (bytes_of b.bytes)) h (live_of a.bytes).extents x m.keeps.blocks e,
  );
}

-- an object that was made is found, and holds its sort key
pub made-key : (i : Index) {a b : WindowState} {o : Object} → IsMade a b o → HasSortKey b i (handle o.extent)
made-key i {a} {b} {o} m =
    let zs = inserted (value_extents o.value) (live_of a.bytes).extents in let x = o.extent in
    let up = live-rises (adding (live_of a.bytes) (extents_of o)) m.taken.live.proper in
    record {
      extent = x;
      found = ap (λ (l : LiveSet). find (has_handle (handle x)) l.extents) (taken-live a b (extents_of o) m.taken)
          ∙ found-new x zs (rising-insert 128 x zs up).differs;
      fits = key-fits i o m.good m.at;
    }

-- ---- blocks as they were

-- a block that was allocated is still in use
pub restored-taken : {a m w : WindowState} {n : ℕ} {role : Role} {h : ℕ}
    → AllocatesOk current a m n role h → RestoresBlocks m w → AllocatesOk current a w n role h
restored-taken {a} {m} {w} {n} {role} {h} t r =
    let is = allocated-live current a m n role h t in
    let kept : KeepsBlocks m w (added (live_of a.bytes) t.extent).extents =
    subst (λ (l : LiveSet). KeepsBlocks m w l.extents) is r.keeps in
    let each =
    all_of-insert (SameBlock (bytes_of m.bytes) (bytes_of w.bytes)) t.extent (live_of a.bytes).extents kept.blocks in
    let colour = each.0.colour in let at = t.at in
    let tag : h - 8 ≡ t.extent.offset + 8 = omega arith in
    let same : word_at (bytes_of w.bytes) (h - 8) / 2 % 2 ≡ word_at (bytes_of m.bytes) (h - 8) / 2 % 2 =
    subst (λ k. word_at (bytes_of w.bytes) k / 2 % 2 ≡ word_at (bytes_of m.bytes) k / 2 % 2) (sym tag) (omega arith) in
    record {
      extent = t.extent;
      placed = t.placed;
      at = t.at;
      live = subst (EncodesLiveSet current w.bytes) is r.laid;
      black = ap (λ k. k == 1) same ∙ t.black;
      keeps = keeps-trans a m w (live_of a.bytes).extents t.keeps
          (record { place = kept.place; front = kept.front; behind = kept.behind; blocks = each.1 });
    }

-- A value made in the block of a new object, by the heap's contracts: its blocks are allocated and written.

-- ---- storage that is allocated

-- the live set with the storage
abbrev pub stored : LiveSet → BackingArray → LiveSet
stored l t = elim t.extent [ None ↦ l | Some x ↦ resized l x ]

abbrev with_extent : ℕ → Extent → BackingArray
with_extent n x = record { capacity = n; extent = Some x }

met-storage : (d : Directory) (l : LiveSet) (n : ℕ) {t : BackingArray} (next : BackingArray → Plan) (r : Option Extent)
    → option_map (with_extent n) r ≡ Some t → elim r as (λ _. Answer
    × Directory) [ None ↦ (Refused NoSpace, d) | Some x ↦ perform d (resized l x) (next (with_extent n x)) ] ≡ perform d
    (stored l t) (next t)
met-storage d l n next None e = absurd (cc)
met-storage d l n {t} next (Some x) e =
    let same : with_extent n x ≡ t = cc in λ i. perform d (stored l (same i)) (next (same i))

-- a container without a place needs some for an element
more-places : (l : LiveSet) (each n : ℕ)
    → grown_backing l each (suc n) no_backing ≡ option_map (with_extent (suc n)) (place l (each * suc n) Storage)
unfolding grown_backing regrow
more-places l each n = ap (λ b. if b then Some no_backing else option_map (with_extent (suc n)) (place l (each * suc n)
    Storage)) (lt-leb (suc n) 0 (omega arith))

more-asked : (each n : ℕ) (next : BackingArray → Plan)
    → with_storage each (suc n) next ≡ Request (New Storage (each * suc n)) (λ x. next (with_extent (suc n) x))
more-asked each n next = ap (λ b. if b then next no_backing else Request (New Storage (each * suc n))
    (λ x. next (with_extent (suc n) x))) (ne_eqb (suc n) 0 (λ e. omega (arith, e)))

-- the storage is allocated
pub storage-met : (d : Directory) (l : LiveSet) (each len : ℕ) (t : BackingArray) (next : BackingArray → Plan)
    → grown_backing l each
    len no_backing ≡ Some t → perform d l (with_storage each len next) ≡ perform d (stored l t) (next t)
unfolding grown_backing
storage-met d l each zero t next e = let same : no_backing ≡ t = cc
    in λ i. perform d (stored l (same i)) (next (same i))
storage-met d l each (suc n) t next e = ap (perform d l) (more-asked each n next)
    ∙ met-storage d l (suc n) next (place l (each * suc n) Storage) (sym (more-places l each n) ∙ e)

none-storage : (d : Directory) (l : LiveSet) (n : ℕ) (next : BackingArray → Plan) (r : Option Extent)
    → option_map (with_extent n) r ≡ None → elim r as (λ _. Answer
    × Directory) [ None ↦ (Refused NoSpace, d) | Some x ↦ perform d (resized l x) (next (with_extent n x)) ] ≡ (
      Refused NoSpace,
      d,
    )
none-storage d l n next None e = refl
none-storage d l n next (Some x) e = absurd (cc)

-- or it is not
pub storage-none : (d : Directory) (l : LiveSet) (each len : ℕ) (next : BackingArray → Plan)
    → grown_backing l each len no_backing ≡ None → perform d l (with_storage each len next) ≡ (Refused NoSpace, d)
unfolding grown_backing
storage-none d l each zero next e = absurd (cc)
storage-none d l each (suc n) next e = ap (perform d l) (more-asked each n next)
    ∙ none-storage d l (suc n) next (place l (each * suc n) Storage) (sym (more-places l each n) ∙ e)

-- ---- blocks

abbrev with_live : LiveSet → List Extent → LiveSet
with_live l xs = record l { extents = xs }

-- the bytes that stay of a new block, and of the blocks that were there
pub record StaysBut (a b c : WindowState) (x : Extent) (from n : ℕ) : Type 0 where
  pub own : SameBlockExcept (bytes_of b.bytes) (bytes_of c.bytes) from n x
  pub others : AllByRecursion (SameBlockExcept (bytes_of b.bytes) (bytes_of c.bytes) from n) (live_of a.bytes).extents

pub stays-but : {a : WindowState} {b c : WindowState} {x : Extent} {from n : ℕ} {come : List Extent}
    → IsTaken a b (x ∷ []) → ExchangesBlocks current b c from n [] come → StaysBut a b c x from n
stays-but {a} {b} {c} {x} {from} {n} m r =
    let both = all_of-insert (SameBlockExcept (bytes_of b.bytes) (bytes_of c.bytes) from n) x (live_of a.bytes).extents
    (subst (λ (s : LiveSet). AllByRecursion (SameBlockExcept (bytes_of b.bytes) (bytes_of c.bytes) from n) s.extents)
    (taken-live a b (x ∷ []) m) r.blocks) in
    record { own = both.0; others = both.1 }

-- a block was allocated; then n of its bytes are written, and more blocks are allocated
pub taken-more : (a : WindowState) {b c : WindowState} (x : Extent) {from n : ℕ} {come : List Extent}
    → IsTaken a b (x ∷ [])
    → handle x ≤ from → from + n ≤ end_of x → ExchangesBlocks current b c from n [] come → IsTaken a c (x ∷ come)
taken-more a {b} {c} x {from} {n} {come} m low high r =
    let A = bytes_of a.bytes in let B = bytes_of b.bytes in
    let C = bytes_of c.bytes in let l = live_of a.bytes in
    let laid : EncodesLiveSet current c.bytes (with_live l (inserted come (insert x l.extents))) =
    subst (EncodesLiveSet current c.bytes) (ap (λ (s : LiveSet). exchanged s [] come) (taken-live a b (x ∷ []) m))
    r.live in
    let up = live-rises (with_live l (inserted come (insert x l.extents))) laid.proper in
    let alone = spaced-insert 128 x l.extents (live-spaced (added l x) m.live.proper) in
    record {
      live = subst (λ xs. EncodesLiveSet current c.bytes (with_live l xs)) (put-first x come l.extents up) laid;
      keeps = record {
        place = SameSurroundings-trans a b c m.keeps.place r.place;
        front = SameBytes-trans A B C 0 24 m.keeps.front r.front;
        behind = SameBytes-trans A B C 32 128 m.keeps.behind r.behind;
        blocks = blocks-trans A B C l.extents m.keeps.blocks
            (all-but-beside B C from n x l.extents low high alone.beside (stays-but m r).others);
      };
    }

-- a block that was placed is the next of a live set
pub placed-next : {a b : WindowState} {n h : ℕ} → (t : AllocatesOk current a b n ObjectRole h)
    → resized (live_of a.bytes) t.extent ≡ live_of b.bytes
placed-next {a} {b} {n} {h} t =
    let f = rising-insert 128 t.extent (live_of a.bytes).extents
    (live-rises (added (live_of a.bytes) t.extent) t.live.proper) in
    resized-fresh (live_of a.bytes) t.extent f.differs ∙ sym (allocated-live current a b n ObjectRole h t)

-- ---- the object

changed-wider : {a b : WindowState} {from m : ℕ} {n : ℕ} → m ≤ n → ChangesBytes current a b from m
    → ChangesBytes current a b from n
changed-wider {a} {b} {from} {m} {n} l c = record {
  place = c.place;
  live = c.live;
  rest = SameBytesExcept-wider (bytes_of a.bytes) (bytes_of b.bytes) from m from n c.rest (omega arith) (omega arith);
}

-- the bytes written after the head are in the payload
pub headed-change : {a b c : WindowState} {kind : Kind} {class : Class} {name : List ℕ} {count : ℕ} (body : ℕ)
    {h at n : ℕ} → WritesObjectHeader a b kind class name count h at
    → ChangesBytes current b c (h + at) n → n ≤ body → ChangesBytes current a c h (room_for name body)
headed-change {b} {c} {name} body {h} {at} {n} hd change l =
    changed-wider (omega arith) (changed-trans hd.change
    (subst (λ p. ChangesBytes current b c (h + p) n) hd.start change))

-- the block was allocated, its head written, and then the n bytes after it
pub empty-taken : {a t m e : WindowState} {kind : Kind} {class : Class} {name : List ℕ} {count n h at : ℕ}
    → AllocatesOk current a t (room_for name n) ObjectRole h → WritesObjectHeader t m kind class name count h at
    → ChangesBytes current m e (h + at) n → AllocatesOk current a e (room_for name n) ObjectRole h
empty-taken {n} take headed change = written-taken take (headed-change n headed change (omega arith))

-- the bytes are in the block
pub record IsInside (x : Extent) (from n : ℕ) : Type 0 where
  pub low : handle x ≤ from
  pub high : from + n ≤ end_of x

module _ {a e : WindowState} (name : List ℕ) {n h at : ℕ} (t : AllocatesOk current a e (room_for name n) ObjectRole h)
    (start : at ≡ 16 + padded (length name)) where
  pub inside : IsInside t.extent (h + at) n
  inside =
      let long = room_for name n in let x : Extent = t.extent in
      let is : h ≡ handle x = t.at in
      let fits = no_more (long + 16) x.len (second (same_role x.role ObjectRole) (holds x long) (allocated-serves t)) in
      record { low = omega arith; high = omega arith }

  -- a made value took these blocks
  pub made-taken : {w : WindowState} {come : List Extent} → ExchangesBlocks current e w (h + at) n [] come
      → IsTaken a w (t.extent ∷ come)
  made-taken r =
      let i = inside in
      taken-more a t.extent (requested-taken t) i.low i.high r

-- a head with its name, and a value after it
headed-object : {m m' : Memory} {h at : ℕ} {class : Class} {name : List ℕ} (v : Value) (x : Extent) → h ≡ handle x
    → at ≡ 16 + padded (length name) → IsHeadAt m h (kind_of v) (count_of v) class name → SameBytes m m' h (h + at)
    → IsValueAt m' (h + at) v → IsObjectAt m' (record { class = class; name = name; value = v; extent = x })
headed-object {m} {m'} {h} {at} {class} {name} v x is start head s w = record {
  kind_count = subst (λ g. word_at m' g ≡ two_halves (code_of (kind_of v)) (count_of v)) is
      (SameBytes-word m m' h (h + at) h s (omega arith) (omega arith) ∙ head.kind_count);
  name_class = subst (λ g. word_at m' (g + 8) ≡ two_halves (length name) (class_code class)) is
      (SameBytes-word m m' h (h + at) (h + 8) s (omega arith) (omega arith) ∙ head.name_class);
  name = subst (λ g. HasBytesAt m' (g + 16) (padded_name name)) is
      (HasBytesAt-same m m' h (h + at) (h + 16) (padded_name name) s
      (omega arith) (omega (arith, (padded_name-length name))) head.name);
  value = subst (λ p. IsValueAt m' p v) (omega arith) w;
}

-- the object is in its block, with its value
pub made-object : {a t m e w : WindowState} {class : Class} {name : List ℕ} {n h at : ℕ} (v : Value)
    {come : List Extent} → (took : AllocatesOk current a e (room_for name n) ObjectRole h)
    → WritesObjectHeader t m (kind_of v) class name (count_of v) h at → ChangesBytes current m e (h + at) n
    → ExchangesBlocks current e w (h + at) n [] come → IsValueAt (bytes_of w.bytes)
    (h + at) v → IsObjectAt (bytes_of w.bytes) (record { class = class; name = name; value = v; extent = took.extent })
made-object {a} {m} {e} {w} {name} {n} {h} {at} v took headed change storage says =
    let M = bytes_of m.bytes in let E = bytes_of e.bytes in
    let W = bytes_of w.bytes in let high = (inside name took headed.start).high in
    let but = stays-but (requested-taken took) storage in
    let front = SameBytesExcept-SameBytes M E (h + at) n h (h + at) change.rest (inl (omega arith)) in
    let back : SameBytes E W h (h + at) =
    record { at = λ k f g. but.own.payload k (omega arith) (omega arith) (inl g) } in
    headed-object v took.extent took.at headed.start headed.head (SameBytes-trans M E W h (h + at) front back) says

-- The payload of a block, as it is lent and as contracts count its room, and an object written there piece by piece:
-- the words of its head, its name, its elements.

-- ---- the bytes that a block lends

-- the first n bytes of the payload p are the heap's, and all offsets are small
pub record Lent (c : WindowState) (h n : ℕ) (p : List ℕ) : Type 0 where
  pub long : n ≤ length p
  pub content : (at len : ℕ) → at + len ≤ n → part p at len ≡ read (bytes_of c.bytes) (h + at) len

-- a payload that is lent
pub lent : (c : WindowState) (h n : ℕ) {p : List ℕ} → IsHeap current c.bytes → IsTrue (has_room (live_of c.bytes) h n)
    → p ≡ payload_at c.bytes (live_of c.bytes) h → Lent c h n p
lent c h n {p} heap has e =
    let r = room_block c h n heap has in let b = r.block in
    let enough = r.enough in let o = b.at in let ends = b.inside in let size = b.size in
    let is = e ∙ block_payload c h b in
    let long : length p ≡ b.tile.len - 16 =
    ap (λ (l : List ℕ). length l) is ∙ length-part c.bytes h (b.tile.len - 16) (omega arith) in
    record {
      long = omega arith;
      content = λ at len l. ap (λ (q : List ℕ). part q at len) is ∙ part-part c.bytes h (b.tile.len - 16) at len
          (omega arith) ∙ sym (read-part c.bytes (h + at) len (omega arith));
    }

-- a heap has no more than 2 ^ 30 bytes
pub room-small : (c : WindowState) (h n : ℕ) → IsHeap current c.bytes → IsTrue (has_room (live_of c.bytes) h n)
    → h + n ≤ 1073741824
room-small c h n heap has =
    let r = room_block c h n heap has in let b = r.block in
    let enough = r.enough in let o = b.at in let ends = b.inside in let size = b.size in omega arith

-- ---- no change

-- a heap stays one
pub changed-heap : {a b : WindowState} {from n : ℕ} → ChangesBytes current a b from n → IsHeap current b.bytes
changed-heap {a} {b} {from} {n} c =
    subst (EncodesLiveSet current b.bytes) (sym (changed-live current a b from n c)) c.live

-- ---- the bytes before a change stay

-- a word stays where bytes after it change
pub word-stays : {a b : WindowState} (at : ℕ) {from n : ℕ} → ChangesBytes current a b from n → at + 8 ≤ from
    → word_at (bytes_of b.bytes) at ≡ word_at (bytes_of a.bytes) at
word-stays {a} {b} at c f = SameBytes-word (bytes_of a.bytes) (bytes_of b.bytes) at (at + 8) at
    (record { at = λ k l h. c.rest.at k (inl (omega arith)) }) (omega arith) (omega arith)

-- bytes stay if only bytes after them change
pub bytes-stay : {a b : WindowState} (at : ℕ) {from n : ℕ} (bytes : List ℕ) → ChangesBytes current a b from n
    → at + length bytes ≤ from → HasBytesAt (bytes_of a.bytes) at bytes → HasBytesAt (bytes_of b.bytes) at bytes
bytes-stay {a} {b} at {from} {n} bytes c f h =
    let s = SameBytesExcept-SameBytes (bytes_of a.bytes) (bytes_of b.bytes) from n at from c.rest (inl (omega arith)) in
    HasBytesAt-same (bytes_of a.bytes) (bytes_of b.bytes) at from at bytes s (omega arith) f h

-- ---- the same bytes several times

-- ---- a name

-- this many zeros
pub zeros-taken : {n : ℕ} (len : ℕ) → n ≡ padded len - len
    → take {A = ℕ} n (replicate 8 0) ≡ replicate (padded len - len) 0
zeros-taken len e =
    ap (λ (k : ℕ). take {A = ℕ} k (replicate 8 0)) e ∙ take-replicate (padded len - len) 8 0 (omega arith)

-- the name was written, and then zeros after it
pub record HasName (a c : WindowState) (h : ℕ) (name : List ℕ) : Type 0 where
  pub change : ChangesBytes current a c (h + 16) (padded (length name))
  pub content : HasBytesAt (bytes_of c.bytes) (h + 16) (padded_name name)

-- the name and the zeros after it are written
pub name-written : {a b c : WindowState} {h : ℕ} {name : List ℕ} {zeros : List ℕ}
    → zeros ≡ replicate (padded (length name) - length name) 0 → ChangesBytes current a b (h + 16) (length name)
    → HasBytesAt (bytes_of b.bytes) (h + 16) name → ChangesBytes current b c (h + (16 + length name)) (length zeros)
    → HasBytesAt (bytes_of c.bytes) (h + (16 + length name)) zeros → HasName a c h name
name-written {a} {b} {c} {h} {name} {zeros} e s w t v =
    let len = length name in
    let long : length zeros ≡ padded len - len =
    ap (λ (l : List ℕ). length l) e ∙ length-replicate (padded len - len) 0 in
    let to : h + (16 + len) ≡ h + 16 + len = omega arith in let sum : len + length zeros ≡ padded len = omega arith in
    let t' : ChangesBytes current b c (h + 16 + len) (length zeros) =
    subst (λ from. ChangesBytes current b c from (length zeros)) to t in
    record {
      change = subst (λ k. ChangesBytes current a c (h + 16) k) sum (changed-trans s t');
      content = subst (λ (zs : List ℕ). HasBytesAt (bytes_of c.bytes) (h + 16) (name ++ zs)) e
          (HasBytesAt-append (bytes_of c.bytes) (h + 16) name zeros (bytes-stay (h + 16) name t' (omega arith) w)
          (subst (λ p. HasBytesAt (bytes_of c.bytes) p zeros) to v));
    }

-- ---- a head

-- two words and a name, one after another
pub record HasHead (a d : WindowState) (h : ℕ) (kind : Kind) (count : ℕ) (class : Class) (name : List ℕ) : Type 0 where
  pub change : ChangesBytes current a d h (16 + padded (length name))
  pub head : IsHeadAt (bytes_of d.bytes) h kind count class name

-- the head of an object is written
pub head-written : {a b c : WindowState} {d : WindowState} {h : ℕ} {kind : Kind} {count : ℕ} {class : Class}
    {name : List ℕ} → ChangesBytes current a b (h + 0) 8 → word_at (bytes_of b.bytes) (h + 0)
    ≡ two_halves (code_of kind) count → ChangesBytes current b c (h + 8) 8 → word_at (bytes_of c.bytes) (h + 8)
    ≡ two_halves (length name) (class_code class) → HasName c d h name → HasHead a d h kind count class name
head-written {a} {b} {c} {h} {name} p v q w n =
    let at : h + 0 ≡ h = omega arith in let two : h + 8 + 8 ≡ h + 16 = omega arith in
    record {
      change = changed-trans (changed-trans (subst (λ from. ChangesBytes current a b from 8) at p) q) n.change;
      head = record {
        kind_count = word-stays h n.change (omega arith) ∙ word-stays h q (omega arith)
            ∙ ap (word_at (bytes_of b.bytes)) (sym at) ∙ v;
        name_class = word-stays (h + 8) n.change (omega arith) ∙ w;
        name = n.content;
      };
    }

-- The blocks of an object without an entry: the conditions for adding its entry, and freeing them.

-- ---- begun: the value has room after the head

headed-room : {a b : WindowState} {kind : Kind} {class : Class} {name : List ℕ} {count : ℕ} (body : ℕ) {h at : ℕ}
    → WritesObjectHeader a b kind class name count h at → IsTrue (has_room (live_of a.bytes) h (room_for name body))
    → IsTrue (has_room (live_of b.bytes) h (at + body))
headed-room {a} {b} {name} body {h} p room = subst (λ n. IsTrue (has_room (live_of b.bytes) h (n + body))) (sym p.start)
    (changed-room current a b h _ h (room_for name body) p.change room)

-- an object that was begun has room for its value
pub begun-room : (entry : Option PendingEntry) (a m : WindowState) (key : Key) (kind : Kind) (count body h at : ℕ)
    → BeginsObjectOk a m key kind count body h at entry → IsTrue (has_room (live_of m.bytes) h (at + body))
begun-room None a m key kind count body h at g = headed-room body g.headed
    (allocated-room current a g.taken (room_for [] body) ObjectRole h (room_for [] body) g.takes (omega arith))
begun-room (Some e) a m key kind count body h at g =
    headed-room body g.headed (allocated-room current g.requested.between g.taken (room_for g.name body) ObjectRole h
    (room_for g.name body) g.requested.takes (omega arith))

-- the segment with a begun object is a heap
pub begun-heap : (entry : Option PendingEntry) (a m : WindowState) (key : Key) (kind : Kind) (count body h at : ℕ)
    → BeginsObjectOk a m key kind count body h at entry → IsHeap current m.bytes
begun-heap None a m key kind count body h at g = changed-heap g.headed.change
begun-heap (Some e) a m key kind count body h at g = changed-heap g.headed.change

-- ---- all blocks are freed

-- allocating a block and freeing it restores the blocks in use
back-again : {a b c : WindowState} {n : ℕ} {role : Role} {h : ℕ}
    → AllocatesOk current a b n role h → Deallocates current b c h → RestoresBlocks a c
back-again {a} {b} {c} {n} {role} {h} took gone =
    let r = taken-back a b c n h role took gone in record { laid = r.laid; keeps = r.keeps }

-- the block that the index would grow into is freed, after the blocks allocated after it
growth-back : {a : WindowState} {b c : WindowState} {e : WindowState} (at : ℕ) (g : Option ℕ)
    → PreparesOk a b at g → RestoresBlocks b c → FreesGrowth c e g → RestoresBlocks a e
growth-back {a} {c} at None grows r back =
    subst (RestoresBlocks a) (sym back) (subst (λ (s : WindowState). RestoresBlocks s c) grows.1 r)
growth-back at (Some h) grows r back = back-again (restored-taken grows.1 r) back

-- the object's block is in use, with a pending entry or anonymous
alone-taken : {old now : WindowState} {h : ℕ} → (l : WritesUnindexedAlone old now h)
    → AllocatesOk current old now l.len ObjectRole h
alone-taken l = written-taken l.takes l.change

entry-taken : {old now : WindowState} {h : ℕ} {e : PendingEntry} → (l : WritesUnindexedForEntry old now h e)
    → AllocatesOk current l.requested.between now l.len ObjectRole h
entry-taken l = written-taken l.requested.takes l.change

-- the block of an object without an entry is in use
pub loose-live : (entry : Option PendingEntry) (old now : WindowState) (h : ℕ) → WritesUnindexedObject old now h entry
    → IsTrue (is_live_in (live_of now.bytes) h)
loose-live None old now h l = allocated-is_live current old now l.len ObjectRole h (alone-taken l)
loose-live (Some e) old now h l = allocated-is_live current l.requested.between now l.len ObjectRole h (entry-taken l)

-- an object without an entry is deallocated: all is as before
pub alone-back : {old now new : WindowState} {h : ℕ} → WritesUnindexedAlone old now h → Deallocates current now new h
    → RestoresBlocks old new
alone-back l gone = back-again (alone-taken l) gone

module _ {old now new : WindowState} {h : ℕ} {e : PendingEntry} (l : WritesUnindexedForEntry old now h e)
    (gone : Deallocates current now new h) where
  -- after the object's block is freed, the index's new block is still in use
  object-back : RestoresBlocks l.requested.between new
  object-back = back-again (entry-taken l) gone

  -- the block of the index's growth is in use
  pub loose-held : IfSome e.growth.block (λ g. IsTrue (is_live_in (live_of new.bytes) g))
  loose-held =
      let mid : WindowState = l.requested.between in
      subst (λ (s : LiveSet). IfSome e.growth.block (λ g. IsTrue (is_live_in s g)))
      (sym (lay_out_one current new.bytes (live_of mid.bytes) (object-back).laid))
      (growth-held old mid (index_at e.index) e.growth.block l.requested.grows)

-- an object and the growth of its index are deallocated: all is as before
pub entry-back : {old now mid : WindowState} {new : WindowState} {h : ℕ} {e : PendingEntry}
    → WritesUnindexedForEntry old now h e
    → Deallocates current now mid h → FreesGrowth mid new e.growth.block → RestoresBlocks old new
entry-back {old} {e} l gone back =
    growth-back (index_at e.index) e.growth.block l.requested.grows (object-back l gone) back
