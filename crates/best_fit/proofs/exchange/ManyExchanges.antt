-- Several exchanges of blocks, one after another: their common result, and the blocks that stay.
use Rattle.best_fit.proofs.Common.{◌≡◌, ◌≢◌, refl, sym, ap, subst, ◌∙◌, inl, inr, ◌⊎◌, ℕ, ◌+◌, ◌<◌, ◌≤◌, Some, List, []}
use Rattle.best_fit.proofs.Common.{◌∷◌, ◌++◌, ◌==◌, arith, IsTrue, find, ⊤, AllByRecursion, Memory, WindowState}
use Rattle.best_fit.proofs.Common.{bytes_of, SameBytes-refl, SameBytes-trans, SameSurroundings-trans, Role}
use Rattle.best_fit.proofs.Common.{ExchangesBlocks, SameBlockExcept, exchanged, inserted, without_all, Extent, LiveSet}
use Rattle.best_fit.proofs.Common.{handle, end_of, is_proper, insert, others, released, AllocatesOk, ChangesBytes}
use Rattle.best_fit.proofs.Common.{IsHeap, Deallocates, ResizesBlock, KeepsBlocks, EncodesLiveSet, SameBlock, extent_at}
use Rattle.best_fit.proofs.Common.{has_room, live_of}
use Rattle.best_fit.proofs.allocation.NewBlock.{changed-keeps_block}
use Rattle.best_fit.proofs.exchange.OneExchange.{all-same-but}
use Rattle.best_fit.proofs.tags.OneLiveSet.{lay_out_one}
use Rattle.best_fit.proofs.extents.Spacing.{Apart, Differs, IsAlone, IsAmong, LiesBeside, IsFresh, Rising, above}
use Rattle.best_fit.proofs.extents.Spacing.{all_of-insert, all_of-inserted, among, apart-inserted, below, found-less}
use Rattle.best_fit.proofs.extents.Spacing.{found-more, found-new, in_use, in_use-alone, inserted-comm, live-rises}
use Rattle.best_fit.proofs.extents.Spacing.{rising-insert, rising-inserted, without-inserted}

-- ---- two lists of extents with the same result among others

-- the order of the lists does not matter if no two extents begin at one offset
pub record SameSpread (xs ys : List Extent) : Type 0 where
  pub same : (zs : List Extent) → Rising 128 (inserted xs zs) → inserted xs zs ≡ inserted ys zs

-- the extents of two lists are inserted, one list after the other
pub inserted-append : (xs ys zs : List Extent) → inserted (xs ++ ys) zs ≡ inserted xs (inserted ys zs)
inserted-append [] ys zs = refl
inserted-append (x ∷ xs) ys zs = ap (insert x) (inserted-append xs ys zs)

inserted-three : (xs ys ws zs : List Extent) → inserted (xs ++ (ys ++ ws)) zs ≡ inserted xs
    (inserted ys (inserted ws zs))
inserted-three xs ys ws zs = inserted-append xs (ys ++ ws) zs ∙ ap (inserted xs) (inserted-append ys ws zs)

-- the extents in the middle come first
pub middle-first : (xs ys ws : List Extent) → SameSpread (xs ++ (ys ++ ws)) (ys ++ (xs ++ ws))
middle-first xs ys ws = record {
  same = λ zs r.
      let a : Apart xs ys = apart-inserted 128 xs ys (inserted ws zs)
      (subst (Rising 128) (inserted-three xs ys ws zs) r) in
      inserted-three xs ys ws zs ∙ inserted-comm xs ys (inserted ws zs) a ∙ sym (inserted-three ys xs ws zs);
}

-- a list is spread as it is
pub spread-refl : (xs : List Extent) → SameSpread xs xs
spread-refl xs = record { same = λ zs r. refl }

-- the last extents come first
pub last-first : (xs ys : List Extent) → SameSpread (xs ++ ys) (ys ++ xs)
last-first xs ys = record {
  same = λ zs r.
      let a : Apart xs ys = apart-inserted 128 xs ys zs (subst (Rising 128) (inserted-append xs ys zs) r) in
      inserted-append xs ys zs ∙ inserted-comm xs ys zs a ∙ sym (inserted-append ys xs zs);
}

-- the same extents after others
pub spread-behind : (xs ys ws : List Extent) → SameSpread ys ws → SameSpread (xs ++ ys) (xs ++ ws)
spread-behind xs ys ws p = record {
  same = λ zs r.
      let two : Rising 128 (inserted xs (inserted ys zs)) = subst (Rising 128) (inserted-append xs ys zs) r in
      inserted-append xs ys zs ∙ ap (inserted xs) (p.same zs (rising-inserted 128 xs (inserted ys zs) two).0)
      ∙ sym (inserted-append xs ws zs);
}

-- ---- live sets

abbrev of_extents : LiveSet → List Extent → LiveSet
of_extents l xs = record l { extents = xs }

-- some of the allocated extents are freed again
pub left-over : (l : LiveSet) (gone come again left : List Extent) → SameSpread come (again ++ left)
    → IsTrue (is_proper (exchanged l gone come))
    → without_all again (exchanged l gone come).extents ≡ inserted left (without_all gone l.extents)
left-over l gone come again left x h =
    let w : List Extent = without_all gone l.extents in
    let up : Rising 128 (inserted come w) = live-rises (of_extents l (inserted come w)) h in
    let parts : inserted come w ≡ inserted again (inserted left w) = x.same w up ∙ inserted-append again left w in
    ap (without_all again) parts ∙ without-inserted 128 again (inserted left w) (subst (Rising 128) parts up)

-- and others replace them
pub exchanged-twice : (l : LiveSet) (gone come again left more : List Extent) → SameSpread come (again ++ left)
    → IsTrue (is_proper (exchanged l gone come))
    → exchanged (exchanged l gone come) again more ≡ exchanged l gone (more ++ left)
exchanged-twice l gone come again left more x h =
    ap (λ xs. of_extents l (inserted more xs)) (left-over l gone come again left x h)
    ∙ ap (of_extents l) (sym (inserted-append more left (without_all gone l.extents)))

-- the live set afterwards
pub exchanged-live : (a b : WindowState) (from n : ℕ) (gone come : List Extent) (format : ℕ)
    → ExchangesBlocks format a b from n gone come → live_of b.bytes ≡ exchanged (live_of a.bytes) gone come
exchanged-live a b from n gone come format p = lay_out_one format b.bytes (exchanged (live_of a.bytes) gone come) p.live

-- ---- the blocks that stay

but-both : (a b c : Memory) (from n : ℕ) (xs : List Extent) → AllByRecursion (SameBlockExcept a b from n) xs
    → AllByRecursion (SameBlockExcept b c from n) xs → AllByRecursion (SameBlockExcept a c from n) xs
but-both a b c from n [] p q = tt
but-both a b c from n (x ∷ xs) p q = (
  record { payload = λ k f g h. q.0.payload k f g h ∙ p.0.payload k f g h; colour = q.0.colour ∙ p.0.colour },
  but-both a b c from n xs p.1 q.1,
)

-- Blocks are exchanged, and then some of the allocated ones for others. A block that is written, except its n bytes,
-- counts as freed and allocated.
pub exchange-next : (format : ℕ) (a b c : WindowState) (from n : ℕ) (gone come again left more : List Extent)
    → SameSpread come (again ++ left)
    → ExchangesBlocks format a b from n gone come → ExchangesBlocks format b c from n again more
    → ExchangesBlocks format a c from n gone (more ++ left)
exchange-next format a b c from n gone come again left more x p q =
    let l : LiveSet = live_of a.bytes in
    let A : Memory = bytes_of a.bytes in
    let B : Memory = bytes_of b.bytes in
    let C : Memory = bytes_of c.bytes in
    let now : live_of b.bytes ≡ exchanged l gone come = exchanged-live a b from n gone come format p in
    let stay : without_all again (live_of b.bytes).extents ≡ inserted left (without_all gone l.extents) =
    ap (λ (s : LiveSet). without_all again s.extents) now ∙ left-over l gone come again left x p.live.proper in
    let second : AllByRecursion (SameBlockExcept B C from n) (without_all gone l.extents) =
    (all_of-inserted (SameBlockExcept B C from n) left (without_all gone l.extents)
    (subst (AllByRecursion (SameBlockExcept B C from n)) stay q.blocks)).1 in
    record {
      live = subst (EncodesLiveSet format c.bytes) (ap (λ (s : LiveSet). exchanged s again more) now
          ∙ exchanged-twice l gone come again left more x p.live.proper) q.live;
      place = SameSurroundings-trans a b c p.place q.place;
      front = SameBytes-trans A B C 0 24 p.front q.front;
      behind = SameBytes-trans A B C 32 128 p.behind q.behind;
      blocks = but-both A B C from n (without_all gone l.extents) p.blocks second;
    }

-- in another order
pub exchange-order : (format : ℕ) (a b : WindowState) (from n : ℕ) (gone come other : List Extent)
    → SameSpread come other
    → ExchangesBlocks format a b from n gone come → ExchangesBlocks format a b from n gone other
exchange-order format a b from n gone come other x p =
    let l : LiveSet = live_of a.bytes in
    let w : List Extent = without_all gone l.extents in
    let up : Rising 128 (inserted come w) = live-rises (of_extents l (inserted come w)) p.live.proper in
    record {
      live = subst (EncodesLiveSet format b.bytes) (ap (of_extents l) (x.same w up)) p.live;
      place = p.place;
      front = p.front;
      behind = p.behind;
      blocks = p.blocks;
    }

wide-side : (from n k : ℕ) → (k < 0) ⊎ (0 + 0 ≤ k)
wide-side from n k = inr (omega arith)

-- if nothing in the blocks that stay changes, nothing but any n bytes changes
but-wide : (a b : Memory) (from n : ℕ) (xs : List Extent) → AllByRecursion (SameBlockExcept a b 0 0) xs
    → AllByRecursion (SameBlockExcept a b from n) xs
but-wide a b from n [] p = tt
but-wide a b from n (x ∷ xs) p = (
  record { payload = λ k f g h. p.0.payload k f g (wide-side from n k); colour = p.0.colour },
  but-wide a b from n xs p.1,
)

-- an exchange that writes nothing writes within any range
pub exchange-wide : (format : ℕ) (a b : WindowState) (from n : ℕ) (gone come : List Extent)
    → ExchangesBlocks format a b 0 0 gone come → ExchangesBlocks format a b from n gone come
exchange-wide format a b from n gone come p =
    record {
      live = p.live;
      place = p.place;
      front = p.front;
      behind = p.behind;
      blocks = but-wide (bytes_of a.bytes) (bytes_of b.bytes) from n
          (without_all gone (live_of a.bytes).extents) p.blocks;
    }

-- ---- the calls of the heap, as exchanges

but-refl : (m : Memory) (from n : ℕ) (xs : List Extent) → AllByRecursion (SameBlockExcept m m from n) xs
but-refl m from n [] = tt
but-refl m from n (x ∷ xs) = (record { payload = λ k a b c. refl; colour = refl }, but-refl m from n xs)

-- blocks in use are freed and allocated again
pub back-again : (l : LiveSet) (xs rest : List Extent) → IsTrue (is_proper l)
    → l.extents ≡ inserted xs rest → exchanged l xs xs ≡ l
back-again l xs rest h e =
    let up : Rising 128 (inserted xs rest) = subst (Rising 128) e (live-rises l h) in
    ap (λ ys. of_extents l (inserted xs (without_all xs ys))) e ∙ ap (λ ys. of_extents l (inserted xs ys))
    (without-inserted 128 xs rest up) ∙ ap (of_extents l) (sym e)

-- nothing changed: the start of exchanges in which these blocks are written later
pub exchange-same : (format : ℕ) (a : WindowState) (from n : ℕ) (xs rest : List Extent)
    → EncodesLiveSet format a.bytes (live_of a.bytes) → (live_of a.bytes).extents ≡ inserted xs rest
    → ExchangesBlocks format a a from n xs xs
exchange-same format a from n xs rest h e = record {
  live = subst (EncodesLiveSet format a.bytes) (sym (back-again (live_of a.bytes) xs rest h.proper e)) h;
  place = record { before = refl; after = refl };
  front = SameBytes-refl (bytes_of a.bytes) 0 24;
  behind = SameBytes-refl (bytes_of a.bytes) 32 128;
  blocks = but-refl (bytes_of a.bytes) from n (without_all xs (live_of a.bytes).extents);
}

-- a block was allocated
pub exchange-taken : (format : ℕ) (old new : WindowState) (m : ℕ) (role : Role) (h from n : ℕ)
    → (a : AllocatesOk format old new m role h) → ExchangesBlocks format old new from n [] (a.extent ∷ [])
exchange-taken format old new m role h from n a = record {
  live = a.live;
  place = a.keeps.place;
  front = a.keeps.front;
  behind = a.keeps.behind;
  blocks = all-same-but (bytes_of old.bytes) (bytes_of new.bytes) from n (live_of old.bytes).extents a.keeps.blocks;
}

-- a block was freed
pub exchange-released : (format : ℕ) (old new : WindowState) (x : Extent) (from n : ℕ)
    → Deallocates format old new (handle x)
    → ExchangesBlocks format old new from n (x ∷ []) []
exchange-released format old new x from n r = record {
  live = r.live;
  place = r.keeps.place;
  front = r.keeps.front;
  behind = r.keeps.behind;
  blocks = all-same-but (bytes_of old.bytes) (bytes_of new.bytes) from n
      (others (handle x) (live_of old.bytes).extents) r.keeps.blocks;
}

-- one extent has another length
pub exchange-resized : (format : ℕ) (old new : WindowState) (x y : Extent) (from n : ℕ) → handle y ≡ handle x
    → ResizesBlock format old new x y → ExchangesBlocks format old new from n (x ∷ []) (y ∷ [])
exchange-resized format old new x y from n e r = record {
  live = subst (λ k. EncodesLiveSet format new.bytes
      (of_extents (live_of old.bytes) (insert y (others k (live_of old.bytes).extents)))) e r.live;
  place = r.keeps.place;
  front = r.keeps.front;
  behind = r.keeps.behind;
  blocks = all-same-but (bytes_of old.bytes) (bytes_of new.bytes) from n
      (others (handle x) (live_of old.bytes).extents) r.keeps.blocks;
}

-- one block was written
pub exchange-written : (format : ℕ) (old new : WindowState) (x : Extent) (rest : List Extent) (len at k from n : ℕ)
    → EncodesLiveSet format old.bytes (live_of old.bytes) → (live_of old.bytes).extents ≡ inserted (x ∷ []) rest
    → IsTrue (has_room (live_of old.bytes) (handle x) len) → ChangesBytes format old new at k → handle x ≤ at
    → at + k ≤ handle x + len → ExchangesBlocks format old new from n (x ∷ []) (x ∷ [])
exchange-written format old new x rest len at k from n h e room c low high =
    let kept : KeepsBlocks old new (released (live_of old.bytes) (handle x)).extents =
    changed-keeps_block format old new at
    k (handle x) len c room (omega arith) high in
    record {
      live = subst (EncodesLiveSet format new.bytes) (sym (back-again (live_of old.bytes) (x ∷ []) rest h.proper e))
          c.live;
      place = c.place;
      front = kept.front;
      behind = kept.behind;
      blocks = all-same-but (bytes_of old.bytes) (bytes_of new.bytes) from n
          (others (handle x) (live_of old.bytes).extents) kept.blocks;
    }

-- ---- the extents that are found

-- this block is not in the list
abbrev pub IsNone : ℕ → List Extent → Type 0
IsNone h = AllByRecursion (λ (z : Extent). h ≢ handle z)

-- an extent that is found is found without others
pub found-without : (h : ℕ) (y : Extent) (xs zs : List Extent) → IsNone h xs → find (λ (w : Extent). handle w == h) zs
    ≡ Some y → find (λ (w : Extent). handle w == h) (without_all xs zs) ≡ Some y
found-without h y [] zs n e = e
found-without h y (x ∷ xs) zs n e = found-without h y xs (others (handle x) zs) n.1 (found-less h (handle x) y zs n.0 e)

-- and among others
pub found-inserted : (h : ℕ) (y : Extent) (xs zs : List Extent) → IsNone h xs
    → find (λ (w : Extent). handle w == h) zs ≡ Some y → find (λ (w : Extent). handle w == h) (inserted xs zs) ≡ Some y
found-inserted h y [] zs n e = e
found-inserted h y (x ∷ xs) zs n e = found-more h x y (inserted xs zs) (λ f. n.0 (sym f))
    (found-inserted h y xs zs n.1 e)

-- each inserted extent is found
abbrev pub IsFound : List Extent → Extent → Type 0
IsFound zs y = find (λ (w : Extent). handle w == handle y) zs ≡ Some y

found-with : (x : Extent) (xs zs : List Extent) → Differs x xs → AllByRecursion (IsFound zs) xs
    → AllByRecursion (IsFound (insert x zs)) xs
found-with x [] zs d f = tt
found-with x (y ∷ ys) zs d f = (
  found-more (handle y) x y zs (λ e. d.0 (omega (arith, e))) f.0,
  found-with x ys zs d.1 f.1,
)

-- inserted extents are found
pub all-found-in : (xs zs : List Extent) → Rising 128 (inserted xs zs) → AllByRecursion (IsFound (inserted xs zs)) xs
all-found-in [] zs r = tt
all-found-in (x ∷ xs) zs r =
    let f : IsFresh 128 x (inserted xs zs) = rising-insert 128 x (inserted xs zs) r in (
      found-new x (inserted xs zs) f.differs,
      found-with x xs (inserted xs zs)
          (all_of-inserted (λ (y : Extent). x.offset ≢ y.offset) xs zs f.differs).0 (all-found-in xs zs f.rest),
    )

-- Blocks that are found, no two of them equal, are inserted among the others.
pub record AreInUse (zs xs : List Extent) : Type 0 where
  pub is : zs ≡ inserted xs (without_all xs zs)

none-among : (x : Extent) (xs : List Extent) → AllByRecursion (λ (y : Extent). handle x ≢ handle y) xs
    → AllByRecursion (λ (y : Extent). handle y ≢ handle x) xs
none-among x [] n = tt
none-among x (y ∷ ys) n = ((λ e. n.0 (sym e)), none-among x ys n.1)

found-others : (h : ℕ) (xs zs : List Extent) → AllByRecursion (λ (y : Extent). handle y ≢ h) xs
    → AllByRecursion (IsFound zs) xs → AllByRecursion (IsFound (others h zs)) xs
found-others h [] zs n f = tt
found-others h (y ∷ ys) zs n f = (found-less (handle y) h y zs n.0 f.0, found-others h ys zs n.1 f.1)

-- all extents of the list are different blocks
abbrev pub AreOthers : List Extent → Type 0
AreOthers [] = ⊤
AreOthers (x ∷ xs) = AllByRecursion (λ (y : Extent). handle x ≢ handle y) xs × AreOthers xs

-- extents that are found, and are no gaps, are in use
pub all-in-use : (xs zs : List Extent) → Rising 128 zs → AreOthers xs → AllByRecursion (IsFound zs) xs → AreInUse zs xs
all-in-use [] zs r d f = record { is = refl }
all-in-use (x ∷ xs) zs r d f =
    let a : IsAmong (handle x) x zs = among 128 (handle x) x zs r f.0 in
    let fresh : IsFresh 128 x (others (handle x) zs) = rising-insert 128 x (others (handle x) zs)
    (subst (Rising 128) a.is r) in
    let below : AreInUse (others (handle x) zs) xs = all-in-use xs (others (handle x) zs) fresh.rest d.1
    (found-others (handle x) xs zs (none-among x xs d.0) f.1) in
    record { is = a.is ∙ ap (insert x) below.is }

-- extents one after another are all different
others-of : (x : Extent) (xs : List Extent) → Differs x xs → AllByRecursion (λ (y : Extent). handle x ≢ handle y) xs
others-of x [] d = tt
others-of x (y ∷ ys) d = ((λ e. d.0 (omega (arith, e))), others-of x ys d.1)

-- extents that are inserted next to others have handles of their own
pub rising-others : (xs zs : List Extent) → Rising 128 (inserted xs zs) → AreOthers xs
rising-others [] zs r = tt
rising-others (x ∷ xs) zs r =
    let f : IsFresh 128 x (inserted xs zs) = rising-insert 128 x (inserted xs zs) r in (
      others-of x xs (all_of-inserted (λ (y : Extent). x.offset ≢ y.offset) xs zs f.differs).0,
      rising-others xs zs f.rest,
    )

-- and differs from each of the others
apart-none : (h : ℕ) (y : Extent) (xs zs : List Extent) → handle y ≡ h → zs ≡ insert y (others h zs)
    → Apart xs zs → IsNone h xs
apart-none h y [] zs at e a = tt
apart-none h y (x ∷ xs) zs at e a =
    let d = all_of-insert (λ (w : Extent). x.offset ≢ w.offset) y (others h zs) (subst (Differs x) e a.0) in
    ((λ f. d.0 (omega (arith, at, f))), apart-none h y xs zs at e a.1)

-- an extent that was there before differs from each inserted one
pub found-none : (h : ℕ) (y : Extent) (xs zs : List Extent) → Rising 128 (inserted xs zs)
    → find (λ (w : Extent). handle w == h) zs ≡ Some y → IsNone h xs
found-none h y xs zs r e =
    let both = rising-inserted 128 xs zs r in
    let a : IsAmong h y zs = among 128 h y zs both.0 e in
    apart-none h y xs zs a.at a.is both.1

-- ---- one block that stays

all-found-if : (P : Extent → Type 0) (h : ℕ) (x z : Extent) (zs : List Extent)
    → AllByRecursion P (insert x (others h zs)) → P x
all-found-if P h x z zs a = (all_of-insert P x (others h zs) a).0

-- a property of each block that stays holds for a block that is found and not freed
pub stays : (P : Extent → Type 0) (l : LiveSet) (h : ℕ) (y : Extent) (gone : List Extent) → IsTrue (is_proper l)
    → extent_at l h ≡ Some y → IsNone h gone → Rising 128 (without_all gone l.extents)
    → AllByRecursion P (without_all gone l.extents) → P y
stays P l h y gone p e n r a =
    let zs : List Extent = without_all gone l.extents in
    let w : IsAmong h y zs = among 128 h y zs r (found-without h y gone l.extents n e) in
    (all_of-insert P y (others h zs) (subst (AllByRecursion P) w.is a)).0

-- the extents that stay are in order
pub rest-rises : (l : LiveSet) (gone come : List Extent) → IsTrue (is_proper (exchanged l gone come))
    → Rising 128 (without_all gone l.extents)
rest-rises l gone come p =
    (rising-inserted 128 come (without_all gone l.extents) (live-rises (exchanged l gone come) p)).0

-- an exchange keeps a block that is not freed, except the n bytes
pub kept-but : (a b : WindowState) (from n h : ℕ) (y : Extent) (gone come : List Extent) (format : ℕ)
    → IsHeap format a.bytes
    → ExchangesBlocks format a b from n gone come → extent_at (live_of a.bytes) h ≡ Some y → IsNone h gone
    → SameBlockExcept (bytes_of a.bytes) (bytes_of b.bytes) from n y
kept-but a b from n h y gone come format heap p e d =
    stays (SameBlockExcept (bytes_of a.bytes) (bytes_of b.bytes) from n) (live_of a.bytes) h y gone heap.proper e d
    (rest-rises (live_of a.bytes) gone come p.live.proper) p.blocks

-- the block is still in use
pub kept-found : (a b : WindowState) (from n h : ℕ) (y : Extent) (gone come : List Extent) (format : ℕ)
    → ExchangesBlocks format a b from n gone come → extent_at (live_of a.bytes) h ≡ Some y → IsNone h gone
    → extent_at (live_of b.bytes) h ≡ Some y
kept-found a b from n h y gone come format p e d =
    let l : LiveSet = live_of a.bytes in
    let zs : List Extent = without_all gone l.extents in
    let here : find (λ (w : Extent). handle w == h) zs ≡ Some y = found-without h y gone l.extents d e in
    let none : IsNone h come = found-none h y come zs (live-rises (exchanged l gone come) p.live.proper) here in
    ap (λ (s : LiveSet). extent_at s h) (exchanged-live a b from n gone come format p)
    ∙ found-inserted h y come zs none here

-- all of the block stays if nothing in the blocks that stay changes
pub kept : (a b : WindowState) (h : ℕ) (y : Extent) (gone come : List Extent) (format : ℕ) → IsHeap format a.bytes
    → ExchangesBlocks format a b 0 0 gone come → extent_at (live_of a.bytes) h ≡ Some y → IsNone h gone
    → SameBlock (bytes_of a.bytes) (bytes_of b.bytes) y
kept a b h y gone come format heap p e d =
    let s : SameBlockExcept (bytes_of a.bytes) (bytes_of b.bytes) 0 0 y = kept-but a b 0 0 h y gone
    come format heap p e d in
    record { payload = record { at = λ k f g. s.payload k f g (wide-side 0 0 k) }; colour = s.colour }

beside-but : (m m' : Memory) (from n : ℕ) (x y : Extent) → handle x ≤ from → from + n ≤ end_of x → LiesBeside x y
    → SameBlockExcept m m' from n y → SameBlock m m' y
beside-but m m' from n x y f g (above h) s =
    record { payload = record { at = λ k a b. s.payload k a b (inl (omega arith)) }; colour = s.colour }
beside-but m m' from n x y f g (below h) s =
    record { payload = record { at = λ k a b. s.payload k a b (inr (omega arith)) }; colour = s.colour }

-- a block that stays except n bytes stays if these bytes are in another block
pub but-apart : (l : LiveSet) (m m' : Memory) (from n g h : ℕ) (x y : Extent) → IsTrue (is_proper l)
    → extent_at l g ≡ Some x → handle x ≤ from → from + n ≤ end_of x → g ≢ h → extent_at l h ≡ Some y
    → SameBlockExcept m m' from n y → SameBlock m m' y
but-apart l m m' from n g h x y p ex low high other e s =
    let alone : IsAlone 128 x (others g l.extents) = in_use-alone l g x p ex in
    let rest : Rising 128 (others g l.extents) =
    (rising-insert 128 x (others g l.extents) (subst (Rising 128) (in_use l g x p ex).is (live-rises l p))).rest in
    let w : IsAmong h y (others g l.extents) = among 128 h y (others g l.extents) rest
    (found-less h g y l.extents (λ f. other (sym f)) e) in
    let beside : LiesBeside x y =
    (all_of-insert (LiesBeside x) y (others h (others g l.extents))
    (subst (AllByRecursion (LiesBeside x)) w.is alone.beside)).0 in
    beside-but m m' from n x y low high beside s

-- and keeps all of the block if the n bytes are in another one
pub kept-beside : (a b : WindowState) (from n g h : ℕ) (x y : Extent) (gone come : List Extent) (format : ℕ)
    → IsHeap format a.bytes → ExchangesBlocks format a b from n gone come
    → extent_at (live_of a.bytes) g ≡ Some x → handle x ≤ from → from + n ≤ end_of x → g ≢ h
    → extent_at (live_of a.bytes) h ≡ Some y → IsNone h gone
    → SameBlock (bytes_of a.bytes) (bytes_of b.bytes) y
kept-beside a b from n g h x y gone come format heap p ex low high other e d =
    but-apart (live_of a.bytes) (bytes_of a.bytes) (bytes_of b.bytes) from n g h x y heap.proper ex low high other e
    (kept-but a b from n h y gone come format heap p e d)

-- two blocks in use lie apart
pub two-apart : (l : LiveSet) (x y : Extent) → IsTrue (is_proper l) → extent_at l (handle x) ≡ Some x
    → extent_at l (handle y) ≡ Some y → handle x ≢ handle y → (end_of x ≤ y.offset) ⊎ (end_of y ≤ x.offset)
two-apart l x y p ex ey other =
    let alone : IsAlone 128 x (others (handle x) l.extents) = in_use-alone l (handle x) x p ex in
    let rest : Rising 128 (others (handle x) l.extents) =
    (rising-insert 128 x (others (handle x) l.extents)
    (subst (Rising 128) (in_use l (handle x) x p ex).is (live-rises l p))).rest in
    let w : IsAmong (handle y) y (others (handle x) l.extents) = among 128 (handle y) y (others (handle x) l.extents)
    rest (found-less (handle y) (handle x) y l.extents (λ f. other (sym f)) ey) in
    elim (all_of-insert (LiesBeside x) y (others (handle y) (others (handle x) l.extents))
    (subst (AllByRecursion (LiesBeside x)) w.is alone.beside)).0 [ above h ↦ inr h | below h ↦ inl h ]
