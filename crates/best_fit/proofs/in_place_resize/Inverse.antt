-- A block that was lengthened in place, and is shortened again by as much.
use Rattle.best_fit.proofs.Common.{◌≡◌, refl, sym, ap, subst, ◌∙◌, inl, inr, ◌⊎◌, ℕ, ◌+◌, ◌-◌, ◌%◌, ◌<◌, ◌≤◌, Bool}
use Rattle.best_fit.proofs.Common.{true, false, ◌==◌, Option, Some, None, List, [], ◌∷◌, min, arith, if◌then◌else◌}
use Rattle.best_fit.proofs.Common.{IsTrue, nat_le, nat_lt, option_map, eq-eqb, le-leb, lt-leb, lt-ltb, or_left}
use Rattle.best_fit.proofs.Common.{or_right, AllByRecursion, same_Some, Memory, WindowState, bytes_of, word_at, current}
use Rattle.best_fit.proofs.Common.{Storage, Extent, LiveSet, handle, end_of, holds, is_proper, added, gap_after}
use Rattle.best_fit.proofs.Common.{insert, is_extent, longer, others, place, regrow, released, resized, room, share}
use Rattle.best_fit.proofs.Common.{shorter, AllocatesOk, TryExtends, IsHeap, Deallocates, ResizesBlock, ShrinksInPlace}
use Rattle.best_fit.proofs.Common.{KeepsBlocks, EncodesLiveSet, SameBlock, extent_at, live_of, Role}
use Rattle.best_fit.specs.Exchange.{CannotWiden, KeepsLiveSet, WidensBlock}
use Rattle.best_fit.proofs.extents.Changes.{IsNeighbour, is_extent-IsNeighbour, is_proper-IsProper, is_proper-longer}
use Rattle.best_fit.proofs.extents.Changes.{next_to}
use Rattle.best_fit.proofs.tags.Frames.{SameBlock-refl, keeps-refl, keeps-trans}
use Rattle.best_fit.proofs.tags.OneLiveSet.{lay_out_one}
use Rattle.best_fit.proofs.in_place_resize.NewLength.{may_cut, shorter_cut, shorter_same}
use Rattle.best_fit.proofs.extents.FirstFit.{IfSome_is, longer-IsLonger, share-IsShare}
use Rattle.best_fit.proofs.extents.Proper.{IsHole, behind, behind-here, behind-past, next_of}
use Rattle.best_fit.proofs.exchange.OneExchange.{lengthened_at, not_lengthened, regrow-short}
use Rattle.best_fit.proofs.extents.Order.{AllByRecursion-insert_from}
use Rattle.best_fit.proofs.extents.Spacing.{Differs, IsAmong, IsFresh, Rising, found-new, in_use, live-rises}
use Rattle.best_fit.proofs.extents.Spacing.{others-insert, rising-insert}

-- ---- the gap after a block of another length

behind-if : (h : ℕ) (b : Bool) (x y z : Extent) (zs us ws : List Extent) → handle x ≡ h → handle y ≡ h
    → (handle z ≡ h → ⊥) → behind h us ≡ behind h ws
    → behind h (if b then y ∷ z ∷ zs else z ∷ us) ≡ behind h (if b then x ∷ z ∷ zs else z ∷ ws)
behind-if h true x y z zs us ws e f n k = behind-here h y (z ∷ zs) f ∙ sym (behind-here h x (z ∷ zs) e)
behind-if h false x y z zs us ws e f n k = behind-past h z us n ∙ k ∙ sym (behind-past h z ws n)

behind-insert : (x : Extent) (s : ℕ) (zs : List Extent) → Differs x zs
    → behind (handle x) (insert (record x { len = s }) zs) ≡ behind (handle x) (insert x zs)
behind-insert x s [] d = behind-here (handle x) (record x { len = s }) [] refl ∙ sym (behind-here (handle x) x [] refl)
behind-insert x s (z ∷ zs) d =
    behind-if (handle x) (nat_lt x.offset z.offset) x (record x { len = s }) z zs (insert (record x { len = s }) zs)
    (insert x zs) refl refl (λ e. d.0 (omega (arith, e))) (behind-insert x s zs d.1)

-- ---- a block of a live set

record IsBlockOf (l : LiveSet) (h : ℕ) (x : Extent) : Type 0 where
  at : handle x ≡ h
  is : l.extents ≡ insert x (others (handle x) l.extents)
  differs : Differs x (others (handle x) l.extents)
  extent : IsTrue (is_extent l x)

block-of : (l : LiveSet) (h : ℕ) (x : Extent) → IsTrue (is_proper l) → extent_at l h ≡ Some x → IsBlockOf l h x
block-of l h x p e =
    let a : IsAmong h x l.extents = in_use l h x p e in
    let is : l.extents ≡ insert x (others (handle x) l.extents) = a.is
    ∙ ap (λ k. insert x (others k l.extents)) (sym a.at) in
    let f : IsFresh 128 x (others (handle x) l.extents) = rising-insert 128 x (others (handle x) l.extents)
    (subst (Rising 128) is (live-rises l p)) in
    record {
      at = a.at;
      is = is;
      differs = f.differs;
      extent = found-extent l x (ap (λ k. extent_at l k) a.at ∙ e);
    }
  where
    found-extent : (l : LiveSet) (x : Extent) → extent_at l (handle x) ≡ Some x → IsTrue (is_extent l x)
    found-extent l x e =
        subst (λ (o : Option Extent). IsTrue (elim o as (λ _. Bool) [ None ↦ false | Some y ↦ y.len == x.len ]))
        (sym e) (eq-eqb x.len x.len refl)

-- the block shortened to its old length
back-live : (l : LiveSet) (h : ℕ) (x : Extent) (s : ℕ) → IsBlockOf l h x
    → resized (resized l (record x { len = s })) x ≡ l
back-live l h x s b =
    let y : Extent = record x { len = s } in
    let zs : List Extent = others (handle x) l.extents in
    ap (λ (us : List Extent). let k : LiveSet = record l { extents = insert x us } in k)
    (others-insert y zs b.differs)
    ∙ ap (λ (us : List Extent). let k : LiveSet = record l { extents = us } in k) (sym b.is)

next-same : (l : LiveSet) (h : ℕ) (x : Extent) (s : ℕ) → IsBlockOf l h x → next_to (resized l (record x { len = s }))
    (record x { len = s }) ≡ next_to l x
unfolding next_to
next-same l h x s b =
    ap (λ (us : List Extent). next_of us (l.size - 16)) (behind-insert x s (others (handle x) l.extents) b.differs
    ∙ ap (behind (handle x)) (sym b.is))

room-back : (n : ℕ) → 32 ≤ n → n % 16 ≡ 0 → room (n - 16) ≡ n
room-back n f e = omega arith

may-cut-if : (live : LiveSet) (y : Extent) (k gap next at len wanted : ℕ) → room k ≡ len → at + len + gap ≡ next
    → at + y.len + gap_after live y ≡ next → (gap ≡ 0) ⊎ (32 ≤ gap) → len < wanted
    → (y.len ≡ len + gap) ⊎ ((y.len ≡ wanted) × (wanted + 32 ≤ len + gap)) → wanted ≤ len + gap
    → may_cut live y k ≡ true
may-cut-if live y k gap next at len wanted r joins after (inl none) more s fits = absurd (omega arith)
may-cut-if live y k gap next at len wanted r joins after (inr big) more (inl all) fits =
    or_right (nat_lt 0 (gap_after live y)) (nat_le (room k + 32) y.len) (le-leb (room k + 32) y.len (omega arith))
may-cut-if live y k gap next at len wanted r joins after (inr big) more (inr part) fits =
    or_left (nat_lt 0 (gap_after live y)) (nat_le (room k + 32) y.len)
    (lt-ltb 0 (gap_after live y) (let is = part.0 in let left = part.1 in omega arith))

hole-gap : (at next gap : ℕ) → IsHole at next → at + gap ≡ next → (gap ≡ 0) ⊎ (32 ≤ gap)
hole-gap at next gap (inl e) j = inl (omega arith)
hole-gap at next gap (inr f) j = inr (omega arith)

undo : (l : LiveSet) (h : ℕ) (x : Extent) (n : ℕ) → IsTrue (is_proper l) → IsBlockOf l h x → x.len < room n
    → room n ≤ x.len + gap_after l x
    → IsTrue (is_proper (resized l (record x { len = share (x.len + gap_after l x) (room n) })))
    → shorter (resized l (record x { len = share (x.len + gap_after l x) (room n) }))
    (record x { len = share (x.len + gap_after l x) (room n) }) (x.len - 16) ≡ x
undo l h x n p b more fits q =
    let s : ℕ = share (x.len + gap_after l x) (room n) in
    let y : Extent = record x { len = s } in
    let m : LiveSet = resized l y in
    let k : ℕ = x.len - 16 in
    let nb : IsNeighbour l x (next_to l x) = is_extent-IsNeighbour l x (is_proper-IsProper l p) b.extent in
    let there : extent_at m (handle y) ≡ Some y = found-new y (others (handle x) l.extents) b.differs in
    let by : IsBlockOf m (handle y) y = block-of m (handle y) y q there in
    let ny : IsNeighbour m y (next_to m y) = is_extent-IsNeighbour m y (is_proper-IsProper m q) by.extent in
    let after : end_of y + gap_after m y ≡ next_to l x = ny.gap ∙ next-same l h x s b in
    let long : 32 ≤ x.len = nb.block.long in
    let whole : x.len % 16 ≡ 0 = nb.block.len in
    let back : room k ≡ x.len = room-back x.len long whole in
    let shares = share-IsShare (x.len + gap_after l x) (room n) fits in
    let grew = shares.enough in
    let cuts : may_cut m y k ≡ true = may-cut-if m y k (gap_after l x) (next_to l x) x.offset x.len (room n) back
    nb.gap after (hole-gap (end_of x) (next_to l x) (gap_after l x) nb.hole nb.gap) more shares.left fits in
    shorter_cut m y k (omega (arith, back, grew)) cuts ∙ ap (λ w. let z : Extent = record x { len = w } in z) back

-- ---- the calls

regrow-held : (l : LiveSet) (x : Extent) (n : ℕ) → holds x n ≡ true → regrow l (Some x) n ≡ Some x
unfolding regrow
regrow-held l x n e = ap (λ b. if b then Some x else elim (longer l x n) as (λ _. Option Extent) [
  | Some y ↦ Some y
  | None ↦ place l n Storage
]) e

len-is : (x : Extent) (o : Option Extent) (r : ℕ) → o ≡ Some x → option_map (λ (x : Extent). x.len - 16) o ≡ Some r
    → x.len - 16 ≡ r
len-is x o r e f = let is : Some (x.len - 16) ≡ Some r = ap (option_map (λ (x : Extent). x.len - 16)) (sym e) ∙ f in cc

short-of : (x : Extent) (n r : ℕ) → x.len - 16 ≡ r → r < n → holds x n ≡ false
short-of x n r e f = lt-leb (n + 16) x.len (omega (arith, e, f))

-- the block was lengthened
pub wide-longer : (old new : WindowState) (h n : ℕ) (result : Bool) (r : ℕ) → IsHeap current old.bytes
    → option_map (λ (x : Extent). x.len - 16) (extent_at (live_of old.bytes) h) ≡ Some r → r < n
    → TryExtends current old new h n result → result ≡ true → WidensBlock current old new h n
wide-longer old new h n result r heap f less e is =
    let l : LiveSet = live_of old.bytes in
    let x : Extent = e.extent in
    let b : IsBlockOf l h x = block-of l h x heap.proper e.found in
    let a = lengthened_at old new h n result x e.found e is in
    let g = longer-IsLonger l x a.after n a.longer in
    let s : ℕ = share (x.len + gap_after l x) (room n) in
    let q : IsTrue (is_proper (resized l (record x { len = s }))) =
    subst (λ (z : Extent). IsTrue (is_proper (resized l z)))
    (sym g.same) (IfSome_is (λ (z : Extent). IsTrue (is_proper (resized l z))) (longer l x n) a.after a.longer
    (is_proper-longer l x n (is_proper-IsProper l heap.proper) b.extent)) in
    let more : x.len < s = subst (λ (z : Extent). x.len < z.len) (sym g.same) g.more in
    let short = short-of x n r (len-is x (extent_at l h) r e.found f) less in
    record {
      before = x;
      after = record x { len = s };
      found = e.found;
      at = b.at;
      begins = refl;
      longer = omega (arith, more);
      regrown = regrow-short l x n (Some a.after) short a.longer ∙ ap (λ (z : Extent). Some z) (sym g.same);
      change = subst (λ (z : Extent). ResizesBlock current old new x z) (sym g.same) a.resized;
      undone = undo l h x n heap.proper b g.short g.fits q;
      back = back-live l h x s b;
      same = λ is. let less = ap (λ (z : Extent). z.len) is in absurd (omega (arith, more));
    }

-- the block was not lengthened
pub not-wide : (old new : WindowState) (h n : ℕ) (result : Bool) (r : ℕ) → option_map (λ (x : Extent). x.len - 16)
    (extent_at (live_of old.bytes) h) ≡ Some r → r < n
    → TryExtends current old new h n result → result ≡ false → CannotWiden old new h n
not-wide old new h n result r f less e is =
    let l : LiveSet = live_of old.bytes in
    let no = not_lengthened old new h n result e.extent e.found e is in
    let short = short-of e.extent n r (len-is e.extent (extent_at l h) r e.found f) less in
    record { before = e.extent; found = e.found; regrown = regrow-short l e.extent n None short no.0; same = no.1 }

-- the block already had the room
wide-held : (c : WindowState) (h n : ℕ) (o : Option Extent) (r : ℕ) → IsHeap current c.bytes
    → extent_at (live_of c.bytes) h
    ≡ o → option_map (λ (x : Extent). x.len - 16) o ≡ Some r → n ≤ r → WidensBlock current c c h n
wide-held c h n None r heap e f g = absurd (cc)
wide-held c h n (Some x) r heap e f g =
    let l : LiveSet = live_of c.bytes in
    let b : IsBlockOf l h x = block-of l h x heap.proper e in
    let nb : IsNeighbour l x (next_to l x) = is_extent-IsNeighbour l x (is_proper-IsProper l heap.proper) b.extent in
    let long : 32 ≤ x.len = nb.block.long in
    let whole : x.len % 16 ≡ 0 = nb.block.len in
    let is : x.len - 16 ≡ r = cc in
    let same : resized l x ≡ l = ap (λ (us : List Extent). let k : LiveSet = record l { extents = us } in
    k) (sym b.is) in
    let least : min x.len x.len ≡ x.len = omega arith in
    record {
      before = x;
      after = x;
      found = e;
      at = b.at;
      begins = refl;
      longer = omega arith;
      regrown = regrow-held l x n (le-leb (n + 16) x.len (omega (arith, is, g, long)));
      change = record {
        live = subst (EncodesLiveSet current c.bytes) (sym same) heap;
        keeps = keeps-refl c (others (handle x) l.extents);
        still = SameBlock-refl (bytes_of c.bytes) (record x { len = min x.len x.len });
      };
      undone = shorter_same (resized l x) x (x.len - 16) (let back : room (x.len - 16) ≡ x.len =
          room-back x.len long whole in omega (arith, back));
      back = ap (λ (k : LiveSet). resized k x) same ∙ same;
      same = λ is. refl;
    }

-- a block with enough room is not lengthened
pub wide-same : (c : WindowState) (h n r : ℕ) → IsHeap current c.bytes → option_map (λ (x : Extent). x.len - 16)
    (extent_at (live_of c.bytes) h) ≡ Some r → n ≤ r → WidensBlock current c c h n
wide-same c h n r heap f g = wide-held c h n (extent_at (live_of c.bytes) h) r heap refl f g

-- ---- freeing or shortening undoes it

own-still : (m0 m1 m2 : Memory) (x y : Extent) → y.offset ≡ x.offset → x.len ≤ y.len
    → SameBlock m0 m1 (record x { len = min x.len y.len }) → SameBlock m1 m2 (record y { len = min y.len x.len })
    → SameBlock m0 m2 x
own-still m0 m1 m2 x y e f p q = record {
  payload = record {
    at = λ k g h. q.payload.at k (omega (arith, e)) (omega (arith, e, f))
        ∙ p.payload.at k (omega arith) (omega (arith, f));
  };
  colour = subst (λ at. word_at m2 (at + 8) % 16 ≡ word_at m1 (at + 8) % 16) e q.colour ∙ p.colour;
}

-- a block that was lengthened and shortened by as much: the live set is as before
pub widened-back : (first mid new : WindowState) (h n k : ℕ) → IsHeap current first.bytes
    → (w : WidensBlock current first mid h n) → k ≡ w.before.len - 16 → ShrinksInPlace current mid new h k
    → KeepsLiveSet current first new
widened-back first mid new h n k heap w k_is s =
    let l : LiveSet = live_of first.bytes in
    let x : Extent = w.before in
    let y : Extent = w.after in
    let zs : List Extent = others (handle y) l.extents in
    let m_is : live_of mid.bytes ≡ resized l y = lay_out_one current mid.bytes (resized l y) w.change.live in
    let fresh : IsFresh 128 y zs = rising-insert 128 y zs (live-rises (resized l y) w.change.live.proper) in
    let at : handle y ≡ h = w.begins ∙ w.at in
    let there : extent_at (live_of mid.bytes) h ≡ Some y = ap (λ (s : LiveSet). extent_at s h) m_is
    ∙ ap (λ i. extent_at (resized l y) i) (sym at) ∙ found-new y zs fresh.differs in
    let same : s.extent ≡ y = same_Some _ _ (sym s.found ∙ there) in
    let cut : shorter (live_of mid.bytes) y k ≡ x = ap (λ (s : LiveSet). shorter s y k) m_is
    ∙ ap (shorter (resized l y) y) k_is ∙ w.undone in
    let r : ResizesBlock current mid new y x = subst (ResizesBlock current mid new y) cut
    (subst (λ (z : Extent). ResizesBlock current mid new z (shorter (live_of mid.bytes) z k)) same s.shortened) in
    let laid : EncodesLiveSet current new.bytes l = subst (EncodesLiveSet current new.bytes)
    (ap (λ (s : LiveSet). resized s x) m_is ∙ w.back) r.live in
    let second : KeepsBlocks mid new zs =
    subst (KeepsBlocks mid new) (ap (λ (s : LiveSet). others (handle y) s.extents) m_is
    ∙ others-insert y zs fresh.differs) r.keeps in
    let first_kept : KeepsBlocks first mid zs = subst (λ i. KeepsBlocks first mid (others i l.extents))
    (sym w.begins) w.change.keeps in
    let k2 : KeepsBlocks first new zs = keeps-trans first mid new zs first_kept second in
    let begins : handle y ≡ handle x = w.begins in
    let own : SameBlock (bytes_of first.bytes) (bytes_of new.bytes) x = own-still (bytes_of first.bytes)
    (bytes_of mid.bytes) (bytes_of new.bytes) x y (omega (arith, begins)) w.longer w.change.still r.still in
    let is : l.extents ≡ insert x zs = (in_use l h x heap.proper w.found).is
    ∙ ap (λ i. insert x (others i l.extents)) (sym at) in
    record {
      laid = laid;
      keeps = record {
        place = k2.place;
        front = k2.front;
        behind = k2.behind;
        blocks = subst (AllByRecursion (SameBlock (bytes_of first.bytes) (bytes_of new.bytes))) (sym is)
            (AllByRecursion-insert_from (SameBlock (bytes_of first.bytes) (bytes_of new.bytes)) x zs own k2.blocks);
      };
    }

-- a block that was allocated and deallocated: the live set is as before
pub taken-back : (first mid new : WindowState) (n g : ℕ) (role : Role) → (a : AllocatesOk current first mid n role g)
    → Deallocates current mid new g → KeepsLiveSet current first new
taken-back first mid new n g role a r =
    let l : LiveSet = live_of first.bytes in
    let y : Extent = a.extent in
    let m_is : live_of mid.bytes ≡ added l y = lay_out_one current mid.bytes (added l y) a.live in
    let fresh : IsFresh 128 y l.extents = rising-insert 128 y l.extents (live-rises (added l y) a.live.proper) in
    let left : others g (live_of mid.bytes).extents ≡ l.extents = ap (λ (s : LiveSet). others g s.extents) m_is
    ∙ ap (λ i. others i (insert y l.extents)) a.at ∙ others-insert y l.extents fresh.differs in
    record {
      laid = subst (EncodesLiveSet current new.bytes) (ap (λ (s : LiveSet). released s g) m_is
          ∙ ap (λ (xs : List Extent). let s : LiveSet = record l { extents = xs } in s)
          (ap (λ i. others i (insert y l.extents)) a.at ∙ others-insert y l.extents fresh.differs)) r.live;
      keeps = keeps-trans first mid new l.extents a.keeps (subst (KeepsBlocks mid new) left r.keeps);
    }
