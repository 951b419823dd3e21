-- A block that replaces another.
use Rattle.best_fit.proofs.Common.{◌≡◌, ◌≢◌, refl, sym, ap, subst, ◌∙◌, inl, ℕ, ◌+◌, ◌-◌, ◌%◌, ◌<◌, ◌≤◌, Bool, true}
use Rattle.best_fit.proofs.Common.{false, Option, Some, None, List, [], ◌∷◌, arith, if◌then◌else◌, IsTrue, IfSome}
use Rattle.best_fit.proofs.Common.{option_map, min, Result, and_from, le-leb, leb-true, lt-leb, AllByRecursion}
use Rattle.best_fit.proofs.Common.{both_ways, same_Some, none-some, SameBytesExcept-word, Memory, WindowState}
use Rattle.best_fit.proofs.Common.{SameBytesExcept, bytes_of, read, Storage, current, exchanged, SameBlockExcept}
use Rattle.best_fit.proofs.Common.{RegrowsOk, Regrows, serves, same_role, Extent, LiveSet, handle, end_of, holds}
use Rattle.best_fit.proofs.Common.{is_proper, insert, others, added, released, place, regrow, longer, Allocates}
use Rattle.best_fit.proofs.Common.{AllocatesOk, ChangesBytes, TryExtends, ResizesBlock, IsHeap, Deallocates}
use Rattle.best_fit.proofs.Common.{EncodesLiveSet, SameBlock, KeepsBlocks, extent_at, has_room, live_of}
use Rattle.std.specs.Prelude.{Ok, Err, MatchResult}
use Rattle.raw_region.proofs.Laws.{SameBytes-read}
use Rattle.best_fit.specs.Exchange.{ReplacesBlock, RegrowsNoSpace, Replaces}
use Rattle.best_fit.proofs.tags.Writes.{Room, room_block}
use Rattle.best_fit.proofs.tags.Frames.{keeps-refl, keeps-trans}
use Rattle.best_fit.proofs.allocation.NewBlock.{allocated-live, changed-live}
use Rattle.best_fit.proofs.extents.Order.{AllByRecursion-insert_from}
use Rattle.best_fit.proofs.extents.FirstFit.{longer-IsLonger, place-holds}
use Rattle.best_fit.proofs.extents.Requests.{place-serves}
use Rattle.best_fit.proofs.extents.Spacing.{IsAlone, in_use, in_use-alone, in_use-all, exchange-back, exchange-moved}
use Rattle.best_fit.proofs.extents.Spacing.{live-rises, live-spaced, rising-insert, spaced-insert, all_of-insert}
use Rattle.best_fit.proofs.extents.Spacing.{keeps-of, written-keeps}
use Rattle.best_fit.proofs.extents.Inverse.{placed_is_proper}

-- the extent of a block with room
pub record IsRoomy (l : LiveSet) (h n : ℕ) : Type 0 where
  pub extent : Extent
  pub found : extent_at l h ≡ Some extent
  pub at : handle extent ≡ h
  pub room : n + 16 ≤ extent.len

-- a block in use with room, by the live set
pub roomy : (c : WindowState) (h n : ℕ) → IsHeap current c.bytes → IsTrue (has_room (live_of c.bytes) h n)
    → IsRoomy (live_of c.bytes) h n
roomy c h n heap t =
    let r : Room c h n = room_block c h n heap t in
    let b = r.block in
    record {
      extent = record { offset = b.tile.offset; len = b.tile.len; role = b.role };
      found = b.extent;
      at = b.at;
      room = r.enough;
    }

-- a new block is allocated, bytes are copied to it, and the old one is freed
pub replaced : (s0 s1 s2 s3 : WindowState) (h n used g : ℕ) → IsHeap current s0.bytes
    → IsTrue (has_room (live_of s0.bytes) h used) → used ≤ n
    → (a : AllocatesOk current s0 s1 n Storage g) → n + 16 ≤ a.extent.len → ChangesBytes current s1 s2 g used
    → read (bytes_of s2.bytes) g used ≡ read (bytes_of s1.bytes) h used
    → Deallocates current s2 s3 h → ReplacesBlock current s0 s3 h n used g
replaced s0 s1 s2 s3 h n used g heap t f a fits c e r =
    let l : LiveSet = live_of s0.bytes in
    let y : Extent = a.extent in
    let at : g ≡ handle y = a.at in
    let q : IsRoomy l h used = roomy s0 h used heap t in
    let x : Extent = q.extent in
    let rest : List Extent = others h l.extents in
    let one : live_of s1.bytes ≡ added l y = allocated-live current s0 s1 n Storage g a in
    let two : live_of s2.bytes ≡ added l y = changed-live current s1 s2 g used c ∙ one in
    let swap : others h (insert y l.extents) ≡ insert y rest = exchange-moved l h x y heap.proper
    q.found a.live.proper in
    let k3 : KeepsBlocks s2 s3 (insert y rest) =
    subst (KeepsBlocks s2 s3) (ap (λ (s : LiveSet). others h s.extents) two ∙ swap) r.keeps in
    let alone : IsAlone 128 y l.extents = spaced-insert 128 y l.extents (live-spaced (added l y) a.live.proper) in
    let k2 : KeepsBlocks s1 s2 l.extents = written-keeps s1 s2 y l.extents g used alone c.place c.rest
    (omega (arith, at)) (omega (arith, at)) in
    let k1 : KeepsBlocks s0 s2 l.extents = keeps-trans s0 s1 s2 l.extents a.keeps k2 in
    let k : KeepsBlocks s0 s3 rest =
    keeps-trans s0 s2 s3 rest
    (keeps-of s0 s2 l.extents rest k1
    (λ b. (in_use-all (SameBlock (bytes_of s0.bytes) (bytes_of s2.bytes)) l h x heap.proper q.found b).1))
    (keeps-of s2 s3 (insert y rest) rest k3
    (λ b. (all_of-insert (SameBlock (bytes_of s2.bytes) (bytes_of s3.bytes)) y rest b).1)) in
    let own : SameBlock (bytes_of s2.bytes) (bytes_of s3.bytes) y =
    (all_of-insert (SameBlock (bytes_of s2.bytes) (bytes_of s3.bytes)) y rest k3.blocks).0 in
    let was : SameBlock (bytes_of s0.bytes) (bytes_of s1.bytes) x =
    (in_use-all (SameBlock (bytes_of s0.bytes) (bytes_of s1.bytes)) l h x heap.proper q.found a.keeps.blocks).0 in
    let big : used + 16 ≤ x.len = q.room in
    let here : handle x ≡ h = q.at in
    let live : EncodesLiveSet current s3.bytes (exchanged l (x ∷ []) (y ∷ [])) =
    subst (EncodesLiveSet current s3.bytes) (ap (λ s. released s h) two
    ∙ ap (λ xs. let s : LiveSet = record l { extents = xs } in s)
    (swap ∙ ap (λ k. insert y (others k l.extents)) (sym here))) r.live in
    record {
      extent = y;
      placed = a.placed;
      at = at;
      change = λ z found. let same : x ≡ z = same_Some _ _ (sym q.found ∙ found) in
          record {
            live = subst (λ (z : Extent). EncodesLiveSet current s3.bytes (exchanged l (z ∷ []) (y ∷ []))) same live;
            keeps = subst (λ (z : Extent). KeepsBlocks s0 s3 (others (handle z) l.extents)) same
                (subst (λ k. KeepsBlocks s0 s3 (others k l.extents)) (sym here) k);
          };
      carried = SameBytes-read (bytes_of s2.bytes) (bytes_of s3.bytes) (handle y) (end_of y) (handle y) used own.payload
          (omega arith) (omega arith)
          ∙ ap (λ k. read (bytes_of s2.bytes) k used) (sym at) ∙ e
          ∙ SameBytes-read (bytes_of s0.bytes) (bytes_of s1.bytes) (handle x) (end_of x) h used was.payload
          (omega arith) (omega arith);
    }

-- ---- the block of a request

-- an allocated block has the requested length, and its tags
pub allocated-fits : (old mid : WindowState) (n h : ℕ) → (a : AllocatesOk current old mid n Storage h)
    → n + 16 ≤ a.extent.len
allocated-fits old mid n h a =
    leb-true (n + 16) a.extent.len (place-holds (live_of old.bytes) n Storage a.extent a.placed)

-- ---- regrowing

-- a block that has the room stays
pub given-same : (c : WindowState) (h n used : ℕ) → IsHeap current c.bytes
    → IsTrue (has_room (live_of c.bytes) h used) → (r : ℕ)
    → option_map (λ (x : Extent). x.len - 16) (extent_at (live_of c.bytes) h) ≡ Some r → n ≤ r
    → RegrowsOk current c c (extent_at (live_of c.bytes) h) n used h
unfolding regrow
given-same c h n used heap t r e f =
    let q : IsRoomy (live_of c.bytes) h used = roomy c h used heap t in
    let x : Extent = q.extent in
    let has : used + 16 ≤ x.len = q.room in
    let is : Some (x.len - 16) ≡ Some r = ap (option_map (λ (x : Extent). x.len - 16)) (sym q.found) ∙ e in
    let long : x.len - 16 ≡ r = cc in
    let l : LiveSet = live_of c.bytes in
    let given : RegrowsOk current c c (Some x) n used h = record {
      extent = x;
      regrown = ap (λ b. if b then Some x else elim (longer l x n) as (λ _. Option Extent) [
        | Some y ↦ Some y
        | None ↦ place l n Storage
      ]) (le-leb (n + 16) x.len (omega (arith, long, f, has)));
      at = sym q.at;
      change = record {
        live = subst (EncodesLiveSet current c.bytes) (sym (exchange-back l h x heap.proper q.found)) heap;
        keeps = keeps-refl c (others (handle x) l.extents);
      };
      carried = refl;
      same = λ f. refl;
    } in
    subst (λ o. RegrowsOk current c c o n used h) (sym q.found) given

-- a block that has not the room
record IsShort (c : WindowState) (h n used : ℕ) : Type 0 where
  roomy : IsRoomy (live_of c.bytes) h used
  short : holds roomy.extent n ≡ false

is_short : (c : WindowState) (h n used : ℕ) → IsHeap current c.bytes → IsTrue (has_room (live_of c.bytes) h used)
    → (r : ℕ)
    → option_map (λ (x : Extent). x.len - 16) (extent_at (live_of c.bytes) h) ≡ Some r → r < n → IsShort c h n used
is_short c h n used heap t r e f =
    let q : IsRoomy (live_of c.bytes) h used = roomy c h used heap t in
    let x : Extent = q.extent in
    let is : Some (x.len - 16) ≡ Some r = ap (option_map (λ (x : Extent). x.len - 16)) (sym q.found) ∙ e in
    let long : x.len - 16 ≡ r = cc in
    let has : used + 16 ≤ x.len = q.room in
    record { roomy = q; short = lt-leb (n + 16) x.len (omega (arith, long, f, has)) }

-- a new block differs from each block in use
placed-other : (l : LiveSet) (h n : ℕ) (x y : Extent) → IsTrue (is_proper l) → extent_at l h ≡ Some x
    → place l n Storage ≡ Some y → Some x ≡ Some y → ⊥
placed-other l h n x y proper found e same =
    let up = live-rises (added l y) (placed_is_proper l n Storage y proper e) in
    let differs = (rising-insert 128 y l.extents up).differs in
    (in_use-all (λ (z : Extent). y.offset ≢ z.offset) l h x proper found differs).0
    (ap (λ (z : Extent). z.offset) (sym (same_Some x y same)))

-- a block that is too short is lengthened, or replaced
pub regrow-short : (l : LiveSet) (x : Extent) (n : ℕ) (o : Option Extent) → holds x n ≡ false → longer l x n ≡ o
    → regrow l (Some x) n ≡ elim o as (λ _. Option Extent) [ Some y ↦ Some y | None ↦ place l n Storage ]
unfolding regrow
regrow-short l x n o e f = λ i. if e i then Some x else elim (f i) as (λ _. Option Extent) [
  | Some y ↦ Some y
  | None ↦ place l n Storage
]

-- the block that was found is lengthened, if the result is true
pub record IsLengthened (old new : WindowState) (x : Extent) (n : ℕ) : Type 0 where
  pub after : Extent
  pub longer : longer (live_of old.bytes) x n ≡ Some after
  pub resized : ResizesBlock current old new x after

-- a block that was lengthened in place
pub lengthened_at : (old new : WindowState) (h n : ℕ) (result : Bool) (x : Extent)
    → extent_at (live_of old.bytes) h ≡ Some x
    → TryExtends current old new h n result → result ≡ true → IsLengthened old new x n
lengthened_at old new h n result x found e is = by_or (longer (live_of old.bytes) x n) refl
  where
    same : e.extent ≡ x
    same = same_Some _ _ (sym e.found ∙ found)

    by_or : (o : Option Extent) → longer (live_of old.bytes) x n ≡ o → IsLengthened old new x n
    by_or None f = absurd (both_ways result (e.refused (ap (λ z. longer (live_of old.bytes) z n) same ∙ f)).0 is)
    by_or (Some y) f = record {
      after = y;
      longer = f;
      resized = subst (λ z. ResizesBlock current old new z y) same
          (e.lengthened y (ap (λ z. longer (live_of old.bytes) z n) same ∙ f)).1;
    }

-- and else nothing changes
pub not_lengthened : (old new : WindowState) (h n : ℕ) (result : Bool) (x : Extent)
    → extent_at (live_of old.bytes) h ≡ Some x
    → TryExtends current old new h n result → result ≡ false
    → (longer (live_of old.bytes) x n ≡ None) × (new ≡ old)
not_lengthened old new h n result x found e was = by_or (longer (live_of old.bytes) x n) refl
  where
    same : e.extent ≡ x
    same = same_Some _ _ (sym e.found ∙ found)

    by_or : (o : Option Extent) → longer (live_of old.bytes) x n ≡ o
        → (longer (live_of old.bytes) x n ≡ None) × (new ≡ old)
    by_or None f = (f, (e.refused (ap (λ z. longer (live_of old.bytes) z n) same ∙ f)).1)
    by_or (Some y) f =
        absurd (both_ways result was (e.lengthened y (ap (λ z. longer (live_of old.bytes) z n) same ∙ f)).0)

-- a block that was lengthened
pub given-longer : (old new : WindowState) (h n used : ℕ) (result : Bool) → IsHeap current old.bytes
    → IsTrue (has_room (live_of old.bytes) h used) → (r : ℕ)
    → option_map (λ (x : Extent). x.len - 16) (extent_at (live_of old.bytes) h) ≡ Some r → r < n
    → TryExtends current old new h n result → result ≡ true
    → RegrowsOk current old new (extent_at (live_of old.bytes) h) n used h
given-longer old new h n used result heap t r e f ext is =
    let q : IsShort old h n used = is_short old h n used heap t r e f in
    let l : LiveSet = live_of old.bytes in
    let x : Extent = q.roomy.extent in
    let a = lengthened_at old new h n result x q.roomy.found ext is in
    let y : Extent = a.after in
    let g = longer-IsLonger l x y n a.longer in
    let begins = g.begins in let long = g.more in let at = q.roomy.at in let big = q.roomy.room in
    subst (λ o. RegrowsOk current old new o n used h) (sym q.roomy.found) (record {
      extent = y;
      regrown = regrow-short l x n (Some y) q.short a.longer;
      at = omega (arith, begins, at);
      change = record {
        live = subst (EncodesLiveSet current new.bytes)
            (ap (λ k. let s : LiveSet = record l { extents = insert y (others (k + 16) l.extents) } in s) begins)
            a.resized.live;
        keeps = a.resized.keeps;
      };
      carried = ap (λ k. read (bytes_of new.bytes) (k + 16) used) begins
          ∙ SameBytes-read (bytes_of old.bytes) (bytes_of new.bytes) (handle x) (x.offset + min x.len y.len)
          (handle x) used
          a.resized.still.payload (omega arith) (omega arith);
      same = λ f. let is = ap (λ (z : Extent). z.len) (same_Some x y f) in absurd (omega arith);
    })

-- a block that was not lengthened is as it was
pub not_longer-same : (old new : WindowState) (h n used : ℕ) (result : Bool) → IsHeap current old.bytes
    → IsTrue (has_room (live_of old.bytes) h used) → (r : ℕ)
    → option_map (λ (x : Extent). x.len - 16) (extent_at (live_of old.bytes) h) ≡ Some r → r < n
    → TryExtends current old new h n result → result ≡ false → new ≡ old
not_longer-same old new h n used result heap t r e f x was =
    let q = roomy old h used heap t in (not_lengthened old new h n result q.extent q.found x was).1

given-replaced : {E : Type 0} → (old new : WindowState) (h n used : ℕ) (x : Extent) (r : Result ℕ E)
    → IsHeap current old.bytes
    → extent_at (live_of old.bytes) h ≡ Some x → handle x ≡ h → holds x n ≡ false
    → longer (live_of old.bytes) x n ≡ None
    → Replaces current old new h n used r → MatchResult r (RegrowsOk current old new (Some x) n used)
    (λ e. RegrowsNoSpace old new (Some x) n)
given-replaced old new h n used x (Ok g) heap found at e f p = record {
  extent = p.extent;
  regrown = regrow-short (live_of old.bytes) x n None e f ∙ p.placed;
  at = p.at;
  change = p.change x found;
  carried = p.carried ∙ ap (λ k. read (bytes_of old.bytes) k used) (sym at);
  same = λ g. absurd (placed-other (live_of old.bytes) h n x p.extent heap.proper found p.placed g);
}
given-replaced old new h n used x (Err e') heap found at e f p =
    record { none = regrow-short (live_of old.bytes) x n None e f ∙ p.none; same = p.same }

-- a block that was replaced
pub regrows-replaced : {E : Type 0} → (old mid new : WindowState) (h n used : ℕ) (result : Bool) (res : Result ℕ E)
    → IsHeap current old.bytes → IsTrue (has_room (live_of old.bytes) h used) → (r : ℕ)
    → option_map (λ (x : Extent). x.len - 16) (extent_at (live_of old.bytes) h) ≡ Some r → r < n
    → TryExtends current old mid h n result → result ≡ false
    → Replaces current mid new h n used res → Regrows current old new (Some h) n used res
regrows-replaced old mid new h n used result res heap t r e f x was p =
    let q : IsShort old h n used = is_short old h n used heap t r e f in
    let both = not_lengthened old mid h n result q.roomy.extent q.roomy.found x was in
    let p' : Replaces current old new h n used res =
    subst (λ (c : WindowState). Replaces current c new h n used res) both.1 p in
    subst (λ o. MatchResult res (RegrowsOk current old new o n used) (λ e. RegrowsNoSpace old new o n))
    (sym q.roomy.found)
    (given-replaced old new h n used q.roomy.extent res heap q.roomy.found q.roomy.at q.short both.0 p')

-- a new block where there was none before
pub regrows-none : {E : Type 0} → (old new : WindowState) (n used : ℕ) (r : Result ℕ E)
    → Allocates current old new n Storage r → Regrows current old new None n used r
unfolding regrow
regrows-none old new n used (Ok h) a = record {
  extent = a.extent;
  regrown = a.placed;
  at = a.at;
  change = record { live = a.live; keeps = a.keeps };
  carried = tt;
  same = λ e. absurd (none-some a.extent e);
}
regrows-none old new n used (Err e) a = record { none = a.none; same = a.same }

-- ---- bytes written in a block that stayed

same-but : (m m' : Memory) (from n : ℕ) (x : Extent) → SameBlock m m' x → SameBlockExcept m m' from n x
same-but m m' from n x s = record { payload = λ k f g h. s.payload.at k f g; colour = s.colour }

-- blocks that stay stay but for a range
pub all-same-but : (m m' : Memory) (from n : ℕ) (xs : List Extent) → AllByRecursion (SameBlock m m') xs
    → AllByRecursion (SameBlockExcept m m' from n) xs
all-same-but m m' from n [] s = tt
all-same-but m m' from n (x ∷ xs) s = (same-but m m' from n x s.0, all-same-but m m' from n xs s.1)

-- blocks that stay, and then stay but for a range, stay but for it
pub but-trans : (a b c : Memory) (from n : ℕ) (xs : List Extent) → AllByRecursion (SameBlock a b) xs
    → AllByRecursion (SameBlockExcept b c from n) xs → AllByRecursion (SameBlockExcept a c from n) xs
but-trans a b c from n [] p q = tt
but-trans a b c from n (x ∷ xs) p q = (
  record { payload = λ k f g h. q.0.payload k f g h ∙ p.0.payload.at k f g; colour = q.0.colour ∙ p.0.colour },
  but-trans a b c from n xs p.1 q.1,
)

-- the block that is written in
own-but : (m m' : Memory) (from n : ℕ) (x : Extent) → SameBytesExcept m m' from n → handle x ≤ from
    → SameBlockExcept m m' from n x
own-but m m' from n x s f = record {
  payload = λ k a b h. s.at k h;
  colour = ap (λ w. w % 16) (SameBytesExcept-word m m' from n (x.offset + 8) s (inl (omega arith)));
}

-- all blocks of a heap in which bytes are written in one
pub written-but : (mid new : WindowState) (l : LiveSet) (h from n : ℕ) (x : Extent) → IsTrue (is_proper l)
    → extent_at l h ≡ Some x → ChangesBytes current mid new from n → handle x ≤ from → from + n ≤ end_of x
    → AllByRecursion (SameBlockExcept (bytes_of mid.bytes) (bytes_of new.bytes) from n) l.extents
written-but mid new l h from n x p e c f g =
    let m : Memory = bytes_of mid.bytes in
    let m' : Memory = bytes_of new.bytes in
    let k : KeepsBlocks mid new (others h l.extents) = written-keeps mid new x (others h l.extents) from n
    (in_use-alone l h x p e) c.place c.rest f g in
    subst (AllByRecursion (SameBlockExcept m m' from n)) (sym (in_use l h x p e).is)
    (AllByRecursion-insert_from (SameBlockExcept m m' from n) x (others h l.extents) (own-but m m' from n x c.rest f)
    (all-same-but m m' from n (others h l.extents) k.blocks))

-- ---- the result of regrowth

serves-of : (y : Extent) (n : ℕ) → IsTrue (same_role y.role Storage) → n + 16 ≤ y.len → IsTrue (serves y Storage n)
serves-of y n e f = and_from (same_role y.role Storage) (holds y n) e (le-leb (n + 16) y.len f)

regrow-serves-longer : (l : LiveSet) (x y : Extent) (n : ℕ) → IsTrue (same_role x.role Storage) → (o : Option Extent)
    → longer l x n ≡ o → elim o as (λ _. Option Extent) [ Some y ↦ Some y | None ↦ place l n Storage ] ≡ Some y
    → IsTrue (serves y Storage n)
regrow-serves-longer l x y n r None e f = place-serves l n Storage y f
regrow-serves-longer l x y n r (Some z) e f =
    let g = longer-IsLonger l x z n e in
    subst (λ (w : Extent). IsTrue (serves w Storage n)) (same_Some _ _ f)
    (serves-of z n (subst (λ role. IsTrue (same_role role Storage)) (sym g.role) r) g.holds)

regrow-serves-if : (l : LiveSet) (x y : Extent) (n : ℕ) → IsTrue (same_role x.role Storage) → (b : Bool) → holds x n ≡ b
    → (if b then Some x else elim (longer l x n) as (λ _. Option Extent) [
      | Some y ↦ Some y
      | None ↦ place l n Storage
    ]) ≡ Some y → IsTrue (serves y Storage n)
regrow-serves-if l x y n r true e f = subst (λ (w : Extent). IsTrue (serves w Storage n)) (same_Some _ _ f)
    (serves-of x n r (leb-true (n + 16) x.len e))
regrow-serves-if l x y n r false e f = regrow-serves-longer l x y n r (longer l x n) refl f

-- the block serves as storage for this many bytes
pub regrow-serves : (l : LiveSet) (o : Option Extent) (y : Extent) (n : ℕ)
    → IfSome o (λ x. IsTrue (same_role x.role Storage)) → regrow l o n ≡ Some y → IsTrue (serves y Storage n)
unfolding regrow
regrow-serves l None y n r e = place-serves l n Storage y e
regrow-serves l (Some x) y n r e = regrow-serves-if l x y n r (holds x n) refl e
