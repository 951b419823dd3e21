-- Gaps that stay: no byte of them changes if bytes of the header or of one block's payload change.
use Rattle.best_fit.proofs.Common.{◌≡◌, refl, subst, ℕ, ◌+◌, ◌-◌, ◌≤◌, ◌⊎◌, inl, inr, Bool, true, false, List, [], ◌∷◌}
use Rattle.best_fit.proofs.Common.{arith, nat_lt, ◌==◌, ◌&&◌, if◌then◌else◌, IsTrue, list_any, false≢true, or_cases}
use Rattle.best_fit.proofs.Common.{and_parts, eqb-true, leb-true, ltb-true, AllByRecursion, Memory, WindowState}
use Rattle.best_fit.proofs.Common.{SameBytes, SameBytesExcept, bytes_of, SameBytes-refl, SameBytes-trans, current}
use Rattle.best_fit.proofs.Common.{Extent, Gap, LiveSet, end_of, gap_between, gaps, gaps_from, handle, holds}
use Rattle.best_fit.proofs.Common.{proper_from, ChangesBytes, has_room, live_of}
use Rattle.best_fit.specs.Heap.{KeepsGaps}
use Rattle.best_fit.proofs.allocation.NewBlock.{changed-live, has_room-names}
use Rattle.best_fit.proofs.extents.Changes.{is_proper-IsProper}
use Rattle.best_fit.proofs.extents.Proper.{IsFirst, proper_from-IsFirst, proper_from-names}
use Rattle.best_fit.proofs.tags.UnchangedTags.{all_joined}

-- the bytes of a gap stay
abbrev SameGap : Memory → Memory → Gap → Type 0
SameGap m m' g = SameBytes m m' g.offset (g.offset + g.len)

-- the bytes between two offsets stay if only bytes below or after them change
between : (m m' : Memory) (at n a b : ℕ) → SameBytesExcept m m' at n → (at + n ≤ a) ⊎ (b ≤ at)
    → AllByRecursion (SameGap m m') (gap_between a b)
between m m' at n a b same beside = by_test (nat_lt a b) refl beside
  where
    by_test : (t : Bool) → nat_lt a b ≡ t → (at + n ≤ a) ⊎ (b ≤ at)
        → AllByRecursion (SameGap m m') (if t then record { offset = a; len = b - a } ∷ [] else [])
    by_test false e h = tt
    by_test true e (inl l) =
        let less = ltb-true a b e in (record { at = λ k low high. same.at k (inr (omega arith)) }, tt)
    by_test true e (inr l) =
        let less = ltb-true a b e in (record { at = λ k low high. same.at k (inl (omega arith)) }, tt)

-- the gaps after the bytes that change
above : (m m' : Memory) (at n from : ℕ) (xs : List Extent) (to : ℕ) → SameBytesExcept m m' at n → at + n ≤ from
    → IsTrue (proper_from from xs to) → AllByRecursion (SameGap m m') (gaps_from from xs to)
above m m' at n from [] to same l p = between m m' at n from to same (inl l)
above m m' at n from (x ∷ xs) to same l p =
    let f = proper_from-IsFirst from x xs to p in let hole = f.hole in let long = f.block.long in
    all_joined (SameGap m m') (gap_between from x.offset) (gaps_from (end_of x) xs to)
    (between m m' at n from x.offset same (inl l)) (above m m' at n (end_of x) xs to same (omega arith) f.rest)

-- the extent of this handle has room for k bytes
abbrev has : ℕ → ℕ → Extent → Bool
has h k x = (handle x == h) && holds x k

-- the gaps around the block whose payload changes
around : (m m' : Memory) (at n h k from : ℕ) (xs : List Extent) (to : ℕ) → SameBytesExcept m m' at n → h ≤ at
    → at + n ≤ h + k → IsTrue (proper_from from xs to) → IsTrue (list_any (has h k) xs)
    → AllByRecursion (SameGap m m') (gaps_from from xs to)
around m m' at n h k from [] to same begins ends p t = absurd (false≢true t)
around m m' at n h k from (x ∷ xs) to same begins ends p t =
    let f = proper_from-IsFirst from x xs to p in
    by_case f (or_cases (has h k x) (list_any (has h k) xs) t)
    (λ later. around m m' at n h k (end_of x) xs to same begins ends f.rest later)
  where
    by_case : IsFirst from x xs to → (has h k x ≡ true) ⊎ (list_any (has h k) xs ≡ true)
        → (IsTrue (list_any (has h k) xs) → AllByRecursion (SameGap m m') (gaps_from (end_of x) xs to))
        → AllByRecursion (SameGap m m') (gaps_from from (x ∷ xs) to)
    by_case f (inl here) rest =
        let two = and_parts (handle x == h) (holds x k) here in
        let is = eqb-true (handle x) h two.0 in let room = leb-true (k + 16) x.len two.1 in
        all_joined (SameGap m m') (gap_between from x.offset) (gaps_from (end_of x) xs to)
        (between m m' at n from x.offset same (inr (omega arith)))
        (above m m' at n (end_of x) xs to same (omega arith) f.rest)
    by_case f (inr later) rest =
        let long = f.block.long in
        let beyond = proper_from-names (end_of x) xs to h f.rest (has_room-names h k xs later) in
        all_joined (SameGap m m') (gap_between from x.offset) (gaps_from (end_of x) xs to)
        (between m m' at n from x.offset same (inr (omega arith))) (rest later)

-- ---- the laws

-- bytes of the payload of a block in use change
pub gaps-payload : (old new : WindowState) (h k from n : ℕ) → ChangesBytes current old new from n
    → IsTrue (has_room (live_of old.bytes) h k) → h ≤ from → from + n ≤ h + k → KeepsGaps old new
unfolding gaps
gaps-payload old new h k from n c room begins ends =
    let live = live_of old.bytes in let p = is_proper-IsProper live c.live.proper in
    record {
      each = around (bytes_of old.bytes) (bytes_of new.bytes) from n h k 128 live.extents (live.size - 16) c.rest begins
          ends p.list room;
    }

-- bytes of the header change
pub gaps-header : (old new : WindowState) (from n : ℕ) → ChangesBytes current old new from n → from + n ≤ 128
    → KeepsGaps old new
unfolding gaps
gaps-header old new from n c ends =
    let live = live_of old.bytes in let p = is_proper-IsProper live c.live.proper in
    record {
      each = above (bytes_of old.bytes) (bytes_of new.bytes) from n 128 live.extents (live.size - 16) c.rest ends
          p.list;
    }

all-refl : (m : Memory) (gs : List Gap) → AllByRecursion (SameGap m m) gs
all-refl m [] = tt
all-refl m (g ∷ gs) = (SameBytes-refl m g.offset (g.offset + g.len), all-refl m gs)

all-trans : (a b c : Memory) (gs : List Gap) → AllByRecursion (SameGap a b) gs → AllByRecursion (SameGap b c) gs
    → AllByRecursion (SameGap a c) gs
all-trans a b c [] p q = tt
all-trans a b c (g ∷ gs) p q =
    (SameBytes-trans a b c g.offset (g.offset + g.len) p.0 q.0, all-trans a b c gs p.1 q.1)

-- nothing changes
pub gaps-refl : (c : WindowState) → KeepsGaps c c
gaps-refl c = record { each = all-refl (bytes_of c.bytes) (gaps (live_of c.bytes)) }

-- one change after another, with the same blocks in use between them
pub gaps-trans : (a b c : WindowState) → live_of b.bytes ≡ live_of a.bytes → KeepsGaps a b → KeepsGaps b c
    → KeepsGaps a c
gaps-trans a b c e p q = record {
  each = all-trans (bytes_of a.bytes) (bytes_of b.bytes) (bytes_of c.bytes) (gaps (live_of a.bytes)) p.each
      (subst (λ (l : LiveSet). AllByRecursion (SameGap (bytes_of b.bytes) (bytes_of c.bytes)) (gaps l)) e q.each);
}

-- after a change of bytes
pub gaps-then : (a b c : WindowState) (from n : ℕ) → ChangesBytes current a b from n → KeepsGaps a b → KeepsGaps b c
    → KeepsGaps a c
gaps-then a b c from n x p q = gaps-trans a b c (changed-live current a b from n x) p q

free-all : (m : Memory) (gs : List Gap)
    → AllByRecursion (λ (g : Gap). SameBytes m m (g.offset + 32) (g.offset + g.len)) gs
free-all m [] = tt
free-all m (g ∷ gs) = (SameBytes-refl m (g.offset + 32) (g.offset + g.len), free-all m gs)

-- the free bytes of gaps, if nothing changes
pub free-refl : (c : WindowState)
    → AllByRecursion (λ (g : Gap). SameBytes (bytes_of c.bytes) (bytes_of c.bytes) (g.offset + 32)
    (g.offset + g.len)) (gaps (live_of c.bytes))
free-refl c = free-all (bytes_of c.bytes) (gaps (live_of c.bytes))
