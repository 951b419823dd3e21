-- Extents inserted by offset, and their spacing: the order of insertions does not matter, an inserted extent can be
-- removed, and all extents are apart.
use Rattle.best_fit.proofs.Common.{◌≡◌, refl, sym, ap, subst, ◌∙◌, ℕ, ◌+◌, ◌-◌, ◌%◌, ◌<◌, ◌≤◌, ◌≢◌, Bool, true, false}
use Rattle.best_fit.proofs.Common.{◌&&◌, ◌==◌, Some, None, List, [], ◌∷◌, arith, if◌then◌else◌, inl, inr, IsTrue}
use Rattle.best_fit.proofs.Common.{nat_lt, ⊤, find, AllByRecursion, list_any, and_parts, leb-true, eqb-true, eq-eqb}
use Rattle.best_fit.proofs.Common.{ne_eqb, le-leb, and_from, or_left, or_right, or_cases, SameBytesExcept-SameBytes}
use Rattle.best_fit.proofs.Common.{SameBytesExcept-word, Memory, WindowState, SameBytesExcept, SameSurroundings}
use Rattle.best_fit.proofs.Common.{bytes_of, inserted, without_all, exchanged, Extent, LiveSet, handle, end_of, holds}
use Rattle.best_fit.proofs.Common.{is_hole, is_proper, proper_from, is_legal_size, insert, others, added, SameBlock}
use Rattle.best_fit.proofs.Common.{KeepsBlocks, extent_at, has_room}
use Rattle.std.proofs.Common.{cond}
use Rattle.best_fit.proofs.extents.Order.{AllByRecursion-insert_from, insert-comm}
use Rattle.best_fit.proofs.extents.Proper.{is_hole-IsHole, insert-here, insert-past, others-here, others-past}
use Rattle.best_fit.proofs.extents.Proper.{proper_from-IsFirst}

-- ---- extents at different offsets

-- no extent of the list begins at this extent's offset
abbrev pub Differs : Extent → List Extent → Type 0
Differs x = AllByRecursion (λ (y : Extent). x.offset ≢ y.offset)

-- no two extents of both lists begin at one offset
abbrev pub Apart : List Extent → List Extent → Type 0
Apart xs ys = AllByRecursion (λ x. Differs x ys) xs

-- each begins after where the one before begins, and the first at n or after
abbrev pub Rising : ℕ → List Extent → Type 0
Rising n [] = ⊤
Rising n (x ∷ xs) = (n ≤ x.offset) × Rising (x.offset + 1) xs

-- ---- putting in

-- one extent before or after some others
pub insert-inserted : (x : Extent) (ys zs : List Extent) → Differs x ys
    → insert x (inserted ys zs) ≡ inserted ys (insert x zs)
insert-inserted x [] zs n = refl
insert-inserted x (y ∷ ys) zs n = insert-comm x y (inserted ys zs) n.0 ∙ ap (insert y) (insert-inserted x ys zs n.1)

-- two lists of extents, in either order
pub inserted-comm : (xs ys zs : List Extent) → Apart xs ys → inserted xs (inserted ys zs) ≡ inserted ys (inserted xs zs)
inserted-comm [] ys zs n = refl
inserted-comm (x ∷ xs) ys zs n = ap (insert x) (inserted-comm xs ys zs n.1) ∙ insert-inserted x ys (inserted xs zs) n.0

-- ---- properties of each extent

all_of-if : (P : Extent → Type 0) (b : Bool) (x z : Extent) (zs ws : List Extent)
    → (AllByRecursion P ws → P x × AllByRecursion P zs)
    → AllByRecursion P (if b then x ∷ z ∷ zs else z ∷ ws) → P x × AllByRecursion P (z ∷ zs)
all_of-if P true x z zs ws k h = (h.0, h.1)
all_of-if P false x z zs ws k h = ((k h.1).0, (h.0, (k h.1).1))

-- a property of all extents with one more holds for the new one and for the others
pub all_of-insert : (P : Extent → Type 0) (x : Extent) (zs : List Extent) → AllByRecursion P (insert x zs)
    → P x × AllByRecursion P zs
all_of-insert P x [] h = h
all_of-insert P x (z ∷ zs) h = all_of-if P (nat_lt x.offset z.offset) x z zs (insert x zs) (all_of-insert P x zs) h

-- the same for several insertions
pub all_of-inserted : (P : Extent → Type 0) (xs zs : List Extent) → AllByRecursion P (inserted xs zs)
    → AllByRecursion P xs × AllByRecursion P zs
all_of-inserted P [] zs h = (tt, h)
all_of-inserted P (x ∷ xs) zs h =
    let outer : P x × AllByRecursion P (inserted xs zs) = all_of-insert P x (inserted xs zs) h in
    let inner : AllByRecursion P xs × AllByRecursion P zs = all_of-inserted P xs zs outer.1 in
    ((outer.0, inner.0), inner.1)

-- ---- rising

-- a list that rises from a place rises from an earlier one
pub rising-weak : (m n : ℕ) (xs : List Extent) → m ≤ n → Rising n xs → Rising m xs
rising-weak m n [] f h = h
rising-weak m n (x ∷ xs) f h = (omega (arith, h.0), h.1)

rising-differs : (x : Extent) (n : ℕ) (zs : List Extent) → x.offset < n → Rising n zs → Differs x zs
rising-differs x n [] f h = tt
rising-differs x n (z ∷ zs) f h =
    ((λ e. omega (arith, h.0)), rising-differs x (z.offset + 1) zs (omega (arith, h.0)) h.1)

-- a hole ends where it begins or later
pub hole-order : (a b : ℕ) → IsTrue (is_hole a b) → a ≤ b
hole-order a b h = let hole = is_hole-IsHole a b h in omega arith

-- extents that are apart rise
pub proper-rises : (from : ℕ) (xs : List Extent) (to : ℕ) → IsTrue (proper_from from xs to) → Rising from xs
proper-rises from [] to h = tt
proper-rises from (x ∷ xs) to h =
    let f = proper_from-IsFirst from x xs to h in
    let hole = f.hole in let long = f.block.long in
    (omega arith, rising-weak (x.offset + 1) (end_of x) xs (omega arith) (proper-rises (end_of x) xs to f.rest))

-- the same for a live set
pub live-rises : (l : LiveSet) → IsTrue (is_proper l) → Rising 128 l.extents
unfolding is_proper
live-rises l h = proper-rises 128 l.extents (l.size - 16) (and_parts (is_legal_size l.size) _ h).1

-- removing extents from a rising list keeps it rising, and all of it differs from the inserted extents
pub record IsFresh (n : ℕ) (x : Extent) (zs : List Extent) : Type 0 where
  pub from : n ≤ x.offset
  pub rest : Rising n zs
  pub differs : Differs x zs

fresh-if : (n : ℕ) (b : Bool) (x z : Extent) (zs ws : List Extent)
    → (Rising (z.offset + 1) ws → IsFresh (z.offset + 1) x zs)
    → Rising n (if b then x ∷ z ∷ zs else z ∷ ws) → IsFresh n x (z ∷ zs)
fresh-if n true x z zs ws k h = record {
  from = h.0;
  rest = (omega (arith, h.0, h.1.0), h.1.1);
  differs = ((λ e. omega (arith, h.1.0)), rising-differs x (z.offset + 1) zs (omega (arith, h.1.0)) h.1.1);
}
fresh-if n false x z zs ws k h =
    let below : IsFresh (z.offset + 1) x zs = k h.1 in
    record {
      from = omega (arith, h.0, below.from);
      rest = (h.0, below.rest);
      differs = ((λ e. omega (arith, below.from)), below.differs);
    }

-- an extent in a list that rises is fresh among the others
pub rising-insert : (n : ℕ) (x : Extent) (zs : List Extent) → Rising n (insert x zs) → IsFresh n x zs
rising-insert n x [] h = record { from = h.0; rest = tt; differs = tt }
rising-insert n x (z ∷ zs) h = fresh-if n (nat_lt x.offset z.offset) x z zs (insert x zs)
    (rising-insert (z.offset + 1) x zs) h

-- extents in a list that rises are apart from the others, which rise
pub rising-inserted : (n : ℕ) (xs zs : List Extent) → Rising n (inserted xs zs) → Rising n zs × Apart xs zs
rising-inserted n [] zs h = (h, tt)
rising-inserted n (x ∷ xs) zs h =
    let outer : IsFresh n x (inserted xs zs) = rising-insert n x (inserted xs zs) h in
    let inner : Rising n zs × Apart xs zs = rising-inserted n xs zs outer.rest in
    (inner.0, ((all_of-inserted (λ (y : Extent). x.offset ≢ y.offset) xs zs outer.differs).1, inner.1))

-- the inserted extents are themselves apart from the extents inserted before
pub apart-inserted : (n : ℕ) (xs ys zs : List Extent) → Rising n (inserted xs (inserted ys zs)) → Apart xs ys
apart-inserted n [] ys zs h = tt
apart-inserted n (x ∷ xs) ys zs h =
    let outer : IsFresh n x (inserted xs (inserted ys zs)) = rising-insert n x (inserted xs (inserted ys zs)) h in
    let below : Differs x (inserted ys zs) =
    (all_of-inserted (λ (y : Extent). x.offset ≢ y.offset) xs (inserted ys zs) outer.differs).1 in
    ((all_of-inserted (λ (y : Extent). x.offset ≢ y.offset) ys zs below).0, apart-inserted n xs ys zs outer.rest)

-- ---- apart

-- each begins where the one before ends, or after, and the first at n or after
abbrev pub Spaced : ℕ → List Extent → Type 0
Spaced n [] = ⊤
Spaced n (x ∷ xs) = (n ≤ x.offset) × Spaced (end_of x) xs

-- extents of a proper live set stand one after the other
pub proper-spaced : (from : ℕ) (xs : List Extent) (to : ℕ) → IsTrue (proper_from from xs to) → Spaced from xs
proper-spaced from [] to h = tt
proper-spaced from (x ∷ xs) to h =
    let f = proper_from-IsFirst from x xs to h in let hole = f.hole in
    (omega arith, proper-spaced (end_of x) xs to f.rest)

-- the same for a live set
pub live-spaced : (l : LiveSet) → IsTrue (is_proper l) → Spaced 128 l.extents
unfolding is_proper
live-spaced l h = proper-spaced 128 l.extents (l.size - 16) (and_parts (is_legal_size l.size) _ h).1

-- one of the two extents ends at or before the beginning of the other
pub data LiesBeside (x y : Extent) : Type 0 where
  -- an extent that begins after another lies beside it
  above : end_of y ≤ x.offset → LiesBeside x y
  -- an extent that ends before another lies beside it
  below : end_of x ≤ y.offset → LiesBeside x y

spaced-beside : (x : Extent) (n : ℕ) (zs : List Extent) → end_of x ≤ n → Spaced n zs → AllByRecursion (LiesBeside x) zs
spaced-beside x n [] f h = tt
spaced-beside x n (z ∷ zs) f h = (below (omega (arith, h.0)), spaced-beside x (end_of z) zs (omega (arith, h.0)) h.1)

-- an extent is apart from all others of a list
pub record IsAlone (n : ℕ) (x : Extent) (zs : List Extent) : Type 0 where
  pub from : n ≤ x.offset
  pub beside : AllByRecursion (LiesBeside x) zs

alone-if : (n : ℕ) (b : Bool) (x z : Extent) (zs ws : List Extent) → (Spaced (end_of z) ws → IsAlone (end_of z) x zs)
    → Spaced n (if b then x ∷ z ∷ zs else z ∷ ws) → IsAlone n x (z ∷ zs)
alone-if n true x z zs ws k h =
    record { from = h.0; beside = (below h.1.0, spaced-beside x (end_of z) zs (omega (arith, h.1.0)) h.1.1) }
alone-if n false x z zs ws k h =
    let rest : IsAlone (end_of z) x zs = k h.1 in
    record { from = omega (arith, h.0, rest.from); beside = (above rest.from, rest.beside) }

-- so an extent is apart from all others of its list
pub spaced-insert : (n : ℕ) (x : Extent) (zs : List Extent) → Spaced n (insert x zs) → IsAlone n x zs
spaced-insert n x [] h = record { from = h.0; beside = tt }
spaced-insert n x (z ∷ zs) h = alone-if n (nat_lt x.offset z.offset) x z zs (insert x zs)
    (spaced-insert (end_of z) x zs) h

-- ---- taking out

others-if : (b : Bool) (x z : Extent) (zs ws : List Extent) → x.offset ≢ z.offset → others (handle x) ws ≡ zs
    → others (handle x) (if b then x ∷ z ∷ zs else z ∷ ws) ≡ z ∷ zs
others-if true x z zs ws n e = others-here (handle x) x (z ∷ zs) refl
others-if false x z zs ws n e = others-past (handle x) z ws (λ f. n (omega (arith, f))) ∙ ap (λ vs. z ∷ vs) e

-- the inserted extent is the one that is removed
pub others-insert : (x : Extent) (zs : List Extent) → Differs x zs → others (handle x) (insert x zs) ≡ zs
others-insert x [] n = others-here (handle x) x [] refl
others-insert x (z ∷ zs) n = others-if (nat_lt x.offset z.offset) x z zs (insert x zs) n.0 (others-insert x zs n.1)

-- an inserted extent is removed again
pub without-inserted : (n : ℕ) (xs zs : List Extent) → Rising n (inserted xs zs) → without_all xs (inserted xs zs) ≡ zs
without-inserted n [] zs h = refl
without-inserted n (x ∷ xs) zs h =
    let outer : IsFresh n x (inserted xs zs) = rising-insert n x (inserted xs zs) h in
    ap (without_all xs) (others-insert x (inserted xs zs) outer.differs) ∙ without-inserted n xs zs outer.rest

-- ---- properties of a live set

-- an extent with a legal length, at a legal offset
pub record IsSound (x : Extent) : Type 0 where
  pub aligned : x.offset % 16 ≡ 0
  pub long : 32 ≤ x.len

pub proper-sound : (from : ℕ) (xs : List Extent) (to : ℕ) → IsTrue (proper_from from xs to) → AllByRecursion IsSound xs
proper-sound from [] to h = tt
proper-sound from (x ∷ xs) to h =
    let f = proper_from-IsFirst from x xs to h in
    (record { aligned = f.block.offset; long = f.block.long }, proper-sound (end_of x) xs to f.rest)

-- each begins at a multiple of 16
pub live-sound : (l : LiveSet) → IsTrue (is_proper l) → AllByRecursion IsSound l.extents
unfolding is_proper
live-sound l h = proper-sound 128 l.extents (l.size - 16) (and_parts (is_legal_size l.size) _ h).1

-- an extent of a handle, among the others
pub record IsAmong (h : ℕ) (x : Extent) (xs : List Extent) : Type 0 where
  pub at : handle x ≡ h
  pub is : xs ≡ insert x (others h xs)

insert-front : (x : Extent) (zs : List Extent) → Rising (x.offset + 1) zs → insert x zs ≡ x ∷ zs
insert-front x [] r = refl
insert-front x (w ∷ ws) r = insert-here x w ws (omega (arith, r.0))

among-if : (n h : ℕ) (x z : Extent) (zs : List Extent) → Rising n (z ∷ zs)
    → (find (λ (y : Extent). handle y == h) zs ≡ Some x → IsAmong h x zs) → (b : Bool) → (handle z == h) ≡ b
    → cond b (Some z) (find (λ (y : Extent). handle y == h) zs) ≡ Some x → IsAmong h x (z ∷ zs)
among-if n h x z zs r k true e f =
    let same : z ≡ x = cc in
    let at : handle z ≡ h = eqb-true (handle z) h e in
    record {
      at = ap handle (sym same) ∙ at;
      is = sym (insert-front z zs r.1) ∙ ap (λ y. insert y zs) same ∙ ap (insert x) (sym (others-here h z zs at));
    }
among-if n h x z zs r k false e f =
    let rest : IsAmong h x zs = k f in
    let n' : handle z ≢ h = λ g. cc (eq-eqb (handle z) h g) in
    let below : IsFresh (z.offset + 1) x (others h zs) = rising-insert (z.offset + 1) x (others h zs)
    (subst (Rising (z.offset + 1)) rest.is r.1) in
    record {
      at = rest.at;
      is = ap (λ ys. z ∷ ys) rest.is ∙ sym (insert-past x z (others h zs) (omega (arith, below.from)))
          ∙ ap (insert x) (sym (others-past h z zs n'));
    }

-- an extent that is found by its handle stands in the list
pub among : (n h : ℕ) (x : Extent) (xs : List Extent) → Rising n xs → find (λ (y : Extent). handle y == h) xs ≡ Some x
    → IsAmong h x xs
among n h x [] r e = absurd (cc)
among n h x (z ∷ zs) r e = among-if n h x z zs r (among (z.offset + 1) h x zs r.1) (handle z == h) refl e

-- a block of a live set
pub in_use : (l : LiveSet) (h : ℕ) (x : Extent) → IsTrue (is_proper l) → extent_at l h ≡ Some x → IsAmong h x l.extents
in_use l h x p e = among 128 h x l.extents (live-rises l p) e

-- the block is apart from the others
pub in_use-alone : (l : LiveSet) (h : ℕ) (x : Extent) → IsTrue (is_proper l) → extent_at l h ≡ Some x
    → IsAlone 128 x (others h l.extents)
in_use-alone l h x p e = spaced-insert 128 x (others h l.extents)
    (subst (Spaced 128) (in_use l h x p e).is (live-spaced l p))

-- a property of each block holds for this block and for the others
pub in_use-all : (P : Extent → Type 0) (l : LiveSet) (h : ℕ) (x : Extent) → IsTrue (is_proper l)
    → extent_at l h ≡ Some x → AllByRecursion P l.extents → P x × AllByRecursion P (others h l.extents)
in_use-all P l h x p e a = all_of-insert P x (others h l.extents) (subst (AllByRecursion P) (in_use l h x p e).is a)

abbrev with : LiveSet → List Extent → LiveSet
with l xs = record l { extents = xs }

-- a block exchanged for itself
pub exchange-back : (l : LiveSet) (h : ℕ) (x : Extent) → IsTrue (is_proper l) → extent_at l h ≡ Some x
    → exchanged l (x ∷ []) (x ∷ []) ≡ l
exchange-back l h x p e =
    let a : IsAmong h x l.extents = in_use l h x p e in
    ap (λ k. with l (insert x (others k l.extents))) a.at ∙ ap (with l) (sym a.is)

-- a new block, and then an old one released
pub exchange-moved : (l : LiveSet) (h : ℕ) (x y : Extent) → IsTrue (is_proper l) → extent_at l h ≡ Some x
    → IsTrue (is_proper (added l y)) → others h (insert y l.extents) ≡ insert y (others h l.extents)
exchange-moved l h x y p e q =
    let a : IsAmong h x l.extents = in_use l h x p e in
    let rest : List Extent = others h l.extents in
    let fresh : Differs x rest = (rising-insert 128 x rest (subst (Rising 128) a.is (live-rises l p))).differs in
    let new : Differs y (insert x rest) = subst (Differs y) a.is
    (rising-insert 128 y l.extents (live-rises (added l y) q)).differs in
    let both : (y.offset ≢ x.offset) × Differs y rest =
    all_of-insert (λ (z : Extent). y.offset ≢ z.offset) x rest new in
    let apart : Differs x (insert y rest) = AllByRecursion-insert_from (λ (z : Extent). x.offset ≢ z.offset) y rest
    (λ s. both.0 (sym s)) fresh in
    ap (λ zs. others h (insert y zs)) a.is ∙ ap (others h) (insert-comm y x rest both.0)
    ∙ ap (λ k. others k (insert x (insert y rest))) (sym a.at) ∙ others-insert x (insert y rest) apart

-- ---- room

any-if : (s t : Extent → Bool) (xs : List Extent) → ((x : Extent) → s x ≡ true → t x ≡ true)
    → list_any s xs ≡ true → list_any t xs ≡ true
any-if s t [] k h = absurd (cc)
any-if s t (x ∷ xs) k h = elim (or_cases (s x) (list_any s xs) h) [
  | inl f ↦ or_left (t x) (list_any t xs) (k x f)
  | inr f ↦ or_right (t x) (list_any t xs) (any-if s t xs k f)
]

-- a block with room has room for less
pub room-less : (l : LiveSet) (h n k : ℕ) → k ≤ n → IsTrue (has_room l h n) → IsTrue (has_room l h k)
room-less l h n k f t =
    any-if (λ (x : Extent). (handle x == h) && holds x n) (λ (x : Extent). (handle x == h) && holds x k) l.extents
    (λ x g. let two = and_parts (handle x == h) (holds x n) g in let r = leb-true (n + 16) x.len two.1 in
    and_from (handle x == h) (holds x k) two.0 (le-leb (k + 16) x.len (omega arith))) t

-- ---- the blocks that stay

beside-same : (m m' : Memory) (x y : Extent) (from n : ℕ) → SameBytesExcept m m' from n → handle x ≤ from
    → from + n ≤ end_of x → LiesBeside x y → SameBlock m m' y
beside-same m m' x y from n s f g (above h) = record {
  payload = SameBytesExcept-SameBytes m m' from n (handle y) (end_of y) s (inl (omega arith));
  colour = ap (λ w. w % 16) (SameBytesExcept-word m m' from n (y.offset + 8) s (inl (omega arith)));
}
beside-same m m' x y from n s f g (below h) = record {
  payload = SameBytesExcept-SameBytes m m' from n (handle y) (end_of y) s (inr (omega arith));
  colour = ap (λ w. w % 16) (SameBytesExcept-word m m' from n (y.offset + 8) s (inr (omega arith)));
}

all-beside : (m m' : Memory) (x : Extent) (ys : List Extent) (from n : ℕ) → SameBytesExcept m m' from n
    → handle x ≤ from → from + n ≤ end_of x
    → AllByRecursion (LiesBeside x) ys → AllByRecursion (SameBlock m m') ys
all-beside m m' x [] from n s f g h = tt
all-beside m m' x (y ∷ ys) from n s f g h =
    (beside-same m m' x y from n s f g h.0, all-beside m m' x ys from n s f g h.1)

-- bytes written in a block
pub written-keeps : (a b : WindowState) (x : Extent) (ys : List Extent) (from n : ℕ) → IsAlone 128 x ys
    → SameSurroundings a b
    → SameBytesExcept (bytes_of a.bytes) (bytes_of b.bytes) from n
    → handle x ≤ from → from + n ≤ end_of x → KeepsBlocks a b ys
written-keeps a b x ys from n alone place s f g =
    let low = alone.from in
    record {
      place = place;
      front = SameBytesExcept-SameBytes (bytes_of a.bytes) (bytes_of b.bytes) from n 0 24 s (inl (omega arith));
      behind = SameBytesExcept-SameBytes (bytes_of a.bytes) (bytes_of b.bytes) from n 32 128 s (inl (omega arith));
      blocks = all-beside (bytes_of a.bytes) (bytes_of b.bytes) x ys from n s f g alone.beside;
    }

-- a part of these blocks is kept if all are
pub keeps-of : (a b : WindowState) (xs ys : List Extent) → KeepsBlocks a b xs
    → (AllByRecursion (SameBlock (bytes_of a.bytes) (bytes_of b.bytes)) xs
    → AllByRecursion (SameBlock (bytes_of a.bytes) (bytes_of b.bytes)) ys) → KeepsBlocks a b ys
keeps-of a b xs ys k f = record { place = k.place; front = k.front; behind = k.behind; blocks = f k.blocks }

-- ---- the extents that are found

-- with another extent inserted, and with another removed
found-more-if : (t : Extent → Bool) (b : Bool) (y x z : Extent) (zs ws : List Extent) → t y ≡ false
    → (find t zs ≡ Some x → find t ws ≡ Some x) → find t (z ∷ zs) ≡ Some x
    → find t (if b then y ∷ z ∷ zs else z ∷ ws) ≡ Some x
found-more-if t true y x z zs ws n k e = ap (λ b. cond b (Some y) (find t (z ∷ zs))) n ∙ e
found-more-if t false y x z zs ws n k e = found-more-head t x z zs ws k (t z) e
  where
    found-more-head : (t : Extent → Bool) (x z : Extent) (zs ws : List Extent)
        → (find t zs ≡ Some x → find t ws ≡ Some x) → (b : Bool) → cond b (Some z) (find t zs) ≡ Some x
        → cond b (Some z) (find t ws) ≡ Some x
    found-more-head t x z zs ws k true e = e
    found-more-head t x z zs ws k false e = k e

-- an extent is still found after another is inserted
pub found-more : (h : ℕ) (y x : Extent) (zs : List Extent) → handle y ≢ h → find (λ (w : Extent). handle w == h) zs
    ≡ Some x → find (λ (w : Extent). handle w == h) (insert y zs) ≡ Some x
found-more h y x [] n e = absurd (cc)
found-more h y x (z ∷ zs) n e = found-more-if (λ (w : Extent). handle w == h) (nat_lt y.offset z.offset) y x z zs
    (insert y zs) (ne_eqb (handle y) h n) (found-more h y x zs n) e

found-less-if : (h g : ℕ) (x z : Extent) (zs : List Extent) → h ≢ g
    → (find (λ (w : Extent). handle w == h) zs ≡ Some x → find (λ (w : Extent). handle w == h) (others g zs) ≡ Some x)
    → (a b : Bool) → (handle z == h) ≡ a → (handle z == g) ≡ b
    → cond a (Some z) (find (λ (w : Extent). handle w == h) zs) ≡ Some x
    → find (λ (w : Extent). handle w == h) (if b then zs else z ∷ others g zs) ≡ Some x
found-less-if h g x z zs n k true true p q e = absurd (n (sym (eqb-true (handle z) h p) ∙ eqb-true (handle z) g q))
found-less-if h g x z zs n k false true p q e = e
found-less-if h g x z zs n k true false p q e =
    ap (λ b. cond b (Some z) (find (λ (w : Extent). handle w == h) (others g zs))) p ∙ e
found-less-if h g x z zs n k false false p q e =
    ap (λ b. cond b (Some z) (find (λ (w : Extent). handle w == h) (others g zs))) p ∙ k e

-- an extent is still found after another is removed
pub found-less : (h g : ℕ) (x : Extent) (zs : List Extent) → h ≢ g → find (λ (w : Extent). handle w == h) zs ≡ Some x
    → find (λ (w : Extent). handle w == h) (others g zs) ≡ Some x
found-less h g x [] n e = absurd (cc)
found-less h g x (z ∷ zs) n e = found-less-if h g x z zs n (found-less h g x zs n) (handle z == h)
    (handle z == g) refl refl e

found-new-if : (b : Bool) (y z : Extent) (zs ws : List Extent) → y.offset ≢ z.offset
    → find (λ (w : Extent). handle w == handle y) ws ≡ Some y
    → find (λ (w : Extent). handle w == handle y) (if b then y ∷ z ∷ zs else z ∷ ws) ≡ Some y
found-new-if true y z zs ws n e = ap (λ b. cond b (Some y) (find (λ (w : Extent). handle w == handle y) (z ∷ zs)))
    (eq-eqb (handle y) (handle y) refl)
found-new-if false y z zs ws n e = ap (λ b. cond b (Some z) (find (λ (w : Extent). handle w == handle y) ws))
    (ne_eqb (handle z) (handle y) (λ f. n (omega (arith, f)))) ∙ e

-- the inserted extent is found
pub found-new : (y : Extent) (zs : List Extent) → Differs y zs
    → find (λ (w : Extent). handle w == handle y) (insert y zs) ≡ Some y
found-new y [] n = ap (λ b. cond b (Some y) None) (eq-eqb (handle y) (handle y) refl)
found-new y (z ∷ zs) n = found-new-if (nat_lt y.offset z.offset) y z zs (insert y zs) n.0 (found-new y zs n.1)

-- an extent that is found with its length has the room
found-room_in : (h n : ℕ) (x : Extent) (zs : List Extent) → find (λ (w : Extent). handle w == h) zs ≡ Some x
    → n + 16 ≤ x.len → IsTrue (list_any (λ (w : Extent). (handle w == h) && holds w n) zs)
found-room_in h n x [] e f = absurd (cc)
found-room_in h n x (z ∷ zs) e f = found-room-if h n x z zs (found-room_in h n x zs) f (handle z == h) refl e
  where
    found-room-if : (h n : ℕ) (x z : Extent) (zs : List Extent)
        → (find (λ (w : Extent). handle w == h) zs ≡ Some x → n + 16 ≤ x.len
        → IsTrue (list_any (λ (w : Extent). (handle w == h) && holds w n) zs))
        → n + 16 ≤ x.len → (b : Bool) → (handle z == h) ≡ b
        → cond b (Some z) (find (λ (w : Extent). handle w == h) zs) ≡ Some x
        → IsTrue (list_any (λ (w : Extent). (handle w == h) && holds w n) (z ∷ zs))
    found-room-if h n x z zs k f true p e =
        let same : x ≡ z = cc in
        or_left ((handle z == h) && holds z n) (list_any (λ (w : Extent). (handle w == h) && holds w n) zs)
        (and_from (handle z == h) (holds z n) p (le-leb (n + 16) z.len (subst (λ (w : Extent). n + 16 ≤ w.len) same f)))
    found-room-if h n x z zs k f false p e = or_right ((handle z == h) && holds z n)
        (list_any (λ (w : Extent). (handle w == h) && holds w n) zs) (k e f)

-- an extent that is found and long enough has room
pub found-room : (l : LiveSet) (h n : ℕ) (x : Extent) → extent_at l h ≡ Some x → n + 16 ≤ x.len
    → IsTrue (has_room l h n)
found-room l h n x e f = found-room_in h n x l.extents e f
