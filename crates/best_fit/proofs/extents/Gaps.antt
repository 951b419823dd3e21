-- The gaps of a proper list: each lies between two neighbours, and all are found.
use Rattle.best_fit.proofs.Common.{◌≡◌, refl, ◌∙◌, ℕ, ◌+◌, ◌-◌, ◌%◌, ◌<◌, ◌≤◌, ◌⊎◌, List, [], ◌∷◌, ◌++◌, arith, nat_lt}
use Rattle.best_fit.proofs.Common.{◌==◌, IsTrue, Option, Some, None, All, find, eq-eqb, ne_eqb, lt-ltb, le-ltb}
use Rattle.best_fit.proofs.Common.{cond-true, cond-false, cases_lt, All-nil, All-cons, All-weaker, All-head, All-tail}
use Rattle.best_fit.proofs.Common.{inl, inr, Extent, Gap, handle, end_of, gap_between, gaps_from, proper_from, insert}
use Rattle.std.proofs.lemmas.List.Elements.{All-append}
use Rattle.best_fit.proofs.extents.Proper.{IsBlock, IsHole, proper_from-IsFirst, IsFirst-proper_from, IsHole-is_hole}
use Rattle.best_fit.proofs.extents.Proper.{is_hole-IsHole, next_of, proper_from-hole, insert-here, insert-past, behind}
use Rattle.best_fit.proofs.extents.Proper.{behind-here, behind-past}

-- ---- the place of a gap

-- a gap is exactly the range from a up to b
pub record IsGap (a b : ℕ) (g : Gap) : Type 0 where
  pub offset : g.offset ≡ a
  pub end : g.offset + g.len ≡ b
  pub some : a < b

-- a gap is exactly the range between two neighbours, before the first extent or after the last
abbrev pub LiesIn : ℕ → List Extent → ℕ → Gap → Type 0
LiesIn from [] to g = IsGap from to g
LiesIn from (y ∷ ys) to g = IsGap from y.offset g ⊎ LiesIn (end_of y) ys to g

-- between two different offsets there is one gap
pub gap_between-some : (a b : ℕ) → a < b → gap_between a b ≡ record { offset = a; len = b - a } ∷ []
gap_between-some a b l = cond-true (nat_lt a b) (record { offset = a; len = b - a } ∷ []) [] (lt-ltb a b l)

-- and no gap between equal ones
pub gap_between-none : (a b : ℕ) → b ≤ a → gap_between a b ≡ []
gap_between-none a b l = cond-false (nat_lt a b) (record { offset = a; len = b - a } ∷ []) [] (le-ltb a b l)

-- by whether there are bytes between the offsets
between_cases : (a b : ℕ) → (a < b) ⊎ (b ≤ a) → All (IsGap a b) (gap_between a b)
between_cases a b (inl l) =
    rw (gap_between-some a b l) (All-cons (IsGap a b) (record { offset = a; len = b - a }) []
    (record { offset = refl; end = omega arith; some = l }) (All-nil (IsGap a b)))
between_cases a b (inr l) = rw (gap_between-none a b l) (All-nil (IsGap a b))

-- between two offsets there is at most one gap
pub gap_between-IsGap : (a b : ℕ) → All (IsGap a b) (gap_between a b)
gap_between-IsGap a b = between_cases a b (cases_lt a b)

-- each gap lies between two neighbours
pub gaps_from-LiesIn : (from : ℕ) (xs : List Extent) (to : ℕ) → All (LiesIn from xs to) (gaps_from from xs to)
gaps_from-LiesIn from [] to = gap_between-IsGap from to
gaps_from-LiesIn from (x ∷ xs) to =
    All-append (LiesIn from (x ∷ xs) to) (gap_between from x.offset) (gaps_from (end_of x) xs to)
    (All-weaker (IsGap from x.offset) (LiesIn from (x ∷ xs) to) (λ g i. inl i) (gap_between from x.offset)
    (gap_between-IsGap from x.offset))
    (All-weaker (LiesIn (end_of x) xs to) (LiesIn from (x ∷ xs) to) (λ g i. inr i) (gaps_from (end_of x) xs to)
    (gaps_from-LiesIn (end_of x) xs to))

-- a gap begins where its list begins or later
pub LiesIn-begins : (from : ℕ) (xs : List Extent) (to : ℕ) (g : Gap) → IsTrue (proper_from from xs to)
    → LiesIn from xs to g → from ≤ g.offset
LiesIn-begins from [] to g p i = let at = i.offset in omega arith
LiesIn-begins from (y ∷ ys) to g p (inl i) = let at = i.offset in omega arith
LiesIn-begins from (y ∷ ys) to g p (inr i) =
    let f = proper_from-IsFirst from y ys to p in
    let hole = f.hole in
    let on = LiesIn-begins (end_of y) ys to g f.rest i in omega arith

-- a whole number of 16 bytes from a multiple of 16 on, at least 32
pub record IsFree (g : Gap) : Type 0 where
  pub offset : g.offset % 16 ≡ 0
  pub long : 32 ≤ g.len
  pub len : g.len % 16 ≡ 0

-- a hole between two multiples of 16
whole_between : (a b : ℕ) (g : Gap) → a % 16 ≡ 0 → b % 16 ≡ 0 → IsHole a b → IsGap a b g → IsFree g
whole_between a b g x y hole i =
    let at = i.offset in let end = i.end in let some = i.some in
    record { offset = omega arith; long = omega arith; len = omega arith }

-- each gap of a proper list could be a free block
pub LiesIn-IsFree : (from : ℕ) (xs : List Extent) (to : ℕ) (g : Gap) → from % 16 ≡ 0 → to % 16 ≡ 0
    → IsTrue (proper_from from xs to) → LiesIn from xs to g → IsFree g
LiesIn-IsFree from [] to g x y p i = whole_between from to g x y (is_hole-IsHole from to p) i
LiesIn-IsFree from (z ∷ zs) to g x y p (inl i) =
    let f = proper_from-IsFirst from z zs to p in whole_between from z.offset g x f.block.offset f.hole i
LiesIn-IsFree from (z ∷ zs) to g x y p (inr i) =
    let f = proper_from-IsFirst from z zs to p in
    let at = f.block.offset in let len = f.block.len in
    LiesIn-IsFree (end_of z) zs to g (omega arith) y f.rest i

-- ---- a new extent in a gap

-- a proper list stays proper with a block within a gap, if before and after it nothing is left or enough for a free
-- block
pub proper_from-insert : (from : ℕ) (xs : List Extent) (to : ℕ) (g : Gap) (x : Extent)
    → IsTrue (proper_from from xs to) → LiesIn from xs to g
    → IsHole g.offset x.offset → IsBlock x → IsHole (end_of x) (g.offset + g.len)
    → IsTrue (proper_from from (insert x xs) to)
proper_from-insert from [] to g x p i before block left =
    let begins = i.offset in
    let ends = i.end in
    IsFirst-proper_from from x [] to
    (record { hole = rw begins at before; block = block; rest = IsHole-is_hole (end_of x) to (rw ends at left) })
proper_from-insert from (y ∷ ys) to g x p (inl i) before block left =
    let f = proper_from-IsFirst from y ys to p in
    let begins = i.offset in
    let ends = i.end in
    let long = block.long in
    rw (insert-here x y ys (omega arith)) (IsFirst-proper_from from x (y ∷ ys) to (record {
      hole = rw begins at before;
      block = block;
      rest = IsFirst-proper_from (end_of x) y ys to (record { hole = rw ends at left; block = f.block; rest = f.rest });
    }))
proper_from-insert from (y ∷ ys) to g x p (inr i) before block left =
    let f = proper_from-IsFirst from y ys to p in
    let on = LiesIn-begins (end_of y) ys to g f.rest i in
    rw (insert-past x y ys (omega arith)) (IsFirst-proper_from from y (insert x ys) to (record {
      hole = f.hole;
      block = f.block;
      rest = proper_from-insert (end_of y) ys to g x f.rest i before block left;
    }))

-- ---- the gap after an extent

-- the length of a gap, or 0
abbrev pub gap_len : Option Gap → ℕ
gap_len o = elim o [ None ↦ 0 | Some g ↦ g.len ]

-- the first gap of a list that begins at a place
abbrev pub gap_at : ℕ → List Gap → Option Gap
gap_at at gs = find (λ (g : Gap). g.offset == at) gs

-- the first gap begins at this offset
gap_at-here : (at : ℕ) (g : Gap) (gs : List Gap) → g.offset ≡ at → gap_at at (g ∷ gs) ≡ Some g
gap_at-here at g gs e = cond-true (g.offset == at) (Some g) (gap_at at gs) (eq-eqb g.offset at e)

-- the first gap begins elsewhere
gap_at-past : (at : ℕ) (g : Gap) (gs : List Gap) → (g.offset ≡ at → ⊥) → gap_at at (g ∷ gs) ≡ gap_at at gs
gap_at-past at g gs n = cond-false (g.offset == at) (Some g) (gap_at at gs) (ne_eqb g.offset at n)

-- gaps that begin elsewhere are passed over
pub gap_at-append : (at : ℕ) (gs hs : List Gap) → All (λ g. g.offset ≡ at → ⊥) gs → gap_at at (gs ++ hs) ≡ gap_at at hs
gap_at-append at [] hs n = refl
gap_at-append at (g ∷ gs) hs n =
    gap_at-past at g (gs ++ hs) (All-head (λ g. g.offset ≡ at → ⊥) g gs n)
    ∙ gap_at-append at gs hs (All-tail (λ g. g.offset ≡ at → ⊥) g gs n)

-- no gap of the list begins at this offset
pub gap_at-none : (at : ℕ) (gs : List Gap) → All (λ g. g.offset ≡ at → ⊥) gs → gap_at at gs ≡ None
gap_at-none at [] n = refl
gap_at-none at (g ∷ gs) n =
    gap_at-past at g gs (All-head (λ g. g.offset ≡ at → ⊥) g gs n)
    ∙ gap_at-none at gs (All-tail (λ g. g.offset ≡ at → ⊥) g gs n)

-- the gaps of a list that begins after a place begin elsewhere
gaps_elsewhere : (at from : ℕ) (xs : List Extent) (to : ℕ) → at < from → IsTrue (proper_from from xs to)
    → All (λ g. g.offset ≡ at → ⊥) (gaps_from from xs to)
gaps_elsewhere at from xs to l p =
    All-weaker (LiesIn from xs to) (λ g. g.offset ≡ at → ⊥) (λ g i e. let on = LiesIn-begins from xs to g p i in
    omega arith) (gaps_from from xs to) (gaps_from-LiesIn from xs to)

-- by whether there are bytes before the next extent
front_cases : (e b : ℕ) (gs : List Gap) → All (λ g. g.offset ≡ e → ⊥) gs → (e < b) ⊎ (b ≤ e) → e ≤ b
    → e + gap_len (gap_at e (gap_between e b ++ gs)) ≡ b
front_cases e b gs n (inl l) o =
    rw (gap_between-some e b l) (rw (gap_at-here e (record { offset = e; len = b - e }) gs refl) (omega arith))
front_cases e b gs n (inr l) o = rw (gap_between-none e b l) (rw (gap_at-none e gs n) (omega arith))

-- by whether there are bytes before the end
front_last : (e b : ℕ) → (e < b) ⊎ (b ≤ e) → e ≤ b → e + gap_len (gap_at e (gap_between e b)) ≡ b
front_last e b (inl l) o =
    rw (gap_between-some e b l) (rw (gap_at-here e (record { offset = e; len = b - e }) [] refl) (omega arith))
front_last e b (inr l) o = rw (gap_between-none e b l) (omega arith)

-- the gap at the beginning of a proper list reaches to the first extent
pub gap_at-front : (e : ℕ) (xs : List Extent) (to : ℕ) → IsTrue (proper_from e xs to)
    → e + gap_len (gap_at e (gaps_from e xs to)) ≡ next_of xs to
gap_at-front e [] to p =
    let hole = proper_from-hole e [] to p in
    front_last e to (cases_lt e to) (omega arith)
gap_at-front e (x ∷ xs) to p =
    let f = proper_from-IsFirst e x xs to p in
    let hole = f.hole in
    let long = f.block.long in
    front_cases e x.offset (gaps_from (end_of x) xs to) (gaps_elsewhere e (end_of x) xs to (omega arith) f.rest)
    (cases_lt e x.offset) (omega arith)

-- the first extent with this handle has this extent's length
abbrev pub HasExtent : Extent → List Extent → Type 0
HasExtent x [] = ⊥
HasExtent x (y ∷ ys) = ((handle y ≡ handle x) × (y.len ≡ x.len)) ⊎ ((handle y ≡ handle x → ⊥) × HasExtent x ys)

-- an extent ends after the beginning of a proper list
pub HasExtent-ends : (from : ℕ) (xs : List Extent) (to : ℕ) (x : Extent) → IsTrue (proper_from from xs to)
    → HasExtent x xs → from < end_of x
HasExtent-ends from [] to x p has = absurd has
HasExtent-ends from (y ∷ ys) to x p (inl has) =
    let f = proper_from-IsFirst from y ys to p in
    let hole = f.hole in
    let long = f.block.long in
    let at = has.0 in
    let len = has.1 in omega arith
HasExtent-ends from (y ∷ ys) to x p (inr has) =
    let f = proper_from-IsFirst from y ys to p in
    let hole = f.hole in
    let on = HasExtent-ends (end_of y) ys to x f.rest has.1 in omega arith

-- no gap that begins earlier begins at e
not_before : (from b e : ℕ) → from < e → All (λ g. g.offset ≡ e → ⊥) (gap_between from b)
not_before from b e l =
    All-weaker (IsGap from b) (λ g. g.offset ≡ e → ⊥) (λ g i same. let at = i.offset in omega arith)
    (gap_between from b) (gap_between-IsGap from b)

-- the gap after an extent of a proper list reaches to the next extent
pub gap_at-behind : (from : ℕ) (xs : List Extent) (to : ℕ) (x : Extent)
    → IsTrue (proper_from from xs to) → HasExtent x xs
    → end_of x + gap_len (gap_at (end_of x) (gaps_from from xs to)) ≡ next_of (behind (handle x) xs) to
gap_at-behind from [] to x p has = absurd has
gap_at-behind from (y ∷ ys) to x p (inl has) =
    let f = proper_from-IsFirst from y ys to p in
    let ends = HasExtent-ends from (y ∷ ys) to x p (inl has) in
    let handles = has.0 in
    let lens = has.1 in
    let same : end_of y ≡ end_of x = omega arith in
    let rest : IsTrue (proper_from (end_of x) ys to) = rw same at f.rest in
    rw (behind-here (handle x) y ys handles)
    (rw (gap_at-append (end_of x) (gap_between from y.offset) (gaps_from (end_of y) ys to)
    (not_before from y.offset (end_of x) ends))
    (rw same (gap_at-front (end_of x) ys to rest)))
gap_at-behind from (y ∷ ys) to x p (inr has) =
    let f = proper_from-IsFirst from y ys to p in
    let ends = HasExtent-ends from (y ∷ ys) to x p (inr has) in
    rw (behind-past (handle x) y ys has.0)
    (rw (gap_at-append (end_of x) (gap_between from y.offset) (gaps_from (end_of y) ys to)
    (not_before from y.offset (end_of x) ends))
    (gap_at-behind (end_of y) ys to x f.rest has.1))
