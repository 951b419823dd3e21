-- Blocks that stay: blocks outside a change, and blocks that each of two changes keeps.
use Rattle.best_fit.proofs.Common.{refl, ap, ◌∙◌, ℕ, ◌+◌, ◌%◌, ◌≤◌, ◌⊎◌, List, [], ◌∷◌, arith, AllByRecursion, inl, inr}
use Rattle.best_fit.proofs.Common.{Memory, WindowState, SameBytes, SameBytesExcept, bytes_of, SameBytes-refl}
use Rattle.best_fit.proofs.Common.{SameBytes-trans, SameBytesExcept-SameBytes, SameBytesExcept-word}
use Rattle.best_fit.proofs.Common.{SameSurroundings-trans, Extent, handle, end_of, insert, others, SameBlock}
use Rattle.best_fit.proofs.Common.{KeepsBlocks}
use Rattle.best_fit.proofs.extents.Order.{AllByRecursion-insert, AllByRecursion-others}

-- ---- blocks

-- a block stays in memory that does not change
pub SameBlock-refl : (m : Memory) (x : Extent) → SameBlock m m x
SameBlock-refl m x = record { payload = SameBytes-refl m (handle x) (end_of x); colour = refl }

-- a block that stays twice stays
pub SameBlock-trans : (a b c : Memory) (x : Extent) → SameBlock a b x → SameBlock b c x → SameBlock a c x
SameBlock-trans a b c x p q =
    record { payload = SameBytes-trans a b c (handle x) (end_of x) p.payload q.payload; colour = q.colour ∙ p.colour }

-- a block whose tag and payload lie outside n bytes from an offset on
pub record IsBeside (from n : ℕ) (x : Extent) : Type 0 where
  pub long : handle x ≤ end_of x
  pub apart : (end_of x ≤ from) ⊎ (from + n ≤ x.offset)

-- its payload stays
beside_payload : (m m' : Memory) (from n : ℕ) (x : Extent) → SameBytesExcept m m' from n
    → (end_of x ≤ from) ⊎ (from + n ≤ x.offset) → SameBytes m m' (handle x) (end_of x)
beside_payload m m' from n x same (inl l) = SameBytesExcept-SameBytes m m' from n (handle x) (end_of x) same (inl l)
beside_payload m m' from n x same (inr l) =
    SameBytesExcept-SameBytes m m' from n (handle x) (end_of x) same (inr (omega arith))

-- and its tag is a word outside these bytes
beside_tag : (from n : ℕ) (x : Extent) → handle x ≤ end_of x → (end_of x ≤ from) ⊎ (from + n ≤ x.offset)
    → (x.offset + 8 + 8 ≤ from) ⊎ (from + n ≤ x.offset + 8)
beside_tag from n x long (inl l) = inl (omega arith)
beside_tag from n x long (inr l) = inr (omega arith)

-- such a block stays if these bytes change
pub SameBlock-beside : (m m' : Memory) (from n : ℕ) (x : Extent) → SameBytesExcept m m' from n
    → IsBeside from n x → SameBlock m m' x
SameBlock-beside m m' from n x same b =
    record {
      payload = beside_payload m m' from n x same b.apart;
      colour = ap (λ w. w % 16) (SameBytesExcept-word m m' from n (x.offset + 8) same
          (beside_tag from n x b.long b.apart));
    }

-- such blocks stay if these bytes change
pub AllByRecursion-beside : (m m' : Memory) (from n : ℕ) (xs : List Extent) → SameBytesExcept m m' from n
    → AllByRecursion (IsBeside from n) xs → AllByRecursion (SameBlock m m') xs
AllByRecursion-beside m m' from n [] same all = tt
AllByRecursion-beside m m' from n (x ∷ xs) same all =
    (SameBlock-beside m m' from n x same all.0, AllByRecursion-beside m m' from n xs same all.1)

-- all blocks stay in memory that does not change
pub blocks-refl : (m : Memory) (xs : List Extent) → AllByRecursion (SameBlock m m) xs
blocks-refl m [] = tt
blocks-refl m (x ∷ xs) = (SameBlock-refl m x, blocks-refl m xs)

-- blocks that stay twice stay
pub blocks-trans : (a b c : Memory) (xs : List Extent) → AllByRecursion (SameBlock a b) xs
    → AllByRecursion (SameBlock b c) xs → AllByRecursion (SameBlock a c) xs
blocks-trans a b c [] p q = tt
blocks-trans a b c (x ∷ xs) p q = (SameBlock-trans a b c x p.0 q.0, blocks-trans a b c xs p.1 q.1)

-- ---- windows

-- an unchanged window keeps all blocks
pub keeps-refl : (a : WindowState) (xs : List Extent) → KeepsBlocks a a xs
keeps-refl a xs =
    record {
      place = record { before = refl; after = refl };
      front = SameBytes-refl (bytes_of a.bytes) 0 24;
      behind = SameBytes-refl (bytes_of a.bytes) 32 128;
      blocks = blocks-refl (bytes_of a.bytes) xs;
    }

-- two changes keep the blocks that each keeps
pub keeps-trans : (a b c : WindowState) (xs : List Extent) → KeepsBlocks a b xs → KeepsBlocks b c xs
    → KeepsBlocks a c xs
keeps-trans a b c xs p q =
    record {
      place = SameSurroundings-trans a b c p.place q.place;
      front = SameBytes-trans (bytes_of a.bytes) (bytes_of b.bytes) (bytes_of c.bytes) 0 24 p.front q.front;
      behind = SameBytes-trans (bytes_of a.bytes) (bytes_of b.bytes) (bytes_of c.bytes) 32 128 p.behind q.behind;
      blocks = blocks-trans (bytes_of a.bytes) (bytes_of b.bytes) (bytes_of c.bytes) xs p.blocks q.blocks;
    }

-- a window that keeps the blocks with a new one keeps the blocks without it
pub keeps-insert : (a b : WindowState) (x : Extent) (xs : List Extent) → KeepsBlocks a b (insert x xs)
    → KeepsBlocks a b xs
keeps-insert a b x xs k =
    record {
      place = k.place;
      front = k.front;
      behind = k.behind;
      blocks = AllByRecursion-insert (SameBlock (bytes_of a.bytes) (bytes_of b.bytes)) x xs k.blocks;
    }

-- a window that keeps all blocks keeps all but one
pub keeps-others : (a b : WindowState) (h : ℕ) (xs : List Extent) → KeepsBlocks a b xs → KeepsBlocks a b (others h xs)
keeps-others a b h xs k =
    record {
      place = k.place;
      front = k.front;
      behind = k.behind;
      blocks = AllByRecursion-others (SameBlock (bytes_of a.bytes) (bytes_of b.bytes)) h xs k.blocks;
    }
