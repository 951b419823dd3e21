-- Texts that are read in one way: what a text begins with tells what was written, and so what follows.
use Rattle.segment_dump.proofs.Common.{◌≡◌, ℕ, List, [], ◌∷◌, ◌++◌, refl, sym, ap, subst, ◌∙◌, arith, append_assoc}
use Rattle.segment_dump.proofs.Common.{drop, get_or, AllByRecursion, flat_map}
pub use Rattle.segment_dump.specs.Reads.{Breaks, IsToken}

-- ---- two texts that are the same, byte by byte

-- equal lists have equal heads
pub heads : {c d : ℕ} {a b : List ℕ} → c ∷ a ≡ d ∷ b → c ≡ d
heads e = ap (λ l. get_or l 0 0) e

-- equal lists have equal rests
pub tails : {c d : ℕ} {a b : List ℕ} → c ∷ a ≡ d ∷ b → a ≡ b
tails e = ap (drop 1) e

-- ---- codes

-- of two texts, each of a thing that may be said and of what may follow it, both are of one thing, and what follows is
-- the same
pub record IsCode {X : Type 0} (say : X → List ℕ) (IsSaid : X → Type 0) (Follows : List ℕ → Type 0) : Type 0 where
  pub reads : (x y : X) (a b : List ℕ) → IsSaid x → IsSaid y → Follows a → Follows b → say x ++ a ≡ say y ++ b
      → (x ≡ y) × (a ≡ b)

-- ---- one after another

-- a text begins with one of them or with none, and one may follow another
pub record IsRow {X : Type 0} (say : X → List ℕ) (IsSaid : X → Type 0) (Follows Begins : List ℕ → Type 0) : Type 0 where
  pub code : IsCode say IsSaid Follows
  pub begins : (x : X) (a : List ℕ) → IsSaid x → Begins (say x ++ a)
  pub follows : (x : X) (a : List ℕ) → IsSaid x → Follows (say x ++ a)

-- what follows begins with none of them
pub record Stops (Follows Begins : List ℕ → Type 0) (a : List ℕ) : Type 0 where
  pub follows : Follows a
  pub none : Begins a → ⊥

module _ {X : Type 0} (say : X → List ℕ) (IsSaid : X → Type 0) (Follows Begins : List ℕ
    → Type 0) (row : IsRow say IsSaid Follows Begins) where
  follows-all : (xs : List X) (a : List ℕ) → AllByRecursion IsSaid xs → Follows a → Follows (flat_map say xs ++ a)
  follows-all [] a p f = f
  follows-all (x ∷ xs) a p f = subst Follows (sym (append_assoc (say x) (flat_map say xs) a))
      (row.follows x (flat_map say xs ++ a) p.0)

  -- two rows of texts that are equal have the same parts
  pub row-reads : (xs ys : List X) (a b : List ℕ) → AllByRecursion IsSaid xs → AllByRecursion IsSaid ys
      → Stops Follows Begins a → Stops Follows Begins b
      → flat_map say xs ++ a ≡ flat_map say ys ++ b → (xs ≡ ys) × (a ≡ b)
  row-reads [] [] a b p q f g e = (refl, e)
  row-reads [] (y ∷ ys) a b p q f g e =
      absurd (f.none (subst Begins (sym (e ∙ append_assoc (say y) (flat_map say ys) b))
      (row.begins y (flat_map say ys ++ b) q.0)))
  row-reads (x ∷ xs) [] a b p q f g e =
      absurd (g.none (subst Begins (sym (sym e ∙ append_assoc (say x) (flat_map say xs) a))
      (row.begins x (flat_map say xs ++ a) p.0)))
  row-reads (x ∷ xs) (y ∷ ys) a b p q f g e =
      let one = row.code.reads x y (flat_map say xs ++ a) (flat_map say ys ++ b) p.0 q.0
      (follows-all xs a p.1 f.follows) (follows-all ys b q.1 g.follows)
      (sym (append_assoc (say x) (flat_map say xs) a) ∙ e ∙ append_assoc (say y) (flat_map say ys) b) in
      let others = row-reads xs ys a b p.1 q.1 f g one.1 in
      (λ i. one.0 i ∷ others.0 i, others.1)

-- ---- words

-- two words that begin equal texts are one
pub tokens-read : (w v a b : List ℕ) → IsToken w → IsToken v → Breaks a → Breaks b → w ++ a ≡ v ++ b → (w ≡ v) × (a ≡ b)
tokens-read [] [] a b p q f g e = (refl, e)
tokens-read [] (d ∷ v) a b p q f g e = absurd (omega (arith, f.low d (v ++ b) e, q.0))
tokens-read (c ∷ w) [] a b p q f g e = absurd (omega (arith, g.low c (w ++ a) (sym e), p.0))
tokens-read (c ∷ w) (d ∷ v) a b p q f g e =
    let others = tokens-read w v a b p.1 q.1 f g (tails e) in
    (λ i. heads e i ∷ others.0 i, others.1)
