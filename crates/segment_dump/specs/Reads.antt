-- Reading from the front of a text: whatever is spelled there is read.
use Rattle.std.specs.Prelude.{◌≡◌, ◌≢◌, ◌<◌, ◌≤◌, ⊤, ℕ, List, [], ◌∷◌, ◌++◌, Option, Some, length, option_map}
use Rattle.std.specs.{Borrow.Bor, List.AllByRecursion, List.flat_map}

-- bytes after the blank
abbrev pub IsToken : List ℕ → Type 0
IsToken = AllByRecursion (λ c. 0x20 < c)

-- no word goes on here
pub record Breaks (a : List ℕ) : Type 0 where
  pub low : (c : ℕ) (cs : List ℕ) → a ≡ c ∷ cs → c ≤ 0x20

-- a line has no end in it, but after it
abbrev pub HasNoEnd : List ℕ → Type 0
HasNoEnd = AllByRecursion (λ c. c ≢ 0x0A)

-- a line with its end
abbrev pub ended : List ℕ → List ℕ
ended line = line ++ 0x0A ∷ []

-- several lines, each with its end
abbrev pub lines_text : List (List ℕ) → List ℕ
lines_text = flat_map ended

-- a text has this many lines
abbrev pub AreLines : ℕ → List (List ℕ) → Type 0
AreLines n lines = AllByRecursion HasNoEnd lines × (length lines ≡ n)

-- whatever is said of this stands in front, the value is read and the rest is left
pub record ParsesPrefix {X Y : Type 0} (say : X → List ℕ) (IsSaid : X → Type 0) (Follows : List ℕ
    → Type 0) (value : X → Y) (text : List ℕ) (result : Option (Y × List ℕ)) : Type 0 where
  pub reads : (x : X) (rest : List ℕ) → IsSaid x → Follows rest → text ≡ say x ++ rest → result ≡ Some (value x, rest)

-- the reader skips a line whose value is not needed
pub record Skips {X : Type 0} (say : X → List ℕ) (IsSaid : X
    → Type 0) (text : List ℕ) (result : Option (List ℕ)) : Type 0 where
  pub skips : (x : X) (rest : List ℕ) → IsSaid x → text ≡ say x ++ rest → result ≡ Some rest

-- anything may be said, and may follow
abbrev pub Any : {X : Type 0} → X → Type 0
Any x = ⊤

-- bytes as they are
abbrev pub itself : {X : Type 0} → X → X
itself x = x

-- a value and the rest, by the bytes of its slice
abbrev pub seen : {Y : Type 0} → Option (Y × Bor (List ℕ)) → Option (Y × List ℕ)
seen o = option_map (λ r. (r.0, r.1.now)) o

-- the rest after a reading, by the bytes of its slice
abbrev pub seen_rest : Option (Bor (List ℕ)) → Option (List ℕ)
seen_rest o = option_map (λ r. r.now) o
