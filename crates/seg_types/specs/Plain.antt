-- The values of a type in bytes, by the encodings of the values.
use Rattle.std.specs.Prelude.{◌≡◌, ◌≢◌, ℕ, Bool, true, false, ◌&&◌, Option, Some, None, List, [], ◌∷◌, ◌==◌}
use Rattle.std.specs.Prelude.{if◌then◌else◌}

-- the result is the value that the bytes encode, or none if they encode no value
abbrev pub Decodes : {T : Type 0} → (T → Bool) → (T → List ℕ) → List ℕ → Option T → Type 0
Decodes is_value spelling bytes (Some x) = (is_value x ≡ true) × (spelling x ≡ bytes)
Decodes {T} is_value spelling bytes None = (x : T) → is_value x ≡ true → spelling x ≢ bytes

-- whether two lists of bytes are equal
abbrev pub same_bytes : List ℕ → List ℕ → Bool
same_bytes [] [] = true
same_bytes (x ∷ xs) (y ∷ ys) = (x == y) && same_bytes xs ys
same_bytes xs ys = false

-- the value that the bytes encode, or none, by a function that reads encodings
unfoldable pub value_in : {T : Type 0} → (List ℕ → Option T) → (T → Bool) → (T → List ℕ) → List ℕ → Option T
value_in reading is_value spelling bytes =
    elim (reading bytes) [ None ↦ None | Some x ↦ if is_value x && same_bytes (spelling x) bytes then Some x else None ]
