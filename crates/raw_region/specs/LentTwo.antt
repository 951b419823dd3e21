-- The state of a slice after two `&mut`s into it have ended.
use Rattle.std.specs.Prelude.{ℕ, List}
use Rattle.std.specs.Borrow.{Fml, MutBor, Array, LendsBoth, u8}
use Rattle.std.specs.List.{refill}
use Rattle.raw_region.specs.Memory.{part, patched}

-- xs with two of its parts replaced
abbrev pub with_two : List ℕ → ℕ → ℕ → ℕ → ℕ → List ℕ → List ℕ → List ℕ
with_two xs from len from' len' ws ws' =
    patched (patched xs from (refill len (part xs from len) ws)) from' (refill len' (part xs from' len') ws')

-- two ranges of a slice are lent, and the slice ends with the bytes that were written to them
abbrev pub LendsTwo : MutBor (List ℕ) → ℕ → ℕ → ℕ → ℕ → MutBor (List ℕ) × MutBor (List ℕ) → Fml
LendsTwo s from len from' len' r =
    LendsBoth (Array u8 0) (Array u8 0) (Array u8 0) s r (with_two s.now from len from' len')
