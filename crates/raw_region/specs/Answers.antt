-- The meaning of the results of readers and writers.
use Rattle.std.specs.Prelude.{◌≡◌, ◌<◌, ℕ, Bool, false, List, ◌++◌, length, take, nat_lt, ◌==◌, ◌&&◌, if◌then◌else◌}
use Rattle.std.specs.Prelude.{Result, Ok, Err}

-- the result is 0 bytes; for a non-empty slice this is the end
abbrev pub answers_end : {E : Type 0} → Result ℕ E → Bool
answers_end (Ok n) = n == 0
answers_end (Err e) = false

-- a read of len bytes returned fewer, without an error
abbrev pub falls_short : {E : Type 0} → Result ℕ E → ℕ → Bool
falls_short (Ok n) len = nat_lt n len
falls_short (Err e) len = false

-- 1 if a read of len bytes returned 0 bytes and len is not 0, otherwise 0
abbrev pub ends_in : {E : Type 0} → Result ℕ E → ℕ → ℕ
ends_in (Ok n) len = if (n == 0) && nat_lt 0 len then 1 else 0
ends_in (Err e) len = 0

-- 1 if reads for len bytes together returned fewer, without an error, otherwise 0
abbrev pub ends_short : {E : Type 0} → Result ℕ E → ℕ → ℕ
ends_short (Ok n) len = if nat_lt n len then 1 else 0
ends_short (Err e) len = 0

-- 1 if the result is an error, otherwise 0
abbrev pub failures_in : {T E : Type 0} → Result T E → ℕ
failures_in (Ok x) = 0
failures_in (Err e) = 1

-- 1 if a write of len bytes failed, or accepted 0 bytes and len is not 0; otherwise 0
abbrev pub write_failures_in : {E : Type 0} → Result ℕ E → ℕ → ℕ
write_failures_in (Ok n) len = if (n == 0) && nat_lt 0 len then 1 else 0
write_failures_in (Err e) len = 1

-- new is old followed by a front of bytes, which is not all of bytes
pub record AppendsProperPrefix (old new bytes : List ℕ) : Type 0 where
  pub count : ℕ
  pub fewer : count < length bytes
  pub added : new ≡ old ++ take count bytes
