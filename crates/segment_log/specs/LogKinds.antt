-- What a file under the name of a log is, by its first bytes and its length.
use Rattle.std.specs.Prelude.{◌≡◌, ◌⊎◌, ◌↔◌, ◌≤◌, ℕ, ◌+◌, ◌%◌, min, List, length, take, drop, get_or}
use Rattle.segment_log.specs.Records.{magic, number_of, zeros}
use Rattle.segment_log.specs.Tags.{tag_of}
use Rattle.segment_log.specs.declared.log_kinds.LogKind.{LogKind}
use Rattle.segment_log.specs.declared.log_kinds.LogKind.TheVariants.{Foreign, Empty, Records}

-- the first gate has the name and the version, at its bytes 8 to 23
abbrev pub HasMagic : List ℕ → Type 0
HasMagic head = take 16 (drop 8 head) ≡ magic

-- what stands behind the first gate: a record, up to the end of its tag
abbrev pub record_start : List ℕ → List ℕ
record_start head = take 48 (drop 4096 head)

-- a record begins behind the first gate: a length, and a payload whose first edit is a tag
abbrev pub BeginsRecord : List ℕ → Type 0
BeginsRecord head = length (tag_of (drop 8 (record_start head))) ≡ 16

-- the first gate is shut, and behind it nothing was written
pub record HasNothingBehind (head : List ℕ) : Type 0 where
  pub shut : get_or head 0 0 ≡ 0
  pub nothing : record_start head ≡ zeros (length (record_start head))

-- A log of version 0.9, whose gates have no magic: gates and records fill blocks, the first gate is zeros behind its
-- first byte, and behind the gate a record begins, or the gate is shut and zeros follow.
pub record IsUnnamedLog (head : List ℕ) (len : ℕ) : Type 0 where
  pub blocks : len % 4096 ≡ 0
  pub gate : take 4095 (drop 1 head) ≡ zeros 4095
  pub behind : BeginsRecord head ⊎ HasNothingBehind head

-- A log that this crate made, now or in version 0.9, by the first 4144 bytes of the file or all, and by its length. All
-- other files belong to somebody else.
pub record IsOurs (head : List ℕ) (len : ℕ) : Type 0 where
  pub gate : 4096 ≤ len
  pub enough : min 4144 len ≤ length head
  pub first : get_or head 0 0 ≤ 1
  pub made : HasMagic head ⊎ IsUnnamedLog head len

-- the first gate is open, and the record behind it lies within the log
pub record HasRecord (head : List ℕ) (len : ℕ) : Type 0 where
  pub is_open : get_or head 0 0 ≡ 1
  pub whole : 4096 + 8 + number_of (drop 4096 head) ≤ len

-- `log_kind`: The answer is Foreign for each file that this crate did not make, Records for each log whose first record
-- is marked and whole, and Empty for every other log.
pub record TellsKind (head : List ℕ) (len : ℕ) (result : LogKind) : Type 0 where
  pub foreign : (result ≡ Foreign) ↔ (IsOurs head len → ⊥)
  pub empty : (result ≡ Empty) ↔ (IsOurs head len × (HasRecord head len → ⊥))
  pub records : (result ≡ Records) ↔ (IsOurs head len × HasRecord head len)
