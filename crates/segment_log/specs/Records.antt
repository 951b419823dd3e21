-- What a log stands for: the payloads of its marked records, up to the first that is not marked or not whole. A record
-- is a gate, a block of bytes whose first is 1 if the record is marked and whose others count for nothing here, then
-- the length of the payload in 8 bytes, and the payload.
use Rattle.std.specs.Prelude.{◌≡◌, ◌≢◌, ◌⊎◌, ◌<◌, ◌≤◌, ℕ, zero, suc, ◌+◌, ◌-◌, List, [], ◌∷◌, ◌++◌, length, take, drop}
use Rattle.std.specs.Prelude.{get_or, replicate, ◌==◌, nat_lt, if◌then◌else◌, Option, Some, None}
use Rattle.byteorder.specs.Endian.{little_number, little_bytes}
use Rattle.segment_log.specs.Crashes.{LoggedFile}

-- eight bytes as a number, the lowest first
unfoldable pub number_of : List ℕ → ℕ
number_of text = little_number 8 text

-- a number as eight bytes, the lowest first
unfoldable pub number_bytes : ℕ → List ℕ
number_bytes n = little_bytes 8 n

-- bytes that are 0
unfoldable pub zeros : ℕ → List ℕ
zeros n = replicate n 0

-- the payload that stands behind a gate, and what stands behind the payload
abbrev pub next_behind : List ℕ → Option (List ℕ × List ℕ)
next_behind text =
    if nat_lt (length text) (8 + number_of text) then None
    else Some (take (number_of text) (drop 8 text), drop (number_of text) (drop 8 text))

-- the first payload of a log with gates of so many bytes, and what stands behind its record
abbrev pub next_at : ℕ → List ℕ → Option (List ℕ × List ℕ)
next_at gate log = if get_or log 0 0 == 1 then next_behind (drop gate log) else None

-- a payload, and those of the rest
abbrev pub go_on : (List ℕ → List (List ℕ)) → Option (List ℕ × List ℕ) → List (List ℕ)
go_on others None = []
go_on others (Some r) = r.0 ∷ others r.1

-- the payloads of at most n records
abbrev pub recovered_by : ℕ → ℕ → List ℕ → List (List ℕ)
recovered_by gate zero log = []
recovered_by gate (suc n) log = go_on (λ rest. recovered_by gate n rest) (next_at gate log)

-- the payloads of all: each record has a byte, so that a log has no more records than bytes
abbrev pub recovered_at : ℕ → List ℕ → List (List ℕ)
recovered_at gate log = recovered_by gate (length log) log

-- the payloads of a log, whose gates have 4096 bytes
abbrev pub recovered : List ℕ → List (List ℕ)
recovered log = recovered_at 4096 log

-- the name of the format, as the text "zaluxhoni log" and two zeros, and its version
abbrev pub magic : List ℕ
magic = 122 ∷ 97 ∷ 108 ∷ 117 ∷ 120 ∷ 104 ∷ 111 ∷ 110 ∷ 105 ∷ 32 ∷ 108 ∷ 111 ∷ 103 ∷ 0 ∷ 0 ∷ 1 ∷ []

-- a gate as it is written: its first byte, and at its bytes 8 to 23 the name of the format and its version
abbrev pub gate_text : ℕ → List ℕ
gate_text first = first ∷ zeros 7 ++ magic ++ zeros 4072

-- the gate that marks the record behind it
unfoldable pub open_gate : List ℕ
open_gate = gate_text 1

-- the gate that ends a log
unfoldable pub shut_gate : List ℕ
shut_gate = gate_text 0

-- what is written behind a gate: the length, the payload, and the next gate, shut
abbrev pub record_body : List ℕ → List ℕ
record_body payload = number_bytes (length payload) ++ payload ++ shut_gate

-- whatever stands behind these bytes, they stand for these payloads and nothing in front of it
abbrev pub IsLogPrefix : ℕ → List ℕ → List (List ℕ) → Type 0
IsLogPrefix gate prefix payloads = (tail : List ℕ)
    → recovered_at gate (prefix ++ tail) ≡ payloads ++ recovered_at gate tail

-- the log is records up to this offset, and a shut gate stands there
pub record EndsShut (gate : ℕ) (log : List ℕ) (end : ℕ) : Type 0 where
  pub prefix : IsLogPrefix gate (take end log) (recovered_at gate log)
  pub room : end + gate ≤ length log
  pub shut : get_or log end 0 ≢ 1
  pub marked : 0 < end → get_or log 0 0 ≡ 1

-- the records of a log end at this offset, and no other stands there
pub record IsEndOfLog (gate : ℕ) (log : List ℕ) (end : ℕ) : Type 0 where
  pub prefix : IsLogPrefix gate (take end log) (recovered_at gate log)
  pub within : end ≤ length log
  pub none : next_at gate (drop end log) ≡ None
  pub marked : 0 < end → get_or log 0 0 ≡ 1

-- a gate that is open, or not whole
abbrev pub IsAjar : ℕ → List ℕ → ℕ → Type 0
IsAjar gate log end = (length log - end < gate) ⊎ (get_or log end 0 ≡ 1)

-- a log is read as far as these payloads, and this is left of it
pub record IsReadTo (gate : ℕ) (log rest : List ℕ) (payloads : List (List ℕ)) : Type 0 where
  pub prefix : List ℕ
  pub split : log ≡ prefix ++ rest
  pub prefixes : IsLogPrefix gate prefix payloads
  pub marked : 0 < length prefix → get_or log 0 0 ≡ 1

-- the file is the same, and the log has the same payloads, with one more or without it
pub record KeepsOrAddsRecord (before : LoggedFile) (payload : List ℕ) (c : LoggedFile) : Type 0 where
  pub base : c.base ≡ before.base
  pub log : (recovered c.log ≡ recovered before.log) ⊎ (recovered c.log ≡ recovered before.log ++ payload ∷ [])
