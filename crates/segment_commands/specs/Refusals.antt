-- Whether answers that went out have an error: a line that begins with `error `, and a digit after it.
use Rattle.std.specs.Prelude.{ℕ, ◌+◌, ◌==◌, ◌&&◌, ◌||◌, Bool, false, List, fold, if◌then◌else◌, nat_lt}
use Rattle.segment_lang.specs.Lexing.{is_digit}
use Rattle.segment_commands.specs.declared.refusal_watch.Seen.{Seen}

-- the byte of `error ` at a place
abbrev pub awaited : ℕ → ℕ
awaited spot =
    if spot == 0 then 0x65
    else if spot == 3 then 0x6F
    else if spot == 5 then 0x20
    else 0x72

-- how many bytes of a line are the first ones of `error `, after this one; 7 if the line begins otherwise
abbrev pub next_spot : ℕ → ℕ → ℕ
next_spot spot c =
    if c == 0x0A then 0
    else if nat_lt spot 6 && (c == awaited spot) then spot + 1
    else 7

-- what was seen, after this byte
abbrev pub after_byte : Seen → ℕ → Seen
after_byte seen c = record {
  spot = next_spot seen.spot c;
  refusal = seen.refusal || (seen.spot == 6) && is_digit c;
}

-- what was seen of these bytes
abbrev pub seen_in : List ℕ → Seen
seen_in = fold after_byte (record { spot = 0; refusal = false })

-- a line of them is an error
abbrev pub has_refusal : List ℕ → Bool
has_refusal bytes = (seen_in bytes).refusal
