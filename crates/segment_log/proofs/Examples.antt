-- Small files under the name of a log, and what each is; and a small pending image.
use Rattle.std.proofs.Common.{◌≡◌, inl, inr, ℕ, List, [], ◌∷◌, ◌++◌, length, get_or, refl, ap, arith}
use Rattle.segment_log.specs.Records.{number_of, number_bytes, shut_gate, zeros}
use Rattle.segment_log.specs.Fingerprints.{fingerprint, page_mark}
use Rattle.segment_log.specs.PendingImages.{pending_text}
use Rattle.segment_log.specs.Tags.{tag_text}
use Rattle.segment_log.specs.LogKindLaws.{IsKind}
use Rattle.segment_log.specs.declared.log_kinds.LogKind.TheVariants.{Foreign, Empty, Records}

-- a new name of a file is no log
empty_file : IsKind Foreign []
empty_file ours = absurd (omega (arith, ours.gate))

-- the text "log\n"
text : IsKind Foreign (108 ∷ 111 ∷ 103 ∷ 10 ∷ [])
text ours = absurd (omega (arith, ours.gate))

-- 8,207 bytes that begin with 4,096 zeros
abbrev output : List ℕ
output = zeros 4096 ++ 116 ∷ 101 ∷ 120 ∷ 116 ∷ zeros 4107

output_len : length output ≡ 8207
unfolding zeros
output_len = refl

output_foreign : IsKind Foreign output
unfolding zeros
output_foreign ours = elim ours.made [
  | inl named ↦ let none : 0 ≡ 122 = ap (λ (l : List ℕ). get_or l 0 0) named in absurd (omega (arith, none))
  | inr old ↦ let over : 15 ≡ 0 = old.blocks in absurd (omega (arith, over))
]

-- the gate of a log that version 0.9 made
old_gate : IsKind Empty (zeros 4096)
unfolding zeros
old_gate = (
  record {
    gate = omega arith;
    enough = omega arith;
    first = omega arith;
    made = inr (record { blocks = refl; gate = refl; behind = inr (record { shut = refl; nothing = refl }) });
  },
  λ has. let opened : 0 ≡ 1 = has.is_open in absurd (omega (arith, opened)),
)

-- a new log: a shut gate, with the name and the version
new_gate_empty : IsKind Empty shut_gate
unfolding shut_gate zeros
new_gate_empty = (
  record { gate = omega arith; enough = omega arith; first = omega arith; made = inl refl },
  λ has. let opened : 0 ≡ 1 = has.is_open in absurd (omega (arith, opened)),
)

-- an open gate of version 0.9, a record of an image of 4,096 bytes with its tag, and a shut gate
abbrev old_log : List ℕ
old_log =
    1 ∷ zeros 4095 ++ (number_bytes 4088 ++ (number_bytes 4096 ++ tag_text 7 9 ++ zeros 4048) ++ zeros 4096)

old_log_records : IsKind Records old_log
unfolding zeros number_of number_bytes
old_log_records = (
  record {
    gate = omega arith;
    enough = omega arith;
    first = omega arith;
    made = inr (record { blocks = refl; gate = refl; behind = inl refl });
  },
  record { is_open = refl; whole = omega arith },
)

-- the pending image of the two bytes "hi", whose fingerprint is 8,675,450,074,786,118,001
hi_pending : pending_text (104 ∷ 105 ∷ [])
    ≡ 122 ∷ 97 ∷ 108 ∷ 117 ∷ 120 ∷ 104 ∷ 111 ∷ 110 ∷ 105 ∷ 32 ∷ 115 ∷ 97 ∷ 118 ∷ 101 ∷ 0 ∷ 1
    ∷ 104 ∷ 105 ∷ 2 ∷ 0 ∷ 0 ∷ 0 ∷ 0 ∷ 0 ∷ 0 ∷ 0 ∷ 113 ∷ 57 ∷ 67 ∷ 230 ∷ 224 ∷ 99 ∷ 101 ∷ 120 ∷ []
unfolding pending_text number_bytes fingerprint page_mark number_of
hi_pending = refl
