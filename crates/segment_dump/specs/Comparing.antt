-- How far a text was written that is known before.
use Rattle.std.specs.Prelude.{◌≡◌, ◌≢◌, ◌≤◌, ⊤, ℕ, Option, Some, None, List, ◌∷◌, ◌++◌, length, take, drop}
use Rattle.std.specs.Prelude.{option_to_list}
use Rattle.raw_region.specs.Device.{WriterHistory}
use Rattle.segment_manager.specs.{Directory.Directory, State.SegmentState, State.DenotesCurrent}
use Rattle.segment_dump.specs.{Items.portable, Texts.dump_text}

-- the text, the number of its bytes that were written, then the first other byte, and the number of refused writes
pub record Compared : Type 0 where
  pub text : List ℕ
  pub at : ℕ
  pub other : Option ℕ
  pub failures : ℕ

-- the bytes that were written
abbrev pub taken : Compared → List ℕ
taken a = take a.at a.text ++ option_to_list a.other

-- The history of the sink, as a function of its text: so a writer leaves the text unchanged.
abbrev pub compared : Compared → WriterHistory
compared a = record { bytes = length a.text ∷ a.text ++ taken a; failures = a.failures }

-- these bytes do not go on with the byte, if there is one
abbrev pub IsOther : List ℕ → Option ℕ → Type 0
IsOther behind None = ⊤
IsOther behind (Some b) = (rest : List ℕ) → behind ≢ b ∷ rest

-- nothing is refused before a byte is another
pub record IsComparing (a : Compared) : Type 0 where
  pub inside : a.at ≤ length a.text
  pub other : IsOther (drop a.at a.text) a.other
  pub failed : a.other ≡ None → a.failures ≡ 0

-- of each directory that the segment's bytes denote the text is the dump, with this size in it
pub record IsDumpOf (s : SegmentState) (size : ℕ) (text : List ℕ) : Type 0 where
  pub is : (d : Directory) → DenotesCurrent s.cut.bytes d → text ≡ dump_text size (portable d)

-- of none is it the dump
pub record IsNoDumpOf (s : SegmentState) (size : ℕ) (text : List ℕ) : Type 0 where
  pub is_not : (d : Directory) → DenotesCurrent s.cut.bytes d → text ≢ dump_text size (portable d)
