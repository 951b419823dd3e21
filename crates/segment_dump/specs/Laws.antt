-- Laws of dumps.
use Rattle.std.specs.Prelude.{◌≡◌, ◌≤◌, ℕ, true, List, ◌∷◌, ◌++◌}
use Rattle.std.specs.List.{AllByRecursion}
use Rattle.segment_manager.specs.{Directory.Directory, State.DenotesCurrent}
use Rattle.segment_dump.specs.Capacities.{capacities, capacities_text}
use Rattle.segment_dump.specs.{Items.Items, Items.portable, Need.items_needs, Notes.are_notes, Notes.without_notes}
use Rattle.segment_dump.specs.{Reads.HasNoEnd, Reads.lines_text, Texts.dump_text}

-- Two segments that have one dump have the same objects, whatever sizes are said in it: the same names, classes, kinds
-- and values, and the anonymous objects in the same order.
abbrev pub DumpsTellObjects : Type 0
DumpsTellObjects = (b c : List ℕ) (d e : Directory) (m n : ℕ) → DenotesCurrent b d → DenotesCurrent c e
    → dump_text m (portable d) ≡ dump_text n (portable e) → portable d ≡ portable e

-- if each dump says the size of its own segment, the segments have one size
abbrev pub DumpsTellSizes : Type 0
DumpsTellSizes = (b c : List ℕ) (d e : Directory) → DenotesCurrent b d → DenotesCurrent c e
    → dump_text d.size (portable d) ≡ dump_text e.size (portable e) → d.size ≡ e.size

-- a segment has at least as many bytes as its objects need
abbrev pub SegmentsHaveRoom : Type 0
SegmentsHaveRoom = (b : List ℕ) (d : Directory) → DenotesCurrent b d → (items_needs (portable d)).room ≤ d.size

-- ---- notes after a dump

-- a line that begins with '#'
pub record IsNote (line : List ℕ) : Type 0 where
  pub tokens : List ℕ
  pub begins : line ≡ 0x23 ∷ tokens
  pub one : HasNoEnd tokens

-- for all notes after a dump, the text without notes is the dump
abbrev pub NotesAreLeftOut : Type 0
NotesAreLeftOut = (n : ℕ) (items : Items) (notes : List (List ℕ)) → AllByRecursion IsNote notes
    → without_notes (dump_text n items ++ lines_text notes) ≡ dump_text n items

-- the law: a dump does not tell the capacities of a segment
abbrev pub CapacitiesAreLeftOut : Type 0
CapacitiesAreLeftOut = (n : ℕ) (d : Directory)
    → without_notes (dump_text n (portable d) ++ capacities_text (capacities d)) ≡ dump_text n (portable d)

-- of a dump alone nothing is left out
abbrev pub DumpsHaveNoNotes : Type 0
DumpsHaveNoNotes = (n : ℕ) (items : Items) → without_notes (dump_text n items) ≡ dump_text n items

-- the removed part is notes, at the end of the text
pub record HasTrailingNotes (text : List ℕ) : Type 0 where
  pub notes : List ℕ
  pub whole : text ≡ without_notes text ++ notes
  pub are : are_notes true notes ≡ true

-- the law: only notes are cut from the end of a text
abbrev pub NotesAreCut : Type 0
NotesAreCut = (text : List ℕ) → HasTrailingNotes text
