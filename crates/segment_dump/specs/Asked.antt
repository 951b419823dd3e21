-- The objects and elements in the lines of a text up to the line `end`, whether or not it is a dump, as far as they are
-- counted.
use Rattle.seg_types.specs.declared.kinds.Kind.TheVariants as kinds
use Rattle.std.specs.Prelude.{◌≡◌, ◌≤◌, ℕ, List, [], ◌∷◌, ◌++◌, Some, length, flat_map}
use Rattle.std.specs.List.{AllByRecursion}
use Rattle.raw_region.specs.Format.{current}
use Rattle.seg_types.specs.declared.kinds.Kind.{Kind}
use Rattle.segment_lang.specs.{Language.whole_language, Reading.kind_named, Texts.number_text}
use Rattle.segment_dump.specs.{declared.needs.Needs.Needs, Reads.AreLines, Reads.lines_text}
use Rattle.segment_dump.specs.Need.{all_needs, block_room, both, nothing, object_room, only_room}
use Rattle.segment_dump.specs.Texts.{end_text, length_text, pieces_in}

-- the text begins with bytes that say this, and the rest follows
pub record Begins {X : Type 0} (Says : List ℕ → X → Type 0) (text : List ℕ) (x : X) (rest : List ℕ) : Type 0 where
  pub bytes : List ℕ
  pub is : text ≡ bytes ++ rest
  pub says : Says bytes x

-- the first need no more than the second
pub record AreAtMost (some most : Needs) : Type 0 where
  pub room : some.room ≤ most.room
  pub longest : some.longest ≤ most.longest

-- ---- the parts of a line, and lines

-- the bytes can hold a name of this length
abbrev pub CanName : List ℕ → ℕ → Type 0
CanName bytes len = len ≤ length bytes

-- the word names the kind
abbrev pub NamesKind : List ℕ → Kind → Type 0
NamesKind token kind = kind_named (whole_language current) token ≡ Some kind

-- a kind and a count, to the end of the line
pub record IsMeasured (bytes : List ℕ) (measure : Kind × ℕ) : Type 0 where
  pub token : List ℕ
  pub kind_is : NamesKind token measure.0
  pub is : bytes ≡ token ++ (0x20 ∷ (number_text measure.1 ++ 0x0A ∷ []))

-- a text has this many lines
pub record IsLined (bytes : List ℕ) (count : ℕ) : Type 0 where
  pub lines : List (List ℕ)
  pub are : AreLines count lines
  pub is : bytes ≡ lines_text lines

-- the lines of a text of this many bytes
pub record IsDumpText (bytes : List ℕ) (len : ℕ) : Type 0 where
  pub behind : List ℕ
  pub is : bytes ≡ length_text len ++ behind
  pub lined : IsLined behind (pieces_in len)

-- ---- what asks

-- some bytes, and the objects in them
pub record Asking : Type 0 where
  pub bytes : List ℕ
  pub needs : Needs

-- this many texts, one after another, ask for at least this
pub record AskTogether (Asks : List ℕ → Needs → Type 0) (count : ℕ) (bytes : List ℕ) (needs : Needs) : Type 0 where
  pub parts : List Asking
  pub many : length parts ≡ count
  pub each : AllByRecursion (λ (p : Asking). Asks p.bytes p.needs) parts
  pub is : bytes ≡ flat_map (λ (p : Asking). p.bytes) parts
  pub most : AreAtMost needs (all_needs (λ (p : Asking). p.needs) parts)

-- a text in a vector of strings, and as a string
abbrev pub AsksText : List ℕ → Needs → Type 0
AsksText bytes needs = (len : ℕ) × IsDumpText bytes len × (needs ≡ record { room = block_room len; longest = len })

-- the lines of a string ask for a block of its length
abbrev pub AsksString : List ℕ → Needs → Type 0
AsksString bytes needs = (len : ℕ) × IsDumpText bytes len × (needs ≡ only_room (block_room len))

-- this many lines ask for nothing
abbrev pub AsksNothing : ℕ → List ℕ → Needs → Type 0
AsksNothing count bytes needs = IsLined bytes count × (needs ≡ nothing)

-- the elements of an object
abbrev pub AsksContent : Kind → ℕ → List ℕ → Needs → Type 0
AsksContent (kinds.Scalar k) count bytes needs = AsksNothing count bytes needs
AsksContent kinds.String count bytes needs = AsksString bytes needs
AsksContent (kinds.Vector k) count bytes needs = AsksNothing count bytes needs
AsksContent (kinds.Map k v) count bytes needs = AsksNothing count bytes needs
AsksContent kinds.Strings count bytes needs = AskTogether AsksText count bytes needs

-- an object: what leads it, its measure and its elements
pub record AsksObject (bytes : List ℕ) (needs : Needs) : Type 0 where
  pub lead : List ℕ
  pub len : ℕ
  pub named : CanName lead len
  pub line : List ℕ
  pub measure : Kind × ℕ
  pub measured : IsMeasured line measure
  pub content : List ℕ
  pub elements : Needs
  pub asks : AsksContent measure.0 measure.1 content elements
  pub is : bytes ≡ lead ++ (line ++ content)
  pub most : AreAtMost needs (both (only_room (object_room len measure.0 measure.1)) elements)

-- objects in front of the line `end`
pub record HasObjects (text : List ℕ) (needs : Needs) : Type 0 where
  pub count : ℕ
  pub behind : List ℕ
  pub begins : Begins (AskTogether AsksObject count) text needs (end_text ++ behind)
