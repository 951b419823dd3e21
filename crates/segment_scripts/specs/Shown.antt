-- The parts of the answer of `show`.
use Rattle.std.specs.Prelude.{ℕ, List, [], ◌∷◌, ◌++◌, ◌==◌, if◌then◌else◌, Option, Some, None, codes}
use Rattle.seg_types.specs.declared.kinds.Class.{Class}
use Rattle.seg_types.specs.declared.kinds.Class.TheVariants.{Anonymous, Named, Unique}
use Rattle.seg_types.specs.declared.kinds.Kind.{Kind}
use Rattle.seg_types.specs.declared.kinds.Kind.TheVariants.{Scalar}
use Rattle.segment_lang.specs.Texts.{kind_text, name_text, number_text, quoted_text, value_text}
use Rattle.segment_values.specs.Layouts.{Spelling}
-- the length of a container, if there is one
pub use Rattle.segment_values.specs.Asked.{length_in}

-- a kind, and the count unless it is 1
abbrev pub counted_text : Kind → ℕ → List ℕ
counted_text kind n = kind_text kind ++ (if n == 1 then [] else 0x5B ∷ number_text n ++ 0x5D ∷ [])

-- a kind, and the number of elements if the object is an array of more than one scalar
abbrev pub prefix_text : Kind → ℕ → List ℕ
prefix_text (Scalar k) n = counted_text (Scalar k) n
prefix_text kind n = kind_text kind

-- elements as an answer has them, each after a blank
abbrev pub in_line : Spelling
in_line = record {
  scalar = λ i k z. 0x20 ∷ value_text k z;
  text = λ i bs. 0x20 ∷ quoted_text bs;
  pair = λ i k v p. 0x20 ∷ value_text k p.0 ++ 0x3D ∷ value_text v p.1;
}

-- a number, if there is one
abbrev pub number_tokens : Option ℕ → List (List ℕ)
number_tokens None = []
number_tokens (Some n) = number_text n ∷ []

-- a number after a blank, if there is one
abbrev pub behind_text : Option ℕ → List ℕ
behind_text None = []
behind_text (Some n) = 0x20 ∷ number_text n

-- a class, and a name or `-`
abbrev pub class_text : Class → List ℕ → List ℕ
class_text Named name = codes "named " ++ name_text name
class_text Unique name = codes "unique -"
class_text Anonymous name = codes "anonymous -"
