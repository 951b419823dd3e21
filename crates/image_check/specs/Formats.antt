-- Images of each of the three formats: the format in the bytes, and the class by this format.
use Rattle.std.specs.Prelude.{◌≡◌, ℕ, Bool, List, ◌++◌, ◌==◌, nat_le, Option, Some, IsTrue, if◌then◌else◌}
use Rattle.raw_region.specs.Memory.{bytes_of, half_word_at, are_bytes}
use Rattle.raw_region.specs.Format.{current}
use Rattle.image_check.specs.declared.classes.ImageClass.{ImageClass}
use Rattle.image_check.specs.declared.versions.AcceptedVersions.{AcceptedVersions}
use Rattle.image_check.specs.declared.versions.AcceptedVersions.TheVariants.{Current, All}
use Rattle.image_check.specs.Classes.{class_of}

-- the version in the bytes
abbrev pub version_word : List ℕ → ℕ
version_word b = half_word_at (bytes_of b) 8

-- the format in the bytes, if it is one of the three, and otherwise the current one
abbrev pub format_of : List ℕ → ℕ
format_of b = if nat_le (version_word b) 2 then version_word b else current

-- the class by the format in the bytes
abbrev pub class_of_any : List ℕ → Option ImageClass
class_of_any b = class_of (format_of b) b

-- the bytes read so far decide the class: all inputs that begin with them have it, each by its own format
abbrev pub DecidesAny : List ℕ → ImageClass → Type 0
DecidesAny front c = (rest : List ℕ) → IsTrue (are_bytes rest) → class_of_any (front ++ rest) ≡ Some c

-- ---- for one accepted version, or all three

-- whether the version is accepted
abbrev pub is_taken : AcceptedVersions → ℕ → Bool
is_taken Current n = n == current
is_taken All n = nat_le n 2

-- the format by which the bytes are read
abbrev pub format_in : AcceptedVersions → List ℕ → ℕ
format_in Current b = current
format_in All b = format_of b
