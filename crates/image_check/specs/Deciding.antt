-- The class that the bytes read so far decide, as a test of their first three words.
use Rattle.std.specs.Prelude.{◌≡◌, ℕ, Bool, List, length, nat_lt, Option, Some, None, if◌then◌else◌}
use Rattle.image_check.specs.declared.classes.ImageClass.{ImageClass}
use Rattle.image_check.specs.declared.classes.ImageClass.TheVariants.{BadMagic, UnsupportedVersion, BadSize}
use Rattle.image_check.specs.EarlyTests.{has_magic, has_version, has_size}
use Rattle.image_check.specs.Classes.{DecidesClass}
use Rattle.image_check.specs.Formats.{DecidesAny, format_of}

-- the class by these tests, one after another: too few bytes, the magic, the version, the size
abbrev pub decided_by : Bool → Bool → Bool → Bool → Option ImageClass
decided_by short magic version size =
    if short then None
    else if magic then (if version then (if size then None else Some BadSize) else Some UnsupportedVersion) else
    Some BadMagic

-- No class is decided before 144 bytes, since there may be no more. After that, the magic and the version decide, and a
-- size that is not legal or is less than the number of bytes read.
unfoldable pub decided : ℕ → List ℕ → Option ImageClass
decided format front = decided_by (nat_lt (length front) 144) (has_magic front) (has_version format front)
    (has_size front)

-- the law: the test finds the class that is decided, and none if none is
pub record IsDecided (found : Option ImageClass) (Decides : ImageClass → Type 0) : Type 0 where
  pub some : (c : ImageClass) → found ≡ Some c → Decides c
  pub none : found ≡ None → (c : ImageClass) → Decides c → ⊥

-- the law: the bytes read so far decide a class exactly if it is the result of `decided`
abbrev pub AllDecided : Type 0
AllDecided = (format : ℕ) (front : List ℕ) → IsDecided (decided format front) (DecidesClass format front)

-- the law for images of any of the three formats
abbrev pub AllDecidedAny : Type 0
AllDecidedAny = (front : List ℕ) → IsDecided (decided (format_of front) front) (DecidesAny front)
