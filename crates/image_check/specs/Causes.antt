-- The reason why an image is refused, and the offset that shows it.
use Rattle.std.specs.Prelude.{◌≡◌, ℕ, List, Result, Ok, Err, ⊤}
use Rattle.image_check.specs.declared.classes.ImageClass.{ImageClass}
use Rattle.image_check.specs.declared.errors.OpenError.{OpenError}
use Rattle.image_check.specs.declared.errors.OpenError.TheVariants.{Image}
use Rattle.image_check.specs.declared.verdict.Verdict.{Verdict}
use Rattle.image_check.specs.Verdicts.{Shows}

-- the class in the result of a pass, without the offset
abbrev pub class_in : {A : Type 0} → Result A Verdict → Result A ImageClass
class_in (Ok x) = Ok x
class_in (Err v) = Err v.class

-- the reported offset shows the class
abbrev pub IsShown : ℕ → List ℕ → OpenError → Type 0
IsShown format b (Image v) = Shows format b v.class v.place
IsShown format b cause = ⊤

-- a reported verdict is this class, at this offset
abbrev pub IsAt : ImageClass → ℕ → OpenError → Type 0
IsAt class at (Image v) = (v.class ≡ class) × (v.place ≡ at)
IsAt class at cause = ⊤
