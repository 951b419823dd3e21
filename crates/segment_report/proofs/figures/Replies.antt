-- The numbers that a segment answers are its directory's.
use Rattle.std.proofs.Common.{◌≡◌, refl, ap, ◌∙◌, ℕ, false, length}
use Rattle.best_fit.specs.Extents.{free_bytes}
use Rattle.seg_types.specs.Commands.{Command, Free, NumNamed, NumUnique, Size, is_changing}
use Rattle.segment_manager.specs.declared.modes.Mode.{Mode}
use Rattle.segment_manager.specs.declared.modes.Mode.TheVariants.{Write, ReadOnly, CopyOnWrite}
use Rattle.segment_manager.specs.Directory.{Directory, live, named_objects, unique_objects}
use Rattle.segment_manager.specs.Answers.{Answer, Number}
use Rattle.segment_manager.specs.Plan.{perform}
use Rattle.segment_manager.specs.Step.{effect, step}

-- a command that changes nothing is refused in no mode
performed-reads : (mode : Mode) (d : Directory) (c : Command) → is_changing c ≡ false
    → step mode d c ≡ perform d (live d) (effect d c)
unfolding step
performed-reads Write d c e = refl
performed-reads ReadOnly d c e = rw e refl
performed-reads CopyOnWrite d c e = refl

answered-reads : (mode : Mode) (d : Directory) (c : Command) → is_changing c ≡ false
    → (step mode d c).0 ≡ (perform d (live d) (effect d c)).0
answered-reads mode d c e = ap (λ (r : Answer × Directory). r.0) (performed-reads mode d c e)

-- the size that is answered is the directory's
pub size_is : (mode : Mode) (d : Directory) (n : ℕ) → Number n ≡ (step mode d Size).0 → n ≡ d.size
size_is mode d n e =
    let same : Number n ≡ Number d.size = e ∙ answered-reads mode d Size refl in
    cc

-- the free bytes that are answered are the directory's
pub free_is : (mode : Mode) (d : Directory) (n : ℕ) → Number n ≡ (step mode d Free).0 → n ≡ free_bytes (live d)
free_is mode d n e =
    let same : Number n ≡ Number (free_bytes (live d)) = e ∙ answered-reads mode d Free refl in
    cc

-- how many entries the indexes have
pub named_is : (mode : Mode) (d : Directory) (n : ℕ) → Number n ≡ (step mode d NumNamed).0
    → n ≡ length (named_objects d)
named_is mode d n e =
    let same : Number n ≡ Number (length (named_objects d)) = e ∙ answered-reads mode d NumNamed refl in
    cc

pub unique_is : (mode : Mode) (d : Directory) (n : ℕ) → Number n ≡ (step mode d NumUnique).0
    → n ≡ length (unique_objects d)
unique_is mode d n e =
    let same : Number n ≡ Number (length (unique_objects d)) = e ∙ answered-reads mode d NumUnique refl in
    cc
