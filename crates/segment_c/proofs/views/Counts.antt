-- How many entries the two indexes have.
use Rattle.std.proofs.Common.{◌≡◌, ℕ, refl, ap, ◌∙◌, false}
use Rattle.seg_types.specs.Commands.{Command, is_changing}
use Rattle.segment_manager.specs.declared.modes.Mode.{Mode}
use Rattle.segment_manager.specs.declared.modes.Mode.TheVariants.{Write, ReadOnly, CopyOnWrite}
use Rattle.segment_manager.specs.{Answers.Answer, Answers.Number, Plan.perform, Step.effect, Step.step}
use Rattle.segment_manager.specs.Directory.{Directory, live}

-- a command that changes nothing is refused in no mode
performed-reads : (mode : Mode) (d : Directory) (c : Command) → is_changing c ≡ false
    → step mode d c ≡ perform d (live d) (effect d c)
unfolding step
performed-reads Write d c e = refl
performed-reads ReadOnly d c e = rw e refl
performed-reads CopyOnWrite d c e = refl

-- the number that is answered is the one of the command
pub counted : (mode : Mode) (d : Directory) (c : Command) (n m : ℕ) → is_changing c ≡ false
    → (perform d (live d) (effect d c)).0 ≡ Number m → Number n ≡ (step mode d c).0 → n ≡ m
counted mode d c n m reads is e =
    let same : Number n ≡ Number m = e ∙ ap (λ (r : Answer × Directory). r.0) (performed-reads mode d c reads) ∙ is in
    cc
