use Rattle.image_check.proofs.Common.{AreZero, List, [], ap, bytes_of, drop, length, part, refl, subst, take, ℕ, ◌∙◌}
use Rattle.image_check.proofs.Common.{◌∷◌, ◌≡◌}
use Rattle.std.specs.Prelude.{MatchOption}
use Rattle.std.proofs.Math.Seq.{take-length}
use Rattle.image_check.specs.HeaderOffsets.{IsFirstNonzero}
use Rattle.image_check.proofs.image_window.ImageWindow.first_nonzero.Goals as goal

drop-none : (b : List ℕ) → drop 0 b ≡ b
drop-none [] = refl
drop-none (x ∷ b) = refl

whole-part : (b : List ℕ) (n : ℕ) → n ≡ length b → part b 0 n ≡ b
whole-part b n e = ap (take n) (drop-none b) ∙ ap (λ k. take k b) e ∙ take-length b

pub returns : goal.returns
returns c =
    subst (λ (x : List ℕ). MatchOption c.first_nonzero.result (AreZero (bytes_of x) c.args.from c.args.to)
    (IsFirstNonzero (bytes_of x) c.args.from c.args.to))
    (c.bytes.ensures.bytes ∙ whole-part c.args.self.now.bytes _ c.size.ensures) c.first_nonzero.ensures
