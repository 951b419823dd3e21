-- What a commit makes of the image that the files stand for.
use Rattle.std.proofs.Common.{◌≡◌, ⊎_elim, inl, inr, ℕ, List, [], ◌∷◌, ◌++◌, ap, ◌∙◌}
use Rattle.segment_log.specs.Crashes.{LoggedFile}
use Rattle.segment_log.specs.Records.{recovered, KeepsOrAddsRecord}
use Rattle.segment_log.specs.Edits.{applied, applied_all, stands_for, StandsForOneOf}
use Rattle.segment_log.proofs.edits.Reading.{applied_last}

-- one record more makes the new image
pub one_more_image : (files c : LoggedFile) (payload last new : List ℕ) → stands_for files ≡ last
    → applied payload last ≡ new → c.base ≡ files.base → recovered c.log ≡ recovered files.log ++ payload ∷ []
    → stands_for c ≡ new
one_more_image files c payload last new is makes base log =
    (λ i. applied_all (log i) (base i)) ∙ applied_last (recovered files.log) payload files.base
    ∙ ap (applied payload) is ∙ makes

pub one_of_two : (files : LoggedFile) (payload last new : List ℕ) → stands_for files ≡ last
    → applied payload last ≡ new → (c : LoggedFile) → KeepsOrAddsRecord files payload c → StandsForOneOf last new c
one_of_two files payload last new is makes c left =
    ⊎_elim (λ same. inl ((λ i. applied_all (same i) (left.base i)) ∙ is))
    (λ more. inr (one_more_image files c payload last new is makes left.base more)) left.log
