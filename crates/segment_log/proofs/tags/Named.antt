-- A log belongs to its file at each moment of a commit, of a checkpoint and of a recovery.
use Rattle.std.proofs.Common.{◌≡◌, ◌≢◌, ⊎_elim, inl, inr, ℕ, List, [], ◌∷◌, ◌++◌, true, refl, ◌∙◌, ap}
use Rattle.segment_log.specs.Crashes.{LoggedFile}
use Rattle.segment_log.specs.Records.{recovered, KeepsOrAddsRecord}
use Rattle.segment_log.specs.Edits.{applied, stands_for, StandsFor, SameRecords, KeepsOrPlaces}
use Rattle.segment_log.specs.Fingerprints.{fingerprint}
use Rattle.segment_log.specs.Tags.{names_base, names_image, names_after, belongs, AreTogether, IsMidCommit}
use Rattle.segment_log.specs.Tags.{KeepsImage}
use Rattle.segment_log.proofs.theorems.Ends.{same_image}
use Rattle.segment_log.proofs.edits.Images.{one_more_image}
use Rattle.segment_log.proofs.tags.Owned.{commit_keeps_own, last_named, or_back}

-- the same records belong to the same file
pub named_same : (files c : LoggedFile) → SameRecords files c → AreTogether files → AreTogether c
named_same files c has named = record {
  own = (λ i. belongs (fingerprint (has.base i)) (has.log i)) ∙ named.own;
  image = λ some. (λ i. names_after (fingerprint (same_image files c has i)) (has.log i))
      ∙ named.image (λ none. some (has.log ∙ none));
}

module _ (files : LoggedFile) (payload last new : List ℕ) (is : stands_for files ≡ last)
    (makes : applied payload last ≡ new) (named : AreTogether files)
    (first : recovered files.log ≡ [] → names_base (fingerprint files.base) payload ≡ true)
    (image : names_image (fingerprint new) payload ≡ true) where
  -- a log with one record more belongs to the file
  pub named_more : (c : LoggedFile) → c.base ≡ files.base → recovered c.log ≡ recovered files.log ++ payload ∷ []
      → AreTogether c
  named_more c base log = record {
    own = (λ i. belongs (fingerprint (base i)) (log i))
        ∙ commit_keeps_own (fingerprint files.base) (recovered files.log) payload named.own first;
    image =
        λ some. (λ i. names_after (fingerprint (one_more_image files c payload last new is makes base log i)) (log i))
        ∙ last_named (fingerprint new) (recovered files.log) payload image;
  }

  -- each state of a commit stands for one of two images, with its own log
  pub mid_commit : (c : LoggedFile) → KeepsOrAddsRecord files payload c → IsMidCommit last new c
  mid_commit c left = ⊎_elim
      (λ same. let has : SameRecords files c = record { base = left.base; log = same } in
      record { image = inl (same_image files c has ∙ is); named = named_same files c has named })
      (λ more. record {
        image = inr (one_more_image files c payload last new is makes left.base more);
        named =
            named_more c left.base more;
      })
      left.log

own_of : (id : ℕ) (ps : List (List ℕ)) → (ps ≢ [] → names_after id ps ≡ true) → belongs id ps ≡ true
own_of id [] named = refl
own_of id (p ∷ ps) named = or_back (names_base id p) (names_after id (p ∷ ps)) (named (λ is. cc is))

-- a log without a record belongs to every file
pub empty_named : (c : LoggedFile) → recovered c.log ≡ [] → AreTogether c
empty_named c none = record { own = ap (belongs (fingerprint c.base)) none; image = λ some. absurd (some none) }

module _ (files : LoggedFile) (image : List ℕ) (is : image ≡ stands_for files) (named : AreTogether files)
    (stands : (c : LoggedFile) → KeepsOrPlaces files image c → StandsFor image c) where
  for_image : recovered files.log ≢ [] → names_after (fingerprint image) (recovered files.log) ≡ true
  for_image some = (λ i. names_after (fingerprint (is i)) (recovered files.log)) ∙ named.image some

  pub named_checkpoint : (c : LoggedFile) → KeepsOrPlaces files image c → AreTogether c
  named_checkpoint c (inl has) = named_same files c has named
  named_checkpoint c (inr placed) = ⊎_elim
      (λ same. record {
        own = (λ i. belongs (fingerprint (placed.0 i)) (same i))
            ∙ own_of (fingerprint image) (recovered files.log) for_image;
        image = λ some. (λ i. names_after (fingerprint (stands c (inr (placed.0, inl same)) i)) (same i))
            ∙ for_image (λ none. some (same ∙ none));
      })
      (λ none. empty_named c none) placed.1

  -- each state of a checkpoint stands for the image, with its own log
  pub mid_checkpoint : (c : LoggedFile) → KeepsOrPlaces files image c → KeepsImage image c
  mid_checkpoint c mid = record { stands = stands c mid; named = named_checkpoint c mid }
