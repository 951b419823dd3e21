-- The laws of whole histories, from those of one call.
use Rattle.std.proofs.Common.{◌≡◌, ⊎_elim, inl, inr, ℕ, ◌+◌, true, List, [], ◌∷◌, length, refl, sym, ◌∙◌, subst}
use Rattle.segment_log.specs.Crashes.{LoggedFile}
use Rattle.segment_log.specs.Edits.{stands_for, StandsForOneOf}
use Rattle.segment_log.specs.Events.{seen_in_the_end}
use Rattle.segment_log.specs.Laws.{Committed, commit_events, shut_events, checkpoint_events}
use Rattle.segment_log.specs.Records.{IsAjar, IsEndOfLog}
use Rattle.segment_log.specs.Histories.{Commits, Checkpoints, CrashesInCommit, CrashesInCheckpoint}
use Rattle.segment_log.specs.Histories.{OpeningFindsOne, HistoriesStayReady}
use Rattle.segment_log.specs.Openings.{IsReady}
use Rattle.segment_log.specs.Tags.{IsMidCommit, KeepsImage}
use Rattle.segment_log.proofs.theorems.Found.{commit_finds_one, committed_finds_the_new, shut_is_ready}
use Rattle.segment_log.proofs.theorems.Found.{repair_finds_the_same, repaired_is_ready, checkpoint_finds_the_same}
use Rattle.segment_log.proofs.theorems.Found.{checkpointed_is_ready}

-- one of two images, as before
still : (c d : LoggedFile) (last image : List ℕ) → IsMidCommit last image c → KeepsImage (stands_for c) d
    → IsMidCommit last image d
still c d last image mid keeps = record {
  image = ⊎_elim (λ is. inl (keeps.stands ∙ is)) (λ is. inr (keeps.stands ∙ is)) mid.image;
  named = keeps.named;
}

-- a file that is ready for an image is so for what it stands for
as_it_stands : (files : LoggedFile) (end : ℕ) (image : List ℕ) → IsReady files end image
    → IsReady files end (stands_for files)
as_it_stands files end image ready = record { ends = ready.ends; own = ready.own; stands = refl }

-- an opening that shut the gate
shut_it : (left now : LoggedFile) (end : ℕ) (last image : List ℕ) → IsMidCommit last image left
    → IsEndOfLog 4096 left.log end → now ≡ seen_in_the_end left (shut_events end true true)
    → IsReady now end (stands_for now) × StandsForOneOf last image now
shut_it left now end last image mid ends is =
    let done : IsReady (seen_in_the_end left (shut_events end true true)) end (stands_for left) =
    (repaired_is_ready left end ends mid.named).ready in
    subst (λ (f : LoggedFile). IsReady f end (stands_for f) × StandsForOneOf last image f) (sym is) (
      as_it_stands (seen_in_the_end left (shut_events end true true)) end (stands_for left) done,
      ⊎_elim (λ was. inl (done.stands ∙ was)) (λ was. inr (done.stands ∙ was)) mid.image,
    )

-- an opening that found the gate shut
found_shut : (left now : LoggedFile) (end : ℕ) (last image : List ℕ) → IsMidCommit last image left
    → IsEndOfLog 4096 left.log end → (IsAjar 4096 left.log end → ⊥) → now ≡ left
    → IsReady now end (stands_for now) × StandsForOneOf last image now
found_shut left now end last image mid ends shut is =
    subst (λ (f : LoggedFile). IsReady f end (stands_for f) × StandsForOneOf last image f) (sym is)
    (shut_is_ready left end ends shut mid.named, mid.image)

-- the law of an opening
pub opening_finds_one : OpeningFindsOne
opening_finds_one left now [] end last image mid opens =
    ⊎_elim (λ shut. shut_it left now end last image mid opens.0 shut.1)
    (λ found. found_shut left now end last image mid opens.0 found.0 found.1) opens.1
opening_finds_one left now (crash ∷ crashes) end last image mid opens =
    let c : LoggedFile = opens.3.0 in
    opening_finds_one c now crashes end last image
    (still left c last image mid
    (repair_finds_the_same left opens.0 crash.0 crash.1 opens.1 opens.2 mid.named crash.2 c opens.3.1))
    opens.3.2

-- the law of histories
pub histories_stay_ready : HistoriesStayReady
histories_stay_ready [] files now end at last found ready same =
    subst (λ (f : LoggedFile). IsReady f at found) (sym same.0)
    (subst (λ (e : ℕ). IsReady files e found) (sym same.1)
    (subst (λ (i : List ℕ). IsReady files end i) (sym same.2) ready))
histories_stay_ready (Commits payload image ∷ operations) files now end at last found ready goes =
    histories_stay_ready operations (seen_in_the_end files (commit_events end payload Committed)) now
    (end + 4096 + 8 + length payload) at image found
    (committed_finds_the_new files end payload last image ready goes.0).ready goes.1
histories_stay_ready (Checkpoints ∷ operations) files now end at last found ready goes =
    histories_stay_ready operations (seen_in_the_end files (checkpoint_events last true true true)) now 0 at last found
    (checkpointed_is_ready files end last ready goes.0).ready goes.1
histories_stay_ready (CrashesInCommit payload image how k crashes ∷ operations) files now end at last found ready goes =
    let c : LoggedFile = goes.1.0 in
    let mid = commit_finds_one files end payload last image how ready goes.0 k c goes.1.1 in
    let again = goes.1.2 in
    histories_stay_ready operations again.now now again.end at (stands_for again.now) found
    (opening_finds_one c again.now crashes again.end last image mid again.opens).0 again.goes
histories_stay_ready
    (CrashesInCheckpoint placed written synced k crashes ∷ operations) files now end at last found ready goes =
    let c : LoggedFile = goes.1.0 in
    let keeps = checkpoint_finds_the_same files end last placed written synced ready goes.0 k c goes.1.1 in
    let mid : IsMidCommit last last c = record { image = inl keeps.stands; named = keeps.named } in
    let again = goes.1.2 in
    histories_stay_ready operations again.now now again.end at (stands_for again.now) found
    (opening_finds_one c again.now crashes again.end last last mid again.opens).0 again.goes
