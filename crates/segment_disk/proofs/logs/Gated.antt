-- A log that is cut behind its records, and gets a shut gate there, can take a record.
use Rattle.std.proofs.Common.{◌≡◌, ◌≢◌, ℕ, zero, suc, ◌+◌, ◌<◌, ◌≤◌, List, [], ◌∷◌, ◌++◌, length, take, drop, get_or}
use Rattle.std.proofs.Common.{true, refl, sym, ◌∙◌, ap, subst, arith}
use Rattle.std.proofs.lemmas.List.{append-nil, drop_all, length-take-le, take_all}
use Rattle.segment_log.specs.CommittedImages.{IsCommitted}
use Rattle.segment_log.specs.Crashes.{LoggedFile, with_log}
use Rattle.segment_log.specs.Edits.{applied_all, stands_for}
use Rattle.segment_log.specs.Events.{seen_in_the_end}
use Rattle.segment_log.specs.Fingerprints.{fingerprint}
use Rattle.segment_log.specs.Laws.{shut_events}
use Rattle.segment_log.specs.Openings.{IsReady, RepairedIsReady}
use Rattle.segment_log.specs.Records.{IsEndOfLog, next_at, recovered, recovered_at, shut_gate}
use Rattle.segment_log.specs.Tags.{AreTogether, belongs, names_after}
use Rattle.segment_log.specs.declared.committed_image.CommittedImage.{CommittedImage}
use Rattle.segment_log.specs.declared.recovery.RecoveredImage.{RecoveredImage}
use Rattle.segment_disk.specs.Logs.{Recovers}

first_kept : (n : ℕ) (l : List ℕ) → 0 < n → get_or (take n l) 0 0 ≡ get_or l 0 0
first_kept zero l some = absurd (omega (arith, some))
first_kept (suc n) [] some = refl
first_kept (suc n) (x ∷ xs) some = refl

module _ (base log : List ℕ) (made : RecoveredImage) (r : Recovers base log made) where
  abbrev cut : List ℕ
  cut = take made.end log

  cut_len : length cut ≡ made.end
  cut_len = length-take-le made.end log r.end.within

  cut_again : take made.end cut ≡ cut
  cut_again = take_all made.end cut (omega (arith, cut_len))

  nothing_behind : (n : ℕ) → made.end ≤ n → drop n cut ≡ []
  nothing_behind n long = drop_all n cut (omega (arith, cut_len, long))

  cut_records : recovered cut ≡ recovered log
  cut_records = ap recovered (sym (append-nil cut)) ∙ r.end.prefix [] ∙ append-nil (recovered log)

  cut_ends : IsEndOfLog 4096 cut made.end
  cut_ends = record {
    prefix = λ tail. ap (λ (l : List ℕ). recovered_at 4096 (l ++ tail)) cut_again ∙ r.end.prefix tail
        ∙ ap (λ (ps : List (List ℕ)). ps ++ recovered_at 4096 tail) (sym cut_records);
    within = omega (arith, cut_len);
    none = ap (next_at 4096) (nothing_behind made.end (omega arith));
    marked = λ some. first_kept made.end log some ∙ r.end.marked some;
  }

  cut_together : AreTogether (with_log base cut)
  cut_together = record {
    own = ap (belongs (fingerprint base)) cut_records ∙ r.together.own;
    image = subst (λ (ps : List (List ℕ)). ps ≢ [] → names_after (fingerprint (applied_all ps base)) ps ≡ true)
        (sym cut_records) r.together.image;
  }

  cut_stands : stands_for (with_log base cut) ≡ made.image.items
  cut_stands = ap (λ (ps : List (List ℕ)). applied_all ps base) cut_records ∙ sym r.image

  gated : take made.end cut ++ shut_gate ++ drop (made.end + length shut_gate) cut ≡ cut ++ shut_gate
  gated = ap (λ (l : List ℕ). l ++ shut_gate ++ drop (made.end + length shut_gate) cut) cut_again
      ∙ (ap (λ (l : List ℕ). cut ++ shut_gate ++ l) (nothing_behind (made.end + length shut_gate) (omega arith))
      ∙ append-nil (cut ++ shut_gate))

  -- it stands with its file for the image that was recovered
  pub gated_stands : RepairedIsReady → IsCommitted (with_log base (cut ++ shut_gate))
      (record { image = made.image; end = made.end; base = made.base })
  gated_stands law = record {
    ready = subst (λ (image : List ℕ). IsReady (with_log base (cut ++ shut_gate)) made.end image) cut_stands
        (subst (λ (l : List ℕ). IsReady (with_log base l) made.end (stands_for (with_log base cut))) gated
        (law (with_log base cut) made.end cut_ends cut_together).ready);
    base = sym r.named;
  }
