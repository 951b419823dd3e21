-- What is kept of a file with its log, after a commit and after a checkpoint.
use Rattle.std.proofs.Common.{◌≡◌, ◌≢◌, ⊎_elim, inl, inr, ℕ, zero, suc, ◌+◌, ◌*◌, ◌<◌, ◌≤◌, ◌^◌, true}
use Rattle.std.proofs.Common.{List, [], length, take, Result, Ok, Err, refl, sym, ◌∙◌, ap, subst, arith}
use Rattle.segment_log.specs.Crashes.{LoggedFile}
use Rattle.segment_log.specs.Edits.{applied, applied_all}
use Rattle.segment_log.specs.Events.{LogEvent, leaves_after, seen_in_the_end}
use Rattle.segment_log.specs.Fingerprints.{fingerprint}
use Rattle.segment_log.specs.Openings.{IsReady, IsPayloadFor}
use Rattle.segment_log.specs.Tags.{names_base, names_image, IsMidCommit, KeepsImage}
use Rattle.segment_log.specs.Committing.{CommitsRecord, CrashLeaves, MakesCheckpoint}
use Rattle.segment_log.specs.CommittedImages.{IsCommitted, EndsCommitted, CommitsImage, PlacesCommitted}
use Rattle.segment_log.specs.declared.committed_image.CommittedImage.{CommittedImage}
use Rattle.segment_log.specs.declared.committing.CommitError.{CommitError}
use Rattle.segment_log.specs.declared.committing.CommitError.TheVariants.{OutOfMemory}
use Rattle.segment_log.proofs.theorems.Repair.{none_at_start}

-- ---- calls that asked for nothing

at_once : (files : LoggedFile) (k : ℕ) (c : LoggedFile) → leaves_after files (take k []) c → c ≡ files
at_once files zero c left = left
at_once files (suc k) c left = left

nothing : (files : LoggedFile) (P : LoggedFile → Type 0) → P files → CrashLeaves files [] P
nothing files P holds k c left = subst P (sym (at_once files k c left)) holds

mid_now : (files : LoggedFile) (kept : CommittedImage) (image : List ℕ) → IsCommitted files kept
    → IsMidCommit kept.image.items image files
mid_now files kept image is = record { image = inl is.ready.stands; named = is.ready.own }

stays : (files : LoggedFile) (kept : CommittedImage) → IsCommitted files kept → EndsCommitted files [] kept
stays files kept is = record { committed = is; lasts = λ c left. left }

module _ {D : Type 0} (step : D → LogEvent → D → Type 0) (old : D) (kept : CommittedImage) (image : List ℕ) where
  -- a commit of the image that is kept
  pub unchanged : kept.image.items ≡ image → CommitsImage step old old kept kept image (Ok tt)
  unchanged same = record {
    events = [];
    asked = refl;
    crash = λ files is. nothing files (IsMidCommit kept.image.items image) (mid_now files kept image is);
    on_ok = record { contents = same; lasts = λ files is. stays files kept is };
    on_error = tt;
    noop = λ is. refl;
    refused = λ is. refl;
    too_long = λ is. absurd (cc is);
    fault = λ is. absurd (cc is);
  }

  -- a commit without memory
  pub refused : CommitsImage step old old kept kept image (Err OutOfMemory)
  refused = record {
    events = [];
    asked = refl;
    crash = λ files is. nothing files (IsMidCommit kept.image.items image) (mid_now files kept image is);
    on_ok = tt;
    on_error = refl;
    noop = λ is. refl;
    refused = λ is. refl;
    too_long = λ is. absurd (cc is);
    fault = λ is. absurd (cc is);
  }

-- ---- a commit

module _ {D : Type 0} (step : D → LogEvent → D → Type 0) (old new : D) (kept : CommittedImage)
    (image payload given first : List ℕ) (same : payload ≡ given) (from : first ≡ kept.image.items)
    (changed : kept.image.items ≢ image) (makes : applied given first ≡ image)
    (base : names_base kept.base given ≡ true) (after : names_image (fingerprint image) given ≡ true)
    (small : length payload < 256 ^ 8) (few : length given ≤ 17 * length image + 4144) where
  payload_for : (files : LoggedFile) → IsCommitted files kept → IsPayloadFor files payload kept.image.items image
  payload_for files is = record {
    makes = (λ i. applied (same i) (sym from i)) ∙ makes;
    base = λ none. (λ i. names_base (is.base i) (same i)) ∙ base;
    after = ap (names_image (fingerprint image)) same ∙ after;
    max_len = small;
  }

  -- a commit that failed
  pub failed : (why : CommitError) → CommitsRecord step old new kept.end payload (Err why)
      → CommitsImage step old new kept kept image (Err why)
  failed why w = record {
    events = w.events;
    asked = w.asked;
    crash = λ files is. w.crash files kept.image.items image is.ready (payload_for files is);
    on_ok = tt;
    on_error = refl;
    noop = λ is. absurd (changed is);
    refused = ⊎_elim (λ is. w.refused (inl (cc is))) (λ is. w.refused (inr (cc is)));
    too_long = λ is. ⊎_elim (λ log. inl log)
        (λ long. inr (omega (arith, long, ap length same, few))) (w.too_long (cc is));
    fault = λ is. w.fault (cc is);
  }

  -- a commit that is done
  pub done : (end : ℕ) → CommitsRecord step old new kept.end payload (Ok end) → (now : CommittedImage)
      → now.image.items ≡ image → now.end ≡ end → now.base ≡ kept.base
      → CommitsImage step old new kept now image (Ok tt)
  done end w now contents at based = record {
    events = w.events;
    asked = w.asked;
    crash = λ files is. w.crash files kept.image.items image is.ready (payload_for files is);
    on_ok = record {
      contents = contents;
      lasts = λ files is.
          let r = w.on_ok files kept.image.items image is.ready (payload_for files is) in
          record {
            committed = record {
              ready = subst (λ (n : ℕ). IsReady (seen_in_the_end files w.events) n now.image.items) (sym at)
                  (subst (λ (l : List ℕ). IsReady (seen_in_the_end files w.events) end l) (sym contents) r.ready);
              base = ap fingerprint (w.base files) ∙ is.base ∙ sym based;
            };
            lasts = r.lasts;
          };
    };
    on_error = tt;
    noop = λ is. absurd (changed is);
    refused = ⊎_elim (λ is. absurd (cc is)) (λ is. absurd (cc is));
    too_long = λ is. absurd (cc is);
    fault = λ is. absurd (cc is);
  }

-- ---- a checkpoint

ready_base : (files : LoggedFile) (image : List ℕ) → IsReady files 0 image → files.base ≡ image
ready_base files image ready =
    sym (ap (λ (ps : List (List ℕ)). applied_all ps files.base) (none_at_start 4095 files.log ready.ends))
    ∙ ready.stands

keeps_now : (files : LoggedFile) (kept : CommittedImage) → IsCommitted files kept → KeepsImage kept.image.items files
keeps_now files kept is = record { stands = is.ready.stands; named = is.ready.own }

module _ {D : Type 0} (step : D → LogEvent → D → Type 0) (old : D) (kept : CommittedImage) where
  -- a checkpoint of a log without a record
  pub nothing_to_place : kept.end ≡ 0 → PlacesCommitted step old old kept kept (Ok tt)
  nothing_to_place none = record {
    events = [];
    asked = refl;
    crash = λ files is. nothing files (KeepsImage kept.image.items) (keeps_now files kept is);
    on_ok = λ files is. record {
      ends = stays files kept is;
      base = ready_base files kept.image.items
          (subst (λ (n : ℕ). IsReady files n kept.image.items) none is.ready);
    };
    unchanged = refl;
    on_error = tt;
    cause = tt;
  }

module _ {D : Type 0} (step : D → LogEvent → D → Type 0) (old new : D) (kept : CommittedImage) (some : 0 < kept.end)
    (image : List ℕ) (as_kept : image ≡ kept.image.items) where
  checkpointed : {result : Result (Unit {0}) CommitError} → MakesCheckpoint step old new image result
      → MakesCheckpoint step old new kept.image.items result
  checkpointed {result} w = subst (λ (l : List ℕ). MakesCheckpoint step old new l result) as_kept w

  -- a checkpoint that failed
  pub not_placed : (why : CommitError) → MakesCheckpoint step old new image (Err why)
      → PlacesCommitted step old new kept kept (Err why)
  not_placed why done_so = let w = checkpointed done_so in record {
    events = w.events;
    asked = w.asked;
    crash = λ files is. w.crash files kept.end is.ready some;
    on_ok = tt;
    unchanged = refl;
    on_error = refl;
    cause = w.cause;
  }

  -- a checkpoint that is done
  pub placed : MakesCheckpoint step old new image (Ok tt) → (now : CommittedImage)
      → now.image ≡ kept.image → now.end ≡ 0 → now.base ≡ fingerprint kept.image.items
      → PlacesCommitted step old new kept now (Ok tt)
  placed done_so now same none base = let w = checkpointed done_so in record {
    events = w.events;
    asked = w.asked;
    crash = λ files is. w.crash files kept.end is.ready some;
    on_ok = λ files is.
        let r = w.on_ok files kept.end is.ready some in
        let items : now.image.items ≡ kept.image.items = ap (λ v. v.items) same in
        let in_file = ready_base (seen_in_the_end files w.events) kept.image.items r.ready in
        record {
          ends = record {
            committed = record {
              ready = subst (λ (n : ℕ). IsReady (seen_in_the_end files w.events) n now.image.items) (sym none)
                  (subst (λ (l : List ℕ). IsReady (seen_in_the_end files w.events) 0 l) (sym items) r.ready);
              base = ap fingerprint in_file ∙ sym base;
            };
            lasts = r.lasts;
          };
          base = in_file ∙ sym items;
        };
    unchanged = same;
    on_error = tt;
    cause = tt;
  }
