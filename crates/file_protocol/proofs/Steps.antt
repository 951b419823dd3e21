-- Each step of a session leads to a state that fits, leaves to the others what they rely on, and loses nothing.
use Rattle.std.proofs.Common.{◌≡◌, ◌⊎◌, inl, inr, ℕ, zero, suc, Bool, true, false, cond, not, ◌==◌, ◌&&◌, List, [], ◌∷◌}
use Rattle.std.proofs.Common.{Option, None, Some}
use Rattle.std.proofs.Common.{sym, ◌∙◌, ap, refl, subst, eq-eqb, ne_eqb, eqb-true}
use Rattle.std.proofs.lemmas.Bool.{cases_eq}
use Rattle.std.proofs.lemmas.Option.{none-some}
use Rattle.file_protocol.specs.Sessions.{call_of, after_answer, at_rest, replaced, emptied}
use Rattle.file_protocol.specs.Worlds.{Shared, FolderState, Reply, put, beside, belongs, newest, records, finds}
use Rattle.file_protocol.specs.Worlds.{found_in, system, looked}
use Rattle.file_protocol.specs.Worlds.{locked, made_if, named, log_looked, seen_as, log_opened, opened_as, belongs_as}
use Rattle.file_protocol.specs.Worlds.{with_log}
use Rattle.file_protocol.specs.Worlds.{log_made, log_renewed, without_log, names_synced, appended, with_record}
use Rattle.file_protocol.specs.Worlds.{log_synced, tries}
use Rattle.file_protocol.specs.Worlds.{image_for, value_of, has_records, freed, answered, IsPromisedOrTried, is_free}
use Rattle.file_protocol.specs.Worlds.{leads_to}
use Rattle.file_protocol.specs.Worlds.{How, Works, Fails, FailsDone, ended_as, reply}
use Rattle.file_protocol.specs.declared.session.Session.{Session}
use Rattle.file_protocol.specs.declared.session.Session.TheVariants.{Seeking, Opened, Locked, Retrying, Absent}
use Rattle.file_protocol.specs.declared.session.Session.TheVariants.{Creating, Created}
use Rattle.file_protocol.specs.declared.session.Session.TheVariants.{CheckingName, Named, ClearingLog, SyncingName}
use Rattle.file_protocol.specs.declared.session.Session.TheVariants.{Unnaming}
use Rattle.file_protocol.specs.declared.session.Session.TheVariants.{Holding, RemovingEmpty, Bare, Left, MakingLog}
use Rattle.file_protocol.specs.declared.session.Session.TheVariants.{CopyingLog}
use Rattle.file_protocol.specs.declared.session.Session.TheVariants.{SyncingLog, Ready, CheckingFile, CheckingLog}
use Rattle.file_protocol.specs.declared.session.Session.TheVariants.{WritingBody}
use Rattle.file_protocol.specs.declared.session.Session.TheVariants.{SyncingBody, OpeningGate, SyncingGate, Unsure}
use Rattle.file_protocol.specs.declared.session.Session.TheVariants.{SyncingFirst}
use Rattle.file_protocol.specs.declared.session.Session.TheVariants.{Making, Looking, Renaming, CheckingRename}
use Rattle.file_protocol.specs.declared.session.Session.TheVariants.{Discarding}
use Rattle.file_protocol.specs.declared.session.Session.TheVariants.{SyncingRename, Unsynced, Unlocking, RemovingLog}
use Rattle.file_protocol.specs.declared.session.Session.TheVariants.{SyncingEnd}
use Rattle.file_protocol.specs.declared.session.Session.TheVariants.{Closing, Ending, Ended}
use Rattle.file_protocol.specs.declared.calls.Purpose.{Purpose}
use Rattle.file_protocol.specs.declared.calls.Purpose.TheVariants.{Checkpoint, Mend, Save}
use Rattle.file_protocol.specs.declared.calls.Outcome.{Outcome}
use Rattle.file_protocol.specs.declared.calls.Outcome.TheVariants.{Done, Failed}
use Rattle.file_protocol.proofs.Parts.{put_same, put_other, same_some, some_none, freed_other, freed_apart}
use Rattle.file_protocol.proofs.Parts.{belongs_appended}
use Rattle.file_protocol.proofs.Parts.{newest_appended, belongs_newest, newest_belongs, newest_newest, newest_any}
use Rattle.file_protocol.proofs.Parts.{none_recorded}
use Rattle.file_protocol.proofs.Parts.{none_if, true_false, records_own, records_stranger, found_at, finds_own}
use Rattle.file_protocol.proofs.Parts.{changed_now}
use Rattle.file_protocol.proofs.Parts.{synced_was, synced_now, both_true, not_true, leads_elsewhere}
use Rattle.file_protocol.proofs.Relies.{HasLog, IsSettled, IsAlone, IsUnsure, IsPlaced, IsSaved, IsMended, Rolls, On}
use Rattle.file_protocol.proofs.Relies.{Fits, LeavesTo}
use Rattle.file_protocol.proofs.Relies.{Safe, IsCurrent, FileLasts, LogLasts, ContentLasts, KeepsReaders, NoLog, NoLogs}
use Rattle.file_protocol.proofs.Relies.{HasLock}
use Rattle.file_protocol.proofs.Relies.{IsHidden, Before, IsFor, CanPlace, Placed, PlacedForGood, OnBare, Empty}
use Rattle.file_protocol.proofs.Relies.{left_records}

-- who makes the step
abbrev pub Is : ℕ → ℕ → Type 0
Is p q = q ≡ p

-- what a step of p does
pub record Effect (p : ℕ) (s t : Shared) : Type 0 where
  pub leaves : LeavesTo (Is p) s t
  pub readers : KeepsReaders s.opened s.disk t.disk
  pub safe : Safe t.disk
  pub current : IsCurrent t.disk

abbrev pub shared_of : (ℕ → Option ℕ) → (ℕ → Bool) → FolderState → Shared
shared_of owner opened d = record { owner = owner; opened = opened; disk = d }

-- a step is right, and its state fits
pub record Good (p : ℕ) (s : Shared) (owner : ℕ → Option ℕ) (d : FolderState) (x : Session) : Type 0 where
  pub effect : Effect p s (shared_of owner s.opened d)
  pub fits : Fits p (shared_of owner s.opened d) x

-- after a reply to a session in this state
abbrev pub GoodAfter : ℕ → Shared → Session → Reply → Type 0
GoodAfter p s a r = Good p s r.shared.owner (answered a r.answer r.shared.disk) (after_answer a r.answer)

-- nothing at all is not what was answered
no_image : (d : FolderState) (v : ℕ) → IsPromisedOrTried d v None → ⊥
no_image d v (inl is) = none-some v is
no_image d v (inr (u, tried, is)) = none-some u is

-- a session with one lock, and one with two
abbrev one_lock : (p : ℕ) (owner : ℕ → Option ℕ) (i : ℕ) → owner i ≡ Some p → (j : ℕ) → j ≡ i → owner j ≡ Some p
one_lock p owner i own j is = ap owner is ∙ own

two_locks : (p : ℕ) (owner : ℕ → Option ℕ) (i g : ℕ) → owner i ≡ Some p → owner g ≡ Some p → (j : ℕ)
    → (j ≡ i) ⊎ (j ≡ g) → owner j ≡ Some p
two_locks p owner i g own own_g j (inl is) = ap owner is ∙ own
two_locks p owner i g own own_g j (inr is) = ap owner is ∙ own_g

-- what the parts of a state know of the disk holds for one with another "trying"
module _ (d : FolderState) (u : Option ℕ) where
  abbrev trying : FolderState
  trying = record d { trying = u }

module _ (p : ℕ) (s : Shared) (safe : Safe s.disk) (current : IsCurrent s.disk) where
  abbrev d : FolderState
  d = s.disk

  abbrev In : Session → Type 0
  In x = Fits p s x

  still : LeavesTo (Is p) s s
  still = record {
    locks = λ i q ne own. own;
    disk = λ i q ne own name. refl;
    named = λ i q ne own is. is;
    seen = λ i q ne own no is. is;
  }

  keep_all : KeepsReaders s.opened d d
  keep_all = record { image = refl; is_log = refl; name = λ f seen is. is; content = λ l. inl refl }

  nothing : Effect p s s
  nothing = record { leaves = still; readers = keep_all; safe = safe; current = current }

  -- nothing changes
  same : (x : Session) → In x → Good p s s.owner s.disk x
  same x fits = record { effect = nothing; fits = fits }

  -- nothing changes, in a reply that shows it
  same_reply : (t : Shared) (x : Session) → t ≡ s → In x → Good p s t.owner t.disk x
  same_reply t x is fits = subst (λ (u : Shared). Good p s u.owner u.disk x) (sym is) (same x fits)

  -- a state that relies on nothing
  free : (owner : ℕ → Option ℕ) (t : FolderState) (x : Session) → ((j : ℕ) → HasLock x j → ⊥) → ((j : ℕ)
      → IsHidden x j → ⊥)
      → On t x → Fits p (shared_of owner s.opened t) x
  free owner t x unlocked shown knows =
      record { owns = λ j has. absurd (unlocked j has); knows = knows; unseen = λ j is. absurd (shown j is) }

  -- a state with the lock of i
  locked_one : (t : FolderState) (i : ℕ) (x : Session) → s.owner i ≡ Some p → ((j : ℕ) → HasLock x j → j ≡ i)
      → ((j : ℕ) → IsHidden x j → ⊥) → On t x → Fits p (shared_of s.owner s.opened t) x
  locked_one t i x own one shown knows = record {
    owns = λ j has. ap s.owner (one j has) ∙ own;
    knows = knows;
    unseen = λ j is. absurd (shown j is);
  }

  -- ---- the disk changes, by who has locked the file of the name

  mine : {A : Type 0} (i : ℕ) → s.owner i ≡ Some p → d.file ≡ Some i → (j q : ℕ) → (q ≡ p → ⊥) → s.owner j ≡ Some q
      → d.file ≡ Some j → A
  mine i owns file j q ne own name =
      absurd (ne (same_some q p (sym own ∙ ap s.owner (same_some j i (sym name ∙ file)) ∙ owns)))

  inside_named : (i : ℕ) → s.owner i ≡ Some p → d.file ≡ Some i → (t : FolderState)
      → ((j q : ℕ) → (q ≡ p → ⊥) → s.owner j ≡ Some q → t.file ≡ Some j → d.file ≡ Some j)
      → LeavesTo (Is p) s (shared_of s.owner s.opened t)
  inside_named i owns file t named = record {
    locks = λ j q ne own. own;
    disk = λ j q ne own name. mine i owns file j q ne own name;
    named = named;
    seen = λ j q ne own no is. is;
  }

  inside : (i : ℕ) → s.owner i ≡ Some p → d.file ≡ Some i → (t : FolderState) → t.file ≡ d.file
      → LeavesTo (Is p) s (shared_of s.owner s.opened t)
  inside i owns file t same = inside_named i owns file t (λ j q ne own is. sym same ∙ is)

  -- a file of p got the name
  its_own : {A : Type 0} (g j q : ℕ) → s.owner g ≡ Some p → (q ≡ p → ⊥) → s.owner j ≡ Some q → Some g ≡ Some j → A
  its_own g j q owns ne own is =
      absurd (ne (same_some q p (sym own ∙ ap s.owner (sym (same_some g j is)) ∙ owns)))

  -- and no reader opened it
  not_opened : {A : Type 0} (g f : ℕ) → s.opened g ≡ false → s.opened f ≡ true → Some g ≡ Some f → A
  not_opened g f unseen is named = true_false (sym is ∙ ap s.opened (sym (same_some g f named)) ∙ unseen)

  -- the log of the name changes, or no log
  log_kept : (l : ℕ) (c : List ℕ) (log : Option ℕ) → log ≡ Some l → (j : ℕ)
      → (put d.content l c j ≡ d.content j) ⊎ (log ≡ Some j)
  log_kept l c log is j = elim (cases_eq j l) [
    | inl eq ↦ inr (is ∙ ap (λ (k : ℕ). Some k) (sym eq))
    | inr ne ↦ inl (put_other d.content l c j ne)
  ]

  -- an opening finds this now
  found_now : (v : ℕ) → d.promised ≡ Some v → (f : ℕ) (c : List ℕ)
      → records d.is_log (λ j. d.contents j 0) (d.logs 0) ≡ c
      → IsPromisedOrTried d v (found_in d.image c (d.files f))
  found_now v told f c is =
      subst (λ (x : List ℕ). IsPromisedOrTried d v (found_in d.image x (d.files f))) is (safe f 0 (λ j. 0) v told)

  -- the records that are seen are among what a power cut leaves
  seen_records : (c : List ℕ) → records d.is_log d.content d.log ≡ c
      → records d.is_log (λ j. d.contents j 0) (d.logs 0) ≡ c
  seen_records c is =
      ap (records d.is_log (λ j. d.contents j 0)) current.log
      ∙ ap (λ (cs : ℕ → List ℕ). records d.is_log cs d.log) (λ k j. current.content j k) ∙ is

  -- ---- syncs

  -- what a synced log may have, it might have before
  synced_safe : (l : ℕ) → Safe (log_synced d l)
  synced_safe l f m c v is =
      subst (λ (cs : ℕ → List ℕ). IsPromisedOrTried d v (found_in d.image (records d.is_log cs (d.logs m)) (d.files f)))
      (sym (λ k j. synced_was d.content d.contents l c current.content j k)) (safe f m (put c l 0) v is)

  syncs_log : (i l : ℕ) → s.owner i ≡ Some p → d.file ≡ Some i
      → Effect p s (shared_of s.owner s.opened (log_synced d l))
  syncs_log i l own file = record {
    leaves = inside i own file _ refl;
    readers = record { image = refl; is_log = refl; name = λ f seen is. is; content = λ m. inl refl };
    safe = synced_safe l;
    current = record {
      file = current.file;
      log = current.log;
      content = synced_now d.content d.contents l current.content;
    };
  }

  lasts_now : (l k : ℕ) → put d.contents l (λ m. d.content l) l k ≡ d.content l
  lasts_now l k = ap (λ (g : ℕ → List ℕ). g k) (put_same d.contents l (λ m. d.content l))

  -- the names as they are now are among what a power cut leaves
  names_safe : Safe (names_synced d)
  names_safe f l c v is =
      subst (λ (o : Option ℕ). IsPromisedOrTried d v (found_in d.image (records d.is_log (λ j. d.contents j
      (c j)) d.log) o))
      current.file
      (subst (λ (o : Option ℕ). IsPromisedOrTried d v
      (found_in d.image (records d.is_log (λ j. d.contents j (c j)) o) (d.files 0)))
      current.log (safe 0 0 c v is))

  syncs_names : (i : ℕ) → s.owner i ≡ Some p → d.file ≡ Some i
      → Effect p s (shared_of s.owner s.opened (names_synced d))
  syncs_names i own file = record {
    leaves = inside i own file _ refl;
    readers = record { image = refl; is_log = refl; name = λ f seen is. is; content = λ m. inl refl };
    safe = names_safe;
    current = record { file = refl; log = refl; content = current.content };
  }

  -- and the image of a file without a log was answered
  abbrev told_disk : ℕ → FolderState
  told_disk v = record (names_synced d) { promised = Some v; trying = None }

  tells : (i v : ℕ) → s.owner i ≡ Some p → d.file ≡ Some i
      → ((c : ℕ → ℕ) → found_in d.image (records d.is_log (λ j. d.contents j (c j)) d.log) d.file ≡ Some v)
      → Effect p s (shared_of s.owner s.opened (told_disk v))
  tells i v own file found = record {
    leaves = inside i own file _ refl;
    readers = record { image = refl; is_log = refl; name = λ f seen is. is; content = λ m. inl refl };
    safe = λ f l c w is. inl (found c ∙ is);
    current = record { file = refl; log = refl; content = current.content };
  }

  -- without a log the file's own image is found
  found_alone : (i : ℕ) → d.file ≡ Some i → NoLog d.is_log d.log → (c : ℕ → ℕ)
      → found_in d.image (records d.is_log (λ j. d.contents j (c j)) d.log) d.file ≡ Some (d.image i)
  found_alone i file none c = found_at d.image _ [] d.file i file (none (λ j. d.contents j (c j)))

  alone : (i : ℕ) → d.file ≡ Some i → NoLog d.is_log d.log → IsAlone (told_disk (d.image i)) i
  alone i file none = record { file = file; no_log = none; file_lasts = λ k. file; no_logs = λ k. none; told = refl }

  tells_alone : (i : ℕ) (x : Session) → s.owner i ≡ Some p → d.file ≡ Some i → NoLog d.is_log d.log
      → ((j : ℕ) → HasLock x j → j ≡ i) → ((j : ℕ) → IsHidden x j → ⊥) → (IsAlone (told_disk (d.image i)) i
      → On (told_disk (d.image i)) x)
      → Good p s s.owner (told_disk (d.image i)) x
  tells_alone i x own file none one shown knows = record {
    effect = tells i (d.image i) own file (found_alone i file none);
    fits = locked_one (told_disk (d.image i)) i x own one shown (knows (alone i file none));
  }

  -- ---- the log's name is taken away

  -- nothing is promised
  unpromised : (t : FolderState) → t.promised ≡ None → Safe t
  unpromised t none f l c v is = absurd (none-some v (sym none ∙ is))

  removes : (i : ℕ) → s.owner i ≡ Some p → d.file ≡ Some i → Safe (without_log d)
      → Effect p s (shared_of s.owner s.opened (without_log d))
  removes i own file is_safe = record {
    leaves = inside i own file _ refl;
    readers = record { image = refl; is_log = refl; name = λ f seen is. is; content = λ m. inl refl };
    safe = is_safe;
    current = record { file = current.file; log = refl; content = current.content };
  }

  -- a log that has no records is as good as none
  removed_empty : (l : ℕ) → d.log ≡ Some l → d.is_log l ≡ true → d.content l ≡ [] → Safe (without_log d)
  removed_empty l log own empty f zero c v is =
      found_now v is f [] (seen_records [] (records_own d.is_log d.content d.log l [] log own empty))
  removed_empty l log own empty f (suc m) c v is = safe f m c v is

  -- a log that has nothing but what FILE has
  removed_rolled : (g l : ℕ) → IsPlaced d g l → FileLasts d g → Safe (without_log d)
  removed_rolled g l h lasts f zero c v is = inl (ap (found_in d.image []) (lasts f) ∙ sym h.told ∙ is)
  removed_rolled g l h lasts f (suc m) c v is = safe f m c v is

  -- ---- a log is made

  -- the new log has these records; beside each file that a power cut may leave they encode what was answered
  module _ (n : ℕ) (new : List ℕ) (is_log : d.is_log n ≡ true)
      (right : (v : ℕ) → d.promised ≡ Some v → (f : ℕ) → IsPromisedOrTried d v (found_in d.image new (d.files f))) where
    abbrev new_contents : ℕ → ℕ → List ℕ
    new_contents = put d.contents n (λ k. new)

    at_new : (c : ℕ → ℕ) → new_contents n (c n) ≡ new
    at_new c = ap (λ (g : ℕ → List ℕ). g (c n)) (put_same d.contents n (λ k. new))

    at_old : (c : ℕ → ℕ) (m : ℕ) → (m ≡ n → ⊥) → new_contents m (c m) ≡ d.contents m (c m)
    at_old c m ne = ap (λ (g : ℕ → List ℕ). g (c m)) (put_other d.contents n (λ k. new) m ne)

    with_new : (c : ℕ → ℕ) (m : ℕ) → m ≡ n → records d.is_log (λ j. new_contents j (c j)) (Some m) ≡ new
    with_new c m is = records_own d.is_log (λ j. new_contents j (c j)) (Some m) n new (ap (λ
        (k : ℕ). Some k) is) is_log (at_new c)

    other_records : (f v : ℕ) (c : ℕ → ℕ) → d.promised ≡ Some v → (o : Option ℕ)
        → IsPromisedOrTried d v (found_in d.image (records d.is_log (λ j. d.contents j (c j)) o) (d.files f))
        → IsPromisedOrTried d v (found_in d.image (records d.is_log (λ j. new_contents j (c j)) o) (d.files f))
    other_records f v c told None was = was
    other_records f v c told (Some m) was = elim (cases_eq m n) [
      | inl is ↦ subst (λ (x : List ℕ). IsPromisedOrTried d v (found_in d.image x (d.files f))) (sym (with_new c m is))
          (right v told f)
      | inr ne ↦ subst (λ (x : List ℕ). IsPromisedOrTried d v (found_in d.image (cond (d.is_log m) x []) (d.files f)))
          (sym (at_old c m ne)) was
    ]

    log_safe : Safe (with_log d n new)
    log_safe f zero c v told =
        subst (λ (x : List ℕ). IsPromisedOrTried d v (found_in d.image x (d.files f))) (sym (with_new c n refl))
        (right v told f)
    log_safe f (suc l) c v told = other_records f v c told (d.logs l) (safe f l c v told)

    makes_log : (i : ℕ) → s.owner i ≡ Some p → d.file ≡ Some i
        → Effect p s (shared_of s.owner s.opened (with_log d n new))
    makes_log i own file = record {
      leaves = inside i own file _ refl;
      readers = record { image = refl; is_log = refl; name = λ f seen is. is; content = log_kept n new (Some n) refl };
      safe = log_safe;
      current = record {
        file = current.file;
        log = refl;
        content = changed_now d.content d.contents n new (λ k. new) current.content refl;
      };
    }

    new_log : (i : ℕ) → d.file ≡ Some i → belongs (d.image i) new ≡ true → HasLog (with_log d n new) i n
    new_log i file own = record {
      file = file;
      log = refl;
      is_log = is_log;
      own = ap (belongs (d.image i)) (put_same d.content n new) ∙ own;
    }

    new_lasts : ContentLasts (with_log d n new) n
    new_lasts k = ap (λ (g : ℕ → List ℕ). g k) (put_same d.contents n (λ m. new)) ∙ sym (put_same d.content n new)

  -- an empty log, where there was none
  empty_right : d.log ≡ None → (v : ℕ) → d.promised ≡ Some v → (f : ℕ)
      → IsPromisedOrTried d v (found_in d.image [] (d.files f))
  empty_right none v told f = found_now v told f [] (seen_records [] (ap (records d.is_log d.content) none))

  -- a copy of the log
  copy_right : (i l : ℕ) → HasLog d i l → (v : ℕ) → d.promised ≡ Some v → (f : ℕ)
      → IsPromisedOrTried d v (found_in d.image (d.content l) (d.files f))
  copy_right i l h v told f = found_now v told f (d.content l)
      (seen_records (d.content l) (records_own d.is_log d.content d.log l (d.content l) h.log h.is_log refl))

  making_works : (i n : ℕ) → s.owner i ≡ Some p → d.file ≡ Some i → (b : Bool) → d.is_log n ≡ b → (o : Option ℕ)
      → d.log ≡ o
      → GoodAfter p s (MakingLog i) (log_made s d n b o)
  making_works i n own file true is_log None none = record {
    effect = makes_log n [] is_log (empty_right none) i own file;
    fits = locked_one (with_log d n []) i (SyncingLog i n false) own (λ j has. has) (λ j is. is) (
      new_log n [] is_log (empty_right none) i file refl,
      new_lasts n [] is_log
          (empty_right none),
      λ no. put_same d.content n [],
    );
  }
  making_works i n own file false is_log None none =
      same (Holding i) (locked_one d i (Holding i) own (λ j has. has) (λ j is. is) file)
  making_works i n own file true is_log (Some l) is =
      same (Holding i) (locked_one d i (Holding i) own (λ j has. has) (λ j is. is) file)
  making_works i n own file false is_log (Some l) is =
      same (Holding i) (locked_one d i (Holding i) own (λ j has. has) (λ j is. is) file)

  making_done : (i n : ℕ) → s.owner i ≡ Some p → d.file ≡ Some i → (b : Bool) → d.is_log n ≡ b → (o : Option ℕ)
      → d.log ≡ o
      → Good p s (log_made s d n b o).shared.owner (log_made s d n b o).shared.disk (Holding i)
  making_done i n own file true is_log None none = record {
    effect = makes_log n [] is_log (empty_right none) i own file;
    fits = locked_one (with_log d n []) i (Holding i) own (λ j has. has) (λ j is. is) file;
  }
  making_done i n own file false is_log None none =
      same (Holding i) (locked_one d i (Holding i) own (λ j has. has) (λ j is. is) file)
  making_done i n own file true is_log (Some l) is =
      same (Holding i) (locked_one d i (Holding i) own (λ j has. has) (λ j is. is) file)
  making_done i n own file false is_log (Some l) is =
      same (Holding i) (locked_one d i (Holding i) own (λ j has. has) (λ j is. is) file)

  copying_works : (i l n : ℕ) → s.owner i ≡ Some p → HasLog d i l → (b : Bool) → d.is_log n ≡ b
      → GoodAfter p s (CopyingLog i l) (log_renewed s d l n b)
  copying_works i l n own h true is_log = record {
    effect = makes_log n (d.content l) is_log (copy_right i l h) i own h.file;
    fits = locked_one (with_log d n (d.content l)) i (SyncingLog i n true) own (λ j has. has) (λ j is. is) (
      new_log n (d.content l) is_log (copy_right i l h) i h.file h.own,
      new_lasts n (d.content l) is_log (copy_right i l h),
      λ no. true_false no,
    );
  }
  copying_works i l n own h false is_log =
      same (Holding i) (locked_one d i (Holding i) own (λ j has. has) (λ j is. is) h.file)

  copying_done : (i l n : ℕ) → s.owner i ≡ Some p → HasLog d i l → (b : Bool) → d.is_log n ≡ b
      → Good p s (log_renewed s d l n b).shared.owner (log_renewed s d l n b).shared.disk (Holding i)
  copying_done i l n own h true is_log = record {
    effect = makes_log n (d.content l) is_log (copy_right i l h) i own h.file;
    fits = locked_one (with_log d n (d.content l)) i (Holding i) own (λ j has. has) (λ j is. is) h.file;
  }
  copying_done i l n own h false is_log =
      same (Holding i) (locked_one d i (Holding i) own (λ j has. has) (λ j is. is) h.file)

  -- the names of file and log are synced
  logged_works : (i l : ℕ) (b : Bool) → s.owner i ≡ Some p → On d (SyncingLog i l b)
      → Good p s s.owner (told_disk (newest (d.image i) (d.content l))) (Ready i l b)
  logged_works i l b own h = record {
    effect = tells i (newest (d.image i) (d.content l)) own h.0.file
        (λ c. found_at d.image _ (d.content l) d.file i h.0.file
        (records_own d.is_log (λ j. d.contents j (c j)) d.log l (d.content l) h.0.log h.0.is_log (h.1 (c l)))
        ∙ finds_own (d.image i) (d.content l) h.0.own);
    fits = locked_one (told_disk (newest (d.image i) (d.content l))) i (Ready i l b) own (λ j has. has) (λ j is. is) (
      record {
        has = record { file = h.0.file; log = h.0.log; is_log = h.0.is_log; own = h.0.own };
        file_lasts = λ k. h.0.file;
        log_lasts = λ k. h.0.log;
        content_lasts = h.1;
        told = refl;
      },
      h.2,
    );
  }

  -- ---- commits

  settled_synced : (i l : ℕ) → IsSettled d i l → IsSettled (log_synced d l) i l
  settled_synced i l h = record {
    has = record { file = h.has.file; log = h.has.log; is_log = h.has.is_log; own = h.has.own };
    file_lasts = h.file_lasts;
    log_lasts = h.log_lasts;
    content_lasts = lasts_now l;
    told = h.told;
  }

  -- the records of a settled log, beside a file of the image that was answered
  settled_rolls : (i l : ℕ) → IsSettled d i l → (k : ℕ) → Rolls d (newest (d.image i) (d.content l)) (d.contents l k)
  settled_rolls i l h k = record {
    own = ap (belongs (newest (d.image i) (d.content l))) (h.content_lasts k)
        ∙ belongs_newest (d.image i) (d.content l) h.has.own;
    newest_is = inl
        (ap (λ (x : List ℕ). Some (newest (newest (d.image i) (d.content l)) x)) (h.content_lasts k)
        ∙ ap (λ (x : ℕ). Some x) (newest_newest (d.image i) (d.content l)));
  }

  settled_unsure : (i l : ℕ) → IsSettled d i l → IsUnsure d i l
  settled_unsure i l h = record {
    has = h.has;
    file_lasts = h.file_lasts;
    log_lasts = h.log_lasts;
    image = newest (d.image i) (d.content l);
    told = h.told;
    rolls = settled_rolls i l h;
  }

  -- the same when the log is synced
  unsure_synced : (i l : ℕ) → IsUnsure d i l → IsUnsure (log_synced d l) i l
  unsure_synced i l h = record {
    has = record { file = h.has.file; log = h.has.log; is_log = h.has.is_log; own = h.has.own };
    file_lasts = h.file_lasts;
    log_lasts = h.log_lasts;
    image = h.image;
    told = h.told;
    rolls = λ k. record {
      own = ap (belongs h.image) (lasts_now l k ∙ sym (current.content l)) ∙ (h.rolls 0).own;
      newest_is = subst (λ (x : List ℕ). IsPromisedOrTried d h.image (Some (newest h.image x)))
          (current.content l ∙ sym (lasts_now l k)) (h.rolls 0).newest_is;
    };
  }

  -- a record is written
  module _ (i l v : ℕ) (own : s.owner i ≡ Some p) (h : IsSettled d i l) where
    abbrev new : List ℕ
    new = appended (d.image i) v (d.content l)

    abbrev more : FolderState
    more = with_record d l new v

    abbrev last : ℕ
    last = newest (d.image i) (d.content l)

    changed_is : (k : ℕ) → more.contents l k ≡ beside new (d.contents l) k
    changed_is k = ap (λ (g : ℕ → List ℕ). g k) (put_same d.contents l (beside new (d.contents l)))

    -- beside a file of the last image
    beside_last : (k : ℕ) → Rolls more last (beside new (d.contents l) k)
    beside_last zero = record {
      own = newest_belongs (d.image i) v (d.content l);
      newest_is = inr (v, refl, ap (λ (x : ℕ). Some x) (newest_any (d.image i) last v (d.content l)));
    }
    beside_last (suc k) = record {
      own = (settled_rolls i l h k).own;
      newest_is = inl
          (ap (λ (x : List ℕ). Some (newest last x)) (h.content_lasts k)
          ∙ ap (λ (x : ℕ). Some x) (newest_newest (d.image i) (d.content l)));
    }

    -- and beside the file itself
    beside_own : (k : ℕ) → belongs (d.image i) (beside new (d.contents l) k) ≡ true
    beside_own zero = belongs_appended (d.image i) v (d.content l) h.has.own
    beside_own (suc k) = ap (belongs (d.image i)) (h.content_lasts k) ∙ h.has.own

    found_one : (k w : ℕ) → d.promised ≡ Some w
        → IsPromisedOrTried more w (Some (newest (d.image i) (beside new (d.contents l) k)))
    found_one zero w told = inr (v, refl, ap (λ (x : ℕ). Some x) (newest_appended (d.image i) v (d.content l)))
    found_one (suc k) w told = inl
        (ap (λ (x : List ℕ). Some (newest (d.image i) x)) (h.content_lasts k) ∙ sym h.told ∙ told)

    record_safe : Safe more
    record_safe f m c w told =
        subst (λ (o : Option ℕ). IsPromisedOrTried more w o)
        (sym (found_at d.image (left_records more m c) (beside new (d.contents l) (c l)) (d.files f) i (h.file_lasts f)
        (records_own d.is_log (λ j. more.contents j (c j)) (d.logs m) l (beside new (d.contents l) (c l))
        (h.log_lasts m)
        h.has.is_log (changed_is (c l)))
        ∙ finds_own (d.image i) (beside new (d.contents l) (c l)) (beside_own (c l))))
        (found_one (c l) w told)

    writes_record : Effect p s (shared_of s.owner s.opened more)
    writes_record = record {
      leaves = inside i own h.has.file _ refl;
      readers = record {
        image = refl;
        is_log = refl;
        name = λ f seen is. is;
        content = log_kept l new d.log h.has.log;
      };
      safe = record_safe;
      current = record {
        file = current.file;
        log = current.log;
        content = changed_now d.content d.contents l new (beside new (d.contents l)) current.content refl;
      };
    }

    now_unsure : IsUnsure more i l
    now_unsure = record {
      has = record {
        file = h.has.file;
        log = h.has.log;
        is_log = h.has.is_log;
        own = ap (belongs (d.image i)) (put_same d.content l new)
            ∙ belongs_appended (d.image i) v (d.content l) h.has.own;
      };
      file_lasts = h.file_lasts;
      log_lasts = h.log_lasts;
      image = last;
      told = h.told;
      rolls = λ k. subst (λ (x : List ℕ). Rolls more last x) (sym (changed_is k)) (beside_last k);
    }

    opening_works : Good p s s.owner more (SyncingGate i l v)
    opening_works = record {
      effect = writes_record;
      fits = locked_one more i (SyncingGate i l v) own (λ j has. has) (λ j is. is) (
        now_unsure,
        ap (newest (d.image i)) (put_same d.content l new) ∙ newest_appended (d.image i) v (d.content l),
      );
    }

    opening_done : Good p s s.owner more (Unsure i l)
    opening_done = record {
      effect = writes_record;
      fits = locked_one more i (Unsure i l) own (λ j has. has) (λ j is. is) now_unsure;
    }

  -- the gate is synced
  abbrev committed_disk : ℕ → ℕ → FolderState
  committed_disk l v = record (log_synced d l) { promised = Some v; trying = None }

  committed_found : (i l v : ℕ) → On d (SyncingGate i l v) → (f m : ℕ) (c : ℕ → ℕ)
      → found_in d.image (left_records (log_synced d l) m c) (d.files f) ≡ Some v
  committed_found i l v h f m c =
      found_at d.image (left_records (log_synced d l) m c) (d.content l) (d.files f) i (h.0.file_lasts f)
      (records_own d.is_log (λ j. put d.contents l (λ k. d.content l) j (c j)) (d.logs m) l (d.content l)
      (h.0.log_lasts m)
      h.0.has.is_log (lasts_now l (c l)))
      ∙ finds_own (d.image i) (d.content l) h.0.has.own ∙ ap (λ (x : ℕ). Some x) h.1

  committing_works : (i l v : ℕ) → s.owner i ≡ Some p → On d (SyncingGate i l v)
      → Good p s s.owner (committed_disk l v) (Ready i l true)
  committing_works i l v own h = record {
    effect = record {
      leaves = inside i own h.0.has.file _ refl;
      readers = record { image = refl; is_log = refl; name = λ f seen is. is; content = λ m. inl refl };
      safe = λ f m c w is. inl (committed_found i l v h f m c ∙ is);
      current = record {
        file = current.file;
        log = current.log;
        content = synced_now d.content d.contents l current.content;
      };
    };
    fits = locked_one (committed_disk l v) i (Ready i l true) own (λ j has. has) (λ j is. is) (
      record {
        has = record { file = h.0.has.file; log = h.0.has.log; is_log = h.0.has.is_log; own = h.0.has.own };
        file_lasts = h.0.file_lasts;
        log_lasts = h.0.log_lasts;
        content_lasts = lasts_now l;
        told = ap (λ (x : ℕ). Some x) (sym h.1);
      },
      λ no. true_false no,
    );
  }

  -- ---- FILE is replaced

  -- what is free
  free_parts : (n x : ℕ) → is_free s n x ≡ true
      → (d.image n ≡ x) × (s.opened n ≡ false) × (d.file ≡ Some n → ⊥)
  free_parts n x free =
      let parts = both_true (d.image n == x) (not (s.opened n) && not (leads_to d.file n)) free in
      let more = both_true (not (s.opened n)) (not (leads_to d.file n)) parts.1 in (
        eqb-true (d.image n) x parts.0,
        not_true (s.opened n) more.0,
        leads_elsewhere d.file n (not_true (leads_to d.file n) more.1),
      )

  taken : (i j q : ℕ) → s.owner i ≡ None → s.owner j ≡ Some q → j ≡ i → ⊥
  taken i j q free own is = none-some q (sym free ∙ ap s.owner (sym is) ∙ own)

  -- a lock that nobody had
  one_more : (i : ℕ) → s.owner i ≡ None → LeavesTo (Is p) s (shared_of (put s.owner i (Some p)) s.opened d)
  one_more i free = record {
    locks = λ j q ne own. put_other s.owner i (Some p) j (taken i j q free own) ∙ own;
    disk = λ j q ne own name. refl;
    named = λ j q ne own is. is;
    seen = λ j q ne own no is. is;
  }

  takes_lock : (i : ℕ) → s.owner i ≡ None → Effect p s (shared_of (put s.owner i (Some p)) s.opened d)
  takes_lock i free = record { leaves = one_more i free; readers = keep_all; safe = safe; current = current }

  -- and a save is under way: the file is on the disk without a log
  saves : (i n v : ℕ) → s.owner i ≡ Some p → IsAlone d i → s.owner n ≡ None
      → Effect p s (shared_of (put s.owner n (Some p)) s.opened (tries d Save v))
  saves i n v own h free = record {
    leaves = record {
      locks = λ j q ne other. put_other s.owner n (Some p) j (taken n j q free other) ∙ other;
      disk = λ j q ne other name. mine i own h.file j q ne other name;
      named = λ j q ne other is. is;
      seen = λ j q ne other no is. is;
    };
    readers = record { image = refl; is_log = refl; name = λ f seen is. is; content = λ m. inl refl };
    safe = λ f l c w told. inl
        (found_at d.image (left_records d l c) [] (d.files f) i (h.file_lasts f) (h.no_logs l (λ j. d.contents j (c j)))
        ∙ sym h.told ∙ told);
    current = record { file = current.file; log = current.log; content = current.content };
  }

  alone_tries : (i v : ℕ) → IsAlone d i → IsAlone (tries d Save v) i
  alone_tries i v h =
      record { file = h.file; no_log = h.no_log; file_lasts = h.file_lasts; no_logs = h.no_logs; told = h.told }

  -- the state of rest before FILE was to be replaced
  rests : (owner : ℕ → Option ℕ) (i l : ℕ) (why : Purpose) → owner i ≡ Some p → Before d i l why
      → Fits p (shared_of owner s.opened d) (at_rest i l why)
  rests owner i l Checkpoint own h = record {
    owns = one_lock p owner i own;
    knows = (h, λ no. true_false no);
    unseen = λ j is. absurd is;
  }
  rests owner i l Mend own h = record { owns = one_lock p owner i own; knows = h; unseen = λ j is. absurd is }
  rests owner i l Save own h = record { owns = one_lock p owner i own; knows = h; unseen = λ j is. absurd is }

  -- the file that was made
  image_is : (i l v g : ℕ) (why : Purpose) → Before d i l why → d.image g ≡ image_for d why i l v
      → IsFor (tries d why v) g why
  image_is i l v g Checkpoint h is = h.told ∙ ap (λ (x : ℕ). Some x) (sym is)
  image_is i l v g Mend h is =
      h.told ∙ ap (λ (x : ℕ). Some x) (sym (ap (λ (o : Option ℕ). value_of o) h.told)) ∙ ap (λ (x : ℕ). Some x) (sym is)
  image_is i l v g Save h is = ap (λ (x : ℕ). Some x) (sym is)

  before_tries : (i l v : ℕ) (why : Purpose) → Before d i l why → Before (tries d why v) i l why
  before_tries i l v Checkpoint h = h
  before_tries i l v Mend h = h
  before_tries i l v Save h = alone_tries i v h

  makes : (i l v n : ℕ) (why : Purpose) → s.owner i ≡ Some p → Before d i l why → s.owner n ≡ None
      → Effect p s (shared_of (put s.owner n (Some p)) s.opened (tries d why v))
  makes i l v n Checkpoint own h free = takes_lock n free
  makes i l v n Mend own h free = takes_lock n free
  makes i l v n Save own h free = saves i n v own h free

  made_fits : (i l v n x : ℕ) (why : Purpose) → s.owner i ≡ Some p → Before d i l why → s.owner n ≡ None
      → is_free s n (image_for d why i l v) ≡ true
      → Fits p (shared_of (put s.owner n (Some p)) s.opened (tries d why v)) (Looking i l n why)
  made_fits i l v n x why own h free is =
      let parts = free_parts n (image_for d why i l v) is in
      record {
        owns = two_locks p (put s.owner n (Some p)) i n
            (put_other s.owner n (Some p) i (taken n i p free own) ∙ own) (put_same s.owner n (Some p));
        knows = record {
          before = before_tries i l v why h;
          image = image_is i l v n why h parts.0;
          other = λ at. taken n i p free own (sym at);
        };
        unseen = λ j at. ap s.opened at ∙ parts.1;
      }

  file_made : (i l v n x : ℕ) (why : Purpose) → s.owner i ≡ Some p → Before d i l why → (o : Option ℕ) (b : Bool)
      → s.owner n ≡ o → is_free s n (image_for d why i l v) ≡ b
      → GoodAfter p s (Making i l v why) (made_if s (tries d why v) p n o b)
  file_made i l v n x why own h None true free is = record {
    effect = makes i l v n why own h free;
    fits = made_fits i l v n x why own h free is;
  }
  file_made i l v n x why own h None false free is = same (at_rest i l why) (rests s.owner i l why own h)
  file_made i l v n x why own h (Some q) true has is = same (at_rest i l why) (rests s.owner i l why own h)
  file_made i l v n x why own h (Some q) false has is = same (at_rest i l why) (rests s.owner i l why own h)

  -- the state of rest, with one lock more
  rests_tries : (n i l v : ℕ) (why : Purpose) → s.owner i ≡ Some p → Before d i l why → s.owner n ≡ None
      → Fits p (shared_of (put s.owner n (Some p)) s.opened (tries d why v)) (at_rest i l why)
  rests_tries n i l v Checkpoint own h free =
      rests (put s.owner n (Some p)) i l Checkpoint (put_other s.owner n (Some p) i (taken n i p free own) ∙ own) h
  rests_tries n i l v Mend own h free =
      rests (put s.owner n (Some p)) i l Mend (put_other s.owner n (Some p) i (taken n i p free own) ∙ own) h
  rests_tries n i l v Save own h free = record {
    owns = one_lock p (put s.owner n (Some p)) i (put_other s.owner n (Some p) i (taken n i p free own) ∙ own);
    knows = alone_tries i v h;
    unseen = λ j is. absurd is;
  }

  file_made_done : (i l v n : ℕ) (why : Purpose) → s.owner i ≡ Some p → Before d i l why → (o : Option ℕ) (b : Bool)
      → s.owner n ≡ o
      → Good p s (made_if s (tries d why v) p n o b).shared.owner (made_if s (tries d why v) p n o b).shared.disk
      (at_rest i l why)
  file_made_done i l v n why own h None true free = record {
    effect = makes i l v n why own h free;
    fits = rests_tries n i l v why own h free;
  }
  file_made_done i l v n why own h None false free = same (at_rest i l why) (rests s.owner i l why own h)
  file_made_done i l v n why own h (Some q) true has = same (at_rest i l why) (rests s.owner i l why own h)
  file_made_done i l v n why own h (Some q) false has = same (at_rest i l why) (rests s.owner i l why own h)

  -- the rename
  abbrev placed_disk : ℕ → FolderState
  placed_disk g = record d { file = Some g; files = beside (Some g) d.files }

  -- beside the new file the log encodes what was answered
  image_rolls : (i l g : ℕ) → IsSettled d i l → d.promised ≡ Some (d.image g) → (k : ℕ)
      → Rolls d (d.image g) (d.contents l k)
  image_rolls i l g h is k =
      subst (λ (x : ℕ). Rolls d x (d.contents l k)) (same_some (newest (d.image i) (d.content l)) (d.image g)
      (sym h.told ∙ is))
      (settled_rolls i l h k)

  unsure_rolls : (i l g : ℕ) → (h : IsUnsure d i l) → d.promised ≡ Some (d.image g) → (k : ℕ)
      → Rolls d (d.image g) (d.contents l k)
  unsure_rolls i l g h is k =
      subst (λ (x : ℕ). Rolls d x (d.contents l k)) (same_some h.image (d.image g) (sym h.told ∙ is)) (h.rolls k)

  module _ (i l g : ℕ) (own : s.owner i ≡ Some p) (own_g : s.owner g ≡ Some p) (unseen : s.opened g ≡ false)
      (file : d.file ≡ Some i) where
    places : Safe (placed_disk g) → Effect p s (shared_of s.owner s.opened (placed_disk g))
    places is_safe = record {
      leaves = inside_named i own file _ (λ j q ne other is. its_own g j q own_g ne other is);
      readers = record {
        image = refl;
        is_log = refl;
        name = λ f seen is. not_opened g f unseen seen is;
        content = λ m. inl refl;
      };
      safe = is_safe;
      current = record { file = refl; log = current.log; content = current.content };
    }

    -- with a log
    module _ (has : HasLog d i l) (log_lasts : LogLasts d l) (told : d.promised ≡ Some (d.image g))
        (rolls : (k : ℕ) → Rolls d (d.image g) (d.contents l k)) where
      with_log_safe : Safe (placed_disk g)
      with_log_safe zero m c v is =
          subst (λ (o : Option ℕ). IsPromisedOrTried d v o)
          (sym (found_at d.image (left_records d m c) (d.contents l (c l)) (Some g) g refl
          (records_own d.is_log (λ j. d.contents j (c j)) (d.logs m) l (d.contents l (c l))
          (log_lasts m) has.is_log refl)
          ∙ finds_own (d.image g) (d.contents l (c l)) (rolls (c l)).own))
          (subst (λ (x : ℕ). IsPromisedOrTried d x (Some (newest (d.image g) (d.contents l (c l)))))
          (same_some (d.image g) v (sym told ∙ is)) (rolls (c l)).newest_is)
      with_log_safe (suc f) m c v is = safe f m c v is

      is_placed : IsPlaced (placed_disk g) g l
      is_placed = record {
        has = record {
          file = refl;
          log = has.log;
          is_log = has.is_log;
          own = ap (belongs (d.image g)) (sym (current.content l)) ∙ (rolls 0).own;
        };
        log_lasts = log_lasts;
        told = told;
        rolls = λ k. record { own = (rolls k).own; newest_is = (rolls k).newest_is };
      }

    -- without
    alone_safe : IsAlone d i → d.trying ≡ Some (d.image g) → Safe (placed_disk g)
    alone_safe h tried zero m c v is = inr (
      d.image g,
      tried,
      found_at d.image (left_records d m c) [] (Some g) g refl (h.no_logs m (λ j. d.contents j (c j))),
    )
    alone_safe h tried (suc f) m c v is = safe f m c v is

  can_file : (i l g : ℕ) (why : Purpose) → CanPlace d i l g why → d.file ≡ Some i
  can_file i l g Checkpoint h = h.before.has.file
  can_file i l g Mend h = h.before.has.file
  can_file i l g Save h = h.before.file

  -- how FILE is replaced, for each purpose
  placing : (i l g : ℕ) (why : Purpose) → s.owner i ≡ Some p → s.owner g ≡ Some p → s.opened g ≡ false
      → CanPlace d i l g why
      → Effect p s (shared_of s.owner s.opened (placed_disk g)) × Placed (placed_disk g) g l why
  placing i l g Checkpoint own own_g unseen h =
      let rolls : (k : ℕ) → Rolls d (d.image g) (d.contents l k) = image_rolls i l g h.before h.image in (
        places i l g own own_g unseen h.before.has.file
            (with_log_safe i l g own own_g unseen h.before.has.file h.before.has h.before.log_lasts h.image rolls),
        is_placed i l g own own_g unseen h.before.has.file h.before.has h.before.log_lasts h.image rolls,
      )
  placing i l g Mend own own_g unseen h =
      let rolls : (k : ℕ) → Rolls d (d.image g) (d.contents l k) = unsure_rolls i l g h.before h.image in (
        places i l g own own_g unseen h.before.has.file
            (with_log_safe i l g own own_g unseen h.before.has.file h.before.has h.before.log_lasts h.image rolls),
        is_placed i l g own own_g unseen h.before.has.file h.before.has h.before.log_lasts h.image rolls,
      )
  placing i l g Save own own_g unseen h = (
    places i l g own own_g unseen h.before.file
        (alone_safe i l g own own_g unseen h.before.file h.before h.image),
    record { file = refl; no_log = h.before.no_log; no_logs = h.before.no_logs },
  )

  placing_works : (i l g : ℕ) (why : Purpose) → In (Renaming i l g why)
      → Good p s s.owner (placed_disk g) (SyncingRename i l g why)
  placing_works i l g why h =
      let both = placing i l g why (h.owns i (inl refl)) (h.owns g (inr refl)) (h.unseen g refl) h.knows in
      record {
        effect = both.0;
        fits = record {
          owns = one_lock p s.owner g (h.owns g (inr refl));
          knows = (both.1, h.knows.other);
          unseen = λ j is. absurd is;
        };
      }

  placing_done : (i l g : ℕ) (why : Purpose) → In (Renaming i l g why)
      → Good p s s.owner (placed_disk g) (CheckingRename i l g why)
  placing_done i l g why h =
      let both = placing i l g why (h.owns i (inl refl)) (h.owns g (inr refl)) (h.unseen g refl) h.knows in
      record {
        effect = both.0;
        fits = record { owns = h.owns; knows = inr (both.1, h.knows.other); unseen = λ j is. absurd is };
      }

  -- the names are synced behind the rename
  placed_synced : (g l : ℕ) → IsPlaced d g l → IsPlaced (names_synced d) g l
  placed_synced g l h = record {
    has = record { file = h.has.file; log = h.has.log; is_log = h.has.is_log; own = h.has.own };
    log_lasts = λ k. h.has.log;
    told = h.told;
    rolls = λ k. record { own = (h.rolls k).own; newest_is = (h.rolls k).newest_is };
  }

  saved_synced : (g : ℕ) → IsSaved d g → IsSaved (names_synced d) g
  saved_synced g h = record { file = h.file; no_log = h.no_log; no_logs = λ k. h.no_log }

  placed_all_synced : (g l : ℕ) (why : Purpose) → Placed d g l why → Placed (names_synced d) g l why
  placed_all_synced g l Checkpoint h = placed_synced g l h
  placed_all_synced g l Mend h = placed_synced g l h
  placed_all_synced g l Save h = saved_synced g h

  is_at : (g l : ℕ) (why : Purpose) → Placed d g l why → d.file ≡ Some g
  is_at g l Checkpoint h = h.has.file
  is_at g l Mend h = h.has.file
  is_at g l Save h = h.file

  placed_works : (i l g : ℕ) (why : Purpose) → s.owner g ≡ Some p → On d (SyncingRename i l g why)
      → GoodAfter p s (SyncingRename i l g why) (system s p 0 0 (call_of (SyncingRename i l g why)))
  placed_works i l g Checkpoint own h = record {
    effect = syncs_names g own h.0.has.file;
    fits = locked_one (names_synced d) g (Unlocking i l g Checkpoint) own (λ j has. has) (λ j is. is)
        ((placed_synced g l h.0, λ k. h.0.has.file), h.1);
  }
  placed_works i l g Mend own h = record {
    effect = syncs_names g own h.0.has.file;
    fits = locked_one (names_synced d) g (Unlocking i l g Mend) own (λ j has. has) (λ j is. is)
        ((placed_synced g l h.0, λ k. h.0.has.file), h.1);
  }
  placed_works i l g Save own h =
      tells_alone g (Unlocking i l g Save) own h.0.file h.0.no_log (λ j has. has) (λ j is. is) (λ alone. (alone, h.1))

  placed_done : (i l g : ℕ) (why : Purpose) → s.owner g ≡ Some p → On d (SyncingRename i l g why)
      → Good p s s.owner (names_synced d) (Unsynced i l g why)
  placed_done i l g why own h = record {
    effect = syncs_names g own (is_at g l why h.0);
    fits = locked_one (names_synced d) g (Unsynced i l g why) own (λ j has. has) (λ j is. is)
        (placed_all_synced g l why h.0, h.1);
  }

  -- ---- locks

  frees : (i : ℕ) → Effect p s (shared_of (freed s.owner p i) s.opened d)
  frees i = record {
    leaves = record {
      locks = λ j q ne own. freed_other s.owner p i j q ne own;
      disk = λ j q ne own name. refl;
      named = λ j q ne own is. is;
      seen = λ j q ne own no is. is;
    };
    readers = keep_all;
    safe = safe;
    current = current;
  }

  -- the owners after p unlocked a file, or not
  abbrev Unlocks : ℕ → (ℕ → Option ℕ) → Type 0
  Unlocks i owner = (owner ≡ freed s.owner p i) ⊎ (owner ≡ s.owner)

  unlocks : (i : ℕ) (owner : ℕ → Option ℕ) → Unlocks i owner → Effect p s (shared_of owner s.opened d)
  unlocks i owner (inl is) = subst (λ (o : ℕ → Option ℕ). Effect p s (shared_of o s.opened d)) (sym is) (frees i)
  unlocks i owner (inr is) = subst (λ (o : ℕ → Option ℕ). Effect p s (shared_of o s.opened d)) (sym is) nothing

  -- another lock is kept
  keeps : (i g : ℕ) (owner : ℕ → Option ℕ) → Unlocks i owner → (g ≡ i → ⊥) → s.owner g ≡ Some p → owner g ≡ Some p
  keeps i g owner (inl is) ne own = ap (λ (o : ℕ → Option ℕ). o g) is ∙ freed_apart s.owner p i g ne ∙ own
  keeps i g owner (inr is) ne own = ap (λ (o : ℕ → Option ℕ). o g) is ∙ own

  replaced_fits : (owner : ℕ → Option ℕ) (g l : ℕ) (why : Purpose) → owner g ≡ Some p → PlacedForGood d g l why
      → Fits p (shared_of owner s.opened d) (replaced g l why)
  replaced_fits owner g l Checkpoint own h =
      record { owns = one_lock p owner g own; knows = h; unseen = λ j is. absurd is }
  replaced_fits owner g l Mend own h = record { owns = one_lock p owner g own; knows = h; unseen = λ j is. absurd is }
  replaced_fits owner g l Save own h = record { owns = one_lock p owner g own; knows = h; unseen = λ j is. absurd is }

  unlocking : (i l g : ℕ) (why : Purpose) (owner : ℕ → Option ℕ) → Unlocks i owner → In (Unlocking i l g why)
      → Good p s owner d (replaced g l why)
  unlocking i l g why owner how h = record {
    effect = unlocks i owner how;
    fits = replaced_fits owner g l why (keeps i g owner how h.knows.1 (h.owns g refl)) h.knows.0;
  }

  discarding : (i l g : ℕ) (why : Purpose) (owner : ℕ → Option ℕ) → Unlocks g owner → In (Discarding i l g why)
      → Good p s owner d (at_rest i l why)
  discarding i l g why owner how h = record {
    effect = unlocks g owner how;
    fits = rests owner i l why (keeps g i owner how (λ is. h.knows.other (sym is)) (h.owns i
        (inl refl))) h.knows.before;
  }

  -- a session without locks
  leaves_free : (i : ℕ) (owner : ℕ → Option ℕ) (x : Session) → Unlocks i owner → ((j : ℕ) → HasLock x j → ⊥)
      → ((j : ℕ) → IsHidden x j → ⊥) → On d x → Good p s owner d x
  leaves_free i owner x how unlocked shown knows = record {
    effect = unlocks i owner how;
    fits = free owner d x unlocked shown knows;
  }

  -- ---- looks

  looked_same : (o : Option ℕ) → (looked s o).shared ≡ s
  looked_same None = refl
  looked_same (Some i) = refl

  seen_same : (l : ℕ) (b : Bool) → (seen_as s l b).shared ≡ s
  seen_same l true = refl
  seen_same l false = refl

  log_looked_same : (o : Option ℕ) → (log_looked s o).shared ≡ s
  log_looked_same None = refl
  log_looked_same (Some l) = seen_same l (d.is_log l)

  belongs_same : (l : ℕ) (b : Bool) → (belongs_as s l b).shared ≡ s
  belongs_same l true = refl
  belongs_same l false = refl

  opened_same : (i l : ℕ) (b : Bool) → (opened_as s i l b).shared ≡ s
  opened_same i l true = belongs_same l (belongs (d.image i) (d.content l))
  opened_same i l false = refl

  log_opened_same : (i : ℕ) (o : Option ℕ) → (log_opened s i o).shared ≡ s
  log_opened_same i None = refl
  log_opened_same i (Some l) = opened_same i l (d.is_log l)

  -- nothing has the log's name
  nothing_there : d.log ≡ None → NoLog d.is_log d.log
  nothing_there none cs = ap (records d.is_log cs) none

  stranger_there : (l : ℕ) → d.log ≡ Some l → d.is_log l ≡ false → NoLog d.is_log d.log
  stranger_there l log not_log cs = records_stranger d.is_log cs d.log l log not_log

  -- the state after a look at FILE
  same_file : (i j : ℕ) (x y : Session) → (j ≡ i → In x) → In y → Good p s s.owner d (cond (j == i) x y)
  same_file i j x y then other = elim (cases_eq j i) [
    | inl eq ↦ subst (λ b. Good p s s.owner d (cond b x y)) (sym (eq-eqb j i eq)) (same x (then eq))
    | inr ne ↦ subst (λ b. Good p s s.owner d (cond b x y)) (sym (ne_eqb j i ne)) (same y other)
  ]

  -- a session with no lock, and what it knows of no disk
  unbound : (x : Session) → ((j : ℕ) → HasLock x j → ⊥) → ((j : ℕ) → IsHidden x j → ⊥) → On d x → In x
  unbound x unlocked shown knows = free s.owner d x unlocked shown knows

  no_lock : (j : ℕ) → ⊥ → ⊥
  no_lock j never = never

  abbrev gone : (i : ℕ) → In (Ending i)
  gone i = unbound (Ending i) no_lock no_lock tt

  -- one that holds i
  abbrev holds_i : (i : ℕ) → s.owner i ≡ Some p → d.file ≡ Some i → In (Holding i)
  holds_i i own file = locked_one d i (Holding i) own (λ j has. has) (λ j is. is) file

  seeking : (o : Option ℕ) → GoodAfter p s Seeking (looked s o)
  seeking None = same Absent (unbound Absent no_lock no_lock tt)
  seeking (Some i) = same (Opened i) (unbound (Opened i) no_lock no_lock tt)

  locking : (i : ℕ) (o : Option ℕ) → s.owner i ≡ o → GoodAfter p s (Opened i) (locked s p i o)
  locking i None is_free = record {
    effect = takes_lock i is_free;
    fits = record {
      owns = one_lock p (put s.owner i (Some p)) i (put_same s.owner i (Some p));
      knows = tt;
      unseen = λ j is. absurd is;
    };
  }
  locking i (Some q) has = same (Ending i) (gone i)

  locking_done : (i : ℕ) (o : Option ℕ) → s.owner i ≡ o
      → Good p s (locked s p i o).shared.owner (locked s p i o).shared.disk (Ending i)
  locking_done i None is_free = record {
    effect = takes_lock i is_free;
    fits = free (put s.owner i (Some p)) d (Ending i) no_lock no_lock tt;
  }
  locking_done i (Some q) has = same (Ending i) (gone i)

  looking : (i : ℕ) → s.owner i ≡ Some p → (o : Option ℕ) → d.file ≡ o → GoodAfter p s (Locked i) (looked s o)
  looking i own None is = same (Retrying i) (unbound (Retrying i) no_lock no_lock tt)
  looking i own (Some j) is =
      same_file i j (Holding i) (Retrying i) (λ eq. holds_i i own (is ∙ ap (λ (k : ℕ). Some k) eq))
      (unbound (Retrying i) no_lock no_lock tt)

  absence_if : (l : ℕ) (b : Bool) → Good p s s.owner d (cond b Ended Creating)
  absence_if l true = same Ended (unbound Ended no_lock no_lock tt)
  absence_if l false = same Creating (unbound Creating no_lock no_lock tt)

  absence_as : (l : ℕ) (b : Bool) → GoodAfter p s Absent (seen_as s l b)
  absence_as l true = absence_if l (has_records (d.content l))
  absence_as l false = same Creating (unbound Creating no_lock no_lock tt)

  absence : (o : Option ℕ) → GoodAfter p s Absent (log_looked s o)
  absence None = same Creating (unbound Creating no_lock no_lock tt)
  absence (Some l) = absence_as l (d.is_log l)

  -- ---- creation

  creating : (n x : ℕ) (o : Option ℕ) (b : Bool) → s.owner n ≡ o → is_free s n x ≡ b
      → GoodAfter p s Creating (made_if s d p n o b)
  creating n x None true no_owner is = record {
    effect = takes_lock n no_owner;
    fits = record {
      owns = one_lock p (put s.owner n (Some p)) n (put_same s.owner n (Some p));
      knows = (free_parts n x is).2;
      unseen = λ j at. ap s.opened at ∙ (free_parts n x is).1;
    };
  }
  creating n x None false no_owner is = same Ended (unbound Ended no_lock no_lock tt)
  creating n x (Some q) true has is = same Ended (unbound Ended no_lock no_lock tt)
  creating n x (Some q) false has is = same Ended (unbound Ended no_lock no_lock tt)

  creating_done : (n : ℕ) (o : Option ℕ) (b : Bool) → s.owner n ≡ o
      → Good p s (made_if s d p n o b).shared.owner (made_if s d p n o b).shared.disk Ended
  creating_done n None true no_owner = record {
    effect = takes_lock n no_owner;
    fits = free (put s.owner n (Some p)) d Ended no_lock no_lock tt;
  }
  creating_done n None false no_owner = same Ended (unbound Ended no_lock no_lock tt)
  creating_done n (Some q) true has = same Ended (unbound Ended no_lock no_lock tt)
  creating_done n (Some q) false has = same Ended (unbound Ended no_lock no_lock tt)

  -- nothing is promised of a file that does not exist
  not_promised : d.file ≡ None → d.promised ≡ None
  not_promised none = none_if d.promised
      (λ v is. no_image d v
      (subst (λ (o : Option ℕ). IsPromisedOrTried d v (found_in d.image (left_records d 0 (λ j. 0)) o))
      (current.file ∙ none)
      (safe 0 0 (λ j. 0) v is)))

  abbrev named_disk : ℕ → FolderState
  named_disk i = record d { file = Some i; files = beside (Some i) d.files }

  names : (i : ℕ) → s.owner i ≡ Some p → s.opened i ≡ false → d.file ≡ None
      → Effect p s (shared_of s.owner s.opened (named_disk i))
  names i own unseen none = record {
    leaves = record {
      locks = λ j q ne own. own;
      disk = λ j q ne own name. some_none j (sym name ∙ none);
      named = λ j q ne other is. its_own i j q own ne other is;
      seen = λ j q ne own no is. is;
    };
    readers = record {
      image = refl;
      is_log = refl;
      name = λ f seen is. not_opened i f unseen seen is;
      content = λ m. inl refl;
    };
    safe = unpromised (named_disk i) (not_promised none);
    current = record { file = refl; log = current.log; content = current.content };
  }

  naming : (i : ℕ) → s.owner i ≡ Some p → s.opened i ≡ false → (o : Option ℕ) → d.file ≡ o
      → GoodAfter p s (Created i) (named s d i o)
  naming i own unseen None none = record {
    effect = names i own unseen none;
    fits = locked_one (named_disk i) i (Named i) own (λ j has. has) (λ j is. is) (refl, not_promised none);
  }
  naming i own unseen (Some j) is = same (Retrying i) (unbound (Retrying i) no_lock no_lock tt)

  naming_done : (i : ℕ) → In (Created i) → (o : Option ℕ) → d.file ≡ o
      → Good p s (named s d i o).shared.owner (named s d i o).shared.disk (CheckingName i)
  naming_done i h None none = record {
    effect = names i (h.owns i refl) (h.unseen i refl) none;
    fits = locked_one (named_disk i) i (CheckingName i) (h.owns i refl) (λ j has. has) (λ j is. is)
        (inl (refl, not_promised none));
  }
  naming_done i h (Some j) is =
      same (CheckingName i) (record { owns = h.owns; knows = inr h.knows; unseen = λ j is. absurd is })

  checking_name : (i : ℕ) → s.owner i ≡ Some p → On d (CheckingName i) → (o : Option ℕ) → d.file ≡ o
      → GoodAfter p s (CheckingName i) (looked s o)
  checking_name i own h None is = same (Ending i) (gone i)
  checking_name i own h (Some j) is =
      same_file i j (Named i) (Ending i)
      (λ eq. locked_one d i (Named i) own (λ k has. has) (λ k never. never)
      (elim h [
        | inl named ↦ named
        | inr not_named ↦ absurd (not_named (is ∙ ap (λ (k : ℕ). Some k) eq))
      ]))
      (gone i)

  -- FILE leads to a new file of which nothing is promised
  module _ (i : ℕ) (own : s.owner i ≡ Some p) (file : d.file ≡ Some i) (none : d.promised ≡ None) where
    unnames : In (Unnaming i)
    unnames = locked_one d i (Unnaming i) own (λ j has. has) (λ j is. is) (file, none)

    syncs_next : NoLog d.is_log d.log → In (SyncingName i)
    syncs_next no_log = locked_one d i (SyncingName i) own (λ j has. has) (λ j is. is) (file, none, no_log)

    second_if : (l : ℕ) (b : Bool) → d.log ≡ Some l → d.is_log l ≡ true
        → Good p s s.owner d (cond b (Unnaming i) (ClearingLog i l))
    second_if l true log is_log = same (Unnaming i) unnames
    second_if l false log is_log =
        same (ClearingLog i l)
        (locked_one d i (ClearingLog i l) own (λ j has. has) (λ j is. is) (file, none, log, is_log))

    second_as : (l : ℕ) (b : Bool) → d.log ≡ Some l → d.is_log l ≡ b → GoodAfter p s (Named i) (seen_as s l b)
    second_as l true log is_log = second_if l (has_records (d.content l)) log is_log
    second_as l false log is_log = same (SyncingName i) (syncs_next (stranger_there l log is_log))

    second_look : (o : Option ℕ) → d.log ≡ o → GoodAfter p s (Named i) (log_looked s o)
    second_look None is = same (SyncingName i) (syncs_next (nothing_there is))
    second_look (Some l) is = second_as l (d.is_log l) is refl

    clears : Effect p s (shared_of s.owner s.opened (without_log d))
    clears = removes i own file (unpromised (without_log d) none)

    clearing_works : Good p s s.owner (without_log d) (SyncingName i)
    clearing_works = record {
      effect = clears;
      fits = locked_one (without_log d) i (SyncingName i) own (λ j has. has) (λ j is. is) (file, none, λ cs. refl);
    }

    clearing_done : Good p s s.owner (without_log d) (Unnaming i)
    clearing_done = record {
      effect = clears;
      fits = locked_one (without_log d) i (Unnaming i) own (λ j has. has) (λ j is. is) (file, none);
    }

    naming_synced : Good p s s.owner (names_synced d) (Unnaming i)
    naming_synced = record {
      effect = syncs_names i own file;
      fits = locked_one (names_synced d) i (Unnaming i) own (λ j has. has) (λ j is. is) (file, none);
    }

    abbrev unnamed_disk : FolderState
    unnamed_disk = record d { file = None; files = beside None d.files }

    unnaming : Good p s s.owner unnamed_disk (Ending i)
    unnaming = record {
      effect = record {
        leaves = inside_named i own file _ (λ j q ne other is. absurd (none-some j is));
        readers = record {
          image = refl;
          is_log = refl;
          name = λ f seen is. absurd
              (none-some f is);
          content = λ m. inl refl;
        };
        safe = unpromised unnamed_disk none;
        current = record { file = refl; log = current.log; content = current.content };
      };
      fits = free s.owner unnamed_disk (Ending i) no_lock no_lock tt;
    }

  -- ---- the log is opened

  module _ (i : ℕ) (own : s.owner i ≡ Some p) (file : d.file ≡ Some i) where
    bare : NoLog d.is_log d.log → In (Bare i false)
    bare none = locked_one d i (Bare i false) own (λ j has. has) (λ j is. is) (file, none)

    opened_if : (l : ℕ) (b : Bool) → HasLog d i l → has_records (d.content l) ≡ b
        → Good p s s.owner d (cond b (Left i l) (RemovingEmpty i l))
    opened_if l true h is = same (Left i l) (locked_one d i (Left i l) own (λ j has. has) (λ j is. is) h)
    opened_if l false h is =
        same (RemovingEmpty i l)
        (locked_one d i (RemovingEmpty i l) own (λ j has. has) (λ j is. is) (h, none_recorded (d.content l) is))

    opened_own : (l : ℕ) (b : Bool) → d.log ≡ Some l → d.is_log l ≡ true → belongs (d.image i) (d.content l) ≡ b
        → GoodAfter p s (Holding i) (belongs_as s l b)
    opened_own l true log is_log own_log =
        opened_if l (has_records (d.content l)) (record { file = file; log = log; is_log = is_log; own = own_log }) refl
    opened_own l false log is_log foreign = same (Ending i) (gone i)

    opened_log : (l : ℕ) (b : Bool) → d.log ≡ Some l → d.is_log l ≡ b → GoodAfter p s (Holding i) (opened_as s i l b)
    opened_log l true log is_log = opened_own l (belongs (d.image i) (d.content l)) log is_log refl
    opened_log l false log is_log = same (Bare i false) (bare (stranger_there l log is_log))

    holding : (o : Option ℕ) → d.log ≡ o → GoodAfter p s (Holding i) (log_opened s i o)
    holding None is = same (Bare i false) (bare (nothing_there is))
    holding (Some l) is = opened_log l (d.is_log l) is refl

    empties : (l : ℕ) → HasLog d i l → d.content l ≡ [] → Effect p s (shared_of s.owner s.opened (without_log d))
    empties l h empty = removes i own file (removed_empty l h.log h.is_log empty)

    emptying_works : (l : ℕ) → HasLog d i l → d.content l ≡ [] → Good p s s.owner (without_log d) (Bare i false)
    emptying_works l h empty = record {
      effect = empties l h empty;
      fits = locked_one (without_log d) i (Bare i false) own (λ j has. has) (λ j is. is) (file, λ cs. refl);
    }

    emptying_done : (l : ℕ) → HasLog d i l → d.content l ≡ [] → Good p s s.owner (without_log d) (Ending i)
    emptying_done l h empty = record {
      effect = empties l h empty;
      fits = free s.owner (without_log d) (Ending i) no_lock no_lock tt;
    }

    names_again : (x : Session) → ((j : ℕ) → HasLock x j → j ≡ i) → ((j : ℕ) → IsHidden x j → ⊥)
        → On (names_synced d) x → Good p s s.owner (names_synced d) x
    names_again x one shown knows = record {
      effect = syncs_names i own file;
      fits = locked_one (names_synced d) i x own one shown knows;
    }

  -- ---- FILE or FILE-log before a change

  file_checked : (i l : ℕ) (b : Bool) (v : ℕ) → In (CheckingLog i l b v) → (o : Option ℕ)
      → GoodAfter p s (CheckingFile i l b v) (looked s o)
  file_checked i l b v h None = same (Ending i) (gone i)
  file_checked i l b v h (Some j) = same_file i j (CheckingLog i l b v) (Ending i) (λ eq. h) (gone i)

  before_place : (i l g : ℕ) (why : Purpose) → In (Renaming i l g why) → (o : Option ℕ)
      → GoodAfter p s (Looking i l g why) (looked s o)
  before_place i l g why h None = same (Ending i) (gone i)
  before_place i l g why h (Some j) = same_file i j (Renaming i l g why) (Ending i) (λ eq. h) (gone i)

  log_checked_as : (i l : ℕ) (b : Bool) (v m : ℕ) (is_log : Bool) → In (WritingBody i l b v)
      → GoodAfter p s (CheckingLog i l b v) (seen_as s m is_log)
  log_checked_as i l b v m true h = same_file l m (WritingBody i l b v) (Ending i) (λ eq. h) (gone i)
  log_checked_as i l b v m false h = same (Ending i) (gone i)

  log_checked : (i l : ℕ) (b : Bool) (v : ℕ) → In (WritingBody i l b v) → (o : Option ℕ)
      → GoodAfter p s (CheckingLog i l b v) (log_looked s o)
  log_checked i l b v h None = same (Ending i) (gone i)
  log_checked i l b v h (Some m) = log_checked_as i l b v m (d.is_log m) h

  -- which file FILE leads to behind a rename that failed
  place_checked : (i l g : ℕ) (why : Purpose) → In (CheckingRename i l g why)
      → CanPlace d i l g why ⊎ (Placed d g l why × (g ≡ i → ⊥))
      → GoodAfter p s (CheckingRename i l g why) (looked s d.file)
  place_checked i l g why h (inl can) =
      subst (λ (o : Option ℕ). GoodAfter p s (CheckingRename i l g why) (looked s o)) (sym (can_file i l g why can))
      (subst (λ b. Good p s s.owner d (cond b (SyncingRename i l g why) (cond (i == i) (Discarding i l g why)
      (Ending i))))
      (sym (ne_eqb i g (λ is. can.other (sym is))))
      (same_file i i (Discarding i l g why) (Ending i)
      (λ eq. record { owns = h.owns; knows = can; unseen = λ j is. absurd is }) (gone i)))
  place_checked i l g why h (inr placed) =
      subst (λ (o : Option ℕ). GoodAfter p s (CheckingRename i l g why) (looked s o)) (sym (is_at g l why placed.0))
      (subst (λ b. Good p s s.owner d (cond b (SyncingRename i l g why) (cond (g == i) (Discarding i l g why)
      (Ending i))))
      (sym (eq-eqb g g refl))
      (same (SyncingRename i l g why)
      (record { owns = one_lock p s.owner g (h.owns g (inr refl)); knows = placed; unseen = λ j is. absurd is })))

  -- ---- each call, that works

  one : (i : ℕ) (x : Session) → In x → HasLock x i → s.owner i ≡ Some p
  one i x h has = h.owns i has

  ends : (a : Session) (i : ℕ) → Good p s (freed s.owner p i) d Ended
  ends a i = leaves_free i (freed s.owner p i) Ended (inl refl) no_lock no_lock tt

  removing_works : (g l : ℕ) (why : Purpose) → s.owner g ≡ Some p → IsPlaced d g l → FileLasts d g
      → Good p s s.owner (without_log d) (emptied g why)
  removing_works g l Checkpoint own h lasts = record {
    effect = removes g own h.has.file (removed_rolled g l h lasts);
    fits = locked_one (without_log d) g (Bare g false) own (λ j has. has) (λ j is. is) (h.has.file, λ cs. refl);
  }
  removing_works g l Mend own h lasts = record {
    effect = removes g own h.has.file (removed_rolled g l h lasts);
    fits = locked_one (without_log d) g (SyncingEnd g) own (λ j has. has) (λ j is. is)
        (record { file = h.has.file; no_log = λ cs. refl; file_lasts = lasts });
  }
  removing_works g l Save own h lasts = record {
    effect = removes g own h.has.file (removed_rolled g l h lasts);
    fits = locked_one (without_log d) g (Bare g false) own (λ j has. has) (λ j is. is) (h.has.file, λ cs. refl);
  }

  removing_done : (g l : ℕ) → s.owner g ≡ Some p → IsPlaced d g l → FileLasts d g
      → Good p s s.owner (without_log d) (Holding g)
  removing_done g l own h lasts = record {
    effect = removes g own h.has.file (removed_rolled g l h lasts);
    fits = locked_one (without_log d) g (Holding g) own (λ j has. has) (λ j is. is) h.has.file;
  }

  works : (n x : ℕ) (a : Session) → In a → GoodAfter p s a (system s p n x (call_of a))
  works n x Seeking h = seeking d.file
  works n x (Opened i) h = locking i (s.owner i) refl
  works n x (Locked i) h = looking i (h.owns i refl) d.file refl
  works n x (Retrying i) h = leaves_free i (freed s.owner p i) Seeking (inl refl) no_lock no_lock tt
  works n x Absent h = absence d.log
  works n x Creating h = creating n x (s.owner n) (is_free s n x) refl refl
  works n x (Created i) h = naming i (h.owns i refl) (h.unseen i refl) d.file refl
  works n x (CheckingName i) h = checking_name i (h.owns i refl) h.knows d.file refl
  works n x (Named i) h = second_look i (h.owns i refl) h.knows.0 h.knows.1 d.log refl
  works n x (ClearingLog i l) h = clearing_works i (h.owns i refl) h.knows.0 h.knows.1
  works n x (SyncingName i) h =
      tells_alone i (Bare i true) (h.owns i refl) h.knows.0 h.knows.2 (λ j has. has) (λ j is. is) (λ alone. alone)
  works n x (Unnaming i) h = unnaming i (h.owns i refl) h.knows.0 h.knows.1
  works n x (Holding i) h = holding i (h.owns i refl) h.knows d.log refl
  works n x (RemovingEmpty i l) h = emptying_works i (h.owns i refl) h.knows.0.file l h.knows.0 h.knows.1
  works n x (Bare i b) h = same (Bare i b) h
  works n x (Left i l) h = same (Left i l) h
  works n x (MakingLog i) h = making_works i n (h.owns i refl) h.knows (d.is_log n) refl d.log refl
  works n x (CopyingLog i l) h = copying_works i l n (h.owns i refl) h.knows (d.is_log n) refl
  works n x (SyncingLog i l b) h = logged_works i l b (h.owns i refl) h.knows
  works n x (Ready i l b) h = same (Ready i l b) h
  works n x (CheckingFile i l b v) h =
      file_checked i l b v (record { owns = h.owns; knows = h.knows; unseen = λ j is. absurd is }) d.file
  works n x (CheckingLog i l b v) h =
      log_checked i l b v (record { owns = h.owns; knows = h.knows; unseen = λ j is. absurd is }) d.log
  works n x (WritingBody i l b v) h =
      same (SyncingBody i l v) (record { owns = h.owns; knows = h.knows.0; unseen = λ j is. absurd is })
  works n x (SyncingBody i l v) h = record {
    effect = syncs_log i l (h.owns i refl) h.knows.has.file;
    fits = locked_one (log_synced d l) i (OpeningGate i l v) (h.owns i refl) (λ j has. has) (λ j is. is)
        (settled_synced i l h.knows);
  }
  works n x (OpeningGate i l v) h = opening_works i l v (h.owns i refl) h.knows
  works n x (SyncingGate i l v) h = committing_works i l v (h.owns i refl) h.knows
  works n x (Unsure i l) h = same (Unsure i l) h
  works n x (SyncingFirst i v) h =
      tells_alone i (Making i 0 v Save) (h.owns i refl) h.knows.0 h.knows.1 (λ j has. has) (λ j is. is) (λ alone. alone)
  works n x (Making i l v why) h =
      file_made i l v n x why (h.owns i refl) h.knows (s.owner n) (is_free s n (image_for d why i l v)) refl refl
  works n x (Looking i l g why) h =
      before_place i l g why (record { owns = h.owns; knows = h.knows; unseen = h.unseen }) d.file
  works n x (Renaming i l g why) h = placing_works i l g why h
  works n x (CheckingRename i l g why) h = place_checked i l g why h h.knows
  works n x (Discarding i l g why) h = discarding i l g why (freed s.owner p g) (inl refl) h
  works n x (SyncingRename i l g why) h = placed_works i l g why (h.owns g refl) h.knows
  works n x (Unsynced i l g why) h = same (Unsynced i l g why) h
  works n x (Unlocking i l g why) h = unlocking i l g why (freed s.owner p i) (inl refl) h
  works n x (RemovingLog g l why) h = removing_works g l why (h.owns g refl) h.knows.0 h.knows.1
  works n x (SyncingEnd g) h =
      tells_alone g (Bare g true) (h.owns g refl) h.knows.file h.knows.no_log (λ j has. has) (λ j is. is)
      (λ alone. alone)
  works n x (Closing i l) h = emptying_done i (h.owns i refl) h.knows.0.file l h.knows.0 h.knows.1
  works n x (Ending i) h = ends (Ending i) i
  works n x Ended h = same Ended h

  -- ---- each call, that fails and was not done

  unsynced : (i l g : ℕ) (why : Purpose) → In (SyncingRename i l g why) → In (Unsynced i l g why)
  unsynced i l g why h = record { owns = h.owns; knows = h.knows; unseen = λ j is. absurd is }

  place_unsynced : (i l g : ℕ) (why : Purpose) → In (SyncingRename i l g why)
      → GoodAfter p s (SyncingRename i l g why) (reply s Failed)
  place_unsynced i l g Checkpoint h = same (Unsynced i l g Checkpoint) (unsynced i l g Checkpoint h)
  place_unsynced i l g Mend h = same (Unsynced i l g Mend) (unsynced i l g Mend h)
  place_unsynced i l g Save h = same (Unsynced i l g Save) (unsynced i l g Save h)

  fails : (a : Session) → In a → GoodAfter p s a (reply s Failed)
  fails (Created i) h =
      same (CheckingName i) (record { owns = h.owns; knows = inr h.knows; unseen = λ j is. absurd is })
  fails (Named i) h = same (Unnaming i) (unnames i (h.owns i refl) h.knows.0 h.knows.1)
  fails (ClearingLog i l) h = same (Unnaming i) (unnames i (h.owns i refl) h.knows.0 h.knows.1)
  fails (SyncingName i) h = same (Unnaming i) (unnames i (h.owns i refl) h.knows.0 h.knows.1)
  fails (Bare i b) h = same (Bare i b) h
  fails (Left i l) h = same (Left i l) h
  fails (MakingLog i) h = same (Holding i) (holds_i i (h.owns i refl) h.knows)
  fails (CopyingLog i l) h = same (Holding i) (holds_i i (h.owns i refl) h.knows.file)
  fails (SyncingLog i l b) h = same (Holding i) (holds_i i (h.owns i refl) h.knows.0.file)
  fails (Ready i l b) h = same (Ready i l b) h
  fails (WritingBody i l b v) h =
      same (Ready i l b) (record { owns = h.owns; knows = h.knows; unseen = λ j is. absurd is })
  fails (SyncingBody i l v) h =
      same (Unsure i l) (record { owns = h.owns; knows = settled_unsure i l h.knows; unseen = λ j is. absurd is })
  fails (OpeningGate i l v) h =
      same (Unsure i l) (record { owns = h.owns; knows = settled_unsure i l h.knows; unseen = λ j is. absurd is })
  fails (SyncingGate i l v) h =
      same (Unsure i l) (record { owns = h.owns; knows = h.knows.0; unseen = λ j is. absurd is })
  fails (Unsure i l) h = same (Unsure i l) h
  fails (SyncingFirst i v) h =
      same (Bare i false) (record { owns = h.owns; knows = h.knows; unseen = λ j is. absurd is })
  fails (Making i l v why) h = same (at_rest i l why) (rests s.owner i l why (h.owns i refl) h.knows)
  fails (Renaming i l g why) h =
      same (CheckingRename i l g why) (record { owns = h.owns; knows = inl h.knows; unseen = λ j is. absurd is })
  fails (Discarding i l g why) h = discarding i l g why s.owner (inr refl) h
  fails (SyncingRename i l g why) h = place_unsynced i l g why h
  fails (Unsynced i l g why) h = same (Unsynced i l g why) h
  fails (Unlocking i l g why) h = unlocking i l g why s.owner (inr refl) h
  fails (RemovingLog g l why) h = same (Holding g) (holds_i g (h.owns g refl) h.knows.0.has.file)
  fails (SyncingEnd g) h = same (Holding g) (holds_i g (h.owns g refl) h.knows.file)
  fails a h = same (after_answer a Failed) (unbound (after_answer a Failed) no_lock no_lock tt)

  -- ---- each call, that fails and was done all the same

  abbrev DoneButFailed : ℕ → ℕ → Session → Type 0
  DoneButFailed n x a = GoodAfter p s a (ended_as s (system s p n x (call_of a)) FailsDone)

  place_synced_untold : (i l g : ℕ) (why : Purpose) → In (SyncingRename i l g why)
      → DoneButFailed 0 0 (SyncingRename i l g why)
  place_synced_untold i l g Checkpoint h = placed_done i l g Checkpoint (h.owns g refl) h.knows
  place_synced_untold i l g Mend h = placed_done i l g Mend (h.owns g refl) h.knows
  place_synced_untold i l g Save h = placed_done i l g Save (h.owns g refl) h.knows

  fails_done : (n x : ℕ) (a : Session) → In a → DoneButFailed n x a
  fails_done n x Seeking h =
      same_reply (looked s d.file).shared Ended (looked_same d.file) (unbound Ended no_lock no_lock tt)
  fails_done n x (Opened i) h = locking_done i (s.owner i) refl
  fails_done n x (Locked i) h =
      same_reply (looked s d.file).shared (Retrying i) (looked_same d.file) (unbound (Retrying i) no_lock no_lock tt)
  fails_done n x (Retrying i) h = leaves_free i (freed s.owner p i) Seeking (inl refl) no_lock no_lock tt
  fails_done n x Absent h =
      same_reply (log_looked s d.log).shared Ended (log_looked_same d.log) (unbound Ended no_lock no_lock tt)
  fails_done n x Creating h = creating_done n (s.owner n) (is_free s n x) refl
  fails_done n x (Created i) h = naming_done i h d.file refl
  fails_done n x (CheckingName i) h = same_reply (looked s d.file).shared (Ending i) (looked_same d.file) (gone i)
  fails_done n x (Named i) h =
      same_reply (log_looked s d.log).shared (Unnaming i) (log_looked_same d.log)
      (unnames i (h.owns i refl) h.knows.0 h.knows.1)
  fails_done n x (ClearingLog i l) h = clearing_done i (h.owns i refl) h.knows.0 h.knows.1
  fails_done n x (SyncingName i) h = naming_synced i (h.owns i refl) h.knows.0 h.knows.1
  fails_done n x (Unnaming i) h = unnaming i (h.owns i refl) h.knows.0 h.knows.1
  fails_done n x (Holding i) h =
      same_reply (log_opened s i d.log).shared (Ending i) (log_opened_same i d.log) (gone i)
  fails_done n x (RemovingEmpty i l) h = emptying_done i (h.owns i refl) h.knows.0.file l h.knows.0 h.knows.1
  fails_done n x (Bare i b) h = same (Bare i b) h
  fails_done n x (Left i l) h = same (Left i l) h
  fails_done n x (MakingLog i) h = making_done i n (h.owns i refl) h.knows (d.is_log n) refl d.log refl
  fails_done n x (CopyingLog i l) h = copying_done i l n (h.owns i refl) h.knows (d.is_log n) refl
  fails_done n x (SyncingLog i l b) h =
      names_again i (h.owns i refl) h.knows.0.file (Holding i) (λ j has. has) (λ j is. is) h.knows.0.file
  fails_done n x (Ready i l b) h = same (Ready i l b) h
  fails_done n x (CheckingFile i l b v) h = same_reply (looked s d.file).shared (Ending i) (looked_same d.file) (gone i)
  fails_done n x (CheckingLog i l b v) h = same_reply (log_looked s d.log).shared (Ending i)
      (log_looked_same d.log) (gone i)
  fails_done n x (WritingBody i l b v) h =
      same (Ready i l b) (record { owns = h.owns; knows = h.knows; unseen = λ j is. absurd is })
  fails_done n x (SyncingBody i l v) h = record {
    effect = syncs_log i l (h.owns i refl) h.knows.has.file;
    fits = locked_one (log_synced d l) i (Unsure i l) (h.owns i refl) (λ j has. has) (λ j is. is)
        (unsure_synced i l (settled_unsure i l h.knows));
  }
  fails_done n x (OpeningGate i l v) h = opening_done i l v (h.owns i refl) h.knows
  fails_done n x (SyncingGate i l v) h = record {
    effect = syncs_log i l (h.owns i refl) h.knows.0.has.file;
    fits = locked_one (log_synced d l) i (Unsure i l) (h.owns i refl) (λ j has. has) (λ j is. is)
        (unsure_synced i l h.knows.0);
  }
  fails_done n x (Unsure i l) h = same (Unsure i l) h
  fails_done n x (SyncingFirst i v) h =
      names_again i (h.owns i refl) h.knows.0 (Bare i false) (λ j has. has) (λ j is. is) h.knows
  fails_done n x (Making i l v why) h =
      file_made_done i l v n why (h.owns i refl) h.knows (s.owner n) (is_free s n (image_for d why i l v)) refl
  fails_done n x (Looking i l g why) h = same_reply (looked s d.file).shared (Ending i) (looked_same d.file) (gone i)
  fails_done n x (Renaming i l g why) h = placing_done i l g why h
  fails_done n x (CheckingRename i l g why) h =
      same_reply (looked s d.file).shared (Ending i) (looked_same d.file) (gone i)
  fails_done n x (Discarding i l g why) h = discarding i l g why (freed s.owner p g) (inl refl) h
  fails_done n x (SyncingRename i l g why) h = place_synced_untold i l g why h
  fails_done n x (Unsynced i l g why) h = same (Unsynced i l g why) h
  fails_done n x (Unlocking i l g why) h = unlocking i l g why (freed s.owner p i) (inl refl) h
  fails_done n x (RemovingLog g l why) h = removing_done g l (h.owns g refl) h.knows.0 h.knows.1
  fails_done n x (SyncingEnd g) h =
      names_again g (h.owns g refl) h.knows.file (Holding g) (λ j has. has) (λ j is. is) h.knows.file
  fails_done n x (Closing i l) h = emptying_done i (h.owns i refl) h.knows.0.file l h.knows.0 h.knows.1
  fails_done n x (Ending i) h = ends (Ending i) i
  fails_done n x Ended h = same Ended h

  -- each step of a session
  pub good_step : (n x : ℕ) (how : How) (a : Session) → In a
      → GoodAfter p s a (ended_as s (system s p n x (call_of a)) how)
  good_step n x Works a h = works n x a h
  good_step n x Fails a h = fails a h
  good_step n x FailsDone a h = fails_done n x a h
