-- What a session relies on in each state, and what a step leaves as it was to the sessions that did not make it.
use Rattle.std.proofs.Common.{◌≡◌, ◌⊎◌, inl, inr, ℕ, Bool, true, false, List, [], Option, None, Some, sym, ◌∙◌, ap}
use Rattle.std.proofs.Common.{refl, subst}
use Rattle.file_protocol.proofs.Parts.{same_some, true_false}
use Rattle.file_protocol.specs.Worlds.{Shared, FolderState, belongs, newest, records, found_in, IsPromisedOrTried}
use Rattle.file_protocol.specs.Worlds.{is_writer}
use Rattle.file_protocol.specs.declared.session.Session.{Session}
use Rattle.file_protocol.specs.declared.session.Session.TheVariants.{Seeking, Opened, Locked, Retrying, Absent}
use Rattle.file_protocol.specs.declared.session.Session.TheVariants.{Creating, Created}
use Rattle.file_protocol.specs.declared.session.Session.TheVariants.{CheckingName, Named, ClearingLog, SyncingName}
use Rattle.file_protocol.specs.declared.session.Session.TheVariants.{Unnaming}
use Rattle.file_protocol.specs.declared.session.Session.TheVariants.{Holding, RemovingEmpty, Bare, Left, MakingLog}
use Rattle.file_protocol.specs.declared.session.Session.TheVariants.{CopyingLog}
use Rattle.file_protocol.specs.declared.session.Session.TheVariants.{SyncingLog, Ready, CheckingFile, CheckingLog}
use Rattle.file_protocol.specs.declared.session.Session.TheVariants.{WritingBody}
use Rattle.file_protocol.specs.declared.session.Session.TheVariants.{SyncingBody, OpeningGate, SyncingGate, Unsure}
use Rattle.file_protocol.specs.declared.session.Session.TheVariants.{SyncingFirst}
use Rattle.file_protocol.specs.declared.session.Session.TheVariants.{Making, Looking, Renaming, CheckingRename}
use Rattle.file_protocol.specs.declared.session.Session.TheVariants.{Discarding}
use Rattle.file_protocol.specs.declared.session.Session.TheVariants.{SyncingRename, Unsynced, Unlocking, RemovingLog}
use Rattle.file_protocol.specs.declared.session.Session.TheVariants.{SyncingEnd}
use Rattle.file_protocol.specs.declared.session.Session.TheVariants.{Closing, Ending, Ended}
use Rattle.file_protocol.specs.declared.calls.Purpose.{Purpose}
use Rattle.file_protocol.specs.declared.calls.Purpose.TheVariants.{Checkpoint, Mend, Save}

-- no log has this name, whatever logs contain
abbrev pub NoLog : (ℕ → Bool) → Option ℕ → Type 0
NoLog is_log o = (cs : ℕ → List ℕ) → records is_log cs o ≡ []

-- each power cut leaves no log
abbrev pub NoLogs : FolderState → Type 0
NoLogs d = (k : ℕ) → NoLog d.is_log (d.logs k)

-- each power cut leaves the name of the log, what the log has, the name of the file
abbrev pub LogLasts : FolderState → ℕ → Type 0
LogLasts d l = (k : ℕ) → d.logs k ≡ Some l

-- each power cut leaves what the log has
abbrev pub ContentLasts : FolderState → ℕ → Type 0
ContentLasts d l = (k : ℕ) → d.contents l k ≡ d.content l

-- each power cut leaves the name of the file
abbrev pub FileLasts : FolderState → ℕ → Type 0
FileLasts d i = (k : ℕ) → d.files k ≡ Some i

-- both names lead here, and the log is the file's own
pub record HasLog (d : FolderState) (i l : ℕ) : Type 0 where
  pub file : d.file ≡ Some i
  pub log : d.log ≡ Some l
  pub is_log : d.is_log l ≡ true
  pub own : belongs (d.image i) (d.content l) ≡ true

-- file and log are on the disk, and encode the image that was answered last
pub record IsSettled (d : FolderState) (i l : ℕ) : Type 0 where
  pub has : HasLog d i l
  pub file_lasts : FileLasts d i
  pub log_lasts : LogLasts d l
  pub content_lasts : ContentLasts d l
  pub told : d.promised ≡ Some (newest (d.image i) (d.content l))

-- the file is on the disk without a log, and has the image that was answered last
pub record IsAlone (d : FolderState) (i : ℕ) : Type 0 where
  pub file : d.file ≡ Some i
  pub no_log : NoLog d.is_log d.log
  pub file_lasts : FileLasts d i
  pub no_logs : NoLogs d
  pub told : d.promised ≡ Some (d.image i)

-- beside a file of this image these records encode the image that was answered last, or one that was not answered
pub record Rolls (d : FolderState) (image : ℕ) (c : List ℕ) : Type 0 where
  pub own : belongs image c ≡ true
  pub newest_is : IsPromisedOrTried d image (Some (newest image c))

-- the log may have a record that was not answered
pub record IsUnsure (d : FolderState) (i l : ℕ) : Type 0 where
  pub has : HasLog d i l
  pub file_lasts : FileLasts d i
  pub log_lasts : LogLasts d l
  pub image : ℕ
  pub told : d.promised ≡ Some image
  pub rolls : (k : ℕ) → Rolls d image (d.contents l k)

-- FILE leads to a file of the image that was answered last, beside the log
pub record IsPlaced (d : FolderState) (g l : ℕ) : Type 0 where
  pub has : HasLog d g l
  pub log_lasts : LogLasts d l
  pub told : d.promised ≡ Some (d.image g)
  pub rolls : (k : ℕ) → Rolls d (d.image g) (d.contents l k)

-- FILE leads to a new file, and has no log
pub record IsSaved (d : FolderState) (g : ℕ) : Type 0 where
  pub file : d.file ≡ Some g
  pub no_log : NoLog d.is_log d.log
  pub no_logs : NoLogs d

-- the file of the last image, and the log is gone
pub record IsMended (d : FolderState) (g : ℕ) : Type 0 where
  pub file : d.file ≡ Some g
  pub no_log : NoLog d.is_log d.log
  pub file_lasts : FileLasts d g

-- before FILE is replaced
abbrev pub Before : FolderState → ℕ → ℕ → Purpose → Type 0
Before d i l Checkpoint = IsSettled d i l
Before d i l Mend = IsUnsure d i l
Before d i l Save = IsAlone d i

-- the image of the file that is to replace it
abbrev pub IsFor : FolderState → ℕ → Purpose → Type 0
IsFor d g Save = d.trying ≡ Some (d.image g)
IsFor d g why = d.promised ≡ Some (d.image g)

-- the new file may replace FILE
pub record CanPlace (d : FolderState) (i l g : ℕ) (why : Purpose) : Type 0 where
  pub before : Before d i l why
  pub image : IsFor d g why
  pub other : g ≡ i → ⊥

-- after it was replaced
abbrev pub Placed : FolderState → ℕ → ℕ → Purpose → Type 0
Placed d g l Save = IsSaved d g
Placed d g l why = IsPlaced d g l

-- and the folder was synced
abbrev pub PlacedForGood : FolderState → ℕ → ℕ → Purpose → Type 0
PlacedForGood d g l Save = IsAlone d g
PlacedForGood d g l why = IsPlaced d g l × FileLasts d g

-- what a session without a log knows
abbrev pub OnBare : FolderState → ℕ → Bool → Type 0
OnBare d i true = IsAlone d i
OnBare d i false = (d.file ≡ Some i) × NoLog d.is_log d.log

-- a log without records, if the session says so
abbrev pub Empty : FolderState → ℕ → Bool → Type 0
Empty d l b = b ≡ false → d.content l ≡ []

-- what a session knows of the disk
abbrev pub On : FolderState → Session → Type 0
On d (Created i) = d.file ≡ Some i → ⊥
On d (CheckingName i) = ((d.file ≡ Some i) × (d.promised ≡ None)) ⊎ (d.file ≡ Some i → ⊥)
On d (Named i) = (d.file ≡ Some i) × (d.promised ≡ None)
On d (ClearingLog i l) = (d.file ≡ Some i) × (d.promised ≡ None) × (d.log ≡ Some l) × (d.is_log l ≡ true)
On d (SyncingName i) = (d.file ≡ Some i) × (d.promised ≡ None) × NoLog d.is_log d.log
On d (Unnaming i) = (d.file ≡ Some i) × (d.promised ≡ None)
On d (Holding i) = d.file ≡ Some i
On d (RemovingEmpty i l) = HasLog d i l × (d.content l ≡ [])
On d (Bare i b) = OnBare d i b
On d (Left i l) = HasLog d i l
On d (MakingLog i) = d.file ≡ Some i
On d (CopyingLog i l) = HasLog d i l
On d (SyncingLog i l b) = HasLog d i l × ContentLasts d l × Empty d l b
On d (Ready i l b) = IsSettled d i l × Empty d l b
On d (CheckingFile i l b v) = IsSettled d i l × Empty d l b
On d (CheckingLog i l b v) = IsSettled d i l × Empty d l b
On d (WritingBody i l b v) = IsSettled d i l × Empty d l b
On d (SyncingBody i l v) = IsSettled d i l
On d (OpeningGate i l v) = IsSettled d i l
On d (SyncingGate i l v) = IsUnsure d i l × (newest (d.image i) (d.content l) ≡ v)
On d (Unsure i l) = IsUnsure d i l
On d (SyncingFirst i v) = (d.file ≡ Some i) × NoLog d.is_log d.log
On d (Making i l v why) = Before d i l why
On d (Looking i l g why) = CanPlace d i l g why
On d (Renaming i l g why) = CanPlace d i l g why
On d (CheckingRename i l g why) = CanPlace d i l g why ⊎ (Placed d g l why × (g ≡ i → ⊥))
On d (Discarding i l g why) = CanPlace d i l g why
On d (SyncingRename i l g why) = Placed d g l why × (g ≡ i → ⊥)
On d (Unsynced i l g why) = Placed d g l why × (g ≡ i → ⊥)
On d (Unlocking i l g why) = PlacedForGood d g l why × (g ≡ i → ⊥)
On d (RemovingLog g l why) = IsPlaced d g l × FileLasts d g
On d (SyncingEnd g) = IsMended d g
On d (Closing i l) = HasLog d i l × (d.content l ≡ [])
On d x = Unit {0}

-- the locks that it has
abbrev pub HasLock : Session → ℕ → Type 0
HasLock Seeking j = ⊥
HasLock (Opened i) j = ⊥
HasLock (Retrying i) j = ⊥
HasLock Absent j = ⊥
HasLock Creating j = ⊥
HasLock (Ending i) j = ⊥
HasLock Ended j = ⊥
HasLock (Locked i) j = j ≡ i
HasLock (Created i) j = j ≡ i
HasLock (CheckingName i) j = j ≡ i
HasLock (Named i) j = j ≡ i
HasLock (ClearingLog i l) j = j ≡ i
HasLock (SyncingName i) j = j ≡ i
HasLock (Unnaming i) j = j ≡ i
HasLock (Holding i) j = j ≡ i
HasLock (RemovingEmpty i l) j = j ≡ i
HasLock (Bare i b) j = j ≡ i
HasLock (Left i l) j = j ≡ i
HasLock (MakingLog i) j = j ≡ i
HasLock (CopyingLog i l) j = j ≡ i
HasLock (SyncingLog i l b) j = j ≡ i
HasLock (Ready i l b) j = j ≡ i
HasLock (CheckingFile i l b v) j = j ≡ i
HasLock (CheckingLog i l b v) j = j ≡ i
HasLock (WritingBody i l b v) j = j ≡ i
HasLock (SyncingBody i l v) j = j ≡ i
HasLock (OpeningGate i l v) j = j ≡ i
HasLock (SyncingGate i l v) j = j ≡ i
HasLock (Unsure i l) j = j ≡ i
HasLock (SyncingFirst i v) j = j ≡ i
HasLock (Making i l v why) j = j ≡ i
HasLock (Looking i l g why) j = (j ≡ i) ⊎ (j ≡ g)
HasLock (Renaming i l g why) j = (j ≡ i) ⊎ (j ≡ g)
HasLock (CheckingRename i l g why) j = (j ≡ i) ⊎ (j ≡ g)
HasLock (Discarding i l g why) j = (j ≡ i) ⊎ (j ≡ g)
HasLock (SyncingRename i l g why) j = j ≡ g
HasLock (Unsynced i l g why) j = j ≡ g
HasLock (Unlocking i l g why) j = j ≡ g
HasLock (RemovingLog g l why) j = j ≡ g
HasLock (SyncingEnd g) j = j ≡ g
HasLock (Closing i l) j = j ≡ i

-- the files that have no name yet, so that no reader opened them
abbrev pub IsHidden : Session → ℕ → Type 0
IsHidden (Created i) j = j ≡ i
IsHidden (Looking i l g why) j = j ≡ g
IsHidden (Renaming i l g why) j = j ≡ g
IsHidden x j = ⊥

-- the state of a session fits the world
pub record Fits (p : ℕ) (s : Shared) (x : Session) : Type 0 where
  pub owns : (j : ℕ) → HasLock x j → s.owner j ≡ Some p
  pub knows : On s.disk x
  pub unseen : (j : ℕ) → IsHidden x j → s.opened j ≡ false

-- What a step leaves to all but who made it: their locks, and to who has locked the file of the name, the disk. A
-- file that
-- another has locked neither gets the name nor, without a name, a reader.
pub record LeavesTo (acts : ℕ → Type 0) (s t : Shared) : Type 0 where
  pub locks : (i q : ℕ) → (acts q → ⊥) → s.owner i ≡ Some q → t.owner i ≡ Some q
  pub disk : (i q : ℕ) → (acts q → ⊥) → s.owner i ≡ Some q → s.disk.file ≡ Some i → t.disk ≡ s.disk
  pub named : (i q : ℕ) → (acts q → ⊥) → s.owner i ≡ Some q → t.disk.file ≡ Some i → s.disk.file ≡ Some i
  pub seen : (i q : ℕ) → (acts q → ⊥) → s.owner i ≡ Some q → (s.disk.file ≡ Some i → ⊥) → s.opened i ≡ false
      → t.opened i ≡ false

-- ---- a writer has locked the file that FILE leads to

before_file : (d : FolderState) (i l : ℕ) (why : Purpose) → Before d i l why → d.file ≡ Some i
before_file d i l Checkpoint h = h.has.file
before_file d i l Mend h = h.has.file
before_file d i l Save h = h.file

placed_file : (d : FolderState) (g l : ℕ) (why : Purpose) → Placed d g l why → d.file ≡ Some g
placed_file d g l Checkpoint h = h.has.file
placed_file d g l Mend h = h.has.file
placed_file d g l Save h = h.file

good_file : (d : FolderState) (g l : ℕ) (why : Purpose) → PlacedForGood d g l why → d.file ≡ Some g
good_file d g l Checkpoint h = h.0.has.file
good_file d g l Mend h = h.0.has.file
good_file d g l Save h = h.file

bare_file : (d : FolderState) (i : ℕ) (b : Bool) → OnBare d i b → d.file ≡ Some i
bare_file d i true h = h.file
bare_file d i false h = h.0

-- p has locked the file that FILE leads to
pub data HoldsOne (p : ℕ) (s : Shared) (x : Session) : Type 0 where
  One : (i : ℕ) → HasLock x i → s.disk.file ≡ Some i → HoldsOne p s x

-- a writer has locked the file that FILE leads to
pub holds : (p : ℕ) (s : Shared) (x : Session) → is_writer x ≡ true → On s.disk x → HoldsOne p s x
holds p s (Named i) is h = One i refl h.0
holds p s (ClearingLog i l) is h = One i refl h.0
holds p s (SyncingName i) is h = One i refl h.0
holds p s (Unnaming i) is h = One i refl h.0
holds p s (Holding i) is h = One i refl h
holds p s (RemovingEmpty i l) is h = One i refl h.0.file
holds p s (Bare i b) is h = One i refl (bare_file s.disk i b h)
holds p s (Left i l) is h = One i refl h.file
holds p s (MakingLog i) is h = One i refl h
holds p s (CopyingLog i l) is h = One i refl h.file
holds p s (SyncingLog i l b) is h = One i refl h.0.file
holds p s (Ready i l b) is h = One i refl h.0.has.file
holds p s (CheckingFile i l b v) is h = One i refl h.0.has.file
holds p s (CheckingLog i l b v) is h = One i refl h.0.has.file
holds p s (WritingBody i l b v) is h = One i refl h.0.has.file
holds p s (SyncingBody i l v) is h = One i refl h.has.file
holds p s (OpeningGate i l v) is h = One i refl h.has.file
holds p s (SyncingGate i l v) is h = One i refl h.0.has.file
holds p s (Unsure i l) is h = One i refl h.has.file
holds p s (SyncingFirst i v) is h = One i refl h.0
holds p s (Making i l v why) is h = One i refl (before_file s.disk i l why h)
holds p s (Looking i l g why) is h = One i (inl refl) (before_file s.disk i l why h.before)
holds p s (Renaming i l g why) is h = One i (inl refl) (before_file s.disk i l why h.before)
holds p s (CheckingRename i l g why) is (inl h) = One i (inl refl) (before_file s.disk i l why h.before)
holds p s (CheckingRename i l g why) is (inr h) = One g (inr refl) (placed_file s.disk g l why h.0)
holds p s (Discarding i l g why) is h = One i (inl refl) (before_file s.disk i l why h.before)
holds p s (SyncingRename i l g why) is h = One g refl (placed_file s.disk g l why h.0)
holds p s (Unsynced i l g why) is h = One g refl (placed_file s.disk g l why h.0)
holds p s (Unlocking i l g why) is h = One g refl (good_file s.disk g l why h.0)
holds p s (RemovingLog g l why) is h = One g refl h.0.has.file
holds p s (SyncingEnd g) is h = One g refl h.file
holds p s (Closing i l) is h = One i refl h.0.file
holds p s x is h = true_false (sym is)

-- ---- a session that did not make a step has what it relied on

module _ (acts : ℕ → Type 0) (q : ℕ) (not_q : acts q → ⊥) (s t : Shared) (m : LeavesTo acts s t) where
  abbrev own_kept : (x : Session) → Fits q s x → (j : ℕ) → HasLock x j → t.owner j ≡ Some q
  own_kept x h j has = m.locks j q not_q (h.owns j has)

  -- a hidden file is not the file that FILE leads to
  hidden_kept : (x : Session) → Fits q s x → (j : ℕ) → IsHidden x j → t.opened j ≡ false
  hidden_kept (Created i) h j is = m.seen j q not_q (h.owns j is)
      (λ file. h.knows (file ∙ ap (λ (k : ℕ). Some k) is)) (h.unseen j is)
  hidden_kept (Looking i l g why) h j is = m.seen j q not_q (h.owns j (inr is))
      (λ file. h.knows.other (sym is ∙ same_some j i (sym file
      ∙ before_file s.disk i l why h.knows.before))) (h.unseen j is)
  hidden_kept (Renaming i l g why) h j is = m.seen j q not_q (h.owns j (inr is))
      (λ file. h.knows.other (sym is ∙ same_some j i (sym file
      ∙ before_file s.disk i l why h.knows.before))) (h.unseen j is)
  hidden_kept x h j is = absurd is

  -- the disk of one that has locked the file of the name
  with_disk : (x : Session) → Fits q s x → t.disk ≡ s.disk → Fits q t x
  with_disk x h same = record {
    owns = own_kept x h;
    knows = subst (λ (d : FolderState). On d x) (sym same) h.knows;
    unseen = hidden_kept x h;
  }

  writer_kept : (x : Session) → Fits q s x → HoldsOne q s x → Fits q t x
  writer_kept x h (One i has file) = with_disk x h (m.disk i q not_q (h.owns i has) file)

  -- knowledge that speaks of no disk
  idle : (x : Session) → Fits q s x → On t.disk x → Fits q t x
  idle x h knows = record { owns = own_kept x h; knows = knows; unseen = hidden_kept x h }

  -- a session that did not make a step has what it relied on
  pub stable : (x : Session) → Fits q s x → Fits q t x
  stable Seeking h = idle Seeking h tt
  stable (Opened i) h = idle (Opened i) h tt
  stable (Locked i) h = idle (Locked i) h tt
  stable (Retrying i) h = idle (Retrying i) h tt
  stable Absent h = idle Absent h tt
  stable Creating h = idle Creating h tt
  stable (Created i) h = idle (Created i) h (λ is. h.knows (m.named i q not_q (h.owns i refl) is))
  stable (CheckingName i) h = elim h.knows [
    | inl named ↦ with_disk (CheckingName i) h (m.disk i q not_q (h.owns i refl) named.0)
    | inr not_named ↦ idle (CheckingName i) h (inr (λ is. not_named (m.named i q not_q (h.owns i refl) is)))
  ]
  stable (Ending i) h = idle (Ending i) h tt
  stable Ended h = idle Ended h tt
  stable x h = writer_kept x h (holds q s x refl h.knows)

-- ---- what is left

-- the records that a power cut may leave
abbrev pub left_records : FolderState → ℕ → (ℕ → ℕ) → List ℕ
left_records d l c = records d.is_log (λ j. d.contents j (c j)) (d.logs l)

-- after each power cut an opening finds what was answered, or what was under way
abbrev pub Safe : FolderState → Type 0
Safe d = (f l : ℕ) (c : ℕ → ℕ) (v : ℕ) → d.promised ≡ Some v
    → IsPromisedOrTried d v (found_in d.image (left_records d l c) (d.files f))

-- what is seen now is among what a power cut may leave
pub record IsCurrent (d : FolderState) : Type 0 where
  pub file : d.files 0 ≡ d.file
  pub log : d.logs 0 ≡ d.log
  pub content : (i : ℕ) → d.contents i 0 ≡ d.content i

-- What a step leaves to readers: a file that one opened does not get the name again; a log has what it had, or is
-- that of
-- the name.
pub record KeepsReaders (opened : ℕ → Bool) (d t : FolderState) : Type 0 where
  pub image : t.image ≡ d.image
  pub is_log : t.is_log ≡ d.is_log
  pub name : (f : ℕ) → opened f ≡ true → t.file ≡ Some f → d.file ≡ Some f
  pub content : (l : ℕ) → (t.content l ≡ d.content l) ⊎ (t.log ≡ Some l)
