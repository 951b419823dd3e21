-- What holds after each event, and so after all.
use Rattle.std.proofs.Common.{◌≡◌, inl, inr, ℕ, Bool, true, false, cond, ◌==◌, List, [], ◌∷◌, Option, None, Some}
use Rattle.std.proofs.Common.{sym, ◌∙◌, ap, refl, subst, eq-eqb, ne_eqb}
use Rattle.std.proofs.lemmas.Bool.{cases_eq}
use Rattle.std.proofs.lemmas.Option.{none-some}
use Rattle.file_protocol.specs.Sessions.{call_of, after_answer, after_request}
use Rattle.file_protocol.specs.Worlds.{Shared, FolderState, World, WorldEvent, Steps, Asks, Killed, Begins, Removed}
use Rattle.file_protocol.specs.Worlds.{LogPut, PowerFails, How}
use Rattle.file_protocol.specs.Worlds.{ReaderBegins, ReaderSteps, answer_to, works_or_not, opened_by, noted, log_put}
use Rattle.file_protocol.specs.Worlds.{put, beside, begun, without, removed, removed_if, happens, run, start, is_writer}
use Rattle.file_protocol.specs.Worlds.{left}
use Rattle.file_protocol.specs.Worlds.{NoCommitIsLost, OneWriter, found, found_in, records, IsPromisedOrTried, system}
use Rattle.file_protocol.specs.Readers.{read_call_of, read_after}
use Rattle.file_protocol.specs.declared.reader.FileReader.{FileReader}
use Rattle.file_protocol.specs.declared.reader.FileReader.TheVariants.{Idle, Seeking as ReaderSeeking, HasFile, HasBoth}
use Rattle.file_protocol.specs.declared.reader.FileReader.TheVariants.{HasNoLog}
use Rattle.file_protocol.specs.declared.reader.FileReader.TheVariants.{HasRead, Returned}
use Rattle.file_protocol.specs.declared.reader.ReadAnswer.{ReadAnswer}
use Rattle.file_protocol.specs.declared.reader.ReadAnswer.TheVariants.{Missing as NotFound, Found, Failed as ReadFailed}
use Rattle.file_protocol.specs.Worlds.{this_or_none, log_or_none}
use Rattle.file_protocol.specs.declared.session.Session.{Session}
use Rattle.file_protocol.specs.declared.session.Session.TheVariants.{Bare, Left, Ready, Unsure, Unsynced, Ended}
use Rattle.file_protocol.specs.declared.session.Session.TheVariants.{Seeking}
use Rattle.file_protocol.specs.declared.session.Session.TheVariants.{Making, SyncingFirst}
use Rattle.file_protocol.specs.declared.calls.Purpose.{Purpose}
use Rattle.file_protocol.specs.declared.calls.Purpose.TheVariants.{Save}
use Rattle.file_protocol.specs.declared.calls.SessionRequest.{SessionRequest}
use Rattle.file_protocol.specs.declared.calls.SessionRequest.TheVariants.{Begin, Commit, SyncAgain}
use Rattle.file_protocol.specs.declared.calls.SessionRequest.TheVariants.{Checkpoint as AskedForCheckpoint}
use Rattle.file_protocol.specs.declared.calls.SessionRequest.TheVariants.{Mend as AskedToMend}
use Rattle.file_protocol.specs.declared.calls.SessionRequest.TheVariants.{Save as AskedToSave, Close as AskedToClose}
use Rattle.file_protocol.proofs.Parts.{same_some, some_none, without_other, true_false, put_other}
use Rattle.file_protocol.proofs.Relies.{IsSettled, On, OnBare, Fits, LeavesTo, Safe, IsCurrent, HasLock, IsHidden}
use Rattle.file_protocol.proofs.Relies.{holds, HoldsOne, One}
use Rattle.file_protocol.proofs.Relies.{stable}
use Rattle.file_protocol.proofs.Steps.{Is, Good, good_step}

pub record Holds_for (s : Shared) (sessions : ℕ → Session) : Type 0 where
  pub fits : (q : ℕ) → Fits q s (sessions q)
  pub safe : Safe s.disk
  pub current : IsCurrent s.disk

-- what always holds of a world
abbrev pub Holds_all : World → Type 0
Holds_all w = Holds_for w.shared w.sessions

-- one session changes
changed : (t : Shared) (sessions : ℕ → Session) (p : ℕ) (x : Session) → Fits p t x
    → ((q : ℕ) → (q ≡ p → ⊥) → Fits q t (sessions q)) → (q : ℕ) → Fits q t (put sessions p x q)
changed t sessions p x own others q = elim (cases_eq q p) [
  | inl is ↦ subst (λ b. Fits q t (cond b x (sessions q))) (sym (eq-eqb q p is)) (subst (λ k. Fits k t x) (sym is) own)
  | inr ne ↦ subst (λ b. Fits q t (cond b x (sessions q))) (sym (ne_eqb q p ne)) (others q ne)
]

steps_on : (w : World) (p n x : ℕ) (how : How) → Holds_all w → Holds_all (happens w (Steps p n x how))
steps_on w p n x how h =
    let s = w.shared in
    let good = good_step p s h.safe h.current n x how (w.sessions p) (h.fits p) in
    record {
      fits = changed _ w.sessions p _ good.fits
          (λ q ne. stable (Is p) q ne s _ good.effect.leaves (w.sessions q) (h.fits q));
      safe = good.effect.safe;
      current = good.effect.current;
    }

-- ---- requests

-- a session without locks that relies on nothing
unbound : (p : ℕ) (s : Shared) (x : Session) → ((j : ℕ) → HasLock x j → ⊥) → ((j : ℕ) → IsHidden x j → ⊥)
    → On s.disk x → Fits p s x
unbound p s x unlocked shown knows =
    record { owns = λ j has. absurd (unlocked j has); knows = knows; unseen = λ j is. absurd (shown j is) }

module _ (p : ℕ) (s : Shared) where
  abbrev In : Session → Type 0
  In x = Fits p s x

  -- the same locks, and what is known
  with_lock : (x y : Session) → In x → ((j : ℕ) → HasLock y j → HasLock x j) → ((j : ℕ) → IsHidden y j → ⊥)
      → On s.disk y → In y
  with_lock x y h locks shown knows =
      record { owns = λ j has. h.owns j (locks j has); knows = knows; unseen = λ j is. absurd (shown j is) }

  never : (j : ℕ) → ⊥ → ⊥
  never j is = is

  bare_file : (i : ℕ) (b : Bool) → OnBare s.disk i b → s.disk.file ≡ Some i
  bare_file i true h = h.file
  bare_file i false h = h.0

  asked_bare : (i : ℕ) (b : Bool) (r : SessionRequest) → In (Bare i b) → In (after_request (Bare i b) r)
  asked_bare i b Begin h = with_lock (Bare i b) _ h (λ j has. has) never (bare_file i b h.knows)
  asked_bare i true (AskedToSave v) h = with_lock (Bare i true) _ h (λ j has. has) never h.knows
  asked_bare i false (AskedToSave v) h = with_lock (Bare i false) _ h (λ j has. has) never h.knows
  asked_bare i b AskedToClose h = unbound p s _ never never tt
  asked_bare i b r h = h

  asked_left : (i l : ℕ) (r : SessionRequest) → In (Left i l) → In (after_request (Left i l) r)
  asked_left i l Begin h = with_lock (Left i l) _ h (λ j has. has) never h.knows
  asked_left i l AskedToClose h = unbound p s _ never never tt
  asked_left i l r h = h

  asked_ready : (i l : ℕ) (b : Bool) (r : SessionRequest) → In (Ready i l b) → In (after_request (Ready i l b) r)
  asked_ready i l b (Commit v) h = with_lock (Ready i l b) _ h (λ j has. has) never h.knows
  asked_ready i l true AskedForCheckpoint h = with_lock (Ready i l true) _ h (λ j has. has) never h.knows.0
  asked_ready i l false AskedForCheckpoint h =
      with_lock (Ready i l false) _ h (λ j has. has) never (h.knows.0.has, h.knows.1 refl)
  asked_ready i l true AskedToClose h = unbound p s _ never never tt
  asked_ready i l false AskedToClose h =
      with_lock (Ready i l false) _ h (λ j has. has) never (h.knows.0.has, h.knows.1 refl)
  asked_ready i l b r h = h

  asked_unsure : (i l : ℕ) (r : SessionRequest) → In (Unsure i l) → In (after_request (Unsure i l) r)
  asked_unsure i l AskedToMend h = with_lock (Unsure i l) _ h (λ j has. has) never h.knows
  asked_unsure i l AskedToClose h = unbound p s _ never never tt
  asked_unsure i l r h = h

  asked_unsynced : (i l g : ℕ) (why : Purpose) (r : SessionRequest) → In (Unsynced i l g why)
      → In (after_request (Unsynced i l g why) r)
  asked_unsynced i l g why SyncAgain h = with_lock (Unsynced i l g why) _ h (λ j has. has) never h.knows
  asked_unsynced i l g why AskedToClose h = unbound p s _ never never tt
  asked_unsynced i l g why r h = h

  asked : (x : Session) (r : SessionRequest) → In x → In (after_request x r)
  asked (Bare i b) r h = asked_bare i b r h
  asked (Left i l) r h = asked_left i l r h
  asked (Ready i l b) r h = asked_ready i l b r h
  asked (Unsure i l) r h = asked_unsure i l r h
  asked (Unsynced i l g why) r h = asked_unsynced i l g why r h
  asked x r h = h

  begins : (x : Session) → In x → In (begun x)
  begins Ended h = unbound p s Seeking never never tt
  begins x h = h

asks_on : (w : World) (p : ℕ) (r : SessionRequest) → Holds_all w → Holds_all (happens w (Asks p r))
asks_on w p r h = record {
  fits = changed w.shared w.sessions p _ (asked p w.shared (w.sessions p) r (h.fits p)) (λ q ne. h.fits q);
  safe = h.safe;
  current = h.current;
}

begins_on : (w : World) (p : ℕ) → Holds_all w → Holds_all (happens w (Begins p))
begins_on w p h = record {
  fits = changed w.shared w.sessions p _ (begins p w.shared (w.sessions p) (h.fits p)) (λ q ne. h.fits q);
  safe = h.safe;
  current = h.current;
}

killed_on : (w : World) (p : ℕ) → Holds_all w → Holds_all (happens w (Killed p))
killed_on w p h =
    let s : Shared = w.shared in
    let t : Shared = record { owner = λ j. without p (s.owner j); opened = s.opened; disk = s.disk } in
    let leaves : LeavesTo (Is p) s t = record {
      locks = λ i q ne own. without_other p q ne (s.owner i) own;
      disk = λ i q ne own name. refl;
      named = λ i q ne own is. is;
      seen = λ i q ne own no is. is;
    } in
    record {
      fits = changed t w.sessions p Ended (unbound p t Ended (λ j is. is) (λ j is. is) tt)
          (λ q ne. stable (Is p) q ne s t leaves (w.sessions q) (h.fits q));
      safe = h.safe;
      current = h.current;
    }

-- ---- strangers

abbrev Nobody : ℕ → Type 0
Nobody q = ⊥

module _ (s : Shared) (sessions : ℕ → Session) (fits : (q : ℕ) → Fits q s (sessions q)) (safe : Safe s.disk)
    (current : IsCurrent s.disk) where
  unchanged : Holds_for s sessions
  unchanged = record { fits = fits; safe = safe; current = current }

  free_file : (i : ℕ) → s.disk.file ≡ Some i → (o : Option ℕ) → s.owner i ≡ o
      → Holds_for (removed_if s s.disk o) sessions
  free_file i is None free =
      let t : Shared = removed_if s s.disk None in
      let leaves : LeavesTo Nobody s t = record {
        locks = λ j q ne own. own;
        disk = λ j q ne own name.
            absurd (none-some q (sym free ∙ ap s.owner (same_some i j (sym is ∙ name)) ∙ own));
        named = λ j q ne own name. absurd (none-some j name);
        seen = λ j q ne own no is. is;
      } in
      record {
        fits = λ q. stable Nobody q (λ never. never) s t leaves (sessions q) (fits q);
        safe = λ f l c v told. absurd (none-some v told);
        current = record { file = refl; log = current.log; content = current.content };
      }
  free_file i is (Some q) has = unchanged

  removed_on : (o : Option ℕ) → s.disk.file ≡ o → Holds_for (removed s o) sessions
  removed_on None none = unchanged
  removed_on (Some i) is = free_file i is (s.owner i) refl

  -- nothing is promised of a file that does not exist
  not_promised : s.disk.file ≡ None → (v : ℕ) → s.disk.promised ≡ Some v → ⊥
  not_promised none v told = elim
      (subst (λ (o : Option ℕ). IsPromisedOrTried s.disk v
      (found_in s.disk.image (records s.disk.is_log (λ j. s.disk.contents j 0) (s.disk.logs 0)) o))
      (current.file ∙ none) (safe 0 0 (λ j. 0) v told)) [
        | inl is ↦ none-some v is
        | inr (u, tried, is) ↦ none-some u is
      ]

  put_on : (o name : Option ℕ) → s.disk.file ≡ name → Holds_for (log_put s s.disk o name) sessions
  put_on o None none =
      let t : Shared = log_put s s.disk o None in
      let leaves : LeavesTo Nobody s t = record {
        locks = λ j q ne own. own;
        disk = λ j q ne own name. some_none j (sym name ∙ none);
        named = λ j q ne own is. is;
        seen = λ j q ne own no is. is;
      } in
      record {
        fits = λ q. stable Nobody q (λ never. never) s t leaves (sessions q) (fits q);
        safe = λ f l c v told. absurd (not_promised none v told);
        current = record { file = current.file; log = refl; content = current.content };
      }
  put_on o (Some i) is = unchanged

power_fails : (w : World) (f l : ℕ) (c : ℕ → ℕ) → Holds_all w → Holds_all (happens w (PowerFails f l c))
power_fails w f l c h = record {
  fits = λ q. unbound q _ Ended (λ j is. is) (λ j is. is) tt;
  safe = λ f2 l2 c2 v is. h.safe f l c v is;
  current = record { file = refl; log = refl; content = λ i. refl };
}

-- ---- readers: they change only which files were opened

abbrev with_opened : Shared → (ℕ → Bool) → Shared
with_opened s opened = record { owner = s.owner; opened = opened; disk = s.disk }

module _ (s : Shared) (sessions : ℕ → Session) (fits : (q : ℕ) → Fits q s (sessions q)) where
  abbrev After : FileReader → ℕ → Type 0
  After x q = Fits q (with_opened s (opened_by s.opened x)) (sessions q)

  -- a reader opens the file of the name alone
  opens_file : (f : ℕ) → s.disk.file ≡ Some f → (q : ℕ) → After (HasFile f) q
  opens_file f is q =
      stable Nobody q (λ never. never) s (with_opened s (put s.opened f true))
      (record {
        locks = λ j q2 ne own. own;
        disk = λ j q2 ne own name. refl;
        named = λ j q2 ne own name. name;
        seen = λ j q2 ne own no unseen.
            put_other s.opened f true j (λ at. no (is ∙ ap (λ (k : ℕ). Some k) (sym at))) ∙ unseen;
      })
      (sessions q) (fits q)

  seeks : (o : Option ℕ) → s.disk.file ≡ o → (q : ℕ) → After (read_after ReaderSeeking (this_or_none o)) q
  seeks None is q = fits q
  seeks (Some f) is q = opens_file f is q

  looks_for_log : (f : ℕ) (a : ReadAnswer) (q : ℕ) → After (read_after (HasFile f) a) q
  looks_for_log f NotFound q = fits q
  looks_for_log f (Found l) q = fits q
  looks_for_log f ReadFailed q = fits q

  reads_both : (f l : ℕ) (a : ReadAnswer) (q : ℕ) → After (read_after (HasBoth f l) a) q
  reads_both f l NotFound q = fits q
  reads_both f l (Found v) q = fits q
  reads_both f l ReadFailed q = fits q

  reads_file : (f : ℕ) (a : ReadAnswer) (q : ℕ) → After (read_after (HasNoLog f) a) q
  reads_file f NotFound q = fits q
  reads_file f (Found v) q = fits q
  reads_file f ReadFailed q = fits q

  looked_if : (f v : ℕ) (b : Bool) (q : ℕ) → After (cond b (Returned v) ReaderSeeking) q
  looked_if f v true q = fits q
  looked_if f v false q = fits q

  looks : (f v : ℕ) (a : ReadAnswer) (q : ℕ) → After (read_after (HasRead f v) a) q
  looks f v NotFound q = fits q
  looks f v (Found now) q = looked_if f v (now == f) q
  looks f v ReadFailed q = fits q

  reads : (x : FileReader) (works : Bool) (q : ℕ)
      → After (read_after x (works_or_not works (answer_to s.disk (read_call_of x)))) q
  reads Idle works q = fits q
  reads ReaderSeeking true q = seeks s.disk.file refl q
  reads ReaderSeeking false q = fits q
  reads (HasFile f) works q = looks_for_log f _ q
  reads (HasBoth f l) works q = reads_both f l _ q
  reads (HasNoLog f) works q = reads_file f _ q
  reads (HasRead f v) works q = looks f v _ q
  reads (Returned v) works q = fits q

reads_on : (w : World) (r : ℕ) (works : Bool) → Holds_all w → Holds_all (happens w (ReaderSteps r works))
reads_on w r works h = record {
  fits = reads w.shared w.sessions h.fits (w.readers r) works;
  safe = h.safe;
  current = h.current;
}

-- ---- all events

-- it holds after each event
pub on : (w : World) (e : WorldEvent) → Holds_all w → Holds_all (happens w e)
on w (Steps p n x how) h = steps_on w p n x how h
on w (Asks p r) h = asks_on w p r h
on w (Killed p) h = killed_on w p h
on w (Begins p) h = begins_on w p h
on w Removed h = removed_on w.shared w.sessions h.fits h.safe h.current w.shared.disk.file refl
on w (LogPut o) h = put_on w.shared w.sessions h.fits h.safe h.current o w.shared.disk.file refl
on w (ReaderBegins r) h = h
on w (ReaderSteps r works) h = reads_on w r works h
on w (PowerFails f l c) h = power_fails w f l c h

-- it holds after each schedule
pub always : (es : List WorldEvent) (w : World) → Holds_all w → Holds_all (run es w)
always [] w h = h
always (e ∷ es) w h = always es (noted (happens w e)) (on w e h)

-- it holds at the start
pub at_start : (log : Option ℕ) (image : ℕ → ℕ) (is_log : ℕ → Bool) (content : ℕ → List ℕ)
    → Holds_all (start log image is_log content)
at_start log image is_log content = record {
  fits = λ q. unbound q _ Ended (λ j is. is) (λ j is. is) tt;
  safe = λ f l c v told. absurd (none-some v told);
  current = record { file = refl; log = refl; content = λ i. refl };
}

-- what is found now is among what is found after a power cut
now : (d : FolderState) → IsCurrent d → found (left d 0 0 (λ i. 0)) ≡ found d
now d is =
    ap (found_in d.image (records d.is_log (λ j. d.contents j 0) (d.logs 0))) is.file
    ∙ ap (λ (o : Option ℕ). found_in d.image (records d.is_log (λ j. d.contents j 0) o) d.file) is.log
    ∙ ap (λ (cs : ℕ → List ℕ). found_in d.image (records d.is_log cs d.log) d.file) (λ k j. is.content j k)

-- no commit is lost
pub no_commit_is_lost : NoCommitIsLost
no_commit_is_lost log image is_log content es v told =
    let w = run es (start log image is_log content) in
    let h = always es (start log image is_log content) (at_start log image is_log content) in
    subst (λ (o : Option ℕ). IsPromisedOrTried w.shared.disk v o) (now w.shared.disk h.current)
    (h.safe 0 0 (λ i. 0) v told)

-- ---- one writer

owned : (p : ℕ) (s : Shared) (x : Session) → Fits p s x → HoldsOne p s x
    → (i : ℕ) × (s.disk.file ≡ Some i) × (s.owner i ≡ Some p)
owned p s x h (One i has file) = (i, file, h.owns i has)

-- a writer has locked the file that FILE leads to
pub holder : (p : ℕ) (s : Shared) (x : Session) → Fits p s x → is_writer x ≡ true
    → (i : ℕ) × (s.disk.file ≡ Some i) × (s.owner i ≡ Some p)
holder p s x h is = owned p s x h (holds p s x is h.knows)

-- no two sessions hold FILE
pub one_writer : OneWriter
one_writer log image is_log content es p q p_writes q_writes =
    let h = always es (start log image is_log content) (at_start log image is_log content) in
    let w = run es (start log image is_log content) in
    let a = holder p w.shared (w.sessions p) (h.fits p) p_writes in
    let b = holder q w.shared (w.sessions q) (h.fits q) q_writes in
    same_some p q (sym a.2 ∙ ap w.shared.owner (same_some a.0 b.0 (sym a.1 ∙ b.1)) ∙ b.2)
