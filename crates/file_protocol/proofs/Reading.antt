-- What a reader returns was what an opening would have found.
use Rattle.std.proofs.Common.{◌≡◌, ◌⊎◌, inl, inr, ℕ, zero, suc, Bool, true, false, cond, ◌==◌, ◌||◌, List, [], ◌∷◌}
use Rattle.std.proofs.Common.{Option, None, Some}
use Rattle.std.proofs.Common.{sym, ◌∙◌, ap, refl, subst, eq-eqb, ne_eqb, eqb-true}
use Rattle.std.proofs.lemmas.Bool.{cases_eq}
use Rattle.std.proofs.lemmas.Option.{none-some}
use Rattle.file_protocol.specs.Readers.{read_call_of, read_after}
use Rattle.file_protocol.specs.Worlds.{Shared, FolderState, World, WorldEvent, Steps, Asks, Killed, Begins, Removed}
use Rattle.file_protocol.specs.Worlds.{LogPut, PowerFails, How}
use Rattle.file_protocol.specs.Worlds.{ReaderBegins, ReaderSteps, answer_to, works_or_not, this_or_none, log_or_none}
use Rattle.file_protocol.specs.Worlds.{opened_by}
use Rattle.file_protocol.specs.Worlds.{put, has, found, found_in, finds, records, happens, noted, with_found, run}
use Rattle.file_protocol.specs.Worlds.{start, removed}
use Rattle.file_protocol.specs.Worlds.{removed_if, log_put, ReaderFindsACommit}
use Rattle.file_protocol.specs.declared.reader.FileReader.{FileReader}
use Rattle.file_protocol.specs.declared.reader.FileReader.TheVariants.{Idle, Seeking, HasFile, HasBoth, HasNoLog}
use Rattle.file_protocol.specs.declared.reader.FileReader.TheVariants.{HasRead, Returned}
use Rattle.file_protocol.specs.declared.reader.ReadAnswer.{ReadAnswer}
use Rattle.file_protocol.specs.declared.reader.ReadAnswer.TheVariants.{Missing as NotFound, Found, Failed as ReadFailed}
use Rattle.file_protocol.proofs.Parts.{put_same, put_other, put_at, or_true, has_first, same_some, records_own}
use Rattle.file_protocol.proofs.Parts.{records_stranger}
use Rattle.file_protocol.proofs.Parts.{found_at, true_false}
use Rattle.file_protocol.proofs.Relies.{KeepsReaders}
use Rattle.file_protocol.proofs.Steps.{good_step}
use Rattle.file_protocol.proofs.Runs.{Holds_all, on, at_start}

-- while FILE leads to f: what f and these records encode was found
abbrev Was : FolderState → List ℕ → ℕ → List ℕ → Type 0
Was d ws f c = d.file ≡ Some f → (v : ℕ) → finds (d.image f) c ≡ Some v → has v ws ≡ true

abbrev Knows : (ℕ → Bool) → FolderState → List ℕ → FileReader → Type 0
Knows opened d ws (HasFile f) = opened f ≡ true
Knows opened d ws (HasBoth f l) = (opened f ≡ true) × (d.is_log l ≡ true) × Was d ws f (d.content l)
Knows opened d ws (HasNoLog f) = (opened f ≡ true) × Was d ws f []
Knows opened d ws (HasRead f v) = (opened f ≡ true) × (d.file ≡ Some f → has v ws ≡ true)
Knows opened d ws (Returned v) = has v ws ≡ true
Knows opened d ws x = Unit {0}

noted_too : (v : ℕ) (ws : List ℕ) (o : Option ℕ) → has v ws ≡ true → has v (with_found o ws) ≡ true
noted_too v ws None was = was
noted_too v ws (Some u) was = ap (λ b. (u == v) || b) was ∙ or_true (u == v)

noted_now : (v : ℕ) (ws : List ℕ) (o : Option ℕ) → o ≡ Some v → has v (with_found o ws) ≡ true
noted_now v ws o is = ap (λ (p : Option ℕ). has v (with_found p ws)) is ∙ has_first v ws

-- what an opening finds, by the records of the log's name
found_is : (d : FolderState) (f : ℕ) (c : List ℕ) → d.file ≡ Some f → records d.is_log d.content d.log ≡ c
    → found d ≡ finds (d.image f) c
found_is d f c file is = found_at d.image (records d.is_log d.content d.log) c d.file f file is

-- ---- what others do

module _ (opened : ℕ → Bool) (d t : FolderState) (keeps : KeepsReaders opened d t) (ws : List ℕ) where
  -- the same records, which were found before
  was_kept : (f : ℕ) (c : List ℕ) → opened f ≡ true → Was d ws f c → Was t (with_found (found t) ws) f c
  was_kept f c seen was is v gives =
      noted_too v ws (found t)
      (was (keeps.name f seen is) v (ap (λ (image : ℕ → ℕ). finds (image f) c) (sym keeps.image) ∙ gives))

  -- the records of the log that the name leads to
  was_log : (f l : ℕ) → t.is_log l ≡ true → t.log ≡ Some l → Was t (with_found (found t) ws) f (t.content l)
  was_log f l is_log log file v gives =
      noted_now v ws (found t)
      (found_is t f (t.content l) file (records_own t.is_log t.content t.log l (t.content l) log is_log refl) ∙ gives)

  log_on : (f l : ℕ) → opened f ≡ true → d.is_log l ≡ true → Was d ws f (d.content l)
      → Was t (with_found (found t) ws) f (t.content l)
  log_on f l seen is_log was = elim (keeps.content l) [
    | inl same ↦ subst (λ (c : List ℕ). Was t (with_found (found t) ws) f c) (sym same) (was_kept f
        (d.content l) seen was)
    | inr log ↦ was_log f l (ap (λ (g : ℕ → Bool). g l) keeps.is_log ∙ is_log) log
  ]

  moved : (more : ℕ → Bool) → ((f : ℕ) → opened f ≡ true → more f ≡ true) → (x : FileReader) → Knows opened d ws x
      → Knows more t (with_found (found t) ws) x
  moved more opens Idle h = tt
  moved more opens Seeking h = tt
  moved more opens (HasFile f) h = opens f h
  moved more opens (HasBoth f l) h =
      (opens f h.0, ap (λ (g : ℕ → Bool). g l) keeps.is_log ∙ h.1, log_on f l h.0 h.1 h.2)
  moved more opens (HasNoLog f) h = (opens f h.0, was_kept f [] h.0 h.1)
  moved more opens (HasRead f v) h = (opens f h.0, λ is. noted_too v ws (found t) (h.1 (keeps.name f h.0 is)))
  moved more opens (Returned v) h = noted_too v ws (found t) h

keeps_same : (opened : ℕ → Bool) (d : FolderState) → KeepsReaders opened d d
keeps_same opened d = record { image = refl; is_log = refl; name = λ f seen is. is; content = λ l. inl refl }

-- ---- what a reader does itself

module _ (opened : ℕ → Bool) (d : FolderState) (ws : List ℕ) where
  abbrev Then : FileReader → Type 0
  Then y = Knows (opened_by opened y) d (with_found (found d) ws) y

  seeks : (o : Option ℕ) → Then (read_after Seeking (this_or_none o))
  seeks None = tt
  seeks (Some f) = put_same opened f true

  -- no log has the name
  without : (f : ℕ) → opened f ≡ true → records d.is_log d.content d.log ≡ [] → Then (HasNoLog f)
  without f seen none = (seen, λ file v gives. noted_now v ws (found d) (found_is d f [] file none ∙ gives))

  -- a log has it, or a stranger's file
  finds_log : (f l : ℕ) (b : Bool) → opened f ≡ true → d.log ≡ Some l → d.is_log l ≡ b
      → Then (read_after (HasFile f) (cond b (Found l) NotFound))
  finds_log f l true seen log is_log = (
    seen,
    is_log,
    λ file v gives. noted_now v ws (found d)
        (found_is d f (d.content l) file (records_own d.is_log d.content d.log l (d.content l) log is_log refl)
        ∙ gives),
  )
  finds_log f l false seen log is_log = without f seen (records_stranger d.is_log d.content d.log l log is_log)

  looks_for_log : (f : ℕ) → opened f ≡ true → (o : Option ℕ) → d.log ≡ o
      → Then (read_after (HasFile f) (log_or_none d.is_log o))
  looks_for_log f seen None is = without f seen (ap (records d.is_log d.content) is)
  looks_for_log f seen (Some l) is = finds_log f l (d.is_log l) seen is refl

  reads_both : (f l : ℕ) → opened f ≡ true → Was d ws f (d.content l) → (o : Option ℕ)
      → finds (d.image f) (d.content l) ≡ o → Then (read_after (HasBoth f l) (this_or_none o))
  reads_both f l seen was None is = tt
  reads_both f l seen was (Some v) is = (seen, λ file. noted_too v ws (found d) (was file v is))

  reads_file : (f : ℕ) → opened f ≡ true → Was d ws f [] → (o : Option ℕ)
      → finds (d.image f) [] ≡ o → Then (read_after (HasNoLog f) (this_or_none o))
  reads_file f seen was None is = tt
  reads_file f seen was (Some v) is = (seen, λ file. noted_too v ws (found d) (was file v is))

  returns_or_not : (f v now : ℕ) (b : Bool) → (now == f) ≡ b → (d.file ≡ Some f → has v ws ≡ true) → d.file ≡ Some now
      → Then (cond b (Returned v) Seeking)
  returns_or_not f v now true same was is =
      noted_too v ws (found d) (was (is ∙ ap (λ (k : ℕ). Some k) (eqb-true now f same)))
  returns_or_not f v now false same was is = tt

  looks : (f v : ℕ) → (d.file ≡ Some f → has v ws ≡ true) → (o : Option ℕ) → d.file ≡ o
      → Then (read_after (HasRead f v) (this_or_none o))
  looks f v was None is = tt
  looks f v was (Some now) is = returns_or_not f v now (now == f) refl was is

  abbrev next : FileReader → Bool → FileReader
  next x works = read_after x (works_or_not works (answer_to d (read_call_of x)))

  own : (x : FileReader) (works : Bool) → Knows opened d ws x → Then (next x works)
  own Idle works h = tt
  own Seeking true h = seeks d.file
  own Seeking false h = tt
  own (HasFile f) true h = looks_for_log f h d.log refl
  own (HasFile f) false h = tt
  own (HasBoth f l) true h = reads_both f l h.0 h.2 (finds (d.image f) (d.content l)) refl
  own (HasBoth f l) false h = tt
  own (HasNoLog f) true h = reads_file f h.0 h.1 (finds (d.image f) []) refl
  own (HasNoLog f) false h = tt
  own (HasRead f v) true h = looks f v h.1 d.file refl
  own (HasRead f v) false h = tt
  own (Returned v) works h = noted_too v ws (found d) h

  -- a file that was opened stays so
  put_true : (f g : ℕ) → opened g ≡ true → put opened f true g ≡ true
  put_true f g seen = elim (cases_eq g f) [
    | inl is ↦ put_at opened f true g is
    | inr ne ↦ put_other opened f true g ne ∙ seen
  ]

  opens_more : (y : FileReader) (g : ℕ) → opened g ≡ true → opened_by opened y g ≡ true
  opens_more (HasFile f) g seen = put_true f g seen
  opens_more y g seen = seen

-- ---- all events

abbrev Right : World → Type 0
Right w = (r : ℕ) → Knows w.shared.opened w.shared.disk (w.was r) (w.readers r)

-- no reader moves
still : (w t : World) → KeepsReaders w.shared.opened w.shared.disk t.shared.disk → t.shared.opened ≡ w.shared.opened
    → t.readers ≡ w.readers → t.was ≡ w.was → Right w → Right (noted t)
still w t keeps opened readers was right r =
    subst (λ (x : ℕ → FileReader). Knows t.shared.opened t.shared.disk (with_found (found t.shared.disk) (t.was r))
    (x r)) (sym readers)
    (subst (λ (ws : ℕ → List ℕ). Knows t.shared.opened t.shared.disk (with_found (found t.shared.disk) (ws r))
    (w.readers r)) (sym was)
    (moved w.shared.opened w.shared.disk t.shared.disk keeps (w.was r) t.shared.opened
    (λ f seen. ap (λ (o : ℕ → Bool). o f) opened ∙ seen) (w.readers r) (right r)))

removes_if : (s : Shared) (o : Option ℕ) → KeepsReaders s.opened s.disk (removed_if s s.disk o).disk
removes_if s None =
    record { image = refl; is_log = refl; name = λ f seen none. absurd (none-some f none); content = λ l. inl refl }
removes_if s (Some q) = keeps_same s.opened s.disk

removes : (s : Shared) (o : Option ℕ) → s.disk.file ≡ o → KeepsReaders s.opened s.disk (removed s o).disk
removes s None is = keeps_same s.opened s.disk
removes s (Some i) is = removes_if s (s.owner i)

removed_opened_if : (s : Shared) (o : Option ℕ) → (removed_if s s.disk o).opened ≡ s.opened
removed_opened_if s None = refl
removed_opened_if s (Some q) = refl

removed_opened : (s : Shared) (o : Option ℕ) → (removed s o).opened ≡ s.opened
removed_opened s None = refl
removed_opened s (Some i) = removed_opened_if s (s.owner i)

puts : (s : Shared) (o name : Option ℕ) → KeepsReaders s.opened s.disk (log_put s s.disk o name).disk
puts s o None = record { image = refl; is_log = refl; name = λ f seen is. is; content = λ l. inl refl }
puts s o (Some i) = keeps_same s.opened s.disk

puts_opened : (s : Shared) (o name : Option ℕ) → (log_put s s.disk o name).opened ≡ s.opened
puts_opened s o None = refl
puts_opened s o (Some i) = refl

begins : (w : World) (r : ℕ) → Right w → Right (noted (happens w (ReaderBegins r)))
begins w r right q = elim (cases_eq q r) [
  | inl is ↦ subst (λ (x : FileReader). Knows w.shared.opened w.shared.disk (with_found (found w.shared.disk)
      (put w.was r [] q)) x)
      (sym (put_at w.readers r Seeking q is)) tt
  | inr ne ↦ subst (λ (x : FileReader). Knows w.shared.opened w.shared.disk (with_found (found w.shared.disk)
      (put w.was r [] q)) x)
      (sym (put_other w.readers r Seeking q ne))
      (subst (λ (ws : List ℕ). Knows w.shared.opened w.shared.disk (with_found (found w.shared.disk) ws) (w.readers q))
      (sym (put_other w.was r [] q ne))
      (moved w.shared.opened w.shared.disk w.shared.disk (keeps_same w.shared.opened w.shared.disk) (w.was q)
      w.shared.opened (λ f seen. seen) (w.readers q) (right q)))
]

goes_on : (w : World) (r : ℕ) (works : Bool) → Right w → Right (noted (happens w (ReaderSteps r works)))
goes_on w r works right q =
    let d = w.shared.disk in
    let y : FileReader = read_after (w.readers r) (works_or_not works (answer_to d (read_call_of (w.readers r)))) in
    let more : ℕ → Bool = opened_by w.shared.opened y in
    elim (cases_eq q r) [
      | inl is ↦ subst (λ (x : FileReader). Knows more d (with_found (found d) (w.was q)) x) (sym
          (put_at w.readers r y q is))
          (subst (λ k. Knows more d (with_found (found d) (w.was k)) y) (sym is)
          (own w.shared.opened d (w.was r) (w.readers r) works (right r)))
      | inr ne ↦ subst (λ (x : FileReader). Knows more d (with_found (found d) (w.was q)) x) (sym
          (put_other w.readers r y q ne))
          (moved w.shared.opened d d (keeps_same w.shared.opened d) (w.was q) more
          (λ f seen. opens_more w.shared.opened d (w.was q) y f seen) (w.readers q) (right q))
    ]

right_on : (w : World) (e : WorldEvent) → Holds_all w → Right w → Right (noted (happens w e))
right_on w (Steps p n x how) h right =
    still w (happens w (Steps p n x how))
    (good_step p w.shared h.safe h.current n x how (w.sessions p) (h.fits p)).effect.readers refl refl refl right
right_on w (Asks p r) h right =
    still w (happens w (Asks p r)) (keeps_same w.shared.opened w.shared.disk) refl refl refl right
right_on w (Killed p) h right =
    still w (happens w (Killed p)) (keeps_same w.shared.opened w.shared.disk) refl refl refl right
right_on w (Begins p) h right =
    still w (happens w (Begins p)) (keeps_same w.shared.opened w.shared.disk) refl refl refl right
right_on w Removed h right =
    still w (happens w Removed) (removes w.shared w.shared.disk.file refl)
    (removed_opened w.shared w.shared.disk.file) refl refl
    right
right_on w (LogPut o) h right =
    still w (happens w (LogPut o)) (puts w.shared o w.shared.disk.file)
    (puts_opened w.shared o w.shared.disk.file) refl refl
    right
right_on w (ReaderBegins r) h right = begins w r right
right_on w (ReaderSteps r works) h right = goes_on w r works right
right_on w (PowerFails f l c) h right = λ r. tt

always : (es : List WorldEvent) (w : World) → Holds_all w → Right w → Right (run es w)
always [] w h right = right
always (e ∷ es) w h right = always es (noted (happens w e)) (on w e h) (right_on w e h right)

returned : (opened : ℕ → Bool) (d : FolderState) (ws : List ℕ) (x : FileReader) (v : ℕ) → Knows opened d ws x
    → x ≡ Returned v
    → has v ws ≡ true
returned opened d ws x v h is = subst (λ (y : FileReader). Knows opened d ws y) is h

-- a reader returns what an opening would have found
pub reader_finds_a_commit : ReaderFindsACommit
reader_finds_a_commit log image is_log content es r v is =
    let w = run es (start log image is_log content) in
    returned w.shared.opened w.shared.disk (w.was r) (w.readers r) v
    (always es (start log image is_log content) (at_start log image is_log content) (λ q. tt) r) is
