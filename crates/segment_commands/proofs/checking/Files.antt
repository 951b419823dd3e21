-- What a check of several files found so far.
use Rattle.std.proofs.Common.{◌≡◌, ◌<◌, ◌+◌, refl, sym, ap, subst, ◌∙◌, ℕ, suc, Bool, List, [], ◌∷◌, ◌++◌, map, fold}
use Rattle.std.proofs.Common.{length, take, drop, get_or, append-nil, false, true, inl, inr, arith}
use Rattle.std.specs.Prelude.{◌⊎◌, IsOk, Option, Result, Ok, Err, MatchResult, flat_map}
use Rattle.std.specs.List.{FoldsTo}
use Rattle.std.specs.Result.{IsErr}
use Rattle.std.proofs.lemmas.List.{flat_map_more, map-append, take-append-drop}
use Rattle.std.proofs.Math.Seq.{take-suc}
use Rattle.std.proofs.lemmas.List.Sums.{fold-append}
use Rattle.raw_region.specs.Device.{WriterHistory, Writes}
use Rattle.raw_region.proofs.Laws.{writes-cut, writes-then}
use Rattle.segment_cli.specs.Reports.{WritesText}
use Rattle.segment_cli.specs.declared.faults.SessionFault.{SessionFault}
use Rattle.segment_cli.specs.declared.faults.SessionFault.TheVariants.{WriteFault}
use Rattle.segment_commands.specs.declared.command_faults.CommandFault.{CommandFault}
use Rattle.segment_commands.specs.Checking.{Checked, ChecksAll, ChecksOneFile, TellsFit, all_unfit_lines, fit_line}
use Rattle.segment_commands.specs.Checking.{fit_lines}
use Rattle.segment_commands.specs.Checking.{status_in, unfit_lines, worse, worst_status}
use Rattle.segment_commands.specs.declared.command_faults.CommandFault.TheVariants.{Session}
use Rattle.segment_commands.specs.Opening.{VerifiesFile}
use Rattle.segment_commands.specs.Telling.{FailsOutput, FlushesText}
use Rattle.segment_disk.specs.declared.presence.FileProblem.{FileProblem}
use Rattle.segment_disk.specs.Events.{Event}

-- ---- one more file

asked-more : {D : Type 0} (asks : D → Checked → D → Type 0) (first : D) (cs : List Checked) (mid : D) (c : Checked)
    (last : D) → FoldsTo asks first cs mid → asks mid c last → FoldsTo asks first (cs ++ c ∷ []) last
asked-more {D} asks first [] mid c last p q = (last, subst (λ (d : D). asks d c last) (sym p) q, refl)
asked-more asks first (x ∷ xs) mid c last p q = (p.0, p.1, asked-more asks p.0 xs mid c last p.2 q)

unfit-more : {E F : Type 0} (old mid new : WriterHistory) (said : Result (Unit {0}) E) (said' : Result (Unit {0}) F)
    (cs : List Checked) (c : Checked) → Writes old mid said (all_unfit_lines cs)
    → MatchResult said (λ u. Writes mid new said' (unfit_lines c.path c.found c.trouble)) (λ e. (new ≡ mid)
    × IsErr said') → Writes old new said' (all_unfit_lines (cs ++ c ∷ []))
unfit-more old mid new (Ok u) said' cs c w h =
    subst (λ (t : List ℕ). Writes old new said' t) (flat_map_more (λ (c : Checked).
    unfit_lines c.path c.found c.trouble) [] cs c)
    (writes-then old mid new u said' (all_unfit_lines cs) (unfit_lines c.path c.found c.trouble) w h)
unfit-more old mid new (Err e) said' cs c w h =
    subst (λ (t : List ℕ). Writes old new said' t) (flat_map_more (λ (c : Checked).
    unfit_lines c.path c.found c.trouble) [] cs c)
    (subst (λ (k : WriterHistory). Writes old k said' (all_unfit_lines cs ++ unfit_lines c.path c.found c.trouble))
    (sym h.0)
    (writes-cut old mid e said' (all_unfit_lines cs) (unfit_lines c.path c.found c.trouble) h.1 w))

fit-more : {A B E F : Type 0} (quiet : Bool) (old mid new : WriterHistory) (a : A) (result : Result B F)
    (cs : List Checked) (c : Checked) → Writes {E = E} old mid (Ok a) (fit_lines quiet cs)
    → Writes mid new result (fit_line quiet c.path c.found) → Writes old new result (fit_lines quiet (cs ++ c ∷ []))
fit-more quiet old mid new a result cs c w h =
    subst (λ (t : List ℕ). Writes old new result t) (flat_map_more (λ (c : Checked).
    fit_line quiet c.path c.found) [] cs c)
    (writes-then old mid new a result (fit_lines quiet cs) (fit_line quiet c.path c.found) w h)

puts : {E : Type 0} (old new : WriterHistory) (said : Result (Unit {0}) E) (text : List ℕ)
    → Writes old new said text → WritesText old new text
puts old new (Ok u) text w = inl ((let counted = w.counted in omega (arith, counted)), w.ok)
puts old new (Err e) text w = inr (w.counted, w.err)

named-more : (cs : List Checked) (paths : List (List ℕ)) (c : Checked) → map (λ c. c.path) cs ≡ paths
    → map (λ c. c.path) (cs ++ c ∷ []) ≡ paths ++ c.path ∷ []
named-more cs paths c e = map-append (λ (c : Checked). c.path) cs (c ∷ [])
    ∙ ap (λ (ps : List (List ℕ)). ps ++ c.path ∷ []) e

-- of one more file the line did not go out
module _ {O : Type 0} (history : O → WriterHistory) (flushes : O → Bool → O → Type 0) (old mid new : O) where
  lost-more : {A E : Type 0} (quiet : Bool) (a : A) (cs : List Checked) (c : Checked)
      → Writes {E = E} (history old) (history mid) (Ok a) (fit_lines quiet cs)
      → FailsOutput history mid new (fit_line quiet c.path c.found)
      ⊎ FlushesText history flushes mid new (fit_line quiet c.path c.found) false
      → FailsOutput history old new (fit_lines quiet (cs ++ c ∷ []))
      ⊎ FlushesText history flushes old new (fit_lines quiet (cs ++ c ∷ [])) false
  lost-more quiet a cs c w (inl b) =
      let failed : Result (Unit {0}) (Unit {0}) = Err tt in
      let both = fit-more quiet (history old) (history mid) (history new) a failed cs c w (record {
        ok = tt;
        err = b.part;
        counted = b.failed;
      }) in
      inl (record { part = both.err; failed = both.counted })
  lost-more quiet a cs c w (inr t) =
      let done : Result (Unit {0}) (Unit {0}) = Ok tt in
      let both = fit-more quiet (history old) (history mid) (history new) a done cs c w (record {
        ok = t.bytes;
        err = tt;
        counted = (let failures = t.failures in omega (arith, failures));
      }) in
      inr (record {
        bytes = both.ok;
        failures = (let counted = both.counted in omega (arith, counted));
        flushed = t.flushed;
      })

-- ---- the files so far

module _ {D O E : Type 0} (step : D → Event → D → Type 0) (tells : D → Option FileProblem
    → Type 0) (history : O → WriterHistory) (flushes : O → Bool → O → Type 0) (disk : D) (err : WriterHistory) (out : O)
    (quiet : Bool) where
  -- the files of these paths were checked, the output took their lines, and this is their worst status
  pub record Going (disk' : D) (err' : WriterHistory) (out' : O) (said : Result (Unit {0}) E)
      (paths : List (List ℕ)) (worst : ℕ) : Type 0 where
    pub checked : List Checked
    pub named : map (λ c. c.path) checked ≡ paths
    pub asked : FoldsTo (ChecksOneFile step tells) disk checked disk'
    pub unfit : Writes err err' said (all_unfit_lines checked)
    pub fit : Writes {A = Unit {0}} {E = Unit {0}} (history out) (history out') (Ok tt) (fit_lines quiet checked)
    pub worst_is : worst ≡ worst_status checked

  -- before the first file nothing was found
  pub none_going : (said : Result (Unit {0}) E) → said ≡ Ok tt → Going disk err out said [] 0
  none_going said e = record {
    checked = [];
    named = refl;
    asked = refl;
    unfit = subst (λ (r : Result (Unit {0}) E).
        Writes err err r []) (sym e) (record { ok = sym (append-nil err.bytes); err = tt; counted = omega arith });
    fit = record { ok = sym (append-nil (history out).bytes); err = tt; counted = omega arith };
    worst_is = refl;
  }

  module _ (disk' disk'' : D) (err' err'' : WriterHistory) (out' out'' : O) (said said' : Result (Unit {0}) E)
      (paths : List (List ℕ)) (worst : ℕ) (going : Going disk' err' out' said paths worst)
      (path : List ℕ) (found : Result (Unit {0}) SessionFault) (trouble : Option FileProblem)
      (asked : VerifiesFile step disk' disk'' path found) (told : tells disk'' trouble)
      (unfit : MatchResult said (λ u. Writes err' err'' said' (unfit_lines path found trouble)) (λ e. (err'' ≡ err')
      × IsErr said')) where
    -- one file more was checked
    pub going_more : {F : Type 0} → Writes {A = Unit {0}} {E = F} (history out') (history out'') (Ok tt)
        (fit_line quiet path found) → (paths' : List (List ℕ)) (worst' : ℕ)
        → paths' ≡ paths ++ path ∷ [] → worst' ≡ worse worst (status_in found)
        → Going disk'' err'' out'' said' paths' worst'
    going_more w paths' worst' p m =
        let done : Result (Unit {0}) (Unit {0}) = Ok tt in
        let c : Checked = record { path = path; found = found; trouble = trouble } in
        record {
          checked = going.checked ++ c ∷ [];
          named = named-more going.checked paths c going.named ∙ sym p;
          asked = asked-more (ChecksOneFile step tells) disk going.checked disk' c disk'' going.asked
              (record { asked = asked; told = told });
          unfit = unfit-more err err' err'' said said' going.checked c going.unfit unfit;
          fit = fit-more quiet (history out) (history out') (history out'') tt done going.checked c going.fit
              (record { ok = w.ok; err = tt; counted = w.counted });
          worst_is = m ∙ (ap (λ n. worse n (status_in found)) going.worst_is
              ∙ sym (fold-append (λ n (c : Checked). worse n (status_in c.found)) 0 going.checked (c ∷ [])));
        }

    -- the line of the last one did not go out
    pub going_lost : FailsOutput history out' out'' (fit_line quiet path found)
        ⊎ FlushesText history flushes out' out'' (fit_line quiet path found) false → (files rest : List (List ℕ))
        → files ≡ (paths ++ path ∷ []) ++ rest
        → ChecksAll step tells disk disk'' history flushes out out'' err err'' quiet files (Err (Session WriteFault))
    going_lost lost files rest e =
        let c : Checked = record { path = path; found = found; trouble = trouble } in
        record {
          checked = going.checked ++ c ∷ [];
          asked = asked-more (ChecksOneFile step tells) disk going.checked disk' c disk'' going.asked
              (record { asked = asked; told = told });
          unfit = puts err err'' said' (all_unfit_lines (going.checked ++ c ∷ []))
              (unfit-more err err' err'' said said' going.checked c going.unfit unfit);
          answer = (
            refl,
            (rest, e ∙ ap (λ (ps : List (List ℕ)). ps ++ rest) (sym (named-more going.checked paths c going.named))),
            lost-more history flushes out out' out'' quiet tt going.checked c going.fit lost,
          );
        }

  -- after the last file
  module _ (disk' : D) (err' : WriterHistory) (out' out'' : O) (said : Result (Unit {0}) E) (files : List (List ℕ))
      (worst : ℕ) (going : Going disk' err' out' said files worst) (same : history out'' ≡ history out') where
    all_told : (ok : Bool) → flushes out' ok out''
        → FlushesText history flushes out out'' (fit_lines quiet going.checked) ok
    all_told ok flush = record {
      bytes = ap (λ (t : WriterHistory). t.bytes) same ∙ going.fit.ok;
      failures = (let counted = going.fit.counted in let failures = ap (λ (t : WriterHistory). t.failures) same
          in omega (arith, counted, failures));
      flushed = record { before = out'; flush = flush; same = same };
    }

    -- all went out
    pub going_done : flushes out' true out''
        → ChecksAll step tells disk disk' history flushes out out'' err err' quiet files (Ok worst)
    going_done flush = record {
      checked = going.checked;
      asked = going.asked;
      unfit = puts err err' said (all_unfit_lines going.checked) going.unfit;
      answer = (going.named, going.worst_is, all_told true flush);
    }

    -- the last of it did not
    pub going_kept : flushes out' false out''
        → ChecksAll step tells disk disk' history flushes out out'' err err' quiet files (Err (Session WriteFault))
    going_kept flush = record {
      checked = going.checked;
      asked = going.asked;
      unfit = puts err err' said (all_unfit_lines going.checked) going.unfit;
      answer = (
        refl,
        ([], sym (append-nil (map (λ (c : Checked). c.path) going.checked) ∙ going.named)),
        inr (all_told false flush),
      );
    }

-- ---- the paths of the files so far

-- one that took its text, or took all so far, may fail once more where it might before
pub room_left : {E : Type 0} (old new : WriterHistory) (said : Result (Unit {0}) E) (text : List ℕ) (n : ℕ)
    → Writes old new said text → old.failures < n → IsOk said → new.failures < n
room_left old new (Ok u) text n w f h = (let counted = w.counted in omega (arith, counted, f))
room_left old new (Err e) text n w f h = absurd (cc h)

module _ {A : Type 0} (path_of : A → List ℕ) (files : List A) (i : ℕ) (d : A) (h : i < length files) where
  paths_next : map path_of (take (suc i) files) ≡ map path_of (take i files) ++ path_of (get_or files i d) ∷ []
  paths_next = ap (map path_of) (take-suc files i d h) ∙ map-append path_of (take i files) (get_or files i d ∷ [])

  -- one path more was checked
  pub paths-more : map path_of (take (i + 1) files) ≡ map path_of (take i files) ++ path_of (get_or files i d) ∷ []
  paths-more =
      let next : i + 1 ≡ suc i = omega arith in
      ap (λ n. map path_of (take n files)) next ∙ paths_next

  -- the paths checked so far, this one, and those that are left
  pub paths-rest : map path_of files ≡ (map path_of (take i files) ++ path_of (get_or files i d) ∷ [])
      ++ map path_of (drop (suc i) files)
  paths-rest = ap (map path_of) (sym (take-append-drop (suc i) files))
      ∙ (map-append path_of (take (suc i) files) (drop (suc i) files)
      ∙ ap (λ (ps : List (List ℕ)). ps ++ map path_of (drop (suc i) files)) paths_next)

-- what a device did, where it is the same device
pub unfit_heard : {E V : Type 0} (history : V
    → WriterHistory) (said : Result (Unit {0}) E) (A P : Type 0) (new old : V)
    → MatchResult said (λ u. A) (λ e. (new ≡ old) × P)
    → MatchResult said (λ u. A) (λ e. (history new ≡ history old) × P)
unfit_heard history (Ok u) A P new old m = m
unfit_heard history (Err e) A P new old m = (ap history m.0, m.1)
