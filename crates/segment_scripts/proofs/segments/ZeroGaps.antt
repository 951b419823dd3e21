-- Where a segment stands after a line: whether its gaps are zero.
use Rattle.std.proofs.Common.{◌≡◌, ℕ, Bool, true, false, if◌then◌else◌, Result, refl, sym, ap, subst, ◌∙◌}
use Rattle.raw_region.specs.Device.{WriterHistory, Writes}
use Rattle.seg_types.specs.Names.{Key}
use Rattle.seg_types.specs.Commands.{Command, Reading, Asked, Pop, ZeroFree, is_changing}
use Rattle.segment_manager.specs.declared.modes.Mode.{Mode}
use Rattle.segment_manager.specs.declared.modes.Mode.TheVariants.{Write, ReadOnly, CopyOnWrite}
use Rattle.segment_manager.specs.Directory.{Directory}
use Rattle.segment_manager.specs.Answers.{Done, Number, is_untouched}
use Rattle.segment_manager.specs.State.{AnswersQuery, SegmentState, DenotesCurrent}
use Rattle.segment_manager.specs.Step.{step}
use Rattle.segment_manager.specs.Calls.{HasZeroGaps}
use Rattle.segment_manager.proofs.Laws.{step-reads}
use Rattle.std.specs.Prelude.{◌||◌, not}
use Rattle.segment_scripts.specs.ZeroGaps.{changes_nothing, is_idle, is_zero_free}
use Rattle.segment_scripts.specs.declared.replies.CommandAnswer.{CommandAnswer as Reply}
use Rattle.segment_scripts.specs.Answer.{answer_text}
use Rattle.segment_scripts.specs.Changes.{Executes}
use Rattle.segment_scripts.specs.Replies.{Replies, answer_seen}
use Rattle.segment_scripts.specs.declared.answered.Answered.{Answered}
use Rattle.segment_scripts.specs.Refusing.{AnswersFor, Tells, is_refusal, refuses}
use Rattle.segment_scripts.specs.Run.{respond}
use Rattle.segment_scripts.specs.Segments.{MachineState, IsMachineAt, Responds, state_after}
use Rattle.segment_scripts.proofs.segments.Refusals.{answers-before, answers-owed}

-- ---- a command

zero_free-is : (c : Command) → is_zero_free c ≡ true → c ≡ ZeroFree
zero_free-is ZeroFree e = refl
zero_free-is c e = absurd (cc)

zero_free-done : (mode : Mode) (d : Directory) → is_untouched (step mode d ZeroFree).0 ≡ false
    → (step mode d ZeroFree).0 ≡ Done
unfolding step
zero_free-done Write d e = refl
zero_free-done ReadOnly d e = absurd (cc)
zero_free-done CopyOnWrite d e = refl

-- tests of which one holds
either-first : (a b : Bool) → a ≡ true → (a || b) ≡ true
either-first true b e = refl
either-first false b e = absurd (cc)

first-of : (a : Bool) → (a || false) ≡ true → a ≡ true
first-of true e = refl
first-of false e = e

neither : (a b : Bool) → (a || b) ≡ false → a ≡ false
neither true b e = e
neither false b e = refl

-- what a command leaves, by what holds of it
zeros_held : (refused changing zero_free known : Bool) (old new : SegmentState) → (refused ≡ true → new ≡ old)
    → (changing ≡ false → new ≡ old)
    → (zero_free ≡ true → refused ≡ false → HasZeroGaps new) → (known ≡ true → HasZeroGaps old)
    → (if refused then known else if changing then zero_free else known) ≡ true → HasZeroGaps new
zeros_held true changing zero_free known old new same stays zeros was e = subst HasZeroGaps (sym (same refl)) (was e)
zeros_held false true zero_free known old new same stays zeros was e = zeros e refl
zeros_held false false zero_free known old new same stays zeros was e = subst HasZeroGaps (sym (stays refl)) (was e)

-- what is asked leads to the place after it
module _ (old new : SegmentState) (c : Command) (asked : Reading) (e : Asked c ≡ asked) (done : Executes old new c)
    (kept : (d : Directory) → DenotesCurrent old.cut.bytes d → changes_nothing old.mode d c ≡ true → new ≡ old)
    (reads : is_changing c ≡ false → new ≡ old) where
  led : ((d : Directory) → DenotesCurrent old.cut.bytes d → c ≡ ZeroFree → (step old.mode d c).0 ≡ Done
      → HasZeroGaps new) → (at : MachineState) → IsMachineAt old at → IsMachineAt new (state_after at asked)
  led zeros at h =
      let d = at.directory in
      let m = h.mode in
      let state : IsMachineAt new (state_after at (Asked c)) = record {
        mode = done.stays.mode ∙ m;
        denotes = subst (λ (n : Mode). DenotesCurrent new.cut.bytes (step n d c).1) m (done.denotes d h.denotes);
        zeros = zeros_held (changes_nothing at.mode d c) (is_changing c) (is_zero_free c) at.zeros old new
            (λ r. kept d h.denotes (ap (λ (n : Mode). changes_nothing n d c) m ∙ r)) reads
            (λ z r. let is = zero_free-is c z in
            zeros d h.denotes is
            (ap (λ (x : Command). (step old.mode d x).0) is
            ∙ zero_free-done old.mode d (neither (is_untouched (step old.mode d ZeroFree).0) false
            (ap (λ (x : Command). changes_nothing old.mode d x) (sym is)
            ∙ ap (λ (n : Mode). changes_nothing n d c) m ∙ r))))
            h.zeros;
      } in
      subst (λ (r : Reading). IsMachineAt new (state_after at r)) e state

executed : (old new : SegmentState) (c : Command) (reply : Reply) (asked : Reading) → Asked c ≡ asked
    → Replies old new c reply → (at : MachineState) → IsMachineAt old at → IsMachineAt new (state_after at asked)
executed old new c reply asked e done = led old new c asked e
    (record { stays = done.stays; denotes = done.denotes; refused = λ d st r. done.kept d st (either-first _ _ r) })
    done.kept done.reads done.zeros

-- one that takes out an element too
popped : (old new : SegmentState) (key : Key) (asked : Reading) → Asked (Pop key) ≡ asked
    → Executes old new (Pop key) → (at : MachineState) → IsMachineAt old at → IsMachineAt new (state_after at asked)
popped old new key asked e done = led old new (Pop key) asked e done
    (λ d st r. done.refused d st (first-of (is_untouched (step old.mode d (Pop key)).0) r)) (λ n.
    absurd (cc)) (λ d st is. absurd (let other : is_zero_free (Pop key) ≡ true = ap is_zero_free is in cc))

-- one that only reads
answered : (s : SegmentState) (c : Command) (asked : Reading) → is_changing c ≡ false → Asked c ≡ asked
    → (at : MachineState) → IsMachineAt s at → IsMachineAt s (state_after at asked)
answered s c asked r e =
    led s s c asked e
    (record {
      stays = record { mode = refl; place = record { before = refl; after = refl } };
      denotes = λ d st. subst (DenotesCurrent s.cut.bytes) (sym (step-reads s.mode d c r)) st;
      refused = λ _ _ _. refl;
    })
    (λ _ _ _. refl) (λ _. refl) (λ d st is _.
    absurd (let other : is_changing ZeroFree ≡ false = ap is_changing (sym is) ∙ r in cc))

asked-owed : (old : SegmentState) (c : Command) (asked : Reading) → Asked c ≡ asked → (at : MachineState)
    → IsMachineAt old at → answer_text (step old.mode at.directory c).0 ≡ (respond at.mode at.directory asked).0
asked-owed old c asked e at h = ap (λ (n : Mode). answer_text (step n at.directory c).0) h.mode
    ∙ ap (λ (r : Reading). (respond at.mode at.directory r).0) e

-- and whether it is refused
refused-owed : (old : SegmentState) (c : Command) (asked : Reading) → Asked c ≡ asked → (at : MachineState)
    → IsMachineAt old at → is_refusal (step old.mode at.directory c).0 ≡ refuses at.mode at.directory asked
refused-owed old c asked e at h = ap (λ (n : Mode). is_refusal (step n at.directory c).0) h.mode
    ∙ ap (refuses at.mode at.directory) e

-- a command that reads, or one that changes nothing
reads_or : {P : Type 0} (changing nothing : Bool) → (changing ≡ false → P) → (nothing ≡ true → P)
    → (not changing || nothing) ≡ true → P
reads_or true nothing reads kept e = kept e
reads_or false nothing reads kept e = reads refl

-- what is asked changes nothing: nothing changes
idle : (old new : SegmentState) (c : Command) (asked : Reading) → Asked c ≡ asked
    → ((d : Directory) → DenotesCurrent old.cut.bytes d → changes_nothing old.mode d c ≡ true → new ≡ old)
    → (is_changing c ≡ false → new ≡ old)
    → (at : MachineState) → IsMachineAt old at → is_idle at.mode at.directory asked ≡ true → new ≡ old
idle old new c asked e kept reads at h i =
    reads_or (is_changing c) (changes_nothing at.mode at.directory c) reads
    (λ r. kept at.directory h.denotes (ap (λ (n : Mode). changes_nothing n at.directory c) h.mode ∙ r))
    (ap (is_idle at.mode at.directory) e ∙ i)

-- ---- what is asked is responded to

module _ {E : Type 0} {took took' : WriterHistory} {result : Result Answered E} {asked : Reading} where
  -- a call that answers what its command does
  responds : {old new : SegmentState} (c : Command) → Asked c ≡ asked
      → ((at : MachineState) → IsMachineAt old at → IsMachineAt new (state_after at asked))
      → ((at : MachineState) → IsMachineAt old at → is_idle at.mode at.directory asked ≡ true → new ≡ old)
      → AnswersFor took took' result (DenotesCurrent old.cut.bytes) (λ d. (step old.mode d c).0)
      → Responds old new took took' result asked
  responds {old} c e leads idles w = record {
    leads = leads;
    idles = idles;
    writes = record {
      writes = λ at h.
          subst (Writes took took' result) (asked-owed old c asked e at h) (w.writes.writes at.directory h.denotes);
      counted = w.writes.counted;
    };
    tells = λ at h. subst (Tells result) (refused-owed old c asked e at h) (w.tells at.directory h.denotes);
  }

  -- a command that only reads leaves the gaps
  pub responds-read : (s : SegmentState) (c : Command) → is_changing c ≡ false → Asked c ≡ asked
      → AnswersFor took took' result (DenotesCurrent s.cut.bytes) (λ d. (step s.mode d c).0)
      → Responds s s took took' result asked
  responds-read s c r e w = responds c e (answered s c asked r e) (λ _ _ _. refl) w

  -- a popped element leaves the gaps
  pub responds-popped : {old new : SegmentState} (key : Key) → Asked (Pop key) ≡ asked → Executes old new (Pop key)
      → AnswersFor took took' result (DenotesCurrent old.cut.bytes) (λ d. (step old.mode d (Pop key)).0)
      → Responds old new took took' result asked
  responds-popped {old} {new} key e done w = responds (Pop key) e (popped old new key asked e done)
      (idle old new (Pop key) asked e
      (λ d st r. done.refused d st (first-of (is_untouched (step old.mode d (Pop key)).0) r)) (λ n. absurd (cc))) w

  -- a number
  pub responds-number : (s : SegmentState) (c : Command) {n : ℕ} → is_changing c ≡ false → Asked c ≡ asked
      → AnswersQuery s c (Number n) → Writes took took' result (answer_text (Number n)) → Tells result false
      → Responds s s took took' result asked
  responds-number s c {n} r e is w t =
      responds-read s c r e (answers-owed w t is.answers)

  -- a reply, which is written of what is there then
  pub responds-replied : {old new : SegmentState} {c : Command} {reply : Reply} → Asked c ≡ asked
      → Replies old new c reply → AnswersFor took took' result (DenotesCurrent new.cut.bytes) (λ d. answer_seen d reply)
      → Responds old new took took' result asked
  responds-replied {old} {new} {c} {reply} e done w =
      responds c e (executed old new c reply asked e done) (idle old new c asked e done.kept done.reads)
      (answers-before {said = λ d. answer_seen d reply} (λ d. (step old.mode d c).1) w done.denotes done.answers)
