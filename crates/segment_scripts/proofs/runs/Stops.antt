-- Where a run stops: at a fault of a device, at the limit, or at the end.
use Rattle.std.proofs.Common.{◌≡◌, ◌==◌, ℕ, ◌+◌, ◌<◌, ◌≤◌, min, nat_lt, nat_le, inl, inr, Bool, false, true, Ok, List}
use Rattle.std.proofs.Common.{[], ◌∷◌, ◌++◌, length, take, drop, refl, sym, ap, subst, ◌∙◌, arith}
use Rattle.std.proofs.lemmas.List.{append_assoc, take_all, take-take, drop_all, length-take, length-drop, length-append}
use Rattle.std.proofs.lemmas.List.{append-nil, length-take-le, take-append-drop}
use Rattle.std.proofs.lemmas.Bool.{ne_eqb}
use Rattle.std.proofs.lemmas.Bool.Decides.{nat_tests}
use Rattle.std.proofs.Math.Seq.{take-append-add}
use Rattle.raw_region.specs.Answers.{AppendsProperPrefix}
use Rattle.raw_region.specs.Device.{ReadDelta, AppendsBytes, WriteDelta}
use Rattle.raw_region.proofs.Laws.{added, both_added}
use Rattle.segment_scripts.specs.Run.{lines}
use Rattle.segment_scripts.specs.RunOutcome.{answer_all, AnswersLines, AnswersPart}
use Rattle.segment_scripts.specs.Lines.{ended_lines, open_line, script_limit, executable}
use Rattle.segment_scripts.specs.RunProgress.{kept, EndsAtLast, EndsIn, FailsIn, HasAnswered, HasStopped, HasRunTo}
use Rattle.segment_scripts.specs.RunProgress.{IsStoppedAtLast, LeavesLast}
use Rattle.segment_scripts.specs.declared.ends.End.{End}
use Rattle.segment_scripts.specs.declared.ends.End.TheVariants.{Complete, Refused}
use Rattle.segment_scripts.specs.Stopping.{IsStoppedAt, LeavesUntil, goes_on}
use Rattle.segment_lang.proofs.Laws.{at_most_or_more}
use Rattle.segment_scripts.proofs.runs.Lines.{ended_lines-end, lines-parts, last_lines, last-some, last-none}
use Rattle.segment_scripts.proofs.runs.AnswersSoFar.{answers_one, stops_at, same_answer}

-- of these lines some were answered, after none of which the run was to end, and the answer to the next was cut
pub record IsPartOn {P : Type 0} (respond : P → List ℕ → List ℕ × P) (stops : P → List ℕ
    → Bool) (start : P) (all : List (List ℕ)) (printed : List ℕ) (Stands : P → Type 0) : Type 0 where
  pub part : AnswersPart respond start all printed Stands
  pub on : goes_on respond stops start part.answered ≡ true

-- ---- devices

-- no failure more: none happened
pub none_failed : (old new : ℕ) → new ≡ old → nat_lt old new ≡ false
none_failed old new e = grind (arith, nat_tests)

-- one failure more: it happened
pub one_failed : (old new : ℕ) → new ≡ old + 1 → nat_lt old new ≡ true
one_failed old new e = grind (arith, nat_tests)

-- a device that gave more
pub since-more : (old mid new xs : List ℕ) → AppendsBytes old mid → new ≡ mid ++ xs
    → drop (length old) new ≡ drop (length old) mid ++ xs
since-more old mid new xs h e =
    added old new (drop (length old) mid ++ xs) (both_added old mid new (drop (length old) mid) xs h e)

pub record HasNothingNew (old : List ℕ) : Type 0 where
  pub grows : AppendsBytes old old
  pub read : drop (length old) old ≡ []

-- nothing was read yet
pub nothing_yet : (old : List ℕ) → HasNothingNew old
nothing_yet old =
    let none : drop (length old) old ≡ [] = drop_all (length old) old (omega arith) in
    record { grows = rw none (sym (append-nil old)); read = none }

-- ---- the limit

take-take-min : (n m : ℕ) (xs : List ℕ) → take n (take m xs) ≡ take (min m n) xs
take-take-min n m xs = elim (at_most_or_more m n) [
  | inl h ↦ let k : min m n ≡ m = omega arith in
      take_all n (take m xs) (let long = length-take m xs in omega arith) ∙ ap (λ (i : ℕ). take i xs) (sym k)
  | inr h ↦ let k : min m n ≡ n = omega arith in
      take-take n m xs (omega arith) ∙ ap (λ (i : ℕ). take i xs) (sym k)
]

-- of one piece more only what is left counts
pub within_limit : (limit left count : ℕ) (read xs : List ℕ) → length read + left ≡ limit
    → take limit (read ++ take count xs) ≡ read ++ take (min count left) xs
within_limit limit left count read xs e =
    ap (λ (n : ℕ). take n (read ++ take count xs)) (sym e) ∙ take-append-add read (take count xs) left
    ∙ ap (λ (l : List ℕ). read ++ l) (take-take-min left count xs)

pub executable-open : (script : ReadDelta) → script.ended ≡ false
    → executable script ≡ ended_lines (take script_limit script.bytes)
unfolding ended_lines
executable-open script e = rw e refl

-- a script that ended within the limit is run whole
pub executable-whole : (script : ReadDelta) → script.ended ≡ true → length script.bytes ≤ script_limit
    → executable script ≡ lines script.bytes
executable-whole script e h =
    let k : nat_le (length script.bytes) script_limit ≡ true = grind (arith, nat_tests) in
    rw (e, k) refl

-- ---- the last line

last_is : (all : List ℕ) → (length (take kept all) == 0) ≡ false → last_lines all ≡ all ∷ []
last_is [] e = absurd (cc)
last_is (c ∷ cs) e = last-some c cs

some_kept : (n c : ℕ) (cs : List ℕ) → 0 < n → (length (take n (c ∷ cs)) == 0) ≡ false
some_kept n c cs h = ne_eqb (length (take n (c ∷ cs))) 0 (λ e. let long = length-take n (c ∷ cs) in omega arith)

last_is_none : (all : List ℕ) → (length (take kept all) == 0) ≡ true → last_lines all ≡ []
last_is_none [] e = last-none
last_is_none (c ∷ cs) e = absurd (let h = some_kept kept c cs (omega arith) in cc)

-- the last line without a line end is a line
pub last_line : (read line : List ℕ) → line ≡ take kept (open_line read) → (length line == 0) ≡ false
    → lines read ≡ ended_lines read ++ open_line read ∷ []
last_line read line e h = lines-parts read
    ∙ ap (λ (ls : List (List ℕ)). ended_lines read ++ ls) (last_is (open_line read) (rw (← e) h))

-- no last line: all lines have an end
pub no_last_line : (read line : List ℕ) → line ≡ take kept (open_line read) → (length line == 0) ≡ true
    → lines read ≡ ended_lines read
no_last_line read line e h = lines-parts read
    ∙ ap (λ (ls : List (List ℕ)). ended_lines read ++ ls) (last_is_none (open_line read) (rw (← e) h))
    ∙ append-nil (ended_lines read)

module _ {P : Type 0} (respond : P → List ℕ → List ℕ × P) where
  pub printed : (start : P) (before : List ℕ) (ls : List (List ℕ)) (Stands : P → Type 0) (taken : List ℕ)
      → HasAnswered respond start before ls Stands taken
      → AnswersLines respond start ls (drop (length before) taken) Stands
  printed start before ls Stands taken h = record {
    prints = added before taken (answer_all respond start ls).0 h.prints;
    stands = h.stands;
  }

  -- what was taken goes on from what was taken before
  pub grows_answered : (start : P) (before : List ℕ) (ls : List (List ℕ)) (Stands : P → Type 0) (taken : List ℕ)
      → HasAnswered respond start before ls Stands taken → AppendsBytes before taken
  grows_answered start before ls Stands taken h =
      h.prints ∙ ap (λ (t : List ℕ). before ++ t) (sym (added before taken (answer_all respond start ls).0 h.prints))

  -- a run that stopped at a line stops there with more text after it
  pub grows_stopped : (start : P) (before : List ℕ) (ls : List (List ℕ)) (l : List ℕ) (Stands : P
      → Type 0) (taken : List ℕ) → HasStopped respond start before ls l Stands taken → AppendsBytes before taken
  grows_stopped start before ls l Stands taken h =
      let told = (answer_all respond start ls).0 in
      let prefix = take h.prints.count (respond (answer_all respond start ls).1 l).0 in
      let all : taken ≡ before ++ (told ++ prefix) = h.prints.added ∙ append_assoc before told prefix in
      all ∙ ap (λ (t : List ℕ). before ++ t) (sym (added before taken (told ++ prefix) all))

  module _ (stops : P → List ℕ → Bool) where
    -- a run that ends at its last line leaves it
    pub grows_last : (start : P) (before read : List ℕ) (Stands : P → Type 0) (taken : List ℕ) (end : End)
        → LeavesLast respond stops start before read Stands taken end → AppendsBytes before taken
    grows_last start before read Stands taken Complete h =
        grows_answered start before (lines read) Stands taken h.answered
    grows_last start before read Stands taken Refused h =
        grows_answered start before (ended_lines read ++ open_line read ∷ []) Stands taken h.ends.answered

    -- of these lines some were answered, and the answer to the next was cut
    pub printed_part : (start : P) (before : List ℕ) (all ls : List (List ℕ)) (l : List ℕ) (more : List (List ℕ))
        (Stands : P → Type 0) (taken : List ℕ)
        → HasStopped respond start before ls l Stands taken → goes_on respond stops start ls ≡ true
        → all ≡ ls ++ l ∷ more → IsPartOn respond stops start all (drop (length before) taken) Stands
    printed_part start before all ls l more Stands taken h on e =
        let told = (answer_all respond start ls).0 in
        let text = (respond (answer_all respond start ls).1 l).0 in
        let n = h.prints.count in
        record {
          part = record {
            answered = ls;
            next = l;
            rest = more;
            parts = e;
            prefix = take n text;
            prints = added before taken (told ++ take n text) (h.prints.added ∙ append_assoc before told (take n text));
            part = (
              drop n text,
              sym (take-append-drop n text),
              (let fewer = h.prints.fewer in omega (arith, length-drop n text)),
            );
            stands = h.stands;
          };
          on = on;
        }

    -- a line end in the piece is executable, as far as the piece is within the limit
    executable_in : (read piece prefix more : List ℕ) (left count within : ℕ) (script : ReadDelta)
        → length read + left ≡ script_limit → within ≡ min count left
        → script.bytes ≡ read ++ take count piece → script.ended ≡ false → take within piece ≡ prefix ++ 0x0A ∷ more
        → executable script ≡ ended_lines (read ++ prefix) ++ open_line (read ++ prefix) ∷ ended_lines more
    executable_in read piece prefix more left count within script limit is bytes unended parts =
        let all : take script_limit script.bytes ≡ (read ++ prefix) ++ 0x0A ∷ more =
        ap (take script_limit) bytes ∙ within_limit script_limit left count read piece limit
        ∙ ap (λ (n : ℕ). read ++ take n piece) (sym is)
        ∙ ap (λ (l : List ℕ). read ++ l) parts ∙ sym (append_assoc read prefix (0x0A ∷ more)) in
        executable-open script unended ∙ ap ended_lines all ∙ ended_lines-end (read ++ prefix) more

    -- the writer failed in the answer to a line that ends there
    pub cut_in : (start : P) (before read piece : List ℕ) (left count within : ℕ) (script : ReadDelta) (Stands : P
        → Type 0) (taken : List ℕ)
        → length read + left ≡ script_limit → within ≡ min count left
        → script.bytes ≡ read ++ take count piece → script.ended ≡ false
        → FailsIn respond stops start before read (take within piece) Stands taken
        → IsPartOn respond stops start (executable script) (drop (length before) taken) Stands
    cut_in start before read piece left count within script Stands taken limit is bytes unended h =
        printed_part start before (executable script) (ended_lines (read ++ h.prefix)) (open_line (read ++ h.prefix))
        (ended_lines h.more) Stands taken h.stopped h.on
        (executable_in read piece h.prefix h.more left count within script limit is bytes unended h.parts)

    -- the run ended after a line that ends there
    pub stopped_in : (start : P) (before read piece : List ℕ) (left count within : ℕ) (script : ReadDelta)
        (out : WriteDelta) (Stands : P → Type 0) (taken : List ℕ)
        → length read + left ≡ script_limit → within ≡ min count left
        → script.bytes ≡ read ++ take count piece → script.ended ≡ false
        → EndsIn respond stops start before read (take within piece) Stands taken
        → out.bytes ≡ drop (length before) taken → script.failed ≡ false → out.failed ≡ false
        → IsStoppedAt respond stops start script out Stands
    stopped_in start before read piece left count within script out Stands taken limit is bytes unended h took given
        written = record {
          before = ended_lines (read ++ h.prefix);
          last = open_line (read ++ h.prefix);
          rest = ended_lines h.more;
          parts = executable_in read piece h.prefix h.more left count within script limit is bytes unended h.parts;
          on = h.ends.on;
          stop = h.ends.stop;
          answers = subst (λ (t : List ℕ).
              AnswersLines respond start (ended_lines (read ++ h.prefix) ++ open_line (read ++ h.prefix) ∷ []) t
              Stands) (sym took)
              (printed start before (ended_lines (read ++ h.prefix) ++ open_line (read ++ h.prefix) ∷ []) Stands taken
              h.ends.answered);
          read = given;
          written = written;
        }

    -- the run ended after the last line
    stopped_at_end : (start : P) (before : List ℕ) (script : ReadDelta) (out : WriteDelta) (Stands : P
        → Type 0) (taken : List ℕ)
        → script.ended ≡ true → length script.bytes ≤ script_limit
        → EndsAtLast respond stops start before script.bytes Stands taken
        → out.bytes ≡ drop (length before) taken → script.failed ≡ false → out.failed ≡ false
        → IsStoppedAt respond stops start script out Stands
    stopped_at_end start before script out Stands taken whole within h took given written = record {
      before = ended_lines script.bytes;
      last = open_line script.bytes;
      rest = [];
      parts = executable-whole script whole within ∙ h.parts;
      on = h.ends.on;
      stop = h.ends.stop;
      answers = subst (λ (t : List ℕ).
          AnswersLines respond start (ended_lines script.bytes ++ open_line script.bytes ∷ []) t Stands) (sym took)
          (printed start before (ended_lines script.bytes ++ open_line script.bytes ∷ []) Stands taken h.ends.answered);
      read = given;
      written = written;
    }

    -- what the last line leaves is what the run leaves
    pub until_last : (start : P) (before : List ℕ) (script : ReadDelta) (out : WriteDelta) (Stands : P
        → Type 0) (taken : List ℕ) (end : End)
        → script.ended ≡ true → length script.bytes ≤ script_limit
        → LeavesLast respond stops start before script.bytes Stands taken end
        → out.bytes ≡ drop (length before) taken → script.failed ≡ false → out.failed ≡ false
        → LeavesUntil respond stops start script out Stands (Ok end)
    until_last start before script out Stands taken Complete whole within h took given written = record {
      ran = record {
        whole = whole;
        within = within;
        answers = subst (λ (t : List ℕ). AnswersLines respond start (lines script.bytes) t Stands) (sym took)
            (printed start before (lines script.bytes) Stands taken h.answered);
        read = given;
        written = written;
      };
      on = h.on;
    }
    until_last start before script out Stands taken Refused whole within h took given written =
        stopped_at_end start before script out Stands taken whole within h took given written

  -- more bytes came than were left
  pub cut_at_limit : (start : P) (before read piece : List ℕ) (left count within : ℕ) (bytes : List ℕ) (Stands : P
      → Type 0) (line taken : List ℕ)
      → length read + left ≡ script_limit → within ≡ min count left
      → bytes ≡ read ++ take count piece
      → HasRunTo respond start before (read ++ take within piece) Stands line taken
      → AnswersLines respond start (ended_lines (take script_limit bytes)) (drop (length before) taken) Stands
  cut_at_limit start before read piece left count within bytes Stands line taken limit is given h =
      let all : take script_limit bytes ≡ read ++ take within piece =
      ap (take script_limit) given ∙ within_limit script_limit left count read piece limit
      ∙ ap (λ (n : ℕ). read ++ take n piece) (sym is) in
      subst (λ (l : List ℕ). AnswersLines respond start (ended_lines l) (drop (length before) taken) Stands) (sym all)
      (printed start before (ended_lines (read ++ take within piece)) Stands taken h.answered)

  -- the run goes on up to the limit
  pub on_at_limit : (stops : P → List ℕ
      → Bool) (start : P) (read piece : List ℕ) (left count within : ℕ) (bytes : List ℕ)
      → length read + left ≡ script_limit → within ≡ min count left
      → bytes ≡ read ++ take count piece
      → goes_on respond stops start (ended_lines (read ++ take within piece)) ≡ true
      → goes_on respond stops start (ended_lines (take script_limit bytes)) ≡ true
  on_at_limit stops start read piece left count within bytes limit is given on =
      let all : take script_limit bytes ≡ read ++ take within piece =
      ap (take script_limit) given ∙ within_limit script_limit left count read piece limit
      ∙ ap (λ (n : ℕ). read ++ take n piece) (sym is) in
      ap (λ (l : List ℕ). goes_on respond stops start (ended_lines l)) all ∙ on

  -- a piece beyond the limit is cut
  pub beyond_limit : (read piece bytes : List ℕ) (left count : ℕ) → length read + left ≡ script_limit → left < count
      → count ≤ length piece → bytes ≡ read ++ take count piece → script_limit < length bytes
  beyond_limit read piece bytes left count limit more fits given =
      let long = ap length given in
      let parts = length-append read (take count piece) in
      let part = length-take-le count piece fits in
      omega arith

  -- the last line is answered
  pub answered_last : ((state : P) (line : List ℕ) → 4097 < length line
      → respond state line ≡ respond state (take kept line))
      → (start : P) (before read : List ℕ) (Stands Stands' : P → Type 0) (line taken taken' : List ℕ)
      → HasRunTo respond start before read Stands line taken
      → (length line == 0) ≡ false
      → ((p : P) → Stands p → Stands' (respond p line).1)
      → ((p : P) → Stands p → taken' ≡ taken ++ (respond p line).0)
      → HasAnswered respond start before (lines read) Stands' taken'
  answered_last long start before read Stands Stands' line taken taken' h some leads ok =
      let same = same_answer respond long line (open_line read) h.line_kept in
      subst (λ (ls : List (List ℕ)).
      HasAnswered respond start before ls Stands' taken') (sym (last_line read line h.line_kept some))
      (answers_one respond start before (ended_lines read) (open_line read) Stands Stands' taken taken' h.answered
      (λ p s. subst (λ (r : List ℕ × P). Stands' r.1) (same p) (leads p s))
      (λ p s. subst (λ (r : List ℕ × P). taken' ≡ taken ++ r.0) (same p) (ok p s)))

  -- a run stops at its last line
  pub stopped_at_last : ((state : P) (line : List ℕ) → 4097 < length line
      → respond state line ≡ respond state (take kept line))
      → (start : P) (before read : List ℕ) (Stands Stands' : P → Type 0) (line taken taken' : List ℕ)
      → HasRunTo respond start before read Stands line taken
      → (length line == 0) ≡ false
      → ((p : P) → Stands p → Stands' (respond p line).1)
      → ((p : P) → Stands p → AppendsProperPrefix taken taken' (respond p line).0)
      → IsStoppedAtLast respond start before read Stands' taken'
  stopped_at_last long start before read Stands Stands' line taken taken' h some leads err =
      let same = same_answer respond long line (open_line read) h.line_kept in
      record {
        parts = last_line read line h.line_kept some;
        stopped = stops_at respond start before (ended_lines read) (open_line read) Stands Stands' taken taken'
            h.answered
            (λ p s. subst (λ (r : List ℕ × P). Stands' r.1) (same p) (leads p s))
            (λ p s. subst (λ (r : List ℕ × P). AppendsProperPrefix taken taken' r.0) (same p) (err p s));
      }

  -- there is no last line without an end
  pub answered_all : (start : P) (before read : List ℕ) (Stands : P → Type 0) (line taken : List ℕ)
      → HasRunTo respond start before read Stands line taken → (length line == 0) ≡ true
      → HasAnswered respond start before (lines read) Stands taken
  answered_all start before read Stands line taken h none =
      subst (λ (ls : List (List ℕ)).
      HasAnswered respond start before ls Stands taken) (sym (no_last_line read line h.line_kept none)) h.answered
