-- Where a run may end after a line.
use Rattle.std.proofs.Common.{◌≡◌, ◌&&◌, ◌==◌, ℕ, ◌<◌, Bool, false, true, not, List, [], ◌∷◌, ◌++◌, length, take, refl}
use Rattle.std.proofs.Common.{sym, ap, subst, ◌∙◌}
use Rattle.std.proofs.lemmas.List.{append_assoc}
use Rattle.raw_region.specs.Answers.{AppendsProperPrefix}
use Rattle.segment_scripts.specs.Run.{lines}
use Rattle.segment_scripts.specs.RunOutcome.{answer_all}
use Rattle.segment_scripts.specs.Lines.{ended_lines, open_line, whole_lines}
use Rattle.segment_scripts.specs.RunProgress.{kept, HasAnswered, HasRunTo, IsOn, EndsAtLast, EndsBehind, EndsIn}
use Rattle.segment_scripts.specs.RunProgress.{FailsIn, IsThrough}
use Rattle.segment_scripts.specs.Stopping.{goes_on}
use Rattle.segment_scripts.proofs.runs.Stops.{answered_all, answered_last, last_line, no_last_line}
use Rattle.segment_scripts.proofs.runs.LineEnds.{BeginsWithEnd}
use Rattle.segment_scripts.proofs.runs.Lines.{ended_lines-end, ended_lines-open, ended-nil}
use Rattle.segment_scripts.proofs.runs.AnswersSoFar.{answers_one, behind_line, behind_none, behind_open, kept-decides}
use Rattle.segment_scripts.proofs.runs.AnswersSoFar.{same_answer, same_line, stops_at}

-- a test after another
and-then : (a b c : Bool) → (a && b) ≡ true → (b ≡ true → c ≡ true) → (a && c) ≡ true
and-then true b c e next = next e
and-then false b c e next = e

module _ {P : Type 0} (respond : P → List ℕ → List ℕ × P) (stops : P → List ℕ → Bool) where
  goes_on-alone : (state : P) (l : List ℕ) (b : Bool) → stops state l ≡ b → b ≡ false → (not b && true) ≡ true
  goes_on-alone state l true e f = absurd (cc)
  goes_on-alone state l false e f = refl

  -- one more line, after which the run goes on
  pub goes_on-one : (state : P) (ls : List (List ℕ)) (l : List ℕ) → goes_on respond stops state ls ≡ true
      → stops (answer_all respond state ls).1 l ≡ false → goes_on respond stops state (ls ++ l ∷ []) ≡ true
  goes_on-one state [] l e f = goes_on-alone state l (stops state l) refl f
  goes_on-one state (x ∷ xs) l e f =
      and-then (not (stops state x)) _ _ e (λ h. goes_on-one (respond state x).1 xs l h f)

  -- before the first line the run is on
  pub on_none : (start : P) (before : List ℕ) (Stands : P → Type 0) → Stands start
      → IsOn respond stops start before [] Stands [] before
  on_none start before Stands s = record { behind = behind_none respond start before Stands s; on = rw ended-nil refl }

  -- bytes came in which no line ends
  pub on_open : (start : P) (before read part : List ℕ) (Stands : P → Type 0) (line line' taken : List ℕ)
      → IsOn respond stops start before read Stands line taken
      → whole_lines part ≡ [] → line' ≡ take kept (line ++ part)
      → IsOn respond stops start before (read ++ part) Stands line' taken
  on_open start before read part Stands line line' taken h none new = record {
    behind = behind_open respond start before read part Stands line line' taken h.behind none new;
    on = ap (goes_on respond stops start) (ended_lines-open read part none) ∙ h.on;
  }

  module _ (long : (state : P) (line : List ℕ) → 4097 < length line
      → respond state line ≡ respond state (take kept line))
      (long_stops : (state : P) (line : List ℕ) → 4097 < length line
      → stops state line ≡ stops state (take kept line)) where
    -- whether the run ends after the open line, by what is kept of it
    stop_is : (start : P) (before read : List ℕ) (Stands : P → Type 0) (line taken : List ℕ) (b : Bool)
        → HasRunTo respond start before read Stands line taken
        → ((p : P) → Stands p → stops p line ≡ b)
        → stops (answer_all respond start (ended_lines read)).1 (open_line read) ≡ b
    stop_is start before read Stands line taken b h tells =
        let at = (answer_all respond start (ended_lines read)).1 in
        sym (kept-decides stops long_stops at (open_line read)) ∙ ap (stops at) (sym h.line_kept)
        ∙ tells at h.answered.stands

    -- the open line was answered, and the run goes on
    on_one : (start : P) (before read : List ℕ) (Stands : P → Type 0) (line taken : List ℕ)
        → IsOn respond stops start before read Stands line taken
        → ((p : P) → Stands p → stops p line ≡ false)
        → goes_on respond stops start (ended_lines read ++ open_line read ∷ []) ≡ true
    on_one start before read Stands line taken h tells =
        goes_on-one start (ended_lines read) (open_line read) h.on
        (stop_is start before read Stands line taken false h.behind tells)

    -- the run ends after it
    ends_behind : (start : P) (before read : List ℕ) (Stands Stands' : P → Type 0) (line taken taken' : List ℕ)
        → IsOn respond stops start before read Stands line taken
        → ((p : P) → Stands p → Stands' (respond p line).1)
        → ((p : P) → Stands p → taken' ≡ taken ++ (respond p line).0)
        → ((p : P) → Stands p → stops p line ≡ true)
        → EndsBehind respond stops start before (ended_lines read) (open_line read) Stands' taken'
    ends_behind start before read Stands Stands' line taken taken' h leads ok tells =
        let same = same_answer respond long line (open_line read) h.behind.line_kept in
        record {
          on = h.on;
          stop = stop_is start before read Stands line taken true h.behind tells;
          answered = answers_one respond start before (ended_lines read) (open_line read) Stands Stands' taken
              taken' h.behind.answered
              (λ p s. subst (λ (r : List ℕ × P). Stands' r.1) (same p) (leads p s))
              (λ p s. subst (λ (r : List ℕ × P). taken' ≡ taken ++ r.0) (same p) (ok p s));
        }

    -- ---- a line that ends in what is left of a piece

    module _ (start : P) (before read piece done rest end more : List ℕ) (Stands Stands' : P
        → Type 0) (line taken taken' : List ℕ)
        (h : IsOn respond stops start before (read ++ done) Stands line taken) (ends : BeginsWithEnd rest end more)
        (leads : (p : P) → Stands p → Stands' (respond p (take kept (line ++ end))).1) where
      -- it is open before it is answered
      on_end : IsOn respond stops start before (read ++ (done ++ end)) Stands (take kept (line ++ end)) taken
      on_end =
          let all : (read ++ done) ++ end ≡ read ++ (done ++ end) = append_assoc read done end in
          subst (λ (l : List ℕ). IsOn respond stops start before l Stands (take kept (line ++ end)) taken) all
          (on_open start before (read ++ done) end Stands line (take kept (line ++ end)) taken h ends.unended refl)

      parts_end : piece ≡ done ++ rest → piece ≡ (done ++ end) ++ 0x0A ∷ more
      parts_end parts = parts ∙ ap (λ (l : List ℕ). done ++ l) ends.parts ∙ sym (append_assoc done end (0x0A ∷ more))

      -- it was answered, and the run goes on
      pub on_line : (line' : List ℕ)
          → ((p : P) → Stands p → taken' ≡ taken ++ (respond p (take kept (line ++ end))).0)
          → ((p : P) → Stands p → stops p (take kept (line ++ end)) ≡ false)
          → line' ≡ []
          → IsOn respond stops start before (read ++ (done ++ end ++ 0x0A ∷ [])) Stands' line' taken'
      on_line line' ok tells new =
          let prefix : List ℕ = read ++ (done ++ end) in
          let all : prefix ++ 0x0A ∷ [] ≡ read ++ (done ++ end ++ 0x0A ∷ []) = simp append_assoc in
          record {
            behind = behind_line respond long start before read done rest end more Stands Stands' line line' taken
                taken' h.behind ends leads ok new;
            on = ap (λ (l : List ℕ). goes_on respond stops start (ended_lines l)) (sym all)
                ∙ ap (goes_on respond stops start) (ended_lines-end prefix []
                ∙ ap (λ (ls : List (List ℕ)). ended_lines prefix ++ open_line prefix ∷ ls) ended-nil)
                ∙ on_one start before prefix Stands (take kept (line ++ end)) taken on_end tells;
          }

      -- the run ends after it
      pub ends_in : piece ≡ done ++ rest
          → ((p : P) → Stands p → taken' ≡ taken ++ (respond p (take kept (line ++ end))).0)
          → ((p : P) → Stands p → stops p (take kept (line ++ end)) ≡ true)
          → EndsIn respond stops start before read piece Stands' taken'
      ends_in parts ok tells = record {
        prefix = done ++ end;
        more = more;
        parts = parts_end parts;
        ends = ends_behind start before (read ++ (done ++ end)) Stands Stands' (take kept (line ++ end)) taken
            taken' on_end leads ok tells;
      }

      -- its answer was cut
      pub fails_in : piece ≡ done ++ rest
          → ((p : P) → Stands p → AppendsProperPrefix taken taken' (respond p (take kept (line ++ end))).0)
          → FailsIn respond stops start before read piece Stands' taken'
      fails_in parts err =
          let prefix : List ℕ = read ++ (done ++ end) in
          let was = on_end in
          let same = same_answer respond long (take kept (line ++ end)) (open_line prefix) was.behind.line_kept in
          record {
            prefix = done ++ end;
            more = more;
            parts = parts_end parts;
            on = was.on;
            stopped = stops_at respond start before (ended_lines prefix) (open_line prefix) Stands Stands' taken
                taken' was.behind.answered
                (λ p s. subst (λ (r : List ℕ × P). Stands' r.1) (same p) (leads p s))
                (λ p s. subst (λ (r : List ℕ × P). AppendsProperPrefix taken taken' r.0) (same p) (err p s));
          }

    -- ---- the last line, which has no end

    module _ (start : P) (before read : List ℕ) (Stands Stands' : P
        → Type 0) (line taken taken' : List ℕ) (h : IsOn respond stops start before read Stands line taken)
        (some : (length line == 0) ≡ false)
        (leads : (p : P) → Stands p → Stands' (respond p line).1) (ok : (p : P) → Stands p
        → taken' ≡ taken ++ (respond p line).0) where
      pub through_last : ((p : P) → Stands p → stops p line ≡ false)
          → IsThrough respond stops start before read Stands' taken'
      through_last tells = record {
        answered = answered_last respond long start before read Stands Stands' line taken taken' h.behind some leads ok;
        on = ap (goes_on respond stops start) (last_line read line h.behind.line_kept some)
            ∙ on_one start before read Stands line taken h tells;
      }

      pub ends_at_last : ((p : P) → Stands p → stops p line ≡ true)
          → EndsAtLast respond stops start before read Stands' taken'
      ends_at_last tells = record {
        parts = last_line read line h.behind.line_kept some;
        ends = ends_behind start before read Stands Stands' line taken taken' h leads ok tells;
      }

  -- there is none
  pub through : (start : P) (before read : List ℕ) (Stands : P → Type 0) (line taken : List ℕ)
      → IsOn respond stops start before read Stands line taken → (length line == 0) ≡ true
      → IsThrough respond stops start before read Stands taken
  through start before read Stands line taken h none = record {
    answered = answered_all respond start before read Stands line taken h.behind none;
    on = ap (goes_on respond stops start) (no_last_line read line h.behind.line_kept none) ∙ h.on;
  }

  -- a run that is on at a line is on at the same line, however it is written
  pub same_on : (start : P) (before read : List ℕ) (Stands : P → Type 0) (line line' taken : List ℕ)
      → IsOn respond stops start before read Stands line taken → line' ≡ line
      → IsOn respond stops start before read Stands line' taken
  same_on start before read Stands line line' taken h e =
      record { behind = same_line respond start before read Stands line line' taken h.behind e; on = h.on }
