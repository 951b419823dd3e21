-- What a run has answered, line by line.
use Rattle.std.proofs.Common.{◌≡◌, ◌==◌, ℕ, ◌<◌, inl, inr, true, List, [], ◌∷◌, ◌++◌, length, take, refl, sym, ap}
use Rattle.std.proofs.Common.{subst, ◌∙◌, arith}
use Rattle.std.proofs.lemmas.Bool.{eqb-true}
use Rattle.std.proofs.lemmas.List.{append-nil, append_assoc, take_all, nil_from_length}
use Rattle.raw_region.specs.Answers.{AppendsProperPrefix}
use Rattle.segment_scripts.specs.RunOutcome.{answer_all}
use Rattle.segment_scripts.specs.RunProgress.{kept, HasAnswered, HasStopped, HasRunTo}
use Rattle.segment_scripts.specs.Lines.{ended_lines, open_line, whole_lines}
use Rattle.segment_lang.proofs.Laws.{at_most_or_more, kept_more}
use Rattle.segment_scripts.proofs.runs.LineEnds.{BeginsWithEnd}
use Rattle.segment_scripts.proofs.runs.Lines.{ended_lines-end, ended_lines-open, open_line-end, open_line-open}
use Rattle.segment_scripts.proofs.runs.Lines.{ended-nil}
use Rattle.segment_scripts.proofs.runs.Lines.{open-nil}

-- what is kept of a long line decides as the whole of it
pub kept-decides : {P A : Type 0} (f : P → List ℕ → A)
    → ((state : P) (line : List ℕ) → 4097 < length line → f state line ≡ f state (take kept line))
    → (state : P) (line : List ℕ) → f state (take kept line) ≡ f state line
kept-decides f long state line = elim (at_most_or_more (length line) 4097) [
  | inl h ↦ ap (f state) (take_all kept line (omega arith))
  | inr h ↦ sym (long state line h)
]

-- bytes after no open line are all of their line
pub whole_line : {P A : Type 0} (f : P → List ℕ → A)
    → ((state : P) (line : List ℕ) → 4097 < length line → f state line ≡ f state (take kept line))
    → (state : P) (line end : List ℕ) → (length line == 0) ≡ true → f state end ≡ f state (take kept (line ++ end))
whole_line f long state line end none =
    let empty : line ≡ [] = nil_from_length line (eqb-true _ 0 none) in
    sym (ap (λ (l : List ℕ). f state (take kept (l ++ end))) empty ∙ kept-decides f long state end)

module _ {P : Type 0} (respond : P → List ℕ → List ℕ × P) where
  pub answer_all-text : (state : P) (ls : List (List ℕ)) (l : List ℕ)
      → (answer_all respond state (ls ++ l ∷ [])).0 ≡ (answer_all respond state ls).0
      ++ (respond (answer_all respond state ls).1 l).0
  answer_all-text state [] l = append-nil (respond state l).0
  answer_all-text state (x ∷ xs) l =
      let rest = answer_all-text (respond state x).1 xs l in
      ap (λ (t : List ℕ). (respond state x).0 ++ t) rest
      ∙ sym (append_assoc (respond state x).0 (answer_all respond (respond state x).1 xs).0
      (respond (answer_all respond (respond state x).1 xs).1 l).0)

  pub answer_all-state : (state : P) (ls : List (List ℕ)) (l : List ℕ)
      → (answer_all respond state (ls ++ l ∷ [])).1 ≡ (respond (answer_all respond state ls).1 l).1
  answer_all-state state [] l = refl
  answer_all-state state (x ∷ xs) l = answer_all-state (respond state x).1 xs l

  -- one more line was answered
  pub answers_one : (start : P) (before : List ℕ) (ls : List (List ℕ)) (l : List ℕ) (Stands Stands' : P
      → Type 0) (taken taken' : List ℕ)
      → HasAnswered respond start before ls Stands taken
      → ((p : P) → Stands p → Stands' (respond p l).1)
      → ((p : P) → Stands p → taken' ≡ taken ++ (respond p l).0)
      → HasAnswered respond start before (ls ++ l ∷ []) Stands' taken'
  answers_one start before ls l Stands Stands' taken taken' h leads ok =
      let at = (answer_all respond start ls).1 in
      let told = (answer_all respond start ls).0 in
      record {
        prints = ok at h.stands ∙ ap (λ (t : List ℕ). t ++ (respond at l).0) h.prints
            ∙ append_assoc before told (respond at l).0
            ∙ ap (λ (t : List ℕ). before ++ t) (sym (answer_all-text start ls l));
        stands = subst Stands' (sym (answer_all-state start ls l)) (leads at h.stands);
      }

  -- the answer to the next line was cut
  pub stops_at : (start : P) (before : List ℕ) (ls : List (List ℕ)) (l : List ℕ) (Stands Stands' : P
      → Type 0) (taken taken' : List ℕ)
      → HasAnswered respond start before ls Stands taken
      → ((p : P) → Stands p → Stands' (respond p l).1)
      → ((p : P) → Stands p → AppendsProperPrefix taken taken' (respond p l).0)
      → HasStopped respond start before ls l Stands' taken'
  stops_at start before ls l Stands Stands' taken taken' h leads err =
      let at = (answer_all respond start ls).1 in
      record {
        prints = subst (λ (t : List ℕ). AppendsProperPrefix t taken' (respond at l).0) h.prints (err at h.stands);
        stands = leads at h.stands;
      }

  -- what is kept of the open line is answered as the whole of it
  pub same_answer : ((state : P) (line : List ℕ) → 4097 < length line
      → respond state line ≡ respond state (take kept line)) → (line all : List ℕ) → line ≡ take kept all
      → (state : P) → respond state line ≡ respond state all
  same_answer long line all e state = ap (respond state) e ∙ kept-decides respond long state all

  -- before the first line nothing was answered
  pub behind_none : (start : P) (before : List ℕ) (Stands : P → Type 0) → Stands start
      → HasRunTo respond start before [] Stands [] before
  behind_none start before Stands s = record {
    answered = rw ended-nil (record { prints = sym (append-nil before); stands = s });
    line_kept = rw open-nil refl;
  }

  -- a run to a line is one to the same line, however it is written
  pub same_line : (start : P) (before read : List ℕ) (Stands : P → Type 0) (line line' taken : List ℕ)
      → HasRunTo respond start before read Stands line taken → line' ≡ line
      → HasRunTo respond start before read Stands line' taken
  same_line start before read Stands line line' taken h e =
      record { answered = h.answered; line_kept = e ∙ h.line_kept }

  -- bytes came in which no line ends
  pub behind_open : (start : P) (before read part : List ℕ) (Stands : P → Type 0) (line line' taken : List ℕ)
      → HasRunTo respond start before read Stands line taken
      → whole_lines part ≡ [] → line' ≡ take kept (line ++ part)
      → HasRunTo respond start before (read ++ part) Stands line' taken
  behind_open start before read part Stands line line' taken h none new = record {
    answered = subst (λ (ls : List (List ℕ)).
        HasAnswered respond start before ls Stands taken) (sym (ended_lines-open read part none)) h.answered;
    line_kept = new ∙ kept_more kept line (open_line read) part h.line_kept
        ∙ ap (take kept) (sym (open_line-open read part none));
  }

  pub behind_end : ((state : P) (line : List ℕ) → 4097 < length line
      → respond state line ≡ respond state (take kept line))
      → (start : P) (before read : List ℕ) (Stands Stands' : P → Type 0) (line line' taken taken' : List ℕ)
      → HasRunTo respond start before read Stands line taken
      → ((p : P) → Stands p → Stands' (respond p line).1)
      → ((p : P) → Stands p → taken' ≡ taken ++ (respond p line).0)
      → line' ≡ []
      → HasRunTo respond start before (read ++ 0x0A ∷ []) Stands' line' taken'
  behind_end long start before read Stands Stands' line line' taken taken' h leads ok new =
      let same = same_answer long line (open_line read) h.line_kept in
      let one = answers_one start before (ended_lines read) (open_line read) Stands Stands' taken taken' h.answered
      (λ p s. subst (λ (r : List ℕ × P). Stands' r.1) (same p) (leads p s))
      (λ p s. subst (λ (r : List ℕ × P). taken' ≡ taken ++ r.0) (same p) (ok p s)) in
      let ends = ended_lines-end read []
      ∙ ap (λ (ls : List (List ℕ)). ended_lines read ++ open_line read ∷ ls) ended-nil in
      record {
        answered = subst (λ (ls : List (List ℕ)). HasAnswered respond start before ls Stands' taken') (sym ends) one;
        line_kept = new ∙ sym (ap (take kept) (open_line-end read));
      }

  -- the first line that ends in what is left of a piece was answered
  pub behind_line : ((state : P) (line : List ℕ) → 4097 < length line
      → respond state line ≡ respond state (take kept line))
      → (start : P) (before read done rest end more : List ℕ) (Stands Stands' : P
      → Type 0) (line line' taken taken' : List ℕ)
      → HasRunTo respond start before (read ++ done) Stands line taken
      → BeginsWithEnd rest end more
      → ((p : P) → Stands p → Stands' (respond p (take kept (line ++ end))).1)
      → ((p : P) → Stands p → taken' ≡ taken ++ (respond p (take kept (line ++ end))).0)
      → line' ≡ []
      → HasRunTo respond start before (read ++ (done ++ end ++ 0x0A ∷ [])) Stands' line' taken'
  behind_line long start before read done rest end more Stands Stands' line line' taken taken' h ends leads ok new =
      let all : (read ++ done) ++ end ++ 0x0A ∷ [] ≡ read ++ (done ++ end ++ 0x0A ∷ []) = simp append_assoc in
      subst (λ (l : List ℕ). HasRunTo respond start before l Stands' line' taken') all
      (behind_end long start before ((read ++ done) ++ end) Stands Stands' (take kept (line ++ end)) line' taken taken'
      (behind_open start before (read ++ done) end Stands line (take kept (line ++ end)) taken h ends.unended refl)
      leads ok new)
