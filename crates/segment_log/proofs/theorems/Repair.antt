-- What a crash leaves while the end of a log is repaired, and while a log is emptied.
use Rattle.std.proofs.Common.{◌≡◌, ◌≢◌, ◌⊎◌, inl, inr, ℕ, suc, ◌+◌, ◌-◌, ◌<◌, ◌≤◌, List, [], ◌++◌, length, take, drop}
use Rattle.std.proofs.Common.{get_or, sym, ◌∙◌, ap, arith, length-drop, take-append-drop, Option, Some, None, cond}
use Rattle.std.proofs.lemmas.List.{append-nil, drop-drop}
use Rattle.std.proofs.lemmas.Bool.{lt-ltb}
use Rattle.segment_log.specs.Crashes.{WritesAt, TornWrite}
use Rattle.segment_log.specs.Records.{number_of, next_behind, recovered_at, IsAjar, IsEndOfLog, EndsShut}
use Rattle.segment_log.proofs.records.Reading.{next_or_none, next_open, recovered_none, recovered_shut, recovered_same}
use Rattle.segment_log.proofs.records.Pieces.{held_before, held_at, held_len, get_same, get_dropped, first_of}

none_behind : (text : List ℕ) → length text < 8 → next_behind text ≡ None
none_behind text short =
    ap (λ b. cond {A = Option (List ℕ × List ℕ)} b None
    (Some (take (number_of text) (drop 8 text), drop (number_of text) (drop 8 text)))) (lt-ltb _ _ (omega arith))

module _ (gap : ℕ) (log : List ℕ) (end : ℕ) (ends : IsEndOfLog (suc gap) log end) where
  same_records : (c : List ℕ) → take end c ≡ take end log → recovered_at (suc gap) (drop end c) ≡ []
      → recovered_at (suc gap) c ≡ recovered_at (suc gap) log
  same_records c same nothing =
      ap (recovered_at (suc gap)) (sym (take-append-drop end c) ∙ ap (λ (l : List ℕ). l ++ drop end c) same)
      ∙ ends.prefix (drop end c)
      ∙ ap (λ (ps : List (List ℕ)). recovered_at (suc gap) log ++ ps) nothing ∙ append-nil (recovered_at (suc gap) log)

  none_there : IsAjar (suc gap) log end → next_behind (drop (suc gap) (drop end log)) ≡ None
  none_there (inl short) =
      none_behind (drop (suc gap) (drop end log))
      (omega (arith, length-drop (suc gap) (drop end log), length-drop end log))
  none_there (inr marked) = sym (next_open (suc gap) (drop end log) (get_dropped end log ∙ marked)) ∙ ends.none

  -- a gate that a crash leaves half shut adds no record
  pub repair_crash : IsAjar (suc gap) log end → (c : List ℕ) → TornWrite end (suc gap) log c
      → recovered_at (suc gap) c ≡ recovered_at (suc gap) log
  repair_crash ajar c torn = same_records c torn.before (elim (next_or_none (suc gap) (drop end c)) [
    | inl none ↦ recovered_none (suc gap) (drop end c) none
    | inr now ↦
        recovered_none (suc gap) (drop end c) (now.1
        ∙ ap next_behind (drop-drop (suc gap) end c ∙ torn.after ∙ sym (drop-drop (suc gap) end log)) ∙ none_there ajar)
  ])

  -- a log whose gate is shut ends there
  pub shut_already : suc gap ≤ length log - end → get_or log end 0 ≢ 1 → EndsShut (suc gap) log end
  shut_already long shut =
      record { prefix = ends.prefix; room = omega (arith, ends.within); shut = shut; marked = ends.marked }

  module _ (gate : List ℕ) (gate_len : length gate ≡ suc gap) (gate_first : get_or gate 0 0 ≡ 0) (new : List ℕ)
      (holds : WritesAt log end gate new) where
    at_end : drop end new ≡ gate ++ drop (end + length gate) log
    at_end = held_at log end gate new ends.within holds

    gate_is : get_or new end 0 ≡ 0
    gate_is = sym (get_dropped end new) ∙ ap (λ (l : List ℕ). get_or l 0 0) at_end
        ∙ (first_of gate _ (omega (arith, gate_len)) ∙ gate_first)

    -- a gate that is shut leaves the records
    pub repaired_same : recovered_at (suc gap) new ≡ recovered_at (suc gap) log
    repaired_same =
        same_records new (held_before log end gate new ends.within holds)
        (recovered_shut (suc gap) (drop end new) (λ is. absurd (omega (arith, is, get_dropped end new, gate_is))))

    -- a log whose gate was shut ends there
    pub repaired : EndsShut (suc gap) new end
    repaired = record {
      prefix =
          λ tail. ap (λ (l : List ℕ). recovered_at (suc gap) (l ++ tail))
          (held_before log end gate new ends.within holds) ∙ ends.prefix tail
          ∙ ap (λ (ps : List (List ℕ)). ps ++ recovered_at (suc gap) tail) (sym repaired_same);
      room = omega (arith, held_len log end gate new ends.within holds, gate_len);
      shut = λ is. absurd (omega (arith, is, gate_is));
      marked = λ some. get_same 0 end new log some (held_before log end gate new ends.within holds)
          ∙ ends.marked some;
    }

-- ---- a log that is emptied

-- a first gate that a crash leaves half shut leaves all records or none
pub empty_crash : (gap : ℕ) (log c : List ℕ) → get_or log 0 0 ≡ 1 → TornWrite 0 (suc gap) log c
    → (recovered_at (suc gap) c ≡ []) ⊎ (recovered_at (suc gap) c ≡ recovered_at (suc gap) log)
empty_crash gap log c marked torn = elim (next_or_none (suc gap) c) [
  | inl none ↦ inl (recovered_none (suc gap) c none)
  | inr now ↦
      let same : drop (suc gap) c ≡ drop (suc gap) log = let z : 0 + suc gap ≡ suc gap = omega arith in
      sym (ap (λ (k : ℕ). drop k c) z) ∙ torn.after ∙ ap (λ (k : ℕ). drop k log) z in
      inr (recovered_same (suc gap) c log (now.1 ∙ ap next_behind same ∙ sym (next_open (suc gap) log marked)))
]

module _ (gap : ℕ) (log gate : List ℕ) (gate_len : length gate ≡ suc gap) (gate_first : get_or gate 0 0 ≡ 0)
    (new : List ℕ) (holds : WritesAt log 0 gate new) where
  gate_now : get_or new 0 0 ≡ 0
  gate_now = sym (get_dropped 0 new)
      ∙ ap (λ (l : List ℕ). get_or l 0 0) (held_at log 0 gate new (omega arith) holds)
      ∙ (first_of gate _ (omega (arith, gate_len)) ∙ gate_first)

  -- a log whose first gate was shut has no record
  pub emptied : recovered_at (suc gap) new ≡ []
  emptied = recovered_shut (suc gap) new (λ is. absurd (omega (arith, is, gate_now)))

  -- a log whose first gate was shut ends at its front
  pub emptied_ends : EndsShut (suc gap) new 0
  emptied_ends = record {
    prefix = λ tail. ap (λ (ps : List (List ℕ)). ps ++ recovered_at (suc gap) tail) (sym emptied);
    room = omega (arith, held_len log 0 gate new (omega arith) holds, gate_len);
    shut = λ is. absurd (omega (arith, is, gate_now));
    marked = λ some. absurd (omega arith);
  }

-- a log that ends where it begins has no record
pub none_at_start : (gap : ℕ) (log : List ℕ) → EndsShut (suc gap) log 0 → recovered_at (suc gap) log ≡ []
none_at_start gap log ends = recovered_shut (suc gap) log ends.shut
