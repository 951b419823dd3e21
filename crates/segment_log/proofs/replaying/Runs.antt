-- The records of a log, one after the other.
use Rattle.std.proofs.Common.{◌≡◌, inl, inr, ℕ, suc, ◌+◌, ◌-◌, ◌≤◌, List, [], ◌∷◌, ◌++◌, length, take, drop, get_or}
use Rattle.std.proofs.Common.{refl, sym, ◌∙◌, ap, arith, append_assoc, length-append, length-drop, take-append-drop}
use Rattle.std.proofs.Common.{Bool, Option, Some, None, cond, nat_lt, true, false}
use Rattle.std.proofs.lemmas.List.{append-nil, take_at, drop_at, length-take-le}
use Rattle.std.proofs.lemmas.Bool.{cases_lt, le-ltb, ltb-false}
use Rattle.byteorder.specs.Numbers.{little_from-append, little_from-take}
use Rattle.segment_log.specs.Records.{number_of, next_behind, next_at, recovered_at, IsEndOfLog, IsReadTo}
use Rattle.segment_log.proofs.records.Reading.{next_if, next_open, next_or_none, recovered_none, recovered_some}

pub number_prefix : (head rest : List ℕ) → 8 ≤ length head → number_of (head ++ rest) ≡ number_of head
unfolding number_of
number_prefix head rest room = little_from-append 8 head rest room

number_take : (text : List ℕ) → number_of (take 8 text) ≡ number_of text
unfolding number_of
number_take text = little_from-take 0 8 8 text (omega arith)

next_text : (head payload tail : List ℕ) → length head ≡ 8 → number_of head ≡ length payload
    → next_behind (head ++ (payload ++ tail)) ≡ Some (payload, tail)
next_text head payload tail eight is =
    let number : number_of (head ++ (payload ++ tail)) ≡ length payload =
    number_prefix head (payload ++ tail) (omega (arith, eight)) ∙ is in
    let behind : drop 8 (head ++ (payload ++ tail)) ≡ payload ++ tail = drop_at head (payload ++ tail) 8 eight in
    let len : length (head ++ (payload ++ tail)) ≡ 8 + (length payload + length tail) =
    omega (arith, length-append head (payload ++ tail), length-append payload tail, eight) in
    next_if (nat_lt (length (head ++ (payload ++ tail))) (8 + number_of (head ++ (payload ++ tail))))
    (number_of (head ++ (payload ++ tail))) (drop 8 (head ++ (payload ++ tail))) payload tail
    (le-ltb _ _ (omega (arith, len, number)))
    ((λ i. take (number i) (behind i)) ∙ take_at payload tail (length payload) refl)
    ((λ i. drop (number i) (behind i)) ∙ drop_at payload tail (length payload) refl)

-- the parts of a text with a payload
pub record Parts (text payload rest : List ℕ) : Type 0 where
  pub room : 8 + length payload ≤ length text
  pub number : number_of text ≡ length payload
  pub split : drop 8 text ≡ payload ++ rest

parts_if : (short : Bool) (text payload rest : List ℕ) → (short ≡ false → 8 + number_of text ≤ length text)
    → cond {A = Option (List ℕ × List ℕ)} short None
    (Some (take (number_of text) (drop 8 text), drop (number_of text) (drop 8 text))) ≡ Some (payload, rest)
    → Parts text payload rest
parts_if true text payload rest long is = absurd (cc (is))
parts_if false text payload rest long is =
    let whole = long refl in
    let pair : (take (number_of text) (drop 8 text), drop (number_of text) (drop 8 text)) ≡ (payload, rest) = cc in
    let prefix : take (number_of text) (drop 8 text) ≡ payload = ap (λ (q : List ℕ × List ℕ). q.0) pair in
    let back : drop (number_of text) (drop 8 text) ≡ rest = ap (λ (q : List ℕ × List ℕ). q.1) pair in
    let len : length payload ≡ number_of text = sym (ap length prefix)
    ∙ length-take-le (number_of text) (drop 8 text) (omega (arith, length-drop 8 text)) in
    record {
      room = omega (arith, len);
      number = sym len;
      split = sym (take-append-drop (number_of text) (drop 8 text)) ∙ (λ i. prefix i ++ back i);
    }

parts : (text payload rest : List ℕ) → next_behind text ≡ Some (payload, rest) → Parts text payload rest
parts text payload rest is =
    parts_if (nat_lt (length text) (8 + number_of text)) text payload rest (λ no. ltb-false _ _ no) is

-- a record that is found is one, whatever stands behind it
pub record Found (gate : ℕ) (log payload rest : List ℕ) : Type 0 where
  pub block : List ℕ
  pub split : log ≡ block ++ rest
  pub alike : (tail : List ℕ) → next_at gate (block ++ tail) ≡ Some (payload, tail)
  pub marked : get_or log 0 0 ≡ 1

regroup : (a b c d : List ℕ) → (a ++ (b ++ c)) ++ d ≡ a ++ (b ++ (c ++ d))
regroup a b c d = simp append_assoc

first_of : (gap : ℕ) (log rest : List ℕ) → get_or log 0 0 ≡ 1 → get_or (take (suc gap) log ++ rest) 0 0 ≡ 1
first_of gap [] rest is = absurd (omega arith)
first_of gap (x ∷ log) rest is = is

found_open : (gap : ℕ) (log payload rest : List ℕ) → get_or log 0 0 ≡ 1
    → next_behind (drop (suc gap) log) ≡ Some (payload, rest) → Found (suc gap) log payload rest
found_open gap log payload rest open_now is =
    let text : List ℕ = drop (suc gap) log in
    let p = parts text payload rest is in
    let head : length (take 8 text) ≡ 8 = length-take-le 8 text (omega (arith, p.room)) in
    let long : suc gap ≤ length log = omega (arith, p.room, length-drop (suc gap) log) in
    let number : number_of (take 8 text) ≡ length payload = number_take text ∙ p.number in
    record {
      block = take (suc gap) log ++ (take 8 text ++ payload);
      split = sym (take-append-drop (suc gap) log)
          ∙ ap (λ (l : List ℕ). take (suc gap) log ++ l) (sym (take-append-drop 8 text)
          ∙ ap (λ (l : List ℕ). take 8 text ++ l) p.split)
          ∙ sym (regroup (take (suc gap) log) (take 8 text) payload rest);
      alike = λ tail.
          let whole : List ℕ = take (suc gap) log ++ (take 8 text ++ (payload ++ tail)) in
          let behind : drop (suc gap) whole ≡ take 8 text ++ (payload ++ tail) =
          drop_at (take (suc gap) log) (take 8 text ++ (payload ++ tail)) (suc gap)
          (length-take-le (suc gap) log long) in
          ap (next_at (suc gap)) (regroup (take (suc gap) log) (take 8 text) payload tail)
          ∙ next_open (suc gap) whole (first_of gap log (take 8 text ++ (payload ++ tail)) open_now)
          ∙ ap next_behind behind ∙ next_text (take 8 text) payload tail head number;
      marked = open_now;
    }

found : (gap : ℕ) (log payload rest : List ℕ) → next_at (suc gap) log ≡ Some (payload, rest)
    → Found (suc gap) log payload rest
found gap log payload rest is = elim (next_or_none (suc gap) log) [
  | inl none ↦ absurd (cc (none, is))
  | inr now ↦ found_open gap log payload rest now.0 (sym now.1 ∙ is)
]

-- ---- a run over them

-- a reading begins with no payload
pub run_starts : (gate : ℕ) (log : List ℕ) → IsReadTo gate log log []
run_starts gate log = record {
  prefix = [];
  split = refl;
  prefixes = λ tail. refl;
  marked = λ some. absurd (omega
      arith);
}

nil_prefix : (prefix rest : List ℕ) → length prefix ≤ 0 → prefix ++ rest ≡ rest
nil_prefix [] rest none = refl
nil_prefix (x ∷ prefix) rest none = absurd (omega arith)

-- a reading goes on by a record
pub run_goes_on : (gap : ℕ) (log here : List ℕ) (payloads : List (List ℕ)) (payload rest : List ℕ)
    → IsReadTo (suc gap) log here payloads → next_at (suc gap) here ≡ Some (payload, rest)
    → IsReadTo (suc gap) log rest (payloads ++ payload ∷ [])
run_goes_on gap log here payloads payload rest run is =
    let f = found gap here payload rest is in
    record {
      prefix = run.prefix ++ f.block;
      split = run.split ∙ ap (λ (l : List ℕ). run.prefix ++ l) f.split ∙ sym (append_assoc run.prefix f.block rest);
      prefixes = λ tail.
          ap (recovered_at (suc gap)) (append_assoc run.prefix f.block tail) ∙ run.prefixes (f.block ++ tail)
          ∙ ap (λ (ps : List (List ℕ)). payloads ++ ps)
          (recovered_some (suc gap) (f.block ++ tail) payload tail (f.alike tail))
          ∙ sym (append_assoc payloads (payload ∷ []) (recovered_at (suc gap) tail));
      marked = λ some. elim (cases_lt 0 (length run.prefix)) [
        | inl more ↦ run.marked more
        | inr none ↦ ap (λ (l : List ℕ). get_or l 0 0) (run.split ∙ nil_prefix run.prefix here none) ∙ f.marked
      ];
    }

-- a reading that finds no record has found them all
pub run_ends : (gate : ℕ) (log rest : List ℕ) (payloads : List (List ℕ)) → IsReadTo gate log rest payloads
    → next_at gate rest ≡ None → recovered_at gate log ≡ payloads
run_ends gate log rest payloads run none =
    ap (recovered_at gate) run.split ∙ run.prefixes rest
    ∙ ap (λ (ps : List (List ℕ)). payloads ++ ps) (recovered_none gate rest none) ∙ append-nil payloads

-- and stands at the end of the log
pub end_of_run : (gate : ℕ) (log rest : List ℕ) (payloads : List (List ℕ)) (end : ℕ) → IsReadTo gate log rest payloads
    → next_at gate rest ≡ None → end ≡ length log - length rest → IsEndOfLog gate log end
end_of_run gate log rest payloads end run none is =
    let len : length log ≡ length run.prefix + length rest = ap length run.split ∙ length-append run.prefix rest in
    let here : length run.prefix ≡ end = omega (arith, is, len) in
    let prefix_is : take end log ≡ run.prefix = ap (λ (l : List ℕ). take end l) run.split
    ∙ take_at run.prefix rest end here in
    let rest_is : drop end log ≡ rest = ap (λ (l : List ℕ). drop end l) run.split ∙ drop_at run.prefix rest end here in
    record {
      prefix = λ tail. ap (λ (l : List ℕ). recovered_at gate (l ++ tail)) prefix_is ∙ run.prefixes tail
          ∙ ap (λ (ps : List (List ℕ)). ps ++ recovered_at gate tail) (sym (run_ends gate log rest payloads run none));
      within = omega (arith, len, here);
      none = ap (next_at gate) rest_is ∙ none;
      marked = λ some. run.marked (omega (arith, here));
    }
