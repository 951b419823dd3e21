use Rattle.std.proofs.Common.{◌≡◌, ◌<◌, ◌≤◌, ◌+◌, ◌-◌, inl, inr, ℕ, List, length, drop, take, get_or, Some, None, cond}
use Rattle.std.proofs.Common.{arith, sym, ap, ◌∙◌, length-drop}
use Rattle.std.proofs.lemmas.Bool.{cases_eq, lt-ltb, le-ltb}
use Rattle.std.proofs.lemmas.List.{take_rest}
use Rattle.segment_log.specs.Records.{number_of, next_behind, next_at}
use Rattle.segment_log.proofs.records.Reading.{next_shut, next_open}
use Rattle.segment_log.proofs.records.next_record.Goals as goal
use Rattle.segment_log.proofs.records.next_record.Goals.{then-log-lt-GATE_LEN-via-then-log-lt-GATE_LEN}
use Rattle.segment_log.proofs.records.next_record.Goals.{then-log-lt-GATE_LEN-via-else-log-lt-GATE_LEN+then-log-ne1}

none_behind : (text : List ℕ) → length text < 8 + number_of text → next_behind text ≡ None
none_behind text short =
    ap (λ b. cond b None (Some (take (number_of text) (drop 8 text), drop (number_of text) (drop 8 text))))
    (lt-ltb _ _ short)

some_behind : (text : List ℕ) → 8 + number_of text ≤ length text
    → next_behind text ≡ Some (take (number_of text) (drop 8 text), drop (number_of text) (drop 8 text))
some_behind text long =
    ap (λ b. cond b None (Some (take (number_of text) (drop 8 text), drop (number_of text) (drop 8 text))))
    (le-ltb _ _ long)

none_at : (gate : ℕ) (log : List ℕ) → length (drop gate log) < 8 + number_of (drop gate log) → next_at gate log ≡ None
none_at gate log short = elim (cases_eq (get_or log 0 0) 1) [
  | inl is ↦ next_open gate log is ∙ none_behind (drop gate log) short
  | inr shut ↦ next_shut gate log shut
]

-- the text that the code has is what stands behind the gate, and the rest what stands behind the length
module _ (gate : ℕ) (log : List ℕ) where
  abbrev pub text : List ℕ
  text = take (length log - gate) (drop gate log)

  abbrev pub behind : List ℕ
  behind = take (length text - 8) (drop 8 text)

  pub text_is : text ≡ drop gate log
  text_is = take_rest log gate

  pub behind_is : behind ≡ drop 8 (drop gate log)
  behind_is = take_rest text 8 ∙ ap (λ (t : List ℕ). drop 8 t) text_is

  pub too_short : length text < 8 → next_at gate log ≡ None
  too_short short = none_at gate log (omega (arith, ap length text_is))

  pub too_long : (n : ℕ) → n ≡ number_of text → length behind < n → next_at gate log ≡ None
  too_long n is long =
      none_at gate log (omega (arith, is, ap number_of text_is, ap length behind_is, length-drop 8 (drop gate log)))

  pub whole : (n : ℕ) (prefix back : List ℕ) → get_or log 0 0 ≡ 1 → n ≡ number_of text → 8 ≤ length text
      → n ≤ length behind → prefix ≡ take n behind → back ≡ drop n behind → next_at gate log ≡ Some (prefix, back)
  whole n prefix back first is room fits a b =
      let number : n ≡ number_of (drop gate log) = is ∙ ap number_of text_is in
      next_open gate log first
      ∙ some_behind (drop gate log)
      (omega (arith, number, ap length text_is, ap length behind_is, length-drop 8 (drop gate log)))
      ∙ (λ i. Some (take (sym number i) (sym behind_is i), drop (sym number i) (sym behind_is i)))
      ∙ (λ i. Some (sym a i, sym b i))

pub returns-then-log-lt-GATE_LEN : goal.returns-then-log-lt-GATE_LEN
returns-then-log-lt-GATE_LEN c = elim c.then-log-lt-GATE_LEN.branch [
  | then-log-lt-GATE_LEN-via-then-log-lt-GATE_LEN w ↦
      none_at 4096 c.args.log.now (omega (arith, length-drop 4096 c.args.log.now))
  | then-log-lt-GATE_LEN-via-else-log-lt-GATE_LEN+then-log-ne1 w ↦ next_shut 4096 c.args.log.now w.if-log-ne1.true
]

pub returns-then-text-lt8 : goal.returns-then-text-lt8
returns-then-text-lt8 c = too_short 4096 c.args.log.now c.if-text-lt8.true

pub returns-then-len-behind : goal.returns-then-len-behind
returns-then-len-behind c =
    too_long 4096 c.args.log.now c.number_of-len.result c.number_of-len.ensures c.if-len-behind.true

pub returns : goal.returns
returns c =
    whole 4096 c.args.log.now c.number_of-len.result _ _ c.if-log-ne1.false c.number_of-len.ensures c.if-text-lt8.false
    c.if-len-behind.false c.split_at.ensures.front c.split_at.ensures.back
