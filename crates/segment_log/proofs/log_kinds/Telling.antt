-- What the kinds of logs say.
use Rattle.std.proofs.Common.{◌≡◌, ◌≢◌, inl, inr, ℕ, ◌+◌, ◌<◌, ◌≤◌, List, [], length, take, drop, get_or}
use Rattle.std.proofs.Common.{refl, sym, ◌∙◌, ap, arith, length-drop, cond, Option, Some, None}
use Rattle.std.proofs.lemmas.Bool.{cases_eq, lt-ltb, le-ltb}
use Rattle.std.proofs.lemmas.Bool.Decides.{leb_tells}
use Rattle.std.proofs.lemmas.List.{drop-take, take-take, get_or-take}
use Rattle.byteorder.specs.Numbers.{little_from-take}
use Rattle.segment_log.specs.Records.{number_of, next_behind, next_at, recovered}
use Rattle.segment_log.specs.LogKinds.{HasRecord}
use Rattle.segment_log.specs.LogKindLaws.{KindsTellRecords, NoGateIsForeign}
use Rattle.segment_log.proofs.records.Reading.{next_shut, next_open, recovered_none, recovered_some}

-- the length of the first payload stands in the head
pub number_in_head : (log : List ℕ) → number_of (drop 4096 (take 4144 log)) ≡ number_of (drop 4096 log)
unfolding number_of
number_in_head log = ap number_of (drop-take 4096 48 log) ∙ little_from-take 0 8 48 (drop 4096 log) (omega arith)

-- the name of the first gate stands in the head
pub magic_in_head : (log : List ℕ) → take 16 (drop 8 (take 4144 log)) ≡ take 16 (drop 8 log)
magic_in_head log = ap (λ (l : List ℕ). take 16 l) (drop-take 8 4136 log) ∙ take-take 16 4136 (drop 8 log) (omega arith)

-- the other bytes of the first gate stand in the head
pub gate_in_head : (log : List ℕ) → take 4095 (drop 1 (take 4144 log)) ≡ take 4095 (drop 1 log)
gate_in_head log =
    ap (λ (l : List ℕ). take 4095 l) (drop-take 1 4143 log) ∙ take-take 4095 4143 (drop 1 log) (omega arith)

-- a text without room for its payload
pub none_behind : (text : List ℕ) → length text < 8 + number_of text → next_behind text ≡ None
none_behind text short =
    ap (λ b. cond b None (Some (take (number_of text) (drop 8 text), drop (number_of text) (drop 8 text))))
    (lt-ltb _ _ short)

some_behind : (text : List ℕ) → 8 + number_of text ≤ length text
    → next_behind text ≡ Some (take (number_of text) (drop 8 text), drop (number_of text) (drop 8 text))
some_behind text long =
    ap (λ b. cond b None (Some (take (number_of text) (drop 8 text), drop (number_of text) (drop 8 text))))
    (le-ltb _ _ long)

-- a first record that lies within the log is found
has_next : (log : List ℕ) → HasRecord (take 4144 log) (length log) → next_at 4096 log ≢ None
has_next log has none =
    let first : get_or log 0 0 ≡ 1 = sym (get_or-take 4144 log 0 0 (omega arith)) ∙ has.is_open in
    let number = number_in_head log in
    let long : 8 + number_of (drop 4096 log) ≤ length (drop 4096 log) =
    omega (arith, has.whole, number, length-drop 4096 log) in
    let some = next_open 4096 log first ∙ some_behind (drop 4096 log) long in
    absurd (cc (none, some))

-- a first record that is found lies within the log
next_has : (log : List ℕ) → next_at 4096 log ≢ None → HasRecord (take 4144 log) (length log)
next_has log some = elim (cases_eq (get_or log 0 0) 1) [
  | inl is ↦ elim (leb_tells (8 + number_of (drop 4096 log)) (length (drop 4096 log))) [
    | inl long ↦ record {
      is_open = get_or-take 4144 log 0 0 (omega arith) ∙ is;
      whole = omega (arith, long.1, number_in_head log, length-drop 4096 log);
    }
    | inr short ↦ absurd (some (next_open 4096 log is ∙ none_behind (drop 4096 log) short.1))
  ]
  | inr shut ↦ absurd (some (next_shut 4096 log shut))
]

found : (log : List ℕ) (o : Option (List ℕ × List ℕ)) → next_at 4096 log ≡ o → o ≢ None → recovered log ≢ []
found log None is some nothing = some refl
found log (Some r) is some nothing = absurd (cc (nothing, recovered_some 4096 log r.0 r.1 is))

missed : (log : List ℕ) (o : Option (List ℕ × List ℕ)) → next_at 4096 log ≡ o → ¬ (o ≢ None) → recovered log ≡ []
missed log None is never = recovered_none 4096 log is
missed log (Some r) is never = absurd (never (λ none. absurd (cc none)))

-- the law of the records
pub kinds_tell_records : KindsTellRecords
kinds_tell_records log = record {
  next = (λ is. (is.0, has_next log is.1), λ is. (is.0, next_has log is.1));
  some = λ is. found log (next_at 4096 log) refl (has_next log is.1);
  none = λ is. missed log (next_at 4096 log) refl (λ some. is.1 (next_has log some));
}

-- the law of files of others
pub no_gate_is_foreign : NoGateIsForeign
no_gate_is_foreign log (inl short) ours = omega (arith, short, ours.gate)
no_gate_is_foreign log (inr (inl first)) ours =
    omega (arith, first, ours.first, get_or-take 4144 log 0 0 (omega arith))
no_gate_is_foreign log (inr (inr bad)) ours = elim ours.made [
  | inl magic ↦ bad.0 (sym (magic_in_head log) ∙ magic)
  | inr old ↦ bad.1 (sym (gate_in_head log) ∙ old.gate)
]
