-- Logs keep their name.
use Rattle.std.proofs.Common.{◌≡◌, ◌≢◌, ◌⊎◌, ⊎_elim, inl, inr, ℕ, zero, suc, ◌+◌, ◌-◌, ◌^◌, ◌<◌, ◌≤◌, List, [], ◌∷◌}
use Rattle.std.proofs.Common.{◌++◌, length}
use Rattle.std.proofs.Common.{take, drop, get_or, refl, sym, ◌∙◌, ap, subst, arith, append_assoc, length-append}
use Rattle.std.proofs.Common.{length-drop, true, None, Some}
use Rattle.std.proofs.Math.ListN.{drop_of_length-le}
use Rattle.std.proofs.lemmas.Bool.Decides.{leb_tells}
use Rattle.std.proofs.lemmas.List.{append-nil, drop-drop, drop-replicate, drop-take, drop_at, ext_get_or, get_or-drop}
use Rattle.std.proofs.lemmas.List.{get_or-take, length-take, length-take-le, take-take}
use Rattle.segment_log.specs.Crashes.{LoggedFile, TornFrom, WritesAt}
use Rattle.segment_log.specs.Events.{Wrote, leaves, seen_after, seen_in_the_end}
use Rattle.segment_log.specs.Laws.{CommitOutcome, Unwritten, Unsynced, Unmarked, Unsure, Committed, commit_events}
use Rattle.segment_log.specs.LogKinds.{HasMagic}
use Rattle.segment_log.specs.LogKindLaws.{CommitKeepsName, CommittedHasRecords, GateWritesKeepName}
use Rattle.segment_log.specs.LogKindLaws.{GatesBeginLogs, IsKind, IsNamedLog, NamedLogsAreOurs, WritesBehindKeepName}
use Rattle.segment_log.specs.Records.{EndsShut, magic, next_at, next_behind, number_bytes, open_gate}
use Rattle.segment_log.specs.Records.{record_body, recovered, recovered_at, shut_gate, zeros}
use Rattle.segment_log.specs.declared.log_kinds.LogKind.TheVariants.{Empty, Records}
use Rattle.segment_log.proofs.log_kinds.Telling.{kinds_tell_records, magic_in_head, none_behind}
use Rattle.segment_log.proofs.log_kinds.Heads.{each_of_zeros}
use Rattle.segment_log.proofs.records.Pieces.{first_of, get_same, held_before, held_len, length-open, length-shut}
use Rattle.segment_log.proofs.records.Pieces.{open_first, shut_first, take_less, zeros_split}
use Rattle.segment_log.proofs.records.Reading.{framed, next_framed, next_open, recovered_none, recovered_shut}
use Rattle.segment_log.proofs.records.Reading.{recovered_some}
use Rattle.segment_log.proofs.theorems.Always.{Always, at_each}
use Rattle.segment_log.proofs.theorems.Lawful.{committed_lasts}

-- the law of the name
pub named_logs_are_ours : NamedLogsAreOurs
named_logs_are_ours log named = record {
  gate = named.gate;
  enough = omega (arith, length-take 4144 log);
  first = omega (arith, named.first, get_or-take 4144 log 0 0 (omega arith));
  made = inl (magic_in_head log ∙ named.name);
}

-- ---- the gates

shut_name : (rest : List ℕ) → take 16 (drop 8 (shut_gate ++ rest)) ≡ magic
unfolding shut_gate zeros
shut_name rest = refl

open_name : (rest : List ℕ) → take 16 (drop 8 (open_gate ++ rest)) ≡ magic
unfolding open_gate zeros
open_name rest = refl

shut_named : (rest : List ℕ) → IsNamedLog (shut_gate ++ rest)
shut_named rest =
    let first : get_or (shut_gate ++ rest) 0 0 ≡ 0 =
    first_of shut_gate rest (omega (arith, length-shut)) ∙ shut_first in
    record {
      gate = omega (arith, length-append shut_gate rest, length-shut);
      first = omega (arith, first);
      name = shut_name rest;
    }

open_named : (rest : List ℕ) → IsNamedLog (open_gate ++ rest)
open_named rest =
    let first : get_or (open_gate ++ rest) 0 0 ≡ 1 =
    first_of open_gate rest (omega (arith, length-open)) ∙ open_first in
    record {
      gate = omega (arith, length-append open_gate rest, length-open);
      first = omega (arith, first);
      name = open_name rest;
    }

shut_empty : (rest : List ℕ) → IsKind Empty (shut_gate ++ rest)
shut_empty rest =
    let first : get_or (shut_gate ++ rest) 0 0 ≡ 0 =
    first_of shut_gate rest (omega (arith, length-shut)) ∙ shut_first in (
      named_logs_are_ours (shut_gate ++ rest) (shut_named rest),
      λ has. absurd
          (omega (arith, first, has.is_open, get_or-take 4144 (shut_gate ++ rest) 0 0 (omega arith))),
    )

-- a log with the name in which a reader finds a record
with_records : (log : List ℕ) → IsNamedLog log → next_at 4096 log ≢ None → IsKind Records log
with_records log named some = (kinds_tell_records log).next.1 (named_logs_are_ours log named, some)

marked_records : (rest payload : List ℕ) → length payload < 256 ^ 8
    → IsKind Records (open_gate ++ (record_body payload ++ rest))
marked_records rest payload small =
    let text : List ℕ = record_body payload ++ rest in
    let log : List ℕ = open_gate ++ text in
    let first : get_or log 0 0 ≡ 1 = first_of open_gate text (omega (arith, length-open)) ∙ open_first in
    let frame : text ≡ framed payload (shut_gate ++ rest) =
    append_assoc (number_bytes (length payload) ++ payload) shut_gate rest
    ∙ append_assoc (number_bytes (length payload)) payload (shut_gate ++ rest) in
    let next : next_at 4096 log ≡ Some (payload, shut_gate ++ rest) = next_open 4096 log first
    ∙ ap next_behind (drop_at open_gate text 4096 length-open ∙ frame)
    ∙ next_framed payload (shut_gate ++ rest) small in
    with_records log (open_named text) (λ none. absurd (cc (none, next)))

-- the law of the gates
pub gates_begin_logs : GatesBeginLogs
gates_begin_logs = (
  λ rest. record {
    shut = shut_empty rest;
    shut_name = shut_named rest;
    marked = marked_records rest;
    open_name = open_named rest;
  },
  subst (λ (l : List ℕ). IsKind Empty l) (append-nil shut_gate) (shut_empty []),
)

-- ---- writes

-- the name of two logs that are alike in their first gate
same_name : (a b : List ℕ) → take 4096 a ≡ take 4096 b → take 16 (drop 8 a) ≡ take 16 (drop 8 b)
same_name a b same =
    sym (drop-take 8 16 a) ∙ ap (λ (l : List ℕ). drop 8 l) (take_less 24 4096 a b (omega arith) same)
    ∙ drop-take 8 16 b

same_gate : (old new : List ℕ) → IsNamedLog old → take 4096 new ≡ take 4096 old → 4096 ≤ length new → IsNamedLog new
same_gate old new named same long = record {
  gate = long;
  first = omega (arith, named.first, get_same 0 4096 new old (omega arith) same);
  name = same_name new old same ∙ named.name;
}

-- the law of the writes behind the first gate
pub writes_behind_keep_name : WritesBehindKeepName
writes_behind_keep_name at n old new behind torn named =
    same_gate old new named (take_less 4096 at new old behind torn.before)
    (omega (arith, torn.no_shorter, named.gate))

-- the law of the writes of a gate
pub gate_writes_keep_name : GateWritesKeepName
gate_writes_keep_name old new log of_old of_new long either = record {
  gate = long;
  first =
      ⊎_elim (λ is. omega (arith, is, of_old.first)) (λ is. omega (arith, is, of_new.first)) (either 0 (omega arith));
  name = ext_get_or 0 (take 16 (drop 8 log)) magic len (λ i low. of_either i (omega (arith, low, len)));
}
  where
    len : length (take 16 (drop 8 log)) ≡ 16
    len = length-take-le 16 (drop 8 log) (omega (arith, long, length-drop 8 log))

    named_at : (l : List ℕ) → HasMagic l → (i : ℕ) → i < 16 → get_or l (8 + i) 0 ≡ get_or magic i 0
    named_at l name i low = sym (get_or-drop 8 l i 0) ∙ sym (get_or-take 16 (drop 8 l) i 0 low)
        ∙ ap (λ (m : List ℕ). get_or m i 0) name

    of_either : (i : ℕ) → i < 16 → get_or (take 16 (drop 8 log)) i 0 ≡ get_or magic i 0
    of_either i low =
        get_or-take 16 (drop 8 log) i 0 low ∙ get_or-drop 8 log i 0
        ∙ ⊎_elim (λ is. is ∙ named_at old of_old.name i low) (λ is. is ∙ named_at new of_new.name i low)
        (either (8 + i) (omega arith))

-- ---- a commit

drop_zeros : (k n : ℕ) → drop k (zeros n) ≡ zeros (n - k)
unfolding zeros
drop_zeros k n = drop-replicate k n 0

-- eight zeros are the number 0
zero_bytes : zeros 8 ≡ number_bytes 0
unfolding zeros number_bytes
zero_bytes = refl

module _ (log : List ℕ) (end : ℕ) (ends : EndsShut 4096 log end) (some : 0 < end) (within : end < 4096) where
  abbrev prefix : List ℕ
  prefix = take end log

  prefix_len : length prefix ≡ end
  prefix_len = length-take-le end log (omega (arith, ends.room))

  opens : (tail : List ℕ) → get_or (prefix ++ tail) 0 0 ≡ 1
  opens tail = first_of prefix tail (omega (arith, prefix_len, some)) ∙ get_or-take end log 0 0 some ∙ ends.marked some

  -- the prefix alone is too short for a record
  alone : recovered_at 4096 (prefix ++ []) ≡ []
  alone =
      let short : drop 4096 (prefix ++ []) ≡ [] =
      drop_of_length-le (prefix ++ []) {i = 4096} (omega (arith, length-append prefix [], prefix_len, within)) in
      recovered_none 4096 (prefix ++ [])
      (next_open 4096 (prefix ++ []) (opens []) ∙ ap next_behind short ∙ none_behind [] (omega arith))

  no_records : recovered_at 4096 log ≡ []
  no_records =
      sym (append-nil (recovered_at 4096 log))
      ∙ ap (λ (ps : List (List ℕ)). recovered_at 4096 log ++ ps) (sym (recovered_shut 4096 [] (λ is. absurd (cc is))))
      ∙ sym (ends.prefix []) ∙ alone

  -- with zeros behind it, it is a record of no bytes
  abbrev padded : List ℕ
  padded = prefix ++ zeros 4104

  fewer : (k : ℕ) → k + end ≡ 4096 → drop k (zeros 4104) ≡ zeros 8 ++ zeros end
  fewer k is = drop_zeros k 4104 ∙ ap zeros (omega (arith, is)) ∙ zeros_split 8 end

  behind_is : drop 4096 padded ≡ zeros 8 ++ zeros end
  behind_is =
      let at : end + (4096 - end) ≡ 4096 = omega arith in
      sym (ap (λ (k : ℕ). drop k padded) at) ∙ sym (drop-drop (4096 - end) end padded)
      ∙ ap (λ (l : List ℕ). drop (4096 - end) l) (drop_at prefix (zeros 4104) end prefix_len)
      ∙ fewer (4096 - end) (omega arith)

  one : recovered_at 4096 padded ≡ [] ∷ recovered_at 4096 (zeros end)
  one =
      recovered_some 4096 padded [] (zeros end)
      (next_open 4096 padded (opens (zeros 4104)) ∙ ap next_behind (behind_is ∙ ap (λ (l : List ℕ). l ++ zeros end)
      zero_bytes) ∙ next_framed [] (zeros end) (omega arith))

  none : recovered_at 4096 padded ≡ []
  none = ends.prefix (zeros 4104) ∙ ap (λ (ps : List (List ℕ)). ps ++ recovered_at 4096 (zeros 4104)) no_records
      ∙ recovered_shut 4096 (zeros 4104) (λ is. absurd (omega (arith, is, each_of_zeros 4104 0)))

  pub not_within : ⊥
  not_within = absurd (cc (one, none))

-- no record ends within the first gate
end_is_block : (log : List ℕ) (end : ℕ) → EndsShut 4096 log end → (end ≡ 0) ⊎ (4096 ≤ end)
end_is_block log zero ends = inl refl
end_is_block log (suc n) ends = elim (leb_tells 4096 (suc n)) [
  | inl behind ↦ inr behind.1
  | inr within ↦ absurd (not_within log (suc n) ends (omega arith) within.1)
]

module _ (files : LoggedFile) (end : ℕ) (payload : List ℕ) (named : IsNamedLog files.log) where
  abbrev P : LoggedFile → Type 0
  P = λ c. IsNamedLog c.log

  abbrev start : LoggedFile → Type 0
  start = λ c. c ≡ files

  at_start : (c : LoggedFile) → start c → P c
  at_start c is = subst P (sym is) named

  torn_step : (at n : ℕ) (old : LoggedFile → Type 0) → 4096 ≤ at → ((d : LoggedFile) → old d → P d)
      → (c : LoggedFile) → TornFrom at n old c → P c
  torn_step at n old behind was c from =
      writes_behind_keep_name at n from.0.log c.log behind from.2.torn (was from.0 from.1)

  abbrev body_may : LoggedFile → Type 0
  body_may = TornFrom (end + 4096) (length (record_body payload)) start

  once_written : (c : LoggedFile) → body_may c → P c
  once_written = torn_step (end + 4096) (length (record_body payload)) start (omega arith) at_start

  -- until the gate is opened
  until_gate : (how : CommitOutcome) → Always P files start (take 2 (commit_events end payload how))
  until_gate Unwritten = (at_start, once_written)
  until_gate Unsynced = (at_start, (once_written, once_written))
  until_gate Unmarked = (at_start, (once_written, λ c left. once_written c left.0))
  until_gate Unsure = (at_start, (once_written, λ c left. once_written c left.0))
  until_gate Committed = (at_start, (once_written, λ c left. once_written c left.0))

  module _ (behind : 4096 ≤ end) where
    abbrev staged : LoggedFile
    staged = seen_after files (Wrote (end + 4096) (record_body payload) true)

    once_marked : (c : LoggedFile) → TornFrom end (length open_gate) (λ d. body_may d × (d.log ≡ staged.log)) c → P c
    once_marked = torn_step end (length open_gate) (λ d. body_may d × (d.log ≡ staged.log)) behind
        (λ d left. once_written d left.0)

    -- the whole commit
    whole : (how : CommitOutcome) → Always P files start (commit_events end payload how)
    whole Unwritten = (at_start, once_written)
    whole Unsynced = (at_start, (once_written, once_written))
    whole Unmarked = (at_start, (once_written, (λ c left. once_written c left.0, once_marked)))
    whole Unsure = (at_start, (once_written, (λ c left. once_written c left.0, (once_marked, once_marked))))
    whole Committed =
        (at_start, (once_written, (λ c left. once_written c left.0, (once_marked, λ c left. once_marked c left.0))))

-- the law of the moments of a commit
pub commit_keeps_name : CommitKeepsName
commit_keeps_name files end payload how ends named k c left until = elim (end_is_block files.log end ends) [
  | inl zero_end ↦
      let events = take-take k 2 (commit_events end payload how) (until zero_end) in
      at_each (P files end payload named) files (start files end payload named) (take 2 (commit_events end payload how))
      (until_gate files end payload named how) k c
      (subst (λ es. leaves files (λ d. d ≡ files) es c) (sym events) left)
  | inr behind ↦
      at_each (P files end payload named) files (start files end payload named) (commit_events end payload how)
      (whole files end payload named behind how) k c left
]

not_empty : (ps : List (List ℕ)) (p : List ℕ) → ps ++ p ∷ [] ≢ []
not_empty [] p is = absurd (cc is)
not_empty (q ∷ ps) p is = absurd (cc is)

-- the open gate over a log with the name
marked_named : (log text : List ℕ) (end : ℕ) → EndsShut 4096 log end → IsNamedLog log → (mid done : List ℕ)
    → WritesAt log (end + 4096) text mid → WritesAt mid end open_gate done → IsNamedLog done
marked_named log text zero ends named mid done writes marks =
    subst IsNamedLog (sym marks) (open_named (drop (zero + length open_gate) mid))
marked_named log text (suc n) ends named mid done writes marks =
    let end : ℕ = suc n in
    let room : end ≤ length mid = omega (arith, held_len log (end + 4096) text mid ends.room writes) in
    let behind : 4096 ≤ end = ⊎_elim (λ none. absurd (omega (arith, none))) (λ is. is) (end_is_block log end ends) in
    let first = take_less 4096 end done mid behind (held_before mid end open_gate done room marks) in
    let second = take_less 4096 (end + 4096) mid log (omega arith)
    (held_before log (end + 4096) text mid ends.room writes) in
    same_gate log done named (first ∙ second)
    (omega (arith, held_len mid end open_gate done room marks, behind))

-- the law of a commit that is done
pub committed_has_records : CommittedHasRecords
committed_has_records files end payload ends named small =
    let staged = seen_after files (Wrote (end + 4096) (record_body payload) true) in
    let done = seen_in_the_end files (commit_events end payload Committed) in
    let more = committed_lasts files end payload ends small in
    with_records done.log
    (marked_named files.log (record_body payload) end ends named staged.log done.log refl refl) (λ none.
    not_empty (recovered files.log) payload (sym more.added ∙ recovered_none 4096 done.log none))
