-- What a crash leaves in each of the two steps of a commit.
use Rattle.std.proofs.Common.{◌≡◌, ◌⊎◌, inl, inr, ℕ, zero, suc, ◌+◌, ◌^◌, ◌<◌, ◌≤◌, List, [], ◌∷◌, ◌++◌, length, take}
use Rattle.std.proofs.Common.{drop, get_or, refl, sym, ◌∙◌, ap, subst, arith, append_assoc, length-append}
use Rattle.std.proofs.Common.{take-append-drop, Some}
use Rattle.std.proofs.lemmas.List.{append-nil, take_at, drop_at, length-take-le, drop-drop}
use Rattle.segment_log.specs.Crashes.{WritesAt, TornWrite}
use Rattle.segment_log.specs.Records.{number_bytes, next_behind, next_at, recovered_at, EndsShut}
use Rattle.segment_log.proofs.records.Reading.{framed, length-number, next_framed, next_or_none, next_open}
use Rattle.segment_log.proofs.records.Reading.{recovered_none, recovered_some, recovered_shut}
use Rattle.segment_log.proofs.records.Pieces.{held_before, held_at, held_after, held_len, take_less, get_same}
use Rattle.segment_log.proofs.records.Pieces.{get_dropped, first_of}

module _ (gap : ℕ) (log : List ℕ) (end : ℕ) (ends : EndsShut (suc gap) log end) where
  abbrev payloads : List (List ℕ)
  payloads = recovered_at (suc gap) log

  -- a log whose records are the same up to the end
  pub from_end : (c : List ℕ) → take end c ≡ take end log
      → recovered_at (suc gap) c ≡ payloads ++ recovered_at (suc gap) (drop end c)
  from_end c same =
      ap (recovered_at (suc gap)) (sym (take-append-drop end c) ∙ ap (λ (l : List ℕ). l ++ drop end c) same)
      ∙ ends.prefix (drop end c)

  pub nothing_more : (c : List ℕ) → take end c ≡ take end log → recovered_at (suc gap) (drop end c) ≡ []
      → recovered_at (suc gap) c ≡ payloads
  nothing_more c same nothing = from_end c same ∙ ap (λ (ps : List (List ℕ)). payloads ++ ps) nothing
      ∙ append-nil payloads

  -- the gate stands shut in each outcome of a write behind it
  pub behind_keeps : (n : ℕ) (c : List ℕ) → TornWrite (end + suc gap) n log c → recovered_at (suc gap) c ≡ payloads
  behind_keeps n c torn =
      let same = take_less end (end + suc gap) c log (omega arith) torn.before in
      let gate = get_same end (end + suc gap) c log (omega arith) torn.before in
      nothing_more c same
      (recovered_shut (suc gap) (drop end c) (λ is. ends.shut (sym gate ∙ sym (get_dropped end c) ∙ is)))

  -- ---- once the body stands behind the gate
  module _ (payload : List ℕ) (small : length payload < 256 ^ 8) (staged : List ℕ)
      (shut : List ℕ) (shut_len : length shut ≡ suc gap) (shut_first : get_or shut 0 0 ≡ 0)
      (holds : WritesAt log (end + suc gap) (number_bytes (length payload) ++ payload ++ shut) staged) where
    abbrev text : List ℕ
    text = number_bytes (length payload) ++ payload ++ shut

    abbrev rest : List ℕ
    rest = drop (end + suc gap + length text) log

    shut_start : (tail : List ℕ) → get_or (shut ++ tail) 0 0 ≡ 0
    shut_start tail = first_of shut tail (omega (arith, shut_len)) ∙ shut_first

    staged_before : take end staged ≡ take end log
    staged_before =
        take_less end (end + suc gap) staged log (omega arith)
        (held_before log (end + suc gap) text staged ends.room holds)

    body_is : (tail : List ℕ) → text ++ tail ≡ framed payload (shut ++ tail)
    body_is tail =
        append_assoc (number_bytes (length payload) ++ payload) shut tail
        ∙ append_assoc (number_bytes (length payload)) payload (shut ++ tail)

    staged_behind : drop (end + suc gap) staged ≡ framed payload (shut ++ rest)
    staged_behind = held_at log (end + suc gap) text staged ends.room holds ∙ body_is rest

    pub staged_room : end ≤ length staged
    staged_room = omega (arith, held_len log (end + suc gap) text staged ends.room holds)

    -- what an open gate leads to
    module _ (c : List ℕ) (before : take end c ≡ take end staged)
        (after : drop (end + suc gap) c ≡ drop (end + suc gap) staged) where
      behind_gate : drop (suc gap) (drop end c) ≡ framed payload (shut ++ rest)
      behind_gate = drop-drop (suc gap) end c ∙ after ∙ staged_behind

      record_is : get_or (drop end c) 0 0 ≡ 1 → next_at (suc gap) (drop end c) ≡ Some (payload, shut ++ rest)
      record_is open_now =
          next_open (suc gap) (drop end c) open_now ∙ ap next_behind behind_gate
          ∙ next_framed payload (shut ++ rest) small

      shut_behind : recovered_at (suc gap) (shut ++ rest) ≡ []
      shut_behind =
          recovered_shut (suc gap) (shut ++ rest)
          (λ is. absurd (omega (arith, is, shut_start rest)))

      pub one_more : get_or (drop end c) 0 0 ≡ 1 → recovered_at (suc gap) c ≡ payloads ++ payload ∷ []
      one_more open_now =
          from_end c (before ∙ staged_before)
          ∙ ap (λ (ps : List (List ℕ)). payloads ++ ps)
          (recovered_some (suc gap) (drop end c) payload (shut ++ rest) (record_is open_now)
          ∙ ap (λ (ps : List (List ℕ)). payload ∷ ps) shut_behind)

      pub one_or_none : (recovered_at (suc gap) c ≡ payloads) ⊎ (recovered_at (suc gap) c ≡ payloads ++ payload ∷ [])
      one_or_none = elim (next_or_none (suc gap) (drop end c)) [
        | inl none ↦ inl (nothing_more c (before ∙ staged_before) (recovered_none (suc gap) (drop end c) none))
        | inr now ↦ inr (one_more now.0)
      ]

    -- a crash while the gate is opened leaves the new record or none more
    pub gate_crash : (c : List ℕ) → TornWrite end (suc gap) staged c
        → (recovered_at (suc gap) c ≡ payloads) ⊎ (recovered_at (suc gap) c ≡ payloads ++ payload ∷ [])
    gate_crash c torn = one_or_none c torn.before torn.after

    -- ---- once the gate is open
    module _ (block : List ℕ) (is_open : get_or block 0 0 ≡ 1) (size : length block ≡ suc gap) (done : List ℕ)
        (marks : WritesAt staged end block done) where
      done_before : take end done ≡ take end staged
      done_before = held_before staged end block done staged_room marks

      at_end : drop end done ≡ block ++ drop (end + suc gap) staged
      at_end = held_at staged end block done staged_room marks ∙ ap (λ (n : ℕ). block ++ drop (end + n) staged) size

      done_after : drop (end + suc gap) done ≡ drop (end + suc gap) staged
      done_after =
          subst (λ (n : ℕ). drop (end + n) done ≡ drop (end + n) staged) size
          (held_after staged end block done staged_room marks)

      now_open : get_or (drop end done) 0 0 ≡ 1
      now_open = ap (λ (l : List ℕ). get_or l 0 0) at_end ∙ first_of block _ (omega (arith, size)) ∙ is_open

      pub added : recovered_at (suc gap) done ≡ payloads ++ payload ∷ []
      added = one_more done done_before done_after now_open

      -- all of it, in pieces
      abbrev new_prefix : List ℕ
      new_prefix = take end log ++ (block ++ (number_bytes (length payload) ++ payload))

      regroup : (f b n p t : List ℕ) → (f ++ (b ++ (n ++ p))) ++ t ≡ f ++ (b ++ (n ++ (p ++ t)))
      regroup f b n p t = simp append_assoc

      done_is : done ≡ new_prefix ++ (shut ++ rest)
      done_is =
          sym (take-append-drop end done)
          ∙ (λ i. (done_before ∙ staged_before) i ++ (at_end ∙ ap (λ (l : List ℕ). block ++ l) staged_behind) i)
          ∙ sym (regroup (take end log) block (number_bytes (length payload)) payload (shut ++ rest))

      new_len : length new_prefix ≡ end + suc gap + 8 + length payload
      new_len =
          omega (
            arith,
            length-append (take end log) (block ++ (number_bytes (length payload) ++ payload)),
            length-append block
                (number_bytes (length payload) ++ payload),
            length-append (number_bytes (length payload)) payload,
            length-number (length payload),
            length-take-le end log (omega (arith, ends.room)),
            size,
          )

      prefix_is : take (end + suc gap + 8 + length payload) done ≡ new_prefix
      prefix_is = ap (λ (l : List ℕ). take (end + suc gap + 8 + length payload) l) done_is
          ∙ take_at new_prefix (shut ++ rest) _ new_len

      prefixes : (tail : List ℕ)
          → recovered_at (suc gap) (new_prefix ++ tail) ≡ (payloads ++ payload ∷ []) ++ recovered_at (suc gap) tail
      prefixes tail =
          let next : List ℕ = block ++ framed payload tail in
          let behind : drop (suc gap) next ≡ framed payload tail = drop_at block (framed payload tail) (suc gap) size in
          let opened : get_or next 0 0 ≡ 1 = first_of block (framed payload tail) (omega (arith, size)) ∙ is_open in
          let step : next_at (suc gap) next ≡ Some (payload, tail) = next_open (suc gap) next opened
          ∙ ap next_behind behind ∙ next_framed payload tail small in
          ap (recovered_at (suc gap)) (regroup (take end log) block (number_bytes (length payload)) payload tail)
          ∙ ends.prefix next
          ∙ ap (λ (ps : List (List ℕ)). payloads ++ ps) (recovered_some (suc gap) next payload tail step)
          ∙ sym (append_assoc payloads (payload ∷ []) (recovered_at (suc gap) tail))

      at_new_end : drop (end + suc gap + 8 + length payload) done ≡ shut ++ rest
      at_new_end = ap (λ (l : List ℕ). drop (end + suc gap + 8 + length payload) l) done_is
          ∙ drop_at new_prefix (shut ++ rest) _ new_len

      first_of_done : (e : ℕ) → e ≡ end → get_or done 0 0 ≡ 1
      first_of_done zero is = sym (get_dropped zero done) ∙ ap (λ (n : ℕ). get_or (drop n done) 0 0) is ∙ now_open
      first_of_done (suc e) is =
          get_same 0 end done log (omega (arith, is)) (done_before ∙ staged_before) ∙ ends.marked (omega (arith, is))

      pub ends_now : EndsShut (suc gap) done (end + suc gap + 8 + length payload)
      ends_now = record {
        prefix = λ tail. ap (λ (l : List ℕ). recovered_at (suc gap) (l ++ tail)) prefix_is ∙ prefixes tail
            ∙ ap (λ (ps : List (List ℕ)). ps ++ recovered_at (suc gap) tail) (sym added);
        room =
            omega (
              arith,
              ap length done_is,
              length-append new_prefix (shut ++ rest),
              length-append
                  shut rest,
              shut_len,
              new_len,
            );
        shut =
            λ is. absurd
            (omega (
              arith,
              is,
              get_dropped (end + suc gap + 8 + length payload) done,
              ap
                  (λ (l : List ℕ). get_or l 0 0) at_new_end,
              shut_start rest,
            ));
        marked = λ _. first_of_done end refl;
      }
