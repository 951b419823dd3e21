-- What logs stand for.
use Rattle.std.proofs.Common.{◌≡◌, ◌≢◌, ◌⊎◌, inl, inr, ℕ, zero, suc, ◌+◌, ◌^◌, ◌<◌, ◌≤◌, List, [], ◌∷◌, ◌++◌, length}
use Rattle.std.proofs.Common.{take, drop, get_or, refl, sym, ◌∙◌, ap, arith, length-append, length-drop}
use Rattle.std.proofs.Common.{Bool, Option, Some, None, cond, nat_lt, true, false}
use Rattle.std.proofs.lemmas.List.{take_at, drop_at}
use Rattle.std.proofs.lemmas.Bool.{cases_eq, eq-eqb, ne_eqb, le-ltb, ltb-false}
use Rattle.byteorder.specs.Numbers.{little_number-reads_back, length-bytes_low_first}
use Rattle.segment_log.specs.Records.{number_of, number_bytes, next_behind, next_at, go_on, recovered_by, recovered_at}

-- ---- one record

-- a text with a length of its own and a payload
abbrev pub framed : List ℕ → List ℕ → List ℕ
framed payload tail = number_bytes (length payload) ++ (payload ++ tail)

-- a number has eight bytes
pub length-number : (n : ℕ) → length (number_bytes n) ≡ 8
unfolding number_bytes
length-number n = length-bytes_low_first 0 8 n

-- a number is read back from its bytes
pub number_back : (n : ℕ) (rest : List ℕ) → n < 256 ^ 8 → number_of (number_bytes n ++ rest) ≡ n
unfolding number_bytes number_of
number_back n rest small = little_number-reads_back 8 n rest small

-- a text that is not too short has a payload
pub next_if : (short : Bool) (n : ℕ) (behind prefix back : List ℕ) → short ≡ false → take n behind ≡ prefix
    → drop n behind ≡ back
    → cond {A = Option (List ℕ × List ℕ)} short None (Some (take n behind, drop n behind)) ≡ Some (prefix, back)
next_if true n behind prefix back not_short a b = absurd (cc (not_short))
next_if false n behind prefix back not_short a b = λ i. Some (a i, b i)

-- a payload is read back from its frame
pub next_framed : (payload tail : List ℕ) → length payload < 256 ^ 8
    → next_behind (framed payload tail) ≡ Some (payload, tail)
next_framed payload tail small =
    let number : number_of (framed payload tail) ≡ length payload =
    number_back (length payload) (payload ++ tail) small in
    let behind : drop 8 (framed payload tail) ≡ payload ++ tail =
    drop_at (number_bytes (length payload)) (payload ++ tail) 8 (length-number (length payload)) in
    let len : length (framed payload tail) ≡ 8 + (length payload + length tail) =
    omega (
      arith,
      length-append (number_bytes (length payload)) (payload ++ tail),
      length-append payload tail,
      length-number (length payload),
    ) in
    next_if (nat_lt (length (framed payload tail)) (8 + number_of (framed payload tail)))
    (number_of (framed payload tail)) (drop 8 (framed payload tail)) payload tail
    (le-ltb _ _ (omega (arith, len, number)))
    ((λ i. take (number i) (behind i)) ∙ take_at payload tail (length payload) refl)
    ((λ i. drop (number i) (behind i)) ∙ drop_at payload tail (length payload) refl)

same_back : (prefix back : List ℕ) (r : List ℕ × List ℕ) → Some (prefix, back) ≡ Some r → back ≡ r.1
same_back prefix back r is =
    let p : (prefix, back) ≡ r = cc in
    ap (λ (q : List ℕ × List ℕ). q.1) p

shorter_if : (short : Bool) (n : ℕ) (text : List ℕ) (r : List ℕ × List ℕ) → (short ≡ false → 8 + n ≤ length text)
    → cond short None (Some (take n (drop 8 text), drop n (drop 8 text))) ≡ Some r → length r.1 + 8 ≤ length text
shorter_if true n text r long is = absurd (cc (is))
shorter_if false n text r long is =
    let back = same_back (take n (drop 8 text)) (drop n (drop 8 text)) r is in
    let room = long refl in
    omega (arith, ap length back, length-drop n (drop 8 text), length-drop 8 text)

pub shorter_behind : (text : List ℕ) (r : List ℕ × List ℕ) → next_behind text ≡ Some r → length r.1 + 8 ≤ length text
shorter_behind text r is =
    shorter_if (nat_lt (length text) (8 + number_of text)) (number_of text) text r (λ e. ltb-false _ _ e) is

module _ (gate : ℕ) where
  -- a gate that is not open
  pub next_shut : (log : List ℕ) → get_or log 0 0 ≢ 1 → next_at gate log ≡ None
  next_shut log shut = ap (λ b. cond b (next_behind (drop gate log)) None) (ne_eqb _ _ shut)

  -- an open gate leads to what stands behind it
  pub next_open : (log : List ℕ) → get_or log 0 0 ≡ 1 → next_at gate log ≡ next_behind (drop gate log)
  next_open log is = ap (λ b. cond b (next_behind (drop gate log)) None) (eq-eqb _ _ is)

  -- the gate is the only part in front that counts
  pub next_or_none : (log : List ℕ)
      → (next_at gate log ≡ None) ⊎ ((get_or log 0 0 ≡ 1) × (next_at gate log ≡ next_behind (drop gate log)))
  next_or_none log = elim (cases_eq (get_or log 0 0) 1) [
    | inl is ↦ inr (is, next_open log is)
    | inr shut ↦ inl (next_shut log shut)
  ]

  -- a log gets shorter record by record
  pub shorter : (log : List ℕ) (r : List ℕ × List ℕ) → next_at gate log ≡ Some r → length r.1 < length log
  shorter log r is = elim (next_or_none log) [
    | inl none ↦ absurd (cc (none, is))
    | inr now ↦ omega (arith, shorter_behind (drop gate log) r (sym now.1 ∙ is), length-drop gate log)
  ]

  -- ---- how many are looked for

  same_go_on : (f g : List ℕ → List (List ℕ)) (o : Option (List ℕ × List ℕ))
      → ((r : List ℕ × List ℕ) → o ≡ Some r → f r.1 ≡ g r.1) → go_on f o ≡ go_on g o
  same_go_on f g None h = refl
  same_go_on f g (Some r) h = ap (λ (ps : List (List ℕ)). r.0 ∷ ps) (h r refl)

  nothing_in_nil : (n : ℕ) → recovered_by gate n [] ≡ []
  nothing_in_nil zero = refl
  nothing_in_nil (suc n) = ap (go_on (λ rest. recovered_by gate n rest)) (next_shut [] (omega arith))

  nil_is : (log : List ℕ) → length log ≤ zero → log ≡ []
  nil_is [] h = refl
  nil_is (x ∷ log) h = absurd (omega arith)

  pub enough : (n m : ℕ) (log : List ℕ) → length log ≤ n → length log ≤ m
      → recovered_by gate n log ≡ recovered_by gate m log
  enough zero m log a b = ap (λ l. recovered_by gate zero l) (nil_is log a) ∙ sym (nothing_in_nil m)
      ∙ ap (λ l. recovered_by gate m l) (sym (nil_is log a))
  enough (suc n) zero log a b = ap (λ l. recovered_by gate (suc n) l) (nil_is log b) ∙ nothing_in_nil (suc n)
      ∙ ap (λ l. recovered_by gate zero l) (sym (nil_is log b))
  enough (suc n) (suc m) log a b =
      same_go_on (λ rest. recovered_by gate n rest) (λ rest. recovered_by gate m rest) (next_at gate log)
      (λ r is. enough n m r.1 (omega (arith, shorter log r is)) (omega (arith, shorter log r is)))

  -- the first record, and those behind it
  pub recovered_step : (log : List ℕ)
      → recovered_at gate log ≡ go_on (λ rest. recovered_at gate rest) (next_at gate log)
  recovered_step log =
      enough (length log) (suc (length log)) log (omega arith) (omega arith)
      ∙ same_go_on (λ rest. recovered_by gate (length log) rest) (λ rest. recovered_at gate rest) (next_at gate log)
      (λ r is. enough (length log) (length r.1) r.1 (omega (arith, shorter log r is)) (omega arith))

  -- a log without a first record has none
  pub recovered_none : (log : List ℕ) → next_at gate log ≡ None → recovered_at gate log ≡ []
  recovered_none log is = recovered_step log ∙ ap (go_on (λ rest. recovered_at gate rest)) is

  -- the records of a log are the first one and those of the rest
  pub recovered_some : (log payload rest : List ℕ) → next_at gate log ≡ Some (payload, rest)
      → recovered_at gate log ≡ payload ∷ recovered_at gate rest
  recovered_some log payload rest is = recovered_step log ∙ ap (go_on (λ rest. recovered_at gate rest)) is

  -- two logs with the same first record and rest have the same records
  pub recovered_same : (a b : List ℕ) → next_at gate a ≡ next_at gate b → recovered_at gate a ≡ recovered_at gate b
  recovered_same a b is = recovered_step a ∙ ap (go_on (λ rest. recovered_at gate rest)) is ∙ sym (recovered_step b)

  -- a log whose gate is shut has no record
  pub recovered_shut : (log : List ℕ) → get_or log 0 0 ≢ 1 → recovered_at gate log ≡ []
  recovered_shut log shut = recovered_none log (next_shut log shut)
