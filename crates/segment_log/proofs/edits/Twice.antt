-- To apply payloads twice is to apply them once: what they make of an image is at each place the byte that was there or
-- one that does not depend on it.
use Rattle.std.proofs.Common.{◌≡◌, ◌⊎◌, inl, inr, ℕ, zero, suc, ◌+◌, ◌-◌, ◌<◌, ◌≤◌, List, [], ◌∷◌, ◌++◌, length, take}
use Rattle.std.proofs.Common.{drop, get_or, refl, sym, ◌∙◌, ap, arith, length-drop, length-append}
use Rattle.std.proofs.Common.{Option, Some, None, cond}
use Rattle.std.proofs.lemmas.Bool.{cases_lt, lt-ltb, le-ltb}
use Rattle.std.proofs.lemmas.List.{get_or-take, get_or-drop, get_or_append_left, get_or-append_right, get_or_past}
use Rattle.std.proofs.lemmas.List.{get_or-replicate, ext_get_or, length-take, length-take-le}
use Rattle.segment_log.specs.Records.{zeros, number_of}
use Rattle.segment_log.specs.Edits.{put, resized, next_edit, edit_on, edited_by, edited, applied, applied_all}
use Rattle.segment_log.proofs.records.Pieces.{length-zeros}

-- at a place, all images in D keep their byte, or all get the same one
abbrev pub Keeps : (List ℕ → Type 0) → (List ℕ → List ℕ) → ℕ → Type 0
Keeps D f i = (x : List ℕ) → D x → get_or (f x) i 0 ≡ get_or x i 0

abbrev pub Sets : (List ℕ → Type 0) → (List ℕ → List ℕ) → ℕ → Type 0
Sets D f i = (v : ℕ) × ((x : List ℕ) → D x → get_or (f x) i 0 ≡ v)

abbrev pub Overwrites : (List ℕ → Type 0) → (List ℕ → List ℕ) → Type 0
Overwrites D f = (i : ℕ) → Keeps D f i ⊎ Sets D f i

abbrev pub HasLen : ℕ → List ℕ → Type 0
HasLen n x = length x ≡ n

abbrev pub Any : List ℕ → Type 0
Any x = Unit {0}

-- one after the other
pub both_overwrite : (D E : List ℕ → Type 0) (f g : List ℕ → List ℕ) → Overwrites D f → Overwrites E g
    → ((x : List ℕ) → D x → E (f x)) → Overwrites D (λ x. g (f x))
both_overwrite D E f g first second leads i = elim (second i) [
  | inr set ↦ inr (set.0, λ x d. set.1 (f x) (leads x d))
  | inl keep ↦ elim (first i) [
    | inl kept ↦ inl (λ x d. keep (f x) (leads x d) ∙ kept x d)
    | inr set ↦ inr (set.0, λ x d. keep (f x) (leads x d) ∙ set.1 x d)
  ]
]

-- ---- one edit

-- bytes that lie within the image are put
pub put_in : (at : ℕ) (bytes x : List ℕ) → at + length bytes ≤ length x
    → put at bytes x ≡ take at x ++ (bytes ++ drop (at + length bytes) x)
put_in at bytes x room = ap (λ b. cond b x (take at x ++ (bytes ++ drop (at + length bytes) x))) (le-ltb _ _ room)

-- bytes that do not are not put
pub put_out : (at : ℕ) (bytes x : List ℕ) → length x < at + length bytes → put at bytes x ≡ x
put_out at bytes x out = ap (λ b. cond b x (take at x ++ (bytes ++ drop (at + length bytes) x))) (lt-ltb _ _ out)

pub length-put : (at : ℕ) (bytes x : List ℕ) → length (put at bytes x) ≡ length x
length-put at bytes x = elim (cases_lt (length x) (at + length bytes)) [
  | inl out ↦ ap length (put_out at bytes x out)
  | inr room ↦
      omega (
        arith,
        ap length (put_in at bytes x room),
        length-append (take at x) (bytes ++ drop (at + length bytes) x),
        length-append bytes (drop (at + length bytes) x),
        length-drop (at + length bytes) x,
        length-take-le at x
            (omega arith),
      )
]

at_below : (at : ℕ) (bytes x : List ℕ) (i : ℕ) → at + length bytes ≤ length x → i < at
    → get_or (take at x ++ (bytes ++ drop (at + length bytes) x)) i 0 ≡ get_or x i 0
at_below at bytes x i room lt =
    get_or_append_left (take at x) (bytes ++ drop (at + length bytes) x) 0 i
    (omega (arith, length-take-le at x (omega arith))) ∙ get_or-take at x i 0 lt

at_within : (at : ℕ) (bytes x : List ℕ) (i : ℕ) → at + length bytes ≤ length x → at ≤ i → i < at + length bytes
    → get_or (take at x ++ (bytes ++ drop (at + length bytes) x)) i 0 ≡ get_or bytes (i - at) 0
at_within at bytes x i room le lt =
    get_or-append_right (take at x) (bytes ++ drop (at + length bytes) x) at i 0 (length-take-le at x (omega arith)) le
    ∙ get_or_append_left bytes (drop (at + length bytes) x) 0 (i - at) (omega arith)

at_behind : (at : ℕ) (bytes x : List ℕ) (i : ℕ) → at + length bytes ≤ length x → at + length bytes ≤ i
    → get_or (take at x ++ (bytes ++ drop (at + length bytes) x)) i 0 ≡ get_or x i 0
at_behind at bytes x i room le =
    let same : at + length bytes + (i - at - length bytes) ≡ i = omega arith in
    get_or-append_right (take at x) (bytes ++ drop (at + length bytes) x) at i 0 (length-take-le at x (omega arith))
    (omega arith)
    ∙ get_or-append_right bytes (drop (at + length bytes) x) (length bytes) (i - at) 0 refl (omega arith)
    ∙ get_or-drop (at + length bytes) x (i - at - length bytes) 0
    ∙ ap (λ (k : ℕ). get_or x k 0) same

pub put_overwrites : (n at : ℕ) (bytes : List ℕ) → Overwrites (HasLen n) (put at bytes)
put_overwrites n at bytes i = elim (cases_lt n (at + length bytes)) [
  | inl out ↦ inl (λ x len. ap (λ (l : List ℕ). get_or l i 0) (put_out at bytes x (omega (arith, len))))
  | inr room ↦ elim (cases_lt i at) [
    | inl below ↦
        inl (λ x len. ap (λ (l : List ℕ). get_or l i 0) (put_in at bytes x (omega (arith, len)))
        ∙ at_below at bytes x i (omega (arith, len)) below)
    | inr le ↦ elim (cases_lt i (at + length bytes)) [
      | inl lt ↦
          inr (
            get_or bytes (i - at) 0,
            λ x len. ap (λ (l : List ℕ). get_or l i 0)
                (put_in at bytes x (omega (arith, len))) ∙ at_within at bytes x i (omega (arith, len)) le lt,
          )
      | inr behind ↦
          inl (λ x len. ap (λ (l : List ℕ). get_or l i 0) (put_in at bytes x (omega (arith, len)))
          ∙ at_behind at bytes x i (omega (arith, len)) behind)
    ]
  ]
]

-- ---- edits

length-edit_on : (f : List ℕ → List ℕ → List ℕ) → ((text x : List ℕ) → length (f text x) ≡ length x)
    → (o : Option (ℕ × List ℕ × List ℕ)) (x : List ℕ) → length (edit_on f o x) ≡ length x
length-edit_on f same None x = refl
length-edit_on f same (Some e) x = same e.2 (put e.0 e.1 x) ∙ length-put e.0 e.1 x

length-edited_by : (m : ℕ) (text x : List ℕ) → length (edited_by m text x) ≡ length x
length-edited_by zero text x = refl
length-edited_by (suc m) text x =
    length-edit_on (λ rest. edited_by m rest) (λ t y. length-edited_by m t y) (next_edit text) x

none_overwrites : (D : List ℕ → Type 0) → Overwrites D (λ x. x)
none_overwrites D i = inl (λ x d. refl)

edit_on_overwrites : (n : ℕ) (f : List ℕ → List ℕ → List ℕ) → ((text : List ℕ) → Overwrites (HasLen n) (f text))
    → (o : Option (ℕ × List ℕ × List ℕ)) → Overwrites (HasLen n) (edit_on f o)
edit_on_overwrites n f each None = none_overwrites (HasLen n)
edit_on_overwrites n f each (Some e) =
    both_overwrite (HasLen n) (HasLen n) (put e.0 e.1) (f e.2) (put_overwrites n e.0 e.1) (each e.2)
    (λ x len. length-put e.0 e.1 x ∙ len)

edited_by_overwrites : (n m : ℕ) (text : List ℕ) → Overwrites (HasLen n) (edited_by m text)
edited_by_overwrites n zero text = none_overwrites (HasLen n)
edited_by_overwrites n (suc m) text =
    edit_on_overwrites n (λ rest. edited_by m rest) (λ t. edited_by_overwrites n m t) (next_edit text)

-- edits keep the length
pub length-edited : (text x : List ℕ) → length (edited text x) ≡ length x
unfolding edited
length-edited text x = length-edited_by (length text) text x

pub edited_overwrites : (n : ℕ) (text : List ℕ) → Overwrites (HasLen n) (edited text)
unfolding edited
edited_overwrites n text = edited_by_overwrites n (length text) text

-- ---- another length

-- an image that is resized has the length
pub length-resized : (n : ℕ) (x : List ℕ) → length (resized n x) ≡ n
length-resized n x =
    omega (arith, length-append (take n x) (zeros (n - length x)), length-take n x, length-zeros (n - length x))

get_zeros : (k i : ℕ) → get_or (zeros k) i 0 ≡ 0
unfolding zeros
get_zeros k i = elim (cases_lt i k) [
  | inl lt ↦ get_or-replicate k i 0 0 lt
  | inr le ↦ get_or_past (zeros k) i 0 (omega (arith, length-zeros k))
]

kept_below : (n : ℕ) (x : List ℕ) (i : ℕ) → i < n → get_or (resized n x) i 0 ≡ get_or x i 0
kept_below n x i lt = elim (cases_lt i (length x)) [
  | inl within ↦ get_or_append_left (take n x) (zeros (n - length x)) 0 i (omega (arith, length-take n x))
      ∙ get_or-take n x i 0 lt
  | inr past ↦
      get_or-append_right (take n x) (zeros (n - length x)) (length x) i 0 (omega (arith, length-take n x)) past
      ∙ get_zeros (n - length x) (i - length x) ∙ sym (get_or_past x i 0 past)
]

pub resized_overwrites : (n : ℕ) → Overwrites Any (resized n)
resized_overwrites n i = elim (cases_lt i n) [
  | inl lt ↦ inl (λ x _. kept_below n x i lt)
  | inr past ↦ inr (0, λ x _. get_or_past (resized n x) i 0 (omega (arith, length-resized n x)))
]

-- ---- payloads

-- the length stays, or does not depend on the image
abbrev pub FixesLen : (List ℕ → List ℕ) → Type 0
FixesLen f = ((x : List ℕ) → length (f x) ≡ length x) ⊎ ((n : ℕ) × ((x : List ℕ) → length (f x) ≡ n))

pub payload_overwrites : (payload : List ℕ) → Overwrites Any (applied payload)
payload_overwrites payload i = elim (cases_lt (length payload) 8) [
  | inl short ↦
      inl (λ x _. ap (λ b. get_or (cond b x (edited (drop 8 payload) (resized (number_of payload) x))) i 0)
      (lt-ltb _ _ short))
  | inr long ↦
      let same : (x : List ℕ) → applied payload x ≡ edited (drop 8 payload) (resized (number_of payload) x) =
      λ x. ap (λ b. cond b x (edited (drop 8 payload) (resized (number_of payload) x))) (le-ltb _ _ long) in
      elim
      (both_overwrite Any (HasLen (number_of payload)) (resized (number_of payload)) (edited (drop 8 payload))
      (resized_overwrites (number_of payload)) (edited_overwrites (number_of payload) (drop 8 payload))
      (λ x _. length-resized (number_of payload) x) i) [
        | inl keep ↦ inl (λ x d. ap (λ (l : List ℕ). get_or l i 0) (same x) ∙ keep x d)
        | inr set ↦ inr (set.0, λ x d. ap (λ (l : List ℕ). get_or l i 0) (same x) ∙ set.1 x d)
      ]
]

payload_fixes : (payload : List ℕ) → FixesLen (applied payload)
payload_fixes payload = elim (cases_lt (length payload) 8) [
  | inl short ↦
      inl (λ x. ap (λ b. length (cond b x (edited (drop 8 payload) (resized (number_of payload) x))))
      (lt-ltb _ _ short))
  | inr long ↦ inr (
    number_of payload,
    λ x.
        ap (λ b. length (cond b x (edited (drop 8 payload) (resized (number_of payload) x)))) (le-ltb _ _ long)
        ∙ length-edited (drop 8 payload) (resized (number_of payload) x) ∙ length-resized (number_of payload) x,
  )
]

both_fix : (f g : List ℕ → List ℕ) → FixesLen f → FixesLen g → FixesLen (λ x. g (f x))
both_fix f g first second = elim second [
  | inr set ↦ inr (set.0, λ x. set.1 (f x))
  | inl keep ↦ elim first [
    | inl kept ↦ inl (λ x. keep (f x) ∙ kept x)
    | inr set ↦ inr (set.0, λ x. keep (f x) ∙ set.1 x)
  ]
]

all_fix : (payloads : List (List ℕ)) → FixesLen (applied_all payloads)
all_fix [] = inl (λ x. refl)
all_fix (payload ∷ payloads) =
    both_fix (applied payload) (applied_all payloads) (payload_fixes payload) (all_fix payloads)

all_overwrite : (payloads : List (List ℕ)) → Overwrites Any (applied_all payloads)
all_overwrite [] = none_overwrites Any
all_overwrite (payload ∷ payloads) =
    both_overwrite Any Any (applied payload) (applied_all payloads) (payload_overwrites payload)
    (all_overwrite payloads) (λ x _. tt)

twice_at : (f : List ℕ → List ℕ) (i : ℕ) (x : List ℕ) → Keeps Any f i ⊎ Sets Any f i
    → get_or (f (f x)) i 0 ≡ get_or (f x) i 0
twice_at f i x (inl keep) = keep (f x) tt
twice_at f i x (inr set) = set.1 (f x) tt ∙ sym (set.1 x tt)

twice_len : (f : List ℕ → List ℕ) (x : List ℕ) → FixesLen f → length (f (f x)) ≡ length (f x)
twice_len f x (inl keep) = keep (f x)
twice_len f x (inr set) = set.1 (f x) ∙ sym (set.1 x)

-- the law
pub applied_twice : (payloads : List (List ℕ)) (x : List ℕ)
    → applied_all payloads (applied_all payloads x) ≡ applied_all payloads x
applied_twice payloads x =
    ext_get_or 0 _ _ (twice_len (applied_all payloads) x (all_fix payloads))
    (λ i _. twice_at (applied_all payloads) i x (all_overwrite payloads i))
