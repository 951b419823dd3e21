-- Edits in a buffer that has an image and zeros behind it.
use Rattle.std.proofs.Common.{◌≡◌, ℕ, ◌+◌, ◌-◌, ◌<◌, ◌≤◌, max, List, [], ◌∷◌, ◌++◌, length, take, drop, cond}
use Rattle.std.proofs.Common.{refl, sym, ◌∙◌, ap, subst, arith, append_assoc, length-append, length-drop}
use Rattle.std.proofs.Common.{inl, inr, Some, None}
use Rattle.std.proofs.lemmas.Bool.{cases_lt, lt-ltb, le-ltb}
use Rattle.std.proofs.lemmas.List.{take_at, drop_at, take-append-le, take_all, drop-drop, length-take-le}
use Rattle.segment_log.specs.Records.{number_of, zeros, next_at, recovered}
use Rattle.segment_log.specs.Edits.{resized, edited, applied, applied_all, len_after, lens_after, most_len, Holds}
use Rattle.segment_log.proofs.records.Pieces.{length-zeros, zeros_split}
use Rattle.segment_log.proofs.records.Reading.{recovered_some, recovered_none}
use Rattle.segment_log.proofs.edits.Twice.{length-edited, length-resized}

-- ---- lengths

-- a payload that is too short makes nothing
pub applied_short : (payload x : List ℕ) → length payload < 8 → applied payload x ≡ x
applied_short payload x short = ap (λ b. cond b x (edited (drop 8 payload) (resized (number_of payload) x)))
    (lt-ltb _ _ short)

-- another one resizes the image, and makes its edits
pub applied_long : (payload x : List ℕ) → 8 ≤ length payload
    → applied payload x ≡ edited (drop 8 payload) (resized (number_of payload) x)
applied_long payload x long = ap (λ b. cond b x (edited (drop 8 payload) (resized (number_of payload) x)))
    (le-ltb _ _ long)

pub len_short : (payload : List ℕ) (n : ℕ) → length payload < 8 → len_after payload n ≡ n
len_short payload n short = ap (λ b. cond b n (number_of payload)) (lt-ltb _ _ short)

pub len_long : (payload : List ℕ) (n : ℕ) → 8 ≤ length payload → len_after payload n ≡ number_of payload
len_long payload n long = ap (λ b. cond b n (number_of payload)) (le-ltb _ _ long)

-- how long an image is after a payload
pub length-applied : (payload x : List ℕ) → length (applied payload x) ≡ len_after payload (length x)
length-applied payload x = elim (cases_lt (length payload) 8) [
  | inl short ↦ ap length (applied_short payload x short) ∙ sym (len_short payload (length x) short)
  | inr long ↦ ap length (applied_long payload x long) ∙ length-edited (drop 8 payload) (resized (number_of payload) x)
      ∙ length-resized (number_of payload) x ∙ sym (len_long payload (length x) long)
]

-- how long it is after payloads
pub length-applied_all : (payloads : List (List ℕ)) (x : List ℕ)
    → length (applied_all payloads x) ≡ lens_after payloads (length x)
length-applied_all [] x = refl
length-applied_all (p ∷ payloads) x =
    length-applied_all payloads (applied p x) ∙ ap (lens_after payloads) (length-applied p x)

-- the last payload comes last
pub lens_last : (payloads : List (List ℕ)) (payload : List ℕ) (n : ℕ)
    → lens_after (payloads ++ payload ∷ []) n ≡ len_after payload (lens_after payloads n)
lens_last [] payload n = refl
lens_last (p ∷ payloads) payload n = lens_last payloads payload (len_after p n)

-- the most bytes are no fewer than those at first
pub most_first : (payloads : List (List ℕ)) (n : ℕ) → n ≤ most_len payloads n
most_first [] n = omega arith
most_first (p ∷ payloads) n = omega arith

-- and than those at last
pub most_last : (payloads : List (List ℕ)) (n : ℕ) → lens_after payloads n ≤ most_len payloads n
most_last [] n = omega arith
most_last (p ∷ payloads) n = omega (arith, most_last payloads (len_after p n))

-- the most bytes of a log with a record
pub most_step : (log payload rest : List ℕ) (n : ℕ) → next_at 4096 log ≡ Some (payload, rest)
    → most_len (recovered log) n ≡ max n (most_len (recovered rest) (len_after payload n))
most_step log payload rest n is = ap (λ (ps : List (List ℕ)). most_len ps n) (recovered_some 4096 log payload rest is)

-- and of one without
pub most_none : (log : List ℕ) (n : ℕ) → next_at 4096 log ≡ None → most_len (recovered log) n ≡ n
most_none log n is = ap (λ (ps : List (List ℕ)). most_len ps n) (recovered_none 4096 log is)

-- ---- what a buffer holds

module _ (buffer image : List ℕ) (holds : Holds buffer image) where
  -- the image lies within
  pub held_within : length image ≤ length buffer
  held_within =
      omega (
        arith,
        ap length holds,
        length-append image (zeros (length buffer - length image)),
        length-zeros (length buffer - length image),
      )

  -- its front
  pub held_front : (n : ℕ) → length image ≡ n → take n buffer ≡ image
  held_front n is = ap (λ (l : List ℕ). take n l) holds ∙ take_at image (zeros (length buffer - length image)) n is

  -- what stands behind the image
  pub held_back : (n : ℕ) → length image ≡ n → drop n buffer ≡ zeros (length buffer - length image)
  held_back n is = ap (λ (l : List ℕ). drop n l) holds ∙ drop_at image (zeros (length buffer - length image)) n is

-- an image with any zeros behind it
pub holds_with : (buffer image : List ℕ) (n : ℕ) → buffer ≡ image ++ zeros n → Holds buffer image
holds_with buffer image n is =
    let rest : n ≡ length buffer - length image =
    omega (arith, ap length is, length-append image (zeros n), length-zeros n) in
    is ∙ ap (λ k. image ++ zeros k) rest

resized_with : (image : List ℕ) (len n : ℕ)
    → take len image ++ zeros ((len - length image) + n) ≡ resized len image ++ zeros n
resized_with image len n =
    ap (λ (l : List ℕ). take len image ++ l) (zeros_split (len - length image) n)
    ∙ sym (append_assoc (take len image) (zeros (len - length image)) (zeros n))

-- an image that is cut, with zeros where its end was
pub holds_cut : (buffer image : List ℕ) (from len : ℕ) → length image ≡ from → len < from → Holds buffer image
    → Holds (take len buffer ++ (zeros (from - len) ++ drop from buffer)) (resized len image)
holds_cut buffer image from len is cut holds =
    let rest : ℕ = length buffer - length image in
    let front : take len buffer ≡ take len image = ap (λ (l : List ℕ). take len l) holds
    ∙ take-append-le len image (zeros rest) (omega (arith, is)) in
    let sum : (from - len) + rest ≡ (len - length image) + ((from - len) + rest) = omega (arith, is) in
    holds_with _ (resized len image) ((from - len) + rest)
    ((λ i. front i ++ (zeros (from - len) ++ held_back buffer image holds from is i))
    ∙ ap (λ (l : List ℕ). take len image ++ l) (sym (zeros_split (from - len) rest) ∙ ap zeros sum)
    ∙ resized_with image len ((from - len) + rest))

-- the same, with the bytes as a write to a part leaves them
pub holds_cut_by : (buffer image put : List ℕ) (from len : ℕ) → length image ≡ from → len < from
    → from ≤ length buffer → put ≡ zeros (length (take (from - len) (drop len buffer))) → Holds buffer image
    → Holds (take len buffer ++ (put ++ drop (from - len) (drop len buffer))) (resized len image)
holds_cut_by buffer image put from len is cut room puts holds =
    let here : length (take (from - len) (drop len buffer)) ≡ from - len =
    length-take-le (from - len) (drop len buffer) (omega (arith, length-drop len buffer)) in
    let sum : len + (from - len) ≡ from = omega arith in
    let whole : take len buffer ++ (put ++ drop (from - len) (drop len buffer)) ≡ take len buffer ++
    (zeros (from - len) ++ drop from buffer) =
    λ i. take len buffer ++ ((puts ∙ ap zeros here) i ++ (drop-drop (from - len) len buffer
    ∙ ap (λ (m : ℕ). drop m buffer) sum) i) in
    subst (λ (l : List ℕ). Holds l (resized len image)) (sym whole) (holds_cut buffer image from len is cut holds)

-- an image that is as long or longer takes zeros of those behind it
pub holds_longer : (buffer image : List ℕ) (len : ℕ) → length image ≤ len → len ≤ length buffer → Holds buffer image
    → Holds buffer (resized len image)
holds_longer buffer image len longer room holds =
    let sum : length buffer - length image ≡ (len - length image) + (length buffer - len) = omega arith in
    holds_with buffer (resized len image) (length buffer - len)
    (holds ∙ (λ i. sym (take_all len image longer) i ++ zeros (sum i)) ∙ resized_with image len (length buffer - len))

-- edits of the image's bytes alone
pub holds_edited : (buffer image text : List ℕ) (n : ℕ) → length image ≡ n → Holds buffer image
    → Holds (edited text (take n buffer) ++ drop n buffer) (edited text image)
holds_edited buffer image text n is holds =
    holds_with _ (edited text image) (length buffer - length image)
    (λ i. edited text (held_front buffer image holds n is i) ++ held_back buffer image holds n is i)

-- the same, for the edits of a payload, in a buffer whose image has the payload's length
pub holds_applied : (buffer image payload text put : List ℕ) (made : ℕ) → 8 ≤ length payload → made ≡ number_of payload
    → text ≡ drop 8 payload → put ≡ edited text (take made buffer) → Holds buffer (resized made image)
    → Holds (put ++ drop made buffer) (applied payload image)
holds_applied buffer image payload text put made long is is_text puts holds =
    let done = holds_edited buffer (resized made image) (drop 8 payload) made (length-resized made image) holds in
    let front : put ≡ edited (drop 8 payload) (take made buffer) = puts
    ∙ ap (λ (t : List ℕ). edited t (take made buffer)) is_text in
    let all : applied payload image ≡ edited (drop 8 payload) (resized made image) =
    applied_long payload image long ∙ ap (λ (n : ℕ). edited (drop 8 payload) (resized n image)) (sym is) in
    subst (λ (l : List ℕ). Holds (l ++ drop made buffer) (applied payload image)) (sym front)
    (subst (λ (l : List ℕ). Holds (edited (drop 8 payload) (take made buffer) ++ drop made buffer) l) (sym all) done)
