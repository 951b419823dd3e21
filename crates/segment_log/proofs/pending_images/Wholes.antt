-- The parts of a whole pending file.
use Rattle.std.proofs.Common.{◌≡◌, ℕ, ◌+◌, ◌-◌, ◌≤◌, List, ◌++◌, length, take, drop, refl, sym, ◌∙◌, ap, arith}
use Rattle.std.proofs.Common.{length-append, length-drop, take-append-drop}
use Rattle.std.proofs.lemmas.List.{drop-drop, drop_at, length-take-le, take_at, take_rest}
use Rattle.segment_log.specs.Fingerprints.{fingerprint}
use Rattle.segment_log.specs.PendingImages.{pending_head, pending_tail, pending_text}
use Rattle.segment_log.specs.Records.{number_bytes}
use Rattle.segment_log.proofs.records.Reading.{length-number}

-- how many bytes stand behind the image
length-tail : (len id : ℕ) → length (pending_tail len id) ≡ 16
length-tail len id = omega (
  arith,
  length-append (number_bytes len) (number_bytes id),
  length-number len,
  length-number id,
)

-- how many bytes a whole pending file has
pub length-pending : (image : List ℕ) → length (pending_text image) ≡ 32 + length image
unfolding pending_text
length-pending image = omega (
  arith,
  length-append pending_head (image ++ pending_tail (length image) (fingerprint image)),
  length-append image (pending_tail (length image) (fingerprint image)),
  length-tail (length image) (fingerprint image),
)

-- what stands in front of the image
pub head_of_pending : (image : List ℕ) → take 16 (pending_text image) ≡ pending_head
unfolding pending_text
head_of_pending image = take_at pending_head (image ++ pending_tail (length image) (fingerprint image)) 16 refl

-- the image, and what stands behind it
pub behind_head : (image : List ℕ)
    → drop 16 (pending_text image) ≡ image ++ pending_tail (length image) (fingerprint image)
unfolding pending_text
behind_head image = drop_at pending_head (image ++ pending_tail (length image) (fingerprint image)) 16 refl

-- the image alone
pub image_of_pending : (image : List ℕ) (n : ℕ) → length image ≡ n → take n (drop 16 (pending_text image)) ≡ image
image_of_pending image n len =
    ap (λ (l : List ℕ). take n l) (behind_head image)
    ∙ take_at image (pending_tail (length image) (fingerprint image)) n len

-- what stands behind the image
pub tail_of_pending : (image : List ℕ) (n : ℕ) → length image ≡ n
    → drop (16 + n) (pending_text image) ≡ pending_tail (length image) (fingerprint image)
tail_of_pending image n len =
    sym (drop-drop n 16 (pending_text image)) ∙ ap (λ (l : List ℕ). drop n l) (behind_head image)
    ∙ drop_at image (pending_tail (length image) (fingerprint image)) n len

-- bytes with these parts are a whole pending file
pub whole_pending : (bytes : List ℕ) (n : ℕ) → length bytes ≡ 32 + n → take 16 bytes ≡ pending_head
    → drop (16 + n) bytes ≡ pending_tail n (fingerprint (take n (drop 16 bytes)))
    → bytes ≡ pending_text (take n (drop 16 bytes))
unfolding pending_text
whole_pending bytes n len head tail =
    let image : List ℕ = take n (drop 16 bytes) in
    let size : length image ≡ n = length-take-le n (drop 16 bytes) (omega (arith, len, length-drop 16 bytes)) in
    let behind : drop 16 bytes ≡ image ++ pending_tail (length image) (fingerprint image) =
    sym (take-append-drop n (drop 16 bytes))
    ∙ ap (λ (l : List ℕ). image ++ l) (drop-drop n 16 bytes ∙ tail
    ∙ ap (λ (k : ℕ). pending_tail k (fingerprint image)) (sym size)) in
    sym (take-append-drop 16 bytes) ∙ (λ i. head i ++ behind i)

-- two whole pending files of the same bytes have the same image
pub pending_inj : (a b : List ℕ) → pending_text a ≡ pending_text b → a ≡ b
pending_inj a b same =
    let len : length a ≡ length b = omega (arith, ap length same, length-pending a, length-pending b) in
    sym (image_of_pending a (length b) len) ∙ ap (λ (l : List ℕ). take (length b) (drop 16 l)) same
    ∙ image_of_pending b (length b) refl

-- the bytes between the first 16 and the last 16
abbrev pub middle : List ℕ → List ℕ
middle bytes = take (length bytes - 16 - 16) (drop 16 bytes)

-- the last 16 bytes
abbrev pub last_16 : List ℕ → List ℕ
last_16 bytes = take (length bytes - (length bytes - 16)) (drop (length bytes - 16) bytes)

-- bytes with the right first and last bytes are a whole pending file
pub whole_by_ends : (bytes tail : List ℕ) → 32 ≤ length bytes → take 16 bytes ≡ pending_head → last_16 bytes ≡ tail
    → tail ≡ pending_tail (length (middle bytes)) (fingerprint (middle bytes)) → bytes ≡ pending_text (middle bytes)
whole_by_ends bytes tail long head last is =
    let n : ℕ = length bytes - 16 - 16 in
    let size : length (middle bytes) ≡ n =
    length-take-le n (drop 16 bytes) (omega (arith, length-drop 16 bytes, long)) in
    let at : 16 + n ≡ length bytes - 16 = omega (arith, long) in
    whole_pending bytes n (omega (arith, long)) head
    (ap (λ (k : ℕ). drop k bytes) at ∙ sym (take_rest bytes (length bytes - 16)) ∙ last ∙ is
    ∙ ap (λ (k : ℕ). pending_tail k (fingerprint (middle bytes))) size)

-- the last bytes of a whole pending file are right
pub tail_told : (bytes image : List ℕ) → bytes ≡ pending_text image
    → last_16 bytes ≡ pending_tail (length (middle bytes)) (fingerprint (middle bytes))
tail_told bytes image is =
    let len : length bytes ≡ 32 + length image = ap length is ∙ length-pending image in
    let at : length bytes - 16 ≡ 16 + length image = omega (arith, len) in
    let inner : middle bytes ≡ image =
    ap (λ (l : List ℕ). take (length bytes - 16 - 16) (drop 16 l)) is
    ∙ image_of_pending image (length bytes - 16 - 16) (omega (arith, len)) in
    take_rest bytes (length bytes - 16) ∙ (λ i. drop (at i) (is i)) ∙ tail_of_pending image (length image) refl
    ∙ ap (λ (l : List ℕ). pending_tail (length l) (fingerprint l)) (sym inner)
