-- A window whose first 24 bytes are read, and whose others are read after them.
use Rattle.image_check.proofs.Common.{Err, HasFront, IfErr, IsShort, List, Ok, OpenError, ReadsPastEnd, Result, Stops}
use Rattle.image_check.proofs.Common.{WindowState, [], and_parts, ap, arith, both_added, drop, eqb-true, failed_reads}
use Rattle.image_check.proofs.Common.{has_magic, has_version, is_legal_size, legal_size, length, length-take, part}
use Rattle.image_check.proofs.Common.{patched, size_word, take, ℕ, ◌&&◌, ◌++◌, ◌+◌, ◌-◌, ◌∙◌, ◌≡◌, ◌≤◌}
use Rattle.std.proofs.Common.{Bool}
use Rattle.std.specs.List.{refill}
use Rattle.std.proofs.lemmas.List.{append-nil, drop_all, length-append}
use Rattle.raw_region.specs.Answers.{AppendsProperPrefix}
use Rattle.raw_region.specs.Memory.{whole}
use Rattle.raw_region.proofs.Laws.{refill-all}
use Rattle.image_check.specs.Formats.{version_word}
use Rattle.image_check.proofs.reading.Fronts.{IsRight, IsRight-append, IsRight-take, has_front-IsRight}
use Rattle.image_check.proofs.reading.Stops.{read_since, rest_stops, rise, whole_stops}

-- the first words of a window, and its length
pub HasFront-IsRight : (format : ℕ) (w : WindowState) → HasFront format w → IsRight format w.bytes (length w.bytes)
HasFront-IsRight format w h =
    let legal = (and_parts (has_magic w.bytes && has_version format w.bytes) (is_legal_size (size_word w.bytes))
    h.right).1 in
    let least = (legal_size (size_word w.bytes) legal).low in
    let says = h.says in
    has_front-IsRight format w.bytes (length w.bytes) (omega arith) h.right says

-- the first bytes have the format
pub HasFront-version : (format : ℕ) (w : WindowState) (v : ℕ) → HasFront format w → v ≡ version_word w.bytes
    → v ≡ format
HasFront-version format w v h said = said ∙ eqb-true (version_word w.bytes) format (HasFront-IsRight format w h).version

-- an image with a right front has at least 144 bytes
pub HasFront-least : (format : ℕ) (w : WindowState) → HasFront format w → 144 ≤ length w.bytes
HasFront-least format w h = (legal_size (length w.bytes) (HasFront-IsRight format w h).legal).low

-- as many bytes as were lent make up the rest
pub rest-filled : (b ws : List ℕ) (n : ℕ) → 24 ≤ length b → n ≡ length b → length ws ≡ n - 24
    → patched b 24 (refill (n - 24) (part b 24 (n - 24)) ws) ≡ take 24 b ++ ws
rest-filled b ws n l e f =
    let none : drop (24 + length ws) b ≡ [] = drop_all (24 + length ws) b (omega arith) in
    ap (patched b 24) (refill-all (n - 24) (part b 24 (n - 24)) ws f) ∙ ap (λ x. take 24 b ++ ws ++ x) none
    ∙ append-nil (take 24 b ++ ws)

-- they are as long as the window
pub front-length : (b ws : List ℕ) (n : ℕ) → 24 ≤ length b → n ≡ length b → length ws ≡ n - 24
    → length (take 24 b ++ ws) ≡ length b
front-length b ws n l e f = let both = length-append (take 24 b) ws in let cut = length-take 24 b in omega arith

-- a region has room for its window
pub whole-room : (w : WindowState) → length w.before + length w.bytes ≤ length (whole w)
whole-room w =
    let c = length-append (w.before ++ w.bytes) w.after in
    let d = length-append w.before w.bytes in
    omega arith

-- too few bytes were read
pub filled_short : (format : ℕ) (w : WindowState) (start mid new ws : List ℕ) (n : ℕ) (ended : Bool) (f f' : ℕ)
    (cause : OpenError) → HasFront format w → n ≡ length w.bytes → length ws ≡ n - 24 → mid ≡ start ++ take 24 w.bytes
    → AppendsProperPrefix mid new ws → IsShort ended cause → f' ≡ f + rise cause
    → Stops format (read_since start new ended f f') (length w.before) (length (whole w)) cause
filled_short format w start mid new ws n ended f f' cause h e l s a i g =
    let least = HasFront-least format w h in
    let cut = length-take 24 w.bytes in
    rest_stops format start mid new (take 24 w.bytes) ws (length w.bytes) ended f f' (length w.before)
    (length (whole w)) cause (IsRight-take format w.bytes (length w.bytes) (HasFront-IsRight format w h)) (omega arith)
    (whole-room w) s a i g

-- all bytes were read, and the reader did not end
pub filled_whole : (w : WindowState) (old mid new ws : List ℕ) (n : ℕ) (ended : Bool) (f g f' : ℕ)
    (r : Result (Unit {0}) OpenError) → 144 ≤ length w.bytes → n ≡ length w.bytes → length ws ≡ n - 24
    → mid ≡ old ++ ws → g ≡ f + 0
    → IfErr r (ReadsPastEnd mid new) → f' ≡ g + failed_reads r
    → IfErr r (λ cause. (format : ℕ) → HasFront format w → (start : List ℕ) → old ≡ start ++ take 24 w.bytes
    → Stops format (read_since start new ended f f') (length w.before) (length (whole w)) cause)
filled_whole w old mid new ws n ended f g f' (Ok u) least e l s k a c = tt
filled_whole w old mid new ws n ended f g f' (Err cause) least e l s k a c = λ format h start t.
    whole_stops format start mid new (take 24 w.bytes ++ ws) (length w.bytes) ended f f' (length w.before)
    (length (whole w)) cause
    (IsRight-append format (take 24 w.bytes) ws (length w.bytes)
    (IsRight-take format w.bytes (length w.bytes) (HasFront-IsRight format w h)))
    (front-length w.bytes ws n (omega arith) e l) (whole-room w) (both_added start old mid (take 24 w.bytes) ws t s)
    a (omega arith)
