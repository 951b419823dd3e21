-- The reasons why the reading of an image stops: too few bytes, wrong first words, or more bytes.
use Rattle.image_check.proofs.Common.{BadMagic, BadSize, Err, ImageClass, IsShort, IsTooSmallFor, IsTrue, List, None}
use Rattle.image_check.proofs.Common.{Ok, OpenError, ReadDelta, ReadsPastEnd, Some, Stops, Truncated}
use Rattle.image_check.proofs.Common.{UnsupportedVersion, [], added, and_from, and_right, ap, arith, both_added}
use Rattle.image_check.proofs.Common.{both_ways, class_of, decided_by, failed_reads, false, front_of, has_front}
use Rattle.image_check.proofs.Common.{has_magic, has_size, has_version, if◌then◌else◌, inl, inr, is_legal_size, le-leb}
use Rattle.image_check.proofs.Common.{le-ltb, legal_size, length, length-take, lt-ltb, nat_le, nat_lt, read_delta, refl}
use Rattle.image_check.proofs.Common.{size_word, subst, sym, take, true, ℕ, ◌++◌, ◌+◌, ◌<◌, ◌∙◌, ◌∷◌, ◌≡◌, ◌≤◌}
use Rattle.std.proofs.Common.{Bool}
use Rattle.std.proofs.lemmas.Bool.{lt-leb}
use Rattle.std.proofs.lemmas.List.{length-append}
use Rattle.raw_region.specs.Answers.{AppendsProperPrefix}
use Rattle.image_check.specs.declared.errors.OpenError.TheVariants.{Image, OutOfMemory, ReadFault, RegionTooSmall}
use Rattle.image_check.specs.Classes.{DecidesClass, holds, number_of}
use Rattle.image_check.specs.Deciding.{decided}
use Rattle.image_check.specs.declared.verdict.Verdict.{Verdict}
use Rattle.image_check.proofs.reading.Deciding.{decided-none, decided-some, first_class}
use Rattle.image_check.proofs.frame.EarlyClasses.{cut-Truncated, short-Truncated}
use Rattle.image_check.proofs.reading.Fronts.{IsRight, IsRight-append, front-decided, front-wrong, front_of-append}

-- ---- the bytes of a reader

-- bytes that were read, and the counts of failed reads before and after
abbrev pub given : List ℕ → Bool → ℕ → ℕ → ReadDelta
given b ended f f' = record { bytes = b; ended = ended; failed = nat_lt f f' }

-- the work of a reader in a call, from the bytes before and after it, and the counts
abbrev pub read_since : List ℕ → List ℕ → Bool → ℕ → ℕ → ReadDelta
read_since old new ended f f' =
    read_delta (record { bytes = old; ended = ended; ends = 0; failures = f })
    (record { bytes = new; ended = ended; ends = 0; failures = f' })

-- the number of failed reads for a reason
abbrev pub rise : OpenError → ℕ
rise cause = failed_reads {T = Unit {0}} (Err cause)

-- no read failed where the count did not rise
none_failed : (f f' : ℕ) → f' ≡ f + 0 → nat_lt f f' ≡ false
none_failed f f' e = le-ltb f f' (omega arith)

pub stops_since : (format : ℕ) (old new b : List ℕ) (ended : Bool) (f f' base capacity : ℕ) (cause : OpenError)
    → new ≡ old ++ b → Stops format (given b ended f f') base capacity cause
    → Stops format (read_since old new ended f f') base capacity cause
stops_since format old new b ended f f' base capacity cause e s =
    subst (λ x. Stops format (given x ended f f') base capacity cause) (sym (added old new b e)) s

-- ---- too few bytes

-- fewer than 144 bytes decide nothing
pub short-undecided : (format : ℕ) (b : List ℕ) → length b < 144 → decided format b ≡ None
unfolding decided
short-undecided format b l = ap (λ s. decided_by s (has_magic b) (has_version format b) (has_size b))
    (lt-ltb (length b) 144 l)

-- nor do right ones, with a right size
none_by : (s : Bool) → decided_by s true true true ≡ None
none_by true = refl
none_by false = refl

right-undecided : (format : ℕ) (b : List ℕ) (size : ℕ) → IsRight format b size → length b ≤ size
    → decided format b ≡ None
unfolding decided
right-undecided format b size r l =
    let says = r.says in
    let s : has_size b ≡ true = and_from (is_legal_size (size_word b)) (nat_le (length b) (size_word b))
    (ap is_legal_size says ∙ r.legal) (le-leb (length b) (size_word b) (omega arith)) in
    let m = r.magic in
    let v = r.version in
    (λ i. decided_by (nat_lt (length b) 144) (m i) (v i) (s i)) ∙ none_by (nat_lt (length b) 144)

-- a reader failed where nothing is decided
fault_stops : (format : ℕ) (b : List ℕ) (ended : Bool) (f f' base capacity : ℕ) → decided format b ≡ None
    → (IsTooSmallFor format (given b ended f f') base capacity → ⊥) → f' ≡ f + 1
    → Stops format (given b ended f f') base capacity ReadFault
fault_stops format b ended f f' base capacity d n g = record {
  why = record { failed = lt-ltb f f' (omega arith); open_class = decided-none format b d };
  too_small = λ t. absurd (n t);
  early = refl;
}

-- there are too few bytes, and they decide nothing
short_stops : (format : ℕ) (b : List ℕ) (ended : Bool) (f f' base capacity : ℕ) (cause : OpenError)
    → IsTrue (holds format b Truncated) → decided format b ≡ None
    → (IsTooSmallFor format (given b ended f f') base capacity → ⊥) → IsShort ended cause → f' ≡ f + rise cause
    → Stops format (given b ended f f') base capacity cause
short_stops format b ended f f' base capacity (Image v) t d n h g = record {
  why = record {
    sound = none_failed f f' g;
    right = inl (h.1, subst (λ c. class_of format b ≡ Some c) (sym h.0) (first_class (holds format b) t));
  };
  too_small = λ s. absurd (n s);
  early = ap (λ c. nat_lt 7 (number_of c)) h.0;
}
short_stops format b ended f f' base capacity RegionTooSmall t d n h g = absurd h
short_stops format b ended f f' base capacity (OutOfMemory refusal) t d n h g = absurd h
short_stops format b ended f f' base capacity ReadFault t d n h g = fault_stops format b ended f f' base capacity d n g

-- ---- in the first 24 bytes, and in the others where these are wrong

-- the length of a front
some_taken : (n count : ℕ) (xs : List ℕ) → length xs ≡ n → count < length xs → length (take count xs) < n
some_taken n count xs e l = let cut = length-take count xs in omega arith

-- too few bytes for a front: the reading stops
pub front_stops : (format : ℕ) (old new xs : List ℕ) (ended : Bool) (f f' base capacity : ℕ) (cause : OpenError)
    → length xs ≡ 24 → AppendsProperPrefix old new xs → IsShort ended cause → f' ≡ f + rise cause
    → Stops format (read_since old new ended f f') base capacity cause
front_stops format old new xs ended f f' base capacity cause l a s g =
    let b : List ℕ = take a.count xs in
    let less = some_taken 24 a.count xs l a.fewer in
    stops_since format old new b ended f f' base capacity cause a.added
    (short_stops format b ended f f' base capacity cause (short-Truncated format b (omega arith))
    (short-undecided format b (omega arith)) (λ t. let many = t.read in omega arith) s g)

-- without a legal size no region is too small
none_too_small : (format : ℕ) (b : List ℕ) (ended : Bool) (f f' base capacity : ℕ) (c : ImageClass)
    → front_of format b ≡ Err c → IsTooSmallFor format (given b ended f f') base capacity → ⊥
none_too_small format b ended f f' base capacity c e t =
    both_ways (has_front format b) (front-wrong format b c e) t.front

-- a wrong front: the reading stops
pub wrong_front_stops : (format : ℕ) (old mid new front xs : List ℕ) (ended : Bool) (f f' base capacity : ℕ)
    (c : ImageClass) (cause : OpenError) → length front ≡ 24 → length xs ≡ 120 → mid ≡ old ++ front
    → front_of format front ≡ Err c → AppendsProperPrefix mid new xs → IsShort ended cause → f' ≡ f + rise cause
    → Stops format (read_since old new ended f f') base capacity cause
wrong_front_stops format old mid new front xs ended f f' base capacity c cause l k e w a s g =
    let b : List ℕ = front ++ take a.count xs in
    let less = some_taken 120 a.count xs k a.fewer in
    let both = length-append front (take a.count xs) in
    stops_since format old new b ended f f' base capacity cause
    (both_added old mid new front (take a.count xs) e a.added)
    (short_stops format b ended f f' base capacity cause (short-Truncated format b (omega arith))
    (short-undecided format b (omega arith))
    (none_too_small format b ended f f' base capacity c
    (front_of-append format front (take a.count xs) (omega arith) ∙ w)) s g)

-- the class of wrong first words is none from the eighth on
early-by : (m v l : Bool) (n : ℕ) (c : ImageClass)
    → (if m then (if v then (if l then Ok n else Err BadSize) else Err UnsupportedVersion) else Err BadMagic) ≡ Err c
    → nat_lt 7 (number_of c) ≡ false
early-by true true true n c e = absurd (cc)
early-by true true false n c e = let same : BadSize ≡ c = cc in ap (λ k. nat_lt 7 (number_of k)) (sym same)
early-by true false l n c e = let same : UnsupportedVersion ≡ c = cc in ap (λ k. nat_lt 7 (number_of k)) (sym same)
early-by false v l n c e = let same : BadMagic ≡ c = cc in ap (λ k. nat_lt 7 (number_of k)) (sym same)

-- the class of a front is an early one
pub front-early : (format : ℕ) (b : List ℕ) (c : ImageClass) → front_of format b ≡ Err c
    → nat_lt 7 (number_of c) ≡ false
front-early format b c e =
    early-by (has_magic b) (has_version format b) (is_legal_size (size_word b)) (size_word b) c e

-- with 144 bytes the wrong front decides
pub wrong_front_decides : (format : ℕ) (old mid new front xs : List ℕ) (ended : Bool) (f f' base capacity : ℕ)
    (v : Verdict) → length front ≡ 24 → length xs ≡ 120 → mid ≡ old ++ front
    → front_of format front ≡ Err v.class → new ≡ mid ++ xs → f' ≡ f + 0
    → Stops format (read_since old new ended f f') base capacity (Image v)
wrong_front_decides format old mid new front xs ended f f' base capacity v l k e w a g =
    let b : List ℕ = front ++ xs in
    let both = length-append front xs in
    let wrong = front_of-append format front xs (omega arith) ∙ w in
    stops_since format old new b ended f f' base capacity (Image v) (both_added old mid new front xs e a)
    (record {
      why = record {
        sound = none_failed f f' g;
        right = inr (decided-some format b v.class (front-decided format b v.class (omega arith) wrong));
      };
      too_small = λ t. absurd (none_too_small format b ended f f' base capacity v.class wrong t);
      early = front-early format front v.class w;
    })

-- ---- after a right front

-- the region has room for the size in the bytes
table_for : (format : ℕ) (b : List ℕ) (size : ℕ) (ended : Bool) (f f' base capacity : ℕ) → IsRight format b size
    → base + size ≤ capacity → IsTooSmallFor format (given b ended f f') base capacity → ⊥
table_for format b size ended f f' base capacity r l t = let says = r.says in let small = t.small in omega arith

-- too few bytes after the front: the reading stops
pub rest_stops : (format : ℕ) (old mid new front xs : List ℕ) (size : ℕ) (ended : Bool) (f f' base capacity : ℕ)
    (cause : OpenError) → IsRight format front size → length front + length xs ≡ size → base + size ≤ capacity
    → mid ≡ old ++ front → AppendsProperPrefix mid new xs → IsShort ended cause → f' ≡ f + rise cause
    → Stops format (read_since old new ended f f') base capacity cause
rest_stops format old mid new front xs size ended f f' base capacity cause r l room e a s g =
    let b : List ℕ = front ++ take a.count xs in
    let fewer = a.fewer in
    let cut = length-take a.count xs in
    let both = length-append front (take a.count xs) in
    let right = IsRight-append format front (take a.count xs) size r in
    let says = right.says in
    stops_since format old new b ended f f' base capacity cause
    (both_added old mid new front (take a.count xs) e a.added)
    (short_stops format b ended f f' base capacity cause
    (cut-Truncated format b right.magic right.version (ap is_legal_size says ∙ right.legal) (omega arith))
    (right-undecided format b size right (omega arith))
    (table_for format b size ended f f' base capacity right room) s g)

-- more bytes than the size are a wrong size
pub more-decided : (format : ℕ) (b : List ℕ) (size : ℕ) → IsRight format b size → size < length b
    → decided format b ≡ Some BadSize
unfolding decided
more-decided format b size r l =
    let says = r.says in
    let least = (legal_size size r.legal).low in
    let m = r.magic in
    let v = r.version in
    let long : nat_lt (length b) 144 ≡ false = le-ltb (length b) 144 (omega arith) in
    let s : has_size b ≡ false = and_right (is_legal_size (size_word b)) (nat_le (length b) (size_word b))
    (lt-leb (length b) (size_word b) (omega arith)) in
    λ i. decided_by (long i) (m i) (v i) (s i)

-- the image is whole, and the reader does not end
pub whole_stops : (format : ℕ) (old mid new b : List ℕ) (size : ℕ) (ended : Bool) (f f' base capacity : ℕ)
    (cause : OpenError) → IsRight format b size → length b ≡ size → base + size ≤ capacity
    → mid ≡ old ++ b → ReadsPastEnd mid new cause → f' ≡ f + rise cause
    → Stops format (read_since old new ended f f') base capacity cause
whole_stops format old mid new b size ended f f' base capacity ReadFault r l room e h g =
    stops_since format old new b ended f f' base capacity ReadFault (h ∙ e)
    (fault_stops format b ended f f' base capacity (right-undecided format b size r (omega arith))
    (table_for format b size ended f f' base capacity r room) g)
whole_stops format old mid new b size ended f f' base capacity RegionTooSmall r l room e h g = absurd h
whole_stops format old mid new b size ended f f' base capacity (OutOfMemory refusal) r l room e h g = absurd h
whole_stops format old mid new b size ended f f' base capacity (Image v) r l room e h g =
    let one : List ℕ = h.1.0 ∷ [] in
    let both : length (b ++ one) ≡ length b + 1 = length-append b one in
    let right = IsRight-append format b one size r in
    let decides = decided-some format (b ++ one) BadSize (more-decided format (b ++ one) size right (omega arith)) in
    stops_since format old new (b ++ one) ended f f' base capacity (Image v) (both_added old mid new b one e h.1.1)
    (record {
      why = record {
        sound = none_failed f f' g;
        right = inr (subst (DecidesClass format (b ++ one)) (sym h.0) decides);
      };
      too_small = λ t. absurd (table_for format (b ++ one) size ended f f' base capacity right room t);
      early = ap (λ c. nat_lt 7 (number_of c)) h.0;
    })
