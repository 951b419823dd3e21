-- Which file a log belongs to.
use Rattle.std.proofs.Common.{◌≡◌, ◌≢◌, ℕ, ◌<◌, ◌≤◌, List, [], ◌∷◌, ◌++◌, length, drop, Bool, true, false, ◌&&◌, ◌||◌}
use Rattle.std.proofs.Common.{◌==◌, nat_le, Some, None, refl, sym, ◌∙◌, ap, subst}
use Rattle.std.proofs.lemmas.Bool.{le-leb, lt-leb}
use Rattle.segment_log.specs.Records.{number_of, next_at, recovered}
use Rattle.segment_log.specs.Tags.{tag_of, base_of, after_of, names_base, names_image, names_after, belongs, fits}
use Rattle.segment_log.specs.Tags.{CommitKeepsOwn, CheckpointKeepsOwn}
use Rattle.segment_log.proofs.records.Reading.{recovered_none, recovered_some}

or_true : (a : Bool) → (a || true) ≡ true
or_true true = refl
or_true false = refl

or_prefix : (a b : Bool) → a ≡ true → (a || b) ≡ true
or_prefix a b is = ap (λ x. x || b) is

-- a choice whose second part holds, holds
pub or_back : (a b : Bool) → b ≡ true → (a || b) ≡ true
or_back a b is = ap (λ x. a || x) is ∙ or_true a

or_more : (a b c : Bool) → (b ≡ true → c ≡ true) → (a || b) ≡ true → (a || c) ≡ true
or_more true b c more is = refl
or_more false b c more is = more is

-- a payload that names an image does so as the last one
pub last_named : (id : ℕ) (payloads : List (List ℕ)) (payload : List ℕ) → names_image id payload ≡ true
    → names_after id (payloads ++ payload ∷ []) ≡ true
last_named id [] payload is = or_prefix (names_image id payload) false is
last_named id (q ∷ qs) payload is =
    or_back (names_image id q) (names_after id (qs ++ payload ∷ [])) (last_named id qs payload is)

still_named : (id : ℕ) (payloads : List (List ℕ)) (payload : List ℕ) → names_after id payloads ≡ true
    → names_after id (payloads ++ payload ∷ []) ≡ true
still_named id [] payload is = absurd (cc (is))
still_named id (q ∷ qs) payload is =
    or_more (names_image id q) (names_after id qs) (names_after id (qs ++ payload ∷ [])) (still_named id qs payload) is

-- a log belongs to its file after a commit
pub commit_keeps_own : CommitKeepsOwn
commit_keeps_own id [] payload is first = or_prefix (names_base id payload) (names_after id (payload ∷ [])) (first refl)
commit_keeps_own id (q ∷ qs) payload is first =
    or_more (names_base id q) (names_after id (q ∷ qs)) (names_after id ((q ∷ qs) ++ payload ∷ []))
    (still_named id (q ∷ qs) payload) is

-- a log belongs to the file of a checkpoint
pub checkpoint_keeps_own : CheckpointKeepsOwn
checkpoint_keeps_own id [] payload is =
    or_back (names_base id payload) (names_after id (payload ∷ [])) (last_named id [] payload is)
checkpoint_keeps_own id (q ∷ qs) payload is =
    or_back (names_base id q) (names_after id ((q ∷ qs) ++ payload ∷ [])) (last_named id (q ∷ qs) payload is)

-- ---- what the code tests

test_true : (tag : List ℕ) (n number id : ℕ) → 16 ≤ length tag → n ≡ number
    → (n == id) ≡ (nat_le 16 (length tag) && (number == id))
test_true tag n number id long is = ap (λ k. k == id) is
    ∙ sym (ap (λ b. b && (number == id)) (le-leb 16 (length tag) long))

test_false : (tag : List ℕ) (number id : ℕ) → length tag < 16
    → nat_le 16 (length tag) ≡ (nat_le 16 (length tag) && (number == id))
test_false tag number id short =
    let no : nat_le 16 (length tag) ≡ false = lt-leb 16 (length tag) short in
    no ∙ sym (ap (λ b. b && (number == id)) no)

-- the test of a tag that is long enough, for the file
pub base_true : (payload tag : List ℕ) (n id : ℕ) → tag ≡ tag_of payload → 16 ≤ length tag → n ≡ number_of tag
    → (n == id) ≡ names_base id payload
unfolding names_base
base_true payload tag n id is long number =
    test_true (tag_of payload) n (base_of payload) id (subst (λ t. 16 ≤ length t) is long) (number ∙ ap number_of is)

-- the test of a tag that is too short, for the file
pub base_false : (payload tag : List ℕ) (id : ℕ) → tag ≡ tag_of payload → length tag < 16
    → nat_le 16 (length tag) ≡ names_base id payload
unfolding names_base
base_false payload tag id is short = ap (λ t. nat_le 16 (length t)) is
    ∙ test_false (tag_of payload) (base_of payload) id (subst (λ t. length t < 16) is short)

-- the test of a tag that is long enough, for the image
pub image_true : (payload tag : List ℕ) (n id : ℕ) → tag ≡ tag_of payload → 16 ≤ length tag
    → n ≡ number_of (drop 8 tag) → (n == id) ≡ names_image id payload
unfolding names_image
image_true payload tag n id is long number =
    test_true (tag_of payload) n (after_of payload) id (subst (λ t. 16 ≤ length t) is long) (number
    ∙ ap (λ t. number_of (drop 8 t)) is)

-- the test of a tag that is too short, for the image
pub image_false : (payload tag : List ℕ) (id : ℕ) → tag ≡ tag_of payload → length tag < 16
    → nat_le 16 (length tag) ≡ names_image id payload
unfolding names_image
image_false payload tag id is short = ap (λ t. nat_le 16 (length t)) is
    ∙ test_false (tag_of payload) (after_of payload) id (subst (λ t. length t < 16) is short)

pub named_none : (id : ℕ) (log : List ℕ) → next_at 4096 log ≡ None → names_after id (recovered log) ≡ false
named_none id log none = ap (names_after id) (recovered_none 4096 log none)

-- the first payload names the image, or one of the rest does
pub named_some : (id : ℕ) (log payload rest : List ℕ) → next_at 4096 log ≡ Some (payload, rest)
    → names_after id (recovered log) ≡ (names_image id payload || names_after id (recovered rest))
named_some id log payload rest is = ap (names_after id) (recovered_some 4096 log payload rest is)

pub belongs_none : (id : ℕ) (log : List ℕ) → next_at 4096 log ≡ None → belongs id (recovered log) ≡ true
belongs_none id log none = ap (belongs id) (recovered_none 4096 log none)

pub belongs_some : (id : ℕ) (log payload rest : List ℕ) → next_at 4096 log ≡ Some (payload, rest)
    → belongs id (recovered log) ≡ (names_base id payload || names_after id (recovered log))
belongs_some id log payload rest is =
    let split = recovered_some 4096 log payload rest is in
    ap (belongs id) split ∙ ap (λ ps. names_base id payload || names_after id ps) (sym split)

pub fits_none : (id : ℕ) (log : List ℕ) → next_at 4096 log ≡ None → fits id (recovered log) ≡ true
fits_none id log none = ap (fits id) (recovered_none 4096 log none)

pub fits_some : (id : ℕ) (log payload rest : List ℕ) → next_at 4096 log ≡ Some (payload, rest)
    → fits id (recovered log) ≡ names_after id (recovered log)
fits_some id log payload rest is =
    let split = recovered_some 4096 log payload rest is in
    ap (fits id) split ∙ ap (λ ps. names_after id ps) (sym split)

-- an image that fits a log with a record is named by it
pub named_of_fits : (id : ℕ) (ps : List (List ℕ)) → fits id ps ≡ true → ps ≢ [] → names_after id ps ≡ true
named_of_fits id [] is some = absurd (some refl)
named_of_fits id (p ∷ ps) is some = is

pub fits_of_named : (id : ℕ) (ps : List (List ℕ)) → (ps ≢ [] → names_after id ps ≡ true) → fits id ps ≡ true
fits_of_named id [] named = refl
fits_of_named id (p ∷ ps) named = named (λ is. cc is)

-- an image that does not fit is none that the log makes
pub no_fit : (id after : ℕ) (ps : List (List ℕ)) → after ≡ id → fits after ps ≡ false
    → (ps ≢ [] → names_after id ps ≡ true) → ⊥
no_fit id after ps is not named =
    let yes : fits id ps ≡ true = fits_of_named id ps named in
    let no : fits id ps ≡ false = ap (λ n. fits n ps) (sym is) ∙ not in
    absurd (cc (yes, no))
