-- An image in memory: the reasons why no segment is opened.
use Rattle.image_check.proofs.Common.{AcceptedVersions, IfErr, inl, inr, BadMagic, BadSize, Err}
use Rattle.image_check.proofs.Common.{ImageClass, IsHandedBack, IsImageRead}
use Rattle.image_check.proofs.Common.{IsTooSmallFor, List, MatchResult, Mode, Ok}
use Rattle.image_check.proofs.Common.{OpenRefused, OpensWindow, Result, SegmentState, Shows}
use Rattle.image_check.proofs.Common.{Truncated, UnsupportedVersion, WindowState, [], ap, arith, as_given, both_ways}
use Rattle.image_check.proofs.Common.{cond-true, drop, false, format_in, front_of}
use Rattle.image_check.proofs.Common.{has_front, has_magic, has_version, if◌then◌else◌, is_legal_size}
use Rattle.image_check.proofs.Common.{length, refl, size_word, subst, sym, take, true, ℕ, ◌&&◌, ◌+◌}
use Rattle.image_check.proofs.Common.{◌<◌, ◌∙◌, ◌≡◌, ◌≤◌}
use Rattle.std.proofs.Common.{Bool}
use Rattle.std.proofs.lemmas.List.{append-nil}
use Rattle.raw_region.specs.Format.{current}
use Rattle.raw_region.specs.Memory.{whole}
use Rattle.image_check.specs.declared.versions.AcceptedVersions.TheVariants.{All, Current}
use Rattle.image_check.specs.declared.errors.OpenError.TheVariants.{Image}
use Rattle.image_check.specs.declared.verdict.Verdict.{Verdict}
use Rattle.image_check.specs.Classes.{holds}
use Rattle.image_check.specs.HeaderOffsets.{IsFrontOffset}
use Rattle.image_check.specs.Opening.{Opens}
use Rattle.image_check.specs.Reading.{IsNotCopied, Stops}
use Rattle.image_check.proofs.reading.Deciding.{decided-some, first_class}
use Rattle.image_check.proofs.frame.EarlyClasses.{cut-Truncated}
use Rattle.image_check.proofs.reading.Fronts.{IsRight, front-decided, front-wrong, has_front-IsRight}
use Rattle.image_check.proofs.opening.Region.{whole-kept}
use Rattle.image_check.proofs.reading.Formats.{format_of-few}
use Rattle.image_check.proofs.reading.Stops.{front-early, more-decided}
use Rattle.image_check.proofs.reading.Places.{front-shown}

-- ---- the reasons why it is not copied

-- first words without a legal size are too small for no region
wrong-room : (format : ℕ) (b : List ℕ) (base capacity : ℕ) (c : ImageClass) → front_of format b ≡ Err c
    → IsTooSmallFor format (as_given b) base capacity → ⊥
wrong-room format b base capacity c e t = both_ways (has_front format b) (front-wrong format b c e) t.front

-- wrong first words
pub misfit-front : (format : ℕ) (b : List ℕ) (base capacity : ℕ) (v : Verdict) → front_of format b ≡ Err v.class
    → 144 ≤ length b → Stops format (as_given b) base capacity (Image v)
misfit-front format b base capacity v e l = record {
  why = record { sound = refl; right = inr (decided-some format b v.class (front-decided format b v.class l e)) };
  too_small = λ t. absurd (wrong-room format b base capacity v.class e t);
  early = front-early format b v.class e;
}

-- first words with a legal size
right-by : (m v l : Bool) (n size : ℕ)
    → (if m then (if v then (if l then Ok n else Err BadSize) else Err UnsupportedVersion) else Err BadMagic) ≡ Ok size
    → ((m && v && l) ≡ true) × (n ≡ size)
right-by true true true n size e = (refl, cc)
right-by true true false n size e = absurd (cc)
right-by true false l n size e = absurd (cc)
right-by false v l n size e = absurd (cc)

-- a front with a legal size is valid
pub says-right : (format : ℕ) (b : List ℕ) (size : ℕ) → 24 ≤ length b → front_of format b ≡ Ok size
    → IsRight format b size
says-right format b size l e =
    let p = right-by (has_magic b) (has_version format b) (is_legal_size (size_word b)) (size_word b) size e in
    has_front-IsRight format b size l p.0 p.1

-- room for it
right-room : (format : ℕ) (b : List ℕ) (base capacity size : ℕ) → IsRight format b size → base + size ≤ capacity
    → IsTooSmallFor format (as_given b) base capacity → ⊥
right-room format b base capacity size r room t = let says = r.says in let small = t.small in omega arith

-- and fewer bytes
pub misfit-cut : (format : ℕ) (b : List ℕ) (base capacity size at : ℕ) → IsRight format b size
    → base + size ≤ capacity → length b < size
    → Stops format (as_given b) base capacity (Image (record { class = Truncated; place = at }))
misfit-cut format b base capacity size at r room l =
    let says = r.says in
    record {
      why = record {
        sound = refl;
        right = inl (
          refl,
          first_class (holds format b) (cut-Truncated format b r.magic r.version (ap is_legal_size says ∙ r.legal)
              (omega arith)),
        );
      };
      too_small = λ t. absurd (right-room format b base capacity size r room t);
      early = refl;
    }

-- or more
pub misfit-more : (format : ℕ) (b : List ℕ) (base capacity size at : ℕ) → IsRight format b size
    → base + size ≤ capacity → size < length b
    → Stops format (as_given b) base capacity (Image (record { class = BadSize; place = at }))
misfit-more format b base capacity size at r room l = record {
  why = record { sound = refl; right = inr (decided-some format b BadSize (more-decided format b size r l)) };
  too_small = λ t. absurd (right-room format b base capacity size r room t);
  early = refl;
}

-- the place that shows it
pub front-place : (format : ℕ) (b : List ℕ) (c : ImageClass) (at : ℕ) → 24 ≤ length b → IsFrontOffset b c at
    → Shows format b c at
front-place format b c at l p =
    subst (λ (x : List ℕ). Shows format x c at) (append-nil b) (front-shown format b [] l c at p)

-- more bytes than the size: the offset that shows it
pub more-place : (format : ℕ) (b : List ℕ) (size : ℕ) → IsRight format b size → Shows format b BadSize size
more-place format b size r =
    sym r.says ∙ sym (cond-true (is_legal_size (size_word b)) (size_word b) 16 (ap is_legal_size r.says ∙ r.legal))

-- the region is returned unchanged
pub back-as-was : (format : ℕ) (b region : List ℕ) (base : ℕ) (back : List ℕ) → back ≡ region
    → IsHandedBack format (as_given b) region base back
back-as-was format b region base back e = record {
  capacity = ap length e;
  before = ap (take base) e;
  behind = ap (drop (base + size_word b)) e;
  untouched = λ none. e;
}

-- an image that was not placed is not opened
pub not-placed : (format : ℕ) (b region : List ℕ) (base : ℕ) (mode : Mode) (refused : OpenRefused)
    → IsNotCopied format b region base refused → Opens format (as_given b) region base mode (Err refused)
not-placed format b region base mode refused n = record {
  answers = record {
    why = n.misfit.why;
    handed_back = back-as-was format b region base refused.region n.back;
  };
  too_small = n.misfit.too_small;
}

-- ---- the format in the bytes

-- The format by which bytes are read is at most 2.
pub format_in-few : (versions : AcceptedVersions) (b : List ℕ) → format_in versions b ≤ 2
unfolding current
format_in-few Current b = omega arith
format_in-few All b = format_of-few b

-- ---- the region

-- if the check refuses the bytes, their number is the size in them
pub unwritten : (format : ℕ) (b region : List ℕ) (base : ℕ) (w : WindowState)
    → IsImageRead format (as_given b) region base w → (r : Result SegmentState OpenRefused)
    → IfErr r (λ refused. (length b ≡ size_word b → ⊥) → refused.region ≡ region)
unwritten format b region base w h (Ok s) = tt
unwritten format b region base w h (Err refused) = λ other.
    absurd (other (sym (ap length h.bytes) ∙ sym h.front.says ∙ ap size_word h.bytes))

-- an image of the current format is not written where it is opened, nor where it is refused
pub window-kept : (w : WindowState) (mode : Mode) (r : Result SegmentState OpenRefused) (region : List ℕ)
    → whole w ≡ region → OpensWindow current w mode r
    → MatchResult r (λ s. whole s.cut ≡ region) (λ refused. refused.region ≡ region)
window-kept w mode (Ok s) region e o = whole-kept w s.cut o.place (o.upgrade.same refl) ∙ e
window-kept w mode (Err refused) region e o = o.region ∙ e
