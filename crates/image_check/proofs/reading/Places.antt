-- The places that the reading of an image tells.
use Rattle.image_check.proofs.Common.{BadMagic, BadSize}
use Rattle.image_check.proofs.Common.{Err, HasFront, IfErr, ImageClass, IsShown, List, Ok}
use Rattle.image_check.proofs.Common.{OpenError, ReadsPastEnd, Result, Shows, Truncated}
use Rattle.image_check.proofs.Common.{UnsupportedVersion, WindowState, [], added, ap, arith, both_added, codes}
use Rattle.image_check.proofs.Common.{cond-false, cond-true, drop, is_legal_size, length}
use Rattle.image_check.proofs.Common.{size_word, slice_index, subst, sym, take, true, ℕ, ◌++◌, ◌-◌, ◌<◌}
use Rattle.image_check.proofs.Common.{◌∙◌, ◌∷◌, ◌≡◌, ◌≤◌}
use Rattle.std.proofs.lemmas.List.{get_or_append_left}
use Rattle.image_check.specs.declared.errors.OpenError.TheVariants.{Image, RegionTooSmall}
use Rattle.image_check.specs.declared.verdict.Verdict.{Verdict}
use Rattle.image_check.specs.Causes.{IsAt}
use Rattle.image_check.specs.HeaderOffsets.{IsFirstOther, IsFrontOffset}
use Rattle.image_check.proofs.reading.Deciding.{size_word-front}
use Rattle.image_check.proofs.reading.Buffer.{HasFront-IsRight}
use Rattle.image_check.proofs.reading.Fronts.{IsRight-append, IsRight-take}

-- the end of the bytes
pub end-shown : (format : ℕ) (b : List ℕ) (n : ℕ) (cause : OpenError) → n ≡ length b → IsAt Truncated n cause
    → IsShown format b cause
end-shown format b n (Image v) e h = subst (λ c. Shows format b c v.place) (sym h.0) (h.1 ∙ e)
end-shown format b n cause e h = tt

-- the size in the bytes
behind-shown : (format : ℕ) (b : List ℕ) (n : ℕ) (v : Verdict) → n ≡ size_word b → is_legal_size (size_word b) ≡ true
    → IsAt BadSize n (Image v) → Shows format b v.class v.place
behind-shown format b n v e legal h = subst (λ c. Shows format b c v.place) (sym h.0)
    (h.1 ∙ e ∙ sym (cond-true (is_legal_size (size_word b)) (size_word b) 16 legal))

-- ---- in the first words

module _ (format : ℕ) (front more : List ℕ) (long : 24 ≤ length front) where
  same-there : (i : ℕ) → i < 24 → slice_index (front ++ more) i ≡ slice_index front i
  same-there i l = get_or_append_left front more 0 i (omega arith)

  magic-shown : (at : ℕ) → IsFirstOther front (codes "MSEGFILE") at → IsFirstOther (front ++ more) (codes "MSEGFILE") at
  magic-shown at p =
      let inside : at < 8 = p.inside in
      record {
        inside = p.inside;
        other = λ e. p.other (sym (same-there at (omega arith)) ∙ e);
        same = λ i l. same-there i (omega arith) ∙ p.same i l;
      }

  -- the reported offset in a wrong front shows the class
  pub front-shown : (c : ImageClass) (at : ℕ) → IsFrontOffset front c at → Shows format (front ++ more) c at
  front-shown BadMagic at p = magic-shown at p
  front-shown UnsupportedVersion at p = p
  front-shown BadSize at p =
      p.0 ∙ sym (cond-false (is_legal_size (size_word (front ++ more))) (size_word (front ++ more)) 16
      (ap is_legal_size (size_word-front front more long) ∙ p.1))
  front-shown class at p = absurd p

-- ---- after the whole image

module _ (w : WindowState) (old mid new ws : List ℕ) (n : ℕ) (is : n ≡ length w.bytes) (rest : mid ≡ old ++ ws) where
  one-behind : (format : ℕ) → HasFront format w → (start : List ℕ) → old ≡ start ++ take 24 w.bytes → (byte : ℕ)
      → new ≡ mid ++ byte ∷ [] → (v : Verdict) → IsAt BadSize n (Image v)
      → Shows format (drop (length start) new) v.class v.place
  one-behind format h start e byte g v s =
      let one : List ℕ = byte ∷ [] in
      let all : List ℕ = (take 24 w.bytes ++ ws) ++ one in
      let said : drop (length start) new ≡ all =
      added start new all (both_added start mid new (take 24 w.bytes ++ ws) one
      (both_added start old mid (take 24 w.bytes) ws e rest) g) in
      let right = IsRight-append format (take 24 w.bytes ++ ws) one (length w.bytes)
      (IsRight-append format (take 24 w.bytes) ws (length w.bytes)
      (IsRight-take format w.bytes (length w.bytes) (HasFront-IsRight format w h))) in
      subst (λ b. Shows format b v.class v.place) (sym said)
      (behind-shown format all n v (is ∙ sym right.says) (ap is_legal_size right.says ∙ right.legal) s)

  -- the reported offset of the first byte after the image shows the class
  pub whole-shown : (r : Result (Unit {0}) OpenError) → IfErr r (ReadsPastEnd mid new)
      → IfErr r (IsAt BadSize n)
      → IfErr r (λ cause. (format : ℕ) → HasFront format w → (start : List ℕ) → old ≡ start ++ take 24 w.bytes
      → IsShown format (drop (length start) new) cause)
  whole-shown (Ok done) g s = tt
  whole-shown (Err (Image v)) g s = λ format h start e. one-behind format h start e g.1.0 g.1.1 v s
  whole-shown (Err RegionTooSmall) g s = λ format h start e. tt
  whole-shown other g s = λ format h start e. tt
