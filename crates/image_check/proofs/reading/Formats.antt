-- The format in bytes, and the format in bytes that begin with them.
use Rattle.image_check.proofs.Common.{AcceptedVersions, List, added, ap, arith, both_added, both_ways, cases_Bool, drop}
use Rattle.image_check.proofs.Common.{eq-eqb, eqb-true, false, format_in, format_of, if◌then◌else◌, inl, inr, le-leb}
use Rattle.image_check.proofs.Common.{leb-true, length, nat_le, part, refl, sym, take, true, ℕ, ◌++◌, ◌==◌, ◌∙◌, ◌≡◌}
use Rattle.image_check.proofs.Common.{◌≤◌}
use Rattle.std.proofs.Common.{Bool}
use Rattle.std.proofs.lemmas.List.{take-append-drop}
use Rattle.raw_region.specs.Format.{current}
use Rattle.image_check.specs.declared.versions.AcceptedVersions.TheVariants.{All, Current}
use Rattle.image_check.specs.Formats.{is_taken, version_word}
use Rattle.image_check.proofs.reading.Deciding.{half_word_at-front}

-- ---- bytes that follow change nothing

pub version-front : (b rest : List ℕ) → 12 ≤ length b → version_word (b ++ rest) ≡ version_word b
version-front b rest l = half_word_at-front b rest 8 l

-- the first 24 bytes tell
pub version-part : (b xs : List ℕ) (v : ℕ) → v ≡ version_word xs → xs ≡ part b 0 24 → length xs ≡ 24
    → v ≡ version_word b
version-part b xs v e p l =
    let long = sym (ap (λ (ys : List ℕ). length ys) p) ∙ l in
    e ∙ ap version_word p ∙ sym (version-front (take 24 b) (drop 24 b) (omega arith))
    ∙ ap version_word (take-append-drop 24 b)

-- the format is in the first 12 bytes
pub format_of-front : (b rest : List ℕ) → 12 ≤ length b → format_of (b ++ rest) ≡ format_of b
format_of-front b rest l = ap (λ v. if nat_le v 2 then v else current) (version-front b rest l)

pub format_in-front : (versions : AcceptedVersions) (b rest : List ℕ) → 12 ≤ length b
    → format_in versions (b ++ rest) ≡ format_in versions b
format_in-front Current b rest l = refl
format_in-front All b rest l = format_of-front b rest l

-- the format of the bytes read since, if they begin with a front
pub since-format : (versions : AcceptedVersions) (old mid new front more : List ℕ) → 12 ≤ length front
    → mid ≡ old ++ front → new ≡ mid ++ more
    → format_in versions (drop (length old) new) ≡ format_in versions front
since-format versions old mid new front more l e f =
    ap (format_in versions) (added old new (front ++ more) (both_added old mid new front more e f))
    ∙ format_in-front versions front more l

-- ---- reading by a format

else-current : (v : ℕ) (p : Bool) → p ≡ false → (if p then v else current) ≡ current
else-current v p e = ap (λ x. if x then v else current) e

then-said : (v : ℕ) (p : Bool) → p ≡ true → (if p then v else current) ≡ v
then-said v p e = ap (λ x. if x then v else current) e

-- an accepted version is the format
pub taken-format : (versions : AcceptedVersions) (b : List ℕ) (v : ℕ) → v ≡ version_word b
    → is_taken versions v ≡ true → v ≡ format_in versions b
taken-format Current b v e t = eqb-true v current t
taken-format All b v e t = e ∙ sym
    (then-said (version_word b) (nat_le (version_word b) 2) (sym (ap (λ n. nat_le n 2) e) ∙ t))

-- another is not
pub other-format : (versions : AcceptedVersions) (b : List ℕ) (v : ℕ) → v ≡ version_word b
    → is_taken versions v ≡ false → v ≡ format_in versions b → ⊥
unfolding current
other-format Current b v e t s = both_ways (v == 2) t (eq-eqb v 2 s)
other-format All b v e t s =
    let two : v ≡ 2 = s ∙ else-current (version_word b) (nat_le (version_word b) 2) (sym (ap (λ n. nat_le n 2) e)
    ∙ t) in
    both_ways (nat_le v 2) t (le-leb v 2 (omega arith))

-- no format is later than the current one
pub format_of-few : (b : List ℕ) → format_of b ≤ 2
unfolding current
format_of-few b = elim (cases_Bool (nat_le (version_word b) 2)) [
  | inl e ↦ let said = then-said (version_word b) (nat_le (version_word b) 2) e in let few =
      leb-true (version_word b) 2 e in omega arith
  | inr e ↦ let other = else-current (version_word b) (nat_le (version_word b) 2) e in omega arith
]
