-- How a path is printed, by its first byte.
use Rattle.std.proofs.Common.{◌≡◌, ◌==◌, refl, sym, ap, ◌∙◌, ℕ, Bool, List, [], ◌∷◌, length, true, false}
use Rattle.std.specs.Prelude.{if◌then◌else◌}
use Rattle.segment_lang.specs.Texts.{quoted_text}
use Rattle.segment_commands.specs.Paths.{path_text, stands_in}

pub no_bytes : (path : List ℕ) → length path ≡ 0 → path_text path ≡ quoted_text path
no_bytes [] e = refl
no_bytes (c ∷ cs) e = absurd (cc e)

pub none_in : (path : List ℕ) → length path ≡ 0 → stands_in path ≡ false
none_in [] e = refl
none_in (c ∷ cs) e = absurd (cc e)

module _ (path : List ℕ) (first : ℕ) (rest : List ℕ) (e : path ≡ first ∷ rest) where
  abbrev by_mark : Bool → List ℕ
  by_mark b = if b then rest else quoted_text (first ∷ rest)

  -- the text of a path that is no UTF-8
  pub marked : (first == 0) ≡ true → path_text path ≡ rest
  marked m = ap path_text e ∙ ap by_mark m

  -- any other path
  pub unmarked : (first == 0) ≡ false → path_text path ≡ quoted_text path
  unmarked m = ap path_text e ∙ (ap by_mark m ∙ ap quoted_text (sym e))

  pub first_in : stands_in path ≡ (first == 0)
  first_in = ap stands_in e
