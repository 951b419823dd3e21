-- Names in quotes.
use Rattle.std.proofs.Common.{◌≡◌, ◌<◌, ℕ, Bool, true, false, ◌&&◌, cond, List, length, take, Option, Some, None}
use Rattle.std.proofs.Common.{ap, sym, refl, ◌∙◌, arith, inl, inr}
use Rattle.std.proofs.lemmas.List.{take_all, length-take-le}
use Rattle.std.specs.Prelude.{nat_le, not}
use Rattle.std.specs.List.{list_all}
use Rattle.std.specs.Str.{chars, is_utf8}
use Rattle.std.proofs.lemmas.Bool.Decides.{nat_tests}
use Rattle.raw_region.specs.Format.{current}
use Rattle.seg_types.specs.Names.{is_control, is_name, is_text_name}
use Rattle.segment_lang.proofs.tokens.LinePrefixes.{at_most_or_more}

too_long : (some short text all : Bool) (name : List ℕ) → short ≡ false
    → None ≡ cond (some && short && text && all) (Some name) None
too_long true short text all name h = rw h refl
too_long false short text all name h = refl

long_is_none : (name : List ℕ) → 255 < length name → None ≡ cond (is_name current name) (Some name) None
unfolding current is_text_name
long_is_none name h =
    too_long (nat_le 1 (length name)) (nat_le (length name) 255) (is_utf8 name)
    (list_all (λ c. not (is_control c)) (chars name)) name (grind (arith, nat_tests))

-- the bytes of a name in quotes are a name
pub named_bytes : (held name : List ℕ) (r : Option (List ℕ)) → r ≡ cond (is_text_name held) (Some held) None
    → held ≡ name → r ≡ cond (is_name current name) (Some name) None
unfolding current
named_bytes held name r e h = e ∙ ap (λ name. cond (is_text_name name) (Some name) None) h

-- the first 4096 bytes are a name if all are, which then are no more
pub named_cut : (held name : List ℕ) (r : Option (List ℕ)) → r ≡ cond (is_text_name held) (Some held) None
    → held ≡ take 4096 name → r ≡ cond (is_name current name) (Some name) None
named_cut held name r e h = elim (at_most_or_more (length name) 4096) [
  | inl k ↦ named_bytes held name r e (h ∙ take_all 4096 name k)
  | inr k ↦ named_bytes held held r e refl
      ∙ sym (long_is_none held (omega (arith, ap length h, length-take-le 4096 name (omega arith))))
      ∙ long_is_none name (omega arith)
]
