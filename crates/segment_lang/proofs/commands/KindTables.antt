-- Tables of kinds as they are printed.
use Rattle.std.proofs.Common.{◌≡◌, ℕ, Bool, true, false, cond, List, [], ◌∷◌, map, Option, Some, ap, sym, refl, ◌∙◌}
use Rattle.std.specs.Option.{option_map}
use Rattle.std.specs.List.{find, AllByRecursion}
use Rattle.raw_region.specs.Format.{current}
use Rattle.seg_types.specs.declared.kinds.Kind.{Kind}
use Rattle.seg_types.specs.Kinds.{kinds}
use Rattle.segment_lang.specs.Lexing.{is_token}
use Rattle.segment_lang.specs.Texts.{kind_text}
use Rattle.segment_lang.specs.Language.{whole_language}
use Rattle.segment_lang.specs.Reading.{kind_named}
use Rattle.segment_lang.specs.Seen.{KeywordRow, found_in}

-- each row has the kind that is printed as its word
abbrev pub AreKinds : List (KeywordRow Kind) → Type 0
AreKinds rows = AllByRecursion (λ (row : KeywordRow Kind). row.0 ≡ kind_text row.1) rows

first_row : (b c : Bool) (row : KeywordRow Kind) (x : Option (KeywordRow Kind)) (y : Option Kind) → b ≡ c
    → option_map (λ (row : KeywordRow Kind). row.1) x ≡ y
    → option_map (λ (row : KeywordRow Kind). row.1) (cond b (Some row) x) ≡ cond c (Some row.1) y
first_row true true row x y e h = refl
first_row true false row x y e h = cc
first_row false true row x y e h = cc
first_row false false row x y e h = h

kind_in_rows : (rows : List (KeywordRow Kind)) (w : List ℕ) → AreKinds rows
    → found_in rows w ≡ find (λ k. is_token w (kind_text k)) (map (λ (row : KeywordRow Kind). row.1) rows)
kind_in_rows [] w h = refl
kind_in_rows (row ∷ rows) w h = first_row (is_token w row.0) (is_token w (kind_text row.1)) row
    (find (λ (row : KeywordRow Kind). is_token w row.0) rows)
    (find (λ k. is_token w (kind_text k)) (map (λ (row : KeywordRow Kind). row.1) rows))
    (ap (is_token w) h.0) (kind_in_rows rows w h.1)

-- the current format has all kinds
kinds_now : (whole_language current).kinds ≡ kinds
unfolding current
kinds_now = refl

-- A table of all kinds maps the text of a kind to the kind.
pub kind_in_table : (rows : List (KeywordRow Kind)) (w : List ℕ)
    → map (λ (row : KeywordRow Kind). row.1) rows ≡ kinds → AreKinds rows
    → found_in rows w ≡ kind_named (whole_language current) w
unfolding kind_named
kind_in_table rows w same h = kind_in_rows rows w h ∙ ap (find (λ k. is_token w (kind_text k))) (same ∙ sym kinds_now)
