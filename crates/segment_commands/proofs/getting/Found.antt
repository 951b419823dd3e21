-- A value that one call finds, or else another.
use Rattle.std.proofs.Common.{◌≡◌, refl, ap, ◌∙◌, ℕ, List, [], ◌∷◌, Option, Some, None}
use Rattle.std.specs.Prelude.{option_and_then, option_map}
use Rattle.raw_region.specs.Format.{current}
use Rattle.seg_types.specs.Commands.{Show}
use Rattle.seg_types.specs.Names.{Key}
use Rattle.segment_lang.specs.Language.{whole_language}
use Rattle.segment_lang.specs.Reading.{key_of, with_key}
use Rattle.segment_lang.specs.Lexing.{Token}
use Rattle.segment_manager.specs.Answers.{Answer}
use Rattle.segment_manager.specs.Directory.{Directory}
use Rattle.segment_manager.specs.State.{AnswersWith, SegmentState}
use Rattle.segment_commands.specs.Getting.{or_else, raw_of}

module _ (s : SegmentState) where
  -- what a call answered, as the value that it is
  pub said : (say : Directory → Answer) (answer : Answer) (found : Option (List ℕ)) → AnswersWith s say answer
      → found ≡ raw_of answer → AnswersWith s (λ d. raw_of (say d)) found
  said say answer found w e = record { answers = λ d k. e ∙ ap raw_of (w.answers d k) }

  module _ (one two : Directory → Option (List ℕ)) where
    -- the first call found it
    pub first : (value : List ℕ) → AnswersWith s one (Some value)
        → AnswersWith s (λ d. or_else (one d) (two d)) (Some value)
    first value w = record { answers = λ d k. ap (λ o. or_else o (two d)) (w.answers d k) }

    -- the first call found none, and this is what the second one found
    pub second : (found : Option (List ℕ)) → AnswersWith s one None → AnswersWith s two found
        → AnswersWith s (λ d. or_else (one d) (two d)) found
    second found w v = record { answers = λ d k. v.answers d k ∙ ap (λ o. or_else o (two d)) (w.answers d k) }

-- ---- the key of a word

same-keys : (r q : Option Key) → option_map Show r ≡ option_map Show q → r ≡ q
same-keys None None e = refl
same-keys None (Some q) e = cc
same-keys (Some r) None e = cc
same-keys (Some r) (Some q) e = let same : r ≡ q = cc in ap Some same

-- the key that is read for a command is the key of its only word
pub key_read : (r : Option Key) (w : Option Token)
    → option_map Show r ≡ option_and_then (λ x. with_key Show key_of (whole_language current) (x ∷ [])) w
    → r ≡ option_and_then (key_of (whole_language current)) w
key_read r None e = same-keys r None e
key_read r (Some x) e = same-keys r (key_of (whole_language current) x) e

-- a command of the key that a call's key stands for
pub fused : {A : Type 0} (seen : A → Key) (r : Option A)
    → option_map Show (option_map seen r) ≡ option_map (λ a. Show (seen a)) r
fused seen None = refl
fused seen (Some a) = refl
