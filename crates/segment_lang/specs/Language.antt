-- The language of a format: the format, whose names there are, and its kinds.
use Rattle.std.specs.Prelude.{ℕ, List, filter}
use Rattle.seg_types.specs.declared.kinds.Kind.{Kind}
use Rattle.seg_types.specs.Kinds.{kinds, is_kind_of}

-- the format and the kinds that a line may name
pub record Language : Type 0 where
  pub format : ℕ
  pub kinds : List Kind

-- all that there is in a format
abbrev pub whole_language : ℕ → Language
whole_language format = record { format = format; kinds = filter (is_kind_of format) kinds }
