-- A text of numbered parts, one after another.
use Rattle.std.specs.Prelude.{ℕ, List, [], ◌∷◌}
use Rattle.segment_lang.specs.Texts.{kind_text, number_text}
use Rattle.segment_manager.specs.declared.objects.instance_info.Instance.{Instance}
use Rattle.segment_scripts.specs.Answer.{handle_text}
-- the first n parts, and one part if there is one
pub use Rattle.segment_manager.proofs.PartLaws.{part_of, parts_until}

-- kind, count and handle, as an object says them of itself
abbrev pub said_tokens : Instance → List (List ℕ)
said_tokens said = kind_text said.kind ∷ number_text said.count ∷ handle_text said.handle ∷ []
