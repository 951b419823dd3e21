-- The role decides it.
use Rattle.segment_manager.proofs.blocks.tiles.TileInfo.is_object.Goals as goal
use Rattle.segment_manager.proofs.Common.{Bool, None, ObjectRole, Option, Role, Some, ap, false, same_role, sym, ◌∙◌}
use Rattle.segment_manager.proofs.objects.Destroys.{same-test}

abbrev said : Option Role → Bool
said u = elim u as (λ _. Bool) [ None ↦ false | Some role ↦ same_role role ObjectRole ]

pub returns-in-Some : goal.returns-in-Some
returns-in-Some c = c.eq.ensures ∙ same-test c.in-Some.role ∙ sym (ap said c.in-Some.is)
