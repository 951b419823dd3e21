-- The state that a change of links and colours keeps.
use Rattle.std.specs.Prelude.{◌≡◌}
use Rattle.link_tree.specs.declared.nodes.Nodes.{Ghosts}

-- only cells of nodes changed: the set of nodes, their order, their comparison with probes, the reference to the
-- storage and all other state stay
pub record SameExceptCells {N P : Type 0} (keeper : Ghosts N P) (old new : N) : Type 0 where
  pub nodes : keeper.is_node new ≡ keeper.is_node old
  pub order : keeper.order new ≡ keeper.order old
  pub probe : keeper.before new ≡ keeper.before old
  pub lender : keeper.lender new ≡ keeper.lender old
  pub kept : keeper.kept new ≡ keeper.kept old
