-- The laws of `Nodes` for one state of the nodes.
use seplogic.Ra.Ura.{Ura}
use mir.Syntax.{Dict}
use prog.Model.{Model}
use types.Logic.{Logic}
use contract.Running.{Running}
use denote.RattleType.{RattleType}
use Rattle.link_tree.specs.declared.nodes.Nodes.{Ghosts}
use Rattle.link_tree.specs.contracts.nodes.Nodes.TheBound.{Met}
use Rattle.std.proofs.Common.{◌≡◌, ℕ, ◌≤◌, ◌^◌, true, Option, length}
use Rattle.link_tree.specs.Tree.{Tree, nodes_of, IsTree, IsSearchTree, height}
use Rattle.link_tree.specs.Nodes.{is_in, leads}
use Rattle.link_tree.proofs.trees.OrderedLists.{IsStrict}
use Rattle.link_tree.proofs.trees.NodeCount.{AreLinked, height_limit, tree_node}

module _ {M : Type 1} {𝓤 : Ura M} {𝓛 : Logic 𝓤} {𝓜 : Model 𝓤 𝓛.H} {𝓡 : Running 𝓤 𝓛.H 𝓜} {N P : RattleType}
    {keeper : Ghosts N.Denot P.Denot} {methods : Dict} (laws : Met 𝓛 𝓜 𝓡 𝓡.env N P keeper methods) (s : N.Denot) where
  -- the order of the nodes is strict at each moment
  pub strict : IsStrict (keeper.order s)
  strict = record { transitive = laws.transitive s; irreflexive = laws.irreflexive s }

  pub linked : AreLinked (keeper.is_node s) (keeper.cells s)
  linked = record { finite = laws.finite s; left = laws.left_closed s; right = laws.right_closed s }

  -- trees of nodes
  module _ {link : Option ℕ} {t : Tree} where
    -- each node of a tree that a good link leads to is a node
    pub node_of : IsTree (keeper.cells s) link t → leads (keeper.is_node s) link ≡ true → (m : ℕ)
        → is_in m (nodes_of t) ≡ true → keeper.is_node s m ≡ true
    node_of w k = tree_node linked w k

    -- a search tree has a height of at most 80 and at most 2^40 nodes
    pub low_tree : IsSearchTree (keeper.order s) (keeper.cells s) link t → leads (keeper.is_node s) link ≡ true
        → (height t ≤ 80) × (length (nodes_of t) ≤ 2 ^ 40)
    low_tree w k = height_limit linked strict w k
