-- The first links of blocks, after all links that count are entered.
use Rattle.image_check.proofs.Common.{Blocks, IsCountedLink, IsFollowed, IsWholeMarking, LeadsTo, List, Memory, Node}
use Rattle.image_check.proofs.Common.{Owner, Some, Tile, owner, owner_at, tile_of, ℕ, ◌+◌, ◌≡◌}
use Rattle.image_check.proofs.shared_blocks.Worklist.{none-waits}
use mathlib.Core.Logic.{inl, inr}
use Rattle.image_check.specs.Owners.{OwnerState}

-- an entered field, with the first link on its way
abbrev pub IsLed : Blocks → ℕ → ℕ → Type 0
IsLed es at n = (root : ℕ) × (owner_at es n ≡ Some (owner at root))

module _ (format : ℕ) (m : Memory) (ts : List Tile) (st : OwnerState)
    (w : IsWholeMarking format m ts st) where
  -- the links of a node that has an owner are entered
  pub node-followed : (n : ℕ) (o : Owner) (t : Tile) → tile_of ts Node n ≡ Some t → owner_at st.entries n ≡ Some o
      → IsFollowed m ts st.entries n o.root
  node-followed n o t f e = elim (w.marking.followed n o t f e) [
    | inl s ↦ absurd (none-waits st.entries st.pending w.marking.chain n w.none w.marking.linked s)
    | inr (inl g) ↦ absurd (cc)
    | inr (inr g) ↦ g
  ]

  -- the blocks behind a node's links have the node's root
  pub left-root : (n child : ℕ) (o : Owner) (t : Tile) → tile_of ts Node n ≡ Some t → owner_at st.entries n ≡ Some o
      → LeadsTo m ts Node n child → owner_at st.entries child ≡ Some (owner n o.root)
  left-root n child o t f e l = (node-followed n o t f e).0 child l

  pub right-root : (n child : ℕ) (o : Owner) (t : Tile) → tile_of ts Node n ≡ Some t → owner_at st.entries n ≡ Some o
      → LeadsTo m ts Node (n + 8) child → owner_at st.entries child ≡ Some (owner (n + 8) o.root)
  right-root n child o t f e l = (node-followed n o t f e).1 child l

  -- each field that counts is entered
  pub covers : (at n : ℕ) → IsCountedLink format m ts at n → IsLed st.entries at n
  covers at n (IsCountedLink.named c l) = (32, w.named c n l)
  covers at n (IsCountedLink.unique c l) = (56, w.unique c n l)
  covers at n (IsCountedLink.storage v h c l) = (_, w.storage _ _ v h c n l)
  covers at n (IsCountedLink.element array i v c g a b l) = (_, w.element array i _ v c g a b n l)
  covers at n (IsCountedLink.root v l) = (_, w.root _ _ _ v n l)
  covers at n (IsCountedLink.left c k l) = let o = covers _ _ c in (_, left-root _ n _ k.1.0 k.1.1 o.1 l)
  covers at n (IsCountedLink.right c k l) = let o = covers _ _ c in (_, right-root _ n _ k.1.0 k.1.1 o.1 l)
