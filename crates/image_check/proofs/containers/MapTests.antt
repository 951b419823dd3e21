-- A map passes its test exactly if there is a tree over its pairs, with as many nodes as its count.
use Rattle.image_check.proofs.Common.{AreBlocks, AreCellsOf, AreFollowed, Block, Blocks, Cell, HasTiles, IsMarkedLink}
use Rattle.image_check.proofs.Common.{Memory, Node, None, Option, Owner, ScalarKind, Some, Tile, Tree, WindowState}
use Rattle.image_check.proofs.Common.{and_from, and_parts, ap, are_spellings, arith, block_at, bytes_of, cases_Bool}
use Rattle.image_check.proofs.Common.{cells_of, cond-false, eq-eqb, false, false≢true, fork, in_parts, inl, inr, is_in}
use Rattle.image_check.proofs.Common.{is_node_of, is_pair-IsPairNode, is_target, is_rooted, is_spelling, leads}
use Rattle.image_check.proofs.Common.{leads_to}
use Rattle.image_check.proofs.Common.{leaf, link_at, nat_le, nodes_of, owner_at, owner_in, read, refl, root_of}
use Rattle.image_check.proofs.Common.{same_role, size_of, subst, sym, tile_of, true, ℕ, ◌&&◌, ◌*◌, ◌+◌, ◌∙◌, ◌≡◌}
use Rattle.link_tree.proofs.Laws.{in_left, in_middle, in_right}
use Rattle.block_tags.specs.declared.tile.Role.TheVariants.{Object}
use Rattle.image_check.specs.Passes.{tiles_in}
use Rattle.image_check.specs.MapNodes.{is_node_block, is_pair, pair_len}
use Rattle.image_check.specs.MapLaws.{IsPairNode}
use Rattle.image_check.proofs.read_off.GoodValues.{mul-none}
use Rattle.image_check.proofs.block_collection.UsedTile.{same_role-is, same_role-refl}
use Rattle.image_check.proofs.walks.Places.{node-place}
use Rattle.image_check.specs.Owners as owners

-- ---- one spelling

pub one-spelled : (m : Memory) (k : ScalarKind) (at : ℕ)
    → are_spellings m k at 1 ≡ is_spelling k (read m at (size_of k))
one-spelled m k at =
    let none : size_of k * 0 ≡ 0 = mul-none (size_of k) in
    let e : at + size_of k * 0 ≡ at = omega arith in
    elim (cases_Bool (is_spelling k (read m (at + size_of k * 0) (size_of k)))) [
      | inl t ↦ and_from (is_spelling k (read m (at + size_of k * 0) (size_of k))) true t refl ∙ sym t
          ∙ ap (λ x. is_spelling k (read m x (size_of k))) e
      | inr f ↦ ap (λ b. b && true) f ∙ sym f ∙ ap (λ x. is_spelling k (read m x (size_of k))) e
    ]

-- ---- a node's block

pub record NodeThere (root len : ℕ) (o : Option Block) : Type 0 where
  pub block : Block
  pub is : o ≡ Some block
  pub role : block.role ≡ Node
  pub long : nat_le len block.len ≡ true
  pub root_is : is_rooted root block.owner ≡ true

pub node-there : (root len : ℕ) (o : Option Block) → is_node_block root len o ≡ true → NodeThere root len o
node-there root len None h = absurd (false≢true h)
node-there root len (Some b) h =
    let two = and_parts (same_role Node b.role && nat_le len b.len) (is_rooted root b.owner) h in
    let one = and_parts (same_role Node b.role) (nat_le len b.len) two.0 in
    record { block = b; is = refl; role = sym (same_role-is Node b.role one.0); long = one.1; root_is = two.1 }

pub there-node : (root len : ℕ) (o : Option Block) → NodeThere root len o → is_node_block root len o ≡ true
there-node root len o t =
    ap (is_node_block root len) t.is
    ∙ and_from (same_role Node t.block.role && nat_le len t.block.len) (is_rooted root t.block.owner)
    (and_from (same_role Node t.block.role) (nat_le len t.block.len) (ap (same_role Node) t.role
    ∙ same_role-refl Node) t.long) t.root_is

rooted-here : (root at : ℕ) (o : Option Owner) → o ≡ Some (owners.owner at root) → is_rooted root o ≡ true
rooted-here root at o e = ap (is_rooted root) e ∙ eq-eqb root root refl

owner-of : (b : Block) (o : Owner) → b.role ≡ Node → owner_in (Some b) ≡ Some o → b.owner ≡ Some o
owner-of b o r e = sym (cond-false (same_role b.role Object) None b.owner (ap (λ x. same_role x Object) r)) ∙ e

-- ---- the pairs are exactly the nodes of the test

-- a test of the length of a tile
tile-long : (n : ℕ) (o : Option Tile) (t : Tile) → o ≡ Some t → nat_le n t.len ≡ true
    → elim o [ None ↦ false | Some u ↦ nat_le n u.len ] ≡ true
tile-long n o t e h = ap (λ x. elim x [ None ↦ false | Some u ↦ nat_le n u.len ]) e ∙ h

long-tile : (n : ℕ) (o : Option Tile) → elim o [ None ↦ false | Some u ↦ nat_le n u.len ] ≡ true
    → (t : Tile) × (o ≡ Some t) × (nat_le n t.len ≡ true)
long-tile n None h = absurd (false≢true h)
long-tile n (Some t) h = (t, refl, h)

-- a pair is a node of its map
pub pair-node : (c : WindowState) (es : Blocks) (root : ℕ) (k v : ScalarKind) (n : ℕ)
    → AreBlocks (tiles_in c.bytes) es → is_pair c es root k v n ≡ true
    → is_node_of (bytes_of c.bytes) (tiles_in c.bytes) k v n ≡ true
pair-node c es root k v n a h =
    let ts = tiles_in c.bytes in
    let m = bytes_of c.bytes in
    let p = is_pair-IsPairNode c es root k v n h in
    let w = node-there root (pair_len k v) (block_at es n) p.block in
    let t = a.tiles n w.block w.is in
    let is : tile_of ts Node n ≡ Some t.tile = ap (λ r. tile_of ts r n) (sym w.role) ∙ t.is in
    let room = tile-long (pair_len k v) (tile_of ts Node n) t.tile is (ap (nat_le (pair_len k v)) t.len ∙ w.long) in
    and_from (leads_to ts Node (Some n) (16 + size_of k + size_of v) && are_spellings m k (n + 16) 1)
    (are_spellings m v (n + 16 + size_of k) 1)
    (and_from (leads_to ts Node (Some n) (16 + size_of k + size_of v)) (are_spellings m k (n + 16) 1) room
    (one-spelled m k (n + 16) ∙ p.key))
    (one-spelled m v (n + 16 + size_of k) ∙ p.value)

-- a node of the test, with its first link at the root link, and the place where it was met
pub record OwnedPair (c : WindowState) (es : Blocks) (root : ℕ) (k v : ScalarKind) (n : ℕ) : Type 0 where
  pub pair : is_pair c es root k v n ≡ true
  pub left : IsMarkedLink (bytes_of c.bytes) (tiles_in c.bytes) es Node n root
  pub right : IsMarkedLink (bytes_of c.bytes) (tiles_in c.bytes) es Node (n + 8) root

all-four : (c : WindowState) (es : Blocks) (root : ℕ) (k v : ScalarKind) (n : ℕ) → IsPairNode c es root k v n
    → is_pair c es root k v n ≡ true
unfolding is_pair
all-four c es root k v n p =
    let key = is_spelling k (read (bytes_of c.bytes) (n + 16) (size_of k)) in
    let value = is_spelling v (read (bytes_of c.bytes) (n + 16 + size_of k) (size_of v)) in
    and_from (is_target c n && is_node_block root (pair_len k v) (block_at es n) && key) value
    (and_from (is_target c n && is_node_block root (pair_len k v) (block_at es n)) key
    (and_from (is_target c n) (is_node_block root (pair_len k v) (block_at es n)) p.place p.block) p.key) p.value

pub node-pair : (c : WindowState) (es : Blocks) (root at : ℕ) (k v : ScalarKind) (n : ℕ) → HasTiles c.bytes
    → AreFollowed (bytes_of c.bytes) (tiles_in c.bytes) es
    → link_at (bytes_of c.bytes) at ≡ Some n → IsMarkedLink (bytes_of c.bytes) (tiles_in c.bytes) es Node at root
    → is_node_of (bytes_of c.bytes) (tiles_in c.bytes) k v n ≡ true → OwnedPair c es root k v n
node-pair c es root at k v n tiles a leads noted h =
    let ts = tiles_in c.bytes in
    let m = bytes_of c.bytes in
    let two = and_parts (leads_to ts Node (Some n) (16 + size_of k + size_of v) && are_spellings m k (n + 16) 1)
    (are_spellings m v (n + 16 + size_of k) 1) h in
    let one = and_parts (leads_to ts Node (Some n) (16 + size_of k + size_of v)) (are_spellings m k (n + 16) 1) two.0 in
    let t = long-tile (pair_len k v) (tile_of ts Node n) one.0 in
    let b = a.blocks.blocks n Node t.0 t.1 in
    let met : owner_at es n ≡ Some (owners.owner at root) = noted n (leads, (t.0, t.1)) in
    let owned : b.block.owner ≡ Some (owners.owner at root) =
    owner-of b.block (owners.owner at root) b.role_is (sym (ap owner_in b.is) ∙ met) in
    let followed = a.followed n (owners.owner at root) t.0 t.1 met in
    let there : NodeThere root (pair_len k v) (block_at es n) = record {
      block = b.block;
      is = b.is;
      role = b.role_is;
      long = ap (nat_le (pair_len k v)) b.len ∙ t.2;
      root_is = rooted-here root at b.block.owner owned;
    } in
    record {
      pair = all-four c es root k v n
          (record {
            place = node-place c n t.0 tiles t.1;
            block = there-node root (pair_len k v) (block_at es n) there;
            key = sym (one-spelled m k (n + 16)) ∙ one.1;
            value = sym (one-spelled m v (n + 16 + size_of k)) ∙ two.1;
          });
      left = followed.0;
      right = followed.1;
    }

-- all nodes of a tree that pass the test are pairs, if the link to it is entered
pub tree-pairs : (c : WindowState) (es : Blocks) (root : ℕ) (k v : ScalarKind) → HasTiles c.bytes
    → AreFollowed (bytes_of c.bytes) (tiles_in c.bytes) es
    → (at : ℕ) (t : Tree) → link_at (bytes_of c.bytes) at ≡ root_of t → AreCellsOf (cells_of (bytes_of c.bytes)) t
    → IsMarkedLink (bytes_of c.bytes) (tiles_in c.bytes) es Node at root
    → ((n : ℕ) → is_in n (nodes_of t) ≡ true → is_node_of (bytes_of c.bytes) (tiles_in c.bytes) k v n ≡ true)
    → (n : ℕ) → is_in n (nodes_of t) ≡ true → is_pair c es root k v n ≡ true
tree-pairs c es root k v tiles a at leaf e w noted h n i = absurd (false≢true i)
tree-pairs c es root k v tiles a at (fork red l x r) e w noted h n i =
    let left : link_at (bytes_of c.bytes) x ≡ root_of l = ap (λ (y : Cell). y.left) w.0 in
    let right : link_at (bytes_of c.bytes) (x + 8) ≡ root_of r = ap (λ (y : Cell). y.right) w.0 in
    let here = node-pair c es root at k v x tiles a e noted (h x (in_middle (nodes_of l) x (nodes_of r))) in
    elim (in_parts n (nodes_of l) x (nodes_of r) i) [
      | inl j ↦ tree-pairs c es root k v tiles a x l left w.1 here.left (λ y z.
          h y (in_left y (nodes_of l) x (nodes_of r) z)) n j
      | inr (inl f) ↦ subst (λ y. is_pair c es root k v y ≡ true) (sym f) here.pair
      | inr (inr j) ↦ tree-pairs c es root k v tiles a (x + 8) r right w.2 here.right (λ y z.
          h y (in_right y (nodes_of l) x (nodes_of r) z)) n j
    ]
