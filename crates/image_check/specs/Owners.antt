-- The owners of blocks: the map of them, and its state while links are followed.
use Rattle.std.specs.Prelude.{◌≡◌, ◌≢◌, ℕ, filter_map, map, ◌+◌, ◌*◌, ◌/◌, ◌%◌, ◌≤◌, ◌<◌, ◌⊎◌, ◌||◌, not, Bool, is_some}
use Rattle.std.specs.Prelude.{IsTrue, Contains, Option, Some, None, List, [], ◌∷◌, length, nat_eq, IsSome}
use Rattle.std.specs.Prelude.{Result, MatchResult, if◌then◌else◌}
use Rattle.std.specs.Map.{lookup}
use Rattle.raw_region.specs.Memory.{Memory, bytes_of, word_at}
use Rattle.offset_link.specs.Link.{link_at}
use Rattle.block_tags.specs.declared.tile.Role.{Role}
use Rattle.block_tags.specs.declared.tile.Role.TheVariants.{Object, Index, Storage, Node}
use Rattle.block_tags.specs.declared.tile.Tile.{Tile}
use Rattle.best_fit.specs.Extents.{LiveSet}
use Rattle.best_fit.specs.GapNodes.{gaps_of}
use Rattle.best_fit.specs.Heap.{is_live_in}
use Rattle.best_fit.specs.Table.{same_role}
use Rattle.image_check.specs.declared.counting.Counts.{Counts}
use Rattle.image_check.specs.declared.owners.Block.{Block}
use Rattle.image_check.specs.declared.owners.Owner.{Owner}
use Rattle.seg_types.specs.declared.kinds.ScalarKind.{ScalarKind}
use Rattle.seg_types.specs.declared.kinds.Kind.{Kind}
use Rattle.seg_types.specs.declared.kinds.Kind.TheVariants.{Map, Strings}
use Rattle.image_check.specs.ObjectTests.{tile_of, good_for, payload, index_capacity}
use Rattle.image_check.specs.Fields.{values, has_storage, needs_owner}
use Rattle.image_check.specs.Passes.{tiles_in}
use Rattle.image_check.specs.Meaning.{LeadsTo, IsCountedLink}

-- the entries of the map
abbrev pub Blocks : Type 0
Blocks = List (ℕ × Block)

-- the map: its entries, and the number of entries for which it has room left
pub record BlockMap : Type 0 where
  pub entries : Blocks
  pub room : ℕ

-- the state while links are followed: the entries, the first waiting node, and the number of waiting nodes
pub record OwnerState : Type 0 where
  pub entries : Blocks
  pub pending : Option ℕ
  pub waiting : ℕ

-- the block of a payload
abbrev pub block_at : Blocks → ℕ → Option Block
block_at es n = lookup (nat_eq n) es

abbrev pub owner_in : Option Block → Option Owner
owner_in None = None
owner_in (Some b) = if same_role b.role Object then None else b.owner

abbrev pub entry_in : Option Block → Option Owner
entry_in None = None
entry_in (Some b) = if same_role b.role Object then b.owner else None

-- the link that leads to the payload of an index, a storage or a node
abbrev pub owner_at : Blocks → ℕ → Option Owner
owner_at es n = owner_in (block_at es n)

-- the tile at this offset has the role and the length of the block
pub record IsTileAt (ts : List Tile) (n : ℕ) (b : Block) : Type 0 where
  pub tile : Tile
  pub is : tile_of ts b.role n ≡ Some tile
  pub len : tile.len ≡ b.len

-- the block at this offset has the role and the length of the tile
pub record IsBlockAt (es : Blocks) (n : ℕ) (role : Role) (t : Tile) : Type 0 where
  pub block : Block
  pub is : block_at es n ≡ Some block
  pub role_is : block.role ≡ role
  pub len : block.len ≡ t.len

-- the blocks are the tiles in use
pub record AreBlocks (ts : List Tile) (es : Blocks) : Type 0 where
  pub tiles : (n : ℕ) (b : Block) → block_at es n ≡ Some b → IsTileAt ts n b
  pub blocks : (n : ℕ) (role : Role) (t : Tile) → tile_of ts role n ≡ Some t → IsBlockAt es n role t

-- each entry is a block of the live set
abbrev pub AreBlocksIn : LiveSet → Blocks → Type 0
AreBlocksIn live es = (n : ℕ) (b : Block) → block_at es n ≡ Some b → IsTrue (is_live_in live n)

-- The visits that are allowed for the links in a block after a link to it is entered: six for a node, and three for
-- each 16 bytes of storage.
abbrev pub visit_budget : Role → ℕ → ℕ
visit_budget Object len = 0
visit_budget Index len = 0
visit_budget Storage len = 3 * (len / 16)
visit_budget Node len = 6

abbrev pub due_of : Block → ℕ
due_of b = elim b.owner [ None ↦ visit_budget b.role b.len | Some o ↦ 0 ]

-- the sum over all blocks without an entered link
abbrev pub unspent_budget : Blocks → ℕ
unspent_budget [] = 0
unspent_budget (e ∷ es) = due_of e.1 + unspent_budget es

-- and six for each waiting node
abbrev pub visits_due : OwnerState → ℕ
visits_due s = 6 * s.waiting + unspent_budget s.entries

-- the sum over all tiles
abbrev pub debts : List Tile → ℕ
debts [] = 0
debts (t ∷ ts) = (elim t.use_of [ None ↦ 0 | Some role ↦ visit_budget role t.len ]) + debts ts

-- ---- the blocks of tiles, before a link is entered

abbrev pub new_block : Role → ℕ → Block
new_block role len = record { role = role; len = len; owner = None; next = None }

-- the entry of a tile
abbrev pub entry_of : Tile → Option (ℕ × Block)
entry_of t = elim t.use_of [ None ↦ None | Some role ↦ Some (t.offset + 16, new_block role t.len) ]

-- the entries of all tiles
abbrev pub entries_of : List Tile → Blocks
entries_of ts = filter_map entry_of ts

-- the number of the free tiles and of the tiles in use
pub record AreCounted (ts : List Tile) (c : Counts) : Type 0 where
  pub free : c.free ≡ length (gaps_of ts)
  pub used : c.used ≡ length (entries_of ts)

-- the payload, the role and the length of a block
abbrev pub frame_of : ℕ × Block → ℕ × Role × ℕ
frame_of e = (e.0, e.1.role, e.1.len)

-- the roles and the lengths of the blocks
abbrev pub frames : Blocks → List (ℕ × Role × ℕ)
frames es = map frame_of es

-- ---- the nodes whose links are to be followed

-- the node is owned, its links are not followed yet, and it names the next waiting node
pub record IsWaiting (es : Blocks) (n : ℕ) (next : Option ℕ) : Type 0 where
  pub block : Block
  pub is : block_at es n ≡ Some block
  pub node : block.role ≡ Node
  pub owned : IsSome block.owner
  pub next_is : block.next ≡ next

-- each waiting node names the next, from the first on
abbrev pub IsChain : Blocks → Option ℕ → List ℕ → Type 0
IsChain es head [] = head ≡ None
IsChain es head (n ∷ ns) = (next : Option ℕ) × (head ≡ Some n) × IsWaiting es n next × IsChain es next ns

-- the list contains the number
abbrev pub IsMember : ℕ → List ℕ → Type 0
IsMember n [] = ⊥
IsMember n (x ∷ xs) = (n ≡ x) ⊎ IsMember n xs

-- ---- following links

-- a link of this role at this offset counts if it leads to a block of the role
abbrev pub MayCount : ℕ → Memory → List Tile → Role → ℕ → Type 0
MayCount format m ts role at = (target : ℕ) → LeadsTo m ts role at target → IsCountedLink format m ts at target

-- a link at an offset, with the first link on its way
abbrev pub owner : ℕ → ℕ → Owner
owner at root = record { at = at; root = root }

-- the link at an offset is entered, if it leads to a block of the role
abbrev pub IsMarkedLink : Memory → List Tile → Blocks → Role → ℕ → ℕ → Type 0
IsMarkedLink m ts es role at root = (target : ℕ) → LeadsTo m ts role at target
    → owner_at es target ≡ Some (owner at root)

-- only entries of indexes are entered
pub record IsUnmarked (ts : List Tile) (es : Blocks) : Type 0 where
  pub frame : frames es ≡ frames (entries_of ts)
  pub none : (n : ℕ) → owner_at es n ≡ None

-- both links of a node are entered, with the first link of the node
abbrev pub IsFollowed : Memory → List Tile → Blocks → ℕ → ℕ → Type 0
IsFollowed m ts es n root = IsMarkedLink m ts es Node n root × IsMarkedLink m ts es Node (n + 8) root

-- the offset is not that of a link of a node
abbrev pub IsStart : List Tile → ℕ → Type 0
IsStart ts at = (n : ℕ) (t : Tile) → tile_of ts Node n ≡ Some t → (at ≢ n) × (at ≢ n + 8)

-- the link is in a node that has an owner
pub record IsNodeLink (ts : List Tile) (es : Blocks) (at : ℕ) : Type 0 where
  pub node : ℕ
  pub tile : Tile
  pub is : tile_of ts Node node ≡ Some tile
  pub led : Owner
  pub noted : owner_at es node ≡ Some led
  pub link : (at ≡ node) ⊎ (at ≡ node + 8)

-- the first link of a link: itself, or the first link of its node
abbrev pub IsRooted : List Tile → Blocks → Owner → Type 0
IsRooted ts es o = (IsStart ts o.at × (o.root ≡ o.at)) ⊎ ((w : IsNodeLink ts es o.at) × (o.root ≡ w.led.root))

-- nodes begin at multiples of 16
abbrev pub AreAligned : List Tile → Type 0
AreAligned ts = (n : ℕ) (t : Tile) → tile_of ts Node n ≡ Some t → n % 16 ≡ 0

-- Each entered link counts. The links of each owned node are entered, unless the node waits or is the current one.
pub record IsMarking (format : ℕ) (m : Memory) (ts : List Tile) (now : Option ℕ) (s : OwnerState) : Type 0 where
  pub blocks : AreBlocks ts s.entries
  pub frame : frames s.entries ≡ frames (entries_of ts)
  pub aligned : AreAligned ts
  pub counts : (n : ℕ) (o : Owner) → owner_at s.entries n ≡ Some o → IsCountedLink format m ts o.at n
  pub rooted : (n : ℕ) (o : Owner) → owner_at s.entries n ≡ Some o → IsRooted ts s.entries o
  pub chain : List ℕ
  pub linked : IsChain s.entries s.pending chain
  pub count : length chain ≡ s.waiting
  pub room : visits_due s ≤ debts ts
  pub followed : (n : ℕ) (o : Owner) (t : Tile) → tile_of ts Node n ≡ Some t → owner_at s.entries n ≡ Some o
      → IsMember n chain ⊎ ((now ≡ Some n) ⊎ IsFollowed m ts s.entries n o.root)

-- the link at this offset counts, and another link that counts has the same target
pub record IsSharedAt (format : ℕ) (m : Memory) (ts : List Tile) (place : ℕ) : Type 0 where
  pub target : ℕ
  pub other : ℕ
  pub apart : place ≢ other
  pub here : IsCountedLink format m ts place target
  pub there : IsCountedLink format m ts other target

-- all entered links stay entered
abbrev pub KeepsMarks : OwnerState → OwnerState → Type 0
KeepsMarks old s = (n : ℕ) (o : Owner) → owner_at old.entries n ≡ Some o → owner_at s.entries n ≡ Some o

-- one more link is entered, and all entered links stay
pub record MarksLink (format : ℕ) (m : Memory) (ts : List Tile) (now : Option ℕ) (role : Role) (link : Owner)
    (old s : OwnerState) : Type 0 where
  pub marking : IsMarking format m ts now s
  pub noted : IsMarkedLink m ts s.entries role link.at link.root
  pub keeps : KeepsMarks old s
  pub only : (n : ℕ) (o : Owner) → owner_at s.entries n ≡ Some o → (owner_at old.entries n ≡ Some o) ⊎ (o ≡ link)
  pub less : visits_due s ≤ visits_due old
  -- the visits allowed for a newly entered storage are subtracted
  pub paid : role ≡ Storage → (target : ℕ) (t : Tile) → link_at m link.at ≡ Some target
      → tile_of ts Storage target ≡ Some t → owner_at old.entries target ≡ None
      → visits_due s + 3 * (t.len / 16) ≤ visits_due old

-- ---- of an image

-- the entered links of an image count, and the links of owned nodes are entered
abbrev pub IsMarkingOf : ℕ → List ℕ → OwnerState → Type 0
IsMarkingOf format b s = IsMarking format (bytes_of b) (tiles_in b) None s

-- the link at the offset counts, and another link that counts has its target
abbrev pub IsSharedIn : ℕ → List ℕ → ℕ → Type 0
IsSharedIn format b at = IsSharedAt format (bytes_of b) (tiles_in b) at

-- the pass has this effect, or finds a link that shares its block
abbrev pub MarksUnlessShared : {A : Type 0} → ℕ → List ℕ → Type 0 → Result A ℕ → Type 0
MarksUnlessShared format b Done result = MatchResult result (λ done. Done) (IsSharedIn format b)

-- the next waiting node of a block
abbrev pub next_in : Option Block → Option ℕ
next_in None = None
next_in (Some b) = b.next

-- the first link of a block
abbrev pub root_in : Option Block → ℕ → ℕ
root_in block n = elim (owner_in block) [ None ↦ n | Some o ↦ o.root ]

-- the links of one node were entered
pub record IsTurn (format : ℕ) (b : List ℕ) (old s : OwnerState) : Type 0 where
  pub marking : IsMarkingOf format b s
  pub keeps : KeepsMarks old s
  pub less : visits_due s + 6 ≤ visits_due old

-- no node waits any more
pub record FollowsAll (format : ℕ) (b : List ℕ) (old s : OwnerState) : Type 0 where
  pub marking : IsMarkingOf format b s
  pub none : s.pending ≡ None
  pub keeps : KeepsMarks old s

-- ---- all links that count

-- The links of the indexes, of storage, of elements and of roots are entered, and the links of the owned nodes.
pub record IsWholeMarking (format : ℕ) (m : Memory) (ts : List Tile) (s : OwnerState) : Type 0 where
  pub marking : IsMarking format m ts None s
  pub none : s.pending ≡ None
  pub named : 0 < index_capacity m 32 → IsMarkedLink m ts s.entries Index 32 32
  pub unique : 0 < index_capacity m 56 → IsMarkedLink m ts s.entries Index 56 56
  pub storage : (k : Kind) (at : ℕ) → Contains (values format m ts) (k, at) → IsTrue (has_storage k)
      → 0 < word_at m (at + 16) → IsMarkedLink m ts s.entries Storage at at
  pub element : (array : Tile) (i at : ℕ) → Contains (values format m ts) (Strings, at) → 0 < word_at m (at + 16)
      → good_for ts Storage (link_at m at) ≡ Some array
      → i < word_at m (at + 8) → 16 * i + 32 ≤ array.len
      → IsMarkedLink m ts s.entries Storage (payload array + 16 * i) (payload array + 16 * i)
  pub root : (k v : ScalarKind) (at : ℕ) → Contains (values format m ts) (Map k v, at)
      → IsMarkedLink m ts s.entries Node at at

-- all links of an image that count are entered
abbrev pub IsWholeMarkingOf : ℕ → List ℕ → OwnerState → Type 0
IsWholeMarkingOf format b s = IsWholeMarking format (bytes_of b) (tiles_in b) s

-- whether the block has an owner or needs none
abbrev pub is_owned : Block → Bool
is_owned b = same_role b.role Object || is_some b.owner

-- whether the tile has an owner or needs none
abbrev pub has_owner : Blocks → Tile → Bool
has_owner es t = not (needs_owner t) || is_some (owner_at es (payload t))

-- the offsets of the indexes in the header
abbrev pub IsIndexOffset : ℕ → Type 0
IsIndexOffset at = (at ≡ 32) ⊎ (at ≡ 56)
