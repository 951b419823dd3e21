-- The effects of calls that put and erase pairs.
use Rattle.std.specs.Prelude.{◌≡◌, ℕ, ◌+◌, ◌*◌, ◌≤◌, Bool, true, false, Option, Some, None, Result, Ok, List, [], ◌∷◌}
use Rattle.std.specs.Prelude.{MatchOption, MatchResult, length, map}
use Rattle.raw_region.specs.Format.{current}
use Rattle.raw_region.specs.Memory.{WindowState, HasBytesAt, SameBytes, SameSurroundings, bytes_of, word_at}
use Rattle.block_tags.specs.declared.tile.Role.TheVariants.{Node}
use Rattle.offset_link.specs.Link.{link_at}
use Rattle.link_tree.specs.{Tree.bits, Nodes.is_in}
use Rattle.best_fit.specs.Exchange.{ExchangesBlocks, SameBlockExcept}
use Rattle.best_fit.specs.{Fit.added, Fit.place, Fit.released, Extents.Extent, Extents.handle, Heap.live_of}
use Rattle.best_fit.specs.Heap.{AllocatesOk, ChangesBytes, AllocatesNoSpace, EncodesLiveSet, extent_at, heap_touches}
use Rattle.seg_types.specs.declared.plain.Plain.{Ghosts as Plain}
use Rattle.seg_map.specs.Map.{Pair, IsPairAt, node_len, pair_at, put_pair, remove_pair}
use Rattle.seg_map.specs.Places.{HoldsMap, IsPairIn, nodes_of_pairs, pair_node}
use Rattle.seg_map.specs.Searches.{entry_in, exit_in}

-- the three words of a map have these values, and nothing else changes
pub record WritesMapHeader (old new : WindowState) (at : ℕ) (root : Option ℕ) (count : ℕ) : Type 0 where
  pub change : ChangesBytes current old new at 24
  pub link : link_at (bytes_of new.bytes) at ≡ root
  pub counted : word_at (bytes_of new.bytes) (at + 8) ≡ count
  pub third : word_at (bytes_of new.bytes) (at + 16) ≡ 0

-- of all blocks except these nodes only the 24 bytes of the map change; the header stays except its word 24, and so do
-- the bytes around the window
pub record KeepsOutsideMap (old new : WindowState) (at : ℕ) (ns : List ℕ) : Type 0 where
  pub place : SameSurroundings old new
  pub front : SameBytes (bytes_of old.bytes) (bytes_of new.bytes) 0 24
  pub behind : SameBytes (bytes_of old.bytes) (bytes_of new.bytes) 32 128
  pub blocks : (x : Extent) → extent_at (live_of old.bytes) (handle x) ≡ Some x → is_in (handle x) ns ≡ false
      → SameBlockExcept (bytes_of old.bytes) (bytes_of new.bytes) at 24 x

-- the map has this number of pairs
abbrev pub CountsPairs : {K V : Type 0} → Plain K → Plain V → List ℕ → ℕ → ℕ → ℕ → Type 0
CountsPairs {K} {V} k v b h at n = (ps : List (Pair K V)) → HoldsMap k v b h at ps → n ≡ length ps

-- makes a map without pairs
pub record InitsMap {K V : Type 0} (k : Plain K) (v : Plain V) (old new : WindowState) (h at : ℕ) : Type 0 where
  pub change : ChangesBytes current old new (h + at) 24
  pub map : let none : List (Pair K V) = [] in HoldsMap k v new.bytes h at none

-- the root of the map's tree, the node of one of its pairs, and where the removal of this node begins: none means at
-- the root
pub record CanUnlinkPair {K V : Type 0} (k : Plain K) (v : Plain V) (c : WindowState) (h at : ℕ) (root start : Option ℕ)
    (node : ℕ) : Type 0 where
  pub pairs : List (Pair K V)
  pub key : K
  pub pair : Pair K V
  pub map : HoldsMap k v c.bytes h at pairs
  pub found : pair_at k.order pairs key ≡ Some pair
  pub is : pair_node pair ≡ node
  pub leads : root ≡ link_at (bytes_of c.bytes) (h + at)
  pub begins : start ≡ exit_in k c node map.map.tree.tree

-- the map now has these pairs: no block is allocated or freed, and of all blocks except these nodes only the 24 bytes
-- of the map change
pub record RewritesNodes {K V : Type 0} (k : Plain K) (v : Plain V) (old new : WindowState) (h at : ℕ) (ns : List ℕ)
    (ps : List (Pair K V)) : Type 0 where
  pub live : EncodesLiveSet current new.bytes (live_of old.bytes)
  pub beside : KeepsOutsideMap old new (h + at) ns
  pub map : HoldsMap k v new.bytes h at ps

-- the pair of a key is no longer in the map; its block is still in use
abbrev pub UnlinksPair : {K V : Type 0} → Plain K → Plain V → WindowState → WindowState → ℕ → ℕ → List (Pair K V)
    → K → Type 0
UnlinksPair k v old new h at ps key = RewritesNodes k v old new h at (nodes_of_pairs ps) (remove_pair k.order ps key)

-- the steps of a call of the tree, and this many more
abbrev pub TreeSteps : {K V : Type 0} → Plain K → Plain V → WindowState → ℕ → ℕ → ℕ → ℕ → ℕ → Type 0
TreeSteps {K} {V} k v old h at more before after = (ps : List (Pair K V)) → HoldsMap k v old.bytes h at ps
    → after ≤ before + 30 * bits (length ps + 1) + 32 + more

-- the steps of an insertion into the tree
abbrev pub InsertSteps : {K V : Type 0} → Plain K → Plain V → WindowState → ℕ → ℕ → ℕ → ℕ → Type 0
InsertSteps {K} {V} k v old h at before after = (ps : List (Pair K V)) → HoldsMap k v old.bytes h at ps
    → after ≤ before + 28 * bits (length ps + 1) + 32

-- the pair of a key is removed, and its block is freed
pub record ErasesPair {K V : Type 0} (k : Plain K) (v : Plain V) (old new : WindowState) (h at : ℕ)
    (ps : List (Pair K V)) (p : Pair K V) (key : K) : Type 0 where
  pub live : EncodesLiveSet current new.bytes (released (live_of old.bytes) (handle p.node))
  pub beside : KeepsOutsideMap old new (h + at) (nodes_of_pairs ps)
  pub map : HoldsMap k v new.bytes h at (remove_pair k.order ps key)

-- a key of the map is erased; nothing changes if the map lacks the key
abbrev pub ErasesKey : {K V : Type 0} → Plain K → Plain V → WindowState → WindowState → ℕ → ℕ → K → Bool → Type 0
ErasesKey {K} {V} k v old new h at key result =
    (ps : List (Pair K V)) → HoldsMap k v old.bytes h at ps
    → MatchOption (pair_at k.order ps key) ((result ≡ false) × (new ≡ old))
    (λ p. (result ≡ true) × ErasesPair k v old new h at ps p key)

-- the pair of a node is removed, and its block is freed
abbrev pub Drops : {K V : Type 0} → Plain K → Plain V → WindowState → WindowState → ℕ → ℕ → ℕ → Type 0
Drops {K} {V} k v old new h at node =
    (ps : List (Pair K V)) (key : K) (p : Pair K V) → HoldsMap k v old.bytes h at ps → pair_at k.order ps key ≡ Some p
    → pair_node p ≡ node → ErasesPair k v old new h at ps p key

-- all pairs are removed, and their blocks are freed; of all other blocks only the 24 bytes of the map change, and
-- nothing changes if the map was empty
pub record FreesAllPairs {K V : Type 0} (k : Plain K) (v : Plain V) (old new : WindowState) (h at : ℕ)
    (ps : List (Pair K V)) : Type 0 where
  pub change : ExchangesBlocks current old new (h + at) 24 (map (λ (p : Pair K V). p.node) ps) []
  pub empty : let none : List (Pair K V) = [] in HoldsMap k v new.bytes h at none
  pub same : ps ≡ [] → new ≡ old

-- all pairs of a map are removed with their blocks; an empty map changes no byte
abbrev pub ReleasesMap : {K V : Type 0} → Plain K → Plain V → WindowState → WindowState → ℕ → ℕ → Type 0
ReleasesMap {K} {V} k v old new h at = (ps : List (Pair K V)) → HoldsMap k v old.bytes h at ps
    → FreesAllPairs k v old new h at ps

-- a new block holds a node with null links, a key and a value
pub record AllocatesNodeOk {K V : Type 0} (k : Plain K) (v : Plain V) (old new : WindowState) (key : K) (value : V)
    (node : ℕ) : Type 0 where
  pub block : AllocatesOk current old new (node_len k.SIZE v.SIZE) Node node
  pub left : link_at (bytes_of new.bytes) node ≡ None
  pub right : link_at (bytes_of new.bytes) (node + 8) ≡ None
  pub is_a_key : k.is_value key ≡ true
  pub is_a_value : v.is_value value ≡ true
  pub key_there : HasBytesAt (bytes_of new.bytes) (node + 16) (k.spelling key)
  pub value_there : HasBytesAt (bytes_of new.bytes) (node + 16 + k.SIZE) (v.spelling value)

-- a node is allocated, or there is no space and nothing changes
abbrev pub AllocatesNode : {K V E : Type 0} → Plain K → Plain V → WindowState → WindowState → K → V → Result ℕ E
    → Type 0
AllocatesNode {K} {V} k v old new key value result = MatchResult result (AllocatesNodeOk k v old new key value)
    (λ e. AllocatesNoSpace old new (node_len k.SIZE v.SIZE) Node)

-- a pair whose node has null links, and whose key is not in the map
pub record IsUnlinkedPair {K V : Type 0} (k : Plain K) (v : Plain V) (b : List ℕ) (h : ℕ) (ps : List (Pair K V))
    (p : Pair K V) : Type 0 where
  pub absent : pair_at k.order ps p.key ≡ None
  pub block : IsPairIn k v (live_of b) h p
  pub other : is_in (pair_node p) (nodes_of_pairs ps) ≡ false
  pub left : link_at (bytes_of b) (pair_node p) ≡ None
  pub right : link_at (bytes_of b) (pair_node p + 8) ≡ None
  pub bytes : IsPairAt k.SIZE k.spelling v.spelling (bytes_of b) p

-- a map, and the node of a pair that is not yet in it
pub record HasUnlinkedNode {K V : Type 0} (k : Plain K) (v : Plain V) (b : List ℕ) (h at node : ℕ) : Type 0 where
  pub pairs : List (Pair K V)
  pub pair : Pair K V
  pub map : HoldsMap k v b h at pairs
  pub loose : IsUnlinkedPair k v b h pairs pair
  pub is : pair_node pair ≡ node

-- a pair can be linked into the tree with this root, and where the insertion of its node begins: none means at the root
pub record CanLinkPair {K V : Type 0} (k : Plain K) (v : Plain V) (c : WindowState) (h at : ℕ) (root start : Option ℕ)
    (node : ℕ) : Type 0 where
  pub there : HasUnlinkedNode k v c.bytes h at node
  pub leads : root ≡ link_at (bytes_of c.bytes) (h + at)
  pub begins : start ≡ entry_in k c there.pair.key there.map.map.tree.tree

-- the pair is in the map
abbrev pub LinksPairOk : {K V : Type 0} → Plain K → Plain V → WindowState → WindowState → ℕ → ℕ → List (Pair K V)
    → Pair K V → Type 0
LinksPairOk k v old new h at ps p =
    RewritesNodes k v old new h at (pair_node p ∷ nodes_of_pairs ps) (put_pair k.order p ps)

-- the node of a pair is linked into the tree of its map
abbrev pub LinksPair : {K V : Type 0} → Plain K → Plain V → WindowState → WindowState → ℕ → ℕ → ℕ → Type 0
LinksPair {K} {V} k v old new h at node =
    (ps : List (Pair K V)) (p : Pair K V) → HoldsMap k v old.bytes h at ps → IsUnlinkedPair k v old.bytes h ps p
    → pair_node p ≡ node → LinksPairOk k v old new h at ps p

-- the map has one more pair, in a new block
pub record PutsNewPair {K V : Type 0} (k : Plain K) (v : Plain V) (old new : WindowState) (h at : ℕ)
    (ps : List (Pair K V)) (key : K) (value : V) : Type 0 where
  pub extent : Extent
  pub placed : place (live_of old.bytes) (node_len k.SIZE v.SIZE) Node ≡ Some extent
  pub live : EncodesLiveSet current new.bytes (added (live_of old.bytes) extent)
  pub beside : KeepsOutsideMap old new (h + at) (nodes_of_pairs ps)
  pub map : HoldsMap k v new.bytes h at (put_pair k.order (record { key = key; value = value; node = extent }) ps)

-- the value of a key is replaced in its block: only the bytes of the value change
pub record OverwritesPair {K V : Type 0} (k : Plain K) (v : Plain V) (old new : WindowState) (h at : ℕ)
    (ps : List (Pair K V)) (p : Pair K V) (key : K) (value : V) : Type 0 where
  pub change : ChangesBytes current old new (handle p.node + 16 + k.SIZE) v.SIZE
  pub beside : KeepsOutsideMap old new (h + at) (nodes_of_pairs ps)
  pub map : HoldsMap k v new.bytes h at (put_pair k.order (record { key = key; value = value; node = p.node }) ps)

-- there is no space for the block of a new pair, and nothing changes
pub record PutsNoSpace {K V : Type 0} (k : Plain K) (v : Plain V) (old new : WindowState) : Type 0 where
  pub none : place (live_of old.bytes) (node_len k.SIZE v.SIZE) Node ≡ None
  pub same : new ≡ old

-- a new key gets a new pair, or there is no space and nothing changes; a key of the map gets the new value
abbrev pub PutsPair : {K V E : Type 0} → Plain K → Plain V → WindowState → WindowState → ℕ → ℕ → K → V
    → Result Bool E → Type 0
PutsPair {K} {V} k v old new h at key value result =
    (ps : List (Pair K V))
    → HoldsMap k v old.bytes h at ps → MatchOption (pair_at k.order ps key) (MatchResult result (λ b. (b ≡ true)
    × PutsNewPair k v old new h at ps key value) (λ e. PutsNoSpace k v old new))
    (λ p. (result ≡ Ok false) × OverwritesPair k v old new h at ps p key value)

-- the steps of the two tree calls of a change, one step that reads the pair, and the touches of one call of the heap
abbrev pub ChangeSteps : {K V : Type 0} → Plain K → Plain V → WindowState → ℕ → ℕ → ℕ → ℕ → Type 0
ChangeSteps {K} {V} k v old h at before after =
    (ps : List (Pair K V)) → HoldsMap k v old.bytes h at ps
    → after ≤ before + 32 * bits (length ps + 1) + 33 + heap_touches (live_of old.bytes)
