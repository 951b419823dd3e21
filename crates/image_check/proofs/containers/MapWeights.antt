-- The nodes of a map among all blocks: their links lead to nodes of the map, and their rates cover the check.
use Rattle.image_check.proofs.Common.{Block, Blocks, IsLinkClosed, List, Node, None, Option, ScalarKind, Some}
use Rattle.image_check.proofs.Common.{WindowState, [], and_parts, ap, arith, block_at, block_weight, bytes_of}
use Rattle.image_check.proofs.Common.{cases_Bool, cond-false, cond-true, container_block_rates, false≢true}
use Rattle.image_check.proofs.Common.{if◌then◌else◌, inl, inr, is_in, is_pair-IsPairNode, is_rooted, kept_link, leads}
use Rattle.image_check.proofs.Common.{leb-true, length, link_at, nat_eq, nat_le, or_left, or_right, rate_of, refl}
use Rattle.image_check.proofs.Common.{rooted_weight, same_role, sym, true, ℕ, ◌&&◌, ◌*◌, ◌+◌, ◌/◌, ◌∙◌, ◌∷◌, ◌≡◌, ◌≤◌}
use Rattle.std.specs.Map.{lookup}
use Rattle.image_check.specs.MapNodes.{is_node_block, is_pair, pair_cells, pair_len}
use Rattle.image_check.proofs.containers.MapPairs.{size-least}
use Rattle.image_check.proofs.block_collection.UsedTile.{same_role-is}

-- the payloads of the nodes of a map
pub map_nodes : ℕ → ℕ → Blocks → List ℕ
map_nodes root len [] = []
map_nodes root len (e ∷ es) = if is_node_block root len (Some e.1) then e.0
    ∷ map_nodes root len es else map_nodes root len es

pub listed : (root len n : ℕ) (es : Blocks) → is_node_block root len (block_at es n) ≡ true
    → is_in n (map_nodes root len es) ≡ true
unfolding map_nodes
listed root len n [] h = absurd (false≢true h)
listed root len n (e ∷ es) h = elim (cases_Bool (nat_eq n e.0)) [
  | inl s ↦
      let here : is_node_block root len (Some e.1) ≡ true =
      sym (ap (is_node_block root len) (cond-true (nat_eq n e.0) (Some e.1) (lookup (nat_eq n) es) s)) ∙ h in
      ap (is_in n) (cond-true (is_node_block root len (Some e.1)) (e.0 ∷ map_nodes root len es)
      (map_nodes root len es) here) ∙ or_left (nat_eq n e.0) (is_in n (map_nodes root len es)) s
  | inr s ↦
      let rest = listed root len n es
      (sym (ap (is_node_block root len) (cond-false (nat_eq n e.0) (Some e.1) (lookup (nat_eq n) es) s)) ∙ h) in
      elim (cases_Bool (is_node_block root len (Some e.1))) [
        | inl t ↦ ap (is_in n) (cond-true (is_node_block root len (Some e.1)) (e.0 ∷ map_nodes root len es)
            (map_nodes root len es) t) ∙ or_right (nat_eq n e.0) (is_in n (map_nodes root len es)) rest
        | inr t ↦ ap (is_in n) (cond-false (is_node_block root len (Some e.1)) (e.0 ∷ map_nodes root len es)
            (map_nodes root len es) t) ∙ rest
      ]
]

pub pair-listed : (c : WindowState) (es : Blocks) (root : ℕ) (k v : ScalarKind) (n : ℕ)
    → is_pair c es root k v n ≡ true → is_in n (map_nodes root (pair_len k v) es) ≡ true
pair-listed c es root k v n h = listed root (pair_len k v) n es (is_pair-IsPairNode c es root k v n h).block

pub lead-listed : (c : WindowState) (es : Blocks) (root : ℕ) (k v : ScalarKind) (o : Option ℕ)
    → leads (is_pair c es root k v) o ≡ true → leads (λ n. is_in n (map_nodes root (pair_len k v) es)) o ≡ true
lead-listed c es root k v None h = refl
lead-listed c es root k v (Some n) h = pair-listed c es root k v n h

kept-listed : (c : WindowState) (es : Blocks) (root : ℕ) (k v : ScalarKind) (n : ℕ) (o : Option ℕ)
    → is_in n (map_nodes root (pair_len k v) es) ≡ true
    → leads (λ x. is_in x (map_nodes root (pair_len k v) es)) (kept_link (is_pair c es root k v) n o) ≡ true
kept-listed c es root k v n None i = refl
kept-listed c es root k v n (Some x) i =
    let ns = map_nodes root (pair_len k v) es in
    elim (cases_Bool (is_pair c es root k v x)) [
      | inl e ↦ ap (λ y. is_in y ns) (cond-true (is_pair c es root k v x) x n e) ∙ pair-listed c es root k v x e
      | inr e ↦ ap (λ y. is_in y ns) (cond-false (is_pair c es root k v x) x n e) ∙ i
    ]

pub nodes-closed : (c : WindowState) (es : Blocks) (root : ℕ) (k v : ScalarKind)
    → IsLinkClosed (pair_cells c es root k v) (map_nodes root (pair_len k v) es)
unfolding pair_cells
nodes-closed c es root k v = record {
  left = λ n i. kept-listed c es root k v n (link_at (bytes_of c.bytes) n) i;
  right = λ n i. kept-listed c es root k v n (link_at (bytes_of c.bytes) (n + 8)) i;
}

-- ---- the rates of the nodes

node-weight : (root len : ℕ) (b : Block) → 34 ≤ len → is_node_block root len (Some b) ≡ true
    → 26 ≤ (if is_rooted root b.owner then block_weight b else 0)
node-weight root len b l h =
    let two = and_parts (same_role Node b.role && nat_le len b.len) (is_rooted root b.owner) h in
    let one = and_parts (same_role Node b.role) (nat_le len b.len) two.0 in
    let long = leb-true len b.len one.1 in
    let weight : block_weight b ≡ 13 * (b.len / 16) =
    ap (λ r. rate_of container_block_rates (Some r) * (b.len / 16)) (sym (same_role-is Node b.role one.0)) in
    let counted = cond-true (is_rooted root b.owner) (block_weight b) 0 two.1 in
    omega arith

pub nodes-weigh : (root len : ℕ) (es : Blocks) → 34 ≤ len → 26 * length (map_nodes root len es) ≤ rooted_weight root es
unfolding map_nodes
nodes-weigh root len [] l = omega arith
nodes-weigh root len (e ∷ es) l =
    let rest = nodes-weigh root len es l in
    elim (cases_Bool (is_node_block root len (Some e.1))) [
      | inl t ↦
          let more = ap (λ (ns : List ℕ).
          length ns) (cond-true (is_node_block root len (Some e.1)) (e.0 ∷ map_nodes root len es)
          (map_nodes root len es) t) in
          let weight = node-weight root len e.1 l t in
          omega arith
      | inr t ↦
          let less = ap (λ (ns : List ℕ).
          length ns) (cond-false (is_node_block root len (Some e.1)) (e.0 ∷ map_nodes root len es)
          (map_nodes root len es) t) in
          omega arith
    ]

-- five visits for a step of the check
pub check-visits : (c : WindowState) (es : Blocks) (root : ℕ) (k v : ScalarKind) (link : Option ℕ) (steps : ℕ)
    → leads (is_pair c es root k v) link ≡ true
    → ((ns : List ℕ) → IsLinkClosed (pair_cells c es root k v) ns → leads (λ n. is_in n ns) link ≡ true
    → steps ≤ 5 * length ns + 5) → 5 * steps ≤ 25 + rooted_weight root es
check-visits c es root k v link steps l f =
    let ns = map_nodes root (pair_len k v) es in
    let most = f ns (nodes-closed c es root k v) (lead-listed c es root k v link l) in
    let a = size-least k in
    let b = size-least v in
    let weight = nodes-weigh root (pair_len k v) es (omega arith) in
    omega arith
