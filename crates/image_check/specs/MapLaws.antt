-- The laws of the pairs of a map in an image, as nodes.
use Rattle.std.proofs.Common.{◌≡◌, refl, ap, ◌∙◌, ℕ, ◌+◌, ◌^◌, ◌≤◌, inl, inr, Bool, true, false, ◌&&◌, List, length}
use Rattle.std.proofs.Common.{arith, IsTrue}
use Rattle.std.specs.Prelude.{Option, Some, None, ℤ, pos, negsuc, int_lt}
use Rattle.std.proofs.lemmas.Bool.{cases_Bool, and_parts, cond-true, cond-false}
use Rattle.raw_region.specs.Memory.{Memory, WindowState, bytes_of, read}
use Rattle.offset_link.specs.Link.{link_at}
use Rattle.link_tree.specs.Nodes.{is_in, leads}
use Rattle.seg_types.specs.declared.kinds.ScalarKind.{ScalarKind}
use Rattle.seg_types.specs.Kinds.{size_of, is_spelling}
use Rattle.image_check.specs.Fields.{key_at}
use Rattle.image_check.specs.FreeNodes.{is_target}
use Rattle.image_check.specs.FreeLaws.{targets_finite}
use Rattle.image_check.specs.Owners.{Blocks, block_at}
use Rattle.image_check.specs.MapNodes.{is_pair, is_node_block, kept_link, key_before, pair_cells, pair_len}

-- a block is a pair of the map
pub record IsPairNode (c : WindowState) (es : Blocks) (root : ℕ) (k v : ScalarKind) (n : ℕ) : Type 0 where
  pub place : is_target c n ≡ true
  pub block : is_node_block root (pair_len k v) (block_at es n) ≡ true
  pub key : is_spelling k (read (bytes_of c.bytes) (n + 16) (size_of k)) ≡ true
  pub value : is_spelling v (read (bytes_of c.bytes) (n + 16 + size_of k) (size_of v)) ≡ true

pub is_pair-IsPairNode : (c : WindowState) (es : Blocks) (root : ℕ) (k v : ScalarKind) (n : ℕ)
    → is_pair c es root k v n ≡ true → IsPairNode c es root k v n
unfolding is_pair
is_pair-IsPairNode c es root k v n h =
    let place = is_target c n in
    let block = is_node_block root (pair_len k v) (block_at es n) in
    let key = is_spelling k (read (bytes_of c.bytes) (n + 16) (size_of k)) in
    let value = is_spelling v (read (bytes_of c.bytes) (n + 16 + size_of k) (size_of v)) in
    let three = and_parts (place && block && key) value h in
    let two = and_parts (place && block) key three.0 in
    let one = and_parts place block two.0 in
    record { place = one.0; block = one.1; key = two.1; value = three.1 }

pub pairs_finite : (c : WindowState) (es : Blocks) (root : ℕ) (k v : ScalarKind)
    → (ns : List ℕ) × (length ns ≤ 2 ^ 40) × ((n : ℕ) → is_pair c es root k v n ≡ true → is_in n ns ≡ true)
pairs_finite c es root k v = let f = targets_finite c
    in (f.0, f.1, λ n h. f.2 n (is_pair-IsPairNode c es root k v n h).place)

-- ---- links lead to pairs

pub kept_leads : (good : ℕ → Bool) (n : ℕ) (link : Option ℕ) → good n ≡ true → leads good (kept_link good n link) ≡ true
kept_leads good n None h = refl
kept_leads good n (Some target) h = elim (cases_Bool (good target)) [
  | inl e ↦ ap good (cond-true (good target) target n e) ∙ e
  | inr e ↦ ap good (cond-false (good target) target n e) ∙ h
]

pub pairs_left : (c : WindowState) (es : Blocks) (root : ℕ) (k v : ScalarKind) (n : ℕ)
    → is_pair c es root k v n ≡ true → leads (is_pair c es root k v) (pair_cells c es root k v n).left ≡ true
unfolding pair_cells
pairs_left c es root k v n h = kept_leads (is_pair c es root k v) n (link_at (bytes_of c.bytes) n) h

pub pairs_right : (c : WindowState) (es : Blocks) (root : ℕ) (k v : ScalarKind) (n : ℕ)
    → is_pair c es root k v n ≡ true → leads (is_pair c es root k v) (pair_cells c es root k v n).right ≡ true
unfolding pair_cells
pairs_right c es root k v n h = kept_leads (is_pair c es root k v) n (link_at (bytes_of c.bytes) (n + 8)) h

-- ---- the order

pub int_lt-trans : (x y z : ℤ) → IsTrue (int_lt x y) → IsTrue (int_lt y z) → IsTrue (int_lt x z)
int_lt-trans (pos a) (pos b) (pos c) h k = grind arith
int_lt-trans (pos a) (pos b) (negsuc c) h k = grind arith
int_lt-trans (pos a) (negsuc b) z h k = absurd (cc)
int_lt-trans (negsuc a) (pos b) (pos c) h k = refl
int_lt-trans (negsuc a) (pos b) (negsuc c) h k = absurd (cc)
int_lt-trans (negsuc a) (negsuc b) (pos c) h k = refl
int_lt-trans (negsuc a) (negsuc b) (negsuc c) h k = grind arith

pub int_lt-not : (x : ℤ) → IsTrue (int_lt x x) → ⊥
int_lt-not (pos a) h = grind arith
int_lt-not (negsuc a) h = grind arith

pub keys_irreflexive : (m : Memory) (k : ScalarKind) (n : ℕ) → key_before m k n n ≡ false
keys_irreflexive m k n = elim (cases_Bool (key_before m k n n)) [
  | inl e ↦ absurd (int_lt-not (key_at m k n) e)
  | inr e ↦ e
]

pub keys_transitive : (m : Memory) (k : ScalarKind) (a b c : ℕ) → key_before m k a b ≡ true
    → key_before m k b c ≡ true → key_before m k a c ≡ true
keys_transitive m k a b c x y = int_lt-trans (key_at m k a) (key_at m k b) (key_at m k c) x y
