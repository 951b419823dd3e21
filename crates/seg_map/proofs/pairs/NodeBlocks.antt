-- Blocks of nodes: reading them, and the parts that stay if one field of one node changes.
use Rattle.seg_map.proofs.Common as common
use common.{Memory, List, length, IsTrue, eq-eqb, Extent, word_at, current, link_at, LiveSet, is_kept, kept_of, keys_in}
use common.{refl, false≢true, is_live_in, beside_cell, lay_out_one, is_pair_node, links_among, comes_before, suc}
use common.{handle, ne_eqb, Rising, nat_lt, nat_le, Option, IfSome, le-leb, end_of, others, key_at, key_of, ◌≡◌, ap}
use common.{◌+◌, ◌==◌, Some, find, read, lies, subst, Bool, true, false, None, SameBytes, is_in, leads, IsGoodNodeSet}
use common.{Plain, ℕ, ◌-◌, ◌≤◌, inl, inr, ◌∷◌, In, [], sym, ◌∙◌, ◌%◌, ◌<◌, ◌⊎◌, WindowState, ◌&&◌, or_parts}
use common.{SameBytesExcept, EncodesLiveSet, is_proper, room-less, both_ways, SameSurroundings, pair_cells, node_block}
use common.{node_place, arith, eqb-true, leb-true, has_room, list_any, cases_eq, or_cases, or_right, ltb-true}
use common.{ChangesBytes, and_parts, is_proper-IsProper, allocated-room, AllByRecursion, PairNode-is_pair_node}
use common.{is_pair_node-PairNode, live_of, changed-room, if◌then◌else◌, SameBytesExcept-SameBytes}
use common.{SameBytesExcept-word, SameBytesExcept-link, is_link_byte, stands_before, passing, or_left, bytes_of}
use common.{all_from, cells_of, is_other, PairNode, cells_at, disjoint, value_in, not-true, ◌||◌, not}
use Rattle.best_fit.proofs.Laws.{legal_size, others-here, others-past}
use Rattle.best_fit.specs.{Heap.Recolours, Heap.is_node_in, Heap.is_node_role, FreeTree.is_red, Extents.holds}
use Rattle.std.proofs.Math.Nat.{le_refl}
use Rattle.std.proofs.{Common.zero, Common.◌/◌}
use Rattle.seg_map.specs.PairLaws.{IsGoodNodeSet-is_good, link_parts, links_at, NodeBlock}
use Rattle.seg_map.specs.{declared.reading.KeyProbe.KeyProbe, PairNodes.is_good, PairNodes.no_cell}
use Rattle.seg_map.specs.PairNodes.{lies_in_block}
use Rattle.std.proofs.lemmas.Bool.Decides.{nat_tests}
use Rattle.raw_region.proofs.Laws.{SameBytes-read}
use Rattle.link_tree.specs.{Nodes.with_left, Nodes.with_right, Nodes.with_red, Tree.Cell}

-- no extent begins before the first
pub begins_behind : (n : ℕ) (zs : List Extent) (x : Extent) → Rising n zs → In x zs → n ≤ x.offset
begins_behind n [] x r i = absurd i
begins_behind n (z ∷ zs) x r (inl e) = subst (λ (w : Extent). n ≤ w.offset) e r.0
begins_behind n (z ∷ zs) x r (inr i) = omega (arith, r.0, begins_behind (z.offset + 1) zs x r.1 i)

-- each extent is the one of its handle
pub own_handle : (n : ℕ) (zs : List Extent) (x : Extent) → Rising n zs → In x zs
    → find (λ (w : Extent). handle w == handle x) zs ≡ Some x
own_handle n [] x r i = absurd i
own_handle n (z ∷ zs) x r (inl e) = rw (eq-eqb (handle z) (handle x) (ap handle e)) (ap Some e)
own_handle n (z ∷ zs) x r (inr i) =
    let l = begins_behind (z.offset + 1) zs x r.1 i in
    rw (ne_eqb (handle z) (handle x) (λ f. omega (arith, l, f))) (own_handle (z.offset + 1) zs x r.1 i)

-- a sum within a block is small
pub small : (b : List ℕ) (h n : ℕ) → IsTrue (is_proper (live_of b)) → IsTrue (has_room (live_of b) h n)
    → h + n ≤ 1073741824
unfolding live_of
small b h n proper room =
    let r = passing (λ (x : Extent). (handle x == h) && holds x n) (live_of b).extents room in
    let two = and_parts _ _ r.passes in let at = eqb-true (handle r.extent) h two.0 in
    let long = leb-true (n + 16) r.extent.len two.1 in let p = is_proper-IsProper (live_of b) proper in
    let high = (lies 128 (live_of b).extents ((live_of b).size - 16) r.extent p.list r.listed).high in
    let size = (legal_size (live_of b).size p.size).high in omega arith

pub length-read : (m : Memory) (at n : ℕ) → length (read m at n) ≡ n
length-read m at zero = refl
length-read m at (suc n) = ap suc (length-read m (at + 1) n)

-- rules that show that there is room, and that sums within a block fit
pub ruleset rooms = (room-less, small, changed-room, allocated-room, length-read)

-- ---- one field of one node changes

-- the effect of a setter on the window
pub record Changed (len : ℕ) (ns : List ℕ) (c d : WindowState) (n : ℕ) : Type 0 where
  pub place : SameSurroundings c d
  pub live : live_of d.bytes ≡ live_of c.bytes
  pub bytes : (k : ℕ) → is_kept ns (live_of c.bytes) k ≡ true → bytes_of d.bytes k ≡ bytes_of c.bytes k
  pub colours : (x : Extent) → In x (live_of c.bytes).extents → (handle x ≡ n → ⊥)
      → word_at (bytes_of d.bytes) (x.offset + 8) % 16 ≡ word_at (bytes_of c.bytes) (x.offset + 8) % 16
  pub links : links_among (bytes_of d.bytes) ns n ≡ true
  pub others : (m : ℕ) → is_in m ns ≡ true → (m ≡ n → ⊥) → cells_of (bytes_of d.bytes) m ≡ cells_of (bytes_of c.bytes) m
  pub keys : (m : ℕ) → is_in m ns ≡ true → SameBytes (bytes_of c.bytes) (bytes_of d.bytes) (m + 16) (m + len)

-- two values that are equal where a test holds
where_true : {A : Type 0} (b : Bool) (z : A) {x y : A} → (b ≡ true → x ≡ y)
    → (if b then x else z) ≡ (if b then y else z)
where_true true z e = e refl
where_true false z e = refl

module _ {len : ℕ} {ns : List ℕ} {c d : WindowState} {n : ℕ} (g : PairNode len ns c n) (h : Changed len ns c d n) where
  links_d : (m : ℕ) → is_in m ns ≡ true → links_among (bytes_of d.bytes) ns m ≡ true
  links_d m i = by_place (cases_eq m n)
    where
      by_place : (m ≡ n) ⊎ (m ≡ n → ⊥) → links_among (bytes_of d.bytes) ns m ≡ true
      by_place (inl e) = rw e h.links
      by_place (inr o) = subst (λ (x : Cell). (leads (λ k. is_in k ns) x.left && leads (λ k. is_in k ns) x.right)
          ≡ true) (sym (h.others m i o)) (links_at len ns c m (record { good = g.good; listed = i }))

  pub good_stays : IsGoodNodeSet len ns d
  good_stays = record {
    proper = rw h.live g.good.proper;
    blocks = rw h.live g.good.blocks;
    links = all_from (links_among (bytes_of d.bytes) ns) ns links_d;
  }

  pub nodes_stay : is_pair_node len ns d ≡ is_pair_node len ns c
  unfolding is_pair_node
  nodes_stay = let good : is_good len ns d ≡ is_good len ns c =
      IsGoodNodeSet-is_good len ns d good_stays ∙ sym (IsGoodNodeSet-is_good len ns c g.good)
      in λ i m. good i && is_in m ns

  byte_stays : (k : ℕ) → (if is_kept ns (live_of d.bytes) k then bytes_of d.bytes k else 0)
      ≡ (if is_kept ns (live_of c.bytes) k then bytes_of c.bytes k else 0)
  byte_stays k = rw h.live (where_true (is_kept ns (live_of c.bytes) k) 0 (h.bytes k))

  other_colour : (k : ℕ) → is_other ns (live_of c.bytes) k ≡ true
      → word_at (bytes_of d.bytes) (k - 8) % 16 ≡ word_at (bytes_of c.bytes) (k - 8) % 16
  other_colour k t =
      let two = and_parts _ _ t in let l = passing (λ (x : Extent). handle x == k) (live_of c.bytes).extents two.0 in
      let far : k ≡ n → ⊥ = λ e. both_ways (is_in k ns) (not-true (is_in k ns) two.1)
      (ap (λ j. is_in j ns) e ∙ g.listed) in
      let at = eqb-true (handle l.extent) k l.passes in let w : l.extent.offset + 8 ≡ k - 8 = omega arith in
      subst (λ a. word_at (bytes_of d.bytes) a % 16 ≡ word_at (bytes_of c.bytes) a % 16) w
      (h.colours l.extent l.listed (λ e. far (sym at ∙ e)))

  colour_stays : (k : ℕ)
      → (if is_other ns (live_of d.bytes) k then word_at (bytes_of d.bytes) (k - 8) % 16 else 0)
      ≡ (if is_other ns (live_of c.bytes) k then word_at (bytes_of c.bytes) (k - 8) % 16 else 0)
  colour_stays k = rw h.live (where_true (is_other ns (live_of c.bytes) k) 0 (other_colour k))

  pub kept_stays : kept_of ns d ≡ kept_of ns c
  unfolding kept_of
  kept_stays =
      let place = h.place in let live = h.live in
      λ i. record {
        own = ns;
        before = place.before i;
        after = place.after i;
        live = live i;
        byte = λ k. byte_stays k i;
        colour = λ k. colour_stays k i;
      }

  other_cell : (m : ℕ) → (m ≡ n → ⊥) → pair_cells len ns d m ≡ pair_cells len ns c m
  unfolding pair_cells
  other_cell m o = rw (ap (λ (p : ℕ → Bool). p m) nodes_stay) (where_true (is_pair_node len ns c m) no_cell (λ e.
      h.others m (is_pair_node-PairNode len ns c m e).listed o))

  -- the cells after a change of one of them
  pub one_cell : (f : Cell → Cell) → cells_of (bytes_of d.bytes) n ≡ f (cells_of (bytes_of c.bytes) n)
      → pair_cells len ns d ≡ (λ (m : ℕ). if m == n then f (pair_cells len ns c m) else pair_cells len ns c m)
  one_cell f own = λ i m. at m (cases_eq m n) i
    where
      here : pair_cells len ns d n ≡ f (pair_cells len ns c n)
      here =
          let e = PairNode-is_pair_node len ns c n g in
          cells_at len ns d n (ap (λ (p : ℕ → Bool). p n) nodes_stay ∙ e) ∙ own ∙ ap f (sym (cells_at len ns c n e))

      at : (m : ℕ) → (m ≡ n) ⊎ (m ≡ n → ⊥) → pair_cells len ns d m
          ≡ (if m == n then f (pair_cells len ns c m) else pair_cells len ns c m)
      at m (inl e) = rw (eq-eqb _ _ e, e) here
      at m (inr o) = rw (ne_eqb _ _ o) (other_cell m o)

-- ---- the keys stay

module _ {K : Type 0} (value : List ℕ → Option K) (size : ℕ) {ns : List ℕ} {c d : WindowState} {n : ℕ}
    (g : PairNode (16 + size) ns c n) (h : Changed (16 + size) ns c d n) where
  key_stays : (m : ℕ) → key_of value size ns d m ≡ key_of value size ns c m
  unfolding key_of key_at
  key_stays m = rw (ap (λ (p : ℕ → Bool). p m) (nodes_stay g h)) (where_true (is_pair_node (16 + size) ns c m) None
      (λ e. ap value (SameBytes-read _ _ _ _ (m + 16) size
      (h.keys m (is_pair_node-PairNode (16 + size) ns c m e).listed) (le_refl (m + 16)) (omega arith))))

  pub keys_stay : key_of value size ns d ≡ key_of value size ns c
  keys_stay = λ i m. key_stays m i

-- ---- conditions of the heap's calls on a node

-- an element of a list that passes a test: some element does
pub any_at : (q : Extent → Bool) (xs : List Extent) (x : Extent) → In x xs → q x ≡ true → list_any q xs ≡ true
any_at q [] x i h = absurd i
any_at q (y ∷ ys) x (inl e) h = or_left _ _ (ap q e ∙ h)
any_at q (y ∷ ys) x (inr i) h = or_right _ _ (any_at q ys x i h)

-- a link to a node leads to a multiple of 16
pub target_whole : (len : ℕ) (ns : List ℕ) (c : WindowState) (to : Option ℕ) → leads (is_pair_node len ns c) to ≡ true
    → IfSome to (λ t. t % 16 ≡ 0)
target_whole len ns c None h = tt
target_whole len ns c (Some n) h = (node_place len ns c n (is_pair_node-PairNode len ns c n h)).whole

leads_in : (len : ℕ) (ns : List ℕ) (c : WindowState) (to : Option ℕ) → leads (is_pair_node len ns c) to ≡ true
    → leads (λ k. is_in k ns) to ≡ true
leads_in len ns c None h = refl
leads_in len ns c (Some n) h = (is_pair_node-PairNode len ns c n h).listed

-- ---- the bytes of a node

-- a byte of a node's links is not kept
kept_away : (ns : List ℕ) (live : LiveSet) (n k : ℕ) → is_in n ns ≡ true → is_kept ns live k ≡ true
    → (k < n) ⊎ (n + 16 ≤ k)
kept_away ns live n k i t = off ns i (not-true (is_link_byte ns k) (and_parts _ _ t).1)
  where
    off : (ms : List ℕ) → is_in n ms ≡ true → is_link_byte ms k ≡ false → (k < n) ⊎ (n + 16 ≤ k)
    off [] j f = absurd (false≢true j)
    off (m ∷ ms) j f =
        let two = or_parts (nat_le m k && nat_lt k (m + 16)) (is_link_byte ms k) f in
        elim (or_cases _ _ j) [
          | inl e ↦ let same = eqb-true n m e in grind (arith, nat_tests, two.0, same)
          | inr r ↦ off ms r two.1
        ]

-- another block is apart from a node's payload
pub block_apart : {len : ℕ} {ns : List ℕ} {c : WindowState} {n : ℕ} (x : Extent) → PairNode len ns c n
    → In x (live_of c.bytes).extents → (handle x ≡ n → ⊥) → (x.offset + x.len ≤ n - 16) ⊎ (n + len ≤ x.offset)
block_apart {len} {ns} {c} {n} x g i o =
    let p = node_place len ns c n g in let b = p.block in let at = b.at in
    let r = is_proper-IsProper (live_of c.bytes) g.good.proper in
    elim (disjoint 128 (live_of c.bytes).extents ((live_of c.bytes).size - 16) b.extent x r.list b.listed i) [
      | inl e ↦ absurd (o (ap handle (sym e) ∙ at))
      | inr d ↦ grind (arith, d)
    ]

pub nodes_apart : {len : ℕ} {ns : List ℕ} {c : WindowState} {n m : ℕ}
    → PairNode len ns c n → PairNode len ns c m → (m ≡ n → ⊥) → (m + len ≤ n - 16) ⊎ (n + len ≤ m - 16)
nodes_apart {len} {ns} {c} {n} {m} g h o =
    let p = node_place len ns c m h in let b = p.block in let at = b.at in
    grind (arith, block_apart b.extent g b.listed (λ e. o (sym at ∙ e)))

-- ---- a field of a node is set

module _ {len : ℕ} {ns : List ℕ} (c d : WindowState) {n from : ℕ} (g : PairNode len ns c n)
    (rest : SameBytesExcept (bytes_of c.bytes) (bytes_of d.bytes) from 8) (long : 16 ≤ len) (low : n ≤ from + 8)
    (high : from + 8 ≤ n + 16) where
  -- no byte of the field is kept
  outside : (k : ℕ) → is_kept ns (live_of c.bytes) k ≡ true → (k < from) ⊎ (from + 8 ≤ k)
  outside k t =
      let two = and_parts (nat_lt k 24 || (nat_le 32 k && nat_lt k 128) || lies_in_block (live_of c.bytes) k)
      (not (is_link_byte ns k)) t in
      let least = (node_place len ns c n g).low in
      let off = kept_away ns (live_of c.bytes) n k g.listed t in
      elim (or_cases (nat_lt k 24 || (nat_le 32 k && nat_lt k 128)) (lies_in_block (live_of c.bytes) k) two.0) [
        | inl e ↦ elim (or_cases (nat_lt k 24) (nat_le 32 k && nat_lt k 128) e) [
          | inl l ↦ let less = ltb-true k 24 l in inl (omega arith)
          | inr l ↦ let less = ltb-true k 128 (and_parts (nat_le 32 k) (nat_lt k 128) l).1 in inl (omega arith)
        ]
        | inr e ↦
            let b = passing (λ (x : Extent). nat_le (handle x) k && nat_lt k (end_of x)) (live_of c.bytes).extents e in
            let both = and_parts (nat_le (handle b.extent) k) (nat_lt k (end_of b.extent)) b.passes in
            let first = leb-true (handle b.extent) k both.0 in
            let last = ltb-true k (end_of b.extent) both.1 in
            elim (cases_eq (handle b.extent) n) [
              | inl f ↦ grind (arith, off, f, first)
              | inr o ↦ grind (arith, block_apart b.extent g b.listed o, first, last)
            ]
      ]

  pub field_changed : SameSurroundings c d → EncodesLiveSet current d.bytes (live_of c.bytes)
      → links_among (bytes_of d.bytes) ns n ≡ true → Changed len ns c d n
  field_changed place live links = record {
    place = place;
    live = lay_out_one _ _ _ live;
    bytes = λ k t. rest.at k (outside k t);
    colours = λ x i o. ap (λ w. w % 16) (SameBytesExcept-word _ _ _ _ (x.offset + 8) rest (tag_apart x i o));
    links = links;
    others = λ m i o.
        let q : PairNode len ns c m = record { good = g.good; listed = i } in
        let least = (node_place len ns c m q).low in
        beside_cell _ _ _ _ m rest least (grind (arith, nodes_apart g q o));
    keys = λ m i. SameBytesExcept-SameBytes _ _ _ _ (m + 16) (m + len) rest (key_apart m i (cases_eq m n));
  }
    where
      tag_apart : (x : Extent) → In x (live_of c.bytes).extents → (handle x ≡ n → ⊥)
          → (x.offset + 8 + 8 ≤ from) ⊎ (from + 8 ≤ x.offset + 8)
      tag_apart x i o =
          let r = is_proper-IsProper (live_of c.bytes) g.good.proper in
          let b = (lies 128 (live_of c.bytes).extents ((live_of c.bytes).size - 16) x r.list i).long in
          grind (arith, block_apart x g i o)

      key_apart : (m : ℕ) → is_in m ns ≡ true → (m ≡ n) ⊎ (m ≡ n → ⊥) → (m + len ≤ from) ⊎ (from + 8 ≤ m + 16)
      key_apart m i (inl e) = inr (rw e high)
      key_apart m i (inr o) =
          let q : PairNode len ns c m = record { good = g.good; listed = i } in grind (arith, nodes_apart g q o)

-- ---- lists of extents

-- an extent with another handle is among the others
pub in_others : (h : ℕ) (x : Extent) (xs : List Extent) → In x xs → (handle x ≡ h → ⊥) → In x (others h xs)
in_others h x [] i o = absurd i
in_others h x (y ∷ ys) i o = by_place (λ j. in_others h x ys j o) (cases_eq (handle y) h) i
  where
    by_place : (In x ys → In x (others h ys)) → (handle y ≡ h) ⊎ (handle y ≡ h → ⊥) → ((y ≡ x) ⊎ In x ys)
        → In x (others h (y ∷ ys))
    by_place rest (inl e) (inl f) = absurd (o (ap handle (sym f) ∙ e))
    by_place rest (inl e) (inr j) = subst (In x) (sym (others-here h y ys e)) j
    by_place rest (inr n) (inl f) = subst (In x) (sym (others-past h y ys n)) (inl f)
    by_place rest (inr n) (inr j) = subst (In x) (sym (others-past h y ys n)) (inr (rest j))

-- a property of all elements holds for one of the list
pub all_in : (P : Extent → Type 0) (xs : List Extent) (x : Extent) → AllByRecursion P xs → In x xs → P x
all_in P [] x a i = absurd i
all_in P (y ∷ ys) x a (inl e) = subst P e a.0
all_in P (y ∷ ys) x a (inr i) = all_in P ys x a.1 i

-- ---- the effect of a setter

-- the nodes that precede the probe
abbrev ahead_of : {K : Type 0} → Plain K → List ℕ → WindowState → KeyProbe K → ℕ → Bool
ahead_of k ns c s = stands_before k.order (keys_in k ns c) s.past s.key

pub record IsSet {K : Type 0} (k : Plain K) (ns : List ℕ) (c d : WindowState) (now : ℕ → Cell) : Type 0 where
  pub cells : pair_cells (16 + k.SIZE) ns d ≡ now
  -- the nodes are the same
  pub nodes : is_pair_node (16 + k.SIZE) ns d ≡ is_pair_node (16 + k.SIZE) ns c
  pub order : comes_before k.order (keys_in k ns d) ≡ comes_before k.order (keys_in k ns c)
  pub probe : ahead_of k ns d ≡ ahead_of k ns c
  pub kept : kept_of ns d ≡ kept_of ns c

module _ {K : Type 0} (k : Plain K) {ns : List ℕ} {c : WindowState} {n : ℕ} (g : PairNode (16 + k.SIZE) ns c n)
    {d : WindowState} where
  set : (f : Cell → Cell) {from : ℕ} → SameBytesExcept (bytes_of c.bytes) (bytes_of d.bytes) from 8 → n ≤ from + 8
      → from + 8 ≤ n + 16 → SameSurroundings c d → EncodesLiveSet current d.bytes (live_of c.bytes)
      → cells_of (bytes_of d.bytes) n ≡ f (cells_of (bytes_of c.bytes) n) → links_among (bytes_of d.bytes) ns n ≡ true
      → IsSet k ns c d (λ (m : ℕ). let was = pair_cells (16 + k.SIZE) ns c m in if m == n then f was else was)
  set f rest low high place live own links =
      let change = field_changed c d g rest (omega arith) low high place live links in
      let keys = keys_stay (value_in k.reading k.is_value k.spelling) k.SIZE g change in
      record {
        cells = one_cell g change f own;
        nodes = nodes_stay g change;
        order = λ i. comes_before k.order (keys i);
        probe = λ i wanted. stands_before k.order (keys i) wanted.past wanted.key;
        kept = kept_stays g change;
      }

  red_stays : {from : ℕ} → ChangesBytes current c d from 8 → n ≤ from
      → is_red (bytes_of d.bytes) n ≡ is_red (bytes_of c.bytes) n
  red_stays change begins =
      let least = (node_place (16 + k.SIZE) ns c n g).low in
      ap (λ w. w / 2 % 2 == 1) (SameBytesExcept-word _ _ _ _ (n - 8) change.rest (inl (omega arith)))

  module _ (to : Option ℕ) (target : leads (is_pair_node (16 + k.SIZE) ns c) to ≡ true) where
    -- writing the left link changes only this field of the cell
    pub left_set : link_at (bytes_of d.bytes) (n + 0) ≡ to → ChangesBytes current c d (n + 0) 8
        → IsSet k ns c d (with_left (pair_cells (16 + k.SIZE) ns c) n to)
    unfolding with_left
    left_set left change =
        let e : n + 0 ≡ n = omega arith in let one = rw e at left in
        let right = SameBytesExcept-link _ _ _ _ (n + 8) change.rest (inr (omega arith)) in
        let red = red_stays change (omega arith) in
        set (λ (x : Cell). record x { left = to }) change.rest (omega arith) (omega arith) change.place change.live
        (λ i. record { left = one i; right = right i; red = red i })
        (rw (one, right, leads_in (16 + k.SIZE) ns c to target, (link_parts g).1) refl)

    -- writing the right link changes only this field of the cell
    pub right_set : link_at (bytes_of d.bytes) (n + 8) ≡ to → ChangesBytes current c d (n + 8) 8
        → IsSet k ns c d (with_right (pair_cells (16 + k.SIZE) ns c) n to)
    unfolding with_right
    right_set right change =
        let left = SameBytesExcept-link _ _ _ _ n change.rest (inl (omega arith)) in
        let red = red_stays change (omega arith) in
        set (λ (x : Cell). record x { right = to }) change.rest (omega arith) (omega arith) change.place change.live
        (λ i. record { left = left i; right = right i; red = red i })
        (rw (left, right, leads_in (16 + k.SIZE) ns c to target, (link_parts g).0) refl)

  -- writing the colour changes only this field of the cell
  pub red_set : {red : Bool} → Recolours current c d n red
      → IsSet k ns c d (with_red (pair_cells (16 + k.SIZE) ns c) n red)
  unfolding with_red
  red_set {red} change =
      let least = (node_place (16 + k.SIZE) ns c n g).low in let colour = change.colour in
      let left = SameBytesExcept-link _ _ _ _ n change.rest (inr (omega arith)) in
      let right = SameBytesExcept-link _ _ _ _ (n + 8) change.rest (inr (omega arith)) in
      set (λ (x : Cell). record x { red = red }) change.rest (omega arith) (omega arith) change.keeps.place change.live
      (λ i. record { left = left i; right = right i; red = colour i })
      (rw (left, right, (link_parts g).0, (link_parts g).1) refl)

-- ---- reads of a node

-- the same for a heap with an equal state
module _ (len : ℕ) (ns : List ℕ) (c w : WindowState) (n : ℕ) (h : is_pair_node len ns c n ≡ true) (same : w ≡ c) where
  b : NodeBlock len (live_of c.bytes).extents n
  b = node_block len ns c n (is_pair_node-PairNode len ns c n h)

  pub node_room : (k : ℕ) → k ≤ len → IsTrue (has_room (live_of w.bytes) n k)
  node_room k l =
      let enough = b.holds in
      rw same (any_at (λ (x : Extent). (handle x == n) && nat_le (k + 16) x.len) (live_of c.bytes).extents b.extent
      b.listed (rw (eq-eqb _ _ b.at, le-leb (k + 16) b.extent.len (omega arith)) refl))

  pub node_used : IsTrue (is_live_in (live_of w.bytes) n)
  node_used = rw same (any_at (λ (x : Extent). handle x == n) (live_of c.bytes).extents b.extent b.listed
      (eq-eqb _ _ b.at))

  pub node_marked : IsTrue (is_node_in (live_of w.bytes) n)
  node_marked = rw same (any_at (λ (x : Extent). (handle x == n) && is_node_role x.role) (live_of c.bytes).extents
      b.extent b.listed (rw (eq-eqb _ _ b.at, ap is_node_role b.node) refl))

  cell_is : cells_of (bytes_of w.bytes) n ≡ pair_cells len ns c n
  cell_is = rw same (sym (cells_at len ns c n h))

  pub node_left : link_at (bytes_of w.bytes) (n + 0) ≡ (pair_cells len ns c n).left
  node_left = let e : n + 0 ≡ n = omega arith in ap (link_at (bytes_of w.bytes)) e ∙ ap (λ (x : Cell). x.left) cell_is

  pub node_right : link_at (bytes_of w.bytes) (n + 8) ≡ (pair_cells len ns c n).right
  node_right = ap (λ (x : Cell). x.right) cell_is

  pub node_colour : is_red (bytes_of w.bytes) n ≡ (pair_cells len ns c n).red
  node_colour = ap (λ (x : Cell). x.red) cell_is

pub node_key : {K : Type 0} (value : List ℕ → Option K) (size : ℕ) (ns : List ℕ) (c w : WindowState) (n : ℕ)
    → is_pair_node (16 + size) ns c n ≡ true → w ≡ c
    → value (read (bytes_of w.bytes) (n + 16) size) ≡ key_of value size ns c n
unfolding key_of key_at
node_key value size ns c w n h same = rw (same, h) refl

pub ruleset nodes = (
  node_room,
  node_used,
  node_marked,
  node_left,
  node_right,
  node_colour,
  node_key,
  target_whole,
)
