-- The links that are followed from the roots of maps: each of them can be reached, and each that can be reached is
-- followed.
use Rattle.image_check.proofs.Common.{AllByRecursion, Field, Index, IsTrue, Kind, List, Map, Memory, Node, None, Option}
use Rattle.image_check.proofs.Common.{Role, Some, Tile, [], and_parts, ap, arith}
use Rattle.image_check.proofs.Common.{cons_option, eq-eqb, eqb-true, false, flat_map, good_for, if◌then◌else◌, is_among}
use Rattle.image_check.proofs.Common.{is_use, kind_at, length, link_at, node_fields, payload, refl, root_link, subst}
use Rattle.image_check.proofs.Common.{suc, sym, true, value_offset, values, zero, ℕ, ◌&&◌, ◌*◌, ◌+◌, ◌==◌, ◌||◌, ◌∙◌}
use Rattle.image_check.proofs.Common.{◌∷◌, ◌≡◌, ◌≤◌}
use Rattle.std.proofs.Common.{Bool}
use Rattle.std.specs.Prelude.{option_map}
use Rattle.block_tags.specs.declared.tile.Role.TheVariants.{Object}
use Rattle.image_check.proofs.bytes.Members.{Mem, find_mem, is_among-Mem}
use mathlib.Core.Logic.{◌⊎◌, inl, inr}

-- a field by its parts
abbrev pub field : ℕ → ℕ → Field
field at n = record { at = at; target = n }

-- ---- links that are good

-- the tile behind a link to a block of its role
pub record IsGood (ts : List Tile) (role : Role) (link : Option ℕ) (t : Tile) : Type 0 where
  pub mem : Mem t ts
  pub use_of : IsTrue (is_use role t)
  pub leads : link ≡ Some (payload t)

-- a link that passes the test leads to the payload of a tile of the role
pub good_for-IsGood : (ts : List Tile) (role : Role) (link : Option ℕ) (t : Tile) → good_for ts role link ≡ Some t
    → IsGood ts role link t
good_for-IsGood ts role None t e = absurd (cc)
good_for-IsGood ts role (Some target) t e =
    let k = find_mem (λ (u : Tile). is_use role u && (u.offset + 16 == target)) t ts e in
    let parts = and_parts (is_use role t) (t.offset + 16 == target) k.is in
    record { mem = k.mem; use_of = parts.0; leads = ap Some (sym (eqb-true (t.offset + 16) target parts.1)) }

-- ---- each link that is followed can be reached

-- the places S of links, and the fields K: a link at a place is among the fields, and its node's links are such places
pub record AreClosed (S : ℕ → Type 0) (K : Field → Type 0) (m : Memory) (ts : List Tile) : Type 0 where
  pub step : (at : ℕ) (t : Tile) → S at → good_for ts Node (link_at m at) ≡ Some t
      → K (field at (payload t)) × S (payload t) × S (payload t + 8)

abbrev node_step : ℕ → Memory → List Tile → List ℕ → ℕ → List ℕ → Option Tile → List Field
node_step more m ts met at links None = node_fields more m ts met links
node_step more m ts met at links (Some t) =
    field at (payload t)
    ∷ (if is_among met (payload t) then node_fields more m ts met links else node_fields more m ts (payload t ∷ met)
    (payload t ∷ (payload t + 8) ∷ links))

all-if : {X : Type 0} (P : X → Type 0) (b : Bool) (xs ys : List X) → AllByRecursion P xs → AllByRecursion P ys
    → AllByRecursion P (if b then xs else ys)
all-if P true xs ys h k = h
all-if P false xs ys h k = k

sound-step : (S : ℕ → Type 0) (K : Field → Type 0) (m : Memory) (ts : List Tile) → AreClosed S K m ts → (more : ℕ)
    → ((met links : List ℕ) → AllByRecursion S links → AllByRecursion K (node_fields more m ts met links))
    → (met : List ℕ) (at : ℕ) (links : List ℕ) → S at → AllByRecursion S links → (o : Option Tile)
    → good_for ts Node (link_at m at) ≡ o
    → AllByRecursion K (node_step more m ts met at links o)
sound-step S K m ts c more ih met at links s h None e = ih met links h
sound-step S K m ts c more ih met at links s h (Some t) e =
    let k = c.step at t s e in (
      k.0,
      all-if K (is_among met (payload t)) (node_fields more m ts met links)
          (node_fields more m ts (payload t ∷ met) (payload t ∷ (payload t + 8) ∷ links))
          (ih met links h) (ih (payload t ∷ met) (payload t ∷ (payload t + 8) ∷ links) (k.1, (k.2, h))),
    )

-- each field that is followed is in a closed set
pub reached-sound : (S : ℕ → Type 0) (K : Field → Type 0) (m : Memory) (ts : List Tile) → AreClosed S K m ts
    → (more : ℕ) (met links : List ℕ)
    → AllByRecursion S links → AllByRecursion K (node_fields more m ts met links)
reached-sound S K m ts c zero met links h = tt
reached-sound S K m ts c (suc more) met [] h = tt
reached-sound S K m ts c (suc more) met (at ∷ links) h =
    sound-step S K m ts c more (reached-sound S K m ts c more) met at links h.0 h.1
    (good_for ts Node (link_at m at)) refl

-- ---- the number of nodes that are not met yet

abbrev weigh : Bool → Bool → ℕ
weigh true true = 0
weigh true false = 1
weigh false b = 0

-- the tiles of nodes that have not been met
abbrev pub unmet : List Tile → List ℕ → ℕ
unmet [] met = 0
unmet (t ∷ ts) met = weigh (is_use Node t) (is_among met (payload t)) + unmet ts met

weigh-less : (u a e : Bool) → weigh u (e || a) ≤ weigh u a
weigh-less true true true = omega arith
weigh-less true true false = omega arith
weigh-less true false true = omega arith
weigh-less true false false = omega arith
weigh-less false a e = omega arith

unmet-less : (ts : List Tile) (met : List ℕ) (n : ℕ) → unmet ts (n ∷ met) ≤ unmet ts met
unmet-less [] met n = omega arith
unmet-less (t ∷ ts) met n =
    let a = weigh-less (is_use Node t) (is_among met (payload t)) (payload t == n) in
    let b = unmet-less ts met n in
    omega arith

weigh-drop : (u a e : Bool) → u ≡ true → a ≡ false → e ≡ true → weigh u (e || a) + 1 ≤ weigh u a
weigh-drop true false true p q r = omega arith
weigh-drop true false false p q r = absurd (cc)
weigh-drop true true e p q r = absurd (cc)
weigh-drop false a e p q r = absurd (cc)

-- one more node is met
unmet-drop : (ts : List Tile) (met : List ℕ) (t : Tile) → Mem t ts → IsTrue (is_use Node t)
    → is_among met (payload t) ≡ false → unmet ts (payload t ∷ met) + 1 ≤ unmet ts met
unmet-drop [] met t h u a = absurd h
unmet-drop (s ∷ ts) met t (inl e) u a =
    let same : payload s ≡ payload t = ap payload (sym e) in
    let x = weigh-drop (is_use Node s) (is_among met (payload s)) (payload s == payload t) (ap (is_use Node) (sym e)
    ∙ u) (ap (is_among met) same ∙ a) (eq-eqb (payload s) (payload t) same) in
    let y = unmet-less ts met (payload t) in
    omega arith
unmet-drop (s ∷ ts) met t (inr h) u a =
    let x = weigh-less (is_use Node s) (is_among met (payload s)) (payload s == payload t) in
    let y = unmet-drop ts met t h u a in
    omega arith

-- ---- no link is left out

-- both links of a node are among the fields, if they lead to nodes
abbrev pub IsFollowed : Memory → List Tile → ℕ → List Field → Type 0
IsFollowed m ts n fields = (at : ℕ) (t : Tile) → (at ≡ n) ⊎ (at ≡ n + 8) → good_for ts Node (link_at m at) ≡ Some t
    → Mem (field at (payload t)) fields

-- these links are among the fields, and so are the links of each node that was not met before
pub record Covers (m : Memory) (ts : List Tile) (met links : List ℕ) (fields : List Field) : Type 0 where
  pub starts : (at : ℕ) (t : Tile) → Mem at links → good_for ts Node (link_at m at) ≡ Some t
      → Mem (field at (payload t)) fields
  pub nodes : (f : Field) → Mem f fields → Mem f.target met ⊎ IsFollowed m ts f.target fields

nothing : (m : Memory) (ts : List Tile) (met : List ℕ) → Covers m ts met [] []
nothing m ts met = record { starts = λ at t h e. absurd h; nodes = λ f h. absurd h }

more-fields : (m : Memory) (ts : List Tile) (n : ℕ) (f : Field) (fields : List Field) → IsFollowed m ts n fields
    → IsFollowed m ts n (f ∷ fields)
more-fields m ts n f fields k = λ at t p e. inr (k at t p e)

-- the case of a link that is null
start-none : (m : Memory) (ts : List Tile) (at : ℕ) (links : List ℕ) (fields : List Field)
    → good_for ts Node (link_at m at) ≡ None
    → ((x : ℕ) (t : Tile) → Mem x links → good_for ts Node (link_at m x) ≡ Some t → Mem (field x (payload t)) fields)
    → (x : ℕ) (t : Tile) → Mem x (at ∷ links) → good_for ts Node (link_at m x) ≡ Some t
    → Mem (field x (payload t)) fields
start-none m ts at links fields e k x t (inl f) g =
    let same : good_for ts Node (link_at m x) ≡ None = ap (λ a. good_for ts Node (link_at m a)) f ∙ e in
    absurd (cc)
start-none m ts at links fields e k x t (inr h) g = k x t h g

-- the case of a link that leads to a tile
start-some : (m : Memory) (ts : List Tile) (at : ℕ) (links : List ℕ) (u : Tile) (fields : List Field)
    → good_for ts Node (link_at m at) ≡ Some u
    → ((x : ℕ) (t : Tile) → Mem x links → good_for ts Node (link_at m x) ≡ Some t → Mem (field x (payload t)) fields)
    → (x : ℕ) (t : Tile) → Mem x (at ∷ links) → good_for ts Node (link_at m x) ≡ Some t
    → Mem (field x (payload t)) (field at (payload u) ∷ fields)
start-some m ts at links u fields e k x t (inl f) g =
    let same : good_for ts Node (link_at m x) ≡ Some u = ap (λ a. good_for ts Node (link_at m a)) f ∙ e in
    let tile : t ≡ u = cc in
    inl (λ i. field (f i) (payload (tile i)))
start-some m ts at links u fields e k x t (inr h) g = inr (k x t h g)

-- a field whose node was met
old-node : (m : Memory) (ts : List Tile) (met : List ℕ) (f : Field) (fields : List Field) → Mem f.target met
    → ((g : Field) → Mem g fields → Mem g.target met ⊎ IsFollowed m ts g.target fields)
    → (g : Field) → Mem g (f ∷ fields) → Mem g.target met ⊎ IsFollowed m ts g.target (f ∷ fields)
old-node m ts met f fields h k g (inl e) = inl (subst (λ n. Mem n met) (ap (λ (x : Field). x.target) (sym e)) h)
old-node m ts met f fields h k g (inr l) =
    elim (k g l) [ inl a ↦ inl a | inr a ↦ inr (more-fields m ts g.target f fields a) ]

-- a link whose node is met now
followed-at : (m : Memory) (ts : List Tile) (n x : ℕ) (fields : List Field) → x ≡ n → IsFollowed m ts n fields
    → IsFollowed m ts x fields
followed-at m ts n x fields e k = subst (λ y. IsFollowed m ts y fields) (sym e) k

met-now : (m : Memory) (ts : List Tile) (met : List ℕ) (n x : ℕ) (fields : List Field) → IsFollowed m ts n fields
    → Mem x (n ∷ met) → Mem x met ⊎ IsFollowed m ts x fields
met-now m ts met n x fields k (inl e) = inr (followed-at m ts n x fields e k)
met-now m ts met n x fields k (inr h) = inl h

new-node : (m : Memory) (ts : List Tile) (met : List ℕ) (f : Field) (fields : List Field)
    → IsFollowed m ts f.target fields
    → ((g : Field) → Mem g fields → Mem g.target (f.target ∷ met) ⊎ IsFollowed m ts g.target fields)
    → (g : Field) → Mem g (f ∷ fields) → Mem g.target met ⊎ IsFollowed m ts g.target (f ∷ fields)
new-node m ts met f fields h k g (inl e) =
    inr (followed-at m ts f.target g.target (f ∷ fields) (ap (λ (x : Field). x.target) e)
    (more-fields m ts f.target f fields h))
new-node m ts met f fields h k g (inr l) = elim (k g l) [
  | inl a ↦ met-now m ts met f.target g.target (f ∷ fields) (more-fields m ts f.target f fields h) a
  | inr a ↦ inr (more-fields m ts g.target f fields a)
]

-- the links of a node that is met now
both-links : (m : Memory) (ts : List Tile) (met : List ℕ) (n : ℕ) (links : List ℕ) (fields : List Field)
    → Covers m ts (n ∷ met) (n ∷ (n + 8) ∷ links) fields → IsFollowed m ts n fields
both-links m ts met n links fields c at t (inl e) g = c.starts at t (inl e) g
both-links m ts met n links fields c at t (inr e) g = c.starts at t (inr (inl e)) g

whole-some : (m : Memory) (ts : List Tile) (more : ℕ)
    → ((met links : List ℕ) → length links + 2 * unmet ts met ≤ more
    → Covers m ts met links (node_fields more m ts met links))
    → (met : List ℕ) (at : ℕ) (links : List ℕ) → length (at ∷ links) + 2 * unmet ts met ≤ suc more → (t : Tile)
    → good_for ts Node (link_at m at) ≡ Some t
    → (b : Bool) → is_among met (payload t) ≡ b
    → Covers m ts met (at ∷ links) (field at (payload t)
    ∷ (if b then node_fields more m ts met links else node_fields more m ts (payload t ∷ met)
    (payload t ∷ (payload t + 8) ∷ links)))
whole-some m ts more ih met at links l t e true a =
    let c = ih met links (omega arith) in
    let rest : List Field = node_fields more m ts met links in
    record {
      starts = start-some m ts at links t rest e c.starts;
      nodes = old-node m ts met (field at (payload t)) rest (is_among-Mem met (payload t) a) c.nodes;
    }
whole-some m ts more ih met at links l t e false a =
    let n : ℕ = payload t in
    let good = good_for-IsGood ts Node (link_at m at) t e in
    let drop = unmet-drop ts met t good.mem good.use_of a in
    let c = ih (n ∷ met) (n ∷ (n + 8) ∷ links) (omega arith) in
    let rest : List Field = node_fields more m ts (n ∷ met) (n ∷ (n + 8) ∷ links) in
    record {
      starts = start-some m ts at links t rest e (λ x u h g. c.starts x u (inr (inr h)) g);
      nodes = new-node m ts met (field at n) rest (both-links m ts met n links rest c) c.nodes;
    }

whole-step : (m : Memory) (ts : List Tile) (more : ℕ)
    → ((met links : List ℕ) → length links + 2 * unmet ts met ≤ more
    → Covers m ts met links (node_fields more m ts met links))
    → (met : List ℕ) (at : ℕ) (links : List ℕ) → length (at ∷ links) + 2 * unmet ts met ≤ suc more
    → (o : Option Tile) → good_for ts Node (link_at m at) ≡ o
    → Covers m ts met (at ∷ links) (node_step more m ts met at links o)
whole-step m ts more ih met at links l None e =
    let c = ih met links (omega arith) in
    record { starts = start-none m ts at links (node_fields more m ts met links) e c.starts; nodes = c.nodes }
whole-step m ts more ih met at links l (Some t) e =
    whole-some m ts more ih met at links l t e (is_among met (payload t)) refl

-- with a large enough bound no link is omitted
pub reached-whole : (m : Memory) (ts : List Tile) (more : ℕ) (met links : List ℕ)
    → length links + 2 * unmet ts met ≤ more → Covers m ts met links (node_fields more m ts met links)
reached-whole m ts zero met [] l = nothing m ts met
reached-whole m ts zero met (at ∷ links) l = absurd (omega arith)
reached-whole m ts (suc more) met [] l = nothing m ts met
reached-whole m ts (suc more) met (at ∷ links) l =
    whole-step m ts more (reached-whole m ts more) met at links l (good_for ts Node (link_at m at)) refl

-- ---- the bound is large enough

roots-more : (o : Option (Kind × ℕ)) (vs : List (Kind × ℕ))
    → length (flat_map root_link (cons_option o vs)) ≤ suc (length (flat_map root_link vs))
roots-more (Some (Map k v, at)) vs = omega arith
roots-more other vs = omega arith

count-step : (format : ℕ) (m : Memory) (offset len : ℕ) (use_of : Option Role) (red : Bool) (ts : List Tile)
    → length (flat_map root_link (values format m ts)) + unmet ts [] ≤ length ts
    → length (flat_map root_link (values format m (record {
      offset = offset;
      len = len;
      use_of = use_of;
      red = red;
    } ∷ ts)))
    + unmet (record { offset = offset; len = len; use_of = use_of; red = red } ∷ ts) [] ≤ suc (length ts)
count-step format m offset len None red ts h = omega arith
count-step format m offset len (Some Object) red ts h =
    let o : Option (Kind × ℕ) = option_map (λ k. (k, value_offset m (offset + 16))) (kind_at format m (offset + 16)) in
    let l = roots-more o (values format m ts) in
    omega arith
count-step format m offset len (Some Index) red ts h = omega arith
count-step format m offset len other red ts h = omega arith

-- roots and nodes that are not met are no more than the tiles
pub roots-count : (format : ℕ) (m : Memory) (ts : List Tile)
    → length (flat_map root_link (values format m ts)) + unmet ts [] ≤ length ts
roots-count format m [] = omega arith
roots-count format m (t ∷ ts) = count-step format m t.offset t.len t.use_of t.red ts (roots-count format m ts)

-- all links of the nodes that can be reached from the roots are followed
pub roots-covered : (format : ℕ) (m : Memory) (ts : List Tile)
    → Covers m ts [] (flat_map root_link (values format m ts))
    (node_fields (2 * length ts) m ts [] (flat_map root_link (values format m ts)))
roots-covered format m ts =
    let l = roots-count format m ts in
    reached-whole m ts (2 * length ts) [] (flat_map root_link (values format m ts)) (omega arith)
