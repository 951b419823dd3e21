-- Following the waiting nodes: one turn enters the links of the first of them.
use Rattle.image_check.proofs.Common.{small_size}
use Rattle.image_check.proofs.Common.{Block, Blocks, Err, HasTiles, IsCountedLink, IsFollowed, IsMarking}
use Rattle.image_check.proofs.Common.{IsMarkingOf, IsRooted, IsSome, IsTileAt, LeadsTo, List, MarksLink, MatchResult}
use Rattle.image_check.proofs.Common.{MayCount, Memory, Node, None, Ok, Option, Owner, Result, Role, Row, Some}
use Rattle.image_check.proofs.Common.{Tile, [], ap, arith, block_at, debts, false≢true, length, link_at}
use Rattle.image_check.proofs.Common.{owner, owner_at, owner_in, refl, same_role, subst, suc, sym, tile_of}
use Rattle.image_check.proofs.Common.{visit_budget, ℕ, ◌*◌, ◌+◌, ◌-◌, ◌/◌, ◌∙◌, ◌∷◌, ◌≡◌, ◌≤◌, ◌⊎◌}
use Rattle.image_check.specs.Owners.{IsChain, IsMember, IsWaiting, KeepsMarks, next_in, root_in}
use Rattle.block_tags.specs.declared.tile.Role.TheVariants.{Object}
use Rattle.image_check.specs.Passes.{tiles_in}
use Rattle.image_check.proofs.frame.Tags.{image-row}
use Rattle.image_check.proofs.shared_blocks.OneLink.{owner-is}
use mathlib.Core.Logic.{inl, inr}
use Rattle.image_check.specs.Owners.{MarksUnlessShared}
use Rattle.image_check.specs.Owners.{visits_due}
use Rattle.image_check.specs.Owners.{OwnerState}

-- a field that counts is a link to its target
pub counts-link : (format : ℕ) (m : Memory) (ts : List Tile) (at n : ℕ) → IsCountedLink format m ts at n
    → link_at m at ≡ Some n
counts-link format m ts at n (IsCountedLink.named c l) = l.0
counts-link format m ts at n (IsCountedLink.unique c l) = l.0
counts-link format m ts at n (IsCountedLink.storage v h c l) = l.0
counts-link format m ts at n (IsCountedLink.element array i v c g a b l) = l.0
counts-link format m ts at n (IsCountedLink.root v l) = l.0
counts-link format m ts at n (IsCountedLink.left c k l) = l.0
counts-link format m ts at n (IsCountedLink.right c k l) = l.0

-- the visits that are due are few
use-visit_budget : (o : Option Role) (len : ℕ) → 32 ≤ len
    → elim o [ None ↦ 0 | Some role ↦ visit_budget role len ] ≤ 3 * (len / 16)
use-visit_budget (Some Object) len h = omega arith
use-visit_budget other len h = omega arith

row-debts : (at : ℕ) (ts : List Tile) (end : ℕ) → Row at ts end → debts ts + at ≤ end
row-debts at [] end a = omega arith
row-debts at (t ∷ ts) end a =
    let l = row-debts (at + t.len) ts end a.3 in
    let d = use-visit_budget t.use_of t.len a.1 in
    let long = a.1 in
    omega arith

-- the debts of all tiles are at most 2^30
pub debts-small : (b : List ℕ) → HasTiles b → debts (tiles_in b) ≤ 1073741824
debts-small b h =
    let l = row-debts 128 (tiles_in b) (length b - 16)
    (image-row b h) in
    let s = small_size (length b) h.size in
    omega arith

-- ---- the first that waits

pub record IsFirst (es : Blocks) (chain : List ℕ) (n : ℕ) : Type 0 where
  pub next : Option ℕ
  pub waits : IsWaiting es n next
  pub rest : List ℕ
  pub linked : IsChain es next rest
  pub long : suc (length rest) ≡ length chain
  pub parts : (x : ℕ) → IsMember x chain → (x ≡ n) ⊎ IsMember x rest

pub first-of : (es : Blocks) (head : Option ℕ) (chain : List ℕ) (n : ℕ) → IsChain es head chain → head ≡ Some n
    → IsFirst es chain n
first-of es head [] n h e = absurd (cc)
first-of es head (x ∷ xs) n h e =
    let f = h.1 in
    let same : x ≡ n = cc in
    record {
      next = h.0;
      waits = subst (λ y. IsWaiting es y h.0) same h.2;
      rest = xs;
      linked = h.3;
      long = refl;
      parts = λ y s. elim s [ inl g ↦ inl (g ∙ same) | inr g ↦ inr g ];
    }

-- no node waits
pub none-waits : (es : Blocks) (head : Option ℕ) (chain : List ℕ) (x : ℕ) → head ≡ None → IsChain es head chain
    → IsMember x chain → ⊥
none-waits es head [] x e h s = s
none-waits es head (y ∷ ys) x e h s = let f = h.1 in absurd (cc)

-- the state after the first node was taken from the list
abbrev pub popped : OwnerState → Option ℕ → OwnerState
popped s next = record { entries = s.entries; pending = next; waiting = s.waiting - 1 }

module _ (format : ℕ) (m : Memory) (ts : List Tile) (st : OwnerState)
    (k : IsMarking format m ts None st) (n : ℕ) (e : st.pending ≡ Some n) where
  pub the-first : IsFirst st.entries k.chain n
  the-first = first-of st.entries st.pending k.chain n k.linked e

  pub some-waits : 1 ≤ st.waiting
  some-waits = let l = the-first.long in let c = k.count in omega arith

  the-next : next_in (block_at st.entries n) ≡ the-first.next
  the-next = let w = the-first.waits in ap next_in w.is ∙ w.next_is

  -- the waiting node is in a tile
  pub node-tile : IsTileAt ts n (the-first.waits.block)
  node-tile = k.blocks.tiles n (the-first.waits.block) (the-first.waits.is)

  -- the tile of the node is found
  pub node-there : tile_of ts Node n ≡ Some node-tile.tile
  node-there = ap (λ r. tile_of ts r n) (sym the-first.waits.node) ∙ node-tile.is

  abbrev the-block : Block
  the-block = the-first.waits.block

  owner-there : (o : Option Owner) → the-block.owner ≡ o → IsSome o → (w : Owner) × (owner_at st.entries n ≡ Some w)
  owner-there None f s = absurd (false≢true s)
  owner-there (Some w) f s = (
    w,
    ap owner_in the-first.waits.is
        ∙ owner-is the-block (ap (λ r. same_role r Object) the-first.waits.node) ∙ f,
  )

  -- the link to the node
  pub leader : (w : Owner) × (owner_at st.entries n ≡ Some w)
  leader = owner-there the-block.owner refl the-first.waits.owned

  counted : IsCountedLink format m ts leader.0.at n
  counted = k.counts n leader.0 leader.1

  led : LeadsTo m ts Node leader.0.at n
  led = (counts-link format m ts leader.0.at n counted, (node-tile.tile, node-there))

  -- its links count
  pub left-counts : MayCount format m ts Node n
  left-counts = λ target l. IsCountedLink.left counted led l

  -- the right link of the node counts
  pub right-counts : MayCount format m ts Node (n + 8)
  right-counts = λ target l. IsCountedLink.right counted led l

  -- the root of the node's map is that of its leader
  pub root-is : root_in (block_at st.entries n) n ≡ leader.0.root
  root-is = ap (λ (o : Option Owner). elim o [ None ↦ n | Some w ↦ w.root ]) leader.1

  -- and begin where the link to it does
  pub left-rooted : (root : ℕ) → root ≡ leader.0.root → IsRooted ts st.entries (owner n root)
  left-rooted root e = inr (
    record {
      node = n;
      tile = node-tile.tile;
      is = node-there;
      led = leader.0;
      noted = leader.1;
      link = inl refl;
    },
    e,
  )

  -- the right link has the root of the node's map
  pub right-rooted : (root : ℕ) → root ≡ leader.0.root → (fs : OwnerState) → KeepsMarks st fs
      → IsRooted ts fs.entries (owner (n + 8) root)
  right-rooted root e fs keeps =
      inr (
        record {
          node = n;
          tile = node-tile.tile;
          is = node-there;
          led = leader.0;
          noted = keeps n leader.0 leader.1;
          link = inr refl;
        },
        e,
      )

  turn-of : (x root : ℕ) → IsMember x k.chain ⊎ ((None ≡ Some x) ⊎ IsFollowed m ts st.entries x root)
      → IsMember x the-first.rest ⊎ ((Some n ≡ Some x) ⊎ IsFollowed m ts st.entries x root)
  turn-of x root (inl s) = elim (the-first.parts x s) [ inl f ↦ inr (inl (ap Some (sym f))) | inr f ↦ inl f ]
  turn-of x root (inr (inl f)) = absurd (cc)
  turn-of x root (inr (inr f)) = inr (inr f)

  -- the node no longer waits, and is the current one
  pub taken : (next : Option ℕ) → next ≡ next_in (block_at st.entries n)
      → IsMarking format m ts (Some n) (popped st next)
  taken next e =
      let l = the-first.long in
      let c = k.count in
      let room = k.room in
      record {
        blocks = k.blocks;
        frame = k.frame;
        aligned = k.aligned;
        counts = k.counts;
        rooted = k.rooted;
        chain = the-first.rest;
        linked = subst (λ h. IsChain st.entries h the-first.rest) (sym (e ∙ the-next)) the-first.linked;
        count = omega arith;
        room = omega arith;
        followed = λ x o t g f. turn-of x o.root (k.followed x o t g f);
      }

  module _ (root : ℕ) (rooted : root ≡ leader.0.root) (next : Option ℕ) (s1 s2 : OwnerState)
      (a : MarksLink format m ts (Some n) Node (owner n root) (popped st next) s1)
      (b : MarksLink format m ts (Some n) Node (owner (n + 8) root) s1 s2) where
    same-leader : (o : Owner) → owner_at s2.entries n ≡ Some o → root ≡ o.root
    same-leader o f =
        let g = b.keeps n leader.0 (a.keeps n leader.0 leader.1) in
        let same : leader.0 ≡ o = cc in
        rooted ∙ ap (λ (x : Owner). x.root) same

    ends-turn : (x : ℕ) (o : Owner) → owner_at s2.entries x ≡ Some o
        → IsMember x b.marking.chain ⊎ ((Some n ≡ Some x) ⊎ IsFollowed m ts s2.entries x o.root)
        → IsMember x b.marking.chain ⊎ ((None ≡ Some x) ⊎ IsFollowed m ts s2.entries x o.root)
    ends-turn x o g (inl s) = inl s
    ends-turn x o g (inr (inl f)) =
        let same : n ≡ x = cc in
        let done : IsFollowed m ts s2.entries n root = (λ t l. b.keeps t _ (a.noted t l), b.noted) in
        inr (inr (subst (λ r. IsFollowed m ts s2.entries x r) (same-leader o (ap (owner_at s2.entries) same ∙ g))
        (subst (λ y. IsFollowed m ts s2.entries y root) same done)))
    ends-turn x o g (inr (inr f)) = inr (inr f)

    -- one turn keeps the marking
    pub turned : IsMarking format m ts None s2
    turned = record {
      blocks = b.marking.blocks;
      frame = b.marking.frame;
      aligned = b.marking.aligned;
      counts = b.marking.counts;
      rooted = b.marking.rooted;
      chain = b.marking.chain;
      linked = b.marking.linked;
      count = b.marking.count;
      room = b.marking.room;
      followed = λ x o t g f. ends-turn x o f (b.marking.followed x o t g f);
    }

    -- one turn keeps the entered links
    pub turn-keeps : KeepsMarks st s2
    turn-keeps x place f = b.keeps x place (a.keeps x place f)

    -- one turn reduces the visits that remain
    pub turn-less : visits_due s2 + 6 ≤ visits_due st
    turn-less = let x = a.less in let y = b.less in let s = some-waits in omega arith

-- ---- answers of calls

-- a result that is an error has the property of errors
pub of-err : {A E : Type 0} (P : A → Type 0) (Q : E → Type 0) (r : Result A E) (x : E) → r ≡ Err x
    → MatchResult r P Q → Q x
of-err P Q (Ok y) x e h = absurd (cc)
of-err P Q (Err y) x e h = let same : y ≡ x = cc in subst Q same h

-- a result that is a success has the property of successes
pub of-ok : {A E : Type 0} (P : A → Type 0) (Q : E → Type 0) (r : Result A E) (x : A) → r ≡ Ok x → MatchResult r P Q
    → P x
of-ok P Q (Ok y) x e h = let same : y ≡ x = cc in subst P same h
of-ok P Q (Err y) x e h = absurd (cc)

-- an effect implies another
pub map-marked : {A : Type 0} (P P2 : Type 0) (format : ℕ) (b : List ℕ) (r : Result A ℕ) → (P → P2)
    → MarksUnlessShared format b P r → MarksUnlessShared format b P2 r
map-marked P P2 format b (Ok y) f h = f h
map-marked P P2 format b (Err y) f h = h

-- ---- all turns

-- the nodes that wait, and the marks so far
pub record IsGoing (format : ℕ) (b : List ℕ) (old : OwnerState) (seen : ℕ) (st : OwnerState) (visits : ℕ) : Type 0 where
  pub marking : IsMarkingOf format b st
  pub keeps : KeepsMarks old st
  pub more : seen ≤ visits
  pub most : visits + (visits_due st) ≤ seen + (visits_due old)
