-- Entering a link at its block: one more owner, and nothing else.
use Rattle.image_check.proofs.Common.{AreBlocks, Block, Blocks, IsBlockAt, IsCountedLink, IsFollowed, IsMarkedLink}
use Rattle.image_check.proofs.Common.{IsMarking}
use Rattle.image_check.proofs.Common.{IsRooted, IsSharedAt, IsSome, IsTileAt, LeadsTo, List, MarksLink, MayCount}
use Rattle.image_check.proofs.Common.{Memory, Node, None, Option, Owner, Role, Some, Storage, Tile, [], ap, arith}
use Rattle.image_check.proofs.Common.{block_at, cases_eq, cond, cond-false, cond-true, eqb-true, false, false≢true}
use Rattle.image_check.proofs.Common.{frame_of, frames, is_some, length, link_at, nat_eq, ne_eqb, owner_at, owner_in}
use Rattle.image_check.proofs.Common.{refl, same_role, set_value, subst, sym, tile_of, true, unspent_budget}
use Rattle.image_check.proofs.Common.{visit_budget, ℕ, ◌*◌, ◌+◌, ◌/◌, ◌∙◌, ◌∷◌, ◌≡◌, ◌≢◌, ◌≤◌, ◌⊎◌}
use Rattle.std.proofs.Common.{Bool}
use Rattle.block_tags.specs.declared.tile.Role.TheVariants.{Object}
use Rattle.image_check.specs.Owners.{IsChain, IsMember, IsWaiting, due_of}
use mathlib.Core.Logic.{inl, inr}
use Rattle.image_check.specs.Owners.{OwnerState}

-- ---- one block in the place of another

put-if : (n k : ℕ) (c w : Block) (es fs : Blocks) (b : Bool) → nat_eq n k ≡ b
    → (IsSome (block_at es n) → block_at fs n ≡ Some w)
    → IsSome (cond b (Some c) (block_at es n)) → block_at (cond b ((k, w) ∷ es) ((k, c) ∷ fs)) n ≡ Some w
put-if n k c w es fs true e ih h = cond-true (nat_eq n k) (Some w) (block_at es n) e
put-if n k c w es fs false e ih h = cond-false (nat_eq n k) (Some c) (block_at fs n) e ∙ ih h

-- a block that was put is found
pub put-same : (n : ℕ) (w : Block) (es : Blocks) → IsSome (block_at es n)
    → block_at (set_value (nat_eq n) es w) n ≡ Some w
put-same n w [] h = absurd (false≢true h)
put-same n w (e ∷ es) h = put-if n e.0 e.1 w es (set_value (nat_eq n) es w) (nat_eq n e.0) refl (put-same n w es) h

other-if : (n k q : ℕ) (c w : Block) (es fs : Blocks) (b : Bool) → q ≢ n → nat_eq n k ≡ b
    → block_at fs q ≡ block_at es q
    → block_at (cond b ((k, w) ∷ es) ((k, c) ∷ fs)) q ≡ block_at ((k, c) ∷ es) q
other-if n k q c w es fs true d e ih =
    let apart : nat_eq q k ≡ false = ne_eqb q k (λ f. d (f ∙ sym (eqb-true n k e))) in
    cond-false (nat_eq q k) (Some w) (block_at es q) apart
    ∙ sym (cond-false (nat_eq q k) (Some c) (block_at es q) apart)
other-if n k q c w es fs false d e ih = ap (cond (nat_eq q k) (Some c)) ih

-- another block than the one put is as before
pub put-other : (n q : ℕ) (w : Block) (es : Blocks) → q ≢ n → block_at (set_value (nat_eq n) es w) q ≡ block_at es q
put-other n q w [] d = refl
put-other n q w (e ∷ es) d = other-if n e.0 q e.1 w es (set_value (nat_eq n) es w) (nat_eq n e.0) d refl
    (put-other n q w es d)

visit_budget-free : (b : Block) → b.owner ≡ None → due_of b ≡ visit_budget b.role b.len
visit_budget-free b e = ap (λ (o : Option Owner). elim o [ None ↦ visit_budget b.role b.len | Some x ↦ 0 ]) e

visit_budget-owned : (b : Block) (o : Owner) → b.owner ≡ Some o → due_of b ≡ 0
visit_budget-owned b o e = ap (λ (o : Option Owner). elim o [ None ↦ visit_budget b.role b.len | Some x ↦ 0 ]) e

unspent_budget-if : (n k : ℕ) (c b w : Block) (es fs : Blocks) (x : Bool) (o : Owner) → b.owner ≡ None
    → w.owner ≡ Some o
    → (block_at es n ≡ Some b → unspent_budget fs + visit_budget b.role b.len ≡ unspent_budget es)
    → cond x (Some c) (block_at es n) ≡ Some b
    → unspent_budget (cond x ((k, w) ∷ es) ((k, c) ∷ fs)) + visit_budget b.role b.len ≡ unspent_budget ((k, c) ∷ es)
unspent_budget-if n k c b w es fs true o free own ih h =
    let same : c ≡ b = cc in
    let x : due_of c ≡ visit_budget b.role b.len = ap due_of same ∙ visit_budget-free b free in
    let y = visit_budget-owned w o own in
    omega arith
unspent_budget-if n k c b w es fs false o free own ih h = let i = ih h in omega arith

pub unspent_budget-put : (n : ℕ) (b w : Block) (es : Blocks) (o : Owner) → block_at es n ≡ Some b → b.owner ≡ None
    → w.owner ≡ Some o → unspent_budget (set_value (nat_eq n) es w) + visit_budget b.role b.len ≡ unspent_budget es
unspent_budget-put n b w [] o h free own = absurd (cc)
unspent_budget-put n b w (e ∷ es) o h free own =
    unspent_budget-if n e.0 e.1 b w es (set_value (nat_eq n) es w) (nat_eq n e.0) o free own (λ i.
    unspent_budget-put n b w es o i free own) h

frames-if : (n k : ℕ) (c b w : Block) (es fs : Blocks) (x : Bool) → w.role ≡ b.role → w.len ≡ b.len
    → (block_at es n ≡ Some b → frames fs ≡ frames es) → cond x (Some c) (block_at es n) ≡ Some b
    → frames (cond x ((k, w) ∷ es) ((k, c) ∷ fs)) ≡ frames ((k, c) ∷ es)
frames-if n k c b w es fs true r l ih h =
    let same : c ≡ b = cc in
    (λ i. (k, (r ∙ ap (λ (x : Block). x.role) (sym same)) i, (l ∙ ap (λ (x : Block). x.len) (sym same)) i) ∷ frames es)
frames-if n k c b w es fs false r l ih h = ap (λ fs. frame_of (k, c) ∷ fs) (ih h)

-- a block of the same role and length leaves the frame
pub frames-put : (n : ℕ) (b w : Block) (es : Blocks) → block_at es n ≡ Some b → w.role ≡ b.role → w.len ≡ b.len
    → frames (set_value (nat_eq n) es w) ≡ frames es
frames-put n b w [] h r l = absurd (cc)
frames-put n b w (e ∷ es) h r l =
    frames-if n e.0 e.1 b w es (set_value (nat_eq n) es w) (nat_eq n e.0) r l (λ i. frames-put n b w es i r l) h

module _ (ts : List Tile) (es : Blocks) (n : ℕ) (b w : Block) (is : block_at es n ≡ Some b) where
  abbrev replaced : Blocks
  replaced = set_value (nat_eq n) es w

  at-place : block_at replaced n ≡ Some w
  at-place = put-same n w es (ap is_some is)

  -- a block of the same role and length in its place: the blocks are still the tiles
  pub put-blocks : w.role ≡ b.role → w.len ≡ b.len → AreBlocks ts es → AreBlocks ts replaced
  put-blocks role len a = record {
    tiles = λ q c g. elim (cases_eq q n) [
      | inl f ↦
          let there : block_at replaced q ≡ Some w = ap (block_at replaced) f ∙ at-place in
          let same : c ≡ w = cc in
          let t = a.tiles n b is in
          let o : IsTileAt ts n w =
          record { tile = t.tile; is = ap (λ r. tile_of ts r n) role ∙ t.is; len = t.len ∙ sym len } in
          subst (IsTileAt ts q) (sym same) (subst (λ x. IsTileAt ts x w) (sym f) o)
      | inr d ↦ a.tiles q c (sym (put-other n q w es d) ∙ g)
    ];
    blocks = λ q r t g.
        let v = a.blocks q r t g in
        elim (cases_eq q n) [
          | inl f ↦
              let k : block_at es q ≡ Some b = ap (block_at es) f ∙ is in
              let h = v.is in
              let same : b ≡ v.block = cc in
              record {
                block = w;
                is = ap (block_at replaced) f ∙ at-place;
                role_is = role ∙ ap (λ (x : Block). x.role) same ∙ v.role_is;
                len = len ∙ ap (λ (x : Block). x.len) same ∙ v.len;
              }
          | inr d ↦ record { block = v.block; is = put-other n q w es d ∙ v.is; role_is = v.role_is; len = v.len }
        ];
  }

-- the owner of a block that is no object
pub owner-is : (b : Block) → same_role b.role Object ≡ false → owner_in (Some b) ≡ b.owner
owner-is b e = cond-false (same_role b.role Object) None b.owner e

-- ---- nothing is entered

module _ (format : ℕ) (m : Memory) (ts : List Tile) (now : Option ℕ) (st : OwnerState) (role : Role) (link : Owner)
    (plain : same_role role Object ≡ false) (k : IsMarking format m ts now st) where
  abbrev Answer : OwnerState → Type 0
  Answer s = MarksLink format m ts now role link st s

  stays : IsMarkedLink m ts st.entries role link.at link.root
      → (role ≡ Storage → (target : ℕ) (t : Tile) → link_at m link.at ≡ Some target
      → tile_of ts Storage target ≡ Some t → owner_at st.entries target ≡ None → ⊥) → Answer st
  stays noted known = record {
    marking = k;
    noted = noted;
    keeps = λ n place e. e;
    only = λ n o e. inl e;
    less = omega arith;
    paid = λ s target t l f e. absurd (known s target t l f e);
  }

  pub no-link : None ≡ link_at m link.at → Answer st
  no-link e = stays (λ target l. let f = l.0 in absurd (cc)) (λ s target t l. absurd (cc))

  module _ (target : ℕ) (points : Some target ≡ link_at m link.at) where
    same-target : (n : ℕ) → link_at m link.at ≡ Some n → n ≡ target
    same-target n l = cc

    block-there : (r : Role) (n : ℕ) (t : Tile) → link_at m link.at ≡ Some n → tile_of ts r n ≡ Some t
        → IsBlockAt st.entries target r t
    block-there r n t l f = subst (λ x. IsBlockAt st.entries x r t) (same-target n l) (k.blocks.blocks n r t f)

    nothing-there : ((r : Role) (t : Tile) → role ≡ r → IsBlockAt st.entries target r t → ⊥) → Answer st
    nothing-there h = stays
        (λ n l. absurd (h role (l.1.0) refl (block-there role n (l.1.0) l.0 (l.1.1))))
        (λ s n t l f e. h Storage t s (block-there Storage n t l f))

    -- the result of entering a link to no block
    pub no-block : block_at st.entries target ≡ None → Answer st
    no-block e = nothing-there (λ r t s w. let f = w.is in absurd (cc))

    module _ (b : Block) (is : block_at st.entries target ≡ Some b) where
      role-of : (r : Role) (t : Tile) → IsBlockAt st.entries target r t → b.role ≡ r
      role-of r t w = let f = w.is in let same : b ≡ w.block = cc in ap (λ (x : Block). x.role) same ∙ w.role_is

      pub other-role : b.role ≢ role → Answer st
      other-role d = nothing-there (λ r t s w. d (role-of r t w ∙ sym s))

      module _ (r : b.role ≡ role) where
        plain-here : same_role b.role Object ≡ false
        plain-here = ap (λ x. same_role x Object) r ∙ plain

        was-owned : owner_at st.entries target ≡ b.owner
        was-owned = ap owner_in is ∙ owner-is b plain-here

        -- ---- the link leads to the block

        module _ (may : MayCount format m ts role link.at) where
          leads : LeadsTo m ts role link.at target
          leads = let w = k.blocks.tiles target b is
              in (sym points, (w.tile, ap (λ x. tile_of ts x target) (sym r) ∙ w.is))

          pub shared : (o : Owner) → b.owner ≡ Some o → o.at ≢ link.at → IsSharedAt format m ts link.at
          shared o e d = record {
            target = target;
            other = o.at;
            apart = λ e. d (sym e);
            here = may target leads;
            there = k.counts target o (was-owned ∙ e);
          }

          module _ (start : IsRooted ts st.entries link) (free : b.owner ≡ None) where
            abbrev pub owned : Block
            owned = record { role = b.role; len = b.len; owner = Some link; next = st.pending }

            abbrev pub after : Blocks
            after = set_value (nat_eq target) st.entries owned

            here : block_at after target ≡ Some owned
            here = put-same target owned st.entries (ap is_some is)

            there : (n : ℕ) → n ≢ target → block_at after n ≡ block_at st.entries n
            there n d = put-other target n owned st.entries d

            owner-here : owner_at after target ≡ Some link
            owner-here = ap owner_in here ∙ owner-is owned plain-here

            owner-there : (n : ℕ) → n ≢ target → owner_at after n ≡ owner_at st.entries n
            owner-there n d = ap owner_in (there n d)

            was-free : owner_at st.entries target ≡ None
            was-free = was-owned ∙ free

            keeps-owner : (n : ℕ) (o : Owner) → owner_at st.entries n ≡ Some o → owner_at after n ≡ Some o
            keeps-owner n o e = elim (cases_eq n target) [
              | inl f ↦ let g : owner_at st.entries n ≡ None = ap (owner_at st.entries) f ∙ was-free in absurd (cc)
              | inr d ↦ owner-there n d ∙ e
            ]

            only-link : (n : ℕ) (o : Owner) → owner_at after n ≡ Some o → (owner_at st.entries n ≡ Some o) ⊎ (o ≡ link)
            only-link n o e = elim (cases_eq n target) [
              | inl f ↦ let g : owner_at after n ≡ Some link = ap (owner_at after) f ∙ owner-here in inr (cc)
              | inr d ↦ inl (sym (owner-there n d) ∙ e)
            ]

            counts-after : (n : ℕ) (o : Owner) → owner_at after n ≡ Some o → IsCountedLink format m ts o.at n
            counts-after n o e = elim (cases_eq n target) [
              | inl f ↦
                  let g : owner_at after n ≡ Some link = ap (owner_at after) f ∙ owner-here in
                  let same : o ≡ link = cc in
                  subst (λ (x : Owner). IsCountedLink format m ts x.at n) (sym same)
                  (subst (IsCountedLink format m ts link.at) (sym f) (may target leads))
              | inr d ↦ k.counts n o (sym (owner-there n d) ∙ e)
            ]

            still-rooted : (o : Owner) → IsRooted ts st.entries o → IsRooted ts after o
            still-rooted o (inl h) = inl h
            still-rooted o (inr h) =
                let w = h.0 in
                inr (
                  record {
                    node = w.node;
                    tile = w.tile;
                    is = w.is;
                    led = w.led;
                    noted = keeps-owner w.node w.led w.noted;
                    link = w.link;
                  },
                  h.1,
                )

            rooted-after : (n : ℕ) (o : Owner) → owner_at after n ≡ Some o → IsRooted ts after o
            rooted-after n o e = elim (only-link n o e) [
              | inl f ↦ still-rooted o (k.rooted n o f)
              | inr same ↦ subst (IsRooted ts after) (sym same) (still-rooted link start)
            ]

            -- waiting nodes are owned, so this node is not waiting
            waits-elsewhere : (n : ℕ) (next : Option ℕ) → IsWaiting st.entries n next → n ≢ target
            waits-elsewhere n next w f =
                let g : block_at st.entries n ≡ Some b = ap (block_at st.entries) f ∙ is in
                let i = w.is in
                let same : w.block ≡ b = cc in
                let o : IsSome b.owner = subst (λ (x : Block). IsSome x.owner) same w.owned in
                false≢true (ap is_some (sym free) ∙ o)

            chain-after : (head : Option ℕ) (ns : List ℕ) → IsChain st.entries head ns → IsChain after head ns
            chain-after head [] h = h
            chain-after head (n ∷ ns) h =
                let w = h.2 in
                let apart = waits-elsewhere n h.0 h.2 in (
                  h.0,
                  h.1,
                  record {
                    block = w.block;
                    is = there n apart ∙ w.is;
                    node = w.node;
                    owned = w.owned;
                    next_is = w.next_is;
                  },
                  chain-after h.0 ns h.3,
                )

            noted-after : (r2 : Role) (at root : ℕ) → IsMarkedLink m ts st.entries r2 at root
                → IsMarkedLink m ts after r2 at root
            noted-after r2 at root h = λ n l. keeps-owner n _ (h n l)

            paid-after : role ≡ Storage → (n : ℕ) (t : Tile) → link_at m link.at ≡ Some n
                → tile_of ts Storage n ≡ Some t → 3 * (t.len / 16) ≡ visit_budget b.role b.len
            paid-after s n t l f =
                let w = block-there Storage n t l f in
                let g = w.is in
                let same : w.block ≡ b = cc in
                let long : b.len ≡ t.len = ap (λ (x : Block). x.len) (sym same) ∙ w.len in
                let kind : b.role ≡ Storage = r ∙ s in
                sym ((λ i. visit_budget (kind i) (long i)))

            module _ (chain : List ℕ) (longer : (n : ℕ) → IsMember n k.chain → IsMember n chain) (new : role ≡ Node
                → IsMember target chain) where
              followed-after : (n : ℕ) (o : Owner) (t : Tile) → tile_of ts Node n ≡ Some t
                  → owner_at after n ≡ Some o → IsMember n chain ⊎ ((now ≡ Some n) ⊎ IsFollowed m ts after n o.root)
              followed-after n o t f e = elim (cases_eq n target) [
                | inl g ↦
                    let isnode : role ≡ Node = sym r
                    ∙ role-of Node t (subst (λ x. IsBlockAt st.entries x Node t) g (k.blocks.blocks n Node t f)) in
                    inl (subst (λ x. IsMember x chain) (sym g) (new isnode))
                | inr d ↦ elim (k.followed n o t f (sym (owner-there n d) ∙ e)) [
                  | inl s ↦ inl (longer n s)
                  | inr (inl s) ↦ inr (inl s)
                  | inr (inr s) ↦ inr (inr (noted-after Node n o.root (s.0), noted-after Node (n + 8) o.root (s.1)))
                ]
              ]

              pub owned-now : (head : Option ℕ) (count : ℕ) → IsChain after head chain → length chain ≡ count
                  → 6 * count ≤ 6 * st.waiting + visit_budget b.role b.len → (role ≡ Storage → count ≡ st.waiting)
                  → Answer (record { entries = after; pending = head; waiting = count })
              owned-now head count linked long most still =
                  let fewer = unspent_budget-put target b owned st.entries link is free refl in
                  let room = k.room in
                  record {
                    marking = record {
                      blocks = put-blocks ts st.entries target b owned is refl refl k.blocks;
                      frame = frames-put target b owned st.entries is refl refl ∙ k.frame;
                      aligned = k.aligned;
                      counts = counts-after;
                      rooted = rooted-after;
                      chain = chain;
                      linked = linked;
                      count = long;
                      room = omega arith;
                      followed = followed-after;
                    };
                    noted = λ n l. ap (owner_at after) (same-target n l.0) ∙ owner-here;
                    keeps = keeps-owner;
                    only = only-link;
                    less = omega arith;
                    paid = λ s n t l f e. let p = paid-after s n t l f in let c = still s in omega arith;
                  }

            -- the links of a node will be followed
            pub node-owned : role ≡ Node → Answer (record {
              entries = after;
              pending = Some target;
              waiting =
                  st.waiting + 1;
            })
            node-owned isnode =
                let w : IsWaiting after target st.pending =
                record { block = owned; is = here; node = r ∙ isnode; owned = refl; next_is = refl } in
                let long = k.count in
                let cost : visit_budget b.role b.len ≡ 6 = ap (λ x. visit_budget x b.len) (r ∙ isnode) in
                owned-now (target ∷ k.chain) (λ n s. inr s) (λ e. inl refl) (Some target) (st.waiting + 1) (
                  st.pending,
                  refl,
                  w,
                  chain-after st.pending k.chain k.linked,
                ) (omega arith) (omega arith)
                (λ s. let f : Node ≡ Storage = sym isnode ∙ s in absurd (cc))

            -- no other block is
            pub other-owned : role ≢ Node → Answer (record {
              entries = after;
              pending = st.pending;
              waiting =
                  st.waiting;
            })
            other-owned d = owned-now k.chain (λ n s. s) (λ e.
                absurd (d e)) st.pending st.waiting (chain-after st.pending k.chain k.linked) k.count (omega arith) (λ
                s. refl)
