-- Block hints are handles of blocks in use, and a walk can begin at one.
use Rattle.best_fit.proofs.Common.{◌≡◌, ◌≢◌, refl, sym, ap, subst, ◌∙◌, ℕ, ◌+◌, ◌-◌, ◌<◌, ◌≤◌, ◌⊎◌, inl, inr, Bool}
use Rattle.best_fit.proofs.Common.{true, false, ◌||◌, List, [], ◌∷◌, ◌++◌, length, append_assoc, arith, ◌==◌, IsTrue}
use Rattle.best_fit.proofs.Common.{Option, Some, None, is_some, IfSome, list_any, both_ways, cases_eq, eq-eqb, ne_eqb}
use Rattle.best_fit.proofs.Common.{or_left, or_right, WindowState, Role, Tile, current, next_in, tile_in, EncodesTiles}
use Rattle.best_fit.proofs.Common.{next_stands_behind, tiles_are_read_off, BlockHints, Extent, LiveSet, handle, added}
use Rattle.best_fit.proofs.Common.{longer, others, released, resized, shorter, AllocatesOk, TryExtends, IsHeap}
use Rattle.best_fit.proofs.Common.{Deallocates, ShrinksInPlace, EncodesLiveSet, is_live_in, live_of, IsHintedHeap}
use Rattle.best_fit.proofs.Common.{IsHinted, LeadToBlocks}
use Rattle.best_fit.specs.BlockHints.{AreNone}
use Rattle.best_fit.proofs.allocation.NewBlock.{allocated-is_live}
use Rattle.best_fit.proofs.tags.RowParts.{row_back}
use Rattle.best_fit.proofs.tags.TileJoins.{row_before}
use Rattle.best_fit.proofs.tags.TagsAndLiveSet.{said_row}
use Rattle.best_fit.proofs.tags.OneLiveSet.{lay_out_one}
use Rattle.best_fit.proofs.extents.Order.{list_any-insert, list_any-insert_others, list_any-others}
use Rattle.best_fit.proofs.tags.TileRows.{Row, unused, used, use_cases, extents_of, extents_of-free, extents_of-used}
use Rattle.best_fit.proofs.tile_walk.Walk.{Left, Next, StillNames, live_extents, names_start}
use Rattle.best_fit.proofs.tags.Writes.{Block, laid-heap, live_block, read_block}

-- ---- adding a hint

-- without hints each hint is the handle of a block
pub none-lead : (p : BlockHints) (b : List ℕ) → AreNone p → LeadToBlocks p b
none-lead p b none h n = absurd (none h n)

-- one more handle
pub noted-lead : (p q : BlockHints) (b : List ℕ) (a : ℕ) → LeadToBlocks p b → IsTrue (is_live_in (live_of b) a)
    → ((h : ℕ) → IsHinted q h → (h ≡ a) ⊎ IsHinted p h) → LeadToBlocks q b
noted-lead p q b a lead live more h n =
    elim (more h n) [ inl e ↦ subst (λ (k : ℕ). IsTrue (is_live_in (live_of b) k)) (sym e) live | inr o ↦ lead h o ]

-- ---- blocks that stay in use

-- if each block of a live set is in the next one, the hints stay valid
pub held-on : (p : BlockHints) (b b' : List ℕ) (live : LiveSet) → LeadToBlocks p b → EncodesLiveSet current b' live
    → ((h : ℕ) → IsTrue (is_live_in (live_of b) h) → IsTrue (is_live_in live h)) → IsHintedHeap b' p
held-on p b b' live lead laid stay =
    record {
      heap = laid-heap b' live laid;
      hints = λ h n. subst (λ (v : LiveSet). IsTrue (is_live_in v h)) (sym (lay_out_one current b' live laid))
          (stay h (lead h n));
    }

-- the hints stay valid if the blocks are the same
pub held-same : (p : BlockHints) (b b' : List ℕ) → LeadToBlocks p b → EncodesLiveSet current b' (live_of b)
    → IsHintedHeap b' p
held-same p b b' lead laid = held-on p b b' (live_of b) lead laid (λ h l. l)

pub added-stay : (live : LiveSet) (x : Extent) (h : ℕ) → IsTrue (is_live_in live h)
    → IsTrue (is_live_in (added live x) h)
added-stay live x h l = list_any-insert_others (λ (y : Extent). handle y == h) x live.extents l

pub released-stay : (live : LiveSet) (k h : ℕ) → h ≢ k → IsTrue (is_live_in live h)
    → IsTrue (is_live_in (released live k) h)
released-stay live k h n l =
    list_any-others (λ (y : Extent). handle y == h) k live.extents
    (λ y e. ne_eqb (handle y) h (λ same. n (sym same ∙ e))) l

pub resized-stay : (live : LiveSet) (y : Extent) (h : ℕ) → IsTrue (is_live_in live h)
    → IsTrue (is_live_in (resized live y) h)
resized-stay live y h l =
    elim (cases_eq (handle y) h) [
      | inl e ↦ list_any-insert (λ (x : Extent). handle x == h) y
          (others (handle y) live.extents) (eq-eqb (handle y) h e)
      | inr n ↦ added-stay (released live (handle y)) y h (released-stay live (handle y) h (λ e. n (sym e)) l)
    ]

-- ---- tiles in use

-- a tile of another handle tells nothing
skip_tile : (h : ℕ) (t : Tile) (ts : List Tile) → (t.offset + 16 ≡ h → ⊥) → list_any (λ (x : Extent). handle x == h)
    (extents_of (t ∷ ts)) ≡ list_any (λ (x : Extent). handle x == h) (extents_of ts)
skip_tile h t ts n =
    elim (use_cases t) [
      | unused f ↦ ap (λ xs. list_any (λ (x : Extent). handle x == h) xs) (extents_of-free t ts f)
      | used role f ↦
          ap (λ xs. list_any (λ (x : Extent). handle x == h) xs) (extents_of-used t ts role f)
          ∙ ap (λ (b : Bool). b || list_any (λ (x : Extent). handle x == h) (extents_of ts))
          (ne_eqb (t.offset + 16) h n)
    ]

-- nor is it the handle of a tile before one at or before it
skip_front : (h at : ℕ) (front : List Tile) (t : Tile) (back : List Tile) (end : ℕ)
    → Row at (front ++ (t ∷ back)) end → t.offset + 16 ≤ h
    → list_any (λ (x : Extent). handle x == h) (extents_of (front ++ (t ∷ back))) ≡ list_any
    (λ (x : Extent). handle x == h) (extents_of (t ∷ back))
skip_front h at [] t back end r l = refl
skip_front h at (u ∷ us) t back end r l =
    let ends = row_before at u us t back end r in let long = r.1 in
    skip_tile h u (us ++ (t ∷ back)) (λ e. omega arith) ∙ skip_front h (at + u.len) us t back end r.3 l

-- nor of a tile after it
none_behind : (h at : ℕ) (ts : List Tile) (end : ℕ) → Row at ts end → h < at + 16
    → list_any (λ (x : Extent). handle x == h) (extents_of ts) ≡ false
none_behind h at [] end r l = refl
none_behind h at (t ∷ ts) end r l =
    let o = r.0 in let long = r.1 in skip_tile h t ts (λ e. omega arith)
    ∙ none_behind h (at + t.len) ts end r.3 (omega arith)

-- the tiles that are left, as a row
row_left : (c : WindowState) (passed : List Tile) (t : Tile) (back : List Tile) → EncodesTiles c (passed ++ (t ∷ back))
    → Row (t.offset + t.len) back (length c.bytes - 16)
row_left c passed t back said =
    let r = row_back 128 passed (t ∷ back) (length c.bytes - 16) (said_row c (passed ++ (t ∷ back)) said) in
    subst (λ k. Row (k + t.len) back (length c.bytes - 16)) (sym r.0) r.3

-- a tile at or after a handle decides whether the handle is live
pub names_told : (c : WindowState) (h : ℕ) (t : Tile) → (n : Next c (StillNames c h) t) → h ≤ t.offset + 16
    → (answer : Bool)
    → ((t.offset + 16 ≡ h) → answer ≡ is_some t.use_of) → ((t.offset + 16 ≡ h → ⊥) → answer ≡ false)
    → answer ≡ is_live_in (live_of c.bytes) h
names_told c h t n l answer same other =
    let long = n.meets.long in
    let none = none_behind h (t.offset + t.len) n.back (length c.bytes - 16) (row_left c n.passed t n.back n.said)
    (omega arith) in
    elim (cases_eq (t.offset + 16) h) [
      | inl e ↦ elim (use_cases t) [
        | unused f ↦ same e ∙ ap is_some f ∙ sym none
            ∙ sym (ap (λ xs. list_any (λ (x : Extent). handle x == h) xs) (extents_of-free t n.back f)) ∙ n.holds
        | used role f ↦
            same e ∙ ap is_some f
            ∙ sym (ap (λ (b : Bool). b || list_any (λ (x : Extent). handle x == h) (extents_of n.back))
            (eq-eqb (t.offset + 16) h e))
            ∙ sym (ap (λ xs. list_any (λ (x : Extent). handle x == h) xs) (extents_of-used t n.back role f)) ∙ n.holds
      ]
      | inr d ↦ other d ∙ sym none ∙ sym (skip_tile h t n.back d) ∙ n.holds
    ]

-- a walk that searches for a handle can begin at a block at or before it
pub left_from : (c : WindowState) (h known : ℕ) → IsHeap current c.bytes → IsTrue (is_live_in (live_of c.bytes) known)
    → known ≤ h → (t : Tile) → ((ts : List Tile) → EncodesTiles c ts → tile_in ts (known - 16) ≡ Some t)
    → Left c (Some t) (StillNames c h)
left_from c h known heap live l t is =
    let b = live_block c known heap live in let o = b.at in
    let same : t ≡ b.tile = read_block c known (known - 16) b (omega arith) t is in
    record {
      passed = b.front;
      rest = b.tile ∷ b.back;
      said = b.said;
      here = ap (λ (u : Tile). Some u) same;
      holds = sym (skip_front h 128 b.front b.tile b.back (length c.bytes - 16)
          (said_row c (b.front ++ (b.tile ∷ b.back)) b.said) (omega arith))
          ∙ ap (λ ts. list_any (λ (x : Extent). handle x == h) (extents_of ts)) (sym b.list) ∙ names_start c h;
    }

any_used : (passed : List Tile) (t : Tile) (back : List Tile) → is_some t.use_of ≡ true
    → IsTrue (list_any (λ (x : Extent). handle x == t.offset + 16) (extents_of (passed ++ (t ∷ back))))
any_used [] t back some =
    elim (use_cases t) [
      | unused f ↦ absurd (both_ways (is_some t.use_of) (ap is_some f) some)
      | used role f ↦
          subst (λ xs. IsTrue (list_any (λ (x : Extent). handle x == t.offset + 16) xs))
          (sym (extents_of-used t back role f))
          (or_left (t.offset + 16 == t.offset + 16)
          (list_any (λ (x : Extent). handle x == t.offset + 16) (extents_of back))
          (eq-eqb (t.offset + 16) (t.offset + 16) refl))
    ]
any_used (u ∷ us) t back some =
    elim (use_cases u) [
      | unused f ↦ subst (λ xs. IsTrue (list_any (λ (x : Extent). handle x == t.offset + 16) xs))
          (sym (extents_of-free u (us ++ (t ∷ back)) f)) (any_used us t back some)
      | used role f ↦
          subst (λ xs. IsTrue (list_any (λ (x : Extent). handle x == t.offset + 16) xs))
          (sym (extents_of-used u (us ++ (t ∷ back)) role f))
          (or_right (u.offset + 16 == t.offset + 16)
          (list_any (λ (x : Extent). handle x == t.offset + 16) (extents_of (us ++ (t ∷ back))))
          (any_used us t back some))
    ]

-- a tile in use is a block
pub used_is_live : (c : WindowState) (P : List Tile → Type 0) (t : Tile) → Next c P t → is_some t.use_of ≡ true
    → IsTrue (is_live_in (live_of c.bytes) (t.offset + 16))
used_is_live c P t n some =
    subst (λ xs. IsTrue (list_any (λ (x : Extent). handle x == t.offset + 16) xs))
    (sym (live_extents c ∙ ap extents_of (tiles_are_read_off c (n.passed ++ (t ∷ n.back)) n.said)))
    (any_used n.passed t n.back some)

-- ---- the tiles after a block

-- they begin after this offset
abbrev pub Beyond : WindowState → ℕ → List Tile → Type 0
Beyond c k ts = (at : ℕ) × Row at ts (length c.bytes - 16) × (k ≤ at)

-- the tiles that a walk has ahead after a block
pub left_behind : (c : WindowState) (h : ℕ) → IsHeap current c.bytes → IsTrue (is_live_in (live_of c.bytes) h)
    → (next : Option Tile) → ((ts : List Tile) → EncodesTiles c ts → next ≡ next_in ts (h - 16))
    → Left c next (Beyond c h)
left_behind c h heap live next is =
    let b = live_block c h heap live in let o = b.at in let long = b.long in
    let at : h - 16 ≡ b.tile.offset = omega arith in
    record {
      passed = b.front ++ (b.tile ∷ []);
      rest = b.back;
      said = subst (EncodesTiles c) (sym (append_assoc b.front (b.tile ∷ []) b.back)) b.said;
      here = is (b.front ++ (b.tile ∷ b.back)) b.said ∙ ap (next_in (b.front ++ (b.tile ∷ b.back))) at
          ∙ next_stands_behind c b.front b.tile b.back b.said;
      holds = (b.tile.offset + b.tile.len, row_left c b.front b.tile b.back b.said, omega arith);
    }

-- a tile beyond another is beyond the next one
pub beyond_next : (c : WindowState) (k : ℕ) (t : Tile) (back : List Tile) → Beyond c k (t ∷ back) → Beyond c k back
beyond_next c k t back y = let l = y.2 in (y.0 + t.len, y.1.3, omega arith)

-- one of these tiles is another block
pub beyond_other : (c : WindowState) (k : ℕ) (t : Tile) (back : List Tile) → Beyond c k (t ∷ back) → t.offset + 16 ≢ k
beyond_other c k t back y = let l = y.2 in let o = y.1.0 in λ e. omega arith

-- ---- the nearest block hint

-- the hint is the handle of a block at or before the handle
pub record Nearest (c : WindowState) (h known : ℕ) : Type 0 where
  pub live : IsTrue (is_live_in (live_of c.bytes) known)
  pub block : Block c known
  pub near : known ≤ h

-- a walk can begin at a hint at or before a handle
pub nearest_block : (c : WindowState) (p : BlockHints) (h known : ℕ) → IsHintedHeap c.bytes p → (o : Option ℕ)
    → IfSome o (λ k. IsHinted p k × (k ≤ h)) → o ≡ Some known → Nearest c h known
nearest_block c p h known held o is e =
    let two : IsHinted p known × (known ≤ h) = subst (λ v. IfSome v (λ k. IsHinted p k × (k ≤ h))) e is in
    let live = held.hints known two.0 in
    record { live = live; block = live_block c known held.heap live; near = two.1 }

-- ---- the hints after each call of the heap

extended_cases : (p : BlockHints) (old new : WindowState) (h n : ℕ) (r : Bool) → IsHintedHeap old.bytes p
    → (x : TryExtends current old new h n r) → (o : Option Extent) → longer (live_of old.bytes) x.extent n
    ≡ o → IsHintedHeap new.bytes p
extended_cases p old new h n r held x None e =
    subst (λ (v : WindowState). IsHintedHeap v.bytes p) (sym (x.refused e).1) held
extended_cases p old new h n r held x (Some y) e =
    held-on p old.bytes new.bytes (resized (live_of old.bytes) y) held.hints (x.lengthened y e).1.live
    (resized-stay (live_of old.bytes) y)

-- hints stay valid if a block is lengthened in place
pub extended-held : (p : BlockHints) (old new : WindowState) (h n : ℕ) (r : Bool) → IsHintedHeap old.bytes p
    → TryExtends current old new h n r → IsHintedHeap new.bytes p
extended-held p old new h n r held x = extended_cases p old new h n r held x
    (longer (live_of old.bytes) x.extent n) refl

-- hints stay valid if a block is shortened in place
pub shortened-held : (p : BlockHints) (old new : WindowState) (h n : ℕ) → LeadToBlocks p old.bytes
    → ShrinksInPlace current old new h n → IsHintedHeap new.bytes p
shortened-held p old new h n lead x =
    held-on p old.bytes new.bytes (resized (live_of old.bytes) (shorter (live_of old.bytes) x.extent n)) lead
    x.shortened.live
    (resized-stay (live_of old.bytes) (shorter (live_of old.bytes) x.extent n))

-- hints stay good if another block is deallocated
pub released-held : (p : BlockHints) (old new : WindowState) (k : ℕ)
    → ((h : ℕ) → IsHinted p h → (h ≢ k) × IsTrue (is_live_in (live_of old.bytes) h))
    → Deallocates current old new k → IsHintedHeap new.bytes p
released-held p old new k lead x =
    record {
      heap = laid-heap new.bytes (released (live_of old.bytes) k) x.live;
      hints = λ h n. subst (λ (v : LiveSet). IsTrue (is_live_in v h))
          (sym (lay_out_one current new.bytes (released (live_of old.bytes) k) x.live))
          (released-stay (live_of old.bytes) k h (lead h n).0 (lead h n).1);
    }

-- with the new block among the block hints, or not
pub allocated-held : (p q : BlockHints) (old new : WindowState) (n : ℕ) (role : Role) (a : ℕ) → LeadToBlocks p old.bytes
    → AllocatesOk current old new n role a → ((h : ℕ) → IsHinted q h → (h ≡ a) ⊎ IsHinted p h)
    → IsHintedHeap new.bytes q
allocated-held p q old new n role a lead x more =
    let held = held-on p old.bytes new.bytes (added (live_of old.bytes) x.extent) lead x.live
    (added-stay (live_of old.bytes) x.extent) in
    record {
      heap = held.heap;
      hints = noted-lead p q new.bytes a held.hints (allocated-is_live current old new n role a x) more;
    }

-- no hint is the block k, and each is a block in use
pub passed-lead : (p : BlockHints) (c d : WindowState) (k : ℕ) → c ≡ d
    → ((h : ℕ) → IsHinted p h → (h ≢ k) × IsTrue (is_live_in (live_of c.bytes) h)) → (h : ℕ) → IsHinted p h
    → (h ≢ k) × IsTrue (is_live_in (live_of d.bytes) h)
passed-lead p c d k e lead h n =
    ((lead h n).0, subst (λ (v : WindowState). IsTrue (is_live_in (live_of v.bytes) h)) e (lead h n).1)
