use Rattle.std.proofs.Common.{◌≡◌, ℕ, suc, ◌+◌, ◌-◌, ◌*◌, ◌<◌, ◌≤◌, ◌^◌, Bool, true, false, cond}
use Rattle.std.proofs.Common.{if◌then◌else◌, Option, Some, is_some, List, ◌∷◌, length, length-append, refl, sym, ◌∙◌}
use Rattle.std.proofs.Common.{ap, subst, arith, add-one, Fits, w64}
use Rattle.std.proofs.lemmas.Bool.{and_from, and_parts, true≢false}
use Rattle.link_tree.specs.Tree.{Tree, fork, height, nodes_of}
use Rattle.link_tree.specs.Nodes.{is_in, leads}
use Rattle.link_tree.specs.Between.{is_above, is_below, count_between}
use Rattle.link_tree.specs.Checking.{IsLinkClosed, IsSound}
use Rattle.link_tree.proofs.checking.Soundness.{sound_fork, parts_of, HasParts, one_height, closed_link, counts_split}
use Rattle.link_tree.proofs.checking.Soundness.{part_size}
use Rattle.link_tree.proofs.trees.NodeLaws.{strict}
use Rattle.link_tree.proofs.checking.+check_below.Goals as goal
use Rattle.link_tree.proofs.checking.+check_below.Goals.{After-red-red, After-child-right}
use Rattle.link_tree.proofs.checking.+check_below.Goals.{else-red-via-then-red+else-red_above, else-red-via-else-red}
use Rattle.link_tree.proofs.checking.+check_below.Given.{Over}

-- ---- arithmetic: `a` steps before, `b` once the node is read, `d` and `e` after its parts

five : (a c d e f : ℕ) → c ≤ a + 4 → d ≤ c + 1 → e ≡ d → f ≡ e → f ≤ a + 5
five a c d e f between red left right = omega arith

room_read : (a c d A B C : ℕ) → c ≤ a + 4 → d ≤ c + 1 → A + B + 1 ≤ C → a + 5 * C + 5 < 2 ^ 64 → d + 1 < 2 ^ 64
room_read a c d A B C between red parts room = omega arith

room_left : (a b A B C : ℕ) → b ≤ a + 5 → A + B + 1 ≤ C → a + 5 * C + 5 < 2 ^ 64 → b + 5 * A + 5 < 2 ^ 64
room_left a b A B C few parts room = omega arith

room_right : (a b d A B C : ℕ) → b ≤ a + 5 → d ≤ b + 5 * A + 0 → A + B + 1 ≤ C → a + 5 * C + 5 < 2 ^ 64
    → d + 5 * B + 5 < 2 ^ 64
room_right a b d A B C few left parts room = omega arith

steps_left : (a b d A B C : ℕ) → b ≤ a + 5 → d ≤ b + 5 * A + 5 → A + B + 1 ≤ C → d ≤ a + 5 * C + 5
steps_left a b d A B C few left parts = omega arith

steps_right : (a b d e k A B C : ℕ) → b ≤ a + 5 → d ≤ b + 5 * A + 0 → e ≤ d + 5 * B + k → A + B + 1 ≤ C
    → e ≤ a + 5 * C + k
steps_right a b d e k A B C few left right parts = omega arith

more : (e m : ℕ) → e ≤ m + 0 → e ≤ m + 5
more e m h = omega arith

fits_nodes : (a k k' A B C : ℕ) → k + k' ≤ A + B → A + B + 1 ≤ C → a + 5 * C + 5 < 2 ^ 64 → Fits w64 (k + k' + 1)
fits_nodes a k k' A B C few parts room = omega arith

fits_less : (k : ℕ) → Fits w64 (k + 1) → Fits w64 k
fits_less k h = omega arith

lower_than : (h u l : ℕ) → h + 1 ≤ u → u ≤ l → h ≤ l - 1
lower_than h u l below most = omega arith

falls : (l t : ℕ) → l ≡ t → (l ≡ 0 → ⊥) → l - 1 < t
falls l t is some = omega arith

one_less : (l : ℕ) → l ≤ 82 → l - 1 ≤ 82
one_less l most = omega arith

level_red : (red : Bool) (b : ℕ) → red ≡ true → cond red b (suc b) ≡ b
level_red red b e = rw e refl

level_black : (red : Bool) (b : ℕ) → red ≡ false → cond red b (suc b) ≡ b + 1
level_black red b e = rw (e, add-one) refl

count_fork : (red : Bool) (l r : Tree) (n k k' : ℕ) → length (nodes_of l) ≡ k → length (nodes_of r) ≡ k'
    → length (nodes_of (fork red l n r)) ≡ k + k' + 1
count_fork red l r n k k' p q = omega (arith, length-append (nodes_of l) (n ∷ nodes_of r))

-- ---- the node that is read

abbrev Sound : (g : Over) → g.row.N.Denot → (link low high : Option ℕ) → Bool → Tree → ℕ → Type 0
Sound g s = IsSound (g.N.Nodes.order s) (g.N.Nodes.cells s)

-- a part of this many black levels and nodes
abbrev Found : (g : Over) → g.row.N.Denot → (link low high : Option ℕ) → Bool → ℕ → ℕ → Type 0
Found g s link low high red b k = (t : Tree) × Sound g s link low high red t b × (length (nodes_of t) ≡ k)

-- such a part is found
abbrev Finds : (g : Over) → g.row.N.Denot → (link low high : Option ℕ) → Bool → ℕ → Bool → Type 0
Finds g s link low high red levels found =
    (t : Tree) (b : ℕ) → Sound g s link low high red t b → height t ≤ levels → found ≡ true

abbrev count : (g : Over) → g.row.N.Denot → (low high : Option ℕ) → List ℕ → ℕ
count g s = count_between (g.N.Nodes.order s)

abbrev Room : (g : Over) → g.row.N.Denot → (link low high : Option ℕ) → ℕ → Type 0
Room g s link low high steps = (ns : List ℕ) × IsLinkClosed (g.N.Nodes.cells s) ns
    × (leads (λ m. is_in m ns) link ≡ true)
    × (steps + 5 * count g s low high ns + 5 < 2 ^ 64)

abbrev Spends : (g : Over) → g.row.N.Denot → (link low high : Option ℕ) → ℕ → ℕ → Bool → Type 0
Spends g s link low high steps steps' found =
    (ns : List ℕ) → IsLinkClosed (g.N.Nodes.cells s) ns → leads (λ m. is_in m ns) link ≡ true
    → steps' ≤ steps + 5 * count g s low high ns + (if found then 0 else 5)

-- what is known of a node that stands between the bounds, once it is read
record IsRead (g : Over) (s : g.row.N.Denot) (link : Option ℕ) (n : ℕ) (low high left right : Option ℕ) (red : Bool)
    (start end : ℕ) : Type 0 where
  is : link ≡ Some n
  above : is_above (g.N.Nodes.order s) low n ≡ true
  below : is_below (g.N.Nodes.order s) n high ≡ true
  left_is : left ≡ (g.N.Nodes.cells s n).left
  right_is : right ≡ (g.N.Nodes.cells s n).right
  red_is : red ≡ (g.N.Nodes.cells s n).red
  few : end ≤ start + 5

read : (g : Over) (t : ℕ) (c : After-child-right g t)
    → IsRead g c.args.nodes c.args.link c.in-Some.node c.args.low c.args.high c.child-left.result
    c.child-right.result c.red-red.result c.args.visits.now.steps c.child-right.new.self.steps
read g t c =
    let s = c.args.nodes in
    let n = c.in-Some.node in
    let stands = and_parts (is_above (g.N.Nodes.order s) c.args.low n) (is_below (g.N.Nodes.order s) n c.args.high)
    (sym c.stands_between.ensures.value ∙ c.if-not-stands_between.false) in
    record {
      is = c.in-Some.is;
      above = stands.0;
      below = stands.1;
      left_is = c.child-left.ensures.value;
      right_is = c.child-right.ensures.value;
      red_is = c.red-red.ensures.value;
      few = five _ _ _ _ _ c.stands_between.ensures.steps_upper c.red-red.ensures.steps_upper
          (c.child-left.ensures.unchanged c.red-red.ensures.position)
          (c.child-right.ensures.unchanged c.child-left.ensures.position);
    }

-- ---- what the node says of the parts below it, which calls see through equal values

module _ {g : Over} {s : g.row.N.Denot} {link : Option ℕ} {n : ℕ} {low high left right : Option ℕ} {red : Bool}
    {start end : ℕ} (r : IsRead g s link n low high left right red start end) where
  -- it parts a closed list
  split : (ns : List ℕ) → leads (λ m. is_in m ns) link ≡ true
      → count g s low (Some n) ns + count g s (Some n) high ns + 1 ≤ count g s low high ns
  split ns k =
      let h = g.N.Nodes.cells s in
      let listed = closed_link (strict g.met.N.Nodes s) h ns n link r.is k in
      counts_split (strict g.met.N.Nodes s) h ns n low high listed r.above r.below

  parts : (red_above : Bool) (t : Tree) (b : ℕ) → Sound g s link low high red_above t b
      → HasParts (strict g.met.N.Nodes s) (g.N.Nodes.cells s) n low high red_above t b
  parts red_above t b k =
      parts_of (strict g.met.N.Nodes s) (g.N.Nodes.cells s) n low
      high red_above t b (subst (λ (o : Option ℕ). Sound g s o low high red_above t b) r.is k)

  closed_on : (ns : List ℕ) → IsLinkClosed (g.N.Nodes.cells s) ns → leads (λ m. is_in m ns) link ≡ true
      → (leads (λ m. is_in m ns) (g.N.Nodes.cells s n).left ≡ true)
      × (leads (λ m. is_in m ns) (g.N.Nodes.cells s n).right ≡ true)
  closed_on ns closed k =
      let i = subst (λ (o : Option ℕ). leads (λ m. is_in m ns) o ≡ true) r.is k in (closed.left n i, closed.right n i)

  room_before : Room g s link low high start → Room g s left low (Some n) end
  room_before room = (
    room.0,
    room.1,
    rw r.left_is (closed_on room.0 room.1 room.2).0,
    room_left _ _ _ _ _ r.few (split room.0 room.2) room.3,
  )

  room_behind : (end' : ℕ) (room : Room g s link low high start) → end' ≤ end + 5 * count g s low (Some n) room.0 + 0
      → Room g s right (Some n) high end'
  room_behind end' room spent = (
    room.0,
    room.1,
    rw r.right_is (closed_on room.0 room.1 room.2).1,
    room_right _ _ _ _ _ _ r.few spent (split room.0 room.2) room.3,
  )

  found_on : {part part' from to : Option ℕ} {b k : ℕ} → part ≡ part'
      → Found g s part from to red b k → Found g s part' from to (g.N.Nodes.cells s n).red b k
  found_on is w = rw (is, r.red_is) at w

  finds_on : {part part' from to : Option ℕ} {levels : ℕ} {found : Bool} → part ≡ part'
      → Finds g s part from to red levels found → Finds g s part' from to (g.N.Nodes.cells s n).red levels found
  finds_on is finds = rw (is, r.red_is) at finds

  spent_on : {part part' : Option ℕ} (from to : Option ℕ) (ns : List ℕ) (end' : ℕ) {end'' : ℕ} {found : Bool}
      (is : Bool) → part ≡ part' → IsLinkClosed (g.N.Nodes.cells s) ns → leads (λ m. is_in m ns) part' ≡ true
      → found ≡ is → Spends g s part from to end' end'' found
      → end'' ≤ end' + 5 * count g s from to ns + (if is then 0 else 5)
  spent_on from to ns end' is p closed k f told =
      let here = rw (p, f) at told in here ns closed k

  spent_both : (ns : List ℕ) (end' : ℕ) {end'' : ℕ} {found found' : Bool} (is : Bool)
      → IsLinkClosed (g.N.Nodes.cells s) ns → leads (λ m. is_in m ns) link ≡ true → found ≡ true
      → found' ≡ is → Spends g s left low (Some n) end end' found
      → Spends g s right (Some n) high end' end'' found'
      → end'' ≤ start + 5 * count g s low high ns + (if is then 0 else 5)
  spent_both ns end' is closed k f f' told told' =
      let c = closed_on ns closed k in
      steps_right _ _ _ _ _ _ _ _ r.few (spent_on low (Some n) ns end true r.left_is closed c.0 f told)
      (spent_on (Some n) high ns end' is r.right_is closed c.1 f' told') (split ns k)

  -- two parts have no more nodes than the closed list has on both sides of the node
  sizes : (ns : List ℕ) (b b' k k' : ℕ) → IsLinkClosed (g.N.Nodes.cells s) ns → leads (λ m. is_in m ns) link ≡ true
      → Found g s (g.N.Nodes.cells s n).left low (Some n) (g.N.Nodes.cells s n).red b k
      → Found g s (g.N.Nodes.cells s n).right (Some n) high (g.N.Nodes.cells s n).red b' k'
      → k + k' ≤ count g s low (Some n) ns + count g s (Some n) high ns
  sizes ns b b' k k' closed l before behind =
      let h = g.N.Nodes.cells s in
      let size = part_size (strict g.met.N.Nodes s) h ns closed (h n).left low
      (Some n) (h n).red before.0 b (closed_on ns closed l).0 before.1 in
      let size' = part_size (strict g.met.N.Nodes s) h ns closed (h n).right
      (Some n) high (h n).red behind.0 b' (closed_on ns closed l).1 behind.1 in
      rw (← before.2, ← behind.2) (omega (arith, size, size'))

  -- two parts and the node between them
  joined : (red_above : Bool) (b b' k k' level : ℕ)
      → Found g s (g.N.Nodes.cells s n).left low (Some n) (g.N.Nodes.cells s n).red b k
      → Found g s (g.N.Nodes.cells s n).right (Some n) high (g.N.Nodes.cells s n).red b' k'
      → b ≡ b' → (red ≡ true → red_above ≡ true → ⊥) → cond red b (suc b) ≡ level
      → Found g s link low high red_above level (k + k' + 1)
  joined red_above b b' k k' level before behind same free blacks =
      let h = g.N.Nodes.cells s in
      let second = subst (λ (a : ℕ). Sound g s (h n).right (Some n) high (h n).red behind.0 a) (sym same) behind.1 in
      let whole = sound_fork (strict g.met.N.Nodes s) h n low high
      red_above (h n).red before.0 behind.0 b before.1 second r.above r.below refl (λ x y. free (r.red_is ∙ x) y) in
      let t = fork (h n).red before.0 n behind.0 in
      let black : cond (h n).red b (suc b) ≡ level = rw (← r.red_is) blacks in (
        t,
        rw r.is (subst (λ (a : ℕ). Sound g s (Some n) low high red_above t a) black whole),
        count_fork (h n).red before.0 behind.0 n k k' before.2 behind.2,
      )

-- ---- answers

pub returns-then-not-stands_between-clause-complete : goal.returns-then-not-stands_between-clause-complete
returns-then-not-stands_between-clause-complete g t c = λ u b k lower.
    let s = c.args.nodes in
    let here = subst (λ (o : Option ℕ). Sound g s o c.args.low c.args.high c.args.red_above u b) c.in-Some.is k in
    let p = parts_of (strict g.met.N.Nodes s) (g.N.Nodes.cells s)
    c.in-Some.node c.args.low c.args.high c.args.red_above u b here in
    sym c.if-not-stands_between.true ∙ (c.stands_between.ensures.value ∙ and_from
    (is_above (g.N.Nodes.order s) c.args.low c.in-Some.node) (is_below (g.N.Nodes.order s) c.in-Some.node c.args.high)
    p.above p.below)

-- the node parts those of the closed list
counted : (g : Over) (t : ℕ) (c : After-red-red g t)
    → count g c.args.nodes c.args.low (Some c.in-Some.node) c.requires.no_overflow.0
    + count g c.args.nodes (Some c.in-Some.node) c.args.high c.requires.no_overflow.0 + 1
    ≤ count g c.args.nodes c.args.low c.args.high c.requires.no_overflow.0
counted g t c =
    let s = c.args.nodes in
    let n = c.in-Some.node in
    let ns = c.requires.no_overflow.0 in
    let h = g.N.Nodes.cells s in
    let listed = closed_link (strict g.met.N.Nodes s) h ns n c.args.link c.in-Some.is c.requires.no_overflow.2 in
    let stands = and_parts (is_above (g.N.Nodes.order s) c.args.low n) (is_below (g.N.Nodes.order s) n c.args.high)
    (sym c.stands_between.ensures.value ∙ c.if-not-stands_between.false) in
    counts_split (strict g.met.N.Nodes s) h ns n c.args.low c.args.high listed
    stands.0 stands.1

pub child-left-requires-clause-no_overflow : goal.child-left-requires-clause-no_overflow
child-left-requires-clause-no_overflow g t c =
    room_read _ _ _ _ _ _ c.stands_between.ensures.steps_upper c.red-red.ensures.steps_upper
    (counted g t (goal.at.child-left-requires-clause-no_overflow g t c).After-red-red) c.requires.no_overflow.3

pub child-right-requires-clause-no_overflow : goal.child-right-requires-clause-no_overflow
child-right-requires-clause-no_overflow g t c =
    room_read _ _ _ _ _ _ c.stands_between.ensures.steps_upper
    (rw (c.child-left.ensures.unchanged c.red-red.ensures.position) c.red-red.ensures.steps_upper)
    (counted g t (goal.at.child-right-requires-clause-no_overflow g t c).After-red-red) c.requires.no_overflow.3

pub check_below-requires : goal.check_below-requires
check_below-requires g t c =
    let r = read g t (goal.at.check_below-requires g t c).After-child-right in
    let good = c.child-left.ensures.link_target in
    let node : g.N.Nodes.is_node c.args.nodes c.in-Some.node ≡ true = rw c.in-Some.is at c.requires.link in
    let room = room_before r c.requires.no_overflow in
    let less = falls _ _ c.decreases c.if-levels-eq0.false in
    let deep = one_less _ c.requires.height in
    λ κs lives. (less, (lives.0, (lives.1, (deep, (good, (c.requires.min_value, (node, room)))))))

pub returns-in_default-check_below-clause-complete : goal.returns-in_default-check_below-clause-complete
returns-in_default-check_below-clause-complete g t c = λ u b k lower.
    let r = read g t (goal.at.returns-in_default-check_below-clause-complete g t c).After-child-right in
    let p = parts r c.args.red_above u b k in
    let finds = finds_on r r.left_is c.check_below.ensures.complete in
    sym (ap is_some c.in_default-check_below.is)
    ∙ finds p.left p.level p.left_sound (lower_than _ _ _ p.left_lower lower)

pub returns-in_default-check_below-clause-steps : goal.returns-in_default-check_below-clause-steps
returns-in_default-check_below-clause-steps g t c = λ ns closed k.
    let r = read g t (goal.at.returns-in_default-check_below-clause-steps g t c).After-child-right in
    let first = spent_on r c.args.low (Some c.in-Some.node) ns _ false r.left_is closed (closed_on r ns closed k).0
    (ap is_some c.in_default-check_below.is) c.check_below.ensures.steps in
    steps_left _ _ _ _ _ _ r.few first (split r ns k)

pub check_below-requires-2 : goal.check_below-requires-2
check_below-requires-2 g t c =
    let r = read g t (goal.at.check_below-requires-2 g t c).After-child-right in
    let ns = c.requires.no_overflow.0 in
    let closed = c.requires.no_overflow.1 in
    let k = c.requires.no_overflow.2 in
    let first = spent_on r c.args.low (Some c.in-Some.node) ns _ true r.left_is closed (closed_on r ns closed k).0
    (ap is_some c.in-Some-check_below.is) c.check_below.ensures.steps in
    let good = c.child-right.ensures.link_target in
    let node : g.N.Nodes.is_node c.args.nodes c.in-Some.node ≡ true = rw c.in-Some.is at c.requires.link in
    let room = room_behind r c.check_below.new.visits.steps c.requires.no_overflow first in
    let less = falls _ _ c.decreases c.if-levels-eq0.false in
    let deep = one_less _ c.requires.height in
    λ κs lives. (less, (lives.0, (lives.1, (deep, (good, (node, (c.requires.max_value, room)))))))

pub returns-in_default-check_below-2-clause-complete : goal.returns-in_default-check_below-2-clause-complete
returns-in_default-check_below-2-clause-complete g t c = λ u b k lower.
    let r = read g t (goal.at.returns-in_default-check_below-2-clause-complete g t c).After-child-right in
    let p = parts r c.args.red_above u b k in
    let finds = finds_on r r.right_is c.check_below-2.ensures.complete in
    sym (ap is_some c.in_default-check_below-2.is)
    ∙ finds p.right p.level p.right_sound (lower_than _ _ _ p.right_lower lower)

pub returns-in_default-check_below-2-clause-steps : goal.returns-in_default-check_below-2-clause-steps
returns-in_default-check_below-2-clause-steps g t c = λ ns closed k.
    let r = read g t (goal.at.returns-in_default-check_below-2-clause-steps g t c).After-child-right in
    spent_both r ns _ false closed k (ap is_some c.in-Some-check_below.is)
    (ap is_some c.in_default-check_below-2.is) c.check_below.ensures.steps c.check_below-2.ensures.steps

pub returns-then-before-behind-clause-complete : goal.returns-then-before-behind-clause-complete
returns-then-before-behind-clause-complete g t c = λ u b k lower.
    let r = read g t (goal.at.returns-then-before-behind-clause-complete g t c).After-child-right in
    let s = c.args.nodes in
    let h = g.N.Nodes.cells s in
    let node = c.in-Some.node in
    let before = found_on r r.left_is c.in-Some-check_below.ensures.sound in
    let behind = found_on r r.right_is c.in-Some-check_below-2.ensures.sound in
    let p = parts r c.args.red_above u b k in
    let same1 = one_height (strict g.met.N.Nodes s) h
    (h node).left c.args.low (Some node) c.args.low (Some node) (h node).red (h node).red before.0 p.left _ p.level
    before.1 p.left_sound in
    let same2 = one_height (strict g.met.N.Nodes s) h
    (h node).right (Some node) c.args.high (Some node) c.args.high (h node).red (h node).red behind.0 p.right _ p.level
    behind.1 p.right_sound in
    absurd (c.if-before-behind.true (same1 ∙ sym same2))

pub returns-then-before-behind-clause-steps : goal.returns-then-before-behind-clause-steps
returns-then-before-behind-clause-steps g t c = λ ns closed k.
    let r = read g t (goal.at.returns-then-before-behind-clause-steps g t c).After-child-right in
    more _ _ (spent_both r ns _ true closed k (ap is_some c.in-Some-check_below.is)
    (ap is_some c.in-Some-check_below-2.is) c.check_below.ensures.steps c.check_below-2.ensures.steps)

pub overflow_add-count : goal.overflow_add-count
overflow_add-count g t c =
    let r = read g t (goal.at.overflow_add-count g t c).After-child-right in
    let before = found_on r r.left_is c.in-Some-check_below.ensures.sound in
    let behind = found_on r r.right_is c.in-Some-check_below-2.ensures.sound in
    let few = sizes r c.requires.no_overflow.0 _ _ _ _ c.requires.no_overflow.1 c.requires.no_overflow.2 before
    behind in
    fits_less _ (fits_nodes _ _ _ _ _ _ few (split r c.requires.no_overflow.0 c.requires.no_overflow.2)
    c.requires.no_overflow.3)

pub overflow_add-count-2 : goal.overflow_add-count-2
overflow_add-count-2 g t c =
    let r = read g t (goal.at.overflow_add-count-2 g t c).After-child-right in
    let before = found_on r r.left_is c.in-Some-check_below.ensures.sound in
    let behind = found_on r r.right_is c.in-Some-check_below-2.ensures.sound in
    let few = sizes r c.requires.no_overflow.0 _ _ _ _ c.requires.no_overflow.1 c.requires.no_overflow.2 before
    behind in
    fits_nodes _ _ _ _ _ _ few (split r c.requires.no_overflow.0 c.requires.no_overflow.2) c.requires.no_overflow.3

pub returns-then-red-2-clause-sound : goal.returns-then-red-2-clause-sound
returns-then-red-2-clause-sound g t c =
    let r = read g t (goal.at.returns-then-red-2-clause-sound g t c).After-child-right in
    let before = found_on r r.left_is c.in-Some-check_below.ensures.sound in
    let behind = found_on r r.right_is c.in-Some-check_below-2.ensures.sound in
    joined r c.args.red_above _ _ _ _ _ before behind c.if-before-behind.false
    (λ x y. elim c.else-red.branch as (λ _. ⊥) [
      | else-red-via-then-red+else-red_above w ↦ true≢false (sym y ∙ w.if-red_above.false)
      | else-red-via-else-red w ↦ true≢false (sym x ∙ w.if-red.false)
    ]) (level_red _ _ c.if-red-2.true)

pub returns-clause-sound : goal.returns-clause-sound
returns-clause-sound g t c =
    let r = read g t (goal.at.returns-clause-sound g t c).After-child-right in
    let before = found_on r r.left_is c.in-Some-check_below.ensures.sound in
    let behind = found_on r r.right_is c.in-Some-check_below-2.ensures.sound in
    joined r c.args.red_above _ _ _ _ _ before behind c.if-before-behind.false
    (λ x y. elim c.else-red.branch as (λ _. ⊥) [
      | else-red-via-then-red+else-red_above w ↦ true≢false (sym y ∙ w.if-red_above.false)
      | else-red-via-else-red w ↦ true≢false (sym x ∙ w.if-red.false)
    ]) (level_black _ _ c.if-red-2.false)

pub returns-then-red-2-clause-steps : goal.returns-then-red-2-clause-steps
returns-then-red-2-clause-steps g t c = λ ns closed k.
    let r = read g t (goal.at.returns-then-red-2-clause-steps g t c).After-child-right in
    spent_both r ns _ true closed k (ap is_some c.in-Some-check_below.is)
    (ap is_some c.in-Some-check_below-2.is) c.check_below.ensures.steps c.check_below-2.ensures.steps

pub returns-clause-steps : goal.returns-clause-steps
returns-clause-steps g t c = λ ns closed k.
    let r = read g t (goal.at.returns-clause-steps g t c).After-child-right in
    spent_both r ns _ true closed k (ap is_some c.in-Some-check_below.is)
    (ap is_some c.in-Some-check_below-2.is) c.check_below.ensures.steps c.check_below-2.ensures.steps
