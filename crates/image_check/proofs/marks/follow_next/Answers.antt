use Rattle.image_check.proofs.Common.{small_size}
use Rattle.image_check.proofs.Common.{HasTiles, IsMarkingOf, IsSharedIn, List, MatchResult, Node, Some, ap, arith}
use Rattle.image_check.proofs.Common.{bytes_of, length, owner, ℕ, ◌+◌, ◌∙◌, ◌≡◌, ◌≤◌}
use Rattle.raw_region.specs.Format.{current}
use Rattle.image_check.specs.Owners.{IsTurn, MarksLink, OwnerState, next_in, root_in}
use Rattle.image_check.specs.Passes.{tiles_in}
use Rattle.image_check.specs.Sharing.{state_of}
use Rattle.image_check.proofs.block_collection.Places.{IsInside, payload-inside}
use Rattle.image_check.proofs.shared_blocks.Worklist.{debts-small, leader, left-counts, left-rooted, map-marked}
use Rattle.image_check.proofs.shared_blocks.Worklist.{node-there, node-tile, popped, right-counts, right-rooted}
use Rattle.image_check.proofs.shared_blocks.Worklist.{root-is, taken, turn-keeps, turn-less, turned}
use Rattle.image_check.proofs.marks.follow_next.Given.{Over}
use Rattle.image_check.proofs.marks.follow_next.Goals.{After-mark}
use Rattle.image_check.proofs.marks.follow_next.Goals as goal

-- the node lies in the window
node-inside : (format : ℕ) (b : List ℕ) (st : OwnerState) → HasTiles b → IsMarkingOf format b st
    → (n : ℕ) → st.pending ≡ Some n → IsInside n (length b) × (length b ≤ 1073741824)
node-inside format b st h k n e = (
  payload-inside current (bytes_of b) (length b) Node n
      (node-tile format (bytes_of b) (tiles_in b) st k n e).tile h.tags
      (node-there format (bytes_of b) (tiles_in b) st k n e),
  small_size (length b) h.size,
)

pub links-children-requires-clause-size : goal.links-children-requires-clause-size
links-children-requires-clause-size g c = c.requires.0.size

pub links-children-requires-clause-aligned : goal.links-children-requires-clause-aligned
links-children-requires-clause-aligned g c =
    let w = node-inside g.format c.args.window.now.bytes (state_of c.args.owners.now) c.requires.0 c.requires.1.0
    c.args.node c.requires.1.1 in
    let x = w.0.aligned in omega arith

pub links-children-requires-clause-in_bounds : goal.links-children-requires-clause-in_bounds
links-children-requires-clause-in_bounds g c =
    let w = node-inside g.format c.args.window.now.bytes (state_of c.args.owners.now) c.requires.0 c.requires.1.0
    c.args.node c.requires.1.1 in
    let x = w.0.high in omega arith

pub overflow_add-right : goal.overflow_add-right
overflow_add-right g c =
    let w = node-inside g.format c.args.window.now.bytes (state_of c.args.owners.now) c.requires.0 c.requires.1.0
    c.args.node c.requires.1.1 in
    let x = w.0.high in let y = w.1 in omega arith

-- the root of the node's links
its-root : (g : Over) (c : After-mark g) → c.root_in-root.result
    ≡ (leader g.format (bytes_of c.args.window.now.bytes) (tiles_in c.args.window.now.bytes) (state_of
    c.args.owners.now)
    c.requires.1.0 c.args.node c.requires.1.1).0.root
its-root g c =
    c.root_in-root.ensures ∙ ap (λ x. root_in x c.args.node) c.block_of-block.ensures.value
    ∙ root-is g.format (bytes_of c.args.window.now.bytes) (tiles_in c.args.window.now.bytes) (state_of
    c.args.owners.now)
    c.requires.1.0 c.args.node c.requires.1.1

-- its left link is entered, or shares its block
first : (g : Over) (c : After-mark g) → MatchResult c.mark.result
    (λ done. MarksLink g.format (bytes_of c.args.window.now.bytes) (tiles_in c.args.window.now.bytes) (Some c.args.node)
    Node (owner c.args.node c.root_in-root.result) (popped (state_of c.args.owners.now) c.next_in-owners.result)
    (state_of c.mark.new.owners)) (IsSharedIn g.format c.args.window.now.bytes)
first g c =
    let m = bytes_of c.args.window.now.bytes in
    let ts = tiles_in c.args.window.now.bytes in
    let s = state_of c.args.owners.now in
    c.mark.ensures.marks g.format m ts (Some c.args.node)
    (taken g.format m ts s c.requires.1.0 c.args.node c.requires.1.1 c.next_in-owners.result
    (c.next_in-owners.ensures ∙ ap next_in c.block_of-block.ensures.value))
    c.links-children.ensures.left (left-counts g.format m ts s c.requires.1.0 c.args.node c.requires.1.1)
    (left-rooted g.format m ts s c.requires.1.0 c.args.node c.requires.1.1 c.root_in-root.result (its-root g c))

pub mark-requires-in-Ok-clause-no_overflow : goal.mark-requires-in-Ok-clause-no_overflow
mark-requires-in-Ok-clause-no_overflow g c =
    let done = rw c.in-Ok.is at (first g (goal.at.mark-requires-in-Ok-clause-no_overflow g c).After-mark) in
    let room = done.marking.room in
    let most = debts-small c.args.window.now.bytes c.requires.0 in
    omega arith

pub returns-in-Err-clause-turn : goal.returns-in-Err-clause-turn
returns-in-Err-clause-turn g c = rw c.in-Err.is at (first g (goal.at.returns-in-Err-clause-turn g c).After-mark)

pub returns-in-Ok-clause-turn : goal.returns-in-Ok-clause-turn
returns-in-Ok-clause-turn g c =
    let k = (goal.at.returns-in-Ok-clause-turn g c).After-mark in
    let b = c.args.window.now.bytes in
    let m = bytes_of b in
    let ts = tiles_in b in
    let s = state_of c.args.owners.now in
    let s1 = state_of c.mark.new.owners in
    let s2 = state_of c.mark-in-Ok.new.owners in
    let root = c.root_in-root.result in
    let next = c.next_in-owners.result in
    let n = c.args.node in
    let e = c.requires.1.1 in
    let one = rw c.in-Ok.is at (first g k) in
    map-marked (MarksLink g.format m ts (Some n) Node (owner (n + 8) root) s1 s2) (IsTurn g.format b s s2)
    g.format b c.mark-in-Ok.result
    (λ two. record {
      marking = turned g.format m ts s c.requires.1.0 n e root (its-root g k) next s1 s2 one two;
      keeps = turn-keeps g.format m ts s c.requires.1.0 n e root (its-root g k) next s1 s2 one two;
      less = turn-less g.format m ts s c.requires.1.0 n e root (its-root g k) next s1 s2 one two;
    })
    (c.mark-in-Ok.ensures.marks g.format m ts (Some n) one.marking c.links-children.ensures.right
    (right-counts g.format m ts s c.requires.1.0 n e)
    (right-rooted g.format m ts s c.requires.1.0 n e root (its-root g k) s1 one.keeps))
