use Rattle.image_check.proofs.Common.{Blocks, MarksLink, Node, Some, subst, sym, ℕ, ◌+◌, ◌∙◌}
use Rattle.image_check.specs.Sharing.{state_of}
use Rattle.image_check.proofs.block_collection.UsedTile.{same_role-is}
use Rattle.image_check.proofs.block_collection.GoodLinks.{differ}
use Rattle.image_check.proofs.shared_blocks.OneLink.{no-block, node-owned, other-owned, other-role, shared}
use Rattle.image_check.proofs.marks.mark.Goals as goal

pub returns-in_default-find-clause-marks : goal.returns-in_default-find-clause-marks
returns-in_default-find-clause-marks c format m ts now k e may start =
    no-block format m ts now (state_of c.args.owners.now)
    c.args.role c.args.link c.requires.role k c.in-Some.target (sym c.in-Some.is ∙ e)
    c.in_default-find.ensures.absent

pub returns-then-not-is_same-clause-marks : goal.returns-then-not-is_same-clause-marks
returns-then-not-is_same-clause-marks c format m ts now k e may start =
    other-role format m ts now (state_of c.args.owners.now)
    c.args.role c.args.link c.requires.role k c.in-Some.target (sym c.in-Some.is ∙ e)
    c.in-Some-find.block c.in-Some-find.ensures.block
    (differ c.in-Some-find.block.role c.args.role (sym c.is_same.ensures ∙ c.if-not-is_same.true))

pub returns-in-Some-owner-clause-marks : goal.returns-in-Some-owner-clause-marks
returns-in-Some-owner-clause-marks c format m ts now k e may start =
    shared format m ts now (state_of c.args.owners.now)
    c.args.role c.args.link c.requires.role k c.in-Some.target (sym c.in-Some.is ∙ e)
    c.in-Some-find.block c.in-Some-find.ensures.block
    (same_role-is c.in-Some-find.block.role c.args.role (sym c.is_same.ensures ∙ c.if-not-is_same.false)) may
    c.in-Some-owner.owner c.in-Some-owner.is c.if-owner-link.false

pub returns-then-is_same-clause-marks : goal.returns-then-is_same-clause-marks
returns-then-is_same-clause-marks c format m ts now k e may start =
    let was = state_of c.args.owners.now in
    let same = same_role-is c.in-Some-find.block.role c.args.role (sym c.is_same.ensures ∙ c.if-not-is_same.false) in
    subst (λ (n : ℕ). MarksLink format m ts now c.args.role c.args.link was
    (record { entries = c.put.new.self.entries; pending = Some n; waiting = was.waiting + 1 }))
    (sym c.in-Some-find.ensures.payload)
    (subst (λ (es : Blocks). MarksLink format m ts now c.args.role c.args.link was
    (record { entries = es; pending = Some c.in-Some.target; waiting = was.waiting + 1 })) (sym c.put.ensures.value)
    (node-owned format m ts now was c.args.role c.args.link c.requires.role k c.in-Some.target (sym c.in-Some.is ∙ e)
    c.in-Some-find.block c.in-Some-find.ensures.block same may start c.in_default-owner.is
    (same_role-is c.args.role Node (sym c.is_same-2.ensures ∙ c.if-is_same.true))))

pub returns-else-is_same-clause-marks : goal.returns-else-is_same-clause-marks
returns-else-is_same-clause-marks c format m ts now k e may start =
    let was = state_of c.args.owners.now in
    let same = same_role-is c.in-Some-find.block.role c.args.role (sym c.is_same.ensures ∙ c.if-not-is_same.false) in
    subst (λ (es : Blocks). MarksLink format m ts now c.args.role c.args.link was
    (record { entries = es; pending = was.pending; waiting = was.waiting })) (sym c.put.ensures.value)
    (other-owned format m ts now was c.args.role c.args.link c.requires.role k c.in-Some.target (sym c.in-Some.is ∙ e)
    c.in-Some-find.block c.in-Some-find.ensures.block same may start c.in_default-owner.is
    (differ c.args.role Node (sym c.is_same-2.ensures ∙ c.if-is_same.false)))
