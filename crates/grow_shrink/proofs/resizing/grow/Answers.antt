-- Each reason in its turn, or the segment grows.
use Rattle.std.proofs.Common.{◌≡◌, sym, ◌∙◌, ◌%◌, ◌||◌, not, ◌==◌, nat_lt, false, arith}
use Rattle.segment_manager.specs.Step.{is_read_only}
use Rattle.grow_shrink.proofs.resizing.Refusals.{grown_small, not_refused, refused_large, refused_region}
use Rattle.grow_shrink.proofs.resizing.grow.Goals as goal
use Rattle.grow_shrink.proofs.resizing.grow.Goals.{After-is_above}

-- the segment is written, and this many bytes may be added to one
writing : (c : After-is_above) → is_read_only c.args.segment.now.mode ≡ false
writing c = sym c.is_read_only.ensures ∙ c.if-is_read_only.false

good : (c : After-is_above) → (nat_lt c.args.extra 32 || not (c.args.extra % 16 == 0)) ≡ false
good c = sym c.is_bad.ensures ∙ c.if-is_bad.false

pub returns-then-is_above-clause-refused : goal.returns-then-is_above-clause-refused
returns-then-is_above-clause-refused c =
    let p = (goal.at.returns-then-is_above-clause-refused c).After-is_above in
    refused_large c.args.segment.now c.args.extra (writing p) (good p) c.size.result c.size.ensures
    (sym c.is_above.ensures ∙ c.if-is_above.true)

pub returns-then-extra-region_left-clause-refused : goal.returns-then-extra-region_left-clause-refused
returns-then-extra-region_left-clause-refused c =
    let p = (goal.at.returns-then-extra-region_left-clause-refused c).After-is_above in
    let left = c.region_left.ensures in let past = c.if-extra-region_left.true in
    refused_region c.args.segment.now c.args.extra (writing p) (good p) c.size.result c.size.ensures
    (sym c.is_above.ensures ∙ c.if-is_above.false) (omega arith)

pub extend_end-requires-clause-max_size : goal.extend_end-requires-clause-max_size
extend_end-requires-clause-max_size c =
    let p = (goal.at.extend_end-requires-clause-max_size c).After-is_above in
    grown_small c.args.segment.now c.args.extra (writing p) (good p) c.size.result c.size.ensures
    (sym c.is_above.ensures ∙ c.if-is_above.false)

pub returns-clause-refused : goal.returns-clause-refused
returns-clause-refused c =
    let p = (goal.at.returns-clause-refused c).After-is_above in
    let left = c.region_left.ensures in let within = c.if-extra-region_left.false in
    not_refused c.args.segment.now c.args.extra (writing p) (good p) c.size.result c.size.ensures
    (sym c.is_above.ensures ∙ c.if-is_above.false) (omega arith)
