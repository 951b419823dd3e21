use Rattle.segment_dump.proofs.Common.{length, sym, subst, IsVectorKind}
use Rattle.segment_dump.proofs.filling.EmptyObjects.{fills-plain, fills-text, not-vector}
use Rattle.segment_dump.proofs.filling.fill.Goals as goal

pub returns-in-String-clause-filling : goal.returns-in-String-clause-filling
returns-in-String-clause-filling c =
    fills-text c.args.segment.now c.fill_string.new.segment c.args.object.handle c.args.object.kind
    c.args.shape.count c.args.lines.now c.fill_string.new.lines (length c.args.room.now) c.fill_string.result
    c.in-String.is (c.fill_string.ensures.filling (length c.args.room.now))

pub returns-in-Vector-clause-filling : goal.returns-in-Vector-clause-filling
returns-in-Vector-clause-filling c = c.fill_reserved.ensures.filling (subst IsVectorKind (sym c.in-Vector.is) tt)

pub returns-in-Strings-clause-filling : goal.returns-in-Strings-clause-filling
returns-in-Strings-clause-filling c =
    c.fill_reserved-in-Strings.ensures.filling (subst IsVectorKind (sym c.in-Strings.is) tt)

pub returns-in_default-clause-filling : goal.returns-in_default-clause-filling
returns-in_default-clause-filling c =
    fills-plain c.args.segment.now c.fill_elements.new.segment c.args.object.handle c.args.object.kind
    c.args.shape.count c.args.lines.now c.fill_elements.new.lines (length c.args.room.now) c.fill_elements.result
    c.in_default.not-String
    (not-vector c.args.object.kind c.in_default.not-Vector c.in_default.not-Strings) c.fill_elements.ensures.filling
