use Rattle.segment_dump.proofs.Common.{sym, ap, ByKind, NoKey, key_in}
use Rattle.segment_dump.proofs.reading.ObjectHeads.{behind_class, next-named, next-under, next-unread}
use Rattle.segment_dump.proofs.building.start_next.Goals as goal

pub returns-in_err-next_class-clause-start : goal.returns-in_err-next_class-clause-start
returns-in_err-next_class-clause-start c =
    next-unread c.args.segment.now c.args.segment.now c.args.tokens.now c.next_class.new.tokens _
    c.from_residual.result c.in_err-next_class.ensures

pub returns-in-Named-clause-start : goal.returns-in-Named-clause-start
returns-in-Named-clause-start c =
    next-named c.args.segment.now c.start_named.new.segment c.args.tokens.now c.next_class.new.tokens
    c.in_ok-next_class.field-0 c.start_named.result c.in_ok-next_class.ensures c.in-Named.is c.start_named.ensures.start

pub returns-in-Unique-clause-start : goal.returns-in-Unique-clause-start
returns-in-Unique-clause-start c =
    next-under c.args.segment.now c.start_under.new.segment c.args.tokens.now c.next_class.new.tokens
    c.in_ok-next_class.field-0 c.start_under.result (λ kind. ByKind kind) c.in_ok-next_class.ensures
    (λ name kind. ap (λ d. key_in d name kind) (sym c.in-Unique.is)) (λ name m.
    ap (λ d. behind_class d name m) c.in-Unique.is) c.start_under.ensures.start

pub returns-in-Anonymous-clause-start : goal.returns-in-Anonymous-clause-start
returns-in-Anonymous-clause-start c =
    next-under c.args.segment.now c.start_under-in-Anonymous.new.segment c.args.tokens.now c.next_class.new.tokens
    c.in_ok-next_class.field-0 c.start_under-in-Anonymous.result (λ kind. NoKey) c.in_ok-next_class.ensures
    (λ name kind. ap (λ d. key_in d name kind) (sym c.in-Anonymous.is)) (λ name m.
    ap (λ d. behind_class d name m) c.in-Anonymous.is) c.start_under-in-Anonymous.ensures.start
