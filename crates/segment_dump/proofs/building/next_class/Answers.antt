use Rattle.segment_dump.proofs.Common.{refl, false≢true, Anonymous, Named, Unique}
use Rattle.segment_dump.proofs.reading.ObjectHeads.{class-is, class-none, class-unread}
use Rattle.segment_dump.proofs.building.next_class.Goals as goal

pub returns-in_err-token : goal.returns-in_err-token
returns-in_err-token c = class-unread c.args.tokens.now c.next_bare.new.self _ c.from_residual.result
    c.in_err-token.ensures.token

pub returns-then-is_same : goal.returns-then-is_same
returns-then-is_same c = class-is c.args.tokens.now c.next_bare.new.self c.in_ok-token.token.now Named
    (c.if-is_same.ensures.0 refl) c.in_ok-token.ensures.token

pub returns-then-is_same-2 : goal.returns-then-is_same-2
returns-then-is_same-2 c = class-is c.args.tokens.now c.next_bare.new.self c.in_ok-token.token.now Unique
    (c.if-is_same-2.ensures.0 refl) c.in_ok-token.ensures.token

pub returns-then-is_same-3 : goal.returns-then-is_same-3
returns-then-is_same-3 c = class-is c.args.tokens.now c.next_bare.new.self c.in_ok-token.token.now Anonymous
    (c.if-is_same-3.ensures.0 refl) c.in_ok-token.ensures.token

pub returns-else-is_same-3 : goal.returns-else-is_same-3
returns-else-is_same-3 c = class-none c.args.tokens.now c.next_bare.new.self c.in_ok-token.token.now _ (λ e.
    false≢true (c.if-is_same.ensures.1 e)) (λ e. false≢true (c.if-is_same-2.ensures.1 e)) (λ e.
    false≢true (c.if-is_same-3.ensures.1 e)) c.in_ok-token.ensures.token
