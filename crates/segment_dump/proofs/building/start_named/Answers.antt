use Rattle.segment_dump.proofs.Common.{ap, option_map, name_seen}
use Rattle.segment_dump.proofs.reading.ObjectHeads.{named-none, named-some, named-unread}
use Rattle.segment_dump.proofs.building.start_named.Goals as goal

pub returns-in_err-token-clause-start : goal.returns-in_err-token-clause-start
returns-in_err-token-clause-start c =
    named-unread c.texts_are_spelled.ensures c.args.segment.now c.args.segment.now c.args.tokens.now
    c.next_token.new.self _ c.from_residual.result c.in_err-token.ensures.token

pub returns-in-Some-clause-start : goal.returns-in-Some-clause-start
returns-in-Some-clause-start c =
    named-some c.texts_are_spelled.ensures c.args.segment.now c.start_under.new.segment c.args.tokens.now
    c.next_token.new.self c.in_ok-token.token (option_map name_seen c.name_of.result) (name_seen c.in-Some.name)
    c.start_under.result c.in_ok-token.ensures.token c.name_of.ensures
    (ap (option_map name_seen) c.in-Some.is) c.start_under.ensures.start

pub returns-in-None-clause-start : goal.returns-in-None-clause-start
returns-in-None-clause-start c =
    named-none c.texts_are_spelled.ensures c.args.segment.now c.args.segment.now c.args.tokens.now
    c.next_token.new.self c.in_ok-token.token (option_map name_seen c.name_of.result) _ c.in_ok-token.ensures.token
    c.name_of.ensures (ap (option_map name_seen) c.in-None.is)
