use Rattle.segment_dump.proofs.reading.Lines.{exact-number, no-number, read-number}
use Rattle.segment_dump.proofs.tokens.LineTokens.next_number.Goals as goal

pub returns-in_err-next_bare-clause-token : goal.returns-in_err-next_bare-clause-token
returns-in_err-next_bare-clause-token c = no-number c.args.self.now c.next_bare.new.self _ c.from_residual.result
    c.in_err-next_bare.ensures.token

pub returns-clause-token : goal.returns-clause-token
returns-clause-token c = read-number c.args.self.now c.next_bare.new.self c.in_ok-next_bare.field-0.now
    c.number_of.result _
    c.ok_or.result c.in_ok-next_bare.ensures.token c.number_of.ensures c.ok_or.ensures.value

pub returns-clause-exact : goal.returns-clause-exact
returns-clause-exact c = exact-number c.args.self.now c.next_bare.new.self c.in_ok-next_bare.field-0.now
    c.number_of.result _ c.ok_or.result c.in_ok-next_bare.ensures.exact c.number_of.ensures c.ok_or.ensures.value
