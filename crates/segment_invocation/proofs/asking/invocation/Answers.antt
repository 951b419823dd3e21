-- The command of a request is asked for, with the options of the request.
use Rattle.std.proofs.Common.{ap}
use Rattle.segment_invocation.specs.Invocations.{RequestValue, options_by}
use Rattle.segment_invocation.proofs.asking.invocation.Goals as goal

pub returns-in-Ok-clause-read : goal.returns-in-Ok-clause-read
returns-in-Ok-clause-read c = (options_by c.in-Ok.asked.options, c.in-Ok.ensures.read)

pub returns-in-Ok-clause-input : goal.returns-in-Ok-clause-input
returns-in-Ok-clause-input c = λ a w. ap (λ (r : RequestValue). r.command)
    (c.in-Ok.ensures.input (record { command = a; options = w.0 }) w.1)

pub returns-in-Err-clause-input : goal.returns-in-Err-clause-input
returns-in-Err-clause-input c = λ a w. c.in-Err.ensures.input (record { command = a; options = w.0 }) w.1
