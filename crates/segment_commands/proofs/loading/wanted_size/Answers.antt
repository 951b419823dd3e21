use Rattle.std.proofs.Common.{ℕ, Option, Some, None, List, inl, inr, refl, sym, ap, ◌∙◌}
use Rattle.std.specs.Prelude.{IfSome}
use Rattle.std.specs.Option.{unwrap_or}
use Rattle.segment_dump.specs.Counting.{BeginsWithSize}
use Rattle.segment_dump.specs.Loading.{asked_of}
use Rattle.segment_commands.specs.Loading.{IsRequestedOrWritten}
use Rattle.segment_commands.proofs.loading.wanted_size.Goals as goal

-- the size in the text, or 0
written : (text : List ℕ) (read : Option ℕ) → IfSome read (BeginsWithSize text)
    → IsRequestedOrWritten text None (unwrap_or read 0)
written text None begins = inr refl
written text (Some size) begins = inl begins

pub returns-in-None-clause-request : goal.returns-in-None-clause-request
returns-in-None-clause-request c =
    rw (c.in-None.is, c.unwrap_or.ensures) (written c.args.text.now c.declared_size.result
    c.declared_size.ensures.spelled)

pub returns-in-None-clause-size_request : goal.returns-in-None-clause-size_request
returns-in-None-clause-size_request c = λ n items l e.
    c.unwrap_or.ensures ∙ ap (λ (o : Option ℕ). unwrap_or o 0) (c.declared_size.ensures.size.says n items l e)
    ∙ sym (ap (λ o. asked_of o n) c.in-None.is)
