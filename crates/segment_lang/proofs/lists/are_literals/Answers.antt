use Rattle.std.proofs.Common.{sym, ◌∙◌, ap, not}
use Rattle.segment_lang.specs.Arguments.{literals_at}
use Rattle.segment_lang.specs.Lexing.{literal_of_token}
use Rattle.segment_lang.proofs.tokens.EachToken.{literal_is, tokens_end, tokens_more, tokens_none}
use Rattle.segment_lang.proofs.lists.are_literals.Goals as goal

pub returns-then-is_none : goal.returns-then-is_none
unfolding literals_at
returns-then-is_none c =
    let some = literal_is _ _ c.literal_of.ensures ∙ c.is_none.ensures ∙ ap not c.if-is_none.true in
    sym (tokens_none literal_of_token _ _ _ (sym c.in-Some.ensures.value) some) ∙ c.literals.invariant.same

pub literals-preserved : goal.literals-preserved
unfolding literals_at
literals-preserved c =
    let some = literal_is _ _ c.literal_of.ensures ∙ c.is_none.ensures ∙ ap not c.if-is_none.false in
    record { same = tokens_more literal_of_token _ _ _ (sym c.in-Some.ensures.value) some ∙ c.literals.invariant.same }

pub returns : goal.returns
unfolding literals_at
returns c =
    c.at_end.ensures ∙ sym (tokens_end literal_of_token _ (sym c.in_default.ensures.value)) ∙ c.literals.invariant.same
