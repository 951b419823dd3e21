use Rattle.std.proofs.Common.{sym, ◌∙◌, ap, not}
use Rattle.std.specs.Option.{is_some}
use Rattle.segment_lang.specs.Arguments.{texts_at}
use Rattle.segment_lang.specs.Reading.{quoted_of}
use Rattle.segment_lang.proofs.tokens.EachToken.{tokens_end, tokens_more, tokens_none}
use Rattle.segment_lang.proofs.lists.are_texts.Goals as goal

pub returns-then-is_none : goal.returns-then-is_none
unfolding texts_at
returns-then-is_none c =
    let some = sym (ap is_some c.quoted_of.ensures) ∙ c.is_none.ensures ∙ ap not c.if-is_none.true in
    sym (tokens_none quoted_of _ _ _ (sym c.in-Some.ensures.value) some) ∙ c.texts.invariant.same

pub texts-preserved : goal.texts-preserved
unfolding texts_at
texts-preserved c =
    let some = sym (ap is_some c.quoted_of.ensures) ∙ c.is_none.ensures ∙ ap not c.if-is_none.false in
    record { same = tokens_more quoted_of _ _ _ (sym c.in-Some.ensures.value) some ∙ c.texts.invariant.same }

pub returns : goal.returns
unfolding texts_at
returns c =
    c.at_end.ensures ∙ sym (tokens_end quoted_of _ (sym c.in_default.ensures.value)) ∙ c.texts.invariant.same
