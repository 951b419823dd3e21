use Rattle.std.proofs.Common.{◌≡◌, Some, None, ap, sym, ◌∙◌, arith, length, subst}
use Rattle.std.specs.Option.{option_and_then, option_map, IfSome, IsSome}
use Rattle.segment_lang.specs.Tokens.{behind_opening, behind_quote, text_at}
use Rattle.segment_lang.proofs.texts.Items.{behind_text-end, plain_opens_none, plain_text, spelled_plain, spelled_text}
use Rattle.segment_lang.proofs.texts.Items.{text_at-none, text_at-some}
use Rattle.segment_lang.proofs.texts.Spelling.{text_length}
use Rattle.segment_lang.proofs.tokens.read_text.Goals as goal

pub invariant_of-result : goal.invariant_of-result
invariant_of-result c = subst (λ text. IfSome text (λ text. IsSome (text_at text)))
    (sym (ap behind_opening c.split_plain.ensures.prefix ∙ plain_opens_none c.in_ok-text.text.now)) tt

pub returns-in-Some-clause-value : goal.returns-in-Some-clause-value
returns-in-Some-clause-value c =
    let plain = sym (ap behind_opening c.split_plain.ensures.prefix ∙ plain_opens_none c.in_ok-text.text.now) in
    ap (λ prefix. Some (prefix, c.in-Some.rest.now)) (spelled_plain _ plain ∙ c.split_plain.ensures.prefix)
    ∙ sym (plain_text c.in_ok-text.text.now _ (sym (ap behind_quote c.split_plain.ensures.rest)
    ∙ sym c.in-Some.ensures.value))
    ∙ ap (option_and_then text_at) c.in_ok-text.ensures.value

pub returns-in-Some-clause-fits : goal.returns-in-Some-clause-fits
returns-in-Some-clause-fits c =
    let plain = sym (ap behind_opening c.split_plain.ensures.prefix ∙ plain_opens_none c.in_ok-text.text.now) in
    let p = plain_text c.in_ok-text.text.now _ (sym (ap behind_quote c.split_plain.ensures.rest)
    ∙ sym c.in-Some.ensures.value) in
    omega (
      arith,
      ap length (spelled_plain _ plain ∙ c.split_plain.ensures.prefix),
      text_length _ _ _ p,
      c.in_ok-text.ensures.shrinking,
    )

pub returns-in_err-rest-clause-value : goal.returns-in_err-rest-clause-value
returns-in_err-rest-clause-value c =
    let e : option_and_then text_at (behind_opening c.args.bytes.now) ≡ None =
    sym (ap (option_and_then text_at) c.in_ok-text.ensures.value)
    ∙ text_at-none _ (sym c.skip_items.ensures.unchanged ∙ behind_text-end _ c.skip_items.ensures.end
    ∙ sym c.in_err-rest.ensures.value) in
    ap (option_map _) c.from_residual-in_err-rest.ensures ∙ sym e

pub invariant_of-result-2 : goal.invariant_of-result-2
invariant_of-result-2 c = subst (λ text. IfSome text (λ text. IsSome (text_at text))) c.in_ok-text.ensures.value
    (text_at-some _ _ (sym c.skip_items.ensures.unchanged
    ∙ behind_text-end _ c.skip_items.ensures.end
    ∙ sym c.in_ok-rest.ensures.value)).0

pub returns-clause-value : goal.returns-clause-value
returns-clause-value c =
    ap (λ bytes. Some (bytes, c.in_ok-rest.rest.now)) (spelled_text c.args.bytes.now _ c.in_ok-text.ensures.value)
    ∙ sym ((text_at-some _ _ (sym c.skip_items.ensures.unchanged ∙ behind_text-end _ c.skip_items.ensures.end
    ∙ sym c.in_ok-rest.ensures.value)).1)
    ∙ ap (option_and_then text_at) c.in_ok-text.ensures.value

pub returns-clause-fits : goal.returns-clause-fits
returns-clause-fits c =
    let p = text_at-some _ _ (sym c.skip_items.ensures.unchanged ∙ behind_text-end _ c.skip_items.ensures.end
    ∙ sym c.in_ok-rest.ensures.value) in
    omega (
      arith,
      ap length (spelled_text c.args.bytes.now _ c.in_ok-text.ensures.value),
      text_length _ _ _ p.1,
      c.in_ok-text.ensures.shrinking,
    )
