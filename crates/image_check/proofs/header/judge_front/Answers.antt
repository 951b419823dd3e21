use Rattle.image_check.proofs.Common.{ap, bytes_of, format_in, is_legal_size, magic_number, ne_eqb, refl, sym, ◌∙◌}
use Rattle.raw_region.specs.Memory.{word_at}
use Rattle.image_check.proofs.reading.Fronts.{IsReadOf, front-right, front-size, front-version}
use Rattle.image_check.proofs.reading.Formats.{other-format, taken-format}
use Rattle.image_check.proofs.header.judge_front.Goals as goal

pub other_offset-place-requires-clause-magic : goal.other_offset-place-requires-clause-magic
other_offset-place-requires-clause-magic c =
    ne_eqb (word_at (bytes_of c.args.front.now) 0) magic_number (λ e.
    c.if-word_in-ne-MAGIC.true (c.word_in.ensures ∙ e))

pub returns-then-not-has-clause-text : goal.returns-then-not-has-clause-text
returns-then-not-has-clause-text c =
    let b = c.args.front.now in
    front-version (format_in c.args.versions b) b c.word_in.result c.version_in.result c.requires c.word_in.ensures
    c.version_in.ensures
    c.if-word_in-ne-MAGIC.false (other-format c.args.versions b c.version_in.result c.version_in.ensures
    (sym c.has.ensures ∙ c.if-not-has.true))

pub returns-then-not-is_legal_size-clause-text : goal.returns-then-not-is_legal_size-clause-text
returns-then-not-is_legal_size-clause-text c =
    let b = c.args.front.now in
    let r : IsReadOf b c.word_in.result c.version_in.result c.word_in-size.result =
    record {
      long = c.requires;
      magic_is = c.word_in.ensures;
      version_is = c.version_in.ensures;
      size_is = c.word_in-size.ensures;
    } in
    front-size (format_in c.args.versions b) b _ _ _ r c.if-word_in-ne-MAGIC.false
    (taken-format c.args.versions b c.version_in.result c.version_in.ensures (sym c.has.ensures ∙ c.if-not-has.false))
    (sym c.is_legal_size.ensures ∙ c.if-not-is_legal_size.true)

pub returns-clause-text : goal.returns-clause-text
returns-clause-text c =
    let b = c.args.front.now in
    let r : IsReadOf b c.word_in.result c.version_in.result c.word_in-size.result =
    record {
      long = c.requires;
      magic_is = c.word_in.ensures;
      version_is = c.version_in.ensures;
      size_is = c.word_in-size.ensures;
    } in
    front-right (format_in c.args.versions b) b _ _ _ r c.if-word_in-ne-MAGIC.false
    (taken-format c.args.versions b c.version_in.result c.version_in.ensures (sym c.has.ensures ∙ c.if-not-has.false))
    (sym c.is_legal_size.ensures ∙ c.if-not-is_legal_size.false)

pub returns-then-not-is_legal_size-clause-output : goal.returns-then-not-is_legal_size-clause-output
returns-then-not-is_legal_size-clause-output c =
    (refl, ap is_legal_size (sym c.word_in-size.ensures) ∙ sym c.is_legal_size.ensures ∙ c.if-not-is_legal_size.true)
