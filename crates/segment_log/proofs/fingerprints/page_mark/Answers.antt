use Rattle.std.proofs.Common.{◌+◌, ◌*◌, ◌/◌, ◌%◌, length, ◌∙◌, ap}
use Rattle.std.proofs.lemmas.List.{take_rest}
use Rattle.segment_log.specs.Fingerprints.{marked_bytes, page_mark}
use Rattle.segment_log.proofs.fingerprints.page_mark.Goals as goal

pub returns : goal.returns
unfolding page_mark
returns c =
    let rest = take_rest c.args.page.now (length c.args.page.now / 8 * 8) in
    ap
    (λ mark. mark * ((c.args.index * 2 % 18_446_744_073_709_551_616 + 1) % 18_446_744_073_709_551_616)
    % 18_446_744_073_709_551_616)
    (c.mark_bytes-mark.ensures ∙ (λ i. marked_bytes (c.mark_words-words.ensures i) (rest i)))
