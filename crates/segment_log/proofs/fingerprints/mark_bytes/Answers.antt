use Rattle.std.proofs.Common.{◌≡◌, ℕ, ◌+◌, List, drop, get_or, ◌∙◌, sym, ap}
use Rattle.std.proofs.lemmas.List.{at_drop_more, at_drop_all}
use Rattle.segment_log.specs.Fingerprints.{mark_word, marked_bytes}
use Rattle.segment_log.proofs.fingerprints.mark_bytes.Goals as goal

pub bytes-preserved : goal.bytes-preserved
bytes-preserved c =
    let bytes : List ℕ = c.args.bytes.now in
    let at : ℕ = c.bytes.byte-index in
    let step : marked_bytes c.bytes.mark (drop at bytes)
    ≡ marked_bytes (mark_word c.bytes.mark (get_or bytes at 0)) (drop (at + 1) bytes) =
    at_drop_more (marked_bytes c.bytes.mark) bytes at 0 c.bytes-test.true in
    ap (λ mark. marked_bytes mark (drop (at + 1) bytes)) c.mark_word-mark.ensures ∙ sym step ∙ c.bytes.invariant

pub returns : goal.returns
returns c =
    let last : marked_bytes c.bytes.mark (drop c.bytes.byte-index c.args.bytes.now) ≡ c.bytes.mark =
    at_drop_all (marked_bytes c.bytes.mark) c.args.bytes.now c.bytes.byte-index c.bytes-test.false in
    sym last ∙ c.bytes.invariant
