use Rattle.std.proofs.Common.{◌≡◌, ℕ, List, ◌++◌, length, replicate, set, ap, ◌∙◌, arith}
use Rattle.std.proofs.lemmas.List.{append-nil, drop_all}
use Rattle.std.proofs.lemmas.List.Edits.{fill_none, fill_more}
use Rattle.segment_log.specs.Records.{zeros}
use Rattle.segment_log.proofs.edits.clear.Goals as goal

pub bytes-init : goal.bytes-init
bytes-init c = fill_none c.args.bytes.now 0

pub bytes-preserved : goal.bytes-preserved
bytes-preserved c =
    ap (λ (l : List ℕ). set l c.bytes.at 0) c.bytes.invariant
    ∙ fill_more c.bytes.at 0 c.args.bytes.now c.bytes-test.true

pub returns : goal.returns
unfolding zeros
returns c =
    let all : c.bytes.at ≡ length c.args.bytes.now = omega (arith, c.bytes-test.false, c.bytes.auto.at-end) in
    c.bytes.invariant
    ∙ ap (λ (l : List ℕ). replicate c.bytes.at 0 ++ l) (drop_all c.bytes.at c.args.bytes.now (omega (arith, all)))
    ∙ append-nil (replicate c.bytes.at 0) ∙ ap (λ (n : ℕ). replicate n 0) all
