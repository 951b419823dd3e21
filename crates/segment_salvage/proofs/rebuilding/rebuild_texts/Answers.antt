-- A vector of strings whose texts stand in the image is made.
use Rattle.std.proofs.Common.{Bor, List, ℕ}
use Rattle.segment_salvage.proofs.Calls.{texts-stand}
use Rattle.segment_salvage.proofs.rebuilding.rebuild_texts.Goals as goal

pub returns-clause-effect : goal.returns-clause-effect
returns-clause-effect c =
    texts-stand (λ (text : Bor (List ℕ)). text.now) c.args.image.now _ _ c.args._at c.args.head.value _ _ _ _
    c.construct_texts.ensures.step c.requires.head (rw c.in-Some-2.is at c.in_ok-texts.ensures.contents)
    c.deref.ensures.value

pub returns-in_err-construct_texts-clause-effect : goal.returns-in_err-construct_texts-clause-effect
returns-in_err-construct_texts-clause-effect c =
    texts-stand (λ (text : Bor (List ℕ)). text.now) c.args.image.now _ _ c.args._at c.args.head.value _ _ _ _
    c.construct_texts.ensures.step c.requires.head (rw c.in-Some-2.is at c.in_ok-texts.ensures.contents)
    c.deref.ensures.value
