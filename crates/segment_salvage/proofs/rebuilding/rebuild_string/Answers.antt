-- A string whose bytes stand in the image is made.
use Rattle.segment_salvage.proofs.Calls.{string-stands}
use Rattle.segment_salvage.proofs.rebuilding.rebuild_string.Goals as goal

pub returns-clause-effect : goal.returns-clause-effect
returns-clause-effect c =
    string-stands c.args.image.now _ _ c.args._at c.args.head.value _ _ _ _ c.construct_string.ensures.step
    c.requires.head c.in-Some.ensures.content c.in-Some.ensures.size

pub returns-in_err-construct_string-clause-effect : goal.returns-in_err-construct_string-clause-effect
returns-in_err-construct_string-clause-effect c =
    string-stands c.args.image.now _ _ c.args._at c.args.head.value _ _ _ _ c.construct_string.ensures.step
    c.requires.head c.in-Some.ensures.content c.in-Some.ensures.size
