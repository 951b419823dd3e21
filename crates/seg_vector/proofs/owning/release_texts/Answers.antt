-- The next text's block is freed, and the texts after it remain.
use Rattle.seg_vector.proofs.{arith, refl, element-left, released-nothing-next, releases-begin, releases-next}
use Rattle.seg_vector.proofs.{has-element}
use Rattle.seg_vector.proofs.owning.release_texts.Goals as goal

pub loop-i-init : goal.loop-i-init
loop-i-init c ps s = (releases-begin c.args.heap.now s, λ e. refl)

pub release_text-requires : goal.release_text-requires
release_text-requires c =
    let q = has-element c.requires.0 c.loop-i.i (omega (arith, c.loop-i-test.true, c.requires.1.long)) in
    (q.0, element-left c.loop-i.i c.requires.1 q.1 (c.loop-i.invariant c.requires.0 c.requires.1).0)

pub loop-i-preserved : goal.loop-i-preserved
loop-i-preserved c ps s =
    let q = has-element ps c.loop-i.i (omega (arith, c.loop-i-test.true, s.long)) in let x = c.loop-i.invariant ps s in
    let r = c.release_text.ensures q.0 (element-left c.loop-i.i s q.1 x.0) in (
      releases-next c.loop-i.i ps q.1 x.0 r.change,
      λ none. released-nothing-next ps c.loop-i.i q.1 none (x.1 none) r.same,
    )
