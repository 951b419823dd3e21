-- Other texts are stored, then the old ones are freed, and then the words are written.
use Rattle.seg_vector.proofs.{sym, arith, length, map, length-map, assigned, assigns-some, laid-even, texts-still}
use Rattle.seg_vector.proofs.{some-texts}
use Rattle.seg_vector.proofs.texts.SegTexts.assign.Goals as goal

pub release-requires : goal.release-requires
release-requires c = (c.requires.0, (c.requires.1.0, texts-still c.requires.1.1 c.in_ok-array.ensures.change))

pub set_words-requires : goal.set_words-requires
set_words-requires c =
    let still = texts-still c.requires.1.1 c.in_ok-array.ensures.change in
    let x = (c.release.ensures c.requires.0 c.requires.1.0 still).texts in
    record { heap = x.heap; aligned = x.aligned; room = x.room; target_aligned = laid-even c.in_ok-array.ensures }

pub returns-clause-changes : goal.returns-clause-changes
returns-clause-changes c =
    let more = map (λ text. text.now) c.args.texts.now in let long = length-map c.args.texts.now (λ text. text.now) in
    let some = some-texts (length c.args.texts.now) c.if-is_empty.ensures in
    assigns-some c.args.heap.now c.set_words.new.heap c.args.self.place more (omega (arith, long, some))
    (λ ps t s. assigned (length c.args.texts.now) s c.in_ok-array.ensures (sym long) some c.release.ensures
    c.set_words.ensures)
