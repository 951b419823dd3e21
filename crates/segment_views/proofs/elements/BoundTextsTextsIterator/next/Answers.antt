-- The text that is read is the next of the list.
use Rattle.std.proofs.Common.{refl, sym, ◌∙◌, List, ℕ}
use Rattle.std.specs.{Borrow.Bor}
use Rattle.segment_manager.specs.{objects.BoundObjects.key_of}
use Rattle.segment_views.proofs.elements.ElementReads.{text-item}
use Rattle.segment_views.proofs.elements.BoundTextsTextsIterator.next.Goals as goal

abbrev bytes : Bor (List ℕ) → List ℕ
bytes text = text.now

pub returns-in_err-text-clause-steps : goal.returns-in_err-text-clause-steps
returns-in_err-text-clause-steps c =
    let w = c.self.inside in
    let none = text-item w.texts.segment.now (key_of w.texts.object) w.at bytes c.get.result c.get.ensures.reply in
    let is = sym c.ok.ensures.value ∙ c.in_err-text.was in
    rw (c.from_residual.ensures, ← c.self.view_is)
    (record { segment = refl; key = refl; place = refl; says = rw is at none })

pub returns-clause-steps : goal.returns-clause-steps
returns-clause-steps c =
    let w = c.self.inside in
    let one = text-item w.texts.segment.now (key_of w.texts.object) w.at bytes c.get.result c.get.ensures.reply in
    let is = sym c.ok.ensures.value ∙ c.in_ok-text.was in
    rw (← c.self.view_is) (record { segment = refl; key = refl; place = refl; says = rw is at one })
