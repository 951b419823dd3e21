use Rattle.image_check.proofs.Common.{inl, inr}
use Rattle.image_check.proofs.frame.ReservedBytes.{all-reserved, not-reserved}
use Rattle.image_check.proofs.checking.check_reserved.Goals as goal

pub returns-in-Some : goal.returns-in-Some
returns-in-Some c =
    let s = c.in-Some.ensures in (not-reserved c.args.window.now.bytes c.in-Some.place (inl s), inl s)

pub returns-in-Some-first_nonzero : goal.returns-in-Some-first_nonzero
returns-in-Some-first_nonzero c =
    let s = c.in-Some-first_nonzero.ensures in
    (not-reserved c.args.window.now.bytes c.in-Some-first_nonzero.place (inr s), inr (c.in_default.ensures, s))

pub returns : goal.returns
returns c = all-reserved c.args.window.now.bytes c.in_default.ensures c.in_default-first_nonzero.ensures
