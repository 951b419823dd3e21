use Rattle.image_check.proofs.Common.{Shows, added, ap, arith, both_added, drop, err_from_is_err_and}
use Rattle.image_check.proofs.Common.{format_in, front_of, length, length-drop, subst, sym, take, ℕ, ◌++◌, ◌∙◌, ◌≡◌}
use Rattle.image_check.proofs.Common.{◌≤◌}
use Rattle.std.proofs.lemmas.List.{length-append}
use Rattle.image_check.proofs.reading.FrontAlone.{short-roomy}
use Rattle.image_check.proofs.reading.Stops.{front_stops, wrong_front_decides, wrong_front_stops}
use Rattle.image_check.proofs.reading.Ends.{more_ends}
use Rattle.image_check.proofs.reading.Formats.{since-format}
use Rattle.image_check.proofs.reading.Places.{end-shown, front-shown}
use Rattle.image_check.proofs.image_read.read_front.Goals as goal

pub returns-in_err-read_all-clause-on_error : goal.returns-in_err-read_all-clause-on_error
returns-in_err-read_all-clause-on_error g c =
    let p = err_from_is_err_and c.from_residual.result c.from_residual.ensures.1 in
    let was = c.in_err-read_all.ensures in
    let old = (g.S.Source.history c.args.reader.now).bytes in
    let new = (g.S.Source.history c.read_all.new.reader).bytes in
    rw (p.1, p.2)
    (front_stops (format_in c.args.versions (drop (length old) new)) old new c.read_all.new.into _ _ _ c.args.base _
    c.in_err-read_all.field-0.0
    (let same = c.read_all.auto.into in let told = c.told-front
    in omega arith) was.on_error.0 was.on_error.1 was.failures)

pub returns-in_err-read_all-in-Err-clause-on_error : goal.returns-in_err-read_all-in-Err-clause-on_error
returns-in_err-read_all-in-Err-clause-on_error g c =
    let p = err_from_is_err_and c.from_residual-in_err-read_all-in-Err.result
    c.from_residual-in_err-read_all-in-Err.ensures.1 in
    let ok = c.in_ok-read_all.ensures in
    let was = c.in_err-read_all-in-Err.ensures in
    let old = (g.S.Source.history c.args.reader.now).bytes in
    let mid = (g.S.Source.history c.read_all.new.reader).bytes in
    let new = (g.S.Source.history c.read_all-in-Err.new.reader).bytes in
    let front = c.read_all.new.into in
    let long : length front ≡ 24 = let same = c.read_all.auto.into in let told = c.told-front in omega arith in
    let enough : 12 ≤ length front = omega arith in
    let by = since-format c.args.versions old mid new front (take was.on_error.0.count c.read_all-in-Err.new.into)
    enough ok.on_ok was.on_error.0.added in
    rw (p.1, p.2)
    (wrong_front_stops (format_in c.args.versions (drop (length old) new)) old mid new front c.read_all-in-Err.new.into
    _ _ _ c.args.base _ c.in-Err.verdict.class c.in_err-read_all-in-Err.field-0.0 long
    c.read_all-in-Err.auto.into ok.on_ok (ap (λ (f : ℕ). front_of f front) by
    ∙ sym c.in-Err.ensures.text) was.on_error.0 was.on_error.1
    (let first = ok.failures in let next = was.failures in omega arith))

pub returns-in_ok-read_all-in-Err-clause-on_error : goal.returns-in_ok-read_all-in-Err-clause-on_error
returns-in_ok-read_all-in-Err-clause-on_error g c =
    let ok = c.in_ok-read_all.ensures in
    let was = c.in_ok-read_all-in-Err.ensures in
    let old = (g.S.Source.history c.args.reader.now).bytes in
    let mid = (g.S.Source.history c.read_all.new.reader).bytes in
    let new = (g.S.Source.history c.read_all-in-Err.new.reader).bytes in
    let front = c.read_all.new.into in
    let long : length front ≡ 24 = let same = c.read_all.auto.into in let told = c.told-front in omega arith in
    let enough : 12 ≤ length front = omega arith in
    let by = since-format c.args.versions old mid new front c.read_all-in-Err.new.into enough ok.on_ok was.on_ok in
    wrong_front_decides (format_in c.args.versions (drop (length old) new)) old mid new front c.read_all-in-Err.new.into
    _ _ _ c.args.base _ c.in-Err.verdict long c.read_all-in-Err.auto.into ok.on_ok
    (ap (λ (f : ℕ). front_of f front) by ∙ sym c.in-Err.ensures.text) was.on_ok
    (let first = ok.failures in let next = was.failures in omega arith)

-- ---- the places

pub returns-in_err-read_all-clause-output : goal.returns-in_err-read_all-clause-output
returns-in_err-read_all-clause-output g c =
    let p = err_from_is_err_and c.from_residual.result c.from_residual.ensures.1 in
    let was = c.in_err-read_all.ensures in
    let old = (g.S.Source.history c.args.reader.now).bytes in
    let new = (g.S.Source.history c.read_all.new.reader).bytes in
    let left = length-drop (length old) new in
    rw (p.1, p.2)
    (end-shown (format_in c.args.versions (drop (length old) new)) (drop (length old) new) _
    c.in_err-read_all.field-0.0 (omega arith) was.output)

pub returns-in_err-read_all-in-Err-clause-output : goal.returns-in_err-read_all-in-Err-clause-output
returns-in_err-read_all-in-Err-clause-output g c =
    let p = err_from_is_err_and c.from_residual-in_err-read_all-in-Err.result
    c.from_residual-in_err-read_all-in-Err.ensures.1 in
    let ok = c.in_ok-read_all.ensures in
    let was = c.in_err-read_all-in-Err.ensures in
    let old = (g.S.Source.history c.args.reader.now).bytes in
    let mid = (g.S.Source.history c.read_all.new.reader).bytes in
    let new = (g.S.Source.history c.read_all-in-Err.new.reader).bytes in
    let front = c.read_all.new.into in
    let long : length front ≡ 24 = let same = c.read_all.auto.into in let told = c.told-front in omega arith in
    let left = length-drop (length old) new in
    let first = ap length ok.on_ok ∙ length-append old front in
    let next = ap length was.on_error.0.added
    ∙ length-append mid (take was.on_error.0.count c.read_all-in-Err.new.into) in
    rw (p.1, p.2)
    (end-shown (format_in c.args.versions (drop (length old) new)) (drop (length old) new) _
    c.in_err-read_all-in-Err.field-0.0 (omega arith) was.output)

pub returns-in_ok-read_all-in-Err-clause-output : goal.returns-in_ok-read_all-in-Err-clause-output
returns-in_ok-read_all-in-Err-clause-output g c =
    let ok = c.in_ok-read_all.ensures in
    let was = c.in_ok-read_all-in-Err.ensures in
    let old = (g.S.Source.history c.args.reader.now).bytes in
    let mid = (g.S.Source.history c.read_all.new.reader).bytes in
    let new = (g.S.Source.history c.read_all-in-Err.new.reader).bytes in
    let front = c.read_all.new.into in
    let long : length front ≡ 24 = let same = c.read_all.auto.into in let told = c.told-front in omega arith in
    let f = format_in c.args.versions (drop (length old) new) in
    let v = c.in-Err.verdict in
    let said = added old new (front ++ c.read_all-in-Err.new.into)
    (both_added old mid new front c.read_all-in-Err.new.into ok.on_ok was.on_ok) in
    subst (λ b. Shows f b v.class v.place) (sym said)
    (front-shown f front c.read_all-in-Err.new.into (omega arith) v.class v.place c.in-Err.ensures.output)

-- ---- want of room

pub returns-in_err-read_all-clause-exclusive : goal.returns-in_err-read_all-clause-exclusive
returns-in_err-read_all-clause-exclusive g c =
    let p = err_from_is_err_and c.from_residual.result c.from_residual.ensures.1 in
    rw (p.1, p.2) (λ e. absurd (short-roomy _ _ c.in_err-read_all.ensures.on_error.1 e))

pub returns-in_err-read_all-in-Err-clause-exclusive : goal.returns-in_err-read_all-in-Err-clause-exclusive
returns-in_err-read_all-in-Err-clause-exclusive g c =
    let p = err_from_is_err_and c.from_residual-in_err-read_all-in-Err.result
    c.from_residual-in_err-read_all-in-Err.ensures.1 in
    rw (p.1, p.2) (λ e. absurd (short-roomy _ _ c.in_err-read_all-in-Err.ensures.on_error.1 e))

-- ---- the ends

pub returns-in_err-read_all-clause-ends : goal.returns-in_err-read_all-clause-ends
returns-in_err-read_all-clause-ends g c = c.in_err-read_all.ensures.ends (let told = c.told-front in omega arith)

pub returns-in_err-read_all-in-Err-clause-ends : goal.returns-in_err-read_all-in-Err-clause-ends
returns-in_err-read_all-in-Err-clause-ends g c =
    let ok = c.in_ok-read_all.ensures in
    let told = c.told-front in
    more_ends (g.S.Source.history c.args.reader.now) (g.S.Source.history c.read_all.new.reader)
    (g.S.Source.history c.read_all-in-Err.new.reader) (ok.ends (omega arith)) (ok.growth (omega arith))
    (c.in_err-read_all-in-Err.ensures.ends (omega arith))

pub returns-in_ok-read_all-in-Err-clause-ends : goal.returns-in_ok-read_all-in-Err-clause-ends
returns-in_ok-read_all-in-Err-clause-ends g c =
    let ok = c.in_ok-read_all.ensures in
    let told = c.told-front in
    more_ends (g.S.Source.history c.args.reader.now) (g.S.Source.history c.read_all.new.reader)
    (g.S.Source.history c.read_all-in-Err.new.reader) (ok.ends (omega arith)) (ok.growth (omega arith))
    (c.in_ok-read_all-in-Err.ensures.ends (omega arith))
