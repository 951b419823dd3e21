use Rattle.image_check.proofs.Common.{ap, arith, drop, err_from_is_err_and, length, length-drop}
use Rattle.image_check.proofs.Common.{length-take-le, take, ◌-◌, ◌∙◌, ◌≡◌}
use Rattle.std.proofs.lemmas.List.{length-append}
use Rattle.image_check.proofs.reading.Ends.{more_ends}
use Rattle.image_check.proofs.reading.Buffer.{filled_short, filled_whole, front-length, rest-filled}
use Rattle.image_check.proofs.reading.FrontAlone.{end-roomy, short-roomy}
use Rattle.image_check.proofs.reading.Places.{end-shown, whole-shown}
use Rattle.image_check.proofs.image_read.read_rest.Goals as goal

pub returns-in_err-read_all-clause-on_error : goal.returns-in_err-read_all-clause-on_error
returns-in_err-read_all-clause-on_error g c =
    let p = err_from_is_err_and c.from_residual.result c.from_residual.ensures.1 in
    let was = c.in_err-read_all.ensures in
    rw (p.1, p.2)
    (λ format front start e.
    filled_short format c.args.window.now start (g.S.Source.history c.args.reader.now).bytes
    (g.S.Source.history c.read_all.new.reader).bytes c.read_all.new.into c.size-size.result _ _ _
    c.in_err-read_all.field-0.0
    front c.size-size.ensures (let a = c.read_all.auto.into in let b = c.bytes_mut.ensures.len
    in omega arith) e was.on_error.0 was.on_error.1 was.failures)

pub returns-in_err-read_all-clause-len : goal.returns-in_err-read_all-clause-len
returns-in_err-read_all-clause-len g c =
    let w = c.args.window.now in
    let long : length c.read_all.new.into ≡ c.size-size.result - 24 = let a = c.read_all.auto.into in let b =
    c.bytes_mut.ensures.len in omega arith in
    ap length (rest-filled w.bytes c.read_all.new.into c.size-size.result (omega arith) c.size-size.ensures long)
    ∙ front-length w.bytes c.read_all.new.into c.size-size.result (omega arith) c.size-size.ensures long

pub returns-clause-on_error : goal.returns-clause-on_error
returns-clause-on_error g c =
    let ok = c.in_ok-read_all.ensures in
    filled_whole c.args.window.now (g.S.Source.history c.args.reader.now).bytes
    (g.S.Source.history c.read_all.new.reader).bytes (g.S.Source.history c.find_end.new.reader).bytes
    c.read_all.new.into c.size-size.result _ _ _ _ c.find_end.result
    c.requires.min_len c.size-size.ensures (let a = c.read_all.auto.into in let b = c.bytes_mut.ensures.len
    in omega arith) ok.on_ok ok.failures c.find_end.ensures.on_error c.find_end.ensures.failures

pub returns-clause-len : goal.returns-clause-len
returns-clause-len g c =
    let w = c.args.window.now in
    let long : length c.read_all.new.into ≡ c.size-size.result - 24 = let a = c.read_all.auto.into in let b =
    c.bytes_mut.ensures.len in omega arith in
    ap length (rest-filled w.bytes c.read_all.new.into c.size-size.result (omega arith) c.size-size.ensures long)
    ∙ front-length w.bytes c.read_all.new.into c.size-size.result (omega arith) c.size-size.ensures long

-- ---- the places

pub returns-in_err-read_all-clause-output : goal.returns-in_err-read_all-clause-output
returns-in_err-read_all-clause-output g c =
    let p = err_from_is_err_and c.from_residual.result c.from_residual.ensures.1 in
    let was = c.in_err-read_all.ensures in
    let w = c.args.window.now in
    let old = (g.S.Source.history c.args.reader.now).bytes in
    let new = (g.S.Source.history c.read_all.new.reader).bytes in
    rw (p.1, p.2)
    (λ format front start e.
    let left = length-drop (length start) new in
    let first = ap length e ∙ length-append start (take 24 w.bytes) in
    let cut = length-take-le 24 w.bytes (omega arith) in
    let next = ap length was.on_error.0.added ∙ length-append old (take was.on_error.0.count c.read_all.new.into) in
    end-shown format (drop (length start) new) _ c.in_err-read_all.field-0.0 (omega arith) was.output)

pub returns-clause-output : goal.returns-clause-output
returns-clause-output g c =
    whole-shown c.args.window.now (g.S.Source.history c.args.reader.now).bytes
    (g.S.Source.history c.read_all.new.reader).bytes (g.S.Source.history c.find_end.new.reader).bytes
    c.read_all.new.into c.size-size.result
    c.size-size.ensures c.in_ok-read_all.ensures.on_ok c.find_end.result c.find_end.ensures.on_error
    c.find_end.ensures.output

-- ---- want of room

pub returns-in_err-read_all-clause-room : goal.returns-in_err-read_all-clause-room
returns-in_err-read_all-clause-room g c =
    let p = err_from_is_err_and c.from_residual.result c.from_residual.ensures.1 in
    rw (p.1, p.2) (λ e. short-roomy _ _ c.in_err-read_all.ensures.on_error.1 e)

pub returns-clause-room : goal.returns-clause-room
returns-clause-room g c = end-roomy _ _ c.find_end.result c.find_end.ensures.on_error

-- ---- the ends

pub returns-in_err-read_all-clause-ends : goal.returns-in_err-read_all-clause-ends
returns-in_err-read_all-clause-ends g c =
    c.in_err-read_all.ensures.ends (let len = c.bytes_mut.ensures.len in let min_len = c.requires.min_len in
    let size = c.size-size.ensures in omega (arith, len, min_len, size))

pub returns-clause-ends : goal.returns-clause-ends
returns-clause-ends g c =
    let ok = c.in_ok-read_all.ensures in
    let len = c.bytes_mut.ensures.len in let min_len = c.requires.min_len in let size = c.size-size.ensures in
    more_ends (g.S.Source.history c.args.reader.now) (g.S.Source.history c.read_all.new.reader)
    (g.S.Source.history c.find_end.new.reader) (ok.ends (omega (arith, len, min_len, size)))
    (ok.growth (omega (arith, len, min_len, size))) c.find_end.ensures.ends
