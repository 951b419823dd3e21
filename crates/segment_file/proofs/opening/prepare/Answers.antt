use Rattle.std.proofs.Common.{◌≡◌, ◌<◌, ◌∙◌, ◌+◌, ap, false, length, max, refl, sym, arith}
use Rattle.std.proofs.lemmas.Result.{err_from_is_err_and}
use Rattle.grow_shrink.specs.LargerRegion.{region_len}
use Rattle.segment_file.specs.ReadingOn.{said_by}
use Rattle.segment_file.proofs.opening.Readings.{no-front, no-region, no-rest, no-larger, said-whole}
use Rattle.segment_file.proofs.opening.prepare.Goals as goal

pub returns-in_err-read_up_to : goal.returns-in_err-read_up_to
returns-in_err-read_up_to g c =
    let p = err_from_is_err_and c.from_residual.result c.from_residual.ensures.1 in
    rw (p.1, p.2) (no-front c.args.versions c.args.len c.args.more (g.S.Source.history c.read_up_to.new.reader)
    c.in_err-read_up_to.field-0.0 c.in_err-read_up_to.ensures.on_error)

pub returns-in_err-region : goal.returns-in_err-region
returns-in_err-region g c =
    let from = c.from_residual-in_err-region in
    let p = err_from_is_err_and from.result from.ensures.1 in
    let up = c.in_ok-read_up_to.ensures.on_ok in
    let most = c.in_ok-read_up_to.ensures.max_len in
    let long = ap length up.bytes_are in
    rw (p.1, p.2, c.in_err-region.ensures.refused) (no-region c.args.versions c.args.len c.args.more
    (g.S.Source.history c.read_up_to.new.reader) (omega (arith, most, long)) up.sound)

pub returns-in_err-read_rest : goal.returns-in_err-read_rest
returns-in_err-read_rest g c =
    let from = c.from_residual-in_err-read_rest in
    let p = err_from_is_err_and from.result from.ensures.1 in
    let up = c.in_ok-read_up_to.ensures.on_ok in
    let front = c.read_up_to.new.text.items in
    let grows = rw up.bytes_are at c.read_rest.ensures.history in
    let is : c.size_said-said.result ≡ said_by c.args.versions front =
    c.size_said-said.ensures ∙ ap (said_by c.args.versions) c.as_slice.ensures.value in
    let told : c.args.len < c.size_said-said.result = let past = c.if-said-len.false in omega (arith, past) in
    rw (p.1, p.2) (no-rest c.args.versions c.args.len c.args.more (g.S.Source.history c.read_rest.new.reader) front
    grows c.size_said-said.result is told c.in_err-read_rest.field-0.0 c.in_err-read_rest.ensures.reading)

pub returns-in_err-larger : goal.returns-in_err-larger
returns-in_err-larger g c =
    let from = c.from_residual-in_err-larger in
    let p = err_from_is_err_and from.result from.ensures.1 in
    let up = c.in_ok-read_up_to.ensures.on_ok in
    let front = c.read_up_to.new.text.items in
    let grows = rw up.bytes_are at c.read_rest.ensures.history in
    let is : c.size_said-said.result ≡ said_by c.args.versions front =
    c.size_said-said.ensures ∙ ap (said_by c.args.versions) c.as_slice.ensures.value in
    let told : c.args.len < c.size_said-said.result = let past = c.if-said-len.false in omega (arith, past) in
    let whole = c.in_ok-read_rest.ensures.reading in
    let size = whole.size in
    let long = ap length whole.up_to.bytes_are in
    rw (p.1, p.2, c.in_err-larger.ensures.refused) (no-larger c.args.versions c.args.len c.args.more
    (g.S.Source.history c.read_rest.new.reader) front grows c.size_said-said.result is told (omega (arith, size, long))
    whole.up_to.sound)

pub returns : goal.returns
returns g c =
    let up = c.in_ok-read_up_to.ensures.on_ok in
    let front = c.read_up_to.new.text.items in
    let gave = g.S.Source.history c.read_rest.new.reader in
    let grows = rw up.bytes_are at c.read_rest.ensures.history in
    let said = c.size_said-said.result in
    let is : said ≡ said_by c.args.versions front =
    c.size_said-said.ensures ∙ ap (said_by c.args.versions) c.as_slice.ensures.value in
    let told : c.args.len < said = let past = c.if-said-len.false in omega (arith, past) in
    let whole = c.in_ok-read_rest.ensures.reading in
    let text = c.read_rest.new.text.items in
    let same : said_by c.args.versions text ≡ said =
    ap (said_by c.args.versions) (sym whole.up_to.bytes_are)
    ∙ said-whole c.args.versions c.args.len c.args.more gave front grows said is told in
    let bytes = whole.up_to.bytes_are in
    let end = whole.up_to.end_is in
    let sound = whole.up_to.sound in
    record {
      room = c.in_ok-larger.ensures.len ∙ ap (λ n. region_len (n + c.args.more))
          (let e : said ≡ max c.args.len (said_by c.args.versions text) = omega (arith, same, told) in e);
      whole = λ w. rw (bytes, end, sound) refl;
      front = λ w. cc;
      long = λ w. cc;
    }
