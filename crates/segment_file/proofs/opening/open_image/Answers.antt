use Rattle.std.proofs.Common.{◌≡◌, ap, subst, sym, arith}
use Rattle.raw_region.specs.Device.{ReadDelta, read_delta}
use Rattle.image_check.specs.Opening.{as_given}
use Rattle.segment_disk.specs.Events.{nothing_given}
use Rattle.segment_file.specs.Opening.{OpensIn}
use Rattle.segment_file.specs.ReadingOn.{said_by}
use Rattle.segment_file.proofs.opening.Fronts.{said-stays}
use Rattle.segment_file.proofs.opening.Openings.{opens-reader}
use Rattle.segment_file.proofs.opening.open_image.Goals as goal

pub returns-then-is_whole : goal.returns-then-is_whole
returns-then-is_whole g c =
    let w = c.in-Ok.ensures in
    let text = c.in-Ok.prepared.text.items in
    let region = c.in-Ok.prepared.region in
    let image = read_delta nothing_given (g.S.Source.history c.prepare.new.reader) in
    let whole : image ≡ as_given text = w.whole c.if-is_whole.true in
    let value = c.as_slice-text.ensures.value in
    let o : OpensIn c.args.versions (as_given text) region c.args.mode c.open_text.result =
    rw value at c.open_text.ensures in
    opens-reader c.args.versions c.args.len c.args.more c.args.mode image text region w.room
    (ap (λ (i : ReadDelta). said_by c.args.versions i.bytes) whole) c.open_text.result
    (subst (λ (i : ReadDelta). OpensIn c.args.versions i region c.args.mode c.open_text.result) (sym whole) o)

pub returns : goal.returns
returns g c =
    let w = c.in-Ok.ensures in
    let text = c.in-Ok.prepared.text.items in
    let region = c.in-Ok.prepared.region in
    let gave = g.S.Source.history c.open_replay-opened.new.reader.inner in
    let value = c.as_slice-text.ensures.value in
    let front = c.new-reader.ensures.front in
    let long = w.long c.if-is_whole.false in
    let last = c.into_inner.ensures in
    let grows = rw (front, value) at c.open_replay-opened.ensures.contents in
    let same : said_by c.args.versions gave.bytes ≡ said_by c.args.versions text =
    said-stays text gave.bytes grows (omega (arith, long)) c.args.versions in
    rw last
    (opens-reader c.args.versions c.args.len c.args.more c.args.mode (read_delta nothing_given gave) text region w.room
    same c.open_replay-opened.result c.open_replay-opened.ensures.opening)
