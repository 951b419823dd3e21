use Rattle.image_check.proofs.Common.{IsImageRead, IsNotRead, IsShown, WindowState, ap, arith, drop}
use Rattle.image_check.proofs.Common.{format_in, length, patched, read_delta, subst, sym, ℕ, ◌∙◌, ◌≤◌}
use Rattle.raw_region.specs.Regions.{with_bytes}
use Rattle.image_check.proofs.reading.Buffer.{HasFront-least}
use Rattle.image_check.proofs.opening.InRegion.{IsBegun, begun-HasFront, begun-read, begun-start, begun-stops}
use Rattle.image_check.proofs.reading.Ends.{more_ends}
use Rattle.image_check.proofs.reading.Formats.{since-format}
use Rattle.image_check.proofs.image_read.read_image.Goals as goal

pub read_rest-requires-clause-min_len : goal.read_rest-requires-clause-min_len
read_rest-requires-clause-min_len g c =
    let front = c.read_front.new.front in
    let by = format_in c.args.versions front in
    HasFront-least by c.write.new.self
    (begun-HasFront by (g.S.Source.history c.args.reader.now).bytes
    (g.S.Source.history c.read_front.new.reader).bytes front c.args.region c.args.base c.in-Ok.size c.write.new.self
    (record {
      front_read = c.in-Ok.ensures.on_ok;
      is = c.write.ensures.output ∙ ap (λ (w : WindowState).
          with_bytes w (patched w.bytes 0 front)) c.new-window.ensures.cut;
    }))

pub returns-in-Ok-read_rest-clause-reading : goal.returns-in-Ok-read_rest-clause-reading
returns-in-Ok-read_rest-clause-reading g c =
    let front = c.read_front.new.front in
    let was = c.in-Ok-read_rest.ensures in
    let old = (g.S.Source.history c.args.reader.now).bytes in
    let mid = (g.S.Source.history c.read_front.new.reader).bytes in
    let new = (g.S.Source.history c.read_rest.new.reader).bytes in
    let read = c.in-Ok.ensures.on_ok in
    let enough : 12 ≤ length front = omega arith in
    let by = since-format c.args.versions old mid new front (drop (length mid) new) enough read.read
    was.history.grows in
    rw c.new.ensures (subst (λ (f : ℕ).
    IsImageRead f (read_delta (g.S.Source.history c.args.reader.now) (g.S.Source.history c.read_rest.new.reader))
    c.args.region c.args.base c.read_rest.new.window) (sym by)
    (begun-read (format_in c.args.versions front) old mid front c.args.region c.args.base c.in-Ok.size c.write.new.self
    (record {
      front_read = read;
      is = c.write.ensures.output
          ∙ ap (λ (w : WindowState). with_bytes w (patched w.bytes 0 front)) c.new-window.ensures.cut;
    })
    new _ (g.S.Source.history c.args.reader.now).failures (g.S.Source.history c.read_front.new.reader).failures
    (g.S.Source.history c.read_rest.new.reader).failures c.read_rest.new.window
    was.history.grows c.in-Ok.ensures.history.counted was.history.counted was.end was.on_ok was.len))

pub returns-in-Err-read_rest-clause-reading : goal.returns-in-Err-read_rest-clause-reading
returns-in-Err-read_rest-clause-reading g c =
    let front = c.read_front.new.front in
    let was = c.in-Err-read_rest.ensures in
    let old = (g.S.Source.history c.args.reader.now).bytes in
    let mid = (g.S.Source.history c.read_front.new.reader).bytes in
    let new = (g.S.Source.history c.read_rest.new.reader).bytes in
    let read = c.in-Ok.ensures.on_ok in
    let enough : 12 ≤ length front = omega arith in
    let by = since-format c.args.versions old mid new front (drop (length mid) new) enough read.read
    was.history.grows in
    let f0 = format_in c.args.versions front in
    let begun : IsBegun f0 old mid front c.args.region c.args.base c.in-Ok.size c.write.new.self =
    record {
      front_read = read;
      is = c.write.ensures.output
          ∙ ap (λ (w : WindowState). with_bytes w (patched w.bytes 0 front)) c.new-window.ensures.cut;
    } in
    subst (λ (f : ℕ). IsNotRead f (read_delta (g.S.Source.history c.args.reader.now)
    (g.S.Source.history c.read_rest.new.reader)) c.args.region c.args.base (record {
      region = c.into_region.result;
      cause = c.in-Err-read_rest.cause;
    })) (sym by)
    (begun-stops f0 old mid front c.args.region c.args.base c.in-Ok.size c.write.new.self begun
    new _ (g.S.Source.history c.args.reader.now).failures (g.S.Source.history c.read_front.new.reader).failures
    (g.S.Source.history c.read_rest.new.reader).failures c.read_rest.new.window
    c.into_region.result c.in-Err-read_rest.cause was.history.grows c.in-Ok.ensures.history.counted
    c.into_region.ensures was.place was.len
    (was.on_error f0 (begun-HasFront f0 old mid front c.args.region c.args.base c.in-Ok.size c.write.new.self begun)))

pub returns-in-Err-read_rest-clause-output : goal.returns-in-Err-read_rest-clause-output
returns-in-Err-read_rest-clause-output g c =
    let front = c.read_front.new.front in
    let was = c.in-Err-read_rest.ensures in
    let old = (g.S.Source.history c.args.reader.now).bytes in
    let mid = (g.S.Source.history c.read_front.new.reader).bytes in
    let new = (g.S.Source.history c.read_rest.new.reader).bytes in
    let read = c.in-Ok.ensures.on_ok in
    let enough : 12 ≤ length front = omega arith in
    let by = since-format c.args.versions old mid new front (drop (length mid) new) enough read.read
    was.history.grows in
    let f0 = format_in c.args.versions front in
    let begun : IsBegun f0 old mid front c.args.region c.args.base c.in-Ok.size c.write.new.self =
    record {
      front_read = read;
      is = c.write.ensures.output
          ∙ ap (λ (w : WindowState). with_bytes w (patched w.bytes 0 front)) c.new-window.ensures.cut;
    } in
    subst (λ (f : ℕ). IsShown f (drop (length old) new) c.in-Err-read_rest.cause) (sym by)
    (was.output f0 (begun-HasFront f0 old mid front c.args.region c.args.base c.in-Ok.size c.write.new.self begun) old
    (begun-start f0 old mid front c.args.region c.args.base c.in-Ok.size c.write.new.self begun))

pub returns-in-Ok-read_rest-clause-ends : goal.returns-in-Ok-read_rest-clause-ends
returns-in-Ok-read_rest-clause-ends g c =
    more_ends (g.S.Source.history c.args.reader.now) (g.S.Source.history c.read_front.new.reader)
    (g.S.Source.history c.read_rest.new.reader) c.in-Ok.ensures.ends c.in-Ok.ensures.growth
    c.in-Ok-read_rest.ensures.ends

pub returns-in-Err-read_rest-clause-ends : goal.returns-in-Err-read_rest-clause-ends
returns-in-Err-read_rest-clause-ends g c =
    more_ends (g.S.Source.history c.args.reader.now) (g.S.Source.history c.read_front.new.reader)
    (g.S.Source.history c.read_rest.new.reader) c.in-Ok.ensures.ends c.in-Ok.ensures.growth
    c.in-Err-read_rest.ensures.ends
