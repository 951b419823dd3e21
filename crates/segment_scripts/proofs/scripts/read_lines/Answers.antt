use Rattle.std.proofs.Common.{◌≡◌, ◌<◌, false, length, length-take, take, drop, refl, ap, subst, ◌∙◌, arith}
use Rattle.std.proofs.lemmas.Bool.{ne_eqb}
use Rattle.raw_region.specs.Device.{WriterHistory, read_delta, write_delta}
use Rattle.segment_scripts.specs.RunProgress.{LeavesPiece}
use Rattle.segment_scripts.specs.Stopping.{stops_at}
use Rattle.segment_scripts.proofs.runs.Stops.{since-more, none_failed, one_failed, cut_in, cut_at_limit, beyond_limit}
use Rattle.segment_scripts.proofs.runs.Stops.{nothing_yet, on_at_limit, stopped_in}
use Rattle.segment_scripts.proofs.runs.Ends.{on_none}
use Rattle.segment_scripts.proofs.scripts.read_lines.Goals as goal

pub pieces-init : goal.pieces-init
pieces-init g c =
    let old = (g.S.Source.history c.args.script.now).bytes in
    let none = nothing_yet old in
    record {
      buffer = refl;
      grows = none.grows;
      limit = rw none.read refl;
      passed = refl;
      behind = λ start s. rw (
        none.read,
        c.requires.fresh,
      ) (on_none g.M.Machine.respond (stops_at c.args.until g.M.Machine.refuses) start
          (g.W.Sink.history c.args.out.now).bytes (g.M.Machine.stands c.args.machine.now) s);
      ends = refl;
      reads = refl;
      writes = refl;
    }

pub returns-in-Err-feed-clause-fault : goal.returns-in-Err-feed-clause-fault
returns-in-Err-feed-clause-fault g c = λ start s.
    let before = (g.W.Sink.history c.args.out.now).bytes in
    let old = (g.S.Source.history c.args.script.now).bytes in
    let mid = (g.S.Source.history c.pieces.script).bytes in
    let new = (g.S.Source.history c.read.new.script).bytes in
    let was = c.pieces.invariant in
    let same = c.read.ensures.history in
    let failures = ap (λ (t : WriterHistory). t.failures) same in
    let read = drop (length old) mid in
    let count = c.in-Ok.count in
    let piece = c.read.new.into in
    let asked : 0 < length (take c.min.result c.pieces.piece) =
    simp length-take (omega (arith, was.buffer, c.min.ensures)) in
    let unended : (g.S.Source.history c.read.new.script).ended ≡ false =
    c.in-Ok.ensures.end asked ∙ ne_eqb count 0 c.if-count-eq0.false in
    let script = read_delta (g.S.Source.history c.args.script.now) (g.S.Source.history c.read.new.script) in
    let stops = stops_at c.args.until g.M.Machine.refuses in
    let cut = cut_in g.M.Machine.respond stops start before read piece c.pieces.left count c.min-within.result
    script (g.M.Machine.stands c.feed.new.machine) (g.W.Sink.history c.feed.new.out).bytes
    was.limit c.min-within.ensures (since-more old mid new (take count piece) was.grows c.in-Ok.ensures.bytes)
    unended (c.in-Err-feed.ensures.on_error start before read (rw same (was.behind start s))) in
    record {
      left = record {
        answers = cut.part;
        read = none_failed _ _ (omega (arith, c.in-Ok.ensures.failures, was.reads));
        written = one_failed _ _ (omega (arith, c.in-Err-feed.ensures.failures, failures, was.writes));
      };
      on = cut.on;
    }

pub returns-then-left-count-clause-fault : goal.returns-then-left-count-clause-fault
returns-then-left-count-clause-fault g c = λ start s.
    let before = (g.W.Sink.history c.args.out.now).bytes in
    let old = (g.S.Source.history c.args.script.now).bytes in
    let mid = (g.S.Source.history c.pieces.script).bytes in
    let new = (g.S.Source.history c.read.new.script).bytes in
    let was = c.pieces.invariant in
    let same = c.read.ensures.history in
    let failures = ap (λ (t : WriterHistory). t.failures) same in
    let read = drop (length old) mid in
    let count = c.in-Ok.count in
    let piece = c.read.new.into in
    let bytes = since-more old mid new (take count piece) was.grows c.in-Ok.ensures.bytes in
    let stops = stops_at c.args.until g.M.Machine.refuses in
    let on = subst (LeavesPiece g.M.Machine.respond stops start before read (take c.min-within.result piece)
    (g.M.Machine.stands c.feed.new.machine) c.feed.new.line (g.W.Sink.history c.feed.new.out).bytes)
    c.in-Ok-Complete.field-0-is
    (c.in-Ok-Complete.ensures.on_ok start before read (rw same (was.behind start s))) in
    record {
      left = record {
        beyond = beyond_limit g.M.Machine.respond read piece _ c.pieces.left count was.limit c.if-left-count.true
            c.in-Ok.ensures.count bytes;
        answers = cut_at_limit g.M.Machine.respond start before read piece c.pieces.left count c.min-within.result _
            (g.M.Machine.stands c.feed.new.machine) c.feed.new.line (g.W.Sink.history c.feed.new.out).bytes
            was.limit c.min-within.ensures bytes on.behind;
        read = none_failed _ _ (omega (arith, c.in-Ok.ensures.failures, was.reads));
        written = none_failed _ _ (omega (arith, c.in-Ok-Complete.ensures.failures, failures, was.writes));
      };
      on = on_at_limit g.M.Machine.respond (stops_at c.args.until g.M.Machine.refuses) start read piece
          c.pieces.left count c.min-within.result _ was.limit c.min-within.ensures bytes on.on;
    }

pub returns-in-Ok-Refused-clause-end : goal.returns-in-Ok-Refused-clause-end
returns-in-Ok-Refused-clause-end g c = λ start s.
    let before = (g.W.Sink.history c.args.out.now).bytes in
    let old = (g.S.Source.history c.args.script.now).bytes in
    let mid = (g.S.Source.history c.pieces.script).bytes in
    let new = (g.S.Source.history c.read.new.script).bytes in
    let was = c.pieces.invariant in
    let same = c.read.ensures.history in
    let failures = ap (λ (t : WriterHistory). t.failures) same in
    let read = drop (length old) mid in
    let count = c.in-Ok.count in
    let piece = c.read.new.into in
    let asked : 0 < length (take c.min.result c.pieces.piece) =
    simp length-take (omega (arith, was.buffer, c.min.ensures)) in
    let unended : (g.S.Source.history c.read.new.script).ended ≡ false =
    c.in-Ok.ensures.end asked ∙ ne_eqb count 0 c.if-count-eq0.false in
    let script = read_delta (g.S.Source.history c.args.script.now) (g.S.Source.history c.read.new.script) in
    let out = write_delta (g.W.Sink.history c.args.out.now) (g.W.Sink.history c.feed.new.out) in
    stopped_in g.M.Machine.respond (stops_at c.args.until g.M.Machine.refuses) start before read piece c.pieces.left
    count c.min-within.result script out (g.M.Machine.stands c.feed.new.machine) (g.W.Sink.history c.feed.new.out).bytes
    was.limit c.min-within.ensures (since-more old mid new (take count piece) was.grows c.in-Ok.ensures.bytes) unended
    (subst (LeavesPiece g.M.Machine.respond (stops_at c.args.until g.M.Machine.refuses) start before read
    (take c.min-within.result piece) (g.M.Machine.stands c.feed.new.machine) c.feed.new.line
    (g.W.Sink.history c.feed.new.out).bytes) c.in-Ok-Refused.field-0-is
    (c.in-Ok-Refused.ensures.on_ok start before read (rw same (was.behind start s)))) refl
    (none_failed _ _ (omega (arith, c.in-Ok.ensures.failures, was.reads)))
    (none_failed _ _ (omega (arith, c.in-Ok-Refused.ensures.failures, failures, was.writes)))
