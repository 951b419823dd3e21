-- Words that say what is asked for are taken, and ask for that.
use Rattle.std.proofs.Common.{sym, ◌∙◌, inl, List, Some, map}
use Rattle.std.proofs.lemmas.Result.{IfOk-weaker}
use Rattle.clap.specs.Matches.{found_of}
use Rattle.clap.specs.Walk.{Text, rows_of}
use Rattle.segment_invocation.proofs.command_lines.AllUnderstood.{understood}
use Rattle.segment_invocation.proofs.asking.Refusals.{asks, enters, faultless, found_given, read_given, read_wrong}
use Rattle.segment_invocation.proofs.asking.Refusals.{unread_given, unread_read, unread_wrong}
use Rattle.segment_invocation.proofs.asking.request.Goals as goal

pub returns-in-Err-clause-read : goal.returns-in-Err-clause-read
returns-in-Err-clause-read c =
    let words : List Text = map (λ s. s.now) c.args.words.now in
    unread_read words c.in_ok-command_line.field-0 c.in_ok-command_line.ensures c.in-Err.other
    c.in-Err.ensures.kinds c.read_other.result c.read_other.ensures.uniqueness

pub returns-in-Err-clause-input : goal.returns-in-Err-clause-input
returns-in-Err-clause-input c = λ a w.
    let words : List Text = map (λ s. s.now) c.args.words.now in
    unread_given words c.in_ok-command_line.field-0 c.in_ok-command_line.ensures a c.in-Err.other
    c.read_other.result c.read_other.ensures.memory c.read_other.ensures.version
    (understood words a w) c.in-Err.ensures.passes c.in-Err.ensures.kinds

pub returns-in-Some-clause-read : goal.returns-in-Some-clause-read
returns-in-Some-clause-read c =
    let words : List Text = map (λ s. s.now) c.args.words.now in
    IfOk-weaker c.read_found.result _ _ (λ i h. inl (
      faultless words c.in_ok-command_line.field-0 c.in_ok-command_line.ensures c.in-Ok.ensures.kinds,
      asks words c.in_ok-command_line.field-0 c.in_ok-command_line.ensures c.in-Ok.matches c.in-Ok.ensures.matches _ _
          c.in-Some.ensures.name c.in-Some.ensures.rows ∙ h,
    )) c.read_found.ensures.read

pub returns-in-Some-clause-input : goal.returns-in-Some-clause-input
returns-in-Some-clause-input c = λ a w.
    let words : List Text = map (λ s. s.now) c.args.words.now in
    let asked = asks words c.in_ok-command_line.field-0 c.in_ok-command_line.ensures c.in-Ok.matches
    c.in-Ok.ensures.matches _ _ c.in-Some.ensures.name c.in-Some.ensures.rows in
    found_given a c.read_found.result _ c.read_found.ensures.read
    (λ w e. (c.read_found.ensures.refused w e).0) (sym asked ∙ read_given words
    c.in_ok-command_line.field-0 c.in_ok-command_line.ensures a (understood words a w) c.in-Ok.ensures.kinds)

pub returns-in-Err-clause-refused : goal.returns-in-Err-clause-refused
returns-in-Err-clause-refused c = λ w e.
    let words : List Text = map (λ s. s.now) c.args.words.now in
    unread_wrong words c.in_ok-command_line.field-0 c.in_ok-command_line.ensures c.in-Err.other c.in-Err.ensures.kinds
    w (c.read_other.ensures.result w e)

pub returns-in-Some-clause-refused : goal.returns-in-Some-clause-refused
returns-in-Some-clause-refused c = λ w e.
    let words : List Text = map (λ s. s.now) c.args.words.now in
    let h = c.read_found.ensures.refused w e in
    read_wrong words (faultless words c.in_ok-command_line.field-0 c.in_ok-command_line.ensures c.in-Ok.ensures.kinds)
    (Some (c.in-Some.name.now, rows_of (found_of c.in-Some.found.now)))
    (enters words c.in_ok-command_line.field-0 c.in_ok-command_line.ensures c.in-Ok.matches c.in-Ok.ensures.matches _
    _ c.in-Some.ensures.name c.in-Some.ensures.rows) h.0 w h.1
