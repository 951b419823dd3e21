use Rattle.segment_dump.proofs.Common.{ap, ◌∙◌, drop, position, take}
use Rattle.segment_dump.proofs.reading.Lines.{is_end, line-whole, long-line, no-line, this-line}
use Rattle.segment_dump.proofs.tokens.Lines.next_line.Goals as goal

pub returns-in_default-clause-line : goal.returns-in_default-clause-line
returns-in_default-clause-line c = no-line c.args.self.now c.args.self.now c.line_len.result _ (c.line_len.ensures
    ∙ ap (position is_end) c.self.view_is) c.in_default.is

pub returns-then-line-gt-LONGEST_LINE-clause-line : goal.returns-then-line-gt-LONGEST_LINE-clause-line
returns-then-line-gt-LONGEST_LINE-clause-line c =
    long-line c.args.self.now c.args.self.now c.split_at.result.0.now c.line_len.result c.in-Some.end _
    (c.line_len.ensures ∙ ap (position is_end) c.self.view_is) c.in-Some.is
    (c.split_at.ensures.front ∙ ap (take c.in-Some.end) c.self.view_is) c.if-line-gt-LONGEST_LINE.true

pub returns-clause-line : goal.returns-clause-line
returns-clause-line c =
    this-line c.args.self.now c.split_at-2.result.1.now c.split_at.result.0.now c.split_at.result.1.now
    c.line_len.result c.in-Some.end (c.line_len.ensures ∙ ap (position is_end) c.self.view_is) c.in-Some.is
    (c.split_at.ensures.front ∙ ap (take c.in-Some.end) c.self.view_is) (c.split_at.ensures.back
    ∙ ap (drop c.in-Some.end) c.self.view_is) c.split_at-2.ensures.back

pub returns-clause-exact : goal.returns-clause-exact
returns-clause-exact c =
    line-whole c.args.self.now c.split_at-2.result.1.now c.split_at.result.0.now c.split_at.result.1.now
    c.line_len.result c.in-Some.end (c.line_len.ensures ∙ ap (position is_end) c.self.view_is) c.in-Some.is
    (c.split_at.ensures.front ∙ ap (take c.in-Some.end) c.self.view_is) (c.split_at.ensures.back
    ∙ ap (drop c.in-Some.end) c.self.view_is) c.split_at-2.ensures.back
