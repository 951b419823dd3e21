use Rattle.segment_dump.proofs.Common.{sym, subst, seen}
use Rattle.segment_dump.proofs.counting.Contents.{IsLined, content-lined, content-string}
use Rattle.segment_dump.proofs.counting.count_content.Goals as goal

pub returns-in-Scalar-clause-value : goal.returns-in-Scalar-clause-value
returns-in-Scalar-clause-value c =
    content-lined c.args.kind c.args.count c.args.text.now (seen c.skip.result)
    (subst IsLined (sym c.in-Scalar.is) tt) c.skip.ensures.value

pub returns-in-Vector-clause-value : goal.returns-in-Vector-clause-value
returns-in-Vector-clause-value c =
    content-lined c.args.kind c.args.count c.args.text.now (seen c.skip-in-Vector.result)
    (subst IsLined (sym c.in-Vector.is) tt) c.skip-in-Vector.ensures.value

pub returns-in-Map-clause-value : goal.returns-in-Map-clause-value
returns-in-Map-clause-value c =
    content-lined c.args.kind c.args.count c.args.text.now (seen c.skip-in-Map.result)
    (subst IsLined (sym c.in-Map.is) tt) c.skip-in-Map.ensures.value

pub returns-in-String-clause-value : goal.returns-in-String-clause-value
returns-in-String-clause-value c =
    content-string c.args.kind c.args.count c.args.text.now (seen c.count_string.result) c.in-String.is
    c.count_string.ensures.value

pub returns-in-Scalar-clause-questions : goal.returns-in-Scalar-clause-questions
returns-in-Scalar-clause-questions c = rw c.in-Scalar.is c.skip.ensures.questions

pub returns-in-Vector-clause-questions : goal.returns-in-Vector-clause-questions
returns-in-Vector-clause-questions c = rw c.in-Vector.is c.skip-in-Vector.ensures.questions

pub returns-in-Map-clause-questions : goal.returns-in-Map-clause-questions
returns-in-Map-clause-questions c = rw c.in-Map.is c.skip-in-Map.ensures.questions

pub returns-in-String-clause-questions : goal.returns-in-String-clause-questions
returns-in-String-clause-questions c = rw c.in-String.is c.count_string.ensures.questions

pub returns-in-Strings-clause-questions : goal.returns-in-Strings-clause-questions
returns-in-Strings-clause-questions c = rw c.in-Strings.is c.count_texts.ensures.questions
