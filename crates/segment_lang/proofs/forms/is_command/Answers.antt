use Rattle.std.proofs.Common.{◌∙◌, ap, sym}
use Rattle.std.specs.Prelude.{is_some}
use Rattle.seg_types.specs.Commands as asked
use Rattle.segment_lang.specs.Reading.{key_of}
use Rattle.segment_lang.proofs.commands.Lexing.{alone_at_end, of_key, of_key_literal, of_key_number, of_putting}
use Rattle.segment_lang.proofs.tokens.Readers.{end_some, some_of}
use Rattle.segment_lang.proofs.forms.is_command.Goals as goal

pub returns-in-Size : goal.returns-in-Size
returns-in-Size c =
    rw c.in-Size.is (c.at_end.ensures ∙ sym (end_some asked.Size _)
    ∙ sym (ap is_some (alone_at_end asked.Size c.args.bytes.now)))

pub returns-in-Get : goal.returns-in-Get
returns-in-Get c =
    rw c.in-Get.is (c.is_some.ensures
    ∙ some_of _ _ _ (c.key_and_number.ensures asked.Get ∙ sym (of_key_number asked.Get c.args.bytes.now)))

pub returns-in-Push : goal.returns-in-Push
returns-in-Push c =
    rw c.in-Push.is (c.is_some-in-Push.ensures
    ∙ some_of _ _ _ (c.key_and_literal.ensures asked.Push ∙ sym (of_key_literal asked.Push c.args.bytes.now)))

pub returns-in-Put : goal.returns-in-Put
returns-in-Put c =
    rw c.in-Put.is (c.is_some-in-Put.ensures
    ∙ some_of _ _ _ (c.key_and_pair.ensures ∙ sym (of_putting c.args.bytes.now)))

pub returns-in-Pop : goal.returns-in-Pop
returns-in-Pop c =
    rw c.in-Pop.is (c.is_some-in-Pop.ensures
    ∙ some_of _ _ _ (c.only_key.ensures asked.Pop ∙ sym (of_key asked.Pop key_of c.args.bytes.now)))

pub returns-in-Operation : goal.returns-in-Operation
returns-in-Operation c = rw c.in-Operation.is (c.is_some-in-Operation.ensures ∙ some_of _ _ _ c.read_operation.ensures)
