use Rattle.std.proofs.Common.{◌∙◌, sym}
use Rattle.segment_lang.proofs.commands.Lexing.{elements_content, no_pairs_content, scalar_content, text_content}
use Rattle.segment_lang.proofs.commands.Lexing.{texts_content}
use Rattle.segment_lang.proofs.contents.read_content.Goals as goal

pub returns-in-Scalar : goal.returns-in-Scalar
returns-in-Scalar c = rw c.in-Scalar.is (c.read_scalar.ensures ∙ sym (scalar_content _ c.args.count c.args.bytes.now))

pub returns-in-Vector : goal.returns-in-Vector
returns-in-Vector c = rw c.in-Vector.is (c.read_vector.ensures ∙ sym (elements_content _ c.args.count c.args.bytes.now))

pub returns-in-String : goal.returns-in-String
returns-in-String c = rw c.in-String.is (c.read_string.ensures ∙ sym (text_content c.args.count c.args.bytes.now))

pub returns-in-Strings : goal.returns-in-Strings
returns-in-Strings c = rw c.in-Strings.is (c.read_strings.ensures ∙ sym (texts_content c.args.count c.args.bytes.now))

pub returns-in-Map : goal.returns-in-Map
returns-in-Map c = rw c.in-Map.is (c.read_no_pairs.ensures ∙ sym (no_pairs_content _ _ c.args.count c.args.bytes.now))
