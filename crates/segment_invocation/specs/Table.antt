-- What the program's table of commands stands for.
use Rattle.std.specs.Prelude.{List, Option, fold, map}
use denote.Ref.{Bor}
use Rattle.clap.specs.Walk.{Rule, Text}
use Rattle.clap.specs.Simple.{Shape, new_app, with_rule}
use Rattle.segment_invocation.specs.Invocations.{flag, lines, maybe, operand, operands, option, switch}
use Rattle.segment_invocation.specs.declared.command_line.Argument.{Argument}
use Rattle.segment_invocation.specs.declared.command_line.Argument.TheVariants as argument
use Rattle.segment_invocation.specs.declared.command_line.HelpEnd.{HelpEnd}

-- a word, as clap reads it
abbrev pub argument_rule : Argument → Rule
argument_rule (argument.Operand name shown help) = operand name.now
argument_rule (argument.Operands name shown help) = operands name.now
argument_rule (argument.Optional name shown help) = maybe name.now
argument_rule (argument.Short name letter shown help) = lines name.now letter
argument_rule (argument.Option name shown help) = option name.now
argument_rule (argument.Flag name help) = flag name.now
argument_rule (argument.Switch name letter help) = switch name.now letter

-- a command's name, what it does, what its help has at the end, and its words
abbrev pub CommandSpec : Type 0
CommandSpec = Bor Text × Bor Text × Option HelpEnd × Bor (List Argument)

-- a command, as clap reads it
abbrev pub row_shape : CommandSpec → Shape
row_shape row = (fold with_rule (new_app row.0.now) (map argument_rule row.3.now)).top
