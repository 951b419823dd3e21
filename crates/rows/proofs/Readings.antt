-- What lines mean, in tables.
use Rattle.std.proofs.Common.{◌≡◌, refl, ℕ, pos, negsuc, List, [], ◌∷◌, ◌++◌, map, replicate, codes, true}
use Rattle.seg_types.specs.declared.kinds.ScalarKind.TheVariants.{I64, U8}
use Rattle.seg_types.specs.declared.kinds.Kind.TheVariants.{Map}
use Rattle.seg_types.specs.Names.{ByName, ByKind, NoKey}
use Rattle.seg_types.specs.Commands.{Reading, Nothing, Asked, UnknownCommand, LineTooLong, BadSyntax, Size, Append, Set}
use Rattle.seg_types.specs.Commands.{Integer, Boolean, Quoted, Construct, Numbers, NoPairs, Assign}
use Rattle.segment_lang.specs.Language.{whole_language}
use Rattle.segment_lang.specs.Reading.{reading}

-- each line means what stands beside it
abbrev AreRead : List (List ℕ × Reading) → Type 0
AreRead rows = map (λ row. reading (whole_language 2) row.0) rows ≡ map (λ row. row.1) rows

-- blanks at both ends, a carriage return, a word more, blanks alone, a remark, a remark that is not in front, a command
-- in quotes
lines : AreRead (
    (codes "\t size \t", Asked Size)
    ∷ (codes "size\r", Asked Size)
    ∷ (codes "size x", BadSyntax)
    ∷ (codes " \t ", Nothing)
    ∷ (codes "#size", Nothing)
    ∷ (codes " #size", UnknownCommand)
    ∷ (codes "\"size\"", UnknownCommand)
    ∷ []
    )
unfolding reading
lines = refl

-- 4096 bytes and a carriage return are not too long, and 4097 bytes are
long_lines : AreRead ((replicate 4096 97 ++ 0x0D ∷ [], UnknownCommand) ∷ (replicate 4097 97, LineTooLong) ∷ [])
unfolding reading
long_lines = refl

-- a leading zero, minus zero, the least number, one that is too great
numbers : AreRead (
    (codes "destroy_ptr #01", BadSyntax)
    ∷ (codes "set w 0 -0", BadSyntax)
    ∷ (codes "set w 0 -9223372036854775808", Asked (Set (ByName (codes "w")) 0 (Integer (negsuc 9223372036854775807))))
    ∷ (codes "set w 0 18446744073709551616", BadSyntax)
    ∷ []
    )
unfolding reading
numbers = refl

-- escapes, no blank after a text, a digit in upper case, an empty name
texts : AreRead (
    (codes "append \"a b\" \"\\\"\\\\\\x0a\"", Asked (Append (ByName (codes "a b")) (0x22 ∷ 0x5C ∷ 0x0A ∷ [])))
    ∷ (codes "append s \"a\"b", BadSyntax)
    ∷ (codes "append s \"\\x0A\"", BadSyntax)
    ∷ (codes "show \"\"", BadSyntax)
    ∷ []
    )
unfolding reading
texts = refl

-- a count where none may stand, none of a kind, three of a kind, a unique map, values of several forms
kinds : AreRead (
    (codes "find i64[3] a", BadSyntax)
    ∷ (codes "construct i64[0] a 1", BadSyntax)
    ∷ (codes "construct i64[3] - 7", Asked (Construct NoKey (Numbers I64 (pos 7 ∷ pos 7 ∷ pos 7 ∷ []))))
    ∷ (codes "construct map<u8,i64> @map<u8,i64>", Asked (Construct (ByKind (Map U8 I64)) (NoPairs U8 I64)))
    ∷ (
      codes "assign v 1 true \"x\"",
      Asked (Assign (ByName (codes "v")) (Integer (pos 1) ∷ Boolean true ∷ Quoted (codes "x") ∷ [])),
    )
    ∷ []
    )
unfolding reading
kinds = refl
