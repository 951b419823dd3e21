-- Readings by example.
use Rattle.std.proofs.Common.{◌≡◌, ℕ, refl, pos, negsuc, List, [], ◌∷◌, ◌++◌, Some, replicate, true}
use Rattle.std.specs.List.{AllByRecursion}
use lib.Chars.{codes}
use Rattle.raw_region.specs.Format.{current}
use Rattle.seg_types.specs.declared.kinds.Kind.TheVariants.{Map, Scalar, Vector}
use Rattle.seg_types.specs.declared.kinds.ScalarKind.TheVariants.{Bool as Flag, U8, I32, I64, U64}
use Rattle.seg_types.specs.Names.{ByHandle, ByKind, ByName, NoKey}
use Rattle.seg_types.specs.Commands.{Reading, Nothing, Asked, UnknownCommand, LineTooLong, BadSyntax, Construct}
use Rattle.seg_types.specs.Commands.{ConstructIt, Find, FindOrConstruct, Append, Assign, Bytes, Elements, Get, Insert}
use Rattle.seg_types.specs.Commands.{Lookup, NoPairs, Numbers, Push, Put, Quoted, Remove, ReserveNamed, Set, Show}
use Rattle.seg_types.specs.Commands.{Strings, Boolean, Integer}
use Rattle.segment_lang.specs.Lexing.{Bare, Text}
use Rattle.segment_lang.specs.Language.{whole_language}
use Rattle.segment_lang.specs.Reading.{reading}
use Rattle.segment_lang.specs.Tokens.{next_token, token_at, text_at, bare_at, only_token}

-- lines, each with what it means
abbrev Means : List (List ℕ × Reading) → Type 0
Means = AllByRecursion (λ row. reading (whole_language current) row.0 ≡ row.1)

-- objects of scalars, arrays, vectors, strings and maps
made : Means (
    (codes "construct i64 - -5", Asked (Construct NoKey (Numbers I64 (negsuc 4 ∷ []))))
    ∷ (codes "construct u8[2] \"a b\" 7", Asked (Construct (ByName (codes "a b")) (Numbers U8 (pos 7 ∷ pos 7 ∷ []))))
    ∷ (codes "construct_it bool[2] - true false", Asked (ConstructIt NoKey Flag 2 (pos 1 ∷ pos 0 ∷ [])))
    ∷ (codes "construct vec<i32> @vec<i32> -2", Asked (Construct (ByKind (Vector I32)) (Elements I32 (negsuc 1 ∷ []))))
    ∷ (codes "construct vec<u64> -", Asked (Construct NoKey (Elements U64 [])))
    ∷ (codes "construct string s \"a\\x00\"", Asked (Construct (ByName (codes "s")) (Bytes (97 ∷ 0 ∷ []))))
    ∷ (codes "construct vec<string> - \"a\" \"\"", Asked (Construct NoKey (Strings ((97 ∷ []) ∷ [] ∷ []))))
    ∷ (codes "construct map<bool,i64> m", Asked (Construct (ByName (codes "m")) (NoPairs Flag I64)))
    ∷ [])
unfolding reading current
made = (refl, (refl, (refl, (refl, (refl, (refl, (refl, (refl, tt))))))))

-- objects by an entry of an index, and what is told of them
found : Means (
    (codes "\tshow #144 \r", Asked (Show (ByHandle 144)))
    ∷ (codes "find u64 _a.1", Asked (Find (ByName (codes "_a.1")) (Scalar U64)))
    ∷ (codes "find map<u64,i32> m", Asked (Find (ByName (codes "m")) (Map U64 I32)))
    ∷ (codes "find_or_construct i32 @i32 1", Asked (FindOrConstruct (ByKind (Scalar I32)) (Numbers I32 (pos 1 ∷ []))))
    ∷ (codes "find_or_construct map<u8,u8> @map<u8,u8>", Asked (FindOrConstruct (ByKind (Map U8 U8)) (NoPairs U8 U8)))
    ∷ (codes "reserve_named 10", Asked (ReserveNamed 10))
    ∷ [])
unfolding reading current
found = (refl, (refl, (refl, (refl, (refl, (refl, tt))))))

-- elements; a literal that is no value of the element is for the command to refuse
changed : Means (
    (codes "get a 18446744073709551615", Asked (Get (ByName (codes "a")) 18446744073709551615))
    ∷ (codes "set #192 0 -3", Asked (Set (ByHandle 192) 0 (Integer (negsuc 2))))
    ∷ (codes "push #192 300", Asked (Push (ByHandle 192) (Integer (pos 300))))
    ∷ (codes "insert w 3 \"\"", Asked (Insert (ByName (codes "w")) 3 (Quoted [])))
    ∷ (
      codes "assign w 1 true \"\"",
      Asked (Assign (ByName (codes "w")) (Integer (pos 1) ∷ Boolean true ∷ Quoted [] ∷ [])),
    )
    ∷ (codes "append s \"b\"", Asked (Append (ByName (codes "s")) (98 ∷ [])))
    ∷ (codes "put m 4 true", Asked (Put (ByName (codes "m")) (Integer (pos 4)) (Boolean true)))
    ∷ (codes "lookup #192 -4", Asked (Lookup (ByHandle 192) (Integer (negsuc 3))))
    ∷ (codes "remove @map<i64,i64> \"a\"", Asked (Remove (ByKind (Map I64 I64)) (Quoted (97 ∷ []))))
    ∷ [])
unfolding reading current
changed = (refl, (refl, (refl, (refl, (refl, (refl, (refl, (refl, (refl, tt)))))))))

-- other words than a command has after it
wrong : AllByRecursion (λ line. reading (whole_language current) line ≡ BadSyntax) (
    codes "append s b" ∷ codes "construct string[2] s \"a\"" ∷ codes "construct map<i64,i64> m 1"
    ∷ codes "construct map<string,i64> m" ∷ codes "construct map<i64,i64>[2] m" ∷ codes "put m 4" ∷ codes "put m 4 x"
    ∷ codes "find u8 @u64" ∷ [])
unfolding reading current
wrong = (refl, (refl, (refl, (refl, (refl, (refl, (refl, (refl, tt))))))))

-- values, counts and names that are none
no_values : AllByRecursion (λ line. reading (whole_language current) line ≡ BadSyntax) (
    codes "construct_it i64[3] w 1 2" ∷ codes "construct i64[0] w 1" ∷ codes "construct u8 x 300"
    ∷ codes "construct u8 1x 3" ∷ codes "construct u8 \"\\x0a\" 3" ∷ codes "size x"
    ∷ codes "construct i64 - 9223372036854775808" ∷ [])
unfolding reading current
no_values = (refl, (refl, (refl, (refl, (refl, (refl, (refl, tt)))))))

-- vectors of strings are a kind from format 2 on
strings_before : reading (whole_language 1) (codes "construct vec<string> v") ≡ BadSyntax
unfolding reading
strings_before = refl

comments : Means ((codes "#size", Nothing) ∷ (codes " #size", UnknownCommand) ∷ [])
unfolding reading
comments = (refl, (refl, tt))

longest : reading (whole_language current) (replicate 4096 97 ++ 0x0D ∷ []) ≡ UnknownCommand
unfolding reading
longest = refl

too_long : reading (whole_language current) (replicate 4097 97) ≡ LineTooLong
unfolding reading
too_long = refl

text_first : next_token (codes " \"a\\x0a\\\"\" b") ≡ Some (Text (97 ∷ 10 ∷ 34 ∷ []), codes " b")
unfolding next_token token_at text_at
text_first = refl

bare_first : next_token (codes "ab c") ≡ Some (Bare (codes "ab"), codes " c")
unfolding next_token token_at bare_at
bare_first = refl

last_token : only_token (codes " ab\t") ≡ Some (Bare (codes "ab"))
unfolding next_token token_at bare_at only_token
last_token = refl
