use Rattle.std.proofs.Common.{◌≡◌, ℕ, true, List, rules}
use Rattle.std.specs.Str.{IsUtf8, is_utf8}
use Rattle.std.proofs.lemmas.Bool.{and_parts}
use Rattle.std.proofs.lemmas.Str.{IsUtf8-from_is_utf8}
use Rattle.seg_types.specs.Names.{is_text_name}
use Rattle.seg_types.proofs.names.Name.as_str.Goals as goal

-- a name is UTF-8
name-is_utf8 : (name : List ℕ) → is_text_name name ≡ true → IsUtf8 name
unfolding is_text_name
name-is_utf8 name h = IsUtf8-from_is_utf8 name (and_parts _ (is_utf8 name) (and_parts _ _ h).0).1

pub unwrap-requires : goal.unwrap-requires
unwrap-requires c =
    let text = name-is_utf8 c.args.self.now.bytes.now c.args.self.now.text in
    search rules
