-- The key is that of the only word.
use Rattle.std.proofs.Common.{◌∙◌}
use Rattle.std.specs.Prelude.{option_map}
use Rattle.seg_types.specs.Commands.{Show}
use Rattle.seg_types.specs.Keys.{key_seen}
use Rattle.segment_lang.specs.Tokens.{only_token}
use Rattle.segment_commands.proofs.getting.Found.{fused, key_read}
use Rattle.segment_commands.proofs.getting.key_in.Goals as goal

pub returns : goal.returns
returns c = key_read (option_map key_seen c.only_key.result) (only_token c.args.bytes.now)
    (fused key_seen c.only_key.result ∙ c.only_key.ensures Show)
