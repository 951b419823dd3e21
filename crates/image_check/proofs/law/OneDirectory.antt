-- The law of images: no class holds exactly where a directory is denoted, and that directory is the only one.
use Rattle.image_check.proofs.Common.{IsTrue, List, are_bytes, ℕ, ◌<◌}
use Rattle.image_check.specs.Meaning.{HasOneDirectory}
use Rattle.image_check.proofs.bytes.Numbers.{are_bytes-AreSmall}
use Rattle.image_check.proofs.read_off.Directory.{read_off}
use Rattle.image_check.proofs.law.Uniqueness.{only_one}
use Rattle.image_check.proofs.law.DenotedHasNoClass.{no_class}
use Rattle.image_check.proofs.law.CleanIsDenoted.{reads_back}

-- the law, in each format whose number fits the half word of the header
pub one_directory : (format : ℕ) (b : List ℕ) → format < 4294967296 → IsTrue (are_bytes b) → HasOneDirectory format b
one_directory format b l h =
    let s = are_bytes-AreSmall b h in
    record {
      some = λ e. (read_off format b, reads_back format b s e);
      none = λ d k. no_class format b d l s k;
      one = λ d e k m. only_one format b d e s k m;
    }
