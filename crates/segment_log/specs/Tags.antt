-- Which file a log belongs to. The first edit of a payload lies outside every image, so that it changes none: its bytes
-- are the fingerprints of the file that the log began with, and of the image that the payload makes.
use Rattle.std.specs.Prelude.{◌≡◌, ◌≢◌, ℕ, Bool, true, false, ◌&&◌, ◌||◌, List, [], ◌∷◌, ◌++◌, length, drop, nat_le}
use Rattle.std.specs.Prelude.{◌==◌, if◌then◌else◌, Option, Some, None}
use Rattle.segment_log.specs.Crashes.{LoggedFile}
use Rattle.segment_log.specs.Fingerprints.{fingerprint}
use Rattle.segment_log.specs.Records.{number_of, number_bytes, recovered}
use Rattle.segment_log.specs.Edits.{next_edit, edit_text, stands_for, StandsFor, StandsForOneOf}

-- the first edit of a payload: both fingerprints, at an offset that no image has
abbrev pub tag_text : ℕ → ℕ → List ℕ
tag_text base after = edit_text 18_446_744_073_709_551_615 (number_bytes base ++ number_bytes after)

-- the bytes of an edit at that offset
abbrev pub tag_in : Option (ℕ × List ℕ × List ℕ) → List ℕ
tag_in None = []
tag_in (Some e) = if e.0 == 18_446_744_073_709_551_615 then e.1 else []

-- the tag of a payload, or nothing
abbrev pub tag_of : List ℕ → List ℕ
tag_of payload = if nat_le 8 (length payload) then tag_in (next_edit (drop 8 payload)) else []

-- the fingerprint of the file that the log began with
abbrev pub base_of : List ℕ → ℕ
base_of payload = number_of (tag_of payload)

-- the fingerprint of the image that the payload makes
abbrev pub after_of : List ℕ → ℕ
after_of payload = number_of (drop 8 (tag_of payload))

-- the payload has a tag, and the log began with a file of this fingerprint
unfoldable pub names_base : ℕ → List ℕ → Bool
names_base id payload = nat_le 16 (length (tag_of payload)) && (base_of payload == id)

-- the payload has a tag, and makes an image of this fingerprint
unfoldable pub names_image : ℕ → List ℕ → Bool
names_image id payload = nat_le 16 (length (tag_of payload)) && (after_of payload == id)

-- some payload makes an image of this fingerprint
abbrev pub names_after : ℕ → List (List ℕ) → Bool
names_after id [] = false
names_after id (payload ∷ payloads) = names_image id payload || names_after id payloads

-- a log of these payloads belongs to a file of this fingerprint
abbrev pub belongs : ℕ → List (List ℕ) → Bool
belongs id [] = true
belongs id (payload ∷ payloads) = names_base id payload || names_after id (payload ∷ payloads)

-- the image of a log may have this fingerprint: some record made it, or there is no record
abbrev pub fits : ℕ → List (List ℕ) → Bool
fits id [] = true
fits id (payload ∷ payloads) = names_after id (payload ∷ payloads)

-- the log belongs to the file
abbrev pub IsOwnLog : LoggedFile → Type 0
IsOwnLog files = belongs (fingerprint files.base) (recovered files.log) ≡ true

-- A log that belongs to a file does so with a payload more. That of an empty log names the file.
abbrev pub CommitKeepsOwn : Type 0
CommitKeepsOwn = (id : ℕ) (payloads : List (List ℕ)) (payload : List ℕ) → belongs id payloads ≡ true
    → (payloads ≡ [] → names_base id payload ≡ true) → belongs id (payloads ++ payload ∷ []) ≡ true

-- A log belongs to a file that has the image of its last record.
abbrev pub CheckpointKeepsOwn : Type 0
CheckpointKeepsOwn = (id : ℕ) (payloads : List (List ℕ)) (payload : List ℕ) → names_image id payload ≡ true
    → belongs id (payloads ++ payload ∷ []) ≡ true

-- the log belongs to the file, and to a file with the image that both stand for
pub record AreTogether (files : LoggedFile) : Type 0 where
  pub own : IsOwnLog files
  pub image : recovered files.log ≢ [] → names_after (fingerprint (stands_for files)) (recovered files.log) ≡ true

-- at a moment of a commit: the file stands for the last image or for the new one, with its own log
pub record IsMidCommit (last new : List ℕ) (c : LoggedFile) : Type 0 where
  pub image : StandsForOneOf last new c
  pub named : AreTogether c

-- the file stands for this image, with its own log
pub record KeepsImage (image : List ℕ) (c : LoggedFile) : Type 0 where
  pub stands : StandsFor image c
  pub named : AreTogether c
