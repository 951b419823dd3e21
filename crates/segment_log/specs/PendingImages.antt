-- The image that stands beside a file while the file is written in place, and what an opener takes.
use Rattle.std.specs.Prelude.{◌≡◌, ◌⊎◌, ◌<◌, ℕ, List, [], ◌∷◌, ◌++◌, length, take}
use Rattle.segment_log.specs.Fingerprints.{fingerprint}
use Rattle.segment_log.specs.Records.{number_bytes}

-- the first bytes of a pending image: the text "zaluxhoni save", a zero, and the version of the format
abbrev pub pending_head : List ℕ
pending_head =
    122 ∷ 97 ∷ 108 ∷ 117 ∷ 120 ∷ 104 ∷ 111 ∷ 110 ∷ 105 ∷ 32 ∷ 115 ∷ 97 ∷ 118 ∷ 101 ∷ 0 ∷ 1 ∷ []

-- the last bytes: the length of the image, and its fingerprint
abbrev pub pending_tail : ℕ → ℕ → List ℕ
pending_tail len id = number_bytes len ++ number_bytes id

-- a pending image as it is written
unfoldable pub pending_text : List ℕ → List ℕ
pending_text image = pending_head ++ (image ++ pending_tail (length image) (fingerprint image))

-- the file has the first bytes of the image, and not all; it may be empty
pub record IsFirstPartOf (file image : List ℕ) : Type 0 where
  pub bytes : take (length file) image ≡ file
  pub shorter : length file < length image

-- the pending file is whole, and the file is its image, cut short: a save in place has not ended
pub record Completes (pending file image : List ℕ) : Type 0 where
  pub whole : pending ≡ pending_text image
  pub prefix : IsFirstPartOf file image

-- what an opener takes: the pending image if it completes the file, and otherwise the file
abbrev pub OpenerTakes : List ℕ → List ℕ → List ℕ → Type 0
OpenerTakes pending file found =
    Completes pending file found ⊎ (((image : List ℕ) → Completes pending file image → ⊥) × (found ≡ file))

-- What an opener takes at each moment of a save in place.
pub record SurvivesSave (old image : List ℕ) : Type 0 where
  -- while the pending file is written, and the file has the old image
  pub pending : (k : ℕ) (found : List ℕ) → k < length (pending_text image)
      → OpenerTakes (take k (pending_text image)) old found → (found ≡ old) ⊎ IsFirstPartOf old image
  -- when the pending file is whole, and the file has the old image
  pub before : (found : List ℕ) → OpenerTakes (pending_text image) old found
      → (found ≡ old) ⊎ ((found ≡ image) × IsFirstPartOf old image)
  -- when the file has been emptied, and while the image is written into it, and then
  pub during : (n : ℕ) (found : List ℕ) → OpenerTakes (pending_text image) (take n image) found → found ≡ image

-- A save in place leaves the old image or the new one at each moment, and nothing else.
abbrev pub SavesSurvive : Type 0
SavesSurvive = (old image : List ℕ) → SurvivesSave old image
