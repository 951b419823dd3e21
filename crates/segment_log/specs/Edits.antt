-- What the payload of a record does to an image. A payload is the new length of the image in 8 bytes, and edits: each
-- is an offset and a length in 8 bytes each, and as many bytes.
use Rattle.std.specs.Prelude.{◌≡◌, ◌⊎◌, ℕ, zero, suc, ◌+◌, ◌-◌, ◌%◌, max, List, [], ◌∷◌, ◌++◌, length, take, drop}
use Rattle.std.specs.Prelude.{nat_lt, if◌then◌else◌, Option, Some, None}
use Rattle.segment_log.specs.Crashes.{LoggedFile}
use Rattle.segment_log.specs.Records.{number_of, number_bytes, zeros, recovered}

-- the image with these bytes at this offset; an edit that does not lie within it does nothing
abbrev pub put : ℕ → List ℕ → List ℕ → List ℕ
put at bytes image =
    if nat_lt (length image) (at + length bytes) then image else take at image ++
    (bytes ++ drop (at + length bytes) image)

-- an image that is cut, or made longer by bytes that are 0
abbrev pub resized : ℕ → List ℕ → List ℕ
resized n image = take n image ++ zeros (n - length image)

-- the first edit of a text: an offset, the bytes, and what stands behind the edit
abbrev pub next_edit : List ℕ → Option (ℕ × List ℕ × List ℕ)
next_edit text =
    if nat_lt (length text) (16 + number_of (drop 8 text)) then None
    else Some (
      number_of text,
      take (number_of (drop 8 text)) (drop 16 text),
      drop (number_of (drop 8 text)) (drop 16 text),
    )

-- an edit as it is written
abbrev pub edit_text : ℕ → List ℕ → List ℕ
edit_text at bytes = number_bytes at ++ number_bytes (length bytes) ++ bytes

-- an image with an edit, and with those of the rest
abbrev pub edit_on : (List ℕ → List ℕ → List ℕ) → Option (ℕ × List ℕ × List ℕ) → List ℕ → List ℕ
edit_on others None image = image
edit_on others (Some e) image = others e.2 (put e.0 e.1 image)

-- an image with at most n edits
abbrev pub edited_by : ℕ → List ℕ → List ℕ → List ℕ
edited_by zero text image = image
edited_by (suc n) text image = edit_on (λ rest. edited_by n rest) (next_edit text) image

-- an image with all edits of a text
unfoldable pub edited : List ℕ → List ℕ → List ℕ
edited text image = edited_by (length text) text image

-- How many zeros fill a payload up, so that its record ends where a block of the disk does: each gate has a block of
-- its own.
abbrev pub filling : ℕ → ℕ
filling len = (4096 - (len + 8) % 4096) % 4096

-- what a payload makes of an image
abbrev pub applied : List ℕ → List ℕ → List ℕ
applied payload image =
    if nat_lt (length payload) 8 then image else edited (drop 8 payload) (resized (number_of payload) image)

-- what payloads make of an image, one after the other
abbrev pub applied_all : List (List ℕ) → List ℕ → List ℕ
applied_all [] image = image
applied_all (payload ∷ payloads) image = applied_all payloads (applied payload image)

-- how many bytes an image of n bytes has after a payload
abbrev pub len_after : List ℕ → ℕ → ℕ
len_after payload n = if nat_lt (length payload) 8 then n else number_of payload

-- how many it has after payloads, one after the other
abbrev pub lens_after : List (List ℕ) → ℕ → ℕ
lens_after [] n = n
lens_after (payload ∷ payloads) n = lens_after payloads (len_after payload n)

-- the most bytes that it has on the way
abbrev pub most_len : List (List ℕ) → ℕ → ℕ
most_len [] n = n
most_len (payload ∷ payloads) n = max n (most_len payloads (len_after payload n))

-- a buffer has the image at its front, and zeros behind it
abbrev pub Holds : List ℕ → List ℕ → Type 0
Holds buffer image = buffer ≡ image ++ zeros (length buffer - length image)

-- a buffer that had an image of n bytes has what f makes of that image
abbrev pub TurnsInto : ℕ → (List ℕ → List ℕ) → List ℕ → List ℕ → Type 0
TurnsInto n f old new = (image : List ℕ) → length image ≡ n → Holds old image → Holds new (f image)

-- the image that a file stands for, with the log beside it
abbrev pub stands_for : LoggedFile → List ℕ
stands_for files = applied_all (recovered files.log) files.base

-- the file stands for this image
abbrev pub StandsFor : List ℕ → LoggedFile → Type 0
StandsFor image c = stands_for c ≡ image

-- the same file, and a log of the same records
pub record SameRecords (files c : LoggedFile) : Type 0 where
  pub base : c.base ≡ files.base
  pub log : recovered c.log ≡ recovered files.log

-- a payload as it is written so far, which makes this image of another of the same length as the new one
pub record WritesTo (size : ℕ) (first now : List ℕ) (payload : List ℕ) : Type 0 where
  pub text : List ℕ
  pub split : payload ≡ number_bytes size ++ text
  pub makes : (tail : List ℕ) → edited (text ++ tail) first ≡ edited tail now

-- the file stands for one of two images
abbrev pub StandsForOneOf : List ℕ → List ℕ → LoggedFile → Type 0
StandsForOneOf a b c = (stands_for c ≡ a) ⊎ (stands_for c ≡ b)

-- at a moment of a checkpoint: the old file with its records, or the new one with these records or none
abbrev pub KeepsOrPlaces : LoggedFile → List ℕ → LoggedFile → Type 0
KeepsOrPlaces files image c =
    SameRecords files c
    ⊎ ((c.base ≡ image) × ((recovered c.log ≡ recovered files.log) ⊎ (recovered c.log ≡ [])))
