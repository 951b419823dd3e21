-- Numbers that tell images apart.
use Rattle.std.specs.Prelude.{◌≡◌, ◌≢◌, ◌<◌, ◌-◌, ℕ, zero, suc, ◌+◌, ◌*◌, ◌/◌, ◌%◌, min, List, [], ◌∷◌}
use Rattle.std.specs.Prelude.{length, take, drop}
use Rattle.segment_log.specs.Records.{number_of}

-- a mark with a word more; each half of the word has a factor of its own
abbrev pub mark_word : ℕ → ℕ → ℕ
mark_word mark word =
    ((mark * 6_364_136_223_846_793_005 % 18_446_744_073_709_551_616
    + word % 4_294_967_296 * 1_442_695_040_888_963_407 % 18_446_744_073_709_551_616) % 18_446_744_073_709_551_616
    + word / 4_294_967_296) % 18_446_744_073_709_551_616

-- the mark of the first words of a page, which begins with its length
abbrev pub marked_words : ℕ → List ℕ → ℕ
marked_words zero page = length page
marked_words (suc k) page = mark_word (marked_words k page) (number_of (drop (8 * k) page))

-- a mark with these bytes more, each as a word
abbrev pub marked_bytes : ℕ → List ℕ → ℕ
marked_bytes mark [] = mark
marked_bytes mark (byte ∷ bytes) = marked_bytes (mark_word mark byte) bytes

-- the share of a page in the fingerprint of its image, by its whole words, the bytes behind them, and its place
unfoldable pub page_mark : ℕ → List ℕ → ℕ
page_mark index page =
    marked_bytes (marked_words (length page / 8) page) (drop (length page / 8 * 8) page)
    * ((index * 2 % 18_446_744_073_709_551_616 + 1) % 18_446_744_073_709_551_616) % 18_446_744_073_709_551_616

-- a page of an image; the last one may be shorter
abbrev pub page_at : ℕ → List ℕ → List ℕ
page_at index image = take 4096 (drop (index * 4096) image)

-- the sum of the first marks
abbrev pub marked_pages : ℕ → List ℕ → ℕ
marked_pages zero image = 0
marked_pages (suc k) image = (marked_pages k image + page_mark k (page_at k image)) % 18_446_744_073_709_551_616

-- the number of an image: the sum over all its pages
unfoldable pub fingerprint : List ℕ → ℕ
fingerprint image = marked_pages (length image / 4096 + min 1 (length image % 4096)) image

-- a fingerprint with the mark of another page in the place of the old one
abbrev pub with_page : ℕ → ℕ → List ℕ → List ℕ → ℕ
with_page id index old new =
    ((id + 18_446_744_073_709_551_616 - page_mark index old) % 18_446_744_073_709_551_616 + page_mark index new)
    % 18_446_744_073_709_551_616

-- two images of one length that differ in one page at most
pub record SameExceptPage (index : ℕ) (old new : List ℕ) : Type 0 where
  pub len : length new ≡ length old
  pub pages : (k : ℕ) → k ≢ index → page_at k new ≡ page_at k old
  pub in_range : index * 4096 < length old

-- The fingerprint of an image with another page is that of the old one with the page's mark exchanged.
abbrev pub FingerprintOfAChange : Type 0
FingerprintOfAChange = (index : ℕ) (old new : List ℕ) → SameExceptPage index old new
    → fingerprint new ≡ with_page (fingerprint old) index (page_at index old) (page_at index new)
