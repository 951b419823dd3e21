-- How a payload is written, and what it makes of an image.
use Rattle.std.proofs.Common.{◌≡◌, inl, inr, ℕ, zero, suc, ◌+◌, ◌-◌, ◌^◌, ◌<◌, ◌≤◌, List, [], ◌++◌, length, take, drop}
use Rattle.std.proofs.Common.{refl, sym, ◌∙◌, ap}
use Rattle.std.proofs.Common.{arith, append_assoc, length-append, length-drop, take-append-drop}
use Rattle.std.proofs.Common.{Bool, Option, Some, None, cond, nat_lt, nat_le, ◌&&◌, ◌==◌, true, false}
use Rattle.std.proofs.lemmas.List.{append-nil, take_at, drop_at, take_all, drop_all, take-take, drop-drop, drop-take}
use Rattle.std.proofs.lemmas.List.{take-append-le, length-take, length-take-le}
use Rattle.std.proofs.lemmas.Bool.{cases_lt, le-ltb, lt-ltb, le-leb, eq-eqb}
use Rattle.segment_log.specs.Records.{number_of, number_bytes, zeros}
use Rattle.segment_log.specs.Edits.{put, resized, next_edit, edit_text, edited, applied, WritesTo}
use Rattle.segment_log.proofs.records.Pieces.{length-zeros, zeros_split}
use Rattle.segment_log.proofs.records.Reading.{length-number, number_back}
use Rattle.segment_log.proofs.edits.Reading.{edited_some, edited_none}
use Rattle.segment_log.specs.Tags.{tag_text, tag_in, tag_of, base_of, after_of, names_base, names_image}
use Rattle.segment_log.proofs.edits.Twice.{put_in, put_out, length-resized}

-- ---- one edit is read back

read_if : (short : Bool) (at n : ℕ) (behind bytes rest : List ℕ) (a : ℕ) → short ≡ false → at ≡ a
    → take n behind ≡ bytes → drop n behind ≡ rest
    → cond {A = Option (ℕ × List ℕ × List ℕ)} short None (Some (at, take n behind, drop n behind)) ≡ Some
    (a, bytes, rest)
read_if true at n behind bytes rest a whole p q r = absurd (cc (whole))
read_if false at n behind bytes rest a whole p q r = λ i. Some (p i, q i, r i)

three : (a b c d : List ℕ) → (a ++ b ++ c) ++ d ≡ a ++ (b ++ (c ++ d))
three a b c d = simp append_assoc

pub edit_back : (at : ℕ) (bytes tail : List ℕ) → at < 256 ^ 8 → length bytes < 256 ^ 8
    → next_edit (edit_text at bytes ++ tail) ≡ Some (at, bytes, tail)
edit_back at bytes tail small few =
    let text : List ℕ = number_bytes at ++ (number_bytes (length bytes) ++ (bytes ++ tail)) in
    let behind : drop 8 text ≡ number_bytes (length bytes) ++ (bytes ++ tail) =
    drop_at (number_bytes at) (number_bytes (length bytes) ++ (bytes ++ tail)) 8 (length-number at) in
    let number : number_of (drop 8 text) ≡ length bytes = ap number_of behind
    ∙ number_back (length bytes) (bytes ++ tail) few in
    let sixteen : drop 16 text ≡ bytes ++ tail = sym (drop-drop 8 8 text) ∙ ap (λ (l : List ℕ). drop 8 l) behind
    ∙ drop_at (number_bytes (length bytes)) (bytes ++ tail) 8 (length-number (length bytes)) in
    let len : length text ≡ 16 + (length bytes + length tail) =
    omega (
      arith,
      length-append (number_bytes at) (number_bytes (length bytes) ++ (bytes ++ tail)),
      length-append
          (number_bytes (length bytes)) (bytes ++ tail),
      length-append bytes tail,
      length-number at,
      length-number
          (length bytes),
    ) in
    ap next_edit (three (number_bytes at) (number_bytes (length bytes)) bytes tail)
    ∙ read_if (nat_lt (length text) (16 + number_of (drop 8 text))) (number_of text) (number_of (drop 8 text))
    (drop 16 text) bytes tail at
    (le-ltb _ _ (omega (arith, len, number))) (number_back at (number_bytes (length bytes) ++ (bytes ++ tail)) small)
    ((λ i. take (number i) (sixteen i)) ∙ take_at bytes tail (length bytes) refl)
    ((λ i. drop (number i) (sixteen i)) ∙ drop_at bytes tail (length bytes) refl)

-- ---- zeros behind the edits

eight_zeros : number_bytes 0 ≡ zeros 8
unfolding number_bytes zeros
eight_zeros = refl

zero_edit : (n : ℕ) → zeros (16 + n) ≡ edit_text 0 [] ++ zeros n
zero_edit n =
    zeros_split 16 n
    ∙ ap (λ (l : List ℕ). l ++ zeros n)
    (zeros_split 8 8 ∙ (λ i. sym eight_zeros i ++ sym eight_zeros i)
    ∙ sym (append-nil (number_bytes 0 ++ number_bytes 0)))

none_short : (n : ℕ) → n < 16 → next_edit (zeros n) ≡ None
none_short n short =
    ap (λ b. cond {A = Option (ℕ × List ℕ × List ℕ)} b None (Some (
      number_of (zeros n),
      take (number_of (drop 8 (zeros n))) (drop 16 (zeros n)),
      drop (number_of (drop 8 (zeros n))) (drop 16 (zeros n)),
    ))) (lt-ltb _ _ (omega (arith, length-zeros n)))

-- zeros change no image
zeros_change : (k n : ℕ) (image : List ℕ) → n ≤ k → edited (zeros n) image ≡ image
zeros_change zero n image few = edited_none (zeros n) image (none_short n (omega arith))
zeros_change (suc k) n image few = elim (cases_lt n 16) [
  | inl short ↦ edited_none (zeros n) image (none_short n short)
  | inr long ↦
      let sum : n ≡ 16 + (n - 16) = omega arith in
      ap (λ m. edited (zeros m) image) sum
      ∙ ap (λ (l : List ℕ). edited l image) (zero_edit (n - 16))
      ∙ edited_some (edit_text 0 [] ++ zeros (n - 16)) image 0 [] (zeros (n - 16))
      (edit_back 0 [] (zeros (n - 16)) (omega arith) (omega arith))
      ∙ ap (λ (l : List ℕ). edited (zeros (n - 16)) l) (put_in 0 [] image (omega arith))
      ∙ zeros_change k (n - 16) image (omega arith)
]

-- ---- parts of a list

cut_prefix : (xs : List ℕ) (at end : ℕ) → at ≤ end → take end xs ≡ take at xs ++ take (end - at) (drop at xs)
cut_prefix xs at end le =
    let sum : at + (end - at) ≡ end = omega arith in
    sym (take-append-drop at (take end xs))
    ∙ (λ i. take-take at end xs le i ++ (ap (λ (k : ℕ). drop at (take k xs)) (sym sum) ∙ drop-take at (end - at) xs) i)

cut_back : (xs : List ℕ) (at end : ℕ) → at ≤ end → drop at xs ≡ take (end - at) (drop at xs) ++ drop end xs
cut_back xs at end le =
    let sum : at + (end - at) ≡ end = omega arith in
    sym (take-append-drop (end - at) (drop at xs))
    ∙ ap (λ (l : List ℕ). take (end - at) (drop at xs) ++ l) (drop-drop (end - at) at xs
    ∙ ap (λ (k : ℕ). drop k xs) sum)

part_alike : (xs ys : List ℕ) (at end : ℕ) → at ≤ end → take end xs ≡ take end ys
    → take (end - at) (drop at xs) ≡ take (end - at) (drop at ys)
part_alike xs ys at end le same =
    let sum : at + (end - at) ≡ end = omega arith in
    sym (drop-take at (end - at) xs) ∙ ap (λ (k : ℕ). drop at (take k xs)) sum ∙ ap (λ (l : List ℕ). drop at l) same
    ∙ ap (λ (k : ℕ). drop at (take k ys)) (sym sum) ∙ drop-take at (end - at) ys

-- ---- the images on the way

-- new as far as this, and the old image, of the new length, from there on
abbrev pub midway : List ℕ → List ℕ → ℕ → List ℕ
midway old new at = take at new ++ drop at (resized (length new) old)

module _ (old new : List ℕ) where
  abbrev first : List ℕ
  first = resized (length new) old

  length-first : length first ≡ length new
  length-first = length-resized (length new) old

  length-midway : (at : ℕ) → at ≤ length new → length (midway old new at) ≡ length new
  length-midway at le =
      omega
      (arith, length-append (take at new) (drop at first), length-take-le at new le, length-drop at first, length-first)

  -- a part that is put
  pub put_part : (at end : ℕ) → at ≤ end → end ≤ length new
      → put at (take (end - at) (drop at new)) (midway old new at) ≡ midway old new end
  put_part at end le within =
      let bytes : List ℕ = take (end - at) (drop at new) in
      let size : length bytes ≡ end - at =
      length-take-le (end - at) (drop at new) (omega (arith, length-drop at new)) in
      let prefix_len : length (take at new) ≡ at = length-take-le at new (omega arith) in
      let sum : at + length bytes ≡ end = omega (arith, size) in
      let prefix : take at (midway old new at) ≡ take at new = take_at (take at new) (drop at first) at prefix_len in
      let back : drop end (midway old new at) ≡ drop end first =
      ap (λ (k : ℕ). drop k (midway old new at)) (let s : end ≡ at + (end - at) = omega arith in s)
      ∙ sym (drop-drop (end - at) at (midway old new at))
      ∙ ap (λ (l : List ℕ). drop (end - at) l) (drop_at (take at new) (drop at first) at prefix_len)
      ∙ drop-drop (end - at) at first
      ∙ ap (λ (k : ℕ). drop k first) (let s : at + (end - at) ≡ end = omega arith in s) in
      put_in at bytes (midway old new at) (omega (arith, sum, length-midway at (omega arith)))
      ∙ (λ i. prefix i ++ (bytes ++ drop (sum i) (midway old new at)))
      ∙ ap (λ (l : List ℕ). take at new ++ (bytes ++ l)) back
      ∙ sym (append_assoc (take at new) bytes (drop end first))
      ∙ ap (λ (l : List ℕ). l ++ drop end first) (sym (cut_prefix new at end le))

  -- a part that is the same
  pub same_part : (at end : ℕ) → at ≤ end → end ≤ length new → end ≤ length old
      → take (end - at) (drop at old) ≡ take (end - at) (drop at new) → midway old new at ≡ midway old new end
  same_part at end le within there same =
      let alike : take end first ≡ take end old =
      take-append-le end (take (length new) old) (zeros (length new - length old))
      (omega (arith, length-take (length new) old)) ∙ take-take end (length new) old within in
      let part : take (end - at) (drop at first) ≡ take (end - at) (drop at new) = part_alike first old at end le alike
      ∙ same in
      ap (λ (l : List ℕ). take at new ++ l) (cut_back first at end le ∙ ap (λ (l : List ℕ). l ++ drop end first) part)
      ∙ sym (append_assoc (take at new) (take (end - at) (drop at new)) (drop end first))
      ∙ ap (λ (l : List ℕ). l ++ drop end first) (sym (cut_prefix new at end le))

  pub midway_starts : midway old new 0 ≡ first
  midway_starts = refl

  pub midway_ends : (at : ℕ) → length new ≤ at → midway old new at ≡ new
  midway_ends at le =
      (λ i. take_all at new le i ++ drop_all at first (omega (arith, length-first)) i) ∙ append-nil new

  -- ---- the payload

  -- a payload without an edit makes the old image of the new length
  pub writes_first : (payload : List ℕ) (base after : ℕ) → length new < 256 ^ 8
      → payload ≡ number_bytes (length new) ++ tag_text base after
      → WritesTo (length new) first (midway old new 0) payload
  writes_first payload base after few is =
      let tag : List ℕ = number_bytes base ++ number_bytes after in
      let size : length tag ≡ 16 =
      omega
      (arith, length-append (number_bytes base) (number_bytes after), length-number base, length-number after) in
      record {
        text = tag_text base after;
        split = is;
        makes = λ tail.
            edited_some (tag_text base after ++ tail) first 18_446_744_073_709_551_615 tag tail
            (edit_back 18_446_744_073_709_551_615 tag tail (omega arith) (omega (arith, size)))
            ∙ ap (λ (l : List ℕ). edited tail l)
            (put_out 18_446_744_073_709_551_615 tag first (omega (arith, size, length-first)));
      }

  -- an edit more makes the new image as far as its end
  pub writes_part : (payload more : List ℕ) (at end : ℕ) → at ≤ end → end ≤ length new → length new < 256 ^ 8
      → WritesTo (length new) first (midway old new at) payload
      → more ≡ payload ++ edit_text at (take (end - at) (drop at new))
      → WritesTo (length new) first (midway old new end) more
  writes_part payload more at end le within few so_far is =
      let bytes : List ℕ = take (end - at) (drop at new) in
      let size : length bytes ≡ end - at =
      length-take-le (end - at) (drop at new) (omega (arith, length-drop at new)) in
      record {
        text = so_far.text ++ edit_text at bytes;
        split = is ∙ ap (λ (l : List ℕ). l ++ edit_text at bytes) so_far.split
            ∙ append_assoc (number_bytes (length new)) so_far.text (edit_text at bytes);
        makes = λ tail.
            ap (λ (l : List ℕ). edited l first) (append_assoc so_far.text (edit_text at bytes) tail)
            ∙ so_far.makes (edit_text at bytes ++ tail)
            ∙ edited_some (edit_text at bytes ++ tail) (midway old new at) at bytes tail
            (edit_back at bytes tail (omega arith) (omega (arith, size)))
            ∙ ap (λ (l : List ℕ). edited tail l) (put_part at end le within);
      }

  -- a part that both images share needs no edit
  pub writes_same : (payload : List ℕ) (at end : ℕ) → midway old new at ≡ midway old new end
      → WritesTo (length new) first (midway old new at) payload
      → WritesTo (length new) first (midway old new end) payload
  writes_same payload at end same so_far =
      record {
        text = so_far.text;
        split = so_far.split;
        makes = λ tail. so_far.makes tail
            ∙ ap (λ (l : List ℕ). edited tail l) same;
      }

  -- the whole payload makes the new image, with the zeros that fill it up
  pub writes_last : (payload filled : List ℕ) (at n : ℕ) → length new ≤ at → length new < 256 ^ 8
      → filled ≡ payload ++ zeros n → WritesTo (length new) first (midway old new at) payload → applied filled old ≡ new
  writes_last payload filled at n le few is all =
      let eight = length-number (length new) in
      let rest : List ℕ = all.text ++ zeros n in
      let split : filled ≡ number_bytes (length new) ++ rest =
      is ∙ ap (λ (l : List ℕ). l ++ zeros n) all.split ∙ append_assoc (number_bytes (length new)) all.text (zeros n) in
      let long : 8 ≤ length filled =
      omega (arith, ap length split, length-append (number_bytes (length new)) rest, eight) in
      let size : number_of filled ≡ length new = ap number_of split ∙ number_back (length new) rest few in
      let text : drop 8 filled ≡ rest = ap (λ (l : List ℕ). drop 8 l) split
      ∙ drop_at (number_bytes (length new)) rest 8 eight in
      ap (λ b. cond b old (edited (drop 8 filled) (resized (number_of filled) old))) (le-ltb _ _ long)
      ∙ (λ i. edited (text i) (resized (size i) old))
      ∙ all.makes (zeros n)
      ∙ zeros_change n n (midway old new at) (omega arith)
      ∙ midway_ends at le

-- ---- the tag of a payload

-- the payload begins with this length and this tag
pub record IsTagged (size base after : ℕ) (payload : List ℕ) : Type 0 where
  pub more : List ℕ
  pub split : payload ≡ number_bytes size ++ (tag_text base after ++ more)

-- a payload that was begun has its tag
pub tagged_first : (size base after : ℕ) (payload : List ℕ) → payload ≡ number_bytes size ++ tag_text base after
    → IsTagged size base after payload
tagged_first size base after payload is =
    record {
      more = [];
      split = is
          ∙ ap (λ (l : List ℕ). number_bytes size ++ l) (sym (append-nil (tag_text base after)));
    }

-- a payload with an edit more keeps its tag
pub tagged_more : (size base after : ℕ) (payload next part : List ℕ) → IsTagged size base after payload
    → next ≡ payload ++ part → IsTagged size base after next
tagged_more size base after payload next part tagged is = record {
  more = tagged.more ++ part;
  split = is ∙ ap (λ (l : List ℕ). l ++ part) tagged.split
      ∙ append_assoc (number_bytes size) (tag_text base after ++ tagged.more) part
      ∙ ap (λ (l : List ℕ). number_bytes size ++ l) (append_assoc (tag_text base after) tagged.more part);
}

-- ---- how long it is

length-edit : (at : ℕ) (bytes : List ℕ) → length (edit_text at bytes) ≡ 16 + length bytes
length-edit at bytes =
    let head : List ℕ = number_bytes at ++ number_bytes (length bytes) in
    let is : length (edit_text at bytes) ≡ length (head ++ bytes) = refl in
    omega (
      arith,
      is,
      length-append head bytes,
      length-append (number_bytes at) (number_bytes (length bytes)),
      length-number at,
      length-number (length bytes),
    )

-- with no edit yet, its length and the tag
pub few_first : (size base after : ℕ) (payload : List ℕ) → payload ≡ number_bytes size ++ tag_text base after
    → length payload ≡ 40
few_first size base after payload is =
    let tag : List ℕ = number_bytes base ++ number_bytes after in
    let tag_len : length tag ≡ 16 =
    omega (
      arith,
      length-append (number_bytes base) (number_bytes after),
      length-number base,
      length-number after,
    ) in
    let same : length (tag_text base after) ≡ length (edit_text 18_446_744_073_709_551_615 tag) = refl in
    omega (
      arith,
      ap length is,
      same,
      length-append (number_bytes size) (tag_text base after),
      length-number size,
      length-edit 18_446_744_073_709_551_615 tag,
      tag_len,
    )

-- with an edit more
pub few_more : (new payload more : List ℕ) (at end : ℕ) → at ≤ end → end ≤ length new
    → more ≡ payload ++ edit_text at (take (end - at) (drop at new))
    → length more ≡ length payload + 16 + (end - at)
few_more new payload more at end le within is =
    let bytes : List ℕ = take (end - at) (drop at new) in
    let size : length bytes ≡ end - at =
    length-take-le (end - at) (drop at new) (omega (arith, length-drop at new)) in
    omega (arith, ap length is, length-append payload (edit_text at bytes), length-edit at bytes, size)

module _ (size base after : ℕ) (payload : List ℕ) (tagged : IsTagged size base after payload) where
  abbrev tag : List ℕ
  tag = number_bytes base ++ number_bytes after

  tag_size : length tag ≡ 16
  tag_size =
      omega (arith, length-append (number_bytes base) (number_bytes after), length-number base, length-number after)

  behind_size : drop 8 payload ≡ tag_text base after ++ tagged.more
  behind_size = ap (λ (l : List ℕ). drop 8 l) tagged.split
      ∙ drop_at (number_bytes size) (tag_text base after ++ tagged.more) 8 (length-number size)

  first_edit : next_edit (drop 8 payload) ≡ Some (18_446_744_073_709_551_615, tag, tagged.more)
  first_edit = ap next_edit behind_size
      ∙ edit_back 18_446_744_073_709_551_615 tag tagged.more (omega arith) (omega (arith, tag_size))

  tag_is : tag_of payload ≡ tag
  tag_is =
      let long : 8 ≤ length payload =
      omega (
        arith,
        ap length tagged.split,
        length-append (number_bytes size) (tag_text base after ++ tagged.more),
        length-number size,
      ) in
      ap (λ b. cond {A = List ℕ} b (tag_in (next_edit (drop 8 payload))) []) (le-leb 8 (length payload) long)
      ∙ ap tag_in first_edit

  pub base_is : base < 256 ^ 8 → base_of payload ≡ base
  base_is small = ap number_of tag_is ∙ number_back base (number_bytes after) small

  pub after_is : after < 256 ^ 8 → after_of payload ≡ after
  after_is small =
      ap (λ (l : List ℕ). number_of (drop 8 l)) tag_is
      ∙ ap number_of (drop_at (number_bytes base) (number_bytes after) 8 (length-number base)
      ∙ sym (append-nil (number_bytes after)))
      ∙ number_back after [] small

  -- the tag names the file
  pub names_its_base : base < 256 ^ 8 → names_base base payload ≡ true
  unfolding names_base
  names_its_base small = (λ i. nat_le 16 (length (tag_is i)) && (base_is small i == base))
      ∙ (λ i. le-leb 16 (length tag) (omega (arith, tag_size)) i && eq-eqb base base refl i)

  -- the tag names the new image
  pub names_its_image : after < 256 ^ 8 → names_image after payload ≡ true
  unfolding names_image
  names_its_image small = (λ i. nat_le 16 (length (tag_is i)) && (after_is small i == after))
      ∙ (λ i. le-leb 16 (length tag) (omega (arith, tag_size)) i && eq-eqb after after refl i)
