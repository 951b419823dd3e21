-- The shape of some bytes, by where its corners stand.
use Rattle.std.proofs.Common.{◌≡◌, ℕ, ◌+◌, ◌-◌, List, sym, ◌∙◌}
use Rattle.std.specs.Prelude.{◌≢◌, ◌==◌}
use Rattle.std.proofs.lemmas.Bool.{cond-false, cond-true, eq-eqb, ne_eqb}
use Rattle.segment_report.specs.Picture.{box_text, frame_at, frame_text, left_of, outline_text, right_of, rows_text}
use Rattle.segment_report.specs.Picture.{shape_text, top_of, width_in}

-- the corners of this many bytes from an offset on
pub record AreCorners (per from len left right top last : ℕ) : Type 0 where
  pub left_is : left ≡ left_of per from
  pub right_is : right ≡ right_of per (from + len - 1)
  pub top_is : top ≡ top_of per from
  pub last_is : last ≡ top_of per (from + len - 1)

module _ (per from len left right top last : ℕ) (h : AreCorners per from len left right top last) where
  outline : (sort : List ℕ) → outline_text left right top last from len sort ≡ shape_text per from len sort
  outline sort = λ i. outline_text (h.left_is i) (h.right_is i) (h.top_is i) (h.last_is i) from len sort

  -- a shape in one row
  pub one-row : (sort : List ℕ) → top ≡ last → box_text left right top from len sort ≡ shape_text per from len sort
  one-row sort e = sym (cond-true (top == last) (box_text left right top from len sort)
      (rows_text left right top last from len sort) (eq-eqb top last e)) ∙ outline sort

  -- a shape in several rows
  pub many-rows : (sort : List ℕ) → top ≢ last
      → rows_text left right top last from len sort ≡ shape_text per from len sort
  many-rows sort n = sym (cond-false (top == last) (box_text left right top from len sort)
      (rows_text left right top last from len sort) (ne_eqb top last n)) ∙ outline sort

  -- the frame of a shape
  pub framed : frame_at left (width_in left right top last) top ≡ frame_text per from len
  framed = λ i. frame_at (h.left_is i) (width_in (h.left_is i) (h.right_is i) (h.top_is i) (h.last_is i)) (h.top_is i)
