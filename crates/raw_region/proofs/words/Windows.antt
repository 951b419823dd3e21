-- A window's bytes, as its region has them.
use Rattle.std.proofs.Common.{◌≡◌, ℕ, ◌+◌, ◌-◌, ◌≤◌, List, ◌++◌, length, drop, take, refl, sym, ap, ◌∙◌, arith}
use Rattle.std.specs.List.{refill}
use Rattle.std.proofs.lemmas.List.{length-take, take-replicate, drop-replicate}
use Rattle.raw_region.specs.Memory.{WindowState, part, patched, whole, cut_at, zeros}
use Rattle.raw_region.specs.Regions.{with_bytes, IsWindow}
use Rattle.raw_region.proofs.words.Patches.{length-part, part-part, whole-cut_at, cut_at-patched}

-- a window of a region of zeros has zeros
pub all-zeros : (region : List ℕ) (base size : ℕ) → base + size ≤ length region → region ≡ zeros (length region)
    → cut_at region base size ≡ with_bytes (cut_at region base size) (zeros size)
unfolding zeros
all-zeros region base size inside e =
    let n = length region in
    let dropped = ap (λ (l : List ℕ). drop base l) e ∙ drop-replicate {X = ℕ} base n 0 in
    let bytes = ap (λ (l : List ℕ). take size l) dropped
    ∙ take-replicate {X = ℕ} size (n - base) 0 (omega (arith, inside)) in
    ap (λ (l : List ℕ). with_bytes (cut_at region base size) l) bytes

module _ (region : List ℕ) (base size : ℕ) (w : WindowState) (view_is : cut_at region base size
    ≡ w) (window : IsWindow region base size) where
  bytes_are : part region base size ≡ w.bytes
  bytes_are = ap (λ (c : WindowState). c.bytes) view_is

  pub size_is : length w.bytes ≡ size
  size_is = ap (λ (l : List ℕ). length l) (sym bytes_are) ∙ length-part region base size window.inside

  -- the region is the window between what is before and after it
  pub is_whole : region ≡ whole w
  is_whole = sym (whole-cut_at region base size) ∙ ap whole view_is

  -- the window with its old base and another end
  base_is : length w.before ≡ base
  base_is = let inside = window.inside
      in ap (λ (c : WindowState). length c.before) (sym view_is) ∙ omega (arith, length-take base region)

  -- a window of another length, cut out of the same region
  pub resizes : (n : ℕ) → cut_at region base n ≡ cut_at (whole w) (length w.before) n
  resizes n = ap (λ (l : List ℕ). cut_at l base n) is_whole ∙ ap (λ (b : ℕ). cut_at (whole w) b n) (sym base_is)

  -- a region cut anywhere is the same region
  pub stays_whole : (n : ℕ) → whole (cut_at region base n) ≡ whole w
  stays_whole n = whole-cut_at region base n ∙ is_whole

  -- a part of the window is a part of the region
  pub reads : (from len : ℕ) → from + len ≤ length w.bytes → part region (base + from) len ≡ part w.bytes from len
  reads from len h = sym (part-part region base size from len (omega (arith, size_is)))
      ∙ ap (λ (l : List ℕ). part l from len) bytes_are

  pub writes : (new : List ℕ) (from : ℕ) (ws : List ℕ) → from + length ws ≤ length w.bytes
      → new ≡ patched region (base + from) ws
      → cut_at new base size ≡ with_bytes w (patched w.bytes from ws)
  writes new from ws h e =
      ap (λ (l : List ℕ). cut_at l base size) e
      ∙ cut_at-patched region base size from ws window.inside (omega (arith, size_is))
      ∙ ap (λ (c : WindowState). with_bytes c (patched c.bytes from ws)) view_is

  -- bytes of the window that are lent and written are a patch of its bytes
  pub lends : (from len : ℕ) → from + len ≤ length w.bytes → (ws : List ℕ)
      → cut_at (patched region (base + from) (refill len (part region (base + from) len) ws)) base size
      ≡ with_bytes w (patched w.bytes from (refill len (part w.bytes from len) ws))
  lends from len h ws =
      ap (λ (l : List ℕ). cut_at (patched region (base + from) (refill len l ws)) base size) (reads from len h)
      ∙ writes (patched region (base + from) (refill len (part w.bytes from len) ws)) from
      (refill len (part w.bytes from len) ws)
      (omega (arith, length-take len (ws ++ drop (length ws) (part w.bytes from len)))) refl
