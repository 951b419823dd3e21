-- Why a segment does not grow, from what is asked of it.
use Rattle.std.proofs.Common.{◌≡◌, refl, sym, ap, ◌∙◌, ℕ, ◌+◌, ◌%◌, ◌<◌, ◌≤◌, Bool, true, false, ◌&&◌, ◌||◌, not}
use Rattle.std.proofs.Common.{Option, Some, None, Ok, Err, List, ◌++◌, length, arith, nat_lt, ◌==◌, if◌then◌else◌}
use Rattle.std.proofs.lemmas.Bool.{eqb-true, false≢true, le-ltb, lt-ltb}
use Rattle.std.proofs.lemmas.List.{length-append}
use Rattle.raw_region.specs.Memory.{WindowState}
use Rattle.seg_types.specs.Commands.{Size, is_changing}
use Rattle.segment_manager.specs.declared.modes.Mode.{Mode}
use Rattle.segment_manager.specs.Answers.{Number}
use Rattle.segment_manager.specs.Directory.{Directory, live}
use Rattle.segment_manager.specs.Plan.{Refuse, perform}
use Rattle.seg_types.specs.declared.refusals.Refusal.TheVariants.{ReadOnly as Reading}
use Rattle.segment_manager.specs.blocks.Resized.{room_behind}
use Rattle.segment_manager.specs.State.{AnswersQuery, DenotesCurrent, SegmentState}
use Rattle.segment_manager.specs.Step.{effect, is_read_only, step}
use Rattle.segment_manager.proofs.Laws.{live-size}
use Rattle.grow_shrink.specs.declared.refusals.GrowError.{GrowError}
use Rattle.grow_shrink.specs.declared.refusals.GrowError.TheVariants.{ReadOnly, BadGrow, TooLarge, RegionTooSmall}
use Rattle.grow_shrink.specs.Resized.{IsRefusedBy, growth_refusal, room_of, shrink_refusal}

-- ---- the size that is answered

size-said : (mode : Mode) (d : Directory) → is_read_only mode ≡ false → (step mode d Size).0 ≡ Number d.size
unfolding step
size-said mode d e = λ i. (perform d (live d) (if e i && is_changing Size then Refuse Reading else effect d Size)).0

same_number : (a b : ℕ) → Number a ≡ Number b → a ≡ b
same_number a b e = cc

-- it is that of each directory
pub size-is : (s : SegmentState) (size : ℕ) → is_read_only s.mode ≡ false → AnswersQuery s Size (Number size)
    → (d : Directory) → DenotesCurrent s.cut.bytes d → size ≡ d.size
size-is s size e r d h = same_number size d.size (r.answers d h ∙ size-said s.mode d e)

-- ---- the first reason

-- the first reason of four
abbrev pub first_of : Bool → Bool → Bool → Bool → Option GrowError
first_of a b c e = if a then Some ReadOnly else if b then Some BadGrow else if c then Some TooLarge else if e then
    Some RegionTooSmall else None

-- whether the growth is no growth
abbrev pub is_bad : ℕ → Bool
is_bad extra = nat_lt extra 32 || not (extra % 16 == 0)

module _ (mode : Mode) (size extra room : ℕ) where
  pub by_reading : is_read_only mode ≡ true → growth_refusal mode size extra room ≡ Some ReadOnly
  by_reading e = λ i. first_of (e i) (is_bad extra) (nat_lt 1073741824 (size + extra)) (nat_lt room (size + extra))

  pub by_bad : is_read_only mode ≡ false → is_bad extra ≡ true → growth_refusal mode size extra room ≡ Some BadGrow
  by_bad e f = λ i. first_of (e i) (f i) (nat_lt 1073741824 (size + extra)) (nat_lt room (size + extra))

  pub by_large : is_read_only mode ≡ false → is_bad extra ≡ false → nat_lt 1073741824 (size + extra) ≡ true
      → growth_refusal mode size extra room ≡ Some TooLarge
  by_large e f g = λ i. first_of (e i) (f i) (g i) (nat_lt room (size + extra))

  pub by_region : is_read_only mode ≡ false → is_bad extra ≡ false → nat_lt 1073741824 (size + extra) ≡ false
      → nat_lt room (size + extra) ≡ true → growth_refusal mode size extra room ≡ Some RegionTooSmall
  by_region e f g h = λ i. first_of (e i) (f i) (g i) (h i)

  -- no reason: the segment is not refused
  pub by_none : is_read_only mode ≡ false → is_bad extra ≡ false → nat_lt 1073741824 (size + extra) ≡ false
      → nat_lt room (size + extra) ≡ false → growth_refusal mode size extra room ≡ None
  by_none e f g h = λ i. first_of (e i) (f i) (g i) (h i)

-- ---- a growth that is one

pub or_false : (a b : Bool) → (a || b) ≡ false → (a ≡ false) × (b ≡ false)
or_false true b e = absurd (false≢true (sym e))
or_false false b e = (refl, e)

not_false : (a : Bool) → not a ≡ false → a ≡ true
not_false true e = refl
not_false false e = absurd (false≢true (sym e))

at_least : (a b : ℕ) → nat_lt a b ≡ false → b ≤ a
at_least a b e = grind arith

-- a size that is no bad one is at least 32
pub good-long : (extra : ℕ) → is_bad extra ≡ false → 32 ≤ extra
good-long extra e = at_least extra 32 (or_false (nat_lt extra 32) (not (extra % 16 == 0)) e).0

-- a size that is no bad one is a multiple of 16
pub good-whole : (extra : ℕ) → is_bad extra ≡ false → extra % 16 ≡ 0
good-whole extra e = eqb-true (extra % 16) 0
    (not_false (extra % 16 == 0) (or_false (nat_lt extra 32) (not (extra % 16 == 0)) e).1)

-- a sum that is not too large is at most 1 GiB
pub not-large : (size extra : ℕ) → nat_lt 1073741824 (size + extra) ≡ false → size + extra ≤ 1073741824
not-large size extra e = at_least 1073741824 (size + extra) e

-- ---- the region

-- a directory's size is that of its bytes
pub stands-size : (b : List ℕ) (d : Directory) → DenotesCurrent b d → d.size ≡ length b
stands-size b d h = sym (h.denotes.heap.size ∙ live-size d)

-- more bytes than the region has after the segment
pub past_region : (c : WindowState) (d : Directory) (extra : ℕ) → DenotesCurrent c.bytes d → room_behind c < extra
    → nat_lt (room_of c) (d.size + extra) ≡ true
past_region c d extra h l =
    let e = stands-size c.bytes d h in
    lt-ltb (room_of c) (d.size + extra) (omega (
      arith,
      length-append (c.before ++ c.bytes) c.after,
      length-append c.before c.bytes,
    ))

-- or as many at most
pub in_region : (c : WindowState) (d : Directory) (extra : ℕ) → DenotesCurrent c.bytes d → extra ≤ room_behind c
    → nat_lt (room_of c) (d.size + extra) ≡ false
in_region c d extra h l =
    let e = stands-size c.bytes d h in
    le-ltb (room_of c) (d.size + extra) (omega (
      arith,
      length-append (c.before ++ c.bytes) c.after,
      length-append c.before c.bytes,
    ))

-- ---- the call is refused, or it is not

module _ (s : SegmentState) (extra : ℕ) where
  abbrev why : Directory → Option GrowError
  why d = growth_refusal s.mode d.size extra (room_of s.cut)

  pub refused_reading : is_read_only s.mode ≡ true
      → IsRefusedBy s (Err ReadOnly) (λ d. growth_refusal s.mode d.size extra (room_of s.cut))
  refused_reading e = record { refused = λ d h. sym (by_reading s.mode d.size extra (room_of s.cut) e) }

  module _ (writing : is_read_only s.mode ≡ false) where
    pub refused_bad : is_bad extra ≡ true
        → IsRefusedBy s (Err BadGrow) (λ d. growth_refusal s.mode d.size extra (room_of s.cut))
    refused_bad f = record { refused = λ d h. sym (by_bad s.mode d.size extra (room_of s.cut) writing f) }

    module _ (good : is_bad extra ≡ false) (size : ℕ) (said : AnswersQuery s Size (Number size)) where
      above_is : (b : Bool) → nat_lt 1073741824 (size + extra) ≡ b → (d : Directory) → DenotesCurrent s.cut.bytes d
          → nat_lt 1073741824 (d.size + extra) ≡ b
      above_is b e d h = ap (λ n. nat_lt 1073741824 (n + extra)) (sym (size-is s size writing said d h)) ∙ e

      pub refused_large : nat_lt 1073741824 (size + extra) ≡ true
          → IsRefusedBy s (Err TooLarge) (λ d. growth_refusal s.mode d.size extra (room_of s.cut))
      refused_large g = record {
        refused = λ d h.
            sym (by_large s.mode d.size extra (room_of s.cut) writing good (above_is true g d h));
      }

      module _ (low : nat_lt 1073741824 (size + extra) ≡ false) where
        pub refused_region : room_behind s.cut < extra
            → IsRefusedBy s (Err RegionTooSmall) (λ d. growth_refusal s.mode d.size extra (room_of s.cut))
        refused_region l = record {
          refused = λ d h.
              sym (by_region s.mode d.size extra (room_of s.cut) writing good (above_is false low d h)
              (past_region s.cut d extra h l));
        }

        pub not_refused : extra ≤ room_behind s.cut
            → IsRefusedBy s (Ok tt) (λ d. growth_refusal s.mode d.size extra (room_of s.cut))
        not_refused l = record {
          refused = λ d h.
              sym (by_none s.mode d.size extra (room_of s.cut) writing good (above_is false low d h)
              (in_region s.cut d extra h l));
        }

        -- what the segment's call needs
        pub grown_small : (d : Directory) → DenotesCurrent s.cut.bytes d → d.size + extra ≤ 1073741824
        grown_small d h = not-large d.size extra (above_is false low d h)

-- ---- the same of shrinking

-- a segment that is only read is not shrunk
pub unshrunk : (s : SegmentState) → is_read_only s.mode ≡ true
    → IsRefusedBy s (Err ReadOnly) (λ d. shrink_refusal s.mode)
unshrunk s e = record { refused = λ d h. (λ i. if (sym e) i then Some ReadOnly else None) }

pub shrunk : (s : SegmentState) → is_read_only s.mode ≡ false → IsRefusedBy s (Ok tt) (λ d. shrink_refusal s.mode)
shrunk s e = record { refused = λ d h. (λ i. if (sym e) i then Some ReadOnly else None) }
