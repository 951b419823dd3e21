-- A segment that is refused more bytes by its region alone may have them in another.
use Rattle.std.proofs.Common.{◌≡◌, refl, sym, subst, ap, ◌∙◌, ℕ, ◌+◌, ◌<◌, Bool, true, false, Option, Some, None, Err}
use Rattle.std.proofs.Common.{arith, nat_lt}
use Rattle.segment_manager.specs.declared.modes.Mode.{Mode}
use Rattle.segment_manager.specs.Directory.{Directory}
use Rattle.segment_manager.specs.State.{IsSegment, SegmentState, DenotesCurrent}
use Rattle.segment_manager.specs.Step.{is_read_only}
use Rattle.grow_shrink.specs.declared.refusals.GrowError.{GrowError}
use Rattle.grow_shrink.specs.declared.refusals.GrowError.TheVariants.{ReadOnly, BadGrow, TooLarge, RegionTooSmall}
use Rattle.grow_shrink.specs.Resized.{IsRefusedBy, growth_refusal, room_of}
use Rattle.grow_shrink.specs.LargerRegion.{IsShortOfRoom, growth_reason}
use Rattle.grow_shrink.proofs.resizing.Refusals.{by_none, first_of, good-long, good-whole, is_bad, not-large}
use Rattle.grow_shrink.proofs.resizing.Refusals.{stands-size}

-- the reasons before the region's, none of which holds
record AreNot (a b c : Bool) : Type 0 where
  reading : a ≡ false
  bad : b ≡ false
  large : c ≡ false

region_alone : (a b c e : Bool) → Some RegionTooSmall ≡ first_of a b c e → AreNot a b c × (e ≡ true)
region_alone true b c e h = absurd (cc)
region_alone false true c e h = absurd (cc)
region_alone false false true e h = absurd (cc)
region_alone false false false true h = (record { reading = refl; bad = refl; large = refl }, refl)
region_alone false false false false h = absurd (cc)

below : (a b : ℕ) → nat_lt a b ≡ true → a < b
below a b e = grind arith

not_less : (a : ℕ) → nat_lt a a ≡ false
not_less a = grind arith

-- no reason holds in a region as long as is wanted
may_grow : (mode : Mode) (size extra : ℕ) → AreNot (is_read_only mode) (is_bad extra) (nat_lt 1073741824 (size + extra))
    → growth_reason mode size extra ≡ None
may_grow mode size extra h = by_none mode size extra (size + extra) h.reading h.bad h.large (not_less (size + extra))

module _ (s : SegmentState) (extra : ℕ) (why : GrowError) (is : why ≡ RegionTooSmall)
    (refused : IsRefusedBy s (Err why) (λ d. growth_refusal s.mode d.size extra (room_of s.cut))) where
  are_short : (d : Directory) → DenotesCurrent s.cut.bytes d
      → AreNot (is_read_only s.mode) (is_bad extra) (nat_lt 1073741824 (d.size + extra))
      × (nat_lt (room_of s.cut) (d.size + extra) ≡ true)
  are_short d h = region_alone (is_read_only s.mode) (is_bad extra) (nat_lt 1073741824 (d.size + extra))
      (nat_lt (room_of s.cut) (d.size + extra)) (ap (λ (e : GrowError). Some e) (sym is) ∙ refused.refused d h)

  -- a segment that is refused by its region alone is short of room
  pub short_of_room : IsSegment s.cut.bytes → IsShortOfRoom s extra
  short_of_room (d, h) =
      let none = (are_short d h).0 in
      let beyond = below (room_of s.cut) (d.size + extra) (are_short d h).1 in
      let low = not-large d.size extra none.large in
      let size = stands-size s.cut.bytes d h in
      record {
        writing = none.reading;
        long = good-long extra none.bad;
        whole = good-whole extra none.bad;
        small = omega arith;
        may = record { may = λ e k. may_grow s.mode e.size extra (are_short e k).0 };
        short = subst (λ (n : ℕ). room_of s.cut < n + extra) size beyond;
      }
