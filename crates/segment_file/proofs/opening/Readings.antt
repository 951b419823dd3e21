-- Why the front of an image, or the rest of it, is not read, or there is no memory for its region.
use Rattle.std.proofs.Common.{◌≡◌, ◌<◌, ◌≤◌, ◌+◌, ℕ, inl, inr, List, length, max, None, refl, sym}
use Rattle.std.proofs.Common.{subst, ◌∙◌, arith}
use Rattle.std.proofs.Math.Nat.{le-max_left, le-max_right}
use Rattle.std.proofs.lemmas.Bool.{lt-ltb}
use Rattle.raw_region.specs.Device.{AppendsBytes, ReaderHistory, ReadDelta, read_delta}
use Rattle.raw_region.specs.Refusals.{out_of_memory_of}
use Rattle.image_check.specs.declared.classes.ImageClass.{ImageClass}
use Rattle.image_check.specs.declared.classes.ImageClass.TheVariants.{BadSize, Truncated}
use Rattle.image_check.specs.declared.errors.MemoryFault.{MemoryFault}
use Rattle.image_check.specs.declared.errors.MemoryFault.TheVariants.{Bytes}
use Rattle.image_check.specs.declared.errors.OpenError.{OpenError}
use Rattle.image_check.specs.declared.errors.OpenError.TheVariants.{Image, OutOfMemory, ReadFault, RegionTooSmall}
use Rattle.image_check.specs.declared.versions.AcceptedVersions.{AcceptedVersions}
use Rattle.image_check.specs.Deciding.{decided}
use Rattle.image_check.specs.Formats.{format_in}
use Rattle.image_check.specs.Opening.{IsRefusedAs}
use Rattle.image_check.specs.Verdicts.{Shows}
use Rattle.image_check.proofs.Facts.{all_decided}
use Rattle.grow_shrink.specs.LargerRegion.{region_len}
use Rattle.segment_disk.specs.Events.{nothing_given}
use Rattle.segment_file.specs.Opening.{IsUnopened, IsUnopenedBy, largest_request}
use Rattle.segment_file.specs.ReadingOn.{IsWhyNotUpTo, IsWhyNotWhole, Says, said_by}
use Rattle.segment_file.proofs.opening.Fronts.{ends-early, few-undecided, goes-past, said-most, said-says, said-stays}
use Rattle.segment_file.proofs.opening.Fronts.{says-stays, shown-is, undecided}
use Rattle.segment_file.proofs.opening.Rooms.{region-grows, region-holds}

module _ (format most : ℕ) (gave : ReaderHistory) (none : decided format gave.bytes ≡ None) where
  abbrev image : ReadDelta
  image = read_delta nothing_given gave

  -- memory was refused before a class was decided
  pub unkept : (asked : ℕ) → gave.failures ≡ 0 → asked ≤ most
      → IsUnopened format most image (OutOfMemory (Bytes (out_of_memory_of asked)))
  unkept asked sound within = record {
    unfit = record {
      yet = record { sound = rw sound refl; undecided = none };
      asked = asked;
      within = within;
      refused = refl;
    };
    shown = tt;
  }

  -- and so did a read fail
  broken : 0 < gave.failures → IsUnopened format most image ReadFault
  broken failed = record {
    unfit = record {
      failed = lt-ltb 0 gave.failures failed;
      open_class = (all_decided format gave.bytes).none none;
    };
    shown = tt;
  }

  -- more bytes were wanted of the reader
  pub not-up-to : (said : ℕ) (why : OpenError) → length gave.bytes ≤ most → IsWhyNotUpTo said gave why
      → IsUnopened format most image why
  not-up-to said (Image v) fits w = absurd w
  not-up-to said RegionTooSmall fits w = absurd w
  not-up-to said (OutOfMemory refusal) fits u =
      subst (λ (m : MemoryFault). IsUnopened format most image (OutOfMemory m)) (sym u.refused)
      (unkept (length gave.bytes) u.sound fits)
  not-up-to said ReadFault fits b = broken b.failed

-- ---- the front, and the rest of an image that says more than was told

module _ (versions : AcceptedVersions) (len more : ℕ) (gave : ReaderHistory) where
  abbrev kind : ℕ
  kind = format_in versions gave.bytes

  abbrev most : ℕ
  most = largest_request len more gave.bytes

  -- a request for the bytes that were read is no larger
  read-fits : length gave.bytes ≤ 1073741824 → length gave.bytes ≤ most
  read-fits few =
      let read = le-max_right len (length gave.bytes) in
      region-holds (length gave.bytes) (max len (length gave.bytes) + more) few (omega (arith, read))

  -- the front was not read
  pub no-front : (why : OpenError) → IsWhyNotUpTo 24 gave why
      → IsUnopenedBy versions len more (read_delta nothing_given gave) why
  no-front (Image v) w = absurd w
  no-front RegionTooSmall w = absurd w
  no-front (OutOfMemory refusal) u =
      not-up-to kind most gave (few-undecided kind gave.bytes (let few = u.few in omega (arith, few))) 24
      (OutOfMemory refusal) (read-fits (let few = u.few in omega (arith, few))) u
  no-front ReadFault b =
      not-up-to kind most gave (few-undecided kind gave.bytes (let few = b.few in omega (arith, few))) 24 ReadFault
      (read-fits (let few = b.few in omega (arith, few))) b

  -- there was no memory for the region of what says no more than was told
  pub no-region : length gave.bytes ≤ 24 → gave.failures ≡ 0
      → IsUnopenedBy versions len more (read_delta nothing_given gave)
      (OutOfMemory (Bytes (out_of_memory_of (region_len (len + more)))))
  no-region few sound =
      let told = le-max_left len (length gave.bytes) in
      unkept kind most gave (few-undecided kind gave.bytes (omega (arith, few))) (region_len (len + more)) sound
      (region-grows (len + more) (max len (length gave.bytes) + more) (omega (arith, told)))

  module _ (front : List ℕ) (grows : AppendsBytes front gave.bytes) (said : ℕ) (is : said
      ≡ said_by versions front) (told : len < said) where
    says : Says (format_in versions front) front said
    says = subst (Says (format_in versions front) front) (sym is) (said-says versions front (omega (arith, told, is)))

    says-on : Says kind gave.bytes said
    says-on = says-stays front gave.bytes grows says.long versions said says

    within-most : length gave.bytes ≤ said → length gave.bytes ≤ most
    within-most few =
        let most_said = said-most kind gave.bytes said says-on in read-fits (omega (arith, most_said, few))

    none-yet : length gave.bytes ≤ said → decided kind gave.bytes ≡ None
    none-yet few = undecided kind gave.bytes said says-on few

    -- the rest was not read, or there is more than was said
    pub no-rest : (why : OpenError) → IsWhyNotWhole said gave why
        → IsUnopenedBy versions len more (read_delta nothing_given gave) why
    no-rest (Image v) (inl t) = record {
      unfit = subst (λ (c : ImageClass). IsRefusedAs kind (read_delta nothing_given gave) c) (sym t.0)
          (record {
            sound = let sound = t.2.sound in rw sound refl;
            right = inr ((all_decided kind gave.bytes).some BadSize (goes-past kind gave.bytes said says-on t.2.long));
          });
      shown = subst (λ (c : ImageClass). Shows kind gave.bytes c v.place) (sym t.0)
          (t.1 ∙ sym (shown-is kind gave.bytes said says-on));
    }
    no-rest (Image v) (inr t) = record {
      unfit = subst (λ (c : ImageClass). IsRefusedAs kind (read_delta nothing_given gave) c) (sym t.0)
          (record {
            sound = let sound = t.2.sound in rw sound refl;
            right = inl (t.2.ended, ends-early kind gave.bytes said says-on t.2.short);
          });
      shown = subst (λ (c : ImageClass). Shows kind gave.bytes c v.place) (sym t.0) t.1;
    }
    no-rest RegionTooSmall w = absurd w
    no-rest (OutOfMemory refusal) u =
        not-up-to kind most gave (none-yet u.few) said (OutOfMemory refusal) (within-most u.few) u
    no-rest ReadFault b = not-up-to kind most gave (none-yet b.few) said ReadFault (within-most b.few) b

    -- all of it was read, and there was no memory for its region
    pub no-larger : length gave.bytes ≡ said → gave.failures ≡ 0
        → IsUnopenedBy versions len more (read_delta nothing_given gave)
        (OutOfMemory (Bytes (out_of_memory_of (region_len (said + more)))))
    no-larger whole sound =
        let read = le-max_right len (length gave.bytes) in
        unkept kind most gave (none-yet (omega (arith, whole))) (region_len (said + more)) sound
        (region-grows (said + more) (max len (length gave.bytes) + more) (omega (arith, read, whole)))

    -- the text that was read whole says as much as its front
    pub said-whole : said_by versions gave.bytes ≡ said
    said-whole = said-stays front gave.bytes grows says.long versions ∙ sym is
