-- A load of a dump, where nothing is lacking for its objects, gives a segment.
use Rattle.seg_types.specs.Commands as asked
use Rattle.segment_manager.specs.declared.errors.CreateError.TheVariants as create
use Rattle.segment_dump.proofs.Common.{◌≡◌, ℕ, ◌+◌, ◌*◌, ◌^◌, ◌<◌, ◌≤◌, Bool, true, false, nat_eq, nat_lt, List, []}
use Rattle.segment_dump.proofs.Common.{◌++◌, length, map, Option, Some, None, Result, Ok, Err, if◌then◌else◌, refl, sym}
use Rattle.segment_dump.proofs.Common.{ap, subst, ◌∙◌, arith, IfOk, not, false≢true, ltb-false, eq-eqb, length-append}
use Rattle.segment_dump.proofs.Common.{is_legal_size, Refusal, CreateError, CreateRefused, Write, Done, Number, IsWhy}
use Rattle.segment_dump.proofs.Common.{Directory, empty, shrunk, TakesStep, SegmentState, DenotesCurrent, done_answer}
use Rattle.segment_dump.proofs.Common.{step, Count, DumpPrefix, LoadError, BadSize, RegionTooSmall, NoSpace, LongText}
use Rattle.segment_dump.proofs.Common.{LoadRefused, BuildsAllObjects, HasBuiltItems, Site, CountsDump, IsDumpPrefix}
use Rattle.segment_dump.proofs.Common.{fronted}
use Rattle.segment_dump.proofs.Common.{StandsBuilt, DumpItem, Items, item_of_object, portable, IsRequestedSize}
use Rattle.segment_dump.proofs.Common.{IsRefusalOf, asked_of, refusal_for, all_needs, block_room, prefix_room}
use Rattle.segment_dump.proofs.Common.{item_needs, items_needs, all_items, Succeeds, Takes, dump_text, end_text}
use Rattle.segment_dump.proofs.{Common.items_text, counting.Dumps.is-prefix, texts.Options.never-ok}
use Rattle.segment_dump.proofs.{texts.Options.ok-same, texts.Options.none-some}
use Rattle.segment_dump.proofs.{dumping.ObjectParts.free-is, dumping.ObjectParts.size-is, filling.OneElement.Led}
use Rattle.segment_dump.proofs.{filling.OneElement.led}
use Rattle.segment_dump.proofs.{loading.Judgement.portable-countable, space.OneGap.block-rest, space.OneGap.rest-both}
use Rattle.segment_dump.proofs.{building.NewObjects.items-rest}
use Rattle.std.specs.Prelude.{OnErr}
use Rattle.segment_manager.specs.{Calls.Creates, blocks.Resized.Resizes}
use Rattle.segment_dump.specs.{Comparing.IsNoDumpOf, Succeeding.trimmed}
use Rattle.segment_dump.specs.Succeeding.{HasRequestedSize, JudgesDump, MakesObjects, Sizes, SucceedsOf, Trims, site_of}
use Rattle.segment_dump.proofs.loading.Portable.{needs-all, portable-left}
use Rattle.segment_dump.proofs.building.BuildSteps.{IsFronted, empty-built, fronted as with_names, named-reserved}
use Rattle.segment_dump.proofs.building.BuildSteps.{unique-reserved}
use Rattle.best_fit.specs.Ends.{EndsAt}
use Rattle.raw_region.proofs.Laws.{SameSurroundings-trans}
use Rattle.raw_region.specs.Memory.{SameSurroundings, WindowState, cut_at}
use Rattle.segment_dump.specs.{Building.AreExact, Succeeding.CapacitiesOf, Succeeding.KeepsCapacities}
use Rattle.segment_dump.specs.{Loading.HasIndexes, Succeeding.IndexesOf, Succeeding.KeepsIndexes, Succeeding.LiesOf}
use Rattle.segment_dump.proofs.loading.Placed.{built-long, ends-in}
use Rattle.segment_dump.proofs.building.WholeDump.{built-portable, cut-free, portable-sorted, text-behind}

-- ---- the objects

never-done : (why : Refusal) → done_answer (Err why) ≡ Done → ⊥
never-done why e = cc

module _ (old mid : SegmentState) (prefix : DumpPrefix) (text : List ℕ) (most room : ℕ) (r : Result (Unit {0}) Refusal)
    (moved : TakesStep old mid (asked.ReserveNamed prefix.named) (done_answer r)) where
  abbrev Made : {E : Type 0} → SegmentState → Result (Unit {0}) E → Type 0
  Made new result = MakesObjects old new prefix text most room result

  abbrev more : List DumpItem → ℕ
  more items = block_room (8 * prefix.unique) + (all_needs item_needs items).room

  named-led : (size : ℕ) (items : List DumpItem) → DenotesCurrent old.cut.bytes (empty size) → old.mode ≡ Write
      → prefix_room prefix.named prefix.unique + (all_needs item_needs items).room ≤ size
      → Led mid (done_answer r) Done (IsFronted size prefix.named (more items))
  unfolding prefix_room
  named-led size items st w fits =
      led st w _ moved (named-reserved size prefix.named (more items) st.denotes.directory
      (empty-built size (block_room (8 * prefix.named) + more items) (omega (arith, fits)))
      (rest-both (block_room (8 * prefix.unique)) (all_needs item_needs items).room (block-rest (8 * prefix.unique))
      (items-rest items)))

  -- the index of names was not reserved: nothing is made
  pub named-refused : {E : Type 0} (new : SegmentState) (why : Refusal) (result : Result (Unit {0}) E) → r ≡ Err why
      → Made new result
  named-refused new why result e =
      record {
        makes = λ size items st w fits left t l.
            absurd (never-done why (ap done_answer (sym e) ∙ (named-led size items st w fits).given_is));
      }

  module _ (last : SegmentState) (q : Result (Unit {0}) Refusal)
      (on : TakesStep mid last (asked.ReserveUnique prefix.unique) (done_answer q)) where
    unique-led : (size : ℕ) (items : List DumpItem) → DenotesCurrent old.cut.bytes (empty size) → old.mode ≡ Write
        → prefix_room prefix.named prefix.unique + (all_needs item_needs items).room ≤ size
        → Led last (done_answer q) Done (λ e. HasBuiltItems e (site_of prefix size) [] (all_needs item_needs
        items).room)
    unique-led size items st w fits =
        let u = named-led size items st w fits in
        let t = u.holds.table in
        let all : ℕ = (all_needs item_needs items).room in
        let stands : DenotesCurrent mid.cut.bytes (with_names size t) =
        subst (DenotesCurrent mid.cut.bytes) u.holds.is u.stands in
        led stands u.mode _ on (unique-reserved size prefix.named prefix.unique all t stands.denotes.directory
        u.holds.built (items-rest items))

    -- the index of kinds was not reserved: nothing is made
    pub unique-refused : {E : Type 0} (new : SegmentState) (why : Refusal) (result : Result (Unit {0}) E)
        → q ≡ Err why → Made new result
    unique-refused new why result e =
        record {
          makes = λ size items st w fits left t l.
              absurd (never-done why (ap done_answer (sym e) ∙ (unique-led size items st w fits).given_is));
        }

    -- both indexes were reserved: all objects are built
    pub all-made : {E : Type 0} (new : SegmentState) (result : Result (Unit {0}) E)
        → BuildsAllObjects last new text most room result → Made new result
    all-made new result b = record {
      makes = λ size items st w fits left t l.
          let u = unique-led size items st w fits in
          let built : StandsBuilt last (site_of prefix size) [] (all_needs item_needs items).room =
          record { directory = u.directory; stands = u.stands; mode = u.mode; built = u.holds } in
          b.builds (site_of prefix size) items (record { stands = built; text_is = t }) left l;
    }

-- ---- what was made is judged

-- the size that was asked for, as the calls say it
pub sizes-some : (s : SegmentState) (n m : ℕ)
    → ((d : Directory) → DenotesCurrent s.cut.bytes d → Number n ≡ (step s.mode d asked.Size).0) → (o : Option ℕ)
    → o ≡ Some m → Sizes s o (nat_eq n m)
sizes-some s n m says o e = subst (λ p. Sizes s p (nat_eq n m)) (sym e)
    (record { sizes = λ d st h. eq-eqb n m (size-is s.mode d n (says d st) ∙ h) })

-- a size that was not asked for, as the calls say it
pub sizes-none : (s : SegmentState) (n : ℕ)
    → ((d : Directory) → DenotesCurrent s.cut.bytes d → Number n ≡ (step s.mode d asked.Free).0) → (o : Option ℕ)
    → o ≡ None → Sizes s o (nat_eq n 0)
sizes-none s n says o e = subst (λ p. Sizes s p (nat_eq n 0)) (sym e)
    (record { sizes = λ d st h. eq-eqb n 0 (free-is s.mode d n (says d st) ∙ h) })

-- no size was asked for: the end is cut off
pub trims-none : (old new : SegmentState) (o : Option ℕ) → o ≡ None → old.mode ≡ Write
    → Resizes old new (λ d. shrunk d) → Trims old new o
trims-none old new o e w r = subst (Trims old new) (sym e) (record { mode = r.mode ∙ w; trims = λ d s. r.denotes d s })

-- a size was asked for: nothing is cut off
pub trims-some : (s : SegmentState) (o : Option ℕ) (m : ℕ) → o ≡ Some m → s.mode ≡ Write → Trims s s o
trims-some s o m e w = subst (Trims s s) (sym e) (record { mode = w; trims = λ d st. st })

trimmed-same : (d : Directory) (o : Option ℕ) → (trimmed d o).objects ≡ d.objects
trimmed-same d None = refl
trimmed-same d (Some m) = refl

trimmed-sized : (b : List ℕ) (d : Directory) (site : Site) (items : List DumpItem) (o : Option ℕ)
    → DenotesCurrent b (trimmed d o) → HasBuiltItems d site items 0 → IsRequestedSize o site.size
    → HasRequestedSize (trimmed d o) o
trimmed-sized b d site items None s h a = cut-free d 0 s.denotes.directory.proper h.room
trimmed-sized b d site items (Some m) s h a = h.size_is ∙ a

trimmed-indexes : (s : SegmentState) (d : Directory) (o : Option ℕ) → DenotesCurrent s.cut.bytes (trimmed d o)
    → HasIndexes d.named.capacity d.unique.capacity s
trimmed-indexes s d None st = record { directory = shrunk d; stands = st; named_is = refl; unique_is = refl }
trimmed-indexes s d (Some m) st = record { directory = d; stands = st; named_is = refl; unique_is = refl }

-- a segment that is cut after its last block keeps its indexes
pub trims-keep : (s new : SegmentState) (size : Option ℕ) → Trims s new size → KeepsIndexes s (Ok new)
trims-keep s new size h = record { keeps = λ d st. trimmed-indexes new d size (h.trims d st) }

-- a segment that is cut after its last block gets no spare slots
pub trims-exact : (s new : SegmentState) (size : Option ℕ) → Trims s new size → KeepsCapacities s (Ok new)
trims-exact s new size h = record {
  keeps = λ d st e. record {
    directory = trimmed d size;
    stands = h.trims d st;
    exact = subst AreExact (sym (trimmed-same d size)) e;
  };
}

module _ (s new : SegmentState) (text : List ℕ) (said : ℕ) (size : Option ℕ) where
  -- a text that is no dump of the segment
  pub judged-other : (r : Result (Unit {0}) ℕ) (at : ℕ) (result : Result SegmentState LoadRefused)
      → Trims s new size → OnErr r (IsNoDumpOf new said text) → r ≡ Err at → JudgesDump s text said size result
  judged-other r at result h n e = record {
    judges = λ site items b o a t.
        let d = trimmed b.directory size in
        let st = h.trims b.directory b.stands in
        let same : portable d ≡ items =
        built-portable d items o (ap (map item_of_object) (trimmed-same b.directory size) ∙ b.built.items) in
        let not = subst (λ x. OnErr x (IsNoDumpOf new said text)) e n in
        absurd (not.is_not d st (t ∙ ap (dump_text said) (sym same)));
  }

  -- a size that is not the one that was asked for
  pub judged-unlike : (result : Result SegmentState LoadRefused) → Trims s new size → Sizes new size false
      → JudgesDump s text said size result
  judged-unlike result h z = record {
    judges = λ site items b k a t.
        let st = h.trims b.directory b.stands in
        absurd (false≢true (z.sizes (trimmed b.directory size) st
        (trimmed-sized new.cut.bytes b.directory site (all_items items) size st b.built a)));
  }

-- ---- all of it

module _ (text : List ℕ) (capacity base : ℕ) (size : Option ℕ) (room : ℕ) (counted : Result Count ℕ) where
  abbrev Good : Result SegmentState LoadRefused → Type 0
  Good = SucceedsOf text capacity base size room counted

  abbrev prefix_of : ℕ → Items → DumpPrefix
  prefix_of n items = record { size = n; named = length items.named; unique = length items.unique }

  abbrev behind : Items → List ℕ
  behind items = items_text (all_items items) ++ end_text

  prefix-there : {E : Type 0} (left : List ℕ) (r : Result DumpPrefix E) → Takes fronted IsDumpPrefix text left r
      → (b : List ℕ) (d : Directory) (n : ℕ) → DenotesCurrent b d → n < 2 ^ 64 → text ≡ dump_text n (portable d)
      → (r ≡ Ok (prefix_of n (portable d))) × (left ≡ behind (portable d))
  prefix-there left r h b d n s l e =
      h.takes (prefix_of n (portable d)) (behind (portable d)) (is-prefix n (portable d) l (portable-countable b d s))
      (e ∙ text-behind n (portable d))

  -- no front: no segment
  pub good-no_prefix : {E : Type 0} (lines left : List ℕ) (r : Result DumpPrefix E) (e : E)
      (result : Result SegmentState LoadRefused) → lines ≡ text → Takes fronted IsDumpPrefix lines left r → r ≡ Err e
      → Good result
  good-no_prefix lines left r e result q h w = record {
    succeeds = λ b d n s l t c f.
        absurd (never-ok e (prefix_of n (portable d)) (sym w
        ∙ (prefix-there left r (subst (λ x. Takes fronted IsDumpPrefix x left r) q h) b d n s l t).0));
  }

  counted-there : (said : ℕ) (count : Count) → IfOk counted (λ (c : Count). said ≡ c.size) → counted ≡ Ok count
      → said ≡ count.size
  counted-there said count h e = subst (λ (r : Result Count ℕ). IfOk r (λ (c : Count). said ≡ c.size)) e h

  -- nothing is lacking
  record Suffices (asked n : ℕ) (items : Items) : Type 0 where
    legal : is_legal_size asked ≡ true
    region : nat_lt capacity (base + asked) ≡ false
    space : (items_needs items).room ≤ asked
    longest : (items_needs items).longest ≤ room

  suffices-by : (asked n : ℕ) (items : Items) (legal short full long : Bool) → is_legal_size asked ≡ legal
      → nat_lt capacity (base + asked) ≡ short → nat_lt asked (items_needs items).room ≡ full
      → nat_lt room (items_needs items).longest ≡ long
      → (if not legal then Some BadSize else if short then Some RegionTooSmall else if full then Some NoSpace else
      if long then Some LongText else None) ≡ None → Suffices asked n items
  suffices-by asked n items false short full long e f g h k = absurd (none-some BadSize (sym k))
  suffices-by asked n items true true full long e f g h k = absurd (none-some RegionTooSmall (sym k))
  suffices-by asked n items true false true long e f g h k = absurd (none-some NoSpace (sym k))
  suffices-by asked n items true false false true e f g h k = absurd (none-some LongText (sym k))
  suffices-by asked n items true false false false e f g h k =
      record {
        legal = e;
        region = f;
        space = ltb-false asked (items_needs items).room g;
        longest = ltb-false room (items_needs items).longest h;
      }

  suffices : (asked n : ℕ) (items : Items) → asked ≡ asked_of size n
      → refusal_for capacity base size room (record { size = n; needs = items_needs items }) ≡ None
      → Suffices asked n items
  suffices asked n items e f =
      let wanted = asked_of size n in
      subst (λ m. Suffices m n items) (sym e)
      (suffices-by wanted n items (is_legal_size wanted) (nat_lt capacity (base + wanted))
      (nat_lt wanted (items_needs items).room) (nat_lt room (items_needs items).longest) refl refl refl refl f)

  uncreated-by : (region : List ℕ) (asked : ℕ) (cause : CreateError) → capacity ≡ length region
      → is_legal_size asked ≡ true → nat_lt capacity (base + asked) ≡ false → IsWhy region base asked cause → ⊥
  uncreated-by region asked create.BadSize c l s h = false≢true (sym h ∙ l)
  uncreated-by region asked create.RegionTooSmall c l s h = omega (arith, c, h.1, ltb-false capacity (base + asked) s)

  -- no segment was created
  pub good-uncreated : (region : List ℕ) (asked said : ℕ) (r : Result SegmentState CreateRefused)
      (refused : CreateRefused) (result : Result SegmentState LoadRefused) → capacity ≡ length region
      → IfOk counted (λ (c : Count). said ≡ c.size) → asked ≡ asked_of size said
      → Creates region base asked Write r → r ≡ Err refused → Good result
  good-uncreated region asked said r refused result c h e w z = record {
    succeeds = λ b d n s l t k f.
        let u = suffices asked n (portable d) (e
        ∙ ap (asked_of size) (counted-there said (record { size = n; needs = items_needs (portable d) }) h k)) f in
        let not = subst (Creates region base asked Write) z w in
        absurd (uncreated-by region asked refused.cause c u.legal u.region not.why);
  }

  asked-by : (o : Option ℕ) (asked n : ℕ) → asked ≡ asked_of o n → IsRequestedSize o asked
  asked-by None asked n e = tt
  asked-by (Some m) asked n e = e

  -- what ends there in a window that was filled ends there in the region
  placed : (region : List ℕ) (asked : ℕ) (c : WindowState) (result : Result SegmentState LoadRefused)
      → IfOk result (λ s. EndsAt c s.cut (length s.cut.bytes)) → (n : ℕ) → asked ≡ n → base + asked ≤ length region
      → SameSurroundings (cut_at region base asked) c → length c.bytes ≡ asked
      → IfOk result (λ s. EndsAt (cut_at region base n) s.cut (length s.cut.bytes))
  placed region asked c (Ok s) h n e l a k =
      subst (λ m. EndsAt (cut_at region base m) s.cut (length s.cut.bytes)) e
      (ends-in region base asked c s.cut l a k h)
  placed region asked c (Err why) h n e l a k = tt

  module _ (E F : Type 0) (region lines left : List ℕ) (prefix : DumpPrefix) (asked said : ℕ) (s0 s1 : SegmentState)
      (r : Result (Unit {0}) F) (found : Result DumpPrefix E) (cr : Result SegmentState CreateRefused) (q : lines
      ≡ text) (h : Takes fronted IsDumpPrefix lines left found) (w : found
      ≡ Ok prefix) (k : IfOk counted (λ (c : Count). said ≡ c.size)) (e : asked ≡ asked_of size said)
      (creates : Creates region base asked Write cr) (cw : cr
      ≡ Ok s0) (makes : MakesObjects s0 s1 prefix left (length text) room r) where
    record Building (d : Directory) (n : ℕ) : Type 0 where
      prefix_is : prefix ≡ prefix_of n (portable d)
      asked_is : asked ≡ asked_of size n
      done : r ≡ Ok tt
      built : StandsBuilt s1 (site_of (prefix_of n (portable d)) asked) (all_items (portable d)) 0

    building : (b : List ℕ) (d : Directory) (n : ℕ) → DenotesCurrent b d → n < 2 ^ 64
        → text ≡ dump_text n (portable d) → counted ≡ Ok (record { size = n; needs = items_needs (portable d) })
        → refusal_for capacity base size room (record { size = n; needs = items_needs (portable d) }) ≡ None
        → Building d n
    building b d n s l t c f =
        let p = portable d in
        let u0 = prefix-there left found (subst (λ x. Takes fronted IsDumpPrefix x left found) q h) b d n s l t in
        let same : prefix ≡ prefix_of n p = ok-same {E = E} prefix (prefix_of n p) (sym w ∙ u0.0) in
        let created = subst (Creates region base asked Write) cw creates in
        let wanted : asked ≡ asked_of size n =
        e ∙ ap (asked_of size) (counted-there said (record { size = n; needs = items_needs p }) k c) in
        let u = suffices asked n p wanted f in
        let m = subst (λ (x : DumpPrefix). MakesObjects s0 s1 x left (length text) room r) same makes in
        let long : length text ≡ length (fronted (prefix_of n p)) + length (behind p) =
        ap length (t ∙ text-behind n p) ∙ length-append (fronted (prefix_of n p)) (behind p) in
        let v = m.makes asked (all_items p) created.stands created.mode (omega (arith, needs-all p, u.space))
        (portable-left b d s asked room u.longest) u0.1 (omega (arith, long, ap length u0.1)) in
        record { prefix_is = same; asked_is = wanted; done = v.0; built = v.1 }

    -- the objects were not built: no segment
    pub good-unbuilt : (stop : F) (result : Result SegmentState LoadRefused) → r ≡ Err stop → Good result
    good-unbuilt stop result z = record {
      succeeds = λ b d n s l t c f. absurd (never-ok {X = Unit {0}} stop tt (sym z ∙ (building b d n s l t c f).done));
    }

    -- the segment was built and judged
    pub good-judged : (result : Result SegmentState LoadRefused) → JudgesDump s1 text prefix.size size result
        → Good result
    good-judged result j = record {
      succeeds = λ b d n s l t c f.
          let v = building b d n s l t c f in
          j.judges (site_of (prefix_of n (portable d)) asked) (portable d) v.built (portable-sorted b d s)
          (asked-by size asked n v.asked_is) (t ∙ ap (λ (x : DumpPrefix). dump_text x.size (portable d)) (sym
          v.prefix_is));
    }

    -- the indexes of the segment that was judged have the places that the front says
    pub good-indexed : (result : Result SegmentState LoadRefused) → KeepsIndexes s1 result
        → IndexesOf text capacity base size room counted result
    good-indexed result k = record {
      indexes = λ b d n s l t c f.
          let v = building b d n s l t c f in
          let of = v.built.built in
          subst (λ m. IfOk result (HasIndexes m (length (portable d).unique))) of.named
          (subst (λ m. IfOk result (HasIndexes v.built.directory.named.capacity m)) of.unique
          (k.keeps v.built.directory v.built.stands));
    }

    -- the segment that was judged has no spare slots
    pub good-exact : (result : Result SegmentState LoadRefused) → KeepsCapacities s1 result
        → CapacitiesOf text capacity base size room counted result
    good-exact result k = record {
      exact = λ b d n s l t c f.
          let v = building b d n s l t c f in
          k.keeps v.built.directory v.built.stands v.built.built.exact;
    }

    -- the segment that was judged lies in the region
    pub good-placed : (result : Result SegmentState LoadRefused) → capacity ≡ length region
        → SameSurroundings s0.cut s1.cut → IfOk result (λ s. EndsAt s1.cut s.cut (length s.cut.bytes))
        → LiesOf text region base size room counted result
    good-placed result c around ends = record {
      lies = λ b d n s l t k f.
          let v = building b d n s l t k (subst (λ m. refusal_for m base size room
          (record { size = n; needs = items_needs (portable d) }) ≡ None) (sym c) f) in
          let created = subst (Creates region base asked Write) cw creates in
          placed region asked s1.cut result ends (asked_of size n) v.asked_is created.fits
          (SameSurroundings-trans _ _ _ created.place around) (built-long v.built);
    }

-- ---- a load

-- a load that lacks something gives no segment
pub succeeds-lacking : (text : List ℕ) (capacity base : ℕ) (size : Option ℕ) (room : ℕ) (counted : Result Count ℕ)
    (o : Option LoadError) (cause : LoadError) (result : Result SegmentState LoadRefused) → CountsDump text counted
    → IsRefusalOf capacity base size room counted o → o ≡ Some cause → Succeeds text capacity base size room result
succeeds-lacking text capacity base size room counted o cause result h r e = record {
  succeeds = λ b d n s l t f.
      let c = h.counts n (portable d) l (portable-countable b d s) t in
      let lack : o ≡ refusal_for capacity base size room (record { size = n; needs = items_needs (portable d) }) =
      subst (λ x. IsRefusalOf capacity base size room x o) c r in
      absurd (none-some cause (sym f ∙ sym lack ∙ e));
}

-- a load that lacks nothing gives a segment
pub succeeds-made : (text : List ℕ) (capacity base : ℕ) (size : Option ℕ) (room : ℕ) (counted : Result Count ℕ)
    (result : Result SegmentState LoadRefused) → CountsDump text counted
    → SucceedsOf text capacity base size room counted result → Succeeds text capacity base size room result
succeeds-made text capacity base size room counted result h g =
    record {
      succeeds = λ b d n s l t f.
          g.succeeds b d n s l t (h.counts n (portable d) l (portable-countable b d s) t) f;
    }
