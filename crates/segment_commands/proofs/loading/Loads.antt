-- A dump that fits is loaded, if memory is given.
use Rattle.std.proofs.Common.{◌≡◌, ℕ, ◌+◌, ◌≤◌, Bool, true, false, nat_lt, List, length, Option, Some, None, Ok, Err}
use Rattle.std.proofs.Common.{if◌then◌else◌, refl, sym, ap, subst, ◌∙◌, inl, inr, arith}
use Rattle.std.specs.Prelude.{Result, min, not}
use Rattle.std.proofs.lemmas.Bool.{false≢true, ltb-true}
use Rattle.std.proofs.lemmas.Bool.Decides.{nat_tests}
use Rattle.raw_region.specs.Device.{ReaderHistory, ReadDelta, read_delta}
use Rattle.raw_region.specs.declared.refused_memory.OutOfMemory.{OutOfMemory as MemoryRefusal}
use Rattle.block_tags.specs.Format.{is_legal_size}
use Rattle.segment_manager.specs.State.{SegmentState}
use Rattle.segment_dump.specs.declared.faults.LoadError.TheVariants as load
use Rattle.segment_dump.specs.declared.faults.LoadRefused.{LoadRefused}
use Rattle.segment_dump.specs.Counting.{CountsDump}
use Rattle.segment_dump.specs.declared.counting.Count.{Count}
use Rattle.segment_dump.specs.Items.{portable}
use Rattle.segment_dump.specs.Loading.{asked_of}
use Rattle.segment_dump.specs.Need.{items_needs}
use Rattle.segment_dump.specs.Notes.{without_notes}
use Rattle.segment_dump.specs.Succeeding.{Succeeds}
use Rattle.image_check.specs.declared.errors.MemoryFault.TheVariants.{BlockMap, Bytes}
use Rattle.segment_cli.specs.declared.faults.SessionFault.{SessionFault}
use Rattle.segment_cli.specs.declared.faults.SessionFault.TheVariants.{Image as Refused, BadSize, RegionTooSmall}
use Rattle.segment_cli.specs.declared.faults.SessionFault.TheVariants.{OutOfMemory, ReadFault, WriteFault}
use Rattle.segment_cli.specs.declared.faults.SessionFault.TheVariants.{ScriptTooLong}
use Rattle.segment_commands.specs.declared.command_faults.CommandFault.{CommandFault}
use Rattle.segment_commands.specs.declared.command_faults.CommandFault.TheVariants.{Session}
use Rattle.segment_commands.specs.Faults.{IsNoMemory}
use Rattle.segment_commands.specs.Loading.{HasRoomForSize, IsFitting, IsReadWhole, IsRequestedOrWritten, IsWantedSize}
use Rattle.segment_commands.specs.Loading.{IsWhyUnread, LoadsDump, NeedsRoom}
use Rattle.segment_commands.proofs.loading.LongTexts.{fits-room}

-- ---- a segment of a text

-- a region with room for the size that is wanted has room for the one that is asked for
pub roomy-for : (text : List ℕ) (size : Option ℕ) (wanted : ℕ) (region : List ℕ) → IsRequestedOrWritten text size wanted
    → min wanted 1073741824 ≤ length region → HasRoomForSize size region
roomy-for text None wanted region asked room = tt
roomy-for text (Some n) wanted region asked room = rw asked at room

legal-most : (n : ℕ) → is_legal_size n ≡ true → n ≤ 1073741824
legal-most n e = grind (arith, nat_tests)

refused-by : (legal short full long : Bool) → legal ≡ true → (short ≡ true → ⊥) → (full ≡ true → ⊥) → (long ≡ true → ⊥)
    → ((if not legal then Some load.BadSize else if short then Some load.RegionTooSmall else if full then Some
    load.NoSpace else if long then Some load.LongText else None) ≡ None → ⊥)
    → ⊥
refused-by false short full long l s f g n = false≢true l
refused-by true true full long l s f g n = s refl
refused-by true false true long l s f g n = f refl
refused-by true false false true l s f g n = g refl
refused-by true false false false l s f g n = n refl

-- where a dump fits, and there is room for the size that is wanted, and for each text, it is loaded
pub refused-fits : (text : List ℕ) (capacity : ℕ) (size : Option ℕ) (room wanted : ℕ) (refused : LoadRefused)
    → min wanted 1073741824 ≤ capacity
    → min (length text) 1073741824 ≤ room → IsWantedSize text size wanted
    → Succeeds (without_notes text) capacity 0 size room (Err refused)
    → IsFitting text size → ⊥
refused-fits text capacity size room wanted refused roomy wide w succeeds f =
    let asked = asked_of size f.said in
    let needs = items_needs (portable f.directory) in
    let same : wanted ≡ asked = w f.said (portable f.directory) f.small f.dump in
    refused-by (is_legal_size asked) (nat_lt capacity (0 + asked)) (nat_lt asked needs.room)
    (nat_lt room needs.longest) f.legal
    (λ e. omega (arith, ltb-true capacity (0 + asked) e, roomy, same, legal-most asked f.legal)) (λ e.
    omega (arith, ltb-true asked needs.room e, f.room))
    (λ e. omega (
      arith,
      ltb-true room needs.longest e,
      fits-room text f.said asked room (portable f.directory) f.dump f.room (legal-most asked f.legal) wide,
    ))
    (λ e. succeeds.succeeds f.bytes f.directory f.said f.stands f.small f.dump e)

-- ---- what the objects of a dump need

same-count : (a b : Count) → ◌≡◌ {A = Result Count ℕ} (Ok a) (Ok b) → a ≡ b
same-count a b e = cc

no-count : (left : ℕ) (a : Count) → ◌≡◌ {A = Result Count ℕ} (Err left) (Ok a) → ⊥
no-count left a e = cc

module _ (text bare : List ℕ) (is : bare ≡ without_notes text) where
  -- the needs of a dump that was counted are the room
  pub needs_counted : (count : Count) → CountsDump bare (Ok count) → NeedsRoom text count.needs.room
  needs_counted count c = record {
    needs = λ n items small countable e.
        ap (λ (k : Count). k.needs.room)
        (same-count count (record { size = n; needs = items_needs items }) (c.counts n items small countable (is ∙ e)));
  }

  -- a text that was not counted needs no room
  pub needs_uncounted : (left : ℕ) → CountsDump bare (Err left) → NeedsRoom text 0
  needs_uncounted left c = record {
    needs = λ n items small countable e.
        absurd (no-count left (record { size = n; needs = items_needs items }) (c.counts n items small countable (is
        ∙ e)));
  }

-- ---- a dump that is read

same-fault : (a b : CommandFault) → ◌≡◌ {A = Result SegmentState CommandFault} (Err a) (Err b) → a ≡ b
same-fault a b e = cc

unread : (given : ReadDelta) (text : List ℕ) (fault : SessionFault) → IsWhyUnread given fault
    → IsReadWhole given text → IsNoMemory (Session fault)
unread given text (Refused c) w r = absurd w
unread given text BadSize w r = absurd w
unread given text RegionTooSmall w r = absurd w
unread given text (OutOfMemory (Bytes refusal)) w r =
    (length given.bytes, ap (λ (why : MemoryRefusal). Session (OutOfMemory (Bytes why))) w.1)
unread given text (OutOfMemory (BlockMap refusal)) w r = absurd w
unread given text ReadFault w r = absurd (false≢true (sym r.sound ∙ w))
unread given text WriteFault w r = absurd w
unread given text ScriptTooLong w r = absurd (omega (arith, w.long, r.within, ap length r.bytes))

-- where no segment is made of a dump that fits, memory is lacking
pub unmade : (size : Option ℕ) (script script' : ReaderHistory) (fault : CommandFault) (text : List ℕ)
    → LoadsDump size script script' (Err fault) → IsReadWhole (read_delta script script') text → IsFitting text size
    → IsNoMemory fault
unmade size script script' fault text (inl u) r f =
    absurd (false≢true (sym u.illegal ∙ ap (λ o. is_legal_size (asked_of o f.said)) (sym u.asks) ∙ f.legal))
unmade size script script' fault text (inr (inl u)) r f =
    subst IsNoMemory (sym (same-fault fault (Session u.fault) u.refused))
    (unread (read_delta script script') text u.fault u.why r)
unmade size script script' fault text (inr (inr u)) r f =
    u.makes (subst (λ t. IsFitting t size) (sym r.bytes ∙ u.read.bytes) f)
