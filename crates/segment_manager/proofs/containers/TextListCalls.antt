-- What the calls of seg_vector ensure of the texts at the place that was found, as the steps of the calls on the
-- object's vector of texts.
use Rattle.segment_manager.proofs.Common as common
use Rattle.seg_types.specs.Commands as asked
use Rattle.std.proofs.Common.{Fits, w8}
use Rattle.best_fit.specs.Exchange.{KeepsLiveSet}
use Rattle.seg_vector.specs.{TextsCalls.UndoesRequests, TextsCalls.new_array, Vector.capacity_for_one}
use Rattle.seg_vector.specs.TextsCalls.{AssignsTexts, AssignsTextsOk, ClearsTexts, ErasesText, ErasesTextOk, GetsText}
use Rattle.seg_vector.specs.TextsCalls.{InsertsText, InsertsTextOk, LacksFit, PopsText, PushesText, ReadsTextsLen}
use Rattle.seg_vector.specs.TextsCalls.{RefusesFirstBlock, SetsText, SetsTextOk, UnchangedIfFirstRefused}
use Rattle.segment_manager.proofs.containers.{ItemSteps.room-grown, ItemSteps.then_room, TextPlans.then_text}
use Rattle.segment_manager.proofs.containers.{Safely.stays, ToChange.seen-found}
use Rattle.segment_manager.proofs.containers.{TextAnswers.fits-bytes, TextLists.part-inserted, TextLists.part-set}
use Rattle.segment_manager.proofs.containers.MapSteps.{HoldsTexts, Kept, Led, StepsKeeping, TextsMove, all-other}
use Rattle.segment_manager.proofs.containers.MapSteps.{in-array, kept, led, left-out, moved, one-block, some-texts}
use Rattle.segment_manager.proofs.containers.MapSteps.{step-leads-on, text-bytes, texts-bytes, texts-lead-on}
use Rattle.segment_manager.proofs.containers.MapSteps.{texts-restored, texts-stay, texts-steps, texts_in}
use Rattle.segment_manager.proofs.containers.Safely.{Answered, answered, done-so, of-error, pick-outside, pick-space}
use Rattle.segment_manager.proofs.containers.TextPlans.{all-met, all-unmet, all_plan, assign-none, assign-some}
use Rattle.segment_manager.proofs.containers.TextPlans.{assign_in, beside_array, clear-texts, erase-text, got-text}
use Rattle.segment_manager.proofs.containers.TextPlans.{insert-text, insert_in, insert_plan, one-more-met}
use Rattle.segment_manager.proofs.containers.TextPlans.{one-more-unmet, pop-text, push-text, reserve-texts, set-text}
use Rattle.segment_manager.proofs.containers.TextPlans.{set_in, shrink-texts, text-placed, text_in, texts_after}
use Rattle.segment_manager.proofs.directory.AnyDirectory.{denotes-live, open-reading, open-writing}
use Rattle.segment_manager.specs.{Directory.Object, Directory.Texts, Directory.live, containers.Stored.ChangesTexts}
use Rattle.segment_manager.specs.Keeping.{LacksArray, LacksFirst, UnchangedWhere}
use Rattle.segment_manager.specs.containers.{Contents.sizes_of_kind, ToChange.IsChangeableContainer}
use common.{AnswersWith, BackingArray, Bor, Change, Clear, Command, DenotesCurrent, Directory, Done, Err, IfErr}
use common.{IsSegment, IsTextsContainer, IsTrue, Key, List, LiveSet, NoSpace, None, NotFound, Ok, Option, OutOfRange}
use common.{OwnedText, Place, Plan, Refusal, Refused, RefusesIndex, Reply, Reserve, Result, SegmentState, Shrink, Some}
use common.{StepsSafely, StringsKind, TakesStepOfKind, TextElement, Value, WindowState, WrongKind, [], answer_of, ap}
use common.{append-nil, are_bytes, arith, command_of, container_at, current, done_answer, effect, false, false≢true}
use common.{first_size, get_or, grown_backing, if◌then◌else◌, inl, inr, insert, is_read_only, is_untouched, kind_of}
use common.{le-ltb, length, length_at_kind, list_all, live_of, lt-ltb, map, option_map, option_to_list, perform}
use common.{placed_text, refl, refusal_in, remove, requested_text, requested_texts, same_Some, same_kind}
use common.{shrunk_backing, sizes_of, slice_get, slice_get-get_or, slice_get_past, slice_set, subst, sym, texts_of}
use common.{true, with, with_array, ℕ, ◌+◌, ◌-◌, ◌<◌, ◌∙◌, ◌∷◌, ◌≡◌, ◌≤◌}

-- texts as literals are read back as themselves
texts-read : (bss : List (List ℕ)) → texts_of (map asked.Quoted bss) ≡ Ok bss
texts-read [] = refl
texts-read (bs ∷ bss) = ap (λ (q : Result (List (List ℕ)) Refusal). elim q as (λ _. Result (List (List ℕ)) Refusal)
    [ Ok css ↦ Ok (bs ∷ css) | Err e ↦ Err e ]) (texts-read bss)

-- ---- the calls

-- as the view before the call names the segment
module _ {s t : SegmentState} (view : s ≡ t) (key : Key) (p : Place) (b : IsSegment s.cut.bytes)
    (there : AnswersWith t (λ d. container_at d key StringsKind) (Ok p)) where
  there-too : AnswersWith s (λ d. container_at d key StringsKind) (Ok p)
  there-too = seen-found s t view key StringsKind p there

  -- there are texts at the place
  pub texts-standing : IsTextsContainer s.cut.bytes p
  texts-standing = some-texts s key p b there-too

  -- a string that was read is the directory's
  pub text-got : (i : ℕ) (r : Result (Bor (List ℕ)) Refusal) → GetsText s.cut p i r
      → TakesStepOfKind s s key StringsKind (asked.Get key i) (answer_of (λ (x : Bor (List ℕ)). TextElement x.now) r)
  text-got i (Ok x) a = texts-stay s key p b there-too _ _ (open-reading s.mode (asked.Get key i) refl) (λ d h.
      ap (perform d (live_of s.cut.bytes)) (got-text h i _ refl)
      ∙ read d (slice_get h.texts i) (a h.texts h.table h.stand))
    where
      read : (d : Directory) (r : Option OwnedText) → option_map (λ (q : OwnedText). q.bytes) r ≡ Some x.now
          → perform d (live_of s.cut.bytes) (with (text_in r) (λ q. Reply (TextElement q.bytes) d))
          ≡ (TextElement x.now, d)
      read d None e = absurd (cc)
      read d (Some q) e = ap (λ (bs : List ℕ). (TextElement bs, d)) (same_Some q.bytes x.now e)
  text-got i (Err e) a =
      let h : HoldsTexts s.cut.bytes b.0 key p = texts_in s key p b there-too b.0 b.1 in
      subst (λ (q : Refusal). TakesStepOfKind s s key StringsKind (asked.Get key i) (Refused q))
      (sym (a h.texts h.table h.stand).refusal) (texts-stay s key p b there-too _ (Refused OutOfRange) (open-reading
      s.mode (asked.Get key i) refl) (λ d h. ap (perform d (live_of s.cut.bytes)) (got-text h i None (slice_get_past
      h.texts i (a h.texts h.table h.stand).outside))))

  -- the number of texts is the directory's
  pub texts-counted : (n : ℕ) → ReadsTextsLen s.cut.bytes p n
      → AnswersWith t (λ d. length_at_kind d key StringsKind) (Ok n)
  texts-counted n a = subst (λ (u : SegmentState). AnswersWith u (λ d. length_at_kind d key StringsKind) (Ok n)) view
      (record {
        answers = λ d l.
            let h : HoldsTexts s.cut.bytes d key p = texts_in s key p b there-too d l in
            ap Ok (a h.texts h.table h.stand) ∙ sym (ap (λ (r : Option Object). first_size (elim r as
            (λ _. Result (ℕ × ℕ) Refusal) [ None ↦ Err NotFound | Some o ↦ sizes_of_kind o StringsKind ])) h.is
            ∙ ap (λ (v : Value). first_size (if same_kind StringsKind (kind_of v) then sizes_of v else Err WrongKind))
            h.value);
      })

-- for a segment that is open for writing
module _ {s t : SegmentState} (view : s ≡ t) (b : IsSegment s.cut.bytes) {key : Key} {p : Place}
    (to : IsChangeableContainer t key StringsKind p) (new : WindowState) where
  found : AnswersWith s (λ d. container_at d key StringsKind) (Ok p)
  found = seen-found s t view key StringsKind p to.at

  abbrev Holds : Directory → Type 0
  Holds d = HoldsTexts s.cut.bytes d key p

  abbrev holds : (d : Directory) → DenotesCurrent s.cut.bytes d → Holds d
  holds d l = texts_in s key p b found d l

  some : Holds b.0
  some = holds b.0 b.1

  abbrev heap : LiveSet
  heap = live_of s.cut.bytes

  writing : is_read_only s.mode ≡ false
  writing = subst (λ (u : SegmentState). is_read_only u.mode ≡ false) (sym view) to.writing

  seen : {c : Command} {r : Result (Unit {0}) Refusal} → StepsSafely s new key StringsKind c r
      → Answered done_answer s t new key StringsKind c r
  seen done = answered s t view b new key StringsKind _ _ done

  seen-kept : {c : Command} {r : Result (Unit {0}) Refusal} → StepsKeeping s new key c r → Kept s t new key c r
  seen-kept done = kept s t view b new key _ _ done

  -- a call that is done
  does : {c : Command} → ((d : Directory) (l : DenotesCurrent s.cut.bytes d) (h : Holds d)
      → TextsMove s.cut new d key p h c Done) → TakesStepOfKind s (record s { cut = new }) key StringsKind c Done
  does each = texts-steps s key p b found new _ Done writing each

  -- a refusal, and nothing has changed
  turned-down : {c : Command} {e why : Refusal} → e ≡ why → new ≡ s.cut → ((d : Directory) (h : Holds d)
      → perform d heap (effect d c) ≡ (Refused why, d)) → StepsSafely s new key StringsKind c (Err e)
  turned-down {c} {e} {why} is same each = stays s new key StringsKind c e why is same
      (texts-stay s key p b found c _ (open-writing s.mode c writing) each)

  -- a refusal for want of space, after which the blocks are as they were
  given-up : {c : Command} {e : Refusal} → e ≡ NoSpace → KeepsLiveSet current s.cut new → ((d : Directory) (h : Holds d)
      → perform d heap (effect d c) ≡ (Refused NoSpace, d)) → StepsKeeping s new key c (Err e)
  given-up {c} is back each = record {
    step = subst (λ (r : Refusal). TakesStepOfKind s (record s { cut = new }) key StringsKind c (Refused r)) (sym is)
        (texts-restored s key p b found new c _ (open-writing s.mode c writing) back each);
    refused = λ h. absurd (false≢true (sym (ap (λ (r : Refusal). is_untouched (Refused r)) is) ∙ h));
  }

  -- ---- another text

  set-comes : {d : Directory} (h : Holds d) (i : ℕ) (bs : List ℕ) {was : OwnedText} {r : Option OwnedText}
      → slice_get h.texts i ≡ Some was → placed_text heap bs ≡ r
      → perform d heap (effect d (asked.Set key i (asked.Quoted bs))) ≡ then_text d heap (set_in h i) r
  set-comes {d} h i bs found e = ap (perform d heap) (set-text h i bs _ found) ∙ text-placed d heap bs (set_in h i)
      ∙ ap (then_text d heap (set_in h i)) e

  -- a string that was set is the step of the directory
  pub text-set : (i : ℕ) (bs : List ℕ) (r : Result (Unit {0}) Refusal) → ((k : ℕ) → Fits w8 (get_or bs k 0))
      → SetsText s.cut new p i bs r → Answered done_answer s t new key StringsKind (asked.Set key i (asked.Quoted bs)) r
  text-set i bs (Ok u) small a = seen (done-so (does (λ d l h.
      let r : SetsTextOk s.cut new p h.texts h.table i bs = a h.texts h.table h.stand in record {
        texts = slice_set h.texts i r.text;
        table = h.table;
        move = moved (part-set h.texts i r.before r.text r.found)
            (text-bytes heap bs r.text (fits-bytes bs small) r.placed, tt) (one-block (option_to_list h.table.extent)
            r.before.extent) (one-block (option_to_list h.table.extent) r.text.extent) r.now;
        outcome = set-comes h i bs r.found r.placed;
      })))
  text-set i bs (Err e) small a = seen (elim (a some.texts some.table some.stand) [
    | inl o ↦ turned-down o.refusal o.same (λ d h.
        let q : RefusesIndex s.cut new (length h.texts) i e =
        pick-outside e (λ w. w.1.refusal) o.refusal (a h.texts h.table h.stand) in
        ap (perform d heap) (set-text h i bs None (slice_get_past h.texts i q.outside)))
    | inr o ↦ turned-down o.1.refusal o.1.same (λ d h.
        let q : (i < length h.texts) × LacksFit s.cut new (placed_text heap bs) e =
        pick-space e (λ w. w.refusal) o.1.refusal (a h.texts h.table h.stand) in
        let empty : OwnedText = record { bytes = []; extent = None } in
        set-comes h i bs (slice_get-get_or h.texts i empty q.0) q.1.none)
  ])

  -- ---- one more

  put-steps : (c : Command) (at : List OwnedText → ℕ) (bs : List ℕ) → ((k : ℕ) → Fits w8 (get_or bs k 0))
      → ((d : Directory) (h : Holds d) → InsertsTextOk s.cut new p h.texts h.table (at h.texts) bs
      × (effect d c ≡ insert_plan h (at h.texts) bs)) → StepsKeeping s new key c (Ok tt)
  put-steps c at bs small each = record {
    step = does (λ d l h.
        let r : InsertsTextOk s.cut new p h.texts h.table (at h.texts) bs = (each d h).0 in record {
          texts = insert h.texts (at h.texts) r.text;
          table = r.table;
          move = moved (part-inserted h.texts (at h.texts) r.text)
              (text-bytes (with_array heap h.table r.table) bs r.text (fits-bytes bs small) r.placed, tt)
              (sym (append-nil (option_to_list h.table.extent)))
              (one-block (option_to_list r.table.extent) r.text.extent) r.now;
          outcome = ap (perform d heap) (each d h).1
              ∙ one-more-met d heap h.texts h.table bs (insert_in h (at h.texts)) r.table r.text r.grown r.placed;
        });
    refused = tt;
  }

  put-unmet : {d : Directory} (h : Holds d) (i : ℕ) (bs : List ℕ) → requested_text heap h.texts h.table bs ≡ None
      → perform d heap (insert_plan h i bs) ≡ (Refused NoSpace, d)
  put-unmet {d} h i bs none = one-more-unmet d heap h.texts h.table bs (insert_in h i) none

  -- a string that was pushed is the step of the directory
  pub text-pushed : (bs : List ℕ) (r : Result (Unit {0}) Refusal) → ((k : ℕ) → Fits w8 (get_or bs k 0))
      → PushesText s.cut new p bs r → Kept s t new key (asked.Push key (asked.Quoted bs)) r
  text-pushed bs (Ok u) small a =
      seen-kept (put-steps _ length bs small (λ d h. (a h.texts h.table h.stand, push-text h bs)))
  text-pushed bs (Err e) small a =
      let o : UndoesRequests s.cut new (requested_text heap some.texts some.table bs) e =
      a some.texts some.table some.stand in
      seen-kept (given-up o.refusal o.restored
      (λ d h. ap (perform d heap) (push-text h bs) ∙ put-unmet h (length h.texts) bs (a h.texts h.table h.stand).none))

  -- if the first block has no space, nothing changes
  pub text-first : (bs : List ℕ) → UnchangedIfFirstRefused s.cut new p bs
      → UnchangedWhere t (record s { cut = new }) (LacksFirst key bs)
  text-first bs a = subst (λ (u : SegmentState). UnchangedWhere u (record s { cut = new }) (LacksFirst key bs)) view
      (λ d l w.
      let h : Holds d = holds d l in
      let object : h.object ≡ w.object = same_Some h.object w.object (sym h.is ∙ w.is) in
      let value : Texts h.texts h.table ≡ Texts w.texts w.table =
      sym h.value ∙ ap (λ (o : Object). o.value) object ∙ w.value in
      let texts : h.texts ≡ w.texts = cc in let table : h.table ≡ w.table = cc in
      let lives : live d ≡ heap = sym (denotes-live current s.cut.bytes d l.denotes) in
      let still : RefusesFirstBlock s.cut new w.texts w.table bs =
      subst (λ (u : BackingArray). RefusesFirstBlock s.cut new w.texts u bs) table
      (subst (λ (ps : List OwnedText). RefusesFirstBlock s.cut new ps h.table bs) texts (a h.texts h.table h.stand)) in
      let same : new ≡ s.cut = elim w.none [
        | inl x ↦ still.text x.0 (subst (λ (m : LiveSet). placed_text m bs ≡ None) lives x.1)
        | inr x ↦ still.array (subst (λ (m : LiveSet).
            grown_backing m 16 (capacity_for_one (length w.texts) w.table.capacity) w.table ≡ None) lives x)
      ] in
      (λ i. record s { cut = same i }))

  -- no space for an array: the segment stays
  pub array-first : (n : ℕ) → (new_array heap n ≡ None → new ≡ s.cut)
      → UnchangedWhere t (record s { cut = new }) (LacksArray n)
  array-first n a = subst (λ (u : SegmentState). UnchangedWhere u (record s { cut = new }) (LacksArray n)) view
      (λ d l w.
      let lives : live d ≡ heap = sym (denotes-live current s.cut.bytes d l.denotes) in
      let same : new ≡ s.cut = a (subst (λ (m : LiveSet). new_array m n ≡ None) lives w) in
      (λ i. record s { cut = same i }))

  insert-put : {d : Directory} (h : Holds d) (i : ℕ) (bs : List ℕ) → i ≤ length h.texts
      → effect d (asked.Insert key i (asked.Quoted bs)) ≡ insert_plan h i bs
  insert-put h i bs within = insert-text h i bs false (le-ltb (length h.texts) i within)

  -- a string that was inserted is the step of the directory
  pub text-inserted : (i : ℕ) (bs : List ℕ) (r : Result (Unit {0}) Refusal) → ((k : ℕ) → Fits w8 (get_or bs k 0))
      → InsertsText s.cut new p i bs r → Kept s t new key (asked.Insert key i (asked.Quoted bs)) r
  text-inserted i bs (Ok u) small a = seen-kept (put-steps _ (λ ps. i) bs small (λ d h.
      let r : (i ≤ length h.texts) × InsertsTextOk s.cut new p h.texts h.table i bs = a h.texts h.table h.stand in
      (r.1, insert-put h i bs r.0)))
  text-inserted i bs (Err e) small a = seen-kept (elim (a some.texts some.table some.stand) [
    | inl o ↦
        let safe : StepsSafely s new key StringsKind (asked.Insert key i (asked.Quoted bs)) (Err e) =
        turned-down o.refusal o.same (λ d h.
        let q : RefusesIndex s.cut new (length h.texts + 1) i e =
        pick-outside e (λ w. w.1.refusal) o.refusal (a h.texts h.table h.stand) in
        let past : length h.texts < i = let f = q.outside in omega arith in
        ap (perform d heap) (insert-text h i bs true (lt-ltb (length h.texts) i past))) in
        record { step = safe.step; refused = λ h. o.same }
    | inr o ↦ given-up o.1.refusal o.1.restored (λ d h.
        let q : (i ≤ length h.texts) × UndoesRequests s.cut new (requested_text heap h.texts h.table bs) e =
        pick-space e (λ w. w.refusal) o.1.refusal (a h.texts h.table h.stand) in
        ap (perform d heap) (insert-put h i bs q.0) ∙ put-unmet h i bs q.1.none)
  ])

  -- ---- one less

  -- a string that was erased is the step of the directory
  pub text-erased : (i : ℕ) (r : Result (Unit {0}) Refusal) → ErasesText s.cut new p i r
      → Answered done_answer s t new key StringsKind (asked.Erase key i) r
  text-erased i (Ok u) a = seen (done-so (does (λ d l h.
      let r : ErasesTextOk s.cut new p h.texts h.table i = a h.texts h.table h.stand in record {
        texts = remove h.texts i;
        table = h.table;
        move = left-out r;
        outcome = ap (perform d heap) (erase-text h i (Some r.before) r.found);
      })))
  text-erased i (Err e) a =
      let o : RefusesIndex s.cut new (length some.texts) i e = a some.texts some.table some.stand in
      seen (turned-down o.refusal o.same (λ d h.
      ap (perform d heap) (erase-text h i None (slice_get_past h.texts i (a h.texts h.table h.stand).outside))))

  -- a string that was popped is the step of the directory
  pub text-popped : (r : Result (Unit {0}) Refusal) → PopsText s.cut new p r
      → Led s t new key (asked.Pop key) r (refusal_in r)
  text-popped (Ok u) a =
      let out : (d : Directory) → (l : DenotesCurrent s.cut.bytes d)
      → ErasesTextOk s.cut new p (holds d l).texts (holds d l).table (length (holds d l).texts - 1) =
      λ d l. a (holds d l).texts (holds d l).table (holds d l).stand in
      led s t view b new key (asked.Pop key) (Ok u) None (texts-lead-on s key p b found new (asked.Pop key)
      (λ d l. TextElement (out d l).before.bytes) writing (λ d l. refl) (λ d l.
      let h : Holds d = holds d l in record {
        texts = remove h.texts (length h.texts - 1);
        table = h.table;
        move = left-out (out d l);
        outcome = ap (perform d heap) (pop-text h (Some (out d l).before) (out d l).found);
      })) tt
  text-popped (Err e) a =
      let o : RefusesIndex s.cut new (length some.texts) 0 e = a some.texts some.table some.stand in
      let safe : StepsSafely s new key StringsKind (asked.Pop key) (Err e) = turned-down o.refusal o.same (λ d h.
      let none : length h.texts ≤ length h.texts - 1 = let f = (a h.texts h.table h.stand).outside in omega arith in
      ap (perform d heap) (pop-text h None (slice_get_past h.texts (length h.texts - 1) none))) in
      led s t view b new key (asked.Pop key) (Err e) (Some e)
      (step-leads-on s (record s { cut = new }) key (asked.Pop key) (Refused e) safe.step) o.same

  -- ---- all texts are replaced, by none or by others

  cleared : (c : Command) → ClearsTexts s.cut new p → ((d : Directory) (h : Holds d) → effect d c ≡ assign_in h h.table
      []) → TakesStepOfKind s (record s { cut = new }) key StringsKind c Done
  cleared c a each = does (λ d l h. record {
    texts = [];
    table = h.table;
    move = all-other tt (sym (append-nil (option_to_list h.table.extent))) (a h.texts h.table h.stand);
    outcome = ap (perform d heap) (each d h);
  })

  assign-plan : {d : Directory} (h : Holds d) (bs : List ℕ) (bss : List (List ℕ))
      → effect d (asked.Assign key (map asked.Quoted (bs ∷ bss))) ≡ all_plan (bs ∷ bss) (assign_in h)
  assign-plan h bs bss = assign-some h (asked.Quoted bs) (map asked.Quoted bss) (bs ∷ bss) (texts-read (bs ∷ bss))

  -- strings that were assigned are the step of the directory
  pub texts-assigned : (bss : List (List ℕ)) (r : Result (Unit {0}) Refusal) → IsTrue (list_all are_bytes bss)
      → AssignsTexts s.cut new p bss r → Kept s t new key (asked.Assign key (map asked.Quoted bss)) r
  texts-assigned [] r small a =
      let done : StepsKeeping s new key (asked.Assign key []) (Ok tt) =
      record { step = cleared (asked.Assign key []) a.1 (λ d h. assign-none h); refused = tt } in
      seen-kept (subst (StepsKeeping s new key (asked.Assign key [])) (sym a.0) done)
  texts-assigned (bs ∷ bss) (Ok u) small a = seen-kept (record {
    step = does (λ d l h.
        let r : AssignsTextsOk s.cut new p h.texts h.table (bs ∷ bss) = a h.texts h.table h.stand in record {
          texts = r.texts;
          table = r.table;
          move = all-other (texts-bytes (beside_array heap r.table) (bs ∷ bss) r.texts small r.placed) refl r.now;
          outcome = ap (perform d heap) (assign-plan h bs bss)
              ∙ all-met d heap (bs ∷ bss) (assign_in h) r.table r.texts r.array r.placed;
        });
    refused = tt;
  })
  texts-assigned (bs ∷ bss) (Err e) small a =
      let o : UndoesRequests s.cut new (requested_texts heap (bs ∷ bss)) e = a some.texts some.table some.stand in
      seen-kept (given-up o.refusal o.restored (λ d h. ap (perform d heap) (assign-plan h bs bss)
      ∙ all-unmet d heap (bs ∷ bss) (assign_in h) (a h.texts h.table h.stand).none))

  -- strings are not assigned only for want of space
  pub assign-error : (bss : List (List ℕ)) (r : Result (Unit {0}) Refusal) → AssignsTexts s.cut new p bss r
      → IfErr r (λ why. why ≡ NoSpace)
  assign-error [] r a = subst (λ q. IfErr q (λ why. why ≡ NoSpace)) (sym a.0) tt
  assign-error (bs ∷ bss) r a = of-error _ r (a some.texts some.table some.stand) (λ e m. m.refusal)

  -- ---- places

  reserve-comes : {d : Directory} (h : Holds d) (n : ℕ) {r : Option BackingArray} → grown_backing heap 16 n h.table ≡ r
      → perform d heap (effect d (asked.Reserve key n)) ≡ then_room d heap h.table (λ u. assign_in h u h.texts) r
  reserve-comes {d} h n e =
      let next : BackingArray → Plan = λ u. assign_in h u h.texts in
      ap (perform d heap) (reserve-texts h n) ∙ room-grown d heap 16 h.table n next
      ∙ ap (then_room d heap h.table next) e

  -- the effect of a change on the texts
  pub texts-changed : (change : Change) (r : Result (Unit {0}) Refusal) → ChangesTexts change s.cut new p r
      → StepsSafely s new key StringsKind (command_of change key) r
  texts-changed (Reserve n) (Ok u) a = done-so (does (λ d l h.
      let r = a.0 h.texts h.table h.stand in
      record { texts = h.texts; table = r.0; move = in-array r.2; outcome = reserve-comes h n r.1 }))
  texts-changed (Reserve n) (Err e) a =
      let o : LacksFit s.cut new (grown_backing heap 16 n some.table) e = a.0 some.texts some.table some.stand in
      turned-down o.refusal o.same (λ d h. reserve-comes h n (a.0 h.texts h.table h.stand).none)
  texts-changed Shrink r a =
      subst (StepsSafely s new key StringsKind (asked.Shrink key)) (sym a.0) (done-so (does (λ d l h. record {
        texts = h.texts;
        table = shrunk_backing heap 16 (length h.texts) h.table;
        move = in-array (a.1 h.texts h.table h.stand);
        outcome = ap (perform d heap) (shrink-texts h)
            ∙ ap (λ (m : LiveSet). (Done, texts_after h h.texts (shrunk_backing m 16 (length h.texts) h.table)))
            (sym (denotes-live current s.cut.bytes d l.denotes));
      })))
  texts-changed Clear r a = subst (StepsSafely s new key StringsKind (asked.Clear key)) (sym a.0)
      (done-so (cleared (asked.Clear key) a.1 (λ d h. clear-texts h)))
