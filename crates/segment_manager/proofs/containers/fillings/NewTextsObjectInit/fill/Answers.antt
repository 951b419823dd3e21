-- The vector is made with its texts.
use Rattle.seg_types.specs.Commands as asked
use Rattle.segment_manager.proofs.containers.fillings.NewTextsObjectInit.fill.Goals as goal
use Rattle.seg_vector.specs.TextsCalls.{MakesTexts}
use Rattle.segment_manager.proofs.Common.{BackingArray, Bor, ChangesBytes, Err, IsHeap, IsTrue, List, LiveSet}
use Rattle.segment_manager.proofs.Common.{MakesValue, MakesValueOk, Ok, OwnedText, Place, Refusal, ReplacesTexts}
use Rattle.segment_manager.proofs.Common.{Result, Some, Texts, WindowState, [], are_bytes, current, length, list_all}
use Rattle.segment_manager.proofs.Common.{live_of, map, new_array, no_backing, option_to_list, place_at, placed_texts}
use Rattle.segment_manager.proofs.Common.{refl, subst, sym, text_blocks, ℕ, ◌++◌, ◌∷◌, ◌≡◌}
use Rattle.segment_manager.proofs.containers.{MapSteps.good-texts, MapSteps.texts-bytes, NewContainers.unwritten}
use Rattle.segment_manager.proofs.containers.TextPlans.{all-met, all-unmet, beside_array, beside_texts}

module _ (old mid new : WindowState) (p : Place) (change : ChangesBytes current old mid (place_at p) 24) where
  -- its texts are in their blocks
  placed-value : (bss : List (List ℕ)) (t : BackingArray) (ps : List OwnedText) → IsTrue (list_all are_bytes bss)
      → new_array (live_of mid.bytes) (length bss) ≡ Some t → placed_texts (beside_array (live_of mid.bytes) t)
      bss ≡ Some ps → ReplacesTexts mid new p [] (option_to_list t.extent ++ text_blocks ps) ps t
      → MakesValueOk (asked.Strings bss) old new p
  placed-value bss t ps small array placed now =
      let l : LiveSet = live_of mid.bytes in
      record {
        empty = mid;
        change = change;
        value = Texts ps t;
        is_kind = refl;
        len = refl;
        count = refl;
        good = good-texts new.bytes p ps t now.texts (texts-bytes (beside_array l t) bss ps small placed);
        left = beside_texts (beside_array l t) ps;
        given = λ d. record { met = λ next. all-met d l bss (λ u qs. next (Texts qs u)) t ps array placed };
        storage = now.change;
        said = now.texts.words;
      }

-- a new vector with its texts
texts-made : (old new : WindowState) (p : Place) (bss : List (List ℕ)) (r : Result (Unit {0}) Refusal)
    → IsHeap current old.bytes → IsTrue (list_all are_bytes bss) → MakesTexts old new p bss r
    → MakesValue (asked.Strings bss) old new p r
texts-made old new p [] r heap small a = subst (MakesValue (asked.Strings []) old new p) (sym a.0)
    (placed-value old old new p (unwritten old (place_at p) 24 heap) [] no_backing [] refl refl refl a.1)
texts-made old new p (bs ∷ bss) (Ok u) heap small m = placed-value old old new p (unwritten old (place_at p) 24 heap)
    (bs ∷ bss) m.table m.texts small m.array m.placed m.now
texts-made old new p (bs ∷ bss) (Err why) heap small m = record {
  empty = old;
  change = unwritten old (place_at p) 24 heap;
  restored = record { laid = m.restored.laid; keeps = m.restored.keeps };
  denied = λ d next. all-unmet d (live_of old.bytes) (bs ∷ bss) (λ u qs. next (Texts qs u)) m.none;
  refusal = m.refusal;
}

pub returns : goal.returns
returns c = texts-made c.args.heap.now c.with_texts.new.heap c.args.place (map (λ (text : Bor (List ℕ)). text.now)
    c.args.self.now.texts.now) c.with_texts.result c.requires.heap c.judge_all.ensures c.with_texts.ensures
