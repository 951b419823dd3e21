-- The blocks of a vector of texts among all others: each is in use, and all are different. And their change when a part
-- of the texts is replaced.
use Rattle.best_fit.proofs.Laws.{spread-behind}
use Rattle.seg_vector.proofs.Laws.{blocks-three}
use Rattle.segment_manager.proofs.{Common.◌≡◌, Common.◌≢◌, objects.Exchanged.Exchange, objects.Rewritten.with_value}
use Rattle.segment_manager.proofs.Common.{AllByRecursion, AreDistinct, BackingArray, Extent, List, Object, OwnedText}
use Rattle.segment_manager.proofs.Common.{SameSpread, Texts, [], ap, append_assoc, arith, handle, middle-first}
use Rattle.segment_manager.proofs.Common.{option_to_list, subst, sym, text_blocks, value_extents, ℕ, ◌++◌, ◌∙◌, ◌∷◌}
use Rattle.segment_manager.proofs.directory.LiveSet.{Differs, IsFresh, Rising, all_of-inserted, inserted, rising-insert}

-- ---- extents that rise

differ-handles : (x : Extent) (ys : List Extent) → Differs x ys → AllByRecursion (λ (y : Extent). handle x ≢ handle y)
    ys
differ-handles x [] h = tt
differ-handles x (y ∷ ys) h = ((λ e. h.0 (omega (arith, e))), differ-handles x ys h.1)

-- the inserted extents are all different
pub others-apart : (n : ℕ) (xs zs : List Extent) → Rising n (inserted xs zs) → AreDistinct xs
others-apart n [] zs r = tt
others-apart n (x ∷ xs) zs r =
    let f : IsFresh n x (inserted xs zs) = rising-insert n x (inserted xs zs) r in (
      differ-handles x xs (all_of-inserted (λ (y : Extent). x.offset ≢ y.offset) xs zs f.differs).0,
      others-apart n xs zs f.rest,
    )

-- ---- the order of blocks

-- ---- a part of the texts is replaced

-- some texts replace others, between the same texts
pub record IsPartOther (ps qs out in_place : List OwnedText) : Type 0 where
  pub front : List OwnedText
  pub back : List OwnedText
  pub was : ps ≡ front ++ (out ++ back)
  pub is : qs ≡ front ++ (in_place ++ back)

-- Then the old array and the old texts' blocks are freed, and the new array and the new texts' blocks are allocated.
pub part-exchange : (o : Object) (ps qs out in_place : List OwnedText) (t u : BackingArray) (gone come : List Extent)
    → o.value ≡ Texts ps t → IsPartOther ps qs out in_place → gone ≡ option_to_list t.extent ++ text_blocks out
    → come ≡ option_to_list u.extent ++ text_blocks in_place → Exchange o (with_value o (Texts qs u)) gone come
part-exchange o ps qs out in_place t u gone come e p f g =
    let a : List Extent = option_to_list t.extent in let b : List Extent = option_to_list u.extent in
    let fs : List Extent = text_blocks p.front in let bs : List Extent = text_blocks p.back in
    let before : a ++ (fs ++ (text_blocks out ++ bs)) ≡ value_extents o.value =
    sym (ap value_extents e ∙ ap (λ (xs : List OwnedText). a ++ text_blocks xs) p.was
    ∙ ap (λ (xs : List Extent). a ++ xs) (blocks-three p.front out p.back)) in
    let after : b ++ (fs ++ (text_blocks in_place ++ bs)) ≡ b ++ text_blocks qs = sym (ap (λ (xs : List OwnedText). b
    ++ text_blocks xs) p.is ∙ ap (λ (xs : List Extent). b ++ xs) (blocks-three p.front in_place p.back)) in
    record {
      same = fs ++ bs;
      was = subst (λ (xs : List Extent). SameSpread xs (gone ++ (fs ++ bs))) before
          (subst (λ (xs : List Extent). SameSpread (a ++ (fs ++ (text_blocks out ++ bs))) (xs ++ (fs ++ bs))) (sym f)
          (subst (SameSpread (a ++ (fs ++ (text_blocks out ++ bs)))) (sym (append_assoc a (text_blocks out) (fs ++
          bs))) (spread-behind a (fs ++ (text_blocks out ++ bs)) (text_blocks out ++ (fs ++ bs)) (middle-first
          fs (text_blocks out) bs))));
      is = subst (SameSpread (come ++ (fs ++ bs))) after (subst (λ (xs : List Extent). SameSpread (xs ++ (fs ++ bs))
          (b ++ (fs ++ (text_blocks in_place ++ bs)))) (sym g) (subst (λ (ys : List Extent). SameSpread ys (b ++ (fs ++
          (text_blocks in_place ++ bs)))) (sym (append_assoc b (text_blocks in_place) (fs ++ bs))) (spread-behind
          b (text_blocks in_place ++ (fs ++ bs)) (fs ++ (text_blocks in_place ++ bs)) (middle-first
          (text_blocks in_place) fs bs))));
    }
