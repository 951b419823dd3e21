-- Each turn passes one entry.
use Rattle.image_check.proofs.Common.{List, EntersEntries, Option, [], ap, are_enterable, arith, bytes_of, can_enter}
use Rattle.image_check.proofs.Common.{first_targets, inl, inr, is_new, link_at, links_in, refl, subst, sym, true, ℕ}
use Rattle.image_check.proofs.Common.{◌*◌, ◌++◌, ◌+◌, ◌∙◌, ◌∷◌, ◌≡◌}
use Rattle.std.proofs.lemmas.List.FromFn.{map-range_with_len_more}
use Rattle.image_check.proofs.indexes.EntryPlaces.{entered-new, not-new}
use Rattle.image_check.proofs.block_collection.ByNumber.{one-more}
use Rattle.image_check.proofs.bytes.Ranges.{split}
use Rattle.image_check.proofs.indexes.AllEntries.{one-entered, targets_of, wrong-entry}
use Rattle.image_check.proofs.indexes.enter_all.Goals as goal

pub overflow_mul-place : goal.overflow_mul-place
overflow_mul-place c = omega arith

pub overflow_add-place : goal.overflow_add-place
overflow_add-place c = omega arith

pub returns-then-not-enter-clause-entry : goal.returns-then-not-enter-clause-entry
returns-then-not-enter-clause-entry c ts b =
    let m = bytes_of c.args.window.now.bytes in
    let f : ℕ → Option ℕ = λ i. link_at m (c.args.block + 8 * i) in
    let s = split f 0 c.entries.i c.args.count c.entries.i (omega arith) c.entries-test.true in
    let i = c.entries.invariant.entered ts b in
    let old = c.args.owners.now.blocks.entries in
    let es = c.entries.owners.blocks.entries in
    let front = links_in m c.args.block c.entries.i in
    let wrong = ap (can_enter es) (sym c.link-link.ensures.link) ∙ c.if-not-enter.ensures.entry in (
      ap (are_enterable ts old) s.all ∙ wrong-entry ts old es c.args.root front i.1 (f c.entries.i) s.back wrong,
      λ earlier have. record {
        number = c.entries.i;
        inside = c.entries-test.true;
        is = refl;
        wrong = not-new ts old es c.args.root front i.1 earlier have (f c.entries.i) wrong;
        first = c.entries.invariant.new ts b earlier have;
      },
    )

pub entries-preserved : goal.entries-preserved
entries-preserved c =
    let m = bytes_of c.args.window.now.bytes in
    let f : ℕ → Option ℕ = λ i. link_at m (c.args.block + 8 * i) in
    let inv = c.entries.invariant in
    let more = map-range_with_len_more f 0 c.entries.i c.entries.i (omega arith) in
    record {
      within = omega arith;
      entered = λ ts b.
          let old = c.args.owners.now.blocks.entries in
          let new = c.enter.new.owners.blocks.entries in
          let i = inv.entered ts b in
          let front : List (Option ℕ) = links_in m c.args.block c.entries.i in
          let here : front ++ c.link-link.result ∷ [] ≡ links_in m c.args.block (c.entries.i + 1) =
          ap (λ l. front ++ l ∷ []) c.link-link.ensures.link ∙ sym more in
          let r = one-entered ts old c.entries.owners.blocks.entries c.args.root (c.args.block + 8 * c.entries.i)
          front c.link-link.result i.1 i.0 new c.if-not-enter.ensures.entry in (
            ap (are_enterable ts old) (sym here) ∙ r.0,
            subst (λ (ls : List (Option ℕ)). EntersEntries ts old new c.args.root (targets_of ls)) here r.1,
          );
      new = λ ts b earlier have i l.
          let old = c.args.owners.now.blocks.entries in
          let front : List (Option ℕ) = links_in m c.args.block c.entries.i in
          let here = entered-new ts old c.entries.owners.blocks.entries c.args.root front (inv.entered ts b).1
          earlier have c.enter.new.owners.blocks.entries (c.args.block + 8 * c.entries.i) c.link-link.result
          c.if-not-enter.ensures.entry in
          elim (one-more i c.entries.i l) [
            | inl k ↦ inv.new ts b earlier have i k
            | inr k ↦ subst (λ j. is_new ts (earlier ++ first_targets m c.args.block j)
                (link_at m (c.args.block + 8 * j))
                ≡ true) (sym k) (ap (is_new ts (earlier ++ targets_of front)) (sym c.link-link.ensures.link) ∙ here)
          ];
      pending = cc;
      waiting = cc;
      more = omega arith;
      most = omega arith;
    }
