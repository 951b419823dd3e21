-- The meaning of the tests, for contiguous tiles: the free tree, shared blocks, and orphans.
use Rattle.image_check.proofs.Common.{Field, IsCountedLink, IsTrue, List, Memory, Row, Tile, [], and_from, and_parts}
use Rattle.image_check.proofs.Common.{both_ways, cases_Bool, counted_fields, eq-eqb, eqb-true, false≢true}
use Rattle.image_check.proofs.Common.{has_free_tree, is_orphaned, is_shared, leads_there, list_any, needs_owner, not}
use Rattle.image_check.proofs.Common.{not-true, not_from_false, or_cases, payload, refl, subst, suc, sym, zero, ℕ, ◌&&◌}
use Rattle.image_check.proofs.Common.{◌==◌, ◌∷◌, ◌≡◌, ◌≢◌}
use Rattle.std.specs.Prelude.{◌↔◌}
use Rattle.raw_region.specs.Memory.{word_at}
use Rattle.image_check.specs.Fields.{share_some, share_target}
use Rattle.image_check.specs.Meaning.{HasFreeTree, IsOrphan, IsShared}
use Rattle.image_check.proofs.bytes.Members.{Mem, list_any_false, list_any_from, list_any_of}
use Rattle.image_check.proofs.claims.ReachedLinks.{field}
use Rattle.image_check.proofs.frame.Formats.{tree-passes, tree-said}
use Rattle.image_check.proofs.claims.UnsharedFields.{shared-not}
use Rattle.image_check.proofs.claims.CountedFields.{Contains-Mem, Mem-Contains, is-listed, listed-counts}
use mathlib.Core.Logic.{inl, inr}

-- ---- the free tree

-- if the test of the free tree passes, there is a tree
pub free_tree-means : (format : ℕ) (m : Memory) (ts : List Tile)
    → IsTrue (has_free_tree format m ts) ↔ HasFreeTree format m ts
free_tree-means zero m ts = (λ h. eqb-true (word_at m 24) 1 h, λ h. eq-eqb (word_at m 24) 1 h)
free_tree-means (suc format) m ts = (λ h. tree-said format m ts h, λ h. tree-passes format m ts h)

module _ (format : ℕ) (m : Memory) (ts : List Tile) (end : ℕ) (a : Row 128 ts end) where
  -- ---- blocks that are shared

  record TwoShare (fs : List Field) : Type 0 where
    f : Field
    g : Field
    in_f : Mem f fs
    in_g : Mem g fs
    two_places : f.at ≢ g.at
    one_target : f.target ≡ g.target

  share-of : (x : Field) (fs : List Field) (f : Field) → Mem f fs → IsTrue (share_target x f) → TwoShare (x ∷ fs)
  share-of x fs f h e =
      let p = and_parts (not (x.at == f.at)) (x.target == f.target) e in
      record {
        f = x;
        g = f;
        in_f = inl refl;
        in_g = inr h;
        two_places = λ q. both_ways (x.at == f.at) (not-true (x.at == f.at) p.0) (eq-eqb x.at f.at q);
        one_target = eqb-true x.target f.target p.1;
      }

  some-share : (fs : List Field) → IsTrue (share_some fs) → TwoShare fs
  some-share [] h = absurd (false≢true h)
  some-share (x ∷ fs) h = elim (or_cases (list_any (share_target x) fs) (share_some fs) h) [
    | inl e ↦ (let w = list_any_of (share_target x) fs e in share-of x fs w.one w.mem w.is)
    | inr e ↦ (let w = some-share fs e
        in record {
          f = w.f;
          g = w.g;
          in_f = inr w.in_f;
          in_g = inr w.in_g;
          two_places = w.two_places;
          one_target = w.one_target;
        })
  ]

  -- the test of shared blocks means that one is shared
  pub shared-means : IsTrue (is_shared format m ts) ↔ IsShared format m ts
  shared-means = (
    λ h.
        let w = some-share (counted_fields format m ts) h in
        record {
          first = (w.f).at;
          second = (w.g).at;
          target = (w.f).target;
          two = w.two_places;
          from_first = listed-counts format m ts w.f w.in_f;
          from_second = subst (λ n. IsCountedLink format m ts (w.g).at n) (sym w.one_target)
              (listed-counts format m ts w.g w.in_g);
        },
    λ s. elim (cases_Bool (is_shared format m ts)) [
      | inl e ↦ e
      | inr e ↦
          absurd (s.two (shared-not (counted_fields format m ts) (field s.first s.target) (field s.second s.target) e
          (is-listed format m ts end a s.first s.target s.from_first)
          (is-listed format m ts end a s.second s.target s.from_second) refl))
    ],
  )

  -- ---- orphans

  -- the test of orphans means that one has no owner
  pub orphaned-means : IsTrue (is_orphaned format m ts) ↔ IsOrphan format m ts
  orphaned-means = (
    λ h.
        let w = list_any_of (λ t. needs_owner t && not (list_any (leads_there t) (counted_fields format m ts))) ts h in
        let p = and_parts (needs_owner w.one) (not (list_any (leads_there w.one) (counted_fields format m ts))) w.is in
        record {
          tile = w.one;
          among = Mem-Contains ts w.one w.mem;
          needs = p.0;
          no_owner = λ at c.
              both_ways (list_any (leads_there w.one) (counted_fields format m ts))
              (not-true (list_any (leads_there w.one) (counted_fields format m ts)) p.1)
              (list_any_from (leads_there w.one) (counted_fields format m ts) (field at (payload w.one))
              (is-listed format m ts end a at (payload w.one) c) (eq-eqb (payload w.one) (payload w.one) refl));
        },
    λ o.
        list_any_from (λ t. needs_owner t && not (list_any (leads_there t) (counted_fields format m ts))) ts o.tile
        (Contains-Mem ts o.tile o.among)
        (and_from (needs_owner o.tile) (not (list_any (leads_there o.tile) (counted_fields format m ts))) o.needs
        (not_from_false (list_any (leads_there o.tile) (counted_fields format m ts))
        (list_any_false (leads_there o.tile) (counted_fields format m ts) (λ f h.
        elim (cases_Bool (leads_there o.tile f)) [
          | inr e ↦ e
          | inl e ↦ absurd (o.no_owner f.at
              (subst (λ n. IsCountedLink format m ts f.at n) (eqb-true f.target (payload o.tile) e)
              (listed-counts format m ts f h)))
        ])))),
  )
