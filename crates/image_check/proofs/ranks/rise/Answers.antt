-- Each turn passes one entry.
use Rattle.image_check.proofs.Common.{List, Option, Some, [], add-one, ap, are_ranked, arith, bytes_of, false, length}
use Rattle.image_check.proofs.Common.{link_at, links_in, name_len_at, refl, some_same, subst, sym, true, ℕ, ◌*◌, ◌++◌}
use Rattle.image_check.proofs.Common.{◌+◌, ◌∙◌, ◌∷◌, ◌≡◌, ◌≤◌}
use Rattle.std.proofs.lemmas.List.FromFn.{map-range_with_len_more}
use Rattle.image_check.specs.ObjectPasses.{follows}
use Rattle.image_check.specs.ObjectOffsets.{link_before}
use Rattle.image_check.proofs.bytes.Ranges.{split}
use Rattle.image_check.proofs.indexes.AllEntries.{targets-split, targets_of}
use Rattle.image_check.proofs.indexes.Ranks.{last-of-more, last_of, ranked-broken, ranked-more}
use Rattle.image_check.proofs.ranks.rise.Goals as goal

pub returns-then-not-follows-clause-verdict : goal.returns-then-not-follows-clause-verdict
returns-then-not-follows-clause-verdict c =
    let m = bytes_of c.args.window.now.bytes in
    let f : ℕ → Option ℕ = λ i. link_at m (c.args.block + 8 * i) in
    let s = split f 0 c.entries.i c.args.count c.entries.i (omega arith) c.entries-test.true in
    let front : List (Option ℕ) = links_in m c.args.block c.entries.i in
    let all = ap targets_of s.all ∙ targets-split front s.back (f c.entries.i) c.in-Some.here
    (sym c.link.ensures.link ∙ c.in-Some.is) in
    let off : follows c.args.class m (last_of (targets_of front)) c.in-Some.here ≡ false =
    ap (λ l. follows c.args.class m l c.in-Some.here) (sym c.entries.invariant.last) ∙ sym c.follows.ensures.test
    ∙ c.if-not-follows.true in
    let inv = c.entries.invariant in (
      ap (are_ranked c.args.class m) all
          ∙ ranked-broken c.args.class m (targets_of front) c.in-Some.here (targets_of s.back) off,
      record {
        number = c.entries.i;
        inside = c.entries-test.true;
        is = refl;
        here = c.in-Some.here;
        leads = sym c.link.ensures.link ∙ c.in-Some.is;
        wrong = ap (λ l. follows c.args.class m l c.in-Some.here) (sym inv.behind) ∙ sym c.follows.ensures.test
            ∙ c.if-not-follows.true;
        first = inv.ranked;
      },
    )

pub entries-preserved : goal.entries-preserved
entries-preserved c =
    let m = bytes_of c.args.window.now.bytes in
    let f : ℕ → Option ℕ = λ i. link_at m (c.args.block + 8 * i) in
    let front : List (Option ℕ) = links_in m c.args.block c.entries.i in
    let all : targets_of (links_in m c.args.block (c.entries.i + 1)) ≡ targets_of front ++ c.in-Some.here ∷ [] =
    ap targets_of (map-range_with_len_more f 0 c.entries.i c.entries.i (omega arith))
    ∙ targets-split front [] (f c.entries.i) c.in-Some.here (sym c.link.ensures.link ∙ c.in-Some.is) in
    let on : follows c.args.class m (last_of (targets_of front)) c.in-Some.here ≡ true =
    ap (λ l. follows c.args.class m l c.in-Some.here) (sym c.entries.invariant.last) ∙ sym c.follows.ensures.test
    ∙ c.if-not-follows.false in
    let inv = c.entries.invariant in
    let t = c.entries-test.true in
    record {
      within = omega arith;
      ranked = ap (are_ranked c.args.class m) all
          ∙ ranked-more c.args.class m (targets_of front) c.in-Some.here inv.ranked on;
      last = sym (ap last_of all ∙ last-of-more (targets_of front) c.in-Some.here);
      behind = subst (λ k. Some c.in-Some.here ≡ link_before m c.args.block k) (sym (add-one c.entries.i))
          (sym c.in-Some.is ∙ c.link.ensures.link);
      head = λ g e.
          subst (λ h. h + 16 + name_len_at m h ≤ length c.args.window.now.bytes) (some_same c.in-Some.here g e)
          (c.requires.heads c.entries.i c.in-Some.here t (sym c.link.ensures.link ∙ c.in-Some.is));
      more = omega arith;
      most = omega arith;
    }
