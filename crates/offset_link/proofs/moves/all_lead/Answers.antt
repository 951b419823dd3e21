use Rattle.std.proofs.Common.{◌≡◌, ℕ, ◌+◌, ◌*◌, ◌%◌, ◌<◌, ◌≤◌, ◌⊎◌, inl, inr, sym, ap, subst, ◌∙◌, arith}
use Rattle.std.specs.Prelude.{Some}
use Rattle.std.proofs.lemmas.Bool.{cases_lt, false≢true}
use Rattle.std.proofs.lemmas.Option.{same_Some}
use Rattle.raw_region.specs.Memory.{Memory, bytes_of}
use Rattle.offset_link.specs.Link.{link_at}
use Rattle.offset_link.specs.Relinked.{AllLinksLead}
use Rattle.offset_link.proofs.moves.ShiftedWords.{all_lead-non_null}
use Rattle.offset_link.proofs.moves.all_lead.Goals as goal

-- the target of the link at i, if all links lead to targets
even : (m : Memory) (at n i target : ℕ) → i < n → link_at m (at + 8 * i) ≡ Some target → AllLinksLead m at n
    → target % 16 ≡ 0
even m at n i target h is all =
    let lead = all.each i h in ap (λ (t : ℕ). t % 16) (same_Some target lead.0 (sym is ∙ lead.1)) ∙ lead.2

-- one link more
one_more : (P : ℕ → Type 0) (i : ℕ) → ((k : ℕ) → k < i → P k) → P i → (k : ℕ) → k < i + 1 → P k
one_more P i before here k h = by_place (cases_lt k i)
  where
    by_place : (k < i) ⊎ (i ≤ k) → P k
    by_place (inl l) = before k l
    by_place (inr l) = let e : i ≡ k = omega arith in subst P e here

pub returns-in_default : goal.returns-in_default
returns-in_default c = (
  λ no. absurd (false≢true no),
  λ all. absurd ((all_lead-non_null (bytes_of c.args.w.now.bytes) c.args.at c.args.n all).each c.links.i
      (omega arith) (sym c.load.ensures ∙ c.in_default.is)),
)

pub returns-then-target-ne0 : goal.returns-then-target-ne0
returns-then-target-ne0 c = (
  λ no. absurd (false≢true no),
  λ all. absurd (c.if-target-ne0.true
      (even (bytes_of c.args.w.now.bytes) c.args.at c.args.n c.links.i c.in-Some.target (omega arith)
      (sym c.load.ensures ∙ c.in-Some.is) all)),
)

pub links-preserved : goal.links-preserved
links-preserved c =
    let m = bytes_of c.args.w.now.bytes in let at = c.args.at in
    one_more (λ k. (target : ℕ) × (link_at m (at + 8 * k) ≡ Some target)
    × (target % 16 ≡ 0)) c.links.i c.links.invariant
    (c.in-Some.target, sym c.load.ensures ∙ c.in-Some.is, c.if-target-ne0.false)
