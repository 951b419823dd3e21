-- Searches for the place of a node of the tree.
use Rattle.std.proofs.Common.{◌≡◌, ℕ, ◌≤◌, ◌^◌, Bool, true, false, not, ◌&&◌, Option, Some, None, List, length, sym}
use Rattle.std.proofs.Common.{◌∙◌, ap, refl}
use Rattle.std.proofs.lemmas.Bool.{false≢true}
use Rattle.link_tree.specs.Nodes.{is_in, leads}

-- if each node before one probe is before another, then each node not before the other is not before the first
pub stays_behind : (p q : Bool) → (p ≡ true → q ≡ true) → not q ≡ true → not p ≡ true
stays_behind true q f h = absurd (false≢true (sym (ap not (f refl)) ∙ h))
stays_behind false q f h = refl

-- the nodes stay finite if a condition restricts them
pub both_finite : (b : Bool) (good : ℕ → Bool)
    → ((ns : List ℕ) × (length ns ≤ 2 ^ 40) × ((n : ℕ) → good n ≡ true → is_in n ns ≡ true))
    → ((ns : List ℕ) × (length ns ≤ 2 ^ 40) × ((n : ℕ) → (b && good n) ≡ true → is_in n ns ≡ true))
both_finite true good f = f
both_finite false good f = (f.0, f.1, λ n h. absurd (false≢true h))

pub both_lead : (b : Bool) (good : ℕ → Bool) (n : ℕ) (to : Option ℕ) → (good n ≡ true → leads good to ≡ true)
    → (b && good n) ≡ true
    → leads (λ m. b && good m) to ≡ true
both_lead true good n None f h = refl
both_lead true good n (Some m) f h = f h
both_lead false good n to f h = absurd (false≢true h)
