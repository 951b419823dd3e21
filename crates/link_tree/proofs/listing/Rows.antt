-- Lists that are put into a list, and the part of an ordered list that does not precede a probe.
use Rattle.std.proofs.Common.{◌≡◌, ℕ, suc, ◌+◌, ◌≤◌, Bool, true, false, not, List, [], ◌∷◌, ◌++◌, length, set}
use Rattle.std.proofs.Common.{refl, ap, ◌∙◌, arith, length-set}
use Rattle.std.specs.List.{list_all}
use Rattle.std.proofs.lemmas.Bool.{and_parts, not_from_false, not_from_true}
use Rattle.std.proofs.lemmas.List.{set_past}
use Rattle.std.proofs.lemmas.List.Elements.{filter-append}
use Rattle.link_tree.specs.Listing.{filled, nodes_from, placed}

-- what is placed keeps the length of the list
pub placed_length : (list : List ℕ) (at : ℕ) (ns : List ℕ) → length (placed list at ns) ≡ length list
placed_length list at [] = refl
placed_length list at (n ∷ ns) = placed_length (set list at n) (suc at) ns ∙ length-set list at n

-- a full list stays
pub placed_full : (list : List ℕ) (at : ℕ) (ns : List ℕ) → length list ≤ at → placed list at ns ≡ list
placed_full list at [] full = refl
placed_full list at (n ∷ ns) full =
    ap (λ xs. placed xs (suc at) ns) (set_past list at n full) ∙ placed_full list (suc at) ns (omega arith)

-- two lists, one after the other
pub placed_append : (list : List ℕ) (at : ℕ) (ms ns : List ℕ)
    → placed list at (ms ++ ns) ≡ placed (placed list at ms) (at + length ms) ns
placed_append list at [] ns =
    let e : at ≡ at + 0 = omega arith in
    ap (λ k. placed list k ns) e
placed_append list at (m ∷ ms) ns =
    let e : suc at + length ms ≡ at + suc (length ms) = omega arith in
    placed_append (set list at m) (suc at) ms ns ∙ ap (λ k. placed (placed (set list at m) (suc at) ms) k ns) e

-- the first place stays, if what is placed begins behind it
placed_behind : (n : ℕ) (list : List ℕ) (at : ℕ) (ns : List ℕ) → placed (n ∷ list) (suc at) ns ≡ n ∷ placed list at ns
placed_behind n list at [] = refl
placed_behind n list at (m ∷ ms) = placed_behind n (set list at m) (suc at) ms

-- a list from the first place on
pub filled_is : (list ns : List ℕ) → placed list 0 ns ≡ filled list ns
filled_is [] [] = refl
filled_is [] (n ∷ ns) = placed_full [] 0 (n ∷ ns) (omega arith)
filled_is (x ∷ list) [] = refl
filled_is (x ∷ list) (n ∷ ns) = placed_behind n list 0 ns ∙ ap (λ xs. n ∷ xs) (filled_is list ns)

-- ---- the nodes from a probe on

none_from : (before : ℕ → Bool) (ns : List ℕ) → list_all before ns ≡ true → nodes_from before ns ≡ []
none_from before [] a = refl
none_from before (n ∷ ns) a =
    let p = and_parts (before n) (list_all before ns) a in
    let e = not_from_true (before n) p.0 in
    rw e (none_from before ns p.1)

-- all nodes stand behind a probe that none precedes
pub all_listed : (ns : List ℕ) → nodes_from (λ _. false) ns ≡ ns
all_listed [] = refl
all_listed (n ∷ ns) = ap (λ ms. n ∷ ms) (all_listed ns)

all_from_probe : (before : ℕ → Bool) (ns : List ℕ) → list_all (λ n. not (before n)) ns ≡ true
    → nodes_from before ns ≡ ns
all_from_probe before [] a = refl
all_from_probe before (n ∷ ns) a =
    let p = and_parts (not (before n)) (list_all (λ m. not (before m)) ns) a in
    rw p.0 (ap (λ ms. n ∷ ms) (all_from_probe before ns p.1))

-- if a node precedes the probe, like all in front of it, the others stand behind it
pub nodes_from_right : (before : ℕ → Bool) (ms : List ℕ) (n : ℕ) (ns : List ℕ) → list_all before ms ≡ true
    → before n ≡ true → nodes_from before (ms ++ n ∷ ns) ≡ nodes_from before ns
nodes_from_right before ms n ns a b =
    let e = not_from_true (before n) b in
    let f = none_from before ms a in
    filter-append (λ m. not (before m)) ms (n ∷ ns) ∙ rw (f, e) refl

-- if a node does not precede the probe, nor any behind it, all from this node on are listed
pub nodes_from_left : (before : ℕ → Bool) (ms : List ℕ) (n : ℕ) (ns : List ℕ) → before n ≡ false
    → list_all (λ m. not (before m)) ns ≡ true → nodes_from before (ms ++ n ∷ ns) ≡ nodes_from before ms ++ n ∷ ns
nodes_from_left before ms n ns b a =
    let e = not_from_false (before n) b in
    let f = all_from_probe before ns a in
    filter-append (λ m. not (before m)) ms (n ∷ ns) ∙ rw (e, f) refl
