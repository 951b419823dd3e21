-- Lists of objects of one class in ascending order of their keys.
use Rattle.image_check.proofs.Common.{List, Memory, None, Option, Some, [], and_from, and_parts, are_ranked, both_ways}
use Rattle.image_check.proofs.Common.{cases_Bool, class_at, false, list_all, list_all-append, refl, rise_by, sym, true}
use Rattle.image_check.proofs.Common.{ℕ, ◌++◌, ◌==◌, ◌∙◌, ◌∷◌, ◌≡◌}
use Rattle.std.proofs.Common.{Bool}
use Rattle.image_check.specs.ObjectPasses.{follows, key_before}
use mathlib.Core.Logic.{inl, inr}

-- the last of a list of handles
abbrev pub last_of : List ℕ → Option ℕ
last_of [] = None
last_of (x ∷ []) = Some x
last_of (x ∷ y ∷ xs) = last_of (y ∷ xs)

-- a handle appended to a list is its last
pub last-of-more : (xs : List ℕ) (h : ℕ) → last_of (xs ++ h ∷ []) ≡ Some h
last-of-more [] h = refl
last-of-more (x ∷ []) h = refl
last-of-more (x ∷ y ∷ xs) h = last-of-more (y ∷ xs) h

module _ (lt : ℕ → ℕ → Bool) where
  -- the number h comes after the last number; true if there is no last number
  abbrev behind : Option ℕ → ℕ → Bool
  behind last h = elim last [ None ↦ true | Some g ↦ lt g h ]

  rise-more : (xs : List ℕ) (h : ℕ) → rise_by lt xs ≡ true → behind (last_of xs) h ≡ true
      → rise_by lt (xs ++ h ∷ []) ≡ true
  rise-more [] h r b = refl
  rise-more (x ∷ []) h r b = and_from (lt x h) true b refl
  rise-more (x ∷ y ∷ xs) h r b =
      let p = and_parts (lt x y) (rise_by lt (y ∷ xs)) r in
      and_from (lt x y) (rise_by lt ((y ∷ xs) ++ h ∷ [])) p.0 (rise-more (y ∷ xs) h p.1 b)

  rise-behind : (xs : List ℕ) (h : ℕ) (back : List ℕ) → rise_by lt (xs ++ h ∷ back) ≡ true
      → behind (last_of xs) h ≡ true
  rise-behind [] h back r = refl
  rise-behind (x ∷ []) h back r = (and_parts (lt x h) (rise_by lt (h ∷ back)) r).0
  rise-behind (x ∷ y ∷ xs) h back r =
      rise-behind (y ∷ xs) h back (and_parts (lt x y) (rise_by lt ((y ∷ xs) ++ h ∷ back)) r).1

module _ (class : ℕ) (m : Memory) where
  abbrev is_of : ℕ → Bool
  is_of at = class_at m at == class

  -- a list stays in order if an object that follows its last object is appended
  pub ranked-more : (xs : List ℕ) (h : ℕ) → are_ranked class m xs ≡ true → follows class m (last_of xs) h ≡ true
      → are_ranked class m (xs ++ h ∷ []) ≡ true
  ranked-more xs h r f =
      let p = and_parts (list_all is_of xs) (rise_by (key_before class m) xs) r in
      let q = and_parts (is_of h) (behind (key_before class m) (last_of xs) h) f in
      and_from (list_all is_of (xs ++ h ∷ [])) (rise_by (key_before class m) (xs ++ h ∷ []))
      (list_all-append is_of xs (h ∷ [])
      ∙ and_from (list_all is_of xs) (list_all is_of (h ∷ [])) p.0 (and_from (is_of h) true q.0 refl))
      (rise-more (key_before class m) xs h p.1 q.1)

  ranked-behind : (xs : List ℕ) (h : ℕ) (back : List ℕ) → are_ranked class m (xs ++ h ∷ back) ≡ true
      → follows class m (last_of xs) h ≡ true
  ranked-behind xs h back r =
      let p = and_parts (list_all is_of (xs ++ h ∷ back)) (rise_by (key_before class m) (xs ++ h ∷ back)) r in
      let q = and_parts (list_all is_of xs) (list_all is_of (h ∷ back)) (sym (list_all-append is_of xs (h ∷ back))
      ∙ p.0) in
      and_from (is_of h) (behind (key_before class m) (last_of xs) h)
      (and_parts (is_of h) (list_all is_of back) q.1).0 (rise-behind (key_before class m) xs h back p.1)

  -- a list is out of order if one of its handles does not follow the handle before
  pub ranked-broken : (xs : List ℕ) (h : ℕ) (back : List ℕ) → follows class m (last_of xs) h ≡ false
      → are_ranked class m (xs ++ h ∷ back) ≡ false
  ranked-broken xs h back f = elim (cases_Bool (are_ranked class m (xs ++ h ∷ back))) [
    | inl r ↦ absurd (both_ways (follows class m (last_of xs) h) f (ranked-behind xs h back r))
    | inr r ↦ r
  ]
