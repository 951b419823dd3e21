-- What holds of each element of a list.
use Rattle.segment_dump.proofs.Common.{◌≡◌, Bool, true, false, List, [], ◌∷◌, cond, map, refl, filter, AllByRecursion}
use Rattle.segment_dump.proofs.Common.{list_all, and_parts}
pub use Rattle.segment_manager.proofs.Laws.{AllByRecursion-append, AllByRecursion-behind, AllByRecursion-front}

-- what holds of anything holds of each element
pub all-any : {X : Type 0} (P : X → Type 0) → ((x : X) → P x) → (xs : List X) → AllByRecursion P xs
all-any P f [] = tt
all-any P f (x ∷ xs) = (f x, all-any P f xs)

-- what follows from what holds of each element
pub all-by : {X : Type 0} (P Q : X → Type 0) (xs : List X) → AllByRecursion P xs → ((x : X) → P x → Q x)
    → AllByRecursion Q xs
all-by P Q [] a f = tt
all-by P Q (x ∷ xs) a f = (f x a.0, all-by P Q xs a.1 f)

-- where each passes a test
pub all-tested : {X : Type 0} (test : X → Bool) (P : X → Type 0) → ((x : X) → test x ≡ true → P x) → (xs : List X)
    → list_all test xs ≡ true → AllByRecursion P xs
all-tested test P f [] e = tt
all-tested test P f (x ∷ xs) e = let p = and_parts (test x) (list_all test xs) e in
    (f x p.0, all-tested test P f xs p.1)

-- of what is made of each
pub all-mapped : {X Y : Type 0} (P : Y → Type 0) (f : X → Y) (xs : List X) → AllByRecursion (λ x. P (f x)) xs
    → AllByRecursion P (map f xs)
all-mapped P f [] a = tt
all-mapped P f (x ∷ xs) a = (a.0, all-mapped P f xs a.1)

-- of those that a test keeps
kept-if : {X : Type 0} (P : X → Type 0) (b : Bool) (x : X) (xs : List X) → (b ≡ true → P x) → AllByRecursion P xs
    → AllByRecursion P (cond b (x ∷ xs) xs)
kept-if P true x xs f a = (f refl, a)
kept-if P false x xs f a = a

-- what follows from the test that each element passed
pub all-kept : {X : Type 0} (P Q : X → Type 0) (test : X → Bool) → ((x : X) → test x ≡ true → P x → Q x) → (xs : List X)
    → AllByRecursion P xs → AllByRecursion Q (filter test xs)
all-kept P Q test f [] a = tt
all-kept P Q test f (x ∷ xs) a = kept-if Q (test x) x (filter test xs) (λ e. f x e a.0) (all-kept P Q test f xs a.1)
