-- A caller's own plain type, for the tests: a truth and a number of 16 bits, in three bytes.
use Rattle.std.proofs.Common.{◌≡◌, ℕ, ◌+◌, ◌^◌, Bool, true, false, List, ◌∷◌, ◌*◌, ◌==◌, nat_lt, if◌then◌else◌, refl}
use Rattle.std.proofs.Common.{arith}
use Rattle.std.specs.Int.{bytes_low_first}

-- the urgent ones by their numbers, and then the others
abbrev pub rank : Bool → ℕ → ℕ
rank urgent number = (if urgent then 0 else 65536) + number

abbrev pub urgency : Bool → ℕ
urgency false = 0
urgency true = 1

abbrev pub ticket_bytes : Bool → ℕ → List ℕ
ticket_bytes urgent number = urgency urgent ∷ bytes_low_first 0 2 number

-- what three bytes say
abbrev pub said_urgent : List ℕ → Bool
said_urgent (a ∷ b) = a == 1
said_urgent b = false

abbrev pub said_number : List ℕ → ℕ
said_number (a ∷ x ∷ y ∷ b) = x + 256 * y
said_number b = 0

abbrev pub is_number : ℕ → Bool
is_number number = nat_lt number (2 ^ 16)

pub one_place : (u v : Bool) (n m : ℕ) → is_number n ≡ true → is_number m ≡ true → rank u n ≡ rank v m
    → (u ≡ v) × (n ≡ m)
one_place false false n m h k e = (refl, grind arith)
one_place true true n m h k e = (refl, grind arith)
one_place false true n m h k e = absurd (grind arith)
one_place true false n m h k e = absurd (grind arith)

pub ticket_differs : (u v : Bool) (n m : ℕ) → is_number n ≡ true → is_number m ≡ true
    → ticket_bytes u n ≡ ticket_bytes v m → (u ≡ v) × (n ≡ m)
ticket_differs u v n m h k e = grind arith

pub ticket_reads : (u : Bool) (n : ℕ) → is_number n ≡ true → (said_urgent (ticket_bytes u n) ≡ u)
    × (said_number (ticket_bytes u n) ≡ n)
ticket_reads false n h = (refl, grind arith)
ticket_reads true n h = (refl, grind arith)

pub ticket_irreflexive : (x : ℕ) → nat_lt x x ≡ false
ticket_irreflexive x = grind arith

pub ticket_transitive : (x y z : ℕ) → nat_lt x y ≡ true → nat_lt y z ≡ true → nat_lt x z ≡ true
ticket_transitive x y z h k = grind arith

pub ticket_total : (u v : Bool) (n m : ℕ) → is_number n ≡ true → is_number m ≡ true
    → nat_lt (rank u n) (rank v m) ≡ false → nat_lt (rank v m) (rank u n) ≡ false → (u ≡ v) × (n ≡ m)
ticket_total u v n m h k e f = one_place u v n m h k (grind arith)
