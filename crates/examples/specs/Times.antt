-- A caller's own plain type: a time of day, an hour and a minute of a byte each.
use Rattle.std.proofs.Common.{◌≡◌, ℕ, ◌+◌, ◌*◌, Bool, true, false, ◌&&◌, List, [], ◌∷◌, nat_lt, arith}

abbrev pub time_bytes : ℕ → ℕ → List ℕ
time_bytes hour minute = hour ∷ minute ∷ []

-- what two bytes say
abbrev pub said_hour : List ℕ → ℕ
said_hour (a ∷ b) = a
said_hour b = 0

abbrev pub said_minute : List ℕ → ℕ
said_minute (a ∷ m ∷ b) = m
said_minute b = 0

abbrev pub are_bytes : ℕ → ℕ → Bool
are_bytes hour minute = nat_lt hour 256 && nat_lt minute 256

-- the order: by hours, and then by minutes
abbrev pub time_rank : ℕ → ℕ → ℕ
time_rank hour minute = hour * 256 + minute

pub time_differs : (g h m n : ℕ) → time_bytes g m ≡ time_bytes h n → (g ≡ h) × (m ≡ n)
time_differs g h m n e = grind arith

pub time_irreflexive : (x : ℕ) → nat_lt x x ≡ false
time_irreflexive x = grind arith

pub time_transitive : (x y z : ℕ) → nat_lt x y ≡ true → nat_lt y z ≡ true → nat_lt x z ≡ true
time_transitive x y z h k = grind arith

one_time : (g h m n : ℕ) → are_bytes g m ≡ true → are_bytes h n ≡ true → time_rank g m ≡ time_rank h n
    → (g ≡ h) × (m ≡ n)
one_time g h m n a b e = grind arith

pub time_total : (g h m n : ℕ) → are_bytes g m ≡ true → are_bytes h n ≡ true
    → nat_lt (time_rank g m) (time_rank h n) ≡ false → nat_lt (time_rank h n) (time_rank g m) ≡ false
    → (g ≡ h) × (m ≡ n)
time_total g h m n a b e f = one_time g h m n a b (grind arith)
