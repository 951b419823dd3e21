-- Facts about the parts of a world: functions with another value, owners, and what a file and its records encode.
use Rattle.std.proofs.Common.{◌≡◌, ◌⊎◌, inl, inr, ℕ, zero, suc, Bool, true, false, cond, ◌==◌, ◌||◌, ◌&&◌, not, List}
use Rattle.std.proofs.Common.{[], ◌∷◌}
use Rattle.std.proofs.Common.{Option, None, Some, unwrap_or, sym, ◌∙◌, ap, refl, eq-eqb, ne_eqb, true≢false}
use Rattle.std.proofs.lemmas.Bool.{cases_eq}
use Rattle.std.proofs.lemmas.Option.{none-some}
use Rattle.file_protocol.specs.Worlds.{put, beside, has, belongs, newest, records, finds, found_in, without, freed}
use Rattle.file_protocol.specs.Worlds.{has_records, appended, leads_to}

-- the new value is at its place
pub put_same : {X : Type 0} (f : ℕ → X) (i : ℕ) (x : X) → put f i x i ≡ x
put_same f i x = ap (λ b. cond b x (f i)) (eq-eqb i i refl)

-- the same, at a number that is equal
pub put_at : {X : Type 0} (f : ℕ → X) (i : ℕ) (x : X) (j : ℕ) → j ≡ i → put f i x j ≡ x
put_at f i x j is = ap (λ b. cond b x (f j)) (eq-eqb j i is)

-- other values stay
pub put_other : {X : Type 0} (f : ℕ → X) (i : ℕ) (x : X) (j : ℕ) → (j ≡ i → ⊥) → put f i x j ≡ f j
put_other f i x j ne = ap (λ b. cond b x (f j)) (ne_eqb j i ne)

-- `Some` has one argument
pub same_some : (a b : ℕ) → Some a ≡ Some b → a ≡ b
same_some a b h = ap (λ (o : Option ℕ). unwrap_or o a) h

-- `Some` is not `None`
pub some_none : {A : Type 0} (a : ℕ) → Some a ≡ None → A
some_none a h = absurd (none-some a (sym h))

-- `true` is not `false`
pub true_false : {A : Type 0} → true ≡ false → A
true_false h = absurd (true≢false h)

-- what is never `Some` is `None`
pub none_if : (o : Option ℕ) → ((v : ℕ) → o ≡ Some v → ⊥) → o ≡ None
none_if None never = refl
none_if (Some v) never = absurd (never v refl)

-- another owner stays
pub without_other : (p q : ℕ) → (q ≡ p → ⊥) → (o : Option ℕ) → o ≡ Some q → without p o ≡ Some q
without_other p q ne o own = ap (without p) own ∙ ap (λ b. cond b None (Some q)) (ne_eqb q p ne)

-- a lock of another stays when p unlocks a file
pub freed_other : (owner : ℕ → Option ℕ) (p i j q : ℕ) → (q ≡ p → ⊥) → owner j ≡ Some q → freed owner p i j ≡ Some q
freed_other owner p i j q ne own = elim (cases_eq j i) [
  | inl is ↦ ap (λ b. cond b (without p (owner j)) (owner j)) (eq-eqb j i is) ∙ without_other p q ne (owner j) own
  | inr is_not ↦ ap (λ b. cond b (without p (owner j)) (owner j)) (ne_eqb j i is_not) ∙ own
]

-- another lock stays when p unlocks a file
pub freed_apart : (owner : ℕ → Option ℕ) (p i j : ℕ) → (j ≡ i → ⊥) → freed owner p i j ≡ owner j
freed_apart owner p i j ne = ap (λ b. cond b (without p (owner j)) (owner j)) (ne_eqb j i ne)

-- ---- records

-- or with `true`
pub or_true : (b : Bool) → (b || true) ≡ true
or_true true = refl
or_true false = refl

-- a list has its first number
pub has_first : (v : ℕ) (vs : List ℕ) → has v (v ∷ vs) ≡ true
has_first v vs = ap (λ b. b || has v vs) (eq-eqb v v refl)

-- a log belongs to its file with a record more
pub belongs_appended : (image v : ℕ) (c : List ℕ) → belongs image c ≡ true → belongs image (appended image v c) ≡ true
belongs_appended image v [] own = ap (λ b. (v == image) || (b || false)) (eq-eqb image image refl)
    ∙ or_true (v == image)
belongs_appended image v (u ∷ us) own = ap (λ b. (v == image) || b) own ∙ or_true (v == image)

-- the new record is the newest
pub newest_appended : (image v : ℕ) (c : List ℕ) → newest image (appended image v c) ≡ v
newest_appended image v [] = refl
newest_appended image v (u ∷ us) = refl

-- a log belongs to a file of its newest image
pub belongs_newest : (image : ℕ) (c : List ℕ) → belongs image c ≡ true → belongs (newest image c) c ≡ true
belongs_newest image [] own = refl
belongs_newest image (v ∷ vs) own = has_first v vs

-- the image before a record belongs to the log with that record
pub newest_belongs : (image v : ℕ) (c : List ℕ) → belongs (newest image c) (appended image v c) ≡ true
newest_belongs image v [] = ap (λ b. (v == image) || (b || false)) (eq-eqb image image refl) ∙ or_true (v == image)
newest_belongs image v (u ∷ us) = ap (λ b. (v == u) || (b || has u us)) (eq-eqb u u refl) ∙ or_true (v == u)

-- the newest image of a file of the newest image
pub newest_newest : (image : ℕ) (c : List ℕ) → newest (newest image c) c ≡ newest image c
newest_newest image [] = refl
newest_newest image (v ∷ vs) = refl

-- the newest record does not depend on the file
pub newest_any : (image other v : ℕ) (c : List ℕ) → newest other (appended image v c) ≡ v
newest_any image other v [] = refl
newest_any image other v (u ∷ us) = refl

-- a log without records is empty
pub none_recorded : (c : List ℕ) → has_records c ≡ false → c ≡ []
none_recorded [] is = refl
none_recorded (v ∷ vs) is = true_false is

-- ---- what an opening finds

-- the records of a log under the name
pub records_own : (is_log : ℕ → Bool) (content : ℕ → List ℕ) (o : Option ℕ) (l : ℕ) (c : List ℕ)
    → o ≡ Some l → is_log l ≡ true → content l ≡ c → records is_log content o ≡ c
records_own is_log content o l c log_is own is =
    ap (records is_log content) log_is ∙ ap (λ b. cond b (content l) []) own ∙ is

-- a file that is not a log has none
pub records_stranger : (is_log : ℕ → Bool) (content : ℕ → List ℕ) (o : Option ℕ) (l : ℕ)
    → o ≡ Some l → is_log l ≡ false → records is_log content o ≡ []
records_stranger is_log content o l log_is own =
    ap (records is_log content) log_is ∙ ap (λ b. cond b (content l) []) own

-- what is found where the file and the records are known
pub found_at : (image : ℕ → ℕ) (c known : List ℕ) (o : Option ℕ) (i : ℕ) → o ≡ Some i → c ≡ known
    → found_in image c o ≡ finds (image i) known
found_at image c known o i file_is is = ap (found_in image c) file_is ∙ ap (finds (image i)) is

-- a log that belongs to the file gives its newest image
pub finds_own : (image : ℕ) (c : List ℕ) → belongs image c ≡ true → finds image c ≡ Some (newest image c)
finds_own image c own = ap (λ b. cond b (Some (newest image c)) None) own

-- ---- what a log may have

-- the newest possibility of a changed log is its content
pub changed_now : (content : ℕ → List ℕ) (contents : ℕ → ℕ → List ℕ) (l : ℕ) (c : List ℕ) (others : ℕ → List ℕ)
    → ((i : ℕ) → contents i 0 ≡ content i) → others 0 ≡ c → (i : ℕ)
    → put contents l others i 0 ≡ put content l c i
changed_now content contents l c others now first i = elim (cases_eq i l) [
  | inl is ↦ ap (λ (f : ℕ → List ℕ). f 0) (put_at contents l others i is) ∙ first ∙ sym (put_at content l c i is)
  | inr ne ↦ ap (λ (f : ℕ → List ℕ). f 0) (put_other contents l others i ne) ∙ now i ∙ sym (put_other content l c i ne)
]

-- what a synced log may have, it might have before
pub synced_was : (content : ℕ → List ℕ) (contents : ℕ → ℕ → List ℕ) (l : ℕ) (c : ℕ → ℕ)
    → ((i : ℕ) → contents i 0 ≡ content i) → (i : ℕ)
    → put contents l (λ k. content l) i (c i) ≡ contents i (put c l 0 i)
synced_was content contents l c now i = elim (cases_eq i l) [
  | inl is ↦ ap (λ (f : ℕ → List ℕ). f (c i)) (put_at contents l (λ k. content l) i is) ∙ ap content (sym is)
      ∙ sym (now i) ∙ ap (contents i) (sym (put_at c l 0 i is))
  | inr ne ↦ ap (λ (f : ℕ → List ℕ). f (c i)) (put_other contents l (λ k. content l) i ne)
      ∙ ap (contents i) (sym (put_other c l 0 i ne))
]

-- the newest possibility of a synced log is its content
pub synced_now : (content : ℕ → List ℕ) (contents : ℕ → ℕ → List ℕ) (l : ℕ) → ((i : ℕ) → contents i 0 ≡ content i)
    → (i : ℕ) → put contents l (λ k. content l) i 0 ≡ content i
synced_now content contents l now i = elim (cases_eq i l) [
  | inl is ↦ ap (λ (f : ℕ → List ℕ). f 0) (put_at contents l (λ k. content l) i is) ∙ ap content (sym is)
  | inr ne ↦ ap (λ (f : ℕ → List ℕ). f 0) (put_other contents l (λ k. content l) i ne) ∙ now i
]

-- ---- new numbers

-- both parts of an and
pub both_true : (a b : Bool) → (a && b) ≡ true → (a ≡ true) × (b ≡ true)
both_true true b is = (refl, is)
both_true false b is = true_false (sym is)

-- a negation that is true
pub not_true : (a : Bool) → not a ≡ true → a ≡ false
not_true true is = true_false (sym is)
not_true false is = refl

-- a name that leads elsewhere
pub leads_elsewhere : (o : Option ℕ) (n : ℕ) → leads_to o n ≡ false → o ≡ Some n → ⊥
leads_elsewhere o n other is =
    true_false (sym (ap (λ (p : Option ℕ). leads_to p n) is ∙ eq-eqb n n refl) ∙ other)
