-- How a text is compared.
use Rattle.segment_dump.proofs.Common.{◌≡◌, ◌≢◌, ℕ, zero, suc, ◌+◌, ◌<◌, ◌≤◌, List, [], ◌∷◌, ◌++◌, length, take, drop}
use Rattle.segment_dump.proofs.Common.{get_or, Option, Some, None, Result, Ok, Err, slice_get, refl, sym, ap, subst}
use Rattle.segment_dump.proofs.Common.{◌∙◌, append_assoc, arith, option_to_list, take-add, append-nil, drop_at}
use Rattle.segment_dump.proofs.Common.{length-drop, take-append-drop, take_more, slice_get-get_or, Writes, compared}
use Rattle.std.proofs.lemmas.List.{drop-drop, length-take-le}
use Rattle.segment_dump.specs.Comparing.{Compared, IsComparing, IsOther, taken}
use Rattle.segment_dump.proofs.texts.OneReading.{heads, tails}

-- ---- the first byte that is another

-- texts that differ at a place differ
pub unlike-at : (some other : List ℕ) (i : ℕ) → i < length some → i < length other
    → get_or some i 0 ≢ get_or other i 0 → IsOther (drop i some) (slice_get other i)
unlike-at [] other i h l n = absurd (omega arith)
unlike-at (x ∷ xs) [] i h l n = absurd (omega arith)
unlike-at (x ∷ xs) (y ∷ ys) zero h l n = λ rest e. n (heads e)
unlike-at (x ∷ xs) (y ∷ ys) (suc i) h l n = unlike-at xs ys i (omega arith) (omega arith) n

-- ---- what a write takes

module _ (old : Compared) (t bytes behind : List ℕ) (a k f : ℕ) (o : Option ℕ) (view : old
    ≡ record { text = t; at = a; other = o; failures = f }) (none : old.other ≡ None) (split : behind
    ≡ drop a t) (same : take k behind ≡ take k bytes) where
  no-other : o ≡ None
  no-other = sym (ap (λ (x : Compared). x.other) view) ∙ none

  more-taken : take (a + k) t ≡ take a t ++ take k bytes
  more-taken = take-add a k t ∙ ap (λ l. take a t ++ take k l) (sym split) ∙ ap (λ l. take a t ++ l) same

  -- all of them
  pub all-taken : compared (record { text = t; at = a + k; other = o; failures = f })
      ≡ record { bytes = (compared old).bytes ++ take k bytes; failures = old.failures }
  all-taken =
      let text : t ++ (take (a + k) t ++ option_to_list o) ≡ t ++ (take a t ++ option_to_list o) ++ take k bytes =
      ap (λ p. t ++ (take (a + k) t ++ option_to_list p)) no-other
      ∙ ap (λ l. t ++ l) (append-nil (take (a + k) t) ∙ more-taken
      ∙ ap (λ l. l ++ take k bytes) (sym (append-nil (take a t))))
      ∙ sym (append_assoc t (take a t ++ []) (take k bytes))
      ∙ ap (λ p. t ++ (take a t ++ option_to_list p) ++ take k bytes) (sym no-other) in
      let P : Compared → Type 0 = λ x. compared (record { text = t; at = a + k; other = o; failures = f })
      ≡ record { bytes = (compared x).bytes ++ take k bytes; failures = x.failures } in
      subst P (sym view) (λ i. record { bytes = length t ∷ text i; failures = f })

  -- and one more
  pub other-taken : k < length bytes
      → compared (record { text = t; at = a + k; other = Some (get_or bytes k 0); failures = f })
      ≡ record { bytes = (compared old).bytes ++ take (k + 1) bytes; failures = old.failures }
  other-taken l =
      let b = get_or bytes k 0 in
      let one : take (k + 1) bytes ≡ take k bytes ++ b ∷ [] = take_more bytes k 0 l in
      let text : t ++ (take (a + k) t ++ b ∷ []) ≡ t ++ (take a t ++ option_to_list o) ++ take (k + 1) bytes =
      ap (λ l. t ++ l) (ap (λ l. l ++ b ∷ []) more-taken ∙ append_assoc (take a t) (take k bytes) (b ∷ [])
      ∙ ap (λ l. take a t ++ l) (sym one) ∙ ap (λ l. l ++ take (k + 1) bytes) (sym (append-nil (take a t))))
      ∙ sym (append_assoc t (take a t ++ []) (take (k + 1) bytes))
      ∙ ap (λ p. t ++ (take a t ++ option_to_list p) ++ take (k + 1) bytes) (sym no-other) in
      let P : Compared → Type 0 = λ x. compared (record { text = t; at = a + k; other = Some b; failures = f })
      ≡ record { bytes = (compared x).bytes ++ take (k + 1) bytes; failures = x.failures } in
      subst P (sym view) (λ i. record { bytes = length t ∷ text i; failures = f })

  -- a text that differs compares as different
  pub other-compares : k < length bytes → k ≤ length behind → a ≤ length t → IsOther (drop k behind) (slice_get bytes k)
      → IsComparing (record { text = t; at = a + k; other = Some (get_or bytes k 0); failures = f })
  other-compares l m h d = record {
    inside = omega (arith, ap length split, length-drop a t);
    other = subst (λ x. IsOther x (Some (get_or bytes k 0))) (ap (drop k) split
        ∙ drop-drop k a t) (subst (IsOther (drop k behind)) (slice_get-get_or bytes k 0 l) d);
    failed = λ e. absurd (cc);
  }

-- ---- a whole text

append-same : (x y a b : List ℕ) → length x ≡ length y → x ++ a ≡ y ++ b → (x ≡ y) × (a ≡ b)
append-same [] [] a b l e = (refl, e)
append-same [] (y ∷ ys) a b l e = absurd (omega arith)
append-same (x ∷ xs) [] a b l e = absurd (omega arith)
append-same (x ∷ xs) (y ∷ ys) a b l e = let r = append-same xs ys a b (omega arith) (tails e)
    in ((λ i. heads e i ∷ r.0 i), r.1)

-- it has the same text, and has taken this
record HasTaken (new : Compared) (text more : List ℕ) : Type 0 where
  text_is : new.text ≡ text
  taken_is : taken new ≡ more

took : (text more : List ℕ) (new : Compared)
    → (compared new).bytes ≡ (length text ∷ text ++ (take 0 text ++ [])) ++ more → HasTaken new text more
took text more new e =
    let r = append-same new.text text (taken new) more (heads e) (tails e ∙ ap (λ l. l ++ more) (append-nil text)) in
    record { text_is = r.0; taken_is = r.1 }

never-other : (new : Compared) (o : Option ℕ) (text : List ℕ) (count : ℕ) → new.other ≡ o → IsComparing new
    → new.failures ≡ 1 → HasTaken new text (take count text) → ⊥
never-other new None text count e c f h = omega (arith, c.failed e, f)
never-other new (Some b) text count e c f h =
    let prefix = take new.at new.text in
    let parts : take count text ≡ prefix ++ b ∷ [] = sym h.taken_is ∙ ap (λ p. prefix ++ option_to_list p) e in
    let whole : new.text ≡ prefix ++ (b ∷ drop count text) =
    h.text_is ∙ sym (take-append-drop count text) ∙ ap (λ l. l ++ drop count text) parts
    ∙ append_assoc prefix (b ∷ []) (drop count text) in
    let rest : drop new.at new.text ≡ b ∷ drop count text =
    ap (drop new.at) whole ∙ drop_at prefix (b ∷ drop count text) new.at (length-take-le new.at new.text c.inside) in
    let other : IsOther (drop new.at new.text) (Some b) = subst (IsOther (drop new.at new.text)) e c.other in
    other (drop count text) rest

-- a text that is written as it is, is taken whole
module _ {E : Type 0} (text : List ℕ) (old new : Compared) (start : old ≡ record {
  text = text;
  at = 0;
  other = None;
  failures = 0;
}) (c : IsComparing new) where
  from-start : (result : Result (Unit {0}) E) → Writes (compared old) (compared new) result text
      → Writes (compared (record { text = text; at = 0; other = None; failures = 0 })) (compared new) result text
  from-start result w = subst (λ x. Writes (compared x) (compared new) result text) start w

  -- the writer that compares never fails
  pub never-fails : (result : Result (Unit {0}) E) (e : E) → result ≡ Err e
      → Writes (compared old) (compared new) result text → ⊥
  never-fails (Ok x) e q w = cc
  never-fails (Err y) e q w =
      let f = from-start (Err y) w in
      never-other new new.other text f.err.count refl c (omega (arith, f.counted))
      (took text (take f.err.count text) new f.err.added)

  pub all-alike : (result : Result (Unit {0}) E) → Writes (compared old) (compared new) result text
      → taken new ≡ new.text
  all-alike (Ok x) w = let h = took text text new (from-start (Ok x) w).ok in h.taken_is ∙ sym h.text_is
  all-alike (Err e) w = absurd (never-fails (Err e) e refl w)

-- and so is one that is what is owed
pub owed-alike : {E : Type 0} (text owed : List ℕ) (old new : Compared) (x : Unit {0})
    → old ≡ record { text = text; at = 0; other = None; failures = 0 } → IsComparing new
    → Writes {E = E} (compared old) (compared new) (Ok x) owed → text ≡ owed → taken new ≡ new.text
owed-alike {E} text owed old new x start c w e =
    all-alike {E = E} text old new start c (Ok x)
    (subst (λ t. Writes {E = E} (compared old) (compared new) (Ok x) t) (sym e) w)

-- what was taken whole is what was written
pub is-written : {E : Type 0} (text owed : List ℕ) (old new : Compared) (x : Unit {0})
    → old ≡ record { text = text; at = 0; other = None; failures = 0 }
    → Writes {E = E} (compared old) (compared new) (Ok x) owed → taken new ≡ new.text → text ≡ owed
is-written {E} text owed old new x e w h =
    let ok : (compared new).bytes ≡ (length text ∷ text ++ (take 0 text ++ [])) ++ owed =
    subst (λ y. (compared new).bytes ≡ (compared y).bytes ++ owed) e w.ok in
    let k = took text owed new ok in
    sym k.text_is ∙ sym h ∙ k.taken_is
