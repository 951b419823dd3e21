-- A text item by item.
use Rattle.std.proofs.Common.{◌≡◌, ℕ, Bool, true, false, cond, List, [], ◌∷◌, Option, Some, None, ap, subst, sym, refl}
use Rattle.std.proofs.Common.{◌∙◌, arith, ◌==◌, ◌||◌, length, ◌≤◌, ◌+◌, ◌++◌, append_assoc, append-nil}
use Rattle.std.proofs.Common.{drop, take}
use Rattle.std.specs.List.{take_while}
use Rattle.std.specs.Option.{option_map, option_and_then, unwrap_or, IsSome}
use Rattle.std.proofs.lemmas.Bool.Decides.{nat_tests}
use Rattle.std.proofs.lemmas.List.{take_all}
use Rattle.std.proofs.lemmas.List.Sums.{take_while-cons}
use Rattle.segment_lang.specs.Lexing.{is_plain, byte_of_digits}
use Rattle.segment_lang.specs.Tokens.{text_at, escaped_at, high_digit_at, item_at, escape_at, digits_at, longer}
use Rattle.segment_lang.specs.Tokens.{closed_at, quote_at, behind_quote, ends_token, behind_opening, behind_text}
use Rattle.segment_lang.specs.Tokens.{spelled_bytes, text_in}
use Rattle.segment_lang.proofs.tokens.LinePrefixes.{kept_more}

-- ---- an item in front

-- an item, and the text after it
abbrev after : Option (ℕ × List ℕ) → Option (List ℕ × List ℕ)
after o = option_and_then (λ x. longer x.0 (text_at x.1)) o

digits_after : (o : Option ℕ) (cs : List ℕ)
    → option_and_then (λ c. longer c (text_at cs)) o ≡ after (option_map {U = ℕ × List ℕ} (λ c. (c, cs)) o)
digits_after None cs = refl
digits_after (Some x) cs = refl

high_digit_after : (cs : List ℕ) → high_digit_at cs ≡ after (digits_at cs)
unfolding digits_at text_at
high_digit_after [] = refl
high_digit_after (c ∷ []) = refl
high_digit_after (c ∷ l ∷ cs) = digits_after (byte_of_digits c l) cs

escape_choice : (q x : Bool) (c : ℕ) (cs : List ℕ) → cond q (longer c (text_at cs)) (cond x (high_digit_at cs) None)
    ≡ after (cond q (Some (c, cs)) (cond x (digits_at cs) None))
escape_choice true x c cs = refl
escape_choice false true c cs = high_digit_after cs
escape_choice false false c cs = refl

escape_after : (cs : List ℕ) → escaped_at cs ≡ after (escape_at cs)
unfolding escape_at text_at
escape_after [] = refl
escape_after (c ∷ cs) = escape_choice ((c == 0x22) || (c == 0x5C)) (c == 0x78) c cs

item_choice : (q e p : Bool) (c : ℕ) (cs : List ℕ)
    → cond q (closed_at cs) (cond e (escaped_at cs) (cond p (longer c (text_at cs)) None))
    ≡ cond q (closed_at cs) (after (cond e (escape_at cs) (cond p (Some (c, cs)) None)))
item_choice q true p c cs = ap (cond q (closed_at cs)) (escape_after cs)
item_choice q false true c cs = refl
item_choice q false false c cs = refl

-- a text ends at a quote, or begins with an item
text_step : (c : ℕ) (cs : List ℕ) → text_at (c ∷ cs) ≡ cond (c == 0x22) (closed_at cs) (after (item_at (c ∷ cs)))
unfolding item_at text_at
text_step c cs = item_choice (c == 0x22) (c == 0x5C) (is_plain c) c cs

quote_is_none : (c : ℕ) → (c == 0x22) ≡ true → ((c == 0x5C) ≡ false) × (is_plain c ≡ false)
quote_is_none c h = grind (arith, nat_tests)

neither : (e p : Bool) (x y : Option (ℕ × List ℕ)) → e ≡ false → p ≡ false → cond e x (cond p y None) ≡ None
neither true p x y f g = cc
neither false true x y f g = cc
neither false false x y f g = refl

no_item : (c : ℕ) (cs : List ℕ) → (c == 0x22) ≡ true → item_at (c ∷ cs) ≡ None
unfolding item_at
no_item c cs h =
    let p = quote_is_none c h in neither (c == 0x5C) (is_plain c) (escape_at cs) (Some (c, cs)) p.0 p.1

item_there : (q : Bool) (end : Option (List ℕ × List ℕ)) (o : Option (ℕ × List ℕ)) (b : ℕ) (r : List ℕ)
    → (q ≡ true → o ≡ None) → o ≡ Some (b, r) → cond q end (after o) ≡ longer b (text_at r)
item_there true end o b r f h = let n = f refl in cc
item_there false end o b r f h = ap after h

nothing_there : (r : List ℕ) (b : ℕ) → item_at [] ≡ Some (b, r) → text_at [] ≡ longer b (text_at r)
unfolding item_at
nothing_there r b h = cc

-- an item is the first byte of the text
pub text_at-item : (bytes r : List ℕ) (b : ℕ) → item_at bytes ≡ Some (b, r) → text_at bytes ≡ longer b (text_at r)
text_at-item [] r b h = nothing_there r b h
text_at-item (c ∷ cs) r b h =
    text_step c cs ∙ item_there (c == 0x22) (closed_at cs) (item_at (c ∷ cs)) b r (no_item c cs) h

behind_longer : (b : ℕ) (t : Option (List ℕ × List ℕ)) → option_map (λ x. x.1) (longer b t) ≡ option_map (λ x. x.1) t
behind_longer b None = refl
behind_longer b (Some x) = refl

-- what is after a text is what is after its rest
pub behind_text-item : (bytes r : List ℕ) (b : ℕ) → item_at bytes ≡ Some (b, r) → behind_text r ≡ behind_text bytes
behind_text-item bytes r b h = sym (ap (option_map (λ x. x.1)) (text_at-item bytes r b h) ∙ behind_longer b (text_at r))

-- where there is no item, there is the quote that ends the text, or nothing that fits
pub text_at-end : (bytes : List ℕ) → item_at bytes ≡ None → text_at bytes ≡ quote_at bytes
unfolding text_at
text_at-end [] h = refl
text_at-end (c ∷ cs) h = text_step c cs ∙ ap (λ o. cond (c == 0x22) (closed_at cs) (after o)) h

-- ---- the bytes, and what is after them

-- no bytes, and what is after them
abbrev nothing_before : List ℕ → Option (List ℕ × List ℕ)
nothing_before cs = Some ([], cs)

-- the bytes of a text
abbrev bytes_in : Option (List ℕ × List ℕ) → List ℕ
bytes_in t = (unwrap_or t ([], [])).0

quote_behind : (q e : Bool) (cs : List ℕ)
    → option_map (λ x. x.1) (cond q (cond e (nothing_before cs) None) None) ≡ cond q (cond e (Some cs) None) None
quote_behind true true cs = refl
quote_behind true false cs = refl
quote_behind false e cs = refl

quote_at-behind : (bytes : List ℕ) → option_map (λ x. x.1) (quote_at bytes) ≡ behind_quote bytes
quote_at-behind [] = refl
quote_at-behind (c ∷ cs) = quote_behind (c == 0x22) (ends_token cs) cs

-- a text without an item ends at its quote
pub behind_text-end : (bytes : List ℕ) → item_at bytes ≡ None → behind_text bytes ≡ behind_quote bytes
behind_text-end bytes h = ap (option_map (λ x. x.1)) (text_at-end bytes h) ∙ quote_at-behind bytes

no_text : (t : Option (List ℕ × List ℕ)) → option_map (λ x. x.1) t ≡ None → t ≡ None
no_text None h = refl
no_text (Some x) h = cc

-- no closing quote: no text
pub text_at-none : (bytes : List ℕ) → behind_text bytes ≡ None → text_at bytes ≡ None
text_at-none bytes h = no_text (text_at bytes) h

a_text : (t : Option (List ℕ × List ℕ)) (r : List ℕ) → option_map (λ x. x.1) t ≡ Some r
    → (IsSome t) × (t ≡ Some (bytes_in t, r))
a_text None r h = cc
a_text (Some (bs, rest)) r h = (refl, let e : rest ≡ r = cc in cc)

-- a closing quote: the text, and what is after it
pub text_at-some : (bytes r : List ℕ) → behind_text bytes ≡ Some r
    → (IsSome (text_at bytes)) × (text_at bytes ≡ Some (text_in bytes, r))
text_at-some bytes r h = a_text (text_at bytes) r h

longer_in : (b : ℕ) (t : Option (List ℕ × List ℕ)) → IsSome (longer b t)
    → (IsSome t) × (bytes_in (longer b t) ≡ b ∷ bytes_in t)
longer_in b None h = cc
longer_in b (Some (bs, rest)) h = (refl, refl)

-- the bytes of a text, one item at a time
pub text_in-item : (bytes r : List ℕ) (b : ℕ) → item_at bytes ≡ Some (b, r) → IsSome (text_at bytes)
    → (IsSome (text_at r)) × (text_in bytes ≡ b ∷ text_in r)
text_in-item bytes r b h s =
    let e = text_at-item bytes r b h in
    let p = longer_in b (text_at r) (subst (λ t. IsSome t) e s) in
    (p.0, ap bytes_in e ∙ p.1)

quote_empty : (q e : Bool) (cs : List ℕ) → bytes_in (cond q (cond e (nothing_before cs) None) None) ≡ []
quote_empty true true cs = refl
quote_empty true false cs = refl
quote_empty false e cs = refl

quote_at-empty : (bytes : List ℕ) → bytes_in (quote_at bytes) ≡ []
quote_at-empty [] = refl
quote_at-empty (c ∷ cs) = quote_empty (c == 0x22) (ends_token cs) cs

-- a text without an item has no byte
pub text_in-end : (bytes : List ℕ) → item_at bytes ≡ None → text_in bytes ≡ []
text_in-end bytes h = ap bytes_in (text_at-end bytes h) ∙ quote_at-empty bytes

-- ---- a text that is copied byte by byte, as far as there is room

-- a byte that is moved leaves the whole text
pub moved_byte : (b : ℕ) (done done' left left' : List ℕ) → done' ≡ take 4096 (done ++ b ∷ []) → left ≡ b ∷ left'
    → take 4096 (done' ++ left') ≡ take 4096 (done ++ left)
moved_byte b done done' left left' d l = kept_more 4096 done' (done ++ b ∷ []) left' d
    ∙ ap (take 4096) (append_assoc done (b ∷ []) left' ∙ ap (λ xs. done ++ xs) (sym l))

-- no byte is left: the text is done
pub last_byte : (done left all : List ℕ) → length done ≤ 4096 → left ≡ [] → take 4096 (done ++ left) ≡ take 4096 all
    → done ≡ take 4096 all
last_byte done left all few l h = sym (take_all 4096 done few)
    ∙ ap (take 4096) (sym (append-nil done) ∙ sym (ap (λ xs. done ++ xs) l)) ∙ h

-- ---- a text with nothing escaped

-- bytes without the quote that opens a text stand for themselves
pub spelled_plain : (bytes : List ℕ) → None ≡ behind_opening bytes → spelled_bytes bytes ≡ bytes
spelled_plain bytes h = sym (ap (λ text. unwrap_or (option_map text_in text) bytes) h)

-- where that quote is in front, the bytes are those of the text after it
pub spelled_text : (bytes text : List ℕ) → Some text ≡ behind_opening bytes → spelled_bytes bytes ≡ text_in text
spelled_text bytes text h = sym (ap (λ text. unwrap_or (option_map text_in text) bytes) h)

-- a plain byte is no quote
no_quote : (c : ℕ) → is_plain c ≡ true → (c == 0x22) ≡ false
no_quote c h = grind (arith, nat_tests)

plain_or_none : (p : Bool) (c : ℕ) (cs : List ℕ) → is_plain c ≡ p → behind_opening (cond p (c ∷ cs) []) ≡ None
plain_or_none true c cs h = ap (λ q. cond q (Some cs) None) (no_quote c h)
plain_or_none false c cs h = refl

-- plain bytes begin with no quote
pub plain_opens_none : (bytes : List ℕ) → behind_opening (take_while is_plain bytes) ≡ None
plain_opens_none [] = refl
plain_opens_none (c ∷ cs) =
    ap behind_opening (take_while-cons is_plain c cs) ∙ plain_or_none (is_plain c) c (take_while is_plain cs) refl

-- a plain byte is no backslash
pub no_backslash : (c : ℕ) → is_plain c ≡ true → (c == 0x5C) ≡ false
no_backslash c h = grind (arith, nat_tests)

-- a plain byte is an item
pub plain_item : (e p : Bool) (c : ℕ) (cs : List ℕ) (x : Option (ℕ × List ℕ)) → e ≡ false → p ≡ true
    → cond e x (cond p (Some (c, cs)) None) ≡ Some (c, cs)
plain_item true p c cs x f g = cc
plain_item false true c cs x f g = refl
plain_item false false c cs x f g = cc

plain_first : (c : ℕ) (cs : List ℕ) → is_plain c ≡ true → item_at (c ∷ cs) ≡ Some (c, cs)
unfolding item_at
plain_first c cs h = plain_item (c == 0x5C) (is_plain c) c cs (escape_at cs) (no_backslash c h) h

quote_there : (q e : Bool) (cs r : List ℕ) (other : Option (List ℕ × List ℕ))
    → cond q (cond e (Some cs) None) None ≡ Some r → cond q (cond e (nothing_before cs) None) other ≡ nothing_before r
quote_there true true cs r other h = let e : cs ≡ r = cc in ap nothing_before e
quote_there true false cs r other h = cc
quote_there false e cs r other h = cc

plain_step : (p : Bool) (c : ℕ) (cs r : List ℕ) → is_plain c ≡ p
    → (behind_quote (drop (length (take_while is_plain cs)) cs) ≡ Some r
    → text_at cs ≡ Some (take_while is_plain cs, r))
    → behind_quote (drop (length (cond p (c ∷ take_while is_plain cs) [])) (c ∷ cs)) ≡ Some r
    → text_at (c ∷ cs) ≡ Some (cond p (c ∷ take_while is_plain cs) [], r)
plain_step true c cs r p f h = text_at-item (c ∷ cs) cs c (plain_first c cs p) ∙ ap (longer c) (f h)
plain_step false c cs r p f h = text_step c cs
    ∙ quote_there (c == 0x22) (ends_token cs) cs r (after (item_at (c ∷ cs))) h

-- where a quote that ends a text stands after plain bytes, the text stands for these very bytes
pub plain_text : (bytes r : List ℕ) → behind_quote (drop (length (take_while is_plain bytes)) bytes) ≡ Some r
    → text_at bytes ≡ Some (take_while is_plain bytes, r)
plain_text [] r h = cc
plain_text (c ∷ cs) r h =
    let prefix = take_while-cons is_plain c cs in
    plain_step (is_plain c) c cs r refl (plain_text cs r)
    (subst (λ prefix. behind_quote (drop (length prefix) (c ∷ cs)) ≡ Some r) prefix h)
    ∙ ap (λ prefix. Some (prefix, r)) (sym prefix)
