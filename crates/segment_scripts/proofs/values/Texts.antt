-- Texts one after another, by how many bytes each has.
use Rattle.std.proofs.Common.{◌≡◌, refl, sym, ap, ◌∙◌, ℕ, ◌+◌, ◌<◌, ◌≤◌, Result, Ok, Err, List, [], ◌∷◌, ◌++◌, drop}
use Rattle.std.proofs.Common.{get_or, length, take, append_assoc, arith}
use Rattle.std.proofs.lemmas.List.{append-nil, drop-append-le, drop_all, drop_more, length-append, length-drop}
use Rattle.std.proofs.lemmas.List.{length-take-le, take-append-le, take_all}
use Rattle.seg_types.specs.declared.refusals.Refusal.{Refusal}
use Rattle.seg_types.specs.declared.refusals.Refusal.TheVariants.{WrongKind}
use Rattle.seg_types.specs.Commands.{Literal, Quoted, Boolean, Integer}
use Rattle.segment_lang.specs.declared.literals.Literal.{Literal as CodeLiteral}
use Rattle.segment_lang.specs.declared.literals.Literal.TheVariants.{Integer as CodeInteger, Boolean as CodeBoolean}
use Rattle.segment_lang.specs.declared.literals.Literal.TheVariants.{Quoted as CodeQuoted}
use Rattle.segment_lang.specs.Seen.{literal_of}
use Rattle.segment_manager.specs.Step.{texts_of}
use Rattle.segment_scripts.specs.Replies.{bytes_taken, texts_taken}
use Rattle.segment_scripts.specs.TextBuffers.{parts, total}

none : (bs : List ℕ) → 0 ≡ length bs → bs ≡ []
none [] e = refl
none (b ∷ bs) e = absurd (omega arith)

-- one text more after the others
pub parts-more : (ns bs cs : List ℕ) → total ns ≡ length bs
    → parts (ns ++ length cs ∷ []) (bs ++ cs) ≡ parts ns bs ++ cs ∷ []
parts-more [] bs cs e = ap (λ b. take (length cs) (b ++ cs) ∷ []) (none bs e)
    ∙ ap (λ t. t ∷ []) (take_all (length cs) cs (omega arith))
parts-more (n ∷ ns) bs cs e =
    let fits : n ≤ length bs = omega arith in
    let left : total ns ≡ length (drop n bs) = omega (arith, length-drop n bs) in
    (λ i. take-append-le n bs cs fits i ∷ parts (ns ++ length cs ∷ []) (drop-append-le n bs cs fits i))
    ∙ ap (λ l. take n bs ∷ l) (parts-more ns (drop n bs) cs left)

-- one length more adds to the total
pub total-more : (ns : List ℕ) (m : ℕ) → total (ns ++ m ∷ []) ≡ total ns + m
total-more [] m = omega arith
total-more (n ∷ ns) m = let more = total-more ns m in omega arith

-- how many bytes they take, one after each
pub parts-taken : (ns bs : List ℕ) → total ns ≡ length bs → texts_taken (parts ns bs) ≡ length ns + length bs
parts-taken [] bs e = omega arith
parts-taken (n ∷ ns) bs e =
    let fits : n ≤ length bs = omega arith in
    let left : total ns ≡ length (drop n bs) = omega (arith, length-drop n bs) in
    let rest = parts-taken ns (drop n bs) left in
    omega (arith, length-take-le n bs fits, length-drop n bs)

-- what a row has, and a place for the length of one more
module _ (len : ℕ) (lengths bs : List ℕ) {buffer : List (List ℕ)} (is : parts (take len lengths) bs ≡ buffer)
    (fits : total (take len lengths) ≡ length bs) where
  -- the bytes taken by a row are those before and the new text's
  pub buffer-taken : texts_taken buffer ≡ length (take len lengths) + length bs
  buffer-taken = ap texts_taken (sym is) ∙ parts-taken (take len lengths) bs fits

  -- a text that fits a row has a slot in it
  pub buffer-slot : (n : ℕ) → len ≤ 4097 → length lengths ≡ 4097 → texts_taken buffer + n ≤ 4096 → len < length lengths
  buffer-slot n within many few =
      omega (arith, few, many, buffer-taken, length-take-le len lengths (omega (arith, within, many)))

pub taken-more : (ts : List (List ℕ)) (t : List ℕ) → texts_taken (ts ++ t ∷ []) ≡ texts_taken ts + 1 + length t
taken-more [] t = omega arith
taken-more (x ∷ ts) t = let more = taken-more ts t in omega arith

-- ---- the texts of a line, taken one after another

pub taken-append : (ss ts : List (List ℕ)) → texts_taken (ss ++ ts) ≡ texts_taken ss + texts_taken ts
taken-append [] ts = omega arith
taken-append (s ∷ ss) ts = let rest = taken-append ss ts in omega arith

-- those of the row and those that are left are the line's
pub record IsGathered (all rest buffer : List (List ℕ)) : Type 0 where
  pub is : buffer ++ rest ≡ all
  pub few : texts_taken all ≤ 4097

pub gathered-none : (all : List (List ℕ)) → texts_taken all ≤ 4097 → IsGathered all all []
gathered-none all few = record { is = refl; few = few }

module _ (all rest rest' buffer : List (List ℕ)) (t : List ℕ) (h : IsGathered all rest buffer) (next : rest ≡ t ∷
    rest') where
  -- one text more fits the row
  pub gathered-fits : texts_taken buffer + length t ≤ 4096
  gathered-fits =
      let whole : texts_taken (buffer ++ rest) ≡ texts_taken all = ap texts_taken h.is in
      let left : texts_taken rest ≡ texts_taken (t ∷ rest') = ap texts_taken next in
      omega (arith, h.few, taken-append buffer rest)

  pub gathered-more : IsGathered all rest' (buffer ++ t ∷ [])
  gathered-more = record {
    is = append_assoc buffer (t ∷ []) rest' ∙ ap (λ r. buffer ++ r) (sym next) ∙ h.is;
    few
        = h.few;
  }

pub gathered-all : (all rest buffer : List (List ℕ)) → IsGathered all rest buffer → rest ≡ [] → buffer ≡ all
gathered-all all rest buffer h e = sym (append-nil buffer) ∙ ap (λ r. buffer ++ r) (sym e) ∙ h.is

-- ---- literals that are texts

abbrev before : List (List ℕ) → Result (List (List ℕ)) Refusal → Result (List (List ℕ)) Refusal
before buffer (Ok bss) = Ok (buffer ++ bss)
before buffer (Err why) = Err why

before-none : (r : Result (List (List ℕ)) Refusal) → before [] r ≡ r
before-none (Ok bss) = refl
before-none (Err why) = refl

before-more : (buffer : List (List ℕ)) (bs : List ℕ) (r : Result (List (List ℕ)) Refusal)
    → before buffer (elim r as (λ _. Result (List (List ℕ)) Refusal) [ Ok css ↦ Ok (bs ∷ css) | Err w ↦ Err w ])
    ≡ before (buffer ++ bs ∷ []) r
before-more buffer bs (Ok css) = ap Ok (sym (append_assoc buffer (bs ∷ []) css))
before-more buffer bs (Err w) = refl

-- what the literals are as texts, by the row so far and by those that are left
pub record AreTexts (ls rest : List Literal) (buffer : List (List ℕ)) : Type 0 where
  pub values : texts_of ls ≡ before buffer (texts_of rest)
  pub few : texts_taken buffer + bytes_taken rest ≤ 4097

pub texts-none : (ls : List Literal) → bytes_taken ls ≤ 4097 → AreTexts ls ls []
texts-none ls few = record { values = sym (before-none (texts_of ls)); few = omega arith }

module _ (ls rest rest' : List Literal) (buffer : List (List ℕ)) (l : Literal) (h : AreTexts ls rest buffer)
    (next : rest
    ≡ l ∷ rest') where
  -- the next text of the line fits the row
  pub texts-fit : (bs : List ℕ) → l ≡ Quoted bs → texts_taken buffer + length bs ≤ 4096
  texts-fit bs e =
      let left : bytes_taken rest ≡ bytes_taken (Quoted bs ∷ rest') = ap bytes_taken (next ∙ ap (λ m. m ∷ rest') e) in
      omega (arith, h.few)

  -- one text more is in the row
  pub texts-more : (bs : List ℕ) → l ≡ Quoted bs → AreTexts ls rest' (buffer ++ bs ∷ [])
  texts-more bs e =
      let left : bytes_taken rest ≡ bytes_taken (Quoted bs ∷ rest') = ap bytes_taken (next ∙ ap (λ m. m ∷ rest') e) in
      record {
        values = h.values ∙ ap (λ r. before buffer (texts_of r)) (next ∙ ap (λ m. m ∷ rest') e)
            ∙ before-more buffer bs (texts_of rest');
        few = omega (arith, h.few, taken-more buffer bs);
      }

no_text-first : (buffer : List (List ℕ)) (l : Literal) (rest : List Literal) → ((bs : List ℕ) → l ≡ Quoted bs → ⊥)
    → before buffer (texts_of (l ∷ rest)) ≡ Err WrongKind
no_text-first buffer (Integer z) rest n = refl
no_text-first buffer (Boolean b) rest n = refl
no_text-first buffer (Quoted bs) rest n = absurd (n bs refl)

-- a literal that is no text: the line is no row of texts
pub texts-wrong : (ls rest rest' : List Literal) (buffer : List (List ℕ)) (l : CodeLiteral) → AreTexts ls rest buffer
    → rest ≡ literal_of l ∷ rest' → ((q : List ℕ) → l ≡ CodeQuoted q → ⊥) → texts_of ls ≡ Err WrongKind
texts-wrong ls rest rest' buffer l h next n =
    h.values ∙ ap (λ r. before buffer (texts_of r)) next ∙ no_text-first buffer (literal_of l) rest' (other l n)
  where
    other : (l : CodeLiteral) → ((q : List ℕ) → l ≡ CodeQuoted q → ⊥) → (bs : List ℕ) → literal_of l ≡ Quoted bs → ⊥
    other (CodeInteger z) n bs e = absurd (cc)
    other (CodeBoolean b) n bs e = absurd (cc)
    other (CodeQuoted q) n bs e = absurd (n q refl)

-- all literals are texts: the row has them
pub texts-all : (ls rest : List Literal) (buffer : List (List ℕ)) → AreTexts ls rest buffer → rest ≡ [] →
    texts_of ls ≡ Ok buffer
texts-all ls rest buffer h e = h.values ∙ ap (λ r. before buffer (texts_of r)) e ∙ ap Ok (append-nil buffer)

-- ---- texts that are lent, one after another

-- as many texts as lengths
pub parts-length : (ns bs : List ℕ) → length (parts ns bs) ≡ length ns
parts-length [] bs = refl
parts-length (n ∷ ns) bs = omega (arith, parts-length ns (drop n bs))

-- the slices so far and those that are left are all
pub record IsCut (ns bs : List ℕ) (i : ℕ) (rest : List ℕ) (made : List (List ℕ)) : Type 0 where
  pub is : made ++ parts (drop i ns) rest ≡ parts ns bs
  pub fits : total (drop i ns) ≡ length rest
  pub many : length made ≡ i

pub cut-none : (ns bs : List ℕ) → total ns ≡ length bs → IsCut ns bs 0 bs []
cut-none ns bs e = record { is = refl; fits = e; many = refl }

module _ (ns bs : List ℕ) (i : ℕ) (rest : List ℕ) (made : List (List ℕ)) (h : IsCut ns bs i rest made) where
  module _ (more : i < length ns) where
    next : drop i ns ≡ get_or ns i 0 ∷ drop (i + 1) ns
    next = drop_more ns i 0 more

    left : get_or ns i 0 + total (drop (i + 1) ns) ≡ length rest
    left = sym (ap total next) ∙ h.fits

    pub cut-fits : get_or ns i 0 ≤ length rest
    cut-fits = omega (arith, left)

    pub cut-more : IsCut ns bs (i + 1) (drop (get_or ns i 0) rest) (made ++ take (get_or ns i 0) rest ∷ [])
    cut-more = record {
      is = append_assoc made (take (get_or ns i 0) rest ∷ []) (parts (drop (i + 1) ns) (drop (get_or ns i 0) rest))
          ∙ ap (λ l. made ++ parts l rest) (sym next) ∙ h.is;
      fits = omega (arith, left, length-drop (get_or ns i 0) rest);
      many = omega (arith, h.many, length-append made (take (get_or ns i 0) rest ∷ []));
    }

  pub cut-all : length ns ≤ i → made ≡ parts ns bs
  cut-all end = sym (append-nil made) ∙ ap (λ l. made ++ parts l rest) (sym (drop_all i ns end)) ∙ h.is
