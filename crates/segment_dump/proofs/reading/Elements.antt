-- The line of an element is read.
use Rattle.segment_dump.proofs.Common.{◌≡◌, ℕ, ℤ, true, List, [], ◌∷◌, ◌++◌, Some, Result, Ok, Err, refl, sym, ap, ◌∙◌}
use Rattle.segment_dump.proofs.Common.{append-nil, option_map, ScalarKind, ScalarValue, is_value, value_text, scalar_of}
use Rattle.segment_dump.proofs.Common.{WholesAreDecimals, next_token, Bare, ReadsElement, ReadsPair, IsTypedPair}
use Rattle.segment_dump.proofs.Common.{ReadsEnd, ReadsLine, ReadsToken, value_token, element_line, pair_line}
use Rattle.segment_dump.proofs.{texts.Elements.pair-no_end, texts.Elements.pair_prefix, texts.Options.never-ok}
use Rattle.segment_dump.proofs.{texts.Options.ok-same, filling.Addition.scalar-kind}
use Rattle.segment_dump.proofs.Common.{IfOk, None, Option, kind_of_scalar, subst}
use Rattle.std.specs.Option.{ok_or}
use Rattle.segment_dump.proofs.texts.Lines.{element-no_end, element-short, element_prefix, pair-short}
use Rattle.segment_dump.proofs.reading.NextTokens.{blank-next, value-next, value-said}

value-is : WholesAreDecimals → (k : ScalarKind) (z : ℤ) → is_value k z ≡ true
    → value_token k (Bare (value_text k z)) ≡ Some (scalar_of k z)
value-is law k z g = ap (option_map (scalar_of k)) (value-said law k z g)

last-value : (k : ScalarKind) (z : ℤ) → next_token (value_text k z) ≡ Some (Bare (value_text k z), [])
last-value k z = ap next_token (sym (append-nil (value_text k z))) ∙ value-next k z [] refl

-- ---- a scalar

kind-if : {E : Type 0} (k : ScalarKind) (r : Option ℤ) (e : E)
    → IfOk (ok_or (option_map (scalar_of k) r) e) (λ v. kind_of_scalar v ≡ k)
kind-if k None e = tt
kind-if k (Some z) e = scalar-kind k z

-- a value that is read has the kind
pub value-kind : {E : Type 0} (k : ScalarKind) (r : Option ℤ) (o : Option ScalarValue) (e : E)
    (result : Result ScalarValue E) → o ≡ option_map (scalar_of k) r → result ≡ ok_or o e
    → IfOk result (λ v. kind_of_scalar v ≡ k)
value-kind {E} k r o e result q is = subst (λ (x : Result ScalarValue E). IfOk x (λ v. kind_of_scalar v ≡ k))
    (sym (is ∙ ap (λ p. ok_or p e) q)) (kind-if k r e)

element-token : (kind : ScalarKind) (z : ℤ) → next_token (element_prefix kind z) ≡ Some (Bare (value_text kind z), [])
element-token kind z = blank-next (0x20 ∷ value_text kind z) ∙ blank-next (value_text kind z) ∙ last-value kind z

module _ {E : Type 0} (wholes : WholesAreDecimals) (kind : ScalarKind) (text rest : List ℕ) where
  element-there : (line left : List ℕ) (r : Result ScalarValue E) → ReadsLine {E = E} text rest (Ok line)
      → ReadsToken (value_token kind) line left r → (z : ℤ) (a : List ℕ) → is_value kind z ≡ true
      → text ≡ element_line kind z ++ a → (r ≡ Ok (scalar_of kind z)) × (left ≡ []) × (rest ≡ a)
  element-there line left r h w z a g e =
      let l = h.reads (element_prefix kind z) a (element-no_end kind z) (element-short kind z) e in
      let is : line ≡ element_prefix kind z = ok-same {E = E} line (element_prefix kind z) l.0 in
      let v = w.reads (Bare (value_text kind z)) [] (scalar_of kind z) (ap next_token is ∙ element-token kind z)
      (value-is wholes kind z g) in
      (v.0, v.1, l.1)

  -- no line: no element is read
  pub element-no_line : (e : E) (result : Result ScalarValue E) → ReadsLine text rest (Err e)
      → ReadsElement kind text rest result
  element-no_line e result h = record {
    reads = λ z a g t.
        absurd (never-ok e (element_prefix kind z)
        (h.reads (element_prefix kind z) a (element-no_end kind z) (element-short kind z) t).0);
  }

  -- a line without a value: no element is read
  pub element-no_value : (line left : List ℕ) (e : E) (result : Result ScalarValue E)
      → ReadsLine {E = E} text rest (Ok line) → ReadsToken (value_token kind) line left (Err e)
      → ReadsElement kind text rest result
  element-no_value line left e result h w =
      record {
        reads = λ z a g t. absurd
            (never-ok e (scalar_of kind z) (element-there line left (Err e) h w z a g t).0);
      }

  -- a line with more after the value: no element is read
  pub element-more : (line left : List ℕ) (v : ScalarValue) (e : E) (result : Result ScalarValue E)
      → ReadsLine {E = E} text rest (Ok line) → ReadsToken {E = E} (value_token kind) line left (Ok v)
      → ReadsEnd left (Err e) → ReadsElement kind text rest result
  element-more line left v e result h w f =
      record {
        reads = λ z a g t. absurd
            (never-ok {X = Unit {0}} e tt (f.reads (element-there line left (Ok v) h w z a g t).1));
      }

  -- a line with a value: an element is read
  pub element-some : (line left : List ℕ) (v : ScalarValue) → ReadsLine {E = E} text rest (Ok line)
      → ReadsToken {E = E} (value_token kind) line left (Ok v) → ReadsElement {E = E} kind text rest (Ok v)
  element-some line left v h w =
      record { reads = λ z a g t. let q = element-there line left (Ok v) h w z a g t in (q.0, q.2) }

-- ---- a pair

key-token : (k w : ScalarKind) (p : ℤ × ℤ) → next_token (pair_prefix k w p) ≡ Some
    (Bare (value_text k p.0), 0x20 ∷ value_text w p.1)
key-token k w p =
    let behind : List ℕ = 0x20 ∷ value_text w p.1 in
    blank-next (0x20 ∷ (value_text k p.0 ++ behind)) ∙ blank-next (value_text k p.0 ++ behind) ∙ value-next k p.0 behind
    refl

second-token : (w : ScalarKind) (p : ℤ × ℤ) → next_token (0x20 ∷ value_text w p.1) ≡ Some (Bare (value_text w p.1), [])
second-token w p = blank-next (value_text w p.1) ∙ last-value w p.1

module _ {E : Type 0} (wholes : WholesAreDecimals) (k w : ScalarKind) (text rest : List ℕ) where
  key-there : (line left : List ℕ) (r : Result ScalarValue E) → ReadsLine {E = E} text rest (Ok line)
      → ReadsToken (value_token k) line left r → (p : ℤ × ℤ) (a : List ℕ) → IsTypedPair k w p
      → text ≡ pair_line k w p ++ a → (r ≡ Ok (scalar_of k p.0)) × (left ≡ 0x20 ∷ value_text w p.1) × (rest ≡ a)
  key-there line left r h f p a g e =
      let l = h.reads (pair_prefix k w p) a (pair-no_end k w p) (pair-short k w p) e in
      let is : line ≡ pair_prefix k w p = ok-same {E = E} line (pair_prefix k w p) l.0 in
      let v = f.reads (Bare (value_text k p.0)) (0x20 ∷ value_text w p.1) (scalar_of k p.0)
      (ap next_token is ∙ key-token k w p) (value-is wholes k p.0 g.0) in
      (v.0, v.1, l.1)

  value-there : (left last : List ℕ) (r : Result ScalarValue E) (p : ℤ × ℤ) → IsTypedPair k w p
      → left ≡ 0x20 ∷ value_text w p.1 → ReadsToken (value_token w) left last r → (r ≡ Ok (scalar_of w p.1)) ×
      (last ≡ [])
  value-there left last r p g e f = f.reads (Bare (value_text w p.1)) [] (scalar_of w p.1)
      (ap next_token e ∙ second-token w p) (value-is wholes w p.1 g.1)

  -- no line: no pair is read
  pub pair-no_line : (e : E) (result : Result (ScalarValue × ScalarValue) E) → ReadsLine text rest (Err e)
      → ReadsPair k w text rest result
  pair-no_line e result h = record {
    reads = λ p a g t.
        absurd (never-ok e (pair_prefix k w p)
        (h.reads (pair_prefix k w p) a (pair-no_end k w p) (pair-short k w p) t).0);
  }

  -- a line without a key: no pair is read
  pub pair-no_key : (line left : List ℕ) (e : E) (result : Result (ScalarValue × ScalarValue) E)
      → ReadsLine {E = E} text rest (Ok line) → ReadsToken (value_token k) line left (Err e)
      → ReadsPair k w text rest result
  pair-no_key line left e result h f =
      record { reads = λ p a g t. absurd (never-ok e (scalar_of k p.0) (key-there line left (Err e) h f p a g t).0) }

  module _ (line left last : List ℕ) (x : ScalarValue) (h : ReadsLine {E = E} text rest (Ok line))
      (f : ReadsToken {E = E} (value_token k) line left (Ok x)) where
    -- a line without a value: no pair is read
    pub pair-no_value : (e : E) (result : Result (ScalarValue × ScalarValue) E)
        → ReadsToken (value_token w) left last (Err e) → ReadsPair k w text rest result
    pair-no_value e result v = record {
      reads = λ p a g t.
          absurd (never-ok e (scalar_of w p.1)
          (value-there left last (Err e) p g (key-there line left (Ok x) h f p a g t).1 v).0);
    }

    -- a line with more after the value: no pair is read
    pub pair-more : (y : ScalarValue) (e : E) (result : Result (ScalarValue × ScalarValue) E)
        → ReadsToken {E = E} (value_token w) left last (Ok y) → ReadsEnd last (Err e) → ReadsPair k w text rest result
    pair-more y e result v n = record {
      reads = λ p a g t.
          absurd (never-ok {X = Unit {0}} e tt
          (n.reads (value-there left last (Ok y) p g (key-there line left (Ok x) h f p a g t).1 v).1));
    }

    -- a line with a key and a value: a pair is read
    pub pair-some : (y : ScalarValue) → ReadsToken {E = E} (value_token w) left last (Ok y)
        → ReadsPair {E = E} k w text rest (Ok (x, y))
    pair-some y v = record {
      reads = λ p a g t.
          let q = key-there line left (Ok x) h f p a g t in
          let u = value-there left last (Ok y) p g q.1 v in
          let one : x ≡ scalar_of k p.0 = ok-same {E = E} x (scalar_of k p.0) q.0 in
          let two : y ≡ scalar_of w p.1 = ok-same {E = E} y (scalar_of w p.1) u.0 in
          ((λ i. Ok (one i, two i)), q.2);
    }
