-- The line of an object is read.
use Rattle.segment_lang.specs.declared.tokens.Token.TheVariants as held
use Rattle.segment_dump.proofs.Common.{◌≡◌, ◌≢◌, ℕ, ◌^◌, ◌<◌, true, List, [], ◌∷◌, ◌++◌, get_or, Option, Some, None}
use Rattle.segment_dump.proofs.Common.{Result, Ok, Err, if◌then◌else◌, refl, sym, ap, subst, ◌∙◌, arith, append-nil}
use Rattle.segment_dump.proofs.Common.{append_assoc, codes, decimal, current, Class, Anonymous, Named, Unique, Kind}
use Rattle.segment_dump.proofs.Common.{Key, ByName, is_name, kind_text, name_text, whole_language, NumbersAreDecimals}
use Rattle.segment_dump.proofs.Common.{TextsAreSpelled, kind_of_token, number, bytes_said, token_of, next_token, Token}
use Rattle.segment_dump.proofs.Common.{Bare, SegmentState, ObjectLine, ReadsKindAndCount, StartsNext, StartsUnder}
use Rattle.segment_dump.proofs.Common.{class_tokens}
use Rattle.segment_dump.proofs.Common.{key_in, measure_tokens, IsNameIn, DumpItem, count_of_content, kind_of_content}
use Rattle.segment_dump.proofs.Common.{IsTokenOf, ReadsEnd, ReadsToken, any_token, bare_token, text}
use Rattle.seg_types.specs.Texts.{class_text}
use Rattle.segment_lang.specs.declared.tokens.Token.{Token as Held}
use Rattle.segment_dump.specs.{Builders.ReadsClass, Builders.StartsNamed, Lines.bare}
use Rattle.segment_dump.proofs.{texts.Options.never-ok, texts.Options.ok-same, texts.KindTokens.kind-named}
use Rattle.segment_dump.proofs.{texts.LineTokens.bare-test}
use Rattle.segment_dump.proofs.reading.NextTokens.{bare-long, blank-next, decimal-number, kind-next, name-next}
use Rattle.segment_dump.proofs.reading.NextTokens.{number-next}

-- ---- kind and count

kind-there : (kind : Kind) (n : ℕ)
    → next_token (0x20 ∷ measure_tokens kind n) ≡ Some (Bare (kind_text kind), 0x20 ∷ decimal n)
kind-there kind n = blank-next (measure_tokens kind n) ∙ kind-next kind (0x20 ∷ decimal n) refl

count-there : (n : ℕ) → next_token (0x20 ∷ decimal n) ≡ Some (Bare (decimal n), [])
count-there n = blank-next (decimal n) ∙ ap next_token (sym (append-nil (decimal n))) ∙ number-next n [] refl

module _ {E : Type 0} (law : NumbersAreDecimals) (tokens : List ℕ) where
  -- no kind: no shape is read
  pub shape-no_kind : (left : List ℕ) (e : E) (result : Result ObjectLine E)
      → ReadsToken (kind_of_token (whole_language current)) tokens left (Err e) → ReadsKindAndCount tokens result
  shape-no_kind left e result h =
      record {
        reads = λ kind n c t.
            absurd (never-ok e kind (h.reads (Bare (kind_text kind)) (0x20 ∷ decimal n) kind (ap next_token t
            ∙ kind-there kind n) (kind-named kind)).0);
      }

  count-read : (left last : List ℕ) (k : Kind) (r : Result ℕ E)
      → ReadsToken {E = E} (kind_of_token (whole_language current)) tokens left (Ok k) → ReadsToken number left last r
      → (kind : Kind) (n : ℕ) → n < 2 ^ 64 → tokens ≡ 0x20 ∷ measure_tokens kind n → (k ≡ kind) × (r ≡ Ok n) ×
      (last ≡ [])
  count-read left last k r h f kind n c t =
      let q = h.reads (Bare (kind_text kind)) (0x20 ∷ decimal n) kind (ap next_token t
      ∙ kind-there kind n) (kind-named kind) in
      let u = f.reads (Bare (decimal n)) [] n (ap next_token q.1 ∙ count-there n) (decimal-number law n c) in
      (ok-same {E = E} k kind q.0, u.0, u.1)

  -- no count: no shape is read
  pub shape-no_count : (left last : List ℕ) (k : Kind) (e : E) (result : Result ObjectLine E)
      → ReadsToken {E = E} (kind_of_token (whole_language current)) tokens left (Ok k) → ReadsToken number left
      last (Err e)
      → ReadsKindAndCount tokens result
  shape-no_count left last k e result h f =
      record { reads = λ kind n c t. absurd (never-ok e n (count-read left last k (Err e) h f kind n c t).1) }

  -- more after the count: no shape is read
  pub shape-more : (left last : List ℕ) (k : Kind) (m : ℕ) (e : E) (result : Result ObjectLine E)
      → ReadsToken {E = E} (kind_of_token (whole_language current)) tokens left (Ok k)
      → ReadsToken {E = E} number left last (Ok m) → ReadsEnd last (Err e) → ReadsKindAndCount tokens result
  shape-more left last k m e result h f g =
      record {
        reads = λ kind n c t.
            absurd (never-ok {X = Unit {0}} e tt (g.reads (count-read left last k (Ok m) h f kind n c t).2));
      }

  -- a kind and a count: the shape is read
  pub shape-some : (left last : List ℕ) (k : Kind) (m at : ℕ)
      → ReadsToken {E = E} (kind_of_token (whole_language current)) tokens left (Ok k)
      → ReadsToken {E = E} number left last (Ok m)
      → ReadsKindAndCount {E = E} tokens (Ok (record { kind = k; count = m; at = at }))
  shape-some left last k m at h f = record {
    reads = λ kind n c t.
        let q = count-read left last k (Ok m) h f kind n c t in
        let same : m ≡ n = ok-same {E = E} m n q.1 in
        (at, (λ i. Ok (record { kind = q.0 i; count = same i; at = at })));
  }

-- ---- the class

class-same : (c d : Class) → class_text c ≡ class_text d → c ≡ d
class-same Named Named e = refl
class-same Unique Unique e = refl
class-same Anonymous Anonymous e = refl
class-same c d e = absurd (omega (arith, ap (λ l. get_or l 0 0) e))

none-by : (c : Class) (bytes : List ℕ) → bytes ≢ codes "named" → bytes ≢ codes "unique" → bytes ≢ codes "anonymous"
    → bytes ≡ class_text c → ⊥
none-by Named bytes n u a e = n e
none-by Unique bytes n u a e = u e
none-by Anonymous bytes n u a e = a e

module _ {E : Type 0} (tokens left : List ℕ) where
  -- no word: no class is read
  pub class-unread : (e : E) (result : Result Class E) → ReadsToken bare_token tokens left (Err e)
      → ReadsClass tokens left result
  class-unread e result h = record {
    reads = λ c a f.
        absurd (never-ok e (class_text c) (h.reads (Bare (class_text c)) a (class_text c) f refl).0);
  }

  -- the word of a class: the class is read
  pub class-is : (bytes : List ℕ) (d : Class) → bytes ≡ class_text d
      → ReadsToken {E = E} bare_token tokens left (Ok bytes) → ReadsClass {E = E} tokens left (Ok d)
  class-is bytes d e h = record {
    reads = λ c a f.
        let q = h.reads (Bare (class_text c)) a (class_text c) f refl in
        let same : bytes ≡ class_text c = ok-same {E = E} bytes (class_text c) q.0 in
        (ap Ok (class-same d c (sym e ∙ same)), q.1);
  }

  -- another word: no class is read
  pub class-none : (bytes : List ℕ) (result : Result Class E) → bytes ≢ codes "named" → bytes ≢ codes "unique"
      → bytes ≢ codes "anonymous" → ReadsToken {E = E} bare_token tokens left (Ok bytes) → ReadsClass tokens left result
  class-none bytes result n u a h =
      record {
        reads = λ c b f. absurd
            (none-by c bytes n u a (ok-same {E =
            E} bytes (class_text c) (h.reads (Bare (class_text c)) b (class_text c) f refl).0));
      }

-- what stands after it
abbrev pub behind_class : Class → List ℕ → List ℕ → List ℕ
behind_class Named name m = 0x20 ∷ (name_text name ++ 0x20 ∷ m)
behind_class Unique name m = 0x20 ∷ m
behind_class Anonymous name m = 0x20 ∷ m

class-apart : (c : Class) (name m : List ℕ) → class_tokens c name ++ m ≡ class_text c ++ behind_class c name m
class-apart Named name m = ap (λ l. codes "named " ++ l) (append_assoc (name_text name) (0x20 ∷ []) m)
class-apart Unique name m = refl
class-apart Anonymous name m = refl

class-next : (c : Class) (name m : List ℕ)
    → next_token (class_text c ++ behind_class c name m) ≡ Some (Bare (class_text c), behind_class c name m)
class-next Named name m = bare-long (codes "named") (behind_class Named name m) (omega arith)
    (bare-test (codes "named") refl) refl
class-next Unique name m = bare-long (codes "unique") (behind_class Unique name m) (omega arith)
    (bare-test (codes "unique") refl) refl
class-next Anonymous name m = bare-long (codes "anonymous") (behind_class Anonymous name m) (omega arith)
    (bare-test (codes "anonymous") refl) refl

class-there : (i : DumpItem) (tokens : List ℕ) → tokens ≡ class_tokens i.class i.name
    ++ measure_tokens (kind_of_content i.content) (count_of_content i.content) → next_token tokens ≡ Some (
      Bare (class_text i.class),
      behind_class i.class i.name (measure_tokens (kind_of_content i.content) (count_of_content i.content)),
    )
class-there i tokens e = let m = measure_tokens (kind_of_content i.content) (count_of_content i.content)
    in ap next_token (e ∙ class-apart i.class i.name m) ∙ class-next i.class i.name m

-- ---- an object is started by its class

module _ {E F : Type 0} (old new : SegmentState) (tokens left : List ℕ) where
  -- no class: no object is started
  pub next-unread : (e : E) (result : Result (ℕ × ObjectLine) F) → ReadsClass tokens left (Err e)
      → StartsNext old new tokens result
  next-unread e result h = record {
    starts = λ site done i more room next w.
        absurd (never-ok e i.class (h.reads i.class
        (behind_class i.class i.name (measure_tokens (kind_of_content i.content) (count_of_content i.content)))
        (class-there i tokens w)).0);
  }

  -- the class of names: a named object is started
  pub next-named : (d : Class) (result : Result (ℕ × ObjectLine) F) → ReadsClass {E = E} tokens left (Ok d)
      → d ≡ Named → StartsNamed old new left result → StartsNext old new tokens result
  next-named d result h n s = record {
    starts = λ site done i more room next w.
        let m = measure_tokens (kind_of_content i.content) (count_of_content i.content) in
        let q = h.reads i.class (behind_class i.class i.name m) (class-there i tokens w) in
        let class : i.class ≡ Named = sym (ok-same {E = E} d i.class q.0) ∙ n in
        s.starts site done i more room next class (q.1 ∙ ap (λ c. behind_class c i.name m) class);
  }

  -- another class: an object is started under its key
  pub next-under : (d : Class) (result : Result (ℕ × ObjectLine) F) (key : Kind → Key)
      → ReadsClass {E = E} tokens left (Ok d) → ((name : List ℕ) (kind : Kind) → key kind ≡ key_in d name kind)
      → ((name m : List ℕ) → behind_class d name m ≡ 0x20 ∷ m)
      → StartsUnder old new key left result → StartsNext old new tokens result
  next-under d result key h k b s = record {
    starts = λ site done i more room next w.
        let kind = kind_of_content i.content in
        let m = measure_tokens kind (count_of_content i.content) in
        let q = h.reads i.class (behind_class i.class i.name m) (class-there i tokens w) in
        let class : d ≡ i.class = ok-same {E = E} d i.class q.0 in
        s.starts site done i more room next (k i.name kind ∙ ap (λ c. key_in c i.name kind) class) (q.1
        ∙ ap (λ c. behind_class c i.name m) (sym class) ∙ b i.name m);
  }

-- ---- a name

said-name : (w : Held) (token : Token) (name : List ℕ) → token_of w ≡ token → IsTokenOf name token → bytes_said w ≡ name
said-name (held.Bare b) token name e bare = cc
said-name (held.Bare b) token name e text = absurd (cc)
said-name (held.Text t) token name e bare = absurd (cc)
said-name (held.Text t) token name e text = cc

-- what its word stands for
record Said (left : List ℕ) (i : DumpItem) (bytes : List ℕ) : Type 0 where
  is : bytes ≡ i.name
  good : is_name current i.name ≡ true
  behind : left ≡ 0x20 ∷ measure_tokens (kind_of_content i.content) (count_of_content i.content)

name-there : (o : Option (List ℕ)) (bytes name : List ℕ) → o ≡ (if is_name current bytes then Some bytes else None)
    → bytes ≡ name → is_name current name ≡ true → o ≡ Some name
name-there o bytes name e f g =
    e ∙ ap (λ l. if is_name current l then Some l else None) f ∙ ap (λ b. if b then Some name else None) g

module _ {E : Type 0} (law : TextsAreSpelled) (tokens left : List ℕ) where
  said : (w : Held) → ReadsToken {E = E} any_token tokens left (Ok (token_of w))
      → (i : DumpItem) → IsNameIn i.class i.name → i.class ≡ Named → tokens ≡ 0x20 ∷ (name_text i.name
      ++ 0x20 ∷ measure_tokens (kind_of_content i.content) (count_of_content i.content)) → Said left i (bytes_said w)
  said w h i g c t =
      let m = measure_tokens (kind_of_content i.content) (count_of_content i.content) in
      let good = subst (λ c. IsNameIn c i.name) c g in
      let n = name-next law i.name (0x20 ∷ m) good.1 refl in
      let q = h.reads n.token (0x20 ∷ m) n.token (ap next_token t ∙ blank-next (name_text i.name ++ 0x20 ∷ m)
      ∙ n.is) refl in
      record {
        is = said-name w n.token i.name (ok-same {E = E} (token_of w) n.token q.0) n.of;
        good = good.0;
        behind = q.1;
      }

module _ {E F : Type 0} (law : TextsAreSpelled) (old new : SegmentState) (tokens left : List ℕ) where
  -- no name: no object is started
  pub named-unread : (e : E) (result : Result (ℕ × ObjectLine) F) → ReadsToken any_token tokens left (Err e)
      → StartsNamed old new tokens result
  named-unread e result h = record {
    starts = λ site done i more room next c w.
        let m = measure_tokens (kind_of_content i.content) (count_of_content i.content) in
        let good = subst (λ c. IsNameIn c i.name) c next.good.name in
        let n = name-next law i.name (0x20 ∷ m) good.1 refl in
        absurd (never-ok e n.token (h.reads n.token (0x20 ∷ m) n.token (ap next_token w
        ∙ blank-next (name_text i.name ++ 0x20 ∷ m) ∙ n.is) refl).0);
  }

  -- a name that is none: no object is started
  pub named-none : (w : Held) (o : Option (List ℕ)) (result : Result (ℕ × ObjectLine) F)
      → ReadsToken {E = E} any_token tokens left (Ok (token_of w))
      → o ≡ (if is_name current (bytes_said w) then Some (bytes_said w) else None) → o ≡ None
      → StartsNamed old new tokens result
  named-none w o result h e f = record {
    starts = λ site done i more room next c t.
        let s = said {E = E} law tokens left w h i next.good.name c t in
        let some : o ≡ Some i.name = name-there o (bytes_said w) i.name e s.is s.good in
        absurd (cc);
  }

  -- a name: an object is started under it
  pub named-some : (w : Held) (o : Option (List ℕ)) (name : List ℕ) (result : Result (ℕ × ObjectLine) F)
      → ReadsToken {E = E} any_token tokens left (Ok (token_of w))
      → o ≡ (if is_name current (bytes_said w) then Some (bytes_said w) else None) → o ≡ Some name
      → StartsUnder old new (λ kind. ByName name) left result → StartsNamed old new tokens result
  named-some w o name result h e f u = record {
    starts = λ site done i more room next c t.
        let s = said {E = E} law tokens left w h i next.good.name c t in
        let some : o ≡ Some i.name = name-there o (bytes_said w) i.name e s.is s.good in
        let same : name ≡ i.name = cc in
        u.starts site done i more room next (ap ByName same
        ∙ ap (λ c. key_in c i.name (kind_of_content i.content)) (sym c)) s.behind;
  }
