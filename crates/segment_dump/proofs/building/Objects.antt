-- All objects of a text are built, one after another.
use Rattle.segment_dump.proofs.texts.QuotedTexts as said
use Rattle.segment_dump.proofs.Common.{◌≡◌, ◌≢◌, ℕ, suc, ◌+◌, ◌<◌, ◌≤◌, ◌==◌, Bool, true, false, cond, List, [], ◌∷◌}
use Rattle.segment_dump.proofs.Common.{◌++◌, length, get_or, Result, Ok, Err, refl, sym, ap, subst, ◌∙◌, arith}
use Rattle.segment_dump.proofs.Common.{append-nil, append_assoc, codes, eq-eqb, length-append, Class, Anonymous, Named}
use Rattle.segment_dump.proofs.Common.{Unique, Kind, class_code, name_text, bare, SegmentState, ObjectLine, AreLeft}
use Rattle.segment_dump.proofs.Common.{BuildsAllObjects, FillsNew, HasIndexSlot, IsEmptyObject, IsFillable}
use Rattle.segment_dump.proofs.Common.{CanBuildItem, StartsNext, content_need, first_content, class_tokens}
use Rattle.segment_dump.proofs.Common.{count_class, measure_tokens, of_class, FillState, IsNameIn, StandsBuilt}
use Rattle.segment_dump.proofs.Common.{StandsFilling, DumpItem, count_of_content, kind_of_content, IsShortLine}
use Rattle.segment_dump.proofs.Common.{ReadsLine, all_needs, item_needs, HasNoEnd, ended, content_text, end_text}
use Rattle.segment_dump.proofs.{Common.head_line, Common.item_text, Common.items_text, texts.Options.never-ok}
use Rattle.segment_dump.proofs.{texts.Options.ok-same, building.MachineSteps.filled-at}
use Rattle.segment_dump.proofs.Common.{ByHandle, Head, Object, Site, Value, kind_of, object_at, said-at}
use Rattle.seg_types.specs.declared.kinds.Kind.TheVariants as kinds
use Rattle.std.proofs.lemmas.Option.{same_Some}
use Rattle.segment_manager.specs.{declared.objects.object_ref.Object.Object as Located, objects.Located.IsObject}
use Rattle.segment_values.proofs.Located.{of-handle}
use Rattle.segment_dump.proofs.{texts.QuotedTexts.IsName, texts.QuotedTexts.name-is, building.NewObjects.items-rest}
use Rattle.segment_dump.proofs.{building.ObjectOrder.of-both}
use Rattle.segment_dump.specs.{Builders.BuildsObject, Builders.IsAtItems, Builders.AcceptsEnd, Building.head_tokens}
use Rattle.segment_dump.proofs.texts.Elements.{no_end-both, quoted-no_end, token-no_end, no_end-test}
use Rattle.segment_dump.proofs.texts.Lines.{measure-no_end, measure-short, name-short}

-- ---- one object

-- an object with its first contents has its kind
first-kind : (kind : Kind) (n : ℕ) → kind_of (bare (first_content kind n)) ≡ kind
first-kind (kinds.Scalar k) n = refl
first-kind kinds.String n = refl
first-kind (kinds.Vector k) n = refl
first-kind (kinds.Map k v) n = refl
first-kind kinds.Strings n = refl

-- an object that is located during its filling has the kind of its value
located-kind : {s : SegmentState} (o : Located) (here : IsObject o s) {site : Site} {done : List DumpItem} {head : Head}
    {v : Value} {rest : ℕ} → (st : StandsFilling s site done head v rest) → o.handle ≡ head.handle → o.kind ≡ kind_of v
located-kind {s} o here {site} {done} {head} {v} {rest} st e =
    let key = ByHandle o.handle in
    let p = said-at s key o (of-handle here) st.directory st.stands in
    let there = ap (λ h. object_at st.directory (ByHandle h)) e
    ∙ filled-at st.directory site done head v rest st.stands.denotes.directory st.filling in
    ap (λ (q : Located). q.kind) p.said
    ∙ ap (λ (q : Object). kind_of q.value) (same_Some p.object st.filling.object (sym p.is ∙ there))
    ∙ ap kind_of st.filling.value_is

module _ {E F : Type 0} (old mid : SegmentState) (tokens : List ℕ) where
  -- if the object was not made, no item has this line, and `BuildsObject` holds
  pub object-unstarted : (new : SegmentState) (text rest : List ℕ) (room : ℕ) (e : E) (result : Result (Unit {0}) F)
      → StartsNext old mid tokens (Err e) → BuildsObject old new tokens text rest room result
  object-unstarted new text rest room e result s =
      record {
        builds = λ site done i more a next w t. let q = s.starts site done i more room next w
            in absurd (never-ok e (
              q.handle,
              record { kind = kind_of_content i.content; count = count_of_content i.content; at = q.at },
            ) q.is);
      }

  -- an object that was made and filled is built
  pub object-built : (new : SegmentState) (text rest : List ℕ) (room h : ℕ) (shape : ObjectLine)
      (result : Result (Unit {0}) F) → StartsNext {E = E} old mid tokens (Ok (h, shape))
      → (o : Located) → o.handle ≡ h → IsObject o mid
      → FillsNew mid new o.handle o.kind shape.count text rest room result
      → BuildsObject old new tokens text rest room result
  object-built new text rest room h shape result s o own here f = record {
    builds = λ site done i more a next w t.
        let q = s.starts site done i more room next w in
        let said : ObjectLine = record {
          kind = kind_of_content i.content;
          count = count_of_content i.content;
          at = q.at;
        } in
        let both : ◌≡◌ {A = ℕ × ObjectLine} (h, shape) (q.handle, said) =
        ok-same {E = E} (h, shape) (q.handle, said) q.is in
        let p : FillState = record {
          site = site;
          done = done;
          class = i.class;
          name = i.name;
          content = i.content;
          more = more;
          after = a;
        } in
        let handle_is : o.handle ≡ q.handle = own ∙ ap (λ (b : ℕ × ObjectLine). b.0) both in
        let good : IsFillable p o.kind room =
        record {
          kind_is = sym (located-kind o here q.stands handle_is
              ∙ first-kind (kind_of_content i.content) (count_of_content i.content));
          good = next.good.content;
          rest = next.rest;
          longest = next.longest;
        } in
        let begun : IsEmptyObject mid text p o.handle = record {
          stands = subst (λ g. StandsFilling mid site done (record { class = i.class; name = i.name; handle = g })
              (bare (first_content (kind_of_content i.content) (count_of_content i.content)))
              (content_need i.content + more)) (sym handle_is) q.stands;
          text_is = t;
        } in
        let r = f.fills p good (ap (λ (b : ℕ × ObjectLine). b.1.count) both) begun in
        (r.0, r.1.stands, r.1.text_is);
  }

-- ---- the line of an object

name-no_end : (name t : List ℕ) → IsName name t → HasNoEnd t
name-no_end name t (said.bare c cs e n w f) = subst HasNoEnd (sym f) (token-no_end name w)
name-no_end name t (said.quoted f) = subst HasNoEnd (sym f) (quoted-no_end name)

-- the words of a class have no line end
pub class-no_end : (c : Class) (name : List ℕ) → HasNoEnd (class_tokens c name)
class-no_end Named name =
    no_end-both (codes "named " ++ name_text name) (0x20 ∷ [])
    (no_end-both (codes "named ") (name_text name) (no_end-test (codes "named ") refl)
    (name-no_end name (name_text name) (name-is name))) (no_end-test (0x20 ∷ []) refl)
class-no_end Unique name = no_end-test (codes "unique ") refl
class-no_end Anonymous name = no_end-test (codes "anonymous ") refl

class-short : (c : Class) (name : List ℕ) → IsNameIn c name → length (class_tokens c name) ≤ 1030
class-short Named name h = omega (
  arith,
  name-short name,
  h.2,
  length-append (codes "named " ++ name_text name) (0x20 ∷ []),
  length-append (codes "named ") (name_text name),
)
class-short Unique name h = omega arith
class-short Anonymous name h = omega arith

head-no_end : (i : DumpItem) → HasNoEnd (head_tokens i)
head-no_end i = no_end-both (class_tokens i.class i.name)
    (measure_tokens (kind_of_content i.content) (count_of_content i.content)) (class-no_end i.class i.name)
    (measure-no_end (kind_of_content i.content) (count_of_content i.content))

head-short : (i : DumpItem) → IsNameIn i.class i.name → IsShortLine (head_tokens i)
head-short i h =
    let m = measure_tokens (kind_of_content i.content) (count_of_content i.content) in
    omega (
      arith,
      class-short i.class i.name h,
      measure-short (kind_of_content i.content) (count_of_content i.content),
      length-append (class_tokens i.class i.name) m,
    )

head-by : (c : Class) (name : List ℕ) (kind : Kind) (n : ℕ)
    → head_line c name kind n ≡ ended (class_tokens c name ++ measure_tokens kind n)
head-by Named name kind n =
    let m = measure_tokens kind n in
    ap (λ l. codes "named " ++ l) (ap (λ l. l) (sym (append_assoc (name_text name) (0x20 ∷ []) (m ++ 0x0A ∷ []))))
    ∙ sym (append_assoc (class_tokens Named name) m (0x0A ∷ []))
head-by Unique name kind n = sym (append_assoc (codes "unique ") (measure_tokens kind n) (0x0A ∷ []))
head-by Anonymous name kind n = sym (append_assoc (codes "anonymous ") (measure_tokens kind n) (0x0A ∷ []))

item-apart : (i : DumpItem) (a : List ℕ) → item_text i ++ a ≡ ended (head_tokens i) ++ (content_text i.content ++ a)
item-apart i a =
    append_assoc (head_line i.class i.name (kind_of_content i.content) (count_of_content i.content))
    (content_text i.content) a ∙ ap (λ l. l ++ (content_text i.content ++ a))
    (head-by i.class i.name (kind_of_content i.content) (count_of_content i.content))

-- ---- places in the indexes

count-if : (b : Bool) (i : DumpItem) (is js : List DumpItem) → b ≡ true → length (cond b (i ∷ is) is) ≡ suc (length is)
count-if true i is js e = refl
count-if false i is js e = absurd (cc)

count-more : (c : Class) (done : List DumpItem) (i : DumpItem) (more : List DumpItem) → i.class ≡ c
    → count_class c done < count_class c (done ++ i ∷ more)
count-more c done i more e =
    omega (
      arith,
      ap length (of-both c done (i ∷ more)),
      length-append (of_class c done) (of_class c (i ∷ more)),
      count-if (class_code c == class_code i.class) i (of_class c more) []
          (eq-eqb (class_code c) (class_code i.class) (ap class_code (sym e))),
    )

place-in : (site : Site) (done : List DumpItem) (i : DumpItem) (more : List DumpItem) (c : Class) → i.class ≡ c
    → count_class Named (done ++ i ∷ more) ≤ site.named → count_class Unique (done ++ i ∷ more) ≤ site.unique
    → HasIndexSlot site done c
place-in site done i more Named e n u = omega (arith, n, count-more Named done i more e)
place-in site done i more Unique e n u = omega (arith, u, count-more Unique done i more e)
place-in site done i more Anonymous e n u = tt

one-behind : (done : List DumpItem) (i : DumpItem) (more : List DumpItem) → (done ++ i ∷ []) ++ more ≡ done ++ i ∷ more
one-behind done i more = append_assoc done (i ∷ []) more

-- ---- one object more

-- the objects built so far, and the text that is left
pub record InBuild (old now : SegmentState) (text rest : List ℕ) (most room counter : ℕ) : Type 0 where
  pub at : (site : Site) (items : List DumpItem) → IsAtItems old text site [] items → AreLeft site room [] items
      → length text ≤ most → (done : List DumpItem) × (left : List DumpItem) × (done ++ left ≡ items)
      × IsAtItems now rest site done left × AreLeft site room done left × (length rest + counter ≤ most)

-- before the first object the whole text is left
pub build-start : (s : SegmentState) (text : List ℕ) (most room : ℕ) → InBuild s s text text most room 0
build-start s text most room = record { at = λ site items a l m. ([], items, refl, a, l, omega arith) }

-- the tokens of the last line
abbrev end_tokens : List ℕ
end_tokens = codes "end"

letter-other : (c : Class) (name m : List ℕ) → class_tokens c name ++ m ≡ end_tokens → ⊥
letter-other Named name m e = omega (arith, ap (λ l. get_or l 0 0) e)
letter-other Unique name m e = omega (arith, ap (λ l. get_or l 0 0) e)
letter-other Anonymous name m e = omega (arith, ap (λ l. get_or l 0 0) e)

head-other : (i : DumpItem) → head_tokens i ≡ end_tokens → ⊥
head-other i e = letter-other i.class i.name (measure_tokens (kind_of_content i.content) (count_of_content i.content)) e

end-line : {E : Type 0} (rest after : List ℕ) (r : Result (List ℕ) E) → rest ≡ end_text → ReadsLine rest after r
    → (r ≡ Ok end_tokens) × (after ≡ [])
end-line rest after r e h = h.reads end_tokens [] (no_end-test end_tokens refl) (omega arith)
    (e ∙ sym (append-nil end_text))

item-behind : (i : DumpItem) (more : List DumpItem) → items_text (i ∷ more)
    ++ end_text ≡ ended (head_tokens i) ++ (content_text i.content ++ (items_text more ++ end_text))
item-behind i more = append_assoc (item_text i) (items_text more) end_text ∙ item-apart i (items_text more ++ end_text)

item-line : {E : Type 0} (rest after : List ℕ) (r : Result (List ℕ) E) (i : DumpItem) (more : List DumpItem)
    → IsNameIn i.class i.name → rest ≡ items_text (i ∷ more) ++ end_text → ReadsLine rest after r
    → (r ≡ Ok (head_tokens i)) × (after ≡ content_text i.content ++ (items_text more ++ end_text))
item-line rest after r i more n e h =
    h.reads (head_tokens i) (content_text i.content ++ (items_text more ++ end_text)) (head-no_end i)
    (head-short i n) (e ∙ item-behind i more)

-- the text after an object's line is shorter than the text from that line on
line-long : (rest : List ℕ) (i : DumpItem) (more : List DumpItem) → rest ≡ items_text (i ∷ more) ++ end_text
    → length (content_text i.content ++ (items_text more ++ end_text)) < length rest
line-long rest i more e =
    let a = content_text i.content ++ (items_text more ++ end_text) in
    omega (
      arith,
      ap length (e ∙ item-behind i more),
      length-append (ended (head_tokens i)) a,
      length-append (head_tokens i) (0x0A ∷ []),
    )

next-of : (s : SegmentState) (site : Site) (done : List DumpItem) (i : DumpItem) (more : List DumpItem) (room : ℕ)
    → StandsBuilt s site done (all_needs item_needs (i ∷ more)).room → AreLeft site room done (i ∷ more)
    → CanBuildItem s site done i (all_needs item_needs more).room room
next-of s site done i more room b l = record {
  stands = b;
  rest = items-rest more;
  good = l.good.0;
  new = l.new.0;
  place = place-in site done i more i.class refl l.named l.unique;
  longest = omega (arith, l.longest);
}

left-of : (site : Site) (done : List DumpItem) (i : DumpItem) (more : List DumpItem) (room : ℕ)
    → AreLeft site room done (i ∷ more) → AreLeft site room (done ++ i ∷ []) more
left-of site done i more room l = record {
  good = l.good.1;
  new = l.new.1;
  named = subst (λ is. count_class Named is ≤ site.named) (sym (one-behind done i more)) l.named;
  unique = subst (λ is. count_class Unique is ≤ site.unique) (sym (one-behind done i more)) l.unique;
  longest = omega (arith, l.longest);
}

module _ (old now : SegmentState) (text rest : List ℕ) (most room counter : ℕ)
    (b : InBuild old now text rest most room counter) where
  no-line-by : {E : Type 0} (site : Site) (done left : List DumpItem) (e : E) (after : List ℕ)
      → IsAtItems now rest site done left → AreLeft site room done left → ReadsLine rest after (Err e) → ⊥
  no-line-by site done [] e after a l h = never-ok e end_tokens (end-line rest after (Err e) a.text_is h).0
  no-line-by site done (i ∷ more) e after a l h =
      never-ok e (head_tokens i) (item-line rest after (Err e) i more l.good.0.name a.text_is h).0

  end-by : {E F : Type 0} (site : Site) (done left : List DumpItem) (after tokens : List ℕ)
      (result : Result (Unit {0}) F) → IsAtItems now rest site done left → AreLeft site room done left
      → ReadsLine {E = E} rest after (Ok tokens) → tokens ≡ end_tokens → AcceptsEnd after result
      → (result ≡ Ok tt) × StandsBuilt now site (done ++ left) 0
  end-by {E} {F} site done [] after tokens result a l h w g = (
    g.gone (end-line {E = E} rest after (Ok tokens) a.text_is h).1,
    subst (λ is. StandsBuilt now site is 0) (sym (append-nil done)) a.stands,
  )
  end-by {E} {F} site done (i ∷ more) after tokens result a l h w g =
      let is : tokens ≡ head_tokens i =
      ok-same {E = E} tokens (head_tokens i)
      (item-line {E = E} rest after (Ok tokens) i more l.good.0.name a.text_is h).0 in
      absurd (head-other i (sym is ∙ w))

  object-by : {E F : Type 0} (site : Site) (done left : List DumpItem) (after tokens last : List ℕ)
      (new : SegmentState) (r : Result (Unit {0}) F) → IsAtItems now rest site done left → AreLeft site room done left
      → ReadsLine {E = E} rest after (Ok tokens) → tokens ≢ end_tokens → BuildsObject now new tokens after last room r
      → length rest + counter ≤ most → (r ≡ Ok tt) × ((i : DumpItem) × (more : List DumpItem) × (left ≡ i ∷ more)
      × IsAtItems new last site (done ++ i ∷ []) more × AreLeft site room (done ++ i ∷ []) more
      × (length last + (counter + 1) ≤ most))
  object-by {E} {F} site done [] after tokens last new r a l h n o m =
      absurd (n (ok-same {E = E} tokens end_tokens (end-line {E = E} rest after (Ok tokens) a.text_is h).0))
  object-by {E} {F} site done (i ∷ more) after tokens last new r a l h n o m =
      let line = item-line {E = E} rest after (Ok tokens) i more l.good.0.name a.text_is h in
      let is : tokens ≡ head_tokens i = ok-same {E = E} tokens (head_tokens i) line.0 in
      let q = o.builds site done i (all_needs item_needs more).room (items_text more ++ end_text)
      (next-of now site done i more room a.stands l) is line.1 in
      let shorter = line-long rest i more a.text_is in
      let content = length-append (content_text i.content) (items_text more ++ end_text) in (
        q.0,
        (
          i,
          more,
          refl,
          record { stands = q.1; text_is = q.2 },
          left-of site done i more room l,
          omega (arith, shorter, content, ap length q.2, m),
        ),
      )

  -- no line could be read: the build fails
  pub build-no_line : {E F : Type 0} (new : SegmentState) (e : E) (after : List ℕ) (result : Result (Unit {0}) F)
      → ReadsLine rest after (Err e) → BuildsAllObjects old new text most room result
  build-no_line new e after result h =
      record {
        builds = λ site items a l m. let q = b.at site items a l m
            in absurd (no-line-by site q.0 q.1 e after q.3 q.4 h);
      }

  -- the last line: all objects are built
  pub build-end : {E F : Type 0} (after tokens : List ℕ) (result : Result (Unit {0}) F)
      → ReadsLine {E = E} rest after (Ok tokens) → tokens ≡ end_tokens → AcceptsEnd after result
      → BuildsAllObjects old now text most room result
  build-end {E} {F} after tokens result h w g = record {
    builds = λ site items a l m.
        let q = b.at site items a l m in
        let r = end-by {E = E} {F = F} site q.0 q.1 after tokens result q.3 q.4 h w g in
        (r.0, subst (λ is. StandsBuilt now site is 0) q.2 r.1);
  }

  -- an object that was not built: the build fails
  pub build-cut : {E F : Type 0} (new last : SegmentState) (after tokens final : List ℕ) (e : F)
      (result : Result (Unit {0}) F) → ReadsLine {E = E} rest after (Ok tokens) → tokens ≢ end_tokens
      → BuildsObject now new tokens after final room (Err e) → BuildsAllObjects old last text most room result
  build-cut {E} {F} new last after tokens final e result h n o = record {
    builds = λ site items a l m.
        let q = b.at site items a l m in
        absurd (never-ok {X = Unit {0}} {E =
        F} e tt (object-by {E = E} {F = F} site q.0 q.1 after tokens final new (Err e) q.3 q.4 h n o q.5).0);
  }

  -- one object more is built
  pub build-more : {E F : Type 0} (new : SegmentState) (after tokens final : List ℕ) (u : Unit {0})
      → ReadsLine {E = E} rest after (Ok tokens) → tokens ≢ end_tokens
      → BuildsObject {E = F} now new tokens after final room (Ok u) → InBuild old new text final most room (counter + 1)
  build-more {E} {F} new after tokens final u h n o = record {
    at = λ site items a l m.
        let q = b.at site items a l m in
        let r = (object-by {E = E} {F = F} site q.0 q.1 after tokens final new (Ok u) q.3 q.4 h n o q.5).1 in
        (q.0 ++ r.0 ∷ [], r.1, one-behind q.0 r.0 r.1 ∙ ap (λ l. q.0 ++ l) (sym r.2) ∙ q.2, r.3, r.4, r.5);
  }

  -- as many objects as there may be: the build ends
  pub build-long : {F : Type 0} (last : SegmentState) (result : Result (Unit {0}) F) → most ≤ counter
      → BuildsAllObjects old last text most room result
  build-long last result c = record {
    builds = λ site items a l m.
        let q = b.at site items a l m in
        let long : 4 ≤ length rest = omega (arith, ap length q.3.text_is, length-append (items_text q.1) end_text) in
        absurd (omega (arith, q.5, long, c));
  }

-- `BuildsObject` for one length of the buffer holds for an equal length
pub as-long : {E : Type 0} (old new : SegmentState) (tokens text rest : List ℕ) (room room' : ℕ)
    (result : Result (Unit {0}) E) → room ≡ room' → BuildsObject old new tokens text rest room result
    → BuildsObject old new tokens text rest room' result
as-long {E} old new tokens text rest room room' result e b =
    subst (λ m. BuildsObject {E = E} old new tokens text rest m result) e b
