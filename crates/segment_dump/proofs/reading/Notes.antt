-- A dump has no notes, and what is told after it has nothing else.
use Rattle.segment_dump.proofs.Common.{◌≡◌, ◌≢◌, ℕ, suc, ◌-◌, ◌/◌, ◌==◌, Bool, true, false, cond, List, [], ◌∷◌, ◌++◌}
use Rattle.segment_dump.proofs.Common.{length, refl, sym, ap, subst, ◌∙◌, arith, append_assoc, codes, decimal}
use Rattle.segment_dump.proofs.Common.{AllByRecursion, flat_map, ne_eqb, Class, Anonymous, Named, Unique, Kind}
use Rattle.segment_dump.proofs.Common.{kind_text, name_text, quoted_text, value_text, class_tokens, Capacity, Holds}
use Rattle.segment_dump.proofs.Common.{Kinds, Names, capacities, capacities_text, ValueContent, DumpItem, Items, Map}
use Rattle.segment_dump.proofs.Common.{Scalars, String, Strings, Vector, count_of_content, kind_of_content, portable}
use Rattle.segment_dump.proofs.Common.{are_notes, before_notes, ends_line, without_notes, parts_until, HasNoEnd, ended}
use Rattle.segment_dump.proofs.Common.{lines_text, content_text, dump_text, element_line, end_text, prefix_text}
use Rattle.segment_dump.proofs.Common.{head_line, item_text, items_text, length_text, pair_line, piece_lead, piece_line}
use Rattle.segment_dump.proofs.Common.{piece_of, pieces_in, pieces_text, text_lines}
use Rattle.segment_dump.specs.Capacities.{CapacityHolder, capacity_tokens, holder_text}
use Rattle.segment_dump.specs.Laws.{CapacitiesAreLeftOut, DumpsHaveNoNotes, IsNote, NotesAreCut, NotesAreLeftOut}
use Rattle.segment_dump.proofs.{building.Objects.class-no_end, texts.KindTokens.kind-token}
use Rattle.segment_dump.proofs.{texts.LineTokens.decimal-token}
use Rattle.segment_dump.proofs.texts.Elements.{no_end-both, token-no_end, no_end-test}
use Rattle.segment_dump.proofs.reading.NoteLines.{cut-notes, ends-behind, ends-last, kept}

-- ---- a dump is whole lines

-- a line starts after this text, whatever stands in front
abbrev EndsLine : List ℕ → Type 0
EndsLine text = (start : Bool) → ends_line start text ≡ true

ends-both : (a b : List ℕ) → EndsLine b → EndsLine (a ++ b)
ends-both a b h = λ start. ends-behind start a b ∙ h (ends_line start a)

-- and so it does after this one, where one starts in front of it
ends-then : (a b : List ℕ) → EndsLine a → ends_line true b ≡ true → EndsLine (a ++ b)
ends-then a b h e = λ start. ends-behind start a b ∙ ap (λ s. ends_line s b) (h start) ∙ e

ends-both-true : (a b : List ℕ) → ends_line true a ≡ true → ends_line true b ≡ true → ends_line true (a ++ b) ≡ true
ends-both-true a b h e = ends-behind true a b ∙ ap (λ s. ends_line s b) h ∙ e

all-end : {X : Type 0} (say : X → List ℕ) → ((x : X) → EndsLine (say x)) → (xs : List X)
    → ends_line true (flat_map say xs) ≡ true
all-end say h [] = refl
all-end say h (x ∷ xs) = ends-then (say x) (flat_map say xs) (h x) (all-end say h xs) true

line-ends : (line : List ℕ) → EndsLine (line ++ 0x0A ∷ [])
line-ends line = λ start. ends-last start line

piece-ends : (bs : List ℕ) (i : ℕ) → EndsLine (piece_line bs i)
piece-ends bs i = ends-both (piece_lead i) (quoted_text (piece_of bs i) ++ 0x0A ∷ [])
    (line-ends (quoted_text (piece_of bs i)))

pieces-end : (bs : List ℕ) (n : ℕ) → EndsLine (parts_until (piece_line bs) (suc n))
pieces-end bs n = ends-both (parts_until (piece_line bs) n) (piece_line bs n) (piece-ends bs n)

text-ends : (bs : List ℕ) → EndsLine (text_lines bs)
text-ends bs =
    let n = (length bs - 1) / 1000 in
    let more : pieces_in (length bs) ≡ suc n = omega arith in
    ends-both (length_text (length bs)) (pieces_text bs)
    (subst (λ m. EndsLine (parts_until (piece_line bs) m)) (sym more) (pieces-end bs n))

content-ends : (c : ValueContent) → ends_line true (content_text c) ≡ true
content-ends (Scalars k zs) = all-end (element_line k) (λ z. line-ends (0x20 ∷ 0x20 ∷ value_text k z)) zs
content-ends (Vector k zs) = all-end (element_line k) (λ z. line-ends (0x20 ∷ 0x20 ∷ value_text k z)) zs
content-ends (String bs) = text-ends bs true
content-ends (Map k v ps) = all-end (pair_line k v) (λ p.
    line-ends ((0x20 ∷ 0x20 ∷ value_text k p.0) ++ (0x20 ∷ value_text v p.1))) ps
content-ends (Strings ts) = all-end text_lines text-ends ts

measure-ends : (lead : List ℕ) (kind : Kind) (n : ℕ)
    → EndsLine (lead ++ (kind_text kind ++ 0x20 ∷ decimal n ++ 0x0A ∷ []))
measure-ends lead kind n = ends-both lead (kind_text kind ++ 0x20 ∷ decimal n ++ 0x0A ∷ [])
    (line-ends (kind_text kind ++ 0x20 ∷ decimal n))

head-ends : (c : Class) (name : List ℕ) (kind : Kind) (n : ℕ) → EndsLine (head_line c name kind n)
head-ends Named name kind n = ends-both (codes "named " ++ name_text name) _ (measure-ends (0x20 ∷ []) kind n)
head-ends Unique name kind n = measure-ends (codes "unique ") kind n
head-ends Anonymous name kind n = measure-ends (codes "anonymous ") kind n

item-ends : (i : DumpItem) → EndsLine (item_text i)
item-ends i = ends-then (head_line i.class i.name (kind_of_content i.content) (count_of_content i.content))
    (content_text i.content) (head-ends i.class i.name (kind_of_content i.content) (count_of_content i.content))
    (content-ends i.content)

items-end : (is : List DumpItem) → ends_line true (items_text is) ≡ true
items-end is = all-end item_text item-ends is

prefix-ends : (s n u : ℕ) → EndsLine (prefix_text s n u)
prefix-ends s n u = ends-both (codes "segment dump 1" ++ 0x0A ∷ codes "size " ++ decimal s ++ 0x0A ∷ codes "indexes "
    ++ decimal n ++ 0x20 ∷ decimal u) (0x0A ∷ []) (λ start. refl)

-- all lines but the last one
abbrev dump_prefix : ℕ → Items → List ℕ
dump_prefix n items = prefix_text n (length items.named) (length items.unique)
    ++ (items_text items.named ++ (items_text items.unique ++ items_text items.anonymous))

end-apart : (f n u a e : List ℕ) → f ++ (n ++ (u ++ (a ++ e))) ≡ (f ++ (n ++ (u ++ a))) ++ e
end-apart f n u a e = simp append_assoc

prefix-is : (n : ℕ) (items : Items) → dump_text n items ≡ dump_prefix n items ++ end_text
prefix-is n items = end-apart (prefix_text n (length items.named) (length items.unique)) (items_text items.named)
    (items_text items.unique) (items_text items.anonymous) end_text

prefixes-end : (n : ℕ) (items : Items) → ends_line true (dump_prefix n items) ≡ true
prefixes-end n items =
    ends-then (prefix_text n (length items.named) (length items.unique)) _
    (prefix-ends n (length items.named) (length items.unique))
    (ends-both-true (items_text items.named) _ (items-end items.named)
    (ends-both-true (items_text items.unique) _ (items-end items.unique) (items-end items.anonymous))) true

dump-ends : (n : ℕ) (items : Items) → ends_line true (dump_text n items) ≡ true
dump-ends n items = ap (ends_line true) (prefix-is n items)
    ∙ ends-both-true (dump_prefix n items) end_text (prefixes-end n items) refl

-- ---- the laws

-- law: dumps have no notes
pub dumps-have-no-notes : DumpsHaveNoNotes
dumps-have-no-notes n items = ap without_notes (prefix-is n items)
    ∙ kept true (dump_prefix n items) end_text (prefixes-end n items) refl refl ∙ sym (prefix-is n items)

left-out : (n : ℕ) (items : Items) (notes : List ℕ) → are_notes true notes ≡ true
    → without_notes (dump_text n items ++ notes) ≡ dump_text n items
left-out n items notes h = cut-notes true (dump_text n items) notes (dump-ends n items) h ∙ dumps-have-no-notes n items

no-end : (c : ℕ) → c ≢ 0x0A → (c == 0x0A) ≡ false
no-end c n = ne_eqb c 0x0A n

in-note : (tokens more : List ℕ) → HasNoEnd tokens → are_notes false (tokens ++ 0x0A ∷ more) ≡ are_notes true more
in-note [] more h = refl
in-note (c ∷ cs) more h = ap (λ b. are_notes b (cs ++ 0x0A ∷ more)) (no-end c h.0) ∙ in-note cs more h.1

note-then : (line more : List ℕ) → IsNote line → are_notes true more ≡ true → are_notes true (ended line ++ more) ≡ true
note-then line more h e =
    ap (λ l. are_notes true (ended l ++ more)) h.begins
    ∙ ap (are_notes false) (append_assoc h.tokens (0x0A ∷ []) more) ∙ in-note h.tokens more h.one ∙ e

notes-are : (notes : List (List ℕ)) → AllByRecursion IsNote notes → are_notes true (lines_text notes) ≡ true
notes-are [] h = refl
notes-are (l ∷ ls) h = note-then l (lines_text ls) h.0 (notes-are ls h.1)

-- law: notes are left out
pub notes-are-left-out : NotesAreLeftOut
notes-are-left-out n items notes h = left-out n items (lines_text notes) (notes-are notes h)

holder-no_end : (h : CapacityHolder) → HasNoEnd (holder_text h)
holder-no_end Names = no_end-test (codes "names") refl
holder-no_end Kinds = no_end-test (codes "kinds") refl
holder-no_end (Holds class name kind) =
    no_end-both (class_tokens class name) (kind_text kind) (class-no_end class name)
    (token-no_end (kind_text kind) (kind-token kind))

capacity-note : (c : Capacity) → IsNote (capacity_tokens c)
capacity-note c = record {
  tokens = codes " capacity of " ++ (holder_text c.holder ++ (codes ": " ++ decimal c.slots));
  begins = refl;
  one = no_end-both (codes " capacity of ") _ (no_end-test (codes " capacity of ") refl)
      (no_end-both (holder_text c.holder) _ (holder-no_end c.holder) (
        (λ e. omega arith),
        ((λ e. omega arith), token-no_end (decimal c.slots) (decimal-token c.slots)),
      ));
}

capacities-are : (cs : List Capacity) → are_notes true (capacities_text cs) ≡ true
capacities-are [] = refl
capacities-are (c ∷ cs) = note-then (capacity_tokens c) (capacities_text cs) (capacity-note c) (capacities-are cs)

-- law: capacities are left out
pub capacities-are-left-out : CapacitiesAreLeftOut
capacities-are-left-out n d = left-out n (portable d) (capacities_text (capacities d)) (capacities-are (capacities d))

-- ---- what is cut

record IsCutFrom (start : Bool) (text : List ℕ) : Type 0 where
  notes : List ℕ
  whole : text ≡ before_notes start text ++ notes
  are : are_notes true notes ≡ true

cut-more : (c : ℕ) (cs : List ℕ) (start : Bool) → IsCutFrom (c == 0x0A) cs
    → before_notes start (c ∷ cs) ≡ c ∷ before_notes (c == 0x0A) cs → IsCutFrom start (c ∷ cs)
cut-more c cs start h e = record {
  notes = h.notes;
  whole = ap (λ l. c ∷ l) h.whole
      ∙ sym (ap (λ l. l ++ h.notes) e);
  are = h.are;
}

cut-if : (c : ℕ) (cs : List ℕ) (b : Bool) → are_notes true (c ∷ cs) ≡ b → IsCutFrom (c == 0x0A) cs
    → IsCutFrom true (c ∷ cs)
cut-if c cs true e h = record {
  notes = c ∷ cs;
  whole = sym (ap (λ b. cond b [] (c ∷ before_notes (c == 0x0A) cs) ++ c ∷ cs) e);
  are = e;
}
cut-if c cs false e h = cut-more c cs true h (ap (λ b. cond b [] (c ∷ before_notes (c == 0x0A) cs)) e)

cut-from : (start : Bool) (text : List ℕ) → IsCutFrom start text
cut-from start [] = record { notes = []; whole = refl; are = refl }
cut-from true (c ∷ cs) = cut-if c cs (are_notes true (c ∷ cs)) refl (cut-from (c == 0x0A) cs)
cut-from false (c ∷ cs) = cut-more c cs false (cut-from (c == 0x0A) cs) refl

-- law: notes are cut off
pub notes-are-cut : NotesAreCut
notes-are-cut text = let h = cut-from true text in record { notes = h.notes; whole = h.whole; are = h.are }
