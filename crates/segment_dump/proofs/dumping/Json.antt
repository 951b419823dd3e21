-- The parts of a line of JSON, one after another, are the line of the object.
use Rattle.segment_dump.proofs.Common.{◌≡◌, ℕ, List, [], ◌∷◌, ◌++◌, refl, sym, ap, ◌∙◌, append_assoc, codes, map}
use Rattle.segment_dump.proofs.Common.{ByHandle, Instance, Directory, Object, named_objects, unique_objects, SaysOf}
use Rattle.segment_dump.proofs.Common.{SegmentState, DenotesCurrent, anonymous_objects, content_of, item_of_object}
use Rattle.segment_dump.proofs.Common.{kind_of_content, portable, part_of, ValueContent, Scalars, Vector, String, Map}
use Rattle.segment_dump.proofs.Common.{Strings, flat_map, laid_at, laid_from, laid_object, laid_out, option_map}
use Rattle.segment_dump.specs.Json.{closing, comma_before, in_json, json_at, json_bytes, json_dump, json_key, json_kind}
use Rattle.segment_dump.specs.Json.{json_line, json_list, json_object, json_pair, json_value, opening}
use Rattle.std.specs.Prelude.{Option, Some, None}
use Rattle.seg_types.specs.declared.kinds.Kind.{Kind}
use Rattle.segment_lang.specs.Texts.{value_text}
use Rattle.segment_manager.specs.declared.objects.object_ref.Object.{Object as Located}
use Rattle.segment_manager.specs.objects.Located.{IsLocated, located, located_at}
use Rattle.segment_dump.proofs.{dumping.ObjectParts.flat_map-made, building.ObjectOrder.kind-made}

-- what stands around the elements of a list
list-around : {X : Type 0} (f : X → List ℕ) (xs : List X)
    → 0x5B ∷ (laid_from (λ i x. comma_before i ++ f x) 0 xs ++ codes "]}\n") ≡ json_list f xs ++ codes "}\n"
list-around f xs =
    sym (ap (λ l. 0x5B ∷ l) (append_assoc (laid_from (λ i x. comma_before i ++ f x) 0 xs) (0x5D ∷ []) (codes "}\n")))

pub value-around : (c : ValueContent)
    → opening (kind_of_content c) ++ (laid_out in_json c ++ closing (kind_of_content c)) ≡ json_value c ++ codes "}\n"
value-around (Scalars k zs) = list-around (value_text k) zs
value-around (Vector k zs) = list-around (value_text k) zs
value-around (String bs) = refl
value-around (Map k v ps) = list-around (json_pair k v) ps
value-around (Strings ts) = list-around json_bytes ts

-- what is located under the handle of what said this of itself is of its kind
abbrev kind_or : Kind → Option Located → Kind
kind_or kind None = kind
kind_or kind (Some o) = o.kind

-- the kind of an object as its calls say it
pub kind-said : (s : SegmentState) (said : Instance) (o : Located) → SaysOf s (ByHandle said.handle) said
    → o.handle ≡ said.handle → IsLocated s (ByHandle o.handle) o → (d : Directory) → DenotesCurrent s.cut.bytes d
    → o.kind ≡ said.kind
kind-said s said o h e is d st =
    let f = h.says d st in
    let same : Some o ≡ located_at d (ByHandle said.handle) =
    is.at.answers d st ∙ ap (λ n. located_at d (ByHandle n)) e in
    ap (kind_or said.kind) (same ∙ ap (option_map located) f.1) ∙ sym f.2.kind

-- the line of what said this of itself
pub line-said : (s : SegmentState) (said : Instance) → SaysOf s (ByHandle said.handle) said
    → (d : Directory) → DenotesCurrent s.cut.bytes d → json_key said.class said.name.now
    ++ (json_kind said.kind ++ (opening said.kind ++ (laid_at in_json d (ByHandle said.handle) ++ closing said.kind)))
    ≡ json_at d (ByHandle said.handle)
line-said s said h d st =
    let f = h.says d st in
    let kind : said.kind ≡ kind_of_content (content_of f.0.value) = f.2.kind ∙ sym (kind-made f.0.value) in
    (λ i. json_key (f.2.class i) (f.2.name i) ++ (json_kind (kind i) ++ (opening (kind i)
    ++ (part_of (laid_object in_json) (f.1 i) ++ closing (kind i)))))
    ∙ ap (λ l. json_key f.0.class f.0.name ++ (json_kind (kind_of_content (content_of f.0.value)) ++ l))
    (value-around (content_of f.0.value)) ∙ sym (ap (part_of json_object) f.1)

lines-made : (os : List Object) → flat_map json_object os ≡ flat_map json_line (map item_of_object os)
lines-made os = sym (flat_map-made json_line item_of_object os)

-- the lines of all objects in JSON
pub json-parts : (d : Directory) → flat_map json_object (named_objects d)
    ++ (flat_map json_object (unique_objects d) ++ flat_map json_object (anonymous_objects d)) ≡ json_dump (portable d)
json-parts d = λ i. lines-made (named_objects d) i ++ (lines-made (unique_objects d) i
    ++ lines-made (anonymous_objects d) i)
