-- What the calls of a segment make of what was read.
use Rattle.seg_types.specs.Commands as asked
use Rattle.seg_types.specs.declared.kinds.Kind.TheVariants as kinds
use Rattle.std.proofs.Common.{◌≡◌, ℕ, ◌*◌, ℤ, List, length, map, sym, ap, subst, ◌∙◌, arith}
use Rattle.std.proofs.lemmas.List.{length-map}
use Rattle.std.specs.List.{AllByRecursion}
use Rattle.raw_region.specs.Memory.{part}
use Rattle.seg_types.specs.declared.kinds.ScalarKind.{ScalarKind}
use Rattle.seg_types.specs.Commands.{Construct, ConstructIt, literal_of}
use Rattle.seg_types.specs.Names.{Key}
use Rattle.seg_types.specs.Values.{kind_of_scalar, value_of_scalar}
use Rattle.seg_vector.specs.Vector.{spelled}
use Rattle.segment_manager.specs.Answers.{Answer}
use Rattle.segment_manager.specs.State.{SegmentState, TakesStep, TakesStepOfKind}
use Rattle.segment_salvage.specs.declared.nodes.Pair.{Pair}
use Rattle.segment_salvage.specs.{Pairs.IsPairOfImage, Standing.HasPart, Standing.HasContainer}
use Rattle.segment_salvage.specs.{Standing.Salvages, Standing.Stands, Steps.IsHead}
use Rattle.segment_salvage.proofs.{Maps.put-stands, Steps.array-stands, Steps.construct-stands}

-- a string is made of bytes that stand in the image
pub string-stands : (image : List ℕ) (old new : SegmentState) (at value : ℕ) (key : Key) (bytes : List ℕ) (len : ℕ)
    (answer : Answer) → TakesStep old new (Construct key (asked.Bytes bytes)) answer
    → IsHead image at kinds.String key value → HasContainer image value len bytes → length bytes ≡ 1 * len
    → Salvages image old new
string-stands image old new at value key bytes len answer t head has size =
    construct-stands image old new at value key (asked.Bytes bytes) answer t head
    (subst (λ n. HasContainer image value n bytes) (omega (arith, size)) has)

part-has : (image : List ℕ) (at n : ℕ) (bytes other : List ℕ) → bytes ≡ part image at n → length bytes ≡ n
    → bytes ≡ other → HasPart image at other
part-has image at n bytes other e len f =
    subst (λ l. part image at (length l) ≡ l) f (ap (part image at) len ∙ sym e)

-- an array is made of values that stand in the image
pub values-stand : {A : Type 0} (whole : A → ℤ) (image : List ℕ) (old new : SegmentState) (at value : ℕ) (key : Key)
    (k : ScalarKind) (row items : List A) (size : ℕ) (bytes : List ℕ) (answer : Answer)
    → TakesStep old new (ConstructIt key k (length row) (map whole row)) answer
    → IsHead image at (kinds.Scalar k) key value → bytes ≡ part image value size → length bytes ≡ size
    → bytes ≡ spelled k (map whole items) → row ≡ items
    → Salvages image old new
values-stand whole image old new at value key k row items size bytes answer t head is len e same =
    array-stands image old new at value (length row) key k (map whole row) answer t head
    (part-has image value size bytes (spelled k (map whole row)) is len
    (e ∙ ap (λ l. spelled k (map whole l)) (sym same))) (length-map row whole)

-- a vector is made of values that stand in the image
pub vector-stands : {A : Type 0} (whole : A → ℤ) (image : List ℕ) (old new : SegmentState) (at value : ℕ) (key : Key)
    (k : ScalarKind) (row items : List A) (len : ℕ) (bytes : List ℕ) (answer : Answer)
    → TakesStep old new (Construct key (asked.Elements k (map whole row))) answer
    → IsHead image at (kinds.Vector k) key value → HasContainer image value len bytes
    → bytes ≡ spelled k (map whole items) → length items ≡ len → row ≡ items → Salvages image old new
vector-stands whole image old new at value key k row items len bytes answer t head has e count same =
    construct-stands image old new at value key (asked.Elements k (map whole row)) answer t head
    (subst (λ n. HasContainer image value n (spelled k (map whole row)))
    (sym (length-map row whole ∙ ap length same ∙ count))
    (subst (HasContainer image value len) (e ∙ ap (λ l. spelled k (map whole l)) (sym same)) has))

-- a vector of strings is made of texts that stand in the image
pub texts-stand : {A : Type 0} (text : A → List ℕ) (image : List ℕ) (old new : SegmentState) (at value : ℕ) (key : Key)
    (row items : List A) (answer : Answer) → TakesStep old new (Construct key (asked.Strings (map text row))) answer
    → IsHead image at kinds.Strings key value → AllByRecursion (Stands image) (map text items) → row ≡ items
    → Salvages image old new
texts-stand text image old new at value key row items answer t head all same =
    construct-stands image old new at value key (asked.Strings (map text row)) answer t head
    (subst (λ l. AllByRecursion (Stands image) (map text l)) (sym same) all)

-- a pair that was read of the image is put into a map
pub pair-stands : (image : List ℕ) (old new : SegmentState) (key : Key) (k v : ScalarKind) (p : Pair) (answer : Answer)
    → IsPairOfImage image k v p
    → TakesStepOfKind old new key (kinds.Map (kind_of_scalar p.key) (kind_of_scalar p.value))
    (asked.Put key (literal_of (kind_of_scalar p.key) (value_of_scalar p.key))
    (literal_of (kind_of_scalar p.value) (value_of_scalar p.value))) answer → Salvages image old new
pair-stands image old new key k v p answer i t =
    put-stands image old new key k v (value_of_scalar p.key) (value_of_scalar p.value) answer
    (subst (λ w. TakesStepOfKind old new key (kinds.Map k w) (asked.Put key (literal_of k (value_of_scalar p.key))
    (literal_of w (value_of_scalar p.value))) answer) i.value_kind
    (subst (λ u. TakesStepOfKind old new key (kinds.Map u (kind_of_scalar p.value))
    (asked.Put key (literal_of u (value_of_scalar p.key))
    (literal_of (kind_of_scalar p.value) (value_of_scalar p.value))) answer) i.key_kind t))
    i.key_value i.value_value i.pair
