-- Other texts for a vector, stored while its old ones stay.
use Rattle.seg_vector.proofs.Common as W
use W.{◌≡◌, ◌≢◌, refl, sym, ap, subst, ◌∙◌, inl, ℕ, zero, suc, ◌+◌, ◌*◌, ◌<◌, ◌≤◌, Option, Some, None, List, ◌∷◌, ◌++◌}
use W.{append-nil, append_assoc, arith, length, length-append, drop, map, slice_index_or, Bor, ◌%◌, inr, if◌then◌else◌}
use W.{false, ◌==◌, Ok, IfSome, IsTrue, option_map, option_to_list, AllByRecursion, flat_map-append, ne_eqb, drop_all}
use W.{WindowState, bytes_of, word_at, current, link_at, without_all, KeepsLiveSet, SameBlockExcept, ExchangesBlocks}
use W.{Extent, LiveSet, handle, resized, place, ChangesBytes, IsHeap, SameBlock, extent_at, has_room, live_of}
use W.{AllocatesOk, NoSpace, Refusal, Deallocates, is_live_in, IsFound, IsNone, all-in-use, changed-live, exchange-next}
use W.{exchange-order, exchange-same, exchanged-live, found-room, kept, laid-heap, last-first, live-rises, roomy}
use W.{spread-refl, exchange-released, exchange-taken, keeps-refl, place-serves, too_long, kept-beside, Storage}
use W.{BackingArray, no_backing, StoresFirstTexts, StoresArrayUpTo, StoresArrayOk, StoresArrayErr, SameElements}
use W.{IsServed}
use W.{SwapsBlocks, LacksFit, PlacesTextOk, AreHeldElements, AreDistinct, placed_text, placed_texts, text_blocks}
use W.{with_text, requested_texts, new_array, AssignsTextsOk, AssignsTexts, IsTexts, ReplacesTexts, ReleasesTexts}
use W.{AreTextLinks, IsOwnedText, OwnedText, Place, place_at, [], SetsWords, all-same-but, drop-map, drop-cons}
use Rattle.seg_vector.proofs.storage.HeadAndBlock.{AreHeadWords, IsHead, block-written, head-exchanged}
use Rattle.seg_vector.proofs.storage.HeadAndBlock.{run-none, run-swapped, same-some, serves-full, table, all-as}
use Rattle.seg_vector.proofs.storage.HeadAndBlock.{came-found}
use Rattle.seg_vector.proofs.storage.HeadAndBlock.{came-others, all-kept, none-of-none}
use Rattle.seg_vector.proofs.texts.Blocks.{all-join, all-split, element-beside, element-in, element-trans, even-block}
use Rattle.seg_vector.proofs.texts.Blocks.{fresh-none, found-live, links-join, links-moved, of-none, own_blocks}
use Rattle.seg_vector.proofs.texts.Blocks.{run-begin, owned-same, texts-between, texts-own}
use Rattle.seg_vector.proofs.{texts.Growth.new-table, texts.Puts.came-alone, texts.Puts.flip-each}
use Rattle.seg_vector.proofs.texts.Calls.{come-even, run-others, texts-still}

-- ---- the allocated blocks

pub record AreCome (b : WindowState) (come : List Extent) : Type 0 where
  pub heap : IsHeap current b.bytes
  pub found : AllByRecursion (IsFound (live_of b.bytes).extents) come
  pub others : AreDistinct come

pub are-come : {a b : WindowState} {gone come : List Extent} → SwapsBlocks a b gone come → AreCome b come
are-come x = record { heap = laid-heap _ _ x.live; found = came-found x; others = came-others x }

pub blocks-more : (qs : List OwnedText) (q : OwnedText)
    → text_blocks (qs ++ (q ∷ [])) ≡ text_blocks qs ++ option_to_list q.extent
blocks-more qs q = flat_map-append (λ (w : OwnedText). option_to_list w.extent) qs (q ∷ [])
    ∙ ap (λ (xs : List Extent). text_blocks qs ++ xs) (append-nil (option_to_list q.extent))

-- ---- the live set

with-text_in : {a b : WindowState} (bytes : List ℕ) (o : Option Extent) → SwapsBlocks a b [] (option_to_list o)
    → live_of b.bytes ≡ with_text (live_of a.bytes) (record { bytes = bytes; extent = o })
with-text_in {a} {b} bytes None s = exchanged-live a b 0 0 [] [] _ s
with-text_in bytes (Some x) s = came-alone s

-- ---- allocations

none-before : (o : Option (List OwnedText)) → o ≡ option_map (λ (qs : List OwnedText). [] ++ qs) o
none-before None = refl
none-before (Some qs) = refl

one-before : (ps : List OwnedText) (q : OwnedText) (o : Option (List OwnedText))
    → option_map (λ (qs : List OwnedText). ps ++ qs) (option_map (λ (qs : List OwnedText). q ∷ qs) o) ≡ option_map
    (λ (qs : List OwnedText). (ps ++ (q ∷ [])) ++ qs) o
one-before ps q None = refl
one-before ps q (Some qs) = ap (λ (xs : List OwnedText). Some xs) (sym (append_assoc ps (q ∷ []) qs))

abbrev placed_after : LiveSet → List (List ℕ) → Option OwnedText → Option (List OwnedText)
placed_after l more o =
    elim o [ None ↦ None | Some q ↦ option_map (λ (qs : List OwnedText). q ∷ qs) (placed_texts (with_text l q) more) ]

placed-one : (l k : LiveSet) (bytes : List ℕ) (more : List (List ℕ)) {q : OwnedText} → placed_text l bytes ≡ Some q → k
    ≡ with_text l q → placed_texts l (bytes ∷ more) ≡ option_map (λ (qs : List OwnedText). q ∷ qs) (placed_texts k more)
placed-one l k bytes more {q} e f = ap (placed_after l more) e
    ∙ ap (λ s. option_map (λ (qs : List OwnedText). q ∷ qs) (placed_texts s more)) (sym f)

placed-stops : (l : LiveSet) (bytes : List ℕ) (more : List (List ℕ)) → placed_text l bytes ≡ None
    → placed_texts l (bytes ∷ more) ≡ None
placed-stops l bytes more e = ap (placed_after l more) e

-- ---- one after another

-- before the first string nothing is laid out
pub laid-begin : (c : WindowState) {y : Extent} (more : List (List ℕ)) → IsHeap current c.bytes
    → extent_at (live_of c.bytes) (handle y) ≡ Some y → StoresFirstTexts c c y 0 more
laid-begin c {y} more heap found =
    let l = live_of c.bytes in
    record {
      texts = [];
      long = refl;
      placed = none-before (placed_texts l more);
      change = exchange-same _ c 0 0 (y ∷ []) (without_all (y ∷ []) l.extents) heap
          (all-in-use (y ∷ []) l.extents (live-rises l heap.proper) (tt, tt) (found, tt)).is;
      links = tt;
      owned = tt;
      served = tt;
    }

-- a text was placed: all blocks allocated since the first
beside-text : {old now mid : WindowState} {y : Extent} {tb oq : List Extent} → SwapsBlocks old now (y ∷ []) (y ∷ tb)
    → SwapsBlocks now mid [] oq → SwapsBlocks old mid (y ∷ []) (y ∷ (tb ++ oq))
beside-text {old} {now} {mid} {y} {tb} {oq} p q = exchange-order _ old mid 0 0 _ _ _ (last-first oq (y ∷ tb))
    (exchange-next _ old now mid 0 0 _ _ [] (y ∷ tb) oq (spread-refl (y ∷ tb)) p q)

laid-links : (now : WindowState) {mid new : WindowState} {y : Extent} {g : ℕ} (i n : ℕ) (ps : List OwnedText)
    (q : OwnedText) → handle y ≡ g → length ps ≡ i → i < n → 16 * n + 16 ≤ y.len
    → SameBlock (bytes_of now.bytes) (bytes_of mid.bytes) y → ChangesBytes current mid new (g + 16 * i) 16
    → link_at (bytes_of new.bytes) (g + 16 * i) ≡ option_map handle q.extent
    → word_at (bytes_of new.bytes) (g + 16 * i + 8) ≡ length q.bytes
    → AreTextLinks (bytes_of now.bytes) (handle y) ps → AreTextLinks (bytes_of new.bytes) (handle y) (ps ++ (q ∷ []))
laid-links now {new} {y} {g} i n ps q at long below big stays c link len l =
    let same : SameElements (bytes_of now.bytes) (bytes_of new.bytes) (handle y) (handle y) (length ps) = λ j f.
    element-trans (element-in (handle y + 16 * j) stays (omega arith) (omega (arith, f, long, below, big)))
    (element-beside (handle y + 16 * j) c.rest (inl (omega (arith, at, f, long)))) in
    let behind : g + 16 * i ≡ handle y + 16 * length ps = omega (arith, at, long) in
    links-join (bytes_of new.bytes) (handle y) ps (q ∷ [])
    (links-moved (bytes_of now.bytes) (bytes_of new.bytes) (handle y) (handle y) ps l same)
    (subst (λ k. AreTextLinks (bytes_of new.bytes) k (q ∷ [])) behind (link, len, tt))

-- one more string is stored
pub laid-put : {old now mid new : WindowState} {y : Extent} {i : ℕ} (n array : ℕ) {bytes : List ℕ}
    {more : List (List ℕ)} {block : Option ℕ} → handle y ≡ array → StoresFirstTexts old now y i more
    → drop i more ≡ bytes ∷ drop (i + 1) more → i < n → 16 * n + 16 ≤ y.len → PlacesTextOk now mid bytes block
    → ChangesBytes current mid new (array + 16 * i) 16 → link_at (bytes_of new.bytes) (array + 16 * i) ≡ block
    → word_at (bytes_of new.bytes) (array + 16 * i + 8) ≡ length bytes → StoresFirstTexts old new y (i + 1) more
laid-put {old} {now} {mid} {new} {y} {i} n array {bytes} {more} at a split below big pl c link len =
    let q = pl.text in let oq = option_to_list q.extent in let tb = text_blocks a.texts in
    let rest = drop (i + 1) more in let here = are-come a.change in let x1 = beside-text a.change pl.change in
    let there = are-come x1 in
    let x2 = block-written (16 * n) there.heap there.found.0 c (omega (arith, at)) (omega (arith, at, below)) big in
    let x3 = exchange-next _ old mid new 0 0 _ _ _ (tb ++ oq) _ (spread-refl (y ∷ (tb ++ oq))) x1 x2 in
    let blocks = blocks-more a.texts q in let served = all-join IsServed a.texts (q ∷ []) a.served (pl.served, tt) in
    let first = owned-same (bytes_of now.bytes) (bytes_of mid.bytes) a.texts
    (all-kept tb here.heap pl.change here.found.1 (none-of-none tb)) a.served a.owned in
    let stay = subst (AllByRecursion (SameBlock (bytes_of mid.bytes) (bytes_of new.bytes))) (sym blocks)
    (all-kept (tb ++ oq) there.heap x2 there.found.1 (flip-each y (tb ++ oq) there.others.0)) in
    let live : live_of new.bytes ≡ with_text (live_of now.bytes) q = changed-live _ mid new _ 16 c
    ∙ with-text_in q.bytes q.extent pl.change in
    record {
      texts = a.texts ++ (q ∷ []);
      long = omega (arith, length-append a.texts (q ∷ []), a.long);
      placed = a.placed ∙ ap (λ xs. option_map (λ (qs : List OwnedText). a.texts ++ qs) (placed_texts
          (live_of now.bytes) xs)) split ∙ ap (option_map (λ (qs : List OwnedText). a.texts ++ qs))
          (placed-one (live_of now.bytes) (live_of new.bytes) bytes rest pl.placed live) ∙ one-before a.texts q
          (placed_texts (live_of new.bytes) rest);
      change = subst (λ (xs : List Extent). SwapsBlocks old new (y ∷ []) (y ∷ xs)) (sym blocks) x3;
      links = laid-links now i n a.texts q at a.long below big (kept now mid (handle y) y [] oq _ here.heap pl.change
          here.found.0 tt) c (link ∙ pl.at) (len ∙ ap length (sym pl.same)) a.links;
      owned = owned-same (bytes_of mid.bytes) (bytes_of new.bytes) (a.texts ++ (q ∷ [])) stay served
          (all-join (IsOwnedText (bytes_of mid.bytes)) a.texts (q ∷ []) first (pl.owned, tt));
      served = served;
    }

-- ---- it ends

-- no space for a string: the laying out stops
pub laid-stops : {old now new : WindowState} {y : Extent} {i : ℕ} {bytes : List ℕ} {more : List (List ℕ)} {e : Refusal}
    → StoresFirstTexts old now y i more → drop i more ≡ bytes ∷ drop (i + 1) more → i ≤ length more
    → LacksFit now new (placed_text (live_of now.bytes) bytes) e → StoresArrayUpTo old new y i more
laid-stops {old} {now} {y} {i} {bytes} {more} a split within r =
    subst (λ (c : WindowState). StoresArrayUpTo old c y i more) (sym r.same) (record {
      laid = a;
      within = within;
      stopped = λ f. ap (placed_texts (live_of now.bytes)) split ∙ placed-stops (live_of now.bytes) bytes
          (drop (i + 1) more) r.none;
    })

-- all strings are laid out
pub laid-all : {old now : WindowState} {y : Extent} {i : ℕ} (n : ℕ) {more : List (List ℕ)}
    → StoresFirstTexts old now y i more → i ≡ n → n ≡ length more → StoresArrayUpTo old now y n more
laid-all {old} {now} {y} n {more} a e f = record {
  laid = subst (λ k. StoresFirstTexts old now y k more) e a;
  within = omega (arith, f);
  stopped = λ g. absurd (omega (arith, f, g));
}

-- the strings that are left begin with the next one
pub drop-next : (xs : List (Bor (List ℕ))) (i : ℕ) (d : Bor (List ℕ)) → i < length xs
    → drop i (map (λ t. t.now) xs) ≡ (slice_index_or xs i d).now ∷ drop (i + 1) (map (λ t. t.now) xs)
drop-next xs i d f =
    let now : Bor (List ℕ) → List ℕ = λ t. t.now in let count : suc i ≡ i + 1 = omega arith in
    drop-map now i xs ∙ ap (map now) (drop-cons xs i d f) ∙ ap (λ zs. (slice_index_or xs i d).now ∷ zs)
    (sym (drop-map now (suc i) xs) ∙ ap (λ k. drop k (map now xs)) count)

-- ---- conditions of the calls of a step

-- the block of a string begins at a multiple of 16
pub text-even : {a b : WindowState} {bytes : List ℕ} {block : Option ℕ} → PlacesTextOk a b bytes block
    → IfSome block (λ target. target % 16 ≡ 0)
text-even pl = subst (λ o. IfSome o (λ target. target % 16 ≡ 0)) (sym pl.at) (come-even pl.text.extent pl.change)

-- the array has room for the next string
pub laid-room : {old now mid : WindowState} {y : Extent} {i : ℕ} (n array : ℕ) {bytes : List ℕ} {more : List (List ℕ)}
    {block : Option ℕ} → handle y ≡ array → StoresFirstTexts old now y i more → PlacesTextOk now mid bytes block → i < n
    → 16 * n + 16 ≤ y.len → IsTrue (has_room (live_of mid.bytes) array (16 * i + 16))
laid-room {mid} {y} {i} n array at a pl below big =
    let there = are-come (beside-text a.change pl.change) in
    subst (λ k. IsTrue (has_room (live_of mid.bytes) k (16 * i + 16))) at
    (found-room (live_of mid.bytes) (handle y) (16 * i + 16) y there.found.0 (omega (arith, below, big)))

-- a block with room is long enough
pub found-big : (c : WindowState) (array n : ℕ) {y : Extent} → IsHeap current c.bytes
    → IsTrue (has_room (live_of c.bytes) array n) → extent_at (live_of c.bytes) array ≡ Some y → n + 16 ≤ y.len
found-big c array n {y} heap room found =
    let r = roomy c array n heap room in
    subst (λ (x : Extent). n + 16 ≤ x.len) (same-some (sym r.found ∙ found)) r.room

-- ---- an array that was allocated, and the texts stored in it: all of them, or none after it is freed

-- ---- allocations

-- an array with a place takes a block
pub new-array : (l : LiveSet) (n : ℕ) → 0 < n → new_array l n ≡ option_map (λ (x : Extent). table n (Some x))
    (place l (16 * n) Storage)
new-array l n f = ap (λ b. if b then Some no_backing else option_map (λ (x : Extent). table n (Some x))
    (place l (16 * n) Storage)) (ne_eqb n 0 (λ e. omega (arith, e, f)))

abbrev texts_after : LiveSet → List (List ℕ) → Option BackingArray → Option (List OwnedText)
texts_after l more o = elim o [
  | None ↦ None
  | Some u ↦ placed_texts (elim u.extent [ None ↦ l | Some x ↦ resized l x ]) more
]

in-array : (l : LiveSet) (more : List (List ℕ)) (o : Option Extent) → 0 < length more → place l (16 * length more)
    Storage ≡ o → requested_texts l more
    ≡ texts_after l more (option_map (λ (x : Extent). table (length more) (Some x)) o)
in-array l more o f e = ap (texts_after l more)
    (new-array l (length more) f ∙ ap (option_map (λ (x : Extent). table (length more) (Some x))) e)

-- an array that fits has space
pub laid-fitted : (l : LiveSet) (more : List (List ℕ)) {y : Extent} → 0 < length more
    → place l (16 * length more) Storage ≡ Some y → new_array l (length more) ≡ None → ⊥
laid-fitted l more {y} f e none =
    let some : new_array l (length more) ≡ Some (table (length more) (Some y)) = new-array l (length more) f
    ∙ ap (option_map (λ (x : Extent). table (length more) (Some x))) e in
    let both = sym some ∙ none in cc

-- ---- nothing is laid out

unchanged : (c : WindowState) (more : List (List ℕ)) → IsHeap current c.bytes
    → requested_texts (live_of c.bytes) more ≡ None
    → StoresArrayErr c c more NoSpace
unchanged c more heap e = record {
  refusal = refl;
  none = e;
  restored = record { laid = heap; keeps = keeps-refl c (live_of c.bytes).extents };
  first = λ none. refl;
}

-- more than 1 GiB of strings have no space
pub out-of-reach : (c : WindowState) (n : ℕ) (more : List (List ℕ))
    → IsHeap current c.bytes → n ≡ length more → 1073741824 < n → StoresArrayErr c c more NoSpace
out-of-reach c n more heap e f = unchanged c more heap (in-array (live_of c.bytes) more None (omega (arith, e, f))
    (too_long c (16 * length more) Storage heap (omega (arith, e, f))))

-- no space for the array: nothing changes
pub no-space : {old new : WindowState} (n : ℕ) (more : List (List ℕ)) {f : Refusal} → IsHeap current old.bytes → 0 < n
    → n ≡ length more → LacksFit old new (place (live_of old.bytes) (16 * n) Storage) f → StoresArrayErr old new more f
no-space {old} {new} n more heap some e r = subst (StoresArrayErr old new more) (sym r.refusal)
    (subst (λ (c : WindowState). StoresArrayErr old c more NoSpace) (sym r.same)
    (unchanged old more heap (in-array (live_of old.bytes) more None (omega (arith, e, some))
    (subst (λ k. place (live_of old.bytes) (16 * k) Storage ≡ None) e r.none))))

-- ---- the array

pub record IsArrayTaken (old mid : WindowState) (n g : ℕ) : Type 0 where
  pub block : Extent
  pub placed : place (live_of old.bytes) (16 * n) Storage ≡ Some block
  pub at : handle block ≡ g
  pub change : SwapsBlocks old mid [] (block ∷ [])
  pub heap : IsHeap current mid.bytes
  pub found : extent_at (live_of mid.bytes) g ≡ Some block
  pub big : 16 * n + 16 ≤ block.len
  pub room : IsTrue (has_room (live_of mid.bytes) g (16 * n))

-- a new array is a block in use
pub array-taken : {old mid : WindowState} (n : ℕ) {g : ℕ} → AllocatesOk current old mid (16 * n) Storage g
    → IsArrayTaken old mid n g
array-taken {old} {mid} n {g} a =
    let y = a.extent in let x = exchange-taken _ old mid _ _ g 0 0 a in let come = are-come x in
    let big = serves-full y (16 * n) (place-serves (live_of old.bytes) (16 * n) Storage y a.placed) in
    record {
      block = y;
      placed = a.placed;
      at = sym a.at;
      change = x;
      heap = come.heap;
      found = ap (λ k. extent_at (live_of mid.bytes) k) a.at ∙ come.found.0;
      big = big;
      room = subst (λ k. IsTrue (has_room (live_of mid.bytes) k (16 * n))) (sym a.at)
          (found-room (live_of mid.bytes) (handle y) (16 * n) y come.found.0 big);
    }

-- ---- all texts

all-placed : (ps : List OwnedText) (l : LiveSet) (rest : List (List ℕ)) → rest ≡ []
    → option_map (λ (qs : List OwnedText). ps ++ qs) (placed_texts l rest) ≡ Some ps
all-placed ps l rest e = ap (λ xs. option_map (λ (qs : List OwnedText). ps ++ qs) (placed_texts l xs)) e
    ∙ ap (λ (xs : List OwnedText). Some xs) (append-nil ps)

-- all strings laid out: the array is stored
pub laid-out : {old mid new : WindowState} {n k g : ℕ} {more : List (List ℕ)} → (t : IsArrayTaken old mid n g)
    → n ≡ length more → StoresArrayUpTo mid new t.block k more → k ≡ n → StoresArrayOk old new more g
laid-out {old} {mid} {new} {k} {more} t e w all =
    let a = w.laid in let count : k ≡ length more = all ∙ e in
    record {
      block = t.block;
      at = sym t.at;
      fit = subst (λ i. place (live_of old.bytes) (16 * i) Storage ≡ Some t.block) e t.placed;
      texts = a.texts;
      long = a.long ∙ count;
      placed = ap (λ (l : LiveSet). placed_texts l more) (sym (came-alone t.change)) ∙ a.placed ∙ all-placed a.texts
          (live_of new.bytes) (drop k more) (drop_all k more (omega (arith, count)));
      change = subst (SwapsBlocks old new []) (append-nil (t.block ∷ text_blocks a.texts))
          (exchange-next _ old mid new 0 0 [] _ _ [] _ (spread-refl (t.block ∷ [])) t.change a.change);
      links = a.links;
      owned = a.owned;
      served = a.served;
    }

-- ---- not all of them are stored

-- the strings laid out so far are held
pub laid-held : {old mid new : WindowState} {n k g : ℕ} {more : List (List ℕ)} → (t : IsArrayTaken old mid n g)
    → n ≡ length more → (w : StoresArrayUpTo mid new t.block k more) → AreHeldElements new.bytes g k w.laid.texts
laid-held {new} {k} t e w =
    let tb = text_blocks w.laid.texts in let come = are-come w.laid.change in
    subst (λ h. AreHeldElements new.bytes h k w.laid.texts) t.at (record {
      heap = come.heap;
      room = found-room (live_of new.bytes) (handle t.block) (16 * k) t.block come.found.0
          (omega (arith, e, w.within, t.big));
      long = w.laid.long;
      links = w.laid.links;
      live = come.found.1;
      apart = of-none (handle t.block) tb come.others.0;
      others = come.others.1;
    })

-- the array alone is in use still
array-alone : {old mid new left : WindowState} {n k g : ℕ} {more : List (List ℕ)} → (t : IsArrayTaken old mid n g)
    → (w : StoresArrayUpTo mid new t.block k more) → SwapsBlocks new left (text_blocks w.laid.texts) []
    → SwapsBlocks old left [] (t.block ∷ [])
array-alone {old} {mid} {new} {left} t w x =
    let tb = text_blocks w.laid.texts in
    let back = exchange-next _ mid new left 0 0 _ _ tb (t.block ∷ []) [] (last-first (t.block ∷ []) tb) w.laid.change
    x in
    exchange-next _ old mid left 0 0 [] _ _ [] _ (spread-refl (t.block ∷ [])) t.change back

-- the array is in use still
pub array-live : {old mid new left : WindowState} {n k g : ℕ} {more : List (List ℕ)} → (t : IsArrayTaken old mid n g)
    → (w : StoresArrayUpTo mid new t.block k more) → SwapsBlocks new left (text_blocks w.laid.texts) []
    → IsTrue (is_live_in (live_of left.bytes) g)
array-live {left} t w x =
    let come = are-come (array-alone t w x) in
    subst (λ h. IsTrue (is_live_in (live_of left.bytes) h)) t.at
    (found-live (handle t.block) (live_of left.bytes).extents come.found.0)

-- nothing is exchanged
swapped-back : {old new : WindowState} → SwapsBlocks old new [] [] → KeepsLiveSet current old new
swapped-back {old} {new} x = record {
  laid = x.live;
  keeps = record {
    place = x.place;
    front = x.front;
    behind = x.behind;
    blocks = all-as (SameBlockExcept (bytes_of old.bytes) (bytes_of new.bytes) 0 0)
        (SameBlock (bytes_of old.bytes) (bytes_of new.bytes))
        (λ z s. record { payload = record { at = λ k f g. s.payload k f g (inr (omega arith)) }; colour = s.colour })
        (live_of old.bytes).extents x.blocks;
  };
}

-- the strings and the array are freed: all is as before
pub taken-off : {old mid new left last : WindowState} {n k g : ℕ} {more : List (List ℕ)}
    → (t : IsArrayTaken old mid n g)
    → n ≡ length more → 0 < n → (w : StoresArrayUpTo mid new t.block k more) → k ≢ n → SwapsBlocks new left
    (text_blocks w.laid.texts) [] → Deallocates current left last g → StoresArrayErr old last more NoSpace
taken-off {old} {mid} {new} {left} {last} {n} {k} {more} t e some w short x r =
    let y = t.block in let a = w.laid in let alone = array-alone t w x in
    let gone = exchange-released current left last y 0 0 (subst (Deallocates current left last) (sym t.at) r) in
    let fit = subst (λ i. place (live_of old.bytes) (16 * i) Storage ≡ Some y) e t.placed in
    record {
      refusal = refl;
      none = in-array (live_of old.bytes) more (Some y) (omega (arith, e, some)) fit ∙ ap (λ (l : LiveSet). placed_texts
          l more) (sym (came-alone t.change)) ∙ a.placed ∙ ap (option_map (λ (qs : List OwnedText). a.texts ++ qs))
          (w.stopped (below k n (length more) short e w.within));
      restored = swapped-back (exchange-next _ old left last 0 0 [] _ _ [] [] (spread-refl (y ∷ [])) alone gone);
      first = λ none. absurd (laid-fitted (live_of old.bytes) more (omega (arith, e, some)) fit none);
    }
  where
    below : (k n m : ℕ) → k ≢ n → n ≡ m → k ≤ m → k < m
    below k n m d e f = grind arith

-- ---- blocks that stay where the vector's own ones are released and its words are written

across : (xs ys : List Extent) → AreDistinct (xs ++ ys) → AllByRecursion (λ (x : Extent). IsNone (handle x) ys) xs
across [] ys d = tt
across (x ∷ xs) ys d = ((all-split (λ (z : Extent). handle x ≢ handle z) xs ys d.0).1, across xs ys d.1)

-- blocks that are not gone stay
pub all-beside : {a b : WindowState} {p : Place} {gone come : List Extent} (xs : List Extent) → IsHeap current a.bytes
    → IsHead a p
    → ExchangesBlocks current a b (place_at p) 24 gone come → AllByRecursion (IsFound (live_of a.bytes).extents) xs
    → IsNone p.handle xs → AllByRecursion (λ (x : Extent). IsNone (handle x) gone) xs
    → AllByRecursion (SameBlock (bytes_of a.bytes) (bytes_of b.bytes)) xs
all-beside [] heap w e f n d = tt
all-beside {a} {b} {p} {gone} {come} (x ∷ xs) heap w e f n d =
    let big : p.at + 24 + 16 ≤ w.block.len = w.big in (
      kept-beside a b _ 24 p.handle (handle x) _ x gone come _ heap e w.found (omega (arith, w.here))
          (omega (arith, w.here, big)) n.0 f.0 d.0,
      all-beside xs heap w e f.1 n.1 d.1,
    )

-- ---- the new blocks are apart from the vector's blocks

record IsBesideOwn (old now : WindowState) (p : Place) (ps : List OwnedText) (t : BackingArray)
    (come : List Extent) : Type 0 where
  heap : IsHeap current now.bytes
  head : IsHead now p
  change : ExchangesBlocks current old now (place_at p) 24 (own_blocks ps t) (come ++ own_blocks ps t)
  found : AllByRecursion (IsFound (live_of now.bytes).extents) come
  none : IsNone p.handle come
  others : AllByRecursion (λ (x : Extent). IsNone (handle x) (own_blocks ps t)) come

beside-own : {old now : WindowState} {p : Place} {ps : List OwnedText} {t : BackingArray} {come : List Extent}
    → IsTexts old.bytes p ps t → ExchangesBlocks current old now 0 0 [] come → IsBesideOwn old now p ps t come
beside-own {old} {now} {p} {ps} {t} {come} s x =
    let own = own_blocks ps t in let w = texts-own old s in let r0 = run-begin old [] ps [] (sym (append-nil ps)) s in
    let r1 = run-swapped own (spread-refl own) r0 x tt in
    record {
      heap = r1.heap;
      head = r1.head;
      change = r1.change;
      found = (are-come x).found;
      none = (all-split (λ (z : Extent). p.handle ≢ handle z) come own (run-none w.head w.none r1)).0;
      others = across come own (run-others r1);
    }

-- ---- the vector afterwards

-- the array is adopted in place of the old one
pub assigned : {old now rel new : WindowState} {p : Place} {ps : List OwnedText} {t : BackingArray} {g : ℕ} (n : ℕ)
    {more : List (List ℕ)} → IsTexts old.bytes p ps t → (w : StoresArrayOk old now more g) → n ≡ length more → 0 < n
    → ReleasesTexts now rel p → SetsWords rel new p (Some g) n → AssignsTextsOk old new p ps t more
assigned {old} {now} {rel} {new} {p} {ps} {t} n {more} s w e some released q =
    let at = place_at p in let own = own_blocks ps t in let y = w.block in let qs = w.texts in
    let come : List Extent = y ∷ text_blocks qs in
    let u = table n (Some y) in let x = released ps t (texts-still s w.change) in let b = beside-own s w.change in
    let e2 = head-exchanged p x.texts.heap x.texts.room q.change in
    let e12 = exchange-next _ now rel new at 24 own [] [] [] [] (spread-refl []) x.change e2 in
    let all = exchange-next _ old now new at 24 own _ own come [] (last-first come own) b.change e12 in
    let stay = all-beside come b.heap b.head e12 b.found b.none b.others in
    let serves_all = place-serves (live_of old.bytes) (16 * n) Storage y
    (subst (λ k. place (live_of old.bytes) (16 * k) Storage ≡ Some y) (sym e) w.fit) in
    let big = serves-full y (16 * n) serves_all in let long : n ≡ length qs = e ∙ sym w.long in
    let words : AreHeadWords (bytes_of new.bytes) at n u = record
    { link = q.link ∙ ap (λ k. Some k) w.at; len_word = q.len_word; capacity = q.capacity } in
    let links = links-moved (bytes_of now.bytes) (bytes_of new.bytes) (handle y) (handle y) qs w.links
    (λ j f. element-in (handle y + 16 * j) stay.0 (omega arith) (omega (arith, f, long, big))) in
    let owned = owned-same (bytes_of now.bytes) (bytes_of new.bytes) qs stay.1 w.served w.owned in
    record {
      table = table (length more) (Some y);
      array = new-array (live_of old.bytes) (length more) (omega (arith, e, some))
          ∙ ap (option_map (λ (x : Extent). table (length more) (Some x))) w.fit;
      texts = qs;
      placed = w.placed;
      now = subst (λ k. ReplacesTexts old new p own come qs (table k (Some y))) e
          (texts-between qs [] ps qs [] {u = u} (sym (append-nil ps)) (sym (append-nil qs)) refl refl s all
          (new-table n y some serves_all) (omega (arith, long))
          (subst (λ k. AreHeadWords (bytes_of new.bytes) at k u) long words) links owned w.served (λ same.
          let fresh = subst (λ (xs : List Extent). AllByRecursion (λ (x : Extent). IsNone (handle x) xs) come) same
          b.others in let none = fresh-none come fresh in absurd (cc)));
    }

-- the array begins at a multiple of 16
pub laid-even : {old now : WindowState} {g : ℕ} {more : List (List ℕ)} → StoresArrayOk old now more g → g % 16 ≡ 0
laid-even {now} w =
    let come = are-come w.change in
    subst (λ k. k % 16 ≡ 0) (sym w.at) (even-block (live_of now.bytes) (Some w.block) come.heap.proper
    (come.found.0, tt))

-- ---- the result of the call

-- strings are assigned: at least one
pub assigns-some : (old new : WindowState) (p : Place) (more : List (List ℕ)) → 0 < length more
    → ((ps : List OwnedText) (t : BackingArray) → IsTexts old.bytes p ps t → AssignsTextsOk old new p ps t more)
    → AssignsTexts old new p more (Ok tt)
assigns-some old new p [] f a = absurd (omega (arith, f))
assigns-some old new p (x ∷ xs) f a = a

-- a number that is not 0 is at least 1
pub some-texts : (n : ℕ) → false ≡ (n == 0) → 0 < n
some-texts zero e = absurd (cc)
some-texts (suc n) e = omega arith

-- ---- a vector of texts stays if the same blocks are in use, with the same bytes

nothing-swapped : {a b : WindowState} → KeepsLiveSet current a b → SwapsBlocks a b [] []
nothing-swapped {a} {b} r = record {
  live = r.laid;
  place = r.keeps.place;
  front = r.keeps.front;
  behind = r.keeps.behind;
  blocks = all-same-but (bytes_of a.bytes) (bytes_of b.bytes) 0 0 (live_of a.bytes).extents r.keeps.blocks;
}

-- a vector of strings stays if all blocks are unchanged
pub texts-restored : {a b : WindowState} {p : Place} {ps : List OwnedText} {t : BackingArray} → IsTexts a.bytes p ps t
    → KeepsLiveSet current a b → IsTexts b.bytes p ps t
texts-restored s r = texts-still s (nothing-swapped r)
