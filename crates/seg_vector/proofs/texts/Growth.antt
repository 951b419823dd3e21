-- The array of a vector of texts with a larger capacity, with one more text in it, and the undoing of a reservation.
use Rattle.seg_vector.proofs.Common as W
use W.{◌≡◌, ◌≢◌, refl, sym, ap, subst, ◌∙◌, ℕ, ◌+◌, ◌*◌, ◌<◌, ◌≤◌, Option, Some, None, List, ◌∷◌, ◌++◌, arith, length}
use W.{inl, inr, ◌⊎◌, ◌%◌, append-nil, IsTrue, Result, Ok, Err, MatchResult, option_map, option_to_list, IfSome, nat_lt}
use W.{AllByRecursion, and_from, lt-ltb, WindowState, bytes_of, current, Storage, link_at, CannotWiden, WidensBlock}
use W.{exchanged, Extent, LiveSet, handle, end_of, place, Refusal, AllocatesOk, ChangesBytes, IsHeap, Deallocates}
use W.{ResizesBlock, SameBlock, extent_at, live_of, has_room, BackingArray, serves, has_backing, IsFound, IsNone}
use W.{SameBlock-trans, exchange-order, exchange-released, exchange-resized, exchange-taken, found-none, kept}
use W.{kept-found, last-first, live-rises, middle-first, place-serves, regrow-serves, spread-refl, found-room}
use W.{two-apart, laid-heap, Place, place_at, SameElements, AdoptsOk, ReservesArray, LacksFit, SwapsBlocks, taken}
use W.{widened, AreEvenLinks, IsArrayReserved, gaps-refl, TakesStorage, AreDistinct, IsTexts, ReplacesTexts}
use W.{AreTextLinks, OwnedText, [], SetsStorage, blocks-trans}
use Rattle.seg_vector.proofs.storage.HeadAndBlock.{AreHeadWords, IsHead, IsRun, beside-head, block-written, none-some}
use Rattle.seg_vector.proofs.storage.HeadAndBlock.{run-found}
use Rattle.seg_vector.proofs.storage.HeadAndBlock.{run-headed, run-swapped, same-some, serves-full, table, all-kept}
use Rattle.seg_vector.proofs.storage.HeadAndBlock.{stands-none-of}
use Rattle.seg_vector.proofs.storage.HeadAndBlock.{head-gaps, stands-run, table-full}
use Rattle.seg_vector.proofs.texts.Blocks.{all-split, element-in, element-trans, even-block, even-held, links-moved}
use Rattle.seg_vector.proofs.texts.Blocks.{run-begin, swapped-none, texts-between}
use Rattle.seg_vector.proofs.storage.Storage.{grown-more, grown-same, regrow-new, storage-role, too-many}
use Rattle.seg_vector.proofs.texts.Calls.{held-elements, run-others, texts-stand}
use Rattle.best_fit.specs.Fit.{regrow}
use Rattle.seg_vector.specs.Vector.{grown_backing}

-- ---- the reservation

asked-new : (old new : WindowState) (o : Option Extent) (n : ℕ) (r : Result ℕ Refusal)
    → regrow (live_of old.bytes) o n ≡ place (live_of old.bytes) n Storage → TakesStorage old new n r
    → MatchResult r (ReservesArray old new o n) (LacksFit old new (regrow (live_of old.bytes) o n))
asked-new old new o n (Ok g) e a = taken a (e ∙ a.placed)
asked-new old new o n (Err f) e a = record { refusal = a.refusal; none = e ∙ a.none; same = a.same }

-- a vector without storage allocates a new array
pub asked-none : (old new : WindowState) {p : Place} {ps : List OwnedText} {c : ℕ} (n : ℕ) {o : Option Extent}
    (r : Result ℕ Refusal) → IsTexts old.bytes p ps (table c o) → link_at (bytes_of old.bytes) (place_at p) ≡ None
    → TakesStorage old new n r
    → MatchResult r (ReservesArray old new o n) (LacksFit old new (regrow (live_of old.bytes) o n))
asked-none old new n {o = None} r s link a = asked-new old new None n r (regrow-new (live_of old.bytes) n) a
asked-none old new n {o = Some x} r s link a = none-some link s.words.link

-- the block of the array is the one of its handle
array-of : {b : List ℕ} {p : Place} {ps : List OwnedText} {c g : ℕ} {o : Option Extent} {z : Extent}
    → IsTexts b p ps (table c o) → link_at (bytes_of b) (place_at p) ≡ Some g → extent_at (live_of b) g ≡ Some z
    → o ≡ Some z
array-of {o = None} s link e = none-some s.words.link link
array-of {b} {o = Some x} s link e =
    let g_is = same-some (sym s.words.link ∙ link) in sym s.own.0 ∙ ap (λ k. extent_at (live_of b) k) g_is ∙ e

-- the array is lengthened in place
pub asked-wide : {old new : WindowState} {p : Place} {ps : List OwnedText} {t : BackingArray} {g n : ℕ}
    → IsTexts old.bytes p ps t → link_at (bytes_of old.bytes) (place_at p) ≡ Some g
    → WidensBlock current old new g n → ReservesArray old new t.extent n g
asked-wide s link w = widened w (array-of s link w.found)

-- a new array is reserved while the old one stays
pub asked-beside : {old mid : WindowState} (new : WindowState) {p : Place} {ps : List OwnedText} {t : BackingArray}
    {g n : ℕ} (r : Result ℕ Refusal) → IsTexts old.bytes p ps t
    → link_at (bytes_of old.bytes) (place_at p) ≡ Some g → CannotWiden old mid g n → TakesStorage mid new n r
    → MatchResult r (ReservesArray old new t.extent n) (LacksFit old new (regrow (live_of old.bytes) t.extent n))
asked-beside {old} new {t} {n} r s link w a = asked-new old new t.extent n r (ap (λ o. regrow (live_of old.bytes) o n)
    (array-of s link w.found) ∙ w.regrown) (subst (λ (k : WindowState). TakesStorage k new n r) w.same a)

-- ---- the table

-- an array that was regrown: the storage afterwards
pub grown-to : (l : LiveSet) (n : ℕ) (t : BackingArray) {y : Extent} → t.capacity < n
    → regrow l t.extent (16 * n) ≡ Some y
    → grown_backing l 16 n t ≡ Some (record { capacity = n; extent = Some y })
grown-to l n t f e = grown-more l 16 n t f ∙ ap (option_map (λ x. table n (Some x))) e

-- an array that could not be regrown: no storage
pub not-grown : (l : LiveSet) (n : ℕ) (t : BackingArray) → t.capacity < n → regrow l t.extent (16 * n) ≡ None
    → grown_backing l 16 n t ≡ None
not-grown l n t f e = grown-more l 16 n t f ∙ ap (option_map (λ x. table n (Some x))) e

-- ---- the blocks that stay

-- blocks that differ from the head's stay where the head is written
pub all-beside-head : {a b : WindowState} {p : Place} (xs : List Extent) → IsHeap current a.bytes
    → IsHead a p → ChangesBytes current a b (place_at p) 24 → AllByRecursion (IsFound (live_of a.bytes).extents) xs
    → IsNone p.handle xs → AllByRecursion (SameBlock (bytes_of a.bytes) (bytes_of b.bytes)) xs
all-beside-head [] heap w c f n = tt
all-beside-head (x ∷ xs) heap w c f n = (beside-head (handle x) heap w c f.0 n.0, all-beside-head xs heap w c f.1 n.1)

-- a new block differs from each block in use
pub new-other : {first mid : WindowState} {n g : ℕ} (h : ℕ) {x : Extent}
    → (a : AllocatesOk current first mid n Storage g) → extent_at (live_of first.bytes) h ≡ Some x → h ≢ handle a.extent
new-other {first} h {x} a e =
    let l = live_of first.bytes in
    (found-none h x (a.extent ∷ []) l.extents (live-rises (exchanged l [] (a.extent ∷ [])) a.live.proper) e).0

-- ---- the words are written, and the elements stay in place

-- the reserved array is the old one
pub record IsInPlace (first now : WindowState) (p : Place) (ps : List OwnedText) (t : BackingArray) (g n : ℕ)
    (loose : List Extent) : Type 0 where
  pub array : Extent
  pub run : IsRun first now p (option_to_list t.extent) (loose ++ (array ∷ [])) (length ps) t
  pub at : g ≡ handle array
  pub grow : regrow (live_of first.bytes) t.extent (16 * n) ≡ Some array
  pub serving : IsTrue (serves array Storage (16 * n))
  pub links : AreTextLinks (bytes_of now.bytes) (handle array) ps
  pub same : option_to_list t.extent ≡ array ∷ loose → now ≡ first

-- lengthened where it stood
wide-place : {first mid now : WindowState} {p : Place} {ps : List OwnedText} {c g : ℕ} (n : ℕ) {x : Extent}
    {loose : List Extent} → IsTexts first.bytes p ps (table c (Some x)) → (w : WidensBlock current first mid g (16 * n))
    → Some x ≡ Some w.before → SwapsBlocks mid now [] loose → (loose ≡ [] → now ≡ mid)
    → IsInPlace first now p ps (table c (Some x)) g n loose
wide-place {first} {mid} {now} {p} {ps} {c} n {x} {loose} s w is since still =
    let y = w.after in let same : w.before ≡ x = same-some (sym is) in
    let begins : handle y ≡ handle x = w.begins ∙ ap (λ (z : Extent). handle z) same in
    let longer : x.len ≤ y.len = subst (λ (z : Extent). z.len ≤ y.len) same w.longer in
    let r : ResizesBlock current first mid x y =
    subst (λ (z : Extent). ResizesBlock current first mid z y) same w.change in
    let grow : regrow (live_of first.bytes) (Some x) (16 * n) ≡ Some y =
    ap (λ o. regrow (live_of first.bytes) o (16 * n)) is ∙ w.regrown in
    let fits = s.fits in let full = table-full 16 c x s.table in
    let one = run-swapped [] (spread-refl (x ∷ [])) (run-begin first [] [] ps refl s)
    (exchange-resized _ _ mid x y 0 0 begins r) ((λ f. s.own.1 (sym f)), tt) in
    let k2 = kept mid now (handle y) y [] _ _ one.heap since (run-found one).0 tt in
    let elements : SameElements (bytes_of first.bytes) (bytes_of now.bytes) (handle x) (handle x) (length ps) =
    λ j f. element-trans (element-in (handle x + 16 * j) r.still (omega arith) (omega (arith, f, fits, full, longer)))
    (element-in (handle x + 16 * j) k2 (omega (arith, begins)) (omega (arith, begins, f, fits, full, longer))) in
    record {
      array = y;
      run = run-swapped (y ∷ []) (spread-refl (y ∷ [])) one since tt;
      at = sym w.at ∙ sym w.begins;
      grow = grow;
      serving = regrow-serves (live_of first.bytes) (Some x) y (16 * n) (storage-role 16 c (Some x) s.table) grow;
      links = subst (λ k. AreTextLinks (bytes_of now.bytes) k ps) (sym begins)
          (links-moved (bytes_of first.bytes) (bytes_of now.bytes) (handle x) (handle x) ps s.words.array elements);
      same = λ e.
          let alone : loose ≡ [] = cc in let kept : w.after ≡ w.before = cc in still alone ∙ w.same kept;
    }

-- a first one
first-place : {first mid now : WindowState} {p : Place} {ps : List OwnedText} {c g : ℕ} (n : ℕ) {loose : List Extent}
    → IsTexts first.bytes p ps (table c None) → (a : AllocatesOk current first mid (16 * n) Storage g)
    → SwapsBlocks mid now [] loose → IsInPlace first now p ps (table c None) g n loose
first-place {first} {mid} {now} {ps} {g} n s a since =
    let y = a.extent in
    let one = run-swapped [] (spread-refl []) (run-begin first [] [] ps refl s) (exchange-taken _ _ mid _ _ g 0 0 a)
    tt in
    record {
      array = y;
      run = run-swapped (y ∷ []) (spread-refl (y ∷ [])) one since tt;
      at = a.at;
      grow = regrow-new (live_of first.bytes) (16 * n) ∙ a.placed;
      serving = place-serves (live_of first.bytes) (16 * n) Storage y a.placed;
      links = subst (AreTextLinks (bytes_of now.bytes) (handle y)) (sym s.words.array) tt;
      same = λ e. absurd (cc);
    }

adopt-place : {first old new : WindowState} {p : Place} {ps : List OwnedText} {t : BackingArray} {g n : ℕ}
    {loose : List Extent} → IsTexts first.bytes p ps t → t.capacity < n
    → IsInPlace first old p ps t g n loose → SetsStorage old new p g n → AdoptsOk first old new p ps t g n loose
adopt-place {first} {old} {new} {p} {ps} {t} {g} {n} {loose} s more q d =
    let y = q.array in let r = q.run in let fits = s.fits in let c = d.change in
    let words : AreHeadWords (bytes_of new.bytes) (place_at p) (length ps) (table n (Some y)) =
    record { link = d.link ∙ ap (λ k. Some k) q.at; len_word = d.len_word ∙ r.words.len_word; capacity = d.capacity } in
    let found = all-split (IsFound (live_of old.bytes).extents) loose (y ∷ []) (run-found r) in
    let none = all-split (λ (z : Extent). p.handle ≢ handle z) loose (y ∷ []) (stands-none-of (texts-stand s) r) in
    let k = beside-head (handle y) r.heap r.head c found.1.0 none.1.0 in let full = serves-full y (16 * n) q.serving in
    let links = links-moved (bytes_of old.bytes) (bytes_of new.bytes) (handle y) (handle y) ps q.links
    (λ j f. element-in (handle y + 16 * j) k (omega arith) (omega (arith, f, fits, more, full))) in
    record {
      array = y;
      at = q.at;
      grown = grown-to (live_of first.bytes) n t more q.grow;
      serves = q.serving;
      change = exchange-order _ _ new _ 24 (option_to_list t.extent) (loose ++ (y ∷ [])) _ (last-first loose (y ∷ []))
          (run-headed r c words).change;
      gaps = λ e. head-gaps p s.room
          (subst (λ (k : WindowState). ChangesBytes current k new (place_at p) 24) (q.same e) c);
      link = d.link;
      len_word = words.len_word;
      capacity = d.capacity;
      links = subst (λ k. AreTextLinks (bytes_of new.bytes) k ps) (sym q.at) links;
      stay = all-beside-head loose r.heap r.head c found.0 none.0;
    }

-- without another array
pub adopt-none : {first mid old new : WindowState} {p : Place} {ps : List OwnedText} {c g : ℕ} (n : ℕ)
    {o : Option Extent} {loose : List Extent} → IsTexts first.bytes p ps (table c o) → c < n
    → ReservesArray first mid o (16 * n) g → SwapsBlocks mid old [] loose → link_at (bytes_of first.bytes) (place_at p)
    ≡ None → SetsStorage old new p g n → AdoptsOk first old new p ps (table c o) g n loose
adopt-none n {o = Some x} s more a since was d = none-some was s.words.link
adopt-none n {o = None} s more (widened w is) since was d = absurd (cc)
adopt-none n {o = None} s more (taken a e) since was d = adopt-place s more (first-place n s a since) d

-- the case in which the array is the old one
pub adopt-same : {first mid old new : WindowState} {p : Place} {ps : List OwnedText} {c g : ℕ} (n : ℕ)
    {o : Option Extent}
    {loose : List Extent} → IsTexts first.bytes p ps (table c o) → c < n → ReservesArray first mid o (16 * n) g
    → SwapsBlocks mid old [] loose → (loose ≡ [] → old ≡ mid) → link_at (bytes_of first.bytes) (place_at p) ≡ Some g
    → SetsStorage old new p g n → AdoptsOk first old new p ps (table c o) g n loose
adopt-same n {o = None} s more a since still was d = none-some s.words.link was
adopt-same n {o = Some x} s more (widened w is) since still was d =
    adopt-place s more (wide-place n s w is since still) d
adopt-same n {o = Some x} s more (taken a e) since still was d =
    let g_is = same-some (sym s.words.link ∙ was) in absurd (new-other (handle x) a s.own.0 (g_is ∙ a.at))

-- ---- a new one in the place of the old one

others-of-loose : (loose : List Extent) (y x : Extent) → AreDistinct (loose ++ (y ∷ x ∷ []))
    → AllByRecursion (λ (z : Extent). IsNone (handle z) (y ∷ [])) loose × AllByRecursion
    (λ (z : Extent). IsNone (handle z) (x ∷ [])) loose
others-of-loose [] y x d = (tt, tt)
others-of-loose (z ∷ zs) y x d =
    let here = (all-split (λ (w : Extent). handle z ≢ handle w) zs (y ∷ x ∷ []) d.0).1 in
    let rest = others-of-loose zs y x d.1 in (((here.0, tt), rest.0), ((here.1.0, tt), rest.1))

-- so far: the new array and the old one are in use
pub record IsBeside (first old : WindowState) (p : Place) (ps : List OwnedText) (t : BackingArray) (x y : Extent)
    (loose : List Extent) : Type 0 where
  pub run : IsRun first old p (x ∷ []) (loose ++ (y ∷ x ∷ [])) (length ps) t
  pub other : p.handle ≢ handle x
  pub apart : handle x ≢ handle y
  pub old_found : extent_at (live_of old.bytes) (handle x) ≡ Some x
  pub new_found : extent_at (live_of old.bytes) (handle y) ≡ Some y
  pub same : SameBlock (bytes_of first.bytes) (bytes_of old.bytes) x

pub beside : {first mid old : WindowState} {p : Place} {ps : List OwnedText} {c g n : ℕ} {x : Extent}
    {loose : List Extent}
    → IsTexts first.bytes p ps (table c (Some x)) → (a : AllocatesOk current first mid n Storage g)
    → SwapsBlocks mid old [] loose → IsBeside first old p ps (table c (Some x)) x a.extent loose
beside {first} {mid} {old} {p} {ps} {c} {g} {n} {x} s a since =
    let x1 = exchange-taken _ _ mid n _ g 0 0 a in let r0 = run-begin first [] [] ps refl s in
    let r1 = run-swapped (x ∷ []) (spread-refl (x ∷ [])) r0 x1 tt in let found1 = run-found r1 in
    record {
      run = run-swapped (a.extent ∷ x ∷ []) (spread-refl (a.extent ∷ x ∷ [])) r1 since tt;
      other = λ f. s.own.1 (sym f);
      apart = new-other (handle x) a s.own.0;
      old_found = kept-found mid old 0 0 (handle x) x [] _ _ since found1.1.0 tt;
      new_found = kept-found mid old 0 0 (handle a.extent) a.extent [] _ _ since found1.0 tt;
      same = SameBlock-trans _ _ _ x (kept _ mid (handle x) x [] _ _ s.heap x1 s.own.0 tt)
          (kept mid old (handle x) x [] _ _ r1.heap since found1.1.0 tt);
    }

-- the elements are copied, the words are written, and the old array is freed
adopt-beside : {first mid old a1 a2 new : WindowState} {p : Place} {ps : List OwnedText} {c g : ℕ} (n : ℕ) {x : Extent}
    {loose : List Extent} → IsTexts first.bytes p ps (table c (Some x)) → c < n → (a : AllocatesOk current first mid
    (16 * n) Storage g) → regrow (live_of first.bytes) (Some x) (16 * n) ≡ Some a.extent → SwapsBlocks mid old [] loose
    → ChangesBytes current old a1 (g + 0) (16 * length ps) → SameElements (bytes_of old.bytes) (bytes_of a1.bytes)
    (handle x + 0) (g + 0) (length ps) → SetsStorage a1 a2 p g n → Deallocates current a2 new (handle x)
    → AdoptsOk first old new p ps (table c (Some x)) g n loose
adopt-beside {first} {old} {a1} {a2} {new} {p} {ps} {c} {g} n {x} {loose} s more a grow since c1 carried d rel =
    let c2 = d.change in
    let t = table c (Some x) in let y = a.extent in let k = length ps in let u = table n (Some y) in
    let g_is = a.at in let b = beside s a since in let fits = s.fits in let full = table-full 16 c x s.table in
    let serving = place-serves (live_of first.bytes) (16 * n) Storage y a.placed in
    let big = serves-full y (16 * n) serving in
    let none = all-split (λ (z : Extent). p.handle ≢ handle z) loose (y ∷ x ∷ [])
    (stands-none-of (texts-stand s) b.run) in
    let found0 = all-split (IsFound (live_of old.bytes).extents) loose (y ∷ x ∷ []) (run-found b.run) in
    let apart = others-of-loose loose y x (run-others b.run) in
    let x1 = block-written (16 * n) b.run.heap b.new_found c1 (omega (arith, g_is)) (omega (arith, g_is, fits, more))
    big in
    let r1 = run-swapped (loose ++ (x ∷ [])) (middle-first loose (y ∷ []) (x ∷ [])) b.run x1 (none.1.0, tt) in
    let words : AreHeadWords (bytes_of a2.bytes) (place_at p) k u = record {
      link = d.link ∙ ap (λ k. Some k) g_is;
      len_word = d.len_word ∙ r1.words.len_word;
      capacity = d.capacity;
    } in
    let r2 = run-headed r1 c2 words in let x3 = exchange-released _ a2 new x 0 0 rel in
    let r3 = run-swapped (y ∷ loose) (last-first (y ∷ loose) (x ∷ [])) r2 x3 (b.other, tt) in
    let found1 = run-found r1 in let found2 = run-found r2 in
    let loose1 = (all-split (IsFound (live_of a1.bytes).extents) loose (x ∷ []) found1.1).0 in
    let loose2 = (all-split (IsFound (live_of a2.bytes).extents) loose (x ∷ []) found2.1).0 in
    let y12 = beside-head (handle y) r1.heap r1.head c2 found1.0 none.1.0 in
    let y23 = kept a2 new (handle y) y _ [] _ r2.heap x3 found2.0 ((λ f. b.apart (sym f)), tt) in
    let y13 = SameBlock-trans _ _ _ y y12 y23 in let from : handle x + 0 ≡ handle x = omega arith in
    let to : g + 0 ≡ handle y = omega (arith, g_is) in
    let moved = subst (λ w. SameElements (bytes_of old.bytes) (bytes_of a1.bytes) w (handle y) k) from
    (subst (λ w. SameElements (bytes_of old.bytes) (bytes_of a1.bytes) (handle x + 0) w k) to carried) in
    let elements : SameElements (bytes_of first.bytes) (bytes_of new.bytes) (handle x) (handle y) k = λ j f.
    element-trans (element-trans
    (element-in (handle x + 16 * j) b.same (omega arith) (omega (arith, f, fits, full))) (moved j f))
    (element-in (handle y + 16 * j) y13 (omega arith) (omega (arith, f, fits, big, more))) in
    let links = links-moved (bytes_of first.bytes) (bytes_of new.bytes) (handle x) (handle y) ps s.words.array
    elements in
    record {
      array = y;
      at = g_is;
      grown = grown-to (live_of first.bytes) n t more grow;
      serves = serving;
      change = r3.change;
      gaps = λ e. let same : x ≡ y = cc in absurd (b.apart (ap (λ (z : Extent). handle z) same));
      link = r3.words.link ∙ ap (λ w. Some w) (sym g_is);
      len_word = r3.words.len_word;
      capacity = r3.words.capacity;
      links = subst (λ w. AreTextLinks (bytes_of new.bytes) w ps) (sym g_is) links;
      stay = blocks-trans (bytes_of old.bytes) (bytes_of a1.bytes) (bytes_of new.bytes) loose (all-kept loose b.run.heap
          x1 found0.0 apart.0) (blocks-trans (bytes_of a1.bytes) (bytes_of a2.bytes) (bytes_of new.bytes) loose
          (all-beside-head loose r1.heap r1.head c2 loose1 none.0) (all-kept loose r2.heap x3 loose2 apart.1));
    }

-- a new array is installed: it has the strings
pub adopt-other : {first mid old a1 a2 new : WindowState} {p : Place} {ps : List OwnedText} {c g h : ℕ} (n : ℕ)
    {o : Option Extent} {loose : List Extent} → IsTexts first.bytes p ps (table c o) → c < n
    → ReservesArray first mid o (16 * n) g → SwapsBlocks mid old [] loose → link_at (bytes_of first.bytes) (place_at p)
    ≡ Some h → h ≢ g → ChangesBytes current old a1 (g + 0) (16 * length ps)
    → SameElements (bytes_of old.bytes) (bytes_of a1.bytes) (h + 0) (g + 0) (length ps)
    → SetsStorage a1 a2 p g n → Deallocates current a2 new h → AdoptsOk first old new p ps (table c o) g n loose
adopt-other n {o = None} s more a since was differ c1 carried d rel = none-some s.words.link was
adopt-other n {o = Some x} s more (widened w is) since was differ c1 carried d rel =
    let h_is = same-some (sym s.words.link ∙ was) in
    absurd (differ (sym h_is ∙ ap (λ (z : Extent). handle z) (same-some is) ∙ w.at))
adopt-other {old} {a1} {a2} {new} {ps} {g} n {o = Some x} s more (taken a e) since was differ c1 carried d rel =
    let h_is = same-some (sym was ∙ s.words.link) in
    adopt-beside {new = new} n s more a e since c1 (subst (λ k. SameElements (bytes_of old.bytes) (bytes_of a1.bytes)
    (k + 0) (g + 0) (length ps)) h_is carried) d (subst (Deallocates current a2 new) h_is rel)

-- ---- the heap after an array was reserved

-- the reserved array, and the changes since
pub record IsReadyRun (first now : WindowState) (p : Place) (ps : List OwnedText) (t : BackingArray) (g n : ℕ) :
    Type 0 where
  pub come : List Extent
  pub array : Extent
  pub run : IsRun first now p (option_to_list t.extent) come (length ps) t
  pub at : g ≡ handle array
  pub found : extent_at (live_of now.bytes) (handle array) ≡ Some array
  pub big : 16 * n + 16 ≤ array.len

ready-place : {first now : WindowState} {p : Place} {ps : List OwnedText} {t : BackingArray} {g n : ℕ}
    {loose : List Extent} → IsInPlace first now p ps t g n loose → IsReadyRun first now p ps t g n
ready-place {now} {n} {loose} q = record {
  come = loose ++ (q.array ∷ []);
  array = q.array;
  run = q.run;
  at = q.at;
  found = (all-split (IsFound (live_of now.bytes).extents) loose (q.array ∷ []) (run-found q.run)).1.0;
  big = serves-full q.array (16 * n) q.serving;
}

-- a reserved array: the blocks in use
pub ready-in : {first mid now : WindowState} {p : Place} {ps : List OwnedText} {c g : ℕ} (n : ℕ) {o : Option Extent}
    {loose : List Extent} → IsTexts first.bytes p ps (table c o) → ReservesArray first mid o (16 * n) g
    → SwapsBlocks mid now [] loose → (loose ≡ [] → now ≡ mid) → IsReadyRun first now p ps (table c o) g n
ready-in n {o = None} s (widened w is) since still = absurd (cc)
ready-in n {o = None} s (taken a e) since still = ready-place (first-place n s a since)
ready-in n {o = Some x} s (widened w is) since still = ready-place (wide-place n s w is since still)
ready-in {first} n {o = Some x} {loose} s (taken a e) since still =
    let b = beside s a since in
    record {
      come = loose ++ (a.extent ∷ x ∷ []);
      array = a.extent;
      run = b.run;
      at = a.at;
      found = b.new_found;
      big = serves-full a.extent (16 * n) (place-serves (live_of first.bytes) (16 * n) Storage _ a.placed);
    }

-- an array that was reserved can be installed
abbrev pub ready-of : {first mid now : WindowState} {p : Place} {ps : List OwnedText} {t : BackingArray} {g : ℕ} (n : ℕ)
    {loose : List Extent} → IsTexts first.bytes p ps t → t.capacity < n → ReservesArray first mid t.extent (16 * n) g
    → SwapsBlocks mid now [] loose → (loose ≡ [] → now ≡ mid) → IsArrayReserved now p g n
ready-of {first} {mid} {ps = ps} {t} n {loose} s more a since still = record {
  first = first;
  mid = mid;
  ps = ps;
  t = t;
  loose = loose;
  texts = s;
  more = more;
  asked = a;
  since = since;
  still = still;
}

-- a reserved array is ready
pub ready : {now : WindowState} {p : Place} {g n : ℕ} → (r : IsArrayReserved now p g n)
    → IsReadyRun r.first now p r.ps r.t g n
ready {n} r = ready-in n r.texts r.asked r.since r.still

-- the words are still unchanged
pub ready-link : {now : WindowState} {p : Place} {g n : ℕ} → (r : IsArrayReserved now p g n)
    → link_at (bytes_of now.bytes) (place_at p) ≡ link_at (bytes_of r.first.bytes) (place_at p)
ready-link r = (ready r).run.words.link ∙ sym r.texts.words.link

-- a reserved array begins at a multiple of 16
pub ready-even : {now : WindowState} {p : Place} {g n : ℕ} → IsArrayReserved now p g n → g % 16 ≡ 0
ready-even {now} r =
    let q = ready r in
    subst (λ k. k % 16 ≡ 0) (sym q.at) (even-block (live_of now.bytes) (Some q.array) q.run.heap.proper (q.found, tt))

-- ---- the case of a new array, while the old one is in use

pub record IsReadyNew (now : WindowState) (g h n k : ℕ) : Type 0 where
  pub source : IsTrue (has_room (live_of now.bytes) h (0 + 16 * k))
  pub target : IsTrue (has_room (live_of now.bytes) g (0 + 16 * k))
  pub even : AreEvenLinks (bytes_of now.bytes) (h + 0) k
  pub apart : (g + 0 ≤ h + 0) ⊎ (h + 0 + 16 * k ≤ g + 0)

apart-of : (x y : Extent) (g h k : ℕ) → g ≡ handle y → h ≡ handle x → 16 * k + 16 ≤ x.len → 32 ≤ y.len
    → (end_of x ≤ y.offset) ⊎ (end_of y ≤ x.offset) → (g + 0 ≤ h + 0) ⊎ (h + 0 + 16 * k ≤ g + 0)
apart-of x y g h k e f big long (inl d) = inr (omega (arith, e, f))
apart-of x y g h k e f big long (inr d) = inl (omega (arith, e, f))

ready-new_in : {first mid now : WindowState} {p : Place} {ps : List OwnedText} {c g h : ℕ} (n : ℕ) {o : Option Extent}
    {loose : List Extent} → IsTexts first.bytes p ps (table c o) → c < n → ReservesArray first mid o (16 * n) g
    → SwapsBlocks mid now [] loose
    → link_at (bytes_of first.bytes) (place_at p) ≡ Some h → h ≢ g → IsReadyNew now g h n (length ps)
ready-new_in n {o = None} s more a since was differ = none-some s.words.link was
ready-new_in n {o = Some x} s more (widened w is) since was differ =
    let h_is = same-some (sym s.words.link ∙ was) in let same : x ≡ w.before = cc in
    absurd (differ (sym h_is ∙ ap (λ (z : Extent). handle z) same ∙ w.at))
ready-new_in {first} {now} {p} {ps} {c} {g} {h} n {o = Some x} {loose} s more (taken a e) since was differ =
    let k = length ps in let y = a.extent in let g_is = a.at in let h_is = same-some (sym was ∙ s.words.link) in
    let b = beside s a since in let fits = s.fits in let full = table-full 16 c x s.table in
    let big = serves-full y (16 * n) (place-serves (live_of first.bytes) (16 * n) Storage y a.placed) in
    let even = even-held first (held-elements k s was refl) in
    record {
      source = subst (λ w. IsTrue (has_room (live_of now.bytes) w (0 + 16 * k))) (sym h_is)
          (found-room (live_of now.bytes) (handle x) (0 + 16 * k) x b.old_found (omega (arith, full, fits)));
      target = subst (λ w. IsTrue (has_room (live_of now.bytes) w (0 + 16 * k))) (sym g_is)
          (found-room (live_of now.bytes) (handle y) (0 + 16 * k) y b.new_found (omega (arith, big, fits, more)));
      even = λ j f.
          let at : h + 16 * j ≡ h + 0 + 16 * j = omega arith in
          subst (λ w. IfSome (link_at (bytes_of now.bytes) w) (λ target. target % 16 ≡ 0)) at
          (subst (λ o. IfSome o (λ target. target % 16 ≡ 0)) (sym (element-in (h + 16 * j) b.same
          (omega (arith, h_is)) (omega (arith, h_is, f, fits, full))).link) (even j f));
      apart = apart-of x y g h k g_is h_is (omega (arith, full, fits)) (omega (arith, big, more))
          (two-apart (live_of now.bytes) x y b.run.heap.proper b.old_found b.new_found b.apart);
    }

-- a reserved array that is a new block: both arrays are in use
pub ready-new : {now : WindowState} {p : Place} {g h n : ℕ} → (r : IsArrayReserved now p g n)
    → link_at (bytes_of now.bytes) (place_at p) ≡ Some h → h ≢ g → IsReadyNew now g h n (length r.ps)
ready-new {n} r was differ = ready-new_in n r.texts r.more r.asked r.since (sym (ready-link r) ∙ was) differ

-- ---- more places, and the same texts

-- the segment with a reserved array is a heap
pub asked-heap : {first mid : WindowState} {o : Option Extent} {n g : ℕ} → ReservesArray first mid o n g
    → IsHeap current mid.bytes
asked-heap (widened w is) = laid-heap _ _ w.change.live
asked-heap (taken a e) = laid-heap _ _ a.live

-- nothing is swapped yet when an array is reserved
pub asked-alone : {first mid : WindowState} {o : Option Extent} {n g : ℕ} → ReservesArray first mid o n g
    → SwapsBlocks mid mid [] []
asked-alone {mid} a = swapped-none mid (asked-heap a)

-- a block that serves an array is its storage
pub new-table : (n : ℕ) (y : Extent) → 0 < n → IsTrue (serves y Storage (16 * n))
    → IsTrue (has_backing Storage 16 (table n (Some y)))
new-table n y f s = and_from (nat_lt 0 n) (serves y Storage (16 * n)) (lt-ltb 0 n f) s

-- an array that was adopted: the vector has the larger capacity
pub reserved : {first mid new : WindowState} {p : Place} {ps : List OwnedText} {t : BackingArray} {g n : ℕ}
    → IsTexts first.bytes p ps t → t.capacity < n
    → AdoptsOk first mid new p ps t g n [] → (w : BackingArray) × (grown_backing (live_of first.bytes) 16 n t ≡ Some w)
    × ReplacesTexts first new p (option_to_list t.extent) (option_to_list w.extent) ps w
reserved {new} {p} {ps} {t} {n} s more a =
    let u = table n (Some a.array) in let arr = option_to_list t.extent in
    let words : AreHeadWords (bytes_of new.bytes) (place_at p) (length ps) u =
    record { link = a.link ∙ ap (λ k. Some k) a.at; len_word = a.len_word; capacity = a.capacity } in (
      u,
      a.grown,
      texts-between ps [] [] [] ps refl refl (sym (append-nil arr)) refl s a.change
          (new-table n a.array (omega (arith, more)) a.serves) (omega (arith, s.fits, more)) words
          (subst (λ k. AreTextLinks (bytes_of new.bytes) k ps) a.at a.links) tt tt a.gaps,
    )

-- a capacity that suffices: the vector stays
pub reserved-same : (c : WindowState) {p : Place} {ps : List OwnedText} {t : BackingArray} (n : ℕ)
    → IsTexts c.bytes p ps t → n ≤ t.capacity → (w : BackingArray) × (grown_backing (live_of c.bytes) 16 n t ≡ Some w)
    × ReplacesTexts c c p (option_to_list t.extent) (option_to_list w.extent) ps w
reserved-same c {p} {ps} {t} n s f =
    let same : ReplacesTexts c c p (option_to_list t.extent) (option_to_list t.extent) ps t =
    record { change = (stands-run c (texts-stand s)).change; gaps = λ e. gaps-refl c; texts = s } in
    (t, grown-same (live_of c.bytes) 16 n t f, same)

-- more than 1 GiB of strings have no space
pub too-many-texts : (c : WindowState) {p : Place} {ps : List OwnedText} {t : BackingArray} (n : ℕ)
    → IsTexts c.bytes p ps t → 1073741824 < n → grown_backing (live_of c.bytes) 16 n t ≡ None
too-many-texts c n s f = (too-many c n (texts-stand s) (omega arith) f).none
