-- An allocation: the least gap that is long enough is the first such gap of the tree.
use Rattle.best_fit.proofs.Common.{◌≡◌, refl, sym, ap, subst, ◌∙◌, ℕ, ◌+◌, ◌-◌, ◌^◌, ◌<◌, ◌≤◌, ◌⊎◌, inl, inr, true}
use Rattle.best_fit.proofs.Common.{false, List, [], ◌∷◌, ◌++◌, length, arith, IsTrue, none-some, same_Some, Option}
use Rattle.best_fit.proofs.Common.{Some, None, map, filter, option_map, if◌then◌else◌, cases_Bool, and_from, leb-true}
use Rattle.best_fit.proofs.Common.{lt-leb, cond-true, cond-false, WindowState, bytes_of, Role, Tile, current, has_tags}
use Rattle.best_fit.proofs.Common.{EncodesTiles, bits, nodes_of, is_in, leads, all_from, none_some, Extent, Gap}
use Rattle.best_fit.proofs.Common.{LiveSet, gaps, added, fit, least, place, precedes, room, share, IsTreeOf, cells_of}
use Rattle.best_fit.proofs.Common.{is_red, payloads, sorted_gaps, gap_of, gaps_of, gaps_in, len_in, links_among, plain}
use Rattle.best_fit.proofs.Common.{tiles_in, IsGoodHeap, IsGoodHeap-is_good, is_good-IsGoodHeap, AreSomeGaps}
use Rattle.best_fit.proofs.Common.{HasGapTree, IsUnlinkedGap, ChangesGapTree, is_long, node_of, AllocatesOk, IsHeap}
use Rattle.best_fit.proofs.Common.{KeepsBlocks, EncodesLiveSet, live_of}
use Rattle.std.proofs.lemmas.Int.Digits.{all_below_base_digits_of, length-digits_of-le, length-digits_of_step}
use Rattle.std.proofs.lemmas.Int.Digits.{number_digits_of, number_lt}
use Rattle.std.specs.Int.Digits.{digits_of}
use Rattle.best_fit.proofs.tags.Frames.{keeps-trans}
use Rattle.best_fit.proofs.free_tree.Trees.{all_gaps, fits_one, in_here}
use Rattle.best_fit.proofs.gaps.Nodes.{FreeAt, NodeAt, node_at}
use Rattle.best_fit.proofs.gaps.Order.{in_sorted, lesser_of}
use Rattle.best_fit.proofs.gaps.OneField.{same_gaps}
use Rattle.best_fit.proofs.tags.TagsAndLiveSet.{heap-gaps, heap-says, legal_size, said_row}
use Rattle.best_fit.proofs.extents.FirstFit.{room-IsRoom}
use Rattle.best_fit.proofs.gaps.LinksOnly.{regrown_keeps, regrown_live, splits_alike}
use Rattle.best_fit.proofs.free_tree.LinkAndUnlink.{closed_more, holds_closed}
use Rattle.best_fit.proofs.tags.TileRows.{Row, unused, used, use_cases, gaps_of-free, gaps_of-used, gaps_of-append}
use Rattle.best_fit.proofs.tags.RowParts.{row_reaches}

-- the number of digits rises with the number
pub bits-le : (m n : ℕ) → m ≤ n → bits m ≤ bits n
bits-le m n l =
    let top : n < 2 ^ bits n = subst (λ k. k < 2 ^ bits n) (number_digits_of 2 n (omega arith))
    (number_lt 2 (digits_of 2 n) (all_below_base_digits_of 2 n (omega arith))) in
    length-digits_of-le 2 (bits n) m (omega arith) (omega arith)

-- each number above 0 has a digit
pub bits_some : (n : ℕ) → 1 ≤ bits (n + 1)
bits_some n = omega (arith, length-digits_of_step 2 (n + 1) (omega arith) (omega arith))

-- ---- the tree of a heap

-- the live set of a heap has as many gaps as its window
pub heap_bits : (c : WindowState) → IsHeap current c.bytes → bits (length (gaps (live_of c.bytes)) + 1)
    ≡ bits (length (gaps_in c) + 1)
heap_bits c h = ap (λ (hs : List Gap). bits (length hs + 1)) (heap-gaps c h)

tags_of : (c : WindowState) → IsHeap current c.bytes → IsTrue (has_tags current (bytes_of c.bytes) (length c.bytes))
unfolding live_of
tags_of c h = h.tiles.tags

-- a heap has a tree of all its gaps
pub heap_tree : (c : WindowState) → IsHeap current c.bytes → HasGapTree c (gaps_in c)
unfolding current
heap_tree c h =
    let says = heap-says c h in
    let same : sorted_gaps (gaps (live_of c.bytes)) ≡ sorted_gaps (gaps_in c) = ap sorted_gaps (heap-gaps c h) in
    let tree : IsTreeOf (bytes_of c.bytes) 24 (payloads (sorted_gaps (gaps_in c))) =
    subst (λ (hs : List Gap). IsTreeOf (bytes_of c.bytes) 24 (payloads hs)) same h.free in
    let ns = payloads (gaps_in c) in
    let inward : (k : ℕ) → is_in k (nodes_of tree.tree) ≡ true → is_in k ns ≡ true =
    λ k i. sym (in_sorted k (gaps_in c)) ∙ ap (λ (ks : List ℕ). is_in k ks) (sym tree.lists) ∙ i in
    let outward : (k : ℕ) → is_in k ns ≡ true → is_in k (nodes_of tree.tree) ≡ true =
    λ k i. ap (λ (ks : List ℕ). is_in k ks) tree.lists ∙ in_sorted k (gaps_in c) ∙ i in
    let good : IsGoodHeap c = record {
      size = says.said.size;
      tags = tags_of c h;
      links = all_from (links_among (bytes_of c.bytes) ns) ns (λ m i.
          let closed = closed_more (nodes_of tree.tree) ns (cells_of (bytes_of c.bytes) m) inward
          (holds_closed (cells_of (bytes_of c.bytes)) tree.tree m tree.linked.holds (outward m i)) in
          and_from (leads (λ k. is_in k ns) (cells_of (bytes_of c.bytes) m).left)
          (leads (λ k. is_in k ns) (cells_of (bytes_of c.bytes) m).right) closed.left closed.right);
    } in
    record { good = IsGoodHeap-is_good c good; some = all_gaps c says.said; tree = tree }

-- ---- the least gap that is long enough

-- the gap is in the list and long enough
pub record IsOf (gs : List Gap) (wanted : ℕ) (g : Gap) : Type 0 where
  pub xs : List Gap
  pub ys : List Gap
  pub list : gs ≡ xs ++ (g ∷ ys)
  pub enough : is_long wanted g ≡ true

of_here : (g h : Gap) (gs : List Gap) (wanted : ℕ) → g ≡ h → is_long wanted g ≡ true → IsOf (g ∷ gs) wanted h
of_here g h gs wanted e l =
    let P : Gap → Type 0 = λ (k : Gap). IsOf (g ∷ gs) wanted k in
    subst P e (record { xs = []; ys = gs; list = refl; enough = l })

of_later : (g h : Gap) (gs : List Gap) (wanted : ℕ) → IsOf gs wanted h → IsOf (g ∷ gs) wanted h
of_later g h gs wanted i = record {
  xs = g ∷ i.xs;
  ys = i.ys;
  list = ap (λ (ks : List Gap). g ∷ ks) i.list;
  enough = i.enough;
}

by_lesser : (g k : Gap) (gs : List Gap) (wanted : ℕ) → is_long wanted g ≡ true → (o : Option Gap)
    → ((h : Gap) → o ≡ Some h → IsOf gs wanted h) → lesser_of g o ≡ Some k → IsOf (g ∷ gs) wanted k
by_lesser g k gs wanted l None rest e = of_here g k gs wanted (same_Some g k e) l
by_lesser g k gs wanted l (Some h) rest e = by_test (cases_Bool (precedes g h))
  where
    by_test : (precedes g h ≡ true) ⊎ (precedes g h ≡ false) → IsOf (g ∷ gs) wanted k
    by_test (inl t) = of_here g k gs wanted (sym (cond-true (precedes g h) g h t)
        ∙ same_Some (if precedes g h then g else h) k e) l
    by_test (inr t) = of_later g k gs wanted
        (rest k (ap (λ (x : Gap). let o : Option Gap = Some x in o) (sym (cond-false (precedes g h) g h t)) ∙ e))

pub least-IsOf : (gs : List Gap) (wanted : ℕ) (k : Gap) → least (filter (is_long wanted) gs) ≡ Some k → IsOf gs wanted k
least-IsOf [] wanted k e = absurd (none-some k e)
least-IsOf (g ∷ gs) wanted k e = by_test (least-IsOf gs wanted) (cases_Bool (is_long wanted g))
  where
    by_test : ((h : Gap) → least (filter (is_long wanted) gs) ≡ Some h → IsOf gs wanted h)
        → (is_long wanted g ≡ true) ⊎ (is_long wanted g ≡ false) → IsOf (g ∷ gs) wanted k
    by_test rest (inl t) =
        by_lesser g k gs wanted t (least (filter (is_long wanted) gs)) rest
        (ap least (sym (cond-true (is_long wanted g) (g ∷ filter (is_long wanted) gs) (filter (is_long wanted) gs) t))
        ∙ e)
    by_test rest (inr t) =
        of_later g k gs wanted
        (rest k (ap least
        (sym (cond-false (is_long wanted g) (g ∷ filter (is_long wanted) gs) (filter (is_long wanted) gs) t)) ∙ e))

-- no gap is longer than its row
none_long : (wanted at : ℕ) (ts : List Tile) (end : ℕ) → Row at ts end → end < wanted
    → filter (is_long wanted) (gaps_of ts) ≡ []
none_long wanted at [] end row l = refl
none_long wanted at (t ∷ ts) end row l =
    let on = row_reaches (at + t.len) ts end row.3 in
    let rest = none_long wanted (at + t.len) ts end row.3 l in
    elim (use_cases t) [
      | unused e ↦ ap (filter (is_long wanted)) (gaps_of-free t ts e)
          ∙ cond-false (is_long wanted (gap_of t)) (gap_of t ∷ filter (is_long wanted) (gaps_of ts))
          (filter (is_long wanted) (gaps_of ts)) (lt-leb wanted t.len (omega arith)) ∙ rest
      | used role e ↦ ap (filter (is_long wanted)) (gaps_of-used t ts role e) ∙ rest
    ]

abbrev front_of : ℕ → Role → Gap → Extent
front_of n role g = record { offset = g.offset; len = share g.len (room n); role = role }

-- an allocation uses the front of the least gap that is long enough
pub place_is : (c : WindowState) (n : ℕ) (role : Role) (o : Option Gap) → IsHeap current c.bytes
    → least (filter (is_long (room n)) (gaps_in c)) ≡ o → place (live_of c.bytes) n role
    ≡ option_map (front_of n role) o
unfolding place fit
place_is c n role o h e = ap (option_map (front_of n role))
    (ap (λ (gs : List Gap). least (filter (is_long (room n)) gs)) (heap-gaps c h) ∙ e)

-- no gap is longer than 1 GiB, so such an allocation has no place
pub too_long : (c : WindowState) (n : ℕ) (role : Role) → IsHeap current c.bytes → 1073741824 < n
    → place (live_of c.bytes) n role ≡ None
too_long c n role h l =
    let says = heap-says c h in
    let size = (legal_size (length c.bytes) says.said.size).high in
    let wanted = (room-IsRoom n).holds in
    place_is c n role None h
    (ap least (none_long (room n) 128 (tiles_in c) (length c.bytes - 16) (said_row c (tiles_in c) says.said)
    (omega arith)))

-- ---- the gap that is found

listed_by : (hs : List Gap) (wanted node : ℕ) (o : Option Gap) → least (filter (is_long wanted) hs) ≡ o
    → Some node ≡ option_map node_of o → is_in node (payloads hs) ≡ true
listed_by hs wanted node None e f = absurd (none_some node (sym f))
listed_by hs wanted node (Some g) e f =
    let i = least-IsOf hs wanted g e in
    subst (λ k. is_in k (payloads hs) ≡ true) (sym (same_Some node (node_of g) f))
    (subst (λ (gs : List Gap). is_in (node_of g) (payloads gs) ≡ true) (sym i.list) (in_here i.xs g i.ys))

-- the least gap that is long enough is in the list
pub least_listed : (hs : List Gap) (wanted node : ℕ)
    → Some node ≡ option_map node_of (least (filter (is_long wanted) hs)) → is_in node (payloads hs) ≡ true
least_listed hs wanted node e = listed_by hs wanted node (least (filter (is_long wanted) hs)) refl e

-- a gap that a search of the tree found: the least that is long enough
pub record Found (c : WindowState) (wanted node : ℕ) : Type 0 where
  pub gap : Gap
  pub least_is : least (filter (is_long wanted) (gaps_in c)) ≡ Some gap
  pub is : node ≡ node_of gap
  pub listed : is_in node (payloads (gaps_in c)) ≡ true
  pub len : len_in (gaps_in c) node ≡ gap.len
  pub enough : wanted ≤ gap.len

found_by : (c : WindowState) (wanted node : ℕ) → HasGapTree c (gaps_in c) → (o : Option Gap)
    → least (filter (is_long wanted) (gaps_in c)) ≡ o → Some node ≡ option_map node_of o → Found c wanted node
found_by c wanted node h None e f = absurd (none_some node (sym f))
found_by c wanted node h (Some g) e f =
    let i = least-IsOf (gaps_in c) wanted g e in
    let is = same_Some node (node_of g) f in
    let whole = subst (λ (hs : List Gap). AreSomeGaps (gaps_in c) hs) i.list h.some in
    record {
      gap = g;
      least_is = e;
      is = is;
      listed = listed_by (gaps_in c) wanted node (Some g) e f;
      len = ap (len_in (gaps_in c)) is ∙ fits_one (gaps_in c) i.xs g i.ys whole.fits;
      enough = leb-true wanted g.len i.enough;
    }

-- the search of the tree finds the least gap that is long enough
pub found : (c : WindowState) (wanted node : ℕ) → HasGapTree c (gaps_in c)
    → Some node ≡ option_map node_of (least (filter (is_long wanted) (gaps_in c))) → Found c wanted node
found c wanted node h e = found_by c wanted node h (least (filter (is_long wanted) (gaps_in c))) refl e

none_by : (o : Option Gap) → None ≡ option_map node_of o → o ≡ None
none_by None e = refl
none_by (Some g) e = absurd (none_some (node_of g) e)

-- a search that finds nothing shows that no gap is long enough
pub none_found : (c : WindowState) (wanted : ℕ)
    → None ≡ option_map node_of (least (filter (is_long wanted) (gaps_in c)))
    → least (filter (is_long wanted) (gaps_in c)) ≡ None
none_found c wanted e = none_by (least (filter (is_long wanted) (gaps_in c))) e

-- the tile of the gap that was found
pub found_node : (c : WindowState) (wanted node : ℕ) → HasGapTree c (gaps_in c) → Found c wanted node → NodeAt c node
found_node c wanted node h f = node_at c node (record { good = is_good-IsGoodHeap c h.good; listed = f.listed })

-- the gaps before a gap, this gap, and the gaps after it
pub round_it : (c : WindowState) (n : ℕ) → (f : FreeAt (tiles_in c) n)
    → gaps_in c ≡ gaps_of f.front ++ (gap_of f.tile ∷ gaps_of f.back)
round_it c n f = ap gaps_of f.list ∙ gaps_of-append f.front (f.tile ∷ f.back)
    ∙ ap (λ (hs : List Gap). gaps_of f.front ++ hs) (gaps_of-free f.tile f.back f.free)

-- the gap that was found has left the tree
pub out_of_tree : (c d : WindowState) (node at len : ℕ) → (f : FreeAt (tiles_in c) node) → at + 16 ≡ node
    → f.tile.len ≡ len
    → ChangesGapTree c d → HasGapTree d (gaps_of f.front ++ gaps_of f.back) → IsUnlinkedGap d at len
out_of_tree c d node at len f o l r h =
    let s = splits_alike (tiles_in d) f.front f.tile f.back (r.tiles ∙ ap (λ (ts : List Tile). map plain ts) f.list) in
    let a = f.at in
    let offset : s.tile'.offset ≡ f.tile.offset = ap (λ (t : Tile). t.offset) s.tiles in
    record {
      front = s.front';
      tile = s.tile';
      back = s.back';
      list = s.list;
      free = ap (λ (t : Tile). t.use_of) s.tiles ∙ f.free;
      offset = omega arith;
      len_is = ap (λ (t : Tile). t.len) s.tiles ∙ l;
      tree = subst (λ (hs : List Gap). HasGapTree d hs)
          (sym (ap (λ (xs : List Gap). xs ++ gaps_of s.back') (same_gaps f.front s.front' s.fronts)
          ∙ ap (λ (ys : List Gap). gaps_of f.front ++ ys) (same_gaps f.back s.back' s.backs))) h;
    }

-- the allocation succeeds
pub met : (c d e : WindowState) (n : ℕ) (role : Role) (wanted node at : ℕ) → IsHeap current c.bytes → wanted ≡ room n
    → (f : Found c wanted node) → at + 16 ≡ node → (r : ChangesGapTree c d) → EncodesTiles d (tiles_in d)
    → EncodesLiveSet current e.bytes
    (added (live_of d.bytes) (record { offset = at; len = share f.gap.len wanted; role = role }))
    → is_red (bytes_of e.bytes) (at + 16) ≡ false → KeepsBlocks d e (live_of d.bytes).extents
    → AllocatesOk current c e n role node
met c d e n role wanted node at h is f o r says live black keeps =
    let same = regrown_live c d r in
    let where_ : at ≡ f.gap.offset = let a = f.is in omega arith in
    record {
      extent = front_of n role f.gap;
      placed = place_is c n role (Some f.gap) h
          (ap (λ k. least (filter (is_long k) (gaps_in c))) (sym is) ∙ f.least_is);
      at = f.is;
      live = subst (EncodesLiveSet current e.bytes)
          ((λ i. added (same i) (record { offset = where_ i; len = share f.gap.len (is i); role = role }))) live;
      black = subst (λ k. is_red (bytes_of e.bytes) k ≡ false) o black;
      keeps = keeps-trans c d e (live_of c.bytes).extents (regrown_keeps c d (heap-says c h).said says r)
          (subst (λ (l : LiveSet). KeepsBlocks d e l.extents) same keeps);
    }
