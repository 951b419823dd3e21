-- What is counted of the blocks and gaps, as a walk meets them and as the directory has them.
use Rattle.std.proofs.Common.{◌≡◌, ℕ, zero, suc, ◌+◌, ◌-◌, ◌^◌, ◌<◌, ◌≤◌, Bool, true, false, List, [], ◌∷◌, ◌++◌}
use Rattle.std.proofs.Common.{length, map, take, nat_lt, inl, inr, if◌then◌else◌, Some, None, slice_get, refl, sym, ap}
use Rattle.std.proofs.Common.{◌∙◌, length-append, arith}
use Rattle.std.specs.Prelude.{IsTrue, Option, fold, max, option_map, sum_by}
use Rattle.std.proofs.lemmas.Bool.{and_parts, ltb-true, ltb-false}
use Rattle.std.proofs.lemmas.List.{append-nil, length-map, map-append, take_all, take_more}
use Rattle.std.proofs.lemmas.List.Elements.{filter-append}
use Rattle.std.proofs.lemmas.List.Folds.{fold-map}
use Rattle.std.proofs.lemmas.List.Sums.{fold-append, sum_by-append, sum_by-cons, sum_by-take-le, sum_by_push}
use Rattle.std.proofs.lemmas.Option.{get_or_from_slice_get, slice_get_within}
use Rattle.block_tags.specs.declared.tile.Role.{Role}
use Rattle.block_tags.specs.declared.tile.Role.TheVariants.{Object as ObjectRole, Index, Storage, Node}
use Rattle.block_tags.specs.Format.{is_legal_size}
use Rattle.best_fit.specs.Ends.{last_end, least_size}
use Rattle.best_fit.specs.Extents.{Extent, Gap, LiveSet, Span, end_of, gap_between, gaps, gaps_from, is_proper}
use Rattle.best_fit.specs.Extents.{proper_from, span_between, spans, spans_from}
use Rattle.best_fit.specs.Table.{same_role}
use Rattle.best_fit.proofs.Laws.{IsHole, is_hole-IsHole, legal_size, proper_from-IsFirst}
use Rattle.block_tags.specs.declared.tile.Tile.{Tile}
use Rattle.best_fit.specs.FreeTree.{span}
use Rattle.best_fit.specs.Heap.{IsTileOf}
use Rattle.seg_types.specs.Commands.{Size}
use Rattle.segment_manager.specs.declared.modes.Mode.{Mode}
use Rattle.segment_manager.specs.Answers.{Number}
use Rattle.segment_manager.specs.Calls.{IsTileOfIndex}
use Rattle.segment_manager.specs.Directory.{Directory, live}
use Rattle.segment_manager.specs.State.{IsSegment, SegmentState, DenotesCurrent}
use Rattle.segment_manager.specs.Step.{step}
use Rattle.segment_manager.proofs.Laws.{live-size}
use Rattle.segment_report.specs.declared.tallies.Usage.{Usage}
use Rattle.segment_report.proofs.figures.Replies.{size_is}
use Rattle.segment_report.specs.declared.tallies.Tally.{Tally}
use Rattle.segment_report.specs.Counting.{counted, end_gap_in, free_len, longest_in, more, same_use, spans_of, tally_in}
use Rattle.segment_report.specs.Counting.{total_bytes, total_count, usage_in}
use Rattle.segment_report.specs.Usages.{blocks_of, gap_usage, longest, tally_of, usage_of}

abbrev bytes_in : List Span → ℕ
bytes_in ss = sum_by (λ (s : Span). s.len) ss

-- ---- one span more

spans-more : (u : Option Role) (ss : List Span) (s : Span) (b : Bool) → same_use u s.use_of ≡ b
    → spans_of u (ss ++ s ∷ []) ≡ spans_of u ss ++ (if b then s ∷ [] else [])
spans-more u ss s b e =
    filter-append (λ (t : Span). same_use u t.use_of) ss (s ∷ [])
    ∙ ap (λ (c : Bool). spans_of u ss ++ (if c then s ∷ [] else [])) e

abbrev usage_list : List Span → Usage
usage_list l = record { count = length l; bytes = bytes_in l }

usage-yes : (u : Option Role) (ss : List Span) (s : Span) → same_use u s.use_of ≡ true
    → usage_in u (ss ++ s ∷ []) ≡ more (usage_in u ss) s.len
usage-yes u ss s e =
    let l = spans_of u ss in
    ap usage_list (spans-more u ss s true e)
    ∙ (λ i. record { count = length-append l (s ∷ []) i; bytes = sum_by_push (λ (t : Span). t.len) l s i })

usage-no : (u : Option Role) (ss : List Span) (s : Span) → same_use u s.use_of ≡ false
    → usage_in u (ss ++ s ∷ []) ≡ usage_in u ss
usage-no u ss s e = ap usage_list (spans-more u ss s false e ∙ append-nil (spans_of u ss))

longest-yes : (ss : List Span) (s : Span) → same_use None s.use_of ≡ true
    → longest_in (ss ++ s ∷ []) ≡ max (longest_in ss) s.len
longest-yes ss s e =
    let f : ℕ → Span → ℕ = λ n t. max n t.len in
    ap (fold f 0) (spans-more None ss s true e) ∙ fold-append f 0 (spans_of None ss) (s ∷ [])

longest-no : (ss : List Span) (s : Span) → same_use None s.use_of ≡ false → longest_in (ss ++ s ∷ []) ≡ longest_in ss
longest-no ss s e = ap (fold (λ n (t : Span). max n t.len) 0) (spans-more None ss s false e
    ∙ append-nil (spans_of None ss))

end-more : (ss : List Span) (s : Span) (u : Option Role) → s.use_of ≡ u
    → end_gap_in (ss ++ s ∷ []) ≡ (elim u [ None ↦ s.len | Some r ↦ 0 ])
end-more ss s u e = fold-append (λ (n : ℕ) (t : Span). free_len t) 0 ss (s ∷ [])
    ∙ ap (λ (v : Option Role). elim v [ None ↦ s.len | Some r ↦ 0 ]) e

tally-u : (ss : List Span) (s : Span) (u : Option Role) → s.use_of ≡ u
    → tally_in (ss ++ s ∷ []) ≡ counted (tally_in ss) u s.len
tally-u ss s None e = λ i. record {
  gaps = usage-yes None ss s (ap (same_use None) e) i;
  longest_gap = longest-yes ss s (ap (same_use None) e) i;
  objects = usage-no (Some ObjectRole) ss s (ap (same_use (Some ObjectRole)) e) i;
  indexes = usage-no (Some Index) ss s (ap (same_use (Some Index)) e) i;
  storages = usage-no (Some Storage) ss s (ap (same_use (Some Storage)) e) i;
  nodes = usage-no (Some Node) ss s (ap (same_use (Some Node)) e) i;
  end_gap = end-more ss s None e i;
}
tally-u ss s (Some ObjectRole) e = λ i. record {
  gaps = usage-no None ss s (ap (same_use None) e) i;
  longest_gap = longest-no ss s (ap (same_use None) e) i;
  objects = usage-yes (Some ObjectRole) ss s (ap (same_use (Some ObjectRole)) e) i;
  indexes = usage-no (Some Index) ss s (ap (same_use (Some Index)) e) i;
  storages = usage-no (Some Storage) ss s (ap (same_use (Some Storage)) e) i;
  nodes = usage-no (Some Node) ss s (ap (same_use (Some Node)) e) i;
  end_gap = end-more ss s (Some ObjectRole) e i;
}
tally-u ss s (Some Index) e = λ i. record {
  gaps = usage-no None ss s (ap (same_use None) e) i;
  longest_gap = longest-no ss s (ap (same_use None) e) i;
  objects = usage-no (Some ObjectRole) ss s (ap (same_use (Some ObjectRole)) e) i;
  indexes = usage-yes (Some Index) ss s (ap (same_use (Some Index)) e) i;
  storages = usage-no (Some Storage) ss s (ap (same_use (Some Storage)) e) i;
  nodes = usage-no (Some Node) ss s (ap (same_use (Some Node)) e) i;
  end_gap = end-more ss s (Some Index) e i;
}
tally-u ss s (Some Storage) e = λ i. record {
  gaps = usage-no None ss s (ap (same_use None) e) i;
  longest_gap = longest-no ss s (ap (same_use None) e) i;
  objects = usage-no (Some ObjectRole) ss s (ap (same_use (Some ObjectRole)) e) i;
  indexes = usage-no (Some Index) ss s (ap (same_use (Some Index)) e) i;
  storages = usage-yes (Some Storage) ss s (ap (same_use (Some Storage)) e) i;
  nodes = usage-no (Some Node) ss s (ap (same_use (Some Node)) e) i;
  end_gap = end-more ss s (Some Storage) e i;
}
tally-u ss s (Some Node) e = λ i. record {
  gaps = usage-no None ss s (ap (same_use None) e) i;
  longest_gap = longest-no ss s (ap (same_use None) e) i;
  objects = usage-no (Some ObjectRole) ss s (ap (same_use (Some ObjectRole)) e) i;
  indexes = usage-no (Some Index) ss s (ap (same_use (Some Index)) e) i;
  storages = usage-no (Some Storage) ss s (ap (same_use (Some Storage)) e) i;
  nodes = usage-yes (Some Node) ss s (ap (same_use (Some Node)) e) i;
  end_gap = end-more ss s (Some Node) e i;
}

pub taken : (ss : List Span) (i : ℕ) (s : Span) → Some s ≡ slice_get ss i → take (i + 1) ss ≡ take i ss ++ s ∷ []
taken ss i s e =
    let within : i < length ss = slice_get_within ss i s (sym e) in
    take_more ss i s within ∙ ap (λ t. take i ss ++ t ∷ []) (get_or_from_slice_get ss i s s (sym e))

-- what is counted with the next span
pub tally-next : (ss : List Span) (i : ℕ) (s : Span) → Some s ≡ slice_get ss i
    → tally_in (take (i + 1) ss) ≡ counted (tally_in (take i ss)) s.use_of s.len
tally-next ss i s e = ap tally_in (taken ss i s e) ∙ tally-u (take i ss) s s.use_of refl

-- ---- how much it is

count-more : (t : Tally) (u : Option Role) (n : ℕ) → total_count (counted t u n) ≡ total_count t + 1
count-more t None n = omega arith
count-more t (Some ObjectRole) n = omega arith
count-more t (Some Index) n = omega arith
count-more t (Some Storage) n = omega arith
count-more t (Some Node) n = omega arith

bytes-more : (t : Tally) (u : Option Role) (n : ℕ) → total_bytes (counted t u n) ≡ total_bytes t + n
bytes-more t None n = omega arith
bytes-more t (Some ObjectRole) n = omega arith
bytes-more t (Some Index) n = omega arith
bytes-more t (Some Storage) n = omega arith
bytes-more t (Some Node) n = omega arith

-- the bytes of all spans are those between the header and the end tag, and each has some
bytes-if : (a b : ℕ) (c : Bool) → nat_lt a b ≡ c → a ≤ b
    → bytes_in (if c then record { offset = a; len = b - a; use_of = None } ∷ [] else []) + a ≡ b
bytes-if a b true e h = omega arith
bytes-if a b false e h = let l = ltb-false a b e in omega arith

bytes-between : (a b : ℕ) → IsHole a b → bytes_in (span_between a b) + a ≡ b
bytes-between a b h =
    let rises : a ≤ b = elim h [ inl e ↦ omega arith | inr l ↦ omega arith ] in
    bytes-if a b (nat_lt a b) refl rises

bytes-spans : (from : ℕ) (xs : List Extent) (to : ℕ) → IsTrue (proper_from from xs to)
    → bytes_in (spans_from from xs to) + from ≡ to
bytes-spans from [] to h = bytes-between from to (is_hole-IsHole from to h)
bytes-spans from (x ∷ xs) to h =
    let f = proper_from-IsFirst from x xs to h in
    let here : Span = record { offset = x.offset; len = x.len; use_of = Some x.role } in
    let rest = spans_from (end_of x) xs to in
    let hole = bytes-between from x.offset f.hole in
    let behind = bytes-spans (end_of x) xs to f.rest in
    let all = sum_by-append (λ (s : Span). s.len) (span_between from x.offset) (here ∷ rest) in
    let first = sum_by-cons (λ (s : Span). s.len) here rest in
    omega arith

abbrev hole_if : ℕ → ℕ → Bool → List Span
hole_if a b c = if c then record { offset = a; len = b - a; use_of = None } ∷ [] else []

few-if : (a b : ℕ) (c : Bool) → nat_lt a b ≡ c → length (hole_if a b c) ≤ bytes_in (hole_if a b c)
few-if a b true e = let l = ltb-true a b e in omega arith
few-if a b false e = omega arith

few-spans : (from : ℕ) (xs : List Extent) (to : ℕ) → IsTrue (proper_from from xs to)
    → length (spans_from from xs to) ≤ bytes_in (spans_from from xs to)
few-spans from [] to h = few-if from to (nat_lt from to) refl
few-spans from (x ∷ xs) to h =
    let f = proper_from-IsFirst from x xs to h in
    let long = f.block.long in
    let here : Span = record { offset = x.offset; len = x.len; use_of = Some x.role } in
    let rest = spans_from (end_of x) xs to in
    let hole = few-if from x.offset (nat_lt from x.offset) refl in
    let behind = few-spans (end_of x) xs to f.rest in
    let all = sum_by-append (λ (s : Span). s.len) (span_between from x.offset) (here ∷ rest) in
    let first = sum_by-cons (λ (s : Span). s.len) here rest in
    let both = length-append (span_between from x.offset) (here ∷ rest) in
    omega arith

-- no more of them than bytes, and no more bytes than the segment has
pub record AreFew (d : Directory) : Type 0 where
  pub count : length (spans (live d)) ≤ d.size
  pub bytes : bytes_in (spans (live d)) ≤ d.size
  pub size : d.size ≤ 1073741824

few-live : (l : LiveSet) → IsTrue (is_proper l) → (length (spans l) ≤ l.size) × (bytes_in (spans l) ≤ l.size)
    × (l.size ≤ 1073741824)
unfolding is_proper
few-live l h =
    let parts = and_parts (is_legal_size l.size) (proper_from 128 l.extents (l.size - 16)) h in
    let few = few-spans 128 l.extents (l.size - 16) parts.1 in
    let bytes = bytes-spans 128 l.extents (l.size - 16) parts.1 in
    let legal = legal_size l.size parts.0 in
    (omega arith, omega arith, omega (arith, legal.high))

pub are_few : (d : Directory) → IsTrue (is_proper (live d)) → AreFew d
are_few d h =
    let few = few-live (live d) h in
    let size = live-size d in
    record { count = omega (arith, few.0); bytes = omega (arith, few.1); size = omega (arith, few.2) }

-- ---- all of them

abbrev gap_span : Gap → Span
gap_span g = record { offset = g.offset; len = g.len; use_of = None }

abbrev block_span : Extent → Span
block_span x = record { offset = x.offset; len = x.len; use_of = Some x.role }

free-if : (a b : ℕ) (c : Bool)
    → spans_of None (if c then record { offset = a; len = b - a; use_of = None } ∷ [] else [])
    ≡ map gap_span (if c then record { offset = a; len = b - a } ∷ [] else [])
free-if a b true = refl
free-if a b false = refl

used-if : (r : Role) (a b : ℕ) (c : Bool)
    → spans_of (Some r) (if c then record { offset = a; len = b - a; use_of = None } ∷ [] else []) ≡ []
used-if r a b true = refl
used-if r a b false = refl

-- the free ones are the gaps
free-spans : (from : ℕ) (xs : List Extent) (to : ℕ)
    → spans_of None (spans_from from xs to) ≡ map gap_span (gaps_from from xs to)
free-spans from [] to = free-if from to (nat_lt from to)
free-spans from (x ∷ xs) to =
    filter-append (λ (t : Span). same_use None t.use_of) (span_between from x.offset)
    (block_span x ∷ spans_from (end_of x) xs to)
    ∙ (λ i. free-if from x.offset (nat_lt from x.offset) i ++ free-spans (end_of x) xs to i)
    ∙ sym (map-append gap_span (gap_between from x.offset) (gaps_from (end_of x) xs to))

block-if : (x : Extent) (rest : List Span) (others : List Extent) (c : Bool) → rest ≡ map block_span others
    → (if c then block_span x ∷ rest else rest) ≡ map block_span (if c then x ∷ others else others)
block-if x rest others true e = ap (λ l. block_span x ∷ l) e
block-if x rest others false e = e

-- those of a role are the blocks of the role
used-spans : (r : Role) (from : ℕ) (xs : List Extent) (to : ℕ)
    → spans_of (Some r) (spans_from from xs to) ≡ map block_span (blocks_of r xs)
used-spans r from [] to = used-if r from to (nat_lt from to)
used-spans r from (x ∷ xs) to =
    filter-append (λ (t : Span). same_use (Some r) t.use_of) (span_between from x.offset)
    (block_span x ∷ spans_from (end_of x) xs to)
    ∙ ap (λ l. l ++ spans_of (Some r) (block_span x ∷ spans_from (end_of x) xs to))
    (used-if r from x.offset (nat_lt from x.offset))
    ∙ block-if x (spans_of (Some r) (spans_from (end_of x) xs to)) (blocks_of r xs) (same_role r x.role)
    (used-spans r (end_of x) xs to)

usage-map : {A : Type 0} (f : A → Span) (l : List A)
    → usage_list (map f l) ≡ record { count = length l; bytes = sum_by (λ a. (f a).len) l }
usage-map f l = λ i. record { count = length-map l f i; bytes = fold-map (λ (n : ℕ) (t : Span). n + t.len) f 0 l i }

gaps-usage : (l : LiveSet) → usage_in None (spans l) ≡ gap_usage (gaps l)
unfolding gaps
gaps-usage l = ap usage_list (free-spans 128 l.extents (l.size - 16)) ∙ usage-map gap_span (gaps l)

gaps-longest : (l : LiveSet) → longest_in (spans l) ≡ longest (gaps l)
unfolding gaps
gaps-longest l =
    ap (fold (λ n (t : Span). max n t.len) 0) (free-spans 128 l.extents (l.size - 16))
    ∙ fold-map (λ n (t : Span). max n t.len) gap_span 0 (gaps l)

role-usage : (r : Role) (l : LiveSet) → usage_in (Some r) (spans l) ≡ usage_of r l.extents
role-usage r l = ap usage_list (used-spans r 128 l.extents (l.size - 16)) ∙ usage-map block_span (blocks_of r l.extents)

end-if : (a b : ℕ) (c : Bool) → nat_lt a b ≡ c
    → fold (λ (n : ℕ) (t : Span). free_len t) 0 (if c then record {
      offset = a;
      len = b - a;
      use_of = None;
    } ∷ [] else []) ≡ b - a
end-if a b true e = refl
end-if a b false e = let l = ltb-false a b e in omega arith

end-from : (from : ℕ) (xs : List Extent) (to : ℕ) → end_gap_in (spans_from from xs to) ≡ to - last_end from xs
end-from from [] to = end-if from to (nat_lt from to) refl
end-from from (x ∷ xs) to =
    fold-append (λ (n : ℕ) (t : Span).
    free_len t) 0 (span_between from x.offset) (block_span x ∷ spans_from (end_of x) xs to) ∙ end-from (end_of x) xs to

end-live : (l : LiveSet) → end_gap_in (spans l) ≡ l.size - least_size l
end-live l = let e = end-from 128 l.extents (l.size - 16) in omega arith

tally-live : (d : Directory) → tally_in (spans (live d)) ≡ tally_of d
tally-live d = λ i. record {
  gaps = gaps-usage (live d) i;
  longest_gap = gaps-longest (live d) i;
  objects = role-usage ObjectRole (live d) i;
  indexes = role-usage Index (live d) i;
  storages = role-usage Storage (live d) i;
  nodes = role-usage Node (live d) i;
  end_gap = (end-live (live d) ∙ ap (λ n. n - least_size (live d)) (live-size d)) i;
}

-- after all of them
pub tally-all : (d : Directory) (i : ℕ) → length (spans (live d)) ≤ i → tally_in (take i (spans (live d))) ≡ tally_of d
tally-all d i h = ap tally_in (take_all i (spans (live d)) h) ∙ tally-live d

none_more : (ss : List Span) (i : ℕ) → None ≡ slice_get ss i → length ss ≤ i
none_more [] i e = omega arith
none_more (s ∷ ss) zero e = absurd (cc)
none_more (s ∷ ss) (suc i) e = let h = none_more ss i e in omega arith

bytes-taken : (ss : List Span) (i : ℕ) (s : Span) → Some s ≡ slice_get ss i
    → bytes_in (take (i + 1) ss) ≡ bytes_in (take i ss) + s.len
bytes-taken ss i s e = ap bytes_in (taken ss i s e) ∙ sum_by_push (λ (t : Span). t.len) (take i ss) s

-- ---- a walk over the blocks and gaps of a segment

-- what was counted before those from a place on
pub record IsCounted (b : List ℕ) (t : Tally) (i : ℕ) : Type 0 where
  pub told : (d : Directory) → DenotesCurrent b d → t ≡ tally_in (take i (spans (live d)))
  pub count : total_count t ≡ i
  pub bytes : (d : Directory) → DenotesCurrent b d → total_bytes t ≡ bytes_in (take i (spans (live d)))

pub none_counted : (b : List ℕ) → IsCounted b (tally_in []) 0
none_counted b = record { told = λ d k. refl; count = refl; bytes = λ d k. refl }

-- there is room to count one more
pub record HasRoom (t : Tally) (len : ℕ) : Type 0 where
  pub count : total_count t + 1 < 2 ^ 64
  pub bytes : total_bytes t + len < 2 ^ 64

module _ (b : List ℕ) (t : Tally) (i : ℕ) (was : IsCounted b t i) (s : Span) (next : (d : Directory)
    → DenotesCurrent b d → Some s ≡ slice_get (spans (live d)) i) where
  -- there is room for one block more in the count
  pub has_room : IsSegment b → HasRoom t s.len
  has_room (d, k) =
      let ss = spans (live d) in
      let few = are_few d k.denotes.directory.proper in
      let within : i < length ss = slice_get_within ss i s (sym (next d k)) in
      let more = bytes-taken ss i s (next d k) in
      let le = sum_by-take-le (λ (u : Span). u.len) ss (i + 1) in
      let bytes = was.bytes d k in
      record { count = omega (arith, few.count, few.size, was.count); bytes = omega (arith, few.bytes, few.size) }

  -- one block or gap more is counted
  pub counts-more : IsCounted b (counted t s.use_of s.len) (i + 1)
  counts-more = record {
    told = λ d k. ap (λ (u : Tally). counted u s.use_of s.len) (was.told d k)
        ∙ sym (tally-next (spans (live d)) i s (next d k));
    count = count-more t s.use_of s.len ∙ ap (λ n. n + 1) was.count;
    bytes = λ d k. bytes-more t s.use_of s.len ∙ ap (λ n. n + s.len) (was.bytes d k)
        ∙ sym (bytes-taken (spans (live d)) i s (next d k));
  }

-- the tile at hand is one of the segment's
pub tile_stands : (s : SegmentState) (i : ℕ) (t : Tile) (ahead : Option Tile) → IsTileOfIndex s i ahead
    → ahead ≡ Some t → IsTileOf s.cut.bytes t
tile_stands s i t ahead h e = record { index = i; stands = sym h.tile ∙ e }

-- it is the next span
pub next_is : (s : SegmentState) (i : ℕ) (t : Tile) (ahead : Option Tile) → IsTileOfIndex s i ahead → ahead ≡ Some t
    → (d : Directory) → DenotesCurrent s.cut.bytes d → Some (span t) ≡ slice_get (spans (live d)) i
next_is s i t ahead h e d k = ap (option_map span) (sym e) ∙ h.span.answers d k

-- there is none
abbrev pub IsEnd : List ℕ → ℕ → Type 0
IsEnd b i = (d : Directory) → DenotesCurrent b d → length (spans (live d)) ≤ i

-- no tile is ahead: the walk is at its end
pub end_is : (s : SegmentState) (i : ℕ) (ahead : Option Tile) → IsTileOfIndex s i ahead → ahead ≡ None
    → IsEnd s.cut.bytes i
end_is s i ahead h e d k = none_more (spans (live d)) i (ap (option_map span) (sym e) ∙ h.span.answers d k)

-- there are no more spans than bytes
pub ends_by_size : (b : List ℕ) (mode : Mode) (n i : ℕ)
    → ((d : Directory) → DenotesCurrent b d → Number n ≡ (step mode d Size).0) → n ≤ i → IsEnd b i
ends_by_size b mode n i size h d k =
    let few = are_few d k.denotes.directory.proper in
    let same = size_is mode d n (size d k) in
    omega (arith, few.count)

-- all blocks and gaps are counted
pub counted-all : (b : List ℕ) (t : Tally) (i : ℕ) → IsCounted b t i → IsEnd b i → (d : Directory)
    → DenotesCurrent b d → t ≡ tally_of d
counted-all b t i was end d k = was.told d k ∙ tally-all d i (end d k)
