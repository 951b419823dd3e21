-- Header, tags and free tree of an image, in each format: they are valid exactly if none of the first seven classes
-- holds.
use Rattle.image_check.proofs.Common.{Apart, BadFreeTree, BadMagic, BadReserved, BadSize, BadTag, EncodesLiveSet}
use Rattle.image_check.proofs.Common.{IsTreeOf, IsTrue, List, LiveSet, Memory, None, Option, Rising, Row, Some, Tile}
use Rattle.image_check.proofs.Common.{Tree, Truncated, UnsupportedVersion, [], and_from, and_parts, and_right, ap}
use Rattle.image_check.proofs.Common.{arith, bytes_of, cells_of, cond-false, cond-true, eq-eqb, eqb-true, false}
use Rattle.image_check.proofs.Common.{false≢true, filter, has_free_tree, has_front, has_magic, has_reserved, has_size}
use Rattle.image_check.proofs.Common.{has_tags, has_version, inl, is_among, is_legal_size, is_none, is_red_black}
use Rattle.image_check.proofs.Common.{is_tiled, le-leb, le-ltb, leb-true, legal_size, length, link_at, list_all}
use Rattle.image_check.proofs.Common.{live-rises, ltb-false, magic_number, map, nat_eq, nat_le, nat_lt, nodes_of, not}
use Rattle.image_check.proofs.Common.{not-false, not_from_true, or_from, or_parts, reads_off, refl, rising-weak}
use Rattle.image_check.proofs.Common.{size_word, subst, suc, sym, tiles_of, tree_from, true, zero, ℕ, ◌&&◌, ◌*◌, ◌++◌}
use Rattle.image_check.proofs.Common.{◌+◌, ◌-◌, ◌<◌, ◌∙◌, ◌∷◌, ◌≡◌, ◌≤◌}
use Rattle.std.proofs.Common.{Bool}
use Rattle.std.specs.Cmp.Lexicographic.{pointwise}
use Rattle.raw_region.specs.Memory.{half_word_at, word_at}
use Rattle.block_tags.specs.Tiles.{is_free}
use Rattle.best_fit.specs.Extents.{Gap, gaps, is_proper}
use Rattle.best_fit.specs.FreeTree.{IsFreeTree, payloads, sorted_gaps, span}
use Rattle.best_fit.specs.GapNodes.{gaps_of}
use Rattle.best_fit.proofs.Laws.{extents_of as used, gaps-live_in, gaps_of-free, gaps_of-used, length-sorted}
use Rattle.best_fit.proofs.Laws.{proper_live, span_between-none, spans_from-row, unused, use_cases, used as in_use}
use Rattle.segment_manager.specs.Denotes.{IsHeader}
use Rattle.image_check.specs.EarlyTests.{free_gaps, free_payloads}
use Rattle.image_check.specs.Classes.{holds}
use Rattle.image_check.proofs.bytes.Numbers.{AreSmall, AreZero-half_word_at, from_two_rows, half_word_at-AreZero}
use Rattle.image_check.proofs.bytes.Numbers.{two_rows}
use Rattle.image_check.proofs.bytes.Words.{half_word_at-high, half_word_at-low, word_at-halves}
use Rattle.image_check.proofs.frame.Tags.{has_tags-AreWholeTiles}
use Rattle.image_check.proofs.bytes.Members.{Mem-is_among, list_all_from}
use Rattle.image_check.proofs.read_off.Values.{height-nodes}
use Rattle.image_check.proofs.law.Uniqueness.{tiles_in}

-- ---- equal rows of numbers

-- equal rows are equal place by place
pub same-pointwise : (xs ys : List ℕ) → xs ≡ ys → IsTrue (pointwise nat_eq xs ys)
same-pointwise xs ys e = subst (λ zs. IsTrue (pointwise nat_eq xs zs)) e (itself xs)
  where
    itself : (xs : List ℕ) → IsTrue (pointwise nat_eq xs xs)
    itself [] = refl
    itself (x ∷ xs) = and_from (nat_eq x x) (pointwise nat_eq xs xs) (eq-eqb x x refl) (itself xs)

-- and rows that are equal place by place are equal
pub pointwise-same : (xs ys : List ℕ) → IsTrue (pointwise nat_eq xs ys) → xs ≡ ys
pointwise-same [] [] h = refl
pointwise-same [] (y ∷ ys) h = absurd (false≢true h)
pointwise-same (x ∷ xs) [] h = absurd (false≢true h)
pointwise-same (x ∷ xs) (y ∷ ys) h =
    let parts = and_parts (nat_eq x y) (pointwise nat_eq xs ys) h in
    let first = eqb-true x y parts.0 in
    let rest = pointwise-same xs ys parts.1 in
    λ i. first i ∷ rest i

-- ---- the free tiles are the gaps

pub free-gaps : (ts : List Tile) → free_gaps ts ≡ gaps_of ts
free-gaps [] = refl
free-gaps (t ∷ ts) =
    let rest = free-gaps ts in
    let gap : Tile → Gap = λ u. record { offset = u.offset; len = u.len } in
    elim (use_cases t) [
      | unused e ↦ ap (map gap) (cond-true (is_free t) (t ∷ filter is_free ts) (filter is_free ts) (ap is_none e))
          ∙ ap (λ (gs : List Gap). gap t ∷ gs) rest ∙ sym (gaps_of-free t ts e)
      | in_use role e ↦ ap (map gap)
          (cond-false (is_free t) (t ∷ filter is_free ts) (filter is_free ts) (ap is_none e)) ∙ rest
          ∙ sym (gaps_of-used t ts role e)
    ]

-- so the payloads of the free tiles are the payloads of the gaps, both in order
pub free-payloads : (ts : List Tile) → free_payloads ts ≡ payloads (sorted_gaps (gaps_of ts))
free-payloads ts = ap (λ (gs : List Gap). payloads (sorted_gaps gs)) (free-gaps ts)

-- there are at most as many gaps as tiles
pub few-free : (ts : List Tile) → length (gaps_of ts) ≤ length ts
few-free [] = omega arith
few-free (t ∷ ts) =
    let rest = few-free ts in
    elim (use_cases t) [
      | unused e ↦ let n = ap (λ (gs : List Gap). length gs) (gaps_of-free t ts e) in omega arith
      | in_use role e ↦ let n = ap (λ (gs : List Gap). length gs) (gaps_of-used t ts role e) in omega arith
    ]

payloads-length : (ts : List Tile) → length (free_payloads ts) ≤ length ts
payloads-length ts = let same = ap length (free-payloads ts) ∙ length-sorted (gaps_of ts) in let few = few-free ts
    in omega arith

-- ---- the free tree

-- the live set of tiles
abbrev row_live : ℕ → List Tile → LiveSet
row_live n ts = record { size = n; extents = used ts }

-- the test of a tree that was read from links
abbrev is_tree_of : List ℕ → Option Tree → Bool
is_tree_of ns o = elim o [ None ↦ false | Some t ↦ is_red_black t && pointwise nat_eq (nodes_of t) ns ]

-- a red-black tree of the free tiles in order passes the test
pub tree-passes : (format : ℕ) (m : Memory) (ts : List Tile) → IsTreeOf m 24 (free_payloads ts)
    → IsTrue (has_free_tree (suc format) m ts)
tree-passes format m ts h =
    let t : Tree = h.tree in
    let ns : List ℕ = free_payloads ts in
    let low = height-nodes t in
    let same = ap length h.lists in
    let most = payloads-length ts in
    let good : IsTrue (list_all (is_among ns) (nodes_of t)) =
    ap (list_all (is_among ns)) h.lists ∙ list_all_from (is_among ns) ns (λ x k. Mem-is_among ns x k) in
    ap (is_tree_of ns) (reads_off.whole (length ts) (is_among ns) (cells_of m) (link_at m 24) t h.linked good
    (omega arith))
    ∙ and_from (is_red_black t) (pointwise nat_eq (nodes_of t) ns) ((reads_off.red_black t).1 h.red_black)
    (same-pointwise (nodes_of t) ns h.lists)

tree-said-if : (m : Memory) (ts : List Tile) (o : Option Tree)
    → tree_from (length ts) (is_among (free_payloads ts)) (cells_of m) (link_at m 24) ≡ o
    → IsTrue (is_tree_of (free_payloads ts) o) → IsTreeOf m 24 (free_payloads ts)
tree-said-if m ts None e h = absurd (false≢true h)
tree-said-if m ts (Some t) e h =
    let parts = and_parts (is_red_black t) (pointwise nat_eq (nodes_of t) (free_payloads ts)) h in
    record {
      tree = t;
      linked = (reads_off.sound (length ts) (is_among (free_payloads ts)) (cells_of m) (link_at m 24) t e).0;
      red_black = (reads_off.red_black t).0 parts.0;
      lists = pointwise-same (nodes_of t) (free_payloads ts) parts.1;
    }

-- if the test passes, there is a tree of the free tiles
pub tree-said : (format : ℕ) (m : Memory) (ts : List Tile) → IsTrue (has_free_tree (suc format) m ts)
    → IsTreeOf m 24 (free_payloads ts)
tree-said format m ts h = tree-said-if m ts
    (tree_from (length ts) (is_among (free_payloads ts)) (cells_of m) (link_at m 24)) refl h

-- the gaps of a row's live set are its free tiles
row-payloads : (n : ℕ) (ts : List Tile) → Row 128 ts (n - 16) → Apart false ts
    → free_payloads ts ≡ payloads (sorted_gaps (gaps (row_live n ts)))
row-payloads n ts row apart = free-payloads ts
    ∙ ap (λ (gs : List Gap). payloads (sorted_gaps gs)) (sym (gaps-live_in n ts row apart))

-- a heap with a free tree passes the test of the free tree
pub free_tree-passes : (format : ℕ) (m : Memory) (n : ℕ) (ts : List Tile) → Row 128 ts (n - 16) → Apart false ts
    → IsFreeTree format m (row_live n ts) → IsTrue (has_free_tree format m ts)
free_tree-passes zero m n ts row apart h = eq-eqb (word_at m 24) 1 h
free_tree-passes (suc format) m n ts row apart h =
    tree-passes format m ts (subst (IsTreeOf m 24) (sym (row-payloads n ts row apart)) h)

-- if the test of the free tree passes, the heap has a free tree
pub free_tree-said : (format : ℕ) (m : Memory) (n : ℕ) (ts : List Tile) → Row 128 ts (n - 16) → Apart false ts
    → IsTrue (has_free_tree format m ts) → IsFreeTree format m (row_live n ts)
free_tree-said zero m n ts row apart h = eqb-true (word_at m 24) 1 h
free_tree-said (suc format) m n ts row apart h =
    subst (IsTreeOf m 24) (row-payloads n ts row apart) (tree-said format m ts h)

-- ---- the frame

-- magic, version, size, reserved bytes, tags and free tree of an image are valid
pub record IsFramed (format : ℕ) (b : List ℕ) : Type 0 where
  pub legal : IsTrue (is_legal_size (length b))
  pub size : size_word b ≡ length b
  pub header : IsHeader format (bytes_of b) (length b)
  pub tags : IsTrue (has_tags format (bytes_of b) (length b))
  pub free_tree : IsTrue (has_free_tree format (bytes_of b) (tiles_in b))

-- the first seven tests fail
pub record IsEarlyClean (format : ℕ) (b : List ℕ) : Type 0 where
  pub truncated : holds format b Truncated ≡ false
  pub magic : holds format b BadMagic ≡ false
  pub version : holds format b UnsupportedVersion ≡ false
  pub size : holds format b BadSize ≡ false
  pub reserved : holds format b BadReserved ≡ false
  pub tags : holds format b BadTag ≡ false
  pub free_tree : holds format b BadFreeTree ≡ false

-- so none of the first seven classes holds
pub framed-clean : (format : ℕ) (b : List ℕ) → format < 4294967296 → AreSmall (bytes_of b) → IsFramed format b
    → IsEarlyClean format b
framed-clean format b small s f =
    let m : Memory = bytes_of b in
    let least = (legal_size (length b) f.legal).low in
    let same = f.size in
    let legal : IsTrue (is_legal_size (size_word b)) = subst (λ n. IsTrue (is_legal_size n)) (sym same) f.legal in
    let low = half_word_at-low m 8 s in
    let high = half_word_at-high m 8 s in
    let word = f.header.version in
    let version : half_word_at m 8 ≡ format = omega arith in
    let rest : half_word_at m 12 ≡ 0 = omega arith in
    let tiled : IsTrue (is_tiled format b) = subst (λ n. IsTrue (has_tags format m n)) (sym same) f.tags in
    let tree : IsTrue (has_free_tree format m (tiles_of m (size_word b))) =
    subst (λ n. IsTrue (has_free_tree format m (tiles_of m n))) (sym same) f.free_tree in
    record {
      truncated = or_from (nat_lt (length b) 144) (has_front format b && nat_lt (length b) (size_word b))
          (le-ltb (length b) 144 (omega arith))
          (and_right (has_front format b) (nat_lt (length b) (size_word b))
          (le-ltb (length b) (size_word b) (omega arith)));
      magic = not_from_true (has_magic b) (eq-eqb (word_at m 0) magic_number f.header.magic);
      version = not_from_true (has_version format b) (eq-eqb (half_word_at m 8) format version);
      size = not_from_true (has_size b)
          (and_from (is_legal_size (size_word b)) (nat_le (length b) (size_word b)) legal
          (le-leb (length b) (size_word b) (omega arith)));
      reserved = not_from_true (has_reserved b)
          (from_two_rows m 12 4 80 48 (half_word_at-AreZero m 12 rest) f.header.zeros);
      tags = not_from_true (is_tiled format b) tiled;
      free_tree = and_right (is_tiled format b) (not (has_free_tree format m (tiles_of m (size_word b))))
          (not_from_true (has_free_tree format m (tiles_of m (size_word b))) tree);
    }

-- if the first condition holds and not both do, the second does not hold
pub second-fails : (p q : Bool) → IsTrue p → (p && q) ≡ false → q ≡ false
second-fails true q e h = h
second-fails false q e h = absurd (false≢true e)

-- if none of the first seven classes holds, the frame is valid
pub clean-framed : (format : ℕ) (b : List ℕ) → AreSmall (bytes_of b) → IsEarlyClean format b → IsFramed format b
clean-framed format b s c =
    let m : Memory = bytes_of b in
    let magic = not-false (has_magic b) c.magic in
    let version = not-false (has_version format b) c.version in
    let size = and_parts (is_legal_size (size_word b)) (nat_le (length b) (size_word b))
    (not-false (has_size b) c.size) in
    let most = leb-true (length b) (size_word b) size.1 in
    let cut = or_parts (nat_lt (length b) 144) (has_front format b && nat_lt (length b) (size_word b)) c.truncated in
    let front : IsTrue (has_front format b) =
    and_from (has_magic b && has_version format b) (is_legal_size (size_word b))
    (and_from (has_magic b) (has_version format b) magic version) size.0 in
    let least = ltb-false (length b) (size_word b)
    (second-fails (has_front format b) (nat_lt (length b) (size_word b)) front cut.1) in
    let same : size_word b ≡ length b = omega arith in
    let rows = two_rows m 12 4 80 48 (not-false (has_reserved b) c.reserved) in
    let low : half_word_at m 8 ≡ format = eqb-true (half_word_at m 8) format version in
    let high : half_word_at m 12 ≡ 0 = AreZero-half_word_at m 12 rows.0 in
    let both : word_at m 8 ≡ half_word_at m 8 + 4294967296 * half_word_at m 12 = word_at-halves m 8 in
    let tiled : IsTrue (is_tiled format b) = not-false (is_tiled format b) c.tags in
    let tree : IsTrue (has_free_tree format m (tiles_of m (size_word b))) =
    not-false (has_free_tree format m (tiles_of m (size_word b)))
    (second-fails (is_tiled format b) (not (has_free_tree format m (tiles_of m (size_word b)))) tiled c.free_tree) in
    record {
      legal = subst (λ n. IsTrue (is_legal_size n)) same size.0;
      size = same;
      header = record {
        magic = eqb-true (word_at m 0) magic_number magic;
        version = omega arith;
        size_word = same;
        zeros = rows.1;
      };
      tags = subst (λ n. IsTrue (has_tags format m n)) same tiled;
      free_tree = subst (λ n. IsTrue (has_free_tree format m (tiles_of m n))) same tree;
    }

-- ---- the heap

-- the tiles in use, as a live set
abbrev pub live_in : List ℕ → LiveSet
live_in b = record { size = length b; extents = used (tiles_in b) }

-- the tiles are contiguous from 128 to the end tag
pub framed-tiles : (format : ℕ) (b : List ℕ) → IsFramed format b → Row 128 (tiles_in b) (length b - 16)
framed-tiles format b f = (has_tags-AreWholeTiles format (bytes_of b) (length b) f.tags).row

-- the tiles in use are a proper live set
pub framed-proper : (format : ℕ) (b : List ℕ) → IsFramed format b → IsTrue (is_proper (live_in b))
framed-proper format b f = let whole = has_tags-AreWholeTiles format (bytes_of b) (length b) f.tags
    in proper_live (length b) (tiles_in b) f.legal whole.row whole.apart

-- so the tiles in use are in order of offset
pub framed-rising : (format : ℕ) (b : List ℕ) → IsFramed format b → Rising 0 (used (tiles_in b))
framed-rising format b f = rising-weak 0 128 (used (tiles_in b)) (omega arith)
    (live-rises (live_in b) (framed-proper format b f))

-- and the bytes encode this live set
pub framed-heap : (format : ℕ) (b : List ℕ) → IsFramed format b → EncodesLiveSet format b (live_in b)
framed-heap format b f =
    let whole = has_tags-AreWholeTiles format (bytes_of b) (length b) f.tags in
    record {
      size = refl;
      proper = framed-proper format b f;
      tiles = record {
        tags = f.tags;
        tiles = sym
            (spans_from-row false 128 128 (tiles_in b) (length b - 16) (inl (refl, refl)) whole.row whole.apart
            ∙ ap (λ ss. ss ++ map span (tiles_in b)) (span_between-none 128 128 (omega arith)));
      };
      free = free_tree-said format (bytes_of b) (length b) (tiles_in b) whole.row whole.apart f.free_tree;
    }
