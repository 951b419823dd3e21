-- The number of comparisons of a binary search.
use Rattle.std.specs.Prelude.{ℕ, zero, suc, ◌+◌, ◌-◌, ◌*◌, ◌/◌, true, false, List, length, nat_lt, slice_get, unwrap_or}
use Rattle.std.specs.{Prelude.IsTrue, declared.cmp.Ordering.Ordering}
use Rattle.std.specs.declared.cmp.Ordering.TheVariants.{Less, Equal, Greater}
use Rattle.raw_region.specs.Memory.{WindowState, Memory, bytes_of}
use Rattle.offset_link.specs.Link.{link_at}
use Rattle.best_fit.specs.Heap.{has_room, live_of}
use Rattle.seg_index.specs.{declared.keys.Entry.Entry, Lookups.IsKeyReadable, Lookups.IsEntryLinkTo, Lookups.order}

-- the place of the key that is compared if the places from `low` on and below `high` remain
abbrev pub middle : ℕ → ℕ → ℕ
middle low high = low + (high - low) / 2

-- The number of comparisons between `low` and `high`, where `stands` is the order of each key to the wanted key. The
-- search compares the middle key; it continues after this key if the key precedes the wanted one, and before it if the
-- key follows. The first number is at least the number of keys that remain.
unfoldable pub comparisons_among : ℕ → (ℕ → Ordering) → ℕ → ℕ → ℕ
comparisons_among zero stands low high = 0
comparisons_among (suc most) stands low high =
    elim (nat_lt low high) [
      | false ↦ 0
      | true ↦ suc (elim (stands (middle low high)) [
        | Less ↦ comparisons_among most stands (middle low high + 1) high
        | Equal ↦ 0
        | Greater ↦ comparisons_among most stands low (middle low high)
      ])
    ]

-- the comparisons of a binary search for a key among the keys of the objects with these handles
abbrev pub comparisons : Memory → Entry → List ℕ → ℕ
comparisons m key handles =
    comparisons_among (length handles) (λ i. order m key (unwrap_or (slice_get handles i) 0)) 0 (length handles)

-- ---- the same definitions over the links of a block

-- the order of an entry's key to a key
abbrev pub order_at : Memory → Entry → ℕ → ℕ → Ordering
order_at m key block i = order m key (unwrap_or (link_at m (block + 8 * i)) 0)

-- the number of comparisons of a search in this many entries
abbrev pub comparisons_in : Memory → Entry → ℕ → ℕ → ℕ
comparisons_in m key block count = comparisons_among count (order_at m key block) 0 count

-- the entry at i leads to an object with a key
pub record IsKeyedEntry (c : WindowState) (key : Entry) (block i : ℕ) : Type 0 where
  pub room : IsTrue (has_room (live_of c.bytes) block (8 * i + 8))
  pub handle : ℕ
  pub leads : IsEntryLinkTo (bytes_of c.bytes) block i handle
  pub keyed : IsKeyReadable c key handle
