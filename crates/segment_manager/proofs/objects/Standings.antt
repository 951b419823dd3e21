-- The facts about an object in its block.
use Rattle.best_fit.proofs.Laws.{room-less}
use Rattle.segment_manager.proofs.Common.{IsObjectInBlock, IsTrue, Kind, List, Object, ap, arith, bytes_of, class_code}
use Rattle.segment_manager.proofs.Common.{code_of, count_of, current, handle, has_room, kind_of, kind_of_code, length}
use Rattle.segment_manager.proofs.Common.{live_of, object_len, padded, read, replicate, same_Some, sym, value_len}
use Rattle.segment_manager.proofs.Common.{word_at, ℕ, ◌%◌, ◌*◌, ◌+◌, ◌-◌, ◌/◌, ◌∙◌, ◌≡◌, ◌≤◌}
use Rattle.segment_manager.proofs.objects.Heads.{Has-front, good-name, good_name-short, object-entry}
use Rattle.segment_manager.{proofs.objects.KindCodes.code-read, specs.objects.Located.located}

-- its name is short
pub standing-short : (b : List ℕ) (h : ℕ) (o : Object) → IsObjectInBlock b h o → length o.name ≤ 255
standing-short b h o s = good_name-short current o (good-name current o s.good)

-- the two words at its handle
pub record HeadWords (b : List ℕ) (h : ℕ) (o : Object) : Type 0 where
  pub code : word_at (bytes_of b) h % 4294967296 ≡ code_of (kind_of o.value)
  pub count : word_at (bytes_of b) h / 4294967296 ≡ count_of o.value
  pub name_len : word_at (bytes_of b) (h + 8) % 4294967296 ≡ length o.name
  pub class : word_at (bytes_of b) (h + 8) / 4294967296 ≡ class_code o.class

-- the words of the head of an object
pub head-words : {b : List ℕ} {h : ℕ} {o : Object} → IsObjectInBlock b h o → HeadWords b h o
head-words {b} {h} {o} s =
    let e = object-entry (bytes_of b) o (standing-short b h o s) s.said in
    let behind : word_at (bytes_of b) (handle o.extent + 8) ≡ length o.name + 4294967296 * class_code o.class =
    s.said.name_class in
    let len : word_at (bytes_of b) (handle o.extent + 8) % 4294967296 ≡ length o.name = omega arith in
    record {
      code = ap (λ a. word_at (bytes_of b) a % 4294967296) s.at ∙ e.code;
      count = ap (λ a. word_at (bytes_of b) a / 4294967296) s.at ∙ e.count;
      name_len = ap (λ a. word_at (bytes_of b) (a + 8) % 4294967296) s.at ∙ len;
      class = ap (λ a. word_at (bytes_of b) (a + 8) / 4294967296) s.at ∙ e.class;
    }

-- two kinds with one code are the same
pub one-kind : {k l : Kind} → code_of k ≡ code_of l → k ≡ l
one-kind {k} {l} e = same_Some k l (sym (code-read k) ∙ ap kind_of_code e ∙ code-read l)

-- so two objects in one block are equal in all parts
pub alike : {b : List ℕ} {h : ℕ} {o p : Object} → IsObjectInBlock b h o → IsObjectInBlock b h p → located o ≡ located p
alike s t =
    let u = head-words s in let v = head-words t in let kind = one-kind (sym u.code ∙ v.code) in λ i. record {
      handle = (sym s.at ∙ t.at) i;
      kind = kind i;
      name_len = (sym u.name_len ∙ v.name_len) i;
      count = (sym u.count ∙ v.count) i;
    }

-- its block has room for its head and name, and for its value
pub standing-room : (b : List ℕ) (h n : ℕ) (o : Object) → IsObjectInBlock b h o
    → n ≤ 16 + padded (length o.name) + value_len o.value → IsTrue (has_room (live_of b) h n)
standing-room b h n o s l = room-less (live_of b) h (object_len o.name o.value) n l s.room

-- its name follows the two words
pub standing-name : {b : List ℕ} {h : ℕ} {o : Object} → IsObjectInBlock b h o
    → read (bytes_of b) (h + 16) (length o.name) ≡ o.name
standing-name {b} {o} s =
    ap (λ a. read (bytes_of b) (a + 16) (length o.name)) s.at ∙ (Has-front (bytes_of b) (handle o.extent + 16) o.name
    (replicate (padded (length o.name) - length o.name) 0) s.said.name)
