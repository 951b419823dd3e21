-- The counts of a text, and their meaning for a dump.
use Rattle.std.specs.Prelude.{◌≡◌, ◌≢◌, ◌<◌, ◌^◌, ◌++◌, ℕ, List, [], ◌∷◌, Option, Some, Result, Ok, length, codes}
use Rattle.std.specs.List.{AllByRecursion}
use Rattle.seg_types.specs.{declared.kinds.Class.TheVariants.Named, declared.kinds.Kind.Kind}
use Rattle.segment_lang.specs.Texts.{number_text}
use Rattle.segment_dump.specs.{declared.counting.Count.Count, declared.counting.DumpPrefix.DumpPrefix}
use Rattle.segment_dump.specs.{declared.needs.Needs.Needs}
use Rattle.segment_dump.specs.{Leads.IsSmall, Asked.AreAtMost, Asked.HasObjects, Need.texts_needs}
use Rattle.segment_dump.specs.Items.{ValueContent, DumpItem, Items, kind_of_content, count_of_content}
use Rattle.segment_dump.specs.Need.{all_needs, both, prefix_room, item_needs, items_needs, only_room, text_needs}
use Rattle.segment_dump.specs.Texts.{dump_text, end_text, prefix_text, items_text}

-- ---- counts of a segment

-- this many texts fit a segment
pub record AreTexts (count : ℕ) (ts : List (List ℕ)) : Type 0 where
  pub many : length ts ≡ count
  pub small : IsSmall (all_needs text_needs ts).room

-- a content has this many elements of a kind, whose texts fit
pub record HasContentShape (kind : Kind) (count : ℕ) (c : ValueContent) : Type 0 where
  pub kind_is : kind_of_content c ≡ kind
  pub many : count_of_content c ≡ count
  pub small : IsSmall (texts_needs c).room

-- the item has a name only if it is named
abbrev pub IsNameless : DumpItem → Type 0
IsNameless i = i.class ≢ Named → i.name ≡ []

-- an object that fits
pub record IsCountable (i : DumpItem) : Type 0 where
  pub nameless : IsNameless i
  pub small : IsSmall (item_needs i).room

-- ---- the whole text

-- the first three lines
abbrev pub fronted : DumpPrefix → List ℕ
fronted f = prefix_text f.size f.named f.unique

-- the numbers in the first lines of a dump are possible
pub record IsDumpPrefix (f : DumpPrefix) : Type 0 where
  pub size : f.size < 2 ^ 64
  pub named : IsSmall f.named
  pub unique : IsSmall f.unique

-- objects of which each has a name only if it is named, and that fit a segment
pub record AreCountable (items : Items) : Type 0 where
  pub named : AllByRecursion IsNameless items.named
  pub unique : AllByRecursion IsNameless items.unique
  pub anonymous : AllByRecursion IsNameless items.anonymous
  pub small : IsSmall (items_needs items).room

-- the needs of objects whose lines, and the line `end`, are the text
pub record CountsObjects (text : List ℕ) (result : Result Needs ℕ) : Type 0 where
  pub counts : (items : List DumpItem) → AllByRecursion IsNameless items → IsSmall (all_needs item_needs items).room
      → text ≡ items_text items ++ end_text → result ≡ Ok (all_needs item_needs items)

-- the needs of all objects of which the text is the dump, and the size that it says
pub record CountsDump (text : List ℕ) (result : Result Count ℕ) : Type 0 where
  pub counts : (n : ℕ) (items : Items) → n < 2 ^ 64 → AreCountable items → text ≡ dump_text n items
      → result ≡ Ok (record { size = n; needs = items_needs items })

-- for any text: it begins with the three first lines of a dump, with this size, and with objects before the line `end`,
-- whose needs are at least the counts
pub record IsCounted (text : List ℕ) (count : Count) : Type 0 where
  pub prefix : DumpPrefix
  pub behind : List ℕ
  pub is : text ≡ fronted prefix ++ behind
  pub size : count.size ≡ prefix.size
  pub asked : Needs
  pub objects : HasObjects behind asked
  pub most : AreAtMost count.needs (both (only_room (prefix_room prefix.named prefix.unique)) asked)

-- the size that it says, of whatever objects the text is the dump
pub record SaysSize (text : List ℕ) (result : Option ℕ) : Type 0 where
  pub says : (n : ℕ) (items : Items) → n < 2 ^ 64 → text ≡ dump_text n items → result ≡ Some n

-- the text begins with the line of the version, and the second line with this size
pub record BeginsWithSize (text : List ℕ) (size : ℕ) : Type 0 where
  pub rest : List ℕ
  pub begins : text ≡ codes "segment dump 1" ++ 0x0A ∷ codes "size " ++ number_text size ++ rest
