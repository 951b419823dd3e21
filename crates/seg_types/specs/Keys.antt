-- The keys of the code as keys of the definitions.
use Rattle.std.specs.Prelude.{ℕ, List}
use Rattle.seg_types.specs.Names as name
use Rattle.seg_types.specs.declared.names.Name.{Name}
use Rattle.seg_types.specs.declared.keys.Key.{Key}
use Rattle.seg_types.specs.declared.keys.Key.TheVariants as found
use Rattle.seg_types.specs.declared.keys.NewKey.{NewKey}
use Rattle.seg_types.specs.declared.keys.NewKey.TheVariants as new
use Rattle.seg_types.specs.declared.keys.IndexKey.{IndexKey}
use Rattle.seg_types.specs.declared.keys.IndexKey.TheVariants as indexed

-- the bytes of a name
abbrev pub name_seen : Name → List ℕ
name_seen n = n.bytes.now

-- a key of any object
abbrev pub key_seen : Key → name.Key
key_seen (found.Name n) = name.ByName (name_seen n)
key_seen (found.Unique k) = name.ByKind k
key_seen (found.Handle n) = name.ByHandle n
key_seen found.Anonymous = name.NoKey

-- a key for a new object
abbrev pub new_key_seen : NewKey → name.Key
new_key_seen (new.Name n) = name.ByName (name_seen n)
new_key_seen (new.Unique k) = name.ByKind k
new_key_seen new.Anonymous = name.NoKey

-- a key of an entry of an index
abbrev pub index_key_seen : IndexKey → name.Key
index_key_seen (indexed.Name n) = name.ByName (name_seen n)
index_key_seen (indexed.Unique k) = name.ByKind k
