-- The names of a segment that begin with a text.
use Rattle.std.specs.Prelude.{◌-◌, ◌∷◌, ◌++◌, ◌==◌, ◌&&◌, ℕ, Bool, not, List, [], filter, flat_map, if◌then◌else◌, take}
use Rattle.std.specs.List.{starts_with}
use Rattle.segment_lang.specs.Texts.{name_text}
use Rattle.segment_manager.specs.Directory.{Directory}
use Rattle.segment_manager.specs.indexes.Iterating.{names_of}

-- the name begins with the text
abbrev pub begins_with : List ℕ → List ℕ → Bool
begins_with name prefix = starts_with ◌==◌ name prefix

-- a name as a script has it, on a line of its own
abbrev pub name_line : List ℕ → List ℕ
name_line name = name_text name ++ 0x0A ∷ []

-- the first names that begin with the text, at most this many, in their order
abbrev pub names_text : List ℕ → ℕ → Directory → List ℕ
names_text prefix most d = flat_map name_line (take most (filter (λ name. begins_with name prefix) (names_of d)))

-- ---- name by name

-- the name is listed, if this many more names can be
abbrev pub is_listed : List ℕ → ℕ → List ℕ → Bool
is_listed prefix left name = not (left == 0) && begins_with name prefix

-- the line of a name, if it is listed
abbrev pub listed_line : List ℕ → ℕ → List ℕ → List ℕ
listed_line prefix left name = if is_listed prefix left name then name_line name else []

-- the number of names that can be listed after it
abbrev pub left_after : List ℕ → ℕ → List ℕ → ℕ
left_after prefix left name = if is_listed prefix left name then left - 1 else left
