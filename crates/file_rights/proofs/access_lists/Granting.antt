-- What the entries of an access list grant a user.
use Rattle.std.proofs.Common.{◌≡◌, ℕ, refl, sym, ◌∙◌, ap, List, [], ◌∷◌, Option, Some, None}
use Rattle.std.proofs.Common.{Bool, true, false, ◌==◌, cond, ◌&&◌, ◌||◌}
use Rattle.file_rights.specs.declared.access_lists.ListEntry.{ListEntry}
use Rattle.file_rights.specs.declared.rights.Rights.{Rights}
use Rattle.file_rights.specs.Rights.{no_rights, common, covers}
use Rattle.file_rights.specs.AccessLists.{common_within, first_rights, mask_of, or_else}
use Rattle.file_rights.specs.Access.{User, has_grant, has_group, is_of_group, may_by_entries, named_rights}
use Rattle.file_rights.proofs.rights.Covering.{covers_left, covers_nothing, covers_right, covers_trans}

or_left : (a b : Bool) → a ≡ true → (a || b) ≡ true
or_left a b is = ap (λ t. t || b) is

or_right : (a b : Bool) → b ≡ true → (a || b) ≡ true
or_right true b is = refl
or_right false b is = is

-- ---- named users

same_some : (x r : Rights) → Some x ≡ Some r → x ≡ r
same_some x r is = cc is

named_step : (t n : Bool) (x r mask want later : Rights) (rest : Option Rights)
    → cond (t && n) (Some x) rest ≡ Some r → covers (cond t (common (common x mask) later) later) want ≡ true
    → (rest ≡ Some r → covers later want ≡ true → covers (common r mask) want ≡ true)
    → covers (common r mask) want ≡ true
named_step true true x r mask want later rest is c h =
    ap (λ y. covers (common y mask) want) (sym (same_some x r is)) ∙ covers_left (common x mask) later want c
named_step true false x r mask want later rest is c h = h is (covers_right (common x mask) later want c)
named_step false n x r mask want later rest is c h = h is c

-- what the entries of all named users grant the entry of each grants
pub named_covered : (uid : ℕ) (mask want r : Rights) (entries : List ListEntry) → named_rights uid entries ≡ Some r
    → covers (common_within 2 mask entries) want ≡ true → covers (common r mask) want ≡ true
named_covered uid mask want r [] is c = absurd (cc is)
named_covered uid mask want r (entry ∷ entries) is c =
    named_step (entry.tag == 2) (entry.number == uid) entry.rights r mask want (common_within 2 mask entries)
    (named_rights uid entries) is c (λ is c. named_covered uid mask want r entries is c)

-- ---- the owning group

-- a user's groups have an entry, and one of them grants what is wanted
pub record GroupGrants (user : User) (group : ℕ) (mask want : Rights) (entries : List ListEntry) : Type 0 where
  pub some : has_group user group entries ≡ true
  pub grant : has_grant user group mask want entries ≡ true

first_step : (t : Bool) (x r : Rights) (rest : Option Rights) (G : Type 0) → cond t (Some x) rest ≡ Some r
    → (t ≡ true → x ≡ r → G) → (rest ≡ Some r → G) → G
first_step true x r rest G is here later = here refl (same_some x r is)
first_step false x r rest G is here later = later is

of_group : (t o : Bool) (inside : Bool) → t ≡ true → inside ≡ true → ((t && inside) || o) ≡ true
of_group true o true a b = refl
of_group true o false a b = absurd (cc b)
of_group false o inside a b = absurd (cc a)

both_true : (a b : Bool) → a ≡ true → b ≡ true → (a && b) ≡ true
both_true a b is_a is_b = ap (λ t. t && b) is_a ∙ is_b

-- the members of the owning group are granted what its entry grants
pub group_grants : (user : User) (group : ℕ) (mask want r : Rights) (entries : List ListEntry)
    → first_rights 4 entries ≡ Some r → user.is_in group ≡ true → covers (common r mask) want ≡ true
    → GroupGrants user group mask want entries
group_grants user group mask want r [] is member c = absurd (cc is)
group_grants user group mask want r (entry ∷ entries) is member c =
    let of = is_of_group user group entry in
    first_step (entry.tag == 4) entry.rights r (first_rights 4 entries)
    (GroupGrants user group mask want (entry ∷ entries)) is
    (λ here same.
    let ours : of ≡ true =
    of_group (entry.tag == 4) ((entry.tag == 8) && user.is_in entry.number) (user.is_in group) here member in
    let grants : covers (common entry.rights mask) want ≡ true =
    ap (λ y. covers (common y mask) want) same ∙ c in
    record {
      some = or_left of (has_group user group entries) ours;
      grant = or_left (of && covers (common entry.rights mask) want) (has_grant user group mask want entries)
          (both_true of (covers (common entry.rights mask) want) ours grants);
    })
    (λ later.
    let g = group_grants user group mask want r entries later member c in
    record {
      some = or_right of (has_group user group entries) g.some;
      grant = or_right (of && covers (common entry.rights mask) want) (has_grant user group mask want entries)
          g.grant;
    })

-- ---- named groups

groups_step : (t4 t8 inside n : Bool) (x mask want later : Rights) (some grant : Bool) → inside ≡ false
    → (((t4 && inside) || (t8 && n)) || some) ≡ true
    → covers (cond t8 (common (common x mask) later) later) want ≡ true
    → (some ≡ true → covers later want ≡ true → grant ≡ true)
    → ((((t4 && inside) || (t8 && n)) && covers (common x mask) want) || grant) ≡ true
groups_step t4 t8 true n x mask want later some grant out is c h = absurd (cc out)
groups_step true true false true x mask want later some grant out is c h =
    or_left (covers (common x mask) want) grant (covers_left (common x mask) later want c)
groups_step false true false true x mask want later some grant out is c h =
    or_left (covers (common x mask) want) grant (covers_left (common x mask) later want c)
groups_step true true false false x mask want later some grant out is c h =
    h is (covers_right (common x mask) later want c)
groups_step false true false false x mask want later some grant out is c h =
    h is (covers_right (common x mask) later want c)
groups_step true false false n x mask want later some grant out is c h = h is c
groups_step false false false n x mask want later some grant out is c h = h is c

-- who is not in the owning group, but in some named group, is granted what the entries of all named groups grant
pub groups_grant : (user : User) (group : ℕ) (mask want : Rights) (entries : List ListEntry)
    → user.is_in group ≡ false → has_group user group entries ≡ true
    → covers (common_within 8 mask entries) want ≡ true → has_grant user group mask want entries ≡ true
groups_grant user group mask want [] out is c = absurd (cc is)
groups_grant user group mask want (entry ∷ entries) out is c =
    groups_step (entry.tag == 4) (entry.tag == 8) (user.is_in group) (user.is_in entry.number) entry.rights mask want
    (common_within 8 mask entries) (has_group user group entries) (has_grant user group mask want entries) out is c
    (λ is c. groups_grant user group mask want entries out is c)

-- ---- who wants nothing

nothing_step : (of some covered grant : Bool) → (of || some) ≡ true → covered ≡ true → (some ≡ true → grant ≡ true)
    → ((of && covered) || grant) ≡ true
nothing_step true some covered grant is c h = or_left covered grant c
nothing_step false some covered grant is c h = h is

nothing_granted : (user : User) (group : ℕ) (mask want : Rights) (entries : List ListEntry)
    → covers no_rights want ≡ true → has_group user group entries ≡ true
    → has_grant user group mask want entries ≡ true
nothing_granted user group mask want [] nothing is = absurd (cc is)
nothing_granted user group mask want (entry ∷ entries) nothing is =
    nothing_step (is_of_group user group entry) (has_group user group entries)
    (covers (common entry.rights mask) want) (has_grant user group mask want entries) is
    (covers_nothing (common entry.rights mask) want nothing)
    (λ is. nothing_granted user group mask want entries nothing is)

-- one of two tests holds if each does where it is asked
pub choose : (b x y : Bool) → (b ≡ true → x ≡ true) → (b ≡ false → y ≡ true) → cond b x y ≡ true
choose true x y h k = h refl
choose false x y h k = k refl

-- who wants nothing gets it
pub nothing_by_entries : (user : User) (group : ℕ) (want : Rights) (entries : List ListEntry) (named : Option Rights)
    → covers no_rights want ≡ true → may_by_entries user group entries want named ≡ true
nothing_by_entries user group want entries (Some r) nothing =
    covers_nothing (common r (mask_of entries)) want nothing
nothing_by_entries user group want entries None nothing =
    choose (has_group user group entries) (has_grant user group (mask_of entries) want entries)
    (covers (or_else no_rights (first_rights 32 entries)) want)
    (λ some. nothing_granted user group (mask_of entries) want entries nothing some)
    (λ none. covers_nothing (or_else no_rights (first_rights 32 entries)) want nothing)

-- ---- all that a list grants

granted_step : (of covered grant : Bool) (G : Type 0) → ((of && covered) || grant) ≡ true → (covered ≡ true → G)
    → (grant ≡ true → G) → G
granted_step true true grant G is h k = h refl
granted_step true false grant G is h k = k is
granted_step false covered grant G is h k = k is

-- what a group's entry grants is within the mask
pub grant_within : (user : User) (group : ℕ) (mask want : Rights) (entries : List ListEntry)
    → has_grant user group mask want entries ≡ true → covers mask want ≡ true
grant_within user group mask want [] is = absurd (cc is)
grant_within user group mask want (entry ∷ entries) is =
    granted_step (is_of_group user group entry) (covers (common entry.rights mask) want)
    (has_grant user group mask want entries) (covers mask want ≡ true) is
    (λ c. covers_right entry.rights mask want c)
    (λ later. grant_within user group mask want entries later)

-- one of two tests that holds was asked
pub one_of : (b x y : Bool) (G : Type 0) → cond b x y ≡ true → (x ≡ true → G) → (y ≡ true → G) → G
one_of true x y G is h k = h is
one_of false x y G is h k = k is

-- what a list grants another than the owner is within the mask or what it grants the others
pub entries_within : (user : User) (group : ℕ) (want above : Rights) (entries : List ListEntry)
    (named : Option Rights) → covers above (mask_of entries) ≡ true
    → covers above (or_else no_rights (first_rights 32 entries)) ≡ true
    → may_by_entries user group entries want named ≡ true → covers above want ≡ true
entries_within user group want above entries (Some r) mask other may =
    covers_trans above (mask_of entries) want mask (covers_right r (mask_of entries) want may)
entries_within user group want above entries None mask other may =
    one_of (has_group user group entries) (has_grant user group (mask_of entries) want entries)
    (covers (or_else no_rights (first_rights 32 entries)) want) (covers above want ≡ true) may
    (λ granted. covers_trans above (mask_of entries) want mask
    (grant_within user group (mask_of entries) want entries granted))
    (λ granted. covers_trans above (or_else no_rights (first_rights 32 entries)) want other granted)

-- ---- what a list grants each of a class

group_first : (user : User) (group : ℕ) (want : Rights) (entries : List ListEntry) (first : Option Rights)
    → first_rights 4 entries ≡ first → user.is_in group ≡ true
    → covers (common (or_else no_rights first) (mask_of entries)) want ≡ true
    → may_by_entries user group entries want None ≡ true
group_first user group want entries None is member c =
    nothing_by_entries user group want entries None (covers_left no_rights (mask_of entries) want c)
group_first user group want entries (Some r) is member c =
    let g = group_grants user group (mask_of entries) want r entries is member c in
    choose (has_group user group entries) (has_grant user group (mask_of entries) want entries)
    (covers (or_else no_rights (first_rights 32 entries)) want) (λ some. g.grant)
    (λ none. absurd (cc (none, g.some)))

-- a member of the owning group
pub group_may : (user : User) (group : ℕ) (want : Rights) (entries : List ListEntry) (named : Option Rights)
    → named_rights user.uid entries ≡ named → user.is_in group ≡ true
    → covers (common (common (or_else no_rights (first_rights 4 entries)) (mask_of entries))
    (common_within 2 (mask_of entries) entries)) want ≡ true
    → may_by_entries user group entries want named ≡ true
group_may user group want entries (Some r) is member c =
    named_covered user.uid (mask_of entries) want r entries is
    (covers_right (common (or_else no_rights (first_rights 4 entries)) (mask_of entries))
    (common_within 2 (mask_of entries) entries) want c)
group_may user group want entries None is member c =
    group_first user group want entries (first_rights 4 entries) refl member
    (covers_left (common (or_else no_rights (first_rights 4 entries)) (mask_of entries))
    (common_within 2 (mask_of entries) entries) want c)

-- another than the owner and the members of the owning group
pub other_may : (user : User) (group : ℕ) (want : Rights) (entries : List ListEntry) (named : Option Rights)
    → named_rights user.uid entries ≡ named → user.is_in group ≡ false
    → covers (common (or_else no_rights (first_rights 32 entries))
    (common (common_within 2 (mask_of entries) entries) (common_within 8 (mask_of entries) entries))) want ≡ true
    → may_by_entries user group entries want named ≡ true
other_may user group want entries named is out c =
    let users = common_within 2 (mask_of entries) entries in
    let groups = common_within 8 (mask_of entries) entries in
    let other = or_else no_rights (first_rights 32 entries) in
    let both : covers (common users groups) want ≡ true = covers_right other (common users groups) want c in
    let go : (named : Option Rights) → named_rights user.uid entries ≡ named
    → may_by_entries user group entries want named ≡ true =
    elim [
      | Some r ↦ λ is. named_covered user.uid (mask_of entries) want r entries is (covers_left users groups want both)
      | None ↦ λ is. choose (has_group user group entries) (has_grant user group (mask_of entries) want entries)
          (covers other want)
          (λ some. groups_grant user group (mask_of entries) want entries out some
          (covers_right users groups want both))
          (λ none. covers_left other (common users groups) want c)
    ] in
    go named is
