-- Who may write a log, by the bits of two modes.
use Rattle.std.proofs.Common.{◌≡◌, ◌≢◌, ◌↔◌, ◌+◌, inl, inr, ℕ, suc, refl, sym, ◌∙◌, ap, arith}
use Rattle.std.proofs.Common.{Bool, true, false, ◌==◌, if◌then◌else◌, cond, not, ◌&&◌, ◌||◌}
use Rattle.std.proofs.lemmas.Bool.{eq-eqb, eqb-true, ne_eqb, and_parts, and_from, or_cases, cases_Bool}
use Rattle.file_rights.specs.declared.log_rights.Ownership.{Ownership}
use Rattle.file_rights.specs.Modes.{classes_of}
use Rattle.file_rights.specs.Rights.{to_write}
use Rattle.file_rights.specs.Access.{User, may_access}
use Rattle.file_rights.specs.LogRights.{file_of, is_closed_to, is_of_trusted, is_of_writers, keep_writers}
use Rattle.file_rights.specs.LogRights.{keeps_writers, log_counts}
use Rattle.file_rights.specs.LogRights.{IsClosedTo, IsOfTrusted, IsOfWriters, KeepsWriters, LogCounts}

not_owner : (own in_group o g r : Bool) → own ≡ false
    → cond own (o && true) (cond in_group (g && true) (r && true)) ≡ cond in_group g r
not_owner true in_group o g r is = absurd (cc (is))
not_owner false true o true r is = refl
not_owner false true o false r is = refl
not_owner false false o g true is = refl
not_owner false false o g false is = refl

-- whether another than the owner may write a file
pub write_by_class : (user : User) (of : Ownership) → user.uid ≢ of.owner
    → may_access user (file_of of) to_write
    ≡ cond (user.is_in of.group) (classes_of of.mode).group.write (classes_of of.mode).other.write
write_by_class user of other =
    not_owner (user.uid == of.owner) (user.is_in of.group) (classes_of of.mode).owner.write
    (classes_of of.mode).group.write (classes_of of.mode).other.write (ne_eqb _ _ other)

kept_by_bits : (fg fo lg lo same in_f in_l : Bool) → (same ≡ true → in_l ≡ in_f)
    → keep_writers fg fo lg lo same ≡ true → cond in_l lg lo ≡ true → cond in_f fg fo ≡ true
kept_by_bits fg fo lg lo same in_f in_l alike kept may = grind arith

closed_by_bits : (dg dr same in_g in_d : Bool) → (same ≡ true → in_d ≡ in_g)
    → (not dr && (same || not dg)) ≡ true → cond in_d dg dr ≡ true → in_g ≡ true
closed_by_bits dg dr same in_g in_d alike closed may = grind arith

-- the group of a file and another, or one of them
abbrev in_both : ℕ → ℕ → Bool → Bool → ℕ → Bool
in_both first second in_first in_second number =
    if number == first then in_first else if number == second then in_second else false

bits_from_closed : (dg dr same : Bool)
    → ((in_g in_d : Bool) → (same ≡ true → in_d ≡ in_g) → cond in_d dg dr ≡ true → in_g ≡ true)
    → (not dr && (same || not dg)) ≡ true
bits_from_closed dg true same h = absurd (cc (h false false (λ _. refl) refl))
bits_from_closed dg false true h = refl
bits_from_closed false false false h = refl
bits_from_closed true false false h = absurd (cc (h false true (λ is. absurd (cc is)) refl))

bits_from_kept : (fg fo lg lo same : Bool)
    → ((in_f in_l : Bool) → (same ≡ true → in_l ≡ in_f) → cond in_l lg lo ≡ true → cond in_f fg fo ≡ true)
    → keep_writers fg fo lg lo same ≡ true
bits_from_kept fg fo lg lo true h = grind (arith, h true true (λ _. refl), h false false (λ _. refl))
bits_from_kept fg fo lg lo false h =
    let apart : (in_l in_f : Bool) → false ≡ true → in_l ≡ in_f = λ in_l in_f is. absurd (cc is) in
    grind (
      arith,
      h true true (apart true true),
      h false false (apart false false),
      h true false (apart false true),
      h false true (apart true false),
    )

same_group : (user : User) (a b : ℕ) → (a == b) ≡ true → user.is_in a ≡ user.is_in b
same_group user a b is = ap user.is_in (eqb-true a b is)

-- a user who is neither of two, and in these groups
abbrev witness : ℕ → ℕ → ℕ → ℕ → Bool → Bool → User
witness one two first second in_first in_second =
    record { uid = suc (one + two); is_in = in_both first second in_first in_second }

in_first_is : (first second : ℕ) (a b : Bool) → in_both first second a b first ≡ a
in_first_is first second a b = ap (λ t. cond t a (cond (first == second) b false)) (eq-eqb first first refl)

in_second_is : (first second : ℕ) (a b : Bool) → ((second == first) ≡ true → b ≡ a)
    → in_both first second a b second ≡ b
in_second_is first second a b alike = elim (cases_Bool (second == first)) [
  | inl same ↦ ap (λ t. cond t a (cond (second == second) b false)) same ∙ sym (alike same)
  | inr apart ↦ ap (λ t. cond t a (cond (second == second) b false)) apart
      ∙ ap (λ t. cond t b false) (eq-eqb second second refl)
]

module _ (file log : Ownership) where
  keeps_forth : keeps_writers file log ≡ true → KeepsWriters file log
  keeps_forth is user not_owner not_log may =
      write_by_class user file not_owner
      ∙ kept_by_bits (classes_of file.mode).group.write (classes_of file.mode).other.write
      (classes_of log.mode).group.write (classes_of log.mode).other.write (log.group == file.group)
      (user.is_in file.group) (user.is_in log.group) (same_group user log.group file.group) is
      (sym (write_by_class user log not_log) ∙ may)

  keeps_back : KeepsWriters file log → keeps_writers file log ≡ true
  keeps_back keeps =
      bits_from_kept (classes_of file.mode).group.write (classes_of file.mode).other.write
      (classes_of log.mode).group.write (classes_of log.mode).other.write (log.group == file.group)
      (λ in_f in_l alike may.
      let user = witness file.owner log.owner file.group log.group in_f in_l in
      let not_owner : user.uid ≢ file.owner = omega arith in
      let not_log : user.uid ≢ log.owner = omega arith in
      let of_file : user.is_in file.group ≡ in_f = in_first_is file.group log.group in_f in_l in
      let of_log : user.is_in log.group ≡ in_l = in_second_is file.group log.group in_f in_l alike in
      sym (write_by_class user file not_owner
      ∙ ap (λ t. cond t (classes_of file.mode).group.write (classes_of file.mode).other.write) of_file)
      ∙ keeps user not_owner not_log
      (write_by_class user log not_log
      ∙ ap (λ t. cond t (classes_of log.mode).group.write (classes_of log.mode).other.write) of_log
      ∙ may))

module _ (group : ℕ) (folder : Ownership) where
  closed_forth : is_closed_to group folder ≡ true → IsClosedTo group folder
  closed_forth is user other may =
      closed_by_bits (classes_of folder.mode).group.write (classes_of folder.mode).other.write
      (folder.group == group) (user.is_in group) (user.is_in folder.group)
      (same_group user folder.group group) is (sym (write_by_class user folder other) ∙ may)

  closed_back : IsClosedTo group folder → is_closed_to group folder ≡ true
  closed_back closed =
      bits_from_closed (classes_of folder.mode).group.write (classes_of folder.mode).other.write
      (folder.group == group)
      (λ in_g in_d alike may.
      let user = witness folder.owner 0 group folder.group in_g in_d in
      let other : user.uid ≢ folder.owner = omega arith in
      let of_group : user.is_in group ≡ in_g = in_first_is group folder.group in_g in_d in
      let of_folder : user.is_in folder.group ≡ in_d =
      in_second_is group folder.group in_g in_d alike in
      sym of_group
      ∙ closed user other
      (write_by_class user folder other
      ∙ ap (λ t. cond t (classes_of folder.mode).group.write (classes_of folder.mode).other.write)
      of_folder ∙ may))

module _ (file log folder : Ownership) (caller : ℕ) where
  trusted_forth : is_of_trusted file log caller ≡ true → IsOfTrusted file log caller
  trusted_forth is = elim (or_cases (log.owner == file.owner) _ is) [
    | inl owner ↦ inl (eqb-true _ _ owner)
    | inr others ↦ elim (or_cases (log.owner == caller) _ others) [
      | inl own ↦ inr (inl (eqb-true _ _ own))
      | inr root ↦ inr (inr (eqb-true _ _ root))
    ]
  ]

  or_left : (a b : Bool) → a ≡ true → (a || b) ≡ true
  or_left a b is = ap (λ t. t || b) is

  or_right : (a b : Bool) → b ≡ true → (a || b) ≡ true
  or_right true b is = refl
  or_right false b is = is

  trusted_back : IsOfTrusted file log caller → is_of_trusted file log caller ≡ true
  trusted_back is =
      let owned : Bool = log.owner == file.owner in
      let called : Bool = log.owner == caller in
      let rooted : Bool = log.owner == 0 in
      elim is [
        | inl owner ↦ or_left owned (called || rooted) (eq-eqb _ _ owner)
        | inr others ↦ elim others [
          | inl own ↦ or_right owned (called || rooted) (or_left called rooted (eq-eqb _ _ own))
          | inr root ↦ or_right owned (called || rooted) (or_right called rooted (eq-eqb _ _ root))
        ]
      ]

  writers_forth : is_of_writers file log folder ≡ true → IsOfWriters file log folder
  writers_forth is =
      let first = and_parts _ _ is in
      let second = and_parts _ _ first.1 in
      record {
        writes = first.0;
        group = eqb-true _ _ second.0;
        closed = closed_forth file.group folder second.1;
      }

  writers_back : IsOfWriters file log folder → is_of_writers file log folder ≡ true
  writers_back is =
      and_from _ _ is.writes
      (and_from _ _ (eq-eqb _ _ is.group) (closed_back file.group folder is.closed))

  counts_forth : log_counts file log folder caller ≡ true → LogCounts file log folder caller
  counts_forth is =
      let parts = and_parts _ _ is in
      record {
        maker = elim (or_cases (is_of_trusted file log caller) _ parts.0) [
          | inl trusted ↦ inl (trusted_forth trusted)
          | inr writers ↦ inr (writers_forth writers)
        ];
        writers = keeps_forth file log parts.1;
      }

  counts_back : LogCounts file log folder caller → log_counts file log folder caller ≡ true
  counts_back is =
      and_from _ _ (elim is.maker [
        | inl trusted ↦ or_left (is_of_trusted file log caller) (is_of_writers file log folder)
            (trusted_back trusted)
        | inr writers ↦ or_right (is_of_trusted file log caller) (is_of_writers file log folder)
            (writers_back writers)
      ]) (keeps_back file log is.writers)

  -- what is computed says whether a log counts
  pub counts_iff : (result : Bool) → result ≡ log_counts file log folder caller
      → (result ≡ true) ↔ LogCounts file log folder caller
  counts_iff result is = (λ yes. counts_forth (sym is ∙ yes), λ counts. is ∙ counts_back counts)
