-- A part of bytes in memory: it is read, split off, and joined again with other bytes in it. Assumes `Logic`.
use Rattle.std.proofs.Common.{◌≡◌, ℕ, zero, suc, ◌+◌, ◌-◌, ◌≤◌, inl, inr, List, [], ◌∷◌, ◌++◌, length, take, refl, sym}
use Rattle.std.proofs.Common.{ap, subst, ◌∙◌, arith, take-append-drop, length-take, length-drop, append_assoc}
use lib.ListN.{drop}
use lib.Seq.{drop-drop}
use seplogic.Ra.Ura.{Ura}
use base.Fraction.{full_share}
use base.Logic.{ent, sep, via, snd∗, mono_r, id⊢}
use contract.Conj.{top}
use base.Fml.{Lft, Fml, fsep}
use types.Logic.{Logic, sem}
use types.Kit.{‵, ◌⊛◌, ◌$◌, ◌∵◌, !, qed, by, move, drop as forget, use1, use2, split, group, rewrite, fsplit, fjoin}
use types.Kit.{done}
use denote.Builtin.{u8}
use denote.Memory.{shared_of}
use denote.RawPtr.Bytes.{bytes, bytes_cut, bytes_glue}
use denote.Slice.{elements_shared}
use denote.Steps.{nothing}
use Rattle.std.proofs.lemmas.List.{drop-take, take-take, append-nil}
use Rattle.raw_region.specs.Memory.{part, patched}
use Rattle.raw_region.specs.Regions.{AreDisjoint}
use Rattle.raw_region.proofs.words.Patches.{length-patched, front-patched, drop-patched, patched-commutes}

module _ {M : Type 1} {𝓤 : Ura M} (𝓛 : Logic 𝓤) (b : ℕ) where
  module _ (κ : Lft) where
    abbrev Seen : List ℕ → ℕ → Fml
    Seen xs o = elements_shared u8 xs b o κ

    seen_front : (n : ℕ) (xs : List ℕ) (o : ℕ) → ent 𝓤 (sem 𝓛 (Seen xs o)) (sem 𝓛 (Seen (take n xs) o))
    seen_front zero xs o = top 𝓤 _
    seen_front (suc n) [] o = top 𝓤 _
    seen_front (suc n) (x ∷ xs) o = mono_r 𝓤 (sem 𝓛 (shared_of u8 x b o κ)) (seen_front n xs (o + 1))

    seen_back : (n : ℕ) (xs : List ℕ) (o at : ℕ) → at ≡ n + o → ent 𝓤 (sem 𝓛 (Seen xs o)) (sem 𝓛 (Seen (drop n xs) at))
    seen_back zero xs o at e = let same : o ≡ at = omega arith
        in subst (λ (k : ℕ). ent 𝓤 (sem 𝓛 (Seen xs o)) (sem 𝓛 (Seen xs k))) same (id⊢ 𝓤 _)
    seen_back (suc n) [] o at e = top 𝓤 _
    seen_back (suc n) (x ∷ xs) o at e =
        via 𝓤 _ (snd∗ 𝓤 (sem 𝓛 (shared_of u8 x b o κ)) _) (seen_back n xs (o + 1) at (omega arith))

    -- a part of bytes that are shared is shared
    pub seen_part : (xs : List ℕ) (o from len : ℕ)
        → ent 𝓤 (sem 𝓛 (Seen xs o)) (sem 𝓛 (Seen (part xs from len) (from + o)))
    seen_part xs o from len = via 𝓤 (sem 𝓛 (Seen (drop from xs) (from + o))) (seen_back from xs o (from + o) refl)
        (seen_front len (drop from xs) (from + o))

  -- the bytes of a list, owned in full at an offset of the block
  abbrev pub Bytes : List ℕ → ℕ → Fml
  Bytes xs o = bytes full_share xs b o

  -- all but a part
  abbrev pub Around : List ℕ → ℕ → ℕ → ℕ → Fml
  Around xs o from len = fsep (Bytes (take from xs) o) (Bytes (drop (from + len) xs) (from + o + len))

  module _ (xs : List ℕ) (o from len : ℕ) (within : from + len ≤ length xs) where
    long_front : length (take from xs) ≡ from
    long_front = omega (arith, length-take from xs)

    long_part : length (part xs from len) ≡ len
    long_part = omega (arith, length-take len (drop from xs), length-drop from xs)

    three : xs ≡ take from xs ++ (part xs from len ++ drop (from + len) xs)
    three = sym (take-append-drop from xs)
        ∙ ap (λ (l : List ℕ). take from xs ++ l) (sym (take-append-drop len (drop from xs))
        ∙ ap (λ (l : List ℕ). part xs from len ++ l) (drop-drop len from xs))

    -- a part of the bytes is split off, and the bytes around it stay
    pub part_out : ent 𝓤 (sem 𝓛 (Bytes xs o))
        (sep 𝓤 (sem 𝓛 (Bytes (part xs from len) (from + o))) (sem 𝓛 (Around xs o from len)))
    part_out =
        let first : o + length (take from xs) ≡ from + o = omega (arith, long_front) in
        let second : from + o + length (part xs from len) ≡ from + o + len = omega (arith, long_part) in
        qed 𝓛 (‵ (Bytes xs o) ∷ []) ∵ rewrite ! 0 (λ (l : List ℕ). ‵ (Bytes l o)) three refl $
        use1 𝓛 (‵ (Bytes (take from xs) o) ⊛ ‵
        (Bytes (part xs from len ++ drop (from + len) xs) (o + length (take from xs))))
        (bytes_cut 𝓛 full_share (take from xs) (part xs from len ++ drop (from + len) xs) b o) $
        split ! $ move ! (1 ∷ []) $ rewrite ! 0 (λ (k : ℕ).
        ‵ (Bytes (part xs from len ++ drop (from + len) xs) k)) first refl $
        use1 𝓛 (‵ (Bytes (part xs from len) (from + o)) ⊛ ‵
        (Bytes (drop (from + len) xs) (from + o + length (part xs from len))))
        (bytes_cut 𝓛 full_share (part xs from len) (drop (from + len) xs) b (from + o)) $
        split ! $ move ! (1 ∷ []) $ rewrite ! 0 (λ (k : ℕ).
        ‵ (Bytes (drop (from + len) xs) k)) second refl $ move ! (2 ∷ 0 ∷ []) $ fjoin ! $ move ! (1 ∷ []) $ done !

    -- other bytes of the same length are put back, and the whole is the patched list
    pub part_in : (ws : List ℕ) → length ws ≡ len
        → ent 𝓤 (sep 𝓤 (sem 𝓛 (Bytes ws (from + o))) (sem 𝓛 (Around xs o from len)))
        (sem 𝓛 (Bytes (patched xs from ws) o))
    part_in ws long =
        let first : from + o ≡ o + length (take from xs) = omega (arith, long_front) in
        let second : from + o + len ≡ from + o + length ws = omega (arith, long) in
        let whole : take from xs ++ (ws ++ drop (from + len) xs) ≡ patched xs from ws =
        ap (λ (n : ℕ). take from xs ++ (ws ++ drop (from + n) xs)) (sym long)
        ∙ sym (append_assoc (take from xs) ws (drop (from + length ws) xs)) in
        qed 𝓛 (‵ (Bytes ws (from + o)) ∷ ‵ (Around xs o from len) ∷ []) ∵ move ! (1 ∷ []) $ fsplit ! $ move ! (1 ∷ []) $
        rewrite ! 0 (λ (k : ℕ). ‵ (Bytes (drop (from + len) xs) k)) second refl $ move ! (2 ∷ 0 ∷ []) $
        use2 𝓛 (‵ (Bytes (ws ++ drop (from + len) xs) (from + o)))
        (bytes_glue 𝓛 full_share ws (drop (from + len) xs) b (from + o)) $
        rewrite ! 0 (λ (k : ℕ). ‵ (Bytes (ws ++ drop (from + len) xs) k)) first refl $ move ! (1 ∷ 0 ∷ []) $
        use2 𝓛 (‵ (Bytes (take from xs ++ (ws ++ drop (from + len) xs)) o))
        (bytes_glue 𝓛 full_share (take from xs) (ws ++ drop (from + len) xs) b o) $
        rewrite ! 0 (λ (l : List ℕ). ‵ (Bytes l o)) whole refl $ done !

-- two disjoint parts are split off together, and joined again
module _ {M : Type 1} {𝓤 : Ura M} (𝓛 : Logic 𝓤) (b o : ℕ) (xs : List ℕ) (from len from' len' : ℕ) where
  -- two parts of the bytes, split off together: the remaining bytes, and the way to join all again
  pub record Parted : Type 1 where
    pub rest : Fml
    pub out : ent 𝓤 (sem 𝓛 (Bytes 𝓛 b xs o))
        (sep 𝓤 (sem 𝓛 (Bytes 𝓛 b (part xs from len) (from + o)))
        (sep 𝓤 (sem 𝓛 (Bytes 𝓛 b (part xs from' len') (from' + o))) (sem 𝓛 rest)))
    pub back : (ws ws' : List ℕ) → length ws ≡ len → length ws' ≡ len'
        → ent 𝓤 (sep 𝓤 (sem 𝓛 (Bytes 𝓛 b ws (from + o))) (sep 𝓤 (sem 𝓛 (Bytes 𝓛 b ws' (from' + o))) (sem 𝓛 rest)))
        (sem 𝓛 (Bytes 𝓛 b (patched (patched xs from ws) from' ws') o))

module _ {M : Type 1} {𝓤 : Ura M} (𝓛 : Logic 𝓤) (b o : ℕ) (xs : List ℕ) (from len from' len' : ℕ)
    (within' : from' + len' ≤ length xs) (below : from + len ≤ from') where
  abbrev first : List ℕ
  first = take from' xs

  fits : from + len ≤ length first
  fits = omega (arith, length-take from' xs)

  abbrev Others : Fml
  Others = fsep (Around 𝓛 b first o from len) (Bytes 𝓛 b (drop (from' + len') xs) (from' + o + len'))

  abbrev Left : List ℕ → Fml
  Left l = Bytes 𝓛 b l o

  abbrev Right : List ℕ → Fml
  Right l = Bytes 𝓛 b (drop (from' + len') l) (from' + o + len')

  part_of_first : part first from len ≡ part xs from len
  part_of_first =
      let e : from' ≡ from + (from' - from) = omega arith in
      ap (λ (k : ℕ). take len (drop from (take k xs))) e
      ∙ ap (λ (l : List ℕ). take len l) (drop-take from (from' - from) xs)
      ∙ take-take len (from' - from) (drop from xs) (omega arith)

  pub in_order : Parted 𝓛 b o xs from len from' len'
  in_order = record {
    rest = Others;
    out = qed 𝓛 (‵ (Bytes 𝓛 b xs o) ∷ []) ∵
        use1 𝓛 (‵ (Bytes 𝓛 b (part xs from' len') (from' + o)) ⊛ ‵ (Around 𝓛 b xs o from' len'))
        (part_out 𝓛 b xs o from' len' within') $ split ! $ move ! (1 ∷ []) $ fsplit ! $
        use1 𝓛 (‵ (Bytes 𝓛 b (part first from len) (from + o)) ⊛ ‵ (Around 𝓛 b first o from len))
        (part_out 𝓛 b first o from len fits) $ split ! $
        rewrite ! 0 (λ (l : List ℕ). ‵ (Bytes 𝓛 b l (from + o))) part_of_first refl $ move ! (1 ∷ 2 ∷ []) $ fjoin !
        $ move ! (1 ∷ 2 ∷ 0 ∷ []) $ done !;
    back = λ ws ws' e e'.
        let one = patched xs from ws in
        let ends : from + length ws ≤ from' = omega arith in let room : from + length ws ≤ length xs = omega arith in
        let one_fits : from' + len' ≤ length one = omega (arith, length-patched xs from ws room) in
        qed 𝓛 (‵ (Bytes 𝓛 b ws (from + o)) ∷ ‵ (Bytes 𝓛 b ws' (from' + o)) ∷ ‵ Others ∷ []) ∵ move ! (2 ∷ []) $
        fsplit ! $ move ! (2 ∷ 0 ∷ []) $
        use2 𝓛 (‵ (Left (patched first from ws))) (part_in 𝓛 b first o from len fits ws e) $ rewrite ! 0
        (λ (l : List ℕ). ‵ (Left l)) (sym (front-patched xs from ws room from' ends)) refl $
        move ! (1 ∷ []) $ rewrite ! 0 (λ (l : List ℕ).
        ‵ (Bytes 𝓛 b l (from' + o + len'))) (sym (drop-patched xs from ws room (from' + len') (omega arith))) refl $
        move ! (1 ∷ 0 ∷ []) $ fjoin ! $
        move ! (1 ∷ 0 ∷ []) $ by ! (part_in 𝓛 b one o from' len' one_fits ws' e');
  }

-- an empty part owns nothing, and the other part is split off alone
module _ {M : Type 1} {𝓤 : Ura M} (𝓛 : Logic 𝓤) (b o : ℕ) (xs : List ℕ) (from from' len' : ℕ) (within : from
    ≤ length xs) (within' : from' + len' ≤ length xs) where
  same : (ws : List ℕ) → length ws ≡ 0 → patched xs from ws ≡ xs
  same [] e = ap (λ (l : List ℕ). l ++ drop (from + 0) xs) (append-nil (take from xs))
      ∙ ap (λ (k : ℕ). take from xs ++ drop k xs) (omega arith) ∙ take-append-drop from xs
  same (w ∷ ws) e = absurd (omega (arith, e))

  pub beside_none : Parted 𝓛 b o xs from 0 from' len'
  beside_none = record {
    rest = Around 𝓛 b xs o from' len';
    out = qed 𝓛 (‵ (Bytes 𝓛 b xs o) ∷ []) ∵
        use1 𝓛 (‵ (Bytes 𝓛 b (part xs from' len') (from' + o)) ⊛ ‵ (Around 𝓛 b xs o from' len'))
        (part_out 𝓛 b xs o from' len' within') $ split ! $ nothing ! $ done !;
    back = λ ws ws' e e'.
        qed 𝓛 (‵ (Bytes 𝓛 b ws (from + o)) ∷ ‵ (Bytes 𝓛 b ws' (from' + o)) ∷ ‵ (Around 𝓛 b xs o from' len') ∷ []) ∵
        forget ! $
        use2 𝓛 (‵ (Bytes 𝓛 b (patched xs from' ws') o)) (part_in 𝓛 b xs o from' len' within' ws' e') $
        rewrite ! 0 (λ (l : List ℕ). ‵ (Bytes 𝓛 b (patched l from' ws') o)) (sym (same ws e)) refl $ done !;
  }

-- the two parts in the other order
module _ {M : Type 1} {𝓤 : Ura M} (𝓛 : Logic 𝓤) (b o : ℕ) (xs : List ℕ) (from len from' len' : ℕ)
    (within : from + len ≤ length xs) (within' : from' + len' ≤ length xs) where
  pub turned : AreDisjoint from len from' len' → Parted 𝓛 b o xs from' len' from len
      → Parted 𝓛 b o xs from len from' len'
  turned apart other = record {
    rest = other.rest;
    out = qed 𝓛 (‵ (Bytes 𝓛 b xs o) ∷ []) ∵
        use1 𝓛 (‵ (Bytes 𝓛 b (part xs from' len') (from' + o)) ⊛
        (‵ (Bytes 𝓛 b (part xs from len) (from + o)) ⊛ ‵ other.rest)) other.out $ split ! $ move ! (1 ∷ []) $ split
        ! $ move ! (0 ∷ 2 ∷ 1 ∷ []) $ done !;
    back = λ ws ws' e e'.
        let apart' : AreDisjoint from (length ws) from' (length ws') =
        subst (λ (n : ℕ). AreDisjoint from n from' (length ws')) (sym e)
        (subst (λ (n : ℕ). AreDisjoint from len from' n) (sym e') apart) in
        let same : patched (patched xs from' ws') from ws ≡ patched (patched xs from ws) from' ws' =
        sym (patched-commutes xs from ws (omega arith) from' ws' (omega arith) apart') in
        qed 𝓛 (‵ (Bytes 𝓛 b ws (from + o)) ∷ ‵ (Bytes 𝓛 b ws' (from' + o)) ∷ ‵ other.rest ∷ []) ∵ move !
        (1 ∷ 0 ∷ 2 ∷ []) $ group ! 3 $
        use1 𝓛 (‵ (Bytes 𝓛 b (patched (patched xs from' ws') from ws) o)) (other.back ws' ws e' e) $ rewrite ! 0
        (λ (l : List ℕ). ‵ (Bytes 𝓛 b l o)) same refl $ done !;
  }

  -- two disjoint parts can be split off together
  pub parted : AreDisjoint from len from' len' → Parted 𝓛 b o xs from len from' len'
  parted (inl h) = subst (λ (n : ℕ).
      Parted 𝓛 b o xs from n from' len') (sym h) (beside_none 𝓛 b o xs from from' len' (omega arith) within')
  parted (inr (inl h)) = turned (inr (inl h))
      (subst (λ (n : ℕ). Parted 𝓛 b o xs from' n from len) (sym h)
      (beside_none 𝓛 b o xs from' from len (omega arith) within))
  parted (inr (inr (inl h))) = in_order 𝓛 b o xs from len from' len' within' h
  parted (inr (inr (inr h))) = turned (inr (inr (inr h))) (in_order 𝓛 b o xs from' len' from len within h)
