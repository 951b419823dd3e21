-- A fresh segment has only objects that stand in an image, as it has none; and how a salvage ends.
use Rattle.std.proofs.Common.{◌≡◌, ◌+◌, ◌<◌, ◌++◌, ℕ, suc, List, [], ◌∷◌, length, take, get_or, Result, Ok, Err}
use Rattle.std.proofs.Common.{MatchResult, Some, inl, inr, refl, sym, ap, subst, ◌∙◌, arith, append_assoc}
use Rattle.std.specs.List.{flat_map}
use Rattle.std.proofs.Math.Seq.{take-suc}
use Rattle.std.proofs.lemmas.List.{append-nil}
use Rattle.std.proofs.lemmas.Grind.{flat_map-append}
use Rattle.raw_region.specs.Device.{ReadDelta, WriterHistory, Writes}
use Rattle.segment_manager.specs.State.{SegmentState}
use Rattle.segment_cli.specs.Reports.{WritesText}
use Rattle.segment_cli.specs.declared.faults.SessionFault.{SessionFault}
use Rattle.segment_cli.specs.declared.faults.SessionFault.TheVariants.{BadSize}
use Rattle.segment_disk.specs.Events.{Event, Opened, Read}
use Rattle.segment_salvage.specs.Standing.{AllStand, IsSalvaged}
use Rattle.segment_commands.specs.Commands.{MakesSegment}
use Rattle.segment_commands.specs.Loading.{IsReadWhole, IsWhyUnread}
use Rattle.segment_commands.specs.Salvaging.{ReadsFile}

-- a segment that was made is no error
is_made : (s : SegmentState) (fault : SessionFault) → ◌≡◌ {A = Result SegmentState SessionFault} (Ok s) (Err fault) → ⊥
is_made s fault e = cc

-- an empty segment that was made has no object that does not stand in the image
pub fresh_salvaged : (image : List ℕ) (size : ℕ) (s : SegmentState) → MakesSegment size (Ok s) → IsSalvaged image s
fresh_salvaged image size s (inl x) = absurd (is_made s BadSize x.refused)
fresh_salvaged image size s (inr m) =
    let ok = m.answers.starts.answers in
    record {
      directory = ok.from;
      denotes = ok.stands;
      all = subst (AllStand image) (sym ok.begins.1) tt;
    }

-- a text that was written or not
pub written_text : {A E : Type 0} (old new : WriterHistory) (result : Result A E) (text : List ℕ)
    → Writes old new result text → WritesText old new text
written_text old new (Ok a) text w = let counted = w.counted in inl (omega (arith, counted), w.ok)
written_text old new (Err e) text w = inr (w.counted, w.err)

-- the texts of one element more
pub texts-more : {X : Type 0} (f : X → List ℕ) (xs : List X) (i : ℕ) (d : X) (old mid new : List ℕ) → i < length xs
    → mid ≡ old ++ flat_map f (take i xs) → new ≡ mid ++ f (get_or xs i d)
    → new ≡ old ++ flat_map f (take (i + 1) xs)
texts-more f xs i d old mid new h e more =
    let x = get_or xs i d in
    let next : i + 1 ≡ suc i = omega arith in
    let texts : flat_map f (take (i + 1) xs) ≡ flat_map f (take i xs) ++ f x =
    ap (λ n. flat_map f (take n xs)) next ∙ ap (flat_map f) (take-suc xs i d h)
    ∙ flat_map-append f (take i xs) (x ∷ []) ∙ ap (λ l. flat_map f (take i xs) ++ l) (append-nil (f x)) in
    more ∙ ap (λ l. l ++ f x) e ∙ append_assoc old (flat_map f (take i xs)) (f x) ∙ ap (λ l. old ++ l) (sym texts)

-- a file that was opened was read and closed
pub read_opened : {V D : Type 0} (result : Result V SessionFault) (bytes : V → List ℕ) (step : D → Event → D → Type 0)
    (old mid new : D) (path : List ℕ) (len : ℕ) (image : ReadDelta) → step old (Opened path (Some len)) mid
    → step mid (Read image) new → MatchResult result (λ v. IsReadWhole image (bytes v)) (IsWhyUnread image)
    → MatchResult result (λ v. ReadsFile step old new path (Ok (bytes v)))
    (λ fault. ReadsFile step old new path (Err fault))
read_opened (Ok v) bytes step old mid new path len image opened closed m = inr (record {
  len = len;
  image = image;
  asked = (mid, opened, (new, closed, refl));
  answer = m;
})
read_opened (Err fault) bytes step old mid new path len image opened closed m = inr (record {
  len = len;
  image = image;
  asked = (mid, opened, (new, closed, refl));
  answer = m;
})
