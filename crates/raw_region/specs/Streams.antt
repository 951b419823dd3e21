-- Readers and writers that wrap others, in contracts.
use Rattle.std.specs.Prelude.{ℕ, Bool, List, refl}
use Rattle.raw_region.specs.Device.{ReaderHistory, WriterHistory}
use Rattle.std.specs.Coded.{Coded, code_by, coded×, coded_ℕ, coded_bool, coded_list}

-- a reader that wraps another: the inner reader as it is now, and the history of the outer one
pub record GaveFrom (R : Type 0) : Type 0 where
  pub inner : R
  pub history : ReaderHistory

-- a writer that wraps another: the inner writer as it is now, and the history of the outer one
pub record TookTo (W : Type 0) : Type 0 where
  pub inner : W
  pub history : WriterHistory

-- the code (`Coded`) of the state of a reader that wraps another
abbrev pub gave_from_code : {R : Type 0} → Coded R → Coded (GaveFrom R)
gave_from_code {R} r =
    code_by (R × (List ℕ × (Bool × (ℕ × ℕ))))
    (coded× r (coded× (coded_list coded_ℕ) (coded× coded_bool (coded× coded_ℕ coded_ℕ))))
    (λ g. (g.inner, (g.history.bytes, (g.history.ended, (g.history.ends, g.history.failures)))))
    (λ p. record {
      inner = p.0;
      history = record { bytes = p.1.0; ended = p.1.1.0; ends = p.1.1.1.0; failures = p.1.1.1.1 };
    })
    (λ _. refl)

abbrev pub took_to_code : {W : Type 0} → Coded W → Coded (TookTo W)
took_to_code {W} w =
    code_by (W × (List ℕ × ℕ)) (coded× w (coded× (coded_list coded_ℕ) coded_ℕ))
    (λ t. (t.inner, (t.history.bytes, t.history.failures)))
    (λ p. record { inner = p.0; history = record { bytes = p.1.0; failures = p.1.1 } }) (λ _. refl)
