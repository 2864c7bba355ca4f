-- The errors are read back from the bytes of the diagnostics, where their numbers have 32 bits. Assumes nothing.
use Prim.Native.Nat.{ℕ, zero, suc, ◌+◌, ◌*◌, ◌≤◌}
use native.Mathlib.Omega.{arith}
use mathlib.Core.Bool.{Bool, true, false, true≢false}
use mathlib.Core.List.{List, [], ◌∷◌, ◌++◌}
use mathlib.Core.Path.{◌≡◌, refl, ap, ◌∙◌}
use lib.ListN.{length, get_or, drop}
use lib.Dec.{eqb, eqb-suc-zero}
use Rattle.rules.specs.Outcome.{choose}
use Rattle.rules.specs.Numbers.{number_at, numbers_at, number_bytes, numbers_bytes, mark_bytes, record_bytes}
use Rattle.rules.specs.Records.{span_numbers, span_in}
use Rattle.rules.specs.Range.{Numbers}
use Rattle.rules.specs.Writing.{Level, error, warning, level_number}
use Rattle.rules.proofs.Spelling.{numbers_back}
use Rattle.claim_scope.specs.StaticCheck.{Found, Diagnostic, diagnostic_bytes, diagnostics_bytes, if_error, errors_among, diagnostic_numbers, found_in, said_before, errors_from, errors_in}

unfoldable pub FoundsFit : List Found → Type 0
FoundsFit [] = Unit {0}
FoundsFit (f ∷ fs) = Numbers (f.code ∷ f.name ∷ span_numbers f.span) × FoundsFit fs

one_read : (f : Found) (rest : List ℕ) → Numbers (f.code ∷ f.name ∷ span_numbers f.span)
    → numbers_at (diagnostic_bytes (record { level = error; found = f }) ++ rest) diagnostic_numbers 2 ≡ 0 ∷ f.code ∷ f.name ∷ span_numbers f.span
unfolding diagnostic_bytes record_bytes mark_bytes numbers_bytes number_bytes span_numbers level_number Numbers
one_read f rest small = numbers_back {q = 18} (0 ∷ f.code ∷ f.name ∷ span_numbers f.span) (omega arith, small) (record { split = refl; ends = refl })

rest_left : (d : Diagnostic) (rest : List ℕ) → drop (2 + 4 * diagnostic_numbers) (diagnostic_bytes d ++ rest) ≡ rest
unfolding diagnostic_bytes record_bytes mark_bytes numbers_bytes number_bytes span_numbers
rest_left d rest = refl

not_empty : (d : Diagnostic) (rest : List ℕ) → eqb (length (diagnostic_bytes d ++ rest)) 0 ≡ false
unfolding diagnostic_bytes record_bytes mark_bytes numbers_bytes number_bytes span_numbers
not_empty d rest = eqb-suc-zero (length (drop 1 (diagnostic_bytes d ++ rest)))

said : (l : Level) (f : Found) (rest : List ℕ) (fs : List Found) → (l ≡ error → Numbers (f.code ∷ f.name ∷ span_numbers f.span))
    → said_before (numbers_at (diagnostic_bytes (record { level = l; found = f }) ++ rest) diagnostic_numbers 2) fs ≡ if_error l f fs
unfolding said_before if_error choose found_in span_in span_numbers diagnostic_bytes record_bytes mark_bytes numbers_bytes number_bytes level_number numbers_at number_at
said error f rest fs small = ap (λ (ns : List ℕ). choose (eqb (get_or ns 0 0) 0) (λ _. found_in ns ∷ fs) (λ _. fs)) (one_read f rest (small refl)) ∙ here
  where
    here : choose (eqb 0 0) (λ _. found_in (0 ∷ f.code ∷ f.name ∷ span_numbers f.span) ∷ fs) (λ _. fs) ≡ f ∷ fs
    here = refl
said warning f rest fs small = refl

-- what is among them is small, so the first is if it is an error
first_fits : (l : Level) (f : Found) (fs : List Found) → FoundsFit (if_error l f fs) → l ≡ error → Numbers (f.code ∷ f.name ∷ span_numbers f.span)
unfolding if_error FoundsFit
first_fits error f fs h e = h.0
first_fits warning f fs h e = absurd (true≢false (ap is_warning e))
  where
    is_warning : Level → Bool
    is_warning error = false
    is_warning warning = true

others_fit : (l : Level) (f : Found) (fs : List Found) → FoundsFit (if_error l f fs) → FoundsFit fs
unfolding if_error FoundsFit
others_fit error f fs h = h.1
others_fit warning f fs h = h

read_from : (n : ℕ) (ds : List Diagnostic) → length ds ≤ n → FoundsFit (errors_among ds) → errors_from n (diagnostics_bytes ds) ≡ errors_among ds
unfolding errors_from diagnostics_bytes errors_among choose
read_from zero [] le fits = refl
read_from zero (d ∷ ds) le fits = absurd (omega arith)
read_from (suc n) [] le fits = refl
read_from (suc n) (d ∷ ds) le fits =
    ap (λ (t : Bool). choose t (λ _. []) (λ _. said_before (numbers_at (diagnostic_bytes d ++ diagnostics_bytes ds) diagnostic_numbers 2) (errors_from n (drop (2 + 4 * diagnostic_numbers) (diagnostic_bytes d ++ diagnostics_bytes ds)))))
    (not_empty d (diagnostics_bytes ds))
    ∙ ap (λ (s : List ℕ). said_before (numbers_at (diagnostic_bytes d ++ diagnostics_bytes ds) diagnostic_numbers 2) (errors_from n s)) (rest_left d (diagnostics_bytes ds))
    ∙ ap (said_before (numbers_at (diagnostic_bytes d ++ diagnostics_bytes ds) diagnostic_numbers 2)) (read_from n ds (omega arith) (others_fit d.level d.found (errors_among ds) fits))
    ∙ said d.level d.found (diagnostics_bytes ds) (errors_among ds) (first_fits d.level d.found (errors_among ds) fits)

bytes_enough : (ds : List Diagnostic) → length ds ≤ length (diagnostics_bytes ds)
unfolding diagnostics_bytes diagnostic_bytes record_bytes mark_bytes numbers_bytes number_bytes span_numbers
bytes_enough [] = omega arith
bytes_enough (d ∷ ds) = let k = bytes_enough ds in omega (arith, k)

pub read_back : (ds : List Diagnostic) → FoundsFit (errors_among ds) → errors_in (diagnostics_bytes ds) ≡ errors_among ds
unfolding errors_in
read_back ds fits = read_from (length (diagnostics_bytes ds)) ds (bytes_enough ds) fits
