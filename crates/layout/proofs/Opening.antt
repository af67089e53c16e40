-- What opening a sheet starts with: its shelf, or the number of its refusal. Assumes nothing.
use mathlib.Core.Path.{◌≡◌}
use mathlib.Core.List.{List}
use Prim.Native.Nat.{ℕ}
use Rattle.std.specs.Prelude.{Result, Ok, Err}
use Rattle.design.specs.declared.Refusal.{Refusal}
use Rattle.design.specs.declared.Shelf.{Shelf}
use Rattle.design.specs.Refusals.{number_given}
use Rattle.design.specs.Sheet.{opened}
use Rattle.placement.specs.Layout.{layout_in, stripes}
use Rattle.layout.specs.declared.Start.{Start}
use Rattle.layout.specs.Calls.{started_by, started}

module _ (s : List ℕ) where
  pub started_accepted : {h : Shelf} {n : ℕ} → opened s ≡ Ok h → n ≡ stripes (layout_in h) → ◌≡◌ {A = Result Start ℕ} (Ok (record { shelf = h; stripes = n })) (started s)
  unfolding started started_by
  started_accepted e m = rw (e, m)

  pub started_refused : {x : Refusal} {n : ℕ} → opened s ≡ Err x → n ≡ number_given (opened s) → ◌≡◌ {A = Result Start ℕ} (Err n) (started s)
  unfolding started started_by
  started_refused e m = rw (m, e)
