-- A proof split on a verdict. Assumes nothing.
use mathlib.Core.Path.{◌≡◌, refl}
use Rattle.std.specs.Prelude.{Ok, Err}
use Rattle.design.specs.declared.Refusal.{Refusal}
use Rattle.design.specs.Refusals.{Verdict}

pub by-verdict : {A : Type 0} (v : Verdict) → (v ≡ Ok tt → A) → ((r : Refusal) → v ≡ Err r → A) → A
by-verdict (Ok tt) f g = f refl
by-verdict (Err r) f g = g r refl
