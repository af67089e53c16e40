-- The promises of opening, of writing back and of the sizes: those of the calls below, on the shelf value in the lent bytes.
use Rattle.std.specs.Prelude.{◌≡◌, cond, List, ℕ, ◌*◌}
use Rattle.std.specs.Prelude.{Result}
use Rattle.design.specs.declared.Refusal.{Refusal}
use Rattle.design.specs.declared.Shelf.{Shelf}
use Rattle.design.specs.Refusals.{number_given}
use Rattle.design.specs.Sheet.{sheet_length, opened}
use Rattle.design.specs.Shelf.{is_shelf, WroteBack}
use Rattle.host.specs.Value.{shelf_in, shelf_into}
use Rattle.host.specs.Answers.{Told, Into}

abbrev pub HostOpened : List ℕ → List ℕ → ℕ → List ℕ → Type 0
HostOpened sheet out r out' =
    Into 520 out r (out' ≡ out)
    ((r ≡ number_given (opened sheet)) × (out' ≡ shelf_into (opened sheet) out))

abbrev pub HostWroteBack : List ℕ → List ℕ → ℕ → List ℕ → Type 0
HostWroteBack value buffer r buffer' =
    Told (λ (x : Result ℕ Refusal). WroteBack (shelf_in value) buffer x buffer') (λ (x : Result ℕ Refusal). r ≡ number_given x)

-- a size of the shelf; 0 where the bytes are none
abbrev pub sized : (Shelf → ℕ) → List ℕ → ℕ
sized f value = cond (is_shelf (shelf_in value)) (f (shelf_in value)) 0

abbrev pub sheet_size : Shelf → ℕ
sheet_size h = sheet_length (h.b * h.k)
