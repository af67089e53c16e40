-- Document 01, "Designs with known answers": sheet B, and all that the layout program prints for it.
use Rattle.std.specs.Prelude.{List, [], ◌∷◌, ℕ}

-- v 2, k 2, tuple 0 1, T 1, u 0
unfoldable pub sheet_b : List ℕ
sheet_b = 16 ∷ 66 ∷ 0 ∷ 16 ∷ 0 ∷ 16 ∷ 0 ∷ 16 ∷ []

-- 2 2 1 1 1 1 1, then 0 1:0 0:0, then 1 0:1 1:1
unfoldable pub text_b : List ℕ
text_b =
    50 ∷ 32 ∷ 50 ∷ 32 ∷ 49 ∷ 32 ∷ 49 ∷ 32 ∷ 49 ∷ 32 ∷ 49 ∷ 32 ∷ 49 ∷ 10
    ∷ 48 ∷ 32 ∷ 49 ∷ 58 ∷ 48 ∷ 32 ∷ 48 ∷ 58 ∷ 48 ∷ 10
    ∷ 49 ∷ 32 ∷ 48 ∷ 58 ∷ 49 ∷ 32 ∷ 49 ∷ 58 ∷ 49 ∷ 10
    ∷ []
