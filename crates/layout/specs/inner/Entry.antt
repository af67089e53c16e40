-- What the code's steps write: a place by the ranks of a shelf's entries.
use Rattle.std.specs.Prelude.{List, ◌∷◌, ◌++◌, ℕ, ◌+◌, get_or}
use Rattle.layout.specs.declared.write.Rows.{Rows}
use Rattle.layout.specs.Text.{colon, decimal, spaced}

-- that of an entry, where `base` units are before those of its copy
unfoldable pub entry_word : Rows → ℕ → ℕ → List ℕ
entry_word rows base entry = spaced (decimal (get_or rows.checked.shelf.now.table entry 0)) ++ colon ∷ decimal (base + get_or rows.ranks entry 0)
