-- What the code of a line puts into the buffer at once.
use Rattle.std.specs.Prelude.{ℕ, List, [], ◌∷◌, ◌++◌}
use Rattle.text_buffer.specs.Text.{decimal}

-- n in decimal and the byte that ends it
unfoldable pub field : ℕ → ℕ → List ℕ
field n end = decimal n ++ (end ∷ [])
