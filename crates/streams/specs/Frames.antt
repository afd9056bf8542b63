-- The frames of a stream of texts. Assumes nothing.
use Rattle.std.specs.Prelude.{◌≡◌, ℕ, List, ◌∷◌, ◌++◌, length}
use Rattle.std.specs.Str.Parse.{IsNumeral, digits_value}

-- the stream begins with a frame, and the rest follows it: the text's length in decimal digits, a line end (10), and the text
abbrev pub Framed : List ℕ → List ℕ → List ℕ → Type 0
Framed stream text rest =
    (digits : List ℕ) × IsNumeral 10 digits × (length text ≡ digits_value 10 digits) × (stream ≡ digits ++ (10 ∷ (text ++ rest)))
