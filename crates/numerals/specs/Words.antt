-- RULES 9.2 and 10.2: how numbers are written, and how words make a line. A byte is its ASCII code. Assumes nothing.
use Rattle.std.specs.Prelude.{true, false, List, [], ◌∷◌, ◌++◌, ℕ, zero, suc, ◌+◌, ◌/◌, ◌%◌, ◌^◌, ltb, ℤ, pos, negsuc}

-- the last k digits of n at most, the most significant first, with no needless zero
unfoldable pub digits : ℕ → ℕ → List ℕ
digits zero n = []
digits (suc k) n = elim (ltb n 10) [ true ↦ (48 + n) ∷ [] | false ↦ digits k (n / 10) ++ ((48 + n % 10) ∷ []) ]

-- n in decimal digits; it has no more of them than n + 1
unfoldable pub decimal : ℕ → List ℕ
unfolding digits
decimal n = digits (suc n) n

-- the same with a minus, 45, in front of a number below 0
unfoldable pub integer : ℤ → List ℕ
unfolding decimal
integer (pos n) = decimal n
integer (negsuc n) = 45 ∷ decimal (suc n)

-- the last k digits of n, zeros too
unfoldable pub padded : ℕ → ℕ → List ℕ
padded zero n = []
padded (suc k) n = padded k (n / 10) ++ ((48 + n % 10) ∷ [])

-- n in units of the k-th decimal: with a point, 46, before its last k digits, and no needless zero before the point
unfoldable pub fixed : ℕ → ℕ → List ℕ
unfolding decimal padded
fixed k n = decimal (n / 10 ^ k) ++ (46 ∷ padded k n)

-- one space between two words, LF after each line
unfoldable pub line : List (List ℕ) → List ℕ
line [] = 10 ∷ []
line (w ∷ []) = w ++ (10 ∷ [])
line (w ∷ v ∷ ws) = w ++ (32 ∷ line (v ∷ ws))
