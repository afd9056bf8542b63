-- RULES 10.2: the word that a cell gets. A byte is its ASCII code. Assumes nothing.
use Rattle.std.specs.Prelude.{cond, ◌||◌, List, ◌∷◌, ℕ, suc, eqb, ℤ, pos, negsuc}
use Rattle.text.specs.Bytes.{bytes}
use Rattle.text.specs.Heights.{same}
use Rattle.text.specs.Quantities.{no_data_height}
use Rattle.factor.specs.Cell.{too_long}
use Rattle.factor.specs.Grid.{no_data_factor}
use Rattle.numerals.specs.Words.{decimal, fixed}

-- NoData and too long are both -9999
unfoldable pub none : List ℕ
unfolding bytes
none = bytes "-9999"

-- so many cm in metres, with two decimals, and a minus, 45, in front of a number below 0
unfoldable pub metres : ℤ → List ℕ
unfolding fixed
metres (pos n) = fixed 2 n
metres (negsuc n) = 45 ∷ fixed 2 (suc n)

-- heights have two decimals; NoData is height -999,900
unfoldable pub height_word : ℤ → List ℕ
unfolding none metres
height_word z = cond (same z no_data_height) none (metres z)

-- counts have none; NoData is count 0
unfoldable pub count_word : ℕ → List ℕ
unfolding none decimal
count_word n = cond (eqb n 0) none (decimal n)

-- nor have directions, which are their codes; NoData is code 255
unfoldable pub direction_word : ℕ → List ℕ
unfolding none decimal
direction_word code = cond (eqb code 255) none (decimal code)

-- LS has five; NoData is LS 4,294,967,295, and too long 4,294,967,294
unfoldable pub factor_word : ℕ → List ℕ
unfolding none fixed
factor_word n = cond (eqb n no_data_factor || eqb n too_long) none (fixed 5 n)
