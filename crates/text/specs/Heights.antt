-- RULES 2.4: the heights and the end. Assumes nothing.
use Rattle.std.specs.Prelude.{ℕ, zero, suc, ◌*◌, Bool, cond, ◌&&◌, ◌||◌, List, [], ◌∷◌, eqb, ℤ}
use Rattle.std.specs.Int.Signed.{le_z}
use Rattle.text.specs.Quantities.{height_in, no_data_height}
use Rattle.text.specs.Reader.{Step, Reader, got, refused, ◌>>=◌, ◌>>◌, give, check}
use Rattle.text.specs.Words.{Word, word}
use Rattle.text.specs.Numbers.{measure}
use Rattle.text.specs.Headers.{Header, header}

abbrev pub same : ℤ → ℤ → Bool
same a b = le_z a b && le_z b a

-- A height equal to the NoData number n is NoData and becomes -999,900; that test precedes the range.
-- 9, 12, 7, 8, then 5: height out of range and not NoData
unfoldable pub height : ℤ → Reader ℤ
height n = do
  m ← measure
  check (same m.is n || height_in m.is) 5 m.place
  give (cond (same m.is n) no_data_height m.is)

-- k heights, one after the other
unfoldable pub heights : ℤ → ℕ → Reader (List ℤ)
heights n zero = give []
heights n (suc k) = do
  h ← height n
  hs ← heights n k
  give (h ∷ hs)

abbrev pub ended : ℕ → Step Word → Step Unit
ended i (got w j) = refused 10 w.start
ended i (refused n p) = got tt i

-- 10: a word after the last height
unfoldable pub end : Reader Unit
end s i = ended i (word s i)

-- a header that stands alone in its text: 10 for a word after it
unfoldable pub lone_header : Reader Header
lone_header = do
  h ← header
  end
  give h

-- what follows the header h, with k heights lent. The lent length is tested right after the header.
-- 2: a lent grid is not exactly rows times columns long
unfoldable pub body : Header → ℕ → Reader (List ℤ)
body h k = do
  check (eqb k (h.rows * h.columns)) 2 0
  hs ← heights h.no_data k
  end
  give hs

pub record Grid : Type 0 where
  pub header : Header
  pub heights : List ℤ

-- the whole text, with k heights lent
unfoldable pub grid : ℕ → Reader Grid
grid k = do
  h ← header
  hs ← body h k
  give (record { header = h; heights = hs })
