-- RULES 11.3: a grid of floats with its header beside it, and the answer of the call that reads it. Assumes nothing.
use Rattle.std.specs.Prelude.{ℕ, ◌*◌, not, cond, ◌||◌, List, ltb, eqb, ℤ, length}
use Rattle.laws.specs.Lists.{tab}
use Rattle.laws.specs.First.{first_of}
use Rattle.text.specs.Quantities.{height_in, no_data_height}
use Rattle.text.specs.Reader.{Reader, ◌>>=◌, ◌>>◌, give, check}
use Rattle.text.specs.Headers.{Header}
use Rattle.text.specs.Heights.{Grid, lone_header}
use Rattle.text.specs.Answers.{GridOutcome, grid_outcome}
use Rattle.floats.specs.Floats.{magnitude, finite, equal, bits_at}
use Rattle.floats.specs.Rounding.{cm, nearest_float}

-- A float equal to the float nearest the header's NoData number is NoData; v is that float.
unfoldable pub height_of : ℕ → ℕ → ℤ
unfolding equal cm
height_of v b = cond (equal b v) no_data_height (cm b)

-- 15: NaN or infinite. 5: out of range after rounding, and not NoData. 0: neither
unfoldable pub fault_of : ℕ → ℕ → ℕ
unfolding finite equal cm
fault_of v b = cond (finite (magnitude b)) (cond (equal b v || height_in (cm b)) 0 5) 15

-- the first of k cells with a fault; k where there is none
unfoldable pub first_fault : ℕ → List ℕ → ℕ → ℕ
unfolding first_of fault_of bits_at
first_fault v floats k = first_of (λ x. not (eqb (fault_of v (bits_at floats x)) 0)) k

-- Cell by cell, and the first fault decides; place: the cell index
unfoldable pub cells : ℕ → List ℕ → ℕ → Reader (List ℤ)
unfolding first_fault fault_of bits_at height_of tab
cells v floats k =
    let x = first_fault v floats k in
    check (not (ltb x k)) (fault_of v (bits_at floats x)) x
    >> give (tab k (λ x. height_of v (bits_at floats x)))

-- what the floats say by the header h, with k heights lent. 2: the lent heights are not one per cell; 14: the bytes are not four per cell; then 15 and 5
unfoldable pub body : Header → List ℕ → ℕ → Reader (List ℤ)
unfolding nearest_float cells
body h floats k = do
  check (eqb k (h.rows * h.columns)) 2 0
  check (eqb (length floats) (4 * k)) 14 0
  cells (nearest_float h.no_data) floats k

abbrev pub grid_with : Header → List ℕ → ℕ → Reader Grid
grid_with h floats k = do
  hs ← body h floats k
  give (record { header = h; heights = hs })

-- the header's text: the refusals of the header call, and 10 for a word after the header; then the floats
unfoldable pub grid : List ℕ → ℕ → Reader Grid
unfolding lone_header body
grid floats k = do
  h ← lone_header
  grid_with h floats k

-- It answers as the text reader does. A refusal changes no lent grid.
abbrev pub floats_answer : List ℤ → List ℕ → List ℕ → GridOutcome
floats_answer lent header floats = grid_outcome lent (grid floats (length lent) header 0)
