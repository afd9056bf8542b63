-- Laws of a whole sheet: each of the top call's ways out writes what the definition says. Assumes nothing.
use mathlib.Core.Path.{◌≡◌, refl, sym, ap, ap₂, ◌∙◌}
use mathlib.Core.Bool.{Bool, true, false, true≢false}
use mathlib.Core.List.{List, [], ◌∷◌}
use Prim.Native.Nat.{ℕ, zero, suc, ◌*◌, ◌≤◌, ◌<◌}
use native.Mathlib.Omega.{arith}
use borrow.Author.Tests.{eq-eqb, ne_eqb, lt-ltb, le-ltb}
use lib.IntN.{ℤ, pos, nat_abs}
use lib.ListN.{length, take, replicate, length-replicate}
use Rattle.laws.specs.Tests.{Test, passed, failed}
use Rattle.laws.proofs.Verdicts.{verdict-passed}
use Rattle.settings.specs.declared.Settings.{Settings}
use Rattle.settings.specs.Settings.{settings_test}
use Rattle.std.specs.Prelude.{Result, Ok, Err}
use Rattle.text.specs.Answers.{Outcome, GridOutcome, header_answer, grid_answer, head_outcome_of, grid_outcome_of}
use Rattle.text.specs.Faults.{number_of}
use Rattle.text.specs.declared.Header.{Header}
use Rattle.text.specs.declared.Head.{Head}
use Rattle.text.specs.declared.Refusal.{Refusal}
use Rattle.text.proofs.FaultNumbers.{number-some}
use Rattle.text.proofs.Sizes.{header-few}
use Rattle.text.specs.Ranges.{size_test, length_test, side_test, height_test}
use Rattle.text.proofs.Accepted.{size_is, size-passed}
use Rattle.terrain.specs.Answers.{ground_directions}
use Rattle.terrain.specs.declared.Source.TheVariants.{Own}
use Rattle.factor.specs.Farms.{one}
use Rattle.factor.specs.Answers.{Grids, places_of, early_tests, first_tests, tests, judged, answer_of, answer, after, told, accepts}
use Rattle.terrain.specs.declared.Summary.{Summary}
use Rattle.sheet.specs.Lines.{refusal_line, grids_of, map_lines}
use Rattle.sheet.specs.Sheet.{lines_or, map_sheet, grid_sheet, zeros, head_sheet, sheet_of}

-- ---- an accepted call, and a refused one

lines-yes : (number place : ℕ) (lines : List ℕ) → number ≡ 0 → lines_or number place lines ≡ lines
unfolding lines_or
lines-yes number place lines h = ap (λ (b : Bool). elim b [ true ↦ lines | false ↦ refusal_line number place ]) (eq-eqb number 0 h)

lines-no : (number place : ℕ) (lines : List ℕ) → (number ≡ 0 → ⊥) → lines_or number place lines ≡ refusal_line number place
unfolding lines_or
lines-no number place lines h = ap (λ (b : Bool). elim b [ true ↦ lines | false ↦ refusal_line number place ]) (ne_eqb number 0 h)

-- ---- the map call

module _ (rows columns side : ℕ) (settings : Settings) (elevation : List ℤ) (g : Grids) where
  passed-size : judged rows columns side (one settings) Own elevation g ≡ passed → size_test rows columns ≡ passed
  unfolding judged tests first_tests early_tests
  passed-size j = (verdict-passed (size_test rows columns) (length_test (rows * columns)
      (places_of elevation g) ∷ side_test side ∷ settings_test settings ∷ height_test (rows * columns) elevation ∷ []) j).0

  -- a map that is accepted has columns
  accepted-columns : accepts (answer rows columns side (one settings) Own elevation g) ≡ true → 0 < columns
  unfolding answer answer_of
  accepted-columns = go (judged rows columns side (one settings) Own elevation g) refl
    where
      go : (t : Test) → judged rows columns side (one settings) Own elevation g ≡ t →
          accepts (answer_of rows columns elevation (ground_directions rows columns elevation) t) ≡ true → 0 < columns
      go passed j y = omega (arith, (size_is columns (size-passed rows columns (passed-size j)).1).0)
      go (failed number place) j y = absurd (true≢false (sym y))

module _ (rows columns side : ℕ) (settings : Settings) (elevation : List ℤ) (g : Grids) {r : Result Summary Refusal}
    (e : r ≡ answer rows columns side (one settings) Own elevation g) where
  -- what an answer comes to with the grids m
  abbrev answered : Grids → Result Summary Refusal → List ℕ
  answered m a =
      lines_or (told a).number (told a).place
      (map_lines (record { rows = rows; columns = columns; side = side; valid = (told a).valids; longest = (told a).longest })
      (grids_of elevation m.filled m.direction m.count m.lengths m.factors))

  sheet-is : answered (after rows columns side (one settings) Own elevation g) (answer rows columns side (one settings) Own elevation g)
      ≡ map_sheet rows columns side settings elevation g
  unfolding map_sheet
  sheet-is = refl

  pub map-refused : (f : Refusal) → r ≡ Err f → refusal_line (number_of f.fault) f.place ≡ map_sheet rows columns side settings elevation g
  map-refused f h =
      let m = after rows columns side (one settings) Own elevation g in
      let line : refusal_line (number_of f.fault) f.place ≡ answered m (Err f) = sym (lines-no (number_of f.fault) f.place _ (number-some f.fault)) in
      line ∙ ap (answered m) (sym h ∙ e) ∙ sheet-is

  pub map-printed : (s : Summary) → r ≡ Ok s → (m : Grids) → m ≡ after rows columns side (one settings) Own elevation g →
      map_lines (record { rows = rows; columns = columns; side = side; valid = s.valid; longest = s.longest })
      (grids_of elevation m.filled m.direction m.count m.lengths m.factors) ≡ map_sheet rows columns side settings elevation g
  map-printed s h m f =
      let lines : map_lines (record { rows = rows; columns = columns; side = side; valid = s.valid; longest = s.longest })
      (grids_of elevation m.filled m.direction m.count m.lengths m.factors) ≡ answered m (Ok s) = sym (lines-yes 0 0 _ refl) in
      lines ∙ ap₂ answered f (sym h ∙ e) ∙ sheet-is

  pub map-columns : (s : Summary) → r ≡ Ok s → 0 < columns
  map-columns s h = accepted-columns rows columns side settings elevation g (ap accepts (sym e ∙ h))

-- ---- the reader call

module _ (rows columns side : ℕ) (settings : Settings) (text : List ℕ) (heights : List ℤ) (g : Grids) where
  -- what the reader's answer comes to
  abbrev mapped : GridOutcome → List ℕ
  mapped a = lines_or a.answer.number a.answer.place (map_sheet rows columns side settings a.heights g)

  grid-is : mapped (grid_answer heights text) ≡ grid_sheet rows columns side settings text heights g
  unfolding grid_sheet
  grid-is = refl

  module _ {r : Result Header Refusal} {elevation : List ℤ} (e : grid_outcome_of r elevation ≡ grid_answer heights text) where
    pub grid-refused : (f : Refusal) → r ≡ Err f → refusal_line (number_of f.fault) f.place ≡ grid_sheet rows columns side settings text heights g
    grid-refused f h =
        let line : refusal_line (number_of f.fault) f.place ≡ mapped (grid_outcome_of (Err f) elevation) = sym (lines-no (number_of f.fault) f.place _ (number-some f.fault)) in
        line ∙ ap mapped (sym (ap (λ (x : Result Header Refusal). grid_outcome_of x elevation) h) ∙ e) ∙ grid-is

    pub grid-printed : (h : Header) → r ≡ Ok h → map_sheet rows columns side settings elevation g ≡ grid_sheet rows columns side settings text heights g
    grid-printed x h =
        let lines : map_sheet rows columns side settings elevation g ≡ mapped (grid_outcome_of (Ok x) elevation) = sym (lines-yes 0 0 _ refl) in
        lines ∙ ap mapped (sym (ap (λ (x : Result Header Refusal). grid_outcome_of x elevation) h) ∙ e) ∙ grid-is

-- ---- the number of cells, the header and the text's length

module _ (rows columns side : ℕ) (settings : Settings) (text : List ℕ) where
  abbrev by_size : Bool → List ℕ
  by_size b =
      elim b [
        | true ↦ refusal_line 11 0
        | false ↦ grid_sheet rows columns side settings text (replicate (rows * columns) (pos 0)) (zeros (rows * columns))
      ]

  cells-many : 2048 < rows * columns → head_sheet rows columns side settings text ≡ refusal_line 11 0
  unfolding head_sheet
  cells-many h = ap by_size (lt-ltb 2048 (rows * columns) h)

  cells-few : rows * columns ≤ 2048 → head_sheet rows columns side settings text ≡ grid_sheet rows columns side settings text
      (replicate (rows * columns) (pos 0)) (zeros (rows * columns))
  unfolding head_sheet
  cells-few h = ap by_size (le-ltb 2048 (rows * columns) h)

module _ (settings : Settings) (text : List ℕ) where
  -- what a header's answer comes to
  abbrev headed : Outcome → List ℕ
  headed h = lines_or h.number h.place (head_sheet h.rows h.columns (nat_abs h.side) settings text)

  abbrev by_length : Bool → List ℕ
  by_length b = elim b [ true ↦ refusal_line 11 32768 | false ↦ headed (header_answer text) ]

  pub text-long : 32768 < length text → refusal_line 11 32768 ≡ sheet_of text settings
  unfolding sheet_of
  text-long h = sym (ap by_length (lt-ltb 32768 (length text) h))

  text-short : length text ≤ 32768 → sheet_of text settings ≡ headed (header_answer text)
  unfolding sheet_of
  text-short h = ap by_length (le-ltb 32768 (length text) h)

  module _ (short : length text ≤ 32768) {r : Result Head Refusal} (e : head_outcome_of r ≡ header_answer text) where
    head-is : (x : Result Head Refusal) → r ≡ x → headed (head_outcome_of x) ≡ sheet_of text settings
    head-is x h = ap headed (sym (ap head_outcome_of h) ∙ e) ∙ sym (text-short short)

    pub head-refused : (f : Refusal) → r ≡ Err f → refusal_line (number_of f.fault) f.place ≡ sheet_of text settings
    head-refused f h = sym (lines-no (number_of f.fault) f.place _ (number-some f.fault)) ∙ head-is (Err f) h

    module _ (x : Head) (h : r ≡ Ok x) where
      abbrev rows : ℕ
      rows = x.header.rows

      abbrev columns : ℕ
      columns = x.header.columns

      good : head_sheet rows columns x.header.side settings text ≡ sheet_of text settings
      good = sym (lines-yes 0 0 _ refl) ∙ head-is (Ok x) h

      pub head-large : 2048 < rows * columns → refusal_line 11 0 ≡ sheet_of text settings
      head-large l = sym (cells-many rows columns x.header.side settings text l) ∙ good

      pub head-printed : rows * columns ≤ 2048 → grid_sheet rows columns x.header.side settings text
          (replicate (rows * columns) (pos 0)) (zeros (rows * columns)) ≡ sheet_of text settings
      head-printed l = sym (cells-few rows columns x.header.side settings text l) ∙ good

      pub head-few : (rows ≤ 1024) × (columns ≤ 1024)
      head-few =
          let few = header-few text in
          let o = sym (ap head_outcome_of h) ∙ e in
          (omega (arith, few.0, ap (λ (a : Outcome). a.rows) o), omega (arith, few.1, ap (λ (a : Outcome). a.columns) o))

-- ---- parts of arrays of one value

module _ {A : Type 0} (a : A) where
  pub part_same : (m n : ℕ) → n ≤ m → take n (replicate m a) ≡ replicate n a
  part_same m zero h = refl
  part_same zero (suc n) h = absurd (omega arith)
  part_same (suc m) (suc n) h = ap (λ (l : List A). a ∷ l) (part_same m n (omega arith))

  pub long-part : (m n : ℕ) → n ≤ m → length (take n (replicate m a)) ≡ n
  long-part m n h = ap length (part_same m n h) ∙ length-replicate n a

  pub part-long : (m n : ℕ) → n ≤ m → n ≡ length (take n (replicate m a))
  part-long m n h = sym (long-part m n h)
