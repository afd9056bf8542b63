-- RULES 3 and 9: the whole sheet of a text. Assumes nothing.
use Rattle.std.specs.Prelude.{true, false, List, ℕ, ◌*◌, ltb, eqb, ℤ, pos, nat_abs, length, replicate}
use Rattle.settings.specs.declared.Settings.{Settings}
use Rattle.text.specs.Answers.{header_answer, grid_answer}
use Rattle.terrain.specs.declared.Source.TheVariants.{Own}
use Rattle.factor.specs.Farms.{one}
use Rattle.factor.specs.Answers.{Grids, lent, answer, after, told}
use Rattle.sheet.specs.Lines.{refusal_line, grids_of, map_lines}

-- the lines of an accepted call, or the line of its refusal
unfoldable pub lines_or : ℕ → ℕ → List ℕ → List ℕ
unfolding refusal_line
lines_or number place lines = elim (eqb number 0) [ true ↦ lines | false ↦ refusal_line number place ]

-- what the map call's answer comes to, the grids g being lent to it
unfoldable pub map_sheet : ℕ → ℕ → ℕ → Settings → List ℤ → Grids → List ℕ
unfolding lines_or map_lines answer after
map_sheet rows columns side settings elevation g =
    let a = told (answer rows columns side (one settings) Own elevation g) in
    let m = after rows columns side (one settings) Own elevation g in
    lines_or a.number a.place
    (map_lines (record { rows = rows; columns = columns; side = side; valid = a.valids; longest = a.longest })
    (grids_of elevation m.filled m.direction m.count m.lengths m.factors))

-- what follows a good header, the heights and the grids g being lent
unfoldable pub grid_sheet : ℕ → ℕ → ℕ → Settings → List ℕ → List ℤ → Grids → List ℕ
unfolding lines_or map_sheet
grid_sheet rows columns side settings text heights g =
    let a = grid_answer heights text in
    lines_or a.answer.number a.answer.place (map_sheet rows columns side settings a.heights g)

-- n cells of each grid, all 0
abbrev pub zeros : ℕ → Grids
zeros n = lent (replicate n (pos 0)) (replicate n 0) (replicate n 0) (replicate n 0) (replicate n 0) (replicate n 0)

-- then, after a good header, more than 2,048 cells (place 0)
unfoldable pub head_sheet : ℕ → ℕ → ℕ → Settings → List ℕ → List ℕ
unfolding refusal_line grid_sheet
head_sheet rows columns side settings text =
    elim (ltb 2048 (rows * columns)) [
      | true ↦ refusal_line 11 0
      | false ↦ grid_sheet rows columns side settings text (replicate (rows * columns) (pos 0)) (zeros (rows * columns))
    ]

-- printer only: text above 32,768 bytes (place 32768), before anything else
unfoldable pub sheet_of : List ℕ → Settings → List ℕ
unfolding lines_or refusal_line head_sheet
sheet_of text settings =
    let h = header_answer text in
    elim (ltb 32768 (length text)) [
      | true ↦ refusal_line 11 32768
      | false ↦ lines_or h.number h.place (head_sheet h.rows h.columns (nat_abs h.side) settings text)
    ]
