-- RULES 7.3: What a call hands out into the numbers that it is lent. Assumes nothing.
use Rattle.std.specs.Prelude.{ℕ, ℤ, Float}
use Rattle.laws.specs.Slices.{Lent}
use Rattle.text.specs.Answers.{Outcome}
use Rattle.text.specs.declared.Corners.{Corners}
use Rattle.factor.specs.Answers as factor
use Rattle.writer.specs.Answers as writer
use Rattle.fullsize.specs.Outcomes.{reading, standing, mapping, writing}
use Rattle.fullsize.specs.Crossing.{Numbers, numbers}

-- what a call answers, its result being the number of the refusal
abbrev pub reading_after : ℕ → Lent ℕ → Lent ℕ → Lent ℕ → Lent ℕ → Lent ℤ → Outcome
reading_after number place rows columns side no_data = reading number place.exit.now rows.exit.now columns.exit.now side.exit.now no_data.exit.now

-- where the corner words stand
abbrev pub corners_after : Lent ℕ → Lent ℕ → Lent ℕ → Lent ℕ → Corners
corners_after x_first x_length y_first y_length = standing x_first.exit.now x_length.exit.now y_first.exit.now y_length.exit.now

abbrev pub mapping_after : ℕ → Lent ℕ → Lent ℕ → Lent ℕ → factor.Numbers
mapping_after number place valids longest = mapping number place.exit.now valids.exit.now longest.exit.now

abbrev pub writing_after : ℕ → Lent ℕ → Lent ℕ → writer.Numbers
writing_after number place length = writing number place.exit.now length.exit.now

-- settings that are handed out
abbrev pub numbers_after : Lent Float → Lent Float → Lent ℕ → Lent ℕ → Lent Float → Lent ℕ → Numbers
numbers_after low high kind cells percentage formula =
    numbers low.exit.now high.exit.now kind.exit.now cells.exit.now percentage.exit.now formula.exit.now
