-- `terrain::survey` meets its contract. Assumes nothing.
use Rattle.std.proofs.Common.{sym, ap, ◌∙◌}
use Rattle.laws.specs.Tests.{verdict}
use Rattle.laws.proofs.Verdicts.{verdict-none}
use Rattle.terrain.specs.Filled.{filled_levels}
use Rattle.terrain.specs.Answers.{source_tests}
use Rattle.terrain.specs.declared.Source.{Source}
use Rattle.terrain.proofs.InnerSurveying.{relief-levels}
use Rattle.terrain.proofs.survey.Goals as goal

pub judge-requires : goal.judge-requires
judge-requires c = (relief-levels c.requires.0 c.fill.ensures, c.requires.1)

pub returns-in-Own : goal.returns-in-Own
returns-in-Own c =
    let a = c.args in (
      sym (ap (λ (o : Source). verdict (source_tests o a.rows a.columns (filled_levels a.rows a.columns a.elevation.now) a.direction.now)) c.in-Own.is ∙ verdict-none),
      c.fill.ensures,
    )
