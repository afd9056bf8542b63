-- `terrain::surface::Surface::is_kept` meets its contract. Assumes nothing.
use Rattle.std.proofs.Common.{sym, ◌∙◌}
use Rattle.terrain.proofs.InnerGiving.{read_none, read-leaves, read-odd, read-points}
use Rattle.terrain.proofs.surface.Surface.is_kept.Goals as goal

pub returns-then-v-lt1 : goal.returns-then-v-lt1
returns-then-v-lt1 c = read_none _ _ _ _ _ c.requires.0 c.requires.1 c.if-v-lt1.true

pub returns-then-code-eq0 : goal.returns-then-code-eq0
returns-then-code-eq0 c = read-leaves _ _ _ _ _ c.requires.0 c.requires.1 c.if-v-lt1.false c.if-code-eq0.true c.is_open.ensures

pub returns-then-code-code_of : goal.returns-then-code-code_of
returns-then-code-code_of c = read-odd _ _ _ _ _ c.requires.0 c.requires.1 c.if-v-lt1.false c.if-code-eq0.false (λ l e. c.if-code-code_of.true (e ∙ sym c.code_of.ensures))

pub returns : goal.returns
returns c = read-points _ _ _ _ _ c.requires.0 c.requires.1 c.if-v-lt1.false c.if-k-ge8.false (c.if-code-code_of.false ∙ c.code_of.ensures) c.near.ensures c.value_at-w.ensures
