-- `text::numbers::read_hundredths` meets its contract. Assumes nothing.
use Rattle.text.proofs.InnerValues.{hundredths-short, hundredths-full}
use Rattle.text.proofs.numbers.read_hundredths.Goals as goal

pub returns-then-d-p-lt2 : goal.returns-then-d-p-lt2
returns-then-d-p-lt2 c = hundredths-short _ _ _ _ c.read_digits-d.ensures c.if-d-p-lt2.true

pub returns : goal.returns
returns c = hundredths-full _ _ _ _ c.read_digits-d.ensures c.if-d-p-lt2.false
