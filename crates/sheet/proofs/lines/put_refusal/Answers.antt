-- `sheet::lines::put_refusal` meets its contract. Assumes nothing.
use mathlib.Core.Path.{◌∙◌}
use native.Mathlib.Omega.{arith}
use Rattle.numerals.proofs.Writing.{wrote-word}
use Rattle.text.specs.Bytes.{bytes}
use Rattle.numerals.specs.Words.{decimal, line}
use Rattle.sheet.specs.Lines.{refusal_line}
use Rattle.text.specs.Faults.{number_of}
use Rattle.sheet.proofs.InnerShown.{number-as}
use Rattle.sheet.proofs.lines.put_refusal.Goals as goal

pub returns : goal.returns
unfolding bytes line refusal_line
returns c =
    let f = c.args.refusal in
    let refused = c.put_all-a.ensures in
    (wrote-word (bytes "refused") refused (wrote-word (decimal (number_of f.fault)) (number-as 32 (c.from.ensures ∙ c.number.ensures) c.put_number-b.ensures.0) c.put_place.ensures.0), omega (arith, refused.ends, c.put_number-b.ensures.1, c.put_place.ensures.1))
