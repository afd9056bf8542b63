-- `report::joins::join` meets its contract. Assumes nothing.
use Rattle.report.specs.Joins.{joined}
use Rattle.report.proofs.Lists.{report-same}
use Rattle.report.proofs.joins.join.Goals as goal

pub returns : goal.returns
unfolding joined
returns c =
    let a = c.in_ok-checked_add.ensures in
    let b = c.in_ok-checked_add-2.ensures in
    let d = c.in_ok-checked_add-3.ensures in
    let e = c.in_ok-checked_add-4.ensures in
    let f = c.in_ok-checked_add-5.ensures in
    let g = c.in_ok-checked_add-6.ensures in
    let h = c.in_ok-checked_add-7.ensures in
    let i = c.in_ok-checked_add-8.ensures in
    let j = c.in_ok-checked_add-9.ensures in
    let k = c.in_ok-checked_add-10.ensures in
    let l = c.in_ok-keep.ensures in (
      record {
        maps = a.0;
        valid = b.0;
        channel = d.0;
        zero = e.0;
        long = f.0;
        sum = g.0;
        under1 = h.0;
        from1 = i.0;
        from5 = j.0;
        from10 = k.0;
        greatest = l.0;
      },
      report-same a.1 b.1 d.1 e.1 f.1 g.1 h.1 i.1 j.1 k.1 l.1,
    )
