-- When two reports can be joined: only inner functions cite this file. Assumes nothing.
use Rattle.std.specs.Prelude.{◌+◌, ◌^◌, ◌<◌, Option, None, Some}
use Rattle.report.specs.Joins.{kept_of}
use Rattle.report.specs.declared.Greatest.{Greatest}
use Rattle.report.specs.declared.Report.{Report}

-- the greatest's map fits 64 bits
abbrev pub MapFits : Option Greatest → Type 0
MapFits None = Unit {0}
MapFits (Some g) = g.map < 2 ^ 64

-- every number of two reports joined fits 64 bits
pub record JoinFits (a b : Report) : Type 0 where
  pub maps : a.maps + b.maps < 2 ^ 64
  pub valid : a.valid + b.valid < 2 ^ 64
  pub channel : a.channel + b.channel < 2 ^ 64
  pub zero : a.zero + b.zero < 2 ^ 64
  pub long : a.long + b.long < 2 ^ 64
  pub sum : a.sum + b.sum < 2 ^ 64
  pub under1 : a.under1 + b.under1 < 2 ^ 64
  pub from1 : a.from1 + b.from1 < 2 ^ 64
  pub from5 : a.from5 + b.from5 < 2 ^ 64
  pub from10 : a.from10 + b.from10 < 2 ^ 64
  pub greatest : MapFits (kept_of a.maps a.greatest b.greatest)
