-- RULES 12.3: two reports joined, and whether every number of a report fits 64 bits. Assumes nothing.
use Rattle.std.specs.Prelude.{List, [], ◌∷◌, Bool, true, cond, ◌&&◌, ℕ, ◌+◌, ◌^◌, ltb, Option, None, Some}
use Rattle.report.specs.declared.Greatest.{Greatest}
use Rattle.report.specs.declared.Report.{Report}

abbrev pub counted_on : ℕ → Greatest → Greatest
counted_on maps g = record { factor = g.factor; map = maps + g.map; cell = g.cell }

-- the first's greatest unless the second's is greater, whose map is counted on from the first's number of maps
unfoldable pub kept_of : ℕ → Option Greatest → Option Greatest → Option Greatest
kept_of maps first None = first
kept_of maps None (Some h) = Some (counted_on maps h)
kept_of maps (Some g) (Some h) = cond (ltb g.factor h.factor) (Some (counted_on maps h)) (Some g)

unfoldable pub joined : Report → Report → Report
unfolding kept_of
joined a b =
    record {
      maps = a.maps + b.maps;
      valid = a.valid + b.valid;
      channel = a.channel + b.channel;
      zero = a.zero + b.zero;
      long = a.long + b.long;
      sum = a.sum + b.sum;
      under1 = a.under1 + b.under1;
      from1 = a.from1 + b.from1;
      from5 = a.from5 + b.from5;
      from10 = a.from10 + b.from10;
      greatest = kept_of a.maps a.greatest b.greatest;
    }

-- 64 bits, unsigned
abbrev pub fits64 : ℕ → Bool
fits64 n = ltb n (2 ^ 64)

-- the number of maps, and the totals
abbrev pub totals_of : Report → List ℕ
totals_of r = r.maps ∷ r.valid ∷ r.channel ∷ r.zero ∷ r.long ∷ r.sum ∷ r.under1 ∷ r.from1 ∷ r.from5 ∷ r.from10 ∷ []

unfoldable pub all_fit : List ℕ → Bool
all_fit [] = true
all_fit (n ∷ l) = fits64 n && all_fit l

-- the greatest's map
unfoldable pub map_fits : Option Greatest → Bool
map_fits None = true
map_fits (Some g) = fits64 g.map

unfoldable pub fits : Report → Bool
unfolding all_fit map_fits
fits r = all_fit (totals_of r) && map_fits r.greatest
