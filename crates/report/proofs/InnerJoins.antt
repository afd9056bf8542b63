-- Laws of a join, as the code makes it: whether every number fits 64 bits. Assumes nothing.
use mathlib.Core.Path.{◌≡◌, refl, ap, ap₂}
use mathlib.Core.List.{List, [], ◌∷◌}
use mathlib.Core.Logic.{⊎_elim}
use mathlib.Core.Bool.{true, ◌&&◌}
use Prim.Native.Nat.{ℕ, ◌+◌, ◌^◌, ◌≤◌, ◌<◌}
use borrow.Author.Tests.{lt-ltb, le-ltb, ltb-true}
use native.Mathlib.Omega.{arith}
use Rattle.std.specs.Prelude.{Option, None, Some, SomeIff}
use Rattle.laws.proofs.Tests.{two, and_both}
use Rattle.report.specs.Joins.{counted_on, kept_of, joined, totals_of, all_fit, map_fits, fits}
use Rattle.report.specs.Answers.{after_join}
use Rattle.report.specs.InnerJoins.{MapFits, JoinFits}
use Rattle.report.specs.declared.Greatest.{Greatest}
use Rattle.report.specs.declared.Report.{Report}
use Rattle.report.proofs.Additions.{accepted, refused, join-fits, join-full}

-- every number fits, one by one
abbrev pub AllFit : List ℕ → Type 0
AllFit [] = Unit
AllFit (n ∷ l) = (n < 2 ^ 64) × AllFit l

all-fit : (l : List ℕ) → all_fit l ≡ true → AllFit l
unfolding all_fit
all-fit [] e = tt
all-fit (n ∷ l) e = let w = and_both _ _ e in (ltb-true n (2 ^ 64) w.0, all-fit l w.1)

fit-all : (l : List ℕ) → AllFit l → all_fit l ≡ true
unfolding all_fit
fit-all [] h = refl
fit-all (n ∷ l) h = ap₂ ◌&&◌ (lt-ltb n (2 ^ 64) h.0) (fit-all l h.1)

map-fit : (g : Option Greatest) → map_fits g ≡ true → MapFits g
unfolding map_fits
map-fit None e = tt
map-fit (Some g) e = ltb-true g.map (2 ^ 64) e

fit-map : (g : Option Greatest) → MapFits g → map_fits g ≡ true
unfolding map_fits
fit-map None h = refl
fit-map (Some g) h = lt-ltb g.map (2 ^ 64) h

-- the cases of what is kept, as the code finds them
pub keeps-first : (maps : ℕ) (g h : Greatest) → h.factor ≤ g.factor → kept_of maps (Some g) (Some h) ≡ Some g
unfolding kept_of
keeps-first maps g h k = rw (le-ltb g.factor h.factor k)

pub keeps-only : (maps : ℕ) (g : Greatest) → kept_of maps (Some g) None ≡ Some g
unfolding kept_of
keeps-only maps g = refl

pub keeps-second : (maps : ℕ) (g h : Greatest) → g.factor < h.factor → kept_of maps (Some g) (Some h) ≡ Some (counted_on maps h)
unfolding kept_of
keeps-second maps g h k = rw (lt-ltb g.factor h.factor k)

pub keeps-new : (maps : ℕ) (h : Greatest) → kept_of maps None (Some h) ≡ Some (counted_on maps h)
unfolding kept_of
keeps-new maps h = refl

-- after no maps
pub after-none : (g : Greatest) → counted_on 0 g ≡ g
after-none g = let e : 0 + g.map ≡ g.map = omega arith in ap (λ (m : ℕ). counted m) e
  where
    counted : ℕ → Greatest
    counted m = record { factor = g.factor; map = m; cell = g.cell }

-- what is kept is answered, if its map fits
pub some-kept : {k : Option Greatest} {g h : Greatest} → k ≡ Some g → g.map < 2 ^ 64 → h ≡ g → MapFits k × (Some h ≡ k)
some-kept e m q = rw e (m, ap Some q)

pub none-kept : {r : Option (Option Greatest)} {k : Option Greatest} {g : Greatest} → r ≡ None → k ≡ Some g → (g.map < 2 ^ 64 → ⊥) → SomeIff r (MapFits k) k
none-kept n e m = rw (n, e) m

module _ (a b : Report) where
  joins-fit : fits (joined a b) ≡ true → JoinFits a b
  unfolding fits joined
  joins-fit e =
      let w = and_both _ _ e in
      let f : AllFit (totals_of (joined a b)) = all-fit (totals_of (joined a b)) w.0 in
      record {
        maps = f.0;
        valid = f.1.0;
        channel = f.1.1.0;
        zero = f.1.1.1.0;
        long = f.1.1.1.1.0;
        sum = f.1.1.1.1.1.0;
        under1 = f.1.1.1.1.1.1.0;
        from1 = f.1.1.1.1.1.1.1.0;
        from5 = f.1.1.1.1.1.1.1.1.0;
        from10 = f.1.1.1.1.1.1.1.1.1.0;
        greatest = map-fit (kept_of a.maps a.greatest b.greatest) w.1;
      }

  fit-joins : JoinFits a b → fits (joined a b) ≡ true
  unfolding fits joined
  fit-joins h =
      ap₂ ◌&&◌
      (fit-all (totals_of (joined a b))
      (h.maps, (h.valid, (h.channel, (h.zero, (h.long, (h.sum, (h.under1, (h.from1, (h.from5, (h.from10, tt)))))))))))
      (fit-map (kept_of a.maps a.greatest b.greatest) h.greatest)

  pub join-accepts : JoinFits a b → after_join a b ≡ accepted (joined a b)
  join-accepts h = join-fits a b (fit-joins h)

  pub join-refuses : (JoinFits a b → ⊥) → after_join a b ≡ refused 16 0 a
  join-refuses h = ⊎_elim (λ e. absurd (h (joins-fit e))) (λ e. join-full a b e) (two (fits (joined a b)))
