-- Fields for each rule of RULES 5, and numbers for the edges of RULES 6. antt computes each side. Assumes nothing.
use mathlib.Core.Path.{refl}
use mathlib.Core.List.{List, [], ◌∷◌}
use lib.IntN.{pos, negsuc}
use Prim.Native.Nat.{ℕ}
use Rattle.settings.specs.declared.Threshold.{Threshold}
use Rattle.settings.specs.declared.Threshold.TheVariants.{Share, Over, Never}
use Rattle.settings.specs.declared.Formula.TheVariants.{Older}
use Rattle.settings.specs.declared.Rules.{Rules}
use Rattle.terrain.specs.Cells.{no_data}
use Rattle.terrain.specs.Answers.{ground_directions}
use Rattle.factor.specs.LengthFactor.{length_factor}
use Rattle.factor.specs.Cell.{too_long, factor_of}
use Rattle.factor.specs.Answers.{map_of}
use Rattle.fields.specs.Claims.{Claim, measured, reaches, factored, All}

abbrev rules : ℕ → ℕ → Threshold → Rules
rules low high threshold = record { low = low; high = high; threshold = threshold; formula = Older }

unfoldable pub edges : List Claim
edges =
    -- flow to the west, to the north, and to the north-west
    measured 1 4 1000 (rules 50 50 Never) (pos 500 ∷ pos 700 ∷ pos 800 ∷ pos 900 ∷ []) (0 ∷ 25000 ∷ 15000 ∷ 5000 ∷ [])
    ∷
    measured 4 1 1000 (rules 50 50 Never) (pos 500 ∷ pos 700 ∷ pos 800 ∷ pos 900 ∷ []) (0 ∷ 25000 ∷ 15000 ∷ 5000 ∷ [])
    ∷
    measured 3 3 1000 (rules 0 0 Never) (pos 100 ∷ pos 200 ∷ pos 300 ∷ pos 200 ∷ pos 290 ∷ pos 400 ∷ pos 300 ∷ pos 400 ∷ pos 460 ∷ []) (0 ∷ 15000 ∷ 5000 ∷ 15000 ∷ 21213 ∷ 7071 ∷ 5000 ∷ 7071 ∷ 7071 ∷ [])
    ∷
    -- two inflows that meet: the greater amount, not the sum
    measured 2 3 1000 (rules 100 100 Never) (pos 900 ∷ pos 800 ∷ pos 700 ∷ pos 900 ∷ pos 900 ∷ pos 600 ∷ []) (5000 ∷ 21213 ∷ 5000 ∷ 7071 ∷ 5000 ∷ 35355 ∷ [])
    ∷
    measured 3 4 1000 (rules 50 50 Never) (pos 900 ∷ pos 800 ∷ pos 700 ∷ pos 600 ∷ pos 950 ∷ pos 900 ∷ pos 850 ∷ pos 500 ∷ pos 990 ∷ pos 980 ∷ pos 970 ∷ pos 960 ∷ []) (5000 ∷ 21213 ∷ 35355 ∷ 5000 ∷ 7071 ∷ 21213 ∷ 21213 ∷ 0 ∷ 7071 ∷ 7071 ∷ 7071 ∷ 5000 ∷ [])
    ∷
    -- a flat pair beside a cut, also with both cutoffs 1.0
    measured 1 4 1000 (rules 50 50 Never) (pos 700 ∷ pos 500 ∷ pos 500 ∷ pos 500 ∷ []) (5000 ∷ 0 ∷ 5000 ∷ 5000 ∷ [])
    ∷
    measured 3 3 1000 (rules 100 100 Never) (pos 500 ∷ pos 500 ∷ pos 500 ∷ pos 500 ∷ pos 200 ∷ pos 400 ∷ pos 500 ∷ pos 500 ∷ pos 500 ∷ []) (7071 ∷ 5000 ∷ 5000 ∷ 5000 ∷ 21213 ∷ 15000 ∷ 7071 ∷ 5000 ∷ 5000 ∷ [])
    ∷
    -- a ridge that drains E, one that drains SE, a single cell, and cells that drain in seven directions into one
    measured 2 2 1000 (rules 100 100 Never) (pos 900 ∷ pos 800 ∷ pos 850 ∷ pos 780 ∷ []) (5000 ∷ 15000 ∷ 5000 ∷ 25000 ∷ [])
    ∷
    measured 2 2 1000 (rules 100 100 Never) (pos 900 ∷ pos 850 ∷ pos 850 ∷ pos 700 ∷ []) (7071 ∷ 5000 ∷ 5000 ∷ 21213 ∷ [])
    ∷
    measured 1 1 1000 (rules 50 50 Never) (pos 900 ∷ []) (5000 ∷ [])
    ∷
    measured 3 3 1000 (rules 100 100 Never) (pos 9 ∷ pos 9 ∷ pos 9 ∷ pos 9 ∷ pos 2 ∷ no_data ∷ pos 9 ∷ pos 9 ∷ pos 9 ∷ [])
    (7071 ∷ 5000 ∷ 7071 ∷ 5000 ∷ 21213 ∷ 0 ∷ 7071 ∷ 5000 ∷ 7071 ∷ [])
    ∷
    -- a cell all of whose inflows are cut stays 0: one that leaves the map, and one that drains SE
    measured 3 3 1000 (rules 50 50 Never) (pos 9 ∷ pos 9 ∷ pos 9 ∷ pos 9 ∷ pos 2 ∷ no_data ∷ pos 9 ∷ pos 9 ∷ pos 9 ∷ [])
    (7071 ∷ 5000 ∷ 7071 ∷ 5000 ∷ 0 ∷ 0 ∷ 7071 ∷ 5000 ∷ 7071 ∷ [])
    ∷
    measured 2 3 1000 (rules 50 50 Never) (pos 900 ∷ pos 700 ∷ pos 950 ∷ pos 950 ∷ pos 950 ∷ pos 690 ∷ [])
    (5000 ∷ 0 ∷ 5000 ∷ 7071 ∷ 5000 ∷ 0 ∷ [])
    ∷
    -- two flat cells: the inflow comes E and the receiver leaves NE; it comes SE and the receiver leaves E; it comes NE and the receiver has 0
    measured 3 4 1000 (rules 50 50 Never) (pos 9 ∷ pos 9 ∷ pos 9 ∷ pos 5 ∷ pos 9 ∷ pos 5 ∷ pos 5 ∷ pos 9 ∷ pos 9 ∷ pos 9 ∷ pos 9 ∷ pos 9 ∷ [])
    (7071 ∷ 5000 ∷ 5000 ∷ 5000 ∷ 5000 ∷ 0 ∷ 7071 ∷ 5000 ∷ 7071 ∷ 5000 ∷ 5000 ∷ 7071 ∷ [])
    ∷
    measured 4 4 1000 (rules 50 50 Never)
    (pos 9 ∷ pos 9 ∷ pos 9 ∷ pos 9 ∷ pos 9 ∷ pos 5 ∷ pos 9 ∷ pos 9 ∷ pos 9 ∷ pos 9 ∷ pos 5 ∷ pos 5 ∷ pos 9 ∷ pos 9 ∷ pos 9 ∷ pos 9 ∷ [])
    (7071 ∷ 5000 ∷ 7071 ∷ 5000 ∷ 5000 ∷ 0 ∷ 5000 ∷ 5000 ∷ 7071 ∷ 5000 ∷ 5000 ∷ 5000 ∷ 5000 ∷ 7071 ∷ 5000 ∷ 5000 ∷ [])
    ∷
    measured 3 3 1000 (rules 50 50 Never) (pos 9 ∷ pos 9 ∷ pos 5 ∷ pos 9 ∷ pos 5 ∷ pos 9 ∷ pos 9 ∷ pos 9 ∷ pos 9 ∷ [])
    (7071 ∷ 5000 ∷ 5000 ∷ 5000 ∷ 0 ∷ 5000 ∷ 7071 ∷ 5000 ∷ 7071 ∷ [])
    ∷
    -- 5 percent itself takes the high cutoff, and the cut's equality is a cut; a slope below takes the low one
    measured 1 3 1000 (rules 100 50 Never) (pos 900 ∷ pos 800 ∷ pos 750 ∷ []) (5000 ∷ 0 ∷ 10000 ∷ [])
    ∷
    measured 1 3 1000 (rules 50 100 Never) (pos 900 ∷ pos 800 ∷ pos 750 ∷ []) (5000 ∷ 15000 ∷ 0 ∷ [])
    ∷
    measured 1 4 1000 (rules 100 50 Never) (pos 900 ∷ pos 800 ∷ pos 750 ∷ pos 700 ∷ []) (5000 ∷ 0 ∷ 10000 ∷ 20000 ∷ [])
    ∷
    measured 1 4 1000 (rules 50 100 Never) (pos 900 ∷ pos 800 ∷ pos 750 ∷ pos 700 ∷ []) (5000 ∷ 15000 ∷ 25000 ∷ 0 ∷ [])
    ∷
    measured 1 4 1000 (rules 100 50 Never) (pos 900 ∷ pos 800 ∷ pos 751 ∷ pos 702 ∷ []) (5000 ∷ 15000 ∷ 25000 ∷ 35000 ∷ [])
    ∷
    measured 1 4 1000 (rules 50 100 Never) (pos 900 ∷ pos 800 ∷ pos 751 ∷ pos 702 ∷ []) (5000 ∷ 0 ∷ 10000 ∷ 0 ∷ [])
    ∷
    -- gentle ground, 4 percent before 1.6: the library's low cutoff of 0.7 lets the length go on, the job's 0.5 cuts it
    measured 1 4 1000 (rules 70 50 Never) (pos 900 ∷ pos 860 ∷ pos 844 ∷ pos 840 ∷ []) (5000 ∷ 15000 ∷ 0 ∷ 0 ∷ [])
    ∷
    measured 1 4 1000 (rules 50 50 Never) (pos 900 ∷ pos 860 ∷ pos 844 ∷ pos 840 ∷ []) (5000 ∷ 0 ∷ 0 ∷ 0 ∷ [])
    ∷
    -- cutoff 0: every fall in slope is a cut, an equal slope is none
    measured 1 4 1000 (rules 0 0 Never) (pos 900 ∷ pos 800 ∷ pos 700 ∷ pos 601 ∷ []) (5000 ∷ 15000 ∷ 0 ∷ 0 ∷ [])
    ∷
    -- a channel rule of each kind, at equality and one above
    measured 1 4 1000 (rules 100 100 (Share 500)) (pos 900 ∷ pos 800 ∷ pos 700 ∷ pos 500 ∷ []) (5000 ∷ 15000 ∷ 0 ∷ 0 ∷ [])
    ∷
    measured 1 4 1000 (rules 100 100 (Share 499)) (pos 900 ∷ pos 800 ∷ pos 700 ∷ pos 500 ∷ []) (5000 ∷ 0 ∷ 0 ∷ 0 ∷ [])
    ∷
    measured 1 4 1000 (rules 100 100 (Share 1000)) (pos 900 ∷ pos 800 ∷ pos 700 ∷ pos 500 ∷ []) (5000 ∷ 15000 ∷ 25000 ∷ 35000 ∷ [])
    ∷
    measured 1 4 1000 (rules 100 100 (Share 0)) (pos 900 ∷ pos 800 ∷ pos 700 ∷ pos 500 ∷ []) (0 ∷ 0 ∷ 0 ∷ 0 ∷ [])
    ∷
    measured 1 4 1000 (rules 100 100 (Over 2)) (pos 900 ∷ pos 800 ∷ pos 700 ∷ pos 500 ∷ []) (5000 ∷ 15000 ∷ 0 ∷ 0 ∷ [])
    ∷
    measured 1 4 1000 (rules 100 100 (Over 1)) (pos 900 ∷ pos 800 ∷ pos 700 ∷ pos 500 ∷ []) (5000 ∷ 0 ∷ 0 ∷ 0 ∷ [])
    ∷
    measured 1 4 1000 (rules 100 100 (Over 0)) (pos 900 ∷ pos 800 ∷ pos 700 ∷ pos 500 ∷ []) (0 ∷ 0 ∷ 0 ∷ 0 ∷ [])
    ∷
    -- slopes with ripples, pits, flats, ties and NoData
    measured 4 5 1000 (rules 70 40 (Over 9)) (pos 40 ∷ negsuc 19 ∷ negsuc 19 ∷ negsuc 79 ∷ negsuc 99 ∷ pos 60 ∷ pos 70 ∷ pos 10 ∷ negsuc 29 ∷ negsuc 49 ∷ pos 120 ∷ pos 110 ∷ pos 70 ∷ pos 50 ∷ pos 0 ∷ pos 200 ∷ pos 150 ∷ pos 140 ∷ pos 110 ∷ pos 60 ∷ []) (5000 ∷ 0 ∷ 5000 ∷ 45355 ∷ 0 ∷ 25000 ∷ 5000 ∷ 21213 ∷ 35355 ∷ 31213 ∷ 15000 ∷ 7071 ∷ 21213 ∷ 5000 ∷ 21213 ∷ 5000 ∷ 7071 ∷ 5000 ∷ 7071 ∷ 5000 ∷ [])
    ∷
    measured 4 5 1000 (rules 40 80 (Share 450)) (pos 10 ∷ pos 25 ∷ pos 50 ∷ pos 75 ∷ pos 130 ∷ negsuc 14 ∷ pos 15 ∷ pos 40 ∷ pos 85 ∷ pos 80 ∷ negsuc 39 ∷ no_data ∷ pos 40 ∷ pos 40 ∷ pos 65 ∷ negsuc 54 ∷ negsuc 4 ∷ pos 20 ∷ pos 15 ∷ pos 50 ∷ []) (5000 ∷ 20000 ∷ 10000 ∷ 0 ∷ 5000 ∷ 0 ∷ 15000 ∷ 5000 ∷ 5000 ∷ 7071 ∷ 0 ∷ 0 ∷ 7071 ∷ 21213 ∷ 7071 ∷ 0 ∷ 21213 ∷ 5000 ∷ 0 ∷ 5000 ∷ [])
    ∷
    measured 5 4 500 (rules 50 50 Never) (negsuc 299 ∷ pos 30 ∷ negsuc 279 ∷ no_data ∷ pos 60 ∷ pos 50 ∷ pos 80 ∷ negsuc 229 ∷ pos 80 ∷ no_data ∷ pos 120 ∷ pos 130 ∷ pos 120 ∷ pos 130 ∷ pos 140 ∷ pos 150 ∷ pos 160 ∷ pos 170 ∷ pos 200 ∷ negsuc 109 ∷ []) (0 ∷ 5000 ∷ 0 ∷ 0 ∷ 5000 ∷ 43284 ∷ 5000 ∷ 0 ∷ 29142 ∷ 0 ∷ 7071 ∷ 5000 ∷ 15000 ∷ 15000 ∷ 7071 ∷ 5000 ∷ 5000 ∷ 5000 ∷ 5000 ∷ 0 ∷ [])
    ∷
    measured 4 4 1000 (rules 50 60 (Share 300)) (negsuc 299 ∷ pos 400 ∷ negsuc 99 ∷ pos 200 ∷ pos 400 ∷ pos 400 ∷ negsuc 299 ∷ pos 200 ∷ pos 400 ∷ pos 100 ∷ negsuc 99 ∷ negsuc 299 ∷ pos 200 ∷ negsuc 299 ∷ pos 100 ∷ negsuc 99 ∷ []) (0 ∷ 5000 ∷ 5000 ∷ 7071 ∷ 5000 ∷ 5000 ∷ 0 ∷ 5000 ∷ 7071 ∷ 5000 ∷ 5000 ∷ 0 ∷ 5000 ∷ 0 ∷ 5000 ∷ 5000 ∷ [])
    ∷
    -- the four kinds of cells of the pit
    factored 20000 5000 54379
    ∷
    factored 10000 7071 39424
    ∷
    factored 0 5000 4810
    ∷
    factored 0 0 0
    ∷
    -- no length, one millimetre, 304,800 mm and one more
    reaches 5 0 0
    ∷
    reaches 2 1 13
    ∷
    factored 0 304800 10920
    ∷
    factored 0 304801 too_long
    ∷
    []

pub edges-hold : All edges
unfolding edges ground_directions map_of length_factor factor_of
edges-hold = (refl, (refl, (refl, (refl, (refl, (refl, (refl, (refl, (refl, (refl, (refl, (refl, (refl, (refl, (refl, (refl, (refl, (refl, (refl, (refl, (refl, (refl, (refl, (refl, (refl, (refl, (refl, (refl, (refl, (refl, (refl, (refl, (refl, (refl, (refl, (refl, (refl, (refl, (refl, (refl, (refl, (refl, (refl, (refl, tt))))))))))))))))))))))))))))))))))))))))))))
