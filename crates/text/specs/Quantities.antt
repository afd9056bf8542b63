-- RULES 1: the ranges of what a text says, and NoData. Assumes nothing.
use Rattle.std.specs.Prelude.{ℕ, Bool, ◌&&◌, leb, ℤ, pos, neg_ℤ}
use Rattle.std.specs.Int.Signed.{le_z}

-- rows, columns: each 1 to 1,024
abbrev pub extent_in : ℕ → Bool
extent_in n = leb 1 n && leb n 1024

-- cell side: whole cm, 1 to 100,000
abbrev pub side_in : ℤ → Bool
side_in c = le_z (pos 1) c && le_z c (pos 100000)

-- height: whole cm, -50,000 to 900,000
abbrev pub height_in : ℤ → Bool
height_in h = le_z (neg_ℤ (pos 50000)) h && le_z h (pos 900000)

-- how far below height 0 NoData stands, in cm
abbrev pub datum : ℕ
datum = 999900

-- -999,900 means NoData
abbrev pub no_data_height : ℤ
no_data_height = neg_ℤ (pos datum)
