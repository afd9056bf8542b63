-- RULES 2.3: numbers. A number's word begins at a and ends before e. Assumes nothing.
use Rattle.std.specs.Prelude.{ℕ, zero as zeroᴺ, suc, ◌+◌, ◌-◌, ◌*◌, Bool, true, false, not, cond, ◌&&◌, List, ℤ, pos, neg_ℤ, leb, ltb, eqb, length, get_or, set}
use Rattle.text.specs.Quantities.{extent_in}
use Rattle.text.specs.Reader.{Reader, got, refused, ◌>>=◌, ◌>>◌, give, check}
use Rattle.text.specs.Words.{run, Word, word}

abbrev pub digit : ℕ → Bool
digit b = leb 48 b && leb b 57

abbrev pub zero : ℕ → Bool
zero b = eqb b 48

-- what a digit stands for
abbrev pub digit_of : ℕ → ℕ
digit_of b = cond (digit b) (b - 48) 0

-- what the digit at i stands for; a place from e on counts as the digit 0
abbrev pub digit_at : List ℕ → ℕ → ℕ → ℕ
digit_at s e i = cond (ltb i e) (digit_of (get_or s i 0)) 0

-- the number that n digits from i on stand for
unfoldable pub value : List ℕ → ℕ → ℕ → ℕ → ℕ
value s e i zeroᴺ = 0
value s e i (suc n) = value s e i n * 10 + digit_at s e (i + n)

-- a word of the right form with what it says; or the place at which it stops being of that form
pub data Form (A : Type 0) : Type 0 where
  formed : A → Form A
  malformed : ℕ → Form A

-- The two counts have 1 to 9 digits only: d is the place after them.
unfoldable pub count_form_at : List ℕ → ℕ → ℕ → Form ℕ
count_form_at s a e =
    let d = run digit s a 9 in
    cond (eqb d a) (malformed d) (cond (eqb d e) (formed (value s d a (d - a))) (malformed d))

-- a number: its sign, its size in whole cm, and whether a nonzero digit stands past the second decimal
pub record Number : Type 0 where
  pub minus : Bool
  pub size : ℕ
  pub fine : Bool

-- an optional minus
abbrev pub after_sign : List ℕ → ℕ → ℕ
after_sign s a = cond (eqb (get_or s a 0) 45) (a + 1) a

-- 1 to 6 digits from p on, after a point; f is the place after them
unfoldable pub decimals : List ℕ → ℕ → Bool → ℕ → ℕ → Form Number
decimals s e minus size p =
    let f = run digit s p 6 in
    cond (eqb f p) (malformed f)
    (cond (eqb f e)
    (formed (record { minus = minus; size = size + value s f p 2; fine = ltb (run zero s (p + 2) 4) f }))
    (malformed f))

-- 1 to 9 digits from b on, then optionally a point and decimals; d is the place after the digits
abbrev pub whole_and_decimals : List ℕ → ℕ → Bool → ℕ → ℕ → Form Number
whole_and_decimals s e minus b d =
    cond (eqb d b) (malformed d)
    (cond (eqb (get_or s d 0) 46) (decimals s e minus (value s d b (d - b) * 100) (d + 1))
    (cond (eqb d e)
    (formed (record { minus = minus; size = value s d b (d - b) * 100; fine = false }))
    (malformed d)))

-- A number is an optional minus, 1 to 9 digits, then optionally a point and 1 to 6 digits.
unfoldable pub number_at : List ℕ → ℕ → ℕ → Form Number
number_at s a e = let b = after_sign s a in whole_and_decimals s e (ltb a b) b (run digit s b 9)

abbrev pub is_formed : {A : Type 0} → Form A → Bool
is_formed (formed x) = true
is_formed (malformed p) = false

-- the bytes w, and all of them, are a number's word
unfoldable pub is_number : List ℕ → Bool
unfolding number_at
is_number w = is_formed (number_at w 0 (length w))

abbrev pub comma : ℕ → Bool
comma b = eqb b 44

-- the word's first comma; e where it has none
unfoldable pub first_comma : List ℕ → ℕ → ℕ → ℕ
first_comma s a e = run (λ b. not (comma b)) s a (e - a)

-- The word would be right, of the form that its position allows, if its first comma were a point.
unfoldable pub comma_decimal : {A : Type 0} → (List ℕ → ℕ → ℕ → Form A) → List ℕ → ℕ → ℕ → Bool
unfolding first_comma
comma_decimal form s a e = let c = first_comma s a e in ltb c e && is_formed (form (set s c 46) a e)

-- 12: comma decimal; place: the comma. 7: number malformed; place: where the word stops being of the form
abbrev pub formed_or : {A : Type 0} → Bool → ℕ → Form A → Reader A
formed_or decimal c (formed x) s i = got x i
formed_or decimal c (malformed p) s i = cond decimal (refused 12 c) (refused 7 p)

-- a word of the form that its position allows
unfoldable pub read : {A : Type 0} → (List ℕ → ℕ → ℕ → Form A) → Word → Reader A
unfolding first_comma comma_decimal
read form w s i = formed_or (comma_decimal form s w.start w.end) (first_comma s w.start w.end) (form s w.start w.end) s i

-- 9, 12, 7, then 1: rows or columns 0 or above 1,024
unfoldable pub count : Reader ℕ
count = do
  w ← word
  n ← read count_form_at w
  check (extent_in n) 1 w.start
  give n

-- a number and the place of its word
pub record Placed (A : Type 0) : Type 0 where
  pub place : ℕ
  pub is : A

-- 9, 12, then 7
unfoldable pub number : Reader (Placed Number)
number = do
  w ← word
  x ← read number_at w
  give (record { place = w.start; is = x })

abbrev pub centimetres : Bool → ℕ → ℤ
centimetres minus size = cond minus (neg_ℤ (pos size)) (pos size)

-- Cell side, NoData and heights become cm exactly; a nonzero digit past the second decimal is too fine. 9, 12, 7, then 8
unfoldable pub measure : Reader (Placed ℤ)
measure = do
  x ← number
  check (not x.is.fine) 8 x.place
  give (record { place = x.place; is = centimetres x.is.minus x.is.size })
