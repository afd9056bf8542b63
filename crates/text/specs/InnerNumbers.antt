-- What the functions of `numbers` answer, in terms of the definitions: only inner functions cite this file. Assumes nothing.
use Rattle.std.specs.Prelude.{ℕ, ◌+◌, ◌-◌, ◌≤◌, ◌<◌, Bool, List, ◌≡◌, ltb, ℤ, length, Result, Ok, Err, IfOk}
use Rattle.text.specs.Words.{run}
use Rattle.text.specs.Numbers as N
use Rattle.text.specs.declared.Refusal.{Refusal}
use Rattle.text.specs.declared.words.Read.{Read}
use Rattle.text.specs.declared.numbers.Formed.{Formed}
use Rattle.text.specs.declared.numbers.Malformed.{Malformed}
use Rattle.text.specs.declared.numbers.Number.{Number}
use Rattle.text.specs.declared.numbers.Measure.{Measure}

-- ---- digits and forms

-- the place `most` places after a, or the length n if that comes first
pub record Limit (n a most stop : ℕ) : Type 0 where
  pub from : a ≤ stop
  pub within : stop ≤ n
  pub short : stop ≤ a + most
  pub last : stop < a + most → stop ≡ n

-- the digits from a on, at most so many of them
pub record DigitsFrom (s : List ℕ) (a most v end : ℕ) : Type 0 where
  pub ends : end ≡ run N.digit s a most
  pub is : v ≡ N.value s end a (end - a)
  pub from : a ≤ end
  pub within : end ≤ length s
  pub short : end ≤ a + most
  pub small : v < 1000000000

-- the first two decimals, from p on, as hundredths
pub record HundredthsFrom (s : List ℕ) (p v end : ℕ) : Type 0 where
  pub ends : end ≡ run N.digit s p 2
  pub is : v ≡ N.value s end p 2
  pub from : p ≤ end
  pub within : end ≤ length s
  pub short : end ≤ p + 2
  pub small : v < 100

-- the end of the decimals from p on, and whether one past the second is not 0
pub record TailFrom (s : List ℕ) (p end : ℕ) (fine : Bool) : Type 0 where
  pub ends : end ≡ run N.digit s p 6
  pub is : fine ≡ ltb (run N.zero s (p + 2) 4) end
  pub from : p ≤ end
  pub within : end ≤ length s

abbrev pub form_of : Result Formed Malformed → N.Form N.Number
form_of (Ok x) = N.formed (record { minus = x.minus; size = x.size; fine = x.fine })
form_of (Err x) = N.malformed x.at

-- a word that ends at e, with its form w
pub record Parsed (e : ℕ) (w : N.Form N.Number) (r : Result Formed Malformed) : Type 0 where
  pub is : form_of r ≡ w
  pub ends : IfOk r (λ x. (x.end ≡ e) × (x.size < 200000000000))

-- ---- what each value stands for

abbrev pub placed_of : Number → N.Placed N.Number
placed_of x = record { place = x.start; is = record { minus = x.minus; size = x.size; fine = x.fine } }

abbrev pub measure_of : Measure → N.Placed ℤ
measure_of x = record { place = x.start; is = x.cm }

-- at most nine digits and two decimals
abbrev pub SizeFits : Result (Read Number) Refusal → Type 0
SizeFits r = IfOk r (λ x. x.value.size < 200000000000)
