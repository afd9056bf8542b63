-- RULES 2.3 and 3 for the calls that read a text: no refusal has number 0, at a refusal 7 some word of the text breaks at the place, and at a refusal 12 the
-- place is a comma decimal's comma. Assumes nothing.
use mathlib.Core.Path.{◌≡◌, refl, sym, ap, ◌∙◌, subst}
use mathlib.Core.Bool.{Bool, true, false, not, cond, ◌&&◌, ◌||◌, true≢false}
use mathlib.Core.List.{List, [], ◌∷◌}
use Prim.Native.Nat.{ℕ, zero, suc, ◌*◌, ◌<◌}
use native.Mathlib.Omega.{arith}
use borrow.Author.Tests.{ltb-true}
use lib.IntN.{ℤ}
use lib.Dec.{ltb, eqb}
use lib.ListN.{length}
use Rattle.laws.proofs.Tests.{and_both}
use Rattle.text.specs.Bytes.{bytes}
use Rattle.text.specs.Quantities.{extent_in, side_in, height_in, no_data_height}
use Rattle.text.specs.Reader.{Step, got, refused, Reader, ◌>>=◌, give, here, check}
use Rattle.text.specs.Words.{Word, word, word_start, word_end}
use Rattle.text.specs.Numbers.{Form, formed, malformed, Number, Placed, number_at, count_form_at, first_comma, comma_decimal, formed_or, read}
use Rattle.text.specs.Numbers.{count, number, centimetres, measure}
use Rattle.text.specs.Right.{BreaksIn, CommaIn}
use Rattle.text.specs.Right as Right
use Rattle.text.specs.Headers.{Header, Extent, is_named, letter_next, absent_no_data, name, corner, side, field, any_measure, no_data}
use Rattle.text.specs.Headers.{extent, corners, side_and_no_data, head, header}
use Rattle.text.specs.Heights.{same, ended, height, heights, end, lone_header, body, grid, Grid}
use Rattle.text.specs.Answers.{header_outcome, header_answer, lone_header_answer, grid_outcome, grid_answer}
use Rattle.text.specs.declared.Corners.{Corners}
use Rattle.text.proofs.Carried.{Has, Keeps, keeps-give, keeps-check, keeps_then}
use Rattle.text.proofs.Right.{number-7, number-12, count-7, count-12}

-- what a refusal's number says of its place; and it is not 0
pub record Fault (s : List ℕ) (n p : ℕ) : Type 0 where
  pub some : 0 < n
  pub seven : n ≡ 7 → BreaksIn s p
  pub twelve : n ≡ 12 → CommaIn s p

-- neither 0, 7 nor 12
abbrev other : ℕ → Bool
other n = ltb 0 n && (not (eqb n 7) && not (eqb n 12))

module _ (s : List ℕ) where
  plain : (n p : ℕ) → other n ≡ true → Fault s n p
  plain n p h =
      record {
        some = ltb-true 0 n (and_both (ltb 0 n) (not (eqb n 7) && not (eqb n 12)) h).0;
        seven = λ e. absurd (true≢false (sym h ∙ ap other e));
        twelve = λ e. absurd (true≢false (sym h ∙ ap other e));
      }

  -- a reader whose refusals are those of the rules
  abbrev Sound : {A : Type 0} → Reader A → Type 0
  Sound {A} r = Keeps s (λ (a : A). Unit) (Fault s) r

  given : {A : Type 0} (a : A) → Sound (give a)
  given a = keeps-give tt

  joined : {A B : Type 0} {r : Reader A} {f : A → Reader B} → Sound r → ((a : A) → Sound (f a)) → Sound (r >>= f)
  joined first then = keeps_then first (λ a u. then a)

  checked : (ok : Bool) (n p : ℕ) → other n ≡ true → Sound (check ok n p)
  checked true n p h = record { keeps = λ i. tt }
  checked false n p h = record { keeps = λ i. plain n p h }

  -- ---- words and numbers

  word-step : (F : ℕ → ℕ → Type 0) → F 9 (length s) → Keeps s (λ (w : Word). Unit) F word
  unfolding word
  word-step F h = record { keeps = λ i. go i (ltb (word_start s i) (length s)) }
    where
      go : (i : ℕ) (b : Bool) → Has (λ (w : Word). Unit) F
          (cond b (got (record { start = word_start s i; end = word_end s (word_start s i) }) (word_end s (word_start s i))) (refused 9 (length s)))
      go i true = tt
      go i false = h

  word_sound : Sound word
  word_sound = word-step (Fault s) (plain 9 (length s) refl)

  -- the number of a refusal is not 0
  abbrev Some : {A : Type 0} → Reader A → Type 0
  Some {A} r = Keeps s (λ (a : A). Unit) (λ (n p : ℕ). 0 < n) r

  read_some : {A : Type 0} (form : List ℕ → ℕ → ℕ → Form A) (w : Word) → Some (read form w)
  unfolding read
  read_some {A} form w =
      record { keeps = λ i. go i (comma_decimal form s w.start w.end) (first_comma s w.start w.end) (form s w.start w.end) }
    where
      go : (i : ℕ) (q : Bool) (c : ℕ) (r : Form A) → Has (λ (a : A). Unit) (λ (n p : ℕ). 0 < n) (formed_or q c r s i)
      go i q c (formed x) = tt
      go i true c (malformed p) = omega arith
      go i false c (malformed p) = omega arith

  number-some : Some number
  unfolding number
  number-some = keeps_then (word-step (λ (n p : ℕ). 0 < n) (omega arith)) (λ w u. keeps_then (read_some number_at w) (λ x v. keeps-give tt))

  number-sound : Sound number
  number-sound = record { keeps = λ i. go i (number s i) refl (number-some.keeps i) }
    where
      go : (i : ℕ) (x : Step (Placed Number)) → number s i ≡ x → Has (λ (a : Placed Number). Unit) (λ (n p : ℕ). 0 < n) x
          → Has (λ (a : Placed Number). Unit) (Fault s) x
      go i (got x e) q h = tt
      go i (refused n p) q h =
          record {
            some = h;
            seven = λ e. let t = number-7 s i p (q ∙ ap (λ (k : ℕ). refused k p) e) in Right.number i t.0 t.1;
            twelve = λ e. let t = number-12 s i p (q ∙ ap (λ (k : ℕ). refused k p) e) in record { i = i; from = t.0; comma = t.1 };
          }

  count-some : Some count
  unfolding count
  count-some =
      keeps_then (word-step (λ (n p : ℕ). 0 < n) (omega arith)) (λ w u.
      keeps_then (read_some count_form_at w) (λ n v.
      keeps_then (keeps-check (extent_in n) 1 w.start (omega arith)) (λ o e. keeps-give tt)))

  count-sound : Sound count
  count-sound = record { keeps = λ i. go i (count s i) refl (count-some.keeps i) }
    where
      go : (i : ℕ) (x : Step ℕ) → count s i ≡ x → Has (λ (a : ℕ). Unit) (λ (n p : ℕ). 0 < n) x → Has (λ (a : ℕ). Unit) (Fault s) x
      go i (got x e) q h = tt
      go i (refused n p) q h =
          record {
            some = h;
            seven = λ e. let t = count-7 s i p (q ∙ ap (λ (k : ℕ). refused k p) e) in Right.count i t.0 t.1;
            twelve = λ e. absurd (count-12 s i p (q ∙ ap (λ (k : ℕ). refused k p) e));
          }

  measure-sound : Sound measure
  unfolding measure
  measure-sound =
      joined number-sound (λ x.
      joined (checked (not x.is.fine) 8 x.place refl) (λ u.
      given (record { place = x.place; is = centimetres x.is.minus x.is.size })))

  -- ---- the header

  name-sound : (n : List ℕ) → Sound (name n)
  unfolding name
  name-sound n = joined word_sound (λ w. joined {r = is_named n w} (record { keeps = λ i. tt }) (λ ok. checked ok 6 w.start refl))

  field-sound : {A : Type 0} (n : List ℕ) {r : Reader A} → Sound r → Sound (field n r)
  unfolding field
  field-sound n r = joined (name-sound n) (λ u. r)

  corner-sound : Sound corner
  unfolding corner
  corner-sound = joined number-sound (λ x. joined {r = here} (record { keeps = λ i. tt }) (λ e. given _))

  side-sound : Sound side
  unfolding side
  side-sound = joined measure-sound (λ m. joined (checked (side_in m.is) 3 m.place refl) (λ u. given m.is))

  any-sound : Sound any_measure
  unfolding any_measure
  any-sound = joined measure-sound (λ m. given m.is)

  no-data-sound : Sound no_data
  unfolding no_data
  no-data-sound = record { keeps = λ i. go i (letter_next s i) }
    where
      go : (i : ℕ) (b : Bool)
          → Has (λ (z : ℤ). Unit) (Fault s) (elim b [ true ↦ field (bytes "nodata_value") any_measure s i | false ↦ got absent_no_data i ])
      go i true = (field-sound (bytes "nodata_value") any-sound).keeps i
      go i false = tt

  extent-sound : Sound extent
  unfolding extent
  extent-sound =
      joined (field-sound (bytes "ncols") count-sound) (λ c. joined (field-sound (bytes "nrows") count-sound) (λ r. given (record { rows = r; columns = c })))

  corners-sound : Sound corners
  unfolding corners
  corners-sound =
      joined (field-sound (bytes "xllcorner") corner-sound) (λ x. joined (field-sound (bytes "yllcorner") corner-sound) (λ y. given (record { x = x; y = y })))

  last-sound : (e : Extent) (c : Corners) → Sound (side_and_no_data e c)
  unfolding side_and_no_data
  last-sound e c = joined (field-sound (bytes "cellsize") side-sound) (λ m. joined no-data-sound (λ n. given _))

  head-sound : Sound head
  unfolding head
  head-sound = joined extent-sound (λ e. joined corners-sound (λ c. last-sound e c))

  header-sound : Sound header
  unfolding header
  header-sound = joined head-sound (λ h. given h.header)

  -- ---- the heights and the end

  height-sound : (n : ℤ) → Sound (height n)
  unfolding height
  height-sound n =
      joined measure-sound (λ m.
      joined (checked (same m.is n || height_in m.is) 5 m.place refl) (λ u.
      given (cond (same m.is n) no_data_height m.is)))

  heights-sound : (n : ℤ) (k : ℕ) → Sound (heights n k)
  unfolding heights
  heights-sound n zero = given []
  heights-sound n (suc k) = joined (height-sound n) (λ h. joined (heights-sound n k) (λ hs. given (h ∷ hs)))

  end-sound : Sound end
  unfolding end
  end-sound = record { keeps = λ i. go i (word s i) }
    where
      go : (i : ℕ) (w : Step Word) → Has (λ (u : Unit). Unit) (Fault s) (ended i w)
      go i (got w j) = plain 10 w.start refl
      go i (refused m p) = tt

  body-sound : (h : Header) (k : ℕ) → Sound (body h k)
  unfolding body
  body-sound h k =
      joined (checked (eqb k (h.rows * h.columns)) 2 0 refl) (λ u.
      joined (heights-sound h.no_data k) (λ hs. joined end-sound (λ v. given hs)))

  grid-sound : (k : ℕ) → Sound (grid k)
  unfolding grid
  grid-sound k = joined header-sound (λ h. joined (body-sound h k) (λ hs. given (record { header = h; heights = hs })))

  lone-sound : Sound lone_header
  unfolding lone_header
  lone-sound = joined header-sound (λ h. joined end-sound (λ u. given h))

  -- ---- the calls that read a header: alone in its text, or not

  step-7 : (x : Step Header) → Has (λ (h : Header). Unit) (Fault s) x → (header_outcome x).number ≡ 7 → BreaksIn s (header_outcome x).place
  step-7 (got h i) f e = absurd (omega arith)
  step-7 (refused n p) f e = f.seven e

  step-12 : (x : Step Header) → Has (λ (h : Header). Unit) (Fault s) x → (header_outcome x).number ≡ 12 → CommaIn s (header_outcome x).place
  step-12 (got h i) f e = absurd (omega arith)
  step-12 (refused n p) f e = f.twelve e

  -- no refusal has number 0
  pub header-some : (n p : ℕ) → header s 0 ≡ refused n p → 0 < n
  header-some n p e = (subst (Has (λ (h : Header). Unit) (Fault s)) e (header-sound.keeps 0)).some

  pub lone-some : (n p : ℕ) → lone_header s 0 ≡ refused n p → 0 < n
  lone-some n p e = (subst (Has (λ (h : Header). Unit) (Fault s)) e (lone-sound.keeps 0)).some

  -- refusal 7: a word of the text breaks at the place
  pub header-7 : (header_answer s).number ≡ 7 → BreaksIn s (header_answer s).place
  header-7 e = step-7 (header s 0) (header-sound.keeps 0) e

  pub lone-7 : (lone_header_answer s).number ≡ 7 → BreaksIn s (lone_header_answer s).place
  lone-7 e = step-7 (lone_header s 0) (lone-sound.keeps 0) e

  -- refusal 12: the place is the comma of a comma decimal
  pub header-12 : (header_answer s).number ≡ 12 → CommaIn s (header_answer s).place
  header-12 e = step-12 (header s 0) (header-sound.keeps 0) e

  pub lone-12 : (lone_header_answer s).number ≡ 12 → CommaIn s (lone_header_answer s).place
  lone-12 e = step-12 (lone_header s 0) (lone-sound.keeps 0) e

  -- the same of the call that reads the whole text
  module _ (lent : List ℤ) where
    pub grid-some : (n p : ℕ) → grid (length lent) s 0 ≡ refused n p → 0 < n
    grid-some n p e = (subst (Has (λ (g : Grid). Unit) (Fault s)) e ((grid-sound (length lent)).keeps 0)).some

    pub grid-7 : (grid_answer lent s).answer.number ≡ 7 → BreaksIn s (grid_answer lent s).answer.place
    grid-7 e = go (grid (length lent) s 0) ((grid-sound (length lent)).keeps 0) e
      where
        go : (x : Step Grid) → Has (λ (g : Grid). Unit) (Fault s) x → (grid_outcome lent x).answer.number ≡ 7 → BreaksIn s (grid_outcome lent x).answer.place
        go (got g i) f e = absurd (omega arith)
        go (refused n p) f e = f.seven e

    pub grid-12 : (grid_answer lent s).answer.number ≡ 12 → CommaIn s (grid_answer lent s).answer.place
    grid-12 e = go (grid (length lent) s 0) ((grid-sound (length lent)).keeps 0) e
      where
        go : (x : Step Grid) → Has (λ (g : Grid). Unit) (Fault s) x → (grid_outcome lent x).answer.number ≡ 12 → CommaIn s (grid_outcome lent x).answer.place
        go (got g i) f e = absurd (omega arith)
        go (refused n p) f e = f.twelve e
