-- The readers on a text of which the bytes are known from a place on: blanks, a word, and a blank after it. Assumes nothing.
use mathlib.Core.Path.{◌≡◌, refl, sym, ap, ◌∙◌, subst}
use mathlib.Core.Bool.{Bool, true, false, not, true≢false}
use mathlib.Core.List.{List, [], ◌++◌, append-nil}
use Prim.Native.Nat.{ℕ, ◌+◌, ◌-◌, ◌≤◌, ◌<◌}
use native.Mathlib.Nat.{add-zero}
use native.Mathlib.Decide.{dec_lt}
use native.Mathlib.Omega.{arith}
use borrow.Author.Tests.{not-true}
use lib.ListN.{length, get_or, drop, length-drop, get_or-append}
use lib.Seq.{drop-drop, drop-append_seam, get_or-drop}
use lib.IntN.{ℤ}
use Rattle.text.specs.Bytes.{bytes}
use Rattle.text.specs.Quantities.{extent_in, side_in, height_in, no_data_height}
use Rattle.text.specs.Reader.{Reader, got}
use Rattle.text.specs.Words.{blank, solid, run, word_start, word_end, word}
use Rattle.text.specs.Numbers.{formed, Number, number_at, count_form_at, read, count, number, centimetres, measure}
use Rattle.text.specs.Headers.{named, name, side, letter, field, any_measure, no_data}
use Rattle.text.specs.Heights.{same, height, end}
use Rattle.text.proofs.Ends.{byte-within, first-solid, word-found, word_none}
use Rattle.text.proofs.Every.{every, every-each}
use Rattle.text.proofs.Formed.{number-some, number-solid, count-some, count-solid}
use Rattle.text.proofs.InnerFields.{letter-in, no-data-given}
use Rattle.text.proofs.InnerRuns.{run-stop, run-lower, run-after}
use Rattle.text.proofs.Shifted.{Stands, blank-there, number-stands, count-stands, named-stands}

-- ---- a text that goes on from the place i with the bytes u, and then v

module _ (s : List ℕ) (i : ℕ) where
  byte_past : (u : List ℕ) → drop i s ≡ u → (k : ℕ) → get_or s (i + k) 0 ≡ get_or u k 0
  byte_past u e k = sym (get_or-drop i s k 0) ∙ ap (λ (l : List ℕ). get_or l k 0) e

  byte-first : (u : List ℕ) → drop i s ≡ u → get_or s i 0 ≡ get_or u 0 0
  byte-first u e = rw (add-zero i) at (byte_past u e 0)

module _ (s : List ℕ) (i : ℕ) (u v : List ℕ) (e : drop i s ≡ u ++ v) where
  pub drop_past : drop (i + length u) s ≡ v
  drop_past = sym (drop-drop (length u) i s) ∙ ap (drop (length u)) e ∙ drop-append_seam u v

  byte-in : (k : ℕ) → k < length u → get_or s (i + k) 0 ≡ get_or u k 0
  byte-in k l = byte_past s i (u ++ v) e k ∙ get_or-append u v 0 k l

  passes-in : (q : ℕ → Bool) → every q u ≡ true → (k : ℕ) → i ≤ k → k < i + length u → q (get_or s k 0) ≡ true
  passes-in q a k l h =
      let z : i + (k - i) ≡ k = omega arith in
      let y : k - i < length u = omega arith in
      subst (λ (j : ℕ). q (get_or s j 0) ≡ true) z (ap q (byte-in (k - i) y) ∙ every-each q u a (k - i) y)

  -- bytes that pass the test, up to one that fails it
  run_past : (q : ℕ → Bool) → every q u ≡ true → i + length u < length s → q (get_or v 0 0) ≡ false → run q s i (length s - i) ≡ i + length u
  run_past q a h f =
      run-after q s i (length s) (i + length u) (omega arith) (omega arith) (passes-in q a)
      ∙ run-stop q s (i + length u) _ (ap q (byte-first s (i + length u) v drop_past) ∙ f)

-- From the place i on stand the blanks `before`, the bytes of a word, w, and the rest of the text, which begins with a blank.
pub record Ahead (s : List ℕ) (i : ℕ) (before w rest : List ℕ) : Type 0 where
  pub text : drop i s ≡ before ++ (w ++ rest)
  pub blanks : every blank before ≡ true
  pub parted : blank (get_or rest 0 0) ≡ true

module _ {s : List ℕ} {i : ℕ} {before w rest : List ℕ} (h : Ahead s i before w rest) where
  from-word : drop (i + length before) s ≡ w ++ rest
  from-word = drop_past s i before (w ++ rest) h.text

  -- what stands ahead once the word is read
  pub ahead_past : drop (i + length before + length w) s ≡ rest
  ahead_past = drop_past s (i + length before) w rest from-word

  parted-at : blank (get_or s (i + length before + length w) 0) ≡ true
  parted-at = ap blank (byte-first s (i + length before + length w) rest ahead_past) ∙ h.parted

  pub ahead_within : i + length before + length w < length s
  ahead_within = byte-within s (i + length before + length w) (λ z. true≢false (sym parted-at ∙ ap blank z))

  pub ahead-stands : Stands s (i + length before) w
  ahead-stands = record { each = byte-in s (i + length before) w rest from-word; stops = blank-there parted-at }

  -- ---- the word

  module _ (some : 0 < length w) (all : every solid w ≡ true) where
    word_first : get_or (w ++ rest) 0 0 ≡ get_or w 0 0
    word_first = get_or-append w rest 0 0 some

    starts : word_start s i ≡ i + length before
    unfolding word_start
    starts =
        run_past s i before (w ++ rest) h.text blank h.blanks (omega (arith, ahead_within))
        (ap blank word_first ∙ not-true (blank (get_or w 0 0)) (every-each solid w all 0 some))

    ends : word_end s (i + length before) ≡ i + length before + length w
    unfolding word_end
    ends = run_past s (i + length before) w rest from-word solid all ahead_within (ap not h.parted)

    pub word-ahead : word s i ≡ got (record { start = i + length before; end = i + length before + length w }) (i + length before + length w)
    word-ahead = rw (word-found s i (i + length before) (sym starts) (omega (arith, ahead_within)), ends)

    -- ---- names

    module _ (n : List ℕ) (is : named w 0 (length w) n ≡ true) where
      pub name-ahead : name n s i ≡ got tt (i + length before + length w)
      unfolding name
      name-ahead = rw (word-ahead, named-stands ahead-stands n is)

      pub field-ahead : {A : Type 0} (r : Reader A) → field n r s i ≡ r s (i + length before + length w)
      unfolding field
      field-ahead r = rw name-ahead

    pub no-data-ahead : letter (get_or w 0 0) ≡ true → no_data s i ≡ field (bytes "nodata_value") any_measure s i
    no-data-ahead l =
        sym (no-data-given s i (sym (letter-in s i (i + length before) true (sym starts) (omega (arith, ahead_within))
        (sym (ap letter (byte-first s (i + length before) (w ++ rest) from-word ∙ word_first) ∙ l)))))

  -- ---- counts

  pub count-ahead : {n : ℕ} → count_form_at w 0 (length w) ≡ formed n → extent_in n ≡ true → count s i ≡ got n (i + length before + length w)
  unfolding count read
  count-ahead e k = rw (word-ahead (count-some w e) (count-solid w e), count-stands ahead-stands e, k)

  -- ---- numbers

  module _ {x : Number} (e : number_at w 0 (length w) ≡ formed x) where
    pub number-ahead : number s i ≡ got (record { place = i + length before; is = x }) (i + length before + length w)
    unfolding number read
    number-ahead = rw (word-ahead (number-some w e) (number-solid w e), number-stands ahead-stands e)

    module _ (f : x.fine ≡ false) where
      pub measure-ahead : measure s i ≡ got (record { place = i + length before; is = centimetres x.minus x.size }) (i + length before + length w)
      unfolding measure
      measure-ahead = rw (number-ahead, f)

      pub any-measure-ahead : any_measure s i ≡ got (centimetres x.minus x.size) (i + length before + length w)
      unfolding any_measure
      any-measure-ahead = rw measure-ahead

      pub side-ahead : side_in (centimetres x.minus x.size) ≡ true → side s i ≡ got (centimetres x.minus x.size) (i + length before + length w)
      unfolding side
      side-ahead k = rw (measure-ahead, k)

      module _ (n : ℤ) where
        pub height-none-ahead : same (centimetres x.minus x.size) n ≡ true → height n s i ≡ got no_data_height (i + length before + length w)
        unfolding height
        height-none-ahead k = rw (measure-ahead, k)

        pub height-ahead : same (centimetres x.minus x.size) n ≡ false → height_in (centimetres x.minus x.size) ≡ true
            → height n s i ≡ got (centimetres x.minus x.size) (i + length before + length w)
        unfolding height
        height-ahead k l = rw (measure-ahead, k, l)

-- ---- the end: only blanks are left

module _ (s : List ℕ) (i : ℕ) (u : List ℕ) (e : drop i s ≡ u) (blanks : every blank u ≡ true) where
  no_word : length s ≤ word_start s i
  unfolding word_start
  no_word =
      let a = word_start s i in
      elim (dec_lt a (length s)) [
        | yes l ↦
            let low : i ≤ a = run-lower blank s i (length s - i) in
            let z = passes-in s i u [] (e ∙ sym (append-nil u)) blank blanks a low (omega (arith, length-drop i s, ap length e)) in
            absurd (true≢false (sym (first-solid s i a refl l) ∙ ap not z))
        | no f ↦ omega arith
      ]

  pub end-ahead : end s i ≡ got tt i
  unfolding end
  end-ahead = rw (word_none s i (word_start s i) refl no_word)
