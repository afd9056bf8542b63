-- Laws of the cells one after the other, for the loops over a grid of any numbers; w is the word of a number. Assumes nothing.
use mathlib.Core.Path.{◌≡◌, refl, sym, ap, ◌∙◌, subst}
use mathlib.Core.List.{List, [], ◌∷◌, ◌++◌, map}
use Prim.Native.Nat.{ℕ, ◌+◌, ◌*◌, ◌≤◌, ◌<◌}
use native.Mathlib.Numerals.{add-one}
use native.Mathlib.Omega.{arith}
use lib.ListN.{length, get_or, drop, length-append, drop_of_length-le}
use lib.Seq.{drop-cons, append_snoc}
use Rattle.numerals.specs.Writing.{overlay, Wrote}
use Rattle.numerals.proofs.Writing.{wrote-byte, wrote_then, Left, left-more, left-all}
use Rattle.writer.specs.InnerCells.{gap_of, column_after, cells_from, bytes_of}

-- they have as many bytes as the words with one more for each, whatever the columns are
pub cells-length : (columns c : ℕ) (words : List (List ℕ)) → length (cells_from columns c words) ≡ bytes_of words
unfolding cells_from bytes_of
cells-length columns c [] = refl
cells-length columns c (w ∷ ws) =
    omega (arith, length-append w (gap_of columns c ∷ cells_from columns (column_after columns c) ws), cells-length columns (column_after columns c) ws)

module _ {A : Type 0} (w : A → List ℕ) (cells : List A) where
  -- the words from the cell e at x on, of which the next is the first
  words-from : (x : ℕ) (e : A) → x < length cells → e ≡ get_or cells x e → map w (drop x cells) ≡ w e ∷ map w (drop (x + 1) cells)
  words-from x e h i =
      ap (map w) (drop-cons cells x e h) ∙ ap (λ (k : ℕ). w (get_or cells x e) ∷ map w (drop k cells)) (sym (add-one x))
      ∙ ap (λ (y : A). w y ∷ map w (drop (x + 1) cells)) (sym i)

  words-none : (x : ℕ) → length cells ≤ x → map w (drop x cells) ≡ []
  words-none x h = ap (map w) (drop_of_length-le cells {i = x} h)

  -- counting bytes: `total` before the cell x
  pub record Counted (x total : ℕ) : Type 0 where
    pub all : total + bytes_of (map w (drop x cells)) ≡ bytes_of (map w cells)
    pub few : total ≤ 27 * x
    pub within : x ≤ length cells

  -- writing: the words from the cell x on, which stands in the column c, are left
  pub record Along (columns : ℕ) (room : List ℕ) (at : ℕ) (now : List ℕ) (next c x : ℕ) : Type 0 where
    pub left : Left room at (cells_from columns 0 (map w cells)) now next (cells_from columns c (map w (drop x cells)))
    pub column : c + 1 ≤ columns
    pub within : x ≤ length cells

-- ---- the next cell, and the end

module _ {A : Type 0} {w : A → List ℕ} {cells : List A} where
  module _ {x total : ℕ} (c : Counted w cells x total) where
    pub counted-more : (e : A) → x < length cells → e ≡ get_or cells x e → (n : ℕ) → n ≡ length (w e) → n ≤ 26
        → Counted w cells (x + 1) (total + (n + 1))
    unfolding bytes_of
    counted-more e h i n l m =
        record { all = omega (arith, c.all, l, ap bytes_of (words-from w cells x e h i)); few = omega (arith, c.few); within = omega arith }

    pub counted-all : length cells ≤ x → total ≡ bytes_of (map w cells)
    unfolding bytes_of
    counted-all h = omega (arith, c.all, ap bytes_of (words-none w cells x h))

  module _ {columns : ℕ} {room : List ℕ} {at : ℕ} {now : List ℕ} {next c x : ℕ} (a : Along w cells columns room at now next c x) where
    -- all cells, and what follows the next one
    abbrev whole : List ℕ
    whole = cells_from columns 0 (map w cells)

    abbrev rest : ℕ → List ℕ
    rest j = cells_from columns j (map w (drop (x + 1) cells))

    module _ (e : A) (h : x < length cells) (i : e ≡ get_or cells x e) where
      -- the next word with the byte after it
      abbrev cell : List ℕ
      cell = w e ++ (gap_of columns c ∷ [])

      cells_are : cells_from columns c (map w (drop x cells)) ≡ cell ++ rest (column_after columns c)
      unfolding cells_from
      cells_are =
          ap (cells_from columns c) (words-from w cells x e h i) ∙ sym (append_snoc (w e) (gap_of columns c) (rest (column_after columns c)))

      -- it has place in the room
      pub along-fits : at + bytes_of (map w cells) ≤ length room → next + length (w e) + 1 ≤ length now
      unfolding bytes_of
      along-fits f =
          omega (
            arith,
            f,
            a.left.ends,
            a.left.long,
            cells-length columns 0 (map w cells),
            cells-length columns c (map w (drop x cells)),
            ap bytes_of (words-from w cells x e h i),
          )

      pub along-more : {mid then : List ℕ} {end b k : ℕ} → Wrote now next (w e) end mid → then ≡ overlay mid end (b ∷ [])
          → b ≡ gap_of columns c → k ≡ column_after columns c → k + 1 ≤ columns → Along w cells columns room at then (end + 1) k (x + 1)
      along-more {mid} {then} {end} p l eb ek f =
          let byte = wrote-byte end (gap_of columns c) (l ∙ ap (λ (g : ℕ). overlay mid end (g ∷ [])) eb) in
          let cut = subst (λ (t : List ℕ). Left room at whole now next t) cells_are a.left in
          let gone = left-more room at whole cell (rest (column_after columns c)) cut (wrote_then {a = w e} p byte) in
          record { left = subst (λ (j : ℕ). Left room at whole then (end + 1) (rest j)) (sym ek) gone; column = f; within = omega arith }

    pub along-all : length cells ≤ x → Wrote room at whole next now
    unfolding cells_from
    along-all h =
        left-all room at whole (subst (λ (ws : List (List ℕ)). Left room at whole now next (cells_from columns c ws)) (words-none w cells x h) a.left)
