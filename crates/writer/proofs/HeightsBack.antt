-- Words that are read as heights are so in a text: word by word, each with the byte after it, up to the text's end. Assumes nothing.
use mathlib.Core.Path.{◌≡◌, refl, ap}
use mathlib.Core.Bool.{Bool, true, false, cond}
use mathlib.Core.List.{List, [], ◌∷◌, map}
use Prim.Native.Nat.{ℕ, suc, ◌+◌, ◌*◌, ◌<◌}
use native.Mathlib.Omega.{arith}
use borrow.Author.Tests.{eq-eqb}
use lib.Dec.{eqb}
use lib.IntN.{ℤ}
use lib.ListN.{length, get_or, drop}
use Rattle.text.specs.Quantities.{no_data_height}
use Rattle.text.specs.Reader.{got}
use Rattle.text.specs.Words.{blank}
use Rattle.text.specs.Headers.{Header}
use Rattle.text.specs.Heights.{heights, body}
use Rattle.text.proofs.Pieces.{Ahead, ahead_past, end-ahead}
use Rattle.writer.specs.InnerCells.{gap_of, column_after, cells_from}
use Rattle.writer.proofs.WordsBack.{ReadAs}

-- the byte between two words is a blank
gap-blank : (columns c : ℕ) → blank (gap_of columns c) ≡ true
unfolding gap_of
gap-blank columns c = go (eqb (c + 1) columns)
  where
    go : (t : Bool) → blank (cond t 10 32) ≡ true
    go true = refl
    go false = refl

-- each word is read as the height beside it
pub data EachReadAs : List (List ℕ) → List ℤ → Type 0 where
  none : EachReadAs [] []
  more : {w : List ℕ} {h : ℤ} {ws : List (List ℕ)} {hs : List ℤ} → ReadAs w h → EachReadAs ws hs → EachReadAs (w ∷ ws) (h ∷ hs)

pub as_many : {ws : List (List ℕ)} {hs : List ℤ} → EachReadAs ws hs → length ws ≡ length hs
as_many none = refl
as_many (more r l) = ap suc (as_many l)

-- the words of cells, each of which is read as its height
pub each_read : {A : Type 0} (word : A → List ℕ) (value : A → ℤ) (d : A) (cells : List A)
    → ((k : ℕ) → k < length cells → ReadAs (word (get_or cells k d)) (value (get_or cells k d))) → EachReadAs (map word cells) (map value cells)
each_read word value d [] h = none
each_read word value d (c ∷ cells) h = more (h 0 (omega arith)) (each_read word value d cells (λ k l. h (suc k) (omega arith)))

-- the heights hs are read from the place i on, and one blank is left
pub record HeightsRead (s : List ℕ) (i : ℕ) (hs : List ℤ) : Type 0 where
  pub end : ℕ
  pub read : heights no_data_height (length hs) s i ≡ got hs end
  pub last : ℕ
  pub left : drop end s ≡ last ∷ []
  pub parted : blank last ≡ true

module _ (columns : ℕ) (s : List ℕ) where
  pub words_back : {ws : List (List ℕ)} {hs : List ℤ} → EachReadAs ws hs → (c i b : ℕ) → blank b ≡ true → drop i s ≡ b ∷ cells_from columns c ws
      → HeightsRead s i hs
  unfolding heights cells_from
  words_back none c i b p e = record { end = i; read = refl; last = b; left = e; parted = p }
  words_back (more {w} {h} {ws} {hs} r l) c i b p e =
      let next = column_after columns c in
      let after = gap_of columns c ∷ cells_from columns next ws in
      let word : Ahead s i (b ∷ []) w after = record { text = e; blanks = rw p; parted = gap-blank columns c } in
      let one = r s i (b ∷ []) after word in
      let rest = words_back l next (i + 1 + length w) (gap_of columns c) (gap-blank columns c) (ahead_past word) in
      record { end = rest.end; read = rw (one, rest.read); last = rest.last; left = rest.left; parted = rest.parted }

  -- all that follows the header
  pub body_back : (h : Header) (ws : List (List ℕ)) (hs : List ℤ) (i : ℕ) → h.no_data ≡ no_data_height → length hs ≡ h.rows * h.columns
      → EachReadAs ws hs → drop i s ≡ 10 ∷ cells_from columns 0 ws → (e : ℕ) × (body h (length hs) s i ≡ got hs e)
  unfolding body
  body_back h ws hs i n k l t =
      let r = words_back l 0 i 10 refl t in
      (r.end, rw (eq-eqb (length hs) (h.rows * h.columns) k, n, r.read, end-ahead s r.end (r.last ∷ []) r.left (rw r.parted)))
