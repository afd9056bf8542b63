-- A header that is accepted has sizes in range: what a reader gives is carried through its steps. Assumes nothing.
use mathlib.Core.Path.{◌≡◌, refl, sym, ap, ◌∙◌}
use mathlib.Core.Bool.{true, true≢false}
use mathlib.Core.List.{List}
use Prim.Native.Nat.{ℕ, ◌≤◌, ◌<◌}
use native.Mathlib.Omega.{arith}
use borrow.Author.Tests.{leb-true}
use lib.Dec.{leb}
use Rattle.laws.proofs.Tests.{and_both}
use Rattle.text.specs.Reader.{Step, Reader, got, refused}
use Rattle.text.specs.Quantities.{extent_in}
use Rattle.text.specs.Bytes.{bytes}
use Rattle.text.specs.Words.{word}
use Rattle.text.specs.Numbers.{count_form_at, read, count}
use Rattle.text.specs.Headers.{Extent, Header, Head, name, side, field, no_data, extent, corners, side_and_no_data, head, header}
use Rattle.text.specs.Heights.{end, lone_header}
use Rattle.text.specs.Answers.{Outcome, accepted, refusal, header_outcome, header_answer, lone_header_answer}
use Rattle.text.specs.declared.Corners.{Corners}
use Rattle.text.proofs.Calls.{lone-some}
use Rattle.text.proofs.Carried.{Has, Keeps, keeps-any, keeps-give, keeps-check, keeps_then}

-- sizes in range
record SizesIn (rows columns : ℕ) : Type 0 where
  rows_in : extent_in rows ≡ true
  columns-in : extent_in columns ≡ true

module _ (s : List ℕ) where
  -- what a reader gives has P
  abbrev Gives : {A : Type 0} → (A → Type 0) → Reader A → Type 0
  Gives P r = Keeps s P (λ (n p : ℕ). Unit) r

  count-in : (n : List ℕ) → Gives (λ (k : ℕ). extent_in k ≡ true) (field n count)
  unfolding field count
  count-in n =
      keeps_then (keeps-any (name n)) (λ u o.
      keeps_then (keeps-any word) (λ w p.
      keeps_then (keeps-any (read count_form_at w)) (λ k q. keeps_then (keeps-check (extent_in k) 1 w.start tt) (λ v h. keeps-give h))))

  extent-in : Gives (λ (e : Extent). SizesIn e.rows e.columns) extent
  unfolding extent
  extent-in =
      keeps_then (count-in (bytes "ncols")) (λ c hc. keeps_then (count-in (bytes "nrows")) (λ r hr. keeps-give (record { rows_in = hr; columns-in = hc })))

  rest_in : (e : Extent) (c : Corners) → SizesIn e.rows e.columns → Gives (λ (h : Head). SizesIn h.header.rows h.header.columns) (side_and_no_data e c)
  unfolding side_and_no_data
  rest_in e c h = keeps_then (keeps-any (field (bytes "cellsize") side)) (λ m o. keeps_then (keeps-any no_data) (λ n p. keeps-give h))

  header-in : Gives (λ (h : Header). SizesIn h.rows h.columns) header
  unfolding header head
  header-in = keeps_then (keeps_then extent-in (λ e h. keeps_then (keeps-any corners) (λ c o. rest_in e c h))) (λ x h. keeps-give h)

  lone-in : Gives (λ (h : Header). SizesIn h.rows h.columns) lone_header
  unfolding lone_header
  lone-in = keeps_then header-in (λ h z. keeps_then (keeps-any end) (λ u o. keeps-give z))

few : (n : ℕ) → extent_in n ≡ true → n ≤ 1024
few n h = leb-true n 1024 (and_both (leb 1 n) (leb n 1024) h).1

-- an answer has at most 1,024 rows and columns
abbrev pub FewIn : Outcome → Type 0
FewIn o = (o.rows ≤ 1024) × (o.columns ≤ 1024)

few-in : (t : Step Header) → Has (λ (h : Header). SizesIn h.rows h.columns) (λ (n p : ℕ). Unit) t → FewIn (header_outcome t)
few-in (got h i) z = (few h.rows z.rows_in, few h.columns z.columns-in)
few-in (refused n p) z = (omega arith, omega arith)

pub header-few : (s : List ℕ) → FewIn (header_answer s)
header-few s = few-in (header s 0) ((header-in s).keeps 0)

pub lone-few : (s : List ℕ) → FewIn (lone_header_answer s)
lone-few s = few-in (lone_header s 0) ((lone-in s).keeps 0)

-- ---- the answer of a header that stands alone tells how it was read

-- a refusal has no rows, and a header that is read has some
pub lone-refused : (s : List ℕ) (n p : ℕ) → refusal n p ≡ lone_header_answer s → lone_header s 0 ≡ refused n p
lone-refused s n p = go (lone_header s 0) ((lone-in s).keeps 0)
  where
    go : (t : Step Header) → Has (λ (h : Header). SizesIn h.rows h.columns) (λ (n p : ℕ). Unit) t → refusal n p ≡ header_outcome t → t ≡ refused n p
    go (got h i) z e = absurd (true≢false (sym z.rows_in ∙ sym (ap (λ (o : Outcome). extent_in o.rows) e)))
    go (refused m q) z e = sym (ap (λ (o : Outcome). refused o.number o.place) e)

-- no refusal has number 0
pub lone-accepted : (s : List ℕ) (h : Header) → accepted h ≡ lone_header_answer s → (i : ℕ) × (lone_header s 0 ≡ got h i)
lone-accepted s h = go (lone_header s 0) (lone-some s)
  where
    header_of : Outcome → Header
    header_of o = record { rows = o.rows; columns = o.columns; side = o.side; no_data = o.no_data }

    go : (t : Step Header) → ((n p : ℕ) → t ≡ refused n p → 0 < n) → accepted h ≡ header_outcome t → (i : ℕ) × (t ≡ got h i)
    go (got k i) z e = (i, sym (ap (λ (o : Outcome). got (header_of o) i) e))
    go (refused m q) z e = absurd (zero-not (ap (λ (o : Outcome). o.number) e) (z m q refl))
      where
        zero-not : 0 ≡ m → 0 < m → ⊥
        zero-not e l = omega arith
