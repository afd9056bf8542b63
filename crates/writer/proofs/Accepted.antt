-- What is known of a frame, and of heights and directions, that are not refused. Assumes nothing.
use mathlib.Core.Path.{◌≡◌, refl, sym, subst}
use mathlib.Core.Bool.{true, true≢false}
use mathlib.Core.List.{List, [], ◌∷◌, ◌++◌}
use Prim.Native.Nat.{ℕ, ◌+◌, ◌*◌, ◌≤◌, ◌<◌}
use native.Mathlib.Omega.{arith}
use lib.IntN.{ℤ}
use lib.ListN.{length, get_or}
use Rattle.laws.specs.Tests.{passed, verdict}
use Rattle.laws.proofs.Verdicts.{test-passed, verdict-passed, verdict-parts}
use Rattle.text.specs.Quantities.{no_data_height}
use Rattle.text.specs.Numbers.{Form, formed, malformed, Number, number_at, is_formed, is_number}
use Rattle.text.specs.Ranges.{size_accepted, side_accepted, height_accepted, height_test}
use Rattle.text.specs.Right.{Sign, plain, minus, Decimals, none, point, RightNumber}
use Rattle.text.proofs.Right.{is_right}
use Rattle.text.proofs.Accepted.{size-passed, length-passed, side-passed, height-passed}
use Rattle.writer.specs.Text.{Frame, text_of}
use Rattle.writer.specs.Answers.{corner_test, room_test, frame_tests, height_cells, number_cells, direction_cells, judged}
use Rattle.writer.specs.Rooms.{EachBelow}

-- a word of the right form
abbrev pub NumberWord : List ℕ → Type 0
NumberWord w = is_number w ≡ true

pub word-formed : (w : List ℕ) → NumberWord w → (x : Number) × (number_at w 0 (length w) ≡ formed x)
unfolding is_number
word-formed w = go (number_at w 0 (length w))
  where
    go : (t : Form Number) → is_formed t ≡ true → (x : Number) × (t ≡ formed x)
    go (formed x) e = (x, refl)
    go (malformed p) e = absurd (true≢false (sym e))

-- shape, cell side and corner words are accepted
pub record FrameAccepted (f : Frame) : Type 0 where
  pub rows : size_accepted f.rows ≡ true
  pub columns : size_accepted f.columns ≡ true
  pub side : side_accepted f.side ≡ true
  pub x : NumberWord f.x
  pub y : NumberWord f.y

-- each height is accepted
abbrev pub EachAccepted : List ℤ → Type 0
EachAccepted hs = (x : ℕ) → x < length hs → height_accepted (get_or hs x no_data_height) ≡ true

-- so are the heights, and there is one for each cell
pub record HeightsAccepted (f : Frame) (hs : List ℤ) : Type 0 where
  pub frame : FrameAccepted f
  pub cells : length hs ≡ f.rows * f.columns
  pub each : EachAccepted hs

-- directions are bytes, each of which is accepted, and there is one for each cell
pub record DirectionsAccepted (f : Frame) (directions : List ℕ) : Type 0 where
  pub frame : FrameAccepted f
  pub cells : length directions ≡ f.rows * f.columns
  pub each : EachBelow 256 directions

corner-passed : (place : ℕ) (w : List ℕ) → corner_test place w ≡ passed → NumberWord w
unfolding corner_test
corner-passed place w e = test-passed (is_number w) 7 place e

-- a corner word has at most a minus, nine digits, a point and six digits
pub corner-short : (w : List ℕ) → NumberWord w → length w ≤ 17
corner-short w e = go (is_right w e)
  where
    sign : {b : ℕ} → Sign w b → b ≤ 1
    sign plain = omega arith
    sign (minus q) = omega arith

    rest : {b d : ℕ} → b ≤ 1 → d ≤ b + 9 → Decimals w d → length w ≤ 17
    rest l f (none q) = omega arith
    rest l f (point q g u) = omega arith

    go : RightNumber w → length w ≤ 17
    go r = rest (sign r.sign) r.few r.decimals

-- the tests of a frame are passed
module _ (f : Frame) (n : ℕ) (e : verdict (frame_tests f n) ≡ passed) where
  pub frame-accepted : FrameAccepted f × (n ≡ f.rows * f.columns)
  unfolding frame_tests
  frame-accepted =
      let cells = f.rows * f.columns in
      let size = verdict-passed _ _ e in
      let long = verdict-passed _ _ size.1 in
      let side = verdict-passed _ _ long.1 in
      let x = verdict-passed _ _ side.1 in
      let y = verdict-passed _ _ x.1 in
      let sizes = size-passed f.rows f.columns size.0 in (
        record {
          rows = sizes.0;
          columns = sizes.1;
          side = side-passed f.side side.0;
          x = corner-passed 1 f.x x.0;
          y = corner-passed 2 f.y y.0;
        },
        (length-passed cells n [] long.0).0,
      )

-- a call that writes heights, and is not refused
module _ (f : Frame) (hs : List ℤ) (room : List ℕ) where
  pub heights-accepted : judged f (height_cells f hs) room ≡ passed → HeightsAccepted f hs
  unfolding judged height_cells
  heights-accepted e =
      let n = f.rows * f.columns in
      let rest = room_test (text_of f (height_cells f hs).words) room ∷ [] in
      let p = verdict-parts (frame_tests f (length hs)) (height_test n hs ∷ []) (verdict-parts (frame_tests f (length hs) ++ (height_test n hs ∷ [])) rest e).0 in
      let w = frame-accepted f (length hs) p.0 in
      let each = height-passed n hs (verdict-passed (height_test n hs) [] p.1).0 in
      record { frame = w.0; cells = w.1; each = λ x l. each x (subst (λ (k : ℕ). x < k) w.1 l) }

-- a call that writes directions, and is not refused
module _ (f : Frame) (directions room : List ℕ) where
  pub directions-accepted : judged f (direction_cells directions) room ≡ passed → EachBelow 256 directions → DirectionsAccepted f directions
  unfolding judged direction_cells number_cells
  directions-accepted e each =
      let rest = room_test (text_of f (direction_cells directions).words) room ∷ [] in
      let w = frame-accepted f (length directions) (verdict-parts (frame_tests f (length directions)) rest e).0 in
      record { frame = w.0; cells = w.1; each = each }
