-- The first conflict, found window by window: a conflict of a literal depends only on what was said of its own
-- variable, so that each window of variables has a walk of its own.
use Rattle.std.specs.Prelude.{ℕ, ◌+◌, ◌-◌, ◌*◌, ◌<◌, min, ◌≡◌, Bool, true, false, cond, not, ◌&&◌, ◌||◌, List, [], ◌∷◌, ◌++◌, leb, ltb, Option}
use Rattle.std.specs.Bool.{then_some}
use Rattle.definitions.specs.Limits.{index_limit}
use Rattle.definitions.specs.Literal.{index_of, opposite}
use Rattle.definitions.specs.Meaning.{is_true, assigned, is_known}
use Rattle.definitions.specs.Values.{conflicts, bit_made}
use Rattle.settling.specs.Flat.{Placed}
use Rattle.heard.specs.declared.conflicts.Window.{Window}
use Rattle.heard.specs.declared.conflicts.Met.{Met}
use Rattle.heard.specs.declared.conflicts.Met.TheVariants as met

-- how many variables a window has
abbrev pub window_size : ℕ
window_size = 1_048_576

-- the place of the first conflict, or `end` where there is none
unfoldable pub conflict_at : List ℕ → List ℕ → List ℕ → ℕ → List Placed → ℕ
conflict_at ws ks heard end [] = end
conflict_at ws ks heard end (x ∷ xs) =
    elim (conflicts ws ks heard x.code) [ true ↦ x.place | false ↦ conflict_at ws ks (heard ++ (x.code ∷ [])) end xs ]

-- the place of the first conflict before `end`, if there is one
abbrev pub conflict_before : List ℕ → List ℕ → ℕ → List Placed → Option ℕ
conflict_before ws ks end xs = then_some (ltb (conflict_at ws ks [] end xs) end) (conflict_at ws ks [] end xs)

-- those whose variable the test holds for
unfoldable pub only : (ℕ → Bool) → List Placed → List Placed
only t [] = []
only t (x ∷ xs) = elim (t (index_of x.code)) [ true ↦ x ∷ only t xs | false ↦ only t xs ]

-- a variable of the window that begins at base
abbrev pub in_window : ℕ → ℕ → Bool
in_window base v = leb base v && ltb v (base + window_size)

abbrev pub below : ℕ → ℕ → Bool
below base v = ltb v base

-- the least variable from n on, or one more than the limit
unfoldable pub least_from : ℕ → List Placed → ℕ
least_from n [] = index_limit + 1
least_from n (x ∷ xs) = cond (leb n (index_of x.code)) (min (index_of x.code) (least_from n xs)) (least_from n xs)

-- the answer of the walk for one window
abbrev pub window_of : List ℕ → List ℕ → ℕ → ℕ → List Placed → Window
window_of ws ks end base xs = record { place = conflict_at ws ks [] end (only (in_window base) xs); next = least_from (base + window_size) xs }

-- every place lies before `end`
abbrev pub PlacesBelow : ℕ → List Placed → Type 0
PlacesBelow end [] = Unit {0}
PlacesBelow end (x ∷ xs) = (x.place < end) × PlacesBelow end xs

-- ---- one literal c in the walk for the window that begins at base; the marks have a bit for each literal of the
-- window, by its code

-- how many words they take, 64 bits each
abbrev pub marks_size : ℕ
marks_size = 32_768

abbrev pub mark_of : ℕ → ℕ → ℕ
mark_of base c = c - 2 * base

-- no literal is marked
abbrev pub Unmarked : List ℕ → Type 0
Unmarked marks = (u : ℕ) → assigned marks u ≡ false

-- known otherwise, or the opposite literal is marked
unfoldable pub clashes : List ℕ → List ℕ → List ℕ → ℕ → ℕ → Bool
clashes ws ks marks base c = (is_known ws ks (index_of c) && not (is_true (assigned ws) c)) || assigned marks (mark_of base (opposite c))

unfoldable pub meet_of : List ℕ → List ℕ → List ℕ → ℕ → ℕ → Met
meet_of ws ks marks base c =
    cond (ltb (index_of c) base) met.Before
    (cond (leb (base + window_size) (index_of c)) (met.Behind (index_of c))
    (cond (clashes ws ks marks base c) met.Conflict met.Marked))

-- the marks behind it
abbrev pub marked_by : Met → ℕ → ℕ → List ℕ → List ℕ
marked_by met.Before base c marks = marks
marked_by (met.Behind v) base c marks = marks
marked_by met.Conflict base c marks = marks
marked_by met.Marked base c marks = bit_made true (mark_of base c) marks

-- the answer so far behind it, where it stands at the place p
abbrev pub noted : Met → ℕ → Window → Window
noted met.Before p w = w
noted (met.Behind v) p w = record { place = w.place; next = min w.next v }
noted met.Conflict p w = record { place = min w.place p; next = w.next }
noted met.Marked p w = w
