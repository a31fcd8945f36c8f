-- The walk for one window: the marks are the literals heard of the window, each with the bit of its code; the answer so
-- far and what is left give the answer of the whole.
use Prim.Native.Nat.{ℕ, ◌+◌, ◌*◌, ◌≤◌, ◌<◌, min}
use mathlib.Core.Path.{◌≡◌, refl, sym, ap, ◌∙◌}
use mathlib.Core.Bool.{Bool, true, false, cond, not, ◌&&◌, ◌||◌}
use mathlib.Core.List.{List, [], ◌∷◌, ◌++◌}
use native.Mathlib.Omega.{arith}
use borrow.Author.Tests.{ltb-true, ltb-false, leb-true, leb-false, eqb-true, eqb-false, eq-eqb, ne_eqb, lt-ltb, le-ltb, le-leb, lt-leb}
use lib.Dec.{leb, ltb, eqb}
use lib.ListN.{length, drop}
use Rattle.definitions.specs.Limits.{index_limit}
use Rattle.definitions.specs.Literal.{index_of, opposite}
use Rattle.definitions.specs.Meaning.{is_true, assigned, is_known}
use Rattle.definitions.specs.Values.{front, items_from, among, conflicts, bit_made}
use Rattle.settling.specs.Flat.{Placed, placed, said_by}
use Rattle.items.specs.Items.{spot_of, on_from}
use Rattle.heard.specs.Windows.{window_size, conflict_at, only, in_window, least_from, window_of, PlacesBelow, marks_size, mark_of}
use Rattle.heard.specs.Windows.{Unmarked, clashes, meet_of, marked_by, noted}
use Rattle.heard.specs.declared.conflicts.Window.{Window}
use Rattle.heard.specs.declared.conflicts.Met.{Met}
use Rattle.heard.specs.declared.conflicts.Met.TheVariants as met
use Rattle.bits.proofs.Bits.{bit-made, length-made}
use Rattle.heard.proofs.Split.{conflict-here, conflict-later, only-in, only_out, opposite-index, among-snoc, Ascending}
use Rattle.heard.proofs.Split.{conflict-from, conflict-within, window-in, window-before, window-behind, least-here, least_on}
use Rattle.heard.proofs.Split.{least-is}
use Rattle.heard.proofs.Places.{orderly_from}
use Rattle.settling.proofs.TokenSteps.{ends, refuses, says, step_of, ends-step, refuses-step, says-step}

-- the mark of each literal of the window says whether it was heard
abbrev pub Marks : ℕ → List ℕ → List ℕ → Type 0
Marks base marks heard = (c : ℕ) → in_window base (index_of c) ≡ true → assigned marks (mark_of base c) ≡ among c heard

-- ---- one more mark

window-bounds : (base v : ℕ) → in_window base v ≡ true → (base ≤ v) × (v < base + window_size)
window-bounds base v e = both (leb base v) refl e
  where
    both : (r : Bool) → leb base v ≡ r → r && ltb v (base + window_size) ≡ true → (base ≤ v) × (v < base + window_size)
    both true p q = (leb-true base v p, ltb-true v (base + window_size) q)
    both false p q = absurd (let z : ◌≡◌ {A = ℕ} 0 1 = cc in omega arith)

-- two literals of the window have one mark if they are one
same-mark : (base c d : ℕ) → 2 * base ≤ c → 2 * base ≤ d → eqb (mark_of base d) (mark_of base c) ≡ eqb c d
same-mark base c d h k = cases (eqb c d) refl
  where
    cases : (r : Bool) → eqb c d ≡ r → eqb (mark_of base d) (mark_of base c) ≡ r
    cases true e = eq-eqb (mark_of base d) (mark_of base c) (omega (arith, eqb-true c d e))
    cases false e = ne_eqb (mark_of base d) (mark_of base c) (λ q. eqb-false c d e (omega (arith, q)))

or-cond : (a b : Bool) → cond a true b ≡ b || a
or-cond true true = refl
or-cond true false = refl
or-cond false true = refl
or-cond false false = refl

marks-more : (base : ℕ) (marks heard : List ℕ) (c : ℕ) → length marks ≡ marks_size → in_window base (index_of c) ≡ true
    → Marks base marks heard
    → Marks base (bit_made true (mark_of base c) marks) (heard ++ (c ∷ []))
marks-more base marks heard c s i m d j =
    let p = window-bounds base (index_of c) i in
    let q = window-bounds base (index_of d) j in
    bit-made true (mark_of base c) (mark_of base d) marks (omega (arith, p, s))
    ∙ rw (same-mark base c d (omega (arith, p)) (omega (arith, q)), m d j, among-snoc d heard c) (or-cond (eqb c d) (among d heard))

clashes-heard : (ws ks marks heard : List ℕ) (base c : ℕ) → in_window base (index_of c) ≡ true → Marks base marks heard
    → clashes ws ks marks base c ≡ conflicts ws ks heard c
unfolding clashes conflicts
clashes-heard ws ks marks heard base c i m = rw (m (opposite c) (ap (in_window base) (opposite-index c) ∙ i))

-- ---- one literal, as the code looks at it

module _ (ws ks marks : List ℕ) (base c : ℕ) where
  -- known otherwise
  abbrev otherwise : Bool
  otherwise = is_known ws ks (index_of c) && not (is_true (assigned ws) c)

  pub clash-otherwise : otherwise ≡ true → true ≡ clashes ws ks marks base c
  unfolding clashes
  clash-otherwise e = rw e

  pub clash-marked : otherwise ≡ false → assigned marks (mark_of base (opposite c)) ≡ clashes ws ks marks base c
  unfolding clashes
  clash-marked e = rw e

  pub met-before : index_of c < base → meet_of ws ks marks base c ≡ met.Before
  unfolding meet_of
  met-before h = rw (lt-ltb (index_of c) base h)

  pub met-behind : base + window_size ≤ index_of c → meet_of ws ks marks base c ≡ met.Behind (index_of c)
  unfolding meet_of
  met-behind h = rw (le-ltb (index_of c) base (omega arith), le-leb (base + window_size) (index_of c) h)

  pub met-conflict : base ≤ index_of c → index_of c < base + window_size → clashes ws ks marks base c ≡ true
      → meet_of ws ks marks base c ≡ met.Conflict
  unfolding meet_of
  met-conflict h k e = rw (le-ltb (index_of c) base h, lt-leb (base + window_size) (index_of c) k, e)

  pub met-marked : base ≤ index_of c → index_of c < base + window_size → clashes ws ks marks base c ≡ false
      → meet_of ws ks marks base c ≡ met.Marked
  unfolding meet_of
  met-marked h k e = rw (le-ltb (index_of c) base h, lt-leb (base + window_size) (index_of c) k, e)

pub note-behind : (m : Met) (v p n : ℕ) (w : Window) → m ≡ met.Behind v → n ≡ min w.next v → ◌≡◌ {A = Window} (record {
  place = w.place;
  next = n;
}) (noted m p w)
note-behind m v p n w e q = rw (e, q)

pub note-conflict : (m : Met) (p n : ℕ) (w : Window) → m ≡ met.Conflict → n ≡ min w.place p → ◌≡◌ {A = Window} (record {
  place = n;
  next = w.next;
}) (noted m p w)
note-conflict m p n w e q = rw (e, q)

-- ---- the walk over literals

-- with the answer w and the marks so far, and the literals that are left
pub record Marking (ws ks : List ℕ) (end base : ℕ) (all : List Placed) (marks : List ℕ) (w : Window) (rest : List Placed) : Type 0 where
  pub heard : List ℕ
  pub size : length marks ≡ marks_size
  pub bits : Marks base marks heard
  pub below : PlacesBelow end rest
  pub within : w.place ≤ end
  pub limited : w.next ≤ index_limit + 1
  pub place : conflict_at ws ks [] end (only (in_window base) all) ≡ min w.place (conflict_at ws ks heard end (only (in_window base) rest))
  pub next : least_from (base + window_size) all ≡ min w.next (least_from (base + window_size) rest)

abbrev pub at_first : ℕ → Window
at_first end = record { place = end; next = index_limit + 1 }

module _ (ws ks : List ℕ) (end base : ℕ) (all : List Placed) where
  pub marking-start : (marks : List ℕ) → length marks ≡ marks_size → Unmarked marks → PlacesBelow end all
      → Marking ws ks end base all marks (at_first end) all
  unfolding among
  marking-start marks s u b =
      record {
        heard = [];
        size = s;
        bits = λ c i. u (mark_of base c);
        below = b;
        within = omega arith;
        limited = omega arith;
        place = omega (arith, conflict-within ws ks end (in_window base) all b []);
        next = omega (arith, (least-is (base + window_size) all).greatest);
      }

  pub marking-end : (marks : List ℕ) (w : Window) → Marking ws ks end base all marks w [] → w ≡ window_of ws ks end base all
  unfolding conflict_at only least_from
  marking-end marks w m =
      let p : conflict_at ws ks [] end (only (in_window base) all) ≡ w.place = omega (arith, m.place, m.within) in
      let q : least_from (base + window_size) all ≡ w.next = omega (arith, m.next, m.limited) in
      λ i. record { place = sym p i; next = sym q i }

  -- one literal more, at the place p
  module _ (marks : List ℕ) (w : Window) (p c : ℕ) (rest : List Placed)
      (m : Marking ws ks end base all marks w (placed p c ∷ rest)) (a : Ascending (p + 1) rest) where
    abbrev Goes : Met → Type 0
    Goes r = Marking ws ks end base all (marked_by r base c marks) (noted r p w) rest

    goes_before : index_of c < base → Goes met.Before
    goes_before h =
        record {
          heard = m.heard;
          size = m.size;
          bits = m.bits;
          below = m.below.1;
          within = m.within;
          limited = m.limited;
          place = rw (only_out (in_window base) (placed p c) rest (window-before base (index_of c) h)) at m.place;
          next = rw (least_on (base + window_size) (placed p c) rest (omega arith)) at m.next;
        }

    goes-behind : base + window_size ≤ index_of c → Goes (met.Behind (index_of c))
    goes-behind h =
        record {
          heard = m.heard;
          size = m.size;
          bits = m.bits;
          below = m.below.1;
          within = m.within;
          limited = omega (arith, m.limited);
          place = rw (only_out (in_window base) (placed p c) rest (window-behind base (index_of c) h)) at m.place;
          next = omega (arith, m.next, least-here (base + window_size) (placed p c) rest h);
        }

    module _ (h : base ≤ index_of c) (k : index_of c < base + window_size) where
      inside : in_window base (index_of c) ≡ true
      inside = window-in base (index_of c) h k

      goes-conflict : conflicts ws ks m.heard c ≡ true → Goes met.Conflict
      goes-conflict e =
          record {
            heard = m.heard;
            size = m.size;
            bits = m.bits;
            below = m.below.1;
            within = omega (arith, m.within);
            limited = m.limited;
            place =
                omega (
                  arith,
                  m.place,
                  ap (conflict_at ws ks m.heard end) (only-in (in_window base) (placed p c) rest inside),
                  conflict-here ws ks m.heard end (placed p c) (only (in_window base) rest) e,
                  conflict-from ws ks end (p + 1) (in_window base) rest (omega (arith, m.below.0)) a m.below.1 m.heard,
                );
            next = rw (least_on (base + window_size) (placed p c) rest k) at m.next;
          }

      goes-marked : conflicts ws ks m.heard c ≡ false → Goes met.Marked
      goes-marked e =
          record {
            heard = m.heard ++ (c ∷ []);
            size = length-made true (mark_of base c) marks ∙ m.size;
            bits = marks-more base marks m.heard c m.size inside m.bits;
            below = m.below.1;
            within = m.within;
            limited = m.limited;
            place =
                rw (
                  only-in (in_window base) (placed p c) rest inside,
                  conflict-later ws ks m.heard end (placed p c) (only (in_window base) rest) e,
                ) at m.place;
            next = rw (least_on (base + window_size) (placed p c) rest k) at m.next;
          }

      goes-inside : (r : Bool) → clashes ws ks marks base c ≡ r → Goes (meet_of ws ks marks base c)
      goes-inside true e =
          rw (met-conflict ws ks marks base c h k e)
          (goes-conflict (sym (clashes-heard ws ks marks m.heard base c inside m.bits) ∙ e))
      goes-inside false e =
          rw (met-marked ws ks marks base c h k e) (goes-marked (sym (clashes-heard ws ks marks m.heard base c inside m.bits) ∙ e))

    goes-from : base ≤ index_of c → (r : Bool) → leb (base + window_size) (index_of c) ≡ r → Goes (meet_of ws ks marks base c)
    goes-from h true e = let k = leb-true (base + window_size) (index_of c) e in rw (met-behind ws ks marks base c k) (goes-behind k)
    goes-from h false e = goes-inside h (leb-false (base + window_size) (index_of c) e) (clashes ws ks marks base c) refl

    goes_at : (r : Bool) → ltb (index_of c) base ≡ r → Goes (meet_of ws ks marks base c)
    goes_at true e = let h = ltb-true (index_of c) base e in rw (met-before ws ks marks base c h) (goes_before h)
    goes_at false e = goes-from (ltb-false (index_of c) base e) (leb (base + window_size) (index_of c)) refl

    pub marking_step : Goes (meet_of ws ks marks base c)
    marking_step = goes_at (ltb (index_of c) base) refl

-- ---- the walk over a block

-- the walk stands at an offset, which is at a line's front or not
pub record Walk (named : Bool) (ws ks block : List ℕ) (end base : ℕ) (marks : List ℕ) (w : Window) (at : ℕ) (opens : Bool) : Type 0 where
  pub inside : at ≤ length block
  pub marking : Marking ws ks end base (said_by named (items_from front 0 block)) marks w
      (said_by named (items_from (spot_of opens) at (drop at block)))

module _ (named : Bool) (ws ks block : List ℕ) (end base : ℕ) where
  pub walk_start : (marks : List ℕ) → length marks ≡ marks_size → Unmarked marks → PlacesBelow end (said_by named (items_from front 0 block))
      → Walk named ws ks block end base marks (at_first end) 0 true
  walk_start marks s u b = record {
    inside = omega arith;
    marking = marking-start ws ks end base (said_by named (items_from front 0 block)) marks s u b;
  }

  module _ (marks : List ℕ) (w : Window) (at : ℕ) (opens : Bool) (k : Walk named ws ks block end base marks w at opens) where
    abbrev all : List Placed
    all = said_by named (items_from front 0 block)

    abbrev rest : List Placed
    rest = said_by named (items_from (spot_of opens) at (drop at block))

    pub walk_ends : ends ≡ step_of named (items_from (spot_of opens) at (drop at block)) → w ≡ window_of ws ks end base all
    walk_ends e =
        marking-end ws ks end base all marks w
        (rw (ends-step named (items_from (spot_of opens) at (drop at block)) (sym e)).0 at k.marking)

    pub walk-refuses : (n p : ℕ) → refuses n p ≡ step_of named (items_from (spot_of opens) at (drop at block))
        → w ≡ window_of ws ks end base all
    walk-refuses n p e =
        marking-end ws ks end base all marks w
        (rw (refuses-step named (items_from (spot_of opens) at (drop at block)) n p (sym e)).0 at k.marking)

    pub walk-nothing : (p e : ℕ) → e ≤ length block
        → says p [] (on_from block e) ≡ step_of named (items_from (spot_of opens) at (drop at block))
        → Walk named ws ks block end base marks w e false
    walk-nothing p e h q =
        record {
          inside = h;
          marking = rw (says-step named (items_from (spot_of opens) at (drop at block)) p [] (on_from block e) (sym q)).0 at k.marking;
        }

    walk-says : (p e c : ℕ) → e ≤ length block
        → says p (c ∷ []) (on_from block e) ≡ step_of named (items_from (spot_of opens) at (drop at block))
        → Walk named ws ks block end base (marked_by (meet_of ws ks marks base c) base c marks)
        (noted (meet_of ws ks marks base c) p w) e false
    walk-says p e c h q =
        let t = (says-step named (items_from (spot_of opens) at (drop at block)) p (c ∷ []) (on_from block e) (sym q)).0 in
        let a : Ascending at (placed p c ∷ said_by named (on_from block e)) =
        rw t at (orderly_from named (spot_of opens) block at k.inside).ascending in
        record {
          inside = h;
          marking = marking_step ws ks end base all marks w p c (said_by named (on_from block e)) (rw t at k.marking) a.1;
        }

    -- as the code goes on, by its own answers
    pub walk-on : (p e c : ℕ) (r : Met) (marks' : List ℕ) (w' : Window)
        → r ≡ meet_of ws ks marks base c
        → marks' ≡ marked_by r base c marks
        → w' ≡ noted r p w
        → e ≤ length block
        → says p (c ∷ []) (on_from block e) ≡ step_of named (items_from (spot_of opens) at (drop at block))
        → Walk named ws ks block end base marks' w' e false
    walk-on p e c r marks' w' i j l h q = rw (l, j, i) (walk-says p e c h q)
