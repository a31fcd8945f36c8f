-- The search of a block, window by window: the first conflict of the variables below the next window.
use Prim.Native.Nat.{ℕ, zero, suc, ◌+◌, ◌-◌, ◌/◌, ◌%◌, ◌^◌, ◌≤◌, ◌<◌, min}
use mathlib.Core.Path.{◌≡◌, refl, sym, ap, ◌∙◌}
use mathlib.Core.Bool.{Bool}
use mathlib.Core.List.{List, []}
use native.Mathlib.Nat.{zero-div}
use native.Mathlib.Omega.{arith}
use lib.ListN.{get_or, replicate}
use Rattle.definitions.specs.Limits.{index_limit}
use Rattle.definitions.specs.Meaning.{assigned}
use Rattle.definitions.specs.Values.{front, items_from}
use Rattle.settling.specs.Flat.{Placed, said_by}
use Rattle.heard.specs.Windows.{window_size, conflict_at, least_from, window_of, PlacesBelow, Unmarked}
use Rattle.heard.specs.declared.conflicts.Window.{Window}
use Rattle.heard.proofs.Split.{Ascending, Known, first_below, windows-start, windows-step, windows-end, least-is}
use Rattle.heard.proofs.Places.{orderly_from}

-- words of zeros have no mark
zeros-at : (n i : ℕ) → ◌≡◌ {A = ℕ} (get_or (replicate n 0) i 0) 0
zeros-at zero i = refl
zeros-at (suc n) zero = refl
zeros-at (suc n) (suc i) = zeros-at n i

pub zeros-unmarked : (n : ℕ) → Unmarked (replicate n 0)
unfolding assigned
zeros-unmarked n u = rw (zeros-at n (u / 64), zero-div (2 ^ (u % 64)))

module _ (named : Bool) (ws ks block : List ℕ) (end : ℕ) where
  abbrev all : List Placed
  all = said_by named (items_from front 0 block)

  -- the first conflict of the variables below base
  abbrev pub Searched : ℕ → ℕ → Type 0
  Searched base found = found ≡ first_below ws ks end all base

  pub searched-start : Searched 0 end
  searched-start = windows-start ws ks end all

  module _ (b : PlacesBelow end all) (base found : ℕ) (s : Searched base found) where
    ascending : Ascending 0 all
    ascending = (orderly_from named front block 0 (omega arith)).ascending

    known : Known all
    known = (orderly_from named front block 0 (omega arith)).known

    pub searched-end : index_limit < base → found ≡ conflict_at ws ks [] end all
    searched-end h = s ∙ windows-end ws ks end all ascending b known base h

    module _ (h : base ≤ index_limit) (w : Window) (e : w ≡ window_of ws ks end base all) where
      next-is : w.next ≡ least_from (base + window_size) all
      next-is = ap (λ (x : Window). x.next) e

      pub searched-less : index_limit + 1 - w.next < index_limit + 1 - base
      searched-less = omega (arith, next-is, (least-is (base + window_size) all).least)

      pub searched-on : (found' : ℕ) → found' ≡ min found w.place → Searched w.next found'
      searched-on found' q =
          q
          ∙ ap (min found) (ap (λ (x : Window). x.place) e)
          ∙ ap (λ (n : ℕ). min n (window_of ws ks end base all).place) s
          ∙ windows-step ws ks end all ascending b known base h
          ∙ ap (first_below ws ks end all) (sym next-is)
