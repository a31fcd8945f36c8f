-- A sum's walk that measures: where it stands, with the length of the fields of the terms before it.
use Prim.Native.Nat.{ℕ, ◌+◌, ◌≤◌, ◌<◌}
use mathlib.Core.Path.{◌≡◌, refl, ap, ◌∙◌}
use mathlib.Core.List.{List, [], ◌∷◌}
use native.Mathlib.Omega.{arith}
use lib.ListN.{length, drop, length-drop, length-append}
use lib.Seq.{drop-drop}
use Rattle.definitions.specs.declared.Refusal.{Refusal}
use Rattle.definitions.specs.Lists.{joined}
use Rattle.definitions.specs.Refusal.{refuse, accept, needed}
use Rattle.definitions.specs.Walk.{stop, bad, item}
use Rattle.definitions.specs.Row.{Term}
use Rattle.definitions.specs.Text.{term_step}
use Rattle.definitions.specs.House.{term_fields}
use Rattle.definitions.specs.declared.Options.{Options}
use Rattle.definitions.proofs.Statements.{term-moves}
use Rattle.laws.proofs.Puts.{needed-add}
use Rattle.definitions.proofs.Truths.{never}
use Rattle.sums.specs.Met.{met_terms}
use Rattle.sums.proofs.MetTerms.{met-stop, met-bad, met-item}
use Rattle.house_lengths.specs.Lengths.{term_length}
use Rattle.listing_lengths.specs.Measure.{fields_length}
use Rattle.listing_lengths.proofs.Numbered.{read_length}

abbrev bytes_of : ℕ → List Term → ℕ
bytes_of first ts = length (joined (term_fields first) ts)

bytes-more : (first : ℕ) (t : Term) (ts : List Term) → bytes_of first (t ∷ ts) ≡ length (term_fields first t) + bytes_of first ts
unfolding joined
bytes-more first t ts = length-append (term_fields first t) (joined (term_fields first) ts)

-- at an offset: the length of the fields of the terms before it
pub record SumSized (o : Options) (s : List ℕ) (at total : ℕ) : Type 0 where
  pub before : ℕ
  pub within : at ≤ length s
  pub split : bytes_of o.first (met_terms o s) ≡ before + bytes_of o.first (met_terms o (drop at s))
  pub sized : total ≡ needed before

module _ (o : Options) (s : List ℕ) where
  pub sum-start : SumSized o s 0 0
  unfolding needed
  sum-start = record { before = 0; within = omega arith; split = omega arith; sized = refl }

  module _ (at total : ℕ) (w : SumSized o s at total) where
    -- no term follows
    none-follow : met_terms o (drop at s) ≡ [] → total ≡ fields_length o.first (met_terms o s)
    unfolding joined
    none-follow e = w.sized ∙ ap needed (omega (arith, w.split, ap (bytes_of o.first) e))

    pub sum-stop : term_step o (drop at s) ≡ stop → total ≡ fields_length o.first (met_terms o s)
    sum-stop e = none-follow (met-stop (term_step o) (drop at s) e)

    pub sum-bad : (r : Refusal) → term_step o (drop at s) ≡ bad r → total ≡ fields_length o.first (met_terms o s)
    sum-bad r e = none-follow (met-bad (term_step o) (drop at s) r e)

    module _ (t : Term) (n : ℕ) (e : term_step o (drop at s) ≡ item t n) where
      pub term-within : at + n ≤ length s
      term-within = omega (arith, (term-moves o).most (drop at s) t n e, length-drop at s, w.within)

      pub term-byte : 0 < n
      term-byte = (term-moves o).least (drop at s) t n e

      pub term-known {ℓ} : {X : Type ℓ} → refuse 5 ≡ term_length o.first t → X
      term-known q =
          let c : refuse 5 ≡ accept (length (term_fields o.first t)) = q ∙ read_length o (drop at s) t n e in
          never (cc)

      behind : bytes_of o.first (met_terms o (drop at s)) ≡ length (term_fields o.first t) + bytes_of o.first
          (met_terms o (drop (at + n) s))
      behind =
          ap (bytes_of o.first) (met-item (term_step o) (term-moves o) (drop at s) t n e)
          ∙ bytes-more o.first t (met_terms o (drop n (drop at s)))
          ∙ ap (λ (x : List ℕ). length (term_fields o.first t) + bytes_of o.first (met_terms o x)) (drop-drop n at s)

      pub sum-term : (m r : ℕ) → accept m ≡ term_length o.first t → r ≡ needed (total + m) → SumSized o s (at + n) r
      sum-term m r q f =
          let c : accept m ≡ accept (length (term_fields o.first t)) = q ∙ read_length o (drop at s) t n e in
          let l : m ≡ length (term_fields o.first t) = cc in
          record {
            before = w.before + m;
            within = term-within;
            split = omega (arith, w.split, behind, l);
            sized = f ∙ ap (λ (x : ℕ). needed (x + m)) w.sized ∙ needed-add w.before m;
          }
