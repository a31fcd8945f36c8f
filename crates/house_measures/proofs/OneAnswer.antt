-- Two answers that the contract of `measure_rows` allows are equal.
use Rattle.std.specs.Prelude.{ℕ, Result, Ok, Err}
use mathlib.Core.Path.{◌≡◌, sym, ap, ◌∙◌}
use Rattle.definitions.specs.declared.Refusal.{Refusal}
use Rattle.definitions.proofs.Truths.{never}
use Rattle.house_measures.specs.declared.rows.Size.{Size}
use Rattle.house_measures.specs.Sizes.{Sizes, said_measured}
use Rattle.house_measures.proofs.rows.measure_rows.Reads as measure-rows

pub measured-known : (r r' : Result (ℕ × Size) Refusal) → said_measured r ≡ said_measured r' → r ≡ r'
measured-known (Ok (n, s)) (Ok (m, t)) e =
    let z : ◌≡◌ {A = Sizes} (record { rows = n; all = s }) (record { rows = m; all = t }) = cc in
    let p : n ≡ m = ap (λ (x : Sizes). x.rows) z in
    let q : s ≡ t = ap (λ (x : Sizes). x.all) z in
    cc
measured-known (Ok p) (Err r') e = never (cc)
measured-known (Err r) (Ok p) e = never (cc)
measured-known (Err r) (Err r') e = cc

pub measure-rows-one : (κs : _) (a : _) (r r' : _) (s s' : _) → measure-rows.Post κs a r s → measure-rows.Post κs a r' s' → r ≡ r'
measure-rows-one κs a r r' s s' p q = measured-known r r' (p ∙ sym q)
