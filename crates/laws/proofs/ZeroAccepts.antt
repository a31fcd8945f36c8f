-- Is the number of an answer 0 exactly where the call accepted? For each call's definition, since no refusal has the
-- number 0 (Refusals).
use Prim.Native.Nat.{ℕ}
use mathlib.Core.Path.{◌≡◌, refl}
use mathlib.Core.Bool.{true}
use mathlib.Core.List.{List}
use Rattle.definitions.specs.Table.{Table, Outcome, refused, accepted}
use Rattle.definitions.specs.Accepts.{number_of, Accepted, Tells}
use Rattle.definitions.specs.File.{file, reading}
use Rattle.definitions.specs.Normal.{normalising}
use Rattle.definitions.specs.Evaluate.{evaluating, evaluating_known, judging}
use Rattle.definitions.specs.Write.{writing}
use Rattle.definitions.specs.House.{listing_table}
use Rattle.definitions.specs.Values.{valuing}
use Rattle.definitions.specs.declared.Refusal.{Refusal}
use Rattle.definitions.specs.declared.Options.{Options}
use Rattle.definitions.specs.declared.Mode.{Mode}
use Rattle.definitions.proofs.Truths.{never}
use Rattle.laws.proofs.Refusals.{in_outcome, file-in, reading-in, normalising-in, evaluating-in, evaluating-known-in}
use Rattle.laws.proofs.Refusals.{judging-in}
use Rattle.laws.proofs.Refusals.{valuing-in, writing-in, listing-in}

refused-tells : {A : Type 0} (r : Refusal) → in_outcome {A = A} (refused r) ≡ true → Tells {A = A} r.number (refused r)
unfolding in_outcome
refused-tells {A} r h = record { of_zero = λ e. zero e; of-accepted = λ x. taken x }
  where
    zero : r.number ≡ 0 → Accepted {A = A} (refused r)
    zero e = let q = rw e at h in never cc

    taken : Accepted {A = A} (refused r) → r.number ≡ 0
    taken x = let q = x.is in never cc

number-tells : {A : Type 0} (x : Outcome A) → in_outcome x ≡ true → Tells (number_of x) x
number-tells (refused r) h = refused-tells r h
number-tells (accepted a) h = record { of_zero = λ e. record { found = a; is = refl }; of-accepted = λ x. refl }

pub file-tells : (o : Options) (s : List ℕ) → Tells (number_of (file o s)) (file o s)
file-tells o s = number-tells (file o s) (file-in o s)

pub reading-tells : (o : Options) (s : List ℕ) (t : Table) → Tells (number_of (reading o s t)) (reading o s t)
reading-tells o s t = number-tells (reading o s t) (reading-in o s t)

pub normalising-tells : (t o : Table) → Tells (number_of (normalising t o)) (normalising t o)
normalising-tells t o = number-tells (normalising t o) (normalising-in t o)

pub evaluating-tells : (t : Table) (i : ℕ) (ws : List ℕ) → Tells (number_of (evaluating t i ws)) (evaluating t i ws)
evaluating-tells t i ws = number-tells (evaluating t i ws) (evaluating-in t i ws)

pub evaluating-known-tells : (t : Table) (i : ℕ) (ws ks : List ℕ) → Tells (number_of (evaluating_known t i ws ks)) (evaluating_known t i ws ks)
evaluating-known-tells t i ws ks = number-tells (evaluating_known t i ws ks) (evaluating-known-in t i ws ks)

pub judging-tells : (t : Table) (i : ℕ) (ws ks : List ℕ) → Tells (number_of (judging t i ws ks)) (judging t i ws ks)
judging-tells t i ws ks = number-tells (judging t i ws ks) (judging-in t i ws ks)

pub valuing-tells : (s : List ℕ) (n : ℕ) (ws ks : List ℕ) → Tells (number_of (valuing s n ws ks)) (valuing s n ws ks)
valuing-tells s n ws ks = number-tells (valuing s n ws ks) (valuing-in s n ws ks)

pub writing-tells : (m : Mode) (t : Table) (text : List ℕ) (room : ℕ) → Tells (number_of (writing m t text room)) (writing m t text room)
writing-tells m t text room = number-tells (writing m t text room) (writing-in m t text room)

pub listing-tells : (first n : ℕ) (t : Table) (room : ℕ) → Tells (number_of (listing_table first n t room)) (listing_table first n t room)
listing-tells first n t room = number-tells (listing_table first n t room) (listing-in first n t room)
