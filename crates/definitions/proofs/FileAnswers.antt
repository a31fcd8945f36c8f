-- What does an answer of `file` say of the statements in it? All of them were found, or one was refused, within the
-- limit on the length.
use Prim.Native.Nat.{ℕ, ◌≤◌, ◌<◌}
use mathlib.Core.Path.{◌≡◌, refl, ◌∙◌, ap}
use mathlib.Core.Bool.{Bool, true, false, cond}
use mathlib.Core.Logic.{◌⊎◌, inl, inr}
use mathlib.Core.List.{List}
use borrow.Author.Tests.{leb-true, leb-false}
use lib.Dec.{leb}
use lib.ListN.{length}
use Rattle.definitions.specs.Limits.{file_limit}
use Rattle.definitions.specs.Refusal.{Refusal, refusal}
use Rattle.definitions.specs.Walk.{Walked, broken, items}
use Rattle.definitions.specs.Row.{Line}
use Rattle.definitions.specs.Table.{refused, accepted}
use Rattle.definitions.specs.File.{lines_of, statements, file}
use Rattle.definitions.specs.declared.Options.{Options}
use Rattle.definitions.proofs.Truths.{never}

module _ (o : Options) (s : List ℕ) where
  pub record Found (ls : List Line) : Type 0 where
    pub within : length s ≤ file_limit
    pub end : ℕ
    pub found : statements o s ≡ items ls end

  pub file-accepted : (ls : List Line) → file o s ≡ accepted ls → Found ls
  unfolding file
  file-accepted ls e = by (leb (length s) file_limit) refl (statements o s) refl e
    where
      by : (b : Bool) → leb (length s) file_limit ≡ b → (w : Walked Line) → statements o s ≡ w
          → cond b (lines_of w) (refused (refusal 1 0)) ≡ accepted ls → Found ls
      by true p (broken r) h q = never cc
      by true p (items xs n) h q =
          let z : xs ≡ ls = cc in
          record { within = leb-true (length s) file_limit p; end = n; found = h ∙ ap (λ (l : List Line). items l n) z }
      by false p w h q = never cc

  pub file-refused : (r : Refusal) → file o s ≡ refused r → ((file_limit < length s) × (r ≡ refusal 1 0)) ⊎ (statements o s ≡ broken r)
  unfolding file
  file-refused r e = by (leb (length s) file_limit) refl (statements o s) refl e
    where
      by : (b : Bool) → leb (length s) file_limit ≡ b → (w : Walked Line) → statements o s ≡ w
          → cond b (lines_of w) (refused (refusal 1 0)) ≡ refused r
          → ((file_limit < length s) × (r ≡ refusal 1 0)) ⊎ (statements o s ≡ broken r)
      by true p (broken x) h q = inr (let z : x ≡ r = cc in h ∙ ap broken z)
      by true p (items xs n) h q = never cc
      by false p w h q = inl (leb-false (length s) file_limit p, cc)
